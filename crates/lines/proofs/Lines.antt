-- The pieces of a line behind one another, and how long they are.
-- Rests on Writing and Digits of crate writing, and on Text of crate lists.
use Prim.Native.Nat.{ℕ, suc, ◌+◌, ◌≤◌, ◌<◌}
use mathlib.Core.List.{List, [], ◌∷◌, map, flat_map}
use native.Mathlib.Omega.{arith}
use native.Mathlib.Numerals.{add-one}
use lib.ListN.{length, get_or, drop, drop_of_length-le}
use lib.Seq.{drop-cons}
use Rattle.reach.specs.declared.Refusal.{Refusal}
use Rattle.reach.specs.declared.Counts.{Counts}
use Rattle.reach.specs.declared.Verdict.{Verdict}
use Rattle.reach.specs.declared.Verdict.TheVariants.{Found, Undecided, None}
use Rattle.reach.specs.Words.{number_of, verdict_word}
use Rattle.reach.specs.declared.Kind.{Kind}
use Rattle.reach.specs.declared.Kind.TheVariants.{RE, UN, MI}
use Rattle.reach.specs.Search.{verdict_by}
use Rattle.lists.specs.Share.{share}
use Rattle.lists.specs.Text.{space, line_feed, spaced, line_from, decimal, kind_word, part_word, line_saying, total_with, total_line, refusal_line}
use Rattle.writing.specs.declared.Page.{Page}
use Rattle.writing.specs.Writing.{Puts}
use Rattle.writing.proofs.Writing.{puts_none, puts_then, Left, left_next, left_none}
use Rattle.writing.proofs.Digits.{decimal_few, part_few}

-- The parameters of an entry, byte by byte.
module _ (ps : List ℕ) (i : ℕ) {p q : Page} {whole : List ℕ} where
  pub parts_next : {r : Page} → Left p whole q (spaced (map part_word (drop i ps))) → i < length ps
      → Puts q (space ∷ part_word (get_or ps i 0)) r → Left p whole r (spaced (map part_word (drop (i + 1) ps)))
  unfolding spaced flat_map
  parts_next l h w =
      rw add-one
      (left_next {a = space ∷ part_word (get_or ps i 0)} {b = spaced (map part_word (drop (suc i) ps))} (rw (drop-cons ps i 0 h) at l) w)

  pub parts_done : Left p whole q (spaced (map part_word (drop i ps))) → length ps ≤ i → Puts p whole q
  unfolding spaced flat_map
  parts_done l h = left_none (rw (drop_of_length-le ps h) at l)

-- The line of an entry: its kind, its steps, its parameters, a line feed.
module _ {a b c d e : Page} where
  pub line_put : (k : Kind) (s : ℕ) (ps : List ℕ) → Puts a (kind_word k) b → Puts b (space ∷ decimal s) c
      → Puts c (spaced (map part_word ps)) d → Puts d (line_feed ∷ []) e
      → Puts a (line_saying (record { kind = k; steps = s; parameters = ps })) e
  unfolding line_saying line_from spaced flat_map
  line_put k s ps kind steps parts end = puts_then kind (puts_then (puts_then steps parts) end)

-- The total line: the word, the three counts, the share, the verdict, a line feed.
module _ {a b c d e f g h : Page} where
  pub total_put : (n : Counts) → Puts a (0x74 ∷ 0x6f ∷ 0x74 ∷ 0x61 ∷ 0x6c ∷ []) b → Puts b (space ∷ decimal n.reach) c
      → Puts c (space ∷ decimal n.unfinished) d → Puts d (space ∷ decimal n.missing) e
      → Puts e (space ∷ decimal (share n.reach n.unfinished)) f
      → Puts f (space ∷ verdict_word (verdict_by n)) g → Puts g (line_feed ∷ []) h → Puts a (total_line n) h
  unfolding total_line total_with line_from spaced flat_map
  total_put n word one two three four five end =
      puts_then word (puts_then (puts_then one (puts_then two (puts_then three (puts_then four (puts_then five (puts_none g)))))) end)

-- The line of a refusal: the word, the number, a line feed.
module _ {a b c d : Page} where
  pub refusal_put : (why : Refusal) → Puts a (0x72 ∷ 0x65 ∷ 0x66 ∷ 0x75 ∷ 0x73 ∷ 0x65 ∷ 0x64 ∷ []) b
      → Puts b (space ∷ decimal (number_of why)) c → Puts c (line_feed ∷ []) d → Puts a (refusal_line why) d
  unfolding refusal_line line_from spaced flat_map
  refusal_put why word number end = puts_then word (puts_then (puts_then number (puts_none c)) end)

-- How long they are, and where they end.

pub kind_few : (k : Kind) → length (kind_word k) ≤ 10
unfolding kind_word
kind_few RE = omega arith
kind_few UN = omega arith
kind_few MI = omega arith

pub verdict_few : (v : Verdict) → length (verdict_word v) ≤ 9
verdict_few Found = omega arith
verdict_few Undecided = omega arith
verdict_few None = omega arith

module _ {p q : Page} where
  pub number_end : (n : ℕ) → Puts p (space ∷ decimal n) q → q.at ≤ p.at + (n + 2)
  number_end n w = omega (arith, w.place, decimal_few n)

  pub part_end : (b : ℕ) → b < 256 → Puts p (space ∷ part_word b) q → q.at ≤ p.at + 257
  part_end b h w = omega (arith, w.place, part_few b h)

  pub kind_end : (k : Kind) → Puts p (kind_word k) q → q.at ≤ p.at + 10
  kind_end k w = omega (arith, w.place, kind_few k)

  pub verdict_end : (v : Verdict) → Puts p (space ∷ verdict_word v) q → q.at ≤ p.at + 10
  verdict_end v w = omega (arith, w.place, verdict_few v)
