-- How long the text of a list is: at most four times the list, and a last line, which is no longer than the text of an empty list may be.
-- Rests on specs/Bound and Walk, on writing's Digits and lines' Lines, and on Text of crate lists.
use Prim.Native.Nat.{ℕ, zero, suc, ◌+◌, ◌*◌, ◌-◌, ◌≤◌, ◌<◌}
use mathlib.Core.Path.{◌≡◌, refl, sym, ap, subst}
use mathlib.Core.Bool.{Bool, true, false}
use mathlib.Core.List.{List, [], ◌∷◌, map, flat_map}
use mathlib.Core.Option.{Option, none, some}
use native.Mathlib.Omega.{arith}
use lib.ListN.{length, get_or, take, drop, length-append, length-take, length-drop, get_or-eq_default}
use lib.Seq.{get_or-take, get_or-drop}
use lib.Dec.{ltb, eqb}
use borrow.Author.Tests.{ltb-true, ltb-false}
use Rattle.reach.specs.declared.Refusal.{Refusal}
use Rattle.reach.specs.declared.Refusal.TheVariants.{ListFull}
use Rattle.reach.specs.Base.{pick}
use Rattle.reach.specs.Limits.{list_limit}
use Rattle.reach.specs.Words.{number_of, verdict_word}
use Rattle.reach.specs.Places.{word_at}
use Rattle.reach.specs.declared.Kind.{Kind}
use Rattle.reach.specs.declared.Counts.{Counts}
use Rattle.reach.specs.Lists.{on_found, kind_at, entry_size, Decoded, decoded, decoded_from}
use Rattle.reach.specs.Search.{one_more, count_from, counts, verdict_by}
use Rattle.lists.specs.Share.{share}
use Rattle.lists.specs.Text.{spaced, line_from, decimal, kind_word, part_word, line_saying, total_with, total_line, refusal_line, last_line, text_of, list_text}
use Rattle.lists.proofs.ReadBack.{size_inside}
use Rattle.writing.proofs.Digits.{digits_three, digits_five, digits_eight}
use Rattle.reach.proofs.Words.{number_byte}
use Rattle.lists.proofs.Share.{share_most}
use Rattle.lines.proofs.Lines.{kind_few, verdict_few}
use Rattle.lines.specs.Counting.{Few}
use Rattle.printing.specs.Bound.{text_bound}
use Rattle.entries.proofs.Walk.{size_least}
use Rattle.printing.proofs.Walk.{few_more}

-- every element is a byte
abbrev pub Bytes : List ℕ → Type 0
Bytes l = (i : ℕ) → get_or l i 0 < 256

-- A line: four bytes for a byte.

part_short : (b : ℕ) → b < 256 → length (part_word b) ≤ 3
unfolding part_word
part_short b h = go (eqb b 0xff)
  where
    go : (t : Bool) → length (pick t (0x5f ∷ []) (decimal b)) ≤ 3
    go true = omega arith
    go false = digits_three b (omega arith)

parts_short : (ps : List ℕ) → Bytes ps → length (spaced (map part_word ps)) ≤ 4 * length ps
unfolding spaced flat_map
parts_short [] h = omega arith
parts_short (p ∷ ps) h =
    omega (arith, part_short p (h 0), parts_short ps (λ i. h (suc i)), length-append (part_word p) (spaced (map part_word ps)))

pub line_length : (first : List ℕ) (others : List (List ℕ)) → length (line_from first others) ≡ length first + length (spaced others) + 1
unfolding line_from
line_length first others = simp length-append (omega arith)

spaced_more : (w : List ℕ) (ws : List (List ℕ)) → length (spaced (w ∷ ws)) ≡ length w + length (spaced ws) + 1
unfolding spaced flat_map
spaced_more w ws = omega (arith, length-append w (spaced ws))

spaced_none : length (spaced []) ≡ 0
unfolding spaced flat_map
spaced_none = refl

saying_short : (k : Kind) (s : ℕ) (ps : List ℕ) → s < 65536 → Bytes ps
    → length (line_saying (record { kind = k; steps = s; parameters = ps })) ≤ 17 + 4 * length ps
unfolding line_saying
saying_short k s ps small h =
    omega (
      arith,
      line_length (kind_word k) (decimal s ∷ map part_word ps),
      spaced_more (decimal s) (map part_word ps),
      kind_few k,
      digits_five s (omega arith),
      parts_short ps h,
    )

entry_short : (e : List ℕ) → 6 ≤ length e → Bytes e → length (line_saying (decoded e)) ≤ 4 * length e
unfolding decoded word_at
entry_short e six h =
    omega (
      arith,
      saying_short (kind_at e 0) (get_or e 2 0 + 256 * get_or e 3 0) (drop 6 e) (omega (arith, h 2, h 3))
          (λ i. subst (λ (b : ℕ). b < 256) (sym (get_or-drop 6 e i 0)) (h (6 + i))),
      length-drop 6 e,
    )

-- The lines of a list, and how many there are.

pub part_bytes : (l : List ℕ) (i n : ℕ) → Bytes l → Bytes (take n (drop i l))
part_bytes l i n h j = go (ltb j n) refl
  where
    go : (t : Bool) → ltb j n ≡ t → get_or (take n (drop i l)) j 0 < 256
    go true e = rw (get_or-take n (drop i l) j 0 (ltb-true j n e), get_or-drop i l j 0) (h (i + j))
    go false e =
        let out : length (take n (drop i l)) ≤ j = simp length-take (omega (arith, ltb-false j n e)) in
        rw (get_or-eq_default (take n (drop i l)) 0 out) (omega arith)

lines_short : (more : ℕ) (l : List ℕ) (i : ℕ) → Bytes l
    → (length (flat_map line_saying (decoded_from more l i)) ≤ 4 * (length l - i)) × (length (decoded_from more l i) ≤ length l - i)
unfolding decoded_from flat_map
lines_short zero l i h = (omega arith, omega arith)
lines_short (suc more) l i h = go (λ n. lines_short more l (i + n) h) (entry_size l i) refl
  where
    go : ((n : ℕ) → (length (flat_map line_saying (decoded_from more l (i + n))) ≤ 4 * (length l - (i + n)))
        × (length (decoded_from more l (i + n)) ≤ length l - (i + n)))
        → (o : Option ℕ) → entry_size l i ≡ o
        → (length (flat_map line_saying (on_found [] (λ n. decoded (take n (drop i l)) ∷ decoded_from more l (i + n)) o)) ≤ 4 * (length l - i))
        × (length (on_found [] (λ n. decoded (take n (drop i l)) ∷ decoded_from more l (i + n)) o) ≤ length l - i)
    go later none e = (omega arith, omega arith)
    go later (some n) e =
        let inside = size_inside l i n e in
        let least = (size_least l i n e).0 in
        let full : length (take n (drop i l)) ≡ n = simp (length-take, length-drop) (omega arith) in
        let line = entry_short (take n (drop i l)) (omega arith) (part_bytes l i n h) in
        let rest = later n in (
          omega (arith, length-append (line_saying (decoded (take n (drop i l)))) (flat_map line_saying (decoded_from more l (i + n)))),
          omega arith,
        )

count_few : (c : Counts) (n : ℕ) (ks : List Kind) → Few c n → Few (count_from c ks) (n + length ks)
unfolding count_from
count_few c n [] few = (omega (arith, few.0), omega (arith, few.1), omega (arith, few.2))
count_few c n (k ∷ ks) few =
    let rest = count_few (one_more k c) (n + 1) ks (few_more k c n (n + 1) few (omega arith)) in
    (omega (arith, rest.0), omega (arith, rest.1), omega (arith, rest.2))

counts_few : (ks : List Kind) → Few (counts ks) (length ks)
unfolding counts
counts_few ks =
    let few = count_few (record { reach = 0; unfinished = 0; missing = 0 }) 0 ks (omega arith, omega arith, omega arith) in
    (omega (arith, few.0), omega (arith, few.1), omega (arith, few.2))

-- The last line.

pub refusal_short : (why : Refusal) → length (refusal_line why) ≤ text_bound 0
unfolding refusal_line
refusal_short why =
    omega (
      arith,
      line_length (0x72 ∷ 0x65 ∷ 0x66 ∷ 0x75 ∷ 0x73 ∷ 0x65 ∷ 0x64 ∷ []) (decimal (number_of why) ∷ []),
      spaced_more (decimal (number_of why)) [],
      spaced_none,
      digits_three (number_of why) (omega (arith, number_byte why)),
    )

total_short : (c : Counts) → Few c 16777216 → length (total_line c) ≤ text_bound 0
unfolding total_line total_with
total_short c few =
    let a = c.reach in
    let b = c.unfinished in
    let m = c.missing in
    let v = verdict_by c in
    omega (
      arith,
      line_length (0x74 ∷ 0x6f ∷ 0x74 ∷ 0x61 ∷ 0x6c ∷ []) (decimal a ∷ decimal b ∷ decimal m ∷ decimal (share a b) ∷ verdict_word v ∷ []),
      spaced_more (decimal a) (decimal b ∷ decimal m ∷ decimal (share a b) ∷ verdict_word v ∷ []),
      spaced_more (decimal b) (decimal m ∷ decimal (share a b) ∷ verdict_word v ∷ []),
      spaced_more (decimal m) (decimal (share a b) ∷ verdict_word v ∷ []),
      spaced_more (decimal (share a b)) (verdict_word v ∷ []),
      spaced_more (verdict_word v) [],
      spaced_none,
      digits_eight a (omega (arith, few.0)),
      digits_eight b (omega (arith, few.1)),
      digits_eight m (omega (arith, few.2)),
      digits_three (share a b) (omega (arith, share_most a b)),
      verdict_few v,
    )

last_short : (full : Bool) (c : Counts) → Few c 16777216 → length (last_line full c) ≤ text_bound 0
unfolding last_line
last_short true c few = refusal_short ListFull
last_short false c few = total_short c few

-- the whole text, for any limit of the bytes that count up to 16,777,216
text_within : (n : ℕ) (full : Bool) (l : List ℕ) → n ≤ 16777216 → Bytes l
    → length (text_of full (decoded_from (length (take n l)) (take n l) 0)) ≤ text_bound (length l)
unfolding text_of
text_within n full l limit h =
    let bytes : Bytes (take n l) = part_bytes l 0 n h in
    let ds = decoded_from (length (take n l)) (take n l) 0 in
    let kinds = map (λ (d : Decoded). d.kind) ds in
    let short = lines_short (length (take n l)) (take n l) 0 bytes in
    let as_many = length_kinds ds in
    let taken = length-take n l in
    let few = counts_few kinds in
    let last = last_short full (counts kinds) (omega (arith, few.0), omega (arith, few.1), omega (arith, few.2)) in
    omega (arith, length-append (flat_map line_saying ds) (last_line full (counts kinds)))
  where
    length_kinds : (ds : List Decoded) → length (map (λ (d : Decoded). d.kind) ds) ≡ length ds
    length_kinds [] = refl
    length_kinds (d ∷ ds) = ap suc (length_kinds ds)

pub text_short : (full : Bool) (l : List ℕ) → Bytes l → length (list_text full l) ≤ text_bound (length l)
unfolding list_text
text_short full l h = text_within list_limit full l (omega arith) h
