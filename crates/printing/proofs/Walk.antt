-- The walk from entry to entry that writes a list's text: what one more line, and the last line, leave of the text.
-- Rests on writing's Writing, on entries' Walk and on reach's Lists and lists' Text.
use Prim.Native.Nat.{ℕ, zero, suc, ◌+◌, ◌-◌, ◌≤◌, ◌<◌, min}
use mathlib.Core.Path.{◌≡◌, refl, sym, ap, ◌∙◌}
use mathlib.Core.Bool.{Bool}
use mathlib.Core.List.{List, [], ◌∷◌, ◌++◌, map, flat_map, append_assoc}
use mathlib.Core.Option.{none, some}
use native.Mathlib.Omega.{arith}
use lib.ListN.{length, take, drop, length-take, length-drop}
use lib.Seq.{get_or-take, get_or-drop}
use Rattle.reach.specs.declared.Counts.{Counts}
use Rattle.reach.specs.declared.Kind.{Kind}
use Rattle.reach.specs.declared.Kind.TheVariants.{RE, UN, MI}
use Rattle.reach.specs.Search.{one_more, count_from, counts}
use Rattle.reach.specs.Limits.{list_limit}
use Rattle.reach.specs.Lists.{kind_at, entry_size, room_of, Decoded, decoded, decoded_from}
use Rattle.lists.specs.Text.{line_saying, last_line, text_of, list_text}
use Rattle.lists.proofs.ReadBack.{counted}
use Rattle.entries.proofs.Walk.{size_least}
use Rattle.lines.specs.Counting.{Few}
use Rattle.writing.specs.declared.Page.{Page}
use Rattle.writing.specs.Writing.{Puts, Fronts}
use Rattle.writing.proofs.Writing.{Left, left_next, left_last, puts_front}

-- what is left of the text, so many entries of each kind having gone before
unfoldable pub text_from : Bool → Counts → List Decoded → List ℕ
text_from full c ds = flat_map line_saying ds ++ last_line full (count_from c (map (λ (d : Decoded). d.kind) ds))

-- before the first entry
pub text_whole : (full : Bool) (ds : List Decoded) → text_of full ds ≡ text_from full (record { reach = 0; unfinished = 0; missing = 0 }) ds
unfolding text_of counts text_from
text_whole full ds = refl

-- no entry is left
text_end : (full : Bool) (c : Counts) → text_from full c [] ≡ last_line full c
unfolding text_from flat_map count_from
text_end full c = refl

-- one is left, and others
text_more : (full : Bool) (c : Counts) (d : Decoded) (ds : List Decoded)
    → text_from full c (d ∷ ds) ≡ line_saying d ++ text_from full (one_more d.kind c) ds
unfolding text_from flat_map count_from
text_more full c d ds = append_assoc (line_saying d) _ _

-- with one more entry the counts are at most one more
pub few_more : (k : Kind) (c : Counts) (n m : ℕ) → Few c n → n < m → Few (one_more k c) m
few_more RE c n m few h = (omega (arith, few.0), omega (arith, few.1), omega (arith, few.2))
few_more UN c n m few h = (omega (arith, few.0), omega (arith, few.1), omega (arith, few.2))
few_more MI c n m few h = (omega (arith, few.0), omega (arith, few.1), omega (arith, few.2))

decoded_none : (more : ℕ) (l : List ℕ) (i : ℕ) → entry_size l i ≡ none → decoded_from more l i ≡ []
unfolding decoded_from
decoded_none zero l i e = refl
decoded_none (suc more) l i e = rw e

decoded_more : (more : ℕ) (l : List ℕ) (i n : ℕ) → 0 < more → entry_size l i ≡ some n
    → decoded_from more l i ≡ decoded (take n (drop i l)) ∷ decoded_from (more - 1) l (i + n)
unfolding decoded_from
decoded_more zero l i n h e = absurd (omega arith)
decoded_more (suc more) l i n h e = let z : suc more - 1 ≡ more = omega arith in rw (z, e)

-- the mark stands at the beginning of the part
decoded_kind : (l : List ℕ) (i n : ℕ) → 1 < n → (decoded (take n (drop i l))).kind ≡ kind_at l i
unfolding decoded kind_at
decoded_kind l i n h =
    let z : i + 0 ≡ i = omega arith in
    rw (get_or-take n (drop i l) 0 0 (omega arith), get_or-take n (drop i l) 1 0 h, get_or-drop i l 0 0, get_or-drop i l 1 0, z)

module _ (l : List ℕ) (at n : ℕ) (there : entry_size l at ≡ some n) where
  -- the part that an entry fills has a whole header and ends inside the list
  pub part_least : 6 ≤ length (take (at + n - at) (drop at l))
  part_least = let least = size_least l at n there in simp (length-take, length-drop) (omega (arith, least.0, least.1))

  pub part_most : length (take (at + n - at) (drop at l)) ≤ n
  part_most = simp (length-take, length-drop) (omega arith)

  -- its line is written
  pub line_next :
      (full : Bool) {p q q' : Page} {whole : List ℕ} (c : Counts) (more : ℕ) {k : Kind} {c' : Counts}
      → Left p whole q (text_from full c (decoded_from more l at)) → 0 < more → Puts q (line_saying (decoded (take (at + n - at) (drop at l)))) q'
      → k ≡ kind_at l at → c' ≡ one_more k c → Left p whole q' (text_from full c' (decoded_from (more - 1) l (at + n)))
  line_next full c more left h w read counted =
      let z : at + n - at ≡ n = omega arith in
      let d = decoded (take n (drop at l)) in
      let same = decoded_kind l at n (omega (arith, (size_least l at n there).0)) in
      let split = decoded_more more l at n h there in
      rw (counted, read, ← same)
      (left_next {a = line_saying d} (rw (split, text_more full c d (decoded_from (more - 1) l (at + n))) at left) (rw z at w))

-- none stands there: the last line ends the text
pub last_no_entry :
    (l : List ℕ) (at : ℕ) → entry_size l at ≡ none → (full : Bool) {p q q' : Page} {whole : List ℕ} (c : Counts) (more : ℕ)
    → Left p whole q (text_from full c (decoded_from more l at)) → Puts q (last_line full c) q' → Puts p whole q'
last_no_entry l at none_there full c more left w = left_last (rw (decoded_none more l at none_there, text_end full c) at left) w

-- The bytes that count, for any limit.
taken : (n room : ℕ) (full : Bool) (l : List ℕ) → room ≡ min (length l) n
    → text_of full (decoded_from (length (take room l)) (take room l) 0) ≡ text_of full (decoded_from (length (take n l)) (take n l) 0)
taken n room full l e =
    ap (λ (t : List ℕ). text_of full (decoded_from (length t) t 0)) (ap (λ (k : ℕ). take k l) e ∙ sym (counted n l))

-- the text of the bytes that count is the text of the list
pub text_fronted : (full : Bool) (l : List ℕ) {p q : Page} {t : List ℕ} {room : ℕ} → room ≡ room_of (length l) → p.at ≡ 0
    → Puts p (text_of full (decoded_from (length (take room l)) (take room l) 0)) q → t ≡ q.text.now → Fronts p.text.now (list_text full l) t q.at
unfolding room_of list_text
text_fronted full l {room} e h w is = rw (taken list_limit room full l e) at (puts_front h w is)
