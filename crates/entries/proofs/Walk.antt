-- The entry of a number, by the answer of `nth`, and the part that is handed back.
-- Rests on Each and Spans of specs/ and on ReadBack of crate lists, for the definition's own steps.
use Prim.Native.Nat.{ℕ, ◌+◌, ◌-◌, ◌≤◌}
use mathlib.Core.Path.{◌≡◌, sym, ap, ◌∙◌}
use mathlib.Core.List.{List, [], ◌∷◌}
use mathlib.Core.Option.{some}
use Rattle.std.specs.Prelude.{Option, Some, None}
use native.Mathlib.Omega.{arith}
use lib.ListN.{length, take, drop, length-take}
use Rattle.reach.specs.Lists.{entry_size, entry_span, entry_part, room_of}
use Rattle.lists.proofs.ReadBack.{span_no_entry, span_here, span_next, size_told, span_inside, span_counted, part_counted}
use Rattle.std.specs.Iterator.{Yields, SkipsThenYields}
use Rattle.entries.specs.declared.Span.{Span}
use Rattle.entries.specs.declared.EachEntry.{EachEntry}
use Rattle.entries.specs.Each.{Comes}
use Rattle.entries.specs.Spans.{span_of, part_place, bytes_on}

-- an entry has a whole header, and ends inside the list
pub size_least : (l : List ℕ) (i n : ℕ) → entry_size l i ≡ some n → (6 ≤ n) × (i + n ≤ length l)
size_least l i n there = let (kind, header, mark, is, inside) = size_told l i n there in (omega (arith, is), inside)

-- where these entries came, one of a later number is found as from the place behind them, in the same list
passed : (xs : List Span) (s t : EachEntry) (k : ℕ) → Yields Comes s xs t → entry_span s.list.now (length xs + k) s.at ≡ entry_span t.list.now k t.at
passed [] s t k e = let z : 0 + k ≡ k = omega arith in rw z (ap (λ (each : EachEntry). entry_span each.list.now k each.at) e)
passed (x ∷ xs) s t k (j, (here, sized, next, same), others) =
    let z : length (x ∷ xs) + k - 1 ≡ length xs + k = omega arith in
    let later = span_next s.list.now (length (x ∷ xs) + k) s.at x.size (omega arith) sized in
    (rw z at later) ∙ (rw (next, same) at (passed xs j t k others))

-- the entry of a number, by the answer of `nth`
pub nth_span : (each u : EachEntry) (n : ℕ) (r : Option Span) → SkipsThenYields Comes each n r u → span_of r ≡ entry_span each.list.now n each.at
nth_span each u n (Some x) (xs, (t, came, (here, sized, next, same)), many) =
    let z : length xs + 0 ≡ n = omega (arith, many) in
    rw here (sym (span_here t.list.now t.at x.size sized)) ∙ sym (rw z at (passed xs each t 0 came))
nth_span each u n None (xs, (t, came, (nothing, next, same)), many) =
    let z : length xs + (n - length xs) ≡ n = omega (arith, many) in
    sym (span_no_entry t.list.now (n - length xs) t.at nothing) ∙ sym (rw z at (passed xs each t (n - length xs) came))

-- The part that is handed back, by the span that was found in the bytes that count.
module _ (l : List ℕ) (k end : ℕ) {r : Option Span} (room : end ≡ room_of (length l)) (searched : span_of r ≡ entry_span (take end l) k 0) where
  -- where none was found it is the empty part at the end
  pub part_none : r ≡ None → take (end - end) (drop end l) ≡ entry_part l k
  part_none e =
      let z : end - end ≡ 0 = omega arith in
      let none_there = sym searched ∙ ap span_of e in
      rw (z, part_counted l k, ← room, none_there)

  -- else it lies inside the list
  pub part_inside : {i n : ℕ} → r ≡ Some (record { at = i; size = n }) → i + n ≤ length l
  unfolding room_of
  part_inside {i} {n} e =
      omega (arith, span_inside (take end l) k 0 (i, n) (sym searched ∙ ap span_of e), length-take end l)

  -- and is the entry's
  pub part_found : {i n : ℕ} → r ≡ Some (record { at = i; size = n }) → take (i + n - i) (drop i l) ≡ entry_part l k
  part_found {i} {n} e =
      let z : i + n - i ≡ n = omega arith in
      let there = sym searched ∙ ap span_of e in
      rw (z, part_counted l k, ← room, there)

  -- The place of that part.
  pub place_none : r ≡ None → end ≡ part_place l k
  unfolding part_place
  place_none e =
      let none_there = sym searched ∙ ap span_of e in
      rw (span_counted l k, ← room, none_there)

  pub place_found : {i n : ℕ} → r ≡ Some (record { at = i; size = n }) → i ≡ part_place l k
  unfolding part_place
  place_found {i} {n} e =
      let there = sym searched ∙ ap span_of e in
      rw (span_counted l k, ← room, there)

-- a part that begins so many bytes on in a slice points so many bytes behind the slice's own pointer
pub points_on : (pointer : ℕ × ℕ) {i n : ℕ} → i ≡ n → ◌≡◌ {A = ℕ × ℕ} (pointer.0, i + pointer.1) (bytes_on pointer n)
points_on pointer {i} {n} e =
    let z : i + pointer.1 ≡ pointer.1 + n = omega arith in
    rw z
