-- What the contract of `entry` says of the part that is handed back, in one: its bytes are those that stand in the caller's list from its place on.
-- Rests on specs/Spans and on lists' ReadBack.
use Prim.Native.Nat.{ℕ, ◌+◌, ◌≤◌}
use mathlib.Core.Path.{◌≡◌, refl}
use mathlib.Core.List.{List, []}
use mathlib.Core.Option.{Option, none, some}
use native.Mathlib.Omega.{arith}
use lib.ListN.{length, take, drop, length-take, length-drop}
use Rattle.reach.specs.Limits.{list_limit}
use Rattle.reach.specs.Lists.{room_of, on_found, entry_span, entry_part}
use Rattle.lists.proofs.ReadBack.{span_inside}
use Rattle.entries.specs.Spans.{part_place}

module _ (l : List ℕ) (k : ℕ) where
  -- an entry that is found ends inside the bytes that count, so its part is as long as its span says
  pub found_within : (i n : ℕ) → entry_span (take list_limit l) k 0 ≡ some (i, n)
      → (i + n ≤ room_of (length l)) × (length (take n (drop i l)) ≡ n)
  unfolding room_of
  found_within i n there =
      let inside = span_inside (take list_limit l) k 0 (i, n) there in (
        omega (arith, inside, length-take list_limit l),
        simp (length-take, length-drop) (omega (arith, inside, length-take list_limit l)),
      )

  -- what is handed back for such a span: a place and bytes
  abbrev Lies : Option (ℕ × ℕ) → Type 0
  Lies span =
      let place = on_found (room_of (length l)) (λ s. s.0) span in
      let part = on_found [] (λ s. take s.1 (drop s.0 l)) span in
      (part ≡ take (length part) (drop place l)) × (place + length part ≤ room_of (length l))

  lies : (span : Option (ℕ × ℕ)) → entry_span (take list_limit l) k 0 ≡ span → Lies span
  lies none there = (refl, omega arith)
  lies (some s) there = let (within, long) = found_within s.0 s.1 there in (rw long, omega (arith, within, long))

  -- 01, "The list": "The entry of a given number is handed back as the part of the list that it fills, from mark to last byte. Beyond the last entry, [..]
  -- the empty part at the list's end is handed back." The part is what stands at its place, inside the bytes that count.
  pub part_lies :
      (entry_part l k ≡ take (length (entry_part l k)) (drop (part_place l k) l))
      × (part_place l k + length (entry_part l k) ≤ room_of (length l))
  unfolding part_place entry_part
  part_lies = lies (entry_span (take list_limit l) k 0) refl
