-- The part of a list that the number for an entry says. Rests on specs/Packing and on lists' ReadBack.
use Prim.Native.Nat.{ℕ, ◌≤◌}
use native.Mathlib.Omega.{arith}
use mathlib.Core.Path.{◌≡◌, refl, sym, ap, ◌∙◌}
use mathlib.Core.List.{List}
use mathlib.Core.Option.{Option, none, some}
use lib.ListN.{length, take, length-take}
use Rattle.reach.specs.Limits.{list_limit}
use Rattle.reach.specs.Lists.{room_of, entry_span}
use Rattle.lists.proofs.ReadBack.{span_counted, part_counted, span_inside}
use Rattle.packing.specs.Packing.{span_number, span_end, part_number, PartAt}

-- the end of the bytes that count
pub end_small : (l : List ℕ) (end : ℕ) → end ≡ room_of (length l) → (end ≤ list_limit) × (end ≤ length l)
unfolding room_of
end_small l end room = (omega (arith, room), omega (arith, room))

-- the definition's span is that of the bytes that count
span_is : (l : List ℕ) (k end : ℕ) → end ≡ room_of (length l) → entry_span (take list_limit l) k 0 ≡ entry_span (take end l) k 0
span_is l k end room = span_counted l k ∙ ap (λ (n : ℕ). entry_span (take n l) k 0) (sym room)

-- what was found in the bytes that count
module _ (l : List ℕ) (k end : ℕ) (room : end ≡ room_of (length l)) where
  pub span_ends : (found : Option (ℕ × ℕ)) → found ≡ entry_span (take end l) k 0 → span_end found ≤ end
  span_ends none there = omega arith
  span_ends (some span) there = omega (arith, span_inside (take end l) k 0 span (sym there), length-take end l)

  pub part_number_law : (found : Option (ℕ × ℕ)) → found ≡ entry_span (take end l) k 0 → span_number end found ≡ part_number l k
  unfolding part_number
  part_number_law found there = rw (span_is l k end room, ← there, ← room)

  pub part_at : (found : Option (ℕ × ℕ)) → found ≡ entry_span (take end l) k 0 → PartAt l k (span_number end found)
  part_at none there =
      record {
        place = end;
        size = 0;
        packed = omega arith;
        counts = (end_small l end room).0;
        inside = omega (arith, (end_small l end room).1);
        part_is = rw (part_counted l k, ← room, ← there);
      }
  part_at (some span) there =
      record {
        place = span.0;
        size = span.1;
        packed = refl;
        counts = omega (arith, span_ends (some span) there, (end_small l end room).0);
        inside = omega (arith, span_ends (some span) there, (end_small l end room).1);
        part_is = rw (part_counted l k, ← room, ← there);
      }
