-- The parameters of a function, tested one after another: what the chain over their numbers comes to. Rests on reach's Types and Slots.
use Prim.Native.Nat.{ℕ, zero, suc, ◌+◌}
use mathlib.Core.Path.{◌≡◌, refl}
use mathlib.Core.Bool.{Bool}
use mathlib.Core.List.{List, [], ◌∷◌}
use native.Mathlib.Omega.{arith}
use lib.ListN.{get_or, drop}
use Rattle.std.specs.List.{range_with_len, list_all}
use Rattle.reach.specs.Types.{slots, shallow, roomy}
use Rattle.reach.specs.Places.{bytes_at}
use Rattle.reach.proofs.Slots.{slots_from}

no_slots : (ds : List ℕ) → slots [] ds ≡ []
unfolding slots
no_slots ds = refl

-- of types that stand from a place on, with a depth for each
module _ (s : List ℕ) (at : ℕ) (depths table : List ℕ) where
  -- the type of number i is shallow enough
  abbrev pub fits : ℕ → Bool
  fits i = shallow table (get_or depths i 0) (get_or s (at + i) 0 ∷ [])

  roomy_from : (n i : ℕ) → list_all fits (range_with_len i n) ≡ roomy table (slots (bytes_at s (at + i) n) (drop i depths))
  unfolding bytes_at roomy
  roomy_from zero i = rw no_slots
  roomy_from (suc n) i =
      let place : at + i + 1 ≡ at + (i + 1) = omega arith in
      rw (slots_from (get_or s (at + i) 0) (bytes_at s (at + i + 1) n) depths i, place, ← (roomy_from n (i + 1)))

  pub roomy_all : (n : ℕ) → list_all fits (range_with_len 0 n) ≡ roomy table (slots (bytes_at s at n) depths)
  roomy_all n = let place : at + 0 ≡ at = omega arith in rw place at (roomy_from n 0)
