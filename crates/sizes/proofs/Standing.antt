-- An entry stands where its size was found. Rests on Sizes and on lists' ReadBack.
use Prim.Native.Nat.{ℕ, ◌+◌, ◌≤◌}
use mathlib.Core.Path.{◌≡◌, refl, sym, ap, ◌∙◌}
use mathlib.Core.List.{List}
use mathlib.Core.Option.{some}
use Rattle.std.specs.Prelude.{Option, Some, None, is_some, unwrap_or, true, false}
use lib.ListN.{length}
use Rattle.reach.specs.Lists.{on_found, entry_size}
use Rattle.lists.proofs.ReadBack.{size_inside}
use Rattle.sizes.specs.Sizes.{found_of}

-- what was found, or else that: as the definitions choose by it
pub found_or : {A : Type 0} (d : A) (r : Option A) → unwrap_or r d ≡ on_found d (λ a. a) (found_of r)
found_or d (Some a) = refl
found_or d None = refl

pub found_some : {A : Type 0} (r : Option A) → is_some r ≡ on_found false (λ a. true) (found_of r)
found_some (Some a) = refl
found_some None = refl

module _ (l : List ℕ) (at : ℕ) {r : Option ℕ} (sized : found_of r ≡ entry_size l at) where
  -- the size that was found is the definition's, and the entry ends inside the list
  pub stands : {n : ℕ} → r ≡ Some n → entry_size l at ≡ some n
  stands e = sym sized ∙ ap found_of e

  pub stands_inside : {n : ℕ} → r ≡ Some n → at + n ≤ length l
  stands_inside {n} e = size_inside l at n (stands e)
