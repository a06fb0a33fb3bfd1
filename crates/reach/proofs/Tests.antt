-- A test and the two facts that it tells apart: the one where it passes, the other where it fails. For tests that walk a list: of every member, or of some.
-- Rests on the library's lists and tests.
use Prim.Native.Nat.{ℕ, ◌≤◌, ◌<◌}
use mathlib.Core.Path.{◌≡◌, refl, sym, ◌∙◌, subst}
use mathlib.Core.Logic.{◌⊎◌, inl, inr, ⊎_elim, ◌↔◌}
use mathlib.Core.Bool.{Bool, true, false, ◌&&◌, false≢true}
use mathlib.Core.List.Memᴰ
use mathlib.Core.List.{List, [], ◌∷◌}
use lib.Dec.{ltb, leb}
use borrow.Author.Tests.{ltb-true, ltb-false, leb-true, leb-false}
use Rattle.reach.specs.Base.{◌∈◌}

-- the test passes and the one fact holds, or it fails and the other does
pub data Tells (test : Bool) (Yes No : Type 0) : Type 0 where
  passes : test ≡ true → Yes → Tells test Yes No
  fails : test ≡ false → No → Tells test Yes No

pub tells : {Yes No : Type 0} (test : Bool) → (test ≡ true → Yes) → (test ≡ false → No) → Tells test Yes No
tells true h k = passes refl (h refl)
tells false h k = fails refl (k refl)

-- the same in other words
pub tells_as : {test : Bool} {Yes No Yes' No' : Type 0} → (Yes → Yes') → (No → No') → Tells test Yes No → Tells test Yes' No'
tells_as h k (passes e y) = passes e (h y)
tells_as h k (fails e n) = fails e (k n)

-- where the two facts exclude each other, the test passes under exactly the one and fails under exactly the other
module _ {test : Bool} {Yes No : Type 0} (apart : Yes → No → ⊥) where
  pub passes_exactly : Tells test Yes No → (test ≡ true) ↔ Yes
  passes_exactly (passes e y) = (λ is. y, λ h. e)
  passes_exactly (fails e n) = (λ is. absurd (false≢true (sym e ∙ is)), λ h. absurd (apart h n))

  pub fails_exactly : Tells test Yes No → (test ≡ false) ↔ No
  fails_exactly (passes e y) = (λ is. absurd (false≢true (sym is ∙ e)), λ h. absurd (apart y h))
  fails_exactly (fails e n) = (λ is. n, λ h. e)

-- two tests
pub tells_both : {a b : Bool} {Y N Y' N' : Type 0} → Tells a Y N → Tells b Y' N' → Tells (a && b) (Y × Y') (N ⊎ N')
tells_both (passes e y) (passes f z) = passes (rw (e, f)) (y, z)
tells_both (passes e y) (fails f n) = fails (rw (e, f)) (inr n)
tells_both (fails e n) second = fails (rw e) (inl n)

-- a test of each element of a list
abbrev pub All : {A : Type 0} → (A → Type 0) → List A → Type 0
All {A} P xs = (x : A) → x ∈ xs → P x

abbrev pub Some : {A : Type 0} → (A → Type 0) → List A → Type 0
Some {A} P xs = (x : A) × (x ∈ xs) × P x

pub all_more : {A : Type 0} (P : A → Type 0) (x : A) (xs : List A) → P x → All P xs → All P (x ∷ xs)
all_more P x xs first rest y m = ⊎_elim (λ same. subst P (sym same) first) (λ later. rest y later) (Memᴰ.cases_cons m)

pub tells_none : {A : Type 0} (Y N : A → Type 0) → Tells true (All Y []) (Some N [])
tells_none Y N = passes refl (λ x m. absurd (Memᴰ.not-nil m))

pub tells_more : {A : Type 0} (Y N : A → Type 0) (x : A) (xs : List A) {a b : Bool} → Tells a (Y x) (N x) → Tells b (All Y xs) (Some N xs)
    → Tells (a && b) (All Y (x ∷ xs)) (Some N (x ∷ xs))
tells_more Y N x xs (passes e y) (passes f all) = passes (rw (e, f)) (all_more Y x xs y all)
tells_more Y N x xs (passes e y) (fails f (z, m, n)) = fails (rw (e, f)) (z, Memᴰ.tail m, n)
tells_more Y N x xs (fails e n) rest = fails (rw e) (x, Memᴰ.head refl, n)

pub ltb_tells : (a b : ℕ) → Tells (ltb a b) (a < b) (b ≤ a)
ltb_tells a b = tells (ltb a b) (ltb-true a b) (ltb-false a b)

pub leb_tells : (a b : ℕ) → Tells (leb a b) (a ≤ b) (b < a)
leb_tells a b = tells (leb a b) (leb-true a b) (leb-false a b)
