-- Facts of tests and lists that the library lacks, for the other files.
-- Rests on the library and specs/Base.
use Prim.Native.Nat.{ℕ, zero, suc}
use mathlib.Core.Path.{◌≡◌, refl, sym, subst}
use mathlib.Core.Bool.{Bool, true, false}
use mathlib.Core.Logic.{⊎_elim}
use mathlib.Core.Option.{some, none-ne-some, some-injective}
use mathlib.Core.List.{List, [], ◌∷◌, flat_map}
use mathlib.Core.List.Memᴰ
use lib.ListN.{get_or, get_elem?}
use native.Mathlib.Omega.{arith}
use Rattle.reach.specs.Base.{◌∈◌, pick, Each}

-- two constructors that would be equal make 0 equal to 1
pub clash : ◌≡◌ {A = ℕ} 0 1 → ⊥
clash e = omega arith

-- what holds of the one where the test passes, and of the other where it fails, holds of the one picked
pub picked : {A : Type 0} (P : A → Type 0) (test : Bool) {a b : A} → (test ≡ true → P a) → (test ≡ false → P b) → P (pick test a b)
picked P true h k = h refl
picked P false h k = k refl

-- an element that has a number in a list is a member
pub nth_member : {A : Type 0} (xs : List A) (n : ℕ) (x : A) → get_elem? xs n ≡ some x → x ∈ xs
nth_member [] n x h = absurd (none-ne-some x h)
nth_member (y ∷ xs) zero x h = Memᴰ.head (sym (some-injective y x h))
nth_member (y ∷ xs) (suc n) x h = Memᴰ.tail (nth_member xs n x h)

-- the members of a list put together from others are the members of those
pub flat_map_member : {A B : Type 0} (f : A → List B) (xs : List A) (b : B) → b ∈ flat_map f xs → (a : A) × (a ∈ xs) × (b ∈ f a)
unfolding flat_map
flat_map_member f [] b m = absurd (Memᴰ.not-nil m)
flat_map_member f (x ∷ xs) b m =
    ⊎_elim (λ first. (x, Memᴰ.head refl, first))
    (λ later. let found = flat_map_member f xs b later in (found.0, Memᴰ.tail found.1, found.2))
    (Memᴰ.append_cases (f x) m)

pub flat_map_has : {A B : Type 0} (f : A → List B) (xs : List A) (a : A) (b : B) → a ∈ xs → b ∈ f a → b ∈ flat_map f xs
unfolding flat_map
flat_map_has f [] a b m k = absurd (Memᴰ.not-nil m)
flat_map_has {A} f (x ∷ xs) a b m k =
    ⊎_elim (λ same. Memᴰ.append_left (flat_map f xs) (subst (λ (y : A). b ∈ f y) same k))
    (λ later. Memᴰ.append_right (f x) (flat_map_has f xs a b later k))
    (Memᴰ.cases_cons m)

pub each_member : {A : Type 0} (P : A → Type 0) {x : A} {xs : List A} → Each P xs → x ∈ xs → P x
each_member P all (Memᴰ.head e) = subst P (sym e) all.0
each_member P all (Memᴰ.tail m) = each_member P all.1 m

pub member_each : {A : Type 0} (P : A → Type 0) (xs : List A) → ((x : A) → x ∈ xs → P x) → Each P xs
member_each P [] all = tt
member_each P (x ∷ xs) all = (all x (Memᴰ.head refl), member_each P xs (λ y m. all y (Memᴰ.tail m)))

-- and so of the one at a place, if it holds of what stands for none
pub each_get_d : {A : Type 0} (P : A → Type 0) (xs : List A) (i : ℕ) (d : A) → Each P xs → P d → P (get_or xs i d)
each_get_d P [] i d all default = default
each_get_d P (x ∷ xs) zero d all default = all.0
each_get_d P (x ∷ xs) (suc i) d all default = each_get_d P xs i d all.1 default
