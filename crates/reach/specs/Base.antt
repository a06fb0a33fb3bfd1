-- A choice by a test, membership in a list, and what holds of each element: what the other files use and no paper has to say.
-- Rests on the library's lists and tests.
use Rattle.std.specs.Prelude.{Bool, true, false}
use mathlib.Core.List.{List, [], ◌∷◌, Memᴰ}

-- the first where the test passes, else the second
abbrev pub pick {ℓ} : {A : Type ℓ} → Bool → A → A → A
pick true a b = a
pick false a b = b

-- x is among the elements of the list
abbrev pub ◌∈◌ : {A : Type 0} → A → List A → Type 0
◌∈◌ x xs = Memᴰ x xs

infix 40 ◌∈◌
-- the fact holds of each element of the list
abbrev pub Each : {A : Type 0} → (A → Type 0) → List A → Type 0
Each P [] = Unit {0}
Each P (x ∷ xs) = P x × Each P xs
