-- The form of a type of names: 02, Slip 4, refusal 15 ("spelling"). A name is empty, or a byte, in two halves of sixteen values each, before the rest of
-- the name. Which bytes it spells is said by crate names.
-- Rests on Syntax.
use Rattle.std.specs.Prelude.{ℕ, ◌≡◌, Bool, true, ◌&&◌, List, [], ◌∷◌, length, get_or, replicate, eqb}
use Rattle.reach.specs.Syntax.{Types}

-- Type t has the form of a name: two constructors, 0 without fields and 1 with three, two of types with sixteen constructors without fields and the named type.
pub record Spells (types : Types) (t : ℕ) : Type 0 where
  pub high : ℕ
  pub low : ℕ
  pub constructors : get_or types t [] ≡ [] ∷ (high ∷ low ∷ t ∷ []) ∷ []
  pub high_half : get_or types high [] ≡ replicate 16 []
  pub low_half : get_or types low [] ≡ replicate 16 []

-- The same as a test; proofs/Spelling shows that it passes under exactly this.

-- none of these constructors has a field
unfoldable pub fieldless : List (List ℕ) → Bool
fieldless [] = true
fieldless (us ∷ cs) = eqb (length us) 0 && fieldless cs

-- a half of a byte: the type has sixteen constructors without fields
unfoldable pub is_half : Types → ℕ → Bool
is_half types t = eqb (length (get_or types t [])) 16 && fieldless (get_or types t [])

-- the fields of a letter: two halves, and the rest of a name, which is of type t
unfoldable pub is_letter : Types → ℕ → List ℕ → Bool
is_letter types t us = eqb (length us) 3 && (is_half types (get_or us 0 0) && (is_half types (get_or us 1 0) && eqb (get_or us 2 0) t))

-- an end of a name and a letter, and nothing else
unfoldable pub is_name : Types → ℕ → List (List ℕ) → Bool
is_name types t cs = eqb (length cs) 2 && (eqb (length (get_or cs 0 [])) 0 && is_letter types t (get_or cs 1 []))

unfoldable pub spells : Types → ℕ → Bool
spells types t = is_name types t (get_or types t [])
