-- The letters of a name that stands in prefix form in a list.
-- Rests on reach's Base.
use Rattle.std.specs.Prelude.{ℕ, ◌+◌, ◌*◌, ◌<◌, List, [], ◌∷◌, drop, eqb}
use Rattle.reach.specs.Base.{pick, Each}

-- a half of a letter as it stands in a list: an open one is filled with 0
abbrev pub half : ℕ → ℕ
half b = pick (eqb b 0xff) 0 b

-- the letters of a name that stands in prefix form at the front of these bytes, filled: constructor 1 with its two halves, before the rest; at anything
-- else the name ends
unfoldable pub letters : List ℕ → List ℕ
letters [] = []
letters (c ∷ []) = []
letters (c ∷ h ∷ []) = []
letters (c ∷ h ∷ l ∷ rest) = pick (eqb c 1) ((16 * half h + half l) ∷ letters rest) []

-- the letters from this place on are bytes
abbrev pub Spelt : List ℕ → ℕ → Type 0
Spelt list at = Each (λ (b : ℕ). b < 256) (letters (drop at list))
