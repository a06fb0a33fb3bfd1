-- The table of the ends of expressions: an entry for each place of a rule file. Where an expression stands, its entry is the place behind it.
-- Rests on reach's Encoding and Places and on machine's Records and Walks.
use Rattle.std.specs.Prelude.{ℕ, zero, suc, ◌+◌, ◌≤◌, ◌≡◌, List, eqb, length, get_or}
use Rattle.reach.specs.Base.{pick}
use Rattle.reach.specs.Syntax.{Expr}
use Rattle.reach.specs.Encoding.{encode}
use Rattle.reach.specs.Places.{declarations_at}
use Rattle.machine.specs.Records.{Code}
use Rattle.machine.specs.Walks.{Behind}

-- the place reached from i over n entries
unfoldable pub passed_operands : List ℕ → ℕ → ℕ → ℕ
passed_operands ends zero i = i
passed_operands ends (suc n) i = passed_operands ends n (get_or ends i 0)

-- the place behind the alternative at i: a byte 0, or another byte and an expression
unfoldable pub passed_alternative : List ℕ → List ℕ → ℕ → ℕ
passed_alternative file ends i = pick (eqb (get_or file i 0) 0) (i + 1) (get_or ends (i + 1) 0)

-- the place behind the alternatives of n constructors
unfoldable pub passed_alternatives : List ℕ → List ℕ → ℕ → ℕ → ℕ
passed_alternatives file ends zero i = i
passed_alternatives file ends (suc n) i = passed_alternatives file ends n (passed_alternative file ends i)

-- The table of the ends of expressions: where an expression stands, its entry is the place behind it, found by passing over it.
abbrev pub Ends : List ℕ → List ℕ → List ℕ → List ℕ → Type 0
Ends file types functions ends =
    (i : ℕ) (x : Expr) → Code file (declarations_at file types functions) i x → Behind file (declarations_at file types functions) i (get_or ends i 0)

-- where an expression stands at i, its bytes end before this place
abbrev pub EndAt : List ℕ → List ℕ → List ℕ → ℕ → ℕ → Type 0
EndAt file types functions i end = (x : Expr) → Code file (declarations_at file types functions) i x → end ≡ i + length (encode x)

-- the entries from a place on are filled
abbrev pub EndsFrom : List ℕ → List ℕ → List ℕ → List ℕ → ℕ → Type 0
EndsFrom file types functions ends at = (i : ℕ) → at ≤ i → EndAt file types functions i (get_or ends i 0)
