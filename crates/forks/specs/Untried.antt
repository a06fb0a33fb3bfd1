-- The constructors that a fork has yet to take: those of a fork, from a number on, and what the search for the next one answers.
-- Rests on reach's Types and Places, on lookups' Fields and on the struct of src/lib.rt.
use Rattle.std.specs.Prelude.{ℕ, zero, suc, ◌≤◌, ◌≡◌, List, [], ◌∷◌, map, get_or, drop, Option, Some, None}
use Rattle.std.proofs.Math.Option.{some}
use Rattle.reach.specs.Syntax.{Types}
use Rattle.reach.specs.Types.{Fork, forks_from}
use Rattle.reach.specs.Places.{bytes_at, type_at}
use Rattle.lookups.specs.Fields.{fields_in}
use Rattle.forks.specs.declared.Candidate.{Candidate}

-- of the constructors of type t, from number c on, those that a fork takes where the part may be so deep (01: "in number order, leaving out those
-- with a field whose least depth exceeds the depth remaining below")
unfoldable pub untried : Types → List ℕ → ℕ → ℕ → ℕ → List Fork
untried types table t zero c = []
untried types table t (suc below) c = forks_from table below c (drop c (get_or types t []))

-- the same, the types' records standing at these places
abbrev pub untried_in : List ℕ → List ℕ → List ℕ → ℕ → ℕ → ℕ → List Fork
untried_in file types table t room c = untried (map (type_at file) types) table t room c

-- what the answer says: no constructor is left, or the next one, where its fields' types stand, and what is left behind it
abbrev pub NextFork : (file types table : List ℕ) (t room from : ℕ) → Option Candidate → Type 0
NextFork file types table t room from None = untried_in file types table t room from ≡ []
NextFork file types table t room from (Some next) =
    (untried_in file types table t room from ≡ record { constructor = next.number; fields = next.fields.count } ∷ untried_in file types table t room (suc next.number))
    × (fields_in file types t next.number ≡ some (bytes_at file next.fields.at next.fields.count)) × (1 ≤ room) × (from ≤ next.number)
    × (next.fields.at ≤ 1000000) × (next.fields.count ≤ 255) × (next.number ≤ 255)
