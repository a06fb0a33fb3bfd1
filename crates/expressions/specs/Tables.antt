-- What the tables of a rule file keep to where its first pass found nothing. Rests on reach's Places and Limits.
use Rattle.std.specs.Prelude.{ℕ, ◌≤◌, ◌<◌, ◌≡◌, List, length, get_or}
use Rattle.std.proofs.Math.Option.{some}
use Rattle.std.proofs.Math.ListN.{get_elem?}
use Rattle.reach.specs.Limits.{field_limit, parameter_limit}
use Rattle.reach.specs.Places.{type_at, head_at}

-- every constructor has at most 6 fields
abbrev pub Narrow : List (List ℕ) → Type 0
Narrow cs = (c : ℕ) (us : List ℕ) → get_elem? cs c ≡ some us → length us ≤ field_limit

-- The tables keep to the limits of the first pass.
pub record TablesSmall (file types functions : List ℕ) : Type 0 where
  pub fields_limit : (t : ℕ) → t < length types → Narrow (type_at file (get_or types t 0))
  pub parameters_limit : (f : ℕ) → f < length functions → length (head_at file (get_or functions f 0)).parameters ≤ parameter_limit
