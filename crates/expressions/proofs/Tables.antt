-- Narrow constructors: the tables of a file that passed the first pass have few fields to each constructor.
-- Rests on reach's Places and on lookups' Chains.
use Prim.Native.Nat.{ℕ, suc, ◌≤◌}
use mathlib.Core.Path.{◌≡◌, refl, ap, ◌∙◌}
use mathlib.Core.List.{List, ◌∷◌, map}
use Rattle.reach.specs.Places.{bytes_at}
use Rattle.reach.proofs.Places.{bytes_length}
use Rattle.lookups.specs.declared.EachConstructor.{EachConstructor}
use Rattle.lookups.specs.Fields.{places_left, constructors_left}
use Rattle.lookups.proofs.Chains.{fields_of_place, constructors_are}
use Rattle.expressions.specs.Tables.{Narrow}

-- narrow constructors: the first has few fields, and the others are narrow
pub narrow_first : (s : List ℕ) (at count : ℕ) (cs : List (List ℕ)) → Narrow (bytes_at s at count ∷ cs) → count ≤ 6
narrow_first s at count cs narrow = rw (bytes_length s at count) at (narrow 0 (bytes_at s at count) refl)

pub narrow_rest : (us : List ℕ) (cs : List (List ℕ)) → Narrow (us ∷ cs) → Narrow cs
narrow_rest us cs narrow c vs e = narrow (suc c) vs e

-- the constructors that an iterator over those of a type has to give
pub each_fields : (s : List ℕ) (each all : EachConstructor) → each ≡ all → all.file.now ≡ s → {cs : List (List ℕ)} → constructors_left all ≡ cs
    → map (fields_of_place s) (places_left each) ≡ cs
each_fields s each all e here is =
    ap (λ (i : EachConstructor). map (fields_of_place s) (places_left i)) e
    ∙ rw (← here) (constructors_are all.file.now all.at all.left ∙ is)
