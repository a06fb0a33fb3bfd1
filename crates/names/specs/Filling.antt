-- Filling what is open in a partial value: 02, Slip 4, "choosing at each place the first constructor of least depth". A constructor has its type's least
-- depth if all its fields have values that are less deep. The table is that of least depths. Below an open part so many levels of constructors are made
-- at most: what is no deeper than that needs no more.
-- Rests on reach's Syntax, Parts, Types and Partial.
use Rattle.std.specs.Prelude.{ℕ, zero, suc, ◌-◌, ◌≡◌, Bool, false, get_or, eqb}
use mathlib.Core.List.{List, [], ◌∷◌, head?, tail}
use Rattle.std.proofs.Math.Option.{Option, none, some}
use Rattle.reach.specs.Base.{pick}
use Rattle.reach.specs.Syntax.{Types}
use Rattle.reach.specs.Parts.{Parts, end, opened, bound}
use Rattle.reach.specs.Types.{least_depths, shallow}
use Rattle.reach.specs.Partial.{fields_in}

-- of these constructors, counted from c, the first whose fields all have a value that is at most d deep, with the types of its fields
unfoldable pub first_of : List ℕ → ℕ → ℕ → List (List ℕ) → Option (ℕ × List ℕ)
first_of table d c [] = none
first_of table d c (us ∷ cs) = pick (shallow table d us) (some (c, us)) (first_of table d (suc c) cs)

-- the first constructor of least depth of a type, by the table of least depths
unfoldable pub first_least : Types → List ℕ → Option ℕ → Option (ℕ × List ℕ)
first_least types table none = none
first_least types table (some t) = first_of table (get_or table t 0 - 1) 0 (get_or types t [])

-- this constructor over such fields, before the rest of its row; an open part where there is none
unfoldable pub built_by : (List ℕ → Parts) → Option (ℕ × List ℕ) → Parts → Parts
built_by fields none r = opened r
built_by fields (some (c, us)) r = bound c (fields us) r

-- a row with one value for each type
unfoldable pub each_of : (ℕ → Parts → Parts) → List ℕ → Parts
each_of one [] = end
each_of one (t ∷ ts) = one t (each_of one ts)

-- the least values of these types, one behind the other, below at most so many constructors
unfoldable pub least_row : Types → List ℕ → ℕ → List ℕ → Parts
least_row types table zero ts = each_of (λ t r. opened r) ts
least_row types table (suc levels) ts = each_of (λ t. built_by (least_row types table levels) (first_least types table (some t))) ts

-- the row, whose values have these types, with every open part filled
unfoldable pub fill : Types → List ℕ → ℕ → List ℕ → Parts → Parts
fill types table levels ts end = end
fill types table levels ts (opened r) = built_by (least_row types table levels) (first_least types table (head? ts)) (fill types table levels (tail ts) r)
fill types table levels ts (bound c fs r) = bound c (fill types table levels (fields_in types (head? ts) c) fs) (fill types table levels (tail ts) r)

-- every open part of the row is of a type that has a closed value
abbrev pub Fillable : Types → List ℕ → Parts → Type 0
Fillable types ts end = Unit {0}
Fillable types ts (opened r) = ((t e : ℕ) × (head? ts ≡ some t) × (get_or (least_depths types) t 0 ≡ suc e)) × Fillable types (tail ts) r
Fillable types ts (bound c fs r) = Fillable types (fields_in types (head? ts) c) fs × Fillable types (tail ts) r

-- a parameter has the named type
unfoldable pub is_named : ℕ → Option ℕ → Bool
is_named named none = false
is_named named (some t) = eqb t named

-- the row with the open parts of those values filled that have the named type; 02, Slip 4: "fills every open part of the source parameters of the named type"
unfoldable pub fill_named : Types → List ℕ → ℕ → ℕ → List ℕ → Parts → Parts
fill_named types table levels named ts end = end
fill_named types table levels named ts (opened r) =
    let rest = fill_named types table levels named (tail ts) r in
    pick (is_named named (head? ts)) (built_by (least_row types table levels) (first_least types table (head? ts)) rest) (opened rest)
fill_named types table levels named ts (bound c fs r) =
    bound c (pick (is_named named (head? ts)) (fill types table levels (fields_in types (head? ts) c) fs) fs) (fill_named types table levels named (tail ts) r)
