-- Inputs of the source's types, least depths, and the constructors that a fork takes: 01, "Evaluation and steps".
-- Rests on Syntax and Parts.
use Rattle.std.specs.Prelude.{ℕ, zero, suc, ◌-◌, ◌≤◌, ◌≡◌, Bool, true, false, ◌&&◌, ◌||◌, length, get_or, replicate, ltb, leb}
use mathlib.Core.List.{List, [], ◌∷◌, zip_with, head?, tail}
use Rattle.std.proofs.Math.Option.{Option, none, some}
use Rattle.reach.specs.Base.{pick}
use Rattle.reach.specs.Syntax.{Types, Program, field_types, source_types}
use Rattle.reach.specs.Parts.{Parts, end, opened, bound, Place, here, after, inside, Closed, depth}

-- each part of the row that is bound has a constructor of its type, with fields of that constructor's types
abbrev pub Typed : Types → List ℕ → Parts → Type 0
Typed types [] end = Unit {0}
Typed types [] (opened r) = ⊥
Typed types [] (bound c fs r) = ⊥
Typed types (t ∷ ts) end = ⊥
Typed types (t ∷ ts) (opened r) = Typed types ts r
Typed types (t ∷ ts) (bound c fs r) = (us : List ℕ) × (field_types types t c ≡ some us) × Typed types us fs × Typed types ts r

-- What may stand at a place: a value of this type that is at most this deep.
pub record Slot : Type 0 where
  pub type : ℕ
  pub room : ℕ

-- a slot for each of these types, with a depth for each in their order; a type that has none has no room
unfoldable pub slots : List ℕ → List ℕ → List Slot
slots [] ds = []
slots (t ∷ ts) ds = record { type = t; room = get_or ds 0 0 } ∷ slots ts (tail ds)

-- the same with one depth for all
unfoldable pub even_slots : List ℕ → ℕ → List Slot
even_slots ts d = slots ts (replicate (length ts) d)

unfoldable pub slot_types : List Slot → List ℕ
slot_types [] = []
slot_types (s ∷ ss) = s.type ∷ slot_types ss

-- the parameters of the source, each with a depth of its own
unfoldable pub source_slots : Program → List Slot
source_slots p = slots (source_types p) p.depths

-- the D of a goal that gives every parameter the same depth, as GO does
abbrev pub depth_of : List ℕ → ℕ
depth_of depths = get_or depths 0 0

abbrev pub slots_of : Option (List ℕ) → ℕ → List Slot
slots_of none d = []
slots_of (some us) d = even_slots us d

-- the fields of constructor c in a slot: each may be one less deep
unfoldable pub field_slots : Types → Option Slot → ℕ → List Slot
field_slots types none c = []
field_slots types (some s) c = slots_of (field_types types s.type c) (s.room - 1)

-- the slot at a place of a partial input, whose own parts have these slots
unfoldable pub slot_at : Types → Parts → Place → List Slot → Option Slot
slot_at types end q ss = none
slot_at types (opened r) here ss = head? ss
slot_at types (opened r) (after q) ss = slot_at types r q (tail ss)
slot_at types (opened r) (inside q) ss = none
slot_at types (bound c fs r) here ss = head? ss
slot_at types (bound c fs r) (after q) ss = slot_at types r q (tail ss)
slot_at types (bound c fs r) (inside q) ss = slot_at types fs q (field_slots types (head? ss) c)

-- 01: a closed input gives each source parameter a value of its type that holds constructors only
abbrev pub ClosedInput : Program → Parts → Type 0
ClosedInput p j = Closed j × Typed p.types (source_types p) j

-- each part of the row is at most as deep as its slot allows
abbrev pub Fits : List Slot → Parts → Type 0
Fits [] j = Unit {0}
Fits (s ∷ ss) end = Unit {0}
Fits (s ∷ ss) (opened r) = Fits ss r
Fits (s ∷ ss) (bound c fs r) = (suc (depth fs) ≤ s.room) × Fits ss r

-- 01: a closed input that fits is within the depth
abbrev pub WithinDepth : Program → Parts → Type 0
WithinDepth p j = ClosedInput p j × Fits (source_slots p) j

-- a closed value of type t
abbrev pub ValueOf : Types → ℕ → Parts → Type 0
ValueOf types t v = Closed v × Typed types (t ∷ []) v

-- 01: the least depth of a type is that of its shallowest closed value
abbrev pub LeastDepth : Types → ℕ → ℕ → Type 0
LeastDepth types t d = ((v : Parts) × ValueOf types t v × (depth v ≡ d)) × ((v : Parts) → ValueOf types t v → d ≤ depth v)

-- Least depths, found in rounds. A table has a number for each type: its least depth, or 0 while no closed value of it is known.
unfoldable pub known : List ℕ → List ℕ → Bool
known table [] = true
known table (t ∷ ts) = ltb 0 (get_or table t 0) && known table ts

-- one of these constructors has fields of known types only
unfoldable pub inhabited : List ℕ → List (List ℕ) → Bool
inhabited table [] = false
inhabited table (us ∷ cs) = known table us || inhabited table cs

-- round d: a type that had no number gets d, if it is now inhabited
unfoldable pub round : Types → ℕ → List ℕ → List ℕ
round types d table = zip_with (λ cs old. pick (ltb 0 old) old (pick (inhabited table cs) d 0)) types table

unfoldable pub rounds : Types → ℕ → List ℕ
rounds types zero = replicate (length types) 0
rounds types (suc d) = round types (suc d) (rounds types d)

-- as many rounds as there are types: further ones change nothing
unfoldable pub least_depths : Types → List ℕ
least_depths types = rounds types (length types)

-- by the table, each of these types has a closed value that is at most d deep
unfoldable pub shallow : List ℕ → ℕ → List ℕ → Bool
shallow table d [] = true
shallow table d (t ∷ ts) = (ltb 0 (get_or table t 0) && leb (get_or table t 0) d) && shallow table d ts

-- by the table, each of these slots has a closed value that fits it
unfoldable pub roomy : List ℕ → List Slot → Bool
roomy table [] = true
roomy table (s ∷ ss) = shallow table s.room (s.type ∷ []) && roomy table ss

-- A constructor that a fork takes, with its number of fields.
pub record Fork : Type 0 where
  pub constructor : ℕ
  pub fields : ℕ

-- of the constructors from number c on, those whose fields all have a value that is at most d deep
unfoldable pub forks_from : List ℕ → ℕ → ℕ → List (List ℕ) → List Fork
forks_from table d c [] = []
forks_from table d c (us ∷ cs) =
    let rest = forks_from table d (suc c) cs in
    pick (shallow table d us) (record { constructor = c; fields = length us } ∷ rest) rest

-- 01: the constructors of the type, in number order, without those that have a field whose least depth exceeds the depth remaining below
unfoldable pub forks : Types → List ℕ → ℕ → ℕ → List Fork
forks types table t zero = []
forks types table t (suc below) = forks_from table below 0 (get_or types t [])

unfoldable pub forks_at : Types → List ℕ → Option Slot → List Fork
forks_at types table none = []
forks_at types table (some s) = forks types table s.type s.room
