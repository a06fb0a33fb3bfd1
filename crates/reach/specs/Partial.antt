-- Reading values in prefix form, partial or closed, each of its type, with how deep it is: 02, Slips 2 and 3. A constructor without fields is 1 deep, any
-- other 1 more than its deepest field, and an open part as deep as its type's least depth. The reading goes below so many constructors, one inside another,
-- and no deeper: so it ends, and as D is at most 64, nothing that fits is missed below 64.
-- Rests on Syntax, Parts, Types and Reader.
use Rattle.std.specs.Prelude.{ℕ, zero, suc, max, ◌≤◌, ◌<◌, ◌≡◌, get_or, eqb, leb}
use mathlib.Core.List.{List, [], ◌∷◌, head?, tail}
use Rattle.std.proofs.Math.Option.{Option, none, some}
use Rattle.reach.specs.declared.Refusal.{Refusal}
use Rattle.reach.specs.declared.Refusal.TheVariants.{BadInput}
use Rattle.reach.specs.Base.{pick}
use Rattle.reach.specs.Syntax.{Types, field_types}
use Rattle.reach.specs.Parts.{Parts, end, opened, bound}
use Rattle.reach.specs.Types.{Slot, least_depths}
use Rattle.reach.specs.Reader.{Reader, ◌>>=◌, ◌>>◌, give, refuse, or_refuse, demand, byte}

-- the least depth of a type
abbrev pub least_of : Types → Option ℕ → ℕ
least_of types none = zero
least_of types (some t) = get_or (least_depths types) t 0

abbrev pub types_or : Option (List ℕ) → List ℕ
types_or none = []
types_or (some us) = us

-- the types of the fields of constructor c of a type
abbrev pub fields_in : Types → Option ℕ → ℕ → List ℕ
fields_in types none c = []
fields_in types (some t) c = types_or (field_types types t c)

-- how deep the deepest value of a row is, whose values have these types
unfoldable pub deepest : Types → List ℕ → Parts → ℕ
deepest types ts end = zero
deepest types ts (opened r) = max (least_of types (head? ts)) (deepest types (tail ts) r)
deepest types ts (bound c fs r) = max (suc (deepest types (fields_in types (head? ts) c) fs)) (deepest types (tail ts) r)

-- each value of a row is at most as deep as its slot allows
abbrev pub Keeps : Types → List Slot → Parts → Type 0
Keeps types [] e = Unit {0}
Keeps types (s ∷ ss) end = Unit {0}
Keeps types (s ∷ ss) (opened r) = (deepest types (s.type ∷ []) (opened end) ≤ s.room) × Keeps types ss r
Keeps types (s ∷ ss) (bound c fs r) = (deepest types (s.type ∷ []) (bound c fs end) ≤ s.room) × Keeps types ss r

-- What is read of one value: an open part, or a constructor with its fields; and how deep it is.
pub data Value : Type 0 where
  unbound : ℕ → Value
  built : ℕ → Parts → ℕ → Value

-- it, before the rest of its row
abbrev pub ◌before◌ : Value → Parts → Parts
◌before◌ (unbound d) r = opened r
◌before◌ (built c fs d) r = bound c fs r

infixr 60 ◌before◌
abbrev pub deep_of : Value → ℕ
deep_of (unbound d) = d
deep_of (built c fs d) = d

-- a value for each of these types, and how deep the deepest is
unfoldable pub values_by : (ℕ → Reader Value) → List ℕ → Reader (Parts × ℕ)
values_by value [] = give (end, zero)
values_by value (t ∷ ts) = do
  v ← value t
  rest ← values_by value ts
  give (v before rest.0, max (deep_of v) rest.1)

-- How values are read: how deep an open part of a type is, none where nothing may be open; and how what is no value is refused.
pub record Manner : Type 0 where
  pub open_part : ℕ → Option ℕ
  pub misfit : Refusal

-- a closed input: nothing is open; 02, Slip 3
abbrev pub in_inputs : Manner
in_inputs = record { open_part = λ t. none; misfit = BadInput }

-- no constructor of the types has the number that stands for an open part
abbrev pub OpenApart : Types → Type 0
OpenApart types = (t c : ℕ) (us : List ℕ) → field_types types t c ≡ some us → c < 0xff

-- the value of type t whose first byte is b: 0xFF for an open part, else a constructor's number before its fields
unfoldable pub value_from : Types → Manner → (List ℕ → Reader (Parts × ℕ)) → ℕ → ℕ → Reader Value
value_from types m fields t b = λ s here.
    pick (eqb b 0xff) ((or_refuse m.misfit (m.open_part t) >>= λ d. give (unbound d)) s here)
    ((or_refuse m.misfit (field_types types t b) >>= λ us. fields us >>= λ fs. give (built b fs.0 (suc fs.1))) s here)

-- a value of type t, below at most so many constructors
unfoldable pub value : Types → Manner → ℕ → ℕ → Reader Value
value types m zero t = byte >>= value_from types m (λ us. refuse m.misfit) t
value types m (suc levels) t = byte >>= value_from types m (values_by (value types m levels)) t

-- a value for each slot, at most as deep as the slot allows; and how deep the deepest is
unfoldable pub slotted : Types → Manner → ℕ → List Slot → Reader (Parts × ℕ)
slotted types m levels [] = give (end, zero)
slotted types m levels (s ∷ ss) = do
  v ← value types m levels s.type
  demand (leb (deep_of v) s.room) m.misfit
  rest ← slotted types m levels ss
  give (v before rest.0, max (deep_of v) rest.1)
