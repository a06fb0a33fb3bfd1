-- How deep a part may be: no deeper than the parameters, so that a byte holds the number, as `bind_cell` requires of the bound cell.
-- Rests on machine's Cells and reach's Types and Slots.
use Prim.Native.Nat.{ℕ, ◌≤◌}
use mathlib.Core.Path.{◌≡◌}
use mathlib.Core.List.{List, [], ◌∷◌, head?, tail}
use mathlib.Core.Option.{Option, none, some, some-injective}
use native.Mathlib.Omega.{arith}
use Rattle.reach.specs.Base.{Each}
use Rattle.reach.specs.Syntax.{Types, field_types}
use Rattle.reach.specs.Parts.{Parts, end, opened, bound, Place, here, after, inside, at, There}
use Rattle.reach.specs.Types.{Slot, slots_of, field_slots, slot_at}
use Rattle.reach.proofs.Base.{clash}
use Rattle.reach.proofs.Slots.{even_each}
use Rattle.machine.specs.Cells.{cell_word, cell_of, Cells}

-- no slot of the row is deeper
abbrev AtMost : ℕ → List Slot → Type 0
AtMost d ss = Each (λ (s : Slot). s.room ≤ d) ss

module _ (types : Types) (d : ℕ) where
  first_room : (ss : List Slot) {s : Slot} → AtMost d ss → head? ss ≡ some s → s.room ≤ d
  first_room [] m h = absurd (clash (cc))
  first_room (s ∷ ss) m h = rw (← some-injective _ _ h) m.0

  rest_rooms : (ss : List Slot) → AtMost d ss → AtMost d (tail ss)
  rest_rooms [] m = tt
  rest_rooms (s ∷ ss) m = m.1

  -- the fields of a part are no deeper than the part
  types_rooms : (us : Option (List ℕ)) {b : ℕ} → b ≤ d → AtMost d (slots_of us b)
  types_rooms none h = tt
  types_rooms (some us) h = even_each _ us _ (λ t. h)

  field_rooms : (ss : List Slot) (c : ℕ) → AtMost d ss → AtMost d (field_slots types (head? ss) c)
  unfolding field_slots
  field_rooms [] c m = tt
  field_rooms (s ∷ ss) c m = types_rooms (field_types types s.type c) (omega (arith, m.0))

  -- no slot of the input is deeper than its parameters
  slot_room : (e : Parts) (q : Place) (ss : List Slot) {s : Slot} → AtMost d ss → slot_at types e q ss ≡ some s → s.room ≤ d
  unfolding slot_at
  slot_room end q ss m h = absurd (clash (cc))
  slot_room (opened r) here ss m h = first_room ss m h
  slot_room (opened r) (after q) ss m h = slot_room r q (tail ss) (rest_rooms ss m) h
  slot_room (opened r) (inside q) ss m h = absurd (clash (cc))
  slot_room (bound c fs r) here ss m h = first_room ss m h
  slot_room (bound c fs r) (after q) ss m h = slot_room r q (tail ss) (rest_rooms ss m) h
  slot_room (bound c fs r) (inside q) ss m h = slot_room fs q (field_slots types (head? ss) c) (field_rooms ss c m) h

-- the cell of a part says no more
pub cell_room :
    {types : Types} {ss : List Slot} {w : List ℕ} {top : ℕ} {e : Parts} {s : Slot} (d : ℕ) (q : Place) → AtMost d ss → Cells types ss w top e → There (at e q)
    → slot_at types e q ss ≡ some s → cell_word w (cell_of w q) 3 ≤ d
cell_room {types} {ss} {e = e} {s = s} d q shallow cells t h = omega (arith, (cells.slot q s t h).1, slot_room types d e q ss shallow h)
