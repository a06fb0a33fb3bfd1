-- States that are reached on a partial input: the places that they speak of are there, and they are reached on every input that binds at least as
-- much; and a partial input keeps to its types where an open part is bound to a constructor of its type.
-- Rests on Evaluation and Slots.
use Prim.Native.Nat.{ℕ}
use mathlib.Core.Path.{◌≡◌, sym, subst}
use mathlib.Core.List.{List, [], ◌∷◌}
use mathlib.Core.Option.{some, some-injective}
use lib.ListN.{length}
use Rattle.reach.specs.Syntax.{Types, Program, field_types, source_types}
use Rattle.reach.specs.Parts.{Parts, end, opened, bound, width, all_open, Place, here, after, inside, free, at, bind_at, ◌⊑◌, There}
use Rattle.reach.specs.Types.{Typed, Slot, slot_types, field_slots, slot_at}
use Rattle.reach.specs.Eval.{State, goes}
use Rattle.reach.proofs.Order.{free_unbound}
use Rattle.reach.specs.States.{StateIn, Steps, no_step, one_more}
use Rattle.reach.proofs.Slots.{field_types_law}
use Rattle.reach.proofs.Evaluation.{start_in, next_in, next_more}

-- the places that they speak of are there
pub steps_in_law : (p : Program) (e : Parts) → width e ≡ length (source_types p) → {n : ℕ} {s : State} → Steps p e n s → StateIn e s
steps_in_law p e wide no_step = start_in p e wide
steps_in_law p e wide (one_more {s = s} {s' = s'} before on) = next_in p e s (steps_in_law p e wide before) (goes s') on

-- what is reached on an input is reached on every input that binds at least as much
pub steps_more :
    (p : Program) {e j : Parts} → e ⊑ j → width e ≡ length (source_types p) → {n : ℕ} {s : State} → Steps p e n s → Steps p j n s
steps_more p below wide no_step = no_step
steps_more p {e} below wide (one_more {s = s} {s' = s'} before on) =
    one_more (steps_more p below wide before) (next_more p below s (steps_in_law p e wide before) (goes s') tt on)

-- open parts are of every type
pub open_typed : (types : Types) (ts : List ℕ) → Typed types ts (all_open (length ts))
unfolding all_open
open_typed types [] = tt
open_typed types (t ∷ ts) = open_typed types ts

-- binding an open part to a constructor of its type keeps the types
pub bind_typed :
    (types : Types) (ss : List Slot) (e : Parts) (q : Place) (s : Slot) (c : ℕ) (us : List ℕ) → Typed types (slot_types ss) e → at e q ≡ free
    → slot_at types e q ss ≡ some s → field_types types s.type c ≡ some us → Typed types (slot_types ss) (bind_at q c (length us) e)
unfolding at bind_at slot_at slot_types
bind_typed types ss end q s c us h g k f = h
bind_typed types [] (opened r) q s c us h g k f = absurd h
bind_typed types (t ∷ ss) (opened r) here s c us h g k f = (us, rw (← some-injective t s k) at f, open_typed types us, h)
bind_typed types (t ∷ ss) (opened r) (after q) s c us h g k f = bind_typed types ss r q s c us h g k f
bind_typed types (t ∷ ss) (opened r) (inside q) s c us h g k f = absurd (subst There (sym g) tt)
bind_typed types [] (bound b fs r) q s c us h g k f = absurd h
bind_typed types (t ∷ ss) (bound b fs r) here s c us h g k f = absurd (free_unbound (sym g))
bind_typed types (t ∷ ss) (bound b fs r) (after q) s c us h g k f = (h.0, h.1, h.2, bind_typed types ss r q s c us h.3 g k f)
bind_typed types (t ∷ ss) (bound b fs r) (inside q) s c us h g k f =
    let fields = field_types_law types t b h.0 h.1 in
    (h.0, h.1, rw (← fields) (bind_typed types (field_slots types (some t) b) fs q s c us (rw fields h.2) g k f), h.3)
