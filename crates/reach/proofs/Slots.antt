-- Rows of slots: their types, the slot of each part of a row, and the slots of a constructor's fields and of the source's parameters. Other laws are
-- stated for any row of slots.
-- Rests on specs/Types and Parts.
use Prim.Native.Nat.{ℕ, zero, suc, ◌+◌, ◌-◌, ◌≤◌, ◌<◌}
use mathlib.Core.Path.{◌≡◌, refl, sym, ◌∙◌, ap}
use mathlib.Core.Logic.{⊎_elim}
use mathlib.Core.List.Memᴰ
use mathlib.Core.List.{List, [], ◌∷◌, tail}
use mathlib.Core.Option.{some, some-injective, none-ne-some}
use native.Mathlib.Nat.{suc-add, not-suc-le-zero, le_of_suc-le-suc}
use lib.ListN.{length, get_or, get_elem?, drop, replicate, get_or-replicate}
use Rattle.reach.specs.Base.{◌∈◌, Each}
use Rattle.reach.specs.Syntax.{Types, Program, field_types, source_types}
use Rattle.reach.specs.Parts.{Parts, end, opened, bound, width, part}
use Rattle.reach.specs.Types.{Slot, slots, even_slots, slot_types, field_slots, source_slots, slot_at}

-- slots of these types have these types, whatever the depths are
pub slots_types : (ts ds : List ℕ) → slot_types (slots ts ds) ≡ ts
unfolding slots slot_types
slots_types [] ds = refl
slots_types (t ∷ ts) ds = ap (◌∷◌ t) (slots_types ts (tail ds))

pub even_types : (ts : List ℕ) (d : ℕ) → slot_types (even_slots ts d) ≡ ts
unfolding even_slots
even_types ts d = slots_types ts (replicate (length ts) d)

-- what holds of every slot of one depth holds of these
pub even_each : (P : Slot → Type 0) (ts : List ℕ) (d : ℕ) → ((t : ℕ) → P (record { type = t; room = d })) → Each P (even_slots ts d)
unfolding even_slots slots
even_each P [] d h = tt
even_each P (t ∷ ts) d h = (h t, even_each P ts d h)

-- enough equal depths make slots of one depth
pub even_slots_law : (ts : List ℕ) (n d : ℕ) → length ts ≤ n → slots ts (replicate n d) ≡ even_slots ts d
unfolding even_slots slots
even_slots_law [] n d few = refl
even_slots_law (t ∷ ts) zero d few = absurd (not-suc-le-zero few)
even_slots_law (t ∷ ts) (suc n) d few = ap (◌∷◌ (record { type = t; room = d })) (even_slots_law ts n d (le_of_suc-le-suc few))

-- there is one for each of the types
pub member_even : (ts : List ℕ) (d t : ℕ) → t ∈ ts → record { type = t; room = d } ∈ even_slots ts d
unfolding even_slots slots
member_even [] d t m = absurd (Memᴰ.not-nil m)
member_even (u ∷ ts) d t m =
    ⊎_elim {C = record { type = t; room = d } ∈ even_slots (u ∷ ts) d} (λ same. Memᴰ.head (ap (λ (x : ℕ). record { type = x; room = d }) same))
    (λ later. Memᴰ.tail (member_even ts d t later))
    (Memᴰ.cases_cons m)

-- with the depths from a number on: the first slot has the depth of that number, the others those from the next on
pub slots_from : (t : ℕ) (ts ds : List ℕ) (i : ℕ) → slots (t ∷ ts) (drop i ds) ≡ record { type = t; room = get_or ds i 0 } ∷ slots ts (drop (i + 1) ds)
unfolding slots
slots_from t ts [] zero = refl
slots_from t ts (d ∷ ds) zero = refl
slots_from t ts [] (suc i) = rw suc-add refl
slots_from t ts (d ∷ ds) (suc i) = rw suc-add (slots_from t ts ds i)

-- a member of a row of slots has one of its types
pub slots_member : (ts ds : List ℕ) (s : Slot) → s ∈ slots ts ds → s.type ∈ ts
unfolding slots
slots_member [] ds s m = absurd (Memᴰ.not-nil m)
slots_member (t ∷ ts) ds s m =
    ⊎_elim {C = s.type ∈ (t ∷ ts)} (λ same. Memᴰ.head (ap (λ (x : Slot). x.type) same)) (λ later. Memᴰ.tail (slots_member ts (tail ds) s later))
    (Memᴰ.cases_cons m)

-- each slot has one type
pub types_length : (ss : List Slot) → length (slot_types ss) ≡ length ss
unfolding slot_types
types_length [] = refl
types_length (s ∷ ss) = ap suc (types_length ss)

pub even_length : (ts : List ℕ) (d : ℕ) → length (even_slots ts d) ≡ length ts
even_length ts d = sym (types_length (even_slots ts d)) ∙ ap length (even_types ts d)

-- the slot of a number: the type and the depth of that number, of any row the type
pub slots_nth : (ts ds : List ℕ) (n : ℕ) → n < length ts → get_elem? (slots ts ds) n ≡ some (record { type = get_or ts n 0; room = get_or ds n 0 })
unfolding slots
slots_nth [] ds n l = absurd (not-suc-le-zero l)
slots_nth (t ∷ ts) ds zero l = refl
slots_nth (t ∷ ts) [] (suc n) l = slots_nth ts [] n (le_of_suc-le-suc l)
slots_nth (t ∷ ts) (d ∷ ds) (suc n) l = slots_nth ts ds n (le_of_suc-le-suc l)

pub even_nth : (ts : List ℕ) (d n : ℕ) → n < length ts → get_elem? (even_slots ts d) n ≡ some (record { type = get_or ts n 0; room = d })
unfolding even_slots
even_nth ts d n l =
    slots_nth ts (replicate (length ts) d) n l ∙ ap (λ (x : ℕ). some (record { type = get_or ts n 0; room = x })) (get_or-replicate (length ts) n d 0 l)

pub types_nth : (ss : List Slot) (n t : ℕ) → get_elem? (slot_types ss) n ≡ some t → (d : ℕ) × (get_elem? ss n ≡ some (record { type = t; room = d }))
unfolding slot_types
types_nth [] n t g = absurd (none-ne-some t g)
types_nth (s ∷ ss) zero t g = (s.room, rw (← some-injective s.type t g))
types_nth (s ∷ ss) (suc n) t g = types_nth ss n t g

-- part n of a row stands in slot n
pub part_slot : (types : Types) (e : Parts) (n : ℕ) (ss : List Slot) → n < width e → slot_at types e (part n) ss ≡ get_elem? ss n
unfolding slot_at part width
part_slot types end n ss l = absurd (not-suc-le-zero l)
part_slot types (opened r) zero [] l = refl
part_slot types (opened r) zero (s ∷ ss) l = refl
part_slot types (opened r) (suc n) [] l = part_slot types r n [] (le_of_suc-le-suc l)
part_slot types (opened r) (suc n) (s ∷ ss) l = part_slot types r n ss (le_of_suc-le-suc l)
part_slot types (bound c fs r) zero [] l = refl
part_slot types (bound c fs r) zero (s ∷ ss) l = refl
part_slot types (bound c fs r) (suc n) [] l = part_slot types r n [] (le_of_suc-le-suc l)
part_slot types (bound c fs r) (suc n) (s ∷ ss) l = part_slot types r n ss (le_of_suc-le-suc l)

-- the fields of a constructor have slots of its fields' types, each one less deep
pub field_slots_law : (types : Types) (s : Slot) (c d : ℕ) (us : List ℕ) → s.room - 1 ≡ d → field_types types s.type c ≡ some us
    → field_slots types (some s) c ≡ even_slots us d
unfolding field_slots
field_slots_law types s c d us h g = rw (g, h)

pub field_types_law : (types : Types) (s : Slot) (c : ℕ) (us : List ℕ) → field_types types s.type c ≡ some us → slot_types (field_slots types (some s) c) ≡ us
field_types_law types s c us g = ap slot_types (field_slots_law types s c (s.room - 1) us refl g) ∙ even_types us (s.room - 1)

-- the parameters of the source have slots of their types
pub source_types_law : (p : Program) → slot_types (source_slots p) ≡ source_types p
unfolding source_slots
source_types_law p = slots_types (source_types p) p.depths

pub source_length : (p : Program) → length (source_slots p) ≡ length (source_types p)
source_length p = sym (types_length (source_slots p)) ∙ ap length (source_types_law p)
