-- The states that an evaluation comes to: which parts of the input they speak of, at which of them it ends, how many steps lead to them, that what a step
-- meets there is there, and at which of them an alternative is missing.
-- Rests on Parts, Types, Eval, Encoding and Typing.
use Rattle.std.specs.Prelude.{ℕ, zero, suc, ◌+◌, ◌<◌, ◌≡◌, List, [], ◌∷◌, length, get_or}
use Rattle.std.proofs.Math.Option.{some}
use Rattle.reach.specs.Syntax.{variable, call, construct, case, let_in, target, Exprs, []ₑ, ◌∷ₑ◌, count, Alternatives, no_more, absent, present, Function, Program, field_types, function_at}
use Rattle.reach.specs.Parts.{Parts, Place, has, at, There}
use Rattle.reach.specs.Types.{source_slots, slot_at}
use Rattle.reach.specs.Encoding.{count_alternatives}
use Rattle.reach.specs.Eval.{fields_of, part_of, Env, empty, operands, input_parts, size, Closure, lookup, Frame, waiting, fields, State, evaluating, inspecting, uncovered, stuck, goes, next, start}
use Rattle.reach.specs.Typing.{signatures, Covers}

-- Every place that a state speaks of is there in the input.

abbrev pub EnvIn : Parts → Env → Type 0
EnvIn e empty = Unit {0}
EnvIn e (operands outer es inner) = EnvIn e outer × EnvIn e inner
EnvIn e (input_parts outer row k) = EnvIn e outer × ((n : ℕ) → n < k → There (at e (part_of row n)))

abbrev pub FramesIn : Parts → List Frame → Type 0
FramesIn e [] = Unit {0}
FramesIn e (waiting alts env ∷ fs) = EnvIn e env × FramesIn e fs
FramesIn e (fields x xs env ∷ fs) = EnvIn e env × FramesIn e fs

abbrev pub StateIn : Parts → State → Type 0
StateIn e (evaluating x env fs) = EnvIn e env × FramesIn e fs
StateIn e (inspecting q fs) = There (at e q) × FramesIn e fs
StateIn e uncovered = Unit {0}
StateIn e stuck = Unit {0}

-- 01, *ended*: "a constructor, or an open part of the input, with no case waiting"; 02, Slip 7: "no field waits either", its own or another's
abbrev pub NothingWaits : State → Type 0
NothingWaits (evaluating (variable n) env fs) = ⊥
NothingWaits (evaluating (call f es) env fs) = ⊥
NothingWaits (evaluating (construct t c []ₑ) env []) = Unit {0}
NothingWaits (evaluating (construct t c (x ∷ₑ es)) env []) = ⊥
NothingWaits (evaluating (construct t c es) env (f ∷ fs)) = ⊥
NothingWaits (evaluating (case t e alts) env fs) = ⊥
NothingWaits (evaluating (let_in t e body) env fs) = ⊥
NothingWaits (evaluating (target l e) env fs) = ⊥
NothingWaits (inspecting q []) = Unit {0}
NothingWaits (inspecting q (f ∷ fs)) = ⊥
NothingWaits uncovered = ⊥
NothingWaits stuck = ⊥

-- s is reached from the source's start after n steps on the input
pub data Steps (p : Program) (i : Parts) : ℕ → State → Type 0 where
  no_step : Steps p i zero (start p)
  one_more : {n : ℕ} {s s' : State} → Steps p i n s → next p i s ≡ goes s' → Steps p i (suc n) s'

-- the input has a part at this place, and it is of this type
abbrev pub PartHas : Program → Parts → Place → ℕ → Type 0
PartHas p i q t = (room : ℕ) × (slot_at p.types i q (source_slots p) ≡ some (record { type = t; room = room }))

-- The alternatives are those of a case on type t: one or none for each constructor, which sees the variables in view and the constructor's fields.
pub record CaseOn (p : Program) (t : ℕ) (alts : Alternatives) (env : Env) : Type 0 where
  pub variables : List ℕ
  pub result : ℕ
  pub in_view : size env ≡ length variables
  pub covers : Covers p.types (signatures p) alts variables (get_or p.types t []) result
  pub as_many : count_alternatives alts ≡ length (get_or p.types t [])

-- A case on type t in `outer` has constructor c chosen: it is one of the type's, and not beyond the alternatives; and the alternative's
-- environment `inner` has a variable more for each field of c.
pub record Chooses (p : Program) (t c : ℕ) (alts : Alternatives) (outer inner : Env) : Type 0 where
  pub fields : List ℕ
  pub constructor_exists : field_types p.types t c ≡ some fields
  pub within_alternatives : c < count_alternatives alts
  pub fields_agree : size inner ≡ size outer + length fields

-- What a step meets at a state: a variable that is there; a function that exists, with an argument for each parameter; an input part that is
-- there; a case on the type of the constructor or of the input part that it is given, with fields in the right number.
abbrev pub Sound : Program → Parts → State → Type 0
Sound p i (evaluating (variable n) env fs) = (x : Closure) × (lookup env n ≡ some x)
Sound p i (evaluating (call f es) env fs) = (g : Function) × (function_at p f ≡ some g) × (count es ≡ length g.parameters)
Sound p i (evaluating (construct t c es) env []) = Unit {0}
Sound p i (evaluating (construct t c es) env (fields x xs outer ∷ fs)) = Unit {0}
Sound p i (evaluating (construct t c es) env (waiting alts outer ∷ fs)) = CaseOn p t alts outer × Chooses p t c alts outer (operands outer es env)
Sound p i (evaluating (case t e alts) env fs) = CaseOn p t alts env
Sound p i (evaluating (let_in t e body) env fs) = Unit {0}
Sound p i (evaluating (target l e) env fs) = Unit {0}
Sound p i (inspecting q []) = (t : ℕ) × PartHas p i q t
Sound p i (inspecting q (fields x xs outer ∷ fs)) = (t : ℕ) × PartHas p i q t
Sound p i (inspecting q (waiting alts outer ∷ fs)) =
    (t : ℕ) × PartHas p i q t × CaseOn p t alts outer × ((c k : ℕ) → at i q ≡ has c k → Chooses p t c alts outer (input_parts outer (fields_of q) k))
Sound p i uncovered = Unit {0}
Sound p i stuck = ⊥

-- the alternatives have none for constructor c
abbrev pub Without : Alternatives → ℕ → Type 0
Without no_more c = ⊥
Without (absent alts) zero = Unit {0}
Without (absent alts) (suc c) = Without alts c
Without (present e alts) zero = ⊥
Without (present e alts) (suc c) = Without alts c

-- 01: a case has its constructor, one that the rule built or one of the input, and the next step finds that there is no alternative for it
pub data FindsNone (i : Parts) : State → Type 0 where
  for_construction :
      {t c : ℕ} {es : Exprs} {env outer : Env} {alts : Alternatives} {fs : List Frame}
      → Without alts c → FindsNone i (evaluating (construct t c es) env (waiting alts outer ∷ fs))
  for_part :
      {q : Place} {c k : ℕ} {outer : Env} {alts : Alternatives} {fs : List Frame}
      → at i q ≡ has c k → Without alts c → FindsNone i (inspecting q (waiting alts outer ∷ fs))

-- with fewer than S steps done, the last of n steps finds that an alternative is missing
abbrev pub MissingAfter : Program → Parts → ℕ → Type 0
MissingAfter p i n = (m : ℕ) × (s : State) × (n ≡ suc m) × (m < p.steps) × Steps p i m s × FindsNone i s
