-- The search by lazy narrowing, and its verdict: 01, "Evaluation and steps" and "The list".
-- Rests on Eval and Types.
use Rattle.std.specs.Prelude.{ℕ, zero, suc, ◌+◌, length, ltb, Option, Some, None}
use mathlib.Core.List.{List, [], ◌∷◌, map, flat_map}
use Rattle.reach.specs.declared.Kind.{Kind}
use Rattle.reach.specs.declared.Kind.TheVariants.{RE, UN, MI}
use Rattle.reach.specs.declared.Counts.{Counts}
use Rattle.reach.specs.declared.Verdict.{Verdict}
use Rattle.reach.specs.declared.Verdict.TheVariants.{Found, Undecided}
use Rattle.reach.specs.Base.{pick}
use Rattle.reach.specs.Syntax.{Program, source_types}
use Rattle.reach.specs.Parts.{Parts, all_open, bind_at}
use Rattle.reach.specs.Types.{Fork, forks_at, slot_at, source_slots, least_depths}
use Rattle.reach.specs.Eval.{State, Question, answered, Next, on_next, next, start, Run, reached, ended, unfinished, missing, halted}

-- An entry: its kind, its steps, and the partial input.
pub record Entry : Type 0 where
  pub kind : Kind
  pub steps : ℕ
  pub input : Parts

-- the end that an entry speaks of
abbrev pub says : Kind → ℕ → Run
says RE n = reached n
says UN n = unfinished n
says MI n = missing n

-- the ends that a list shows: reached, unfinished, or missing
abbrev pub Shown : Run → Type 0
Shown (reached n) = Unit {0}
Shown (ended why n) = ⊥
Shown (unfinished n) = Unit {0}
Shown (missing n) = Unit {0}
Shown (halted q n) = ⊥

-- the ends that are no stop inside the step limit off target
abbrev pub ReachedOrUnfinished : Run → Type 0
ReachedOrUnfinished (reached n) = Unit {0}
ReachedOrUnfinished (ended why n) = ⊥
ReachedOrUnfinished (unfinished n) = Unit {0}
ReachedOrUnfinished (missing n) = ⊥
ReachedOrUnfinished (halted q n) = ⊥

-- 01: a closed input stops inside the step limit without demanding the target if it is neither reached nor unfinished
abbrev pub StopsInside : Run → Type 0
StopsInside r = ¬ ReachedOrUnfinished r

-- what a path that is n steps long lists at its end
abbrev pub listing : Option Kind → ℕ → Parts → List Entry
listing None n input = []
listing (Some kind) n input = record { kind = kind; steps = n; input = input } ∷ []

-- the entries of a path that is n steps long, or those of what goes on from there
unfoldable pub gather : (State → List Entry) → (Question → List Entry) → ℕ → Parts → Next → List Entry
gather go fork n input next = on_next (listing (Some RE) n input) (listing (Some MI) n input) (λ why. listing None n input) go fork next

-- a path that has used its steps
abbrev pub spent : ℕ → Parts → List Entry
spent n input = listing (Some UN) n input

-- the constructors to which the search forks where a case waits on an open part of the input
unfoldable pub branches : Program → List ℕ → Parts → Question → List Fork
branches p table input q = forks_at p.types table (slot_at p.types input q.place (source_slots p))

-- the input and the state behind a fork: the part that the case waits on is this constructor, its fields open
abbrev pub input_behind : Question → Fork → Parts → Parts
input_behind q f input = bind_at q.place f.constructor f.fields input

abbrev pub state_behind : Question → Fork → State
state_behind q f = answered q f.constructor f.fields

-- the entries below a state, with so many steps left and n done: depth first, a fork's constructors in number order.
-- A fork is paid for by the step that chooses the alternative or finds that there is none.
unfoldable pub search : Program → List ℕ → ℕ → ℕ → Parts → State → List Entry
search p table zero n input s = gather (λ s'. spent n input) (λ q. spent n input) n input (next p input s)
search p table (suc left) n input s =
    gather (λ s'. search p table left (suc n) input s')
    (λ q. flat_map (λ (f : Fork). search p table left (suc n) (input_behind q f input) (state_behind q f)) (branches p table input q))
    n
    input
    (next p input s)

-- every parameter open
unfoldable pub open_input : Program → Parts
open_input p = all_open (length (source_types p))

-- the list of a rule file: the entries of its search, in order
unfoldable pub entries : Program → List Entry
entries p = search p (least_depths p.types) p.steps 0 (open_input p) (start p)

-- one more of a kind
abbrev pub one_more : Kind → Counts → Counts
one_more RE c = record { reach = c.reach + 1; unfinished = c.unfinished; missing = c.missing }
one_more UN c = record { reach = c.reach; unfinished = c.unfinished + 1; missing = c.missing }
one_more MI c = record { reach = c.reach; unfinished = c.unfinished; missing = c.missing + 1 }

-- these kinds counted, where so many of each have gone before
unfoldable pub count_from : Counts → List Kind → Counts
count_from c [] = c
count_from c (k ∷ ks) = count_from (one_more k c) ks

-- how many of these kinds are `RE`, how many `UN`, and how many `MI`
unfoldable pub counts : List Kind → Counts
counts ks = count_from (record { reach = 0; unfinished = 0; missing = 0 }) ks

-- found with an RE, else undecided with a UN, else none
unfoldable pub verdict_by : Counts → Verdict
verdict_by c = pick (ltb 0 c.reach) Found (pick (ltb 0 c.unfinished) Undecided Verdict.None)

abbrev pub kinds_of : List Entry → List Kind
kinds_of es = map (λ (e : Entry). e.kind) es

-- the verdict of a list
unfoldable pub verdict : List Entry → Verdict
verdict es = verdict_by (counts (kinds_of es))
