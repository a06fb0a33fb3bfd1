-- The demands of the request, as theorems about the definitions, in the words of 01. A reviewer reads this file first: the sentence that a
-- theorem answers stands above it, and its statement uses definitions of specs/ only.
-- `check file ≡ accepted p` says that the file is accepted and p is its program; `search_answer file work list` is the search's answer,
-- with a work slice and a list slice of those lengths.
-- Those about closed inputs in bytes stand in Demands of crate readings, those about lists that are handed in and about texts in Demands of crate lists.
-- Rests on the other files of this folder.
use Prim.Native.Nat.{ℕ, suc, ◌≤◌, ◌<◌}
use mathlib.Core.Path.{◌≡◌, refl, subst}
use mathlib.Core.Logic.{◌↔◌, ◌≢◌}
use mathlib.Core.List.{List, ◌∷◌, [], ◌++◌}
use mathlib.Core.Option.{none, some}
use lib.ListN.{length, get_or, get_elem?, replicate}
use Rattle.reach.specs.declared.Refusal.TheVariants.{WorkTooShort}
use Rattle.reach.specs.declared.Verdict.TheVariants.{None}
use Rattle.reach.specs.Base.{◌∈◌}
use Rattle.reach.specs.Limits.{type_limit, parameter_limit, depth_limit, work_words}
use Rattle.reach.specs.Syntax.{Types, Program}
use Rattle.reach.specs.Parts.{Parts, Place, open_at, BoundPart, Completes, prefix}
use Rattle.reach.specs.Types.{depth_of, ClosedInput, WithinDepth, ValueOf, LeastDepth, rounds, least_depths}
use Rattle.reach.specs.Eval.{missing, halted, run, Spent, NotHalted}
use Rattle.reach.specs.Search.{Entry, says, Shown, StopsInside, entries}
use Rattle.reach.specs.States.{MissingAfter}
use Rattle.reach.specs.Whole.{whole_run}
use Rattle.reach.specs.Moves.{Walk, move, owed_moves, finished}
use Rattle.reach.specs.Lists.{list_bytes, room_of}
use Rattle.reach.specs.Answers.{accepted, check, no_search, complete, cut_short, search_answer, listed, refusal_of, verdict_of}
use Rattle.reach.proofs.LeastDepths as LeastDepths
use Rattle.reach.proofs.Evaluation.{run_spent, run_ends}
use Rattle.reach.proofs.Missing as Missing
use Rattle.reach.proofs.Moves as Moves
use Rattle.reach.proofs.Whole as Whole
use Rattle.reach.proofs.Limits.{accepted_keeps}
use Rattle.reach.proofs.EntryLength.{entry_within}
use Rattle.reach.proofs.Answers.{Means, search_means, listed_in, complete_is, short_work}
use Rattle.reach.proofs.Accepted.{entries_true, entries_cover, entries_apart, entries_reopen, entries_inhabited, none_answer}

-- Demand 2: "Every listed entry is true: each closed input that completes it within the depth ends as the entry says, reached or unfinished,
-- after exactly the listed steps of the published evaluation." Here for every closed input, however deep, and for a list cut short too; and, by 02,
-- Slip 1, "What holds for the listed kinds [..] holds for the new kind": or missing.
pub entry_true : (file : List ℕ) (work list : ℕ) (p : Program) → check file ≡ accepted p
    → (e : Entry) → e ∈ listed (search_answer file work list)
    → (j : Parts) → ClosedInput p j → Completes j e.input → run p j ≡ says e.kind e.steps
entry_true file work list p h e m = entries_true file p h e (listed_in file work list p h e m)

-- Demand 2: "On a complete list, each closed input within the depth that reaches the target or is unfinished at the step limit completes an entry." The same
-- of one that runs into a missing alternative; and the entry is of its kind, with its steps.
pub list_covers : (file : List ℕ) (work list : ℕ) (p : Program) → check file ≡ accepted p
    → (es : List Entry) → search_answer file work list ≡ complete es
    → (j : Parts) → WithinDepth p j → Shown (run p j)
    → (e : Entry) × (e ∈ es) × Completes j e.input × (run p j ≡ says e.kind e.steps)
list_covers file work list p h es a j w t = rw (complete_is file work list p h es a) (entries_cover file p h j w t)

-- Demand 3: "on a complete list each closed input, however deep, completes at most one entry." Entries are told apart by their numbers.
pub inputs_apart : (file : List ℕ) (work list : ℕ) (p : Program) → check file ≡ accepted p
    → (es : List Entry) → search_answer file work list ≡ complete es
    → (a b : ℕ) (x y : Entry) → get_elem? es a ≡ some x → get_elem? es b ≡ some y → a ≢ b
    → (j : Parts) → ClosedInput p j → Completes j x.input → ¬ Completes j y.input
inputs_apart file work list p h es c = rw (complete_is file work list p h es c) (entries_apart file p h)

-- Demand 3: "Open any one bound part of any entry again, and the evaluation halts on that very part." Of a list cut short too.
pub reopened_halts : (file : List ℕ) (work list : ℕ) (p : Program) → check file ≡ accepted p
    → (e : Entry) → e ∈ listed (search_answer file work list)
    → (q : Place) → BoundPart e.input q → (n : ℕ) × (run p (open_at q e.input) ≡ halted q n) × (n < p.steps)
reopened_halts file work list p h e m = entries_reopen file p h e (listed_in file work list p h e m)

-- 01: "Every open part therefore has a completion that fits": every entry has a completion within the depth.
pub entry_inhabited : (file : List ℕ) (work list : ℕ) (p : Program) → check file ≡ accepted p
    → (e : Entry) → e ∈ listed (search_answer file work list) → (j : Parts) × WithinDepth p j × Completes j e.input
entry_inhabited file work list p h e m = entries_inhabited file p h e (listed_in file work list p h e m)

-- Demand 3: "And the search says "none" exactly when it refused nothing and every closed input within the depth stops inside the step limit
-- without demanding the target."
pub none_exactly : (file : List ℕ) (work list : ℕ)
    → (verdict_of (search_answer file work list) ≡ some None)
    ↔ ((refusal_of (search_answer file work list) ≡ none)
    × ((p : Program) → check file ≡ accepted p → (j : Parts) → WithinDepth p j → StopsInside (run p j)))
none_exactly file work list = none_answer file work list (search_answer file work list) refl

-- 01: "unfinished: S steps are done and it is none of these"; a halt has "fewer than S steps done". Every run has at most S.
pub unfinished_spent : (p : Program) (i : Parts) → Spent p.steps (run p i)
unfinished_spent p i = run_spent p i

-- a closed input never halts, so a closed run is reached, ended, unfinished or missing
pub closed_run_ends : (p : Program) (j : Parts) → ClosedInput p j → NotHalted (run p j)
closed_run_ends p j c = run_ends p j c.0

-- 02, Slip 1: "inputs that run into a missing alternative". 01: "choosing the alternative for a constructor, or finding that there is none" is a step. A run is
-- missing after n steps exactly where, with fewer than S done, the last of them finds that a case has no alternative for its constructor.
pub missing_exactly : (p : Program) (i : Parts) (n : ℕ) → (run p i ≡ missing n) ↔ MissingAfter p i n
missing_exactly p i n = Missing.missing_exactly p i n

-- 01, "The list": the moves of the program produce exactly the list of the recursive definition, and a number falls at each move.
pub moves_list : (p : Program) → ((finished p).listed ≡ entries p) × (owed_moves p (least_depths p.types) (finished p) ≡ 0)
moves_list p = Moves.moves_list p

pub move_falls : (p : Program) (w : Walk) (k : ℕ) → owed_moves p (least_depths p.types) w ≡ suc k
    → owed_moves p (least_depths p.types) (move p (least_depths p.types) w) ≡ k
move_falls p w k h = Moves.move_falls p (least_depths p.types) w k h

-- 01, "The list": "two-byte length in bytes of what follows": the parameters' bytes of an entry fit it, and its steps fit theirs.
pub entry_length : (file : List ℕ) (p : Program) → check file ≡ accepted p
    → (e : Entry) → e ∈ entries p → (length (prefix e.input) < 65536) × (e.steps ≤ p.steps)
entry_length file p h e m = entry_within file p h e m

-- 01: "The least depth of each type is that of its shallowest closed value." The table has it; 0 stands for a type without a closed value;
-- and 32 rounds are enough.
pub least_depth_values : (types : Types) (t : ℕ)
    → ((d : ℕ) → get_or (least_depths types) t 0 ≡ suc d → LeastDepth types t (suc d))
    × (get_or (least_depths types) t 0 ≡ 0 → (v : Parts) → ¬ ValueOf types t v)
    × (length types ≤ type_limit → rounds types type_limit ≡ least_depths types)
least_depth_values types t = (
  λ d h. LeastDepths.least_depth_values types t d h,
  λ h v g. LeastDepths.no_value types t h v g,
  λ l. LeastDepths.rounds_enough types type_limit l,
)

-- The D of an accepted file: its depths are one number eight times, from 1 to 64.
pub one_depth : (file : List ℕ) (p : Program) → check file ≡ accepted p
    → (p.depths ≡ replicate parameter_limit (depth_of p.depths)) × (1 ≤ depth_of p.depths) × (depth_of p.depths ≤ depth_limit)
one_depth file p h = let kept = accepted_keeps file p h in (kept.depths_alike, kept.depth_limit_law.0, kept.depth_limit_law.1)

-- 01, "Turned back", refusal 11: "the work slice of 32-bit words is shorter than 64 × S + 1,024".
pub work_exactly : (file : List ℕ) (work list : ℕ) (p : Program) → check file ≡ accepted p
    → (search_answer file work list ≡ no_search WorkTooShort) ↔ (work < work_words p.steps)
work_exactly file work list p h = short_work file work list p h

-- 01, "Turned back": "With 12 the list holds all earlier entries": the longest run of first entries that fits the room, and the next one
-- does not fit.
pub full_prefix : (file : List ℕ) (work list : ℕ) (p : Program) → check file ≡ accepted p
    → (es : List Entry) → search_answer file work list ≡ cut_short es
    → (next : Entry) × (rest : List Entry) × (entries p ≡ es ++ (next ∷ rest)) × (length (list_bytes es) ≤ room_of list)
    × (room_of list < length (list_bytes (es ++ (next ∷ []))))
full_prefix file work list p h es a = (subst (Means p work list) a (search_means file work list p h)).1

-- 02, Slip 7: "As 000 applies its unit-evaluator repeatedly, evaluation goes on: after an outermost constructor built by the rule, its fields are evaluated from
-- left to right, each as a result in turn. Turning to a field costs one step." The evaluation is the unit-evaluator, applied again to each child of the result:
-- the same end after the same steps, on every input, closed or partial.
pub whole_result : (p : Program) (input : Parts) → run p input ≡ whole_run p input
whole_result p input = Whole.whole_run_law p input
