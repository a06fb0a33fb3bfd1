-- The starred examples of 01 as one table. The checker computes each row from the bytes of P, with its label, D and S changed, and finds what
-- stands beside it: the lines of the list and the verdict, or the end of a closed run. A second table has what P cannot show, missing
-- alternatives, a third buffers that are just long enough and one too short, a fourth how deep inputs are, and a fifth targets inside results. What is
-- printed, and lists that are handed in, stand in Examples of crate lists.
-- Rests on the definitions alone.
use Rattle.std.specs.Prelude.{ℕ, ◌+◌, ◌*◌, ◌≡◌, refl, List, [], ◌∷◌, ◌++◌, map, length}
use mathlib.Core.List
use Rattle.std.proofs.Math.Option
use Rattle.std.proofs.Math.Option.{Option, none, some}
use Rattle.reach.specs.declared.Refusal.TheVariants.{BadInput, WorkTooShort}
use Rattle.reach.specs.declared.Kind.{Kind}
use Rattle.reach.specs.declared.Kind.TheVariants.{RE, UN, MI}
use Rattle.reach.specs.declared.Verdict.{Verdict}
use Rattle.reach.specs.declared.Verdict.TheVariants.{Found, Undecided, None}
use Rattle.reach.specs.declared.Outcome.TheVariants.{Reached, Ended, Unfinished, Missing}
use Rattle.reach.specs.Words.{number_of}
use Rattle.reach.specs.Syntax
use Rattle.reach.specs.Parts
use Rattle.reach.specs.Parts.{prefix}
use Rattle.reach.specs.Types
use Rattle.reach.specs.Eval
use Rattle.reach.specs.Search
use Rattle.reach.specs.Search.{Entry}
use Rattle.reach.specs.Reader
use Rattle.reach.specs.RuleFile
use Rattle.reach.specs.Input
use Rattle.reach.specs.Lists
use Rattle.reach.specs.Lists.{list_bytes}
use Rattle.reach.specs.Answers
use Rattle.reach.specs.Partial
use Rattle.reach.specs.Answers.{RunAnswer, no_run, ran, search_answer, listed, refusal_of, verdict_of, run_answer}

-- P with this label, D and S; P itself has 7, 4 and 20. (S is below 256.)
abbrev pub p_with : ℕ → ℕ → ℕ → List ℕ
p_with label d s =
    0x54 ∷ 0x59 ∷ 0x02 ∷ 0x00 ∷ 0x01 ∷ 0x00 ∷ 0x46 ∷ 0x4e ∷ 0x01 ∷ 0x00 ∷ 0x00 ∷ 0x17 ∷ 0x00 ∷ 0x03 ∷ 0x00 ∷ 0x00 ∷ 0x00 ∷ 0x01 ∷ 0x02 ∷ 0x00 ∷ 0x00
    ∷ 0x01 ∷ 0x03 ∷ 0x00 ∷ 0x00 ∷ 0x01 ∷ 0x01 ∷ 0x02 ∷ 0x00 ∷ 0x00 ∷ 0x01 ∷ 0x05 ∷ 0x07 ∷ 0x02 ∷ 0x00 ∷ 0x00 ∷ 0x47 ∷ 0x4f ∷ 0x00 ∷ label ∷ d ∷ s ∷ 0x00 ∷ []

-- A line: the kind, the steps and the bytes of an entry.
abbrev pub Line : Type 0
Line = Kind × ℕ × List ℕ

abbrev pub shown : Entry → Line
shown e = (e.kind, e.steps, prefix e.input)

-- What a row asks: the search of a file, the bytes of its list, or the closed run of a file on an input; and, where the buffers are not those of `reachlist`,
-- with which.
pub data Asked : Type 0 where
  search_of : List ℕ → Asked
  bytes_of : List ℕ → Asked
  run_of : List ℕ → List ℕ → Asked
  -- with a work slice of so many words
  ◌with-work◌ : Asked → ℕ → Asked
  -- with a list slice of so many bytes
  ◌with-list◌ : Asked → ℕ → Asked

infixl 80 ◌with-work◌
infixl 80 ◌with-list◌
-- What stands beside it: of a search the lines of its list, with its verdict, or with the number of its refusal and no verdict; bytes; or the
-- answer of the run.
pub data Answer : Type 0 where
  searched : List Line → Option Verdict → Option ℕ → Answer
  bytes : List ℕ → Answer
  answers : RunAnswer → Answer

abbrev pub lists : List Line → Verdict → Answer
lists lines v = searched lines (some v) none

abbrev pub refused : ℕ → List Line → Answer
refused number lines = searched lines none (some number)

-- what the definitions give, with a work slice of so many words and a list slice of so many bytes
abbrev pub given : ℕ → ℕ → Asked → Answer
given work list (search_of file) =
    let a = search_answer file work list in
    searched (map shown (listed a)) (verdict_of a) (Option.map number_of (refusal_of a))
given work list (bytes_of file) = bytes (list_bytes (listed (search_answer file work list)))
given work list (run_of file input) = answers (run_answer file input work)
given work list (a with-work n) = given n list a
given work list (a with-list n) = given work n a

-- the words and the bytes of the buffers of `reachlist`
abbrev pub own_work : ℕ
own_work = 16384

abbrev pub own_list : ℕ
own_list = 32768

-- with those buffers, but for what the row states
abbrev pub computed : Asked → Answer
computed a = given own_work own_list a

-- A question of this kind, and what answers it.
pub record Example (Q A : Type 0) : Type 0 where
  pub asked : Q
  pub expected : A

-- every row's answer is the one that stands beside it
abbrev pub AsExpected : {Q A : Type 0} → (Q → A) → List (Example Q A) → Type 0
AsExpected answer rows = map (λ r. answer r.asked) rows ≡ map (λ r. r.expected) rows

infix 70 ◌⇒◌
abbrev pub ◌⇒◌ : {Q A : Type 0} → Q → A → Example Q A
◌⇒◌ a b = record { asked = a; expected = b }

-- as `reachlist` prints them: `reach`, `unfinished`, `missing`, and `_` for an open part
abbrev reach : ℕ → List ℕ → Line
reach n s = (RE, n, s)

abbrev unfinished : ℕ → List ℕ → Line
unfinished n s = (UN, n, s)

abbrev missing : ℕ → List ℕ → Line
missing n s = (MI, n, s)

abbrev pub ○ : ℕ
○ = 0xff

-- 01's table, row by row: P with its label, D and S, and what the row says; at the end the bytes of P's own list
abbrev pub starred : List (Example Asked Answer)
starred =
    search_of (p_with 7 4 20) ⇒ lists (reach 6 (1 ∷ 1 ∷ ○ ∷ []) ∷ []) Found
    ∷ search_of (p_with 7 3 20) ⇒ lists (reach 6 (1 ∷ 1 ∷ ○ ∷ []) ∷ []) Found
    ∷ search_of (p_with 7 4 6) ⇒ lists (reach 6 (1 ∷ 1 ∷ ○ ∷ []) ∷ []) Found
    ∷ search_of (p_with 7 2 20) ⇒ lists [] None
    ∷ search_of (p_with 7 1 20) ⇒ lists [] None
    ∷ search_of (p_with 7 4 5) ⇒ lists (unfinished 5 (1 ∷ ○ ∷ []) ∷ []) Undecided
    ∷ search_of (p_with 7 4 2) ⇒ lists (unfinished 2 (○ ∷ []) ∷ []) Undecided
    ∷ search_of (p_with 7 4 0) ⇒ lists (unfinished 0 (○ ∷ []) ∷ []) Undecided
    ∷ search_of (p_with 8 4 6) ⇒ lists (unfinished 6 (1 ∷ 1 ∷ ○ ∷ []) ∷ []) Undecided
    ∷ search_of (p_with 8 4 7) ⇒ lists [] None
    ∷ run_of (p_with 7 4 20) (0 ∷ []) ⇒ answers (ran (Ended 3) 1)
    ∷ run_of (p_with 7 4 20) (1 ∷ 1 ∷ 0 ∷ []) ⇒ answers (ran (Reached 6) 3)
    ∷ bytes_of (p_with 7 4 20) ⇒ bytes (0x52 ∷ 0x45 ∷ 0x06 ∷ 0x00 ∷ 0x03 ∷ 0x00 ∷ 0x01 ∷ 0x01 ∷ 0xff ∷ [])
    ∷ []

-- P has an alternative for every constructor. This is P without the one that holds the target, with this S.
abbrev pub p_no_end : ℕ → List ℕ
p_no_end s =
    0x54 ∷ 0x59 ∷ 0x02 ∷ 0x00 ∷ 0x01 ∷ 0x00 ∷ 0x46 ∷ 0x4e ∷ 0x01 ∷ 0x00 ∷ 0x00 ∷ 0x12 ∷ 0x00 ∷ 0x03 ∷ 0x00 ∷ 0x00 ∷ 0x00 ∷ 0x01 ∷ 0x02 ∷ 0x00 ∷ 0x00 ∷ 0x01 ∷ 0x03 ∷ 0x00 ∷ 0x00 ∷ 0x01 ∷ 0x01 ∷ 0x02 ∷ 0x00 ∷ 0x00 ∷ 0x00 ∷ 0x47 ∷ 0x4f ∷ 0x00 ∷ 0x07 ∷ 0x04 ∷ s ∷ 0x00 ∷ []

-- P without the alternative for constructor 0 below a first constructor 1
abbrev pub p_no_zero : List ℕ
p_no_zero =
    0x54 ∷ 0x59 ∷ 0x02 ∷ 0x00 ∷ 0x01 ∷ 0x00 ∷ 0x46 ∷ 0x4e ∷ 0x01 ∷ 0x00 ∷ 0x00 ∷ 0x14 ∷ 0x00 ∷ 0x03 ∷ 0x00 ∷ 0x00 ∷ 0x00 ∷ 0x01 ∷ 0x02 ∷ 0x00 ∷ 0x00 ∷ 0x01 ∷ 0x03 ∷ 0x00 ∷ 0x00 ∷ 0x01 ∷ 0x00
    ∷ 0x01 ∷ 0x05 ∷ 0x07 ∷ 0x02 ∷ 0x00 ∷ 0x00 ∷ 0x47 ∷ 0x4f ∷ 0x00 ∷ 0x07 ∷ 0x04 ∷ 0x14 ∷ 0x00 ∷ []

-- P without the alternative for constructor 0 of its parameter, with this label and S
abbrev pub p_without : ℕ → ℕ → List ℕ
p_without label s =
    0x54 ∷ 0x59 ∷ 0x02 ∷ 0x00 ∷ 0x01 ∷ 0x00 ∷ 0x46 ∷ 0x4e ∷ 0x01 ∷ 0x00 ∷ 0x00 ∷ 0x14 ∷ 0x00 ∷ 0x03 ∷ 0x00 ∷ 0x00 ∷ 0x00 ∷ 0x00
    ∷ 0x01 ∷ 0x03 ∷ 0x00 ∷ 0x00 ∷ 0x01 ∷ 0x01 ∷ 0x02 ∷ 0x00 ∷ 0x00 ∷ 0x01 ∷ 0x05 ∷ 0x07 ∷ 0x02 ∷ 0x00 ∷ 0x00 ∷ 0x47 ∷ 0x4f ∷ 0x00 ∷ label ∷ 0x04 ∷ s ∷ 0x00 ∷ []

-- In this file, with this S, the one case looks at a constructor that the rule itself built, and has no alternative for it.
abbrev pub lacking : ℕ → List ℕ
lacking s =
    0x54 ∷ 0x59 ∷ 0x02 ∷ 0x00 ∷ 0x01 ∷ 0x00 ∷ 0x46 ∷ 0x4e ∷ 0x01 ∷ 0x00 ∷ 0x00 ∷ 0x0a ∷ 0x00 ∷ 0x03 ∷ 0x00 ∷ 0x02 ∷ 0x00 ∷ 0x00 ∷ 0x00 ∷ 0x01 ∷ 0x02 ∷ 0x00 ∷ 0x00
    ∷ 0x47 ∷ 0x4f ∷ 0x00 ∷ 0x07 ∷ 0x04 ∷ s ∷ 0x00 ∷ []

-- a missing alternative is found at its step, the sixth, the third or the second; before it the path is unfinished; and no verdict comes of it
abbrev pub at_missing : List (Example Asked Answer)
at_missing =
    search_of (p_no_end 6) ⇒ lists (missing 6 (1 ∷ 1 ∷ ○ ∷ []) ∷ []) None
    ∷ search_of (p_no_end 5) ⇒ lists (unfinished 5 (1 ∷ ○ ∷ []) ∷ []) Undecided
    ∷ search_of p_no_zero ⇒ lists (missing 6 (1 ∷ 0 ∷ []) ∷ reach 6 (1 ∷ 1 ∷ ○ ∷ []) ∷ []) Found
    ∷ run_of (p_no_end 6) (1 ∷ 1 ∷ 0 ∷ []) ⇒ answers (ran (Missing 6) 3)
    ∷ run_of (p_no_end 6) (1 ∷ 0 ∷ []) ⇒ answers (ran (Ended 6) 2)
    ∷ search_of (p_without 7 20) ⇒ lists (missing 3 (0 ∷ []) ∷ reach 6 (1 ∷ 1 ∷ ○ ∷ []) ∷ []) Found
    ∷ search_of (p_without 7 3) ⇒ lists (missing 3 (0 ∷ []) ∷ unfinished 3 (1 ∷ ○ ∷ []) ∷ []) Undecided
    ∷ search_of (p_without 7 2) ⇒ lists (unfinished 2 (○ ∷ []) ∷ []) Undecided
    ∷ search_of (p_without 8 20) ⇒ lists (missing 3 (0 ∷ []) ∷ []) None
    ∷ run_of (p_without 7 3) (0 ∷ []) ⇒ answers (ran (Missing 3) 1)
    ∷ run_of (p_without 7 2) (0 ∷ []) ⇒ answers (ran (Unfinished 2) 1)
    ∷ bytes_of (p_without 8 20) ⇒ bytes (0x4d ∷ 0x49 ∷ 0x03 ∷ 0x00 ∷ 0x01 ∷ 0x00 ∷ 0x00 ∷ [])
    ∷ search_of (lacking 1) ⇒ lists (unfinished 1 (○ ∷ []) ∷ []) Undecided
    ∷ search_of (lacking 2) ⇒ lists (missing 2 (○ ∷ []) ∷ []) None
    ∷ run_of (lacking 1) (0 ∷ []) ⇒ answers (ran (Unfinished 1) 1)
    ∷ run_of (lacking 2) (0 ∷ []) ⇒ answers (ran (Missing 2) 1)
    ∷ []

-- P's list has 9 bytes, and its S of 20 asks for 2,304 words: with one less the search is refused, and a closed run too; a missing alternative's entry
-- is among those that must fit
abbrev pub rooms : List (Example Asked Answer)
rooms =
    search_of (p_without 8 20) with-list 6 ⇒ refused 12 []
    ∷ search_of (p_with 7 4 20) with-list 9 ⇒ lists (reach 6 (1 ∷ 1 ∷ ○ ∷ []) ∷ []) Found
    ∷ search_of (p_with 7 4 20) with-list 8 ⇒ refused 12 []
    ∷ search_of (p_with 7 4 20) with-work (64 * 20 + 1024) ⇒ lists (reach 6 (1 ∷ 1 ∷ ○ ∷ []) ∷ []) Found
    ∷ search_of (p_with 7 4 20) with-work (64 * 20 + 1023) ⇒ refused 11 []
    ∷ run_of (p_with 7 4 20) (0 ∷ []) with-work (64 * 20 + 1024) ⇒ answers (ran (Ended 3) 1)
    ∷ run_of (p_with 7 4 20) (0 ∷ []) with-work (64 * 20 + 1023) ⇒ answers (no_run WorkTooShort)
    ∷ []

-- numbers, and a function of no or two of them that gives zero, with D 4 and S 20
abbrev pub constant : List ℕ → List ℕ
constant parameters =
    0x54 ∷ 0x59 ∷ 0x02 ∷ 0x00 ∷ 0x01 ∷ 0x00 ∷ 0x46 ∷ 0x4e ∷ []
    ++ parameters
    ++ 0x00 ∷ 0x03 ∷ 0x00 ∷ 0x02 ∷ 0x00 ∷ 0x00 ∷ 0x47 ∷ 0x4f ∷ 0x00 ∷ 0x07 ∷ 0x04 ∷ 0x14 ∷ 0x00 ∷ []

-- The depth of an input is that of its deepest parameter, wherever it stands, and 0 without parameters. At D 4 an input that is 4 deep is run, and one that
-- is 5 deep is refused.
abbrev pub inputs_deep : List (Example Asked Answer)
inputs_deep =
    run_of (constant (2 ∷ 0 ∷ 0 ∷ [])) (1 ∷ 1 ∷ 0 ∷ 0 ∷ []) ⇒ answers (ran (Ended 0) 3)
    ∷ run_of (constant (2 ∷ 0 ∷ 0 ∷ [])) (0 ∷ 1 ∷ 0 ∷ []) ⇒ answers (ran (Ended 0) 2)
    ∷ run_of (constant (0 ∷ [])) [] ⇒ answers (ran (Ended 0) 0)
    ∷ run_of (p_with 7 4 20) (1 ∷ 1 ∷ 1 ∷ 0 ∷ []) ⇒ answers (ran (Reached 6) 4)
    ∷ run_of (p_with 7 4 20) (1 ∷ 1 ∷ 1 ∷ 1 ∷ 0 ∷ []) ⇒ answers (no_run BadInput)
    ∷ []

-- numbers, pairs of them, and a function of one number whose body makes a pair, with D 4 and this S
abbrev pub pair_by : List ℕ → ℕ → List ℕ
pair_by body s =
    0x54 ∷ 0x59 ∷ 0x02 ∷ 0x00 ∷ 0x01 ∷ 0x00 ∷ 0x54 ∷ 0x59 ∷ 0x01 ∷ 0x02 ∷ 0x00 ∷ 0x00 ∷ 0x46 ∷ 0x4e ∷ 0x01 ∷ 0x00 ∷ 0x01 ∷ length body ∷ 0x00 ∷ []
    ++ body
    ++ 0x47 ∷ 0x4f ∷ 0x00 ∷ 0x07 ∷ 0x04 ∷ s ∷ 0x00 ∷ []

-- bodies: a pair; zero; the parameter; the number before it, which only 0 lacks; the target
abbrev pair : List ℕ → List ℕ → List ℕ
pair a b = 0x02 ∷ 0x01 ∷ 0x00 ∷ [] ++ a ++ b

abbrev zero : List ℕ
zero = 0x02 ∷ 0x00 ∷ 0x00 ∷ []

abbrev one_more : List ℕ → List ℕ
one_more a = 0x02 ∷ 0x00 ∷ 0x01 ∷ [] ++ a

abbrev parameter : List ℕ
parameter = 0x00 ∷ 0x00 ∷ []

abbrev before : List ℕ
before = 0x03 ∷ 0x00 ∷ 0x00 ∷ 0x00 ∷ 0x00 ∷ 0x01 ∷ 0x00 ∷ 0x01 ∷ []

abbrev mark : List ℕ
mark = 0x05 ∷ 0x07 ∷ zero

-- 02, Slip 7: a target in the second field, and in a field of it; one behind a missing alternative in the first field, where only 0 has none; one behind a
-- part of the input, open or bound, which is not gone into; and fields that wait when S steps are done
abbrev pub in_results : List (Example Asked Answer)
in_results =
    search_of (pair_by (pair zero mark) 20) ⇒ lists (reach 2 (○ ∷ []) ∷ []) Found
    ∷ search_of (pair_by (pair zero (one_more mark)) 20) ⇒ lists (reach 3 (○ ∷ []) ∷ []) Found
    ∷ search_of (pair_by (pair (one_more zero) mark) 20) ⇒ lists (reach 3 (○ ∷ []) ∷ []) Found
    ∷ search_of (pair_by (pair before mark) 20) ⇒ lists (missing 4 (0 ∷ []) ∷ reach 6 (1 ∷ ○ ∷ []) ∷ []) Found
    ∷ run_of (pair_by (pair before mark) 20) (0 ∷ []) ⇒ answers (ran (Missing 4) 1)
    ∷ run_of (pair_by (pair before mark) 20) (1 ∷ 1 ∷ 0 ∷ []) ⇒ answers (ran (Reached 6) 3)
    ∷ search_of (pair_by (pair parameter mark) 20) ⇒ lists (reach 3 (○ ∷ []) ∷ []) Found
    ∷ run_of (pair_by (pair parameter mark) 20) (1 ∷ 1 ∷ 0 ∷ []) ⇒ answers (ran (Reached 3) 3)
    ∷ search_of (pair_by (pair zero zero) 1) ⇒ lists (unfinished 1 (○ ∷ []) ∷ []) Undecided
    ∷ search_of (pair_by (pair zero zero) 2) ⇒ lists [] None
    ∷ run_of (pair_by (pair zero zero) 1) (0 ∷ []) ⇒ answers (ran (Unfinished 1) 1)
    ∷ run_of (pair_by (pair zero zero) 2) (0 ∷ []) ⇒ answers (ran (Ended 2) 1)
    ∷ []

-- all the definitions that an answer is made of: to unfold this is to unfold them
unfoldable pub definitions : Unit {0}
unfolding
    Syntax.count Syntax.nth_expr Syntax.field_types Syntax.function_at Syntax.source_types
    Parts.width Parts.all_open Parts.part Parts.within Parts.at Parts.bind_at Parts.prefix
    Types.slots Types.even_slots Types.source_slots Types.field_slots Types.slot_at Types.known Types.inhabited Types.round Types.rounds Types.least_depths
    Types.shallow Types.roomy Types.forks_from Types.forks Types.forks_at
    Eval.part_of Eval.size Eval.suspend Eval.lookup Eval.with_fields Eval.resume Eval.choose Eval.enter Eval.answered Eval.view Eval.look Eval.answer Eval.next
    Eval.conclude Eval.eval Eval.start_of Eval.start Eval.run
    Search.gather Search.branches Search.search Search.open_input Search.entries Search.count_from
    Search.counts Search.verdict_by Search.verdict
    Reader.byte Reader.word Reader.times Reader.passed Reader.at_end
    RuleFile.mark_of RuleFile.mark RuleFile.counted RuleFile.constructor_record RuleFile.type_record RuleFile.function_record RuleFile.goal_record
    RuleFile.in_turn RuleFile.more_types RuleFile.more_functions RuleFile.outline RuleFile.all_below RuleFile.constructors_exist RuleFile.types_exist
    RuleFile.heads_exist RuleFile.numbers_exist RuleFile.operands_of RuleFile.alternatives RuleFile.variable_expr RuleFile.call_of
    RuleFile.call_expr RuleFile.construct_of RuleFile.construct_expr RuleFile.case_of RuleFile.case_expr RuleFile.let_expr RuleFile.target_expr
    RuleFile.expression_by RuleFile.expression RuleFile.body_of RuleFile.functions_of RuleFile.program_of RuleFile.goal_mark RuleFile.name_record RuleFile.naming RuleFile.well_spelled RuleFile.no_empty_type
    RuleFile.deep_enough RuleFile.size_in_limit RuleFile.rule_file
    Input.input_by Input.read_input Input.input_of
    Lists.word_bytes Lists.kind_bytes Lists.entry_bytes Lists.list_bytes Lists.cut Lists.room_of Lists.is_mark Lists.kind_of
    Answers.check Answers.cut_answer Answers.search_checked Answers.search_answer Answers.listed Answers.refusal_of Answers.verdict_of Answers.outcome_of
    Answers.run_input Answers.run_checked Answers.run_answer
    Partial.values_by Partial.value_from Partial.value Partial.slotted
    List.flat_map List.zip_with
definitions = tt

-- the starred examples of 01
pub examples : AsExpected computed starred
unfolding definitions
examples = refl

-- finding that there is no alternative costs a step: with S steps done before it, the path is unfinished
pub missing_alternative : AsExpected computed at_missing
unfolding definitions
missing_alternative = refl

-- a buffer that is just long enough is enough, and one that is one too short is refused
pub just_enough : AsExpected computed rooms
unfolding definitions
just_enough = refl

-- depths of inputs
pub input_depths : AsExpected computed inputs_deep
unfolding definitions
input_depths = refl

-- the whole result is looked into
pub results : AsExpected computed in_results
unfolding definitions
results = refl
