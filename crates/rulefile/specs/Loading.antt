-- What a loaded file holds, in terms of reach's `check`.
-- Rests on reach's Answers, RuleFile, Places, on goal's Goals, on depths' Table and on the types of src/lib.rt.
use Rattle.std.specs.Prelude.{ℕ, ◌≤◌, ◌≡◌, Bool, true, List, map, length, get_or, Result, Ok, Err}
use Rattle.std.proofs.Math.Option.{Option}
use Rattle.reach.specs.declared.Refusal.{Refusal}
use Rattle.reach.specs.Limits.{file_limit, type_limit, function_limit}
use Rattle.reach.specs.Syntax.{Function, Program}
use Rattle.reach.specs.Types.{slots, least_depths, roomy}
use Rattle.reach.specs.Names.{spells}
use Rattle.reach.specs.Reader.{got}
use Rattle.reach.specs.RuleFile as RuleFile
use Rattle.reach.specs.RuleFile.{outline, numbers_exist, functions_of, program_of, if_named}
use Rattle.reach.specs.Places.{type_at, head_at, declarations_at, outline_at}
use Rattle.reach.specs.Answers as Answers
use Rattle.goal.specs.Goals.{goal_of, named_of}
use Rattle.lookups.specs.declared.Rules.{Rules}
use Rattle.outline.specs.declared.Outlined.{Outlined}
use Rattle.depths.specs.Table.{padded}
use Rattle.rulefile.specs.declared.Loaded.{Loaded}

-- Tables of places, a named type and a goal as the three passes leave them: each pass over the records that stand there found nothing.
pub record PassesLeave (s types functions : List ℕ) (named : Option ℕ) (goal : RuleFile.Goal) (fs : List Function) : Type 0 where
  pub behind : ℕ
  pub read : outline s 0 ≡ got (outline_at s types functions named goal) behind
  pub exist : numbers_exist (outline_at s types functions named goal) ≡ true
  pub end : ℕ
  pub bodies : functions_of (declarations_at s types functions) (declarations_at s types functions).heads s behind ≡ got fs end

-- the first pass found nothing, and left this
pub record Outlines (r : Rules) (o : Outlined) : Type 0 where
  pub size : length r.file.now ≤ file_limit
  pub types_limit : length r.types.now ≤ type_limit
  pub functions_limit : length r.functions.now ≤ function_limit
  pub read : outline r.file.now 0 ≡ got (outline_at r.file.now r.types.now r.functions.now (named_of o.named) (goal_of o.goal)) (length r.file.now)

-- the second and third pass found nothing either
pub record AllPassed (r : Rules) (o : Outlined) : Type 0 where
  pub outlined : Outlines r o
  pub functions : List Function
  pub passed : PassesLeave r.file.now r.types.now r.functions.now (named_of o.named) (goal_of o.goal) functions

-- each parameter of the source has a closed value that is at most as deep as it may be, by the table
abbrev pub source_shallow : List ℕ → List ℕ → RuleFile.Goal → List ℕ → Bool
source_shallow s functions goal least = roomy least (slots (head_at s (get_or functions goal.source 0)).parameters goal.depths)

-- the type that NA names, where there is one, has the form of names
abbrev pub names_spelled : List ℕ → List ℕ → Option ℕ → Bool
names_spelled s types named = if_named (λ t. spells (map (type_at s) types) t) named

-- the places of the records of a loaded file
abbrev pub type_places : Loaded → List ℕ
type_places r = r.rules.types.now

abbrev pub function_places : Loaded → List ℕ
function_places r = r.rules.functions.now

-- What an accepted file's tables hold: its program is the one that the places, the named type and the goal give.
pub record Tabled (s : List ℕ) (r : Loaded) (p : Program) : Type 0 where
  pub of_file : r.rules.file.now ≡ s
  pub size : length s ≤ file_limit
  pub types_limit : length (type_places r) ≤ type_limit
  pub functions_limit : length (function_places r) ≤ function_limit
  pub functions : List Function
  pub passed : PassesLeave s (type_places r) (function_places r) (named_of r.named) (goal_of r.goal) functions
  pub program : p ≡ program_of (outline_at s (type_places r) (function_places r) (named_of r.named) (goal_of r.goal)) functions
  pub depths : r.least.of ≡ padded (least_depths p.types)

-- what a loaded file says is what the check answers
abbrev pub Loads : List ℕ → Result Loaded Refusal → Type 0
Loads s (Ok r) = (p : Program) × (Answers.check s ≡ Answers.accepted p) × Tabled s r p
Loads s (Err why) = Answers.check s ≡ Answers.turned_back why
