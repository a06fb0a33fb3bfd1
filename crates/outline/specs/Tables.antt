-- What the first pass leaves: the places of the records, what the readers of crate reach find there, the type that NA names, and the goal.
-- Rests on reach's RuleFile and Places, on goal's Goals and on the structs of src/lib.rt.
use Rattle.std.specs.Prelude.{ℕ, List, map, take, length, Option, Result, Ok, Err}
use Rattle.std.proofs.Math.Option as Math
use Rattle.reach.specs.declared.Refusal.{Refusal}
use Rattle.reach.specs.declared.Refusal.TheVariants.{TrailingBytes}
use Rattle.reach.specs.Reader.{Got, got, refused, Reader, ◌>>=◌, ◌>>◌, give, at_end}
use Rattle.reach.specs.RuleFile as RuleFile
use Rattle.reach.specs.RuleFile.{goal_record, Outline}
use Rattle.reach.specs.Places.{outline_at}
use Rattle.goal.specs.declared.Goal.{Goal}
use Rattle.goal.specs.Goals.{goal_of, named_of}
use Rattle.outline.specs.declared.table.Table.{Table}
use Rattle.outline.specs.declared.table.Tables.{Tables}
use Rattle.outline.specs.declared.Outlined.{Outlined}

-- the places of the records that a table keeps
abbrev pub places_of : {N : ℕ} → Table N → List ℕ
places_of t = take t.count t.places

-- what a result says was read, and where it ends
abbrev pub read_of : {R A : Type 0} → (R → A) → Result (R × ℕ) Refusal → Got A
read_of f (Ok (r, next)) = got (f r) next
read_of f (Err why) = refused why

-- a value that was read before, where a step goes on
abbrev pub on_passed : {A : Type 0} → A → Result ℕ Refusal → Got A
on_passed a (Ok next) = got a next
on_passed a (Err why) = refused why

-- the records that stand at a table's places
abbrev pub rows_of : {A : Type 0} {N : ℕ} → (ℕ → A) → Table N → Result ℕ Refusal → Got (List A)
rows_of look t r = on_passed (map look (places_of t)) r

-- what stands between the functions and the goal
abbrev pub naming_of : Result (Option ℕ × ℕ) Refusal → Got (Math.Option ℕ)
naming_of r = read_of named_of r

-- what was read up to the end of the bytes
abbrev pub whole_of : {R A : Type 0} → (R → A) → List ℕ → Result R Refusal → Got A
whole_of f s (Ok r) = got (f r) (length s)
whole_of f s (Err why) = refused why

-- the goal, the last record
abbrev pub ended_of : List ℕ → Result Goal Refusal → Got RuleFile.Goal
ended_of s r = whole_of goal_of s r

-- the outline of the file, whose records stand at the tables' places
abbrev pub outlined_of : List ℕ → Tables → Result Outlined Refusal → Got Outline
outlined_of s t r = whole_of (λ o. outline_at s (places_of t.types) (places_of t.functions) (named_of o.named) (goal_of o.goal)) s r

-- the goal, and nothing behind it
unfoldable pub last_record : Reader RuleFile.Goal
last_record = do
  g ← goal_record
  at_end TrailingBytes
  give g
