-- What the readers of crate reach find, as the results of src/lib.rt.
-- Rests on reach's Reader and RuleFile.
use Rattle.std.specs.Prelude.{ℕ, List, [], ◌∷◌, Result, Ok, Err}
use Rattle.reach.specs.declared.Refusal.{Refusal}
use Rattle.reach.specs.Reader.{Got, got, refused, Reader, ◌>>=◌, give, byte}
use Rattle.reach.specs.RuleFile as RuleFile
use Rattle.reach.specs.RuleFile.{TY, FN, NA, GO, other}
use Rattle.marks.specs.declared.Mark.{Mark}

-- two bytes
unfoldable pub pair : Reader (List ℕ)
pair = do
  first ← byte
  second ← byte
  give (first ∷ second ∷ [])

-- what was read and the place behind it, or the refusal
abbrev pub result_of : {A : Type 0} → Got A → Result (A × ℕ) Refusal
result_of (got a next) = Ok (a, next)
result_of (refused why) = Err why

abbrev pub mark_named : RuleFile.Mark → Mark
mark_named TY = Mark.Type
mark_named FN = Mark.Function
mark_named NA = Mark.Name
mark_named GO = Mark.Goal
mark_named other = Mark.Other

-- the mark that an answer names
abbrev pub mark_read : Mark → RuleFile.Mark
mark_read Mark.Type = TY
mark_read Mark.Function = FN
mark_read Mark.Name = NA
mark_read Mark.Goal = GO
mark_read Mark.Other = other

abbrev pub marked_of : Got RuleFile.Mark → Result (Mark × ℕ) Refusal
marked_of (got m next) = Ok (mark_named m, next)
marked_of (refused why) = Err why
