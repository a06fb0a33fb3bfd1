-- A goal by value, as the goal that it is, and what it asks for, as the program's; and the type that NA names.
-- Rests on reach's Syntax and RuleFile and on the struct of src/lib.rt.
use Rattle.std.specs.Prelude.{ℕ, ◌≡◌, Option, Some, None}
use Rattle.std.proofs.Math.Option as Math
use Rattle.reach.specs.Syntax.{Program}
use Rattle.reach.specs.RuleFile as RuleFile
use Rattle.goal.specs.declared.Goal.{Goal}

abbrev pub goal_of : Goal → RuleFile.Goal
goal_of g = record { source = g.source; label = g.label; depths = g.depths; steps = g.steps }

abbrev pub named_of : Option ℕ → Math.Option ℕ
named_of None = Math.none
named_of (Some t) = Math.some t

-- the goal asks for what the program does
pub record Asks (g : Goal) (p : Program) : Type 0 where
  pub source_is : g.source ≡ p.source
  pub label_is : g.label ≡ p.label
  pub depths_are : g.depths ≡ p.depths
  pub steps_is : g.steps ≡ p.steps
