-- The marks that may come: what holds of each reader that follows one, and of the refusal, holds whichever mark was met.
-- Rests on RuleFile.
use mathlib.Core.List.{List, [], ◌∷◌}
use Rattle.reach.specs.declared.Refusal.TheVariants.{UnexpectedMark}
use Rattle.reach.specs.Base.{Each}
use Rattle.reach.specs.Reader.{Reader, refuse}
use Rattle.reach.specs.RuleFile.{Mark, same_mark, in_turn}
use Rattle.reach.proofs.Base.{picked}

pub in_turn_law : {A : Type 0} (P : Reader A → Type 0) (turns : List (Mark × Reader A)) → P (refuse UnexpectedMark) → Each (λ turn. P turn.1) turns
    → (m : Mark) → P (in_turn turns m)
unfolding in_turn
in_turn_law P [] wrong all m = wrong
in_turn_law P (turn ∷ turns) wrong all m = picked P (same_mark turn.0 m) (λ is. all.0) (λ no. in_turn_law P turns wrong all.1 m)
