-- Behind a record stands a mark: what the readers of crate reach do at each mark.
-- Rests on Turns, on the marks of crate marks, and on reach's Reader and RuleFile.
use Prim.Native.Nat.{ℕ, zero, suc, pred}
use mathlib.Core.Path.{◌≡◌, refl}
use mathlib.Core.List.{List, [], ◌∷◌}
use lib.Dec.{eqb, eqb-suc-zero}
use Rattle.reach.specs.Base.{pick}
use Rattle.reach.specs.declared.Refusal.TheVariants.{OutOfRange, UnexpectedMark}
use Rattle.reach.specs.Reader.{Reader, ◌>>=◌, give, refuse}
use Rattle.reach.specs.RuleFile.{TY, FN, NA, GO, in_turn, mark, more_types, ends_at, more_functions}
use Rattle.marks.specs.Found.{mark_read}
use Rattle.marks.specs.declared.Mark.{Mark}
use Rattle.turns.specs.Turns.{types_from, functions_from}

-- behind a type: one more type if there is room, or the functions
pub types_turn_law : (more : ℕ) (s : List ℕ) (i : ℕ) → more_types more s i ≡ (mark >>= in_turn ((TY, pick (eqb more 0) (refuse OutOfRange) (types_from (pred more))) ∷ (FN, give []) ∷ [])) s i
unfolding more_types types_from
types_turn_law zero s i = refl
types_turn_law (suc n) s i = rw (eqb-suc-zero n)

-- behind a function: one more function if there is room, or the mark NA or GO, which is left
pub functions_turn_law : (more : ℕ) (s : List ℕ) (i : ℕ) → more_functions more s i ≡ (mark >>= in_turn ((FN, pick (eqb more 0) (refuse OutOfRange) (functions_from (pred more))) ∷ (NA, ends_at i) ∷ (GO, ends_at i) ∷ [])) s i
unfolding more_functions functions_from
functions_turn_law zero s i = refl
functions_turn_law (suc n) s i = rw (eqb-suc-zero n)

-- a mark that is none of the one kind that may come
pub no_type_mark : {A : Type 0} (m : Mark) (read : Reader A) → (m ≡ Mark.Type → ⊥) → in_turn ((TY, read) ∷ []) (mark_read m) ≡ refuse UnexpectedMark
unfolding in_turn
no_type_mark Mark.Type read other = absurd (other refl)
no_type_mark Mark.Function read other = refl
no_type_mark Mark.Name read other = refl
no_type_mark Mark.Goal read other = refl
no_type_mark Mark.Other read other = refl

pub no_goal_mark : {A : Type 0} (m : Mark) (read : Reader A) → (m ≡ Mark.Goal → ⊥) → in_turn ((GO, read) ∷ []) (mark_read m) ≡ refuse UnexpectedMark
unfolding in_turn
no_goal_mark Mark.Type read other = refl
no_goal_mark Mark.Function read other = refl
no_goal_mark Mark.Name read other = refl
no_goal_mark Mark.Goal read other = absurd (other refl)
no_goal_mark Mark.Other read other = refl
