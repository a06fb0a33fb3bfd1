-- A function's record ends in body_part and that of the goal in limits_part, but for the value: what is left of the record where they begin.
-- Rests on Answers and on Passed.
use Prim.Native.Nat.{ℕ}
use mathlib.Core.Path.{◌≡◌, refl}
use mathlib.Core.Bool.{◌&&◌}
use mathlib.Core.List.{List}
use lib.Dec.{leb}
use Rattle.reach.specs.declared.Refusal.TheVariants.{OutOfRange}
use Rattle.reach.specs.Limits.{parameter_limit, body_limit, depth_limit, step_limit}
use Rattle.reach.specs.Reader.{Got, got, refused, on_got, demand, byte, word, times, passed}
use Rattle.reach.specs.RuleFile.{counted, function_record, goal_record}
use Rattle.typerecord.specs.Passed.{passed_of, body_part, limits_part}
use Rattle.typerecord.proofs.Answers.{step_mapped}

-- what goes on from one reading with the same steps has the same step
step_after : {A B C : Type 0} (g : Got A) (f : A → ℕ → Got B) (h : A → ℕ → Got C)
    → ((a : A) (next : ℕ) → passed_of (f a next) ≡ passed_of (h a next))
    → passed_of (on_got {B = Got B} f (λ why. refused why) g) ≡ passed_of (on_got {B = Got C} h (λ why. refused why) g)
step_after (got a next) f h alike = alike a next
step_after (refused why) f h alike = refl

module _ (s : List ℕ) (at : ℕ) where
  -- a function, behind its result type
  pub function_tail : {n first result r behind : ℕ} {ps : List ℕ}
      → counted 0 parameter_limit s at ≡ got n first → times n byte s first ≡ got ps result → byte s result ≡ got r behind
      → passed_of (function_record s at) ≡ passed_of (body_part s behind)
  unfolding function_record body_part
  function_tail {behind = behind} e₁ e₂ e₃ =
      rw (e₁, e₂, e₃)
      (step_after (word s behind) _ _ λ l next. step_after (demand (leb 1 l && leb l body_limit) OutOfRange s next) _ _ λ _ here. step_mapped _ (passed l s here))

  -- the goal, behind its label
  pub goal_tail : {f label l limits : ℕ}
      → byte s at ≡ got f label → byte s label ≡ got l limits
      → passed_of (goal_record s at) ≡ passed_of (limits_part s limits)
  unfolding goal_record limits_part
  goal_tail {limits = limits} e₁ e₂ =
      rw (e₁, e₂)
      (step_after (counted 1 depth_limit s limits) _ _ λ d next. step_after (word s next) _ _ λ n here. step_after (demand (leb n step_limit) OutOfRange s here) _ _ λ _ there. refl)
