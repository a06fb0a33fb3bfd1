-- The evaluation on a part of a closed input: what the loop over the steps knows. It evaluates on an input e of which only the parts that a case
-- looked at are bound; e is below the closed input j, every state it reaches is reached on j too, and what comes next is what comes next on j.
-- Rests on reach's Evaluation, Order, Depths, NeverStuck and Reached.
use Prim.Native.Nat.{ℕ, zero, suc, ◌-◌, ◌≤◌}
use mathlib.Core.Path.{◌≡◌, sym, ◌∙◌, ap}
use mathlib.Core.List.{List, [], ◌∷◌}
use native.Mathlib.Omega.{arith}
use lib.ListN.{length}
use Rattle.reach.specs.Syntax.{Types, Program, source_types}
use Rattle.reach.specs.Parts.{Parts, width, ◌⊑◌, ⊑-end, ⊑-open, ⊑-bind, ⊑-same}
use Rattle.reach.specs.Types.{Typed, WithinDepth}
use Rattle.reach.specs.Eval.{State, Stop, demands, lacks, stops, goes, next, reached, ended, unfinished, missing, start, eval}
use Rattle.reach.specs.Answers.{accepted, check}
use Rattle.reach.proofs.Order.{⊑-width}
use Rattle.reach.specs.States.{StateIn, Steps, no_step, one_more, Sound}
use Rattle.reach.proofs.Evaluation.{next_more, eval_step, eval_demands, eval_lacks, eval_stops, eval_spent}
use Rattle.reach.proofs.Depths.{typed_width}
use Rattle.reach.proofs.NeverStuck.{steps_sound}
use Rattle.reach.proofs.Reached.{steps_in_law, steps_more}

-- an input below one of these types is of these types
pub below_typed : (types : Types) (ts : List ℕ) {e j : Parts} → e ⊑ j → Typed types ts j → Typed types ts e
below_typed types [] ⊑-end h = tt
below_typed types [] (⊑-open a) h = absurd h
below_typed types [] (⊑-bind a) h = absurd h
below_typed types [] (⊑-same f a) h = absurd h
below_typed types (t ∷ ts) ⊑-end h = absurd h
below_typed types (t ∷ ts) (⊑-open a) h = below_typed types ts a h
below_typed types (t ∷ ts) (⊑-bind a) h = below_typed types ts a h.3
below_typed types (t ∷ ts) (⊑-same f a) h = (h.0, h.1, below_typed types h.0 f h.2, below_typed types ts a h.3)

-- the steps taken lead from the start to where the rest of the evaluation goes on
pub steps_eval :
    (p : Program) (e : Parts) (limit : ℕ) {n : ℕ} {s : State} → Steps p e n s → n ≤ limit → eval p e limit 0 (start p) ≡ eval p e (limit - n) n s
steps_eval p e limit no_step h = let z : limit - 0 ≡ limit = omega arith in rw z
steps_eval p e limit (one_more {n = n} {s = s} {s' = s'} before on) h =
    let z : limit - n ≡ suc (limit - suc n) = omega arith in
    steps_eval p e limit before (omega arith) ∙ (ap (λ l. eval p e l n s) z ∙ eval_step p e (limit - suc n) n s s' on)

-- A checked program on a closed input that fits, and on the inputs below it.
module _ (file : List ℕ) (p : Program) (checked : check file ≡ accepted p) (j : Parts) (fits : WithinDepth p j) where
  pub below_width : {e : Parts} → e ⊑ j → width e ≡ length (source_types p)
  below_width below = ⊑-width below ∙ typed_width p.types (source_types p) j fits.0.1

  -- a state that is reached on an input below speaks of places that are there, and whatever a step meets is there
  pub reached_in : {e : Parts} {n : ℕ} {s : State} → e ⊑ j → Steps p e n s → StateIn e s
  reached_in {e} below steps = steps_in_law p e (below_width below) steps

  pub reached_sound : {e : Parts} {n : ℕ} {s : State} → e ⊑ j → Steps p e n s → Sound p e s
  reached_sound {e} below steps = steps_sound file p checked e (below_typed p.types (source_types p) below fits.0.1) steps

  module _ {e : Parts} {n : ℕ} {s : State} (below : e ⊑ j) (steps : Steps p e n s) where
    -- the run on the closed input, by what comes next on the input below
    pub run_goes : (left m : ℕ) (s' : State) → next p e s ≡ goes s' → eval p j (suc left) m s ≡ eval p j left (suc m) s'
    run_goes left m s' on = eval_step p j left m s s' (next_more p below s (reached_in below steps) (goes s') tt on)

    pub run_demands : (left m : ℕ) → next p e s ≡ demands → eval p j left m s ≡ reached m
    run_demands left m on = eval_demands p j left m s (next_more p below s (reached_in below steps) demands tt on)

    pub run_lacks : (left m : ℕ) → next p e s ≡ lacks → eval p j left m s ≡ missing m
    run_lacks left m on = eval_lacks p j left m s (next_more p below s (reached_in below steps) lacks tt on)

    pub run_stops : (left m : ℕ) (why : Stop) → next p e s ≡ stops why → eval p j left m s ≡ ended why m
    run_stops left m why on = eval_stops p j left m s why (next_more p below s (reached_in below steps) (stops why) tt on)

    pub run_spent : (m : ℕ) (s' : State) → next p e s ≡ goes s' → eval p j zero m s ≡ unfinished m
    run_spent m s' on = eval_spent p j m s s' (next_more p below s (reached_in below steps) (goes s') tt on)

    -- the evaluation on the input below comes to the same end, by what comes next there
    module _ (limit : ℕ) (in_time : n ≤ limit) where
      same_left : eval p e (limit - n) n s ≡ eval p j (limit - n) n s → eval p e limit 0 (start p) ≡ eval p j limit 0 (start p)
      same_left same = steps_eval p e limit steps in_time ∙ (same ∙ sym (steps_eval p j limit (steps_more p below (below_width below) steps) in_time))

      pub same_demands : next p e s ≡ demands → eval p e limit 0 (start p) ≡ eval p j limit 0 (start p)
      same_demands on = same_left (eval_demands p e (limit - n) n s on ∙ sym (run_demands (limit - n) n on))

      pub same_lacks : next p e s ≡ lacks → eval p e limit 0 (start p) ≡ eval p j limit 0 (start p)
      same_lacks on = same_left (eval_lacks p e (limit - n) n s on ∙ sym (run_lacks (limit - n) n on))

      pub same_stops : (why : Stop) → next p e s ≡ stops why → eval p e limit 0 (start p) ≡ eval p j limit 0 (start p)
      same_stops why on = same_left (eval_stops p e (limit - n) n s why on ∙ sym (run_stops (limit - n) n why on))

      pub same_spent : limit ≤ n → (s' : State) → next p e s ≡ goes s' → eval p e limit 0 (start p) ≡ eval p j limit 0 (start p)
      same_spent over s' on =
          let z : limit - n ≡ zero = omega arith in
          same_left (rw z (eval_spent p e n s s' on ∙ sym (run_spent n s' on)))
