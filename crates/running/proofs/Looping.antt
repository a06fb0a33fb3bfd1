-- The loop of `go_on`: from the beginning the run came to where it is, so it ends there as it does from the beginning.
-- Rests on specs/Running, on binding's Underway, Reached and Advancing, and on what steps' Running says of steps one after the other.
use Prim.Native.Nat.{ℕ, zero, suc, ◌+◌, ◌-◌, ◌≤◌, ◌<◌}
use mathlib.Core.Path.{◌≡◌, sym, ◌∙◌, ap, subst}
use mathlib.Core.List.{List}
use native.Mathlib.Omega.{arith}
use Rattle.reach.specs.declared.Outcome.{Outcome}
use Rattle.reach.specs.Syntax.{Program}
use Rattle.reach.specs.Parts.{Parts, ◌⊑◌}
use Rattle.reach.specs.Eval.{State, start, eval}
use Rattle.reach.proofs.Base.{clash}
use Rattle.reach.specs.States.{Steps}
use Rattle.reach.specs.Answers.{outcome_of}
use Rattle.registers.specs.declared.Registers.{Registers}
use Rattle.registers.specs.declared.Next.{Next}
use Rattle.steps.specs.declared.Halt.{Halt}
use Rattle.steps.specs.declared.Ran.{Ran}
use Rattle.registers.specs.Stepping.{Standing, Stepped}
use Rattle.steps.specs.Running.{StepsTo, no_step, one_more, Onward, ComesToHalt, RunsOn}
use Rattle.skipping.specs.Ends.{Ends}
use Rattle.binding.specs.Underway.{GivenInput, Underway, Advances, NextIs, AdvancesAll, SomeWaiting, Enters}
use Rattle.binding.proofs.Reached.{same_demands, same_lacks, same_stops, same_spent}
use Rattle.binding.proofs.Advancing.{within, went}
use Rattle.running.specs.Looked.{LookedAt}
use Rattle.running.specs.Running.{EndsAs, RunBegins, LedTo}

-- it is the end: nothing comes next, or no step is left
abbrev Last : Next → Type 0 → Type 0
Last Next.Demands spent = Unit {0}
Last Next.Lacks spent = Unit {0}
Last Next.Stops spent = Unit {0}
Last (Next.Goes r) spent = spent
Last (Next.Waits x) spent = ⊥

-- there the evaluation on the input that is bound so far is at the same end
same_end :
    {file types functions input : List ℕ} {p : Program} {j e : Parts} {limit done : ℕ} {s : State} (n : Next) → Last n (limit ≤ done)
    → GivenInput file types functions input p j → done ≤ limit → e ⊑ j → Steps p e done s → NextIs p e s n
    → eval p e limit 0 (start p) ≡ eval p j limit 0 (start p)
same_end {file} {p = p} {j} {limit = limit} Next.Demands over given in_time below steps on =
    same_demands file p given.of_file.checked j (within given) below steps limit in_time on
same_end {file} {p = p} {j} {limit = limit} Next.Lacks over given in_time below steps on =
    same_lacks file p given.of_file.checked j (within given) below steps limit in_time on
same_end {file} {p = p} {j} {limit = limit} Next.Stops over given in_time below steps (why, on) =
    same_stops file p given.of_file.checked j (within given) below steps limit in_time why on
same_end {file} {p = p} {j} {limit = limit} (Next.Goes r) over given in_time below steps (s', on) =
    same_spent file p given.of_file.checked j (within given) below steps limit in_time over s' on
same_end (Next.Waits x) over given in_time below steps on = absurd on

-- the words stand for a state of the program where the run is under way
stands_there :
    {file types functions input : List ℕ} {label limit : ℕ} {w : List ℕ} {base cells done : ℕ} {r : Registers} {p : Program} {j : Parts} {s : State}
    → Underway file types functions input label limit w base cells done r p j s → Standing file types functions w base r
stands_there {cells = cells} {p = p} {s = s} h =
    record { program = p; cells = cells; input = h.running.input; state = s; file_of = h.given.of_file.file_of; stands = h.running.stands }

module _ {file types functions input : List ℕ} {label limit : ℕ} {w₀ : List ℕ} {base first : ℕ} {from : Registers} where
  pub came_first : LedTo file types functions input label limit w₀ base first from w₀ first 0 from
  came_first p j s h = let z : limit - 0 ≡ limit = omega arith in (s, h, rw z)

  module _ {w : List ℕ} {cells done : ℕ} {r : Registers} (came : LedTo file types functions input label limit w₀ base first from w cells done r) where
    module _ (w' : List ℕ) (cells' : ℕ) (n : Next) (advances : AdvancesAll file types functions input label w w' base cells r cells' n) where
      step : (p : Program) (j : Parts) (s : State) (h : Underway file types functions input label limit w₀ base first 0 from p j s)
          → Advances file types functions input label limit w' base done p j (came p j s h).0 cells' n
      step p j s h = (advances limit done p j (came p j s h).0 (came p j s h).1).0

      -- what the words stand for at the end, by what comes next there
      looked_at : Last n (limit ≤ done)
          → (p : Program) (j : Parts) (s : State) → Underway file types functions input label limit w₀ base first 0 from p j s → LookedAt p j limit w'
      looked_at over p j s h =
          let here = (came p j s h).1 in
          let so_far = (advances limit done p j (came p j s h).0 here).1 in
          record {
            cells = so_far.cells;
            input = so_far.input;
            stands = so_far.stands;
            below = so_far.below;
            enough = same_end n over here.given here.in_time so_far.below so_far.steps so_far.comes;
          }

    module _ {w' : List ℕ} (cells' : ℕ) where
      -- one step further
      pub came_on :
          {r' : Registers} → AdvancesAll file types functions input label w w' base cells r cells' (Next.Goes r') → done < limit
          → LedTo file types functions input label limit w₀ base first from w' cells' (done + 1) r'
      came_on {r'} advances before p j s h =
          let here = came p j s h in
          let (s', spent, on, under) = step w' cells' (Next.Goes r') advances p j s h in
          let one : done + 1 ≡ suc done = omega arith in
          let left : limit - done ≡ suc (limit - suc done) = omega arith in
          rw one (s', under before, here.2 ∙ ap (λ l. eval p j l done here.0) left ∙ on (limit - suc done))

      -- the end, where the target is demanded, where an alternative is missing, or where the evaluation stops
      came_demands :
          AdvancesAll file types functions input label w w' base cells r cells' Next.Demands
          → EndsAs file types functions input label limit w₀ w' base first from (Outcome.Reached done)
      unfolding outcome_of
      came_demands advances p j s h = (
        sym (ap outcome_of ((came p j s h).2 ∙ step w' cells' Next.Demands advances p j s h (limit - done))),
        looked_at w' cells' Next.Demands advances tt p j s h,
      )

      came_lacks :
          AdvancesAll file types functions input label w w' base cells r cells' Next.Lacks
          → EndsAs file types functions input label limit w₀ w' base first from (Outcome.Missing done)
      unfolding outcome_of
      came_lacks advances p j s h = (
        sym (ap outcome_of ((came p j s h).2 ∙ step w' cells' Next.Lacks advances p j s h (limit - done))),
        looked_at w' cells' Next.Lacks advances tt p j s h,
      )

      came_stops :
          AdvancesAll file types functions input label w w' base cells r cells' Next.Stops
          → EndsAs file types functions input label limit w₀ w' base first from (Outcome.Ended done)
      unfolding outcome_of
      came_stops advances p j s h =
          let (why, over) = step w' cells' Next.Stops advances p j s h in
          (sym (ap outcome_of ((came p j s h).2 ∙ over (limit - done))), looked_at w' cells' Next.Stops advances tt p j s h)

      -- or where no step is left
      pub came_last :
          {r' : Registers} → AdvancesAll file types functions input label w w' base cells r cells' (Next.Goes r') → limit ≤ done
          → EndsAs file types functions input label limit w₀ w' base first from (Outcome.Unfinished done)
      unfolding outcome_of
      came_last {r'} advances over p j s h =
          let none : limit - done ≡ zero = omega arith in
          let here = came p j s h in (
            sym (ap outcome_of (here.2 ∙ ap (λ l. eval p j l done here.0) none ∙ (step w' cells' (Next.Goes r') advances p j s h).1)),
            looked_at w' cells' (Next.Goes r') advances over p j s h,
          )

  -- one step further, and so many
  far_none :
      {w : List ℕ} {cells done : ℕ} {r : Registers} → LedTo file types functions input label limit w₀ base first from w cells done r
      → LedTo file types functions input label limit w₀ base first from w cells (done + 0) r
  far_none {done = done} came = let z : done + 0 ≡ done = omega arith in rw z came

  far_on :
      {w w' : List ℕ} {cells : ℕ} (done n : ℕ) {r r' : Registers} → LedTo file types functions input label limit w₀ base first from w cells (done + n) r
      → Stepped file types functions w w' base label r (Next.Goes r') → done + suc n ≤ limit
      → LedTo file types functions input label limit w₀ base first from w' cells (done + suc n) r'
  far_on {w} {cells = cells} done n {r} {r'} came stepped few =
      let z : done + suc n ≡ done + n + 1 = omega arith in
      rw z (came_on came cells (went (Next.Goes r') stepped (λ x is. absurd (clash (cc)))) (omega arith))

  came_far :
      {w w₁ : List ℕ} {cells done n : ℕ} {r r₁ : Registers} → LedTo file types functions input label limit w₀ base first from w cells done r
      → StepsTo file types functions label base n w r w₁ r₁ → done + n ≤ limit
      → LedTo file types functions input label limit w₀ base first from w₁ cells (done + n) r₁
  came_far came no_step few = far_none came
  came_far {done = done} came (one_more {n} led stepped) few = far_on done n (came_far came led (omega arith)) stepped few

  module _ {w : List ℕ} {cells done : ℕ} {r : Registers} (came : LedTo file types functions input label limit w₀ base first from w cells done r) (in_time : done ≤ limit) where
    -- wherever the steps that are left lead, the words stand for a state
    pub came_onward : RunBegins file types functions input label limit w₀ base first from → Onward file types functions label w base r (limit - done)
    came_onward (p, j, s, h) n w₁ r₁ few led = stands_there (came_far came led (omega arith) p j s h).1

    -- the steps of `run_on` led to where it halted
    module _ {w' : List ℕ} {x : Ran} (ran : RunsOn file types functions label w w' base r (limit - done) x) where
      halts : (halt : Halt) → x.halt ≡ halt → ComesToHalt file types functions label ran.between w' base x.registers x.steps (limit - done) halt
      halts halt is = subst (ComesToHalt file types functions label ran.between w' base x.registers x.steps (limit - done)) is ran.comes

      came_there : LedTo file types functions input label limit w₀ base first from ran.between cells (done + x.steps) x.registers
      came_there = came_far came ran.led (omega (arith, ran.no_more))

      pub halt_demands : x.halt ≡ Halt.Demands → EndsAs file types functions input label limit w₀ w' base first from (Outcome.Reached (done + x.steps))
      halt_demands is =
          came_demands came_there cells (went Next.Demands (halts Halt.Demands is) (λ y no. absurd (clash (cc))))

      pub halt_lacks : x.halt ≡ Halt.Lacks → EndsAs file types functions input label limit w₀ w' base first from (Outcome.Missing (done + x.steps))
      halt_lacks is =
          came_lacks came_there cells (went Next.Lacks (halts Halt.Lacks is) (λ y no. absurd (clash (cc))))

      pub halt_stops : x.halt ≡ Halt.Stops → EndsAs file types functions input label limit w₀ w' base first from (Outcome.Ended (done + x.steps))
      halt_stops is =
          came_stops came_there cells (went Next.Stops (halts Halt.Stops is) (λ y no. absurd (clash (cc))))

      pub halt_spent : x.halt ≡ Halt.Spent → EndsAs file types functions input label limit w₀ w' base first from (Outcome.Unfinished (done + x.steps))
      halt_spent is =
          let (to, stepped, none) = halts Halt.Spent is in
          came_last came_there cells (went (Next.Goes to) stepped (λ y no. absurd (clash (cc)))) (omega arith)

      -- where a case waits on the part in a cell
      module _ {y : ℕ} (is : x.halt ≡ Halt.Waits y) where
        pub halt_waits : RunBegins file types functions input label limit w₀ base first from → SomeWaiting file types input w' base cells y x.registers
        halt_waits (p, j, s, h) =
            (functions, ran.between, label, limit, done + x.steps, p, j, (came_there p j s h).0, (came_there p j s h).1, halts (Halt.Waits y) is)

        -- it goes on with the part, if a step is left
        module _
            (ends : List ℕ) {w'' : List ℕ} {cells' : ℕ} {r' : Registers} (filled : Ends file types functions ends)
            (enters : Enters file types ends input w' w'' base cells y x.registers cells' r')
          where
            pub halt_enters : done + x.steps < limit → LedTo file types functions input label limit w₀ base first from w'' cells' (done + x.steps + 1) r'
            halt_enters =
                came_on came_there cells' (enters functions ran.between label filled (halts (Halt.Waits y) is))

            pub halt_last : limit ≤ done + x.steps → EndsAs file types functions input label limit w₀ w'' base first from (Outcome.Unfinished (done + x.steps))
            halt_last =
                came_last came_there cells' (enters functions ran.between label filled (halts (Halt.Waits y) is))
