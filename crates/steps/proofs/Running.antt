-- Steps one after the other: what they came to.
-- Rests on specs/Running.
use Prim.Native.Nat.{ℕ, suc, ◌+◌, ◌-◌, ◌≤◌}
use mathlib.Core.Path.{◌≡◌, refl, subst}
use mathlib.Core.List.{List}
use native.Mathlib.Omega.{arith}
use Rattle.registers.specs.declared.Registers.{Registers}
use Rattle.registers.specs.declared.Next.{Next}
use Rattle.steps.specs.declared.Halt.{Halt}
use Rattle.steps.specs.declared.Ran.{Ran}
use Rattle.registers.specs.Stepping.{Stepped, Result, NotStops, Looked, looked, at_result}
use Rattle.steps.specs.Running.{StepsTo, no_step, one_more, Onward, ComesBy, ComesToHalt, RunsBy, RunsOn, RunsToResult}

module _ (file types functions : List ℕ) (label : ℕ) where
  -- what is said of the last look is said of what it found
  pub stepped_so :
      {w w' : List ℕ} {base : ℕ} {r : Registers} {n : Next} (n' : Next) → Stepped file types functions w w' base label r n → n ≡ n'
      → Stepped file types functions w w' base label r n'
  stepped_so {w} {w'} {base} {r} n' said is = subst (Stepped file types functions w w' base label r) is said

  pub looked_so :
      {w w' : List ℕ} {base : ℕ} {r : Registers} {n : Next} (n' : Next) → Looked file types functions w w' base label r n → n ≡ n'
      → Looked file types functions w w' base label r n'
  looked_so {w} {w'} {base} {r} n' said is = subst (Looked file types functions w w' base label r) is said

  -- what a look says that is not the end comes next
  pub looked_stepped :
      {w w' : List ℕ} {base : ℕ} {r : Registers} {n : Next} → NotStops n → Looked file types functions w w' base label r n → Stepped file types functions w w' base label r n
  looked_stepped some (looked some' s) = s
  looked_stepped none (at_result same result) = absurd none

  -- and where it says that it is the end, there is a result
  pub looked_result :
      {w w' : List ℕ} {base : ℕ} {r : Registers} {n : Next} → n ≡ Next.Stops → Looked file types functions w w' base label r n → (w' ≡ w) × Result file w base r
  looked_result is (looked some s) = absurd (subst NotStops is some)
  looked_result is (at_result same result) = (same, result)

  pub ran :
      {Says : List ℕ → List ℕ → Registers → Next → Type 0} {w w₁ w₂ : List ℕ} {base left done : ℕ} {from r : Registers} (halt : Halt)
      → StepsTo file types functions label base done w from w₁ r → done ≤ left → ComesBy (Says w₁ w₂ r) done left halt
      → RunsBy file types functions label Says w w₂ base from left (record { registers = r; halt = halt; steps = done })
  ran {w₁ = w₁} halt led no_more comes = record { between = w₁; led = led; no_more = no_more; comes = comes }

  -- what they came to
  pub comes_so :
      {w w' : List ℕ} {base left : ℕ} {from : Registers} {x : Ran} (ran_on : RunsOn file types functions label w w' base from left x) (halt : Halt) → x.halt ≡ halt
      → ComesToHalt file types functions label ran_on.between w' base x.registers x.steps left halt
  comes_so {w' = w'} {base} {left} {x = x} ran_on halt is =
      subst (ComesToHalt file types functions label ran_on.between w' base x.registers x.steps left) is ran_on.comes

  -- steps behind steps
  pub steps_joined :
      {base n m : ℕ} {w w₁ w₂ : List ℕ} {r r₁ r₂ : Registers} → StepsTo file types functions label base n w r w₁ r₁ → StepsTo file types functions label base m w₁ r₁ w₂ r₂
      → StepsTo file types functions label base (n + m) w r w₂ r₂
  steps_joined {base} {n} {w = w} {w₂ = w₂} {r = r} {r₂ = r₂} led no_step =
      let same : n + 0 ≡ n = omega arith in
      rw same led
  steps_joined {base} {n} led (one_more {n = m} before last) =
      let same : n + suc m ≡ suc (n + m) = omega arith in
      rw same (one_more (steps_joined led before) last)

  -- where they led, so many steps or fewer of those that are left lead on
  pub onward_from :
      {base left n : ℕ} {w w₁ : List ℕ} {r r₁ : Registers} → Onward file types functions label w base r left → n ≤ left → StepsTo file types functions label base n w r w₁ r₁
      → Onward file types functions label w₁ base r₁ (left - n)
  onward_from {n = n} onward most led m w₂ r₂ few led' = onward (n + m) w₂ r₂ (omega (arith, most, few)) (steps_joined led led')

  -- what they come to behind others, if it is no result
  comes_behind :
      (w w' : List ℕ) (base : ℕ) (r : Registers) (done m left : ℕ) (h : Halt) → (h ≡ Halt.Stops → ⊥) → done ≤ left → ComesBy (Looked file types functions w w' base label r) m (left - done) h
      → ComesBy (Stepped file types functions w w' base label r) (done + m) left h
  comes_behind w w' base r done m left Halt.Demands other most comes = looked_stepped tt comes
  comes_behind w w' base r done m left Halt.Lacks other most comes = looked_stepped tt comes
  comes_behind w w' base r done m left Halt.Stops other most comes = absurd (other refl)
  comes_behind w w' base r done m left Halt.Spent other most (to, said, none_left) = (to, looked_stepped tt said, omega (arith, most, none_left))
  comes_behind w w' base r done m left (Halt.Waits x) other most comes = looked_stepped tt comes

  pub ran_behind :
      {w w₁ w₂ : List ℕ} {base left done : ℕ} {from r : Registers} (x : Ran) → StepsTo file types functions label base done w from w₁ r → done ≤ left
      → RunsToResult file types functions label w₁ w₂ base r (left - done) x → (x.halt ≡ Halt.Stops → ⊥)
      → RunsOn file types functions label w w₂ base from left (record { registers = x.registers; halt = x.halt; steps = done + x.steps })
  ran_behind {w₂ = w₂} {base} {left} {done} x led most runs other = record {
    between = runs.between;
    led = steps_joined led runs.led;
    no_more = omega (arith, most, runs.no_more);
    comes = comes_behind runs.between w₂ base x.registers done x.steps left x.halt other most runs.comes;
  }

  -- at a result: where they led, and that it is one
  pub at_a_result :
      {w w₁ w₂ : List ℕ} {base left done : ℕ} {from r : Registers} (x : Ran) → StepsTo file types functions label base done w from w₁ r → done ≤ left
      → RunsToResult file types functions label w₁ w₂ base r (left - done) x → x.halt ≡ Halt.Stops
      → StepsTo file types functions label base (done + x.steps) w from w₂ x.registers × (done + x.steps ≤ left) × Result file w₂ base x.registers
  at_a_result {w} {w₁} {w₂} {base} {left} {done} {from} x led most runs is =
      let comes = subst (ComesBy (Looked file types functions runs.between w₂ base label x.registers) x.steps (left - done)) is runs.comes in
      let (same, result) = looked_result refl comes in
      rw same (steps_joined led runs.led, omega (arith, most, runs.no_more), result)
