-- What steps one after the other promise.
-- Rests on registers' Stepping and on the types of src/lib.rt.
use Rattle.std.specs.Prelude.{ℕ, zero, suc, ◌≤◌, List}
use Rattle.registers.specs.declared.Registers.{Registers}
use Rattle.registers.specs.declared.Next.{Next}
use Rattle.steps.specs.declared.Halt.{Halt}
use Rattle.steps.specs.declared.Ran.{Ran}
use Rattle.registers.specs.Stepping.{Standing, Stepped, Looked}

-- what is come to with so many steps made, by what is said of what comes next
abbrev pub ComesBy : (Next → Type 0) → ℕ → ℕ → Halt → Type 0
ComesBy Says steps left Halt.Demands = Says Next.Demands
ComesBy Says steps left Halt.Lacks = Says Next.Lacks
ComesBy Says steps left Halt.Stops = Says Next.Stops
ComesBy Says steps left Halt.Spent = (to : Registers) × Says (Next.Goes to) × (left ≤ steps)
ComesBy Says steps left (Halt.Waits x) = Says (Next.Waits x)

module _ (file types functions : List ℕ) (label : ℕ) where
  -- so many steps lead from registers in words to others
  pub data StepsTo (base : ℕ) : ℕ → List ℕ → Registers → List ℕ → Registers → Type 0 where
    no_step : {w : List ℕ} {r : Registers} → StepsTo base zero w r w r
    one_more : {n : ℕ} {w w₁ w₂ : List ℕ} {r r₁ r₂ : Registers} → StepsTo base n w r w₁ r₁ → Stepped file types functions w₁ w₂ base label r₁ (Next.Goes r₂)
        → StepsTo base (suc n) w r w₂ r₂

  -- wherever so many steps or fewer lead, the words stand for a state
  abbrev pub Onward : List ℕ → ℕ → Registers → ℕ → Type 0
  Onward w base from left = (n : ℕ) (w₁ : List ℕ) (r₁ : Registers) → n ≤ left → StepsTo base n w from w₁ r₁ → Standing file types functions w₁ base r₁

  -- what comes next where they led, of so many steps
  abbrev pub ComesToHalt : List ℕ → List ℕ → ℕ → Registers → ℕ → ℕ → Halt → Type 0
  ComesToHalt w w' base r steps left halt = ComesBy (Stepped file types functions w w' base label r) steps left halt

  -- Steps were made, and the last look, of which this is said, wrote no more than the record at the top.
  pub record RunsBy (Says : List ℕ → List ℕ → Registers → Next → Type 0) (w w' : List ℕ) (base : ℕ) (from : Registers) (left : ℕ) (x : Ran) : Type 0 where
    pub between : List ℕ
    pub led : StepsTo base x.steps w from between x.registers
    pub no_more : x.steps ≤ left
    pub comes : ComesBy (Says between w' x.registers) x.steps left x.halt

  -- the last look says what comes next
  abbrev pub RunsOn : List ℕ → List ℕ → ℕ → Registers → ℕ → Ran → Type 0
  RunsOn w w' base from left x = RunsBy (λ v v' r n. Stepped file types functions v v' base label r n) w w' base from left x

  -- the last look leaves a result alone
  abbrev pub RunsToResult : List ℕ → List ℕ → ℕ → Registers → ℕ → Ran → Type 0
  RunsToResult w w' base from left x = RunsBy (λ v v' r n. Looked file types functions v v' base label r n) w w' base from left x
