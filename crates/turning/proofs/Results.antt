-- A result, by the kind of what is being evaluated; a part of the input is not gone into.
-- Rests on Turning and on registers' Kept and Which.
use Prim.Native.Nat.{ℕ, ◌+◌, ◌≤◌, ◌<◌}
use mathlib.Core.Path.{◌≡◌, refl, subst}
use mathlib.Core.List.{List}
use native.Mathlib.Omega.{arith}
use lib.ListN.{get_or}
use Rattle.reach.specs.Eval as Eval
use Rattle.reach.proofs.Base.{clash}
use Rattle.lookups.specs.Fields.{FieldCount}
use Rattle.machine.specs.Records.{no_case, part_in}
use Rattle.registers.specs.declared.Registers.{Registers}
use Rattle.registers.specs.declared.Next.{Next}
use Rattle.registers.specs.Stepping.{expression_kind, control_in, Standing, Ready, Result, built, a_part, Stepped, StepMeans, Turned}
use Rattle.registers.proofs.Which.{expression_control, part_control}
use Rattle.registers.proofs.Kept.{inspected}
use Rattle.turning.specs.Turning.{OwnFields, FieldsFit, FitWords, GoesOn}
use Rattle.turning.proofs.Turning.{after_result, goes_only, fields_fit, part_end, part_after, construct_fits, construct_goes_on, construct_turns_to}

-- what is to be shown of a result is shown of a construction and of a part of the input
pub by_result : {file w : List ℕ} {base : ℕ} {G : Type 0} (r : Registers) → Result file w base r
    → (r.kind ≡ expression_kind → Ready file w base r 2 r.place r.env → no_case ≤ r.frame → G)
    → ((r.kind ≡ expression_kind → ⊥) → (x : ℕ) → control_in r ≡ part_in x → no_case ≤ r.frame → G) → G
by_result {file} {w} {base} r (built {i} {env} ready no-case) of-built of_part =
    let (is, place, outer) = expression_control r.kind r.place r.env i env ready.control_is in
    of-built is (subst (λ (x : ℕ). Ready file w base r 2 x r.env) place (subst (λ (x : ℕ). Ready file w base r 2 i x) outer ready)) no-case
by_result r (a_part {x} is_part no-case) of-built of_part = of_part (part_control r.kind r.place r.env x is_part) x is_part no-case

module _ (file types functions w : List ℕ) (base cell : ℕ) (r : Registers) (is_part : control_in r ≡ part_in cell) where
  -- behind it comes what waits
  pub part_goes_on :
      {w' : List ℕ} {n : Next} → GoesOn file types functions w w' base r n → (label : ℕ) → Stepped file types functions w w' base label r n
  part_goes_on {w'} {n} goes label = record {
    only_top = goes_only goes;
    steps = λ p sought cells e s file_of stands.
        inspected file types functions w base cell r is_part p cells e s (λ s'. StepMeans file types functions w w' base r p e s' n) stands
        (λ q fs is frames there frames_in sound.
        after_result stands (λ fs'. Eval.inspecting q fs') (part_end p e q) (part_after p e q) frames frames_in goes);
  }

  pub part_fits : no_case ≤ r.frame → Standing file types functions w base r → FieldsFit w base r
  part_fits no-case standing x is some =
      let stands = standing.stands in
      inspected file types functions w base cell r is_part standing.program standing.cells standing.input standing.state (λ s. FitWords w base r x) stands
      (λ q fs is-cell frames there frames_in sound. fields_fit stands frames is some)

pub result_no_case : {file w : List ℕ} {base : ℕ} {r : Registers} → Result file w base r → no_case ≤ r.frame
result_no_case (built ready no-case) = no-case
result_no_case (a_part is_part no-case) = no-case

-- What comes behind a result.
module _ (file types functions w : List ℕ) (base : ℕ) (r : Registers) (result : Result file w base r) where
  -- the words of the frame are those of fields that wait
  pub result_fits : Standing file types functions w base r → FieldsFit w base r
  result_fits standing =
      by_result r result (λ is ready no-case. construct_fits file types functions w base r.place r.env r ready no-case standing)
      (λ other x is_part no-case. part_fits file types functions w base x r is_part no-case standing)

  module _ {k : ℕ} (own : OwnFields file types r k) where
    -- with fields of its own it is a construction
    pub own_built : {G : Type 0} → 0 < k
        → (Ready file w base r 2 r.place r.env → no_case ≤ r.frame → FieldCount file types (get_or file (r.place + 1) 0) (get_or file (r.place + 2) 0) k → G) → G
    own_built some show =
        by_result r result (λ is ready no-case. show ready no-case (own.0 is)) (λ other x is_part no-case. absurd (clash (omega (arith, some, own.1 other))))

    -- of which the first is turned to
    pub result_turns : {w' : List ℕ} {r' : Registers} → 0 < k → Turned file types functions w w' base r (r.place + 3) k r.env r.frame r' → (label : ℕ)
        → Stepped file types functions w w' base label r (Next.Goes r')
    result_turns some turns label =
        own_built some
        (λ ready no-case counts.
        construct_turns_to file types functions w base r.place r.env r ready no-case refl refl counts (λ none. clash (omega (arith, some, none))) turns label)

    -- without them comes what waits
    pub result_goes_on : {w' : List ℕ} {n : Next} → k ≡ 0 → GoesOn file types functions w w' base r n → (label : ℕ) → Stepped file types functions w w' base label r n
    result_goes_on none goes label =
        by_result r result
        (λ is ready no-case. construct_goes_on file types functions w base r.place r.env r ready no-case refl refl (own.0 is) none goes label)
        (λ other x is_part no-case. part_goes_on file types functions w base x r is_part goes label)
