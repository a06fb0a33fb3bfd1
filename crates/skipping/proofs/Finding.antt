-- What the table of ends is for: the operand of a number stands where passing over as many entries leads, and the alternative of a constructor
-- where passing over as many alternatives leads. And the equations of the two loops that pass over entries.
-- Rests on specs/Ends and on machine's Walks.
use Prim.Native.Nat.{ℕ, zero, suc, ◌+◌, ◌-◌, ◌≤◌, ◌<◌}
use mathlib.Core.Path.{◌≡◌, refl}
use mathlib.Core.List.{List}
use lib.ListN.{get_or}
use native.Mathlib.Omega.{arith}
use borrow.Author.Tests.{eq-eqb, ne_eqb}
use Rattle.reach.specs.Syntax.{Expr}
use Rattle.reach.specs.Encoding.{ByteAt}
use Rattle.reach.specs.Eval.{Env, Frame, State}
use Rattle.reach.specs.Places.{declarations_at}
use Rattle.machine.specs.Records.{Code}
use Rattle.machine.specs.Walks.{OperandAt, this_operand, later_operand, ChosenAt, none_chosen, this_chosen, past_absent, past_present}
use Rattle.skipping.specs.Ends.{passed_operands, passed_alternative, passed_alternatives, Ends}

-- One entry more, and none.
module _ (ends : List ℕ) where
  pub operands_none : (n i : ℕ) → n ≤ 0 → passed_operands ends n i ≡ i
  unfolding passed_operands
  operands_none zero i h = refl
  operands_none (suc n) i h = absurd (omega arith)

  pub operands_more : (n i : ℕ) → 0 < n → passed_operands ends (n - 1) (get_or ends i 0) ≡ passed_operands ends n i
  unfolding passed_operands
  operands_more zero i h = absurd (omega arith)
  operands_more (suc n) i h = let z : suc n - 1 ≡ n = omega arith in rw z

-- One alternative more, and none.
module _ (file ends : List ℕ) where
  pub alternatives_none : (n i : ℕ) → n ≤ 0 → passed_alternatives file ends n i ≡ i
  unfolding passed_alternatives
  alternatives_none zero i h = refl
  alternatives_none (suc n) i h = absurd (omega arith)

  pub alternatives_more : (n i : ℕ) → 0 < n → passed_alternatives file ends (n - 1) (passed_alternative file ends i) ≡ passed_alternatives file ends n i
  unfolding passed_alternatives
  alternatives_more zero i h = absurd (omega arith)
  alternatives_more (suc n) i h = let z : suc n - 1 ≡ n = omega arith in rw z

  -- an alternative that is absent, and one that is there
  pub alternative_absent : (i : ℕ) → get_or file i 0 ≡ 0 → passed_alternative file ends i ≡ i + 1
  unfolding passed_alternative
  alternative_absent i is = rw (eq-eqb (get_or file i 0) 0 is)

  pub alternative_present : (i : ℕ) → (get_or file i 0 ≡ 0 → ⊥) → passed_alternative file ends i ≡ get_or ends (i + 1) 0
  unfolding passed_alternative
  alternative_present i other = rw (ne_eqb (get_or file i 0) 0 other)

  -- an expression stands behind a byte 1
  pub alternative_one : (i : ℕ) → ByteAt file i 1 → passed_alternative file ends i ≡ get_or ends (i + 1) 0
  alternative_one i one = alternative_present i (λ is. omega (arith, one.1))

module _ (file types functions ends : List ℕ) (filled : Ends file types functions ends) where
  -- the operand of number j stands j entries on
  pub operand_found : (i j : ℕ) (x : Expr) → OperandAt file (declarations_at file types functions) i j x → Code file (declarations_at file types functions) (passed_operands ends j i) x
  unfolding passed_operands
  operand_found i j x (this_operand code) = code
  operand_found i j x (later_operand {j = k} y code rest) = operand_found (get_or ends i 0) k x (rest (get_or ends i 0) (filled i y code))

  -- the alternative of constructor c stands c alternatives on
  pub alternative_found : (new : Env) (fs : List Frame) (i c : ℕ) (s : State) → ChosenAt file (declarations_at file types functions) new fs i c s
      → ChosenAt file (declarations_at file types functions) new fs (passed_alternatives file ends c i) 0 s
  unfolding passed_alternatives
  alternative_found new fs i c s (none_chosen b) = none_chosen b
  alternative_found new fs i c s (this_chosen e b code) = this_chosen e b code
  alternative_found new fs i c s (past_absent {c = k} b rest) =
      rw (alternative_absent file ends i b.1) (alternative_found new fs (i + 1) k s rest)
  alternative_found new fs i c s (past_present {c = k} e b code rest) =
      let next = get_or ends (i + 1) 0 in
      rw (alternative_one file ends i b) (alternative_found new fs next k s (rest next (filled (i + 1) e code)))
