-- What the parts of a step find: what the table of ends gives, and the walk outward to a variable's group.
-- Rests on Stepping, on machine's laws of codes and records, and on skipping's Finding.
use Prim.Native.Nat.{ℕ, ◌+◌, ◌<◌}
use mathlib.Core.Path.{◌≡◌, refl}
use mathlib.Core.List.{List}
use native.Mathlib.Omega.{arith}
use lib.ListN.{get_or}
use Rattle.skipping.specs.Ends.{Ends, passed_operands, passed_alternatives}
use Rattle.skipping.proofs.Finding.{operand_found, alternative_found}
use Rattle.machine.specs.Records.{record_word}
use Rattle.machine.proofs.Codes.{chosen_missing, chosen_present}
use Rattle.machine.specs.Walks.{outside_of}
use Rattle.machine.proofs.Records.{variable_outer, variable_outside}
use Rattle.registers.specs.Stepping.{declarations_of, Outward, VariableThere, PassedOver, OperandIn, Found}
use Rattle.std.specs.Prelude.{Some, None}

-- What the table of ends gives: the place behind an expression, an operand, and an alternative, missing or with its expression.
module _ (file types functions ends : List ℕ) (filled : Ends file types functions ends) where
  pub entry_behind : (i : ℕ) {next : ℕ} → next ≡ get_or ends i 0 → PassedOver file types functions i next
  entry_behind i is x code = rw is (filled i x code)

  pub operand_there : (i n : ℕ) {place : ℕ} → place ≡ passed_operands ends n i → OperandIn file types functions i n place
  operand_there i n is x there = rw is (operand_found file types functions ends filled i n x there)

  module _ (i c : ℕ) {place : ℕ} (is : place ≡ passed_alternatives file ends c i) where
    pub found_absent : get_or file place 0 ≡ 0 → Found file types functions i c None
    found_absent none new fs s there =
        chosen_missing file (declarations_of file types functions) new fs place 0 s (rw is (alternative_found file types functions ends filled new fs i c s there)) refl none

    pub found_present : (get_or file place 0 ≡ 0 → ⊥) → Found file types functions i c (Some (place + 1))
    found_present other new fs s there =
        chosen_present file (declarations_of file types functions) new fs place 0 s (rw is (alternative_found file types functions ends filled new fs i c s there)) refl other

-- The walk outward.
module _ (w : List ℕ) (base n env : ℕ) where
  pub walk_here : Outward w base n env env
  walk_here file o cell x there = there

  module _ (group : ℕ) where
    -- the record outside is an earlier one
    pub walk_less : {outer : ℕ} → VariableThere w base n env → Outward w base n env group → outer ≡ record_word w base group 0 → outer < group
    walk_less (file, o, cell, x, there) outward is =
        omega (arith, is, variable_outer file o w base cell n group x (outward file o cell x there))

    -- one turn
    pub walk_outward :
        {outer outside : ℕ} → Outward w base n env group → outside ≡ outside_of w base group → n < outside → outer ≡ record_word w base group 0
        → Outward w base n env outer
    walk_outward outward told out is file o cell x there =
        rw is (variable_outside file o w base cell n group x (outward file o cell x there) (rw told at out))
