-- `skipping::Program::end_of` meets its contract: the code at the place tells the kind, and each kind has one law of Filling.
use mathlib.Core.Path.{sym, ◌∙◌}
use native.Mathlib.Omega.{arith}
use Rattle.skipping.proofs.Filling.{end_variable, end_call, end_construct, no_end, end_case, end_let, end_target}
use Rattle.skipping.proofs.Program.end_of.Goals as goal

pub returns-in_default-fields : goal.returns-in_default-fields
returns-in_default-fields c =
    no_end _ _ _ c.args.self.now.ends.now _ c.requires.0 _ (omega arith) (sym c.byte_or_zero-code.ensures.value ∙ c.in-2.is)
    c.fields.result
    (rw (c.byte_or_zero-first.ensures.value, c.byte_or_zero.ensures.value) at c.fields.ensures.result_value)
    c.in_default-fields.is _

pub returns-in-0 : goal.returns-in-0
returns-in-0 c =
    end_variable _ _ _ c.args.self.now.ends.now _ c.requires.0 _ (omega arith) (sym c.byte_or_zero-code.ensures.value ∙ c.in-0.is)

pub returns-in-1 : goal.returns-in-1
returns-in-1 c =
    rw c.pass_operands.ensures
    (end_call _ _ _ c.args.self.now.ends.now _ c.requires.0 _ (omega arith) (sym c.byte_or_zero-code.ensures.value ∙ c.in-1.is)
    c.head-head.result (rw c.byte_or_zero-first.ensures.value at c.head-head.ensures.result_value))

pub returns-in-Some : goal.returns-in-Some
returns-in-Some c =
    rw c.pass_operands-in-2.ensures
    (end_construct _ _ _ c.args.self.now.ends.now _ c.requires.0 _ (omega arith) (sym c.byte_or_zero-code.ensures.value ∙ c.in-2.is)
    c.fields.result
    (rw (c.byte_or_zero-first.ensures.value, c.byte_or_zero.ensures.value) at c.fields.ensures.result_value)
    c.in-Some.is)

pub returns-in-3 : goal.returns-in-3
returns-in-3 c =
    rw (c.pass_alternatives.ensures.value, c.end.ensures.0)
    (end_case _ _ _ c.args.self.now.ends.now _ c.requires.0 _ (omega arith) (sym c.byte_or_zero-code.ensures.value ∙ c.in-3.is)
    c.constructors-all.result (rw c.byte_or_zero-first.ensures.value at c.constructors-all.ensures.count_value))

pub returns-in-4 : goal.returns-in-4
returns-in-4 c =
    rw c.pass_operands-in-4.ensures
    (end_let _ _ _ c.args.self.now.ends.now _ c.requires.0 _ (omega arith) (sym c.byte_or_zero-code.ensures.value ∙ c.in-4.is))

pub returns-in_default : goal.returns-in_default
returns-in_default c =
    rw c.pass_operands-in_default.ensures
    (end_target _ _ _ c.args.self.now.ends.now _ c.requires.0 _ (omega arith) (sym c.byte_or_zero-code.ensures.value)
    (omega arith) (omega arith) (omega arith) (omega arith) (omega arith))
