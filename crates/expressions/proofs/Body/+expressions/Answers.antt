-- The check of expressions meets its contracts: a cycle of nine functions that call one another. Each answer names the law of the definition's reader for
-- the place where the code answers, and hands it what the code read and tested on the way there.
-- Rests on Tables, Expressions and Sequences, and on the answers of crate marks.
use Prim.Native.Nat.{◌+◌, ◌-◌}
use mathlib.Core.Path.{◌≡◌, refl, ◌∙◌}
use native.Mathlib.Omega.{arith}
use Rattle.marks.proofs.Answers.{read, unread, handed_on}
use Rattle.expressions.proofs.Tables.{narrow_first, narrow_rest, each_fields}
use Rattle.expressions.proofs.Expressions.{expression_short, expression_variable, expression_call, expression_construct, expression_case, expression_let, expression_target, expression_unknown, call_short, call_unknown, call_over, call_mismatch, call_goes, construct_short, construct_short_2, construct_unknown, construct_over, construct_mismatch, construct_goes, case_short, case_unknown, case_over, case_refused, case_goes, let_short, let_unknown, let_over, let_refused, let_goes, target_short, target_over, target_goes}
use Rattle.expressions.proofs.Sequences.{operand_next, operand_refused, operands_done, alternative_short, alternative_unknown, alternative_none, alternative_goes, alternative_next, alternative_refused, alternatives_done}
use Rattle.expressions.proofs.Body.+expressions.Goals as goal

-- An expression: its code, and the kind of that code.

pub expression-returns-in_err-code : goal.expression-returns-in_err-code
expression-returns-in_err-code t c =
    handed_on _ c.from_residual.ensures ∙ expression_short _ _ _ _ _ _ _ _ (unread _ c.in_err-code.ensures)

pub expression-returns-in-0 : goal.expression-returns-in-0
expression-returns-in-0 t c =
    expression_variable _ _ _ _ _ _ _ _ (read _ c.in_ok-code.ensures) c.in-0.is c.variable.ensures

pub expression-returns-in-1 : goal.expression-returns-in-1
expression-returns-in-1 t c =
    expression_call _ _ _ _ _ _ _ _ (read _ c.in_ok-code.ensures) c.in-1.is c.call.ensures

pub expression-returns-in-2 : goal.expression-returns-in-2
expression-returns-in-2 t c =
    expression_construct _ _ _ _ _ _ _ _ (read _ c.in_ok-code.ensures) c.in-2.is c.construct.ensures

pub expression-returns-in-3 : goal.expression-returns-in-3
expression-returns-in-3 t c =
    expression_case _ _ _ _ _ _ _ _ (read _ c.in_ok-code.ensures) c.in-3.is c.case.ensures

pub expression-returns-in-4 : goal.expression-returns-in-4
expression-returns-in-4 t c =
    expression_let _ _ _ _ _ _ _ _ (read _ c.in_ok-code.ensures) c.in-4.is c.let_expression.ensures

pub expression-returns-in-5 : goal.expression-returns-in-5
expression-returns-in-5 t c =
    expression_target _ _ _ _ _ _ _ _ (read _ c.in_ok-code.ensures) c.in-5.is c.target.ensures

pub expression-returns-in_default : goal.expression-returns-in_default
expression-returns-in_default t c =
    expression_unknown _ _ _ _ _ _ _ _ (read _ c.in_ok-code.ensures) (omega arith)

-- A call: a function's number, the limits, its result type, and an operand for each parameter.

pub call-returns-in_err-number : goal.call-returns-in_err-number
call-returns-in_err-number t c =
    handed_on _ c.from_residual.ensures ∙ call_short _ _ _ c.args.scope _ _ (unread _ c.in_err-number.ensures)

pub call-returns-then-self-f : goal.call-returns-then-self-f
call-returns-then-self-f t c =
    call_unknown _ _ _ c.args.scope _ _ (read _ c.in_ok-number.ensures) c.from-f.ensures c.if-self-f.true

pub call-returns-in_err-inside : goal.call-returns-in_err-inside
call-returns-in_err-inside t c =
    handed_on _ c.from_residual-in_err-inside.ensures
    ∙ call_over _ _ _ _ _ _ (read _ c.in_ok-number.ensures) c.from-f.ensures c.if-self-f.false c.in_err-inside.ensures

pub call-returns-then-head-scope : goal.call-returns-then-head-scope
call-returns-then-head-scope t c =
    call_mismatch _ _ _ _ _ _ (read _ c.in_ok-number.ensures) c.from-f.ensures c.if-self-f.false c.in_ok-inside.ensures
    c.head-head.result
    c.head-head.ensures.result_value
    c.if-head-scope.true

pub call-returns : goal.call-returns
call-returns t c =
    call_goes _ _ _ _ _ _ (read _ c.in_ok-number.ensures) c.from-f.ensures c.if-self-f.false c.in_ok-inside.ensures
    c.head-head.result
    c.head-head.ensures.result_value
    c.if-head-scope.false
    c.operands.ensures

-- A construction: a type's and a constructor's number, the limits, the type, and an operand for each field.

pub construct-returns-in_err-number : goal.construct-returns-in_err-number
construct-returns-in_err-number t c =
    handed_on _ c.from_residual.ensures ∙ construct_short _ _ _ c.args.scope _ _ (unread _ c.in_err-number.ensures)

pub construct-returns-in_err-c : goal.construct-returns-in_err-c
construct-returns-in_err-c t c =
    handed_on _ c.from_residual-in_err-c.ensures
    ∙ construct_short_2 _ _ _ c.args.scope _ _ (read _ c.in_ok-number.ensures) (unread _ c.in_err-c.ensures)

pub construct-returns-in_default : goal.construct-returns-in_default
construct-returns-in_default t c =
    construct_unknown _ _ _ c.args.scope _ _ (read _ c.in_ok-number.ensures) (read _ c.in_ok-c.ensures) c.from-t.ensures c.from.ensures _ c.fields.ensures.result_value c.in_default.is

pub construct-returns-in_err-inside : goal.construct-returns-in_err-inside
construct-returns-in_err-inside t c =
    handed_on _ c.from_residual-in_err-inside.ensures
    ∙ construct_over _ _ _ _ _ _ (read _ c.in_ok-number.ensures) (read _ c.in_ok-c.ensures) c.from-t.ensures c.from.ensures _ c.fields.ensures.result_value c.in-Some.is c.in_err-inside.ensures

pub construct-returns-then-t-scope : goal.construct-returns-then-t-scope
construct-returns-then-t-scope t c =
    construct_mismatch _ _ _ _ _ _ (read _ c.in_ok-number.ensures) (read _ c.in_ok-c.ensures) c.from-t.ensures c.from.ensures _ c.fields.ensures.result_value c.in-Some.is c.in_ok-inside.ensures c.if-t-scope.true

pub construct-returns : goal.construct-returns
construct-returns t c =
    construct_goes _ _ _ _ _ _ (read _ c.in_ok-number.ensures) (read _ c.in_ok-c.ensures) c.from-t.ensures c.from.ensures _ c.fields.ensures.result_value c.in-Some.is c.in_ok-inside.ensures c.if-t-scope.false
    c.operands.ensures

-- A case: a type's number, the limits, the subject, and an alternative or none for each constructor of the type.

pub case-returns-in_err-number : goal.case-returns-in_err-number
case-returns-in_err-number t c =
    handed_on _ c.from_residual.ensures ∙ case_short _ _ _ c.args.scope _ _ (unread _ c.in_err-number.ensures)

pub case-returns-then-self-t : goal.case-returns-then-self-t
case-returns-then-self-t t c =
    case_unknown _ _ _ c.args.scope _ _ (read _ c.in_ok-number.ensures) c.from-t.ensures c.if-self-t.true

pub case-returns-in_err-inside : goal.case-returns-in_err-inside
case-returns-in_err-inside t c =
    handed_on _ c.from_residual-in_err-inside.ensures
    ∙ case_over _ _ _ _ _ _ (read _ c.in_ok-number.ensures) c.from-t.ensures c.if-self-t.false c.in_err-inside.ensures

pub case-returns-in_default : goal.case-returns-in_default
case-returns-in_default t c =
    c.in_default.is
    ∙ case_refused _ _ _ _ _ _ (read _ c.in_ok-number.ensures) c.from-t.ensures c.if-self-t.false c.in_ok-inside.ensures
    c.in_default.ensures

pub case-returns : goal.case-returns
case-returns t c =
    case_goes _ _ _ _ _ _ (read _ c.in_ok-number.ensures) c.from-t.ensures c.if-self-t.false c.in_ok-inside.ensures c.in-Ok.ensures
    c.alternatives.ensures

-- A let: a type's number, the limits, the bound expression, and the body, which sees one more variable.

pub let_expression-returns-in_err-number : goal.let_expression-returns-in_err-number
let_expression-returns-in_err-number t c =
    handed_on _ c.from_residual.ensures ∙ let_short _ _ _ c.args.scope _ _ (unread _ c.in_err-number.ensures)

pub let_expression-returns-then-self-t : goal.let_expression-returns-then-self-t
let_expression-returns-then-self-t t c =
    let_unknown _ _ _ c.args.scope _ _ (read _ c.in_ok-number.ensures) c.from-t.ensures c.if-self-t.true

pub let_expression-returns-in_err-inside : goal.let_expression-returns-in_err-inside
let_expression-returns-in_err-inside t c =
    handed_on _ c.from_residual-in_err-inside.ensures
    ∙ let_over _ _ _ _ _ _ (read _ c.in_ok-number.ensures) c.from-t.ensures c.if-self-t.false c.in_err-inside.ensures

pub let_expression-returns-in_default : goal.let_expression-returns-in_default
let_expression-returns-in_default t c =
    c.in_default.is
    ∙ let_refused _ _ _ _ _ _ (read _ c.in_ok-number.ensures) c.from-t.ensures c.if-self-t.false c.in_ok-inside.ensures
    c.in_default.ensures

pub let_expression-returns : goal.let_expression-returns
let_expression-returns t c =
    let_goes _ _ _ _ _ _ (read _ c.in_ok-number.ensures) c.from-t.ensures c.if-self-t.false c.in_ok-inside.ensures c.in-Ok.ensures c.with.result
    c.with.ensures.types
    c.expression.ensures

-- A target: a label, the limits, and the expression inside.

pub target-returns-in_err-next : goal.target-returns-in_err-next
target-returns-in_err-next t c =
    handed_on _ c.from_residual.ensures ∙ target_short _ _ _ c.args.scope _ _ (unread _ c.in_err-next.ensures)

pub target-returns-in_err-inside : goal.target-returns-in_err-inside
target-returns-in_err-inside t c =
    handed_on _ c.from_residual-in_err-inside.ensures
    ∙ target_over _ _ _ _ _ _ (read _ c.in_ok-next.ensures) c.in_err-inside.ensures

pub target-returns : goal.target-returns
target-returns t c =
    target_goes _ _ _ _ _ _ (read _ c.in_ok-next.ensures) c.in_ok-inside.ensures c.expression.ensures

-- Operands.

pub operands-returns-in_default : goal.operands-returns-in_default
operands-returns-in_default t c =
    c.in_default.is
    ∙ operand_refused _ _ _ _ _ _ _ _ _ (omega arith) c.byte_or_zero-expected.ensures.value c.in_default.ensures
    ∙ c.loop-i.invariant

pub operands-loop-i-preserved : goal.operands-loop-i-preserved
operands-loop-i-preserved t c =
    let place : c.args.fields.at + c.loop-i.i + 1 ≡ c.args.fields.at + (c.loop-i.i + 1) = omega arith in
    let left : c.args.fields.count - c.loop-i.i - 1 ≡ c.args.fields.count - (c.loop-i.i + 1) = omega arith in
    rw (← place, ← left)
    (operand_next _ _ _ _ _ _ _ _ _ (omega arith) c.byte_or_zero-expected.ensures.value c.in-Ok.ensures ∙ c.loop-i.invariant)

pub operands-returns : goal.operands-returns
operands-returns t c =
    operands_done _ _ _ _ _ _ _ _ _ (omega arith) ∙ c.loop-i.invariant

-- An alternative: a byte, and behind a 1 an expression that sees the fields too.

pub alternative-returns-in_err-b : goal.alternative-returns-in_err-b
alternative-returns-in_err-b t c =
    handed_on _ c.from_residual.ensures ∙ alternative_short _ _ _ _ _ _ _ _ _ (unread _ c.in_err-b.ensures)

pub alternative-returns-then-b-gt1 : goal.alternative-returns-then-b-gt1
alternative-returns-then-b-gt1 t c =
    alternative_unknown _ _ _ _ _ _ _ _ _ (read _ c.in_ok-b.ensures) c.if-b-gt1.true

pub alternative-returns-then-b-eq0 : goal.alternative-returns-then-b-eq0
alternative-returns-then-b-eq0 t c =
    alternative_none _ _ _ _ _ _ _ _ _ (read _ c.in_ok-b.ensures) c.if-b-eq0.true

pub alternative-returns : goal.alternative-returns
alternative-returns t c =
    alternative_goes _ _ _ _ _ _ _ _ _ (read _ c.in_ok-b.ensures) c.if-b-gt1.false c.if-b-eq0.false _ c.extended-view.ensures.types c.expression.ensures

-- Alternatives.

pub alternatives-loop-fields-init : goal.alternatives-loop-fields-init
alternatives-loop-fields-init t c =
    let r = c.args.self.now.rules in
    let all = each_fields r.file.now _ _ c.into_iter-fields-iterator.ensures.into_iter_gives c.each_constructor-fields-items.ensures.file
    c.each_constructor-fields-items.ensures.constructors in
    (tt, tt, rw all refl, rw all (c.args.self.now.small.fields_limit c.args.t c.requires.known))

pub alternatives-alternative-alternative-requires : goal.alternatives-alternative-alternative-requires
alternatives-alternative-alternative-requires t c =
    let narrow = rw c.in-Some.ensures.steps at c.loop-fields.invariant.3 in
    (omega arith, (c.requires.seen, narrow_first _ _ _ _ narrow))

pub alternatives-returns-in_default : goal.alternatives-returns-in_default
alternatives-returns-in_default t c =
    c.in_default.is
    ∙ alternative_refused _ _ _ _ _ _ _ _ _ _ c.in_default.ensures
    ∙ rw c.in-Some.ensures.steps at c.loop-fields.invariant.2

pub alternatives-loop-fields-preserved : goal.alternatives-loop-fields-preserved
alternatives-loop-fields-preserved t c =
    let narrow = rw c.in-Some.ensures.steps at c.loop-fields.invariant.3 in (
      tt,
      tt,
      alternative_next _ _ _ _ _ _ _ _ _ _ c.in-Ok.ensures ∙ rw c.in-Some.ensures.steps at c.loop-fields.invariant.2,
      narrow_rest _ _ narrow,
    )

pub alternatives-returns : goal.alternatives-returns
alternatives-returns t c =
    alternatives_done _ _ _ _ _ _ _ _ ∙ rw c.in-None.ensures.steps.0 at c.loop-fields.invariant.2
