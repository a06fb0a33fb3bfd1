-- `turning::own_fields` meets its contract: a result that is an expression is a construction, and stands in the file. Rests on Results.
use Prim.Native.Nat.{◌<◌}
use native.Mathlib.Omega.{arith}
use Rattle.turning.proofs.Results.{by_result}
use Rattle.turning.proofs.own_fields.Goals as goal

pub overflow_add-r : goal.overflow_add-r
overflow_add-r c =
    let (w, base, result) = c.requires in
    let near : c.args.r.place < 16384 =
    by_result c.args.r result (λ is ready no-case. omega (arith, ready.within, ready.small)) (λ other x is_part no-case. absurd (other c.if-kind-eq-EXPRESSION.true)) in
    omega (arith, near)

pub overflow_add-r-then-kind-eq-EXPRESSION : goal.overflow_add-r-then-kind-eq-EXPRESSION
overflow_add-r-then-kind-eq-EXPRESSION c =
    let (w, base, result) = c.requires in
    let near : c.args.r.place < 16384 =
    by_result c.args.r result (λ is ready no-case. omega (arith, ready.within, ready.small)) (λ other x is_part no-case. absurd (other c.if-kind-eq-EXPRESSION.true)) in
    omega (arith, near)

pub returns-then-kind-eq-EXPRESSION : goal.returns-then-kind-eq-EXPRESSION
returns-then-kind-eq-EXPRESSION c =
    (λ is. rw (← c.byte_or_zero-t.ensures.value, ← c.byte_or_zero-c.ensures.value) c.field_count.ensures, λ other. absurd (other c.if-kind-eq-EXPRESSION.true))
