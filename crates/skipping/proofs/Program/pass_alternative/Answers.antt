-- `skipping::Program::pass_alternative` meets its contract: a byte 0 alone, or a byte and an expression. Rests on Finding.
use mathlib.Core.Path.{sym, ◌∙◌}
use native.Mathlib.Omega.{arith}
use Rattle.skipping.proofs.Finding.{alternative_absent, alternative_present}
use Rattle.skipping.proofs.Program.pass_alternative.Goals as goal

pub returns-then-byte_or_zero-eq0 : goal.returns-then-byte_or_zero-eq0
returns-then-byte_or_zero-eq0 c = record { value = sym (alternative_absent _ _ _ (sym c.byte_or_zero.ensures.value ∙ c.if-byte_or_zero-eq0.true)); near = omega arith }

pub returns : goal.returns
returns c = record {
  value = c.end.ensures.0 ∙ sym (alternative_present _ _ _ (λ is. c.if-byte_or_zero-eq0.false (c.byte_or_zero.ensures.value ∙ is)));
  near = omega (arith, c.end.ensures.1);
}
