-- `expressions::View::extended` meets its contract: each turn of the loop adds one variable. Rests on Views.
use mathlib.Core.Path.{◌∙◌}
use native.Mathlib.Omega.{arith}
use Rattle.expressions.specs.Readers.{view_of}
use Rattle.expressions.proofs.Views.{one_more, no_more}
use Rattle.expressions.proofs.View.extended.Goals as goal

pub loop-i-preserved : goal.loop-i-preserved
loop-i-preserved c =
    let more = one_more c.args.s.now (view_of c.loop-i.wider) c.args.fields.at c.args.fields.count c.loop-i.i c.loop-i-test.true in
    (rw (c.with-wider.ensures.types, c.byte_or_zero.ensures.value) (more ∙ c.loop-i.invariant.0), omega arith)

pub returns : goal.returns
returns c = record {
  types = no_more c.args.s.now (view_of c.loop-i.wider) c.args.fields.at c.args.fields.count c.loop-i.i c.loop-i-test.false ∙ c.loop-i.invariant.0;
  many = omega arith;
}
