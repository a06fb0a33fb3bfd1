-- `printing_vectors::print_list` is safe: the text of its list fits the slice whole. Rests on printing's Lengths.
use Rattle.std.proofs.Common.{rules, sym}
use native.Mathlib.Omega.{arith}
use lib.Seq.{length-take-le}
use Rattle.printing.proofs.Lengths.{text_short}
use Rattle.printing_vectors.proofs.print_list.Goals as goal

pub slice_bounds-text-end : goal.slice_bounds-text-end
slice_bounds-text-end g c = omega (arith, text_short c.args.full c.args.list.now (λ i. search rules))

pub slice_bounds-print-end : goal.slice_bounds-print-end
slice_bounds-print-end g c = sym (length-take-le _ _ (omega (arith, text_short c.args.full c.args.list.now (λ i. search rules))))
