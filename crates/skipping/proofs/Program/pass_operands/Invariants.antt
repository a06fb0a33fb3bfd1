-- `skipping::Program::pass_operands` meets its contract. The loop's invariant: what is left to pass over leads where the whole does. Rests on Finding.
use Prim.Native.Nat.{◌-◌}
use mathlib.Core.Path.{◌≡◌}
use Rattle.skipping.specs.Ends.{passed_operands}
use Rattle.skipping.proofs.Program.pass_operands.Given as goal

abbrev pub invariant-loop : goal.invariant-loop
invariant-loop l = passed_operands l.self.ends.now (l.n - l.counter) l.place ≡ passed_operands l.self.ends.now l.n l.at
