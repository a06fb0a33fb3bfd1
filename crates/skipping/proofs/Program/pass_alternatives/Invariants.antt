-- `skipping::Program::pass_alternatives` meets its contract. The loop's invariant: what is left to pass over leads where the whole does, and the place is at most
-- one higher for each alternative passed than the start or the highest entry. Rests on Finding.
use Prim.Native.Nat.{max, ◌+◌, ◌-◌, ◌≤◌}
use mathlib.Core.Path.{◌≡◌}
use Rattle.skipping.specs.Ends.{passed_alternatives}
use Rattle.skipping.proofs.Program.pass_alternatives.Given as goal

abbrev pub invariant-loop : goal.invariant-loop
invariant-loop l = (passed_alternatives l.self.rules.file.now l.self.ends.now (l.n - l.counter) l.place ≡ passed_alternatives l.self.rules.file.now l.self.ends.now l.n l.at)
    × (l.place ≤ max l.at 65535 + l.counter)
