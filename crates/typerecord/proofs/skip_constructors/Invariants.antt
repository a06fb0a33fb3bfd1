-- `typerecord::skip_constructors` meets its contract. The loop's invariant: the constructors that are left, read from the place reached, come to what
-- all of them come to. Rests on Passing.
use Prim.Native.Nat.{◌-◌}
use mathlib.Core.Path.{◌≡◌}
use Rattle.reach.specs.Reader.{times}
use Rattle.reach.specs.RuleFile.{constructor_record}
use Rattle.typerecord.specs.Passed.{passed_of}
use Rattle.typerecord.proofs.skip_constructors.Given as goal

abbrev pub invariant-loop : goal.invariant-loop
invariant-loop l = passed_of (times (l.n - l.counter) constructor_record l.s l.place) ≡ passed_of (times l.n constructor_record l.s l.at)
