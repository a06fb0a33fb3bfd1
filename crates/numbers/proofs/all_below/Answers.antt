-- `numbers::all_below` meets its contract: the chain tests each byte as the definition does. Rests on lookups' Chains.
use Prim.Native.Nat.{◌+◌}
use mathlib.Core.Path.{refl, ◌∙◌}
use native.Mathlib.Omega.{arith}
use lib.ListN.{get_or}
use lib.Dec.{ltb}
use borrow.Author.Tests.{tests}
use Rattle.std.proofs.Common.{rules}
use Rattle.std.proofs.lemmas.Iterator.{YieldsList-from_range}
use Rattle.std.proofs.lemmas.Iterator.Search.{all_from_yields_List}
use Rattle.reach.specs.RuleFile.{all_below}
use Rattle.lookups.proofs.Chains.{bytes_pass}
use Rattle.numbers.proofs.all_below.Goals as goal

pub returns : goal.returns
unfolding all_below
returns c =
    all_from_yields_List (λ i. ltb (get_or c.args.s.now i 0) c.args.limit) _ _ _ c.all.ensures.ran
    (YieldsList-from_range c.args.fields.at (c.args.fields.at + c.args.fields.count) c.args.fields.count refl (omega arith))
    (λ x b q k. search (rules, tests))
    ∙ bytes_pass {test = λ t. ltb t c.args.limit} {all = all_below c.args.limit} (record { none = refl; more = λ x xs. refl }) c.args.s.now c.args.fields.at c.args.fields.count
