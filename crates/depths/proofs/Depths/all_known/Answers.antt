-- `depths::Depths::all_known` meets its contract: the chain tests each type as the definition does. Rests on lookups' Chains.
use Prim.Native.Nat.{◌+◌}
use mathlib.Core.Path.{refl, ◌∙◌}
use native.Mathlib.Omega.{arith}
use lib.ListN.{get_or}
use lib.Dec.{ltb}
use borrow.Author.Tests.{tests}
use Rattle.std.proofs.Common.{rules}
use Rattle.std.proofs.lemmas.Iterator.{YieldsList-from_range}
use Rattle.std.proofs.lemmas.Iterator.Search.{all_from_yields_List}
use Rattle.reach.specs.Types.{known}
use Rattle.lookups.proofs.Chains.{bytes_pass}
use Rattle.depths.proofs.Depths.all_known.Goals as goal

pub returns : goal.returns
unfolding known
returns c =
    let table = c.args.self.now.of in
    all_from_yields_List (λ i. ltb 0 (get_or table (get_or c.args.s.now i 0) 0)) _ _ _ c.all.ensures.ran
    (YieldsList-from_range c.args.fields.at (c.args.fields.at + c.args.fields.count) c.args.fields.count refl (omega arith))
    (λ x b q k. search (rules, tests))
    ∙ bytes_pass {test = λ t. ltb 0 (get_or table t 0)} {all = known table} (record { none = refl; more = λ x xs. refl }) c.args.s.now c.args.fields.at c.args.fields.count
