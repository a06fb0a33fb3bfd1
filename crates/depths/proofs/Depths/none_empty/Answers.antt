-- `depths::Depths::none_empty` meets its contract: the chain tests each number as the definition does. Rests on lookups' Chains.
use mathlib.Core.Path.{refl, ◌∙◌}
use lib.ListN.{take}
use lib.Dec.{ltb}
use borrow.Author.Tests.{tests}
use Rattle.std.proofs.Common.{rules}
use Rattle.std.proofs.lemmas.Iterator.{YieldsList-from_slice}
use Rattle.std.proofs.lemmas.Iterator.Search.{all_from_yields_List}
use Rattle.reach.specs.RuleFile.{no_empty_type}
use Rattle.lookups.proofs.Chains.{each_pass}
use Rattle.depths.proofs.Depths.none_empty.Goals as goal

pub returns : goal.returns
unfolding no_empty_type
returns c =
    let first = take c.args.types c.args.self.now.of in
    all_from_yields_List (λ d. ltb 0 d) _ _ _ c.all.ensures.ran
    (YieldsList-from_slice first (search rules))
    (λ x b q k. search (rules, tests))
    ∙ each_pass {test = λ d. ltb 0 d} {all = no_empty_type} (record { none = refl; more = λ x xs. refl }) first
