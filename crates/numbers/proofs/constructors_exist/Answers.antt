-- `numbers::constructors_exist` meets its contract: the chain tests each constructor as the definition does. Rests on lookups' Chains.
use mathlib.Core.Path.{refl, ◌∙◌}
use borrow.Author.Tests.{tests}
use lib.ListN.{length}
use Rattle.std.proofs.Common.{rules}
use Rattle.std.proofs.lemmas.Iterator.Search.{all_from_yields_List}
use Rattle.reach.specs.RuleFile.{all_below, constructors_exist}
use Rattle.lookups.proofs.Chains.{each_yields, fields_of_place, constructors_pass}
use Rattle.numbers.proofs.constructors_exist.Goals as goal

pub returns : goal.returns
unfolding constructors_exist
returns c =
    let each = c.each_constructor.result in
    let limit = length c.args.rules.now.types.now in
    let file = c.args.rules.now.file.now in
    all_from_yields_List (λ p. all_below limit (fields_of_place file p)) c.all.new.self _ _ c.all.ensures.ran
    (each_yields each)
    (λ x b q k. search (rules, tests))
    ∙ rw (← c.each_constructor.ensures.constructors, c.each_constructor.ensures.file)
    (constructors_pass file {test = all_below limit} {all = constructors_exist limit} (record { none = refl; more = λ x xs. refl }) each.at each.left)
