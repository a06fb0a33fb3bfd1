-- `numbers::types_exist` meets its contract: the chain tests each type as the definition does. Rests on lookups' Chains.
use mathlib.Core.Path.{refl, ◌∙◌}
use native.Mathlib.Omega.{arith}
use borrow.Author.Tests.{tests}
use lib.ListN.{length, get_or}
use Rattle.std.proofs.Common.{rules}
use Rattle.std.proofs.lemmas.Iterator.{YieldsList-from_range}
use Rattle.std.proofs.lemmas.Iterator.Search.{all_from_yields_List}
use Rattle.reach.specs.RuleFile.{constructors_exist, types_exist}
use Rattle.reach.specs.Places.{type_at}
use Rattle.lookups.proofs.Chains.{places_pass}
use Rattle.numbers.proofs.types_exist.Goals as goal

pub returns : goal.returns
unfolding types_exist
returns c =
    let types = c.args.rules.now.types.now in
    let file = c.args.rules.now.file.now in
    let limit = length types in
    all_from_yields_List (λ t. constructors_exist limit (type_at file (get_or types t 0))) _ _ _ c.all.ensures.ran
    (YieldsList-from_range 0 limit limit refl (omega arith))
    (λ x b q k. search (rules, tests))
    ∙ places_pass {test = constructors_exist limit} {all = types_exist limit} (record { none = refl; more = λ x xs. refl }) (type_at file) types
