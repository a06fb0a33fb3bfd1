-- `depths::Depths::is_inhabited` meets its contract: the chain tests each constructor as the definition does. Rests on lookups' Chains.
use mathlib.Core.Path.{refl, ◌∙◌}
use borrow.Author.Tests.{tests}
use Rattle.std.proofs.Common.{rules}
use Rattle.std.proofs.lemmas.Iterator.Search.{any_from_yields_List}
use Rattle.reach.specs.Types.{known, inhabited}
use Rattle.lookups.proofs.Chains.{each_yields, fields_of_place, constructor_passes}
use Rattle.depths.proofs.Depths.is_inhabited.Goals as goal

pub returns : goal.returns
unfolding inhabited
returns c =
    let each = c.each_constructor.result in
    let file = c.args.rules.now.file.now in
    let table = c.args.self.now.of in
    any_from_yields_List (λ p. known table (fields_of_place file p)) c.any.new.self _ _ c.any.ensures.ran
    (each_yields each)
    (λ x b q k. search (rules, tests))
    ∙ rw (← c.each_constructor.ensures.constructors, c.each_constructor.ensures.file)
    (constructor_passes file {test = known table} {any = inhabited table} (record { none = refl; more = λ x xs. refl }) each.at each.left)
