-- `spelling::fieldless` meets its contract: the chain tests each constructor's number of fields. Rests on Forms and on lookups' Chains.
use mathlib.Core.Path.{◌∙◌}
use lib.Dec.{eqb}
use borrow.Author.Tests.{tests}
use Rattle.std.proofs.Common.{rules}
use Rattle.std.proofs.lemmas.Iterator.Search.{all_from_yields_List}
use Rattle.lookups.proofs.Chains.{each_yields}
use Rattle.spelling.proofs.Forms.{none_has}
use Rattle.spelling.proofs.fieldless.Goals as goal

pub returns : goal.returns
returns c =
    let each = c.each_constructor.result in
    all_from_yields_List (λ p. eqb p.1 0) c.all.new.self _ _ c.all.ensures.ran (each_yields each) (λ x b q k. search (rules, tests))
    ∙ rw (← c.each_constructor.ensures.constructors) (none_has each.file.now each.at each.left)
