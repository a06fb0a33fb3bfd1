-- `rooms::all_roomy` meets its contract: the chain tests each parameter against its depth. Rests on Rooms.
use mathlib.Core.Path.{refl, ◌∙◌}
use native.Mathlib.Omega.{arith}
use borrow.Author.Tests.{tests}
use Rattle.std.proofs.Common.{rules}
use Rattle.std.proofs.lemmas.Iterator.{YieldsList-from_range}
use Rattle.std.proofs.lemmas.Iterator.Search.{all_from_yields_List}
use Rattle.rooms.proofs.Rooms.{fits, roomy_all}
use Rattle.rooms.proofs.all_roomy.Goals as goal

pub returns : goal.returns
returns c =
    all_from_yields_List (fits c.args.s.now c.args.parameters.at c.args.depths c.args.least.now.of) _ _ _ c.all.ensures.ran
    (YieldsList-from_range 0 c.args.parameters.count c.args.parameters.count refl (omega arith))
    (λ x b q k. search (rules, tests))
    ∙ roomy_all c.args.s.now c.args.parameters.at c.args.depths c.args.least.now.of c.args.parameters.count
