-- `numbers::heads_exist` meets its contract: the chain tests each function as the definition does. Rests on lookups' Chains.
use mathlib.Core.Path.{refl, ◌∙◌}
use mathlib.Core.Bool.{◌&&◌}
use native.Mathlib.Omega.{arith}
use borrow.Author.Tests.{tests}
use lib.ListN.{length, get_or}
use lib.Dec.{ltb}
use Rattle.std.proofs.Common.{rules}
use Rattle.std.proofs.lemmas.Iterator.{YieldsList-from_range}
use Rattle.std.proofs.lemmas.Iterator.Search.{all_from_yields_List}
use Rattle.reach.specs.RuleFile.{Head, all_below, heads_exist}
use Rattle.reach.specs.Places.{head_at}
use Rattle.lookups.proofs.Chains.{places_pass}
use Rattle.numbers.proofs.heads_exist.Goals as goal

pub returns : goal.returns
unfolding heads_exist
returns c =
    let functions = c.args.rules.now.functions.now in
    let file = c.args.rules.now.file.now in
    let limit = length c.args.rules.now.types.now in
    let test = λ (h : Head). all_below limit h.parameters && ltb h.result limit in
    all_from_yields_List (λ f. test (head_at file (get_or functions f 0))) _ _ _ c.all.ensures.ran
    (YieldsList-from_range 0 (length functions) (length functions) refl (omega arith))
    (λ x b q k. search (rules, tests))
    ∙ places_pass {test = test} {all = heads_exist limit} (record { none = refl; more = λ x xs. refl }) (head_at file) functions
