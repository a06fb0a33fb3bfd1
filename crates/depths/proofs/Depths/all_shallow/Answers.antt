-- `depths::Depths::all_shallow` meets its contract: the chain tests each type as the definition does. Rests on lookups' Chains.
use Prim.Native.Nat.{ℕ, ◌+◌}
use mathlib.Core.Path.{refl, ◌∙◌}
use mathlib.Core.Bool.{and-true}
use mathlib.Core.List.{[], ◌∷◌}
use native.Mathlib.Omega.{arith}
use lib.ListN.{get_or}
use borrow.Author.Tests.{tests}
use Rattle.std.proofs.Common.{rules}
use Rattle.std.proofs.lemmas.Iterator.{YieldsList-from_range}
use Rattle.std.proofs.lemmas.Iterator.Search.{all_from_yields_List}
use Rattle.reach.specs.Types.{shallow}
use Rattle.lookups.proofs.Chains.{bytes_pass}
use Rattle.depths.proofs.Depths.all_shallow.Goals as goal

pub returns : goal.returns
unfolding shallow
returns c =
    let table = c.args.self.now.of in
    let test = λ (t : ℕ). shallow table c.args.d (t ∷ []) in
    all_from_yields_List (λ i. test (get_or c.args.s.now i 0)) _ _ _ c.all.ensures.ran
    (YieldsList-from_range c.args.fields.at (c.args.fields.at + c.args.fields.count) c.args.fields.count refl (omega arith))
    (λ x b q k. search (rules, tests))
    ∙ bytes_pass {test = test} {all = shallow table c.args.d} (record { none = refl; more = λ x xs. rw and-true refl }) c.args.s.now c.args.fields.at c.args.fields.count
