-- `handed::list_fits` meets its contract: the entries one behind the other, up to the end of the list. Rests on Lists and on entries' Walk.
use Prim.Native.Nat.{◌-◌}
use mathlib.Core.Path.{◌≡◌, refl, sym, ◌∙◌, ap}
use native.Mathlib.Omega.{arith}
use lib.ListN.{length}
use Rattle.entries.specs.declared.EachEntry.{EachEntry}
use Rattle.entries.proofs.Walk.{size_least}
use Rattle.handed.proofs.Lists.{all_read, too_long, ended, unfit, fit}
use Rattle.handed.proofs.list_fits.Goals as goal

pub returns-then-limit-end : goal.returns-then-limit-end
returns-then-limit-end c p given = too_long given c.args.list.now c.if-limit-end.true

pub loop-entry-init : goal.loop-entry-init
loop-entry-init c =
    let gives = c.into_iter-entry-iterator.ensures.into_iter_gives in
    let start = ap (λ (e : EachEntry). e.at) gives ∙ c.each_entry-entry-items.ensures.1 in
    let same = ap (λ (e : EachEntry). e.list.now) gives ∙ c.each_entry-entry-items.ensures.0 in
    (tt, tt, same, start, (length c.args.list.now, omega arith, λ p given. refl))

pub entry_fits-requires : goal.entry_fits-requires
entry_fits-requires c =
    let (begins, sized, next, list) = c.in-Some.ensures.steps in
    rw begins (rw c.loop-entry.invariant.2 at sized)

pub returns-then-not-entry_fits : goal.returns-then-not-entry_fits
returns-then-not-entry_fits c p given =
    let (begins, sized, next, list) = c.in-Some.ensures.steps in
    let (more, long, left) = c.loop-entry.invariant.4 in
    let inside = size_least c.args.list.now c.loop-entry.entry-iterator.at _ (rw c.loop-entry.invariant.2 at sized) in
    let here : c.in-Some.entry.at ≡ c.loop-entry.at = begins ∙ c.loop-entry.invariant.3 in
    all_read given c.args.list.now _ (omega (arith, c.if-limit-end.false))
    (sym (unfit given c.args.list.now more c.loop-entry.at (omega (arith, inside, long, c.loop-entry.invariant.3)) (omega (arith, inside, c.loop-entry.invariant.3)) _ c.entry_fits.result
    (rw here at c.entry_fits.ensures) c.if-not-entry_fits.true)
    ∙ left p given)

pub overflow_add-at : goal.overflow_add-at
overflow_add-at c =
    let (begins, sized, next, list) = c.in-Some.ensures.steps in
    omega (arith, begins, size_least c.args.list.now c.loop-entry.entry-iterator.at _ (rw c.loop-entry.invariant.2 at sized))

pub loop-entry-preserved : goal.loop-entry-preserved
loop-entry-preserved c =
    let (begins, sized, next, list) = c.in-Some.ensures.steps in
    let (more, long, left) = c.loop-entry.invariant.4 in
    let inside = size_least c.args.list.now c.loop-entry.entry-iterator.at _ (rw c.loop-entry.invariant.2 at sized) in
    let here : c.in-Some.entry.at ≡ c.loop-entry.at = begins ∙ c.loop-entry.invariant.3 in (
      tt,
      tt,
      list ∙ c.loop-entry.invariant.2,
      omega (arith, next, begins),
      (
        more - 1,
        omega (arith, inside, long, c.loop-entry.invariant.3, begins),
        λ p given. rw here (sym (fit given c.args.list.now more c.loop-entry.at (omega (arith, inside, long, c.loop-entry.invariant.3)) (omega (arith, inside, c.loop-entry.invariant.3)) _ c.entry_fits.result
            (rw here at c.entry_fits.ensures) c.if-not-entry_fits.false)
            ∙ left p given),
      ),
    )

pub returns : goal.returns
returns c p given =
    let (more, long, left) = c.loop-entry.invariant.4 in
    let none_here = rw (c.loop-entry.invariant.2, c.loop-entry.invariant.3) at c.in-None.ensures.steps.0 in
    all_read given c.args.list.now _ (omega (arith, c.if-limit-end.false))
    (ended given c.args.list.now more c.loop-entry.at long (λ i. omega (arith, c.type_inv.list i)) none_here ∙ left p given)
