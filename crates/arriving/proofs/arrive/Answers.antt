-- `arriving::arrive` meets its contract, by what the steps came to. Rests on Arriving.
use mathlib.Core.Path.{refl}
use Rattle.steps.specs.declared.Halt.TheVariants as Halt
use Rattle.steps.proofs.Running.{comes_so}
use Rattle.choices.proofs.Returning.{limit_few}
use Rattle.arriving.proofs.Arriving.{led_by, led_standing, arrive_demands, arrive_lacks, arrive_stops, arrive_spent_going, arrive_spent_waiting, push_bounds, arrive_waits}
use native.Mathlib.Omega.{arith}
use Rattle.arriving.proofs.arrive.Goals as goal

pub run_on-ran-requires : goal.run_on-ran-requires
run_on-ran-requires c = let (least, p, e, s, cs, given, sought, under) = c.requires in
    record { onward = λ n w₁ r₁ few steps. led_standing given under sought few steps; ends = c.args.search.now.filled }

pub returns-in-Demands : goal.returns-in-Demands
returns-in-Demands c = let last = comes_so _ _ _ _ c.run_on-ran.ensures Halt.Demands c.in-Demands.is in
    λ least p e s cs given sought under.
    let (s₁, led) = led_by given under sought c.run_on-ran.ensures.led (omega (arith, c.run_on-ran.ensures.no_more, under.in_time)) in
    rw c.over.ensures (arrive_demands given led sought last refl)

pub returns-in-Stops : goal.returns-in-Stops
returns-in-Stops c = let last = comes_so _ _ _ _ c.run_on-ran.ensures Halt.Stops c.in-Stops.is in
    λ least p e s cs given sought under.
    let (s₁, led) = led_by given under sought c.run_on-ran.ensures.led (omega (arith, c.run_on-ran.ensures.no_more, under.in_time)) in
    rw c.over-in-Stops.ensures (arrive_stops given led sought last refl)

pub returns-in-Spent : goal.returns-in-Spent
returns-in-Spent c = let (to, last, used) = comes_so _ _ _ _ c.run_on-ran.ensures Halt.Spent c.in-Spent.is in
    λ least p e s cs given sought under.
    let (s₁, led) = led_by given under sought c.run_on-ran.ensures.led (omega (arith, c.run_on-ran.ensures.no_more, under.in_time)) in
    rw c.over-in-Spent.ensures (arrive_spent_going given led sought last (omega (arith, used)) refl)

pub returns-in-Lacks : goal.returns-in-Lacks
returns-in-Lacks c = let last = comes_so _ _ _ _ c.run_on-ran.ensures Halt.Lacks c.in-Lacks.is in
    λ least p e s cs given sought under.
    let (s₁, led) = led_by given under sought c.run_on-ran.ensures.led (omega (arith, c.run_on-ran.ensures.no_more, under.in_time)) in
    rw c.over-in-Lacks.ensures (arrive_lacks given led sought last refl)

pub returns-in-Waits : goal.returns-in-Waits
returns-in-Waits c = let last = comes_so _ _ _ _ c.run_on-ran.ensures (Halt.Waits _) c.in-Waits.is in
    λ least p e s cs given sought under.
    let (s₁, led) = led_by given under sought c.run_on-ran.ensures.led (omega (arith, c.run_on-ran.ensures.no_more, under.in_time)) in
    rw c.over-in-Waits.ensures (arrive_spent_waiting given led sought last (omega (arith, c.if-search-total.true)) refl)

pub push_choice-requires : goal.push_choice-requires
push_choice-requires c = let last = comes_so _ _ _ _ c.run_on-ran.ensures (Halt.Waits _) c.in-Waits-2.is in
    let (least, p, e, s, cs, given, sought, under) = c.requires in
    let (s₁, led) = led_by given under sought c.run_on-ran.ensures.led (omega (arith, c.run_on-ran.ensures.no_more, under.in_time)) in
    let bounds = push_bounds given led sought last (omega (arith, c.if-search-total.false)) refl in
    record { h_in_bounds = bounds.0; frame_bound = bounds.1 }

pub overflow_add-height : goal.overflow_add-height
overflow_add-height c = let (least, p, e, s, cs, given, sought, under) = c.requires in
    omega (arith, under.no_higher, under.in_time, limit_few given)

pub returns-in-Waits-2 : goal.returns-in-Waits-2
returns-in-Waits-2 c = let last = comes_so _ _ _ _ c.run_on-ran.ensures (Halt.Waits _) c.in-Waits-2.is in
    λ least p e s cs given sought under.
    let (s₁, led) = led_by given under sought c.run_on-ran.ensures.led (omega (arith, c.run_on-ran.ensures.no_more, under.in_time)) in
    rw c.over-in-Waits-2.ensures (arrive_waits given led sought last (omega (arith, c.if-search-total.false)) refl c.push_choice.ensures)
