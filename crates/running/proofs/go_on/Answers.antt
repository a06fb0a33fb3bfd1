-- `running::go_on` meets its contract. The invariant: from the beginning the run came to here. The measure is the steps left: each turn makes at least one.
-- Rests on Looping.
use native.Mathlib.Omega.{arith}
use Rattle.running.proofs.Looping.{came_onward, halt_demands, halt_stops, halt_spent, halt_lacks, halt_waits, halt_enters, halt_last}
use Rattle.running.proofs.go_on.Goals as goal

pub run_on-ran-requires : goal.run_on-ran-requires
run_on-ran-requires c = record { onward = came_onward c.loop-x.invariant.1 c.loop-x.invariant.0 c.requires.begins.1; ends = c.requires.ends }

pub returns-in-Demands : goal.returns-in-Demands
returns-in-Demands c = halt_demands c.loop-x.invariant.1 c.loop-x.invariant.0 c.run_on-ran.ensures c.in-Demands.is

pub returns-in-Stops : goal.returns-in-Stops
returns-in-Stops c = halt_stops c.loop-x.invariant.1 c.loop-x.invariant.0 c.run_on-ran.ensures c.in-Stops.is

pub returns-in-Spent : goal.returns-in-Spent
returns-in-Spent c = halt_spent c.loop-x.invariant.1 c.loop-x.invariant.0 c.run_on-ran.ensures c.in-Spent.is

pub returns-in-Lacks : goal.returns-in-Lacks
returns-in-Lacks c = halt_lacks c.loop-x.invariant.1 c.loop-x.invariant.0 c.run_on-ran.ensures c.in-Lacks.is

pub enter_asked-at-requires : goal.enter_asked-at-requires
enter_asked-at-requires c = halt_waits c.loop-x.invariant.1 c.loop-x.invariant.0 c.run_on-ran.ensures c.in-Waits.is c.requires.begins.1

pub returns-then-limit-reached : goal.returns-then-limit-reached
returns-then-limit-reached c =
    halt_last c.loop-x.invariant.1 c.loop-x.invariant.0 c.run_on-ran.ensures c.in-Waits.is c.args.run.now.program.ends.now
    c.requires.ends c.enter_asked-at.ensures (omega arith)

pub loop-x-preserved : goal.loop-x-preserved
loop-x-preserved c = (
  omega arith,
  halt_enters c.loop-x.invariant.1 c.loop-x.invariant.0 c.run_on-ran.ensures c.in-Waits.is c.args.run.now.program.ends.now
      c.requires.ends c.enter_asked-at.ensures (omega arith),
)
