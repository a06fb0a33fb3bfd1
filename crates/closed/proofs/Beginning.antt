-- The run begins: in the words that `open_input` and then `note_values` leave, the run of the program on the closed input is under way with no step
-- taken. Rests on binding's Underway, on loaded's Beginning, on values' Binding and on registers' Standing.
use Prim.Native.Nat.{ℕ}
use mathlib.Core.Path.{◌≡◌, sym, ◌∙◌, ap, subst}
use mathlib.Core.List.{List, map}
use native.Mathlib.Omega.{arith}
use lib.ListN.{length, get_or}
use Rattle.reach.specs.declared.Outcome.{Outcome}
use Rattle.reach.specs.Limits.{work_words}
use Rattle.reach.specs.Syntax.{Program}
use Rattle.reach.specs.Parts.{Parts, all_open}
use Rattle.reach.specs.Types.{source_slots}
use Rattle.reach.specs.Eval.{eval, start, run}
use Rattle.reach.specs.States.{no_step}
use Rattle.reach.specs.Places.{bytes_at, type_at, head_at}
use Rattle.reach.specs.Answers.{outcome_of}
use Rattle.reach.proofs.Order.{open_unbound}
use Rattle.reach.proofs.Places.{bytes_length}
use Rattle.lookups.specs.declared.Head.{Head}
use Rattle.lookups.specs.Heads.{head_of}
use Rattle.goal.specs.declared.Goal.{Goal}
use Rattle.goal.specs.Goals.{Asks}
use Rattle.machine.specs.Layout.{records_at}
use Rattle.machine.specs.Cells.{Cells, Unmoved}
use Rattle.machine.proofs.Records.{Same}
use Rattle.values.specs.Notes.{Noted, FollowsInput}
use Rattle.values.proofs.Binding.{noted_unmoved, start_follows}
use Rattle.registers.specs.declared.Registers.{Registers}
use Rattle.registers.proofs.Standing.{stands_below}
use Rattle.loaded.specs.Beginning.{Opened, start_registers}
use Rattle.loaded.proofs.Beginning as Begin
use Rattle.running.specs.Looked.{LookedAt}
use Rattle.binding.specs.Underway.{GivenInput, Underway}

module _
    {file types functions input : List ℕ} {goal : Goal} {p : Program} {j : Parts} (given : GivenInput file types functions input p j) (asks : Asks goal p)
  where
    module _ (head : Head) (head_read : head_of file head ≡ head_at file (get_or functions goal.source 0)) where
      begins_there :
          {w v w' : List ℕ} {base : ℕ} → base ≡ records_at goal.steps → length w ≡ work_words p.steps
          → Opened file w v base head.parameters.at head.parameters.count goal.depths
          → Noted file types input v w' 0 (bytes_at file head.parameters.at head.parameters.count) 0
          → Underway file types functions input goal.label goal.steps w' base head.parameters.count 0 (start_registers head.body) p j (start p)
      begins_there {w} {v} {w'} {base} base_is long opened noted =
          let of_file = given.of_file in
          let few = Begin.parameters_few of_file asks head head_read in
          let stands = Begin.opened_stands of_file asks head head_read w base_is long opened in
          let cells : Cells (map (type_at file) types) (source_slots p) v head.parameters.count (all_open head.parameters.count) =
          subst (λ ts. Cells ts (source_slots p) v head.parameters.count (all_open head.parameters.count)) of_file.file_of.types_there stands.input in
          let follows : FollowsInput (map (type_at file) types) (source_slots p) w' head.parameters.count (all_open head.parameters.count) j =
          start_follows file types of_file.checked of_file.file_of.types_there input given.reads (Begin.source_parameters of_file asks head head_read)
          (bytes_length file head.parameters.at head.parameters.count) cells noted in
          let unmoved : Unmoved v w' (all_open head.parameters.count) = noted_unmoved cells noted (λ r c k h. absurd (open_unbound head.parameters.count r h)) in
          let same : Same v w' base 2 =
          λ i from below. noted.elsewhere i (λ m less. let n = bytes_length file head.parameters.at head.parameters.count in (omega (arith, n), omega (arith, n))) in
          record {
            given = given;
            sought = asks.label_is;
            in_time = omega arith;
            running = record {
              input = all_open head.parameters.count;
              stands =
                  stands_below stands
                  (subst (λ ts. Cells ts (source_slots p) w' head.parameters.count (all_open head.parameters.count)) (sym of_file.file_of.types_there) follows.cells)
                  unmoved stands.apart noted.same_length same stands.there stands.sound;
              follows = follows;
              steps = no_step;
              few_cells = omega arith;
              few_records = omega arith;
              base_is = base_is;
              long = omega (arith, noted.same_length, Begin.opened_length of_file asks head head_read w base_is long opened, asks.steps_is);
            };
          }

      pub begins :
          {w v w' : List ℕ} {base : ℕ} {from : Registers} → base ≡ records_at goal.steps → length w ≡ work_words p.steps
          → from ≡ start_registers head.body → Opened file w v base head.parameters.at head.parameters.count goal.depths
          → Noted file types input v w' 0 (bytes_at file head.parameters.at head.parameters.count) 0
          → Underway file types functions input goal.label goal.steps w' base head.parameters.count 0 from p j (start p)
      begins {w' = w'} {base} base_is long from_is opened noted =
          subst (λ r. Underway file types functions input goal.label goal.steps w' base head.parameters.count 0 r p j (start p)) (sym from_is)
          (begins_there base_is long opened noted)

    -- the whole run is the one from there
    pub whole_run_law : {o : Outcome} → o ≡ outcome_of (eval p j goal.steps 0 (start p)) → o ≡ outcome_of (run p j)
    unfolding run
    whole_run_law ends = ends ∙ ap (λ n. outcome_of (eval p j n 0 (start p))) asks.steps_is

    pub whole_looked : {w : List ℕ} → LookedAt p j goal.steps w → LookedAt p j p.steps w
    whole_looked {w} looked = subst (λ n. LookedAt p j n w) asks.steps_is looked
