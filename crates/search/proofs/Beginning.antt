-- The search begins: in the words that `open_input` leaves, a path is under way from the source's body with no step taken and every parameter open.
-- Rests on exploring's Exploring and on loaded's Beginning.
use Prim.Native.Nat.{ℕ}
use mathlib.Core.Path.{◌≡◌, sym, ap, subst}
use mathlib.Core.List.{List}
use native.Mathlib.Omega.{arith}
use lib.ListN.{length, get_or}
use Rattle.reach.specs.Syntax.{Program}
use Rattle.reach.specs.Parts.{all_open}
use Rattle.reach.specs.Search.{open_input}
use Rattle.reach.specs.Places.{head_at}
use Rattle.reach.specs.States.{no_step}
use Rattle.lookups.specs.declared.Head.{Head}
use Rattle.lookups.specs.Heads.{head_of}
use Rattle.goal.specs.declared.Goal.{Goal}
use Rattle.machine.specs.Layout.{records_at, choices_at}
use Rattle.registers.specs.declared.Registers.{Registers}
use Rattle.loaded.specs.Beginning.{Opened, start_registers}
use Rattle.loaded.proofs.Beginning as Begin
use Rattle.choices.specs.Choices.{Setting, Given, no_choice}
use Rattle.choices.specs.Returning.{setting}
use Rattle.results.specs.declared.Listed.{Listed}
use Rattle.exploring.specs.Exploring.{Begins, Explores, Explored}
use Rattle.search.specs.Searching.{Searchable, setting_of}

module _ {file types functions least : List ℕ} {goal : Goal} {w : List ℕ} {p : Program} (given : Searchable file types functions least goal w p) where
  module _
      {base stack : ℕ} (base_is : base ≡ records_at goal.steps) (stack_is : stack ≡ choices_at goal.steps)
      (head : Head) (head_read : head_of file head ≡ head_at file (get_or functions goal.source 0))
    where
      abbrev here : Setting
      here = setting file types functions least p goal.steps base stack

      open_is : open_input p ≡ all_open head.parameters.count
      unfolding open_input
      open_is = ap all_open (sym (Begin.many given.of_file given.asks head head_read))

      given_there : Given here
      given_there = record {
        checked = given.of_file.checked;
        file_of = given.of_file.file_of;
        least_are = given.least_are;
        limit_is = given.asks.steps_is;
        base_is = base_is;
        stack_is = stack_is;
      }

      begins_there :
          {w' : List ℕ} → Opened file w w' base head.parameters.at head.parameters.count goal.depths
          → Begins here goal.label w' head.parameters.count (start_registers head.body)
      begins_there {w'} opened =
          let of_file = given.of_file in
          let asks = given.asks in
          let few = Begin.parameters_few of_file asks head head_read in
          let many = Begin.many of_file asks head head_read in
          let stands = Begin.opened_stands of_file asks head head_read w base_is given.long opened in
          let whole : length w' ≡ length w = Begin.opened_length of_file asks head head_read w base_is given.long opened in
          let long = given.long in
          record {
            given = given_there;
            sought = asks.label_is;
            counted = sym many;
            under = rw open_is (record {
              path = record {
                stands = stands;
                typed = Begin.typed of_file asks head head_read;
                steps = no_step;
                few_cells = omega arith;
                few_records = omega arith;
                long = omega (arith, asks.steps_is);
              };
              in_time = omega arith;
              no_higher = omega arith;
              choices = no_choice {w = w'} {cells = head.parameters.count} {records = 2} (omega (arith, many), rw (open_is, ← many) stands.input);
            });
          }

      pub begins :
          {w' : List ℕ} {from : Registers} → from ≡ start_registers head.body → Opened file w w' base head.parameters.at head.parameters.count goal.depths
          → Begins here goal.label w' head.parameters.count from
      begins {w'} from_is opened = subst (Begins here goal.label w' head.parameters.count) (sym from_is) (begins_there opened)

      -- so what is explored from there is the search of the program
      pub explored :
          {w' : List ℕ} {from : Registers} (w'' before after : List ℕ) (a : Listed) → from ≡ start_registers head.body
          → Opened file w w' base head.parameters.at head.parameters.count goal.depths
          → Explores file types functions least goal.label w' w'' goal.steps base stack head.parameters.count from before after a
          → Explored (setting_of file types functions least p) before after w'' a
      explored w'' before after a from_is opened explores =
          subst (λ n. Explored (setting file types functions least p n (records_at n) (choices_at n)) before after w'' a) given.asks.steps_is
          (subst (λ b. Explored (setting file types functions least p goal.steps b (choices_at goal.steps)) before after w'' a) base_is
          (subst (λ t. Explored (setting file types functions least p goal.steps base t) before after w'' a) stack_is (explores p (begins from_is opened))))
