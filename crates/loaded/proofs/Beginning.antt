-- A run begins: what the goal asks for is the program's, and in the words that `open_input` leaves the source's body is to be evaluated on the
-- input with every parameter open.
-- Rests on specs/Beginning, on goal's Goals, on machine's laws of cells, records and words, on lookups' Tables and on reach's Limits, NeverStuck and Reached.
use Prim.Native.Nat.{ℕ, zero, suc, ◌+◌, ◌*◌, ◌≤◌, ◌<◌}
use mathlib.Core.Path.{◌≡◌, sym, ◌∙◌, ap, subst}
use mathlib.Core.List.{List, []}
use mathlib.Core.Option.{some}
use native.Mathlib.Omega.{arith}
use lib.ListN.{length, get_or}
use Rattle.reach.specs.Limits.{work_words}
use Rattle.reach.specs.Syntax.{Function, Program, function_at, source_types}
use Rattle.reach.specs.Parts.{all_open}
use Rattle.reach.specs.Types.{Typed, source_slots}
use Rattle.reach.specs.Eval.{parameters, part_of, empty, input_parts, size, evaluating, start_of, start}
use Rattle.reach.specs.RuleFile as RuleFile
use Rattle.reach.specs.Places.{bytes_at, head_at}
use Rattle.reach.specs.States.{StateIn, Sound, no_step}
use Rattle.reach.proofs.Order.{open_width}
use Rattle.reach.proofs.Limits.{accepted_keeps}
use Rattle.reach.proofs.NeverStuck.{steps_sound}
use Rattle.reach.proofs.Places.{bytes_length}
use Rattle.reach.proofs.Reached.{steps_in_law, open_typed}
use Rattle.lookups.specs.declared.Head.{Head}
use Rattle.lookups.specs.Heads.{head_of}
use Rattle.lookups.proofs.Tables.{parameters_are}
use Rattle.goal.specs.declared.Goal.{Goal}
use Rattle.goal.specs.Goals.{Asks}
use Rattle.machine.specs.Layout.{records_at}
use Rattle.machine.specs.Cells.{Cells, cell_of}
use Rattle.machine.specs.Records.{Code, RecordIs, Wrote, EnvAt, empty_at, parts_at, none_at, evaluating_at}
use Rattle.machine.proofs.Cells.{walk_part, kept_cells}
use Rattle.machine.proofs.Records.{holds_kept}
use Rattle.machine.proofs.Words.{records_same}
use Rattle.registers.specs.Stepping.{declarations_of, CountsSmall, StandsFor}
use Rattle.loaded.specs.Beginning.{GivenFile, Opened, start_registers}

-- At the start: the parameters' cells are open, record 0 is zeros, record 1 the group of the parameters, and the source's body is to be evaluated.

start_is : (p : Program) (g : Function) → function_at p p.source ≡ some g
    → start p ≡ evaluating g.body (input_parts empty parameters (length g.parameters)) []
unfolding start start_of
start_is p g h = rw h

source_is : (p : Program) (g : Function) → function_at p p.source ≡ some g → source_types p ≡ g.parameters
unfolding source_types
source_is p g h = rw h

stands_start :
    {file types functions w₁ w₂ w₃ : List ℕ} (p : Program) (base i n : ℕ) (g : Function) → function_at p p.source ≡ some g
    → Code file (declarations_of file types functions) i g.body → n ≡ length (source_types p) → n ≤ 255 → 5 * n ≤ base → base + 12 ≤ length w₁ → length w₁ ≤ 1000000
    → Cells p.types (source_slots p) w₁ n (all_open n) → Wrote w₁ w₂ base 0 0 0 0 0 → Wrote w₂ w₃ base 1 0 n 0 0
    → StateIn (all_open n) (start p) → Sound p (all_open n) (start p)
    → StandsFor file types functions p w₃ base n (start_registers i) (all_open n) (start p)
unfolding part_of size
stands_start {file} {types} {functions} {w₁} {w₂} {w₃} p base i n g source code many few apart room narrow opened zeros group there sound =
    record {
      input = (kept_cells w₃ opened (omega (arith, long)) kept).1;
      apart = apart;
      zeros = kept_zeros;
      state = rw (start_is p g source) (evaluating_at code environment none_at);
      there = there;
      sound = sound;
      space = record {
        some_record = omega arith;
        environment_below = omega arith;
        frame_below = (omega arith, omega arith);
        room = omega (arith, long);
        narrow = omega (arith, long);
        few = few_records;
      };
    }
  where
    long : length w₃ ≡ length w₁
    long = group.only_top.same_length ∙ zeros.only_top.same_length

    kept : (x : ℕ) → x < 5 * n → get_or w₃ x 0 ≡ get_or w₁ x 0
    kept x below = group.only_top.elsewhere x (λ h. absurd (omega arith)) ∙ zeros.only_top.elsewhere x (λ h. absurd (omega arith))

    kept_zeros : RecordIs w₃ base 0 0 0 0 0
    kept_zeros = holds_kept w₂ w₃ base 1 (records_same group.only_top) (omega arith) zeros.holds

    environment : EnvAt file (declarations_of file types functions) w₃ base (cell_of w₃) 1 (input_parts empty parameters (length g.parameters))
    environment =
        let as_many : n ≡ length g.parameters = many ∙ ap length (source_is p g source) in
        parts_at {k = length g.parameters} {outer = empty} {row = parameters} group.holds (omega arith) (omega (arith, as_many)) empty_at (λ j below. walk_part w₃ 0 j)

    few_records : CountsSmall w₃ base 2
    few_records zero below = rw kept_zeros.word_1 (omega arith)
    few_records (suc zero) below = rw group.holds.word_1 (omega arith)
    few_records (suc (suc j)) below = absurd (omega arith)

-- What the goal asks for is the program's.
module _ {file types functions : List ℕ} {goal : Goal} {p : Program} (given : GivenFile file types functions p) (asks : Asks goal p) where
  pub limit_few : goal.steps ≤ 4096
  limit_few = omega (arith, asks.steps_is, (accepted_keeps file p given.checked).steps_limit)

  module _ (head : Head) (head_read : head_of file head ≡ head_at file (get_or functions goal.source 0)) where
    head_is : head_of file head ≡ head_at file (get_or functions p.source 0)
    head_is = head_read ∙ ap (λ i. head_at file (get_or functions i 0)) asks.source_is

    -- the types of the source's parameters
    pub source_parameters : bytes_at file head.parameters.at head.parameters.count ≡ source_types p
    source_parameters = parameters_are file head head_is ∙ sym given.parameters_there

    pub many : head.parameters.count ≡ length (source_types p)
    many = sym (bytes_length file head.parameters.at head.parameters.count) ∙ ap length source_parameters

    pub parameters_few : head.parameters.count ≤ 8
    parameters_few = omega (arith, many, (accepted_keeps file p given.checked).parameters_limit)

    -- the source's body
    body : (g : Function) × (function_at p p.source ≡ some g) × Code file (declarations_of file types functions) head.body g.body
    body =
        let found = given.file_of.function_there p.source given.source_there in
        (found.0, found.1, subst (λ i. Code file (declarations_of file types functions) i found.0.body) (sym (ap (λ (g : RuleFile.Head). g.body) head_is)) found.2)

    pub typed : Typed p.types (source_types p) (all_open head.parameters.count)
    typed = rw many (open_typed p.types (source_types p))

    module _ (w : List ℕ) {base : ℕ} (base_is : base ≡ records_at goal.steps) (long : length w ≡ work_words p.steps) where
      -- the parameters' cells and the first records have room in the words
      pub opens : (5 * head.parameters.count ≤ base) × (base + 12 ≤ length w)
      opens =
          let few = parameters_few in
          (omega arith, omega (arith, asks.steps_is))

      pub opened_stands :
          {w' : List ℕ} → Opened file w w' base head.parameters.at head.parameters.count goal.depths
          → StandsFor file types functions p w' base head.parameters.count (start_registers head.body) (all_open head.parameters.count) (start p)
      unfolding source_slots
      opened_stands {w'} opened =
          let few = parameters_few in
          let limited = limit_few in
          let same : length opened.w₁ ≡ length w = opened.starts.same_length in
          let open_there : Cells p.types (source_slots p) opened.w₁ head.parameters.count (all_open head.parameters.count) =
          rw (source_parameters, asks.depths_are) at (opened.starts.stands p.types) in
          stands_start p base head.body head.parameters.count body.0 body.1 body.2 many (omega arith) (omega arith)
          (omega (arith, asks.steps_is)) (omega (arith, asks.steps_is)) open_there opened.zeros opened.group (steps_in_law p (all_open head.parameters.count) (open_width head.parameters.count ∙ many) no_step)
          (steps_sound file p given.checked (all_open head.parameters.count) typed no_step)

      pub opened_length : {w' : List ℕ} → Opened file w w' base head.parameters.at head.parameters.count goal.depths → length w' ≡ length w
      opened_length opened = opened.group.only_top.same_length ∙ opened.zeros.only_top.same_length ∙ opened.starts.same_length
