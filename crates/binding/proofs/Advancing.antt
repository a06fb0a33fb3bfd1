-- The run goes on: after a step, and after the open part that a case looks at was bound to what the closed input has there.
-- Rests on specs/Underway, on Reached and Bound, on registers' Standing and Waiting, and on values' laws of what is noted in the cells.
use Prim.Native.Nat.{ℕ, suc, ◌+◌, ◌*◌, ◌-◌, ◌≤◌, ◌<◌}
use mathlib.Core.Path.{◌≡◌, refl, sym, ◌∙◌, ap, subst}
use mathlib.Core.List.{List, map}
use mathlib.Core.Option.{some}
use native.Mathlib.Omega.{arith}
use lib.ListN.{length, get_or}
use Rattle.reach.specs.Limits.{depth_limit}
use Rattle.reach.specs.Syntax.{Types, Program}
use Rattle.reach.specs.Parts.{Parts, free, at, bind_at, There}
use Rattle.reach.specs.Types.{Slot, source_slots, WithinDepth}
use Rattle.reach.specs.Eval.{State, Question, answered, next, goes, waits}
use Rattle.reach.specs.Partial.{OpenApart}
use Rattle.reach.specs.Places.{type_at}
use Rattle.reach.proofs.Base.{clash}
use Rattle.reach.proofs.Order.{bind_has, bind_refines}
use Rattle.reach.proofs.Evaluation.{waits_free, waits_answered}
use Rattle.readings.proofs.ClosedInputs.{input_exactly}
use Rattle.reach.proofs.Limits.{accepted_keeps, accepted_rooms}
use Rattle.reach.specs.States.{one_more}
use Rattle.reach.proofs.Reached.{steps_more}
use Rattle.reach.proofs.Places.{bytes_length}
use Rattle.reach.proofs.WellTyped.{open_apart}
use Rattle.lookups.specs.Fields.{fields_in, FieldCount}
use Rattle.machine.specs.Cells.{cell_word, cell_of, Cells, Unmoved}
use Rattle.machine.proofs.Cells.{free_there, kept_cells}
use Rattle.cells.proofs.Rooms.{cell_room}
use Rattle.values.specs.Notes.{FollowsInput}
use Rattle.values.proofs.Binding.{OpenStands, open_stands, bound_follows}
use Rattle.registers.specs.declared.Registers.{Registers}
use Rattle.registers.specs.declared.Next.{Next}
use Rattle.machine.specs.Records.{no_case, part_in, OnlyTop}
use Rattle.registers.specs.Stepping.{control_in, Standing, Follows, StepMeans, Stepped}
use Rattle.choosing.specs.Entering.{AtBoundPart}
use Rattle.registers.proofs.Waiting.{waits_control}
use Rattle.machine.proofs.Words.{records_same}
use Rattle.registers.proofs.Standing.{stands_after, stands_below}
use Rattle.binding.specs.Underway.{GivenInput, Running, Underway, noted_number, Bindable, BoundAs, Advances, AdvancesAll, NextIs, BoundSoFar}
use Rattle.binding.proofs.Bound.{head_now, first_now, no_fewer, fields_now}
use Rattle.binding.proofs.Reached.{below_width, reached_in, reached_sound, run_goes, run_demands, run_lacks, run_stops, run_spent}

-- what is noted in the cells stays while the record at the top is written
module _
    {types : Types} {w w' : List ℕ} {ss : List Slot} {base cells top : ℕ} {e j : Parts} (follows : FollowsInput types ss w cells e j)
    (apart : 5 * cells ≤ base) (only : OnlyTop w w' base top)
  where
    kept : (i : ℕ) → i < 5 * cells → get_or w' i 0 ≡ get_or w i 0
    kept i below = only.elsewhere i (λ h. absurd (omega arith))

    all_kept : Unmoved w w' e × Cells types ss w' cells e
    all_kept = kept_cells w' follows.cells (rw only.same_length follows.cells.fits) kept

    pub follows_kept : FollowsInput types ss w' cells e j
    follows_kept = record {
      cells = all_kept.1;
      below = follows.below;
      notes = λ r h.
          let there : There (at e r) = free_there h in
          let used = follows.cells.in_use r there in
          rw (all_kept.0 r there, kept (5 * cell_of w r + 4) (omega arith), kept (5 * cell_of w r + 1) (omega arith)) (follows.notes r h);
    }

    pub unmoved_kept : Unmoved w w' e
    unmoved_kept = all_kept.0

-- at most so many binds are at most more
with_binds :
    {file types functions : List ℕ} {p : Program} {j : Parts} {limit : ℕ} {w : List ℕ} {base cells done binds more : ℕ} {r : Registers} {s : State} → binds ≤ more
    → Running file types functions p j limit w base cells done binds r s → Running file types functions p j limit w base cells done more r s
with_binds no_fewer now = record {
  input = now.input;
  stands = now.stands;
  follows = now.follows;
  steps = now.steps;
  few_cells = omega (arith, now.few_cells);
  few_records = now.few_records;
  base_is = now.base_is;
  long = now.long;
}

module _ {file types functions input : List ℕ} {p : Program} {j : Parts} (given : GivenInput file types functions input p j) where
  pub within : WithinDepth p j
  within = ((input_exactly file p given.of_file.checked input j).0 given.reads).0

  module _ {limit : ℕ} {w : List ℕ} {base cells done binds : ℕ} {r : Registers} {s : State} (now : Running file types functions p j limit w base cells done binds r s) where
    -- after a step
    pub step_running :
        {w' : List ℕ} {r' : Registers} {s' : State} → done ≤ limit → OnlyTop w w' base r.records → Follows file types functions w' base r.records r' s'
        → next p now.input s ≡ goes s' → Running file types functions p j limit w' base cells (suc done) binds r' s'
    step_running in_time only follows on = record {
      input = now.input;
      stands =
          stands_after now.stands only follows on (reached_sound file p given.of_file.checked j within now.follows.below (one_more now.steps on))
          (omega (arith, now.long, now.few_records));
      follows = follows_kept now.follows now.stands.apart only;
      steps = one_more now.steps on;
      few_cells = now.few_cells;
      few_records = omega (arith, follows.one_more, now.few_records);
      base_is = now.base_is;
      long = rw only.same_length now.long;
    }

    -- while only the record at the top is written
    pub running_kept : {w' : List ℕ} → OnlyTop w w' base r.records → Running file types functions p j limit w' base cells done binds r s
    running_kept {w'} only = record {
      input = now.input;
      stands =
          stands_below now.stands
          (kept_cells w' now.stands.input (rw only.same_length now.stands.input.fits) (λ i below. only.elsewhere i (λ h. absurd (omega (arith, now.stands.apart))))).1
          (unmoved_kept now.follows now.stands.apart only) now.stands.apart only.same_length (records_same only) now.stands.there now.stands.sound;
      follows = follows_kept now.follows now.stands.apart only;
      steps = now.steps;
      few_cells = now.few_cells;
      few_records = now.few_records;
      base_is = now.base_is;
      long = rw only.same_length now.long;
    }

    -- then the words still stand for the input that is bound so far
    pub bound_kept : {w' : List ℕ} → OnlyTop w w' base r.records → (n : Next) → NextIs p now.input s n → BoundSoFar p j done s n w'
    bound_kept {w'} only n comes = record {
      cells = cells;
      input = now.input;
      stands = (kept_cells w' now.stands.input (rw only.same_length now.stands.input.fits) (λ i below. only.elsewhere i (λ h. absurd (omega (arith, now.stands.apart))))).1;
      below = now.follows.below;
      steps = now.steps;
      comes = comes;
    }

    -- where a case waits on an open part, its cell can be bound to what the closed input has there
    module _ (in_time : done ≤ limit) (few-binds : binds ≤ done) (q : Question) (on : next p now.input s ≡ waits q) where
      unbound : at now.input q.place ≡ free
      unbound = waits_free p now.input s q on

      there : There (at now.input q.place)
      there = free_there unbound

      value : OpenStands (map (type_at file) types) (source_slots p) input w now.input j q.place
      value = open_stands file types given.of_file.checked given.of_file.file_of.types_there input given.reads q.place now.follows unbound

      -- no constructor has more than 6 fields
      few_fields : (t c : ℕ) (us : List ℕ) → fields_in file types t c ≡ some us → length us ≤ 6
      few_fields t c us h = (accepted_keeps file p given.of_file.checked).fields_limit t c us (rw given.of_file.file_of.types_there h)

      pub bindable : Bindable file types input w cells (cell_of w q.place)
      bindable = record {
        in_use = now.follows.cells.in_use q.place there;
        room = omega (arith, now.few_cells, now.base_is, now.long);
        narrow = now.stands.space.narrow;
        shallow =
            omega (arith, cell_room depth_limit q.place (accepted_rooms file p given.of_file.checked) now.follows.cells there value.slot_there);
        small_place = value.stands.in_bytes;
        few = few_fields (cell_word w (cell_of w q.place) 2) (noted_number input w (cell_of w q.place));
      }

      -- the constructor there, with the types of its fields
      known : fields_in file types (cell_word w (cell_of w q.place) 2) (noted_number input w (cell_of w q.place)) ≡ some value.stands.fields
      known = rw value.stands.number value.stands.known

      -- after it was bound the state is still reached, and the case goes on
      pub bind_running :
          {w' : List ℕ} {more : ℕ} → BoundAs file types input w w' cells (cell_of w q.place) more
          → (after : Running file types functions p j limit w' base more done (done + 1) r s) × (s' : State) × (next p after.input s ≡ goes s')
      bind_running {w'} {more} as_said =
          let x = cell_of w q.place in
          let (fields, k, same, more-is, bound) = as_said value.stands.fields known in
          let c = noted_number input w x in
          let e = now.input in
          let many : length value.stands.fields ≡ k = ap length same ∙ bytes_length file fields k in
          let few : k ≤ 6 = omega (arith, many, few_fields (cell_word w x 2) c value.stands.fields known) in
          let fits : 5 * (cells + k) ≤ base = omega (arith, now.few_cells, now.base_is) in
          let (unmoved, follows) =
          bound_follows (subst OpenApart given.of_file.file_of.types_there (open_apart file p given.of_file.checked)) fields q.place now.follows unbound value value.stands.number (sym same) (omega (arith, now.long)) bound.binds refl bound.noted in
          let steps = steps_more p (bind_refines q.place c k e) (below_width file p given.of_file.checked j within now.follows.below) now.steps in
          let same_length = bound.noted.same_length ∙ bound.binds.same_length in
          rw more-is (
            record {
              input = bind_at q.place c k e;
              stands =
                  stands_below now.stands (rw (← given.of_file.file_of.types_there) at follows.cells) unmoved fits same_length
                  (λ i from below.
                  bound.noted.elsewhere i (λ m l. (omega (arith, bytes_length file fields k), omega (arith, bytes_length file fields k)))
                  ∙ bound.binds.elsewhere i (omega (arith, now.follows.cells.in_use q.place there)) (omega (arith, now.follows.cells.in_use q.place there)) (λ h. omega arith))
                  (reached_in file p given.of_file.checked j within follows.below steps) (reached_sound file p given.of_file.checked j within follows.below steps);
              follows = follows;
              steps = steps;
              few_cells = omega (arith, now.few_cells);
              few_records = now.few_records;
              base_is = now.base_is;
              long = rw same_length now.long;
            },
            answered q c k,
            waits_answered p e (bind_at q.place c k e) s q c k on (bind_has q.place c k e unbound),
          )

    -- What a step tells of the run on the closed input, if it does not wait.
    module _ {label : ℕ} (sought : label ≡ p.label) (in_time : done ≤ limit) where
      means : {w' : List ℕ} {n : Next} → Stepped file types functions w w' base label r n → StepMeans file types functions w w' base r p now.input s n
      means stepped = stepped.steps p sought cells now.input s given.of_file.file_of now.stands

      -- a step that was to go on does not wait
      pub no_wait :
          {w' : List ℕ} {n : Next} {s' : State} → Stepped file types functions w w' base label r n → next p now.input s ≡ goes s' → (x : ℕ) → n ≡ Next.Waits x → ⊥
      no_wait {w'} {n} stepped on x is =
          let (q, waiting, cell) = subst (StepMeans file types functions w w' base r p now.input s) is (means stepped) in
          absurd (clash (cc))

      -- what comes next on the input that is bound so far
      pub bound_so_far :
          {w' : List ℕ} (n : Next) → Stepped file types functions w w' base label r n → ((x : ℕ) → n ≡ Next.Waits x → ⊥) → BoundSoFar p j done s n w'
      bound_so_far Next.Demands stepped no_wait = bound_kept stepped.only_top Next.Demands (means stepped)
      bound_so_far Next.Lacks stepped no_wait = bound_kept stepped.only_top Next.Lacks (means stepped)
      bound_so_far Next.Stops stepped no_wait = bound_kept stepped.only_top Next.Stops (means stepped)
      bound_so_far (Next.Goes r') stepped no_wait = let (s', on, follows) = means stepped in bound_kept stepped.only_top (Next.Goes r') (s', on)
      bound_so_far (Next.Waits x) stepped no_wait = absurd (no_wait x refl)

      pub advances :
          {w' : List ℕ} (n : Next) → binds ≤ done + 1 → Stepped file types functions w w' base label r n → ((x : ℕ) → n ≡ Next.Waits x → ⊥)
          → Advances file types functions input label limit w' base done p j s cells n
      advances Next.Demands few stepped no_wait =
          λ left. run_demands file p given.of_file.checked j within now.follows.below now.steps left done (means stepped)
      advances Next.Lacks few stepped no_wait =
          λ left. run_lacks file p given.of_file.checked j within now.follows.below now.steps left done (means stepped)
      advances Next.Stops few stepped no_wait =
          let (why, on) = means stepped in
          (why, λ left. run_stops file p given.of_file.checked j within now.follows.below now.steps left done why on)
      advances (Next.Goes r') few stepped no_wait =
          let (s', on, follows) = means stepped in (
            s',
            run_spent file p given.of_file.checked j within now.follows.below now.steps done s' on,
            λ left. run_goes file p given.of_file.checked j within now.follows.below now.steps left done s' on,
            λ before. record {
              given = given;
              sought = sought;
              in_time = omega arith;
              running = with_binds (omega arith) (step_running in_time stepped.only_top follows on);
            },
          )
      advances (Next.Waits x) few stepped no_wait = absurd (no_wait x refl)

-- after a step that does not wait
pub went :
    {file types functions input : List ℕ} {label : ℕ} {w w' : List ℕ} {base cells : ℕ} {r : Registers} (n : Next)
    → Stepped file types functions w w' base label r n → ((x : ℕ) → n ≡ Next.Waits x → ⊥)
    → AdvancesAll file types functions input label w w' base cells r cells n
went n stepped never limit done p j s h = (
  advances h.given h.running h.sought h.in_time n (omega arith) stepped never,
  bound_so_far h.given h.running h.sought h.in_time n stepped never,
)

-- After one that waits on the part in cell x, which is then bound, and the case's step with it:
module _
    {file types functions input : List ℕ} {label limit : ℕ} {w : List ℕ} {base cells done : ℕ} {r : Registers} {p : Program} {j : Parts} {s : State}
    (h : Underway file types functions input label limit w base cells done r p j s) {w₁ : List ℕ} {x : ℕ}
    (stepped : Stepped file types functions w w₁ base label r (Next.Waits x))
  where
    question : (q : Question) × (next p h.running.input s ≡ waits q) × (cell_of w q.place ≡ x)
    question = means h.given h.running h.sought h.in_time stepped

    now₁ : Running file types functions p j limit w₁ base cells done done r s
    now₁ = running_kept h.given h.running stepped.only_top

    cell_is : cell_of w₁ question.0.place ≡ x
    cell_is =
        unmoved_kept h.running.follows h.running.stands.apart stepped.only_top question.0.place
        (there h.given h.running h.in_time (omega arith) question.0 question.1)
        ∙ question.2

    pub asks : Bindable file types input w₁ cells x
    unfolding now₁ running_kept
    asks = subst (λ y. Bindable file types input w₁ cells y) cell_is (bindable h.given now₁ h.in_time (omega arith) question.0 question.1)

    -- the constructor there has fields of these types
    asked_known : (us : List ℕ) × (fields_in file types (cell_word w₁ x 2) (noted_number input w₁ x) ≡ some us)
    unfolding now₁ running_kept
    asked_known =
        subst (λ y. (us : List ℕ) × (fields_in file types (cell_word w₁ y 2) (noted_number input w₁ y) ≡ some us)) cell_is
        ((value h.given now₁ h.in_time (omega arith) question.0 question.1).stands.fields, known h.given now₁ h.in_time (omega arith) question.0 question.1)

    module _ {w₂ : List ℕ} {more : ℕ} (bound : BoundAs file types input w₁ w₂ cells x more) where
      now₂ : (after : Running file types functions p j limit w₂ base more done (done + 1) r s) × (s' : State) × (next p after.input s ≡ goes s')
      unfolding now₁ running_kept
      now₂ =
          bind_running h.given now₁ h.in_time (omega arith) question.0 question.1
          (subst (λ y. BoundAs file types input w₁ w₂ cells y more) (sym cell_is) bound)

      standing : Standing file types functions w₂ base r
      standing = record { program = p; cells = more; input = now₂.0.input; state = s; file_of = h.given.of_file.file_of; stands = now₂.0.stands }

      looks : (control_in r ≡ part_in x) × (r.frame < no_case)
      looks =
          let told = waits_control h.running.stands question.1 in
          (told.0 ∙ ap part_in question.2, told.1)

      pub more_cells : cells ≤ more
      more_cells = no_fewer asks asked_known.0 asked_known.1 bound

      module _ {head : ℕ} (head_is : head ≡ cell_word w₂ x 0) where
        head_suc : head ≡ suc (noted_number input w₁ x)
        head_suc = head_is ∙ head_now asks asked_known.0 asked_known.1 bound

        pub some_head : 1 ≤ head
        some_head = omega (arith, head_suc)

        -- the case goes on with the part that is bound
        pub entering : head < 4294967296 → AtBoundPart file types functions w₂ base x r (head - 1) (more - cells) cells
        entering small =
            let number : noted_number input w₁ x ≡ head - 1 = omega (arith, head_suc) in
            record {
              standing = standing;
              is_part = looks.0;
              case_waits = looks.1;
              head_is = sym head_is ∙ head_suc ∙ ap suc number;
              first_is = first_now asks asked_known.0 asked_known.1 bound;
              fields =
                  subst (λ (c : ℕ). FieldCount file types (cell_word w₂ x 2) c (more - cells)) number (fields_now asks asked_known.0 asked_known.1 bound);
              small = (omega arith, omega (arith, asks.room, asks.narrow));
            }

      pub went_bound :
          {w₃ : List ℕ} {n₂ : Next} → Stepped file types functions w₂ w₃ base label r n₂
          → Advances file types functions input label limit w₃ base done p j s more n₂ × BoundSoFar p j done s n₂ w₃
      went_bound {n₂ = n₂} again =
          let never = no_wait h.given now₂.0 h.sought h.in_time again now₂.2 in (
            advances h.given now₂.0 h.sought h.in_time n₂ (omega arith) again never,
            bound_so_far h.given now₂.0 h.sought h.in_time n₂ again never,
          )
