-- A choice point takes its next constructor: the cell is bound to it, the path goes on behind the case, and the choice point has the
-- constructors behind it left. And a step of a path keeps the choice points.
-- Rests on Keeping, on reach's Reached and Slots and machine's laws of cells.
use Prim.Native.Nat.{ℕ, suc, ◌+◌, ◌*◌, ◌-◌, ◌≤◌, ◌<◌}
use mathlib.Core.Path.{◌≡◌, sym, ◌∙◌, ap, subst}
use mathlib.Core.List.{List, ◌∷◌}
use mathlib.Core.Logic.{◌≢◌}
use mathlib.Core.Option.{some}
use native.Mathlib.Omega.{arith}
use lib.ListN.{length, get_or}
use Rattle.reach.specs.Limits.{work_words}
use Rattle.reach.specs.Syntax.{Program, field_types, source_types}
use Rattle.reach.specs.Parts.{Parts, Place, width, at, free, bind_at}
use Rattle.reach.specs.Types.{Typed, Slot, slot_at, source_slots, least_depths}
use Rattle.reach.specs.Eval.{State, answered, next, goes}
use Rattle.reach.specs.Moves.{Choice}
use Rattle.reach.proofs.Order.{bind_has, bind_refines}
use Rattle.reach.proofs.Depths.{typed_width}
use Rattle.reach.proofs.Evaluation.{waits_answered}
use Rattle.reach.specs.States.{Steps, one_more, PartHas}
use Rattle.reach.proofs.NeverStuck.{steps_sound, never_stuck}
use Rattle.reach.proofs.Reached.{steps_in_law, steps_more, bind_typed}
use Rattle.reach.proofs.Slots.{source_types_law}
use Rattle.machine.specs.Cells.{cell_word, cell_of, Cells, Binds, Unmoved}
use Rattle.machine.proofs.Cells.{bind_walks, bind_cells}
use Rattle.forks.specs.Untried.{untried}
use Rattle.registers.specs.declared.Registers.{Registers}
use Rattle.machine.specs.Records.{OnlyTop}
use Rattle.registers.specs.Stepping.{Follows}
use Rattle.registers.proofs.Standing.{stands_after, stands_below}
use Rattle.machine.proofs.Words.{records_same}
use Rattle.points.specs.Points.{choice_word, reopened}
use Rattle.choices.specs.Choices.{Setting, Given, waiting_state_at, Path, ChoiceAt, ChoicesAt, one_choice}
use Rattle.choices.proofs.Keeping.{Kept, path_kept, reopened_length, reopened_other, reopened_same, reopened_lengths, unbound, there, cell_below, choice_same, choices_kept}

-- binding keeps the types of an input, whatever the number of fields is called
typed_bound :
    (p : Program) (e : Parts) (q : Place) (s : Slot) (c k : ℕ) (us : List ℕ) → k ≡ length us → Typed p.types (source_types p) e → at e q ≡ free
    → slot_at p.types e q (source_slots p) ≡ some s → field_types p.types s.type c ≡ some us → Typed p.types (source_types p) (bind_at q c k e)
typed_bound p e q s c k us many typed open_there slot_is known =
    rw (many, ← source_types_law p) (bind_typed p.types (source_slots p) e q s c us (rw (source_types_law p) typed) open_there slot_is known)

module _
    {g : Setting} (given : Given g) {w : List ℕ} {h : ℕ} {c : Choice} (at-h : ChoiceAt g w h c) {w' us : List ℕ} {n k : ℕ}
    (known : field_types g.program.types (cell_word w (choice_word g.stack w h 0) 2) n ≡ some us) (many : k ≡ length us) (few : k ≤ 6)
    (deep : 1 ≤ cell_word w (choice_word g.stack w h 0) 3)
    (binds : Binds w w' (choice_word g.stack w h 0) n (choice_word g.stack w h 4) k us (cell_word w (choice_word g.stack w h 0) 3 - 1))
  where
    abbrev x : ℕ
    x = choice_word g.stack w h 0

    abbrev q : Place
    q = c.question.place

    -- the input with the part bound
    abbrev bound : Parts
    bound = bind_at q n k c.input

    w₀ : List ℕ
    w₀ = reopened g.stack w h

    -- where the cell is open again it is bound just so
    other : (i : ℕ) → i ≢ 5 * x → i ≢ 5 * x + 1 → get_or w₀ i 0 ≡ get_or w i 0
    unfolding w₀
    other i head first = reopened_other g w h i head first

    same_length : length w' ≡ length w₀
    unfolding w₀
    same_length = binds.same_length ∙ sym (reopened_length g w h)

    binds_open : Binds w₀ w' (cell_of w₀ q) n (choice_word g.stack w h 4) k us (cell_word w x 3 - 1)
    unfolding w₀
    binds_open = rw at-h.cell_is (record {
      same_length = same_length;
      new_head = binds.new_head;
      first_field = binds.first_field;
      fields = binds.fields;
      elsewhere = λ i head first out. binds.elsewhere i head first out ∙ sym (other i head first);
    })

    slotted : (t : ℕ) × PartHas g.program c.input q t
    slotted =
        let found = (never_stuck g.file g.program given.checked c.input at-h.path.typed at-h.path.steps).1 c.question at-h.asks in
        (found.0, found.1)

    -- the words of the cell in which the slot is told
    type_is : cell_word w x 2 ≡ slotted.0
    unfolding w₀
    type_is =
        let said = at-h.path.stands.input.slot q (record { type = slotted.0; room = slotted.1.0 }) (there at-h) slotted.1.1 in
        sym (other (5 * x + 2) (omega arith) (omega arith)) ∙ ap (λ y. cell_word w₀ y 2) (sym at-h.cell_is) ∙ said.0

    room_is : cell_word w x 3 ≡ slotted.1.0
    unfolding w₀
    room_is =
        let said = at-h.path.stands.input.slot q (record { type = slotted.0; room = slotted.1.0 }) (there at-h) slotted.1.1 in
        sym (other (5 * x + 3) (omega arith) (omega arith)) ∙ ap (λ y. cell_word w₀ y 3) (sym at-h.cell_is) ∙ said.1

    known_there : field_types g.program.types slotted.0 n ≡ some us
    known_there = subst (λ t. field_types g.program.types t n ≡ some us) type_is known

    cells_bound : choice_word g.stack w h 4 ≤ 8 + 6 * choice_word g.stack w h 5
    cells_bound = at-h.path.few_cells

    fits : 5 * (choice_word g.stack w h 4 + k) ≤ g.base
    fits = omega (arith, cells_bound, given.base_is, at-h.in_time)

    long : length w₀ ≡ work_words g.limit
    unfolding w₀
    long = at-h.path.long

    cells_there : Cells g.program.types (source_slots g.program) w' (choice_word g.stack w h 4 + k) bound
    unfolding w₀
    cells_there =
        bind_cells q at-h.path.stands.input (unbound at-h) slotted.1.1 (omega (arith, room_is)) known_there
        (omega (arith, fits, given.base_is, long)) binds_open

    unmoved : Unmoved w₀ w' c.input
    unfolding w₀
    unmoved = (bind_walks q at-h.path.stands.input (unbound at-h) binds_open).0

    typed : Typed g.program.types (source_types g.program) bound
    typed =
        typed_bound g.program c.input q (record { type = slotted.0; room = slotted.1.0 }) n k us many
        at-h.path.typed (unbound at-h) slotted.1.1 known_there

    wide : (e : Parts) → Typed g.program.types (source_types g.program) e → width e ≡ length (source_types g.program)
    wide e = typed_width g.program.types (source_types g.program) e

    steps_there : Steps g.program bound (choice_word g.stack w h 5) at-h.state
    steps_there = steps_more g.program (bind_refines q n k c.input) (wide c.input at-h.path.typed) at-h.path.steps

    base_high : g.base + 4 * choice_word g.stack w h 3 ≤ g.stack
    base_high = omega (arith, given.base_is, given.stack_is, at-h.path.few_records, at-h.in_time)

    base_low : g.base ≤ g.stack
    base_low = omega (arith, given.base_is, given.stack_is)

    -- words above the cells are as before
    above : (i : ℕ) → g.base ≤ i → get_or w' i 0 ≡ get_or w i 0
    above i from = binds.elsewhere i (omega (arith, cell_below at-h, fits)) (omega (arith, cell_below at-h, fits)) (λ l. omega (arith, fits))

    -- the path on which the part is bound
    pub path_taken : Path g w' (choice_word g.stack w h 4 + k) (choice_word g.stack w h 5) (suc (choice_word g.stack w h 5)) (waiting_state_at g.stack w h) bound at-h.state
    unfolding w₀
    path_taken = record {
      stands =
          stands_below at-h.path.stands cells_there unmoved fits same_length
          (λ i from below. above i from ∙ sym (other i (omega (arith, cell_below at-h, fits)) (omega (arith, cell_below at-h, fits))))
          (steps_in_law g.program bound (wide bound typed) steps_there) (steps_sound g.file g.program given.checked bound typed steps_there);
      typed = typed;
      steps = steps_there;
      few_cells = omega (arith, cells_bound);
      few_records = at-h.path.few_records;
      long = same_length ∙ long;
    }

    -- on which the case goes on to the alternative
    pub goes_taken : next g.program bound at-h.state ≡ goes (answered c.question n k)
    goes_taken = waits_answered g.program c.input bound at-h.state c.question n k at-h.asks (bind_has q n k c.input (unbound at-h))

    pub word : (m : ℕ) → m < 6 → choice_word g.stack w' h m ≡ choice_word g.stack w h m
    word m small = above (g.stack + 6 * h + m) (omega (arith, base_low))

    cells_same : (i : ℕ) → i < 5 * choice_word g.stack w h 4 → i ≢ 5 * x → i ≢ 5 * x + 1 → get_or w' i 0 ≡ get_or w i 0
    cells_same i below head first = binds.elsewhere i head first (λ l. absurd (omega arith))

    -- the choice points before it
    pub kept : Kept g (reopened g.stack w h) (reopened g.stack w' h) (choice_word g.stack w h 4) (choice_word g.stack w h 3) h
    kept = record {
      same_length = reopened_lengths at-h w' binds.same_length word;
      cells_kept = λ i l. reopened_same at-h w' binds.same_length word i (λ a b. cells_same i l a b);
      records_kept = λ i from l. reopened_same at-h w' binds.same_length word i (λ a b. above i from);
      choices_kept = λ i from l. reopened_same at-h w' binds.same_length word i (λ a b. above i (omega (arith, base_low)));
    }

    -- the choice point with these constructors left
    pub choices_taken :
        {cs : List Choice} (d : Choice) → d.question ≡ c.question → d.left ≡ c.left → d.done ≡ c.done → d.input ≡ c.input
        → d.untried ≡ untried g.program.types (least_depths g.program.types) (cell_word w x 2) (cell_word w x 3) (suc n)
        → ChoicesAt g (reopened g.stack w h) h (choice_word g.stack w h 4) (choice_word g.stack w h 3) cs
        → ChoicesAt g w' (suc h) (choice_word g.stack w h 4 + k) (choice_word g.stack w h 3) (d ∷ cs)
    choices_taken {cs} d question left done input untried_are rest =
        let z₃ = word 3 (omega arith) in
        let z₄ = word 4 (omega arith) in
        let head : cell_word w' x 0 ≡ suc n = binds.new_head in
        one_choice {cells = choice_word g.stack w h 4 + k} {records = choice_word g.stack w h 3} {cs = cs}
        (choice_same at-h w' binds.same_length word cells_same (λ i from l. above i from) d question left done input (rw head untried_are))
        (rw z₄ (omega arith))
        (rw z₃ (omega arith))
        (rw (z₄, z₃) (choices_kept (reopened g.stack w' h) rest kept))

-- A step that writes a record.
module _
    {g : Setting} (given : Given g) {w w' : List ℕ} {cells done binds : ℕ} {r : Registers} {e : Parts} {s : State} (path : Path g w cells done binds r e s)
    (in_time : done ≤ g.limit) (only : OnlyTop w w' g.base r.records)
  where
    -- the choice points stay, and so does the path
    pub step_kept : (h : ℕ) → Kept g w w' cells r.records h
    step_kept h = record {
      same_length = only.same_length;
      cells_kept = λ i l. only.elsewhere i (λ m. absurd (omega (arith, path.stands.apart)));
      records_kept = records_same only;
      choices_kept = λ i from l. only.elsewhere i (λ m. omega (arith, given.base_is, given.stack_is, path.few_records));
    }

    pub path_stays : Path g w' cells done binds r e s
    path_stays = path_kept path only.same_length (step_kept 0).cells_kept (records_same only)

    -- the path goes on
    pub path_goes :
        {r' : Registers} {s' : State} → Follows g.file g.types g.functions w' g.base r.records r' s' → next g.program e s ≡ goes s'
        → Path g w' cells (suc done) binds r' e s'
    path_goes follows on = record {
      stands =
          stands_after path.stands only follows on
          (steps_sound g.file g.program given.checked e path.typed (one_more path.steps on))
          (omega (arith, path.long, path.few_records, given.base_is));
      typed = path.typed;
      steps = one_more path.steps on;
      few_cells = path.few_cells;
      few_records = omega (arith, follows.one_more, path.few_records);
      long = only.same_length ∙ path.long;
    }
