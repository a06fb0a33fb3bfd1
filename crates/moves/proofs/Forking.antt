-- A choice point takes its next constructor: the cell is bound, and one step leads behind the case, where the model's path arrives.
-- Rests on arriving's Moving and Arriving, and on choices' Keeping, Taking and Weights.
use Prim.Native.Nat.{ℕ, suc, ◌+◌, ◌*◌, ◌-◌, ◌≤◌, ◌<◌}
use mathlib.Core.Path.{◌≡◌, refl, sym, ◌∙◌, ap, subst}
use mathlib.Core.List.{List, ◌∷◌}
use mathlib.Core.Option.{some, some-injective}
use native.Mathlib.Omega.{arith}
use lib.ListN.{length}
use Rattle.std.specs.Prelude.{Some}
use Rattle.reach.specs.Limits.{depth_limit}
use Rattle.reach.specs.Syntax.{Program}
use Rattle.reach.specs.Parts.{Parts, bind_at}
use Rattle.reach.specs.Types.{least_depths}
use Rattle.reach.specs.Places.{bytes_at}
use Rattle.reach.specs.Eval as Eval
use Rattle.reach.specs.Eval.{answered}
use Rattle.reach.specs.Search.{Entry}
use Rattle.reach.specs.Moves as Model
use Rattle.reach.specs.Moves.{Choice, take_fork}
use Rattle.reach.proofs.Limits.{accepted_keeps, accepted_rooms}
use Rattle.reach.proofs.NeverStuck.{never_stuck}
use Rattle.reach.proofs.Places.{bytes_length}
use Rattle.machine.specs.Cells.{cell_word, cell_of, Binds}
use Rattle.lookups.specs.Fields.{fields_in, FieldCount}
use Rattle.cells.proofs.Rooms.{cell_room}
use Rattle.registers.specs.declared.Registers.{Registers}
use Rattle.registers.specs.declared.Next.{Next}
use Rattle.registers.specs.Stepping.{part_kind, StepMeans, Stepped}
use Rattle.choosing.specs.Entering.{AtBoundPart}
use Rattle.registers.proofs.Waiting.{waits_control}
use Rattle.points.specs.Points.{choice_word, reopened}
use Rattle.choices.specs.Choices.{Setting, Given, waiting_state_at, Path, ChoicesAt}
use Rattle.choices.specs.Weights.{power, weight}
use Rattle.choices.specs.Returning.{setting}
use Rattle.choices.proofs.Keeping.{reopened_other, there, cell_below, choices_kept, choices_more}
use Rattle.choices.proofs.Taking.{path_taken, goes_taken, choices_taken, step_kept, path_goes}
use Rattle.choices.proofs.Weights.{weight_kept, weight_taken}
use Rattle.choices.proofs.Returning.{height_small, long, cells_small}
use Rattle.arriving.specs.Moving.{UnderWay, OnPath, Forking, Takes}
use Rattle.arriving.proofs.Arriving.{step_standing}

-- the model's fork, where the choice point's numbers are known
take_is :
    (p : Program) (table : List ℕ) (c : Choice) (n k left done : ℕ) (rest : List Rattle.reach.specs.Types.Fork) (before : List Choice) (es : List Entry)
    → c.left ≡ left → c.done ≡ done
    → take_fork p table c (record { constructor = n; fields = k }) rest before es
    ≡ Model.arrive p table left done (bind_at c.question.place n k c.input) (answered c.question n k)
    (record { question = c.question; left = c.left; done = c.done; input = c.input; untried = rest } ∷ before) es
unfolding take_fork
take_is p table c n k left done rest before es is-left is-done =
    ap (λ (l : ℕ). Model.arrive p table l c.done (bind_at c.question.place n k c.input) (answered c.question n k) (record { question = c.question; left = c.left; done = c.done; input = c.input; untried = rest } ∷ before) es) is-left
    ∙ ap (λ (d : ℕ). Model.arrive p table left d (bind_at c.question.place n k c.input) (answered c.question n k) (record { question = c.question; left = c.left; done = c.done; input = c.input; untried = rest } ∷ before) es) is-done

module _ {g : Setting} (given : Given g) {w : List ℕ} {h n i k : ℕ} (f : Forking g w h n i k) where
  abbrev x : ℕ
  x = choice_word g.stack w h 0

  abbrev d : ℕ
  d = choice_word g.stack w h 5

  abbrev c : Choice
  c = f.choice

  abbrev afterwards : Choice
  afterwards = record { question = c.question; left = c.left; done = c.done; input = c.input; untried = f.next_at.rest }

  abbrev bound : Parts
  bound = bind_at c.question.place n k c.input

  many : k ≡ length (bytes_at g.file i k)
  many = sym (bytes_length g.file i k)

  few : k ≤ 6
  few = omega (arith, many, (accepted_keeps g.file g.program given.checked).fields_limit _ n (bytes_at g.file i k) f.next_at.known)

  -- the cell may be no deeper than a parameter
  shallow : cell_word w x 3 ≤ 255
  shallow =
      let at-h = f.next_at.choice_at in
      let found = (never_stuck g.file g.program given.checked c.input at-h.path.typed at-h.path.steps).1 c.question at-h.asks in
      let rooms = accepted_rooms g.file g.program given.checked in
      let low = cell_room depth_limit c.question.place rooms at-h.path.stands.input (there at-h) found.1.1 in
      let same : cell_word (reopened g.stack w h) x 3 ≡ cell_word w x 3 = reopened_other g w h (5 * x + 3) (omega arith) (omega arith) in
      let moved : cell_word (reopened g.stack w h) (cell_of (reopened g.stack w h) c.question.place) 3 ≡ cell_word (reopened g.stack w h) x 3 =
      ap (λ y. cell_word (reopened g.stack w h) y 3) at-h.cell_is in
      omega arith

  pub height_few : h ≤ 4096
  height_few = height_small given f.next_at.choice_at

  -- the cell can be bound
  pub bindable :
      (x < choice_word g.stack w h 4) × (5 * (choice_word g.stack w h 4 + k) ≤ length w) × (n ≤ 255) × (k ≤ 255) × (i ≤ 1000000)
      × (choice_word g.stack w h 4 ≤ 1000000) × (cell_word w x 3 ≤ 255)
  bindable =
      let at-h = f.next_at.choice_at in (
        cell_below at-h,
        omega (arith, at-h.path.few_cells, at-h.in_time, long given at-h, few),
        f.next_at.small,
        omega (arith, few),
        f.next_at.near,
        cells_small given at-h,
        shallow,
      )

  -- bound it is
  module _ {w₁ : List ℕ} (binds : Binds w w₁ x n (choice_word g.stack w h 4) k (bytes_at g.file i k) (cell_word w x 3 - 1)) where
    path₁ : Path g w₁ (choice_word g.stack w h 4 + k) d (suc d) (waiting_state_at g.stack w h) bound f.next_at.choice_at.state
    path₁ = path_taken given f.next_at.choice_at f.next_at.known many few f.next_at.deep binds

    on : Eval.next g.program bound f.next_at.choice_at.state ≡ Eval.goes (answered c.question n k)
    on = goes_taken given f.next_at.choice_at f.next_at.known many few f.next_at.deep binds

    choices₁ : ChoicesAt g w₁ (suc h) (choice_word g.stack w h 4 + k) (choice_word g.stack w h 3) (afterwards ∷ f.before)
    choices₁ =
        choices_taken given f.next_at.choice_at f.next_at.known many few f.next_at.deep binds afterwards refl refl refl refl f.next_at.rest_is f.before_at

    lighter₁ : weight g.stack g.limit w₁ (suc h) + power (g.limit - suc d) ≤ weight g.stack g.limit w (suc h)
    lighter₁ =
        weight_taken given f.next_at.choice_at f.next_at.known many few f.next_at.deep binds f.before_at f.next_at.from f.next_at.small

    in_time₁ : d ≤ g.limit
    in_time₁ = omega (arith, f.next_at.choice_at.in_time)

    -- as many fields as its type says
    counted : FieldCount g.file g.types (cell_word w₁ x 2) n k
    counted =
        let type_kept : cell_word w₁ x 2 ≡ cell_word w x 2 =
        binds.elsewhere (5 * x + 2) (omega arith) (omega arith) (λ l. absurd (omega (arith, cell_below f.next_at.choice_at))) in
        let known : fields_in g.file g.types (cell_word w₁ x 2) n ≡ some (bytes_at g.file i k) =
        rw (type_kept, ← given.file_of.types_there) f.next_at.known in
        (λ us are. many ∙ ap length (some-injective _ _ (sym known ∙ are)), omega (arith, few))

    -- its case goes on with it
    pub take_bound : AtBoundPart g.file g.types g.functions w₁ g.base x (waiting_state_at g.stack w h) n k (choice_word g.stack w h 4)
    take_bound = record {
      standing = step_standing given path₁;
      is_part = refl;
      case_waits = (waits_control f.next_at.choice_at.path.stands f.next_at.choice_at.asks).1;
      head_is = binds.new_head;
      first_is = binds.first_field;
      fields = counted;
      small = (omega (arith, f.next_at.small), omega (arith, cells_small given f.next_at.choice_at));
    }

    module _ {label : ℕ} (sought : label ≡ g.program.label) {w₂ : List ℕ} {next : Next} (stepped : Stepped g.file g.types g.functions w₁ w₂ g.base label (waiting_state_at g.stack w h) next) where
      means : (n' : Next) → next ≡ n' → StepMeans g.file g.types g.functions w₁ w₂ g.base (waiting_state_at g.stack w h) g.program bound f.next_at.choice_at.state n'
      means n' is =
          subst (StepMeans g.file g.types g.functions w₁ w₂ g.base (waiting_state_at g.stack w h) g.program bound f.next_at.choice_at.state) is
          (stepped.steps g.program sought (choice_word g.stack w h 4 + k) bound f.next_at.choice_at.state given.file_of path₁.stands)

      module _ {to : Registers} (is : next ≡ Next.Goes to) where
        kept₂ : weight g.stack g.limit w₂ (suc h) ≡ weight g.stack g.limit w₁ (suc h)
        kept₂ = weight_kept w₂ choices₁ (step_kept given path₁ in_time₁ stepped.only_top (suc h))

        pub under : UnderWay g w₂ (choice_word g.stack w h 4 + k) (d + 1) (h + 1) to bound (answered c.question n k) (afterwards ∷ f.before)
        under =
            let (s', next-is, follows) = means (Next.Goes to) is in
            let same : s' ≡ answered c.question n k = cc (next-is, on) in
            let one : d + 1 ≡ suc d = omega arith in
            let high : h + 1 ≡ suc h = omega arith in
            let path = path_goes given path₁ in_time₁ stepped.only_top follows next-is in
            rw (one, high, ← same) (record {
              path = path;
              in_time = omega (arith, f.next_at.choice_at.in_time);
              no_higher = omega (arith, f.next_at.choice_at.no_higher);
              choices = choices_more (omega arith) follows.no_fewer (choices_kept w₂ choices₁ (step_kept given path₁ in_time₁ stepped.only_top (suc h)));
            })

        -- where the walk is, the model's fork arrives
        pub taken :
            OnPath g w w₂ (weight g.stack g.limit w (suc h)) (record { registers = Some to; cells = choice_word g.stack w h 4 + k; done = d + 1; height = h + 1 })
            (take_fork g.program (least_depths g.program.types) c (record { constructor = n; fields = k }) f.next_at.rest f.before) to
        taken =
            let one : suc d ≡ d + 1 = omega arith in
            let high : suc h ≡ h + 1 = omega arith in
            let left : c.left ≡ g.limit - (d + 1) = f.next_at.choice_at.left_is ∙ ap (λ y. g.limit - y) one in
            let done : c.done ≡ d + 1 = f.next_at.choice_at.done_is ∙ one in
            let before = lighter₁ in
            let heavy : weight g.stack g.limit w₂ (h + 1) ≡ weight g.stack g.limit w₁ (suc h) = ap (weight g.stack g.limit w₂) (sym high) ∙ kept₂ in
            let same_power : power (g.limit - (d + 1)) ≡ power (g.limit - suc d) = ap (λ y. power (g.limit - y)) (sym one) in
            record {
              input = bound;
              state = answered c.question n k;
              choices = afterwards ∷ f.before;
              under = under;
              model_is = λ es. take_is g.program _ c n k (g.limit - (d + 1)) (d + 1) f.next_at.rest f.before es left done;
              no_heavier = omega arith;
              same_length = stepped.only_top.same_length ∙ binds.same_length;
            }

-- What `take_fork` does, by what its callees ensure.
module _
    (file types functions : List ℕ) (w w₁ : List ℕ) (base stack h n i k : ℕ) {x frame records cells done : ℕ} (x-is : x ≡ choice_word stack w h 0)
    (frame_is : frame ≡ choice_word stack w h 2) (records_is : records ≡ choice_word stack w h 3) (cells_is : cells ≡ choice_word stack w h 4)
    (done_is : done ≡ choice_word stack w h 5) (binds : Binds w w₁ x n cells k (bytes_at file i k) (cell_word w x 3 - 1))
  where
    abbrev from : Registers
    from = record { kind = part_kind; place = x; env = 0; frame = frame; records = records }

    bound_there : Binds w w₁ (choice_word stack w h 0) n (choice_word stack w h 4) k (bytes_at file i k) (cell_word w (choice_word stack w h 0) 3 - 1)
    bound_there = rw (x-is, cells_is) at binds

    pub fork_bound :
        (least : List ℕ) (p : Program) (limit : ℕ) → Given (setting file types functions least p limit base stack)
        → Forking (setting file types functions least p limit base stack) w h n i k → AtBoundPart file types functions w₁ base x from n k cells
    fork_bound least p limit given f = rw (x-is, frame_is, records_is, cells_is) (take_bound given f bound_there)

    module _
        {w₂ : List ℕ} {to : Registers}
        (stepped : (label : ℕ) → AtBoundPart file types functions w₁ base x from n k cells → Stepped file types functions w₁ w₂ base label from (Next.Goes to))
      where
        stepped_there :
            (label : ℕ) → AtBoundPart file types functions w₁ base x from n k cells → Stepped file types functions w₁ w₂ base label (waiting_state_at stack w h) (Next.Goes to)
        stepped_there label bound = rw (x-is, frame_is, records_is) at (stepped label bound)

        pub fork_takes :
            Takes file types functions w w₂ base stack h n i k (record { registers = Some to; cells = cells + k; done = done + 1; height = h + 1 })
        fork_takes = (to, refl, taken_there)
          where
            taken_there :
                (least : List ℕ) (p : Program) (limit : ℕ) → (given : Given (setting file types functions least p limit base stack))
                → (f : Forking (setting file types functions least p limit base stack) w h n i k)
                → OnPath (setting file types functions least p limit base stack) w w₂ (weight stack limit w (suc h))
                (record { registers = Some to; cells = cells + k; done = done + 1; height = h + 1 })
                (take_fork p (least_depths p.types) f.choice (record { constructor = n; fields = k }) f.next_at.rest f.before) to
            taken_there least p limit given f =
                rw (cells_is, done_is) (taken given f bound_there refl (stepped_there p.label (fork_bound least p limit given f)) refl)
