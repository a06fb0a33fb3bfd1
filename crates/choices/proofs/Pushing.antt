-- A case waits on an open part, and the path becomes a choice point: before the first constructor is taken, its cell is open as it was.
-- Rests on Keeping, on reach's Evaluation and NeverStuck, and on forks' laws.
use Prim.Native.Nat.{ℕ, suc, ◌+◌, ◌*◌, ◌-◌, ◌≤◌, ◌<◌}
use mathlib.Core.Path.{◌≡◌, refl, sym, ◌∙◌, ap, subst}
use mathlib.Core.List.{List, ◌∷◌}
use mathlib.Core.Option.{some}
use native.Mathlib.Decide.{ℕ_discrete}
use native.Mathlib.Omega.{arith}
use lib.ListN.{length, get_or}
use Rattle.reach.specs.Syntax.{Types, Program}
use Rattle.reach.specs.Parts.{Parts, free, at, There}
use Rattle.reach.specs.Types.{Slot, source_slots, slot_at, forks, forks_at, least_depths}
use Rattle.reach.specs.Eval.{State, inspecting, Frame, Question, waits, next}
use Rattle.reach.specs.Search.{branches}
use Rattle.reach.specs.Moves.{Choice}
use Rattle.reach.proofs.Evaluation.{waits_free}
use Rattle.reach.specs.States.{PartHas}
use Rattle.reach.proofs.NeverStuck.{never_stuck}
use Rattle.machine.specs.Cells.{cell_word, cell_of}
use Rattle.machine.proofs.Cells.{kept_cells}
use Rattle.machine.specs.Records.{Control, part_in, StateAt, inspecting_at}
use Rattle.forks.specs.Untried.{untried}
use Rattle.forks.proofs.Untried.{untried_all}
use Rattle.registers.specs.declared.Registers.{Registers}
use Rattle.registers.specs.Stepping.{declarations_of, control_in, part_kind}
use Rattle.registers.proofs.Waiting.{inspects}
use Rattle.points.specs.Points.{choice_word, reopened, Pushes}
use Rattle.choices.specs.Choices.{Setting, Given, Path, ChoiceAt, ChoicesAt, one_choice}
use Rattle.choices.proofs.Keeping.{Kept, path_kept, reopened_length, reopened_other, reopened_head, reopened_first, choices_kept}

-- the registers that look at cell x, with the frames of others
abbrev looking_at : ℕ → Registers → Registers
looking_at x r = record { kind = part_kind; place = x; env = 0; frame = r.frame; records = r.records }

-- the path on which a case waits is that of the registers that look at the cell of the part
module _ {g : Setting} {w : List ℕ} {cells done binds : ℕ} {r : Registers} {e : Parts} {s : State} (path : Path g w cells done binds r e s) where
  module _ {q : Question} {x : ℕ} (asks : next g.program e s ≡ waits q) (cell_is : cell_of w q.place ≡ x) where
    looking :
        StateAt g.file (declarations_of g.file g.types g.functions) w g.base (cell_of w) (control_in r) r.frame s
        → StateAt g.file (declarations_of g.file g.types g.functions) w g.base (cell_of w) (part_in x) r.frame s
    looking state-at =
        let (alts, env, fs, is) = inspects g.program e s q asks in
        rw is (by_state (rw is at state-at))
      where
        by_state :
            {fs : List Frame} {c : Control}
            → StateAt g.file (declarations_of g.file g.types g.functions) w g.base (cell_of w) c r.frame (inspecting q.place fs)
            → StateAt g.file (declarations_of g.file g.types g.functions) w g.base (cell_of w) (part_in x) r.frame (inspecting q.place fs)
        by_state (inspecting_at is frames) = inspecting_at cell_is frames

    pub path_looking : Path g w cells done binds (looking_at x r) e s
    path_looking =
        record {
          stands = record {
            input = path.stands.input;
            apart = path.stands.apart;
            zeros = path.stands.zeros;
            state = looking path.stands.state;
            there = path.stands.there;
            sound = path.stands.sound;
            space = record {
              some_record = path.stands.space.some_record;
              environment_below = path.stands.space.some_record;
              frame_below = path.stands.space.frame_below;
              room = path.stands.space.room;
              narrow = path.stands.space.narrow;
              few = path.stands.space.few;
            };
          };
          typed = path.typed;
          steps = path.steps;
          few_cells = path.few_cells;
          few_records = path.few_records;
          long = path.long;
        }

-- the constructors of a fork, by the slot of the part and by the words of its cell
branches_are :
    (p : Program) (table : List ℕ) (e : Parts) (q : Question) (s : Slot) → slot_at p.types e q.place (source_slots p) ≡ some s
    → branches p table e q ≡ forks p.types table s.type s.room
unfolding branches forks_at
branches_are p table e q s h = rw h

cell_untried :
    (types : Types) (table w : List ℕ) (x t room : ℕ) → cell_word w x 2 ≡ t → cell_word w x 3 ≡ room
    → forks types table t room ≡ untried types table (cell_word w x 2) (cell_word w x 3) 0
cell_untried types table w x t room type_is room_is = rw (type_is, room_is) (sym (untried_all types table t room))

-- the choice point of a case that waits after so many steps, with every constructor of the fork untried
abbrev pub new_choice : Setting → Question → ℕ → Parts → Choice
new_choice g q done e = record {
  question = q;
  left = g.limit - suc done;
  done = suc done;
  input = e;
  untried = branches g.program (least_depths g.program.types) e q;
}

-- Six words behind the other choice points are written.
module _
    {g : Setting} (given : Given g) {w w' : List ℕ} {cells done h : ℕ} {r : Registers} {e : Parts} {s : State} {q : Question} {x : ℕ}
    (path : Path g w cells done done r e s) (in_time : done < g.limit) (no_higher : h ≤ done) (asks : next g.program e s ≡ waits q)
    (cell_is : cell_of w q.place ≡ x) (pushes : Pushes g.stack w w' h x r.frame r.records cells done)
  where
    unbound : at e q.place ≡ free
    unbound = waits_free g.program e s q asks

    there : There (at e q.place)
    there = subst There (sym unbound) tt

    below : x < cells
    below = rw (← cell_is) (path.stands.input.in_use q.place there)

    -- the choice points are above the cells and the records
    above : (i : ℕ) → i < g.stack + 6 * h → get_or w' i 0 ≡ get_or w i 0
    above i l = pushes.elsewhere i (λ k. absurd (omega arith))

    cells_low : 5 * cells ≤ g.base
    cells_low = path.stands.apart

    records_low : g.base + 4 * r.records ≤ g.stack
    records_low = omega (arith, given.base_is, given.stack_is, path.few_records)

    base_low : g.base ≤ g.stack
    base_low = omega (arith, given.base_is, given.stack_is)

    fits : 5 * choice_word g.stack w' h 0 + 1 < length w'
    fits = omega (arith, pushes.word_0, pushes.same_length, path.stands.input.fits, below)

    -- the cell is open as it was
    head_open : get_or w (5 * x) 0 ≡ 0
    head_open =
        let z : 5 * x + 0 ≡ 5 * x = omega arith in
        rw (← z, ← cell_is) (path.stands.input.head_free q.place unbound)

    fresh : (i : ℕ) → i < g.stack + 6 * h → get_or (reopened g.stack w' h) i 0 ≡ get_or w i 0
    fresh i l = by_place (ℕ_discrete i (5 * x)) (ℕ_discrete i (5 * x + 1))
      where
        by_place : Dec (i ≡ 5 * x) → Dec (i ≡ 5 * x + 1) → get_or (reopened g.stack w' h) i 0 ≡ get_or w i 0
        by_place (yes is) first = rw is ((rw pushes.word_0 at (reopened_head g w' h fits)) ∙ sym head_open)
        by_place (no head) (yes is) = rw is ((rw pushes.word_0 at (reopened_first g w' h fits)) ∙ pushes.word_1)
        by_place (no head) (no first) =
            reopened_other g w' h i (λ is. head (is ∙ ap (λ y. 5 * y) pushes.word_0)) (λ is. first (is ∙ ap (λ y. 5 * y + 1) pushes.word_0)) ∙ above i l

    same_length : length (reopened g.stack w' h) ≡ length w
    same_length = reopened_length g w' h ∙ pushes.same_length

    pub kept : Kept g w (reopened g.stack w' h) cells r.records h
    kept = record {
      same_length = same_length;
      cells_kept = λ i l. fresh i (omega (arith, cells_low, base_low));
      records_kept = λ i from l. fresh i (omega (arith, records_low));
      choices_kept = λ i from l. fresh i l;
    }

    waits_there : Path g (reopened g.stack w' h) cells done done (looking_at x r) e s
    waits_there = path_kept (path_looking path asks cell_is) same_length kept.cells_kept kept.records_kept

    -- the part has a slot, of which its cell tells the type and the depth
    slotted : (t : ℕ) × PartHas g.program e q.place t
    slotted = let found = (never_stuck g.file g.program given.checked e path.typed path.steps).1 q asks in (found.0, found.1)

    all_untried :
        branches g.program (least_depths g.program.types) e q
        ≡ untried g.program.types (least_depths g.program.types) (cell_word w x 2) (cell_word w x 3) 0
    all_untried =
        let (t, (room, slot_is)) = slotted in
        let said = path.stands.input.slot q.place (record { type = t; room = room }) there slot_is in
        branches_are g.program (least_depths g.program.types) e q (record { type = t; room = room }) slot_is
        ∙ cell_untried g.program.types (least_depths g.program.types) w x t room (ap (λ y. cell_word w y 2) (sym cell_is) ∙ said.0)
        (ap (λ y. cell_word w y 3) (sym cell_is) ∙ said.1)

    pub head_new : cell_word w' x 0 ≡ 0
    head_new = above (5 * x + 0) (omega (arith, cells_low, base_low, below)) ∙ (let z : 5 * x + 0 ≡ 5 * x = omega arith in rw z head_open)

    choice_at : ChoiceAt g w' h (new_choice g q done e)
    choice_at =
        let z₀ = pushes.word_0 in
        let z₂ = pushes.word_2 in
        let z₃ = pushes.word_3 in
        let z₄ = pushes.word_4 in
        let z₅ = pushes.word_5 in
        let type : cell_word w' x 2 ≡ cell_word w x 2 = above (5 * x + 2) (omega (arith, cells_low, base_low, below)) in
        let room : cell_word w' x 3 ≡ cell_word w x 3 = above (5 * x + 3) (omega (arith, cells_low, base_low, below)) in
        let moved : cell_of (reopened g.stack w' h) q.place ≡ x =
        (kept_cells (reopened g.stack w' h) path.stands.input waits_there.stands.input.fits kept.cells_kept).0 q.place there ∙ cell_is in
        record {
          state = s;
          path = rw (z₀, z₂, z₃, z₄, z₅) waits_there;
          asks = asks;
          cell_is = rw z₀ moved;
          in_time = rw z₅ in_time;
          no_higher = rw z₅ no_higher;
          left_is = rw z₅ refl;
          done_is = rw z₅ refl;
          untried_are = rw (z₀, type, room, head_new) all_untried;
        }

    pub choices_pushed : {cs : List Choice} → ChoicesAt g w h cells r.records cs → ChoicesAt g w' (suc h) cells r.records (new_choice g q done e ∷ cs)
    choices_pushed {cs} rest =
        let z₃ = pushes.word_3 in
        let z₄ = pushes.word_4 in
        one_choice {cells = cells} {records = r.records} {cs = cs} choice_at (rw z₄ (omega arith)) (rw z₃ (omega arith))
        (rw (z₄, z₃) (choices_kept (reopened g.stack w' h) rest kept))
