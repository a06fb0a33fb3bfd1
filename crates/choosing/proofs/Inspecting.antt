-- A part of the input is the value that a waiting case looks at; the case waits where the part is open.
-- Rests on Choosing, on machine's Cells and on reach's States.
use Prim.Native.Nat.{ℕ, suc, ◌+◌, ◌-◌, ◌≤◌, ◌<◌}
use mathlib.Core.Path.{◌≡◌, refl, sym, ◌∙◌, ap, subst}
use mathlib.Core.List.{List, ◌∷◌}
use native.Mathlib.Omega.{arith}
use Rattle.reach.specs.Syntax.{Alternatives, Program}
use Rattle.reach.specs.Parts.{Parts, Place, free, has, at, There}
use Rattle.reach.specs.Eval as Eval
use Rattle.reach.specs.Eval.{fields_of, part_of, Env, input_parts, size, Frame, waiting, State, choose, answered, view, look, answer, next}
use Rattle.reach.specs.States.{PartHas, Chooses, Sound}
use Rattle.reach.proofs.Order.{field_there}
use Rattle.machine.specs.Cells.{cell_of, cell_word}
use Rattle.machine.specs.Records.{record_word, no_case, part_in, EnvAt, Wrote}
use Rattle.machine.proofs.Cells.{walk_field, head_open, head_constructor}
use Rattle.machine.proofs.Records.{count_word, parts_added}
use Rattle.registers.specs.declared.Registers.{Registers}
use Rattle.registers.specs.declared.Next.TheVariants as Next
use Rattle.lookups.specs.Fields.{FieldCount}
use Rattle.registers.specs.Stepping.{declarations_of, control_in, StandsFor, Standing, Stepped, StepMeans, Chose}
use Rattle.machine.proofs.Words.{records_same, nothing_written}
use Rattle.registers.proofs.Words.{cells_same}
use Rattle.registers.proofs.Kept.{inspected}
use Rattle.choosing.proofs.Choosing.{Pending, pending, pending_there, chose_only, counted, chosen}

-- What comes next at a part of the input that a case looks at: by what stands there.

module _ (p : Program) (e : Parts) (q : Place) (alts : Alternatives) (outer : Env) (rest : List Frame) where
  open_next :
      at e q ≡ free
      → next p e (Eval.inspecting q (waiting alts outer ∷ rest)) ≡ Eval.waits (record { place = q; alternatives = alts; environment = outer; frames = rest })
  unfolding next answer view look
  open_next is = rw is

  bound_next :
      (c k : ℕ) → at e q ≡ has c k
      → next p e (Eval.inspecting q (waiting alts outer ∷ rest)) ≡ Eval.goes (choose alts c (input_parts outer (fields_of q) k) rest)
  unfolding next answer view look answered
  bound_next c k is = rw is

module _ (file types functions w : List ℕ) (base cell : ℕ) (r : Registers) (is_part : control_in r ≡ part_in cell) where
  pub part_small : Standing file types functions w base r → cell ≤ 1000000
  part_small standing =
      let stands = standing.stands in
      inspected file types functions w base cell r is_part standing.program standing.cells standing.input standing.state (λ s. cell ≤ 1000000) stands
      (λ q fs is frames there frames_in sound. omega (arith, is, stands.input.in_use q there, stands.apart, stands.space.room, stands.space.narrow))

  module _ {head : ℕ} (case_waits : r.frame < no_case) (is-head : head ≡ cell_word w cell 0) where
    -- the case waits where the part is open
    pub part_waits : head ≡ 0 → (label : ℕ) → Stepped file types functions w w base label r (Next.Waits cell)
    part_waits zero-head label = record {
      only_top = nothing_written w base r.records;
      steps = λ p sought cells e s file_of stands.
          inspected file types functions w base cell r is_part p cells e s (λ s'. StepMeans file types functions w w base r p e s' (Next.Waits cell)) stands
          (λ q fs is frames there frames_in sound.
          pending {r = r} (λ fs'. StepMeans file types functions w w base r p e (Eval.inspecting q fs') (Next.Waits cell)) case_waits frames frames_in
          (λ alts outer rest here.
          let open_part = head_open stands.input q there (ap (λ (x : ℕ). cell_word w x 0) is ∙ (sym is-head ∙ zero-head)) in
          (record { place = q; alternatives = alts; environment = outer; frames = rest }, open_next p e q alts outer rest open_part, is)));
    }

    module _ (some_head : head ≡ 0 → ⊥) where
      -- what is to be shown is shown of a bound part that a case waits for
      bound_there :
          (p : Program) (cells : ℕ) (e : Parts) (s : State) (G : State → Type 0) → StandsFor file types functions p w base cells r e s
          → ((q : Place) (alts : Alternatives) (outer : Env) (rest : List Frame) (k t : ℕ) → cell_of w q ≡ cell → There (at e q) → at e q ≡ has (head - 1) k
          → Pending file types functions w base r e alts outer rest → PartHas p e q t → Chooses p t (head - 1) alts outer (input_parts outer (fields_of q) k)
          → G (Eval.inspecting q (waiting alts outer ∷ rest)))
          → G s
      bound_there p cells e s G stands show =
          inspected file types functions w base cell r is_part p cells e s G stands
          (λ q fs is frames there frames_in sound.
          pending {r = r} (λ fs'. Sound p e (Eval.inspecting q fs') → G (Eval.inspecting q fs')) case_waits frames frames_in
          (λ alts outer rest here met.
          let z : head ≡ suc (head - 1) = omega arith in
          let bound = head_constructor stands.input q there (head - 1) (ap (λ (x : ℕ). cell_word w x 0) is ∙ (sym is-head ∙ z)) in
          show q alts outer rest bound.0 met.0 is there bound.1 here met.1 (met.3 (head - 1) bound.0 bound.1)) sound)

      pub part_chooses : Standing file types functions w base r → record_word w base r.frame 2 < r.records
      part_chooses standing =
          bound_there standing.program standing.cells standing.input standing.state (λ s. record_word w base r.frame 2 < r.records) standing.stands
          (λ q alts outer rest k t is there bound here has-type chooses. omega (arith, case_waits, here.env_before, standing.stands.space.frame_below.0))

      -- the record at the top is the group of the part's fields
      fields_there :
          (p : Program) (cells : ℕ) (e : Parts) (s : State) (w' : List ℕ) → StandsFor file types functions p w base cells r e s
          → (q : Place) (alts : Alternatives) (outer : Env) (rest : List Frame) (k n : ℕ) → cell_of w q ≡ cell → at e q ≡ has (head - 1) k
          → Pending file types functions w base r e alts outer rest → n ≡ size outer + k
          → Wrote w w' base r.records (record_word w base r.frame 2) n (cell_word w cell 1) 0
          → EnvAt file (declarations_of file types functions) w' base (cell_of w') r.records (input_parts outer (fields_of q) k)
      unfolding part_of
      fields_there p cells e s w' stands q alts outer rest k n is bound here many wrote =
          let same = cells_same wrote.only_top stands in
          parts_added file (declarations_of file types functions) w w' base r.records (cell_of w) (cell_of w') e (records_same wrote.only_top) same.0
          wrote.holds (omega (arith, case_waits, here.env_before, stands.space.frame_below.0)) many here.env_at here.env_in
          (λ j below. same.0 (part_of (fields_of q) j) (field_there e q (head - 1) k j bound below) ∙ (walk_field w q j ∙ ap (λ (x : ℕ). cell_word w x 1 + j) is))

      pub part_goes :
          {w' : List ℕ} {t' first k : ℕ} {r' : Registers} → first ≡ cell_word w cell 1 → t' ≡ cell_word w cell 2
          → FieldCount file types t' (head - 1) k
          → Chose file types functions w w' base r (head - 1) k first 0 r' → (label : ℕ) → Stepped file types functions w w' base label r (Next.Goes r')
      unfolding size
      part_goes {w'} {t'} {first} {k} {r'} is-first is-t fields chose label = record {
        only_top = chose_only chose;
        steps = λ p sought cells e s file_of stands.
            bound_there p cells e s (λ s'. StepMeans file types functions w w' base r p e s' (Next.Goes r')) stands
            (λ q alts outer rest m t is there bound here has-type chooses.
            let type_is = (stands.input.slot q _ there has-type.1).0 in
            let size_is = counted file_of fields (is-t ∙ (ap (λ (x : ℕ). cell_word w x 2) (sym is) ∙ type_is)) refl chooses in
            let many = count_word file (declarations_of file types functions) w base (cell_of w) stands.zeros here.env_at in (
              choose alts (head - 1) (input_parts outer (fields_of q) m) rest,
              bound_next p e q alts outer rest (head - 1) m bound,
              chosen stands here fields.1
                  (λ wrote. fields_there p cells e s w' stands q alts outer rest m _ is bound here (omega (arith, many, size_is))
                  (subst (λ (x : ℕ). Wrote w w' base r.records (record_word w base r.frame 2) (record_word w base (record_word w base r.frame 2) 1 + k) x 0) is-first wrote))
                  (pending_there here chooses) chose,
            ));
      }
