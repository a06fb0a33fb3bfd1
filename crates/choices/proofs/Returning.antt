-- The loop of `find_return`: from the beginning the return came to a lower height, where the choice points are those that are left.
-- Rests on specs/Returning, Keeping and Weights, and on forks' laws.
use Prim.Native.Nat.{ℕ, suc, ◌+◌, ◌*◌, ◌-◌, ◌≤◌, ◌<◌}
use mathlib.Core.Path.{◌≡◌, refl, sym, ◌∙◌, ap, subst}
use mathlib.Core.List.{List, [], ◌∷◌, map}
use native.Mathlib.Omega.{arith}
use lib.ListN.{length}
use Rattle.reach.specs.Limits.{work_words}
use Rattle.reach.specs.Syntax.{Program}
use Rattle.reach.specs.Types.{Fork, least_depths}
use Rattle.reach.specs.Places.{type_at}
use Rattle.reach.specs.Search.{Entry}
use Rattle.reach.specs.Moves.{Choice, behind, take_fork, return}
use Rattle.reach.proofs.Limits.{accepted_keeps}
use Rattle.machine.specs.Cells.{cell_word}
use Rattle.std.specs.Prelude.{Option, Some, None}
use Rattle.forks.specs.declared.Candidate.{Candidate}
use Rattle.forks.specs.Untried.{untried}
use Rattle.forks.proofs.Untried.{untried_padded}
use Rattle.points.specs.Points.{choice_word, reopened, NextForkAt}
use Rattle.choices.specs.Choices.{Setting, Given, ChoiceAt, ChoicesAt, no_choice, one_choice}
use Rattle.choices.specs.Weights.{weight}
use Rattle.choices.specs.Returning.{setting, NextAt, Returns, SomeChoices}
use Rattle.choices.proofs.Keeping.{reopened_length, cell_below, cells_fit, cell_fits}
use Rattle.choices.proofs.Weights.{weight_dropped}

-- The last of some choice points.
pub record LastChoice (g : Setting) (w : List ℕ) (h : ℕ) (cs : List Choice) : Type 0 where
  pub choice : Choice
  pub before : List Choice
  pub choices_are : cs ≡ choice ∷ before
  pub choice_at : ChoiceAt g w h choice
  pub before_at : ChoicesAt g (reopened g.stack w h) h (choice_word g.stack w h 4) (choice_word g.stack w h 3) before

pub last_choice :
    {g : Setting} {w : List ℕ} {h cells records : ℕ} {cs : List Choice} → ChoicesAt g w h cells records cs → 0 < h → LastChoice g w (h - 1) cs
last_choice (no_choice open_there) higher = absurd (omega arith)
last_choice (one_choice {h = h} {c = c} {cs = cs} at-h few_cells few_records rest) higher =
    let z : suc h - 1 ≡ h = omega arith in
    rw z (record { choice = c; before = cs; choices_are = refl; choice_at = at-h; before_at = rest })

-- where there is none, there are no choice points
pub none_left : {g : Setting} {w : List ℕ} {h cells records : ℕ} {cs : List Choice} → ChoicesAt g w h cells records cs → h ≤ 0 → (cs ≡ []) × (h ≡ 0)
none_left (no_choice open_there) lowest = (refl, refl)
none_left (one_choice at-h few_cells few_records rest) lowest = absurd (omega arith)

module _ {g : Setting} (given : Given g) where
  pub limit_few : g.limit ≤ 4096
  limit_few = omega (arith, given.limit_is, (accepted_keeps g.file g.program given.checked).steps_limit)

  pub stack_small : g.stack ≤ 1000000
  stack_small = omega (arith, given.stack_is, limit_few)

  module _ {w : List ℕ} {h : ℕ} {c : Choice} (at-h : ChoiceAt g w h c) where
    pub height_small : h ≤ 4096
    height_small = omega (arith, at-h.no_higher, at-h.in_time, limit_few)

    pub long : length w ≡ work_words g.limit
    long = sym (reopened_length g w h) ∙ at-h.path.long

    pub cells_small : choice_word g.stack w h 4 ≤ 1000000
    cells_small = omega (arith, cells_fit at-h, long, limit_few)

    pub cell_small : choice_word g.stack w h 0 ≤ 1000000
    cell_small = omega (arith, cell_below at-h, cells_small)

    -- the constructors left, as the search for the next one has them
    left_are :
        untried (map (type_at g.file) g.types) g.least (cell_word w (choice_word g.stack w h 0) 2) (cell_word w (choice_word g.stack w h 0) 3) (cell_word w (choice_word g.stack w h 0) 0)
        ≡ c.untried
    left_are =
        rw (← given.file_of.types_there, given.least_are)
        (untried_padded (least_depths g.program.types) g.program.types _ _ _ ∙ sym at-h.untried_are)

    -- a choice point without a constructor left
    pub exhausted :
        NextForkAt g.file g.types g.least g.stack w h None
        → c.untried ≡ []
    exhausted none = sym left_are ∙ none

    -- one with a constructor left
    pub next_found :
        (next : Candidate)
        → NextForkAt g.file g.types g.least g.stack w h (Some next)
        → NextAt g w c h next.number next.fields.at next.fields.count
    next_found next (untried_is, known, deep, from, near, few, small) = record {
      choice_at = at-h;
      rest = untried g.program.types (least_depths g.program.types) (cell_word w (choice_word g.stack w h 0) 2) (cell_word w (choice_word g.stack w h 0) 3) (suc next.number);
      untried_is =
          sym left_are ∙ untried_is
          ∙ ap (λ fs. record { constructor = next.number; fields = next.fields.count } ∷ fs)
          (rw (← given.file_of.types_there, given.least_are) (untried_padded (least_depths g.program.types) g.program.types _ _ _));
      rest_is = refl;
      known = rw given.file_of.types_there known;
      deep = deep;
      from = from;
      small = small;
      near = near;
    }

-- the return, by what the last choice point has left
return_on : (p : Program) (table : List ℕ) (c : Choice) (cs : List Choice) (es : List Entry) → c.untried ≡ [] → return p table (c ∷ cs) es ≡ return p table cs es
unfolding return
return_on p table c cs es none = rw none

return_here :
    (p : Program) (table : List ℕ) (c : Choice) (f : Fork) (rest : List Fork) (cs : List Choice) (es : List Entry) → c.untried ≡ f ∷ rest
    → return p table (c ∷ cs) es ≡ take_fork p table c f rest cs es
unfolding return
return_here p table c f rest cs es left =
    ap (λ (fs : List Fork). elim fs [ [] ↦ return p table cs es | h ∷ hs ↦ take_fork p table c h hs cs es ]) left

return_none : (p : Program) (table : List ℕ) (es : List Entry) → return p table [] es ≡ behind [] es
unfolding return
return_none p table es = refl

-- The return came from the beginning to this height.
module _ (file types least w₀ : List ℕ) (stack height : ℕ) where
  pub record Came (g : Setting) (cs : List Choice) (w : List ℕ) (h : ℕ) : Type 0 where
    pub cells : ℕ
    pub records : ℕ
    pub choices : List Choice
    pub choices_at_law : ChoicesAt g w h cells records choices
    pub returns : (es : List Entry) → return g.program (least_depths g.program.types) cs es ≡ return g.program (least_depths g.program.types) choices es
    pub no_heavier : weight stack g.limit w h ≤ weight stack g.limit w₀ height
    pub no_higher : h ≤ height

  abbrev pub CameTo : List ℕ → ℕ → Type 0
  CameTo w h =
      (functions : List ℕ) (p : Program) (limit base cells records : ℕ) (cs : List Choice) → Given (setting file types functions least p limit base stack)
      → ChoicesAt (setting file types functions least p limit base stack) w₀ height cells records cs
      → Came (setting file types functions least p limit base stack) cs w h

  pub came_first : CameTo w₀ height
  came_first functions p limit base cells records cs given at_first =
      record { cells = cells; records = records; choices = cs; choices_at_law = at_first; returns = λ es. refl; no_heavier = omega arith; no_higher = omega arith }

  module _ (w : List ℕ) (h : ℕ) (came : CameTo w h) where
    pub came_some : SomeChoices file types least w₀ stack height → SomeChoices file types least w stack h
    came_some (functions, p, limit, base, cells, records, cs, given, at_first) =
        let now = came functions p limit base cells records cs given at_first in
        (functions, p, limit, base, now.cells, now.records, now.choices, given, now.choices_at_law)

    -- the numbers of the last choice point are small
    pub came_bounds :
        SomeChoices file types least w₀ stack height → 0 < h
        → (stack ≤ 1000000) × (h - 1 ≤ 1000000) × (choice_word stack w (h - 1) 0 ≤ 1000000) × (5 * choice_word stack w (h - 1) 0 + 1 < length w)
    came_bounds (functions, p, limit, base, cells, records, cs, given, at_first) higher =
        let last = last_choice (came functions p limit base cells records cs given at_first).choices_at_law higher in
        (stack_small given, omega (arith, height_small given last.choice_at), cell_small given last.choice_at, cell_fits last.choice_at)

    -- the last choice point has no constructor left, and is dropped
    came_back :
        NextForkAt file types least stack w (h - 1) None
        → 0 < h → CameTo (reopened stack w (h - 1)) (h - 1)
    came_back none higher functions p limit base cells records cs given at_first =
        let now = came functions p limit base cells records cs given at_first in
        let last = last_choice now.choices_at_law higher in
        let one : suc (h - 1) ≡ h = omega arith in
        record {
          cells = choice_word stack w (h - 1) 4;
          records = choice_word stack w (h - 1) 3;
          choices = last.before;
          choices_at_law = last.before_at;
          returns = λ es. now.returns es ∙ ap (λ ds. return p (least_depths p.types) ds es) last.choices_are ∙ (return_on p (least_depths p.types) last.choice last.before es (exhausted given last.choice_at none));
          no_heavier = omega (arith, weight_dropped stack limit w (h - 1), ap (weight stack limit w) one, now.no_heavier);
          no_higher = omega (arith, now.no_higher);
        }

    -- or it has, and is the one that the return leads to
    came_to :
        (found : Candidate)
        → NextForkAt file types least stack w (h - 1) (Some found)
        → 0 < h → length w ≡ length w₀ → Returns file types least w₀ w stack height (Some (record { to = h - 1; next = found }))
    came_to found told higher same_length functions p limit base cells records cs given at_first =
        let now = came functions p limit base cells records cs given at_first in
        let last = last_choice now.choices_at_law higher in
        let next = next_found given last.choice_at found told in
        let one : suc (h - 1) ≡ h = omega arith in (
          same_length,
          record {
            lower = omega (arith, now.no_higher);
            choice = last.choice;
            before = last.before;
            next_at = next;
            before_at = last.before_at;
            returns = λ es. now.returns es ∙ ap (λ ds. return p (least_depths p.types) ds es) last.choices_are ∙ (return_here p (least_depths p.types) last.choice (record { constructor = found.number; fields = found.fields.count }) next.rest last.before es next.untried_is);
            no_heavier = omega (arith, ap (weight stack limit w) one, now.no_heavier);
          },
        )

    -- or there is none
    pub came_nowhere : h ≤ 0 → length w ≡ length w₀ → Returns file types least w₀ w stack height None
    came_nowhere lowest same_length functions p limit base cells records cs given at_first =
        let now = came functions p limit base cells records cs given at_first in
        let none = none_left now.choices_at_law lowest in
        let g = setting file types functions least p limit base stack in
        let at_none : ChoicesAt g w 0 now.cells now.records [] =
        subst (λ m. ChoicesAt g w m now.cells now.records []) none.1 (subst (λ ds. ChoicesAt g w h now.cells now.records ds) none.0 now.choices_at_law) in
        (same_length, (λ es. now.returns es ∙ ap (λ ds. return p (least_depths p.types) ds es) none.0 ∙ return_none p (least_depths p.types) es, (now.cells, now.records, at_none)))

    -- the same by what `candidate` answers
    module _ {a : Option Candidate} (answer : NextForkAt file types least stack w (h - 1) a) (higher : 0 < h) where
      pub drops : {w' : List ℕ} → a ≡ None → w' ≡ reopened stack w (h - 1) → CameTo w' (h - 1)
      drops is written = rw written (came_back (subst (NextForkAt file types least stack w (h - 1)) is answer) higher)

      pub leads : {next : Candidate} → a ≡ Some next → length w ≡ length w₀ → Returns file types least w₀ w stack height (Some (record { to = h - 1; next = next }))
      leads {next} is same_length = came_to next (subst (NextForkAt file types least stack w (h - 1)) is answer) higher same_length
