-- One move: the path that the search goes on with, by where it stands: the one under way, or behind its end the one to which it returns, or none;
-- and the arrival of that path.
-- Rests on arriving's Moving and Arriving, and on choices' Returning and Weights.
use Prim.Native.Nat.{ℕ, ◌-◌, ◌<◌}
use mathlib.Core.Path.{◌≡◌, refl, sym, ◌∙◌, ap, subst}
use mathlib.Core.List.{List, [], append-nil}
use native.Mathlib.Omega.{arith}
use lib.ListN.{length}
use Rattle.std.specs.Prelude.{Option, Some, None}
use Rattle.reach.specs.Syntax.{Program}
use Rattle.reach.specs.Types.{least_depths}
use Rattle.reach.specs.Search.{Entry}
use Rattle.reach.specs.Moves as Model
use Rattle.reach.specs.Moves.{Choice, move_from, return}
use Rattle.registers.specs.declared.Registers.{Registers}
use Rattle.choices.specs.declared.Return.{Return}
use Rattle.choices.specs.Choices.{Given, ChoicesAt}
use Rattle.choices.specs.Weights.{power, weight}
use Rattle.choices.specs.Returning.{setting, ReturnMeans, Returns, SomeChoices}
use Rattle.choices.proofs.Weights.{weight_some}
use Rattle.arriving.specs.declared.Walk.{Walk}
use Rattle.arriving.specs.declared.Moved.{Moved}
use Rattle.arriving.specs.Moving.{ended_walk, PositionAt, StandsAs, position_weight, walk_weight, OnPath, ResumesAt, SomeUnderWay, Arrives, SomeForking, Takes, ActiveAt, Active, Resumable, Resumes, SearchStands, Moves}
use Rattle.arriving.proofs.Arriving.{ended, moves_none}

move_over : (p : Program) (table : List ℕ) (cs : List Choice) (es : List Entry) → move_from p table Model.over cs es ≡ return p table cs es
unfolding move_from
move_over p table cs es = refl

move_on :
    (p : Program) (table : List ℕ) (x : Model.Going) (left done : ℕ) (cs : List Choice) (es : List Entry) → x.left ≡ left → x.done ≡ done
    → move_from p table (Model.on x) cs es ≡ Model.arrive p table left done x.input x.state cs es
unfolding move_from
move_on p table x left done cs es is-left is-done =
    ap (λ (l : ℕ). Model.arrive p table l x.done x.input x.state cs es) is-left ∙ ap (λ (d : ℕ). Model.arrive p table left d x.input x.state cs es) is-done

-- The path that the search goes on with.
module _ (file types functions least : List ℕ) (w : List ℕ) (base stack : ℕ) (x : Walk) where
  -- Behind the end of a path.
  module _ (is-over : x.registers ≡ None) where
    -- there are choice points
    behind :
        (p : Program) (limit : ℕ) (at : Model.Position) (cs : List Choice) → StandsAs (setting file types functions least p limit base stack) w x at cs
        → (at ≡ Model.over) × ((some : ℕ) × (records : ℕ) × ChoicesAt (setting file types functions least p limit base stack) w x.height some records cs)
    behind p limit at cs stands =
        by_position at (subst (λ y. PositionAt (setting file types functions least p limit base stack) w x.cells x.done x.height y at cs) is-over stands)
      where
        by_position :
            (y : Model.Position) → PositionAt (setting file types functions least p limit base stack) w x.cells x.done x.height None y cs
            → (y ≡ Model.over) × ((some : ℕ) × (records : ℕ) × ChoicesAt (setting file types functions least p limit base stack) w x.height some records cs)
        by_position (Model.on z) none = absurd none
        by_position Model.over there = (refl, there)

    pub back_some : Resumable file types functions least w base stack x → SomeChoices file types least w stack x.height
    back_some (p, limit, at, cs, given, stands) =
        let (is, (some, records, choices)) = behind p limit at cs stands in
        (functions, p, limit, base, some, records, cs, given, choices)

    module _ (w₁ : List ℕ) (found : Option Return) (returned : Returns file types least w w₁ stack x.height found) where
      -- what the return means
      back_means :
          (found' : Option Return) → found ≡ found' → (p : Program) (limit : ℕ) (at : Model.Position) (cs : List Choice)
          → Given (setting file types functions least p limit base stack) → StandsAs (setting file types functions least p limit base stack) w x at cs
          → (length w₁ ≡ length w) × ReturnMeans (setting file types functions least p limit base stack) w w₁ x.height cs found'
      back_means found' is p limit at cs given stands =
          let (over, (some, records, choices)) = behind p limit at cs stands in
          let (same_length, means) = returned functions p limit base some records cs given choices in
          (same_length, subst (ReturnMeans (setting file types functions least p limit base stack) w w₁ x.height cs) is means)

      -- no choice point has a constructor left: the search is over
      pub back_nowhere : found ≡ None → Active x → Resumes file types functions least w w₁ base stack x (ended_walk x.cells x.done 0)
      back_nowhere is active p limit at cs given stands =
          let (over, there) = behind p limit at cs stands in
          let (same_length, (returns, (some, records, none))) = back_means None is p limit at cs given stands in
          let higher : 0 < x.height = subst (λ y. ActiveAt y x.height) is-over active in
          let light : weight stack limit w₁ 0 ≡ 0 = unfold weight in refl in
          record {
            position = Model.over;
            choices = [];
            new = [];
            more = 0;
            model_is = λ es.
                moves_none p _ (move_from p (least_depths p.types) at cs es) ∙ ap (λ y. move_from p (least_depths p.types) y cs es) over ∙ move_over p (least_depths p.types) cs es ∙ returns es
                ∙ ap (λ zs. Model.behind [] zs) (sym (append-nil es));
            stands = (some, records, none);
            lists = refl;
            lighter = omega (arith, weight_some stack limit w x.height higher);
            same_length = same_length;
          }

      -- a choice point takes its next constructor
      module _ {fork : Return} (is : found ≡ Some fork) where
        pub back_forking : Resumable file types functions least w base stack x → SomeForking file types functions w₁ base stack fork.to fork.next.number fork.next.fields.at fork.next.fields.count
        back_forking (p, limit, at, cs, given, stands) =
            let (same_length, to) = back_means (Some fork) is p limit at cs given stands in
            (least, p, limit, given, record { choice = to.choice; before = to.before; next_at = to.next_at; before_at = to.before_at })

        pub back_taken :
            {w₂ : List ℕ} {x' : Walk} → Takes file types functions w₁ w₂ base stack fork.to fork.next.number fork.next.fields.at fork.next.fields.count x'
            → Resumes file types functions least w w₂ base stack x x'
        back_taken {w₂} {x'} (r, one, takes) p limit at cs given stands =
            let (over, there) = behind p limit at cs stands in
            let (same_length, to) = back_means (Some fork) is p limit at cs given stands in
            let comes = takes least p limit given (record { choice = to.choice; before = to.before; next_at = to.next_at; before_at = to.before_at }) in
            subst
            (ResumesAt (setting file types functions least p limit base stack) w w₂ (walk_weight stack limit w x) x' (move_from p (least_depths p.types) at cs))
            (sym one)
            (record {
              input = comes.input;
              state = comes.state;
              choices = comes.choices;
              under = comes.under;
              model_is = λ es.
                  ap (λ y. move_from p (least_depths p.types) y cs es) over ∙ move_over p (least_depths p.types) cs es ∙ to.returns es ∙ comes.model_is es;
              no_heavier = omega (arith, comes.no_heavier, to.no_heavier);
              same_length = comes.same_length ∙ same_length;
            })

  -- On a path: it is the path under way.
  pub on_resumes : {r : Registers} → x.registers ≡ Some r → Resumes file types functions least w w base stack x x
  on_resumes {r} is_on p limit at cs given stands =
      subst (ResumesAt (setting file types functions least p limit base stack) w w (walk_weight stack limit w x) x (move_from p (least_depths p.types) at cs)) (sym is_on)
      (by_position at (subst (λ y. PositionAt (setting file types functions least p limit base stack) w x.cells x.done x.height y at cs) is_on stands))
    where
      by_position :
          (y : Model.Position) → PositionAt (setting file types functions least p limit base stack) w x.cells x.done x.height (Some r) y cs
          → OnPath (setting file types functions least p limit base stack) w w (walk_weight stack limit w x) x (move_from p (least_depths p.types) y cs) r
      by_position (Model.on z) (done_is, left_is, under) =
          let heavy : position_weight limit x.done x.registers ≡ power (limit - x.done) = ap (position_weight limit x.done) is_on in
          record {
            input = z.input;
            state = z.state;
            choices = cs;
            under = under;
            model_is = λ es. move_on p (least_depths p.types) z (limit - x.done) x.done cs es left_is done_is;
            no_heavier = omega arith;
            same_length = refl;
          }
      by_position Model.over none = absurd none

-- The move: that path arrives.
module _
    (file types functions least : List ℕ) (label : ℕ) (w w₁ : List ℕ) (limit base stack : ℕ) (x x₁ : Walk)
    (resumes : Resumes file types functions least w w₁ base stack x x₁)
  where
    -- what the search goes on with, by where that stands
    resumed :
        (on : Option Registers) → x₁.registers ≡ on → (p : Program) (at : Model.Position) (cs : List Choice)
        → Given (setting file types functions least p limit base stack) → StandsAs (setting file types functions least p limit base stack) w x at cs
        → ResumesAt (setting file types functions least p limit base stack) w w₁ (walk_weight stack limit w x) x₁ (move_from p (least_depths p.types) at cs) on
    resumed on is p at cs given stands =
        subst (ResumesAt (setting file types functions least p limit base stack) w w₁ (walk_weight stack limit w x) x₁ (move_from p (least_depths p.types) at cs))
        is (resumes p limit at cs given stands)

    -- there is none
    pub none_moves : x₁.registers ≡ None → Moves file types functions least label w w₁ limit base stack x (ended x₁.cells x₁.done x₁.height None)
    none_moves is p at cs given sought stands = resumed None is p at cs given stands

    module _ {r : Registers} (is : x₁.registers ≡ Some r) where
      pub on_some : SearchStands file types functions least label w limit base stack x → SomeUnderWay file types functions label w₁ limit base stack x₁.cells x₁.done x₁.height r
      on_some (p, at, cs, given, sought, stands) =
          let comes = resumed (Some r) is p at cs given stands in
          (least, p, comes.input, comes.state, comes.choices, given, sought, comes.under)

      pub on_moves :
          {w₂ : List ℕ} {m : Moved} → Arrives file types functions label w₁ w₂ limit base stack x₁.cells x₁.done x₁.height r m
          → Moves file types functions least label w w₂ limit base stack x m
      on_moves arrives p at cs given sought stands =
          let comes = resumed (Some r) is p at cs given stands in
          let makes = arrives least p comes.input comes.state comes.choices given sought comes.under in
          record {
            position = makes.position;
            choices = makes.choices;
            new = makes.new;
            more = makes.more;
            model_is = λ es. ap (Model.moves p (least_depths p.types) makes.more) (comes.model_is es) ∙ makes.model_is es;
            stands = makes.stands;
            lists = makes.lists;
            lighter = omega (arith, makes.lighter, comes.no_heavier);
            same_length = makes.same_length ∙ comes.same_length;
          }
