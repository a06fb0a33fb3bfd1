-- A path arrives at its state and goes on to its end: what `arrive` does is what the model does in as many moves, by what the last look found.
-- Rests on specs/Moving and on choices' Keeping, Pushing, Taking and Weights.
use Prim.Native.Nat.{ℕ, zero, suc, ◌+◌, ◌*◌, ◌-◌, ◌≤◌, ◌<◌}
use mathlib.Core.Path.{◌≡◌, refl, sym, ◌∙◌, ap, subst}
use mathlib.Core.List.{List, [], ◌∷◌, ◌++◌, append-nil}
use native.Mathlib.Omega.{arith}
use lib.ListN.{length}
use Rattle.reach.specs.Syntax.{Program}
use Rattle.reach.specs.Parts.{Parts, at, There}
use Rattle.reach.specs.Types.{least_depths}
use Rattle.reach.specs.Eval as Eval
use Rattle.reach.specs.Eval.{State, Question}
use Rattle.std.specs.Prelude.{Option, Some, None}
use Rattle.reach.specs.declared.Kind.{Kind}
use Rattle.reach.specs.declared.Kind.TheVariants.{RE, UN, MI}
use Rattle.reach.specs.Search.{Entry, listing, branches}
use Rattle.reach.specs.Moves as Model
use Rattle.reach.specs.Moves.{Choice}
use Rattle.reach.proofs.Evaluation.{waits_free}
use Rattle.machine.specs.Cells.{cell_of}
use Rattle.machine.proofs.Cells.{kept_cells}
use Rattle.registers.specs.declared.Registers.{Registers}
use Rattle.registers.specs.declared.Next.{Next}
use Rattle.registers.specs.Stepping.{Standing, StepMeans, Stepped}
use Rattle.steps.specs.Running.{StepsTo, no_step, one_more}
use Rattle.points.specs.Points.{Pushes}
use Rattle.choices.specs.Choices.{Setting, Given, Path, ChoicesAt}
use Rattle.choices.specs.Weights.{power, weight}
use Rattle.choices.proofs.Keeping.{choices_kept, choices_more}
use Rattle.choices.proofs.Pushing.{new_choice, choices_pushed}
use Rattle.choices.proofs.Taking.{step_kept, path_stays, path_goes}
use Rattle.choices.proofs.Weights.{power_positive, power_more, weight_kept, weight_pushed}
use Rattle.choices.proofs.Returning.{limit_few}
use Rattle.arriving.specs.declared.Moved.{Moved}
use Rattle.arriving.specs.Moving.{ended_walk, UnderWay, EntryIn, PathLists, Makes}

-- The model's arrival, by what comes next.
module _ (p : Program) (table : List ℕ) (left n : ℕ) (e : Parts) (s : State) (cs : List Choice) (es : List Entry) where
  -- at an end it is over with what that lists, however many steps are left
  ends :
      (N : Eval.Next) (end : Option Kind)
      → ((go : State → Model.Walk) (fork : Question → Model.Walk) → Model.settle go fork n e cs es N ≡ Model.behind cs (es ++ listing end n e))
      → Eval.next p e s ≡ N → Model.arrive p table left n e s cs es ≡ Model.behind cs (es ++ listing end n e)
  unfolding Model.arrive
  ends N end settles next = by_left left
    where
      by_left : (l : ℕ) → Model.arrive p table l n e s cs es ≡ Model.behind cs (es ++ listing end n e)
      by_left zero = rw next (settles _ _)
      by_left (suc l) = rw next (settles _ _)

  demanded : Eval.next p e s ≡ Eval.demands → Model.arrive p table left n e s cs es ≡ Model.behind cs (es ++ listing (Some RE) n e)
  unfolding Model.settle
  demanded = ends Eval.demands (Some RE) (λ go fork. refl)

  lacked : Eval.next p e s ≡ Eval.lacks → Model.arrive p table left n e s cs es ≡ Model.behind cs (es ++ listing (Some MI) n e)
  unfolding Model.settle
  lacked = ends Eval.lacks (Some MI) (λ go fork. refl)

  stopped : (why : Eval.Stop) → Eval.next p e s ≡ Eval.stops why → Model.arrive p table left n e s cs es ≡ Model.behind cs (es ++ listing None n e)
  unfolding Model.settle
  stopped why = ends (Eval.stops why) None (λ go fork. refl)

  gone_on :
      (l : ℕ) (s' : State) → left ≡ suc l → Eval.next p e s ≡ Eval.goes s'
      → Model.arrive p table left n e s cs es
      ≡ record { position = Model.on (record { state = s'; left = l; done = suc n; input = e }); choices = cs; listed = es }
  unfolding Model.arrive Model.settle
  gone_on l s' more next = rw (more, next)

  forked :
      (l : ℕ) (q : Question) → left ≡ suc l → Eval.next p e s ≡ Eval.waits q
      → Model.arrive p table left n e s cs es
      ≡ Model.behind (record { question = q; left = l; done = suc n; input = e; untried = branches p table e q } ∷ cs) (es ++ [])
  unfolding Model.arrive Model.settle
  forked l q more next = rw (more, next, append-nil es)

  spent_going : (s' : State) → left ≡ zero → Eval.next p e s ≡ Eval.goes s' → Model.arrive p table left n e s cs es ≡ Model.behind cs (es ++ (record { kind = UN; steps = n; input = e } ∷ []))
  unfolding Model.arrive Model.settle
  spent_going s' none next = rw (none, next)

  spent_waiting : (q : Question) → left ≡ zero → Eval.next p e s ≡ Eval.waits q → Model.arrive p table left n e s cs es ≡ Model.behind cs (es ++ (record { kind = UN; steps = n; input = e } ∷ []))
  unfolding Model.arrive Model.settle
  spent_waiting q none next = rw (none, next)

-- what `over` answers
abbrev pub ended : ℕ → ℕ → ℕ → Option Kind → Moved
ended cells done height listing = record { walk = ended_walk cells done height; listing = listing }

-- what stands for a path under way is what a step asks
pub step_standing :
    {g : Setting} {w : List ℕ} {cells done binds : ℕ} {r : Registers} {e : Parts} {s : State} → Given g → Path g w cells done binds r e s
    → Standing g.file g.types g.functions w g.base r
step_standing {g} {cells = cells} {e = e} {s} given path =
    record { program = g.program; cells = cells; input = e; state = s; file_of = given.file_of; stands = path.stands }

-- A path to which the model was led by so many moves from its first arrival on.
pub record Led
    (g : Setting) (w₀ : List ℕ) (bound : ℕ) (first : List Entry → Model.Walk) (w : List ℕ) (cells done height : ℕ) (r : Registers) (e : Parts) (s : State)
    (cs : List Choice)
    : Type 0 where
  pub under : UnderWay g w cells done height r e s cs
  pub made : ℕ
  pub model_is : (es : List Entry)
      → Model.moves g.program (least_depths g.program.types) made (first es) ≡ Model.arrive g.program (least_depths g.program.types) (g.limit - done) done e s cs es
  pub no_heavier : power (g.limit - done) + weight g.stack g.limit w height ≤ bound
  pub same_length : length w ≡ length w₀

-- no move, and one more
pub moves_none : (p : Program) (table : List ℕ) (x : Model.Walk) → Model.moves p table 0 x ≡ x
unfolding Model.moves
moves_none p table x = refl

moves_more : (p : Program) (table : List ℕ) (n : ℕ) (x : Model.Walk) → Model.moves p table (suc n) x ≡ Model.move p table (Model.moves p table n x)
unfolding Model.moves
moves_more p table zero x = refl
moves_more p table (suc n) x = moves_more p table n (Model.move p table x)

on_arrives :
    (p : Program) (table : List ℕ) (s : State) (left done : ℕ) (e : Parts) (cs : List Choice) (es : List Entry)
    → Model.move p table (record { position = Model.on (record { state = s; left = left; done = done; input = e }); choices = cs; listed = es })
    ≡ Model.arrive p table left done e s cs es
unfolding Model.move Model.move_from
on_arrives p table s left done e cs es = refl

module _
    {g : Setting} (given : Given g) {w₀ : List ℕ} {bound : ℕ} {first : List Entry → Model.Walk} {w : List ℕ} {cells done height : ℕ} {r : Registers} {e : Parts}
    {s : State} {cs : List Choice} (led : Led g w₀ bound first w cells done height r e s cs) {label : ℕ} (sought : label ≡ g.program.label) {w' : List ℕ} {n : Next}
    (stepped : Stepped g.file g.types g.functions w w' g.base label r n)
  where
    abbrev now : UnderWay g w cells done height r e s cs
    now = led.under

    abbrev model : List Entry → Model.Walk
    model = Model.arrive g.program (least_depths g.program.types) (g.limit - done) done e s cs

    means : (n' : Next) → n ≡ n' → StepMeans g.file g.types g.functions w w' g.base r g.program e s n'
    means n' is =
        subst (StepMeans g.file g.types g.functions w w' g.base r g.program e s) is
        (stepped.steps g.program sought cells e s given.file_of now.path.stands)

    choices_stay : ChoicesAt g w' height cells r.records cs
    choices_stay = choices_kept w' now.choices (step_kept given now.path now.in_time stepped.only_top height)

    weight_stays : weight g.stack g.limit w' height ≡ weight g.stack g.limit w height
    weight_stays = weight_kept w' now.choices (step_kept given now.path now.in_time stepped.only_top height)

    path_now : Path g w' cells done done r e s
    path_now = path_stays given now.path now.in_time stepped.only_top

    -- behind the end of the path
    behind :
        (listing : Option Kind) (new : List Entry) → ((es : List Entry) → model es ≡ Model.behind cs (es ++ new))
        → PathLists g w' (ended cells done height listing).walk listing new → Makes g w₀ w' bound (ended cells done height listing) first
    behind listing new model_is lists = record {
      position = Model.over;
      choices = cs;
      new = new;
      more = led.made;
      model_is = λ es. led.model_is es ∙ model_is es;
      stands = (cells, r.records, choices_stay);
      lists = lists;
      lighter = omega (arith, weight_stays, power_positive (g.limit - done), led.no_heavier);
      same_length = stepped.only_top.same_length ∙ led.same_length;
    }

    entry_in : (kind : Kind) → EntryIn g w' (ended cells done height None).walk kind (record { kind = kind; steps = done; input = e } ∷ [])
    entry_in kind = (e, refl, path_now.stands.input, path_now.typed)

    pub arrive_demands : n ≡ Next.Demands → Makes g w₀ w' bound (ended cells done height (Some RE)) first
    arrive_demands is =
        behind (Some RE) _ (λ es. demanded g.program _ (g.limit - done) done e s cs es (means Next.Demands is)) (entry_in RE)

    pub arrive_lacks : n ≡ Next.Lacks → Makes g w₀ w' bound (ended cells done height (Some MI)) first
    arrive_lacks is =
        behind (Some MI) _ (λ es. lacked g.program _ (g.limit - done) done e s cs es (means Next.Lacks is)) (entry_in MI)

    pub arrive_stops : n ≡ Next.Stops → Makes g w₀ w' bound (ended cells done height None) first
    arrive_stops is =
        let (why, next) = means Next.Stops is in
        behind None [] (λ es. stopped g.program _ (g.limit - done) done e s cs es why next) refl

    -- the steps are used up
    module _ (late : g.limit ≤ done) where
      none : g.limit - done ≡ zero
      none = omega arith

      pub arrive_spent_going : {to : Registers} → n ≡ Next.Goes to → Makes g w₀ w' bound (ended cells done height (Some UN)) first
      arrive_spent_going {to} is =
          let (s', next, follows) = means (Next.Goes to) is in
          behind (Some UN) _ (λ es. spent_going g.program _ (g.limit - done) done e s cs es s' none next) (entry_in UN)

      pub arrive_spent_waiting : {x : ℕ} → n ≡ Next.Waits x → Makes g w₀ w' bound (ended cells done height (Some UN)) first
      arrive_spent_waiting {x} is =
          let (q, next, cell) = means (Next.Waits x) is in
          behind (Some UN) _ (λ es. spent_waiting g.program _ (g.limit - done) done e s cs es q none next) (entry_in UN)

    -- or not
    module _ (in_time : done < g.limit) where
      more : g.limit - done ≡ suc (g.limit - suc done)
      more = omega arith

      -- one step more
      pub led_on : {to : Registers} → n ≡ Next.Goes to → (s' : State) × Led g w₀ bound first w' cells (suc done) height to e s' cs
      led_on {to} is =
          let (s', next, follows) = means (Next.Goes to) is in
          let path = path_goes given now.path now.in_time stepped.only_top follows next in (
            s',
            record {
              under = record {
                path = record { stands = path.stands; typed = path.typed; steps = path.steps; few_cells = omega (arith, path.few_cells); few_records = path.few_records; long = path.long };
                in_time = omega arith;
                no_higher = omega (arith, now.no_higher);
                choices = choices_more (omega arith) follows.no_fewer choices_stay;
              };
              made = suc led.made;
              model_is = λ es.
                  moves_more g.program _ led.made (first es)
                  ∙ ap (Model.move g.program (least_depths g.program.types))
                  (led.model_is es ∙ gone_on g.program _ (g.limit - done) done e s cs es (g.limit - suc done) s' more next)
                  ∙ on_arrives g.program _ s' (g.limit - suc done) (suc done) e cs es;
              no_heavier = omega (arith, weight_stays, ap power more, power_more (g.limit - suc done), led.no_heavier);
              same_length = stepped.only_top.same_length ∙ led.same_length;
            },
          )

      -- a choice point
      module _ {x : ℕ} (is : n ≡ Next.Waits x) where
        asked : (q : Question) × (Eval.next g.program e s ≡ Eval.waits q) × (cell_of w q.place ≡ x)
        asked = means (Next.Waits x) is

        cell_now : cell_of w' asked.0.place ≡ x
        cell_now =
            let there : There (at e asked.0.place) = subst There (sym (waits_free g.program e s asked.0 asked.1)) tt in
            (kept_cells w' now.path.stands.input path_now.stands.input.fits (step_kept given now.path now.in_time stepped.only_top height).cells_kept).0
            asked.0.place there
            ∙ asked.2

        below : x < cells
        below =
            let there : There (at e asked.0.place) = subst There (sym (waits_free g.program e s asked.0 asked.1)) tt in
            rw (← asked.2) (now.path.stands.input.in_use asked.0.place there)

        -- there is room for it, and the numbers that it keeps are small
        pub push_bounds :
            ((g.stack + 6 * (height + 1) ≤ length w') × (x ≤ 1000000) × (5 * x + 1 < g.stack))
            × ((r.frame < 4294967296) × (r.records < 4294967296) × (cells < 4294967296) × (done < 4294967296))
        push_bounds =
            let few = limit_few given in
            let long = path_now.long in
            let low = now.path.stands.apart in
            let cells-few = now.path.few_cells in
            let records-few = now.path.few_records in
            let framed = now.path.stands.space.frame_below.1 in
            let lower = now.no_higher in
            let used = below in
            let base_is = given.base_is in
            let stack_is = given.stack_is in
            ((omega arith, omega arith, omega arith), (omega arith, omega arith, omega arith, omega arith))

        pub arrive_waits :
            {w'' : List ℕ} → Pushes g.stack w' w'' height x r.frame r.records cells done
            → Makes g w₀ w'' bound (ended cells done (height + 1) None) first
        arrive_waits {w''} pushes =
            let one : height + 1 ≡ suc height = omega arith in
            let high = choices_pushed given path_now in_time now.no_higher asked.1 cell_now pushes choices_stay in
            record {
              position = Model.over;
              choices = new_choice g asked.0 done e ∷ cs;
              new = [];
              more = led.made;
              model_is = λ es. led.model_is es ∙ forked g.program _ (g.limit - done) done e s cs es (g.limit - suc done) asked.0 more asked.1;
              stands = (cells, r.records, rw one high);
              lists = refl;
              lighter = rw one (omega (arith, led.no_heavier, weight_stays, weight_pushed given path_now in_time now.no_higher asked.1 cell_now pushes choices_stay));
              same_length = pushes.same_length ∙ stepped.only_top.same_length ∙ led.same_length;
            }

-- The path under way, and those to which steps lead from it.
module _
    {g : Setting} (given : Given g) {w : List ℕ} {cells done height : ℕ} {r : Registers} {e : Parts} {s : State} {cs : List Choice}
    (now : UnderWay g w cells done height r e s cs) {label : ℕ} (sought : label ≡ g.program.label)
  where
    abbrev bound : ℕ
    bound = power (g.limit - done) + weight g.stack g.limit w height

    abbrev arrival : List Entry → Model.Walk
    arrival = Model.arrive g.program (least_depths g.program.types) (g.limit - done) done e s cs

    led_first : Led g w bound arrival w cells done height r e s cs
    led_first = record { under = now; made = 0; model_is = λ es. moves_none g.program _ (arrival es); no_heavier = omega arith; same_length = refl }

    -- some state to which so many steps lead
    abbrev LedBy : ℕ → List ℕ → Registers → Type 0
    LedBy n w₁ r₁ = (s₁ : State) × Led g w bound arrival w₁ cells (done + n) height r₁ e s₁ cs

    led_none : LedBy 0 w r
    led_none = let z : done + 0 ≡ done = omega arith in rw z (s, led_first)

    led_more :
        (n : ℕ) {w₁ w₂ : List ℕ} {r₁ r₂ : Registers} → LedBy n w₁ r₁ → Stepped g.file g.types g.functions w₁ w₂ g.base label r₁ (Next.Goes r₂)
        → done + suc n ≤ g.limit → LedBy (suc n) w₂ r₂
    led_more n (s₁, led) stepped in_time =
        let z : done + suc n ≡ suc (done + n) = omega arith in
        rw z (led_on given led sought stepped (omega arith) refl)

    pub led_by :
        {n : ℕ} {w₁ : List ℕ} {r₁ : Registers} → StepsTo g.file g.types g.functions label g.base n w r w₁ r₁ → done + n ≤ g.limit
        → LedBy n w₁ r₁
    led_by no_step in_time = led_none
    led_by (one_more {n = n} before stepped) in_time = led_more n (led_by before (omega arith)) stepped in_time

    -- so a step may be made there
    pub led_standing :
        {n : ℕ} {w₁ : List ℕ} {r₁ : Registers} → n ≤ g.limit - done → StepsTo g.file g.types g.functions label g.base n w r w₁ r₁
        → Standing g.file g.types g.functions w₁ g.base r₁
    led_standing {n} few steps = let (s₁, led) = led_by steps (omega (arith, now.in_time)) in step_standing given led.under.path
