-- An accepted program never gets stuck: from the source's start on any input of the source's types, closed or partial, every number that
-- a step follows names something, every constructor meets a case on its own type, and its fields are as many as the alternative expects.
-- Every state that is reached is typed; each step keeps it so.
-- Rests on specs/States, on WellTyped and Slots, and on Eval and Types.
use Prim.Native.Nat.{ℕ, zero, suc, ◌+◌, ◌-◌, ◌<◌, zero-le}
use mathlib.Core.Path.{◌≡◌, refl, sym, ◌∙◌, ap, subst}
use mathlib.Core.Bool.{Bool, true, false}
use mathlib.Core.List.{List, [], ◌∷◌, ◌++◌, map, head?, tail}
use mathlib.Core.Option.{Option, none, some, some-injective, none-ne-some}
use lib.ListN.{length, get_or, get_elem?, length-append}
use lib.Dec.{ltb, eqb, leb-suc-suc}
use native.Mathlib.Omega.{arith}
use borrow.Author.Tests.{lt-ltb, le-ltb}
use Rattle.reach.specs.States.{Steps, no_step, one_more, PartHas, CaseOn, Chooses, Sound}
use Rattle.reach.specs.Base.{pick}
use Rattle.reach.specs.Syntax.{Expr, variable, call, construct, case, let_in, target, Exprs, []ₑ, ◌∷ₑ◌, count, nth_expr, Alternatives, no_more, absent, present, Types, Program, field_types, function_at, parameters_of, source_types}
use Rattle.reach.specs.Parts.{Parts, end, opened, bound, Place, here, after, inside, part, within, Seen, gone, free, has, at, There}
use Rattle.reach.specs.Types.{Typed, Slot, slot_types, source_slots, field_slots, slot_at}
use Rattle.reach.specs.Encoding.{count_alternatives}
use Rattle.reach.specs.Eval.{Row, parameters, fields_of, part_of, Env, empty, operands, input_parts, size, Closure, suspended, input_part, suspend, lookup, Frame, waiting, fields, with_fields, State, evaluating, inspecting, uncovered, stuck, resume, choose, enter, Question, answered, Stop, value, unknown, Next, demands, lacks, stops, goes, waits, view, look, answer, next, Run, reached, ended, unfinished, missing, halted, conclude, eval, start_of, start, run}
use Rattle.reach.specs.Answers.{accepted, check}
use Rattle.reach.proofs.Order.{constructor_of, arity_of, free_unbound}
use Rattle.reach.proofs.Slots.{types_nth, part_slot, field_types_law, source_types_law}
use Rattle.reach.proofs.Depths.{typed_width}
use Rattle.reach.specs.Typing.{Signature, signature_of, signatures, HasType, HaveTypes, Covers, WellTyped}
use Rattle.reach.proofs.WellTyped.{at_below, at_get_d, accepted_typed}

-- Lists, and what expressions and alternatives of given types number.

append_at : {A : Type 0} (xs ys : List A) (n : ℕ) → get_elem? (xs ++ ys) n ≡ pick (ltb n (length xs)) (get_elem? xs n) (get_elem? ys (n - length xs))
append_at [] ys n =
    let z : n - 0 ≡ n = omega arith in
    rw (le-ltb n 0 zero-le, z)
append_at (x ∷ xs) ys zero = rw (lt-ltb 0 (suc (length xs)) (omega arith))
append_at (x ∷ xs) ys (suc n) =
    let z : suc n - suc (length xs) ≡ n - length xs = omega arith in
    rw (z, leb-suc-suc (suc n) (length xs)) (append_at xs ys n)

map_from : {A B : Type 0} (f : A → B) (xs : List A) (n : ℕ) (y : B) → get_elem? (map f xs) n ≡ some y → (x : A) × (get_elem? xs n ≡ some x) × (f x ≡ y)
map_from f [] n y e = absurd (none-ne-some y e)
map_from f (x ∷ xs) zero y e = (x, refl, some-injective (f x) y e)
map_from f (x ∷ xs) (suc n) y e = map_from f xs n y e

count_is : (p : Program) (es : Exprs) (view ts : List ℕ) → HaveTypes p.types (signatures p) es view ts → count es ≡ length ts
unfolding count
count_is p []ₑ view [] h = refl
count_is p []ₑ view (t ∷ ts) h = absurd h
count_is p (e ∷ₑ es) view [] h = absurd h
count_is p (e ∷ₑ es) view (t ∷ ts) h = ap suc (count_is p es view ts h.1)

many_is :
    (p : Program) (alts : Alternatives) (view : List ℕ) (cs : List (List ℕ)) (r : ℕ)
    → Covers p.types (signatures p) alts view cs r → count_alternatives alts ≡ length cs
unfolding count_alternatives
many_is p no_more view [] r h = refl
many_is p no_more view (us ∷ cs) r h = absurd h
many_is p (absent alts) view [] r h = absurd h
many_is p (absent alts) view (us ∷ cs) r h = ap suc (many_is p alts view cs r h)
many_is p (present e alts) view [] r h = absurd h
many_is p (present e alts) view (us ∷ cs) r h = ap suc (many_is p alts view cs r h.1)

-- The parts of an input of these types stand in slots of these types, and the fields of a bound part in slots of its constructor's.
module _ (types : Types) where
  -- what has a slot is there
  pub slot_there : (e : Parts) (q : Place) (ss : List Slot) (s : Slot) → slot_at types e q ss ≡ some s → There (at e q)
  unfolding slot_at at
  slot_there end q ss s g = absurd (none-ne-some s g)
  slot_there (opened r) here ss s g = tt
  slot_there (opened r) (after q) ss s g = slot_there r q (tail ss) s g
  slot_there (opened r) (inside q) ss s g = absurd (none-ne-some s g)
  slot_there (bound c fs r) here ss s g = tt
  slot_there (bound c fs r) (after q) ss s g = slot_there r q (tail ss) s g
  slot_there (bound c fs r) (inside q) ss s g = slot_there fs q (field_slots types (head? ss) c) s g

  -- part n of a row stands in a slot of its type
  slot_part :
      (ss : List Slot) (e : Parts) → Typed types (slot_types ss) e → (n t : ℕ) → get_elem? (slot_types ss) n ≡ some t
      → (d : ℕ) × (slot_at types e (part n) ss ≡ some (record { type = t; room = d }))
  slot_part ss e h n t g =
      let (d, there) = types_nth ss n t g in
      (d, part_slot types e n ss (omega (arith, typed_width types (slot_types ss) e h, (at_get_d (slot_types ss) n 0 t g).0)) ∙ there)

  -- the fields of the part at q, which has constructor c with k fields and stands in slot s, have slots of their types
  abbrev FieldSlots : (ss : List Slot) (e : Parts) (q : Place) (s : Slot) (c k : ℕ) → Type 0
  FieldSlots ss e q s c k =
      (us : List ℕ) × (field_types types s.type c ≡ some us) × (k ≡ length us)
      × ((n t : ℕ) → get_elem? us n ≡ some t → (d : ℕ) × (slot_at types e (within q (part n)) ss ≡ some (record { type = t; room = d })))

  slot_field :
      (ss : List Slot) (e : Parts) → Typed types (slot_types ss) e → (q : Place) (s : Slot) (c k : ℕ) → slot_at types e q ss ≡ some s
      → at e q ≡ has c k → FieldSlots ss e q s c k
  unfolding slot_at slot_types at within
  slot_field [] end h q s c k g w = absurd (none-ne-some s g)
  slot_field [] (opened r) h q s c k g w = absurd h
  slot_field [] (bound b fs r) h q s c k g w = absurd h
  slot_field (u ∷ ss) end h q s c k g w = absurd h
  slot_field (u ∷ ss) (opened r) h here s c k g w = absurd (free_unbound w)
  slot_field (u ∷ ss) (opened r) h (after q) s c k g w = slot_field ss r h q s c k g w
  slot_field (u ∷ ss) (opened r) h (inside q) s c k g w = absurd (none-ne-some s g)
  slot_field (u ∷ ss) (bound b fs r) h here s c k g w =
      let fields = field_types_law types u b h.0 h.1 in
      rw (← some-injective _ _ g, ← ap constructor_of w, ← ap arity_of w)
      (h.0, h.1, typed_width types h.0 fs h.2, λ n t e. slot_part (field_slots types (some u) b) fs (rw fields h.2) n t (rw fields e))
  slot_field (u ∷ ss) (bound b fs r) h (after q) s c k g w = slot_field ss r h.3 q s c k g w
  slot_field (u ∷ ss) (bound b fs r) h (inside q) s c k g w =
      slot_field (field_slots types (some u) b) fs (rw (field_types_law types u b h.0 h.1) h.2) q s c k g w

-- The typing of states, in a program and on an input.
module _ (p : Program) (i : Parts) where
  -- each part of the row is there, and of its type
  abbrev RowHas : Row → List ℕ → Type 0
  RowHas row us = (n t : ℕ) → get_elem? us n ≡ some t → PartHas p i (part_of row n) t

  -- the variables of the environment have these types
  abbrev pub EnvHas : Env → List ℕ → Type 0
  EnvHas empty view = view ≡ []
  EnvHas (operands outer es inner) view =
      (vs us ws : List ℕ) × (view ≡ vs ++ us) × EnvHas outer vs × EnvHas inner ws × HaveTypes p.types (signatures p) es ws us
  EnvHas (input_parts outer row k) view = (vs us : List ℕ) × (view ≡ vs ++ us) × EnvHas outer vs × (k ≡ length us) × RowHas row us

  -- what a variable stands for is there, and has this type
  abbrev ClosureHas : ℕ → Option Closure → Type 0
  ClosureHas t none = ⊥
  ClosureHas t (some (suspended e env)) = (view : List ℕ) × EnvHas env view × HasType p.types (signatures p) e view t
  ClosureHas t (some (input_part q)) = PartHas p i q t

  -- the innermost frame waits for a value of this type, each other for what the frame before it yields; fields wait for a result of any type
  abbrev pub FramesHave : List Frame → ℕ → Type 0
  FramesHave [] t = Unit {0}
  FramesHave (waiting alts env ∷ fs) t =
      (view : List ℕ) × (r : ℕ) × EnvHas env view × Covers p.types (signatures p) alts view (get_or p.types t []) r × FramesHave fs r
  FramesHave (fields x xs env ∷ fs) t =
      (view us : List ℕ) × EnvHas env view × HaveTypes p.types (signatures p) (x ∷ₑ xs) view us × ((r : ℕ) → FramesHave fs r)

  -- a state is typed, and not stuck
  abbrev pub StateHas : State → Type 0
  StateHas (evaluating e env fs) = (view : List ℕ) × (t : ℕ) × EnvHas env view × HasType p.types (signatures p) e view t × FramesHave fs t
  StateHas (inspecting q fs) = (t : ℕ) × PartHas p i q t × FramesHave fs t
  StateHas uncovered = Unit {0}
  StateHas stuck = ⊥

  -- what comes next is typed, and no end at a number that names nothing
  abbrev NextHas : Next → Type 0
  NextHas demands = Unit {0}
  NextHas lacks = Unit {0}
  NextHas (stops value) = Unit {0}
  NextHas (stops unknown) = ⊥
  NextHas (goes s) = StateHas s
  NextHas (waits q) = (t : ℕ) × PartHas p i q.place t × FramesHave (waiting q.alternatives q.environment ∷ q.frames) t

  -- an environment has a variable for each type
  pub size_is : (env : Env) (view : List ℕ) → EnvHas env view → size env ≡ length view
  unfolding size
  size_is empty view h = rw h
  size_is (operands outer es inner) view h =
      omega (arith, size_is outer h.0 h.4, count_is p es h.2 h.1 h.6, length-append h.0 h.1, ap length h.3)
  size_is (input_parts outer row k) view h = omega (arith, size_is outer h.0 h.3, h.4, length-append h.0 h.1, ap length h.2)

  -- a variable of a longer view is one of those in view before or one of the new ones
  grown :
      (outer : Env) (vs us : List ℕ) (n t : ℕ) (x : Option Closure) → EnvHas outer vs → (get_elem? vs n ≡ some t → ClosureHas t (lookup outer n))
      → (get_elem? us (n - size outer) ≡ some t → ClosureHas t x) → get_elem? (vs ++ us) n ≡ some t
      → ClosureHas t (pick (ltb n (size outer)) (lookup outer n) x)
  grown outer vs us n t x h old new e = by_test (ltb n (size outer)) (sym (rw (size_is outer vs h) (append_at vs us n)) ∙ e)
    where
      by_test : (test : Bool) → pick test (get_elem? vs n) (get_elem? us (n - size outer)) ≡ some t → ClosureHas t (pick test (lookup outer n) x)
      by_test true g = old g
      by_test false g = new g

  operand_has :
      (es : Exprs) (inner : Env) (ws us : List ℕ) (n t : ℕ) → EnvHas inner ws → HaveTypes p.types (signatures p) es ws us
      → get_elem? us n ≡ some t → ClosureHas t (suspend (nth_expr es n) inner)
  unfolding suspend nth_expr
  operand_has []ₑ inner ws [] n t g h e = absurd (none-ne-some t e)
  operand_has []ₑ inner ws (u ∷ us) n t g h e = absurd h
  operand_has (x ∷ₑ es) inner ws [] n t g h e = absurd h
  operand_has (x ∷ₑ es) inner ws (u ∷ us) zero t g h e = (ws, g, subst (HasType p.types (signatures p) x ws) (some-injective u t e) h.0)
  operand_has (x ∷ₑ es) inner ws (u ∷ us) (suc n) t g h e = operand_has es inner ws us n t g h.1 e

  -- a variable in view stands for something of its type
  lookup_has : (env : Env) (view : List ℕ) (n t : ℕ) → EnvHas env view → get_elem? view n ≡ some t → ClosureHas t (lookup env n)
  unfolding lookup
  lookup_has empty view n t h e = absurd (none-ne-some t (rw h at e))
  lookup_has (operands outer es inner) view n t h e =
      grown outer h.0 h.1 n t _ h.4 (λ g. lookup_has outer h.0 n t h.4 g)
      (λ g. operand_has es inner h.2 h.1 (n - size outer) t h.5 h.6 g) (rw h.3 at e)
  lookup_has (input_parts outer row k) view n t h e =
      grown outer h.0 h.1 n t _ h.3 (λ g. lookup_has outer h.0 n t h.3 g) in_row (rw h.2 at e)
    where
      in_row : get_elem? h.1 (n - size outer) ≡ some t → ClosureHas t (pick {A = Option Closure} (ltb (n - size outer) k) (some (input_part (part_of row (n - size outer)))) none)
      in_row g =
          let there : n - size outer < k = omega (arith, (at_get_d h.1 (n - size outer) 0 t g).0, h.4) in
          rw (lt-ltb (n - size outer) k there) (h.5 (n - size outer) t g)

  resume_has : (c : Option Closure) (fs : List Frame) (t : ℕ) → ClosureHas t c → FramesHave fs t → StateHas (resume c fs)
  unfolding resume
  resume_has none fs t h g = absurd h
  resume_has (some (suspended e env)) fs t h g = (h.0, t, h.1, h.2, g)
  resume_has (some (input_part q)) fs t h g = (t, h, g)

  -- there is an alternative for each constructor of the case's type, or its absence, and the fields come in the number and types it sees
  choose_has :
      (alts : Alternatives) (c : ℕ) (env : Env) (fs : List Frame) (view us : List ℕ) (cs : List (List ℕ)) (r : ℕ)
      → Covers p.types (signatures p) alts view cs r → get_elem? cs c ≡ some us → EnvHas env (view ++ us) → FramesHave fs r
      → StateHas (choose alts c env fs)
  unfolding choose
  choose_has no_more c env fs view us [] r h e g k = absurd (none-ne-some us e)
  choose_has no_more c env fs view us (vs ∷ cs) r h e g k = absurd h
  choose_has (absent alts) c env fs view us [] r h e g k = absurd h
  choose_has (absent alts) zero env fs view us (vs ∷ cs) r h e g k = tt
  choose_has (absent alts) (suc c) env fs view us (vs ∷ cs) r h e g k = choose_has alts c env fs view us cs r h e g k
  choose_has (present x alts) c env fs view us [] r h e g k = absurd h
  choose_has (present x alts) zero env fs view us (vs ∷ cs) r h e g k =
      let same : view ++ vs ≡ view ++ us = ap (◌++◌ view) (some-injective vs us e) in
      (view ++ us, r, g, rw same at h.0, k)
  choose_has (present x alts) (suc c) env fs view us (vs ∷ cs) r h e g k = choose_has alts c env fs view us cs r h.1 e g k

  -- fields that wait are typed in their environment, and what waits behind them waits for a result of any type
  behind_have :
      (es : Exprs) (env : Env) (fs : List Frame) (view us : List ℕ) → EnvHas env view → HaveTypes p.types (signatures p) es view us
      → ((r : ℕ) → FramesHave fs r) → (t : ℕ) → FramesHave (with_fields es env fs) t
  unfolding with_fields
  behind_have []ₑ env fs view us h k l t = l t
  behind_have (x ∷ₑ es) env fs view us h k l t = (view, us, h, k, l)

  turn_has :
      (x : Expr) (xs : Exprs) (env : Env) (fs : List Frame) (view us : List ℕ) → EnvHas env view → HaveTypes p.types (signatures p) (x ∷ₑ xs) view us
      → ((r : ℕ) → FramesHave fs r) → StateHas (evaluating x env (with_fields xs env fs))
  turn_has x xs env fs view [] h k l = absurd k
  turn_has x xs env fs view (u ∷ us) h k l = (view, u, h, k.0, behind_have xs env fs view us h k.1 l u)

  module _ (typed : WellTyped p) where
    enter_has :
        (f : ℕ) (es : Exprs) (env : Env) (fs : List Frame) (g : Signature) (view : List ℕ) → EnvHas env view → get_elem? (signatures p) f ≡ some g
        → HaveTypes p.types (signatures p) es view g.parameters → FramesHave fs g.result → StateHas (enter (function_at p f) es env fs)
    unfolding enter function_at
    enter_has f es env fs g view h e k l =
        let (x, there, same) = map_from signature_of p.functions f g e in
        let arguments = subst (λ (s : Signature). HaveTypes p.types (signatures p) es view s.parameters) (sym same) k in
        let frames = subst (λ (s : Signature). FramesHave fs s.result) (sym same) l in
        rw there
        (x.parameters, x.result, ([], x.parameters, view, refl, refl, h, arguments), (typed.functions_typed f x there).2, frames)

    view_has : (s : State) → StateHas s → NextHas (view p s)
    unfolding view field_types
    view_has (evaluating (variable n) env fs) (vs, t, h, e, g) = resume_has (lookup env n) fs t (lookup_has env vs n t h e) g
    view_has (evaluating (call f es) env fs) h = enter_has f es env fs h.3.0 h.0 h.2 h.3.1 h.3.3 (subst (FramesHave fs) (sym h.3.2) h.4)
    view_has (evaluating (construct u c []ₑ) env []) h = tt
    view_has (evaluating (construct u c (x ∷ₑ es)) env []) (ws, t, h, (us, e, same, k), l) = turn_has x es env [] ws us h k (λ r. tt)
    view_has (evaluating (construct u c []ₑ) env (fields y ys outer ∷ fs)) (ws, t, h, k, (vs, us, g, m, l)) = turn_has y ys outer fs vs us g m l
    view_has (evaluating (construct u c (x ∷ₑ es)) env (fields y ys outer ∷ fs)) (ws, t, h, (us, e, same, k), l) =
        turn_has x es env (fields y ys outer ∷ fs) ws us h k (λ r. l)
    view_has (evaluating (construct u c es) env (waiting alts outer ∷ fs)) (ws, t, h, (us, e, same, k), (vs, r, g, covers, l)) =
        choose_has alts c (operands outer es env) fs vs us (get_or p.types t []) r covers (rw same at e) (vs, us, ws, refl, g, h, k) l
    view_has (evaluating (case u e alts) env fs) h = (h.0, u, h.2, h.3.1, (h.0, h.1, h.2, h.3.2, h.4))
    view_has (evaluating (let_in u e body) env fs) h = (h.0 ++ (u ∷ []), h.1, (h.0, u ∷ [], h.0, refl, h.2, h.2, (h.3.1, tt)), h.3.2, h.4)
    view_has (evaluating (target l e) env fs) h = picked (eqb l p.label) h
      where
        picked : (test : Bool) → StateHas (evaluating e env fs) → NextHas (pick test demands (goes (evaluating e env fs)))
        picked true k = tt
        picked false k = k
    view_has (inspecting q []) h = tt
    view_has (inspecting q (fields y ys outer ∷ fs)) (t, place, (vs, us, g, m, l)) = turn_has y ys outer fs vs us g m l
    view_has (inspecting q (waiting alts env ∷ fs)) h = h
    view_has uncovered h = tt
    view_has stuck h = absurd h

  module _ (input : Typed p.types (source_types p) i) where
    -- the fields of a bound part are as many as its constructor has, and of their types
    part_fields :
        (q : Place) (t c k : ℕ) → PartHas p i q t → at i q ≡ has c k
        → (us : List ℕ) × (field_types p.types t c ≡ some us) × (k ≡ length us) × RowHas (fields_of q) us
    unfolding part_of
    part_fields q t c k h w = slot_field p.types (source_slots p) i (rw (source_types_law p) input) q _ c k h.1 w

    answer_has : (N : Next) → NextHas N → NextHas (answer i N)
    unfolding answer look answered field_types
    answer_has demands h = tt
    answer_has lacks h = tt
    answer_has (stops why) h = h
    answer_has (goes s) h = h
    answer_has (waits q) h = seen (at i q.place) refl
      where
        seen : (x : Seen) → at i q.place ≡ x → NextHas (look q x)
        seen gone w = subst There w (slot_there p.types i q.place (source_slots p) _ h.1.1)
        seen free w = h
        seen (has c k) w =
            let (t, place, (vs, r, g, covers, l)) = h in
            let (us, e, many, row) = part_fields q.place t c k place w in
            choose_has q.alternatives c _ q.frames vs us (get_or p.types t []) r covers e (vs, us, refl, g, many, row) l

    -- each step keeps a state typed
    next_has : WellTyped p → (s : State) → StateHas s → NextHas (next p i s)
    unfolding next
    next_has typed s h = answer_has (view p s) (view_has typed s h)

    -- the parameters are there, and of the source's types
    source_has : RowHas parameters (source_types p)
    unfolding part_of
    source_has n t e = slot_part p.types (source_slots p) i (rw (source_types_law p) input) n t (rw (source_types_law p) e)

    start_has : WellTyped p → StateHas (start p)
    unfolding start start_of source_types function_at
    start_has typed =
        let (g, there) = at_below p.functions p.source typed.source_exists in
        let same : source_types p ≡ g.parameters = ap parameters_of there in
        let row = subst (RowHas parameters) same source_has in
        rw there
        (g.parameters, g.result, ([], g.parameters, refl, refl, refl, row), (typed.functions_typed p.source g there).2, tt)

-- From the typing of a state to what is met there.
module _ (p : Program) (i : Parts) where
  case_on :
      (t : ℕ) (alts : Alternatives) (env : Env) (vs : List ℕ) (r : ℕ) → EnvHas p i env vs
      → Covers p.types (signatures p) alts vs (get_or p.types t []) r → CaseOn p t alts env
  case_on t alts env vs r h covers =
      record { variables = vs; result = r; in_view = size_is p i env vs h; covers = covers; as_many = many_is p alts vs (get_or p.types t []) r covers }

  chooses :
      (t c : ℕ) (us : List ℕ) (alts : Alternatives) (outer inner : Env) → CaseOn p t alts outer → field_types p.types t c ≡ some us
      → size inner ≡ size outer + length us → Chooses p t c alts outer inner
  unfolding field_types
  chooses t c us alts outer inner on e agree =
      record {
        fields = us;
        constructor_exists = e;
        within_alternatives = omega (arith, on.as_many, (at_get_d (get_or p.types t []) c [] us e).0);
        fields_agree = agree;
      }

  closure_there : (t : ℕ) (c : Option Closure) → ClosureHas p i t c → (x : Closure) × (c ≡ some x)
  closure_there t none h = absurd h
  closure_there t (some x) h = (x, refl)

  has_sound : Typed p.types (source_types p) i → (s : State) → StateHas p i s → Sound p i s
  unfolding function_at size
  has_sound input (evaluating (variable n) env fs) (vs, t, h, e, g) = closure_there t (lookup env n) (lookup_has p i env vs n t h e)
  has_sound input (evaluating (call f es) env fs) (vs, t, h, (g, e, same, k), l) =
      let (x, there, of-it) = map_from signature_of p.functions f g e in
      (x, there, count_is p es vs g.parameters k ∙ ap (λ (s : Signature). length s.parameters) (sym of-it))
  has_sound input (evaluating (construct u c es) env []) h = tt
  has_sound input (evaluating (construct u c es) env (fields y ys outer ∷ fs)) h = tt
  has_sound input (evaluating (construct u c es) env (waiting alts outer ∷ fs)) (ws, t, h, (us, e, same, k), (vs, r, g, covers, l)) =
      let on = case_on u alts outer vs r g (rw same covers) in
      (on, chooses u c us alts outer (operands outer es env) on e (ap (◌+◌ (size outer)) (count_is p es ws us k)))
  has_sound input (evaluating (case u e alts) env fs) (vs, t, h, (exists, k, covers), l) = case_on u alts env vs t h covers
  has_sound input (evaluating (let_in u e body) env fs) h = tt
  has_sound input (evaluating (target l e) env fs) h = tt
  has_sound input (inspecting q []) h = (h.0, h.1)
  has_sound input (inspecting q (fields y ys outer ∷ fs)) h = (h.0, h.1)
  has_sound input (inspecting q (waiting alts outer ∷ fs)) (t, place, (vs, r, g, covers, l)) = (t, place, on, met)
    where
      on : CaseOn p t alts outer
      on = case_on t alts outer vs r g covers

      met : (c k : ℕ) → at i q ≡ has c k → Chooses p t c alts outer (input_parts outer (fields_of q) k)
      met c k w =
          let (us, e, many, row) = part_fields p i input q t c k place w in
          chooses t c us alts outer (input_parts outer (fields_of q) k) on e (ap (◌+◌ (size outer)) many)
  has_sound input uncovered h = tt
  has_sound input stuck h = absurd h

-- "ended": a constructor or a part of the input with no case and no field waiting
abbrev pub Met : Stop → Type 0
Met why = why ≡ value

abbrev EndMet : Run → Type 0
EndMet (reached n) = Unit {0}
EndMet (ended why n) = Met why
EndMet (unfinished n) = Unit {0}
EndMet (missing n) = Unit {0}
EndMet (halted q n) = Unit {0}

module _ (file : List ℕ) (p : Program) (h : check file ≡ accepted p) (i : Parts) (input : Typed p.types (source_types p) i) where
  -- every state that is reached is typed
  steps_has : {n : ℕ} {s : State} → Steps p i n s → StateHas p i s
  steps_has no_step = start_has p i input (accepted_typed file p h)
  steps_has (one_more {s = s} before e) = subst (NextHas p i) e (next_has p i input (accepted_typed file p h) s (steps_has before))

  comes_typed : {n : ℕ} {s : State} → Steps p i n s → NextHas p i (next p i s)
  comes_typed {s = s} before = next_has p i input (accepted_typed file p h) s (steps_has before)

  -- so whatever a step meets is there, in the right number, and of the right type
  pub steps_sound : {n : ℕ} {s : State} → Steps p i n s → Sound p i s
  steps_sound {s = s} before = has_sound p i input s (steps_has before)

  -- no state that is reached is stuck; and where a case waits on an input part, it is a case on that part's type
  pub never_stuck :
      {n : ℕ} {s : State} → Steps p i n s
      → (¬ (s ≡ stuck)) × ((q : Question) → next p i s ≡ waits q → (t : ℕ) × PartHas p i q.place t × CaseOn p t q.alternatives q.environment)
  never_stuck before = (
    λ e. subst (Sound p i) e (steps_sound before),
    λ q e. let (t, place, (vs, r, g, covers, l)) = subst (NextHas p i) e (comes_typed before) in
        (t, place, case_on p i t q.alternatives q.environment vs r g covers),
  )

  -- where an evaluation stops it has met a value
  pub stops_means : {n : ℕ} {s : State} → Steps p i n s → (why : Stop) → next p i s ≡ stops why → Met why
  stops_means before why e = by_cause why (subst (NextHas p i) e (comes_typed before))
    where
      by_cause : (why : Stop) → NextHas p i (stops why) → Met why
      by_cause value k = refl
      by_cause unknown k = absurd k

  concluded :
      {n : ℕ} {s : State} → Steps p i n s → (go : State → Run) (wait : Question → Run) → ((s' : State) → next p i s ≡ goes s' → EndMet (go s'))
      → ((q : Question) → EndMet (wait q)) → EndMet (conclude go wait n (next p i s))
  unfolding conclude
  concluded {n} {s} before go wait on halts = by_next (next p i s) refl
    where
      by_next : (N : Next) → next p i s ≡ N → EndMet (conclude go wait n N)
      by_next demands e = tt
      by_next lacks e = tt
      by_next (stops why) e = stops_means before why e
      by_next (goes s') e = on s' e
      by_next (waits q) e = halts q

  eval_means : (left : ℕ) {n : ℕ} {s : State} → Steps p i n s → EndMet (eval p i left n s)
  unfolding eval
  eval_means zero before = concluded before _ _ (λ s' e. tt) (λ q. tt)
  eval_means (suc left) before = concluded before _ _ (λ s' e. eval_means left (one_more before e)) (λ q. tt)

  -- a run that ended did so at a value
  pub ended_means : (why : Stop) (n : ℕ) → run p i ≡ ended why n → Met why
  unfolding run
  ended_means why n e = subst EndMet e (eval_means p.steps no_step)
