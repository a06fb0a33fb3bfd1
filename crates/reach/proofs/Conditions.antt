-- The check answers under exactly the conditions of specs/Conditions: a file is accepted where it passes every test, and turned back by the test that it
-- fails first. So each refusal has its own condition, and which passes can give it.
-- Rests on Stages for the order of the tests, on Numbers for the second pass, on LeastDepths for the table, on Heads for the functions of the heads, and
-- on Refusals; for the one depth that GO gives on Limits and Slots.
use Prim.Native.Nat.{ℕ, zero, suc, ◌≤◌, ◌<◌}
use native.Mathlib.Omega.{arith}
use mathlib.Core.Path.{◌≡◌, refl, sym, ◌∙◌, ap, subst}
use mathlib.Core.Logic.{◌⊎◌, inl, inr, ⊎_elim, ◌↔◌}
use mathlib.Core.Bool.{Bool, true, false, ◌||◌, false≢true, and-true}
use mathlib.Core.List.Memᴰ
use mathlib.Core.List.{List, [], ◌∷◌, ◌++◌}
use mathlib.Core.Option.{Option, none, some}
use lib.ListN.{length, get_or, get_elem?}
use lib.Dec.{leb, eqb}
use borrow.Author.Tests.{eqb-false}
use Rattle.reach.specs.declared.Refusal.{Refusal}
use Rattle.reach.specs.declared.Refusal.TheVariants.{Truncated, UnexpectedMark, OutOfRange, UnknownNumber, UnknownCode, TypeMismatch, TrailingBytes, EmptyType, DepthTooSmall, BadSpelling}
use Rattle.reach.specs.Base.{◌∈◌}
use Rattle.reach.specs.Words.{number_of}
use Rattle.reach.specs.Limits.{file_limit, parameter_limit}
use Rattle.reach.specs.Syntax.{Expr, Types, Function, Program, function_at, parameters_of, source_types}
use Rattle.reach.specs.Parts.{Parts}
use Rattle.reach.specs.Types.{Slot, slots, even_slots, source_slots, depth_of, ValueOf, LeastDepth, least_depths, shallow, roomy}
use Rattle.reach.specs.Names.{Spells, spells}
use Rattle.reach.specs.Reader.{Got, got, refused, on_got}
use Rattle.reach.specs.RuleFile.{Head, Declarations, Outline, outline, numbers_exist, body_of, functions_of, program_of, no_empty_type, deep_enough, well_spelled}
use Rattle.reach.specs.Answers.{Checked, accepted, turned_back, check}
use Rattle.reach.specs.Conditions.{FileTooLong, FirstPassFinds, FirstPassRefuses, of_parameter, AllNumbersExist, SomeNumberMissing, SecondPassRefuses, BodyReads, AllBodiesRead, SomeBodyRefused, ThirdPassRefuses, Passes}
use Rattle.reach.specs.Conditions.{AllTypesInhabited, SomeTypeEmpty, Hollow, SourceParameter, SourceSlot, AllParametersFit, SomeParameterTooDeep, Shallow, NamesSpelled, NamesOtherwise, Misspelled, Acceptable, RefusedBy, by_size, by_first_pass, by_second_pass, by_third_pass, by_empty_type, by_depth, by_spelling}
use Rattle.reach.proofs.Base.{clash, nth_member, each_member}
use Rattle.reach.proofs.Tests.{Tells, passes, fails, tells_as, passes_exactly, fails_exactly, tells_both, All, Some, all_more, tells_none, tells_more, ltb_tells, leb_tells}
use Rattle.reach.proofs.Numbers.{named_tells, numbers_tell, numbers_exist_exactly, number_missing_exactly}
use Rattle.reach.proofs.Slots.{slots_member, even_slots_law, even_each, member_even}
use Rattle.reach.proofs.Limits.{IfFound, HeadKept, OutlineKept, outline_kept}
use Rattle.reach.proofs.Spelling.{spells_tells}
use Rattle.reach.proofs.WellTyped.{at_below, at_get_d}
use Rattle.reach.proofs.LeastDepths.{rounds_length, least_depth_values, no_value}
use Rattle.reach.proofs.Heads.{Heads, function_at_head, head_of, heads_are}
use Rattle.reach.proofs.Stages.{size_refused, outline_refused, numbers_refused, bodies_refused, empty_refused, depth_refused, spelling_refused, file_accepted}
use Rattle.reach.proofs.Refusals.{first_pass_gives, body_gives}

-- ---- the third pass

module _ (d : Declarations) (s : List ℕ) where
  -- the first body of these that is refused
  abbrev FirstRefused : List Head → Refusal → Type 0
  FirstRefused hs why =
      (before : List Head) × (h : Head) × (after : List Head) × (hs ≡ before ++ (h ∷ after)) × ((k : Head) → k ∈ before → BodyReads s d k)
      × (body_of d h s ≡ refused why)

  abbrev BodiesTell : List Head → Got (List Function) → Type 0
  BodiesTell hs (got fs next) = All (BodyReads s d) hs
  BodiesTell hs (refused why) = FirstRefused hs why

  -- one more body that is read before these
  one_more : (h : Head) (hs : List Head) → BodyReads s d h → (f : List Function → List Function) (g : Got (List Function)) → BodiesTell hs g
      → BodiesTell (h ∷ hs) (on_got {B = Got (List Function)} (λ fs next. got (f fs) next) (λ why. refused why) g)
  one_more h hs reads f (got fs next) all = all_more (BodyReads s d) h hs reads all
  one_more h hs reads f (refused why) (before, k, after, are, all, is) =
      (h ∷ before, k, after, ap (λ ks. h ∷ ks) are, all_more (BodyReads s d) h before reads all, is)

  bodies_tell : (hs : List Head) (i : ℕ) → BodiesTell hs (functions_of d hs s i)
  unfolding functions_of
  bodies_tell [] i = λ h m. absurd (Memᴰ.not-nil m)
  bodies_tell (h ∷ hs) i = go (body_of d h s) refl (λ next. bodies_tell hs next)
    where
      go : (g : Got Expr) → body_of d h s ≡ g → ((next : ℕ) → BodiesTell hs (functions_of d hs s next))
          → BodiesTell (h ∷ hs) (on_got {B = Got (List Function)} (λ e next.
          on_got {B = Got (List Function)} (λ fs behind. got (record { parameters = h.parameters; result = h.result; body = e } ∷ fs) behind) (λ why. refused why)
          (functions_of d hs s next)) (λ why. refused why) g)
      go (got e next) is rest = one_more h hs (e, next, is) _ (functions_of d hs s next) (rest next)
      go (refused why) is rest = ([], h, hs, refl, λ k m. absurd (Memᴰ.not-nil m), is)

  -- and that body ends the pass
  refused_first : (before : List Head) (h : Head) (after : List Head) (why : Refusal) → All (BodyReads s d) before → body_of d h s ≡ refused why
      → (i : ℕ) → functions_of d (before ++ (h ∷ after)) s i ≡ refused why
  unfolding functions_of
  refused_first [] h after why all is i = rw is
  refused_first (k ∷ before) h after why all is i =
      let (e, next, reads) = all k (Memᴰ.head refl) in
      rw (reads, refused_first before h after why (λ j m. all j (Memᴰ.tail m)) is next)

  body_refused : (i : ℕ) (why : Refusal) → SomeBodyRefused s d why → functions_of d d.heads s i ≡ refused why
  body_refused i why (before, h, after, are, all, is) = ap (λ hs. functions_of d hs s i) are ∙ refused_first before h after why all is i

  -- where every body is read, the pass gives the functions
  bodies_read_law : (i : ℕ) → AllBodiesRead s d → (fs : List Function) × (next : ℕ) × (functions_of d d.heads s i ≡ got fs next)
  bodies_read_law i all = go (functions_of d d.heads s i) refl (bodies_tell d.heads i)
    where
      go : (g : Got (List Function)) → functions_of d d.heads s i ≡ g → BodiesTell d.heads g
          → (fs : List Function) × (next : ℕ) × (functions_of d d.heads s i ≡ got fs next)
      go (got fs next) is told = (fs, next, is)
      go (refused why) is (before, h, after, are, reads, by) =
          let there : h ∈ d.heads = rw are (Memᴰ.append_right before (Memᴰ.head refl)) in
          let (e, next, read) = all h there in
          absurd (clash (cc (read, by)))

-- ---- the tests of depth

-- the element at a place is a member, and a member has a place
place_member : (xs : List ℕ) (i : ℕ) → i < length xs → get_or xs i 0 ∈ xs
place_member xs i h = let (x, is) = at_below xs i h in rw (at_get_d xs i 0 x is).1 (nth_member xs i x is)

member_place : (xs : List ℕ) (x : ℕ) → x ∈ xs → (i : ℕ) × (i < length xs) × (get_or xs i 0 ≡ x)
member_place [] x m = absurd (Memᴰ.not-nil m)
member_place (y ∷ xs) x m =
    ⊎_elim {C = (i : ℕ) × (i < length (y ∷ xs)) × (get_or (y ∷ xs) i 0 ≡ x)} (λ same. (zero, omega arith, sym same))
    (λ later. let (i, below, is) = member_place xs x later in (suc i, omega (arith, below), is))
    (Memᴰ.cases_cons m)

filled_tells : (ds : List ℕ) → Tells (no_empty_type ds) (All (λ d. 0 < d) ds) (Some (λ d. d ≤ 0) ds)
unfolding no_empty_type
filled_tells [] = tells_none (λ d. 0 < d) (λ d. d ≤ 0)
filled_tells (d ∷ ds) = tells_more (λ d. 0 < d) (λ d. d ≤ 0) d ds (ltb_tells 0 d) (filled_tells ds)

-- by the table the type of a slot has a value that fits there, or not
module _ (table : List ℕ) where
  abbrev ShallowBy : Slot → Type 0
  ShallowBy s = (0 < get_or table s.type 0) × (get_or table s.type 0 ≤ s.room)

  abbrev DeepBy : Slot → Type 0
  DeepBy s = (get_or table s.type 0 ≤ 0) ⊎ (s.room < get_or table s.type 0)

  shallow_tells : (s : Slot) → Tells (shallow table s.room (s.type ∷ [])) (ShallowBy s) (DeepBy s)
  unfolding shallow
  shallow_tells s = rw and-true (tells_both (ltb_tells 0 (get_or table s.type 0)) (leb_tells (get_or table s.type 0) s.room))

  roomy_tells : (ss : List Slot) → Tells (roomy table ss) (All ShallowBy ss) (Some DeepBy ss)
  unfolding roomy
  roomy_tells [] = tells_none ShallowBy DeepBy
  roomy_tells (s ∷ ss) = tells_more ShallowBy DeepBy s ss (shallow_tells s) (roomy_tells ss)

-- a type whose number in the table is above 0 has that least depth
above : (types : Types) (t : ℕ) → 0 < get_or (least_depths types) t 0 → LeastDepth types t (get_or (least_depths types) t 0)
above types t h = go (get_or (least_depths types) t 0) refl h
  where
    go : (d : ℕ) → get_or (least_depths types) t 0 ≡ d → 0 < d → LeastDepth types t d
    go zero is h = absurd (omega (arith, h))
    go (suc d) is h = least_depth_values types t d is

nothing : (types : Types) (t : ℕ) → get_or (least_depths types) t 0 ≤ 0 → (v : Parts) → ¬ ValueOf types t v
nothing types t h = no_value types t (omega (arith, h))

module _ (d : Declarations) where
  table_long : length (least_depths d.types) ≡ length d.types
  unfolding least_depths
  table_long = rounds_length d.types (length d.types)

  types_inhabited_tell : Tells (no_empty_type (least_depths d.types)) (AllTypesInhabited d) (SomeTypeEmpty d)
  types_inhabited_tell =
      tells_as
      (λ all t h. let there = place_member (least_depths d.types) t (omega (arith, h, table_long)) in
      let ((v, value, deep), least) = above d.types t (all _ there) in (v, value))
      (λ (least, m, zero_is). let (t, below, is) = member_place (least_depths d.types) least m in
      (t, omega (arith, below, table_long), nothing d.types t (omega (arith, is, zero_is))))
      (filled_tells (least_depths d.types))

  types_apart : AllTypesInhabited d → SomeTypeEmpty d → ⊥
  types_apart all (t, below, empty) = let (v, value) = all t below in empty v value

module _ (o : Outline) where
  parameters_apart : AllParametersFit o → SomeParameterTooDeep o → ⊥
  parameters_apart all (s, parameter, (d, (there, least), over)) =
      let (e, ((v, value, deep), least-too), fits) = all s parameter in
      omega (arith, least v value, deep, fits, over)

  -- the parameters of the source function are those of its head
  module _ (file : List ℕ) (fs : List Function) (bodies : Heads o.declared.heads fs) where
    parameter_in : (s : Slot) → SourceSlot o s → s ∈ source_slots (program_of o fs)
    unfolding source_slots source_types function_at program_of
    parameter_in s (h, is, m) =
        let (g, g-is, body) = function_at_head o.declared.heads fs bodies o.goal.source h is in
        rw (g-is, body.parameters) m

    in_parameter : (s : Slot) → s ∈ source_slots (program_of o fs) → SourceSlot o s
    unfolding source_slots slots source_types function_at program_of
    in_parameter s m = go (get_elem? fs o.goal.source) refl m
      where
        go : (g : Option Function) → get_elem? fs o.goal.source ≡ g → s ∈ slots (parameters_of g) o.goal.depths → SourceSlot o s
        go none is m = absurd (Memᴰ.not-nil m)
        go (some g) is m =
            let (h, h-is, body) = head_of o.declared.heads fs bodies o.goal.source g is in
            (h, h-is, subst (λ (ts : List ℕ). s ∈ slots ts o.goal.depths) body.parameters m)

    parameters_tell : AllNumbersExist o → AllTypesInhabited o.declared → Tells (deep_enough (program_of o fs)) (AllParametersFit o) (SomeParameterTooDeep o)
    unfolding deep_enough program_of
    parameters_tell exist inhabited =
        tells_as
        (λ all s parameter. let (some-value, few) = all s (parameter_in s parameter) in
        (get_or (least_depths o.declared.types) s.type 0, above o.declared.types s.type some-value, few))
        (λ (s, m, deep). let parameter = in_parameter s m in (s, parameter, too_deep s parameter deep))
        (roomy_tells (least_depths o.declared.types) (source_slots (program_of o fs)))
      where
        too_deep : (s : Slot) → SourceSlot o s → DeepBy (least_depths o.declared.types) s
            → (d : ℕ) × LeastDepth o.declared.types s.type d × (s.room < d)
        too_deep s (h, is, m) (inl empty) =
            let there = slots_member h.parameters o.goal.depths s m in
            let (v, value) = inhabited s.type (exist.0 s.type (of_parameter h (nth_member o.declared.heads o.goal.source h is) there)) in
            absurd (nothing o.declared.types s.type empty v value)
        too_deep s parameter (inr over) =
            (get_or (least_depths o.declared.types) s.type 0, above o.declared.types s.type (omega (arith, over)), over)

-- the same with one depth for all parameters, which GO gives
module _ (file : List ℕ) (o : Outline) (found : FirstPassFinds file o) where
  outlined : OutlineKept o
  outlined = by_found found
    where
      by_found : FirstPassFinds file o → OutlineKept o
      by_found (size, (behind, read)) = subst (IfFound (λ x next. OutlineKept x)) read (outline_kept.found file 0)

  abbrev goal_depth : ℕ
  goal_depth = depth_of o.goal.depths

  slots_alike : (h : Head) → get_elem? o.declared.heads o.goal.source ≡ some h → slots h.parameters o.goal.depths ≡ even_slots h.parameters goal_depth
  slots_alike h is =
      ap (slots h.parameters) outlined.goal.2
      ∙ even_slots_law h.parameters parameter_limit goal_depth (each_member HeadKept outlined.heads_kept (nth_member o.declared.heads o.goal.source h is))

  of_type : (t : ℕ) → SourceParameter o t → SourceSlot o (record { type = t; room = goal_depth })
  of_type t (h, is, m) = (h, is, rw (slots_alike h is) (member_even h.parameters goal_depth t m))

  of_slot : (s : Slot) → SourceSlot o s → SourceParameter o s.type × (s.room ≡ goal_depth)
  of_slot s (h, is, m) =
      let alike = each_member (λ (x : Slot). x.room ≡ goal_depth) (rw (slots_alike h is) (even_each (λ x. x.room ≡ goal_depth) h.parameters goal_depth (λ t. refl))) m in
      ((h, is, slots_member h.parameters o.goal.depths s m), alike)

  pub all_within : AllParametersFit o ↔ ((t : ℕ) → SourceParameter o t → (d : ℕ) × LeastDepth o.declared.types t d × (d ≤ goal_depth))
  all_within = (
    λ all t parameter. all (record { type = t; room = goal_depth }) (of_type t parameter),
    λ all s parameter. let (of, deep) = of_slot s parameter in
        let (d, least, fits) = all s.type of in (d, least, omega (arith, fits, deep)),
  )

  pub some_beyond : SomeParameterTooDeep o ↔ ((t : ℕ) × SourceParameter o t × ((d : ℕ) × LeastDepth o.declared.types t d × (goal_depth < d)))
  some_beyond = (
    λ (s, parameter, (d, least, over)). let (of, deep) = of_slot s parameter in (s.type, of, (d, least, omega (arith, over, deep))),
    λ (t, parameter, over). (record { type = t; room = goal_depth }, of_type t parameter, over),
  )

-- ---- the test of names

module _ (o : Outline) where
  names_tell : Tells (well_spelled o) (NamesSpelled o) (NamesOtherwise o)
  unfolding well_spelled
  names_tell = named_tells (λ t. spells o.declared.types t) (Spells o.declared.types) (λ t. ¬ Spells o.declared.types t) (spells_tells o.declared.types) o.named

  names_apart : NamesSpelled o → NamesOtherwise o → ⊥
  names_apart all (t, is, otherwise) = otherwise (all t is)

-- ---- the whole check

module _ (file : List ℕ) where
  -- what an answer says
  abbrev Means : Checked → Type 0
  Means (accepted p) = Acceptable file
  Means (turned_back why) = RefusedBy file why

  -- the answer, with what it says
  abbrev Answered : Type 0
  Answered = (c : Checked) × (check file ≡ c) × Means c

  module _ (size : length file ≤ file_limit) (o : Outline) (n : ℕ) (read : outline file 0 ≡ got o n) where
    after_bodies : AllNumbersExist o → (fs : List Function) (m : ℕ) → functions_of o.declared o.declared.heads file n ≡ got fs m
        → AllBodiesRead file o.declared → Answered
    after_bodies numbers fs m bodies all = by_types (types_inhabited_tell o.declared)
      where
        exist : numbers_exist o ≡ true
        exist = (numbers_exist_exactly o).1 numbers

        passed : Passes file o
        passed = record { outlined = (size, (n, read)); numbers = numbers; bodies = all }

        by_names : no_empty_type (least_depths o.declared.types) ≡ true → AllTypesInhabited o.declared → deep_enough (program_of o fs) ≡ true
            → AllParametersFit o → Tells (well_spelled o) (NamesSpelled o) (NamesOtherwise o) → Answered
        by_names filled inhabited deep fit (passes well spelled) =
            (accepted (program_of o fs), file_accepted file size read exist bodies filled deep well, (o, passed, inhabited, fit, spelled))
        by_names filled inhabited deep fit (fails ill otherwise) =
            (turned_back BadSpelling, spelling_refused file size read exist bodies filled deep ill, by_spelling refl (o, passed, inhabited, fit, otherwise))

        by_parameters : no_empty_type (least_depths o.declared.types) ≡ true → AllTypesInhabited o.declared
            → Tells (deep_enough (program_of o fs)) (AllParametersFit o) (SomeParameterTooDeep o) → Answered
        by_parameters filled inhabited (passes deep fit) = by_names filled inhabited deep fit (names_tell o)
        by_parameters filled inhabited (fails deep over) =
            (turned_back DepthTooSmall, depth_refused file size read exist bodies filled deep, by_depth refl (o, passed, inhabited, over))

        by_types : Tells (no_empty_type (least_depths o.declared.types)) (AllTypesInhabited o.declared) (SomeTypeEmpty o.declared) → Answered
        by_types (passes filled inhabited) =
            by_parameters filled inhabited (parameters_tell o file fs (heads_are o.declared file o.declared.heads n fs m bodies) numbers inhabited)
        by_types (fails filled empty) = (turned_back EmptyType, empty_refused file size read exist bodies filled, by_empty_type refl (o, passed, empty))

    after_numbers : AllNumbersExist o → (g : Got (List Function)) → functions_of o.declared o.declared.heads file n ≡ g
        → BodiesTell o.declared file o.declared.heads g → Answered
    after_numbers numbers (got fs m) is told = after_bodies numbers fs m is told
    after_numbers numbers (refused why) is told =
        (turned_back why, bodies_refused file size read ((numbers_exist_exactly o).1 numbers) is, by_third_pass (o, (size, (n, read)), numbers, told))

    after_outline : Tells (numbers_exist o) (AllNumbersExist o) (SomeNumberMissing o) → Answered
    after_outline (passes exist numbers) =
        after_numbers numbers (functions_of o.declared o.declared.heads file n) refl (bodies_tell o.declared file o.declared.heads n)
    after_outline (fails exist missing) = (turned_back UnknownNumber, numbers_refused file size read exist, by_second_pass refl (o, (size, (n, read)), missing))

  after_size : length file ≤ file_limit → (g : Got Outline) → outline file 0 ≡ g → Answered
  after_size size (got o n) is = after_outline size o n is (numbers_tell o)
  after_size size (refused why) is = (turned_back why, outline_refused file size is, by_first_pass (size, is))

  answered : Answered
  answered = by_size_test (leb_tells (length file) file_limit)
    where
      by_size_test : Tells (leb (length file) file_limit) (length file ≤ file_limit) (file_limit < length file) → Answered
      by_size_test (passes e size) = after_size size (outline file 0) refl
      by_size_test (fails e long) = (turned_back OutOfRange, size_refused file long, by_size refl long)

  -- the other way: each condition makes its answer
  accepts : Acceptable file → (p : Program) × (check file ≡ accepted p)
  accepts (o, passed, inhabited, fit, spelled) =
      let (size, (n, read)) = passed.outlined in
      let exist = (numbers_exist_exactly o).1 passed.numbers in
      let (fs, m, bodies) = bodies_read_law o.declared file n passed.bodies in
      let filled = (passes_exactly (types_apart o.declared) (types_inhabited_tell o.declared)).1 inhabited in
      let told = parameters_tell o file fs (heads_are o.declared file o.declared.heads n fs m bodies) passed.numbers inhabited in
      let deep = (passes_exactly (parameters_apart o) told).1 fit in
      (program_of o fs, file_accepted file size read exist bodies filled deep ((passes_exactly (names_apart o) (names_tell o)).1 spelled))

  turns_back : (why : Refusal) → RefusedBy file why → check file ≡ turned_back why
  turns_back why (by_size is long) = size_refused file long ∙ ap turned_back (sym is)
  turns_back why (by_first_pass (size, by)) = outline_refused file size by
  turns_back why (by_second_pass is (o, (size, (n, read)), missing)) =
      numbers_refused file size read ((number_missing_exactly o).1 missing) ∙ ap turned_back (sym is)
  turns_back why (by_third_pass (o, (size, (n, read)), numbers, by)) =
      bodies_refused file size read ((numbers_exist_exactly o).1 numbers) (body_refused o.declared file n why by)
  turns_back why (by_empty_type is (o, passed, empty)) =
      let (size, (n, read)) = passed.outlined in
      let (fs, m, bodies) = bodies_read_law o.declared file n passed.bodies in
      empty_refused file size read ((numbers_exist_exactly o).1 passed.numbers) bodies
      ((fails_exactly (types_apart o.declared) (types_inhabited_tell o.declared)).1 empty)
      ∙ ap turned_back (sym is)
  turns_back why (by_depth is (o, passed, inhabited, over)) =
      let (size, (n, read)) = passed.outlined in
      let (fs, m, bodies) = bodies_read_law o.declared file n passed.bodies in
      let told = parameters_tell o file fs (heads_are o.declared file o.declared.heads n fs m bodies) passed.numbers inhabited in
      depth_refused file size read ((numbers_exist_exactly o).1 passed.numbers) bodies
      ((passes_exactly (types_apart o.declared) (types_inhabited_tell o.declared)).1 inhabited)
      ((fails_exactly (parameters_apart o) told).1 over)
      ∙ ap turned_back (sym is)
  turns_back why (by_spelling is (o, passed, inhabited, fit, otherwise)) =
      let (size, (n, read)) = passed.outlined in
      let (fs, m, bodies) = bodies_read_law o.declared file n passed.bodies in
      let told = parameters_tell o file fs (heads_are o.declared file o.declared.heads n fs m bodies) passed.numbers inhabited in
      spelling_refused file size read ((numbers_exist_exactly o).1 passed.numbers) bodies
      ((passes_exactly (types_apart o.declared) (types_inhabited_tell o.declared)).1 inhabited)
      ((passes_exactly (parameters_apart o) told).1 fit)
      ((fails_exactly (names_apart o) (names_tell o)).1 otherwise)
      ∙ ap turned_back (sym is)

  -- A file is accepted exactly where it passes every test, and turned back exactly by the test that it fails first.
  pub accepted_exactly : ((p : Program) × (check file ≡ accepted p)) ↔ Acceptable file
  accepted_exactly = (λ (p, is). let (c, answer, means) = answered in subst Means (sym answer ∙ is) means, accepts)

  pub turned_back_exactly : (why : Refusal) → (check file ≡ turned_back why) ↔ RefusedBy file why
  turned_back_exactly why = (λ is. let (c, answer, means) = answered in subst Means (sym answer ∙ is) means, turns_back why)

-- ---- one refusal at a time

among : ℕ → List ℕ → Bool
among n [] = false
among n (m ∷ ms) = eqb n m || among n ms

-- a number that was looked for in vain
not_among : (n : ℕ) (ms : List ℕ) → among n ms ≡ false → n ∈ ms → ⊥
unfolding among
not_among n [] e m = Memᴰ.not-nil m
not_among n (x ∷ ms) e m = go (eqb n x) refl e (λ f k. not_among n ms f k) (Memᴰ.cases_cons m)
  where
    go : (b : Bool) → eqb n x ≡ b → (b || among n ms) ≡ false → (among n ms ≡ false → n ∈ ms → ⊥) → (n ≡ x) ⊎ (n ∈ ms) → ⊥
    go true is e rest m = false≢true (sym e)
    go false is e rest (inl same) = eqb-false n x is same
    go false is e rest (inr later) = rest e later

module _ (file : List ℕ) where
  -- the first pass gives 1, 2, 3 and 7 only, and the third 1 and 3 to 7
  pub first_gives : (why : Refusal) → FirstPassRefuses file why → number_of why ∈ (1 ∷ 2 ∷ 3 ∷ 7 ∷ [])
  first_gives why (size, is) = first_pass_gives file why is

  pub third_gives : (why : Refusal) → ThirdPassRefuses file why → number_of why ∈ (1 ∷ 3 ∷ 4 ∷ 5 ∷ 6 ∷ 7 ∷ [])
  third_gives why (o, found, exist, (before, h, after, are, all, is)) = body_gives o.declared h file why is

  not_first : {C : Type 0} (why : Refusal) → among (number_of why) (1 ∷ 2 ∷ 3 ∷ 7 ∷ []) ≡ false → FirstPassRefuses file why → C
  not_first why out h = absurd (not_among _ _ out (first_gives why h))

  not_third : {C : Type 0} (why : Refusal) → among (number_of why) (1 ∷ 3 ∷ 4 ∷ 5 ∷ 6 ∷ 7 ∷ []) ≡ false → ThirdPassRefuses file why → C
  not_third why out h = absurd (not_among _ _ out (third_gives why h))

  -- what follows from each test
  by_cases : {why : Refusal} {C : Type 0}
      → (why ≡ OutOfRange → FileTooLong file → C) → (FirstPassRefuses file why → C) → (why ≡ UnknownNumber → SecondPassRefuses file → C)
      → (ThirdPassRefuses file why → C) → (why ≡ EmptyType → Hollow file → C) → (why ≡ DepthTooSmall → Shallow file → C)
      → (why ≡ BadSpelling → Misspelled file → C) → RefusedBy file why → C
  by_cases size first second third empty deep names (by_size is h) = size is h
  by_cases size first second third empty deep names (by_first_pass h) = first h
  by_cases size first second third empty deep names (by_second_pass is h) = second is h
  by_cases size first second third empty deep names (by_third_pass h) = third h
  by_cases size first second third empty deep names (by_empty_type is h) = empty is h
  by_cases size first second third empty deep names (by_depth is h) = deep is h
  by_cases size first second third empty deep names (by_spelling is h) = names is h

  -- 1: "bytes run out in a record, in a body, or before GO is read"
  pub short_by : RefusedBy file Truncated ↔ (FirstPassRefuses file Truncated ⊎ ThirdPassRefuses file Truncated)
  short_by = (
    by_cases (λ is h. absurd (clash (cc))) inl (λ is h. absurd (clash (cc))) inr (λ is h. absurd (clash (cc))) (λ is h. absurd (clash (cc))) (λ is h. absurd (clash (cc))),
    ⊎_elim by_first_pass by_third_pass,
  )

  -- 2: "a mark is unknown or out of its turn"
  pub mark_by : RefusedBy file UnexpectedMark ↔ FirstPassRefuses file UnexpectedMark
  unfolding among
  mark_by = (
    by_cases (λ is h. absurd (clash (cc))) (λ h. h) (λ is h. absurd (clash (cc))) (not_third UnexpectedMark refl) (λ is h. absurd (clash (cc))) (λ is h. absurd (clash (cc))) (λ is h. absurd (clash (cc))),
    by_first_pass,
  )

  -- 3: "a count, length, D, S, file size, nesting or view is beyond its limit"
  pub range_by : RefusedBy file OutOfRange ↔ (FileTooLong file ⊎ (FirstPassRefuses file OutOfRange ⊎ ThirdPassRefuses file OutOfRange))
  range_by = (
    by_cases (λ is. inl) (λ h. inr (inl h)) (λ is h. absurd (clash (cc))) (λ h. inr (inr h)) (λ is h. absurd (clash (cc))) (λ is h. absurd (clash (cc))) (λ is h. absurd (clash (cc))),
    ⊎_elim (by_size refl) (⊎_elim by_first_pass by_third_pass),
  )

  -- 4: "a type, constructor, function or variable number does not exist"
  pub stranger_by : RefusedBy file UnknownNumber ↔ (SecondPassRefuses file ⊎ ThirdPassRefuses file UnknownNumber)
  unfolding among
  stranger_by = (
    by_cases (λ is h. absurd (clash (cc))) (not_first UnknownNumber refl) (λ is. inl) inr (λ is h. absurd (clash (cc))) (λ is h. absurd (clash (cc))) (λ is h. absurd (clash (cc))),
    ⊎_elim (by_second_pass refl) by_third_pass,
  )

  -- 5: "an expression byte above 5, or an alternative byte above 1"
  pub code_by : RefusedBy file UnknownCode ↔ ThirdPassRefuses file UnknownCode
  unfolding among
  code_by = (
    by_cases (λ is h. absurd (clash (cc))) (not_first UnknownCode refl) (λ is h. absurd (clash (cc))) (λ h. h) (λ is h. absurd (clash (cc))) (λ is h. absurd (clash (cc))) (λ is h. absurd (clash (cc))),
    by_third_pass,
  )

  -- 6: "an expression's type is not the one expected"
  pub misfit_by : RefusedBy file TypeMismatch ↔ ThirdPassRefuses file TypeMismatch
  unfolding among
  misfit_by = (
    by_cases (λ is h. absurd (clash (cc))) (not_first TypeMismatch refl) (λ is h. absurd (clash (cc))) (λ h. h) (λ is h. absurd (clash (cc))) (λ is h. absurd (clash (cc))) (λ is h. absurd (clash (cc))),
    by_third_pass,
  )

  -- 7: "bytes follow a body's expression, or GO"
  pub tail_by : RefusedBy file TrailingBytes ↔ (FirstPassRefuses file TrailingBytes ⊎ ThirdPassRefuses file TrailingBytes)
  tail_by = (
    by_cases (λ is h. absurd (clash (cc))) inl (λ is h. absurd (clash (cc))) inr (λ is h. absurd (clash (cc))) (λ is h. absurd (clash (cc))) (λ is h. absurd (clash (cc))),
    ⊎_elim by_first_pass by_third_pass,
  )

  -- 8: "a type has no closed value"
  pub hollow_by : RefusedBy file EmptyType ↔ Hollow file
  unfolding among
  hollow_by = (
    by_cases (λ is h. absurd (clash (cc))) (not_first EmptyType refl) (λ is h. absurd (clash (cc))) (not_third EmptyType refl) (λ is h. h) (λ is h. absurd (clash (cc))) (λ is h. absurd (clash (cc))),
    by_empty_type refl,
  )

  -- 9: "a source parameter's least depth exceeds D"
  pub shallow_by : RefusedBy file DepthTooSmall ↔ Shallow file
  unfolding among
  shallow_by = (
    by_cases (λ is h. absurd (clash (cc))) (not_first DepthTooSmall refl) (λ is h. absurd (clash (cc))) (not_third DepthTooSmall refl) (λ is h. absurd (clash (cc))) (λ is h. h) (λ is h. absurd (clash (cc))),
    by_depth refl,
  )

  -- 15: "the type named by NA has another form"
  pub spelling_by : RefusedBy file BadSpelling ↔ Misspelled file
  unfolding among
  spelling_by = (
    by_cases (λ is h. absurd (clash (cc))) (not_first BadSpelling refl) (λ is h. absurd (clash (cc))) (not_third BadSpelling refl) (λ is h. absurd (clash (cc))) (λ is h. absurd (clash (cc))) (λ is h. h),
    by_spelling refl,
  )
