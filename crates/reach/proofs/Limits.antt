-- What an accepted file keeps to: the limits of 01, no type without a closed value, and parameters that fit the depth.
-- Each reader promises a fact of whatever it finds; the promises are joined along the reader's own text.
-- Rests on Reader, RuleFile and Answers of specs/, on Slots and on Depths.
use Prim.Native.Nat.{ℕ, zero, suc, pred, ◌≤◌, zero-le, suc-le-suc}
use mathlib.Core.Path.{◌≡◌, refl, subst, ap, ◌∙◌}
use mathlib.Core.Logic.{◌↔◌}
use mathlib.Core.Bool.{Bool, true, ◌&&◌, and-eq-true_iff}
use mathlib.Core.List.{List, [], ◌∷◌}
use mathlib.Core.Option.{Option, none, some}
use native.Mathlib.Nat.{le_trans}
use lib.ListN.{length, get_or, get_elem?, replicate}
use lib.Dec.{leb}
use borrow.Author.Tests.{leb-true}
use Rattle.reach.specs.declared.Refusal.{Refusal}
use Rattle.reach.specs.declared.Refusal.TheVariants.{OutOfRange, UnknownNumber, TrailingBytes, EmptyType, BadSpelling}
use Rattle.reach.specs.Limits.{type_limit, constructor_limit, field_limit, function_limit, parameter_limit, body_limit, depth_limit, step_limit}
use Rattle.reach.specs.Syntax.{Function, Program, field_types, function_at, parameters_of, source_types}
use Rattle.reach.specs.Parts.{Parts, depth}
use Rattle.reach.specs.Types.{Slot, slots, even_slots, source_slots, depth_of, ClosedInput, Fits, WithinDepth, least_depths}
use Rattle.reach.specs.Names.{spells}
use Rattle.reach.specs.Reader.{Got, got, refused, on_got, Reader, ◌>>=◌, ◌>>◌, give, refuse, demand, byte, word, times, passed, at_end}
use Rattle.reach.specs.RuleFile.{Mark, in_turn, mark, counted, constructor_record, type_record, Head, function_record, Goal, goal_record}
use Rattle.reach.specs.RuleFile.{more_types, ends_at, more_functions, naming, Declarations, Outline, outline, numbers_exist, body_of, functions_of, program_of, no_empty_type, deep_enough, if_named, well_spelled, size_in_limit, rule_file}
use Rattle.reach.specs.Answers.{accepted, turned_back, check}
use Rattle.reach.specs.Base.{Each}
use Rattle.reach.proofs.InTurn.{in_turn_law}
use Rattle.reach.proofs.Base.{clash, picked, nth_member, each_member, each_get_d}
use Rattle.reach.proofs.Slots.{even_each, even_slots_law, source_types_law}
use Rattle.reach.proofs.Depths.{fits_within, fits_depth}

-- the fact holds of the value that was found and of the place behind it, if one was
abbrev pub IfFound : {A : Type 0} → (A → ℕ → Type 0) → Got A → Type 0
IfFound P (got a next) = P a next
IfFound P (refused why) = Unit {0}

-- what holds of whatever is found after each thing that the first reader may find
pub if_found_then :
    {A B : Type 0} (P : A → ℕ → Type 0) (Q : B → ℕ → Type 0) (f : A → ℕ → Got B) (g : Got A)
    → IfFound P g → ((a : A) (next : ℕ) → P a next → IfFound Q (f a next)) → IfFound Q (on_got f (λ why. refused why) g)
if_found_then P Q f (got a next) h after = after a next h
if_found_then P Q f (refused why) h after = tt

-- whatever the reader finds, the fact holds of it
pub record Promises {A : Type 0} (P : A → Type 0) (m : Reader A) : Type 0 where
  pub found : (s : List ℕ) (i : ℕ) → IfFound (λ a next. P a) (m s i)

giving : {A : Type 0} {P : A → Type 0} {a : A} → P a → Promises P (give a)
giving h = record { found = λ s i. h }

refusing : {A : Type 0} {P : A → Type 0} {why : Refusal} → Promises P (refuse why)
refusing = record { found = λ s i. tt }

-- a test that was demanded has passed
demanding : (test : Bool) (why : Refusal) → Promises (λ u. test ≡ true) (demand test why)
demanding test why = record { found = λ s i. picked (IfFound (λ u next. test ≡ true)) test (λ passed. passed) (λ failed. tt) }

-- the promise of less
weakened : {A : Type 0} {P Q : A → Type 0} {m : Reader A} → ((a : A) → P a → Q a) → Promises P m → Promises Q m
weakened {A} {P} {Q} {m} less whole = record { found = λ s i. go (m s i) (whole.found s i) }
  where
    go : (g : Got A) → IfFound (λ a next. P a) g → IfFound (λ a next. Q a) g
    go (got a next) h = less a h
    go (refused why) h = tt

-- nothing is asked of what a reader finds
anything : {A : Type 0} (m : Reader A) → Promises (λ a. Unit {0}) m
anything {A} m = record { found = λ s i. go (m s i) }
  where
    go : (g : Got A) → IfFound (λ a next. Unit {0}) g
    go (got a next) = tt
    go (refused why) = tt

module _ {A B : Type 0} {P : A → Type 0} {Q : B → Type 0} {m : Reader A} where
  -- one reader and then another promise what the second promises of every value that the first may find
  then : {f : A → Reader B} → Promises P m → ((a : A) → P a → Promises Q (f a)) → Promises Q (m >>= f)
  then {f} first second =
      record {
        found = λ s i.
            if_found_then (λ a next. P a) (λ b next. Q b) (λ a. f a s) (m s i) (first.found s i) (λ a next h. (second a h).found s next);
      }

  then_on : {f : Reader B} → Promises P m → ((a : A) → P a → Promises Q f) → Promises Q (m >> f)
  then_on {f} first second = then {f = λ a. f} first second

-- what is read so many times: no more than that, and each as promised
timed : {A : Type 0} {P : A → Type 0} {m : Reader A} (n : ℕ) → Promises P m → Promises (λ xs. (length xs ≤ n) × Each P xs) (times n m)
unfolding times
timed zero each = giving (zero-le, tt)
timed (suc n) each = then each (λ a h. then (timed n each) (λ xs hs. giving (suc-le-suc hs.0, (h, hs.1))))

-- a promise for each mark that may come
turned : {A : Type 0} {P : A → Type 0} (turns : List (Mark × Reader A)) → Each (λ turn. Promises P turn.1) turns → (m : Mark) → Promises P (in_turn turns m)
turned {P = P} turns all m = in_turn_law (λ r. Promises P r) turns refusing all m

-- a reader that knows where it stands
placed : {A : Type 0} {P : A → Type 0} {m : ℕ → Reader A} → ((here : ℕ) → Promises P (m here)) → Promises P (λ s here. m here s here)
placed each = record { found = λ s i. (each i).found s i }

ending : {A : Type 0} {P : List A → Type 0} (here : ℕ) → P [] → Promises P (ends_at here)
ending here h = record { found = λ s i. h }

-- a count is within its bounds
counting : (least most : ℕ) → Promises (λ n. (least ≤ n) × (n ≤ most)) (counted least most)
unfolding counted
counting least most =
    then (anything byte)
    (λ n h. then_on (demanding _ _)
    (λ u t. let both = (and-eq-true_iff (leb least n) (leb n most)).0 t in giving (leb-true least n both.0, leb-true n most both.1)))

-- a constructor within the limits
abbrev pub ConstructorKept : List ℕ → Type 0
ConstructorKept us = length us ≤ field_limit

-- a type within the limits
abbrev pub TypeKept : List (List ℕ) → Type 0
TypeKept cs = (length cs ≤ constructor_limit) × Each ConstructorKept cs

-- a count within the limit, then so many of them
counted_kept : {A : Type 0} {P : A → Type 0} {m : Reader A} (least most : ℕ) → Promises P m
    → Promises (λ xs. (length xs ≤ most) × Each P xs) (counted least most >>= λ n. times n m)
counted_kept least most each = then (counting least most) (λ n h. weakened (λ xs hs. (le_trans hs.0 h.1, hs.1)) (timed n each))

constructor_kept : Promises ConstructorKept constructor_record
unfolding constructor_record
constructor_kept = weakened (λ us h. h.0) (counted_kept 0 field_limit (anything byte))

type_kept : Promises TypeKept type_record
unfolding type_record
type_kept = counted_kept 1 constructor_limit constructor_kept

-- a function within the limits, as its head tells
abbrev pub HeadKept : Head → Type 0
HeadKept h = length h.parameters ≤ parameter_limit

head_kept : Promises HeadKept function_record
unfolding function_record
head_kept =
    then (counting 0 parameter_limit)
    (λ n h. then (timed n (anything byte))
    (λ ps hs. then (anything byte)
    (λ r u. then (anything word)
    (λ l v. then_on (anything (demand (leb 1 l && leb l body_limit) OutOfRange))
    (λ x y. then (anything (passed l))
    (λ b w. giving (le_trans hs.0 h.1)))))))

-- what GO asks for is within the limits, and its depths are alike
abbrev pub GoalKept : Goal → Type 0
GoalKept g =
    (1 ≤ depth_of g.depths) × (depth_of g.depths ≤ depth_limit) × (g.depths ≡ replicate parameter_limit (depth_of g.depths)) × (g.steps ≤ step_limit)

goal_kept : Promises GoalKept goal_record
unfolding goal_record
goal_kept =
    then (anything byte)
    (λ f u. then (anything byte)
    (λ l v. then (counting 1 depth_limit)
    (λ d h. then (anything word)
    (λ s w. then_on (demanding _ _)
    (λ x t. giving (h.0, h.1, refl, leb-true s step_limit t))))))

-- the types and the functions that follow the first ones
more_types_law : (n : ℕ) → Promises (λ ts. (length ts ≤ n) × Each TypeKept ts) (more_types n)
unfolding more_types
more_types_law zero = then (anything mark) (λ m u. turned _ (refusing, (giving (zero-le, tt), tt)) m)
more_types_law (suc n) =
    then (anything mark)
    (λ m u. turned _ (then type_kept (λ t h. then (more_types_law n) (λ ts hs. giving (suc-le-suc hs.0, (h, hs.1)))), (giving (zero-le, tt), tt)) m)

more_functions_law : (n : ℕ) → Promises (λ fs. (length fs ≤ n) × Each HeadKept fs) (more_functions n)
unfolding more_functions
more_functions_law zero = placed (λ here. then (anything mark) (λ m u. turned _ (refusing, (ending here (zero-le, tt), (ending here (zero-le, tt), tt))) m))
more_functions_law (suc n) =
    placed (λ here. then (anything mark)
    (λ m u. turned _
    (then head_kept (λ f h. then (more_functions_law n) (λ fs hs. giving (suc-le-suc hs.0, (h, hs.1)))), (ending here (zero-le, tt), (ending here (zero-le, tt), tt))) m))

-- an outline within the limits
pub record OutlineKept (o : Outline) : Type 0 where
  pub types_count : length o.declared.types ≤ type_limit
  pub types_kept : Each TypeKept o.declared.types
  pub heads_count : length o.declared.heads ≤ function_limit
  pub heads_kept : Each HeadKept o.declared.heads
  pub goal : GoalKept o.goal

pub outline_kept : Promises OutlineKept outline
unfolding outline
outline_kept =
    then (anything mark)
    (λ m u. then (turned _ (type_kept, tt) m)
    (λ t h. then (more_types_law (pred type_limit))
    (λ ts hs. then head_kept
    (λ f k. then (more_functions_law (pred function_limit))
    (λ fs ks. then (anything naming)
    (λ n v. then goal_kept
    (λ g l. then_on (anything (at_end TrailingBytes))
    (λ x y. giving (record {
      types_count = suc-le-suc hs.0;
      types_kept = (h, hs.1);
      heads_count = suc-le-suc ks.0;
      heads_kept = (k, ks.1);
      goal = l;
    })))))))))

-- a function within the limits
abbrev FunctionKept : Function → Type 0
FunctionKept f = length f.parameters ≤ parameter_limit

-- the functions are no more than the heads, and have their parameters
functions_kept : (d : Declarations) (hs : List Head) → Each HeadKept hs
    → Promises (λ fs. (length fs ≤ length hs) × Each FunctionKept fs) (functions_of d hs)
unfolding functions_of
functions_kept d [] all = giving (zero-le, tt)
functions_kept d (h ∷ hs) all =
    then (anything (λ s here. body_of d h s))
    (λ e u. then (functions_kept d hs all.1)
    (λ fs ks. giving (suc-le-suc ks.0, (all.0, ks.1))))

-- What an accepted file keeps to.
pub record KeepsLimits (p : Program) : Type 0 where
  pub types_limit : length p.types ≤ type_limit
  pub constructors_limit : (t : ℕ) → length (get_or p.types t []) ≤ constructor_limit
  pub fields_limit : (t c : ℕ) (us : List ℕ) → field_types p.types t c ≡ some us → length us ≤ field_limit
  pub functions_limit : length p.functions ≤ function_limit
  pub parameters_limit : length (source_types p) ≤ parameter_limit
  pub depth_limit_law : (1 ≤ depth_of p.depths) × (depth_of p.depths ≤ depth_limit)
  pub depths_alike : p.depths ≡ replicate parameter_limit (depth_of p.depths)
  pub steps_limit : p.steps ≤ step_limit
  pub no_empty : no_empty_type (least_depths p.types) ≡ true
  pub deep_enough_law : deep_enough p ≡ true
  pub well_spelled_law : if_named (λ t. spells p.types t) p.named ≡ true

parameters_of_law : (f : Option Function) (fs : List Function) (i : ℕ) → get_elem? fs i ≡ f → Each FunctionKept fs
    → length (parameters_of f) ≤ parameter_limit
parameters_of_law none fs i e all = zero-le
parameters_of_law (some f) fs i e all = each_member FunctionKept all (nth_member fs i f e)

program_kept :
    (o : Outline) (fs : List Function) → OutlineKept o → length fs ≤ length o.declared.heads → Each FunctionKept fs
    → no_empty_type (least_depths o.declared.types) ≡ true → deep_enough (program_of o fs) ≡ true → well_spelled o ≡ true
    → KeepsLimits (program_of o fs)
unfolding program_of well_spelled field_types source_types function_at
program_kept o fs kept few all filled deep spelled =
    record {
      types_limit = kept.types_count;
      constructors_limit = λ t. (type_there t).0;
      fields_limit = λ t c us e. each_member ConstructorKept (type_there t).1 (nth_member (get_or o.declared.types t []) c us e);
      functions_limit = le_trans few kept.heads_count;
      parameters_limit = parameters_of_law (get_elem? fs o.goal.source) fs o.goal.source refl all;
      depth_limit_law = (kept.goal.0, kept.goal.1);
      depths_alike = kept.goal.2;
      steps_limit = kept.goal.3;
      no_empty = filled;
      deep_enough_law = deep;
      well_spelled_law = spelled;
    }
  where
    type_there : (t : ℕ) → TypeKept (get_or o.declared.types t [])
    type_there t = each_get_d TypeKept o.declared.types t [] kept.types_kept (zero-le, tt)

file_kept : Promises KeepsLimits rule_file
unfolding rule_file
file_kept =
    then_on (anything size_in_limit)
    (λ x y. then outline_kept
    (λ o kept. then_on (anything (demand (numbers_exist o) UnknownNumber))
    (λ x y. then (functions_kept o.declared o.declared.heads kept.heads_kept)
    (λ fs ks. then_on (demanding (no_empty_type (least_depths o.declared.types)) EmptyType)
    (λ x filled. then_on (demanding (deep_enough (program_of o fs)) _)
    (λ y deep. then_on (demanding (well_spelled o) BadSpelling)
    (λ z spelled. giving (program_kept o fs kept ks.0 ks.1 filled deep spelled))))))))

accepting : (g : Got Program) (p : Program) → IfFound (λ q next. KeepsLimits q) g → on_got (λ p next. accepted p) turned_back g ≡ accepted p → KeepsLimits p
accepting (got q next) p kept e = let z : q ≡ p = cc in subst KeepsLimits z kept
accepting (refused why) p kept e = absurd (clash (cc))

-- an accepted file is within the limits of 01, and its types have values that fit
pub accepted_keeps : (file : List ℕ) (p : Program) → check file ≡ accepted p → KeepsLimits p
unfolding check
accepted_keeps file p e = accepting (rule_file file 0) p (file_kept.found file 0) e

module _ (file : List ℕ) (p : Program) (h : check file ≡ accepted p) where
  -- its parameters have slots of one depth
  pub accepted_even : source_slots p ≡ even_slots (source_types p) (depth_of p.depths)
  unfolding source_slots
  accepted_even =
      let kept = accepted_keeps file p h in
      ap (slots (source_types p)) kept.depths_alike ∙ even_slots_law (source_types p) parameter_limit (depth_of p.depths) kept.parameters_limit

  -- none of them may be deeper than 64
  pub accepted_rooms : Each (λ (s : Slot). s.room ≤ depth_limit) (source_slots p)
  accepted_rooms = rw accepted_even (even_each _ (source_types p) (depth_of p.depths) (λ t. (accepted_keeps file p h).depth_limit_law.1))

  -- so no input within the depth is
  pub within_limit : (j : Parts) → WithinDepth p j → depth j ≤ depth_limit
  within_limit j within = fits_within p.types (source_slots p) depth_limit j accepted_rooms (rw (source_types_law p) within.0.1) within.1

  -- a closed input is within the depth exactly if its deepest parameter is
  pub within_depth : (j : Parts) → ClosedInput p j → Fits (source_slots p) j ↔ (depth j ≤ depth_of p.depths)
  within_depth j values = rw accepted_even (fits_depth p.types (source_types p) (depth_of p.depths) j values.1)
