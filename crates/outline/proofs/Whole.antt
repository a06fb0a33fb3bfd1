-- The outline of a file as first_pass reads it: the first mark, the types, the functions, what NA names, and the goal with the end of the file.
-- Rests on Tables, on reach's RuleFile, and on the laws of crate typerecord about steps.
use Prim.Native.Nat.{ℕ}
use mathlib.Core.Path.{◌≡◌, refl, sym, ◌∙◌}
use mathlib.Core.Bool.{Bool, true, false}
use mathlib.Core.List.{List, [], ◌∷◌}
use mathlib.Core.Option.{Option, some}
use Rattle.std.specs.Prelude.{Result, Ok, Err}
use Rattle.reach.specs.declared.Refusal.{Refusal}
use Rattle.reach.specs.declared.Refusal.TheVariants.{UnexpectedMark, TrailingBytes}
use Rattle.reach.specs.Base.{pick}
use Rattle.reach.specs.Syntax.{Types}
use Rattle.reach.specs.Reader.{Got, got, refused, on_got, Reader, ◌>>=◌, ◌>>◌, give, refuse, byte, at_end}
use Rattle.reach.specs.RuleFile.{Mark, TY, same_mark, in_turn, mark, type_record, more_types, Head, function_record, more_functions, goal_mark, name_record, naming, Goal, goal_record, Outline, outline}
use Rattle.reach.proofs.Reading.{then_same}
use Rattle.typerecord.specs.Passed.{passed_of}
use Rattle.typerecord.proofs.Answers.{step_got, step_refused}
use Rattle.outline.specs.Tables.{on_passed, last_record}
use Rattle.turns.specs.Turns.{types_from, functions_from, first_mark}

-- one reading and then the rest, however the rest is grouped
regroup : {A B C : Type 0} (x : Got A) (f : A → ℕ → Got B) (g : B → ℕ → Got C) (h : A → ℕ → Got C)
    → ((a : A) (next : ℕ) → h a next ≡ on_got {B = Got C} g (λ why. refused why) (f a next))
    → on_got {B = Got C} h (λ why. refused why) x ≡ on_got {B = Got C} g (λ why. refused why) (on_got {B = Got B} f (λ why. refused why) x)
regroup (got a next) f g h alike = alike a next
regroup (refused why) f g h alike = refl

-- the first record stands behind its mark
first_marked : {A C : Type 0} (one : Reader A) (f : A → ℕ → Got C) (g : Unit {0} → ℕ → Got C) (s : List ℕ) (i : ℕ)
    → on_got {B = Got C} f (λ why. refused why) (one s i) ≡ g tt i
    → (m : Mark) → on_got {B = Got C} f (λ why. refused why) (in_turn ((TY, one) ∷ []) m s i)
    ≡ on_got {B = Got C} g (λ why. refused why) (in_turn ((TY, give tt) ∷ []) m s i)
unfolding in_turn
first_marked {A} {C} one f g s i e m = by (same_mark TY m)
  where
    by : (b : Bool) → on_got {B = Got C} f (λ why. refused why) (pick b one (refuse UnexpectedMark) s i)
        ≡ on_got {B = Got C} g (λ why. refused why) (pick b (give tt) (refuse UnexpectedMark) s i)
    by true = e
    by false = refl

-- the type that NA names, where the mark GO stands behind it or does not
pub name_then : (s : List ℕ) (i : ℕ) {t next : ℕ} {r : Result ℕ Refusal} → byte s i ≡ got t next → r ≡ passed_of (goal_mark s next)
    → name_record s i ≡ on_passed (some t) r
unfolding name_record
name_then s i {t} {next} {r} here told = rw (here, told) (by_mark (goal_mark s next))
  where
    by_mark : (g : Got (Unit {0})) → on_got {B = Got (Option ℕ)} (λ u k. got (some t) k) (λ why. refused why) g ≡ on_passed (some t) (passed_of g)
    by_mark (got u k) = refl
    by_mark (refused why) = refl

-- the parts that have a function of their own, one after the other, behind the first mark
abbrev behind_mark : Reader Outline
behind_mark = do
  ts ← types_from 31
  fs ← functions_from 63
  n ← naming
  g ← last_record
  give (record { declared = record { types = ts; heads = fs }; named = n; goal = g })

module _ (s : List ℕ) where
  -- the outline is read in those parts
  in_parts : (i : ℕ) → outline s i ≡ (first_mark >> behind_mark) s i
  unfolding outline first_mark types_from functions_from last_record
  in_parts i =
      regroup (mark s i) _ _ _
      (λ m j. first_marked type_record _ _ s j
      (regroup (type_record s j) _ _ _
      (λ t k. regroup (more_types 31 s k) _ _ _
      (λ ts l. regroup (function_record s l) _ _ _
      (λ f n. regroup (more_functions 63 s n) _ _ _
      (λ fs o. then_same (naming s o) _ _
      (λ t q. regroup (goal_record s q) _ _ _
      (λ g e. regroup (at_end TrailingBytes s e) _ _ _
      (λ u next. refl))))))))
      m)

  -- The first mark is that of no type.
  pub no_type : {why : Refusal} → Err why ≡ passed_of (first_mark s 0) → outline s 0 ≡ refused why
  no_type told = in_parts 0 ∙ rw (step_refused (first_mark s 0) (sym told))

  -- It is that of a type, and the rest is read behind it.
  module _ {i : ℕ} (told : Ok i ≡ passed_of (first_mark s 0)) where
    marked : outline s 0 ≡ behind_mark s i
    marked = in_parts 0 ∙ rw (step_got (first_mark s 0) (sym told)).1

    pub types_refused : {why : Refusal} → types_from 31 s i ≡ refused why → outline s 0 ≡ refused why
    types_refused e = marked ∙ rw e

    module _ {ts : Types} {j : ℕ} (types : types_from 31 s i ≡ got ts j) where
      pub functions_refused : {why : Refusal} → functions_from 63 s j ≡ refused why → outline s 0 ≡ refused why
      functions_refused e = marked ∙ rw (types, e)

      module _ {fs : List Head} {k : ℕ} (functions : functions_from 63 s j ≡ got fs k) where
        pub names_refused : {why : Refusal} → naming s k ≡ refused why → outline s 0 ≡ refused why
        names_refused e = marked ∙ rw (types, functions, e)

        module _ {named : Option ℕ} {l : ℕ} (names : naming s k ≡ got named l) where
          pub goal_refused : {why : Refusal} → last_record s l ≡ refused why → outline s 0 ≡ refused why
          goal_refused e = marked ∙ rw (types, functions, names, e)

          pub outlined : {g : Goal} {next : ℕ} → last_record s l ≡ got g next
              → outline s 0 ≡ got (record { declared = record { types = ts; heads = fs }; named = named; goal = g }) next
          outlined e = marked ∙ rw (types, functions, names, e)
