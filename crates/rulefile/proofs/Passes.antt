-- The third pass after the first: what the first one leaves is what the third one asks for, and the third one reads the bodies as the
-- check does, which begins behind the goal.
-- Rests on reach's Limits and codes' Encoding for what an outline keeps to, and on the lookups in tables of places.
use Prim.Native.Nat.{ℕ, ◌<◌}
use mathlib.Core.Path.{◌≡◌, refl, subst}
use mathlib.Core.List.{List, [], ◌∷◌, map}
use mathlib.Core.Option.{Option}
use Rattle.std.specs.Prelude.{Ok, Err}
use lib.ListN.{length, get_or}
use Rattle.reach.specs.declared.Refusal.{Refusal}
use Rattle.reach.specs.Syntax.{Function}
use Rattle.reach.specs.Reader.{Got, got, refused}
use Rattle.reach.specs.RuleFile.{Head, Goal, Declarations, outline, functions_of}
use Rattle.reach.specs.Places.{type_at, head_at, declarations_at, outline_at}
use Rattle.reach.specs.Base.{Each}
use Rattle.reach.proofs.Base.{clash, nth_member, each_member}
use Rattle.reach.proofs.Limits.{IfFound, ConstructorKept, TypeKept, HeadKept, OutlineKept, outline_kept}
use Rattle.codes.proofs.Encoding.{BodyInside, outline_inside}
use Rattle.typerecord.specs.Passed.{passed_of}
use Rattle.lookups.proofs.Tables.{found}
use Rattle.expressions.specs.Tables.{TablesSmall}
use Rattle.bodies.specs.Check.{BodiesThere, functions_at, bodies_of}

-- ---- the tables keep to the limits, and the bodies end inside the file

-- what holds of each record holds of the one at each place of the table
each_at : {A : Type 0} (P : A → Type 0) (f : ℕ → A) (places : List ℕ) → Each P (map f places) → (n : ℕ) → n < length places → P (f (get_or places n 0))
each_at P f places all n h = each_member P all (nth_member (map f places) n _ (found f places 0 n h))

module _ (s types functions : List ℕ) (named : Option ℕ) (goal : Goal) {n : ℕ} (read : outline s 0 ≡ got (outline_at s types functions named goal) n) where
  kept : OutlineKept (outline_at s types functions named goal)
  kept = subst (IfFound (λ o next. OutlineKept o)) read (outline_kept.found s 0)

  inside : Each (BodyInside s) (declarations_at s types functions).heads
  unfolding outline_at
  inside = subst (IfFound (λ o next. Each (BodyInside s) o.declared.heads)) read (outline_inside s 0)

  pub tables_small : TablesSmall s types functions
  unfolding declarations_at outline_at
  tables_small =
      record {
        fields_limit = λ t h c us e.
            each_member ConstructorKept (each_at TypeKept (type_at s) types kept.types_kept t h).1
            (nth_member (type_at s (get_or types t 0)) c us e);
        parameters_limit = each_at HeadKept (head_at s) functions kept.heads_kept;
      }

  pub bodies_inside : BodiesThere s functions
  unfolding declarations_at
  bodies_inside = each_at (BodyInside s) (head_at s) functions inside

-- ---- what the third pass answers is what the check goes on with

-- the place where the bodies' reader begins does not matter
module _ (d : Declarations) (s : List ℕ) (i j : ℕ) where
  refused_anywhere : (hs : List Head) {why : Refusal} → functions_of d hs s i ≡ refused why → functions_of d hs s j ≡ refused why
  unfolding functions_of
  refused_anywhere [] e = absurd (clash (cc))
  refused_anywhere (h ∷ hs) e = e

  got_anywhere : (hs : List Head) {fs : List Function} {m : ℕ} → functions_of d hs s i ≡ got fs m → (k : ℕ) × (functions_of d hs s j ≡ got fs k)
  unfolding functions_of
  got_anywhere [] e = (j, (cc))
  got_anywhere (h ∷ hs) {m = m} e = (m, e)

-- what the answer of the third pass tells
step_got : {A : Type 0} (g : Got A) → Ok tt ≡ bodies_of (passed_of g) → (a : A) × (m : ℕ) × (g ≡ got a m)
step_got (got a m) told = (a, m, refl)
step_got (refused why) told = absurd (clash (cc))

step_refused : {A : Type 0} (g : Got A) {why : Refusal} → Err why ≡ bodies_of (passed_of g) → g ≡ refused why
step_refused (got a m) told = absurd (clash (cc))
step_refused (refused w) told = cc

module _ (s types functions : List ℕ) (i : ℕ) where
  abbrev bodies_read : Got (List Function)
  bodies_read = functions_of (declarations_at s types functions) (declarations_at s types functions).heads s i

  pub bodies_got : Ok tt ≡ bodies_of (passed_of (functions_at s types functions)) → (fs : List Function) × (m : ℕ) × (bodies_read ≡ got fs m)
  unfolding declarations_at
  bodies_got told =
      let all = step_got (functions_at s types functions) told in
      let here = got_anywhere (declarations_at s types functions) s 0 i (map (head_at s) functions) all.2 in
      (all.0, here.0, here.1)

  pub bodies_refused : {why : Refusal} → Err why ≡ bodies_of (passed_of (functions_at s types functions)) → bodies_read ≡ refused why
  unfolding declarations_at
  bodies_refused told =
      refused_anywhere (declarations_at s types functions) s 0 i (map (head_at s) functions) (step_refused (functions_at s types functions) told)
