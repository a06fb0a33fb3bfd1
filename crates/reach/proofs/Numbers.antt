-- The second pass in plain words: `numbers_exist` passes exactly where every type number in TY, in the heads and in NA, and the source, is one of those
-- there are.
-- Rests on specs/Conditions and RuleFile, and on Tests.
use Prim.Native.Nat.{ℕ, ◌≤◌, ◌<◌}
use native.Mathlib.Omega.{arith}
use mathlib.Core.Path.{◌≡◌, refl, subst}
use mathlib.Core.Logic.{◌⊎◌, inl, inr, ⊎_elim, ◌↔◌}
use mathlib.Core.Bool.{Bool, true, false}
use mathlib.Core.List.{List, [], ◌∷◌}
use mathlib.Core.Option.{Option, none, some, some-injective, none-ne-some}
use lib.ListN.{length}
use lib.Dec.{ltb}
use Rattle.reach.specs.Syntax.{Types}
use Rattle.reach.specs.RuleFile.{Head, Outline, if_named, all_below, constructors_exist, types_exist, heads_exist, numbers_exist}
use Rattle.reach.specs.Conditions.{TypeNumber, of_field, of_parameter, of_result, of_names, AllNumbersExist, SomeNumberMissing}
use Rattle.reach.proofs.Tests.{Tells, passes, tells_as, passes_exactly, fails_exactly, tells_both, All, Some, tells_none, tells_more, ltb_tells}

-- a test of the type that NA names, where there is one
pub named_tells : (test : ℕ → Bool) (Y N : ℕ → Type 0) → ((t : ℕ) → Tells (test t) (Y t) (N t)) → (named : Option ℕ)
    → Tells (if_named test named) ((t : ℕ) → named ≡ some t → Y t) ((t : ℕ) × (named ≡ some t) × N t)
named_tells test Y N told none = passes refl (λ t is. absurd (none-ne-some t is))
named_tells test Y N told (some u) = tells_as (λ yes t is. subst Y (some-injective u t is) yes) (λ no. (u, refl, no)) (told u)

module _ (n : ℕ) where
  below_tells : (ts : List ℕ) → Tells (all_below n ts) (All (λ t. t < n) ts) (Some (λ t. n ≤ t) ts)
  unfolding all_below
  below_tells [] = tells_none (λ t. t < n) (λ t. n ≤ t)
  below_tells (t ∷ ts) = tells_more (λ t. t < n) (λ t. n ≤ t) t ts (ltb_tells t n) (below_tells ts)

  constructors_tell : (cs : List (List ℕ)) → Tells (constructors_exist n cs) (All (All (λ t. t < n)) cs) (Some (Some (λ t. n ≤ t)) cs)
  unfolding constructors_exist
  constructors_tell [] = tells_none (All (λ t. t < n)) (Some (λ t. n ≤ t))
  constructors_tell (us ∷ cs) = tells_more (All (λ t. t < n)) (Some (λ t. n ≤ t)) us cs (below_tells us) (constructors_tell cs)

  types_tell : (types : Types) → Tells (types_exist n types) (All (All (All (λ t. t < n))) types) (Some (Some (Some (λ t. n ≤ t))) types)
  unfolding types_exist
  types_tell [] = tells_none (All (All (λ t. t < n))) (Some (Some (λ t. n ≤ t)))
  types_tell (cs ∷ types) = tells_more (All (All (λ t. t < n))) (Some (Some (λ t. n ≤ t))) cs types (constructors_tell cs) (types_tell types)

  -- the numbers in a head
  abbrev HeadExists : Head → Type 0
  HeadExists h = All (λ t. t < n) h.parameters × (h.result < n)

  abbrev HeadMissing : Head → Type 0
  HeadMissing h = Some (λ t. n ≤ t) h.parameters ⊎ (n ≤ h.result)

  heads_tell : (hs : List Head) → Tells (heads_exist n hs) (All HeadExists hs) (Some HeadMissing hs)
  unfolding heads_exist
  heads_tell [] = tells_none HeadExists HeadMissing
  heads_tell (h ∷ hs) =
      tells_more HeadExists HeadMissing h hs (tells_both (below_tells h.parameters) (ltb_tells h.result n)) (heads_tell hs)

module _ (o : Outline) where
  abbrev n : ℕ
  n = length o.declared.types

  -- the number in NA
  abbrev NameExists : Type 0
  NameExists = (t : ℕ) → o.named ≡ some t → t < n

  abbrev NameMissing : Type 0
  NameMissing = (t : ℕ) × (o.named ≡ some t) × (n ≤ t)

  name_tells : Tells (if_named (λ t. ltb t n) o.named) NameExists NameMissing
  name_tells = named_tells (λ t. ltb t n) (λ t. t < n) (λ t. n ≤ t) (λ t. ltb_tells t n) o.named

  number_below : All (All (All (λ t. t < n))) o.declared.types → All (HeadExists n) o.declared.heads → NameExists → (t : ℕ) → TypeNumber o t → t < n
  number_below fields heads names t (of_field cs us there of_type here) = fields cs there us of_type t here
  number_below fields heads names t (of_parameter h there here) = (heads h there).0 t here
  number_below fields heads names t (of_result h there is) = rw is (heads h there).1
  number_below fields heads names t (of_names is) = names t is

  field_missing : Some (Some (Some (λ t. n ≤ t))) o.declared.types → SomeNumberMissing o
  field_missing (cs, there, (us, of_type, (t, here, over))) = inl (t, of_field cs us there of_type here, over)

  head_missing : Some (HeadMissing n) o.declared.heads → SomeNumberMissing o
  head_missing (h, there, (inl (t, here, over))) = inl (t, of_parameter h there here, over)
  head_missing (h, there, (inr over)) = inl (h.result, of_result h there refl, over)

  name_missing : NameMissing → SomeNumberMissing o
  name_missing (t, is, over) = inl (t, of_names is, over)

  pub numbers_tell : Tells (numbers_exist o) (AllNumbersExist o) (SomeNumberMissing o)
  unfolding numbers_exist
  numbers_tell =
      tells_as (λ all. (number_below all.0.0.0 all.0.0.1 all.0.1, all.1)) (⊎_elim (⊎_elim (⊎_elim field_missing head_missing) name_missing) inr)
      (tells_both (tells_both (tells_both (types_tell n o.declared.types) (heads_tell n o.declared.heads)) name_tells)
      (ltb_tells o.goal.source (length o.declared.heads)))

  numbers_apart : AllNumbersExist o → SomeNumberMissing o → ⊥
  numbers_apart all (inl (t, number, over)) = omega (arith, all.0 t number, over)
  numbers_apart all (inr over) = omega (arith, all.1, over)

  -- the test passes and fails under exactly these
  pub numbers_exist_exactly : (numbers_exist o ≡ true) ↔ AllNumbersExist o
  numbers_exist_exactly = passes_exactly numbers_apart numbers_tell

  pub number_missing_exactly : (numbers_exist o ≡ false) ↔ SomeNumberMissing o
  number_missing_exactly = fails_exactly numbers_apart numbers_tell
