-- What a chain tells of the list that it goes over: the test of each byte from a place on, of each entry of a table, and of each constructor of a type.
-- Rests on Fields of specs/, on reach's Places and on the library's chains.
use Prim.Native.Nat.{ℕ, zero, suc, ◌+◌, ◌-◌, ◌≤◌, ◌<◌}
use mathlib.Core.Path.{◌≡◌, refl, sym, ap, ◌∙◌}
use mathlib.Core.Bool.{Bool, true, false, ◌&&◌, ◌||◌}
use mathlib.Core.List.{List, [], ◌∷◌, ◌++◌, map, append-nil}
use mathlib.Core.Option.{none, some, some-injective, none-ne-some}
use native.Mathlib.Omega.{arith}
use lib.ListN.{length, get_or, get_elem?, length-map}
use Rattle.std.specs.Iterator.{YieldsFirstBy, Yields, AlwaysYields, SkipsThenYields}
use Rattle.std.specs.Prelude.{Option, Some, None}
use Rattle.std.specs.List.{range_with_len, list_all, list_any}
use Rattle.std.proofs.lemmas.Iterator.{YieldsList}
use Rattle.reach.specs.Places.{bytes_at, constructors_at}
use Rattle.reach.proofs.Base.{clash}
use Rattle.lookups.specs.declared.EachConstructor.{EachConstructor}
use Rattle.lookups.specs.declared.FieldTypes.{FieldTypes}
use Rattle.lookups.specs.Fields.{field_types, place_of, places_at, places_left, constructors_left}

-- ---- an iterator that shows the list of what is left

elem_behind : {B : Type 0} (xs : List B) (x : B) (ys : List B) (n : ℕ) → length xs ≡ n → get_elem? (xs ++ (x ∷ ys)) n ≡ some x
elem_behind [] x ys n e = rw (← e)
elem_behind (y ∷ xs) x ys n e = rw (← e) (elem_behind xs x ys (length xs) refl)

elem_past : {B : Type 0} (xs : List B) (n : ℕ) → length xs ≤ n → get_elem? xs n ≡ none
elem_past [] n h = refl
elem_past (x ∷ xs) zero h = absurd (omega arith)
elem_past (x ∷ xs) (suc n) h = elem_past xs n (omega arith)

elem_mapped : {A B : Type 0} (f : A → B) (xs : List A) (n : ℕ) (x : A) → get_elem? xs n ≡ some x → get_elem? (map f xs) n ≡ some (f x)
elem_mapped f [] n x e = absurd (none-ne-some x e)
elem_mapped f (y ∷ xs) zero x e = ap (λ z. some (f z)) (some-injective y x e)
elem_mapped f (y ∷ xs) (suc n) x e = elem_mapped f xs n x e

elem_unmapped : {A B : Type 0} (f : A → B) (xs : List A) (n : ℕ) → get_elem? xs n ≡ none → get_elem? (map f xs) n ≡ none
elem_unmapped f [] n e = refl
elem_unmapped f (y ∷ xs) zero e = absurd (none-ne-some y (sym e))
elem_unmapped f (y ∷ xs) (suc n) e = elem_unmapped f xs n e

module _ {S A B : Type 0} (view : A → B) (rest : S → List B) where
  all_come : (ys : List B) (s : S) → rest s ≡ ys → AlwaysYields (YieldsFirstBy view rest) view s ys
  all_come [] s e = λ x j h. clash (cc)
  all_come (y ∷ ys) s e = (λ j h. clash (cc), λ x j h. ((cc), all_come ys j (cc)))

  -- what is left of an iterator are those that came and what is left then
  came : (xs : List A) (s t : S) → Yields (YieldsFirstBy view rest) s xs t → rest s ≡ map view xs ++ rest t
  came [] s t e = ap rest e
  came (x ∷ xs) s t (j, first, others) = first ∙ ap (λ l. view x ∷ l) (came xs j t others)

  -- the one of a number, where there is one, and where there is none
  nth_there : (s u : S) (n : ℕ) (x : A) → SkipsThenYields (YieldsFirstBy view rest) s n (Some x) u → get_elem? (rest s) n ≡ some (view x)
  nth_there s u n x (xs, (t, passed, here), many) =
      rw (came xs s t passed, here) (elem_behind (map view xs) (view x) (rest u) n (rw many at (length-map xs view)))

  nth_missing : (s u : S) (n : ℕ) → SkipsThenYields (YieldsFirstBy view rest) s n None u → get_elem? (rest s) n ≡ none
  nth_missing s u n (xs, (t, passed, nothing), many) =
      rw (came xs s t passed, nothing.0, append-nil) (elem_past (map view xs) n (omega (arith, length-map xs view)))

pub each_yields : (each : EachConstructor) → YieldsList (YieldsFirstBy place_of places_left) place_of each (places_left each)
each_yields each = record { runs = all_come place_of places_left (places_left each) each refl }

-- ---- a definition that tests each element of a list, and one that tests whether one element passes

pub record All {A : Type 0} (test : A → Bool) (all : List A → Bool) : Type 0 where
  pub none : all [] ≡ true
  pub more : (x : A) (xs : List A) → all (x ∷ xs) ≡ (test x && all xs)

pub record Any {A : Type 0} (test : A → Bool) (any : List A → Bool) : Type 0 where
  pub none : any [] ≡ false
  pub more : (x : A) (xs : List A) → any (x ∷ xs) ≡ (test x || any xs)

module _ {A : Type 0} {test : A → Bool} {all : List A → Bool} (d : All test all) where
  pub each_pass : (xs : List A) → list_all test xs ≡ all xs
  each_pass [] = rw d.none
  each_pass (x ∷ xs) = rw (d.more x xs, each_pass xs)

-- ---- n bytes from a place on

module _ {test : ℕ → Bool} {all : List ℕ → Bool} (d : All test all) (s : List ℕ) where
  pub bytes_pass : (at n : ℕ) → list_all (λ i. test (get_or s i 0)) (range_with_len at n) ≡ all (bytes_at s at n)
  unfolding bytes_at
  bytes_pass at zero = rw d.none
  bytes_pass at (suc n) = rw (d.more (get_or s at 0) (bytes_at s (at + 1) n), bytes_pass (at + 1) n)

-- ---- what stands at each place of a table

module _ {A : Type 0} {test : A → Bool} {all : List A → Bool} (d : All test all) (f : ℕ → A) where
  places_from : (places : List ℕ) (at : ℕ) (by : ℕ → Bool) → ((i : ℕ) → by (at + i) ≡ test (f (get_or places i 0)))
      → list_all by (range_with_len at (length places)) ≡ all (map f places)
  places_from [] at by same = rw d.none
  places_from (p ∷ ps) at by same =
      let here : at + 0 ≡ at = omega arith in
      let rest = places_from ps (at + 1) by (λ i. let next : at + 1 + i ≡ at + suc i = omega arith in rw next (same (suc i))) in
      rw (d.more (f p) (map f ps), ← rest, ← (same 0), here)

  pub places_pass : (places : List ℕ) → list_all (λ i. test (f (get_or places i 0))) (range_with_len 0 (length places)) ≡ all (map f places)
  places_pass places = places_from places 0 (λ i. test (f (get_or places i 0))) (λ i. let z : 0 + i ≡ i = omega arith in rw z)

-- ---- the constructors of a type

module _ (s : List ℕ) where
  abbrev pub fields_of_place : ℕ × ℕ → List ℕ
  fields_of_place p = bytes_at s p.0 p.1

  pub places_none : (at n : ℕ) → n ≤ 0 → places_at s at n ≡ []
  unfolding places_at
  places_none at zero h = refl
  places_none at (suc n) h = absurd (omega arith)

  pub places_more : (at n : ℕ) → 0 < n → places_at s at n ≡ (at + 1, get_or s at 0) ∷ places_at s (at + 1 + get_or s at 0) (n - 1)
  unfolding places_at
  places_more at zero h = absurd (omega arith)
  places_more at (suc n) h = let z : suc n - 1 ≡ n = omega arith in rw z

  pub constructors_are : (at n : ℕ) → map fields_of_place (places_at s at n) ≡ constructors_at s at n
  unfolding places_at constructors_at
  constructors_are at zero = refl
  constructors_are at (suc n) = rw (constructors_are (at + 1 + get_or s at 0) n)

  pub constructors_pass : {test : List ℕ → Bool} {all : List (List ℕ) → Bool} → All test all → (at n : ℕ)
      → list_all (λ p. test (fields_of_place p)) (places_at s at n) ≡ all (constructors_at s at n)
  unfolding places_at constructors_at
  constructors_pass d at zero = rw d.none
  constructors_pass d at (suc n) =
      rw (d.more (bytes_at s (at + 1) (get_or s at 0)) (constructors_at s (at + 1 + get_or s at 0) n), constructors_pass d (at + 1 + get_or s at 0) n)

  pub constructor_passes : {test : List ℕ → Bool} {any : List (List ℕ) → Bool} → Any test any → (at n : ℕ)
      → list_any (λ p. test (fields_of_place p)) (places_at s at n) ≡ any (constructors_at s at n)
  unfolding places_at constructors_at
  constructor_passes d at zero = rw d.none
  constructor_passes d at (suc n) =
      rw (d.more (bytes_at s (at + 1) (get_or s at 0)) (constructors_at s (at + 1 + get_or s at 0) n), constructor_passes d (at + 1 + get_or s at 0) n)

-- the constructor of a number, by the answer of `nth`
pub nth_fields : (each u : EachConstructor) (c : ℕ) (r : Option FieldTypes) → SkipsThenYields (YieldsFirstBy place_of places_left) each c r u
    → field_types each.file.now r ≡ get_elem? (constructors_left each) c
nth_fields each u c (Some found) told =
    let s = each.file.now in
    rw (← (constructors_are s each.at each.left))
    (sym (elem_mapped (fields_of_place s) (places_left each) c (place_of found) (nth_there place_of places_left each u c found told)))
nth_fields each u c None told =
    let s = each.file.now in
    rw (← (constructors_are s each.at each.left))
    (sym (elem_unmapped (fields_of_place s) (places_left each) c (nth_missing place_of places_left each u c told)))
