-- Lookups in the tables of places: what stands at a number of a list that a function was mapped over, the bytes and constructors that a
-- place of the file begins, and how many of them a record has.
-- Rests on reach's Places and specs/Heads.
use Prim.Native.Nat.{ℕ, zero, suc, ◌+◌, ◌-◌, ◌≤◌, ◌<◌}
use mathlib.Core.Path.{◌≡◌, refl, sym, ◌∙◌, ap, subst}
use mathlib.Core.List.{List, [], ◌∷◌, map}
use mathlib.Core.Option.{none, some, some-injective, none-ne-some}
use lib.ListN.{length, get_or, get_elem?, drop, drop_of_length-le}
use lib.Seq.{drop-cons}
use native.Mathlib.Numerals.{add-one}
use native.Mathlib.Omega.{arith}
use Rattle.reach.specs.RuleFile as RuleFile
use Rattle.reach.specs.Syntax as Syntax
use Rattle.reach.specs.Types.{slots}
use Rattle.reach.specs.Places.{bytes_at, constructors_at, type_at}
use Rattle.reach.proofs.Places.{bytes_length}
use Rattle.reach.proofs.Slots.{slots_from}
use Rattle.lookups.specs.declared.Head.{Head}
use Rattle.lookups.specs.declared.Constructors.{Constructors}
use Rattle.lookups.specs.declared.FieldTypes.{FieldTypes}
use Rattle.lookups.specs.Fields.{fields_in, FieldCount, field_types, NearFields}
use Rattle.std.specs.Prelude as Std
use Rattle.std.specs.Prelude.{Some, None}
use Rattle.std.specs.Option.{MatchOption}
use Rattle.lookups.specs.Heads.{head_of}

module _ {A B : Type 0} (f : A → B) where
  -- the element of a mapped list, and none past its end
  pub found : (xs : List A) (d : A) (n : ℕ) → n < length xs → get_elem? (map f xs) n ≡ some (f (get_or xs n d))
  found [] d n h = absurd (omega arith)
  found (x ∷ xs) d zero h = refl
  found (x ∷ xs) d (suc n) h = found xs d n (omega arith)

  pub missing : (xs : List A) (n : ℕ) → length xs ≤ n → get_elem? (map f xs) n ≡ none
  missing [] n h = refl
  missing (x ∷ xs) zero h = absurd (omega arith)
  missing (x ∷ xs) (suc n) h = missing xs n (omega arith)

  -- the same where a default stands past the end
  pub entry : (xs : List A) (d : A) (e : B) (n : ℕ) → n < length xs → get_or (map f xs) n e ≡ f (get_or xs n d)
  entry [] d e n h = absurd (omega arith)
  entry (x ∷ xs) d e zero h = refl
  entry (x ∷ xs) d e (suc n) h = entry xs d e n (omega arith)

  pub no_entry : (xs : List A) (e : B) (n : ℕ) → length xs ≤ n → get_or (map f xs) n e ≡ e
  no_entry [] e n h = refl
  no_entry (x ∷ xs) e zero h = absurd (omega arith)
  no_entry (x ∷ xs) e (suc n) h = no_entry xs e n (omega arith)

module _ (s : List ℕ) where
  -- the first of the bytes from a place on
  pub bytes_more : (i n : ℕ) → 0 < n → bytes_at s i n ≡ get_or s i 0 ∷ bytes_at s (i + 1) (n - 1)
  unfolding bytes_at
  bytes_more i zero h = absurd (omega arith)
  bytes_more i (suc n) h = let z : suc n - 1 ≡ n = omega arith in rw z

  pub bytes_none : (i n : ℕ) → n ≤ 0 → bytes_at s i n ≡ []
  unfolding bytes_at
  bytes_none i zero h = refl
  bytes_none i (suc n) h = absurd (omega arith)

  -- the slots of n types that stand from a place on, with a depth for each: the one of number i, and those behind it
  pub slots_more : (at n i : ℕ) (ds : List ℕ) → i < n
      → slots (bytes_at s (at + i) (n - i)) (drop i ds)
      ≡ record { type = get_or s (at + i) 0; room = get_or ds i 0 } ∷ slots (bytes_at s (at + (i + 1)) (n - (i + 1))) (drop (i + 1) ds)
  slots_more at n i ds h =
      let place : at + i + 1 ≡ at + (i + 1) = omega arith in
      let left : n - i - 1 ≡ n - (i + 1) = omega arith in
      rw (bytes_more (at + i) (n - i) (omega arith), place, left) (slots_from _ _ ds i)

  pub slots_none : (at n i : ℕ) (ds : List ℕ) → n ≤ i → slots (bytes_at s (at + i) (n - i)) (drop i ds) ≡ []
  unfolding slots
  slots_none at n i ds h = rw (bytes_none (at + i) (n - i) (omega arith)) refl

  -- the first of the constructors from a place on
  pub constructors_more : (i n : ℕ) → 0 < n
      → constructors_at s i n ≡ bytes_at s (i + 1) (get_or s i 0) ∷ constructors_at s (i + 1 + get_or s i 0) (n - 1)
  unfolding constructors_at
  constructors_more i zero h = absurd (omega arith)
  constructors_more i (suc n) h = let z : suc n - 1 ≡ n = omega arith in rw z

  pub constructors_none : (i n : ℕ) → n ≤ 0 → constructors_at s i n ≡ []
  unfolding constructors_at
  constructors_none i zero h = refl
  constructors_none i (suc n) h = absurd (omega arith)

  pub constructors_length : (i n : ℕ) → length (constructors_at s i n) ≡ n
  unfolding constructors_at
  constructors_length i zero = refl
  constructors_length i (suc n) = ap suc (constructors_length (i + 1 + get_or s i 0) n)

  -- the parameters of a function that was found
  pub parameters_are : (h : Head) {g : RuleFile.Head} → head_of s h ≡ g → bytes_at s h.parameters.at h.parameters.count ≡ g.parameters
  parameters_are h is = ap (λ (g : RuleFile.Head). g.parameters) is

  -- a function has as many parameters as its record counts, and a type as many constructors
  pub parameters_many : (h : Head) {g : RuleFile.Head} → head_of s h ≡ g → length g.parameters ≡ h.parameters.count
  parameters_many h is = ap (λ (g : RuleFile.Head). length g.parameters) (sym is) ∙ bytes_length s h.parameters.at h.parameters.count

  pub constructors_many : (cs : Constructors) {ts : List (List ℕ)} → constructors_at s cs.at cs.count ≡ ts → length ts ≡ cs.count
  constructors_many cs is = ap length (sym is) ∙ constructors_length cs.at cs.count

  -- the constructor of a number: the first, a later one, and none where there are no more than the number
  pub constructor_first : (i n c : ℕ) → 0 < n → c ≤ 0 → get_elem? (constructors_at s i n) c ≡ some (bytes_at s (i + 1) (get_or s i 0))
  constructor_first i n zero h k = rw (constructors_more i n)
  constructor_first i n (suc c) h k = absurd (omega arith)

  pub constructor_later : (i n c : ℕ) → 0 < n → 0 < c
      → get_elem? (constructors_at s i n) c ≡ get_elem? (constructors_at s (i + 1 + get_or s i 0) (n - 1)) (c - 1)
  constructor_later i n zero h k = absurd (omega arith)
  constructor_later i n (suc c) h k = let z : suc c - 1 ≡ c = omega arith in rw (constructors_more i n, z)

  pub constructor_missing : (i n c : ℕ) → n ≤ c → get_elem? (constructors_at s i n) c ≡ none
  unfolding constructors_at
  constructor_missing i zero c h = refl
  constructor_missing i (suc n) zero h = absurd (omega arith)
  constructor_missing i (suc n) (suc c) h = constructor_missing (i + 1 + get_or s i 0) n c (omega arith)

  -- the fields of a constructor are those of the type's record
  pub fields_found : (types : List ℕ) (t c : ℕ) → t < length types → fields_in s types t c ≡ get_elem? (type_at s (get_or types t 0)) c
  unfolding Syntax.field_types
  fields_found types t c h = rw (entry (type_at s) types 0 [] t h)

  pub fields_missing : (types : List ℕ) (t c : ℕ) → length types ≤ t → fields_in s types t c ≡ none
  unfolding Syntax.field_types
  fields_missing types t c h = rw (no_entry (type_at s) types [] t h)

-- how many fields a constructor has, by the answer to where they stand
pub fields_known :
    (s types : List ℕ) (t c : ℕ) {found : FieldTypes} (r : Std.Option FieldTypes) → field_types s r ≡ fields_in s types t c → NearFields r → r ≡ Some found → FieldCount s types t c found.count
fields_known s types t c {found} r told near is = (
  λ us are. sym (bytes_length s found.at found.count) ∙ ap length (some-injective _ _ (ap (field_types s) (sym is) ∙ (told ∙ are))),
  (subst NearFields is near).1,
)

pub fields_unknown : (s types : List ℕ) (t c : ℕ) {r : Std.Option FieldTypes} → field_types s r ≡ fields_in s types t c → r ≡ None → FieldCount s types t c 0
fields_unknown s types t c told is = (λ us are. absurd (none-ne-some us (ap (field_types s) (sym is) ∙ (told ∙ are))), omega arith)

-- how many fields a constructor has, counted where they were found
pub fields_counted :
    (s types : List ℕ) (t c : ℕ) (r : Std.Option FieldTypes) → field_types s r ≡ fields_in s types t c → NearFields r
    → {n : ℕ} → MatchOption r (n ≡ 0) (λ found. n ≡ found.count) → FieldCount s types t c n
fields_counted s types t c (Some found) told near is = rw is (fields_known s types t c (Some found) told near refl)
fields_counted s types t c None told near is = rw is (fields_unknown s types t c told refl)

-- what stands at the places from number t on
module _ {A : Type 0} (f : ℕ → A) (places : List ℕ) (t : ℕ) where
  pub places_more : t < length places → map f (drop t places) ≡ f (get_or places t 0) ∷ map f (drop (t + 1) places)
  places_more h = rw (add-one, drop-cons places t 0)

  pub places_none : length places ≤ t → map f (drop t places) ≡ []
  places_none h = rw (drop_of_length-le places h)
