-- The constructors that a fork has yet to take, one by one: the one of a number is taken or left out, and behind the last there is none.
-- Rests on Untried of specs/, on reach's Types, on lookups' Tables and on depths' Padded.
use Prim.Native.Nat.{ℕ, zero, suc, ◌+◌, ◌-◌, ◌≤◌, ◌<◌}
use mathlib.Core.Path.{◌≡◌, refl, sym, ap, ◌∙◌}
use mathlib.Core.Bool.{Bool, true, false}
use mathlib.Core.List.{List, [], ◌∷◌, map}
use mathlib.Core.Option.{none, some}
use lib.ListN.{length, get_or, get_elem?, drop}
use lib.Seq.{drop-nil}
use lib.Dec.{ltb}
use borrow.Author.Tests.{ltb-true, ltb-false}
use native.Mathlib.Numerals.{add-one}
use native.Mathlib.Omega.{arith}
use Rattle.reach.proofs.Base.{clash}
use Rattle.reach.specs.Syntax.{Types, field_types}
use Rattle.reach.specs.Types.{forks, forks_from, shallow}
use Rattle.reach.specs.Places.{bytes_at, constructors_at, type_at}
use Rattle.reach.proofs.Places.{bytes_length}
use Rattle.std.specs.Prelude as Std
use Rattle.std.specs.Prelude.{Some, None}
use Rattle.lookups.specs.Fields as Lookup
use Rattle.lookups.specs.Fields.{fields_in}
use Rattle.lookups.specs.declared.FieldTypes.{FieldTypes}
use Rattle.lookups.specs.declared.Constructors.{Constructors}
use Rattle.lookups.proofs.Tables.{constructor_missing, fields_found, fields_missing}
use Rattle.depths.specs.Table.{padded}
use Rattle.depths.proofs.Padded.{padded_shallow}
use Rattle.forks.specs.Untried.{untried, untried_in}

-- ---- the elements from a number on

module _ {A : Type 0} where
  -- the one of that number is the first of them
  drop_found : (xs : List A) (c : ℕ) (x : A) → get_elem? xs c ≡ some x → drop c xs ≡ x ∷ drop (suc c) xs
  drop_found [] c x e = absurd (clash (cc))
  drop_found (y ∷ ys) zero x e = let z : y ≡ x = cc in rw z
  drop_found (y ∷ ys) (suc c) x e = drop_found ys c x e

  -- where there is none of that number, there are none
  drop_missing : (xs : List A) (c : ℕ) → get_elem? xs c ≡ none → drop c xs ≡ []
  drop_missing [] c e = drop-nil c
  drop_missing (y ∷ ys) zero e = absurd (clash (cc))
  drop_missing (y ∷ ys) (suc c) e = drop_missing ys c e

-- ---- one constructor more

module _ (types : Types) (table : List ℕ) (t : ℕ) where
  -- from the first on, they are those of the fork
  pub untried_all : (room : ℕ) → untried types table t room 0 ≡ forks types table t room
  unfolding untried forks
  untried_all zero = refl
  untried_all (suc below) = refl

  -- where nothing may stand, none
  pub untried_no_room : (room c : ℕ) → room ≤ 0 → untried types table t room c ≡ []
  unfolding untried
  untried_no_room zero c h = refl
  untried_no_room (suc below) c h = absurd (omega arith)

  -- the constructor of the number is taken
  pub untried_taken : (room c : ℕ) (us : List ℕ) → 0 < room → field_types types t c ≡ some us → shallow table (room - 1) us ≡ true
      → untried types table t room c ≡ record { constructor = c; fields = length us } ∷ untried types table t room (suc c)
  unfolding untried field_types forks_from
  untried_taken zero c us h e k = absurd (omega arith)
  untried_taken (suc below) c us h e k =
      let z : suc below - 1 ≡ below = omega arith in
      rw (drop_found (get_or types t []) c us e, rw z at k)

  -- the constructor of the number is left out
  pub untried_left_out : (room c : ℕ) (us : List ℕ) → 0 < room → field_types types t c ≡ some us → shallow table (room - 1) us ≡ false
      → untried types table t room c ≡ untried types table t room (suc c)
  unfolding untried field_types forks_from
  untried_left_out zero c us h e k = absurd (omega arith)
  untried_left_out (suc below) c us h e k =
      let z : suc below - 1 ≡ below = omega arith in
      rw (drop_found (get_or types t []) c us e, rw z at k)

  -- there is no constructor of the number
  pub untried_none : (room c : ℕ) → field_types types t c ≡ none → untried types table t room c ≡ []
  unfolding untried field_types forks_from
  untried_none zero c e = refl
  untried_none (suc below) c e = rw (drop_missing (get_or types t []) c e)

-- ---- the same, the types' records standing at places of the file

-- there is no constructor of a number from the type's count on
fields_end :
    (file types : List ℕ) (t c : ℕ) (all : Constructors) → constructors_at file all.at all.count ≡ type_at file (get_or types t 0) → all.count ≤ c
    → fields_in file types t c ≡ none
fields_end file types t c all is h = by_type (ltb t (length types)) refl
  where
    by_type : (b : Bool) → ltb t (length types) ≡ b → fields_in file types t c ≡ none
    by_type true there =
        fields_found file types t c (ltb-true t (length types) there) ∙ ap (λ cs. get_elem? cs c) (sym is) ∙ constructor_missing file all.at all.count c h
    by_type false out = fields_missing file types t c (ltb-false t (length types) out)

module _ (file types table : List ℕ) (t room : ℕ) where
  -- so none is left to take there
  pub untried_end :
      (c : ℕ) (all : Constructors) → constructors_at file all.at all.count ≡ type_at file (get_or types t 0) → all.count ≤ c
      → untried_in file types table t room c ≡ []
  untried_end c all is h = untried_none (map (type_at file) types) table t room c (fields_end file types t c all is h)

  -- the lookup's answer at number c: no such constructor
  module _ (c : ℕ) (r : Std.Option FieldTypes) (told : Lookup.field_types file r ≡ fields_in file types t c) where
    pub found_none : r ≡ None → untried_in file types table t room c ≡ []
    found_none e = untried_none (map (type_at file) types) table t room c (sym told ∙ ap (λ x. Lookup.field_types file x) e)

    module _ {found : FieldTypes} (e : r ≡ Some found) where
      -- its fields, where they were found
      pub found_fields : fields_in file types t c ≡ some (bytes_at file found.at found.count)
      found_fields = sym told ∙ ap (λ x. Lookup.field_types file x) e

      -- they may be so deep: it is the next one
      pub found_taken : {q : Bool} → 0 < room → q ≡ shallow table (room - 1) (bytes_at file found.at found.count) → q ≡ true
          → untried_in file types table t room c ≡ record { constructor = c; fields = found.count } ∷ untried_in file types table t room (suc c)
      found_taken h tested is =
          rw (bytes_length file found.at found.count) at (untried_taken (map (type_at file) types) table t room c (bytes_at file found.at found.count) h found_fields (sym tested ∙ is))

      -- one of them may not: what is left is left behind it
      pub found_left_out : {q : Bool} → 0 < room → q ≡ shallow table (room - 1) (bytes_at file found.at found.count) → q ≡ false
          → untried_in file types table t room c ≡ untried_in file types table t room (c + 1)
      found_left_out h tested is = rw add-one (untried_left_out (map (type_at file) types) table t room c (bytes_at file found.at found.count) h found_fields (sym tested ∙ is))

-- ---- the table with zeros behind it

module _ (table : List ℕ) where
  -- the test of each constructor looks its fields' least depths up
  forks_padded : (d c : ℕ) (cs : List (List ℕ)) → forks_from (padded table) d c cs ≡ forks_from table d c cs
  unfolding forks_from
  forks_padded d c [] = refl
  forks_padded d c (us ∷ cs) = rw (padded_shallow table d us, forks_padded d (suc c) cs)

  -- zeros behind the table change nothing
  pub untried_padded : (types : Types) (t room c : ℕ) → untried types (padded table) t room c ≡ untried types table t room c
  unfolding untried
  untried_padded types t zero c = refl
  untried_padded types t (suc below) c = forks_padded below c (drop c (get_or types t []))
