-- The tests of a name's type, at the places where the types' records stand.
-- Rests on reach's Names and Places, and on the tables of lookups.
use Prim.Native.Nat.{ℕ, zero, suc, ◌+◌, ◌≤◌, ◌<◌}
use mathlib.Core.Path.{◌≡◌, refl, sym, ap, ◌∙◌}
use mathlib.Core.Bool.{false, ◌&&◌, and_assoc}
use mathlib.Core.List.{List, [], ◌∷◌, map}
use mathlib.Core.Option.{none, some, some-injective, none-ne-some}
use native.Mathlib.Omega.{arith}
use lib.ListN.{length, get_or, get_elem?}
use lib.Dec.{eqb}
use borrow.Author.Tests.{ne_eqb}
use Rattle.std.specs.Prelude.{Option, Some, None}
use Rattle.reach.specs.Syntax.{Types}
use Rattle.reach.specs.Syntax as Syntax
use Rattle.reach.specs.Places.{bytes_at, constructors_at, type_at}
use Rattle.reach.specs.Names.{fieldless, is_half, is_letter, is_name, spells}
use Rattle.reach.proofs.Places.{bytes_length}
use Rattle.lookups.specs.declared.Constructors.{Constructors}
use Rattle.lookups.specs.declared.FieldTypes.{FieldTypes}
use Rattle.std.specs.List.{list_all}
use Rattle.lookups.specs.Fields.{field_types, fields_in, places_at}
use Rattle.spelling.specs.Letter.{has_letter}
use Rattle.lookups.proofs.Tables.{entry, no_entry, constructors_length}

-- the element of a number, and what stands for none
at_some : {A : Type 0} (xs : List A) (n : ℕ) (d : A) {x : A} → get_elem? xs n ≡ some x → get_or xs n d ≡ x
at_some [] n d {x} e = absurd (none-ne-some x e)
at_some (y ∷ xs) zero d {x} e = some-injective y x e
at_some (y ∷ xs) (suc n) d e = at_some xs n d e

at_none : {A : Type 0} (xs : List A) (n : ℕ) (d : A) → get_elem? xs n ≡ none → get_or xs n d ≡ d
at_none [] n d e = refl
at_none (y ∷ xs) zero d e = absurd (none-ne-some y (sym e))
at_none (y ∷ xs) (suc n) d e = at_none xs n d e

module _ (s : List ℕ) where
  -- Constructors without fields, by the number of fields of each.

  pub none_has : (at n : ℕ) → list_all (λ p. eqb p.1 0) (places_at s at n) ≡ fieldless (constructors_at s at n)
  unfolding places_at constructors_at fieldless
  none_has at zero = refl
  none_has at (suc n) = rw (bytes_length s (at + 1) (get_or s at 0), none_has (at + 1 + get_or s at 0) n)

  -- The constructors of a type that is there, and of one that is not.

  module _ (places : List ℕ) (t : ℕ) where
    abbrev types : Types
    types = map (type_at s) places

    pub no_half : length places ≤ t → is_half types t ≡ false
    unfolding is_half
    no_half h = rw (no_entry (type_at s) places [] t h)

    pub no_name : length places ≤ t → spells types t ≡ false
    unfolding spells is_name
    no_name h = rw (no_entry (type_at s) places [] t h)

    -- The fields of a letter, by the answer to where those of constructor 1 stand.

    module _ (r : Option FieldTypes) (told : field_types s r ≡ fields_in s places t 1) where
      pub no_letter : r ≡ None → has_letter types t ≡ false
      unfolding Syntax.field_types is_letter
      no_letter is = rw (at_none (get_or types t []) 1 [] (sym told ∙ ap (field_types s) is))

      module _ {fields : FieldTypes} (is : r ≡ Some fields) where
        fields_are : get_or (get_or types t []) 1 [] ≡ bytes_at s fields.at fields.count
        unfolding Syntax.field_types
        fields_are = at_some (get_or types t []) 1 [] (sym told ∙ ap (field_types s) is)

        pub not_three : (fields.count ≡ 3 → ⊥) → has_letter types t ≡ false
        unfolding is_letter
        not_three k = rw (fields_are, bytes_length s fields.at fields.count, ne_eqb fields.count 3 k)

        pub three : fields.count ≡ 3
            → has_letter types t ≡ (is_half types (get_or s fields.at 0) && is_half types (get_or s (fields.at + 1) 0)) && eqb (get_or s (fields.at + 2) 0) t
        unfolding is_letter bytes_at
        three k =
            let z : fields.at + 1 + 1 ≡ fields.at + 2 = omega arith in
            rw (fields_are, k, z) (sym (and_assoc (is_half types (get_or s fields.at 0)) _ _))

    -- How many constructors there are, and what the first two have.

    module _ (cs : Constructors) (found : constructors_at s cs.at cs.count ≡ type_at s (get_or places t 0)) (h : t < length places) where
      type_is : get_or types t [] ≡ constructors_at s cs.at cs.count
      type_is = entry (type_at s) places 0 [] t h ∙ sym found

      pub half_is : is_half types t ≡ eqb cs.count 16 && fieldless (constructors_at s cs.at cs.count)
      unfolding is_half
      half_is = rw (type_is, constructors_length s cs.at cs.count)

      pub not_two : (cs.count ≡ 2 → ⊥) → spells types t ≡ false
      unfolding spells is_name
      not_two k = rw (type_is, constructors_length s cs.at cs.count, ne_eqb cs.count 2 k)

      pub two : cs.count ≡ 2 → spells types t ≡ eqb (get_or s cs.at 0) 0 && has_letter types t
      unfolding spells is_name constructors_at
      two k = rw (type_is, k, bytes_length s (cs.at + 1) (get_or s cs.at 0))
