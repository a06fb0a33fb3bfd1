-- The letters that stand in the bytes of a name are those that it spells once it is filled.
-- Rests on names' Filling and Names, and on naming's Letters.
use Prim.Native.Nat.{ℕ, ◌<◌}
use mathlib.Core.Path.{◌≡◌, refl, subst, ◌∙◌}
use mathlib.Core.Logic.{inl, inr}
use mathlib.Core.Bool.{false}
use mathlib.Core.List.{List, [], ◌∷◌, ◌++◌, append_assoc}
use mathlib.Core.Option.{some}
use native.Mathlib.Omega.{arith}
use lib.ListN.{get_or, replicate}
use lib.Dec.{eqb}
use borrow.Author.Tests.{ne_eqb}
use Rattle.reach.specs.Syntax.{Types, field_types}
use Rattle.reach.specs.Parts.{Parts, end, opened, bound, prefix}
use Rattle.reach.specs.Types.{Typed}
use Rattle.reach.specs.Names.{Spells}
use Rattle.reach.specs.Partial.{fields_in}
use Rattle.reach.proofs.Base.{clash}
use Rattle.names.specs.Filling.{fill}
use Rattle.names.specs.Spelling.{spelled}
use Rattle.names.proofs.Names.{open_plain, Either, either, no_parts, high_only, low_only}
use Rattle.naming.specs.Letters.{half, letters}

-- at anything but a letter the name ends
letters_end : (c : ℕ) (rest : List ℕ) → eqb c 1 ≡ false → letters (c ∷ rest) ≡ []
unfolding letters
letters_end c [] no_letter = refl
letters_end c (h ∷ []) no_letter = refl
letters_end c (h ∷ l ∷ rest) no_letter = rw no_letter

module _ (types : Types) (table : List ℕ) (levels t : ℕ) (spells : Spells types t) where
  -- A half as it stands before the rest of a row, and the number that it is filled with.
  record Half (us : List ℕ) (fs gs rest : Parts) : Type 0 where
    byte : ℕ
    number : ℕ
    stands : prefix fs ≡ byte ∷ prefix rest
    filled : gs ≡ bound number end (fill types table levels us rest)
    same : half byte ≡ number

  open_half : (u : ℕ) (us : List ℕ) (r : Parts) → get_or types u [] ≡ replicate 16 [] → Half us (opened r) (fill types table levels (u ∷ us) (opened r)) r
  unfolding prefix
  open_half u us r plain = record { byte = 0xff; number = 0; stands = refl; filled = open_plain types table levels u us (replicate 15 []) r plain; same = refl }

  bound_half : (u h : ℕ) (us vs : List ℕ) (hs r : Parts) → field_types types u h ≡ some vs → (h < 16) × (vs ≡ []) → Typed types vs hs
      → Half us (bound h hs r) (fill types table levels (u ∷ us) (bound h hs r)) r
  unfolding prefix fill
  bound_half u h us vs hs r has (small, none_there) inner =
      let nothing : hs ≡ end = no_parts types t spells hs (subst (λ (xs : List ℕ). Typed types xs hs) none_there inner) in
      record {
        byte = h;
        number = h;
        stands = rw nothing refl;
        filled = rw nothing refl;
        same = rw (ne_eqb h 0xff (λ is. omega (arith, small, is))) refl;
      }

  -- a letter before a name
  letter_spelled : (fs g1 name : Parts) (rest : List ℕ) → Half (spells.low ∷ t ∷ []) fs (fill types table levels (spells.high ∷ spells.low ∷ t ∷ []) fs) g1
      → Half (t ∷ []) g1 (fill types table levels (spells.low ∷ t ∷ []) g1) name
      → letters (prefix name ++ rest) ≡ spelled (fill types table levels (t ∷ []) name) → (r : Parts)
      → letters (1 ∷ (prefix fs ++ rest)) ≡ spelled (bound 1 (fill types table levels (spells.high ∷ spells.low ∷ t ∷ []) fs) r)
  unfolding letters spelled
  letter_spelled fs g1 name rest high low below r = rw (high.stands, low.stands, high.filled, low.filled, high.same, low.same, below) refl

  -- the fields of a letter
  abbrev LetterRow : Parts → Type 0
  LetterRow fs = Typed types (spells.high ∷ spells.low ∷ t ∷ []) fs

  -- a constructor with fields is a letter
  abbrev Spelled : Parts → List ℕ → Type 0
  Spelled e rest = letters (prefix e ++ rest) ≡ spelled (fill types table levels (t ∷ []) e)

  letter_case : (c : ℕ) (fs r : Parts) (rest : List ℕ) → Typed types (t ∷ []) (bound c fs r) → ¬ (fs ≡ end)
      → (LetterRow fs → letters (1 ∷ (prefix fs ++ (prefix r ++ rest))) ≡ spelled (bound 1 (fill types table levels (spells.high ∷ spells.low ∷ t ∷ []) fs) (fill types table levels [] r)))
      → Spelled (bound c fs r) rest
  unfolding prefix fill
  letter_case c fs r rest (us, has, inner, others) some-field made = by_either (either types t spells c us has)
    where
      by_either : Either types t spells c us → letters (c ∷ ((prefix fs ++ prefix r) ++ rest)) ≡ spelled (bound c (fill types table levels (fields_in types (some t) c) fs) (fill types table levels [] r))
      by_either (inl (is, none_there)) = absurd (some-field (no_parts types t spells fs (subst (λ (xs : List ℕ). Typed types xs fs) none_there inner)))
      by_either (inr (is, these)) = rw (has, these, is, append_assoc) (made (subst (λ (xs : List ℕ). Typed types xs fs) these inner))

  empty_case : (c : ℕ) (r : Parts) (rest : List ℕ) → Typed types (t ∷ []) (bound c end r) → Spelled (bound c end r) rest
  unfolding prefix fill spelled
  empty_case c r rest (us, has, inner, others) = by_either (either types t spells c us has)
    where
      by_either : Either types t spells c us → letters (c ∷ (prefix r ++ rest)) ≡ []
      by_either (inl (is, none_there)) = rw is (letters_end 0 (prefix r ++ rest) refl)
      by_either (inr (is, these)) = absurd (subst (λ (xs : List ℕ). Typed types xs end) these inner)

  pub name_letters : (e : Parts) → Typed types (t ∷ []) e → (rest : List ℕ) → Spelled e rest
  unfolding prefix spelled
  name_letters end h rest = absurd h
  name_letters (opened r) h rest = letters_end 0xff (prefix r ++ rest) refl ∙ rw (open_plain types table levels t [] _ r spells.constructors) refl
  name_letters (bound c end r) h rest = empty_case c r rest h
  name_letters (bound c (opened end) r) h rest = letter_case c (opened end) r rest h (λ is. clash (cc)) (λ row. absurd row)
  name_letters (bound c (bound x xs end) r) h rest = letter_case c (bound x xs end) r rest h (λ is. clash (cc)) (λ row. absurd row.3)
  name_letters (bound c (opened (opened name)) r) h rest =
      letter_case c (opened (opened name)) r rest h (λ is. clash (cc))
      (λ row. letter_spelled (opened (opened name)) (opened name) name (prefix r ++ rest)
      (open_half spells.high _ (opened name) spells.high_half) (open_half spells.low _ name spells.low_half)
      (name_letters name row (prefix r ++ rest)) (fill types table levels [] r))
  name_letters (bound c (opened (bound l ls name)) r) h rest =
      letter_case c (opened (bound l ls name)) r rest h (λ is. clash (cc))
      (λ row. let (vs, has, inner, others) = row in
      letter_spelled (opened (bound l ls name)) (bound l ls name) name (prefix r ++ rest)
      (open_half spells.high _ (bound l ls name) spells.high_half)
      (bound_half spells.low l _ vs ls name has (low_only types t spells l vs has) inner)
      (name_letters name others (prefix r ++ rest)) (fill types table levels [] r))
  name_letters (bound c (bound x xs (opened name)) r) h rest =
      letter_case c (bound x xs (opened name)) r rest h (λ is. clash (cc))
      (λ row. let (vs, has, inner, others) = row in
      letter_spelled (bound x xs (opened name)) (opened name) name (prefix r ++ rest)
      (bound_half spells.high x _ vs xs (opened name) has (high_only types t spells x vs has) inner)
      (open_half spells.low _ name spells.low_half)
      (name_letters name others (prefix r ++ rest)) (fill types table levels [] r))
  name_letters (bound c (bound x xs (bound l ls name)) r) h rest =
      letter_case c (bound x xs (bound l ls name)) r rest h (λ is. clash (cc))
      (λ row. let (vs, has, inner, (ws, low-has, low-inner, others)) = row in
      letter_spelled (bound x xs (bound l ls name)) (bound l ls name) name (prefix r ++ rest)
      (bound_half spells.high x _ vs xs (bound l ls name) has (high_only types t spells x vs has) inner)
      (bound_half spells.low l _ ws ls name low-has (low_only types t spells l ws low-has) low-inner)
      (name_letters name others (prefix r ++ rest)) (fill types table levels [] r))
