-- The test of 15 passes under exactly the form that 02, Slip 4, asks of the type of names.
-- Rests on specs/Names and on Tests.
use Prim.Native.Nat.{ℕ}
use mathlib.Core.Path.{◌≡◌, refl, sym, ap, ◌∙◌}
use mathlib.Core.Bool.{Bool, true, ◌&&◌, false≢true}
use mathlib.Core.Bool.{and-eq-true_iff}
use mathlib.Core.List.{List, [], ◌∷◌}
use lib.ListN.{length, get_or, replicate}
use lib.Dec.{eqb}
use borrow.Author.Tests.{eqb-true, eq-eqb}
use native.Mathlib.Omega.{arith}
use Rattle.reach.specs.Syntax.{Types}
use Rattle.reach.specs.Names.{Spells, fieldless, is_half, is_letter, is_name, spells}
use Rattle.reach.proofs.Base.{clash}
use Rattle.reach.proofs.Tests.{Tells, tells}

-- lists of a known length
no_element : {A : Type 0} (xs : List A) → length xs ≡ 0 → xs ≡ []
no_element [] e = refl
no_element (x ∷ xs) e = absurd (clash (cc))

two_elements : (cs : List (List ℕ)) → length cs ≡ 2 → cs ≡ get_or cs 0 [] ∷ get_or cs 1 [] ∷ []
two_elements [] e = absurd (omega (arith, e))
two_elements (a ∷ []) e = absurd (omega (arith, e))
two_elements (a ∷ b ∷ []) e = refl
two_elements (a ∷ b ∷ c ∷ cs) e = absurd (omega (arith, e))

three_elements : (us : List ℕ) → length us ≡ 3 → us ≡ get_or us 0 0 ∷ get_or us 1 0 ∷ get_or us 2 0 ∷ []
three_elements [] e = absurd (omega (arith, e))
three_elements (a ∷ []) e = absurd (omega (arith, e))
three_elements (a ∷ b ∷ []) e = absurd (omega (arith, e))
three_elements (a ∷ b ∷ c ∷ []) e = refl
three_elements (a ∷ b ∷ c ∷ d ∷ us) e = absurd (omega (arith, e))

both : (a b : Bool) → (a && b) ≡ true → (a ≡ true) × (b ≡ true)
both a b e = (and-eq-true_iff a b).0 e

-- constructors without fields are all alike
fieldless_alike : (cs : List (List ℕ)) → fieldless cs ≡ true → cs ≡ replicate (length cs) []
unfolding fieldless
fieldless_alike [] e = refl
fieldless_alike (us ∷ cs) e =
    let (none_here, rest) = both (eqb (length us) 0) (fieldless cs) e in
    rw (no_element us (eqb-true (length us) 0 none_here), ← fieldless_alike cs rest) refl

module _ (types : Types) where
  half_form : (t : ℕ) → is_half types t ≡ true → get_or types t [] ≡ replicate 16 []
  unfolding is_half
  half_form t e =
      let (sixteen, without) = both (eqb (length (get_or types t [])) 16) (fieldless (get_or types t [])) e in
      fieldless_alike (get_or types t []) without ∙ ap (λ (n : ℕ). replicate {A = List ℕ} n []) (eqb-true (length (get_or types t [])) 16 sixteen)

  module _ (t : ℕ) where
    letter_form : (us : List ℕ) → is_letter types t us ≡ true
        → (high low : ℕ) × (us ≡ high ∷ low ∷ t ∷ []) × (get_or types high [] ≡ replicate 16 []) × (get_or types low [] ≡ replicate 16 [])
    unfolding is_letter
    letter_form us e =
        let (three, rest) = both (eqb (length us) 3) _ e in
        let (first, others) = both (is_half types (get_or us 0 0)) _ rest in
        let (second, last) = both (is_half types (get_or us 1 0)) _ others in (
          get_or us 0 0,
          get_or us 1 0,
          three_elements us (eqb-true _ 3 three) ∙ ap (λ (n : ℕ). get_or us 0 0 ∷ get_or us 1 0 ∷ n ∷ []) (eqb-true (get_or us 2 0) t last),
          half_form (get_or us 0 0) first,
          half_form (get_or us 1 0) second,
        )

    name_form : (cs : List (List ℕ)) → get_or types t [] ≡ cs → is_name types t cs ≡ true → Spells types t
    unfolding is_name
    name_form cs is e =
        let (two, rest) = both (eqb (length cs) 2) _ e in
        let (without, letter) = both (eqb (length (get_or cs 0 [])) 0) _ rest in
        let (high, low, fields, high_half, low_half) = letter_form (get_or cs 1 []) letter in
        let nothing : get_or cs 0 [] ≡ [] = no_element (get_or cs 0 []) (eqb-true _ 0 without) in
        record {
          high = high;
          low = low;
          constructors =
              is ∙ two_elements cs (eqb-true (length cs) 2 two) ∙ ap (λ (us : List ℕ). us ∷ get_or cs 1 [] ∷ []) nothing ∙ ap (λ (us : List ℕ). [] ∷ us ∷ []) fields;
          high_half = high_half;
          low_half = low_half;
        }

    pub spells_form : spells types t ≡ true → Spells types t
    unfolding spells
    spells_form e = name_form (get_or types t []) refl e

    form_spells : Spells types t → spells types t ≡ true
    unfolding spells is_name is_letter is_half fieldless
    form_spells form = rw (form.constructors, form.high_half, form.low_half, eq-eqb t t refl) refl

    pub spells_tells : Tells (spells types t) (Spells types t) (¬ Spells types t)
    spells_tells = tells (spells types t) spells_form (λ fails form. false≢true (sym fails ∙ form_spells form))
