-- How the table of ends is filled: the place behind an expression of each kind, by the entries behind its place, and the table with one entry more.
-- Rests on specs/Ends, on Finding, on machine's Codes and on the lookups' Tables.
use Prim.Native.Nat.{ℕ, zero, suc, ◌+◌, ◌≤◌, ◌<◌, zero-le}
use mathlib.Core.Path.{◌≡◌, refl, sym, ◌∙◌, ap, ap₂}
use mathlib.Core.List.{List, [], ◌∷◌, map}
use mathlib.Core.Option.{some, some-injective, none-ne-some}
use mathlib.Core.Bool.{Bool, true, false}
use lib.Dec.{eqb}
use lib.ListN.{length, get_or, get_elem?, set, length-append}
use lib.Seq.{get_or-set_same, get_or-set_other}
use native.Mathlib.Omega.{arith}
use borrow.Author.Tests.{eqb-true, eqb-false}
use Rattle.reach.specs.Syntax.{Expr, Exprs, []ₑ, ◌∷ₑ◌, Alternatives, no_more, absent, present, count}
use Rattle.reach.specs.Encoding.{encode, encode_all, encode_alternatives, count_alternatives}
use Rattle.reach.specs.Places.{bytes_at, constructors_at, type_at, head_at, declarations_at}
use Rattle.reach.specs.RuleFile.{Declarations}
use Rattle.codes.proofs.Encoding.{places}
use Rattle.reach.proofs.Places.{bytes_length}
use Rattle.std.specs.Prelude.{Some, None}
use Rattle.std.specs.Prelude as Std
use Rattle.lookups.specs.Fields.{field_types, fields_in}
use Rattle.lookups.specs.Heads.{head_of}
use Rattle.lookups.specs.declared.Constructors.{Constructors}
use Rattle.lookups.specs.declared.FieldTypes.{FieldTypes}
use Rattle.lookups.specs.declared.Head.{Head}
use Rattle.lookups.proofs.Tables.{parameters_many, constructors_many}
use Rattle.machine.specs.Records.{Code, CodeAll, CodeAlternatives}
use Rattle.machine.proofs.Codes.{code_behind, code_kind, code_call, code_construct, code_case, code_let, code_target, code_next, code_absent, code_present, Coded, a_variable, a_call, a_construct, a_case, a_let, a_target}
use Rattle.skipping.specs.Ends.{passed_operands, passed_alternatives, Ends, EndAt, EndsFrom}
use Rattle.skipping.proofs.Finding.{alternative_absent, alternative_one}

-- what was found at a number of a mapped list
mapped : {B : Type 0} (f : ℕ → B) (xs : List ℕ) (n : ℕ) (b : B) → get_elem? (map f xs) n ≡ some b → f (get_or xs n 0) ≡ b
mapped f [] n b is = absurd (none-ne-some b is)
mapped f (x ∷ xs) zero b is = some-injective _ _ is
mapped f (x ∷ xs) (suc n) b is = mapped f xs n b is

module _ (file types functions ends : List ℕ) (k : ℕ) (filled : EndsFrom file types functions ends k) where
  abbrev d : Declarations
  d = declarations_at file types functions

  -- passing over operands, and over alternatives, leads to the place behind them
  passed_all : (i : ℕ) (es : Exprs) → k ≤ i → CodeAll file d i es → passed_operands ends (count es) i ≡ i + length (encode_all es)
  unfolding passed_operands encode count
  passed_all i []ₑ h code = omega arith
  passed_all i (e ∷ₑ es) h code =
      let at = code_next file d i e es code in
      let next = i + length (encode e) in
      let rest = passed_all next es (omega arith) (at.1 next (code_behind file d i e at.0)) in
      ap (λ (j : ℕ). passed_operands ends (count es) j) (filled i h e at.0) ∙ omega (arith, rest, length-append (encode e) (encode_all es))

  passed_alternatives_law : (i : ℕ) (alts : Alternatives) → k ≤ i → CodeAlternatives file d i alts
      → passed_alternatives file ends (count_alternatives alts) i ≡ i + length (encode_alternatives alts)
  unfolding passed_alternatives encode count_alternatives
  passed_alternatives_law i no_more h code = omega arith
  passed_alternatives_law i (absent alts) h code =
      let at = code_absent file d i alts code in
      let rest = passed_alternatives_law (i + 1) alts (omega arith) at.1 in
      ap (λ (j : ℕ). passed_alternatives file ends (count_alternatives alts) j) (alternative_absent file ends i at.0.1) ∙ omega (arith, rest)
  passed_alternatives_law i (present e alts) h code =
      let at = code_present file d i e alts code in
      let next = i + 1 + length (encode e) in
      let rest = passed_alternatives_law next alts (omega arith) (at.2 next (code_behind file d (i + 1) e at.1)) in
      ap (λ (j : ℕ). passed_alternatives file ends (count_alternatives alts) j) (alternative_one file ends i at.0 ∙ filled (i + 1) (omega arith) e at.1)
      ∙ omega (arith, rest, length-append (encode e) (encode_alternatives alts))

  -- The place behind an expression of each kind, by the code at its place and the numbers behind it.
  module _ (i : ℕ) (behind : k ≤ i + 1) where
    -- the kind, by the code
    kind : {code : ℕ} (x : Expr) → get_or file i 0 ≡ code → Code file d i x → Coded code x
    kind x is there = rw is at (code_kind file d i x there).1

    variable_end : (x : Expr) → Coded 0 x → Code file d i x → i + 2 ≡ i + length (encode x)
    unfolding encode
    variable_end x a_variable there = refl

    pub end_variable : get_or file i 0 ≡ 0 → EndAt file types functions i (i + 2)
    end_variable is x there = variable_end x (kind x is there) there

    -- a call has as many operands as the function has parameters
    call_end : (head : Head) → head_of file head ≡ head_at file (get_or functions (get_or file (i + 1) 0) 0) → (x : Expr) → Coded 1 x → Code file d i x
        → passed_operands ends head.parameters.count (i + 2) ≡ i + length (encode x)
    unfolding encode declarations_at
    call_end head told x (a_call {f} {es}) there =
        let at = code_call file d i f es there in
        let (h, known, many, _) = there.1 in
        let same : head_of file head ≡ h = told ∙ (ap (λ (n : ℕ). head_at file (get_or functions n 0)) at.1.1 ∙ mapped (head_at file) functions f h known) in
        let z : head.parameters.count ≡ count es = sym (parameters_many file head same) ∙ sym many in
        rw z (omega (arith, passed_all (i + 2) es (omega arith) at.2))

    pub end_call : get_or file i 0 ≡ 1 → (head : Head) → head_of file head ≡ head_at file (get_or functions (get_or file (i + 1) 0) 0)
        → EndAt file types functions i (passed_operands ends head.parameters.count (i + 2))
    end_call is head told x there = call_end head told x (kind x is there) there

    -- a construction has as many operands as its constructor has fields
    construct_end : {found : FieldTypes} (r : Std.Option FieldTypes) → field_types file r ≡ fields_in file types (get_or file (i + 1) 0) (get_or file (i + 2) 0) → r ≡ Some found
        → (x : Expr) → Coded 2 x → Code file d i x → passed_operands ends found.count (i + 3) ≡ i + length (encode x)
    unfolding encode declarations_at
    construct_end {found} r told is x (a_construct {t} {c} {es}) there =
        let at = code_construct file d i t c es there in
        let (us, known, many, _) = there.1 in
        let same : some (bytes_at file found.at found.count) ≡ some us =
        ap (field_types file) (sym is) ∙ (told ∙ (ap₂ (fields_in file types) at.1.1 at.2.1 ∙ known)) in
        let z : found.count ≡ count es = sym (bytes_length file found.at found.count) ∙ (ap length (some-injective _ _ same) ∙ sym many) in
        rw z (omega (arith, passed_all (i + 3) es (omega arith) at.3))

    pub end_construct : {found : FieldTypes} → get_or file i 0 ≡ 2 → (r : Std.Option FieldTypes) → field_types file r ≡ fields_in file types (get_or file (i + 1) 0) (get_or file (i + 2) 0)
        → r ≡ Some found → EndAt file types functions i (passed_operands ends found.count (i + 3))
    end_construct is r told that x there = construct_end r told that x (kind x is there) there

    -- where the constructor is unknown, no construction stands
    construct_no_end : (r : Std.Option FieldTypes) → field_types file r ≡ fields_in file types (get_or file (i + 1) 0) (get_or file (i + 2) 0) → r ≡ None
        → (x : Expr) → Coded 2 x → Code file d i x → ⊥
    unfolding declarations_at
    construct_no_end r told unknown x (a_construct {t} {c} {es}) there =
        let at = code_construct file d i t c es there in
        let (us, known, many, _) = there.1 in
        none-ne-some us (ap (field_types file) (sym unknown) ∙ (told ∙ (ap₂ (fields_in file types) at.1.1 at.2.1 ∙ known)))

    pub no_end : get_or file i 0 ≡ 2 → (r : Std.Option FieldTypes) → field_types file r ≡ fields_in file types (get_or file (i + 1) 0) (get_or file (i + 2) 0)
        → r ≡ None → (end : ℕ) → EndAt file types functions i end
    no_end is r told unknown end x there = absurd (construct_no_end r told unknown x (kind x is there) there)

    -- a case has as many alternatives as its type has constructors
    case_end : (all : Constructors) → constructors_at file all.at all.count ≡ type_at file (get_or types (get_or file (i + 1) 0) 0)
        → (x : Expr) → Coded 3 x → Code file d i x → passed_alternatives file ends all.count (get_or ends (i + 2) 0) ≡ i + length (encode x)
    unfolding encode declarations_at
    case_end all told x (a_case {t} {e} {alts}) there =
        let at = code_case file d i t e alts there in
        let (cs, known, many, _, _) = there.1 in
        let next = i + 2 + length (encode e) in
        let same : constructors_at file all.at all.count ≡ cs = told ∙ (ap (λ (n : ℕ). type_at file (get_or types n 0)) at.1.1 ∙ mapped (type_at file) types t cs known) in
        let z : all.count ≡ count_alternatives alts = sym (constructors_many file all same) ∙ sym many in
        let rest = passed_alternatives_law next alts (omega arith) (at.3 next (code_behind file d (i + 2) e at.2)) in
        rw (z, filled (i + 2) (omega arith) e at.2) (omega (arith, rest, length-append (encode e) (encode_alternatives alts)))

    pub end_case : get_or file i 0 ≡ 3 → (all : Constructors) → constructors_at file all.at all.count ≡ type_at file (get_or types (get_or file (i + 1) 0) 0)
        → EndAt file types functions i (passed_alternatives file ends all.count (get_or ends (i + 2) 0))
    end_case is all told x there = case_end all told x (kind x is there) there

    -- a let has two operands
    let_end : (x : Expr) → Coded 4 x → Code file d i x → passed_operands ends 2 (i + 2) ≡ i + length (encode x)
    unfolding encode passed_operands
    let_end x (a_let {t} {e} {b}) there =
        let at = code_let file d i t e b there in
        let next = i + 2 + length (encode e) in
        let body = at.3 next (code_behind file d (i + 2) e at.2) in
        ap (λ (j : ℕ). get_or ends j 0) (filled (i + 2) (omega arith) e at.2)
        ∙ omega (arith, filled next (omega arith) b body, length-append (encode e) (encode b))

    pub end_let : get_or file i 0 ≡ 4 → EndAt file types functions i (passed_operands ends 2 (i + 2))
    end_let is x there = let_end x (kind x is there) there

    -- any other code is that of a target, which has one
    target_end : {code : ℕ} → (code ≡ 0 → ⊥) → (code ≡ 1 → ⊥) → (code ≡ 2 → ⊥) → (code ≡ 3 → ⊥) → (code ≡ 4 → ⊥)
        → (x : Expr) → Coded code x → Code file d i x → passed_operands ends 1 (i + 2) ≡ i + length (encode x)
    unfolding encode passed_operands
    target_end n₀ n₁ n₂ n₃ n₄ x a_variable there = absurd (n₀ refl)
    target_end n₀ n₁ n₂ n₃ n₄ x a_call there = absurd (n₁ refl)
    target_end n₀ n₁ n₂ n₃ n₄ x a_construct there = absurd (n₂ refl)
    target_end n₀ n₁ n₂ n₃ n₄ x a_case there = absurd (n₃ refl)
    target_end n₀ n₁ n₂ n₃ n₄ x a_let there = absurd (n₄ refl)
    target_end n₀ n₁ n₂ n₃ n₄ x (a_target {l} {e}) there =
        let at = code_target file d i l e there in
        omega (arith, filled (i + 2) (omega arith) e at.2)

    pub end_target : {code : ℕ} → get_or file i 0 ≡ code → (code ≡ 0 → ⊥) → (code ≡ 1 → ⊥) → (code ≡ 2 → ⊥) → (code ≡ 3 → ⊥) → (code ≡ 4 → ⊥)
        → EndAt file types functions i (passed_operands ends 1 (i + 2))
    end_target is n₀ n₁ n₂ n₃ n₄ x there = target_end n₀ n₁ n₂ n₃ n₄ x (kind x is there) there

-- The loop that fills the table: before it nothing stands behind the last place, one turn fills one entry more, and with all of them filled the table is
-- the one that is wanted.
module _ (file types functions : List ℕ) where
  pub none_filled : (ends : List ℕ) → EndsFrom file types functions ends (length file)
  none_filled ends i h x there = absurd (omega (arith, (code_kind file (declarations_at file types functions) i x there).0))

  module _ (ends : List ℕ) (at v end : ℕ) (filled : EndsFrom file types functions ends (at + 1)) (below : at < length ends) (small : length file ≤ 16384)
      (is-end : EndAt file types functions at end) (fits : end ≤ 65535 → v ≡ end) where
    this_filled : EndAt file types functions at v
    this_filled x there = fits (omega (arith, is-end x there, places file at x there.0)) ∙ is-end x there

    pub one_filled : EndsFrom file types functions (set ends at v) at
    one_filled i h = by_place (eqb i at) refl
      where
        by_place : (b : Bool) → eqb i at ≡ b → EndAt file types functions i (get_or (set ends at v) i 0)
        by_place true is = rw (eqb-true i at is, get_or-set_same ends at v 0 below) this_filled
        by_place false is = rw (get_or-set_other ends at i v 0 (eqb-false i at is)) (filled i (omega (arith, eqb-false i at is)))

  pub all_filled : (ends : List ℕ) → EndsFrom file types functions ends 0 → Ends file types functions ends
  all_filled ends filled i x there = rw (filled i zero-le x there) (code_behind file (declarations_at file types functions) i x there)
