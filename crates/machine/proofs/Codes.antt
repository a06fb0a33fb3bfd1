-- What stands in the file, as the steps read it: the bytes of each kind of expression and the places of its parts, the operand of a number and
-- the alternative of a constructor, behind what is passed over before them.
-- Rests on specs/Records and specs/Walks, on reach's Encoding, and on codes' Encoding for its laws.
use Prim.Native.Nat.{ℕ, zero, suc, ◌+◌, ◌≤◌, ◌<◌}
use mathlib.Core.Path.{◌≡◌, refl, subst}
use mathlib.Core.List.{List, append-nil}
use mathlib.Core.Option.{some}
use native.Mathlib.Omega.{arith}
use lib.ListN.{length, get_or, drop}
use Rattle.reach.specs.Limits.{nesting_limit}
use Rattle.reach.specs.Syntax.{Expr, variable, call, construct, case, let_in, target, Exprs, []ₑ, ◌∷ₑ◌, nth_expr, Alternatives, no_more, absent, present, Function}
use Rattle.reach.specs.RuleFile.{Head, Declarations}
use Rattle.reach.specs.Encoding.{encode, ByteAt, count_alternatives, nesting}
use Rattle.reach.specs.Eval.{Env, Frame, State, evaluating, uncovered, choose}
use Rattle.reach.proofs.Base.{clash}
use Rattle.codes.proofs.Encoding.{stands_variable, stands_call, stands_construct, stands_case, stands_let, stands_target, stands_next, stands_absent, stands_present, skipped_finds, BodyAt}
use Rattle.machine.specs.Records.{Code, CodeAll, CodeAlternatives}
use Rattle.machine.specs.Walks.{Behind, OperandAt, this_operand, later_operand, ChosenAt, none_chosen, this_chosen, past_absent, past_present}

-- the kinds of expression, by the code that is their first byte
pub data Coded : ℕ → Expr → Type 0 where
  a_variable : {n : ℕ} → Coded 0 (variable n)
  a_call : {f : ℕ} {es : Exprs} → Coded 1 (call f es)
  a_construct : {t c : ℕ} {es : Exprs} → Coded 2 (construct t c es)
  a_case : {t : ℕ} {e : Expr} {alts : Alternatives} → Coded 3 (case t e alts)
  a_let : {t : ℕ} {e b : Expr} → Coded 4 (let_in t e b)
  a_target : {l : ℕ} {e : Expr} → Coded 5 (target l e)

pub coded_known : (k : ℕ) (e : Expr) → Coded k e → k ≤ 5
coded_known k e a_variable = omega arith
coded_known k e a_call = omega arith
coded_known k e a_construct = omega arith
coded_known k e a_case = omega arith
coded_known k e a_let = omega arith
coded_known k e a_target = omega arith

module _ (file : List ℕ) (o : Declarations) where
  -- the place behind an expression is found by passing over it
  pub code_behind : (i : ℕ) (e : Expr) → Code file o i e → Behind file o i (i + length (encode e))
  code_behind i e code = skipped_finds o nesting_limit file i e code.1 code.0 code.2

  -- so what holds of the place behind it holds of the place that was found
  found_behind : (P : ℕ → Type 0) (i : ℕ) (e : Expr) → Code file o i e → P (i + length (encode e)) → (next : ℕ) → Behind file o i next → P next
  found_behind P i e code h next passed = subst P (cc (code_behind i e code)) h

  -- the body of a function
  pub code_body : (h : Head) (g : Function) → BodyAt o file h g → Code file o h.body g.body
  code_body h g at = ((drop (h.body + h.size) file, at.stands), at.arity, at.nests)

  -- Each kind of expression, at i.
  module _ (i : ℕ) where
    pub code_variable : (n : ℕ) → Code file o i (variable n) → ByteAt file i 0 × ByteAt file (i + 1) n
    code_variable n code = stands_variable file i n code.0

    pub code_call : (f : ℕ) (es : Exprs) → Code file o i (call f es) → ByteAt file i 1 × ByteAt file (i + 1) f × CodeAll file o (i + 2) es
    unfolding nesting
    code_call f es code =
        let at = stands_call file i f es code.0 in
        (at.0, at.1, (at.2, code.1.3, omega (arith, code.2)))

    pub code_construct :
        (t c : ℕ) (es : Exprs) → Code file o i (construct t c es)
        → ByteAt file i 2 × ByteAt file (i + 1) t × ByteAt file (i + 2) c × CodeAll file o (i + 3) es
    unfolding nesting
    code_construct t c es code =
        let at = stands_construct file i t c es code.0 in
        (at.0, at.1, at.2, (at.3, code.1.3, omega (arith, code.2)))

    pub code_case :
        (t : ℕ) (e : Expr) (alts : Alternatives) → Code file o i (case t e alts)
        → ByteAt file i 3 × ByteAt file (i + 1) t × Code file o (i + 2) e × ((next : ℕ) → Behind file o (i + 2) next → CodeAlternatives file o next alts)
    unfolding nesting
    code_case t e alts code =
        let at = stands_case file i t e alts code.0 in
        let first : Code file o (i + 2) e = (at.2, code.1.3, omega (arith, code.2)) in
        let rest : CodeAlternatives file o (i + 2 + length (encode e)) alts = (at.3, code.1.4, omega (arith, code.2)) in
        (at.0, at.1, first, found_behind (λ k. CodeAlternatives file o k alts) (i + 2) e first rest)

    pub code_let :
        (t : ℕ) (e b : Expr) → Code file o i (let_in t e b)
        → ByteAt file i 4 × ByteAt file (i + 1) t × Code file o (i + 2) e × ((next : ℕ) → Behind file o (i + 2) next → Code file o next b)
    unfolding nesting
    code_let t e b code =
        let at = stands_let file i t e b code.0 in
        let first : Code file o (i + 2) e = (at.2, code.1.1, omega (arith, code.2)) in
        let rest : Code file o (i + 2 + length (encode e)) b = (at.3, code.1.2, omega (arith, code.2)) in
        (at.0, at.1, first, found_behind (λ k. Code file o k b) (i + 2) e first rest)

    pub code_target : (l : ℕ) (e : Expr) → Code file o i (target l e) → ByteAt file i 5 × ByteAt file (i + 1) l × Code file o (i + 2) e
    unfolding nesting
    code_target l e code =
        let at = stands_target file i l e code.0 in
        (at.0, at.1, (at.2, code.1, omega (arith, code.2)))

    -- a byte stands there, and it tells the kind
    pub code_kind : (e : Expr) → Code file o i e → (i < length file) × Coded (get_or file i 0) e
    code_kind (variable n) code = let at = code_variable n code in (at.0.0, rw at.0.1 a_variable)
    code_kind (call f es) code = let at = code_call f es code in (at.0.0, rw at.0.1 a_call)
    code_kind (construct t c es) code = let at = code_construct t c es code in (at.0.0, rw at.0.1 a_construct)
    code_kind (case t e alts) code = let at = code_case t e alts code in (at.0.0, rw at.0.1 a_case)
    code_kind (let_in t e b) code = let at = code_let t e b code in (at.0.0, rw at.0.1 a_let)
    code_kind (target l e) code = let at = code_target l e code in (at.0.0, rw at.0.1 a_target)

    -- an expression is a row of one operand
    pub code_one : (e : Expr) → Code file o i e → CodeAll file o i (e ∷ₑ []ₑ)
    unfolding encode nesting
    code_one e code = ((code.0.0, cc (code.0.1, append-nil (encode e))), (code.1, tt), omega (arith, code.2))

    -- The first of operands, and the others behind it; the first of alternatives, and the others behind it.
    pub code_next : (e : Expr) (es : Exprs) → CodeAll file o i (e ∷ₑ es) → Code file o i e × ((next : ℕ) → Behind file o i next → CodeAll file o next es)
    unfolding nesting
    code_next e es code =
        let at = stands_next file i e es code.0 in
        let first : Code file o i e = (at.0, code.1.0, omega (arith, code.2)) in
        let rest : CodeAll file o (i + length (encode e)) es = (at.1, code.1.1, omega (arith, code.2)) in
        (first, found_behind (λ k. CodeAll file o k es) i e first rest)

    pub code_absent : (alts : Alternatives) → CodeAlternatives file o i (absent alts) → ByteAt file i 0 × CodeAlternatives file o (i + 1) alts
    unfolding nesting
    code_absent alts code =
        let at = stands_absent file i alts code.0 in
        (at.0, (at.1, code.1, code.2))

    pub code_present :
        (e : Expr) (alts : Alternatives) → CodeAlternatives file o i (present e alts)
        → ByteAt file i 1 × Code file o (i + 1) e × ((next : ℕ) → Behind file o (i + 1) next → CodeAlternatives file o next alts)
    unfolding nesting
    code_present e alts code =
        let at = stands_present file i e alts code.0 in
        let first : Code file o (i + 1) e = (at.1, code.1.0, omega (arith, code.2)) in
        let rest : CodeAlternatives file o (i + 1 + length (encode e)) alts = (at.2, code.1.1, omega (arith, code.2)) in
        (at.0, first, found_behind (λ k. CodeAlternatives file o k alts) (i + 1) e first rest)

  -- The operand of number j, of operands that begin at i: j expressions are passed over.
  pub operand_at : (i j : ℕ) (es : Exprs) (e : Expr) → CodeAll file o i es → nth_expr es j ≡ some e → OperandAt file o i j e
  unfolding nth_expr
  operand_at i j []ₑ e code is = absurd (clash (cc))
  operand_at i zero (x ∷ₑ es) e code is = let z : x ≡ e = cc in this_operand (subst (λ (y : Expr). Code file o i y) z (code_next i x es code).0)
  operand_at i (suc j) (x ∷ₑ es) e code is =
      let at = code_next i x es code in
      later_operand x at.0 (λ next passed. operand_at next j es e (at.1 next passed) is)

  -- The alternative of constructor c, of alternatives that begin at i: c of them are passed over. The state is the one that the case goes on to.
  module _ (env : Env) (fs : List Frame) where
    pub chosen_at : (i c : ℕ) (alts : Alternatives) → CodeAlternatives file o i alts → c < count_alternatives alts → ChosenAt file o env fs i c (choose alts c env fs)
    unfolding choose count_alternatives
    chosen_at i c no_more code known = absurd (clash (omega arith))
    chosen_at i zero (absent alts) code known = none_chosen (code_absent i alts code).0
    chosen_at i (suc c) (absent alts) code known =
        let at = code_absent i alts code in
        past_absent at.0 (chosen_at (i + 1) c alts at.1 (omega arith))
    chosen_at i zero (present e alts) code known =
        let at = code_present i e alts code in
        this_chosen e at.0 at.1
    chosen_at i (suc c) (present e alts) code known =
        let at = code_present i e alts code in
        past_present e at.0 at.1 (λ next passed. chosen_at next c alts (at.2 next passed) (omega arith))

    -- with none left to pass over: it is missing, or its expression stands behind the byte
    pub chosen_missing : (i c : ℕ) (s : State) → ChosenAt file o env fs i c s → c ≡ 0 → get_or file i 0 ≡ 0 → s ≡ uncovered
    chosen_missing i c s (none_chosen b) none_left zero-byte = refl
    chosen_missing i c s (this_chosen e b code) none_left zero-byte = absurd (clash (omega (arith, b.1)))
    chosen_missing i c s (past_absent b rest) none_left zero-byte = absurd (clash (omega arith))
    chosen_missing i c s (past_present e b code rest) none_left zero-byte = absurd (clash (omega arith))

    pub chosen_present :
        (i c : ℕ) (s : State) → ChosenAt file o env fs i c s → c ≡ 0 → (get_or file i 0 ≡ 0 → ⊥) → (e : Expr) × (s ≡ evaluating e env fs) × Code file o (i + 1) e
    chosen_present i c s (none_chosen b) none_left other = absurd (other b.1)
    chosen_present i c s (this_chosen e b code) none_left other = (e, refl, code)
    chosen_present i c s (past_absent b rest) none_left other = absurd (other b.1)
    chosen_present i c s (past_present e b code rest) none_left other = absurd (clash (omega arith))
