-- An expression as it stands in a file: its bytes, the place where they stand, and the place behind them, found by passing over them.
-- Rests on Syntax, Reader and RuleFile.
use Rattle.std.specs.Prelude.{ℕ, zero, suc, max, ◌<◌, ◌≡◌, List, [], ◌∷◌, ◌++◌, length, get_or, drop, eqb}
use Rattle.std.proofs.Math.Option.{Option, none, some}
use Rattle.std.proofs.Math.ListN.{get_elem?}
use Rattle.reach.specs.declared.Refusal.TheVariants.{OutOfRange, UnknownNumber}
use Rattle.reach.specs.Base.{pick}
use Rattle.reach.specs.Syntax.{Expr, variable, call, construct, case, let_in, target, Exprs, []ₑ, ◌∷ₑ◌, Alternatives, no_more, absent, present, count, field_types}
use Rattle.reach.specs.Reader.{Reader, ◌>>=◌, ◌>>◌, give, refuse, byte}
use Rattle.reach.specs.RuleFile.{Head, Declarations}

-- 01, "Rule file": the bytes of an expression; its code, its numbers, and its operands in order
unfoldable mutual
  pub encode : Expr → List ℕ
  encode (variable n) = 0 ∷ n ∷ []
  encode (call f es) = 1 ∷ f ∷ encode_all es
  encode (construct t c es) = 2 ∷ t ∷ c ∷ encode_all es
  encode (case t e alts) = 3 ∷ t ∷ (encode e ++ encode_alternatives alts)
  encode (let_in t e b) = 4 ∷ t ∷ (encode e ++ encode b)
  encode (target l e) = 5 ∷ l ∷ encode e

  pub encode_all : Exprs → List ℕ
  encode_all []ₑ = []
  encode_all (e ∷ₑ es) = encode e ++ encode_all es

  -- for each constructor 0, or 1 and the expression
  pub encode_alternatives : Alternatives → List ℕ
  encode_alternatives no_more = []
  encode_alternatives (absent alts) = 0 ∷ encode_alternatives alts
  encode_alternatives (present e alts) = 1 ∷ (encode e ++ encode_alternatives alts)

-- byte i of s is b
abbrev pub ByteAt : List ℕ → ℕ → ℕ → Type 0
ByteAt s i b = (i < length s) × (get_or s i 0 ≡ b)

-- these bytes stand in s from place i on
abbrev pub BytesAt : List ℕ → ℕ → List ℕ → Type 0
BytesAt s i bytes = (rest : List ℕ) × (drop i s ≡ bytes ++ rest)

-- the expression stands at place i of s; and so for a row of operands and for the alternatives of a case
abbrev pub Stands : List ℕ → ℕ → Expr → Type 0
Stands s i e = BytesAt s i (encode e)

abbrev pub StandsAll : List ℕ → ℕ → Exprs → Type 0
StandsAll s i es = BytesAt s i (encode_all es)

abbrev pub StandsAlternatives : List ℕ → ℕ → Alternatives → Type 0
StandsAlternatives s i alts = BytesAt s i (encode_alternatives alts)

-- how many constructors the alternatives are for
unfoldable pub count_alternatives : Alternatives → ℕ
count_alternatives no_more = zero
count_alternatives (absent alts) = suc (count_alternatives alts)
count_alternatives (present e alts) = suc (count_alternatives alts)

-- The functions, types and constructors of an expression exist, and it has as many operands as they ask for.
module _ (d : Declarations) where
  abbrev mutual
    pub Arity : Expr → Type 0
    Arity (variable n) = Unit {0}
    Arity (call f es) = (h : Head) × (get_elem? d.heads f ≡ some h) × (count es ≡ length h.parameters) × ArityAll es
    Arity (construct t c es) = (us : List ℕ) × (field_types d.types t c ≡ some us) × (count es ≡ length us) × ArityAll es
    Arity (case t e alts) = (cs : List (List ℕ)) × (get_elem? d.types t ≡ some cs) × (count_alternatives alts ≡ length cs) × Arity e × ArityAlternatives alts
    Arity (let_in t e b) = (t < length d.types) × Arity e × Arity b
    Arity (target l e) = Arity e

    pub ArityAll : Exprs → Type 0
    ArityAll []ₑ = Unit {0}
    ArityAll (e ∷ₑ es) = Arity e × ArityAll es

    pub ArityAlternatives : Alternatives → Type 0
    ArityAlternatives no_more = Unit {0}
    ArityAlternatives (absent alts) = ArityAlternatives alts
    ArityAlternatives (present e alts) = Arity e × ArityAlternatives alts

-- how many expressions stand one inside another, the expression itself being 1
unfoldable mutual
  pub nesting : Expr → ℕ
  nesting (variable n) = 1
  nesting (call f es) = suc (nesting_all es)
  nesting (construct t c es) = suc (nesting_all es)
  nesting (case t e alts) = suc (max (nesting e) (nesting_alternatives alts))
  nesting (let_in t e b) = suc (max (nesting e) (nesting b))
  nesting (target l e) = suc (nesting e)

  pub nesting_all : Exprs → ℕ
  nesting_all []ₑ = zero
  nesting_all (e ∷ₑ es) = max (nesting e) (nesting_all es)

  pub nesting_alternatives : Alternatives → ℕ
  nesting_alternatives no_more = zero
  nesting_alternatives (absent alts) = nesting_alternatives alts
  nesting_alternatives (present e alts) = max (nesting e) (nesting_alternatives alts)

-- Passing over an expression that was read before: by its codes and arities alone, with no types and no view. It refuses only where it
-- cannot go on.
abbrev pub Skip : Type 0
Skip = Reader (Unit {0})

-- so many expressions
unfoldable pub skipped_all : Skip → ℕ → Skip
skipped_all sub zero = give tt
skipped_all sub (suc n) = sub >> skipped_all sub n

-- the alternatives of so many constructors
unfoldable pub skipped_alternatives : Skip → ℕ → Skip
skipped_alternatives sub zero = give tt
skipped_alternatives sub (suc n) = do
  b ← byte
  pick (eqb b 0) (skipped_alternatives sub n) (sub >> skipped_alternatives sub n)

-- what follows a number that was looked up
abbrev pub on_known : {A : Type 0} → (A → Skip) → Option A → Skip
on_known f none = refuse UnknownNumber
on_known f (some a) = f a

module _ (d : Declarations) (sub : Skip) where
  unfoldable pub skipped_call : Skip
  skipped_call = do
    f ← byte
    on_known (λ h. skipped_all sub (length h.parameters)) (get_elem? d.heads f)

  unfoldable pub skipped_construct : Skip
  skipped_construct = do
    t ← byte
    c ← byte
    on_known (λ us. skipped_all sub (length us)) (field_types d.types t c)

  unfoldable pub skipped_case : Skip
  skipped_case = do
    t ← byte
    on_known (λ cs. sub >> skipped_alternatives sub (length cs)) (get_elem? d.types t)

  -- the code, its numbers, and its operands, which the other reader passes over
  unfoldable pub skipped_by : Skip
  skipped_by = do
    code ← byte
    pick (eqb code 0) (byte >> give tt)
        (pick (eqb code 1) skipped_call
        (pick (eqb code 2) skipped_construct
        (pick (eqb code 3) skipped_case
        (pick (eqb code 4) (byte >> (sub >> sub)) (byte >> sub)))))

-- the place behind an expression that nests at most so many deep, itself included
unfoldable pub skipped : Declarations → ℕ → Skip
skipped d zero = refuse OutOfRange
skipped d (suc n) = skipped_by d (skipped d n)
