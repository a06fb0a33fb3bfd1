-- A typing of expressions: what the check of a rule file establishes about its program.
-- Rests on Base and Syntax.
use Rattle.std.specs.Prelude.{ℕ, ◌<◌, ◌≡◌, List, [], ◌∷◌, ◌++◌, map, length, get_or}
use Rattle.std.proofs.Math.Option.{some}
use Rattle.std.proofs.Math.ListN.{get_elem?}
use Rattle.reach.specs.Base.{Each}
use Rattle.reach.specs.Syntax.{Expr, variable, call, construct, case, let_in, target, Exprs, []ₑ, ◌∷ₑ◌, Alternatives, no_more, absent, present, Types, Function, Program, field_types, function_at}

-- What a call has to know of a function.
pub record Signature : Type 0 where
  pub parameters : List ℕ
  pub result : ℕ

-- a type of this number exists
abbrev pub Exists : Types → ℕ → Type 0
Exists types t = t < length types

-- An expression has a type, given the types of the variables in view. Numbers in it name something: a variable in view, a function, a
-- type, a constructor of its type.
module _ (types : Types) (known : List Signature) where
  abbrev mutual
    pub HasType : Expr → List ℕ → ℕ → Type 0
    HasType (variable n) view t = get_elem? view n ≡ some t
    HasType (call f es) view t = (g : Signature) × (get_elem? known f ≡ some g) × (g.result ≡ t) × HaveTypes es view g.parameters
    HasType (construct u c es) view t = (us : List ℕ) × (field_types types u c ≡ some us) × (u ≡ t) × HaveTypes es view us
    HasType (case u e alts) view t = Exists types u × HasType e view u × Covers alts view (get_or types u []) t
    HasType (let_in u e body) view t = Exists types u × HasType e view u × HasType body (view ++ (u ∷ [])) t
    HasType (target l e) view t = HasType e view t

    -- one expression for each of the types
    pub HaveTypes : Exprs → List ℕ → List ℕ → Type 0
    HaveTypes []ₑ view [] = Unit {0}
    HaveTypes []ₑ view (t ∷ ts) = ⊥
    HaveTypes (e ∷ₑ es) view [] = ⊥
    HaveTypes (e ∷ₑ es) view (t ∷ ts) = HasType e view t × HaveTypes es view ts

    -- an alternative or none for each of the constructors; an alternative sees the constructor's fields too
    pub Covers : Alternatives → List ℕ → List (List ℕ) → ℕ → Type 0
    Covers no_more view [] t = Unit {0}
    Covers no_more view (us ∷ cs) t = ⊥
    Covers (absent alts) view [] t = ⊥
    Covers (absent alts) view (us ∷ cs) t = Covers alts view cs t
    Covers (present e alts) view [] t = ⊥
    Covers (present e alts) view (us ∷ cs) t = HasType e (view ++ us) t × Covers alts view cs t

abbrev pub signature_of : Function → Signature
signature_of f = record { parameters = f.parameters; result = f.result }

abbrev pub signatures : Program → List Signature
signatures p = map signature_of p.functions

-- the types in a function's head exist, and its body has the result type with the parameters in view
abbrev pub FunctionTyped : Types → List Signature → Function → Type 0
FunctionTyped types known f =
    Each (Exists types) f.parameters × Exists types f.result × HasType types known f.body f.parameters f.result

-- What the check of a file establishes about its program.
pub record WellTyped (p : Program) : Type 0 where
  -- every field of every constructor of every type has a type that exists
  pub fields_exist : Each (Each (Each (Exists p.types))) p.types
  -- every function has a body of its result type
  pub functions_typed : (f : ℕ) (g : Function) → function_at p f ≡ some g → FunctionTyped p.types (signatures p) g
  pub source_exists : p.source < length p.functions
