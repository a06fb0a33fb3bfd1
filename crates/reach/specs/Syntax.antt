-- The language of rules: figures 3 and 4 of source document 000, with the numbers of paper 01 for names.
-- Rests on nothing but numbers and lists.
use Rattle.std.specs.Prelude.{ℕ, zero, suc, List, [], get_or}
use Rattle.std.proofs.Math.Option.{Option, none, some}
use Rattle.std.proofs.Math.ListN.{get_elem?}

-- An expression. Each holds all the numbers of its bytes, in their order.
mutual
  pub data Expr : Type 0 where
    -- a variable, by its number
    variable : ℕ → Expr
    -- a call: the function and its arguments
    call : ℕ → Exprs → Expr
    -- a construction: the type, the constructor and its fields
    construct : ℕ → ℕ → Exprs → Expr
    -- a case: the type, the scrutinee (000: the case subject) and the alternatives
    case : ℕ → Expr → Alternatives → Expr
    -- a let: the type, the bound expression and the body
    let_in : ℕ → Expr → Expr → Expr
    -- a target: its label and the expression inside it
    target : ℕ → Expr → Expr

  pub data Exprs : Type 0 where
    []ₑ : Exprs
    ◌∷ₑ◌ : Expr → Exprs → Exprs

  -- one for each constructor of the case's type, in their order
  pub data Alternatives : Type 0 where
    no_more : Alternatives
    -- this constructor has no alternative
    absent : Alternatives → Alternatives
    present : Expr → Alternatives → Alternatives

infixr 60 ◌∷ₑ◌
-- Each construct as a test: something of its parts where the expression is one, else the other.

abbrev pub where_construct : {A : Type 0} → (ℕ → ℕ → Exprs → A) → A → Expr → A
where_construct f other e = elim e [ variable n ↦ other | call g es ↦ other | construct t c es ↦ f t c es | case t x alts ↦ other | let_in t x body ↦ other | target l x ↦ other ]

abbrev pub where_target : {A : Type 0} → (ℕ → Expr → A) → A → Expr → A
where_target f other e = elim e [ variable n ↦ other | call g es ↦ other | construct t c es ↦ other | case t x alts ↦ other | let_in t x body ↦ other | target l x ↦ f l x ]

abbrev pub where_variable : {A : Type 0} → (ℕ → A) → A → Expr → A
where_variable f other e = elim e [ variable n ↦ f n | call g es ↦ other | construct t c es ↦ other | case t x alts ↦ other | let_in t x body ↦ other | target l x ↦ other ]

abbrev pub where_call : {A : Type 0} → (ℕ → Exprs → A) → A → Expr → A
where_call f other e = elim e [ variable n ↦ other | call g es ↦ f g es | construct t c es ↦ other | case t x alts ↦ other | let_in t x body ↦ other | target l x ↦ other ]

abbrev pub where_let : {A : Type 0} → (ℕ → Expr → Expr → A) → A → Expr → A
where_let f other e = elim e [ variable n ↦ other | call g es ↦ other | construct t c es ↦ other | case t x alts ↦ other | let_in t x body ↦ f t x body | target l x ↦ other ]

abbrev pub where_case : {A : Type 0} → (ℕ → Expr → Alternatives → A) → A → Expr → A
where_case f other e = elim e [ variable n ↦ other | call g es ↦ other | construct t c es ↦ other | case t x alts ↦ f t x alts | let_in t x body ↦ other | target l x ↦ other ]

-- how many expressions there are
unfoldable pub count : Exprs → ℕ
count []ₑ = zero
count (e ∷ₑ es) = suc (count es)

-- the expression of a given number
unfoldable pub nth_expr : Exprs → ℕ → Option Expr
nth_expr []ₑ n = none
nth_expr (e ∷ₑ es) zero = some e
nth_expr (e ∷ₑ es) (suc n) = nth_expr es n

-- A type is the list of its constructors, a constructor the list of its fields' types.
abbrev pub Types : Type 0
Types = List (List (List ℕ))

pub record Function : Type 0 where
  pub parameters : List ℕ
  pub result : ℕ
  pub body : Expr

-- A rule file that was read: its types, its functions, the type whose values are names, if NA names one, and what GO asks for, with a depth for each
-- parameter that the source may have.
pub record Program : Type 0 where
  pub types : Types
  pub functions : List Function
  pub named : Option ℕ
  pub source : ℕ
  pub label : ℕ
  pub depths : List ℕ
  pub steps : ℕ

-- the field types of a constructor, if the type has that constructor
unfoldable pub field_types : Types → ℕ → ℕ → Option (List ℕ)
field_types types t c = get_elem? (get_or types t []) c

-- the function of a given number
unfoldable pub function_at : Program → ℕ → Option Function
function_at p f = get_elem? p.functions f

abbrev pub parameters_of : Option Function → List ℕ
parameters_of none = []
parameters_of (some f) = f.parameters

-- the types of the source function's parameters
unfoldable pub source_types : Program → List ℕ
source_types p = parameters_of (function_at p p.source)
