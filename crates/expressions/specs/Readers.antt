-- The check of an expression as its functions see it: the readers of crate reach over what the places declare.
-- Rests on reach's RuleFile and Places, on typerecord's Passed and on the structs of src/lib.rt.
use Rattle.std.specs.Prelude.{ℕ, zero, suc, ◌-◌, ◌≡◌, ◌&&◌, List, [], ◌++◌, ltb, leb, eqb, length, take, Result, Ok, Err}
use Rattle.std.proofs.Math.Option.{Option, none, some}
use Rattle.reach.specs.declared.Refusal.{Refusal}
use Rattle.reach.specs.declared.Refusal.TheVariants.{OutOfRange, UnknownCode}
use Rattle.reach.specs.Base.{pick}
use Rattle.reach.specs.Limits.{view_limit}
use Rattle.reach.specs.Syntax.{Expr, Exprs, Alternatives}
use Rattle.reach.specs.Reader.{Reader, ◌>>=◌, ◌>>◌, give, refuse, demand, byte}
use Rattle.reach.specs.RuleFile.{Declarations, Below, operands_of, alternatives, variable_expr, call_expr, construct_expr, case_expr, let_expr, target_expr, expression}
use Rattle.reach.specs.Places.{declarations_at}
use Rattle.typerecord.specs.Passed.{passed_of}
use Rattle.lookups.specs.declared.Rules.{Rules}
use Rattle.expressions.specs.declared.View.{View}
use Rattle.expressions.specs.declared.Scope.{Scope}

-- the types of the variables in view
abbrev pub view_of : View → List ℕ
view_of v = take v.count v.types

-- What the test of the limits tells: the scope one level below where nesting is left and the view is within its limit, else the refusal; and that a
-- view holds as many as it counts.
pub record Inside (s : Scope) (r : Result Scope Refusal) : Type 0 where
  pub told : r ≡ pick (ltb 0 s.left && leb s.view.count view_limit) (Ok (record s { left = s.left - 1 })) (Err OutOfRange)
  pub held : length (view_of s.view) ≡ s.view.count

-- the reader of what stands one level below an expression
unfoldable pub below_in : Declarations → ℕ → Below
below_in d zero = λ view t. refuse OutOfRange
below_in d (suc n) = expression d n

-- a variable needs no declarations, and nothing stands below it
abbrev pub variable_at : ℕ → Below
variable_at left = variable_expr (declarations_at [] [] []) (ltb 0 left) (λ view t. refuse OutOfRange)

-- The readers of reach, with so many levels of nesting left.
module _ (file types functions : List ℕ) where
  -- the types and the heads that the places give
  abbrev pub declared : Declarations
  declared = declarations_at file types functions

  abbrev pub expression_at : ℕ → Below
  expression_at left = expression declared left

  abbrev pub call_at : ℕ → Below
  call_at left = call_expr declared (ltb 0 left) (below_in declared left)

  abbrev pub construct_at : ℕ → Below
  construct_at left = construct_expr declared (ltb 0 left) (below_in declared left)

  abbrev pub case_at : ℕ → Below
  case_at left = case_expr declared (ltb 0 left) (below_in declared left)

  abbrev pub let_at : ℕ → Below
  let_at left = let_expr declared (ltb 0 left) (below_in declared left)

  abbrev pub target_at : ℕ → Below
  target_at left = target_expr declared (ltb 0 left) (below_in declared left)

  abbrev pub operands_at : ℕ → List ℕ → List ℕ → Reader Exprs
  operands_at left = operands_of (expression_at left)

  abbrev pub alternatives_at : ℕ → List ℕ → ℕ → List (List ℕ) → Reader Alternatives
  alternatives_at left = alternatives (expression_at left)

  -- one constructor's byte, and its expression if it has one
  unfoldable pub alternative_at : ℕ → List ℕ → ℕ → List ℕ → Reader (Option Expr)
  alternative_at left view t us = do
    b ← byte
    demand (leb b 1) UnknownCode
    pick (eqb b 0) (give none) (expression_at left (view ++ us) t >>= λ e. give (some e))

-- what a reader finds in a scope, the value forgotten
abbrev pub found : (List ℕ → List ℕ → List ℕ → ℕ → Below) → Rules → Scope → List ℕ → ℕ → Result ℕ Refusal
found kind r s bytes at = passed_of (kind r.file.now r.types.now r.functions.now s.left (view_of s.view) s.expected bytes at)
