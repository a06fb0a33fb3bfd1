-- Readers in a row, as steps: the values that they find are forgotten. And an expression by the nesting that is left.
-- Rests on Readers of specs/ and on the answers of crate typerecord.
use Prim.Native.Nat.{ℕ, zero, suc, ◌-◌, ◌<◌}
use mathlib.Core.Path.{◌≡◌, refl}
use mathlib.Core.List.{List}
use Rattle.std.specs.Prelude.{Ok, Err}
use lib.Dec.{ltb}
use native.Mathlib.Omega.{arith}
use borrow.Author.Tests.{lt-ltb}
use Rattle.reach.specs.declared.Refusal.{Refusal}
use Rattle.reach.specs.Reader.{Reader, ◌>>=◌, give}
use Rattle.reach.specs.RuleFile.{Declarations, expression_by, expression}
use Rattle.typerecord.specs.Passed.{passed_of}
use Rattle.typerecord.proofs.Answers.{step_got, step_refused, step_mapped}
use Rattle.expressions.specs.Readers.{below_in}

-- a reader that goes on, and then another whose reading does not depend on what the first one found
pub both_next : {A B C : Type 0} (m : Reader A) (k : Reader B) (f : A → B → C) (s : List ℕ) (at : ℕ) {next : ℕ}
    → passed_of (m s at) ≡ Ok next → passed_of ((m >>= λ a. k >>= λ b. give (f a b)) s at) ≡ passed_of (k s next)
both_next m k f s at {next} e = let g = step_got (m s at) e in rw g.1 (step_mapped (f g.0) (k s next))

-- a reader that is refused, whatever follows it
pub first_refused : {A B : Type 0} (m : Reader A) (k : A → Reader B) (s : List ℕ) (at : ℕ) {why : Refusal}
    → passed_of (m s at) ≡ Err why → passed_of ((m >>= k) s at) ≡ Err why
first_refused m k s at e = rw (step_refused (m s at) e)

-- one level less is left below an expression
pub below_is : (d : Declarations) (left : ℕ) → 0 < left → below_in d left ≡ expression d (left - 1)
unfolding below_in
below_is d zero h = absurd (omega arith)
below_is d (suc n) h = let z : suc n - 1 ≡ n = omega arith in rw z

-- an expression at any nesting, as one step of the definition
pub expression_is : (d : Declarations) (left : ℕ) → expression d left ≡ expression_by d (ltb 0 left) (below_in d left)
unfolding expression below_in
expression_is d zero = refl
expression_is d (suc n) = rw (lt-ltb 0 (suc n) (omega arith))
