-- The functions that were read have the parameters and the results that their heads tell of.
-- Rests on RuleFile, and on IfFound of Limits.
use Prim.Native.Nat.{ℕ, zero, suc}
use mathlib.Core.Path.{◌≡◌, refl, subst}
use mathlib.Core.List.{List, [], ◌∷◌}
use mathlib.Core.Option.{some}
use lib.ListN.{get_elem?}
use Rattle.reach.specs.Syntax.{Function}
use Rattle.reach.specs.Reader.{Got, got, refused, on_got}
use Rattle.reach.specs.RuleFile.{Head, Declarations, body_of, functions_of}
use Rattle.reach.proofs.Base.{clash}
use Rattle.reach.proofs.Limits.{IfFound, if_found_then}

-- a function with this head
pub record Headed (h : Head) (g : Function) : Type 0 where
  pub parameters : g.parameters ≡ h.parameters
  pub result : g.result ≡ h.result

-- what holds of whatever is found second
pub any_then : {A B : Type 0} (Q : B → ℕ → Type 0) (f : A → ℕ → Got B) (g : Got A) → ((a : A) (next : ℕ) → IfFound Q (f a next))
    → IfFound Q (on_got f (λ why. refused why) g)
any_then Q f (got a next) h = h a next
any_then Q f (refused why) h = tt

-- each function of the one list has the head of the same number in the other list
abbrev pub Heads : List Head → List Function → Type 0
Heads [] [] = Unit {0}
Heads [] (g ∷ gs) = ⊥
Heads (h ∷ hs) [] = ⊥
Heads (h ∷ hs) (g ∷ gs) = Headed h g × Heads hs gs

heads_find : (d : Declarations) (s : List ℕ) (hs : List Head) (i : ℕ) → IfFound (λ fs next. Heads hs fs) (functions_of d hs s i)
unfolding functions_of
heads_find d s [] i = tt
heads_find d s (h ∷ hs) i =
    any_then _ _ (body_of d h s)
    (λ e k. if_found_then _ _ _ (functions_of d hs s k) (heads_find d s hs k) (λ fs next others. (record { parameters = refl; result = refl }, others)))

pub function_at_head : (hs : List Head) (gs : List Function) → Heads hs gs → (f : ℕ) (h : Head) → get_elem? hs f ≡ some h → (g : Function) × (get_elem? gs f ≡ some g) × Headed h g
function_at_head [] gs all f h is = absurd (clash (cc))
function_at_head (k ∷ hs) [] all f h is = absurd all
function_at_head (k ∷ hs) (g ∷ gs) all zero h is = let z : k ≡ h = cc in (g, refl, subst (λ x. Headed x g) z all.0)
function_at_head (k ∷ hs) (g ∷ gs) all (suc f) h is = function_at_head hs gs all.1 f h is

pub head_of : (hs : List Head) (gs : List Function) → Heads hs gs → (f : ℕ) (g : Function) → get_elem? gs f ≡ some g → (h : Head) × (get_elem? hs f ≡ some h) × Headed h g
head_of hs [] all f g is = absurd (clash (cc))
head_of [] (k ∷ gs) all f g is = absurd all
head_of (h ∷ hs) (k ∷ gs) all zero g is = let z : k ≡ g = cc in (h, refl, subst (λ x. Headed h x) z all.0)
head_of (h ∷ hs) (k ∷ gs) all (suc f) g is = head_of hs gs all.1 f g is

pub heads_are :
    (d : Declarations) (s : List ℕ) (hs : List Head) (i : ℕ) (fs : List Function) (next : ℕ) → functions_of d hs s i ≡ got fs next → Heads hs fs
heads_are d s hs i fs next are = subst (IfFound (λ fs next. Heads hs fs)) are (heads_find d s hs i)
