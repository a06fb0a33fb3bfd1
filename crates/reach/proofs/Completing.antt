-- To complete an entry, as 01 says it, is to bind at least what it binds: for inputs of the same types.
-- Rests on Order.
use Prim.Native.Nat.{ℕ}
use mathlib.Core.Path.{◌≡◌, refl, sym, ◌∙◌, ap, subst}
use mathlib.Core.List.{List, [], ◌∷◌}
use mathlib.Core.Option.{some-injective}
use Rattle.reach.specs.Syntax.{Types, field_types}
use Rattle.reach.specs.Parts.{Parts, end, opened, bound, width, here, after, inside, at, Closed, Completes, ◌⊑◌, ⊑-end, ⊑-bind, ⊑-same}
use Rattle.reach.specs.Types.{Typed}
use Rattle.reach.proofs.Order.{⊑-has, constructor_of}

-- what binds at least as much completes
pub below_completes : {e j : Parts} → e ⊑ j → Completes j e
below_completes a q c h = (h.0, ⊑-has a q h.1)

-- and a closed input of the same types that completes binds at least as much
pub completes_below : (types : Types) (ts : List ℕ) (e j : Parts) → Typed types ts e → Typed types ts j → Closed j → Completes j e → e ⊑ j
unfolding at
completes_below types [] end end h g z k = ⊑-end
completes_below types [] end (opened s) h g z k = absurd g
completes_below types [] end (bound d gs s) h g z k = absurd g
completes_below types [] (opened r) j h g z k = absurd h
completes_below types [] (bound c fs r) j h g z k = absurd h
completes_below types (t ∷ ts) end j h g z k = absurd h
completes_below types (t ∷ ts) (opened r) end h g z k = absurd g
completes_below types (t ∷ ts) (opened r) (opened s) h g z k = absurd z
completes_below types (t ∷ ts) (opened r) (bound d gs s) h g z k = ⊑-bind (completes_below types ts r s h g.3 z.1 (λ q c. k (after q) c))
completes_below types (t ∷ ts) (bound c fs r) end h g z k = absurd g
completes_below types (t ∷ ts) (bound c fs r) (opened s) h g z k = absurd z
completes_below types (t ∷ ts) (bound c fs r) (bound d gs s) h g z k =
    let same : d ≡ c = ap constructor_of (k here c (width fs, refl)).1 in
    let us : h.0 ≡ g.0 = some-injective h.0 g.0 (sym h.1 ∙ ap (field_types types t) (sym same) ∙ g.1) in
    let typed = subst (λ (x : List ℕ). Typed types x gs) (sym us) g.2 in
    subst (λ (x : ℕ). bound c fs r ⊑ bound x gs s) (sym same)
    (⊑-same (completes_below types h.0 fs gs h.2 typed z.0 (λ q b. k (inside q) b))
    (completes_below types ts r s h.3 g.3 z.1 (λ q b. k (after q) b)))
