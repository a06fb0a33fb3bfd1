-- More levels of constructors than a row needs change nothing of how it is filled.
-- Rests on Filling and on reach's LeastDepths.
use Prim.Native.Nat.{ℕ, zero, suc, ◌≤◌}
use mathlib.Core.Path.{◌≡◌, refl, ap, ◌∙◌}
use mathlib.Core.Bool.{true}
use mathlib.Core.List.{List, [], ◌∷◌}
use mathlib.Core.Option.{some-injective}
use native.Mathlib.Omega.{arith}
use lib.ListN.{get_or}
use Rattle.reach.specs.Syntax.{Types}
use Rattle.reach.specs.Parts.{Parts, end, opened, bound}
use Rattle.reach.specs.Base.{Each}
use Rattle.reach.specs.Types.{Typed, Slot, slot_types, least_depths, shallow}
use Rattle.reach.specs.Partial.{deepest, Keeps}
use Rattle.reach.proofs.LeastDepths.{shallow_head}
use Rattle.names.specs.Filling.{built_by, each_of, least_row, fill, Fillable, fill_named}
use Rattle.names.proofs.Filling.{shallow_more, has_first}

module _ (types : Types) where
  abbrev table : List ℕ
  table = least_depths types

  -- the least values of types that have values so shallow
  rows_same : (levels more : ℕ) → ((us : List ℕ) → shallow table levels us ≡ true → least_row types table more us ≡ least_row types table levels us) → (ts : List ℕ)
      → shallow table (suc levels) ts ≡ true → least_row types table (suc more) ts ≡ least_row types table (suc levels) ts
  unfolding least_row each_of built_by
  rows_same levels more below [] h = refl
  rows_same levels more below (t ∷ ts) h =
      let (e, least, fits, rest) = shallow_head table (suc levels) t ts h in
      let (c, us, first, has, will) = has_first types t e least in
      rw (first, below us (shallow_more table e levels (omega (arith, fits)) us will), rows_same levels more below ts rest) refl

  least_same : (levels more : ℕ) → levels ≤ more → (ts : List ℕ) → shallow table levels ts ≡ true → least_row types table more ts ≡ least_row types table levels ts
  unfolding least_row each_of
  least_same zero zero enough ts h = refl
  least_same zero (suc more) enough [] h = refl
  least_same zero (suc more) enough (t ∷ ts) h = let (e, least, fits, rest) = shallow_head table zero t ts h in absurd (omega (arith, fits))
  least_same (suc levels) zero enough ts h = absurd (omega (arith, enough))
  least_same (suc levels) (suc more) enough ts h = rows_same levels more (least_same levels more (omega (arith, enough))) ts h

  -- a row that is no deeper
  fill_same : (levels more : ℕ) → levels ≤ more → (e : Parts) (ts : List ℕ) → Typed types ts e → Fillable types ts e → deepest types ts e ≤ levels
      → fill types table more ts e ≡ fill types table levels ts e
  unfolding fill built_by deepest
  fill_same levels more enough end [] h k l = refl
  fill_same levels more enough (opened r) [] h k l = absurd h
  fill_same levels more enough (bound c fs r) [] h k l = absurd h
  fill_same levels more enough end (t ∷ ts) h k l = absurd h
  fill_same levels more enough (opened r) (t ∷ ts) h ((u, e, same, least), k) l =
      let is : t ≡ u = some-injective t u same in
      let least-is : get_or table t 0 ≡ suc e = ap (λ (x : ℕ). get_or table x 0) is ∙ least in
      let (c, us, first, has, will) = has_first types t e least-is in
      let inner = least_same levels more enough us (shallow_more table e levels (omega (arith, least-is, l)) us will) in
      rw (first, inner, fill_same levels more enough r ts h k (omega (arith, l))) refl
  fill_same levels more enough (bound c fs r) (t ∷ ts) (us, has, inner, others) (k, m) l =
      rw (has, fill_same levels more enough fs us inner (rw has at k) (omega (arith, rw has at l)), fill_same levels more enough r ts others m (omega (arith, l))) refl

  -- and its names
  pub named_same : (levels more named : ℕ) → levels ≤ more → (e : Parts) (ts : List ℕ) → Typed types ts e → Fillable types ts e → deepest types ts e ≤ levels
      → fill_named types table more named ts e ≡ fill_named types table levels named ts e
  unfolding fill_named built_by deepest
  named_same levels more named enough end ts h k l = refl
  named_same levels more named enough (opened r) [] h k l = absurd h
  named_same levels more named enough (bound c fs r) [] h k l = absurd h
  named_same levels more named enough (opened r) (t ∷ ts) h ((u, e, same, least), k) l =
      let is : t ≡ u = some-injective t u same in
      let least-is : get_or table t 0 ≡ suc e = ap (λ (x : ℕ). get_or table x 0) is ∙ least in
      let (c, us, first, has, will) = has_first types t e least-is in
      let inner = least_same levels more enough us (shallow_more table e levels (omega (arith, least-is, l)) us will) in
      rw (first, inner, named_same levels more named enough r ts h k (omega (arith, l))) refl
  named_same levels more named enough (bound c fs r) (t ∷ ts) (us, has, inner, others) (k, m) l =
      rw (has, fill_same levels more enough fs us inner (rw has at k) (omega (arith, rw has at l)), named_same levels more named enough r ts others m (omega (arith, l))) refl

  -- a row whose slots all allow at most so much is no deeper
  pub row_deepest : (d : ℕ) (ss : List Slot) (e : Parts) → Each (λ (s : Slot). s.room ≤ d) ss → Typed types (slot_types ss) e → Keeps types ss e
      → deepest types (slot_types ss) e ≤ d
  unfolding deepest slot_types
  row_deepest d [] end rooms typed keeps = omega arith
  row_deepest d [] (opened r) rooms typed keeps = absurd typed
  row_deepest d [] (bound c fs r) rooms typed keeps = absurd typed
  row_deepest d (s ∷ ss) end rooms typed keeps = absurd typed
  row_deepest d (s ∷ ss) (opened r) rooms typed keeps = omega (arith, rooms.0, keeps.0, row_deepest d ss r rooms.1 typed keeps.1)
  row_deepest d (s ∷ ss) (bound c fs r) rooms typed keeps = omega (arith, rooms.0, keeps.0, row_deepest d ss r rooms.1 typed.3 keeps.1)
