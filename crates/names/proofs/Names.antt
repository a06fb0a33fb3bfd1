-- Every list of bytes is spelt by one closed value of the named type, one deeper than the list is long.
-- Rests on specs/Spelling and Filling and on reach's Names.
use Prim.Native.Nat.{ℕ, zero, suc, ◌+◌, ◌*◌, ◌/◌, ◌%◌, ◌<◌}
use mathlib.Core.Path.{◌≡◌, refl, sym, subst}
use mathlib.Core.List.{List, [], ◌∷◌}
use mathlib.Core.Logic.{◌⊎◌, inl, inr}
use mathlib.Core.Option.{some, some-injective, none-ne-some}
use native.Mathlib.Omega.{arith}
use lib.ListN.{length, get_or, get_elem?, replicate}
use Rattle.reach.specs.Base.{Each}
use Rattle.reach.specs.Syntax.{Types, field_types}
use Rattle.reach.specs.Parts.{Parts, end, opened, bound, Closed, depth}
use Rattle.reach.specs.Types.{Typed, ValueOf, shallow}
use Rattle.reach.specs.Names.{Spells}
use Rattle.names.specs.Filling.{first_of, first_least, built_by, each_of, least_row, fill}
use Rattle.names.specs.Spelling.{spelled, name_of}

-- a constructor of a type with sixteen, none of which has a field
half_there : (n h : ℕ) → h < n → get_elem? (replicate {A = List ℕ} n []) h ≡ some []
half_there zero h l = absurd (omega arith)
half_there (suc n) zero l = refl
half_there (suc n) (suc h) l = half_there n h (omega arith)

half_only : (n h : ℕ) (us : List ℕ) → get_elem? (replicate {A = List ℕ} n []) h ≡ some us → (h < n) × (us ≡ [])
half_only zero h us e = absurd (none-ne-some us e)
half_only (suc n) zero us e = (omega arith, sym (some-injective [] us e))
half_only (suc n) (suc h) us e = let below = half_only n h us e in (omega (arith, below.0), below.1)

abbrev Bytes : List ℕ → Type 0
Bytes bs = Each (λ (b : ℕ). b < 256) bs

-- Filling of types whose first constructor has no field: of names and of their halves.

module _ (types : Types) (table : List ℕ) (levels : ℕ) where
  -- nothing is filled where there is nothing
  none_least : (n : ℕ) → least_row types table n [] ≡ end
  unfolding least_row each_of
  none_least zero = refl
  none_least (suc n) = refl

  -- the first constructor of least depth is the first one, if it has no field
  first_plain : (u : ℕ) (cs : List (List ℕ)) → get_or types u [] ≡ [] ∷ cs → first_least types table (some u) ≡ some (0, [])
  unfolding first_least first_of shallow
  first_plain u cs is = rw is

  -- an open part of such a type is filled by it
  pub open_plain : (u : ℕ) (us : List ℕ) (cs : List (List ℕ)) (r : Parts) → get_or types u [] ≡ [] ∷ cs
      → fill types table levels (u ∷ us) (opened r) ≡ bound 0 end (fill types table levels us r)
  unfolding fill built_by
  open_plain u us cs r is = rw (first_plain u cs is, none_least levels)

module _ (types : Types) (t : ℕ) (spells : Spells types t) where
  empty_there : field_types types t 0 ≡ some []
  unfolding field_types
  empty_there = rw spells.constructors refl

  letter_there : field_types types t 1 ≡ some (spells.high ∷ spells.low ∷ t ∷ [])
  unfolding field_types
  letter_there = rw spells.constructors refl

  high_there : (h : ℕ) → h < 16 → field_types types spells.high h ≡ some []
  unfolding field_types
  high_there h l = rw spells.high_half (half_there 16 h l)

  low_there : (h : ℕ) → h < 16 → field_types types spells.low h ≡ some []
  unfolding field_types
  low_there h l = rw spells.low_half (half_there 16 h l)

  -- the name of these bytes is a closed value
  pub name_value : (bs : List ℕ) → Bytes bs → ValueOf types t (name_of bs)
  unfolding name_of
  name_value [] h = ((tt, tt), ([], empty_there, tt, tt))
  name_value (b ∷ bs) (small, rest) =
      let (closed, typed) = name_value bs rest in (
        ((tt, (tt, closed)), tt),
        (spells.high ∷ spells.low ∷ t ∷ [], letter_there, ([], high_there (b / 16) (omega arith), tt, ([], low_there (b % 16) (omega arith), tt, typed)), tt),
      )

  pub name_deep : (bs : List ℕ) → depth (name_of bs) ≡ suc (length bs)
  unfolding name_of depth
  name_deep [] = omega arith
  name_deep (b ∷ bs) = omega (arith, name_deep bs)

  -- and spells them
  pub name_spelled : (bs : List ℕ) → spelled (name_of bs) ≡ bs
  unfolding name_of spelled
  name_spelled [] = refl
  name_spelled (b ∷ bs) = let z : 16 * (b / 16) + b % 16 ≡ b = omega arith in rw (z, name_spelled bs) refl

  -- which constructors the type has
  abbrev pub Either : ℕ → List ℕ → Type 0
  Either c us = ((c ≡ 0) × (us ≡ [])) ⊎ ((c ≡ 1) × (us ≡ spells.high ∷ spells.low ∷ t ∷ []))

  pub either : (c : ℕ) (us : List ℕ) → field_types types t c ≡ some us → Either c us
  unfolding field_types
  either c us e = by_number c (rw spells.constructors at e)
    where
      by_number : (n : ℕ) → get_elem? ([] ∷ (spells.high ∷ spells.low ∷ t ∷ []) ∷ []) n ≡ some us → Either n us
      by_number zero h = inl (refl, sym (some-injective [] us h))
      by_number (suc zero) h = inr (refl, sym (some-injective (spells.high ∷ spells.low ∷ t ∷ []) us h))
      by_number (suc (suc n)) h = absurd (none-ne-some us h)

  pub no_parts : (fs : Parts) → Typed types [] fs → fs ≡ end
  no_parts end h = refl
  no_parts (opened r) h = absurd h
  no_parts (bound c gs r) h = absurd h

  -- a half is a number below sixteen, without fields
  pub high_only : (h : ℕ) (us : List ℕ) → field_types types spells.high h ≡ some us → (h < 16) × (us ≡ [])
  unfolding field_types
  high_only h us e = half_only 16 h us (rw spells.high_half at e)

  pub low_only : (h : ℕ) (us : List ℕ) → field_types types spells.low h ≡ some us → (h < 16) × (us ≡ [])
  unfolding field_types
  low_only h us e = half_only 16 h us (rw spells.low_half at e)

  -- every closed value of the named type is the name of the bytes that it spells
  abbrev pub IsName : Parts → Type 0
  IsName v = (v ≡ name_of (spelled v)) × Bytes (spelled v)

  empty_name : (c : ℕ) (r : Parts) → Typed types (t ∷ []) (bound c end r) → IsName (bound c end r)
  unfolding spelled name_of
  empty_name c r (us, has, inner, rest) = by_either (either c us has) inner
    where
      by_either : Either c us → Typed types us end → IsName (bound c end r)
      by_either (inl (is, none)) typed = rw (is, no_parts r rest) (refl, tt)
      by_either (inr (is, these)) typed = absurd (subst (λ (ws : List ℕ). Typed types ws end) these typed)

  -- a letter before a name
  letter_name : (c h l : ℕ) (hs ls name r : Parts) → Closed (bound c (bound h hs (bound l ls name)) r)
      → Typed types (t ∷ []) (bound c (bound h hs (bound l ls name)) r) → (ValueOf types t name → IsName name) → IsName (bound c (bound h hs (bound l ls name)) r)
  unfolding spelled name_of
  letter_name c h l hs ls name r closed (us, has, inner, rest) below = by_either (either c us has) inner
    where
      by_either : Either c us → Typed types us (bound h hs (bound l ls name)) → IsName (bound c (bound h hs (bound l ls name)) r)
      by_either (inl (is, none)) typed = absurd (subst (λ (ws : List ℕ). Typed types ws (bound h hs (bound l ls name))) none typed)
      by_either (inr (is, these)) typed = by_fields (subst (λ (ws : List ℕ). Typed types ws (bound h hs (bound l ls name))) these typed)
        where
          by_fields : Typed types (spells.high ∷ spells.low ∷ t ∷ []) (bound h hs (bound l ls name)) → IsName (bound c (bound h hs (bound l ls name)) r)
          by_fields (vs, high-has, high-none, (ws, low-has, low-none, name_Typed)) =
              let high = high_only h vs high-has in
              let low = low_only l ws low-has in
              let hs-end : hs ≡ end = no_parts hs (subst (λ (xs : List ℕ). Typed types xs hs) high.1 high-none) in
              let ls-end : ls ≡ end = no_parts ls (subst (λ (xs : List ℕ). Typed types xs ls) low.1 low-none) in
              let tail_name = below (closed.0.1.1, name_Typed) in
              let upper : (16 * h + l) / 16 ≡ h = omega (arith, low.0) in
              let lower : (16 * h + l) % 16 ≡ l = omega (arith, low.0) in
              let small : 16 * h + l < 256 = omega (arith, high.0, low.0) in
              (rw (is, hs-end, ls-end, no_parts r rest, upper, lower, ← tail_name.0) refl, (small, tail_name.1))

  -- a letter has three fields
  short_letter : (c h : ℕ) (hs r : Parts) → Typed types (t ∷ []) (bound c (bound h hs end) r) → ⊥
  short_letter c h hs r (us, has, inner, rest) = by_either (either c us has) inner
    where
      by_either : Either c us → Typed types us (bound h hs end) → ⊥
      by_either (inl (is, none)) typed = subst (λ (ws : List ℕ). Typed types ws (bound h hs end)) none typed
      by_either (inr (is, these)) typed = (subst (λ (ws : List ℕ). Typed types ws (bound h hs end)) these typed).3

  pub name_only : (v : Parts) → ValueOf types t v → IsName v
  name_only end (closed, typed) = absurd typed
  name_only (opened r) (closed, typed) = absurd closed
  name_only (bound c end r) (closed, typed) = empty_name c r typed
  name_only (bound c (opened fs) r) (closed, typed) = absurd closed.0
  name_only (bound c (bound h hs end) r) (closed, typed) = absurd (short_letter c h hs r typed)
  name_only (bound c (bound h hs (opened gs)) r) (closed, typed) = absurd closed.0.1
  name_only (bound c (bound h hs (bound l ls name)) r) (closed, typed) = letter_name c h l hs ls name r closed typed (λ is. name_only name is)
