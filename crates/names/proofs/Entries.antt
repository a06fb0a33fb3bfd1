-- An entry whose names are filled: every name in it is a closed value of the named type and fits the depth, and the values of other types stay as they are.
-- Rests on Filling and on reach's Typing and LeastDepths.
use Prim.Native.Nat.{ℕ, zero, suc, ◌≤◌, ◌<◌}
use mathlib.Core.Path.{◌≡◌, refl, sym, ap, subst, ◌∙◌}
use mathlib.Core.Bool.{Bool, true, false, false≢true, and-eq-true_iff}
use mathlib.Core.List.{List, [], ◌∷◌, head?, tail}
use mathlib.Core.Option.{Option, none, some, some-injective}
use native.Mathlib.Omega.{arith}
use lib.ListN.{length, get_or}
use lib.Dec.{eqb, ltb}
use borrow.Author.Tests.{eqb-true, eqb-false, ne_eqb}
use Rattle.reach.specs.Base.{Each, pick}
use Rattle.reach.specs.Syntax.{Types, Function, Program, field_types, function_at, parameters_of, source_types}
use Rattle.reach.specs.Parts.{Parts, end, opened, bound, depth}
use Rattle.reach.specs.Types.{Slot, slot_types, Typed, ValueOf, least_depths}
use Rattle.reach.specs.Typing.{Exists, WellTyped}
use Rattle.reach.specs.RuleFile.{no_empty_type}
use Rattle.reach.specs.Partial.{fields_in, deepest, Keeps}
use Rattle.reach.proofs.Base.{nth_member, each_member, each_get_d}
use Rattle.reach.proofs.LeastDepths.{rounds_length}
use Rattle.names.specs.Filling.{built_by, least_row, first_least, fill, Fillable, is_named, fill_named}
use Rattle.names.specs.NameList.{names_in}
use Rattle.names.proofs.Filling.{has_first, IsFilled, fill_filled}

-- ---- open parts of an accepted file's types can be filled

-- a table without a 0
no_zero : (ds : List ℕ) → no_empty_type ds ≡ true → (t : ℕ) → t < length ds → (e : ℕ) × (get_or ds t 0 ≡ suc e)
unfolding no_empty_type
no_zero [] all t h = absurd (omega (arith, h))
no_zero (zero ∷ ds) all t h = absurd (false≢true all)
no_zero (suc d ∷ ds) all zero h = (d, refl)
no_zero (suc d ∷ ds) all (suc t) h = no_zero ds ((and-eq-true_iff (ltb 0 (suc d)) (no_empty_type ds)).0 all).1 t (omega (arith, h))

module _ (p : Program) (typed : WellTyped p) (no_empty : no_empty_type (least_depths p.types) ≡ true) where
  has_least : (t : ℕ) → Exists p.types t → (e : ℕ) × (get_or (least_depths p.types) t 0 ≡ suc e)
  unfolding least_depths
  has_least t there = no_zero (least_depths p.types) no_empty t (omega (arith, there, rounds_length p.types (length p.types)))

  fields_there : (t c : ℕ) (us : List ℕ) → field_types p.types t c ≡ some us → Each (Exists p.types) us
  unfolding field_types
  fields_there t c us has =
      each_member (Each (Exists p.types)) (each_get_d (Each (Each (Exists p.types))) p.types t [] typed.fields_exist tt)
      (nth_member (get_or p.types t []) c us has)

  pub fillable : (e : Parts) (ts : List ℕ) → Each (Exists p.types) ts → Typed p.types ts e → Fillable p.types ts e
  fillable end ts all h = tt
  fillable (opened r) [] all h = absurd h
  fillable (opened r) (t ∷ ts) all h = let (e, least) = has_least t all.0 in ((t, e, refl, least), fillable r ts all.1 h)
  fillable (bound c fs r) [] all h = absurd h
  fillable (bound c fs r) (t ∷ ts) all (us, has, inner, others) =
      (rw has (fillable fs us (fields_there t c us has) inner), fillable r ts all.1 others)

  -- the types of the source's parameters exist
  pub source_there : Each (Exists p.types) (source_types p)
  unfolding source_types
  source_there = by_function (function_at p p.source) refl
    where
      by_function : (f : Option Function) → function_at p p.source ≡ f → Each (Exists p.types) (parameters_of f)
      by_function none is = tt
      by_function (some f) is = (typed.functions_typed p.source f is).0

-- ---- the names of a filled row

module _ (types : Types) (levels named : ℕ) where
  abbrev table : List ℕ
  table = least_depths types

  -- a closed value of the named type that is at most so deep
  abbrev pub IsFilledName : ℕ → Parts → Type 0
  IsFilledName room v = ValueOf types named v × (depth v ≤ room)

  -- in every slot of the named type there is one that fits it
  abbrev pub NamesFit : List Slot → Parts → Type 0
  NamesFit [] r = Unit {0}
  NamesFit (s ∷ ss) end = Unit {0}
  NamesFit (s ∷ ss) (opened r) = ¬ (s.type ≡ named) × NamesFit ss r
  NamesFit (s ∷ ss) (bound c fs r) = (s.type ≡ named → IsFilledName s.room (bound c fs end)) × NamesFit ss r

  -- a value that was filled is one
  one_filled : (s : Slot) (e v : Parts) → s.type ≡ named → IsFilled types (s.type ∷ []) e v → deepest types (s.type ∷ []) e ≤ s.room → IsFilledName s.room v
  one_filled s e v same filled fits = ((filled.closed, subst (λ (u : ℕ). Typed types (u ∷ []) v) same filled.typed), omega (arith, filled.deep, fits))

  -- an open part at the front of a row, the rest of which is filled
  open_filled : (s : Slot) (ss : List Slot) (r : Parts) → s.room ≤ levels → Fillable types (s.type ∷ []) (opened end)
      → deepest types (s.type ∷ []) (opened end) ≤ s.room → NamesFit ss r
      → NamesFit (s ∷ ss) (pick (is_named named (some s.type)) (built_by (least_row types table levels) (first_least types table (some s.type)) r) (opened r))
  unfolding fill built_by is_named
  open_filled s ss r below k fits rest = by_name (eqb s.type named) refl
    where
      by_name : (b : Bool) → eqb s.type named ≡ b
          → NamesFit (s ∷ ss) (pick b (built_by (least_row types table levels) (first_least types table (some s.type)) r) (opened r))
      by_name true is =
          let (u, e, same, least) = k.0 in
          let here : s.type ≡ u = some-injective s.type u same in
          let (c, us, first, has, will) = has_first types s.type e (ap (λ (x : ℕ). get_or table x 0) here ∙ least) in
          let whole = fill_filled types levels (opened end) (s.type ∷ []) tt k (omega (arith, fits, below)) in
          rw first (λ same-type. one_filled s (opened end) (bound c (least_row types table levels us) end) same-type (rw first at whole) fits, rest)
      by_name false is = (eqb-false s.type named is, rest)

  -- a bound part
  bound_filled : (s : Slot) (c : ℕ) (ss : List Slot) (fs r : Parts) → s.room ≤ levels → Typed types (s.type ∷ []) (bound c fs end)
      → Fillable types (s.type ∷ []) (bound c fs end) → deepest types (s.type ∷ []) (bound c fs end) ≤ s.room → NamesFit ss r
      → NamesFit (s ∷ ss) (bound c (pick (is_named named (some s.type)) (fill types table levels (fields_in types (some s.type) c) fs) fs) r)
  unfolding fill is_named
  bound_filled s c ss fs r below h k fits rest = by_name (eqb s.type named) refl
    where
      by_name : (b : Bool) → eqb s.type named ≡ b
          → NamesFit (s ∷ ss) (bound c (pick b (fill types table levels (fields_in types (some s.type) c) fs) fs) r)
      by_name true is =
          (λ same. one_filled s (bound c fs end) _ same (fill_filled types levels (bound c fs end) (s.type ∷ []) h k (omega (arith, fits, below))) fits, rest)
      by_name false is = (λ same. absurd (eqb-false s.type named is same), rest)

  -- every name of a row is filled, and fits its slot
  pub names_fit : (e : Parts) (ss : List Slot) → Each (λ (s : Slot). s.room ≤ levels) ss → Typed types (slot_types ss) e → Fillable types (slot_types ss) e
      → Keeps types ss e → NamesFit ss (fill_named types table levels named (slot_types ss) e)
  unfolding fill_named slot_types
  names_fit end [] below h k keeps = tt
  names_fit end (s ∷ ss) below h k keeps = tt
  names_fit (opened r) [] below h k keeps = absurd h
  names_fit (opened r) (s ∷ ss) below h (here, k) (fits, keeps) =
      open_filled s ss (fill_named types table levels named (slot_types ss) r) below.0 (here, tt) fits (names_fit r ss below.1 h k keeps)
  names_fit (bound c fs r) [] below h k keeps = absurd h
  names_fit (bound c fs r) (s ∷ ss) below (us, has, inner, others) (k, m) (fits, keeps) =
      bound_filled s c ss fs (fill_named types table levels named (slot_types ss) r) below.0 (us, has, inner, tt) (k, tt) fits (names_fit r ss below.1 others m keeps)

  -- so each is at most as deep as no slot exceeds
  pub names_within : (most : ℕ) (row : Parts) (ss : List Slot) → Each (λ (s : Slot). s.room ≤ most) ss → NamesFit ss row
      → Each (IsFilledName most) (names_in named (slot_types ss) row)
  unfolding names_in is_named slot_types
  names_within most end ss below fit = tt
  names_within most (opened r) [] below fit = names_within most r [] below tt
  names_within most (bound c fs r) [] below fit = names_within most r [] below tt
  names_within most (opened r) (s ∷ ss) below (other, fit) = rw (ne_eqb s.type named other) (names_within most r ss below.1 fit)
  names_within most (bound c fs r) (s ∷ ss) below (here, fit) = by_name (eqb s.type named) refl (names_within most r ss below.1 fit)
    where
      by_name : (b : Bool) → eqb s.type named ≡ b → Each (IsFilledName most) (names_in named (slot_types ss) r)
          → Each (IsFilledName most) (pick b (bound c fs end ∷ names_in named (slot_types ss) r) (names_in named (slot_types ss) r))
      by_name true is rest = let (value, deep) = here (eqb-true s.type named is) in ((value, omega (arith, deep, below.0)), rest)
      by_name false is rest = rest

-- ---- the values of other types

module _ (types : Types) (table : List ℕ) (levels named other : ℕ) (apart : ¬ (other ≡ named)) where
  -- a value of the named type is none of another
  not_other : (t : Option ℕ) → is_named named t ≡ true → is_named other t ≡ false
  unfolding is_named
  not_other none is = refl
  not_other (some t) is = by_test (eqb t other) refl
    where
      by_test : (b : Bool) → eqb t other ≡ b → b ≡ false
      by_test true same = absurd (apart (sym (eqb-true t other same) ∙ eqb-true t named is))
      by_test false differs = refl

  built_passed : (fields : List ℕ → Parts) (o : Option (ℕ × List ℕ)) (r : Parts) (ts : List ℕ) → is_named other (head? ts) ≡ false
      → names_in other ts (built_by fields o r) ≡ names_in other (tail ts) r
  unfolding names_in built_by
  built_passed fields none r ts differs = rw differs
  built_passed fields (some (c, us)) r ts differs = rw differs

  pub others_kept : (e : Parts) (ts : List ℕ) → names_in other ts (fill_named types table levels named ts e) ≡ names_in other ts e
  unfolding names_in fill_named
  others_kept end ts = refl
  others_kept (opened r) ts = by_name (is_named named (head? ts)) refl (others_kept r (tail ts))
    where
      by_name : (b : Bool) → is_named named (head? ts) ≡ b → names_in other (tail ts) (fill_named types table levels named (tail ts) r) ≡ names_in other (tail ts) r
          → names_in other ts (pick b (built_by (least_row types table levels) (first_least types table (head? ts)) (fill_named types table levels named (tail ts) r))
          (opened (fill_named types table levels named (tail ts) r))) ≡ names_in other ts (opened r)
      by_name true is rest = built_passed _ (first_least types table (head? ts)) _ ts (not_other (head? ts) is) ∙ rest ∙ rw (not_other (head? ts) is)
      by_name false is rest = rw rest
  others_kept (bound c fs r) ts = by_name (is_named named (head? ts)) refl (others_kept r (tail ts))
    where
      by_name : (b : Bool) → is_named named (head? ts) ≡ b → names_in other (tail ts) (fill_named types table levels named (tail ts) r) ≡ names_in other (tail ts) r
          → names_in other ts (bound c (pick b (fill types table levels (fields_in types (head? ts) c) fs) fs) (fill_named types table levels named (tail ts) r))
          ≡ names_in other ts (bound c fs r)
      by_name true is rest = rw (not_other (head? ts) is) rest
      by_name false is rest = rw rest
