-- A row that is filled is closed, keeps its types, binds at least what the row bound, and is as deep as the row is said to be.
-- Rests on specs/Filling and on reach's LeastDepths and Accepted.
use Prim.Native.Nat.{ℕ, zero, suc, ◌+◌, ◌-◌, ◌≤◌, ◌<◌}
use mathlib.Core.Path.{◌≡◌, refl, sym, ap, subst, ◌∙◌}
use mathlib.Core.Bool.{Bool, true, false, false≢true}
use mathlib.Core.List.{List, [], ◌∷◌, head?, tail}
use mathlib.Core.Option.{Option, none, some, some-injective, none-ne-some}
use native.Mathlib.Omega.{arith}
use lib.ListN.{length, get_or, get_elem?}
use Rattle.reach.specs.Base.{◌∈◌, pick}
use Rattle.reach.specs.Syntax.{Types, Program, field_types, source_types}
use Rattle.reach.specs.Parts.{Parts, end, opened, bound, all_open, Closed, Completes, depth, ◌⊑◌, ⊑-end, ⊑-open, ⊑-bind, ⊑-same}
use Rattle.reach.specs.Types.{Typed, ValueOf, ClosedInput, LeastDepth, least_depths, shallow}
use Rattle.reach.specs.Eval.{run}
use Rattle.reach.specs.Search.{Entry, says, entries}
use Rattle.reach.specs.Answers.{check, accepted}
use Rattle.reach.specs.Partial.{fields_in, deepest}
use Rattle.names.specs.Filling.{first_of, first_least, built_by, each_of, least_row, fill, Fillable, is_named, fill_named}
use Rattle.reach.proofs.Base.{picked}
use Rattle.reach.proofs.Order.{⊑_refl, ⊑-has}
use Rattle.reach.proofs.Accepted.{entries_true}
use Rattle.reach.proofs.LeastDepths.{shallow_head, shallow_cons, shallow_covers, least_depth_values}

-- what is shallow stays so with more room
pub shallow_more : (table : List ℕ) (d more : ℕ) → d ≤ more → (ts : List ℕ) → shallow table d ts ≡ true → shallow table more ts ≡ true
unfolding shallow
shallow_more table d more l [] h = refl
shallow_more table d more l (t ∷ ts) h =
    let (e, least, fits, rest) = shallow_head table d t ts h in
    shallow_cons table more t e ts least (omega (arith, fits, l)) (shallow_more table d more l ts rest)

-- a constructor is found, and it will do
abbrev Finds : List ℕ → ℕ → ℕ → List (List ℕ) → Type 0
Finds table d c cs = (n : ℕ) × (vs : List ℕ) × (first_of table d c cs ≡ some (c + n, vs)) × (get_elem? cs n ≡ some vs) × (shallow table d vs ≡ true)

-- one is where one will do
first_found : (table : List ℕ) (d c m : ℕ) (cs : List (List ℕ)) (us : List ℕ) → get_elem? cs m ≡ some us → shallow table d us ≡ true → Finds table d c cs
unfolding first_of
first_found table d c m [] us h fits = absurd (none-ne-some us h)
first_found table d c zero (ws ∷ cs) us h fits =
    let same : us ≡ ws = sym (some-injective ws us h) in
    let will : shallow table d ws ≡ true = ap (shallow table d) (sym same) ∙ fits in
    let z : c ≡ c + 0 = omega arith in
    (0, ws, rw will (ap (λ (k : ℕ). some (k, ws)) z), refl, will)
first_found table d c (suc k) (ws ∷ cs) us h fits = by_first (shallow table d ws) refl (first_found table d (suc c) k cs us h fits)
  where
    by_first : (b : Bool) → shallow table d ws ≡ b → Finds table d (suc c) cs → Finds table d c (ws ∷ cs)
    by_first true is later = let z : c ≡ c + 0 = omega arith in (0, ws, rw is (ap (λ (x : ℕ). some (x, ws)) z), refl, is)
    by_first false is (n, vs, found, there, will) =
        let z : suc c + n ≡ c + suc n = omega arith in
        (suc n, vs, rw is (found ∙ ap (λ (x : ℕ). some (x, vs)) z), there, will)

-- and none before it would
none_before : (table : List ℕ) (d c n : ℕ) (cs : List (List ℕ)) (vs : List ℕ) → first_of table d c cs ≡ some (c + n, vs) → (m : ℕ) → m < n
    → (us : List ℕ) → get_elem? cs m ≡ some us → shallow table d us ≡ false
unfolding first_of
none_before table d c n [] vs found m before us there = absurd (none-ne-some us there)
none_before table d c n (ws ∷ cs) vs found m before us there = by_first (shallow table d ws) refl (λ k is. none_before table d (suc c) k cs vs is)
  where
    by_first : (b : Bool) → shallow table d ws ≡ b
        → ((k : ℕ) → first_of table d (suc c) cs ≡ some (suc c + k, vs) → (m : ℕ) → m < k → (us : List ℕ) → get_elem? cs m ≡ some us → shallow table d us ≡ false)
        → shallow table d us ≡ false
    by_first true is later =
        let z : c ≡ c + n = ap (λ (x : ℕ × List ℕ). x.0) (some-injective (c, ws) (c + n, vs) (rw is at found)) in absurd (omega (arith, z, before))
    by_first false is later = by_place m n found before there
      where
        by_place : (m n : ℕ) → pick (shallow table d ws) (some (c, ws)) (first_of table d (suc c) cs) ≡ some (c + n, vs) → m < n → get_elem? (ws ∷ cs) m ≡ some us
            → shallow table d us ≡ false
        by_place m zero found before there = absurd (omega (arith, before))
        by_place zero (suc n) found before there = ap (shallow table d) (sym (some-injective ws us there)) ∙ is
        by_place (suc m) (suc n) found before there =
            let z : c + suc n ≡ suc c + n = omega arith in
            later n (rw (is, z) at found) m (omega (arith, before)) us there

module _ (types : Types) where
  abbrev table : List ℕ
  table = least_depths types

  -- a type that has a value has a first constructor of least depth
  abbrev pub HasFirst : ℕ → ℕ → Type 0
  HasFirst t e = (c : ℕ) × (us : List ℕ) × (first_least types table (some t) ≡ some (c, us)) × (field_types types t c ≡ some us) × (shallow table e us ≡ true)

  pub has_first : (t e : ℕ) → get_or table t 0 ≡ suc e → HasFirst t e
  unfolding first_least field_types depth
  has_first t e least = by_value (least_depth_values types t e least).0
    where
      by_value : (v : Parts) × ValueOf types t v × (depth v ≡ suc e) → HasFirst t e
      by_value (end, is, deep) = absurd is.1
      by_value (opened r, is, deep) = absurd is.0
      by_value (bound c fs r, is, deep) =
          let (us, has, inner, rest) = is.1 in
          let fits = shallow_covers types us fs e is.0.0 inner (omega arith) in
          let (n, vs, found, there, will) = first_found table e 0 c (get_or types t []) us has fits in
          let z : get_or table t 0 - 1 ≡ e = omega (arith, least) in
          (n, vs, rw z (found ∙ ap (λ (x : ℕ). some (x, vs)) (omega arith)), there, will)

  -- A constructor of least depth: some closed value that begins with it is as deep as the type's least depth.
  abbrev pub OfLeastDepth : ℕ → ℕ → Type 0
  OfLeastDepth t c = (fs : Parts) × ValueOf types t (bound c fs end) × LeastDepth types t (depth (bound c fs end))

  -- such a constructor's fields are shallow enough
  least_shallow : (t e c : ℕ) → get_or table t 0 ≡ suc e → OfLeastDepth t c → (us : List ℕ) × (field_types types t c ≡ some us) × (shallow table e us ≡ true)
  unfolding depth
  least_shallow t e c is (fs, value, least) =
      let (us, has, inner, rest) = value.1 in
      let ((v, value_of_lem, deep), below) = least_depth_values types t e is in
      (us, has, shallow_covers types us fs e value.0.0 inner (omega (arith, least.1 v value_of_lem, deep)))

  -- how deep the deepest of open parts of these types is
  abbrev deepest_open : List ℕ → ℕ
  deepest_open ts = deepest types ts (all_open (length ts))

  shallow_deepest : (d : ℕ) (ts : List ℕ) → shallow table d ts ≡ true → deepest_open ts ≤ d
  unfolding deepest all_open
  shallow_deepest d [] h = omega arith
  shallow_deepest d (t ∷ ts) h =
      let (e, least, fits, rest) = shallow_head table d t ts h in
      omega (arith, least, fits, shallow_deepest d ts rest)

  -- Least values: closed, of their types, and as deep as open parts of these types are said to be.
  record IsLeast (ts : List ℕ) (row : Parts) : Type 0 where
    closed : Closed row
    typed : Typed types ts row
    deep : depth row ≡ deepest_open ts

  none_least : IsLeast [] end
  unfolding depth deepest all_open
  none_least = record { closed = tt; typed = tt; deep = refl }

  -- the fields of a first constructor of least depth are one less deep, if they are least values
  fields_deep : (t e c : ℕ) (us : List ℕ) (fs : Parts) → get_or table t 0 ≡ suc e → field_types types t c ≡ some us → shallow table e us ≡ true
      → IsLeast us fs → depth fs ≡ e
  unfolding depth
  fields_deep t e c us fs least has fits inner =
      let low : depth fs ≤ e = omega (arith, inner.deep, shallow_deepest e us fits) in
      let high = (least_depth_values types t e least).1 (bound c fs end) ((inner.closed, tt), (us, has, inner.typed, tt)) in
      omega (arith, low, high)

  -- so the constructor over them is the least value of its type
  first_least_law : (t e c : ℕ) (us ts : List ℕ) (fs r : Parts) → get_or table t 0 ≡ suc e → field_types types t c ≡ some us → shallow table e us ≡ true
      → IsLeast us fs → IsLeast ts r → IsLeast (t ∷ ts) (bound c fs r)
  unfolding depth deepest all_open
  first_least_law t e c us ts fs r least has fits inner rest = record {
    closed = (inner.closed, rest.closed);
    typed = (us, has, inner.typed, rest.typed);
    deep = rw (fields_deep t e c us fs least has fits inner, rest.deep, ← least) refl;
  }

  least_rows : (levels : ℕ) → ((us : List ℕ) → shallow table levels us ≡ true → IsLeast us (least_row types table levels us))
      → (ts : List ℕ) → shallow table (suc levels) ts ≡ true
      → IsLeast ts (each_of (λ t. built_by (least_row types table levels) (first_least types table (some t))) ts)
  unfolding each_of built_by
  least_rows levels below [] h = none_least
  least_rows levels below (t ∷ ts) h =
      let (e, least, fits, rest) = shallow_head table (suc levels) t ts h in
      let (c, us, first, has, will) = has_first t e least in
      let inner = below us (shallow_more table e levels (omega (arith, fits)) us will) in
      rw first (first_least_law t e c us ts (least_row types table levels us) _ least has will inner (least_rows levels below ts rest))

  least_row_law : (levels : ℕ) (ts : List ℕ) → shallow table levels ts ≡ true → IsLeast ts (least_row types table levels ts)
  unfolding least_row each_of
  least_row_law zero [] h = none_least
  least_row_law zero (t ∷ ts) h = let (e, least, fits, rest) = shallow_head table zero t ts h in absurd (omega arith)
  least_row_law (suc levels) ts h = least_rows levels (least_row_law levels) ts h

  -- the first constructor of least depth is one, and no constructor before it is
  pub first_exactly : (t e : ℕ) → get_or table t 0 ≡ suc e → (c : ℕ) (us : List ℕ) → first_least types table (some t) ≡ some (c, us)
      → OfLeastDepth t c × ((b : ℕ) → b < c → ¬ OfLeastDepth t b)
  unfolding first_least field_types depth
  first_exactly t e is c us first =
      let (d, vs, found, has, will) = has_first t e is in
      let same : d ≡ c = ap (λ (x : ℕ × List ℕ). x.0) (some-injective (d, vs) (c, us) (sym found ∙ first)) in
      let inner = least_row_law e vs will in
      let whole = first_least_law t e d vs [] (least_row types table e vs) end is has will inner none_least in
      let deep : depth (bound d (least_row types table e vs) end) ≡ suc e = omega (arith, fields_deep t e d vs (least_row types table e vs) is has will inner) in
      let z : get_or table t 0 - 1 ≡ e = omega (arith, is) in
      let tried : first_of table e 0 (get_or types t []) ≡ some (0 + c, us) = rw z at first ∙ ap (λ (x : ℕ). some (x, us)) (omega arith) in (
        subst (OfLeastDepth t) same (least_row types table e vs, (whole.closed, whole.typed), subst (LeastDepth types t) (sym deep) (least_depth_values types t e is)),
        λ b before of. let (ws, there, shallow-is) = least_shallow t e b is of in
            false≢true (sym (none_before table e 0 c (get_or types t []) us tried b before ws there) ∙ shallow-is),
      )

  -- A row to be filled.

  -- it is closed once it is filled, keeps its types, binds at least what was bound, and is as deep as it is said to be
  pub record IsFilled (ts : List ℕ) (e f : Parts) : Type 0 where
    pub closed : Closed f
    pub typed : Typed types ts f
    pub binds : e ⊑ f
    pub deep : depth f ≡ deepest types ts e

  pub fill_filled : (levels : ℕ) (e : Parts) (ts : List ℕ) → Typed types ts e → Fillable types ts e → deepest types ts e ≤ levels
      → IsFilled ts e (fill types table levels ts e)
  unfolding fill built_by depth deepest
  fill_filled levels end [] h k l = record { closed = tt; typed = tt; binds = ⊑-end; deep = refl }
  fill_filled levels (opened r) [] h k l = absurd h
  fill_filled levels (bound c fs r) [] h k l = absurd h
  fill_filled levels end (t ∷ ts) h k l = absurd h
  fill_filled levels (opened r) (t ∷ ts) h ((u, e, same, least), k) l =
      let is : t ≡ u = some-injective t u same in
      let least-is : get_or table t 0 ≡ suc e = ap (λ (x : ℕ). get_or table x 0) is ∙ least in
      let (c, us, first, has, will) = has_first t e least-is in
      let inner = least_row_law levels us (shallow_more table e levels (omega (arith, least-is, l)) us will) in
      let rest = fill_filled levels r ts h k (omega (arith, l)) in
      rw first (record {
        closed = (inner.closed, rest.closed);
        typed = (us, has, inner.typed, rest.typed);
        binds = ⊑-bind rest.binds;
        deep = rw (fields_deep t e c us (least_row types table levels us) least-is has will inner, rest.deep, ← least-is) refl;
      })
  fill_filled levels (bound c fs r) (t ∷ ts) (us, has, inner, others) (k, m) l =
      let fields = fill_filled levels fs us inner (rw has at k) (omega (arith, rw has at l)) in
      let rest = fill_filled levels r ts others m (omega (arith, l)) in
      rw has (record {
        closed = (fields.closed, rest.closed);
        typed = (us, has, fields.typed, rest.typed);
        binds = ⊑-same fields.binds rest.binds;
        deep = rw (fields.deep, rest.deep, has) refl;
      })

-- What is filled binds at least what was bound, whatever the types are.
module _ (types : Types) (table : List ℕ) (levels : ℕ) where
  built_below : (fields : List ℕ → Parts) (o : Option (ℕ × List ℕ)) {r s : Parts} → r ⊑ s → opened r ⊑ built_by fields o s
  unfolding built_by
  built_below fields none below = ⊑-open below
  built_below fields (some (c, us)) below = ⊑-bind below

  pub fill_below : (e : Parts) (ts : List ℕ) → e ⊑ fill types table levels ts e
  unfolding fill
  fill_below end ts = ⊑-end
  fill_below (opened r) ts = built_below (least_row types table levels) (first_least types table (head? ts)) (fill_below r (tail ts))
  fill_below (bound c fs r) ts = ⊑-same (fill_below fs (fields_in types (head? ts) c)) (fill_below r (tail ts))

  pub named_below : (named : ℕ) (e : Parts) (ts : List ℕ) → e ⊑ fill_named types table levels named ts e
  unfolding fill_named
  named_below named end ts = ⊑-end
  named_below named (opened r) ts =
      picked (λ (f : Parts). opened r ⊑ f) (is_named named (head? ts))
      (λ is. built_below (least_row types table levels) (first_least types table (head? ts)) (named_below named r (tail ts)))
      (λ other. ⊑-open (named_below named r (tail ts)))
  named_below named (bound c fs r) ts =
      ⊑-same
      (picked (λ (f : Parts). fs ⊑ f) (is_named named (head? ts)) (λ is. fill_below fs (fields_in types (head? ts) c)) (λ other. ⊑_refl fs))
      (named_below named r (tail ts))

-- 02, Slip 4: "A filled entry, its other parameters completed in any fitting way, behaves as its entry says."
pub filled_true : (file : List ℕ) (p : Program) → check file ≡ accepted p → (e : Entry) → e ∈ entries p → (named levels : ℕ) (j : Parts) → ClosedInput p j
    → Completes j (fill_named p.types (least_depths p.types) levels named (source_types p) e.input) → run p j ≡ says e.kind e.steps
filled_true file p h e m named levels j values completes =
    entries_true file p h e m j values
    (λ q c has-at. let (k, there) = has-at in
    completes q c (k, ⊑-has (named_below p.types (least_depths p.types) levels named e.input (source_types p)) q there))
