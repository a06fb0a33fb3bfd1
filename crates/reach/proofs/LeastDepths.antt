-- The table of least depths is right: an entry above 0 is the depth of the shallowest closed value of its type, and a type with entry 0
-- has no closed value. As many rounds as there are types are enough, and so are those before a round that changes nothing.
-- Rests on Types and Parts of specs/.
use Prim.Native.Nat.{ℕ, zero, suc, ◌+◌, ◌-◌, ◌≤◌, ◌<◌, zero-le}
use native.Mathlib.Nat.{le_refl, le_trans, le-suc, zero-add, suc-add, sub-add_cancel}
use native.Mathlib.Omega.{arith}
use mathlib.Core.Path.{◌≡◌, refl, sym, ap, ◌∙◌}
use mathlib.Core.Logic.{◌⊎◌, inl, inr, ⊎_elim}
use mathlib.Core.Bool.{Bool, true, false, ◌&&◌, ◌||◌, false≢true, and-true, or-true, and-eq-true_iff}
use mathlib.Core.Option.{some}
use mathlib.Core.List.{List, [], ◌∷◌, zip_with}
use lib.ListN.{length, get_or, get_elem?, replicate, length-replicate}
use lib.Dec.{ltb, leb}
use borrow.Author.Tests.{leb-true, lt-ltb, le-leb}
use Rattle.reach.specs.Base.{pick}
use Rattle.reach.specs.Syntax.{Types, field_types}
use Rattle.reach.specs.Parts.{Parts, end, opened, bound, Closed, depth}
use Rattle.reach.specs.Types.{Typed, ValueOf, LeastDepth, known, inhabited, round, rounds, least_depths, shallow}
use Rattle.reach.proofs.Base.{picked}

-- ---- lists and choices

length_zip_with : {A B C : Type 0} (f : A → B → C) (xs : List A) (ys : List B) → length xs ≡ length ys → length (zip_with f xs ys) ≡ length xs
unfolding zip_with
length_zip_with f [] ys e = refl
length_zip_with f (x ∷ xs) [] e = sym e
length_zip_with f (x ∷ xs) (y ∷ ys) e = ap suc (length_zip_with f xs ys (cc))

get_d_zip_with : {A B C : Type 0} (f : A → B → C) (xs : List A) (ys : List B) (n : ℕ) (a : A) (b : B) → length xs ≡ length ys
    → get_or (zip_with f xs ys) n (f a b) ≡ f (get_or xs n a) (get_or ys n b)
unfolding zip_with
get_d_zip_with f [] [] n a b e = refl
get_d_zip_with f [] (y ∷ ys) n a b e = absurd (omega arith)
get_d_zip_with f (x ∷ xs) [] n a b e = absurd (omega arith)
get_d_zip_with f (x ∷ xs) (y ∷ ys) zero a b e = refl
get_d_zip_with f (x ∷ xs) (y ∷ ys) (suc n) a b e = get_d_zip_with f xs ys n a b (cc)

get_d_zeros : (n t : ℕ) → get_or {A = ℕ} (replicate n 0) t 0 ≡ 0
get_d_zeros zero t = refl
get_d_zeros (suc n) zero = refl
get_d_zeros (suc n) (suc t) = get_d_zeros n t

-- ---- one round

-- the entry of a type with constructors cs after round d, from its entry before; p tells whether such a type is inhabited
abbrev renewed : (List (List ℕ) → Bool) → ℕ → List (List ℕ) → ℕ → ℕ
renewed p d cs old = pick (ltb 0 old) old (pick (p cs) d 0)

-- how many types of a table have a number
positive : List ℕ → ℕ
positive [] = 0
positive (zero ∷ ns) = positive ns
positive (suc n ∷ ns) = suc (positive ns)

positive_le : (ns : List ℕ) → positive ns ≤ length ns
unfolding positive
positive_le [] = zero-le
positive_le (zero ∷ ns) = let h = positive_le ns in omega arith
positive_le (suc n ∷ ns) = let h = positive_le ns in omega arith

-- no round changes the table, whatever its number
abbrev Settled : (List (List ℕ) → Bool) → Types → List ℕ → Type 0
Settled p types table = (n : ℕ) → zip_with (renewed p n) types table ≡ table

-- round d + 1 gives a number to at least one more type
abbrev Grows : (List (List ℕ) → Bool) → ℕ → Types → List ℕ → Type 0
Grows p d types table = positive table < positive (zip_with (renewed p (suc d)) types table)

-- either no round changes the table, or this one gives a number to at least one more type
settled_or_grows : (p : List (List ℕ) → Bool) (d : ℕ) (types : Types) (table : List ℕ) → length types ≡ length table
    → Settled p types table ⊎ Grows p d types table
unfolding positive zip_with
settled_or_grows p d [] [] e = inl (λ n. refl)
settled_or_grows p d [] (old ∷ table) e = absurd (omega arith)
settled_or_grows p d (cs ∷ types) [] e = absurd (omega arith)
settled_or_grows p d (cs ∷ types) (zero ∷ table) e = go (p cs) refl (settled_or_grows p d types table (cc))
  where
    go : (b : Bool) → p cs ≡ b → Settled p types table ⊎ Grows p d types table
        → Settled p (cs ∷ types) (zero ∷ table) ⊎ Grows p d (cs ∷ types) (zero ∷ table)
    go true q (inl same) = inr (rw (q, same (suc d)) (le_refl _))
    go true q (inr more) = inr (rw q (omega arith))
    go false q (inl same) = inl (λ n. rw (q, same n))
    go false q (inr more) = inr (rw q more)
settled_or_grows p d (cs ∷ types) (suc old ∷ table) e = go (settled_or_grows p d types table (cc))
  where
    go : Settled p types table ⊎ Grows p d types table → Settled p (cs ∷ types) (suc old ∷ table) ⊎ Grows p d (cs ∷ types) (suc old ∷ table)
    go (inl same) = inl (λ n. rw (lt-ltb 0 (suc old) (omega arith), same n))
    go (inr more) = inr (rw (lt-ltb 0 (suc old) (omega arith)) (omega arith))

-- ---- tests on rows of types

-- the first type of a shallow row has a number that is at most d, and the rest of the row is shallow
pub shallow_head : (table : List ℕ) (d t : ℕ) (ts : List ℕ) → shallow table d (t ∷ ts) ≡ true
    → (e : ℕ) × (get_or table t 0 ≡ suc e) × (suc e ≤ d) × (shallow table d ts ≡ true)
unfolding shallow
shallow_head table d t ts h = go (get_or table t 0) h
  where
    go : (n : ℕ) → ((ltb 0 n && leb n d) && shallow table d ts) ≡ true → (e : ℕ) × (n ≡ suc e) × (suc e ≤ d) × (shallow table d ts ≡ true)
    go zero k = absurd (false≢true k)
    go (suc e) k =
        let both = (and-eq-true_iff _ _).0 k in
        (e, refl, leb-true (suc e) d ((and-eq-true_iff (ltb 0 (suc e)) _).0 both.0).1, both.1)

pub shallow_cons : (table : List ℕ) (d t e : ℕ) (ts : List ℕ) → get_or table t 0 ≡ suc e → suc e ≤ d → shallow table d ts ≡ true
    → shallow table d (t ∷ ts) ≡ true
unfolding shallow
shallow_cons table d t e ts q h rest = rw (q, lt-ltb 0 (suc e) (omega arith), le-leb (suc e) d h) rest

-- one of these constructors has fields of known types only
abbrev Known : List ℕ → List (List ℕ) → Type 0
Known table cs = (c : ℕ) × (us : List ℕ) × (get_elem? cs c ≡ some us) × (known table us ≡ true)

inhabited_known : (table : List ℕ) (cs : List (List ℕ)) → inhabited table cs ≡ true → Known table cs
unfolding inhabited
inhabited_known table [] h = absurd (false≢true h)
inhabited_known table (us ∷ cs) h = go (known table us) refl h (λ k. inhabited_known table cs k)
  where
    go : (b : Bool) → known table us ≡ b → (b || inhabited table cs) ≡ true → (inhabited table cs ≡ true → Known table cs)
        → Known table (us ∷ cs)
    go true q k later = (0, us, refl, q)
    go false q k later = let r = later k in (suc r.0, r.1, r.2, r.3)

known_inhabited : (table : List ℕ) (cs : List (List ℕ)) (c : ℕ) (us : List ℕ) → get_elem? cs c ≡ some us → known table us ≡ true
    → inhabited table cs ≡ true
unfolding inhabited
known_inhabited table [] c us q h = cc
known_inhabited table (vs ∷ cs) zero us q h = let same : vs ≡ us = cc in rw (same, h)
known_inhabited table (vs ∷ cs) (suc c) us q h = rw (known_inhabited table cs c us q h) (or-true (known table vs))

-- a closed row of these types that is at most d deep
abbrev Filled : Types → List ℕ → ℕ → Type 0
Filled types us d = (fs : Parts) × Closed fs × Typed types us fs × (depth fs ≤ d)

-- a constructor of type t with closed fields that are at most d deep
abbrev Built : Types → ℕ → ℕ → Type 0
Built types t d = (c : ℕ) × (us : List ℕ) × (field_types types t c ≡ some us) × Filled types us d

module _ (types : Types) where
  -- ---- the entries, round by round

  -- a table has an entry for each type
  pub rounds_length : (d : ℕ) → length (rounds types d) ≡ length types
  unfolding rounds round
  rounds_length zero = length-replicate (length types) 0
  rounds_length (suc d) = length_zip_with (renewed (inhabited (rounds types d)) (suc d)) types (rounds types d) (sym (rounds_length d))

  -- before the first round no type has a number
  no_round : (t : ℕ) → get_or (rounds types zero) t 0 ≡ 0
  unfolding rounds
  no_round t = get_d_zeros (length types) t

  -- what one round does to an entry
  pub one_round : (d t : ℕ)
      → get_or (rounds types (suc d)) t 0 ≡ renewed (inhabited (rounds types d)) (suc d) (get_or types t []) (get_or (rounds types d) t 0)
  unfolding rounds round inhabited
  one_round d t = get_d_zip_with (renewed (inhabited (rounds types d)) (suc d)) types (rounds types d) t [] 0 (sym (rounds_length d))

  -- no entry exceeds the number of rounds
  entry_bound : (d t : ℕ) → get_or (rounds types d) t 0 ≤ d
  entry_bound zero t = rw no_round zero-le
  entry_bound (suc d) t =
      let before = le_trans (entry_bound d t) (le-suc d) in
      let few : ℕ → Type 0 = λ n. n ≤ suc d in
      let now = picked few (inhabited (rounds types d) (get_or types t [])) (λ filled. le_refl _) (λ empty. zero-le) in
      rw one_round (picked few (ltb 0 (get_or (rounds types d) t 0)) (λ old. before) (λ new. now))

  -- a number, once given, stays
  kept : (d t e : ℕ) → get_or (rounds types d) t 0 ≡ suc e → get_or (rounds types (suc d)) t 0 ≡ suc e
  kept d t e q = rw (one_round, q, lt-ltb 0 (suc e) (omega arith))

  kept_later : (j d t e : ℕ) → get_or (rounds types d) t 0 ≡ suc e → get_or (rounds types (j + d)) t 0 ≡ suc e
  kept_later zero d t e q = rw zero-add q
  kept_later (suc j) d t e q = rw suc-add (kept (j + d) t e (kept_later j d t e q))

  -- a type without a number gets that of the next round, if it is inhabited
  given : (d t : ℕ) (b : Bool) → get_or (rounds types d) t 0 ≡ 0 → inhabited (rounds types d) (get_or types t []) ≡ b
      → get_or (rounds types (suc d)) t 0 ≡ pick b (suc d) 0
  given d t b q i = rw (one_round, q, i)

  -- an inhabited type has a number after the next round
  entered : (d t : ℕ) → inhabited (rounds types d) (get_or types t []) ≡ true → (e : ℕ) × (get_or (rounds types (suc d)) t 0 ≡ suc e)
  entered d t h = go (get_or (rounds types d) t 0) refl
    where
      go : (old : ℕ) → get_or (rounds types d) t 0 ≡ old → (e : ℕ) × (get_or (rounds types (suc d)) t 0 ≡ suc e)
      go zero q = (d, given d t true q h)
      go (suc e) q = (e, kept d t e q)

  -- after d rounds, the known types are those known to have a value that is at most d deep
  known_is_shallow : (d : ℕ) (us : List ℕ) → known (rounds types d) us ≡ shallow (rounds types d) d us
  unfolding known shallow
  known_is_shallow d [] = refl
  known_is_shallow d (t ∷ ts) = rw (le-leb _ d (entry_bound d t), and-true, known_is_shallow d ts)

  -- ---- entries have values

  -- if every number stands for a value, types that are shallow by the table have a closed row as shallow
  filled_row : (table : List ℕ) → ((t e : ℕ) → get_or table t 0 ≡ suc e → Built types t e)
      → (us : List ℕ) (d : ℕ) → shallow table d us ≡ true → Filled types us d
  unfolding depth
  filled_row table built [] d h = (end, tt, tt, zero-le)
  filled_row table built (t ∷ ts) d h =
      let first = shallow_head table d t ts h in
      let value = built t first.0 first.1 in
      let rest = filled_row table built ts d first.3 in
      let fs = value.3 in
      (bound value.0 fs.0 rest.0, (fs.1, rest.1), (value.1, value.2, fs.2, rest.2), omega (arith, fs.3, rest.3, first.2))

  -- a type with a number has a value that is at most that deep
  built : (d t e : ℕ) → get_or (rounds types d) t 0 ≡ suc e → Built types t e
  unfolding field_types
  built zero t e q = absurd (omega (arith, no_round t))
  built (suc d) t e q = go (get_or (rounds types d) t 0) refl (inhabited (rounds types d) (get_or types t [])) refl (λ u n r. built d u n r)
    where
      go : (old : ℕ) → get_or (rounds types d) t 0 ≡ old → (b : Bool) → inhabited (rounds types d) (get_or types t []) ≡ b
          → ((u n : ℕ) → get_or (rounds types d) u 0 ≡ suc n → Built types u n) → Built types t e
      go zero r true i before =
          let same : d ≡ e = omega (arith, given d t true r i) in
          let k = inhabited_known (rounds types d) (get_or types t []) i in
          (k.0, k.1, k.2, rw (← same) (filled_row (rounds types d) before k.1 d (rw (← (known_is_shallow d k.1)) k.3)))
      go zero r false i before = absurd (omega (arith, given d t false r i))
      go (suc o) r b i before = before t e (r ∙ sym (kept d t o r) ∙ q)

  -- ---- values have entries

  -- a closed row that is at most d deep has types that are known after d rounds, with numbers that are at most d; j more rounds keep them
  covered : (fs : Parts) (us : List ℕ) (d j : ℕ) → Closed fs → Typed types us fs → depth fs ≤ d → shallow (rounds types (j + d)) d us ≡ true
  unfolding depth shallow field_types
  covered end [] d j cl ty h = refl
  covered end (t ∷ ts) d j cl ty h = absurd ty
  covered (opened r) [] d j cl ty h = absurd ty
  covered (opened r) (t ∷ ts) d j cl ty h = absurd cl
  covered (bound c fs r) [] d j cl ty h = absurd ty
  covered (bound c fs r) (t ∷ ts) zero j cl ty h = absurd (omega arith)
  covered (bound c fs r) (t ∷ ts) (suc d) j cl ty h =
      let fields : shallow (rounds types d) d ty.0 ≡ true = rw zero-add at (covered fs ty.0 d 0 cl.0 ty.2 (omega arith)) in
      let i = known_inhabited (rounds types d) (get_or types t []) c ty.0 ty.1 (known_is_shallow d ty.0 ∙ fields) in
      let n = entered d t i in
      let rest = covered r ts (suc d) j cl.1 ty.3 (omega arith) in
      let small : suc n.0 ≤ suc d = omega (arith, entry_bound (suc d) t, n.1) in
      shallow_cons (rounds types (j + suc d)) (suc d) t n.0 ts (kept_later j (suc d) t n.0 n.1) small rest

  -- ---- the rounds come to an end

  -- the table after k rounds is changed by no further round
  abbrev Fixed : ℕ → Type 0
  Fixed k = (n : ℕ) → round types n (rounds types k) ≡ rounds types k

  fixed_or_more : (k : ℕ) → Fixed k ⊎ (positive (rounds types k) < positive (rounds types (suc k)))
  unfolding rounds round
  fixed_or_more k = settled_or_grows (inhabited (rounds types k)) k types (rounds types k) (sym (rounds_length k))

  fixed_suc : (k : ℕ) → Fixed k → Fixed (suc k)
  unfolding rounds
  fixed_suc k fixed n = rw (fixed (suc k)) (fixed n)

  -- until then each round gives a number to at least one more type
  fixed_or_many : (k : ℕ) → Fixed k ⊎ (k ≤ positive (rounds types k))
  fixed_or_many zero = inr zero-le
  fixed_or_many (suc k) =
      ⊎_elim (λ fixed. inl (fixed_suc k fixed))
      (λ many. ⊎_elim (λ fixed. inl (fixed_suc k fixed)) (λ more. inr (omega arith)) (fixed_or_more k))
      (fixed_or_many k)

  -- a table has no more numbers than types
  fixed_at_length : Fixed (length types)
  fixed_at_length =
      let full = positive_le (rounds types (suc (length types))) in
      ⊎_elim (λ fixed. fixed)
      (λ many. ⊎_elim (λ fixed. fixed) (λ more. absurd (omega (arith, full, rounds_length (suc (length types))))) (fixed_or_more (length types)))
      (fixed_or_many (length types))

  rounds_end : (j : ℕ) → rounds types (j + length types) ≡ least_depths types
  unfolding rounds least_depths
  rounds_end zero = rw zero-add
  rounds_end (suc j) = rw (suc-add, rounds_end j) (fixed_at_length _)

  -- as many rounds as there are types are enough
  pub rounds_enough : (k : ℕ) → length types ≤ k → rounds types k ≡ least_depths types
  rounds_enough k h = rw (sub-add_cancel h) at (rounds_end (k - length types))

  -- a table that no round changes stays
  fixed_later : (k : ℕ) → Fixed k → (j : ℕ) → rounds types (j + k) ≡ rounds types k
  unfolding rounds
  fixed_later k fixed zero = rw zero-add
  fixed_later k fixed (suc j) = rw (suc-add, fixed_later k fixed j) (fixed _)

  -- the rounds before one that changes nothing are enough
  pub rounds_settled : (k : ℕ) → rounds types (suc k) ≡ rounds types k → rounds types k ≡ least_depths types
  rounds_settled k same =
      ⊎_elim (λ fixed. sym (fixed_later k fixed (length types)) ∙ rounds_enough (length types + k) (omega arith))
      (λ more. absurd (omega (arith, ap positive same)))
      (fixed_or_more k)

  -- ---- the table of least depths

  -- the types of a closed row are as shallow as the row
  pub shallow_covers : (us : List ℕ) (fs : Parts) (d : ℕ) → Closed fs → Typed types us fs → depth fs ≤ d
      → shallow (least_depths types) d us ≡ true
  shallow_covers us fs d cl ty h = rw (rounds_enough (length types + d) (omega arith)) at (covered fs us d (length types) cl ty h)

  -- types that are shallow by the table have a closed row as shallow
  pub shallow_filled : (us : List ℕ) (d : ℕ) → shallow (least_depths types) d us ≡ true
      → (fs : Parts) × Closed fs × Typed types us fs × (depth fs ≤ d)
  unfolding least_depths
  shallow_filled us d h = filled_row (least_depths types) (built (length types)) us d h

  -- a type with a value has a number, and no value is shallower
  entry_least : (t : ℕ) (v : Parts) → ValueOf types t v → (e : ℕ) × (get_or (least_depths types) t 0 ≡ suc e) × (suc e ≤ depth v)
  entry_least t v val =
      let s = shallow_head (least_depths types) (depth v) t [] (shallow_covers (t ∷ []) v (depth v) val.0 val.1 (le_refl _)) in
      (s.0, s.1, s.2)

  -- a number in the table is the least depth of its type
  pub least_depth_values : (t d : ℕ) → get_or (least_depths types) t 0 ≡ suc d → LeastDepth types t (suc d)
  least_depth_values t d q =
      let s = shallow_filled (t ∷ []) (suc d) (shallow_cons (least_depths types) (suc d) t d [] q (le_refl _) (unfold shallow in refl)) in
      let least : (v : Parts) → ValueOf types t v → suc d ≤ depth v = λ v val. let l = entry_least t v val in omega (arith, l.1, l.2) in
      ((s.0, (s.1, s.2), omega (arith, s.3, least s.0 (s.1, s.2))), least)

  -- a type without a number has no closed value
  pub no_value : (t : ℕ) → get_or (least_depths types) t 0 ≡ 0 → (v : Parts) → ValueOf types t v → ⊥
  no_value t q v val = let l = entry_least t v val in omega (arith, l.1)
