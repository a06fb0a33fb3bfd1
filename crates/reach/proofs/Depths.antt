-- The inputs of a search keep to their types and depths: every open part has a completion that fits, and a closed input within the depth
-- goes to one of the constructors of each fork.
-- Rests on Order for places, on Slots for the slots of a row and on LeastDepths for what the table of least depths says.
use Prim.Native.Nat.{ℕ, zero, suc, ◌+◌, ◌-◌, ◌≤◌}
use mathlib.Core.Path.{◌≡◌, refl, sym, ◌∙◌, ap, subst}
use mathlib.Core.Bool.{true, and-eq-true_iff}
use mathlib.Core.List.Memᴰ
use mathlib.Core.List.{List, [], ◌∷◌}
use mathlib.Core.Option.{some, some-injective, none-ne-some}
use mathlib.Core.Logic.{◌↔◌, ⊎_elim}
use lib.ListN.{length, get_or, get_elem?}
use native.Mathlib.Omega.{arith}
use Rattle.reach.specs.Base.{◌∈◌, Each}
use Rattle.reach.specs.Syntax.{Types, field_types}
use Rattle.reach.specs.Parts.{Parts, end, opened, bound, width, all_open, Place, here, after, inside, There}
use Rattle.reach.specs.Parts.{free, has, at, bind_at, Closed, depth, ◌⊑◌, ⊑-end, ⊑-open, ⊑-bind, ⊑-same}
use Rattle.reach.specs.Types.{Typed, Slot, slots, even_slots, slot_types, slot_at, Fits, least_depths, shallow, roomy, Fork, forks_from, forks, forks_at}
use Rattle.reach.proofs.Base.{picked}
use Rattle.reach.proofs.Order.{free_unbound}
use Rattle.reach.proofs.LeastDepths.{shallow_head, shallow_cons, shallow_covers, shallow_filled}
use Rattle.reach.proofs.Slots.{even_types, even_length, field_slots_law}

-- A fork takes a constructor of the type, counted from c, whose fields all have a value that fits below.
abbrev pub Taken : List ℕ → ℕ → ℕ → List (List ℕ) → Fork → Type 0
Taken table d c cs f =
    (m : ℕ) × (us : List ℕ) × (f.constructor ≡ c + m) × (get_elem? cs m ≡ some us) × (f.fields ≡ length us) × (shallow table d us ≡ true)

taken_tail : (table : List ℕ) (d c : ℕ) (us : List ℕ) (cs : List (List ℕ)) (f : Fork) → Taken table d (suc c) cs f → Taken table d c (us ∷ cs) f
taken_tail table d c us cs f h = (suc h.0, h.1, h.2 ∙ omega arith, h.3, h.4, h.5)

-- a fork takes only such constructors
pub forks_taken : (table : List ℕ) (d c : ℕ) (cs : List (List ℕ)) (f : Fork) → f ∈ forks_from table d c cs → Taken table d c cs f
unfolding forks_from
forks_taken table d c [] f = λ m. absurd (Memᴰ.not-nil m)
forks_taken table d c (us ∷ cs) f =
    let later : f ∈ forks_from table d (suc c) cs → Taken table d c (us ∷ cs) f =
    λ m. taken_tail table d c us cs f (forks_taken table d (suc c) cs f m) in
    picked (λ (fs : List Fork). f ∈ fs → Taken table d c (us ∷ cs) f) (shallow table d us)
    (λ fits m. ⊎_elim (λ same. (zero, us, ap (λ (x : Fork). x.constructor) same ∙ omega arith, refl, ap (λ (x : Fork). x.fields) same, fits))
    later
    (Memᴰ.cases_cons m))
    (λ fails. later)

-- and all of those
taken_forks : (table : List ℕ) (d c m : ℕ) (cs : List (List ℕ)) (us : List ℕ) → get_elem? cs m ≡ some us → shallow table d us ≡ true
    → record { constructor = c + m; fields = length us } ∈ forks_from table d c cs
unfolding forks_from
taken_forks table d c m [] us h g = absurd (none-ne-some us h)
taken_forks table d c zero (vs ∷ cs) us h g =
    let same : vs ≡ us = some-injective vs us h in
    let z : c + 0 ≡ c = omega arith in
    rw (z, same, g) (Memᴰ.head refl)
taken_forks table d c (suc m) (vs ∷ cs) us h g =
    let fork : ℕ → Fork = λ n. record { constructor = n; fields = length us } in
    let later : fork (c + suc m) ∈ forks_from table d (suc c) cs =
    subst (λ (n : ℕ). fork n ∈ forks_from table d (suc c) cs) (omega arith) (taken_forks table d (suc c) m cs us h g) in
    picked (λ (fs : List Fork). fork (c + suc m) ∈ fs) (shallow table d vs) (λ fits. Memᴰ.tail later) (λ fails. later)

-- A partial row fits its slots: an open part has a closed value that fits, a bound part has a constructor of its type over fields that fit
-- one less deep.
abbrev pub Fit : Types → List Slot → Parts → Type 0
Fit types [] end = Unit {0}
Fit types [] (opened r) = ⊥
Fit types [] (bound c fs r) = ⊥
Fit types (s ∷ ss) end = ⊥
Fit types (s ∷ ss) (opened r) = (shallow (least_depths types) s.room (s.type ∷ []) ≡ true) × Fit types ss r
Fit types (s ∷ ss) (bound c fs r) =
    (d : ℕ) × (us : List ℕ) × (s.room ≡ suc d) × (field_types types s.type c ≡ some us) × Fit types (even_slots us d) fs × Fit types ss r

module _ (types : Types) where
  -- every slot has a closed value that fits there
  abbrev pub Roomy : List Slot → Type 0
  Roomy ss = Each (λ (s : Slot). shallow (least_depths types) s.room (s.type ∷ []) ≡ true) ss

  -- slots are so where the table says so
  pub roomy_each : (ss : List Slot) → roomy (least_depths types) ss ≡ true → Roomy ss
  unfolding roomy
  roomy_each [] h = tt
  roomy_each (s ∷ ss) h =
      let both = (and-eq-true_iff (shallow (least_depths types) s.room (s.type ∷ [])) (roomy (least_depths types) ss)).0 h in (both.0, roomy_each ss both.1)

  -- and slots of one depth where it says so of their types
  pub shallow_roomy : (ts : List ℕ) (d : ℕ) → shallow (least_depths types) d ts ≡ true → Roomy (even_slots ts d)
  unfolding even_slots slots
  shallow_roomy [] d h = tt
  shallow_roomy (t ∷ ts) d h =
      let first = shallow_head (least_depths types) d t ts h in
      (shallow_cons (least_depths types) d t first.0 [] first.1 first.2 (unfold shallow in refl), shallow_roomy ts d first.3)

  -- open parts fit such slots
  pub open_fit : (ss : List Slot) → Roomy ss → Fit types ss (all_open (length ss))
  unfolding all_open
  open_fit [] h = tt
  open_fit (s ∷ ss) h = (h.0, open_fit ss h.1)

  -- a row has as many parts as types
  pub typed_width : (ts : List ℕ) (e : Parts) → Typed types ts e → width e ≡ length ts
  unfolding width
  typed_width [] end h = refl
  typed_width [] (opened r) h = absurd h
  typed_width [] (bound c fs r) h = absurd h
  typed_width (t ∷ ts) end h = absurd h
  typed_width (t ∷ ts) (opened r) h = ap suc (typed_width ts r h)
  typed_width (t ∷ ts) (bound c fs r) h = ap suc (typed_width ts r h.3)

  -- every part is at most d deep exactly where the whole row is
  pub fits_depth : (ts : List ℕ) (d : ℕ) (e : Parts) → Typed types ts e → Fits (even_slots ts d) e ↔ (depth e ≤ d)
  unfolding even_slots slots depth
  fits_depth [] d end h = (λ f. omega arith, λ l. tt)
  fits_depth [] d (opened r) h = absurd h
  fits_depth [] d (bound c fs r) h = absurd h
  fits_depth (t ∷ ts) d end h = absurd h
  fits_depth (t ∷ ts) d (opened r) h = fits_depth ts d r h
  fits_depth (t ∷ ts) d (bound c fs r) h =
      let rest = fits_depth ts d r h.3 in
      (λ f. omega (arith, f.0, rest.0 f.1), λ l. (omega arith, rest.1 (omega arith)))

  -- a row that fits slots of no more than this depth is no deeper
  pub fits_within : (ss : List Slot) (d : ℕ) (e : Parts) → Each (λ (s : Slot). s.room ≤ d) ss → Typed types (slot_types ss) e → Fits ss e → depth e ≤ d
  unfolding slot_types depth
  fits_within [] d end all h f = omega arith
  fits_within [] d (opened r) all h f = absurd h
  fits_within [] d (bound c fs r) all h f = absurd h
  fits_within (s ∷ ss) d end all h f = absurd h
  fits_within (s ∷ ss) d (opened r) all h f = fits_within ss d r all.1 h f
  fits_within (s ∷ ss) d (bound c fs r) all h f = omega (arith, all.0, f.0, fits_within ss d r all.1 h.3 f.1)

  -- so of slots of one depth it is enough to know the types and the depth of the row
  one_depth : (ts : List ℕ) (d : ℕ) (e : Parts) → (Typed types (slot_types (even_slots ts d)) e × Fits (even_slots ts d) e) ↔ (Typed types ts e × (depth e ≤ d))
  one_depth ts d e = rw (even_types ts d) (λ h. (h.0, (fits_depth ts d e h.0).0 h.1), λ h. (h.0, (fits_depth ts d e h.0).1 h.1))

  -- a row that fits has the types of its slots, and each part is at most as deep as its slot allows
  pub fit_typed : (ss : List Slot) (e : Parts) → Fit types ss e → Typed types (slot_types ss) e × Fits ss e
  unfolding slot_types
  fit_typed [] end h = (tt, tt)
  fit_typed [] (opened r) h = absurd h
  fit_typed [] (bound c fs r) h = absurd h
  fit_typed (s ∷ ss) end h = absurd h
  fit_typed (s ∷ ss) (opened r) h = fit_typed ss r h.1
  fit_typed (s ∷ ss) (bound c fs r) h =
      let inner = (one_depth h.1 h.0 fs).0 (fit_typed (even_slots h.1 h.0) fs h.4) in
      let rest = fit_typed ss r h.5 in
      ((h.1, h.3, inner.0, rest.0), (omega (arith, inner.1, h.2), rest.1))

  -- and a closed row of which both is so fits
  pub typed_fit : (ss : List Slot) (e : Parts) → Closed e → Typed types (slot_types ss) e → Fits ss e → Fit types ss e
  unfolding slot_types
  typed_fit [] end z h l = tt
  typed_fit [] (opened r) z h l = absurd h
  typed_fit [] (bound c fs r) z h l = absurd h
  typed_fit (s ∷ ss) end z h l = absurd h
  typed_fit (s ∷ ss) (opened r) z h l = absurd z
  typed_fit (s ∷ ss) (bound c fs r) z h l =
      let d = s.room - 1 in
      let inner = (one_depth h.0 d fs).1 (h.2, omega (arith, l.0)) in
      (d, h.0, omega (arith, l.0), h.1, typed_fit (even_slots h.0 d) fs z.0 inner.0 inner.1, typed_fit ss r z.1 h.3 l.1)

  -- what a fork takes in a slot: a constructor of its type whose fields all have a value that fits below
  abbrev pub TakenIn : Slot → Fork → Type 0
  TakenIn s f =
      (d : ℕ) × (us : List ℕ) × (s.room ≡ suc d) × (field_types types s.type f.constructor ≡ some us) × (f.fields ≡ length us)
      × (shallow (least_depths types) d us ≡ true)

  pub forks_of : (s : Slot) (f : Fork) → f ∈ forks types (least_depths types) s.type s.room → TakenIn s f
  unfolding forks field_types
  forks_of s f m = by_room s.room refl m
    where
      by_room : (n : ℕ) → s.room ≡ n → f ∈ forks types (least_depths types) s.type n → TakenIn s f
      by_room zero h g = absurd (Memᴰ.not-nil g)
      by_room (suc d) h g =
          let k = forks_taken (least_depths types) d 0 (get_or types s.type []) f g in
          let same : f.constructor ≡ k.0 = omega (arith, k.2) in
          (d, k.1, h, ap (get_elem? (get_or types s.type [])) same ∙ k.3, k.4, k.5)

  of_forks : (s : Slot) (f : Fork) → TakenIn s f → f ∈ forks types (least_depths types) s.type s.room
  unfolding forks field_types
  of_forks s f h =
      let z : 0 + f.constructor ≡ f.constructor = omega arith in
      let fork : ℕ → Fork = λ n. record { constructor = n; fields = f.fields } in
      rw h.2 (subst (λ (n : ℕ). fork n ∈ forks_from (least_depths types) h.0 0 (get_or types s.type [])) z
      (rw h.4 (taken_forks (least_depths types) h.0 0 f.constructor (get_or types s.type []) h.1 h.3 h.5)))

  -- an input that fits still does so when an open part is bound by a fork
  pub bind_fit : (ss : List Slot) (e : Parts) (q : Place) (f : Fork) → Fit types ss e → at e q ≡ free
      → f ∈ forks_at types (least_depths types) (slot_at types e q ss) → Fit types ss (bind_at q f.constructor f.fields e)
  unfolding at bind_at slot_at forks_at
  bind_fit ss end q f h g m = h
  bind_fit [] (opened r) q f h g m = absurd h
  bind_fit (s ∷ ss) (opened r) here f h g m =
      let k = forks_of s f m in
      let open-fields = open_fit (even_slots k.1 k.0) (shallow_roomy k.1 k.0 k.5) in
      let many : length (even_slots k.1 k.0) ≡ f.fields = even_length k.1 k.0 ∙ sym k.4 in
      (k.0, k.1, k.2, k.3, subst (λ (n : ℕ). Fit types (even_slots k.1 k.0) (all_open n)) many open-fields, h.1)
  bind_fit (s ∷ ss) (opened r) (after q) f h g m = (h.0, bind_fit ss r q f h.1 g m)
  bind_fit (s ∷ ss) (opened r) (inside q) f h g m = h
  bind_fit [] (bound c fs r) q f h g m = absurd h
  bind_fit (s ∷ ss) (bound c fs r) here f h g m = h
  bind_fit (s ∷ ss) (bound c fs r) (after q) f h g m = (h.0, h.1, h.2, h.3, h.4, bind_fit ss r q f h.5 g m)
  bind_fit (s ∷ ss) (bound c fs r) (inside q) f h g m =
      let same = field_slots_law types s c h.0 h.1 (omega (arith, h.2)) h.3 in
      let taken = subst (λ (x : List Slot). f ∈ forks_at types (least_depths types) (slot_at types fs q x)) same m in
      (h.0, h.1, h.2, h.3, bind_fit (even_slots h.1 h.0) fs q f h.4 g taken, h.5)

  -- where a row is open, a closed row that completes it and fits has one of the fork's constructors
  pub fork_covers : (ss : List Slot) {e j : Parts} → e ⊑ j → Closed j → Fit types ss j → (q : Place) → at e q ≡ free
      → (c : ℕ) × (k : ℕ) × (at j q ≡ has c k) × (record { constructor = c; fields = k } ∈ forks_at types (least_depths types) (slot_at types e q ss))
  unfolding at slot_at forks_at forks field_types
  fork_covers ss ⊑-end z h q g = absurd (subst There (sym g) tt)
  fork_covers ss (⊑-open a) z h q g = absurd z
  fork_covers [] (⊑-bind a) z h q g = absurd h
  fork_covers (s ∷ ss) (⊑-bind {gs = gs} {d = c} a) z h here g =
      let typed = (one_depth h.1 h.0 gs).0 (fit_typed (even_slots h.1 h.0) gs h.4) in
      let small = shallow_covers types h.1 gs h.0 z.0 typed.0 typed.1 in
      (c, width gs, refl, of_forks s _ (h.0, h.1, h.2, h.3, typed_width h.1 gs typed.0, small))
  fork_covers (s ∷ ss) (⊑-bind a) z h (after q) g = fork_covers ss a z.1 h.5 q g
  fork_covers (s ∷ ss) (⊑-bind a) z h (inside q) g = absurd (subst There (sym g) tt)
  fork_covers [] (⊑-same f a) z h q g = absurd h
  fork_covers (s ∷ ss) (⊑-same f a) z h here g = absurd (free_unbound (sym g))
  fork_covers (s ∷ ss) (⊑-same f a) z h (after q) g = fork_covers ss a z.1 h.5 q g
  fork_covers (s ∷ ss) (⊑-same {c = c} f a) z h (inside q) g =
      rw (field_slots_law types s c h.0 h.1 (omega (arith, h.2)) h.3) (fork_covers (even_slots h.1 h.0) f z.0 h.4 q g)

  -- a closed value that is at most n deep, taken apart
  single : (t n : ℕ) (v : Parts) → Closed v → Typed types (t ∷ []) v → depth v ≤ n
      → (c : ℕ) × (gs : Parts) × Closed gs × ((d : ℕ) × (us : List ℕ) × (n ≡ suc d) × (field_types types t c ≡ some us) × Fit types (even_slots us d) gs)
  unfolding depth
  single t n end z h l = absurd h
  single t n (opened r) z h l = absurd z
  single t zero (bound c gs r) z h l = absurd (omega (arith, l))
  single t (suc d) (bound c gs r) z h l =
      let inner = (one_depth h.0 d gs).1 (h.2, omega (arith, l)) in
      (c, gs, z.0, (d, h.0, refl, h.1, typed_fit (even_slots h.0 d) gs z.0 inner.0 inner.1))

  -- every input that fits has a completion that fits
  pub completion : (ss : List Slot) (e : Parts) → Fit types ss e → (j : Parts) × (e ⊑ j) × Closed j × Fit types ss j
  completion [] end h = (end, ⊑-end, tt, tt)
  completion [] (opened r) h = absurd h
  completion [] (bound c fs r) h = absurd h
  completion (s ∷ ss) end h = absurd h
  completion (s ∷ ss) (opened r) h =
      let filled = shallow_filled types (s.type ∷ []) s.room h.0 in
      let v = single s.type s.room filled.0 filled.1 filled.2 filled.3 in
      let rest = completion ss r h.1 in
      (bound v.0 v.1 rest.0, ⊑-bind rest.1, (v.2, rest.2), (v.3.0, v.3.1, v.3.2, v.3.3, v.3.4, rest.3))
  completion (s ∷ ss) (bound c fs r) h =
      let inner = completion (even_slots h.1 h.0) fs h.4 in
      let rest = completion ss r h.5 in
      (bound c inner.0 rest.0, ⊑-same inner.1 rest.1, (inner.2, rest.2), (h.0, h.1, h.2, h.3, inner.3, rest.3))
