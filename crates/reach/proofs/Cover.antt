-- A complete list misses nothing: every closed input within the depth that is reached, unfinished or missing completes an entry. And no closed
-- input completes two.
-- Rests on Entries and Depths.
use Prim.Native.Nat.{ℕ, zero, suc, ◌<◌}
use mathlib.Core.Path.{◌≡◌, refl, sym, ◌∙◌, ap, subst}
use mathlib.Core.Logic.{⊎_elim, ◌≢◌}
use mathlib.Core.List.Memᴰ
use mathlib.Core.List.{List, [], ◌∷◌, ◌++◌, flat_map}
use mathlib.Core.Option.{Option, none, some, some-injective, none-ne-some}
use lib.ListN.{get_or, get_elem?}
use native.Mathlib.Omega.{arith}
use native.Mathlib.Decide.{dec_lt}
use Rattle.reach.specs.Base.{◌∈◌}
use Rattle.reach.specs.Syntax.{Program}
use Rattle.reach.specs.Parts.{Parts, has, at, Closed, ◌⊑◌}
use Rattle.reach.specs.Types.{Fork, source_slots, least_depths, shallow, forks_from, forks, forks_at, slot_at, Slot}
use Rattle.reach.specs.Eval.{State, Question, Next, demands, lacks, stops, goes, waits, next, eval}
use Rattle.reach.specs.declared.Kind.TheVariants.{RE, UN, MI}
use Rattle.reach.specs.Search.{Entry, Shown, gather, branches, input_behind, state_behind, search}
use Rattle.reach.proofs.Base.{picked, nth_member, flat_map_member, flat_map_has}
use Rattle.reach.proofs.Order.{⊑_trans, bind_below, constructor_of}
use Rattle.reach.specs.States.{StateIn}
use Rattle.reach.proofs.Evaluation.{next_in, next_more, waits_free, waits_answered, eval_step, eval_stops}
use Rattle.reach.proofs.Entries.{branch, search_last, search_next, finds, refines, fork_has, fork_in}
use Rattle.reach.proofs.Depths.{Fit, fork_covers, forks_taken}

module _ (p : Program) where
  abbrev table : List ℕ
  table = least_depths p.types

  -- an entry below the state is completed by the input
  abbrev Covered : ℕ → ℕ → Parts → State → Parts → Type 0
  Covered left n i s j = (e : Entry) × (e ∈ search p table left n i s) × (e.input ⊑ j)

  cover_last : (n : ℕ) (i : Parts) (s : State) (j : Parts) → i ⊑ j → StateIn i s → Shown (eval p j zero n s)
      → (N : Next) → next p i s ≡ N → Covered zero n i s j
  unfolding gather
  cover_last n i s j a h t demands w =
      (record { kind = RE; steps = n; input = i }, rw (search_last p table n i s demands w) (Memᴰ.head refl), a)
  cover_last n i s j a h t lacks w =
      (record { kind = MI; steps = n; input = i }, rw (search_last p table n i s lacks w) (Memᴰ.head refl), a)
  cover_last n i s j a h t (stops why) w =
      absurd (subst Shown (eval_stops p j zero n s why (next_more p a s h (stops why) tt w)) t)
  cover_last n i s j a h t (goes s') w =
      (record { kind = UN; steps = n; input = i }, rw (search_last p table n i s (goes s') w) (Memᴰ.head refl), a)
  cover_last n i s j a h t (waits q) w =
      (record { kind = UN; steps = n; input = i }, rw (search_last p table n i s (waits q) w) (Memᴰ.head refl), a)

  cover_step : (left n : ℕ) (i : Parts) (s : State) (j : Parts) → i ⊑ j → Closed j → Fit p.types (source_slots p) j → StateIn i s
      → Shown (eval p j (suc left) n s)
      → ((i' : Parts) (s' : State) → i' ⊑ j → StateIn i' s' → Shown (eval p j left (suc n) s') → Covered left (suc n) i' s' j)
      → (N : Next) → next p i s ≡ N → Covered (suc left) n i s j
  unfolding gather branches
  cover_step left n i s j a z f h t ih demands w =
      (record { kind = RE; steps = n; input = i }, rw (search_next p table left n i s demands w) (Memᴰ.head refl), a)
  cover_step left n i s j a z f h t ih lacks w =
      (record { kind = MI; steps = n; input = i }, rw (search_next p table left n i s lacks w) (Memᴰ.head refl), a)
  cover_step left n i s j a z f h t ih (stops why) w =
      absurd (subst Shown (eval_stops p j (suc left) n s why (next_more p a s h (stops why) tt w)) t)
  cover_step left n i s j a z f h t ih (goes s') w =
      let on = subst Shown (eval_step p j left n s s' (next_more p a s h (goes s') tt w)) t in
      let below = ih i s' a (next_in p i s h (goes s') w) on in
      (below.0, rw (search_next p table left n i s (goes s') w) below.1, below.2)
  cover_step left n i s j a z f h t ih (waits q) w =
      let k = fork_covers p.types (source_slots p) a z f q.place (waits_free p i s q w) in
      let fork : Fork = record { constructor = k.0; fields = k.1 } in
      let on = subst Shown (eval_step p j left n s (state_behind q fork) (waits_answered p i j s q k.0 k.1 w k.2)) t in
      let below = ih (input_behind q fork i) (state_behind q fork) (bind_below a q.place k.2) (fork_in p table i s q fork w h) on in
      let among = flat_map_has (branch p table left (suc n) i q) (branches p table i q) fork below.0 k.3 below.1 in
      (below.0, rw (search_next p table left n i s (waits q) w) among, below.2)

  pub covers : (left n : ℕ) (i : Parts) (s : State) (j : Parts) → i ⊑ j → Closed j → Fit p.types (source_slots p) j → StateIn i s
      → Shown (eval p j left n s) → (e : Entry) × (e ∈ search p (least_depths p.types) left n i s) × (e.input ⊑ j)
  covers zero n i s j a z f h t = cover_last n i s j a h t (next p i s) refl
  covers (suc left) n i s j a z f h t =
      cover_step left n i s j a z f h t (λ i' s' a' h' t'. covers left (suc n) i' s' j a' z f h' t') (next p i s) refl

-- No input binds at least what both entries bind.
abbrev pub Disjoint : Entry → Entry → Type 0
Disjoint x y = (j : Parts) → x.input ⊑ j → y.input ⊑ j → ⊥

-- no two entries of a list share an input
abbrev pub Apart : List Entry → Type 0
Apart [] = Unit {0}
Apart (x ∷ xs) = ((y : Entry) → y ∈ xs → Disjoint x y) × Apart xs

apart_append : (xs ys : List Entry) → Apart xs → Apart ys → ((x y : Entry) → x ∈ xs → y ∈ ys → Disjoint x y) → Apart (xs ++ ys)
apart_append [] ys h g k = g
apart_append (x ∷ xs) ys h g k = (
  λ y m. ⊎_elim (λ left. h.0 y left) (λ right. k x y (Memᴰ.head refl) right) (Memᴰ.append_cases xs m),
  apart_append xs ys h.1 g (λ x' y m m'. k x' y (Memᴰ.tail m) m'),
)

-- the constructors of a fork are told apart by their numbers
abbrev Distinct : List Fork → Type 0
Distinct [] = Unit {0}
Distinct (f ∷ fs) = ((g : Fork) → g ∈ fs → f.constructor ≢ g.constructor) × Distinct fs

forks_from_distinct : (table : List ℕ) (d c : ℕ) (cs : List (List ℕ)) → Distinct (forks_from table d c cs)
unfolding forks_from
forks_from_distinct table d c [] = tt
forks_from_distinct table d c (us ∷ cs) =
    let rest = forks_from_distinct table d (suc c) cs in
    picked Distinct (shallow table d us) (λ fits. (λ g m e. absurd (omega (arith, (forks_taken table d (suc c) cs g m).2, e)), rest)) (λ fails. rest)

forks_at_distinct : (p : Program) (table : List ℕ) (s : Option Slot) → Distinct (forks_at p.types table s)
unfolding forks_at forks
forks_at_distinct p table none = tt
forks_at_distinct p table (some s) = by_room s.room
  where
    by_room : (n : ℕ) → Distinct (forks p.types table s.type n)
    by_room zero = tt
    by_room (suc d) = forks_from_distinct table d 0 (get_or p.types s.type [])

apart_flat : (b : Fork → List Entry) (fs : List Fork) → Distinct fs → ((f : Fork) → Apart (b f))
    → ((f g : Fork) (x y : Entry) → f.constructor ≢ g.constructor → x ∈ b f → y ∈ b g → Disjoint x y) → Apart (flat_map b fs)
unfolding flat_map
apart_flat b [] h k c = tt
apart_flat b (f ∷ fs) h k c =
    apart_append (b f) (flat_map b fs) (k f) (apart_flat b fs h.1 k c)
    (λ x y m m'. let below = flat_map_member b fs y m' in c f below.0 x y (h.0 below.0 below.1) m below.2)

module _ (p : Program) (table : List ℕ) where
  last_apart : (n : ℕ) (i : Parts) (s : State) (N : Next) → next p i s ≡ N → Apart (search p table zero n i s)
  unfolding gather
  last_apart n i s demands w = rw (search_last p table n i s demands w) (λ y m. absurd (Memᴰ.not-nil m), tt)
  last_apart n i s lacks w = rw (search_last p table n i s lacks w) (λ y m. absurd (Memᴰ.not-nil m), tt)
  last_apart n i s (stops why) w = rw (search_last p table n i s (stops why) w) tt
  last_apart n i s (goes s') w = rw (search_last p table n i s (goes s') w) (λ y m. absurd (Memᴰ.not-nil m), tt)
  last_apart n i s (waits q) w = rw (search_last p table n i s (waits q) w) (λ y m. absurd (Memᴰ.not-nil m), tt)

  -- entries behind two constructors of one fork
  branches_disjoint : (left n : ℕ) (i : Parts) (s : State) (q : Question) → next p i s ≡ waits q
      → (f g : Fork) (x y : Entry) → f.constructor ≢ g.constructor
      → x ∈ branch p table left n i q f → y ∈ branch p table left n i q g → Disjoint x y
  branches_disjoint left n i s q w f g x y ne m m' j a b = ne (ap constructor_of (sym (bound_to f x m a) ∙ bound_to g y m' b))
    where
      bound_to : (h : Fork) (z : Entry) → z ∈ branch p table left n i q h → z.input ⊑ j → at j q.place ≡ has h.constructor h.fields
      bound_to h z k c = fork_has p table i s q h w j (⊑_trans (refines p table (finds p table left n _ _ z k)) c)

  step_apart : (left n : ℕ) (i : Parts) (s : State) → ((i' : Parts) (s' : State) → Apart (search p table left (suc n) i' s'))
      → (N : Next) → next p i s ≡ N → Apart (search p table (suc left) n i s)
  unfolding gather branches
  step_apart left n i s ih demands w = rw (search_next p table left n i s demands w) (λ y m. absurd (Memᴰ.not-nil m), tt)
  step_apart left n i s ih lacks w = rw (search_next p table left n i s lacks w) (λ y m. absurd (Memᴰ.not-nil m), tt)
  step_apart left n i s ih (stops why) w = rw (search_next p table left n i s (stops why) w) tt
  step_apart left n i s ih (goes s') w = rw (search_next p table left n i s (goes s') w) (ih i s')
  step_apart left n i s ih (waits q) w =
      let distinct = forks_at_distinct p table (slot_at p.types i q.place (source_slots p)) in
      rw (search_next p table left n i s (waits q) w)
      (apart_flat (branch p table left (suc n) i q) (branches p table i q) distinct (λ f. ih _ _) (branches_disjoint left (suc n) i s q w))

  pub apart : (left n : ℕ) (i : Parts) (s : State) → Apart (search p table left n i s)
  apart zero n i s = last_apart n i s (next p i s) refl
  apart (suc left) n i s = step_apart left n i s (λ i' s'. apart left (suc n) i' s') (next p i s) refl

-- by number
apart_before : (xs : List Entry) → Apart xs → (a b : ℕ) (x y : Entry) → get_elem? xs a ≡ some x → get_elem? xs b ≡ some y → a < b → Disjoint x y
apart_before [] h a b x y g k l = absurd (none-ne-some x g)
apart_before (z ∷ xs) h zero zero x y g k l = absurd (omega (arith, l))
apart_before (z ∷ xs) h zero (suc b) x y g k l = subst (λ (v : Entry). Disjoint v y) (some-injective z x g) (h.0 y (nth_member xs b y k))
apart_before (z ∷ xs) h (suc a) zero x y g k l = absurd (omega (arith, l))
apart_before (z ∷ xs) h (suc a) (suc b) x y g k l = apart_before xs h.1 a b x y g k (omega (arith, l))

pub apart_numbers : (xs : List Entry) → Apart xs → (a b : ℕ) (x y : Entry) → get_elem? xs a ≡ some x → get_elem? xs b ≡ some y → a ≢ b → Disjoint x y
apart_numbers xs h a b x y g k ne = which (dec_lt a b)
  where
    which : Dec (a < b) → Disjoint x y
    which (yes l) = apart_before xs h a b x y g k l
    which (no m) = λ j c d. apart_before xs h b a y x k g (omega (arith, m, ne)) j d c
