-- What holds of each entry of a search: it binds at least what the path had bound, it is true of every input that completes it, and
-- opening any of its bound parts makes the evaluation halt there. For every program and every table of least depths.
-- Rests on Order and Evaluation.
use Prim.Native.Nat.{ℕ, zero, suc, ◌+◌, ◌<◌}
use mathlib.Core.Path.{◌≡◌, refl, sym, ◌∙◌}
use mathlib.Core.Logic.{⊎_elim}
use mathlib.Core.List.Memᴰ
use mathlib.Core.List.{List, flat_map}
use lib.ListN.{length}
use native.Mathlib.Omega.{arith}
use Rattle.reach.specs.Base.{◌∈◌}
use Rattle.reach.specs.Syntax.{Program, source_types}
use Rattle.reach.specs.Parts.{Parts, width, Place, free, has, at, bind_at, open_at, ◌⊑◌}
use Rattle.reach.specs.Types.{Fork, least_depths}
use Rattle.reach.specs.Eval.{State, Question, Next, demands, lacks, stops, goes, waits, next, halted, eval, start, run}
use Rattle.reach.specs.declared.Kind.TheVariants.{RE, UN, MI}
use Rattle.reach.specs.Search.{Entry, says, gather, spent, branches, input_behind, state_behind, search, open_input, entries}
use Rattle.reach.proofs.Base.{flat_map_member}
use Rattle.reach.proofs.Order.{⊑_refl, ⊑_trans, ⊑-width, ⊑-has, ⊑-there, bind_refines, bind_has, bind_new, open_monotone, opened_below, open_free, open_bind}
use Rattle.reach.specs.States.{StateIn}
use Rattle.reach.proofs.Evaluation.{env_more, frames_more, next_in, next_more, answered_in, start_in, waits_free, waits_answered}
use Rattle.reach.proofs.Evaluation.{eval_step, eval_wait, eval_demands, eval_lacks, eval_spent, eval_spent_wait, halt_more}

-- the entries behind constructor f of a fork
abbrev pub branch : Program → List ℕ → ℕ → ℕ → Parts → Question → Fork → List Entry
branch p table left n i q f = search p table left n (input_behind q f i) (state_behind q f)

-- How the search finds an entry below a state: the target is demanded there, an alternative is missing there, the steps are used up there, or it lies
-- behind a step or a fork.
pub data EntryBelow (p : Program) (table : List ℕ) : ℕ → ℕ → Parts → State → Entry → Type 0 where
  at_target : {left n : ℕ} {i : Parts} {s : State} → next p i s ≡ demands → EntryBelow p table left n i s (record { kind = RE; steps = n; input = i })
  at_missing : {left n : ℕ} {i : Parts} {s : State} → next p i s ≡ lacks → EntryBelow p table left n i s (record { kind = MI; steps = n; input = i })
  at_limit : {n : ℕ} {i : Parts} {s s' : State} → next p i s ≡ goes s' → EntryBelow p table zero n i s (record { kind = UN; steps = n; input = i })
  at_limit_waiting : {n : ℕ} {i : Parts} {s : State} {q : Question} → next p i s ≡ waits q
      → EntryBelow p table zero n i s (record { kind = UN; steps = n; input = i })
  by_step : {left n : ℕ} {i : Parts} {s s' : State} {e : Entry} → next p i s ≡ goes s' → EntryBelow p table left (suc n) i s' e
      → EntryBelow p table (suc left) n i s e
  by_fork : {left n : ℕ} {i : Parts} {s : State} {e : Entry} (q : Question) (f : Fork) → next p i s ≡ waits q → f ∈ branches p table i q
      → EntryBelow p table left (suc n) (input_behind q f i) (state_behind q f) e → EntryBelow p table (suc left) n i s e

module _ (p : Program) (table : List ℕ) where
  -- the search, by what comes next
  pub search_last : (n : ℕ) (i : Parts) (s : State) (N : Next) → next p i s ≡ N
      → search p table zero n i s ≡ gather (λ s'. spent n i) (λ q. spent n i) n i N
  unfolding search
  search_last n i s N w = rw w

  pub search_next : (left n : ℕ) (i : Parts) (s : State) (N : Next) → next p i s ≡ N
      → search p table (suc left) n i s
      ≡ gather (λ s'. search p table left (suc n) i s') (λ q. flat_map (branch p table left (suc n) i q) (branches p table i q)) n i N
  unfolding search
  search_next left n i s N w = rw w

  found_last : (n : ℕ) (i : Parts) (s : State) (e : Entry) (N : Next) → next p i s ≡ N
      → e ∈ gather (λ s'. spent n i) (λ q. spent n i) n i N → EntryBelow p table zero n i s e
  unfolding gather
  found_last n i s e demands w m = rw (Memᴰ.eq_of_singleton m) (at_target w)
  found_last n i s e lacks w m = rw (Memᴰ.eq_of_singleton m) (at_missing w)
  found_last n i s e (stops why) w m = absurd (Memᴰ.not-nil m)
  found_last n i s e (goes s') w m = rw (Memᴰ.eq_of_singleton m) (at_limit w)
  found_last n i s e (waits q) w m = rw (Memᴰ.eq_of_singleton m) (at_limit_waiting w)

  found_step : (left n : ℕ) (i : Parts) (s : State) (e : Entry)
      → ((i' : Parts) (s' : State) → e ∈ search p table left (suc n) i' s' → EntryBelow p table left (suc n) i' s' e)
      → (N : Next) → next p i s ≡ N
      → e ∈ gather (λ s'. search p table left (suc n) i s') (λ q. flat_map (branch p table left (suc n) i q) (branches p table i q)) n i N
      → EntryBelow p table (suc left) n i s e
  unfolding gather
  found_step left n i s e ih demands w m = rw (Memᴰ.eq_of_singleton m) (at_target w)
  found_step left n i s e ih lacks w m = rw (Memᴰ.eq_of_singleton m) (at_missing w)
  found_step left n i s e ih (stops why) w m = absurd (Memᴰ.not-nil m)
  found_step left n i s e ih (goes s') w m = by_step w (ih i s' m)
  found_step left n i s e ih (waits q) w m =
      let below = flat_map_member (branch p table left (suc n) i q) (branches p table i q) e m in
      by_fork q below.0 w below.1 (ih _ _ below.2)

  -- every entry of a search is found so
  pub finds : (left n : ℕ) (i : Parts) (s : State) (e : Entry) → e ∈ search p table left n i s → EntryBelow p table left n i s e
  unfolding search
  finds zero n i s e m = found_last n i s e (next p i s) refl m
  finds (suc left) n i s e m = found_step left n i s e (λ i' s' m'. finds left (suc n) i' s' e m') (next p i s) refl m

  -- an entry binds what its path had bound
  pub refines : {left n : ℕ} {i : Parts} {s : State} {e : Entry} → EntryBelow p table left n i s e → i ⊑ e.input
  refines (at_target {i = i} w) = ⊑_refl i
  refines (at_missing {i = i} w) = ⊑_refl i
  refines (at_limit {i = i} w) = ⊑_refl i
  refines (at_limit_waiting {i = i} w) = ⊑_refl i
  refines (by_step w d) = refines d
  refines (by_fork {i = i} q f w m d) = ⊑_trans (bind_refines q.place f.constructor f.fields i) (refines d)

  -- behind a fork the part has the constructor, and every evaluation on what binds as much goes there
  pub fork_has : (i : Parts) (s : State) (q : Question) (f : Fork) → next p i s ≡ waits q → (j : Parts) → input_behind q f i ⊑ j
      → at j q.place ≡ has f.constructor f.fields
  fork_has i s q f w j a = ⊑-has a q.place (bind_has q.place f.constructor f.fields i (waits_free p i s q w))

  fork_goes : (i : Parts) (s : State) (q : Question) (f : Fork) → next p i s ≡ waits q → (j : Parts) → input_behind q f i ⊑ j
      → next p j s ≡ goes (state_behind q f)
  fork_goes i s q f w j a = waits_answered p i j s q f.constructor f.fields w (fork_has i s q f w j a)

  -- the state behind a fork speaks of places that are there
  pub fork_in : (i : Parts) (s : State) (q : Question) (f : Fork) → next p i s ≡ waits q → StateIn i s → StateIn (input_behind q f i) (state_behind q f)
  fork_in i s q f w h =
      let more = bind_refines q.place f.constructor f.fields i in
      let asked = next_in p i s h (waits q) w in
      answered_in (input_behind q f i) q f.constructor f.fields (fork_has i s q f w (input_behind q f i) (⊑_refl _))
      (⊑-there more q.place asked.0, env_more more q.environment asked.1, frames_more more q.frames asked.2)

  -- every input that binds at least what an entry binds ends as the entry says, after exactly its steps
  pub entry_holds : {left n : ℕ} {i : Parts} {s : State} {e : Entry} → EntryBelow p table left n i s e → StateIn i s
      → (j : Parts) → e.input ⊑ j → eval p j left n s ≡ says e.kind e.steps
  entry_holds (at_target {left = left} {n = n} {s = s} w) h j a = eval_demands p j left n s (next_more p a s h demands tt w)
  entry_holds (at_missing {left = left} {n = n} {s = s} w) h j a = eval_lacks p j left n s (next_more p a s h lacks tt w)
  entry_holds (at_limit {n = n} {s = s} {s' = s'} w) h j a = eval_spent p j n s s' (next_more p a s h (goes s') tt w)
  entry_holds (at_limit_waiting {n = n} {i = i} {s = s} {q = q} w) h j a = eval_spent_wait p i j n s q w
  entry_holds (by_step {left = left} {n = n} {i = i} {s = s} {s' = s'} w d) h j a =
      eval_step p j left n s s' (next_more p (⊑_trans (refines d) a) s h (goes s') tt w) ∙ entry_holds d (next_in p i s h (goes s') w) j a
  entry_holds (by_fork {left = left} {n = n} {i = i} {s = s} q f w m d) h j a =
      eval_step p j left n s (state_behind q f) (fork_goes i s q f w j (⊑_trans (refines d) a)) ∙ entry_holds d (fork_in i s q f w h) j a

  -- Opening any bound part of the input makes the evaluation halt there, with fewer than S steps done.
  abbrev pub Reopens : Parts → Type 0
  Reopens i = (r : Place) (c k : ℕ) → at i r ≡ has c k → (m : ℕ) × (run p (open_at r i) ≡ halted r m) × (m < p.steps)

  -- every evaluation on what binds at least this much comes to this state, with so many steps left and n done
  abbrev Leads : Parts → ℕ → ℕ → State → Type 0
  Leads i left n s = (left + n ≡ p.steps) × ((j : Parts) → i ⊑ j → run p j ≡ eval p j left n s)

  -- an input that reopens still does so with one part more bound, if the evaluation halts on that part
  bind_reopens : (i : Parts) (q : Place) (c k n : ℕ) → width i ≡ length (source_types p) → at i q ≡ free → run p i ≡ halted q n → n < p.steps
      → Reopens i → Reopens (bind_at q c k i)
  unfolding run
  bind_reopens i q c k n size f halts l old r d m h =
      ⊎_elim
      (λ before.
      let o = old r d m before in
      let there = start_in p (open_at r i) (⊑-width (opened_below r i) ∙ size) in
      let more = open_monotone (bind_refines q c k i) r in
      (o.0, halt_more p more r o.0 (open_free r (bind_at q c k i) h) p.steps 0 (start p) there o.1, o.2))
      (λ (same : r ≡ q). (n, rw (same, open_bind q c k i f) halts, l))
      (bind_new q c k i r h)

  pub entry_reopens : {left n : ℕ} {i : Parts} {s : State} {e : Entry} → EntryBelow p table left n i s e → width i ≡ length (source_types p)
      → StateIn i s → Leads i left n s → Reopens i → Reopens e.input
  entry_reopens (at_target w) size h l o = o
  entry_reopens (at_missing w) size h l o = o
  entry_reopens (at_limit w) size h l o = o
  entry_reopens (at_limit_waiting w) size h l o = o
  entry_reopens (by_step {left = left} {n = n} {i = i} {s = s} {s' = s'} w d) size h l o =
      entry_reopens d size (next_in p i s h (goes s') w)
      (omega (arith, l.0), λ j a. l.1 j a ∙ eval_step p j left n s s' (next_more p a s h (goes s') tt w))
      o
  entry_reopens (by_fork {left = left} {n = n} {i = i} {s = s} q f w m d) size h l o =
      let more = bind_refines q.place f.constructor f.fields i in
      let halts = l.1 i (⊑_refl i) ∙ eval_wait p i left n s q w in
      entry_reopens d (sym (⊑-width more) ∙ size) (fork_in i s q f w h)
      (omega (arith, l.0), λ j a. l.1 j (⊑_trans more a) ∙ eval_step p j left n s (state_behind q f) (fork_goes i s q f w j a))
      (bind_reopens i q.place f.constructor f.fields n size (waits_free p i s q w) halts (omega (arith, l.0)) o)

-- every entry of a program is found from its start
pub entry_found : (p : Program) (e : Entry) → e ∈ entries p → EntryBelow p (least_depths p.types) p.steps 0 (open_input p) (start p) e
unfolding entries
entry_found p e m = finds p (least_depths p.types) p.steps 0 (open_input p) (start p) e m
