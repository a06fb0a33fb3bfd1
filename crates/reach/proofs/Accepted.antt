-- The entries of an accepted file, cut by no room: each is true, each input within the depth that is reached, unfinished or missing completes one,
-- no two share a closed input, every bound part makes the evaluation halt when it is opened, and every entry has a completion within the
-- depth. Demands takes these over to the list that a search returns.
-- Rests on Completing, Slots, Depths, Entries and Cover for a search from any state, and on Limits and Answers for files.
use Prim.Native.Nat.{ℕ, ◌<◌}
use mathlib.Core.Path.{◌≡◌, refl, ap, subst}
use mathlib.Core.Logic.{◌↔◌, ◌≢◌}
use mathlib.Core.List.{List}
use mathlib.Core.Option.{none, some, some-injective, none-ne-some, some-ne-none}
use lib.ListN.{length, get_elem?}
use native.Mathlib.Omega.{arith}
use Rattle.reach.specs.declared.Refusal.TheVariants.{ListFull}
use Rattle.reach.specs.declared.Verdict.TheVariants.{None}
use Rattle.reach.specs.Base.{◌∈◌}
use Rattle.reach.specs.Syntax.{Program, source_types}
use Rattle.reach.specs.Parts.{Parts, width, all_open, Place, open_at, BoundPart, Completes, ◌⊑◌}
use Rattle.reach.specs.Types.{Typed, source_slots, ClosedInput, WithinDepth, least_depths}
use Rattle.reach.specs.Eval.{State, Run, reached, ended, unfinished, missing, halted, start, run}
use Rattle.reach.specs.declared.Kind.{Kind}
use Rattle.reach.specs.declared.Kind.TheVariants.{RE, UN, MI}
use Rattle.reach.specs.Search.{Entry, says, Shown, ReachedOrUnfinished, StopsInside, branches, open_input, entries, verdict}
use Rattle.reach.specs.RuleFile.{deep_enough}
use Rattle.reach.specs.Answers.{Checked, accepted, turned_back, check, SearchAnswer, no_search, complete, cut_short, search_answer, refusal_of, verdict_of}
use Rattle.reach.proofs.Base.{clash, nth_member}
use Rattle.reach.proofs.Order.{open_width, open_unbound, open_least}
use Rattle.reach.proofs.Completing.{below_completes, completes_below}
use Rattle.reach.proofs.Slots.{source_types_law, source_length}
use Rattle.reach.proofs.Depths.{Fit, Roomy, roomy_each, open_fit, bind_fit, fit_typed, typed_fit, typed_width, completion}
use Rattle.reach.specs.States.{StateIn}
use Rattle.reach.proofs.Evaluation.{start_in, waits_free}
use Rattle.reach.proofs.Entries.{EntryBelow, at_target, at_missing, at_limit, at_limit_waiting, by_step, by_fork, entry_found, entry_holds, entry_reopens}
use Rattle.reach.proofs.Cover.{covers, apart, apart_numbers}
use Rattle.reach.proofs.Limits.{accepted_keeps}
use Rattle.reach.proofs.Lists.{Holds, none_without}
use Rattle.reach.proofs.Answers.{search_turned_back, complete_is}

module _ (file : List ℕ) (p : Program) (h : check file ≡ accepted p) where
  -- where the search begins the parameters are there, and open parts fit
  start_width : width (open_input p) ≡ length (source_types p)
  unfolding open_input
  start_width = open_width (length (source_types p))

  start_there : StateIn (open_input p) (start p)
  start_there = start_in p (open_input p) start_width

  source_roomy : Roomy p.types (source_slots p)
  unfolding deep_enough
  source_roomy = roomy_each p.types (source_slots p) (accepted_keeps file p h).deep_enough_law

  start_fit : Fit p.types (source_slots p) (open_input p)
  unfolding open_input
  start_fit = subst (λ (n : ℕ). Fit p.types (source_slots p) (all_open n)) (source_length p) (open_fit p.types (source_slots p) source_roomy)

  -- a fork keeps to the depth, so that every entry fits
  found_fit : {left n : ℕ} {i : Parts} {s : State} {e : Entry} → EntryBelow p (least_depths p.types) left n i s e
      → Fit p.types (source_slots p) i → Fit p.types (source_slots p) e.input
  unfolding branches
  found_fit (at_target w) f = f
  found_fit (at_missing w) f = f
  found_fit (at_limit w) f = f
  found_fit (at_limit_waiting w) f = f
  found_fit (by_step w d) f = found_fit d f
  found_fit (by_fork {i = i} {s = s} q g w m d) f = found_fit d (bind_fit p.types (source_slots p) i q.place g f (waits_free p i s q w) m)

  pub entry_fit : (e : Entry) → e ∈ entries p → Fit p.types (source_slots p) e.input
  entry_fit e m = found_fit (entry_found p e m) start_fit

  -- every entry has the source's types
  pub entry_typed : (e : Entry) → e ∈ entries p → Typed p.types (source_types p) e.input
  entry_typed e m = rw (← source_types_law p) (fit_typed p.types (source_slots p) e.input (entry_fit e m)).0

  -- so that to complete it is to bind at least what it binds
  completing : (e : Entry) → e ∈ entries p → (j : Parts) → ClosedInput p j → Completes j e.input → e.input ⊑ j
  completing e m j c k = completes_below p.types (source_types p) e.input j (entry_typed e m) c.1 c.0 k

  -- the input with every parameter open is below every closed input
  open_below : (j : Parts) → ClosedInput p j → open_input p ⊑ j
  unfolding open_input
  open_below j c = subst (λ (n : ℕ). all_open n ⊑ j) (typed_width p.types (source_types p) j c.1) (open_least j)

  -- every closed input that completes an entry ends as it says, after exactly its steps
  pub entries_true : (e : Entry) → e ∈ entries p → (j : Parts) → ClosedInput p j → Completes j e.input → run p j ≡ says e.kind e.steps
  unfolding run
  entries_true e m j c k = entry_holds p (least_depths p.types) (entry_found p e m) start_there j (completing e m j c k)

  -- every closed input within the depth that is reached, unfinished or missing completes an entry, which says so
  pub entries_cover : (j : Parts) → WithinDepth p j → Shown (run p j)
      → (e : Entry) × (e ∈ entries p) × Completes j e.input × (run p j ≡ says e.kind e.steps)
  unfolding run entries
  entries_cover j w t =
      let fit = typed_fit p.types (source_slots p) j w.0.0 (rw (source_types_law p) w.0.1) w.1 in
      let found = covers p p.steps 0 (open_input p) (start p) j (open_below j w.0) w.0.0 fit start_there t in
      let completes = below_completes found.2 in
      (found.0, found.1, completes, entries_true found.0 found.1 j w.0 completes)

  -- no closed input completes two
  pub entries_apart : (a b : ℕ) (x y : Entry) → get_elem? (entries p) a ≡ some x → get_elem? (entries p) b ≡ some y → a ≢ b
      → (j : Parts) → ClosedInput p j → Completes j x.input → ¬ Completes j y.input
  unfolding entries
  entries_apart a b x y g k ne j c cx cy =
      apart_numbers (entries p) (apart p (least_depths p.types) p.steps 0 (open_input p) (start p)) a b x y g k ne
      j (completing x (nth_member (entries p) a x g) j c cx) (completing y (nth_member (entries p) b y k) j c cy)

  -- with any bound part opened, the evaluation halts on it
  pub entries_reopen : (e : Entry) → e ∈ entries p → (q : Place) → BoundPart e.input q
      → (n : ℕ) × (run p (open_at q e.input) ≡ halted q n) × (n < p.steps)
  unfolding run open_input
  entries_reopen e m q b =
      entry_reopens p (least_depths p.types) (entry_found p e m) start_width start_there (omega arith, λ j a. refl)
      (λ r c k bound. absurd (open_unbound (length (source_types p)) r bound)) q b.0 b.1.0 b.1.1

  -- every entry has a completion within the depth
  pub entries_inhabited : (e : Entry) → e ∈ entries p → (j : Parts) × WithinDepth p j × Completes j e.input
  entries_inhabited e m =
      let (j, below, closed, fit) = completion p.types (source_slots p) e.input (entry_fit e m) in
      let typed = fit_typed p.types (source_slots p) j fit in
      (j, ((closed, rw (← source_types_law p) typed.0), typed.1), below_completes below)

  -- no entry is reached or unfinished exactly where every closed input within the depth stops inside the limit
  none_listed : (¬ Holds RE (entries p) × ¬ Holds UN (entries p)) ↔ ((j : Parts) → WithinDepth p j → StopsInside (run p j))
  none_listed = (λ neither. stop neither, λ all. (λ h. listed all RE h tt, λ h. listed all UN h tt))
    where
      shown : (r : Run) → ReachedOrUnfinished r → Shown r
      shown (reached n) t = tt
      shown (unfinished n) t = tt
      shown (ended why n) t = t
      shown (missing n) t = tt
      shown (halted q n) t = t

      stop : ¬ Holds RE (entries p) × ¬ Holds UN (entries p) → (j : Parts) → WithinDepth p j → StopsInside (run p j)
      stop neither j w t =
          let (e, m, completes, so) = entries_cover j w (shown (run p j) t) in
          by_kind e.kind e refl m (subst ReachedOrUnfinished so t)
        where
          by_kind : (k : Kind) → (e : Entry) → e.kind ≡ k → e ∈ entries p → ReachedOrUnfinished (says k e.steps) → ⊥
          by_kind RE e same m t = neither.0 (e, m, same)
          by_kind UN e same m t = neither.1 (e, m, same)
          by_kind MI e same m t = t

      listed : ((j : Parts) → WithinDepth p j → StopsInside (run p j)) → (k : Kind) → Holds k (entries p) → ReachedOrUnfinished (says k 0) → ⊥
      listed all k (e, m, same) t =
          let (j, within, completes) = entries_inhabited e m in
          all j within (rw (entries_true e m j within.0 completes, same) (whatever k t e.steps))
        where
          whatever : (k : Kind) → ReachedOrUnfinished (says k 0) → (n : ℕ) → ReachedOrUnfinished (says k n)
          whatever RE t n = tt
          whatever UN t n = tt
          whatever MI t n = t

-- every closed input within the depth stops inside the step limit, if the file is accepted
abbrev AllStop : List ℕ → Type 0
AllStop file = (p : Program) → check file ≡ accepted p → (j : Parts) → WithinDepth p j → StopsInside (run p j)

-- a search says "none" exactly where it refuses nothing and all stop
pub none_answer : (file : List ℕ) (work list : ℕ) (a : SearchAnswer) → search_answer file work list ≡ a
    → (verdict_of a ≡ some None) ↔ ((refusal_of a ≡ none) × AllStop file)
unfolding verdict_of refusal_of
none_answer file work list (no_search why) h = (λ v. absurd (none-ne-some None v), λ g. absurd (some-ne-none why g.0))
none_answer file work list (complete es) h = (
  λ v. let without = (none_without es).0 (some-injective (verdict es) None v) in
      (refl, λ p c. (none_listed file p c).0 (rw (← complete_is file work list p c es h) without)),
  λ g. ap some ((none_without es).1 (neither (check file) refl g.1)),
)
  where
    neither : (c : Checked) → check file ≡ c → AllStop file → ¬ Holds RE es × ¬ Holds UN es
    neither (accepted p) c all = rw (complete_is file work list p c es h) ((none_listed file p c).1 (all p c))
    neither (turned_back why) c all = absurd (clash (cc (search_turned_back file work list why c)))
none_answer file work list (cut_short es) h = (λ v. absurd (none-ne-some None v), λ g. absurd (some-ne-none ListFull g.0))
