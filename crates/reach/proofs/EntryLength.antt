-- The prefix form of an entry and its steps fit two bytes each: 01, "The list".
-- The open input has at most 8 bytes, each step binds at most one part, and that adds at most 6 bytes.
-- Rests on Limits, Depths (what a fork takes) and Entries (how an entry is found).
use Prim.Native.Nat.{ℕ, zero, suc, ◌+◌, ◌*◌, ◌≤◌, ◌<◌, zero-le}
use mathlib.Core.Path.{◌≡◌, refl, ap}
use mathlib.Core.List.Memᴰ
use mathlib.Core.List.{List}
use mathlib.Core.Option.{Option, none, some}
use native.Mathlib.Omega.{arith}
use lib.ListN.{length, length-append}
use Rattle.reach.specs.Base.{◌∈◌}
use Rattle.reach.specs.Limits.{field_limit}
use Rattle.reach.specs.Syntax.{Program, source_types}
use Rattle.reach.specs.Parts.{Parts, end, opened, bound, all_open, Place, here, after, inside, bind_at, prefix}
use Rattle.reach.specs.Types.{Slot, Fork, forks_at, least_depths}
use Rattle.reach.specs.Eval.{State}
use Rattle.reach.specs.Search.{Entry, branches, open_input, entries}
use Rattle.reach.specs.Answers.{accepted, check}
use Rattle.reach.proofs.Limits.{KeepsLimits, accepted_keeps}
use Rattle.reach.proofs.Depths.{forks_of}
use Rattle.reach.proofs.Entries.{EntryBelow, at_target, at_missing, at_limit, at_limit_waiting, by_step, by_fork, entry_found}

-- the bytes of a row of open parts
open_length : (n : ℕ) → length (prefix (all_open n)) ≡ n
unfolding all_open prefix
open_length zero = refl
open_length (suc n) = ap suc (open_length n)

-- to bind a part adds at most its fields
bind_length : (q : Place) (c k : ℕ) (e : Parts) → length (prefix (bind_at q c k e)) ≤ length (prefix e) + k
unfolding bind_at prefix
bind_length q c k end = zero-le
bind_length here c k (opened r) = omega (arith, length-append (prefix (all_open k)) (prefix r), open_length k)
bind_length (after q) c k (opened r) = omega (arith, bind_length q c k r)
bind_length (inside q) c k (opened r) = omega arith
bind_length here c k (bound d fs r) = omega arith
bind_length (after q) c k (bound d fs r) =
    omega (arith, bind_length q c k r, length-append (prefix fs) (prefix r), length-append (prefix fs) (prefix (bind_at q c k r)))
bind_length (inside q) c k (bound d fs r) =
    omega (arith, bind_length q c k fs, length-append (prefix fs) (prefix r), length-append (prefix (bind_at q c k fs)) (prefix r))

module _ (p : Program) (kept : KeepsLimits p) where
  -- the constructors of a fork have at most 6 fields
  fork_small : (s : Option Slot) (f : Fork) → f ∈ forks_at p.types (least_depths p.types) s → f.fields ≤ field_limit
  unfolding forks_at
  fork_small none f m = absurd (Memᴰ.not-nil m)
  fork_small (some s) f m =
      let taken = forks_of p.types s f m in
      omega (arith, taken.4, kept.fields_limit s.type f.constructor taken.1 taken.3)

  -- each step that is left adds at most 1 to the steps and 6 to the bytes
  found_within : {left n : ℕ} {i : Parts} {s : State} {e : Entry} → EntryBelow p (least_depths p.types) left n i s e
      → (e.steps ≤ left + n) × (length (prefix e.input) ≤ length (prefix i) + field_limit * left)
  unfolding branches
  found_within (at_target w) = omega arith
  found_within (at_missing w) = omega arith
  found_within (at_limit w) = omega arith
  found_within (at_limit_waiting w) = omega arith
  found_within (by_step w d) = let below = found_within d in omega arith
  found_within (by_fork {i = i} q f w m d) =
      let below = found_within d in
      omega (arith, bind_length q.place f.constructor f.fields i, fork_small _ f m)

-- an entry has at most S steps, and the length of its prefix form fits two bytes
pub entry_within : (file : List ℕ) (p : Program) → check file ≡ accepted p → (e : Entry) → e ∈ entries p
    → (length (prefix e.input) < 65536) × (e.steps ≤ p.steps)
unfolding open_input
entry_within file p h e m =
    let kept = accepted_keeps file p h in
    let within = found_within p kept (entry_found p e m) in
    omega (arith, open_length (length (source_types p)), kept.parameters_limit, kept.steps_limit)
