-- The variables in view: one more stands behind the others, a view holds as many as it counts, and the test of the limits.
-- Rests on Tables and on Readers of specs/.
use Prim.Native.Nat.{ℕ, ◌+◌, ◌-◌, ◌≤◌, ◌<◌}
use mathlib.Core.Path.{◌≡◌, refl, sym}
use mathlib.Core.Bool.{Bool, true, false, ◌&&◌, and-eq-true_iff}
use mathlib.Core.List.{List, [], ◌∷◌, ◌++◌, append_assoc, append-nil}
use lib.ListN.{length, get_or, take, set}
use lib.Seq.{take-suc-set, length-take-le}
use lib.Dec.{ltb, leb}
use native.Mathlib.Numerals.{add-one}
use native.Mathlib.Omega.{arith}
use borrow.Author.Tests.{ltb-true, leb-true}
use Rattle.std.specs.Prelude.{Ok, Err}
use Rattle.reach.specs.declared.Refusal.{Refusal}
use Rattle.reach.specs.declared.Refusal.TheVariants.{OutOfRange}
use Rattle.reach.specs.Base.{pick}
use Rattle.reach.specs.Limits.{view_limit}
use Rattle.reach.specs.Places.{bytes_at}
use Rattle.reach.proofs.Base.{clash}
use Rattle.expressions.specs.declared.Scope.{Scope}
use Rattle.expressions.specs.Readers.{view_of, Inside}
use Rattle.lookups.proofs.Tables.{bytes_more, bytes_none}

-- a type that is stored behind the first n
pub stored : (types : List ℕ) (n t : ℕ) → n < length types → take (n + 1) (set types n t) ≡ take n types ++ (t ∷ [])
stored types n t h = rw add-one (take-suc-set types n t h)

-- a view of at most 40 variables holds as many as it counts
pub held : (types : List ℕ) (n : ℕ) → length types ≡ 40 → n ≤ 40 → length (take n types) ≡ n
held types n l h = length-take-le n types (omega arith)

-- a view and the bytes that are still to come, from number i on: the first of them is one more variable, and in the end there are none
module _ (s view : List ℕ) (at n i : ℕ) where
  pub one_more : i < n → (view ++ (get_or s (at + i) 0 ∷ [])) ++ bytes_at s (at + (i + 1)) (n - (i + 1)) ≡ view ++ bytes_at s (at + i) (n - i)
  one_more h =
      let place : at + i + 1 ≡ at + (i + 1) = omega arith in
      let left : n - i - 1 ≡ n - (i + 1) = omega arith in
      rw (append_assoc view (get_or s (at + i) 0 ∷ []) (bytes_at s (at + (i + 1)) (n - (i + 1))), bytes_more s (at + i) (n - i) (omega arith), place, left)

  pub no_more : n ≤ i → view ≡ view ++ bytes_at s (at + i) (n - i)
  no_more h = rw (bytes_none s (at + i) (n - i) (omega arith)) (sym (append-nil view))

-- The code's test of the limits is the definition's. Where it passes, nesting is left, the view is within its limit, and one level less is left inside.
abbrev pub within : Scope → Bool
within scope = ltb 0 scope.left && leb (length (view_of scope.view)) view_limit

abbrev pub deeper : Scope → Scope
deeper scope = record scope { left = scope.left - 1 }

over : (deep : Scope) (b : Bool) {why : Refusal} → Err why ≡ pick b (Ok deep) (Err OutOfRange) → (b ≡ false) × (why ≡ OutOfRange)
over deep true e = absurd (clash (cc))
over deep false e = (refl, (cc))

kept : {deep : Scope} (b : Bool) {inside : Scope} → Ok inside ≡ pick b (Ok deep) (Err OutOfRange) → (b ≡ true) × (inside ≡ deep)
kept true e = (refl, (cc))
kept false e = absurd (clash (cc))

module _ {scope : Scope} {why : Refusal} (l : Inside scope (Err why)) where
  pub limits_over : within scope ≡ false
  limits_over = rw l.held (over _ _ l.told).0

  pub limits_why : why ≡ OutOfRange
  limits_why = (over _ _ l.told).1

module _ {scope : Scope} {inside : Scope} (l : Inside scope (Ok inside)) where
  both : (ltb 0 scope.left ≡ true) × (leb scope.view.count view_limit ≡ true)
  both = (and-eq-true_iff (ltb 0 scope.left) (leb scope.view.count view_limit)).0 (kept _ l.told).0

  pub limits_kept : within scope ≡ true
  limits_kept = rw l.held (kept _ l.told).0

  pub limits_deeper : inside ≡ deeper scope
  limits_deeper = (kept _ l.told).1

  pub limits_nested : 0 < scope.left
  limits_nested = ltb-true 0 scope.left both.0

  pub limits_view : scope.view.count ≤ 32
  limits_view = leb-true scope.view.count 32 both.1
