-- A rule of a table, proved at all of its entries by one test that is computed, one entry after the other.
-- Rests on the library's lists.
use Prim.Native.Nat.{ℕ, zero, suc, ◌+◌, ◌<◌}
use mathlib.Core.Path.{◌≡◌}
use mathlib.Core.Bool.{Bool, true, false, ◌&&◌}
use mathlib.Core.List.{List, [], ◌∷◌}
use native.Mathlib.Omega.{arith}
use lib.Dec.{T}
use lib.ListN.{length, get_or}

-- both tests pass
pub both : (a b : Bool) → T (a && b) → T a × T b
both true b t = (tt, t)
both false b t = absurd t

-- the test passes at each entry of the list and its place, counted from i
abbrev pub every : (ℕ → ℕ → Bool) → ℕ → List ℕ → Bool
every test i [] = true
every test i (x ∷ xs) = test i x && every test (suc i) xs

from : (test : ℕ → ℕ → Bool) (xs : List ℕ) (i : ℕ) → T (every test i xs) → (k : ℕ) → k < length xs → T (test (i + k) (get_or xs k 0))
from test [] i t k h = absurd (omega arith)
from test (x ∷ xs) i t zero h = let z : i + 0 ≡ i = omega arith in rw z (both (test i x) (every test (suc i) xs) t).0
from test (x ∷ xs) i t (suc k) h =
    let z : i + suc k ≡ suc i + k = omega arith in
    rw z (from test xs (suc i) (both (test i x) (every test (suc i) xs) t).1 k (omega arith))

-- so it passes at an entry
pub at_entry : (test : ℕ → ℕ → Bool) (xs : List ℕ) → T (every test 0 xs) → (k : ℕ) → k < length xs → T (test k (get_or xs k 0))
at_entry test xs t k h = let z : 0 + k ≡ k = omega arith in rw z at (from test xs 0 t k h)
