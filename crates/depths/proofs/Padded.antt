-- The array of 32 numbers stands for the table in it: the tests look a type's number up, and behind the table they find 0 either way.
-- Rests on Table and on reach's Types.
use Prim.Native.Nat.{ℕ, zero, suc, ◌-◌, ◌≤◌}
use native.Mathlib.Omega.{arith}
use mathlib.Core.Path.{◌≡◌, refl, sym, ap, ◌∙◌}
use mathlib.Core.List.{List, [], ◌∷◌, ◌++◌}
use lib.ListN.{length, get_or, take, drop, replicate, length-append, length-replicate}
use lib.Seq.{take-append_seam, drop-append_seam}
use Rattle.reach.specs.Types.{Slot, known, inhabited, shallow, roomy}
use Rattle.depths.specs.Table.{padded}

-- ---- the tests see a table only through its lookups

module _ (a b : List ℕ) (same : (t : ℕ) → get_or a t 0 ≡ get_or b t 0) where
  known_same : (us : List ℕ) → known a us ≡ known b us
  unfolding known
  known_same [] = refl
  known_same (t ∷ ts) = rw (same t, known_same ts)

  inhabited_same : (cs : List (List ℕ)) → inhabited a cs ≡ inhabited b cs
  unfolding inhabited
  inhabited_same [] = refl
  inhabited_same (us ∷ cs) = rw (known_same us, inhabited_same cs)

  shallow_same : (d : ℕ) (us : List ℕ) → shallow a d us ≡ shallow b d us
  unfolding shallow
  shallow_same d [] = refl
  shallow_same d (t ∷ ts) = rw (same t, shallow_same d ts)

  roomy_same : (ss : List Slot) → roomy a ss ≡ roomy b ss
  unfolding roomy
  roomy_same [] = refl
  roomy_same (s ∷ ss) = rw (shallow_same s.room (s.type ∷ []), roomy_same ss)

zeros_after : (table : List ℕ) (n t : ℕ) → get_or (table ++ replicate n 0) t 0 ≡ get_or table t 0
zeros_after [] zero t = refl
zeros_after [] (suc n) zero = refl
zeros_after [] (suc n) (suc t) = zeros_after [] n t
zeros_after (x ∷ xs) n zero = refl
zeros_after (x ∷ xs) n (suc t) = zeros_after xs n t

module _ (table : List ℕ) where
  pub padded_lookup : (t : ℕ) → get_or (padded table) t 0 ≡ get_or table t 0
  unfolding padded
  padded_lookup t = zeros_after table (32 - length table) t

  pub padded_known : (us : List ℕ) → known (padded table) us ≡ known table us
  padded_known = known_same (padded table) table padded_lookup

  pub padded_inhabited : (cs : List (List ℕ)) → inhabited (padded table) cs ≡ inhabited table cs
  padded_inhabited = inhabited_same (padded table) table padded_lookup

  pub padded_shallow : (d : ℕ) (us : List ℕ) → shallow (padded table) d us ≡ shallow table d us
  padded_shallow = shallow_same (padded table) table padded_lookup

  pub padded_roomy : (ss : List Slot) → roomy (padded table) ss ≡ roomy table ss
  padded_roomy = roomy_same (padded table) table padded_lookup

  -- ---- the table and the zeros behind it

  pub padded_length : length table ≤ 32 → length (padded table) ≡ 32
  unfolding padded
  padded_length h = omega (arith, length-append table (replicate (32 - length table) 0), length-replicate {A = ℕ} (32 - length table) 0)

  pub padded_front : take (length table) (padded table) ≡ table
  unfolding padded
  padded_front = take-append_seam table (replicate (32 - length table) 0)

  pub padded_rest : drop (length table) (padded table) ≡ replicate (32 - length table) 0
  unfolding padded
  padded_rest = drop-append_seam table (replicate (32 - length table) 0)

-- tables of one length that have the same array are the same
pub padded_same : (a b : List ℕ) → length a ≡ length b → padded a ≡ padded b → a ≡ b
padded_same a b e p = sym (padded_front a) ∙ ap (λ l. take (length a) l) p ∙ rw e (padded_front b)
