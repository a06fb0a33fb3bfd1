-- The letters at the front of bytes: the first and those behind it, or none.
-- Rests on specs/Letters.
use Prim.Native.Nat.{ℕ, zero, suc, ◌+◌, ◌-◌, ◌*◌, ◌≤◌, ◌<◌}
use mathlib.Core.Path.{◌≡◌, refl, ap, ◌∙◌}
use mathlib.Core.Bool.{Bool, true, false}
use mathlib.Core.List.{List, [], ◌∷◌}
use native.Mathlib.Omega.{arith}
use mathlib.Core.Logic.{◌≢◌}
use borrow.Author.Tests.{ne_eqb}
use lib.ListN.{length, get_or, take, drop, length-drop}
use lib.Seq.{take-length}
use lib.Dec.{eqb}
use Rattle.reach.specs.Base.{pick, Each}
use Rattle.naming.specs.Letters.{half, letters}

-- a half is filled with less
pub half_few : (b : ℕ) → half b ≤ b
half_few b = go (eqb b 0xff)
  where
    go : (t : Bool) → pick t 0 b ≤ b
    go true = omega arith
    go false = omega arith

-- fewer than three bytes hold no letter
pub too_few : (xs : List ℕ) → length xs ≤ 2 → letters xs ≡ []
unfolding letters
too_few [] h = refl
too_few (c ∷ []) h = refl
too_few (c ∷ a ∷ []) h = refl
too_few (c ∷ a ∷ b ∷ xs) h = absurd (omega arith)

-- there are no more letters than bytes
pub letters_count : (xs : List ℕ) → length (letters xs) ≤ length xs
unfolding letters
letters_count [] = omega arith
letters_count (c ∷ []) = omega arith
letters_count (c ∷ a ∷ []) = omega arith
letters_count (c ∷ a ∷ b ∷ xs) = go (letters_count xs) (eqb c 1)
  where
    go : length (letters xs) ≤ length xs → (t : Bool) → length (pick t ((16 * half a + half b) ∷ letters xs) []) ≤ length (c ∷ a ∷ b ∷ xs)
    go rest true = omega arith
    go rest false = omega arith

-- a letter before others, and anything else
pub letter_first : (xs : List ℕ) → 3 ≤ length xs → get_or xs 0 0 ≡ 1
    → letters xs ≡ (16 * half (get_or xs 1 0) + half (get_or xs 2 0)) ∷ letters (take (length xs - 3) (drop 3 xs))
unfolding letters
letter_first [] room is = absurd (omega arith)
letter_first (c ∷ []) room is = absurd (omega arith)
letter_first (c ∷ h ∷ []) room is = absurd (omega arith)
letter_first (c ∷ h ∷ l ∷ rest) room is =
    let left : length (c ∷ h ∷ l ∷ rest) - 3 ≡ length rest = omega arith in
    rw (is, left, take-length rest)

pub no_letter : (xs : List ℕ) → get_or xs 0 0 ≢ 1 → letters xs ≡ []
unfolding letters
no_letter [] other = refl
no_letter (c ∷ []) other = refl
no_letter (c ∷ h ∷ []) other = refl
no_letter (c ∷ h ∷ l ∷ rest) other = rw (ne_eqb c 1 other)

-- the slice from a place on, as a range of the whole
pub behind : (l : List ℕ) (at : ℕ) → take (length l - at) (drop at l) ≡ drop at l
behind l at = rw (← length-drop at l) (take-length (drop at l))

pub behind_length : (l : List ℕ) (at : ℕ) → length (take (length l - at) (drop at l)) ≡ length l - at
behind_length l at = ap length (behind l at) ∙ length-drop at l

-- each of the letters is a byte: one after the other, and at each number
pub bytes_at : (bs : List ℕ) → Each (λ (b : ℕ). b < 256) bs → (i : ℕ) → get_or bs i 0 < 256
bytes_at [] h i = omega arith
bytes_at (b ∷ bs) h zero = h.0
bytes_at (b ∷ bs) h (suc i) = bytes_at bs h.1 i

pub bytes_each : (bs : List ℕ) → ((i : ℕ) → get_or bs i 0 < 256) → Each (λ (b : ℕ). b < 256) bs
bytes_each [] h = tt
bytes_each (b ∷ bs) h = (h 0, bytes_each bs (λ i. h (suc i)))
