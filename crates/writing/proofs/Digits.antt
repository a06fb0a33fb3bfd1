-- Numbers in decimal: the digits before the last are those of the tenth, and how many there are.
-- Rests on Text of crate lists.
use Prim.Native.Nat.{ℕ, zero, suc, ◌+◌, ◌/◌, ◌≤◌, ◌<◌}
use mathlib.Core.Path.{◌≡◌, refl, ap, ◌∙◌}
use mathlib.Core.Bool.{Bool, true, false}
use mathlib.Core.List.{List, [], ◌∷◌, ◌++◌}
use native.Mathlib.Omega.{arith}
use lib.ListN.{length, length-append}
use lib.Dec.{ltb, eqb}
use borrow.Author.Tests.{ltb-true, ltb-false, lt-ltb, le-ltb}
use Rattle.reach.specs.Base.{pick}
use Rattle.lists.specs.Text.{digit, digits_by, decimal, part_word, space}

-- a number is enough
enough : (f g n : ℕ) → n ≤ f → n ≤ g → digits_by f n ≡ digits_by g n
unfolding digits_by
enough zero zero n hf hg = refl
enough zero (suc g) n hf hg = rw (lt-ltb n 10 (omega arith))
enough (suc f) zero n hf hg = rw (lt-ltb n 10 (omega arith))
enough (suc f) (suc g) n hf hg = go (λ h. enough f g (n / 10) (omega arith) (omega arith)) (ltb n 10) refl
  where
    go : (10 ≤ n → digits_by f (n / 10) ≡ digits_by g (n / 10)) → (t : Bool) → ltb n 10 ≡ t
        → pick t (digit n ∷ []) (digits_by f (n / 10) ++ (digit n ∷ [])) ≡ pick t (digit n ∷ []) (digits_by g (n / 10) ++ (digit n ∷ []))
    go tenth true e = refl
    go tenth false e = rw (tenth (ltb-false n 10 e))

one_more : (more n : ℕ) → 10 ≤ n → digits_by (suc more) n ≡ digits_by more (n / 10) ++ (digit n ∷ [])
unfolding digits_by
one_more more n h = rw (le-ltb n 10 h)

one_only : (more n : ℕ) → n < 10 → digits_by more n ≡ digit n ∷ []
unfolding digits_by
one_only zero n h = refl
one_only (suc more) n h = rw (lt-ltb n 10 h)

-- one digit
pub decimal_one : (n : ℕ) → n < 10 → decimal n ≡ digit n ∷ []
unfolding decimal
decimal_one n h = one_only n n h

-- the digits of the tenth, and the last one
pub decimal_more : (n : ℕ) → 10 ≤ n → decimal n ≡ decimal (n / 10) ++ (digit n ∷ [])
unfolding decimal
decimal_more n h =
    enough n (suc n) n (omega arith) (omega arith) ∙ one_more n n h
    ∙ ap (λ (d : List ℕ). d ++ (digit n ∷ [])) (enough n (n / 10) (n / 10) (omega arith) (omega arith))

digits_few : (more n : ℕ) → length (digits_by more n) ≤ more + 1
unfolding digits_by
digits_few zero n = omega arith
digits_few (suc more) n = go (digits_few more (n / 10)) (ltb n 10)
  where
    go : length (digits_by more (n / 10)) ≤ more + 1 → (t : Bool) → length (pick t (digit n ∷ []) (digits_by more (n / 10) ++ (digit n ∷ []))) ≤ suc more + 1
    go tenth true = omega arith
    go tenth false = omega (arith, length-append (digits_by more (n / 10)) (digit n ∷ []))

-- no more than this
pub decimal_few : (n : ℕ) → length (decimal n) ≤ n + 1
unfolding decimal
decimal_few n = digits_few n n

-- a byte's word, with the space before it
pub part_few : (b : ℕ) → b < 256 → length (space ∷ part_word b) ≤ 257
unfolding part_word
part_few b h = go (eqb b 0xff)
  where
    go : (t : Bool) → length (space ∷ pick t (0x5f ∷ []) (decimal b)) ≤ 257
    go true = omega arith
    go false = omega (arith, decimal_few b)

-- one digit, or one more than the tenth has
digit_one : (n : ℕ) → n < 10 → length (decimal n) ≤ 1
digit_one n h = omega (arith, ap length (decimal_one n h))

digit_more : (k n : ℕ) → length (decimal (n / 10)) ≤ k → length (decimal n) ≤ k + 1
digit_more k n h = go (ltb n 10) refl
  where
    go : (t : Bool) → ltb n 10 ≡ t → length (decimal n) ≤ k + 1
    go true e = omega (arith, digit_one n (ltb-true n 10 e))
    go false e = omega (arith, simp length-append at (ap length (decimal_more n (ltb-false n 10 e))))

pub digits_three : (n : ℕ) → n < 1000 → length (decimal n) ≤ 3
digits_three n h = digit_more 2 n (digit_more 1 (n / 10) (digit_one (n / 10 / 10) (omega arith)))

pub digits_five : (n : ℕ) → n < 100000 → length (decimal n) ≤ 5
digits_five n h = digit_more 4 n (digit_more 3 (n / 10) (digits_three (n / 10 / 10) (omega arith)))

pub digits_eight : (n : ℕ) → n < 100000000 → length (decimal n) ≤ 8
digits_eight n h = digit_more 7 n (digit_more 6 (n / 10) (digit_more 5 (n / 10 / 10) (digits_five (n / 10 / 10 / 10) (omega arith))))
