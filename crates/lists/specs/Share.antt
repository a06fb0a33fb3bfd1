-- The share of the total line: 01, "The program `reachlist`", with the rounding of 02, Slip 6. It stands here twice: as it is worked out in whole numbers, and as
-- a law of the printed number; proofs/Share.antt shows that one number has the law, and that it is the one that is worked out.
-- Rests on reach's Base.
use Rattle.std.specs.Prelude.{ℕ, ◌+◌, ◌-◌, ◌*◌, ◌/◌, ◌%◌, ◌≤◌, ◌≡◌, ◌≢◌, ltb, eqb}
use Rattle.reach.specs.Base.{pick}

-- The whole number nearest to a / n, where an exact half goes to the even one: one more than the quotient if twice the rest is more than n, or if it is n and
-- the quotient is odd.
unfoldable pub nearest : ℕ → ℕ → ℕ
nearest a n = let q = a / n in let r = a % n in pick (ltb n (2 * r)) (q + 1) (pick (eqb (2 * r) n) (q + q % 2) q)

-- The unfinished share of both counts in whole per cent; 0 if both are 0. The missing ones stay out of it.
unfoldable pub share : ℕ → ℕ → ℕ
share reach unfinished = pick (eqb (reach + unfinished) 0) 0 (nearest (100 * unfinished) (reach + unfinished))

-- how far apart two numbers are
abbrev pub distance : ℕ → ℕ → ℕ
distance a b = (a - b) + (b - a)

-- x is at most one half away from a / n, and even where it is exactly one half; both sides are said n times over, twice over.
pub record Nearest (a n x : ℕ) : Type 0 where
  pub near : 2 * distance a (n * x) ≤ n
  pub even : 2 * distance a (n * x) ≡ n → x % 2 ≡ 0

-- x is the share, by that law
pub record IsShare (reach unfinished x : ℕ) : Type 0 where
  pub of_none : reach + unfinished ≡ 0 → x ≡ 0
  pub of_some : reach + unfinished ≢ 0 → Nearest (100 * unfinished) (reach + unfinished) x
