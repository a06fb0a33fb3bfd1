-- A number that must lie between two others, and a byte that is such a count.
-- Rests on reach's Reader and RuleFile.
use Prim.Native.Nat.{ℕ, ◌≤◌, ◌<◌}
use mathlib.Core.Path.{◌≡◌}
use mathlib.Core.Bool.{true, false, ◌&&◌}
use mathlib.Core.List.{List}
use lib.Dec.{leb}
use borrow.Author.Tests.{le-leb, lt-leb}
use Rattle.reach.specs.declared.Refusal.{Refusal}
use Rattle.reach.specs.declared.Refusal.TheVariants.{OutOfRange}
use Rattle.reach.specs.Reader.{got, refused, byte}
use Rattle.reach.specs.RuleFile.{counted}

-- the test of a range, by where the number lies
module _ (least most n : ℕ) where
  pub between : least ≤ n → n ≤ most → (leb least n && leb n most) ≡ true
  between l h = rw (le-leb least n l, le-leb n most h)

  pub under : n < least → (leb least n && leb n most) ≡ false
  under l = rw (lt-leb least n l)

  pub over : least ≤ n → most < n → (leb least n && leb n most) ≡ false
  over l h = rw (le-leb least n l, lt-leb n most h)

-- a count that is read: within its range, missing, too small, too large
module _ (least most : ℕ) (s : List ℕ) (at : ℕ) where
  pub counted_got : {n next : ℕ} → byte s at ≡ got n next → least ≤ n → n ≤ most → counted least most s at ≡ got n next
  unfolding counted
  counted_got {n} e l h = rw (e, between least most n l h)

  pub counted_refused : {why : Refusal} → byte s at ≡ refused why → counted least most s at ≡ refused why
  unfolding counted
  counted_refused e = rw e

  pub counted_under : {n next : ℕ} → byte s at ≡ got n next → n < least → counted least most s at ≡ refused OutOfRange
  unfolding counted
  counted_under {n} e l = rw (e, under least most n l)

  pub counted_over : {n next : ℕ} → byte s at ≡ got n next → least ≤ n → most < n → counted least most s at ≡ refused OutOfRange
  unfolding counted
  counted_over {n} e l h = rw (e, over least most n l h)
