-- So many bytes read one by one, and the same reading so many times, as steps: the value is forgotten.
-- Rests on Answers, on the answers of crate marks, and on reach's Reader.
use Prim.Native.Nat.{ℕ, zero, suc, ◌+◌, ◌-◌, ◌≤◌, ◌<◌}
use mathlib.Core.Path.{◌≡◌, refl, ◌∙◌}
use mathlib.Core.List.{List, ◌∷◌}
use Rattle.std.specs.Prelude.{Ok, Err}
use lib.ListN.{length}
use native.Mathlib.Omega.{arith}
use native.Mathlib.Decide.{dec_le}
use borrow.Author.Tests.{le-leb, lt-leb}
use Rattle.reach.specs.declared.Refusal.{Refusal}
use Rattle.reach.specs.declared.Refusal.TheVariants.{Truncated}
use Rattle.reach.specs.Reader.{got, refused, Reader, byte, times, passed}
use Rattle.marks.proofs.Answers.{byte_there, byte_none}
use Rattle.typerecord.specs.Passed.{passed_of}
use Rattle.typerecord.proofs.Answers.{step_got, step_refused, step_mapped}

-- n bytes from a place on that lie within the length, and that do not
pub passed_there : (n : ℕ) (s : List ℕ) (at : ℕ) → at + n ≤ length s → passed n s at ≡ got at (at + n)
unfolding passed
passed_there n s at h = rw (le-leb (at + n) (length s) h)

pub passed_none : (n : ℕ) (s : List ℕ) (at : ℕ) → length s < at + n → passed n s at ≡ refused Truncated
unfolding passed
passed_none n s at h = rw (lt-leb (at + n) (length s) h)

module _ {A : Type 0} (m : Reader A) (s : List ℕ) where
  times_got : (n at : ℕ) {a : A} {next : ℕ} → m s at ≡ got a next → passed_of (times (suc n) m s at) ≡ passed_of (times n m s next)
  unfolding times
  times_got n at {a} {next} e = rw e (step_mapped (λ rest. a ∷ rest) (times n m s next))

  times_refused : (n at : ℕ) {why : Refusal} → m s at ≡ refused why → passed_of (times (suc n) m s at) ≡ Err why
  unfolding times
  times_refused n at e = rw e

  -- one reading of more than none, which goes on
  pub times_next : (more at : ℕ) {next : ℕ} → 0 < more → passed_of (m s at) ≡ Ok next → passed_of (times more m s at) ≡ passed_of (times (more - 1) m s next)
  times_next zero at h e = absurd (omega arith)
  times_next (suc n) at h e = let z : suc n - 1 ≡ n = omega arith in rw z (times_got n at (step_got (m s at) e).1)

  -- no reading is left
  pub times_done : (more at : ℕ) → more ≤ 0 → passed_of (times more m s at) ≡ Ok at
  unfolding times
  times_done zero at h = refl
  times_done (suc n) at h = absurd (omega arith)

  -- one reading of more than none, which is refused
  pub times_stops : (more at : ℕ) {why : Refusal} → 0 < more → passed_of (m s at) ≡ Err why → passed_of (times more m s at) ≡ Err why
  times_stops zero at h e = absurd (omega arith)
  times_stops (suc n) at h e = times_refused n at (step_refused (m s at) e)

module _ (s : List ℕ) where
  bytes_there : (n at : ℕ) → at + n ≤ length s → passed_of (times n byte s at) ≡ Ok (at + n)
  unfolding times
  bytes_there zero at h = let z : at + 0 ≡ at = omega arith in rw z
  bytes_there (suc n) at h =
      let z : at + suc n ≡ suc at + n = omega arith in
      rw z (times_got byte s n at (byte_there s at (omega arith)) ∙ bytes_there n (suc at) (omega arith))

  bytes_none : (n at : ℕ) → length s < at + suc n → passed_of (times (suc n) byte s at) ≡ Err Truncated
  bytes_none zero at h = times_refused byte s zero at (byte_none s at (omega arith))
  bytes_none (suc n) at h =
      elim (dec_le (length s) at) [
        | yes p ↦ times_refused byte s (suc n) at (byte_none s at p)
        | no p ↦ times_got byte s (suc n) at (byte_there s at (omega arith)) ∙ bytes_none n (suc at) (omega arith)
      ]

  -- n bytes read one by one, where n is not 0, pass over n bytes
  pub bytes_passed : (n at : ℕ) → 0 < n → passed_of (times n byte s at) ≡ passed_of (passed n s at)
  bytes_passed zero at h = absurd (omega arith)
  bytes_passed (suc n) at h =
      elim (dec_le (at + suc n) (length s)) [
        | yes p ↦ rw (passed_there (suc n) s at p) (bytes_there (suc n) at p)
        | no p ↦ let z : length s < at + suc n = omega arith in rw (passed_none (suc n) s at z) (bytes_none n at z)
      ]
