-- What a result of the code tells of its reader, and the readings of a byte.
-- Rests on Found and on reach's Reader and RuleFile.
use Prim.Native.Nat.{ℕ, suc, min, ◌+◌, ◌*◌, ◌≤◌, ◌<◌}
use mathlib.Core.Path.{◌≡◌, refl, sym, ap, ◌∙◌}
use mathlib.Core.List.{List, [], ◌∷◌}
use lib.ListN.{length, get_or, get_or-eq_default}
use native.Mathlib.Decide.{dec_le}
use native.Mathlib.Omega.{arith}
use borrow.Author.Tests.{lt-ltb, le-ltb}
use Rattle.std.specs.Prelude.{Result, Ok, Err, IsErr, IsErrAnd}
use Rattle.std.proofs.lemmas.Result.{err_from_is_err_and}
use Rattle.reach.specs.declared.Refusal.{Refusal}
use Rattle.reach.specs.declared.Refusal.TheVariants.{Truncated}
use Rattle.reach.specs.Reader.{Got, got, refused, on_got, byte, word}
use Rattle.reach.specs.RuleFile as RuleFile
use Rattle.reach.specs.RuleFile.{TY, FN, NA, GO, other, mark_of, mark}
use Rattle.reach.specs.Places.{word_at}
use Rattle.reach.proofs.Base.{clash}
use Rattle.marks.specs.Found.{pair, result_of, mark_named, mark_read, marked_of}
use Rattle.marks.specs.declared.Mark.{Mark}

-- a byte below the length, and none from there on
pub byte_there : (s : List ℕ) (at : ℕ) → at < length s → byte s at ≡ got (get_or s at 0) (suc at)
unfolding byte
byte_there s at h = rw (lt-ltb at (length s) h)

pub byte_none : (s : List ℕ) (at : ℕ) → length s ≤ at → byte s at ≡ refused Truncated
unfolding byte
byte_none s at h = rw (le-ltb at (length s) h)

-- a place that is too high for a number is past the end, and so is the highest number
pub byte_far : (s : List ℕ) (place : ℕ) {at : ℕ} → length s ≤ 9223372036854775807 → at ≡ min place 18446744073709551615 → get_or s at 0 ≡ get_or s place 0
byte_far s place short capped =
    elim (dec_le place 18446744073709551615) [
      | yes p ↦ let same : min place 18446744073709551615 ≡ place = omega arith in rw (capped, same)
      | no p ↦ get_or-eq_default {A = ℕ} s 0 (omega arith) ∙ sym (get_or-eq_default {A = ℕ} s 0 (omega arith))
    ]

pub word_far : (s : List ℕ) (place : ℕ) {at : ℕ} → length s ≤ 9223372036854775807 → at ≡ min place 18446744073709551615 → word_at s at ≡ word_at s place
unfolding word_at
word_far s place {at} short capped =
    elim (dec_le place 18446744073709551615) [
      | yes p ↦ let same : at ≡ place = omega arith in rw same
      | no p ↦ rw (past at (omega arith), past (at + 1) (omega arith), past place (omega arith), past (place + 1) (omega arith))
    ]
  where
    past : (i : ℕ) → 9223372036854775807 ≤ i → get_or s i 0 ≡ 0
    past i far = get_or-eq_default {A = ℕ} s 0 (omega arith)

-- what was read, and why nothing was, by the result
pub read : {A : Type 0} {a : A} {next : ℕ} (g : Got A) → Ok (a, next) ≡ result_of g → g ≡ got a next
read (got b n) told = sym (ap (λ r. elim r [ Ok p ↦ got p.0 p.1 | Err why ↦ refused why ]) told)
read (refused why) told = absurd (clash (cc))

pub unread : {A : Type 0} {why : Refusal} (g : Got A) → Err why ≡ result_of g → g ≡ refused why
unread (got b n) told = absurd (clash (cc))
unread (refused why) told = cc

-- the refusal that a `?` hands on
pub handed_on : {T : Type 0} {why : Refusal} (r : Result T Refusal) → IsErr r × IsErrAnd r (λ d. d ≡ why) → r ≡ Err why
handed_on r gives = let p = err_from_is_err_and r gives.1 in p.1 ∙ ap Err p.2

-- the mark that was read, named and read off again
read_named : (m : RuleFile.Mark) → mark_read (mark_named m) ≡ m
read_named TY = refl
read_named FN = refl
read_named NA = refl
read_named GO = refl
read_named other = refl

-- the mark that was read, by its name
pub mark_got : {m : Mark} {next : ℕ} (g : Got RuleFile.Mark) → Ok (m, next) ≡ marked_of g → g ≡ got (mark_read m) next
mark_got (got n k) told =
    rw (← read_named n) (sym (ap (λ r. elim r [ Ok p ↦ got (mark_read p.0) p.1 | Err why ↦ refused why ]) told))
mark_got (refused why) told = absurd (clash (cc))

pub mark_unread : {why : Refusal} (g : Got RuleFile.Mark) → Err why ≡ marked_of g → g ≡ refused why
mark_unread (got n k) told = absurd (clash (cc))
mark_unread (refused why) told = cc

-- a number and a mark are each read off two bytes
pub word_by_pair : (s : List ℕ) (at : ℕ) → word s at ≡ on_got {B = Got ℕ} (λ bytes next. got (get_or bytes 0 0 + 256 * get_or bytes 1 0) next) (λ why. refused why) (pair s at)
unfolding word pair
word_by_pair s at = by_first (byte s at)
  where
    by_second : (a : ℕ) (g : Got ℕ) → on_got {B = Got ℕ} (λ b next. got (a + 256 * b) next) (λ why. refused why) g
        ≡ on_got {B = Got ℕ} (λ bytes next. got (get_or bytes 0 0 + 256 * get_or bytes 1 0) next) (λ why. refused why) (on_got {B = Got (List ℕ)} (λ b next. got (a ∷ b ∷ []) next) (λ why. refused why) g)
    by_second a (got b next) = refl
    by_second a (refused why) = refl

    by_first : (g : Got ℕ) → on_got {B = Got ℕ} (λ a middle. on_got {B = Got ℕ} (λ b next. got (a + 256 * b) next) (λ why. refused why) (byte s middle)) (λ why. refused why) g
        ≡ on_got {B = Got ℕ} (λ bytes next. got (get_or bytes 0 0 + 256 * get_or bytes 1 0) next) (λ why. refused why) (on_got {B = Got (List ℕ)} (λ a middle. on_got {B = Got (List ℕ)} (λ b next. got (a ∷ b ∷ []) next) (λ why. refused why) (byte s middle)) (λ why. refused why) g)
    by_first (got a middle) = by_second a (byte s middle)
    by_first (refused why) = refl

pub mark_by_pair : (s : List ℕ) (at : ℕ) → mark s at ≡ on_got {B = Got RuleFile.Mark} (λ bytes next. got (mark_of (get_or bytes 0 0) (get_or bytes 1 0)) next) (λ why. refused why) (pair s at)
unfolding mark pair
mark_by_pair s at = by_first (byte s at)
  where
    by_second : (a : ℕ) (g : Got ℕ) → on_got {B = Got RuleFile.Mark} (λ b next. got (mark_of a b) next) (λ why. refused why) g
        ≡ on_got {B = Got RuleFile.Mark} (λ bytes next. got (mark_of (get_or bytes 0 0) (get_or bytes 1 0)) next) (λ why. refused why) (on_got {B = Got (List ℕ)} (λ b next. got (a ∷ b ∷ []) next) (λ why. refused why) g)
    by_second a (got b next) = refl
    by_second a (refused why) = refl

    by_first : (g : Got ℕ) → on_got {B = Got RuleFile.Mark} (λ a middle. on_got {B = Got RuleFile.Mark} (λ b next. got (mark_of a b) next) (λ why. refused why) (byte s middle)) (λ why. refused why) g
        ≡ on_got {B = Got RuleFile.Mark} (λ bytes next. got (mark_of (get_or bytes 0 0) (get_or bytes 1 0)) next) (λ why. refused why) (on_got {B = Got (List ℕ)} (λ a middle. on_got {B = Got (List ℕ)} (λ b next. got (a ∷ b ∷ []) next) (λ why. refused why) (byte s middle)) (λ why. refused why) g)
    by_first (got a middle) = by_second a (byte s middle)
    by_first (refused why) = refl
