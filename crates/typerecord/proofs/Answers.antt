-- What a step tells of its reader. A step forgets the value that was read; the definitions go on with it.
-- Rests on Passed and on reach's Reader.
use Prim.Native.Nat.{ℕ}
use mathlib.Core.Path.{◌≡◌, refl, sym}
use mathlib.Core.List.{List}
use Rattle.std.specs.Prelude.{Ok, Err}
use Rattle.reach.specs.declared.Refusal.{Refusal}
use Rattle.reach.specs.Reader.{Got, got, refused, on_got, byte, times}
use Rattle.reach.proofs.Base.{clash}
use Rattle.typerecord.specs.Passed.{passed_of}

-- a reader whose step goes on has found some value
pub step_got : {A : Type 0} (g : Got A) {next : ℕ} → passed_of g ≡ Ok next → (a : A) × (g ≡ got a next)
step_got (got a next) e = (a, (cc))
step_got (refused why) e = absurd (clash (cc))

-- a step that is refused keeps the reason
pub step_refused : {A : Type 0} (g : Got A) {why : Refusal} → passed_of g ≡ Err why → g ≡ refused why
step_refused (got a next) e = absurd (clash (cc))
step_refused (refused why) e = cc

-- so many bytes were read, or not: the code counts them by w
module _ (s : List ℕ) (at : ℕ) {w n : ℕ} (same : w ≡ n) where
  pub bytes_got : {next : ℕ} → Ok next ≡ passed_of (times w byte s at) → (us : List ℕ) × (times n byte s at ≡ got us next)
  bytes_got told = step_got (times n byte s at) (sym (rw same at told))

  pub bytes_refused : {why : Refusal} → Err why ≡ passed_of (times w byte s at) → times n byte s at ≡ refused why
  bytes_refused told = step_refused (times n byte s at) (sym (rw same at told))

-- a value that is turned into another one leaves the step as it is
pub step_mapped : {A B : Type 0} (f : A → B) (g : Got A) → passed_of {A = B} (on_got {B = Got B} (λ a next. got (f a) next) (λ why. refused why) g) ≡ passed_of g
step_mapped f (got a next) = refl
step_mapped f (refused why) = refl

-- a reading that found b is taken apart at its first step: the step found something, and what follows the step found b
pub on_got_law : {A B C : Type 0} {b : B} {next : ℕ} (g : Got A) (f : A → ℕ → Got B)
    → on_got {B = Got B} f (λ why. refused why) g ≡ got b next
    → ((a : A) (mid : ℕ) → g ≡ got a mid → f a mid ≡ got b next → C) → C
on_got_law (got a mid) f e k = k a mid refl e
on_got_law (refused why) f e k = absurd (clash (cc))
