-- What a reader finds stands there, and what stands there a reader finds: bytes, what was looked up, tests.
-- Rests on specs/Reader, and on Limits for what is found.
use Prim.Native.Nat.{ℕ, suc, ◌+◌, ◌<◌}
use mathlib.Core.Path.{◌≡◌, refl, ap, subst}
use mathlib.Core.Bool.{Bool, true, false}
use mathlib.Core.List.{List, [], ◌∷◌, ◌++◌, append_assoc}
use mathlib.Core.Option.{Option, none, some}
use native.Mathlib.Omega.{arith}
use lib.ListN.{length, drop, length-append, length-drop}
use lib.Seq.{drop-cons}
use lib.Dec.{ltb}
use borrow.Author.Tests.{ltb-true, lt-ltb}
use Rattle.reach.specs.declared.Refusal.{Refusal}
use Rattle.reach.specs.Reader.{Got, got, refused, on_got, Reader, or_refuse, demand, byte}
use Rattle.reach.proofs.Base.{picked}
use Rattle.reach.proofs.Limits.{IfFound}

-- the same in other words
pub found_as : {A : Type 0} (P Q : A → ℕ → Type 0) (g : Got A) → IfFound P g → ((a : A) (next : ℕ) → P a next → Q a next) → IfFound Q g
found_as P Q (got a next) h so = so a next h
found_as P Q (refused why) h so = tt

-- what holds of anything found holds of this
pub found_at : {A : Type 0} (P : A → ℕ → Type 0) (g : Got A) {a : A} {next : ℕ} → IfFound P g → g ≡ got a next → P a next
found_at P g h e = subst (IfFound P) e h

-- the bytes from i up to next are these
pub record Reads (s : List ℕ) (i : ℕ) (bytes : List ℕ) (next : ℕ) : Type 0 where
  pub stand : drop i s ≡ bytes ++ drop next s
  pub behind : next ≡ i + length bytes

pub reads_none : {s : List ℕ} {i : ℕ} → Reads s i [] i
reads_none = record { stand = refl; behind = omega arith }

pub reads_then : {s : List ℕ} {i k n : ℕ} (bs cs : List ℕ) → Reads s i bs k → Reads s k cs n → Reads s i (bs ++ cs) n
reads_then {s} {i} {k} {n} bs cs first second =
    record { stand = cc (first.stand, second.stand, append_assoc bs cs (drop n s)); behind = omega (arith, length-append bs cs) }

pub byte_finds : (s : List ℕ) (i : ℕ) → IfFound (λ b next. Reads s i (b ∷ []) next) (byte s i)
unfolding byte
byte_finds s i =
    picked (IfFound (λ b next. Reads s i (b ∷ []) next)) (ltb i (length s))
    (λ more. record { stand = drop-cons s i 0 (ltb-true i (length s) more); behind = omega arith })
    (λ over. tt)

pub looked_finds : {A : Type 0} (why : Refusal) (o : Option A) (s : List ℕ) (i : ℕ) → IfFound (λ a next. (o ≡ some a) × (i ≡ next)) (or_refuse why o s i)
looked_finds why none s i = tt
looked_finds why (some a) s i = (refl, refl)

pub demand_finds : (test : Bool) (why : Refusal) (s : List ℕ) (i : ℕ) → IfFound (λ u next. (test ≡ true) × (i ≡ next)) (demand test why s i)
demand_finds true why s i = (refl, refl)
demand_finds false why s i = tt

-- the reader finds this at a place, and the rest of the bytes stands behind it
abbrev pub Found : {A : Type 0} → Reader A → List ℕ → ℕ → A → List ℕ → Type 0
Found m s i a rest = (next : ℕ) × (m s i ≡ got a next) × (drop next s ≡ rest)

pub byte_there : (s : List ℕ) (i c : ℕ) (rest : List ℕ) → drop i s ≡ c ∷ rest → (byte s i ≡ got c (suc i)) × (drop (suc i) s ≡ rest)
unfolding byte
byte_there s i c rest e =
    let more : i < length s = omega (arith, ap length e, length-drop i s) in
    let first = drop-cons s i 0 more in
    (rw (lt-ltb i (length s) more) (cc), cc)

-- What is found is made into the same by functions that agree on it.

pub then_same : {A B : Type 0} (g : Got A) (f h : A → ℕ → Got B) → ((a : A) (k : ℕ) → f a k ≡ h a k) → on_got {B = Got B} f (λ why. refused why) g ≡ on_got {B = Got B} h (λ why. refused why) g
then_same (got a k) f h same = same a k
then_same (refused why) f h same = refl
