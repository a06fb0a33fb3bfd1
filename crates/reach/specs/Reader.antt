-- Readers: what stands at a place of a list of bytes, with the place behind it, or a refusal.
-- Rests on the enum Refusal of src/lib.rt.
use Rattle.std.specs.Prelude.{ℕ, zero, suc, ◌+◌, ◌*◌, Bool, List, [], ◌∷◌, length, get_or, ltb, leb}
use Rattle.std.proofs.Math.Option.{Option, none, some}
use Rattle.reach.specs.Base.{pick}
use Rattle.reach.specs.declared.Refusal.{Refusal}
use Rattle.reach.specs.declared.Refusal.TheVariants.{Truncated}

-- What a reader finds: a value and the place behind it, or why there is none.
pub data Got (A : Type 0) : Type 0 where
  got : A → ℕ → Got A
  refused : Refusal → Got A

-- A reader looks at the bytes from a place on.
abbrev pub Reader : Type 0 → Type 0
Reader A = List ℕ → ℕ → Got A

abbrev pub on_got : {A B : Type 0} → (A → ℕ → B) → (Refusal → B) → Got A → B
on_got f g (got a next) = f a next
on_got f g (refused why) = g why

-- first the one reader, then the other from the place behind; the first refusal ends it
abbrev pub ◌>>=◌ : {A B : Type 0} → Reader A → (A → Reader B) → Reader B
◌>>=◌ {B = B} m f = λ s here. on_got {B = Got B} (λ a next. f a s next) (λ why. refused why) (m s here)

abbrev pub ◌>>◌ : {A B : Type 0} → Reader A → Reader B → Reader B
◌>>◌ {B = B} m f = λ s here. on_got {B = Got B} (λ a next. f s next) (λ why. refused why) (m s here)

infixl 10 ◌>>=◌
infixl 10 ◌>>◌
-- a value, and nothing read
abbrev pub give : {A : Type 0} → A → Reader A
give a = λ s here. got a here

abbrev pub refuse : {A : Type 0} → Refusal → Reader A
refuse why = λ s here. refused why

-- what was looked up, or the refusal where there is none
abbrev pub or_refuse : {A : Type 0} → Refusal → Option A → Reader A
or_refuse why none = refuse why
or_refuse why (some a) = give a

-- the refusal, unless the test passes
abbrev pub demand : Bool → Refusal → Reader (Unit {0})
demand test why = λ s here. pick test (got tt here) (refused why)

-- one byte
unfoldable pub byte : Reader ℕ
byte s here = pick (ltb here (length s)) (got (get_or s here 0) (suc here)) (refused Truncated)

-- a two-byte number, the low byte first
unfoldable pub word : Reader ℕ
word = do
  low ← byte
  high ← byte
  give (low + 256 * high)

-- the same thing so many times
unfoldable pub times : {A : Type 0} → ℕ → Reader A → Reader (List A)
times zero m = give []
times (suc n) m = do
  a ← m
  rest ← times n m
  give (a ∷ rest)

-- so many bytes passed over; the value is the place where they begin
unfoldable pub passed : ℕ → Reader ℕ
passed n s here = pick (leb (here + n) (length s)) (got here (here + n)) (refused Truncated)

-- the place is the end of the bytes
unfoldable pub at_end : Refusal → Reader (Unit {0})
at_end why s here = pick (ltb here (length s)) (refused why) (got tt here)
