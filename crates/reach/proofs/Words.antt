-- The table of the refusals has each of them at its number. Rests on Words.
use Prim.Native.Nat.{ℕ, zero, suc, ◌<◌}
use native.Mathlib.Omega.{arith}
use mathlib.Core.Path.{◌≡◌, refl}
use mathlib.Core.List.{List, [], ◌∷◌, map}
use mathlib.Core.Option.{Option, none, some, none-ne-some}
use lib.ListN.{length, get_or}
use Rattle.reach.specs.declared.Refusal.{Refusal}
use Rattle.reach.specs.declared.Refusal.TheVariants.{Truncated, UnexpectedMark, OutOfRange, UnknownNumber, UnknownCode, TypeMismatch, TrailingBytes, EmptyType, DepthTooSmall, BadInput, WorkTooShort, ListFull, TextTooShort, BadList, BadSpelling}
use Rattle.reach.specs.Words.{all_refusals, refusal_named, number_of}

pub refusal_named_law : (why : Refusal) → refusal_named (number_of why) ≡ some why
unfolding refusal_named all_refusals
refusal_named_law Truncated = refl
refusal_named_law UnexpectedMark = refl
refusal_named_law OutOfRange = refl
refusal_named_law UnknownNumber = refl
refusal_named_law UnknownCode = refl
refusal_named_law TypeMismatch = refl
refusal_named_law TrailingBytes = refl
refusal_named_law EmptyType = refl
refusal_named_law DepthTooSmall = refl
refusal_named_law BadInput = refl
refusal_named_law WorkTooShort = refl
refusal_named_law ListFull = refl
refusal_named_law TextTooShort = refl
refusal_named_law BadList = refl
refusal_named_law BadSpelling = refl

-- so a number fits a byte
inside : {A : Type 0} (xs : List (Option A)) (n : ℕ) (x : A) → get_or xs n none ≡ some x → n < length xs
inside [] n x is = absurd (none-ne-some x is)
inside (y ∷ xs) zero x is = omega arith
inside (y ∷ xs) (suc n) x is = omega (arith, inside xs n x is)

pub number_byte : (why : Refusal) → number_of why < 256
unfolding refusal_named all_refusals
number_byte why = omega (arith, inside (none ∷ map (λ row. some row.0) all_refusals) (number_of why) why (refusal_named_law why))
