-- Either encoding of a letter is at most eight bytes of text. These are laws and no definitions: they stand here since the trait's ghost member `short`
-- cites them, which may cite nothing of its own crate's proofs/. Rests on Encodings, reach's Base, lists' Text, names' NameList and writing's Digits.
use Rattle.std.specs.Prelude.{ℕ, ◌+◌, ◌*◌, ◌/◌, ◌%◌, ◌≤◌, ◌<◌, Bool, true, false, length, ltb}
use mathlib.Core.List.{List, [], ◌∷◌, map, flat_map}
use native.Mathlib.Omega.{arith}
use lib.ListN.{length-append}
use Rattle.reach.specs.Base.{pick, Each}
use Rattle.lists.specs.Text.{spaced, decimal}
use Rattle.names.specs.NameList.{utf8}
use Rattle.writing.proofs.Digits.{digits_three}
use Rattle.naming.specs.Encodings.{latin1, Short}

-- bytes are four bytes of text each at most
pub text_few : (ns : List ℕ) → Each (λ (n : ℕ). n < 256) ns → length (spaced (map decimal ns)) ≤ 4 * length ns
unfolding spaced flat_map
text_few [] h = omega arith
text_few (n ∷ ns) h = omega (arith, digits_three n (omega (arith, h.0)), text_few ns h.1, length-append (decimal n) (spaced (map decimal ns)))

pub latin1_short : Short latin1
latin1_short b h = omega (arith, text_few (b ∷ []) (h, tt))

pub utf8_short : Short utf8
unfolding utf8
utf8_short b h = go (ltb b 128)
  where
    go : (t : Bool) → length (spaced (map decimal (pick t (b ∷ []) ((192 + b / 64) ∷ (128 + b % 64) ∷ [])))) ≤ 8
    go true = latin1_short b h
    go false = omega (arith, text_few ((192 + b / 64) ∷ (128 + b % 64) ∷ []) (omega arith, (omega arith, tt)))
