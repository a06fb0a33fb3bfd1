-- The rule of the table of encodings: an entry stands for the UTF-8 of its place, and fits two bytes.
-- Rests on Table and on names' NameList.
use Prim.Native.Nat.{ℕ, ◌/◌, ◌%◌, ◌≤◌, ◌<◌}
use mathlib.Core.Path.{◌≡◌, refl}
use mathlib.Core.Logic.{◌≢◌}
use native.Mathlib.Omega.{arith}
use borrow.Author.Tests.{lt-ltb, le-ltb}
use mathlib.Core.Bool.{Bool, true, false, ◌&&◌}
use mathlib.Core.List.{List, [], ◌∷◌}
use lib.Dec.{T, eqb, ltb, eqb→eq, ltb→lt}
use lib.ListN.{length, get_or}
use Rattle.names.specs.NameList.{utf8}
use Rattle.utf8.specs.Encodings.{encoding_bytes}
use Rattle.utf8.proofs.Table.{both, every, at_entry}

-- the bytes are the same
abbrev same : List ℕ → List ℕ → Bool
same [] [] = true
same [] (b ∷ bs) = false
same (a ∷ bs) [] = false
same (a ∷ bs) (b ∷ cs) = eqb a b && same bs cs

same_bytes : (bs cs : List ℕ) → T (same bs cs) → bs ≡ cs
same_bytes [] [] t = refl
same_bytes [] (c ∷ cs) t = absurd t
same_bytes (b ∷ bs) [] t = absurd t
same_bytes (b ∷ bs) (c ∷ cs) t =
    let (first, rest) = both (eqb b c) (same bs cs) t in
    rw (eqb→eq b c first, same_bytes bs cs rest)

-- the test of an entry x at place k
abbrev pub right : ℕ → ℕ → Bool
unfolding encoding_bytes utf8
right k x = same (encoding_bytes x) (utf8 k) && ltb x 65536

-- so the rule holds at each entry of a table that passes it
module _ (table : List ℕ) (k : ℕ) (within : k < length table) (passed : T (every right 0 table)) where
  parts : T (same (encoding_bytes (get_or table k 0)) (utf8 k)) × T (ltb (get_or table k 0) 65536)
  unfolding encoding_bytes utf8
  parts = both (same (encoding_bytes (get_or table k 0)) (utf8 k)) (ltb (get_or table k 0) 65536) (at_entry right table passed k within)

  pub entry_bytes_law : encoding_bytes (get_or table k 0) ≡ utf8 k
  entry_bytes_law = same_bytes (encoding_bytes (get_or table k 0)) (utf8 k) parts.0

  pub entry_small : get_or table k 0 < 65536
  entry_small = ltb→lt (get_or table k 0) 65536 parts.1

-- The bytes of a number of the table, low byte first, by the second of them.
module _ (n b : ℕ) (small : n < 65536) (is : encoding_bytes n ≡ utf8 b) where
  pub one_byte : n / 256 % 256 ≡ 0 → n % 256 ∷ [] ≡ utf8 b
  unfolding encoding_bytes
  one_byte none =
      let few : n < 256 = omega arith in
      let same : n % 256 ≡ n = omega arith in
      rw same (rw (lt-ltb n 256 few) at is)

  pub two_bytes : n / 256 % 256 ≢ 0 → n % 256 ∷ n / 256 % 256 ∷ [] ≡ utf8 b
  unfolding encoding_bytes
  two_bytes some =
      let many : 256 ≤ n = omega arith in
      let same : n / 256 % 256 ≡ n / 256 = omega arith in
      rw same (rw (le-ltb n 256 many) at is)
