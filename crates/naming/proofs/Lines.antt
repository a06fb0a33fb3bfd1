-- The numbers of a line, each behind a space, how long they are, and the letters in an encoding.
-- Rests on Letters and Encodings, on Writing of crate writing, and on lists' Text and names' NameList.
use Prim.Native.Nat.{ℕ, ◌+◌, ◌*◌, ◌/◌, ◌%◌, ◌≤◌, ◌<◌}
use mathlib.Core.Path.{◌≡◌, refl}
use mathlib.Core.Bool.{Bool, true, false}
use mathlib.Core.List.{List, [], ◌∷◌, ◌++◌, append_assoc, map, flat_map}
use native.Mathlib.Omega.{arith}
use lib.ListN.{length, length-append}
use lib.Dec.{ltb}
use Rattle.std.specs.Prelude.{Option, Some, None}
use Rattle.reach.specs.Base.{pick, Each}
use Rattle.lists.specs.Text.{space, line_feed, spaced, line_from, decimal}
use Rattle.names.specs.NameList.{utf8, name_line}
use Rattle.writing.specs.declared.Page.{Page}
use Rattle.writing.specs.Writing.{Puts}
use Rattle.writing.proofs.Writing.{puts_none, puts_then, Left, left_next, left_none}
use Rattle.utf8.specs.Encodings.{bytes_of}
use Rattle.naming.specs.Encodings.{latin1, Short}
use Rattle.naming.specs.Letters.{letters}
use Rattle.naming.proofs.Letters.{letters_count}

-- these numbers in decimal, each behind a space
abbrev pub numbers : List ℕ → List ℕ
numbers ns = spaced (map decimal ns)

-- each is a byte
abbrev pub Bytes : List ℕ → Type 0
Bytes bs = Each (λ (b : ℕ). b < 256) bs

-- of two rows of numbers behind one another
pub numbers_append : (ms ns : List ℕ) → numbers (ms ++ ns) ≡ numbers ms ++ numbers ns
unfolding spaced flat_map
numbers_append [] ns = refl
numbers_append (m ∷ ms) ns = rw (numbers_append ms ns, append_assoc (decimal m))

-- bytes, at most two for each of n letters
pub record Encoded (bs : List ℕ) (n : ℕ) : Type 0 where
  pub bytes : Bytes bs
  pub few : length bs ≤ 2 * n

encoded_one : (b : ℕ) → b < 256 → Encoded (utf8 b) 1
unfolding utf8
encoded_one b h = go (ltb b 128)
  where
    go : (t : Bool) → Encoded (pick t (b ∷ []) ((192 + b / 64) ∷ (128 + b % 64) ∷ [])) 1
    go true = record { bytes = (h, tt); few = omega arith }
    go false = record { bytes = (omega arith, (omega arith, tt)); few = omega arith }

pub bytes_append : (bs cs : List ℕ) → Bytes bs → Bytes cs → Bytes (bs ++ cs)
bytes_append [] cs h k = k
bytes_append (b ∷ bs) cs h k = (h.0, bytes_append bs cs h.1 k)

pub encoded_all : (bs : List ℕ) → Bytes bs → Encoded (flat_map utf8 bs) (length bs)
unfolding flat_map
encoded_all [] h = record { bytes = tt; few = omega arith }
encoded_all (b ∷ bs) h =
    let first = encoded_one b h.0 in
    let rest = encoded_all bs h.1 in
    record {
      bytes = bytes_append (utf8 b) (flat_map utf8 bs) first.bytes rest.bytes;
      few = omega (arith, first.few, rest.few, length-append (utf8 b) (flat_map utf8 bs));
    }

-- Letters, each as these bytes: at most eight bytes of text for each.

module _ (bytes : ℕ → List ℕ) where
  pub all_few : (short : Short bytes) (bs : List ℕ) → Bytes bs → length (numbers (flat_map bytes bs)) ≤ 8 * length bs
  unfolding spaced flat_map
  all_few short [] h = omega arith
  all_few short (b ∷ bs) h =
      let rest = flat_map bytes bs in
      rw (numbers_append (bytes b) rest)
      (omega (arith, short b h.0, all_few short bs h.1, length-append (numbers (bytes b)) (numbers rest)))

  pub letters_few : (short : Short bytes) (xs : List ℕ) → Bytes (letters xs) → length (numbers (flat_map bytes (letters xs))) ≤ 8 * length xs
  letters_few short xs spelt = omega (arith, all_few short (letters xs) spelt, letters_count xs)

  -- one letter more, and none
  module _ {p q : Page} {whole bs : List ℕ} where
    pub letters_next : {r : Page} {b : ℕ} {others : List ℕ} → bs ≡ b ∷ others → Left p whole q (numbers (flat_map bytes bs))
        → Puts q (numbers (bytes b)) r → Left p whole r (numbers (flat_map bytes others))
    unfolding flat_map
    letters_next {r} {b} {others} is l w =
        let rest = flat_map bytes others in
        left_next {a = numbers (bytes b)} {b = numbers rest} (rw (is, numbers_append (bytes b) rest) at l) w

    pub letters_done : bs ≡ [] → Left p whole q (numbers (flat_map bytes bs)) → Puts p whole q
    unfolding spaced flat_map
    letters_done none l = left_none (rw none at l)

-- each as its Latin-1 byte: the letters themselves
latin1_all : (bs : List ℕ) → flat_map latin1 bs ≡ bs
unfolding flat_map
latin1_all [] = refl
latin1_all (b ∷ bs) = rw (latin1_all bs)

-- The bytes of a letter: its Latin-1 byte, or an encoding of one, or two.

pub latin1_put : (b : ℕ) {p q : Page} → Puts p (space ∷ decimal b) q → Puts p (numbers (b ∷ [])) q
unfolding spaced flat_map
latin1_put b {p} {q} w = puts_then w (puts_none q)

module _ (b : ℕ) (r : ℕ × Option ℕ) {p q : Page} (is : bytes_of r ≡ utf8 b) (first : Puts p (space ∷ decimal r.0) q) where
  pub one_put : r.1 ≡ None → Puts p (numbers (utf8 b)) q
  unfolding spaced flat_map
  one_put none = rw (← is, none) (puts_then first (puts_none q))

  pub two_put : {n : ℕ} {t : Page} → r.1 ≡ Some n → Puts q (space ∷ decimal n) t → Puts p (numbers (utf8 b)) t
  unfolding spaced flat_map
  two_put {n} {t} some second = rw (← is, some) (puts_then first (puts_then second (puts_none t)))

-- The line of a name.

pub none_put : {p q : Page} {bs : List ℕ} → bs ≡ [] → Puts p (line_feed ∷ []) q → Puts p (name_line bs) q
unfolding name_line
none_put none w = rw none w

module _ {a b c d e : Page} where
  pub name_put : {n : ℕ} {bs others : List ℕ} → bs ≡ n ∷ others → Puts a (decimal n) b → Puts b (numbers (flat_map latin1 others)) c
      → Puts c (numbers (flat_map utf8 bs)) d → Puts d (line_feed ∷ []) e → Puts a (name_line bs) e
  unfolding name_line line_from
  name_put {n} {bs} {others} is first latin utf end =
      rw (is, numbers_append others (flat_map utf8 (n ∷ others)))
      (puts_then first (puts_then (puts_then (rw (latin1_all others) at latin) (rw is at utf)) end))
