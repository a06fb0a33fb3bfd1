-- Bytes stored one after the other, and the length of an entry.
-- Rests on the library's lists and on reach's Lists.
use Prim.Native.Nat.{ℕ, suc, ◌+◌, ◌≤◌}
use mathlib.Core.Path.{◌≡◌, refl, sym, ◌∙◌, ap}
use mathlib.Core.List.{List, [], ◌∷◌, ◌++◌, append_assoc}
use native.Mathlib.Numerals.{add-one}
use native.Mathlib.Omega.{arith}
use lib.ListN.{length, take, drop, set, length-append}
use lib.Seq.{sets, sets-eq, length-sets}
use Rattle.reach.specs.Parts.{prefix}
use Rattle.reach.specs.declared.Kind.{Kind}
use Rattle.reach.specs.declared.Kind.TheVariants.{RE, UN, MI}
use Rattle.reach.specs.Search.{Entry}
use Rattle.reach.specs.Lists.{word_bytes, kind_bytes, entry_bytes}
use Rattle.headers.specs.declared.Writer.{Writer}
use Rattle.headers.specs.Writes.{Writes, Kept}

-- what is stored from the place behind what was stored is stored with it
pub sets_append : (xs ys l : List ℕ) (i : ℕ) → sets l i (xs ++ ys) ≡ sets (sets l i xs) (i + length xs) ys
sets_append [] ys l i =
    let z : i + 0 ≡ i = omega arith in
    rw z
sets_append (x ∷ xs) ys l i =
    let z : i + suc (length xs) ≡ suc i + length xs = omega arith in
    rw z (sets_append xs ys _ (suc i))

-- the same, the list and the place between the two being known by an equation
pub stored_behind :
    {m : List ℕ} {next : ℕ} (xs ys l : List ℕ) (i : ℕ) → m ≡ sets l i xs → next ≡ i + length xs → sets m next ys ≡ sets l i (xs ++ ys)
stored_behind xs ys l i first behind = rw (first, behind) (sym (sets_append xs ys l i))

-- what a writer wrote, and what it wrote then
pub writes_then : {p q r : Writer} {a b : List ℕ} → Writes p a q → Writes q b r → Writes p (a ++ b) r
writes_then {p} {q} {r} {a} {b} v w =
    record {
      same = w.same ∙ v.same;
      place = omega (arith, v.place, w.place, length-append a b);
      bytes = w.bytes ∙ stored_behind a b p.list.now p.at v.bytes v.place;
    }

-- the list keeps its length
pub writes_length : {p q : Writer} {a : List ℕ} → Writes p a q → length q.list.now ≡ length p.list.now
writes_length {p} {q} {a} w = ap length w.bytes ∙ length-sets p.list.now p.at a

-- and a writer its list
pub kept_all : (p : Writer) → Kept p p
kept_all p = record { same = refl; room = refl }

pub writes_kept : {p q : Writer} {a : List ℕ} → Writes p a q → Kept p q
writes_kept w = record { same = w.same; room = writes_length w }

pub kept_then : {p q r : Writer} → Kept p q → Kept q r → Kept p r
kept_then k l = record { same = l.same ∙ k.same; room = l.room ∙ k.room }

-- one byte more in front
pub stored_one : (x : ℕ) (xs l : List ℕ) (i : ℕ) → sets (set l i x) (i + 1) xs ≡ sets l i (x ∷ xs)
stored_one x xs l i = rw add-one

-- a mark has two bytes, and so has a number
pub mark_length : (k : Kind) → length (kind_bytes k) ≡ 2
unfolding kind_bytes
mark_length RE = refl
mark_length UN = refl
mark_length MI = refl

pub word_length : (n : ℕ) → length (word_bytes n) ≡ 2
unfolding word_bytes
word_length n = refl

-- the header: mark, steps, and the length in bytes of what follows
abbrev pub header : Kind → ℕ → ℕ → List ℕ
header k steps n = kind_bytes k ++ (word_bytes steps ++ word_bytes n)

pub header_length : (k : Kind) (steps n : ℕ) → length (header k steps n) ≡ 6
header_length k steps n =
    omega (
      arith,
      length-append (kind_bytes k) (word_bytes steps ++ word_bytes n),
      length-append (word_bytes steps) (word_bytes n),
      mark_length k,
      word_length steps,
      word_length n,
    )

-- stored in three parts
pub header_stored :
    (k : Kind) (steps n i : ℕ) (l : List ℕ)
    → sets (sets (sets l i (kind_bytes k)) (i + 2) (word_bytes steps)) (i + 4) (word_bytes n) ≡ sets l i (header k steps n)
header_stored k steps n i l =
    stored_behind (word_bytes steps) (word_bytes n) _ (i + 2) refl (omega (arith, word_length steps))
    ∙ stored_behind (kind_bytes k) (word_bytes steps ++ word_bytes n) l i refl (omega (arith, mark_length k))

-- an entry is a header and the input in prefix form
pub entry_is : (e : Entry) → entry_bytes e ≡ header e.kind e.steps (length (prefix e.input)) ++ prefix e.input
unfolding entry_bytes
entry_is e = simp append_assoc

pub entry_length : (e : Entry) → length (entry_bytes e) ≡ 6 + length (prefix e.input)
entry_length e =
    ap length (entry_is e)
    ∙ omega (
      arith,
      length-append (header e.kind e.steps (length (prefix e.input))) (prefix e.input),
      header_length e.kind e.steps (length (prefix e.input)),
    )

-- a header and the prefix form behind it, stored: the entry, where there is room for it
pub entry_stored :
    (e : Entry) (i n : ℕ) (l : List ℕ) → n ≡ i + 6 + length (prefix e.input) → n ≤ length l
    → sets (sets l i (header e.kind e.steps (length (prefix e.input)))) (i + 6) (prefix e.input) ≡ take i l ++ (entry_bytes e ++ drop n l)
entry_stored e i n l is fits =
    let head = header e.kind e.steps (length (prefix e.input)) in
    let whole = sets-eq (entry_bytes e) l i (omega (arith, entry_length e)) in
    let z : i + length (entry_bytes e) ≡ n = omega (arith, entry_length e) in
    stored_behind head (prefix e.input) l i refl (omega (arith, header_length e.kind e.steps (length (prefix e.input))))
    ∙ ap (sets l i) (sym (entry_is e))
    ∙ rw (z, append_assoc) at whole
