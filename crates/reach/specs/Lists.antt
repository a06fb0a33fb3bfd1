-- The bytes of an entry and of a list, and a list cut to its room: 01, "The list" and refusal 12.
-- Rests on Search.
use Rattle.std.specs.Prelude.{ℕ, zero, suc, ◌+◌, ◌-◌, ◌/◌, ◌%◌, min, Bool, true, false, ◌&&◌, length, get_or, take, drop, leb, eqb}
use mathlib.Core.List.{List, [], ◌∷◌, ◌++◌, flat_map}
use Rattle.std.proofs.Math.Option.{Option, none, some}
use Rattle.reach.specs.declared.Kind.{Kind}
use Rattle.reach.specs.declared.Kind.TheVariants.{RE, UN, MI}
use Rattle.reach.specs.Base.{pick}
use Rattle.reach.specs.Limits.{list_limit}
use Rattle.reach.specs.Parts.{prefix}
use Rattle.reach.specs.Places.{word_at}
use Rattle.reach.specs.Search.{Entry}

-- the two bytes of a number, the low byte first
unfoldable pub word_bytes : ℕ → List ℕ
word_bytes n = n % 256 ∷ n / 256 % 256 ∷ []

-- the marks, in ASCII
unfoldable pub kind_bytes : Kind → List ℕ
kind_bytes RE = 0x52 ∷ 0x45 ∷ []
kind_bytes UN = 0x55 ∷ 0x4e ∷ []
kind_bytes MI = 0x4d ∷ 0x49 ∷ []

-- mark, steps, length in bytes of what follows, the parameters in prefix form
unfoldable pub entry_bytes : Entry → List ℕ
entry_bytes e = kind_bytes e.kind ++ (word_bytes e.steps ++ (word_bytes (length (prefix e.input)) ++ prefix e.input))

unfoldable pub list_bytes : List Entry → List ℕ
list_bytes es = flat_map entry_bytes es

-- A list cut to a room: the entries that it holds, and whether one more was due and did not fit.
pub record Cut : Type 0 where
  pub kept : List Entry
  pub full : Bool

abbrev pub keep : Entry → Cut → Cut
keep e c = record { kept = e ∷ c.kept; full = c.full }

-- entries are kept while they fit; after the first that does not, nothing is tried
unfoldable pub cut : ℕ → List Entry → Cut
cut room [] = record { kept = []; full = false }
cut room (e ∷ es) =
    let rest = keep e (cut (room - length (entry_bytes e)) es) in
    pick (leb (length (entry_bytes e)) room) rest (record { kept = []; full = true })

-- of a list slice only the first 16,777,216 bytes count
unfoldable pub room_of : ℕ → ℕ
room_of size = min size list_limit

-- a list slice with a list written to its front: the bytes after it are as before
unfoldable pub written : List Entry → List ℕ → List ℕ
written es before = list_bytes es ++ drop (length (list_bytes es)) before

-- Reading a list back.

-- by what was found, or where nothing was
abbrev pub on_found : {A B : Type 0} → B → (A → B) → Option A → B
on_found b f none = b
on_found b f (some a) = f a

-- two bytes are the mark of this kind
unfoldable pub is_mark : Kind → ℕ → ℕ → Bool
is_mark k a b = eqb a (get_or (kind_bytes k) 0 0) && eqb b (get_or (kind_bytes k) 1 0)

-- the kind whose mark two bytes are, if they are one
unfoldable pub kind_of : ℕ → ℕ → Option Kind
kind_of a b = pick (is_mark RE a b) (some RE) (pick (is_mark UN a b) (some UN) (pick (is_mark MI a b) (some MI) none))

-- a mark is known if it is that of a kind
unfoldable pub known_mark : ℕ → ℕ → Bool
known_mark a b = on_found false (λ k. true) (kind_of a b)

-- the kind of the entry at place i; without a known mark no entry stands there, and it says nothing
unfoldable pub kind_at : List ℕ → ℕ → Kind
kind_at l i = on_found UN (λ k. k) (kind_of (get_or l i 0) (get_or l (i + 1) 0))

-- how many bytes the entry at place i fills: a known mark, a whole header, and a length inside the list
unfoldable pub entry_size : List ℕ → ℕ → Option ℕ
entry_size l i =
    pick (leb (i + 6) (length l) && known_mark (get_or l i 0) (get_or l (i + 1) 0) && leb (i + 6 + word_at l (i + 4)) (length l))
    (some (6 + word_at l (i + 4)))
    none

-- where entry k begins, counted from the entry at place i, and how many bytes it fills
unfoldable pub entry_span : List ℕ → ℕ → ℕ → Option (ℕ × ℕ)
entry_span l zero i = on_found none (λ n. some (i, n)) (entry_size l i)
entry_span l (suc k) i = on_found none (λ n. entry_span l k (i + n)) (entry_size l i)

-- 01: the entry of a given number is the part of the list that it fills, from mark to last byte; else the empty part at the list's end
unfoldable pub entry_part : List ℕ → ℕ → List ℕ
entry_part list k = on_found [] (λ span. take span.1 (drop span.0 list)) (entry_span (take list_limit list) k 0)

-- What an entry says, and its bytes: its kind, its steps, and its parameters in prefix form.
pub record Decoded : Type 0 where
  pub kind : Kind
  pub steps : ℕ
  pub parameters : List ℕ

-- what an entry says
abbrev pub saying_of : Entry → Decoded
saying_of e = record { kind = e.kind; steps = e.steps; parameters = prefix e.input }

-- what bytes say: the kind by its mark, the steps by their two bytes, and the parameters in prefix form behind the header
unfoldable pub decoded : List ℕ → Decoded
decoded l = record { kind = kind_at l 0; steps = word_at l 2; parameters = drop 6 l }

-- the entries that stand one behind the other from place i on, at most so many, up to the first place where none stands
unfoldable pub decoded_from : ℕ → List ℕ → ℕ → List Decoded
decoded_from zero l i = []
decoded_from (suc more) l i = on_found [] (λ n. decoded (take n (drop i l)) ∷ decoded_from more l (i + n)) (entry_size l i)
