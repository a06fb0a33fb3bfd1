-- Reading a list back: 01, "The list". The entry of a given number of a list that a search wrote is that entry's bytes, whatever stands
-- behind the list. Beyond the last entry of a list with nothing behind it the part is empty. An entry's bytes determine its kind, its steps
-- and its prefix form.
-- Rests on reach's Lists, on its EntryLength and Limits (what fits two bytes) and its Answers (a written list fits its room).
use Prim.Native.Nat.{ℕ, zero, suc, ◌+◌, ◌*◌, ◌-◌, ◌/◌, ◌%◌, ◌≤◌, ◌<◌, min}
use native.Mathlib.Omega.{arith}
use mathlib.Core.Path.{◌≡◌, refl, sym, ap, subst, ◌∙◌}
use mathlib.Core.Bool.{Bool, true, false, ◌&&◌, and-eq-true_iff}
use mathlib.Core.List.Memᴰ
use mathlib.Core.List.{List, [], ◌∷◌, ◌++◌, flat_map, append_assoc, append-nil}
use mathlib.Core.Option.{Option, none, some, none-ne-some, some-injective}
use lib.ListN.{length, get_or, get_elem?, take, drop, length-append}
use lib.Seq.{take-append_seam, drop-append_seam, take-append-add, get_or-append-add, take_all, take-length, take-nil}
use lib.Dec.{leb}
use borrow.Author.Tests.{leb-true, leb-false, le-leb, lt-leb}
use Rattle.reach.specs.Base.{◌∈◌}
use Rattle.reach.specs.Limits.{list_limit}
use Rattle.reach.specs.Syntax.{Program}
use Rattle.reach.specs.Parts.{prefix}
use Rattle.reach.specs.Places.{word_at}
use Rattle.reach.specs.declared.Kind.{Kind}
use Rattle.reach.specs.declared.Kind.TheVariants.{RE, UN, MI}
use Rattle.reach.specs.Search.{Entry, entries}
use Rattle.reach.specs.Lists.{word_bytes, kind_bytes, entry_bytes, list_bytes, on_found, room_of, written, is_mark, kind_of, known_mark, kind_at, entry_size, entry_span, entry_part, Decoded, saying_of, decoded}
use Rattle.reach.specs.Answers.{accepted, check, SearchAnswer, no_search, complete, cut_short, search_answer, listed}
use Rattle.reach.proofs.Base.{clash, picked}
use Rattle.reach.proofs.Limits.{accepted_keeps}
use Rattle.reach.proofs.EntryLength.{entry_within}
use Rattle.reach.proofs.Answers.{Means, search_means, listed_in}

-- What the definitions say of any bytes.

-- an entry that stands at a place has a whole header, a known mark and its size from the header, and ends inside the list
pub size_told : (l : List ℕ) (i n : ℕ) → entry_size l i ≡ some n
    → (kind : Kind) × (i + 6 ≤ length l) × (kind_of (get_or l i 0) (get_or l (i + 1) 0) ≡ some kind) × (n ≡ 6 + word_at l (i + 4)) × (i + n ≤ length l)
unfolding entry_size known_mark
size_told l i n = picked Told (headed && whole) there (λ t h. absurd (none-ne-some n h))
  where
    known : Bool
    known = on_found false (λ k. true) (kind_of (get_or l i 0) (get_or l (i + 1) 0))

    headed : Bool
    headed = leb (i + 6) (length l) && known

    whole : Bool
    whole = leb (i + 6 + word_at l (i + 4)) (length l)

    Told : Option ℕ → Type 0
    Told o =
        o ≡ some n → (kind : Kind) × (i + 6 ≤ length l) × (kind_of (get_or l i 0) (get_or l (i + 1) 0) ≡ some kind) × (n ≡ 6 + word_at l (i + 4)) × (i + n ≤ length l)

    of_kind : (o : Option Kind) → on_found false (λ k. true) o ≡ true → (kind : Kind) × (o ≡ some kind)
    of_kind none t = absurd (clash (let z = t in cc))
    of_kind (some k) t = (k, refl)

    there : headed && whole ≡ true → Told (some (6 + word_at l (i + 4)))
    there t h =
        let outer = (and-eq-true_iff headed whole).0 t in
        let inner = (and-eq-true_iff (leb (i + 6) (length l)) known).0 outer.0 in
        let size : 6 + word_at l (i + 4) ≡ n = some-injective (6 + word_at l (i + 4)) n h in
        let (kind, is) = of_kind (kind_of (get_or l i 0) (get_or l (i + 1) 0)) inner.1 in (
          kind,
          leb-true (i + 6) (length l) inner.0,
          is,
          sym size,
          omega (arith, size, leb-true (i + 6 + word_at l (i + 4)) (length l) outer.1),
        )

pub size_inside : (l : List ℕ) (i n : ℕ) → entry_size l i ≡ some n → i + n ≤ length l
size_inside l i n h = (size_told l i n h).4

-- the walk from entry to entry: where no entry stands, none is found
pub span_no_entry : (l : List ℕ) (k i : ℕ) → entry_size l i ≡ none → entry_span l k i ≡ none
unfolding entry_span
span_no_entry l zero i e = rw e
span_no_entry l (suc k) i e = rw e

-- entry 0 is the one that stands there
pub span_here : (l : List ℕ) (i n : ℕ) → entry_size l i ≡ some n → entry_span l 0 i ≡ some (i, n)
unfolding entry_span
span_here l i n e = rw e

-- and any other is counted from the next
span_later : (l : List ℕ) (k i n : ℕ) → entry_size l i ≡ some n → entry_span l (suc k) i ≡ entry_span l k (i + n)
unfolding entry_span
span_later l k i n e = rw e

pub span_next : (l : List ℕ) (k i n : ℕ) → 0 < k → entry_size l i ≡ some n → entry_span l k i ≡ entry_span l (k - 1) (i + n)
span_next l zero i n h e = absurd (omega arith)
span_next l (suc k) i n h e = let z : suc k - 1 ≡ k = omega arith in rw z (span_later l k i n e)

-- the entry found ends inside the list
pub span_inside : (l : List ℕ) (k i : ℕ) (s : ℕ × ℕ) → entry_span l k i ≡ some s → s.0 + s.1 ≤ length l
unfolding entry_span
span_inside l zero i s = last (entry_size l i) refl
  where
    last : (o : Option ℕ) → entry_size l i ≡ o → on_found none (λ n. some (i, n)) o ≡ some s → s.0 + s.1 ≤ length l
    last none e h = absurd (none-ne-some s h)
    last (some n) e h =
        let span = some-injective (i, n) s h in
        subst (λ (t : ℕ × ℕ). t.0 + t.1 ≤ length l) span (size_inside l i n e)
span_inside l (suc k) i s = later (λ n. span_inside l k (i + n) s) (entry_size l i)
  where
    later : ((n : ℕ) → entry_span l k (i + n) ≡ some s → s.0 + s.1 ≤ length l) → (o : Option ℕ)
        → on_found none (λ n. entry_span l k (i + n)) o ≡ some s → s.0 + s.1 ≤ length l
    later more none h = absurd (none-ne-some s h)
    later more (some n) h = more n h

-- the part that an entry fills, of a list of which the first n bytes count
abbrev pub part_within : ℕ → List ℕ → ℕ → List ℕ
part_within n list k = on_found [] (λ span. take span.1 (drop span.0 list)) (entry_span (take n list) k 0)

-- to take n bytes is to take as many of them as there are
pub counted : (n : ℕ) (l : List ℕ) → take n l ≡ take (min (length l) n) l
counted n l = go (leb (length l) n) refl
  where
    go : (t : Bool) → leb (length l) n ≡ t → take n l ≡ take (min (length l) n) l
    go true e =
        let inside = leb-true (length l) n e in
        let z : min (length l) n ≡ length l = omega arith in
        rw z (take_all n l inside ∙ sym (take-length l))
    go false e = let z : min (length l) n ≡ n = omega (arith, leb-false (length l) n e) in rw z

within_counted : (n : ℕ) (l : List ℕ) (k : ℕ) → part_within n l k ≡ part_within (min (length l) n) l k
within_counted n l k = ap (λ (t : List ℕ). on_found [] (λ span. take span.1 (drop span.0 l)) (entry_span t k 0)) (counted n l)

-- the span of an entry is found in the bytes that count
pub span_counted : (l : List ℕ) (k : ℕ) → entry_span (take list_limit l) k 0 ≡ entry_span (take (room_of (length l)) l) k 0
unfolding room_of
span_counted l k = ap (λ (t : List ℕ). entry_span t k 0) (counted list_limit l)

-- and so is its part
pub part_counted : (l : List ℕ) (k : ℕ) → entry_part l k ≡ part_within (room_of (length l)) l k
unfolding entry_part room_of
part_counted l k = within_counted list_limit l k

-- What stands at a place depends on the bytes from there on only: whatever stands before it, the tests come out the same.

leb_behind : (n a b : ℕ) → leb (n + a) (n + b) ≡ leb a b
leb_behind n a b = go (leb a b) refl
  where
    go : (t : Bool) → leb a b ≡ t → leb (n + a) (n + b) ≡ t
    go true e = le-leb (n + a) (n + b) (omega (arith, leb-true a b e))
    go false e = lt-leb (n + a) (n + b) (omega (arith, leb-false a b e))

byte_behind : (before l : List ℕ) (i n : ℕ) → i ≡ length before + n → get_or (before ++ l) i 0 ≡ get_or l n 0
byte_behind before l i n e = rw (e, get_or-append-add before l n 0)

pub size_behind : (before l : List ℕ) → entry_size (before ++ l) (length before) ≡ entry_size l 0
unfolding entry_size word_at
size_behind before l =
    let n = length before in
    let z : n + 6 + (get_or l 4 0 + 256 * get_or l 5 0) ≡ n + (6 + (get_or l 4 0 + 256 * get_or l 5 0)) = omega arith in
    rw (
      byte_behind before l n 0 (omega arith),
      byte_behind before l (n + 1) 1 refl,
      byte_behind before l (n + 4) 4 refl,
      byte_behind before l (n + 4 + 1) 5 (omega arith),
      length-append before l,
      z,
      leb_behind n 6 (length l),
      leb_behind n (6 + (get_or l 4 0 + 256 * get_or l 5 0)) (length l),
    )

-- The bytes of an entry.

-- a number below 65536 is read back from its two bytes
pub two_bytes : (n : ℕ) → n < 65536 → n % 256 + 256 * (n / 256 % 256) ≡ n
two_bytes n h = omega arith

-- six bytes of header and what they announce are an entry, whatever stands behind it
size_headed : (a b c d : ℕ) (p rest : List ℕ) → known_mark a b ≡ true → length p < 65536
    → entry_size (a ∷ b ∷ c ∷ d ∷ length p % 256 ∷ length p / 256 % 256 ∷ (p ++ rest)) 0
    ≡ some (length (a ∷ b ∷ c ∷ d ∷ length p % 256 ∷ length p / 256 % 256 ∷ p))
unfolding entry_size word_at
size_headed a b c d p rest known small =
    let z : 6 + length p ≡ suc (suc (suc (suc (suc (suc (length p)))))) = omega arith in
    rw (
      known,
      two_bytes (length p) small,
      le-leb 6 (suc (suc (suc (suc (suc (suc (length (p ++ rest)))))))) (omega arith),
      le-leb (6 + length p) (suc (suc (suc (suc (suc (suc (length (p ++ rest)))))))) (omega (arith, length-append p rest)),
      z,
    )

-- the bytes of an entry of this kind, with these steps and this prefix form
abbrev bytes_of : Kind → ℕ → List ℕ → List ℕ
bytes_of k s p = kind_bytes k ++ (word_bytes s ++ (word_bytes (length p) ++ p))

size_marked : (k : Kind) (s : ℕ) (p rest : List ℕ) → length p < 65536 → entry_size (bytes_of k s p ++ rest) 0 ≡ some (length (bytes_of k s p))
unfolding kind_bytes word_bytes is_mark kind_of known_mark
size_marked RE s p rest small = size_headed 0x52 0x45 (s % 256) (s / 256 % 256) p rest refl small
size_marked UN s p rest small = size_headed 0x55 0x4e (s % 256) (s / 256 % 256) p rest refl small
size_marked MI s p rest small = size_headed 0x4d 0x49 (s % 256) (s / 256 % 256) p rest refl small

-- so an entry is found where its bytes stand, and fills them
pub size_of_entry : (e : Entry) (before rest : List ℕ) → length (prefix e.input) < 65536
    → entry_size (before ++ (entry_bytes e ++ rest)) (length before) ≡ some (length (entry_bytes e))
unfolding entry_bytes
size_of_entry e before rest small =
    size_behind before (entry_bytes e ++ rest) ∙ size_marked e.kind e.steps (prefix e.input) rest small

-- The entries of a list.

-- the prefix form of each entry fits its two bytes of length
abbrev pub Small : List Entry → Type 0
Small es = (e : Entry) → e ∈ es → length (prefix e.input) < 65536

list_more : (e : Entry) (es : List Entry) (rest : List ℕ) → list_bytes (e ∷ es) ++ rest ≡ entry_bytes e ++ (list_bytes es ++ rest)
unfolding list_bytes flat_map
list_more e es rest = append_assoc (entry_bytes e) (flat_map entry_bytes es) rest

-- the walk passes an entry
span_past : (e : Entry) (before rest : List ℕ) (k : ℕ) → length (prefix e.input) < 65536
    → entry_span (before ++ (entry_bytes e ++ rest)) (suc k) (length before)
    ≡ entry_span (before ++ entry_bytes e ++ rest) k (length (before ++ entry_bytes e))
span_past e before rest k small =
    rw (append_assoc before (entry_bytes e) rest, length-append before (entry_bytes e))
    (span_later (before ++ (entry_bytes e ++ rest)) k (length before) (length (entry_bytes e)) (size_of_entry e before rest small))

-- an entry of the list is found, and the bytes there are its own
found : (es : List Entry) (before rest : List ℕ) (k : ℕ) (e : Entry) → Small es → get_elem? es k ≡ some e
    → (a : ℕ) × (entry_span (before ++ (list_bytes es ++ rest)) k (length before) ≡ some (a, length (entry_bytes e)))
    × ((behind : List ℕ) → take (length (entry_bytes e)) (drop a (before ++ (list_bytes es ++ behind))) ≡ entry_bytes e)
found [] before rest k e small h = absurd (none-ne-some e h)
found (x ∷ es) before rest zero e small h =
    let same = some-injective x e h in
    let fits = small x (Memᴰ.head refl) in
    rw (← same) (
      length before,
      rw (list_more x es rest) (span_here _ (length before) (length (entry_bytes x)) (size_of_entry x before (list_bytes es ++ rest) fits)),
      λ behind. rw (list_more x es behind, drop-append_seam before (entry_bytes x ++ (list_bytes es ++ behind)))
          (take-append_seam (entry_bytes x) (list_bytes es ++ behind)),
    )
found (x ∷ es) before rest (suc k) e small h =
    let later = found es (before ++ entry_bytes x) rest k e (λ y m. small y (Memᴰ.tail m)) h in
    let fits = small x (Memᴰ.head refl) in (
      later.0,
      rw (list_more x es rest) (span_past x before (list_bytes es ++ rest) k fits ∙ later.1),
      λ behind. rw (list_more x es behind, ← append_assoc before (entry_bytes x) (list_bytes es ++ behind)) (later.2 behind),
    )

-- beyond the last none is found, where no entry stands behind the list
none_found : (es : List Entry) (before rest : List ℕ) (k : ℕ) → Small es → length es ≤ k → entry_size rest 0 ≡ none
    → entry_span (before ++ (list_bytes es ++ rest)) k (length before) ≡ none
unfolding list_bytes flat_map
none_found [] before rest k small h e = span_no_entry (before ++ rest) k (length before) (size_behind before rest ∙ e)
none_found (x ∷ es) before rest zero small h e = absurd (omega arith)
none_found (x ∷ es) before rest (suc k) small h e =
    let fits = small x (Memᴰ.head refl) in
    let later = none_found es (before ++ entry_bytes x) rest k (λ y m. small y (Memᴰ.tail m)) (omega arith) e in
    rw (list_more x es rest) (span_past x before (list_bytes es ++ rest) k fits ∙ later)

-- a list and what stands behind it, cut to n bytes
cut_at : (n : ℕ) (xs rest : List ℕ) → length xs ≤ n → take n (xs ++ rest) ≡ xs ++ take (n - length xs) rest
cut_at n xs rest h =
    let z : n ≡ length xs + (n - length xs) = omega arith in
    subst (λ (m : ℕ). take m (xs ++ rest) ≡ xs ++ take (n - length xs) rest) (sym z) (take-append-add xs rest (n - length xs))

-- the laws for any limit of the bytes that count
found_within : (n : ℕ) (es : List Entry) (rest : List ℕ) → Small es → length (list_bytes es) ≤ n
    → (k : ℕ) (e : Entry) → get_elem? es k ≡ some e → part_within n (list_bytes es ++ rest) k ≡ entry_bytes e
found_within n es rest small fits k e h =
    let there = found es [] (take (n - length (list_bytes es)) rest) k e small h in
    rw (cut_at n (list_bytes es) rest fits, there.1) (there.2 rest)

none_within : (n : ℕ) (es : List Entry) (rest : List ℕ) → Small es → length (list_bytes es) ≤ n
    → entry_size (take (n - length (list_bytes es)) rest) 0 ≡ none → (k : ℕ) → length es ≤ k → part_within n (list_bytes es ++ rest) k ≡ []
none_within n es rest small fits e k h =
    rw (cut_at n (list_bytes es) rest fits, none_found es [] (take (n - length (list_bytes es)) rest) k small h e)

-- 01: "The entry of a given number is handed back as the part of the list that it fills, from mark to last byte", whatever stands behind
-- the list.
pub entry_read_back : (es : List Entry) (rest : List ℕ) → Small es → length (list_bytes es) ≤ list_limit
    → (k : ℕ) (e : Entry) → get_elem? es k ≡ some e → entry_part (list_bytes es ++ rest) k ≡ entry_bytes e
unfolding entry_part
entry_read_back = found_within list_limit

-- 01: "Beyond the last entry, or where a mark met is unknown or a header or length runs past the end, the empty part": so it is beyond the
-- last entry of a list, if the counted bytes behind it do not begin with an entry
pub beyond_last : (es : List Entry) (rest : List ℕ) → Small es → length (list_bytes es) ≤ list_limit
    → entry_size (take (list_limit - length (list_bytes es)) rest) 0 ≡ none → (k : ℕ) → length es ≤ k → entry_part (list_bytes es ++ rest) k ≡ []
unfolding entry_part
beyond_last = none_within list_limit

-- as where nothing stands behind it
nothing_stands : (n : ℕ) → entry_size (take n []) 0 ≡ none
unfolding entry_size
nothing_stands n = rw (take-nil n)

pub beyond_end : (es : List Entry) → Small es → length (list_bytes es) ≤ list_limit → (k : ℕ) → length es ≤ k → entry_part (list_bytes es) k ≡ []
beyond_end es small fits k h =
    rw (append-nil (list_bytes es)) at (beyond_last es [] small fits (nothing_stands (list_limit - length (list_bytes es))) k h)

-- The list that a search wrote.

room_limit : (n : ℕ) → room_of n ≤ list_limit
unfolding room_of
room_limit n = omega arith

listed_room : (p : Program) (work list : ℕ) (a : SearchAnswer) → Means p work list a → length (list_bytes (listed a)) ≤ list_limit
unfolding listed list_bytes flat_map
listed_room p work list (no_search why) m = omega arith
listed_room p work list (complete es) m = omega (arith, m.2, room_limit list)
listed_room p work list (cut_short es) m = omega (arith, m.1.3, room_limit list)

module _ (file : List ℕ) (work list : ℕ) (p : Program) (h : check file ≡ accepted p) where
  -- its entries are small, by what fits two bytes
  pub listed_small : Small (listed (search_answer file work list))
  listed_small e m = (entry_within file p h e (listed_in file work list p h e m)).0

  -- and it lies inside the bytes that count
  pub listed_fits : length (list_bytes (listed (search_answer file work list))) ≤ list_limit
  listed_fits = listed_room p work list (search_answer file work list) (search_means file work list p h)

-- Of a list slice to which a search wrote its list: the entry of each number of the list is handed back
pub written_read_back : (file : List ℕ) (work : ℕ) (before : List ℕ) (p : Program) → check file ≡ accepted p
    → (k : ℕ) (e : Entry) → get_elem? (listed (search_answer file work (length before))) k ≡ some e
    → entry_part (written (listed (search_answer file work (length before))) before) k ≡ entry_bytes e
unfolding written
written_read_back file work before p h k e there =
    entry_read_back (listed (search_answer file work (length before))) _ (listed_small file work (length before) p h)
    (listed_fits file work (length before) p h) k e there

-- and of its list's own bytes, the length of which the search returns, every number beyond gives the empty part
pub written_beyond : (file : List ℕ) (work list : ℕ) (p : Program) → check file ≡ accepted p
    → (k : ℕ) → length (listed (search_answer file work list)) ≤ k → entry_part (list_bytes (listed (search_answer file work list))) k ≡ []
written_beyond file work list p h k beyond =
    beyond_end (listed (search_answer file work list)) (listed_small file work list p h) (listed_fits file work list p h) k beyond

-- Decoding: what the bytes of an entry say.

decoded_marked : (k : Kind) (s : ℕ) (p : List ℕ) → s < 65536 → decoded (bytes_of k s p) ≡ record { kind = k; steps = s; parameters = p }
unfolding decoded kind_bytes is_mark kind_of kind_at word_bytes word_at
decoded_marked RE s p small = rw (two_bytes s small)
decoded_marked UN s p small = rw (two_bytes s small)
decoded_marked MI s p small = rw (two_bytes s small)

-- an entry whose steps fit two bytes is decoded from its bytes
pub decoded_entry : (e : Entry) → e.steps < 65536 → decoded (entry_bytes e) ≡ saying_of e
unfolding entry_bytes
decoded_entry e small = decoded_marked e.kind e.steps (prefix e.input) small

-- so its bytes determine its kind, its steps and its prefix form
pub bytes_determine : (e f : Entry) → e.steps < 65536 → f.steps < 65536 → entry_bytes e ≡ entry_bytes f
    → (e.kind ≡ f.kind) × (e.steps ≡ f.steps) × (prefix e.input ≡ prefix f.input)
bytes_determine e f small small' same =
    let both = sym (decoded_entry e small) ∙ ap decoded same ∙ decoded_entry f small' in
    (ap (λ (d : Decoded). d.kind) both, ap (λ (d : Decoded). d.steps) both, ap (λ (d : Decoded). d.parameters) both)

-- the steps of an entry of an accepted file fit their two bytes
pub entry_steps : (file : List ℕ) (p : Program) → check file ≡ accepted p → (e : Entry) → e ∈ entries p → e.steps < 65536
entry_steps file p h e m = omega (arith, (entry_within file p h e m).1, (accepted_keeps file p h).steps_limit)

-- as of any two entries of an accepted file
pub entry_bytes_determine : (file : List ℕ) (p : Program) → check file ≡ accepted p → (e f : Entry) → e ∈ entries p → f ∈ entries p
    → entry_bytes e ≡ entry_bytes f → (e.kind ≡ f.kind) × (e.steps ≡ f.steps) × (prefix e.input ≡ prefix f.input)
entry_bytes_determine file p h e f m m' same = bytes_determine e f (entry_steps file p h e m) (entry_steps file p h f m') same
