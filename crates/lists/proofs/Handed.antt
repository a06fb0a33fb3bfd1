-- Refusal 14 under exactly its condition: a list that is handed in is read as entries if and only if it is those entries, whole and one behind the other, each
-- fitting the rule file. Every list that a search wrote is one; and the text of a list's bytes is that of its entries.
-- Rests on specs/Handed, on EntryValues, readings' Partial and reach's Reading; for the lists of searches on reach's Accepted, Answers, Depths and EntryLength,
-- on ReadBack and on Text.
use Prim.Native.Nat.{ℕ, zero, suc, ◌+◌, ◌*◌, ◌/◌, ◌%◌, ◌≤◌, ◌<◌}
use mathlib.Core.Path.{◌≡◌, refl, sym, ap, subst, ◌∙◌}
use mathlib.Core.Bool.{Bool, true, false, and-eq-true_iff}
use mathlib.Core.List.{List, [], ◌∷◌, ◌++◌, append_assoc, append-nil, map, flat_map}
use mathlib.Core.Logic.{◌↔◌}
use mathlib.Core.Option.{Option, none, some, none-ne-some, some-injective}
use native.Mathlib.Omega.{arith}
use lib.ListN.{length, drop, get_or, length-append, length-drop, drop_of_length-le}
use lib.Dec.{eqb, leb, ltb}
use borrow.Author.Tests.{eqb-true, eq-eqb, leb-true, le-leb, lt-leb}
use Rattle.reach.specs.declared.Refusal.TheVariants.{BadList}
use Rattle.reach.specs.declared.Kind.{Kind}
use Rattle.reach.specs.declared.Kind.TheVariants.{RE, UN, MI}
use Rattle.reach.specs.Base.{pick, ◌∈◌, Each}
use Rattle.reach.specs.Limits.{list_limit, depth_limit}
use Rattle.reach.specs.Syntax.{Types, Program}
use Rattle.reach.specs.Parts.{Parts, end, opened, bound, prefix}
use Rattle.reach.specs.Types.{Typed, Slot, slots, even_slots, source_slots, slot_types, least_depths}
use Rattle.reach.specs.Search.{Entry, entries}
use Rattle.reach.specs.Lists.{word_bytes, kind_bytes, entry_bytes, list_bytes, is_mark, kind_of, saying_of}
use Rattle.reach.specs.Answers.{accepted, check, search_answer, listed}
use Rattle.lists.specs.Text.{text_of, list_text}
use Rattle.reach.specs.Reader.{Got, got, refused, on_got, Reader, or_refuse, demand, byte, word}
use Rattle.reach.specs.Partial.{deepest, Keeps, slotted, OpenApart}
use Rattle.lists.specs.Handed.{Fitting, IsList, in_entries, kind_mark, spanning, entry_by, entry, entries_by, handed}
use Rattle.reach.proofs.Base.{clash, picked, each_member, member_each}
use Rattle.reach.proofs.Limits.{IfFound, if_found_then, accepted_keeps, accepted_rooms}
use Rattle.reach.proofs.Slots.{source_types_law}
use Rattle.reach.proofs.LeastDepths.{shallow_head}
use Rattle.reach.proofs.Depths.{Fit}
use Rattle.reach.proofs.EntryLength.{entry_within}
use Rattle.reach.proofs.Answers.{listed_in}
use Rattle.reach.proofs.Accepted.{entry_typed, entry_fit}
use Rattle.lists.proofs.ReadBack.{two_bytes, listed_fits}
use Rattle.lists.proofs.Text.{entry_some, list_some, list_text_law}
use Rattle.reach.proofs.Reading.{found_at, found_as, Reads, reads_none, reads_then, byte_finds, looked_finds, demand_finds, Found, byte_there}
use Rattle.reach.proofs.WellTyped.{open_apart}
use Rattle.readings.proofs.Partial.{AllBelow, slotted_finds, slotted_meets}
use Rattle.lists.proofs.EntryValues.{entries_lawful}

-- two bytes that are the mark of a kind are that mark
mark_is : (k : Kind) (a b : ℕ) → is_mark k a b ≡ true → kind_bytes k ≡ a ∷ b ∷ []
unfolding is_mark kind_bytes
mark_is k a b t = by_kind k t
  where
    by_kind : (k : Kind) → is_mark k a b ≡ true → kind_bytes k ≡ a ∷ b ∷ []
    by_kind RE h = let both = (and-eq-true_iff (eqb a 0x52) (eqb b 0x45)).0 h in rw (eqb-true a 0x52 both.0, eqb-true b 0x45 both.1) refl
    by_kind UN h = let both = (and-eq-true_iff (eqb a 0x55) (eqb b 0x4e)).0 h in rw (eqb-true a 0x55 both.0, eqb-true b 0x4e both.1) refl
    by_kind MI h = let both = (and-eq-true_iff (eqb a 0x4d) (eqb b 0x49)).0 h in rw (eqb-true a 0x4d both.0, eqb-true b 0x49 both.1) refl

kind_is : (a b : ℕ) (k : Kind) → kind_of a b ≡ some k → kind_bytes k ≡ a ∷ b ∷ []
unfolding kind_of
kind_is a b k =
    picked Told (is_mark RE a b) (λ t. of RE t)
    (λ no. picked Told (is_mark UN a b) (λ t. of UN t) (λ no2. picked Told (is_mark MI a b) (λ t. of MI t) (λ no3 e. absurd (none-ne-some k e))))
  where
    Told : Option Kind → Type 0
    Told o = o ≡ some k → kind_bytes k ≡ a ∷ b ∷ []

    of : (j : Kind) → is_mark j a b ≡ true → some j ≡ some k → kind_bytes k ≡ a ∷ b ∷ []
    of j t e = subst (λ (x : Kind). kind_bytes x ≡ a ∷ b ∷ []) (some-injective j k e) (mark_is j a b t)

-- and the mark of a kind is known
kind_there : (k : Kind) → (a : ℕ) × (b : ℕ) × (kind_bytes k ≡ a ∷ b ∷ []) × (kind_of a b ≡ some k)
unfolding kind_bytes kind_of is_mark
kind_there RE = (0x52, 0x45, refl, refl)
kind_there UN = (0x55, 0x4e, refl, refl)
kind_there MI = (0x4d, 0x49, refl, refl)

-- the two bytes of a number
word_is : (low high : ℕ) → low < 256 → high < 256 → word_bytes (low + 256 * high) ≡ low ∷ high ∷ []
unfolding word_bytes
word_is low high l h =
    let a : (low + 256 * high) % 256 ≡ low = omega arith in
    let q : (low + 256 * high) / 256 ≡ high = omega arith in
    let b : high % 256 ≡ high = omega arith in
    rw (a, q, b) refl

-- From the reader to the bytes.
module _ (p : Program) (s : List ℕ) (bytes : (i : ℕ) → get_or s i 0 < 256) where
  byte_small : (i : ℕ) → IfFound (λ c next. Reads s i (c ∷ []) next × (c < 256)) (byte s i)
  unfolding byte
  byte_small i = both (byte s i) (byte_finds s i) (picked (IfFound (λ c next. c < 256)) (ltb i (length s)) (λ more. bytes i) (λ over. tt))
    where
      both : (g : Got ℕ) → IfFound (λ c next. Reads s i (c ∷ []) next) g → IfFound (λ c next. c < 256) g → IfFound (λ c next. Reads s i (c ∷ []) next × (c < 256)) g
      both (got c next) a b = (a, b)
      both (refused why) a b = tt

  mark_finds : (i : ℕ) → IfFound (λ k next. Reads s i (kind_bytes k) next) (kind_mark s i)
  unfolding kind_mark
  mark_finds i =
      if_found_then _ _ _ (byte s i) (byte_finds s i)
      (λ a k first. if_found_then _ _ _ (byte s k) (byte_finds s k)
      (λ b l second. found_as _ _ (or_refuse BadList (kind_of a b) s l) (looked_finds BadList (kind_of a b) s l)
      (λ kind n known. subst (λ (x : List ℕ). Reads s i x n) (sym (kind_is a b kind known.0))
      (subst (Reads s i (a ∷ b ∷ [])) known.1 (reads_then (a ∷ []) (b ∷ []) first second)))))

  word_finds : (i : ℕ) → IfFound (λ n next. Reads s i (word_bytes n) next × (n < 65536)) (word s i)
  unfolding word
  word_finds i =
      if_found_then _ _ _ (byte s i) (byte_small i)
      (λ low k first. if_found_then _ _ _ (byte s k) (byte_small k)
      (λ high l second. (
        subst (λ (x : List ℕ). Reads s i x l) (sym (word_is low high first.1 second.1)) (reads_then (low ∷ []) (high ∷ []) first.0 second.0),
        omega (arith, first.1, second.1),
      )))

  spanning_finds : {A : Type 0} (P : A → ℕ → Type 0) (n i : ℕ) (m : Reader A) → IfFound P (m s i) → IfFound (λ a next. P a next × (next ≡ i + n)) (spanning n m s i)
  unfolding spanning
  spanning_finds {A} P n i m h = go (m s i) h
    where
      go : (g : Got A) → IfFound P g → IfFound (λ a next. P a next × (next ≡ i + n)) (on_got {B = Got A} (λ a next. pick (eqb next (i + n)) (got a next) (refused BadList)) (λ why. refused why) g)
      go (got a next) k = picked (IfFound (λ b q. P b q × (q ≡ i + n))) (eqb next (i + n)) (λ same. (k, eqb-true next (i + n) same)) (λ other. tt)
      go (refused why) k = tt

  pub entry_finds : (i : ℕ) → IfFound (λ e next. Fitting p e × Reads s i (entry_bytes e) next) (entry p s i)
  unfolding entry_by entry_bytes
  entry_finds i =
      if_found_then _ _ _ (kind_mark s i) (mark_finds i)
      (λ kind a first. if_found_then _ _ _ (word s a) (word_finds a)
      (λ steps b second. if_found_then _ _ _ (demand (leb steps p.steps) BadList s b) (demand_finds (leb steps p.steps) BadList s b)
      (λ u c passed. if_found_then _ _ _ (word s c) (word_finds c)
      (λ n d third. if_found_then _ _ _ (spanning n (slotted p.types (in_entries (least_depths p.types)) depth_limit (source_slots p)) s d) (spanning_finds _ n d _ (slotted_finds p.types (in_entries (least_depths p.types)) (λ e. Unit {0}) (entries_lawful p.types) depth_limit s (source_slots p) d))
      (λ row l last.
      let counts : n ≡ length (prefix row.0) = omega (arith, last.1, last.0.1.behind) in (
        record {
          typed = rw (source_types_law p) at last.0.0.0.typed;
          deep = last.0.0.1;
          in_time = leb-true steps p.steps passed.0;
          counted = omega (arith, counts, third.1);
        },
        reads_then (kind_bytes kind) _ first
            (reads_then (word_bytes steps) _ (subst (Reads s a (word_bytes steps)) passed.1 second.0)
            (reads_then (word_bytes (length (prefix row.0))) (prefix row.0) (subst (λ (x : ℕ). Reads s c (word_bytes x) d) counts third.0) last.0.1)),
      ))))))

  entries_find : (more i : ℕ) → IfFound (λ es next. Each (Fitting p) es × Reads s i (list_bytes es) next × (length s ≤ next)) (entries_by (entry p) more s i)
  unfolding entries_by list_bytes flat_map
  entries_find zero i =
      picked (IfFound (λ es next. Each (Fitting p) es × Reads s i (list_bytes es) next × (length s ≤ next))) (leb (length s) i)
      (λ over. (tt, reads_none, leb-true (length s) i over))
      (λ left. tt)
  entries_find (suc more) i =
      picked (IfFound (λ es next. Each (Fitting p) es × Reads s i (list_bytes es) next × (length s ≤ next))) (leb (length s) i)
      (λ over. (tt, reads_none, leb-true (length s) i over))
      (λ left. if_found_then _ _ _ (entry p s i) (entry_finds i)
      (λ e k first. if_found_then _ _ _ (entries_by (entry p) more s k) (entries_find more k)
      (λ es n rest. ((first.0, rest.0), reads_then (entry_bytes e) (list_bytes es) first.1 rest.1, rest.2))))

  -- what is read is a list
  read_is : (es : List Entry) → handed p s ≡ some es → IsList p s es
  unfolding handed
  read_is es = by_size (leb (length s) list_limit) refl
    where
      found : (g : Got (List Entry)) → IfFound (λ es' next. Each (Fitting p) es' × Reads s 0 (list_bytes es') next × (length s ≤ next)) g → length s ≤ list_limit
          → on_got (λ es' next. some es') (λ why. none) g ≡ some es → IsList p s es
      found (got es' next) h l e =
          let same : es' ≡ es = cc in
          subst (IsList p s) same (record {
            bytes_are = sym (h.1.stand ∙ ap (λ (x : List ℕ). list_bytes es' ++ x) (drop_of_length-le s h.2) ∙ append-nil (list_bytes es'));
            each_fits = h.0;
            in_limit = l;
          })
      found (refused why) h l e = absurd (clash (cc))

      by_size : (t : Bool) → leb (length s) list_limit ≡ t
          → pick t (on_got (λ es' next. some es') (λ why. none) (entries_by (entry p) (length s) s 0)) none ≡ some es → IsList p s es
      by_size true is e = found (entries_by (entry p) (length s) s 0) (entries_find (length s) 0) (leb-true (length s) list_limit is) e
      by_size false is e = absurd (none-ne-some es e)

-- From the bytes to the reader.
module _ (p : Program) (few : OpenApart p.types) (s : List ℕ)
    (below : AllBelow depth_limit (source_slots p)) (limit : p.steps < 65536) where
  mark_meets : (k : Kind) (i : ℕ) (rest : List ℕ) → drop i s ≡ kind_bytes k ++ rest → Found kind_mark s i k rest
  unfolding kind_mark
  mark_meets k i rest e =
      let (a, b, is, known) = kind_there k in
      let first = byte_there s i a (b ∷ rest) (e ∙ ap (λ (x : List ℕ). x ++ rest) is) in
      let second = byte_there s (suc i) b rest first.1 in
      (suc (suc i), rw (first.0, second.0, known) refl, second.1)

  word_meets : (n i : ℕ) (rest : List ℕ) → n < 65536 → drop i s ≡ word_bytes n ++ rest → Found word s i n rest
  unfolding word word_bytes
  word_meets n i rest l e =
      let first = byte_there s i (n % 256) (n / 256 % 256 ∷ rest) e in
      let second = byte_there s (suc i) (n / 256 % 256) rest first.1 in
      (suc (suc i), rw (first.0, second.0, two_bytes n l) refl, second.1)

  slots_meet : (i : ℕ) (e : Entry) (rest : List ℕ) → Fitting p e → drop i s ≡ prefix e.input ++ rest
      → Found (spanning (length (prefix e.input)) (slotted p.types (in_entries (least_depths p.types)) depth_limit (source_slots p))) s i (e.input, deepest p.types (slot_types (source_slots p)) e.input) rest
  unfolding spanning
  slots_meet i e rest fits w =
      let typed : Typed p.types (slot_types (source_slots p)) e.input = rw (source_types_law p) fits.typed in
      let (next, there, behind) = slotted_meets p.types (in_entries (least_depths p.types)) (λ e. Unit {0}) (entries_lawful p.types) few depth_limit s (source_slots p) below i e.input rest (typed, fits.deep) tt w in
      let ends = (found_at _ _ (slotted_finds p.types (in_entries (least_depths p.types)) (λ e. Unit {0}) (entries_lawful p.types) depth_limit s (source_slots p) i) there).1.behind in
      (next, rw (there, eq-eqb next (i + length (prefix e.input)) ends) refl, behind)

  entry_meets : (i : ℕ) (e : Entry) (rest : List ℕ) → Fitting p e → drop i s ≡ entry_bytes e ++ rest → Found (entry p) s i e rest
  unfolding entry_by entry_bytes
  entry_meets i e rest fits w =
      let input = prefix e.input in
      let counted = word_bytes (length input) in
      let steps = word_bytes e.steps in
      let one = mark_meets e.kind i (steps ++ (counted ++ (input ++ rest))) (w ∙ append_assoc (kind_bytes e.kind) (steps ++ (counted ++ input)) rest
      ∙ ap (λ (x : List ℕ). kind_bytes e.kind ++ x) (append_assoc steps (counted ++ input) rest ∙ ap (λ (x : List ℕ). steps ++ x) (append_assoc counted input rest))) in
      let two = word_meets e.steps one.0 (counted ++ (input ++ rest)) (omega (arith, fits.in_time, limit)) one.2 in
      let three = word_meets (length input) two.0 (input ++ rest) fits.counted two.2 in
      let four = slots_meet three.0 e rest fits three.2 in
      (four.0, rw (one.1, two.1, le-leb e.steps p.steps fits.in_time, three.1, four.1) refl, four.2)

  entries_meet : (more : ℕ) (es : List Entry) (i : ℕ) → Each (Fitting p) es → drop i s ≡ list_bytes es → length es ≤ more → (next : ℕ) × (entries_by (entry p) more s i ≡ got es next)
  unfolding entries_by list_bytes flat_map
  entries_meet zero [] i fits w l = (i, rw (le-leb (length s) i (omega (arith, ap length w, length-drop i s))) refl)
  entries_meet zero (e ∷ es) i fits w l = absurd (omega arith)
  entries_meet (suc more) [] i fits w l = (i, rw (le-leb (length s) i (omega (arith, ap length w, length-drop i s))) refl)
  entries_meet (suc more) (e ∷ es) i fits w l =
      let left : i < length s = omega (arith, ap length w, length-drop i s, length-append (entry_bytes e) (list_bytes es), entry_some e) in
      let first = entry_meets i e (list_bytes es) fits.0 w in
      let rest = entries_meet more es first.0 fits.1 first.2 (omega arith) in
      (rest.0, rw (lt-leb (length s) i left, first.1, rest.1) refl)

  -- and a list is read
  pub is_read : (es : List Entry) → IsList p s es → handed p s ≡ some es
  unfolding handed
  is_read es is =
      let there = entries_meet (length s) es 0 is.each_fits (sym is.bytes_are) (omega (arith, list_some es, ap length is.bytes_are)) in
      rw (le-leb (length s) list_limit is.in_limit, there.1) refl

-- What fits its slots as the search's inputs do keeps their depths.
module _ (types : Types) where
  fit_deepest : (us : List ℕ) (d : ℕ) (e : Parts) → Fit types (even_slots us d) e → deepest types us e ≤ d
  unfolding even_slots slots deepest
  fit_deepest [] d end h = omega arith
  fit_deepest [] d (opened r) h = absurd h
  fit_deepest [] d (bound c fs r) h = absurd h
  fit_deepest (t ∷ ts) d end h = absurd h
  fit_deepest (t ∷ ts) d (opened r) (first, rest) =
      let least = shallow_head (least_depths types) d t [] first in
      omega (arith, fit_deepest ts d r rest, least.1, least.2)
  fit_deepest (t ∷ ts) d (bound c fs r) (n, us, is, has, inner, rest) =
      rw has (omega (arith, fit_deepest us n fs inner, fit_deepest ts d r rest))

  fit_keeps : (ss : List Slot) (e : Parts) → Fit types ss e → Keeps types ss e
  unfolding deepest
  fit_keeps [] end h = tt
  fit_keeps [] (opened r) h = absurd h
  fit_keeps [] (bound c fs r) h = absurd h
  fit_keeps (s ∷ ss) end h = absurd h
  fit_keeps (s ∷ ss) (opened r) (first, rest) =
      let least = shallow_head (least_depths types) s.room s.type [] first in
      (omega (arith, least.1, least.2), fit_keeps ss r rest)
  fit_keeps (s ∷ ss) (bound c fs r) (n, us, is, has, inner, rest) = (rw has (omega (arith, fit_deepest us n fs inner, is)), fit_keeps ss r rest)

-- Of an accepted file.
module _ (file : List ℕ) (p : Program) (h : check file ≡ accepted p) where
  -- a list is read as its entries
  pub handed_reads : (list : List ℕ) (es : List Entry) → IsList p list es → handed p list ≡ some es
  handed_reads list = is_read p (open_apart file p h) list (accepted_rooms file p h) (omega (arith, (accepted_keeps file p h).steps_limit))

  -- 02, Slip 2, refusal 14: a list of bytes is read as these entries exactly if it is these entries
  pub handed_exactly : (list : List ℕ) → ((i : ℕ) → get_or list i 0 < 256) → (es : List Entry) → (handed p list ≡ some es) ↔ IsList p list es
  handed_exactly list bytes es = (read_is p list bytes es, handed_reads list es)

  -- every list that a search wrote, complete or cut short, is one
  pub listed_handed : (work list : ℕ) → IsList p (list_bytes (listed (search_answer file work list))) (listed (search_answer file work list))
  listed_handed work list = record {
    bytes_are = refl;
    each_fits = member_each (Fitting p) (listed (search_answer file work list)) (λ e m. fitting e (listed_in file work list p h e m));
    in_limit = listed_fits file work list p h;
  }
    where
      fitting : (e : Entry) → e ∈ entries p → Fitting p e
      fitting e m = record {
        typed = entry_typed file p h e m;
        deep = fit_keeps p.types (source_slots p) e.input (entry_fit file p h e m);
        in_time = (entry_within file p h e m).1;
        counted = (entry_within file p h e m).0;
      }

  -- and the text of its bytes is the text of its entries
  pub handed_text : (full : Bool) (list : List ℕ) (es : List Entry) → IsList p list es → list_text full list ≡ text_of full (map saying_of es)
  handed_text full list es is =
      subst (λ (l : List ℕ). list_text full l ≡ text_of full (map saying_of es)) is.bytes_are
      (list_text_law full es (λ e m. (each_member (Fitting p) is.each_fits m).counted)
      (λ e m. omega (arith, (each_member (Fitting p) is.each_fits m).in_time, (accepted_keeps file p h).steps_limit))
      (omega (arith, ap length is.bytes_are, is.in_limit)))
