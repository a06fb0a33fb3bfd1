-- Values, partial or closed, are read exactly where their prefix form stands: what is found has the types asked for and the depth that the definition gives
-- it, and what stands there is found, if no more constructors stand one inside another than the reading goes below.
-- Rests on reach's Partial, and on its Reading and Limits for what a reader finds.
use Prim.Native.Nat.{ℕ, zero, suc, max, ◌+◌, ◌≤◌, ◌<◌}
use mathlib.Core.Path.{◌≡◌, refl, sym, ap, subst, ◌∙◌}
use mathlib.Core.List.{List, [], ◌∷◌, ◌++◌, append_assoc, append-nil, head?, tail}
use mathlib.Core.Logic.{◌↔◌}
use mathlib.Core.Option.{some, none-ne-some}
use native.Mathlib.Omega.{arith}
use lib.ListN.{length, drop, get_or}
use lib.Dec.{eqb, leb}
use borrow.Author.Tests.{eqb-true, ne_eqb, leb-true, le-leb}
use Rattle.reach.specs.Base.{Each}
use Rattle.reach.specs.Syntax.{Types, field_types}
use Rattle.reach.specs.Parts.{Parts, end, opened, bound, Closed, depth, prefix}
use Rattle.reach.specs.Types.{Typed, Slot, slot_types, least_depths}
use Rattle.reach.specs.Reader.{Got, got, refused, Reader, ◌>>=◌, refuse, or_refuse, demand, byte}
use Rattle.reach.specs.Partial.{fields_in, deepest, Keeps, Value, unbound, built, ◌before◌, deep_of, values_by, Manner, in_inputs, OpenApart, value_from, value, slotted}
use Rattle.reach.proofs.Base.{clash, picked}
use Rattle.reach.proofs.Limits.{IfFound, if_found_then}
use Rattle.reach.proofs.Reading.{found_at, Reads, reads_none, reads_then, byte_finds, looked_finds, demand_finds, Found, byte_there}

-- One value before the rest of its row.

prefix_before : (v : Value) (r : Parts) → prefix (v before r) ≡ prefix (v before end) ++ prefix r
unfolding prefix
prefix_before (unbound d) r = refl
prefix_before (built c fs d) r = rw (append-nil (prefix fs)) refl

typed_before : (types : Types) (t : ℕ) (ts : List ℕ) (v : Value) (r : Parts)
    → Typed types (t ∷ ts) (v before r) ↔ (Typed types (t ∷ []) (v before end) × Typed types ts r)
typed_before types t ts (unbound d) r = (λ h. (tt, h), λ h. h.1)
typed_before types t ts (built c fs d) r = (λ h. ((h.0, h.1, h.2, tt), h.3), λ h. (h.0.0, h.0.1, h.0.2, h.1))

deepest_before : (types : Types) (t : ℕ) (ts : List ℕ) (v : Value) (r : Parts)
    → deepest types (t ∷ ts) (v before r) ≡ max (deepest types (t ∷ []) (v before end)) (deepest types ts r)
unfolding deepest
deepest_before types t ts (unbound d) r = omega arith
deepest_before types t ts (built c fs d) r = omega arith

-- The rows that a manner allows: those with an open part only where it reads one, and then as deep as its type's least depth.
pub record Lawful (types : Types) (m : Manner) (Allowed : Parts → Type 0) : Type 0 where
  pub none_open : Allowed end
  pub opens : (r : Parts) → Allowed (opened r) ↔ (Allowed (opened end) × Allowed r)
  pub bounds : (c : ℕ) (fs r : Parts) → Allowed (bound c fs r) ↔ (Allowed fs × Allowed r)
  pub found : (t d : ℕ) → m.open_part t ≡ some d → (d ≡ get_or (least_depths types) t 0) × Allowed (opened end)
  pub met : Allowed (opened end) → (t : ℕ) → m.open_part t ≡ some (get_or (least_depths types) t 0)

-- closed inputs have no open part
pub inputs_lawful : (types : Types) → Lawful types in_inputs Closed
inputs_lawful types = record {
  none_open = tt;
  opens = λ r. (λ h. absurd h, λ h. absurd h.0);
  bounds = λ c fs r. (λ h. h, λ h. h);
  found = λ t d is. absurd (none-ne-some d is);
  met = λ h t. absurd h;
}

-- a row goes no deeper by its constructors than it is deep
depth_deepest : (types : Types) (ts : List ℕ) (e : Parts) → depth e ≤ deepest types ts e
unfolding depth deepest
depth_deepest types ts end = omega arith
depth_deepest types ts (opened r) = omega (arith, depth_deepest types (tail ts) r)
depth_deepest types ts (bound c fs r) = omega (arith, depth_deepest types (fields_in types (head? ts) c) fs, depth_deepest types (tail ts) r)

-- and a closed one just as deep
pub closed_deepest : (types : Types) (ts : List ℕ) (e : Parts) → Closed e → deepest types ts e ≡ depth e
unfolding depth deepest
closed_deepest types ts end h = refl
closed_deepest types ts (opened r) h = absurd h
closed_deepest types ts (bound c fs r) h =
    rw (closed_deepest types (fields_in types (head? ts) c) fs h.0, closed_deepest types (tail ts) r h.1) refl

-- each slot allows at most so much
abbrev pub AllBelow : ℕ → List Slot → Type 0
AllBelow levels ss = Each (λ (s : Slot). s.room ≤ levels) ss

module _ (types : Types) (m : Manner) (Allowed : Parts → Type 0) (lawful : Lawful types m Allowed) where
  allowed_before : (v : Value) (r : Parts) → Allowed (v before r) ↔ (Allowed (v before end) × Allowed r)
  allowed_before (unbound d) r = lawful.opens r
  allowed_before (built c fs d) r = (
    λ h. let parts = (lawful.bounds c fs r).0 h in ((lawful.bounds c fs end).1 (parts.0, lawful.none_open), parts.1),
    λ h. (lawful.bounds c fs r).1 (((lawful.bounds c fs end).0 h.0).0, h.1),
  )

  -- From the reader to the bytes.

  -- v is a value of type t, allowed, and as deep as it says
  pub record IsValue (t : ℕ) (v : Value) : Type 0 where
    pub typed : Typed types (t ∷ []) (v before end)
    pub deep : deep_of v ≡ deepest types (t ∷ []) (v before end)
    pub allowed : Allowed (v before end)

  -- the row has values of these types, is allowed, and is this deep
  pub record IsRow (us : List ℕ) (row : Parts × ℕ) : Type 0 where
    pub typed : Typed types us row.0
    pub deep : row.1 ≡ deepest types us row.0
    pub allowed : Allowed row.0

  abbrev FindsValues : (ℕ → Reader Value) → List ℕ → Type 0
  FindsValues one s = (t i : ℕ) → IfFound (λ v next. IsValue t v × Reads s i (prefix (v before end)) next) (one t s i)

  abbrev FindsRows : (List ℕ → Reader (Parts × ℕ)) → List ℕ → Type 0
  FindsRows rows s = (us : List ℕ) (i : ℕ) → IfFound (λ row next. IsRow us row × Reads s i (prefix row.0) next) (rows us s i)

  no_row : IsRow [] (end, zero)
  unfolding deepest
  no_row = record { typed = tt; deep = refl; allowed = lawful.none_open }

  row_more : (t : ℕ) (ts : List ℕ) (v : Value) (rest : Parts × ℕ) → IsValue t v → IsRow ts rest → IsRow (t ∷ ts) (v before rest.0, max (deep_of v) rest.1)
  row_more t ts v rest first outer = record {
    typed = (typed_before types t ts v rest.0).1 (first.typed, outer.typed);
    deep = rw (deepest_before types t ts v rest.0, first.deep, outer.deep) refl;
    allowed = (allowed_before v rest.0).1 (first.allowed, outer.allowed);
  }

  values_find : (one : ℕ → Reader Value) (s : List ℕ) → FindsValues one s → FindsRows (values_by one) s
  unfolding values_by prefix
  values_find one s below [] i = (no_row, reads_none)
  values_find one s below (t ∷ ts) i =
      if_found_then _ _ _ (one t s i) (below t i)
      (λ v k first. if_found_then _ _ _ (values_by one ts s k) (values_find one s below ts k)
      (λ rest n outer. (
        row_more t ts v rest first.0 outer.0,
        subst (λ (x : List ℕ). Reads s i x n) (sym (prefix_before v rest.0)) (reads_then _ _ first.1 outer.1),
      )))

  from_finds : (fields : List ℕ → Reader (Parts × ℕ)) (s : List ℕ) → FindsRows fields s → (t i b k : ℕ) → Reads s i (b ∷ []) k
      → IfFound (λ v next. IsValue t v × Reads s i (prefix (v before end)) next) (value_from types m fields t b s k)
  unfolding value_from prefix deepest
  from_finds fields s below t i b k first =
      picked (IfFound (λ v next. IsValue t v × Reads s i (prefix (v before end)) next)) (eqb b 0xff)
      (λ opens. if_found_then _ _ _ (or_refuse m.misfit (m.open_part t) s k) (looked_finds m.misfit (m.open_part t) s k)
      (λ d n told.
      let is = lawful.found t d told.0 in (
        record { typed = tt; deep = omega (arith, is.0); allowed = is.1 },
        subst (Reads s i (0xff ∷ [])) told.1 (subst (λ (x : ℕ). Reads s i (x ∷ []) k) (eqb-true b 0xff opens) first),
      )))
      (λ other. if_found_then _ _ _ (or_refuse m.misfit (field_types types t b) s k) (looked_finds m.misfit (field_types types t b) s k)
      (λ us l has. if_found_then _ _ _ (fields us s l) (below us l)
      (λ row n inner. (
        record {
          typed = (us, has.0, inner.0.typed, tt);
          deep = rw (has.0, inner.0.deep) (omega arith);
          allowed = (lawful.bounds b row.0 end).1 (inner.0.allowed, lawful.none_open);
        },
        subst (λ (x : List ℕ). Reads s i (b ∷ x) n) (sym (append-nil (prefix row.0)))
            (reads_then (b ∷ []) (prefix row.0) (subst (Reads s i (b ∷ [])) has.1 first) inner.1),
      ))))

  value_finds : (levels : ℕ) (s : List ℕ) → FindsValues (value types m levels) s
  unfolding value
  value_finds zero s t i = if_found_then _ _ _ (byte s i) (byte_finds s i) (λ b k first. from_finds _ s (λ us j. tt) t i b k first)
  value_finds (suc levels) s t i =
      if_found_then _ _ _ (byte s i) (byte_finds s i)
      (λ b k first. from_finds _ s (values_find (value types m levels) s (value_finds levels s)) t i b k first)

  -- From the bytes to the reader: no constructor has the number that stands for an open part.
  module _ (few : OpenApart types) where
    -- a reader of values finds open parts, and constructors over fields that are less deep than so many
    record Meets (levels : ℕ) (one : ℕ → Reader Value) (s : List ℕ) : Type 0 where
      opening : (t i : ℕ) (rest : List ℕ) → Allowed (opened end) → drop i s ≡ 0xff ∷ rest → Found (one t) s i (unbound (get_or (least_depths types) t 0)) rest
      building :
          (t c : ℕ) (us : List ℕ) (fs : Parts) (i : ℕ) (rest : List ℕ) → field_types types t c ≡ some us → Typed types us fs → Allowed fs → depth fs < levels
          → drop i s ≡ c ∷ (prefix fs ++ rest) → Found (one t) s i (built c fs (suc (deepest types us fs))) rest

    abbrev MeetsRows : ℕ → (List ℕ → Reader (Parts × ℕ)) → List ℕ → Type 0
    MeetsRows levels rows s =
        (us : List ℕ) (i : ℕ) (e : Parts) (rest : List ℕ) → Typed types us e → Allowed e → depth e ≤ levels → drop i s ≡ prefix e ++ rest
        → Found (rows us) s i (e, deepest types us e) rest

    values_meet : (levels : ℕ) (one : ℕ → Reader Value) (s : List ℕ) → Meets levels one s → MeetsRows levels (values_by one) s
    unfolding values_by prefix depth deepest
    values_meet levels one s meets [] i end rest h a l e = (i, refl, e)
    values_meet levels one s meets [] i (opened r) rest h a l e = absurd h
    values_meet levels one s meets [] i (bound c fs r) rest h a l e = absurd h
    values_meet levels one s meets (t ∷ ts) i end rest h a l e = absurd h
    values_meet levels one s meets (t ∷ ts) i (opened r) rest h a l e =
        let may = (lawful.opens r).0 a in
        let first = meets.opening t i (prefix r ++ rest) may.0 e in
        let outer = values_meet levels one s meets ts first.0 r rest h may.1 l first.2 in
        (outer.0, rw (first.1, outer.1), outer.2)
    values_meet levels one s meets (t ∷ ts) i (bound c fs r) rest (us, has, inner, others) a l e =
        let may = (lawful.bounds c fs r).0 a in
        let first = meets.building t c us fs i (prefix r ++ rest) has inner may.0 (omega arith) (e ∙ ap (λ (x : List ℕ). c ∷ x) (append_assoc (prefix fs) (prefix r) rest)) in
        let outer = values_meet levels one s meets ts first.0 r rest others may.1 (omega arith) first.2 in
        (outer.0, rw (first.1, outer.1, has), outer.2)

    -- the first byte tells an open part from a constructor
    from_meets : (levels : ℕ) (fields : List ℕ → Reader (Parts × ℕ)) (s : List ℕ)
        → ((us : List ℕ) (i : ℕ) (e : Parts) (rest : List ℕ) → Typed types us e → Allowed e → depth e < levels → drop i s ≡ prefix e ++ rest
        → Found (fields us) s i (e, deepest types us e) rest)
        → Meets levels (λ t. byte >>= value_from types m fields t) s
    unfolding value_from
    from_meets levels fields s below = record {
      opening = λ t i rest a e. let first = byte_there s i 0xff rest e in (suc i, rw (first.0, lawful.met a t) refl, first.1);
      building = λ t c us fs i rest has inner a l e.
          let first = byte_there s i c (prefix fs ++ rest) e in
          let row = below us (suc i) fs rest inner a l first.1 in
          (row.0, rw (first.0, ne_eqb c 0xff (λ same. clash (omega (arith, same, few t c us has))), has, row.1) refl, row.2);
    }

    value_meets : (levels : ℕ) (s : List ℕ) → Meets levels (value types m levels) s
    unfolding value
    value_meets zero s = from_meets zero (λ us. refuse m.misfit) s (λ us i e rest h a l w. absurd (omega arith))
    value_meets (suc levels) s =
        from_meets (suc levels) (values_by (value types m levels)) s
        (λ us i e rest h a l w. values_meet levels (value types m levels) s (value_meets levels s) us i e rest h a (omega arith) w)

    -- rows of the same types have different prefix forms
    pub row_one : (us : List ℕ) (e f : Parts) → Typed types us e → Typed types us f → Allowed e → Allowed f → prefix e ≡ prefix f → e ≡ f
    row_one us e f typed other a b same =
        let levels = max (depth e) (depth f) in
        let meets = values_meet levels (value types m levels) (prefix f) (value_meets levels (prefix f)) us 0 in
        let one = meets e [] typed a (omega arith) (sym same ∙ sym (append-nil (prefix e))) in
        let two = meets f [] other b (omega arith) (sym (append-nil (prefix f))) in
        got_one one.1 two.1
      where
        first_of : Got (Parts × ℕ) → Parts
        first_of (got row next) = row.0
        first_of (refused why) = end

        got_one : {g : Got (Parts × ℕ)} {x y : Parts} {d k n l : ℕ} → g ≡ got (x, d) n → g ≡ got (y, k) l → x ≡ y
        got_one p q = ap first_of (sym p ∙ q)

    -- a constructor over such fields is read up to the place behind its prefix form
    pub value_read : (levels : ℕ) (s : List ℕ) (t c : ℕ) (us : List ℕ) (fs : Parts) (i : ℕ) (rest : List ℕ) → field_types types t c ≡ some us → Typed types us fs
        → Allowed fs → depth fs < levels → drop i s ≡ c ∷ (prefix fs ++ rest)
        → value types m levels t s i ≡ got (built c fs (suc (deepest types us fs))) (i + 1 + length (prefix fs))
    unfolding prefix
    value_read levels s t c us fs i rest has inner a l e =
        let there = (value_meets levels s).building t c us fs i rest has inner a l e in
        let reads = (found_at _ (value types m levels t s i) (value_finds levels s t i) there.1).1 in
        let size : length (prefix fs ++ []) ≡ length (prefix fs) = ap length (append-nil (prefix fs)) in
        let behind : there.0 ≡ i + 1 + length (prefix fs) = omega (arith, reads.behind, size) in
        there.1 ∙ ap (got (built c fs (suc (deepest types us fs)))) behind

    -- and so is any value that stands alone
    pub one_read : (levels : ℕ) (s : List ℕ) (t i : ℕ) (e : Parts) (rest : List ℕ) → Typed types (t ∷ []) e → Allowed e → deepest types (t ∷ []) e ≤ levels
        → drop i s ≡ prefix e ++ rest → (v : Value) × Found (value types m levels t) s i v rest
    unfolding prefix deepest
    one_read levels s t i end rest h a l w = absurd h
    one_read levels s t i (opened end) rest h a l w = (_, (value_meets levels s).opening t i rest a w)
    one_read levels s t i (opened (opened r)) rest h a l w = absurd h
    one_read levels s t i (opened (bound c fs r)) rest h a l w = absurd h
    one_read levels s t i (bound c fs end) rest (us, has, inner, none_behind) a l w =
        let shallow : depth fs < levels = omega (arith, rw has at l, depth_deepest types us fs) in
        let may = (lawful.bounds c fs end).0 a in
        (_, (value_meets levels s).building t c us fs i rest has inner may.0 shallow (w ∙ ap (λ (y : List ℕ). c ∷ (y ++ rest)) (append-nil (prefix fs))))
    one_read levels s t i (bound c fs (opened r)) rest (us, has, inner, behind) a l w = absurd behind
    one_read levels s t i (bound c fs (bound b gs r)) rest (us, has, inner, behind) a l w = absurd behind

  -- A value for each slot.

  -- the row has values of the slots' types, each at most as deep as its slot allows
  abbrev pub FitsSlots : List Slot → Parts → Type 0
  FitsSlots ss e = Typed types (slot_types ss) e × Keeps types ss e

  keeps_before : (x : Slot) (ss : List Slot) (v : Value) (r : Parts) → deepest types (x.type ∷ []) (v before end) ≤ x.room → Keeps types ss r → Keeps types (x ∷ ss) (v before r)
  keeps_before x ss (unbound d) r l k = (l, k)
  keeps_before x ss (built c fs d) r l k = (l, k)

  pub slotted_finds : (levels : ℕ) (s : List ℕ) (ss : List Slot) (i : ℕ)
      → IfFound (λ row next. (IsRow (slot_types ss) row × Keeps types ss row.0) × Reads s i (prefix row.0) next) (slotted types m levels ss s i)
  unfolding slotted slot_types prefix
  slotted_finds levels s [] i = ((no_row, tt), reads_none)
  slotted_finds levels s (x ∷ ss) i =
      if_found_then _ _ _ (value types m levels x.type s i) (value_finds levels s x.type i)
      (λ v k first. if_found_then _ _ _ (demand (leb (deep_of v) x.room) m.misfit s k) (demand_finds (leb (deep_of v) x.room) m.misfit s k)
      (λ u l passed. if_found_then _ _ _ (slotted types m levels ss s l) (slotted_finds levels s ss l)
      (λ rest n outer. (
        (
          row_more x.type (slot_types ss) v rest first.0 outer.0.0,
          keeps_before x ss v rest.0 (omega (arith, first.0.deep, leb-true (deep_of v) x.room passed.0)) outer.0.1,
        ),
        subst (λ (y : List ℕ). Reads s i y n) (sym (prefix_before v rest.0))
            (reads_then _ _ (subst (Reads s i (prefix (v before end))) passed.1 first.1) outer.1),
      ))))

  pub slotted_meets : OpenApart types → (levels : ℕ) (s : List ℕ) (ss : List Slot) → AllBelow levels ss → (i : ℕ) (e : Parts) (rest : List ℕ) → FitsSlots ss e → Allowed e
      → drop i s ≡ prefix e ++ rest → Found (slotted types m levels ss) s i (e, deepest types (slot_types ss) e) rest
  unfolding slotted slot_types prefix deepest
  slotted_meets few levels s [] below i end rest h a w = (i, refl, w)
  slotted_meets few levels s [] below i (opened r) rest h a w = absurd h.0
  slotted_meets few levels s [] below i (bound c fs r) rest h a w = absurd h.0
  slotted_meets few levels s (x ∷ ss) below i end rest h a w = absurd h.0
  slotted_meets few levels s (x ∷ ss) below i (opened r) rest (typed, keeps) a w =
      let may = (lawful.opens r).0 a in
      let first = (value_meets few levels s).opening x.type i (prefix r ++ rest) may.0 w in
      let outer = slotted_meets few levels s ss below.1 first.0 r rest (typed, keeps.1) may.1 first.2 in
      (outer.0, rw (first.1, le-leb (get_or (least_depths types) x.type 0) x.room (omega (arith, keeps.0)), outer.1) refl, outer.2)
  slotted_meets few levels s (x ∷ ss) below i (bound c fs r) rest ((us, has, inner, others), keeps) a w =
      let may = (lawful.bounds c fs r).0 a in
      let deep : suc (deepest types us fs) ≤ x.room = omega (arith, rw has at keeps.0) in
      let shallow : depth fs < levels = omega (arith, deep, depth_deepest types us fs, below.0) in
      let first = (value_meets few levels s).building x.type c us fs i (prefix r ++ rest) has inner may.0 shallow (w ∙ ap (λ (y : List ℕ). c ∷ y) (append_assoc (prefix fs) (prefix r) rest)) in
      let outer = slotted_meets few levels s ss below.1 first.0 r rest (others, keeps.1) may.1 first.2 in
      (outer.0, rw (first.1, le-leb (suc (deepest types us fs)) x.room deep, outer.1, has) refl, outer.2)
