-- Refusal 10 under exactly its condition: bytes are read as a closed input if and only if they are the prefix form of one that is within the depth. And with it
-- stands its depth: 02, Slip 3. That the reading goes below 64 constructors only changes no answer, since D is at most 64.
-- Rests on Partial and on reach's Input, and on its Limits and WellTyped for accepted files.
use Prim.Native.Nat.{ℕ, suc, max, ◌+◌, ◌≤◌, ◌<◌}
use mathlib.Core.Path.{◌≡◌, refl, sym, ap, subst, ◌∙◌}
use mathlib.Core.Bool.{Bool, true, false}
use mathlib.Core.List.{List, [], ◌∷◌, ◌++◌, append-nil}
use mathlib.Core.Logic.{◌↔◌}
use mathlib.Core.Option.{Option, none, some, map, none-ne-some, some-injective}
use native.Mathlib.Omega.{arith}
use lib.ListN.{length, drop, length-drop, drop_of_length-le}
use lib.Dec.{ltb, leb}
use borrow.Author.Tests.{ltb-false, le-ltb, leb-true, leb-false}
use Rattle.reach.specs.declared.Refusal.TheVariants.{BadInput}
use Rattle.reach.specs.Limits.{depth_limit}
use Rattle.reach.specs.Syntax.{Types, Program, source_types}
use Rattle.reach.specs.Parts.{Parts, end, opened, bound, Closed, depth, prefix}
use Rattle.reach.specs.Types.{Typed, Slot, slot_types, source_slots, depth_of, ClosedInput, Fits, WithinDepth, ValueOf}
use Rattle.reach.specs.Reader.{Got, got, refused, on_got, Reader, ◌>>=◌, ◌>>◌, give, at_end}
use Rattle.reach.specs.Partial.{deepest, Keeps, built, in_inputs, value, slotted}
use Rattle.reach.specs.Input.{input_by, read_input, input_of}
use Rattle.reach.specs.Answers.{accepted, check}
use Rattle.reach.proofs.Base.{picked}
use Rattle.reach.proofs.Limits.{IfFound, if_found_then, accepted_rooms, within_depth}
use Rattle.reach.proofs.Slots.{source_types_law}
use Rattle.reach.proofs.WellTyped.{open_apart}
use Rattle.readings.proofs.Partial.{AllBelow, inputs_lawful, closed_deepest, row_one, value_read, slotted_finds, slotted_meets}

-- a closed row keeps its slots' depths exactly if it fits them
keeps_fits : (types : Types) (ss : List Slot) (j : Parts) → Closed j → Keeps types ss j ↔ Fits ss j
unfolding deepest depth
keeps_fits types [] j h = (λ k. tt, λ k. tt)
keeps_fits types (s ∷ ss) end h = (λ k. tt, λ k. tt)
keeps_fits types (s ∷ ss) (opened r) h = absurd h
keeps_fits types (s ∷ ss) (bound c fs r) h =
    let rest = keeps_fits types ss r h.1 in
    let deep = closed_deepest types (s.type ∷ []) (bound c fs end) (h.0, tt) in (
      λ k. (omega (arith, k.0, deep, depth_one c fs), rest.0 k.1),
      λ k. (omega (arith, k.0, deep, depth_one c fs), rest.1 k.1),
    )
  where
    depth_one : (c : ℕ) (fs : Parts) → depth (bound c fs end) ≡ suc (depth fs)
    depth_one c fs = omega arith

-- what allows at most so much allows at most more
rooms_below : (ss : List Slot) {most levels : ℕ} → AllBelow most ss → most ≤ levels → AllBelow levels ss
rooms_below [] below enough = tt
rooms_below (s ∷ ss) below enough = (omega (arith, below.0, enough), rooms_below ss below.1 enough)

-- Of an accepted file.
module _ (file : List ℕ) (p : Program) (h : check file ≡ accepted p) where
  -- a closed value that stands there is read with its depth, up to the place behind it
  pub value_depth : (s : List ℕ) (i t c : ℕ) (fs : Parts) (rest : List ℕ) → ValueOf p.types t (bound c fs end) → depth (bound c fs end) ≤ depth_limit
      → drop i s ≡ prefix (bound c fs end) ++ rest
      → value p.types in_inputs depth_limit t s i ≡ got (built c fs (depth (bound c fs end))) (i + length (prefix (bound c fs end)))
  unfolding prefix depth
  value_depth s i t c fs rest (closed, (us, has, inner, none_behind)) shallow there =
      let stands : drop i s ≡ c ∷ (prefix fs ++ rest) = there ∙ ap (λ (x : List ℕ). c ∷ (x ++ rest)) (append-nil (prefix fs)) in
      let read = value_read p.types in_inputs Closed (inputs_lawful p.types) (open_apart file p h) depth_limit s t c us fs i rest has inner closed.0 (omega arith) stands in
      let deep : suc (deepest p.types us fs) ≡ max (suc (depth fs)) 0 = omega (arith, closed_deepest p.types us fs closed.0) in
      let place : i + 1 + length (prefix fs) ≡ i + suc (length (prefix fs ++ [])) = omega (arith, ap length (append-nil (prefix fs))) in
      read ∙ ap (λ (d : ℕ). got (built c fs d) (i + 1 + length (prefix fs))) deep ∙ ap (got (built c fs (max (suc (depth fs)) 0))) place

  end_finds : (s : List ℕ) (i : ℕ) → IfFound (λ u next. drop i s ≡ []) (at_end BadInput s i)
  unfolding at_end
  end_finds s i =
      picked (IfFound (λ u next. drop i s ≡ [])) (ltb i (length s)) (λ more. tt) (λ over. drop_of_length-le s (ltb-false i (length s) over))

  -- what is found is a closed input within the depth, all of the bytes, and its depth
  abbrev IsRead : List ℕ → Parts × ℕ → Type 0
  IsRead s row = WithinDepth p row.0 × (prefix row.0 ≡ s) × (row.1 ≡ depth row.0)

  -- The whole input: a row, and nothing behind it; read below as many constructors as the largest D, or more.
  module _ (levels : ℕ) (enough : depth_limit ≤ levels) where
    abbrev whole : Reader (Parts × ℕ)
    whole = slotted p.types in_inputs levels (source_slots p) >>= λ row. at_end BadInput >> give row

    whole_finds : (s : List ℕ) → IfFound (λ row next. IsRead s row) (whole s 0)
    whole_finds s =
        if_found_then _ _ _ (slotted p.types in_inputs levels (source_slots p) s 0)
        (slotted_finds p.types in_inputs Closed (inputs_lawful p.types) levels s (source_slots p) 0)
        (λ row n found. if_found_then _ _ _ (at_end BadInput s n) (end_finds s n)
        (λ u k over.
        let is = found.0.0 in (
          ((is.allowed, rw (source_types_law p) at is.typed), (keeps_fits p.types (source_slots p) row.0 is.allowed).0 found.0.1),
          sym (found.1.stand ∙ rw over (append-nil (prefix row.0))),
          is.deep ∙ closed_deepest p.types (slot_types (source_slots p)) row.0 is.allowed,
        )))

    whole_there : (s : List ℕ) (j : Parts) → WithinDepth p j → prefix j ≡ s → (next : ℕ) × (whole s 0 ≡ got (j, depth j) next)
    unfolding at_end
    whole_there s j within e =
        let rooms = rooms_below (source_slots p) (accepted_rooms file p h) enough in
        let keeps = (keeps_fits p.types (source_slots p) j within.0.0).1 within.1 in
        let typed : Typed p.types (slot_types (source_slots p)) j = rw (source_types_law p) within.0.1 in
        let there =
        slotted_meets p.types in_inputs Closed (inputs_lawful p.types) (open_apart file p h) levels s (source_slots p) rooms 0 j [] (typed, keeps) within.0.0
        (sym e ∙ sym (append-nil (prefix j))) in
        let over : length s ≤ there.0 = omega (arith, ap length there.2, length-drop there.0 s) in
        let deep = closed_deepest p.types (slot_types (source_slots p)) j within.0.0 in
        (there.0, rw (there.1, le-ltb there.0 (length s) over, deep) refl)

    below_exactly : (bytes : List ℕ) (row : Parts × ℕ) → (input_by levels p.types (source_slots p) bytes ≡ some row) ↔ IsRead bytes row
    unfolding input_by
    below_exactly bytes row = (forth (whole bytes 0) (whole_finds bytes), back)
      where
        forth : (g : Got (Parts × ℕ)) → IfFound (λ row next. IsRead bytes row) g → on_got (λ row next. some row) (λ why. none) g ≡ some row → IsRead bytes row
        forth (got found next) is e = subst (IsRead bytes) (some-injective found row e) is
        forth (refused why) is e = absurd (none-ne-some row e)

        back : IsRead bytes row → on_got (λ row next. some row) (λ why. none) (whole bytes 0) ≡ some row
        back (within, same, deep) = rw ((whole_there bytes row.0 within same).1, ← deep) refl

  -- bytes are read as this input, this deep, exactly if they are its prefix form, it is within the depth, and that is its depth
  pub read_exactly : (bytes : List ℕ) (row : Parts × ℕ) → (read_input p bytes ≡ some row) ↔ IsRead bytes row
  unfolding read_input
  read_exactly bytes row = below_exactly depth_limit (omega arith) bytes row

  -- bytes of closed values of the right types are not read as an input exactly if they do not fit the parameters' depths
  pub unfit_exactly : (bytes : List ℕ) (j : Parts) → ClosedInput p j → prefix j ≡ bytes → (read_input p bytes ≡ none) ↔ ¬ Fits (source_slots p) j
  unfit_exactly bytes j values same = (
    λ unread fits. none-ne-some (j, depth j) (sym unread ∙ (read_exactly bytes (j, depth j)).1 ((values, fits), same, refl)),
    λ unfit. by_read (read_input p bytes) refl unfit,
  )
    where
      by_read : (o : Option (Parts × ℕ)) → read_input p bytes ≡ o → ¬ Fits (source_slots p) j → o ≡ none
      by_read none e unfit = refl
      by_read (some row) e unfit =
          let (within, bytes_are, d) = (read_exactly bytes row).0 e in
          let one = row_one p.types in_inputs Closed (inputs_lawful p.types) (open_apart file p h) (source_types p) row.0 j within.0.1 values.1 within.0.0 values.0 (bytes_are ∙ sym same) in
          absurd (unfit (subst (Fits (source_slots p)) one within.1))

  -- which is so exactly if the deepest of them is deeper than D
  pub too_deep_exactly : (bytes : List ℕ) (j : Parts) → ClosedInput p j → prefix j ≡ bytes → (read_input p bytes ≡ none) ↔ (depth_of p.depths < depth j)
  too_deep_exactly bytes j values same =
      let (unfit, unread) = unfit_exactly bytes j values same in
      (λ none_read. by_depth (leb (depth j) (depth_of p.depths)) refl (unfit none_read), λ deep. unread (λ fits. omega (arith, deep, within.0 fits)))
    where
      within : Fits (source_slots p) j ↔ (depth j ≤ depth_of p.depths)
      within = within_depth file p h j values

      by_depth : (b : Bool) → leb (depth j) (depth_of p.depths) ≡ b → ¬ Fits (source_slots p) j → depth_of p.depths < depth j
      by_depth true shallow unfit = absurd (unfit (within.1 (leb-true (depth j) (depth_of p.depths) shallow)))
      by_depth false deep unfit = leb-false (depth j) (depth_of p.depths) deep

  -- to read below more constructors than the largest D changes nothing
  pub bound_changes_nothing : (levels : ℕ) → depth_limit ≤ levels → (bytes : List ℕ) → input_by levels p.types (source_slots p) bytes ≡ read_input p bytes
  bound_changes_nothing levels enough bytes = by_more (input_by levels p.types (source_slots p) bytes) refl (read_input p bytes) refl
    where
      by_more : (a : Option (Parts × ℕ)) → input_by levels p.types (source_slots p) bytes ≡ a → (b : Option (Parts × ℕ)) → read_input p bytes ≡ b → a ≡ b
      by_more (some row) e b f = sym ((read_exactly bytes row).1 ((below_exactly levels enough bytes row).0 e)) ∙ f
      by_more none e none f = refl
      by_more none e (some row) f = sym e ∙ (below_exactly levels enough bytes row).1 ((read_exactly bytes row).0 f)

  pub input_exactly : (bytes : List ℕ) (j : Parts) → (input_of p bytes ≡ some j) ↔ (WithinDepth p j × (prefix j ≡ bytes))
  unfolding input_of
  input_exactly bytes j = (
    forth (read_input p bytes) refl,
    λ is. ap (map (λ row. row.0)) ((read_exactly bytes (j, depth j)).1 (is.0, is.1, refl)),
  )
    where
      forth : (o : Option (Parts × ℕ)) → read_input p bytes ≡ o → map (λ row. row.0) o ≡ some j → WithinDepth p j × (prefix j ≡ bytes)
      forth none e is = absurd (none-ne-some j is)
      forth (some row) e is =
          let read = (read_exactly bytes row).0 e in
          subst (λ (x : Parts). WithinDepth p x × (prefix x ≡ bytes)) (some-injective row.0 j is) (read.0, read.1)
