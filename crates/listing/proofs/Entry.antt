-- From the words that stand for the input to the row of its parameters, and what was written for it.
-- Rests on headers' Bytes, on specs/Entry and specs/Rows, on machine's Cells, on reach's Slots and on the lookups' Tables.
use Prim.Native.Nat.{ℕ, suc, ◌+◌, ◌-◌, ◌≤◌, ◌<◌}
use mathlib.Core.Path.{◌≡◌, refl, sym, ◌∙◌}
use mathlib.Core.List.{List, [], ◌∷◌, map}
use mathlib.Core.Option.{some, none-ne-some}
use Rattle.std.specs.Prelude.{Some}
use native.Mathlib.Decide.{dec_lt}
use native.Mathlib.Omega.{arith}
use lib.ListN.{length, get_or}
use lib.Seq.{sets}
use Rattle.reach.specs.declared.Kind.{Kind}
use Rattle.reach.specs.Syntax.{Types}
use Rattle.reach.specs.Parts.{Parts, end, opened, bound, Place, here, after, inside, free, has, at, prefix, There}
use Rattle.reach.specs.Places.{type_at}
use Rattle.reach.specs.Types.{Slot, Typed, slot_types, field_slots, slot_at}
use Rattle.reach.proofs.Slots.{types_length, field_types_law}
use Rattle.lookups.specs.Fields.{fields_in}
use Rattle.lookups.proofs.Tables.{fields_found, fields_missing, constructor_missing}
use Rattle.machine.specs.Cells.{cell_word, cell_from}
use Rattle.listing.specs.Rows.{RowAt, RowFits, WroteRow}
use Rattle.listing.specs.Entry.{InputIn, Listable, entry_for, WroteEntry}
use Rattle.headers.proofs.Bytes.{header, entry_stored}

module _ (file types : List ℕ) (bytes : (i : ℕ) → get_or file i 0 ≤ 255) where
  -- a constructor's number is a byte
  number_small : (t c : ℕ) (us : List ℕ) → fields_in file types t c ≡ some us → c ≤ 255
  unfolding type_at
  number_small t c us is = by_type (dec_lt t (length types))
    where
      place : ℕ
      place = get_or types t 0

      by_number : t < length types → Dec (c < get_or file place 0) → c ≤ 255
      by_number known (yes less) = omega (arith, bytes place)
      by_number known (no more) =
          let many : get_or file place 0 ≤ c = omega (arith, more) in
          absurd (none-ne-some us (sym (constructor_missing file (place + 1) (get_or file place 0) c many) ∙ sym (fields_found file types t c known) ∙ is))

      by_type : Dec (t < length types) → c ≤ 255
      by_type (yes known) = by_number known (dec_lt c (get_or file place 0))
      by_type (no unknown) =
          let many : length types ≤ t = omega (arith, unknown) in
          absurd (none-ne-some us (sym (fields_missing file types t c many) ∙ is))

  -- What the words say of a row with these slots whose first cell is b: in use, the heads, the types.
  record Says (w : List ℕ) (top : ℕ) (ss : List Slot) (b : ℕ) (row : Parts) : Type 0 where
    in_use : (q : Place) → There (at row q) → cell_from w b q < top
    head_free : (q : Place) → at row q ≡ free → cell_word w (cell_from w b q) 0 ≡ 0
    head_bound : (q : Place) (c k : ℕ) → at row q ≡ has c k → cell_word w (cell_from w b q) 0 ≡ suc c
    type_is : (q : Place) (s : Slot) → There (at row q) → slot_at (map (type_at file) types) row q ss ≡ some s → cell_word w (cell_from w b q) 2 ≡ s.type

  -- they say so of the rest of the row, behind an open part or a bound one, and of the fields of a bound part
  open_rest : {w : List ℕ} {ss : List Slot} {s : Slot} {top b : ℕ} {r : Parts} → Says w top (s ∷ ss) b (opened r) → Says w top ss (b + 1) r
  unfolding at cell_from slot_at
  open_rest says = record {
    in_use = λ q. says.in_use (after q);
    head_free = λ q. says.head_free (after q);
    head_bound = λ q. says.head_bound (after q);
    type_is = λ q. says.type_is (after q);
  }

  bound_rest : {w : List ℕ} {ss : List Slot} {s : Slot} {top b c : ℕ} {fs r : Parts} → Says w top (s ∷ ss) b (bound c fs r) → Says w top ss (b + 1) r
  unfolding at cell_from slot_at
  bound_rest says = record {
    in_use = λ q. says.in_use (after q);
    head_free = λ q. says.head_free (after q);
    head_bound = λ q. says.head_bound (after q);
    type_is = λ q. says.type_is (after q);
  }

  bound_fields :
      {w : List ℕ} {ss : List Slot} {s : Slot} {top b c : ℕ} {fs r : Parts} → Says w top (s ∷ ss) b (bound c fs r)
      → Says w top (field_slots (map (type_at file) types) (some s) c) (cell_word w b 1) fs
  unfolding at cell_from slot_at
  bound_fields says = record {
    in_use = λ q. says.in_use (inside q);
    head_free = λ q. says.head_free (inside q);
    head_bound = λ q. says.head_bound (inside q);
    type_is = λ q. says.type_is (inside q);
  }

  module _ (w : List ℕ) (top : ℕ) (few : top ≤ 1000000) where
    -- so the cells stand for the row
    row_said :
        (row : Parts) (ss : List Slot) (b : ℕ) → Typed (map (type_at file) types) (slot_types ss) row → Says w top ss b row
        → RowAt file types w row b (length (slot_types ss))
    unfolding RowAt at cell_from slot_at slot_types
    row_said end [] b typed says = refl
    row_said end (s ∷ ss) b typed says = absurd typed
    row_said (opened r) [] b typed says = absurd typed
    row_said (opened r) (s ∷ ss) b typed says =
        let z : suc (length (slot_types ss)) - 1 ≡ length (slot_types ss) = omega arith in
        (omega arith, omega (arith, says.in_use here tt), says.head_free here refl, rw z (row_said r ss (b + 1) typed (open_rest says)))
    row_said (bound c fs r) [] b typed says = absurd typed
    row_said (bound c fs r) (s ∷ ss) b (vs, are, inner, outer) says =
        let z : suc (length (slot_types ss)) - 1 ≡ length (slot_types ss) = omega arith in
        let type : cell_word w b 2 ≡ s.type = says.type_is here s tt refl in
        let fields = field_types_law (map (type_at file) types) s c vs are in
        let below = row_said fs (field_slots (map (type_at file) types) (some s) c) (cell_word w b 1) (rw fields inner) (bound_fields says) in (
          omega arith,
          omega (arith, says.in_use here tt),
          says.head_bound here c _ refl,
          number_small s.type c vs are,
          (vs, rw type are, rw (← fields) below),
          rw z (row_said r ss (b + 1) outer (bound_rest says)),
        )

    -- the cells from cell 0 on stand for the row of the parameters
    module _ {parameters : ℕ} where
      input_row : {ts : Types} {ss : List Slot} {e : Parts} → InputIn file types w parameters top ts ss e → RowAt file types w e 0 parameters
      input_row {ss = ss} {e} input =
          let typed = rw input.types_there at input.typed in
          let cells = rw input.types_there at input.stands in
          rw (← input.counted, ← types_length ss) (row_said e ss 0 typed (record {
            in_use = cells.in_use;
            head_free = cells.head_free;
            head_bound = cells.head_bound;
            type_is = λ q s there is. (cells.slot q s there is).0;
          }))

      -- which fits where the entry does
      pub entry_fits : (place : ℕ) {room : ℕ} → Listable file types w parameters top → place + 6 + top ≤ room → RowFits file types w 0 parameters top (place + 6) room
      entry_fits place ((ts, ss, e, input), _) fits = record {
        row = e;
        there = input_row input;
        enough = omega (arith, input.stands.counted);
        fits = omega (arith, input.stands.counted);
      }

      -- a header and the row behind it are the entry
      pub entry_written :
          {n : ℕ} {m l' : List ℕ} (kind : Kind) (steps place : ℕ) (l : List ℕ) → place + 6 + top ≤ length l → m ≡ sets l place (header kind steps top)
          → WroteRow file types w 0 parameters (place + 6) m l' n
          → WroteEntry file types w parameters top kind steps place l l' (Some n)
      entry_written {n} {m} {l'} kind steps place l fits headed wrote ts ss e input =
          let row = wrote.stored e (input_row input) in
          let count : length (prefix e) ≡ top = input.stands.counted in
          let behind : n ≡ place + 6 + length (prefix e) = row.0 in
          let whole : l' ≡ sets (sets l place (header kind steps (length (prefix e)))) (place + 6) (prefix e) = row.1 ∙ rw (headed, count) in
          (omega arith, omega arith, whole ∙ entry_stored (entry_for kind steps e) place n l behind (omega arith))
