-- What stands in the bytes at the place of each part of a closed row: the number of its constructor, its fields from the next byte on, and behind them the
-- next part of its row.
-- Rests on specs/Positions, on readings' ClosedInputs, and on reach's Depths and Partial for how values are read.
use Prim.Native.Nat.{ℕ, zero, suc, ◌+◌, ◌-◌, ◌<◌}
use mathlib.Core.Path.{◌≡◌, refl, sym, ◌∙◌, ap}
use mathlib.Core.List.{List, [], ◌∷◌, ◌++◌, append_assoc, append-nil}
use mathlib.Core.Option.{some}
use native.Mathlib.Omega.{arith}
use lib.ListN.{length, get_or, drop, length-drop}
use lib.Seq.{drop-cons, drop-drop, drop-append_seam}
use Rattle.reach.specs.Limits.{depth_limit}
use Rattle.reach.specs.Syntax.{Types, Program, field_types, source_types}
use Rattle.reach.specs.Parts.{Parts, end, opened, bound, Place, here, after, inside, part, within, has, at, Closed, depth, prefix, There}
use Rattle.reach.specs.Types.{Slot, even_slots, slot_types, field_slots, slot_at, source_slots, Fits}
use Rattle.reach.specs.Reader.{got}
use Rattle.reach.specs.Partial.{Value, in_inputs, OpenApart, value}
use Rattle.reach.specs.Input.{input_of}
use Rattle.reach.specs.Answers.{check, accepted}
use Rattle.readings.proofs.ClosedInputs.{input_exactly}
use Rattle.reach.proofs.Depths.{typed_width, fits_depth}
use Rattle.reach.proofs.Limits.{within_limit}
use Rattle.readings.proofs.Partial.{inputs_lawful, value_read}
use Rattle.reach.proofs.Reading.{byte_there}
use Rattle.reach.proofs.Slots.{even_types, source_types_law}
use Rattle.values.specs.Positions.{ClosedRowStands, byte_of}

-- What stands at place i of the bytes s where a closed value of type t begins: the number c of its constructor, and from the next place on its fields.
pub record ValueStands (types : Types) (t : ℕ) (s : List ℕ) (i c : ℕ) (fs : Parts) : Type 0 where
  pub in_bytes : i < length s
  pub number : get_or s i 0 ≡ c
  pub fields : List ℕ
  pub known : field_types types t c ≡ some fields
  pub inner : ClosedRowStands types fields s (i + 1) fs

-- The part at q of a row with these slots stands in the bytes: a value of its slot's type at its place, with a slot that allows it, and its fields behind.
pub record PartStands (types : Types) (s : List ℕ) (j : Parts) (q : Place) (ss : List Slot) (i : ℕ) : Type 0 where
  pub slot : Slot
  pub slot_there : slot_at types j q ss ≡ some slot
  pub deep : 0 < slot.room
  pub number : ℕ
  pub fields : Parts
  pub stands : ValueStands types slot.type s (byte_of j q i) number fields
  pub seen : at j q ≡ has number (length stands.fields)
  pub field_parts : (r : Place) → byte_of j (within q r) i ≡ byte_of fields r (byte_of j q i + 1)

-- the first byte of a row, and what is behind it
module _ (s : List ℕ) (i : ℕ) {c : ℕ} {rest : List ℕ} (e : drop i s ≡ c ∷ rest) where
  byte_in : i < length s
  byte_in = omega (arith, ap length e, length-drop i s)

  byte_is : get_or s i 0 ≡ c
  byte_is = let first = drop-cons s i 0 byte_in in cc

  drop_next : drop (i + 1) s ≡ rest
  drop_next = let one : i + 1 ≡ suc i = omega arith in rw one (byte_there s i c rest e).1

drop_behind : (s : List ℕ) (i : ℕ) (xs ys : List ℕ) → drop i s ≡ xs ++ ys → drop (i + length xs) s ≡ ys
drop_behind s i xs ys e = sym (drop-drop (length xs) i s) ∙ ap (drop (length xs)) e ∙ drop-append_seam xs ys

module _ {types : Types} {s : List ℕ} where
  -- the first value of a row, and the rest of the row behind it
  module _ {t : ℕ} {ts : List ℕ} {i c : ℕ} {fs r : Parts} (row : ClosedRowStands types (t ∷ ts) s i (bound c fs r)) where
    whole : drop i s ≡ c ∷ (prefix fs ++ (prefix r ++ row.behind))
    unfolding prefix
    whole = row.bytes ∙ ap (λ (x : List ℕ). c ∷ x) (append_assoc (prefix fs) (prefix r) row.behind)

    pub first_stands : ValueStands types t s i c fs
    unfolding depth
    first_stands =
        let (us, known, inner, others) = row.typed in
        let shallow = row.shallow in
        record {
          in_bytes = byte_in s i whole;
          number = byte_is s i whole;
          fields = us;
          known = known;
          inner = record {
            closed = row.closed.0;
            typed = inner;
            shallow = omega arith;
            behind = prefix r ++ row.behind;
            bytes = drop_next s i whole;
          };
        }

    -- it is read up to the place behind its fields
    first_read : OpenApart types → (v : Value) × (value types in_inputs depth_limit t s i ≡ got v (i + 1 + length (prefix fs)))
    unfolding depth
    first_read few =
        let (us, known, inner, others) = row.typed in
        let shallow = row.shallow in
        (_, value_read types in_inputs Closed (inputs_lawful types) few depth_limit s t c us fs i (prefix r ++ row.behind) known inner row.closed.0 (omega arith) whole)

    pub rest_stands : ClosedRowStands types ts s (i + 1 + length (prefix fs)) r
    unfolding depth
    rest_stands =
        let shallow = row.shallow in
        record {
          closed = row.closed.1;
          typed = row.typed.3;
          shallow = omega arith;
          behind = row.behind;
          bytes = drop_behind s (i + 1) (prefix fs) (prefix r ++ row.behind) (drop_next s i whole);
        }

  -- value n of a row is read up to the place of the next one
  pub next_read : OpenApart types → (j : Parts) (n : ℕ) (ts : List ℕ) (i : ℕ) → ClosedRowStands types ts s i j → n < length ts
      → (v : Value) × (value types in_inputs depth_limit (get_or ts n 0) s (byte_of j (part n) i) ≡ got v (byte_of j (part (suc n)) i))
  unfolding byte_of part
  next_read few end n [] i row l = absurd (omega arith)
  next_read few end n (t ∷ ts) i row l = absurd row.typed
  next_read few (opened r) n ts i row l = absurd row.closed
  next_read few (bound c fs r) n [] i row l = absurd row.typed
  next_read few (bound c fs r) zero (t ∷ ts) i row l = first_read row few
  next_read few (bound c fs r) (suc n) (t ∷ ts) i row l = next_read few r n ts (i + 1 + length (prefix fs)) (rest_stands row) (omega arith)

  -- every part of a row that fits its slots stands in the bytes
  pub part_stands : (j : Parts) (q : Place) (ss : List Slot) (i : ℕ) → ClosedRowStands types (slot_types ss) s i j → Fits ss j → There (at j q) → PartStands types s j q ss i
  unfolding at slot_at field_slots slot_types byte_of within
  part_stands end q ss i row fits there = absurd there
  part_stands (opened r) q ss i row fits there = absurd row.closed
  part_stands (bound c fs r) q [] i row fits there = absurd row.typed
  part_stands (bound c fs r) here (x ∷ ss) i row fits there =
      let v = first_stands row in
      record {
        slot = x;
        slot_there = refl;
        deep = omega (arith, fits.0);
        number = c;
        fields = fs;
        stands = v;
        seen = ap (has c) (typed_width types v.fields fs v.inner.typed);
        field_parts = λ p. refl;
      }
  part_stands (bound c fs r) (after q) (x ∷ ss) i row fits there =
      let p = part_stands r q ss (i + 1 + length (prefix fs)) (rest_stands row) fits.1 there in
      record {
        slot = p.slot;
        slot_there = p.slot_there;
        deep = p.deep;
        number = p.number;
        fields = p.fields;
        stands = p.stands;
        seen = p.seen;
        field_parts = p.field_parts;
      }
  part_stands (bound c fs r) (inside q) (x ∷ ss) i row fits there =
      let v = first_stands row in
      let d = x.room - 1 in
      let inner : ClosedRowStands types (slot_types (even_slots v.fields d)) s (i + 1) fs = rw (even_types v.fields d) v.inner in
      let p = part_stands fs q (even_slots v.fields d) (i + 1) inner ((fits_depth types v.fields d fs v.inner.typed).1 (omega (arith, fits.0))) there in
      record {
        slot = p.slot;
        slot_there = rw v.known p.slot_there;
        deep = p.deep;
        number = p.number;
        fields = p.fields;
        stands = p.stands;
        seen = p.seen;
        field_parts = p.field_parts;
      }

-- The closed input of an accepted file's program stands in its bytes from the first one on.
module _ (file : List ℕ) {p : Program} (checked : check file ≡ accepted p) (input : List ℕ) {j : Parts} (reads : input_of p input ≡ some j) where
  pub input_stands : ClosedRowStands p.types (source_types p) input 0 j
  input_stands =
      let (within, same) = (input_exactly file p checked input j).0 reads in
      record {
        closed = within.0.0;
        typed = within.0.1;
        shallow = within_limit file p checked j within;
        behind = [];
        bytes = sym same ∙ sym (append-nil (prefix j));
      }

  -- and so does every part of it, with its slot
  pub input_part_law : (q : Place) → There (at j q) → PartStands p.types input j q (source_slots p) 0
  input_part_law q there =
      part_stands j q (source_slots p) 0 (rw (source_types_law p) input_stands) ((input_exactly file p checked input j).0 reads).0.1 there
