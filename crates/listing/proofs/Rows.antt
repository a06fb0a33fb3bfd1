-- The walk over a row of cells: what an open part and a bound part leave to write, and that what was written of the parts is the whole row.
-- Rests on headers' Bytes, specs/Rows and lookups' Fields.
use Prim.Native.Nat.{ℕ, ◌+◌, ◌-◌, ◌≤◌, ◌<◌}
use mathlib.Core.Path.{◌≡◌, refl, sym, ◌∙◌, ap}
use mathlib.Core.List.{List, [], ◌∷◌, ◌++◌}
use mathlib.Core.Logic.{◌≢◌}
use native.Mathlib.Omega.{arith}
use lib.ListN.{length, set, length-append}
use lib.Seq.{sets}
use Rattle.reach.specs.Parts.{Parts, end, opened, bound, prefix}
use Rattle.machine.specs.Cells.{cell_word}
use Rattle.lookups.specs.Fields.{FieldCount}
use Rattle.listing.specs.Rows.{RowAt, RowFits, WroteRow}
use Rattle.headers.proofs.Bytes.{stored_behind, stored_one}

-- A row that begins with an open part, and what is behind it.
record OpenRow (file types w : List ℕ) (b k : ℕ) (row : Parts) : Type 0 where
  rest : Parts
  behind : RowAt file types w rest (b + 1) (k - 1)
  is : prefix row ≡ 0xff ∷ prefix rest

-- A row that begins with a bound part: the row of its n fields, from cell `first` on, and what is behind it.
record BoundRow (file types w : List ℕ) (b k c first n : ℕ) (row : Parts) : Type 0 where
  fields : Parts
  rest : Parts
  inside : RowAt file types w fields first n
  behind : RowAt file types w rest (b + 1) (k - 1)
  is : prefix row ≡ c ∷ (prefix fields ++ prefix rest)
  small : c ≤ 255

module _ (file types w : List ℕ) (b k : ℕ) where
  -- a row of no parts
  no_row : (row : Parts) → RowAt file types w row b k → k ≡ 0 → prefix row ≡ []
  unfolding RowAt prefix
  no_row end there none = refl
  no_row (opened r) there none = absurd (omega (arith, there.0))
  no_row (bound c fs r) there none = absurd (omega (arith, there.0))

  -- a row of some parts
  some_row : (row : Parts) → RowAt file types w row b k → k ≢ 0 → (1 ≤ length (prefix row)) × (b ≤ 1000000)
  unfolding RowAt prefix
  some_row end there some = absurd (some there)
  some_row (opened r) there some = (omega arith, there.1)
  some_row (bound c fs r) there some = (omega arith, there.1)

  module _ {head : ℕ} (some : k ≢ 0) (read : head ≡ cell_word w b 0) where
    open_row : head ≡ 0 → (row : Parts) → RowAt file types w row b k → OpenRow file types w b k row
    unfolding RowAt prefix
    open_row none end there = absurd (some there)
    open_row none (opened r) there = record { rest = r; behind = there.3; is = refl }
    open_row none (bound c fs r) there = absurd (omega (arith, there.2))

    bound_row :
        {first t n : ℕ} → head ≢ 0 → first ≡ cell_word w b 1 → t ≡ cell_word w b 2 → FieldCount file types t (head - 1) n → (row : Parts)
        → RowAt file types w row b k → BoundRow file types w b k (head - 1) first n row
    unfolding RowAt prefix
    bound_row bind at_first of_type count end there = absurd (some there)
    bound_row bind at_first of_type count (opened r) there = absurd (bind (read ∙ there.2))
    bound_row bind at_first of_type count (bound c fs r) there =
        let same : head - 1 ≡ c = omega (arith, there.2) in
        let number = rw (of_type, same) at count.0 in
        let us = there.4 in
        record {
          fields = fs;
          rest = r;
          inside = rw (at_first, number us.0 us.1) us.2;
          behind = there.5;
          is = rw same;
          small = omega (arith, there.3);
        }

module _ {file types w : List ℕ} {b k fuel place room : ℕ} (fit : RowFits file types w b k fuel place room) where
  -- where there is a part there is room for it
  pub part_fits : k ≢ 0 → (1 ≤ fuel) × (place < room) × (b ≤ 1000000)
  part_fits some =
      let h = some_row file types w b k fit.row fit.there some in
      (omega (arith, fit.enough, h.0), omega (arith, fit.fits, h.0), h.1)

  module _ {head : ℕ} (some : k ≢ 0) (read : head ≡ cell_word w b 0) where
    -- behind an open part
    pub open_fits : {room' : ℕ} → head ≡ 0 → room' ≡ room → RowFits file types w (b + 1) (k - 1) (fuel - 1) (place + 1) room'
    open_fits none same =
        let o = open_row file types w b k some read none fit.row fit.there in
        let l = ap length o.is in
        record { row = o.rest; there = o.behind; enough = omega (arith, l, fit.enough); fits = omega (arith, l, fit.fits) }

    module _
        {first t n : ℕ} (bind : head ≢ 0) (at_first : first ≡ cell_word w b 1) (of_type : t ≡ cell_word w b 2)
        (count : FieldCount file types t (head - 1) n)
      where
        parts : BoundRow file types w b k (head - 1) first n fit.row
        parts = bound_row file types w b k some read bind at_first of_type count fit.row fit.there

        parts_length : length (prefix fit.row) ≡ 1 + length (prefix parts.fields) + length (prefix parts.rest)
        parts_length = ap length parts.is ∙ omega (arith, length-append (prefix parts.fields) (prefix parts.rest))

        -- the constructor's number is a byte
        pub number_small : head - 1 ≤ 255
        number_small = parts.small

        -- the fields of a bound part
        pub fields_fit : {room' : ℕ} → room' ≡ room → RowFits file types w first n (fuel - 1) (place + 1) room'
        fields_fit same = record {
          row = parts.fields;
          there = parts.inside;
          enough = omega (arith, parts_length, fit.enough);
          fits = omega (arith, parts_length, fit.fits);
        }

        -- what is behind it
        pub rest_fits :
            {next room' : ℕ} {l l' : List ℕ} → WroteRow file types w first n (place + 1) l l' next → room' ≡ room
            → RowFits file types w (b + 1) (k - 1) (fuel - 1) next room'
        rest_fits done same = record {
          row = parts.rest;
          there = parts.behind;
          enough = omega (arith, parts_length, fit.enough);
          fits = omega (arith, parts_length, fit.fits, (done.stored parts.fields parts.inside).0);
        }

-- What was written.
module _ {file types w : List ℕ} {b k place : ℕ} where
  pub wrote_none : {l : List ℕ} → k ≡ 0 → WroteRow file types w b k place l l place
  wrote_none none = record { stored = λ row there. rw (no_row file types w b k row there none) (omega arith, refl) }

  module _ {head r : ℕ} {l l' : List ℕ} (some : k ≢ 0) (read : head ≡ cell_word w b 0) where
    pub wrote_open :
        head ≡ 0 → WroteRow file types w (b + 1) (k - 1) (place + 1) (set l place 0xff) l' r → WroteRow file types w b k place l l' r
    wrote_open none done = record { stored = whole }
      where
        whole : (row : Parts) → RowAt file types w row b k → (r ≡ place + length (prefix row)) × (l' ≡ sets l place (prefix row))
        whole row there =
            let o = open_row file types w b k some read none row there in
            let d = done.stored o.rest o.behind in
            (omega (arith, d.0, ap length o.is), d.1 ∙ stored_one 0xff (prefix o.rest) l place ∙ ap (sets l place) (sym o.is))

    pub wrote_bound :
        {first t n next : ℕ} {m : List ℕ} → head ≢ 0 → first ≡ cell_word w b 1 → t ≡ cell_word w b 2 → FieldCount file types t (head - 1) n
        → WroteRow file types w first n (place + 1) (set l place (head - 1)) m next
        → WroteRow file types w (b + 1) (k - 1) next m l' r → WroteRow file types w b k place l l' r
    wrote_bound bind at_first of_type count fields rest = record { stored = whole }
      where
        whole : (row : Parts) → RowAt file types w row b k → (r ≡ place + length (prefix row)) × (l' ≡ sets l place (prefix row))
        whole row there =
            let o = bound_row file types w b k some read bind at_first of_type count row there in
            let f = fields.stored o.fields o.inside in
            let d = rest.stored o.rest o.behind in
            let long = length-append (prefix o.fields) (prefix o.rest) in (
              omega (arith, d.0, f.0, ap length o.is, long),
              d.1 ∙ stored_behind (prefix o.fields) (prefix o.rest) (set l place (head - 1)) (place + 1) f.1 f.0 ∙ stored_one (head - 1) (prefix o.fields ++ prefix o.rest) l place ∙ ap (sets l place) (sym o.is),
            )
