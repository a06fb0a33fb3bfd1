-- A row of the input's parts in the lent words, as the writer of an entry walks it.
-- Rests on machine's Cells, lookups' Fields and reach's Parts.
use Rattle.std.specs.Prelude.{ℕ, suc, ◌+◌, ◌-◌, ◌≤◌, ◌≡◌, List, length}
use Rattle.std.proofs.Math.Option.{some}
use Rattle.std.proofs.lemmas.List.Edits.{sets}
use Rattle.reach.specs.Parts.{Parts, end, opened, bound, prefix}
use Rattle.lookups.specs.Fields.{fields_in}
use Rattle.machine.specs.Cells.{cell_word}

-- the k cells from cell b on stand for the row: the head of each is 0 for an open part and 1 more than the constructor's number for a bound one,
-- whose fields are as many cells, from that of its first field on, as its type says
unfoldable pub RowAt : (file types w : List ℕ) → Parts → ℕ → ℕ → Type 0
RowAt file types w end b k = k ≡ 0
RowAt file types w (opened r) b k = (1 ≤ k) × (b ≤ 1000000) × (cell_word w b 0 ≡ 0) × RowAt file types w r (b + 1) (k - 1)
RowAt file types w (bound c fs r) b k =
    (1 ≤ k) × (b ≤ 1000000) × (cell_word w b 0 ≡ suc c) × (c ≤ 255)
    × ((us : List ℕ) × (fields_in file types (cell_word w b 2) c ≡ some us) × RowAt file types w fs (cell_word w b 1) (length us))
    × RowAt file types w r (b + 1) (k - 1)

-- the k cells from cell b on stand for some row, which in prefix form is no longer than the fuel, and fits into the room from the place on
pub record RowFits (file types w : List ℕ) (b k fuel place room : ℕ) : Type 0 where
  pub row : Parts
  pub there : RowAt file types w row b k
  pub enough : length (prefix row) ≤ fuel
  pub fits : place + length (prefix row) ≤ room

-- Of every row that the cells stand for: its prefix form was stored from the place on, and nothing else; r is the place behind it.
pub record WroteRow (file types w : List ℕ) (b k place : ℕ) (l l' : List ℕ) (r : ℕ) : Type 0 where
  pub stored : (row : Parts) → RowAt file types w row b k → (r ≡ place + length (prefix row)) × (l' ≡ sets l place (prefix row))
