-- One parameter of an entry after the other: what the loop of put_entry knows, and why it stays so.
-- Rests on Rows and Lengths, on rows' Values and on writing's Writing.
use Prim.Native.Nat.{ℕ, ◌+◌, ◌*◌, ◌-◌, ◌≤◌, ◌<◌}
use mathlib.Core.Path.{◌≡◌, refl, sym, ap, subst, ◌∙◌}
use mathlib.Core.Bool.{Bool, true, false}
use mathlib.Core.List.{List, [], ◌∷◌, ◌++◌, flat_map}
use native.Mathlib.Omega.{arith}
use lib.ListN.{length, get_or, drop, length-append, length-drop}
use lib.Dec.{eqb}
use borrow.Author.Tests.{eqb-true}
use Rattle.reach.specs.Base.{pick}
use Rattle.reach.specs.Limits.{depth_limit}
use Rattle.reach.specs.Syntax.{Types}
use Rattle.reach.specs.Parts.{Parts, opened, bound, prefix}
use Rattle.reach.specs.Types.{slots, even_slots, Typed, least_depths}
use Rattle.reach.specs.Partial.{Keeps, deepest, deep_of, value}
use Rattle.lists.specs.Handed.{in_entries}
use Rattle.reach.specs.Places.{bytes_at}
use Rattle.lookups.proofs.Tables.{bytes_more}
use Rattle.readings.proofs.Partial.{one_read}
use Rattle.lists.proofs.EntryValues.{entries_lawful, value_same}
use Rattle.names.specs.NameList.{name_line, name_lines, names_in}
use Rattle.names.specs.Filling.{fill, fill_named}
use Rattle.names.specs.Spelling.{spelled}
use Rattle.naming.specs.Letters.{letters, Spelt}
use Rattle.rows.specs.declared.Measured.{Measured}
use Rattle.std.specs.Prelude as Std
use Rattle.rows.specs.Values.{measured, of_value, manner_of}
use Rattle.writing.specs.declared.Page.{Page}
use Rattle.writing.specs.Writing.{Puts}
use Rattle.writing.proofs.Writing.{Left, left_whole, left_next, left_none}
use Rattle.namelines.specs.Rows.{row_names, RowStands, row_read, Legible}
use Rattle.namelines.proofs.Rows.{first_of_row, others_of, names_split, one_behind, first_stands, others_stand, first_letters, row_read_law}
use Rattle.namelines.proofs.Lengths.{names_short}

-- What is left of a row: it stands from this place on, and its names are still to be written.
pub record Onward (types : Types) (named : ℕ) (list : List ℕ) (before : Page) (whole ts : List ℕ) (page : Page) (place : ℕ) : Type 0 where
  pub row : Parts
  pub stands : RowStands types ts list place row
  pub left : Left before whole page (row_names types named ts row)

module _ (types : Types) (table : Std.Option (List ℕ)) (named : ℕ) (legible : Legible types table named) (list : List ℕ) where
  -- nothing is written yet
  pub onward_whole : (page : Page) (at : ℕ) (ts : List ℕ) (row : Parts) → RowStands types ts list at row
      → Onward types named list page (row_names types named ts (row_read types ts list at)) ts page at
  onward_whole page at ts row stands = record {
    row = row;
    stands = stands;
    left = subst (λ (r : Parts). Left page (row_names types named ts r) page (row_names types named ts row))
        (sym (row_read_law types table named legible ts list at row stands)) (left_whole page (row_names types named ts row));
  }

  -- the first value may be so deep
  first_deep : (t : ℕ) (row : Parts) → Typed types (t ∷ []) (first_of_row row) → Keeps types (even_slots (t ∷ []) depth_limit) (first_of_row row)
      → deepest types (t ∷ []) (first_of_row row) ≤ depth_limit
  unfolding even_slots slots
  first_deep t Parts.end h keeps = absurd h
  first_deep t (opened r) h keeps = keeps.0
  first_deep t (bound c fs r) h keeps = keeps.0

  -- where the place behind the first value is
  pub next_place : (t : ℕ) (ts : List ℕ) (at : ℕ) (row : Parts) (stands : RowStands types (t ∷ ts) list at row) {r : Std.Option Measured}
      → r ≡ of_value (value types (manner_of table) depth_limit t list at)
      → (next deep : ℕ) × (r ≡ measured next deep) × (drop next list ≡ prefix (others_of row) ++ stands.behind)
  next_place t ts at row stands {r} told =
      let first = first_stands types named list at t ts row stands in
      let (v, (next, is, there)) = one_read types (in_entries (least_depths types)) (λ e. Unit {0}) (entries_lawful types) legible.apart depth_limit list t at (first_of_row row)
      first.behind first.typed tt (first_deep t row first.typed first.keeps) first.bytes in
      let lent = ap (λ (m : Std.Option (List ℕ)). of_value (value types (manner_of m) depth_limit t list at)) legible.some_table in
      let same = value_same types legible.lent (least_depths types) legible.least depth_limit list t at in
      (next, deep_of v, told ∙ lent ∙ rw (same, is) refl, there ∙ one_behind types named list at t ts row stands)

  -- a row that is not empty stands inside the list
  inside : (t : ℕ) (ts : List ℕ) (place : ℕ) (row : Parts) → RowStands types (t ∷ ts) list place row → place < length list
  unfolding prefix
  inside t ts place Parts.end stands = absurd stands.typed
  inside t ts place (opened r) stands = omega (arith, ap length stands.bytes, length-drop place list)
  inside t ts place (bound c fs r) stands = omega (arith, ap length stands.bytes, length-drop place list)

  -- the line of a value as its letters stand
  line_same : (t : ℕ) (ts : List ℕ) (place : ℕ) (row : Parts) → RowStands types (t ∷ ts) list place row
      → pick (eqb t named) (name_line (letters (drop place list))) [] ≡ pick (eqb t named) (name_line (spelled (fill types (least_depths types) depth_limit (named ∷ []) (first_of_row row)))) []
  line_same t ts place row stands = by_name (eqb t named) refl
    where
      by_name : (b : Bool) → eqb t named ≡ b
          → pick b (name_line (letters (drop place list))) [] ≡ pick b (name_line (spelled (fill types (least_depths types) depth_limit (named ∷ []) (first_of_row row)))) []
      by_name true is = ap name_line (first_letters types named list place t ts row stands legible.spells (eqb-true t named is)).0
      by_name false is = refl

  module _ {before : Page} {whole : List ℕ} {t : ℕ} {ts : List ℕ} {page : Page} {place : ℕ} (onward : Onward types named list before whole (t ∷ ts) page place) where
    -- the place is inside the list
    pub place_inside : place < length list
    place_inside = inside t ts place onward.row onward.stands

    -- a name there is one of bytes
    pub spelt_there : t ≡ named → Spelt list place
    spelt_there same = (first_letters types named list place t ts onward.row onward.stands legible.spells same).1

    -- the line of the first value is written
    pub onward_next : {page' : Page} {next : ℕ} → Puts page (pick (eqb t named) (name_line (letters (drop place list))) []) page'
        → drop next list ≡ prefix (others_of onward.row) ++ onward.stands.behind → Onward types named list before whole ts page' next
    onward_next {page'} {next} wrote there =
        let row = onward.row in
        let stands = onward.stands in
        let split = names_split types named t ts row stands.typed stands.fillable in
        let line = line_same t ts place row stands in
        record {
          row = others_of row;
          stands = others_stand types named list place t ts row stands next there;
          left = left_next {a = pick (eqb t named) (name_line (letters (drop place list))) []}
              (subst (λ (x : List ℕ). Left before whole page (x ++ row_names types named ts (others_of row))) (sym line) (rw split at onward.left)) wrote;
        }

  -- all of it is written
  pub onward_done : {before page : Page} {whole : List ℕ} {place : ℕ} → Onward types named list before whole [] page place → Puts before whole page
  unfolding name_lines names_in fill_named flat_map
  onward_done {before} {page} {whole} {place} onward = by_row onward.row onward.stands.typed onward.left
    where
      by_row : (row : Parts) → Typed types [] row → Left before whole page (row_names types named [] row) → Puts before whole page
      by_row Parts.end h left = left_none left
      by_row (opened r) h left = absurd h
      by_row (bound c fs r) h left = absurd h

  -- how far the text may go
  pub onward_end : {before page : Page} {whole ts : List ℕ} {place : ℕ} → Onward types named list before whole ts page place → page.at ≤ before.at + length whole
  onward_end onward = omega (arith, onward.left.place)

  -- the lines of a row that stands in the list are short
  pub row_length : (ts : List ℕ) (at : ℕ) (row : Parts) → RowStands types ts list at row → length (row_names types named ts (row_read types ts list at)) ≤ 4 * length list
  row_length ts at row stands =
      rw (row_read_law types table named legible ts list at row stands)
      (omega (
        arith,
        names_short types named legible.spells row ts stands.typed stands.fillable stands.keeps,
        ap length stands.bytes,
        length-append (prefix row) stands.behind,
        length-drop at list,
      ))

-- the next of the types that are left
pub turned : {types : Types} {named : ℕ} {list : List ℕ} {before page : Page} {whole : List ℕ} {place : ℕ} (file : List ℕ) (field more : ℕ) → 0 < more
    → Onward types named list before whole (bytes_at file field more) page place
    → Onward types named list before whole (get_or file field 0 ∷ bytes_at file (field + 1) (more - 1)) page place
turned {types} {named} {list} {before} {page} {whole} {place} file field more h onward =
    subst (λ (ts : List ℕ). Onward types named list before whole ts page place) (bytes_more file field more h) onward
