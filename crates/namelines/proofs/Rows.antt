-- A row of an entry, value by value: the lines of its names are that of its first value, if it has the named type, and those of the rest; and the rest stands
-- behind the first value.
-- Rests on Rows of specs/, on Letters, on names' Filling and Names, and on readings' Partial, lists' EntryValues and reach's Slots.
use Rattle.std.specs.Prelude as Std
use Prim.Native.Nat.{ℕ, ◌≤◌, ◌<◌}
use mathlib.Core.Path.{◌≡◌, refl, sym, ap, subst, ◌∙◌}
use mathlib.Core.Bool.{Bool, true, false}
use mathlib.Core.List.{List, [], ◌∷◌, ◌++◌, flat_map, append_assoc, append-nil}
use mathlib.Core.Option.{some-injective}
use native.Mathlib.Nat.{le_refl}
use lib.ListN.{get_or, drop}
use lib.Dec.{eqb}
use borrow.Author.Tests.{eqb-true, eq-eqb}
use Rattle.reach.specs.Base.{pick, Each}
use Rattle.reach.specs.Limits.{depth_limit}
use Rattle.reach.specs.Syntax.{Types}
use Rattle.reach.specs.Parts.{Parts, end, opened, bound, prefix}
use Rattle.reach.specs.Types.{slots, even_slots, Typed, least_depths}
use Rattle.reach.specs.Names.{Spells}
use Rattle.reach.specs.Partial.{deepest, Keeps}
use Rattle.lists.specs.Handed.{in_entries}
use Rattle.readings.proofs.Partial.{slotted_meets}
use Rattle.lists.proofs.EntryValues.{entries_lawful}
use Rattle.reach.proofs.Slots.{even_each, even_types}
use Rattle.names.specs.Filling.{Fillable, built_by, fill, is_named, fill_named}
use Rattle.names.specs.Spelling.{spelled}
use Rattle.names.specs.NameList.{name_line, names_in, name_lines}
use Rattle.names.proofs.Filling.{has_first, fill_filled}
use Rattle.names.proofs.Names.{no_parts, name_only}
use Rattle.naming.specs.Letters.{letters, Spelt}
use Rattle.namelines.specs.Rows.{row_names, RowStands, row_read, Legible}
use Rattle.namelines.proofs.Letters.{name_letters}

-- the first value of a row, alone, and the others
abbrev pub first_of_row : Parts → Parts
first_of_row end = end
first_of_row (opened r) = opened end
first_of_row (bound c fs r) = bound c fs end

abbrev pub others_of : Parts → Parts
others_of end = end
others_of (opened r) = r
others_of (bound c fs r) = r

module _ (types : Types) (named : ℕ) where
  abbrev table : List ℕ
  table = least_depths types

  -- the line of a value of the named type
  abbrev line_of : Parts → List ℕ
  line_of v = name_line (spelled (fill types table depth_limit (named ∷ []) v))

  -- the lines of a row, by its first value
  abbrev pub split_names : ℕ → List ℕ → Parts → List ℕ
  split_names t ts row = pick (eqb t named) (line_of (first_of_row row)) [] ++ row_names types named ts (others_of row)

  split_named : (ts : List ℕ) (row : Parts) → Typed types (named ∷ ts) row → Fillable types (named ∷ ts) row
      → row_names types named (named ∷ ts) row ≡ line_of (first_of_row row) ++ row_names types named ts (others_of row)
  unfolding name_lines names_in fill_named fill built_by is_named flat_map
  split_named ts end h k = absurd h
  split_named ts (opened r) h ((u, e, same, least), k) =
      let here : named ≡ u = some-injective named u same in
      let (c, us, first, has, will) = has_first types named e (ap (λ (x : ℕ). get_or table x 0) here ∙ least) in
      rw (eq-eqb named named refl, first, eq-eqb named named refl) refl
  split_named ts (bound c fs r) h k = rw (eq-eqb named named refl) refl

  split_other : (t : ℕ) (ts : List ℕ) (row : Parts) → Typed types (t ∷ ts) row → eqb t named ≡ false
      → row_names types named (t ∷ ts) row ≡ row_names types named ts (others_of row)
  unfolding name_lines names_in fill_named is_named
  split_other t ts end h differs = absurd h
  split_other t ts (opened r) h differs = rw (differs, differs) refl
  split_other t ts (bound c fs r) h differs = rw differs refl

  pub names_split : (t : ℕ) (ts : List ℕ) (row : Parts) → Typed types (t ∷ ts) row → Fillable types (t ∷ ts) row
      → row_names types named (t ∷ ts) row ≡ split_names t ts row
  names_split t ts row h k = by_name (eqb t named) refl
    where
      by_name : (b : Bool) → eqb t named ≡ b
          → row_names types named (t ∷ ts) row ≡ pick b (line_of (first_of_row row)) [] ++ row_names types named ts (others_of row)
      by_name true is =
          let same = eqb-true t named is in
          subst (λ (u : ℕ). row_names types named (u ∷ ts) row ≡ line_of (first_of_row row) ++ row_names types named ts (others_of row)) (sym same)
          (split_named ts row (subst (λ (u : ℕ). Typed types (u ∷ ts) row) same h) (subst (λ (u : ℕ). Fillable types (u ∷ ts) row) same k))
      by_name false is = split_other t ts row h is

  pub one : (list : List ℕ) (at t : ℕ) (ts : List ℕ) (row : Parts) → RowStands types (t ∷ ts) list at row → RowStands types (t ∷ []) list at (first_of_row row)
  unfolding even_slots slots prefix
  one list at t ts end stands = absurd stands.typed
  one list at t ts (opened r) stands = record {
    typed = tt;
    keeps = (stands.keeps.0, tt);
    fillable = (stands.fillable.0, tt);
    behind = prefix r ++ stands.behind;
    bytes = stands.bytes;
  }
  one list at t ts (bound c fs r) stands =
      let (us, has, inner, others) = stands.typed in
      record {
        typed = (us, has, inner, tt);
        keeps = (stands.keeps.0, tt);
        fillable = (stands.fillable.0, tt);
        behind = prefix r ++ stands.behind;
        bytes = stands.bytes ∙ ap (λ (x : List ℕ). c ∷ x) (append_assoc (prefix fs) (prefix r) stands.behind ∙ ap (λ (x : List ℕ). x ++ (prefix r ++ stands.behind)) (sym (append-nil (prefix fs))));
      }

  rest_of : (list : List ℕ) (at t : ℕ) (ts : List ℕ) (row : Parts) (stands : RowStands types (t ∷ ts) list at row) (next : ℕ)
      → drop next list ≡ prefix (others_of row) ++ stands.behind → RowStands types ts list next (others_of row)
  unfolding even_slots slots
  rest_of list at t ts end stands next there = absurd stands.typed
  rest_of list at t ts (opened r) stands next there = record {
    typed = stands.typed;
    keeps = stands.keeps.1;
    fillable = stands.fillable.1;
    behind = stands.behind;
    bytes = there;
  }
  rest_of list at t ts (bound c fs r) stands next there =
      let (us, has, inner, others) = stands.typed in
      record {
        typed = others;
        keeps = stands.keeps.1;
        fillable = stands.fillable.1;
        behind = stands.behind;
        bytes = there;
      }

  -- what one value may be deep
  one_deep : Spells types named → (v : Parts) → Typed types (named ∷ []) v → Keeps types (even_slots (named ∷ []) depth_limit) v → deepest types (named ∷ []) v ≤ depth_limit
  unfolding even_slots slots
  one_deep spells end h keeps = absurd h
  one_deep spells (opened r) h keeps = rw (no_parts types named spells r h) keeps.0
  one_deep spells (bound c fs r) (us, has, inner, others) keeps = rw (no_parts types named spells r others) keeps.0

  -- a filled name spells bytes
  pub filled_bytes : Spells types named → (v : Parts) → Typed types (named ∷ []) v → Fillable types (named ∷ []) v → Keeps types (even_slots (named ∷ []) depth_limit) v
      → Each (λ (b : ℕ). b < 256) (spelled (fill types table depth_limit (named ∷ []) v))
  filled_bytes spells v h k keeps =
      let is = fill_filled types depth_limit v (named ∷ []) h k (one_deep spells v h keeps) in
      (name_only types named spells (fill types table depth_limit (named ∷ []) v) (is.closed, is.typed)).1

  -- the letters of a name are those that it spells once it is filled, and they are bytes
  named_letters : (list : List ℕ) (at : ℕ) (v : Parts) → RowStands types (named ∷ []) list at v → Spells types named
      → (letters (drop at list) ≡ spelled (fill types table depth_limit (named ∷ []) v)) × Spelt list at
  named_letters list at v stands spells =
      let told : letters (drop at list) ≡ spelled (fill types table depth_limit (named ∷ []) v) =
      ap letters stands.bytes ∙ name_letters types table depth_limit named spells v stands.typed stands.behind in
      (told, subst (λ (bs : List ℕ). Each (λ (b : ℕ). b < 256) bs) (sym told) (filled_bytes spells v stands.typed stands.fillable stands.keeps))

  -- behind the first value stand the others
  pub one_behind : (list : List ℕ) (at t : ℕ) (ts : List ℕ) (row : Parts) (stands : RowStands types (t ∷ ts) list at row)
      → (one list at t ts row stands).behind ≡ prefix (others_of row) ++ stands.behind
  unfolding one prefix
  one_behind list at t ts end stands = absurd stands.typed
  one_behind list at t ts (opened r) stands = refl
  one_behind list at t ts (bound c fs r) stands = refl

  module _ (list : List ℕ) (at t : ℕ) (ts : List ℕ) (row : Parts) (stands : RowStands types (t ∷ ts) list at row) where
    -- the first value stands alone at the same place, and the others stand behind it
    abbrev pub first_stands : RowStands types (t ∷ []) list at (first_of_row row)
    first_stands = one list at t ts row stands

    pub others_stand : (next : ℕ) → drop next list ≡ prefix (others_of row) ++ stands.behind → RowStands types ts list next (others_of row)
    others_stand next there = rest_of list at t ts row stands next there

    -- a name is written as its letters stand
    pub first_letters : Spells types named → t ≡ named → (letters (drop at list) ≡ spelled (fill types table depth_limit (named ∷ []) (first_of_row row))) × Spelt list at
    first_letters spells same = named_letters list at (first_of_row row) (subst (λ (u : ℕ). RowStands types (u ∷ []) list at (first_of_row row)) same first_stands) spells

-- the row that is read is the one that stands there
pub row_read_law : (types : Types) (least : Std.Option (List ℕ)) (named : ℕ) → Legible types least named → (ts list : List ℕ) (at : ℕ) (row : Parts)
    → RowStands types ts list at row → row_read types ts list at ≡ row
row_read_law types least named legible ts list at row stands =
    let (next, is, there) = slotted_meets types (in_entries (least_depths types)) (λ e. Unit {0}) (entries_lawful types) legible.apart depth_limit list (even_slots ts depth_limit)
    (even_each _ ts depth_limit (λ t. le_refl depth_limit)) at row stands.behind (subst (λ (us : List ℕ). Typed types us row) (sym (even_types ts depth_limit)) stands.typed, stands.keeps) tt
    stands.bytes in
    rw is refl
