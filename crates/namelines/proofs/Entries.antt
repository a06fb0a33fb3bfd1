-- One entry of a list after the other: what the loop of put_entries knows, and why it stays so.
-- Rests on Lists of specs/, on Onward and Rows, and on lists' ReadBack and Text.
use Prim.Native.Nat.{ℕ, ◌+◌, ◌*◌, ◌≤◌, ◌<◌}
use mathlib.Core.Path.{◌≡◌, refl, sym, ap, subst, ◌∙◌}
use mathlib.Core.List.{List, [], ◌∷◌, ◌++◌, map, flat_map, append-nil, append_assoc}
use mathlib.Core.Option.{some, none, none-ne-some}
use Rattle.std.specs.Prelude as Std
use native.Mathlib.Omega.{arith}
use lib.ListN.{length, drop, length-append, length-drop}
use lib.Seq.{drop-drop, drop-append_seam}
use Rattle.reach.specs.Base.{Each}
use Rattle.reach.specs.Syntax.{Types}
use Rattle.reach.specs.Parts.{prefix}
use Rattle.reach.specs.Names.{Spells}
use Rattle.reach.specs.declared.Kind.{Kind}
use Rattle.reach.specs.declared.Kind.TheVariants.{RE, UN, MI}
use Rattle.reach.specs.Search.{Entry}
use Rattle.reach.specs.Lists.{kind_bytes, word_bytes, entry_bytes, list_bytes, saying_of, entry_size}
use Rattle.reach.proofs.Base.{each_member}
use Rattle.lists.proofs.ReadBack.{size_of_entry}
use Rattle.lists.proofs.Text.{decoded_from_law, list_some}
use Rattle.writing.specs.declared.Page.{Page}
use Rattle.writing.specs.Writing.{Puts}
use Rattle.writing.proofs.Writing.{Left, left_whole, left_next, left_none}
use Rattle.namelines.specs.Rows.{row_names, RowStands, row_read, Legible}
use Rattle.namelines.specs.Lists.{decoded_names, list_names, Fitted}
use Rattle.namelines.proofs.Rows.{row_read_law}
use Rattle.namelines.proofs.Lengths.{names_short}

-- the header has six bytes
behind_header : (e : Entry) (rest : List ℕ) → drop 6 (entry_bytes e ++ rest) ≡ prefix e.input ++ rest
unfolding entry_bytes kind_bytes word_bytes
behind_header e rest = by_kind e.kind
  where
    by_kind : (k : Kind) → drop 6 ((kind_bytes k ++ (word_bytes e.steps ++ (word_bytes (length (prefix e.input)) ++ prefix e.input))) ++ rest) ≡ prefix e.input ++ rest
    by_kind RE = refl
    by_kind UN = refl
    by_kind MI = refl

six_bytes : (e : Entry) → 6 ≤ length (entry_bytes e)
unfolding entry_bytes kind_bytes word_bytes
six_bytes e = by_kind e.kind
  where
    by_kind : (k : Kind) → 6 ≤ length (kind_bytes k ++ (word_bytes e.steps ++ (word_bytes (length (prefix e.input)) ++ prefix e.input)))
    by_kind RE = omega arith
    by_kind UN = omega arith
    by_kind MI = omega arith

entry_longer : (e : Entry) → length (prefix e.input) ≤ length (entry_bytes e)
entry_longer e = omega (arith, ap length (behind_header e []), ap length (append-nil (entry_bytes e)), ap length (append-nil (prefix e.input)), length-drop 6 (entry_bytes e ++ []))

-- the lines of entries are at most four times as long as the entries
pub names_length : (types : Types) (named : ℕ) → Spells types named → (ts : List ℕ) (es : List Entry) → Each (Fitted types ts) es
    → length (flat_map (λ e. row_names types named ts e.input) es) ≤ 4 * length (list_bytes es)
unfolding list_bytes flat_map
names_length types named spells ts [] all = omega arith
names_length types named spells ts (e ∷ es) (first, all) =
    omega (
      arith,
      names_short types named spells e.input ts first.typed first.fillable first.keeps,
      entry_longer e,
      names_length types named spells ts es all,
      length-append (row_names types named ts e.input) (flat_map (λ e. row_names types named ts e.input) es),
      length-append (entry_bytes e) (flat_map entry_bytes es),
    )

module _ (types : Types) (table : Std.Option (List ℕ)) (named : ℕ) (legible : Legible types table named) (ts : List ℕ) where
  -- the lines of these entries
  abbrev pub names_of : List Entry → List ℕ
  names_of es = flat_map (λ e. row_names types named ts e.input) es

  -- an entry's parameters, alone
  alone : (e : Entry) → Fitted types ts e → RowStands types ts (prefix e.input) 0 e.input
  alone e fitted = record { typed = fitted.typed; keeps = fitted.keeps; fillable = fitted.fillable; behind = []; bytes = sym (append-nil (prefix e.input)) }

  said_names : (es : List Entry) → Each (Fitted types ts) es → flat_map (decoded_names types named ts) (map saying_of es) ≡ names_of es
  unfolding flat_map
  said_names [] all = refl
  said_names (e ∷ es) (first, all) = rw (row_read_law types table named legible ts (prefix e.input) 0 e.input (alone e first), said_names es all) refl

  -- the names of a list's bytes are those of its entries
  pub names_are : (list : List ℕ) (es : List Entry) → list_bytes es ≡ list → Each (Fitted types ts) es → list_names types named ts list ≡ names_of es
  names_are list es are all =
      let decoded = decoded_from_law es [] (length list) (λ e m. (each_member (Fitted types ts) all m).counted) (λ e m. (each_member (Fitted types ts) all m).in_time)
      (omega (arith, list_some es, ap length are)) in
      ap (flat_map (decoded_names types named ts)) (rw are at decoded) ∙ said_names es all

-- What is left of a list: its entries stand from this place on, and their names are still to be written.
pub record NamesLeft (types : Types) (named : ℕ) (ts list : List ℕ) (empty : Page) (whole : List ℕ) (page : Page) (at : ℕ) : Type 0 where
  pub before : List ℕ
  pub rest : List Entry
  pub split : list ≡ before ++ list_bytes rest
  pub place : at ≡ length before
  pub fitted : Each (Fitted types ts) rest
  pub left : Left empty whole page (flat_map (λ e. row_names types named ts e.input) rest)

module _ (types : Types) (table : Std.Option (List ℕ)) (named : ℕ) (legible : Legible types table named) (ts list : List ℕ) (empty : Page) where
  -- nothing is written yet
  pub going_whole : (es : List Entry) → list_bytes es ≡ list → Each (Fitted types ts) es
      → NamesLeft types named ts list empty (list_names types named ts list) empty 0
  going_whole es are all = record {
    before = [];
    rest = es;
    split = sym are;
    place = refl;
    fitted = all;
    left = subst (λ (w : List ℕ). Left empty w empty (names_of types table named legible ts es)) (sym (names_are types table named legible ts list es are all))
        (left_whole empty (names_of types table named legible ts es));
  }

  -- how far the text goes
  pub going_end : {page : Page} {at : ℕ} (es : List Entry) → list_bytes es ≡ list → Each (Fitted types ts) es
      → NamesLeft types named ts list empty (list_names types named ts list) page at → page.at ≤ empty.at + 4 * length list
  going_end es are all going =
      omega (arith, going.left.place, ap length (names_are types table named legible ts list es are all), names_length types named legible.spells ts es all, ap length are)

  -- An entry that stands at the place reached.
  pub record Standing (whole : List ℕ) (page : Page) (at : ℕ) : Type 0 where
    pub entry : Entry
    pub size : entry_size list at ≡ some (length (entry_bytes entry))
    pub stands : RowStands types ts list (at + 6) entry.input
    pub room : at + length (entry_bytes entry) ≤ length list
    pub some_bytes : 6 ≤ length (entry_bytes entry)
    pub later : {page' : Page} → Puts page (row_names types named ts (row_read types ts list (at + 6))) page'
        → NamesLeft types named ts list empty whole page' (at + length (entry_bytes entry))

  standing : {whole : List ℕ} {page : Page} {at : ℕ} (before : List ℕ) (e : Entry) (es : List Entry) → list ≡ before ++ (entry_bytes e ++ list_bytes es) → at ≡ length before
      → Fitted types ts e → Each (Fitted types ts) es
      → Left empty whole page (row_names types named ts e.input ++ flat_map (λ e. row_names types named ts e.input) es) → Standing whole page at
  standing {whole} {page} {at} before e es split place first all left =
      let here = size_of_entry e before (list_bytes es) first.counted in
      let seen : drop (at + 6) list ≡ prefix e.input ++ list_bytes es =
      rw (place, split) (sym (drop-drop 6 (length before) (before ++ (entry_bytes e ++ list_bytes es)))
      ∙ ap (drop 6) (drop-append_seam before (entry_bytes e ++ list_bytes es)) ∙ behind_header e (list_bytes es)) in
      let row : RowStands types ts list (at + 6) e.input =
      record { typed = first.typed; keeps = first.keeps; fillable = first.fillable; behind = list_bytes es; bytes = seen } in
      let long = ap length split in
      record {
        entry = e;
        size = rw (place, split) here;
        stands = row;
        room = omega (arith, long, place, length-append before (entry_bytes e ++ list_bytes es), length-append (entry_bytes e) (list_bytes es));
        some_bytes = six_bytes e;
        later = λ wrote. record {
          before = before ++ entry_bytes e;
          rest = es;
          split = split ∙ sym (append_assoc before (entry_bytes e) (list_bytes es));
          place = omega (arith, place, length-append before (entry_bytes e));
          fitted = all;
          left = left_next left (rw (row_read_law types table named legible ts list (at + 6) e.input row) at wrote);
        };
      }

  none_long : length (list_bytes []) ≡ 0
  unfolding list_bytes flat_map
  none_long = refl

  list_first : (e : Entry) (es : List Entry) → list_bytes (e ∷ es) ≡ entry_bytes e ++ list_bytes es
  unfolding list_bytes flat_map
  list_first e es = refl

  names_first : {whole : List ℕ} {page : Page} (e : Entry) (es : List Entry)
      → Left empty whole page (flat_map (λ e. row_names types named ts e.input) (e ∷ es))
      → Left empty whole page (row_names types named ts e.input ++ flat_map (λ e. row_names types named ts e.input) es)
  unfolding flat_map
  names_first e es left = left

  pub going_more : {whole : List ℕ} {page : Page} {at : ℕ} → NamesLeft types named ts list empty whole page at → at < length list → Standing whole page at
  going_more {whole} {page} {at} going more = by_rest going.rest going.split going.fitted going.left
    where
      by_rest : (es : List Entry) → list ≡ going.before ++ list_bytes es → Each (Fitted types ts) es
          → Left empty whole page (flat_map (λ e. row_names types named ts e.input) es) → Standing whole page at
      by_rest [] split all left = absurd (omega (arith, more, going.place, ap length split, length-append going.before (list_bytes []), none_long))
      by_rest (e ∷ es) split (first, all) left = standing going.before e es (split ∙ ap (λ (x : List ℕ). going.before ++ x) (list_first e es)) going.place first all (names_first e es left)

  -- where no entry stands, all of it is written
  pub going_done : {whole : List ℕ} {page : Page} {at : ℕ} → NamesLeft types named ts list empty whole page at → entry_size list at ≡ none → Puts empty whole page
  unfolding flat_map
  going_done {whole} {page} {at} going over = by_rest going.rest going.split going.left
    where
      by_rest : (es : List Entry) → list ≡ going.before ++ list_bytes es → Left empty whole page (flat_map (λ e. row_names types named ts e.input) es)
          → Puts empty whole page
      by_rest [] split left = left_none left
      by_rest (e ∷ es) split left =
          let more : at < length list = omega (arith, going.place, ap length split, length-append going.before (list_bytes (e ∷ es)), list_some (e ∷ es)) in
          absurd (none-ne-some _ (sym over ∙ (going_more going more).size))
