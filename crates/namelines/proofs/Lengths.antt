-- How long the lines of names are: at most four times the bytes of the parameters that they are made of.
-- Rests on Letters and Rows, on naming's Encodings and Lines and on printing's Lengths.
use Prim.Native.Nat.{ℕ, suc, ◌+◌, ◌*◌, ◌≤◌}
use mathlib.Core.Path.{◌≡◌, refl, sym, ap, subst, ◌∙◌}
use mathlib.Core.Bool.{Bool, true, false}
use mathlib.Core.List.{List, [], ◌∷◌, ◌++◌, map, flat_map, append-nil}
use native.Mathlib.Omega.{arith}
use lib.ListN.{length, length-append}
use lib.Dec.{eqb}
use borrow.Author.Tests.{eqb-true}
use Rattle.reach.specs.Base.{pick}
use Rattle.reach.specs.Limits.{depth_limit}
use Rattle.reach.specs.Syntax.{Types}
use Rattle.reach.specs.Parts.{Parts, end, opened, bound, prefix}
use Rattle.reach.specs.Types.{slots, even_slots, Typed, least_depths}
use Rattle.reach.specs.Names.{Spells}
use Rattle.reach.specs.Partial.{Keeps}
use Rattle.lists.specs.Text.{decimal}
use Rattle.names.specs.Filling.{Fillable, fill, fill_named}
use Rattle.names.specs.Spelling.{spelled}
use Rattle.names.specs.NameList.{utf8, name_line, names_in, name_lines}
use Rattle.writing.proofs.Digits.{digits_three}
use Rattle.printing.proofs.Lengths.{line_length}
use Rattle.naming.specs.Short.{text_few, utf8_short}
use Rattle.naming.specs.Letters.{half, letters}
use Rattle.naming.proofs.Lines.{Bytes, numbers, numbers_append, all_few}
use Rattle.namelines.specs.Rows.{row_names}
use Rattle.namelines.proofs.Letters.{name_letters}
use Rattle.namelines.proofs.Rows.{first_of_row, others_of, names_split, filled_bytes}

-- a letter takes three bytes
letters_third : (xs : List ℕ) → 3 * length (letters xs) ≤ length xs
unfolding letters
letters_third [] = omega arith
letters_third (c ∷ []) = omega arith
letters_third (c ∷ h ∷ []) = omega arith
letters_third (c ∷ h ∷ l ∷ rest) = by_code (16 * half h + half l) (eqb c 1) (letters_third rest)
  where
    by_code : (x : ℕ) (b : Bool) → 3 * length (letters rest) ≤ length rest → 3 * length (pick b (x ∷ letters rest) []) ≤ suc (suc (suc (length rest)))
    by_code x true below = omega (arith, below)
    by_code x false below = omega arith

-- the line of a name with letters has at most twelve bytes for each
line_twelve : (b : ℕ) (bs : List ℕ) → Bytes (b ∷ bs) → length (name_line (b ∷ bs)) ≤ 12 * suc (length bs)
unfolding name_line
line_twelve b bs (small, all) =
    let encodings = flat_map utf8 (b ∷ bs) in
    omega (
      arith,
      line_length (decimal b) (map decimal (bs ++ encodings)),
      digits_three b (omega (arith, small)),
      ap length (numbers_append bs encodings),
      length-append (numbers bs) (numbers encodings),
      text_few bs all,
      all_few utf8 utf8_short (b ∷ bs) (small, all),
    )

line_short : (bs : List ℕ) (n : ℕ) → Bytes bs → 3 * length bs ≤ n → 1 ≤ n → length (name_line bs) ≤ 4 * n
unfolding name_line
line_short [] n all few some_byte = omega arith
line_short (b ∷ bs) n all few some_byte = omega (arith, line_twelve b bs all, few)

module _ (types : Types) (named : ℕ) (spells : Spells types named) where
  -- a value has a byte at least
  some_prefix : (t : ℕ) (e : Parts) → Typed types (t ∷ []) e → 1 ≤ length (prefix e)
  unfolding prefix
  some_prefix t end h = absurd h
  some_prefix t (opened r) h = omega arith
  some_prefix t (bound c fs r) h = omega arith

  name_short : (v : Parts) → Typed types (named ∷ []) v → Fillable types (named ∷ []) v → Keeps types (even_slots (named ∷ []) depth_limit) v
      → length (name_line (spelled (fill types (least_depths types) depth_limit (named ∷ []) v))) ≤ 4 * length (prefix v)
  name_short v h k keeps =
      let same : letters (prefix v) ≡ spelled (fill types (least_depths types) depth_limit (named ∷ []) v) =
      ap letters (sym (append-nil (prefix v))) ∙ name_letters types (least_depths types) depth_limit named spells v h [] in
      line_short (spelled (fill types (least_depths types) depth_limit (named ∷ []) v)) (length (prefix v)) (filled_bytes types named spells v h k keeps)
      (omega (arith, letters_third (prefix v), ap length same)) (some_prefix named v h)

  -- the line of the first value of a row, if it has the named type
  first_short : (t : ℕ) (v : Parts) → Typed types (t ∷ []) v → Fillable types (t ∷ []) v → Keeps types (even_slots (t ∷ []) depth_limit) v
      → length (pick (eqb t named) (name_line (spelled (fill types (least_depths types) depth_limit (named ∷ []) v))) []) ≤ 4 * length (prefix v)
  first_short t v h k keeps = by_name (eqb t named) refl
    where
      by_name : (b : Bool) → eqb t named ≡ b
          → length (pick b (name_line (spelled (fill types (least_depths types) depth_limit (named ∷ []) v))) []) ≤ 4 * length (prefix v)
      by_name true is =
          let same = eqb-true t named is in
          name_short v (subst (λ (u : ℕ). Typed types (u ∷ []) v) same h) (subst (λ (u : ℕ). Fillable types (u ∷ []) v) same k)
          (subst (λ (u : ℕ). Keeps types (even_slots (u ∷ []) depth_limit) v) same keeps)
      by_name false is = omega arith

  -- a row is at most four times as long in names as it is
  row_short : (t : ℕ) (ts : List ℕ) (row : Parts) → Typed types (t ∷ ts) row → Fillable types (t ∷ ts) row
      → length (prefix row) ≡ length (prefix (first_of_row row)) + length (prefix (others_of row))
      → length (pick (eqb t named) (name_line (spelled (fill types (least_depths types) depth_limit (named ∷ []) (first_of_row row)))) []) ≤ 4 * length (prefix (first_of_row row))
      → length (row_names types named ts (others_of row)) ≤ 4 * length (prefix (others_of row))
      → length (row_names types named (t ∷ ts) row) ≤ 4 * length (prefix row)
  row_short t ts row h k split first rest =
      omega (
        arith,
        ap length (names_split types named t ts row h k),
        length-append (pick (eqb t named) (name_line (spelled (fill types (least_depths types) depth_limit (named ∷ []) (first_of_row row)))) []) (row_names types named ts (others_of row)),
        split,
        first,
        rest,
      )

  pub names_short : (row : Parts) (ts : List ℕ) → Typed types ts row → Fillable types ts row → Keeps types (even_slots ts depth_limit) row
      → length (row_names types named ts row) ≤ 4 * length (prefix row)
  unfolding name_lines names_in fill_named flat_map prefix even_slots slots
  names_short end ts h k keeps = omega arith
  names_short (opened r) [] h k keeps = absurd h
  names_short (opened r) (t ∷ ts) h k keeps =
      row_short t ts (opened r) h k (omega arith) (first_short t (opened end) tt (k.0, tt) (keeps.0, tt)) (names_short r ts h k.1 keeps.1)
  names_short (bound c fs r) [] h k keeps = absurd h
  names_short (bound c fs r) (t ∷ ts) (us, has, inner, others) k keeps =
      row_short t ts (bound c fs r) (us, has, inner, others) k
      (omega (arith, length-append (prefix fs) (prefix r), length-append (prefix fs) (prefix end)))
      (first_short t (bound c fs end) (us, has, inner, tt) (k.0, tt) (keeps.0, tt))
      (names_short r ts others k.1 keeps.1)
