-- A value for each slot, one after another: what the loop over the types of a row comes to.
-- Rests on rows' Values, Stack and Rows, and on lookups' Tables.
use Prim.Native.Nat.{ℕ, max, ◌+◌, ◌-◌, ◌≤◌, ◌<◌}
use mathlib.Core.Path.{◌≡◌, refl, ap, ◌∙◌}
use mathlib.Core.List.{List, map}
use lib.ListN.{get_or, drop}
use native.Mathlib.Omega.{arith}
use borrow.Author.Tests.{le-leb, lt-leb}
use Rattle.reach.specs.Limits.{depth_limit}
use Rattle.reach.specs.Parts.{Parts}
use Rattle.reach.specs.Types.{slots}
use Rattle.reach.specs.Reader.{Got, got, refused, on_got}
use Rattle.reach.specs.Partial.{Value, ◌before◌, deep_of, slotted}
use Rattle.reach.specs.Places.{type_at, bytes_at}
use Rattle.lookups.proofs.Tables.{slots_more, slots_none}
use Rattle.rows.specs.declared.Measured.{Measured}
use Rattle.std.specs.Prelude.{Option, None}
use Rattle.rows.specs.Values.{measured, of_value, of_row, manner_of, value_at, slots_at}
use Rattle.rows.specs.Stack.{joined}
use Rattle.rows.proofs.Rows.{value_got, value_bad, joined_none}

-- at the beginning all of it is left
pub slots_whole : (file types : List ℕ) (table : Option (List ℕ)) (list depths : List ℕ) (fields n at : ℕ)
    → joined 0 (of_row (slots_at file types table depths (bytes_at file (fields + 0) (n - 0)) list at)) ≡ of_row (slots_at file types table depths (bytes_at file fields n) list at)
slots_whole file types table list depths fields n at =
    let place : fields + 0 ≡ fields = omega arith in
    let all : n - 0 ≡ n = omega arith in
    rw (place, all) (joined_none _)

-- the values of n types that stand from a place of the file on, with a depth for each, from number i on
module _ (file types : List ℕ) (table : Option (List ℕ)) (list depths : List ℕ) (fields n i at : ℕ) where
  abbrev left : Option Measured
  left = of_row (slots_at file types table (drop i depths) (bytes_at file (fields + i) (n - i)) list at)

  pub slots_done : n ≤ i → left ≡ measured at 0
  unfolding slotted
  slots_done h = rw (slots_none file fields n i depths h) refl

  -- by the answer to the first of them
  module _ (more : i < n) where
    pub slots_bad : None ≡ of_value (value_at file types table depth_limit (get_or file (fields + i) 0) list at) → left ≡ None
    unfolding slotted
    slots_bad told =
        let (why, found) = value_bad (value_at file types table depth_limit (get_or file (fields + i) 0) list at) told in
        rw (slots_more file fields n i depths more, found) refl

    module _ {next one : ℕ} (told : measured next one ≡ of_value (value_at file types table depth_limit (get_or file (fields + i) 0) list at)) where
      pub slots_deep : get_or depths i 0 < one → left ≡ None
      unfolding slotted
      slots_deep deep =
          let (v, found, is) = value_got (value_at file types table depth_limit (get_or file (fields + i) 0) list at) told in
          rw (slots_more file fields n i depths more, found, lt-leb (deep_of v) (get_or depths i 0) (omega (arith, is, deep))) refl

      pub slots_next : one ≤ get_or depths i 0
          → left ≡ joined one (of_row (slots_at file types table (drop (i + 1) depths) (bytes_at file (fields + (i + 1)) (n - (i + 1))) list next))
      unfolding slotted
      slots_next fits =
          let (v, found, is) = value_got (value_at file types table depth_limit (get_or file (fields + i) 0) list at) told in
          by_value v found (omega (arith, is, fits)) ∙ ap (λ (d : ℕ). joined d (of_row rest)) is
        where
          rest : Got (Parts × ℕ)
          rest = slotted (map (type_at file) types) (manner_of table) depth_limit (slots (bytes_at file (fields + (i + 1)) (n - (i + 1))) (drop (i + 1) depths)) list next

          by_rest : (v : Value) (g : Got (Parts × ℕ))
              → of_row (on_got {B = Got (Parts × ℕ)} (λ r k. got (v before r.0, max (deep_of v) r.1) k) (λ why. refused why) g) ≡ joined (deep_of v) (of_row g)
          by_rest v (got r k) = refl
          by_rest v (refused why) = refl

          by_value : (v : Value) → value_at file types table depth_limit (get_or file (fields + i) 0) list at ≡ got v next → deep_of v ≤ get_or depths i 0
              → left ≡ joined (deep_of v) (of_row rest)
          by_value v found fits = rw (slots_more file fields n i depths more, found, le-leb (deep_of v) (get_or depths i 0) fits) (by_rest v rest)
