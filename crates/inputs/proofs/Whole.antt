-- The whole input, by what is read of its values: the place behind them is the end of the bytes.
-- Rests on specs/Depth, on reach's Input and on rows' Values.
use Prim.Native.Nat.{ℕ, ◌≤◌, ◌<◌}
use mathlib.Core.Path.{◌≡◌, refl, sym, ◌∙◌, ap}
use mathlib.Core.List.{List}
use mathlib.Core.Option.{Option, none, some}
use Rattle.std.specs.Prelude.{Some, None}
use Rattle.std.specs.Prelude as Std
use lib.ListN.{length}
use borrow.Author.Tests.{lt-ltb, le-ltb}
use Rattle.reach.specs.declared.Refusal.TheVariants.{BadInput}
use Rattle.reach.specs.Limits.{depth_limit}
use Rattle.reach.specs.Syntax.{Types}
use Rattle.reach.specs.Parts.{Parts}
use Rattle.reach.specs.Types.{Slot}
use Rattle.reach.specs.Reader.{Got, got, refused, on_got, ◌>>◌, give, at_end}
use Rattle.reach.specs.Partial.{in_inputs, slotted}
use Rattle.reach.specs.Input.{input_by}
use Rattle.reach.proofs.Base.{clash}
use Rattle.rows.specs.declared.Measured.{Measured}
use Rattle.rows.proofs.Rows.{measured_is}
use Rattle.rows.specs.Values.{measured, of_row}
use Rattle.inputs.specs.Depth.{reading_of}

module _ (types : Types) (ss : List Slot) (input : List ℕ) {b : Std.Option Measured} (told : b ≡ of_row (slotted types in_inputs depth_limit ss input 0)) where
  abbrev ended : Got (Parts × ℕ) → Option (Parts × ℕ)
  ended g = on_got (λ row next. some row) (λ why. none) (on_got {B = Got (Parts × ℕ)} (λ row next. (at_end BadInput >> give row) input next) (λ why. refused why) g)

  -- no row of values
  pub none_read : b ≡ None → reading_of (input_by depth_limit types ss input) ≡ None
  unfolding input_by
  none_read is = by_row (slotted types in_inputs depth_limit ss input 0) (sym told ∙ is)
    where
      by_row : (g : Got (Parts × ℕ)) → of_row g ≡ None → reading_of (ended g) ≡ None
      by_row (got row next) e = absurd (clash (cc))
      by_row (refused why) e = refl

  module _ {next deep : ℕ} (is : b ≡ measured next deep) where
    by_end : (answer : Std.Option ℕ) → ((row : Parts × ℕ) → row.1 ≡ deep → reading_of (ended (got row next)) ≡ answer) → reading_of (input_by depth_limit types ss input) ≡ answer
    unfolding input_by
    by_end answer so = by_row (slotted types in_inputs depth_limit ss input 0) (sym told ∙ is)
      where
        by_row : (g : Got (Parts × ℕ)) → of_row g ≡ measured next deep → reading_of (ended g) ≡ answer
        by_row (got row n) e =
            let (place, same) = measured_is e in
            rw place (so row same)
        by_row (refused why) e = absurd (clash (cc))

    -- bytes are left over
    pub more_left : next < length input → reading_of (input_by depth_limit types ss input) ≡ None
    unfolding at_end
    more_left more = by_end None (λ row same. rw (lt-ltb next (length input) more) refl)

    -- the row is all
    pub all_read : length input ≤ next → reading_of (input_by depth_limit types ss input) ≡ Some deep
    unfolding at_end
    all_read over = by_end (Some deep) (λ row same. rw (le-ltb next (length input) over) (ap Some same))
