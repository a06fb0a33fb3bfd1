-- One entry of a list that is handed in: its header, then its parameters.
-- Rests on Fits, on rows' Values and Rows, and on lists' HandedEntry.
use Prim.Native.Nat.{ℕ, ◌+◌, ◌≤◌, ◌<◌}
use mathlib.Core.Path.{◌≡◌, refl, sym, ◌∙◌, ap}
use mathlib.Core.Bool.{Bool, true, false}
use mathlib.Core.List.{List, map}
use mathlib.Core.Option.{some}
use lib.ListN.{length, get_or}
use lib.Dec.{eqb}
use native.Mathlib.Omega.{arith}
use borrow.Author.Tests.{le-leb, lt-leb, eqb-true}
use Rattle.reach.specs.declared.Refusal.{Refusal}
use Rattle.reach.specs.declared.Refusal.TheVariants.{BadList}
use Rattle.reach.specs.declared.Kind.{Kind}
use Rattle.reach.specs.Base.{pick}
use Rattle.reach.specs.Parts.{Parts}
use Rattle.reach.specs.Types.{slots}
use Rattle.reach.specs.Search.{Entry}
use Rattle.reach.specs.Lists.{entry_size}
use Rattle.reach.specs.Reader.{Got, got, refused, on_got}
use Rattle.reach.specs.Limits.{depth_limit}
use Rattle.reach.specs.Partial.{slotted}
use Rattle.lists.specs.Handed.{in_entries}
use Rattle.lists.specs.Handed.{spanning}
use Rattle.reach.specs.Places.{word_at, type_at, head_at}
use Rattle.lists.proofs.ReadBack.{size_told}
use Rattle.lists.proofs.HandedEntry.{headed}
use Rattle.rows.specs.declared.Measured.{Measured}
use Rattle.std.specs.Prelude.{Option, Some}
use Rattle.std.specs.Option.{MatchOption}
use Rattle.rows.specs.Values.{of_row, slots_at}
use Rattle.handed.specs.Fits.{entry_at, Told}

-- The entry of n bytes at a place.
module _ (file types functions table list : List ℕ) (source : ℕ) (depths : List ℕ) (limit at n : ℕ) (size : entry_size list at ≡ some n) where
  abbrev parameters : List ℕ
  parameters = (head_at file (get_or functions source 0)).parameters

  pub entry_inside : (at + 6 ≤ length list) × (at + n ≤ length list)
  entry_inside =
      let (kind, long, known, is, inside) = size_told list at n size in
      (long, inside)

  pub entry_late : limit < word_at list (at + 2) → (why : Refusal) × (entry_at file types functions table source depths limit list at ≡ refused why)
  entry_late late =
      let (kind, long, known, is, inside) = size_told list at n size in
      (BadList, headed (map (type_at file) types) table (slots parameters depths) limit list at kind long known ∙ rw (lt-leb (word_at list (at + 2)) limit late) refl)

  module _ (early : word_at list (at + 2) ≤ limit) {b : Option Measured} (told : b ≡ of_row (slots_at file types (Some table) depths parameters list (at + 6))) where
    by_parameters : (g : Got (Parts × ℕ)) → of_row g ≡ b → (kind : Kind) → n ≡ 6 + word_at list (at + 4)
        → (answer : Bool) → MatchOption b (answer ≡ false) (λ (m : Measured). answer ≡ eqb m.next (at + n))
        → Told (on_got {B = Got Entry} (λ row next. got (record { kind = kind; steps = word_at list (at + 2); input = row.0 }) next) (λ why. refused why)
        (on_got {B = Got (Parts × ℕ)} (λ a next. pick (eqb next (at + 6 + word_at list (at + 4))) (got a next) (refused BadList)) (λ why. refused why) g)) (at + n) answer
    by_parameters (refused why) is kind sized answer given = rw (rw (← is) at given) (why, refl)
    by_parameters (got row place) is kind sized answer given =
        let z : at + 6 + word_at list (at + 4) ≡ at + n = omega (arith, sized) in
        rw (rw (← is) at given, z) (by_test (eqb place (at + n)) refl)
      where
        by_test : (t : Bool) → eqb place (at + n) ≡ t
            → Told (on_got {B = Got Entry} (λ row next. got (record { kind = kind; steps = word_at list (at + 2); input = row.0 }) next) (λ why. refused why) (pick t (got row place) (refused BadList))) (at + n) t
        by_test true e = (
          record { kind = kind; steps = word_at list (at + 2); input = row.0 },
          ap {B = Got Entry} (λ (x : ℕ). got (record { kind = kind; steps = word_at list (at + 2); input = row.0 }) x) (eqb-true place (at + n) e),
        )
        by_test false e = (BadList, refl)

    pub entry_told : (answer : Bool) → MatchOption b (answer ≡ false) (λ (m : Measured). answer ≡ eqb m.next (at + n))
        → Told (entry_at file types functions table source depths limit list at) (at + n) answer
    unfolding spanning
    entry_told answer given =
        let (kind, long, known, is, inside) = size_told list at n size in
        rw (headed (map (type_at file) types) table (slots parameters depths) limit list at kind long known, le-leb (word_at list (at + 2)) limit early)
        (by_parameters (slotted (map (type_at file) types) (in_entries table) depth_limit (slots parameters depths) list (at + 6))
        (sym told) kind is answer given)
