-- `values::behind_value` meets its contract: it hands on the place that `value` gives.
-- Rests on specs/Notes.
use Prim.Native.Nat.{ℕ}
use mathlib.Core.Path.{◌≡◌}
use Rattle.std.specs.Prelude.{Option, Some, None}
use Rattle.std.specs.Option.{MatchOption}
use Rattle.std.proofs.Common.{rules}
use Rattle.rows.specs.declared.Measured.{Measured}
use Rattle.values.specs.Notes.{place_or, behind_value}
use Rattle.values.proofs.behind_value.Goals as goal

place_given : (i n : ℕ) (r : Option Measured) → MatchOption r (n ≡ i) (λ m. n ≡ m.next) → n ≡ place_or i r
place_given i n (Some m) is = is
place_given i n None is = is

pub returns : goal.returns
unfolding behind_value
returns c =
    let given : MatchOption c.value.result (c.map_or.result ≡ c.args.at) (λ (m : Measured). c.map_or.result ≡ m.next) = search rules in
    rw (← c.value.ensures.value) (place_given c.args.at c.map_or.result c.value.result given)
