-- `numbers::numbers_exist` meets its contract: the outline has as many types and functions as there are places, and the tests are made in turn.
-- Rests on what the three functions ensure.
use mathlib.Core.Path.{◌≡◌, refl, ◌∙◌}
use mathlib.Core.Bool.{Bool, ◌&&◌}
use mathlib.Core.List.{map}
use lib.ListN.{length, length-map}
use lib.Dec.{ltb}
use Rattle.reach.specs.RuleFile.{types_exist, heads_exist, if_named, numbers_exist}
use Rattle.reach.specs.Places.{type_at, head_at, declarations_at, outline_at}
use Rattle.goal.specs.Goals.{named_of}
use Rattle.lookups.specs.declared.Rules.{Rules}
use Rattle.numbers.proofs.numbers_exist.Goals as goal
use Rattle.numbers.proofs.numbers_exist.Goals.{then-types_exist, else-types_exist, then-heads_exist, else-heads_exist}

-- the test of the types' records, and that of the functions' with it
abbrev in_types : Rules → Bool
in_types r = types_exist (length r.types.now) (map (type_at r.file.now) r.types.now)

abbrev in_records : Rules → Bool
in_records r = in_types r && heads_exist (length r.types.now) (map (head_at r.file.now) r.functions.now)

pub returns-then-name_exists : goal.returns-then-name_exists
unfolding numbers_exist declarations_at outline_at
returns-then-name_exists c =
    let r = c.args.rules.now in
    let records : c.if-types_exist.value ≡ in_records r =
    elim c.if-types_exist.branch [
      | then-types_exist w ↦ w.value-is ∙ rw (← c.types_exist.ensures, w.if-types_exist.true) w.heads_exist.ensures
      | else-types_exist w ↦ w.value-is ∙ rw (← c.types_exist.ensures, w.if-types_exist.false) refl
    ] in
    let named : c.if-heads_exist.value ≡ in_records r && if_named (λ t. ltb t (length r.types.now)) (named_of c.args.named) =
    elim c.if-heads_exist.branch [
      | then-heads_exist w ↦ w.value-is ∙ rw (← records, w.if-heads_exist.true) w.name_exists.ensures
      | else-heads_exist w ↦ w.value-is ∙ rw (← records, w.if-heads_exist.false) refl
    ] in
    rw (length-map _ (type_at _), length-map _ (head_at _), ← named, c.if-name_exists.true) refl

pub returns-else-name_exists : goal.returns-else-name_exists
unfolding numbers_exist declarations_at outline_at
returns-else-name_exists c =
    let r = c.args.rules.now in
    let records : c.if-types_exist.value ≡ in_records r =
    elim c.if-types_exist.branch [
      | then-types_exist w ↦ w.value-is ∙ rw (← c.types_exist.ensures, w.if-types_exist.true) w.heads_exist.ensures
      | else-types_exist w ↦ w.value-is ∙ rw (← c.types_exist.ensures, w.if-types_exist.false) refl
    ] in
    let named : c.if-heads_exist.value ≡ in_records r && if_named (λ t. ltb t (length r.types.now)) (named_of c.args.named) =
    elim c.if-heads_exist.branch [
      | then-heads_exist w ↦ w.value-is ∙ rw (← records, w.if-heads_exist.true) w.name_exists.ensures
      | else-heads_exist w ↦ w.value-is ∙ rw (← records, w.if-heads_exist.false) refl
    ] in
    rw (length-map _ (type_at _), length-map _ (head_at _), ← named, c.if-name_exists.false) refl
