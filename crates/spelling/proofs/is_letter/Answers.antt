-- `spelling::is_letter` meets its contract: the fields of constructor 1 are looked up, and each is held to what a letter has there. Rests on Forms.
use Prim.Native.Nat.{◌+◌}
use mathlib.Core.Path.{◌≡◌, refl, sym, ◌∙◌}
use mathlib.Core.Bool.{◌&&◌}
use mathlib.Core.List.{map}
use lib.ListN.{get_or}
use Rattle.reach.specs.Names.{is_half}
use Rattle.reach.specs.Places.{type_at}
use Rattle.spelling.proofs.Forms.{no_letter, not_three, three}
use Rattle.spelling.proofs.is_letter.Goals as goal
use Rattle.spelling.proofs.is_letter.Goals.{then-is_half, else-is_half}

pub returns-in_default : goal.returns-in_default
returns-in_default c =
    sym (no_letter c.args.rules.now.file.now c.args.rules.now.types.now c.args.t c.fields.result c.fields.ensures.result_value c.in_default.is)

pub returns-then-fields-ne3 : goal.returns-then-fields-ne3
returns-then-fields-ne3 c =
    sym (not_three c.args.rules.now.file.now c.args.rules.now.types.now c.args.t c.fields.result c.fields.ensures.result_value c.in-Some.is c.if-fields-ne3.true)

pub returns-then-is_half-2 : goal.returns-then-is_half-2
returns-then-is_half-2 c =
    let file = c.args.rules.now.file.now in
    let types = map (type_at file) c.args.rules.now.types.now in
    let at = c.in-Some.fields.at in
    let halves : c.if-is_half.value ≡ is_half types (get_or file at 0) && is_half types (get_or file (at + 1) 0) =
    elim c.if-is_half.branch [
      | then-is_half w ↦
          w.value-is
          ∙ rw (← c.byte_or_zero.ensures.value, ← c.is_half.ensures, w.if-is_half.true, ← w.byte_or_zero-then-is_half.ensures.value) w.is_half-then-is_half.ensures
      | else-is_half w ↦ w.value-is ∙ rw (← c.byte_or_zero.ensures.value, ← c.is_half.ensures, w.if-is_half.false) refl
    ] in
    let is = three file c.args.rules.now.types.now c.args.t c.fields.result c.fields.ensures.result_value c.in-Some.is c.if-fields-ne3.false in
    rw (is, ← halves, c.if-is_half-2.true, ← c.byte_or_zero-then-is_half-2.ensures.value) refl

pub returns-else-is_half-2 : goal.returns-else-is_half-2
returns-else-is_half-2 c =
    let file = c.args.rules.now.file.now in
    let types = map (type_at file) c.args.rules.now.types.now in
    let at = c.in-Some.fields.at in
    let halves : c.if-is_half.value ≡ is_half types (get_or file at 0) && is_half types (get_or file (at + 1) 0) =
    elim c.if-is_half.branch [
      | then-is_half w ↦
          w.value-is
          ∙ rw (← c.byte_or_zero.ensures.value, ← c.is_half.ensures, w.if-is_half.true, ← w.byte_or_zero-then-is_half.ensures.value) w.is_half-then-is_half.ensures
      | else-is_half w ↦ w.value-is ∙ rw (← c.byte_or_zero.ensures.value, ← c.is_half.ensures, w.if-is_half.false) refl
    ] in
    let is = three file c.args.rules.now.types.now c.args.t c.fields.result c.fields.ensures.result_value c.in-Some.is c.if-fields-ne3.false in
    rw (is, ← halves, c.if-is_half-2.false) refl
