-- `lookups::Rules::fields` meets its contract: the fields are those of one of the type's constructors. Rests on Tables and Chains.
use mathlib.Core.Path.{◌≡◌, sym, ◌∙◌}
use lib.ListN.{get_elem?}
use native.Mathlib.Omega.{arith}
use Rattle.lookups.specs.Fields.{field_types, constructors_left}
use Rattle.lookups.proofs.Tables.{fields_found, fields_missing, constructor_missing}
use Rattle.lookups.proofs.Chains.{nth_fields}
use Rattle.lookups.proofs.Rules.fields.Goals as goal

pub returns-then-self-t-clause-result_value : goal.returns-then-self-t-clause-result_value
returns-then-self-t-clause-result_value c = sym (fields_missing c.args.self.now.file.now c.args.self.now.types.now c.args.t c.args.c c.if-self-t.true)

pub returns-then-each-c-clause-result_value : goal.returns-then-each-c-clause-result_value
returns-then-each-c-clause-result_value c =
    let each = c.each_constructor-each.result in
    let none = constructor_missing each.file.now each.at each.left c.args.c (omega (arith, c.if-each-c.true)) in
    sym (fields_found c.args.self.now.file.now c.args.self.now.types.now c.args.t c.args.c c.if-self-t.false ∙ rw c.each_constructor-each.ensures.constructors at none)

pub returns-clause-result_value : goal.returns-clause-result_value
returns-clause-result_value c =
    let each = c.each_constructor-each.result in
    let found : field_types each.file.now c.nth.result ≡ get_elem? (constructors_left each) c.args.c = nth_fields each c.nth.new.self c.args.c c.nth.result c.nth.ensures.ran in
    (rw (c.each_constructor-each.ensures.constructors, c.each_constructor-each.ensures.file) at found)
    ∙ sym (fields_found c.args.self.now.file.now c.args.self.now.types.now c.args.t c.args.c c.if-self-t.false)
