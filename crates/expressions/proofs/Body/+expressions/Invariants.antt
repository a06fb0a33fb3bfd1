-- The measures of the functions of the cycle, and the invariants of its two loops.
-- The nesting that is left falls by one from an expression to its operands; at one level the functions are ranked by who calls whom: alternatives,
-- alternative and operands, expression, its kinds.
-- The operands still to come are what is left of all. The alternatives still to come are what is left of all, and their constructors are narrow.
use Rattle.std.proofs.Common.{◌≡◌, ◌+◌, ◌-◌, ◌*◌}
use mathlib.Core.List.{map}
use lib.ListN.{get_or}
use Rattle.reach.specs.Places.{bytes_at, type_at}
use Rattle.lookups.specs.Fields.{places_left}
use Rattle.lookups.proofs.Chains.{fields_of_place}
use Rattle.typerecord.specs.Passed.{passed_of}
use Rattle.expressions.specs.Tables.{Narrow}
use Rattle.expressions.specs.Readers.{view_of, operands_at, alternatives_at}
use Rattle.expressions.proofs.Body.+expressions.Given as goal

abbrev pub decreases-alternative : goal.decreases-alternative
decreases-alternative l = 4 * l.scope.left + 3

abbrev pub decreases-alternatives : goal.decreases-alternatives
decreases-alternatives l = 4 * l.scope.left + 4

abbrev pub decreases-call : goal.decreases-call
decreases-call l = 4 * l.scope.left + 1

abbrev pub decreases-case : goal.decreases-case
decreases-case l = 4 * l.scope.left + 1

abbrev pub decreases-construct : goal.decreases-construct
decreases-construct l = 4 * l.scope.left + 1

abbrev pub decreases-expression : goal.decreases-expression
decreases-expression l = 4 * l.scope.left + 2

abbrev pub decreases-let_expression : goal.decreases-let_expression
decreases-let_expression l = 4 * l.scope.left + 1

abbrev pub decreases-operands : goal.decreases-operands
decreases-operands l = 4 * l.scope.left + 3

abbrev pub decreases-target : goal.decreases-target
decreases-target l = 4 * l.scope.left + 1

abbrev pub invariant-operands-loop-i : goal.invariant-operands-loop-i
invariant-operands-loop-i l =
    let step = operands_at l.self.rules.file.now l.self.rules.types.now l.self.rules.functions.now l.scope.left (view_of l.scope.view) in
    passed_of (step (bytes_at l.self.rules.file.now (l.fields.at + l.i) (l.fields.count - l.i)) l.self.bytes.now l.place)
    ≡ passed_of (step (bytes_at l.self.rules.file.now l.fields.at l.fields.count) l.self.bytes.now l.at)

abbrev pub invariant-alternatives-loop-fields : goal.invariant-alternatives-loop-fields
invariant-alternatives-loop-fields l =
    let each = l.fields-iterator in
    let left = map (fields_of_place l.self.rules.file.now) (places_left each) in
    let all = type_at l.self.rules.file.now (get_or l.self.rules.types.now l.t 0) in
    let step = alternatives_at l.self.rules.file.now l.self.rules.types.now l.self.rules.functions.now l.scope.left (view_of l.scope.view) l.scope.expected in
    goal.iterator-alternatives-loop-fields.can_next each × goal.iterator-alternatives-loop-fields.is_finite each
    × (passed_of (step left l.self.bytes.now l.place) ≡ passed_of (step all l.self.bytes.now l.at))
    × Narrow left
