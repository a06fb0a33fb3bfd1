-- `lookups::Rules::field_count` meets its contract, by the answer to where the fields stand. Rests on Tables.
use Rattle.std.proofs.Common.{rules}
use Rattle.std.specs.Option.{MatchOption}
use Rattle.lookups.proofs.Tables.{fields_counted}
use Rattle.lookups.specs.declared.FieldTypes.{FieldTypes}
use mathlib.Core.Path.{◌≡◌}
use Rattle.lookups.proofs.Rules.field_count.Goals as goal

pub returns : goal.returns
returns c =
    let counted : MatchOption c.fields.result (c.map_or.result ≡ 0) (λ (found : FieldTypes). c.map_or.result ≡ found.count) = search rules in
    fields_counted _ _ _ _ c.fields.result c.fields.ensures.result_value c.fields.ensures.near counted
