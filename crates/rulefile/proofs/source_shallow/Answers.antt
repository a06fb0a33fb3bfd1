-- `rulefile::source_shallow` meets its contract: the parameters are those that the source's record has. Rests on the tables of lookups.
use Rattle.lookups.proofs.Tables.{parameters_are}
use Rattle.rulefile.proofs.source_shallow.Goals as goal

pub returns : goal.returns
returns c =
    rw (c.all_roomy.ensures, parameters_are _ c.head-head.result c.head-head.ensures.result_value)
