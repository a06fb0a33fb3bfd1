-- `headers::Writer::mark` meets its contract: the two bytes are the mark of their kind. Rests on nothing of this crate.
use Rattle.reach.specs.Lists.{kind_bytes}
use Rattle.headers.proofs.Writer.mark.Goals as goal

pub returns-in-RE : goal.returns-in-RE
unfolding kind_bytes
returns-in-RE c = rw c.in-RE.is c.two.ensures

pub returns-in-UN : goal.returns-in-UN
unfolding kind_bytes
returns-in-UN c = rw c.in-UN.is c.two-in-UN.ensures

pub returns-in-MI : goal.returns-in-MI
unfolding kind_bytes
returns-in-MI c = rw c.in-MI.is c.two-in-MI.ensures
