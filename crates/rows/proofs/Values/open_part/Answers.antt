-- `rows::Values::open_part` meets its contract, by the answer to whether there is a table. Rests on what `byte_or_zero` ensures.
use Rattle.rows.proofs.Values.open_part.Goals as goal

pub returns-clause-value : goal.returns-clause-value
returns-clause-value c = rw (c.in_ok-self.was, c.byte_or_zero-deep.ensures.value)
