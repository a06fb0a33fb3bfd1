-- `choosing::choose` meets its contract: the words of the waiting case's record, and the alternative that was found, are those that Choosing speaks of.
use Rattle.choosing.proofs.Choosing.{chose_absent, chose_present}
use native.Mathlib.Omega.{arith}
use Rattle.choosing.proofs.choose.Goals as goal

pub returns-in_default : goal.returns-in_default
returns-in_default c = λ types functions filled.
    chose_absent _ types functions _ c.word-alternatives.ensures.0 (c.alternative_at.ensures types functions filled) c.in_default.is

pub put-requires : goal.put-requires
put-requires c = omega (arith, c.word-seen.ensures.0, c.word-env.ensures.0, c.word-env.ensures.1, c.requires.space.few c.word-env.result (omega (arith, c.word-env.ensures.0, c.requires.frame)), c.requires.space.room, c.requires.space.narrow, c.requires.frame, c.args.value.small.1, c.args.value.small.2, c.args.value.small.3)

pub overflow_add-result : goal.overflow_add-result
overflow_add-result c = omega (arith, c.requires.space.room, c.requires.space.narrow)

pub returns : goal.returns
returns c = λ types functions filled.
    chose_present _ types functions _ c.word-alternatives.ensures.0 (c.alternative_at.ensures types functions filled)
    c.word-env.ensures.0 c.word-seen.ensures.0 c.word-next.ensures.0 c.in-Some.is c.put.ensures
