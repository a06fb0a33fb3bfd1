-- What one entry more makes of a verdict. Rests on reach's Search.
use Rattle.std.specs.Prelude.{◌≡◌, Option, Some, None}
use Rattle.reach.specs.declared.Verdict.{Verdict}
use Rattle.reach.specs.declared.Kind.{Kind}
use Rattle.reach.specs.declared.Counts.{Counts}
use Rattle.reach.specs.Search.{one_more, verdict_by}

-- the verdict of what was listed before, whatever that was, becomes that of one entry more
abbrev pub WithEntry : Verdict → Kind → Verdict → Type 0
WithEntry v kind r = (c : Counts) → v ≡ verdict_by c → r ≡ verdict_by (one_more kind c)

-- the verdict after what a path lists
abbrev pub VerdictAfter : Verdict → Option Kind → Verdict → Type 0
VerdictAfter v None r = r ≡ v
VerdictAfter v (Some kind) r = WithEntry v kind r
