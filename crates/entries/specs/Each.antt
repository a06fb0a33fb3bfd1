-- What an iterator over the entries of a list gives.
-- Rests on reach's Lists and on the structs of src/lib.rt.
use Rattle.std.specs.Prelude.{◌+◌, ◌≡◌, Option, Some, None}
use Rattle.std.proofs.Math.Option.{none, some}
use Rattle.reach.specs.Lists.{entry_size}
use Rattle.entries.specs.declared.Span.{Span}
use Rattle.entries.specs.declared.EachEntry.{EachEntry}

-- the entry that stands at the place comes, and the iterator goes on behind it in the same list; where none stands, none comes
abbrev pub Comes : EachEntry → Option Span → EachEntry → Type 0
Comes each (Some span) next =
    (span.at ≡ each.at) × (entry_size each.list.now each.at ≡ some span.size) × (next.at ≡ each.at + span.size) × (next.list.now ≡ each.list.now)
Comes each None next = (entry_size each.list.now each.at ≡ none) × (next.at ≡ each.at) × (next.list.now ≡ each.list.now)
