-- The span of an entry, as src/lib.rt has it, and the place of the part that is handed back.
-- Rests on reach's Lists.
use Rattle.std.specs.Prelude.{ℕ, ◌+◌, List, length, take, Some, None}
use Rattle.std.specs.Prelude as Std
use Rattle.std.proofs.Math.Option.{Option, none, some}
use Rattle.reach.specs.Limits.{list_limit}
use Rattle.reach.specs.Lists.{room_of, on_found, entry_span}
use Rattle.entries.specs.declared.Span.{Span}

abbrev pub span_of : Std.Option Span → Option (ℕ × ℕ)
span_of (Some span) = some (span.at, span.size)
span_of None = none

-- 01: the entry of a given number is handed back as the part of the list that it fills, else the empty part at the list's end. Where that part
-- begins: at the place of entry k, or, where there is none, at the end of the bytes that count
unfoldable pub part_place : List ℕ → ℕ → ℕ
part_place list k = on_found (room_of (length list)) (λ span. span.0) (entry_span (take list_limit list) k 0)

-- where a reference points is a block and an offset in it; so many bytes further on it is the same block
abbrev pub bytes_on : ℕ × ℕ → ℕ → ℕ × ℕ
bytes_on pointer n = (pointer.0, pointer.1 + n)
