-- `values::note` meets its contract: its two stores are those of `note_place`.
-- Rests on specs/Notes.
use mathlib.Core.Path.{refl}
use Rattle.values.specs.Notes.{note_place}
use Rattle.values.proofs.note.Goals as goal

pub returns : goal.returns
unfolding note_place
returns c = refl
