-- `exploring::write_listing` meets its contract, by what the move lists.
use mathlib.Core.Path.{refl}
use Rattle.headers.proofs.Bytes.{kept_all}
use Rattle.exploring.proofs.write_listing.Goals as goal

pub returns-in-None : goal.returns-in-None
returns-in-None c = record { wrote = rw c.in-None.is (refl, refl); kept = kept_all _; stays = λ is. refl }

pub write_entry-requires : goal.write_entry-requires
write_entry-requires c =
    (rw c.in-Some.is at c.requires.0, c.requires.1)

pub returns-in-Some : goal.returns-in-Some
returns-in-Some c = record { wrote = rw c.in-Some.is c.write_entry.ensures.wrote; kept = c.write_entry.ensures.kept; stays = c.write_entry.ensures.stays }
