-- The measure of `listing::write_row` is the fuel: each of its calls of itself has one less.
use Rattle.listing.proofs.+write_row.Given as goal

abbrev pub decreases-write_row : goal.decreases-write_row
decreases-write_row l = l.fuel
