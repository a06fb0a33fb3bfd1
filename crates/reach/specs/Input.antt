-- Reading a closed input: one closed value per parameter, in prefix form, each of its type and at most as deep as its parameter may be; else
-- refusal 10. 02, Slip 3: with each value its depth is read, and with the input that of its deepest parameter.
-- Rests on Syntax, Types, Reader and Partial.
use Rattle.std.specs.Prelude.{ℕ, List}
use Rattle.std.proofs.Math.Option.{Option, none, some, map}
use Rattle.reach.specs.declared.Refusal.TheVariants.{BadInput}
use Rattle.reach.specs.Limits.{depth_limit}
use Rattle.reach.specs.Syntax.{Types, Program}
use Rattle.reach.specs.Parts.{Parts}
use Rattle.reach.specs.Types.{Slot, source_slots}
use Rattle.reach.specs.Reader.{on_got, ◌>>=◌, ◌>>◌, give, at_end}
use Rattle.reach.specs.Partial.{in_inputs, slotted}

-- the closed values of these slots whose bytes these are, if they fit the slots and nothing is left over, and how deep the deepest is; the reading goes
-- below at most so many constructors, one inside another
unfoldable pub input_by : ℕ → Types → List Slot → List ℕ → Option (Parts × ℕ)
input_by levels types ss s = on_got (λ row next. some row) (λ why. none) ((slotted types in_inputs levels ss >>= λ row. at_end BadInput >> give row) s 0)

-- the closed input of the program, and the depth of its deepest parameter. Below the largest D nothing that fits is missed, however long or deep the bytes are.
unfoldable pub read_input : Program → List ℕ → Option (Parts × ℕ)
read_input p s = input_by depth_limit p.types (source_slots p) s

-- the input alone
unfoldable pub input_of : Program → List ℕ → Option Parts
input_of p s = map (λ row. row.0) (read_input p s)
