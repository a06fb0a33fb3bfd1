-- Where the values of a closed row stand in bytes: the row from its place on, and the place of each part.
-- Rests on reach's Syntax, Parts, Types and Limits.
use Rattle.std.specs.Prelude.{ℕ, ◌+◌, ◌≤◌, ◌≡◌, List, ◌++◌, length, drop}
use Rattle.reach.specs.Limits.{depth_limit}
use Rattle.reach.specs.Syntax.{Types}
use Rattle.reach.specs.Parts.{Parts, end, opened, bound, Place, here, after, inside, Closed, depth, prefix}
use Rattle.reach.specs.Types.{Typed}

-- A closed row stands in the bytes s from place i on, in prefix form: values of these types, none deeper than values are read.
pub record ClosedRowStands (types : Types) (ts s : List ℕ) (i : ℕ) (j : Parts) : Type 0 where
  pub closed : Closed j
  pub typed : Typed types ts j
  pub shallow : depth j ≤ depth_limit
  pub behind : List ℕ
  pub bytes : drop i s ≡ prefix j ++ behind

-- the place in the bytes of the part at q, in a row whose prefix form begins at i
unfoldable pub byte_of : Parts → Place → ℕ → ℕ
byte_of j here i = i
byte_of end (after q) i = i
byte_of (opened r) (after q) i = byte_of r q (i + 1)
byte_of (bound c fs r) (after q) i = byte_of r q (i + 1 + length (prefix fs))
byte_of end (inside q) i = i
byte_of (opened r) (inside q) i = i
byte_of (bound c fs r) (inside q) i = byte_of fs q (i + 1)
