-- The third pass as its functions see it: the bodies, each inside its own length, by the readers of crate reach over what the places declare.
-- Rests on reach's RuleFile and Places and on expressions' Readers.
use Rattle.std.specs.Prelude.{ℕ, ◌+◌, ◌≤◌, ◌<◌, List, map, length, get_or, Result, Ok, Err}
use Rattle.reach.specs.declared.Refusal.{Refusal}
use Rattle.reach.specs.Syntax.{Expr, Function}
use Rattle.reach.specs.Reader.{Got}
use Rattle.reach.specs.RuleFile.{body_of, functions_of}
use Rattle.reach.specs.Places.{head_at}
use Rattle.expressions.specs.Readers.{declared}

-- the body of the record at a place ends inside the file
abbrev pub BodyThere : List ℕ → ℕ → Type 0
BodyThere file place = (head_at file place).body + (head_at file place).size ≤ length file

abbrev pub BodiesThere : List ℕ → List ℕ → Type 0
BodiesThere file functions = (f : ℕ) → f < length functions → BodyThere file (get_or functions f 0)

module _ (file types functions : List ℕ) where
  -- the body of the function whose record stands at a place
  abbrev pub body_at : ℕ → Got Expr
  body_at place = body_of (declared file types functions) (head_at file place) file

  -- all functions
  abbrev pub functions_at : Got (List Function)
  functions_at = functions_of (declared file types functions) (map (head_at file) functions) file 0

-- whether all was read, the place apart
abbrev pub bodies_of : Result ℕ Refusal → Result (Unit {0}) Refusal
bodies_of (Ok next) = Ok tt
bodies_of (Err why) = Err why
