-- A number that falls with every move of the search, read off the words alone: a path with n steps left weighs 258 to the power n, and a choice
-- point one more than as many paths as constructors may be left to it (256 less the head of its cell), each with one step less.
-- Rests on points' Points.
use Rattle.std.specs.Prelude.{ℕ, zero, suc, ◌+◌, ◌*◌, ◌-◌, List}
use Rattle.machine.specs.Cells.{cell_word}
use Rattle.points.specs.Points.{choice_word, reopened}

-- the weight of a path with n steps left
unfoldable pub power : ℕ → ℕ
power zero = 1
power (suc n) = 258 * power n

-- the weight of the choice points up to height h
unfoldable pub weight : ℕ → ℕ → List ℕ → ℕ → ℕ
weight stack limit w zero = 0
weight stack limit w (suc h) =
    1 + (256 - cell_word w (choice_word stack w h 0) 0) * power (limit - suc (choice_word stack w h 5)) + weight stack limit (reopened stack w h) h
