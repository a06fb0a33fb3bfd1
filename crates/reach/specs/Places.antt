-- Records at places: what a file that was read once holds at the places where its records stand, as total lookups.
-- proofs/Places.antt shows that they give what the readers of RuleFile gave.
-- Rests on RuleFile.
use Rattle.std.specs.Prelude.{ℕ, zero, suc, ◌+◌, ◌*◌, List, [], ◌∷◌, map, get_or, replicate}
use Rattle.std.proofs.Math.Option.{Option}
use Rattle.reach.specs.Limits.{parameter_limit}
use Rattle.reach.specs.RuleFile.{Head, Goal, Declarations, Outline}

-- the n bytes from place i on; past the end they are 0
unfoldable pub bytes_at : List ℕ → ℕ → ℕ → List ℕ
bytes_at s i zero = []
bytes_at s i (suc n) = get_or s i 0 ∷ bytes_at s (i + 1) n

-- n constructors, one after the other: a field count and as many type numbers
unfoldable pub constructors_at : List ℕ → ℕ → ℕ → List (List ℕ)
constructors_at s i zero = []
constructors_at s i (suc n) = bytes_at s (i + 1) (get_or s i 0) ∷ constructors_at s (i + 1 + get_or s i 0) n

-- the two-byte number at place i
unfoldable pub word_at : List ℕ → ℕ → ℕ
word_at s i = get_or s i 0 + 256 * get_or s (i + 1) 0

-- the type whose record, behind its mark, stands at place i
unfoldable pub type_at : List ℕ → ℕ → List (List ℕ)
type_at s i = constructors_at s (i + 1) (get_or s i 0)

-- the function whose record stands at place i
unfoldable pub head_at : List ℕ → ℕ → Head
head_at s i =
    record {
      parameters = bytes_at s (i + 1) (get_or s i 0);
      result = get_or s (i + 1 + get_or s i 0) 0;
      body = i + 4 + get_or s i 0;
      size = word_at s (i + 2 + get_or s i 0);
    }

-- the goal whose record stands at place i
unfoldable pub goal_at : List ℕ → ℕ → Goal
goal_at s i =
    record { source = get_or s i 0; label = get_or s (i + 1) 0; depths = replicate parameter_limit (get_or s (i + 2) 0); steps = word_at s (i + 3) }

-- what a file declares whose types and functions stand at these places
unfoldable pub declarations_at : List ℕ → List ℕ → List ℕ → Declarations
declarations_at s types functions = record { types = map (type_at s) types; heads = map (head_at s) functions }

-- the outline of a file whose types and functions stand at these places, with this named type and this goal
unfoldable pub outline_at : List ℕ → List ℕ → List ℕ → Option ℕ → Goal → Outline
outline_at s types functions named goal = record { declared = declarations_at s types functions; named = named; goal = goal }
