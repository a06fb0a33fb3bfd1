-- The limits of 01, each once.
-- Rests on numbers alone.
use Rattle.std.specs.Prelude.{ℕ, ◌+◌, ◌*◌}

-- bytes of a file
abbrev pub file_limit : ℕ
file_limit = 16384

-- types of a file
abbrev pub type_limit : ℕ
type_limit = 32

-- constructors of a type
abbrev pub constructor_limit : ℕ
constructor_limit = 16

-- fields of a constructor
abbrev pub field_limit : ℕ
field_limit = 6

-- functions of a file
abbrev pub function_limit : ℕ
function_limit = 64

-- parameters of a function
abbrev pub parameter_limit : ℕ
parameter_limit = 8

-- bytes of a body
abbrev pub body_limit : ℕ
body_limit = 1024

-- the depth D
abbrev pub depth_limit : ℕ
depth_limit = 64

-- the step limit S
abbrev pub step_limit : ℕ
step_limit = 4096

-- variables in view
abbrev pub view_limit : ℕ
view_limit = 32

-- expressions one inside another, the body itself being 1
abbrev pub nesting_limit : ℕ
nesting_limit = 32

-- bytes of a list slice that count
abbrev pub list_limit : ℕ
list_limit = 16777216

-- the words of work slice that a search or a closed run with step limit S needs
abbrev pub work_words : ℕ → ℕ
work_words s = 64 * s + 1024
