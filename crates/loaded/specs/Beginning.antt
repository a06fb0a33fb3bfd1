-- What both runs begin with: a checked file with its tables, and the words and registers at the beginning.
-- Rests on reach's Answers, Types and Places, on cells' Writes, on machine's Records and on registers' Stepping.
use Rattle.std.specs.Prelude.{ℕ, ◌<◌, ◌≡◌, List, length, get_or}
use Rattle.reach.specs.Syntax.{Program, source_types}
use Rattle.reach.specs.Types.{slots}
use Rattle.reach.specs.Places.{bytes_at, head_at}
use Rattle.reach.specs.Answers.{check, accepted}
use Rattle.machine.specs.Records.{no_case, Wrote}
use Rattle.cells.specs.Writes.{Starts}
use Rattle.registers.specs.declared.Registers.{Registers}
use Rattle.registers.specs.Stepping.{FileOf, expression_kind}

-- A checked file with its program and the places of its types and functions.
pub record GivenFile (file types functions : List ℕ) (p : Program) : Type 0 where
  pub checked : check file ≡ accepted p
  pub file_of : FileOf file types functions p
  pub source_there : p.source < length functions
  pub parameters_there : source_types p ≡ (head_at file (get_or functions p.source 0)).parameters

-- The words at the beginning: the source's n parameters, whose types stand from place `first` of the file on, have open cells, each as deep as it may be,
-- and records 0 and 1 are the empty environment and the parameters' group.
pub record Opened (file w w' : List ℕ) (base first n : ℕ) (depths : List ℕ) : Type 0 where
  pub w₁ : List ℕ
  pub w₂ : List ℕ
  pub starts : Starts w w₁ n (slots (bytes_at file first n) depths)
  pub zeros : Wrote w₁ w₂ base 0 0 0 0 0
  pub group : Wrote w₂ w' base 1 0 n 0 0

-- the registers at the beginning: the expression at place i, the source's body, is evaluated in record 1
abbrev pub start_registers : ℕ → Registers
start_registers i = record { kind = expression_kind; place = i; env = 1; frame = no_case; records = 2 }
