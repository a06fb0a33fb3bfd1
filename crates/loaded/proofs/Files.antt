-- The tables of a loaded file are those that a step asks for: the types stand at their places, and so does every function's body.
-- Rests on rulefile's Tabled, machine's Codes, registers' Stepping and specs/Beginning.
use Prim.Native.Nat.{ℕ}
use mathlib.Core.Path.{◌≡◌}
use mathlib.Core.List.{List}
use lib.ListN.{get_or}
use Rattle.reach.specs.Syntax.{Program}
use Rattle.reach.specs.Places.{head_at, declarations_at}
use Rattle.reach.specs.Answers.{check, accepted}
use Rattle.machine.proofs.Codes.{code_body}
use Rattle.rulefile.specs.declared.Loaded.{Loaded}
use Rattle.rulefile.specs.Loading.{type_places, function_places, Tabled}
use Rattle.rulefile.proofs.Tabled.{program_types, program_function, program_source_there, program_source_types}
use Rattle.registers.specs.Stepping.{FileOf}
use Rattle.loaded.specs.Beginning.{GivenFile}

-- a loaded file is the file of its program
file_of : {file : List ℕ} {r : Loaded} {p : Program} → Tabled file r p → FileOf file (type_places r) (function_places r) p
file_of {file} {r} t = record {
  types_there = program_types t;
  function_there = λ f below.
      let found = program_function t f below in
      let head = head_at file (get_or (function_places r) f 0) in (
        found.0,
        found.1,
        code_body file (declarations_at file (type_places r) (function_places r)) head found.0 found.2,
      );
  small = t.size;
}

-- and it is what both runs are given
pub given_file :
    {file : List ℕ} {r : Loaded} {p : Program} → check file ≡ accepted p → Tabled file r p → GivenFile file (type_places r) (function_places r) p
given_file checked t = record {
  checked = checked;
  file_of = file_of t;
  source_there = program_source_there t;
  parameters_there = program_source_types t;
}
