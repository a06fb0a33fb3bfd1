-- The demands about closed inputs in bytes, as theorems about the definitions: refusal 10 under exactly its condition, and how deep an input is. The sentence
-- that a theorem answers stands above it, and its statement uses definitions of reach's specs/ only.
-- Rests on ClosedInputs.
use Prim.Native.Nat.{ℕ, ◌+◌, ◌≤◌, ◌<◌}
use mathlib.Core.Path.{◌≡◌}
use mathlib.Core.Logic.{◌↔◌}
use mathlib.Core.List.{List, ◌++◌}
use mathlib.Core.Option.{none, some}
use lib.ListN.{length, drop}
use Rattle.reach.specs.Limits.{depth_limit}
use Rattle.reach.specs.Syntax.{Program}
use Rattle.reach.specs.Parts.{Parts, end, bound, depth, prefix}
use Rattle.reach.specs.Types.{source_slots, depth_of, ClosedInput, WithinDepth, ValueOf}
use Rattle.reach.specs.Reader.{got}
use Rattle.reach.specs.Partial.{built, in_inputs, value}
use Rattle.reach.specs.Input.{input_by, read_input, input_of}
use Rattle.reach.specs.Answers.{accepted, check}
use Rattle.readings.proofs.ClosedInputs as ClosedInputs

-- 01, "Turned back", refusal 10: "the bytes are not one closed, fitting value per parameter". Bytes are read as an input exactly where they
-- are the prefix form of a closed input within the depth, and then as that input.
pub input_exactly : (file : List ℕ) (p : Program) → check file ≡ accepted p
    → (bytes : List ℕ) (j : Parts) → (input_of p bytes ≡ some j) ↔ (WithinDepth p j × (prefix j ≡ bytes))
input_exactly file p h bytes j = ClosedInputs.input_exactly file p h bytes j

-- 02, Slip 3: "Reading one parameter's value now also yields its depth". Where a closed value of type t stands in the bytes, no deeper than 64, it is read,
-- with its depth and the place behind it.
pub value_depth : (file : List ℕ) (p : Program) → check file ≡ accepted p
    → (bytes : List ℕ) (i t c : ℕ) (fields : Parts) (rest : List ℕ) → ValueOf p.types t (bound c fields end) → depth (bound c fields end) ≤ depth_limit
    → drop i bytes ≡ prefix (bound c fields end) ++ rest
    → value p.types in_inputs depth_limit t bytes i ≡ got (built c fields (depth (bound c fields end))) (i + length (prefix (bound c fields end)))
value_depth file p h bytes i t c fields rest is shallow there = ClosedInputs.value_depth file p h bytes i t c fields rest is shallow there

-- The same: "and the closed run returns the largest of them, 0 without parameters." Bytes are read as an input, and this deep, exactly if they are the
-- prefix form of a closed input within the depth and that is its depth.
pub depth_exactly : (file : List ℕ) (p : Program) → check file ≡ accepted p
    → (bytes : List ℕ) (j : Parts) (d : ℕ) → (read_input p bytes ≡ some (j, d)) ↔ (WithinDepth p j × (prefix j ≡ bytes) × (d ≡ depth j))
depth_exactly file p h bytes j d = ClosedInputs.read_exactly file p h bytes (j, d)

-- The same: "the closed run and the check for refusal 10 rely on the new figure". Bytes of closed values of the parameters' types are an input exactly if
-- the depth of the deepest is at most D.
pub too_deep_exactly : (file : List ℕ) (p : Program) → check file ≡ accepted p
    → (bytes : List ℕ) (j : Parts) → ClosedInput p j → prefix j ≡ bytes → (read_input p bytes ≡ none) ↔ (depth_of p.depths < depth j)
too_deep_exactly file p h bytes j values same = ClosedInputs.too_deep_exactly file p h bytes j values same

-- That values are read below 64 constructors only, the largest D, changes no answer.
pub bound_changes_nothing : (file : List ℕ) (p : Program) → check file ≡ accepted p
    → (levels : ℕ) → depth_limit ≤ levels → (bytes : List ℕ) → input_by levels p.types (source_slots p) bytes ≡ read_input p bytes
bound_changes_nothing file p h levels enough bytes = ClosedInputs.bound_changes_nothing file p h levels enough bytes
