-- What the tables of places that passed say of the program: its types, its functions and their bodies, its goal, and the parameters of its
-- source. For the test of depth, and for whoever goes on with a loaded file.
-- Rests on Loading of specs/, on goal's Goals, on codes' Encoding for the bodies and reach's Numbers for the source, and on depths' Padded.
use Prim.Native.Nat.{ℕ, zero, suc, ◌<◌, ◌≤◌}
use mathlib.Core.Path.{◌≡◌, refl, sym, ap}
use mathlib.Core.List.{List, [], ◌∷◌, map}
use mathlib.Core.Option.{Option, none, some}
use lib.ListN.{length, get_or, get_elem?, length-map}
use native.Mathlib.Omega.{arith}
use Rattle.reach.specs.Syntax.{Function, Program, function_at, source_types}
use Rattle.reach.specs.Types.{source_slots, least_depths}
use Rattle.reach.specs.RuleFile.{Head, Goal, Declarations, Outline, program_of, deep_enough}
use Rattle.reach.specs.Places.{type_at, head_at, declarations_at, outline_at}
use Rattle.reach.proofs.Base.{clash}
use Rattle.reach.proofs.Numbers.{numbers_exist_exactly}
use Rattle.codes.proofs.Encoding.{BodyAt, Bodies, function_at_head, bodies_are}
use Rattle.lookups.proofs.Tables.{found, missing}
use Rattle.goal.specs.Goals.{Asks, named_of}
use Rattle.depths.specs.Table.{padded}
use Rattle.depths.proofs.Padded.{padded_lookup, padded_roomy}
use Rattle.rulefile.specs.declared.Loaded.{Loaded}
use Rattle.rulefile.specs.Loading.{PassesLeave, source_shallow, type_places, function_places, Tabled}

-- ---- tables of places that passed

-- where there is no head, there is no function
no_function : (d : Declarations) (s : List ℕ) (hs : List Head) (gs : List Function) → Bodies d s hs gs → (f : ℕ) → get_elem? hs f ≡ none → get_elem? gs f ≡ none
no_function d s [] [] all f e = refl
no_function d s [] (g ∷ gs) all f e = absurd all
no_function d s (h ∷ hs) [] all f e = absurd all
no_function d s (h ∷ hs) (g ∷ gs) all zero e = absurd (clash (cc))
no_function d s (h ∷ hs) (g ∷ gs) all (suc f) e = no_function d s hs gs all.1 f e

module _ {s types functions : List ℕ} {named : Option ℕ} {goal : Goal} {fs : List Function} (passed : PassesLeave s types functions named goal fs) where
  abbrev declared : Declarations
  declared = declarations_at s types functions

  abbrev whole : Outline
  whole = outline_at s types functions named goal

  -- the source is one of the functions
  pub source_there : goal.source < length functions
  unfolding declarations_at outline_at
  source_there = omega (arith, ((numbers_exist_exactly whole).0 passed.exist).1, length-map functions (head_at s))

  all_bodies : Bodies declared s declared.heads fs
  unfolding outline_at
  all_bodies = bodies_are s whole passed.behind passed.read passed.behind fs passed.end passed.bodies

  -- each place has its function, with the head's parameters and result and the body that stands behind the head; there are no others
  pub function_found : (f : ℕ) → f < length functions → (g : Function) × (get_elem? fs f ≡ some g) × BodyAt declared s (head_at s (get_or functions f 0)) g
  unfolding declarations_at
  function_found f h = function_at_head declared s declared.heads fs all_bodies f (head_at s (get_or functions f 0)) (found (head_at s) functions 0 f h)

  pub function_missing : (f : ℕ) → length functions ≤ f → get_elem? fs f ≡ none
  unfolding declarations_at
  function_missing f h = no_function declared s declared.heads fs all_bodies f (missing (head_at s) functions f h)

  source_parameters : source_types (program_of whole fs) ≡ (head_at s (get_or functions goal.source 0)).parameters
  unfolding source_types function_at program_of outline_at
  source_parameters = let g = function_found goal.source source_there in rw g.1 g.2.parameters

  -- the test of depth on the padded table is the one of the definition
  pub depth_tested : source_shallow s functions goal (padded (least_depths (map (type_at s) types))) ≡ deep_enough (program_of whole fs)
  unfolding deep_enough source_slots program_of declarations_at outline_at
  depth_tested = rw source_parameters (padded_roomy (least_depths (map (type_at s) types)) _)

-- ---- the program of a loaded file

module _ {s : List ℕ} {r : Loaded} {p : Program} (t : Tabled s r p) where
  pub program_types : p.types ≡ map (type_at s) (type_places r)
  unfolding program_of declarations_at outline_at
  program_types = ap (λ q. q.types) t.program

  pub types_many : length p.types ≡ length (type_places r)
  types_many = rw program_types (length-map (type_places r) (type_at s))

  -- the goal that is handed on asks for what the program does
  pub program_goal : Asks r.goal p
  unfolding program_of outline_at
  program_goal =
      record {
        source_is = sym (ap (λ q. q.source) t.program);
        label_is = sym (ap (λ q. q.label) t.program);
        depths_are = sym (ap (λ q. q.depths) t.program);
        steps_is = sym (ap (λ q. q.steps) t.program);
      }

  -- the type that NA names is handed on
  pub program_named : p.named ≡ named_of r.named
  unfolding program_of outline_at
  program_named = ap (λ q. q.named) t.program

  -- the functions, by their places
  functions_are : p.functions ≡ t.functions
  unfolding program_of
  functions_are = ap (λ q. q.functions) t.program

  pub program_function : (f : ℕ) → f < length (function_places r)
      → (g : Function) × (function_at p f ≡ some g) × BodyAt (declarations_at s (type_places r) (function_places r)) s (head_at s (get_or (function_places r) f 0)) g
  unfolding function_at
  program_function f h = let g = function_found t.passed f h in (g.0, rw functions_are g.1, g.2)

  pub program_no_function : (f : ℕ) → length (function_places r) ≤ f → function_at p f ≡ none
  unfolding function_at
  program_no_function f h = rw functions_are (function_missing t.passed f h)

  -- the source is one of them, and these are its parameters
  pub program_source_there : p.source < length (function_places r)
  program_source_there = omega (arith, source_there t.passed, program_goal.source_is)

  pub program_source_types : source_types p ≡ (head_at s (get_or (function_places r) p.source 0)).parameters
  unfolding program_of outline_at
  program_source_types = rw (← program_goal.source_is, t.program) (source_parameters t.passed)

  -- the least depths, by type
  pub program_least : (n : ℕ) → get_or r.least.of n 0 ≡ get_or (least_depths p.types) n 0
  program_least n = rw t.depths (padded_lookup (least_depths p.types) n)
