-- The tables of a loaded file, as what the names of its list are written by.
-- Rests on Entries, on names' Entries, on rulefile's Tabled and on reach's Limits and WellTyped and on lists' Handed.
use Prim.Native.Nat.{ℕ, ◌*◌, ◌≤◌}
use mathlib.Core.Path.{◌≡◌, refl, sym, ap, ◌∙◌}
use mathlib.Core.List.{List, [], ◌∷◌, map, flat_map}
use mathlib.Core.Option.{Option, none, some}
use native.Mathlib.Omega.{arith}
use lib.ListN.{length, get_or}
use Rattle.reach.specs.Base.{Each}
use Rattle.reach.specs.Syntax.{Types, Program, source_types}
use Rattle.reach.specs.Limits.{depth_limit}
use Rattle.reach.specs.Parts.{Parts, end, opened, bound}
use Rattle.reach.specs.Types.{Slot, slots, even_slots, slot_types, source_slots}
use Rattle.reach.specs.Partial.{Keeps}
use Rattle.reach.specs.Search.{Entry}
use Rattle.reach.specs.Names.{Spells}
use Rattle.reach.specs.Answers.{check, accepted}
use Rattle.lists.specs.Handed.{Fitting, IsList}
use Rattle.reach.specs.Places.{type_at, head_at}
use Rattle.reach.proofs.Base.{member_each, each_member}
use Rattle.reach.proofs.Limits.{KeepsLimits, accepted_keeps, accepted_rooms}
use Rattle.reach.proofs.Slots.{source_types_law}
use Rattle.reach.proofs.WellTyped.{accepted_typed, open_apart}
use Rattle.reach.proofs.Spelling.{spells_form}
use Rattle.names.specs.NameList.{filled, entry_names}
use Rattle.names.proofs.Entries.{fillable, source_there}
use Rattle.std.specs.Prelude.{Some}
use Rattle.goal.specs.Goals.{named_of}
use Rattle.lookups.specs.declared.Head.{Head}
use Rattle.lookups.specs.Heads.{head_of}
use Rattle.rulefile.specs.declared.Loaded.{Loaded}
use Rattle.rulefile.specs.Loading.{type_places, function_places, Tabled}
use Rattle.rulefile.proofs.Tabled.{program_types, program_goal, program_named, program_source_types, program_least}
use Rattle.namelines.specs.declared.Asked.{Asked}
use Rattle.namelines.specs.Rows.{row_names, types_asked, Legible}
use Rattle.namelines.specs.Lists.{list_names, Fitted, Listed}
use Rattle.namelines.proofs.Entries.{names_length, names_are}

-- what keeps to depths within the largest D keeps to that
keeps_limit : (types : Types) (ss : List Slot) (e : Parts) → Each (λ (s : Slot). s.room ≤ depth_limit) ss → Keeps types ss e
    → Keeps types (even_slots (slot_types ss) depth_limit) e
unfolding even_slots slots slot_types
keeps_limit types [] e all keeps = tt
keeps_limit types (s ∷ ss) end all keeps = tt
keeps_limit types (s ∷ ss) (opened r) all keeps = (omega (arith, all.0, keeps.0), keeps_limit types ss r all.1 keeps.1)
keeps_limit types (s ∷ ss) (bound c fs r) all keeps = (omega (arith, all.0, keeps.0), keeps_limit types ss r all.1 keeps.1)

-- lines that are alike for each entry
alike : (f g : Entry → List ℕ) → ((e : Entry) → f e ≡ g e) → (es : List Entry) → flat_map f es ≡ flat_map g es
unfolding flat_map
alike f g same [] = refl
alike f g same (e ∷ es) = rw (same e, alike f g same es) refl

abbrev no_line : Entry → List ℕ
no_line e = []

all_empty : (es : List Entry) → flat_map no_line es ≡ []
unfolding flat_map
all_empty [] = refl
all_empty (e ∷ es) = all_empty es

-- The entries of a list of an accepted file.
module _ (file : List ℕ) (p : Program) (checked : check file ≡ accepted p) (list : List ℕ) (es : List Entry) (is : IsList p list es) where
  kept : KeepsLimits p
  kept = accepted_keeps file p checked

  fitted_one : (e : Entry) → Fitting p e → Fitted p.types (source_types p) e
  fitted_one e fits =
      let typed = accepted_typed file p checked in
      record {
        typed = fits.typed;
        keeps = rw (source_types_law p) at (keeps_limit p.types (source_slots p) e.input (accepted_rooms file p checked) fits.deep);
        fillable = fillable p typed kept.no_empty e.input (source_types p) (source_there p typed kept.no_empty) fits.typed;
        counted = fits.counted;
        in_time = omega (arith, fits.in_time, kept.steps_limit);
      }

  fitted : Each (Fitted p.types (source_types p)) es
  fitted = member_each _ es (λ e m. fitted_one e (each_member (Fitting p) is.each_fits m))

  -- where NA names a type
  module _ (named : ℕ) (names_it : p.named ≡ some named) where
    spells_names : Spells p.types named
    spells_names = spells_form p.types named (rw names_it at kept.well_spelled_law)

    entry_lines : flat_map (λ e. row_names p.types named (source_types p) e.input) es ≡ flat_map (entry_names p) es
    unfolding entry_names filled
    entry_lines = alike (λ e. row_names p.types named (source_types p) e.input) (entry_names p) (λ e. rw names_it refl) es

  -- without NA there are no lines
  pub no_lines : p.named ≡ none → flat_map (entry_names p) es ≡ []
  unfolding entry_names
  no_lines nothing = alike (entry_names p) no_line (λ e. rw nothing refl) es ∙ all_empty es

  -- the lines are at most four times as long as the list
  pub lines_length : length (flat_map (entry_names p) es) ≤ 4 * length list
  lines_length = by_name p.named refl
    where
      by_name : (o : Option ℕ) → p.named ≡ o → length (flat_map (entry_names p) es) ≤ 4 * length list
      by_name none nothing = omega (arith, ap length (no_lines nothing))
      by_name (some named) names_it =
          omega (arith, ap length (entry_lines named names_it), names_length p.types named (spells_names named names_it) (source_types p) es fitted, ap length is.bytes_are)

-- The same by the tables of the loaded file.
module _ (file : List ℕ) (r : Loaded) (p : Program) (checked : check file ≡ accepted p) (tabled : Tabled file r p) (list : List ℕ) (es : List Entry) (is : IsList p list es)
    (named : ℕ) (naming : r.named ≡ Some named) (head : Head) (head_read : head_of file head ≡ head_at file (get_or (function_places r) r.goal.source 0)) where
  abbrev asked : Asked
  asked = record { parameters = head.parameters; named = named }

  names_it : p.named ≡ some named
  names_it = program_named tabled ∙ ap named_of naming

  legible : Legible p.types (Some r.least.of) named
  legible = record {
    spells = spells_names file p checked list es is named names_it;
    apart = open_apart file p checked;
    least = program_least tabled;
    lent = r.least.of;
    some_table = refl;
  }

  -- the tables say what the program does
  types_are : p.types ≡ map (type_at file) (type_places r)
  types_are = program_types tabled

  source_is : source_types p ≡ types_asked file asked
  source_is =
      program_source_types tabled ∙ ap (λ (s : ℕ). (head_at file (get_or (function_places r) s 0)).parameters) (sym (program_goal tabled).source_is)
      ∙ sym (ap (λ h. h.parameters) head_read)

  pub listed : Listed file (type_places r) (Some r.least.of) list asked
  listed = record {
    entries = es;
    bytes = is.bytes_are;
    fitted = rw (← types_are, ← source_is) (fitted file p checked list es is);
    legible = rw (← types_are) legible;
    in_limit = is.in_limit;
  }

  -- and the lines by the tables are those of the entries
  pub names_same : list_names (map (type_at file) (type_places r)) named (types_asked file asked) list ≡ flat_map (entry_names p) es
  names_same =
      rw (← types_are, ← source_is)
      (names_are p.types (Some r.least.of) named legible (source_types p) list es is.bytes_are (fitted file p checked list es is)
      ∙ entry_lines file p checked list es is named names_it)
