-- What 02, Slip 4, asks of names, as theorems about the definitions. A reviewer reads this file first: the sentence that a theorem answers stands above
-- it, and its statement uses definitions of specs/ only. `check file ≡ accepted p` says that the file is accepted and p is its program; `listed
-- (search_answer file work list)` are the entries that a search lists, with slices of those lengths. What is proved of the calls stands in the Demands of
-- crate namereport, and the table of UTF-8 in crate utf8.
-- Rests on the other files of this folder.
use Prim.Native.Nat.{ℕ, suc, ◌≤◌, ◌<◌}
use mathlib.Core.Path.{◌≡◌, refl, ap, subst, ◌∙◌}
use mathlib.Core.List.{List, [], ◌∷◌, ◌++◌, flat_map, zip_with, append-nil}
use mathlib.Core.Option.{none, some}
use native.Mathlib.Nat.{le_refl}
use native.Mathlib.Omega.{arith}
use lib.ListN.{length, get_or, replicate}
use Rattle.reach.specs.declared.Refusal.{Refusal}
use Rattle.reach.specs.declared.Refusal.TheVariants.{ListFull}
use Rattle.reach.specs.Base.{◌∈◌, Each}
use Rattle.reach.specs.Limits.{depth_limit}
use Rattle.reach.specs.declared.Kind.TheVariants.{RE}
use Rattle.reach.specs.Syntax.{variable, Types, Program, field_types, function_at, source_types}
use Rattle.reach.specs.Parts.{Parts, end, opened, bound, Closed, Completes, depth, ◌⊑◌}
use Rattle.reach.specs.Partial.{deepest}
use Rattle.reach.specs.Types.{Slot, source_slots, depth_of, Typed, ClosedInput, ValueOf, LeastDepth, known, inhabited, round, rounds, least_depths, shallow}
use Rattle.reach.specs.Eval.{run}
use Rattle.reach.specs.Search.{Entry, says}
use Rattle.reach.specs.Names.{Spells}
use Rattle.reach.specs.Answers.{Checked, check, accepted, turned_back, no_search, complete, cut_short, search_answer, listed, refusal_of}
use Rattle.lists.specs.Text.{line_feed, spaced, line_from, digits_by, decimal, refusal_line}
use Rattle.reach.proofs.Base.{each_member}
use Rattle.reach.proofs.Answers.{search_turned_back, listed_in}
use Rattle.reach.proofs.Limits.{accepted_keeps, accepted_even, accepted_rooms}
use Rattle.reach.proofs.Slots.{even_each, source_types_law}
use Rattle.reach.proofs.WellTyped.{accepted_typed}
use Rattle.reach.proofs.Spelling.{spells_form}
use Rattle.lists.proofs.Handed.{listed_handed}
use Rattle.names.specs.Filling.{first_of, first_least, built_by, each_of, least_row, fill, Fillable, is_named, fill_named}
use Rattle.names.specs.Spelling.{spelled, name_of}
use Rattle.names.specs.NameList.{utf8, name_line, filled, names_in, name_lines, entry_names, refusal_end, names_by, names_text}
use Rattle.names.proofs.Filling as Filling
use Rattle.names.proofs.Entries as Entries
use Rattle.names.proofs.Names as Names
use Rattle.names.proofs.Levels as Levels

-- "The named type must have exactly two constructors, 0 without fields and 1 with three: two of types with sixteen constructors, none of which has a field, and
-- the named type again": `Spells`, of each accepted file. Which file is refused by 15 is said in the Demands of crate rulefile.
pub named_spells : (file : List ℕ) (p : Program) → check file ≡ accepted p → (named : ℕ) → p.named ≡ some named → Spells p.types named
named_spells file p checked named is = spells_form p.types named (rw is at (accepted_keeps file p checked).well_spelled_law)

-- "choosing at each place the first constructor of least depth": there is a closed value that begins with it and is as deep as the type's least depth, and none
-- begins so with a constructor before it.
pub first_of_least_depth : (types : Types) (t d : ℕ) → get_or (least_depths types) t 0 ≡ suc d → (c : ℕ) (us : List ℕ) → first_least types (least_depths types) (some t) ≡ some (c, us)
    → ((fs : Parts) × ValueOf types t (bound c fs end) × LeastDepth types t (depth (bound c fs end)))
    × ((b : ℕ) → b < c → ¬ ((fs : Parts) × ValueOf types t (bound b fs end) × LeastDepth types t (depth (bound b fs end))))
first_of_least_depth types t d least c us first = Filling.first_exactly types t d least c us first

-- and each type that has a closed value has such a constructor
pub first_there : (types : Types) (t d : ℕ) → get_or (least_depths types) t 0 ≡ suc d → (c : ℕ) × (us : List ℕ) × (first_least types (least_depths types) (some t) ≡ some (c, us))
first_there types t d least = let (c, us, first, has, will) = Filling.has_first types t d least in (c, us, first)

-- Filling is for any types: values of these types, whose open parts have types with closed values, and which are no deeper than so much, an open part
-- counted as deep as its type's least depth, are closed once they are filled, have these types, bind at least what was bound, and are as deep as before.
pub filled_values : (types : Types) (most : ℕ) (e : Parts) (ts : List ℕ) → Typed types ts e → Fillable types ts e → deepest types ts e ≤ most
    → let f = fill types (least_depths types) most ts e in Closed f × Typed types ts f × (e ⊑ f) × (depth f ≡ deepest types ts e)
filled_values types most e ts typed fillable fits =
    let is = Filling.fill_filled types most e ts typed fillable fits in (is.closed, is.typed, is.binds, is.deep)

-- The entries that a search lists, of a file that names a type.
module _ (file : List ℕ) (p : Program) (checked : check file ≡ accepted p) (work list named : ℕ) (is : p.named ≡ some named) where
  -- "fills every open part of the source parameters of the named type": each of them is then a closed value of that type, and fits the depth
  pub names_filled : (e : Entry) → e ∈ listed (search_answer file work list)
      → Each (λ (v : Parts). ValueOf p.types named v × (depth v ≤ depth_of p.depths)) (names_in named (source_types p) (filled p named e.input))
  unfolding filled
  names_filled e m =
      let fits = each_member _ (listed_handed file p checked work list).each_fits m in
      let typed = accepted_typed file p checked in
      let kept = accepted_keeps file p checked in
      let rooms = accepted_even file p checked in
      let fillable = Entries.fillable p typed kept.no_empty e.input (source_types p) (Entries.source_there p typed kept.no_empty) fits.typed in
      let fit = Entries.names_fit p.types depth_limit named e.input (source_slots p) (accepted_rooms file p checked) (rw (source_types_law p) fits.typed)
      (rw (source_types_law p) fillable) fits.deep in
      rw (source_types_law p) at (Entries.names_within p.types depth_limit named (depth_of p.depths) _ (source_slots p)
      (rw rooms (even_each _ (source_types p) (depth_of p.depths) (λ t. le_refl (depth_of p.depths)))) fit)

  -- That it goes below 64 constructors at most, the largest D, changes nothing: as many as the deepest parameter has give the same.
  pub levels_enough : (e : Entry) → e ∈ listed (search_answer file work list) → (levels : ℕ) → levels ≤ depth_limit → deepest p.types (source_types p) e.input ≤ levels
      → filled p named e.input ≡ fill_named p.types (least_depths p.types) levels named (source_types p) e.input
  unfolding filled
  levels_enough e m levels few deep =
      let fits = each_member _ (listed_handed file p checked work list).each_fits m in
      let typed = accepted_typed file p checked in
      let no_empty = (accepted_keeps file p checked).no_empty in
      Levels.named_same p.types levels depth_limit named few e.input (source_types p) fits.typed
      (Entries.fillable p typed no_empty e.input (source_types p) (Entries.source_there p typed no_empty) fits.typed) deep

  -- and so do as many as the file's own D
  pub filled_by_depth : (e : Entry) → e ∈ listed (search_answer file work list)
      → filled p named e.input ≡ fill_named p.types (least_depths p.types) (depth_of p.depths) named (source_types p) e.input
  filled_by_depth e m =
      let fits = each_member _ (listed_handed file p checked work list).each_fits m in
      let rooms = accepted_even file p checked in
      let d = depth_of p.depths in
      let each : Each (λ (s : Slot). s.room ≤ d) (source_slots p) = rw rooms (even_each (λ (s : Slot). s.room ≤ d) (source_types p) d (λ t. le_refl d)) in
      levels_enough e m d (accepted_keeps file p checked).depth_limit_law.1
      (rw (source_types_law p) at (Levels.row_deepest p.types d (source_slots p) e.input each (rw (source_types_law p) fits.typed) fits.deep))

  -- what is filled binds at least what the entry binds
  pub filled_binds : (e : Entry) → e.input ⊑ filled p named e.input
  unfolding filled
  filled_binds e = Filling.named_below p.types (least_depths p.types) depth_limit named e.input (source_types p)

  -- and the parameters of other types stay as they are
  pub others_kept : (e : Entry) (other : ℕ) → ¬ (other ≡ named) → names_in other (source_types p) (filled p named e.input) ≡ names_in other (source_types p) e.input
  unfolding filled
  others_kept e other apart = Entries.others_kept p.types (least_depths p.types) depth_limit named other apart e.input (source_types p)

  -- "A filled entry, its other parameters completed in any fitting way, behaves as its entry says." Completed in any way, fitting or not, and for each kind.
  pub filled_true : (e : Entry) → e ∈ listed (search_answer file work list)
      → (j : Parts) → ClosedInput p j → Completes j (filled p named e.input) → run p j ≡ says e.kind e.steps
  unfolding filled
  filled_true e m j closed completes = Filling.filled_true file p checked e (listed_in file work list p checked e m) named depth_limit j closed completes

  -- "A value then spells a Latin-1 name": each of the names printed is one of bytes, and the value is the one that spells them
  pub names_spelled_law : (e : Entry) → e ∈ listed (search_answer file work list)
      → Each (λ (v : Parts). (v ≡ name_of (spelled v)) × Each (λ (b : ℕ). b < 256) (spelled v)) (names_in named (source_types p) (filled p named e.input))
  names_spelled_law e m = each_so (names_in named (source_types p) (filled p named e.input)) (names_filled e m)
    where
      each_so : (vs : List Parts) → Each (λ (v : Parts). ValueOf p.types named v × (depth v ≤ depth_of p.depths)) vs
          → Each (λ (v : Parts). (v ≡ name_of (spelled v)) × Each (λ (b : ℕ). b < 256) (spelled v)) vs
      each_so [] all = tt
      each_so (v ∷ vs) ((value, deep), all) = (Names.name_only p.types named (named_spells file p checked named is) v value, each_so vs all)

  -- "high half first": every list of bytes that is short enough for the depth is spelt by one closed value that fits, and by no other
  pub spelt_once : (bytes : List ℕ) → Each (λ (b : ℕ). b < 256) bytes → length bytes < depth_of p.depths
      → (v : Parts) × ValueOf p.types named v × (depth v ≤ depth_of p.depths) × (spelled v ≡ bytes)
      × ((w : Parts) → ValueOf p.types named w → spelled w ≡ bytes → w ≡ v)
  spelt_once bytes all short =
      let form = named_spells file p checked named is in (
        name_of bytes,
        Names.name_value p.types named form bytes all,
        omega (arith, Names.name_deep p.types named form bytes, short),
        Names.name_spelled p.types named form bytes,
        λ w value same. (Names.name_only p.types named form w value).0 ∙ subst (λ (bs : List ℕ). name_of (spelled w) ≡ name_of bs) same refl,
      )

-- What `namelist` prints: "prints each of them on a line, its Latin-1 bytes and then its UTF-8 bytes in decimal". É, 201, is 195 and 137; É and A:
-- "201 65 195 137 65".
pub e_acute : name_line (201 ∷ 65 ∷ []) ≡ 0x32 ∷ 0x30 ∷ 0x31 ∷ 0x20 ∷ 0x36 ∷ 0x35 ∷ 0x20 ∷ 0x31 ∷ 0x39 ∷ 0x35 ∷ 0x20 ∷ 0x31 ∷ 0x33 ∷ 0x37 ∷ 0x20 ∷ 0x36 ∷ 0x35 ∷ line_feed ∷ []
unfolding name_line utf8 line_from spaced decimal digits_by flat_map
e_acute = refl

-- The lines of an entry, computed: of a program with the halves of a byte, names and truth values, whose source has a name, a truth value and a name for
-- parameters, and of the entry `1 12 _ _`, `_`, `0`: À, since the open half is 0 and the open rest ends the name, and an empty line for the empty name.
abbrev two_names : Program
two_names =
    record {
      types = replicate 16 [] ∷ ([] ∷ (0 ∷ 0 ∷ 1 ∷ []) ∷ []) ∷ ([] ∷ [] ∷ []) ∷ [];
      functions = record { parameters = 1 ∷ 2 ∷ 1 ∷ []; result = 2; body = variable 1 } ∷ [];
      named = some 1;
      source = 0;
      label = 7;
      depths = replicate 8 3;
      steps = 20;
    }

pub two_names_law : entry_names two_names (record { kind = RE; steps = 9; input = bound 1 (bound 12 end (opened (opened end))) (opened (bound 0 end end)) })
    ≡ 0x31 ∷ 0x39 ∷ 0x32 ∷ 0x20 ∷ 0x31 ∷ 0x39 ∷ 0x35 ∷ 0x20 ∷ 0x31 ∷ 0x32 ∷ 0x38 ∷ line_feed ∷ line_feed ∷ []
unfolding entry_names name_lines names_in filled fill_named fill built_by least_row each_of first_least first_of is_named spelled name_line utf8 line_from spaced decimal digits_by
    flat_map source_types function_at field_types least_depths rounds round inhabited known shallow zip_with
two_names_law = refl

-- "It has the [..] refusal line of `reachlist`, but no total": of a complete list the names alone, of one cut short `refused 12` behind them, and else
-- the line of the refusal alone.
module _ (file : List ℕ) (work list : ℕ) where
  pub complete_names : (p : Program) → check file ≡ accepted p → (es : List Entry) → search_answer file work list ≡ complete es
      → names_text file work list ≡ flat_map (entry_names p) es
  unfolding names_text names_by refusal_end listed refusal_of
  complete_names p checked es is = rw (checked, is) (append-nil (flat_map (entry_names p) es))

  pub full_names : (p : Program) → check file ≡ accepted p → (es : List Entry) → search_answer file work list ≡ cut_short es
      → names_text file work list ≡ flat_map (entry_names p) es ++ refusal_line ListFull
  unfolding names_text names_by refusal_end listed refusal_of
  full_names p checked es is = rw (checked, is) refl

  pub refused_names : (why : Refusal) → search_answer file work list ≡ no_search why → names_text file work list ≡ refusal_line why
  unfolding names_text names_by refusal_end listed refusal_of flat_map
  refused_names why is = by_check (check file) refl
    where
      by_check : (c : Checked) → check file ≡ c → names_by (search_answer file work list) c ≡ refusal_line why
      by_check (accepted p) checked = rw is refl
      by_check (turned_back by) checked = let same : by ≡ why = cc (search_turned_back file work list by checked, is) in ap refusal_line same

-- "without NA it prints no name"
pub without_names : (p : Program) → p.named ≡ none → (e : Entry) → entry_names p e ≡ []
unfolding entry_names
without_names p nothing e = rw nothing refl
