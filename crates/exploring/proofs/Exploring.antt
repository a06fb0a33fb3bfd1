-- The loop of `explore`: the search came from its beginning to where it stands, with the entries listed so far; they and those still to come are the
-- program's list.
-- Rests on specs/Exploring, on Cutting, on reach's Moves and Slots and on listing's laws.
use Prim.Native.Nat.{ℕ, ◌+◌, ◌-◌, ◌≤◌, ◌<◌}
use mathlib.Core.Path.{◌≡◌, refl, sym, ◌∙◌, ap, subst}
use mathlib.Core.Bool.{Bool, false}
use mathlib.Core.List.{List, [], ◌∷◌, ◌++◌, append-nil, append_assoc, flat_map}
use native.Mathlib.Omega.{arith}
use lib.ListN.{length}
use Rattle.reach.specs.declared.Verdict.{Verdict}
use Rattle.reach.specs.Syntax.{Program}
use Rattle.reach.specs.Parts.{Parts, prefix}
use Rattle.reach.specs.Types.{source_slots, least_depths}
use Rattle.reach.specs.Eval.{start}
use Rattle.std.specs.Prelude.{Option, Some, None}
use Rattle.reach.specs.declared.Kind.{Kind}
use Rattle.reach.specs.Search.{Entry, search, open_input, entries, count_from, counts, verdict_by, verdict}
use Rattle.reach.specs.Lists.{entry_bytes, list_bytes, written}
use Rattle.reach.specs.Moves as Model
use Rattle.reach.specs.Moves.{Choice, move, move_from, moves}
use Rattle.reach.proofs.Base.{clash}
use Rattle.reach.proofs.Slots.{source_types_law, source_length}
use Rattle.reach.proofs.Moves.{choices_owed, owed_from, owed, move_keeps, moves_keep}
use Rattle.registers.specs.declared.Registers.{Registers}
use Rattle.points.specs.declared.Search.{Search}
use Rattle.choices.specs.Choices.{Setting, AllOpen, ChoicesAt, no_choice, one_choice}
use Rattle.choices.specs.Returning.{setting}
use Rattle.choices.proofs.Returning.{limit_few}
use Rattle.arriving.specs.declared.Walk.{Walk}
use Rattle.arriving.specs.declared.Moved.{Moved}
use Rattle.arriving.specs.Moving.{PositionAt, StandsAs, EntryIn, PathLists, walk_weight, Makes, SearchStands, Moves}
use Rattle.listing.specs.Entry.{InputIn, Listable, entry_for, WroteFor, WroteEntry}
use Rattle.headers.proofs.Bytes.{entry_length}
use Rattle.results.specs.declared.Listed as Listing
use Rattle.results.specs.declared.Listed.TheVariants as Listed
use Rattle.verdicts.specs.Verdicts.{WithEntry, VerdictAfter}
use Rattle.exploring.specs.Exploring.{first_walk, GoesOn, ListableAs, WroteAs, FirstEntries, Begins, SomeBegins, Explores, ExploresIn}
use Rattle.exploring.proofs.Cutting.{verdict_with, size_more, written_none, written_length, written_more}

-- at the beginning everything is still to come
nothing_listed :
    (p : Program) (left : ℕ) → left ≡ p.steps
    → [] ++ owed_from p (least_depths p.types) (Model.on (record { state = start p; left = left; done = 0; input = open_input p })) [] ≡ entries p
unfolding owed_from choices_owed flat_map entries
nothing_listed p left is = append-nil (search p (least_depths p.types) left 0 (open_input p) (start p)) ∙ ap (λ l. search p (least_depths p.types) l 0 (open_input p) (start p)) is

-- at the end nothing is
nothing_owed : (p : Program) (table : List ℕ) → owed_from p table Model.over [] ≡ []
unfolding owed_from choices_owed flat_map
nothing_owed p table = refl

-- moves keep the entries that are listed and still to come
moved_keeps :
    (p : Program) (table : List ℕ) (position position' : Model.Position) (cs cs' : List Choice) (es new : List Entry) (more : ℕ)
    → moves p table more (move_from p table position cs es) ≡ record { position = position'; choices = cs'; listed = es ++ new }
    → (es ++ new) ++ owed_from p table position' cs' ≡ es ++ owed_from p table position cs
unfolding owed move
moved_keeps p table position position' cs cs' es new more is =
    ap (λ (y : Model.Walk). y.listed ++ owed p table y) (sym is) ∙ (moves_keep p table more (move_from p table position cs es)).0
    ∙ move_keeps p table (record { position = position; choices = cs; listed = es })

verdict_none : verdict [] ≡ Verdict.None
unfolding verdict counts count_from verdict_by
verdict_none = refl

-- the search of a program came to here
pub record Came (g : Setting) (before w : List ℕ) (x : Walk) (l : List ℕ) (n : ℕ) (v : Verdict) : Type 0 where
  pub position : Model.Position
  pub choices : List Choice
  pub listed : List Entry
  pub stands : StandsAs g w x position choices
  pub owed_is : listed ++ owed_from g.program (least_depths g.program.types) position choices ≡ entries g.program
  pub length_is : n ≡ length (list_bytes listed)
  pub fits : n ≤ length before
  pub list_is : l ≡ written listed before
  pub verdict_is : v ≡ verdict listed

-- and so did that of every program that begins as the loop did
pub record CameTo (file types functions least : List ℕ) (label : ℕ) (w₀ : List ℕ) (limit base stack parameters : ℕ) (from : Registers) (before w : List ℕ) (x : Walk) (l : List ℕ) (n : ℕ) (v : Verdict) : Type 0 where
  pub of :
      (p : Program) → Begins (setting file types functions least p limit base stack) label w₀ parameters from
      → Came (setting file types functions least p limit base stack) before w x l n v

module _ {file types functions least : List ℕ} {label : ℕ} {w₀ : List ℕ} {limit base stack parameters : ℕ} {from : Registers} {before : List ℕ} where
  first : (p : Program) → Begins (setting file types functions least p limit base stack) label w₀ parameters from → Came (setting file types functions least p limit base stack) before w₀ (first_walk parameters from) before 0 Verdict.None
  unfolding list_bytes flat_map
  first p begins =
      let none : limit - 0 ≡ limit = omega arith in
      record {
        position = Model.on (record { state = start p; left = limit - 0; done = 0; input = open_input p });
        choices = [];
        listed = [];
        stands = (refl, refl, begins.under);
        owed_is = nothing_listed p (limit - 0) (none ∙ begins.given.limit_is);
        length_is = refl;
        fits = omega arith;
        list_is = sym (written_none before);
        verdict_is = sym verdict_none;
      }

  pub came_first : CameTo file types functions least label w₀ limit base stack parameters from before w₀ (first_walk parameters from) before 0 Verdict.None
  came_first = record { of = first }

  module _ {w : List ℕ} {x : Walk} {l : List ℕ} {n : ℕ} {v : Verdict} (came : CameTo file types functions least label w₀ limit base stack parameters from before w x l n v) where
    -- so it stands somewhere
    pub came_standing : SomeBegins file types functions least label w₀ limit base stack parameters from → SearchStands file types functions least label w limit base stack x
    came_standing (p, begins) = let now = came.of p begins in (p, now.position, now.choices, begins.given, begins.sought, now.stands)

    -- the list is as long as the slice
    pub same_room : SomeBegins file types functions least label w₀ limit base stack parameters from → (length l ≡ length before) × (n ≤ length before)
    same_room (p, begins) =
        let now = came.of p begins in
        (ap length now.list_is ∙ written_length now.listed before (omega (arith, now.length_is, now.fits)), now.fits)

    -- the end of the search
    pub came_over :
        {b : Bool} → GoesOn x b → b ≡ false
        → Explores file types functions least label w₀ w limit base stack parameters from before l (Listed.Complete n v)
    came_over goes is p begins =
        let now = came.of p begins in
        let (over, lowest) = subst (GoesOn x) is goes in
        let last = at_the_end p now.position now.choices (subst (λ on. PositionAt (setting file types functions least p limit base stack) w x.cells x.done x.height on now.position now.choices) over now.stands) lowest in
        let whole : now.listed ≡ entries p =
        sym (append-nil now.listed) ∙ ap (λ es. now.listed ++ es) (sym last.0) ∙ now.owed_is in
        record {
          length_is = now.length_is ∙ ap (λ es. length (list_bytes es)) whole;
          verdict_is = now.verdict_is ∙ ap verdict whole;
          fits = now.fits;
          list_is = now.list_is ∙ ap (λ es. written es before) whole;
          cells = last.1;
          all_are_open = last.2;
        }
      where
        by_choices :
            (p : Program) {h cells records : ℕ} (cs : List Choice) → ChoicesAt (setting file types functions least p limit base stack) w h cells records cs → h ≡ 0
            → (owed_from p (least_depths p.types) Model.over cs ≡ []) × (some : ℕ) × AllOpen (setting file types functions least p limit base stack) w some
        by_choices p {cells = cells} cs (no_choice all_are_open) lowest = (nothing_owed p (least_depths p.types), cells, all_are_open)
        by_choices p cs (one_choice at-h few fewer rest) lowest = absurd (omega arith)

        at_the_end :
            (p : Program) (position : Model.Position) (cs : List Choice) → PositionAt (setting file types functions least p limit base stack) w x.cells x.done x.height None position cs → x.height ≡ 0
            → (owed_from p (least_depths p.types) position cs ≡ []) × (some : ℕ) × AllOpen (setting file types functions least p limit base stack) w some
        at_the_end p (Model.on y) cs none lowest = absurd none
        at_the_end p Model.over cs (some, records, choices) lowest = by_choices p cs choices lowest

    -- A move.
    module _ {w' : List ℕ} {m : Moved} (moves : Moves file types functions least label w w' limit base stack x m) (same_length : length w ≡ length w₀) where
      makes : (p : Program) (begins : Begins (setting file types functions least p limit base stack) label w₀ parameters from)
          → Makes (setting file types functions least p limit base stack) w w' (walk_weight stack limit w x) m (move_from p (least_depths p.types) (came.of p begins).position (came.of p begins).choices)
      makes p begins = let now = came.of p begins in moves p now.position now.choices begins.given begins.sought now.stands

      pub move_lighter : SomeBegins file types functions least label w₀ limit base stack parameters from → walk_weight stack limit w' m.walk < walk_weight stack limit w x
      move_lighter (p, begins) = (makes p begins).lighter

      pub move_length : SomeBegins file types functions least label w₀ limit base stack parameters from → length w' ≡ length w₀
      move_length (p, begins) = (makes p begins).same_length ∙ same_length

      lists : (p : Program) (begins : Begins (setting file types functions least p limit base stack) label w₀ parameters from) (listing : Option Kind) → m.listing ≡ listing → PathLists (setting file types functions least p limit base stack) w' m.walk listing (makes p begins).new
      lists p begins listing is = subst (λ y. PathLists (setting file types functions least p limit base stack) w' m.walk y (makes p begins).new) is (makes p begins).lists

      owed_after :
          (p : Program) (begins : Begins (setting file types functions least p limit base stack) label w₀ parameters from) (new : List Entry) → (makes p begins).new ≡ new
          → ((came.of p begins).listed ++ new) ++ owed_from p (least_depths p.types) (makes p begins).position (makes p begins).choices ≡ entries p
      owed_after p begins new is =
          let now = came.of p begins in
          let made = makes p begins in
          ap (λ (es : List Entry). (now.listed ++ es) ++ owed_from p (least_depths p.types) made.position made.choices) (sym is)
          ∙ moved_keeps p (least_depths p.types) now.position made.position now.choices made.choices now.listed made.new made.more (made.model_is now.listed)
          ∙ now.owed_is

      -- the input of an entry that a path lists
      input_in :
          (p : Program) → Begins (setting file types functions least p limit base stack) label w₀ parameters from → (kind : Kind) {new : List Entry} (entry : EntryIn (setting file types functions least p limit base stack) w' m.walk kind new)
          → InputIn file types w' parameters m.walk.cells p.types (source_slots p) entry.0
      input_in p begins kind (e, New-is, cells, typed) = record {
        types_there = begins.given.file_of.types_there;
        stands = cells;
        typed = rw (source_types_law p) typed;
        counted = source_length p ∙ begins.counted;
      }

      listable_one :
          (p : Program) → Begins (setting file types functions least p limit base stack) label w₀ parameters from → (kind : Kind) {new : List Entry} → EntryIn (setting file types functions least p limit base stack) w' m.walk kind new
          → Listable file types w' parameters m.walk.cells
      listable_one p begins kind entry = (
        (p.types, source_slots p, entry.0, input_in p begins kind entry),
        omega (arith, entry.2.fits, (makes p begins).same_length, same_length, begins.under.path.long, limit_few begins.given),
      )

      pub move_listable : SomeBegins file types functions least label w₀ limit base stack parameters from → ListableAs file types w' parameters m.walk.cells m.listing
      move_listable (p, begins) = by_listing m.listing refl
        where
          by_listing : (y : Option Kind) → m.listing ≡ y → ListableAs file types w' parameters m.walk.cells y
          by_listing None is = tt
          by_listing (Some kind) is = listable_one p begins kind (lists p begins (Some kind) is)

      module _ (l' : List ℕ) (r : Option ℕ) (wrote : WroteAs file types w' parameters m.walk.cells m.walk.done m.listing l l' n r) where
        -- the entry of an input is as long as its header and its cells
        long : (kind : Kind) (e : Parts) → length (prefix e) ≡ m.walk.cells → length (entry_bytes (entry_for kind m.walk.done e)) ≡ 6 + m.walk.cells
        long kind e counted = entry_length (entry_for kind m.walk.done e) ∙ ap (λ y. 6 + y) counted

        -- an entry was written
        wrote_one :
            (p : Program) (begins : Begins (setting file types functions least p limit base stack) label w₀ parameters from) (kind : Kind) → EntryIn (setting file types functions least p limit base stack) w' m.walk kind (makes p begins).new
            → WroteEntry file types w' parameters m.walk.cells kind m.walk.done n l l' r → (behind : ℕ) → r ≡ Some behind
            → {v' : Verdict} → WithEntry v kind v' → Came (setting file types functions least p limit base stack) before w' m.walk l' behind v'
        wrote_one p begins kind entry told behind is with-entry =
            let now = came.of p begins in
            let made = makes p begins in
            let e = entry.0 in
            let new = entry_for kind m.walk.done e in
            let wrote = told p.types (source_slots p) e (input_in p begins kind entry) in
            let (place, fits, bytes) = subst (WroteFor kind m.walk.done m.walk.cells n l l' e) is wrote in
            let size = long kind e entry.2.counted in
            let room = (same_room (p, begins)).0 in
            record {
              position = made.position;
              choices = made.choices;
              listed = now.listed ++ (new ∷ []);
              stands = made.stands;
              owed_is = owed_after p begins (new ∷ []) entry.1;
              length_is = omega (arith, size_more now.listed new, now.length_is);
              fits = omega arith;
              list_is = written_more now.listed new before l l' n behind now.list_is now.length_is (omega arith) (omega arith) bytes;
              verdict_is = verdict_with now.listed new now.verdict_is with-entry;
            }

        went_on :
            {behind : ℕ} → r ≡ Some behind → {v' : Verdict} → VerdictAfter v m.listing v'
            → (p : Program) → Begins (setting file types functions least p limit base stack) label w₀ parameters from → Came (setting file types functions least p limit base stack) before w' m.walk l' behind v'
        went_on {behind} is {v'} after p begins = by_listing m.listing refl wrote after
          where
            by_listing :
                (y : Option Kind) → m.listing ≡ y → WroteAs file types w' parameters m.walk.cells m.walk.done y l l' n r → VerdictAfter v y v'
                → Came (setting file types functions least p limit base stack) before w' m.walk l' behind v'
            by_listing None same (place_is, List-same) v-same =
                let now = came.of p begins in
                let made = makes p begins in
                let none : made.new ≡ [] = lists p begins None same in
                let here : behind ≡ n = placed (sym is ∙ place_is) in
                record {
                  position = made.position;
                  choices = made.choices;
                  listed = now.listed;
                  stands = made.stands;
                  owed_is = ap (λ (es : List Entry). es ++ owed_from p (least_depths p.types) made.position made.choices) (sym (append-nil now.listed)) ∙ owed_after p begins [] none;
                  length_is = here ∙ now.length_is;
                  fits = omega (arith, now.fits);
                  list_is = List-same ∙ now.list_is;
                  verdict_is = v-same ∙ now.verdict_is;
                }
              where
                placed : Some behind ≡ Some n → behind ≡ n
                placed h = cc
            by_listing (Some kind) same told with-entry = wrote_one p begins kind (lists p begins (Some kind) same) told behind is with-entry

        pub came_on :
            {behind : ℕ} → r ≡ Some behind → {v' : Verdict} → VerdictAfter v m.listing v'
            → CameTo file types functions least label w₀ limit base stack parameters from before w' m.walk l' behind v'
        came_on is after = record { of = went_on is after }

        -- an entry does not fit
        full_one :
            (p : Program) (begins : Begins (setting file types functions least p limit base stack) label w₀ parameters from) (kind : Kind) → EntryIn (setting file types functions least p limit base stack) w' m.walk kind (makes p begins).new
            → WroteEntry file types w' parameters m.walk.cells kind m.walk.done n l l' r → r ≡ None → FirstEntries (setting file types functions least p limit base stack) before l' w' n
        full_one p begins kind entry told is =
            let now = came.of p begins in
            let made = makes p begins in
            let e = entry.0 in
            let new = entry_for kind m.walk.done e in
            let wrote = told p.types (source_slots p) e (input_in p begins kind entry) in
            let (over, same) = subst (WroteFor kind m.walk.done m.walk.cells n l l' e) is wrote in
            let size = long kind e entry.2.counted in
            let room = (same_room (p, begins)).0 in
            record {
              listed = now.listed;
              next = new;
              rest = owed_from p (least_depths p.types) made.position made.choices;
              entries_are = sym (owed_after p begins (new ∷ []) entry.1) ∙ append_assoc now.listed (new ∷ []) _;
              length_is = now.length_is;
              fits = now.fits;
              too_long = omega arith;
              list_is = same ∙ now.list_is;
              cells = m.walk.cells;
              stands = entry.2;
            }

        pub came_full : r ≡ None → Explores file types functions least label w₀ w' limit base stack parameters from before l' (Listed.Full n)
        came_full is p begins = by_listing m.listing refl wrote
          where
            by_listing :
                (y : Option Kind) → m.listing ≡ y → WroteAs file types w' parameters m.walk.cells m.walk.done y l l' n r → FirstEntries (setting file types functions least p limit base stack) before l' w' n
            by_listing None same (place_is, List-same) = absurd (clash (cc (is, place_is)))
            by_listing (Some kind) same told = full_one p begins kind (lists p begins (Some kind) same) told is

-- The same, whatever registers the search began with: the loop knows them as those of its first walk.

abbrev pub CameFrom : (file types functions least : List ℕ) (label : ℕ) (w₀ : List ℕ) (limit base stack parameters : ℕ) (before : List ℕ) → Walk → List ℕ → Walk → List ℕ → ℕ → Verdict → Type 0
CameFrom file types functions least label w₀ limit base stack parameters before x₀ w x l n v =
    (from : Registers) → x₀ ≡ first_walk parameters from → CameTo file types functions least label w₀ limit base stack parameters from before w x l n v

pub came_begin :
    {file types functions least : List ℕ} {label : ℕ} {w₀ : List ℕ} {limit base stack parameters : ℕ} {before : List ℕ} (x₀ : Walk)
    → CameFrom file types functions least label w₀ limit base stack parameters before x₀ w₀ x₀ before 0 Verdict.None
came_begin {file} {types} {functions} {least} {label} {w₀} {limit} {base} {stack} {parameters} {before} x₀ r is =
    subst (λ y. CameTo file types functions least label w₀ limit base stack parameters r before w₀ y before 0 Verdict.None) (sym is) came_first

-- the same in a search
abbrev pub CameIn : Search → ℕ → (w₀ before : List ℕ) → Walk → List ℕ → Walk → List ℕ → ℕ → Verdict → Type 0
CameIn s parameters w₀ before x₀ w x l n v =
    let f = s.run.program.rules in
    CameFrom f.file.now f.types.now f.functions.now s.least.of s.run.label w₀ s.limit s.run.store.at s.stack.at parameters before x₀ w x l n v

-- the list that is left is the one that the writer had
pub explored_as : (s : Search) (w w' : List ℕ) (parameters : ℕ) (r : Registers) (before : List ℕ) {after after' : List ℕ} (a : Listing.Listed)
    → ExploresIn s w w' parameters r before after a → after' ≡ after → ExploresIn s w w' parameters r before after' a
explored_as s w w' parameters r before {after} {after'} a told is = subst (λ (l : List ℕ). ExploresIn s w w' parameters r before l a) (sym is) told
