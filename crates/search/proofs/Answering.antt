-- The answer of the whole search, by what the check and the exploration found; the list slice, of which only its room was lent on; and the words.
-- Rests on specs/Answering and exploring's Exploring, on exploring's Cutting, and on the laws of loaded files.
use Prim.Native.Nat.{ℕ, ◌≤◌, ◌<◌}
use mathlib.Core.Path.{◌≡◌, refl, sym, ◌∙◌, ap, subst}
use mathlib.Core.List.{List, ◌++◌}
use native.Mathlib.Omega.{arith}
use lib.ListN.{length, take, drop, length-take, length-append, get_or-append}
use Rattle.std.specs.Prelude.{Ok, Err}
use Rattle.reach.specs.declared.Refusal.{Refusal}
use Rattle.reach.specs.declared.Refusal.TheVariants.{WorkTooShort}
use Rattle.reach.specs.Limits.{work_words}
use Rattle.reach.specs.Syntax.{Program, source_types}
use Rattle.reach.specs.Parts.{Parts}
use Rattle.reach.specs.Types.{source_slots}
use Rattle.reach.specs.Search.{Entry, open_input, entries}
use Rattle.reach.specs.Lists.{list_bytes, room_of, written}
use Rattle.reach.specs.Answers.{check, accepted, turned_back, no_search, complete, cut_short, search_answer, listed}
use Rattle.machine.specs.Cells.{Cells}
use Rattle.machine.proofs.Cells.{kept_cells}
use Rattle.rulefile.specs.declared.Loaded.{Loaded}
use Rattle.rulefile.specs.Loading.{type_places, function_places, Loads}
use Rattle.rulefile.proofs.Tabled.{program_goal}
use Rattle.loaded.proofs.Files.{given_file}
use Rattle.loaded.proofs.Loaded.{behind_kept}
use Rattle.results.specs.declared.Listed.{Listed}
use Rattle.search.specs.Answering.{SearchPromise}
use Rattle.exploring.specs.Exploring.{WholeList, FirstEntries, Explored}
use Rattle.search.specs.Searching.{Searchable, setting_of}
use Rattle.exploring.proofs.Cutting.{written_none, written_front, answer_complete, answer_full, answer_short, answer_refused}

-- a refusal leaves the list as it was
refused_list : (why : Refusal) (list : List ℕ) → list ≡ written (listed (no_search why)) list
unfolding listed
refused_list why list = sym (written_none list)

keeps_refused : (file work list : List ℕ) (why : Refusal) → search_answer file (length work) (length list) ≡ no_search why → SearchPromise file work work list list (Err why)
keeps_refused file work list why is = record { answer_is = rw is refl; list_is = rw is (refused_list why list); words_are = refl }

listed_complete : (es : List Entry) → listed (complete es) ≡ es
unfolding listed
listed_complete es = refl

listed_short : (es : List Entry) → listed (cut_short es) ≡ es
unfolding listed
listed_short es = refl

-- the cells are the first words
cells_longer : {types : Rattle.reach.specs.Syntax.Types} {ss : List Rattle.reach.specs.Types.Slot} {v : List ℕ} {top : ℕ} {e : Parts} (rest : List ℕ) → Cells types ss v top e → Cells types ss (v ++ rest) top e
cells_longer {v = v} rest stands =
    (kept_cells (v ++ rest) stands (omega (arith, stands.fits, length-append v rest)) (λ i l. get_or-append v rest 0 i (omega (arith, stands.fits)))).1

pub room_taken : (list : List ℕ) {room : ℕ} → room ≡ room_of (length list) → length (take room list) ≡ room
unfolding room_of
room_taken list {room} is = length-take room list ∙ omega arith

pub room_inside : (list : List ℕ) {room : ℕ} → room ≡ room_of (length list) → room ≤ length list
unfolding room_of
room_inside list is = omega arith

-- a refused file
pub search_refused : (file work list : List ℕ) {why : Refusal} → check file ≡ turned_back why → SearchPromise file work work list list (Err why)
search_refused file work list {why} is = keeps_refused file work list why (answer_refused file (length work) (length list) why is)

module _ (file : List ℕ) (r : Loaded) (here : Loads file (Ok r)) where
  module _ {words : ℕ} (words_are : words ≡ work_words r.goal.steps) where
    limit_is : r.goal.steps ≡ here.0.steps
    limit_is = (program_goal here.2).steps_is

    -- too few words
    pub search_short : (work list : List ℕ) → length work < words → SearchPromise file work work list list (Err WorkTooShort)
    search_short work list short = keeps_refused file work list WorkTooShort (answer_short file (length work) (length list) here.0 here.1 (omega (arith, limit_is)))

    -- enough of them
    pub search_able :
        (work : List ℕ) → words ≤ length work
        → (p : Program) × Searchable file (type_places r) (function_places r) r.least.of r.goal (take words work) p
    search_able work enough = (
      here.0,
      record {
        of_file = given_file here.1 here.2;
        asks = program_goal here.2;
        least_are = here.2.depths;
        long = omega (arith, length-take words work, limit_is);
      },
    )

    module _
        (work list v after : List ℕ) (enough : words ≤ length work) {room : ℕ} (room_is : room ≡ room_of (length list))
        (long : length v ≡ words)
      where
        abbrev work_then : List ℕ
        work_then = v ++ drop words work

        abbrev list_then : List ℕ
        list_then = after ++ drop room list

        words_enough : work_words here.0.steps ≤ length work
        words_enough = omega (arith, limit_is)

        -- what the cells stand for, of the program by whatever name
        stands_then :
            {p : Program} → check file ≡ accepted p → {top : ℕ} (e : Program → Parts) → Cells here.0.types (source_slots here.0) v top (e here.0)
            → Cells p.types (source_slots p) work_then top (e p)
        stands_then {p} checked {top} e stands =
            let one : here.0 ≡ p = cc (here.1, checked) in
            subst (λ (x : Program). Cells x.types (source_slots x) work_then top (e x)) one (cells_longer (drop words work) stands)

        keeps_whole : (n : ℕ) (d : Rattle.reach.specs.declared.Verdict.Verdict) → WholeList (setting_of file (type_places r) (function_places r) r.least.of here.0) (take room list) after v n d
            → SearchPromise file work work_then list list_then (Ok (Listed.Complete n d))
        keeps_whole n d whole =
            let es = entries here.0 in
            let fits : length (list_bytes es) ≤ room = omega (arith, whole.fits, whole.length_is, room_taken list room_is) in
            let answered : search_answer file (length work) (length list) ≡ complete es = answer_complete file (length work) (length list) here.0 here.1 words_enough (omega (arith, room_is)) in
            record {
              answer_is = rw (answered, whole.length_is, whole.verdict_is) refl;
              list_is = rw (answered, listed_complete es, whole.list_is) (written_front es list room (room_inside list room_is) fits);
              words_are = λ p checked. (behind_kept file r here v work words_are long p checked, whole_open p checked whole.all_are_open.1);
            }
          where
            whole_open :
                (p : Program) → check file ≡ accepted p → Cells here.0.types (source_slots here.0) v (length (source_types here.0)) (open_input here.0)
                → Cells p.types (source_slots p) work_then (length (source_types p)) (open_input p)
            whole_open p checked stands =
                let one : here.0 ≡ p = cc (here.1, checked) in
                subst (λ (x : Program). Cells x.types (source_slots x) work_then (length (source_types x)) (open_input x)) one (cells_longer (drop words work) stands)

        keeps_first : (n : ℕ) → FirstEntries (setting_of file (type_places r) (function_places r) r.least.of here.0) (take room list) after v n
            → SearchPromise file work work_then list list_then (Ok (Listed.Full n))
        keeps_first n first =
            let es = first.listed in
            let fits : length (list_bytes es) ≤ room = omega (arith, first.fits, first.length_is, room_taken list room_is) in
            let answered : search_answer file (length work) (length list) ≡ cut_short es =
            answer_full file (length work) (length list) here.0 here.1 words_enough es first.next first.rest first.entries_are (omega (arith, room_is))
            (omega (arith, room_is, first.too_long, first.length_is, room_taken list room_is)) in
            record {
              answer_is = rw (answered, first.length_is) refl;
              list_is = rw (answered, listed_short es, first.list_is) (written_front es list room (room_inside list room_is) fits);
              words_are = λ p checked.
                  let one : here.0 ≡ p = cc (here.1, checked) in (
                    behind_kept file r here v work words_are long p checked,
                    (
                      es,
                      first.next,
                      first.rest,
                      first.cells,
                      ap entries (sym one) ∙ first.entries_are,
                      first.length_is,
                      stands_then checked (λ x. first.next.input) first.stands,
                    ),
                  );
            }

        pub search_done :
            (a : Listed)
            → ((p : Program) → Searchable file (type_places r) (function_places r) r.least.of r.goal (take words work) p
            → Explored (setting_of file (type_places r) (function_places r) r.least.of p) (take room list) after v a)
            → SearchPromise file work work_then list list_then (Ok a)
        unfolding search_able
        search_done a explored = let able = search_able work enough in by_answer a (explored able.0 able.1)
          where
            by_answer : (b : Listed) → Explored (setting_of file (type_places r) (function_places r) r.least.of here.0) (take room list) after v b → SearchPromise file work work_then list list_then (Ok b)
            by_answer (Listed.Complete n d) whole = keeps_whole n d whole
            by_answer (Listed.Full n) first = keeps_first n first
