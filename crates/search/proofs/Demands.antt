-- The demands of the request, said of the call `search`. A reviewer reads this file with the contract in src/lib.rt: the sentence that a theorem answers
-- stands above it, and its statement uses definitions of specs/ only, but for the definition of a step before (reach's Before).
-- `SearchPromise file work work' before after r` is the contract: the call answered r, the list slice that held the bytes `before` holds `after`, and the work
-- slice that held the words `work` holds `work'`. The list is read back from its bytes, `take (list_length_in r) after`: `ReadsAs p bytes k e` says that entry k
-- there is e. Nothing is asked of the file and of the slices.
-- That each call stops and touches nothing outside its buffers is what the check proves of every function.
-- The demands said of the call `run` stand in closed's Demands: its outcome is that of `run p j`, of which the theorems here speak.
-- Rests on reach's Demands for the definition, and on Called, Reading and exploring's Cutting for what the call shows of it.
use Prim.Native.Nat.{ℕ, ◌+◌, ◌≤◌, ◌<◌}
use native.Mathlib.Omega.{arith}
use mathlib.Core.Path.{◌≡◌, sym, ap, subst, ◌∙◌}
use mathlib.Core.Logic.{◌⊎◌, ◌↔◌, ◌≢◌}
use mathlib.Core.List.{List, [], ◌∷◌, ◌++◌}
use mathlib.Core.Option.{none, some}
use lib.ListN.{length, get_elem?, take, drop}
use Rattle.std.specs.Prelude.{Result, Ok, Err}
use Rattle.reach.specs.declared.Refusal.{Refusal}
use Rattle.reach.specs.declared.Refusal.TheVariants.{WorkTooShort}
use Rattle.reach.specs.declared.Verdict.{Verdict}
use Rattle.reach.specs.declared.Verdict.TheVariants.{Found, Undecided, None}
use Rattle.reach.specs.Base.{◌∈◌}
use Rattle.reach.specs.Words.{OfFile}
use Rattle.reach.specs.Limits.{work_words}
use Rattle.reach.specs.Syntax.{Program}
use Rattle.reach.specs.Parts.{Parts, Place, open_at, BoundPart, Completes}
use Rattle.reach.specs.Types.{ClosedInput, WithinDepth}
use Rattle.reach.specs.Eval.{missing, halted, run, Spent}
use Rattle.reach.specs.Whole.{whole_run}
use Rattle.reach.specs.declared.Kind.{Kind}
use Rattle.reach.specs.declared.Kind.TheVariants.{RE, UN, MI}
use Rattle.reach.specs.Search.{Entry, says, Shown, StopsInside, entries, verdict}
use Rattle.reach.specs.States.{MissingAfter}
use Rattle.reach.specs.Lists.{entry_bytes, list_bytes, room_of, written, entry_part}
use Rattle.reach.specs.Answers.{accepted, turned_back, check, SearchAnswer, complete, search_answer, listed}
use Rattle.reach.proofs.Base.{nth_member}
use Rattle.reach.proofs.Lists.{Holds}
use Rattle.reach.proofs.Lists as Verdicts
use Rattle.reach.proofs.Answers.{listed_in, complete_is}
use Rattle.lists.proofs.ReadBack.{listed_fits, written_read_back}
use Rattle.reach.proofs.Before.{search_before, same_search}
use Rattle.reach.proofs.Demands as Reach
use Rattle.results.specs.declared.Listed.{Listed}
use Rattle.results.specs.Results.{search_result, list_length_in, refusal_in, verdict_in}
use Rattle.search.specs.Answering.{WordsAfter, SearchPromise, ReadsAs}
use Rattle.exploring.proofs.Cutting.{size_more, written_none, written_length}
use Rattle.search.proofs.Called.{length_is, refusal_is, verdict_is, refused_when, full_when, complete_when, complete_lists, full_lists, refused_lists, listed_room, room_inside, written_take, written_drop, member_number, says_spent, says_missing}
use Rattle.search.proofs.Reading.{part_of, reads_exactly, reads_or_empty}

module _ (file work work' before after : List ℕ) (r : Result Listed Refusal) (call : SearchPromise file work work' before after r) where
  -- the definition's answer, which the call shows, and the entries listed
  abbrev answer : SearchAnswer
  answer = search_answer file (length work) (length before)

  abbrev shown : List Entry
  shown = listed answer

  shown_length : list_length_in r ≡ length (list_bytes shown)
  shown_length = rw call.answer_is (length_is answer)

  -- The list in its slice.

  -- 01, "The list": "The search returns the list's length, also with 12, and bytes of the slice after the list are as before." The slice keeps its length,
  -- and the list stands in the bytes that count.
  pub bytes_behind : (drop (list_length_in r) after ≡ drop (list_length_in r) before) × (length after ≡ length before) × (list_length_in r ≤ room_of (length before))
  bytes_behind =
      let room = listed_room file (length work) (length before) in
      rw (shown_length, call.list_is)
      (written_drop shown before, written_length shown before (omega (arith, room, room_inside (length before))), room)

  -- the list's bytes are those of the entries of the definition's answer
  pub list_stands : take (list_length_in r) after ≡ list_bytes (listed (search_answer file (length work) (length before)))
  list_stands = rw (shown_length, call.list_is) (written_take shown before)

  -- 02, Slip 5: "every file and input gets the steps and results of the definition before": the answer and the list are those by that definition.
  pub answered_as_before :
      (r ≡ search_result (search_before file (length work) (length before)))
      × (after ≡ written (listed (search_before file (length work) (length before))) before)
  answered_as_before =
      let same = same_search file (length work) (length before) in
      (call.answer_is ∙ ap search_result same, call.list_is ∙ ap (λ a. written (listed a) before) same)

  -- Demand 1: "returns a result or one of the numbered refusals, each under its own condition only, with the list left as stated for that refusal."

  -- The refusals of 1 to 9 and 15 are the check's, in the order of tests of 01 that `check` takes; 11 is given for an accepted file where "the work slice
  -- of 32-bit words is shorter than 64 × S + 1,024". No other number comes with this answer.
  pub refused_exactly : (why : Refusal)
      → (r ≡ Err why)
      ↔ ((OfFile why × (check file ≡ turned_back why))
      ⊎ ((why ≡ WorkTooShort) × ((p : Program) × (check file ≡ accepted p) × (length work < work_words p.steps))))
  refused_exactly why = rw call.answer_is (refused_when file (length work) (length before) why)

  -- 01, "Turned back", refusal 12: "the next entry does not fit the list slice". It is given exactly where some next entry does not fit behind the first ones,
  -- and "the list holds all earlier entries": their length is the one returned.
  pub full_exactly : (n : ℕ)
      → (r ≡ Ok (Listed.Full n))
      ↔ ((p : Program) × (es : List Entry) × (next : Entry) × (rest : List Entry) × (check file ≡ accepted p) × (work_words p.steps ≤ length work)
      × (entries p ≡ es ++ (next ∷ rest)) × (n ≡ length (list_bytes es)) × (n ≤ room_of (length before)) × (room_of (length before) < n + length (entry_bytes next)))
  full_exactly n = rw call.answer_is (full_when file (length work) (length before) n)

  -- A complete list is given exactly where all entries fit: its length and its verdict are theirs.
  pub complete_exactly : (n : ℕ) (v : Verdict)
      → (r ≡ Ok (Listed.Complete n v))
      ↔ ((p : Program) × (check file ≡ accepted p) × (work_words p.steps ≤ length work) × (n ≡ length (list_bytes (entries p))) × (n ≤ room_of (length before))
      × (v ≡ verdict (entries p)))
  complete_exactly n v = rw call.answer_is (complete_when file (length work) (length before) n v)

  -- 01, "Turned back": "Refusals 1 to 11 change no buffer." 02, Slip 4: nor does 15.
  pub refused_unchanged : (why : Refusal) → r ≡ Err why → (after ≡ before) × (work' ≡ work)
  refused_unchanged why is = (
    call.list_is
        ∙ rw (refused_lists file (length work) (length before) why (sym call.answer_is ∙ is)) (written_none before),
    subst (λ a. WordsAfter a file work work') is call.words_are,
  )

  -- The entries of the list, read back from its bytes.
  module _ (p : Program) (checked : check file ≡ accepted p) where
    shown_in : (e : Entry) → e ∈ shown → e ∈ entries p
    shown_in = listed_in file (length work) (length before) p checked

    -- 01, "The list": "The search's list, entry for entry and in order, [..] are those that the papers define." Entry k of the bytes is e exactly where e is
    -- entry k of the definition's answer: so each number reads as one entry at most.
    pub entry_reads : (k : ℕ) (e : Entry)
        → ReadsAs p (take (list_length_in r) after) k e ↔ (get_elem? (listed (search_answer file (length work) (length before))) k ≡ some e)
    entry_reads k e = rw list_stands (reads_exactly file p checked shown shown_in (listed_fits file (length work) (length before) p checked) k e)

    -- 01, "The list": "The entry of a given number is handed back as the part of the list that it fills, from mark to last byte": the same from the list's own
    -- bytes and from the whole slice.
    pub entry_part_law : (k : ℕ) (e : Entry) → ReadsAs p (take (list_length_in r) after) k e
        → (entry_part (take (list_length_in r) after) k ≡ entry_bytes e) × (entry_part after k ≡ entry_bytes e)
    entry_part_law k e reads =
        let there = (entry_reads k e).0 reads in (
          rw list_stands (part_of file p checked shown shown_in (listed_fits file (length work) (length before) p checked) k e there),
          rw call.list_is (written_read_back file (length work) before p checked k e there),
        )

    -- 01, "The list": "Beyond the last entry, [..] the empty part at the list's end is handed back": nothing but entries stands in the list.
    pub entry_or_empty : (k : ℕ) → ((e : Entry) × ReadsAs p (take (list_length_in r) after) k e) ⊎ (entry_part (take (list_length_in r) after) k ≡ [])
    entry_or_empty k = rw list_stands (reads_or_empty file p checked shown shown_in (listed_fits file (length work) (length before) p checked) k)

    member : (k : ℕ) (e : Entry) → ReadsAs p (take (list_length_in r) after) k e → e ∈ shown
    member k e reads = nth_member shown k e ((entry_reads k e).0 reads)

    -- Demand 2: "Every listed entry is true: each closed input that completes it within the depth ends as the entry says, reached or unfinished, after exactly
    -- the listed steps of the published evaluation." Here for every closed input, however deep, and for a list cut short too; and, by 02, Slip 1, "What holds
    -- for the listed kinds [..] holds for the new kind": or missing.
    pub entry_true : (k : ℕ) (e : Entry) → ReadsAs p (take (list_length_in r) after) k e
        → (j : Parts) → ClosedInput p j → Completes j e.input → run p j ≡ says e.kind e.steps
    entry_true k e reads = Reach.entry_true file (length work) (length before) p checked e (member k e reads)

    -- 02, Slip 7: "Truth and coverage of the list are judged by this evaluation", which is the unit-evaluator of 000, applied again to each child of the result.
    pub entry_whole : (k : ℕ) (e : Entry) → ReadsAs p (take (list_length_in r) after) k e
        → (j : Parts) → ClosedInput p j → Completes j e.input → whole_run p j ≡ says e.kind e.steps
    entry_whole k e reads j closed completes = sym (Reach.whole_result p j) ∙ entry_true k e reads j closed completes

    -- 01: "Every open part therefore has a completion that fits": every listed entry has a completion within the depth.
    pub entry_inhabited : (k : ℕ) (e : Entry) → ReadsAs p (take (list_length_in r) after) k e → (j : Parts) × WithinDepth p j × Completes j e.input
    entry_inhabited k e reads = Reach.entry_inhabited file (length work) (length before) p checked e (member k e reads)

    -- 01, "The forms we expect": "steps spent is a number in each result, [..] never above S"; an unfinished entry has used S.
    pub entry_spent : (k : ℕ) (e : Entry) → ReadsAs p (take (list_length_in r) after) k e → (e.steps ≤ p.steps) × (e.kind ≡ UN → e.steps ≡ p.steps)
    entry_spent k e reads =
        let (j, within, completes) = entry_inhabited k e reads in
        let ends = entry_true k e reads j within.0 completes in
        says_spent e.kind e.steps p.steps (subst (Spent p.steps) ends (Reach.unfinished_spent p j))

    -- Demand 3: "Open any one bound part of any entry again, and the evaluation halts on that very part." Of a list cut short too.
    pub reopened_halts : (k : ℕ) (e : Entry) → ReadsAs p (take (list_length_in r) after) k e
        → (q : Place) → BoundPart e.input q → (n : ℕ) × (run p (open_at q e.input) ≡ halted q n) × (n < p.steps)
    reopened_halts k e reads = Reach.reopened_halts file (length work) (length before) p checked e (member k e reads)

    -- 01, "Turned back": "With 12 the list holds all earlier entries, the bytes after them are as before, and no verdict is given." The list is that of the
    -- first entries, and the next one does not fit behind it.
    pub full_reads : (n : ℕ) → r ≡ Ok (Listed.Full n)
        → (es : List Entry) × (next : Entry) × (rest : List Entry) × (entries p ≡ es ++ (next ∷ rest)) × (n ≡ length (list_bytes es))
        × (room_of (length before) < n + length (entry_bytes next)) × ((k : ℕ) (e : Entry) → ReadsAs p (take n after) k e ↔ (get_elem? es k ≡ some e))
    full_reads n is =
        let part = full_lists file (length work) (length before) n (sym call.answer_is ∙ is) in
        let (next, rest, all, fits, over) = Reach.full_prefix file (length work) (length before) p checked shown part in
        let long : n ≡ length (list_bytes shown) = subst (λ (a : Result Listed Refusal). list_length_in a ≡ length (list_bytes shown)) is shown_length in
        let reads = subst (λ (a : Result Listed Refusal). (k : ℕ) (e : Entry) → ReadsAs p (take (list_length_in a) after) k e ↔ (get_elem? shown k ≡ some e)) is entry_reads in
        (shown, next, rest, all, long, omega (arith, over, size_more shown next), reads)

    -- A complete list.
    module _ (n : ℕ) (v : Verdict) (is : r ≡ Ok (Listed.Complete n v)) where
      whole : answer ≡ complete shown
      whole = (complete_lists file (length work) (length before) n v (sym call.answer_is ∙ is)).0

      all_shown : shown ≡ entries p
      all_shown = complete_is file (length work) (length before) p checked shown whole

      reads_at : (k : ℕ) (e : Entry) → ReadsAs p (take n after) k e ↔ (get_elem? shown k ≡ some e)
      reads_at = subst (λ (a : Result Listed Refusal). (k : ℕ) (e : Entry) → ReadsAs p (take (list_length_in a) after) k e ↔ (get_elem? shown k ≡ some e)) is entry_reads

      -- 01, "The list": "The search's list, entry for entry and in order, and its verdict, where one is given, are those that the papers define."
      pub complete_reads : (k : ℕ) (e : Entry) → ReadsAs p (take n after) k e ↔ (get_elem? (entries p) k ≡ some e)
      complete_reads = subst (λ (es : List Entry). (k : ℕ) (e : Entry) → ReadsAs p (take n after) k e ↔ (get_elem? es k ≡ some e)) all_shown reads_at

      -- Demand 2: "On a complete list, each closed input within the depth that reaches the target or is unfinished at the step limit completes an entry." The
      -- same of one that runs into a missing alternative; and the entry is of its kind, with its steps.
      pub list_covers : (j : Parts) → WithinDepth p j → Shown (run p j)
          → (k : ℕ) × (e : Entry) × ReadsAs p (take n after) k e × Completes j e.input × (run p j ≡ says e.kind e.steps)
      list_covers j within ends =
          let (e, m, completes, so) = Reach.list_covers file (length work) (length before) p checked shown whole j within ends in
          let (k, there) = member_number shown e m in
          (k, e, (reads_at k e).1 there, completes, so)

      -- 02, Slip 1: "inputs that run into a missing alternative. Such a path now gives an entry `MI` with its steps". A closed input within the depth
      -- completes an MI entry of so many steps exactly where, inside the step limit, the last of them finds that a case has no alternative for its
      -- constructor.
      pub missing_exactly : (j : Parts) → WithinDepth p j → (steps : ℕ)
          → ((k : ℕ) × (e : Entry) × ReadsAs p (take n after) k e × Completes j e.input × (e.kind ≡ MI) × (e.steps ≡ steps)) ↔ MissingAfter p j steps
      missing_exactly j within steps = (
        λ h. let (k, e, reads, completes, kind, same) = h in
            let e-reads = subst (λ (a : Result Listed Refusal). ReadsAs p (take (list_length_in a) after) k e) (sym is) reads in
            (Reach.missing_exactly p j steps).0 (entry_true k e e-reads j within.0 completes ∙ ap (λ (x : Kind). says x e.steps) kind ∙ ap missing same),
        λ m. let ends = (Reach.missing_exactly p j steps).1 m in
            let (k, e, reads, completes, so) = list_covers j within (rw ends tt) in
            let (kind, same) = says_missing e.kind e.steps steps (sym so ∙ ends) in
            (k, e, reads, completes, kind, same),
      )

      -- Demand 3: "on a complete list each closed input, however deep, completes at most one entry." Entries are told apart by their numbers.
      pub inputs_apart : (a b : ℕ) (x y : Entry) → ReadsAs p (take n after) a x → ReadsAs p (take n after) b y → a ≢ b
          → (j : Parts) → ClosedInput p j → Completes j x.input → ¬ Completes j y.input
      inputs_apart a b x y reads-x reads_y =
          Reach.inputs_apart file (length work) (length before) p checked shown whole a b x y ((reads_at a x).0 reads-x) ((reads_at b y).0 reads_y)

      -- an entry of this kind stands in the list
      abbrev pub Lists : Kind → Type 0
      Lists kind = (k : ℕ) × (e : Entry) × ReadsAs p (take n after) k e × (e.kind ≡ kind)

      lists_exactly : (kind : Kind) → Lists kind ↔ Holds kind shown
      lists_exactly kind = (
        λ l. (l.1, nth_member shown l.0 l.1 ((reads_at l.0 l.1).0 l.2), l.3),
        λ h. let (k, there) = member_number shown h.0 h.1 in (k, h.0, (reads_at k h.0).1 there, h.2),
      )

      verdict_shown : v ≡ verdict shown
      verdict_shown = (complete_lists file (length work) (length before) n v (sym call.answer_is ∙ is)).1

      -- 01, "The list": "The verdict is found with an RE, else undecided with a UN, else none."
      pub found_exactly : (v ≡ Found) ↔ Lists RE
      found_exactly = (
        λ f. (lists_exactly RE).1 ((Verdicts.found_exactly shown).0 (sym verdict_shown ∙ f)),
        λ l. verdict_shown ∙ (Verdicts.found_exactly shown).1 ((lists_exactly RE).0 l),
      )

      pub undecided_exactly : (v ≡ Undecided) ↔ (Lists UN × ¬ Lists RE)
      undecided_exactly = (
        λ u. let h = (Verdicts.undecided_exactly shown).0 (sym verdict_shown ∙ u) in ((lists_exactly UN).1 h.0, λ l. h.1 ((lists_exactly RE).0 l)),
        λ l. verdict_shown ∙ (Verdicts.undecided_exactly shown).1 ((lists_exactly UN).0 l.0, λ h. l.1 ((lists_exactly RE).1 h)),
      )

      -- a list of MI alone is none
      pub none_without : (v ≡ None) ↔ (¬ Lists RE × ¬ Lists UN)
      none_without = (
        λ is. let h = (Verdicts.none_without shown).0 (sym verdict_shown ∙ is) in
            (λ l. h.0 ((lists_exactly RE).0 l), λ l. h.1 ((lists_exactly UN).0 l)),
        λ l. verdict_shown ∙ (Verdicts.none_without shown).1 (λ h. l.0 ((lists_exactly RE).1 h), λ h. l.1 ((lists_exactly UN).1 h)),
      )

  -- Demand 3: "And the search says "none" exactly when it refused nothing and every closed input within the depth stops inside the step limit without demanding
  -- the target."
  pub none_exactly :
      (verdict_in r ≡ some None)
      ↔ ((refusal_in r ≡ none) × ((p : Program) → check file ≡ accepted p → (j : Parts) → WithinDepth p j → StopsInside (run p j)))
  none_exactly = rw (call.answer_is, verdict_is answer, refusal_is answer) (Reach.none_exactly file (length work) (length before))
