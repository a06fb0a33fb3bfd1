-- The number that a call for C answered with says one answer only. What a caller reads off it, by specs/Unpacking, is what the definition's answer says,
-- for every file, every input and all lengths of the slices (`..-decodes`); so two answers with one number say the same (`..-one`). And what is counted
-- in it fits the types that a caller reads it into (`..-fits`): 32 bits for a length, 16 for steps, 8 for a depth.
-- 01, "The forms we expect": "For an answer that is an enum, a definition gives this paper's number and values for each of its cases, and the promises use
-- that definition."
-- Rests on packing's Unpacked; for the bounds on search's Called, closed's Demands, printout's Demands and reach's Limits.
use Prim.Native.Nat.{ℕ, ◌≤◌, ◌<◌}
use native.Mathlib.Omega.{arith}
use mathlib.Core.Path.{◌≡◌, refl, sym, ap, ◌∙◌}
use mathlib.Core.Bool.{Bool}
use mathlib.Core.List.{List}
use mathlib.Core.Logic.{◌⊎◌, inl, inr, ⊎_elim, ◌≢◌}
use mathlib.Core.Option.{none, none-ne-some, some-injective}
use lib.ListN.{length, get_or, take}
use lib.Dec.{eqb}
use Rattle.std.specs.Prelude.{Result, Ok, Err}
use Rattle.reach.specs.declared.Refusal.{Refusal}
use Rattle.reach.specs.declared.Refusal.TheVariants.{WorkTooShort, ListFull}
use Rattle.reach.specs.Words.{all_refusals, refusal_named, number_of, OfFile, steps_of}
use Rattle.reach.specs.Syntax.{Program}
use Rattle.reach.specs.Limits.{work_words, list_limit, step_limit, depth_limit}
use Rattle.reach.specs.Lists.{list_bytes, room_of, entry_part}
use Rattle.reach.specs.Answers.{Checked, accepted, turned_back, check, SearchAnswer, no_search, complete, cut_short, search_answer, listed, refusal_of, RunAnswer, no_run, ran, run_answer}
use Rattle.lists.specs.Text as Text
use Rattle.lists.specs.Printouts.{was_cut, Printout, TextAnswer, no_text, of_length, printout_of, length_answer, write_answer}
use Rattle.reach.proofs.Base.{clash}
use Rattle.reach.proofs.Limits.{accepted_keeps}
use Rattle.results.specs.Results.{search_result, run_result, text_result, text_length_in}
use Rattle.search.proofs.Called.{listed_room, written_take, refused_when, complete_when, full_when}
use Rattle.closed.proofs.Demands.{refused_file, steps_spent, depth_within}
use Rattle.printing.specs.Bound.{text_bound}
use Rattle.printout.proofs.Demands.{searched_length, searched_text}
use Rattle.entries.specs.Spans.{part_place}
use Rattle.packing.specs.Packing.{check_number, search_number, run_number, text_number, part_number}
use Rattle.packing.specs.Unpacking.{refusal_bits, count_bits, step_bits, depth_bits, decoded_check, check_read, SearchRead, decoded_search, search_read, decoded_run, run_read, TextRead, decoded_text, text_read, decoded_part}
use Rattle.remburai.proofs.Answers.{length_text_small, write_text_small}
use Rattle.remburai.specs.Answering.{Checks, Searches, Runs, Finds, Measures, Writes}
use Rattle.packing.proofs.Unpacked.{FitsBits, refused_parted, ran_parted, check_reads, search_reads, run_reads, read_one, text_reads, text_read_one, part_reads}

-- The check. `Checks file r` is the contract of `remburai_check`: the call answered r. Of the other calls likewise.

pub check_decodes : (file : List ℕ) (r : ℕ) → Checks file r → decoded_check r ≡ check_read (check file)
check_decodes file r call = rw call.number_is (check_reads (check file))

pub check_one : (a b : Checked) → check_number a ≡ check_number b → check_read a ≡ check_read b
check_one a b same = sym (check_reads a) ∙ ap decoded_check same ∙ check_reads b

-- The search: its refusal, its verdict and the length of its list.

pub search_decodes : (file work work' list list' : List ℕ) (r : ℕ)
    → Searches file work work' list list' r → decoded_search r ≡ search_read (search_answer file (length work) (length list))
search_decodes file work work' list list' r call = rw call.number_is (search_reads (search_answer file (length work) (length list)))

pub search_one : (a b : SearchAnswer) → search_number a ≡ search_number b → search_read a ≡ search_read b
search_one a b same = sym (search_reads a) ∙ ap decoded_search same ∙ search_reads b

-- the length is at most the 16,777,216 bytes that count
pub search_fits : (file work work' list list' : List ℕ) (r : ℕ) → Searches file work work' list list' r → count_bits r ≤ list_limit
unfolding room_of
search_fits file work work' list list' r call =
    let long : count_bits r ≡ _ = ap (λ (s : SearchRead). s.bytes) (search_decodes file work work' list list' r call) in
    omega (arith, long, listed_room file (length work) (length list))

-- The closed run: its refusal, or how it ended and its steps, and the depth of its input.

-- the steps of an answer and the depth, 0 with a refusal
abbrev steps_in : RunAnswer → ℕ
steps_in (no_run why) = 0
steps_in (ran o deep) = steps_of o

abbrev depth_in : RunAnswer → ℕ
depth_in a = (run_read a).depth

-- the steps are at most the largest step limit, 4,096, and the depth is at most the largest D, 64
module _ (file input work work' : List ℕ) (r : ℕ) (call : Runs file input work work' r) where
  within : (a : RunAnswer) → run_answer file input (length work) ≡ a → (c : Checked) → check file ≡ c → (steps_in a ≤ step_limit) × (depth_in a ≤ depth_limit)
  within (no_run why) is c checked = (omega arith, omega arith)
  within (ran o deep) is (accepted p) checked =
      let answer = run_result (run_answer file input (length work)) in
      let limits = accepted_keeps file p checked in (
        omega (arith, steps_spent file input work work' answer call.leaves p checked o deep (ap run_result is), limits.steps_limit),
        omega (arith, depth_within file input work work' answer call.leaves p checked o deep (ap run_result is), limits.depth_limit_law.1),
      )
  within (ran o deep) is (turned_back why) checked =
      let refused = refused_file file input work work' (run_result (run_answer file input (length work))) call.leaves why checked in
      let ended = ap run_result is in
      absurd (clash (cc))

  few : (steps_in (run_answer file input (length work)) ≤ step_limit) × (depth_in (run_answer file input (length work)) ≤ depth_limit)
  few = within (run_answer file input (length work)) refl (check file) refl

  small : (a : RunAnswer) → steps_in a ≤ step_limit → depth_in a ≤ depth_limit → FitsBits a
  small (no_run why) steps deep = tt
  small (ran o d) steps deep = (omega arith, omega arith)

  pub run_decodes : decoded_run r ≡ run_read (run_answer file input (length work))
  run_decodes = rw call.number_is (run_reads (run_answer file input (length work)) (small (run_answer file input (length work)) few.0 few.1))

  pub run_fits : (step_bits r ≤ step_limit) × (depth_bits r ≤ depth_limit)
  run_fits = rw call.number_is (fits (run_answer file input (length work)) few.0 few.1)
    where
      fits : (a : RunAnswer) → steps_in a ≤ step_limit → depth_in a ≤ depth_limit → (step_bits (run_number a) ≤ step_limit) × (depth_bits (run_number a) ≤ depth_limit)
      fits (no_run why) steps deep = let z = refused_parted why in (omega (arith, z.count_is), omega (arith, z.count_is))
      fits (ran o d) steps deep = let z = ran_parted o d (omega arith, omega arith) in (omega (arith, z.steps_are), omega (arith, z.depth_is))

-- nothing else is in the answer, so the number says it whole: two runs with one number have one answer
pub run_one : (file input work work' file₂ input₂ work₂ work₂' : List ℕ) (r : ℕ) → Runs file input work work' r → Runs file₂ input₂ work₂ work₂' r
    → run_answer file input (length work) ≡ run_answer file₂ input₂ (length work₂)
run_one file input work work' file₂ input₂ work₂ work₂' r call call₂ =
    read_one (run_answer file input (length work)) (run_answer file₂ input₂ (length work₂))
    (sym (run_decodes file input work work' r call) ∙ run_decodes file₂ input₂ work₂ work₂' r call₂)

-- The entry: where the part begins that `entry` of crate entries hands back, and how long it is. What stands there is the entry's part (`Part-lies` in
-- Demands of that crate).

pub entry_decodes : (list : List ℕ) (number r : ℕ) → Finds list number r → decoded_part r ≡ (part_place list number, length (entry_part list number))
entry_decodes list number r call = rw call.number_is (part_reads list number)

pub entry_one : (a b : List ℕ) (j k : ℕ) → part_number a j ≡ part_number b k
    → ◌≡◌ {A = ℕ × ℕ} (part_place a j, length (entry_part a j)) (part_place b k, length (entry_part b k))
entry_one a b j k same = sym (part_reads a j) ∙ ap decoded_part same ∙ part_reads b k

-- The text of a list: its refusal, or its length.

pub text_length_decodes : (file list : List ℕ) (full : Bool) (r : ℕ) → Measures file list full r → decoded_text r ≡ text_read (length_answer (printout_of file list full))
text_length_decodes file list full r call = rw call.number_is (text_reads (length_answer (printout_of file list full)))

pub write_text_decodes : (file list : List ℕ) (full : Bool) (text text' : List ℕ) (r : ℕ)
    → Writes file list full text text' r → decoded_text r ≡ text_read (write_answer (length text) (printout_of file list full))
write_text_decodes file list full text text' r call = rw call.number_is (text_reads (write_answer (length text) (printout_of file list full)))

-- nothing else is in the answer, so the number says it whole
pub text_one : (a b : TextAnswer) → text_number a ≡ text_number b → a ≡ b
text_one a b same = text_read_one a b (sym (text_reads a) ∙ ap decoded_text same ∙ text_reads b)

-- the length is at most that of a text of the 16,777,216 bytes that a list may have
module _ (file list : List ℕ) (bytes : (i : ℕ) → get_or list i 0 < 256) (full : Bool) (r : ℕ) where
  -- the length in an answer of the definition is that in what the call behind this one answered
  counted : (a : TextAnswer) → (text_read a).bytes ≡ text_length_in (text_result a)
  counted (no_text why) = refl
  counted (of_length n) = refl

  pub text_length_fits : Measures file list full r → count_bits r ≤ text_bound list_limit
  text_length_fits call =
      let a = length_answer (printout_of file list full) in
      let many : count_bits r ≡ (text_read a).bytes = ap (λ (t : TextRead). t.bytes) (text_length_decodes file list full r call) in
      omega (arith, many, counted a, length_text_small file list bytes full (text_result a) (record { answer_is = refl }))

  pub write_text_fits : (text text' : List ℕ) → Writes file list full text text' r → count_bits r ≤ text_bound list_limit
  write_text_fits text text' call =
      let a = write_answer (length text) (printout_of file list full) in
      let many : count_bits r ≡ (text_read a).bytes = ap (λ (t : TextRead). t.bytes) (write_text_decodes file list full text text' r call) in
      omega (arith, many, counted a, write_text_small file list bytes full text text' (text_result a) (record { answer_is = refl; text_is = call.text_is }))

-- 02, Slip 2, of a caller in C: the search answered a, without a refusal or with 12. Its list, the first bytes of the slice, handed back with the same file:
-- the calls give the length of what `reachlist` prints for that answer, and the text.
module _ (file work work' list list' : List ℕ) (a : ℕ) (call : Searches file work work' list list' a)
    (lists : (refusal_bits a ≡ 0) ⊎ (refusal_bits a ≡ number_of ListFull)) where
  abbrev answer : SearchAnswer
  answer = search_answer file (length work) (length list)

  list_stands : take (count_bits a) list' ≡ list_bytes (listed answer)
  list_stands =
      let many : count_bits a ≡ length (list_bytes (listed answer)) = ap (λ (s : SearchRead). s.bytes) (search_decodes file work work' list list' a call) in
      rw (many, call.leaves.list_is) (written_take (listed answer) list)

  -- what the number says of the answer
  record Ended (s : SearchAnswer) : Type 0 where
    program : Program
    checked : check file ≡ accepted program
    listing : (why : Refusal) → s ≢ no_search why
    cut : eqb (refusal_bits a) (number_of ListFull) ≡ was_cut s

  named : refusal_named (refusal_bits a) ≡ refusal_of answer
  named = ap (λ (s : SearchRead). s.refusal) (search_decodes file work work' list list' a call)

  -- no search is refused by 12 without a list
  never_so : ¬ (answer ≡ no_search ListFull)
  never_so is = by_cause ((refused_when file (length work) (length list) ListFull).0 (ap search_result is))
    where
      by_cause : (OfFile ListFull × (check file ≡ turned_back ListFull))
          ⊎ ((ListFull ≡ WorkTooShort) × ((p : Program) × (check file ≡ accepted p) × (length work < work_words p.steps))) → ⊥
      by_cause (inl (low, by)) = ⊎_elim (λ few. omega (arith, few)) (λ same. omega (arith, same)) low
      by_cause (inr (same, h)) = clash (cc)

  ended : (s : SearchAnswer) → answer ≡ s → Ended s
  unfolding refusal_named all_refusals refusal_of
  ended (no_search why) is = absurd (by_number lists)
    where
      by_number : ((refusal_bits a ≡ 0) ⊎ (refusal_bits a ≡ number_of ListFull)) → ⊥
      by_number (inl z) = none-ne-some why (rw z at named ∙ ap refusal_of is)
      by_number (inr z) = never_so (is ∙ ap no_search (sym (some-injective ListFull why (rw z at named ∙ ap refusal_of is))))
  ended (complete es) is = by_number lists
    where
      by_number : ((refusal_bits a ≡ 0) ⊎ (refusal_bits a ≡ number_of ListFull)) → Ended (complete es)
      by_number (inl z) =
          let h = (complete_when file (length work) (length list) _ _).0 (ap search_result is) in
          record { program = h.0; checked = h.1; listing = λ why no. clash (cc); cut = rw z refl }
      by_number (inr z) = absurd (none-ne-some ListFull (sym (rw z at named ∙ ap refusal_of is)))
  ended (cut_short es) is = by_number lists
    where
      by_number : ((refusal_bits a ≡ 0) ⊎ (refusal_bits a ≡ number_of ListFull)) → Ended (cut_short es)
      by_number (inl z) = absurd (none-ne-some ListFull (rw z at named ∙ ap refusal_of is))
      by_number (inr z) =
          let h = (full_when file (length work) (length list) _).0 (ap search_result is) in
          record { program = h.0; checked = h.4; listing = λ why no. clash (cc); cut = rw z refl }

  -- the number of a length
  told_length : (x : TextAnswer) (n : ℕ) → text_result x ≡ Ok n → text_read x ≡ record { refusal = none; bytes = n }
  told_length (no_text why) n is = absurd (clash (cc))
  told_length (of_length m) n is = let same : m ≡ n = cc in rw same refl

  abbrev cut : Bool
  cut = eqb (refusal_bits a) (number_of ListFull)

  -- what is printed of that list
  abbrev shown : Printout
  shown = printout_of file (list_bytes (listed answer)) (was_cut answer)

  pub searched_measured : (r : ℕ) → Measures file (take (count_bits a) list') cut r → decoded_text r ≡ record { refusal = none; bytes = length (Text.text answer) }
  searched_measured r measured =
      let e = ended answer refl in
      let is = searched_length file (length work) (length list) e.program e.checked answer refl e.listing (text_result (length_answer shown)) (record { answer_is = refl }) in
      text_length_decodes file (take (count_bits a) list') cut r measured ∙ rw (list_stands, e.cut) (told_length (length_answer shown) _ is)

  pub searched_written : (text text' : List ℕ) (r : ℕ) → Writes file (take (count_bits a) list') cut text text' r → length (Text.text answer) ≤ length text
      → (decoded_text r ≡ record { refusal = none; bytes = length (Text.text answer) }) × (take (count_bits r) text' ≡ Text.text answer)
  searched_written text text' r wrote room =
      let e = ended answer refl in
      let (is, stands) =
      searched_text file (length work) (length list) e.program e.checked answer refl e.listing text text' (text_result (write_answer (length text) shown))
      (record { answer_is = refl; text_is = rw (list_stands, e.cut) at wrote.text_is }) room in
      let reads : decoded_text r ≡ record { refusal = none; bytes = length (Text.text answer) } =
      write_text_decodes file (take (count_bits a) list') cut text text' r wrote ∙ rw (list_stands, e.cut) (told_length (write_answer (length text) shown) _ is) in
      let many : count_bits r ≡ length (Text.text answer) = ap (λ (t : TextRead). t.bytes) reads in
      (reads, rw many stands)
