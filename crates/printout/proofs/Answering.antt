-- The answers of both calls, by what the check of the file, the reading of the list and the printing found.
-- Rests on specs/Answering, on lists' Printouts, on handed's Fits, and on rulefile's Loading.
use Prim.Native.Nat.{ℕ, ◌<◌, ◌≤◌}
use mathlib.Core.Path.{◌≡◌, refl, sym, ap, subst, ◌∙◌}
use mathlib.Core.Bool.{Bool, true, false}
use mathlib.Core.List.{List, ◌++◌, map}
use mathlib.Core.Option.{Option, none, some}
use native.Mathlib.Omega.{arith}
use lib.ListN.{length, get_or, drop}
use lib.Seq.{take_all}
use borrow.Author.Tests.{le-leb, lt-leb}
use Rattle.std.specs.Prelude.{Result, Ok, Err}
use Rattle.reach.specs.declared.Refusal.{Refusal}
use Rattle.reach.specs.declared.Refusal.TheVariants.{TextTooShort, BadList}
use Rattle.reach.specs.Base.{pick}
use Rattle.reach.specs.Syntax.{Program}
use Rattle.reach.specs.Search.{Entry}
use Rattle.reach.specs.Lists.{on_found, saying_of}
use Rattle.reach.specs.Answers as Answers
use Rattle.lists.specs.Text.{text_of, list_text}
use Rattle.lists.specs.Handed.{handed}
use Rattle.lists.specs.Printouts.{Printout, no_printout, printout, printout_checked, printout_of, length_answer, write_answer, text_slice}
use Rattle.reach.proofs.Base.{clash}
use Rattle.lists.proofs.Handed.{handed_exactly, handed_text}
use Rattle.lists.proofs.Printouts.{printout_bytes}
use Rattle.rulefile.specs.declared.Loaded.{Loaded}
use Rattle.rulefile.specs.Loading.{type_places, function_places, Tabled, Loads}
use Rattle.rulefile.proofs.Tabled.{program_types, program_goal, program_source_types, program_least}
use Rattle.handed.specs.Fits.{AcceptedTables, FitsList}
use Rattle.writing.specs.Writing.{fronted, Fronts}
use Rattle.results.specs.Results.{text_result}
use Rattle.printout.specs.Answering.{judged_of, Judges, LengthPromise, WritePromise}

-- the tables of a loaded file are what the reading of a list asks for
given : {file : List ℕ} {r : Loaded} {p : Program} → Answers.check file ≡ Answers.accepted p → Tabled file r p
    → AcceptedTables file (type_places r) (function_places r) r.least.of r.goal.source r.goal.depths r.goal.steps p
given checked t = record {
  checked = checked;
  types_there = program_types t;
  source_there = rw (program_goal t).source_is (program_source_types t);
  depths_are = sym (program_goal t).depths_are;
  steps_are = sym (program_goal t).steps_is;
  table_is = λ n. sym (program_least t n);
}

-- the file is refused
pub judge_refused : (file list : List ℕ) {why : Refusal} → Answers.check file ≡ Answers.turned_back why → Judges file list (Err why)
judge_refused file list is = record { answer_is = sym (ap (judged_of list) is) }

-- the file is accepted, and the list was read
module _ (file list : List ℕ) (r : Loaded) (loads : Loads file (Ok r)) where
  abbrev Told : Bool → Type 0
  Told = FitsList file (type_places r) (function_places r) r.least.of r.goal.source r.goal.depths r.goal.steps list

  -- the list fits
  abbrev fitting : Result (Unit {0}) Refusal
  fitting = Ok tt

  judge_by : (b : Bool) (o : Option (List Entry)) → b ≡ on_found false (λ es. true) o
      → pick b fitting (Err BadList) ≡ on_found (Err BadList) (λ es. fitting) o
  judge_by b none same = rw same refl
  judge_by b (some es) same = rw same refl

  judged : (b : Bool) → Told b → Judges file list (pick b fitting (Err BadList))
  judged b told =
      let (p, checked, t) = loads in
      record { answer_is = judge_by b (handed p list) (told p (given checked t)) ∙ sym (ap (judged_of list) checked) }

  pub judge_fits : {b : Bool} → Told b → b ≡ true → Judges file list (Ok tt)
  judge_fits {b} told fits = judged true (subst Told fits told)

  pub judge_bad : {b : Bool} → Told b → b ≡ false → Judges file list (Err BadList)
  judge_bad {b} told bad = judged false (subst Told bad told)

-- Of a list of bytes.
module _ (file list : List ℕ) (bytes : (i : ℕ) → get_or list i 0 < 256) (full : Bool) where
  -- what is printed, by what stands against the list
  abbrev printed_by : Result (Unit {0}) Refusal → Printout
  printed_by (Ok tt) = printout (list_text full list)
  printed_by (Err why) = no_printout why

  printed_judged : (r : Result (Unit {0}) Refusal) → Judges file list r → printout_of file list full ≡ printed_by r
  unfolding printout_of printout_checked
  printed_judged r judges = checked (Answers.check file) refl ∙ ap printed_by (sym judges.answer_is)
    where
      read : (p : Program) → Answers.check file ≡ Answers.accepted p → (o : Option (List Entry)) → handed p list ≡ o
          → on_found (no_printout BadList) (λ es. printout (text_of full (map saying_of es))) o ≡ printed_by (on_found (Err BadList) (λ es. Ok tt) o)
      read p accepts none e = refl
      read p accepts (some es) e = ap printout (sym (handed_text file p accepts full list es ((handed_exactly file p accepts list bytes es).0 e)))

      checked : (c : Answers.Checked) → Answers.check file ≡ c → printout_checked list full c ≡ printed_by (judged_of list c)
      checked (Answers.turned_back why) e = refl
      checked (Answers.accepted p) e = read p e (handed p list) refl

  pub measures_refused : (why : Refusal) → Judges file list (Err why) → LengthPromise file list full (Err why)
  unfolding length_answer
  measures_refused why judges = record { answer_is = rw (printed_judged (Err why) judges) refl }

  pub measures_length : (n : ℕ) → Judges file list (Ok tt) → n ≡ length (list_text full list) → LengthPromise file list full (Ok n)
  unfolding length_answer
  measures_length n judges is = record { answer_is = rw (printed_judged (Ok tt) judges) (ap Ok is) }

  -- the text of which the length was given
  measured_text : (n : ℕ) → LengthPromise file list full (Ok n) → (printout_of file list full ≡ printout (list_text full list)) × (n ≡ length (list_text full list))
  unfolding length_answer
  measured_text n measures = by_printout (printout_of file list full) refl measures.answer_is
    where
      by_printout : (x : Printout) → printout_of file list full ≡ x → Ok n ≡ text_result (length_answer x)
          → (printout_of file list full ≡ printout (list_text full list)) × (n ≡ length (list_text full list))
      by_printout (no_printout why) e is = absurd (clash (cc))
      by_printout (printout t) e is =
          let long : n ≡ length t = cc in
          rw (printout_bytes file list bytes full t e) (e, long)

  -- the writer, with a slice that held these bytes
  module _ (text : List ℕ) where
    pub writes_refused : (why : Refusal) → LengthPromise file list full (Err why) → WritePromise file list full text text (Err why)
    unfolding length_answer write_answer text_slice
    writes_refused why measures = by_printout (printout_of file list full) refl measures.answer_is
      where
        by_printout : (x : Printout) → printout_of file list full ≡ x → Err why ≡ text_result (length_answer x) → WritePromise file list full text text (Err why)
        by_printout (no_printout by) e is = record { answer_is = rw e is; text_is = rw e refl }
        by_printout (printout t) e is = absurd (clash (cc))

    pub writes_short : (n : ℕ) → LengthPromise file list full (Ok n) → length text < n → WritePromise file list full text text (Err TextTooShort)
    unfolding write_answer text_slice
    writes_short n measures short =
        let (is, long) = measured_text n measures in
        let test = lt-leb (length (list_text full list)) (length text) (omega (arith, long)) in
        record { answer_is = rw (is, test) refl; text_is = rw (is, test) refl }

    pub writes_text : (n m : ℕ) (text' : List ℕ) → LengthPromise file list full (Ok n) → n ≤ length text → Fronts text (list_text full list) text' m
        → WritePromise file list full text text' (Ok m)
    unfolding write_answer text_slice fronted
    writes_text n m text' measures room wrote =
        let (is, long) = measured_text n measures in
        let fits : length (list_text full list) ≤ length text = omega (arith, long) in
        let test = le-leb (length (list_text full list)) (length text) fits in
        record {
          answer_is = rw (is, test) (ap Ok wrote.size);
          text_is = rw (is, test) (wrote.bytes ∙ ap (λ (x : List ℕ). x ++ drop (length (list_text full list)) text) (take_all (length text) (list_text full list) fits));
        }
