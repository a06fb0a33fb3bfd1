-- 02, Slips 2 and 6, said of the calls `text_length` and `write_text`. A reviewer reads this file with the contracts in src/lib.rt: the sentence that a theorem
-- answers stands above it, and its statement uses definitions of specs/ only.
-- `LengthPromise file list full r` and `WritePromise file list full text text' r` are the contracts: the call answered r for a list that was handed in with
-- its file, `full` says that the search ended in 12, and the text slice that held the bytes `text` holds `text'`. `IsList p list es` says that the list is
-- the entries es, each of which fits. Nothing is asked of the file and of the slices, but that the list is bytes.
-- Rests on lists' Printouts and Total and on printing's Lengths.
use Prim.Native.Nat.{ℕ, ◌≤◌, ◌<◌}
use mathlib.Core.Path.{◌≡◌, refl, sym, ap, ◌∙◌}
use mathlib.Core.Bool.{Bool, false}
use mathlib.Core.List.{List, ◌++◌, map, flat_map}
use mathlib.Core.Logic.{◌⊎◌, inl, inr, ⊎_elim, ◌↔◌, ◌≢◌}
use native.Mathlib.Omega.{arith}
use lib.ListN.{length, get_or, take, drop}
use Rattle.std.specs.Prelude.{Result, Ok, Err}
use Rattle.reach.specs.declared.Refusal.{Refusal}
use Rattle.reach.specs.declared.Refusal.TheVariants.{TextTooShort, BadList}
use Rattle.reach.specs.Words.{OfFile}
use Rattle.reach.specs.Syntax.{Program}
use Rattle.reach.specs.Search.{Entry, kinds_of, counts}
use Rattle.reach.specs.Lists.{list_bytes, saying_of}
use Rattle.reach.specs.Answers.{check, accepted, turned_back, SearchAnswer, no_search, search_answer, listed}
use Rattle.lists.specs.Text.{line_saying, last_line, text_of, complete_text, ShareOf, text}
use Rattle.lists.specs.Handed.{IsList}
use Rattle.lists.specs.Printouts.{was_cut, Printout, printout, printout_of, TextAnswer, no_text, of_length, length_answer, write_answer, text_slice}
use Rattle.reach.proofs.Base.{clash}
use Rattle.lists.proofs.Printouts.{refused_exactly, printed_exactly, printout_bytes, length_refuses, length_measures, write_refuses, write_measures, slice_text, slice_kept, text_counts, printout_searched}
use Rattle.lists.proofs.Total.{text_shares, text_share}
use Rattle.printing.specs.Bound.{text_bound}
use Rattle.printing.proofs.Lengths.{text_short}
use Rattle.results.specs.Results.{text_result}
use Rattle.printout.specs.Answering.{LengthPromise, WritePromise}

-- what the result shows is what the definition answers
shows_refused : (a : TextAnswer) (why : Refusal) → (text_result a ≡ Err why) ↔ (a ≡ no_text why)
shows_refused (no_text by) why = (λ e. let same : by ≡ why = cc in ap no_text same, λ e. ap text_result e)
shows_refused (of_length n) why = (λ e. absurd (clash (cc)), λ e. ap text_result e)

shows_length : (a : TextAnswer) (n : ℕ) → (text_result a ≡ Ok n) ↔ (a ≡ of_length n)
shows_length (no_text by) n = (λ e. absurd (clash (cc)), λ e. ap text_result e)
shows_length (of_length m) n = (λ e. let same : m ≡ n = cc in ap of_length same, λ e. ap text_result e)

-- Of a list of bytes.
module _ (file list : List ℕ) (bytes : (i : ℕ) → get_or list i 0 < 256) (full : Bool) where
  -- what is printed
  abbrev shown : Printout
  shown = printout_of file list full

  -- the call of the length answers so
  refusing : (why : Refusal) → LengthPromise file list full (Err why) ↔ (length_answer shown ≡ no_text why)
  refusing why = (λ m. (shows_refused (length_answer shown) why).0 (sym m.answer_is), λ e. record { answer_is = sym (ap text_result e) })

  measuring : (n : ℕ) → LengthPromise file list full (Ok n) ↔ (length_answer shown ≡ of_length n)
  measuring n = (λ m. (shows_length (length_answer shown) n).0 (sym m.answer_is), λ e. record { answer_is = sym (ap text_result e) })

  -- The length: "the exact length of that text in bytes from the list without writing it".
  module _ (r : Result ℕ Refusal) (call : LengthPromise file list full r) where
    -- "14 scrap: the list has more than 16,777,216 bytes or is not whole entries of known kinds, with parameters of the rule file's types and depths [..] and
    -- at most S steps, tested [..] after the rule file's 1 to 9", and 15. No other number is given.
    pub length_refused : (why : Refusal)
        → (r ≡ Err why)
        ↔ ((OfFile why × (check file ≡ turned_back why))
        ⊎ ((why ≡ BadList) × ((p : Program) × (check file ≡ accepted p) × ((es : List Entry) → ¬ IsList p list es))))
    length_refused why =
        let exact = refused_exactly file list bytes full why in
        let told = length_refuses shown why in
        rw call.answer_is
        (λ e. exact.0 (told.0 ((shows_refused (length_answer shown) why).0 e)), λ h. (shows_refused (length_answer shown) why).1 (told.1 (exact.1 h)))

    pub length_exact : (n : ℕ)
        → (r ≡ Ok n)
        ↔ ((p : Program) × (es : List Entry) × (check file ≡ accepted p) × IsList p list es × (n ≡ length (text_of full (map saying_of es))))
    length_exact n =
        let told = length_measures shown n in
        rw call.answer_is (
          λ e.
              let (t, is, size) = told.0 ((shows_length (length_answer shown) n).0 e) in
              let (p, es, checked, holds, same) = (printed_exactly file list bytes full t).0 is in
              (p, es, checked, holds, size ∙ ap length same),
          λ (p, es, checked, holds, size).
              let is = (printed_exactly file list bytes full (text_of full (map saying_of es))).1 (p, es, checked, holds, refl) in
              (shows_length (length_answer shown) n).1 (told.1 (text_of full (map saying_of es), is, size)),
        )

    -- 02, Slip 6, of a complete list: the text that is measured has the share that the law of the share gives
    pub length_shares : (n : ℕ) → r ≡ Ok n → full ≡ false
        → (p : Program) × (es : List Entry) × (check file ≡ accepted p) × IsList p list es × ((x : ℕ) × ShareOf es x × (n ≡ length (complete_text es x)))
    length_shares n is ends =
        let (p, es, checked, holds, size) = (length_exact n).0 is in
        let (x, has, same) = text_share es in
        (p, es, checked, holds, (x, has, size ∙ ap (λ (whether : Bool). length (text_of whether (map saying_of es))) ends ∙ ap length same))

    -- a caller may reserve by the list alone
    pub length_most : (n : ℕ) → r ≡ Ok n → n ≤ text_bound (length list)
    length_most n is =
        let (t, prints, size) = (length_measures shown n).0 ((shows_length (length_answer shown) n).0 (sym call.answer_is ∙ is)) in
        omega (arith, size, ap length (printout_bytes file list bytes full t prints), text_short full list bytes)

  -- The writer: "a writer of the printed text into a lent slice".
  module _ (before after : List ℕ) (r : Result ℕ Refusal) (call : WritePromise file list full before after r) where
    -- "13 page: the text slice is shorter than that length"; 14 is "tested before 13". The length is the one that the other call gives.
    pub write_refused : (why : Refusal)
        → (r ≡ Err why)
        ↔ (LengthPromise file list full (Err why) ⊎ ((why ≡ TextTooShort) × ((n : ℕ) × LengthPromise file list full (Ok n) × (length before < n))))
    write_refused why =
        let shows = shows_refused (write_answer (length before) shown) why in
        let told = write_refuses shown (length before) why in
        rw call.answer_is (
          λ e. ⊎_elim (λ h. inl ((refusing why).1 h)) (λ (is, (n, h, l)). inr (is, (n, (measuring n).1 h, l))) (told.0 (shows.0 e)),
          λ h. shows.1 (told.1 (⊎_elim (λ m. inl ((refusing why).0 m)) (λ (is, (n, m, l)). inr (is, (n, (measuring n).0 m, l))) h)),
        )

    -- the two calls agree
    pub write_exact : (n : ℕ) → (r ≡ Ok n) ↔ (LengthPromise file list full (Ok n) × (n ≤ length before))
    write_exact n =
        let shows = shows_length (write_answer (length before) shown) n in
        let told = write_measures shown (length before) n in
        rw call.answer_is (
          λ e. let (h, l) = told.0 (shows.0 e) in ((measuring n).1 h, l),
          λ (m, l). shows.1 (told.1 ((measuring n).0 m, l)),
        )

    -- The text stands at the slice's front, and behind it the slice is as before. Its lines are those of the entries that the list is, and "Counts and verdict
    -- in the text are those of the list handed in"; where the search ended in 12, "the text then closes with the refusal line".
    pub text_stands : (n : ℕ) → r ≡ Ok n
        → ((p : Program) × (es : List Entry) × (check file ≡ accepted p) × IsList p list es
        × (take n after ≡ flat_map line_saying (map saying_of es) ++ last_line full (counts (kinds_of es))))
        × (drop n after ≡ drop n before) × (length after ≡ length before)
    text_stands n is =
        let (m, l) = (write_exact n).0 is in
        let (t, e, size) = (length_measures shown n).0 ((measuring n).0 m) in
        let (p, es, checked, holds, same) = (printed_exactly file list bytes full t).0 e in
        let slice = slice_text before t n size l in
        let stands : after ≡ text_slice before (printout t) = call.text_is ∙ ap (text_slice before) e in
        rw stands ((p, es, checked, holds, slice.0 ∙ same ∙ text_counts full es), slice.1, slice.2)

    -- 02, Slip 6: "The share is rounded to the nearest whole per cent, and an exact half goes to the even one". The text of a complete list that was written
    -- has x for the share of its total line exactly if x is the share of the list's entries by that law.
    pub text_shared : (n : ℕ) → r ≡ Ok n → full ≡ false
        → (p : Program) × (es : List Entry) × (check file ≡ accepted p) × IsList p list es × ((x : ℕ) → ShareOf es x ↔ (take n after ≡ complete_text es x))
    text_shared n is ends =
        let ((p, es, checked, holds, same), behind, size) = text_stands n is in
        let whole : take n after ≡ text_of false (map saying_of es) =
        same ∙ sym (text_counts full es) ∙ ap (λ (whether : Bool). text_of whether (map saying_of es)) ends in
        (p, es, checked, holds, λ x. rw whole (text_shares es x))

    -- "Both leave the slice untouched", and so does a refusal of the file: "tested before a byte is written"
    pub refused_unchanged : (why : Refusal) → r ≡ Err why → after ≡ before
    refused_unchanged why is =
        call.text_is ∙ slice_kept before shown why ((shows_refused (write_answer (length before) shown) why).0 (sym call.answer_is ∙ is))

-- "they speak for the rule file only where its search returned that list": every list that a search wrote, complete or cut short, is accepted, and its text is
-- the one that `reachlist` prints for that answer.
module _ (file : List ℕ) (work room : ℕ) (p : Program) (checked : check file ≡ accepted p)
    (a : SearchAnswer) (is : search_answer file work room ≡ a) (ran : (why : Refusal) → a ≢ no_search why) where
  prints : printout_of file (list_bytes (listed a)) (was_cut a) ≡ printout (text a)
  prints = printout_searched file work room p checked a is ran

  measured : length_answer (printout_of file (list_bytes (listed a)) (was_cut a)) ≡ of_length (length (text a))
  measured = (length_measures (printout_of file (list_bytes (listed a)) (was_cut a)) (length (text a))).1 (text a, prints, refl)

  pub searched_length : (r : Result ℕ Refusal) → LengthPromise file (list_bytes (listed a)) (was_cut a) r → r ≡ Ok (length (text a))
  searched_length r call = call.answer_is ∙ ap text_result measured

  pub searched_text : (before after : List ℕ) (r : Result ℕ Refusal) → WritePromise file (list_bytes (listed a)) (was_cut a) before after r → length (text a) ≤ length before
      → (r ≡ Ok (length (text a))) × (take (length (text a)) after ≡ text a)
  searched_text before after r call l =
      let slice = slice_text before (text a) (length (text a)) refl l in
      let stands : after ≡ text_slice before (printout (text a)) = call.text_is ∙ ap (text_slice before) prints in (
        call.answer_is ∙ ap text_result ((write_measures (printout_of file (list_bytes (listed a)) (was_cut a)) (length before) (length (text a))).1 (measured, l)),
        rw stands slice.0,
      )
