-- The printed text of a list that is handed in: each refusal is given under its condition, and of what a search wrote the text is that of the search's answer.
-- Rests on specs/Printouts, on Handed (refusal 14) and on reach's Refusals (those of the file).
use Prim.Native.Nat.{ℕ, ◌≤◌, ◌<◌}
use mathlib.Core.Path.{◌≡◌, refl, sym, ap, ◌∙◌}
use mathlib.Core.Bool.{Bool, true, false}
use mathlib.Core.List.{List, [], ◌∷◌, ◌++◌, map, flat_map}
use mathlib.Core.Logic.{◌⊎◌, inl, inr, ◌↔◌, ◌≢◌}
use mathlib.Core.Option.{Option, none, some, none-ne-some}
use native.Mathlib.Omega.{arith}
use lib.ListN.{length, get_or, take, drop, length-append, length-drop}
use lib.Dec.{leb}
use lib.Seq.{take-append_seam, drop-append_seam}
use borrow.Author.Tests.{leb-true, leb-false, le-leb, lt-leb}
use Rattle.reach.specs.declared.Refusal.{Refusal}
use Rattle.reach.specs.declared.Refusal.TheVariants.{TextTooShort, BadList}
use Rattle.reach.specs.declared.Kind.{Kind}
use Rattle.reach.specs.Base.{pick}
use Rattle.reach.specs.Words.{OfFile}
use Rattle.reach.specs.Syntax.{Program}
use Rattle.reach.specs.Search.{Entry, kinds_of, counts}
use Rattle.reach.specs.Lists.{list_bytes, on_found, Decoded, saying_of}
use Rattle.reach.specs.Answers.{Checked, accepted, turned_back, check, SearchAnswer, no_search, complete, cut_short, search_answer, listed}
use Rattle.lists.specs.Text.{line_saying, last_line, text_of, text, list_text}
use Rattle.lists.specs.Handed.{IsList, handed}
use Rattle.lists.specs.Printouts.{was_cut, Printout, no_printout, printout, printout_checked, printout_of, no_text, of_length, length_answer, write_answer, text_slice}
use Rattle.reach.proofs.Base.{clash}
use Rattle.reach.proofs.Refusals.{turned_back_by}
use Rattle.lists.proofs.Handed.{handed_reads, handed_exactly, listed_handed, handed_text}

-- by the answer of the check
by_check : (file list : List ℕ) (full : Bool) (c : Checked) → check file ≡ c → printout_of file list full ≡ printout_checked list full c
unfolding printout_of
by_check file list full c e = ap (printout_checked list full) e

-- and by what is read of the list
abbrev read_as : Bool → Option (List Entry) → Printout
read_as full o = on_found (no_printout BadList) (λ es. printout (text_of full (map saying_of es))) o

module _ (file list : List ℕ) (full : Bool) where
  file_refused : (why : Refusal) → check file ≡ turned_back why → printout_of file list full ≡ no_printout why
  unfolding printout_checked
  file_refused why e = by_check file list full (turned_back why) e

  list_read : (p : Program) → check file ≡ accepted p → (o : Option (List Entry)) → handed p list ≡ o → printout_of file list full ≡ read_as full o
  unfolding printout_checked
  list_read p checked o e = by_check file list full (accepted p) checked ∙ ap (read_as full) e

  -- the text of the entries that the list is
  printout_text : (p : Program) → check file ≡ accepted p → (es : List Entry) → IsList p list es
      → printout_of file list full ≡ printout (text_of full (map saying_of es))
  printout_text p checked es is = list_read p checked (some es) (handed_reads file p checked list es is)

-- Each refusal of the file, and 14, under its condition, of a list of bytes.
module _ (file list : List ℕ) (bytes : (i : ℕ) → get_or list i 0 < 256) (full : Bool) where
  -- why there is no text
  abbrev Barred : Refusal → Type 0
  Barred why =
      (OfFile why × (check file ≡ turned_back why))
      ⊎ ((why ≡ BadList) × ((p : Program) × (check file ≡ accepted p) × ((es : List Entry) → ¬ IsList p list es)))

  -- and what it is
  abbrev Says : List ℕ → Type 0
  Says t = (p : Program) × (es : List Entry) × (check file ≡ accepted p) × IsList p list es × (t ≡ text_of full (map saying_of es))

  -- what there is, by what was found
  abbrev Is : Printout → Type 0
  Is (no_printout why) = Barred why
  Is (printout t) = Says t

  is_printout : Is (printout_of file list full)
  is_printout = checked (check file) refl
    where
      is_read : (p : Program) → check file ≡ accepted p → (o : Option (List Entry)) → handed p list ≡ o → Is (read_as full o)
      is_read p accepts none e = inr (refl, (p, accepts, λ es is. none-ne-some es (sym e ∙ handed_reads file p accepts list es is)))
      is_read p accepts (some es) e = (p, es, accepts, (handed_exactly file p accepts list bytes es).0 e, refl)

      checked : (c : Checked) → check file ≡ c → Is (printout_of file list full)
      checked (turned_back why) e = rw (file_refused file list full why e) (inl (turned_back_by file why e, e))
      checked (accepted p) e = rw (list_read file list full p e (handed p list) refl) (is_read p e (handed p list) refl)

  barred : (why : Refusal) → Barred why → printout_of file list full ≡ no_printout why
  barred why (inl (low, e)) = file_refused file list full why e
  barred why (inr (is, (p, checked, never))) = rw is (list_read file list full p checked none (unread (handed p list) refl))
    where
      unread : (o : Option (List Entry)) → handed p list ≡ o → handed p list ≡ none
      unread none e = e
      unread (some es) e = absurd (never es ((handed_exactly file p checked list bytes es).0 e))

  -- 02, Slip 2: 14 is tested "after the rule file's 1 to 9", and 15
  pub refused_exactly : (why : Refusal) → (printout_of file list full ≡ no_printout why) ↔ Barred why
  refused_exactly why = (λ e. rw e at is_printout, barred why)

  pub printed_exactly : (t : List ℕ) → (printout_of file list full ≡ printout t) ↔ Says t
  printed_exactly t = (
    λ e. rw e at is_printout,
    λ h. printout_text file list full h.0 h.2 h.1 h.3 ∙ ap printout (sym h.4),
  )

  -- it is the text of the list's bytes
  pub printout_bytes : (t : List ℕ) → printout_of file list full ≡ printout t → list_text full list ≡ t
  printout_bytes t e = let (p, es, checked, is, same) = (printed_exactly t).0 e in handed_text file p checked full list es is ∙ sym same

-- What the two calls answer, and what the writer leaves, by what is printed.

pub length_refuses : (x : Printout) (why : Refusal) → (length_answer x ≡ no_text why) ↔ (x ≡ no_printout why)
unfolding length_answer
length_refuses (no_printout by) why = (λ e. let same : by ≡ why = cc in ap no_printout same, λ e. let same : by ≡ why = cc in ap no_text same)
length_refuses (printout t) why = (λ e. absurd (clash (cc)), λ e. absurd (clash (cc)))

pub length_measures : (x : Printout) (n : ℕ) → (length_answer x ≡ of_length n) ↔ ((t : List ℕ) × (x ≡ printout t) × (n ≡ length t))
unfolding length_answer
length_measures (no_printout by) n = (λ e. absurd (clash (cc)), λ h. absurd (clash (let z = h.1 in cc)))
length_measures (printout t) n = (
  λ e. let same : n ≡ length t = cc in (t, refl, same),
  λ h. let same : h.0 ≡ t = (let z = h.1 in cc) in sym (ap of_length (h.2 ∙ ap length same)),
)

-- 13 exactly where the slice is shorter than the length that the other call gives
pub write_refuses : (x : Printout) (room : ℕ) (why : Refusal)
    → (write_answer room x ≡ no_text why) ↔ ((length_answer x ≡ no_text why) ⊎ ((why ≡ TextTooShort) × ((n : ℕ) × (length_answer x ≡ of_length n) × (room < n))))
unfolding write_answer length_answer
write_refuses (no_printout by) room why = (λ e. inl e, back)
  where
    back : ((no_text by ≡ no_text why) ⊎ ((why ≡ TextTooShort) × ((n : ℕ) × (no_text by ≡ of_length n) × (room < n)))) → no_text by ≡ no_text why
    back (inl e) = e
    back (inr (is, (n, e, l))) = absurd (clash (cc))
write_refuses (printout t) room why = (forth (leb (length t) room) refl, back)
  where
    forth : (b : Bool) → leb (length t) room ≡ b → pick b (of_length (length t)) (no_text TextTooShort) ≡ no_text why
        → ((of_length (length t) ≡ no_text why) ⊎ ((why ≡ TextTooShort) × ((n : ℕ) × (of_length (length t) ≡ of_length n) × (room < n))))
    forth true is e = absurd (clash (cc))
    forth false is e = inr (let same : why ≡ TextTooShort = cc in same, (length t, refl, leb-false (length t) room is))

    back : ((of_length (length t) ≡ no_text why) ⊎ ((why ≡ TextTooShort) × ((n : ℕ) × (of_length (length t) ≡ of_length n) × (room < n))))
        → pick (leb (length t) room) (of_length (length t)) (no_text TextTooShort) ≡ no_text why
    back (inl e) = absurd (clash (cc))
    back (inr (is, (n, e, l))) = let same : length t ≡ n = cc in rw (lt-leb (length t) room (omega (arith, same, l))) (ap no_text (sym is))

-- and else the length
pub write_measures : (x : Printout) (room n : ℕ) → (write_answer room x ≡ of_length n) ↔ ((length_answer x ≡ of_length n) × (n ≤ room))
unfolding write_answer length_answer
write_measures (no_printout by) room n = (λ e. absurd (clash (cc)), λ h. absurd (clash (let z = h.0 in cc)))
write_measures (printout t) room n = (forth (leb (length t) room) refl, back)
  where
    forth : (b : Bool) → leb (length t) room ≡ b → pick b (of_length (length t)) (no_text TextTooShort) ≡ of_length n → (of_length (length t) ≡ of_length n) × (n ≤ room)
    forth true is e = let same : n ≡ length t = cc in (e, omega (arith, leb-true (length t) room is))
    forth false is e = absurd (clash (cc))

    back : (of_length (length t) ≡ of_length n) × (n ≤ room) → pick (leb (length t) room) (of_length (length t)) (no_text TextTooShort) ≡ of_length n
    back (e, l) = let same : n ≡ length t = cc in rw (le-leb (length t) room (omega (arith, same, l))) e

-- the text stands at the front of a slice that holds it, and behind it the slice is as before
pub slice_text : (before t : List ℕ) (n : ℕ) → n ≡ length t → n ≤ length before
    → (take n (text_slice before (printout t)) ≡ t) × (drop n (text_slice before (printout t)) ≡ drop n before) × (length (text_slice before (printout t)) ≡ length before)
unfolding text_slice
slice_text before t n is l =
    rw (le-leb (length t) (length before) (omega (arith, is, l)), is) (
      take-append_seam t (drop (length t) before),
      drop-append_seam t (drop (length t) before),
      omega (arith, is, l, length-append t (drop (length t) before), length-drop (length t) before),
    )

-- a refusal leaves the slice as it was
pub slice_kept : (before : List ℕ) (x : Printout) (why : Refusal) → write_answer (length before) x ≡ no_text why → text_slice before x ≡ before
unfolding text_slice write_answer
slice_kept before (no_printout by) why e = refl
slice_kept before (printout t) why e = by_test (leb (length t) (length before)) e
  where
    by_test : (b : Bool) → pick b (of_length (length t)) (no_text TextTooShort) ≡ no_text why → pick b (t ++ drop (length t) before) before ≡ before
    by_test true is = absurd (clash (cc))
    by_test false is = refl

-- entries say their kinds
said_kinds : (es : List Entry) → map (λ (d : Decoded). d.kind) (map saying_of es) ≡ kinds_of es
said_kinds [] = refl
said_kinds (e ∷ es) = ap (λ (ks : List Kind). e.kind ∷ ks) (said_kinds es)

-- 02, Slip 2: "Counts and verdict in the text are those of the list handed in"
pub text_counts : (full : Bool) (es : List Entry) → text_of full (map saying_of es) ≡ flat_map line_saying (map saying_of es) ++ last_line full (counts (kinds_of es))
unfolding text_of
text_counts full es = ap (λ (ks : List Kind). flat_map line_saying (map saying_of es) ++ last_line full (counts ks)) (said_kinds es)

-- every list that a search wrote, complete or cut short, handed back with its file: the text is that of the search's answer
pub printout_searched : (file : List ℕ) (work room : ℕ) (p : Program) → check file ≡ accepted p
    → (a : SearchAnswer) → search_answer file work room ≡ a → ((why : Refusal) → a ≢ no_search why)
    → printout_of file (list_bytes (listed a)) (was_cut a) ≡ printout (text a)
unfolding text listed
printout_searched file work room p checked (no_search why) e ran = absurd (ran why refl)
printout_searched file work room p checked (complete es) e ran =
    printout_text file (list_bytes es) false p checked es (rw e at (listed_handed file p checked work room))
printout_searched file work room p checked (cut_short es) e ran =
    printout_text file (list_bytes es) true p checked es (rw e at (listed_handed file p checked work room))
