-- What the definition's answer is, by the answer that a call gave: under which condition it is given, and where its list stands in the slice.
-- Rests on specs/Answering, on exploring's Cutting, and on reach's Answers and Refusals.
use Prim.Native.Nat.{ℕ, zero, suc, ◌+◌, ◌≤◌, ◌<◌}
use native.Mathlib.Omega.{arith}
use mathlib.Core.Path.{◌≡◌, refl, sym, ap, subst, ◌∙◌}
use mathlib.Core.List.Memᴰ
use mathlib.Core.List.{List, [], ◌∷◌, ◌++◌, flat_map}
use mathlib.Core.Logic.{◌⊎◌, inl, inr, ⊎_elim, ◌↔◌}
use mathlib.Core.Option.{some}
use lib.ListN.{length, get_elem?, take, drop}
use lib.Seq.{take-append_seam, drop-append_seam}
use Rattle.std.specs.Prelude.{Result, Ok, Err}
use Rattle.reach.specs.declared.Refusal.{Refusal}
use Rattle.reach.specs.declared.Refusal.TheVariants.{WorkTooShort}
use Rattle.reach.specs.declared.Verdict.{Verdict}
use Rattle.reach.specs.Base.{◌∈◌}
use Rattle.reach.specs.Words.{OfFile}
use Rattle.reach.specs.Limits.{work_words}
use Rattle.reach.specs.Syntax.{Program}
use Rattle.reach.specs.Eval.{missing, Spent}
use Rattle.reach.specs.declared.Kind.{Kind}
use Rattle.reach.specs.declared.Kind.TheVariants.{RE, UN, MI}
use Rattle.reach.specs.Search.{Entry, says, entries, verdict}
use Rattle.reach.specs.Lists.{entry_bytes, list_bytes, room_of, written}
use Rattle.reach.specs.Answers.{Checked, accepted, turned_back, check, SearchAnswer, no_search, complete, cut_short, search_answer, listed, refusal_of, verdict_of}
use Rattle.reach.proofs.Base.{clash}
use Rattle.reach.proofs.Answers.{Means, search_means, search_turned_back}
use Rattle.reach.proofs.Refusals.{turned_back_by}
use Rattle.results.specs.declared.Listed.{Listed}
use Rattle.results.specs.Results.{search_result, list_length_in, refusal_in, verdict_in}
use Rattle.search.specs.Answering.{SearchPromise, Searched}
use Rattle.exploring.proofs.Cutting.{size_more, answer_complete, answer_full, answer_short, answer_refused}

-- what a call promises of its own answer holds of the definition's
pub searched_so : {file work work' before after : List ℕ} {r : Result Listed Refusal} → SearchPromise file work work' before after r → Searched file work work' before after
searched_so {file} {work} {work'} {before} {after} call = subst (SearchPromise file work work' before after) call.answer_is call

-- The answer shows the length, the refusal and the verdict of the definition's.

pub length_is : (a : SearchAnswer) → list_length_in (search_result a) ≡ length (list_bytes (listed a))
unfolding listed list_bytes flat_map
length_is (no_search why) = refl
length_is (complete es) = refl
length_is (cut_short es) = refl

pub refusal_is : (a : SearchAnswer) → refusal_in (search_result a) ≡ refusal_of a
unfolding refusal_of
refusal_is (no_search why) = refl
refusal_is (complete es) = refl
refusal_is (cut_short es) = refl

pub verdict_is : (a : SearchAnswer) → verdict_in (search_result a) ≡ verdict_of a
unfolding verdict_of
verdict_is (no_search why) = refl
verdict_is (complete es) = refl
verdict_is (cut_short es) = refl

-- a refusal other than 12 is one of the definition's
pub refused_is : (a : SearchAnswer) (why : Refusal) → Err why ≡ search_result a → a ≡ no_search why
refused_is (no_search by) why is = cc
refused_is (complete es) why is = absurd (clash (cc))
refused_is (cut_short es) why is = absurd (clash (cc))

-- a complete list is, and its length and verdict are shown
complete_shows : (a : SearchAnswer) (n : ℕ) (v : Verdict) → Ok (Listed.Complete n v) ≡ search_result a
    → (es : List Entry) × (a ≡ complete es) × (n ≡ length (list_bytes es)) × (v ≡ verdict es)
complete_shows (no_search why) n v is = absurd (clash (cc))
complete_shows (complete es) n v is = (es, refl, cc, cc)
complete_shows (cut_short es) n v is = absurd (clash (cc))

-- and a list cut short
full_shows : (a : SearchAnswer) (n : ℕ) → Ok (Listed.Full n) ≡ search_result a → (es : List Entry) × (a ≡ cut_short es) × (n ≡ length (list_bytes es))
full_shows (no_search why) n is = absurd (clash (cc))
full_shows (complete es) n is = absurd (clash (cc))
full_shows (cut_short es) n is = (es, refl, cc)

-- The condition of each answer.

module _ (file : List ℕ) (work list : ℕ) where
  -- a refusal by the check, or a work slice that is too short for an accepted file
  abbrev Refusable : Refusal → Type 0
  Refusable why =
      (OfFile why × (check file ≡ turned_back why))
      ⊎ ((why ≡ WorkTooShort) × ((p : Program) × (check file ≡ accepted p) × (work < work_words p.steps)))

  pub refused_when : (why : Refusal) → (search_result (search_answer file work list) ≡ Err why) ↔ Refusable why
  refused_when why = (λ is. from (check file) refl (refused_is (search_answer file work list) why (sym is)), into)
    where
      from : (c : Checked) → check file ≡ c → search_answer file work list ≡ no_search why → Refusable why
      from (accepted p) c is = let m = subst (Means p work list) is (search_means file work list p c) in inr (m.0, (p, c, m.1))
      from (turned_back by) c is =
          let same : by ≡ why = cc (answer_refused file work list by c) in
          let turned : check file ≡ turned_back why = c ∙ ap turned_back same in
          inl (turned_back_by file why turned, turned)

      into : Refusable why → search_result (search_answer file work list) ≡ Err why
      into =
          ⊎_elim (λ h. ap search_result (answer_refused file work list why h.1))
          (λ h. ap search_result (answer_short file work list h.1.0 h.1.1 h.1.2) ∙ ap Err (sym h.0))

  -- the first entries fit the room, and the next one does not fit behind them
  abbrev Fillable : ℕ → Type 0
  Fillable n =
      (p : Program) × (es : List Entry) × (next : Entry) × (rest : List Entry) × (check file ≡ accepted p) × (work_words p.steps ≤ work)
      × (entries p ≡ es ++ (next ∷ rest)) × (n ≡ length (list_bytes es)) × (n ≤ room_of list) × (room_of list < n + length (entry_bytes next))

  pub full_when : (n : ℕ) → (search_result (search_answer file work list) ≡ Ok (Listed.Full n)) ↔ Fillable n
  full_when n = (λ is. let (es, a, long) = full_shows (search_answer file work list) n (sym is) in from (check file) refl es a long, into)
    where
      from : (c : Checked) → check file ≡ c → (es : List Entry) → search_answer file work list ≡ cut_short es → n ≡ length (list_bytes es) → Fillable n
      from (accepted p) c es is long =
          let m = subst (Means p work list) is (search_means file work list p c) in
          let next = m.1.0 in
          (p, es, next, m.1.1, c, m.0, m.1.2, long, omega (arith, m.1.3), omega (arith, m.1.4, size_more es next))
      from (turned_back by) c es is long = absurd (clash (cc (answer_refused file work list by c)))

      into : Fillable n → search_result (search_answer file work list) ≡ Ok (Listed.Full n)
      into (p, es, next, rest, c, enough, all, long, fits, over) =
          ap search_result (answer_full file work list p c enough es next rest all (omega arith) (omega arith)) ∙ ap (λ (m : ℕ). Ok (Listed.Full m)) (sym long)

  -- all entries fit the room
  abbrev Completable : ℕ → Verdict → Type 0
  Completable n v =
      (p : Program) × (check file ≡ accepted p) × (work_words p.steps ≤ work) × (n ≡ length (list_bytes (entries p))) × (n ≤ room_of list)
      × (v ≡ verdict (entries p))

  pub complete_when : (n : ℕ) (v : Verdict) → (search_result (search_answer file work list) ≡ Ok (Listed.Complete n v)) ↔ Completable n v
  complete_when n v =
      (λ is. let (es, a, long, by) = complete_shows (search_answer file work list) n v (sym is) in from (check file) refl es a long by, into)
    where
      from : (c : Checked) → check file ≡ c → (es : List Entry) → search_answer file work list ≡ complete es → n ≡ length (list_bytes es) → v ≡ verdict es
          → Completable n v
      from (accepted p) c es is long by =
          let m = subst (Means p work list) is (search_means file work list p c) in
          (p, c, m.0, long ∙ ap (λ (l : List Entry). length (list_bytes l)) m.1, omega (arith, m.2), by ∙ ap verdict m.1)
      from (turned_back refusal) c es is long by = absurd (clash (cc (answer_refused file work list refusal c)))

      into : Completable n v → search_result (search_answer file work list) ≡ Ok (Listed.Complete n v)
      into (p, c, enough, long, fits, by) =
          ap search_result (answer_complete file work list p c enough (omega arith)) ∙ rw (long, by)

  -- a complete list is the search's, entry for entry
  pub complete_lists : (n : ℕ) (v : Verdict) → search_result (search_answer file work list) ≡ Ok (Listed.Complete n v)
      → (search_answer file work list ≡ complete (listed (search_answer file work list))) × (v ≡ verdict (listed (search_answer file work list)))
  unfolding listed
  complete_lists n v is =
      let (es, a, long, by) = complete_shows (search_answer file work list) n v (sym is) in
      rw a (refl, by)

  -- and so is a list cut short, as far as it goes
  pub full_lists : (n : ℕ) → search_result (search_answer file work list) ≡ Ok (Listed.Full n)
      → search_answer file work list ≡ cut_short (listed (search_answer file work list))
  unfolding listed
  full_lists n is = let (es, a, long) = full_shows (search_answer file work list) n (sym is) in rw a

  -- with any other refusal nothing is listed
  pub refused_lists : (why : Refusal) → search_result (search_answer file work list) ≡ Err why → listed (search_answer file work list) ≡ []
  unfolding listed
  refused_lists why is = rw (refused_is (search_answer file work list) why (sym is))

-- The list in its slice.

-- what is listed fits the room
means_room : (p : Program) (work list : ℕ) (a : SearchAnswer) → Means p work list a → length (list_bytes (listed a)) ≤ room_of list
unfolding listed list_bytes flat_map
means_room p work list (no_search why) m = omega arith
means_room p work list (complete es) m = m.2
means_room p work list (cut_short es) m = m.1.3

refused_room : (why : Refusal) (room : ℕ) → length (list_bytes (listed (no_search why))) ≤ room
unfolding listed list_bytes flat_map
refused_room why room = omega arith

pub listed_room : (file : List ℕ) (work list : ℕ) → length (list_bytes (listed (search_answer file work list))) ≤ room_of list
listed_room file work list = go (check file) refl
  where
    go : (c : Checked) → check file ≡ c → length (list_bytes (listed (search_answer file work list))) ≤ room_of list
    go (accepted p) is = means_room p work list (search_answer file work list) (search_means file work list p is)
    go (turned_back why) is = rw (search_turned_back file work list why is) (refused_room why (room_of list))

pub room_inside : (n : ℕ) → room_of n ≤ n
unfolding room_of
room_inside n = omega arith

-- the list stands at the front, and behind it the slice is as before
pub written_take : (es : List Entry) (before : List ℕ) → take (length (list_bytes es)) (written es before) ≡ list_bytes es
unfolding written
written_take es before = take-append_seam (list_bytes es) (drop (length (list_bytes es)) before)

pub written_drop : (es : List Entry) (before : List ℕ) → drop (length (list_bytes es)) (written es before) ≡ drop (length (list_bytes es)) before
unfolding written
written_drop es before = drop-append_seam (list_bytes es) (drop (length (list_bytes es)) before)

-- an entry of a list has a number there
pub member_number : (es : List Entry) (e : Entry) → e ∈ es → (k : ℕ) × (get_elem? es k ≡ some e)
member_number [] e m = absurd (Memᴰ.not-nil m)
member_number (x ∷ es) e m =
    ⊎_elim {C = (k : ℕ) × (get_elem? (x ∷ es) k ≡ some e)} (λ same. (zero, ap some (sym same)))
    (λ later. let found = member_number es e later in (suc found.0, found.1))
    (Memᴰ.cases_cons m)

-- the steps of an end that an entry speaks of
pub says_spent : (k : Kind) (n limit : ℕ) → Spent limit (says k n) → (n ≤ limit) × (k ≡ UN → n ≡ limit)
says_spent RE n limit s = (s, λ is. absurd (clash (cc)))
says_spent UN n limit s = (omega arith, λ is. s)
says_spent MI n limit s = (s, λ is. absurd (clash (cc)))

-- an entry that speaks of a missing alternative is an MI with these steps
pub says_missing : (k : Kind) (n m : ℕ) → says k n ≡ missing m → (k ≡ MI) × (n ≡ m)
says_missing RE n m e = absurd (clash (cc))
says_missing UN n m e = absurd (clash (cc))
says_missing MI n m e = (refl, cc)
