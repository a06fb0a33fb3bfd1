-- What each answer of a search says: under which condition it is given, and what the list then holds.
-- Rests on Lists for the list cut to its room.
use Prim.Native.Nat.{ℕ, ◌≤◌, ◌<◌}
use mathlib.Core.Path.{◌≡◌, refl, sym, ap, subst}
use mathlib.Core.Logic.{◌↔◌}
use mathlib.Core.Bool.{Bool, true, false}
use mathlib.Core.List.Memᴰ
use mathlib.Core.List.{List}
use lib.ListN.{length}
use native.Mathlib.Omega.{arith}
use lib.Dec.{leb}
use borrow.Author.Tests.{leb-true, leb-false}
use Rattle.reach.specs.declared.Refusal.{Refusal}
use Rattle.reach.specs.declared.Refusal.TheVariants.{WorkTooShort}
use Rattle.reach.specs.Base.{◌∈◌}
use Rattle.reach.specs.Limits.{work_words}
use Rattle.reach.specs.Syntax.{Program}
use Rattle.reach.specs.Search.{Entry, entries}
use Rattle.reach.specs.Lists.{list_bytes, cut, room_of}
use Rattle.reach.specs.Answers.{accepted, turned_back, check, SearchAnswer, no_search, complete, cut_short, cut_answer, search_checked, search_answer, listed}
use Rattle.reach.proofs.Base.{picked}
use Rattle.reach.proofs.Lists.{LongestRun, cut_whole, cut_full}

-- Of an accepted file: 11 where the work slice is too short; else a complete list, which is the search's and fits the room, or with 12 the
-- longest run of its first entries that does.
abbrev pub Means : Program → ℕ → ℕ → SearchAnswer → Type 0
Means p work list (no_search why) = (why ≡ WorkTooShort) × (work < work_words p.steps)
Means p work list (complete es) = (work_words p.steps ≤ work) × (es ≡ entries p) × (length (list_bytes es) ≤ room_of list)
Means p work list (cut_short es) = (work_words p.steps ≤ work) × LongestRun (room_of list) (entries p) es

cut_means : (p : Program) (work list : ℕ) → work_words p.steps ≤ work
    → (t : Bool) → (cut (room_of list) (entries p)).full ≡ t → Means p work list (cut_answer t (cut (room_of list) (entries p)).kept)
unfolding cut_answer
cut_means p work list w true f = (w, cut_full (room_of list) (entries p) f)
cut_means p work list w false f =
    let whole = cut_whole (room_of list) (entries p) f in
    (w, whole.0, subst (λ (es : List Entry). length (list_bytes es) ≤ room_of list) (sym whole.0) whole.1)

pub search_means : (file : List ℕ) (work list : ℕ) (p : Program) → check file ≡ accepted p → Means p work list (search_answer file work list)
unfolding search_answer search_checked
search_means file work list p h =
    rw h
    (picked (Means p work list) (leb (work_words p.steps) work)
    (λ enough. cut_means p work list (leb-true _ _ enough) (cut (room_of list) (entries p)).full refl)
    (λ short. (refl, leb-false _ _ short)))

-- a file that is turned back gets its number, whatever the slices
pub search_turned_back : (file : List ℕ) (work list : ℕ) (why : Refusal) → check file ≡ turned_back why → search_answer file work list ≡ no_search why
unfolding search_answer search_checked
search_turned_back file work list why h = rw h

-- every entry that is listed is one of the search's
means_in : (p : Program) (work list : ℕ) (a : SearchAnswer) → Means p work list a → (e : Entry) → e ∈ listed a → e ∈ entries p
unfolding listed
means_in p work list (no_search why) h e m = absurd (Memᴰ.not-nil m)
means_in p work list (complete es) h e m = subst (λ (xs : List Entry). e ∈ xs) h.1 m
means_in p work list (cut_short es) h e m = rw h.1.2 (Memᴰ.append_left _ m)

pub listed_in : (file : List ℕ) (work list : ℕ) (p : Program) → check file ≡ accepted p
    → (e : Entry) → e ∈ listed (search_answer file work list) → e ∈ entries p
listed_in file work list p h e m = means_in p work list (search_answer file work list) (search_means file work list p h) e m

pub complete_is : (file : List ℕ) (work list : ℕ) (p : Program) → check file ≡ accepted p
    → (es : List Entry) → search_answer file work list ≡ complete es → es ≡ entries p
complete_is file work list p h es a = (subst (Means p work list) a (search_means file work list p h)).1

-- 11 is given exactly where the work slice is too short
pub short_work : (file : List ℕ) (work list : ℕ) (p : Program) → check file ≡ accepted p
    → (search_answer file work list ≡ no_search WorkTooShort) ↔ (work < work_words p.steps)
short_work file work list p h = (
  λ a. (subst (Means p work list) a (search_means file work list p h)).1,
  λ short. go short (search_answer file work list) (search_means file work list p h),
)
  where
    go : work < work_words p.steps → (a : SearchAnswer) → Means p work list a → a ≡ no_search WorkTooShort
    go short (no_search why) m = ap no_search m.0
    go short (complete es) m = absurd (omega (arith, m.0))
    go short (cut_short es) m = absurd (omega (arith, m.0))
