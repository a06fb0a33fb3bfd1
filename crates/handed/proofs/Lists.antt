-- A list that is handed in, entry by entry: what the loop over its entries comes to.
-- Rests on Fits and on lists' Handed and HandedEntry.
use Prim.Native.Nat.{ℕ, zero, suc, ◌+◌, ◌-◌, ◌≤◌, ◌<◌}
use mathlib.Core.Path.{◌≡◌, refl, sym, ◌∙◌, subst}
use mathlib.Core.Bool.{Bool, true, false}
use mathlib.Core.List.{List, [], ◌∷◌}
use mathlib.Core.Option.{Option, none, some}
use lib.ListN.{length, get_or}
use lib.Dec.{leb}
use native.Mathlib.Omega.{arith}
use borrow.Author.Tests.{le-leb, lt-leb, leb-true, leb-false}
use Rattle.reach.specs.declared.Refusal.{Refusal}
use Rattle.reach.specs.declared.Refusal.TheVariants.{BadList}
use Rattle.reach.specs.Base.{pick}
use Rattle.reach.specs.Limits.{list_limit}
use Rattle.reach.specs.Syntax.{Program}
use Rattle.reach.specs.Types.{source_slots, least_depths}
use Rattle.reach.specs.Search.{Entry}
use Rattle.reach.specs.Lists.{on_found, entry_size}
use Rattle.reach.specs.Reader.{Got, got, refused, on_got}
use Rattle.lists.specs.Handed.{entry, entries_by, handed}
use Rattle.lists.proofs.HandedEntry.{none_read, entry_same}
use Rattle.handed.specs.Fits.{entry_at, Told, AcceptedTables}

-- entries were found
abbrev pub found : Got (List Entry) → Bool
found (got es next) = true
found (refused why) = false

found_is : (g : Got (List Entry)) → on_found false (λ es. true) (on_got {B = Option (List Entry)} (λ es next. some es) (λ why. none) g) ≡ found g
found_is (got es next) = refl
found_is (refused why) = refl

module _ {file types functions table : List ℕ} {source : ℕ} {depths : List ℕ} {steps : ℕ} {p : Program} (given : AcceptedTables file types functions table source depths steps p) (list : List ℕ) where
  -- the file's entries are read as the places tell
  pub entry_is : (i : ℕ) → entry p list i ≡ entry_at file types functions table source depths steps list i
  unfolding source_slots
  entry_is i =
      entry_same p.types (least_depths p.types) table given.table_is (source_slots p) p.steps list i
      ∙ rw (given.source_there, given.depths_are, given.steps_are, given.types_there) refl

  abbrev from : ℕ → ℕ → Bool
  from more at = found (entries_by (entry p) more list at)

  pub all_read : (r : Bool) → length list ≤ list_limit → r ≡ from (length list) 0 → r ≡ on_found false (λ es. true) (handed p list)
  unfolding handed
  all_read r short e = e ∙ rw (le-leb (length list) list_limit short) (sym (found_is (entries_by (entry p) (length list) list 0)))

  pub too_long : list_limit < length list → false ≡ on_found false (λ es. true) (handed p list)
  unfolding handed
  too_long long = rw (lt-leb (length list) list_limit long) refl

  pub at_last : (at : ℕ) → from 0 at ≡ leb (length list) at
  unfolding entries_by
  at_last at = by_test (leb (length list) at)
    where
      by_test : (b : Bool) → found (pick b (got [] at) (refused BadList)) ≡ b
      by_test true = refl
      by_test false = refl

  pub over : (more at : ℕ) → length list ≤ at → from more at ≡ true
  unfolding entries_by
  over zero at h = rw (le-leb (length list) at h) refl
  over (suc more) at h = rw (le-leb (length list) at h) refl

  module _ (more at : ℕ) (left : 0 < more) (inside : at < length list) where
    less : suc (more - 1) ≡ more
    less = omega arith

    unread : (why : Refusal) → entry p list at ≡ refused why → from more at ≡ false
    unfolding entries_by
    unread why e = subst (λ (m : ℕ). from m at ≡ false) less (rw (lt-leb (length list) at inside, e) refl)

    pub none_there : ((i : ℕ) → get_or list i 0 < 256) → entry_size list at ≡ none → from more at ≡ false
    none_there bytes size =
        let (why, e) = none_read p list bytes at (omega arith) size in
        unread why e

    pub unfit : (n : ℕ) (answer : Bool) → Told (entry_at file types functions table source depths steps list at) n answer → answer ≡ false → from more at ≡ false
    unfit n answer told is =
        let (why, e) = subst (Told (entry_at file types functions table source depths steps list at) n) is told in
        unread why (entry_is at ∙ e)

    pub fit : (n : ℕ) (answer : Bool) → Told (entry_at file types functions table source depths steps list at) n answer → answer ≡ true
        → from more at ≡ from (more - 1) n
    unfolding entries_by
    fit n answer told is =
        let (e, read) = subst (Told (entry_at file types functions table source depths steps list at) n) is told in
        subst (λ (m : ℕ). from m at ≡ from (more - 1) n) less
        (rw (lt-leb (length list) at inside, entry_is at ∙ read) (by_rest e (entries_by (entry p) (more - 1) list n)))
      where
        by_rest : (e : Entry) (g : Got (List Entry)) → found (on_got {B = Got (List Entry)} (λ es k. got (e ∷ es) k) (λ why. refused why) g) ≡ found g
        by_rest e (got es k) = refl
        by_rest e (refused why) = refl

  -- where no entry stands, no bytes are left, or none are read
  pub ended : (more at : ℕ) → length list ≤ at + more → ((i : ℕ) → get_or list i 0 < 256) → entry_size list at ≡ none → leb (length list) at ≡ from more at
  ended more at long bytes size = by_end (leb (length list) at) refl
    where
      by_end : (b : Bool) → leb (length list) at ≡ b → b ≡ from more at
      by_end true is = sym (over more at (leb-true (length list) at is))
      by_end false is = let inside = leb-false (length list) at is in sym (none_there more at (omega (arith, inside, long)) inside bytes size)
