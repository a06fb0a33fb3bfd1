-- One entry of a list that is handed in, read by its size: where an entry stands with a whole header and inside the bytes, it fits exactly if its steps and its
-- parameters do; where none stands, none is read.
-- Rests on Handed, EntryValues and ReadBack.
use Prim.Native.Nat.{ℕ, suc, ◌+◌, ◌≤◌, ◌<◌}
use mathlib.Core.Path.{◌≡◌, refl, sym, ap, ◌∙◌}
use mathlib.Core.Bool.{Bool, true, false}
use mathlib.Core.List.{List, ◌++◌}
use mathlib.Core.Option.{none, some, none-ne-some}
use native.Mathlib.Omega.{arith}
use lib.ListN.{length, get_or, take, drop, length-take, take-append-drop}
use lib.Dec.{leb}
use borrow.Author.Tests.{lt-ltb}
use Rattle.reach.specs.declared.Refusal.{Refusal}
use Rattle.reach.specs.declared.Refusal.TheVariants.{BadList}
use Rattle.reach.specs.declared.Kind.{Kind}
use Rattle.reach.specs.Base.{pick}
use Rattle.reach.specs.Limits.{depth_limit}
use Rattle.reach.specs.Syntax.{Types, Program}
use Rattle.reach.specs.Places.{word_at}
use Rattle.reach.specs.Types.{Slot}
use Rattle.reach.specs.Search.{Entry}
use Rattle.reach.specs.Lists.{entry_bytes, kind_of, entry_size}
use Rattle.reach.specs.Reader.{Got, got, refused, on_got, ◌>>=◌, give, demand, byte, word}
use Rattle.reach.specs.Partial.{slotted}
use Rattle.lists.specs.Handed.{Fitting, in_entries, kind_mark, spanning, entry_by, entry}
use Rattle.reach.proofs.Limits.{IfFound}
use Rattle.lists.proofs.ReadBack.{size_of_entry}
use Rattle.reach.proofs.Reading.{then_same}
use Rattle.lists.proofs.EntryValues.{slotted_same}
use Rattle.reach.proofs.Reading.{Reads}
use Rattle.lists.proofs.Handed.{entry_finds}

module _ (types : Types) (table : List ℕ) (ss : List Slot) (limit : ℕ) (s : List ℕ) where
  byte_from : (j k : ℕ) → j < length s → k ≡ j + 1 → byte s j ≡ got (get_or s j 0) k
  unfolding byte
  byte_from j k l e = let z : suc j ≡ k = omega (arith, e) in rw (lt-ltb j (length s) l, z) refl

  word_from : (j k : ℕ) → j + 2 ≤ length s → k ≡ j + 2 → word s j ≡ got (word_at s j) k
  unfolding word word_at
  word_from j k l e = rw (byte_from j (j + 1) (omega arith) refl, byte_from (j + 1) k (omega arith) (omega (arith, e))) refl

  mark_from : (j k : ℕ) (kind : Kind) → j + 2 ≤ length s → k ≡ j + 2 → kind_of (get_or s j 0) (get_or s (j + 1) 0) ≡ some kind → kind_mark s j ≡ got kind k
  unfolding kind_mark
  mark_from j k kind l e known = rw (byte_from j (j + 1) (omega arith) refl, byte_from (j + 1) k (omega arith) (omega (arith, e)), known) refl

  -- the parameters of the entry at i, which has this kind
  abbrev pub parameters_from : ℕ → Kind → Got Entry
  parameters_from i kind =
      on_got {B = Got Entry} (λ row next. got (record { kind = kind; steps = word_at s (i + 2); input = row.0 }) next) (λ why. refused why)
      (spanning (word_at s (i + 4)) (slotted types (in_entries table) depth_limit ss) s (i + 6))

  -- behind a whole header with a known mark: the steps, then the parameters
  pub headed : (i : ℕ) (kind : Kind) → i + 6 ≤ length s → kind_of (get_or s i 0) (get_or s (i + 1) 0) ≡ some kind
      → entry_by types table ss limit s i ≡ pick (leb (word_at s (i + 2)) limit) (parameters_from i kind) (refused BadList)
  unfolding entry_by
  headed i kind l known =
      rw (mark_from i (i + 2) kind (omega arith) refl known, word_from (i + 2) (i + 4) (omega arith) (omega arith))
      (by_test (leb (word_at s (i + 2)) limit))
    where
      last : (on_got {B = Got Entry} (λ n d. (spanning n (slotted types (in_entries table) depth_limit ss) >>= λ row. give (record { kind = kind; steps = word_at s (i + 2); input = row.0 })) s d) (λ why. refused why) (word s (i + 4)))
          ≡ parameters_from i kind
      last = rw (word_from (i + 4) (i + 6) (omega arith) (omega arith)) refl

      by_test : (b : Bool)
          → on_got {B = Got Entry} (λ u c. (word >>= λ n. spanning n (slotted types (in_entries table) depth_limit ss) >>= λ row. give (record { kind = kind; steps = word_at s (i + 2); input = row.0 })) s c) (λ why. refused why) (demand b BadList s (i + 4))
          ≡ pick b (parameters_from i kind) (refused BadList)
      by_test true = last
      by_test false = refl

-- where no entry stands none is read
module _ (p : Program) (s : List ℕ) (bytes : (i : ℕ) → get_or s i 0 < 256) where
  pub none_read : (i : ℕ) → i ≤ length s → entry_size s i ≡ none → (why : Refusal) × (entry p s i ≡ refused why)
  none_read i l size = go (entry p s i) (entry_finds p s bytes i) refl
    where
      go : (g : Got Entry) → IfFound (λ e next. Fitting p e × Reads s i (entry_bytes e) next) g → entry p s i ≡ g → (why : Refusal) × (g ≡ refused why)
      go (refused why) h is = (why, refl)
      go (got e next) (fits, reads) is =
          let split : s ≡ take i s ++ (entry_bytes e ++ drop next s) = sym (take-append-drop i s) ∙ ap (λ (x : List ℕ). take i s ++ x) reads.stand in
          let long : length (take i s) ≡ i = omega (arith, length-take i s) in
          let there = size_of_entry e (take i s) (drop next s) fits.counted in
          absurd (none-ne-some _ (sym size ∙ rw (← split, long) at there))

-- tables that say the same read the same entries
pub entry_same : (types : Types) (table other : List ℕ) → ((t : ℕ) → get_or table t 0 ≡ get_or other t 0) → (ss : List Slot) (limit : ℕ) (s : List ℕ) (i : ℕ)
    → entry_by types table ss limit s i ≡ entry_by types other ss limit s i
unfolding entry_by spanning
entry_same types table other same ss limit s i =
    then_same (kind_mark s i) _ _
    (λ kind a. then_same (word s a) _ _
    (λ steps b. then_same (demand (leb steps limit) BadList s b) _ _
    (λ u c. then_same (word s c) _ _
    (λ n d. rw (slotted_same types table other same depth_limit s ss d) refl))))
