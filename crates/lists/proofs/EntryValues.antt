-- How the values of a list's entries are read: open parts may stand anywhere, each as deep as its type's least depth; and only what the table of least depths
-- tells counts.
-- Rests on specs/Handed, on reach's Reading and on Partial of crate readings.
use Prim.Native.Nat.{ℕ, zero, suc}
use mathlib.Core.Path.{◌≡◌, refl, sym, ap}
use mathlib.Core.List.{List, [], ◌∷◌}
use mathlib.Core.Option.{some-injective}
use lib.ListN.{get_or}
use lib.Dec.{eqb, leb}
use Rattle.reach.specs.declared.Refusal.TheVariants.{BadList}
use Rattle.reach.specs.Base.{pick}
use Rattle.reach.specs.Syntax.{Types, field_types}
use Rattle.reach.specs.Parts.{Parts}
use Rattle.reach.specs.Types.{Slot, least_depths}
use Rattle.reach.specs.Reader.{Got, got, Reader, or_refuse, demand, byte}
use Rattle.reach.specs.Partial.{Value, unbound, deep_of, values_by, value_from, value, slotted}
use Rattle.reach.proofs.Reading.{then_same}
use Rattle.readings.proofs.Partial.{Lawful}
use Rattle.lists.specs.Handed.{in_entries}

-- entries may have open parts
pub entries_lawful : (types : Types) → Lawful types (in_entries (least_depths types)) (λ e. Unit {0})
entries_lawful types = record {
  none_open = tt;
  opens = λ r. (λ h. (tt, tt), λ h. tt);
  bounds = λ c fs r. (λ h. (tt, tt), λ h. tt);
  found = λ t d is. (sym (some-injective _ d is), tt);
  met = λ h t. refl;
}

-- Tables that tell the same of each type read the same values.

values_same : (one other : ℕ → Reader Value) (s : List ℕ) → ((t i : ℕ) → one t s i ≡ other t s i) → (ts : List ℕ) (i : ℕ) → values_by one ts s i ≡ values_by other ts s i
unfolding values_by
values_same one other s same [] i = refl
values_same one other s same (t ∷ ts) i = rw (same t i) (then_same (other t s i) _ _ (λ v k. rw (values_same one other s same ts k) refl))

module _ (types : Types) (table other : List ℕ) (same : (t : ℕ) → get_or table t 0 ≡ get_or other t 0) where
  from_same : (s : List ℕ) (one two : List ℕ → Reader (Parts × ℕ)) → ((us : List ℕ) (i : ℕ) → one us s i ≡ two us s i) → (t b k : ℕ)
      → value_from types (in_entries table) one t b s k ≡ value_from types (in_entries other) two t b s k
  unfolding value_from
  from_same s one two rows t b k =
      rw (same t)
      (ap (pick {A = Got Value} (eqb b 0xff) (got (unbound (get_or other t 0)) k)) (then_same (or_refuse BadList (field_types types t b) s k) _ _ (λ us j. rw (rows us j) refl)))

  pub value_same : (levels : ℕ) (s : List ℕ) (t i : ℕ) → value types (in_entries table) levels t s i ≡ value types (in_entries other) levels t s i
  unfolding value
  value_same zero s t i = then_same (byte s i) _ _ (λ b k. from_same s _ _ (λ us j. refl) t b k)
  value_same (suc levels) s t i =
      then_same (byte s i) _ _
      (λ b k. from_same s _ _ (λ us j. values_same (value types (in_entries table) levels) (value types (in_entries other) levels) s (λ u n. value_same levels s u n) us j) t b k)

  pub slotted_same : (levels : ℕ) (s : List ℕ) (ss : List Slot) (i : ℕ) → slotted types (in_entries table) levels ss s i ≡ slotted types (in_entries other) levels ss s i
  unfolding slotted
  slotted_same levels s [] i = refl
  slotted_same levels s (x ∷ ss) i =
      rw (value_same levels s x.type i)
      (then_same (value types (in_entries other) levels x.type s i) _ _
      (λ v k. then_same (demand (leb (deep_of v) x.room) BadList s k) _ _ (λ u l. rw (slotted_same levels s ss l) refl)))
