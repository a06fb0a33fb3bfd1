-- A row of partial values, value by value: what the loop over the types of a row comes to, and the reading of one value.
-- Rests on Values and Stack, on reach's Partial and Reader, on lists' Handed, and on the lookups' Tables.
use Prim.Native.Nat.{ℕ, zero, suc, max, ◌+◌, ◌-◌, ◌≤◌, ◌<◌}
use mathlib.Core.Path.{◌≡◌, refl, sym, ap, ◌∙◌}
use mathlib.Core.List.{List, ◌∷◌}
use mathlib.Core.Option.{Option, none, some}
use Rattle.std.specs.Prelude.{Some, None}
use Rattle.std.specs.Prelude as Std
use lib.ListN.{length, get_or}
use native.Mathlib.Omega.{arith}
use borrow.Author.Tests.{eq-eqb, ne_eqb}
use Rattle.reach.specs.declared.Refusal.{Refusal}
use Rattle.reach.specs.Syntax.{Types, field_types}
use Rattle.reach.specs.Parts.{Parts}
use Rattle.reach.specs.Reader.{Got, got, refused, on_got, Reader, ◌>>=◌, give, refuse, or_refuse, byte}
use Rattle.reach.specs.Partial.{Value, unbound, built, ◌before◌, deep_of, values_by, Manner, value_from, value}
use Rattle.reach.specs.Places.{bytes_at}
use Rattle.std.proofs.lemmas.Option.{same_Some}
use Rattle.reach.proofs.Base.{clash}
use Rattle.marks.proofs.Answers.{byte_there}
use Rattle.lookups.proofs.Tables.{bytes_more, bytes_none}
use Rattle.rows.specs.declared.Measured.{Measured}
use Rattle.rows.specs.Values.{measured, of_value, of_open, of_row, value_at, row_at}
use Rattle.rows.specs.Stack.{joined, above}

-- what was read, part by part
pub measured_is : {a b c d : ℕ} → measured a b ≡ measured c d → (a ≡ c) × (b ≡ d)
measured_is {a} {b} {c} {d} e =
    let same = same_Some (record { next = a; deep = b }) (record { next = c; deep = d }) e in
    (ap (λ (m : Measured). m.next) same, ap (λ (m : Measured). m.deep) same)

pub value_got : (g : Got Value) {next deep : ℕ} → measured next deep ≡ of_value g → (v : Value) × (g ≡ got v next) × (deep_of v ≡ deep)
value_got (got v k) {next} {deep} e =
    let (place, is) = measured_is e in
    (v, ap (got v) (sym place), sym is)
value_got (refused why) e = absurd (clash (cc))

pub value_bad : (g : Got Value) → None ≡ of_value g → (why : Refusal) × (g ≡ refused why)
value_bad (got v next) e = absurd (clash (cc))
value_bad (refused why) e = (why, cc)

-- nothing is not deep
pub joined_none : (m : Std.Option Measured) → joined 0 m ≡ m
joined_none (Some m) = let z : max 0 m.deep ≡ m.deep = omega arith in ap (measured m.next) z
joined_none None = refl

-- deeper and deeper
pub joined_twice : (a b : ℕ) (m : Std.Option Measured) → joined a (joined b m) ≡ joined (max a b) m
joined_twice a b (Some m) = let z : max a (max b m.deep) ≡ max (max a b) m.deep = omega arith in ap (measured m.next) z
joined_twice a b None = refl

module _ (one : ℕ → Reader Value) (s : List ℕ) where
  pub row_first : (t : ℕ) (ts : List ℕ) (i k : ℕ) (v : Value) → one t s i ≡ got v k → of_row (values_by one (t ∷ ts) s i) ≡ joined (deep_of v) (of_row (values_by one ts s k))
  unfolding values_by
  row_first t ts i k v e = rw e (by_rest (values_by one ts s k))
    where
      by_rest : (g : Got (Parts × ℕ)) → of_row (on_got {B = Got (Parts × ℕ)} (λ rest next. got (v before rest.0, max (deep_of v) rest.1) next) (λ why. refused why) g) ≡ joined (deep_of v) (of_row g)
      by_rest (got rest next) = refl
      by_rest (refused why) = refl

  row_stopped : (t : ℕ) (ts : List ℕ) (i : ℕ) (why : Refusal) → one t s i ≡ refused why → of_row (values_by one (t ∷ ts) s i) ≡ None
  unfolding values_by
  row_stopped t ts i why e = rw e refl

-- One value, by its first byte.
module _ (types : Types) (m : Manner) (s : List ℕ) (levels t i : ℕ) where
  pub value_short : {why : Refusal} → byte s i ≡ refused why → of_value (value types m levels t s i) ≡ None
  unfolding value
  value_short e = by_levels levels
    where
      by_levels : (l : ℕ) → of_value (value types m l t s i) ≡ None
      by_levels zero = rw e refl
      by_levels (suc l) = rw e refl

  pub value_opens : {b k : ℕ} → byte s i ≡ got b k → b ≡ 255 → of_value (value types m levels t s i) ≡ of_open k (m.open_part t)
  unfolding value value_from
  value_opens {b} {k} e is = by_levels levels
    where
      by_open : (o : Option ℕ) → of_value ((or_refuse m.misfit o >>= λ d. give (unbound d)) s k) ≡ of_open k o
      by_open none = refl
      by_open (some d) = refl

      by_levels : (l : ℕ) → of_value (value types m l t s i) ≡ of_open k (m.open_part t)
      by_levels zero = rw (e, eq-eqb b 255 is) (by_open (m.open_part t))
      by_levels (suc l) = rw (e, eq-eqb b 255 is) (by_open (m.open_part t))

  module _ {b k : ℕ} (e : byte s i ≡ got b k) (not : b ≡ 255 → ⊥) where
    pub value_flat : levels ≡ 0 → of_value (value types m levels t s i) ≡ None
    unfolding value value_from
    value_flat is = rw (is, e, ne_eqb b 255 not) (by_fields (field_types types t b))
      where
        by_fields : (o : Option (List ℕ)) → of_value ((or_refuse m.misfit o >>= λ us. refuse {A = Parts × ℕ} m.misfit >>= λ fs. give (built b fs.0 (suc fs.1))) s k) ≡ None
        by_fields none = refl
        by_fields (some us) = refl

    module _ (l : ℕ) (is : levels ≡ suc l) where
      pub value_unknown : field_types types t b ≡ none → of_value (value types m levels t s i) ≡ None
      unfolding value value_from
      value_unknown has = rw (is, e, ne_eqb b 255 not, has) refl

      pub value_fields : {us : List ℕ} → field_types types t b ≡ some us → of_value (value types m levels t s i) ≡ above (of_row (values_by (value types m l) us s k))
      unfolding value value_from
      value_fields {us} has = rw (is, e, ne_eqb b 255 not, has) (by_row (values_by (value types m l) us s k))
        where
          by_row : (g : Got (Parts × ℕ)) → of_value (on_got {B = Got Value} (λ fs next. got (built b fs.0 (suc fs.1)) next) (λ why. refused why) g) ≡ above (of_row g)
          by_row (got fs next) = refl
          by_row (refused why) = refl

-- the values of n types that stand from a place of the file on
module _ (file types : List ℕ) (table : Std.Option (List ℕ)) (list : List ℕ) (levels i n at : ℕ) where
  pub row_done : n ≤ 0 → of_row (row_at file types table levels (bytes_at file i n) list at) ≡ measured at 0
  unfolding values_by
  row_done h = rw (bytes_none file i n) refl

  -- by the answer to the first of them
  module _ (more : 0 < n) where
    pub row_next : {next one : ℕ} → measured next one ≡ of_value (value_at file types table levels (get_or file i 0) list at)
        → of_row (row_at file types table levels (bytes_at file i n) list at) ≡ joined one (of_row (row_at file types table levels (bytes_at file (i + 1) (n - 1)) list next))
    row_next {next} {one} told =
        let (v, found, deep) = value_got (value_at file types table levels (get_or file i 0) list at) told in
        rw (bytes_more file i n, ← deep) (row_first (value_at file types table levels) list (get_or file i 0) (bytes_at file (i + 1) (n - 1)) at next v found)

    pub row_stops : None ≡ of_value (value_at file types table levels (get_or file i 0) list at) → of_row (row_at file types table levels (bytes_at file i n) list at) ≡ None
    row_stops told =
        let (why, found) = value_bad (value_at file types table levels (get_or file i 0) list at) told in
        rw (bytes_more file i n) (row_stopped (value_at file types table levels) list (get_or file i 0) (bytes_at file (i + 1) (n - 1)) at why found)

-- the byte at a place of the list
pub byte_here : (s : List ℕ) (at : ℕ) → at < length s → byte s at ≡ got (get_or s at 0) (at + 1)
byte_here s at h = byte_there s at h ∙ ap (got (get_or s at 0)) (omega arith)
