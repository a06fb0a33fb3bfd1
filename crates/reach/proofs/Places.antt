-- What stands in a file where a record was read: what a reader of RuleFile finds is what the lookup of Places gives at that place, and the
-- record lies within the bytes.
-- Each law follows the reader's own text and tells how many bytes further on the place behind is, where that is plain.
-- Rests on Reader, RuleFile and Places, and on IfFound of Limits.
use Prim.Native.Nat.{ℕ, zero, suc, ◌+◌, ◌≤◌, ◌<◌, max}
use mathlib.Core.Path.{◌≡◌, refl, ap, subst₂}
use mathlib.Core.Bool.{Bool, true, false, ◌&&◌}
use mathlib.Core.List.{List}
use native.Mathlib.Omega.{arith}
use lib.ListN.{length, get_or}
use lib.Dec.{ltb, leb}
use borrow.Author.Tests.{ltb-true, leb-true}
use Rattle.reach.specs.declared.Refusal.{Refusal}
use Rattle.reach.specs.declared.Refusal.TheVariants.{Truncated, OutOfRange}
use Rattle.reach.specs.Base.{pick}
use Rattle.reach.specs.Limits.{constructor_limit, field_limit, parameter_limit, body_limit, depth_limit, step_limit}
use Rattle.reach.specs.Reader.{Got, got, refused, demand, byte, word, times, passed}
use Rattle.reach.specs.RuleFile.{counted, constructor_record, type_record, Head, function_record, Goal, goal_record}
use Rattle.reach.specs.Places.{bytes_at, constructors_at, word_at, type_at, head_at, goal_at}
use Rattle.reach.proofs.Base.{clash}
use Rattle.reach.proofs.Limits.{IfFound, if_found_then}

-- What is known of a record that was read at place i: its value is the one that stands there, and it lies within the bytes.
pub record Read {A : Type 0} (x : A) (s : List ℕ) (i : ℕ) (a : A) (next : ℕ) : Type 0 where
  pub value : a ≡ x
  pub begins : i < length s
  pub ends : next ≤ length s

-- a value that was read is the one that stands there, and what was read lies within the bytes
record Stands {A : Type 0} (x : A) (s : List ℕ) (i : ℕ) (a : A) (next : ℕ) : Type 0 where
  value : a ≡ x
  within : next ≤ max i (length s)

-- the same, where n bytes were read
abbrev StandsFor : {A : Type 0} → ℕ → A → List ℕ → ℕ → A → ℕ → Type 0
StandsFor n x s i a next = Stands x s i a next × (next ≡ i + n)

-- what follows from a fact of what is found
finds_so : {A : Type 0} (P Q : A → ℕ → Type 0) (g : Got A) → IfFound P g → ((a : A) (next : ℕ) → P a next → Q a next) → IfFound Q g
finds_so P Q (got a next) h so = so a next h
finds_so P Q (refused why) h so = tt

module _ (s : List ℕ) where
  byte_stands : (i : ℕ) → IfFound (StandsFor 1 (get_or s i 0) s i) (byte s i)
  unfolding byte
  byte_stands i = go (ltb i (length s)) refl
    where
      go : (b : Bool) → ltb i (length s) ≡ b → IfFound (StandsFor 1 (get_or s i 0) s i) (pick b (got (get_or s i 0) (suc i)) (refused Truncated))
      go true t = let h = ltb-true i (length s) t in (record { value = refl; within = omega arith }, omega arith)
      go false t = tt

  passed_stands : (n i : ℕ) → IfFound (StandsFor n i s i) (passed n s i)
  unfolding passed
  passed_stands n i = go (leb (i + n) (length s)) refl
    where
      go : (b : Bool) → leb (i + n) (length s) ≡ b → IfFound (StandsFor n i s i) (pick b (got i (i + n)) (refused Truncated))
      go true t = let h = leb-true (i + n) (length s) t in (record { value = refl; within = omega arith }, refl)
      go false t = tt

  demand_stands : (test : Bool) (why : Refusal) (i : ℕ) → IfFound (λ u next. next ≡ i) (demand test why s i)
  demand_stands true why i = refl
  demand_stands false why i = tt

  word_stands : (i : ℕ) → IfFound (StandsFor 2 (word_at s i) s i) (word s i)
  unfolding word word_at
  word_stands i =
      if_found_then _ _ _ (byte s i) (byte_stands i)
      (λ low k first. if_found_then _ _ _ (byte s k) (byte_stands k)
      (λ high n second. (record { value = rw (second.0.value, first.0.value, first.1); within = omega arith }, omega arith)))

  counted_stands : (least most i : ℕ) → IfFound (StandsFor 1 (get_or s i 0) s i) (counted least most s i)
  unfolding counted
  counted_stands least most i =
      if_found_then _ _ _ (byte s i) (byte_stands i)
      (λ n k first. if_found_then _ _ _ (demand (leb least n && leb n most) OutOfRange s k) (demand_stands (leb least n && leb n most) OutOfRange k)
      (λ u l same. (record { value = first.0.value; within = omega arith }, omega arith)))

  bytes_stand : (n i : ℕ) → IfFound (StandsFor n (bytes_at s i n) s i) (times n byte s i)
  unfolding times bytes_at
  bytes_stand zero i = (record { value = refl; within = omega arith }, omega arith)
  bytes_stand (suc n) i =
      if_found_then _ _ _ (byte s i) (byte_stands i)
      (λ b k first. if_found_then _ _ _ (times n byte s k) (bytes_stand n k)
      (λ bs l rest. (record { value = rw (first.0.value, rest.0.value, first.1); within = omega arith }, omega arith)))

  constructor_stands : (i : ℕ) → IfFound (StandsFor (1 + get_or s i 0) (bytes_at s (i + 1) (get_or s i 0)) s i) (constructor_record s i)
  unfolding constructor_record
  constructor_stands i =
      if_found_then _ _ _ (counted 0 field_limit s i) (counted_stands 0 field_limit i)
      (λ n k first. finds_so _ _ (times n byte s k) (bytes_stand n k)
      (λ us l rest. (record { value = rw (rest.0.value, first.1, first.0.value); within = omega arith }, omega arith)))

  constructors_stand : (n i : ℕ) → IfFound (Stands (constructors_at s i n) s i) (times n constructor_record s i)
  unfolding times constructors_at
  constructors_stand zero i = record { value = refl; within = omega arith }
  constructors_stand (suc n) i =
      if_found_then _ _ _ (constructor_record s i) (constructor_stands i)
      (λ us k first. if_found_then _ _ _ (times n constructor_record s k) (constructors_stand n k)
      (λ cs l rest. let place : k ≡ i + 1 + get_or s i 0 = omega arith in record { value = rw (first.0.value, rest.value, place); within = omega arith }))

  type_stands : (i : ℕ) → IfFound (Read (type_at s i) s i) (type_record s i)
  unfolding type_record type_at
  type_stands i =
      if_found_then _ _ _ (counted 1 constructor_limit s i) (counted_stands 1 constructor_limit i)
      (λ n k first. finds_so _ _ (times n constructor_record s k) (constructors_stand n k)
      (λ cs l rest. record { value = rw (rest.value, first.1, first.0.value); begins = omega arith; ends = omega arith }))

  head_stands : (i : ℕ) → IfFound (Read (head_at s i) s i) (function_record s i)
  unfolding function_record head_at
  head_stands i =
      if_found_then _ _ _ (counted 0 parameter_limit s i) (counted_stands 0 parameter_limit i)
      (λ n j count. if_found_then _ _ _ (times n byte s j) (bytes_stand n j)
      (λ ps k parameters. if_found_then _ _ _ (byte s k) (byte_stands k)
      (λ r l result. if_found_then _ _ _ (word s l) (word_stands l)
      (λ w m size. if_found_then _ _ _ (demand (leb 1 w && leb w body_limit) OutOfRange s m) (demand_stands (leb 1 w && leb w body_limit) OutOfRange m)
      (λ u m' same. if_found_then _ _ _ (passed w s m') (passed_stands w m')
      (λ b next body.
      let at_result : k ≡ i + 1 + get_or s i 0 = omega arith in
      let at_size : l ≡ i + 2 + get_or s i 0 = omega arith in
      let at_body : b ≡ i + 4 + get_or s i 0 = omega arith in
      record {
        value = rw (parameters.0.value, result.0.value, size.0.value, at_result, at_size, at_body, count.1, count.0.value);
        begins = omega arith;
        ends = omega arith;
      }))))))

  goal_stands : (i : ℕ) → IfFound (Read (goal_at s i) s i) (goal_record s i)
  unfolding goal_record goal_at
  goal_stands i =
      if_found_then _ _ _ (byte s i) (byte_stands i)
      (λ f j source. if_found_then _ _ _ (byte s j) (byte_stands j)
      (λ l k label. if_found_then _ _ _ (counted 1 depth_limit s k) (counted_stands 1 depth_limit k)
      (λ d m depth. if_found_then _ _ _ (word s m) (word_stands m)
      (λ w n steps. if_found_then _ _ _ (demand (leb w step_limit) OutOfRange s n) (demand_stands (leb w step_limit) OutOfRange n)
      (λ u next same.
      let at-depth : k ≡ i + 2 = omega arith in
      let at-steps : m ≡ i + 3 = omega arith in
      record {
        value = rw (source.0.value, label.0.value, depth.0.value, steps.0.value, source.1, at-depth, at-steps);
        begins = omega arith;
        ends = omega arith;
      })))))

-- what holds of whatever is found holds of what was found
of_got : {A : Type 0} (P : A → ℕ → Type 0) (g : Got A) {a : A} {next : ℕ} → IfFound P g → g ≡ got a next → P a next
of_got P (got b k) {a} {next} h e =
    let x : b ≡ a = cc in
    let y : k ≡ next = cc in
    subst₂ P x y h
of_got P (refused why) h e = absurd (clash (cc))

-- A record that was read is the one that the lookup gives at its place.
module _ (s : List ℕ) (i : ℕ) where
  pub type_read : {cs : List (List ℕ)} {next : ℕ} → type_record s i ≡ got cs next → Read (type_at s i) s i cs next
  type_read e = of_got (Read (type_at s i) s i) (type_record s i) (type_stands s i) e

  pub head_read : {h : Head} {next : ℕ} → function_record s i ≡ got h next → Read (head_at s i) s i h next
  head_read e = of_got (Read (head_at s i) s i) (function_record s i) (head_stands s i) e

  pub goal_read : {g : Goal} {next : ℕ} → goal_record s i ≡ got g next → Read (goal_at s i) s i g next
  goal_read e = of_got (Read (goal_at s i) s i) (goal_record s i) (goal_stands s i) e

-- so many bytes from a place on
pub bytes_length : (s : List ℕ) (i n : ℕ) → length (bytes_at s i n) ≡ n
unfolding bytes_at
bytes_length s i zero = refl
bytes_length s i (suc n) = ap suc (bytes_length s (i + 1) n)
