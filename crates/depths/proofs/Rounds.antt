-- One round on the array: the numbers up to a type are those after the round, the others as before. And the rounds may stop as soon as one
-- changes nothing.
-- Rests on Padded and on the rounds of reach's LeastDepths.
use Prim.Native.Nat.{ℕ, zero, suc, ◌+◌, ◌-◌, ◌≤◌, ◌<◌}
use native.Mathlib.Omega.{arith}
use native.Mathlib.Numerals.{add-one}
use mathlib.Core.Path.{◌≡◌, refl, sym, ap, ◌∙◌}
use mathlib.Core.List.{List, [], ◌∷◌, ◌++◌, map}
use lib.ListN.{length, get_or, take, drop, set, replicate, length-replicate, length-map, take-append-drop, replicate-append-replicate}
use lib.Seq.{take-suc, drop-cons, append_snoc, set_at, length-take-le}
use lib.Dec.{ltb}
use Rattle.reach.specs.Base.{pick}
use Rattle.reach.specs.Types.{inhabited, rounds, least_depths}
use Rattle.reach.specs.Places.{type_at}
use Rattle.reach.proofs.LeastDepths.{rounds_length, one_round, rounds_enough, rounds_settled}
use Rattle.depths.specs.Table.{padded, array_after, RoundsMade}
use Rattle.depths.proofs.Padded.{padded_lookup, padded_inhabited, padded_length, padded_front, padded_rest, padded_same}

-- ---- a list that is written from the front

-- the numbers before place t are the new ones, the others the old
abbrev pub written_to : ℕ → List ℕ → List ℕ → List ℕ
written_to t new old = take t new ++ drop t old

module _ (new old : List ℕ) (t : ℕ) (inNew : t < length new) (inOld : t < length old) where
  written_next : set (written_to t new old) t (get_or new t 0) ≡ written_to (t + 1) new old
  written_next =
      rw (add-one, take-suc new t 0, drop-cons old t 0, append_snoc)
      (set_at (take t new) (get_or old t 0) (drop (suc t) old) (get_or new t 0) t (length-take-le t new (omega arith)))

-- what stands at a place of the table
map_at : {A : Type 0} (f : ℕ → A) (places : List ℕ) (t : ℕ) (a : A) → t < length places → get_or (map f places) t a ≡ f (get_or places t 0)
map_at f [] t a h = absurd (omega arith)
map_at f (p ∷ ps) zero a h = refl
map_at f (p ∷ ps) (suc t) a h = map_at f ps t a (omega arith)

module _ (s places : List ℕ) where
  table_length : (d : ℕ) → length (rounds (map (type_at s) places) d) ≡ length places
  table_length d = rounds_length (map (type_at s) places) d ∙ length-map places (type_at s)

  array_length : (d : ℕ) → length places ≤ 32 → length (array_after s places d) ≡ 32
  array_length d few = padded_length (rounds (map (type_at s) places) d) (omega (arith, table_length d))

  array_rest : (d : ℕ) → drop (length places) (array_after s places d) ≡ replicate (32 - length places) 0
  array_rest d = rw (table_length d) at (padded_rest (rounds (map (type_at s) places) d))

  -- ---- the first round, and one round more

  pub array_first : length places ≤ 32 → array_after s places 0 ≡ replicate 32 0
  unfolding padded rounds
  array_first few =
      let n = length (map (type_at s) places) in
      let full : n + (32 - n) ≡ 32 = omega (arith, length-map places (type_at s)) in
      rw (length-replicate, replicate-append-replicate, full)

  -- the number of a type after one round more
  array_entry : (d t : ℕ) → t < length places
      → get_or (array_after s places (d + 1)) t 0
      ≡ pick (ltb 0 (get_or (array_after s places d) t 0)) (get_or (array_after s places d) t 0) (pick (inhabited (array_after s places d) (type_at s (get_or places t 0))) (d + 1) 0)
  array_entry d t h =
      let types = map (type_at s) places in
      rw (add-one, padded_lookup (rounds types (suc d)), one_round types d t, padded_lookup (rounds types d), padded_inhabited, map_at (type_at s) places t [] h)

  -- the array's numbers written one by one
  pub round_next : {d t after : ℕ} {array old : List ℕ} → RoundsMade s places d old → t < length places
      → array ≡ written_to t (array_after s places (d + 1)) old
      → after ≡ pick (ltb 0 (get_or old t 0)) (get_or old t 0) (pick (inhabited old (type_at s (get_or places t 0))) (d + 1) 0)
      → set array t after ≡ written_to (t + 1) (array_after s places (d + 1)) old
  round_next {d} {t} made h written number =
      rw (written, number, made.holds, ← (array_entry d t h))
      (written_next _ _ t (omega (arith, array_length (d + 1) made.few)) (omega (arith, array_length d made.few)))

  -- behind the types no round writes
  pub round_done : (t : ℕ) {d : ℕ} {array old : List ℕ} → RoundsMade s places d old → t ≡ length places
      → array ≡ written_to t (array_after s places (d + 1)) old → array ≡ array_after s places (d + 1)
  round_done t {d} made e written =
      written ∙ rw (e, made.holds, array_rest d, ← (array_rest (d + 1))) (take-append-drop (length places) (array_after s places (d + 1)))

  -- ---- the last round

  -- as many rounds as there are types are enough
  pub array_last : (d : ℕ) → length places ≤ d → array_after s places d ≡ padded (least_depths (map (type_at s) places))
  array_last d h = ap padded (rounds_enough (map (type_at s) places) d (omega (arith, length-map places (type_at s))))

  -- the rounds before one that changes nothing are enough
  pub array_settled : (d : ℕ) → array_after s places (d + 1) ≡ array_after s places d → array_after s places d ≡ padded (least_depths (map (type_at s) places))
  array_settled d same =
      ap padded (rounds_settled (map (type_at s) places) d (padded_same _ _ (table_length (suc d) ∙ sym (table_length d)) (rw add-one at same)))

  -- the table is the front of its array
  pub least_front : take (length places) (padded (least_depths (map (type_at s) places))) ≡ least_depths (map (type_at s) places)
  unfolding least_depths
  least_front =
      let n = length (map (type_at s) places) in
      rw (table_length n) at (padded_front (rounds (map (type_at s) places) n))
