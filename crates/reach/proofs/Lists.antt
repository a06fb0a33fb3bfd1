-- A list cut to its room, and what its verdict says: 01, "The list" and refusal 12. The cut keeps the longest run of first entries that
-- fits the room, and is full exactly where the list does not fit whole.
-- Rests on Lists and Search of specs/.
use Prim.Native.Nat.{ℕ, ◌+◌, ◌-◌, ◌≤◌, ◌<◌}
use native.Mathlib.Omega.{arith}
use mathlib.Core.Path.{◌≡◌, refl, ap, subst}
use mathlib.Core.Logic.{◌⊎◌, inl, inr, ⊎_elim, ◌↔◌}
use mathlib.Core.Bool.{Bool, true, false}
use mathlib.Core.List.Memᴰ
use mathlib.Core.List.{List, [], ◌∷◌, ◌++◌, flat_map}
use lib.ListN.{length, length-append}
use lib.Dec.{ltb, leb}
use borrow.Author.Tests.{ltb-true, ltb-false, lt-ltb, le-ltb, leb-true, leb-false}
use Rattle.reach.specs.declared.Counts.{Counts}
use Rattle.reach.specs.declared.Verdict.{Verdict}
use Rattle.reach.specs.declared.Verdict.TheVariants.{Found, Undecided, None}
use Rattle.reach.specs.Base.{pick, ◌∈◌}
use Rattle.reach.specs.declared.Kind.{Kind}
use Rattle.reach.specs.declared.Kind.TheVariants.{RE, UN, MI}
use Rattle.reach.specs.Search.{Entry, one_more, count_from, counts, verdict_by, kinds_of, verdict}
use Rattle.reach.specs.Lists.{entry_bytes, list_bytes, Cut, keep, cut}
use Rattle.reach.proofs.Base.{clash, picked}

-- the bytes that an entry fills, and those that a list fills
abbrev size : Entry → ℕ
size e = length (entry_bytes e)

abbrev sizes : List Entry → ℕ
sizes es = length (list_bytes es)

sizes_none : sizes [] ≡ 0
unfolding list_bytes flat_map
sizes_none = refl

sizes_more : (e : Entry) (es : List Entry) → sizes (e ∷ es) ≡ size e + sizes es
unfolding list_bytes flat_map
sizes_more e es = length-append (entry_bytes e) (flat_map entry_bytes es)

-- nothing kept, and one more entry due
abbrev stopped : Cut
stopped = record { kept = []; full = true }

-- what a cut is, as a principle of proof: with no entries nothing is due
at_none : (P : Cut → Type 0) (room : ℕ) → P (record { kept = []; full = false }) → P (cut room [])
unfolding cut
at_none P room h = h

-- and a first entry is kept where it fits the room, and ends the list where it does not
at_first : (P : Cut → Type 0) (room : ℕ) (e : Entry) (es : List Entry) → (size e ≤ room → P (keep e (cut (room - size e) es)))
    → (room < size e → P stopped) → P (cut room (e ∷ es))
unfolding cut
at_first P room e es fits over = picked P (leb (size e) room) (λ t. fits (leb-true _ _ t)) (λ t. over (leb-false _ _ t))

-- every entry that is kept was in the list
pub kept_member : (room : ℕ) (es : List Entry) (e : Entry) → e ∈ (cut room es).kept → e ∈ es
kept_member room [] e = at_none (λ c. e ∈ c.kept → e ∈ []) room (λ m. m)
kept_member room (x ∷ es) e =
    at_first (λ c. e ∈ c.kept → e ∈ x ∷ es) room x es
    (λ fits m. ⊎_elim (λ same. Memᴰ.head same) (λ m'. Memᴰ.tail (kept_member (room - size x) es e m')) (Memᴰ.cases_cons m))
    (λ over m. absurd (Memᴰ.not-nil m))

-- without 12 the list stands whole in its room
pub cut_whole : (room : ℕ) (es : List Entry) → (cut room es).full ≡ false → ((cut room es).kept ≡ es) × (length (list_bytes es) ≤ room)
cut_whole room [] = at_none (λ c. c.full ≡ false → (c.kept ≡ []) × (sizes [] ≤ room)) room (λ f. (refl, omega (arith, sizes_none)))
cut_whole room (x ∷ es) =
    at_first (λ c. c.full ≡ false → (c.kept ≡ x ∷ es) × (sizes (x ∷ es) ≤ room)) room x es
    (λ fits f. let h = cut_whole (room - size x) es f in (ap {B = List Entry} (λ r. x ∷ r) h.0, omega (arith, sizes_more x es)))
    (λ over f. absurd (clash (cc)))

-- 12 is given only where the list does not fit whole
pub cut_exactly : (room : ℕ) (es : List Entry) → length (list_bytes es) ≤ room → (cut room es).full ≡ false
cut_exactly room [] h = at_none (λ c. c.full ≡ false) room refl
cut_exactly room (x ∷ es) h =
    at_first (λ c. c.full ≡ false) room x es
    (λ fits. cut_exactly (room - size x) es (omega (arith, sizes_more x es)))
    (λ over. absurd (omega (arith, sizes_more x es)))

-- these first entries fit the room, and the next one does not fit behind them
abbrev pub LongestRun : ℕ → List Entry → List Entry → Type 0
LongestRun room es kept =
    (next : Entry) × (rest : List Entry) × (es ≡ kept ++ (next ∷ rest)) × (length (list_bytes kept) ≤ room)
    × (room < length (list_bytes (kept ++ (next ∷ []))))

-- with 12 the list is the longest run of first entries that fits the room
pub cut_full : (room : ℕ) (es : List Entry) → (cut room es).full ≡ true → LongestRun room es (cut room es).kept
cut_full room [] = at_none (λ c. c.full ≡ true → LongestRun room [] c.kept) room (λ f. absurd (clash (cc)))
cut_full room (x ∷ es) =
    at_first (λ c. c.full ≡ true → LongestRun room (x ∷ es) c.kept) room x es
    (λ fits f.
    let c = cut (room - size x) es in
    let h = cut_full (room - size x) es f in
    let longer = sizes_more x (c.kept ++ (h.0 ∷ [])) in
    (h.0, h.1, ap {B = List Entry} (λ r. x ∷ r) h.2, omega (arith, h.3, sizes_more x c.kept), omega (arith, h.4, longer)))
    (λ over f. (x, es, refl, omega (arith, sizes_none), omega (arith, sizes_more x [])))

-- an entry of this kind is among them
abbrev pub Holds : Kind → List Entry → Type 0
Holds k es = (e : Entry) × (e ∈ es) × (e.kind ≡ k)

-- how many of a kind there are
abbrev pub count_of : Kind → Counts → ℕ
count_of RE c = c.reach
count_of UN c = c.unfinished
count_of MI c = c.missing

-- there are some of a kind exactly where some had gone before or an entry of that kind is among them
some_from : (k : Kind) (c : Counts) (es : List Entry) → (0 < count_of k (count_from c (kinds_of es))) ↔ ((0 < count_of k c) ⊎ Holds k es)
unfolding count_from
some_from k c [] = (λ h. inl h, ⊎_elim (λ h. h) (λ h. absurd (Memᴰ.not-nil h.1)))
some_from k c (x ∷ es) = (
  λ h. ⊎_elim (λ z. ⊎_elim inl (λ same. inr (x, Memᴰ.head refl, same)) ((one k x.kind c).0 z))
      (λ y. inr (y.0, Memᴰ.tail y.1, y.2))
      ((some_from k (one_more x.kind c) es).0 h),
  λ h. (some_from k (one_more x.kind c) es).1 (⊎_elim (λ z. inl ((one k x.kind c).1 (inl z))) among h),
)
  where
    one : (j i : Kind) (d : Counts) → (0 < count_of j (one_more i d)) ↔ ((0 < count_of j d) ⊎ (i ≡ j))
    one RE RE d = (λ h. inr refl, λ h. omega arith)
    one RE UN d = (inl, ⊎_elim (λ h. h) (λ same. absurd (clash (cc))))
    one RE MI d = (inl, ⊎_elim (λ h. h) (λ same. absurd (clash (cc))))
    one UN RE d = (inl, ⊎_elim (λ h. h) (λ same. absurd (clash (cc))))
    one UN UN d = (λ h. inr refl, λ h. omega arith)
    one UN MI d = (inl, ⊎_elim (λ h. h) (λ same. absurd (clash (cc))))
    one MI RE d = (inl, ⊎_elim (λ h. h) (λ same. absurd (clash (cc))))
    one MI UN d = (inl, ⊎_elim (λ h. h) (λ same. absurd (clash (cc))))
    one MI MI d = (λ h. inr refl, λ h. omega arith)

    among : Holds k (x ∷ es) → (0 < count_of k (one_more x.kind c)) ⊎ Holds k es
    among h = ⊎_elim (λ same. inl ((one k x.kind c).1 (inr (cc)))) (λ m. inr (h.0, m, h.2)) (Memᴰ.cases_cons h.1)

some_counted : (k : Kind) (es : List Entry) → (0 < count_of k (counts (kinds_of es))) ↔ Holds k es
unfolding counts
some_counted k es = (
  λ h. ⊎_elim (λ z. absurd (nothing k z)) (λ y. y) ((some_from k (record { reach = 0; unfinished = 0; missing = 0 }) es).0 h),
  λ y. (some_from k (record { reach = 0; unfinished = 0; missing = 0 }) es).1 (inr y),
)
  where
    nothing : (j : Kind) → 0 < count_of j (record { reach = 0; unfinished = 0; missing = 0 }) → ⊥
    nothing RE h = omega arith
    nothing UN h = omega arith
    nothing MI h = omega arith

-- the verdict by the counts: the three cases exclude each other
pub by_reach : (c : Counts) → 0 < c.reach → verdict_by c ≡ Found
unfolding verdict_by
by_reach c some = rw (lt-ltb 0 c.reach some)

pub by_unfinished : (c : Counts) → c.reach ≤ 0 → 0 < c.unfinished → verdict_by c ≡ Undecided
unfolding verdict_by
by_unfinished c few some = rw (le-ltb 0 c.reach few, lt-ltb 0 c.unfinished some)

pub by_neither : (c : Counts) → c.reach ≤ 0 → c.unfinished ≤ 0 → verdict_by c ≡ None
unfolding verdict_by
by_neither c few fewer = rw (le-ltb 0 c.reach few, le-ltb 0 c.unfinished fewer)

-- the counts that give a verdict
abbrev Gives : Counts → Verdict → Type 0
Gives c Found = 0 < c.reach
Gives c Undecided = (c.reach ≤ 0) × (0 < c.unfinished)
Gives c None = (c.reach ≤ 0) × (c.unfinished ≤ 0)

gives : (c : Counts) (v : Verdict) → verdict_by c ≡ v → Gives c v
unfolding verdict_by
gives c v e = subst (Gives c) e (go (ltb 0 c.reach) (ltb 0 c.unfinished) refl refl)
  where
    go : (s t : Bool) → ltb 0 c.reach ≡ s → ltb 0 c.unfinished ≡ t → Gives c (pick s Found (pick t Undecided None))
    go true t a b = ltb-true 0 c.reach a
    go false true a b = (ltb-false 0 c.reach a, ltb-true 0 c.unfinished b)
    go false false a b = (ltb-false 0 c.reach a, ltb-false 0 c.unfinished b)

-- One more entry: it is found with an RE; with a UN it stays found, and is undecided else; an MI changes nothing.
pub same_with_missing : (c : Counts) → verdict_by (one_more MI c) ≡ verdict_by c
unfolding verdict_by
same_with_missing c = refl

pub found_with_reach : (c : Counts) → verdict_by (one_more RE c) ≡ Found
found_with_reach c = by_reach (one_more RE c) (omega arith)

pub found_with_unfinished : (c : Counts) → verdict_by c ≡ Found → verdict_by (one_more UN c) ≡ Found
found_with_unfinished c e = by_reach (one_more UN c) (gives c Found e)

pub undecided_with_unfinished : (c : Counts) → ¬ (verdict_by c ≡ Found) → verdict_by (one_more UN c) ≡ Undecided
undecided_with_unfinished c not = go (ltb 0 c.reach) refl
  where
    go : (t : Bool) → ltb 0 c.reach ≡ t → verdict_by (one_more UN c) ≡ Undecided
    go true e = absurd (not (by_reach c (ltb-true 0 c.reach e)))
    go false e = by_unfinished (one_more UN c) (ltb-false 0 c.reach e) (omega arith)

count_more : (c : Counts) (es : List Entry) (e : Entry) → count_from c (kinds_of (es ++ (e ∷ []))) ≡ one_more e.kind (count_from c (kinds_of es))
unfolding count_from
count_more c [] e = refl
count_more c (x ∷ es) e = count_more (one_more x.kind c) es e

pub verdict_more : (es : List Entry) (e : Entry) → verdict (es ++ (e ∷ [])) ≡ verdict_by (one_more e.kind (counts (kinds_of es)))
unfolding verdict counts
verdict_more es e = ap verdict_by (count_more _ es e)

-- none of a kind is counted where no entry has it
none_counted : (k : Kind) (es : List Entry) → ¬ Holds k es → count_of k (counts (kinds_of es)) ≤ 0
none_counted k es not = go (ltb 0 (count_of k (counts (kinds_of es)))) refl
  where
    go : (t : Bool) → ltb 0 (count_of k (counts (kinds_of es))) ≡ t → count_of k (counts (kinds_of es)) ≤ 0
    go true e = absurd (not ((some_counted k es).0 (ltb-true 0 _ e)))
    go false e = ltb-false 0 _ e

-- the verdict is none exactly with no RE and no UN
pub none_without : (es : List Entry) → (verdict es ≡ None) ↔ (¬ Holds RE es × ¬ Holds UN es)
unfolding verdict
none_without es = (
  λ v. let g = gives _ None v in (λ h. omega (arith, g.0, (some_counted RE es).1 h), λ h. omega (arith, g.1, (some_counted UN es).1 h)),
  λ h. by_neither _ (none_counted RE es h.0) (none_counted UN es h.1),
)

-- it is found exactly with an RE
pub found_exactly : (es : List Entry) → (verdict es ≡ Found) ↔ Holds RE es
unfolding verdict
found_exactly es = (λ v. (some_counted RE es).0 (gives _ Found v), λ h. by_reach _ ((some_counted RE es).1 h))

-- it is undecided exactly with a UN and no RE
pub undecided_exactly : (es : List Entry) → (verdict es ≡ Undecided) ↔ (Holds UN es × ¬ Holds RE es)
unfolding verdict
undecided_exactly es = (
  λ v. let g = gives _ Undecided v in ((some_counted UN es).0 g.1, λ h. omega (arith, g.0, (some_counted RE es).1 h)),
  λ h. go h (ltb 0 (counts (kinds_of es)).reach) refl,
)
  where
    go : Holds UN es × ¬ Holds RE es → (t : Bool) → ltb 0 (counts (kinds_of es)).reach ≡ t → verdict_by (counts (kinds_of es)) ≡ Undecided
    go h true e = absurd (h.1 ((some_counted RE es).0 (ltb-true 0 _ e)))
    go h false e = by_unfinished _ (ltb-false 0 _ e) ((some_counted UN es).1 h.0)
