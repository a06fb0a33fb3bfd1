-- Laws of partial inputs: the order "binds at least", what a bind does at its place and elsewhere, what opening a part undoes.
-- Rests on specs/Parts.
use Prim.Native.Nat.{ℕ, zero, suc, ◌<◌}
use mathlib.Core.Path.{◌≡◌, refl, sym, ◌∙◌, ap, subst}
use mathlib.Core.Logic.{◌⊎◌, inl, inr}
use native.Mathlib.Nat.{le_of_suc-le-suc, not-suc-le-zero}
use Rattle.reach.specs.Parts.{Parts, end, opened, bound, width, all_open, Place, here, after, inside, part, within, There}
use Rattle.reach.specs.Parts.{Seen, gone, free, has, at, bind_at, open_at, Closed, ◌⊑◌, ⊑-end, ⊑-open, ⊑-bind, ⊑-same}

-- a constructor stands at a place; which one, with how many fields
abbrev pub Bound : Seen → Type 0
Bound gone = ⊥
Bound free = ⊥
Bound (has c k) = Unit {0}

abbrev pub constructor_of : Seen → ℕ
constructor_of gone = 0
constructor_of free = 0
constructor_of (has c k) = c

abbrev pub arity_of : Seen → ℕ
arity_of gone = 0
arity_of free = 0
arity_of (has c k) = k

gone_unbound : {c k : ℕ} → gone ≡ has c k → ⊥
gone_unbound h = subst Bound (sym h) tt

pub free_unbound : {c k : ℕ} → free ≡ has c k → ⊥
free_unbound h = subst Bound (sym h) tt

gone_not_free : gone ≡ free → ⊥
gone_not_free h = subst There (sym h) tt

-- the order
pub ⊑_refl : (e : Parts) → e ⊑ e
⊑_refl end = ⊑-end
⊑_refl (opened r) = ⊑-open (⊑_refl r)
⊑_refl (bound c fs r) = ⊑-same (⊑_refl fs) (⊑_refl r)

pub ⊑_trans : {e f g : Parts} → e ⊑ f → f ⊑ g → e ⊑ g
⊑_trans ⊑-end b = b
⊑_trans (⊑-open a) (⊑-open b) = ⊑-open (⊑_trans a b)
⊑_trans (⊑-open a) (⊑-bind b) = ⊑-bind (⊑_trans a b)
⊑_trans (⊑-bind a) (⊑-same f b) = ⊑-bind (⊑_trans a b)
⊑_trans (⊑-same f a) (⊑-same g b) = ⊑-same (⊑_trans f g) (⊑_trans a b)

pub ⊑-width : {e j : Parts} → e ⊑ j → width e ≡ width j
unfolding width
⊑-width ⊑-end = refl
⊑-width (⊑-open a) = ap suc (⊑-width a)
⊑-width (⊑-bind a) = ap suc (⊑-width a)
⊑-width (⊑-same f a) = ap suc (⊑-width a)

-- a bound part stays as it is in every row that binds at least as much
pub ⊑-has : {e j : Parts} → e ⊑ j → (q : Place) {c k : ℕ} → at e q ≡ has c k → at j q ≡ has c k
unfolding at
⊑-has ⊑-end q h = h
⊑-has (⊑-open a) here h = h
⊑-has (⊑-open a) (after q) h = ⊑-has a q h
⊑-has (⊑-open a) (inside q) h = h
⊑-has (⊑-bind a) here h = absurd (free_unbound h)
⊑-has (⊑-bind a) (after q) h = ⊑-has a q h
⊑-has (⊑-bind a) (inside q) h = absurd (gone_unbound h)
⊑-has (⊑-same {c = b} f a) here h = ap (has b) (sym (⊑-width f)) ∙ h
⊑-has (⊑-same f a) (after q) h = ⊑-has a q h
⊑-has (⊑-same f a) (inside q) h = ⊑-has f q h

pub ⊑-there : {e j : Parts} → e ⊑ j → (q : Place) → There (at e q) → There (at j q)
unfolding at
⊑-there ⊑-end q h = h
⊑-there (⊑-open a) here h = tt
⊑-there (⊑-open a) (after q) h = ⊑-there a q h
⊑-there (⊑-open a) (inside q) h = h
⊑-there (⊑-bind a) here h = tt
⊑-there (⊑-bind a) (after q) h = ⊑-there a q h
⊑-there (⊑-bind a) (inside q) h = absurd h
⊑-there (⊑-same f a) here h = tt
⊑-there (⊑-same f a) (after q) h = ⊑-there a q h
⊑-there (⊑-same f a) (inside q) h = ⊑-there f q h

-- part n of a row of more than n parts is there, and so is field n of a part with more than n fields
pub part_there : (e : Parts) (n : ℕ) → n < width e → There (at e (part n))
unfolding at part width
part_there end n h = absurd (not-suc-le-zero h)
part_there (opened r) zero h = tt
part_there (opened r) (suc n) h = part_there r n (le_of_suc-le-suc h)
part_there (bound c fs r) zero h = tt
part_there (bound c fs r) (suc n) h = part_there r n (le_of_suc-le-suc h)

pub field_there : (e : Parts) (q : Place) (c k n : ℕ) → at e q ≡ has c k → n < k → There (at e (within q (part n)))
unfolding at within
field_there end q c k n h l = absurd (gone_unbound h)
field_there (opened r) here c k n h l = absurd (free_unbound h)
field_there (opened r) (after q) c k n h l = field_there r q c k n h l
field_there (opened r) (inside q) c k n h l = absurd (gone_unbound h)
field_there (bound b fs r) here c k n h l = part_there fs n (subst (λ (m : ℕ). n < m) (sym (ap arity_of h)) l)
field_there (bound b fs r) (after q) c k n h l = field_there r q c k n h l
field_there (bound b fs r) (inside q) c k n h l = field_there fs q c k n h l

-- to bind a part
pub open_width : (k : ℕ) → width (all_open k) ≡ k
unfolding width all_open
open_width zero = refl
open_width (suc k) = ap suc (open_width k)

pub open_unbound : (k : ℕ) (q : Place) {c m : ℕ} → at (all_open k) q ≡ has c m → ⊥
unfolding at all_open
open_unbound zero q h = gone_unbound h
open_unbound (suc k) here h = free_unbound h
open_unbound (suc k) (after q) h = open_unbound k q h
open_unbound (suc k) (inside q) h = gone_unbound h

pub bind_refines : (q : Place) (c k : ℕ) (e : Parts) → e ⊑ bind_at q c k e
unfolding bind_at
bind_refines q c k end = ⊑-end
bind_refines here c k (opened r) = ⊑-bind (⊑_refl r)
bind_refines (after q) c k (opened r) = ⊑-open (bind_refines q c k r)
bind_refines (inside q) c k (opened r) = ⊑_refl (opened r)
bind_refines here c k (bound d fs r) = ⊑_refl (bound d fs r)
bind_refines (after q) c k (bound d fs r) = ⊑-same (⊑_refl fs) (bind_refines q c k r)
bind_refines (inside q) c k (bound d fs r) = ⊑-same (bind_refines q c k fs) (⊑_refl r)

-- at its place there is the constructor
pub bind_has : (q : Place) (c k : ℕ) (e : Parts) → at e q ≡ free → at (bind_at q c k e) q ≡ has c k
unfolding at bind_at
bind_has q c k end h = absurd (gone_not_free h)
bind_has here c k (opened r) h = ap (has c) (open_width k)
bind_has (after q) c k (opened r) h = bind_has q c k r h
bind_has (inside q) c k (opened r) h = absurd (gone_not_free h)
bind_has here c k (bound d fs r) h = absurd (free_unbound (sym h))
bind_has (after q) c k (bound d fs r) h = bind_has q c k r h
bind_has (inside q) c k (bound d fs r) h = bind_has q c k fs h

-- a row of open parts is below every row of as many
pub open_least : (e : Parts) → all_open (width e) ⊑ e
unfolding width all_open
open_least end = ⊑-end
open_least (opened r) = ⊑-open (open_least r)
open_least (bound c fs r) = ⊑-bind (open_least r)

-- a row that binds at least as much and has that constructor there binds at least as much as the row with the part bound
pub bind_below : {e j : Parts} → e ⊑ j → (q : Place) {c k : ℕ} → at j q ≡ has c k → bind_at q c k e ⊑ j
unfolding at bind_at
bind_below ⊑-end q h = ⊑-end
bind_below (⊑-open a) here h = absurd (free_unbound h)
bind_below (⊑-open a) (after q) h = ⊑-open (bind_below a q h)
bind_below (⊑-open a) (inside q) h = ⊑-open a
bind_below (⊑-bind {r = r} {s = s} {gs = gs} {d = d} a) here {c} {k} h =
    let fields = subst (λ (m : ℕ). all_open m ⊑ gs) (ap arity_of h) (open_least gs) in
    subst (λ (m : ℕ). bound m (all_open k) r ⊑ bound d gs s) (ap constructor_of h) (⊑-same fields a)
bind_below (⊑-bind a) (after q) h = ⊑-bind (bind_below a q h)
bind_below (⊑-bind a) (inside q) h = ⊑-bind a
bind_below (⊑-same f a) here h = ⊑-same f a
bind_below (⊑-same f a) (after q) h = ⊑-same f (bind_below a q h)
bind_below (⊑-same f a) (inside q) h = ⊑-same (bind_below f q h) a

further : {A : Type 0} {q r : Place} (f : Place → Place) → A ⊎ (r ≡ q) → A ⊎ (f r ≡ f q)
further f (inl a) = inl a
further f (inr e) = inr (ap f e)

-- only that part is newly bound
pub bind_new : (q : Place) (c k : ℕ) (e : Parts) (r : Place) {d m : ℕ} → at (bind_at q c k e) r ≡ has d m → (at e r ≡ has d m) ⊎ (r ≡ q)
unfolding at bind_at
bind_new q c k end r h = absurd (gone_unbound h)
bind_new here c k (opened s) here h = inr refl
bind_new here c k (opened s) (after r) h = inl h
bind_new here c k (opened s) (inside r) h = absurd (open_unbound k r h)
bind_new (after q) c k (opened s) here h = inl h
bind_new (after q) c k (opened s) (after r) h = further after (bind_new q c k s r h)
bind_new (after q) c k (opened s) (inside r) h = inl h
bind_new (inside q) c k (opened s) r h = inl h
bind_new here c k (bound b fs s) r h = inl h
bind_new (after q) c k (bound b fs s) here h = inl h
bind_new (after q) c k (bound b fs s) (after r) h = further after (bind_new q c k s r h)
bind_new (after q) c k (bound b fs s) (inside r) h = inl h
bind_new (inside q) c k (bound b fs s) here h = inl (ap (has b) (⊑-width (bind_refines q c k fs)) ∙ h)
bind_new (inside q) c k (bound b fs s) (after r) h = inl h
bind_new (inside q) c k (bound b fs s) (inside r) h = further inside (bind_new q c k fs r h)

-- to open a part
pub open_monotone : {e j : Parts} → e ⊑ j → (q : Place) → open_at q e ⊑ open_at q j
unfolding open_at
open_monotone ⊑-end q = ⊑-end
open_monotone (⊑-open a) here = ⊑-open a
open_monotone (⊑-open a) (after q) = ⊑-open (open_monotone a q)
open_monotone (⊑-open a) (inside q) = ⊑-open a
open_monotone (⊑-bind a) here = ⊑-open a
open_monotone (⊑-bind a) (after q) = ⊑-bind (open_monotone a q)
open_monotone (⊑-bind a) (inside q) = ⊑-bind a
open_monotone (⊑-same f a) here = ⊑-open a
open_monotone (⊑-same f a) (after q) = ⊑-same f (open_monotone a q)
open_monotone (⊑-same f a) (inside q) = ⊑-same (open_monotone f q) a

pub opened_below : (q : Place) (e : Parts) → open_at q e ⊑ e
unfolding open_at
opened_below q end = ⊑-end
opened_below here (opened r) = ⊑_refl (opened r)
opened_below (after q) (opened r) = ⊑-open (opened_below q r)
opened_below (inside q) (opened r) = ⊑_refl (opened r)
opened_below here (bound c fs r) = ⊑-bind (⊑_refl r)
opened_below (after q) (bound c fs r) = ⊑-same (⊑_refl fs) (opened_below q r)
opened_below (inside q) (bound c fs r) = ⊑-same (opened_below q fs) (⊑_refl r)

pub open_free : (q : Place) (e : Parts) {c k : ℕ} → at e q ≡ has c k → at (open_at q e) q ≡ free
unfolding at open_at
open_free q end h = absurd (gone_unbound h)
open_free here (opened r) h = refl
open_free (after q) (opened r) h = open_free q r h
open_free (inside q) (opened r) h = absurd (gone_unbound h)
open_free here (bound c fs r) h = refl
open_free (after q) (bound c fs r) h = open_free q r h
open_free (inside q) (bound c fs r) h = open_free q fs h

-- to open a part that was just bound gives back the row before
pub open_bind : (q : Place) (c k : ℕ) (e : Parts) → at e q ≡ free → open_at q (bind_at q c k e) ≡ e
unfolding at open_at bind_at
open_bind q c k end h = refl
open_bind here c k (opened r) h = refl
open_bind (after q) c k (opened r) h = ap opened (open_bind q c k r h)
open_bind (inside q) c k (opened r) h = refl
open_bind here c k (bound d fs r) h = absurd (free_unbound (sym h))
open_bind (after q) c k (bound d fs r) h = ap (bound d fs) (open_bind q c k r h)
open_bind (inside q) c k (bound d fs r) h = ap (λ x. bound d x r) (open_bind q c k fs h)

-- a closed row is bound wherever a row below it is open
pub closed_has : {e j : Parts} → e ⊑ j → Closed j → (q : Place) → at e q ≡ free → (c : ℕ) × (k : ℕ) × (at j q ≡ has c k)
unfolding at
closed_has ⊑-end z q h = absurd (gone_not_free h)
closed_has (⊑-open a) z q h = absurd z
closed_has (⊑-bind {gs = gs} {d = d} a) z here h = (d, width gs, refl)
closed_has (⊑-bind a) z (after q) h = closed_has a z.1 q h
closed_has (⊑-bind a) z (inside q) h = absurd (gone_not_free h)
closed_has (⊑-same f a) z here h = absurd (free_unbound (sym h))
closed_has (⊑-same f a) z (after q) h = closed_has a z.1 q h
closed_has (⊑-same f a) z (inside q) h = closed_has f z.0 q h
