-- Partial inputs, the places in them, and what 01 says of them: open and bound parts, closed inputs, depth, to complete, to open.
-- Rests on numbers alone.
use Rattle.std.specs.Prelude.{ℕ, zero, suc, max, ◌≡◌, List, [], ◌∷◌, ◌++◌}

-- A row of partial values: the parameters of an input, or the fields of a constructor, from the left.
pub data Parts : Type 0 where
  -- the row ends
  end : Parts
  -- an open part (000: an unbound variable), and the rest of the row
  opened : Parts → Parts
  -- a bound part: a constructor with the row of its fields, and the rest of the row
  bound : ℕ → Parts → Parts → Parts

-- how many parts a row has
unfoldable pub width : Parts → ℕ
width end = zero
width (opened r) = suc (width r)
width (bound c fs r) = suc (width r)

-- a row of open parts
unfoldable pub all_open : ℕ → Parts
all_open zero = end
all_open (suc n) = opened (all_open n)

-- A place in a row: its first part, or a place in the row after that part, or a place in the row of that part's fields.
pub data Place : Type 0 where
  here : Place
  after : Place → Place
  inside : Place → Place

-- part n of a row, counted from 0
unfoldable pub part : ℕ → Place
part zero = here
part (suc n) = after (part n)

-- a place in the row of fields of the part at q
unfoldable pub within : Place → Place → Place
within here r = inside r
within (after q) r = after (within q r)
within (inside q) r = inside (within q r)

-- What stands at a place: nothing, an open part, or a constructor with its number of fields.
pub data Seen : Type 0 where
  gone : Seen
  free : Seen
  has : ℕ → ℕ → Seen

unfoldable pub at : Parts → Place → Seen
at end q = gone
at (opened r) here = free
at (opened r) (after q) = at r q
at (opened r) (inside q) = gone
at (bound c fs r) here = has c (width fs)
at (bound c fs r) (after q) = at r q
at (bound c fs r) (inside q) = at fs q

-- the row in which the open part at q is bound to constructor c with k open fields (000: the rule Narrow)
unfoldable pub bind_at : Place → ℕ → ℕ → Parts → Parts
bind_at q c k end = end
bind_at here c k (opened r) = bound c (all_open k) r
bind_at (after q) c k (opened r) = opened (bind_at q c k r)
bind_at (inside q) c k (opened r) = opened r
bind_at here c k (bound d fs r) = bound d fs r
bind_at (after q) c k (bound d fs r) = bound d fs (bind_at q c k r)
bind_at (inside q) c k (bound d fs r) = bound d (bind_at q c k fs) r

-- the row with an open part in place of the part at q and all its fields (01: "to open a bound part")
unfoldable pub open_at : Place → Parts → Parts
open_at q end = end
open_at here (opened r) = opened r
open_at (after q) (opened r) = opened (open_at q r)
open_at (inside q) (opened r) = opened r
open_at here (bound c fs r) = opened r
open_at (after q) (bound c fs r) = bound c fs (open_at q r)
open_at (inside q) (bound c fs r) = bound c (open_at q fs) r

-- every part is bound: the row holds constructors only
abbrev pub Closed : Parts → Type 0
Closed end = Unit {0}
Closed (opened r) = ⊥
Closed (bound c fs r) = Closed fs × Closed r

-- the depth of the deepest value of a row: a constructor without fields has depth 1, any other 1 more than its deepest field
unfoldable pub depth : Parts → ℕ
depth end = zero
depth (opened r) = depth r
depth (bound c fs r) = max (suc (depth fs)) (depth r)

-- constructor c stands at q
abbrev pub HasAt : Parts → Place → ℕ → Type 0
HasAt e q c = (k : ℕ) × (at e q ≡ has c k)

-- 01: a bound part is a place that has a constructor
abbrev pub BoundPart : Parts → Place → Type 0
BoundPart e q = (c : ℕ) × HasAt e q c

-- 01: a closed input completes an entry if it has the same constructor at every bound part
abbrev pub Completes : Parts → Parts → Type 0
Completes j e = (q : Place) (c : ℕ) → HasAt e q c → HasAt j q c

-- The order "binds at least": e ⊑ j where j has the parts of e, with the same constructor wherever e is bound.
pub data ◌⊑◌ : Parts → Parts → Type 0 where
  ⊑-end : end ⊑ end
  ⊑-open : {r s : Parts} → r ⊑ s → opened r ⊑ opened s
  ⊑-bind : {r s gs : Parts} {d : ℕ} → r ⊑ s → opened r ⊑ bound d gs s
  ⊑-same : {r s fs gs : Parts} {c : ℕ} → fs ⊑ gs → r ⊑ s → bound c fs r ⊑ bound c gs s

infix 40 ◌⊑◌
-- the prefix form: a constructor's number before its fields, 0xFF for an open part
unfoldable pub prefix : Parts → List ℕ
prefix end = []
prefix (opened r) = 0xff ∷ prefix r
prefix (bound c fs r) = c ∷ prefix fs ++ prefix r

-- something stands at a place
abbrev pub There : Seen → Type 0
There gone = ⊥
There free = Unit {0}
There (has c k) = Unit {0}
