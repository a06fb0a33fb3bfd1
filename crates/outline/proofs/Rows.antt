-- Records of one kind, one after the other, with their places kept in a table: what the loop of read_records knows, and why it stays so.
-- Rests on Kinds and Tables and on reach's Places.
use Prim.Native.Nat.{ℕ, pred, ◌+◌, ◌-◌, ◌<◌}
use mathlib.Core.Path.{◌≡◌, refl, sym, ◌∙◌, ap}
use mathlib.Core.List.{List, [], ◌∷◌, ◌++◌, map, map-append, append-nil, append_assoc}
use native.Mathlib.Numerals.{add-one}
use native.Mathlib.Omega.{arith}
use lib.ListN.{length, take, set, length-set}
use lib.Seq.{take-suc-set}
use Rattle.std.specs.Prelude.{Result, Ok, Err}
use Rattle.reach.specs.declared.Refusal.{Refusal}
use Rattle.reach.specs.Reader.{Got, got, refused, on_got}
use Rattle.typerecord.specs.Passed.{passed_of}
use Rattle.typerecord.proofs.Answers.{step_got, step_refused}
use Rattle.turns.specs.declared.Turn.{Turn}
use Rattle.turns.specs.Turns.{on_turn, Room}
use Rattle.outline.specs.Kinds.{Kind}

-- what is read after the records that were read already
abbrev pub before : {A : Type 0} → List A → Got (List A) → Got (List A)
before xs (got ys next) = got (xs ++ ys) next
before xs (refused why) = refused why

module _ {A : Type 0} where
  before_none : (g : Got (List A)) → g ≡ before [] g
  before_none (got ys next) = refl
  before_none (refused why) = refl

  before_one : (xs : List A) (a : A) (g : Got (List A)) → before xs (on_got {B = Got (List A)} (λ rest next. got (a ∷ rest) next) (λ why. refused why) g) ≡ before (xs ++ (a ∷ [])) g
  before_one xs a (got ys next) = ap (λ (l : List A). got l next) (sym (append_assoc xs (a ∷ []) ys))
  before_one xs a (refused why) = refl

module _ {s : List ℕ} {A : Type 0} (K : Kind s A) (limit : ℕ) where
  -- What the loop knows of a reading of the whole: there is room, the places of the records read are kept, and the rest is read at `i`.
  pub record Rows (whole : Got (List A)) (places : List ℕ) (count i : ℕ) : Type 0 where
    pub room : count < limit
    pub size : length places ≡ limit
    pub rest : whole ≡ before (map K.look (take count places)) (K.from (limit - (count + 1)) i)

  -- no record is read yet
  pub rows_none : {places : List ℕ} {count : ℕ} (i : ℕ) → 0 < limit → count ≡ 0 → length places ≡ limit → Rows (K.from (limit - 1) i) places count i
  rows_none i room none size = rw none (record { room = room; size = size; rest = before_none _ })

  -- the turn is what the reader of further records finds behind the one that follows so many
  abbrev pub Turning : ℕ → ℕ → Result Turn Refusal → Type 0
  Turning count behind t = K.more (limit - count) behind ≡ on_turn (λ next. K.from (pred (limit - count)) next) t

  module _ {whole : Got (List A)} {places : List ℕ} {count i : ℕ} (rows : Rows whole places count i) where
    -- a record that is refused
    pub rows_stop : {why : Refusal} → Err why ≡ passed_of (K.one i) → whole ≡ refused why
    rows_stop told = rows.rest ∙ rw (K.first (limit - (count + 1)) i, step_refused (K.one i) (sym told))

    -- a record that is read, and its place kept
    row_kept : {a : A} {behind : ℕ} → K.one i ≡ got a behind → whole ≡ before (map K.look (take (count + 1) (set places count i))) (K.more (limit - (count + 1)) behind)
    row_kept {a} {behind} e =
        let kept : take (count + 1) (set places count i) ≡ take count places ++ (i ∷ []) = rw add-one (take-suc-set places count i (rw rows.size rows.room)) in
        rows.rest ∙ rw (K.first (limit - (count + 1)) i, e, kept, map-append, ← (K.stands i e).value)
        (before_one (map K.look (take count places)) a (K.more (limit - (count + 1)) behind))

    pub rows_read : {behind : ℕ} → Ok behind ≡ passed_of (K.one i)
        → whole ≡ before (map K.look (take (count + 1) (set places count i))) (K.more (limit - (count + 1)) behind)
    rows_read told = row_kept (step_got (K.one i) (sym told)).1

    module _ {behind : ℕ} (told : Ok behind ≡ passed_of (K.one i)) where
      -- a record that was read begins within the bytes
      pub row_begins : i < length s
      row_begins = (K.stands i (step_got (K.one i) (sym told)).1).begins

      -- its place is kept, and the turn behind it taken
      module _ {kept : List ℕ} {now : ℕ} (one_more : now ≡ count + 1) (set_there : kept ≡ set places count i) where
        after : (t : Result Turn Refusal) → Turning now behind t → whole ≡ before (map K.look (take now kept)) (on_turn (λ next. K.from (pred (limit - now)) next) t)
        after t turn = rw (← turn, set_there, one_more) (rows_read told)

        -- the turn leads to one more record
        pub rows_again : {t : Turn} {next : ℕ} → t ≡ Turn.Again next → Turning now behind (Ok t) → Room (limit - now) (Ok t) → Rows whole kept now next
        rows_again {t} is turn room =
            let more : 0 < limit - now = rw is at room in
            let left : pred (limit - now) ≡ limit - (now + 1) = omega arith in
            record { room = omega arith; size = rw set_there (length-set places count i ∙ rows.size); rest = after (Ok t) turn ∙ rw (is, left) }

        -- it leads to the end of the records
        pub rows_done : {t : Turn} {next : ℕ} → t ≡ Turn.Done next → Turning now behind (Ok t) → whole ≡ got (map K.look (take now kept)) next
        rows_done {t} is turn = after (Ok t) turn ∙ rw (is, append-nil)

        -- it is a refusal
        pub rows_refused : {why : Refusal} → Turning now behind (Err why) → whole ≡ refused why
        rows_refused {why} turn = after (Err why) turn
