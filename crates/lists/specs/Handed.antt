-- A list that is handed in with its rule file: 02, Slip 2, refusal 14 ("scrap"). `IsList` is the sentence of the request: whole entries of known kinds, with
-- one partial value for each source parameter, of its type and no deeper than it may be, and at most S steps. `handed` reads the bytes. That the two agree is
-- `list_exactly` in proofs/Demands.antt.
-- Rests on reach's Lists, Partial and Reader.
use Rattle.std.specs.Prelude.{ℕ, zero, suc, ◌+◌, ◌≤◌, ◌<◌, ◌≡◌, List, [], ◌∷◌, length, get_or, leb, eqb}
use Rattle.std.proofs.Math.Option.{Option, none, some}
use Rattle.reach.specs.declared.Refusal.TheVariants.{BadList}
use Rattle.reach.specs.declared.Kind.{Kind}
use Rattle.reach.specs.Base.{pick, Each}
use Rattle.reach.specs.Limits.{list_limit, depth_limit}
use Rattle.reach.specs.Syntax.{Types, Program, source_types}
use Rattle.reach.specs.Parts.{prefix}
use Rattle.reach.specs.Types.{Typed, Slot, source_slots, least_depths}
use Rattle.reach.specs.Search.{Entry}
use Rattle.reach.specs.Lists.{list_bytes, kind_of}
use Rattle.reach.specs.Reader.{Got, got, refused, on_got, Reader, ◌>>=◌, ◌>>◌, give, or_refuse, demand, byte, word}
use Rattle.reach.specs.Partial.{Keeps, Manner, slotted}

-- an entry that may stand in such a list: "with parameters of the rule file's types and depths (an open part is as deep as its type's least depth) and at most
-- S steps"; and two bytes hold the length of its parameters
pub record Fitting (p : Program) (e : Entry) : Type 0 where
  pub typed : Typed p.types (source_types p) e.input
  pub deep : Keeps p.types (source_slots p) e.input
  pub in_time : e.steps ≤ p.steps
  pub counted : length (prefix e.input) < 65536

-- the list is these entries
pub record IsList (p : Program) (list : List ℕ) (es : List Entry) : Type 0 where
  pub bytes_are : list_bytes es ≡ list
  pub each_fits : Each (Fitting p) es
  pub in_limit : length list ≤ list_limit

-- the entries of a list: an open part is as deep as this table of least depths says; 02, Slip 2
abbrev pub in_entries : List ℕ → Manner
in_entries table = record { open_part = λ t. some (get_or table t 0); misfit = BadList }

-- the mark of an entry
unfoldable pub kind_mark : Reader Kind
kind_mark = do
  a ← byte
  b ← byte
  or_refuse BadList (kind_of a b)

-- what the reader finds, if it ends just n bytes behind its beginning
unfoldable pub spanning : {A : Type 0} → ℕ → Reader A → Reader A
spanning {A} n m s here = on_got {B = Got A} (λ a next. pick (eqb next (here + n)) (got a next) (refused BadList)) (λ why. refused why) (m s here)

-- one entry: mark, steps of at most so many, length, a partial value for each slot; it is read below as many constructors as D may ever be
unfoldable pub entry_by : Types → List ℕ → List Slot → ℕ → Reader Entry
entry_by types table ss limit = do
  kind ← kind_mark
  steps ← word
  demand (leb steps limit) BadList
  n ← word
  row ← spanning n (slotted types (in_entries table) depth_limit ss)
  give (record { kind = kind; steps = steps; input = row.0 })

abbrev pub entry : Program → Reader Entry
entry p = entry_by p.types (least_depths p.types) (source_slots p) p.steps

-- entries up to the end of the bytes, at most so many
unfoldable pub entries_by : Reader Entry → ℕ → Reader (List Entry)
entries_by one zero s here = pick (leb (length s) here) (got [] here) (refused BadList)
entries_by one (suc more) s here =
    let rest = (one >>= λ e. entries_by one more >>= λ es. give (e ∷ es)) s here in
    pick (leb (length s) here) (got [] here) rest

-- the entries of a list that is handed in, if it is one: every byte begins at most one
unfoldable pub handed : Program → List ℕ → Option (List Entry)
handed p list = pick (leb (length list) list_limit) (on_got (λ es next. some es) (λ why. none) (entries_by (entry p) (length list) list 0)) none
