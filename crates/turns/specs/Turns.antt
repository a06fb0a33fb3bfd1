-- What follows a mark, as a turn says.
-- Rests on reach's RuleFile and on the enum of src/lib.rt.
use Rattle.std.specs.Prelude.{ℕ, pred, ◌<◌, List, [], ◌∷◌, Result, Ok, Err}
use Rattle.reach.specs.declared.Refusal.{Refusal}
use Rattle.reach.specs.Syntax.{Types}
use Rattle.reach.specs.Reader.{Got, got, refused, Reader, ◌>>=◌, give}
use Rattle.reach.specs.RuleFile.{TY, in_turn, mark, type_record, more_types, Head, function_record, more_functions}
use Rattle.turns.specs.declared.Turn.{Turn}

-- a type's record, then up to k more types, up to behind the mark of the first function
unfoldable pub types_from : ℕ → Reader Types
types_from k = do
  t ← type_record
  ts ← more_types k
  give (t ∷ ts)

-- a function's record, then up to k more functions, up to the mark NA or GO
unfoldable pub functions_from : ℕ → Reader (List Head)
functions_from k = do
  f ← function_record
  fs ← more_functions k
  give (f ∷ fs)

abbrev pub on_turn : {A : Type 0} → (ℕ → Got (List A)) → Result Turn Refusal → Got (List A)
on_turn again (Ok (Turn.Again next)) = again next
on_turn again (Ok (Turn.Done next)) = got [] next
on_turn again (Err why) = refused why

-- what follows a mark, as the turn says
abbrev pub types_turn : List ℕ → ℕ → Result Turn Refusal → Got Types
types_turn s more t = on_turn (λ next. types_from (pred more) s next) t

abbrev pub functions_turn : List ℕ → ℕ → Result Turn Refusal → Got (List Head)
functions_turn s more t = on_turn (λ next. functions_from (pred more) s next) t

-- one more record is called for only where one may come
abbrev pub Room : ℕ → Result Turn Refusal → Type 0
Room more (Ok (Turn.Again next)) = 0 < more
Room more (Ok (Turn.Done next)) = Unit {0}
Room more (Err why) = Unit {0}

-- the first mark must be that of a type
unfoldable pub first_mark : Reader (Unit {0})
first_mark = mark >>= in_turn ((TY, give tt) ∷ [])
