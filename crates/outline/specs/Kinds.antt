-- A kind of record of which several come one after the other: types and functions are the two kinds.
-- Their laws stand here and not in proofs/: the trait `Record` of src/ cites them, and what a trait cites stands in specs/.
-- Rests on reach's RuleFile and Places, and on turns' Turns.
use Rattle.std.specs.Prelude.{ℕ, ◌≡◌, List, ◌∷◌, refl}
use Rattle.reach.specs.Reader.{Got, got, refused, on_got}
use Rattle.reach.specs.RuleFile.{Head, type_record, more_types, function_record, more_functions}
use Rattle.reach.specs.Places.{type_at, head_at}
use Rattle.reach.proofs.Places.{Read, type_read, head_read}
use Rattle.turns.specs.Turns.{types_from, functions_from}

-- one record, and then those that follow
abbrev pub joined : {A : Type 0} → Got A → (ℕ → Got (List A)) → Got (List A)
joined {A} g more =
    on_got {B = Got (List A)} (λ a j. on_got {B = Got (List A)} (λ rest next. got (a ∷ rest) next) (λ why. refused why) (more j)) (λ why. refused why) g

-- A kind of record in the bytes s: the readers of one, of those that may follow it and of all, and the lookup.
pub record Kind (s : List ℕ) (A : Type 0) : Type 0 where
  pub one : ℕ → Got A
  pub more : ℕ → ℕ → Got (List A)
  pub from : ℕ → ℕ → Got (List A)
  pub look : ℕ → A
  pub first : (k i : ℕ) → from k i ≡ joined (one i) (more k)
  pub stands : (i : ℕ) {a : A} {next : ℕ} → one i ≡ got a next → Read (look i) s i a next

module _ (s : List ℕ) where
  pub types_first : (k i : ℕ) → types_from k s i ≡ joined (type_record s i) (more_types k s)
  unfolding types_from
  types_first k i = refl

  pub functions_first : (k i : ℕ) → functions_from k s i ≡ joined (function_record s i) (more_functions k s)
  unfolding functions_from
  functions_first k i = refl

  abbrev pub types_kind : Kind s (List (List ℕ))
  types_kind =
      record {
        one = type_record s;
        more = λ k. more_types k s;
        from = λ k. types_from k s;
        look = type_at s;
        first = types_first;
        stands = type_read s;
      }

  abbrev pub functions_kind : Kind s Head
  functions_kind =
      record {
        one = function_record s;
        more = λ k. more_functions k s;
        from = λ k. functions_from k s;
        look = head_at s;
        first = functions_first;
        stands = head_read s;
      }
