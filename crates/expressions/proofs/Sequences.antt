-- Operands and alternatives: an expression for each of the types that stand in the file, and a byte with or without an expression for each of the
-- constructors. Each law says what the definition gives where the code's loop goes on, is refused, or ends.
-- Rests on Tables and Passing.
use Prim.Native.Nat.{ℕ, ◌+◌, ◌-◌, ◌≤◌, ◌<◌}
use mathlib.Core.Path.{◌≡◌, refl, sym, ◌∙◌}
use mathlib.Core.Bool.{Bool, true, false}
use mathlib.Core.List.{List, [], ◌∷◌, ◌++◌}
use mathlib.Core.Option.{Option, none, some}
use Rattle.std.specs.Prelude.{Result, Ok, Err}
use lib.ListN.{get_or}
use lib.Dec.{leb, eqb}
use borrow.Author.Tests.{le-leb, lt-leb, ne_eqb}
use Rattle.reach.specs.declared.Refusal.{Refusal}
use Rattle.reach.specs.declared.Refusal.TheVariants.{UnknownCode}
use Rattle.reach.specs.Base.{pick}
use Rattle.reach.specs.Syntax.{Expr, ◌∷ₑ◌, Alternatives, absent, present}
use Rattle.reach.specs.Reader.{Got, got, refused, on_got, Reader, ◌>>=◌, ◌>>◌, give, demand, byte}
use Rattle.reach.specs.RuleFile.{Below, operands_of, alternatives}
use Rattle.reach.specs.Places.{bytes_at}
use Rattle.typerecord.specs.Passed.{passed_of}
use Rattle.typerecord.proofs.Answers.{step_mapped}
use Rattle.expressions.specs.Readers.{expression_at, operands_at, alternatives_at, alternative_at}
use Rattle.lookups.proofs.Tables.{bytes_more, bytes_none}
use Rattle.expressions.proofs.Passing.{both_next, first_refused}

-- a step that goes on from the place behind another one
abbrev after : Result ℕ Refusal → (ℕ → Result ℕ Refusal) → Result ℕ Refusal
after (Ok next) go = go next
after (Err why) go = Err why

module _ (file types functions : List ℕ) (left : ℕ) (view s : List ℕ) where
  abbrev reader : Below
  reader = expression_at file types functions left

  -- The operands for the n types from place i on.
  abbrev operands_step : ℕ → ℕ → ℕ → Result ℕ Refusal
  operands_step at i n = passed_of (operands_at file types functions left view (bytes_at file i n) s at)

  -- one of more than none: its step is known to the code, which took its type from the file
  module _ (at i n : ℕ) (more : 0 < n) {t : ℕ} (same : t ≡ get_or file i 0) where
    operand : {step : Result ℕ Refusal} → step ≡ passed_of (reader view t s at) → step ≡ passed_of (reader view (get_or file i 0) s at)
    operand told = rw (← same) told

    pub operand_next : {next : ℕ} → Ok next ≡ passed_of (reader view t s at) → operands_step next (i + 1) (n - 1) ≡ operands_step at i n
    unfolding operands_of
    operand_next told =
        rw (bytes_more file i n more)
        (sym (both_next (reader view (get_or file i 0)) (operands_of reader view (bytes_at file (i + 1) (n - 1))) ◌∷ₑ◌ s at (sym (operand told))))

    pub operand_refused : {why : Refusal} → Err why ≡ passed_of (reader view t s at) → Err why ≡ operands_step at i n
    unfolding operands_of
    operand_refused told =
        rw (bytes_more file i n more)
        (sym
        (first_refused (reader view (get_or file i 0))
        (λ x. operands_of reader view (bytes_at file (i + 1) (n - 1)) >>= λ xs. give (x ∷ₑ xs))
        s at (sym (operand told))))

  pub operands_done : (at i n : ℕ) → n ≤ 0 → Ok at ≡ operands_step at i n
  unfolding operands_of
  operands_done at i n h = rw (bytes_none file i n h)

  module _ (expected : ℕ) where
    module _ (us : List ℕ) (at : ℕ) where
      -- One alternative, for a constructor with these fields: a byte b, and behind a 1 an expression that sees the fields too.
      abbrev alternative_step : Result ℕ Refusal
      alternative_step = passed_of (alternative_at file types functions left view expected us s at)

      pub alternative_short : {why : Refusal} → byte s at ≡ refused why → Err why ≡ alternative_step
      unfolding alternative_at
      alternative_short read = rw read

      module _ {b next : ℕ} (read : byte s at ≡ got b next) where
        pub alternative_unknown : 1 < b → Err UnknownCode ≡ alternative_step
        unfolding alternative_at
        alternative_unknown h = rw (read, lt-leb b 1 h)

        pub alternative_none : b ≡ 0 → Ok next ≡ alternative_step
        unfolding alternative_at
        alternative_none e = rw (read, e)

        pub alternative_goes : b ≤ 1 → (b ≡ 0 → ⊥) → (wider : List ℕ) → wider ≡ view ++ us
            → {end : Result ℕ Refusal} → end ≡ passed_of (reader wider expected s next) → end ≡ alternative_step
        unfolding alternative_at
        alternative_goes h e wider w ends =
            ends
            ∙ rw (read, le-leb b 1 h, ne_eqb b 0 e, w) (sym (step_mapped some (reader (view ++ us) expected s next)))

      -- An alternative, and the others from the place behind it: by cases on the byte, on its two tests, and on the expression.
      module _ (cs : List (List ℕ)) where
        abbrev rest : Reader Alternatives
        rest = alternatives reader view expected cs

        -- behind the byte, with the others and without them
        abbrev chosen : Bool → Reader Alternatives
        chosen nothing =
            pick nothing (rest >>= λ xs. give (absent xs)) (reader (view ++ us) expected >>= λ e. rest >>= λ xs. give (present e xs))

        abbrev alone : Bool → Reader (Option Expr)
        alone nothing = pick nothing (give none) (reader (view ++ us) expected >>= λ e. give (some e))

        chosen_steps : (nothing : Bool) (next : ℕ)
            → passed_of (chosen nothing s next)
            ≡ after (passed_of (alone nothing s next)) (λ behind. passed_of (rest s behind))
        chosen_steps true next = step_mapped absent (rest s next)
        chosen_steps false next = by (reader (view ++ us) expected s next)
          where
            by : (g : Got Expr)
                → passed_of (on_got {B = Got Alternatives} (λ e behind. (rest >>= λ xs. give (present e xs)) s behind) (λ why. refused why) g)
                ≡ after (passed_of (on_got {B = Got (Option Expr)} (λ e behind. got (some e) behind) (λ why. refused why) g))
                (λ behind. passed_of (rest s behind))
            by (got e behind) = step_mapped (present e) (rest s behind)
            by (refused why) = refl

        tested_steps : (known nothing : Bool) (next : ℕ)
            → passed_of ((demand known UnknownCode >> chosen nothing) s next)
            ≡ after (passed_of ((demand known UnknownCode >> alone nothing) s next)) (λ behind. passed_of (rest s behind))
        tested_steps true nothing next = chosen_steps nothing next
        tested_steps false nothing next = refl

        alternatives_steps : passed_of (alternatives reader view expected (us ∷ cs) s at) ≡ after alternative_step (λ behind. passed_of (rest s behind))
        unfolding alternatives alternative_at
        alternatives_steps = by (byte s at)
          where
            by : (g : Got ℕ)
                → passed_of (on_got {B = Got Alternatives} (λ b next. (demand (leb b 1) UnknownCode >> chosen (eqb b 0)) s next) (λ why. refused why) g)
                ≡ after (passed_of (on_got {B = Got (Option Expr)} (λ b next. (demand (leb b 1) UnknownCode >> alone (eqb b 0)) s next) (λ why. refused why) g))
                (λ behind. passed_of (rest s behind))
            by (got b next) = tested_steps (leb b 1) (eqb b 0) next
            by (refused why) = refl

    -- The alternatives for constructors with these fields.
    abbrev alternatives_step : ℕ → List (List ℕ) → Result ℕ Refusal
    alternatives_step at cs = passed_of (alternatives_at file types functions left view expected cs s at)

    -- one of them and more: its step is known to the code
    module _ (at : ℕ) (us : List ℕ) (cs : List (List ℕ)) where
      alternatives_step_law : {step : Result ℕ Refusal} → step ≡ alternative_step us at
          → alternatives_step at (us ∷ cs) ≡ after step (λ next. alternatives_step next cs)
      alternatives_step_law told = rw told (alternatives_steps us at cs)

      pub alternative_next : {next : ℕ} → Ok next ≡ alternative_step us at → alternatives_step next cs ≡ alternatives_step at (us ∷ cs)
      alternative_next told = sym (alternatives_step_law told)

      pub alternative_refused : {why : Refusal} → Err why ≡ alternative_step us at → Err why ≡ alternatives_step at (us ∷ cs)
      alternative_refused told = sym (alternatives_step_law told)

    pub alternatives_done : (at : ℕ) → Ok at ≡ alternatives_step at []
    unfolding alternatives
    alternatives_done at = refl
