-- The kinds of expression: what the definition's reader gives at each place where the code answers, one law for each answer. The code's own
-- values stand beside the definition's, with the equations that the code's calls ensure.
-- Rests on Tables, Views and Passing.
use Prim.Native.Nat.{ℕ, ◌-◌, ◌≤◌, ◌<◌}
use mathlib.Core.Path.{◌≡◌, sym, ◌∙◌, ap}
use mathlib.Core.Bool.{true}
use mathlib.Core.List.{List, [], ◌∷◌, ◌++◌, map}
use Rattle.std.specs.Prelude.{Result, Ok, Err, Option, Some, None}
use lib.ListN.{length, get_or, length-map, length-take}
use lib.Seq.{get_or-take}
use lib.Dec.{ltb}
use native.Mathlib.Omega.{arith}
use borrow.Author.Tests.{lt-ltb, le-ltb, lt-leb, eq-eqb, ne_eqb}
use Rattle.reach.specs.declared.Refusal.{Refusal}
use Rattle.reach.specs.declared.Refusal.TheVariants.{UnknownNumber, UnknownCode, TypeMismatch}
use Rattle.reach.specs.Syntax.{call, construct, case, let_in, target}
use Rattle.reach.specs.Reader.{got, refused, ◌>>=◌, give, byte}
use Rattle.reach.specs.RuleFile as RuleFile
use Rattle.reach.specs.RuleFile.{Below, operands_of, alternatives, variable_expr, call_of, call_expr, construct_of, construct_expr, case_of, case_expr, let_expr, target_expr, expression_by}
use Rattle.reach.specs.Places.{bytes_at, type_at, head_at, declarations_at}
use Rattle.typerecord.specs.Passed.{passed_of}
use Rattle.typerecord.proofs.Answers.{step_mapped}
use Rattle.expressions.specs.declared.View.{View}
use Rattle.expressions.specs.declared.Scope.{Scope}
use Rattle.lookups.specs.declared.FieldTypes.{FieldTypes}
use Rattle.lookups.specs.declared.Head.{Head}
use Rattle.lookups.specs.Fields.{field_types, fields_in}
use Rattle.lookups.specs.Heads.{head_of}
use Rattle.expressions.specs.Readers.{view_of, Inside, declared, expression_at, variable_at, call_at, construct_at, case_at, let_at, target_at}
use Rattle.lookups.proofs.Tables.{found, missing, parameters_are}
use Rattle.expressions.proofs.Views.{limits_over, limits_why, limits_kept, limits_deeper, limits_nested}
use Rattle.expressions.proofs.Passing.{both_next, first_refused, below_is, expression_is}

-- A variable: its byte b is the variable's number, n to the code.
module _ (scope : Scope) (s : List ℕ) (at : ℕ) where
  abbrev variable_step : Result ℕ Refusal
  variable_step = passed_of (variable_at scope.left (view_of scope.view) scope.expected s at)

  pub variable_short : {why : Refusal} → byte s at ≡ refused why → Err why ≡ variable_step
  unfolding variable_expr
  variable_short read = rw read

  module _ {b next n : ℕ} (read : byte s at ≡ got b next) (same : n ≡ b) where
    pub variable_unknown : scope.view.count ≤ n → Err UnknownNumber ≡ variable_step
    unfolding variable_expr
    variable_unknown h =
        rw (read, le-ltb b (length (view_of scope.view)) (omega (arith, length-take scope.view.count scope.view.types)))

    module _ (known : n < scope.view.count) where
      seen : {r : Result Scope Refusal} → Inside scope r → ltb b (length (view_of scope.view)) ≡ true
      seen l = lt-ltb b (length (view_of scope.view)) (omega (arith, l.held))

      pub variable_over : {why : Refusal} → Inside scope (Err why) → Err why ≡ variable_step
      unfolding variable_expr
      variable_over l = rw (read, seen l, limits_over l, limits_why l)

      module _ {inside : Scope} (l : Inside scope (Ok inside)) {t : ℕ} (u : t ≡ get_or inside.view.types n 0) where
        variable_type : t ≡ get_or (view_of scope.view) b 0
        variable_type = rw (get_or-take scope.view.count scope.view.types b 0 (omega arith), ← same) (rw (limits_deeper l) at u)

        pub variable_mismatch : (t ≡ scope.expected → ⊥) → Err TypeMismatch ≡ variable_step
        unfolding variable_expr
        variable_mismatch e = rw (read, seen l, limits_kept l, ne_eqb _ _ (λ x. e (variable_type ∙ x)))

        pub variable_ends : t ≡ scope.expected → Ok next ≡ variable_step
        unfolding variable_expr
        variable_ends e = rw (read, seen l, limits_kept l, eq-eqb _ _ (sym variable_type ∙ e))

-- The kinds with operands.
module _ (file types functions : List ℕ) (scope : Scope) (s : List ℕ) (at : ℕ) where
  -- the reader of an operand, and the step of each kind from this place
  abbrev inner : Below
  inner = expression_at file types functions (scope.left - 1)

  abbrev call_step : Result ℕ Refusal
  call_step = passed_of (call_at file types functions scope.left (view_of scope.view) scope.expected s at)

  abbrev construct_step : Result ℕ Refusal
  construct_step = passed_of (construct_at file types functions scope.left (view_of scope.view) scope.expected s at)

  abbrev case_step : Result ℕ Refusal
  case_step = passed_of (case_at file types functions scope.left (view_of scope.view) scope.expected s at)

  abbrev let_step : Result ℕ Refusal
  let_step = passed_of (let_at file types functions scope.left (view_of scope.view) scope.expected s at)

  abbrev target_step : Result ℕ Refusal
  target_step = passed_of (target_at file types functions scope.left (view_of scope.view) scope.expected s at)

  -- A call: its byte b is the function's number, f to the code.
  pub call_short : {why : Refusal} → byte s at ≡ refused why → Err why ≡ call_step
  unfolding call_expr
  call_short read = rw read

  module _ {b next f : ℕ} (read : byte s at ≡ got b next) (same : f ≡ b) where
    pub call_unknown : length functions ≤ f → Err UnknownNumber ≡ call_step
    unfolding call_expr call_of declarations_at
    call_unknown h = rw (read, missing (head_at file) functions b (omega arith))

    module _ (known : f < length functions) where
      pub call_over : {why : Refusal} → Inside scope (Err why) → Err why ≡ call_step
      unfolding call_expr call_of declarations_at
      call_over l = rw (read, found (head_at file) functions 0 b (omega arith), limits_over l, limits_why l)

      module _ {inside : Scope} (l : Inside scope (Ok inside)) (h : Head) (is : head_of file h ≡ head_at file (get_or functions f 0)) where
        called : head_of file h ≡ head_at file (get_or functions b 0)
        called = rw (← same) is

        call_result : h.result ≡ (head_at file (get_or functions b 0)).result
        call_result = ap (λ (g : RuleFile.Head). g.result) called

        call_parameters : bytes_at file h.parameters.at h.parameters.count ≡ (head_at file (get_or functions b 0)).parameters
        call_parameters = parameters_are file h called

        pub call_mismatch : (h.result ≡ scope.expected → ⊥) → Err TypeMismatch ≡ call_step
        unfolding call_expr call_of declarations_at
        call_mismatch e =
            rw (read, found (head_at file) functions 0 b (omega arith), limits_kept l, ne_eqb _ _ (λ x. e (call_result ∙ x)))

        pub call_goes : h.result ≡ scope.expected
            → {end : Result ℕ Refusal} → end ≡ passed_of (operands_of (expression_at file types functions inside.left) (view_of inside.view) (bytes_at file h.parameters.at h.parameters.count) s next) → end ≡ call_step
        unfolding call_expr call_of declarations_at
        call_goes e ends =
            (rw (limits_deeper l) at ends)
            ∙ rw (read, found (head_at file) functions 0 b (omega arith), limits_kept l, eq-eqb _ _ (sym call_result ∙ e))
            (rw (below_is _ scope.left (limits_nested l), call_parameters)
            (sym (step_mapped (call b) (operands_of inner (view_of scope.view) (head_at file (get_or functions b 0)).parameters s next))))

  -- A construction: its bytes b and c are the type's and the constructor's number, t and d to the code.
  pub construct_short : {why : Refusal} → byte s at ≡ refused why → Err why ≡ construct_step
  unfolding construct_expr
  construct_short read = rw read

  module _ {b middle : ℕ} (read : byte s at ≡ got b middle) where
    pub construct_short_2 : {why : Refusal} → byte s middle ≡ refused why → Err why ≡ construct_step
    unfolding construct_expr
    construct_short_2 again = rw (read, again)

    module _ {c next t d : ℕ} (again : byte s middle ≡ got c next) (same : t ≡ b) (same-2 : d ≡ c)
        (fields : Option FieldTypes) (told : field_types file fields ≡ fields_in file types t d) where
      fields_are : fields_in file types b c ≡ field_types file fields
      fields_are = cc

      pub construct_unknown : fields ≡ None → Err UnknownNumber ≡ construct_step
      unfolding construct_expr construct_of declarations_at
      construct_unknown e = rw (read, again, fields_are, e)

      module _ {looked : FieldTypes} (e : fields ≡ Some looked) where
        pub construct_over : {why : Refusal} → Inside scope (Err why) → Err why ≡ construct_step
        unfolding construct_expr construct_of declarations_at
        construct_over l = rw (read, again, fields_are, e, limits_over l, limits_why l)

        module _ {inside : Scope} (l : Inside scope (Ok inside)) where
          pub construct_mismatch : (t ≡ scope.expected → ⊥) → Err TypeMismatch ≡ construct_step
          unfolding construct_expr construct_of declarations_at
          construct_mismatch x =
              rw (read, again, fields_are, e, limits_kept l, ne_eqb b scope.expected (λ y. x (same ∙ y)))

          pub construct_goes : t ≡ scope.expected
              → {end : Result ℕ Refusal} → end ≡ passed_of (operands_of (expression_at file types functions inside.left) (view_of inside.view) (bytes_at file looked.at looked.count) s next) → end ≡ construct_step
          unfolding construct_expr construct_of declarations_at
          construct_goes x ends =
              (rw (limits_deeper l) at ends)
              ∙ rw (read, again, fields_are, e, limits_kept l, eq-eqb b scope.expected (sym same ∙ x))
              (rw (below_is _ scope.left (limits_nested l))
              (sym (step_mapped (construct b c) (operands_of inner (view_of scope.view) (bytes_at file looked.at looked.count) s next))))

  -- A case: its byte b is the type's number, t to the code, whose step is that of the subject.
  pub case_short : {why : Refusal} → byte s at ≡ refused why → Err why ≡ case_step
  unfolding case_expr
  case_short read = rw read

  module _ {b next t : ℕ} (read : byte s at ≡ got b next) (same : t ≡ b) where
    pub case_unknown : length types ≤ t → Err UnknownNumber ≡ case_step
    unfolding case_expr case_of declarations_at
    case_unknown h = rw (read, missing (type_at file) types b (omega arith))

    module _ (known : t < length types) where
      pub case_over : {why : Refusal} → Inside scope (Err why) → Err why ≡ case_step
      unfolding case_expr case_of declarations_at
      case_over l = rw (read, found (type_at file) types 0 b (omega arith), limits_over l, limits_why l)

      module _ {inside : Scope} (l : Inside scope (Ok inside)) where
        subject : {step : Result ℕ Refusal} → step ≡ passed_of (expression_at file types functions inside.left (view_of inside.view) t s next) → step ≡ passed_of (inner (view_of scope.view) b s next)
        subject told = rw (limits_deeper l, same) at told

        pub case_refused : {why : Refusal} → Err why ≡ passed_of (expression_at file types functions inside.left (view_of inside.view) t s next) → Err why ≡ case_step
        unfolding case_expr case_of declarations_at
        case_refused told =
            rw (read, found (type_at file) types 0 b (omega arith), limits_kept l, below_is _ scope.left (limits_nested l))
            (sym
            (first_refused (inner (view_of scope.view) b)
            (λ x. alternatives inner (view_of scope.view) scope.expected (type_at file (get_or types b 0)) >>= λ y. give (case b x y))
            s next (sym (subject told))))

        pub case_goes : {first : ℕ} → Ok first ≡ passed_of (expression_at file types functions inside.left (view_of inside.view) t s next)
            → {end : Result ℕ Refusal} → end ≡ passed_of (alternatives (expression_at file types functions inside.left) (view_of inside.view) inside.expected (type_at file (get_or types t 0)) s first) → end ≡ case_step
        unfolding case_expr case_of declarations_at
        case_goes told ends =
            (rw (limits_deeper l) at ends)
            ∙ rw (read, found (type_at file) types 0 b (omega arith), limits_kept l, below_is _ scope.left (limits_nested l), same)
            (sym
            (both_next (inner (view_of scope.view) b) (alternatives inner (view_of scope.view) scope.expected (type_at file (get_or types b 0))) (case b)
            s next (sym (subject told))))

  -- A let: its byte b is the type's number, t to the code, whose step is that of the bound expression.
  pub let_short : {why : Refusal} → byte s at ≡ refused why → Err why ≡ let_step
  unfolding let_expr
  let_short read = rw read

  module _ {b next t : ℕ} (read : byte s at ≡ got b next) (same : t ≡ b) where
    many : length (map (type_at file) types) ≡ length types
    many = length-map types (type_at file)

    pub let_unknown : length types ≤ t → Err UnknownNumber ≡ let_step
    unfolding let_expr declarations_at
    let_unknown h = rw (read, many, le-ltb b (length types) (omega arith))

    module _ (known : t < length types) where
      pub let_over : {why : Refusal} → Inside scope (Err why) → Err why ≡ let_step
      unfolding let_expr declarations_at
      let_over l = rw (read, many, lt-ltb b (length types) (omega arith), limits_over l, limits_why l)

      module _ {inside : Scope} (l : Inside scope (Ok inside)) where
        bound : {step : Result ℕ Refusal} → step ≡ passed_of (expression_at file types functions inside.left (view_of inside.view) t s next) → step ≡ passed_of (inner (view_of scope.view) b s next)
        bound told = rw (limits_deeper l, same) at told

        pub let_refused : {why : Refusal} → Err why ≡ passed_of (expression_at file types functions inside.left (view_of inside.view) t s next) → Err why ≡ let_step
        unfolding let_expr declarations_at
        let_refused told =
            rw (read, many, lt-ltb b (length types) (omega arith), limits_kept l, below_is _ scope.left (limits_nested l))
            (sym
            (first_refused (inner (view_of scope.view) b)
            (λ x. inner (view_of scope.view ++ (b ∷ [])) scope.expected >>= λ y. give (let_in b x y))
            s next (sym (bound told))))

        pub let_goes : {behind : ℕ} → Ok behind ≡ passed_of (expression_at file types functions inside.left (view_of inside.view) t s next) → (wider : View) → view_of wider ≡ view_of inside.view ++ (t ∷ [])
            → {end : Result ℕ Refusal} → end ≡ passed_of (expression_at file types functions inside.left (view_of wider) inside.expected s behind) → end ≡ let_step
        unfolding let_expr declarations_at
        let_goes told wider w ends =
            (rw (limits_deeper l) at ends)
            ∙ rw (read, many, lt-ltb b (length types) (omega arith), limits_kept l, below_is _ scope.left (limits_nested l), rw (limits_deeper l) at w, same)
            (sym (both_next (inner (view_of scope.view) b) (inner (view_of scope.view ++ (b ∷ [])) scope.expected) (let_in b) s next (sym (bound told))))

  -- A target: its byte is the label.
  pub target_short : {why : Refusal} → byte s at ≡ refused why → Err why ≡ target_step
  unfolding target_expr
  target_short read = rw read

  module _ {b next : ℕ} (read : byte s at ≡ got b next) where
    pub target_over : {why : Refusal} → Inside scope (Err why) → Err why ≡ target_step
    unfolding target_expr
    target_over l = rw (read, limits_over l, limits_why l)

    pub target_goes : {inside : Scope} → Inside scope (Ok inside)
        → {end : Result ℕ Refusal} → end ≡ passed_of (expression_at file types functions inside.left (view_of inside.view) inside.expected s next) → end ≡ target_step
    unfolding target_expr
    target_goes l ends =
        (rw (limits_deeper l) at ends)
        ∙ rw (read, limits_kept l, below_is _ scope.left (limits_nested l))
        (sym (step_mapped (target b) (inner (view_of scope.view) scope.expected s next)))

-- An expression: its code b, and what the kind of that code reads behind it.
module _ (file types functions : List ℕ) (left : ℕ) (view : List ℕ) (expected : ℕ) (s : List ℕ) (at : ℕ) where
  abbrev expression_step : Result ℕ Refusal
  expression_step = passed_of (expression_at file types functions left view expected s at)

  pub expression_short : {why : Refusal} → byte s at ≡ refused why → Err why ≡ expression_step
  unfolding expression_by
  expression_short read = rw (expression_is (declared file types functions) left, read)

  module _ {b next : ℕ} (read : byte s at ≡ got b next) where
    pub expression_variable : b ≡ 0
        → {end : Result ℕ Refusal} → end ≡ passed_of (variable_at left view expected s next) → end ≡ expression_step
    unfolding expression_by variable_expr
    expression_variable e ends = ends ∙ rw (expression_is (declared file types functions) left, read, e)

    pub expression_call : b ≡ 1
        → {end : Result ℕ Refusal} → end ≡ passed_of (call_at file types functions left view expected s next) → end ≡ expression_step
    unfolding expression_by
    expression_call e ends = ends ∙ rw (expression_is (declared file types functions) left, read, e)

    pub expression_construct : b ≡ 2
        → {end : Result ℕ Refusal} → end ≡ passed_of (construct_at file types functions left view expected s next) → end ≡ expression_step
    unfolding expression_by
    expression_construct e ends = ends ∙ rw (expression_is (declared file types functions) left, read, e)

    pub expression_case : b ≡ 3
        → {end : Result ℕ Refusal} → end ≡ passed_of (case_at file types functions left view expected s next) → end ≡ expression_step
    unfolding expression_by
    expression_case e ends = ends ∙ rw (expression_is (declared file types functions) left, read, e)

    pub expression_let : b ≡ 4
        → {end : Result ℕ Refusal} → end ≡ passed_of (let_at file types functions left view expected s next) → end ≡ expression_step
    unfolding expression_by
    expression_let e ends = ends ∙ rw (expression_is (declared file types functions) left, read, e)

    pub expression_target : b ≡ 5
        → {end : Result ℕ Refusal} → end ≡ passed_of (target_at file types functions left view expected s next) → end ≡ expression_step
    unfolding expression_by
    expression_target e ends = ends ∙ rw (expression_is (declared file types functions) left, read, e)

    pub expression_unknown : 5 < b → Err UnknownCode ≡ expression_step
    unfolding expression_by
    expression_unknown h = rw (expression_is (declared file types functions) left, read, lt-leb b 5 h)
