-- Accepted files are well typed: in an accepted program every number names something, and every function's body has the result type, with
-- the parameters in view.
-- Rests on specs/Typing, on Reader, RuleFile and Answers, on Limits, and on Numbers for the second pass.
use Prim.Native.Nat.{ℕ, zero, suc, ◌+◌, ◌<◌, suc-le-suc, zero-le}
use mathlib.Core.Path.{◌≡◌, refl, sym, ◌∙◌, ap, subst}
use mathlib.Core.Bool.{Bool, true, false}
use mathlib.Core.List.{List, [], ◌∷◌, ◌++◌, map}
use mathlib.Core.Option.{Option, none, some}
use lib.ListN.{length, get_or, get_elem?, take, length-map}
use lib.Dec.{ltb, leb, eqb}
use borrow.Author.Tests.{ltb-true, eqb-true}
use native.Mathlib.Omega.{arith}
use native.Mathlib.Nat.{not-suc-le-zero, le_of_suc-le-suc}
use Rattle.reach.specs.Typing.{Signature, Exists, HasType, HaveTypes, Covers, signature_of, FunctionTyped, WellTyped}
use Rattle.reach.specs.declared.Refusal.{Refusal}
use Rattle.reach.specs.declared.Refusal.TheVariants.{OutOfRange, UnknownNumber, UnknownCode, TypeMismatch, TrailingBytes, EmptyType, BadSpelling}
use Rattle.reach.specs.Base.{pick, Each}
use Rattle.reach.specs.Limits.{nesting_limit}
use Rattle.reach.specs.Syntax.{Expr, Types, Function, Program, field_types, function_at}
use Rattle.reach.specs.Types.{least_depths}
use Rattle.reach.specs.Partial.{OpenApart}
use Rattle.reach.specs.Reader.{Got, got, refused, on_got, Reader, demand, byte, at_end}
use Rattle.reach.specs.RuleFile.{Head, Declarations, Outline, outline, numbers_exist, Below, operands_of, alternatives, in_limits, variable_expr, call_of, call_expr, construct_of, construct_expr, case_of, case_expr, let_expr, target_expr, expression_by, expression, body_of, functions_of, program_of, no_empty_type, deep_enough, well_spelled, size_in_limit, rule_file}
use Rattle.reach.specs.Answers.{accepted, turned_back, check}
use Rattle.reach.specs.Conditions.{of_field, of_parameter, of_result}
use Rattle.reach.proofs.Base.{clash, member_each}
use Rattle.reach.proofs.Limits.{IfFound, if_found_then, accepted_keeps}
use Rattle.reach.proofs.Numbers.{numbers_exist_exactly}

-- What stands at a number of a list.

pub at_below : {A : Type 0} (xs : List A) (n : ℕ) → n < length xs → (x : A) × (get_elem? xs n ≡ some x)
at_below [] n h = absurd (not-suc-le-zero h)
at_below (x ∷ xs) zero h = (x, refl)
at_below (x ∷ xs) (suc n) h = at_below xs n (le_of_suc-le-suc h)

pub at_get_d : {A : Type 0} (xs : List A) (n : ℕ) (d x : A) → get_elem? xs n ≡ some x → (n < length xs) × (get_or xs n d ≡ x)
at_get_d [] n d x h = absurd (clash (cc))
at_get_d (y ∷ xs) zero d x h = (suc-le-suc zero-le, cc)
at_get_d (y ∷ xs) (suc n) d x h = let k = at_get_d xs n d x h in (suc-le-suc k.0, k.1)

-- no constructor of an accepted file has the number that stands for an open part
pub open_apart : (file : List ℕ) (p : Program) → check file ≡ accepted p → OpenApart p.types
unfolding field_types
open_apart file p h t c us has = omega (arith, (at_get_d (get_or p.types t []) c [] us has).0, (accepted_keeps file p h).constructors_limit t)

at_map : {A B : Type 0} (f : A → B) (xs : List A) (n : ℕ) (x : A) → get_elem? xs n ≡ some x → get_elem? (map f xs) n ≡ some (f x)
at_map f [] n x h = absurd (clash (cc))
at_map f (y ∷ xs) zero x h = let z : y ≡ x = cc in rw z
at_map f (y ∷ xs) (suc n) x h = at_map f xs n x h

at_cons :
    {A : Type 0} (P : A → Type 0) (x : A) (xs : List A) → P x → ((n : ℕ) (y : A) → get_elem? xs n ≡ some y → P y)
    → (n : ℕ) (y : A) → get_elem? (x ∷ xs) n ≡ some y → P y
at_cons P x xs h hs zero y e = let z : x ≡ y = cc in subst P z h
at_cons P x xs h hs (suc n) y e = hs n y e

-- What holds of whatever is found: behind a reader of which nothing is asked, behind a test that was demanded, and by one of two readers.

after_any :
    {A B : Type 0} (Q : B → ℕ → Type 0) (f : A → ℕ → Got B) (g : Got A) → ((a : A) (next : ℕ) → IfFound Q (f a next))
    → IfFound Q (on_got f (λ why. refused why) g)
after_any Q f (got a next) later = later a next
after_any Q f (refused why) later = tt

after_test :
    {B : Type 0} (Q : B → ℕ → Type 0) (f : Unit {0} → ℕ → Got B) (test : Bool) (why : Refusal) (s : List ℕ) (i : ℕ)
    → (test ≡ true → IfFound Q (f tt i)) → IfFound Q (on_got f (λ why. refused why) (demand test why s i))
after_test Q f true why s i later = later refl
after_test Q f false why s i later = tt

either :
    {A : Type 0} (Q : A → ℕ → Type 0) (test : Bool) (m n : Reader A) (s : List ℕ) (i : ℕ) → IfFound Q (m s i) → IfFound Q (n s i)
    → IfFound Q (pick test m n s i)
either Q true m n s i x y = x
either Q false m n s i x y = y

-- The third pass. The functions are known by the signatures in their heads: their bodies are still being read.

abbrev head_signature : Head → Signature
head_signature h = record { parameters = h.parameters; result = h.result }

module _ (d : Declarations) where
  abbrev head_signatures : List Signature
  head_signatures = map head_signature d.heads

  -- whatever the reader of expressions finds has the type expected of it
  abbrev FindsTyped : Below → Type 0
  FindsTyped sub = (view : List ℕ) (t : ℕ) (s : List ℕ) (i : ℕ) → IfFound (λ e next. HasType d.types head_signatures e view t) (sub view t s i)

  module _ (sub : Below) (below : FindsTyped sub) where
    operands_typed : (view ts s : List ℕ) (i : ℕ) → IfFound (λ es next. HaveTypes d.types head_signatures es view ts) (operands_of sub view ts s i)
    unfolding operands_of
    operands_typed view [] s i = tt
    operands_typed view (t ∷ ts) s i =
        if_found_then _ _ _ (sub view t s i) (below view t s i)
        (λ e k h. if_found_then _ _ _ (operands_of sub view ts s k) (operands_typed view ts s k)
        (λ es l hs. (h, hs)))

    alternatives_typed :
        (view : List ℕ) (t : ℕ) (cs : List (List ℕ)) (s : List ℕ) (i : ℕ)
        → IfFound (λ alts next. Covers d.types head_signatures alts view cs t) (alternatives sub view t cs s i)
    unfolding alternatives
    alternatives_typed view t [] s i = tt
    alternatives_typed view t (us ∷ cs) s i =
        after_any _ _ (byte s i)
        (λ b k. after_test _ _ (leb b 1) UnknownCode s k
        (λ u. either _ (eqb b 0) _ _ s k
        (if_found_then _ _ _ (alternatives sub view t cs s k) (alternatives_typed view t cs s k) (λ alts l hs. hs))
        (if_found_then _ _ _ (sub (view ++ us) t s k) (below (view ++ us) t s k)
        (λ e l h. if_found_then _ _ _ (alternatives sub view t cs s l) (alternatives_typed view t cs s l) (λ alts m hs. (h, hs))))))

    -- each kind of expression, whatever the nesting
    module _ (nested : Bool) (view : List ℕ) (t : ℕ) where
      abbrev Expected : Expr → ℕ → Type 0
      Expected e next = HasType d.types head_signatures e view t

      variable_typed : (s : List ℕ) (i : ℕ) → IfFound Expected (variable_expr d nested sub view t s i)
      unfolding variable_expr
      variable_typed s i =
          after_any _ _ (byte s i)
          (λ n k. after_test _ _ (ltb n (length view)) UnknownNumber s k
          (λ there. after_any _ _ (in_limits nested view s k)
          (λ u l. after_test _ _ (eqb (get_or view n 0) t) TypeMismatch s l
          (λ same. typed n (at_below view n (ltb-true n (length view) there)) (eqb-true (get_or view n 0) t same)))))
        where
          typed : (n : ℕ) → (x : ℕ) × (get_elem? view n ≡ some x) → get_or view n 0 ≡ t → get_elem? view n ≡ some t
          typed n found same = let z = (at_get_d view n 0 found.0 found.1).1 in found.1 ∙ ap some (sym z ∙ same)

      call_typed : (s : List ℕ) (i : ℕ) → IfFound Expected (call_expr d nested sub view t s i)
      unfolding call_expr call_of
      call_typed s i = after_any _ _ (byte s i) (λ f k. by_head f (get_elem? d.heads f) refl k)
        where
          by_head : (f : ℕ) (h : Option Head) → get_elem? d.heads f ≡ h → (k : ℕ) → IfFound Expected (call_of d nested sub view t f h s k)
          by_head f none g k = tt
          by_head f (some h) g k =
              after_any _ _ (in_limits nested view s k)
              (λ u l. after_test _ _ (eqb h.result t) TypeMismatch s l
              (λ same. if_found_then _ _ _ (operands_of sub view h.parameters s l) (operands_typed view h.parameters s l)
              (λ es m hs. (head_signature h, at_map head_signature d.heads f h g, eqb-true h.result t same, hs))))

      construct_typed : (s : List ℕ) (i : ℕ) → IfFound Expected (construct_expr d nested sub view t s i)
      unfolding construct_expr construct_of
      construct_typed s i = after_any _ _ (byte s i) (λ u k. after_any _ _ (byte s k) (λ c l. by_fields u c (field_types d.types u c) refl l))
        where
          by_fields : (u c : ℕ) (us : Option (List ℕ)) → field_types d.types u c ≡ us → (k : ℕ) → IfFound Expected (construct_of d nested sub view t u c us s k)
          by_fields u c none g k = tt
          by_fields u c (some us) g k =
              after_any _ _ (in_limits nested view s k)
              (λ v l. after_test _ _ (eqb u t) TypeMismatch s l
              (λ same. if_found_then _ _ _ (operands_of sub view us s l) (operands_typed view us s l)
              (λ es m hs. (us, g, eqb-true u t same, hs))))

      case_typed : (s : List ℕ) (i : ℕ) → IfFound Expected (case_expr d nested sub view t s i)
      unfolding case_expr case_of
      case_typed s i = after_any _ _ (byte s i) (λ u k. by_type u (get_elem? d.types u) refl k)
        where
          by_type : (u : ℕ) (cs : Option (List (List ℕ))) → get_elem? d.types u ≡ cs → (k : ℕ) → IfFound Expected (case_of d nested sub view t u cs s k)
          by_type u none g k = tt
          by_type u (some cs) g k =
              let there = at_get_d d.types u [] cs g in
              after_any _ _ (in_limits nested view s k)
              (λ v l. if_found_then _ _ _ (sub view u s l) (below view u s l)
              (λ e m h. if_found_then _ _ _ (alternatives sub view t cs s m) (alternatives_typed view t cs s m)
              (λ alts n hs. (there.0, h, rw there.1 hs))))

      let_typed : (s : List ℕ) (i : ℕ) → IfFound Expected (let_expr d nested sub view t s i)
      unfolding let_expr
      let_typed s i =
          after_any _ _ (byte s i)
          (λ u k. after_test _ _ (ltb u (length d.types)) UnknownNumber s k
          (λ there. after_any _ _ (in_limits nested view s k)
          (λ v l. if_found_then _ _ _ (sub view u s l) (below view u s l)
          (λ e m h. if_found_then _ _ _ (sub (view ++ (u ∷ [])) t s m) (below (view ++ (u ∷ [])) t s m)
          (λ b n g. (ltb-true u (length d.types) there, h, g))))))

      target_typed : (s : List ℕ) (i : ℕ) → IfFound Expected (target_expr d nested sub view t s i)
      unfolding target_expr
      target_typed s i =
          after_any _ _ (byte s i)
          (λ l k. after_any _ _ (in_limits nested view s k)
          (λ u m. if_found_then _ _ _ (sub view t s m) (below view t s m) (λ e n h. h)))

      by_typed : (s : List ℕ) (i : ℕ) → IfFound Expected (expression_by d nested sub view t s i)
      unfolding expression_by
      by_typed s i =
          after_any _ _ (byte s i)
          (λ code k. after_test _ _ (leb code 5) UnknownCode s k
          (λ u. either _ (eqb code 0) _ _ s k (variable_typed s k)
          (either _ (eqb code 1) _ _ s k (call_typed s k)
          (either _ (eqb code 2) _ _ s k (construct_typed s k)
          (either _ (eqb code 3) _ _ s k (case_typed s k)
          (either _ (eqb code 4) _ _ s k (let_typed s k) (target_typed s k)))))))

  expression_typed : (n : ℕ) → FindsTyped (expression d n)
  unfolding expression
  expression_typed zero view t s i = by_typed (λ view t s here. refused OutOfRange) (λ view t s here. tt) false view t s i
  expression_typed (suc n) view t s i = by_typed (expression d n) (expression_typed n) true view t s i

-- The second pass.

-- the types that a head names exist
abbrev HeadExists : Types → Head → Type 0
HeadExists types h = Each (Exists types) h.parameters × Exists types h.result

-- the types that TY and the heads name exist, and the source exists
numbers_exist_law :
    (o : Outline) → numbers_exist o ≡ true
    → Each (Each (Each (Exists o.declared.types))) o.declared.types × Each (HeadExists o.declared.types) o.declared.heads
    × (o.goal.source < length o.declared.heads)
numbers_exist_law o h =
    let (exist, source) = (numbers_exist_exactly o).0 h in (
      member_each _ o.declared.types (λ cs m. member_each _ cs (λ us k. member_each _ us (λ t l. exist t (of_field cs us m k l)))),
      member_each _ o.declared.heads (λ f m. (member_each _ f.parameters (λ t l. exist t (of_parameter f m l)), exist f.result (of_result f m refl))),
      source,
    )

-- The whole file.

module _ (d : Declarations) where
  abbrev AllTyped : List Function → Type 0
  AllTyped fs = (f : ℕ) (g : Function) → get_elem? fs f ≡ some g → FunctionTyped d.types (head_signatures d) g

  body_typed : (h : Head) (s : List ℕ) → IfFound (λ e next. HasType d.types (head_signatures d) e h.parameters h.result) (body_of d h s)
  unfolding body_of
  body_typed h s =
      let inside = take (h.body + h.size) s in
      if_found_then _ _ _ (expression d nesting_limit h.parameters h.result inside h.body) (expression_typed d nesting_limit h.parameters h.result inside h.body)
      (λ e k typed. after_any _ _ (at_end TrailingBytes inside k) (λ u l. typed))

  -- the functions have the heads' signatures, and bodies of their types
  functions_read :
      (hs : List Head) → Each (HeadExists d.types) hs → (s : List ℕ) (i : ℕ)
      → IfFound (λ fs next. (map signature_of fs ≡ map head_signature hs) × AllTyped fs) (functions_of d hs s i)
  unfolding functions_of
  functions_read [] all s i = (refl, λ f g e. absurd (clash (cc)))
  functions_read (h ∷ hs) all s i =
      if_found_then _ _ _ (body_of d h s) (body_typed h s)
      (λ e k typed. if_found_then _ _ _ (functions_of d hs s k) (functions_read hs all.1 s k)
      (λ fs l rest. (ap (◌∷◌ (head_signature h)) rest.0, at_cons (FunctionTyped d.types (head_signatures d)) _ fs (all.0.0, all.0.1, typed) rest.1)))

program_typed :
    (o : Outline) (fs : List Function) → numbers_exist o ≡ true → map signature_of fs ≡ head_signatures o.declared → AllTyped o.declared fs
    → WellTyped (program_of o fs)
unfolding program_of function_at
program_typed o fs exist same all =
    let exists = numbers_exist_law o exist in
    record {
      fields_exist = exists.0;
      functions_typed = λ f g e. rw same (all f g e);
      source_exists = omega (arith, exists.2, length-map fs signature_of, length-map o.declared.heads head_signature, ap length same);
    }

file_typed : (s : List ℕ) (i : ℕ) → IfFound (λ p next. WellTyped p) (rule_file s i)
unfolding rule_file
file_typed s i =
    after_any _ _ (size_in_limit s i)
    (λ u k. after_any _ _ (outline s k)
    (λ o l. after_test _ _ (numbers_exist o) UnknownNumber s l
    (λ exist. if_found_then _ _ _ (functions_of o.declared o.declared.heads s l)
    (functions_read o.declared o.declared.heads (numbers_exist_law o exist).1 s l)
    (λ fs m read. after_any _ _ (demand (no_empty_type (least_depths o.declared.types)) EmptyType s m)
    (λ v h. after_any _ _ (demand (deep_enough (program_of o fs)) _ s h)
    (λ w j. after_any _ _ (demand (well_spelled o) BadSpelling s j)
    (λ x k. program_typed o fs exist read.0 read.1)))))))

accepting : (g : Got Program) (p : Program) → IfFound (λ q next. WellTyped q) g → on_got (λ p next. accepted p) turned_back g ≡ accepted p → WellTyped p
accepting (got q next) p typed e = let z : q ≡ p = cc in subst WellTyped z typed
accepting (refused why) p typed e = absurd (clash (cc))

-- an accepted file is well typed
pub accepted_typed : (file : List ℕ) (p : Program) → check file ≡ accepted p → WellTyped p
unfolding check
accepted_typed file p e = accepting (rule_file file 0) p (file_typed file 0) e
