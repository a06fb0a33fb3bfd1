-- An expression is its bytes: what was read at a place is exactly the encoding that stands there, its operands follow in order, and an
-- encoding determines its expression. Each body of an accepted file stands at the place that its head tells, and the place behind an
-- expression is found by passing over it.
-- Rests on reach's Encoding and RuleFile, and on IfFound of reach's Limits.
use Prim.Native.Nat.{ℕ, zero, suc, pred, ◌+◌, ◌≤◌, ◌<◌, zero-le}
use mathlib.Core.Path.{◌≡◌, refl, ap, subst}
use mathlib.Core.Bool.{Bool, true, false, ◌&&◌}
use mathlib.Core.List.{List, [], ◌∷◌, ◌++◌, append_assoc, append-nil}
use mathlib.Core.Option.{Option, none, some}
use native.Mathlib.Omega.{arith}
use lib.ListN.{length, get_or, get_elem?, drop, take, length-append, length-drop, take-append-drop, drop_of_length-le}
use lib.Seq.{drop-cons, drop-drop, drop-append_seam, drop-append-le, length-take-le}
use lib.Dec.{ltb, leb, eqb}
use borrow.Author.Tests.{ltb-true, leb-true, eqb-true, eqb-false, ltb-false, lt-ltb}
use Rattle.reach.specs.declared.Refusal.{Refusal}
use Rattle.reach.specs.declared.Refusal.TheVariants.{Truncated, OutOfRange, TrailingBytes}
use Rattle.reach.specs.Base.{pick, Each}
use Rattle.reach.specs.Limits.{file_limit, type_limit, function_limit, parameter_limit, body_limit, view_limit, nesting_limit}
use Rattle.reach.specs.Syntax.{Expr, variable, call, construct, case, let_in, target, Exprs, []ₑ, ◌∷ₑ◌, Alternatives, no_more, absent, present, count, Function, Program, field_types, function_at}
use Rattle.reach.specs.Reader.{Got, got, refused, on_got, Reader, demand, byte, word, times, passed, at_end}
use Rattle.reach.specs.RuleFile.{Mark, TY, in_turn, mark, counted, type_record, Head, function_record, goal_record, more_types, more_functions, naming, Declarations, Outline, outline, Below, operands_of, alternatives, variable_expr, call_of, call_expr, construct_of, construct_expr, case_of, case_expr, let_expr, target_expr, expression_by, expression, body_of, functions_of, numbers_exist, program_of, no_empty_type, deep_enough, well_spelled, size_in_limit, rule_file}
use Rattle.reach.specs.Types.{least_depths}
use Rattle.reach.specs.Answers.{accepted, turned_back, check}
use Rattle.reach.specs.Encoding.{encode, encode_all, encode_alternatives, ByteAt, BytesAt, Stands, StandsAll, StandsAlternatives, count_alternatives, Arity, ArityAll, ArityAlternatives, nesting, nesting_all, nesting_alternatives, Skip, skipped_all, skipped_alternatives, skipped_call, skipped_construct, skipped_case, skipped_by, skipped}
use Rattle.reach.proofs.Base.{clash}
use Rattle.reach.proofs.InTurn.{in_turn_law}
use Rattle.reach.proofs.Limits.{IfFound, if_found_then}
use Rattle.reach.proofs.Reading.{Reads, reads_none, reads_then, byte_finds}
use Rattle.reach.proofs.Heads.{any_then}

-- Bytes that stand at a place.

first_byte : (s : List ℕ) (i b : ℕ) (bs : List ℕ) → BytesAt s i (b ∷ bs) → ByteAt s i b × BytesAt s (i + 1) bs
first_byte s i b bs there =
    let more : i < length s = omega (arith, ap length there.1, length-drop i s) in
    let first = drop-cons s i 0 more in
    let z : i + 1 ≡ suc i = omega arith in
    ((more, cc there.1), (there.0, cc there.1))

first_two : (s : List ℕ) (i a b : ℕ) (bs : List ℕ) → BytesAt s i (a ∷ b ∷ bs) → ByteAt s i a × ByteAt s (i + 1) b × BytesAt s (i + 2) bs
first_two s i a b bs there =
    let first = first_byte s i a (b ∷ bs) there in
    let second = first_byte s (i + 1) b bs first.1 in
    let z : i + 2 ≡ i + 1 + 1 = omega arith in
    (first.0, second.0, rw z second.1)

-- the first bytes, and behind them the others
split : (s : List ℕ) (i : ℕ) (cs bs : List ℕ) → BytesAt s i (cs ++ bs) → BytesAt s i cs × BytesAt s (i + length cs) bs
split s i cs bs there =
    let rest = there.0 in
    let all : drop i s ≡ cs ++ (bs ++ rest) = cc (there.1, append_assoc cs bs rest) in
    ((bs ++ rest, all), (rest, cc (all, drop-drop (length cs) i s, drop-append_seam cs (bs ++ rest))))

-- bytes that stand in s end in s
inside : (s : List ℕ) (i : ℕ) (bs : List ℕ) → 0 < length bs → BytesAt s i bs → i + length bs ≤ length s
inside s i bs filled there = omega (arith, ap length there.1, length-drop i s, length-append bs there.0)

-- an expression has at least its code
coded : (e : Expr) → 0 < length (encode e)
unfolding encode
coded (variable n) = omega arith
coded (call f es) = omega arith
coded (construct t c es) = omega arith
coded (case t e alts) = omega arith
coded (let_in t e b) = omega arith
coded (target l e) = omega arith

-- where an expression stands, it ends inside the bytes
pub places : (s : List ℕ) (i : ℕ) (e : Expr) → Stands s i e → i + length (encode e) ≤ length s
places s i e there = inside s i (encode e) (coded e) there

-- Where the parts of an expression stand that stands at i.

module _ (s : List ℕ) (i : ℕ) where
  pub stands_variable : (n : ℕ) → Stands s i (variable n) → ByteAt s i 0 × ByteAt s (i + 1) n
  unfolding encode
  stands_variable n there = let at = first_two s i 0 n [] there in (at.0, at.1)

  pub stands_call : (f : ℕ) (es : Exprs) → Stands s i (call f es) → ByteAt s i 1 × ByteAt s (i + 1) f × StandsAll s (i + 2) es
  unfolding encode
  stands_call f es there = first_two s i 1 f (encode_all es) there

  pub stands_construct :
      (t c : ℕ) (es : Exprs) → Stands s i (construct t c es)
      → ByteAt s i 2 × ByteAt s (i + 1) t × ByteAt s (i + 2) c × StandsAll s (i + 3) es
  unfolding encode
  stands_construct t c es there =
      let at = first_two s i 2 t (c ∷ encode_all es) there in
      let behind = first_byte s (i + 2) c (encode_all es) at.2 in
      let z : i + 3 ≡ i + 2 + 1 = omega arith in
      (at.0, at.1, behind.0, rw z behind.1)

  pub stands_case :
      (t : ℕ) (e : Expr) (alts : Alternatives) → Stands s i (case t e alts)
      → ByteAt s i 3 × ByteAt s (i + 1) t × Stands s (i + 2) e × StandsAlternatives s (i + 2 + length (encode e)) alts
  unfolding encode
  stands_case t e alts there =
      let at = first_two s i 3 t (encode e ++ encode_alternatives alts) there in
      let parts = split s (i + 2) (encode e) (encode_alternatives alts) at.2 in
      (at.0, at.1, parts.0, parts.1)

  pub stands_let :
      (t : ℕ) (e b : Expr) → Stands s i (let_in t e b)
      → ByteAt s i 4 × ByteAt s (i + 1) t × Stands s (i + 2) e × Stands s (i + 2 + length (encode e)) b
  unfolding encode
  stands_let t e b there =
      let at = first_two s i 4 t (encode e ++ encode b) there in
      let parts = split s (i + 2) (encode e) (encode b) at.2 in
      (at.0, at.1, parts.0, parts.1)

  pub stands_target : (l : ℕ) (e : Expr) → Stands s i (target l e) → ByteAt s i 5 × ByteAt s (i + 1) l × Stands s (i + 2) e
  unfolding encode
  stands_target l e there = first_two s i 5 l (encode e) there

  pub stands_next : (e : Expr) (es : Exprs) → StandsAll s i (e ∷ₑ es) → Stands s i e × StandsAll s (i + length (encode e)) es
  unfolding encode
  stands_next e es there = split s i (encode e) (encode_all es) there

  pub stands_absent : (alts : Alternatives) → StandsAlternatives s i (absent alts) → ByteAt s i 0 × StandsAlternatives s (i + 1) alts
  unfolding encode
  stands_absent alts there = first_byte s i 0 (encode_alternatives alts) there

  pub stands_present :
      (e : Expr) (alts : Alternatives) → StandsAlternatives s i (present e alts)
      → ByteAt s i 1 × Stands s (i + 1) e × StandsAlternatives s (i + 1 + length (encode e)) alts
  unfolding encode
  stands_present e alts there =
      let at = first_byte s i 1 (encode e ++ encode_alternatives alts) there in
      let parts = split s (i + 1) (encode e) (encode_alternatives alts) at.1 in
      (at.0, parts.0, parts.1)

-- What a reader finds, stands there.

reads_as : {s : List ℕ} {i k b c : ℕ} → Reads s i (b ∷ []) k → b ≡ c → Reads s i (c ∷ []) k
reads_as {s} {i} {k} first is = subst (λ (b : ℕ). Reads s i (b ∷ []) k) is first

-- what is found after a test that was demanded
demand_then :
    {B : Type 0} (Q : B → ℕ → Type 0) (f : ℕ → Got B) (test : Bool) (why : Refusal) (i : ℕ) → (test ≡ true → IfFound Q (f i))
    → IfFound Q (on_got (λ (u : Unit {0}) next. f next) (λ why. refused why) (pick test (got tt i) (refused why)))
demand_then Q f true why i passed = passed refl
demand_then Q f false why i passed = tt

-- what is found after a choice
pick_finds :
    {A : Type 0} (P : A → ℕ → Type 0) (test : Bool) (a b : Reader A) (s : List ℕ) (i : ℕ)
    → (test ≡ true → IfFound P (a s i)) → (test ≡ false → IfFound P (b s i)) → IfFound P (pick test a b s i)
pick_finds P true a b s i passed failed = passed refl
pick_finds P false a b s i passed failed = failed refl

module _ (d : Declarations) (n : ℕ) (s : List ℕ) where
  -- an expression with these declarations that stands from i up to next and nests at most n deep; and so for operands and alternatives
  abbrev Found : ℕ → Expr → ℕ → Type 0
  Found i e next = Reads s i (encode e) next × Arity d e × (nesting e ≤ n)

  abbrev FoundAll : ℕ → ℕ → Exprs → ℕ → Type 0
  FoundAll k i es next = Reads s i (encode_all es) next × ArityAll d es × (nesting_all es ≤ n) × (count es ≡ k)

  abbrev FoundAlternatives : ℕ → ℕ → Alternatives → ℕ → Type 0
  FoundAlternatives k i alts next =
      Reads s i (encode_alternatives alts) next × ArityAlternatives d alts × (nesting_alternatives alts ≤ n) × (count_alternatives alts ≡ k)

  -- whatever the reader finds is such an expression
  abbrev FindsExprs : Below → Type 0
  FindsExprs sub = (view : List ℕ) (t i : ℕ) → IfFound (Found i) (sub view t s i)

module _ (d : Declarations) (n : ℕ) (s : List ℕ) (sub : Below) (below : FindsExprs d n s sub) (view : List ℕ) where
  operands_find : (ts : List ℕ) (i : ℕ) → IfFound (FoundAll d n s (length ts) i) (operands_of sub view ts s i)
  unfolding operands_of encode nesting count
  operands_find [] i = (reads_none, tt, zero-le, refl)
  operands_find (t ∷ ts) i =
      if_found_then _ _ _ (sub view t s i) (below view t i)
      (λ e k first. if_found_then _ _ _ (operands_of sub view ts s k) (operands_find ts k)
      (λ es l others. (reads_then _ _ first.0 others.0, (first.1, others.1), omega arith, ap suc others.3)))

  alternatives_find : (t : ℕ) (cs : List (List ℕ)) (i : ℕ) → IfFound (FoundAlternatives d n s (length cs) i) (alternatives sub view t cs s i)
  unfolding alternatives encode nesting count_alternatives
  alternatives_find t [] i = (reads_none, tt, zero-le, refl)
  alternatives_find t (us ∷ cs) i =
      if_found_then _ _ _ (byte s i) (byte_finds s i)
      (λ b k first. demand_then _ _ (leb b 1) _ k
      (λ small. pick_finds _ (eqb b 0) _ _ s k
      (λ is. if_found_then _ _ _ (alternatives sub view t cs s k) (alternatives_find t cs k)
      (λ alts l others. (reads_then _ _ (reads_as first (eqb-true b 0 is)) others.0, others.1, others.2, ap suc others.3)))
      (λ not. if_found_then _ _ _ (sub (view ++ us) t s k) (below (view ++ us) t k)
      (λ e l second. if_found_then _ _ _ (alternatives sub view t cs s l) (alternatives_find t cs l)
      (λ alts j others. (
        reads_then _ _ (reads_as first (omega (arith, eqb-false b 0 not, leb-true b 1 small))) (reads_then _ _ second.0 others.0),
        (second.1, others.1),
        omega arith,
        ap suc others.3,
      ))))))

both_true : (a b : Bool) → (a && b) ≡ true → a ≡ true
both_true true b e = refl
both_true false b e = e

-- Each kind of expression behind its code: its numbers exist, and its operands stand behind them. It is nested only where its operands are
-- one less deep.
module _
    (d : Declarations) (nested : Bool) (n m : ℕ) (deeper : nested ≡ true → n < m) (s : List ℕ) (sub : Below) (below : FindsExprs d n s sub) (view : List ℕ) (t i : ℕ)
  where
    -- what is found where the expression's own nesting and view are within their limits
    limits_then :
        (f : ℕ → Got Expr) (why : Refusal) (l : ℕ) → (n < m → IfFound (Found d m s i) (f l))
        → IfFound (Found d m s i) (on_got (λ (u : Unit {0}) next. f next) (λ why. refused why) (pick (nested && leb (length view) view_limit) (got tt l) (refused why)))
    limits_then f why l then = demand_then _ f (nested && leb (length view) view_limit) why l (λ b. then (deeper (both_true nested _ b)))

    variable_finds : (k : ℕ) → Reads s i (0 ∷ []) k → IfFound (Found d m s i) (variable_expr d nested sub view t s k)
    unfolding variable_expr encode nesting
    variable_finds k code =
        if_found_then _ _ _ (byte s k) (byte_finds s k)
        (λ v l number. demand_then _ _ (ltb v (length view)) _ l
        (λ known. limits_then _ _ l
        (λ room. demand_then _ _ (eqb (get_or view v 0) t) _ l
        (λ typed. (reads_then _ _ code number, tt, omega arith)))))

    call_finds : (k : ℕ) → Reads s i (1 ∷ []) k → IfFound (Found d m s i) (call_expr d nested sub view t s k)
    unfolding call_expr call_of encode nesting
    call_finds k code = if_found_then _ _ _ (byte s k) (byte_finds s k) (λ f l number. go f l number (get_elem? d.heads f) refl)
      where
        go : (f l : ℕ) → Reads s k (f ∷ []) l → (x : Option Head) → get_elem? d.heads f ≡ x → IfFound (Found d m s i) (call_of d nested sub view t f x s l)
        go f l number none is = tt
        go f l number (some h) is =
            limits_then _ _ l
            (λ room. demand_then _ _ (eqb h.result t) _ l
            (λ typed. if_found_then _ _ _ (operands_of sub view h.parameters s l) (operands_find d n s sub below view h.parameters l)
            (λ es j others. (reads_then _ _ code (reads_then _ _ number others.0), (h, is, others.3, others.1), omega arith))))

    construct_finds : (k : ℕ) → Reads s i (2 ∷ []) k → IfFound (Found d m s i) (construct_expr d nested sub view t s k)
    unfolding construct_expr construct_of encode nesting
    construct_finds k code =
        if_found_then _ _ _ (byte s k) (byte_finds s k)
        (λ u l type. if_found_then _ _ _ (byte s l) (byte_finds s l)
        (λ c j number. go u c j (reads_then _ _ type number) (field_types d.types u c) refl))
      where
        go : (u c j : ℕ) → Reads s k (u ∷ c ∷ []) j → (x : Option (List ℕ)) → field_types d.types u c ≡ x → IfFound (Found d m s i) (construct_of d nested sub view t u c x s j)
        go u c j numbers none is = tt
        go u c j numbers (some us) is =
            limits_then _ _ j
            (λ room. demand_then _ _ (eqb u t) _ j
            (λ typed. if_found_then _ _ _ (operands_of sub view us s j) (operands_find d n s sub below view us j)
            (λ es h others. (reads_then _ _ code (reads_then _ _ numbers others.0), (us, is, others.3, others.1), omega arith))))

    case_finds : (k : ℕ) → Reads s i (3 ∷ []) k → IfFound (Found d m s i) (case_expr d nested sub view t s k)
    unfolding case_expr case_of encode nesting
    case_finds k code = if_found_then _ _ _ (byte s k) (byte_finds s k) (λ u l number. go u l number (get_elem? d.types u) refl)
      where
        go : (u l : ℕ) → Reads s k (u ∷ []) l → (x : Option (List (List ℕ))) → get_elem? d.types u ≡ x → IfFound (Found d m s i) (case_of d nested sub view t u x s l)
        go u l number none is = tt
        go u l number (some cs) is =
            limits_then _ _ l
            (λ room. if_found_then _ _ _ (sub view u s l) (below view u l)
            (λ e j first. if_found_then _ _ _ (alternatives sub view t cs s j) (alternatives_find d n s sub below view t cs j)
            (λ alts h others. (
              reads_then _ _ code (reads_then _ _ number (reads_then _ _ first.0 others.0)),
              (cs, is, others.3, first.1, others.1),
              omega arith,
            ))))

    let_finds : (k : ℕ) → Reads s i (4 ∷ []) k → IfFound (Found d m s i) (let_expr d nested sub view t s k)
    unfolding let_expr encode nesting
    let_finds k code =
        if_found_then _ _ _ (byte s k) (byte_finds s k)
        (λ u l number. demand_then _ _ (ltb u (length d.types)) _ l
        (λ known. limits_then _ _ l
        (λ room. if_found_then _ _ _ (sub view u s l) (below view u l)
        (λ e j first. if_found_then _ _ _ (sub (view ++ (u ∷ [])) t s j) (below (view ++ (u ∷ [])) t j)
        (λ b h second. (
          reads_then _ _ code (reads_then _ _ number (reads_then _ _ first.0 second.0)),
          (ltb-true u (length d.types) known, first.1, second.1),
          omega arith,
        ))))))

    target_finds : (k : ℕ) → Reads s i (5 ∷ []) k → IfFound (Found d m s i) (target_expr d nested sub view t s k)
    unfolding target_expr encode nesting
    target_finds k code =
        if_found_then _ _ _ (byte s k) (byte_finds s k)
        (λ l j number. limits_then _ _ j
        (λ room. if_found_then _ _ _ (sub view t s j) (below view t j)
        (λ e h inner. (reads_then _ _ code (reads_then _ _ number inner.0), inner.1, omega arith))))

    expression_by_finds : IfFound (Found d m s i) (expression_by d nested sub view t s i)
    unfolding expression_by
    expression_by_finds =
        if_found_then _ _ _ (byte s i) (byte_finds s i)
        (λ code k first. demand_then _ _ (leb code 5) _ k
        (λ small. pick_finds _ (eqb code 0) _ _ s k (λ is. variable_finds k (reads_as first (eqb-true code 0 is)))
        (λ not0. pick_finds _ (eqb code 1) _ _ s k (λ is. call_finds k (reads_as first (eqb-true code 1 is)))
        (λ not1. pick_finds _ (eqb code 2) _ _ s k (λ is. construct_finds k (reads_as first (eqb-true code 2 is)))
        (λ not2. pick_finds _ (eqb code 3) _ _ s k (λ is. case_finds k (reads_as first (eqb-true code 3 is)))
        (λ not3. pick_finds _ (eqb code 4) _ _ s k (λ is. let_finds k (reads_as first (eqb-true code 4 is)))
        (λ not4. target_finds k (reads_as first
        (omega (arith, leb-true code 5 small, eqb-false code 0 not0, eqb-false code 1 not1, eqb-false code 2 not2, eqb-false code 3 not3, eqb-false code 4 not4))))))))))

-- whatever is read as an expression stands there, with its arities, and nests no deeper than was allowed
expression_finds : (d : Declarations) (n : ℕ) (s : List ℕ) → FindsExprs d n s (expression d n)
unfolding expression
expression_finds d zero s view t i = expression_by_finds d false 0 0 (λ e. absurd (clash (cc))) s _ (λ view t i. tt) view t i
expression_finds d (suc n) s view t i = expression_by_finds d true n (suc n) (λ e. omega arith) s (expression d n) (expression_finds d n s) view t i

module _ (d : Declarations) (n : ℕ) (view : List ℕ) (t : ℕ) (s : List ℕ) (i : ℕ) (e : Expr) (next : ℕ) (was_read : expression d n view t s i ≡ got e next) where
  expression_found : Found d n s i e next
  expression_found = subst (IfFound (Found d n s i)) was_read (expression_finds d n s view t i)

  -- what was read at a place is the encoding that stands there, and the place behind it is the end of those bytes
  pub expression_bytes : (drop i s ≡ encode e ++ drop next s) × (next ≡ i + length (encode e)) × (next ≤ length s)
  expression_bytes =
      let reads = expression_found.0 in
      (reads.stand, reads.behind, omega (arith, reads.behind, places s i e (drop next s, reads.stand)))

  -- its numbers exist and it has the operands that they ask for
  pub expression_arity : Arity d e
  expression_arity = expression_found.1

  -- it nests no deeper than was allowed
  pub expression_nesting : nesting e ≤ n
  expression_nesting = expression_found.2

-- The bodies of a file.

-- what is found at each mark that may come
turn_finds : {A : Type 0} (P : A → ℕ → Type 0) (s : List ℕ) (i : ℕ) (turns : List (Mark × Reader A)) (m : Mark)
    → Each (λ turn. IfFound P (turn.1 s i)) turns → IfFound P (in_turn turns m s i)
turn_finds P s i turns m all = in_turn_law (λ r. IfFound P (r s i)) turns tt all m

module _ (s : List ℕ) where
  -- the body that a head tells of is inside the file
  abbrev pub BodyInside : Head → Type 0
  BodyInside h = h.body + h.size ≤ length s

  passed_inside : (n i : ℕ) → IfFound (λ b next. b + n ≤ length s) (passed n s i)
  unfolding passed
  passed_inside n i = go (leb (i + n) (length s)) refl
    where
      go : (t : Bool) → leb (i + n) (length s) ≡ t → IfFound (λ b next. b + n ≤ length s) (pick t (got i (i + n)) (refused Truncated))
      go true t = leb-true (i + n) (length s) t
      go false t = tt

  head_inside : (i : ℕ) → IfFound (λ h next. BodyInside h) (function_record s i)
  unfolding function_record
  head_inside i =
      any_then _ _ (counted 0 parameter_limit s i)
      (λ n j. any_then _ _ (times n byte s j)
      (λ ps k. any_then _ _ (byte s k)
      (λ r l. any_then _ _ (word s l)
      (λ z p. any_then _ _ (demand (leb 1 z && leb z body_limit) OutOfRange s p)
      (λ u q. if_found_then _ _ _ (passed z s q) (passed_inside z q) (λ b next h. h))))))

  heads_inside : (n i : ℕ) → IfFound (λ hs next. Each BodyInside hs) (more_functions n s i)
  unfolding more_functions
  heads_inside zero i = any_then _ _ (mark s i) (λ m k. turn_finds _ s k _ m (tt, (tt, (tt, tt))))
  heads_inside (suc n) i =
      any_then _ _ (mark s i)
      (λ m k. turn_finds _ s k _ m (
        if_found_then _ _ _ (function_record s k) (head_inside k)
            (λ h l first. if_found_then _ _ _ (more_functions n s l) (heads_inside n l) (λ hs next others. (first, others))),
        (tt, (tt, tt)),
      ))

  pub outline_inside : (i : ℕ) → IfFound (λ o next. Each BodyInside o.declared.heads) (outline s i)
  unfolding outline
  outline_inside i =
      any_then _ _ (mark s i)
      (λ m j. any_then _ _ (in_turn ((TY, type_record) ∷ []) m s j)
      (λ t k. any_then _ _ (more_types (pred type_limit) s k)
      (λ ts l. if_found_then _ _ _ (function_record s l) (head_inside l)
      (λ h p first. if_found_then _ _ _ (more_functions (pred function_limit) s p) (heads_inside (pred function_limit) p)
      (λ hs q others. any_then _ _ (naming s q)
      (λ n p'. any_then _ _ (goal_record s p')
      (λ g r. any_then _ _ (at_end TrailingBytes s r)
      (λ u next. (first, others)))))))))

-- A body stands in the file at the place and with the length that its head tells, with the arities that the declarations ask for.
pub record BodyAt (d : Declarations) (file : List ℕ) (h : Head) (g : Function) : Type 0 where
  pub stands : drop h.body file ≡ encode g.body ++ drop (h.body + h.size) file
  pub size : length (encode g.body) ≡ h.size
  pub arity : Arity d g.body
  pub nests : nesting g.body ≤ nesting_limit
  pub parameters : g.parameters ≡ h.parameters
  pub result : g.result ≡ h.result

abbrev function_of : Head → Expr → Function
function_of h e = record { parameters = h.parameters; result = h.result; body = e }

end_finds : (s : List ℕ) (why : Refusal) (i : ℕ) → IfFound (λ u next. length s ≤ i) (at_end why s i)
unfolding at_end
end_finds s why i = go (ltb i (length s)) refl
  where
    go : (t : Bool) → ltb i (length s) ≡ t → IfFound (λ u next. length s ≤ i) (pick t (refused why) (got (tt {0}) i))
    go true t = tt
    go false t = ltb-false i (length s) t

module _ (d : Declarations) (s : List ℕ) where
  -- what fills the bytes up to the body's end stands so in the file
  body_at :
      (h : Head) (e : Expr) (k : ℕ) → BodyInside s h → Found d nesting_limit (take (h.body + h.size) s) h.body e k
      → length (take (h.body + h.size) s) ≤ k → BodyAt d s h (function_of h e)
  body_at h e k fits found over =
      let cut = take (h.body + h.size) s in
      let rest = drop (h.body + h.size) s in
      let long : length cut ≡ h.body + h.size = length-take-le (h.body + h.size) s fits in
      let ends = places cut h.body e (drop k cut, found.0.stand) in
      record {
        stands = cc (take-append-drop (h.body + h.size) s, drop-append-le h.body cut rest (omega arith), found.0.stand, drop_of_length-le cut over, append-nil (encode e));
        size = omega (arith, found.0.behind);
        arity = found.1;
        nests = found.2;
        parameters = refl;
        result = refl;
      }

  body_finds : (h : Head) → BodyInside s h → IfFound (λ e next. BodyAt d s h (function_of h e)) (body_of d h s)
  unfolding body_of
  body_finds h fits =
      let cut = take (h.body + h.size) s in
      if_found_then _ _ _ (expression d nesting_limit h.parameters h.result cut h.body) (expression_finds d nesting_limit cut h.parameters h.result h.body)
      (λ e k found. if_found_then _ _ _ (at_end TrailingBytes cut k) (end_finds cut TrailingBytes k) (λ u next over. body_at h e k fits found over))

  -- each function of the one list has the body that the head of the same number in the other list tells of
  abbrev pub Bodies : List Head → List Function → Type 0
  Bodies [] [] = Unit {0}
  Bodies [] (g ∷ gs) = ⊥
  Bodies (h ∷ hs) [] = ⊥
  Bodies (h ∷ hs) (g ∷ gs) = BodyAt d s h g × Bodies hs gs

  bodies_find : (hs : List Head) (i : ℕ) → Each (BodyInside s) hs → IfFound (λ fs next. Bodies hs fs) (functions_of d hs s i)
  unfolding functions_of
  bodies_find [] i fit = tt
  bodies_find (h ∷ hs) i fit =
      if_found_then _ _ _ (body_of d h s) (body_finds h fit.0)
      (λ e k first. if_found_then _ _ _ (functions_of d hs s k) (bodies_find hs k fit.1) (λ fs next others. (first, others)))

  pub function_at_head : (hs : List Head) (gs : List Function) → Bodies hs gs → (f : ℕ) (h : Head) → get_elem? hs f ≡ some h → (g : Function) × (get_elem? gs f ≡ some g) × BodyAt d s h g
  function_at_head [] gs all f h is = absurd (clash (cc))
  function_at_head (k ∷ hs) [] all f h is = absurd all
  function_at_head (k ∷ hs) (g ∷ gs) all zero h is = let z : k ≡ h = cc in (g, refl, subst (λ x. BodyAt d s x g) z all.0)
  function_at_head (k ∷ hs) (g ∷ gs) all (suc f) h is = function_at_head hs gs all.1 f h is

  pub head_of : (hs : List Head) (gs : List Function) → Bodies hs gs → (f : ℕ) (g : Function) → get_elem? gs f ≡ some g → (h : Head) × (get_elem? hs f ≡ some h) × BodyAt d s h g
  head_of hs [] all f g is = absurd (clash (cc))
  head_of [] (k ∷ gs) all f g is = absurd all
  head_of (h ∷ hs) (k ∷ gs) all zero g is = let z : k ≡ g = cc in (h, refl, subst (λ x. BodyAt d s h x) z all.0)
  head_of (h ∷ hs) (k ∷ gs) all (suc f) g is = head_of hs gs all.1 f g is

-- what is found, was found
found_is : {A : Type 0} (g : Got A) → IfFound (λ a next. g ≡ got a next) g
found_is (got a next) = refl
found_is (refused why) = tt

-- the functions that were read have the bodies that the outline's heads tell of
pub bodies_are :
    (file : List ℕ) (o : Outline) (n : ℕ) → outline file 0 ≡ got o n
    → (i : ℕ) (fs : List Function) (next : ℕ) → functions_of o.declared o.declared.heads file i ≡ got fs next
    → Bodies o.declared file o.declared.heads fs
bodies_are file o n is i fs next are =
    let fit : Each (BodyInside file) o.declared.heads = subst (IfFound (λ o next. Each (BodyInside file) o.declared.heads)) is (outline_inside file 0) in
    subst (IfFound (λ fs next. Bodies o.declared file o.declared.heads fs)) are (bodies_find o.declared file o.declared.heads i fit)

-- each body stands in the file at the place that its head tells
pub body_bytes :
    (file : List ℕ) (o : Outline) (n : ℕ) → outline file 0 ≡ got o n
    → (i : ℕ) (fs : List Function) (next : ℕ) → functions_of o.declared o.declared.heads file i ≡ got fs next
    → (f : ℕ) (h : Head) (g : Function) → get_elem? o.declared.heads f ≡ some h → get_elem? fs f ≡ some g → BodyAt o.declared file h g
body_bytes file o n is i fs next are f h g of-head of_function =
    let found = function_at_head o.declared file o.declared.heads fs (bodies_are file o n is i fs next are) f h of-head in
    let same : found.0 ≡ g = cc (found.1, of_function) in
    subst (BodyAt o.declared file h) same found.2

-- What the program of an accepted file has from the file's outline: the types, and for each head the function whose body stands there.
pub record Outlined (file : List ℕ) (p : Program) (o : Outline) : Type 0 where
  pub found : (n : ℕ) × (outline file 0 ≡ got o n)
  pub types : p.types ≡ o.declared.types
  pub function_at_head : (f : ℕ) (h : Head) → get_elem? o.declared.heads f ≡ some h → (g : Function) × (function_at p f ≡ some g) × BodyAt o.declared file h g
  pub head_of : (f : ℕ) (g : Function) → function_at p f ≡ some g → (h : Head) × (get_elem? o.declared.heads f ≡ some h) × BodyAt o.declared file h g

file_finds : (file : List ℕ) → IfFound (λ p next. (o : Outline) × Outlined file p o) (rule_file file 0)
unfolding rule_file size_in_limit program_of function_at
file_finds file =
    demand_then _ _ (leb (length file) file_limit) _ 0
    (λ small. if_found_then _ _ _ (outline file 0) (found_is (outline file 0))
    (λ o n is. demand_then _ _ (numbers_exist o) _ n
    (λ exist. if_found_then _ _ _ (functions_of o.declared o.declared.heads file n) (found_is (functions_of o.declared o.declared.heads file n))
    (λ fs k are. demand_then _ _ (no_empty_type (least_depths o.declared.types)) _ k
    (λ filled. demand_then _ _ (deep_enough (program_of o fs)) _ k
    (λ deep. demand_then _ _ (well_spelled o) _ k
    (λ spelled. let all = bodies_are file o n is n fs k are in (
      o,
      record {
        found = (n, is);
        types = refl;
        function_at_head = function_at_head o.declared file o.declared.heads fs all;
        head_of = head_of o.declared file o.declared.heads fs all;
      },
    ))))))))

-- an accepted file has an outline, and its program is from there
pub accepted_outlined : (file : List ℕ) (p : Program) → check file ≡ accepted p → (o : Outline) × Outlined file p o
unfolding check
accepted_outlined file p is = go (rule_file file 0) (file_finds file) is
  where
    go : (g : Got Program) → IfFound (λ p next. (o : Outline) × Outlined file p o) g → on_got (λ p next. accepted p) turned_back g ≡ accepted p → (o : Outline) × Outlined file p o
    go (got q next) found is = let z : q ≡ p = cc in subst (λ p. (o : Outline) × Outlined file p o) z found
    go (refused why) found is = absurd (clash (cc))

-- With the arities fixed, an encoding determines its expression.

regroup : (x y r x' y' r' : List ℕ) → x ++ y ++ r ≡ x' ++ y' ++ r' → x ++ (y ++ r) ≡ x' ++ (y' ++ r')
regroup x y r x' y' r' is = cc (append_assoc x y r, append_assoc x' y' r')

module _ (d : Declarations) where
  mutual
    unfolding encode count count_alternatives

    -- bytes that begin with an encoding determine the expression and the rest: other kinds of expression begin with another code
    unique : (e e' : Expr) (r r' : List ℕ) → Arity d e → Arity d e' → encode e ++ r ≡ encode e' ++ r' → (e ≡ e') × (r ≡ r')
    unique (variable n) (variable n') r r' a a' is = (cc, cc)
    unique (variable n) (call f' es') r r' a a' is = (cc, cc)
    unique (variable n) (construct t' c' es') r r' a a' is = (cc, cc)
    unique (variable n) (case t' e' alts') r r' a a' is = (cc, cc)
    unique (variable n) (let_in t' e' b') r r' a a' is = (cc, cc)
    unique (variable n) (target l' e') r r' a a' is = (cc, cc)
    unique (call f es) (variable n') r r' a a' is = (cc, cc)
    unique (call f es) (call f' es') r r' a a' is =
        let rest = unique_all es es' r r' a.3 a'.3 (cc (a.1, a.2, a'.1, a'.2)) (cc) in
        (cc rest.0, rest.1)
    unique (call f es) (construct t' c' es') r r' a a' is = (cc, cc)
    unique (call f es) (case t' e' alts') r r' a a' is = (cc, cc)
    unique (call f es) (let_in t' e' b') r r' a a' is = (cc, cc)
    unique (call f es) (target l' e') r r' a a' is = (cc, cc)
    unique (construct t c es) (variable n') r r' a a' is = (cc, cc)
    unique (construct t c es) (call f' es') r r' a a' is = (cc, cc)
    unique (construct t c es) (construct t' c' es') r r' a a' is =
        let rest = unique_all es es' r r' a.3 a'.3 (cc (a.1, a.2, a'.1, a'.2)) (cc) in
        (cc rest.0, rest.1)
    unique (construct t c es) (case t' e' alts') r r' a a' is = (cc, cc)
    unique (construct t c es) (let_in t' e' b') r r' a a' is = (cc, cc)
    unique (construct t c es) (target l' e') r r' a a' is = (cc, cc)
    unique (case t e alts) (variable n') r r' a a' is = (cc, cc)
    unique (case t e alts) (call f' es') r r' a a' is = (cc, cc)
    unique (case t e alts) (construct t' c' es') r r' a a' is = (cc, cc)
    unique (case t e alts) (case t' e' alts') r r' a a' is =
        let first = unique e e' _ _ a.3 a'.3 (regroup (encode e) (encode_alternatives alts) r (encode e') (encode_alternatives alts') r' (cc)) in
        let rest = unique_alternatives alts alts' r r' a.4 a'.4 (cc (a.1, a.2, a'.1, a'.2)) first.1 in
        (cc (first.0, rest.0), rest.1)
    unique (case t e alts) (let_in t' e' b') r r' a a' is = (cc, cc)
    unique (case t e alts) (target l' e') r r' a a' is = (cc, cc)
    unique (let_in t e b) (variable n') r r' a a' is = (cc, cc)
    unique (let_in t e b) (call f' es') r r' a a' is = (cc, cc)
    unique (let_in t e b) (construct t' c' es') r r' a a' is = (cc, cc)
    unique (let_in t e b) (case t' e' alts') r r' a a' is = (cc, cc)
    unique (let_in t e b) (let_in t' e' b') r r' a a' is =
        let first = unique e e' _ _ a.1 a'.1 (regroup (encode e) (encode b) r (encode e') (encode b') r' (cc)) in
        let rest = unique b b' r r' a.2 a'.2 first.1 in
        (cc (first.0, rest.0), rest.1)
    unique (let_in t e b) (target l' e') r r' a a' is = (cc, cc)
    unique (target l e) (variable n') r r' a a' is = (cc, cc)
    unique (target l e) (call f' es') r r' a a' is = (cc, cc)
    unique (target l e) (construct t' c' es') r r' a a' is = (cc, cc)
    unique (target l e) (case t' e' alts') r r' a a' is = (cc, cc)
    unique (target l e) (let_in t' e' b') r r' a a' is = (cc, cc)
    unique (target l e) (target l' e') r r' a a' is =
        let inner = unique e e' r r' a a' (cc) in
        (cc inner.0, inner.1)

    unique_all : (es es' : Exprs) (r r' : List ℕ) → ArityAll d es → ArityAll d es' → count es ≡ count es' → encode_all es ++ r ≡ encode_all es' ++ r' → (es ≡ es') × (r ≡ r')
    unique_all []ₑ []ₑ r r' a a' many is = (refl, is)
    unique_all []ₑ (e' ∷ₑ es') r r' a a' many is = absurd (clash (cc))
    unique_all (e ∷ₑ es) []ₑ r r' a a' many is = absurd (clash (cc))
    unique_all (e ∷ₑ es) (e' ∷ₑ es') r r' a a' many is =
        let first = unique e e' _ _ a.0 a'.0 (regroup (encode e) (encode_all es) r (encode e') (encode_all es') r' (cc)) in
        let rest = unique_all es es' r r' a.1 a'.1 (omega arith) first.1 in
        (cc (first.0, rest.0), rest.1)

    unique_alternatives : (alts alts' : Alternatives) (r r' : List ℕ) → ArityAlternatives d alts → ArityAlternatives d alts' → count_alternatives alts ≡ count_alternatives alts' → encode_alternatives alts ++ r ≡ encode_alternatives alts' ++ r' → (alts ≡ alts') × (r ≡ r')
    unique_alternatives no_more no_more r r' a a' many is = (refl, is)
    unique_alternatives no_more (absent alts') r r' a a' many is = absurd (clash (omega arith))
    unique_alternatives no_more (present e' alts') r r' a a' many is = absurd (clash (omega arith))
    unique_alternatives (absent alts) no_more r r' a a' many is = absurd (clash (omega arith))
    unique_alternatives (absent alts) (absent alts') r r' a a' many is =
        let rest = unique_alternatives alts alts' r r' a a' (omega arith) (cc) in
        (cc rest.0, rest.1)
    unique_alternatives (absent alts) (present e' alts') r r' a a' many is = (cc, cc)
    unique_alternatives (present e alts) no_more r r' a a' many is = absurd (clash (omega arith))
    unique_alternatives (present e alts) (absent alts') r r' a a' many is = (cc, cc)
    unique_alternatives (present e alts) (present e' alts') r r' a a' many is =
        let first = unique e e' _ _ a.0 a'.0 (regroup (encode e) (encode_alternatives alts) r (encode e') (encode_alternatives alts') r' (cc)) in
        let rest = unique_alternatives alts alts' r r' a.1 a'.1 (omega arith) first.1 in
        (cc (first.0, rest.0), rest.1)

-- what stands at a place is one expression
pub stands_unique : (d : Declarations) (s : List ℕ) (i : ℕ) (e e' : Expr) → Arity d e → Arity d e' → Stands s i e → Stands s i e' → e ≡ e'
stands_unique d s i e e' a a' there there' = (unique d e e' there.0 there'.0 a a' (cc (there.1, there'.1))).0

-- The place behind an expression.

byte_there : (s : List ℕ) (i b k : ℕ) → k ≡ suc i → ByteAt s i b → byte s i ≡ got b k
unfolding byte
byte_there s i b k is there = rw (lt-ltb i (length s) there.0, there.1, is)

module _ (d : Declarations) (s : List ℕ) where
  -- the reader passes over each expression that nests at most n deep
  abbrev Passes : ℕ → Skip → Type 0
  Passes n sub = (e : Expr) (i : ℕ) → Arity d e → Stands s i e → nesting e ≤ n → sub s i ≡ got tt (i + length (encode e))

  -- the readings of the code and of the number behind it
  code_there : (i b : ℕ) → ByteAt s i b → byte s i ≡ got b (i + 1)
  code_there i b there = byte_there s i b (i + 1) (omega arith) there

  number_there : (i b : ℕ) → ByteAt s (i + 1) b → byte s (i + 1) ≡ got b (i + 2)
  number_there i b there = byte_there s (i + 1) b (i + 2) (omega arith) there

  module _ (n : ℕ) (sub : Skip) (below : Passes n sub) where
    pass_all :
        (es : Exprs) (i : ℕ) → ArityAll d es → StandsAll s i es → nesting_all es ≤ n
        → skipped_all sub (count es) s i ≡ got tt (i + length (encode_all es))
    unfolding skipped_all count encode nesting
    pass_all []ₑ i a there nests = ap (got tt) (omega arith)
    pass_all (e ∷ₑ es) i a there nests =
        let parts = stands_next s i e es there in
        let first = below e i a.0 parts.0 (omega arith) in
        let others = pass_all es (i + length (encode e)) a.1 parts.1 (omega arith) in
        rw (first, others) (ap (got tt) (omega (arith, length-append (encode e) (encode_all es))))

    pass_alternatives :
        (alts : Alternatives) (i : ℕ) → ArityAlternatives d alts → StandsAlternatives s i alts → nesting_alternatives alts ≤ n
        → skipped_alternatives sub (count_alternatives alts) s i ≡ got tt (i + length (encode_alternatives alts))
    unfolding skipped_alternatives count_alternatives encode nesting
    pass_alternatives no_more i a there nests = ap (got tt) (omega arith)
    pass_alternatives (absent alts) i a there nests =
        let parts = stands_absent s i alts there in
        let others = pass_alternatives alts (i + 1) a parts.1 nests in
        rw (code_there i 0 parts.0, others) (ap (got tt) (omega arith))
    pass_alternatives (present e alts) i a there nests =
        let parts = stands_present s i e alts there in
        let first = below e (i + 1) a.0 parts.1 (omega arith) in
        let others = pass_alternatives alts (i + 1 + length (encode e)) a.1 parts.2 (omega arith) in
        rw (code_there i 1 parts.0, first, others) (ap (got tt) (omega (arith, length-append (encode e) (encode_alternatives alts))))

    pass_by : Passes (suc n) (skipped_by d sub)
    unfolding skipped_by skipped_call skipped_construct skipped_case encode nesting
    pass_by (variable v) i a there nests =
        let parts = stands_variable s i v there in
        rw (code_there i 0 parts.0, number_there i v parts.1)
    pass_by (call f es) i a there nests =
        let parts = stands_call s i f es there in
        let others = pass_all es (i + 2) a.3 parts.2 (omega arith) in
        rw (code_there i 1 parts.0, number_there i f parts.1, a.1, ← a.2, others) (ap (got tt) (omega arith))
    pass_by (construct t c es) i a there nests =
        let parts = stands_construct s i t c es there in
        let second = byte_there s (i + 2) c (i + 3) (omega arith) parts.2 in
        let others = pass_all es (i + 3) a.3 parts.3 (omega arith) in
        rw (code_there i 2 parts.0, number_there i t parts.1, second, a.1, ← a.2, others) (ap (got tt) (omega arith))
    pass_by (case t e alts) i a there nests =
        let parts = stands_case s i t e alts there in
        let first = below e (i + 2) a.3 parts.2 (omega arith) in
        let others = pass_alternatives alts (i + 2 + length (encode e)) a.4 parts.3 (omega arith) in
        rw (code_there i 3 parts.0, number_there i t parts.1, a.1, ← a.2, first, others)
        (ap (got tt) (omega (arith, length-append (encode e) (encode_alternatives alts))))
    pass_by (let_in t e b) i a there nests =
        let parts = stands_let s i t e b there in
        let first = below e (i + 2) a.1 parts.2 (omega arith) in
        let second = below b (i + 2 + length (encode e)) a.2 parts.3 (omega arith) in
        rw (code_there i 4 parts.0, number_there i t parts.1, first, second) (ap (got tt) (omega (arith, length-append (encode e) (encode b))))
    pass_by (target l e) i a there nests =
        let parts = stands_target s i l e there in
        let inner = below e (i + 2) a parts.2 (omega arith) in
        rw (code_there i 5 parts.0, number_there i l parts.1, inner) (ap (got tt) (omega arith))

-- an expression nests at least one deep
nested : (e : Expr) → 0 < nesting e
unfolding nesting
nested (variable n) = omega arith
nested (call f es) = omega arith
nested (construct t c es) = omega arith
nested (case t e alts) = omega arith
nested (let_in t e b) = omega arith
nested (target l e) = omega arith

-- where an expression stands that nests at most n deep, the place behind it is found
pub skipped_finds :
    (d : Declarations) (n : ℕ) (s : List ℕ) (i : ℕ) (e : Expr) → Arity d e → Stands s i e → nesting e ≤ n
    → skipped d n s i ≡ got tt (i + length (encode e))
unfolding skipped
skipped_finds d zero s i e a there nests = absurd (clash (omega (arith, nested e)))
skipped_finds d (suc n) s i e a there nests = pass_by d s n (skipped d n) (λ e i. skipped_finds d n s i e) e i a there nests

-- of a body of an accepted file it is the place where the body's length ends
pub body_skipped : (d : Declarations) (file : List ℕ) (h : Head) (g : Function) → BodyAt d file h g → skipped d nesting_limit file h.body ≡ got tt (h.body + h.size)
body_skipped d file h g at =
    rw (← at.size) (skipped_finds d nesting_limit file h.body g.body at.arity (drop (h.body + h.size) file, at.stands) at.nests)
