-- The weight of choice points: it stays while their words do, a new one weighs less than the path that it comes from, and one that takes its next
-- constructor at least a path behind it less.
-- Rests on specs/Weights, Keeping, Pushing and Taking.
use Prim.Native.Nat.{ℕ, zero, suc, ◌+◌, ◌*◌, ◌-◌, ◌≤◌, ◌<◌}
use mathlib.Core.Path.{◌≡◌, refl, ◌∙◌}
use mathlib.Core.List.{List}
use mathlib.Core.Option.{some}
use native.Mathlib.Nat.{mul-le-mul_right}
use native.Mathlib.Omega.{arith}
use lib.ListN.{length}
use Rattle.reach.specs.Syntax.{field_types}
use Rattle.reach.specs.Parts.{Parts}
use Rattle.reach.specs.Eval.{State, Question, next, waits}
use Rattle.reach.specs.Moves.{Choice}
use Rattle.machine.specs.Cells.{cell_word, cell_of, Binds}
use Rattle.registers.specs.declared.Registers.{Registers}
use Rattle.points.specs.Points.{choice_word, reopened, Pushes}
use Rattle.choices.specs.Choices.{Setting, Given, Path, ChoiceAt, ChoicesAt, no_choice, one_choice}
use Rattle.choices.specs.Weights.{power, weight}
use Rattle.choices.proofs.Keeping.{Kept, word_kept, head_kept, kept_before}
use Rattle.choices.proofs.Pushing as Pushing
use Rattle.choices.proofs.Taking as Taking

pub power_positive : (n : ℕ) → 1 ≤ power n
unfolding power
power_positive zero = omega arith
power_positive (suc n) = omega (arith, power_positive n)

pub power_more : (n : ℕ) → power (suc n) ≡ 258 * power n
unfolding power
power_more n = refl

pub weight_more :
    (stack limit : ℕ) (w : List ℕ) (h : ℕ)
    → weight stack limit w (suc h)
    ≡ 1 + (256 - cell_word w (choice_word stack w h 0) 0) * power (limit - suc (choice_word stack w h 5)) + weight stack limit (reopened stack w h) h
unfolding weight
weight_more stack limit w h = refl

-- it stays while the words of the choice points do
pub weight_kept :
    {g : Setting} {w : List ℕ} (w' : List ℕ) {h cells records : ℕ} {cs : List Choice} → ChoicesAt g w h cells records cs → Kept g w w' cells records h
    → weight g.stack g.limit w' h ≡ weight g.stack g.limit w h
unfolding weight
weight_kept w' (no_choice open_there) kept = refl
weight_kept {g} w' (one_choice {h = h} at-h few_cells few_records rest) kept =
    let z₀ = word_kept w' at-h few_cells few_records kept 0 (omega arith) in
    let z₅ = word_kept w' at-h few_cells few_records kept 5 (omega arith) in
    let head = head_kept w' at-h few_cells few_records kept in
    let before = weight_kept (reopened g.stack w' h) rest (kept_before w' at-h few_cells few_records kept) in
    rw (z₀, z₅, head, before)

-- a choice point weighs something
pub weight_some : (stack limit : ℕ) (w : List ℕ) (h : ℕ) → 0 < h → 1 ≤ weight stack limit w h
weight_some stack limit w zero higher = absurd (omega arith)
weight_some stack limit w (suc h) higher = omega (arith, weight_more stack limit w h)

-- dropping a choice point does not add to it
pub weight_dropped : (stack limit : ℕ) (w : List ℕ) (h : ℕ) → weight stack limit (reopened stack w h) h ≤ weight stack limit w (suc h)
weight_dropped stack limit w h = omega (arith, weight_more stack limit w h)

-- a new choice point weighs less than the path that it comes from
pub weight_pushed :
    {g : Setting} (given : Given g) {w w' : List ℕ} {cells done h : ℕ} {r : Registers} {e : Parts} {s : State} {q : Question} {x : ℕ} {cs : List Choice}
    (path : Path g w cells done done r e s) → done < g.limit → h ≤ done → next g.program e s ≡ waits q → cell_of w q.place ≡ x
    → Pushes g.stack w w' h x r.frame r.records cells done → ChoicesAt g w h cells r.records cs
    → weight g.stack g.limit w' (suc h) < power (g.limit - done) + weight g.stack g.limit w h
weight_pushed {g} given {w} {w'} {done = done} {h = h} path in_time no_higher asks cell_is pushes choices =
    let left : g.limit - done ≡ suc (g.limit - suc done) = omega arith in
    let z₀ = pushes.word_0 in
    let z₅ = pushes.word_5 in
    let head = Pushing.head_new given path in_time no_higher asks cell_is pushes in
    let before = weight_kept (reopened g.stack w' h) choices (Pushing.kept given path in_time no_higher asks cell_is pushes) in
    let all : weight g.stack g.limit w' (suc h) ≡ 1 + 256 * power (g.limit - suc done) + weight g.stack g.limit w h =
    weight_more g.stack g.limit w' h ∙ rw (z₀, z₅, head, before) in
    rw left (omega (arith, all, power_more (g.limit - suc done), power_positive (g.limit - suc done)))

-- a choice point that takes its next constructor weighs at least a path behind it less
fewer : (a b p : ℕ) → suc a ≤ b → a * p + p ≤ b * p
fewer a b p l = let times = mul-le-mul_right p l in omega arith

pub weight_taken :
    {g : Setting} (given : Given g) {w : List ℕ} {h : ℕ} {c : Choice} {cs : List Choice} (at-h : ChoiceAt g w h c) {w' us : List ℕ} {n k : ℕ}
    → field_types g.program.types (cell_word w (choice_word g.stack w h 0) 2) n ≡ some us → k ≡ length us → k ≤ 6 → 1 ≤ cell_word w (choice_word g.stack w h 0) 3
    → Binds w w' (choice_word g.stack w h 0) n (choice_word g.stack w h 4) k us (cell_word w (choice_word g.stack w h 0) 3 - 1)
    → ChoicesAt g (reopened g.stack w h) h (choice_word g.stack w h 4) (choice_word g.stack w h 3) cs
    → cell_word w (choice_word g.stack w h 0) 0 ≤ n → n ≤ 255
    → weight g.stack g.limit w' (suc h) + power (g.limit - suc (choice_word g.stack w h 5)) ≤ weight g.stack g.limit w (suc h)
weight_taken {g} given {w} {h} at-h {w'} {n = n} known many few deep binds rest from small =
    let z₀ = Taking.word given at-h known many few deep binds 0 (omega arith) in
    let z₅ = Taking.word given at-h known many few deep binds 5 (omega arith) in
    let head = binds.new_head in
    let before = weight_kept (reopened g.stack w' h) rest (Taking.kept given at-h known many few deep binds) in
    let p = power (g.limit - suc (choice_word g.stack w h 5)) in
    let after : weight g.stack g.limit w' (suc h) ≡ 1 + (256 - suc n) * p + weight g.stack g.limit (reopened g.stack w h) h =
    weight_more g.stack g.limit w' h ∙ rw (z₀, z₅, head, before) in
    let less = fewer (256 - suc n) (256 - cell_word w (choice_word g.stack w h 0) 0) p (omega arith) in
    omega (arith, after, less, weight_more g.stack g.limit w h)
