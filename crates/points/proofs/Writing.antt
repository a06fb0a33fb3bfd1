-- What the functions of this crate write: the six words of a choice point, and the two of a cell that is open again.
-- Rests on specs/Points.
use Prim.Native.Nat.{ℕ, ◌+◌, ◌*◌, ◌≤◌, ◌<◌}
use mathlib.Core.Path.{◌≡◌, ◌∙◌}
use mathlib.Core.List.{List}
use native.Mathlib.Omega.{arith}
use lib.ListN.{length, get_or, set, length-set}
use lib.Seq.{get_or-set_same, get_or-set_other}
use Rattle.machine.specs.Cells.{cell_word}
use Rattle.points.specs.Points.{choice_word, reopened, Pushes}

-- six words that were set from the place of choice point h on
pub pushed :
    (w : List ℕ) (stack h x frame records cells done : ℕ) {first a₀ a₁ a₂ a₃ a₄ a₅ : ℕ} → first ≡ cell_word w x 1 → a₀ ≡ x → a₁ ≡ first → a₂ ≡ frame → a₃ ≡ records
    → a₄ ≡ cells → a₅ ≡ done → stack + 6 * (h + 1) ≤ length w
    → Pushes stack w
    (set (set (set (set (set (set w (stack + 6 * h) a₀) (stack + 6 * h + 1) a₁) (stack + 6 * h + 2) a₂) (stack + 6 * h + 3) a₃) (stack + 6 * h + 4) a₄) (stack + 6 * h + 5) a₅)
    h x frame records cells done
pushed w stack h x frame records cells done {first} {a₀} {a₁} {a₂} {a₃} {a₄} {a₅} is-first is₀ is₁ is₂ is₃ is₄ is₅ room =
    record {
      same_length = simp length-set;
      word_0 = kept 5 0 w₄ a₅ (omega arith) ∙ kept 4 0 w₃ a₄ (omega arith) ∙ kept 3 0 w₂ a₃ (omega arith) ∙ kept 2 0 w₁ a₂ (omega arith) ∙ kept 1 0 w₀ a₁ (omega arith) ∙ same_0 ∙ is₀;
      word_1 = kept 5 1 w₄ a₅ (omega arith) ∙ kept 4 1 w₃ a₄ (omega arith) ∙ kept 3 1 w₂ a₃ (omega arith) ∙ kept 2 1 w₁ a₂ (omega arith) ∙ same 1 w₀ a₁ (simp length-set (omega arith)) ∙ is₁ ∙ is-first;
      word_2 = kept 5 2 w₄ a₅ (omega arith) ∙ kept 4 2 w₃ a₄ (omega arith) ∙ kept 3 2 w₂ a₃ (omega arith) ∙ same 2 w₁ a₂ (simp length-set (omega arith)) ∙ is₂;
      word_3 = kept 5 3 w₄ a₅ (omega arith) ∙ kept 4 3 w₃ a₄ (omega arith) ∙ same 3 w₂ a₃ (simp length-set (omega arith)) ∙ is₃;
      word_4 = kept 5 4 w₄ a₅ (omega arith) ∙ same 4 w₃ a₄ (simp length-set (omega arith)) ∙ is₄;
      word_5 = same 5 w₄ a₅ (simp length-set (omega arith)) ∙ is₅;
      elsewhere = λ j out.
          other 5 j w₄ a₅ (λ is. omega (arith, out (omega arith))) ∙ other 4 j w₃ a₄ (λ is. omega (arith, out (omega arith)))
          ∙ other 3 j w₂ a₃ (λ is. omega (arith, out (omega arith))) ∙ other 2 j w₁ a₂ (λ is. omega (arith, out (omega arith)))
          ∙ other 1 j w₀ a₁ (λ is. omega (arith, out (omega arith))) ∙ other_0 j (λ is. omega (arith, out (omega arith)));
    }
  where
    w₀ : List ℕ
    w₀ = set w (stack + 6 * h) a₀

    w₁ : List ℕ
    w₁ = set w₀ (stack + 6 * h + 1) a₁

    w₂ : List ℕ
    w₂ = set w₁ (stack + 6 * h + 2) a₂

    w₃ : List ℕ
    w₃ = set w₂ (stack + 6 * h + 3) a₃

    w₄ : List ℕ
    w₄ = set w₃ (stack + 6 * h + 4) a₄

    same : (k : ℕ) (v : List ℕ) (y : ℕ) → stack + 6 * h + k < length v → get_or (set v (stack + 6 * h + k) y) (stack + 6 * h + k) 0 ≡ y
    same k v y below = get_or-set_same v (stack + 6 * h + k) y 0 below

    other : (k j : ℕ) (v : List ℕ) (y : ℕ) → (j ≡ stack + 6 * h + k → ⊥) → get_or (set v (stack + 6 * h + k) y) j 0 ≡ get_or v j 0
    other k j v y apart = get_or-set_other v (stack + 6 * h + k) j y 0 apart

    kept : (k j : ℕ) (v : List ℕ) (y : ℕ) → j < k → get_or (set v (stack + 6 * h + k) y) (stack + 6 * h + j) 0 ≡ get_or v (stack + 6 * h + j) 0
    kept k j v y below = other k (stack + 6 * h + j) v y (omega arith)

    other_0 : (j : ℕ) → (j ≡ stack + 6 * h → ⊥) → get_or (set w (stack + 6 * h) a₀) j 0 ≡ get_or w j 0
    other_0 j apart = get_or-set_other w (stack + 6 * h) j a₀ 0 apart

    same_0 : get_or (set w (stack + 6 * h) a₀) (stack + 6 * h + 0) 0 ≡ a₀
    same_0 = let z : stack + 6 * h + 0 ≡ stack + 6 * h = omega arith in rw z (get_or-set_same w (stack + 6 * h) a₀ 0 (omega arith))

-- the cell of choice point h is opened again, and its word 1 is as it was
pub reopened_written :
    (w : List ℕ) (stack h : ℕ) {w₁ : List ℕ} {x first a : ℕ} → x ≡ choice_word stack w h 0 → first ≡ choice_word stack w h 1 → w₁ ≡ set w (5 * x) 0 → a ≡ first
    → set w₁ (5 * x + 1) a ≡ reopened stack w h
unfolding reopened
reopened_written w stack h is_x is-first opened is-a = rw (opened, is-a, is-first, is_x)
