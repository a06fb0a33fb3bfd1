-- The record at the top is written: the four words hold what was put there, and every other word is as before.
-- Rests on specs/Records and Records.
use Prim.Native.Nat.{ℕ, ◌+◌, ◌*◌, ◌≤◌, ◌<◌}
use mathlib.Core.Path.{◌≡◌, refl, ◌∙◌}
use mathlib.Core.List.{List}
use native.Mathlib.Omega.{arith}
use lib.ListN.{length, get_or, set, length-set}
use lib.Seq.{get_or-set_same, get_or-set_other}
use Rattle.machine.specs.Records.{OnlyTop, Wrote}
use Rattle.machine.proofs.Records.{Same}

-- four words that were set from the place of record `top` on
pub wrote :
    (w : List ℕ) (base top : ℕ) {a b c d a' b' c' d' : ℕ} → a' ≡ a → b' ≡ b → c' ≡ c → d' ≡ d → base + 4 * (top + 1) ≤ length w
    → Wrote w (set (set (set (set w (base + 4 * top) a') (base + 4 * top + 1) b') (base + 4 * top + 2) c') (base + 4 * top + 3) d') base top a b c d
wrote w base top {a' = a} {b' = b} {c' = c} {d' = d} is-a is_b is_c is-d room =
    record {
      only_top = record { same_length = simp length-set; elsewhere = λ j out. other 3 j w₂ d (λ is. omega (arith, out (omega arith))) ∙ (other 2 j w₁ c (λ is. omega (arith, out (omega arith))) ∙ (other 1 j w₀ b (λ is. omega (arith, out (omega arith))) ∙ other_0 j (λ is. omega (arith, out (omega arith))))) };
      holds = record {
        word_0 = other 3 (base + 4 * top + 0) w₂ d (omega arith) ∙ (other 2 (base + 4 * top + 0) w₁ c (omega arith) ∙ (other 1 (base + 4 * top + 0) w₀ b (omega arith) ∙ (same_0 ∙ is-a)));
        word_1 = other 3 (base + 4 * top + 1) w₂ d (omega arith) ∙ (other 2 (base + 4 * top + 1) w₁ c (omega arith) ∙ (same 1 w₀ b (simp length-set (omega arith)) ∙ is_b));
        word_2 = other 3 (base + 4 * top + 2) w₂ d (omega arith) ∙ (same 2 w₁ c (simp length-set (omega arith)) ∙ is_c);
        word_3 = same 3 w₂ d (simp length-set (omega arith)) ∙ is-d;
      };
    }
  where
    w₀ : List ℕ
    w₀ = set w (base + 4 * top) a

    w₁ : List ℕ
    w₁ = set w₀ (base + 4 * top + 1) b

    w₂ : List ℕ
    w₂ = set w₁ (base + 4 * top + 2) c

    same : (k : ℕ) (v : List ℕ) (x : ℕ) → base + 4 * top + k < length v → get_or (set v (base + 4 * top + k) x) (base + 4 * top + k) 0 ≡ x
    same k v x below = get_or-set_same v (base + 4 * top + k) x 0 below

    other : (k j : ℕ) (v : List ℕ) (x : ℕ) → (j ≡ base + 4 * top + k → ⊥) → get_or (set v (base + 4 * top + k) x) j 0 ≡ get_or v j 0
    other k j v x apart = get_or-set_other v (base + 4 * top + k) j x 0 apart

    other_0 : (j : ℕ) → (j ≡ base + 4 * top → ⊥) → get_or (set w (base + 4 * top) a) j 0 ≡ get_or w j 0
    other_0 j apart = get_or-set_other w (base + 4 * top) j a 0 apart

    same_0 : get_or (set w (base + 4 * top) a) (base + 4 * top + 0) 0 ≡ a
    same_0 = let z : base + 4 * top + 0 ≡ base + 4 * top = omega arith in rw z (get_or-set_same w (base + 4 * top) a 0 (omega arith))

-- nothing was written
pub nothing_written : (w : List ℕ) (base top : ℕ) → OnlyTop w w base top
nothing_written w base top = record { same_length = refl; elsewhere = λ i out. refl }

-- the records below the top are kept
pub records_same : {w w' : List ℕ} {base top : ℕ} → OnlyTop w w' base top → Same w w' base top
records_same only i from below = only.elsewhere i (λ h. absurd (omega arith))
