-- The share that is worked out is the one number that the law allows, and it is at most 100.
-- Rests on Share of the definitions.
use Prim.Native.Nat.{ℕ, zero, suc, ◌+◌, ◌*◌, ◌/◌, ◌%◌, ◌≤◌, ◌<◌}
use mathlib.Core.Path.{◌≡◌, refl, sym, ◌∙◌}
use mathlib.Core.Bool.{Bool, true, false}
use mathlib.Core.Logic.{◌↔◌}
use native.Mathlib.Omega.{arith}
use native.Mathlib.Nat.{div-add-mod, mod-lt, mul-suc, mul-le-mul_left}
use lib.Dec.{ltb, eqb}
use borrow.Author.Tests.{ltb-true, ltb-false, eqb-true, eqb-false}
use Rattle.reach.proofs.Base.{picked}
use Rattle.lists.specs.Share.{nearest, share, Nearest, IsShare}

-- Where n times q and a rest r less than n are a: q has the law if the rest is less than a half, or a half and q is even; so has one more than q if it is more
-- than a half, or a half and q is odd.
down : (a n q r : ℕ) → n * q + r ≡ a → 2 * r ≤ n → (2 * r ≡ n → q % 2 ≡ 0) → Nearest a n q
down a n q r is small even = record { near = omega (arith, is, small); even = λ half. even (omega (arith, is, half)) }

up : (a n q r : ℕ) → n * q + r ≡ a → r < n → n ≤ 2 * r → (2 * r ≡ n → q % 2 ≡ 1) → Nearest a n (q + 1)
up a n q r is less large odd =
    let next : q + 1 ≡ suc q = omega arith in
    let step = mul-suc n q in
    rw next
    record { near = omega (arith, is, less, large, step); even = λ half. let o = odd (omega (arith, is, less, large, step, half)) in omega (arith, o) }

-- half way the quotient itself or the next number, whichever is even
halfway : (a n q r rest : ℕ) → n * q + r ≡ a → r < n → 2 * r ≡ n → q % 2 ≡ rest → Nearest a n (q + rest)
halfway a n q r zero is less half even = let same : q + 0 ≡ q = omega arith in rw same (down a n q r is (omega (arith, half)) (λ h. even))
halfway a n q r (suc zero) is less half odd = up a n q r is less (omega (arith, half)) (λ h. odd)
halfway a n q r (suc (suc m)) is less half other = absurd (omega (arith, other))

pub nearest_law : (a n : ℕ) → 0 < n → Nearest a n (nearest a n)
unfolding nearest
nearest_law a n some =
    let q = a / n in
    let r = a % n in
    let is = div-add-mod a n in
    let less = mod-lt a some in
    picked (Nearest a n) (ltb n (2 * r))
    (λ more. up a n q r is less (omega (arith, ltb-true n (2 * r) more)) (λ half. omega (arith, ltb-true n (2 * r) more, half)))
    (λ most. picked (Nearest a n) (eqb (2 * r) n)
    (λ half. halfway a n q r (q % 2) is less (eqb-true (2 * r) n half) refl)
    (λ other. down a n q r is (ltb-false n (2 * r) most) (λ half. absurd (eqb-false (2 * r) n other half))))

-- Two numbers with the law are one: the lesser would be a half below, the next one a half above, and not both are even.
apart : (a n x y : ℕ) → 0 < n → Nearest a n x → Nearest a n y → x < y → ⊥
apart a n x y some lower upper less =
    let step = mul-suc n x in
    let beyond = mul-le-mul_left n less in
    let even = lower.even (omega (arith, lower.near, upper.near, step, beyond)) in
    let also = upper.even (omega (arith, lower.near, upper.near, step, beyond)) in
    let further : suc (suc x) ≤ y → ⊥ = λ l. omega (arith, some, lower.near, upper.near, step, mul-suc n (suc x), mul-le-mul_left n l) in
    further (omega (arith, less, even, also))

pub nearest_only : (a n x y : ℕ) → 0 < n → Nearest a n x → Nearest a n y → x ≡ y
nearest_only a n x y some one other = go (ltb x y) (ltb y x) refl refl
  where
    go : (s t : Bool) → ltb x y ≡ s → ltb y x ≡ t → x ≡ y
    go true t less rest = absurd (apart a n x y some one other (ltb-true x y less))
    go false true most less = absurd (apart a n y x some other one (ltb-true y x less))
    go false false most least = omega (arith, ltb-false x y most, ltb-false y x least)

-- The share has its law, and no other number has it.
pub share_law : (reach unfinished : ℕ) → IsShare reach unfinished (share reach unfinished)
unfolding share
share_law reach unfinished = let n = reach + unfinished in
    picked (IsShare reach unfinished) (eqb n 0)
    (λ none. record { of_none = λ is. refl; of_some = λ some. absurd (some (eqb-true n 0 none)) })
    (λ some. let more = eqb-false n 0 some in
    record { of_none = λ is. absurd (more is); of_some = λ is. nearest_law (100 * unfinished) n (omega (arith, more)) })

pub share_exactly : (reach unfinished x : ℕ) → IsShare reach unfinished x ↔ (x ≡ share reach unfinished)
share_exactly reach unfinished x = (one (eqb n 0) refl, λ is. rw is (share_law reach unfinished))
  where
    n : ℕ
    n = reach + unfinished

    own : IsShare reach unfinished (share reach unfinished)
    own = share_law reach unfinished

    one : (t : Bool) → eqb n 0 ≡ t → IsShare reach unfinished x → x ≡ share reach unfinished
    one true none has = let is = eqb-true n 0 none in has.of_none is ∙ sym (own.of_none is)
    one false some has = let more = eqb-false n 0 some in
        nearest_only (100 * unfinished) n x (share reach unfinished) (omega (arith, more)) (has.of_some more) (own.of_some more)

-- it is at most 100: of 101 and more, n times as much is more than a half of n above 100 times a part of n
pub share_most : (reach unfinished : ℕ) → share reach unfinished ≤ 100
share_most reach unfinished = go (eqb n 0) (ltb 100 x) refl refl
  where
    n : ℕ
    n = reach + unfinished

    x : ℕ
    x = share reach unfinished

    law : IsShare reach unfinished x
    law = share_law reach unfinished

    go : (s t : Bool) → eqb n 0 ≡ s → ltb 100 x ≡ t → x ≤ 100
    go true t none rest = omega (arith, law.of_none (eqb-true n 0 none))
    go false false some most = ltb-false 100 x most
    go false true some more =
        let large = mul-le-mul_left n (ltb-true 100 x more) in
        let near = (law.of_some (eqb-false n 0 some)).near in
        absurd (eqb-false n 0 some (omega (arith, large, near)))
