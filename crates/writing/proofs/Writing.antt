-- Text behind text, what is left of a text to write, and text at the front of a slice.
-- Rests on Writing of specs/.
use Prim.Native.Nat.{ℕ, suc, ◌+◌, ◌≤◌}
use mathlib.Core.Path.{◌≡◌, refl, sym, ap, ◌∙◌}
use mathlib.Core.List.{List, [], ◌∷◌, ◌++◌}
use native.Mathlib.Omega.{arith}
use lib.ListN.{length, set, length-append}
use lib.Seq.{sets, set_out, length-sets, take-nil}
use Rattle.writing.specs.declared.Page.{Page}
use Rattle.writing.specs.Writing.{fronted, Fronts, Puts}

-- two texts, the second behind the first, are one
sets_append : (l : List ℕ) (i : ℕ) (a b : List ℕ) → sets (sets l i a) (i + length a) b ≡ sets l i (a ++ b)
sets_append l i [] b = let z : i + 0 ≡ i = omega arith in rw z
sets_append l i (x ∷ a) b =
    let z : i + suc (length a) ≡ suc i + length a = omega arith in
    rw z (sets_append (set l i x) (suc i) a b)

-- the slice keeps its length
pub puts_length : {p q : Page} {s : List ℕ} → Puts p s q → length q.text.now ≡ length p.text.now
puts_length {p} {q} {s} w = ap length w.bytes ∙ length-sets p.text.now p.at s

pub puts_none : (p : Page) → Puts p [] p
puts_none p = record { same = refl; place = omega arith; bytes = refl }

pub puts_then : {p q r : Page} {a b : List ℕ} → Puts p a q → Puts q b r → Puts p (a ++ b) r
puts_then {p} {q} {r} {a} {b} v w =
    record {
      same = w.same ∙ v.same;
      place = omega (arith, v.place, w.place, length-append a b);
      bytes = w.bytes ∙ (rw (v.place, v.bytes) (sets_append p.text.now p.at a b));
    }

-- a byte behind the end of the slice is not written
pub puts_outside : (p : Page) (b : ℕ) → length p.text.now ≤ p.at → Puts p (b ∷ []) (record { text = p.text; at = p.at + 1 })
puts_outside p b out = record { same = refl; place = refl; bytes = sym (set_out p.text.now p.at b out) }

-- What is left: to write this rest from here on gives what the whole gives from its place on.
pub record Left (before : Page) (whole : List ℕ) (page : Page) (rest : List ℕ) : Type 0 where
  pub same : page.text.ghost_name ≡ before.text.ghost_name
  pub place : page.at + length rest ≡ before.at + length whole
  pub bytes : sets page.text.now page.at rest ≡ sets before.text.now before.at whole

pub left_whole : (p : Page) (s : List ℕ) → Left p s p s
left_whole p s = record { same = refl; place = refl; bytes = refl }

pub left_next : {p q r : Page} {whole a b : List ℕ} → Left p whole q (a ++ b) → Puts q a r → Left p whole r b
left_next {p} {q} {r} {whole} {a} {b} l w =
    record {
      same = w.same ∙ l.same;
      place = omega (arith, l.place, w.place, length-append a b);
      bytes = (rw (w.place, w.bytes) (sets_append q.text.now q.at a b)) ∙ l.bytes;
    }

pub left_last : {p q r : Page} {whole s : List ℕ} → Left p whole q s → Puts q s r → Puts p whole r
left_last l w = record { same = w.same ∙ l.same; place = w.place ∙ l.place; bytes = w.bytes ∙ l.bytes }

pub left_none : {p q : Page} {whole : List ℕ} → Left p whole q [] → Puts p whole q
left_none l = record { same = l.same; place = omega (arith, l.place); bytes = l.bytes }

-- At the front of a slice.

sets_behind : (x : ℕ) (s l : List ℕ) (i : ℕ) → sets (x ∷ l) (suc i) s ≡ x ∷ sets l i s
sets_behind x [] l i = refl
sets_behind x (b ∷ s) l i = sets_behind x s (set l i b) (suc i)

sets_nil : (s : List ℕ) (i : ℕ) → sets [] i s ≡ []
sets_nil [] i = refl
sets_nil (b ∷ s) i = sets_nil s (suc i)

front : (s l : List ℕ) → sets l 0 s ≡ fronted l s
unfolding fronted
front [] l = rw (take-nil {A = ℕ} (length l))
front (b ∷ s) [] = sets_nil s 1
front (b ∷ s) (x ∷ l) = sets_behind b s l 0 ∙ ap (λ (r : List ℕ). b ∷ r) (front s l)

-- t is what the slice has when the page is let go
pub puts_front : {p q : Page} {s t : List ℕ} → p.at ≡ 0 → Puts p s q → t ≡ q.text.now → Fronts p.text.now s t q.at
puts_front {p} {q} {s} {t} h w e = record { size = omega (arith, w.place); bytes = e ∙ w.bytes ∙ rw h (front s p.text.now) }
