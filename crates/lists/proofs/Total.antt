-- A printed number is read back from its digits, so that a total line has one share; and the text of a complete list has the share x exactly if x has the law
-- of the share.
-- Rests on Text of the definitions, on Share and on Printouts (counts by the kinds of the entries).
use Prim.Native.Nat.{ℕ, zero, suc, ◌+◌, ◌-◌, ◌*◌, ◌/◌, ◌≤◌}
use mathlib.Core.Path.{◌≡◌, refl, sym, ap, ◌∙◌}
use mathlib.Core.Bool.{Bool, true, false}
use mathlib.Core.List.{List, [], ◌∷◌, ◌++◌, map, flat_map, append_cancel_left, append_cancel_right, tail-eq_of_cons-eq}
use mathlib.Core.Logic.{◌↔◌}
use native.Mathlib.Omega.{arith}
use lib.Dec.{ltb}
use borrow.Author.Tests.{ltb-true, ltb-false}
use Rattle.reach.specs.declared.Counts.{Counts}
use Rattle.reach.specs.Base.{pick}
use Rattle.reach.specs.Search.{Entry, kinds_of, counts}
use Rattle.reach.specs.Lists.{saying_of}
use Rattle.lists.specs.Share.{share}
use Rattle.lists.specs.Text.{space, digit, digits_by, decimal, line_saying, spaced, line_from, total_with, total_line, last_line, text_of, complete_text, ShareOf}
use Rattle.lists.proofs.Share.{share_law, share_exactly}
use Rattle.lists.proofs.Printouts.{text_counts}

-- the number that digits say, behind those that said `so`
unfoldable said_by : ℕ → List ℕ → ℕ
said_by so [] = so
said_by so (d ∷ ds) = said_by (10 * so + (d - 0x30)) ds

said_last : (so : ℕ) (ds : List ℕ) (d : ℕ) → said_by so (ds ++ (d ∷ [])) ≡ 10 * said_by so ds + (d - 0x30)
unfolding said_by
said_last so [] d = refl
said_last so (e ∷ ds) d = said_last (10 * so + (e - 0x30)) ds d

said_digits : (more n : ℕ) → n ≤ more → said_by 0 (digits_by more n) ≡ n
unfolding digits_by said_by
said_digits zero n few = omega (arith, few)
said_digits (suc more) n few = go (λ tenth. said_digits more (n / 10) (omega (arith, few, tenth))) (ltb n 10) refl
  where
    go : (10 ≤ n → said_by 0 (digits_by more (n / 10)) ≡ n / 10) → (t : Bool) → ltb n 10 ≡ t
        → said_by 0 (pick t (digit n ∷ []) (digits_by more (n / 10) ++ (digit n ∷ []))) ≡ n
    go higher true less = omega (arith, ltb-true n 10 less)
    go higher false most =
        let large = ltb-false n 10 most in
        omega (arith, said_last 0 (digits_by more (n / 10)) (digit n), higher large)

-- two numbers with the same digits are one
decimal_only : (x y : ℕ) → decimal x ≡ decimal y → x ≡ y
unfolding decimal
decimal_only x y same = sym (said_digits x x (omega arith)) ∙ ap (said_by 0) same ∙ said_digits y y (omega arith)

-- lines that begin alike have the same behind it
line_only : (first : List ℕ) (xs ys : List (List ℕ)) → line_from first xs ≡ line_from first ys → spaced xs ≡ spaced ys
unfolding line_from
line_only first xs ys same = append_cancel_right (spaced xs) (spaced ys) _ (append_cancel_left first _ _ same)

-- a total line has one share
total_only : (c : Counts) (x y : ℕ) → total_with x c ≡ total_with y c → x ≡ y
unfolding total_with spaced flat_map
total_only c x y same =
    let items = line_only _ _ _ same in
    let more = append_cancel_left (space ∷ decimal c.reach) _ _ items in
    let others = append_cancel_left (space ∷ decimal c.unfinished) _ _ more in
    let last = append_cancel_left (space ∷ decimal c.missing) _ _ others in
    decimal_only x y (tail-eq_of_cons-eq (append_cancel_right (space ∷ decimal x) (space ∷ decimal y) _ last))

-- the text of a complete list has this share exactly if the share is theirs by its law
pub text_shares : (es : List Entry) (x : ℕ) → ShareOf es x ↔ (text_of false (map saying_of es) ≡ complete_text es x)
unfolding last_line total_line
text_shares es x = (λ has. own ∙ ap (complete_text es) (sym (law.0 has)), λ same. law.1 (one (sym same ∙ own)))
  where
    c : Counts
    c = counts (kinds_of es)

    law : ShareOf es x ↔ (x ≡ share c.reach c.unfinished)
    law = share_exactly c.reach c.unfinished x

    own : text_of false (map saying_of es) ≡ complete_text es (share c.reach c.unfinished)
    own = text_counts false es

    one : complete_text es x ≡ complete_text es (share c.reach c.unfinished) → x ≡ share c.reach c.unfinished
    one same = total_only c x _ (append_cancel_left (flat_map line_saying (map saying_of es)) _ _ same)

-- there is such a share
pub text_share : (es : List Entry) → (x : ℕ) × ShareOf es x × (text_of false (map saying_of es) ≡ complete_text es x)
text_share es =
    let c = counts (kinds_of es) in
    let has = share_law c.reach c.unfinished in
    (share c.reach c.unfinished, has, (text_shares es (share c.reach c.unfinished)).0 has)
