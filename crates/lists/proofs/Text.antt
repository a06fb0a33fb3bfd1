-- The printed text by the bytes of a list is the text of the list: what `reachlist` prints of the bytes that a search wrote is what 01 says
-- of the search's answer.
-- Rests on Text of specs/ and on ReadBack (an entry is read back from its bytes).
use Prim.Native.Nat.{ℕ, zero, suc, ◌≤◌, ◌<◌}
use native.Mathlib.Omega.{arith}
use mathlib.Core.Path.{◌≡◌, refl, ap, ◌∙◌}
use mathlib.Core.Bool.{Bool, true, false}
use mathlib.Core.List.Memᴰ
use mathlib.Core.List.{List, [], ◌∷◌, ◌++◌, map, flat_map, append_assoc}
use mathlib.Core.Option.{none}
use lib.ListN.{length, take, length-append}
use lib.Seq.{take-append_seam, drop-append_seam, take_all}
use Rattle.reach.specs.declared.Refusal.{Refusal}
use Rattle.reach.specs.Base.{◌∈◌}
use Rattle.reach.specs.Limits.{list_limit}
use Rattle.reach.specs.declared.Kind.{Kind}
use Rattle.reach.specs.declared.Kind.TheVariants.{RE, UN, MI}
use Rattle.reach.specs.Search.{Entry}
use Rattle.reach.specs.Lists.{kind_bytes, entry_bytes, list_bytes, entry_size, Decoded, saying_of, decoded_from}
use Rattle.reach.specs.Answers.{Checked, accepted, turned_back, check, SearchAnswer, no_search, complete, cut_short, search_checked, search_answer, listed}
use Rattle.lists.specs.Text.{refusal_line, text_of, text, list_text}
use Rattle.reach.proofs.Answers.{listed_in}
use Rattle.lists.proofs.ReadBack.{Small, size_behind, size_of_entry, decoded_entry, entry_steps, listed_small, listed_fits}

-- the steps of each entry fit their two bytes
abbrev pub FewSteps : List Entry → Type 0
FewSteps es = (e : Entry) → e ∈ es → e.steps < 65536

-- no entry stands behind the last byte
none_behind : (before : List ℕ) → entry_size (before ++ []) (length before) ≡ none
unfolding entry_size
none_behind before = size_behind before [] ∙ refl

-- the entries of a list are decoded from its bytes, one behind the other
pub decoded_from_law : (es : List Entry) (before : List ℕ) (more : ℕ) → Small es → FewSteps es → length es ≤ more
    → decoded_from more (before ++ list_bytes es) (length before) ≡ map saying_of es
unfolding decoded_from list_bytes flat_map
decoded_from_law [] before zero small few h = refl
decoded_from_law [] before (suc more) small few h = rw (none_behind before)
decoded_from_law (e ∷ es) before zero small few h = absurd (omega arith)
decoded_from_law (e ∷ es) before (suc more) small few h =
    let here = size_of_entry e before (list_bytes es) (small e (Memᴰ.head refl)) in
    let said = decoded_entry e (few e (Memᴰ.head refl)) in
    let later =
    decoded_from_law es (before ++ entry_bytes e) more (λ x m. small x (Memᴰ.tail m)) (λ x m. few x (Memᴰ.tail m)) (omega arith) in
    rw (here, drop-append_seam before (entry_bytes e ++ flat_map entry_bytes es), take-append_seam (entry_bytes e) (flat_map entry_bytes es), said)
    (ap (λ (ds : List Decoded). saying_of e ∷ ds) (rw (append_assoc before, length-append before) at later))

-- each entry has a byte
kind_some : (k : Kind) (s : List ℕ) → 1 ≤ length (kind_bytes k ++ s)
unfolding kind_bytes
kind_some RE s = omega arith
kind_some UN s = omega arith
kind_some MI s = omega arith

pub entry_some : (e : Entry) → 1 ≤ length (entry_bytes e)
unfolding entry_bytes
entry_some e = kind_some e.kind _

pub list_some : (es : List Entry) → length es ≤ length (list_bytes es)
unfolding list_bytes flat_map
list_some [] = omega arith
list_some (e ∷ es) = omega (arith, entry_some e, list_some es, length-append (entry_bytes e) (flat_map entry_bytes es))

-- the text of the bytes of a list, for any limit of the bytes that count
abbrev text_within_room : ℕ → Bool → List ℕ → List ℕ
text_within_room n full list = let l = take n list in text_of full (decoded_from (length l) l 0)

text_within : (n : ℕ) (full : Bool) (es : List Entry) → Small es → FewSteps es → length (list_bytes es) ≤ n
    → text_within_room n full (list_bytes es) ≡ text_of full (map saying_of es)
text_within n full es small few fits =
    rw (take_all n (list_bytes es) fits, decoded_from_law es [] (length (list_bytes es)) small few (list_some es))

pub list_text_law : (full : Bool) (es : List Entry) → Small es → FewSteps es → length (list_bytes es) ≤ list_limit
    → list_text full (list_bytes es) ≡ text_of full (map saying_of es)
unfolding list_text
list_text_law full es = text_within list_limit full es

-- what `reachlist` prints of an answer, by the bytes of the list
abbrev pub text_by : SearchAnswer → List ℕ
text_by (no_search why) = refusal_line why
text_by (complete es) = list_text false (list_bytes es)
text_by (cut_short es) = list_text true (list_bytes es)

text_by_law : (a : SearchAnswer) → Small (listed a) → FewSteps (listed a) → length (list_bytes (listed a)) ≤ list_limit → text_by a ≡ text a
unfolding text listed
text_by_law (no_search why) small few fits = refl
text_by_law (complete es) small few fits = list_text_law false es small few fits
text_by_law (cut_short es) small few fits = list_text_law true es small few fits

text_refused : (work list : ℕ) (why : Refusal) → text_by (search_checked work list (turned_back why)) ≡ text (search_checked work list (turned_back why))
unfolding search_checked text
text_refused work list why = refl

answer_checked : (file : List ℕ) (work list : ℕ) (c : Checked) → check file ≡ c → search_answer file work list ≡ search_checked work list c
unfolding search_answer
answer_checked file work list c e = ap (search_checked work list) e

-- 01: of every file, whatever the lengths of the slices, it is the text of the search's answer
pub text_written : (file : List ℕ) (work list : ℕ) → text_by (search_answer file work list) ≡ text (search_answer file work list)
text_written file work list = go (check file) refl
  where
    go : (c : Checked) → check file ≡ c → text_by (search_answer file work list) ≡ text (search_answer file work list)
    go (turned_back why) e = rw (answer_checked file work list (turned_back why) e) (text_refused work list why)
    go (accepted p) e =
        text_by_law (search_answer file work list) (listed_small file work list p e)
        (λ x m. entry_steps file p e x (listed_in file work list p e x m)) (listed_fits file work list p e)
