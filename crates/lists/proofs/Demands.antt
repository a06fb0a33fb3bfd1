-- The demands about lists that are handed in and about texts, as theorems about the definitions: refusal 14 under exactly its condition, and that every list of
-- a search passes, with the text of the search; and the share of the total line. The sentence that a theorem answers stands above it, and its statement uses
-- definitions of specs/ only.
-- Rests on Handed, Printouts, Share and Total.
use Prim.Native.Nat.{ℕ, ◌<◌}
use mathlib.Core.Path.{◌≡◌}
use mathlib.Core.Logic.{◌↔◌, ◌≢◌}
use mathlib.Core.List.{List}
use mathlib.Core.Option.{some}
use lib.ListN.{get_or}
use Rattle.reach.specs.declared.Refusal.{Refusal}
use Rattle.reach.specs.Syntax.{Program}
use Rattle.reach.specs.Search.{Entry}
use Rattle.reach.specs.Lists.{list_bytes}
use Rattle.reach.specs.Answers.{accepted, check, SearchAnswer, no_search, complete, search_answer, listed}
use Rattle.lists.specs.Share.{share, IsShare}
use Rattle.lists.specs.Text.{complete_text, ShareOf, text}
use Rattle.lists.specs.Handed.{IsList, handed}
use Rattle.lists.specs.Printouts.{was_cut, printout, printout_of}
use Rattle.lists.proofs.Handed as Handed
use Rattle.lists.proofs.Share as Share
use Rattle.lists.proofs.Printouts as Printouts
use Rattle.lists.proofs.Total as Total

-- 02, Slip 2, refusal 14: a list of "whole entries of known kinds, with parameters of the rule file's types and depths (an open part is as deep as its type's
-- least depth) and at most S steps". Bytes are read as entries exactly where they are the bytes of these entries, and each of them fits.
pub list_exactly : (file : List ℕ) (p : Program) → check file ≡ accepted p
    → (list : List ℕ) → ((i : ℕ) → get_or list i 0 < 256) → (es : List Entry) → (handed p list ≡ some es) ↔ IsList p list es
list_exactly file p h list bytes es = Handed.handed_exactly file p h list bytes es

-- 02, Slip 2: every list that a search wrote, complete or cut short, is one, and its printed text is that of the search's answer
pub searched_list : (file : List ℕ) (work list : ℕ) (p : Program) → check file ≡ accepted p
    → IsList p (list_bytes (listed (search_answer file work list))) (listed (search_answer file work list))
searched_list file work list p h = Handed.listed_handed file p h work list

pub searched_printout : (file : List ℕ) (work list : ℕ) (p : Program) → check file ≡ accepted p
    → (a : SearchAnswer) → search_answer file work list ≡ a → ((why : Refusal) → a ≢ no_search why)
    → printout_of file (list_bytes (listed a)) (was_cut a) ≡ printout (text a)
searched_printout file work list p h a is ran = Printouts.printout_searched file work list p h a is ran

-- 02, Slip 6: "The share is rounded to the nearest whole per cent, and an exact half goes to the even one", and 0 where there is nothing to share: one number
-- has that law, the one that is worked out.
pub share_exactly : (reach unfinished x : ℕ) → IsShare reach unfinished x ↔ (x ≡ share reach unfinished)
share_exactly reach unfinished x = Share.share_exactly reach unfinished x

-- "Printed output is compared with this rule from now on": the text of a complete list has x for its share exactly if x is the share of its entries by that law.
pub share_printed : (es : List Entry) (x : ℕ) → ShareOf es x ↔ (text (complete es) ≡ complete_text es x)
unfolding text
share_printed es x = Total.text_shares es x
