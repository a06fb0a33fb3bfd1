-- What `reachlist` prints, and lists that are handed in with their rule file, as tables that the checker computes from the bytes of P, with its label, D and S
-- changed: 01, "The program `reachlist`", and 02, Slip 2 and, for the shares, Slip 6.
-- Rests on the definitions alone, and on reach's Examples for P and for how a table is computed.
use Rattle.std.specs.Prelude.{ℕ, ◌-◌, ◌≡◌, refl, Bool, true, false, List, [], ◌∷◌, map}
use Rattle.reach.specs.declared.Refusal.TheVariants.{Truncated, TextTooShort, BadList}
use Rattle.reach.specs.Answers.{search_answer}
use Rattle.reach.specs.Examples as Reach
use Rattle.reach.specs.Examples.{own_work, own_list, p_with, p_without, ○, Example, AsExpected, ◌⇒◌}
use Rattle.lists.specs.Share
use Rattle.lists.specs.Text
use Rattle.lists.specs.Share.{share}
use Rattle.lists.specs.Text.{decimal, text}
use Rattle.lists.specs.Handed
use Rattle.lists.specs.Printouts
use Rattle.lists.specs.Printouts.{TextAnswer, no_text, of_length, printout_of, length_answer, write_answer}

-- What a row asks: what `reachlist` prints of a file, with a list slice of so many bytes, or with its own; the length of the text of a list that is
-- handed in with its file, and whether its search ended in 12; or what the writer answers, with a text slice of so many bytes.
pub data Asked : Type 0 where
  text_within : ℕ → List ℕ → Asked
  length_of : List ℕ → List ℕ → Bool → Asked
  write_of : List ℕ → List ℕ → Bool → ℕ → Asked

abbrev pub text_of_file : List ℕ → Asked
text_of_file file = text_within own_list file

-- What stands beside it: bytes, or the answer of the call.
pub data Answer : Type 0 where
  bytes : List ℕ → Answer
  tells : TextAnswer → Answer

-- what the definitions give
abbrev pub computed : Asked → Answer
computed (text_within list file) = bytes (text (search_answer file own_work list))
computed (length_of file l full) = tells (length_answer (printout_of file l full))
computed (write_of file l full room) = tells (write_answer room (printout_of file l full))

-- what `reachlist` prints of P, of P with S 5 and with D 2, of P without an alternative with S 3 and with label 8, of P with a list slice that is one
-- too short, and of an empty file:
-- "reach 6 1 1 _" / "total 1 0 0 0 found"
-- "unfinished 5 1 _" / "total 0 1 0 100 undecided"
-- "total 0 0 0 0 none"
-- "missing 3 0" / "unfinished 3 1 _" / "total 0 1 1 100 undecided"
-- "missing 3 0" / "total 0 0 1 0 none"
-- "refused 12"
-- "refused 1"
abbrev pub printed : List (Example Asked Answer)
printed =
    text_of_file (p_with 7 4 20) ⇒ bytes (0x72 ∷ 0x65 ∷ 0x61 ∷ 0x63 ∷ 0x68 ∷ 0x20 ∷ 0x36 ∷ 0x20 ∷ 0x31 ∷ 0x20 ∷ 0x31 ∷ 0x20 ∷ 0x5f ∷ 0x0a ∷ 0x74 ∷ 0x6f ∷ 0x74 ∷ 0x61 ∷ 0x6c ∷ 0x20 ∷ 0x31 ∷ 0x20 ∷ 0x30 ∷ 0x20 ∷ 0x30 ∷ 0x20 ∷ 0x30 ∷ 0x20 ∷ 0x66 ∷ 0x6f ∷ 0x75 ∷ 0x6e ∷ 0x64 ∷ 0x0a ∷ [])
    ∷ text_of_file (p_with 7 4 5) ⇒ bytes (0x75 ∷ 0x6e ∷ 0x66 ∷ 0x69 ∷ 0x6e ∷ 0x69 ∷ 0x73 ∷ 0x68 ∷ 0x65 ∷ 0x64 ∷ 0x20 ∷ 0x35 ∷ 0x20 ∷ 0x31 ∷ 0x20 ∷ 0x5f ∷ 0x0a ∷ 0x74 ∷ 0x6f ∷ 0x74 ∷ 0x61 ∷ 0x6c ∷ 0x20 ∷ 0x30 ∷ 0x20 ∷ 0x31 ∷ 0x20 ∷ 0x30 ∷ 0x20 ∷ 0x31 ∷ 0x30 ∷ 0x30 ∷ 0x20 ∷ 0x75 ∷ 0x6e ∷ 0x64 ∷ 0x65 ∷ 0x63 ∷ 0x69 ∷ 0x64 ∷ 0x65 ∷ 0x64 ∷ 0x0a ∷ [])
    ∷ text_of_file (p_with 7 2 20) ⇒ bytes (0x74 ∷ 0x6f ∷ 0x74 ∷ 0x61 ∷ 0x6c ∷ 0x20 ∷ 0x30 ∷ 0x20 ∷ 0x30 ∷ 0x20 ∷ 0x30 ∷ 0x20 ∷ 0x30 ∷ 0x20 ∷ 0x6e ∷ 0x6f ∷ 0x6e ∷ 0x65 ∷ 0x0a ∷ [])
    ∷ text_of_file (p_without 7 3) ⇒ bytes (0x6d ∷ 0x69 ∷ 0x73 ∷ 0x73 ∷ 0x69 ∷ 0x6e ∷ 0x67 ∷ 0x20 ∷ 0x33 ∷ 0x20 ∷ 0x30 ∷ 0x0a ∷ 0x75 ∷ 0x6e ∷ 0x66 ∷ 0x69 ∷ 0x6e ∷ 0x69 ∷ 0x73 ∷ 0x68 ∷ 0x65 ∷ 0x64 ∷ 0x20 ∷ 0x33 ∷ 0x20 ∷ 0x31 ∷ 0x20 ∷ 0x5f ∷ 0x0a ∷ 0x74 ∷ 0x6f ∷ 0x74 ∷ 0x61 ∷ 0x6c ∷ 0x20 ∷ 0x30 ∷ 0x20 ∷ 0x31 ∷ 0x20 ∷ 0x31 ∷ 0x20 ∷ 0x31 ∷ 0x30 ∷ 0x30 ∷ 0x20 ∷ 0x75 ∷ 0x6e ∷ 0x64 ∷ 0x65 ∷ 0x63 ∷ 0x69 ∷ 0x64 ∷ 0x65 ∷ 0x64 ∷ 0x0a ∷ [])
    ∷ text_of_file (p_without 8 20) ⇒ bytes (0x6d ∷ 0x69 ∷ 0x73 ∷ 0x73 ∷ 0x69 ∷ 0x6e ∷ 0x67 ∷ 0x20 ∷ 0x33 ∷ 0x20 ∷ 0x30 ∷ 0x0a ∷ 0x74 ∷ 0x6f ∷ 0x74 ∷ 0x61 ∷ 0x6c ∷ 0x20 ∷ 0x30 ∷ 0x20 ∷ 0x30 ∷ 0x20 ∷ 0x31 ∷ 0x20 ∷ 0x30 ∷ 0x20 ∷ 0x6e ∷ 0x6f ∷ 0x6e ∷ 0x65 ∷ 0x0a ∷ [])
    ∷ text_within 8 (p_with 7 4 20) ⇒ bytes (0x72 ∷ 0x65 ∷ 0x66 ∷ 0x75 ∷ 0x73 ∷ 0x65 ∷ 0x64 ∷ 0x20 ∷ 0x31 ∷ 0x32 ∷ 0x0a ∷ [])
    ∷ text_of_file [] ⇒ bytes (0x72 ∷ 0x65 ∷ 0x66 ∷ 0x75 ∷ 0x73 ∷ 0x65 ∷ 0x64 ∷ 0x20 ∷ 0x31 ∷ 0x0a ∷ [])
    ∷ []

-- P's list, behind it these bytes; and an unfinished entry of 5 steps
abbrev pub p_list : List ℕ → List ℕ
p_list more = 0x52 ∷ 0x45 ∷ 0x06 ∷ 0x00 ∷ 0x03 ∷ 0x00 ∷ 0x01 ∷ 0x01 ∷ more

abbrev pub given_up : List ℕ
given_up = 0x55 ∷ 0x4e ∷ 0x05 ∷ 0x00 ∷ 0x01 ∷ 0x00 ∷ 0xff ∷ []

-- Lists handed in with P. Its own has a text of 34 bytes, of 25 where the search ended in 12. It fits D 3 and S 6, and no less: below two constructors stands
-- an open part, whose type's least depth is 1. A byte too few or too many is 14 too; an entry that is false, unfinished with 5 steps where S is 20, is not. The
-- file's refusal comes first, then 14, then 13.
abbrev pub handed_in : List (Example Asked Answer)
handed_in =
    length_of (p_with 7 4 20) (p_list (○ ∷ [])) false ⇒ tells (of_length 34)
    ∷ length_of (p_with 7 4 20) (p_list (○ ∷ [])) true ⇒ tells (of_length 25)
    ∷ length_of (p_with 7 3 6) (p_list (○ ∷ [])) false ⇒ tells (of_length 34)
    ∷ length_of (p_with 7 2 6) (p_list (○ ∷ [])) false ⇒ tells (no_text BadList)
    ∷ length_of (p_with 7 3 5) (p_list (○ ∷ [])) false ⇒ tells (no_text BadList)
    ∷ length_of (p_with 7 4 20) (p_list []) false ⇒ tells (no_text BadList)
    ∷ length_of (p_with 7 4 20) (p_list (○ ∷ 0 ∷ [])) false ⇒ tells (no_text BadList)
    ∷ length_of (p_with 7 4 20) given_up false ⇒ tells (of_length 41)
    ∷ length_of (p_with 7 4 20) [] false ⇒ tells (of_length 19)
    ∷ write_of (p_with 7 4 20) (p_list (○ ∷ [])) false 34 ⇒ tells (of_length 34)
    ∷ write_of (p_with 7 4 20) (p_list (○ ∷ [])) false 33 ⇒ tells (no_text TextTooShort)
    ∷ write_of (p_with 7 4 20) (p_list []) false 0 ⇒ tells (no_text BadList)
    ∷ write_of [] (p_list []) false 0 ⇒ tells (no_text Truncated)
    ∷ []

-- all the definitions that a text is made of: to unfold this is to unfold them
definitions : Unit {0}
unfolding
    Reach.definitions
    Text.spaced Text.line_from Text.digits_by Text.decimal Text.kind_word Text.part_word Text.line_saying Share.nearest Share.share Text.total_with Text.total_line
    Text.refusal_line Text.last_line Text.text_of Text.text
    Handed.kind_mark Handed.spanning Handed.entry_by Handed.entries_by Handed.handed
    Printouts.printout_checked Printouts.printout_of Printouts.length_answer Printouts.write_answer
definitions = tt

-- the printed text of 01's example, and of the other ends of a search
pub printed_text : AsExpected computed printed
unfolding definitions
printed_text = refl

-- lists that are handed in with their rule file
pub handed_lists : AsExpected computed handed_in
unfolding definitions
handed_lists = refl

-- numbers of one digit and more
pub decimals : map decimal (0 ∷ 9 ∷ 10 ∷ 4096 ∷ [])
    ≡ (0x30 ∷ []) ∷ (0x39 ∷ []) ∷ (0x31 ∷ 0x30 ∷ []) ∷ (0x34 ∷ 0x30 ∷ 0x39 ∷ 0x36 ∷ []) ∷ []
unfolding definitions
decimals = refl

-- 02, Slip 6: the share of so many unfinished entries of all that count. Halves: 12.5, 37.5, 62.5, 87.5; 0.5, 1.5, 2.5, 99.5. Then a third and two, none, all,
-- and none of none; and all but one of as many entries as a list has room for.
abbrev pub of : ℕ → ℕ → ℕ
of unfinished all = share (all - unfinished) unfinished

pub shares : of 1 8 ∷ of 3 8 ∷ of 5 8 ∷ of 7 8 ∷ of 1 200 ∷ of 3 200 ∷ of 5 200 ∷ of 199 200 ∷ of 1 3 ∷ of 2 3 ∷ of 0 5 ∷ of 5 5 ∷ of 0 0 ∷ of 2796201 2796202 ∷ []
    ≡ 12 ∷ 38 ∷ 62 ∷ 88 ∷ 0 ∷ 2 ∷ 2 ∷ 100 ∷ 33 ∷ 67 ∷ 0 ∷ 100 ∷ 0 ∷ 100 ∷ []
unfolding definitions
shares = refl
