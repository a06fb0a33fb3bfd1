-- What the request asks of the program `reachlist`, said of the call `program_text`, in which the program's buffers stand. A program reads standard
-- input, hands on the first bytes, as many as the call takes, and prints the text. `Prints report_text input size page page' r` is the contract: of the bytes
-- `input` the first `size` were read, and the slice that held `page` holds `page'`.
-- Rests on reporting's Program and on lists' Total and Demands.
use Prim.Native.Nat.{ℕ}
use mathlib.Core.Path.{◌≡◌, ap, ◌∙◌}
use mathlib.Core.List.{List}
use mathlib.Core.Logic.{◌↔◌}
use lib.ListN.{length, take}
use Rattle.reach.specs.Search.{Entry}
use Rattle.reach.specs.Answers.{complete, search_answer}
use Rattle.lists.specs.Text.{complete_text, ShareOf, text}
use Rattle.lists.proofs.Total.{text_share}
use Rattle.lists.proofs.Demands.{share_printed}
use Rattle.writing.specs.Writing.{Fronts}
use Rattle.reporting.specs.Answers.{program_input, program_words, program_list, printed, Reports, Prints}
use Rattle.reporting.proofs.Program as Program
use Rattle.report.specs.Answers.{report_text}
use Rattle.report.proofs.Answers.{text_refuses}

-- 01: "The program `reachlist` takes a rule file on standard input." Where it hands on the first 16,385 bytes of standard input, or all of them where there
-- are fewer, it prints the text of the whole input: of one that is too long, refusal 3.
pub prints_whole : (standard input : List ℕ) (size : ℕ) (page page' : List ℕ) (r : ℕ) → Prints report_text input size page page' r
    → take size input ≡ take program_input standard → take r page' ≡ printed report_text standard
prints_whole = Program.prints_whole text_refuses

-- 02, Slip 6, of the call `report`: the text of a complete list has in its total line the share of the list's entries by the law of the share
pub share_reported : (file work work' list list' page page' : List ℕ) (r : ℕ) → Reports report_text file work work' list list' page page' r
    → (es : List Entry) → search_answer file (length work) (length list) ≡ complete es
    → (x : ℕ) × ShareOf es x × Fronts page (complete_text es x) page' r
unfolding text
share_reported file work work' list list' page page' r call es is =
    let (x, has, same) = text_share es in
    let all : report_text file (length work) (length list) ≡ complete_text es x = ap text is ∙ same in
    (x, has, rw all at call.writes)

-- and of what the program prints: x stands there exactly if it is that share
pub share_shown : (standard input : List ℕ) (size : ℕ) (page page' : List ℕ) (r : ℕ) → Prints report_text input size page page' r
    → take size input ≡ take program_input standard → (es : List Entry) → search_answer standard program_words program_list ≡ complete es
    → (x : ℕ) → ShareOf es x ↔ (take r page' ≡ complete_text es x)
share_shown standard input size page page' r call read es is x =
    let all : take r page' ≡ text (complete es) = prints_whole standard input size page page' r call read ∙ ap text is in
    rw all (share_printed es x)
