-- What `reachlist` prints: 01, "The program `reachlist`". A line is its items, parted by single spaces, and a line feed; text is in ASCII.
-- It is defined of what the entries say, be they those of a search's answer or those that the bytes of a list hold; proofs/Text.antt shows that the two
-- agree on what a search wrote.
-- Rests on Share and on reach's Search, Lists, Words and Answers.
use Rattle.std.specs.Prelude.{ℕ, zero, suc, ◌+◌, ◌/◌, ◌%◌, Bool, true, false, length, take, ltb, eqb}
use mathlib.Core.List.{List, [], ◌∷◌, ◌++◌, map, flat_map}
use Rattle.reach.specs.declared.Refusal.{Refusal}
use Rattle.reach.specs.declared.Refusal.TheVariants.{ListFull}
use Rattle.reach.specs.declared.Kind.{Kind}
use Rattle.reach.specs.declared.Kind.TheVariants.{RE, UN, MI}
use Rattle.reach.specs.declared.Counts.{Counts}
use Rattle.reach.specs.Base.{pick}
use Rattle.reach.specs.Limits.{list_limit}
use Rattle.reach.specs.Words.{number_of, verdict_word}
use Rattle.reach.specs.Search.{Entry, kinds_of, counts, verdict_by}
use Rattle.reach.specs.Lists.{Decoded, saying_of, decoded_from}
use Rattle.reach.specs.Answers.{SearchAnswer, no_search, complete, cut_short}
use Rattle.lists.specs.Share.{share, IsShare}

abbrev pub space : ℕ
space = 0x20

abbrev pub line_feed : ℕ
line_feed = 0x0a

-- each item behind a space
unfoldable pub spaced : List (List ℕ) → List ℕ
spaced items = flat_map (λ item. space ∷ item) items

-- a line: its first item, the others each behind a space, and a line feed
unfoldable pub line_from : List ℕ → List (List ℕ) → List ℕ
line_from first others = first ++ (spaced others ++ (line_feed ∷ []))

-- the last digit of a number
abbrev pub digit : ℕ → ℕ
digit n = 0x30 + n % 10

-- the decimal digits of a number of at most so many digits and one more
unfoldable pub digits_by : ℕ → ℕ → List ℕ
digits_by zero n = digit n ∷ []
digits_by (suc more) n = let higher = digits_by more (n / 10) in pick (ltb n 10) (digit n ∷ []) (higher ++ (digit n ∷ []))

-- a number in decimal: it has no more than n digits and one more
unfoldable pub decimal : ℕ → List ℕ
decimal n = digits_by n n

-- "reach", "unfinished" and "missing"
unfoldable pub kind_word : Kind → List ℕ
kind_word RE = 0x72 ∷ 0x65 ∷ 0x61 ∷ 0x63 ∷ 0x68 ∷ []
kind_word UN = 0x75 ∷ 0x6e ∷ 0x66 ∷ 0x69 ∷ 0x6e ∷ 0x69 ∷ 0x73 ∷ 0x68 ∷ 0x65 ∷ 0x64 ∷ []
kind_word MI = 0x6d ∷ 0x69 ∷ 0x73 ∷ 0x73 ∷ 0x69 ∷ 0x6e ∷ 0x67 ∷ []

-- a byte of the prefix form: `_` for an open part, else its decimal
unfoldable pub part_word : ℕ → List ℕ
part_word b = pick (eqb b 0xff) (0x5f ∷ []) (decimal b)

-- the line of what an entry says: its kind, its steps, the bytes of its prefix form
unfoldable pub line_saying : Decoded → List ℕ
line_saying d = line_from (kind_word d.kind) (decimal d.steps ∷ map part_word d.parameters)

-- "total", the reach count, the unfinished count, the missing count, a share, the verdict
unfoldable pub total_with : ℕ → Counts → List ℕ
total_with x c =
    line_from (0x74 ∷ 0x6f ∷ 0x74 ∷ 0x61 ∷ 0x6c ∷ [])
    (decimal c.reach ∷ decimal c.unfinished ∷ decimal c.missing ∷ decimal x ∷ verdict_word (verdict_by c) ∷ [])

-- the total line: the share is the unfinished one
unfoldable pub total_line : Counts → List ℕ
total_line c = total_with (share c.reach c.unfinished) c

-- "refused" and the number
unfoldable pub refusal_line : Refusal → List ℕ
refusal_line why = line_from (0x72 ∷ 0x65 ∷ 0x66 ∷ 0x75 ∷ 0x73 ∷ 0x65 ∷ 0x64 ∷ []) (decimal (number_of why) ∷ [])

-- the last line: refusal 12 where the list was cut short, else the total line
unfoldable pub last_line : Bool → Counts → List ℕ
last_line full c = pick full (refusal_line ListFull) (total_line c)

-- the text of a list: the lines of its entries, and the last line
unfoldable pub text_of : Bool → List Decoded → List ℕ
text_of full ds = flat_map line_saying ds ++ last_line full (counts (map (λ (d : Decoded). d.kind) ds))

-- the text of the complete list of these entries, with a share in its total line; and that the share is theirs
abbrev pub complete_text : List Entry → ℕ → List ℕ
complete_text es x = flat_map line_saying (map saying_of es) ++ total_with x (counts (kinds_of es))

abbrev pub ShareOf : List Entry → ℕ → Type 0
ShareOf es x = IsShare (counts (kinds_of es)).reach (counts (kinds_of es)).unfinished x

-- what `reachlist` prints for the answer of a search
unfoldable pub text : SearchAnswer → List ℕ
text (no_search why) = refusal_line why
text (complete es) = text_of false (map saying_of es)
text (cut_short es) = text_of true (map saying_of es)

-- the text of a list's bytes: every byte begins at most one entry
unfoldable pub list_text : Bool → List ℕ → List ℕ
list_text full list = let l = take list_limit list in text_of full (decoded_from (length l) l 0)
