-- What `namelist` prints: 02, Slip 4. For each entry, each source parameter of the named type is filled and printed on a line, "its Latin-1 bytes and then its
-- UTF-8 bytes in decimal".
-- Rests on Filling and Spelling, and on lists' Text and reach's Answers.
use Rattle.std.specs.Prelude.{ℕ, ◌+◌, ◌/◌, ◌%◌, ltb}
use mathlib.Core.List.{List, [], ◌∷◌, ◌++◌, head?, tail, map, flat_map}
use Rattle.std.proofs.Math.Option.{Option}
use Rattle.reach.specs.declared.Refusal.{Refusal}
use Rattle.reach.specs.Base.{pick}
use Rattle.reach.specs.Limits.{depth_limit}
use Rattle.reach.specs.Syntax.{Program, source_types}
use Rattle.reach.specs.Parts.{Parts, end, opened, bound}
use Rattle.reach.specs.Types.{least_depths}
use Rattle.reach.specs.Search.{Entry}
use Rattle.reach.specs.Lists.{on_found}
use Rattle.lists.specs.Text.{line_feed, line_from, decimal, refusal_line}
use Rattle.names.specs.Spelling.{spelled}
use Rattle.names.specs.Filling.{is_named, fill_named}
use Rattle.reach.specs.Answers.{Checked, accepted, turned_back, check, SearchAnswer, search_answer, listed, refusal_of}

-- the UTF-8 of a Latin-1 byte: "below 128 the byte itself, from 128 the two bytes 192 + v div 64 and 128 + v mod 64"
unfoldable pub utf8 : ℕ → List ℕ
utf8 v = pick (ltb v 128) (v ∷ []) ((192 + v / 64) ∷ (128 + v % 64) ∷ [])

-- the line of a name: its Latin-1 bytes, then its UTF-8 bytes, in decimal, parted by single spaces; of an empty name an empty line
unfoldable pub name_line : List ℕ → List ℕ
name_line [] = line_feed ∷ []
name_line (b ∷ bs) = line_from (decimal b) (map decimal (bs ++ flat_map utf8 (b ∷ bs)))

-- the partial input with every open part of its names filled, below at most as many constructors as the largest D: what fits its depth needs no more
unfoldable pub filled : Program → ℕ → Parts → Parts
filled p named e = fill_named p.types (least_depths p.types) depth_limit named (source_types p) e

-- of a row, whose values have these types, those of the named type, each as a row of its own
unfoldable pub names_in : ℕ → List ℕ → Parts → List Parts
names_in named ts end = []
names_in named ts (opened r) = let rest = names_in named (tail ts) r in pick (is_named named (head? ts)) (opened end ∷ rest) rest
names_in named ts (bound c fs r) = let rest = names_in named (tail ts) r in pick (is_named named (head? ts)) (bound c fs end ∷ rest) rest

-- the lines of these names
unfoldable pub name_lines : List Parts → List ℕ
name_lines vs = flat_map (λ v. name_line (spelled v)) vs

-- the lines of an entry: of each source parameter of the named type, in parameter order; without NA none
unfoldable pub entry_names : Program → Entry → List ℕ
entry_names p e = on_found [] (λ named. name_lines (names_in named (source_types p) (filled p named e.input))) p.named

-- the line of a refusal, if there is one
unfoldable pub refusal_end : Option Refusal → List ℕ
refusal_end why = on_found [] refusal_line why

-- the text of an answer to the search of a checked file: the names of the entries that are listed, and no total
unfoldable pub names_by : SearchAnswer → Checked → List ℕ
names_by a (turned_back why) = refusal_line why
names_by a (accepted p) = flat_map (entry_names p) (listed a) ++ refusal_end (refusal_of a)

-- what `namelist` prints for a rule file, with a work slice and a list slice of these lengths
unfoldable pub names_text : List ℕ → ℕ → ℕ → List ℕ
names_text file work list = names_by (search_answer file work list) (check file)
