-- The condition of each answer of the check, test by test, in the order of 01, "Turned back". `rule_file` computes the answer; here each condition says for
-- itself which tests were passed before and which one was not, in terms of members, closed values and least depths, where `rule_file` walks lists and fills a
-- table. That the answers are given under exactly these conditions is proved in proofs/Conditions.
-- Rests on RuleFile for the readers of the first pass and of a body, on Types for closed values and on Names for the form of names.
use Rattle.std.specs.Prelude.{ℕ, ◌≤◌, ◌<◌, ◌≡◌, ◌⊎◌, List, ◌∷◌, ◌++◌, length}
use Rattle.std.proofs.Math.Option.{some}
use Rattle.std.proofs.Math.ListN.{get_elem?}
use Rattle.reach.specs.declared.Refusal.{Refusal}
use Rattle.reach.specs.declared.Refusal.TheVariants.{OutOfRange, UnknownNumber, EmptyType, DepthTooSmall, BadSpelling}
use Rattle.reach.specs.Base.{◌∈◌}
use Rattle.reach.specs.Limits.{file_limit}
use Rattle.reach.specs.Syntax.{Expr}
use Rattle.reach.specs.Parts.{Parts}
use Rattle.reach.specs.Types.{Slot, slots, ValueOf, LeastDepth}
use Rattle.reach.specs.Names.{Spells}
use Rattle.reach.specs.Reader.{got, refused}
use Rattle.reach.specs.RuleFile.{Head, Declarations, Outline, outline, body_of}

-- 01: "File size is tested first." Refusal 3: "file size [..] is beyond its limit".
abbrev pub FileTooLong : List ℕ → Type 0
FileTooLong file = file_limit < length file

-- 01: "A first pass takes marks, counts, lengths, D and S through the whole file, skipping bodies, then the tail." It leaves an outline of the file, or it
-- refuses.
abbrev pub FirstPassFinds : List ℕ → Outline → Type 0
FirstPassFinds file o = (length file ≤ file_limit) × ((behind : ℕ) × (outline file 0 ≡ got o behind))

abbrev pub FirstPassRefuses : List ℕ → Refusal → Type 0
FirstPassRefuses file why = (length file ≤ file_limit) × (outline file 0 ≡ refused why)

-- 01: "A second takes type and function numbers in TY, FN heads and GO." 02, Slip 4: NA's "type number is tested in the second pass". A type number that stands
-- in a TY record, in the head of an FN record or in NA: the type of a field, of a parameter or of a result, or the type of names.
pub data TypeNumber (o : Outline) (t : ℕ) : Type 0 where
  of_field : (constructors : List (List ℕ)) (fields : List ℕ) → constructors ∈ o.declared.types → fields ∈ constructors → t ∈ fields → TypeNumber o t
  of_parameter : (h : Head) → h ∈ o.declared.heads → t ∈ h.parameters → TypeNumber o t
  of_result : (h : Head) → h ∈ o.declared.heads → t ≡ h.result → TypeNumber o t
  of_names : o.named ≡ some t → TypeNumber o t

-- the types are numbered from 0 on, and so are the functions, of which the goal names one
abbrev pub AllNumbersExist : Outline → Type 0
AllNumbersExist o = ((t : ℕ) → TypeNumber o t → t < length o.declared.types) × (o.goal.source < length o.declared.heads)

-- Refusal 4: "a type, constructor, function or variable number does not exist".
abbrev pub SomeNumberMissing : Outline → Type 0
SomeNumberMissing o = ((t : ℕ) × TypeNumber o t × (length o.declared.types ≤ t)) ⊎ (length o.declared.heads ≤ o.goal.source)

abbrev pub SecondPassRefuses : List ℕ → Type 0
SecondPassRefuses file = (o : Outline) × FirstPassFinds file o × SomeNumberMissing o

-- 01: "A third takes bodies in file order, each followed by its tail". The body of this head is read, with nothing behind its expression.
abbrev pub BodyReads : List ℕ → Declarations → Head → Type 0
BodyReads file d h = (e : Expr) × (behind : ℕ) × (body_of d h file ≡ got e behind)

abbrev pub AllBodiesRead : List ℕ → Declarations → Type 0
AllBodiesRead file d = (h : Head) → h ∈ d.heads → BodyReads file d h

-- some body is refused, and all before it in the file are read
abbrev pub SomeBodyRefused : List ℕ → Declarations → Refusal → Type 0
SomeBodyRefused file d why =
    (before : List Head) × (h : Head) × (after : List Head) × (d.heads ≡ before ++ (h ∷ after)) × ((k : Head) → k ∈ before → BodyReads file d k)
    × (body_of d h file ≡ refused why)

abbrev pub ThirdPassRefuses : List ℕ → Refusal → Type 0
ThirdPassRefuses file why = (o : Outline) × FirstPassFinds file o × AllNumbersExist o × SomeBodyRefused file o.declared why

-- All three passes found nothing.
pub record Passes (file : List ℕ) (o : Outline) : Type 0 where
  pub outlined : FirstPassFinds file o
  pub numbers : AllNumbersExist o
  pub bodies : AllBodiesRead file o.declared

-- 01: "After them 8, 9". Refusal 8: "a type has no closed value".
abbrev pub AllTypesInhabited : Declarations → Type 0
AllTypesInhabited d = (t : ℕ) → t < length d.types → (v : Parts) × ValueOf d.types t v

abbrev pub SomeTypeEmpty : Declarations → Type 0
SomeTypeEmpty d = (t : ℕ) × (t < length d.types) × ((v : Parts) → ¬ ValueOf d.types t v)

abbrev pub Hollow : List ℕ → Type 0
Hollow file = (o : Outline) × Passes file o × SomeTypeEmpty o.declared

-- Refusal 9: "a source parameter's least depth exceeds D". A parameter of the source: its type; and its type with the depth that it may have.
abbrev pub SourceParameter : Outline → ℕ → Type 0
SourceParameter o t = (h : Head) × (get_elem? o.declared.heads o.goal.source ≡ some h) × (t ∈ h.parameters)

abbrev pub SourceSlot : Outline → Slot → Type 0
SourceSlot o s = (h : Head) × (get_elem? o.declared.heads o.goal.source ≡ some h) × (s ∈ slots h.parameters o.goal.depths)

abbrev pub AllParametersFit : Outline → Type 0
AllParametersFit o = (s : Slot) → SourceSlot o s → (d : ℕ) × LeastDepth o.declared.types s.type d × (d ≤ s.room)

abbrev pub SomeParameterTooDeep : Outline → Type 0
SomeParameterTooDeep o = (s : Slot) × SourceSlot o s × ((d : ℕ) × LeastDepth o.declared.types s.type d × (s.room < d))

abbrev pub Shallow : List ℕ → Type 0
Shallow file = (o : Outline) × Passes file o × AllTypesInhabited o.declared × SomeParameterTooDeep o

-- Refusal 15, "spelling": "the type named by NA has another form, tested straight after 9" (02, Slip 4).
abbrev pub NamesSpelled : Outline → Type 0
NamesSpelled o = (t : ℕ) → o.named ≡ some t → Spells o.declared.types t

abbrev pub NamesOtherwise : Outline → Type 0
NamesOtherwise o = (t : ℕ) × (o.named ≡ some t) × ¬ Spells o.declared.types t

abbrev pub Misspelled : List ℕ → Type 0
Misspelled file = (o : Outline) × Passes file o × AllTypesInhabited o.declared × AllParametersFit o × NamesOtherwise o

-- A file that passes every test.
abbrev pub Acceptable : List ℕ → Type 0
Acceptable file = (o : Outline) × Passes file o × AllTypesInhabited o.declared × AllParametersFit o × NamesSpelled o

-- The test that turns a file back, with the refusal that it gives: 01, "Turned back", sentence by sentence.
pub data RefusedBy (file : List ℕ) (why : Refusal) : Type 0 where
  -- "File size is tested first." 3
  by_size : why ≡ OutOfRange → FileTooLong file → RefusedBy file why
  -- "A first pass takes marks, counts, lengths, D and S through the whole file, skipping bodies, then the tail; a record too many, in its turn, is 3 at its
  -- mark." 1, 2, 3 or 7
  by_first_pass : FirstPassRefuses file why → RefusedBy file why
  -- "A second takes type and function numbers in TY, FN heads and GO", and in NA. 4
  by_second_pass : why ≡ UnknownNumber → SecondPassRefuses file → RefusedBy file why
  -- "A third takes bodies in file order, each followed by its tail; at each expression: short, code, numbers, its own nesting and view, type." 1 or 3 to 7
  by_third_pass : ThirdPassRefuses file why → RefusedBy file why
  -- "After them 8, 9": "a type has no closed value"
  by_empty_type : why ≡ EmptyType → Hollow file → RefusedBy file why
  -- and "a source parameter's least depth exceeds D"
  by_depth : why ≡ DepthTooSmall → Shallow file → RefusedBy file why
  -- 02, Slip 4: "the type named by NA has another form, tested straight after 9" 15
  by_spelling : why ≡ BadSpelling → Misspelled file → RefusedBy file why
