-- The demands of the request, said of the call `check`. A reviewer reads this file with the contract in src/lib.rt: the sentence that a theorem answers stands
-- above it, and its statement uses definitions of specs/ only: `Passes`, `FirstPassRefuses`, `RefusedBy` and the like are those of reach's Conditions.
-- `CheckPromise file r` is the contract: the call answered r. Nothing is asked of the file.
-- That each call stops and touches nothing outside its buffers is what the check proves of every function. The same of the calls `search` and `run` stands in
-- the Demands of crates search and closed.
-- Rests on reach's Conditions and Refusals.
use Prim.Native.Nat.{ℕ, ◌≤◌, ◌<◌}
use native.Mathlib.Omega.{arith}
use mathlib.Core.Path.{◌≡◌, refl, ap}
use mathlib.Core.Logic.Iff
use mathlib.Core.Logic.{◌⊎◌, ⊎_elim, ◌↔◌}
use mathlib.Core.List.{List, [], ◌∷◌}
use mathlib.Core.Option.{some}
use lib.ListN.{length}
use Rattle.std.specs.Prelude.{Result, Ok, Err}
use Rattle.reach.specs.declared.Refusal.{Refusal}
use Rattle.reach.specs.declared.Refusal.TheVariants.{Truncated, UnexpectedMark, OutOfRange, UnknownNumber, UnknownCode, TypeMismatch, TrailingBytes, EmptyType, DepthTooSmall, BadSpelling}
use Rattle.reach.specs.Base.{◌∈◌}
use Rattle.reach.specs.Words.{number_of}
use Rattle.reach.specs.Limits.{file_limit}
use Rattle.reach.specs.Syntax.{Program}
use Rattle.reach.specs.Parts.{Parts}
use Rattle.reach.specs.Types.{depth_of, ValueOf, LeastDepth}
use Rattle.reach.specs.Names.{Spells}
use Rattle.reach.specs.RuleFile.{Outline}
use Rattle.reach.specs.Answers as Answers
use Rattle.reach.specs.Conditions.{FirstPassRefuses, SecondPassRefuses, ThirdPassRefuses, Passes, AllTypesInhabited, SourceParameter, Shallow, NamesSpelled, NamesOtherwise, Misspelled, Acceptable, RefusedBy}
use Rattle.reach.proofs.Base.{clash}
use Rattle.reach.proofs.Refusals.{turned_back_by}
use Rattle.reach.proofs.Conditions as Conditions
use Rattle.results.specs.Results.{check_result}
use Rattle.rulefile.specs.Answering.{CheckPromise}

-- what the result shows of the definition's answer
accepted_shows : (c : Answers.Checked) → (check_result c ≡ Ok tt) ↔ ((p : Program) × (c ≡ Answers.accepted p))
accepted_shows (Answers.accepted p) = (λ is. (p, refl), λ h. refl)
accepted_shows (Answers.turned_back why) = (λ is. absurd (clash (cc)), λ h. absurd (clash (cc h.1)))

refused_shows : (c : Answers.Checked) (why : Refusal) → (check_result c ≡ Err why) ↔ (c ≡ Answers.turned_back why)
refused_shows (Answers.accepted p) why = (λ is. absurd (clash (cc)), λ is. absurd (clash (cc)))
refused_shows (Answers.turned_back by) why = (λ is. let same : by ≡ why = cc in ap Answers.turned_back same, λ is. ap check_result is)

-- GO gives all parameters one depth: so a parameter's own depth is D
abbrev Within : Outline → Type 0
Within o = (t : ℕ) → SourceParameter o t → (d : ℕ) × LeastDepth o.declared.types t d × (d ≤ depth_of o.goal.depths)

abbrev Beyond : Outline → Type 0
Beyond o = (t : ℕ) × SourceParameter o t × ((d : ℕ) × LeastDepth o.declared.types t d × (depth_of o.goal.depths < d))

module _ (file : List ℕ) where
  acceptable_within : Acceptable file ↔ ((o : Outline) × Passes file o × AllTypesInhabited o.declared × Within o × NamesSpelled o)
  acceptable_within = (
    λ (o, passes, inhabited, fit, spelled). (o, passes, inhabited, (Conditions.all_within file o passes.outlined).0 fit, spelled),
    λ (o, passes, inhabited, fit, spelled). (o, passes, inhabited, (Conditions.all_within file o passes.outlined).1 fit, spelled),
  )

  shallow_beyond : Shallow file ↔ ((o : Outline) × Passes file o × AllTypesInhabited o.declared × Beyond o)
  shallow_beyond = (
    λ (o, passes, inhabited, deep). (o, passes, inhabited, (Conditions.some_beyond file o passes.outlined).0 deep),
    λ (o, passes, inhabited, deep). (o, passes, inhabited, (Conditions.some_beyond file o passes.outlined).1 deep),
  )

  misspelled_within : Misspelled file ↔ ((o : Outline) × Passes file o × AllTypesInhabited o.declared × Within o × NamesOtherwise o)
  misspelled_within = (
    λ (o, passes, inhabited, fit, otherwise). (o, passes, inhabited, (Conditions.all_within file o passes.outlined).0 fit, otherwise),
    λ (o, passes, inhabited, fit, otherwise). (o, passes, inhabited, (Conditions.all_within file o passes.outlined).1 fit, otherwise),
  )

-- 01, "Turned back": which numbers a pass can give at all. The first gives 1, 2, 3 and 7 only, the third 1 and 3 to 7 only, and the second, by its case of
-- `RefusedBy`, 4 only.
pub first_pass_gives : (file : List ℕ) (why : Refusal) → FirstPassRefuses file why → number_of why ∈ (1 ∷ 2 ∷ 3 ∷ 7 ∷ [])
first_pass_gives file why h = Conditions.first_gives file why h

pub third_pass_gives : (file : List ℕ) (why : Refusal) → ThirdPassRefuses file why → number_of why ∈ (1 ∷ 3 ∷ 4 ∷ 5 ∷ 6 ∷ 7 ∷ [])
third_pass_gives file why h = Conditions.third_gives file why h

module _ (file : List ℕ) (r : Result (Unit {0}) Refusal) (call : CheckPromise file r) where
  -- Demand 1: "returns a result or one of the numbered refusals, each under its own condition only".

  -- A file is accepted exactly where its size is in the limit, the first pass reads an outline of it, all numbers in that outline exist, every body is
  -- read (these are `Passes`), every type has a closed value, every parameter of the source has a least depth of at most D, and the type that NA names,
  -- if there is an NA, has the form of names.
  pub accepted_exactly :
      (r ≡ Ok tt)
      ↔ ((o : Outline) × Passes file o × ((t : ℕ) → t < length o.declared.types → (v : Parts) × ValueOf o.declared.types t v)
      × ((t : ℕ) → SourceParameter o t → (d : ℕ) × LeastDepth o.declared.types t d × (d ≤ depth_of o.goal.depths))
      × ((t : ℕ) → o.named ≡ some t → Spells o.declared.types t))
  accepted_exactly = rw call.answer_is (Iff.trans (accepted_shows (Answers.check file)) (Iff.trans (Conditions.accepted_exactly file) (acceptable_within file)))

  -- A file is refused exactly by the test that it fails first, in the order of 01, "Turned back": the cases of `RefusedBy`.
  pub refused_exactly : (why : Refusal) → (r ≡ Err why) ↔ RefusedBy file why
  refused_exactly why = rw call.answer_is (Iff.trans (refused_shows (Answers.check file) why) (Conditions.turned_back_exactly file why))

  -- The conditions one by one, in the order of the numbers; the sentences are those of the table of "Turned back". With each stands which passes can give it.

  -- 1: "bytes run out in a record, in a body, or before GO is read".
  pub short_exactly : (r ≡ Err Truncated) ↔ (FirstPassRefuses file Truncated ⊎ ThirdPassRefuses file Truncated)
  short_exactly = Iff.trans (refused_exactly Truncated) (Conditions.short_by file)

  -- 2: "a mark is unknown or out of its turn".
  pub mark_exactly : (r ≡ Err UnexpectedMark) ↔ FirstPassRefuses file UnexpectedMark
  mark_exactly = Iff.trans (refused_exactly UnexpectedMark) (Conditions.mark_by file)

  -- 3: "a count, length, D, S, file size, nesting or view is beyond its limit".
  pub range_exactly :
      (r ≡ Err OutOfRange) ↔ ((file_limit < length file) ⊎ (FirstPassRefuses file OutOfRange ⊎ ThirdPassRefuses file OutOfRange))
  range_exactly = Iff.trans (refused_exactly OutOfRange) (Conditions.range_by file)

  -- 4: "a type, constructor, function or variable number does not exist".
  pub stranger_exactly : (r ≡ Err UnknownNumber) ↔ (SecondPassRefuses file ⊎ ThirdPassRefuses file UnknownNumber)
  stranger_exactly = Iff.trans (refused_exactly UnknownNumber) (Conditions.stranger_by file)

  -- 5: "an expression byte above 5, or an alternative byte above 1".
  pub code_exactly : (r ≡ Err UnknownCode) ↔ ThirdPassRefuses file UnknownCode
  code_exactly = Iff.trans (refused_exactly UnknownCode) (Conditions.code_by file)

  -- 6: "an expression's type is not the one expected".
  pub misfit_exactly : (r ≡ Err TypeMismatch) ↔ ThirdPassRefuses file TypeMismatch
  misfit_exactly = Iff.trans (refused_exactly TypeMismatch) (Conditions.misfit_by file)

  -- 7: "bytes follow a body's expression, or GO".
  pub tail_exactly : (r ≡ Err TrailingBytes) ↔ (FirstPassRefuses file TrailingBytes ⊎ ThirdPassRefuses file TrailingBytes)
  tail_exactly = Iff.trans (refused_exactly TrailingBytes) (Conditions.tail_by file)

  -- 8: "a type has no closed value". The passes found nothing.
  pub hollow_exactly :
      (r ≡ Err EmptyType)
      ↔ ((o : Outline) × Passes file o × ((t : ℕ) × (t < length o.declared.types) × ((v : Parts) → ¬ ValueOf o.declared.types t v)))
  hollow_exactly = Iff.trans (refused_exactly EmptyType) (Conditions.hollow_by file)

  -- 9: "a source parameter's least depth exceeds D". The passes found nothing, and every type has a closed value.
  pub shallow_exactly :
      (r ≡ Err DepthTooSmall)
      ↔ ((o : Outline) × Passes file o × ((t : ℕ) → t < length o.declared.types → (v : Parts) × ValueOf o.declared.types t v)
      × ((t : ℕ) × SourceParameter o t × ((d : ℕ) × LeastDepth o.declared.types t d × (depth_of o.goal.depths < d))))
  shallow_exactly = Iff.trans (refused_exactly DepthTooSmall) (Iff.trans (Conditions.shallow_by file) (shallow_beyond file))

  -- 15: "the type named by NA has another form, tested straight after 9" (02, Slip 4). The passes found nothing, every type has a closed value, and each source
  -- parameter has one within D.
  pub spelling_exactly :
      (r ≡ Err BadSpelling)
      ↔ ((o : Outline) × Passes file o × ((t : ℕ) → t < length o.declared.types → (v : Parts) × ValueOf o.declared.types t v)
      × ((t : ℕ) → SourceParameter o t → (d : ℕ) × LeastDepth o.declared.types t d × (d ≤ depth_of o.goal.depths))
      × ((t : ℕ) × (o.named ≡ some t) × ¬ Spells o.declared.types t))
  spelling_exactly = Iff.trans (refused_exactly BadSpelling) (Iff.trans (Conditions.spelling_by file) (misspelled_within file))

  -- 10 to 14 are never given.
  pub others_never : (why : Refusal) → 9 < number_of why → number_of why < 15 → ¬ (r ≡ Err why)
  others_never why high low is =
      let turned = (Conditions.turned_back_exactly file why).1 ((refused_exactly why).0 is) in
      ⊎_elim (λ few. omega (arith, high, few)) (λ same. omega (arith, low, same)) (turned_back_by file why turned)
