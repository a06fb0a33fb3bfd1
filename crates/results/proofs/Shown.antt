-- What a result shows: the refusal that a `?` hands on, and how a run ended on which depth. Rests on the library's Result and on specs/Results.
use Prim.Native.Nat.{ℕ}
use mathlib.Core.Path.{◌≡◌, ap, ◌∙◌}
use Rattle.std.specs.Prelude.{Result, Ok, Err, IsErr, IsErrAnd}
use Rattle.std.proofs.lemmas.Result.{err_from_is_err_and}
use Rattle.reach.specs.declared.Refusal.{Refusal}
use Rattle.reach.specs.declared.Outcome.{Outcome}
use Rattle.results.specs.declared.Ran.{Ran}
use Rattle.results.specs.Results.{ran_so}

pub handed_on : {T : Type 0} {why : Refusal} (r : Result T Refusal) → IsErr r × IsErrAnd r (λ d. d ≡ why) → r ≡ Err why
handed_on r gives = let p = err_from_is_err_and r gives.1 in p.1 ∙ ap Err p.2

pub ran_shows : (o x : Outcome) (deep d : ℕ) → ◌≡◌ {A = Result Ran Refusal} (Ok (ran_so o deep)) (Ok (ran_so x d)) → (o ≡ x) × (deep ≡ d)
ran_shows o x deep d is = (
  ap (λ (r : Result Ran Refusal). elim r [ Ok t ↦ t.outcome | Err why ↦ x ]) is,
  ap (λ (r : Result Ran Refusal). elim r [ Ok t ↦ t.depth | Err why ↦ d ]) is,
)
