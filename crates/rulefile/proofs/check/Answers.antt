-- `rulefile::check` meets its contract: a file is accepted where it is loaded, and else refused as it is there.
use Prim.Native.Nat.{ℕ}
use mathlib.Core.Path.{◌≡◌, refl}
use mathlib.Core.List.{List}
use Rattle.std.specs.Prelude.{Result, Ok, Err, MatchResult, IsOkAnd}
use Rattle.reach.specs.declared.Refusal.{Refusal}
use Rattle.rulefile.specs.declared.Loaded.{Loaded}
use Rattle.rulefile.specs.Loading.{Loads}
use Rattle.rulefile.specs.Answering.{CheckPromise}
use Rattle.rulefile.proofs.check.Goals as goal

answered : (s : List ℕ) (r : Result Loaded Refusal) (t : Result (Unit {0}) Refusal) (P : Loaded → Unit {0} → Type 0) → Loads s r
    → MatchResult r (λ x. IsOkAnd t (P x)) (λ why. t ≡ Err why) → CheckPromise s t
answered s (Ok r) (Ok x) P loads told = record { answer_is = rw loads.1 refl }
answered s (Ok r) (Err why) P loads told = absurd told
answered s (Err why) t P loads told = record { answer_is = rw loads told }

pub returns : goal.returns
returns c = answered _ _ _ _ c.load.ensures c.map.ensures.cases
