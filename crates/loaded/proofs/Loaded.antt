-- What a file that was loaded says of its tables, its goal and the words that a run asks for, which the check accepts.
-- Rests on reach's Limits and on rulefile's Tabled.
use Prim.Native.Nat.{ℕ, ◌≤◌}
use mathlib.Core.Path.{◌≡◌, ap, subst}
use mathlib.Core.List.{List, ◌++◌}
use native.Mathlib.Omega.{arith}
use lib.ListN.{length, take, drop, length-take}
use lib.Seq.{drop_at}
use Rattle.std.specs.Prelude.{Ok}
use Rattle.reach.specs.Limits.{work_words}
use Rattle.reach.specs.Syntax.{Program}
use Rattle.reach.specs.Answers.{check, accepted}
use Rattle.reach.proofs.Limits.{accepted_keeps}
use Rattle.rulefile.specs.declared.Loaded.{Loaded}
use Rattle.rulefile.specs.Loading.{Tabled, Loads}
use Rattle.rulefile.proofs.Tabled.{program_goal}

-- an accepted file is loaded as one
pub loaded_as : (file : List ℕ) (r : Loaded) (loads : Loads file (Ok r)) {p : Program} → check file ≡ accepted p → Tabled file r p
loaded_as file r loads {p} checked =
    let one : loads.0 ≡ p = cc (loads.1, checked) in
    subst (Tabled file r) one loads.2

-- a part that is there is as long as it says
pub taken_length : (n : ℕ) (l : List ℕ) → n ≤ length l → length (take n l) ≡ n
taken_length n l fits = omega (arith, length-take n l)

-- The tables and the goal of a file that was loaded.
module _ (file : List ℕ) (r : Loaded) (here : Loads file (Ok r)) where
  pub steps_small : r.goal.steps ≤ 4096
  steps_small = omega (arith, (program_goal here.2).steps_is, (accepted_keeps file here.0 here.1).steps_limit)

  -- the words behind those that were lent on are as before
  pub behind_kept :
      (v w : List ℕ) {words : ℕ} → words ≡ work_words r.goal.steps → length v ≡ words
      → (p : Program) → check file ≡ accepted p → drop (work_words p.steps) (v ++ drop words w) ≡ drop (work_words p.steps) w
  behind_kept v w {words} enough same p checked =
      let one : here.0 ≡ p = cc here.1 in
      let z : work_words p.steps ≡ words = omega (arith, (program_goal here.2).steps_is, ap (λ (x : Program). x.steps) one) in
      rw z (drop_at v (drop words w) words same)
