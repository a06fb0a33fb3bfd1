-- The number of an answer, by what the call handed back. Rests on specs/Packing and on Results of crate results.
use Prim.Native.Nat.{ℕ, ◌+◌, ◌*◌}
use mathlib.Core.Path.{◌≡◌, refl, ap}
use Rattle.std.specs.Prelude.{Result, Ok, Err}
use Rattle.reach.specs.declared.Refusal.{Refusal}
use Rattle.reach.specs.declared.Refusal.TheVariants.{ListFull}
use Rattle.reach.specs.declared.Outcome.{Outcome}
use Rattle.reach.specs.declared.Verdict.{Verdict}
use Rattle.reach.specs.Words.{number_of, steps_of}
use Rattle.reach.specs.Answers.{accepted, turned_back, no_search, complete, cut_short, no_run, ran}
use Rattle.lists.specs.Printouts.{no_text, of_length}
use Rattle.reach.proofs.Base.{clash}
use Rattle.results.specs.declared.Listed.{Listed}
use Rattle.results.specs.Results.{check_result, search_result, list_length_in, ran_so, run_result, text_result, text_length_in}
use Rattle.results.proofs.Shown.{ran_shows}
use Rattle.packing.specs.Packing.{verdict_number, outcome_number, check_number, search_number, run_number, text_number, Numbers}

-- The check.

pub accepted_number : Numbers check_result check_number (Ok tt) 0
accepted_number (accepted p) is = refl
accepted_number (turned_back why) is = absurd (clash (cc))

pub refused_number : (why : Refusal) → Numbers check_result check_number (Err why) (number_of why)
refused_number why (accepted p) is = absurd (clash (cc))
refused_number why (turned_back by) is = let same : why ≡ by = cc in ap number_of same

-- The search.

pub no_search_number : (why : Refusal) → Numbers search_result search_number (Err why) (number_of why)
no_search_number why (no_search by) is = let same : why ≡ by = cc in ap number_of same
no_search_number why (complete es) is = absurd (clash (cc))
no_search_number why (cut_short es) is = absurd (clash (cc))

pub complete_number : (n : ℕ) (v : Verdict) → Numbers search_result search_number (Ok (Listed.Complete n v)) (256 * verdict_number v + 65536 * n)
complete_number n v (no_search why) is = absurd (clash (cc))
complete_number n v (complete es) is = ap number_in is
  where
    number_in : Result Listed Refusal → ℕ
    number_in (Err why) = 0
    number_in (Ok (Listed.Complete n v)) = 256 * verdict_number v + 65536 * n
    number_in (Ok (Listed.Full n)) = 0
complete_number n v (cut_short es) is = absurd (clash (cc))

pub full_number : (n : ℕ) → Numbers search_result search_number (Ok (Listed.Full n)) (number_of ListFull + 65536 * n)
full_number n (no_search why) is = absurd (clash (cc))
full_number n (complete es) is = absurd (clash (cc))
full_number n (cut_short es) is = ap (λ (r : Result Listed Refusal). number_of ListFull + 65536 * list_length_in r) is

-- The closed run.

pub no_run_number : (why : Refusal) → Numbers run_result run_number (Err why) (number_of why)
no_run_number why (no_run by) is = let same : why ≡ by = cc in ap number_of same
no_run_number why (ran o deep) is = absurd (clash (cc))

pub ran_number : (o : Outcome) (deep : ℕ)
    → Numbers run_result run_number (Ok (ran_so o deep)) (256 * outcome_number o + 65536 * steps_of o + 4294967296 * deep)
ran_number o deep (no_run by) is = absurd (clash (cc))
ran_number o deep (ran other d) is =
    let (same, as-deep) = ran_shows o other deep d is in
    rw (same, as-deep) refl

-- The text of a list.

pub no_text_number : (why : Refusal) → Numbers text_result text_number (Err why) (number_of why)
no_text_number why (no_text by) is = let same : why ≡ by = cc in ap number_of same
no_text_number why (of_length n) is = absurd (clash (cc))

pub length_number : (n : ℕ) → Numbers text_result text_number (Ok n) (65536 * n)
length_number n (no_text why) is = absurd (clash (cc))
length_number n (of_length m) is = ap (λ (r : Result ℕ Refusal). 65536 * text_length_in r) is
