-- `report::report` meets its contract: each answer of the search is printed as the definition says, and the list that is printed lies in its slice.
-- Rests on Answers and on reporting's Reports.
use lib.Seq.{length-take-le}
use mathlib.Core.Path.{refl, sym, ◌∙◌}
use native.Mathlib.Omega.{arith}
use Rattle.search.proofs.Called.{searched_so}
use Rattle.reporting.proofs.Reports.{refusal_reported, list_answer, list_inside}
use Rattle.report.proofs.Answers.{text_refuses, list_reported}
use Rattle.std.proofs.Common.{rules}
use Rattle.report.proofs.report.Goals as goal

pub returns-in-Err : goal.returns-in-Err
returns-in-Err c =
    refusal_reported text_refuses c.in-Err.why (searched_so c.search.ensures) (sym c.in-Err.is ∙ c.search.ensures.answer_is) c.refusal_text.ensures

pub slice_bounds-list_text-end : goal.slice_bounds-list_text-end
slice_bounds-list_text-end c =
    omega (
      arith,
      list_inside (searched_so c.search.ensures)
          (list_answer (searched_so c.search.ensures) c.in-Ok.listed (sym c.in-Ok.is ∙ c.search.ensures.answer_is) c.length.ensures refl),
    )

pub slice_bounds-list_text-end-in-Ok : goal.slice_bounds-list_text-end-in-Ok
slice_bounds-list_text-end-in-Ok c =
    sym (length-take-le _ _ (omega (
      arith,
      list_inside (searched_so c.search.ensures)
          (list_answer (searched_so c.search.ensures) c.in-Ok.listed (sym c.in-Ok.is ∙ c.search.ensures.answer_is) c.length.ensures refl),
    )))

pub returns-in-Ok : goal.returns-in-Ok
returns-in-Ok c =
    list_reported (searched_so c.search.ensures)
    (list_answer (searched_so c.search.ensures) c.in-Ok.listed (sym c.in-Ok.is ∙ c.search.ensures.answer_is) c.length.ensures c.is_full.ensures)
    (λ i. search rules) c.search.auto.list c.list_text.ensures
