-- `namereport::names` meets its contract: the names of the list that the search wrote are written as the definition says, and that list lies in its slice.
-- Rests on Answers and on reporting's Reports.
use lib.Seq.{length-take-le}
use mathlib.Core.Path.{refl, sym, ◌∙◌}
use native.Mathlib.Omega.{arith}
use Rattle.names.proofs.Demands.{refused_names}
use Rattle.search.proofs.Called.{searched_so}
use Rattle.reporting.proofs.Reports.{refusal_reported, list_answer, list_inside}
use Rattle.namereport.proofs.Answers.{given, names_reported}
use Rattle.namereport.proofs.names.Goals as goal

pub returns-in-Err : goal.returns-in-Err
returns-in-Err c =
    refusal_reported refused_names c.in-Err.why (searched_so c.search.ensures) (sym c.in-Err.is ∙ c.search.ensures.answer_is) c.refusal_text.ensures

pub slice_bounds-list_names-end : goal.slice_bounds-list_names-end
slice_bounds-list_names-end c =
    omega (
      arith,
      list_inside (searched_so c.search.ensures)
          (list_answer (searched_so c.search.ensures) c.in-Ok.listed (sym c.in-Ok.is ∙ c.search.ensures.answer_is) c.length.ensures refl),
    )

pub slice_bounds-list_names-end-in-Ok : goal.slice_bounds-list_names-end-in-Ok
slice_bounds-list_names-end-in-Ok c =
    sym (length-take-le _ _ (omega (
      arith,
      list_inside (searched_so c.search.ensures)
          (list_answer (searched_so c.search.ensures) c.in-Ok.listed (sym c.in-Ok.is ∙ c.search.ensures.answer_is) c.length.ensures refl),
    )))

pub list_names-requires : goal.list_names-requires
list_names-requires c =
    given (searched_so c.search.ensures)
    (list_answer (searched_so c.search.ensures) c.in-Ok.listed (sym c.in-Ok.is ∙ c.search.ensures.answer_is) c.length.ensures refl)

pub returns-in-Ok : goal.returns-in-Ok
returns-in-Ok c =
    names_reported (searched_so c.search.ensures)
    (list_answer (searched_so c.search.ensures) c.in-Ok.listed (sym c.in-Ok.is ∙ c.search.ensures.answer_is) c.length.ensures c.is_full.ensures)
    c.search.auto.list c.list_names.ensures
