-- `verdicts::verdict_after` meets its contract, by what the path lists, and for a UN by the verdict before. Rests on reach's Lists.
use mathlib.Core.Path.{◌≡◌, refl, sym, ◌∙◌}
use Rattle.reach.specs.declared.Kind.TheVariants.{RE, UN, MI}
use Rattle.reach.specs.declared.Verdict.{Verdict}
use Rattle.reach.specs.declared.Verdict.TheVariants.{Found, Undecided, None}
use Rattle.reach.proofs.Base.{clash}
use Rattle.reach.proofs.Lists.{found_with_reach, found_with_unfinished, undecided_with_unfinished, same_with_missing}
use Rattle.verdicts.specs.Verdicts.{WithEntry}
use Rattle.verdicts.proofs.verdict_after.Goals as goal

pub returns-in-Some-RE : goal.returns-in-Some-RE
returns-in-Some-RE c = let kind : c.in-Some-RE.field-0 ≡ RE = rw c.in-Some-RE.is at c.in-Some-RE.field-0-is in rw c.in-Some-RE.is (rw kind (λ counts is. sym (found_with_reach counts)))

-- any verdict but none stays with an unfinished entry
kept : (v : Verdict) → (v ≡ None → ⊥) → WithEntry v UN v
kept Found some counts is = sym (found_with_unfinished counts (sym is))
kept Undecided some counts is = sym (undecided_with_unfinished counts (λ found. clash (cc (is, found))))
kept None some counts is = absurd (some refl)

pub returns-in-None-verdict : goal.returns-in-None-verdict
returns-in-None-verdict c =
    let kind : c.in-Some-UN.field-0 ≡ UN = rw c.in-Some-UN.is at c.in-Some-UN.field-0-is in rw c.in-Some-UN.is (rw kind
    (λ counts is. sym (undecided_with_unfinished counts (λ found. clash (cc (is, found, c.in-None-verdict.is))))))

pub returns-in_default : goal.returns-in_default
returns-in_default c = let kind : c.in-Some-UN.field-0 ≡ UN = rw c.in-Some-UN.is at c.in-Some-UN.field-0-is in rw c.in-Some-UN.is (rw kind (kept c.args.verdict c.in_default.not-None))

pub returns-in-Some-MI : goal.returns-in-Some-MI
returns-in-Some-MI c = let kind : c.in-Some-MI.field-0 ≡ MI = rw c.in-Some-MI.is at c.in-Some-MI.field-0-is in rw c.in-Some-MI.is (rw kind (λ counts is. is ∙ sym (same_with_missing counts)))
