-- Where a case waits on an open part: only a case that looks at an input part waits, and the registers say so.
-- Rests on specs/Stepping, on machine's Records and on reach's Evaluation.
use Prim.Native.Nat.{ℕ, ◌<◌}
use mathlib.Core.Path.{◌≡◌, sym, ap, subst}
use mathlib.Core.Bool.{Bool, true, false}
use mathlib.Core.List.{List, [], ◌∷◌}
use lib.Dec.{eqb}
use Rattle.reach.specs.Base.{pick}
use Rattle.reach.specs.Syntax.{variable, call, construct, case, let_in, target, []ₑ, ◌∷ₑ◌, Alternatives, Program}
use Rattle.reach.specs.Parts.{Parts, Place}
use Rattle.reach.specs.Eval.{State, evaluating, inspecting, uncovered, stuck, Env, Frame, waiting, fields, Question, Next, demands, lacks, stops, goes, waits, view, next}
use Rattle.reach.specs.RuleFile.{Declarations}
use Rattle.reach.proofs.Base.{clash}
use Rattle.reach.proofs.Evaluation.{answer_waits}
use Rattle.machine.specs.Cells.{cell_of}
use Rattle.machine.specs.Records.{no_case, Control, part_in, StateAt, inspecting_at, FramesAt, waiting_at}
use Rattle.registers.specs.declared.Registers.{Registers}
use Rattle.registers.specs.Stepping.{declarations_of, control_in, StandsFor}

-- the state of a case that waits on the part of a question
abbrev pub Inspects : State → Question → Type 0
Inspects s q = (alts : Alternatives) × (env : Env) × (fs : List Frame) × (s ≡ inspecting q.place (waiting alts env ∷ fs))

view_waits : (p : Program) (s : State) (q : Question) → view p s ≡ waits q → Inspects s q
unfolding view
view_waits p (evaluating (variable n) env fs) q h = absurd (clash (cc))
view_waits p (evaluating (call f es) env fs) q h = absurd (clash (cc))
view_waits p (evaluating (construct t c []ₑ) env []) q h = absurd (clash (cc))
view_waits p (evaluating (construct t c (x ∷ₑ es)) env []) q h = absurd (clash (cc))
view_waits p (evaluating (construct t c []ₑ) env (fields y ys outer ∷ fs)) q h = absurd (clash (cc))
view_waits p (evaluating (construct t c (x ∷ₑ es)) env (fields y ys outer ∷ fs)) q h = absurd (clash (cc))
view_waits p (evaluating (construct t c es) env (waiting alts outer ∷ fs)) q h = absurd (clash (cc))
view_waits p (evaluating (case t e alts) env fs) q h = absurd (clash (cc))
view_waits p (evaluating (let_in t e body) env fs) q h = absurd (clash (cc))
view_waits p (evaluating (target l e) env fs) q h = by_label (eqb l p.label) h
  where
    by_label : (b : Bool) → pick b demands (goes (evaluating e env fs)) ≡ waits q → Inspects (evaluating (target l e) env fs) q
    by_label true g = absurd (clash (cc))
    by_label false g = absurd (clash (cc))
view_waits p (inspecting r []) q h = absurd (clash (cc))
view_waits p (inspecting r (fields y ys outer ∷ fs)) q h = absurd (clash (cc))
view_waits p (inspecting r (waiting alts env ∷ fs)) q h =
    let same : r ≡ q.place = ap place_of h in
    (alts, env, fs, ap (λ x. inspecting x (waiting alts env ∷ fs)) same)
  where
    place_of : Next → Place
    place_of demands = r
    place_of lacks = r
    place_of (stops why) = r
    place_of (goes s) = r
    place_of (waits x) = x.place
view_waits p uncovered q h = absurd (clash (cc))
view_waits p stuck q h = absurd (clash (cc))

pub inspects : (p : Program) (e : Parts) (s : State) (q : Question) → next p e s ≡ waits q → Inspects s q
unfolding next
inspects p e s q h = view_waits p s q (answer_waits e (view p s) q h).0

-- the control is the part, and the frame is a waiting case
looks_at :
    {file : List ℕ} {o : Declarations} {w : List ℕ} {base : ℕ} {cell : Place → ℕ} {c : Control} {f : ℕ} {q : Place} {alts : Alternatives} {env : Env} {fs : List Frame}
    → StateAt file o w base cell c f (inspecting q (waiting alts env ∷ fs)) → (c ≡ part_in (cell q)) × (f < no_case)
looks_at (inspecting_at is frames) = (ap part_in (sym is), a_case frames)
  where
    a_case :
        {file : List ℕ} {o : Declarations} {w : List ℕ} {base : ℕ} {cell : Place → ℕ} {f : ℕ} {alts : Alternatives} {env : Env} {fs : List Frame}
        → FramesAt file o w base cell f (waiting alts env ∷ fs) → f < no_case
    a_case (waiting_at holds small a<f next<f code env rest) = small

pub waits_control :
    {file types functions : List ℕ} {p : Program} {w : List ℕ} {base cells : ℕ} {r : Registers} {e : Parts} {s : State} {q : Question}
    → StandsFor file types functions p w base cells r e s → next p e s ≡ waits q → (control_in r ≡ part_in (cell_of w q.place)) × (r.frame < no_case)
waits_control {file} {types} {functions} {p} {w} {base} {r = r} {e} {s} {q} stands asks =
    let (alts, env, fs, is) = inspects p e s q asks in
    looks_at (subst (λ (y : State). StateAt file (declarations_of file types functions) w base (cell_of w) (control_in r) r.frame y) is stands.state)
