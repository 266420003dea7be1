-- What the look at the record found decides.
use mathlib.Core.Path.{◌≡◌, refl, sym, ap, ◌∙◌}
use mathlib.Core.Bool.{true}
use native.Mathlib.Omega.{arith}
use Rattle.std.specs.Prelude.{is_some}
use Rattle.frame.specs.Slots.{held, total, well_formed, left_over}
use Rattle.frame.proofs.Frames.{well}
use Rattle.admission.proofs.Looking.{found_some, found_end}
use Rattle.admission.proofs.left_over.Goals.{In-Some}
use Rattle.admission.proofs.left_over.Goals as goal

-- A well-formed record, and where its last slot ends.
found : (c : In-Some) → let f = c.args.frame in (well_formed f ≡ true) × (c.in-Some.end ≡ total (held f))
found c = found_end (well_formed c.args.frame) _ _ _ c.laid.ensures c.in-Some.is

pub overflow_sub-result : goal.overflow_sub-result
overflow_sub-result c =
    let known = found (goal.at.overflow_sub-result c).In-Some in
    omega (arith, known.1, (well _ known.0).within)

pub returns-in-Some : goal.returns-in-Some
unfolding left_over
returns-in-Some c =
    let known = found (goal.at.returns-in-Some c).In-Some in
    rw (known.0, known.1) refl

pub returns-in-None : goal.returns-in-None
unfolding left_over
returns-in-None c =
    let f = c.args.frame in
    rw (sym (found_some (well_formed f) _ _ c.laid.ensures) ∙ ap is_some c.in-None.is) refl
