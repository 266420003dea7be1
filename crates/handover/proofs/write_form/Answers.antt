-- The length that was written is within the array: `written_within`.
use Rattle.std.specs.Prelude.{Ok}
use Rattle.std.proofs.Common.{◌≡◌, sym, ◌∙◌, ℕ, ◌≤◌, arith, length-take-le}
use Rattle.canonical.specs.Canonical.{Form, outcome}
use Rattle.handover.proofs.Room.{written_within}
use Rattle.handover.proofs.write_form.Goals as goal
use Rattle.checker.specs.Verdicts.{Verdict}

within : (o : Verdict) (f : Form) (room k : ℕ) → o ≡ outcome f room → o ≡ Ok k → k ≤ room
within o f room k e is = written_within f room k (sym e ∙ is)

pub slice_bounds-form-end-in-Ok : goal.slice_bounds-form-end-in-Ok
slice_bounds-form-end-in-Ok c =
    sym (length-take-le _ _ (omega (arith, within _ _ _ _ c.write_form-outcome.ensures.answer c.in-Ok.is, c.write_form-outcome.auto.out)))
