-- The number is the code of the outcome, which it determines (`form_decoded`).
use mathlib.Core.Path.{◌∙◌, ap}
use Rattle.report.specs.Code.{code_of, decoded}
use Rattle.canonical.proofs.Theorems.{form_decoded}
use Rattle.canonical.proofs.form_number.Goals as goal

pub returns : goal.returns
returns c =
    let w = c.write_form.ensures in
    let number = c.code_of.ensures ∙ ap code_of w.answer in
    record {
      number = number;
      outcome = ap decoded number ∙ form_decoded _ _ _;
      bytes = w.bytes;
    }
