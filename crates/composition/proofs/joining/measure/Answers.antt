-- The statement of the first file ends at its end.
use mathlib.Core.Path.{◌∙◌, ap}
use native.Mathlib.Omega.{arith}
use Rattle.writer.specs.Packing.{bytes_for}
use Rattle.composition.proofs.joining.measure.Goals as goal

pub returns : goal.returns
returns c =
    record {
      handler_is = c.file_bytes-handler.ensures ∙ ap bytes_for (omega (arith, c.requires.3.starts));
      proof_is = c.file_bytes-proof.ensures ∙ ap bytes_for c.proof_bits.ensures.0;
    }
