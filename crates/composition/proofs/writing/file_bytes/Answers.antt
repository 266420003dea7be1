-- The quotient is the definition.
use mathlib.Core.Path.{refl}
use Rattle.writer.specs.Packing.{bytes_for}
use Rattle.composition.proofs.writing.file_bytes.Goals as goal

pub returns : goal.returns
unfolding bytes_for
returns c = refl
