-- The byte of the bit is read if there is one; past the end every bit is 0.
use mathlib.Core.Path.{refl, sym}
use native.Mathlib.Omega.{arith}
use Rattle.bits.specs.Fields.{bit_at}
use Rattle.bits.proofs.Laws.{bit_past}
use Rattle.bits.proofs.bit.Goals as goal

pub returns-then-byte-src : goal.returns-then-byte-src
unfolding bit_at
returns-then-byte-src c = refl

pub returns-else-byte-src : goal.returns-else-byte-src
returns-else-byte-src c = sym (bit_past _ _ (omega arith))
