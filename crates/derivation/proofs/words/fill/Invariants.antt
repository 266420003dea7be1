-- Once all are 0, the words below j are the tables' and the others 0: those passed over are 0 in the tables too.
use Prim.Native.Nat.{◌-◌}
use mathlib.Core.Path.{◌≡◌}
use Rattle.derivation.specs.Tables.{table_word, written}
use Rattle.derivation.proofs.Buffers.{upto}
use Rattle.derivation.proofs.words.fill.Given as goal

abbrev pub invariant-loop-j : goal.invariant-loop-j
invariant-loop-j l = l.work ≡ written (upto (table_word l.src l.n l.sets l.relations) l.j) l.fn.work

abbrev pub decreases-loop-j : goal.decreases-loop-j
decreases-loop-j l = l.used - l.j
