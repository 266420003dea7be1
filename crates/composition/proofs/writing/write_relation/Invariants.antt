-- After s rounds the rows below s are written; `row_more` adds one.
use Prim.Native.Nat.{◌-◌, ◌*◌, ◌≤◌}
use mathlib.Core.Path.{◌≡◌}
use Rattle.writer.specs.Writing.{put_bits}
use Rattle.rules.specs.Words.{word_relation}
use Rattle.states.specs.Sets.{bits_where}
use Rattle.composition.proofs.TableBits.{pairs}
use Rattle.composition.proofs.writing.write_relation.Given as goal

abbrev pub invariant-loop-s : goal.invariant-loop-s
invariant-loop-s l =
    (l.s ≤ l.n) × (l.out ≡ put_bits l.initial.out l.at (l.n * l.s) (bits_where (l.n * l.s) (pairs l.n (word_relation l.n l.words l.r))))

abbrev pub decreases-loop-s : goal.decreases-loop-s
decreases-loop-s l = l.n - l.s
