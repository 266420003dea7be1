-- A copy of 0 is 0, and so the front is `tabulate` of 0.
use Prim.Native.Nat.{min}
use mathlib.Core.Path.{◌≡◌}
use native.Mathlib.Omega.{arith}
use lib.ListN.{length}
use Rattle.std.proofs.lemmas.List.{length-take-le}
use Rattle.derivation.specs.Tables.{work_words, written}
use Rattle.derivation.proofs.Buffers.{tabulate_zeros}
use Rattle.derivation.proofs.words.clear.Goals as goal

pub returns : goal.returns
unfolding written
returns c =
    let work = c.args.work.now in
    let count : c.min-count.result ≡ min work_words (length work) = omega arith in
    rw (c.fill.ensures.after (λ y e. e), count, length-take-le (min work_words (length work)) work (omega arith), tabulate_zeros)
