use Prim.Native.Nat.{min}
use mathlib.Core.Path.{◌≡◌}
use lib.ListN.{length, take}
use Rattle.std.proofs.lemmas.List.{length-take-le}
use native.Mathlib.Omega.{arith}
use Rattle.writer.specs.Writing.{cleared}
use Rattle.writer.proofs.clear.Goals as goal

pub returns : goal.returns
unfolding cleared
returns c =
    let a = c.args in
    let count = min a.count (length a.out.now) in
    let front : length (take count a.out.now) ≡ count = length-take-le count a.out.now (omega arith) in
    rw (c.fill.ensures.after (λ y e. e), c.min-count.ensures, front)
