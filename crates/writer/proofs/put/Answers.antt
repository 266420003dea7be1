-- A field that fits is written by `put_bits`; any other leaves the bytes as they are.
use mathlib.Core.Bool.{true}
use mathlib.Core.Path.{◌≡◌, sym, ◌∙◌}
use Rattle.bits.specs.Fields.{is_there}
use Rattle.bits.proofs.Laws.{in_full}
use Rattle.writer.specs.Writing.{put_field}
use Rattle.writer.proofs.put.Goals.{Then-is_there}
use Rattle.writer.proofs.put.Goals as goal

-- What the test implies.
fits : (c : Then-is_there) → let a = c.args in is_there a.out.now a.at a.width ≡ true
fits c = sym c.is_there.ensures ∙ c.if-is_there.true

pub put_bits-requires : goal.put_bits-requires
put_bits-requires c =
    let a = c.args in
    let t = in_full a.out.now a.at a.width (fits (goal.at.put_bits-requires c).Then-is_there) in
    (t.most, t.inside, t.fits)

pub returns-then-is_there : goal.returns-then-is_there
unfolding put_field
returns-then-is_there c = rw (fits (goal.at.returns-then-is_there c).Then-is_there) c.put_bits.ensures

pub returns-else-is_there : goal.returns-else-is_there
unfolding put_field
returns-else-is_there c = rw (← c.is_there.ensures, c.if-is_there.false)
