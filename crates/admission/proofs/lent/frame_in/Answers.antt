-- Each arm is the definition's case.
use borrow.Author.Tests.{eq-eqb, ne_eqb}
use lib.ListN.{length}
use Rattle.frame.specs.Lent.{frame_in}
use Rattle.admission.proofs.lent.frame_in.Goals as goal

pub returns-then-numbers-eq-RECORD_NUMBERS : goal.returns-then-numbers-eq-RECORD_NUMBERS
unfolding frame_in
returns-then-numbers-eq-RECORD_NUMBERS c =
    rw (eq-eqb (length c.args.numbers.now) 50 c.if-numbers-eq-RECORD_NUMBERS.true)
    (rw (c.slots_in-slots.ensures, c.number_at-count.ensures, c.number_at.ensures))

pub returns : goal.returns
unfolding frame_in
returns c =
    rw (ne_eqb (length c.args.numbers.now) 50 c.if-numbers-eq-RECORD_NUMBERS.false)
    (rw (c.slots_in-slots.ensures, c.in_full.ensures, c.number_at-count.ensures))
