-- The arms say which values the operands are.
use Rattle.evaluation.proofs.apply_op.Goals as goal

pub of_integers-requires : goal.of_integers-requires
of_integers-requires c =
    let operands = c.in-Integers-Integers in
    rw (operands.is-0, operands.is-1) at c.requires

pub returns-in-Truths-Truths : goal.returns-in-Truths-Truths
returns-in-Truths-Truths c =
    let operands = c.in-Truths-Truths in
    rw (operands.is-0, operands.is-1) (c.of_truths.ensures c.args.n)
