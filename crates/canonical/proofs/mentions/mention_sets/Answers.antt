-- By cases of the rule.
use borrow.Author.Tests.{eq-eqb, ne_eqb}
use Rattle.form.specs.Mentions.{sets_of}
use Rattle.canonical.proofs.mentions.mention_sets.Goals as goal

pub returns-then-node-eq-WHILE : goal.returns-then-node-eq-WHILE
unfolding sets_of
returns-then-node-eq-WHILE c = rw (eq-eqb _ 5 c.if-node-eq-WHILE.true) c.mention_two.ensures

pub returns : goal.returns
unfolding sets_of
returns c = rw (ne_eqb _ 5 c.if-node-eq-WHILE.false) c.mention_one.ensures
