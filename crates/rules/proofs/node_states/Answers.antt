-- By cases on the rule's code; the code's n is the machine's.
use native.Mathlib.Omega.{arith}
use mathlib.Core.Path.{◌∙◌, sym, ap, refl}
use mathlib.Core.Bool.{true}
use borrow.Author.Tests.{ne_eqb}
use Rattle.semantics.specs.Conditions.{c70, c71, c72, c73}
use Rattle.search.specs.Named.{naming}
use Rattle.rules.specs.Obligations.{obligations_in}
use Rattle.rules.proofs.Naming.{plain, done, before_silent}
use Rattle.rules.proofs.node_states.Goals as goal

pub returns-in-2 : goal.returns-in-2
unfolding obligations_in
returns-in-2 c = rw c.in-2.is ((rw c.states_in-n.ensures at c.sequence_states.ensures) _)

pub returns-in-3 : goal.returns-in-3
unfolding obligations_in
returns-in-3 c = rw c.in-3.is ((rw c.states_in-n.ensures at c.parallel_states.ensures) _)

pub returns-in-4 : goal.returns-in-4
unfolding obligations_in
returns-in-4 c = rw c.in-4.is (c.if_states.ensures _ _)

pub returns-in-5 : goal.returns-in-5
unfolding obligations_in
returns-in-5 c = rw c.in-5.is (c.while_states.ensures _ _)

pub returns-in_default : goal.returns-in_default
unfolding obligations_in c70 c71 c72 c73
returns-in_default c =
    rw (ne_eqb c.args.node.rule 0 (omega arith), ne_eqb c.args.node.rule 1 (omega arith), ne_eqb c.args.node.rule 2 (omega arith), ne_eqb c.args.node.rule 3 (omega arith), ne_eqb c.args.node.rule 4 (omega arith), ne_eqb c.args.node.rule 5 (omega arith))
    (rw c.states_in-n.ensures at (c.common_states.ensures true)
    ∙ sym (ap naming (before_silent _ _ _ (plain _ refl (plain _ refl (plain _ refl (plain _ refl done)))))))
