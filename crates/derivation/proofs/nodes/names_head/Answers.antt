-- Read at once, the four names are those that are read in turn.
use mathlib.Core.Path.{sym, ◌∙◌}
use mathlib.Core.Bool.{and-eq-true_iff}
use native.Mathlib.Omega.{arith}
use borrow.Author.Tests.{ltb-true}
use Rattle.derivation.proofs.Heads.{four_names}
use Rattle.derivation.proofs.nodes.names_head.Goals as goal

pub returns-then-all_there : goal.returns-then-all_there
returns-then-all_there c =
    let tests = simp and-eq-true_iff at (sym c.all_there.ensures ∙ c.if-all_there.true) in
    c.loop_head.ensures
    ∙ sym (four_names _ _ _ _ _ _ _ (sym c.read.ensures ∙ c.in-Some.is)
    (omega (arith, ltb-true)) (omega (arith, ltb-true)) (omega (arith, ltb-true)) (omega (arith, ltb-true)))
