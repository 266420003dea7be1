-- Tables with different mixes differ; otherwise their bits are compared.
use mathlib.Core.Path.{sym, ◌∙◌}
use native.Mathlib.Omega.{arith}
use borrow.Author.Tests.{ne_eqb}
use lib.Dec.{eqb}
use Rattle.bits.specs.Fields.{bits_at}
use Rattle.canonical.specs.Refinement.{members_in}
use Rattle.canonical.proofs.Equal.{mix_of_members}
use Rattle.canonical.proofs.tables.same_tables.Goals as goal

pub returns-then-mixes-j : goal.returns-then-mixes-j
returns-then-mixes-j c =
    let a = c.args in
    sym (ne_eqb _ _ (λ same. c.if-mixes-j.true (mix_of_members _ a.run a.mixes.now a.i c.requires.3 a.j (omega (arith, c.requires.2)) same)))

pub returns : goal.returns
unfolding members_in
returns c =
    let a = c.args in
    let first = c.table_cursor.ensures.0 in
    let second = c.table_cursor-2.ensures.0 in
    c.same_bits.ensures ∙ (λ i. eqb (bits_at a.src.now (first i) a.run.width) (bits_at a.src.now (second i) a.run.width))
