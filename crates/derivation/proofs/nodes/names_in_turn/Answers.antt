-- Each name that is there leads to the next, which is read where it ends; K and W come after all four.
use mathlib.Core.Path.{sym, ◌∙◌}
use Rattle.derivation.proofs.Heads.{passed_on, from_P, from_R, from_G, from_Q}
use Rattle.derivation.proofs.nodes.names_in_turn.Goals as goal

pub returns-in_err-p : goal.returns-in_err-p
returns-in_err-p c =
    let a = c.args in
    passed_on _ _ c.from_residual.ensures.1
    ∙ sym (rw c.in_err-p.was at (from_P a.src.now a.tables.sets a.tables.relations a.rule a.at _ c.name_at.ensures))

pub returns-in_err-r : goal.returns-in_err-r
returns-in_err-r c =
    let a = c.args in
    passed_on _ _ c.from_residual-in_err-r.ensures.1
    ∙ sym (rw c.in_err-r.was at (from_R a.src.now a.tables.sets a.tables.relations a.rule a.at _ c.name_at.ensures _ _ c.in_ok-p.was _ c.name_at-2.ensures))

pub returns-in_err-g : goal.returns-in_err-g
returns-in_err-g c =
    let a = c.args in
    passed_on _ _ c.from_residual-in_err-g.ensures.1
    ∙ sym (rw c.in_err-g.was at (from_G a.src.now a.tables.sets a.tables.relations a.rule a.at _ c.name_at.ensures _ _ c.in_ok-p.was _ c.name_at-2.ensures
    _ _ c.in_ok-r.was _ c.name_at-3.ensures))

pub returns-in_err-q : goal.returns-in_err-q
returns-in_err-q c =
    let a = c.args in
    passed_on _ _ c.from_residual-in_err-q.ensures.1
    ∙ sym (rw c.in_err-q.was at (from_Q a.src.now a.tables.sets a.tables.relations a.rule a.at _ c.name_at.ensures _ _ c.in_ok-p.was _ c.name_at-2.ensures
    _ _ c.in_ok-r.was _ c.name_at-3.ensures _ _ c.in_ok-g.was _ c.name_at-4.ensures))

pub returns : goal.returns
returns c =
    let a = c.args in
    c.loop_head.ensures
    ∙ sym (rw c.in_ok-q.was at (from_Q a.src.now a.tables.sets a.tables.relations a.rule a.at _ c.name_at.ensures _ _ c.in_ok-p.was _ c.name_at-2.ensures
    _ _ c.in_ok-r.was _ c.name_at-3.ensures _ _ c.in_ok-g.was _ c.name_at-4.ensures))
