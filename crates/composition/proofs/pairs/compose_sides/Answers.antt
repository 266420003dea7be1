-- Both forms are loaded; the first condition that does not hold decides, and then the join.
use mathlib.Core.Path.{◌≡◌, sym, ◌∙◌}
use native.Mathlib.Omega.{arith}
use Rattle.joint.specs.Composing.{Side, side_of}
use Rattle.composition.specs.Refinement.{first_unmet, Ready}
use Rattle.composition.proofs.BothPairs.{room_of, ready, met_not, met_all}
use Rattle.composition.proofs.Leaving.{leaves_same, leaves_passed}
use Rattle.composition.proofs.pairs.compose_sides.Goals.{After-ask_roots}
use Rattle.composition.proofs.pairs.compose_sides.Goals as goal

-- Both sides.
abbrev firstSide : After-ask_roots → Side
firstSide c = let a = c.args in side_of a.h1.now a.p1.now

abbrev secondSide : After-ask_roots → Side
secondSide c = let a = c.args in side_of a.h2.now a.p2.now

-- What is unmet of the sides' tables.
fault_is : (c : After-ask_roots) → c.ask_roots.result ≡ first_unmet c.args.n (firstSide c).tables (secondSide c).tables
fault_is c =
    let n = c.args.n in
    c.ask_roots.ensures ∙ (λ i. first_unmet n (c.load_form-f.ensures.tables_are i) (c.load_form-g.ensures.tables_are i))

-- Both sides are ready to be joined.
first_ready : (c : After-ask_roots) → let a = c.args in
    Ready a.n (firstSide c) a.both.first c.load_form-f.result c.load_form-f.new.words
first_ready c =
    let p = c.requires in
    ready _ _ p.first _ p.first_states _ _ _ p.first_handler c.load_form-f.ensures

second_ready : (c : After-ask_roots) → let a = c.args in
    Ready a.n (secondSide c) a.both.second c.load_form-g.result c.load_form-g.new.words
second_ready c =
    let p = c.requires in
    ready _ _ p.second _ p.second_states _ _ _ p.second_handler c.load_form-g.ensures

pub ask_roots-requires : goal.ask_roots-requires
ask_roots-requires c = let p = c.requires in
    (room_of _ _ p.first _ p.first_states).states_most

pub returns-in_err-ask_roots : goal.returns-in_err-ask_roots
returns-in_err-ask_roots c = let d = (goal.at.returns-in_err-ask_roots c).After-ask_roots in
    let a = c.args in
    let left = leaves_passed a.hout.now a.pout.now _ _
    (met_not a.n a.h1.now a.h2.now (firstSide d) (secondSide d) _ _ (sym (fault_is d) ∙ c.in_err-ask_roots.was))
    c.from_residual.result c.from_residual.ensures.1
    in
    record { answer = left.0; handler = left.1.0; proof = left.1.1 }

pub join-requires : goal.join-requires
join-requires c = let d = (goal.at.join-requires c).After-ask_roots in
    (record { A = firstSide d; B = secondSide d; first = first_ready d; second = second_ready d }, omega arith)

pub returns : goal.returns
returns c = let j = c.join.ensures in
    let d = (goal.at.returns c).After-ask_roots in
    let a = c.args in
    let A = firstSide d in
    let B = secondSide d in
    let x = first_ready d in
    let y = second_ready d in
    let left = leaves_same a.hout.now a.pout.now _ _
    (met_all a.n a.h1.now a.h2.now A B _ (sym (fault_is d) ∙ c.in_ok-ask_roots.was))
    _ _ _ (j.answer A B x y, (j.handler A B x y, j.proof A B x y))
    in
    record { answer = left.0; handler = left.1.0; proof = left.1.1 }
