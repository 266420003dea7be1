-- Each way out is a stage of the file that is not there, or its end.
use mathlib.Core.Path.{◌≡◌, sym, ◌∙◌, ap}
use native.Mathlib.Omega.{arith}
use Rattle.std.proofs.Common.{rules}
use Rattle.std.proofs.lemmas.Result.{MatchResult-weaker, err_from_is_err_and}
use Rattle.std.specs.Prelude.{Ok, Err}
use Rattle.bits.specs.Fields.{fault_at, fill_at}
use Rattle.derivation.proofs.Counts.{row_small}
use Rattle.derivation.proofs.Files.{counted, no_tables, no_nodes, FillRead, wrong_fill, whole_file}
use Rattle.derivation.proofs.Heads.{passed_on}
use Rattle.derivation.proofs.reading.read_proof.Goals.{After-map_err}
use Rattle.derivation.proofs.reading.read_proof.Goals as goal

-- The fill, with its wrong bit as a fault.
fill_read : (c : After-map_err) → FillRead c.args.src.now c.args.n (fill_at c.args.src.now c.in_ok-end.end.next) c.map_err.result
fill_read c =
    rw c.read_fill.ensures at
    (MatchResult-weaker c.read_fill.result {P' = λ x. c.map_err.result ≡ Ok x} {Q' = λ place. c.map_err.result ≡ Err (fault_at 25 place)} c.map_err.ensures.cases (λ x e. e)
    (λ place e. let p = err_from_is_err_and c.map_err.result e in let same : p.0 ≡ fault_at 25 place = search rules in p.1 ∙ ap Err same))

pub returns-in_err-tables : goal.returns-in_err-tables
returns-in_err-tables c = passed_on _ _ c.from_residual.ensures.1 ∙ no_tables _ _ _ (sym c.read_tables.ensures ∙ c.in_err-tables.was)

pub read_nodes-requires : goal.read_nodes-requires
read_nodes-requires c =
    let r = counted _ _ _ (sym c.read_tables.ensures ∙ c.in_ok-tables.was) in
    omega (arith, r.at_root, row_small _ _ _ 0 r.states_most r.sets_most r.relations_most (omega arith))

pub returns-in_err-end : goal.returns-in_err-end
returns-in_err-end c =
    passed_on _ _ c.from_residual-in_err-end.ensures.1
    ∙ no_nodes _ _ _ (sym c.read_tables.ensures ∙ c.in_ok-tables.was) _ (sym c.read_nodes.ensures.ends ∙ c.in_err-end.was)

pub returns-in_err-map_err : goal.returns-in_err-map_err
returns-in_err-map_err c =
    passed_on _ _ c.from_residual-in_err-map_err.ensures.1
    ∙ wrong_fill _ _ _ (sym c.read_tables.ensures ∙ c.in_ok-tables.was) _ (sym c.read_nodes.ensures.ends ∙ c.in_ok-end.was)
    _ (fill_read (goal.at.returns-in_err-map_err c).After-map_err) _ c.in_err-map_err.was

pub returns : goal.returns
returns c =
    whole_file _ _ _ (sym c.read_tables.ensures ∙ c.in_ok-tables.was) _ (sym c.read_nodes.ensures.ends ∙ c.in_ok-end.was)
    _ (fill_read (goal.at.returns c).After-map_err) _ c.in_ok-map_err.was _ c.read_nodes.ensures.filled
