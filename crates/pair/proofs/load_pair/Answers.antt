-- By cases of what reading the pair found.
use mathlib.Core.Path.{sym, ◌∙◌}
use Rattle.handler.specs.Header.{head_of}
use Rattle.derivation.specs.Tables.{written}
use Rattle.pair.specs.Reading.{read_pair}
use Rattle.pair.specs.Modes.{work_read}
use Rattle.pair.specs.Refinement.{word_limited}
use Rattle.pair.proofs.Cases.{read_holds}
use Rattle.pair.proofs.Found.{found_pair}
use Rattle.pair.proofs.Words.{in_limits_lem}
use Rattle.pair.proofs.load_pair.Goals as goal

pub returns-in-Ok-clause-tables : goal.returns-in-Ok-clause-tables
unfolding work_read head_of
returns-in-Ok-clause-tables c =
    let a = c.args in
    let f = found_pair (read_pair a.handler.now a.proof.now) _ (sym c.read_files-found.ensures.file ∙ c.in-Ok.is) in
    let x = f.held in
    rw f.read (c.fill_by.ensures
    ∙ (λ j. written (word_limited a.mode.arrangement a.proof.now (f.kept j).head.states (f.kept j).read.proof.sets (f.kept j).read.proof.relations) a.work.now)
    ∙ in_limits_lem a.handler.now a.proof.now x (read_holds a.handler.now a.proof.now x f.read) a.mode.arrangement a.work.now)

pub returns-in-Err-clause-tables : goal.returns-in-Err-clause-tables
returns-in-Err-clause-tables c = c.clear_after.ensures _ _ _ (sym c.read_files-found.ensures.file ∙ c.in-Err.is)
