-- Row s of the words from the first row on.
use Rattle.rules.specs.Words.{word_relation}
use Rattle.rules.proofs.tables.row_at.Goals as goal

pub returns : goal.returns
unfolding word_relation
returns c t = rw c.rows_of.ensures at (c.row.ensures t)
