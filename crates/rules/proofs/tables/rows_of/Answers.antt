-- The rows of relation r start at entry 16 + capacity * r.
use Rattle.rules.proofs.tables.rows_of.Goals as goal

pub returns : goal.returns
returns c = c.entries_from.ensures
