-- By cases of the limits.
use mathlib.Core.Bool.{true}
use mathlib.Core.Path.{◌≡◌, sym, ◌∙◌}
use Rattle.derivation.specs.Tables.{are_tables}
use Rattle.derivation.proofs.Buffers.{written_same}
use Rattle.derivation.proofs.Limits.{within_limits_lem, limited_word_lem, no_word}
use Rattle.derivation.proofs.words.write_tables.Goals.{Then-are_tables}
use Rattle.derivation.proofs.words.write_tables.Goals as goal

within : (c : Then-are_tables) → let a = c.args in are_tables a.n a.sets a.relations ≡ true
within c = sym c.are_tables.ensures ∙ c.if-are_tables.true

pub fill-requires : goal.fill-requires
fill-requires c = within_limits_lem _ _ _ (within (goal.at.fill-requires c).Then-are_tables)

pub returns-then-are_tables : goal.returns-then-are_tables
returns-then-are_tables c = c.fill.ensures ∙ written_same _ _ _ (λ j. sym (limited_word_lem _ _ _ _ j (within (goal.at.returns-then-are_tables c).Then-are_tables)))

pub returns-else-are_tables : goal.returns-else-are_tables
returns-else-are_tables c = c.clear.ensures ∙ written_same _ _ _ (λ j. sym (no_word _ _ _ _ j (sym c.are_tables.ensures ∙ c.if-are_tables.false)))
