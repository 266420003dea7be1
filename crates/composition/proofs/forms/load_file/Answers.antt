-- The file is read, so it is not refused. The first node of the table is the root.
use mathlib.Core.Path.{sym, ◌∙◌, ap}
use Rattle.composition.proofs.Loading.{file_form, not_refused}
use Rattle.composition.proofs.forms.load_file.Goals as goal

pub unreachable-requires : goal.unreachable-requires
unreachable-requires c = not_refused _ _ c.requires.0 c.requires.1 c.requires.2 c.requires.3 c.requires.4 _ (sym c.in_default.is ∙ c.load.ensures.answer)

pub returns-clause-answer : goal.returns-clause-answer
returns-clause-answer c sets relations root d reads =
    file_form _ _ sets relations root d reads _ (sym c.in-Ok.is ∙ c.load.ensures.answer) _ (ap (λ x. x.names) c.node_at.ensures)
