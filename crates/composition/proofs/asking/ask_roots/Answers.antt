-- The conditions are asked in the order of the definition.
use Rattle.composition.proofs.Asked.{unmet_91, unmet_92, unmet_93}
use Rattle.std.proofs.lemmas.Bool.{not_from_false, not_from_true}
use Rattle.composition.proofs.asking.ask_roots.Goals as goal

pub returns-then-not-lies_across : goal.returns-then-not-lies_across
returns-then-not-lies_across c = unmet_91 _ _ _ _ c.lies_across.ensures (not_from_false _ c.if-not-lies_across.true)

pub returns-then-not-lies_across-2 : goal.returns-then-not-lies_across-2
returns-then-not-lies_across-2 c =
    unmet_92 _ _ _ _ c.lies_across.ensures (not_from_true _ c.if-not-lies_across.false) _ c.lies_across-2.ensures (not_from_false _ c.if-not-lies_across-2.true)

pub returns-then-both_stay : goal.returns-then-both_stay
returns-then-both_stay c =
    unmet_93 _ _ _ _ c.lies_across.ensures (not_from_true _ c.if-not-lies_across.false) _ c.lies_across-2.ensures (not_from_true _ c.if-not-lies_across-2.false)
    _ _ c.both_stay.ensures c.if-both_stay.true

pub returns-else-both_stay : goal.returns-else-both_stay
returns-else-both_stay c =
    unmet_93 _ _ _ _ c.lies_across.ensures (not_from_true _ c.if-not-lies_across.false) _ c.lies_across-2.ensures (not_from_true _ c.if-not-lies_across-2.false)
    _ _ c.both_stay.ensures c.if-both_stay.false
