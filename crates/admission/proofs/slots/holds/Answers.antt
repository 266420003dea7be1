-- `any` over the slots is the definition.
use Rattle.std.proofs.Common.{rules, ◌∙◌, eqb}
use borrow.Author.Tests.{tests}
use Rattle.std.proofs.lemmas.Iterator.{YieldsList-from_slice}
use Rattle.std.proofs.lemmas.Iterator.Search.{any_from_yields_List}
use Rattle.frame.specs.declared.Slot.{Slot}
use Rattle.admission.proofs.Looking.{any_holds}
use Rattle.admission.proofs.slots.holds.Goals as goal

pub returns : goal.returns
returns c =
    any_from_yields_List (λ (s : Slot). eqb s.place c.args.place) _ _ c.any.result c.any.ensures.ran (YieldsList-from_slice c.args.slots.now cc) (λ x b q k. search (rules, tests))
    ∙ any_holds c.args.place c.args.slots.now
