-- `from_fn` makes the slots of the definition, one by one.
use Rattle.std.proofs.Common.{rules, ◌∙◌}
use borrow.Author.Tests.{tests}
use Rattle.frame.specs.Slots.{places, no_slot}
use Rattle.frame.specs.Lent.{slot_in}
use Rattle.admission.proofs.Arrays.{made_of, slots_mapped}
use Rattle.admission.proofs.lent.slots_in.Goals as goal

pub returns : goal.returns
returns c =
    made_of _ (slot_in c.args.numbers.now) (λ i y q k. search (rules, tests)) c.from_fn.result places no_slot c.from_fn.ensures.items
    ∙ slots_mapped c.args.numbers.now places
