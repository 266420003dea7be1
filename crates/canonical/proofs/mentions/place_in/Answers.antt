-- `position` gives the first entry that is x.
use mathlib.Core.Path.{◌≡◌, sym, ◌∙◌, ap}
use lib.ListN.{take}
use lib.Seq.{length-take-le}
use Rattle.std.specs.Option.{unwrap_or}
use Rattle.std.proofs.Common.{rules, tests}
use Rattle.std.proofs.lemmas.Iterator.{IsFirst-from_position, YieldsList-from_slice}
use Rattle.canonical.proofs.Order.{place_first}
use Rattle.canonical.proofs.mentions.place_in.Goals as goal

pub returns : goal.returns
returns c = let a = c.args in
    let first = IsFirst-from_position _ _ c.position.result (λ y. y ≡ a.x) (λ y. y ≡ a.x → ⊥) c.position.ensures.ran
    (YieldsList-from_slice (take a.count a.order.now) cc) (λ y q k. search (rules, tests)) (λ y q k. search (rules, tests))
    in
    c.unwrap_or.ensures ∙ ap (unwrap_or c.position.result) (sym (length-take-le a.count a.order.now c.requires)) ∙ sym (place_first a.x _ _ first)
