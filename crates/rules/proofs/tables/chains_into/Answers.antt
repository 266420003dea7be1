-- The chains from each state of the set that is below n.
use Rattle.std.proofs.Common.{rules}
use Prim.Native.Nat.{ℕ}
use mathlib.Core.Path.{◌≡◌, ◌∙◌, ap}
use mathlib.Core.Bool.{◌&&◌}
use lib.Dec.{ltb}
use Rattle.states.specs.Sets.{capacity, has}
use Rattle.states.proofs.Members.{start_below, start_same}
use Rattle.rules.proofs.Searches.{search_of_states}
use Rattle.rules.proofs.tables.chains_into.Goals as goal

pub returns : goal.returns
returns c =
    let from = c.args.from in
    let start : (s : ℕ) → has c.meet.result s ≡ (has from s && (ltb s capacity && ltb s c.args.n)) = λ s. c.meet.ensures s ∙ ap (λ b. has from s && b) (c.below.ensures s) in
    search_of_states _ _ _ c.meet.result _ _ _ c.states.ensures (start_below _ from _ start) (start_same _ from _ start) c.all.ensures.ran
    (λ x b q k. search rules)
