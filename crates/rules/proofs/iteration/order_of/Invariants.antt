-- The loop keeps whether each search finds nothing below s. `holds_next` adds the next state to each.
use Prim.Native.Nat.{ℕ, ◌≤◌, ◌-◌}
use mathlib.Core.Path.{◌≡◌}
use mathlib.Core.Bool.{not}
use mathlib.Core.List.{List}
use Rattle.states.specs.Search.{Search, must, each, holds}
use Rattle.semantics.specs.Conditions.{in_set}
use Rattle.rules.specs.Words.{word_relation}
use Rattle.rules.proofs.iteration.order_of.Given as goal

-- The two searches at a state.
abbrev pub loop-free : ℕ → List ℕ → ℕ → ℕ → Search
loop-free n work w s = must (not (word_relation n work w s s))

abbrev pub closed : ℕ → List ℕ → ℕ → ℕ → Search
closed n work w s =
    in_set n (word_relation n work w s) (λ t. in_set n (word_relation n work w t) (λ u. must (word_relation n work w s u)))

abbrev pub invariant-loop-s : goal.invariant-loop-s
invariant-loop-s l =
    (l.s ≤ l.n) × (l.apart ≡ holds (each l.s (loop-free l.n l.work l.w))) × (l.transitive ≡ holds (each l.s (closed l.n l.work l.w)))

abbrev pub decreases-loop-s : goal.decreases-loop-s
decreases-loop-s l = l.n - l.s
