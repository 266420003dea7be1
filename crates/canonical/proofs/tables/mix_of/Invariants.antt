-- After each round `mix` is the mix of the first k words.
use Prim.Native.Nat.{◌≤◌}
use mathlib.Core.Path.{◌≡◌}
use Rattle.canonical.specs.Refinement.{mix_words}
use Rattle.canonical.proofs.tables.mix_of.Given as goal

abbrev pub invariant-loop-k : goal.invariant-loop-k
invariant-loop-k l = (l.k ≤ l.words) × (l.mix ≡ mix_words l.src l.at l.k)
