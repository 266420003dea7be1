-- After each round the first i names are places.
use Prim.Native.Nat.{ℕ, ◌≤◌, ◌<◌}
use mathlib.Core.Path.{◌≡◌}
use lib.ListN.{length, take, get_or}
use Rattle.form.specs.Mentions.{place_in}
use Rattle.canonical.specs.Nodes.{name_in}
use Rattle.canonical.proofs.mentions.names_of.Given as goal

abbrev pub invariant-loop-i : goal.invariant-loop-i
invariant-loop-i l =
    (l.i ≤ 16) × (length l.names ≡ 16) × ((k : ℕ) → k < l.i → get_or l.names k 0 ≡ place_in (take l.count l.order) (name_in l.reps k))
