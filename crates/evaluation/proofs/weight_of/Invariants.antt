-- The product so far is that of the sizes from `later` on.
use Prim.Native.Nat.{◌<◌}
use mathlib.Core.Path.{◌≡◌}
use lib.ListN.{drop}
use Rattle.semantics.specs.States.{product}
use Rattle.handler.specs.Header.{sizes_in}
use Rattle.evaluation.proofs.weight_of.Given as goal

abbrev pub invariant-loop-later : goal.invariant-loop-later
invariant-loop-later l = record { more : l.v < l.later; so_far : l.product ≡ product (drop l.later (sizes_in l.head)) }
