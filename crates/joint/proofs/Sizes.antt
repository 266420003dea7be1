-- 90: where the test of the sizes holds, both have the same variables.
use Prim.Native.Nat.{ℕ}
use mathlib.Core.Bool.{true}
use mathlib.Core.List.{List}
use mathlib.Core.Path.{◌≡◌}
use borrow.Author.Tests.{eqb-true}
use lib.Dec.{eqb}
use lib.ListN.{length}
use lib.Seq.{ext_get_or}
use Rattle.states.proofs.Search.{and_left, and_right, all_at}
use Rattle.joint.specs.Composing.{same_sizes}

pub sizes_same : (s t : List ℕ) → same_sizes s t ≡ true → s ≡ t
unfolding same_sizes
sizes_same s t e =
    let lengths = eqb (length s) (length t) in
    ext_get_or 0 s t (eqb-true _ _ (and_left lengths _ e)) (λ i l. eqb-true _ _ (all_at (length s) _ (and_right lengths _ e) i l))
