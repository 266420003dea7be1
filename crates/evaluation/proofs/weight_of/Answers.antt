-- The product so far is that of the sizes from `later` on; it is at most N, so it fits.
use Prim.Native.Nat.{suc, ◌*◌, ◌-◌}
use native.Mathlib.Omega.{arith}
use mathlib.Core.Path.{◌≡◌, sym, ap₂, ◌∙◌}
use lib.ListN.{drop}
use Rattle.semantics.specs.States.{product}
use Rattle.handler.specs.Header.{sizes_in}
use Rattle.handler.proofs.Heads.{known_head}
use Rattle.evaluation.proofs.Sizes.{later_sizes, product_before, none_later}
use Rattle.evaluation.proofs.weight_of.Goals.{After-size_of-product}
use Rattle.evaluation.proofs.weight_of.Goals as goal

one_more : (c : After-size_of-product)
    → c.loop-later.product * c.size_of-product.result ≡ product (drop (c.loop-later.later - 1) (sizes_in c.args.head))
one_more c =
    let l = c.loop-later in
    let last : l.later ≡ suc (l.later - 1) = omega arith in
    ap₂ ◌*◌ (rw last at l.invariant.so_far) c.size_of-product.ensures ∙ product_before (sizes_in c.args.head) (l.later - 1)

pub returns-then-v-head : goal.returns-then-v-head
returns-then-v-head c = sym (none_later c.args.head (suc c.args.v) (omega arith))

pub loop-later-init : goal.loop-later-init
loop-later-init c = record { more = omega arith; so_far = sym (none_later c.args.head c.args.head.count (omega arith)) }

pub overflow_mul-product : goal.overflow_mul-product
overflow_mul-product c =
    let known = known_head c.args.head c.requires in
    omega (arith, one_more c, known, later_sizes (sizes_in c.args.head) (c.loop-later.later - 1) known.least)

pub loop-later-preserved : goal.loop-later-preserved
loop-later-preserved c = record { more = omega arith; so_far = one_more c }

pub returns : goal.returns
returns c = let done : c.loop-later.later ≡ suc c.args.v = omega arith in rw done at c.loop-later.invariant.so_far
