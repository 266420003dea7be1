-- Four sizes of at most 16 have a product of at most 65,536; past the count a size is 1.
use Prim.Native.Nat.{ℕ, ◌*◌, ◌≤◌}
use native.Mathlib.Nat.{mul-le-mul}
use native.Mathlib.Omega.{arith}
use lib.ListN.{length-take}
use Rattle.handler.specs.Header.{sizes_in}
use Rattle.handler.proofs.Heads.{limited, product_four}
use Rattle.handler.proofs.head.product_of.Goals.{After-size_of-4}
use Rattle.handler.proofs.head.product_of.Goals as goal

-- The products of the last two sizes, of the last three, and of all.
record Small (a b c d : ℕ) : Type 0 where
  two : c * d ≤ 16 * 16
  three : b * (c * d) ≤ 16 * (16 * 16)
  four : a * (b * (c * d)) ≤ 16 * (16 * (16 * 16))

small : (a b c d : ℕ) → a ≤ 16 → b ≤ 16 → c ≤ 16 → d ≤ 16 → Small a b c d
small a b c d p q r s =
    let two : c * d ≤ 16 * 16 = mul-le-mul r s in
    let three : b * (c * d) ≤ 16 * (16 * 16) = mul-le-mul q two in
    record { two = two; three = three; four = mul-le-mul p three }

known : (k : After-size_of-4) → Small k.size_of.result k.size_of-2.result k.size_of-3.result k.size_of-4.result
known k =
    let each = (limited _ k.requires).each in
    rw (k.size_of.ensures, k.size_of-2.ensures, k.size_of-3.ensures, k.size_of-4.ensures)
    (small _ _ _ _ (each 0) (each 1) (each 2) (each 3))

pub overflow_mul-result : goal.overflow_mul-result
unfolding sizes_in
overflow_mul-result c = omega (arith, known c)

pub overflow_mul-result-2 : goal.overflow_mul-result-2
unfolding sizes_in
overflow_mul-result-2 c = omega (arith, known c)

pub overflow_mul-result-3 : goal.overflow_mul-result-3
unfolding sizes_in
overflow_mul-result-3 c = omega (arith, known c)

pub returns : goal.returns
unfolding sizes_in
returns c = let head = c.args.head in
    rw (c.size_of.ensures, c.size_of-2.ensures, c.size_of-3.ensures, c.size_of-4.ensures)
    (product_four (sizes_in head) (omega (arith, limited head c.requires, length-take head.count head.sizes)))
