-- A case distinction, and the sizes of a head. If their product is not 0, the product of the later ones is not 0 and no larger.
use Prim.Native.Nat.{ℕ, zero, suc, ◌*◌, ◌≤◌, ◌<◌}
use native.Mathlib.Nat.{mul_comm, le-mul_of_pos_right, zero-mul, mul-zero}
use native.Mathlib.Decide.{dec_lt}
use native.Mathlib.Omega.{arith}
use mathlib.Core.List.{List, [], ◌∷◌}
use mathlib.Core.Path.{◌≡◌, refl}
use lib.ListN.{get_or, drop, length-take, drop_of_length-le}
use Rattle.semantics.specs.States.{product}
use Rattle.handler.specs.declared.head.Head.{Head}
use Rattle.handler.specs.Header.{sizes_in}

-- What holds below n and from n on holds.
pub split : {P : Type 0} (t n : ℕ) → (t < n → P) → (n ≤ t → P) → P
split {P} t n below past = by (dec_lt t n)
  where
    by : Dec (t < n) → P
    by (yes l) = below l
    by (no l) = past (omega arith)

-- A factor of a product that is not 0 is not 0 and no larger.
factor : (a b : ℕ) → 0 < a * b → (0 < b) × (b ≤ a * b)
factor zero b h = absurd (omega (arith, zero-mul b))
factor (suc a) zero h = absurd (omega (arith, mul-zero (suc a)))
factor (suc a) (suc b) h = (omega arith, rw (mul_comm (suc a) (suc b)) (le-mul_of_pos_right (suc b) (omega arith)))

pub later_sizes : (sizes : List ℕ) (k : ℕ) → 0 < product sizes → (0 < product (drop k sizes)) × (product (drop k sizes) ≤ product sizes)
later_sizes sizes zero h = (h, omega arith)
later_sizes [] (suc k) h = (h, omega arith)
later_sizes (size ∷ sizes) (suc k) h =
    let rest = factor size (product sizes) h in
    let later = later_sizes sizes k rest.0 in
    (later.0, omega arith)

pub one_size : (sizes : List ℕ) (v : ℕ) → 0 < product sizes → (0 < get_or sizes v 1) × (get_or sizes v 1 ≤ product sizes)
one_size [] v h = (omega arith, omega arith)
one_size (size ∷ sizes) zero h = rw (mul_comm size (product sizes)) (factor (product sizes) size (rw (mul_comm (product sizes) size) h))
one_size (size ∷ sizes) (suc v) h =
    let rest = factor size (product sizes) h in
    let one = one_size sizes v rest.0 in
    (one.0, omega arith)

-- The product of the sizes from k on is size k times that of the sizes after k; there are no sizes past the count.
pub product_before : (sizes : List ℕ) (k : ℕ) → product (drop (suc k) sizes) * get_or sizes k 1 ≡ product (drop k sizes)
product_before [] zero = refl
product_before [] (suc k) = refl
product_before (size ∷ sizes) zero = mul_comm (product sizes) size
product_before (size ∷ sizes) (suc k) = product_before sizes k

pub none_later : (head : Head) (k : ℕ) → head.count ≤ k → product (drop k (sizes_in head)) ≡ 1
unfolding sizes_in
none_later head k h = rw (drop_of_length-le (sizes_in head) {i = k} (omega (arith, length-take head.count head.sizes)))
