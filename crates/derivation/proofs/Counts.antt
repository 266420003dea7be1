-- Laws of the head of the proof file: where its tables are, and what its counts can be.
use Prim.Native.Nat.{ℕ, ◌+◌, ◌*◌, ◌^◌, ◌≤◌}
use mathlib.Core.Bool.{true, and-eq-true_iff}
use mathlib.Core.Path.{◌≡◌}
use native.Mathlib.Nat.{mul-le-mul}
use native.Mathlib.Omega.{arith}
use borrow.Author.Tests.{leb-true}
use Rattle.states.specs.Sets.{capacity}
use Rattle.derivation.specs.Tables.{most_tables, row_at, is_count}

-- No cursor within the tables is near the last that a usize can hold.
pub row_offsets : (n sets r s : ℕ) → n ≤ capacity → sets ≤ most_tables → r ≤ most_tables → s ≤ capacity
    → (n * r ≤ capacity * most_tables) × (n * (sets + n * r + s) ≤ capacity * (most_tables + capacity * most_tables + capacity))
row_offsets n sets r s hn hsets hr hs =
    let rows : n * r ≤ capacity * most_tables = mul-le-mul hn hr in
    (rows, mul-le-mul {m₂ = most_tables + capacity * most_tables + capacity} hn (omega arith))

pub row_small : (n sets r s : ℕ) → n ≤ capacity → sets ≤ most_tables → r ≤ most_tables → s ≤ capacity → row_at n sets r s ≤ 2 ^ 20
unfolding row_at
row_small n sets r s hn hsets hr hs = omega (arith, row_offsets n sets r s hn hsets hr hs)

pub count_range : (k : ℕ) → is_count k ≡ true → (1 ≤ k) × (k ≤ most_tables)
unfolding is_count
count_range k e = let tests = simp and-eq-true_iff at e in omega (arith, leb-true)
