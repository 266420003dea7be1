-- Bounds of the cursors: all are far below the largest.
use Prim.Native.Nat.{ℕ, ◌*◌, ◌≤◌}
use native.Mathlib.Nat.{mul-le-mul}
use Rattle.states.specs.Sets.{capacity}
use Rattle.derivation.specs.Tables.{most_tables}

-- How many bits some sets, a relation and some relations have at most.
abbrev pub FewBits : ℕ → ℕ → ℕ → Type 0
FewBits n sets relations =
    (n * sets ≤ capacity * most_tables) × (n * n ≤ capacity * capacity) × (n * n * relations ≤ capacity * capacity * most_tables)

pub few_bits : (n sets relations : ℕ) → n ≤ capacity → sets ≤ most_tables → relations ≤ most_tables → FewBits n sets relations
few_bits n sets relations few few_sets few_relations =
    let square : n * n ≤ capacity * capacity = mul-le-mul {m₂ = capacity} few few in
    (mul-le-mul {m₂ = most_tables} few few_sets, square, mul-le-mul {m₂ = most_tables} square few_relations)
