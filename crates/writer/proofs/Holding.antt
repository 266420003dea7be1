-- Fields that bytes hold from a cursor on, one after the other: what writing them leaves, and what reading them needs.
use Prim.Native.Nat.{ℕ, ◌+◌, ◌^◌, ◌<◌}
use mathlib.Core.List.{List, [], ◌∷◌}
use mathlib.Core.Path.{◌≡◌}
use Rattle.bits.specs.Fields.{bits_at}
use Rattle.writer.specs.Packing.{Part}

unfoldable pub Holds : List ℕ → ℕ → List Part → Type 0
Holds s at [] = Unit {0}
Holds s at (p ∷ rest) = (bits_at s at p.width ≡ p.value) × Holds s (at + p.width) rest

-- Each value has room in its width.
unfoldable pub Fitting : List Part → Type 0
Fitting [] = Unit {0}
Fitting (p ∷ rest) = (p.value < 2 ^ p.width) × Fitting rest
