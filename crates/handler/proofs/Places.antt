-- Every fault of a handler file has a number from 10 to 18, and its place is in the file or at its end.
use Prim.Native.Nat.{ℕ}
use mathlib.Core.List.{List}
use mathlib.Core.Path.{◌≡◌}
use Rattle.bits.proofs.Places.{FaultIn}
use Rattle.handler.specs.Reading.{refused, read_handler}
use Rattle.handler.proofs.Handlers.{known_file}

pub fault_inside : (bytes : List ℕ) (k place : ℕ) → read_handler bytes ≡ refused k place → FaultIn bytes 10 18 k place
fault_inside bytes k place e = rw e at (known_file bytes)
