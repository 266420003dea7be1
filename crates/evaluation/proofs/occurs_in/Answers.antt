-- A bit is 0 or 1, and a mask of 32 bits has no bit 32 or above.
use Prim.Native.Nat.{ℕ, zero, suc, ◌/◌, ◌^◌, ◌<◌, ◌≤◌}
use mathlib.Core.Bool.{cond}
use mathlib.Core.Path.{◌≡◌, refl}
use native.Mathlib.Nat.{div-eq_of_lt}
use native.Mathlib.Omega.{arith}
use lib.Dec.{eqb}
use lib.Pow.{pow_mono}
use Rattle.std.specs.Prelude.{Some, None}
use Rattle.std.specs.Prelude as std
use Rattle.std.specs.Option.{SomeIff, unwrap_or}
use Rattle.evaluation.proofs.occurs_in.Goals as goal

binary : (b : ℕ) → b < 2 → b ≡ cond (eqb b 1) 1 0
binary zero h = refl
binary (suc zero) h = refl
binary (suc (suc b)) h = absurd (omega arith)

no_bit : (mask v : ℕ) → mask < 2 ^ 32 → 32 ≤ v → mask / 2 ^ v ≡ 0
no_bit mask v low past = div-eq_of_lt {n = mask} {m = 2 ^ v} (omega (arith, pow_mono {i = 32} {j = v} past))

shifted : (o : std.Option ℕ) (mask v : ℕ) → mask < 2 ^ 32 → SomeIff o (v < 32) (mask / 2 ^ v) → unwrap_or o 0 ≡ mask / 2 ^ v
shifted None mask v low is = grind (arith, no_bit)
shifted (Some bits) mask v low is = grind arith

pub returns : goal.returns
returns c = rw (c.unwrap_or.ensures, shifted _ _ _ (omega arith) c.checked_shr.ensures) (binary _ (omega arith))
