-- A set has one word.
use Prim.Native.Nat.{ℕ, zero, suc}
use mathlib.Core.List.{[], ◌∷◌}
use mathlib.Core.Path.{◌≡◌, refl, sym}
use lib.ListN.{get_or}
use Rattle.states.proofs.StateSet.word.Goals as goal

no_more : (x i : ℕ) → (i ≡ 0 → ⊥) → get_or (x ∷ []) i 0 ≡ 0
no_more x zero other = absurd (other refl)
no_more x (suc i) other = refl

pub returns-then-part-eq0 : goal.returns-then-part-eq0
returns-then-part-eq0 c = rw c.if-part-eq0.true

pub returns-else-part-eq0 : goal.returns-else-part-eq0
returns-else-part-eq0 c = sym (no_more _ _ c.if-part-eq0.false)
