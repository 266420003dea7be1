-- An array with a cell for each state that a set can hold, filled by a loop: the cells below k satisfy P, and the
-- others still have their initial value d.
use Prim.Native.Nat.{ℕ, zero, suc, ◌+◌, ◌<◌, ◌≤◌}
use native.Mathlib.Nat.{not-suc-le-zero}
use native.Mathlib.Numerals.{add-one}
use native.Mathlib.Omega.{arith}
use mathlib.Core.List.{List}
use mathlib.Core.Path.{◌≡◌, refl, ◌∙◌}
use lib.ListN.{get_or, length, set, replicate, length-replicate, length-set}
use lib.Seq.{get_or-set_same, get_or-set_other}
use Rattle.states.specs.Sets.{capacity}
use Rattle.states.proofs.Search.{below_cases}

-- A new array has the same value in each cell, and past its end too.
pub blank : {A : Type 0} (n : ℕ) (d : A) (s : ℕ) → get_or (replicate n d) s d ≡ d
blank zero d s = refl
blank (suc n) d zero = refl
blank (suc n) d (suc s) = blank n d s

module _ {A : Type 0} (d : A) (P : ℕ → A → Type 0) where
  pub record Cells (k : ℕ) (row : List A) : Type 0 where
    pub most : k ≤ capacity
    pub long : length row ≡ capacity
    pub hold : (s : ℕ) → s < k → P s (get_or row s d)
    pub rest : (s : ℕ) → k ≤ s → get_or row s d ≡ d

  pub cells_none : Cells 0 (replicate capacity d)
  cells_none =
      record { most = omega arith; long = length-replicate capacity d; hold = λ s l. absurd (not-suc-le-zero l); rest = λ s l. blank capacity d s }

  pub cells_more : (k : ℕ) (row : List A) (x : A) → k < capacity → P k x → Cells k row → Cells (k + 1) (set row k x)
  cells_more k row x l new old =
      record { most = omega arith; long = length-set row k x ∙ old.long; hold = hold; rest = λ s h. get_or-set_other row k s x d (omega arith) ∙ old.rest s (omega arith) }
    where
      hold : (s : ℕ) → s < k + 1 → P s (get_or (set row k x) s d)
      hold s h =
          below_cases (λ i. P i (get_or (set row k x) i d)) k s (rw add-one at h)
          (rw (get_or-set_same row k x d (omega (arith, old.long))) new)
          (λ low. rw (get_or-set_other row k s x d (omega arith)) (old.hold s low))

pub cell_none : {A : Type 0} (d : A) (s : ℕ) → get_or (replicate capacity d) s d ≡ d
cell_none d s = blank capacity d s
