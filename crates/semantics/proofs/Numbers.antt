-- A condition that is broken has a number from 30 to 73, and its node is one of the derivation's.
use Prim.Native.Nat.{ℕ, suc, ◌+◌, ◌≤◌, ◌<◌}
use mathlib.Core.Bool.{Bool, true, ◌&&◌, and-eq-true_iff}
use mathlib.Core.List.{List, [], ◌∷◌}
use mathlib.Core.Option.{Option, none, some}
use mathlib.Core.Path.{◌≡◌, refl}
use native.Mathlib.Omega.{arith}
use borrow.Author.Tests.{leb-true}
use lib.Dec.{leb}
use Rattle.states.specs.Search.{Search}
use Rattle.semantics.specs.Language.{Stmt}
use Rattle.semantics.specs.Derivations.{Derivation, skip, assignment, sequence, parallel, conditional, iteration, weaken, nodes, Tables}
use Rattle.semantics.specs.Conditions.{first_of, second_of}
use Rattle.semantics.specs.Checking.{Condition, Breach, Broken, or_breach, first_broken, or_broken, at_node, obligations, first_fault}

-- The numbers of a list of conditions, which are written out in the definitions.
abbrev in_range : List Condition → Bool
in_range [] = true
in_range (c ∷ rest) = (leb 30 c.number && leb c.number 73) && in_range rest

abbrev NumberIn : Option Breach → Type 0
NumberIn none = Unit {0}
NumberIn (some b) = (30 ≤ b.number) × (b.number ≤ 73)

first_in : (cs : List Condition) → in_range cs ≡ true → NumberIn (first_broken cs)
first_in [] e = tt
first_in (c ∷ rest) e = let tests = simp and-eq-true_iff at e in by c.breach (omega (arith, leb-true)) (first_in rest tests.1)
  where
    by : (s : Search) → (30 ≤ c.number) × (c.number ≤ 73) → NumberIn (first_broken rest) → NumberIn (or_breach c.number s (first_broken rest))
    by none own later = later
    by (some found) own later = own

-- A fault at one of the nodes from n on and below `past`.
unfoldable pub FaultIn : ℕ → ℕ → Option Broken → Type 0
FaultIn n past none = Unit {0}
FaultIn n past (some b) = (30 ≤ b.number) × (b.number ≤ 73) × (n ≤ b.node) × (b.node < past)

at_node_lem : (n past : ℕ) → n < past → (o : Option Breach) → NumberIn o → FaultIn n past (at_node n o)
unfolding FaultIn
at_node_lem n past h none p = tt
at_node_lem n past h (some b) p = omega arith

then : (n past : ℕ) (x y : Option Broken) → FaultIn n past x → FaultIn n past y → FaultIn n past (or_broken x y)
unfolding FaultIn
then n past none y p q = q
then n past (some b) y p q = p

-- A child's nodes are among those of its parent.
child : (n past n' past' : ℕ) → n ≤ n' → past' ≤ past → (x : Option Broken) → FaultIn n' past' x → FaultIn n past x
unfolding FaultIn
child n past n' past' from to none p = tt
child n past n' past' from to (some b) p = omega arith

module _ (t : Tables) where
  own_in : (d : Derivation) (S : Stmt) → in_range (obligations t d S) ≡ true
  own_in (skip h) S = refl
  own_in (assignment h) S = refl
  own_in (sequence h l r) S = refl
  own_in (parallel h l r) S = refl
  own_in (conditional h d) S = refl
  own_in (iteration h k w d) S = refl
  own_in (weaken h d) S = refl

  own : (d : Derivation) (S : Stmt) (n past : ℕ) → n < past → FaultIn n past (at_node n (first_broken (obligations t d S)))
  own d S n past h = at_node_lem n past h (first_broken (obligations t d S)) (first_in (obligations t d S) (own_in d S))

  -- A node and its one child, or its two.
  module _ (d : Derivation) (S : Stmt) (n : ℕ) where
    one : (c : Derivation) (x : Option Broken) → nodes d ≡ suc (nodes c) → FaultIn (suc n) (suc n + nodes c) x
        → FaultIn n (n + nodes d) (or_broken (at_node n (first_broken (obligations t d S))) x)
    one c x size p = then n _ (at_node n (first_broken (obligations t d S))) x (own d S n _ (omega arith)) (child n _ (suc n) _ (omega arith) (omega arith) x p)

    two : (l r : Derivation) (x y : Option Broken) → nodes d ≡ suc (nodes l + nodes r) → FaultIn (suc n) (suc n + nodes l) x
        → FaultIn (suc n + nodes l) (suc n + nodes l + nodes r) y
        → FaultIn n (n + nodes d) (or_broken (at_node n (first_broken (obligations t d S))) (or_broken x y))
    two l r x y size p q =
        then n _ (at_node n (first_broken (obligations t d S))) (or_broken x y) (own d S n _ (omega arith))
        (then n _ x y (child n _ (suc n) _ (omega arith) (omega arith) x p) (child n _ (suc n + nodes l) _ (omega arith) (omega arith) y q))

  -- Every fault of a derivation whose root is node n.
  pub fault_in : (d : Derivation) (S : Stmt) (n : ℕ) → FaultIn n (n + nodes d) (first_fault t d S n)
  fault_in (skip h) S n = own (skip h) S n _ (omega arith)
  fault_in (assignment h) S n = own (assignment h) S n _ (omega arith)
  fault_in (sequence h l r) S n = two (sequence h l r) S n l r _ _ refl (fault_in l (first_of S) (suc n)) (fault_in r (second_of S) (suc n + nodes l))
  fault_in (parallel h l r) S n = two (parallel h l r) S n l r _ _ refl (fault_in l (first_of S) (suc n)) (fault_in r (second_of S) (suc n + nodes l))
  fault_in (conditional h d) S n = one (conditional h d) S n d _ refl (fault_in d (first_of S) (suc n))
  fault_in (iteration h k w d) S n = one (iteration h k w d) S n d _ refl (fault_in d (first_of S) (suc n))
  fault_in (weaken h d) S n = one (weaken h d) S n d _ refl (fault_in d S (suc n))
