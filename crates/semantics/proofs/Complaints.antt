-- Which complaint comes first, in five cases of two broken conditions, each with the number in the former order and the present one.
use Prim.Native.Nat.{ℕ}
use mathlib.Core.Path.{◌≡◌, refl}
use mathlib.Core.Bool.{cond, not, ◌||◌}
use mathlib.Core.List.{List, [], ◌∷◌}
use mathlib.Core.Option.{Option, none, some}
use lib.Dec.{eqb}
use lib.IntN.{pos}
use Rattle.states.specs.Search.{all, any, must, given, named, or_else, each}
use Rattle.semantics.specs.declared.Names.{Names}
use Rattle.semantics.specs.Language.{Expr, lit, var, op, int, Stmt, nil, assign, if, while}
use Rattle.semantics.specs.States.{machine_of}
use Rattle.semantics.specs.Derivations.{Derivation, skip, assignment, conditional, iteration, Tables}
use Rattle.semantics.specs.Conditions.{in_set, same_set, is_true, moves, unmoved, c31, c32, c33, c34, c41, c45, c50}
use Rattle.semantics.specs.Checking.{Broken, first_fault}
use Rattle.semantics.proofs.FormerOrder.{former_fault}

-- The only variable c has size 2, and others change it. Set 0 has both states, set 1 has state 0; relation 0 changes c, relation 1 has all
-- pairs, relation 2 those that end in 1.
abbrev changing : Tables
changing =
    record {
      machine = machine_of (2 ∷ []);
      sets = λ i s. eqb i 0 || eqb s 0;
      relations = λ i s u. cond (eqb i 0) (not (eqb s u)) (eqb i 1 || eqb u 1);
    }

abbrev with : ℕ → ℕ → Names
with p q = record { p = p; r = 0; g = 1; q = q }

abbrev number_of : Option Broken → ℕ
number_of none = 0
number_of (some b) = b.number

abbrev both_orders : Derivation → Stmt → List ℕ
both_orders d S = number_of (former_fault changing d S 0) ∷ number_of (first_fault changing d S 0) ∷ []

abbrev c_is : ℕ → Expr
c_is k = op 3 (var 0) (lit (int (pos k)))

abbrev cases : List (List ℕ)
cases =
    -- c ← c, first with a Q that others undo, then with a P that they leave
    both_orders (assignment (with 0 2)) (assign 0 (var 0))
    ∷ both_orders (assignment (with 1 1)) (assign 0 (var 0))
    -- an if that reads c, and a body with another P than 34 asks for
    ∷ both_orders (conditional (with 0 1) (skip (with 0 1))) (if (c_is 0) nil)
    -- the rule of an assignment for an if; 30 is first
    ∷ both_orders (assignment (with 1 1)) (if (c_is 0) nil)
    -- a while that reads c twice, with a P that others leave; 31 is before 50
    ∷ both_orders (iteration (with 1 1) 0 0 (skip (with 1 1))) (while (op 6 (c_is 0) (c_is 1)) nil)
    ∷ []

pub worked : cases ≡ (33 ∷ 41 ∷ []) ∷ (31 ∷ 41 ∷ []) ∷ (34 ∷ 45 ∷ []) ∷ (30 ∷ 30 ∷ []) ∷ (31 ∷ 31 ∷ []) ∷ []
unfolding all any must given named or_else each in_set same_set is_true moves unmoved c31 c32 c33 c34 c41 c45 c50
worked = refl
