-- docs/RULES.md, "Order of conditions": the conditions that each node must meet, in their order, and the first fault of a derivation of
-- a statement, nodes by number, a node's conditions in their order.
use Rattle.std.specs.Prelude.{ℕ, suc, ◌+◌, Bool, true, List, [], ◌∷◌, ◌++◌, eqb}
use Rattle.std.proofs.Math.Option.{Option, none, some}
use Rattle.states.specs.Search.{Search, must}
use Rattle.semantics.specs.Language.{Expr, Stmt}
use Rattle.semantics.specs.States.{Machine}
use Rattle.semantics.specs.Derivations.{Derivation, skip, assignment, sequence, parallel, conditional, iteration, weaken, names_of, nodes, Tables, Spec, set_of, relation_of, spec_of}
use Rattle.semantics.specs.Conditions.{statement_code, target_of, expr_of, first_of, second_of, is_true, is_false, under_test, in_round, besides, c31, c32, c33, c34, c35, c36, c37, c38, c41, c42, c43, c45, c46, c50, c51, c52, c53, c54, c55, c56, c57, c60, c61, c65, c66, c70, c71, c72, c73}

-- A condition: its number, and the result of the search for a breach.
pub record Condition : Type 0 where
  pub number : ℕ
  pub breach : Search

abbrev pub numbered : ℕ → Search → Condition
numbered k found = record { number = k; breach = found }

-- A condition that is broken: its number, and the states that it names.
pub record Breach : Type 0 where
  pub number : ℕ
  pub states : List ℕ

-- A fault of a derivation: the condition that is broken, and the number of the node.
pub record Broken : Type 0 where
  pub number : ℕ
  pub states : List ℕ
  pub node : ℕ

abbrev pub or_breach : ℕ → Search → Option Breach → Option Breach
or_breach k none rest = rest
or_breach k (some found) rest = some (record { number = k; states = found })

-- The first condition of a list that does not hold.
abbrev pub first_broken : List Condition → Option Breach
first_broken [] = none
first_broken (c ∷ rest) = or_breach c.number c.breach (first_broken rest)

abbrev pub or_broken : Option Broken → Option Broken → Option Broken
or_broken none rest = rest
or_broken (some fault) rest = some fault

abbrev pub at_node : ℕ → Option Breach → Option Broken
at_node node none = none
at_node node (some b) = some (record { number = b.number; states = b.states; node = node })

-- The conditions on a node of each rule, in the order in which they are asked, over its own tables c and those of its children.
-- 31 to 33 are asked at every node.
abbrev pub stability : ℕ → Spec → List Condition
stability n c =
    numbered 31 (c31 n c)
    ∷ numbered 32 (c32 n c)
    ∷ numbered 33 (c33 n c)
    ∷ []

-- 30 is asked first at every node: the rule is that of the statement at hand.
abbrev pub common : ℕ → Bool → Spec → List Condition
common n fits c = numbered 30 (must fits) ∷ stability n c

-- Assignment and if: 30, then what is asked of the expression that is read, then 31 to 33.
abbrev pub common_reading : ℕ → Bool → List Condition → Spec → List Condition
common_reading n fits reads c = numbered 30 (must fits) ∷ (reads ++ stability n c)

-- The children's tables, against those that the rule asks for; the left child's come before the right's. If and while: all four.
abbrev pub body_tables : ℕ → Spec → Spec → List Condition
body_tables n asked d =
    numbered 34 (c34 n asked d)
    ∷ numbered 36 (c36 n asked d)
    ∷ numbered 37 (c37 n asked d)
    ∷ numbered 38 (c38 n asked d)
    ∷ []

-- Sequence: left has the same P, R, G, right the same R, G.
abbrev pub sequence_tables : ℕ → Spec → Spec → Spec → List Condition
sequence_tables n c l r =
    numbered 34 (c34 n c l)
    ∷ numbered 36 (c36 n c l)
    ∷ numbered 37 (c37 n c l)
    ∷ numbered 36 (c36 n c r)
    ∷ numbered 37 (c37 n c r)
    ∷ []

-- Parallel: both P; left's R is R joined with right's G, right's R is R joined with left's G.
abbrev pub parallel_tables : ℕ → Spec → Spec → Spec → List Condition
parallel_tables n c l r =
    numbered 34 (c34 n c l)
    ∷ numbered 36 (c36 n (besides c r) l)
    ∷ numbered 34 (c34 n c r)
    ∷ numbered 36 (c36 n (besides c l) r)
    ∷ []

abbrev pub skip_obligations : ℕ → Bool → Spec → List Condition
skip_obligations n fits c =
    common n fits c
    ++ numbered 35 (c35 n c)
    ∷ []

abbrev pub assignment_obligations : Machine → Bool → Spec → ℕ → Expr → List Condition
assignment_obligations m fits c v e =
    common_reading m.states fits (numbered 41 (c41 m c e) ∷ []) c
    ++ numbered 42 (c42 m c v e)
    ∷ numbered 43 (c43 m c v e)
    ∷ []

abbrev pub sequence_obligations : ℕ → Bool → Spec → Spec → Spec → List Condition
sequence_obligations n fits c l r =
    common n fits c
    ++ sequence_tables n c l r
    ++ numbered 60 (c60 n c l r)
    ∷ numbered 61 (c61 n c l r)
    ∷ []

abbrev pub parallel_obligations : ℕ → Bool → Spec → Spec → Spec → List Condition
parallel_obligations n fits c l r =
    common n fits c
    ++ parallel_tables n c l r
    ++ numbered 65 (c65 n c l r)
    ∷ numbered 66 (c66 n c l r)
    ∷ []

abbrev pub if_obligations : Machine → Bool → Spec → Expr → Spec → List Condition
if_obligations m fits c e d =
    common_reading m.states fits (numbered 45 (c45 m c e) ∷ []) c
    ++ body_tables m.states (under_test c (is_true m e)) d
    ++ numbered 46 (c46 m.states c (is_false m e))
    ∷ []

abbrev pub while_obligations : Machine → Bool → Spec → Expr → (ℕ → Bool) → (ℕ → ℕ → Bool) → Spec → List Condition
while_obligations m fits c e K W d =
    common m.states fits c
    ++ body_tables m.states (in_round c K W) d
    ++ numbered 50 (c50 m c e)
    ∷ numbered 51 (c51 m.states W)
    ∷ numbered 57 (c57 m.states W)
    ∷ numbered 52 (c52 m.states c (is_true m e) K)
    ∷ numbered 53 (c53 m.states c K)
    ∷ numbered 54 (c54 m.states c (is_false m e))
    ∷ numbered 55 (c55 m.states c W)
    ∷ numbered 56 (c56 m.states c (is_false m e) W)
    ∷ []

abbrev pub weaken_obligations : ℕ → Spec → Spec → List Condition
weaken_obligations n c d =
    common n true c
    ++ numbered 70 (c70 n c d)
    ∷ numbered 71 (c71 n c d)
    ∷ numbered 72 (c72 n c d)
    ∷ numbered 73 (c73 n c d)
    ∷ []

module _ (t : Tables) where
  abbrev spec_on : Derivation → Spec
  spec_on d = spec_of t (names_of d)

  -- A node's conditions over the statement at hand; weaken fits every statement.
  abbrev pub obligations : Derivation → Stmt → List Condition
  obligations (skip h) S = skip_obligations t.machine.states (eqb (statement_code S) 0) (spec_of t h)
  obligations (assignment h) S = assignment_obligations t.machine (eqb (statement_code S) 1) (spec_of t h) (target_of S) (expr_of S)
  obligations (sequence h l r) S = sequence_obligations t.machine.states (eqb (statement_code S) 2) (spec_of t h) (spec_on l) (spec_on r)
  obligations (parallel h l r) S = parallel_obligations t.machine.states (eqb (statement_code S) 3) (spec_of t h) (spec_on l) (spec_on r)
  obligations (conditional h d) S = if_obligations t.machine (eqb (statement_code S) 4) (spec_of t h) (expr_of S) (spec_on d)
  obligations (iteration h k w d) S = while_obligations t.machine (eqb (statement_code S) 5) (spec_of t h) (expr_of S) (set_of t k) (relation_of t w) (spec_on d)
  obligations (weaken h d) S = weaken_obligations t.machine.states (spec_of t h) (spec_on d)

  -- The first fault of a derivation of a statement, whose root is node n: the root's own, then those of its children.
  abbrev pub first_fault : Derivation → Stmt → ℕ → Option Broken
  first_fault (skip h) S n = at_node n (first_broken (obligations (skip h) S))
  first_fault (assignment h) S n = at_node n (first_broken (obligations (assignment h) S))
  first_fault (sequence h l r) S n = or_broken (at_node n (first_broken (obligations (sequence h l r) S))) (or_broken (first_fault l (first_of S) (suc n)) (first_fault r (second_of S) (suc n + nodes l)))
  first_fault (parallel h l r) S n = or_broken (at_node n (first_broken (obligations (parallel h l r) S))) (or_broken (first_fault l (first_of S) (suc n)) (first_fault r (second_of S) (suc n + nodes l)))
  first_fault (conditional h d) S n = or_broken (at_node n (first_broken (obligations (conditional h d) S))) (first_fault d (first_of S) (suc n))
  first_fault (iteration h k w d) S n = or_broken (at_node n (first_broken (obligations (iteration h k w d) S))) (first_fault d (first_of S) (suc n))
  first_fault (weaken h d) S n = or_broken (at_node n (first_broken (obligations (weaken h d) S))) (first_fault d S (suc n))
