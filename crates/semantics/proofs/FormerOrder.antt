-- The order before request A6, and what the present order changes. An assignment asked 41 after 33, and an if asked 45 after 38; now both
-- come directly after 30. The same derivations have no fault. Every other one has the same first faulty node, and its answer there differs
-- only where 41 or 45 is broken too: it is then that number, if the former one was asked before it.
use Prim.Native.Nat.{ℕ, suc, ◌+◌}
use mathlib.Core.Path.{◌≡◌, refl}
use mathlib.Core.Bool.{Bool, true, false, cond, ◌||◌}
use mathlib.Core.List.{List, [], ◌∷◌, ◌++◌}
use mathlib.Core.Option.{Option, none, some}
use lib.Dec.{eqb}
use Rattle.states.specs.Search.{Search, must}
use Rattle.semantics.specs.declared.Names.{Names}
use Rattle.semantics.specs.Language.{Expr, Stmt}
use Rattle.semantics.specs.States.{Machine}
use Rattle.semantics.specs.Derivations.{Derivation, skip, assignment, sequence, parallel, conditional, iteration, weaken, names_of, nodes, Tables, Spec, spec_of}
use Rattle.semantics.specs.Conditions.{statement_code, target_of, expr_of, first_of, second_of, is_true, is_false, under_test, c41, c42, c43, c45, c46}
use Rattle.semantics.specs.Checking.{Condition, numbered, Breach, Broken, or_breach, first_broken, or_broken, at_node, stability, common, body_tables, assignment_obligations, if_obligations, obligations, first_fault}

abbrev is_one_of : List ℕ → ℕ → Bool
is_one_of [] k = false
is_one_of (j ∷ rest) k = eqb j k || is_one_of rest k

-- The conditions of an assignment and of an if in the former order.
abbrev former_assignment : Machine → Bool → Spec → ℕ → Expr → List Condition
former_assignment m fits c v e =
    common m.states fits c
    ++ numbered 41 (c41 m c e)
    ∷ numbered 42 (c42 m c v e)
    ∷ numbered 43 (c43 m c v e)
    ∷ []

abbrev former_if : Machine → Bool → Spec → Expr → Spec → List Condition
former_if m fits c e d =
    common m.states fits c
    ++ body_tables m.states (under_test c (is_true m e)) d
    ++ numbered 45 (c45 m c e)
    ∷ numbered 46 (c46 m.states c (is_false m e))
    ∷ []

-- The numbers that give way to 41 and to 45.
abbrev pub yielding : ℕ → List ℕ
yielding k =
    cond (eqb k 41) (31 ∷ 32 ∷ 33 ∷ [])
    (cond (eqb k 45) (31 ∷ 32 ∷ 33 ∷ 34 ∷ 36 ∷ 37 ∷ 38 ∷ []) [])

abbrev yields : ℕ → Option Breach → Bool
yields k none = false
yields k (some b) = is_one_of (yielding k) b.number

-- A node's answer from its former one: k, if it is broken, instead of a number that gives way to it; else the former answer.
abbrev pub sooner : ℕ → Search → Option Breach → Option Breach
sooner k found former = cond (yields k former) (or_breach k found former) former

module _ (k : ℕ) (found : Search) where
  abbrev AllYield : List Condition → Type 0
  AllYield [] = Unit {0}
  AllYield (c ∷ rest) = (is_one_of (yielding k) c.number ≡ true) × AllYield rest

  -- Condition k moves up, past conditions that give way to it.
  moved_up : (passed rest : List Condition) → AllYield passed
      → first_broken (numbered k found ∷ passed ++ rest) ≡ sooner k found (first_broken (passed ++ numbered k found ∷ rest))
  moved_up [] rest all = by found
    where
      either : (b : Bool) (o : Option Breach) → o ≡ cond b o o
      either true o = refl
      either false o = refl

      by : (x : Search) → or_breach k x (first_broken rest) ≡ sooner k x (or_breach k x (first_broken rest))
      by none = either (yields k (first_broken rest)) (first_broken rest)
      by (some states) = either (is_one_of (yielding k) k) (some (record { number = k; states = states }))
  moved_up (c ∷ passed) rest (is, all) = by c.breach (moved_up passed rest all)
    where
      by : (x : Search) → or_breach k found (first_broken (passed ++ rest)) ≡ sooner k found (first_broken (passed ++ numbered k found ∷ rest))
          → or_breach k found (or_breach c.number x (first_broken (passed ++ rest)))
          ≡ sooner k found (or_breach c.number x (first_broken (passed ++ numbered k found ∷ rest)))
      by none later = later
      by (some states) later = rw is refl

  -- A condition that is asked before all of them is answered as it was.
  to_second : (first : Condition) (passed rest : List Condition) → is_one_of (yielding k) first.number ≡ false → AllYield passed
      → first_broken (first ∷ numbered k found ∷ passed ++ rest) ≡ sooner k found (first_broken (first ∷ passed ++ numbered k found ∷ rest))
  to_second first passed rest is all = by first.breach
    where
      by : (x : Search) → or_breach first.number x (first_broken (numbered k found ∷ passed ++ rest))
          ≡ sooner k found (or_breach first.number x (first_broken (passed ++ numbered k found ∷ rest)))
      by none = moved_up passed rest all
      by (some states) = rw is refl

pub assignment_answer : (m : Machine) (fits : Bool) (c : Spec) (v : ℕ) (e : Expr)
    → first_broken (assignment_obligations m fits c v e) ≡ sooner 41 (c41 m c e) (first_broken (former_assignment m fits c v e))
assignment_answer m fits c v e =
    to_second 41 (c41 m c e) (numbered 30 (must fits)) (stability m.states c) (numbered 42 (c42 m c v e) ∷ numbered 43 (c43 m c v e) ∷ [])
    refl (refl, (refl, (refl, tt)))

pub if_answer : (m : Machine) (fits : Bool) (c : Spec) (e : Expr) (d : Spec)
    → first_broken (if_obligations m fits c e d) ≡ sooner 45 (c45 m c e) (first_broken (former_if m fits c e d))
if_answer m fits c e d =
    to_second 45 (c45 m c e) (numbered 30 (must fits)) (stability m.states c ++ body_tables m.states (under_test c (is_true m e)) d)
    (numbered 46 (c46 m.states c (is_false m e)) ∷ []) refl (refl, (refl, (refl, (refl, (refl, (refl, (refl, tt)))))))

-- How the first fault of a derivation may differ from the former one: not at all, or in its number and states, at the same node. So either
-- both orders find a fault, or neither does.
pub data Reordered : Option Broken → Option Broken → Type 0 where
  same : {o : Option Broken} → Reordered o o
  instead : (k : ℕ) {former : Broken} → is_one_of (yielding k) former.number ≡ true
      → Reordered (some former) (some (record { number = k; states = []; node = former.node }))

-- A node, and then what is below it.
at_node_lem : (k n : ℕ) (b : Bool) (former : Option Breach) {now : Option Breach} → now ≡ sooner k (must b) former → Reordered (at_node n former) (at_node n now)
unfolding must
at_node_lem k n b former e = rw e (by former)
  where
    turned : (old : Breach) (b late : Bool) → is_one_of (yielding k) old.number ≡ late
        → Reordered (at_node n (some old)) (at_node n (cond late (or_breach k (must b) (some old)) (some old)))
    turned old b false is = same
    turned old true true is = same
    turned old false true is = instead k is

    by : (former : Option Breach) → Reordered (at_node n former) (at_node n (sooner k (must b) former))
    by none = same
    by (some old) = turned old b (is_one_of (yielding k) old.number) refl

then : (x : Option Broken) {x' y y' : Option Broken} → Reordered x x' → Reordered y y' → Reordered (or_broken x y) (or_broken x' y')
then none same below = below
then (some b) same below = same
then (some b) (instead k is) below = instead k is

module _ (t : Tables) where
  abbrev at_assignment : Names → Stmt → List Condition
  at_assignment h S = former_assignment t.machine (eqb (statement_code S) 1) (spec_of t h) (target_of S) (expr_of S)

  abbrev at_if : Names → Derivation → Stmt → List Condition
  at_if h d S = former_if t.machine (eqb (statement_code S) 4) (spec_of t h) (expr_of S) (spec_of t (names_of d))

  -- The first fault of a derivation in the former order.
  abbrev pub former_fault : Derivation → Stmt → ℕ → Option Broken
  former_fault (skip h) S n = at_node n (first_broken (obligations t (skip h) S))
  former_fault (assignment h) S n = at_node n (first_broken (at_assignment h S))
  former_fault (sequence h l r) S n = or_broken (at_node n (first_broken (obligations t (sequence h l r) S))) (or_broken (former_fault l (first_of S) (suc n)) (former_fault r (second_of S) (suc n + nodes l)))
  former_fault (parallel h l r) S n = or_broken (at_node n (first_broken (obligations t (parallel h l r) S))) (or_broken (former_fault l (first_of S) (suc n)) (former_fault r (second_of S) (suc n + nodes l)))
  former_fault (conditional h d) S n = or_broken (at_node n (first_broken (at_if h d S))) (former_fault d (first_of S) (suc n))
  former_fault (iteration h k w d) S n = or_broken (at_node n (first_broken (obligations t (iteration h k w d) S))) (former_fault d (first_of S) (suc n))
  former_fault (weaken h d) S n = or_broken (at_node n (first_broken (obligations t (weaken h d) S))) (former_fault d S (suc n))

  -- What a node asks did not change, except at an assignment and an if.
  kept : (d : Derivation) (S : Stmt) (n : ℕ) {below below' : Option Broken} → Reordered below below'
      → Reordered (or_broken (at_node n (first_broken (obligations t d S))) below) (or_broken (at_node n (first_broken (obligations t d S))) below')
  kept d S n = then (at_node n (first_broken (obligations t d S))) same

  pub reordered : (d : Derivation) (S : Stmt) (n : ℕ) → Reordered (former_fault d S n) (first_fault t d S n)
  unfolding c41 c45
  reordered (skip h) S n = same
  reordered (assignment h) S n = at_node_lem 41 n _ (first_broken (at_assignment h S)) (assignment_answer t.machine _ (spec_of t h) (target_of S) (expr_of S))
  reordered (sequence h l r) S n = kept (sequence h l r) S n (then (former_fault l (first_of S) (suc n)) (reordered l (first_of S) (suc n)) (reordered r (second_of S) (suc n + nodes l)))
  reordered (parallel h l r) S n = kept (parallel h l r) S n (then (former_fault l (first_of S) (suc n)) (reordered l (first_of S) (suc n)) (reordered r (second_of S) (suc n + nodes l)))
  reordered (conditional h d) S n = then _ (at_node_lem 45 n _ (first_broken (at_if h d S)) (if_answer t.machine _ (spec_of t h) (expr_of S) (spec_of t (names_of d)))) (reordered d (first_of S) (suc n))
  reordered (iteration h k w d) S n = kept (iteration h k w d) S n (reordered d (first_of S) (suc n))
  reordered (weaken h d) S n = kept (weaken h d) S n (reordered d S (suc n))
