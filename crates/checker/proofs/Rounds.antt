-- One round of the loop over the nodes, and its end.
use Prim.Native.Nat.{ℕ, zero, suc, ◌+◌, ◌-◌, ◌≤◌, ◌<◌}
use native.Mathlib.Numerals.{add-one}
use native.Mathlib.Omega.{arith}
use mathlib.Core.Path.{◌≡◌, refl, ◌∙◌, ap}
use mathlib.Core.Bool.{Bool, true, false, cond}
use mathlib.Core.List.{List}
use lib.Dec.{eqb}
use mathlib.Core.Option.{Option, none, some}
use Rattle.semantics.specs.Checking.{Breach, first_broken, or_broken, at_node}
use Rattle.semantics.specs.Checking as Broken
use Rattle.handler.specs.declared.head.Head.{Head}
use Rattle.derivation.specs.NodeTable.{node_in}
use Rattle.std.specs.Prelude.{Result, Ok, Err, MatchResult, IsErrAnd}
use Rattle.search.specs.Named.{naming}
use Rattle.rules.specs.declared.Broken as NodeFault
use Rattle.rules.specs.Asking.{fault_of}
use Rattle.checker.specs.declared.Place.TheVariants.{Node}
use Rattle.checker.specs.Nodes.{statement_after, statement_at, obligations_at, faults_from, fault_found}
use Rattle.checker.specs.declared.Fault.{Fault}

-- What a node's fault says of its conditions.
whole : (i : ℕ) (o : Option Breach) → fault_found (at_node i o) ≡ Ok tt → o ≡ none
whole i none e = refl
whole i (some b) e = absurd (let z : ◌≡◌ {A = ℕ} 0 1 = cc in omega arith)

broken : (i : ℕ) (o : Option Breach) (f : Fault) (rest : Option Broken.Broken) → fault_found (at_node i o) ≡ Err f
    → fault_found (or_broken (at_node i o) rest) ≡ Err f
broken i none f rest e = absurd (let z : ◌≡◌ {A = ℕ} 0 1 = cc in omega arith)
broken i (some b) f rest e = e

-- The fault of a node with the node as its place.
pub placed : (i : ℕ) (o : Option Breach) (v : Result Unit NodeFault.Broken) (r : Result Unit Fault) (made : NodeFault.Broken → Fault → Type 0) → v ≡ fault_of o
    → MatchResult v (λ x. r ≡ Ok x) (λ b. IsErrAnd r (made b))
    → ((b : NodeFault.Broken) (f : Fault) → made b f → f ≡ record { number = b.number; place = Node i; states = b.states })
    → r ≡ fault_found (at_node i o)
placed i none (Ok x) r made e same put = same
placed i none (Err b) r made e same put = absurd (let z : ◌≡◌ {A = ℕ} 0 1 = cc in omega arith)
placed i (some b) (Ok x) r made e same put = absurd (let z : ◌≡◌ {A = ℕ} 0 1 = cc in omega arith)
placed i (some b) (Err x) (Ok y) made e err put = absurd err
placed i (some b) (Err x) (Err f) made e err put =
    let of : x ≡ record { number = b.number; states = naming b.states } = cc in
    ap Err (put x f err ∙ ap (λ y. record { number = y.number; place = Node i; states = y.states }) of)

module _ (bytes : List ℕ) (head : Head) (work nodes statements : List ℕ) (count i s : ℕ) where
  abbrev own : Option Breach
  own = first_broken (obligations_at bytes head work nodes statements i s)

  pub goes_on : i < count → fault_found (at_node i own) ≡ Ok tt
      → faults_from bytes head work nodes statements (count - i) i s
      ≡ faults_from bytes head work nodes statements (count - (i + 1)) (i + 1) (statement_after (node_in nodes i).rule s)
  unfolding faults_from
  goes_on more holds =
      let left : count - i ≡ suc (count - (i + 1)) = omega arith in
      let clear : own ≡ none = whole i own holds in
      rw (left, clear, add-one)

  pub ends_at : i < count → (f : Fault) → fault_found (at_node i own) ≡ Err f
      → fault_found (faults_from bytes head work nodes statements (count - i) i s) ≡ Err f
  unfolding faults_from
  ends_at more f found =
      let left : count - i ≡ suc (count - (i + 1)) = omega arith in
      rw left (broken i own f _ found)

  pub no_more : count ≤ i → faults_from bytes head work nodes statements (count - i) i s ≡ none
  unfolding faults_from
  no_more done = let left : count - i ≡ 0 = omega arith in rw left

-- The number of the statement at hand grows by at most 1 at each node.
pub after_least : (rule s : ℕ) → statement_after rule s ≤ s + 1
unfolding statement_after
after_least rule s = by (eqb rule 6)
  where
    by : (b : Bool) → cond b s (suc s) ≤ s + 1
    by true = omega arith
    by false = omega arith

-- A fault that the loop finds is of the conditions of its node over the statement that `statement_at` names.
some_inj : (x y : Broken.Broken) → ◌≡◌ {A = Option Broken.Broken} (some x) (some y) → x ≡ y
some_inj x y e = cc

module _ (bytes : List ℕ) (head : Head) (work nodes statements : List ℕ) where
  -- The first fault of a node's conditions over the statement at hand for it.
  abbrev first_at : ℕ → Option Breach
  first_at i = first_broken (obligations_at bytes head work nodes statements i (statement_at nodes i))

  abbrev from : ℕ → ℕ → Option Broken.Broken
  from count i = faults_from bytes head work nodes statements count i (statement_at nodes i)

  pub at_hand : (count i : ℕ) (b : Broken.Broken) → from count i ≡ some b → first_at b.node ≡ some (record { number = b.number; states = b.states })
  unfolding faults_from statement_at
  at_hand zero i b e = absurd (let z : ◌≡◌ {A = ℕ} 0 1 = cc in omega arith)
  at_hand (suc count) i b e = by (first_at i) refl (at_hand count (suc i) b) e
    where
      by : (o : Option Breach) → first_at i ≡ o
          → (from count (suc i) ≡ some b → first_at b.node ≡ some (record { number = b.number; states = b.states }))
          → or_broken (at_node i o) (from count (suc i)) ≡ some b
          → first_at b.node ≡ some (record { number = b.number; states = b.states })
      by none is later found = later found
      by (some x) is later found =
          let same : ◌≡◌ {A = Broken.Broken} (record { number = x.number; states = x.states; node = i }) b = some_inj _ b found in
          rw (← same) is
