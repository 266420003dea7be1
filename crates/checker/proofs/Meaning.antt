-- The loop over the tables of a derivation and a statement finds the derivation's first fault: by induction on the derivation. A node
-- whose conditions hold has the rule of its statement (30), so its children's statements come next in the table.
use Prim.Native.Nat.{ℕ, suc, ◌+◌}
use mathlib.Core.Path.{◌≡◌, refl, sym, ◌∙◌, ap, subst}
use mathlib.Core.Option.{Option, none, some}
use native.Mathlib.Omega.{arith}
use Rattle.semantics.specs.Language.{Stmt}
use Rattle.semantics.specs.Derivations.{Derivation, skip, assignment, sequence, parallel, conditional, iteration, weaken, nodes}
use Rattle.semantics.specs.Conditions.{first_of, second_of}
use Rattle.semantics.specs.Checking.{Breach, Broken, first_broken, or_broken, at_node, obligations, first_fault}
use Rattle.semantics.proofs.Clear.{clear, says30}
use Rattle.handler.specs.StatementTable.{statements}
use Rattle.derivation.specs.NodeTable.{rule_of}
use Rattle.checker.specs.Nodes.{statement_after, faults_from}
use Rattle.checker.proofs.AtHand.{Decoded, own, faults, NodeAt, StatementAt, Halves, node_is, two_nodes, one_node, of_sequence, of_parallel, of_if, of_while, own_skip, own_assignment, own_sequence, own_parallel, own_if, own_while, own_weaken}

or_assoc : (a b c : Option Broken) → or_broken (or_broken a b) c ≡ or_broken a (or_broken b c)
or_assoc none b c = refl
or_assoc (some x) b c = refl

-- A broken condition of a node ends the search; otherwise the search goes on with the nodes after it.
pass : (i : ℕ) (o : Option Breach) (below next rest : Option Broken) → (o ≡ none → next ≡ or_broken below rest)
    → or_broken (at_node i o) next ≡ or_broken (or_broken (at_node i o) below) rest
pass i none below next rest on = on refl
pass i (some k) below next rest on = refl

or_none : (a : Option Broken) → or_broken a none ≡ a
or_none none = refl
or_none (some x) = refl

module _ (env : Decoded) where
  -- The search from a node on: its own conditions and, if they hold, what is below it and after it.
  on_from : (i s bit place : ℕ) (d : Derivation) (S : Stmt) (a : NodeAt env i bit d) (k : ℕ) (below rest : Option Broken)
      → own env i s ≡ first_broken (obligations env.tables d S) → first_fault env.tables d S i ≡ or_broken (at_node i (first_broken (obligations env.tables d S))) below
      → (first_broken (obligations env.tables d S) ≡ none → faults env k (suc i) (statement_after (rule_of d) s) ≡ or_broken below rest)
      → faults env (suc k) i s ≡ or_broken (first_fault env.tables d S i) rest
  unfolding faults_from
  on_from i s bit place d S a k below rest means is next =
      (λ j. or_broken (at_node i (means j)) (faults env k (suc i) (statement_after (node_is env i bit d a j).rule s)))
      ∙ pass i (first_broken (obligations env.tables d S)) below (faults env k (suc i) (statement_after (rule_of d) s)) rest next
      ∙ ap (λ o. or_broken o rest) (sym is)

  abbrev Finds : Derivation → Stmt → ℕ → ℕ → ℕ → Type 0
  Finds d S i s count = faults env (nodes d + count) i s ≡ or_broken (first_fault env.tables d S i) (faults env count (i + nodes d) (s + statements S))

  abbrev Found : Derivation → Type 0
  Found d = (S : Stmt) (i s bit place x count : ℕ) → NodeAt env i bit d → StatementAt env s place x S → Finds d S i s count

  leaf : (d : Derivation) (S : Stmt) (i s bit place count : ℕ) → NodeAt env i bit d → nodes d ≡ 1 → own env i s ≡ first_broken (obligations env.tables d S)
      → first_fault env.tables d S i ≡ at_node i (first_broken (obligations env.tables d S)) → statement_after (rule_of d) s ≡ suc s
      → (first_broken (obligations env.tables d S) ≡ none → statements S ≡ 1) → Finds d S i s count
  leaf d S i s bit place count a one means is after alone =
      let more : nodes d + count ≡ suc count = omega arith in
      let next : i + nodes d ≡ suc i = omega arith in
      ap (λ k. faults env k i s) more
      ∙ on_from i s bit place d S a count none (faults env count (i + nodes d) (s + statements S)) means (is ∙ sym (or_none (at_node i (first_broken (obligations env.tables d S)))))
      (λ holds. let last : s + statements S ≡ suc s = omega (arith, alone holds) in rw (after, next, last))

  -- What is found below a node with two children, and below one with one, if the node's own conditions hold.
  module _ (i s : ℕ) where
    Two : (l r : Derivation) (count : ℕ) → Stmt → Type 0
    Two l r count X =
        faults env (nodes l + nodes r + count) (suc i) (suc s)
        ≡ or_broken (or_broken (first_fault env.tables l (first_of X) (suc i)) (first_fault env.tables r (second_of X) (suc i + nodes l)))
        (faults env count (i + suc (nodes l + nodes r)) (s + statements X))

    two_below : (l r : Derivation) → Found l → Found r → (X a b : Stmt) → first_of X ≡ a → second_of X ≡ b → statements X ≡ 1 + statements a + statements b
        → (bit bit₂ place x count : ℕ) → NodeAt env (suc i) bit l × NodeAt env (suc i + nodes l) bit₂ r → Halves env s place x a b → Two l r count X
    unfolding Two
    two_below l r found-l found-r X a b first_is second_is size bit bit₂ place x count below halves =
        let split : nodes l + nodes r + count ≡ nodes l + (nodes r + count) = omega arith in
        let next : i + suc (nodes l + nodes r) ≡ suc i + nodes l + nodes r = omega arith in
        let after : s + statements X ≡ suc s + statements a + statements b = omega arith in
        rw (first_is, second_is, split, next, after)
        (found-l a (suc i) (suc s) bit _ _ (nodes r + count) below.0 halves.0
        ∙ ap (or_broken (first_fault env.tables l a (suc i))) (found-r b (suc i + nodes l) (suc s + statements a) bit₂ _ _ count below.1 halves.1)
        ∙ sym (or_assoc (first_fault env.tables l a (suc i)) (first_fault env.tables r b (suc i + nodes l)) _))

    over_two_lem : (d l r : Derivation) (S : Stmt) (bit place count : ℕ) → NodeAt env i bit d → nodes d ≡ suc (nodes l + nodes r) → statement_after (rule_of d) s ≡ suc s
        → own env i s ≡ first_broken (obligations env.tables d S)
        → first_fault env.tables d S i ≡ or_broken (at_node i (first_broken (obligations env.tables d S))) (or_broken (first_fault env.tables l (first_of S) (suc i)) (first_fault env.tables r (second_of S) (suc i + nodes l)))
        → (first_broken (obligations env.tables d S) ≡ none → Two l r count S) → Finds d S i s count
    unfolding Two
    over_two_lem d l r S bit place count a size after means is below =
        let more : nodes d + count ≡ suc (nodes l + nodes r + count) = omega arith in
        ap (λ k. faults env k i s) more
        ∙ on_from i s bit place d S a (nodes l + nodes r + count) _ (faults env count (i + nodes d) (s + statements S)) means is
        (λ holds. rw (after, size) (below holds))

    One : (d : Derivation) (s' count : ℕ) → Stmt → Stmt → Type 0
    One d s' count X b = faults env (nodes d + count) (suc i) s' ≡ or_broken (first_fault env.tables d b (suc i)) (faults env count (i + suc (nodes d)) (s + statements X))

    one_below : (d : Derivation) → Found d → (X b : Stmt) (s' bit place x count : ℕ) → s + statements X ≡ s' + statements b
        → NodeAt env (suc i) bit d → StatementAt env s' place x b → One d s' count X b
    unfolding One
    one_below d found-d X b s' bit place x count size below at =
        let next : i + suc (nodes d) ≡ suc i + nodes d = omega arith in
        rw (next, size) (found-d b (suc i) s' bit place x count below at)

    over_one_lem : (d c : Derivation) (S b : Stmt) (s' bit place count : ℕ) → NodeAt env i bit d → nodes d ≡ suc (nodes c) → statement_after (rule_of d) s ≡ s'
        → own env i s ≡ first_broken (obligations env.tables d S)
        → first_fault env.tables d S i ≡ or_broken (at_node i (first_broken (obligations env.tables d S))) (first_fault env.tables c b (suc i))
        → (first_broken (obligations env.tables d S) ≡ none → One c s' count S b) → Finds d S i s count
    unfolding One
    over_one_lem d c S b s' bit place count a size after means is below =
        let more : nodes d + count ≡ suc (nodes c + count) = omega arith in
        ap (λ k. faults env k i s) more
        ∙ on_from i s bit place d S a (nodes c + count) _ (faults env count (i + nodes d) (s + statements S)) means is
        (λ holds. rw (after, size) (below holds))

  found : (d : Derivation) → Found d
  unfolding statement_after
  found (skip h) S i s bit place x count a b =
      leaf (skip h) S i s bit place count a refl (own_skip env i s bit place x h S a b) refl refl
      (λ holds. sym (ap statements (says30 S 0 (clear (obligations env.tables (skip h) S) holds).0)))
  found (assignment h) S i s bit place x count a b =
      leaf (assignment h) S i s bit place count a refl (own_assignment env i s bit place x h S a b) refl refl
      (λ holds. sym (ap statements (says30 S 1 (clear (obligations env.tables (assignment h) S) holds).0)))
  found (sequence h l r) S i s bit place x count a b =
      let below = two_nodes env i bit _ l r a.known.1 a.known.2 a.room a.rest a.words in
      over_two_lem i s (sequence h l r) l r S bit place count a refl refl
      (own_sequence env i s bit place x h l r S _ _ (node_is env _ _ l below.0) (node_is env _ _ r below.1) a b) refl
      (λ holds. subst (λ X. StatementAt env s place x X → Two i s l r count X) (says30 S 2 (clear (obligations env.tables (sequence h l r) S) holds).0)
      (λ c. two_below i s l r (found l) (found r) _ _ _ refl refl refl _ _ place x count below (of_sequence env s place x _ _ c)) b)
  found (parallel h l r) S i s bit place x count a b =
      let below = two_nodes env i bit _ l r a.known.1 a.known.2 a.room a.rest a.words in
      over_two_lem i s (parallel h l r) l r S bit place count a refl refl
      (own_parallel env i s bit place x h l r S _ _ (node_is env _ _ l below.0) (node_is env _ _ r below.1) a b) refl
      (λ holds. subst (λ X. StatementAt env s place x X → Two i s l r count X) (says30 S 3 (clear (obligations env.tables (parallel h l r) S) holds).0)
      (λ c. two_below i s l r (found l) (found r) _ _ _ refl refl refl _ _ place x count below (of_parallel env s place x _ _ c)) b)
  found (conditional h d) S i s bit place x count a b =
      let below = one_node env i (bit + 19) _ d a.known.1 a.room a.rest a.words in
      over_one_lem i s (conditional h d) d S (first_of S) (suc s) bit place count a refl refl
      (own_if env i s bit place x h d _ (node_is env _ _ d below) S a b) refl
      (λ holds. subst (λ X. StatementAt env s place x X → One i s d (suc s) count X (first_of X)) (says30 S 4 (clear (obligations env.tables (conditional h d) S) holds).0)
      (λ c. one_below i s d (found d) _ _ (suc s) _ _ _ count (omega arith) below (of_if env s place x _ _ c)) b)
  found (iteration h K W d) S i s bit place x count a b =
      let below = one_node env i (bit + 27) _ d a.known.3 a.room a.rest a.words in
      over_one_lem i s (iteration h K W d) d S (first_of S) (suc s) bit place count a refl refl
      (own_while env i s bit place x h d _ (node_is env _ _ d below) K W S a b) refl
      (λ holds. subst (λ X. StatementAt env s place x X → One i s d (suc s) count X (first_of X)) (says30 S 5 (clear (obligations env.tables (iteration h K W d) S) holds).0)
      (λ c. one_below i s d (found d) _ _ (suc s) _ _ _ count (omega arith) below (of_while env s place x _ _ c)) b)
  found (weaken h d) S i s bit place x count a b =
      let below = one_node env i (bit + 19) _ d a.known.1 a.room a.rest a.words in
      over_one_lem i s (weaken h d) d S S s bit place count a refl refl
      (own_weaken env i s bit place x h d _ (node_is env _ _ d below) S a b) refl
      (λ holds. one_below i s d (found d) S S s _ place x count refl below b)

  -- The whole derivation over the whole statement.
  pub found_in_tables : (bit place x : ℕ) (d : Derivation) (S : Stmt) → NodeAt env 0 bit d → StatementAt env 0 place x S → faults env (nodes d) 0 0 ≡ first_fault env.tables d S 0
  unfolding faults_from
  found_in_tables bit place x d S a b =
      let all : nodes d ≡ nodes d + 0 = omega arith in
      ap (λ k. faults env k 0 0) all ∙ found d S 0 0 bit place x 0 a b ∙ or_none (first_fault env.tables d S 0)
