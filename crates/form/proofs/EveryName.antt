-- A fact of every set, and of every relation, that a derivation names: node by node, and over the lists of its mentions.
use Prim.Native.Nat.{ℕ, ◌<◌}
use mathlib.Core.List.{List, [], ◌∷◌, ◌++◌}
use Rattle.semantics.specs.declared.Names.{Names}
use Rattle.semantics.specs.Derivations.{Derivation, skip, assignment, sequence, parallel, conditional, iteration, weaken}
use Rattle.derivation.proofs.Heads.{Named}
use Rattle.derivation.proofs.NodeTable.{EveryNode, Known}
use Rattle.form.specs.Mentions.{sets_of, relations_of, in_order}
use Rattle.form.proofs.Mentions.{All, all_none, all_cons, all_first, all_rest, all_both, all_left, all_right}

module _ (P Q : ℕ → Type 0) where
  -- P of the sets and Q of the relations, at one node and at every node.
  abbrev pub OwnNames : Names → Type 0
  OwnNames h = P h.p × Q h.r × Q h.g × Q h.q

  abbrev pub EveryName : Derivation → Type 0
  EveryName = EveryNode OwnNames P Q

  -- The mentions of a node are the first of the lists.
  module _ (h : Names) (relations : List ℕ) where
    abbrev relation_names : List ℕ
    relation_names = h.r ∷ h.g ∷ h.q ∷ relations

    three_rest : All Q relation_names → All Q relations
    three_rest all = all_rest Q h.q relations (all_rest Q h.g _ (all_rest Q h.r _ all))

    names_first : (sets : List ℕ) → All P (h.p ∷ sets) → All Q relation_names → OwnNames h
    names_first sets a b = (
      all_first P h.p sets a,
      all_first Q h.r _ b,
      all_first Q h.g _ (all_rest Q h.r _ b),
      all_first Q h.q relations (all_rest Q h.g _ (all_rest Q h.r _ b)),
    )

    three_added : OwnNames h → All Q relations → All Q relation_names
    three_added e all = all_cons Q h.r _ e.1 (all_cons Q h.g _ e.2 (all_cons Q h.q relations e.3 all))

  -- At a node with two children: of its own names, then of theirs.
  two_first : (h : Names) (ls rs lr rr : List ℕ) {L R : Type 0} → (All P ls → All Q lr → L) → (All P rs → All Q rr → R)
      → All P (h.p ∷ (ls ++ rs)) → All Q (relation_names h (lr ++ rr)) → OwnNames h × L × R
  two_first h ls rs lr rr left right a b =
      let sets = all_rest P h.p (ls ++ rs) a in
      let relations = three_rest h (lr ++ rr) b in (
        names_first h (lr ++ rr) (ls ++ rs) a b,
        left (all_left P ls rs sets) (all_left Q lr rr relations),
        right (all_right P ls rs sets) (all_right Q lr rr relations),
      )

  -- What holds of every mention holds at each node.
  pub every_name : (d : Derivation) → All P (in_order sets_of d) → All Q (in_order relations_of d) → EveryName d
  unfolding in_order sets_of relations_of
  every_name (skip h) a b = names_first h [] [] a b
  every_name (assignment h) a b = names_first h [] [] a b
  every_name (sequence h l r) a b = two_first h _ (in_order sets_of r) _ (in_order relations_of r) (every_name l) (every_name r) a b
  every_name (parallel h l r) a b = two_first h _ (in_order sets_of r) _ (in_order relations_of r) (every_name l) (every_name r) a b
  every_name (conditional h d) a b = (names_first h _ _ a b, every_name d (all_rest P _ _ a) (three_rest h _ b))
  every_name (iteration h K W d) a b =
      let rest = all_rest P _ _ a in
      let more = three_rest h _ b in
      (names_first h _ _ a b, all_first P K _ rest, all_first Q W _ more, every_name d (all_rest P K _ rest) (all_rest Q W _ more))
  every_name (weaken h d) a b = (names_first h _ _ a b, every_name d (all_rest P _ _ a) (three_rest h _ b))

  -- And back.
  pub every_set : (d : Derivation) → EveryName d → All P (in_order sets_of d)
  unfolding in_order sets_of
  every_set (skip h) e = all_cons P h.p [] e.0 (all_none P)
  every_set (assignment h) e = all_cons P h.p [] e.0 (all_none P)
  every_set (sequence h l r) e = all_cons P h.p _ e.0.0 (all_both P _ _ (every_set l e.1) (every_set r e.2))
  every_set (parallel h l r) e = all_cons P h.p _ e.0.0 (all_both P _ _ (every_set l e.1) (every_set r e.2))
  every_set (conditional h d) e = all_cons P h.p _ e.0.0 (every_set d e.1)
  every_set (iteration h K W d) e = all_cons P h.p _ e.0.0 (all_cons P K _ e.1 (every_set d e.3))
  every_set (weaken h d) e = all_cons P h.p _ e.0.0 (every_set d e.1)

  pub every_relation : (d : Derivation) → EveryName d → All Q (in_order relations_of d)
  unfolding in_order relations_of
  every_relation (skip h) e = three_added h [] e (all_none Q)
  every_relation (assignment h) e = three_added h [] e (all_none Q)
  every_relation (sequence h l r) e = three_added h _ e.0 (all_both Q _ _ (every_relation l e.1) (every_relation r e.2))
  every_relation (parallel h l r) e = three_added h _ e.0 (all_both Q _ _ (every_relation l e.1) (every_relation r e.2))
  every_relation (conditional h d) e = three_added h _ e.0 (every_relation d e.1)
  every_relation (iteration h K W d) e = three_added h _ e.0 (all_cons Q W _ e.2 (every_relation d e.3))
  every_relation (weaken h d) e = three_added h _ e.0 (every_relation d e.1)

-- A fact at every node, from another.
every_imp : {Own Own' : Names → Type 0} {P P' Q Q' : ℕ → Type 0} → ((h : Names) → Own h → Own' h) → ((K : ℕ) → P K → P' K) → ((W : ℕ) → Q W → Q' W)
    → (d : Derivation) → EveryNode Own P Q d → EveryNode Own' P' Q' d
every_imp own p q (skip h) e = own h e
every_imp own p q (assignment h) e = own h e
every_imp own p q (sequence h l r) e = (own h e.0, every_imp own p q l e.1, every_imp own p q r e.2)
every_imp own p q (parallel h l r) e = (own h e.0, every_imp own p q l e.1, every_imp own p q r e.2)
every_imp own p q (conditional h d) e = (own h e.0, every_imp own p q d e.1)
every_imp own p q (iteration h K W d) e = (own h e.0, p K e.1, q W e.2, every_imp own p q d e.3)
every_imp own p q (weaken h d) e = (own h e.0, every_imp own p q d e.1)

-- Names below the counts, as the reader leaves them.
module _ (sets relations : ℕ) where
  own_named : (h : Names) → OwnNames (λ i. i < sets) (λ r. r < relations) h → Named sets relations h
  own_named h e = record { P-below = e.0; R-below = e.1; G-below = e.2; Q-below = e.3 }

  pub every_known : (d : Derivation) → EveryName (λ i. i < sets) (λ r. r < relations) d → Known sets relations d
  every_known = every_imp own_named (λ K l. l) (λ W l. l)

  -- What holds below the counts holds at each node of a derivation that was read.
  module _ (P Q : ℕ → Type 0) (a : (i : ℕ) → i < sets → P i) (b : (r : ℕ) → r < relations → Q r) where
    named_own : (h : Names) → Named sets relations h → OwnNames P Q h
    named_own h n = (a _ n.P-below, b _ n.R-below, b _ n.G-below, b _ n.Q-below)

    pub known_every : (d : Derivation) → Known sets relations d → EveryName P Q d
    known_every = every_imp named_own a b

  pub known_sets : (d : Derivation) → Known sets relations d → All (λ i. i < sets) (in_order sets_of d)
  known_sets d n = every_set _ _ d (known_every _ (λ r. r < relations) (λ i l. l) (λ r l. l) d n)

  pub known_relations : (d : Derivation) → Known sets relations d → All (λ r. r < relations) (in_order relations_of d)
  known_relations d n = every_relation _ _ d (known_every (λ i. i < sets) _ (λ i l. l) (λ r l. l) d n)
