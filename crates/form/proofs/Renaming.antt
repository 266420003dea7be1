-- Laws of other names for the tables of a derivation: two renamings are one, only the tables that are named matter, and nodes, levels, mentions
-- and fields are those of the derivation under the new names.
use Prim.Native.Nat.{ℕ, ◌<◌}
use mathlib.Core.List.{List, ◌++◌, map, map-append}
use mathlib.Core.Path.{◌≡◌, refl, sym, ◌∙◌, ap, ap₂, subst}
use Rattle.semantics.specs.declared.Names.{Names}
use Rattle.semantics.specs.Derivations.{Derivation, skip, assignment, sequence, parallel, conditional, iteration, weaken, names_of, nodes, levels}
use Rattle.derivation.specs.declared.Node.{Node}
use Rattle.derivation.specs.NodeTable.{node_bits}
use Rattle.derivation.proofs.NodeTable.{Known, by_rule}
use Rattle.form.specs.Members.{names_by, node_by, rename}
use Rattle.form.specs.Mentions.{sets_of, relations_of, root_node, in_order}
use Rattle.form.specs.Form.{parts_of}
use Rattle.form.proofs.Mentions.{All, all_map}
use Rattle.form.proofs.EveryName.{OwnNames, EveryName, every_name, every_known}

-- Two renamings, one after the other, are one.
module _ (f g f' g' : ℕ → ℕ) where
  pub rename_rename : (d : Derivation) → rename f g (rename f' g' d) ≡ rename (λ i. f (f' i)) (λ i. g (g' i)) d
  unfolding rename
  rename_rename (skip h) = refl
  rename_rename (assignment h) = refl
  rename_rename (sequence h l r) = rw (rename_rename l, rename_rename r)
  rename_rename (parallel h l r) = rw (rename_rename l, rename_rename r)
  rename_rename (conditional h d) = rw (rename_rename d)
  rename_rename (iteration h K W d) = rw (rename_rename d)
  rename_rename (weaken h d) = rw (rename_rename d)

-- Each table under its own name.
pub rename_none : (d : Derivation) → rename (λ i. i) (λ i. i) d ≡ d
unfolding rename
rename_none (skip h) = refl
rename_none (assignment h) = refl
rename_none (sequence h l r) = ap₂ (sequence h) (rename_none l) (rename_none r)
rename_none (parallel h l r) = ap₂ (parallel h) (rename_none l) (rename_none r)
rename_none (conditional h d) = ap (conditional h) (rename_none d)
rename_none (iteration h K W d) = ap (iteration h K W) (rename_none d)
rename_none (weaken h d) = ap (weaken h) (rename_none d)

-- Names that agree on the tables that a derivation names.
module _ (f g f' g' : ℕ → ℕ) where
  abbrev Agree : Derivation → Type 0
  Agree = EveryName (λ i. f i ≡ f' i) (λ r. g r ≡ g' r)

  names_agree : (h : Names) → OwnNames (λ i. f i ≡ f' i) (λ r. g r ≡ g' r) h → names_by f g h ≡ names_by f' g' h
  names_agree h e = rw (e.0, e.1, e.2, e.3)

  pub rename_agree : (d : Derivation) → Agree d → rename f g d ≡ rename f' g' d
  unfolding rename
  rename_agree (skip h) e = ap skip (names_agree h e)
  rename_agree (assignment h) e = ap assignment (names_agree h e)
  rename_agree (sequence h l r) e = rw (names_agree h e.0, rename_agree l e.1, rename_agree r e.2)
  rename_agree (parallel h l r) e = rw (names_agree h e.0, rename_agree l e.1, rename_agree r e.2)
  rename_agree (conditional h d) e = rw (names_agree h e.0, rename_agree d e.1)
  rename_agree (iteration h K W d) e = rw (names_agree h e.0, e.1, e.2, rename_agree d e.3)
  rename_agree (weaken h d) e = rw (names_agree h e.0, rename_agree d e.1)

  pub rename_same : (d : Derivation) → All (λ i. f i ≡ f' i) (in_order sets_of d) → All (λ r. g r ≡ g' r) (in_order relations_of d)
      → rename f g d ≡ rename f' g' d
  rename_same d a b = rename_agree d (every_name _ _ d a b)

module _ (f g : ℕ → ℕ) where
  -- As many nodes, levels and bits.
  counts_renamed : (d : Derivation) → (nodes (rename f g d) ≡ nodes d) × (levels (rename f g d) ≡ levels d) × (node_bits (rename f g d) ≡ node_bits d)
  unfolding rename
  counts_renamed (skip h) = (refl, refl, refl)
  counts_renamed (assignment h) = (refl, refl, refl)
  counts_renamed (sequence h l r) = let (a, b, c) = counts_renamed l in let (x, y, z) = counts_renamed r in rw (a, b, c, x, y, z) (refl, refl, refl)
  counts_renamed (parallel h l r) = let (a, b, c) = counts_renamed l in let (x, y, z) = counts_renamed r in rw (a, b, c, x, y, z) (refl, refl, refl)
  counts_renamed (conditional h d) = let (a, b, c) = counts_renamed d in rw (a, b, c) (refl, refl, refl)
  counts_renamed (iteration h K W d) = let (a, b, c) = counts_renamed d in rw (a, b, c) (refl, refl, refl)
  counts_renamed (weaken h d) = let (a, b, c) = counts_renamed d in rw (a, b, c) (refl, refl, refl)

  pub nodes_rename : (d : Derivation) → nodes (rename f g d) ≡ nodes d
  nodes_rename d = (counts_renamed d).0

  pub levels_rename : (d : Derivation) → levels (rename f g d) ≡ levels d
  levels_rename d = (counts_renamed d).1

  pub node_bits_rename : (d : Derivation) → node_bits (rename f g d) ≡ node_bits d
  node_bits_rename d = (counts_renamed d).2

  -- The root's own sets, relations, fields and names.
  root_renamed : (d : Derivation) → (sets_of (root_node (rename f g d)) ≡ map f (sets_of (root_node d)))
      × (relations_of (root_node (rename f g d)) ≡ map g (relations_of (root_node d)))
      × (parts_of (root_node (rename f g d)) ≡ parts_of (node_by f g (root_node d))) × (names_of (rename f g d) ≡ names_by f g (names_of d))
  unfolding rename sets_of relations_of parts_of
  root_renamed =
      by_rule (λ d. (sets_of (root_node (rename f g d)) ≡ map f (sets_of (root_node d))) ×
      (relations_of (root_node (rename f g d)) ≡ map g (relations_of (root_node d)))
      × (parts_of (root_node (rename f g d)) ≡ parts_of (node_by f g (root_node d))) × (names_of (rename f g d) ≡ names_by f g (names_of d)))
      (λ h. (refl, refl, refl, refl)) (λ h. (refl, refl, refl, refl)) (λ h l r. (refl, refl, refl, refl)) (λ h l r. (refl, refl, refl, refl))
      (λ h d. (refl, refl, refl, refl)) (λ h K W d. (refl, refl, refl, refl)) (λ h d. (refl, refl, refl, refl))

  pub names_renamed : (d : Derivation) → names_of (rename f g d) ≡ names_by f g (names_of d)
  names_renamed d = (root_renamed d).3

  -- What the nodes have under the new names, if the root's is known from the root under the old ones.
  module _ {A : Type 0} (own old : Node → List A) (root : (d : Derivation) → own (root_node (rename f g d)) ≡ old (root_node d)) where
    pub in_order_renamed : (d : Derivation) → in_order own (rename f g d) ≡ in_order old d
    unfolding rename in_order
    in_order_renamed (skip h) = root (skip h)
    in_order_renamed (assignment h) = root (assignment h)
    in_order_renamed (sequence h l r) = ap₂ ◌++◌ (root (sequence h l r)) (ap₂ ◌++◌ (in_order_renamed l) (in_order_renamed r))
    in_order_renamed (parallel h l r) = ap₂ ◌++◌ (root (parallel h l r)) (ap₂ ◌++◌ (in_order_renamed l) (in_order_renamed r))
    in_order_renamed (conditional h d) = ap₂ ◌++◌ (root (conditional h d)) (in_order_renamed d)
    in_order_renamed (iteration h K W d) = ap₂ ◌++◌ (root (iteration h K W d)) (in_order_renamed d)
    in_order_renamed (weaken h d) = ap₂ ◌++◌ (root (weaken h d)) (in_order_renamed d)

-- A function of all that the nodes have.
in_order_map : (f : ℕ → ℕ) (own : Node → List ℕ) (d : Derivation) → in_order (λ x. map f (own x)) d ≡ map f (in_order own d)
unfolding in_order
in_order_map f own (skip h) = refl
in_order_map f own (assignment h) = refl
in_order_map f own (sequence h l r) = rw (map-append, map-append, in_order_map f own l, in_order_map f own r)
in_order_map f own (parallel h l r) = rw (map-append, map-append, in_order_map f own l, in_order_map f own r)
in_order_map f own (conditional h d) = rw (map-append, in_order_map f own d)
in_order_map f own (iteration h K W d) = rw (map-append, in_order_map f own d)
in_order_map f own (weaken h d) = rw (map-append, in_order_map f own d)

module _ (f g : ℕ → ℕ) (d : Derivation) where
  pub sets_renamed : in_order sets_of (rename f g d) ≡ map f (in_order sets_of d)
  sets_renamed = in_order_renamed f g sets_of _ (λ d. (root_renamed f g d).0) d ∙ in_order_map f sets_of d

  pub relations_renamed : in_order relations_of (rename f g d) ≡ map g (in_order relations_of d)
  relations_renamed = in_order_renamed f g relations_of _ (λ d. (root_renamed f g d).1) d ∙ in_order_map g relations_of d

  pub parts_renamed : in_order parts_of (rename f g d) ≡ in_order (λ x. parts_of (node_by f g x)) d
  parts_renamed = in_order_renamed f g parts_of _ (λ d. (root_renamed f g d).2) d

  -- A fact of every new name, from the old ones.
  pub all_sets_renamed : (P : ℕ → Type 0) → All (λ i. P (f i)) (in_order sets_of d) → All P (in_order sets_of (rename f g d))
  all_sets_renamed P all = subst (All P) (sym sets_renamed) (all_map P f (in_order sets_of d) all)

  pub all_relations_renamed : (Q : ℕ → Type 0) → All (λ r. Q (g r)) (in_order relations_of d) → All Q (in_order relations_of (rename f g d))
  all_relations_renamed Q all = subst (All Q) (sym relations_renamed) (all_map Q g (in_order relations_of d) all)

  -- New names below the counts.
  pub known_renamed : (sets relations : ℕ) → All (λ i. f i < sets) (in_order sets_of d) → All (λ r. g r < relations) (in_order relations_of d)
      → Known sets relations (rename f g d)
  known_renamed sets relations a b =
      every_known sets relations (rename f g d)
      (every_name _ _ (rename f g d) (all_sets_renamed (λ i. i < sets) a) (all_relations_renamed (λ r. r < relations) b))
