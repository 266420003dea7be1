-- Bytes that hold the fields of a derivation from a bit on are read there as that derivation.
use Prim.Native.Nat.{ℕ, zero, suc, ◌+◌, ◌*◌, ◌^◌, ◌≤◌, ◌<◌, max}
use mathlib.Core.Bool.{Bool, true, false, cond}
use mathlib.Core.List.{List, [], ◌∷◌, ◌++◌}
use mathlib.Core.Path.{◌≡◌, refl, ◌∙◌, ap}
use native.Mathlib.Numerals.{add-one}
use native.Mathlib.Omega.{arith}
use borrow.Author.Tests.{lt-leb, ne_eqb}
use lib.Dec.{eqb}
use lib.ListN.{length}
use Rattle.bits.specs.Fields.{field_or, bits_at}
use Rattle.bits.proofs.Laws.{found}
use Rattle.writer.specs.Packing.{part, width_of}
use Rattle.writer.proofs.Holding.{Holds, Fitting}
use Rattle.writer.proofs.Packed.{width_append, fitting_append, holds_append}
use Rattle.semantics.specs.declared.Names.{Names}
use Rattle.semantics.specs.Derivations.{Derivation, skip, assignment, sequence, parallel, conditional, iteration, weaken, names_of, nodes, levels}
use Rattle.derivation.specs.declared.Node.{Node}
use Rattle.derivation.specs.Tables.{most_tables}
use Rattle.derivation.specs.Nodes.{NodeRead, whole, on_child, on_left_node, on_node_head, node_at}
use Rattle.derivation.specs.Nodes.{named_table, loop_head, names_head, rule_head, node_head}
use Rattle.derivation.specs.NodeTable.{rule_of, loop_names, node_bits}
use Rattle.derivation.proofs.Heads.{Named, named_there}
use Rattle.derivation.proofs.NodeTable.{Known, by_rule, names_known}
use Rattle.form.specs.Mentions.{in_order, root_node}
use Rattle.form.specs.Form.{parts_of}

-- A derivation's fields take the bits that are counted.
pub width_nodes : (d : Derivation) → width_of (in_order parts_of d) ≡ node_bits d
unfolding width_of in_order parts_of
width_nodes (skip h) = refl
width_nodes (assignment h) = refl
width_nodes (sequence h l r) = omega (arith, width_append (in_order parts_of l) (in_order parts_of r), width_nodes l, width_nodes r)
width_nodes (parallel h l r) = omega (arith, width_append (in_order parts_of l) (in_order parts_of r), width_nodes l, width_nodes r)
width_nodes (conditional h d) = omega (arith, width_nodes d)
width_nodes (iteration h K W d) = omega (arith, width_nodes d)
width_nodes (weaken h d) = omega (arith, width_nodes d)

-- The least that a derivation has.
least_size : (d : Derivation) → (rule_of d < 7) × (1 ≤ levels d) × (1 ≤ nodes d) × (19 ≤ node_bits d)
least_size =
    by_rule (λ d. (rule_of d < 7) × (1 ≤ levels d) × (1 ≤ nodes d) × (19 ≤ node_bits d))
    (λ h. omega arith) (λ h. omega arith) (λ h l r. omega arith) (λ h l r. omega arith) (λ h d. omega arith) (λ h K W d. omega arith)
    (λ h d. omega arith)

module _ (bytes : List ℕ) (sets relations : ℕ) where
  -- A name of a table that there is.
  name_back : (limit at v : ℕ) (f : ℕ → _) → bits_at bytes at 4 ≡ v → v < limit → at + 4 ≤ 8 * length bytes → at + 4 < 2 ^ 64
      → named_table bytes limit at f ≡ f v
  name_back limit at v f e under inside fits =
      let field = found bytes at 4 (omega arith) (omega arith) inside fits in
      named_there bytes limit at f v (at + 4) (rw e at field) under

  -- The head of a node up to its four names.
  head_back : (k before at : ℕ) (x : Node) → x.rule < 7 → Named sets relations x.names → 1 ≤ k → before < 127
      → at + 19 ≤ 8 * length bytes → at + 19 < 2 ^ 64 → Holds bytes at (parts_of x)
      → node_head bytes sets relations k before at ≡ loop_head bytes sets relations x.rule x.names (at + 19)
  unfolding node_head rule_head names_head field_or parts_of Holds
  head_back k before at x under n some few inside fits s =
      let field = rw s.0 at (found bytes at 3 (omega arith) (omega arith) (omega arith) (omega arith)) in
      let third : at + 3 + 4 + 4 ≡ at + 3 + 8 = omega arith in
      let fourth : at + 3 + 8 + 4 ≡ at + 3 + 12 = omega arith in
      let end : at + 3 + 16 ≡ at + 19 = omega arith in
      let G = rw third at s.1.1.1.0 in
      let Q = rw (third, fourth) at s.1.1.1.1.0 in
      rw (field, ne_eqb k 0 (λ z. omega arith), lt-leb 127 before few, ne_eqb x.rule 7 (λ z. omega arith))
      (name_back sets (at + 3) x.names.p _ s.1.0 n.P-below (omega arith) (omega arith)
      ∙ name_back relations (at + 3 + 4) x.names.r _ s.1.1.0 n.R-below (omega arith) (omega arith)
      ∙ name_back relations (at + 3 + 8) x.names.g _ G n.G-below (omega arith) (omega arith)
      ∙ name_back relations (at + 3 + 12) x.names.q _ Q n.Q-below (omega arith) (omega arith)
      ∙ ap (loop_head bytes sets relations x.rule x.names) end)

  -- K and W of a while.
  loop-back : (h : Names) (K W at : ℕ) → K < sets → W < relations → at + 27 ≤ 8 * length bytes → at + 27 < 2 ^ 64
      → Holds bytes (at + 19) (part 4 K ∷ part 4 W ∷ []) → (before : ℕ) (child : ℕ → ℕ → NodeRead)
      → on_node_head (loop_head bytes sets relations 5 h (at + 19)) before child ≡ on_child (iteration h K W) (child (suc before) (at + 27))
  unfolding loop_head Holds
  loop-back h K W at hK hW inside fits s before child =
      let end : at + 19 + 8 ≡ at + 27 = omega arith in
      ap (λ x. on_node_head x before child)
      (name_back sets (at + 19) K _ s.0 hK (omega arith) (omega arith)
      ∙ name_back relations (at + 19 + 4) W _ s.1.0 hW (omega arith) (omega arith))
      ∙ ap (λ next. on_child (iteration h K W) (child (suc before) next)) end

  -- What reading a derivation of so many levels, nodes and bits needs besides its fields.
  record Room (k before at depth count bits after next : ℕ) : Type 0 where
    deep : suc depth ≤ k
    counted : after ≡ before + count
    few : after ≤ 127
    ended : next ≡ at + bits
    inside : next ≤ 8 * length bytes
    fits : next < 2 ^ 64

  abbrev RoomFor : ℕ → ℕ → ℕ → Derivation → ℕ → ℕ → Type 0
  RoomFor k before at d after next = Room k before at (levels d) (nodes d) (node_bits d) after next

  abbrev node : ℕ → ℕ → ℕ → NodeRead
  node k = node_at k bytes sets relations

  -- A root is read up to its four names.
  root_back : (k before at : ℕ) (d : Derivation) (after next : ℕ) → Known sets relations d → RoomFor (suc k) before at d after next
      → Holds bytes at (parts_of (root_node d))
      → node (suc k) before at ≡ on_node_head (loop_head bytes sets relations (rule_of d) (names_of d) (at + 19)) before (node k)
  unfolding node_at
  root_back k before at d after next known room s =
      let least = least_size d in
      ap (λ x. on_node_head x before (node k))
      (head_back k before at (root_node d) least.0 (names_known sets relations d known) (omega (arith, room)) (omega (arith, room))
      (omega (arith, room)) (omega (arith, room)) s)

  -- A derivation whose fields are there is read with k levels to go.
  abbrev BackAt : ℕ → Type 0
  BackAt k = (before at : ℕ) (d : Derivation) (after next : ℕ) → Known sets relations d → RoomFor k before at d after next
      → Holds bytes at (in_order parts_of d) → node k before at ≡ whole d after next

  -- The second child is read where the first ends.
  two_back : (k : ℕ) → BackAt k → (before at : ℕ) (f : Derivation → Derivation → Derivation) (l r : Derivation) (after next : ℕ)
      → Known sets relations l → Known sets relations r
      → Room (suc k) before at (suc (max (levels l) (levels r))) (suc (nodes l + nodes r)) (19 + node_bits l + node_bits r) after next
      → Holds bytes (at + 19) (in_order parts_of l ++ in_order parts_of r)
      → on_left_node f (node k (suc before) (at + 19)) (node k) ≡ whole (f l r) after next
  two_back k below before at f l r after next known-l known-r room s =
      let both = holds_append bytes (at + 19) (in_order parts_of l) (in_order parts_of r) s in
      let between = suc before + nodes l in
      let middle = at + 19 + node_bits l in
      ap (λ left. on_left_node f left (node k)) (below (suc before) (at + 19) l between middle known-l (omega (arith, room)) both.0)
      ∙ ap (on_child (f l)) (below between middle r after next known-r (omega (arith, room)) (rw (width_nodes l) at both.1))

  -- By the root's rule.
  back : (k : ℕ) → BackAt k
  unfolding in_order loop_head parts_of width_of
  back zero before at d after next known room s = absurd (omega (arith, room))
  back (suc k) before at (skip h) after next known room s =
      rw (room.counted, room.ended, add-one) (root_back k before at (skip h) after next known room s)
  back (suc k) before at (assignment h) after next known room s =
      rw (room.counted, room.ended, add-one) (root_back k before at (assignment h) after next known room s)
  back (suc k) before at (sequence h l r) after next known room s =
      let parts = holds_append bytes at (parts_of (root_node (sequence h l r))) _ s in
      root_back k before at (sequence h l r) after next known room parts.0
      ∙ two_back k (back k) before at (sequence h) l r after next known.1 known.2 room parts.1
  back (suc k) before at (parallel h l r) after next known room s =
      let parts = holds_append bytes at (parts_of (root_node (parallel h l r))) _ s in
      root_back k before at (parallel h l r) after next known room parts.0
      ∙ two_back k (back k) before at (parallel h) l r after next known.1 known.2 room parts.1
  back (suc k) before at (conditional h d) after next known room s =
      let parts = holds_append bytes at (parts_of (root_node (conditional h d))) _ s in
      root_back k before at (conditional h d) after next known room parts.0
      ∙ ap (on_child (conditional h)) (back k (suc before) (at + 19) d after next known.1 (omega (arith, room)) parts.1)
  back (suc k) before at (iteration h K W d) after next known room s =
      let parts = holds_append bytes at (parts_of (root_node (iteration h K W d))) _ s in
      let loop = holds_append bytes at (part 3 5 ∷ part 4 h.p ∷ part 4 h.r ∷ part 4 h.g ∷ part 4 h.q ∷ []) _ parts.0 in
      root_back k before at (iteration h K W d) after next known room parts.0
      ∙ loop-back h K W at known.1 known.2 (omega (arith, room)) (omega (arith, room)) loop.1 before (node k)
      ∙ ap (on_child (iteration h K W)) (back k (suc before) (at + 27) d after next known.3 (omega (arith, room)) parts.1)
  back (suc k) before at (weaken h d) after next known room s =
      let parts = holds_append bytes at (parts_of (root_node (weaken h d))) _ s in
      root_back k before at (weaken h d) after next known room parts.0
      ∙ ap (on_child (weaken h)) (back k (suc before) (at + 19) d after next known.1 (omega (arith, room)) parts.1)

  -- A derivation is read where its fields are.
  pub nodes_back : (k before at : ℕ) (d : Derivation) → Known sets relations d → suc (levels d) ≤ k → before + nodes d ≤ 127
      → at + node_bits d ≤ 8 * length bytes → at + node_bits d < 2 ^ 64 → Holds bytes at (in_order parts_of d)
      → node_at k bytes sets relations before at ≡ whole d (before + nodes d) (at + node_bits d)
  nodes_back k before at d known deep few inside fits s =
      back k before at d _ _ known (record { deep = deep; counted = refl; few = few; ended = refl; inside = inside; fits = fits }) s

-- The fields of a derivation that names at most 16 sets and 16 relations have room.
module _ (sets relations : ℕ) (few_sets : sets ≤ most_tables) (few_relations : relations ≤ most_tables) where
  node_fit : (x : Node) → Named sets relations x.names → (x.rule < 8) × (x.k < 16) × (x.w < 16) → Fitting (parts_of x)
  unfolding parts_of Fitting
  node_fit x n small =
      let P = n.P-below in
      let R = n.R-below in
      let G = n.G-below in
      let Q = n.Q-below in
      (small.0, (omega arith, (omega arith, (omega arith, (omega arith, loop (eqb x.rule 5))))))
    where
      loop : (b : Bool) → Fitting (cond b (part 4 x.k ∷ part 4 x.w ∷ []) [])
      loop true = (small.1, (small.2, tt))
      loop false = tt

  root_fit : (d : Derivation) → Known sets relations d → Fitting (parts_of (root_node d))
  root_fit d known = node_fit (root_node d) (names_known sets relations d known) (small d known)
    where
      small : (d : Derivation) → Known sets relations d → (rule_of d < 8) × ((loop_names d).0 < 16) × ((loop_names d).1 < 16)
      small =
          by_rule (λ d. Known sets relations d → (rule_of d < 8) × ((loop_names d).0 < 16) × ((loop_names d).1 < 16)) (λ h k. omega arith)
          (λ h k. omega arith)
          (λ h l r k. omega arith) (λ h l r k. omega arith) (λ h d k. omega arith) (λ h K W d k. omega (arith, k.1, k.2)) (λ h d k. omega arith)

  pub nodes_fit : (d : Derivation) → Known sets relations d → Fitting (in_order parts_of d)
  unfolding in_order
  nodes_fit (skip h) known = root_fit (skip h) known
  nodes_fit (assignment h) known = root_fit (assignment h) known
  nodes_fit (sequence h l r) known =
      fitting_append _ _ (root_fit (sequence h l r) known) (fitting_append _ _ (nodes_fit l known.1) (nodes_fit r known.2))
  nodes_fit (parallel h l r) known =
      fitting_append _ _ (root_fit (parallel h l r) known) (fitting_append _ _ (nodes_fit l known.1) (nodes_fit r known.2))
  nodes_fit (conditional h d) known = fitting_append _ _ (root_fit (conditional h d) known) (nodes_fit d known.1)
  nodes_fit (iteration h K W d) known = fitting_append _ _ (root_fit (iteration h K W d) known) (nodes_fit d known.3)
  nodes_fit (weaken h d) known = fitting_append _ _ (root_fit (weaken h d) known) (nodes_fit d known.1)
