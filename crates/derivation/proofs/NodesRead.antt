-- What a derivation that was read shows: how many nodes it added, that it has no more levels than were to go, where it ends, and that it names tables that there are.
use Prim.Native.Nat.{ℕ, zero, suc, ◌+◌, ◌-◌, ◌*◌, ◌≤◌, ◌<◌}
use mathlib.Core.Bool.{Bool, true, false, cond}
use mathlib.Core.List.{List}
use mathlib.Core.Path.{◌≡◌, refl, ap}
use native.Mathlib.Omega.{arith}
use borrow.Author.Tests.{ltb-true, ltb-false}
use lib.Dec.{ltb}
use Rattle.std.specs.Prelude.{Ok, Err}
use Rattle.bits.specs.declared.FileFault.{FileFault}
use Rattle.semantics.specs.Derivations.{Derivation, skip, assignment, sequence, parallel, conditional, iteration, weaken, nodes, levels}
use Rattle.derivation.specs.declared.NodeHead.{NodeHead}
use Rattle.derivation.specs.declared.NodeEnd.{NodeEnd}
use Rattle.derivation.specs.Nodes.{HeadRead, NodeRead, whole, fault, alone, over_two, over_one, on_child, on_left_node, on_node_head, node_head, node_at, end_of}
use Rattle.derivation.specs.NodeTable.{node_bits}
use Rattle.derivation.proofs.Heads.{HeadWithin, node_within, head_room}
use Rattle.derivation.proofs.NodeTable.{Known}
use Rattle.derivation.proofs.Built.{leaf, over_one_lem, over_two_lem}

-- The end that the code answers is that of a derivation, and its fault one that was met.
pub ended_whole : (r : NodeRead) (x : NodeEnd) → end_of r ≡ Ok x
    → (d : Derivation) × (r ≡ whole d x.nodes x.next) × (levels d ≡ x.levels)
unfolding end_of
ended_whole (whole d after next) x e =
    let same : record { nodes = after; levels = levels d; next = next } ≡ x = cc in
    (d, (λ i. whole d (same i).nodes (same i).next), ap (λ (y : NodeEnd). y.levels) same)
ended_whole (fault k place) x e = cc

pub ended_faulty : (r : NodeRead) (x : FileFault) → end_of r ≡ Err x → r ≡ fault x.number x.bit
unfolding end_of
ended_faulty (whole d after next) x e = cc
ended_faulty (fault k place) x e =
    let same : record { number = k; bit = place } ≡ x = cc in
    λ i. fault (same i).number (same i).bit

-- A node takes at most 27 bits.
pub bits_most : (d : Derivation) → node_bits d ≤ 27 * nodes d
bits_most (skip h) = omega arith
bits_most (assignment h) = omega arith
bits_most (sequence h l r) = omega (arith, bits_most l, bits_most r)
bits_most (parallel h l r) = omega (arith, bits_most l, bits_most r)
bits_most (conditional h d) = omega (arith, bits_most d)
bits_most (iteration h K W d) = omega (arith, bits_most d)
bits_most (weaken h d) = omega (arith, bits_most d)

module _ (bytes : List ℕ) (sets relations : ℕ) where
  abbrev node : ℕ → ℕ → ℕ → NodeRead
  node k = node_at k bytes sets relations

  -- One level of reading.
  pub unrolled : (k before at : ℕ) → (k ≡ 0 → ⊥)
      → node k before at ≡ on_node_head (node_head bytes sets relations (k - 1) before at) before (node (k - 1))
  unfolding node_at
  unrolled zero before at some = absurd (some refl)
  unrolled (suc k) before at some = let down : suc k - 1 ≡ k = omega arith in rw down

  -- A derivation that was read at a bit, with k levels to go and so many nodes before it.
  pub record Read (k before at : ℕ) (d : Derivation) (after next : ℕ) : Type 0 where
    pub counted : after ≡ before + nodes d
    pub room : after ≤ 127
    pub height : levels d < k
    pub ended : next ≡ at + node_bits d
    pub known : Known sets relations d

  abbrev Shows : ℕ → ℕ → ℕ → NodeRead → Type 0
  Shows k before at (whole d after next) = Read k before at d after next
  Shows k before at (fault code place) = Unit {0}

  -- A node shows it if its children do.
  module _ (k before at : ℕ) (x : NodeHead) (w : HeadWithin sets relations at x) where
    leaf_shows : (1 ≤ k) × (before < 127) → x.rule < 2 → Read (suc k) before at (alone x) (suc before) x.next
    leaf_shows free few =
        let b = leaf sets relations at x w few in
        record { counted = omega (arith, b.size); room = free.1; height = omega (arith, b.height); ended = b.bits; known = b.known }

    one_shows : 4 ≤ x.rule → (child : NodeRead) → Shows k (suc before) x.next child → Shows (suc k) before at (on_child (over_one x) child)
    one_shows over (fault code place) c = tt
    one_shows over (whole d after next) c =
        let b = over_one_lem sets relations at x w over d in
        record {
          counted = omega (arith, b.size, c.counted);
          room = c.room;
          height = omega (arith, b.height, c.height);
          ended = omega (arith, b.bits, c.ended);
          known = b.known c.known;
        }

    right_shows : 2 ≤ x.rule → x.rule < 4 → (l : Derivation) (between middle : ℕ) → Read k (suc before) x.next l between middle
        → (right : NodeRead) → Shows k between middle right → Shows (suc k) before at (on_child (over_two x l) right)
    right_shows over few l between middle c (fault code place) r = tt
    right_shows over few l between middle c (whole d after next) r =
        let b = over_two_lem sets relations at x w over few l d in
        record {
          counted = omega (arith, b.size, c.counted, r.counted);
          room = r.room;
          height = omega (arith, b.height, c.height, r.height);
          ended = omega (arith, b.bits, c.ended, r.ended);
          known = b.known c.known r.known;
        }

    two_shows : 2 ≤ x.rule → x.rule < 4 → (left : NodeRead) → Shows k (suc before) x.next left
        → (right : ℕ → ℕ → NodeRead) → ((before at : ℕ) → Shows k before at (right before at)) → Shows (suc k) before at (on_left_node (over_two x) left right)
    two_shows over few (fault code place) c right r = tt
    two_shows over few (whole l between middle) c right r = right_shows over few l between middle c (right between middle) (r between middle)

  head_shows : (k before at : ℕ) → ((before at : ℕ) → Shows k before at (node k before at))
      → (head : HeadRead) → node_head bytes sets relations k before at ≡ head → Shows (suc k) before at (on_node_head head before (node k))
  head_shows k before at below (Err y) head = tt
  head_shows k before at below (Ok x) head = by (ltb x.rule 2) refl (ltb x.rule 4) refl
    where
      w : HeadWithin sets relations at x
      w = node_within bytes sets relations at k before x head

      by : (no-child : Bool) → ltb x.rule 2 ≡ no-child → (two : Bool) → ltb x.rule 4 ≡ two
          → Shows (suc k) before at (cond no-child (whole (alone x) (suc before) x.next)
          (cond two (on_left_node (over_two x) (node k (suc before) x.next) (node k)) (on_child (over_one x) (node k (suc before) x.next))))
      by true t two u = leaf_shows k before at x w (head_room bytes sets relations at k before x head) (ltb-true x.rule 2 t)
      by false t true u =
          two_shows k before at x w (ltb-false x.rule 2 t) (ltb-true x.rule 4 u) (node k (suc before) x.next) (below (suc before) x.next)
          (node k) below
      by false t false u = one_shows k before at x w (ltb-false x.rule 4 u) (node k (suc before) x.next) (below (suc before) x.next)

  shows : (k before at : ℕ) → Shows k before at (node k before at)
  unfolding node_at
  shows zero before at = tt
  shows (suc k) before at = head_shows k before at (shows k) (node_head bytes sets relations k before at) refl

  pub read : (k before at : ℕ) (d : Derivation) (after next : ℕ) → node k before at ≡ whole d after next → Read k before at d after next
  read k before at d after next e = rw e at (shows k before at)
