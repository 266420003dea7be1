-- A node that is built from its head and its children: how many nodes, levels and bits it has, the tables that it names, and its words in
-- the table of nodes.
use Prim.Native.Nat.{ℕ, suc, ◌+◌, ◌≤◌, ◌<◌, max}
use mathlib.Core.List.{[], ◌∷◌, ◌++◌}
use mathlib.Core.Logic.{⊎_elim}
use mathlib.Core.Path.{◌≡◌, refl}
use native.Mathlib.Nat.{eq-or-lt_of_le}
use native.Mathlib.Omega.{arith}
use Rattle.semantics.specs.Derivations.{Derivation, nodes, levels}
use Rattle.derivation.specs.declared.NodeHead.{NodeHead}
use Rattle.derivation.specs.Nodes.{alone, over_two, over_one}
use Rattle.derivation.specs.NodeTable.{node_word, node_bits, node_words}
use Rattle.derivation.specs.Storing.{record_of}
use Rattle.derivation.proofs.Heads.{HeadWithin, plain, loop}
use Rattle.derivation.proofs.NodeTable.{Known}

module _ (sets relations at : ℕ) where
  -- A node d at a bit, by its head and the derivations below it.
  pub record Leaf (x : NodeHead) (d : Derivation) : Type 0 where
    pub size : nodes d ≡ 1
    pub height : levels d ≡ 1
    pub bits : x.next ≡ at + node_bits d
    pub known : Known sets relations d
    pub words : (i : ℕ) → node_words i at d ≡ node_word (record_of x (suc i) at) ∷ []

  pub record OverOne (x : NodeHead) (c d : Derivation) : Type 0 where
    pub size : nodes d ≡ suc (nodes c)
    pub height : levels d ≡ suc (levels c)
    pub bits : x.next + node_bits c ≡ at + node_bits d
    pub known : Known sets relations c → Known sets relations d
    pub words : (i : ℕ) → node_words i at d ≡ node_word (record_of x (suc i + nodes c) at) ∷ node_words (suc i) x.next c

  pub record OverTwo (x : NodeHead) (l r d : Derivation) : Type 0 where
    pub size : nodes d ≡ suc (nodes l + nodes r)
    pub height : levels d ≡ suc (max (levels l) (levels r))
    pub bits : x.next + node_bits l + node_bits r ≡ at + node_bits d
    pub known : Known sets relations l → Known sets relations r → Known sets relations d
    pub words : (i : ℕ) → node_words i at d
        ≡ node_word (record_of x (suc i + nodes l) at) ∷ (node_words (suc i) x.next l ++ node_words (suc i + nodes l) (x.next + node_bits l) r)

  pub leaf : (x : NodeHead) → HeadWithin sets relations at x → x.rule < 2 → Leaf x (alone x)
  leaf _ (loop h K W n k w) few = absurd (omega arith)
  leaf _ (plain rule h under other n) few = ⊎_elim
      (λ last. let e : rule ≡ 1 = omega arith in rw e (record { size = refl; height = refl; bits = refl; known = n; words = alone_after 1 }))
      (λ less. let e : rule ≡ 0 = omega arith in rw e (record { size = refl; height = refl; bits = refl; known = n; words = alone_after 0 }))
      (eq-or-lt_of_le few)
    where
      alone_after : (r i : ℕ)
          → node_word (record { rule = r; names = h; k = 0; w = 0; after = suc i + 0; bit = at }) ∷ []
          ≡ node_word (record { rule = r; names = h; k = 0; w = 0; after = suc i; bit = at }) ∷ []
      alone_after r i = let e : suc i + 0 ≡ suc i = omega arith in rw e

  pub over_two_lem : (x : NodeHead) → HeadWithin sets relations at x → 2 ≤ x.rule → x.rule < 4 → (l r : Derivation) → OverTwo x l r (over_two x l r)
  over_two_lem _ (loop h K W n k w) over few l r = absurd (omega arith)
  over_two_lem _ (plain rule h under other n) over few l r = ⊎_elim
      (λ same. let e : rule ≡ 2 = omega arith in rw e (record { size = refl; height = refl; bits = omega arith; known = λ kl kr. (n, kl, kr); words = λ i. refl }))
      (λ more. let e : rule ≡ 3 = omega arith in rw e (record { size = refl; height = refl; bits = omega arith; known = λ kl kr. (n, kl, kr); words = λ i. refl }))
      (eq-or-lt_of_le over)

  pub over_one_lem : (x : NodeHead) → HeadWithin sets relations at x → 4 ≤ x.rule → (c : Derivation) → OverOne x c (over_one x c)
  over_one_lem _ (loop h K W n k w) over c = record { size = refl; height = refl; bits = omega arith; known = λ kc. (n, k, w, kc); words = λ i. refl }
  over_one_lem _ (plain rule h under other n) over c = ⊎_elim
      (λ same. let e : rule ≡ 4 = omega arith in rw e (record { size = refl; height = refl; bits = omega arith; known = λ kc. (n, kc); words = λ i. refl }))
      (λ more. let e : rule ≡ 6 = omega arith in rw e (record { size = refl; height = refl; bits = omega arith; known = λ kc. (n, kc); words = λ i. refl }))
      (eq-or-lt_of_le over)
