-- Laws of the table of nodes: a word gives back its node, and the words of a derivation are as many as its nodes.
use Prim.Native.Nat.{ℕ, suc, ◌+◌, ◌*◌, ◌/◌, ◌%◌, ◌^◌, ◌≤◌, ◌<◌}
use mathlib.Core.List.{List, ◌++◌}
use mathlib.Core.Path.{◌≡◌, refl, ◌∙◌, ap}
use native.Mathlib.Omega.{arith}
use lib.ListN.{length, get_or, drop, length-append}
use lib.Seq.{get_or-drop}
use Rattle.semantics.specs.declared.Names.{Names}
use Rattle.semantics.specs.Derivations.{Derivation, skip, assignment, sequence, parallel, conditional, iteration, weaken, names_of, nodes}
use Rattle.derivation.specs.declared.Node.{Node}
use Rattle.derivation.specs.declared.NodeHead.{NodeHead}
use Rattle.derivation.specs.Tables.{most_tables}
use Rattle.derivation.specs.NodeTable.{node_word, node_of, node_in, node_bits, node_record, node_words}
use Rattle.derivation.specs.Storing.{Fits, record_of}
use Rattle.derivation.proofs.Heads.{Named, HeadWithin, plain, loop}

-- The fields of a word that is made of fields with room.
module _ (rule P R G Q K W after bit : ℕ) (rule_fits : rule < 8) (P-fits : P < 16) (R-fits : R < 16) (G-fits : G < 16)
    (Q-fits : Q < 16) (K-fits : K < 16) (W-fits : W < 16) (after_fits : after < 128) where
  abbrev word : ℕ
  word = rule + 8 * (P + 16 * (R + 16 * (G + 16 * (Q + 16 * (K + 16 * (W + 16 * (after + 128 * bit)))))))

  fields : (word % 8 ≡ rule) × (word / 2 ^ 3 % 16 ≡ P) × (word / 2 ^ 7 % 16 ≡ R) × (word / 2 ^ 11 % 16 ≡ G) × (word / 2 ^ 15 % 16 ≡ Q)
      × (word / 2 ^ 19 % 16 ≡ K) × (word / 2 ^ 23 % 16 ≡ W) × (word / 2 ^ 27 % 128 ≡ after) × (word / 2 ^ 34 ≡ bit)
  fields = (omega arith, omega arith, omega arith, omega arith, omega arith, omega arith, omega arith, omega arith, omega arith)

  fields_back : node_of word ≡ record { rule = rule; names = record { p = P; r = R; g = G; q = Q }; k = K; w = W; after = after; bit = bit }
  unfolding node_of
  fields_back = rw (fields.0, fields.1, fields.2, fields.3, fields.4, fields.5, fields.6, fields.7, fields.8)

pub node_back : (x : Node) → Fits x → node_of (node_word x) ≡ x
unfolding node_word
node_back x f = fields_back _ _ _ _ _ _ _ _ _ f.rule_fits f.P-fits f.R-fits f.G-fits f.Q-fits f.K-fits f.W-fits f.after_fits

-- What holds at the root of each rule's derivations.
pub by_rule : (F : Derivation → Type 0) → ((h : Names) → F (skip h)) → ((h : Names) → F (assignment h))
    → ((h : Names) (l r : Derivation) → F (sequence h l r)) → ((h : Names) (l r : Derivation) → F (parallel h l r))
    → ((h : Names) (d : Derivation) → F (conditional h d)) → ((h : Names) (K W : ℕ) (d : Derivation) → F (iteration h K W d))
    → ((h : Names) (d : Derivation) → F (weaken h d)) → (d : Derivation) → F d
by_rule F a b c e f g i (skip h) = a h
by_rule F a b c e f g i (assignment h) = b h
by_rule F a b c e f g i (sequence h l r) = c h l r
by_rule F a b c e f g i (parallel h l r) = e h l r
by_rule F a b c e f g i (conditional h d) = f h d
by_rule F a b c e f g i (iteration h K W d) = g h K W d
by_rule F a b c e f g i (weaken h d) = i h d

-- A fact of the names of every node, with one of K and one of W at a while.
module _ (Own : Names → Type 0) (P Q : ℕ → Type 0) where
  abbrev pub EveryNode : Derivation → Type 0
  EveryNode (skip h) = Own h
  EveryNode (assignment h) = Own h
  EveryNode (sequence h l r) = Own h × EveryNode l × EveryNode r
  EveryNode (parallel h l r) = Own h × EveryNode l × EveryNode r
  EveryNode (conditional h d) = Own h × EveryNode d
  EveryNode (iteration h K W d) = Own h × P K × Q W × EveryNode d
  EveryNode (weaken h d) = Own h × EveryNode d

  pub at_root : (d : Derivation) → EveryNode d → Own (names_of d)
  at_root = by_rule (λ d. EveryNode d → Own (names_of d)) (λ h e. e) (λ h e. e) (λ h l r e. e.0) (λ h l r e. e.0) (λ h d e. e.0)
      (λ h K W d e. e.0) (λ h d e. e.0)

-- Every node of a derivation names tables that there are.
abbrev pub Known : ℕ → ℕ → Derivation → Type 0
Known sets relations = EveryNode (Named sets relations) (λ K. K < sets) (λ W. W < relations)

pub names_known : (sets relations : ℕ) (d : Derivation) → Known sets relations d → Named sets relations (names_of d)
names_known sets relations = at_root _ _ _

pub length_node_words : (i bit : ℕ) (d : Derivation) → length (node_words i bit d) ≡ nodes d
length_node_words i bit (skip h) = refl
length_node_words i bit (assignment h) = refl
length_node_words i bit (sequence h l r) =
    rw (length-append, length_node_words (suc i) (bit + 19) l, length_node_words (suc i + nodes l) (bit + 19 + node_bits l) r)
length_node_words i bit (parallel h l r) =
    rw (length-append, length_node_words (suc i) (bit + 19) l, length_node_words (suc i + nodes l) (bit + 19 + node_bits l) r)
length_node_words i bit (conditional h d) = ap suc (length_node_words (suc i) (bit + 19) d)
length_node_words i bit (iteration h K W d) = ap suc (length_node_words (suc i) (bit + 27) d)
length_node_words i bit (weaken h d) = ap suc (length_node_words (suc i) (bit + 19) d)

first_word : (i bit : ℕ) (d : Derivation) (rest : List ℕ) → get_or (node_words i bit d ++ rest) 0 0 ≡ node_word (node_record i bit d)
first_word i bit =
    by_rule (λ d. (rest : List ℕ) → get_or (node_words i bit d ++ rest) 0 0 ≡ node_word (node_record i bit d))
    (λ h _. refl) (λ h _. refl) (λ h l r _. refl) (λ h l r _. refl) (λ h d _. refl) (λ h K W d _. refl) (λ h d _. refl)

-- A node that names tables that there are has room in a word.
module _ (sets relations : ℕ) (few_sets : sets ≤ most_tables) (few_relations : relations ≤ most_tables) where
  fits : (x : Node) → Named sets relations x.names → (x.rule < 8) × (x.k < 16) × (x.w < 16) × (x.after < 128) → Fits x
  fits x n under = record {
    rule_fits = under.0;
    P-fits = omega (arith, n.P-below);
    R-fits = omega (arith, n.R-below);
    G-fits = omega (arith, n.G-below);
    Q-fits = omega (arith, n.Q-below);
    K-fits = under.1;
    W-fits = under.2;
    after_fits = under.3;
  }

  -- So have the head of a node and the root of a derivation.
  pub head_fits : (at : ℕ) (x : NodeHead) → HeadWithin sets relations at x → (after bit : ℕ) → after < 128 → Fits (record_of x after bit)
  head_fits at _ (plain rule h under other n) after bit few = fits _ n (omega arith)
  head_fits at _ (loop h K W n k w) after bit few = fits _ n (omega arith)

  root_fits : (i bit : ℕ) (d : Derivation) → Known sets relations d → i + nodes d ≤ 127 → Fits (node_record i bit d)
  root_fits i bit (skip h) known inside = fits _ known (omega arith)
  root_fits i bit (assignment h) known inside = fits _ known (omega arith)
  root_fits i bit (sequence h l r) known inside = fits _ known.0 (omega arith)
  root_fits i bit (parallel h l r) known inside = fits _ known.0 (omega arith)
  root_fits i bit (conditional h d) known inside = fits _ known.0 (omega arith)
  root_fits i bit (iteration h K W d) known inside = fits _ known.0 (omega arith)
  root_fits i bit (weaken h d) known inside = fits _ known.0 (omega arith)

  -- Where a table has the words of a derivation from i on, node i of the table is its root.
  pub node_held : (table rest : List ℕ) (i bit : ℕ) (d : Derivation) → Known sets relations d → i + nodes d ≤ 127
      → drop i table ≡ node_words i bit d ++ rest → node_in table i ≡ node_record i bit d
  unfolding node_in
  node_held table rest i bit d known inside here =
      let same : i + 0 ≡ i = omega arith in
      ap node_of (rw (get_or-drop, same) at (ap (λ (l : List ℕ). get_or l 0 0) here) ∙ first_word i bit d rest)
      ∙ node_back (node_record i bit d) (root_fits i bit d known inside)
