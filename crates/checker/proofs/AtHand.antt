-- A node and a statement of the tables: their records, their children and parts, and the node's own conditions. The first condition that
-- is broken over the words is the first over the files; if 30 fails, the others do not matter.
use Prim.Native.Nat.{ℕ, suc, ◌+◌, ◌≤◌, ◌<◌}
use mathlib.Core.Path.{◌≡◌, refl, sym, ◌∙◌, ap}
use mathlib.Core.Bool.{true}
use mathlib.Core.List.{List, ◌∷◌, ◌++◌, append_assoc}
use mathlib.Core.Option.{Option}
use native.Mathlib.Omega.{arith}
use lib.Dec.{eqb}
use lib.ListN.{length, drop}
use lib.Seq.{drop-drop, drop_at}
use Rattle.states.specs.Search.{must}
use Rattle.semantics.specs.declared.Names.{Names}
use Rattle.semantics.specs.Language.{Expr, Stmt, nil, assign, seq, par, if, while}
use Rattle.semantics.specs.States.{Machine}
use Rattle.semantics.specs.Derivations.{Derivation, skip, assignment, sequence, parallel, conditional, iteration, weaken, names_of, nodes, Tables, set_of, relation_of, spec_of}
use Rattle.semantics.specs.Conditions.{statement_code}
use Rattle.semantics.specs.Checking.{Breach, Broken, first_broken, skip_obligations, assignment_obligations, sequence_obligations, parallel_obligations, if_obligations, while_obligations, weaken_obligations, obligations}
use Rattle.handler.specs.Header.{head_of, machine_in}
use Rattle.handler.specs.Kinds.{width, stmt_width}
use Rattle.handler.specs.StatementTable.{statements, statement_in, statement_record}
use Rattle.handler.proofs.StmtFolds.{TargetsBelow}
use Rattle.handler.specs.Terms.{expr_nodes, stmt_terms}
use Rattle.handler.proofs.TermTable.{ExprsIn, parts_exprs}
use Rattle.handler.proofs.StatementTable.{StatementIn, BothHeld, parts_held, statement_held}
use Rattle.handler.proofs.Handlers.{target_small}
use Rattle.derivation.specs.declared.Node.{Node}
use Rattle.derivation.specs.NodeTable.{node_in, node_bits, first_nodes, node_record, node_words}
use Rattle.derivation.proofs.NodeTable.{Known, names_known, length_node_words, node_held}
use Rattle.rules.specs.Words.{word_set, word_relation, word_spec}
use Rattle.rules.specs.Obligations.{obligations_in}
use Rattle.checker.specs.Nodes.{obligations_at, faults_from}

-- The words after the first one, and after those of the first of two parts.
later : (table rest : List ℕ) (word i : ℕ) → drop i table ≡ word ∷ rest → drop (suc i) table ≡ rest
later table rest word i e =
    let next : i + 1 ≡ suc i = omega arith in
    ap (λ n. drop n table) (sym next) ∙ sym (drop-drop 1 i table) ∙ ap (drop 1) e

second : (table front back : List ℕ) (i k : ℕ) → length front ≡ k → drop i table ≡ front ++ back → drop (i + k) table ≡ back
second table front back i k long e = sym (drop-drop k i table) ∙ ap (drop k) e ∙ drop_at front back k long

-- The tables of a derivation and of a statement as the code has them: the nodes of the expressions, the sizes, the work words, and the two
-- tables of words. The work words hold the sets and relations, and the head gives the machine.
pub record Decoded : Type 0 where
  pub exprs : List ℕ
  pub sizes : List ℕ
  pub work : List ℕ
  pub node_table : List ℕ
  pub statement_table : List ℕ
  pub tables : Tables
  pub sets : ℕ
  pub relations : ℕ
  pub few_sizes : length sizes ≤ 4
  pub few_sets : sets ≤ 16
  pub few_relations : relations ≤ 16
  pub machine_is : machine_in (head_of sizes) ≡ tables.machine
  pub set_is : (i : ℕ) → i < sets → word_set tables.machine.states work i ≡ set_of tables i
  pub relation_is : (r : ℕ) → r < relations → word_relation tables.machine.states work r ≡ relation_of tables r

module _ (env : Decoded) where
  -- A derivation whose words are in the table from node i on, and a statement whose words are in the table from statement s on and whose
  -- expressions are in theirs from node x on.
  pub record NodeAt (i bit : ℕ) (d : Derivation) : Type 0 where
    pub known : Known env.sets env.relations d
    pub room : i + nodes d ≤ 127
    pub rest : List ℕ
    pub words : drop i env.node_table ≡ node_words i bit d ++ rest

  pub record StatementAt (s place x : ℕ) (S : Stmt) : Type 0 where
    pub exprs : ExprsIn env.exprs x S
    pub targets : TargetsBelow (length env.sizes) S
    pub room : s + statements S ≤ 63
    pub held : StatementIn env.statement_table s place x S

  abbrev m : Machine
  m = machine_in (head_of env.sizes)

  -- The words hold a node's tables, and K and W.
  set_is : (i : ℕ) → i < env.sets → word_set m.states env.work i ≡ set_of env.tables i
  set_is i below = ap (λ x. word_set x.states env.work i) env.machine_is ∙ env.set_is i below

  relation_is : (r : ℕ) → r < env.relations → word_relation m.states env.work r ≡ relation_of env.tables r
  relation_is r below = ap (λ x. word_relation x.states env.work r) env.machine_is ∙ env.relation_is r below

  spec_is : (d : Derivation) → Known env.sets env.relations d → word_spec m.states env.work (names_of d) ≡ spec_of env.tables (names_of d)
  spec_is d k =
      let names = names_known env.sets env.relations d k in
      λ j. record {
        P = set_is (names_of d).p names.P-below j;
        R = relation_is (names_of d).r names.R-below j;
        G = relation_is (names_of d).g names.G-below j;
        Q = relation_is (names_of d).q names.Q-below j;
      }

  abbrev pub own : ℕ → ℕ → Option Breach
  own i s = first_broken (obligations_at env.exprs (head_of env.sizes) env.work env.node_table env.statement_table i s)

  abbrev pub faults : ℕ → ℕ → ℕ → Option Broken
  faults = faults_from env.exprs (head_of env.sizes) env.work env.node_table env.statement_table

  pub node_is : (i bit : ℕ) (d : Derivation) → NodeAt i bit d → node_in env.node_table i ≡ node_record i bit d
  node_is i bit d a = node_held env.sets env.relations env.few_sets env.few_relations env.node_table a.rest i bit d a.known a.room a.words

  pub statement_is : (s place x : ℕ) (S : Stmt) → StatementAt s place x S → statement_in env.statement_table s ≡ statement_record s place x S
  statement_is s place x S b =
      statement_held env.statement_table s place x S b.held (target_small (length env.sizes) S env.few_sizes b.targets) b.room
      (omega (arith, b.exprs.room))

  -- A node's children.
  pub two_nodes : (i bit word : ℕ) (l r : Derivation) → Known env.sets env.relations l → Known env.sets env.relations r → i + suc (nodes l + nodes r) ≤ 127 → (rest : List ℕ)
      → drop i env.node_table ≡ word ∷ (node_words (suc i) (bit + 19) l ++ node_words (suc i + nodes l) (bit + 19 + node_bits l) r ++ rest)
      → NodeAt (suc i) (bit + 19) l × NodeAt (suc i + nodes l) (bit + 19 + node_bits l) r
  two_nodes i bit word l r known-l known-r room rest e =
      let first = node_words (suc i) (bit + 19) l in
      let other = node_words (suc i + nodes l) (bit + 19 + node_bits l) r in
      let both : drop (suc i) env.node_table ≡ first ++ (other ++ rest) = later env.node_table _ word i e ∙ append_assoc first other rest in (
        record { known = known-l; room = omega arith; rest = other ++ rest; words = both },
        record { known = known-r; room = omega arith; rest = rest; words = second env.node_table first (other ++ rest) (suc i) (nodes l) (length_node_words (suc i) (bit + 19) l) both },
      )

  pub one_node : (i bit word : ℕ) (d : Derivation) → Known env.sets env.relations d → i + suc (nodes d) ≤ 127 → (rest : List ℕ)
      → drop i env.node_table ≡ word ∷ (node_words (suc i) bit d ++ rest) → NodeAt (suc i) bit d
  one_node i bit word d known room rest e =
      record { known = known; room = omega arith; rest = rest; words = later env.node_table _ word i e }

  -- A statement's parts.
  abbrev pub Halves : ℕ → ℕ → ℕ → Stmt → Stmt → Type 0
  Halves s place x a b = StatementAt (suc s) (place + 3) x a × StatementAt (suc s + statements a) (place + 3 + stmt_width a) (x + stmt_terms a) b

  module _ (s place x : ℕ) where
    halves : (a b : Stmt) → ExprsIn env.exprs x a × ExprsIn env.exprs (x + stmt_terms a) b
        → TargetsBelow (length env.sizes) a × TargetsBelow (length env.sizes) b → s + (1 + statements a + statements b) ≤ 63
        → BothHeld env.statement_table s place x a b → Halves s place x a b
    halves a b exprs targets room held = (
      record { exprs = exprs.0; targets = targets.0; room = omega arith; held = held.0 },
      record { exprs = exprs.1; targets = targets.1; room = omega arith; held = held.1 },
    )

    pub of_sequence : (a b : Stmt) → StatementAt s place x (seq a b) → Halves s place x a b
    of_sequence a b c =
        halves a b (parts_exprs env.exprs x (seq a b) c.exprs) c.targets c.room (parts_held env.statement_table s place x (seq a b) c.held)

    pub of_parallel : (a b : Stmt) → StatementAt s place x (par a b) → Halves s place x a b
    of_parallel a b c =
        halves a b (parts_exprs env.exprs x (par a b) c.exprs) c.targets c.room (parts_held env.statement_table s place x (par a b) c.held)

    pub of_if : (e : Expr) (b : Stmt) → StatementAt s place x (if e b) → StatementAt (suc s) (place + 3 + width e) (x + expr_nodes e) b
    of_if e b c = record {
      exprs = (parts_exprs env.exprs x (if e b) c.exprs).1;
      targets = c.targets;
      room = omega (arith, c.room);
      held = parts_held env.statement_table s place x (if e b) c.held;
    }

    pub of_while : (e : Expr) (b : Stmt) → StatementAt s place x (while e b) → StatementAt (suc s) (place + 3 + width e) (x + expr_nodes e) b
    of_while e b c = record {
      exprs = (parts_exprs env.exprs x (while e b) c.exprs).1;
      targets = c.targets;
      room = omega (arith, c.room);
      held = parts_held env.statement_table s place x (while e b) c.held;
    }

  -- The first condition of a node that is broken over the words is the first over the files. If 30 fails, the others do not matter.
  module _ (i s bit place x : ℕ) where
    abbrev Means : Derivation → Stmt → Type 0
    Means d S = NodeAt i bit d → StatementAt s place x S → own i s ≡ first_broken (obligations env.tables d S)

    -- The conditions of a node, from the records of the node, its statement and its children.
    by_records : (d : Derivation) (S : Stmt) (y z : Node) → node_in env.node_table (suc i) ≡ y → node_in env.node_table (suc i + first_nodes d) ≡ z
        → NodeAt i bit d → StatementAt s place x S
        → own i s ≡ first_broken (obligations_in env.exprs (head_of env.sizes) env.work (node_record i bit d) (statement_record s place x S) y z)
    unfolding obligations_at
    by_records d S y z first second a b =
        (λ j. first_broken (obligations_in env.exprs (head_of env.sizes) env.work (node_is i bit d a j) (statement_is s place x S b j) (first j)
        (node_in env.node_table (node_is i bit d a j).after)))
        ∙ ap (λ v. first_broken (obligations_in env.exprs (head_of env.sizes) env.work (node_record i bit d) (statement_record s place x S) y v)) second

    pub own_skip : (h : Names) (S : Stmt) → Means (skip h) S
    unfolding obligations_in
    own_skip h S a b =
        by_records _ _ _ _ refl refl a b
        ∙ (λ j. first_broken (skip_obligations (env.machine_is j).states (eqb (statement_code S) 0) (spec_is (skip h) a.known j)))

    pub own_assignment : (h : Names) (S : Stmt) → Means (assignment h) S
    unfolding obligations_in must
    own_assignment h nil a b = by_records _ _ _ _ refl refl a b
    own_assignment h (assign v e) a b =
        by_records _ _ _ _ refl refl a b
        ∙ (λ j. first_broken (assignment_obligations (env.machine_is j) true (spec_is (assignment h) a.known j) v
        (parts_exprs env.exprs x (assign v e) b.exprs j)))
    own_assignment h (seq l r) a b = by_records _ _ _ _ refl refl a b
    own_assignment h (par l r) a b = by_records _ _ _ _ refl refl a b
    own_assignment h (if e c) a b = by_records _ _ _ _ refl refl a b
    own_assignment h (while e c) a b = by_records _ _ _ _ refl refl a b

    -- For a node with two children, whose records are known.
    module _ (h : Names) (l r : Derivation) (S : Stmt) (bit₁ bit₂ : ℕ)
        (left : node_in env.node_table (suc i) ≡ node_record (suc i) bit₁ l)
        (right : node_in env.node_table (suc i + nodes l) ≡ node_record (suc i + nodes l) bit₂ r) where
      pub own_sequence : Means (sequence h l r) S
      unfolding obligations_in
      own_sequence a b =
          by_records _ _ _ _ left right a b
          ∙ (λ j. first_broken (sequence_obligations (env.machine_is j).states (eqb (statement_code S) 2) (spec_is (sequence h l r) a.known j)
          (spec_is l a.known.1 j) (spec_is r a.known.2 j)))

      pub own_parallel : Means (parallel h l r) S
      unfolding obligations_in
      own_parallel a b =
          by_records _ _ _ _ left right a b
          ∙ (λ j. first_broken (parallel_obligations (env.machine_is j).states (eqb (statement_code S) 3) (spec_is (parallel h l r) a.known j)
          (spec_is l a.known.1 j) (spec_is r a.known.2 j)))

    -- For a node with one child, whose record is known.
    module _ (h : Names) (d : Derivation) (bit₁ : ℕ) (child : node_in env.node_table (suc i) ≡ node_record (suc i) bit₁ d) where
      pub own_if : (S : Stmt) → Means (conditional h d) S
      unfolding obligations_in must
      own_if nil a b = by_records _ _ _ _ child refl a b
      own_if (assign v e) a b = by_records _ _ _ _ child refl a b
      own_if (seq l r) a b = by_records _ _ _ _ child refl a b
      own_if (par l r) a b = by_records _ _ _ _ child refl a b
      own_if (if e c) a b =
          by_records _ _ _ _ child refl a b
          ∙ (λ j. first_broken (if_obligations (env.machine_is j) true (spec_is (conditional h d) a.known j)
          ((parts_exprs env.exprs x (if e c) b.exprs).0 j) (spec_is d a.known.1 j)))
      own_if (while e c) a b = by_records _ _ _ _ child refl a b

      pub own_while : (K W : ℕ) (S : Stmt) → Means (iteration h K W d) S
      unfolding obligations_in must
      own_while K W nil a b = by_records _ _ _ _ child refl a b
      own_while K W (assign v e) a b = by_records _ _ _ _ child refl a b
      own_while K W (seq l r) a b = by_records _ _ _ _ child refl a b
      own_while K W (par l r) a b = by_records _ _ _ _ child refl a b
      own_while K W (if e c) a b = by_records _ _ _ _ child refl a b
      own_while K W (while e c) a b =
          by_records _ _ _ _ child refl a b
          ∙ (λ j. first_broken (while_obligations (env.machine_is j) true (spec_is (iteration h K W d) a.known j)
          ((parts_exprs env.exprs x (while e c) b.exprs).0 j)
          (set_is K a.known.1 j) (relation_is W a.known.2 j) (spec_is d a.known.3 j)))

      pub own_weaken : (S : Stmt) → Means (weaken h d) S
      unfolding obligations_in
      own_weaken S a b =
          by_records _ _ _ _ child refl a b
          ∙ (λ j. first_broken (weaken_obligations (env.machine_is j).states (spec_is (weaken h d) a.known j) (spec_is d a.known.1 j)))
