-- The check of a pair that was read, stage by stage, and the cases of the whole check.
use Rattle.std.specs.Prelude.{Ok, Err, IsErr}
use Prim.Native.Nat.{ℕ, ◌-◌, ◌^◌, ◌≤◌, ◌<◌, min}
use mathlib.Core.Path.{◌≡◌, refl, sym, ◌∙◌, ap, subst}
use mathlib.Core.Bool.{Bool, true, false, true≢false}
use mathlib.Core.List.{List}
use mathlib.Core.Option.{Option, none, some}
use native.Mathlib.Omega.{arith}
use lib.Dec.{ltb}
use borrow.Author.Tests.{lt-ltb, le-ltb}
use Rattle.semantics.specs.Checking.{Broken, first_fault}
use Rattle.handler.specs.declared.head.Head.{Head}
use Rattle.handler.specs.StatementTable.{statement_table}
use Rattle.handler.proofs.Heads.{Declared, head_read}
use Rattle.handler.proofs.Handlers.{KnownHandler, known_handler}
use Rattle.handler.proofs.TermTable.{ExprsIn}
use Rattle.handler.proofs.StatementTable.{table_held}
use Rattle.derivation.specs.NodeTable.{padded, node_table}
use Rattle.derivation.specs.Tables.{work_words}
use Rattle.derivation.proofs.Files.{Shown, read_known}
use Rattle.pair.specs.declared.Mode.{Mode}
use Rattle.pair.specs.declared.PairSummary.{PairSummary}
use Rattle.pair.specs.Reading.{Pair, states_of, steps_of, PairRead, pair, read_pair}
use Rattle.pair.specs.Modes.{tables_in, table_words}
use Rattle.pair.proofs.Cases.{Holds, read_holds, exprs_read}
use Rattle.checker.specs.declared.Place.TheVariants.{Bit}
use Rattle.checker.specs.Verdicts.{Verdict, refused_at, untouched, on_steps, on_fault, on_pair, answer}
use Rattle.checker.specs.Nodes.{faults_from, fault_found}
use Rattle.checker.specs.Refinement.{Loaded, decided}
use Rattle.checker.proofs.Loaded.{set_loaded, relation_loaded}
use Rattle.checker.proofs.AtHand.{Decoded, NodeAt, StatementAt}
use Rattle.checker.proofs.Stages.{decided_answer, words_cleared}
use Rattle.checker.proofs.Meaning.{found_in_tables}

module _ {exprs : List ℕ} {head : Head} {statements nodes : List ℕ} {w : PairSummary} {work : List ℕ} (l : Loaded exprs head statements nodes w work) where
  abbrev x : Pair
  x = l.held

  abbrev hb : List ℕ
  hb = l.handler

  abbrev pb : List ℕ
  pb = l.proof

  abbrev fault : Option Broken
  fault = first_fault (tables_in pb l.mode x) x.derivation x.statement 0

  files : Holds hb pb x
  files = read_holds hb pb x l.read

  known : KnownHandler hb x.sizes x.statement_bit x.statement
  known = known_handler hb x.sizes x.statement_bit x.statement files.handler_read

  declared : Declared x.sizes x.statement_bit
  declared = head_read hb x.sizes x.statement_bit known.head

  shown : Shown pb (states_of x) x.sets x.relations x.derivation
  shown = read_known pb (states_of x) x.sets x.relations x.root_bit x.derivation files.proof_read

  env : Decoded
  env = record {
    exprs = exprs;
    sizes = x.sizes;
    work = work;
    node_table = node_table x.root_bit x.derivation;
    statement_table = statement_table x.statement_bit x.statement;
    tables = tables_in pb l.mode x;
    sets = x.sets;
    relations = x.relations;
    few_sizes = declared.few;
    few_sets = shown.sets_most;
    few_relations = shown.relations_most;
    machine_is = declared.machine;
    set_is = set_loaded pb x l.before work files.proof_read l.enough declared.most l.mode.arrangement l.words;
    relation_is = relation_loaded pb x l.before work files.proof_read l.enough declared.most l.mode.arrangement l.words;
  }

  node_at : NodeAt env 0 x.root_bit x.derivation
  unfolding env node_table padded
  node_at = record { known = shown.known; room = omega (arith, shown.nodes_most); rest = _; words = refl }

  statement_at_lem : StatementAt env 0 x.statement_bit 0 x.statement
  unfolding env
  statement_at_lem = record {
    exprs = subst (λ t. ExprsIn t 0 x.statement) (sym l.exprs_are) (exprs_read hb pb x files l.blank l.room);
    targets = known.targets;
    room = omega (arith, known.few);
    held = table_held x.statement_bit x.statement;
  }

  -- What the loop finds decides the verdict.
  pub judged : decided (fault_found (faults_from exprs head work nodes statements w.proof.nodes 0 0)) w.handler.steps
      ≡ (on_pair pb l.mode (pair x)).verdict
  unfolding env
  judged =
      (λ j. decided (fault_found (faults_from exprs (l.head_is j) work (l.nodes_are j) (l.statements_are j) (l.summary j).proof.nodes 0 0)) (l.summary j).handler.steps)
      ∙ ap (λ o. decided (fault_found o) (min (steps_of x) (2 ^ 32)))
      (found_in_tables env x.root_bit x.statement_bit 0 x.derivation x.statement node_at statement_at_lem)
      ∙ decided_answer fault (steps_of x) (table_words pb l.mode x)

  -- A refusal leaves the words 0.
  pub no_words : (v : Verdict) → IsErr v → v ≡ (on_pair pb l.mode (pair x)).verdict → (on_pair pb l.mode (pair x)).words ≡ (λ j. 0)
  no_words (Ok k) err v = absurd (true≢false (sym err))
  no_words (Err f) err v = words_cleared fault (steps_of x) f (table_words pb l.mode x) (sym v)

-- The cases of the whole check.
module _ (hb pb : List ℕ) (mode : Mode) (words : ℕ) where
  pub few_words : words < work_words → answer hb pb mode words ≡ untouched (refused_at 1 (Bit 0))
  unfolding answer
  few_words low = rw (lt-ltb words work_words)

  pub as_read : work_words ≤ words → (r : PairRead) → read_pair hb pb ≡ r → answer hb pb mode words ≡ on_pair pb mode r
  unfolding answer
  as_read enough r is = rw (le-ltb words work_words, is)

writes_fault : (o : Option Broken) (k : ℕ) (words : ℕ → ℕ) → (on_fault o k words).writes ≡ true
writes_fault (some b) k words = refl
writes_fault none k words = by (ltb (2 ^ 32 - 1) k) refl
  where
    by : (b : Bool) → ltb (2 ^ 32 - 1) k ≡ b → (on_steps k words).writes ≡ true
    by true e = rw e
    by false e = rw e

pub writes : (pb : List ℕ) (mode : Mode) (x : Pair) → (on_pair pb mode (pair x)).writes ≡ true
writes pb mode x = writes_fault (first_fault (tables_in pb mode x) x.derivation x.statement 0) (steps_of x) (table_words pb mode x)
