-- What the private functions of the check require and ensure. No public contract uses this.
use Rattle.std.specs.Prelude.{ℕ, ◌≤◌, ◌≡◌, cond, List, ltb, length, Result, Ok, Err}
use Rattle.semantics.specs.StepNumber.{most_steps}
use Rattle.handler.specs.declared.head.Head.{Head}
use Rattle.handler.specs.Header.{head_of}
use Rattle.handler.specs.Terms.{most_terms}
use Rattle.handler.specs.StatementTable.{statement_table}
use Rattle.derivation.specs.NodeTable.{node_table}
use Rattle.derivation.specs.Tables.{work_words, written}
use Rattle.pair.specs.declared.Mode.{Mode}
use Rattle.pair.specs.declared.PairSummary.{PairSummary}
use Rattle.pair.specs.Reading.{Pair, handler_summary, proof_head, pair, read_pair, terms_read}
use Rattle.pair.specs.Modes.{table_words}
use Rattle.checker.specs.declared.Fault.{Fault}
use Rattle.checker.specs.declared.Place.TheVariants.{Node}
use Rattle.checker.specs.Verdicts.{Verdict, refused_at}

-- A pair that was read: the nodes of its expressions, its head, the tables of its statements and nodes, its summary, and its tables in the
-- work words.
pub record Loaded (exprs : List ℕ) (head : Head) (statements nodes : List ℕ) (w : PairSummary) (work : List ℕ) : Type 0 where
  pub handler : List ℕ
  pub proof : List ℕ
  pub mode : Mode
  pub held : Pair
  pub read : read_pair handler proof ≡ pair held
  pub blank : List ℕ
  pub room : most_terms ≤ length blank
  pub exprs_are : exprs ≡ terms_read handler proof blank
  pub head_is : head ≡ head_of held.sizes
  pub statements_are : statements ≡ statement_table held.statement_bit held.statement
  pub nodes_are : nodes ≡ node_table held.root_bit held.derivation
  pub summary : w ≡ record { handler = handler_summary held; proof = proof_head held }
  pub before : List ℕ
  pub enough : work_words ≤ length before
  pub words : work ≡ written (table_words proof mode held) before

-- The verdict from what the loop found and the step number; 80 last, at node 0.
abbrev pub decided : Result Unit Fault → ℕ → Verdict
decided (Err fault) steps = Err fault
decided (Ok tt) steps = cond (ltb most_steps steps) (refused_at 80 (Node 0)) (Ok steps)
