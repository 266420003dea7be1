-- What is shown where files are made of two pairs. Both pairs are accepted, and the check accepts the two files with both step numbers plus
-- 1: the handler file is read as the parallel of both handlers (`HandlerFile`), the proof file as the joined derivation (`Forms` of `form`),
-- which has no fault (`Joined`). So what acceptance promises holds of them. What is known where nothing is made is in `Outcomes`.
use Rattle.std.specs.Prelude.{Ok}
use Prim.Native.Nat.{ℕ, ◌+◌, ◌*◌, ◌^◌, ◌≤◌, ◌<◌}
use mathlib.Core.Bool.{true, and-eq-true_iff}
use mathlib.Core.List.{List}
use mathlib.Core.Option.{none}
use mathlib.Core.Path.{◌≡◌, sym, ◌∙◌, subst}
use native.Mathlib.Omega.{arith}
use borrow.Author.Tests.{leb-true}
use lib.ListN.{length}
use Rattle.states.proofs.Search.{and_left, and_right, holds_none}
use Rattle.states.proofs.Where.{where_below}
use Rattle.semantics.specs.Language.{Stmt, par}
use Rattle.semantics.specs.States.{Machine, product, machine_of}
use Rattle.semantics.specs.StepNumber.{most_steps, steps}
use Rattle.semantics.specs.Derivations.{Derivation, Tables, Spec, names_of, nodes, levels}
use Rattle.semantics.specs.Checking.{first_fault}
use Rattle.semantics.specs.Promise.{Promise}
use Rattle.semantics.proofs.Conditions.{TablesWithin, tables_within}
use Rattle.semantics.proofs.Soundness.{soundness}
use Rattle.handler.specs.Statements.{most_statements, most_statement_levels}
use Rattle.handler.specs.StatementTable.{statements, stmt_levels}
use Rattle.derivation.specs.Nodes.{most_nodes, most_node_levels}
use Rattle.handler.specs.Reading.{handler, read_handler}
use Rattle.handler.proofs.Fitting.{stmt_fits}
use Rattle.handler.proofs.Handlers.{known_handler}
use Rattle.derivation.specs.Tables.{most_tables, work_words}
use Rattle.pair.specs.Limits.{most_handler_bytes, most_proof_bytes}
use Rattle.pair.specs.Modes.{rows}
use Rattle.pair.proofs.Cases.{holds_read}
use Rattle.checker.specs.Verdicts.{answer, AcceptedIsSound}
use Rattle.checker.specs.Acceptance.{Acceptable}
use Rattle.checker.proofs.Acceptance.{accepted_exactly}
use Rattle.checker.proofs.Promised.{accepted_is_sound}
use Rattle.form.specs.Members.{set_where, relation_where}
use Rattle.form.specs.Form.{sets_in, relations_in, numbered}
use Rattle.form.proofs.EveryName.{OwnNames, EveryName, every_name, every_set, every_relation}
use Rattle.form.proofs.Verdicts.{member_tables}
use Rattle.form.proofs.Forms.{Writable, any_read, any_fault}
use Rattle.joint.specs.Joining.{root_spec, left_spec, right_spec, members_of, joined}
use Rattle.joint.specs.Composing.{Side, side_of, made, met_p, statement, derivation, handler_file, proof_file, stays_in, in_limits, compose}
use Rattle.joint.proofs.Sizes.{sizes_same}
use Rattle.joint.proofs.Rules.{root_within}
use Rattle.joint.proofs.Joined.{named-spec, joined_fault}
use Rattle.joint.proofs.Sides.{AcceptedSide, accepted_side}
use Rattle.joint.proofs.HandlerFile.{joined_read}
use Rattle.joint.proofs.Outcomes.{handler_out, proof_out, BothAccepted, Compatible, Success, succeeded}

-- 94: the result is within each limit.
pub record Limits (h h' : List ℕ) (a b : Side) (k : ℕ) : Type 0 where
  pub statements_most : statements (statement h h' a b) ≤ most_statements
  pub statement_levels : stmt_levels (statement h h' a b) ≤ most_statement_levels
  pub nodes_most : nodes (derivation h h' a b) ≤ most_nodes
  pub levels_most : levels (derivation h h' a b) ≤ most_node_levels
  pub sets_most : length (sets_in (derivation h h' a b)) ≤ most_tables
  pub relations_most : length (relations_in (derivation h h' a b)) ≤ most_tables
  pub handler_length : length (handler_file h h' a b) ≤ most_handler_bytes
  pub proof_length : length (proof_file h h' a b) ≤ most_proof_bytes
  pub steps_most : k ≤ most_steps

pub limits : (h h' : List ℕ) (a b : Side) (k : ℕ) → in_limits h h' a b k ≡ true → Limits h h' a b k
unfolding in_limits
limits h h' a b k e =
    let tests = simp and-eq-true_iff at e in
    record {
      statements_most = omega (arith, leb-true);
      statement_levels = omega (arith, leb-true);
      nodes_most = omega (arith, leb-true);
      levels_most = omega (arith, leb-true);
      sets_most = omega (arith, leb-true);
      relations_most = omega (arith, leb-true);
      handler_length = omega (arith, leb-true);
      proof_length = omega (arith, leb-true);
      steps_most = omega (arith, leb-true);
    }

-- Every table of a derivation has room over n states; so has every table of the joined derivation.
abbrev TablesFit : ℕ → Derivation → Type 0
TablesFit n x = EveryName (λ v. v < 2 ^ n) (λ v. v < 2 ^ (n * n)) x

joined_fit : (n : ℕ) (a b : Spec) (x y : Derivation) → TablesFit n x → TablesFit n y → TablesFit n (joined n a b x y)
unfolding joined members_of set_where relation_where
joined_fit n a b x y ex ey = (own (root_spec n a b), (own (left_spec n a b), ex), (own (right_spec n a b), ey))
  where
    own : (c : Spec) → OwnNames (λ v. v < 2 ^ n) (λ v. v < 2 ^ (n * n)) (members_of n c)
    own c = (where_below n _, where_below (n * n) _, where_below (n * n) _, where_below (n * n) _)

module _ (h p h' p' : List ℕ) (words k : ℕ) (hout pout : List ℕ) (s : Success h p h' p' words k hout pout) where
  abbrev c : Compatible h p h' p' words
  c = s.compatible

  abbrev both : BothAccepted h p h' p' words
  both = c.both_accepted

  -- Both sides, the N and the variables of both, and the statement and the derivation of the result.
  abbrev a : Side
  a = side_of h p

  abbrev b : Side
  b = side_of h' p'

  abbrev n : ℕ
  n = product a.sizes

  abbrev m : Machine
  m = machine_of a.sizes

  abbrev S : Stmt
  S = par a.statement b.statement

  abbrev d : Derivation
  d = joined n a.tables b.tables a.derivation b.derivation

  left : AcceptedSide h p both.first_steps a.sizes a
  left = accepted_side h p words _ both.first

  right : AcceptedSide h' p' both.second_steps a.sizes b
  right =
      subst (λ sizes. AcceptedSide h' p' both.second_steps sizes b) (sym (sizes_same a.sizes b.sizes c.same_variables_lem))
      (accepted_side h' p' words _ both.second)

  within : Limits h h' a b k
  within = limits h h' a b k s.within_limits_lem

  tables_fit : TablesFit n d
  tables_fit =
      joined_fit n a.tables b.tables a.derivation b.derivation
      (every_name _ _ a.derivation left.room.sets_fit left.room.relations_fit)
      (every_name _ _ b.derivation right.room.sets_fit right.room.relations_fit)

  room : Writable n d
  room = record {
    states_least = left.room.states_least;
    states_most = left.room.states_most;
    sets_most = within.sets_most;
    relations_most = within.relations_most;
    sets_fit = every_set _ _ d tables_fit;
    relations_fit = every_relation _ _ d tables_fit;
    nodes_most = within.nodes_most;
    levels_most = within.levels_most;
  }

  unbroken : first_fault (member_tables m) d S 0 ≡ none
  unfolding stays_in
  unbroken =
      let keeps-a = holds_none _ (and_left (stays_in n (met_p h h' a b) a.tables.G) _ c.both_stay_lem) in
      let keeps-b = holds_none _ (and_right (stays_in n (met_p h h' a b) a.tables.G) _ c.both_stay_lem) in
      rw (left.tables_are, right.tables_are)
      (joined_fault m a.derivation b.derivation a.statement b.statement left.unbroken right.unbroken
      (rw (left.tables_are, right.tables_are) at c.second_in_first_lem) (rw (left.tables_are, right.tables_are) at c.first_in_second_lem)
      (rw (left.tables_are, right.tables_are) at keeps-a) (rw (left.tables_are, right.tables_are) at keeps-b) 0)

  handler_read : read_handler (handler_out h p h' p') ≡ handler a.sizes a.at S
  handler_read =
      joined_read h a.at a.statement h' b.at b.statement within.handler_length a.sizes left.handler_read
      right.handler_read within.statements_most within.statement_levels

  -- k is the step number of the parallel.
  number : k ≡ steps n S
  number = omega (arith, s.steps_are, left.number, right.number)

  acceptable : (words' : ℕ) → work_words ≤ words' → Acceptable (handler_out h p h' p') (proof_out h p h' p') rows words' k
  acceptable words' enough = record {
    enough = enough;
    held = record {
      sizes = a.sizes;
      statement_bit = a.at;
      statement = S;
      sets = length (sets_in d);
      relations = _;
      root_bit = _;
      derivation = numbered d;
    };
    read = holds_read (handler_out h p h' p') (proof_out h p h' p') _ (record {
      short = record { handler_length = within.handler_length; proof_length = within.proof_length };
      handler_read = handler_read;
      proof_read = any_read n d room;
    });
    unbroken = any_fault m d room S 0 ∙ unbroken;
    number = number;
    limit = within.steps_most;
  }

  accepted : (words' : ℕ) → work_words ≤ words' → (answer hout pout rows words').verdict ≡ Ok k
  accepted words' enough = rw (s.handler_is, s.proof_is) ((accepted_exactly _ _ rows words' _).1 (acceptable words' enough))

  sound : Promise m S (root_spec n a.tables b.tables) k
  unfolding joined
  sound =
      let t : Tables = member_tables m in
      let kinds = stmt_fits a.at S (known_handler (handler_out h p h' p') a.sizes a.at S handler_read).fits in
      let within_a : TablesWithin n a.tables = rw left.tables_are (tables_within t (names_of a.derivation)) in
      let within_b : TablesWithin n b.tables = rw right.tables_are (tables_within t (names_of b.derivation)) in
      let named = named-spec m (root_spec n a.tables b.tables) (root_within m a.tables b.tables within_a within_b) in
      rw number (subst (λ spec. Promise m S spec (steps n S)) named (soundness t d S 0 unbroken kinds))

module _ (h p h' p' : List ℕ) (words k : ℕ) (hout pout : List ℕ) (e : compose h p h' p' words ≡ made k hout pout) where
  success : Success h p h' p' words k hout pout
  success = succeeded h p h' p' words k hout pout e

  -- The check accepts the two files, with any number of work words that suffices; so what acceptance promises holds of the two files.
  pub made_accepted : (words' : ℕ) → work_words ≤ words' → (answer hout pout rows words').verdict ≡ Ok k
  made_accepted = accepted h p h' p' words k hout pout success

  pub made_sound : AcceptedIsSound hout pout rows (Ok k)
  made_sound = subst (AcceptedIsSound hout pout rows) (made_accepted work_words (omega arith)) (accepted_is_sound hout pout rows work_words)

  -- Both pairs are accepted, and the number is both step numbers plus 1.
  pub made_steps : (k₁ : ℕ) × (k₂ : ℕ) × ((answer h p rows words).verdict ≡ Ok k₁) × ((answer h' p' rows words).verdict ≡ Ok k₂)
      × (k ≡ k₁ + k₂ + 1)
  made_steps =
      let both = success.compatible.both_accepted in
      (both.first_steps, both.second_steps, both.first, both.second, success.steps_are)

  -- In terms of both pairs: the parallel of both statements keeps the promise of the joined tables with that number.
  pub made_promise : Promise (machine_of (side_of h p).sizes) (par (side_of h p).statement (side_of h' p').statement)
      (root_spec (product (side_of h p).sizes) (side_of h p).tables (side_of h' p').tables) k
  made_promise = sound h p h' p' words k hout pout success
