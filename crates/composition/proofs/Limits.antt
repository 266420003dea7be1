-- What 94 asks of the result, from the counts that the code has; and the files of a result that passes no limit.
use Prim.Native.Nat.{ℕ, suc, ◌+◌, ◌-◌, ◌≤◌, max}
use mathlib.Core.Bool.{Bool, true, false, ◌&&◌, and-eq-true_iff}
use mathlib.Core.List.{List}
use mathlib.Core.Path.{◌≡◌, refl, sym, ◌∙◌, ap, subst}
use native.Mathlib.Omega.{arith}
use borrow.Author.Tests.{le-leb, lt-leb, leb-true, leb-false}
use lib.Dec.{leb}
use lib.ListN.{length}
use Rattle.writer.specs.Packing.{packed}
use Rattle.semantics.specs.Language.{par}
use Rattle.semantics.specs.StepNumber.{most_steps}
use Rattle.semantics.specs.Derivations.{Derivation, nodes, levels}
use Rattle.handler.specs.declared.HandlerSummary.{HandlerSummary}
use Rattle.handler.specs.Kinds.{stmt_width}
use Rattle.handler.specs.Statements.{most_statements, most_statement_levels}
use Rattle.handler.specs.StatementTable.{statements, stmt_levels}
use Rattle.derivation.specs.declared.ProofHead.{ProofHead}
use Rattle.derivation.specs.Nodes.{most_nodes, most_node_levels}
use Rattle.derivation.specs.Tables.{most_tables}
use Rattle.derivation.proofs.NodeTable.{Known}
use Rattle.pair.specs.Limits.{most_handler_bytes, most_proof_bytes}
use Rattle.form.specs.Members.{set_where, relation_where}
use Rattle.form.specs.Form.{sets_in, relations_in, form_of}
use Rattle.form.proofs.Numbered.{numbered_known}
use Rattle.composition.specs.declared.forms.Form.{Form}
use Rattle.composition.specs.declared.joining.Handlers.{Handlers}
use Rattle.composition.specs.declared.numbering.SetNumbers.{SetNumbers}
use Rattle.composition.specs.declared.numbering.RelationNumbers.{RelationNumbers}
use Rattle.joint.specs.Joining.{root_spec, left_spec, right_spec, joined, handler_parts}
use Rattle.joint.specs.Composing.{Side, refused, plain, in_limits, limited, handler_file, proof_file}
use Rattle.composition.specs.Refinement.{Kept, SetsNumbered, RelationsNumbered, AllSmall, node_parts, proof_parts, both_parts, lengths_fit, if_fit, files_of, small_counts, Ready}
use Rattle.composition.proofs.Absorbed.{sets_joined, relations_joined}
use Rattle.composition.proofs.JoinedNames.{FewTables, ResultSets, ResultRelations, numbered_joined}
use Rattle.composition.proofs.JoinedParts.{nodes_joined, levels_joined, joined_parts}

-- A count over the limit means that the list is longer than it.
kept_test : (held seen : List ℕ) (count : ℕ) → Kept held count seen → length held ≡ count → leb count most_tables ≡ leb (length seen) most_tables
kept_test held seen count k long = by (leb count most_tables) refl
  where
    by : (t : Bool) → leb count most_tables ≡ t → t ≡ leb (length seen) most_tables
    by true e = sym (le-leb (length seen) most_tables (omega (arith, leb-true count most_tables e, long, ap length (k.0 (leb-true count most_tables e)))))
    by false e = sym (lt-leb (length seen) most_tables (k.1 (leb-false count most_tables e)))

and_three : (t x y z : Bool) → (t && x && y && z) ≡ (t && (x && y && z))
and_three true x y z = refl
and_three false x y z = refl

pub few_tables : (a b : HandlerSummary) (f g : ProofHead) (p q : ℕ) → small_counts a b f g p q ≡ true → (p ≤ most_tables) × (q ≤ most_tables)
unfolding small_counts
few_tables a b f g p q e = let tests = simp and-eq-true_iff at e in (omega (arith, leb-true), omega (arith, leb-true))

module _ (n : ℕ) (A B : Side) (both : Handlers) (f g : Form) (words others : List ℕ)
    (ra : Ready n A both.first f words) (rb : Ready n B both.second g others) (m : SetNumbers) (k : RelationNumbers) (S T : List ℕ) where
  abbrev x : Derivation
  x = A.derivation

  abbrev y : Derivation
  y = B.derivation

  abbrev D : Derivation
  D = joined n A.tables B.tables x y

  abbrev pub HeldSets : List ℕ → Type 0
  HeldSets held = SetsNumbered (set_where n (root_spec n A.tables B.tables).P) (sets_in x) (sets_in y) held m

  abbrev pub HeldRelations : List ℕ → Type 0
  HeldRelations held = RelationsNumbered
      (relation_where n (root_spec n A.tables B.tables).R) (relation_where n (root_spec n A.tables B.tables).G) (relation_where n (root_spec n A.tables B.tables).Q)
      (relation_where n (left_spec n A.tables B.tables).R) (relation_where n (left_spec n A.tables B.tables).G) (relation_where n (left_spec n A.tables B.tables).Q) (relations_in x)
      (relation_where n (right_spec n A.tables B.tables).R) (relation_where n (right_spec n A.tables B.tables).G) (relation_where n (right_spec n A.tables B.tables).Q) (relations_in y)
      held k

  module _ (sets : HeldSets S) (relations : HeldRelations T) (long_S : length S ≡ m.count) (long_T : length T ≡ k.right.count) where
    kept_S : Kept S m.count (sets_in D)
    kept_S = subst (Kept S m.count) (sym (sets_joined n A.tables B.tables x y)) sets.kept

    kept_T : Kept T k.right.count (relations_in D)
    kept_T = subst (Kept T k.right.count) (sym (relations_joined n A.tables B.tables x y)) relations.kept

    abbrev small : Bool
    small = small_counts both.first both.second f.head g.head m.count k.right.count

    abbrev counts : Bool
    counts =
        leb (statements (par A.statement B.statement)) most_statements
        && leb (stmt_levels (par A.statement B.statement)) most_statement_levels
        && leb (nodes D) most_nodes && leb (levels D) most_node_levels
        && leb (length (sets_in D)) most_tables && leb (length (relations_in D)) most_tables

    nodes_are : 3 + f.head.nodes + g.head.nodes ≡ nodes D
    nodes_are = (λ i. 3 + ra.of_form.node_count i + rb.of_form.node_count i) ∙ sym (nodes_joined n A.tables B.tables x y)

    levels_are : suc (suc (max f.head.levels g.head.levels)) ≡ levels D
    levels_are =
        (λ i. suc (suc (max (ra.of_form.level_count i) (rb.of_form.level_count i)))) ∙ sym (levels_joined n A.tables B.tables x y)

    small_is : small ≡ counts
    unfolding small_counts
    small_is = λ i.
        leb (1 + ra.of_handler.statements_are i + rb.of_handler.statements_are i) most_statements
        && leb (suc (max (ra.of_handler.levels_are i) (rb.of_handler.levels_are i))) most_statement_levels
        && leb (nodes_are i) most_nodes && leb (levels_are i) most_node_levels
        && kept_test S (sets_in D) m.count kept_S long_S i && kept_test T (relations_in D) k.right.count kept_T long_T i

    -- 94 without the lengths and the step number.
    module _ (h h' : List ℕ) where
      limits_are : in_limits h h' A B both.steps
          ≡ (small && lengths_fit (length (handler_file h h' A B)) (length (proof_file h h' A B)) both.steps)
      unfolding in_limits
      limits_are =
          rw (← ra.states_are)
          (ap (λ t. t && leb (length (handler_file h h' A B)) most_handler_bytes && leb (length (form_of n D)) most_proof_bytes && leb both.steps most_steps) (sym small_is)
          ∙ and_three small _ _ _)

      pub limited_not : small ≡ false → limited h h' A B both.steps ≡ refused 0 (plain 94)
      limited_not e = rw (limits_are, e)

      -- Where no count is over its limit.
      module _ (few : small ≡ true) where
        rooms : (m.count ≤ most_tables) × (k.right.count ≤ most_tables)
        rooms = few_tables _ _ _ _ m.count k.right.count few

        is_S : S ≡ sets_in D
        is_S = kept_S.0 rooms.0

        is_T : T ≡ relations_in D
        is_T = kept_T.0 rooms.1

        few_D : FewTables D
        few_D = record {
          sets_most = omega (arith, rooms.0, long_S, ap length is_S);
          relations_most = omega (arith, rooms.1, long_T, ap length is_T);
        }

        few_x : FewTables x
        few_x = record { sets_most = ra.room.sets_most; relations_most = ra.room.relations_most }

        few_y : FewTables y
        few_y = record { sets_most = rb.room.sets_most; relations_most = rb.room.relations_most }

        all_sets : ResultSets n A.tables B.tables x y m
        all_sets = subst HeldSets is_S sets

        all_relations : ResultRelations n A.tables B.tables x y k
        all_relations = subst HeldRelations is_T relations

        -- The new nodes name relations of the result.
        pub names_small : AllSmall k
        names_small =
            let known = subst (Known (length (sets_in D)) (length (relations_in D)))
            (numbered_joined n A.tables B.tables x y few_D few_x few_y m k all_sets all_relations rooms.0 rooms.1) (numbered_known D)
            in
            let most = few_D.relations_most in
            let root = known.0 in
            let left = known.1.0 in
            let right = known.2.0 in (
              (omega (arith, root.R-below, most), omega (arith, root.G-below, most), omega (arith, root.Q-below, most)),
              (omega (arith, left.R-below, most), omega (arith, left.G-below, most), omega (arith, left.Q-below, most)),
              (omega (arith, right.R-below, most), omega (arith, right.G-below, most), omega (arith, right.Q-below, most)),
            )

        handler_is : handler_file h h' A B ≡ packed (both_parts h h' both)
        handler_is =
            let ha = ra.of_handler in
            let hb = rb.of_handler in
            let width : stmt_width A.statement ≡ both.first.end - both.first.at = omega (arith, ha.end_is, ha.at_is) in
            let width' : stmt_width B.statement ≡ both.second.end - both.second.at = omega (arith, hb.end_is, hb.at_is) in
            λ i. packed (handler_parts h (sym ha.at_is i) (width i) h' (sym hb.at_is i) (width' i))

        proof_is : form_of n D ≡ packed (proof_parts n S T (node_parts k m f g))
        unfolding form_of proof_parts node_parts
        proof_is =
            ap packed (joined_parts n A.tables B.tables x y f g
            (record { few_tables = few_x; nodes_most = ra.room.nodes_most; node_count = ra.of_form.node_count; table_is = ra.of_form.table_is })
            (record { few_tables = few_y; nodes_most = rb.room.nodes_most; node_count = rb.of_form.node_count; table_is = rb.of_form.table_is })
            few_D m k all_sets all_relations rooms.0 rooms.1)
            ∙ (λ i. packed (proof_parts n (sym is_S i) (sym is_T i) (node_parts k m f g)))

        limited_by : limited h h' A B both.steps ≡ if_fit both.steps (handler_file h h' A B) (form_of n D)
        limited_by = rw (limits_are, few, ← ra.states_are)

        pub limited_is : limited h h' A B both.steps ≡ files_of n h h' both f g S m T k
        limited_is = limited_by ∙ (λ i. if_fit both.steps (handler_is i) (proof_is i))
