-- The tests are the definition's, and no cursor within the tables is large.
use Prim.Native.Nat.{◌-◌, ◌*◌, ◌/◌, ◌%◌, ◌≤◌}
use mathlib.Core.Bool.{and-false}
use native.Mathlib.Omega.{arith}
use borrow.Author.Rules.{rules}
use borrow.Author.Tests.{lt-ltb, le-ltb}
use Rattle.states.specs.Sets.{set_words, capacity}
use Rattle.derivation.specs.Tables.{most_tables, set_at, entry_word, table_word}
use Rattle.derivation.proofs.Counts.{row_offsets, row_small}
use Rattle.derivation.proofs.words.table_word.Goals.{Then-entry-sets}
use Rattle.derivation.proofs.words.table_word.Goals as goal
use Rattle.derivation.proofs.words.table_word.Goals.{then-relation-relations-via-then-relation-relations, then-relation-relations-via-else-relation-relations+then-state-n}

set_small : (c : Then-entry-sets) →
    let a = c.args in
    a.n * (a.j / set_words) ≤ capacity * most_tables
set_small c =
    let a = c.args in
    (row_offsets a.n 0 (a.j / set_words) 0 (search rules) (omega arith) (omega arith) (omega arith)).0

pub overflow_mul-n : goal.overflow_mul-n
unfolding table_word entry_word set_at
overflow_mul-n c = omega (arith, set_small c)

pub overflow_add-n : goal.overflow_add-n
unfolding table_word entry_word set_at
overflow_add-n c = omega (arith, set_small c)

pub set_word_at-requires : goal.set_word_at-requires
unfolding table_word entry_word set_at
set_word_at-requires c = omega (arith, set_small c)

pub returns-then-entry-sets : goal.returns-then-entry-sets
unfolding table_word entry_word set_at
returns-then-entry-sets c = rw (lt-ltb _ most_tables c.if-entry-lt-MOST_TABLES.true, lt-ltb _ _ c.if-entry-sets.true) c.set_word_at.ensures

pub returns-then-entry-lt-MOST_TABLES : goal.returns-then-entry-lt-MOST_TABLES
unfolding table_word entry_word set_at
returns-then-entry-lt-MOST_TABLES c = rw (lt-ltb _ most_tables c.if-entry-lt-MOST_TABLES.true, le-ltb _ _ c.if-entry-sets.false)

pub returns-then-relation-relations : goal.returns-then-relation-relations
unfolding table_word entry_word set_at
returns-then-relation-relations c = let a = c.args in
    rw (le-ltb _ most_tables c.if-entry-lt-MOST_TABLES.false)
    (elim c.then-relation-relations.branch [
      | then-relation-relations-via-then-relation-relations w ↦ rw (le-ltb _ _ w.if-relation-relations.true)
      | then-relation-relations-via-else-relation-relations+then-state-n w ↦
          simp (le-ltb ((a.j / set_words - most_tables) % capacity) a.n (omega arith), and-false)
    ])

pub set_word_at-requires-2 : goal.set_word_at-requires-2
unfolding table_word entry_word set_at
set_word_at-requires-2 c = let a = c.args in
    let row = a.j / set_words - most_tables in
    omega (
      arith,
      c.row_cursor.ensures,
      row_small a.n a.sets (row / capacity) (row % capacity) (omega arith) (omega arith) (omega arith)
          (omega arith),
    )

pub returns : goal.returns
unfolding table_word entry_word set_at
returns c =
    rw (
      le-ltb _ most_tables c.if-entry-lt-MOST_TABLES.false,
      lt-ltb _ _ c.if-relation-relations.false,
      lt-ltb _ _ c.if-state-n.false,
      ← c.row_cursor.ensures,
    )
    c.set_word_at-2.ensures
