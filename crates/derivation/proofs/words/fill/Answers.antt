-- The buffer before the loop is all 0; one turn is `upto_more`.
use Prim.Native.Nat.{ℕ, ◌+◌, ◌-◌, ◌*◌, ◌/◌, ◌≤◌}
use mathlib.Core.List.{List}
use mathlib.Core.Path.{◌≡◌, sym, ◌∙◌, ap}
use native.Mathlib.Omega.{arith}
use borrow.Author.Tests.{le-ltb}
use lib.ListN.{length}
use Rattle.states.specs.Sets.{set_words, capacity}
use Rattle.derivation.specs.Tables.{most_tables, entry_word, table_word}
use Rattle.derivation.proofs.Buffers.{length_written, upto_none, upto_more, upto_all}
use Rattle.derivation.proofs.words.fill.Goals as goal

-- Past the rows of the last relation there are no words.
past : (s : List ℕ) (n sets relations i : ℕ) → set_words * (most_tables + capacity * relations) ≤ i → table_word s n sets relations i ≡ 0
unfolding table_word entry_word
past s n sets relations i over =
    simp (le-ltb (i / set_words) most_tables (omega arith), le-ltb ((i / set_words - most_tables) / capacity) relations (omega arith))

pub loop-j-init : goal.loop-j-init
loop-j-init c = let a = c.args in
    c.clear.ensures ∙ sym (upto_none (table_word a.src.now a.n a.sets a.relations) a.work.now)

pub loop-j-preserved : goal.loop-j-preserved
loop-j-preserved c = let l = c.loop-j in
    let kept = ap length c.clear.ensures ∙ length_written (λ j. 0) c.args.work.now in
    rw (l.invariant, c.table_word.ensures)
    (upto_more _ _ l.j c.next_word-j.result c.next_word-j.ensures.0 (omega arith) (omega arith) (c.next_word-j.ensures.1 _ _ _))

pub returns : goal.returns
returns c = let a = c.args in
    let kept = ap length c.clear.ensures ∙ length_written (λ j. 0) a.work.now in
    c.loop-j.invariant
    ∙ upto_all _ a.work.now c.loop-j.j (λ i after within. past a.src.now a.n a.sets a.relations i (omega arith))
