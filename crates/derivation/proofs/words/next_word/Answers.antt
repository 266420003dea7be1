-- Words that are passed over are rows past the states.
use Prim.Native.Nat.{◌-◌, ◌/◌, ◌%◌}
use mathlib.Core.Bool.{and-false}
use native.Mathlib.Omega.{arith}
use borrow.Author.Rules.{rules}
use borrow.Author.Tests.{le-ltb}
use Rattle.states.specs.Sets.{set_words, capacity}
use Rattle.derivation.specs.Tables.{most_tables, entry_word, table_word}
use Rattle.derivation.proofs.words.next_word.Goals as goal

pub returns-else-passed-n : goal.returns-else-passed-n
unfolding table_word entry_word
returns-else-passed-n c = (
  search rules,
  λ s sets relations i after before.
      let n = c.args.n in
      simp (le-ltb (i / set_words) most_tables (omega arith), le-ltb ((i / set_words - most_tables) % capacity) n (omega arith), and-false),
)
