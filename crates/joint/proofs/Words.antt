-- What is left in the work words where neither 1 nor 2 is the answer: the table words are 0, and those past them are as they were.
use Prim.Native.Nat.{ℕ, ◌≤◌, ◌<◌}
use mathlib.Core.Bool.{false}
use mathlib.Core.List.{List}
use mathlib.Core.Path.{◌≡◌}
use native.Mathlib.Nat.{min-eq_left}
use native.Mathlib.Omega.{arith}
use borrow.Author.Tests.{le-ltb}
use lib.ListN.{length, get_or, drop}
use lib.Seq.{drop_at}
use Rattle.derivation.specs.Tables.{work_words, tabulate, written}
use Rattle.derivation.proofs.Buffers.{length_tabulate, written_at}
use Rattle.pair.specs.Limits.{too_long}
use Rattle.joint.specs.Composing.{work_after}

module _ (h p h' p' work : List ℕ) (enough : work_words ≤ length work) (short : too_long h p ≡ false) (short' : too_long h' p' ≡ false) where
  pub tables_cleared : work_after h p h' p' work ≡ written (λ j. 0) work
  unfolding work_after
  tables_cleared = rw (le-ltb (length work) work_words enough, short, short')

  pub words_zero : (i : ℕ) → i < work_words → get_or (work_after h p h' p' work) i 0 ≡ 0
  words_zero i l = rw tables_cleared (written_at (λ j. 0) work i l (omega arith))

  pub words_past : drop work_words (work_after h p h' p' work) ≡ drop work_words work
  unfolding written
  words_past =
      rw (tables_cleared, min-eq_left enough)
      (drop_at (tabulate work_words (λ j. 0)) (drop work_words work) work_words (length_tabulate (λ j. 0) work_words))
