-- The answer from both verdicts, and the work words after a check.
use Rattle.std.specs.Prelude.{Ok, Err}
use Prim.Native.Nat.{ℕ, ◌+◌, ◌≤◌}
use mathlib.Core.Bool.{Bool, true, false, cond}
use mathlib.Core.List.{List}
use mathlib.Core.Path.{◌≡◌, refl, ◌∙◌}
use borrow.Author.Tests.{le-ltb}
use lib.ListN.{length}
use Rattle.derivation.specs.Tables.{work_words, written}
use Rattle.derivation.proofs.Buffers.{written_again}
use Rattle.pair.specs.declared.Mode.{Mode}
use Rattle.pair.specs.Limits.{too_long}
use Rattle.pair.specs.Modes.{rows}
use Rattle.checker.specs.declared.Fault.{Fault}
use Rattle.checker.specs.Verdicts as Check
use Rattle.checker.specs.Verdicts.{answer}
use Rattle.joint.specs.Composing.{side_of, refused, composition, of_pair, compose}

module _ (h p h' p' : List ℕ) (words : ℕ) (enough : work_words ≤ words) (short : too_long h p ≡ false) (short' : too_long h' p' ≡ false) where
  by_verdicts : compose h p h' p' words
      ≡ of_pair 1 (answer h p rows words).verdict (λ k.
      of_pair 2 (answer h' p' rows words).verdict (λ k'. composition h h' (side_of h p) (side_of h' p') (k + k' + 1)))
  unfolding compose
  by_verdicts = rw (le-ltb words work_words enough, short, short')

  pub first_refuses : (f : Fault) → (answer h p rows words).verdict ≡ Err f → compose h p h' p' words ≡ refused 1 f
  first_refuses f e = by_verdicts ∙ rw e

  pub second_refuses : (k : ℕ) (f : Fault) → (answer h p rows words).verdict ≡ Ok k → (answer h' p' rows words).verdict ≡ Err f
      → compose h p h' p' words ≡ refused 2 f
  second_refuses k f e e' = by_verdicts ∙ rw (e, e')

  pub both_accept : (k k' : ℕ) → (answer h p rows words).verdict ≡ Ok k → (answer h' p' rows words).verdict ≡ Ok k'
      → compose h p h' p' words ≡ composition h h' (side_of h p) (side_of h' p') (k + k' + 1)
  both_accept k k' e e' = by_verdicts ∙ rw (e, e')

-- Clearing the table words after a check leaves what clearing them before it leaves.
pub cleared_after : (h p : List ℕ) (mode : Mode) (work : List ℕ) → written (λ j. 0) (Check.work_after h p mode work) ≡ written (λ j. 0) work
unfolding Check.work_after
cleared_after h p mode work = by (answer h p mode (length work)).writes
  where
    by : (b : Bool) → written (λ j. 0) (cond b (written (answer h p mode (length work)).words work) work) ≡ written (λ j. 0) work
    by true = written_again _ _ work
    by false = refl
