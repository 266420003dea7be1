-- Which pairs of files are accepted, with how many work words, and with which number.
use Rattle.std.specs.Prelude.{ℕ, ◌≤◌, ◌≡◌, List}
use Rattle.std.proofs.Math.Option.{none}
use Rattle.semantics.specs.StepNumber.{most_steps}
use Rattle.semantics.specs.Checking.{first_fault}
use Rattle.derivation.specs.Tables.{work_words}
use Rattle.pair.specs.declared.Mode.{Mode}
use Rattle.pair.specs.Reading.{Pair, steps_of, pair, read_pair}
use Rattle.pair.specs.Modes.{tables_in}

pub record Acceptable (hb pb : List ℕ) (mode : Mode) (words k : ℕ) : Type 0 where
  -- the work words suffice
  pub enough : work_words ≤ words
  -- both files are within their length, and read
  pub held : Pair
  pub read : read_pair hb pb ≡ pair held
  -- no node breaks a condition
  pub unbroken : first_fault (tables_in pb mode held) held.derivation held.statement 0 ≡ none
  -- k is the step number, and within its limit
  pub number : k ≡ steps_of held
  pub limit : k ≤ most_steps
