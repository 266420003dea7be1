-- docs/COMPOSITION.md, "What is turned away" and "For hosts": the answer of a call, and what is promised of files that were written.
use Rattle.std.specs.Prelude.{ℕ, ◌≤◌, List, ◌≡◌, length, take, Result, Ok, Err}
use Rattle.derivation.specs.Tables.{work_words}
use Rattle.pair.specs.Modes.{rows}
use Rattle.checker.specs.declared.Fault.{Fault}
use Rattle.checker.specs.Verdicts.{answer}
use Rattle.joint.specs.Composing.{Composition, made, refused}
use Rattle.composition.specs.declared.Made.{Made}
use Rattle.composition.specs.declared.Turned.{Turned}

-- What a call answers.
abbrev pub Composed : Type 0
Composed = Result Made Turned

-- A refusal: the pair that it is about, and the fault.
abbrev pub turned : ℕ → Fault → Turned
turned pair f = record { pair = pair; fault = f }

-- The answer.
abbrev pub composed : Composition → Composed
composed (refused pair f) = Err (turned pair f)
composed (made k handler proof) = Ok (record { steps = k; handler = length handler; proof = length proof })

-- What is promised of files that were written: the check accepts them, with any 1,040 work words or more, and with this step number.
pub record MadeIsAccepted (answered : Composed) (hout pout : List ℕ) : Type 0 where
  pub always : (m : Made) → answered ≡ Ok m → (words : ℕ) → work_words ≤ words
      → (answer (take m.handler hout) (take m.proof pout) rows words).verdict ≡ Ok m.steps
