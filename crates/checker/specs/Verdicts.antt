-- docs/FORMAT.md, "Order of faults": 1, 2, the handler file front to back, 16, the proof file front to back, nodes by number,
-- a node's conditions in their order, 80 last.
use Rattle.std.specs.Prelude.{ℕ, ◌≡◌, Bool, true, false, cond, List, length, ltb, Result, Ok, Err}
use Rattle.std.proofs.Math.Option.{Option, none, some}
use Rattle.semantics.specs.States.{machine_of}
use Rattle.semantics.specs.StepNumber.{most_steps}
use Rattle.semantics.specs.Checking.{Broken, first_fault}
use Rattle.semantics.specs.Promise.{Promise}
use Rattle.derivation.specs.Tables.{work_words, written}
use Rattle.pair.specs.declared.Mode.{Mode}
use Rattle.pair.specs.declared.PairFault.{PairFault}
use Rattle.pair.specs.declared.PairFault.TheVariants.{TooLong, At}
use Rattle.pair.specs.Reading.{Pair, steps_of, PairRead, pair, faulty, long, read_pair}
use Rattle.pair.specs.Modes.{tables_in, root_spec, table_words}
use Rattle.search.specs.declared.Named.{Named}
use Rattle.search.specs.declared.Named.TheVariants.{Nothing}
use Rattle.search.specs.Named.{naming}
use Rattle.checker.specs.declared.Place.{Place}
use Rattle.checker.specs.declared.Place.TheVariants.{Bit, Node}
use Rattle.checker.specs.declared.Fault.{Fault}

-- The step number of an accepted pair, or the first fault.
abbrev pub Verdict : Type 0
Verdict = Result ℕ Fault

-- A fault carries its number, a place that is a bit or a node, and the states that a condition names.
abbrev pub refused_naming : ℕ → Place → Named → Verdict
refused_naming k place states = Err (record { number = k; place = place; states = states })

-- Most faults name no states.
abbrev pub refused_at : ℕ → Place → Verdict
refused_at k place = refused_naming k place Nothing

-- A fault at a bit of a file. A pair that is not read has one: 2 where a file is too long, else the file's own.
abbrev pub at_bit : ℕ → ℕ → Fault
at_bit k bit = record { number = k; place = Bit bit; states = Nothing }

abbrev pub unread : PairFault → Fault
unread TooLong = at_bit 2 0
unread (At fault) = at_bit fault.number fault.bit

-- The result of the check: the verdict, whether it writes to the work words, and what the first 1,040 then hold.
pub record CheckResult : Type 0 where
  pub verdict : Verdict
  pub writes : Bool
  pub words : ℕ → ℕ

-- 1 and 2 write nothing; every other refusal leaves the words 0.
abbrev pub untouched : Verdict → CheckResult
untouched v = record { verdict = v; writes = false; words = λ j. 0 }

abbrev pub cleared : Verdict → CheckResult
cleared v = record { verdict = v; writes = true; words = λ j. 0 }

abbrev pub loaded : Verdict → (ℕ → ℕ) → CheckResult
loaded v words = record { verdict = v; writes = true; words = words }

-- 80: the step number is over the limit, at node 0.
abbrev pub on_steps : ℕ → (ℕ → ℕ) → CheckResult
on_steps k words = cond (ltb most_steps k) (cleared (refused_at 80 (Node 0))) (loaded (Ok k) words)

abbrev pub on_fault : Option Broken → ℕ → (ℕ → ℕ) → CheckResult
on_fault none k words = on_steps k words
on_fault (some b) k words = cleared (refused_naming b.number (Node b.node) (naming b.states))

-- The files themselves: 2; 10 to 25; then the conditions and 80.
abbrev pub on_pair : List ℕ → Mode → PairRead → CheckResult
on_pair pb mode long = untouched (refused_at 2 (Bit 0))
on_pair pb mode (faulty k place) = cleared (refused_at k (Bit place))
on_pair pb mode (pair x) = on_fault (first_fault (tables_in pb mode x) x.derivation x.statement 0) (steps_of x) (table_words pb mode x)

module _ (hb pb : List ℕ) (mode : Mode) where
  -- The answer for two files, what the check is told of them, and this number of work words.
  unfoldable pub answer : ℕ → CheckResult
  answer words = cond (ltb words work_words) (untouched (refused_at 1 (Bit 0))) (on_pair pb mode (read_pair hb pb))

  -- The work words at exit.
  unfoldable pub work_after : List ℕ → List ℕ
  work_after work = cond (answer (length work)).writes (written (answer (length work)).words work) work

-- What acceptance promises (docs/RULES.md), for the bytes themselves: if a pair of files is accepted, both are read, and the
-- handler file's whole statement keeps its promise with the root's tables and the stated number.
pub record AcceptedIsSound (hb pb : List ℕ) (mode : Mode) (v : Verdict) : Type 0 where
  pub sound : (k : ℕ) → v ≡ Ok k
      → (x : Pair) × ((read_pair hb pb ≡ pair x) × Promise (machine_of x.sizes) x.statement (root_spec pb mode x) k)
