-- The order before request A6, for the bytes themselves: the same pairs of files are accepted, with the same step number.
use Rattle.std.specs.Prelude.{Ok, Err}
use Prim.Native.Nat.{ℕ}
use mathlib.Core.Path.{◌≡◌, refl}
use mathlib.Core.Bool.{Bool, true, false, cond}
use mathlib.Core.List.{List}
use mathlib.Core.Option.{Option, none, some}
use lib.Dec.{ltb}
use Rattle.semantics.specs.Checking.{Broken}
use Rattle.semantics.proofs.FormerOrder.{Reordered, same, instead, former_fault, reordered}
use Rattle.derivation.specs.Tables.{work_words}
use Rattle.pair.specs.declared.Mode.{Mode}
use Rattle.pair.specs.Reading.{steps_of, PairRead, pair, faulty, long, read_pair}
use Rattle.pair.specs.Modes.{tables_in, table_words}
use Rattle.checker.specs.declared.Place.TheVariants.{Bit}
use Rattle.checker.specs.Verdicts.{Verdict, CheckResult, refused_at, untouched, cleared, on_fault, on_pair, answer}

-- The answer as it was: as `on_pair` and `answer`, with the former order.
abbrev former_on_pair : List ℕ → Mode → PairRead → CheckResult
former_on_pair pb mode long = untouched (refused_at 2 (Bit 0))
former_on_pair pb mode (faulty k place) = cleared (refused_at k (Bit place))
former_on_pair pb mode (pair x) = on_fault (former_fault (tables_in pb mode x) x.derivation x.statement 0) (steps_of x) (table_words pb mode x)

abbrev pub former_answer : List ℕ → List ℕ → Mode → ℕ → CheckResult
former_answer hb pb mode words = cond (ltb words work_words) (untouched (refused_at 1 (Bit 0))) (former_on_pair pb mode (read_pair hb pb))

-- The step number that an acceptance states.
abbrev pub steps_stated : Verdict → Option ℕ
steps_stated (Ok k) = some k
steps_stated (Err fault) = none

abbrev Alike : CheckResult → CheckResult → Type 0
Alike former now = steps_stated former.verdict ≡ steps_stated now.verdict

by_cond : (b : Bool) (x former now : CheckResult) → Alike former now → Alike (cond b x former) (cond b x now)
by_cond true x former now later = refl
by_cond false x former now later = later

by_fault : (former : Option Broken) {now : Option Broken} (n : ℕ) (words : ℕ → ℕ) → Reordered former now → Alike (on_fault former n words) (on_fault now n words)
by_fault former n words same = refl
by_fault former n words (instead j is) = refl

by_pair : (pb : List ℕ) (mode : Mode) (r : PairRead) → Alike (former_on_pair pb mode r) (on_pair pb mode r)
by_pair pb mode long = refl
by_pair pb mode (faulty k place) = refl
by_pair pb mode (pair x) =
    by_fault (former_fault (tables_in pb mode x) x.derivation x.statement 0) _ _ (reordered (tables_in pb mode x) x.derivation x.statement 0)

pub accepted_as_before : (hb pb : List ℕ) (mode : Mode) (words : ℕ) → steps_stated (former_answer hb pb mode words).verdict ≡ steps_stated (answer hb pb mode words).verdict
unfolding answer
accepted_as_before hb pb mode words = by_cond (ltb words work_words) _ _ _ (by_pair pb mode (read_pair hb pb))
