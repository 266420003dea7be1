-- docs/FORMAT.md, "One form": what is written, and what is turned away: 2, 10 to 18 of the handler file, 20 to 25 of the proof file, then
-- 3, the output buffer is too short.
use Rattle.std.specs.Prelude.{ℕ, cond, List, ◌++◌, ltb, length, drop, Result, Ok, Err}
use Rattle.pair.specs.Reading.{states_of, PairRead, pair, faulty, long, read_pair}
use Rattle.checker.specs.declared.Fault.{Fault}
use Rattle.checker.specs.Verdicts.{at_bit}
use Rattle.form.specs.Members.{by_members}
use Rattle.form.specs.Form.{form_of}

-- The form of a proof file, or the number and the place of the first fault, which is a bit.
pub data Form : Type 0 where
  form : List ℕ → Form
  fault : ℕ → ℕ → Form

-- The form of a pair: that of its derivation, each table by its members.
abbrev pub form_in : List ℕ → PairRead → Form
form_in pb long = fault 2 0
form_in pb (faulty k place) = fault k place
form_in pb (pair x) = form (form_of (states_of x) (by_members pb (states_of x) x.sets x.derivation))

-- The form of a proof file over the N of a handler file.
unfoldable pub canonical : List ℕ → List ℕ → Form
canonical hb pb = form_in pb (read_pair hb pb)

-- The answer to a form where there is so much room: the length that was written, or the fault; 3 if the room is too short. It is a
-- verdict whose number is the length, so it has a verdict's line and code.
abbrev pub turned_away : ℕ → ℕ → Result ℕ Fault
turned_away k place = Err (at_bit k place)

unfoldable pub outcome : Form → ℕ → Result ℕ Fault
outcome (fault k place) room = turned_away k place
outcome (form bytes) room = cond (ltb room (length bytes)) (turned_away 3 0) (Ok (length bytes))

-- The output buffer at exit: a refusal leaves it untouched, and success leaves its bytes past the file.
unfoldable pub out_after : Form → List ℕ → List ℕ
out_after (fault k place) out = out
out_after (form bytes) out = cond (ltb (length out) (length bytes)) out (bytes ++ drop (length bytes) out)
