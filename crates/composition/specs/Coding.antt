-- docs/COMPOSITION.md, "For hosts": the answer as one number of 64 bits.
use Rattle.std.specs.Prelude.{ℕ, ◌+◌, ◌*◌, ◌/◌, ◌%◌, ◌^◌, cond, ltb, eqb, Ok, Err}
use Rattle.search.specs.declared.Named.TheVariants.{Nothing}
use Rattle.checker.specs.declared.Place.TheVariants.{Bit, Node}
use Rattle.report.specs.Code.{code_of}
use Rattle.composition.specs.Answers.{Composed, turned}

-- The top bit is 0 where files were written: the step number, and from bit 32 and bit 47 on the lengths of the handler file and the proof
-- file. It is 1 for a refusal: the pair from bit 48 on, and below it the fault as the check codes it.
unfoldable pub number_of : Composed → ℕ
number_of (Ok m) = m.steps + 2 ^ 32 * m.handler + 2 ^ 47 * m.proof
number_of (Err t) = 2 ^ 63 + 2 ^ 48 * t.pair + code_of (Err t.fault)

-- The number does not carry the states that a pair's own fault names.
unfoldable pub without_states : Composed → Composed
without_states (Ok m) = Ok m
without_states (Err t) = Err (turned t.pair (record { number = t.fault.number; place = t.fault.place; states = Nothing }))

-- The answer that a number encodes, without these states.
unfoldable pub of_number : ℕ → Composed
of_number code =
    cond (ltb code (2 ^ 63))
    (Ok (record { steps = code % 2 ^ 32; handler = code / 2 ^ 32 % 2 ^ 15; proof = code / 2 ^ 47 }))
    (Err (turned (code / 2 ^ 48 % 2 ^ 15) (record {
      number = code / 2 ^ 33 % 2 ^ 15;
      place = cond (eqb (code / 2 ^ 32 % 2) 1) (Node (code % 2 ^ 32)) (Bit (code % 2 ^ 32));
      states = Nothing;
    })))
