-- The number so far and the digits after it stand for the whole text's number.
use Rattle.std.proofs.Common.{◌≡◌, drop}
use Rattle.handover.specs.Number.{number_from}
use Rattle.handover.proofs.number.number_in.Given as goal

abbrev pub invariant-loop-byte : goal.invariant-loop-byte
invariant-loop-byte l = number_from l.value (drop l.byte-index l.text) ≡ number_from 0 l.text
