-- The verdict as one number of 64 bits, for hosts that call over the C interface.
use Rattle.std.specs.Prelude.{ℕ, ◌+◌, ◌*◌, ◌/◌, ◌%◌, ◌^◌, ◌<◌, cond, ltb, eqb, Ok, Err}
use Rattle.checker.specs.declared.Place.{Place}
use Rattle.checker.specs.declared.Place.TheVariants.{Bit, Node}
use Rattle.checker.specs.Verdicts.{Verdict, refused_at}

-- The kind of a place: 1 for a node, 0 for a bit.
unfoldable pub place_kind : Place → ℕ
place_kind (Bit i) = 0
place_kind (Node k) = 1

unfoldable pub index_of : Place → ℕ
index_of (Bit i) = i
index_of (Node k) = k

-- An accepted pair's number is its step number. A refusal's upper 32 bits are its number and the kind of its place, its lower 32 bits the
-- place; of a longer number or place only the lower bits are kept.
unfoldable pub code_of : Verdict → ℕ
code_of (Ok n) = n
code_of (Err f) = (f.number % 2 ^ 31 * 2 + place_kind f.place) * 2 ^ 32 + index_of f.place % 2 ^ 32

-- The number does not carry the states.
unfoldable pub without_states : Verdict → Verdict
without_states (Ok n) = Ok n
without_states (Err f) = refused_at f.number f.place

-- No bit is cut off. This holds of every verdict of the check: its numbers are 1 to 80, and its places are far below 2 ^ 32.
abbrev pub Lossless : Verdict → Type 0
Lossless (Ok n) = n < 2 ^ 32
Lossless (Err f) = (0 < f.number) × (f.number < 2 ^ 31) × (index_of f.place < 2 ^ 32)

-- The verdict that a number encodes, without its states.
unfoldable pub decoded : ℕ → Verdict
decoded code =
    cond (ltb code (2 ^ 32)) (Ok code)
    (refused_at (code / 2 ^ 33) (cond (eqb (code / 2 ^ 32 % 2) 1) (Node (code % 2 ^ 32)) (Bit (code % 2 ^ 32))))
