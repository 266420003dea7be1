-- Worked examples: the handler file 22 20 02 of docs/FORMAT.md, read from its first bit, and reads that it refuses.
use Prim.Native.Nat.{ℕ}
use mathlib.Core.List.{List, [], ◌∷◌}
use mathlib.Core.Path.{◌≡◌, refl}
use Rattle.bits.specs.Fields.{bit_at, bits_at, is_there, field_at}
use Rattle.reader.specs.Reading.{field_of, moved_to, two_answers}
use Rattle.std.specs.Prelude.{Option, Some, None}

abbrev handler : List ℕ
handler = 0x22 ∷ 0x20 ∷ 0x02 ∷ []

-- One variable, of size 2: the second field is where the first ends.
pub head : two_answers handler 0 3 5 ≡ (Some 1, Some 2)
unfolding field_at is_there bits_at bit_at
head = refl

-- A refused read leaves the reader where it is, so the read after it finds what it would have found.
pub refused_then_read : two_answers handler 8 17 16 ≡ (None, Some 0x2002)
unfolding field_at is_there bits_at bit_at
refused_then_read = refl

-- No field has 0 or 65 bits, and none runs past the end.
-- The answer and the position after a read at a cursor.
abbrev read_at : List ℕ → ℕ → ℕ → Option ℕ × ℕ
read_at bytes at width = (field_of (field_at bytes at width), moved_to at (field_at bytes at width))

pub refused :
    (read_at handler 8 0 ≡ (None, 8)) × (read_at (1 ∷ 1 ∷ 1 ∷ 1 ∷ 1 ∷ 1 ∷ handler) 0 65 ≡ (None, 0)) × (read_at handler 23 2 ≡ (None, 23))
unfolding field_at is_there bits_at bit_at
refused = (refl, refl, refl)
