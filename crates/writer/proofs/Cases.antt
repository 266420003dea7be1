-- Worked examples: fields within a byte and across a border, fields that do not fit, files of fields, copied bits and cleared bytes.
use Prim.Native.Nat.{◌-◌, ◌%◌, ◌^◌}
use mathlib.Core.List.{[], ◌∷◌}
use mathlib.Core.Path.{◌≡◌, refl}
use lib.Dec.{eqb}
use Rattle.bits.specs.Fields.{bit_at, bits_at, is_there, field_at}
use Rattle.std.specs.Prelude.{Option, Some, None}
use Rattle.states.specs.Sets.{bits_where}
use Rattle.writer.specs.Writing.{with_bit, put_bit, put_bits, put_field, has_room, copied, cleared}
use Rattle.writer.specs.Packing.{part, width_of, put_parts, put_all, bytes_for, packed}
use Rattle.writer.specs.Sets.{put_set}

-- Bits 2 to 4 of a byte, and three bits across the border of two bytes; the neighbours stay.
pub bits_put :
    (put_field (0x00 ∷ []) 2 3 5 ≡ 0x28 ∷ []) × (put_field (0xff ∷ []) 2 3 2 ≡ 0xd7 ∷ [])
    × (put_field (0x00 ∷ 0x00 ∷ []) 6 3 5 ≡ 0x02 ∷ 0x80 ∷ []) × (put_field (0xff ∷ 0xff ∷ []) 6 3 2 ≡ 0xfd ∷ 0x7f ∷ [])
unfolding put_field put_bits put_bit with_bit is_there
bits_put = (refl, refl, refl, refl)

-- Only the last bits of a value are written.
pub value_cut : (put_field (0x00 ∷ []) 0 4 0xabc ≡ 0xc0 ∷ []) × (put_field (0x00 ∷ 0x00 ∷ []) 4 8 0xabc ≡ 0x0b ∷ 0xc0 ∷ [])
unfolding put_field put_bits put_bit with_bit is_there
value_cut = (refl, refl)

-- A field may end at the end of the bytes, but not one bit past it; it has 1 to 64 bits.
pub all_or_nothing :
    (put_field (0x00 ∷ []) 5 3 7 ≡ 0x07 ∷ []) × (put_field (0x00 ∷ []) 6 3 7 ≡ 0x00 ∷ []) × (put_field (0xff ∷ []) 0 0 0 ≡ 0xff ∷ [])
    × (put_field (1 ∷ 1 ∷ 1 ∷ 1 ∷ 1 ∷ 1 ∷ 1 ∷ 1 ∷ 1 ∷ []) 0 65 0 ≡ 1 ∷ 1 ∷ 1 ∷ 1 ∷ 1 ∷ 1 ∷ 1 ∷ 1 ∷ 1 ∷ [])
unfolding put_field put_bits put_bit with_bit is_there
all_or_nothing = (refl, refl, refl, refl)

-- What is written is read back.
pub written_read : field_at (put_field (0xff ∷ 0xff ∷ []) 6 3 2) 6 3 ≡ Some (2, 9)
unfolding put_field put_bits put_bit with_bit is_there field_at bits_at bit_at
written_read = refl

-- A file of fields of 3, 5 and 2 bits, with six zero bits as fill; and the file of no field.
pub packed_cases : (packed (part 3 1 ∷ part 5 2 ∷ part 2 3 ∷ []) ≡ 0x22 ∷ 0xc0 ∷ []) × (packed [] ≡ [])
unfolding packed put_parts width_of bytes_for put_bits put_bit with_bit
packed_cases = (refl, refl)

-- Bits across a border; bits past the end of the file, which are 0.
pub bits_copied : (copied (0xff ∷ 0xff ∷ []) 6 (0x28 ∷ []) 2 3 ≡ 0xfe ∷ 0xff ∷ []) × (copied (0x00 ∷ []) 0 (0xff ∷ []) 4 8 ≡ 0xf0 ∷ [])
unfolding copied has_room put_bits put_bit with_bit bits_at bit_at
bits_copied = (refl, refl)

-- Bits up to the end of the bytes and one bit past it; bits of which a usize can number the end, and of which it cannot.
pub copied_or_not :
    (copied (0x00 ∷ []) 0 (0xff ∷ []) 0 8 ≡ 0xff ∷ []) × (copied (0x00 ∷ []) 1 (0xff ∷ []) 0 8 ≡ 0x00 ∷ [])
    × (copied (0xff ∷ []) 0 [] (2 ^ 64 - 5) 4 ≡ 0x0f ∷ []) × (copied (0xff ∷ []) 0 [] (2 ^ 64 - 4) 4 ≡ 0xff ∷ [])
unfolding copied has_room put_bits put_bit with_bit bits_at bit_at
copied_or_not = (refl, refl, refl, refl)

-- Two bytes of three, and three of two.
pub bytes_cleared : (cleared (1 ∷ 2 ∷ 3 ∷ []) 2 ≡ 0 ∷ 0 ∷ 3 ∷ []) × (cleared (1 ∷ 2 ∷ []) 3 ≡ 0 ∷ 0 ∷ [])
unfolding cleared
bytes_cleared = (refl, refl)

-- Fields of 3 and 5 bits, of the first of which the last bits are written; one bit too far nothing is.
pub all_or_none :
    (put_all (0x00 ∷ 0x00 ∷ []) 4 (part 3 9 ∷ part 5 2 ∷ []) ≡ 0x02 ∷ 0x20 ∷ [])
    × (put_all (0x00 ∷ 0x00 ∷ []) 9 (part 3 9 ∷ part 5 2 ∷ []) ≡ 0x00 ∷ 0x00 ∷ [])
unfolding put_all has_room put_parts width_of put_bits put_bit with_bit
all_or_none = (refl, refl)

-- States 0 and 2 of three, and a set that is one bit too long.
pub set_or_nothing :
    (put_set (0x00 ∷ []) 2 3 (λ s. eqb (s % 2) 0) ≡ 0x28 ∷ []) × (put_set (0x00 ∷ []) 5 3 (λ s. eqb (s % 2) 0) ≡ 0x05 ∷ [])
    × (put_set (0x00 ∷ []) 6 3 (λ s. eqb (s % 2) 0) ≡ 0x00 ∷ [])
unfolding put_set has_room bits_where put_bits put_bit with_bit
set_or_nothing = (refl, refl, refl)
