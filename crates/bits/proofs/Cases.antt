-- Worked examples: the handler file 22 20 02 of docs/FORMAT.md, its fields, its end and what may follow.
use Prim.Native.Nat.{ℕ}
use mathlib.Core.List.{List, [], ◌∷◌}
use mathlib.Core.Bool.{true, false}
use mathlib.Core.Path.{◌≡◌, refl}
use Rattle.bits.specs.Fields.{has_bits, bit_at, bits_at, is_there, field_at, first_set, fill_bits, further_byte, fill_from, fill_at}
use Rattle.std.specs.Prelude.{Some, None, Ok, Err}

abbrev handler : List ℕ
handler = 0x22 ∷ 0x20 ∷ 0x02 ∷ []

-- One variable, of size 2.
pub first_fields : (field_at handler 0 3 ≡ Some (1, 3)) × (field_at handler 3 5 ≡ Some (2, 8))
unfolding field_at is_there bits_at bit_at
first_fields = (refl, refl)

-- A field may end at the end of the file, but not one bit past it.
pub last_fields :
    (field_at handler 23 1 ≡ Some (0, 24)) × (field_at handler 8 16 ≡ Some (0x2002, 24)) × (field_at handler 9 16 ≡ None)
    × (field_at handler 24 1 ≡ None) × (field_at [] 0 1 ≡ None)
unfolding field_at is_there bits_at bit_at
last_fields = (refl, refl, refl, refl, refl)

-- A field has 1 to 64 bits, and there is none at the largest cursor.
pub widths :
    (field_at handler 0 0 ≡ None) × (field_at (1 ∷ 1 ∷ 1 ∷ 1 ∷ 1 ∷ 1 ∷ handler) 0 64 ≡ Some (0x0101010101012220, 64))
    × (field_at (1 ∷ 1 ∷ 1 ∷ 1 ∷ 1 ∷ 1 ∷ handler) 0 65 ≡ None) × (field_at handler 0xffffffffffffffff 1 ≡ None)
unfolding field_at is_there bits_at bit_at
widths = (refl, refl, refl, refl)

-- The bits must end within the file; zero bits fit anywhere up to its end.
pub bits_there : (has_bits handler 8 16 ≡ true) × (has_bits handler 9 16 ≡ false) × (has_bits handler 24 0 ≡ true) × (has_bits handler 25 0 ≡ false)
unfolding has_bits
bits_there = (refl, refl, refl, refl)

-- The last fill bit may not be set, and a further byte is wrong at its first bit.
pub fill_cases :
    (fill_at handler 23 ≡ Ok tt) × (fill_at (0x22 ∷ 0x20 ∷ 0x03 ∷ []) 23 ≡ Err 23) × (fill_at handler 24 ≡ Ok tt)
    × (fill_at handler 16 ≡ Err 16) × (fill_at handler 11 ≡ Err 16) × (fill_at handler 9 ≡ Err 10) × (fill_at [] 0 ≡ Ok tt)
unfolding fill_at fill_from further_byte fill_bits first_set bit_at
fill_cases = (refl, refl, refl, refl, refl, refl, refl)
