-- docs/FORMAT.md, "Bits and fields": fields are packed most significant bit first with no gaps; after the last field the byte
-- is filled with zero bits and the file ends. A file is the list of its bytes; a cursor is the number of a bit.
use Rattle.std.specs.Prelude.{ℕ, zero, suc, ◌+◌, ◌-◌, ◌*◌, ◌/◌, ◌%◌, ◌^◌, min, Bool, cond, ◌&&◌, List, length, get_or, leb, ltb, eqb, Option, Some, None, Result, Ok, Err}
use Rattle.std.specs.Option.{ok_or}
use Rattle.bits.specs.declared.FileFault.{FileFault}

-- The length of a file in bits, at most the largest usize.
unfoldable pub bit_length : List ℕ → ℕ
bit_length bytes = min (8 * length bytes) (2 ^ 64 - 1)

-- Whether `count` bits from `at` on are all within a file.
unfoldable pub has_bits : List ℕ → ℕ → ℕ → Bool
has_bits bytes at count = leb (at + count) (8 * length bytes)

-- Bit i of a file, the most significant of a byte first; 0 past the end.
unfoldable pub bit_at : List ℕ → ℕ → ℕ
bit_at bytes i = get_or bytes (i / 8) 0 / 2 ^ (7 - i % 8) % 2

-- The value of the `width` bits from `at` on, most significant bit first.
unfoldable pub bits_at : List ℕ → ℕ → ℕ → ℕ
bits_at bytes at zero = 0
bits_at bytes at (suc width) = bits_at bytes at width * 2 + bit_at bytes (at + width)

-- Whether a field is there in full: 1 to 64 bits, all within the file. A cursor that a usize cannot hold counts as past the end.
unfoldable pub is_there : List ℕ → ℕ → ℕ → Bool
is_there bytes at width = leb 1 width && leb width 64 && leb (at + width) (8 * length bytes) && ltb (at + width) (2 ^ 64)

-- The field of `width` bits at a cursor: its value, and the next cursor; none if it is missing.
unfoldable pub field_at : List ℕ → ℕ → ℕ → Option (ℕ × ℕ)
field_at bytes at width = cond (is_there bytes at width) (Some (bits_at bytes at width, at + width)) None

-- A fault of a file: its number and its bit.
abbrev pub fault_at : ℕ → ℕ → FileFault
fault_at number bit = record { number = number; bit = bit }

-- The same field, where a missing one is the fault with this number, at the file's length.
unfoldable pub field_or : List ℕ → ℕ → ℕ → ℕ → Result (ℕ × ℕ) FileFault
field_or bytes at width number = ok_or (field_at bytes at width) (fault_at number (bit_length bytes))

-- The value of `width` bits from a cursor on; 0 if there are more than 64.
unfoldable pub number_at : List ℕ → ℕ → ℕ → ℕ
number_at bytes at width = cond (leb width 64) (bits_at bytes at width) 0

-- The first of `count` bits from `at` on that is not zero.
unfoldable pub first_set : List ℕ → ℕ → ℕ → Option ℕ
first_set bytes at zero = None
first_set bytes at (suc count) = cond (eqb (bit_at bytes at) 0) (first_set bytes (suc at) count) (Some at)

-- How many bits are left in the byte of a cursor; None if the cursor is at a byte's first bit.
unfoldable pub fill_bits : ℕ → ℕ
fill_bits at = (8 - at % 8) % 8

-- A byte after the last one that holds a field is wrong at its first bit, if a usize can hold that bit's number.
unfoldable pub further_byte : List ℕ → ℕ → Result (Unit {0}) ℕ
further_byte bytes next = cond (ltb next (8 * length bytes) && ltb next (2 ^ 64)) (Err next) (Ok tt)

unfoldable pub fill_from : List ℕ → ℕ → Option ℕ → Result (Unit {0}) ℕ
fill_from bytes next None = further_byte bytes next
fill_from bytes next (Some i) = Err i

-- Whether the file ends as it must after its last field; if not, the first wrong bit: the first fill bit that is not
-- zero, else the first bit of a further byte.
unfoldable pub fill_at : List ℕ → ℕ → Result (Unit {0}) ℕ
fill_at bytes at = fill_from bytes (at + fill_bits at) (first_set bytes at (fill_bits at))
