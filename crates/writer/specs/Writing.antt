-- docs/FORMAT.md, "Bits and fields", for writing: a field is put into bytes most significant bit first, and everything else stays.
use Rattle.std.specs.Prelude.{ℕ, zero, suc, ◌+◌, ◌-◌, ◌*◌, ◌/◌, ◌%◌, ◌^◌, min, Bool, cond, ◌&&◌, List, ◌++◌, leb, ltb, length, get_or, set, drop, replicate}
use Rattle.bits.specs.Fields.{bits_at, is_there}

-- A byte with b, 0 or 1, as its bit of weight 2 ^ k.
unfoldable pub with_bit : ℕ → ℕ → ℕ → ℕ
with_bit byte k b = (byte / 2 ^ suc k * 2 + b) * 2 ^ k + byte % 2 ^ k

-- Bytes with b as bit i, the most significant of a byte first; unchanged past the end.
unfoldable pub put_bit : List ℕ → ℕ → ℕ → List ℕ
put_bit bytes i b = set bytes (i / 8) (with_bit (get_or bytes (i / 8) 0) (7 - i % 8) b)

-- Bytes with the last `width` bits of a value as the bits from `at` on, most significant bit first.
unfoldable pub put_bits : List ℕ → ℕ → ℕ → ℕ → List ℕ
put_bits bytes at zero value = bytes
put_bits bytes at (suc width) value = put_bit (put_bits bytes at width (value / 2)) (at + width) (value % 2)

-- A field is written in full or not at all: 1 to 64 bits, all within the bytes.
unfoldable pub put_field : List ℕ → ℕ → ℕ → ℕ → List ℕ
put_field bytes at width value = cond (is_there bytes at width) (put_bits bytes at width value) bytes

-- Whether `width` bits from a cursor on are all within the bytes. An end that a usize cannot hold counts as past them.
unfoldable pub has_room : List ℕ → ℕ → ℕ → Bool
has_room bytes at width = leb (at + width) (8 * length bytes) && ltb (at + width) (2 ^ 64)

-- The `width` bits of a file from a cursor on, written at a cursor of the bytes in full or not at all; past the file's end they are 0.
unfoldable pub copied : List ℕ → ℕ → List ℕ → ℕ → ℕ → List ℕ
copied out to src from width =
    cond (has_room out to width && ltb (from + width) (2 ^ 64)) (put_bits out to width (bits_at src from width)) out

-- Bytes of which the first `count`, or as many as there are, are 0.
unfoldable pub cleared : List ℕ → ℕ → List ℕ
cleared out count = replicate (min count (length out)) 0 ++ drop (min count (length out)) out
