-- For hosts: a reader that holds the file and its own bit position, for fields as in docs/FORMAT.md, "Bits and fields". A read of
-- 1 to 64 bits gives the field and moves on; any other width, or a read past the end, gives none and moves nothing.
use Rattle.std.specs.Prelude.{ℕ, List, Option, option_map}
use Rattle.std.specs.Borrow.{Bor}
use Rattle.std.specs.Option.{option_map_or}
use Rattle.bits.specs.Fields.{field_at}
use Rattle.reader.specs.declared.Reader.{Reader}

-- What a read gives.
abbrev pub field_of : Option (ℕ × ℕ) → Option ℕ
field_of field = option_map (λ f. f.0) field

-- The reader's position after a read that began at `at`.
abbrev pub moved_to : ℕ → Option (ℕ × ℕ) → ℕ
moved_to at field = option_map_or (λ f. f.1) field at

-- A reader of a file, at its first bit.
abbrev pub reader_of : Bor (List ℕ) → Reader
reader_of file = record { file = file; at = 0 }

-- What a reader answers to a read of `width` bits.
abbrev pub answer_of : Reader → ℕ → Option ℕ
answer_of r width = field_of (field_at r.file.now r.at width)

-- The reader after that read: the same file, at the new position.
abbrev pub moved_on : Reader → ℕ → Reader
moved_on r width = record { file = r.file; at = moved_to r.at (field_at r.file.now r.at width) }

-- The answers of two reads in a row, the second from the position after the first.
abbrev pub two_answers : List ℕ → ℕ → ℕ → ℕ → Option ℕ × Option ℕ
two_answers bytes at first second =
    (field_of (field_at bytes at first), field_of (field_at bytes (moved_to at (field_at bytes at first)) second))
