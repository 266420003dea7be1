-- docs/FORMAT.md, "Bits and fields": a file is its fields with no gaps; after the last one the byte is filled with zero bits and the file
-- ends. A field of a file is given by its width and its value; a whole table may be one field.
use Rattle.std.specs.Prelude.{ℕ, ◌+◌, ◌/◌, cond, List, [], ◌∷◌, replicate}
use Rattle.writer.specs.Writing.{put_bits, has_room}

pub record Part : Type 0 where
  pub width : ℕ
  pub value : ℕ

abbrev pub part : ℕ → ℕ → Part
part width value = record { width = width; value = value }

-- How many bits the fields take together.
unfoldable pub width_of : List Part → ℕ
width_of [] = 0
width_of (p ∷ rest) = p.width + width_of rest

-- Bytes with these fields from `at` on, one after the other.
unfoldable pub put_parts : List ℕ → ℕ → List Part → List ℕ
put_parts bytes at [] = bytes
put_parts bytes at (p ∷ rest) = put_parts (put_bits bytes at p.width p.value) (at + p.width) rest

-- Fields written at a cursor, all of them or none.
unfoldable pub put_all : List ℕ → ℕ → List Part → List ℕ
put_all bytes at parts = cond (has_room bytes at (width_of parts)) (put_parts bytes at parts) bytes

-- How many bytes so many bits take.
unfoldable pub bytes_for : ℕ → ℕ
bytes_for bits = (bits + 7) / 8

-- The file of these fields.
unfoldable pub packed : List Part → List ℕ
packed parts = put_parts (replicate (bytes_for (width_of parts)) 0) 0 parts
