-- A path as C reads it.
use Rattle.std.specs.Prelude.{◌≡◌, List, ℕ, slice_index_or}

-- The last of its 4096 bytes is 0.
abbrev pub Ended : List ℕ → Type 0
Ended bytes = slice_index_or bytes 4095 1 ≡ 0
