-- docs/FORMAT.md, "Limits": how long the two files may be.
use Rattle.std.specs.Prelude.{ℕ, Bool, ◌||◌, List, ltb, length}

-- The longest handler file and the longest proof file, in bytes.
abbrev pub most_handler_bytes : ℕ
most_handler_bytes = 16384

abbrev pub most_proof_bytes : ℕ
most_proof_bytes = 16384

-- 2: a file is longer.
unfoldable pub too_long : List ℕ → List ℕ → Bool
too_long hb pb = ltb most_handler_bytes (length hb) || ltb most_proof_bytes (length pb)
