-- A text in a buffer, as far as there is room for it.
use Rattle.std.specs.Prelude.{ℕ, ◌+◌, ◌-◌, min, List, length}
use Rattle.std.proofs.Math.Seq.{paste}

-- How many bytes of a text fit into a buffer from a place on.
unfoldable pub fitting : List ℕ → ℕ → List ℕ → ℕ
fitting out at text = min (length text) (length out - at)

-- The buffer with them, and where they end.
unfoldable pub text_in : List ℕ → ℕ → List ℕ → List ℕ
text_in out at text = paste out at text (fitting out at text)

unfoldable pub text_end : List ℕ → ℕ → List ℕ → ℕ
text_end out at text = at + fitting out at text
