-- docs/FORMAT.md, "Sets and relations", for writing: a set over n states is n bits, state 0 first.
use Rattle.std.specs.Prelude.{ℕ, Bool, cond, List}
use Rattle.states.specs.Sets.{bits_where}
use Rattle.writer.specs.Writing.{put_bits, has_room}

-- Bytes with a set over n states from `at` on, given by a test of the states: in full or not at all.
unfoldable pub put_set : List ℕ → ℕ → ℕ → (ℕ → Bool) → List ℕ
put_set bytes at n p = cond (has_room bytes at n) (put_bits bytes at n (bits_where n p)) bytes
