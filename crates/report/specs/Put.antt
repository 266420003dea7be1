-- What a step of writing a line does to a buffer.
use Rattle.std.specs.Prelude.{ℕ, ◌+◌, ◌≡◌, List, ◌++◌, length, take, drop}

-- A text is at `at`, ends at `next`, and nothing before or after it changed.
pub record Put (before : List ℕ) (at : ℕ) (text : List ℕ) (after : List ℕ) (next : ℕ) : Type 0 where
  pub ends : next ≡ at + length text
  pub front : take next after ≡ take at before ++ text
  pub rest : drop next after ≡ drop next before
