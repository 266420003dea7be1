-- The states of a set one after the other: each time the least of those that are left is taken, until none is.
use Rattle.std.specs.Prelude.{ℕ, Bool, cond, ◌&&◌, ◌≡◌, Option, Some, None}
use Rattle.states.specs.Search.{any, least_where}
use Rattle.states.specs.Sets.{capacity, has}
use Rattle.states.specs.declared.iteration.States.{States}

-- The least state at which p holds, if there is one.
unfoldable pub first_where : (ℕ → Bool) → Option ℕ
first_where p = cond (any capacity p) (Some (least_where capacity p)) None

-- What is taken is the least of the states before; those after it are the states before that have one below them.
pub record TakesLeast (before : States) (item : Option ℕ) (after : States) : Type 0 where
  pub least : item ≡ first_where (has before.rest)
  pub left : (s : ℕ) → has after.rest s ≡ (has before.rest s && any s (λ t. has before.rest t))
