-- The states that a refusal names: the letter of each, and the values of the variables at it.
use Rattle.std.specs.Prelude.{ℕ, cond, ◌||◌, List, ◌==◌}
use Rattle.semantics.specs.States.{value_of}
use Rattle.handler.specs.declared.head.Head.{Head}
use Rattle.handler.specs.Header.{is_head, sizes_in}
use Rattle.report.specs.Line.{ascii}

-- The value of variable v at state s, over the variables of a head; 0 where the numbers are those of no head.
unfoldable pub value_at : Head → ℕ → ℕ → ℕ
value_at head s v = cond (is_head head) (value_of (sizes_in head) s v) 0

-- The letters by their order: s, t and u; the second of 42 and 43 is s', the state after a store.
unfoldable pub letter_of : ℕ → ℕ → List ℕ
letter_of k i =
    cond (i == 0) (ascii "s") (cond (i == 1) (cond (k == 42 || k == 43) (ascii "s'") (ascii "t")) (ascii "u"))
