-- Values by computation, for two variables of sizes 2 and 3 and expressions in tables of nodes.
use Prim.Native.Nat.{ℕ}
use mathlib.Core.Bool.{true, false}
use mathlib.Core.List.{List, [], ◌∷◌, map}
use mathlib.Core.Option.{none, some}
use mathlib.Core.Path.{◌≡◌, refl}
use lib.IntN.{pos, negsuc}
use Rattle.states.specs.Search.{all}
use Rattle.semantics.specs.Language.{int, lit, var, op}
use Rattle.semantics.specs.States.{value}
use Rattle.semantics.specs.Conditions.{is_true, is_false, after_store}
use Rattle.handler.specs.declared.head.Head.{Head}
use Rattle.handler.specs.Header.{head_of, in_limits, is_head, sizes_in, machine_in}
use Rattle.handler.specs.Terms.{signed16, bits16, term_word, first_word, term_words, term_of, term_in, expr_from, expr_in}
use Rattle.evaluation.specs.Values.{agree, variable_in, is_small, agree_in}

-- Variables 0 and 1.
two_variables : List ℕ
two_variables = 2 ∷ 6 ∷ []

-- Variable 0 − variable 1.
difference : List ℕ
difference = term_words 0 (op 1 (var 0) (var 1))

-- Variable 1 < 2, after another node.
less : List ℕ
less = 0 ∷ term_words 1 (op 2 (var 1) (lit (int (pos 2))))

-- An operation that is its own left and right operand.
endless : List ℕ
endless = 3 ∷ []

two : Head
two = head_of (2 ∷ 3 ∷ [])

-- The same variables, with one state too many.
wrong : Head
wrong = record { count = 2; sizes = 2 ∷ 3 ∷ 1 ∷ 1 ∷ []; states = 7 }

-- At state 5 the variables have the values 1 and 2. A negative difference is exact. The test is true at the states where variable 1
-- is 0 or 1 and false at the others; 6 is not a state. At state 5, a store of 1 in variable 1 leads to state 4; a store of 2 in
-- variable 0, whose size is 2, leaves 0 and leads to state 2; a store of −1 in variable 1 leaves 2 and leads to state 5. A store of
-- what has more levels than are read leads nowhere. States 5 and 3 agree in variable 0 and not in variable 1. Variable 0 has weight 3 and size 2
-- among 6 states; with a weight of 0 no states agree. A head with one state too many has no states.
values :
    (value (machine_in two) (expr_in two_variables 0) 5 ≡ some (int (pos 1)))
    × (value (machine_in two) (expr_in two_variables 1) 5 ≡ some (int (pos 2)))
    × (value (machine_in two) (expr_in difference 0) 5 ≡ some (int (negsuc 0)))
    × (map (is_true (machine_in two) (expr_in less 1)) (0 ∷ 1 ∷ 2 ∷ 3 ∷ 4 ∷ 5 ∷ 6 ∷ []) ≡ true ∷ true ∷ false ∷ true ∷ true ∷ false ∷ false ∷ [])
    × (map (is_false (machine_in two) (expr_in less 1)) (0 ∷ 1 ∷ 2 ∷ 3 ∷ 4 ∷ 5 ∷ 6 ∷ []) ≡ false ∷ false ∷ true ∷ false ∷ false ∷ true ∷ false ∷ [])
    × (after_store (machine_in two) 1 (expr_in two_variables 0) 5 ≡ some 4)
    × (after_store (machine_in two) 0 (expr_in two_variables 1) 5 ≡ some 2)
    × (after_store (machine_in two) 1 (expr_in difference 0) 5 ≡ some 5)
    × (after_store (machine_in two) 1 (expr_from 5 endless 0) 5 ≡ none)
    × (agree (machine_in two) 0 5 3 ≡ true)
    × (agree (machine_in two) 1 5 3 ≡ false)
    × (variable_in two 0 ≡ record { states = 6; weight = 3; size = 2 })
    × (agree_in (record { states = 6; weight = 3; size = 2 }) 5 3 ≡ true)
    × (agree_in (record { states = 6; weight = 0; size = 2 }) 5 3 ≡ false)
    × ((machine_in wrong).states ≡ 0)
unfolding two_variables difference less endless two wrong all head_of in_limits is_head sizes_in machine_in bits16 signed16 term_word first_word term_of term_in expr_from is_true is_false after_store expr_in agree variable_in is_small agree_in
values = (refl, refl, refl, refl, refl, refl, refl, refl, refl, refl, refl, refl, refl, refl, refl)
