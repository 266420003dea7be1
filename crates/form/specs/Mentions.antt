-- docs/FORMAT.md, "One form": the mentions of tables, nodes in file order and P, R, G, Q, K, W within a node; and the distinct ones by
-- first mention.
use Rattle.std.specs.Prelude.{ℕ, suc, Bool, false, cond, ◌||◌, List, [], ◌∷◌, ◌++◌, eqb}
use Rattle.semantics.specs.Derivations.{Derivation, skip, assignment, sequence, parallel, conditional, iteration, weaken}
use Rattle.derivation.specs.declared.Node.{Node}
use Rattle.derivation.specs.NodeTable.{node_record}

-- The sets that a node mentions: P, and K of a while. The relations: R, G, Q, and W of a while.
unfoldable pub sets_of : Node → List ℕ
sets_of x = x.names.p ∷ cond (eqb x.rule 5) (x.k ∷ []) []

unfoldable pub relations_of : Node → List ℕ
relations_of x = x.names.r ∷ x.names.g ∷ x.names.q ∷ cond (eqb x.rule 5) (x.w ∷ []) []

-- A derivation's root as a node. Its number and its first bit, 0 here, are not looked at.
abbrev pub root_node : Derivation → Node
root_node d = node_record 0 0 d

-- What the nodes of a derivation have, nodes in file order: `own` gives what a node has.
unfoldable pub in_order : {A : Type 0} → (Node → List A) → Derivation → List A
in_order own (skip h) = own (root_node (skip h))
in_order own (assignment h) = own (root_node (assignment h))
in_order own (sequence h l r) = own (root_node (sequence h l r)) ++ (in_order own l ++ in_order own r)
in_order own (parallel h l r) = own (root_node (parallel h l r)) ++ (in_order own l ++ in_order own r)
in_order own (conditional h d) = own (root_node (conditional h d)) ++ in_order own d
in_order own (iteration h K W d) = own (root_node (iteration h K W d)) ++ in_order own d
in_order own (weaken h d) = own (root_node (weaken h d)) ++ in_order own d

-- Whether x is in a list, and its place there; the list's length if it is not.
unfoldable pub is_in : List ℕ → ℕ → Bool
is_in [] x = false
is_in (y ∷ rest) x = eqb y x || is_in rest x

unfoldable pub place_in : List ℕ → ℕ → ℕ
place_in [] x = 0
place_in (y ∷ rest) x = cond (eqb y x) 0 (suc (place_in rest x))

-- A list after a mention of x: x is added at its end, unless it is there. And after several mentions.
unfoldable pub mentioned : List ℕ → ℕ → List ℕ
mentioned seen x = cond (is_in seen x) seen (seen ++ x ∷ [])

unfoldable pub all_mentioned : List ℕ → List ℕ → List ℕ
all_mentioned seen [] = seen
all_mentioned seen (x ∷ rest) = all_mentioned (mentioned seen x) rest

-- The distinct ones of a list, by first mention.
unfoldable pub distinct : List ℕ → List ℕ
distinct xs = all_mentioned [] xs
