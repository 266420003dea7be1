-- docs/FORMAT.md, "Nodes": a node is 3 bits rule, 4 bits each for P (a set), R, G, Q (relations); a while adds 4 bits K (a set)
-- and 4 bits W (a relation); then its child nodes. At most 127 nodes, 24 levels.
use Rattle.std.specs.Prelude.{ℕ, zero, suc, ◌+◌, Bool, cond, ◌||◌, List, leb, ltb, eqb, Result, Ok, Err}
use Rattle.bits.specs.Fields.{fault_at, field_or}
use Rattle.bits.specs.declared.FileFault.{FileFault}
use Rattle.semantics.specs.declared.Names.{Names}
use Rattle.semantics.specs.Derivations.{Derivation, skip, assignment, sequence, parallel, conditional, iteration, weaken, levels}
use Rattle.derivation.specs.declared.NodeHead.{NodeHead}
use Rattle.derivation.specs.declared.NodeEnd.{NodeEnd}

-- The most nodes of a derivation, and the most levels of them.
abbrev pub most_nodes : ℕ
most_nodes = 127

abbrev pub most_node_levels : ℕ
most_node_levels = 24

-- The head of a node, or the first fault in it.
abbrev pub HeadRead : Type 0
HeadRead = Result NodeHead FileFault

-- 23: no such set or relation, at its field.
unfoldable pub on_name : ℕ → ℕ → Result (ℕ × ℕ) FileFault → (ℕ → HeadRead) → HeadRead
on_name limit at (Err fault) f = Err fault
on_name limit at (Ok (i, next)) f = cond (ltb i limit) (f i) (Err (fault_at 23 at))

unfoldable pub named_table : List ℕ → ℕ → ℕ → (ℕ → HeadRead) → HeadRead
named_table bytes limit at f = on_name limit at (field_or bytes at 4 20) f

-- What a table and the bit after its name give to what is read after it.
abbrev pub on_named : Result (ℕ × ℕ) FileFault → (ℕ → ℕ → HeadRead) → HeadRead
on_named (Err fault) f = Err fault
on_named (Ok (i, next)) f = f i next

module _ (bytes : List ℕ) (sets relations : ℕ) where
  -- K and W of a while, which are 0 at any other rule.
  unfoldable pub loop_head : ℕ → Names → ℕ → HeadRead
  loop_head rule h at =
      cond (eqb rule 5)
      (named_table bytes sets at (λ K. named_table bytes relations (at + 4) (λ W. Ok (record { rule = rule; names = h; k = K; w = W; next = at + 8 }))))
      (Ok (record { rule = rule; names = h; k = 0; w = 0; next = at }))

  unfoldable pub names_head : ℕ → ℕ → HeadRead
  names_head rule at =
      named_table bytes sets at (λ P. named_table bytes relations (at + 4) (λ R. named_table bytes relations (at + 8) (λ G.
      named_table bytes relations (at + 12) (λ Q. loop_head rule (record { p = P; r = R; g = G; q = Q }) (at + 16)))))

  -- A node's rule: 20 not there, then 24 the 128th node or the 25th level, then 22 the unused code 7, then its tables.
  unfoldable pub rule_head : Bool → ℕ → Result (ℕ × ℕ) FileFault → HeadRead
  rule_head too_many at (Err fault) = Err fault
  rule_head too_many at (Ok (rule, next)) =
      cond too_many (Err (fault_at 24 at)) (cond (eqb rule 7) (Err (fault_at 22 at)) (names_head rule next))

  -- The head of a node with so many nodes before it, where so many levels are left below it.
  unfoldable pub node_head : ℕ → ℕ → ℕ → HeadRead
  node_head below before at = rule_head (eqb below 0 || leb most_nodes before) at (field_or bytes at 3 20)

-- A derivation with the number of nodes so far and the bit after it, or the first fault.
pub data NodeRead : Type 0 where
  whole : Derivation → ℕ → ℕ → NodeRead
  fault : ℕ → ℕ → NodeRead

abbrev pub alone : NodeHead → Derivation
alone x = cond (eqb x.rule 0) (skip x.names) (assignment x.names)

abbrev pub over_two : NodeHead → Derivation → Derivation → Derivation
over_two x l r = cond (eqb x.rule 2) (sequence x.names l r) (parallel x.names l r)

abbrev pub over_one : NodeHead → Derivation → Derivation
over_one x d =
    cond (eqb x.rule 4) (conditional x.names d) (cond (eqb x.rule 5) (iteration x.names x.k x.w d) (weaken x.names d))

abbrev pub on_child : (Derivation → Derivation) → NodeRead → NodeRead
on_child f (fault k place) = fault k place
on_child f (whole d before next) = whole (f d) before next

abbrev pub on_left_node : (Derivation → Derivation → Derivation) → NodeRead → (ℕ → ℕ → NodeRead) → NodeRead
on_left_node f (fault k place) right = fault k place
on_left_node f (whole l before next) right = on_child (f l) (right before next)

-- Its child nodes: none for skip and assignment, two for sequence and parallel, one for if, while and weaken.
abbrev pub on_node_head : HeadRead → ℕ → (ℕ → ℕ → NodeRead) → NodeRead
on_node_head (Err x) before node = fault x.number x.bit
on_node_head (Ok x) before node =
    cond (ltb x.rule 2) (whole (alone x) (suc before) x.next)
    (cond (ltb x.rule 4) (on_left_node (over_two x) (node (suc before) x.next) node) (on_child (over_one x) (node (suc before) x.next)))

-- The derivation at a bit; the levels to go are one more than the 24 that can be there, so their end is never met.
unfoldable pub node_at : ℕ → List ℕ → ℕ → ℕ → ℕ → ℕ → NodeRead
node_at zero bytes sets relations before at = fault 24 at
node_at (suc below) bytes sets relations before at =
    on_node_head (node_head bytes sets relations below before at) before (node_at below bytes sets relations)

unfoldable pub whole_node : List ℕ → ℕ → ℕ → ℕ → NodeRead
whole_node bytes sets relations at = node_at (suc most_node_levels) bytes sets relations 0 at

-- What the code answers of a derivation.
unfoldable pub end_of : NodeRead → Result NodeEnd FileFault
end_of (whole d before next) = Ok (record { nodes = before; levels = levels d; next = next })
end_of (fault k place) = Err (fault_at k place)
