-- The table of a derivation's nodes: a word for each node, in file order, in which nodes are numbered from 0.
use Rattle.std.specs.Prelude.{ℕ, suc, ◌+◌, ◌-◌, ◌*◌, ◌/◌, ◌%◌, ◌^◌, List, [], ◌∷◌, ◌++◌, length, get_or, replicate}
use Rattle.semantics.specs.Derivations.{Derivation, skip, assignment, sequence, parallel, conditional, iteration, weaken, names_of, nodes}
use Rattle.derivation.specs.declared.Node.{Node}
use Rattle.derivation.specs.Nodes.{most_nodes}

-- A node in a word, lowest first: 3 bits rule, 4 bits each for P, R, G, Q, K and W, 7 bits the number of the node after its
-- first child; the rest is the bit of the file at which it begins.
unfoldable pub node_word : Node → ℕ
node_word x =
    x.rule + 8 * (x.names.p + 16 * (x.names.r + 16 * (x.names.g + 16 * (x.names.q + 16 * (x.k + 16 * (x.w
    + 16 * (x.after + 128 * x.bit)))))))

-- The node that a word holds.
unfoldable pub node_of : ℕ → Node
node_of word =
    record {
      rule = word % 8;
      names = record { p = word / 2 ^ 3 % 16; r = word / 2 ^ 7 % 16; g = word / 2 ^ 11 % 16; q = word / 2 ^ 15 % 16 };
      k = word / 2 ^ 19 % 16;
      w = word / 2 ^ 23 % 16;
      after = word / 2 ^ 27 % 128;
      bit = word / 2 ^ 34;
    }

-- Node i of a table; past the end of the table, the node that the word 0 holds.
unfoldable pub node_in : List ℕ → ℕ → Node
node_in table i = node_of (get_or table i 0)

-- The rule of a derivation's root.
abbrev pub rule_of : Derivation → ℕ
rule_of (skip h) = 0
rule_of (assignment h) = 1
rule_of (sequence h l r) = 2
rule_of (parallel h l r) = 3
rule_of (conditional h d) = 4
rule_of (iteration h K W d) = 5
rule_of (weaken h d) = 6

-- K and W, which are 0 but at a while.
abbrev pub loop_names : Derivation → ℕ × ℕ
loop_names (skip h) = (0, 0)
loop_names (assignment h) = (0, 0)
loop_names (sequence h l r) = (0, 0)
loop_names (parallel h l r) = (0, 0)
loop_names (conditional h d) = (0, 0)
loop_names (iteration h K W d) = (K, W)
loop_names (weaken h d) = (0, 0)

-- How many nodes the first child of a derivation has; 0 where it has no child.
abbrev pub first_nodes : Derivation → ℕ
first_nodes (skip h) = 0
first_nodes (assignment h) = 0
first_nodes (sequence h l r) = nodes l
first_nodes (parallel h l r) = nodes l
first_nodes (conditional h d) = nodes d
first_nodes (iteration h K W d) = nodes d
first_nodes (weaken h d) = nodes d

-- How many bits a derivation takes in the file: 19 a node, 27 a while.
abbrev pub node_bits : Derivation → ℕ
node_bits (skip h) = 19
node_bits (assignment h) = 19
node_bits (sequence h l r) = 19 + node_bits l + node_bits r
node_bits (parallel h l r) = 19 + node_bits l + node_bits r
node_bits (conditional h d) = 19 + node_bits d
node_bits (iteration h K W d) = 27 + node_bits d
node_bits (weaken h d) = 19 + node_bits d

-- The root of a derivation as node i, which begins at a bit.
abbrev pub node_record : ℕ → ℕ → Derivation → Node
node_record i bit d =
    record { rule = rule_of d; names = names_of d; k = (loop_names d).0; w = (loop_names d).1; after = suc i + first_nodes d; bit = bit }

-- The words of a derivation whose root is node i and begins at a bit: the root's, then its children's.
abbrev pub node_words : ℕ → ℕ → Derivation → List ℕ
node_words i bit (skip h) = node_word (node_record i bit (skip h)) ∷ []
node_words i bit (assignment h) = node_word (node_record i bit (assignment h)) ∷ []
node_words i bit (sequence h l r) =
    node_word (node_record i bit (sequence h l r))
    ∷ (node_words (suc i) (bit + 19) l ++ node_words (suc i + nodes l) (bit + 19 + node_bits l) r)
node_words i bit (parallel h l r) =
    node_word (node_record i bit (parallel h l r))
    ∷ (node_words (suc i) (bit + 19) l ++ node_words (suc i + nodes l) (bit + 19 + node_bits l) r)
node_words i bit (conditional h d) = node_word (node_record i bit (conditional h d)) ∷ node_words (suc i) (bit + 19) d
node_words i bit (iteration h K W d) = node_word (node_record i bit (iteration h K W d)) ∷ node_words (suc i) (bit + 27) d
node_words i bit (weaken h d) = node_word (node_record i bit (weaken h d)) ∷ node_words (suc i) (bit + 19) d

-- Words followed by 0 up to a length.
unfoldable pub padded : ℕ → List ℕ → List ℕ
padded k ws = ws ++ replicate (k - length ws) 0

-- The table of a whole derivation, whose root begins at a bit: 127 words, one for each node that there can be.
unfoldable pub node_table : ℕ → Derivation → List ℕ
node_table bit d = padded most_nodes (node_words 0 bit d)
