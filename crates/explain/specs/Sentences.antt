-- What each number means, in one sentence: the words of the tables of docs/FAULTS.md, column "what it means".
use Rattle.std.specs.Prelude.{ℕ, cond, List, [], ◌∷◌, ◌==◌}
use Prim.Native.String.{String}
use Rattle.report.specs.Line.{ascii}

pub record Sentence : Type 0 where
  pub number : ℕ
  pub words : String

abbrev means : ℕ → String → Sentence
means k text = record { number = k; words = text }

-- The sentence of a number in a list, or other bytes where the list does not have the number.
abbrev pub said_in : List Sentence → ℕ → List ℕ → List ℕ
said_in [] k other = other
said_in (x ∷ rest) k other = cond (k == x.number) (ascii x.words) (said_in rest k other)

-- The host, and the head of the handler file.
abbrev limit_sentences : List Sentence
limit_sentences =
    means 1 "The host lent fewer than 1,040 work words."
    ∷ means 2 "A file has more than 16,384 bytes."
    ∷ means 10 "A field runs past the end of the handler file."
    ∷ means 11 "The number of variables is not 1 to 4."
    ∷ means 12 "The size of a variable is not 2 to 16."
    ∷ []

-- The rest of the handler file.
abbrev handler_sentences : List Sentence
handler_sentences =
    means 13 "With this size, N (the product of the sizes) is over 64."
    ∷ means 14 "The code is unused: 6 or 7 of a statement, or 7 of an operation."
    ∷ means 15 "There is no variable with this number."
    ∷ means 16 "An integer is where a truth value is wanted, or the reverse."
    ∷ means 17 "The handler has more than 63 statements, 16 levels, or 31 nodes in an expression."
    ∷ means 18 "A fill bit of the handler file is not 0, or a byte follows its last field."
    ∷ []

-- The proof file.
abbrev proof_sentences : List Sentence
proof_sentences =
    means 20 "A field runs past the end of the proof file."
    ∷ means 21 "The number of sets or of relations is not 1 to 16."
    ∷ means 22 "The rule code is 7, which is unused."
    ∷ means 23 "There is no set or relation with this number."
    ∷ means 24 "The derivation has more than 127 nodes or 24 levels."
    ∷ means 25 "A fill bit of the proof file is not 0, or a byte follows its last field."
    ∷ []

-- Every node.
abbrev node_sentences : List Sentence
node_sentences =
    means 30 "The node's rule is not that of the statement at hand."
    ∷ means 31 "Others can leave P: s is in P and (s,t) in R, but t is not in P."
    ∷ means 32 "Others act first and Q fails: s is in P, (s,t) in R and (t,u) in Q, but (s,u) is not in Q."
    ∷ means 33 "Others act last and Q fails: s is in P, (s,t) in Q and (t,u) in R, but (s,u) is not in Q."
    ∷ []

-- The tables of a child, and skip.
abbrev child_sentences : List Sentence
child_sentences =
    means 34 "The P of a child is not the one that the rule gives it."
    ∷ means 35 "Skip: s is in P, but (s,s) is not in Q."
    ∷ means 36 "The R of a child is not the one that the rule gives it."
    ∷ means 37 "The G of a child is not the one that the rule gives it."
    ∷ means 38 "The Q of a child is not the one that the rule gives it."
    ∷ []

-- Assignment and if.
abbrev store_sentences : List Sentence
store_sentences =
    means 41 "Assignment: R moves a variable of the expression."
    ∷ means 42 "Assignment: s is in P and the store leads to s', but (s,s') is not in Q."
    ∷ means 43 "Assignment: s is in P and the store leads to another state s', but (s,s') is not in G."
    ∷ means 45 "If: R moves a variable of the test."
    ∷ means 46 "If: s is in P and the test is false at s, but (s,s) is not in Q."
    ∷ []

-- While: its test, and K and W.
abbrev loop_sentences : List Sentence
loop_sentences =
    means 50 "While: the test has more than one occurrence of variables that R moves."
    ∷ means 51 "While: W has the pair (s,s)."
    ∷ means 52 "While: s is in P and the test is true at s, but s is not in K."
    ∷ means 53 "While: s is in P and K, and (s,t) in R, but t is not in K."
    ∷ []

-- While: the rest.
abbrev exit_sentences : List Sentence
exit_sentences =
    means 54 "While: s is in P, the test is false at s and (s,t) is in R, but the test is true at t."
    ∷ means 55 "While: s is in P and (s,t) in R, but t is not s and (s,t) is not in W."
    ∷ means 56 "While: s and t are in P, t is s or (s,t) is in W, and the test is false at t, but (s,t) is not in Q."
    ∷ means 57 "While: (s,t) and (t,u) are in W, but (s,u) is not."
    ∷ []

-- Sequence and parallel.
abbrev part_sentences : List Sentence
part_sentences =
    means 60 "Sequence: s is in P and (s,t) in the left Q, but t is not in the right P."
    ∷ means 61 "Sequence: s is in P, (s,t) in the left Q and (t,u) in the right Q, but (s,u) is not in Q."
    ∷ means 65 "Parallel: the G of a child does not lie in G."
    ∷ means 66 "Parallel: s is in P, (s,t) in the Q of both children and t reached from s, but (s,t) is not in Q."
    ∷ []

-- Weaken, and the step number.
abbrev weaken_sentences : List Sentence
weaken_sentences =
    means 70 "Weaken: P does not lie in the P of the child."
    ∷ means 71 "Weaken: R does not lie in the R of the child."
    ∷ means 72 "Weaken: the G of the child does not lie in G."
    ∷ means 73 "Weaken: the Q of the child does not lie in Q."
    ∷ means 80 "The step number is over 4,294,967,295."
    ∷ []

-- The sentence of a number, looked for in the lists one after the other; no bytes where there is none.
unfoldable pub weakens_on : ℕ → List ℕ
weakens_on k = said_in weaken_sentences k []

unfoldable pub parts_on : ℕ → List ℕ
parts_on k = said_in part_sentences k (weakens_on k)

unfoldable pub exits_on : ℕ → List ℕ
exits_on k = said_in exit_sentences k (parts_on k)

unfoldable pub loops_on : ℕ → List ℕ
loops_on k = said_in loop_sentences k (exits_on k)

unfoldable pub stores_on : ℕ → List ℕ
stores_on k = said_in store_sentences k (loops_on k)

unfoldable pub children_on : ℕ → List ℕ
children_on k = said_in child_sentences k (stores_on k)

unfoldable pub nodes_on : ℕ → List ℕ
nodes_on k = said_in node_sentences k (children_on k)

unfoldable pub proof_on : ℕ → List ℕ
proof_on k = said_in proof_sentences k (nodes_on k)

unfoldable pub handler_on : ℕ → List ℕ
handler_on k = said_in handler_sentences k (proof_on k)

unfoldable pub sentence_of : ℕ → List ℕ
sentence_of k = said_in limit_sentences k (handler_on k)
