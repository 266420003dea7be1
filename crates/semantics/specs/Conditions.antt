-- The conditions 30 to 73 on a node (docs/RULES.md, a section for each rule).
use Rattle.std.specs.Prelude.{ℕ, ◌+◌, Bool, true, false, cond, not, ◌&&◌, ◌||◌, leb, ltb, eqb, pos}
use Rattle.std.specs.Bool.{beq}
use Rattle.std.proofs.Math.Option.{Option, none, some}
use Rattle.states.specs.Search.{implies, all, any, Search, must, given, named, each}
use Rattle.states.specs.Relations.{reach}
use Rattle.semantics.specs.Language.{Expr, lit, var, op, int, Stmt, nil, assign, seq, par, if, while, eq_z}
use Rattle.semantics.specs.States.{Machine, value, is_truth, store_of}
use Rattle.semantics.specs.Derivations.{Spec}

-- The code and the parts of a statement, so that a rule can be checked against any statement.
abbrev pub statement_code : Stmt → ℕ
statement_code nil = 0
statement_code (assign v e) = 1
statement_code (seq l r) = 2
statement_code (par l r) = 3
statement_code (if e b) = 4
statement_code (while e b) = 5

abbrev pub target_of : Stmt → ℕ
target_of nil = 0
target_of (assign v e) = v
target_of (seq l r) = 0
target_of (par l r) = 0
target_of (if e b) = 0
target_of (while e b) = 0

-- The assigned expression or the test.
abbrev pub expr_of : Stmt → Expr
expr_of nil = lit (int (pos 0))
expr_of (assign v e) = e
expr_of (seq l r) = lit (int (pos 0))
expr_of (par l r) = lit (int (pos 0))
expr_of (if e b) = e
expr_of (while e b) = e

-- The left part, or the body.
abbrev pub first_of : Stmt → Stmt
first_of nil = nil
first_of (assign v e) = nil
first_of (seq l r) = l
first_of (par l r) = l
first_of (if e b) = b
first_of (while e b) = b

abbrev pub second_of : Stmt → Stmt
second_of nil = nil
second_of (assign v e) = nil
second_of (seq l r) = r
second_of (par l r) = r
second_of (if e b) = nil
second_of (while e b) = nil

-- How many variable occurrences in an expression are of variables with a property.
abbrev pub occurrences : (ℕ → Bool) → Expr → ℕ
occurrences p (lit c) = 0
occurrences p (var v) = cond (p v) 1 0
occurrences p (op o l r) = occurrences p l + occurrences p r

-- A search over the states of a set, or over the ends in a row of a relation, in ascending order.
unfoldable pub in_set : ℕ → (ℕ → Bool) → (ℕ → Search) → Search
in_set n p f = each n (λ s. given (p s) (f s))

-- "Same" compares members.
unfoldable pub same_set : ℕ → (ℕ → Bool) → (ℕ → Bool) → Bool
same_set n p q = all n (λ s. beq (p s) (q s))

unfoldable pub same_relation : ℕ → (ℕ → ℕ → Bool) → (ℕ → ℕ → Bool) → Bool
same_relation n r q = all n (λ s. same_set n (r s) (q s))

-- "Lies in": every member of the one is a member of the other.
unfoldable pub set_lies_in : ℕ → (ℕ → Bool) → (ℕ → Bool) → Bool
set_lies_in n p q = all n (λ s. implies (p s) (q s))

unfoldable pub relation_lies_in : ℕ → (ℕ → ℕ → Bool) → (ℕ → ℕ → Bool) → Bool
relation_lies_in n r q = all n (λ s. set_lies_in n (r s) (q s))

module _ (m : Machine) where
  -- The states at which a test is true, and those at which it is false.
  unfoldable pub is_true : Expr → ℕ → Bool
  is_true e s = ltb s m.states && is_truth true (value m e s)

  unfoldable pub is_false : Expr → ℕ → Bool
  is_false e s = ltb s m.states && is_truth false (value m e s)

  -- s', the state after an assignment's store; none if the value is no integer.
  unfoldable pub after_store : ℕ → Expr → ℕ → Option ℕ
  after_store v e s = store_of m s v (value m e s)

  -- A rely moves a variable if some pair (s,t) of R with s in P differs in it.
  unfoldable pub moves : Spec → ℕ → Bool
  moves c v = any m.states (λ s. c.P s && any m.states (λ t. c.R s t && not (eq_z (m.get s v) (m.get t v))))

unfoldable pub to_after : Option ℕ → (ℕ → Search) → Search
to_after none f = none
to_after (some s') f = named s' (f s')

-- Every node, over n states and its own tables c.
module _ (n : ℕ) (c : Spec) where
  -- 31: s in P, (s,t) in R: t in P.
  unfoldable pub c31 : Search
  c31 = in_set n c.P (λ s. in_set n (c.R s) (λ t. must (c.P t)))

  -- 32: s in P, (s,t) in R, (t,u) in Q: (s,u) in Q.
  unfoldable pub c32 : Search
  c32 = in_set n c.P (λ s. in_set n (c.R s) (λ t. in_set n (c.Q t) (λ u. must (c.Q s u))))

  -- 33: s in P, (s,t) in Q, (t,u) in R: (s,u) in Q.
  unfoldable pub c33 : Search
  c33 = in_set n c.P (λ s. in_set n (c.Q s) (λ t. in_set n (c.R t) (λ u. must (c.Q s u))))

-- The tables that a rule asks of a child, c being the node's own.
module _ (c : Spec) where
  -- If, T being the states at which the test is true: P and the test true.
  abbrev pub under_test : (ℕ → Bool) → Spec
  under_test T = record { P = λ s. c.P s && T s; R = c.R; G = c.G; Q = c.Q }

  -- While: P met with K; Q the pairs of W that end in P.
  abbrev pub in_round : (ℕ → Bool) → (ℕ → ℕ → Bool) → Spec
  in_round K W = record { P = λ s. c.P s && K s; R = c.R; G = c.G; Q = λ s t. W s t && c.P t }

  -- Parallel: R joined with the other child's G.
  abbrev pub besides : Spec → Spec
  besides other = record { P = c.P; R = λ s t. c.R s t || other.G s t; G = c.G; Q = c.Q }

-- A child's tables are the ones that are asked of it: 34 for P, 36 for R, 37 for G, 38 for Q.
module _ (n : ℕ) (asked child : Spec) where
  unfoldable pub c34 : Search
  c34 = must (same_set n child.P asked.P)

  unfoldable pub c36 : Search
  c36 = must (same_relation n child.R asked.R)

  unfoldable pub c37 : Search
  c37 = must (same_relation n child.G asked.G)

  unfoldable pub c38 : Search
  c38 = must (same_relation n child.Q asked.Q)

-- Skip 35: s in P: (s,s) in Q.
unfoldable pub c35 : ℕ → Spec → Search
c35 n c = in_set n c.P (λ s. must (c.Q s s))

module _ (m : Machine) (c : Spec) where
  -- R moves no variable of an expression.
  unfoldable pub unmoved : Expr → Bool
  unmoved e = eqb (occurrences (moves m c) e) 0

  -- Assignment, for s in P, s' being s after the store.
  -- 41: R moves no variable of the expression.
  unfoldable pub c41 : Expr → Search
  c41 e = must (unmoved e)

  -- 42: (s,s') in Q.
  unfoldable pub c42 : ℕ → Expr → Search
  c42 v e = in_set m.states c.P (λ s. to_after (after_store m v e s) (λ s'. must (c.Q s s')))

  -- 43: s' = s or (s,s') in G.
  unfoldable pub c43 : ℕ → Expr → Search
  c43 v e = in_set m.states c.P (λ s. to_after (after_store m v e s) (λ s'. must (eqb s' s || c.G s s')))

  -- If 45: R moves no variable of the test.
  unfoldable pub c45 : Expr → Search
  c45 e = must (unmoved e)

-- If 46, F being the states at which the test is false: s in P, test false: (s,s) in Q.
unfoldable pub c46 : ℕ → Spec → (ℕ → Bool) → Search
c46 n c F = in_set n c.P (λ s. given (F s) (must (c.Q s s)))

-- While 50: at most one variable occurrence in the test is of a variable that R moves.
unfoldable pub c50 : Machine → Spec → Expr → Search
c50 m c e = must (leb (occurrences (moves m c) e) 1)

-- While 51: W has no (s,s).
unfoldable pub c51 : ℕ → (ℕ → ℕ → Bool) → Search
c51 n W = each n (λ s. must (not (W s s)))

-- While 57: (s,t) in W, (t,u) in W: (s,u) in W.
unfoldable pub c57 : ℕ → (ℕ → ℕ → Bool) → Search
c57 n W = each n (λ s. in_set n (W s) (λ t. in_set n (W t) (λ u. must (W s u))))

module _ (n : ℕ) (c : Spec) where
  -- While, with its K and W, T and F being the states at which its test is true and false.
  -- 52: s in P, test true: s in K.
  unfoldable pub c52 : (ℕ → Bool) → (ℕ → Bool) → Search
  c52 T K = in_set n c.P (λ s. given (T s) (must (K s)))

  -- 53: s in P and K, (s,t) in R: t in K.
  unfoldable pub c53 : (ℕ → Bool) → Search
  c53 K = in_set n c.P (λ s. given (K s) (in_set n (c.R s) (λ t. must (K t))))

  -- 54: s in P, test false, (s,t) in R: test false at t.
  unfoldable pub c54 : (ℕ → Bool) → Search
  c54 F = in_set n c.P (λ s. given (F s) (in_set n (c.R s) (λ t. must (F t))))

  -- 55: s in P, (s,t) in R: s = t or (s,t) in W.
  unfoldable pub c55 : (ℕ → ℕ → Bool) → Search
  c55 W = in_set n c.P (λ s. in_set n (c.R s) (λ t. must (eqb s t || W s t)))

  -- 56: s in P, t = s or (s,t) in W, t in P, test false at t: (s,t) in Q.
  unfoldable pub c56 : (ℕ → Bool) → (ℕ → ℕ → Bool) → Search
  c56 F W = in_set n c.P (λ s. in_set n (λ t. (eqb t s || W s t) && c.P t && F t) (λ t. must (c.Q s t)))

  -- Sequence and parallel, over the tables of the left child and of the right.
  module _ (l r : Spec) where
    -- 60: s in P, (s,t) in left Q: t in right P.
    unfoldable pub c60 : Search
    c60 = in_set n c.P (λ s. in_set n (l.Q s) (λ t. must (r.P t)))

    -- 61: s in P, (s,t) in left Q, (t,u) in right Q: (s,u) in Q.
    unfoldable pub c61 : Search
    c61 = in_set n c.P (λ s. in_set n (l.Q s) (λ t. in_set n (r.Q t) (λ u. must (c.Q s u))))

    -- 65: both children's G lie in G.
    unfoldable pub c65 : Search
    c65 = must (relation_lies_in n l.G c.G && relation_lies_in n r.G c.G)

    -- 66: s in P, (s,t) in both children's Q, t reached from s by zero or more pairs of R or either child's G: (s,t) in Q.
    unfoldable pub c66 : Search
    c66 =
        in_set n c.P (λ s. in_set n (λ t. l.Q s t && r.Q s t && reach n (λ a b. c.R a b || l.G a b || r.G a b) s t)
        (λ t. must (c.Q s t)))

  -- Weaken, over the child's tables.
  module _ (d : Spec) where
    -- 70: P lies in the child's P.
    unfoldable pub c70 : Search
    c70 = must (set_lies_in n c.P d.P)

    -- 71: R in the child's R.
    unfoldable pub c71 : Search
    c71 = must (relation_lies_in n c.R d.R)

    -- 72: the child's G in G.
    unfoldable pub c72 : Search
    c72 = must (relation_lies_in n d.G c.G)

    -- 73: the child's Q in Q.
    unfoldable pub c73 : Search
    c73 = must (relation_lies_in n d.Q c.Q)
