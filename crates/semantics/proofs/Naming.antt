-- Which states come with a refusal: as many as its number names, each one of the n states.
use Prim.Native.Nat.{ℕ, zero, suc, ◌+◌, ◌≤◌, ◌<◌}
use mathlib.Core.Path.{◌≡◌, refl, ap}
use mathlib.Core.Bool.{Bool, true, false}
use mathlib.Core.List.{List, [], ◌∷◌, ◌++◌}
use mathlib.Core.Option.{Option, none, some}
use native.Mathlib.Omega.{arith}
use native.Mathlib.Nat.{le_trans}
use lib.IntN.{ℤ}
use lib.ListN.{length}
use Rattle.states.specs.Search.{Search, must, given, named, or_else, each}
use Rattle.semantics.specs.Language.{Val, int, truth, Expr, Stmt}
use Rattle.semantics.specs.States.{Machine, value, store_of}
use Rattle.semantics.specs.Derivations.{Derivation, skip, assignment, sequence, parallel, conditional, iteration, weaken, nodes, Tables, Spec}
use Rattle.semantics.specs.Conditions.{first_of, second_of, in_set, after_store, to_after, c31, c32, c33, c34, c35, c36, c37, c38, c41, c42, c43, c45, c46, c50, c51, c52, c53, c54, c55, c56, c57, c60, c61, c65, c66, c70, c71, c72, c73}
use Rattle.semantics.specs.Facts.{states_named}
use Rattle.semantics.specs.Checking.{Condition, Breach, Broken, or_breach, first_broken, or_broken, at_node, stability, common, obligations, first_fault}

-- A list of so many of the n states.
pub data Named (n : ℕ) : ℕ → List ℕ → Type 0 where
  nothing : Named n 0 []
  state : {k s : ℕ} {rest : List ℕ} → s < n → Named n k rest → Named n (suc k) (s ∷ rest)

pub named_length : {n k : ℕ} {states : List ℕ} → Named n k states → length states ≡ k
named_length nothing = refl
named_length (state low rest) = ap suc (named_length rest)

pub named_within : {n m k : ℕ} {states : List ℕ} → n ≤ m → Named n k states → Named m k states
named_within most nothing = nothing
named_within most (state low rest) = state (le_trans low most) (named_within most rest)

-- What a search finds, if anything, is such a list.
abbrev pub Finds : ℕ → ℕ → Search → Type 0
Finds n k none = Unit {0}
Finds n k (some states) = Named n k states

module _ (n : ℕ) where
  must_finds : (b : Bool) → Finds n 0 (must b)
  unfolding must
  must_finds true = tt
  must_finds false = nothing

  given_finds : (k : ℕ) (b : Bool) (x : Search) → Finds n k x → Finds n k (given b x)
  unfolding given
  given_finds k true x p = p
  given_finds k false x p = tt

  named_finds : (k s : ℕ) (x : Search) → s < n → Finds n k x → Finds n (suc k) (named s x)
  unfolding named
  named_finds k s none l p = tt
  named_finds k s (some rest) l p = state l p

  or_finds : (k : ℕ) (x y : Search) → Finds n k x → Finds n k y → Finds n k (or_else x y)
  unfolding or_else
  or_finds k none y p q = q
  or_finds k (some found) y p q = p

  each_finds : (k : ℕ) (f : ℕ → Search) → ((s : ℕ) → s < n → Finds n k (f s)) → Finds n (suc k) (each n f)
  unfolding each
  each_finds k f h = up n (λ s l. l)
    where
      up : (j : ℕ) → ((s : ℕ) → s < j → s < n) → Finds n (suc k) (each j f)
      up zero low = tt
      up (suc j) low =
          or_finds (suc k) (each j f) (named j (f j)) (up j (λ s l. low s (omega arith)))
          (named_finds k j (f j) (low j (omega arith)) (h j (low j (omega arith))))

  in_set_finds : (k : ℕ) (p : ℕ → Bool) (f : ℕ → Search) → ((s : ℕ) → s < n → Finds n k (f s)) → Finds n (suc k) (in_set n p f)
  unfolding in_set
  in_set_finds k p f h = each_finds k _ (λ s l. given_finds k (p s) (f s) (h s l))

  -- One state, a pair, a chain of two pairs.
  pub one : (p q : ℕ → Bool) → Finds n 1 (in_set n p (λ s. must (q s)))
  one p q = in_set_finds 0 p _ (λ s l. must_finds (q s))

  -- As `one` and `two`, with a further set in which s must be.
  one_in : (p x q : ℕ → Bool) → Finds n 1 (in_set n p (λ s. given (x s) (must (q s))))
  one_in p x q = in_set_finds 0 p _ (λ s l. given_finds 0 (x s) _ (must_finds (q s)))

  pub two : (p : ℕ → Bool) (r q : ℕ → ℕ → Bool) → Finds n 2 (in_set n p (λ s. in_set n (r s) (λ t. must (q s t))))
  two p r q = in_set_finds 1 p _ (λ s l. one (r s) (q s))

  two_in : (p x : ℕ → Bool) (r q : ℕ → ℕ → Bool) → Finds n 2 (in_set n p (λ s. given (x s) (in_set n (r s) (λ t. must (q s t)))))
  two_in p x r q = in_set_finds 1 p _ (λ s l. given_finds 1 (x s) _ (one (r s) (q s)))

  three : (p : ℕ → Bool) (a b q : ℕ → ℕ → Bool) → Finds n 3 (in_set n p (λ s. in_set n (a s) (λ t. in_set n (b t) (λ u. must (q s u)))))
  three p a b q = in_set_finds 2 p _ (λ s l. two (a s) b (λ t u. q s u))

-- Each condition names as many states as its number says, if a store leads from one of the states to another.
data AllFind (n : ℕ) : List Condition → Type 0 where
  no_more : AllFind n []
  next : {c : Condition} {rest : List Condition} → Finds n (states_named c.number) c.breach → AllFind n rest → AllFind n (c ∷ rest)

abbrev pub Stores : Machine → Type 0
Stores m = (s v : ℕ) (z : ℤ) → s < m.states → m.store s v z < m.states

module _ (m : Machine) (stores : Stores m) where
  -- A store's end.
  after_finds : (s : ℕ) → s < m.states → (v : ℕ) (x : Option Val) (q : ℕ → Bool) → Finds m.states 1 (to_after (store_of m s v x) (λ s'. must (q s')))
  unfolding to_after
  after_finds s l v none q = tt
  after_finds s l v (some (truth b)) q = tt
  after_finds s l v (some (int z)) q = named_finds m.states 0 _ (must (q _)) (stores s v z l) (must_finds m.states (q _))

  ends : (p : ℕ → Bool) (v : ℕ) (e : Expr) (q : ℕ → ℕ → Bool) → Finds m.states 2 (in_set m.states p (λ s. to_after (after_store m v e s) (λ s'. must (q s s'))))
  unfolding after_store
  ends p v e q = in_set_finds m.states 1 p _ (λ s l. after_finds s l v (value m e s) (q s))

module _ (t : Tables) (stores : Stores t.machine) where
  abbrev N : ℕ
  N = t.machine.states

  -- 31 to 33, and then the rest.
  steady : (c : Spec) {rest : List Condition} → AllFind N rest → AllFind N (stability N c ++ rest)
  unfolding c31 c32 c33
  steady c p = next (two N _ _ _) (next (three N _ _ _ _) (next (three N _ _ _ _) p))

  -- 30 to 33, and then the rest.
  shared : (fits : Bool) (c : Spec) {rest : List Condition} → AllFind N rest → AllFind N (common N fits c ++ rest)
  shared fits c p = next (must_finds N fits) (steady c p)

  own : (d : Derivation) (S : Stmt) → AllFind N (obligations t d S)
  unfolding c34 c35 c36 c37 c38 c41 c42 c43 c45 c46 c50 c51 c52 c53 c54 c55 c56 c57 c60 c61 c65 c66 c70 c71 c72 c73
  own (skip h) S = shared _ _ (next (one N _ _) no_more)
  own (assignment h) S =
      next (must_finds N _) (next (must_finds N _) (steady _
      (next (ends t.machine stores _ _ _ _) (next (ends t.machine stores _ _ _ _) no_more))))
  own (sequence h l r) S =
      shared _ _ (next (must_finds N _) (next (must_finds N _) (next (must_finds N _) (next (must_finds N _) (next (must_finds N _)
      (next (two N _ _ _) (next (three N _ _ _ _) no_more)))))))
  own (parallel h l r) S =
      shared _ _ (next (must_finds N _) (next (must_finds N _) (next (must_finds N _) (next (must_finds N _) (next (must_finds N _)
      (next (two N _ _ _) no_more))))))
  own (conditional h d) S =
      next (must_finds N _) (next (must_finds N _) (steady _
      (next (must_finds N _) (next (must_finds N _) (next (must_finds N _) (next (must_finds N _) (next (one_in N _ _ _) no_more)))))))
  own (iteration h k w d) S =
      shared _ _ (next (must_finds N _) (next (must_finds N _) (next (must_finds N _) (next (must_finds N _) (next (must_finds N _)
      (next (each_finds N 0 _ (λ s l. must_finds N _)) (next (each_finds N 2 _ (λ s l. two N _ _ _)) (next (one_in N _ _ _)
      (next (two_in N _ _ _ _) (next (two_in N _ _ _ _) (next (two N _ _ _) (next (two N _ _ _) no_more))))))))))))
  own (weaken h d) S = shared _ _ (next (must_finds N _) (next (must_finds N _) (next (must_finds N _) (next (must_finds N _) no_more))))

  abbrev BreachNames : Option Breach → Type 0
  BreachNames none = Unit {0}
  BreachNames (some b) = Named N (states_named b.number) b.states

  first_names : (cs : List Condition) → AllFind N cs → BreachNames (first_broken cs)
  first_names [] no_more = tt
  first_names (c ∷ rest) (next p more) = by c.breach p (first_names rest more)
    where
      by : (x : Search) → Finds N (states_named c.number) x → BreachNames (first_broken rest) → BreachNames (or_breach c.number x (first_broken rest))
      by none own later = later
      by (some found) own later = own

  unfoldable pub FaultNames : Option Broken → Type 0
  FaultNames none = Unit {0}
  FaultNames (some b) = Named N (states_named b.number) b.states

  at_names : (d : Derivation) (S : Stmt) (n : ℕ) → FaultNames (at_node n (first_broken (obligations t d S)))
  unfolding FaultNames
  at_names d S n = by (first_broken (obligations t d S)) (first_names (obligations t d S) (own d S))
    where
      by : (o : Option Breach) → BreachNames o → FaultNames (at_node n o)
      by none p = tt
      by (some b) p = p

  then : (x y : Option Broken) → FaultNames x → FaultNames y → FaultNames (or_broken x y)
  unfolding FaultNames
  then none y p q = q
  then (some b) y p q = p

  -- A node and what is below it.
  at_first : (d : Derivation) (S : Stmt) (n : ℕ) (below : Option Broken) → FaultNames below → FaultNames (or_broken (at_node n (first_broken (obligations t d S))) below)
  at_first d S n below p = then (at_node n (first_broken (obligations t d S))) below (at_names d S n) p

  -- Every fault of a derivation.
  pub fault_names : (d : Derivation) (S : Stmt) (n : ℕ) → FaultNames (first_fault t d S n)
  fault_names (skip h) S n = at_names (skip h) S n
  fault_names (assignment h) S n = at_names (assignment h) S n
  fault_names (sequence h l r) S n = at_first (sequence h l r) S n _ (then (first_fault t l (first_of S) (suc n)) _ (fault_names l (first_of S) (suc n)) (fault_names r (second_of S) (suc n + nodes l)))
  fault_names (parallel h l r) S n = at_first (parallel h l r) S n _ (then (first_fault t l (first_of S) (suc n)) _ (fault_names l (first_of S) (suc n)) (fault_names r (second_of S) (suc n + nodes l)))
  fault_names (conditional h d) S n = at_first (conditional h d) S n _ (fault_names d (first_of S) (suc n))
  fault_names (iteration h k w d) S n = at_first (iteration h k w d) S n _ (fault_names d (first_of S) (suc n))
  fault_names (weaken h d) S n = at_first (weaken h d) S n _ (fault_names d S (suc n))
