-- What the executable conditions mean: if the search finds no breach, the condition holds in its logical form.
use Prim.Native.Nat.{ℕ, ◌≤◌, ◌<◌}
use mathlib.Core.Path.{◌≡◌, refl, sym, ◌∙◌, ap}
use mathlib.Core.Bool.{Bool, true, false, ◌&&◌, ◌||◌, false≢true}
use mathlib.Core.Logic.{◌⊎◌, inl, inr, ⊎_elim, ⊎_map}
use mathlib.Core.Option.{Option, none, some, none-ne-some}
use lib.Dec.{leb, ltb, eqb}
use lib.IntN.{ℤ, pos, negsuc}
use borrow.Author.Tests.{ltb-true, lt-ltb, leb-true, eqb-true, eq-eqb, not-true, not-false}
use native.Mathlib.Nat.{le_antisymm}
use Rattle.states.specs.Search.{Search, must, named}
use Rattle.states.specs.Relations.{Reached, here, more, reach}
use Rattle.states.proofs.Search.{and_left, and_right, and_both, or_left, or_right, or_cases, implies_at, all_at, any_at, beq_true, must_none, given_none, each_none}
use Rattle.states.proofs.Reach.{Between, reach_exact}
use Rattle.semantics.specs.declared.Names.{Names}
use Rattle.semantics.specs.Language.{Val, int, truth, Expr, eq_z}
use Rattle.semantics.specs.States.{Machine, value, is_truth}
use Rattle.semantics.specs.Derivations.{Tables, Spec, set_of, relation_of, spec_of}
use Rattle.semantics.specs.Conditions.{occurrences, in_set, same_set, same_relation, set_lies_in, relation_lies_in, is_true, is_false, after_store, to_after, moves, unmoved, c31, c32, c33, c35, c41, c42, c43, c45, c46, c50, c51, c52, c53, c54, c55, c56, c57, c60, c61, c66}
use Rattle.semantics.proofs.Safe.{Star, stay, then}
use Rattle.semantics.proofs.Composition.{Change}
use Rattle.semantics.proofs.Descent.{Descending}
use Rattle.semantics.proofs.Reading.{Stable}

-- The tables of a node have states below N only.
pub record TablesWithin (N : ℕ) (c : Spec) : Type 0 where
  pub P-in : (s : ℕ) → c.P s ≡ true → s < N
  pub R-in : Between N c.R
  pub G-in : Between N c.G
  pub Q-in : Between N c.Q

pub set_in : (t : Tables) (i s : ℕ) → set_of t i s ≡ true → s < t.machine.states
set_in t i s h = ltb-true s _ (and_left (ltb s _) _ h)

pub relation_in : (t : Tables) (i : ℕ) → Between t.machine.states (relation_of t i)
relation_in t i s u h =
    let both = and_left (ltb s t.machine.states && ltb u t.machine.states) _ h in
    (ltb-true s _ (and_left (ltb s _) _ both), ltb-true u _ (and_right (ltb s t.machine.states) _ both))

pub tables_within : (t : Tables) (h : Names) → TablesWithin t.machine.states (spec_of t h)
tables_within t h = record { P-in = set_in t h.p; R-in = relation_in t h.r; G-in = relation_in t h.g; Q-in = relation_in t h.q }

-- `is_truth b` passes for the value `truth b` only.
pub is_truth_lem : (b : Bool) (o : Option Val) → is_truth b o ≡ true → o ≡ some (truth b)
is_truth_lem b none h = absurd (false≢true h)
is_truth_lem b (some (int z)) h = absurd (false≢true h)
is_truth_lem true (some (truth c)) h = ap (λ x. some (truth x)) h
is_truth_lem false (some (truth true)) h = absurd (false≢true h)
is_truth_lem false (some (truth false)) h = refl

pub truth_is : (b : Bool) (o : Option Val) → o ≡ some (truth b) → is_truth b o ≡ true
truth_is true o h = rw h
truth_is false o h = rw h

pub eq_z_true : (a b : ℤ) → eq_z a b ≡ true → a ≡ b
eq_z_true (pos a) (pos b) h = ap pos (le_antisymm (leb-true a b (and_left (leb a b) _ h)) (leb-true b a (and_right (leb a b) _ h)))
eq_z_true (pos a) (negsuc b) h = absurd (false≢true h)
eq_z_true (negsuc a) (pos b) h = absurd (false≢true h)
eq_z_true (negsuc a) (negsuc b) h = ap negsuc (le_antisymm (leb-true a b (and_right (leb b a) _ h)) (leb-true b a (and_left (leb b a) _ h)))

unnamed : (s : ℕ) (x : Search) → named s x ≡ none → x ≡ none
unfolding named
unnamed s none h = refl
unnamed s (some found) h = absurd (none-ne-some _ (sym h))

module _ (m : Machine) where
  -- If a search over a set of states finds no breach, there is none at any member.
  pub at_member : (p : ℕ → Bool) (f : ℕ → Search) → ((s : ℕ) → p s ≡ true → s < m.states) → in_set m.states p f ≡ none
      → (s : ℕ) → p s ≡ true → f s ≡ none
  unfolding in_set
  at_member p f below e s h = given_none (p s) (f s) (each_none m.states _ e s (below s h)) h

  pub same_set_lem : (p q : ℕ → Bool) → same_set m.states p q ≡ true → (s : ℕ) → s < m.states → p s ≡ q s
  unfolding same_set
  same_set_lem p q h s l = beq_true _ _ (all_at m.states _ h s l)

  pub same_relation_lem : (r q : ℕ → ℕ → Bool) → same_relation m.states r q ≡ true → (s t : ℕ) → s < m.states → t < m.states → r s t ≡ q s t
  unfolding same_relation
  same_relation_lem r q h s t l k = same_set_lem (r s) (q s) (all_at m.states _ h s l) t k

  pub set_lies_in_lem : (p q : ℕ → Bool) → ((s : ℕ) → p s ≡ true → s < m.states) → set_lies_in m.states p q ≡ true
      → (s : ℕ) → p s ≡ true → q s ≡ true
  unfolding set_lies_in
  set_lies_in_lem p q below h s x = implies_at (p s) (q s) (all_at m.states _ h s (below s x)) x

  pub lies_in : (r q : ℕ → ℕ → Bool) → Between m.states r → relation_lies_in m.states r q ≡ true
      → (s t : ℕ) → r s t ≡ true → q s t ≡ true
  unfolding relation_lies_in
  lies_in r q inside h s t x =
      set_lies_in_lem (r s) (q s) (λ u y. (inside s u y).1) (all_at m.states _ h s (inside s t x).0) t x

  module _ (c : Spec) (w : TablesWithin m.states c) where
    pub says31 : c31 m.states c ≡ none → (s t : ℕ) → c.P s ≡ true → c.R s t ≡ true → c.P t ≡ true
    unfolding c31
    says31 e s t p r = must_none _ (at_member (c.R s) _ (λ u x. (w.R-in s u x).1) (at_member c.P _ w.P-in e s p) t r)

    pub says32 : c32 m.states c ≡ none → (s t u : ℕ) → c.P s ≡ true → c.R s t ≡ true → c.Q t u ≡ true → c.Q s u ≡ true
    unfolding c32
    says32 e s t u p r q =
        must_none _ (at_member (c.Q t) _ (λ x h. (w.Q-in t x h).1)
        (at_member (c.R s) _ (λ x h. (w.R-in s x h).1) (at_member c.P _ w.P-in e s p) t r) u q)

    pub says33 : c33 m.states c ≡ none → (s t u : ℕ) → c.P s ≡ true → c.Q s t ≡ true → c.R t u ≡ true → c.Q s u ≡ true
    unfolding c33
    says33 e s t u p q r =
        must_none _ (at_member (c.R t) _ (λ x h. (w.R-in t x h).1)
        (at_member (c.Q s) _ (λ x h. (w.Q-in s x h).1) (at_member c.P _ w.P-in e s p) t q) u r)

    pub says35 : c35 m.states c ≡ none → (s : ℕ) → c.P s ≡ true → c.Q s s ≡ true
    unfolding c35
    says35 e s p = must_none _ (at_member c.P _ w.P-in e s p)

    -- 31, and that a variable keeps its value if R does not move it.
    pub stable : c31 m.states c ≡ none → Stable m (λ s. c.P s ≡ true) (λ s t. c.R s t ≡ true) (moves m c)
    unfolding moves
    stable e = record {
      closed = says31 e;
      fixed = λ v still s t p r.
          let at-s = any_at m.states _ still s (w.P-in s p) in
          let ends = by (c.P s) _ p at-s in
          let at-t = any_at m.states _ ends t (w.R-in s t r).1 in
          eq_z_true _ _ (not-false _ (by (c.R s t) _ r at-t));
    }
      where
        by : (a b : Bool) → a ≡ true → (a && b) ≡ false → b ≡ false
        by true b h e = e
        by false b h e = absurd (false≢true h)

    pub says41 : (e : Expr) → c41 m c e ≡ none → occurrences (moves m c) e ≡ 0
    unfolding c41 unmoved
    says41 e h = eqb-true _ 0 (must_none _ h)

    -- What 42 and 43 ask of the state after a store, where the value is an integer.
    at_store : (v : ℕ) (e : Expr) (q : ℕ → ℕ → Bool) → in_set m.states c.P (λ s. to_after (after_store m v e s) (λ s'. must (q s s'))) ≡ none
        → (s : ℕ) (z : ℤ) → c.P s ≡ true → value m e s ≡ some (int z) → q s (m.store s v z) ≡ true
    unfolding after_store to_after
    at_store v e q h s z p is = must_none _ (unnamed _ _ (rw is at (at_member c.P _ w.P-in h s p)))

    pub says42 : (v : ℕ) (e : Expr) → c42 m c v e ≡ none → (s : ℕ) (z : ℤ) → c.P s ≡ true → value m e s ≡ some (int z)
        → c.Q s (m.store s v z) ≡ true
    unfolding c42
    says42 v e = at_store v e c.Q

    pub says43 : (v : ℕ) (e : Expr) → c43 m c v e ≡ none → (s : ℕ) (z : ℤ) → c.P s ≡ true → value m e s ≡ some (int z)
        → (m.store s v z ≡ s) ⊎ (c.G s (m.store s v z) ≡ true)
    unfolding c43
    says43 v e h s z p is =
        ⊎_map (eqb-true _ s) (λ x. x) (or_cases (eqb (m.store s v z) s) _ (at_store v e (λ s s'. eqb s' s || c.G s s') h s z p is))

    -- The value of a test at a state of P, as membership in the states at which it is true or false.
    pub true_at : (e : Expr) (s : ℕ) → c.P s ≡ true → value m e s ≡ some (truth true) → is_true m e s ≡ true
    unfolding is_true
    true_at e s p is = and_both _ _ (lt-ltb s _ (w.P-in s p)) (truth_is true _ is)

    pub false_at : (e : Expr) (s : ℕ) → c.P s ≡ true → value m e s ≡ some (truth false) → is_false m e s ≡ true
    unfolding is_false
    false_at e s p is = and_both _ _ (lt-ltb s _ (w.P-in s p)) (truth_is false _ is)

    pub says45 : (e : Expr) → c45 m c e ≡ none → occurrences (moves m c) e ≡ 0
    unfolding c45 unmoved
    says45 e h = eqb-true _ 0 (must_none _ h)

    pub says46 : (e : Expr) → c46 m.states c (is_false m e) ≡ none → (s : ℕ) → c.P s ≡ true → value m e s ≡ some (truth false) → c.Q s s ≡ true
    unfolding c46
    says46 e h s p is = must_none _ (given_none _ _ (at_member c.P _ w.P-in h s p) (false_at e s p is))

    -- While, with its K and W.
    pub says50 : (e : Expr) → c50 m c e ≡ none → occurrences (moves m c) e ≤ 1
    unfolding c50
    says50 e h = leb-true _ 1 (must_none _ h)

    -- 51 and 57: W descends.
    pub descending : (W : ℕ → ℕ → Bool) → Between m.states W → c51 m.states W ≡ none → c57 m.states W ≡ none
        → Descending m.states (λ s t. W s t ≡ true)
    unfolding c51 c57
    descending W W-in apart joined =
        record {
          transitive = λ s t u a b. must_none _ (at_member (W t) _ (λ x i. (W-in t x i).1)
              (at_member (W s) _ (λ x i. (W-in s x i).1) (each_none m.states _ joined s (W-in s t a).0) t a) u b);
          irreflexive = λ s a. false≢true (sym (not-true _ (must_none _ (each_none m.states _ apart s (W-in s s a).0))) ∙ a);
          bounded = λ s t a. (W-in s t a).1;
        }

    pub says52 : (e : Expr) (K : ℕ → Bool) → c52 m.states c (is_true m e) K ≡ none → (s : ℕ) → c.P s ≡ true → value m e s ≡ some (truth true) → K s ≡ true
    unfolding c52
    says52 e K h s p is = must_none _ (given_none _ _ (at_member c.P _ w.P-in h s p) (true_at e s p is))

    pub says53 : (K : ℕ → Bool) → c53 m.states c K ≡ none → (s t : ℕ) → c.P s ≡ true → K s ≡ true → c.R s t ≡ true → K t ≡ true
    unfolding c53
    says53 K h s t p k r =
        must_none _ (at_member (c.R s) _ (λ x i. (w.R-in s x i).1) (given_none _ _ (at_member c.P _ w.P-in h s p) k) t r)

    pub says54 : (e : Expr) → c54 m.states c (is_false m e) ≡ none → (s t : ℕ) → c.P s ≡ true → value m e s ≡ some (truth false) → c.R s t ≡ true
        → value m e t ≡ some (truth false)
    unfolding c54 is_false
    says54 e h s t p is r =
        is_truth_lem false _ (and_right (ltb t m.states) _ (must_none _ (at_member (c.R s) _ (λ x i. (w.R-in s x i).1)
        (given_none _ _ (at_member c.P _ w.P-in h s p) (false_at e s p is)) t r)))

    pub says55 : (W : ℕ → ℕ → Bool) → c55 m.states c W ≡ none → (s t : ℕ) → c.P s ≡ true → c.R s t ≡ true → (s ≡ t) ⊎ (W s t ≡ true)
    unfolding c55
    says55 W h s t p r =
        ⊎_map (eqb-true s t) (λ x. x) (or_cases (eqb s t) _
        (must_none _ (at_member (c.R s) _ (λ x i. (w.R-in s x i).1) (at_member c.P _ w.P-in h s p) t r)))

    pub says56 : (e : Expr) (W : ℕ → ℕ → Bool) → c56 m.states c (is_false m e) W ≡ none → (s t : ℕ) → c.P s ≡ true → (t ≡ s) ⊎ (W s t ≡ true) → c.P t ≡ true
        → value m e t ≡ some (truth false) → c.Q s t ≡ true
    unfolding c56
    says56 e W h s t p near p-t is =
        must_none _ (at_member _ _ (λ x i. w.P-in x (and_right (eqb x s || W s x) _ (and_left _ (is_false m e x) i)))
        (at_member c.P _ w.P-in h s p) t
        (and_both _ _ (and_both _ _ (⊎_elim (λ x. or_left _ _ (eq-eqb t s x)) (or_right (eqb t s) _) near) p-t) (false_at e t p-t is)))

    -- Sequence and parallel, with the children's tables.
    module _ (l r : Spec) (wl : TablesWithin m.states l) (wr : TablesWithin m.states r) where
      pub says60 : c60 m.states c l r ≡ none → (s t : ℕ) → c.P s ≡ true → l.Q s t ≡ true → r.P t ≡ true
      unfolding c60
      says60 h s t p q = must_none _ (at_member (l.Q s) _ (λ x i. (wl.Q-in s x i).1) (at_member c.P _ w.P-in h s p) t q)

      pub says61 : c61 m.states c l r ≡ none → (s t u : ℕ) → c.P s ≡ true → l.Q s t ≡ true → r.Q t u ≡ true → c.Q s u ≡ true
      unfolding c61
      says61 h s t u p q q' =
          must_none _ (at_member (r.Q t) _ (λ x i. (wr.Q-in t x i).1)
          (at_member (l.Q s) _ (λ x i. (wl.Q-in s x i).1) (at_member c.P _ w.P-in h s p) t q) u q')

      -- The changes that others or either side may make: the pairs of 66.
      anyone : ℕ → ℕ → Bool
      anyone a b = c.R a b || l.G a b || r.G a b

      anyone_in : Between m.states anyone
      unfolding anyone
      anyone_in a b h =
          ⊎_elim (λ x. ⊎_elim (w.R-in a b) (wl.G-in a b) (or_cases (c.R a b) _ x)) (wr.G-in a b) (or_cases (c.R a b || l.G a b) _ h)

      reached : (s : ℕ) {t u : ℕ} → Reached (eqb s) anyone t → Star (Change (λ a b. c.R a b ≡ true) (λ a b. l.G a b ≡ true) (λ a b. r.G a b ≡ true)) t u
          → Reached (eqb s) anyone u
      unfolding anyone
      reached s before stay = before
      reached s before (then {s = a} {t = b} (inl x) rest) = reached s (more before (or_left _ (r.G a b) (or_left _ (l.G a b) x))) rest
      reached s before (then {s = a} {t = b} (inr (inl x)) rest) = reached s (more before (or_left _ (r.G a b) (or_right (c.R a b) _ x))) rest
      reached s before (then {s = a} {t = b} (inr (inr x)) rest) = reached s (more before (or_right (c.R a b || l.G a b) _ x)) rest

      pub says66 : c66 m.states c l r ≡ none → (s t : ℕ) → c.P s ≡ true
          → Star (Change (λ a b. c.R a b ≡ true) (λ a b. l.G a b ≡ true) (λ a b. r.G a b ≡ true)) s t
          → l.Q s t ≡ true → r.Q s t ≡ true → c.Q s t ≡ true
      unfolding c66 anyone
      says66 h s t p way q q' =
          must_none _ (at_member _ _ (λ x i. (wl.Q-in s x (and_left _ (r.Q s x) (and_left _ (reach m.states anyone s x) i))).1)
          (at_member c.P _ w.P-in h s p) t
          (and_both _ _ (and_both _ _ q q') ((reach_exact m.states anyone anyone_in s t).1 (reached s (here (eq-eqb s s refl)) way))))
