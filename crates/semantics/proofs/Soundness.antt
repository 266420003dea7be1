-- What acceptance promises (docs/RULES.md). Each node's conditions make its statement safe for its step number, by induction on
-- the derivation; a safe statement keeps the promise over every list of events.
use Prim.Native.Nat.{ℕ, suc, ◌+◌, ◌-◌, ◌*◌, ◌<◌}
use mathlib.Core.Path.{◌≡◌, sym, ◌∙◌, subst}
use mathlib.Core.Bool.{Bool, true}
use mathlib.Core.Option.{none}
use native.Mathlib.Omega.{arith}
use native.Mathlib.Nat.{le_refl}
use lib.Dec.{eqb}
use Rattle.states.specs.Search.{must}
use Rattle.states.proofs.Search.{and_left, and_right, and_both, or_left, or_right, must_none}
use Rattle.states.proofs.Reach.{Between, joined_between}
use Rattle.semantics.specs.declared.Kind.TheVariants.{Truth}
use Rattle.semantics.specs.Language.{Expr, Stmt, seq, par, if, while, fits, kinds_fit}
use Rattle.semantics.specs.States.{Machine}
use Rattle.semantics.specs.StepNumber.{E, steps}
use Rattle.semantics.specs.Derivations.{Derivation, skip, assignment, sequence, parallel, conditional, iteration, weaken, names_of, nodes, Tables, Spec, set_of, relation_of, spec_of}
use Rattle.semantics.specs.Conditions.{statement_code, target_of, expr_of, first_of, second_of, occurrences, relation_lies_in, is_true, is_false, moves, under_test, in_round, besides, c31, c32, c33, c34, c36, c37, c38, c45, c46, c50, c51, c52, c53, c54, c55, c56, c57, c60, c61, c65, c66, c70, c71, c72, c73}
use Rattle.semantics.specs.Checking.{body_tables, sequence_tables, parallel_tables, obligations, first_fault}
use Rattle.semantics.specs.Promise.{Promise}
use Rattle.semantics.proofs.Safe.{stay, star_keeps, Safe, safe_weaken}
use Rattle.semantics.proofs.Composition.{safe_nil, safe_seq, safe_par}
use Rattle.semantics.proofs.Rules.{Undisturbed, rule_assign, rule_if, rule_while}
use Rattle.semantics.proofs.Values.{fits_integer, fits_truth}
use Rattle.semantics.proofs.Conditions.{TablesWithin, tables_within, relation_in, true_at, same_set_lem, same_relation_lem, set_lies_in_lem, lies_in, says32, says33, says35, stable, says41, says42, says43, says45, says46, says50, descending, says52, says53, says54, says55, says56, says60, says61, says66}
use Rattle.semantics.proofs.Runs.{promise}
use Rattle.semantics.proofs.Clear.{Clear, clear, no_breach, neither, made, says30}

module _ (m : Machine) where
  -- A statement that is safe under a node's rely, guarantee and postcondition.
  abbrev SafeAt : Spec → ℕ → Stmt → ℕ → Type 0
  SafeAt c n S s = Safe m (λ a b. c.R a b ≡ true) (λ a b. c.G a b ≡ true) (λ u. c.Q s u ≡ true) n S s

  -- What assignment and if share, from 31 to 33 and from 41 or 45.
  undisturbed : (c : Spec) → TablesWithin m.states c → (e : Expr) → c31 m.states c ≡ none → c32 m.states c ≡ none → c33 m.states c ≡ none → occurrences (moves m c) e ≡ 0
      → Undisturbed m (λ s. c.P s ≡ true) (λ a b. c.R a b ≡ true) (λ a b. c.Q a b ≡ true) (moves m c) e
  undisturbed c w e e31 e32 e33 still =
      record { stable = stable m c w e31; before = says32 m c w e32; after = says33 m c w e33; unmoved = still }

  -- 34 and 36 to 38: what a child's tables are, by those that are asked of it.
  module _ (asked d : Spec) where
    enters : ((s : ℕ) → asked.P s ≡ true → s < m.states) → c34 m.states asked d ≡ none → (s : ℕ) → asked.P s ≡ true → d.P s ≡ true
    unfolding c34
    enters below e s h = same_set_lem m d.P asked.P (must_none _ e) s (below s h) ∙ h

    rely : Between m.states asked.R → c36 m.states asked d ≡ none → (s t : ℕ) → asked.R s t ≡ true → d.R s t ≡ true
    unfolding c36
    rely bounds e s t h = same_relation_lem m d.R asked.R (must_none _ e) s t (bounds s t h).0 (bounds s t h).1 ∙ h

    guarantee : Between m.states d.G → c37 m.states asked d ≡ none → (s t : ℕ) → d.G s t ≡ true → asked.G s t ≡ true
    unfolding c37
    guarantee bounds e s t h = sym (same_relation_lem m d.G asked.G (must_none _ e) s t (bounds s t h).0 (bounds s t h).1) ∙ h

    post : Between m.states d.Q → c38 m.states asked d ≡ none → (s t : ℕ) → d.Q s t ≡ true → asked.Q s t ≡ true
    unfolding c38
    post bounds e s t h = sym (same_relation_lem m d.Q asked.Q (must_none _ e) s t (bounds s t h).0 (bounds s t h).1) ∙ h

  if_safe : (c d : Spec) → TablesWithin m.states c → TablesWithin m.states d → (e : Expr) (b : Stmt) (n : ℕ) → fits Truth e ≡ true
      → c31 m.states c ≡ none → c32 m.states c ≡ none → c33 m.states c ≡ none
      → Clear (body_tables m.states (under_test c (is_true m e)) d)
      → c45 m c e ≡ none → c46 m.states c (is_false m e) ≡ none
      → ((s : ℕ) → d.P s ≡ true → SafeAt d n b s) → (s : ℕ) → c.P s ≡ true → SafeAt c (E e + 1 + n) (if e b) s
  if_safe c d w wd e b n kinds e31 e32 e33 (e34, (e36, (e37, (e38, _)))) e45 e46 body =
      let asked = under_test c (is_true m e) in
      let in-child = enters asked d (λ s h. w.P-in s (and_left (c.P s) _ h)) e34 in
      rule_if (record {
        undisturbed = undisturbed c w e e31 e32 e33 (says45 m c w e e45);
        decided = λ s p. fits_truth m e s kinds;
        body = λ s p is. safe_weaken (rely asked d w.R-in e36) (guarantee asked d wd.G-in e37) (post asked d wd.Q-in e38 s) (le_refl n)
            (body s (in-child s (and_both (c.P s) _ p (true_at m c w e s p is))));
        skips = says46 m c w e e46;
      })

  while_safe : (c d : Spec) → TablesWithin m.states c → TablesWithin m.states d → (e : Expr) (b : Stmt) (n : ℕ) → fits Truth e ≡ true
      → (K : ℕ → Bool) (W : ℕ → ℕ → Bool) (W-in : Between m.states W)
      → c31 m.states c ≡ none → Clear (body_tables m.states (in_round c K W) d)
      → c50 m c e ≡ none → c51 m.states W ≡ none → c57 m.states W ≡ none → c52 m.states c (is_true m e) K ≡ none
      → c53 m.states c K ≡ none → c54 m.states c (is_false m e) ≡ none → c55 m.states c W ≡ none → c56 m.states c (is_false m e) W ≡ none
      → ((s : ℕ) → d.P s ≡ true → SafeAt d n b s)
      → (s : ℕ) → c.P s ≡ true → SafeAt c (m.states * (E e + 2) + (m.states - 1) * (n + 1)) (while e b) s
  while_safe c d w wd e b n kinds K W W-in e31 (e34, (e36, (e37, (e38, _)))) e50 e51 e57 e52 e53 e54 e55 e56 body =
      let asked = in_round c K W in
      let in-child = enters asked d (λ s h. w.P-in s (and_left (c.P s) _ h)) e34 in
      rule_while (record {
        stable = stable m c w e31;
        decided = λ s p. fits_truth m e s kinds;
        inside = w.P-in;
        few = says50 m c w e e50;
        descending = descending m c w W W-in e51 e57;
        enters = says52 m c w e K e52;
        enabled = says53 m c w K e53;
        stays_false = says54 m c w e e54;
        advances = says55 m c w W e55;
        exits = says56 m c w e W e56;
        body = λ s p k. safe_weaken (rely asked d w.R-in e36) (guarantee asked d wd.G-in e37)
            (λ u q. let both = post asked d wd.Q-in e38 s u q in (and_left (W s u) _ both, and_right (W s u) _ both)) (le_refl n)
            (body s (in-child s (and_both (c.P s) _ p k)));
      })

  sequence_safe : (c l r : Spec) → TablesWithin m.states c → TablesWithin m.states l → TablesWithin m.states r → (L T : Stmt) (n j : ℕ)
      → Clear (sequence_tables m.states c l r)
      → c60 m.states c l r ≡ none → c61 m.states c l r ≡ none
      → ((s : ℕ) → l.P s ≡ true → SafeAt l n L s) → ((s : ℕ) → r.P s ≡ true → SafeAt r j T s)
      → (s : ℕ) → c.P s ≡ true → SafeAt c (n + j + 1) (seq L T) s
  sequence_safe c l r w wl wr L T n j (e34, (e36l, (e37l, (e36r, (e37r, _))))) e60 e61 left right s p =
      safe_seq (n + j + 1) n j (omega arith)
      (safe_weaken (rely c l w.R-in e36l) (guarantee c l wl.G-in e37l) (λ u q. q) (le_refl n) (left s (enters c l w.P-in e34 s p)))
      (λ t q. safe_weaken (rely c r w.R-in e36r) (guarantee c r wr.G-in e37r)
      (λ u q'. says61 m c w l r wl wr e61 s t u p q q') (le_refl j) (right t (says60 m c w l r wl wr e60 s t p q)))

  parallel_safe : (c l r : Spec) → TablesWithin m.states c → TablesWithin m.states l → TablesWithin m.states r → (L T : Stmt) (n j : ℕ)
      → Clear (parallel_tables m.states c l r)
      → c65 m.states c l r ≡ none → c66 m.states c l r ≡ none
      → ((s : ℕ) → l.P s ≡ true → SafeAt l n L s) → ((s : ℕ) → r.P s ≡ true → SafeAt r j T s)
      → (s : ℕ) → c.P s ≡ true → SafeAt c (n + j + 1) (par L T) s
  unfolding c65
  parallel_safe c l r w wl wr L T n j (e34l, (e36l, (e34r, (e36r, _)))) e65 e66 left right s p =
      let N = m.states in
      let to-left = rely (besides c r) l (joined_between c.R r.G w.R-in wr.G-in) e36l in
      let to-right = rely (besides c l) r (joined_between c.R l.G w.R-in wl.G-in) e36r in
      let both-in = must_none _ e65 in
      safe_par (record {
        others_left = λ a b h. to-left a b (or_left (c.R a b) _ h);
        right_left = λ a b h. to-left a b (or_right (c.R a b) _ h);
        others_right = λ a b h. to-right a b (or_left (c.R a b) _ h);
        left_right = λ a b h. to-right a b (or_right (c.R a b) _ h);
        left_kept = lies_in m l.G c.G wl.G-in (and_left (relation_lies_in N l.G c.G) _ both-in);
        right_kept = lies_in m r.G c.G wr.G-in (and_right (relation_lies_in N l.G c.G) _ both-in);
      })
      (n + j + 1) n j s (omega arith) stay (λ t way q q'. says66 m c w l r wl wr e66 s t p way q q')
      (left s (enters c l w.P-in e34l s p)) (right s (enters c r w.P-in e34r s p))

  weaken_safe : (c d : Spec) → TablesWithin m.states c → TablesWithin m.states d → (S : Stmt) (n : ℕ)
      → c70 m.states c d ≡ none → c71 m.states c d ≡ none → c72 m.states c d ≡ none → c73 m.states c d ≡ none
      → ((s : ℕ) → d.P s ≡ true → SafeAt d n S s) → (s : ℕ) → c.P s ≡ true → SafeAt c n S s
  unfolding c70 c71 c72 c73
  weaken_safe c d w wd S n e70 e71 e72 e73 child s p =
      safe_weaken (lies_in m c.R d.R w.R-in (must_none _ e71)) (lies_in m d.G c.G wd.G-in (must_none _ e72))
      (lies_in m d.Q c.Q wd.Q-in (must_none _ e73) s)
      (le_refl n) (child s (set_lies_in_lem m c.P d.P w.P-in (must_none _ e70) s p))

module _ (t : Tables) where
  abbrev Sound : Derivation → Stmt → Type 0
  Sound d S =
      (s : ℕ) → (spec_of t (names_of d)).P s ≡ true → SafeAt t.machine (spec_of t (names_of d)) (steps t.machine.states S) S s

  -- By condition 30 the statement at hand is `made k S`, so it is enough to prove `Sound` for that.
  as_made : (d : Derivation) (S : Stmt) (k : ℕ) → must (eqb (statement_code S) k) ≡ none → kinds_fit S ≡ true
      → (kinds_fit (made k S) ≡ true → Sound d (made k S)) → Sound d S
  as_made d S k e30 kinds safe =
      let is = says30 S k e30 in
      subst (Sound d) is (safe (subst (λ X. kinds_fit X ≡ true) (sym is) kinds))

  -- By induction on the derivation.
  sound : (d : Derivation) (S : Stmt) (n : ℕ) → first_fault t d S n ≡ none → kinds_fit S ≡ true → Sound d S
  sound (skip h) S n e kinds =
      let (e30, (e31, (e32, (e33, (e35, _))))) = clear (obligations t (skip h) S) (no_breach n _ e) in
      let c = spec_of t h in
      as_made (skip h) S 0 e30 kinds (λ _ s p. safe_nil (λ u r.
      star_keeps (λ a b q x. says33 t.machine c (tables_within t h) e33 s a b p q x) r (says35 t.machine c (tables_within t h) e35 s p)))
  sound (assignment h) S n e kinds =
      let (e30, (e41, (e31, (e32, (e33, (e42, (e43, _))))))) = clear (obligations t (assignment h) S) (no_breach n _ e) in
      let c = spec_of t h in
      as_made (assignment h) S 1 e30 kinds (λ k. rule_assign (record {
        undisturbed = undisturbed t.machine c (tables_within t h) (expr_of S) e31 e32 e33 (says41 t.machine c (tables_within t h) (expr_of S) e41);
        valued = λ s p. fits_integer t.machine (expr_of S) s k;
        ends = says42 t.machine c (tables_within t h) (target_of S) (expr_of S) e42;
        keeps = says43 t.machine c (tables_within t h) (target_of S) (expr_of S) e43;
      }))
  sound (sequence h l r) S n e kinds =
      let (own, below) = neither _ _ e in
      let (on-left, on-right) = neither _ _ below in
      let (e30, (e31, (e32, (e33, (e34, (e36l, (e37l, (e36r, (e37r, (e60, (e61, _))))))))))) = clear (obligations t (sequence h l r) S) (no_breach n _ own) in
      as_made (sequence h l r) S 2 e30 kinds (λ k. sequence_safe t.machine (spec_of t h) (spec_of t (names_of l)) (spec_of t (names_of r))
      (tables_within t h) (tables_within t (names_of l)) (tables_within t (names_of r)) (first_of S) (second_of S) _ _ (e34, (e36l, (e37l, (e36r, (e37r, tt))))) e60 e61
      (sound l (first_of S) (suc n) on-left (and_left (kinds_fit (first_of S)) _ k))
      (sound r (second_of S) (suc n + nodes l) on-right (and_right (kinds_fit (first_of S)) _ k)))
  sound (parallel h l r) S n e kinds =
      let (own, below) = neither _ _ e in
      let (on-left, on-right) = neither _ _ below in
      let (e30, (e31, (e32, (e33, (e34l, (e36l, (e34r, (e36r, (e65, (e66, _)))))))))) = clear (obligations t (parallel h l r) S) (no_breach n _ own) in
      as_made (parallel h l r) S 3 e30 kinds (λ k. parallel_safe t.machine (spec_of t h) (spec_of t (names_of l)) (spec_of t (names_of r))
      (tables_within t h) (tables_within t (names_of l)) (tables_within t (names_of r)) (first_of S) (second_of S) _ _ (e34l, (e36l, (e34r, (e36r, tt)))) e65 e66
      (sound l (first_of S) (suc n) on-left (and_left (kinds_fit (first_of S)) _ k))
      (sound r (second_of S) (suc n + nodes l) on-right (and_right (kinds_fit (first_of S)) _ k)))
  sound (conditional h d) S n e kinds =
      let (own, below) = neither _ _ e in
      let (e30, (e45, (e31, (e32, (e33, (e34, (e36, (e37, (e38, (e46, _)))))))))) = clear (obligations t (conditional h d) S) (no_breach n _ own) in
      as_made (conditional h d) S 4 e30 kinds (λ k. if_safe t.machine (spec_of t h) (spec_of t (names_of d)) (tables_within t h) (tables_within t (names_of d))
      (expr_of S) (first_of S) _ (and_left (fits Truth (expr_of S)) _ k) e31 e32 e33 (e34, (e36, (e37, (e38, tt)))) e45 e46
      (sound d (first_of S) (suc n) below (and_right (fits Truth (expr_of S)) _ k)))
  sound (iteration h K W d) S n e kinds =
      let (own, below) = neither _ _ e in
      let (e30, (e31, (e32, (e33, (e34, (e36, (e37, (e38, (e50, (e51, (e57, (e52, (e53, (e54, (e55, (e56, _)))))))))))))))) = clear (obligations t (iteration h K W d) S) (no_breach n _ own) in
      as_made (iteration h K W d) S 5 e30 kinds (λ k. while_safe t.machine (spec_of t h) (spec_of t (names_of d)) (tables_within t h) (tables_within t (names_of d))
      (expr_of S) (first_of S) _ (and_left (fits Truth (expr_of S)) _ k) (set_of t K) (relation_of t W) (relation_in t W)
      e31 (e34, (e36, (e37, (e38, tt)))) e50 e51 e57 e52 e53 e54 e55 e56
      (sound d (first_of S) (suc n) below (and_right (fits Truth (expr_of S)) _ k)))
  sound (weaken h d) S n e kinds =
      let (own, below) = neither _ _ e in
      let (e30, (e31, (e32, (e33, (e70, (e71, (e72, (e73, _)))))))) = clear (obligations t (weaken h d) S) (no_breach n _ own) in
      weaken_safe t.machine (spec_of t h) (spec_of t (names_of d)) (tables_within t h) (tables_within t (names_of d)) S _ e70 e71 e72 e73 (sound d S (suc n) below kinds)

-- A derivation in which no condition is broken, of a statement whose kinds fit, keeps its root's promise with the
-- step number as the bound.
pub soundness : (t : Tables) (d : Derivation) (S : Stmt) (n : ℕ) → first_fault t d S n ≡ none → kinds_fit S ≡ true
    → Promise t.machine S (spec_of t (names_of d)) (steps t.machine.states S)
soundness t d S n e kinds = promise t.machine S (spec_of t (names_of d)) (steps t.machine.states S) (sound t d S n e kinds)
