-- The rules for assignment, if and while: a node's conditions, in their logical form, make its statement safe for its step number.
use Prim.Native.Nat.{ℕ, zero, suc, ◌+◌, ◌-◌, ◌*◌, ◌≤◌, ◌<◌}
use native.Mathlib.Omega.{arith}
use mathlib.Core.Path.{◌≡◌, refl, sym, ◌∙◌, ap, subst}
use mathlib.Core.Bool.{Bool, true, false, false≢true}
use mathlib.Core.Logic.{◌⊎◌, inl, inr}
use mathlib.Core.Option.{Option, some, some-injective}
use lib.IntN.{ℤ}
use Rattle.semantics.specs.Language.{Val, int, truth, Expr, lit, Stmt, nil, assign, seq, if, while}
use Rattle.semantics.specs.States.{Machine, value}
use Rattle.semantics.specs.Steps.{Config, at, storing, branch}
use Rattle.semantics.specs.StepNumber.{E}
use Rattle.semantics.specs.Conditions.{occurrences}
use Rattle.semantics.proofs.Safe.{Star, stay, then, star_trans, star_keeps, Each, end, and, Kept, Safe, later, safe_intro, safe_weaken, safe_more}
use Rattle.semantics.proofs.Composition.{can_end, safe_nil, safe_seq}
use Rattle.semantics.proofs.Reading.{Stable, Context, still_in, still, unmoved_value, evaluate}
use Rattle.semantics.proofs.Descent.{Descending, Short, short_below, short_later}

-- What assignment and if share: R moves nothing that they read, and the rely may act before and after.
pub record Undisturbed (m : Machine) (P : ℕ → Type 0) (R Q : ℕ → ℕ → Type 0) (moved : ℕ → Bool) (e : Expr) : Type 0 where
  pub stable : Stable m P R moved  -- 31
  pub before : (s t u : ℕ) → P s → R s t → Q t u → Q s u  -- 32
  pub after : (s t u : ℕ) → P s → Q s t → R t u → Q s u  -- 33
  pub unmoved : occurrences moved e ≡ 0  -- 41, 45

pub record Assignment (m : Machine) (P : ℕ → Type 0) (R G Q : ℕ → ℕ → Type 0) (moved : ℕ → Bool) (v : ℕ) (e : Expr) : Type 0 where
  pub undisturbed : Undisturbed m P R Q moved e
  pub valued : (s : ℕ) → P s → (z : ℤ) × (value m e s ≡ some (int z))  -- the expression's kind
  pub ends : (s : ℕ) (z : ℤ) → P s → value m e s ≡ some (int z) → Q s (m.store s v z)  -- 42
  pub keeps : (s : ℕ) (z : ℤ) → P s → value m e s ≡ some (int z) → (m.store s v z ≡ s) ⊎ G s (m.store s v z)  -- 43

pub record Conditional (m : Machine) (P : ℕ → Type 0) (R G Q : ℕ → ℕ → Type 0) (moved : ℕ → Bool) (e : Expr) (b : Stmt) (n : ℕ) : Type 0 where
  pub undisturbed : Undisturbed m P R Q moved e
  pub decided : (s : ℕ) → P s → (c : Bool) × (value m e s ≡ some (truth c))  -- the test's kind
  pub body : (s : ℕ) → P s → value m e s ≡ some (truth true) → Safe m R G (Q s) n b s
  pub skips : (s : ℕ) → P s → value m e s ≡ some (truth false) → Q s s  -- 46

pub record Iteration (m : Machine) (P K : ℕ → Type 0) (R G Q W : ℕ → ℕ → Type 0) (moved : ℕ → Bool) (e : Expr) (b : Stmt) (N n : ℕ) : Type 0 where
  pub stable : Stable m P R moved  -- 31
  pub decided : (s : ℕ) → P s → (c : Bool) × (value m e s ≡ some (truth c))  -- the test's kind
  pub inside : (s : ℕ) → P s → s < N
  pub few : occurrences moved e ≤ 1  -- 50
  pub descending : Descending N W  -- 51
  pub enters : (s : ℕ) → P s → value m e s ≡ some (truth true) → K s  -- 52
  pub enabled : (s t : ℕ) → P s → K s → R s t → K t  -- 53
  pub stays_false : (s t : ℕ) → P s → value m e s ≡ some (truth false) → R s t → value m e t ≡ some (truth false)  -- 54
  pub advances : (s t : ℕ) → P s → R s t → (s ≡ t) ⊎ W s t  -- 55
  pub exits : (s t : ℕ) → P s → (t ≡ s) ⊎ W s t → P t → value m e t ≡ some (truth false) → Q s t  -- 56
  pub body : (s : ℕ) → P s → K s → Safe m R G (λ u. W s u × P u) n b s

assigning : (m : Machine) (v : ℕ) → Context m (assign v) (storing m v)
assigning m v = record { unended = λ e. refl; turn = λ e s. refl; waits_var = λ w s. refl; waits_op = λ o l r s. refl }

testing : (m : Machine) (b : Stmt) → Context m (λ e. if e b) (λ e s. branch e b s)
testing m b = record { unended = λ e. refl; turn = λ e s. refl; waits_var = λ w s. refl; waits_op = λ o l r s. refl }

-- A test that is a truth value has one of two last steps.
either_branch : {F : Config → Type 0} {o : Option Val} (w : Val) (b : Stmt) (u : ℕ) → o ≡ some w → (c : Bool) × (o ≡ some (truth c))
    → (o ≡ some (truth true) → F (at b u)) → (o ≡ some (truth false) → F (at nil u)) → Each F (branch (lit w) b u)
either_branch (int z) b u is (c, has) taken passed = absurd (let clash : ◌≡◌ {A = ℕ} 0 1 = cc in omega arith)
either_branch (truth true) b u is decided taken passed = and (taken is) end
either_branch (truth false) b u is decided taken passed = and (passed is) end

module _ {m : Machine} {P : ℕ → Type 0} {R Q : ℕ → ℕ → Type 0} {moved : ℕ → Bool} {e : Expr} (c : Undisturbed m P R Q moved e) where
  -- 32 for any number of changes by others before, and 33 for any number after.
  begun_before : {s t u : ℕ} → P s → Star R s t → Q t u → Q s u
  begun_before p stay q = q
  begun_before p (then r rs) q = c.before _ _ _ p r (begun_before (c.stable.closed _ _ p r) rs q)

  ended_after : {s t u : ℕ} → P s → Q s t → Star R t u → Q s u
  ended_after p q r = star_keeps (λ a b h x. c.after _ a b p h x) r q

  -- The value read is the value at the present state.
  present : {s τ u : ℕ} {w : Val} → P s → Star R s τ → Star R τ u → value m e τ ≡ some w → value m e u ≡ some w
  present p a b has = sym (unmoved_value c.stable e c.unmoved (still_in c.stable p a) b) ∙ has

module _ {m : Machine} {P : ℕ → Type 0} {R G Q : ℕ → ℕ → Type 0} {moved : ℕ → Bool} {v : ℕ} {e : Expr}
    (c : Assignment m P R G Q moved v e) (s : ℕ) (p : P s) where
  store_step : (τ u : ℕ) (w : Val) → Star R s τ → Star R τ u → value m e τ ≡ some w
      → Each (Kept G (λ c. Safe m R G (Q s) 0 c.rest c.state) u) (storing m v (lit w) u)
  store_step τ u w a b has =
      let d = c.undisturbed in
      let in_P = still_in d.stable p (star_trans a b) in
      let (z, is) = c.valued u in_P in
      let in-Q = begun_before d p (star_trans a b) (c.ends u z in_P is) in
      rw (some-injective _ _ (sym (present d p a b has) ∙ is)) (and (c.keeps u z in_P is, safe_nil (λ t r. ended_after d p in-Q r)) end)

  pub rule_assign : Safe m R G (Q s) (E e + 1) (assign v e) s
  rule_assign =
      let d = c.undisturbed in
      evaluate d.stable (assigning m v) e p (λ u p. (_, (c.valued u p).1)) store_step (E e + 1)
      (omega (arith, d.unmoved)) (omega arith)

module _ {m : Machine} {P : ℕ → Type 0} {R G Q : ℕ → ℕ → Type 0} {moved : ℕ → Bool} {e : Expr} {b : Stmt} {n : ℕ}
    (c : Conditional m P R G Q moved e b n) (s : ℕ) (p : P s) where
  branch_step : (τ u : ℕ) (w : Val) → Star R s τ → Star R τ u → value m e τ ≡ some w
      → Each (Kept G (λ c. Safe m R G (Q s) n c.rest c.state) u) (branch (lit w) b u)
  branch_step τ u w x y has =
      let d = c.undisturbed in
      let in_P = still_in d.stable p (star_trans x y) in
      let from-s : (t : ℕ) → Q u t → Q s t = λ t q. begun_before d p (star_trans x y) q in
      either_branch w b u (present d p x y has) (c.decided u in_P)
      (λ is. (inl refl, safe_weaken (λ a b r. r) (λ a b g. g) from-s (omega arith) (c.body u in_P is)))
      (λ is. (inl refl, safe_more (omega arith) (safe_nil (λ t r. ended_after d p (from-s u (c.skips u in_P is)) r))))

  pub rule_if : Safe m R G (Q s) (E e + 1 + n) (if e b) s
  rule_if =
      let d = c.undisturbed in
      evaluate d.stable (testing m b) e p (λ u p. (_, (c.decided u p).1)) branch_step (E e + 1 + n) (omega (arith, d.unmoved)) (omega arith)

-- A while that began at s may begin a round at t, with at most k more rounds to follow.
record Round (P : ℕ → Type 0) (W : ℕ → ℕ → Type 0) (s k t : ℕ) : Type 0 where
  began : P s
  in_P : P t
  reached : (t ≡ s) ⊎ W s t
  short : Short W k t

-- The steps of k more rounds: each has a body, the step to the while after it, and that while's own step, its test and its branch.
abbrev ahead : ℕ → ℕ → ℕ → ℕ
ahead test body k = k * (test + 2) + k * (body + 1)

module _ {m : Machine} {P K : ℕ → Type 0} {R G Q W : ℕ → ℕ → Type 0} {moved : ℕ → Bool} {e : Expr} {b : Stmt} {N n : ℕ}
    (c : Iteration m P K R G Q W moved e b N n) where
  onwards : {s t u : ℕ} → (t ≡ s) ⊎ W s t → (t ≡ u) ⊎ W t u → (u ≡ s) ⊎ W s u
  onwards (inl e) (inl f) = inl (sym f ∙ e)
  onwards {u} (inl e) (inr w) = inr (subst (λ x. W x u) e w)
  onwards {s} (inr w) (inl f) = inr (subst (W s) f w)
  onwards (inr w) (inr x) = inr (c.descending.transitive _ _ _ w x)

  still_short : (k : ℕ) {t u : ℕ} → Short W k t → (t ≡ u) ⊎ W t u → Short W k u
  still_short k short (inl e) = subst (Short W k) e short
  still_short k short (inr w) = short_later c.descending k short w

  -- Others may act before a round: 31 and 55.
  round_later : {s k t u : ℕ} → Star R t u → Round P W s k t → Round P W s k u
  round_later {s} {k} = star_keeps {P = Round P W s k} (λ a b h r. record {
    began = h.began;
    in_P = c.stable.closed a b h.in_P r;
    reached = onwards h.reached (c.advances a b h.in_P r);
    short = still_short k h.short (c.advances a b h.in_P r);
  })

  -- Once the test is false it stays false (54), so the while may end (56).
  may_end : {s k t : ℕ} → Round P W s k t → value m e t ≡ some (truth false) → (u : ℕ) → Star R t u → Q s u
  may_end {s} round is u r =
      let at-u = round_later r round in
      c.exits s u at-u.began at-u.reached at-u.in_P
      (still c.stable (λ x. value m e x ≡ some (truth false)) c.stays_false round.in_P r is)

  -- The test of a round that began at t was read at τ. If it was true, τ is in K (52) and so is the present
  -- state (53), at which the body may begin.
  test_step : {s k j t : ℕ} → Round P W s k t → ((u : ℕ) → Round P W s k u → K u → Safe m R G (Q s) j (seq b (while e b)) u)
      → (τ u : ℕ) (w : Val) → Star R t τ → Star R τ u → value m e τ ≡ some w
      → Each (Kept G (λ c. Safe m R G (Q s) j c.rest c.state) u) (branch (lit w) (seq b (while e b)) u)
  test_step round body τ u w x y has =
      let at-τ = round_later x round in
      either_branch w (seq b (while e b)) u has (c.decided τ at-τ.in_P)
      (λ is. (inl refl, body u (round_later y at-τ) (still c.stable K c.enabled at-τ.in_P y (c.enters τ at-τ.in_P is))))
      (λ is. (inl refl, safe_more (omega arith) (safe_nil (λ v r. may_end at-τ is v (star_trans y r)))))

  -- A round is the while's own step, the steps of its test, and the branch.
  round_safe : (j : ℕ) {s k : ℕ} → ((u : ℕ) → Round P W s k u → K u → Safe m R G (Q s) j (seq b (while e b)) u)
      → (t : ℕ) → Round P W s k t → Safe m R G (Q s) (suc (suc (E e + j))) (while e b) t
  round_safe j body t round = safe_intro (λ u r.
      let at-u = round_later r round in
      record {
        ended = λ is. absurd (false≢true is);
        stepped = and (
          inl refl,
          later (evaluate c.stable (testing m (seq b (while e b))) e at-u.in_P (λ u p. (_, (c.decided u p).1))
              (test_step at-u body) (suc (E e + j)) c.few (omega arith)),
        ) end;
      })

  -- A body that may begin can end, and W leads to its end. So if no round may follow, none begins.
  body_safe : (k : ℕ) {s : ℕ} (u : ℕ) → Round P W s k u → K u → Safe m R G (Q s) (ahead (E e) n k) (seq b (while e b)) u
  body_safe zero u round in-K =
      let (x, ends) = can_end n (c.body u round.in_P in-K) in absurd (round.short x ends.0)
  body_safe (suc k) u round in-K =
      safe_seq _ n (suc (suc (E e + ahead (E e) n k))) (omega arith) (c.body u round.in_P in-K)
      (λ x ends. round_safe (ahead (E e) n k) (body_safe k) x
      (record { began = round.began; in_P = ends.1; reached = onwards round.reached (inr ends.0); short = round.short x ends.0 }))

  pub rule_while : (s : ℕ) → P s → Safe m R G (Q s) (N * (E e + 2) + (N - 1) * (n + 1)) (while e b) s
  rule_while s p =
      let below = c.inside s p in
      let all : N ≡ N - 1 + 1 = omega arith in
      safe_more (omega (arith, ap (λ x. x * (E e + 2)) all)) (round_safe (ahead (E e) n (N - 1)) (body_safe (N - 1)) s
      (record { began = p; in_P = p; reached = inl refl; short = short_below c.descending s below }))
