-- Reading under interference: in any state that others leave, the rest of an expression has the value that the whole
-- had at some state since the start. A step that reads the one moved occurrence leaves none, so the value no longer
-- changes; any other step changes no value.
use Prim.Native.Nat.{ℕ, zero, suc, ◌+◌, ◌≤◌, ◌<◌}
use native.Mathlib.Omega.{arith}
use mathlib.Core.Path.{◌≡◌, refl, sym, ◌∙◌, ap, ap₂}
use mathlib.Core.Bool.{Bool, true, false, cond, false≢true}
use mathlib.Core.Logic.{◌⊎◌, inl, inr, ⊎_elim, ⊎_map}
use mathlib.Core.List.{List, [], ◌++◌, map}
use mathlib.Core.Option
use mathlib.Core.Option.{Option, none, some, none-ne-some}
use Rattle.states.proofs.Search.{true_or_false}
use Rattle.semantics.specs.Language.{Val, int, Expr, lit, var, op, Stmt, apply}
use Rattle.semantics.specs.States.{Machine, value, both}
use Rattle.semantics.specs.Steps.{Config, at, is_nil, expr_turns, result, turns}
use Rattle.semantics.specs.StepNumber.{E}
use Rattle.semantics.specs.Conditions.{occurrences}
use Rattle.semantics.proofs.Safe.{Star, stay, then, star_trans, star_keeps, Each, end, and, each_append, each_map, each_imp, Kept, Safe, Now, Later, later, safe_intro, safe_more}

-- The rely keeps P, and from a state of P it keeps every variable that is not in `moved`.
pub record Stable (m : Machine) (P : ℕ → Type 0) (R : ℕ → ℕ → Type 0) (moved : ℕ → Bool) : Type 0 where
  pub closed : (s t : ℕ) → P s → R s t → P t
  pub fixed : (v : ℕ) → moved v ≡ false → (s t : ℕ) → P s → R s t → m.get s v ≡ m.get t v

-- A step from expression e to d at state t: d takes one step fewer, and has the same value, at t and, unless the step
-- read a moved variable, at every later state.
record ExprStep (m : Machine) (R : ℕ → ℕ → Type 0) (moved : ℕ → Bool) (t : ℕ) (e d : Expr) : Type 0 where
  cheaper : E e ≡ suc (E d)
  no_more : occurrences moved d ≤ occurrences moved e
  here : value m e t ≡ value m d t
  beyond : (occurrences moved d < occurrences moved e) ⊎ ((u : ℕ) → Star R t u → value m e u ≡ value m d u)

-- Reading e began at state s, and d is left at t: in any state u that others leave, d has the value
-- that e had at some state between s and u.
record Reading (m : Machine) (R : ℕ → ℕ → Type 0) (moved : ℕ → Bool) (s : ℕ) (e d : Expr) (t : ℕ) : Type 0 where
  since : Star R s t
  few : occurrences moved d ≤ 1
  was : (u : ℕ) → Star R t u → (τ : ℕ) × Star R s τ × Star R τ u × (value m e τ ≡ value m d u)

-- A statement that evaluates an expression and then makes one last step.
pub record Context (m : Machine) (C : Expr → Stmt) (last : Expr → ℕ → List (Option Config)) : Type 0 where
  pub unended : (e : Expr) → is_nil (C e) ≡ false
  pub turn : (e : Expr) (s : ℕ) → turns m (C e) s ≡ map (Option.map (λ d. at (C d) s)) (expr_turns m e s) ++ last e s
  pub waits_var : (v s : ℕ) → last (var v) s ≡ []
  pub waits_op : (o : ℕ) (l r : Expr) (s : ℕ) → last (op o l r) s ≡ []

uncounted : (b : Bool) → ◌≡◌ {A = ℕ} (cond b 1 0) 0 → b ≡ false
uncounted true h = absurd (omega arith)
uncounted false h = refl

-- An operation with a value has operands with values.
operands : (f : Val → Val → Option Val) (a b : Option Val) {w : Val} → both f a b ≡ some w
    → (x : Val) × (y : Val) × (a ≡ some x) × (b ≡ some y)
operands f none b h = absurd (none-ne-some _ h)
operands f (some x) none h = absurd (none-ne-some _ h)
operands f (some x) (some y) h = (x, y, refl, refl)

module _ {m : Machine} {P : ℕ → Type 0} {R : ℕ → ℕ → Type 0} {moved : ℕ → Bool} (σ : Stable m P R moved) where
  pub still_in : {s t : ℕ} → P s → Star R s t → P t
  still_in p r = star_keeps σ.closed r p

  -- What each pair of the rely keeps from a state of P, zero or more pairs keep.
  pub still : (F : ℕ → Type 0) → ((s t : ℕ) → P s → F s → R s t → F t) → {s t : ℕ} → P s → Star R s t → F s → F t
  still F keeps p stay f = f
  still F keeps p (then r q) f = still F keeps (σ.closed _ _ p r) q (keeps _ _ p f r)

  unmoved_variable : (v : ℕ) → moved v ≡ false → {s t : ℕ} → P s → Star R s t → m.get s v ≡ m.get t v
  unmoved_variable v is {s} p r = still (λ x. m.get s v ≡ m.get x v) (λ a b q same x. same ∙ σ.fixed v is a b q x) p r refl

  pub unmoved_value : (e : Expr) → occurrences moved e ≡ 0 → {s t : ℕ} → P s → Star R s t → value m e s ≡ value m e t
  unmoved_value (lit c) unread p r = refl
  unmoved_value (var v) unread p r = ap (λ z. some (int z)) (unmoved_variable v (uncounted (moved v) unread) p r)
  unmoved_value (op o l r) unread p q = ap₂ (both (apply o)) (unmoved_value l (omega arith) p q) (unmoved_value r (omega arith) p q)

  step_variable : (v t : ℕ) → P t → ExprStep m R moved t (var v) (lit (int (m.get t v)))
  step_variable v t p = record {
    cheaper = refl;
    no_more = omega arith;
    here = refl;
    beyond = ⊎_map (λ is. rw is (omega arith)) (λ is u r. ap (λ z. some (int z)) (sym (unmoved_variable v is p r)))
        (true_or_false (moved v));
  }

  step_left : (o : ℕ) (r : Expr) (t : ℕ) (l d : Expr) → ExprStep m R moved t l d → ExprStep m R moved t (op o l r) (op o d r)
  step_left o r t l d step = record {
    cheaper = omega arith;
    no_more = omega arith;
    here = ap (λ x. both (apply o) x (value m r t)) step.here;
    beyond = ⊎_map (λ less. omega arith) (λ same u q. ap (λ x. both (apply o) x (value m r u)) (same u q)) step.beyond;
  }

  step_right : (o : ℕ) (l : Expr) (t : ℕ) (r d : Expr) → ExprStep m R moved t r d → ExprStep m R moved t (op o l r) (op o l d)
  step_right o l t r d step = record {
    cheaper = omega arith;
    no_more = omega arith;
    here = ap (both (apply o) (value m l t)) step.here;
    beyond = ⊎_map (λ less. omega arith) (λ same u q. ap (both (apply o) (value m l u)) (same u q)) step.beyond;
  }

  step_result : (o : ℕ) (l r : Expr) (t : ℕ) {w : Val} → value m (op o l r) t ≡ some w → Each (ExprStep m R moved t (op o l r)) (result o l r)
  step_result o (lit a) (lit b) t {w} h =
      rw h (and {a = lit w} (record { cheaper = refl; no_more = omega arith; here = h; beyond = inr (λ u q. h) }) end)
  step_result o (lit a) (var v) t h = end
  step_result o (lit a) (op p l r) t h = end
  step_result o (var v) r t h = end
  step_result o (op p l q) r t h = end

  -- An expression with a value does not stand still.
  expr_steps : (e : Expr) (t : ℕ) → P t → {w : Val} → value m e t ≡ some w → Each (ExprStep m R moved t e) (expr_turns m e t)
  expr_steps (lit c) t p h = end
  expr_steps (var v) t p h = and (step_variable v t p) end
  expr_steps (op o l r) t p h =
      let (x, y, at-l, at-r) = operands (apply o) (value m l t) (value m r t) h in
      each_append _ _
      (each_append _ _ (each_map (λ d. op o d r) (step_left o r t l) _ (expr_steps l t p at-l))
      (each_map (λ d. op o l d) (step_right o l t r) _ (expr_steps r t p at-r))) (step_result o l r t h)

  -- Interference keeps `Reading`: the rest of the expression does not change.
  reading_later : {s t u : ℕ} {e d : Expr} → Star R t u → Reading m R moved s e d t → Reading m R moved s e d u
  reading_later r now = record { since = star_trans now.since r; few = now.few; was = λ x q. now.was x (star_trans r q) }

  -- A step of the handler keeps `Reading`.
  reading_on : {s t : ℕ} {e d d' : Expr} → P t → ExprStep m R moved t d d' → Reading m R moved s e d t → Reading m R moved s e d' t
  reading_on {t} {d'} p step now = record {
    since = now.since;
    few = omega (arith, step.no_more, now.few);
    was = λ u r. ⊎_elim
        (λ less. let (τ, a, b, was) = now.was t stay in
        (τ, a, star_trans b r, was ∙ step.here ∙ unmoved_value d' (omega (arith, now.few)) p r))
        (λ same. let (τ, a, b, was) = now.was u r in (τ, a, b, was ∙ same u r)) step.beyond;
  }

  -- Let e have a value at every state of P. A statement that evaluates e from a state of P is safe for more than E e + j steps if its
  -- last step, at any state and with a value that e had since the start, leaves a statement that is safe for j.
  module _ {G : ℕ → ℕ → Type 0} {Z : ℕ → Type 0} {C : Expr → Stmt} {last : Expr → ℕ → List (Option Config)} (context : Context m C last)
      (e : Expr) {s j : ℕ} (p : P s) (defined : (u : ℕ) → P u → (w : Val) × (value m e u ≡ some w))
      (finish : (τ u : ℕ) (w : Val) → Star R s τ → Star R τ u → value m e τ ≡ some w
      → Each (Kept G (λ c. Safe m R G Z j c.rest c.state) u) (last (lit w) u)) where
    last_turns : (k : ℕ) (d : Expr) (u : ℕ) → E d + j < suc k → Reading m R moved s e d u
        → Each (Kept G (Later m R G Z (suc k)) u) (last d u)
    last_turns k (lit w) u le now =
        let (τ, a, b, was) = now.was u stay in
        each_imp (λ c h. (h.0, later (safe_more (omega arith) h.1))) (finish τ u w a b was)
    last_turns k (var v) u le now = rw (context.waits_var v u) end
    last_turns k (op o l r) u le now = rw (context.waits_op o l r u) end

    evaluate_now : (k : ℕ) (d : Expr) (u : ℕ) → E d + j < suc k → Reading m R moved s e d u
        → ((d' : Expr) → E d' + j < k → Reading m R moved s e d' u → Safe m R G Z k (C d') u) → Now m R G Z (suc k) (C d) u
    evaluate_now k d u le now next =
        let (τ, a, b, was) = now.was u stay in
        let (w, has) = defined τ (still_in p a) in
        let in_P = still_in p now.since in
        record {
          ended = λ is. absurd (false≢true (sym (context.unended d) ∙ is));
          stepped = rw (context.turn d u) (each_append _ _
              (each_map (λ d'. at (C d') u) (λ d' step. (inl refl, later (next d' (omega (arith, step.cheaper)) (reading_on in_P step now))))
              _ (expr_steps d u in_P (sym was ∙ has)))
              (last_turns k d u le now));
        }

    evaluate_from : (k : ℕ) (d : Expr) (t : ℕ) → E d + j < k → Reading m R moved s e d t → Safe m R G Z k (C d) t
    evaluate_from zero d t le now = absurd (omega arith)
    evaluate_from (suc k) d t le now =
        safe_intro (λ u r. evaluate_now k d u le (reading_later r now) (λ d' le' now'. evaluate_from k d' u le' now'))

    pub evaluate : (k : ℕ) → occurrences moved e ≤ 1 → E e + j < k → Safe m R G Z k (C e) s
    evaluate k few le = evaluate_from k e s le (record { since = stay; few = few; was = λ u r. (u, r, stay, refl) })
