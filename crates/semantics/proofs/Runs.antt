-- From `Safe` to the promise. Along a list of events each step keeps the guarantee and uses one of n steps, so what remains is safe for
-- the rest. A safe statement never stands still and, unless it is nil, has an open step.
use Prim.Native.Nat.{ℕ, zero, suc, ◌+◌, ◌≤◌}
use native.Mathlib.Omega.{arith}
use mathlib.Core.Path.{◌≡◌, refl, subst}
use mathlib.Core.Bool.{Bool, true, false, cond, not, ◌||◌, or-not_self}
use mathlib.Core.Logic.{◌⊎◌, inl, inr}
use mathlib.Core.List.{List, [], ◌∷◌}
use mathlib.Core.Option.{Option, none, some, some-injective, none-ne-some}
use lib.Dec.{ltb, eqb}
use lib.ListN.{get_elem?}
use borrow.Author.Tests.{eq-eqb}
use Rattle.states.proofs.Search.{and_left, and_right, and_both, or_left, or_right}
use Rattle.semantics.specs.Language.{Stmt}
use Rattle.semantics.specs.States.{Machine}
use Rattle.semantics.specs.Steps.{Config, at, turns, is_nil}
use Rattle.semantics.specs.Runs.{Event, own, other, opens, still, is_open, open_steps, on_step, run, rely_kept, guarantee_kept, steps_made}
use Rattle.semantics.specs.Derivations.{Spec}
use Rattle.semantics.specs.Promise.{Promise}
use Rattle.semantics.proofs.Safe.{stay, Each, end, and, Safe, later_left, star_one, safe_now, safe_later}
use Rattle.semantics.proofs.Composition.{is_empty, turns_some}

module _ {F : Config → Type 0} where
  each_moving : {xs : List (Option Config)} → Each F xs → still xs ≡ false
  each_moving end = refl
  each_moving (and f p) = each_moving p

  each_open : {xs : List (Option Config)} → Each F xs → is_open (opens xs) ≡ not (is_empty xs)
  unfolding is_empty
  each_open end = refl
  each_open (and f p) = refl

  each_at : {xs : List (Option Config)} → Each F xs → (k : ℕ) {c : Config} → get_elem? (opens xs) k ≡ some c → F c
  each_at end k e = absurd (none-ne-some _ e)
  each_at (and f p) zero e = subst F (some-injective _ _ e) f
  each_at (and f p) (suc k) e = each_at p k e

-- If a run goes on after an event, the step of that event is open, or its state exists.
step_made : (o : Option Config) (f : Config → Option Config) {now : Config} → on_step o none f ≡ some now → (c : Config) × (o ≡ some c)
step_made none f e = absurd (none-ne-some _ e)
step_made (some c) f e = (c, refl)

state_there : (b : Bool) (o : Option Config) {now : Config} → cond b o none ≡ some now → o ≡ some now
state_there true o e = e
state_there false o e = absurd (none-ne-some _ e)

kept_true : (G : ℕ → ℕ → Bool) (t u : ℕ) → (u ≡ t) ⊎ (G t u ≡ true) → (eqb u t || G t u) ≡ true
kept_true G t u (inl e) = or_left _ _ (eq-eqb u t e)
kept_true G t u (inr g) = or_right (eqb u t) _ g

module _ (m : Machine) (R G : ℕ → ℕ → Bool) (Z : ℕ → Type 0) where
  abbrev SafeHere : ℕ → Stmt → ℕ → Type 0
  SafeHere = Safe m (λ a b. R a b ≡ true) (λ a b. G a b ≡ true) Z

  -- After a list of events the guarantee was kept, and what remains is safe for the steps that are left.
  along : (events : List Event) (n : ℕ) {S : Stmt} {s : ℕ} → SafeHere n S s → (now : Config) → run m events (at S s) ≡ some now
      → rely_kept m R events (at S s) ≡ true
      → (left : ℕ) × (steps_made events + left ≤ n) × SafeHere left now.rest now.state
      × (guarantee_kept m G events (at S s) ≡ true)
  along [] n x now r l = (n, omega arith, subst (λ (c : Config). SafeHere n c.rest c.state) (some-injective _ _ r) x, refl)
  along (other t ∷ events) n {S} {s} x now r l =
      along events n (safe_later x (star_one (and_left _ _ l))) now (state_there (ltb t m.states) _ r) (and_right (R s t) _ l)
  along (own k ∷ events) n {S} {s} x now r l =
      let (c, made) = step_made _ _ r in
      let (kept, q) = each_at (safe_now x s stay).stepped k made in
      let (i, less, x') = later_left q in
      let (left, few, y, g) = along events i x' now (rw made at r) (rw made at l) in
      (left, omega arith, y, rw made (and_both _ _ (kept_true G _ _ kept) g))

  pub outcome : (n : ℕ) {S : Stmt} {s : ℕ} → SafeHere n S s → (events : List Event) (now : Config)
      → run m events (at S s) ≡ some now → rely_kept m R events (at S s) ≡ true
      → (guarantee_kept m G events (at S s) ≡ true) × (still (turns m now.rest now.state) ≡ false)
      × ((is_nil now.rest || is_open (open_steps m now)) ≡ true) × (steps_made events ≤ n) × (is_nil now.rest ≡ true → Z now.state)
  outcome n x events now r l =
      let (left, few, y, g) = along events n x now r l in
      let here = safe_now y now.state stay in (
        g,
        each_moving here.stepped,
        rw (each_open here.stepped, turns_some m now.rest now.state) (or-not_self (is_nil now.rest)),
        omega arith,
        here.ended,
      )

pub promise : (m : Machine) (S : Stmt) (spec : Spec) (n : ℕ)
    → ((s : ℕ) → spec.P s ≡ true → Safe m (λ a b. spec.R a b ≡ true) (λ a b. spec.G a b ≡ true) (λ u. spec.Q s u ≡ true) n S s)
    → Promise m S spec n
promise m S spec n x =
    record {
      kept = λ events start now p r l.
          let (g, moving, open_step, few, post) = outcome m spec.R spec.G (λ u. spec.Q start u ≡ true) n (x start p) events now r l in
          record { guarantee = g; moving = moving; open_step = open_step; few = few; post = post };
    }
