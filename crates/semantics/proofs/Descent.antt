-- How many rounds a while can have: a chain of W never returns to a state, so each state that it leaves is removed from
-- the list of those that may still follow.
use Prim.Native.Nat.{ℕ, zero, suc, ◌-◌, ◌<◌}
use native.Mathlib.Omega.{arith}
use native.Mathlib.Decide.{ℕ_discrete}
use mathlib.Core.Path.{◌≡◌, refl, sym, ◌∙◌, ap, subst}
use mathlib.Core.Logic.{◌≢◌, dite, ite, if_pos, if_neg}

-- W is transitive, has no (s,s), and leads to states below N only.
pub record Descending (N : ℕ) (W : ℕ → ℕ → Type 0) : Type 0 where
  pub transitive : (s t u : ℕ) → W s t → W t u → W s u
  pub irreflexive : (s : ℕ) → W s s → ⊥
  pub bounded : (s t : ℕ) → W s t → t < N

-- No chain of W from s has more than k pairs.
abbrev pub Short : (ℕ → ℕ → Type 0) → ℕ → ℕ → Type 0
Short W zero s = (t : ℕ) → W s t → ⊥
Short W (suc k) s = (t : ℕ) → W s t → Short W k t

-- t is one of the first k states of a list.
abbrev Listed : ℕ → (ℕ → ℕ) → ℕ → Type 0
Listed k list t = (i : ℕ) × (i < k) × (list i ≡ t)

-- The list without its i-th state, whose place the last one takes. Every other state is still listed.
abbrev strike : ℕ → ℕ → (ℕ → ℕ) → ℕ → ℕ
strike k i list j = ite (ℕ_discrete j i) (list k) (list j)

still_listed : (k : ℕ) (list : ℕ → ℕ) (s t : ℕ) (i : Listed (suc k) list s) → t ≢ s → Listed (suc k) list t
    → Listed k (strike k i.0 list) t
still_listed k list s t (i, i-below, at_i) other (j, j-below, at_j) =
    let apart : j ≢ i = λ e. other (sym at_j ∙ ap list e ∙ at_i) in
    dite (ℕ_discrete j k)
    (λ e. (i, omega arith, if_pos (ℕ_discrete i i) refl (list k) (list i) ∙ ap list (sym e) ∙ at_j))
    (λ ne. (j, omega arith, if_neg (ℕ_discrete j i) apart (list k) (list j) ∙ at_j))

module _ {N : ℕ} {W : ℕ → ℕ → Type 0} (w : Descending N W) where
  never_back : {s t : ℕ} → W s t → t ≢ s
  never_back {s} r e = w.irreflexive s (subst (W s) e r)

  -- From a listed state whose successors are listed, each pair of a chain removes one state.
  short_within : (k : ℕ) (list : ℕ → ℕ) (s : ℕ) → Listed (suc k) list s → ((t : ℕ) → W s t → Listed (suc k) list t) → Short W k s
  short_within zero list s i next = λ t r.
      let (j, below, at) = still_listed zero list s t i (never_back r) (next t r) in omega arith
  short_within (suc k) list s i next = λ t r. short_within k (strike (suc k) i.0 list) t
      (still_listed (suc k) list s t i (never_back r) (next t r))
      (λ u q. let on = w.transitive s t u r q in still_listed (suc k) list s u i (never_back on) (next u on))

  pub short_below : (s : ℕ) → s < N → Short W (N - 1) s
  short_below s below =
      let all : suc (N - 1) ≡ N = omega arith in
      short_within (N - 1) (λ t. t) s (s, omega arith, refl) (λ t r. (t, omega (arith, w.bounded s t r), refl))

  -- A bound on the chains from s also holds for the chains from its successors.
  pub short_later : (k : ℕ) {s t : ℕ} → Short W k s → W s t → Short W k t
  short_later zero h r = λ u q. h u (w.transitive _ _ u r q)
  short_later (suc k) h r = λ u q. h u (w.transitive _ _ u r q)
