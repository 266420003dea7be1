-- N rounds reach the whole closure and nothing else: a round that adds nothing is final, and any other round adds one of the N states.
use Prim.Native.Nat.{ℕ, zero, suc, ◌+◌, ◌<◌, ◌≤◌, zero-le}
use native.Mathlib.Numerals.{add-one}
use native.Mathlib.Omega.{arith}
use mathlib.Core.Path.{◌≡◌, refl, ap, ap₂}
use mathlib.Core.Logic.{◌⊎◌, ⊎_elim, inl, inr, ◌↔◌}
use mathlib.Core.Bool.{Bool, true, false, cond, ◌&&◌, ◌||◌}
use lib.Dec.{eqb}
use Rattle.states.specs.Search.{implies, all, any}
pub use Rattle.states.specs.Search.{count}
use Rattle.states.specs.Relations.{Reached, here, more, within, reach}
use Rattle.states.proofs.Search.{and_left, and_right, and_both, or_left, or_right, or_cases, implies_at, implies_false, true_or_false, below_cases, all_at, all_false, any_intro, any_true, any_cong}

-- The relation is between the states below n.
abbrev pub Between : ℕ → (ℕ → ℕ → Bool) → Type 0
Between n r = (s t : ℕ) → r s t ≡ true → (s < n) × (t < n)

-- So is the join of two such relations.
pub joined_between : {n : ℕ} (r q : ℕ → ℕ → Bool) → Between n r → Between n q → Between n (λ s t. r s t || q s t)
joined_between r q r-in q-in s t h = ⊎_elim (r-in s t) (q-in s t) (or_cases (r s t) (q s t) h)

-- The states reached after one more round.
unfoldable pub round : ℕ → (ℕ → ℕ → Bool) → (ℕ → Bool) → ℕ → Bool
round n r p t = p t || any n (λ u. p u && r u t)

unfoldable pub rounds : ℕ → (ℕ → ℕ → Bool) → (ℕ → Bool) → ℕ → ℕ → Bool
rounds n r from zero t = from t
rounds n r from (suc k) t = round n r (rounds n r from k) t

-- One more round after k rounds is round k + 1.
pub rounds_next : (n : ℕ) (r : ℕ → ℕ → Bool) (from : ℕ → Bool) (k : ℕ) (p : ℕ → Bool) → ((t : ℕ) → p t ≡ rounds n r from k t)
    → (t : ℕ) → (p t || any n (λ u. p u && r u t)) ≡ rounds n r from (k + 1) t
unfolding rounds round
rounds_next n r from k p same t = rw add-one (ap₂ ◌||◌ (same t) (any_cong n _ _ (λ u l. ap (λ b. b && r u t) (same u))))

-- A round from p adds nothing.
abbrev pub Final : ℕ → (ℕ → ℕ → Bool) → (ℕ → Bool) → Type 0
Final n r p = (t : ℕ) → round n r p t ≡ true → p t ≡ true

-- A state that a round from p adds.
abbrev Added : ℕ → (ℕ → ℕ → Bool) → (ℕ → Bool) → Type 0
Added n r p = (t : ℕ) × (t < n) × (p t ≡ false) × (round n r p t ≡ true)

digit_mono : (a b : Bool) → (a ≡ true → b ≡ true) → cond {A = ℕ} a 1 0 ≤ cond b 1 0
digit_mono true b h = rw (h refl) (omega arith)
digit_mono false b h = zero-le

count_mono : (n : ℕ) (p q : ℕ → Bool) → ((s : ℕ) → p s ≡ true → q s ≡ true) → count n p ≤ count n q
unfolding count
count_mono zero p q h = zero-le
count_mono (suc n) p q h = omega (arith, count_mono n p q h, digit_mono (p n) (q n) (h n))

pub count_more : (n : ℕ) (p q : ℕ → Bool) → ((s : ℕ) → p s ≡ true → q s ≡ true)
    → (s : ℕ) → s < n → p s ≡ false → q s ≡ true → count n p < count n q
unfolding count
count_more zero p q h s l out into = absurd (omega arith)
count_more (suc n) p q h s l out into =
    below_cases (λ t. p t ≡ false → q t ≡ true → count (suc n) p < count (suc n) q) n s l
    (λ o i. rw (o, i) (omega (arith, count_mono n p q h)))
    (λ low o i. omega (arith, count_more n p q h s low o i, digit_mono (p n) (q n) (h n)))
    out into

pub count_all : (n : ℕ) → count n (λ s. true) ≤ n
unfolding count
count_all zero = zero-le
count_all (suc n) = omega (arith, count_all n)

module _ (n : ℕ) (r : ℕ → ℕ → Bool) (between : Between n r) where
  pub round_pair : (p : ℕ → Bool) (s t : ℕ) → p s ≡ true → r s t ≡ true → round n r p t ≡ true
  unfolding round
  round_pair p s t ps st = or_right (p t) _ (any_intro n _ s (between s t st).0 (and_both _ _ ps st))

  pub round_cases : (p : ℕ → Bool) (t : ℕ) → round n r p t ≡ true → (p t ≡ true) ⊎ ((s : ℕ) × (p s ≡ true) × (r s t ≡ true))
  unfolding round
  round_cases p t h = ⊎_elim inl (λ e. inr (pair (any_true n _ e))) (or_cases (p t) _ h)
    where
      pair : (s : ℕ) × (s < n) × ((p s && r s t) ≡ true) → (s : ℕ) × (p s ≡ true) × (r s t ≡ true)
      pair w = (w.0, and_left _ (r w.0 t) w.2, and_right (p w.0) _ w.2)

  -- A final set that has the starts has every state that is reached.
  pub final_all : (from p : ℕ → Bool) → ((s : ℕ) → from s ≡ true → p s ≡ true) → Final n r p → (t : ℕ) → Reached from r t → p t ≡ true
  final_all from p starts final t (here h) = starts t h
  final_all from p starts final t (more {s} way st) = final t (round_pair p s t (final_all from p starts final s way) st)

  rounds_start : (from : ℕ → Bool) (k s : ℕ) → from s ≡ true → rounds n r from k s ≡ true
  unfolding rounds round
  rounds_start from zero s h = h
  rounds_start from (suc k) s h = or_left _ _ (rounds_start from k s h)

  -- However many rounds are run, nothing else is reached.
  pub rounds_sound : (from : ℕ → Bool) (k t : ℕ) → rounds n r from k t ≡ true → Reached from r t
  unfolding rounds
  rounds_sound from zero t h = here h
  rounds_sound from (suc k) t h =
      ⊎_elim (rounds_sound from k t) (λ w. more (rounds_sound from k w.0 w.1) w.2) (round_cases (rounds n r from k) t h)

  final_or_adds : (p : ℕ → Bool) → Final n r p ⊎ Added n r p
  final_or_adds p = ⊎_elim (λ e. inl (final e)) (λ e. inr (adds (all_false n kept e))) (true_or_false (all n kept))
    where
      kept : ℕ → Bool
      kept t = implies (round n r p t) (p t)

      final : all n kept ≡ true → Final n r p
      final e t h = ⊎_elim (λ i. i) (λ w. implies_at _ _ (all_at n kept e t (between w.0 t w.2).1) h) (round_cases p t h)

      adds : (t : ℕ) × (t < n) × (kept t ≡ false) → Added n r p
      adds w = let broken = implies_false _ _ w.2 in (w.0, w.1, broken.1, broken.0)

  final_next : (p : ℕ → Bool) → Final n r p → Final n r (round n r p)
  final_next p final t h = ⊎_elim (λ i. i) (λ w. round_pair p w.0 t (final w.0 w.1) w.2) (round_cases (round n r p) t h)

  final_or_many : (from : ℕ → Bool) (k : ℕ) → Final n r (rounds n r from k) ⊎ (k ≤ count n (rounds n r from k))
  unfolding rounds round
  final_or_many from zero = inr zero-le
  final_or_many from (suc k) =
      ⊎_elim (λ f. inl (final_next _ f)) (λ h. ⊎_elim (λ f. inl (final_next _ f)) (λ w. inr (one h w)) (final_or_adds (rounds n r from k)))
      (final_or_many from k)
    where
      one : k ≤ count n (rounds n r from k) → Added n r (rounds n r from k) → k < count n (rounds n r from (suc k))
      one h w = omega (arith, count_more n (rounds n r from k) (rounds n r from (suc k)) (λ s. or_left _ _) w.0 w.1 w.2 w.3)

  -- After N or more rounds the set is final.
  rounds_final : (from : ℕ → Bool) (k : ℕ) → n ≤ k → Final n r (rounds n r from k)
  rounds_final from k enough = ⊎_elim (λ f. f) (λ h. ⊎_elim (λ f. f) (λ w. absurd (full h w)) (final_or_adds (rounds n r from k))) (final_or_many from k)
    where
      full : k ≤ count n (rounds n r from k) → Added n r (rounds n r from k) → ⊥
      full h w = omega (arith, count_more n (rounds n r from k) (λ s. true) (λ s e. refl) w.0 w.1 w.2 refl, count_all n)

  pub rounds_exact : (from : ℕ → Bool) (k : ℕ) → n ≤ k → (t : ℕ) → (rounds n r from k t ≡ true) ↔ Reached from r t
  rounds_exact from k enough t = (rounds_sound from k t, final_all from (rounds n r from k) (rounds_start from k) (rounds_final from k enough) t)

  within_rounds : (k s t : ℕ) → within n k r s t ≡ rounds n r (eqb s) k t
  unfolding within rounds round
  within_rounds zero s t = refl
  within_rounds (suc k) s t = rw add-one at (rounds_next n r (eqb s) k (within n k r s) (within_rounds k s) t)

  -- Condition 66's reach, from any state.
  pub reach_exact : (s t : ℕ) → (reach n r s t ≡ true) ↔ Reached (eqb s) r t
  unfolding reach
  reach_exact s t = let same : reach n r s t ≡ rounds n r (eqb s) n t = within_rounds n s t in rw same (rounds_exact (eqb s) n (omega arith) t)
