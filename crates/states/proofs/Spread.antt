-- A loop whose rounds add the ends of the pairs that start in a state which the round before added: once a round adds none, it has
-- reached the whole closure and nothing else.
use Prim.Native.Nat.{ℕ, ◌<◌}
use mathlib.Core.Path.{◌≡◌, sym, ap, ◌∙◌}
use mathlib.Core.Logic.{◌⊎◌, ⊎_elim, inl, inr, ◌↔◌}
use mathlib.Core.Bool.{Bool, true, false, not, ◌&&◌, ◌||◌, true≢false}
use borrow.Author.Tests.{not-true}
use Rattle.states.specs.Search.{implies, all, any}
use Rattle.states.specs.Relations.{Reached, here, more}
use Rattle.states.proofs.Search.{and_left, and_right, and_both, or_left, or_right, or_cases, implies_false, not_true_false, true_or_false, all_false, any_intro, any_true}
use Rattle.states.proofs.Reach.{Between, Final, round_cases, final_all, count, count_more}

-- What the loop keeps: `reached` has the starts and states of the closure alone, and every pair that starts in `earlier`, which is what
-- was reached before the last round, ends in it.
pub record Spread (from : ℕ → Bool) (r : ℕ → ℕ → Bool) (earlier reached : ℕ → Bool) : Type 0 where
  pub starts : (s : ℕ) → from s ≡ true → reached s ≡ true
  pub sound : (t : ℕ) → reached t ≡ true → Reached from r t
  pub inner : (s : ℕ) → earlier s ≡ true → reached s ≡ true
  pub next : (s t : ℕ) → earlier s ≡ true → r s t ≡ true → reached t ≡ true

pub spread_none : (from : ℕ → Bool) (r : ℕ → ℕ → Bool) (earlier : ℕ → Bool) → ((s : ℕ) → earlier s ≡ false) → Spread from r earlier from
spread_none from r earlier none =
    record { starts = λ s e. e; sound = λ t e. here e; inner = λ s e. absurd (out s e); next = λ s t e st. absurd (out s e) }
  where
    out : (s : ℕ) → earlier s ≡ true → ⊥
    out s e = true≢false (sym e ∙ none s)

module _ (n : ℕ) (r : ℕ → ℕ → Bool) (between : Between n r) (from earlier reached : ℕ → Bool) (old : Spread from r earlier reached) where
  -- If the last round added no state, the closure is reached.
  pub spread_all : ((s : ℕ) → reached s ≡ true → earlier s ≡ true) → (t : ℕ) → (reached t ≡ true) ↔ Reached from r t
  spread_all none t = (old.sound t, final_all n r between from reached old.starts final t)
    where
      final : Final n r reached
      final u h = ⊎_elim (λ e. e) (λ w. old.next w.0 u (none w.0 w.1) w.2) (round_cases n r between reached u h)

  -- One round more: the pairs that start in a state added last have their ends in what is joined.
  pub spread_more : (added ends joined : ℕ → Bool) → ((s : ℕ) → added s ≡ (reached s && not (earlier s)))
      → ((t : ℕ) → ends t ≡ any n (λ s. added s && r s t)) → ((t : ℕ) → joined t ≡ (reached t || ends t)) → Spread from r reached joined
  spread_more added ends joined added-are ends_are joined-are = record {
    starts = λ s e. joined-are s ∙ or_left _ _ (old.starts s e);
    sound = λ t e. ⊎_elim (old.sound t) (λ h. end t (any_true n _ (sym (ends_are t) ∙ h))) (or_cases (reached t) _ (sym (joined-are t) ∙ e));
    inner = λ s e. joined-are s ∙ or_left _ _ e;
    next = λ s t e st. joined-are t ∙ followed s t e st (true_or_false (earlier s));
  }
    where
      end : (t : ℕ) → (s : ℕ) × (s < n) × ((added s && r s t) ≡ true) → Reached from r t
      end t w =
          let new = sym (added-are w.0) ∙ and_left _ (r w.0 t) w.2 in
          more (old.sound w.0 (and_left (reached w.0) _ new)) (and_right (added w.0) _ w.2)

      followed : (s t : ℕ) → reached s ≡ true → r s t ≡ true → (earlier s ≡ true) ⊎ (earlier s ≡ false) → (reached t || ends t) ≡ true
      followed s t e st (inl h) = or_left _ _ (old.next s t h st)
      followed s t e st (inr h) =
          let new = added-are s ∙ and_both _ _ e (ap not h) in
          or_right (reached t) _ (ends_are t ∙ any_intro n _ s (between s t st).0 (and_both _ _ new st))

  -- The measure of the loop is how many states were not reached before the last round.
  pub spread_less : (k : ℕ) → all k (λ s. implies (reached s) (earlier s)) ≡ false → count k (λ s. not (reached s)) < count k (λ s. not (earlier s))
  spread_less k some =
      let one = all_false k _ some in
      let new = implies_false _ _ one.2 in
      count_more k _ _ outer one.0 one.1 (ap not new.0) (ap not new.1)
    where
      outer : (s : ℕ) → not (reached s) ≡ true → not (earlier s) ≡ true
      outer s out = ap not (not_true_false _ (λ e. true≢false (sym (old.inner s e) ∙ not-true _ out)))
