-- Tables that are compared by their members: they are the same exactly if their numbers are equal.
use Prim.Native.Nat.{ℕ, ◌+◌, ◌*◌, ◌/◌, ◌%◌, ◌<◌}
use mathlib.Core.Bool.{Bool, true, beq}
use mathlib.Core.Path.{◌≡◌, sym, ◌∙◌, ap₂}
use native.Mathlib.Nat.{mul_comm, mod-lt, div-lt_iff_lt-mul}
use borrow.Author.Tests.{eqb-true, eq-eqb}
use lib.Dec.{eqb}
use lib.Arith.{digits_div, digits_mod}
use Rattle.states.specs.Search.{all}
use Rattle.states.proofs.Search.{all_at, all_intro, beq_true, beq_refl, bool_ext}
use Rattle.states.proofs.Where.{where_same, where_alike}
use Rattle.semantics.specs.Conditions.{same_set}
use Rattle.form.specs.Members.{set_where, relation_where}
use Rattle.form.proofs.Verdicts.{pair_below, some_row}

module _ (n : ℕ) (p q : ℕ → Bool) where
  set_same : same_set n p q ≡ true → set_where n p ≡ set_where n q
  unfolding same_set set_where
  set_same h = where_same n p q (λ s l. beq_true _ _ (all_at n _ h s l))

  set_alike : set_where n p ≡ set_where n q → same_set n p q ≡ true
  unfolding same_set set_where
  set_alike e = all_intro n _ (λ s l. rw (where_alike n p q e s l) (beq_refl (q s)))

  pub set_compared : same_set n p q ≡ eqb (set_where n p) (set_where n q)
  set_compared = bool_ext _ _ (λ h. eq-eqb _ _ (set_same h)) (λ e. set_alike (eqb-true _ _ e))

module _ (n : ℕ) (r q : ℕ → ℕ → Bool) where
  pub relation_alike_at : ((s t : ℕ) → s < n → t < n → r s t ≡ q s t) → relation_where n r ≡ relation_where n q
  unfolding relation_where
  relation_alike_at same =
      where_same (n * n) _ _ (λ k l. let some = some_row n k l in same (k / n) (k % n) ((div-lt_iff_lt-mul some).1 l) (mod-lt k some))

  relation_same : all n (λ s. all n (λ t. beq (r s t) (q s t))) ≡ true → relation_where n r ≡ relation_where n q
  relation_same h = relation_alike_at (λ s t l m. beq_true _ _ (all_at n _ (all_at n _ h s l) t m))

  relation_alike : relation_where n r ≡ relation_where n q → all n (λ s. all n (λ t. beq (r s t) (q s t))) ≡ true
  unfolding relation_where
  relation_alike e = all_intro n _ (λ s l. all_intro n _ (λ t m. rw (at s t l m) (beq_refl (q s t))))
    where
      at : (s t : ℕ) → s < n → t < n → r s t ≡ q s t
      at s t l m =
          let pair : (f : ℕ → ℕ → Bool) → f ((n * s + t) / n) ((n * s + t) % n) ≡ f s t =
          λ f. rw (mul_comm n s) (ap₂ f (digits_div s m) (digits_mod s m))
          in
          sym (pair r) ∙ where_alike (n * n) _ _ e (n * s + t) (pair_below n s t l m) ∙ pair q

  pub relation_compared : all n (λ s. all n (λ t. beq (r s t) (q s t))) ≡ eqb (relation_where n r) (relation_where n q)
  relation_compared = bool_ext _ _ (λ h. eq-eqb _ _ (relation_same h)) (λ e. relation_alike (eqb-true _ _ e))
