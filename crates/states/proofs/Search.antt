-- Laws of the bounded quantifiers and of the search for a breach, each by recursion on the bound: a state below suc n is below n or is n.
use Prim.Native.Nat.{ℕ, zero, suc, ◌+◌, ◌<◌, ◌≤◌}
use native.Mathlib.Numerals.{add-one}
use native.Mathlib.Nat.{add-zero, add-suc, eq-or-lt_of_le, le_antisymm, le_of_suc-le-suc, not-suc-le-zero}
use native.Mathlib.Omega.{arith}
use borrow.Author.Tests.{not-true, not-false}
use mathlib.Core.Path.{◌≡◌, refl, sym, ap, ap₂, ◌∙◌, subst}
use mathlib.Core.Logic.{◌⊎◌, ⊎_elim, inl, inr}
use mathlib.Core.Bool.{Bool, true, false, not, ◌&&◌, ◌||◌, beq, and-true, and_assoc, or-false, or_assoc, true≢false, false≢true}
use mathlib.Core.Option.{none, some}
use Rattle.states.specs.Search.{implies, all, any, Search, must, given, named, or_else, each, holds}

-- Truth values.
pub and_left : (a b : Bool) → (a && b) ≡ true → a ≡ true
and_left true b e = refl
and_left false b e = e

pub and_right : (a b : Bool) → (a && b) ≡ true → b ≡ true
and_right true b e = e
and_right false b e = absurd (false≢true e)

pub and_both : (a b : Bool) → a ≡ true → b ≡ true → (a && b) ≡ true
and_both a b ha hb = rw (ha, hb)

pub or_left : (a b : Bool) → a ≡ true → (a || b) ≡ true
or_left a b h = rw h

pub or_right : (a b : Bool) → b ≡ true → (a || b) ≡ true
or_right true b h = refl
or_right false b h = h

pub or_cases : (a b : Bool) → (a || b) ≡ true → (a ≡ true) ⊎ (b ≡ true)
or_cases true b e = inl refl
or_cases false b e = inr e

pub or_none : (a b : Bool) → a ≡ false → b ≡ false → (a || b) ≡ false
or_none a b ha hb = rw (ha, hb)

pub implies_intro : (a b : Bool) → (a ≡ true → b ≡ true) → implies a b ≡ true
unfolding implies
implies_intro true b h = h refl
implies_intro false b h = refl

pub implies_at : (a b : Bool) → implies a b ≡ true → a ≡ true → b ≡ true
unfolding implies
implies_at true b e h = e
implies_at false b e h = absurd (false≢true h)

pub implies_false : (a b : Bool) → implies a b ≡ false → (a ≡ true) × (b ≡ false)
unfolding implies
implies_false true b e = (refl, e)
implies_false false b e = absurd (true≢false e)

-- Two truth values are equal if each implies the other.
pub bool_ext : (a b : Bool) → (a ≡ true → b ≡ true) → (b ≡ true → a ≡ true) → a ≡ b
bool_ext true b to back = sym (to refl)
bool_ext false true to back = back refl
bool_ext false false to back = refl

pub beq_refl : (a : Bool) → beq a a ≡ true
beq_refl true = refl
beq_refl false = refl

pub beq_true : (a b : Bool) → beq a b ≡ true → a ≡ b
beq_true true true e = refl
beq_true true false e = absurd (false≢true e)
beq_true false true e = absurd (false≢true e)
beq_true false false e = refl

pub beq_false : (a : Bool) → beq a false ≡ not a
beq_false true = refl
beq_false false = refl

pub turned : (a b : Bool) → a ≡ not b → b ≡ not a
turned a true e = sym (ap not e)
turned a false e = sym (ap not e)

pub not_true_false : (a : Bool) → (a ≡ true → ⊥) → a ≡ false
not_true_false true h = absurd (h refl)
not_true_false false h = refl

pub true_or_false : (a : Bool) → (a ≡ true) ⊎ (a ≡ false)
true_or_false true = inl refl
true_or_false false = inr refl

-- A state below suc n is n or is below n.
pub below_cases : (P : ℕ → Type 0) (n s : ℕ) → s < suc n → P n → (s < n → P s) → P s
below_cases P n s l last low = ⊎_elim (λ e. subst P (sym e) last) low (eq-or-lt_of_le (le_of_suc-le-suc l))

-- All.
pub all_intro : (n : ℕ) (p : ℕ → Bool) → ((s : ℕ) → s < n → p s ≡ true) → all n p ≡ true
unfolding all
all_intro zero p h = refl
all_intro (suc n) p h = and_both _ _ (all_intro n p (λ s l. h s (omega arith))) (h n (omega arith))

pub all_at : (n : ℕ) (p : ℕ → Bool) → all n p ≡ true → (s : ℕ) → s < n → p s ≡ true
unfolding all
all_at zero p h s l = absurd (not-suc-le-zero l)
all_at (suc n) p h s l = below_cases (λ t. p t ≡ true) n s l (and_right (all n p) (p n) h) (all_at n p (and_left (all n p) (p n) h) s)

-- The step of a loop that counts the states up.
pub all_next : (n : ℕ) (p : ℕ → Bool) → all (n + 1) p ≡ (all n p && p n)
unfolding all
all_next n p = rw add-one

-- The end of such a loop.
pub all_done : (s n : ℕ) (p : ℕ → Bool) → s ≤ n → n ≤ s → all s p ≡ all n p
all_done s n p up down = ap (λ k. all k p) (le_antisymm up down)

pub all_cong : (n : ℕ) (p q : ℕ → Bool) → ((s : ℕ) → s < n → p s ≡ q s) → all n p ≡ all n q
unfolding all
all_cong zero p q h = refl
all_cong (suc n) p q h = ap₂ ◌&&◌ (all_cong n p q (λ s l. h s (omega arith))) (h n (omega arith))

pub all_and : (n : ℕ) (p q : ℕ → Bool) → all n (λ s. p s && q s) ≡ (all n p && all n q)
all_and n p q =
    bool_ext _ _ (λ h. and_both _ _ (all_intro n p (λ s l. and_left (p s) _ (all_at n _ h s l))) (all_intro n q (λ s l. and_right (p s) _ (all_at n _ h s l))))
    (λ h. all_intro n _ (λ s l. and_both _ _ (all_at n p (and_left (all n p) _ h) s l) (all_at n q (and_right (all n p) _ h) s l)))

-- Any.
pub any_intro : (n : ℕ) (p : ℕ → Bool) (s : ℕ) → s < n → p s ≡ true → any n p ≡ true
unfolding any
any_intro zero p s l h = absurd (not-suc-le-zero l)
any_intro (suc n) p s l h =
    below_cases (λ t. p t ≡ true → any (suc n) p ≡ true) n s l (or_right (any n p) (p n)) (λ k e. or_left _ _ (any_intro n p s k e)) h

pub any_none : (n : ℕ) (p : ℕ → Bool) → ((s : ℕ) → s < n → p s ≡ false) → any n p ≡ false
unfolding any
any_none zero p h = refl
any_none (suc n) p h = or_none _ _ (any_none n p (λ s l. h s (omega arith))) (h n (omega arith))

pub any_at : (n : ℕ) (p : ℕ → Bool) → any n p ≡ false → (s : ℕ) → s < n → p s ≡ false
any_at n p h s l = not_true_false _ (λ e. true≢false (sym (any_intro n p s l e) ∙ h))

pub any_cong : (n : ℕ) (p q : ℕ → Bool) → ((s : ℕ) → s < n → p s ≡ q s) → any n p ≡ any n q
unfolding any
any_cong zero p q h = refl
any_cong (suc n) p q h = ap₂ ◌||◌ (any_cong n p q (λ s l. h s (omega arith))) (h n (omega arith))

-- The first state, separated from the others.
pub any_first : (n : ℕ) (p : ℕ → Bool) → any (suc n) p ≡ (p 0 || any n (λ s. p (suc s)))
unfolding any
any_first zero p = sym (or-false (p 0))
any_first (suc n) p = ap (λ b. b || p (suc n)) (any_first n p) ∙ or_assoc (p 0) _ (p (suc n))

pub any_true : (n : ℕ) (p : ℕ → Bool) → any n p ≡ true → (s : ℕ) × (s < n) × (p s ≡ true)
unfolding any
any_true zero p h = absurd (false≢true h)
any_true (suc n) p h = ⊎_elim (λ e. up (any_true n p e)) (λ e. (n, omega arith, e)) (or_cases _ _ h)
  where
    up : (s : ℕ) × (s < n) × (p s ≡ true) → (s : ℕ) × (s < suc n) × (p s ≡ true)
    up w = (w.0, omega arith, w.2)

-- The step of a loop that counts the states up.
pub any_more : (n : ℕ) (p : ℕ → Bool) → any (n + 1) p ≡ (any n p || p n)
unfolding any
any_more n p = rw add-one

pub any_done : (s n : ℕ) (p : ℕ → Bool) → s ≤ n → n ≤ s → any s p ≡ any n p
any_done s n p up down = ap (λ k. any k p) (le_antisymm up down)

pub all_false : (n : ℕ) (p : ℕ → Bool) → all n p ≡ false → (s : ℕ) × (s < n) × (p s ≡ false)
all_false n p h = ⊎_elim (λ e. breach (any_true n _ e)) (λ e. absurd (true≢false (sym (kept e) ∙ h))) (true_or_false (any n (λ s. not (p s))))
  where
    kept : any n (λ s. not (p s)) ≡ false → all n p ≡ true
    kept e = all_intro n p (λ s l. not-false _ (any_at n _ e s l))

    breach : (s : ℕ) × (s < n) × (not (p s) ≡ true) → (s : ℕ) × (s < n) × (p s ≡ false)
    breach w = (w.0, w.1, not-true _ w.2)

-- The states below m + n are those below m, and those below n moved up by m.
pub all_split : (m n : ℕ) (p : ℕ → Bool) → all (m + n) p ≡ (all m p && all n (λ s. p (m + s)))
unfolding all
all_split m zero p = rw add-zero (sym (and-true (all m p)))
all_split m (suc n) p = rw add-suc (ap (λ b. b && p (m + n)) (all_split m n p) ∙ and_assoc (all m p) _ (p (m + n)))

pub any_split : (m n : ℕ) (p : ℕ → Bool) → any (m + n) p ≡ (any m p || any n (λ s. p (m + s)))
unfolding any
any_split m zero p = rw add-zero (sym (or-false (any m p)))
any_split m (suc n) p = rw add-suc (ap (λ b. b || p (m + n)) (any_split m n p) ∙ or_assoc (any m p) _ (p (m + n)))

pub all_not : (n : ℕ) (p : ℕ → Bool) → all n (λ s. not (p s)) ≡ not (any n p)
unfolding all any
all_not zero p = refl
all_not (suc n) p = ap (λ b. b && not (p n)) (all_not n p) ∙ neither (any n p) (p n)
  where
    neither : (a b : Bool) → (not a && not b) ≡ not (a || b)
    neither true b = refl
    neither false b = refl

-- A condition holds iff its search finds none.
pub holds_none : (x : Search) → holds x ≡ true → x ≡ none
unfolding holds
holds_none none e = refl
holds_none (some found) e = absurd (false≢true e)

pub none_holds : (x : Search) → x ≡ none → holds x ≡ true
unfolding holds
none_holds x e = ap holds e

pub holds_must : (b : Bool) → holds (must b) ≡ b
unfolding holds must
holds_must true = refl
holds_must false = refl

pub holds_given : (b : Bool) (x : Search) → holds (given b x) ≡ implies b (holds x)
unfolding holds given implies
holds_given true x = refl
holds_given false x = refl

pub holds_named : (s : ℕ) (x : Search) → holds (named s x) ≡ holds x
unfolding holds named
holds_named s none = refl
holds_named s (some found) = refl

pub holds_or_else : (x y : Search) → holds (or_else x y) ≡ (holds x && holds y)
unfolding holds or_else
holds_or_else none y = refl
holds_or_else (some found) y = refl

pub holds_each : (n : ℕ) (f : ℕ → Search) → holds (each n f) ≡ all n (λ s. holds (f s))
unfolding each all holds
holds_each zero f = refl
holds_each (suc n) f = holds_or_else (each n f) (named n (f n)) ∙ ap₂ ◌&&◌ (holds_each n f) (holds_named n (f n))

pub must_none : (b : Bool) → must b ≡ none → b ≡ true
must_none b e = sym (holds_must b) ∙ none_holds _ e

pub given_none : (b : Bool) (x : Search) → given b x ≡ none → b ≡ true → x ≡ none
given_none b x e h = holds_none x (implies_at b _ (sym (holds_given b x) ∙ none_holds _ e) h)

pub each_none : (n : ℕ) (f : ℕ → Search) → each n f ≡ none → (s : ℕ) → s < n → f s ≡ none
each_none n f e s l = holds_none _ (all_at n _ (sym (holds_each n f) ∙ none_holds _ e) s l)

pub each_cong : (n : ℕ) (f g : ℕ → Search) → ((s : ℕ) → s < n → f s ≡ g s) → each n f ≡ each n g
unfolding each
each_cong zero f g h = refl
each_cong (suc n) f g h = ap₂ or_else (each_cong n f g (λ s l. h s (omega arith))) (ap (named n) (h n (omega arith)))
