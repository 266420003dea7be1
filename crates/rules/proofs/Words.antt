-- The tables in the work words: a member of a set or of a row is a state below n that a set can hold.
use Prim.Native.Nat.{ℕ, ◌<◌, ◌≤◌}
use native.Mathlib.Omega.{arith}
use mathlib.Core.Path.{◌≡◌, refl, sym, ap₂, ◌∙◌, fun_ext, subst}
use mathlib.Core.Logic.{◌⊎◌, ⊎_elim, inl, inr, ◌↔◌}
use mathlib.Core.Bool.{Bool, true, false, ◌&&◌, ◌||◌, beq, true≢false}
use mathlib.Core.List.{List}
use lib.Dec.{ltb, eqb}
use borrow.Author.Tests.{lt-ltb, ltb-true, eqb-true}
use Rattle.states.specs.Search.{all, any, Search, must, each, holds}
use Rattle.states.specs.Sets.{capacity, has}
use Rattle.states.specs.declared.StateSet.{StateSet}
use Rattle.states.specs.Relations.{rel, Reached, here, more, reach}
use Rattle.states.proofs.Search.{and_left, and_right, and_both, or_cases, bool_ext, all_cong, any_true}
use Rattle.states.proofs.EntryLaws.{entry_below}
use Rattle.states.proofs.Rows.{rel_between, rel_mem}
use Rattle.states.proofs.Members.{has_below}
use Rattle.states.proofs.Reach.{reach_exact}
use Rattle.semantics.specs.Conditions.{in_set, same_set}
use Rattle.rules.specs.Words.{word_set, word_relation}
use Rattle.rules.proofs.Searches.{StatesOnly, all_bounds, in_set_same, in_set_part}
use Rattle.search.proofs.Breaches.{in_set_all}

-- Members that a set can hold, masked to the n states.
pub masked : (p : ℕ → Bool) (n s : ℕ) → (p s ≡ true → s < capacity) → (p s && (ltb s capacity && ltb s n)) ≡ (ltb s n && p s)
masked p n s low =
    bool_ext _ _
    (λ h. and_both _ _ (and_right (ltb s capacity) _ (and_right (p s) _ h)) (and_left _ (ltb s capacity && ltb s n) h))
    (λ h. let m = and_right (ltb s n) _ h in and_both _ _ m (and_both _ _ (lt-ltb s capacity (low m)) (and_left _ (p s) h)))

pub set_small : (n : ℕ) (work : List ℕ) (i : ℕ) → StatesOnly n (word_set n work i)
unfolding word_set
set_small n work i s h = (entry_below work i s (and_right (ltb s n) _ h), ltb-true s n (and_left (ltb s n) _ h))

pub rel_small : (n : ℕ) (rows : List ℕ) (s : ℕ) → StatesOnly n (rel n rows s)
rel_small n rows s t h = (entry_below rows s t (rel_mem n rows s t h), (rel_between n rows s t h).1)

pub relation_small : (n : ℕ) (work : List ℕ) (r s : ℕ) → StatesOnly n (word_relation n work r s)
unfolding word_relation
relation_small n work r s = rel_small n _ s

pub ends_small : (n : ℕ) (p : ℕ → Bool) (rows : List ℕ) → StatesOnly n (λ t. any n (λ s. p s && rel n rows s t))
ends_small n p rows t h = let w = any_true n _ h in rel_small n rows w.0 t (and_right (p w.0) _ w.2)

-- Sets given by their members.
pub leads_cong : (n : ℕ) (r : ℕ → ℕ → Bool) (x y : StateSet) (p q : ℕ → Bool) → ((s : ℕ) → has x s ≡ p s) → ((s : ℕ) → has y s ≡ q s)
    → holds (in_set n (has x) (λ s. in_set n (r s) (λ t. must (has y t)))) ≡ holds (in_set n p (λ s. in_set n (r s) (λ t. must (q t))))
leads_cong n r x y p q from into = ap₂ (λ p q. holds (in_set n p (λ s. in_set n (r s) (λ t. must (q t))))) (fun_ext from) (fun_ext into)

-- If `states` has all n states, requiring the ends to be in it leaves out no pair.
pub all_through : (n : ℕ) (work : List ℕ) (a : ℕ) (f : ℕ → ℕ → Search) (x states : StateSet) (p : ℕ → Bool) → ((s : ℕ) → has x s ≡ p s)
    → ((t : ℕ) → has states t ≡ (ltb t capacity && ltb t n))
    → holds (in_set n (has x) (λ s. in_set n (λ t. word_relation n work a s t && has states t) (f s)))
    ≡ holds (in_set n p (λ s. in_set n (word_relation n work a s) (f s)))
all_through n work a f x states p from all =
    in_set_same n _ p _ _ from (λ s. in_set_part n _ _ _ (λ t st out.
    let low = relation_small n work a s t st in absurd (true≢false (sym (all t ∙ and_both _ _ (lt-ltb t capacity low.0) (lt-ltb t n low.1)) ∙ out))))

-- If a set can hold all n states, a search through those below n is one at each.
pub in_all : (n : ℕ) (states : StateSet) (f : ℕ → Search) → n ≤ capacity → ((s : ℕ) → has states s ≡ (ltb s capacity && ltb s n))
    → in_set n (has states) f ≡ each n f
in_all n states f most all = in_set_all n (has states) f (λ s l. all s ∙ and_both _ _ (lt-ltb s capacity (omega arith)) (lt-ltb s n l))

pub same_cong : (n : ℕ) (x y : StateSet) (p q : ℕ → Bool) → ((s : ℕ) → has x s ≡ p s) → ((s : ℕ) → has y s ≡ q s)
    → same_set n (has x) (has y) ≡ same_set n p q
same_cong n x y p q left right = ap₂ (same_set n) (fun_ext left) (fun_ext right)

-- Two sets masked to the n states are the same iff they have the same members below n.
pub same_masked : (n : ℕ) (x y : StateSet)
    → all capacity (λ s. beq (has x s && (ltb s capacity && ltb s n)) (has y s && (ltb s capacity && ltb s n))) ≡ same_set n (has x) (has y)
unfolding same_set
same_masked n x y =
    all_cong capacity _ _ (λ s l. ap₂ beq (masked (has x) n s (has_below x s)) (masked (has y) n s (has_below y s)))
    ∙ all_bounds capacity n _ (λ s e. below s (breach (ltb s n) (has x s) (has y s) e))
    ∙ all_cong n _ _ (λ s l. rw (lt-ltb s n l))
  where
    breach : (b p q : Bool) → beq (b && p) (b && q) ≡ false → (b ≡ true) × ((p ≡ true) ⊎ (q ≡ true))
    breach true true q e = (refl, inl refl)
    breach true false true e = (refl, inr refl)
    breach true false false e = absurd (true≢false e)
    breach false p q e = absurd (true≢false e)

    below : (s : ℕ) → (ltb s n ≡ true) × ((has x s ≡ true) ⊎ (has y s ≡ true)) → (s < capacity) × (s < n)
    below s w = (⊎_elim (has_below x s) (has_below y s) w.1, ltb-true s n w.0)

-- Condition 66's reach from s, as the set reached from s alone.
pub reached_set : (n : ℕ) (rows : List ℕ) (s : ℕ) (from reached : StateSet) → s < capacity → ((t : ℕ) → has from t ≡ (ltb t capacity && eqb s t))
    → ((t : ℕ) → (has reached t ≡ true) ↔ Reached (has from) (rel n rows) t) → (t : ℕ) → has reached t ≡ reach n (rel n rows) s t
reached_set n rows s from reached low alone exact t = bool_ext _ _ (λ h. back.1 (way.0 h)) (λ h. way.1 (back.0 h))
  where
    start : (u : ℕ) → has from u ≡ eqb s u
    start u = alone u ∙ bool_ext _ _ (and_right (ltb u capacity) (eqb s u)) (λ e. and_both _ _ (lt-ltb u capacity (rw (eqb-true s u e) at low)) e)

    way : (has reached t ≡ true) ↔ Reached (eqb s) (rel n rows) t
    way = subst (λ p. (has reached t ≡ true) ↔ Reached p (rel n rows) t) (fun_ext start) (exact t)

    back : (reach n (rel n rows) s t ≡ true) ↔ Reached (eqb s) (rel n rows) t
    back = reach_exact n (rel n rows) (rel_between n rows) s t

-- Every pair starts below n and ends at a state below n that a set can hold.
abbrev Pairs : ℕ → (ℕ → ℕ → Bool) → Type 0
Pairs n r = (s t : ℕ) → r s t ≡ true → (s < n) × ((t < capacity) × (t < n))

relation_pairs : (n : ℕ) (work : List ℕ) (r : ℕ) → Pairs n (word_relation n work r)
unfolding word_relation
relation_pairs n work r s t h = ((rel_between n _ s t h).0, rel_small n _ s t h)

join_pairs : (n : ℕ) (f g : ℕ → ℕ → Bool) → Pairs n f → Pairs n g → Pairs n (λ s t. f s t || g s t)
join_pairs n f g left right s t h = ⊎_elim (left s t) (right s t) (or_cases (f s t) (g s t) h)

-- The changes that others or either side may make: the pairs of 66.
abbrev pub anyone : ℕ → List ℕ → ℕ → ℕ → ℕ → ℕ → ℕ → Bool
anyone n work r left right s t = word_relation n work r s t || word_relation n work left s t || word_relation n work right s t

anyone_pairs : (n : ℕ) (work : List ℕ) (r left right : ℕ) → Pairs n (anyone n work r left right)
anyone_pairs n work r left right = join_pairs n _ _ (join_pairs n _ _ (relation_pairs n work r) (relation_pairs n work left)) (relation_pairs n work right)

-- From a state that a set can hold, the pairs that start in such states suffice for the reach: no pair ends at any other state.
reach_rows : (n : ℕ) (rows : List ℕ) (g : ℕ → ℕ → Bool) → Pairs n g → ((s t : ℕ) → rel n rows s t ≡ (ltb s capacity && g s t))
    → (s t : ℕ) → s < capacity → reach n (rel n rows) s t ≡ reach n g s t
reach_rows n rows g pairs same s t low =
    let part = reach_exact n (rel n rows) (rel_between n rows) s t in
    let whole = reach_exact n g (λ a b e. ((pairs a b e).0, (pairs a b e).1.1)) s t in
    bool_ext _ _ (λ h. whole.1 (onto (part.0 h))) (λ h. part.1 (into (whole.0 h)).1)
  where
    onto : {u : ℕ} → Reached (eqb s) (rel n rows) u → Reached (eqb s) g u
    onto (here e) = here e
    onto (more {s = a} {t = b} way e) = more (onto way) (and_right (ltb a capacity) (g a b) (sym (same a b) ∙ e))

    into : {u : ℕ} → Reached (eqb s) g u → (u < capacity) × Reached (eqb s) (rel n rows) u
    into (here {s = a} e) = (rw (eqb-true s a e) at low, here e)
    into (more {s = a} {t = b} way e) =
        let before = into way in ((pairs a b e).1.0, more before.1 (same a b ∙ and_both _ _ (lt-ltb a capacity before.0) e))

pub anyone_reach : (n : ℕ) (work : List ℕ) (r left right : ℕ) (rows : List ℕ) → ((s t : ℕ) → rel n rows s t ≡ (ltb s capacity && anyone n work r left right s t))
    → (s t : ℕ) → s < capacity → reach n (rel n rows) s t ≡ reach n (anyone n work r left right) s t
anyone_reach n work r left right rows = reach_rows n rows (anyone n work r left right) (anyone_pairs n work r left right)
