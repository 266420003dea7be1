-- Relations as rows: a pair lies between states below n, and a row has only states that a set can hold.
use Prim.Native.Nat.{ℕ, ◌*◌, ◌<◌, ◌≤◌}
use native.Mathlib.Decide.{dec_lt}
use native.Mathlib.Omega.{arith}
use mathlib.Core.Path.{◌≡◌, refl, sym, ap, ◌∙◌}
use mathlib.Core.Bool.{Bool, true, false, ◌&&◌, ◌||◌, true≢false, and-true}
use mathlib.Core.List.{List}
use lib.ListN.{length}
use lib.Dec.{ltb, eqb}
use borrow.Author.Tests.{ltb-true, lt-ltb, eqb-true, eq-eqb}
use Rattle.states.specs.Search.{all, any}
use Rattle.states.specs.Sets.{set_words, capacity, mem, entry_at}
use Rattle.states.specs.Relations.{rel}
use Rattle.states.proofs.Search.{and_left, and_right, and_both, bool_ext, not_true_false, all_at, all_intro, any_intro, any_true}
use Rattle.states.proofs.Reach.{Between, joined_between}
use Rattle.states.proofs.EntryLaws.{entry_below, entry_past}

pub rel_between : (n : ℕ) (rows : List ℕ) → Between n (rel n rows)
unfolding rel
rel_between n rows s t h =
    let ends = and_left (ltb s n && ltb t n) _ h in
    (ltb-true s n (and_left (ltb s n) (ltb t n) ends), ltb-true t n (and_right (ltb s n) (ltb t n) ends))

pub rel_mem : (n : ℕ) (rows : List ℕ) (s t : ℕ) → rel n rows s t ≡ true → mem (entry_at rows s) t ≡ true
unfolding rel
rel_mem n rows s t h = and_right (ltb s n && ltb t n) _ h

pub rel_intro : (n : ℕ) (rows : List ℕ) (s t : ℕ) → s < n → t < n → mem (entry_at rows s) t ≡ true → rel n rows s t ≡ true
unfolding rel
rel_intro n rows s t hs ht h = rw (lt-ltb s n hs, lt-ltb t n ht) h

-- A row masked to the n states.
pub rel_row : (n : ℕ) (rows : List ℕ) (s t : ℕ) → s < n → (mem (entry_at rows s) t && (ltb t capacity && ltb t n)) ≡ rel n rows s t
rel_row n rows s t l =
    bool_ext _ _
    (λ h. rel_intro n rows s t l (ltb-true t n (and_right (ltb t capacity) _ (and_right (mem (entry_at rows s) t) _ h))) (and_left _ (ltb t capacity && ltb t n) h))
    (λ h. let m = rel_mem n rows s t h in and_both _ _ m (and_both _ _ (lt-ltb t capacity (entry_below rows s t m)) (lt-ltb t n (rel_between n rows s t h).1)))

-- If a comparison holds of a state in neither row, comparing two rows at all states that a set can hold is the same as at the n states.
pub row_all : (β : Bool → Bool → Bool) → β false false ≡ true → (n : ℕ) (a b : List ℕ) (s : ℕ)
    → all capacity (λ t. β (rel n a s t) (rel n b s t)) ≡ all n (λ t. β (rel n a s t) (rel n b s t))
row_all β none n a b s =
    bool_ext _ _
    (λ h. all_intro n _ (λ t l. at capacity h t (dec_lt t capacity) (λ rows past e. omega (arith, entry_below rows s t (rel_mem n rows s t e)))))
    (λ h. all_intro capacity _ (λ t l. at n h t (dec_lt t n) (λ rows past e. omega (arith, (rel_between n rows s t e).1))))
  where
    at : (m : ℕ) → all m (λ t. β (rel n a s t) (rel n b s t)) ≡ true → (t : ℕ) → Dec (t < m)
        → ((rows : List ℕ) → m ≤ t → rel n rows s t ≡ true → ⊥) → β (rel n a s t) (rel n b s t) ≡ true
    at m h t (yes l) out = all_at m _ h t l
    at m h t (no l) out = rw (not_true_false _ (out a (omega arith)), not_true_false _ (out b (omega arith))) none

-- A row has a state iff it has one below n.
pub row_any : (n : ℕ) (rows : List ℕ) (s : ℕ) → any capacity (rel n rows s) ≡ any n (rel n rows s)
row_any n rows s =
    bool_ext _ _ (λ h. at n (λ t e. (rel_between n rows s t e).1) (any_true capacity _ h)) (λ h. at capacity (λ t e. entry_below rows s t (rel_mem n rows s t e)) (any_true n _ h))
  where
    at : (k : ℕ) {j : ℕ} → ((t : ℕ) → rel n rows s t ≡ true → t < k) → (t : ℕ) × (t < j) × (rel n rows s t ≡ true) → any k (rel n rows s) ≡ true
    at k below w = any_intro k _ w.0 (below w.0 w.2) w.2

-- The row of a state that starts a pair is within the words.
pub row_long : (n : ℕ) (rows : List ℕ) (t u : ℕ) → rel n rows t u ≡ true → set_words * t < length rows
row_long n rows t u h = by (dec_lt (set_words * t) (length rows))
  where
    by : Dec (set_words * t < length rows) → set_words * t < length rows
    by (yes l) = l
    by (no l) = absurd (true≢false (sym (rel_mem n rows t u h) ∙ entry_past rows t u (omega arith)))

-- If the first k states include all that have a row, looking for t among them tells whether t starts a pair.
pub row_starts : (n : ℕ) (rows : List ℕ) (k : ℕ) → ((s : ℕ) → s < capacity → s < n → set_words * s < length rows → s < k) → (t : ℕ)
    → any k (λ s. ltb t capacity && any n (rel n rows s) && eqb s t) ≡ (ltb t capacity && any n (rel n rows t))
row_starts n rows k enough t = bool_ext _ _ (λ h. there (any_true k _ h)) back
  where
    there : (s : ℕ) × (s < k) × ((ltb t capacity && any n (rel n rows s) && eqb s t) ≡ true) → (ltb t capacity && any n (rel n rows t)) ≡ true
    there w = let same = eqb-true w.0 t (and_right (ltb t capacity && any n (rel n rows w.0)) _ w.2) in rw same at (and_left (ltb t capacity && any n (rel n rows w.0)) (eqb w.0 t) w.2)

    back : (ltb t capacity && any n (rel n rows t)) ≡ true → any k (λ s. ltb t capacity && any n (rel n rows s) && eqb s t) ≡ true
    back h =
        let w = any_true n _ (and_right (ltb t capacity) _ h) in
        any_intro k _ t (enough t (ltb-true t capacity (and_left (ltb t capacity) _ h)) (rel_between n rows t w.0 w.2).0 (row_long n rows t w.0 w.2))
        (and_both _ _ h (eq-eqb t t refl))

-- The pairs of rows that hold the pairs of f for each state that a set can hold.
pub rel_filled : (n : ℕ) (f : ℕ → ℕ → Bool) (rows : List ℕ) → ((s t : ℕ) → mem (entry_at rows s) t ≡ (ltb s capacity && f s t))
    → (s t : ℕ) → rel n rows s t ≡ (ltb s capacity && ltb s n && ltb t n && f s t)
unfolding rel
rel_filled n f rows held s t = ap (λ b. ltb s n && ltb t n && b) (held s t) ∙ front (ltb s n) (ltb t n) (ltb s capacity) (f s t)
  where
    front : (a b c d : Bool) → (a && b && (c && d)) ≡ (c && a && b && d)
    front true true c d = sym (ap (λ x. x && d) (and-true _ ∙ and-true c))
    front true false true d = refl
    front true false false d = refl
    front false b true d = refl
    front false b false d = refl

-- If each pair of f is between states below n, no other test is left.
pub rel_pairs : (n : ℕ) (f : ℕ → ℕ → Bool) (rows : List ℕ) → Between n f → ((s t : ℕ) → mem (entry_at rows s) t ≡ (ltb s capacity && f s t))
    → (s t : ℕ) → rel n rows s t ≡ (ltb s capacity && f s t)
rel_pairs n f rows between held s t =
    bool_ext _ _ (λ h. sym (held s t) ∙ rel_mem n rows s t h)
    (λ h. let ends = between s t (and_right (ltb s capacity) _ h) in rel_intro n rows s t ends.0 ends.1 (held s t ∙ h))

-- The pairs of either of two relations.
abbrev pub join_of : ℕ → List ℕ → List ℕ → ℕ → ℕ → Bool
join_of n a b s t = rel n a s t || rel n b s t

pub join_between : (n : ℕ) (a b : List ℕ) → Between n (join_of n a b)
join_between n a b = joined_between (rel n a) (rel n b) (rel_between n a) (rel_between n b)

-- The pairs of a union's rows.
pub union_rel : (n : ℕ) (a b rows : List ℕ) → ((s t : ℕ) → mem (entry_at rows s) t ≡ (ltb s capacity && join_of n a b s t))
    → (s t : ℕ) → rel n rows s t ≡ (ltb s capacity && join_of n a b s t)
union_rel n a b rows = rel_pairs n (join_of n a b) rows (join_between n a b)
