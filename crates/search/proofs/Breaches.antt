-- What a search for a breach finds, exactly. Its result depends only on the members and on what it finds at each; the least state with a
-- breach is named first. Then the states that an answer names, a loop that looks for a breach, and rows that all hold the same ends.
use Prim.Native.Nat.{ℕ, zero, suc, ◌<◌, ◌≤◌}
use native.Mathlib.Nat.{not-suc-le-zero}
use native.Mathlib.Omega.{arith}
use mathlib.Core.Path.{◌≡◌, refl, sym, ap, ap₂, ◌∙◌}
use mathlib.Core.Logic.{◌⊎◌, inl, inr}
use mathlib.Core.Bool.{Bool, true, false, not, ◌&&◌, and-true, and-false}
use mathlib.Core.List.{List, [], ◌∷◌}
use mathlib.Core.Option.{none, some}
use lib.ListN.{length}
use lib.Dec.{ltb, eqb}
use borrow.Author.Tests.{ltb-true, lt-ltb, eqb-true, eq-eqb, ne_eqb}
use Rattle.states.specs.Search.{any, Search, must, given, named, or_else, each}
use Rattle.states.specs.Sets.{capacity, has}
use Rattle.states.specs.Relations.{rel}
use Rattle.states.specs.declared.StateSet.{StateSet}
use Rattle.states.proofs.Search.{and_left, and_right, and_both, bool_ext, true_or_false, below_cases, all_intro, any_intro, any_true, holds_none, none_holds, holds_each, each_cong}
use Rattle.states.proofs.Least.{IsLeast}
use Rattle.states.proofs.Members.{Taken, start_below, start_same}
use Rattle.semantics.specs.Conditions.{in_set}
use Rattle.semantics.proofs.Naming.{Finds, named_length}
use Rattle.search.specs.declared.Named.{Named}
use Rattle.search.specs.declared.Named.TheVariants.{Nothing, One, Two, Three}
use Rattle.search.specs.Named.{states_found, listed, naming}

pub given_cong : (b : Bool) (x y : Search) → (b ≡ true → x ≡ y) → given b x ≡ given b y
unfolding given
given_cong true x y h = h refl
given_cong false x y h = refl

-- Searches with the same members that find the same at each.
pub in_set_cong : (n : ℕ) (p q : ℕ → Bool) (f g : ℕ → Search) → ((s : ℕ) → s < n → p s ≡ q s) → ((s : ℕ) → s < n → p s ≡ true → f s ≡ g s)
    → in_set n p f ≡ in_set n q g
unfolding in_set
in_set_cong n p q f g members same = each_cong n _ _ (λ s l. given_cong (p s) (f s) (g s) (same s l) ∙ ap (λ b. given b (g s)) (members s l))

-- The three shapes: a state, a pair, a chain.
pub state_cong : (n : ℕ) (p p' g g' : ℕ → Bool) → ((s : ℕ) → s < n → p s ≡ p' s) → ((s : ℕ) → s < n → p s ≡ true → g s ≡ g' s)
    → in_set n p (λ s. must (g s)) ≡ in_set n p' (λ s. must (g' s))
state_cong n p p' g g' members same = in_set_cong n p p' _ _ members (λ s l h. ap must (same s l h))

pub pair_cong : (n : ℕ) (p p' : ℕ → Bool) (r r' g g' : ℕ → ℕ → Bool) → ((s : ℕ) → s < n → p s ≡ p' s)
    → ((s : ℕ) → s < n → p s ≡ true → (t : ℕ) → t < n → r s t ≡ r' s t)
    → ((s : ℕ) → s < n → p s ≡ true → (t : ℕ) → t < n → r s t ≡ true → g s t ≡ g' s t)
    → in_set n p (λ s. in_set n (r s) (λ t. must (g s t))) ≡ in_set n p' (λ s. in_set n (r' s) (λ t. must (g' s t)))
pair_cong n p p' r r' g g' members pairs same =
    in_set_cong n p p' _ _ members (λ s l h. state_cong n (r s) (r' s) (g s) (g' s) (pairs s l h) (same s l h))

pub chain_cong : (n : ℕ) (p p' : ℕ → Bool) (a a' b b' g g' : ℕ → ℕ → Bool) → ((s : ℕ) → s < n → p s ≡ p' s)
    → ((s : ℕ) → s < n → p s ≡ true → (t : ℕ) → t < n → a s t ≡ a' s t)
    → ((s t : ℕ) → s < n → p s ≡ true → t < n → a s t ≡ true → (u : ℕ) → u < n → b t u ≡ b' t u)
    → ((s t : ℕ) → s < n → p s ≡ true → t < n → a s t ≡ true → (u : ℕ) → u < n → b t u ≡ true → g s u ≡ g' s u)
    → in_set n p (λ s. in_set n (a s) (λ t. in_set n (b t) (λ u. must (g s u))))
    ≡ in_set n p' (λ s. in_set n (a' s) (λ t. in_set n (b' t) (λ u. must (g' s u))))
chain_cong n p p' a a' b b' g g' members first second same =
    in_set_cong n p p' _ _ members (λ s l h.
    pair_cong n (a s) (a' s) b b' (λ t. g s) (λ t. g' s) (first s l h) (λ t m k. second s t l h m k) (λ t m k. same s t l h m k))

-- A search that finds nothing at each state finds nothing, and else names the least state with a breach first.
pub each_clear : (n : ℕ) (f : ℕ → Search) → ((s : ℕ) → s < n → f s ≡ none) → each n f ≡ none
each_clear n f h = holds_none _ (holds_each n f ∙ all_intro n _ (λ s l. none_holds _ (h s l)))

pub each_first : (n k : ℕ) (f : ℕ → Search) (found : List ℕ) → k < n → ((s : ℕ) → s < k → f s ≡ none) → f k ≡ some found
    → each n f ≡ some (k ∷ found)
unfolding each or_else named
each_first zero k f found l less e = absurd (not-suc-le-zero l)
each_first (suc n) k f found l less e =
    below_cases (λ i. ((s : ℕ) → s < i → f s ≡ none) → f i ≡ some found → each (suc n) f ≡ some (i ∷ found)) n k l
    (λ less e. ap₂ or_else (each_clear n f less) (ap (named n) e))
    (λ low less e. ap (λ x. or_else x (named n (f n))) (each_first n k f found low less e))
    less e

-- A search through all n states, and one for the states of a set.
pub in_set_all : (n : ℕ) (p : ℕ → Bool) (f : ℕ → Search) → ((s : ℕ) → s < n → p s ≡ true) → in_set n p f ≡ each n f
unfolding in_set given
in_set_all n p f all = each_cong n _ _ (λ s l. ap (λ b. given b (f s)) (all s l))

pub each_not : (n : ℕ) (p : ℕ → Bool) → each n (λ s. must (not (p s))) ≡ in_set n p (λ s. must false)
unfolding in_set given must
each_not n p = each_cong n _ _ (λ s l. at (p s))
  where
    at : (b : Bool) → must (not b) ≡ given b (must false)
    at true = refl
    at false = refl

-- A search through a set of one state.
pub in_set_single : (n k : ℕ) (f : ℕ → Search) → k < n → in_set n (λ t. eqb t k) f ≡ named k (f k)
unfolding in_set given named
in_set_single n k f l = by (f k) refl
  where
    nothing : (b : Bool) → given b none ≡ none
    nothing true = refl
    nothing false = refl

    by : (x : Search) → f k ≡ x → each n (λ t. given (eqb t k) (f t)) ≡ named k x
    by none e = each_clear n _ (λ t m. given_cong (eqb t k) (f t) none (λ h. ap f (eqb-true t k h) ∙ e) ∙ nothing (eqb t k))
    by (some found) e = each_first n k _ found l (λ t m. rw (ne_eqb t k (omega arith))) (rw (eq-eqb k k refl) e)

-- How many states a search names if it finds a breach.
abbrev pub Names : ℕ → Search → Type 0
Names m x = (found : List ℕ) → x ≡ some found → length found ≡ m

pub finds_names : (n m : ℕ) (x : Search) → Finds n m x → Names m x
finds_names n m none finds found e = absurd (let z : ◌≡◌ {A = ℕ} 0 1 = cc in omega arith)
finds_names n m (some states) finds found e = let same : states ≡ found = cc in rw (← same) (named_length finds)

-- Up to three states are named, and none is lost.
pub listed_naming : (states : List ℕ) → length states ≤ 3 → listed (naming states) ≡ states
unfolding listed naming
listed_naming [] l = refl
listed_naming (s ∷ []) l = refl
listed_naming (s ∷ t ∷ []) l = refl
listed_naming (s ∷ t ∷ u ∷ []) l = refl
listed_naming (s ∷ t ∷ u ∷ v ∷ rest) l = absurd (omega arith)

-- An answer that does not name one state, or not two, has another number of states.
pub not_one : (r : Named) → ((s : ℕ) → r ≡ One s → ⊥) → length (listed r) ≡ 1 → ⊥
unfolding listed
not_one Nothing other e = omega arith
not_one (One s) other e = other s refl
not_one (Two s t) other e = omega arith
not_one (Three s t u) other e = omega arith

pub not_two : (r : Named) → ((s t : ℕ) → r ≡ Two s t → ⊥) → length (listed r) ≡ 2 → ⊥
unfolding listed
not_two Nothing other e = omega arith
not_two (One s) other e = omega arith
not_two (Two s t) other e = other s t refl
not_two (Three s t u) other e = omega arith

-- What an answer says of its search, which names m states: what it found; nothing, if the answer has another number of states.
module _ (m : ℕ) (few : m ≤ 3) (x : Search) (names : Names m x) (r : Named) (answered : r ≡ naming (states_found x)) where
  lists : (found : List ℕ) → x ≡ some found → listed r ≡ found
  unfolding states_found
  lists found h = ap listed (answered ∙ ap (λ y. naming (states_found y)) h) ∙ listed_naming found (omega (arith, names found h))

  found_as : {s : ℕ} {rest : List ℕ} → listed r ≡ s ∷ rest → x ≡ some (s ∷ rest)
  unfolding listed naming states_found
  found_as {s} {rest} e = by x refl
    where
      by : (y : Search) → x ≡ y → y ≡ some (s ∷ rest)
      by none h =
          let empty : listed r ≡ [] = ap listed (answered ∙ ap (λ y. naming (states_found y)) h) in
          absurd (let z : ◌≡◌ {A = ℕ} 0 1 = cc in omega arith)
      by (some found) h = ap some (sym (lists found h) ∙ e)

  found_none : (length (listed r) ≡ m → ⊥) → x ≡ none
  found_none out = by x refl
    where
      by : (y : Search) → x ≡ y → y ≡ none
      by none h = refl
      by (some found) h = absurd (out (ap length (lists found h) ∙ names found h))

-- The invariant of a loop that takes the states below n out of a set, the least first, until the answer at one names a breach: through
-- the states left the search finds what it finds through all. At a state it names m states.
pub record Searching (n m : ℕ) (f : ℕ → Search) (from rest : StateSet) : Type 0 where
  pub few : m ≤ 3
  pub names : (s : ℕ) → Names m (f s)
  pub low : (s : ℕ) → has rest s ≡ true → s < n
  pub same : in_set n (has rest) f ≡ in_set n (has from) f

-- The answer at k is not one of m states.
pub searching_on : (n m : ℕ) (f : ℕ → Search) (from rest left : StateSet) (k : ℕ) → Taken (has rest) (has left) k → (r : Named)
    → r ≡ naming (states_found (f k)) → (length (listed r) ≡ m → ⊥)
    → Searching n m f from rest → Searching n m f from left
unfolding in_set given
searching_on n m f from rest left k one r answered out old = record {
  few = old.few;
  names = old.names;
  low = λ s e. old.low s (and_left (has rest s) _ (sym (one.rest s) ∙ e));
  same = each_cong n _ _ (λ s l. at s (true_or_false (eqb k s))) ∙ old.same;
}
  where
    clear : (a b : Bool) (x : Search) → x ≡ none → given a x ≡ given b x
    clear true true x e = refl
    clear true false x e = e
    clear false true x e = sym e
    clear false false x e = refl

    nothing : f k ≡ none
    nothing = found_none m old.few (f k) (old.names k) r answered out

    at : (s : ℕ) → (eqb k s ≡ true) ⊎ (eqb k s ≡ false) → given (has left s) (f s) ≡ given (has rest s) (f s)
    at s (inl e) = clear (has left s) (has rest s) (f s) (ap f (sym (eqb-true k s e)) ∙ nothing)
    at s (inr e) = ap (λ b. given b (f s)) (one.rest s ∙ ap (λ b. has rest s && not b) e ∙ and-true (has rest s))

-- The start of the loop and its two ends.
module _ (n m : ℕ) (f : ℕ → Search) (set from : StateSet) (start : (s : ℕ) → has from s ≡ (has set s && (ltb s capacity && ltb s n))) where
  pub searching_all : m ≤ 3 → ((s : ℕ) → Names m (f s)) → Searching n m f from from
  searching_all few names = record { few = few; names = names; low = start_below n set from start; same = refl }

  over_set : (rest : StateSet) → Searching n m f from rest → in_set n (has rest) f ≡ in_set n (has set) f
  over_set rest old = old.same ∙ in_set_cong n _ _ f f (start_same n set from start) (λ s l e. refl)

  -- The answer at k, the least state left, is a breach.
  pub searching_found : (rest : StateSet) (k : ℕ) → IsLeast capacity (has rest) k → (r : Named) → r ≡ naming (states_found (f k))
      → {t : ℕ} {more : List ℕ} → listed r ≡ t ∷ more → Searching n m f from rest
      → naming (k ∷ t ∷ more) ≡ naming (states_found (in_set n (has set) f))
  unfolding in_set given states_found
  searching_found rest k least r answered {t} {more} e old =
      let breach = found_as m old.few (f k) (old.names k) r answered e in
      ap (λ x. naming (states_found x)) (sym (each_first n k (λ s. given (has rest s) (f s)) (t ∷ more) (old.low k least.there)
      (λ s l. ap (λ b. given b (f s)) (least.less s l)) (rw least.there breach)) ∙ over_set rest old)

  -- No state is left.
  pub searching_none : (rest : StateSet) → ((s : ℕ) → has rest s ≡ false) → Searching n m f from rest
      → Nothing ≡ naming (states_found (in_set n (has set) f))
  unfolding in_set given naming states_found
  searching_none rest empty old =
      ap (λ x. naming (states_found x)) (sym (each_clear n (λ s. given (has rest s) (f s)) (λ s l. ap (λ b. given b (f s)) (empty s))) ∙ over_set rest old)

-- In rows that all hold the same ends, a pair from a state that a set can hold.
pub into_at : (n : ℕ) (rows : List ℕ) (q : ℕ → Bool) → ((s t : ℕ) → rel n rows s t ≡ (ltb s capacity && ltb s n && ltb t n && q t))
    → (s t : ℕ) → s < capacity → s < n → t < n → rel n rows s t ≡ q t
into_at n rows q made s t small l m = made s t ∙ rw (lt-ltb s capacity small, lt-ltb s n l, lt-ltb t n m)

-- A conjunct that follows from b can be dropped.
pub absorbed : (a b : Bool) → (b ≡ true → a ≡ true) → (a && b) ≡ b
absorbed a true h = rw (h refl)
absorbed a false h = and-false a

pub any_itself : (n : ℕ) (p : ℕ → Bool) (t : ℕ) → any n (λ u. p u && eqb u t) ≡ (ltb t n && p t)
any_itself n p t = bool_ext _ _ (λ h. there (any_true n _ h)) back
  where
    there : (u : ℕ) × (u < n) × ((p u && eqb u t) ≡ true) → (ltb t n && p t) ≡ true
    there w = rw (← eqb-true w.0 t (and_right (p w.0) _ w.2)) (and_both _ _ (lt-ltb w.0 n w.1) (and_left (p w.0) _ w.2))

    back : (ltb t n && p t) ≡ true → any n (λ u. p u && eqb u t) ≡ true
    back h = any_intro n _ t (ltb-true t n (and_left (ltb t n) _ h)) (and_both _ _ (and_right (ltb t n) _ h) (eq-eqb t t refl))

pub eqb_turned : (s t : ℕ) → eqb s t ≡ eqb t s
eqb_turned s t = bool_ext _ _ (λ e. eq-eqb t s (sym (eqb-true s t e))) (λ e. eq-eqb s t (sym (eqb-true t s e)))
