-- The states that a condition names, looked up by its number, and each condition's search as one of the three searches of the code.
use Prim.Native.Nat.{ℕ, ◌<◌}
use mathlib.Core.Path.{◌≡◌, refl, sym, ap, ap₂, ◌∙◌, subst}
use mathlib.Core.Bool.{Bool, true, false, not, ◌&&◌, ◌||◌, and_assoc}
use mathlib.Core.List.{List, [], ◌∷◌, ◌++◌}
use mathlib.Core.Option.{none, some}
use lib.Dec.{ltb, eqb}
use borrow.Author.Tests.{lt-ltb, eqb-true}
use Rattle.states.specs.Search.{Search, must, given, each}
use Rattle.states.specs.Sets.{capacity, has}
use Rattle.states.specs.Relations.{rel}
use Rattle.states.specs.declared.StateSet.{StateSet}
use Rattle.states.proofs.Members.{has_below}
use Rattle.semantics.specs.Conditions.{in_set}
use Rattle.semantics.specs.Derivations.{Spec}
use Rattle.semantics.specs.Checking.{Condition, numbered, stability, common, common_reading}
use Rattle.search.specs.declared.Named.{Named}
use Rattle.search.specs.Named.{states_found, naming}
use Rattle.rules.specs.Asking.{or_states, states_for}
use Rattle.search.proofs.Breaches.{state_cong, pair_cong, each_not, eqb_turned}

-- Conditions that name no state under number k: they have another number, or are a plain test.
pub data Silent (k : ℕ) : List Condition → Type 0 where
  done : Silent k []
  other : {c : Condition} {rest : List Condition} → eqb k c.number ≡ false → Silent k rest → Silent k (c ∷ rest)
  plain : {c : Condition} {rest : List Condition} (b : Bool) → c.breach ≡ must b → Silent k rest → Silent k (c ∷ rest)

pub silent : (k : ℕ) (cs : List Condition) → Silent k cs → states_for k cs ≡ []
unfolding states_for given must
silent k [] done = refl
silent k (c ∷ rest) (other e more) = rw e (silent k rest more)
silent k (c ∷ rest) (plain b e more) = rw (e, silent k rest more) (by b (eqb k c.number))
  where
    by : (b hit : Bool) → or_states (given hit (must b)) [] ≡ []
    by b false = refl
    by true true = refl
    by false true = refl

-- After conditions that have been looked at, those that name no state can be left out.
pub before_silent : (k : ℕ) (cs rest : List Condition) → Silent k rest → states_for k (cs ++ rest) ≡ states_for k cs
unfolding states_for
before_silent k [] rest quiet = silent k rest quiet
before_silent k (c ∷ cs) rest quiet = ap (or_states (given (eqb k c.number) c.breach)) (before_silent k cs rest quiet)

-- A plain condition can be left out, if no later one names states under its number.
plain_out : (k number : ℕ) (b : Bool) (rest : List Condition) → Silent number rest → states_for k (numbered number (must b) ∷ rest) ≡ states_for k rest
unfolding states_for given must
plain_out k number b rest quiet = by b (eqb k number) refl
  where
    by : (b hit : Bool) → eqb k number ≡ hit → or_states (given hit (must b)) (states_for k rest) ≡ states_for k rest
    by b false is = refl
    by true true is = refl
    by false true is = sym (silent k rest (subst (λ j. Silent j rest) (sym (eqb-true k number is)) quiet))

-- Of the conditions of an assignment or an if: 41 or 45 can be left out, and those after 33 that name no state.
pub reading_silent : (k n number : ℕ) (fits b : Bool) (c : Spec) (rest : List Condition) → Silent number (stability n c) → Silent k rest
    → states_for k (common_reading n fits (numbered number (must b) ∷ []) c ++ rest) ≡ states_for k (common n fits c)
unfolding states_for
reading_silent k n number fits b c rest apart quiet =
    before_silent k (common_reading n fits (numbered number (must b) ∷ []) c) rest quiet
    ∙ ap (or_states (given (eqb k 30) (must fits))) (plain_out k number b (stability n c) apart)

-- What a search of the code has found, for a condition whose number is asked for.
pub found_as : (x y : Search) {r : Named} → r ≡ naming (states_found x) → x ≡ y → r ≡ naming (or_states y [])
unfolding states_found
found_as x y e same = e ∙ ap (λ z. naming (states_found z)) same ∙ ap naming (by y)
  where
    by : (y : Search) → states_found y ≡ or_states y []
    by none = refl
    by (some states) = refl

-- One state, and pairs, by their members; s is a state below n that a set can hold.
module _ (n : ℕ) where
  pub one_same : (from good : StateSet) (p q : ℕ → Bool) → ((s : ℕ) → has from s ≡ p s) → ((s : ℕ) → s < n → s < capacity → has good s ≡ q s)
      → in_set n (has from) (λ s. must (has good s)) ≡ in_set n p (λ s. must (q s))
  one_same from good p q members same =
      state_cong n (has from) p (has good) q (λ s l. members s) (λ s l e. same s l (has_below from s e))

  -- (s,s) must be in the rows.
  pub stay_same : (from diagonal : StateSet) (p : ℕ → Bool) {rows rows' : List ℕ} → ((s : ℕ) → has from s ≡ p s) → ((s : ℕ) → has diagonal s ≡ rel n rows s s)
      → rows ≡ rows' → in_set n (has from) (λ s. must (has diagonal s)) ≡ in_set n p (λ s. must (rel n rows' s s))
  stay_same from diagonal p members on same = one_same from diagonal p _ members (λ s l low. on s ∙ ap (λ x. rel n x s s) same)

  -- (s,s) must not be in the rows.
  pub off_same : (diagonal nobody : StateSet) {rows rows' : List ℕ} → ((s : ℕ) → has diagonal s ≡ rel n rows s s) → ((s : ℕ) → has nobody s ≡ false)
      → rows ≡ rows' → in_set n (has diagonal) (λ s. must (has nobody s)) ≡ each n (λ s. must (not (rel n rows' s s)))
  off_same diagonal nobody {rows} {rows'} on empty same =
      state_cong n (has diagonal) (λ s. rel n rows' s s) (has nobody) (λ s. false) (λ s l. on s ∙ ap (λ x. rel n x s s) same) (λ s l e. empty s)
      ∙ sym (each_not n _)

  pub pair_same : (from : StateSet) (p : ℕ → Bool) (r r' g g' : ℕ → ℕ → Bool) → ((s : ℕ) → has from s ≡ p s)
      → ((s t : ℕ) → s < n → s < capacity → t < n → r s t ≡ r' s t) → ((s t : ℕ) → s < n → s < capacity → t < n → g s t ≡ g' s t)
      → in_set n (has from) (λ s. in_set n (r s) (λ t. must (g s t))) ≡ in_set n p (λ s. in_set n (r' s) (λ t. must (g' s t)))
  pair_same from p r r' g g' members pairs good =
      pair_cong n (has from) p r r' g g' (λ s l. members s) (λ s l e t m. pairs s t l (has_below from s e) m)
      (λ s l e t m _. good s t l (has_below from s e) m)

  -- Pairs of rows that must end in a set.
  pub into_same : (from into : StateSet) (p q : ℕ → Bool) {rows rows' : List ℕ} (made : List ℕ) → ((s : ℕ) → has from s ≡ p s)
      → ((t : ℕ) → has into t ≡ q t) → rows ≡ rows' → ((s t : ℕ) → rel n made s t ≡ (ltb s capacity && ltb s n && ltb t n && has into t))
      → in_set n (has from) (λ s. in_set n (rel n rows s) (λ t. must (rel n made s t))) ≡ in_set n p (λ s. in_set n (rel n rows' s) (λ t. must (q t)))
  into_same from into p q {rows} {rows'} made members ends same filled =
      pair_same from p (rel n rows) (rel n rows') (rel n made) (λ s t. q t) members (λ s t l low m. ap (λ x. rel n x s t) same)
      (λ s t l low m. filled s t ∙ rw (lt-ltb s capacity low, lt-ltb s n l, lt-ltb t n m) (ends t))

  -- Pairs of rows that must be in other rows.
  pub within_same : (from : StateSet) (p : ℕ → Bool) {rows rows' good good' : List ℕ} → ((s : ℕ) → has from s ≡ p s) → rows ≡ rows' → good ≡ good'
      → in_set n (has from) (λ s. in_set n (rel n rows s) (λ t. must (rel n good s t))) ≡ in_set n p (λ s. in_set n (rel n rows' s) (λ t. must (rel n good' s t)))
  within_same from p members same same' =
      λ j. in_set n (λ s. members s j) (λ s. in_set n (rel n (same j) s) (λ t. must (rel n (same' j) s t)))

  -- The same, of a relation g that the rows have from the states that a set can hold.
  pub met_same : (from : StateSet) (p : ℕ → Bool) (made : List ℕ) (f g : ℕ → ℕ → Bool) {good good' : List ℕ} → ((s : ℕ) → has from s ≡ p s)
      → ((s t : ℕ) → rel n made s t ≡ (ltb s capacity && f s t)) → ((s t : ℕ) → s < capacity → f s t ≡ g s t) → good ≡ good'
      → in_set n (has from) (λ s. in_set n (rel n made s) (λ t. must (rel n good s t))) ≡ in_set n p (λ s. in_set n (g s) (λ t. must (rel n good' s t)))
  met_same from p made f g {good} {good'} members filled is same =
      pair_same from p (rel n made) g (rel n good) (rel n good') members (λ s t l low m. filled s t ∙ rw (lt-ltb s capacity low) (is s t low))
      (λ s t l low m. ap (λ x. rel n x s t) same)

  -- Pairs that must be (s,s) or in other rows; a condition writes t = s or s = t.
  pub or_same : (from : StateSet) (p : ℕ → Bool) {rows rows' good good' : List ℕ} (made : List ℕ) (equal : ℕ → ℕ → Bool) → ((s t : ℕ) → eqb s t ≡ equal s t)
      → ((s : ℕ) → has from s ≡ p s) → rows ≡ rows' → good ≡ good'
      → ((s t : ℕ) → rel n made s t ≡ (ltb s capacity && ltb s n && (eqb s t || rel n good s t)))
      → in_set n (has from) (λ s. in_set n (rel n rows s) (λ t. must (rel n made s t)))
      ≡ in_set n p (λ s. in_set n (rel n rows' s) (λ t. must (equal s t || rel n good' s t)))
  or_same from p {rows} {rows'} {good} {good'} made equal is members same same' filled =
      pair_same from p (rel n rows) (rel n rows') (rel n made) (λ s t. equal s t || rel n good' s t) members (λ s t l low m. ap (λ x. rel n x s t) same)
      (λ s t l low m. filled s t ∙ rw (lt-ltb s capacity low, lt-ltb s n l) (ap₂ (λ b x. b || rel n x s t) (is s t) same'))

  -- Pairs with t = s or (s,t) in rows, and t in two sets, that must be in other rows.
  pub exit_same : (from into : StateSet) (p f : ℕ → Bool) {rows rows' good good' : List ℕ} (made : List ℕ) → ((s : ℕ) → has from s ≡ p s)
      → ((t : ℕ) → has into t ≡ (p t && f t)) → rows ≡ rows' → good ≡ good'
      → ((s t : ℕ) → s < capacity → s < n → rel n made s t ≡ ((eqb s t || rel n rows s t) && has into t))
      → in_set n (has from) (λ s. in_set n (rel n made s) (λ t. must (rel n good s t)))
      ≡ in_set n p (λ s. in_set n (λ t. (eqb t s || rel n rows' s t) && p t && f t) (λ t. must (rel n good' s t)))
  exit_same from into p f {rows} {rows'} {good} {good'} made members ends same same' filled =
      pair_same from p (rel n made) (λ s t. (eqb t s || rel n rows' s t) && p t && f t) (rel n good) (rel n good') members
      (λ s t l low m. filled s t low l ∙ ap₂ ◌&&◌ (ap₂ (λ b x. b || rel n x s t) (eqb_turned s t) same) (ends t) ∙ sym (and_assoc (eqb t s || rel n rows' s t) (p t) (f t)))
      (λ s t l low m. ap (λ x. rel n x s t) same')

  -- A chain of two pairs, by the words that hold the rows.
  pub chain_same : (from : StateSet) (p : ℕ → Bool) {a a' b b' g g' : List ℕ} → ((s : ℕ) → has from s ≡ p s) → a ≡ a' → b ≡ b' → g ≡ g'
      → in_set n (has from) (λ s. in_set n (rel n a s) (λ t. in_set n (rel n b t) (λ u. must (rel n g s u))))
      ≡ in_set n p (λ s. in_set n (rel n a' s) (λ t. in_set n (rel n b' t) (λ u. must (rel n g' s u))))
  chain_same from p members first second good =
      λ j. in_set n (λ s. members s j) (λ s. in_set n (rel n (first j) s) (λ t. in_set n (rel n (second j) t) (λ u. must (rel n (good j) s u))))
