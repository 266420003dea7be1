-- From facts about states to searches that find nothing: the converse of the laws in the Conditions of `semantics`. None needs bounds.
use Prim.Native.Nat.{ℕ}
use mathlib.Core.Path.{◌≡◌, refl, ap₂}
use mathlib.Core.Bool.{Bool, true, false, ◌&&◌, ◌||◌}
use mathlib.Core.List.{List, [], ◌∷◌}
use mathlib.Core.Option.{none}
use Rattle.states.specs.Search.{Search, must, given}
use Rattle.states.specs.Relations.{reach}
use Rattle.states.proofs.Search.{and_left, and_right, and_both, implies_intro, beq_refl, all_intro}
use Rattle.semantics.specs.Derivations.{Spec}
use Rattle.semantics.specs.Conditions.{in_set, same_set, set_lies_in, relation_lies_in, c31, c32, c33, c34, c36, c65, c66, c70, c71, c72, c73}
use Rattle.semantics.specs.Checking.{Condition, or_breach, first_broken}
use Rattle.semantics.proofs.Clear.{Clear}
use Rattle.search.proofs.Breaches.{each_clear}
use Rattle.rules.proofs.Searches.{same_as_itself}

pub must_clear : (b : Bool) → b ≡ true → must b ≡ none
unfolding must
must_clear b h = rw h

pub given_clear : (b : Bool) (x : Search) → (b ≡ true → x ≡ none) → given b x ≡ none
unfolding given
given_clear true x h = h refl
given_clear false x h = refl

-- A list of which every condition holds.
pub unbroken : (cs : List Condition) → Clear cs → first_broken cs ≡ none
unbroken [] h = refl
unbroken (c ∷ rest) h = ap₂ (or_breach c.number) h.0 (unbroken rest h.1)

module _ (n : ℕ) where
  pub in_set_lem : (p : ℕ → Bool) (f : ℕ → Search) → ((s : ℕ) → p s ≡ true → f s ≡ none) → in_set n p f ≡ none
  unfolding in_set
  in_set_lem p f h = each_clear n _ (λ s l. given_clear (p s) (f s) (h s))

  pub states_in : (p q : ℕ → Bool) → ((s : ℕ) → p s ≡ true → q s ≡ true) → set_lies_in n p q ≡ true
  unfolding set_lies_in
  states_in p q h = all_intro n _ (λ s l. implies_intro _ _ (h s))

  pub pairs_in : (r q : ℕ → ℕ → Bool) → ((s t : ℕ) → r s t ≡ true → q s t ≡ true) → relation_lies_in n r q ≡ true
  unfolding relation_lies_in
  pairs_in r q h = all_intro n _ (λ s l. states_in (r s) (q s) (h s))

  set_same_as_itself : (p : ℕ → Bool) → same_set n p p ≡ true
  unfolding same_set
  set_same_as_itself p = all_intro n _ (λ s l. beq_refl (p s))

  -- The conditions on a node with tables c.
  module _ (c : Spec) where
    pub clear31 : ((s t : ℕ) → c.P s ≡ true → c.R s t ≡ true → c.P t ≡ true) → c31 n c ≡ none
    unfolding c31
    clear31 h = in_set_lem c.P _ (λ s p. in_set_lem (c.R s) _ (λ t r. must_clear _ (h s t p r)))

    pub clear32 : ((s t u : ℕ) → c.P s ≡ true → c.R s t ≡ true → c.Q t u ≡ true → c.Q s u ≡ true) → c32 n c ≡ none
    unfolding c32
    clear32 h = in_set_lem c.P _ (λ s p. in_set_lem (c.R s) _ (λ t r. in_set_lem (c.Q t) _ (λ u q. must_clear _ (h s t u p r q))))

    pub clear33 : ((s t u : ℕ) → c.P s ≡ true → c.Q s t ≡ true → c.R t u ≡ true → c.Q s u ≡ true) → c33 n c ≡ none
    unfolding c33
    clear33 h = in_set_lem c.P _ (λ s p. in_set_lem (c.Q s) _ (λ t q. in_set_lem (c.R t) _ (λ u r. must_clear _ (h s t u p q r))))

    -- A child with the same P, and one with the same R.
    pub clear34 : (d : Spec) → d.P ≡ c.P → c34 n c d ≡ none
    unfolding c34
    clear34 d e = must_clear _ (rw e (set_same_as_itself c.P))

    pub clear36 : (d : Spec) → d.R ≡ c.R → c36 n c d ≡ none
    unfolding c36
    clear36 d e = must_clear _ (rw e (same_as_itself n c.R))

    module _ (l r : Spec) where
      pub clear65 : ((s t : ℕ) → l.G s t ≡ true → c.G s t ≡ true) → ((s t : ℕ) → r.G s t ≡ true → c.G s t ≡ true) → c65 n c l r ≡ none
      unfolding c65
      clear65 left right = must_clear _ (and_both _ _ (pairs_in l.G c.G left) (pairs_in r.G c.G right))

      pub clear66 : ((s t : ℕ) → c.P s ≡ true → l.Q s t ≡ true → r.Q s t ≡ true
          → reach n (λ a b. c.R a b || l.G a b || r.G a b) s t ≡ true → c.Q s t ≡ true) → c66 n c l r ≡ none
      unfolding c66
      clear66 h =
          in_set_lem c.P _ (λ s p. in_set_lem _ _ (λ t both.
          let posts = and_left (l.Q s t && r.Q s t) _ both in
          must_clear _ (h s t p (and_left (l.Q s t) _ posts) (and_right (l.Q s t) _ posts) (and_right (l.Q s t && r.Q s t) _ both))))

    module _ (d : Spec) where
      pub clear70 : ((s : ℕ) → c.P s ≡ true → d.P s ≡ true) → c70 n c d ≡ none
      unfolding c70
      clear70 h = must_clear _ (states_in c.P d.P h)

      pub clear71 : ((s t : ℕ) → c.R s t ≡ true → d.R s t ≡ true) → c71 n c d ≡ none
      unfolding c71
      clear71 h = must_clear _ (pairs_in c.R d.R h)

      pub clear72 : ((s t : ℕ) → d.G s t ≡ true → c.G s t ≡ true) → c72 n c d ≡ none
      unfolding c72
      clear72 h = must_clear _ (pairs_in d.G c.G h)

      pub clear73 : ((s t : ℕ) → d.Q s t ≡ true → c.Q s t ≡ true) → c73 n c d ≡ none
      unfolding c73
      clear73 h = must_clear _ (pairs_in d.Q c.Q h)
