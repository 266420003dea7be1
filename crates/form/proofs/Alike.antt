-- Distinct elements after a function that tells them apart: mentions in the same order, at the same places. So a table may be numbered by a
-- representative, an index that all tables with its members share.
use Prim.Native.Nat.{ℕ, ◌≤◌, ◌<◌}
use mathlib.Core.Bool.{Bool, true, false, cond, ◌||◌}
use mathlib.Core.List.{List, [], ◌∷◌, ◌++◌, map, map-append, map-map}
use mathlib.Core.Path.{◌≡◌, refl, sym, ◌∙◌, ap, ap₂}
use native.Mathlib.Omega.{arith}
use borrow.Author.Tests.{eqb-true, eq-eqb}
use lib.Dec.{eqb}
use lib.ListN.{length}
use Rattle.states.proofs.Search.{bool_ext, or_left}
use Rattle.form.specs.Mentions.{is_in, place_in, mentioned, all_mentioned, distinct}
use Rattle.form.proofs.Mentions.{All, all_first, all_rest, all_none, all_cons, all_mentioned_lem, all_distinct, all_map, mentioned_there, length_mentioned, length_most, mentioned_in, in_mentioned, few_distinct, few_length}

-- h gives equal values in D only to equal ones.
module _ (h : ℕ → ℕ) (D : ℕ → Type 0) (apart : (a b : ℕ) → D a → D b → h a ≡ h b → a ≡ b) where
  same_tests : (a b : ℕ) → D a → D b → eqb (h a) (h b) ≡ eqb a b
  same_tests a b in-a in_b =
      bool_ext _ _ (λ e. eq-eqb a b (apart a b in-a in_b (eqb-true _ _ e))) (λ e. eq-eqb _ _ (ap h (eqb-true a b e)))

  pub in_mapped : (l : List ℕ) (x : ℕ) → All D l → D x → is_in (map h l) (h x) ≡ is_in l x
  unfolding is_in
  in_mapped [] x all in-x = refl
  in_mapped (y ∷ l) x all in-x = ap₂ ◌||◌ (same_tests y x (all_first D y l all) in-x) (in_mapped l x (all_rest D y l all) in-x)

  pub place_mapped : (l : List ℕ) (x : ℕ) → All D l → D x → place_in (map h l) (h x) ≡ place_in l x
  unfolding place_in
  place_mapped [] x all in-x = refl
  place_mapped (y ∷ l) x all in-x = rw (same_tests y x (all_first D y l all) in-x, place_mapped l x (all_rest D y l all) in-x)

  mentioned_mapped : (l : List ℕ) (x : ℕ) → All D l → D x → mentioned (map h l) (h x) ≡ map h (mentioned l x)
  unfolding mentioned
  mentioned_mapped l x all in-x = rw (in_mapped l x all in-x) (by (is_in l x))
    where
      by : (b : Bool) → cond b (map h l) (map h l ++ h x ∷ []) ≡ map h (cond b l (l ++ x ∷ []))
      by true = refl
      by false = sym (map-append h l (x ∷ []))

  pub all_mapped : (l xs : List ℕ) → All D l → All D xs → all_mentioned (map h l) (map h xs) ≡ map h (all_mentioned l xs)
  unfolding all_mentioned
  all_mapped l [] all more = refl
  all_mapped l (x ∷ rest) all more =
      let in-x = all_first D x rest more in
      ap (λ seen. all_mentioned seen (map h rest)) (mentioned_mapped l x all in-x)
      ∙ all_mapped (mentioned l x) rest (all_mentioned_lem D l (x ∷ []) all (all_cons D x [] in-x (all_none D))) (all_rest D x rest more)

  pub distinct_mapped : (xs : List ℕ) → All D xs → distinct (map h xs) ≡ map h (distinct xs)
  unfolding distinct
  distinct_mapped xs more = all_mapped [] xs (all_none D) more

-- After any function there are no more distinct ones than before.
module _ (h : ℕ → ℕ) where
  fewer_step : (l seen : List ℕ) (x : ℕ) (b : Bool) → is_in l x ≡ b → (is_in l x ≡ true → is_in seen (h x) ≡ true) → length seen ≤ length l
      → length (mentioned seen (h x)) ≤ length (mentioned l x)
  fewer_step l seen x true there stays less = rw (mentioned_there l x there, mentioned_there seen (h x) (stays there)) less
  fewer_step l seen x false out stays less = rw (length_mentioned l x out) (omega (arith, length_most seen (h x)))

  fewer_all : (l seen xs : List ℕ) → All (λ x. is_in seen (h x) ≡ true) l → length seen ≤ length l
      → length (all_mentioned seen (map h xs)) ≤ length (all_mentioned l xs)
  unfolding all_mentioned
  fewer_all l seen [] stays less = less
  fewer_all l seen (x ∷ rest) stays less =
      fewer_all (mentioned l x) (mentioned seen (h x)) rest
      (all_mentioned_lem _ l (x ∷ []) (λ y e. in_mentioned seen (h x) (h y) ∙ or_left _ _ (stays y e))
      (all_cons _ x [] (mentioned_in seen (h x)) (all_none _)))
      (fewer_step l seen x (is_in l x) refl (stays x) less)

  pub fewer_distinct : (xs : List ℕ) → length (distinct (map h xs)) ≤ length (distinct xs)
  unfolding distinct
  fewer_distinct xs = fewer_all [] [] xs (all_none _) (omega arith)

  pub few_mapped : (m : ℕ) (xs : List ℕ) → All (λ x. x < m) xs → length (distinct (map h xs)) ≤ m
  few_mapped m xs below = omega (arith, fewer_distinct xs, few_length m (distinct xs) (few_distinct m xs below))

-- Functions that agree on a list.
pub map_same : (f g : ℕ → ℕ) (l : List ℕ) → All (λ x. f x ≡ g x) l → map f l ≡ map g l
map_same f g [] all = refl
map_same f g (x ∷ l) all = ap₂ ◌∷◌ (all_first _ x l all) (map_same f g l (all_rest _ x l all))

-- The tables below m: `rep` gives one index for all tables with the same members.
module _ (members rep : ℕ → ℕ) (m : ℕ) (below : (i : ℕ) → i < m → rep i < m) (same : (i : ℕ) → i < m → members (rep i) ≡ members i)
    (one : (i j : ℕ) → i < m → j < m → members i ≡ members j → rep i ≡ rep j) where
  -- A representative is its own.
  abbrev Chosen : ℕ → Type 0
  Chosen a = (a < m) × (rep a ≡ a)

  chosen : (i : ℕ) → i < m → Chosen (rep i)
  chosen i l = (below i l, one (rep i) i (below i l) l (same i l))

  apart : (a b : ℕ) → Chosen a → Chosen b → members a ≡ members b → a ≡ b
  apart a b in-a in_b e = sym in-a.1 ∙ one a b in-a.0 in_b.0 e ∙ in_b.1

  module _ (L : List ℕ) (all : All (λ i. i < m) L) where
    all_chosen : All Chosen (map rep L)
    all_chosen = all_map Chosen rep L (λ i h. chosen i (all i h))

    pub order_members : distinct (map members L) ≡ map members (distinct (map rep L))
    order_members =
        ap distinct (sym (map-map members rep L ∙ map_same _ members L (λ i h. same i (all i h))))
        ∙ distinct_mapped members Chosen apart (map rep L) all_chosen

    pub place_members : (i : ℕ) → i < m → place_in (distinct (map members L)) (members i) ≡ place_in (distinct (map rep L)) (rep i)
    place_members i l =
        ap₂ place_in order_members (sym (same i l))
        ∙ place_mapped members Chosen apart (distinct (map rep L)) (rep i) (all_distinct Chosen (map rep L) all_chosen) (chosen i l)
