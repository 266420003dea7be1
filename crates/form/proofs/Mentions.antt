-- Laws of first mention: where an element of a list is, what a mention adds, and how many distinct ones there can be.
use Prim.Native.Nat.{ℕ, zero, suc, ◌+◌, ◌≤◌, ◌<◌}
use mathlib.Core.Bool.{Bool, true, false, cond, not, ◌||◌, or-false, or_assoc, false≢true}
use mathlib.Core.List.{List, [], ◌∷◌, ◌++◌, map, append-nil, append_assoc}
use mathlib.Core.Path.{◌≡◌, refl, sym, ◌∙◌, ap, subst}
use mathlib.Core.Logic.{⊎_elim}
use native.Mathlib.Numerals.{add-one}
use native.Mathlib.Omega.{arith}
use borrow.Author.Tests.{eqb-true, eq-eqb, lt-ltb, le-ltb}
use lib.Dec.{ltb, eqb}
use lib.ListN.{length, get_or, length-append}
use Rattle.states.proofs.Search.{or_left, or_right, or_cases}
use Rattle.states.proofs.Reach.{count, count_more, count_all}
use Rattle.form.specs.Mentions.{is_in, place_in, mentioned, all_mentioned, distinct}

-- The place of x in a list that has x, or has it not.
abbrev Placed : List ℕ → ℕ → Bool → Type 0
Placed l x true = (place_in l x < length l) × (get_or l (place_in l x) 0 ≡ x)
Placed l x false = place_in l x ≡ length l

placed_next : (y : ℕ) (l : List ℕ) (x : ℕ) (b c : Bool) → eqb y x ≡ b → Placed l x c → Placed (y ∷ l) x (b || c)
unfolding place_in
placed_next y l x true c e p = (rw e (omega arith), rw e (eqb-true y x e))
placed_next y l x false true e p = (rw e (omega (arith, p.0)), rw e p.1)
placed_next y l x false false e p = rw e (ap suc p)

placed : (l : List ℕ) (x : ℕ) → Placed l x (is_in l x)
unfolding is_in place_in
placed [] x = refl
placed (y ∷ l) x = placed_next y l x (eqb y x) (is_in l x) refl (placed l x)

module _ (l : List ℕ) (x : ℕ) where
  pub place_below : is_in l x ≡ true → place_in l x < length l
  place_below h = (rw h at (placed l x)).0

  pub place_back : is_in l x ≡ true → get_or l (place_in l x) 0 ≡ x
  place_back h = (rw h at (placed l x)).1

  pub place_past : is_in l x ≡ false → place_in l x ≡ length l
  place_past h = rw h at (placed l x)

  -- A place below the length says that x is there.
  pub place_or_length : ltb (place_in l x) (length l) ≡ is_in l x
  place_or_length = by (is_in l x) (placed l x)
    where
      by : (b : Bool) → Placed l x b → ltb (place_in l x) (length l) ≡ b
      by true p = lt-ltb _ _ p.0
      by false p = rw p (le-ltb (length l) (length l) (omega arith))

-- A mention of what is there adds nothing; any other adds one at the end.
module _ (seen : List ℕ) (x : ℕ) where
  pub mentioned_there : is_in seen x ≡ true → mentioned seen x ≡ seen
  unfolding mentioned
  mentioned_there h = rw h

  pub mentioned_new : is_in seen x ≡ false → mentioned seen x ≡ seen ++ x ∷ []
  unfolding mentioned
  mentioned_new h = rw h

  pub length_mentioned : is_in seen x ≡ false → length (mentioned seen x) ≡ suc (length seen)
  length_mentioned h = ap length (mentioned_new h) ∙ length-append seen (x ∷ []) ∙ add-one (length seen)

  -- Either way the length grows by one at most.
  pub length_most : length (mentioned seen x) ≤ suc (length seen)
  length_most = by (is_in seen x) refl
    where
      by : (b : Bool) → is_in seen x ≡ b → length (mentioned seen x) ≤ suc (length seen)
      by true there = rw (mentioned_there there) (omega arith)
      by false out = omega (arith, length_mentioned out)

-- What is in two lists together, after a mention, after several and among the distinct ones.
pub in_append : (l r : List ℕ) (x : ℕ) → is_in (l ++ r) x ≡ (is_in l x || is_in r x)
unfolding is_in
in_append [] r x = refl
in_append (y ∷ l) r x = ap (λ b. eqb y x || b) (in_append l r x) ∙ sym (or_assoc (eqb y x) (is_in l x) (is_in r x))

pub in_mentioned : (seen : List ℕ) (x y : ℕ) → is_in (mentioned seen x) y ≡ (is_in seen y || eqb x y)
unfolding mentioned is_in
in_mentioned seen x y = by (is_in seen x) (eqb x y) refl refl
  where
    by : (b c : Bool) → is_in seen x ≡ b → eqb x y ≡ c → is_in (cond b seen (seen ++ x ∷ [])) y ≡ (is_in seen y || c)
    by true true there same = rw (← eqb-true x y same, there)
    by true false there same = sym (or-false _)
    by false c there same = in_append seen (x ∷ []) y ∙ ap (λ b. is_in seen y || b) (or-false (eqb x y) ∙ same)

pub in_mentions : (seen xs : List ℕ) (y : ℕ) → is_in (all_mentioned seen xs) y ≡ (is_in seen y || is_in xs y)
unfolding all_mentioned is_in
in_mentions seen [] y = sym (or-false _)
in_mentions seen (x ∷ rest) y =
    in_mentions (mentioned seen x) rest y
    ∙ ap (λ b. b || is_in rest y) (in_mentioned seen x y)
    ∙ or_assoc (is_in seen y) (eqb x y) (is_in rest y)

pub in_distinct : (xs : List ℕ) (y : ℕ) → is_in (distinct xs) y ≡ is_in xs y
unfolding distinct is_in
in_distinct xs y = in_mentions [] xs y

module _ (seen : List ℕ) where
  pub mentioned_in : (x : ℕ) → is_in (mentioned seen x) x ≡ true
  mentioned_in x = in_mentioned seen x x ∙ or_right (is_in seen x) _ (eq-eqb x x refl)

  -- What was there stays there.
  pub kept : (xs : List ℕ) (y : ℕ) → is_in seen y ≡ true → is_in (all_mentioned seen xs) y ≡ true
  kept xs y h = in_mentions seen xs y ∙ or_left _ _ h

  pub all_in : (xs : List ℕ) (y : ℕ) → is_in xs y ≡ true → is_in (all_mentioned seen xs) y ≡ true
  all_in xs y h = in_mentions seen xs y ∙ or_right (is_in seen y) _ h

-- Later mentions keep the places.
pub place_append : (l r : List ℕ) (x : ℕ) → is_in l x ≡ true → place_in (l ++ r) x ≡ place_in l x
unfolding is_in place_in
place_append [] r x h = absurd (false≢true h)
place_append (y ∷ l) r x h = by (eqb y x) h (place_append l r x)
  where
    by : (b : Bool) → (b || is_in l x) ≡ true → (is_in l x ≡ true → place_in (l ++ r) x ≡ place_in l x)
        → cond b 0 (suc (place_in (l ++ r) x)) ≡ cond b 0 (suc (place_in l x))
    by true h rest = refl
    by false h rest = ap suc (rest h)

-- A mention gives x the place at which it was, or the end.
pub place_end : (l : List ℕ) (x : ℕ) → place_in (l ++ x ∷ []) x ≡ place_in l x
unfolding place_in
place_end [] x = rw (eq-eqb x x refl)
place_end (y ∷ l) x = ap (λ k. cond (eqb y x) 0 (suc k)) (place_end l x)

pub place_mentioned : (seen : List ℕ) (x : ℕ) → place_in (mentioned seen x) x ≡ place_in seen x
unfolding mentioned
place_mentioned seen x = by (is_in seen x)
  where
    by : (b : Bool) → place_in (cond b seen (seen ++ x ∷ [])) x ≡ place_in seen x
    by true = refl
    by false = place_end seen x

-- What several mentions add comes after what was there.
pub grown : (seen xs : List ℕ) → (more : List ℕ) × (all_mentioned seen xs ≡ seen ++ more)
unfolding all_mentioned
grown seen [] = ([], sym (append-nil seen))
grown seen (x ∷ rest) = by (is_in seen x) refl (grown (mentioned seen x) rest)
  where
    by : (b : Bool) → is_in seen x ≡ b → (more : List ℕ) × (all_mentioned (mentioned seen x) rest ≡ mentioned seen x ++ more)
        → (more : List ℕ) × (all_mentioned (mentioned seen x) rest ≡ seen ++ more)
    by true there tail = (tail.0, tail.1 ∙ ap (λ l. l ++ tail.0) (mentioned_there seen x there))
    by false out tail = (x ∷ tail.0, tail.1 ∙ ap (λ l. l ++ tail.0) (mentioned_new seen x out) ∙ append_assoc seen (x ∷ []) tail.0)

pub place_kept : (seen xs : List ℕ) (y : ℕ) → is_in seen y ≡ true → place_in (all_mentioned seen xs) y ≡ place_in seen y
place_kept seen xs y h = ap (λ l. place_in l y) (grown seen xs).1 ∙ place_append seen (grown seen xs).0 y h

pub all_append : (seen xs ys : List ℕ) → all_mentioned seen (xs ++ ys) ≡ all_mentioned (all_mentioned seen xs) ys
unfolding all_mentioned
all_append seen [] ys = refl
all_append seen (x ∷ rest) ys = all_append (mentioned seen x) rest ys

-- P holds of each element of a list.
abbrev pub All : (ℕ → Type 0) → List ℕ → Type 0
All P xs = (x : ℕ) → is_in xs x ≡ true → P x

module _ (P : ℕ → Type 0) where
  pub all_none : All P []
  unfolding is_in
  all_none x h = absurd (false≢true h)

  pub all_cons : (y : ℕ) (l : List ℕ) → P y → All P l → All P (y ∷ l)
  unfolding is_in
  all_cons y l first rest x h = ⊎_elim (λ e. subst P (eqb-true y x e) first) (rest x) (or_cases _ _ h)

  pub all_first : (y : ℕ) (l : List ℕ) → All P (y ∷ l) → P y
  unfolding is_in
  all_first y l all = all y (or_left _ _ (eq-eqb y y refl))

  pub all_rest : (y : ℕ) (l : List ℕ) → All P (y ∷ l) → All P l
  unfolding is_in
  all_rest y l all x h = all x (or_right (eqb y x) _ h)

  pub all_both : (l r : List ℕ) → All P l → All P r → All P (l ++ r)
  all_both l r left right x h = ⊎_elim (left x) (right x) (or_cases _ _ (sym (in_append l r x) ∙ h))

  pub all_left : (l r : List ℕ) → All P (l ++ r) → All P l
  all_left l r all x h = all x (in_append l r x ∙ or_left _ _ h)

  pub all_right : (l r : List ℕ) → All P (l ++ r) → All P r
  all_right l r all x h = all x (in_append l r x ∙ or_right (is_in l x) _ h)

  -- What holds of those seen and of those mentioned holds of the result.
  pub all_mentioned_lem : (seen xs : List ℕ) → All P seen → All P xs → All P (all_mentioned seen xs)
  all_mentioned_lem seen xs before more x h = ⊎_elim (before x) (more x) (or_cases _ _ (sym (in_mentions seen xs x) ∙ h))

  pub all_distinct : (xs : List ℕ) → All P xs → All P (distinct xs)
  all_distinct xs all x h = all x (sym (in_distinct xs x) ∙ h)

  -- By number.
  pub all_get_d : (l : List ℕ) → All P l → (i : ℕ) → i < length l → P (get_or l i 0)
  all_get_d [] all i h = absurd (omega arith)
  all_get_d (y ∷ l) all zero h = all_first y l all
  all_get_d (y ∷ l) all (suc i) h = all_get_d l (all_rest y l all) i (omega arith)

-- Of a list after f.
pub all_map : (P : ℕ → Type 0) (f : ℕ → ℕ) (l : List ℕ) → All (λ x. P (f x)) l → All P (map f l)
all_map P f [] all = all_none P
all_map P f (y ∷ l) all = all_cons P (f y) (map f l) (all_first (λ x. P (f x)) y l all) (all_map P f l (all_rest (λ x. P (f x)) y l all))

-- How many of the numbers below m are not in a list.
abbrev pub unseen : ℕ → List ℕ → ℕ
unseen m l = count m (λ x. not (is_in l x))

-- The elements of a list and the numbers below m that are not in it are together at most m.
pub record Few (m : ℕ) (l : List ℕ) : Type 0 where
  pub room : length l + unseen m l ≤ m

neither : (a b : Bool) → not (a || b) ≡ true → not a ≡ true
neither true b h = h
neither false b h = refl

module _ (m : ℕ) where
  pub few_none : Few m []
  unfolding is_in
  few_none = record { room = most }
    where
      most : 0 + count m (λ x. true) ≤ m
      most = omega (arith, count_all m)

  pub few_length : (l : List ℕ) → Few m l → length l ≤ m
  few_length l few = omega (arith, few.room)

  module _ (l : List ℕ) (few : Few m l) (x : ℕ) (below : x < m) where
    -- A number below m that is not there leaves room.
    fewer : is_in l x ≡ false → unseen m (mentioned l x) < unseen m l
    fewer out =
        count_more m _ _ (λ y h. neither (is_in l y) (eqb x y) (ap not (sym (in_mentioned l x y)) ∙ h)) x below (ap not (mentioned_in l x)) (ap not out)

    pub few_room : is_in l x ≡ false → length l < m
    few_room out = omega (arith, few.room, fewer out)

    pub few_mention : Few m (mentioned l x)
    few_mention = by (is_in l x) refl
      where
        by : (b : Bool) → is_in l x ≡ b → Few m (mentioned l x)
        by true there = rw (mentioned_there l x there) few
        by false out = record { room = rw (length_mentioned l x out) (omega (arith, few.room, fewer out)) }

  pub few_all : (seen xs : List ℕ) → Few m seen → All (λ x. x < m) xs → Few m (all_mentioned seen xs)
  unfolding all_mentioned
  few_all seen [] few below = few
  few_all seen (x ∷ rest) few below =
      few_all (mentioned seen x) rest (few_mention seen few x (all_first (λ x. x < m) x rest below)) (all_rest (λ x. x < m) x rest below)

  pub few_distinct : (xs : List ℕ) → All (λ x. x < m) xs → Few m (distinct xs)
  unfolding distinct
  few_distinct xs below = few_all [] xs few_none below
