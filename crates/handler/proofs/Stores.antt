-- Laws of tables of words: runs of stores, and what a table holds from a number on.
use Prim.Native.Nat.{ℕ, suc, ◌+◌, ◌<◌}
use mathlib.Core.List.{List, [], ◌∷◌, ◌++◌, append_assoc}
use mathlib.Core.Path.{◌≡◌, refl, sym, ap, ◌∙◌}
use native.Mathlib.Omega.{arith}
use lib.ListN.{length, get_or, drop, set}
use lib.Seq.{get_or-drop, drop_at, drop-drop, sets, set_comm}

-- Runs of stores.
pub sets_append : (table : List ℕ) (i : ℕ) (xs ys : List ℕ) → sets table i (xs ++ ys) ≡ sets (sets table i xs) (i + length xs) ys
sets_append table i [] ys = let here : i + 0 ≡ i = omega arith in rw here
sets_append table i (x ∷ xs) ys =
    let here : i + suc (length xs) ≡ suc i + length xs = omega arith in
    rw here (sets_append (set table i x) (suc i) xs ys)

set_sets : (table : List ℕ) (i j x : ℕ) (xs : List ℕ) → i < j → set (sets table j xs) i x ≡ sets (set table i x) j xs
set_sets table i j x [] less = refl
set_sets table i j x (y ∷ xs) less =
    set_sets (set table j y) i (suc j) x xs (omega arith)
    ∙ ap (λ l. sets l (suc j) xs) (set_comm table j i y x (λ same. let other : j ≡ i = same in omega arith))

-- A node with one part, whose own word is stored last.
pub one_filled : (table₀ table₁ table₂ : List ℕ) (before word : ℕ) (xs : List ℕ)
    → table₁ ≡ sets table₀ (suc before) xs → table₂ ≡ set table₁ before word → table₂ ≡ sets table₀ before (word ∷ xs)
one_filled table₀ table₁ table₂ before word xs first own = own ∙ ap (λ l. set l before word) first ∙ set_sets table₀ before (suc before) word xs (omega arith)

-- A node with two parts, whose own word is stored between theirs.
pub two_filled : (table₀ table₁ table₂ table₃ : List ℕ) (before so_far word : ℕ) (xs ys : List ℕ) → so_far ≡ suc before + length xs
    → table₁ ≡ sets table₀ (suc before) xs → table₂ ≡ set table₁ before word → table₃ ≡ sets table₂ so_far ys
    → table₃ ≡ sets table₀ before (word ∷ (xs ++ ys))
two_filled table₀ table₁ table₂ table₃ before so_far word xs ys counted first own second =
    second ∙ rw (counted, one_filled table₀ table₁ table₂ before word xs first own) (sym (sets_append (set table₀ before word) (suc before) xs ys))

-- Two runs, one after the other.
pub both_filled : (table₀ table₁ table₂ : List ℕ) (i j : ℕ) (xs ys : List ℕ) → j ≡ i + length xs
    → table₁ ≡ sets table₀ i xs → table₂ ≡ sets table₁ j ys → table₂ ≡ sets table₀ i (xs ++ ys)
both_filled table₀ table₁ table₂ i j xs ys counted first second = second ∙ rw (counted, first) (sym (sets_append table₀ i xs ys))

-- What a table holds from number j on.
module _ (table : List ℕ) (j : ℕ) where
  pub first_held : (words : List ℕ) → drop j table ≡ words → get_or table j 0 ≡ get_or words 0 0
  first_held words e =
      let here : j + 0 ≡ j = omega arith in
      ap (λ n. get_or table n 0) (sym here) ∙ sym (get_or-drop j table 0 0) ∙ ap (λ l. get_or l 0 0) e

  pub later_held : (word : ℕ) (rest : List ℕ) → drop j table ≡ word ∷ rest → drop (suc j) table ≡ rest
  later_held word rest e =
      let next : j + 1 ≡ suc j = omega arith in
      ap (λ n. drop n table) (sym next) ∙ sym (drop-drop 1 j table) ∙ ap (drop 1) e

  -- Two parts, of which the first has n words.
  pub both_held : (n : ℕ) (xs ys rest : List ℕ) → length xs ≡ n → drop j table ≡ xs ++ ys ++ rest
      → (drop j table ≡ xs ++ (ys ++ rest)) × (drop (j + n) table ≡ ys ++ rest)
  both_held n xs ys rest long e =
      let first = e ∙ append_assoc xs ys rest in
      (first, sym (drop-drop n j table) ∙ ap (drop n) first ∙ drop_at xs (ys ++ rest) n long)
