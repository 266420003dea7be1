-- A buffer whose first words are written one after the other: what it holds after each, and at the end.
use Prim.Native.Nat.{ℕ, zero, suc, ◌+◌, min, ◌≤◌, ◌<◌}
use mathlib.Core.Bool.{Bool, true, false, cond}
use mathlib.Core.List.{List, [], ◌∷◌, ◌++◌}
use mathlib.Core.Logic.{⊎_elim}
use mathlib.Core.Path.{◌≡◌, refl, sym, ap, ◌∙◌}
use native.Mathlib.Nat.{eq-or-lt_of_le}
use native.Mathlib.Numerals.{add-one}
use native.Mathlib.Omega.{arith}
use borrow.Author.Tests.{lt-ltb, le-ltb, ltb-true, ltb-false, eqb-true, eqb-false}
use lib.Dec.{ltb, eqb}
use lib.ListN.{length, drop, replicate, set, get_or, length-append, length-drop, length-set, get_or-append}
use lib.Seq.{drop-cons, drop_at, append_snoc, set_at, set-append_left, get_or_at, get_or-set_same, get_or-set_other, ext_get_or}
use Rattle.derivation.specs.Tables.{tabulate, work_words, written}

module _ (f : ℕ → ℕ) where
  pub length_tabulate : (k : ℕ) → length (tabulate k f) ≡ k
  unfolding tabulate
  length_tabulate zero = refl
  length_tabulate (suc k) = simp length-append (omega (arith, length_tabulate k))

  tabulate_at : (k i : ℕ) → i < k → get_or (tabulate k f) i 0 ≡ f i
  unfolding tabulate
  tabulate_at zero i under = absurd (omega arith)
  tabulate_at (suc k) i under =
      ⊎_elim
      (λ last. let is : i ≡ k = omega arith in rw is (get_or_at (tabulate k f) (f k) [] 0 k (length_tabulate k)))
      (λ less. get_or-append (tabulate k f) (f k ∷ []) 0 i (omega (arith, length_tabulate k)) ∙ tabulate_at k i (omega arith))
      (eq-or-lt_of_le under)

  module _ (work : List ℕ) where
    pub length_filled : (j : ℕ) → j ≤ length work → length (tabulate j f ++ drop j work) ≡ length work
    length_filled j within = simp (length-append, length-drop) (omega (arith, length_tabulate j))

    -- The next word.
    pub fill_more : (j : ℕ) → j < length work
        → set (tabulate j f ++ drop j work) j (f j) ≡ tabulate (j + 1) f ++ drop (j + 1) work
    unfolding tabulate
    fill_more j more =
        rw (add-one, drop-cons work j 0, append_snoc)
        (set_at (tabulate j f) (get_or work j 0) (drop (suc j) work) (f j) j (length_tabulate j))

    pub length_written : length (written f work) ≡ length work
    unfolding written
    length_written = length_filled (min work_words (length work)) (omega arith)

    pub written_at : (i : ℕ) → i < work_words → i < length work → get_or (written f work) i 0 ≡ f i
    unfolding written
    written_at i table within =
        let count = min work_words (length work) in
        get_or-append (tabulate count f) (drop count work) 0 i (omega (arith, length_tabulate count)) ∙ tabulate_at count i (omega arith)

-- A buffer depends only on the values that it has room for.
pub written_agree : (f g : ℕ → ℕ) (work : List ℕ) → ((j : ℕ) → j < length work → f j ≡ g j) → written f work ≡ written g work
unfolding written tabulate
written_agree f g work same = ap (λ l. l ++ drop (min work_words (length work)) work) (agree (min work_words (length work)) (λ j under. same j (omega arith)))
  where
    agree : (k : ℕ) → ((j : ℕ) → j < k → f j ≡ g j) → tabulate k f ≡ tabulate k g
    agree zero same = refl
    agree (suc k) same = rw (agree k (λ j under. same j (omega arith)), same k (omega arith))

pub written_same : (f g : ℕ → ℕ) (work : List ℕ) → ((j : ℕ) → f j ≡ g j) → written f work ≡ written g work
written_same f g work same = written_agree f g work (λ j under. same j)

-- What was written before does not show.
pub written_again : (f g : ℕ → ℕ) (work : List ℕ) → written f (written g work) ≡ written f work
unfolding written
written_again f g work =
    let count = min work_words (length work) in
    rw (length_written g work, drop_at (tabulate count g) (drop count work) count (length_tabulate g count))

-- One word written over.
written_set : (f g : ℕ → ℕ) (work : List ℕ) (i : ℕ) → i < work_words → i < length work → ((j : ℕ) → (j ≡ i → ⊥) → f j ≡ g j)
    → set (written f work) i (g i) ≡ written g work
unfolding written
written_set f g work i table within others =
    let count = min work_words (length work) in
    set-append_left (tabulate count f) (drop count work) i (g i) (omega (arith, length_tabulate f count))
    ∙ ap (λ l. l ++ drop count work) (ext_get_or 0 (set (tabulate count f) i (g i)) (tabulate count g) (length-set (tabulate count f) i (g i) ∙ length_tabulate f count ∙ sym (length_tabulate g count)) (λ j under.
    at count j (omega (arith, length-set (tabulate count f) i (g i), length_tabulate f count)) (eqb j i) refl))
  where
    at : (k j : ℕ) → j < k → (b : Bool) → eqb j i ≡ b → get_or (set (tabulate k f) i (g i)) j 0 ≡ get_or (tabulate k g) j 0
    at k j under true t =
        let is = eqb-true j i t in
        rw is (get_or-set_same (tabulate k f) i (g i) 0 (omega (arith, length_tabulate f k)) ∙ sym (tabulate_at g k i (omega arith)))
    at k j under false t =
        let other = eqb-false j i t in
        get_or-set_other (tabulate k f) i j (g i) 0 other ∙ tabulate_at f k j under ∙ others j other ∙ sym (tabulate_at g k j under)

-- The values below k, and 0 from there on.
abbrev pub upto : (ℕ → ℕ) → ℕ → ℕ → ℕ
upto f k j = cond (ltb j k) (f j) 0

module _ (f : ℕ → ℕ) (work : List ℕ) where
  pub upto_none : written (upto f 0) work ≡ written (λ j. 0) work
  upto_none = written_same _ _ work (λ j. rw (le-ltb j 0 (omega arith)))

  -- The next word that may not be 0.
  pub upto_more : (k next : ℕ) → k < next → k < work_words → k < length work → ((j : ℕ) → k < j → j < next → f j ≡ 0)
      → set (written (upto f k) work) k (f k) ≡ written (upto f next) work
  upto_more k next on table within zeros =
      ap (set (written (upto f k) work) k) (sym (rw (lt-ltb k next on))) ∙ written_set (upto f k) (upto f next) work k table within others
    where
      others : (j : ℕ) → (j ≡ k → ⊥) → upto f k j ≡ upto f next j
      others j other = by (ltb j k) refl (ltb j next) refl
        where
          by : (a : Bool) → ltb j k ≡ a → (b : Bool) → ltb j next ≡ b → cond a (f j) 0 ≡ cond b (f j) 0
          by true t true u = refl
          by true t false u = absurd (omega (arith, ltb-true j k t, ltb-false j next u))
          by false t true u =
              let after : k < j = ⊎_elim (λ e. absurd (other (sym e))) (λ less. less) (eq-or-lt_of_le (ltb-false j k t)) in
              sym (zeros j after (ltb-true j next u))
          by false t false u = refl

  -- Where only 0 is left, all is written.
  pub upto_all : (k : ℕ) → ((j : ℕ) → k ≤ j → j < length work → f j ≡ 0) → written (upto f k) work ≡ written f work
  upto_all k zeros = written_agree _ _ work (λ j under. by j under (ltb j k) refl)
    where
      by : (j : ℕ) → j < length work → (b : Bool) → ltb j k ≡ b → cond b (f j) 0 ≡ f j
      by j under true t = refl
      by j under false t = sym (zeros j (ltb-false j k t) under)

-- The same value everywhere.
zero_more : (k : ℕ) → replicate {A = ℕ} k 0 ++ 0 ∷ [] ≡ replicate (suc k) 0
zero_more zero = refl
zero_more (suc k) = ap (λ (l : List ℕ). 0 ∷ l) (zero_more k)

pub tabulate_zeros : (k : ℕ) → tabulate k (λ j. 0) ≡ replicate k 0
unfolding tabulate
tabulate_zeros zero = refl
tabulate_zeros (suc k) = rw (tabulate_zeros k) (zero_more k)
