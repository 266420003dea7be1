-- Sets stored one after the other in words. An entry that is stored is read back, and the other entries are unchanged: proved for entries
-- of any width w, and used at the width of a set.
use Prim.Native.Nat.{ℕ, suc, ◌+◌, ◌*◌, ◌<◌, ◌≤◌}
use native.Mathlib.Decide.{dec_lt}
use native.Mathlib.Numerals.{add-one}
use native.Mathlib.Omega.{arith}
use mathlib.Core.Path.{◌≡◌, refl, sym, ap, ◌∙◌}
use mathlib.Core.Logic.{◌⊎◌, inl, inr}
use mathlib.Core.Bool.{Bool, true, false, ◌&&◌}
use mathlib.Core.List.{List, [], ◌∷◌, append_assoc}
use lib.ListN.{get_or, length, set, take, drop, replicate, length-take, length-drop, length-set, drop_of_length-le, get_or-eq_default}
use lib.Seq.{sets, sets-eq, length-sets, ext_get_or, get_or-take, get_or-drop, get_or-set_other, length-take-le, take_at, drop_at, drop-drop}
use lib.Dec.{ltb}
use borrow.Author.Tests.{lt-ltb, le-ltb}
use Rattle.states.specs.declared.StateSet.{StateSet}
use Rattle.states.specs.Sets.{set_words, capacity, mem, has, words_in, entry_at, with_entry}
use Rattle.states.specs.Relations.{RowsGiven}
use Rattle.states.proofs.Search.{below_cases}
use Rattle.states.proofs.Words.{mem_zeros, mem_below, mem_nought}
use Rattle.states.proofs.Cells.{blank}

-- Entries of w words.
module _ (w : ℕ) where
  entry_stored : (words xs : List ℕ) (i : ℕ) → length xs ≡ w → w * i + w ≤ length words → take w (drop (w * i) (sets words (w * i) xs)) ≡ xs
  entry_stored words xs i long fits =
      ap (λ l. take w (drop (w * i) l)) (sets-eq xs words (w * i) (omega arith) ∙ append_assoc (take (w * i) words) xs _)
      ∙ ap (take w) (drop_at (take (w * i) words) _ (w * i) (length-take-le (w * i) words (omega arith)))
      ∙ take_at xs _ w long

  -- A store to a word outside an entry does not change the entry.
  apart : (words : List ℕ) (a k x : ℕ) → (k < a) ⊎ (a + w ≤ k) → take w (drop a (set words k x)) ≡ take w (drop a words)
  apart words a k x out = ext_get_or 0 _ _ long at
    where
      long : length (take w (drop a (set words k x))) ≡ length (take w (drop a words))
      long = length-take w _ ∙ rw (length-drop, length-set) (sym (length-take w (drop a words) ∙ rw length-drop))

      other : (i : ℕ) → i < w → (k < a) ⊎ (a + w ≤ k) → a + i ≡ k → ⊥
      other i l (inl h) e = omega arith
      other i l (inr h) e = omega arith

      at : (i : ℕ) → i < length (take w (drop a (set words k x))) → get_or (take w (drop a (set words k x))) i 0 ≡ get_or (take w (drop a words)) i 0
      at i l =
          let low : i < w = omega (arith, length-take w (drop a (set words k x))) in
          get_or-take w (drop a (set words k x)) i 0 low ∙ get_or-drop a (set words k x) i 0 ∙ get_or-set_other words k (a + i) x 0 (other i low out)
          ∙ sym (get_or-take w (drop a words) i 0 low ∙ get_or-drop a words i 0)

  entries_apart : (words xs : List ℕ) (a k : ℕ) → (k + length xs ≤ a) ⊎ (a + w ≤ k) → take w (drop a (sets words k xs)) ≡ take w (drop a words)
  entries_apart words [] a k out = refl
  entries_apart words (x ∷ xs) a k (inl h) = entries_apart (set words k x) xs a (suc k) (inl (omega arith)) ∙ apart words a k x (inl (omega arith))
  entries_apart words (x ∷ xs) a k (inr h) = entries_apart (set words k x) xs a (suc k) (inr (omega arith)) ∙ apart words a k x (inr h)

-- At the width of a set.
pub stored_same : (words : List ℕ) (i : ℕ) (set : StateSet) → set_words * i + set_words ≤ length words → entry_at (with_entry words i set) i ≡ words_in set
unfolding entry_at with_entry
stored_same words i set fits = entry_stored set_words words (words_in set) i refl fits

pub stored_other : (words : List ℕ) (i j : ℕ) (set : StateSet) → (i < j) ⊎ (j < i) → entry_at (with_entry words i set) j ≡ entry_at words j
unfolding entry_at with_entry
stored_other words i j set (inl h) = entries_apart set_words words (words_in set) (set_words * j) (set_words * i) (inl (omega arith))
stored_other words i j set (inr h) = entries_apart set_words words (words_in set) (set_words * j) (set_words * i) (inr (omega arith))

pub length_stored : (words : List ℕ) (i : ℕ) (set : StateSet) → length (with_entry words i set) ≡ length words
unfolding with_entry
length_stored words i set = length-sets words (set_words * i) (words_in set)

-- An entry has only states that a set can hold, and past the end it has none.
pub entry_below : (words : List ℕ) (i s : ℕ) → mem (entry_at words i) s ≡ true → s < capacity
unfolding entry_at
entry_below words i s h = omega (arith, mem_below _ s h, length-take set_words (drop (set_words * i) words))

pub entry_past : (words : List ℕ) (i s : ℕ) → length words ≤ set_words * i → mem (entry_at words i) s ≡ false
unfolding entry_at
entry_past words i s past = rw (drop_of_length-le words past) (mem_zeros _ (λ k. refl) s)

-- If all words are 0, an entry has no state.
pub entry_zeros : (words : List ℕ) → ((k : ℕ) → get_or words k 0 ≡ 0) → (i s : ℕ) → mem (entry_at words i) s ≡ false
unfolding entry_at
entry_zeros words none i s = mem_zeros _ (λ k. at k (dec_lt k set_words)) s
  where
    at : (k : ℕ) → Dec (k < set_words) → get_or (take set_words (drop (set_words * i) words)) k 0 ≡ 0
    at k (yes l) = get_or-take set_words (drop (set_words * i) words) k 0 l ∙ get_or-drop (set_words * i) words k 0 ∙ none (set_words * i + k)
    at k (no l) = get_or-eq_default (take set_words (drop (set_words * i) words)) 0 {n = k} (omega (arith, length-take set_words (drop (set_words * i) words)))

-- The entries from entry a on.
pub entry_from : (words : List ℕ) (a i : ℕ) → entry_at (drop (set_words * a) words) i ≡ entry_at words (a + i)
unfolding entry_at
entry_from words a i =
    ap (take set_words) (drop-drop (set_words * i) (set_words * a) words ∙ ap (λ k. drop k words) same)
  where
    same : set_words * a + set_words * i ≡ set_words * (a + i)
    same = omega arith

-- As a set is one word, an entry is a word of the list.
pub entry_word_lem : (words : List ℕ) (i s : ℕ) → mem (entry_at words i) s ≡ mem (get_or words i 0 ∷ []) s
unfolding entry_at
entry_word_lem words i s = at (drop (set_words * i) words) ∙ ap (λ x. mem (x ∷ []) s) (get_or-drop (set_words * i) words 0 0 ∙ ap (λ k. get_or words k 0) same)
  where
    same : set_words * i + 0 ≡ i
    same = omega arith

    at : (l : List ℕ) → mem (take set_words l) s ≡ mem (get_or l 0 0 ∷ []) s
    at [] = mem_zeros [] (λ k. refl) s ∙ sym (mem_nought s)
    at (x ∷ xs) = refl

-- Rows filled by a loop, a given set at each.
module _ (gives : ℕ → StateSet → Type 0) where
  pub rows_none : RowsGiven gives 0 (replicate (set_words * capacity) 0)
  rows_none = record { hold = λ s l. absurd (omega arith); rest = λ s l. entry_zeros _ (blank {A = ℕ} (set_words * capacity) 0) s }

  pub rows_more : (k : ℕ) (rows : List ℕ) (set : StateSet) → set_words * k + set_words ≤ length rows → gives k set
      → RowsGiven gives k rows → RowsGiven gives (k + 1) (with_entry rows k set)
  unfolding has
  rows_more k rows set fits new old = record { hold = hold; rest = λ s h t. rw (stored_other rows k s set (inl (omega arith))) (old.rest s (omega arith) t) }
    where
      Holds : ℕ → Type 0
      Holds s = (x : StateSet) × gives s x × ((t : ℕ) → mem (entry_at (with_entry rows k set) s) t ≡ has x t)

      hold : (s : ℕ) → s < k + 1 → Holds s
      hold s h =
          below_cases Holds k s (rw add-one at h) (set, new, λ t. ap (λ words. mem words t) (stored_same rows k set fits))
          (λ low. let there = old.hold s low in (there.0, there.1, λ t. rw (stored_other rows k s set (inr low)) (there.2 t)))

-- The pairs of rows that hold a given set for each of the first k states, where no other state that a set can hold starts a pair.
pub rows_mem_to : (k : ℕ) (gives : ℕ → StateSet → Type 0) (f : ℕ → ℕ → Bool) (rows : List ℕ) → k ≤ capacity → RowsGiven gives k rows
    → ((s : ℕ) → s < k → (set : StateSet) → gives s set → (t : ℕ) → has set t ≡ f s t)
    → ((s t : ℕ) → k ≤ s → s < capacity → f s t ≡ false)
    → (s t : ℕ) → mem (entry_at rows s) t ≡ (ltb s capacity && f s t)
rows_mem_to k gives f rows most filled same none s t = at (dec_lt s k) (dec_lt s capacity)
  where
    at : Dec (s < k) → Dec (s < capacity) → mem (entry_at rows s) t ≡ (ltb s capacity && f s t)
    at (yes l) d = let there = filled.hold s l in rw (lt-ltb s capacity (omega arith)) (there.2 t ∙ same s l there.0 there.1 t)
    at (no l) (yes m) = rw (lt-ltb s capacity m) (filled.rest s (omega arith) t ∙ sym (none s t (omega arith) m))
    at (no l) (no m) = rw (le-ltb s capacity (omega arith)) (filled.rest s (omega arith) t)

-- The same of rows that hold a set for each state that a set can hold.
pub rows_mem : (gives : ℕ → StateSet → Type 0) (f : ℕ → ℕ → Bool) (rows : List ℕ) → RowsGiven gives capacity rows
    → ((s : ℕ) → s < capacity → (set : StateSet) → gives s set → (t : ℕ) → has set t ≡ f s t)
    → (s t : ℕ) → mem (entry_at rows s) t ≡ (ltb s capacity && f s t)
rows_mem gives f rows filled same = rows_mem_to capacity gives f rows (omega arith) filled same (λ s t past low. absurd (omega arith))
