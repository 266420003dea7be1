-- Sets as lists of any number of words: an operation on each word is one on each state, by one law for all words. The first word has the
-- first 64 states, and the others have the rest.
use Prim.Native.Nat.{ℕ, zero, suc, ◌+◌, ◌-◌, ◌*◌, ◌/◌, ◌%◌, ◌^◌, ◌≤◌, ◌<◌}
use native.Mathlib.Decide.{dec_lt}
use native.Mathlib.Omega.{arith}
use mathlib.Core.Path.{◌≡◌, refl, sym, ap, ap₂, ◌∙◌}
use mathlib.Core.Bool.{Bool, true, false, cond, not, ◌&&◌, ◌||◌, and-true, true≢false}
use mathlib.Core.List.{List, [], ◌∷◌, zip_with}
use lib.ListN.{get_or, length, get_or-eq_default}
use lib.Dec.{eqb, ltb}
use lib.Bits.{bit_and}
use lib.Count.{count_trailing_zeros, trailing_of_zero}
use borrow.Author.Tests.{eqb-true, lt-ltb, le-ltb}
use Rattle.states.specs.Search.{all, any, least_where}
use Rattle.states.specs.Sets.{mem, bits_where}
use Rattle.states.proofs.Search.{turned, not_true_false, all_cong, all_split, all_not, any_cong, any_split}
use Rattle.states.proofs.Least.{least_cong, least_split}
use Rattle.states.proofs.Where.{where_same, where_first}
use Rattle.states.proofs.Bits.{bit, Bitwise, bit_nought, word_empty, trailing_least, and_bits, bit_lower}

-- Every word of the list is a word of 64 bits.
abbrev pub Words : List ℕ → Type 0
Words xs = (i : ℕ) → get_or xs i 0 < 2 ^ 64

pub one_word : {x : ℕ} → x < 2 ^ 64 → Words (x ∷ [])
one_word h zero = h
one_word h (suc i) = omega arith

-- A state is in the first word or in the others.
pub mem_first : (x : ℕ) (xs : List ℕ) (s : ℕ) → s < 64 → mem (x ∷ xs) s ≡ bit x s
unfolding mem
mem_first x xs s l =
    let q : s / 64 ≡ 0 = omega arith in
    let r : s % 64 ≡ s = omega arith in
    rw (q, r)

pub mem_later : (x : ℕ) (xs : List ℕ) (s : ℕ) → mem (x ∷ xs) (64 + s) ≡ mem xs s
unfolding mem
mem_later x xs s =
    let q : (64 + s) / 64 ≡ suc (s / 64) = omega arith in
    let r : (64 + s) % 64 ≡ s % 64 = omega arith in
    rw (q, r)

-- The states of one word.
pub mem_part : (xs : List ℕ) (i k : ℕ) → k < 64 → mem xs (64 * i + k) ≡ bit (get_or xs i 0) k
unfolding mem
mem_part xs i k l =
    let q : (64 * i + k) / 64 ≡ i = omega arith in
    let r : (64 * i + k) % 64 ≡ k = omega arith in
    rw (q, r)

-- The first of them as a file has them.
pub part_bits : (xs : List ℕ) (i count : ℕ) → count ≤ 64 → bits_where 64 (bit (get_or xs i 0)) / 2 ^ (64 - count) ≡ bits_where count (λ k. mem xs (64 * i + k))
part_bits xs i count most = where_first _ count 64 most ∙ where_same count _ _ (λ k l. sym (mem_part xs i k (omega arith)))

-- Words that are all 0 have no member, and no state past the words is a member.
pub mem_zeros : (xs : List ℕ) → ((i : ℕ) → get_or xs i 0 ≡ 0) → (s : ℕ) → mem xs s ≡ false
unfolding mem
mem_zeros xs none s = rw (none (s / 64)) (bit_nought (s % 64))

pub mem_below : (xs : List ℕ) (s : ℕ) → mem xs s ≡ true → s < 64 * length xs
unfolding mem
mem_below xs s h = at (dec_lt s (64 * length xs))
  where
    at : Dec (s < 64 * length xs) → s < 64 * length xs
    at (yes l) = l
    at (no l) =
        let past : get_or xs (s / 64) 0 ≡ 0 = get_or-eq_default xs 0 {n = s / 64} (omega arith) in
        absurd (true≢false (sym h ∙ rw past (bit_nought (s % 64))))

-- An operation that acts bit by bit acts state by state.
pub mem_wise : (op : ℕ → ℕ → ℕ) (β : Bool → Bool → Bool) → Bitwise op β → op 0 0 ≡ 0
    → (xs ys : List ℕ) → length xs ≡ length ys → (s : ℕ) → mem (zip_with op xs ys) s ≡ β (mem xs s) (mem ys s)
unfolding mem zip_with
mem_wise op β wise nought xs ys e s = ap (λ x. bit x (s % 64)) (at xs ys e (s / 64)) ∙ wise _ _ (s % 64)
  where
    at : (xs ys : List ℕ) → length xs ≡ length ys → (i : ℕ) → get_or (zip_with op xs ys) i 0 ≡ op (get_or xs i 0) (get_or ys i 0)
    at [] [] e i = sym nought
    at [] (y ∷ ys) e i = absurd (omega arith)
    at (x ∷ xs) [] e i = absurd (omega arith)
    at (x ∷ xs) (y ∷ ys) e zero = refl
    at (x ∷ xs) (y ∷ ys) e (suc i) = at xs ys (omega arith) i

-- If a test of two words is a test of all their bits, testing two lists word by word is a test of all states.
module _ (test : ℕ → ℕ → Bool) (β : Bool → Bool → Bool)
    (bits : (x y : ℕ) → x < 2 ^ 64 → y < 2 ^ 64 → test x y ≡ all 64 (λ k. β (bit x k) (bit y k))) where
  abbrev pub each_word : List ℕ → List ℕ → Bool
  each_word (x ∷ xs) (y ∷ ys) = test x y && each_word xs ys
  each_word (x ∷ xs) [] = true
  each_word [] ys = true

  pub words_all : (xs ys : List ℕ) → length xs ≡ length ys → Words xs → Words ys
      → each_word xs ys ≡ all (64 * length xs) (λ s. β (mem xs s) (mem ys s))
  unfolding all
  words_all [] [] e hx hy = refl
  words_all [] (y ∷ ys) e hx hy = absurd (omega arith)
  words_all (x ∷ xs) [] e hx hy = absurd (omega arith)
  words_all (x ∷ xs) (y ∷ ys) e hx hy =
      let more : 64 * length (x ∷ xs) ≡ 64 + 64 * length xs = omega arith in
      rw more
      (ap₂ ◌&&◌ (bits x y (hx 0) (hy 0) ∙ all_cong 64 _ _ (λ k l. sym (ap₂ β (mem_first x xs k l) (mem_first y ys k l))))
      (words_all xs ys (omega arith) (λ i. hx (suc i)) (λ i. hy (suc i)) ∙ all_cong (64 * length xs) _ _ (λ s l. sym (ap₂ β (mem_later x xs s) (mem_later y ys s))))
      ∙ sym (all_split 64 (64 * length xs) _))

  -- For one word.
  pub word_all : (x y : ℕ) → x < 2 ^ 64 → y < 2 ^ 64 → test x y ≡ all 64 (λ s. β (mem (x ∷ []) s) (mem (y ∷ []) s))
  word_all x y hx hy = sym (and-true (test x y)) ∙ words_all (x ∷ []) (y ∷ []) refl (one_word hx) (one_word hy)

-- Some bit of a word is set unless it is 0.
some_bit : (x : ℕ) → x < 2 ^ 64 → eqb x 0 ≡ not (any 64 (bit x))
some_bit x h = word_empty x h ∙ all_not 64 (bit x)

any_bit : (x : ℕ) → x < 2 ^ 64 → any 64 (bit x) ≡ not (eqb x 0)
any_bit x h = turned _ _ (some_bit x h)

-- The least member: that of the first word that is not 0.
abbrev pub least_in : List ℕ → ℕ
least_in [] = 0
least_in (x ∷ xs) = cond (eqb x 0) (64 + least_in xs) (count_trailing_zeros 64 x)

pub least_words : (xs : List ℕ) → Words xs → least_in xs ≡ least_where (64 * length xs) (mem xs)
unfolding least_where
least_words [] h = refl
least_words (x ∷ xs) h =
    let more : 64 * length (x ∷ xs) ≡ 64 + 64 * length xs = omega arith in
    rw more
    (at (eqb x 0) (least_words xs (λ i. h (suc i)))
    ∙ ap (λ b. cond b (least_where 64 (mem (x ∷ xs))) (64 + least_where (64 * length xs) (λ s. mem (x ∷ xs) (64 + s))))
    (sym (any_bit x (h 0)) ∙ any_cong 64 _ _ (λ k l. sym (mem_first x xs k l)))
    ∙ sym (least_split 64 (64 * length xs) (mem (x ∷ xs))))
  where
    at : (b : Bool) → least_in xs ≡ least_where (64 * length xs) (mem xs) → cond b (64 + least_in xs) (count_trailing_zeros 64 x)
        ≡ cond (not b) (least_where 64 (mem (x ∷ xs))) (64 + least_where (64 * length xs) (λ s. mem (x ∷ xs) (64 + s)))
    at true e = ap (λ k. 64 + k) (e ∙ least_cong (64 * length xs) (mem xs) (λ s. mem (x ∷ xs) (64 + s)) (λ s l. sym (mem_later x xs s)))
    at false e = trailing_least 64 x ∙ least_cong 64 (bit x) (mem (x ∷ xs)) (λ k l. sym (mem_first x xs k l))

-- For one word.
pub least_word : (x : ℕ) → x < 2 ^ 64 → count_trailing_zeros 64 x ≡ least_where 64 (mem (x ∷ []))
least_word x h = at (eqb x 0) refl ∙ least_words (x ∷ []) (one_word h)
  where
    at : (b : Bool) → eqb x 0 ≡ b → count_trailing_zeros 64 x ≡ cond b 64 (count_trailing_zeros 64 x)
    at true e = rw (eqb-true x 0 e) (trailing_of_zero 64)
    at false e = refl

-- The words without the least member: x & (x - 1) for the first word x that is not 0.
abbrev pub lowered : List ℕ → List ℕ
lowered [] = []
lowered (x ∷ xs) = cond (eqb x 0) (x ∷ lowered xs) (bit_and x (x - 1) ∷ xs)

pub mem_lowered : (xs : List ℕ) → Words xs → (s : ℕ) → mem (lowered xs) s ≡ (mem xs s && any s (mem xs))
mem_lowered [] h s = rw (mem_zeros [] (λ i. refl) s)
mem_lowered (x ∷ xs) h s = at (dec_lt s 64) (eqb x 0) refl (mem_lowered xs (λ i. h (suc i)))
  where
    first : (t : ℕ) → t < 64 → any t (mem (x ∷ xs)) ≡ any t (bit x)
    first t l = any_cong t _ _ (λ k m. mem_first x xs k (omega arith))

    later : (t : ℕ) → any (64 + t) (mem (x ∷ xs)) ≡ (not (eqb x 0) || any t (mem xs))
    later t =
        any_split 64 t _
        ∙ ap₂ ◌||◌ (any_cong 64 _ _ (λ k l. mem_first x xs k l) ∙ any_bit x (h 0)) (any_cong t _ _ (λ k l. mem_later x xs k))

    low : (b : Bool) → eqb x 0 ≡ b → s < 64 → mem (cond b (x ∷ lowered xs) (bit_and x (x - 1) ∷ xs)) s ≡ (bit x s && any s (bit x))
    low true e l = let none : x ≡ 0 = eqb-true x 0 e in mem_first x (lowered xs) s l ∙ rw (none, bit_nought s)
    low false e l = mem_first _ xs s l ∙ and_bits x (x - 1) s ∙ bit_lower s x (positive x e)
      where
        positive : (x : ℕ) → eqb x 0 ≡ false → 0 < x
        positive zero e = absurd (true≢false e)
        positive (suc x) e = omega arith

    high : (t : ℕ) (b : Bool) → eqb x 0 ≡ b → ((t : ℕ) → mem (lowered xs) t ≡ (mem xs t && any t (mem xs)))
        → mem (cond b (x ∷ lowered xs) (bit_and x (x - 1) ∷ xs)) (64 + t) ≡ (mem xs t && (not b || any t (mem xs)))
    high t true e rest = mem_later x (lowered xs) t ∙ rest t
    high t false e rest = mem_later _ xs t ∙ sym (and-true (mem xs t))

    at : Dec (s < 64) → (b : Bool) → eqb x 0 ≡ b → ((t : ℕ) → mem (lowered xs) t ≡ (mem xs t && any t (mem xs)))
        → mem (cond b (x ∷ lowered xs) (bit_and x (x - 1) ∷ xs)) s ≡ (mem (x ∷ xs) s && any s (mem (x ∷ xs)))
    at (yes l) b e rest = low b e l ∙ sym (ap₂ ◌&&◌ (mem_first x xs s l) (first s l))
    at (no l) b e rest =
        let up : s ≡ 64 + (s - 64) = omega arith in
        rw up (high (s - 64) b e rest ∙ sym (ap₂ ◌&&◌ (mem_later x xs (s - 64)) (later (s - 64) ∙ ap (λ a. not a || any (s - 64) (mem xs)) e)))

-- For one word.
pub mem_word : (op : ℕ → ℕ → ℕ) (β : Bool → Bool → Bool) → Bitwise op β → op 0 0 ≡ 0
    → (x y s : ℕ) → mem (op x y ∷ []) s ≡ β (mem (x ∷ []) s) (mem (y ∷ []) s)
unfolding zip_with
mem_word op β wise nought x y s = mem_wise op β wise nought (x ∷ []) (y ∷ []) refl s

pub mem_bit : (x s : ℕ) → mem (x ∷ []) s ≡ (ltb s 64 && bit x s)
mem_bit x s = at (dec_lt s 64)
  where
    at : Dec (s < 64) → mem (x ∷ []) s ≡ (ltb s 64 && bit x s)
    at (yes l) = rw (lt-ltb s 64 l) (mem_first x [] s l)
    at (no l) = rw (le-ltb s 64 (omega arith)) (not_true_false _ (λ h. l (mem_below (x ∷ []) s h)))

pub mem_nought : (s : ℕ) → mem (0 ∷ []) s ≡ false
mem_nought = mem_zeros (0 ∷ []) zeros
  where
    zeros : (i : ℕ) → ◌≡◌ {A = ℕ} (get_or (0 ∷ []) i 0) 0
    zeros zero = refl
    zeros (suc i) = refl
