-- A word's bits are the file's, first bit lowest. So bit s mod 64 of word s div 64 of a set that is read from the file is the set's bit
-- s, for sets of any number of words, and membership in the entries of the work words is membership in the file.
use Prim.Native.Nat.{ℕ, zero, suc, ◌+◌, ◌-◌, ◌*◌, ◌/◌, ◌%◌, ◌^◌, ◌≤◌, ◌<◌, min}
use mathlib.Core.Bool.{Bool, true, false, cond, ◌&&◌}
use mathlib.Core.List.{List}
use mathlib.Core.Path.{◌≡◌, refl, sym, ap, ◌∙◌}
use native.Mathlib.Decide.{dec_lt}
use native.Mathlib.Nat.{pow-suc, pow-succ', add-zero, zero-add, suc-add, div-one, div-eq_of_lt, div-div-eq-div-mul}
use native.Mathlib.Omega.{arith}
use borrow.Author.Tests.{lt-ltb, le-ltb, ltb-true, ltb-false}
use lib.Dec.{ltb, eqb}
use lib.ListN.{length, get_or, drop}
use lib.Pow.{pow_mono, low}
use lib.Seq.{get_or-take, get_or-drop}
use Rattle.bits.specs.Fields.{bit_at, bits_at}
use Rattle.bits.proofs.Laws.{bit_below, bits_more}
use Rattle.bits.proofs.Bytes.{bits_first}
use Rattle.states.specs.Sets.{set_words, capacity, mem, entry_at, bits_where}
use Rattle.states.proofs.Search.{not_true_false}
use Rattle.states.proofs.Bits.{bit, bits_ext}
use Rattle.states.proofs.Where.{where_below, where_bit}
use Rattle.states.proofs.EntryLaws.{entry_below}
use Rattle.semantics.specs.Derivations.{Derivation}
use Rattle.derivation.specs.Tables.{most_tables, set_at, row_at, in_set_of, in_relation_of, word_at, set_word_at, entry_word, table_word, work_words, written}
use Rattle.derivation.specs.Reading.{proof, read_proof, loaded_word}
use Rattle.derivation.proofs.Buffers.{written_at}
use Rattle.derivation.proofs.Files.{Counted, counted, stages}

module _ (bytes : List ℕ) where
  pub word_below : (at n : ℕ) → word_at bytes at n < 2 ^ n
  unfolding word_at
  word_below at zero = omega arith
  word_below at (suc n) = omega (arith, pow-suc 2 n, word_below (suc at) n, bit_below bytes at)

  -- The words of two runs of bits that touch.
  word_join : (at w k : ℕ) → word_at bytes at (w + k) ≡ word_at bytes (at + w) k * 2 ^ w + word_at bytes at w
  unfolding word_at
  word_join at zero k = rw (zero-add k, add-zero at) (omega arith)
  word_join at (suc w) k =
      let next : at + suc w ≡ suc at + w = omega arith in
      rw (suc-add, next, pow-suc) (omega (arith, word_join (suc at) w k))

  -- The first n bits of a longer run.
  pub word_first : (at n k : ℕ) → n ≤ k → word_at bytes at k % 2 ^ n ≡ word_at bytes at n
  word_first at n k within =
      let whole : k ≡ n + (k - n) = omega arith in
      ap (λ w. word_at bytes at w % 2 ^ n) whole ∙ ap (λ x. x % 2 ^ n) (word_join at n (k - n)) ∙ low (word_at bytes (at + n) (k - n)) n (word_below at n)

  pub word_bit : (at n s : ℕ) → s < n → word_at bytes at n / 2 ^ s % 2 ≡ bit_at bytes (at + s)
  unfolding word_at
  word_bit at zero s under = absurd (omega arith)
  word_bit at (suc n) zero under = rw (div-one, add-zero) (omega (arith, bit_below bytes at))
  word_bit at (suc n) (suc s) under =
      let half : (word_at bytes (suc at) n * 2 + bit_at bytes at) / 2 ≡ word_at bytes (suc at) n = omega (arith, bit_below bytes at) in
      let next : at + suc s ≡ suc at + s = omega arith in
      rw (pow-succ' 2 s, ← div-div-eq-div-mul, half, next) (word_bit (suc at) n s (omega arith))

  -- The word of 64 bits is their number with its bits in the other order.
  pub word_reversed : (at : ℕ) → bits_where 64 (bit (bits_at bytes at 64)) ≡ word_at bytes at 64
  word_reversed at =
      bits_ext 64 _ _ (where_below 64 _) (word_below at 64) (λ s under.
      where_bit 64 _ s under ∙ ap (λ d. eqb d 1) (field_bit s under ∙ sym (word_bit at 64 s under)))
    where
      field_bit : (s : ℕ) → s < 64 → bits_at bytes at 64 / 2 ^ (64 - 1 - s) % 2 ≡ bit_at bytes (at + s)
      field_bit s under =
          let place : 64 - 1 - s ≡ 64 - (s + 1) = omega arith in
          rw (place, bits_first bytes at (s + 1) 64 (omega arith), bits_more) (omega (arith, bit_below bytes (at + s)))

  -- No bit past the n that the word was read for is set.
  word_past : (at n s : ℕ) → n ≤ s → word_at bytes at n / 2 ^ s ≡ 0
  word_past at n s over = div-eq_of_lt (omega (arith, word_below at n, pow_mono over))

  -- State s of the set that n bits hold.
  set_bit : (at n s : ℕ) → bit (set_word_at bytes at n (s / 64)) (s % 64) ≡ (ltb s n && eqb (bit_at bytes (at + s)) 1)
  unfolding set_word_at
  set_bit at n s = by (ltb s n) refl
    where
      by : (b : Bool) → ltb s n ≡ b
          → bit (word_at bytes (at + 64 * (s / 64)) (min 64 (n - 64 * (s / 64)))) (s % 64) ≡ (b && eqb (bit_at bytes (at + s)) 1)
      by true t =
          let under = ltb-true s n t in
          let place : at + 64 * (s / 64) + s % 64 ≡ at + s = omega arith in
          rw (word_bit (at + 64 * (s / 64)) (min 64 (n - 64 * (s / 64))) (s % 64) (omega arith), place)
      by false t =
          let over = ltb-false s n t in
          rw (word_past (at + 64 * (s / 64)) (min 64 (n - 64 * (s / 64))) (s % 64) (omega arith))

  -- An entry with the words of a set that is read from a cursor on has its states.
  entry_member : (words : List ℕ) (i at n : ℕ) → n ≤ capacity
      → ((k : ℕ) → k < set_words → get_or words (set_words * i + k) 0 ≡ set_word_at bytes at n k)
      → (s : ℕ) → mem (entry_at words i) s ≡ (ltb s n && eqb (bit_at bytes (at + s)) 1)
  unfolding mem entry_at
  entry_member words i at n most held s = by (dec_lt s capacity)
    where
      within : s < capacity → mem (entry_at words i) s ≡ bit (set_word_at bytes at n (s / 64)) (s % 64)
      within l =
          let part : s / 64 < set_words = omega arith in
          rw (get_or-take set_words (drop (set_words * i) words) (s / 64) 0 part, get_or-drop (set_words * i) words (s / 64) 0, held (s / 64) part)

      by : Dec (s < capacity) → mem (entry_at words i) s ≡ (ltb s n && eqb (bit_at bytes (at + s)) 1)
      by (yes l) = within l ∙ set_bit at n s
      by (no l) = not_true_false _ (λ h. l (entry_below words i s h)) ∙ sym (rw (le-ltb s n (omega arith)))

-- A buffer with room for all work words after a proof file was loaded into it.
module _ (bytes : List ℕ) (n sets relations at : ℕ) (d : Derivation) (read : read_proof bytes n ≡ proof sets relations at d)
    (work : List ℕ) (enough : work_words ≤ length work) where
  abbrev words : List ℕ
  words = written (loaded_word bytes n (read_proof bytes n)) work

  few : Counted bytes n (record { sets = sets; relations = relations; root = at })
  few = counted bytes n _ (stages bytes n sets relations at d read).tables

  word_is : (i k : ℕ) → i < most_tables + most_tables * capacity → k < set_words
      → get_or words (set_words * i + k) 0 ≡ entry_word bytes n sets relations i k
  unfolding table_word
  word_is i k table part =
      let entry : (set_words * i + k) / set_words ≡ i = omega arith in
      let place : (set_words * i + k) % set_words ≡ k = omega arith in
      written_at (loaded_word bytes n (read_proof bytes n)) work (set_words * i + k) (omega arith) (omega arith) ∙ rw (read, entry, place)

  -- State s is in set i as the words hold it iff it is a state and the file has it in the set.
  pub set_member : (i s : ℕ) → i < sets
      → mem (entry_at (written (loaded_word bytes n (read_proof bytes n)) work) i) s ≡ (ltb s n && in_set_of bytes n i s)
  unfolding entry_word in_set_of
  set_member i s under =
      let first : i < most_tables = omega (arith, few.sets_most) in
      entry_member bytes words i (set_at n i) n few.states_most (λ k part. word_is i k (omega arith) part ∙ rw (lt-ltb i most_tables, lt-ltb i sets)) s

  -- The pair (s,t) likewise, for each row that the words have room for.
  pub pair_member : (r s t : ℕ) → r < relations → s < capacity
      → mem (entry_at (written (loaded_word bytes n (read_proof bytes n)) work) (most_tables + capacity * r + s)) t
      ≡ (ltb s n && ltb t n && in_relation_of bytes n sets r s t)
  unfolding in_relation_of entry_word set_word_at word_at
  pair_member r s t under row = by (ltb s n) refl
    where
      entry : ℕ
      entry = most_tables + capacity * r + s

      is : (k : ℕ) → k < set_words → get_or words (set_words * entry + k) 0 ≡ cond (ltb s n) (set_word_at bytes (row_at n sets r s) n k) 0
      is k part =
          let past : most_tables ≤ entry = omega arith in
          let relation : (entry - most_tables) / capacity ≡ r = omega arith in
          let state : (entry - most_tables) % capacity ≡ s = omega arith in
          word_is entry k (omega (arith, few.relations_most)) part ∙ rw (le-ltb entry most_tables, relation, state, lt-ltb r relations)

      -- No bits.
      none : (k : ℕ) → set_word_at bytes 0 0 k ≡ 0
      none k = let no_bits : min 64 (0 - 64 * k) ≡ 0 = omega arith in rw no_bits

      by : (b : Bool) → ltb s n ≡ b → mem (entry_at words entry) t ≡ (b && ltb t n && eqb (bit_at bytes (row_at n sets r s + t)) 1)
      by true e = entry_member bytes words entry (row_at n sets r s) n few.states_most (λ k part. is k part ∙ rw e) t
      by false e = entry_member bytes words entry 0 0 (omega arith) (λ k part. is k part ∙ rw e (sym (none k))) t ∙ rw (le-ltb t 0 (omega arith))
