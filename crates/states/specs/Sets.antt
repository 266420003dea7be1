-- Sets of states, as words of 64 bits: state s is at bit s mod 64 of word s div 64, the lowest bit first.
use Rattle.std.specs.Prelude.{ℕ, zero, suc, ◌+◌, ◌*◌, ◌/◌, ◌%◌, ◌^◌, Bool, cond, List, [], ◌∷◌, get_or, take, drop, eqb}
use Rattle.std.proofs.lemmas.List.Edits.{sets}
use Rattle.states.specs.declared.StateSet.{StateSet}

-- How many words a set has, and so how many states it can hold.
abbrev pub set_words : ℕ
set_words = 1

abbrev pub capacity : ℕ
capacity = 64 * set_words

-- Whether state s is a member of the set that the words hold. A state past the words is not.
unfoldable pub mem : List ℕ → ℕ → Bool
mem words s = eqb (get_or words (s / 64) 0 / 2 ^ (s % 64) % 2) 1

-- The words of a set, and whether state s is in it.
abbrev pub words_in : StateSet → List ℕ
words_in set = set.bits ∷ []

unfoldable pub has : StateSet → ℕ → Bool
has set s = mem (words_in set) s

-- Words can hold sets one after the other. The words of entry i; there are none past the end.
unfoldable pub entry_at : List ℕ → ℕ → List ℕ
entry_at words i = take set_words (drop (set_words * i) words)

-- The words with a set stored as entry i; past the end nothing is stored.
unfoldable pub with_entry : List ℕ → ℕ → StateSet → List ℕ
with_entry words i set = sets words (set_words * i) (words_in set)

-- The number whose `width` bits are 1 where a test of their places holds, most significant bit first. The files hold a set over n states so:
-- n bits, state 0 first.
unfoldable pub bits_where : ℕ → (ℕ → Bool) → ℕ
bits_where zero p = 0
bits_where (suc width) p = bits_where width p * 2 + cond (p width) 1 0
