-- docs/FORMAT.md, "Counts" and "Sets and relations": 5 bits number of sets, 5 bits number of relations, each 1 to 16; sets of
-- N bits, state 0 first; relations of N rows of N bits, row s holding the ends t of pairs (s,t).
use Rattle.std.specs.Prelude.{ℕ, zero, suc, ◌+◌, ◌-◌, ◌*◌, ◌/◌, ◌%◌, min, Bool, cond, ◌&&◌, List, [], ◌∷◌, ◌++◌, length, drop, leb, ltb, eqb, Result, Ok, Err}
use Rattle.bits.specs.Fields.{bit_length, bit_at, fault_at, field_or}
use Rattle.bits.specs.declared.FileFault.{FileFault}
use Rattle.states.specs.Sets.{set_words, capacity}
use Rattle.derivation.specs.declared.TablesHead.{TablesHead}

-- At most 16 sets and 16 relations.
abbrev pub most_tables : ℕ
most_tables = 16

-- The first bit of set i over n states, and of row s of relation r where there are so many sets.
unfoldable pub set_at : ℕ → ℕ → ℕ
set_at n i = 10 + n * i

unfoldable pub row_at : ℕ → ℕ → ℕ → ℕ → ℕ
row_at n sets r s = 10 + n * (sets + n * r + s)

-- A set or a row is a field of 1 to `capacity` bits; the first that is not there is 20, at the file's length.
unfoldable pub tables_there : List ℕ → ℕ → ℕ → ℕ → Bool
tables_there bytes n sets relations = leb 1 n && leb n capacity && leb (row_at n sets relations 0) (8 * length bytes)

-- 21: a count is not 1 to 16, each judged where it is read.
unfoldable pub is_count : ℕ → Bool
is_count k = leb 1 k && leb k most_tables

-- The head of a file with so many sets and relations.
abbrev pub tables_head : ℕ → ℕ → ℕ → TablesHead
tables_head n sets relations = record { sets = sets; relations = relations; root = row_at n sets relations 0 }

unfoldable pub relations_read : List ℕ → ℕ → ℕ → Result (ℕ × ℕ) FileFault → Result TablesHead FileFault
relations_read bytes n sets (Err fault) = Err fault
relations_read bytes n sets (Ok (relations, next)) =
    cond (is_count relations)
    (cond (tables_there bytes n sets relations) (Ok (tables_head n sets relations)) (Err (fault_at 20 (bit_length bytes))))
    (Err (fault_at 21 5))

unfoldable pub sets_read : List ℕ → ℕ → Result (ℕ × ℕ) FileFault → Result TablesHead FileFault
sets_read bytes n (Err fault) = Err fault
sets_read bytes n (Ok (sets, next)) =
    cond (is_count sets) (relations_read bytes n sets (field_or bytes 5 5 20)) (Err (fault_at 21 0))

-- The head of the file: how many sets and relations, and the root node's first bit, or the first fault.
unfoldable pub tables_at : List ℕ → ℕ → Result TablesHead FileFault
tables_at bytes n = sets_read bytes n (field_or bytes 0 5 20)

-- Whether state s is in set i, and whether (s,t) is in relation r, as the file holds them.
unfoldable pub in_set_of : List ℕ → ℕ → ℕ → ℕ → Bool
in_set_of bytes n i s = eqb (bit_at bytes (set_at n i + s)) 1

unfoldable pub in_relation_of : List ℕ → ℕ → ℕ → ℕ → ℕ → ℕ → Bool
in_relation_of bytes n sets r s t = eqb (bit_at bytes (row_at n sets r s + t)) 1

-- The word that holds n bits of the file from a cursor on, the first of them the lowest.
unfoldable pub word_at : List ℕ → ℕ → ℕ → ℕ
word_at bytes at zero = 0
word_at bytes at (suc n) = word_at bytes (suc at) n * 2 + bit_at bytes at

-- Word k of the set that n bits of the file from a cursor on hold: state s is at bit s mod 64 of word s div 64.
unfoldable pub set_word_at : List ℕ → ℕ → ℕ → ℕ → ℕ
set_word_at bytes at n k = word_at bytes (at + 64 * k) (min 64 (n - 64 * k))

-- The work words hold sets one after the other: entry i is set i, entry 16 + capacity * r + s is row s of relation r, and unused
-- entries are empty. Word k of entry i.
unfoldable pub entry_word : List ℕ → ℕ → ℕ → ℕ → ℕ → ℕ → ℕ
entry_word bytes n sets relations i k =
    cond (ltb i most_tables) (cond (ltb i sets) (set_word_at bytes (set_at n i) n k) 0)
    (cond (ltb ((i - most_tables) / capacity) relations && ltb ((i - most_tables) % capacity) n)
    (set_word_at bytes (row_at n sets ((i - most_tables) / capacity) ((i - most_tables) % capacity)) n k) 0)

-- Work word j, and how many there are: 1,040 where a set is one word.
unfoldable pub table_word : List ℕ → ℕ → ℕ → ℕ → ℕ → ℕ
table_word bytes n sets relations j = entry_word bytes n sets relations (j / set_words) (j % set_words)

-- The same for any numbers of states and tables; 0 where there cannot be so many.
unfoldable pub are_tables : ℕ → ℕ → ℕ → Bool
are_tables n sets relations = leb n capacity && leb sets most_tables && leb relations most_tables

unfoldable pub limited_word : List ℕ → ℕ → ℕ → ℕ → ℕ → ℕ
limited_word bytes n sets relations j = cond (are_tables n sets relations) (table_word bytes n sets relations j) 0

abbrev pub work_words : ℕ
work_words = set_words * (most_tables + most_tables * capacity)

-- The first `count` values of f.
unfoldable pub tabulate : ℕ → (ℕ → ℕ) → List ℕ
tabulate zero f = []
tabulate (suc count) f = tabulate count f ++ f count ∷ []

-- A buffer after its work words, or as many of them as it has, were written; words past them are unchanged.
unfoldable pub written : (ℕ → ℕ) → List ℕ → List ℕ
written f work = tabulate (min work_words (length work)) f ++ drop (min work_words (length work)) work
