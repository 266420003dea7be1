-- Tables that are stored in words after those that are there.
use Prim.Native.Nat.{ℕ, ◌+◌, ◌*◌, ◌≤◌, ◌<◌}
use mathlib.Core.Bool.{Bool, true, false, ◌&&◌}
use mathlib.Core.List.{List, [], ◌∷◌, ◌++◌}
use mathlib.Core.Logic.{inr}
use mathlib.Core.Path.{◌≡◌, refl, sym, ◌∙◌, ap, fun_ext}
use native.Mathlib.Numerals.{add-one}
use native.Mathlib.Omega.{arith}
use borrow.Author.Tests.{lt-ltb, ltb-true}
use lib.Dec.{ltb}
use lib.ListN.{length, drop}
use Rattle.states.specs.declared.StateSet.{StateSet}
use Rattle.states.specs.Sets.{set_words, capacity, has, mem, entry_at, with_entry}
use Rattle.states.specs.Relations.{rel}
use Rattle.states.proofs.Search.{and_both, below_cases}
use Rattle.states.proofs.Rows.{rel_between}
use Rattle.states.proofs.EntryLaws.{stored_same, stored_other, length_stored, entry_from}
use Rattle.derivation.specs.Tables.{most_tables}
use Rattle.rules.specs.Words.{word_set, word_relation}
use Rattle.form.specs.Members.{set_where, relation_where}
use Rattle.states.proofs.Where.{where_same}
use Rattle.search.proofs.Breaches.{absorbed}
use Rattle.composition.specs.Refinement.{sets_held, relations_held, RelationStored}
use Rattle.composition.proofs.Comparing.{relation_alike_at}
use Rattle.composition.proofs.Mentioning.{tabulate_stored}

module _ (n : ℕ) (pool : List ℕ) (count : ℕ) (set : StateSet) where
  abbrev after : List ℕ
  after = with_entry pool count set

  earlier : (i : ℕ) → i < count → set_where n (word_set n after i) ≡ set_where n (word_set n pool i)
  unfolding word_set
  earlier i l = ap (λ e. set_where n (λ s. ltb s n && mem e s)) (stored_other pool count i set (inr l))

  last : set_words * count + set_words ≤ length pool → set_where n (word_set n after count) ≡ set_where n (has set)
  unfolding word_set set_where has
  last fits = where_same n _ _ (λ s l. rw (lt-ltb s n l) (ap (λ e. mem e s) (stored_same pool count set fits)))

  pub set_stored : set_words * count + set_words ≤ length pool
      → sets_held n after (count + 1) ≡ sets_held n pool count ++ set_where n (has set) ∷ []
  unfolding sets_held
  set_stored fits = tabulate_stored _ _ _ count earlier (last fits)

-- Rows stored by a loop from entry `first` on: those below k are the rows of r, and the entries before them stay.
pub record RowsStored (entry : List ℕ) (first : ℕ) (r : ℕ → ℕ → Bool) (k : ℕ) (words : List ℕ) : Type 0 where
  pub long : length words ≡ length entry
  pub hold : (s : ℕ) → s < k → (t : ℕ) → mem (entry_at words (first + s)) t ≡ r s t
  pub rest : (i : ℕ) → i < first → entry_at words i ≡ entry_at entry i

module _ (entry : List ℕ) (first : ℕ) (r : ℕ → ℕ → Bool) where
  pub rows_start : RowsStored entry first r 0 entry
  rows_start = record { long = refl; hold = λ s l. absurd (omega arith); rest = λ i l. refl }

  pub rows_next : (k : ℕ) (words : List ℕ) (set : StateSet) → set_words * (first + k) + set_words ≤ length words
      → ((t : ℕ) → has set t ≡ r k t) → RowsStored entry first r k words → RowsStored entry first r (k + 1) (with_entry words (first + k) set)
  unfolding has
  rows_next k words set fits new old = record {
    long = length_stored words (first + k) set ∙ old.long;
    hold = λ s l. below_cases (λ s. (t : ℕ) → mem (entry_at (with_entry words (first + k) set) (first + s)) t ≡ r s t) k s (rw add-one at l)
        (λ t. rw (stored_same words (first + k) set fits) (new t))
        (λ low t. rw (stored_other words (first + k) (first + s) set (inr (omega arith))) (old.hold s low t));
    rest = λ i l. stored_other words (first + k) i set (inr (omega arith)) ∙ old.rest i l;
  }

-- A relation by the entries that hold its rows.
entries_rel : (n : ℕ) (words : List ℕ) (a s t : ℕ)
    → rel n (drop (set_words * a) words) s t ≡ (ltb s n && ltb t n && mem (entry_at words (a + s)) t)
unfolding rel
entries_rel n words a s t = ap (λ e. ltb s n && ltb t n && mem e t) (entry_from words a s)

-- Tests at the states below n.
below_alike : (n s : ℕ) (a b c : Bool) → (s < n → b ≡ c) → (ltb s n && a && b) ≡ (ltb s n && a && c)
below_alike n s a b c same = by (ltb s n) refl
  where
    by : (x : Bool) → ltb s n ≡ x → (x && a && b) ≡ (x && a && c)
    by true l = ap (λ y. a && y) (same (ltb-true s n l))
    by false l = refl

module _ (n : ℕ) (most : n ≤ capacity) (entry : List ℕ) (index : ℕ) (rows words : List ℕ)
    (stored : RowsStored entry (most_tables + capacity * index) (rel n rows) n words) where
  pub relation_stored : RelationStored n entry index (rel n rows) words
  unfolding word_relation
  relation_stored = record { here = here; before = λ i l. fun_ext (λ s. fun_ext (λ t. earlier i l s t)) }
    where
      here : (s t : ℕ) → rel n (drop (set_words * (most_tables + capacity * index)) words) s t ≡ rel n rows s t
      here s t =
          entries_rel n words (most_tables + capacity * index) s t
          ∙ below_alike n s (ltb t n) _ _ (λ l. stored.hold s l t)
          ∙ absorbed (ltb s n && ltb t n) _ (λ h. let in-n = rel_between n rows s t h in and_both _ _ (lt-ltb s n in-n.0) (lt-ltb t n in-n.1))

      earlier : (i : ℕ) → i < index → (s t : ℕ)
          → rel n (drop (set_words * (most_tables + capacity * i)) words) s t ≡ rel n (drop (set_words * (most_tables + capacity * i)) entry) s t
      earlier i l s t =
          entries_rel n words (most_tables + capacity * i) s t
          ∙ below_alike n s (ltb t n) _ _ (λ low. ap (λ e. mem e t) (stored.rest (most_tables + capacity * i + s) (omega arith)))
          ∙ sym (entries_rel n entry (most_tables + capacity * i) s t)

-- The relations of the words after it.
pub relations_stored : (n : ℕ) (entry : List ℕ) (count : ℕ) (r : ℕ → ℕ → Bool) (exit : List ℕ) → RelationStored n entry count r exit
    → relations_held n exit (count + 1) ≡ relations_held n entry count ++ relation_where n r ∷ []
unfolding relations_held
relations_stored n entry count r exit stored =
    tabulate_stored _ _ _ count (λ i l. ap (relation_where n) (stored.before i l)) (relation_alike_at n _ _ (λ s t l m. stored.here s t))
