-- The words hold what the proof file holds, so the tables have the same members in both.
use Prim.Native.Nat.{ℕ, ◌+◌, ◌*◌, ◌≤◌, ◌<◌}
use mathlib.Core.Path.{◌≡◌, refl, sym, ◌∙◌, ap, fun_ext}
use mathlib.Core.Bool.{Bool, true, false, ◌&&◌}
use mathlib.Core.List.{List}
use native.Mathlib.Omega.{arith}
use lib.ListN.{length}
use lib.Dec.{ltb}
use borrow.Author.Tests.{ltb-true}
use Rattle.states.specs.Sets.{capacity, mem, entry_at}
use Rattle.states.specs.Relations.{rel}
use Rattle.states.proofs.EntryLaws.{entry_from}
use Rattle.semantics.specs.Derivations.{Tables, set_of, relation_of}
use Rattle.derivation.specs.Tables.{most_tables, work_words, in_set_of, in_relation_of, written}
use Rattle.derivation.specs.Reading.{proof, read_proof, loaded_word}
use Rattle.derivation.proofs.Membership.{set_member, pair_member}
use Rattle.rules.specs.Words.{word_set, word_relation}
use Rattle.pair.specs.declared.Arrangement.{Arrangement}
use Rattle.pair.specs.declared.Arrangement.TheVariants.{Rows}
use Rattle.pair.specs.Reading.{Pair, states_of}
use Rattle.pair.specs.Modes.{word_by, tables_in}

-- Repeating a test changes nothing.
twice : (a b : Bool) → (a && (a && b)) ≡ (a && b)
twice true b = refl
twice false b = refl

module _ (pb : List ℕ) (x : Pair) (before work : List ℕ)
    (reads : read_proof pb (states_of x) ≡ proof x.sets x.relations x.root_bit x.derivation)
    (enough : work_words ≤ length before) (few : states_of x ≤ capacity) where
  abbrev n : ℕ
  n = states_of x

  abbrev tables_by : Arrangement → Tables
  tables_by a = tables_in pb (record { arrangement = a }) x

  abbrev Held : Arrangement → Type 0
  Held a = work ≡ written (word_by a pb n x.sets x.relations) before

  by_rows : Held Rows → work ≡ written (loaded_word pb n (read_proof pb n)) before
  by_rows words = words ∙ sym (ap (λ r. written (loaded_word pb n r) before) reads)

  pub set_loaded : (a : Arrangement) → Held a → (i : ℕ) → i < x.sets → word_set n work i ≡ set_of (tables_by a) i
  unfolding word_set
  set_loaded Rows words i below =
      fun_ext (λ s. rw (by_rows words, set_member pb n _ _ _ _ reads before enough i s below) (twice (ltb s n) (in_set_of pb n i s)))

  pub relation_loaded : (a : Arrangement) → Held a → (r : ℕ) → r < x.relations → word_relation n work r ≡ relation_of (tables_by a) r
  unfolding word_relation rel
  relation_loaded Rows words r below = fun_ext (λ s. fun_ext (λ u. rw (entry_from work (most_tables + capacity * r) s) (by s u (ltb s n) refl)))
    where
      by : (s u : ℕ) (b : Bool) → ltb s n ≡ b
          → (ltb s n && ltb u n && mem (entry_at work (most_tables + capacity * r + s)) u) ≡ (ltb s n && ltb u n && in_relation_of pb n x.sets r s u)
      by s u true e =
          let row : s < capacity = omega (arith, ltb-true s n e) in
          rw (by_rows words, pair_member pb n _ _ _ _ reads before enough r s u below row) (twice (ltb s n && ltb u n) _)
      by s u false e = rw e
