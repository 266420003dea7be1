-- What a check is told besides the two files, and the tables that it then finds in the proof file.
use Rattle.std.specs.Prelude.{ℕ, Bool, List}
use Rattle.semantics.specs.States.{machine_of}
use Rattle.semantics.specs.Derivations.{Tables, Spec, names_of, spec_of}
use Rattle.derivation.specs.Tables.{in_set_of, in_relation_of, table_word, written}
use Rattle.pair.specs.declared.Arrangement.{Arrangement}
use Rattle.pair.specs.declared.Arrangement.TheVariants.{Rows}
use Rattle.pair.specs.declared.Mode.{Mode}
use Rattle.pair.specs.Reading.{Pair, states_of, PairRead, pair, faulty, long}

-- All but the check reads and writes rows.
abbrev pub rows : Mode
rows = record { arrangement = Rows }

-- Whether (s,t) is in relation r of a proof file over n states with so many sets, and the work words that hold its tables.
abbrev pub relation_by : Arrangement → List ℕ → ℕ → ℕ → ℕ → ℕ → ℕ → Bool
relation_by Rows = in_relation_of

abbrev pub word_by : Arrangement → List ℕ → ℕ → ℕ → ℕ → ℕ → ℕ
word_by Rows = table_word

module _ (pb : List ℕ) (mode : Mode) where
  -- The tables of a pair, as its proof file holds them.
  abbrev pub tables_in : Pair → Tables
  tables_in x = record {
    machine = machine_of x.sizes;
    sets = in_set_of pb (states_of x);
    relations = relation_by mode.arrangement pb (states_of x) x.sets;
  }

  -- The root's P, R, G and Q.
  abbrev pub root_spec : Pair → Spec
  root_spec x = spec_of (tables_in x) (names_of x.derivation)

  abbrev pub table_words : Pair → ℕ → ℕ
  table_words x = word_by mode.arrangement pb (states_of x) x.sets x.relations

  -- The work words after reading: the tables of the pair, 0 after a fault, and untouched where a file is too long.
  unfoldable pub work_read : PairRead → List ℕ → List ℕ
  work_read long work = work
  work_read (faulty k place) work = written (λ j. 0) work
  work_read (pair x) work = written (table_words x) work
