-- The states of every verdict, whatever the files are: a refusal names as many as its number says, each below 64. So three numbers of 8
-- bits hold them.
use Rattle.std.specs.Prelude.{Ok, Err}
use Prim.Native.Nat.{ℕ, ◌-◌, ◌^◌, ◌≤◌}
use mathlib.Core.Bool.{Bool, true, false, cond}
use mathlib.Core.List.{List}
use mathlib.Core.Option.{Option, none, some}
use mathlib.Core.Path.{◌≡◌, refl}
use native.Mathlib.Omega.{arith}
use lib.Dec.{ltb}
use Rattle.bits.proofs.Places.{either}
use Rattle.states.specs.Sets.{capacity}
use Rattle.semantics.specs.Checking.{Broken, first_fault}
use Rattle.semantics.specs.Facts.{states_named}
use Rattle.semantics.proofs.Facts.{few_named, none_named}
use Rattle.semantics.proofs.Storing.{store_read}
use Rattle.semantics.proofs.Naming.{Named, nothing, named_length, named_within, FaultNames, fault_names}
use Rattle.handler.proofs.Heads.{head_read}
use Rattle.handler.proofs.Handlers.{known_handler}
use Rattle.derivation.specs.Tables.{work_words}
use Rattle.pair.specs.declared.Mode.{Mode}
use Rattle.pair.specs.Reading.{Pair, states_of, steps_of, PairRead, pair, faulty, long, read_pair}
use Rattle.pair.specs.Modes.{tables_in, table_words}
use Rattle.pair.proofs.Cases.{Case, is_long, holds, case}
use Rattle.pair.proofs.Bounds.{fault_small}
use Rattle.search.specs.Named.{listed, naming}
use Rattle.search.proofs.Breaches.{listed_naming}
use Rattle.checker.specs.declared.Place.{Place}
use Rattle.checker.specs.declared.Place.TheVariants.{Bit, Node}
use Rattle.checker.specs.Verdicts.{Verdict, refused_at, CheckResult, cleared, on_steps, on_fault, on_pair, answer}

abbrev pub NamesStates : Verdict → Type 0
NamesStates (Ok k) = Unit {0}
NamesStates (Err f) = Named capacity (states_named f.number) (listed f.states)

-- A fault that names no state, because its number has none.
no_states : (k : ℕ) (place : Place) → states_named k ≡ 0 → NamesStates (refused_at k place)
unfolding listed
no_states k place e = rw e nothing

steps_names : (k : ℕ) (words : ℕ → ℕ) → NamesStates (on_steps k words).verdict
steps_names k words = by (ltb (2 ^ 32 - 1) k)
  where
    by : (b : Bool) → NamesStates (cond b (cleared (refused_at 80 (Node 0))) (record { verdict = Ok k; writes = true; words = words })).verdict
    by true = no_states 80 (Node 0) refl
    by false = tt

-- No state of the search is lost.
in_full : (n k : ℕ) (states : List ℕ) → n ≤ capacity → Named n (states_named k) states → Named capacity (states_named k) (listed (naming states))
in_full n k states most named = rw (listed_naming states (omega (arith, named_length named, few_named k))) (named_within most named)

module _ (hb pb : List ℕ) (mode : Mode) where
  fault_states : (x : Pair) → states_of x ≤ capacity → (o : Option Broken) → FaultNames (tables_in pb mode x) (λ s v z l. (store_read x.sizes s v z l).state) o
      → (k : ℕ) (words : ℕ → ℕ) → NamesStates (on_fault o k words).verdict
  unfolding FaultNames
  fault_states x most none p k words = steps_names k words
  fault_states x most (some b) p k words = in_full (states_of x) b.number b.states most p

  by_case : (r : PairRead) → Case hb pb r → NamesStates (on_pair pb mode r).verdict
  by_case long (is_long e) = no_states 2 (Bit 0) refl
  by_case (faulty k place) c = no_states k (Bit place) (none_named k (omega (arith, (fault_small hb pb k place c).most)))
  by_case (pair x) (holds h) =
      let t = tables_in pb mode x in
      let most = (head_read hb x.sizes x.statement_bit (known_handler hb x.sizes x.statement_bit x.statement h.handler_read).head).most in
      fault_states x most (first_fault t x.derivation x.statement 0)
      (fault_names t (λ s v z l. (store_read x.sizes s v z l).state) x.derivation x.statement 0) (steps_of x) (table_words pb mode x)

  pub names_states : (words : ℕ) → NamesStates (answer hb pb mode words).verdict
  unfolding answer
  names_states words =
      either (λ (r : CheckResult). NamesStates r.verdict) (ltb words work_words) _ _ (no_states 1 (Bit 0) refl) (by_case (read_pair hb pb) (case hb pb))
