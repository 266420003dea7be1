-- The form of an accepted pair's proof file is written, read back and loaded: the words hold its tables by first mention.
use Rattle.std.specs.Prelude.{Ok, Err}
use Prim.Native.Nat.{ℕ, suc, ◌+◌, ◌≤◌, ◌<◌}
use mathlib.Core.Bool.{false}
use mathlib.Core.List.{List, [], ◌∷◌, ◌++◌}
use mathlib.Core.Path.{◌≡◌, refl, sym, ◌∙◌, ap, subst}
use native.Mathlib.Omega.{arith}
use borrow.Author.Tests.{le-ltb}
use lib.Dec.{ltb}
use lib.ListN.{length, get_or, take, drop, length-append}
use lib.Seq.{take_at}
use Rattle.semantics.specs.declared.Names.{Names}
use Rattle.semantics.specs.Language.{nil}
use Rattle.semantics.specs.States.{product, machine_of}
use Rattle.semantics.specs.Derivations.{Derivation, set_of, relation_of, names_of, spec_of}
use Rattle.derivation.specs.declared.ProofFile.{ProofFile}
use Rattle.derivation.specs.Tables.{work_words, row_at, tabulate, table_word, written}
use Rattle.derivation.specs.NodeTable.{node_table, node_in}
use Rattle.derivation.specs.Reading.{proof, read_proof, proof_file, loaded_word}
use Rattle.derivation.proofs.NodeTable.{names_known}
use Rattle.pair.specs.Limits.{most_proof_bytes}
use Rattle.pair.specs.declared.Arrangement.TheVariants.{Rows}
use Rattle.pair.specs.Reading.{Pair}
use Rattle.checker.specs.Verdicts.{Verdict}
use Rattle.pair.specs.Modes.{rows, tables_in}
use Rattle.rules.specs.Words.{word_set, word_relation, word_spec}
use Rattle.checker.proofs.Loaded.{set_loaded, relation_loaded}
use Rattle.form.specs.Members.{set_where, relation_where}
use Rattle.form.specs.Form.{sets_in, relations_in, numbered, form_of}
use Rattle.form.proofs.Renaming.{nodes_rename, levels_rename}
use Rattle.form.proofs.Numbered.{numbered_known}
use Rattle.form.proofs.Verdicts.{member_tables, members-spec}
use Rattle.form.proofs.FileBack.{set_back, relation_back}
use Rattle.form.proofs.Forms.{Writable, any_encodable, any_read, any_members}
use Rattle.form.proofs.Where.{set_members_where, relation_members_where}
use Rattle.report.proofs.RootTables.{root_names}
use Rattle.canonical.specs.Canonical.{form, canonical, outcome, out_after}
use Rattle.canonical.proofs.Theorems as Canonical
use Rattle.composition.specs.declared.forms.Form.{Form}
use Rattle.joint.specs.Composing.{Side, side_of}
use Rattle.composition.specs.Refinement.{sets_held, relations_held, IsProof, form_read, WasAccepted, Formed}
use Rattle.composition.proofs.Mentioning.{tabulate_split}
use Rattle.joint.proofs.Sides.{AcceptedSide, accepted_side}

-- A list is what its entries make.
entries : (f : ℕ → ℕ) (xs : List ℕ) → ((i : ℕ) → i < length xs → f i ≡ get_or xs i 0) → tabulate (length xs) f ≡ xs
unfolding tabulate
entries f [] each = refl
entries f (x ∷ xs) each =
    let more : suc (length xs) ≡ 1 + length xs = omega arith in
    let rest = entries (λ i. f (1 + i)) xs (λ i l. let next : 1 + i ≡ suc i = omega arith in rw next (each (suc i) (omega arith))) in
    ap (λ k. tabulate k f) more ∙ tabulate_split f 1 (length xs) ∙ (λ j. each 0 (omega arith) j ∷ rest j)

-- The form of a derivation x over the N of these sizes, loaded into words.
module _ (sizes : List ℕ) (x : Derivation) (room : Writable (product sizes) x) (before : List ℕ) (enough : work_words ≤ length before)
    (work : List ℕ) where
  abbrev n : ℕ
  n = product sizes

  abbrev file : List ℕ
  file = form_of n x

  abbrev S : List ℕ
  S = sets_in x

  abbrev R : List ℕ
  R = relations_in x

  -- What it holds. The statement is not looked at.
  abbrev held : Pair
  held = record {
    sizes = sizes;
    statement_bit = 0;
    statement = nil;
    sets = length S;
    relations = length R;
    root_bit = row_at n (length S) (length R) 0;
    derivation = numbered x;
  }

  module _ (loaded : work ≡ written (loaded_word file n (read_proof file n)) before) where
    words_are : work ≡ written (table_word file n (length S) (length R)) before
    words_are = loaded ∙ ap (λ r. written (loaded_word file n r) before) (any_read n x room)

    set_is : (i : ℕ) → i < length S → word_set n work i ≡ set_of (tables_in file rows held) i
    set_is = set_loaded file held before work (any_read n x room) enough room.states_most Rows words_are

    relation_is : (r : ℕ) → r < length R → word_relation n work r ≡ relation_of (tables_in file rows held) r
    relation_is = relation_loaded file held before work (any_read n x room) enough room.states_most Rows words_are

    held_sets : sets_held n work (length S) ≡ S
    unfolding sets_held form_of
    held_sets =
        entries _ S (λ i l. ap (set_where n) (set_is i l) ∙ set_members_where (machine_of sizes) file (length S) i
        ∙ set_back n S R (numbered x) (any_encodable n x room) i l)

    held_relations : relations_held n work (length R) ≡ R
    unfolding relations_held form_of
    held_relations =
        entries _ R (λ r l. ap (relation_where n) (relation_is r l) ∙ relation_members_where (machine_of sizes) file (length S) r
        ∙ relation_back n S R (numbered x) (any_encodable n x room) r l)

    held_tables : word_spec n work (names_of (numbered x)) ≡ spec_of (member_tables (machine_of sizes)) (names_of x)
    held_tables =
        let h = names_of (numbered x) in
        let known = names_known (length S) (length R) (numbered x) (numbered_known x) in
        (λ i. record { P = set_is h.p known.P-below i; R = relation_is h.r known.R-below i; G = relation_is h.g known.G-below i; Q = relation_is h.q known.Q-below i })
        ∙ members-spec (machine_of sizes) file (length S) (numbered x)
        ∙ ap (λ d. spec_of (member_tables (machine_of sizes)) (names_of d)) (any_members n x room)

-- What the code makes of a proof file that it loaded.
module _ (bytes : List ℕ) (n : ℕ) (sets relations root : ℕ) (d : Derivation) (reads : read_proof bytes n ≡ proof sets relations root d) where
  pub file_form : (file : ProofFile) → Ok file ≡ proof_file (read_proof bytes n) → (names : Names) → names ≡ (node_in file.nodes 0).names
      → record { head = file.head; names = names; nodes = file.nodes } ≡ form_read sets relations root d
  file_form file is names first =
      let same : Ok file ≡ proof_file (proof sets relations root d) = is ∙ ap proof_file reads in
      let made : file ≡ record { head = (form_read sets relations root d).head; nodes = node_table root d } = cc in
      let named = first ∙ ap (λ f. (node_in f.nodes 0).names) made ∙ root_names bytes n sets relations root d reads in
      λ i. record { head = (made i).head; names = named i; nodes = (made i).nodes }

  pub not_refused : (fault : _) → Err fault ≡ proof_file (read_proof bytes n) → ⊥
  not_refused fault is =
      let clash : Err fault ≡ proof_file (proof sets relations root d) = is ∙ ap proof_file reads in
      let z : ◌≡◌ {A = ℕ} 0 1 = cc in omega arith

-- An accepted pair.
module _ (hb pb : List ℕ) (was : WasAccepted hb pb) where
  abbrev side : Side
  side = side_of hb pb

  abbrev out : List ℕ
  out = form_of (product side.sizes) side.derivation

  known : AcceptedSide hb pb was.steps side.sizes side
  known = accepted_side hb pb was.words was.steps was.accepted

  is_formed : Canonical.Formed hb pb out
  is_formed = record {
    held = known.held;
    read = known.read;
    is_form = ap (λ s. form_of (product s.sizes) s.derivation) known.is_side;
  }

  form_short : length out ≤ most_proof_bytes
  form_short = Canonical.form_short hb pb out is_formed

  -- Its form is written where there is room for the longest proof file, and is at the front of the bytes.
  module _ (bytes : List ℕ) (room : length bytes ≡ most_proof_bytes) (o : Verdict) (answer : o ≡ outcome (canonical hb pb) (length bytes))
      (count : ℕ) (counted : (k : ℕ) → o ≡ Ok k → count ≡ k) (after : List ℕ) (is-after : after ≡ out_after (canonical hb pb) bytes) where
    has_form : canonical hb pb ≡ form out
    has_form = Canonical.form_of_lem hb pb out is_formed

    enough_room : ltb (length bytes) (length out) ≡ false
    enough_room = rw room (le-ltb most_proof_bytes (length out) form_short)

    length_is : count ≡ length out
    unfolding outcome
    length_is = counted (length out) (answer ∙ rw (has_form, enough_room))

    bytes_are : after ≡ out ++ drop (length out) bytes
    unfolding out_after
    bytes_are = is-after ∙ rw (has_form, enough_room)

    pub front_fits : count ≤ length after
    front_fits = omega (arith, length_is, ap length bytes_are, length-append out (drop (length out) bytes))

    pub front_is : take count after ≡ out
    front_is = rw (bytes_are, length_is) (take_at out _ (length out) refl)

  -- It is read without fault.
  pub is_read : (n : ℕ) → n ≡ product side.sizes → (file : List ℕ) → file ≡ out → IsProof (read_proof file n)
  is_read n is file is-out = rw (is, is-out) (_, _, _, _, any_read (product side.sizes) side.derivation known.room)

  -- What is loaded from it is what is taken from the pair.
  module _ (before : List ℕ) (enough : work_words ≤ length before) (work : List ℕ) (f : Form) where
    here : ((sets relations root : ℕ) (d : Derivation) → read_proof out (product side.sizes) ≡ proof sets relations root d → f ≡ form_read sets relations root d)
        → work ≡ written (loaded_word out (product side.sizes) (read_proof out (product side.sizes))) before
        → Formed (product side.sizes) side work f
    unfolding numbered
    here answer loaded =
        let x = side.derivation in
        subst (Formed (product side.sizes) side work) (sym (answer _ _ _ _ (any_read (product side.sizes) x known.room))) (record {
          set_count = refl;
          relation_count = refl;
          node_count = nodes_rename _ _ x;
          level_count = levels_rename _ _ x;
          table_is = refl;
          names_are = refl;
          sets_are = held_sets side.sizes x known.room before enough work loaded;
          relations_are = held_relations side.sizes x known.room before enough work loaded;
          tables_are = held_tables side.sizes x known.room before enough work loaded ∙ sym known.tables_are;
        })

    pub form_loaded : (n : ℕ) → n ≡ product side.sizes → (file : List ℕ) → file ≡ out
        → ((sets relations root : ℕ) (d : Derivation) → read_proof file n ≡ proof sets relations root d → f ≡ form_read sets relations root d)
        → work ≡ written (loaded_word file n (read_proof file n)) before
        → Formed n side work f
    form_loaded n is file is-out = rw (is, is-out) here
