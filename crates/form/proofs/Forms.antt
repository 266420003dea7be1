-- What holds of the form of a derivation, and of a proof file that is read without fault: it is read over the same N, with the same rules
-- over tables with the same members; the form of a file is no longer than the file; files that agree in rules and members have one form, and
-- no others have it.
use Prim.Native.Nat.{ℕ, ◌+◌, ◌*◌, ◌/◌, ◌%◌, ◌^◌, ◌≤◌, ◌<◌}
use mathlib.Core.Bool.{Bool, true, false}
use mathlib.Core.List.{List}
use mathlib.Core.Path.{◌≡◌, refl, sym, ◌∙◌, ap}
use native.Mathlib.Nat.{mod-lt, div-lt_iff_lt-mul}
use native.Mathlib.Omega.{arith}
use borrow.Author.Tests.{eqb-true, eqb-false}
use lib.Dec.{eqb}
use lib.ListN.{length, get_or}
use Rattle.bits.specs.Fields.{bit_at}
use Rattle.bits.proofs.Laws.{bit_below, bits_agree}
use Rattle.states.specs.Sets.{capacity}
use Rattle.semantics.specs.Language.{Stmt}
use Rattle.semantics.specs.States.{Machine}
use Rattle.semantics.specs.Derivations.{Derivation, nodes, levels}
use Rattle.semantics.specs.Checking.{first_fault}
use Rattle.derivation.specs.Tables.{most_tables, set_at, row_at, in_set_of, in_relation_of}
use Rattle.derivation.specs.NodeTable.{node_bits}
use Rattle.derivation.specs.Reading.{proof, read_proof}
use Rattle.derivation.proofs.Files.{read_known}
use Rattle.form.specs.Members.{set_members, relation_members, by_members}
use Rattle.form.specs.Mentions.{sets_of, relations_of, in_order, place_in}
use Rattle.form.specs.Form.{sets_in, relations_in, numbered, form_of}
use Rattle.form.proofs.Mentions.{All}
use Rattle.form.proofs.EveryName.{known_every}
use Rattle.form.proofs.Renaming.{rename_agree, nodes_rename, levels_rename, node_bits_rename}
use Rattle.form.proofs.Numbered.{filled, numbered_known, all_sets_in, all_relations_in, some_set, some_relation, no_more_sets, no_more_relations}
use Rattle.form.proofs.Numbered as Numbered
use Rattle.form.proofs.Verdicts.{same_members, member_tables, file_tables, pair_at, pair_below, some_row, pair_of, members_fault, files_fault}
use Rattle.form.proofs.FileBack.{Encodable, fitting_in, file_back, set_back, relation_back}
use Rattle.form.proofs.FileRead.{states_least, states_most, no_longer}

-- A derivation with each table by its members that a proof file over n states has room for.
pub record Writable (n : ℕ) (x : Derivation) : Type 0 where
  pub states_least : 1 ≤ n
  pub states_most : n ≤ capacity
  pub sets_most : length (sets_in x) ≤ most_tables
  pub relations_most : length (relations_in x) ≤ most_tables
  pub sets_fit : All (λ v. v < 2 ^ n) (in_order sets_of x)
  pub relations_fit : All (λ v. v < 2 ^ (n * n)) (in_order relations_of x)
  pub nodes_most : nodes x ≤ 127
  pub levels_most : levels x ≤ 24

module _ (n : ℕ) (x : Derivation) (w : Writable n x) where
  pub any_encodable : Encodable n (sets_in x) (relations_in x) (numbered x)
  unfolding numbered
  any_encodable = record {
    states_least = w.states_least;
    states_most = w.states_most;
    sets_least = some_set x;
    sets_most = w.sets_most;
    relations_least = some_relation x;
    relations_most = w.relations_most;
    sets_fit = fitting_in n (sets_in x) (all_sets_in x (λ v. v < 2 ^ n) w.sets_fit);
    relations_fit = fitting_in (n * n) (relations_in x) (all_relations_in x (λ v. v < 2 ^ (n * n)) w.relations_fit);
    known = numbered_known x;
    nodes_most = rw (nodes_rename (place_in (sets_in x)) (place_in (relations_in x)) x) w.nodes_most;
    levels_most = rw (levels_rename (place_in (sets_in x)) (place_in (relations_in x)) x) w.levels_most;
  }

  -- Its form is read over the same N, without fault: the tables that the nodes name, once each, and the derivation with their numbers.
  pub any_read : read_proof (form_of n x) n
      ≡ proof (length (sets_in x)) (length (relations_in x)) (row_at n (length (sets_in x)) (length (relations_in x)) 0) (numbered x)
  unfolding form_of
  any_read = file_back n (sets_in x) (relations_in x) (numbered x) any_encodable

  -- By its members the derivation that is read is the one that was written.
  pub any_members : by_members (form_of n x) n (length (sets_in x)) (numbered x) ≡ x
  unfolding by_members form_of
  any_members =
      rename_agree _ _ (λ i. get_or (sets_in x) i 0) (λ r. get_or (relations_in x) r 0) (numbered x)
      (known_every (length (sets_in x)) (length (relations_in x)) _ _ (set_back n _ _ _ any_encodable) (relation_back n _ _ _ any_encodable)
      (numbered x) (numbered_known x))
      ∙ filled x

-- Under the check the form has the first fault of the derivation, or none if that has none.
pub any_fault : (m : Machine) (x : Derivation) → Writable m.states x → (S : Stmt) (k : ℕ)
    → first_fault (file_tables m (form_of m.states x) (length (sets_in x))) (numbered x) S k ≡ first_fault (member_tables m) x S k
any_fault m x w S k =
    members_fault m (form_of m.states x) (length (sets_in x)) (numbered x) S k
    ∙ ap (λ d. first_fault (member_tables m) d S k) (any_members m.states x w)

-- A proof file over n states that is read without fault.
module _ (bytes : List ℕ) (n sets relations root : ℕ) (d : Derivation) (e : read_proof bytes n ≡ proof sets relations root d) where
  abbrev x : Derivation
  x = by_members bytes n sets d

  -- There is room for its derivation.
  pub writable : Writable n x
  unfolding by_members
  writable =
      let shown = read_known bytes n sets relations root d e in
      record {
        states_least = states_least bytes n sets relations root d e;
        states_most = states_most bytes n sets relations root d e;
        sets_most = omega (arith, shown.sets_most, no_more_sets bytes n sets relations d shown.known);
        relations_most = omega (arith, shown.relations_most, no_more_relations bytes n sets relations d shown.known);
        sets_fit = Numbered.sets_fit bytes n sets d;
        relations_fit = Numbered.relations_fit bytes n sets d;
        nodes_most = rw (nodes_rename (set_members bytes n) (relation_members bytes n sets) d) shown.nodes_most;
        levels_most = rw (levels_rename (set_members bytes n) (relation_members bytes n sets) d) shown.levels_most;
      }

  -- Its form is read with the same rules over tables with the same members.
  pub form_read_lem : read_proof (form_of n x) n
      ≡ proof (length (sets_in x)) (length (relations_in x)) (row_at n (length (sets_in x)) (length (relations_in x)) 0) (numbered x)
  form_read_lem = any_read n x writable

  pub form_members : by_members (form_of n x) n (length (sets_in x)) (numbered x) ≡ x
  form_members = any_members n x writable

  -- The derivation with the numbers of the form has the node bits of the one that was read.
  same_bits : node_bits (numbered x) ≡ node_bits d
  unfolding numbered by_members
  same_bits = node_bits_rename _ _ x ∙ node_bits_rename _ _ d

  -- The form is no longer than the file.
  pub form_length : length (form_of n x) ≤ length bytes
  unfolding form_of
  form_length =
      let known = (read_known bytes n sets relations root d e).known in
      no_longer bytes n sets relations root d e (sets_in x) (relations_in x) (numbered x) (no_more_sets bytes n sets relations d known)
      (no_more_relations bytes n sets relations d known) (omega (arith, same_bits))

  -- The form of the form is the form.
  pub form_again : form_of n (by_members (form_of n x) n (length (sets_in x)) (numbered x)) ≡ form_of n x
  form_again = ap (form_of n) form_members

-- Two proof files over the same N that are read without fault.
module _ (n : ℕ) (a : List ℕ) (setsA relationsA rootA : ℕ) (dA : Derivation) (eA : read_proof a n ≡ proof setsA relationsA rootA dA)
    (b : List ℕ) (setsB relationsB rootB : ℕ) (dB : Derivation) (eB : read_proof b n ≡ proof setsB relationsB rootB dB) where
  abbrev x_a : Derivation
  x_a = by_members a n setsA dA

  abbrev x_b : Derivation
  x_b = by_members b n setsB dB

  -- With one form, they have the same rules over tables with the same members.
  pub one_form : form_of n x_a ≡ form_of n x_b → x_a ≡ x_b
  one_form same =
      let read = sym (form_read_lem a n setsA relationsA rootA dA eA) ∙ ap (λ file. read_proof file n) same
      ∙ form_read_lem b n setsB relationsB rootB dB eB
      in
      let sets : length (sets_in x_a) ≡ length (sets_in x_b) = cc in
      let nodes : numbered x_a ≡ numbered x_b = cc in
      sym (form_members a n setsA relationsA rootA dA eA) ∙ (λ i. by_members (same i) n (sets i) (nodes i))
      ∙ form_members b n setsB relationsB rootB dB eB

  -- And conversely.
  pub form_same : x_a ≡ x_b → form_of n x_a ≡ form_of n x_b
  form_same same = ap (form_of n) same

-- Bits that are 1 alike are equal.
bit_alike : (a b : List ℕ) (i j : ℕ) → eqb (bit_at a i) 1 ≡ eqb (bit_at b j) 1 → bit_at a i ≡ bit_at b j
bit_alike a b i j e = by (eqb (bit_at a i) 1) refl
  where
    by : (t : Bool) → eqb (bit_at a i) 1 ≡ t → bit_at a i ≡ bit_at b j
    by true t = eqb-true _ 1 t ∙ sym (eqb-true _ 1 (sym e ∙ t))
    by false t = omega (arith, bit_below a i, bit_below b j, eqb-false (bit_at a i) 1 t, eqb-false (bit_at b j) 1 (sym e ∙ t))

-- The numbers of two sets are equal exactly if the sets have the same states.
module _ (a b : List ℕ) (n i j : ℕ) where
  pub set_same : set_members a n i ≡ set_members b n j → (s : ℕ) → s < n → in_set_of a n i s ≡ in_set_of b n j s
  unfolding set_members in_set_of
  set_same e s under = ap (λ bit. eqb bit 1) (same_members a b (set_at n i) (set_at n j) n e s under)

  pub set_alike : ((s : ℕ) → s < n → in_set_of a n i s ≡ in_set_of b n j s) → set_members a n i ≡ set_members b n j
  unfolding set_members in_set_of
  set_alike same = bits_agree a b (set_at n i) (set_at n j) n (λ s under. bit_alike a b _ _ (same s under))

-- The numbers of two relations are equal exactly if the relations have the same pairs.
module _ (a b : List ℕ) (n setsA setsB i j : ℕ) where
  pub relation_same : relation_members a n setsA i ≡ relation_members b n setsB j
      → (s t : ℕ) → s < n → t < n → in_relation_of a n setsA i s t ≡ in_relation_of b n setsB j s t
  unfolding relation_members in_relation_of
  relation_same e s t under under' =
      let bit = same_members a b (row_at n setsA i 0) (row_at n setsB j 0) (n * n) e (n * s + t) (pair_below n s t under under') in
      rw (pair_at n setsA i s t, pair_at n setsB j s t) (ap (λ v. eqb v 1) bit)

  pub relation_alike : ((s t : ℕ) → s < n → t < n → in_relation_of a n setsA i s t ≡ in_relation_of b n setsB j s t)
      → relation_members a n setsA i ≡ relation_members b n setsB j
  unfolding relation_members in_relation_of
  relation_alike same =
      bits_agree a b (row_at n setsA i 0) (row_at n setsB j 0) (n * n) (λ k under.
      let some = some_row n k under in
      rw (pair_of n setsA i k, pair_of n setsB j k)
      (bit_alike a b _ _ (same (k / n) (k % n) ((div-lt_iff_lt-mul some).1 under) (mod-lt k some))))

-- Under the check the form has the first fault of the file, or none if the file has none.
module _ (m : Machine) (bytes : List ℕ) (sets relations root : ℕ) (d : Derivation)
    (e : read_proof bytes m.states ≡ proof sets relations root d) where
  abbrev y : Derivation
  y = by_members bytes m.states sets d

  pub form_fault : (S : Stmt) (k : ℕ)
      → first_fault (file_tables m (form_of m.states y) (length (sets_in y))) (numbered y) S k ≡ first_fault (file_tables m bytes sets) d S k
  form_fault S k = files_fault m _ bytes _ sets _ d (form_members bytes m.states sets relations root d e) S k
