-- The joined derivation with its tables by number: the new nodes under the numbers of their tables, and both forms under new names. A number of a
-- form stands for a table of its list, and the new name is that table's place in the list of the result.
use Prim.Native.Nat.{ℕ, ◌%◌, ◌≤◌, ◌<◌}
use mathlib.Core.Bool.{true}
use mathlib.Core.List.{List, [], ◌∷◌, ◌++◌}
use mathlib.Core.Path.{◌≡◌, refl, sym, ◌∙◌, ap}
use native.Mathlib.Nat.{mod-eq_of_lt}
use native.Mathlib.Omega.{arith}
use borrow.Author.Tests.{eq-eqb}
use lib.ListN.{length, get_or}
use Rattle.states.proofs.Search.{or_left}
use Rattle.semantics.specs.declared.Names.{Names}
use Rattle.semantics.specs.Derivations.{Derivation, Spec, parallel, weaken}
use Rattle.derivation.specs.Tables.{most_tables}
use Rattle.form.specs.Members.{set_where, relation_where, names_by, rename}
use Rattle.form.specs.Mentions.{is_in, place_in}
use Rattle.form.specs.Form.{sets_in, relations_in, numbered}
use Rattle.form.proofs.Mentions.{All, all_get_d, all_in, kept, place_below, place_kept, all_append}
use Rattle.form.proofs.EveryName.{known_every}
use Rattle.form.proofs.Renaming.{rename_rename, rename_agree}
use Rattle.form.proofs.Numbered.{filled, numbered_known}
use Rattle.canonical.specs.Nodes.{name_in}
use Rattle.composition.specs.declared.numbering.SetNumbers.{SetNumbers}
use Rattle.composition.specs.declared.numbering.RelationNumbers.{RelationNumbers}
use Rattle.composition.specs.declared.pool.Three.{Three}
use Rattle.joint.specs.Joining.{root_spec, left_spec, right_spec, members_of, joined}
use Rattle.composition.specs.Refinement.{NamedIn, SetsNumbered, ThreeIn, RelationsNumbered}
use Rattle.composition.proofs.Absorbed.{three_where, sets_joined, relations_joined}

-- A derivation mentions at most 16 sets and 16 relations.
pub record FewTables (x : Derivation) : Type 0 where
  pub sets_most : length (sets_in x) ≤ most_tables
  pub relations_most : length (relations_in x) ≤ most_tables

-- The name of table i of xs is its place in the whole list.
place_named : (held xs names : List ℕ) → length held ≤ most_tables → length xs ≤ most_tables → All (λ v. is_in held v ≡ true) xs → NamedIn held xs names
    → (i : ℕ) → i < length xs → place_in held (get_or xs i 0) ≡ name_in names i
unfolding name_in
place_named held xs names few few-xs there named i under =
    let here : i % 16 ≡ i = omega arith in
    let small = place_below held (get_or xs i 0) (all_get_d (λ v. is_in held v ≡ true) xs there i under) in
    sym (ap (λ j. get_or names j 0 % 16) here ∙ ap (λ v. v % 16) (named i under) ∙ mod-eq_of_lt (omega (arith, small)))

-- A side under the places of its tables in the lists of d.
module _ (d x : Derivation) (few-d : FewTables d) (few_x : FewTables x)
    (in-sets : All (λ v. is_in (sets_in d) v ≡ true) (sets_in x)) (in-relations : All (λ v. is_in (relations_in d) v ≡ true) (relations_in x))
    (sets relations : List ℕ) (sets-named : NamedIn (sets_in d) (sets_in x) sets) (relations-named : NamedIn (relations_in d) (relations_in x) relations) where
  side_named : rename (place_in (sets_in d)) (place_in (relations_in d)) x ≡ rename (name_in sets) (name_in relations) (numbered x)
  side_named =
      ap (rename (place_in (sets_in d)) (place_in (relations_in d))) (sym (filled x)) ∙ rename_rename _ _ _ _ (numbered x)
      ∙ rename_agree _ _ (name_in sets) (name_in relations) (numbered x)
      (known_every (length (sets_in x)) (length (relations_in x)) _ _
      (place_named (sets_in d) (sets_in x) sets few-d.sets_most few_x.sets_most in-sets sets-named)
      (place_named (relations_in d) (relations_in x) relations few-d.relations_most few_x.relations_most in-relations relations-named)
      (numbered x) (numbered_known x))

-- The names of a new node: its P is set 0.
abbrev pub new_names : Three → Names
new_names m = record { p = 0; r = m.r; g = m.g; q = m.q }

module _ (n : ℕ) (a b : Spec) (x y : Derivation) where
  abbrev D : Derivation
  D = joined n a b x y

  abbrev P : ℕ
  P = set_where n (root_spec n a b).P

  -- The first mention has place 0.
  first_place : place_in (sets_in D) P ≡ 0
  unfolding place_in is_in
  first_place =
      ap (λ l. place_in l P) (sets_joined n a b x y ∙ sym (all_append (P ∷ []) (sets_in x) (sets_in y)))
      ∙ place_kept (P ∷ []) (sets_in x ++ sets_in y) P (or_left _ _ (eq-eqb P P refl)) ∙ rw (eq-eqb P P refl)

  -- The tables of both sides are among those of the result.
  first_sets : All (λ v. is_in (sets_in D) v ≡ true) (sets_in x)
  first_sets v h = ap (λ l. is_in l v) (sets_joined n a b x y) ∙ kept _ (sets_in y) v (all_in (P ∷ []) (sets_in x) v h)

  second_sets : All (λ v. is_in (sets_in D) v ≡ true) (sets_in y)
  second_sets v h = ap (λ l. is_in l v) (sets_joined n a b x y) ∙ all_in _ (sets_in y) v h

  first_relations : All (λ v. is_in (relations_in D) v ≡ true) (relations_in x)
  first_relations v h =
      ap (λ l. is_in l v) (relations_joined n a b x y)
      ∙ kept _ (relations_in y) v (kept _ (three_where n (right_spec n a b)) v (all_in _ (relations_in x) v h))

  second_relations : All (λ v. is_in (relations_in D) v ≡ true) (relations_in y)
  second_relations v h = ap (λ l. is_in l v) (relations_joined n a b x y) ∙ all_in _ (relations_in y) v h

  -- A new node's names by place.
  node_named : (c : Spec) (m : Three) → c.P ≡ (root_spec n a b).P
      → ThreeIn (relations_in D) (relation_where n c.R) (relation_where n c.G) (relation_where n c.Q) m
      → names_by (place_in (sets_in D)) (place_in (relations_in D)) (members_of n c) ≡ new_names m
  unfolding members_of
  node_named c m same three = rw (three.R-is, three.G-is, three.Q-is, same, first_place)

  -- The numbers of the sets and of the relations of the result.
  abbrev pub ResultSets : SetNumbers → Type 0
  ResultSets m = SetsNumbered P (sets_in x) (sets_in y) (sets_in D) m

  abbrev pub ResultRelations : RelationNumbers → Type 0
  ResultRelations k = RelationsNumbered
      (relation_where n (root_spec n a b).R) (relation_where n (root_spec n a b).G) (relation_where n (root_spec n a b).Q)
      (relation_where n (left_spec n a b).R) (relation_where n (left_spec n a b).G) (relation_where n (left_spec n a b).Q) (relations_in x)
      (relation_where n (right_spec n a b).R) (relation_where n (right_spec n a b).G) (relation_where n (right_spec n a b).Q) (relations_in y)
      (relations_in D) k

  module _ (few : FewTables D) (few_x : FewTables x) (few_y : FewTables y) (m : SetNumbers) (k : RelationNumbers) (sets : ResultSets m)
      (relations : ResultRelations k) (room-sets : m.count ≤ most_tables) (room-relations : k.right.count ≤ most_tables) where
    pub numbered_joined : numbered D
        ≡ parallel (new_names k.root)
        (weaken (new_names k.left.node) (rename (name_in m.first) (name_in k.left.names) (numbered x)))
        (weaken (new_names k.right.node) (rename (name_in m.second) (name_in k.right.names) (numbered y)))
    unfolding numbered joined rename
    numbered_joined =
        let first = side_named D x few few_x first_sets first_relations _ _ (sets.first_named room-sets) (relations.first_named room-relations) in
        let second = side_named D y few few_y second_sets second_relations _ _ (sets.second_named room-sets) (relations.second_named room-relations) in
        let root = node_named (root_spec n a b) k.root refl (relations.root_named room-relations) in
        let left = node_named (left_spec n a b) k.left.node refl (relations.left_named room-relations) in
        let right = node_named (right_spec n a b) k.right.node refl (relations.right_named room-relations) in
        λ i. parallel (root i) (weaken (left i) (first i)) (weaken (right i) (second i))
