-- The form of a derivation that was read, from an index for all tables with the same members: what the code keeps in place of members.
use Prim.Native.Nat.{ℕ, ◌<◌}
use mathlib.Core.List.{List, map}
use mathlib.Core.Path.{◌≡◌, ◌∙◌, ap}
use Rattle.semantics.specs.Derivations.{Derivation}
use Rattle.derivation.proofs.NodeTable.{Known}
use Rattle.form.specs.Members.{rename, set_members, relation_members, by_members}
use Rattle.form.specs.Mentions.{sets_of, relations_of, in_order, place_in, distinct}
use Rattle.form.specs.Form.{sets_in, relations_in, numbered}
use Rattle.form.proofs.Mentions.{All}
use Rattle.form.proofs.Alike.{order_members, place_members}
use Rattle.form.proofs.EveryName.{known_sets, known_relations}
use Rattle.form.proofs.Renaming.{rename_rename, rename_same, sets_renamed, relations_renamed}

-- Of the tables below m, `rep` gives one for all with the same members.
pub record Represents (members rep : ℕ → ℕ) (m : ℕ) : Type 0 where
  pub below : (i : ℕ) → i < m → rep i < m
  pub same : (i : ℕ) → i < m → members (rep i) ≡ members i
  pub one : (i j : ℕ) → i < m → j < m → members i ≡ members j → rep i ≡ rep j

module _ (bytes : List ℕ) (n sets relations : ℕ) (d : Derivation) (known : Known sets relations d) (repS repR : ℕ → ℕ)
    (s : Represents (set_members bytes n) repS sets) (r : Represents (relation_members bytes n sets) repR relations) where
  abbrev x : Derivation
  x = by_members bytes n sets d

  -- The sets and the relations in the order of the form, by index.
  abbrev pub set_order : List ℕ
  set_order = distinct (map repS (in_order sets_of d))

  abbrev pub relation_order : List ℕ
  relation_order = distinct (map repR (in_order relations_of d))

  all_sets : All (λ i. i < sets) (in_order sets_of d)
  all_sets = known_sets sets relations d known

  all_relations : All (λ i. i < relations) (in_order relations_of d)
  all_relations = known_relations sets relations d known

  sets_mentioned : sets_in x ≡ distinct (map (set_members bytes n) (in_order sets_of d))
  unfolding sets_in by_members
  sets_mentioned = ap distinct (sets_renamed _ _ d)

  relations_mentioned : relations_in x ≡ distinct (map (relation_members bytes n sets) (in_order relations_of d))
  unfolding relations_in by_members
  relations_mentioned = ap distinct (relations_renamed _ _ d)

  pub sets_by_index : sets_in x ≡ map (set_members bytes n) set_order
  sets_by_index = sets_mentioned ∙ order_members _ repS sets s.below s.same s.one _ all_sets

  pub relations_by_index : relations_in x ≡ map (relation_members bytes n sets) relation_order
  relations_by_index = relations_mentioned ∙ order_members _ repR relations r.below r.same r.one _ all_relations

  -- The new name of a table is the place of its index.
  pub set_place : (i : ℕ) → i < sets → place_in (sets_in x) (set_members bytes n i) ≡ place_in set_order (repS i)
  set_place i l = rw sets_mentioned (place_members _ repS sets s.below s.same s.one _ all_sets i l)

  pub relation_place : (i : ℕ) → i < relations → place_in (relations_in x) (relation_members bytes n sets i) ≡ place_in relation_order (repR i)
  relation_place i l = rw relations_mentioned (place_members _ repR relations r.below r.same r.one _ all_relations i l)

  pub numbered_by_index : numbered x ≡ rename (λ i. place_in set_order (repS i)) (λ i. place_in relation_order (repR i)) d
  unfolding numbered by_members
  numbered_by_index =
      rename_rename _ _ _ _ d
      ∙ rename_same _ _ _ _ d (λ i h. set_place i (all_sets i h)) (λ i h. relation_place i (all_relations i h))
