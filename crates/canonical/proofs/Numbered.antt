-- What the code numbers is what the form numbers: the table of nodes has the nodes of the derivation, and a representative is an index for all
-- tables with its members.
use Prim.Native.Nat.{ℕ, suc, ◌+◌, ◌*◌, ◌%◌, ◌≤◌, ◌<◌}
use mathlib.Core.Bool.{true, ◌||◌}
use mathlib.Core.List.{List, [], ◌∷◌, ◌++◌, map, flat_map, append-nil}
use mathlib.Core.Logic.{⊎_elim}
use mathlib.Core.Path.{◌≡◌, refl, sym, ◌∙◌, ap, ap₂, subst, fun_ext}
use native.Mathlib.Nat.{mod-eq_of_lt}
use native.Mathlib.Omega.{arith}
use borrow.Author.Tests.{eqb-true, eq-eqb}
use lib.Dec.{eqb}
use lib.ListN.{length, take, drop, get_or, replicate, length-replicate, length-append, length-map}
use lib.Seq.{take_at, drop_at, get_or_at, length-take-le}
use Rattle.bits.specs.Fields.{bits_at}
use Rattle.states.proofs.Search.{or_left, or_right, or_cases}
use Rattle.semantics.specs.Derivations.{Derivation, skip, assignment, sequence, parallel, conditional, iteration, weaken, nodes}
use Rattle.derivation.specs.declared.Node.{Node}
use Rattle.derivation.specs.Tables.{most_tables, set_at}
use Rattle.derivation.specs.NodeTable.{node_of, node_in, node_bits, node_record, node_words, padded, node_table}
use Rattle.derivation.specs.Reading.{proof, read_proof}
use Rattle.derivation.proofs.Files.{Shown, read_known}
use Rattle.derivation.proofs.NodeTable.{Known, length_node_words, node_held}
use Rattle.form.specs.Members.{set_members, relation_members, by_members}
use Rattle.form.specs.Form.{sets_in, relations_in}
use Rattle.form.specs.Mentions.{sets_of, relations_of, root_node, in_order, is_in, place_in, all_mentioned, distinct}
use Rattle.form.proofs.Mentions.{all_distinct, in_distinct, place_below, few_distinct, few_length}
use Rattle.form.proofs.Alike.{map_same}
use Rattle.form.proofs.EveryName.{known_sets, known_relations}
use Rattle.form.proofs.Renaming.{rename_same}
use Rattle.form.proofs.FileBack.{root_at}
use Rattle.form.proofs.Represented.{Represents, sets_by_index, relations_by_index, numbered_by_index}
use Rattle.canonical.specs.declared.Run.{Run}
use Rattle.canonical.specs.Nodes.{name_in, held_in}
use Rattle.canonical.specs.Refinement.{set_run, relation_run, members_in, members_of, Least, Leasts, After, Names, Numbers}
use Rattle.canonical.proofs.Order.{held_append, named_below}

-- The first word of a derivation holds its root.
module _ (sets relations : ℕ) (few_sets : sets ≤ most_tables) (few_relations : relations ≤ most_tables) where
  root_word : (i bit : ℕ) (d : Derivation) → Known sets relations d → i + nodes d ≤ 127 → (w : ℕ) (rest : List ℕ)
      → node_words i bit d ≡ w ∷ rest → node_of w ≡ node_record i bit d
  unfolding node_in
  root_word i bit d known inside w rest e =
      let at : drop i (replicate i 0 ++ w ∷ rest) ≡ node_words i bit d ++ [] =
      drop_at (replicate i 0) (w ∷ rest) i (length-replicate i 0) ∙ sym e ∙ sym (append-nil _)
      in
      ap node_of (sym (get_or_at (replicate i 0) w rest 0 i (length-replicate i 0)))
      ∙ node_held sets relations few_sets few_relations (replicate i 0 ++ w ∷ rest) [] i bit d known inside at

  -- What the nodes of a derivation have, by its words. The number of a node and its first bit are not looked at.
  module _ {A : Type 0} (own : Node → List A) (alike : (i bit : ℕ) (d : Derivation) → own (node_record i bit d) ≡ own (root_node d)) where
    one : (i bit : ℕ) (d : Derivation) → Known sets relations d → i + nodes d ≤ 127 → (w : ℕ) (rest : List ℕ)
        → node_words i bit d ≡ w ∷ rest → own (node_of w) ≡ own (root_node d)
    one i bit d known inside w rest e = ap own (root_word i bit d known inside w rest e) ∙ alike i bit d

    two : (a b : List ℕ) (x y : List A) → held_in own a ≡ x → held_in own b ≡ y → held_in own (a ++ b) ≡ x ++ y
    two a b x y l r = held_append own a b ∙ ap₂ ◌++◌ l r

    words_held : (i bit : ℕ) (d : Derivation) → Known sets relations d → i + nodes d ≤ 127 → held_in own (node_words i bit d) ≡ in_order own d
    unfolding held_in flat_map in_order
    words_held i bit (skip h) known inside = append-nil _ ∙ one i bit (skip h) known inside _ _ refl
    words_held i bit (assignment h) known inside = append-nil _ ∙ one i bit (assignment h) known inside _ _ refl
    words_held i bit (sequence h l r) known inside =
        ap₂ ◌++◌ (one i bit (sequence h l r) known inside _ _ refl)
        (two (node_words (suc i) (bit + 19) l) (node_words (suc i + nodes l) (bit + 19 + node_bits l) r) _ _ (words_held (suc i) (bit + 19) l known.1 (omega arith))
        (words_held (suc i + nodes l) (bit + 19 + node_bits l) r known.2 (omega arith)))
    words_held i bit (parallel h l r) known inside =
        ap₂ ◌++◌ (one i bit (parallel h l r) known inside _ _ refl)
        (two (node_words (suc i) (bit + 19) l) (node_words (suc i + nodes l) (bit + 19 + node_bits l) r) _ _ (words_held (suc i) (bit + 19) l known.1 (omega arith))
        (words_held (suc i + nodes l) (bit + 19 + node_bits l) r known.2 (omega arith)))
    words_held i bit (conditional h d) known inside =
        ap₂ ◌++◌ (one i bit (conditional h d) known inside _ _ refl) (words_held (suc i) (bit + 19) d known.1 (omega arith))
    words_held i bit (iteration h K W d) known inside =
        ap₂ ◌++◌ (one i bit (iteration h K W d) known inside _ _ refl) (words_held (suc i) (bit + 27) d known.3 (omega arith))
    words_held i bit (weaken h d) known inside =
        ap₂ ◌++◌ (one i bit (weaken h d) known inside _ _ refl) (words_held (suc i) (bit + 19) d known.1 (omega arith))

    -- The table of nodes of a derivation that was read.
    pub nodes_held : (bit : ℕ) (d : Derivation) → Known sets relations d → nodes d ≤ 127 → held_in own (take (nodes d) (node_table bit d)) ≡ in_order own d
    unfolding node_table padded
    nodes_held bit d known few =
        ap (held_in own) (take_at (node_words 0 bit d) _ (nodes d) (length_node_words 0 bit d)) ∙ words_held 0 bit d known (omega arith)

-- A table has a word for each node.
pub nodes_inside : (bit : ℕ) (d : Derivation) → nodes d ≤ length (node_table bit d)
unfolding node_table padded
nodes_inside bit d = rw (length-append, length_node_words 0 bit d) (omega arith)

-- The least index with equal members is one index for all of them.
least_one : (f : ℕ → ℕ) (i j r q : ℕ) → Least f i r → Least f j q → f i ≡ f j → r ≡ q
least_one f i j r q a b e =
    let no_less : r < q → ⊥ = λ l. b.first r l (a.same ∙ e) in
    let no_more : q < r → ⊥ = λ l. a.first q l (b.same ∙ sym e) in
    omega arith

module _ (f : ℕ → ℕ) (m : ℕ) (few : m ≤ 16) (reps : List ℕ) (least : Leasts f m reps) where
  entry : (i : ℕ) → i < m → name_in reps i ≡ get_or reps i 0
  unfolding name_in
  entry i under =
      let here : i % 16 ≡ i = omega arith in
      let small : get_or reps i 0 < 16 = omega (arith, (least i under).within) in
      ap (λ k. get_or reps k 0 % 16) here ∙ mod-eq_of_lt small

  pub represents : Represents f (name_in reps) m
  represents =
      record {
        below = λ i under. rw (entry i under) (omega (arith, (least i under).within));
        same = λ i under. rw (entry i under) (least i under).same;
        one = λ i j x y e. rw (entry i x, entry j y) (least_one f i j _ _ (least i x) (least j y) e);
      }

pub in_map : (f : ℕ → ℕ) (l : List ℕ) (x : ℕ) → is_in l x ≡ true → is_in (map f l) (f x) ≡ true
unfolding is_in
in_map f [] x h = h
in_map f (y ∷ l) x h =
    ⊎_elim {C = (eqb (f y) (f x) || is_in (map f l) (f x)) ≡ true} (λ e. or_left _ _ (eq-eqb _ _ (ap f (eqb-true y x e)))) (λ later. or_right (eqb (f y) (f x)) _ (in_map f l x later))
    (or_cases _ _ h)

-- The tables of one kind: those in `order` are the distinct representatives of the mentions L, and `names` are their places.
module _ (reps L order : List ℕ) (count : ℕ) (listed : take count order ≡ distinct (map (name_in reps) L)) where
  -- The number of a table that is mentioned.
  pub name_is : (names : List ℕ) → ((i : ℕ) → i < 16 → get_or names i 0 ≡ place_in (take count order) (name_in reps i))
      → (i : ℕ) → i < 16 → is_in L i ≡ true → name_in names i ≡ place_in (distinct (map (name_in reps) L)) (name_in reps i)
  unfolding name_in
  name_is names places i under mention =
      let here : i % 16 ≡ i = omega arith in
      let is = places i under ∙ ap (λ l. place_in l (name_in reps i)) listed in
      let there = in_distinct (map (name_in reps) L) (name_in reps i) ∙ in_map (name_in reps) L i mention in
      let few = few_length 16 _ (few_distinct 16 (map (name_in reps) L) (named_below reps L)) in
      let small : place_in (distinct (map (name_in reps) L)) (name_in reps i) < 16 = omega (arith, place_below _ (name_in reps i) there, few) in
      ap (λ k. get_or names k 0 % 16) here ∙ ap (λ x. x % 16) is ∙ mod-eq_of_lt small

  -- Their members.
  pub members_are : (bytes : List ℕ) (run : Run) → members_of bytes run (take count order) ≡ map (members_in bytes run) (distinct (map (name_in reps) L))
  unfolding members_of
  members_are bytes run =
      ap (map (λ i. members_in bytes run (i % 16))) listed
      ∙ map_same _ _ _ (all_distinct _ (map (name_in reps) L) (λ x h. ap (members_in bytes run) (mod-eq_of_lt (named_below reps L x h))))

-- The sets are one run of the file, and the relations another.
set_members_lem : (bytes : List ℕ) (n : ℕ) → members_in bytes (set_run n) ≡ set_members bytes n
unfolding members_in set_members set_at
set_members_lem bytes n = refl

relation_members_lem : (bytes : List ℕ) (n sets : ℕ) → members_in bytes (relation_run n sets) ≡ relation_members bytes n sets
unfolding members_in relation_members
relation_members_lem bytes n sets = fun_ext (λ r. ap (λ at. bits_at bytes at (n * n)) (sym (root_at n sets r)))

-- There are as many as are listed.
named : (bytes : List ℕ) (run : Run) (wanted order names : List ℕ) (count : ℕ) → count ≤ 16 → 16 ≤ length order
    → members_of bytes run (take count order) ≡ wanted → Names bytes run wanted (record { count = count; order = order; names = names })
unfolding members_of
named bytes run wanted order names count most long are =
    record {
      most = most;
      counted = sym (sym (ap length are) ∙ length-map (take count order) _ ∙ length-take-le count order (omega arith));
      are = are;
    }

-- The nodes of a proof file that was read.
pub nodes_read : (bytes : List ℕ) (n sets relations root : ℕ) (d : Derivation) → read_proof bytes n ≡ proof sets relations root d
    → {A : Type 0} (own : Node → List A) → ((i bit : ℕ) (d : Derivation) → own (node_record i bit d) ≡ own (root_node d))
    → held_in own (take (nodes d) (node_table root d)) ≡ in_order own d
nodes_read bytes n sets relations root d e own alike =
    let s = read_known bytes n sets relations root d e in
    nodes_held sets relations s.sets_most s.relations_most own alike root d s.known s.nodes_most

-- A proof file that was read, the representatives of its tables, and what the loop over its nodes listed.
module _ (bytes : List ℕ) (n sets relations root : ℕ) (d : Derivation) (e : read_proof bytes n ≡ proof sets relations root d) (repS repR : List ℕ)
    (leastS : Leasts (members_in bytes (set_run n)) sets repS) (leastR : Leasts (members_in bytes (relation_run n sets)) relations repR) where
  shown : Shown bytes n sets relations d
  shown = read_known bytes n sets relations root d e

  abbrev mention_s : List ℕ
  mention_s = in_order sets_of d

  abbrev mention_r : List ℕ
  mention_r = in_order relations_of d

  rep_sets : Represents (set_members bytes n) (name_in repS) sets
  rep_sets = subst (λ f. Represents f (name_in repS) sets) (set_members_lem bytes n) (represents _ sets shown.sets_most repS leastS)

  rep_relations : Represents (relation_members bytes n sets) (name_in repR) relations
  rep_relations =
      subst (λ f. Represents f (name_in repR) relations) (relation_members_lem bytes n sets) (represents _ relations shown.relations_most repR leastR)

  module _ (entryS orderS entryR orderR : List ℕ) (countS countR : ℕ)
      (afterS : After entryS 0 (map (name_in repS) (held_in sets_of (take (nodes d) (node_table root d)))) orderS countS)
      (afterR : After entryR 0 (map (name_in repR) (held_in relations_of (take (nodes d) (node_table root d)))) orderR countR)
      (longS : 16 ≤ length orderS) (longR : 16 ≤ length orderR) where
    listed_s : take countS orderS ≡ distinct (map (name_in repS) mention_s)
    unfolding distinct sets_of
    listed_s = afterS.listed ∙ ap (λ l. all_mentioned [] (map (name_in repS) l)) (nodes_read bytes n sets relations root d e sets_of (λ i bit d. refl))

    listed_r : take countR orderR ≡ distinct (map (name_in repR) mention_r)
    unfolding distinct relations_of
    listed_r = afterR.listed ∙ ap (λ l. all_mentioned [] (map (name_in repR) l)) (nodes_read bytes n sets relations root d e relations_of (λ i bit d. refl))

    pub numbers : (namesS namesR : List ℕ)
        → ((i : ℕ) → i < 16 → get_or namesS i 0 ≡ place_in (take countS orderS) (name_in repS i))
        → ((i : ℕ) → i < 16 → get_or namesR i 0 ≡ place_in (take countR orderR) (name_in repR i))
        → Numbers bytes n sets d (record {
          sets = record { count = countS; order = orderS; names = namesS };
          relations = record { count = countR; order = orderR; names = namesR };
        })
    numbers namesS namesR placesS placesR =
        let sets_by = sets_by_index bytes n sets relations d shown.known (name_in repS) (name_in repR) rep_sets rep_relations in
        let relations_by = relations_by_index bytes n sets relations d shown.known (name_in repS) (name_in repR) rep_sets rep_relations in
        let sets_are : members_of bytes (set_run n) (take countS orderS) ≡ sets_in (by_members bytes n sets d) =
        members_are repS mention_s orderS countS listed_s bytes (set_run n) ∙ rw (set_members_lem bytes n) (sym sets_by)
        in
        let relations_are : members_of bytes (relation_run n sets) (take countR orderR) ≡ relations_in (by_members bytes n sets d) =
        members_are repR mention_r orderR countR listed_r bytes (relation_run n sets) ∙ rw (relation_members_lem bytes n sets) (sym relations_by)
        in
        record {
          of_sets = named bytes (set_run n) _ orderS namesS countS afterS.most longS sets_are;
          of_relations = named bytes (relation_run n sets) _ orderR namesR countR afterR.most longR relations_are;
          renamed = rename_same _ _ _ _ d
              (λ i h. name_is repS mention_s orderS countS listed_s namesS placesS i (omega (arith, known_sets sets relations d shown.known i h, shown.sets_most)) h)
              (λ i h. name_is repR mention_r orderR countR listed_r namesR placesR i (omega (arith, known_relations sets relations d shown.known i h, shown.relations_most)) h)
              ∙ sym (numbered_by_index bytes n sets relations d shown.known (name_in repS) (name_in repR) rep_sets rep_relations);
        }
