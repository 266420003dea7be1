-- The first entries of a buffer as the list of what was mentioned.
use Prim.Native.Nat.{ℕ, ◌+◌, ◌≤◌, ◌<◌}
use mathlib.Core.Bool.{true, false}
use mathlib.Core.List.{List, [], ◌∷◌, ◌++◌, map, flat_map, map-append, append-nil, append_assoc}
use mathlib.Core.Path.{◌≡◌, refl, sym, ◌∙◌, ap}
use native.Mathlib.Numerals.{add-one}
use native.Mathlib.Omega.{arith}
use borrow.Author.Tests.{lt-ltb, le-ltb, eq-eqb, ne_eqb}
use lib.Dec.{ltb}
use lib.ListN.{length, take, get_or, set}
use lib.Seq.{take-suc, take-suc-set, length-take-le}
use Rattle.std.specs.Prelude.{Option, MatchOption}
use Rattle.std.specs.Option.{unwrap_or}
use Rattle.std.specs.List.{AllWithin, HoldsAt}
use Rattle.std.proofs.lemmas.Iterator.{index_from_first}
use Rattle.derivation.specs.declared.Node.{Node}
use Rattle.derivation.specs.NodeTable.{node_of, node_in}
use Rattle.form.specs.Mentions.{is_in, place_in, mentioned, all_mentioned}
use Rattle.form.proofs.Mentions.{place_or_length, mentioned_new, All, all_append, all_map, few_none, few_all}
use Rattle.canonical.specs.Nodes.{name_in, held_in}
use Rattle.canonical.specs.Refinement.{Listing, After}

last_in : (x : ℕ) → is_in (x ∷ []) x ≡ true
unfolding is_in
last_in x = rw (eq-eqb x x refl)

-- The place of x is that of the first entry that is x; without one it is the number of entries.
pub place_first : (x : ℕ) (xs : List ℕ) (r : Option ℕ)
    → MatchOption r (AllWithin (λ y. y ≡ x → ⊥) xs 0 (length xs))
    (λ i. (i < length xs) × HoldsAt (λ y. y ≡ x) xs i × AllWithin (λ y. y ≡ x → ⊥) xs 0 i)
    → place_in xs x ≡ unwrap_or r (length xs)
unfolding place_in
place_first x =
    index_from_first (λ l. place_in l x) (λ y. y ≡ x) (λ y. y ≡ x → ⊥) refl (λ y ys e. rw (eq-eqb y x e)) (λ y ys e. rw (ne_eqb y x e) (sym (add-one _)))

module _ (l : List ℕ) (x : ℕ) where
  -- A place below the number of entries says that x is one.
  place_test : (count : ℕ) → count ≤ length l → ltb (place_in (take count l) x) count ≡ is_in (take count l) x
  place_test count within = ap (λ k. ltb (place_in (take count l) x) k) (sym (length-take-le count l within)) ∙ place_or_length (take count l) x

  pub is_there_lem : (count : ℕ) → count ≤ length l → place_in (take count l) x < count → is_in (take count l) x ≡ true
  is_there_lem count within under = sym (place_test count within) ∙ lt-ltb _ count under

  pub is_new : (count : ℕ) → count ≤ length l → count ≤ place_in (take count l) x → is_in (take count l) x ≡ false
  is_new count within over = sym (place_test count within) ∙ le-ltb _ count over

  -- x is put after them.
  pub put_new : (count : ℕ) → count < length l → is_in (take count l) x ≡ false → take (count + 1) (set l count x) ≡ mentioned (take count l) x
  put_new count inside out = rw (add-one count, take-suc-set l count x inside) (sym (mentioned_new (take count l) x out))

-- Further mentions.
pub after_again : (a b c xs ys : List ℕ) (count r q : ℕ) → After a count xs b r → After b r ys c q → After a count (xs ++ ys) c q
after_again a b c xs ys count r q first second =
    record {
      listed = second.listed ∙ ap (λ l. all_mentioned l ys) first.listed ∙ sym (all_append (take count a) xs ys);
      most = second.most;
    }

-- After mentions of numbers below 16 there is still room for 16 different ones.
pub listing_after : (a b xs : List ℕ) (count r : ℕ) → Listing a count → length b ≡ length a → All (λ x. x < 16) xs → After a count xs b r → Listing b r
listing_after a b xs count r l same below after =
    record {
      length_enough = omega (arith, l.length_enough);
      count_most = after.most;
      few = rw after.listed (few_all 16 (take count a) xs l.few below);
    }

-- A name is below 16, and so is each of a list of names.
pub name_below : (names : List ℕ) (i : ℕ) → name_in names i < 16
unfolding name_in
name_below names i = omega arith

pub named_below : (names xs : List ℕ) → All (λ x. x < 16) (map (name_in names) xs)
named_below names xs = all_map (λ x. x < 16) (name_in names) xs (λ i h. name_below names i)

-- What the nodes of a table have, one node at a time.
module _ {A : Type 0} (own : Node → List A) where
  pub held_append : (l r : List ℕ) → held_in own (l ++ r) ≡ held_in own l ++ held_in own r
  unfolding held_in flat_map
  held_append [] r = refl
  held_append (w ∷ l) r = ap (λ (t : List A). own (node_of w) ++ t) (held_append l r) ∙ sym (append_assoc (own (node_of w)) (held_in own l) (held_in own r))

  pub held_one : (w : ℕ) → held_in own (w ∷ []) ≡ own (node_of w)
  unfolding held_in flat_map
  held_one w = append-nil (own (node_of w))

  pub held_more : (l : List ℕ) (i : ℕ) → i < length l → held_in own (take (i + 1) l) ≡ held_in own (take i l) ++ own (node_in l i)
  unfolding node_in
  held_more l i inside =
      rw (add-one i, take-suc l i 0 inside, held_append (take i l) (get_or l i 0 ∷ []), held_one (get_or l i 0))

  pub held_none : (l : List ℕ) → held_in own (take 0 l) ≡ []
  unfolding held_in flat_map
  held_none l = refl

-- A buffer with the mentions of the first i nodes of a table, by representatives.
pub record SoFar (own : Node → List ℕ) (reps nodes entry : List ℕ) (i : ℕ) (exit : List ℕ) (r : ℕ) : Type 0 where
  pub after : After entry 0 (map (name_in reps) (held_in own (take i nodes))) exit r
  pub listing : Listing exit r
  pub same : length exit ≡ length entry

module _ (own : Node → List ℕ) (reps nodes entry : List ℕ) where
  pub so_far_none : 16 ≤ length entry → SoFar own reps nodes entry 0 entry 0
  unfolding held_in flat_map all_mentioned
  so_far_none enough =
      record {
        after = record { listed = refl; most = omega arith };
        listing = record { length_enough = enough; count_most = omega arith; few = few_none 16 };
        same = refl;
      }

  pub so_far_more : (i : ℕ) (b c : List ℕ) (r q : ℕ) → i < length nodes → SoFar own reps nodes entry i b r
      → After b r (map (name_in reps) (own (node_in nodes i))) c q → length c ≡ length b → SoFar own reps nodes entry (i + 1) c q
  so_far_more i b c r q inside so next same =
      record {
        after = rw (held_more own nodes i inside, map-append) (after_again _ _ _ _ _ _ _ _ so.after next);
        listing = listing_after b c _ r q so.listing same (named_below reps (own (node_in nodes i))) next;
        same = same ∙ so.same;
      }
