-- The places of tables in the whole list, from those at the time of their mention: later mentions keep them.
use Prim.Native.Nat.{ℕ, ◌≤◌}
use mathlib.Core.Bool.{true}
use mathlib.Core.List.{List, [], ◌++◌}
use mathlib.Core.Path.{◌≡◌, refl, sym, ◌∙◌, ap}
use borrow.Author.Tests.{eq-eqb}
use lib.Dec.{eqb}
use lib.ListN.{length, get_or}
use Rattle.states.proofs.Search.{or_left, or_right}
use Rattle.derivation.specs.Tables.{most_tables}
use Rattle.form.specs.Mentions.{is_in, place_in, mentioned, all_mentioned}
use Rattle.form.proofs.Mentions.{in_append, place_kept, all_in, all_get_d, all_append}
use Rattle.composition.specs.declared.pool.Mention.{Mention}
use Rattle.composition.specs.declared.pool.Three.{Three}
use Rattle.composition.specs.declared.numbering.SideNumbers.{SideNumbers}
use Rattle.composition.specs.Refinement.{Kept, Mentioned, ThreeMentioned, Merged, NamedIn, SetsNumbered, three_of, ThreeIn, SideNumbered, RelationsNumbered}
use Rattle.composition.proofs.Mentioning.{room_before}

pub kept_merged : (before xs after : List ℕ) (count : ℕ) (names : List ℕ) → Merged before xs after count names → Kept after count (all_mentioned before xs)
kept_merged before xs after count names m = (λ room. (m.within room).listed, m.over)

-- What was mentioned keeps its place in a list that goes on from there.
module _ (before xs after more held : List ℕ) (listed : after ≡ all_mentioned before xs) (goes_on : held ≡ all_mentioned after more) where
  pub same_place : (x : ℕ) → is_in xs x ≡ true → place_in held x ≡ place_in after x
  same_place x there =
      ap (λ l. place_in l x) goes_on ∙ place_kept after more x (ap (λ l. is_in l x) listed ∙ all_in before xs x there)

  pub named_later : (names : List ℕ) → NamedIn after xs names → NamedIn held xs names
  named_later names named i l = named i l ∙ sym (same_place (get_or xs i 0) (all_get_d (λ x. is_in xs x ≡ true) xs (λ x h. h) i l))

module _ (p : ℕ) (xs ys h₀ h₁ h₂ : List ℕ) (one : Mention) (some count : ℕ) (names₁ names₂ : List ℕ)
    (first : Mentioned [] h₀ p one) (second : Merged (mentioned [] p) xs h₁ some names₁)
    (third : Merged (all_mentioned (mentioned [] p) xs) ys h₂ count names₂) (long : length h₂ ≡ count) where
  pub sets_numbered : SetsNumbered p xs ys h₂ (record { count = count; first = names₁; second = names₂ })
  unfolding mentioned is_in
  sets_numbered = record {
    kept = kept_merged _ ys h₂ count names₂ third;
    first_named = λ room.
        let enough = room_before _ ys h₂ h₁ count some (kept_merged _ xs h₁ some names₁ second) (λ l. (third.within l).listed) long room in
        named_later _ xs h₁ ys h₂ (second.within enough).listed ((third.within room).listed ∙ ap (λ l. all_mentioned l ys) (sym (second.within enough).listed))
        names₁ (second.within enough).named;
    second_named = λ room. (third.within room).named;
  }

-- The names of an R, a G and a Q, in a list that goes on from there.
module _ (before zs after more held : List ℕ) (r g q : ℕ) (listed : after ≡ all_mentioned before (three_of r g q ++ zs))
    (goes_on : held ≡ all_mentioned after more) (m : Three) where
  pub three_later : ThreeIn after r g q m → ThreeIn held r g q m
  unfolding is_in
  three_later three = record {
    R-is = three.R-is ∙ sym (kept_place r (or_left _ _ (eq-eqb r r refl)));
    G-is = three.G-is ∙ sym (kept_place g (or_right (eqb r g) _ (or_left _ _ (eq-eqb g g refl))));
    Q-is = three.Q-is ∙ sym (kept_place q (or_right (eqb r q) _ (or_right (eqb g q) _ (or_left _ _ (eq-eqb q q refl)))));
  }
    where
      kept_place : (x : ℕ) → is_in (three_of r g q) x ≡ true → place_in held x ≡ place_in after x
      kept_place x there = same_place before _ after more held listed goes_on x (in_append (three_of r g q) zs x ∙ or_left _ _ there)

pub three_in : (before after : List ℕ) (r g q : ℕ) (m : Three) → ThreeMentioned before after r g q m → m.count ≤ most_tables → ThreeIn after r g q m
three_in before after r g q m three room = record { R-is = three.R-is room; G-is = three.G-is room; Q-is = three.Q-is room }

module _ (seen : List ℕ) (r g q : ℕ) (xs h₁ h₂ : List ℕ) (node : Three) (count : ℕ) (names : List ℕ) (three : ThreeMentioned seen h₁ r g q node)
    (rest : Merged (all_mentioned seen (three_of r g q)) xs h₂ count names) (long : length h₂ ≡ count) where
  pub side_numbered : SideNumbered seen r g q xs h₂ (record { node = node; names = names; count = count })
  side_numbered = record {
    kept = kept_merged _ xs h₂ count names rest;
    node_named = λ room.
        let enough = room_before _ xs h₂ h₁ count node.count three.kept (λ l. (rest.within l).listed) long room in
        three_later seen [] h₁ xs h₂ r g q (three.kept.0 enough) ((rest.within room).listed ∙ ap (λ l. all_mentioned l xs) (sym (three.kept.0 enough)))
        node (three_in seen h₁ r g q node three enough);
    named = λ room. (rest.within room).named;
  }

-- The root's three, then both sides.
module _ (r g q lr lg lq : ℕ) (xs : List ℕ) (rr rg rq : ℕ) (ys h₀ h₁ h₂ : List ℕ) (root : Three) (left right : SideNumbers)
    (three : ThreeMentioned [] h₀ r g q root) (a : SideNumbered (all_mentioned [] (three_of r g q)) lr lg lq xs h₁ left)
    (b : SideNumbered (all_mentioned (all_mentioned (all_mentioned [] (three_of r g q)) (three_of lr lg lq)) xs) rr rg rq ys h₂ right)
    (long₁ : length h₁ ≡ left.count) (long₂ : length h₂ ≡ right.count) where
  -- What comes after the root's three, and after the first side.
  abbrev first : List ℕ
  first = three_of lr lg lq ++ xs

  abbrev second : List ℕ
  second = three_of rr rg rq ++ ys

  abbrev begun : List ℕ
  begun = all_mentioned [] (three_of r g q)

  after_first : left.count ≤ most_tables → h₁ ≡ all_mentioned begun first
  after_first room = a.kept.0 room ∙ sym (all_append begun (three_of lr lg lq) xs)

  after_second : right.count ≤ most_tables → h₂ ≡ all_mentioned (all_mentioned (all_mentioned begun (three_of lr lg lq)) xs) second
  after_second room = b.kept.0 room ∙ sym (all_append _ (three_of rr rg rq) ys)

  room₁ : right.count ≤ most_tables → left.count ≤ most_tables
  room₁ room = room_before _ second h₂ h₁ right.count left.count a.kept after_second long₂ room

  room₀ : right.count ≤ most_tables → root.count ≤ most_tables
  room₀ room = room_before begun first h₁ h₀ left.count root.count three.kept after_first long₁ (room₁ room)

  from_first : right.count ≤ most_tables → h₂ ≡ all_mentioned h₁ second
  from_first room = after_second room ∙ ap (λ l. all_mentioned l second) (sym (a.kept.0 (room₁ room)))

  from_root : right.count ≤ most_tables → h₂ ≡ all_mentioned h₀ (first ++ second)
  from_root room =
      from_first room ∙ ap (λ l. all_mentioned l second) (after_first (room₁ room)) ∙ sym (all_append begun first second)
      ∙ ap (λ l. all_mentioned l (first ++ second)) (sym (three.kept.0 (room₀ room)))

  pub relations_numbered : RelationsNumbered r g q lr lg lq xs rr rg rq ys h₂ (record { root = root; left = left; right = right })
  relations_numbered = record {
    kept = b.kept;
    root_named = λ room.
        three_later [] [] h₀ (first ++ second) h₂ r g q (three.kept.0 (room₀ room)) (from_root room) root (three_in [] h₀ r g q root three (room₀ room));
    left_named = λ room.
        three_later begun xs h₁ second h₂ lr lg lq (after_first (room₁ room)) (from_first room) left.node (a.node_named (room₁ room));
    first_named = λ room. named_later _ xs h₁ second h₂ (a.kept.0 (room₁ room)) (from_first room) left.names (a.named (room₁ room));
    right_named = b.node_named;
    second_named = b.named;
  }
