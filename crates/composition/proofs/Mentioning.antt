-- Tables by first mention: where one is among the first tables of words, and what one more mention adds.
use Prim.Native.Nat.{ℕ, zero, suc, ◌+◌, ◌-◌, ◌≤◌, ◌<◌}
use mathlib.Core.Bool.{Bool, true, false, true≢false}
use mathlib.Core.List.{List, [], ◌∷◌, ◌++◌, append-nil, append_assoc}
use mathlib.Core.Path.{◌≡◌, refl, sym, ◌∙◌, ap, subst}
use native.Mathlib.Nat.{add-zero, add-suc}
use native.Mathlib.Numerals.{add-one}
use native.Mathlib.Omega.{arith}
use borrow.Author.Tests.{eqb-true, eq-eqb, ne_eqb, lt-ltb, le-ltb, ltb-true, ltb-false}
use denote.Bor.{Bor}
use denote.Param.Members.{Mut}
use lib.Dec.{eqb, ltb}
use lib.ListN.{length, get_or, set, length-append, get_or-append}
use lib.Seq.{get_or_at, get_or-set_same, get_or-set_other}
use Rattle.std.specs.Prelude.{Option, Some, None, MatchOption}
use Rattle.std.specs.declared.ops.Range.{Range}
use Rattle.std.specs.Option.{unwrap_or}
use Rattle.std.specs.Fn.{CalledAt}
use Rattle.std.specs.Iterator.{FindsItem}
use Rattle.std.proofs.iter.Yields.{nat_range_steps}
use Rattle.std.proofs.lemmas.Iterator.{first_from_Range}
use Rattle.states.proofs.Search.{below_cases}
use Rattle.derivation.specs.Tables.{most_tables, tabulate}
use Rattle.derivation.proofs.Buffers.{length_tabulate}
use Rattle.form.specs.Mentions.{is_in, place_in, mentioned, all_mentioned}
use Rattle.form.proofs.Mentions.{place_append, place_end, place_past, place_or_length, place_kept, place_mentioned, mentioned_in, mentioned_there, mentioned_new, in_append, all_in, all_get_d, all_append, grown}
use Rattle.composition.specs.declared.pool.Mention.{Mention}
use Rattle.composition.specs.declared.pool.Three.{Three}
use Rattle.composition.specs.Refinement.{Kept, Mentioned, ThreeMentioned, Listed, Merged}

module _ (f : ℕ → ℕ) where
  pub tabulate_split : (k m : ℕ) → tabulate (k + m) f ≡ tabulate k f ++ tabulate m (λ i. f (k + i))
  unfolding tabulate
  tabulate_split k zero = rw (add-zero k) (sym (append-nil (tabulate k f)))
  tabulate_split k (suc m) = rw (add-suc k m) (ap (λ l. l ++ f (k + m) ∷ []) (tabulate_split k m) ∙ append_assoc (tabulate k f) _ _)

  pub tabulate_next : (k : ℕ) → tabulate (k + 1) f ≡ tabulate k f ++ f k ∷ []
  unfolding tabulate
  tabulate_next k = rw (add-one k)

  module _ (x : ℕ) where
    -- One more that is not x.
    pub not_yet : (k : ℕ) → is_in (tabulate k f) x ≡ false → (f k ≡ x → ⊥) → is_in (tabulate (k + 1) f) x ≡ false
    unfolding is_in
    not_yet k out differs = rw (tabulate_next k, in_append (tabulate k f) (f k ∷ []) x, out, ne_eqb (f k) x differs)

    -- The first that is x is its place.
    pub found_at : (k count : ℕ) → k < count → is_in (tabulate k f) x ≡ false → f k ≡ x → place_in (tabulate count f) x ≡ k
    unfolding is_in
    found_at k count under out here =
        let parts : k + 1 + (count - (k + 1)) ≡ count = omega arith in
        let there : is_in (tabulate k f ++ f k ∷ []) x ≡ true = rw (in_append (tabulate k f) (f k ∷ []) x, out, eq-eqb (f k) x here) in
        ap (λ c. place_in (tabulate c f) x) (sym parts)
        ∙ ap (λ l. place_in l x) (tabulate_split (k + 1) (count - (k + 1)) ∙ ap (λ l. l ++ tabulate (count - (k + 1)) (λ i. f (k + 1 + i))) (tabulate_next k))
        ∙ place_append (tabulate k f ++ f k ∷ []) _ x there
        ∙ ap (λ y. place_in (tabulate k f ++ y ∷ []) x) here
        ∙ place_end (tabulate k f) x ∙ place_past (tabulate k f) x out ∙ length_tabulate f k

    pub nowhere : (count : ℕ) → is_in (tabulate count f) x ≡ false → place_in (tabulate count f) x ≡ count
    nowhere count out = place_past (tabulate count f) x out ∙ length_tabulate f count

    -- None of the first k is x.
    none_in : (k : ℕ) → ((i : ℕ) → 0 ≤ i → i < k → f i ≡ x → ⊥) → is_in (tabulate k f) x ≡ false
    unfolding is_in tabulate
    none_in zero out = refl
    none_in (suc k) out =
        ap (λ m. is_in (tabulate m f) x) (sym (add-one k))
        ∙ not_yet k (none_in k (λ i z l. out i z (omega arith))) (out k (omega arith) (omega arith))

    -- What `find` over a range gives, whose closure asks whether a table is x: the place of x.
    pub place_found : {F : Type 0} {g : Mut F (Bor ℕ × Unit {0}) Bool} {h : F} (count : ℕ) (u : Range ℕ) (r : Option ℕ)
        → FindsItem nat_range_steps g (record { start = 0; end = count }) h r u
        → ((i : ℕ) (b : Bool) (q : F) → CalledAt g h i b q → (q ≡ h) × (b ≡ eqb (f i) x)) → unwrap_or r count ≡ place_in (tabulate count f) x
    place_found count u r ran asked =
        found r (first_from_Range _ u _ r (λ i. f i ≡ x) (λ i. f i ≡ x → ⊥) ran (λ i q k. eqb-true _ _ (sym (asked i true q k).1))
        (λ i q k. ((asked i false q k).0, λ e. true≢false (sym (eq-eqb _ _ e) ∙ sym (asked i false q k).1))))
      where
        found : (r : Option ℕ) → MatchOption r ((i : ℕ) → 0 ≤ i → i < count → f i ≡ x → ⊥)
            (λ k. (0 ≤ k) × (k < count) × (f k ≡ x) × ((i : ℕ) → 0 ≤ i → i < k → f i ≡ x → ⊥))
            → unwrap_or r count ≡ place_in (tabulate count f) x
        found (Some k) at = sym (found_at k count at.1 (none_in k at.3) at.2)
        found None none = sym (nowhere count (none_in count none))

    -- A place below the count says that x is there; the count, that it is not.
    pub is_there_lem : (count : ℕ) → place_in (tabulate count f) x < count → is_in (tabulate count f) x ≡ true
    is_there_lem count under =
        sym (place_or_length (tabulate count f) x) ∙ rw (length_tabulate f count) (lt-ltb _ count under)

    pub is_new : (count : ℕ) → count ≤ place_in (tabulate count f) x → is_in (tabulate count f) x ≡ false
    is_new count over =
        sym (place_or_length (tabulate count f) x) ∙ rw (length_tabulate f count) (le-ltb _ count over)

-- What is there stays there.
pub more_many : (seen xs : List ℕ) → most_tables < length seen → most_tables < length (all_mentioned seen xs)
more_many seen xs many = omega (arith, ap length (grown seen xs).1, length-append seen (grown seen xs).0)

-- A mention of what is there, and of what is new.
module _ (f : ℕ → ℕ) (x count : ℕ) where
  pub mention_there : (place : ℕ) → place ≡ place_in (tabulate count f) x → place < count
      → Mentioned (tabulate count f) (tabulate count f) x (record { place = place; count = count })
  mention_there place is under =
      let there = is_there_lem f x count (rw (← is) under) in
      let same = mentioned_there (tabulate count f) x there in
      record { place_is = λ l. is; kept = (λ l. sym same, λ l. omega (arith, ap length same, length_tabulate f count)) }

  pub mention_new : (g : ℕ → ℕ) (place : ℕ) → place ≡ place_in (tabulate count f) x → count ≤ place
      → (count < most_tables → tabulate (count + 1) g ≡ tabulate count f ++ x ∷ [])
      → Mentioned (tabulate count f) (tabulate (count + 1) g) x (record { place = place; count = count + 1 })
  mention_new g place is over stored =
      let new = mentioned_new (tabulate count f) x (is_new f x count (rw (← is) over)) in
      record {
        place_is = λ l. is;
        kept = (
          λ l. stored (omega arith) ∙ sym new,
          λ l. omega (arith, ap length new, length-append (tabulate count f) (x ∷ []), length_tabulate f count),
        );
      }

-- Where there are more than 16, a mention counts no more.
pub mention_over : (seen after : List ℕ) (x place count : ℕ) → most_tables < count → most_tables < length seen
    → Mentioned seen after x (record { place = place; count = count })
unfolding all_mentioned
mention_over seen after x place count over many = record {
  place_is = λ l. absurd (omega arith);
  kept = (λ l. absurd (omega arith), λ l. more_many seen (x ∷ []) many);
}

-- Values below the count that stay, and the next one.
tabulate_same : (f g : ℕ → ℕ) (k : ℕ) → ((i : ℕ) → i < k → g i ≡ f i) → tabulate k g ≡ tabulate k f
unfolding tabulate
tabulate_same f g zero same = refl
tabulate_same f g (suc k) same = (λ i. tabulate_same f g k (λ j l. same j (omega arith)) i ++ same k (omega arith) i ∷ [])

pub tabulate_stored : (f g : ℕ → ℕ) (x count : ℕ) → ((i : ℕ) → i < count → g i ≡ f i) → g count ≡ x
    → tabulate (count + 1) g ≡ tabulate count f ++ x ∷ []
tabulate_stored f g x count same new = tabulate_next g count ∙ (λ i. tabulate_same f g count same i ++ new i ∷ [])

pub mentioned_by : (before after : List ℕ) (m : Mention) (x y : ℕ) → x ≡ y → Mentioned before after x m → Mentioned before after y m
mentioned_by before after m x y e so = subst (λ v. Mentioned before after v m) e so

-- What is kept of a list that is known by another name.
pub mentioned_from : (held seen after : List ℕ) (x count : ℕ) (m : Mention) → Kept held count seen → count ≤ most_tables
    → Mentioned held after x m → Mentioned seen after x m
mentioned_from held seen after x count m k room so = subst (λ l. Mentioned l after x m) (k.0 room) so

-- Mentions one after the other.
pub listed_none : (before names : List ℕ) → Listed before [] before names
unfolding all_mentioned
listed_none before names = record { listed = refl; named = λ i l. absurd (omega arith) }

module _ (before xs after names : List ℕ) (so : Listed before xs after names) (x place i : ℕ) (is-i : length xs ≡ i) (fits : i < length names)
    (is-place : place ≡ place_in after x) where
  pub listed_more : Listed before (xs ++ x ∷ []) (mentioned after x) (set names i place)
  unfolding all_mentioned
  listed_more = record {
    listed = ap (λ l. mentioned l x) so.listed ∙ sym (all_append before xs (x ∷ []));
    named = λ j l. below_cases Here i j (omega (arith, length-append xs (x ∷ []))) last (earlier j);
  }
    where
      Here : ℕ → Type 0
      Here j = get_or (set names i place) j 0 ≡ place_in (mentioned after x) (get_or (xs ++ x ∷ []) j 0)

      last : Here i
      last =
          get_or-set_same names i place 0 fits ∙ is-place ∙ sym (place_mentioned after x)
          ∙ ap (place_in (mentioned after x)) (sym (get_or_at xs x [] 0 i is-i))

      earlier : (j : ℕ) → j < i → Here j
      earlier j l =
          let y = get_or xs j 0 in
          let there : is_in after y ≡ true =
          ap (λ m. is_in m y) so.listed ∙ all_in before xs y (all_get_d (λ z. is_in xs z ≡ true) xs (λ z h. h) j (omega arith))
          in
          get_or-set_other names i j place 0 (omega arith) ∙ so.named j (omega arith) ∙ sym (place_kept after (x ∷ []) y there)
          ∙ ap (place_in (mentioned after x)) (sym (get_or-append xs (x ∷ []) 0 j (omega arith)))

-- Once there are more than 16, there are more than 16 at the end.
more_stay : (before xs rest : List ℕ) (x : ℕ) → most_tables < length (mentioned (all_mentioned before xs) x)
    → most_tables < length (all_mentioned before ((xs ++ x ∷ []) ++ rest))
unfolding all_mentioned
more_stay before xs rest x many =
    rw (all_append before (xs ++ x ∷ []) rest, all_append before xs (x ∷ [])) (more_many (mentioned (all_mentioned before xs) x) rest many)

-- The values of f are mentioned one after the other, as long as there is room.
module _ (before : List ℕ) (f : ℕ → ℕ) (i : ℕ) (after names : List ℕ) (so : Listed before (tabulate i f) after names) (m : Mention)
    (after' : List ℕ) (next : Mentioned after after' (f i) m) where
  pub listed_next : m.count ≤ most_tables → i < length names → Listed before (tabulate (i + 1) f) after' (set names i m.place)
  listed_next room fits =
      rw (tabulate_next f i, next.kept.0 room) (listed_more before (tabulate i f) after names so (f i) m.place i (length_tabulate f i) fits (next.place_is room))

  pub merged_over : most_tables < m.count → (tables : ℕ) → i < tables → (left names' : List ℕ) → Merged before (tabulate tables f) left m.count names'
  merged_over many tables under left names' = record {
    within = λ room. absurd (omega arith);
    over = λ l.
        let parts : i + 1 + (tables - (i + 1)) ≡ tables = omega arith in
        let all : tabulate tables f ≡ (tabulate i f ++ f i ∷ []) ++ tabulate (tables - (i + 1)) (λ k. f (i + 1 + k)) =
        ap (λ k. tabulate k f) (sym parts) ∙ tabulate_split f (i + 1) (tables - (i + 1))
        ∙ ap (λ l. l ++ tabulate (tables - (i + 1)) (λ k. f (i + 1 + k))) (tabulate_next f i)
        in
        rw all (more_stay before (tabulate i f) _ (f i) (rw (← so.listed) (next.kept.1 many)));
  }

pub merged_done : (before xs after names : List ℕ) (count : ℕ) → count ≤ most_tables → Listed before xs after names → Merged before xs after count names
merged_done before xs after names count room so = record { within = λ l. so; over = λ l. absurd (omega arith) }

pub merged_from : (held seen xs after names : List ℕ) (entered count : ℕ) → Kept held entered seen → entered ≤ most_tables
    → Merged held xs after count names → Merged seen xs after count names
merged_from held seen xs after names entered count k room m = subst (λ l. Merged l xs after count names) (k.0 room) m

pub merged_full : (seen xs after names : List ℕ) (count : ℕ) → most_tables < count → most_tables < length seen → Merged seen xs after count names
merged_full seen xs after names count over many = record { within = λ l. absurd (omega arith); over = λ l. more_many seen xs many }

-- If there is room at the end, there was room all the time.
pub room_before : (before xs after held : List ℕ) (count earlier : ℕ) → Kept held earlier before
    → (count ≤ most_tables → after ≡ all_mentioned before xs) → length after ≡ count → count ≤ most_tables → earlier ≤ most_tables
room_before before xs after held count earlier k listed long room = by (ltb most_tables earlier) refl
  where
    by : (b : Bool) → ltb most_tables earlier ≡ b → earlier ≤ most_tables
    by true over =
        let many = more_many before xs (k.1 (ltb-true most_tables earlier over)) in absurd (omega (arith, ap length (listed room), many))
    by false l = ltb-false most_tables earlier l

-- Three mentions one after the other.
module _ (seen : List ℕ) (r g q : ℕ) (f s t : Mention) (h₁ h₂ h₃ : List ℕ) (first : Mentioned seen h₁ r f) (second : Mentioned (mentioned seen r) h₂ g s)
    (third : Mentioned (mentioned (mentioned seen r) g) h₃ q t) (long₂ : length h₂ ≡ s.count) (long₃ : length h₃ ≡ t.count) where
  room₂ : t.count ≤ most_tables → s.count ≤ most_tables
  unfolding all_mentioned
  room₂ room = room_before _ (q ∷ []) h₃ h₂ t.count s.count second.kept third.kept.0 long₃ room

  room₁ : t.count ≤ most_tables → f.count ≤ most_tables
  unfolding all_mentioned
  room₁ room = room_before _ (g ∷ []) h₂ h₁ s.count f.count first.kept second.kept.0 long₂ (room₂ room)

  pub three_mentioned : ThreeMentioned seen h₃ r g q (record { r = f.place; g = s.place; q = t.place; count = t.count })
  unfolding all_mentioned
  three_mentioned = record {
    kept = third.kept;
    R-is = λ room.
        first.place_is (room₁ room) ∙ sym (place_mentioned seen r)
        ∙ sym (place_kept (mentioned seen r) (g ∷ q ∷ []) r (mentioned_in seen r)) ∙ ap (λ l. place_in l r) (sym (third.kept.0 room));
    G-is = λ room.
        second.place_is (room₂ room) ∙ sym (place_mentioned (mentioned seen r) g)
        ∙ sym (place_kept (mentioned (mentioned seen r) g) (q ∷ []) g (mentioned_in (mentioned seen r) g)) ∙ ap (λ l. place_in l g) (sym (third.kept.0 room));
    Q-is = λ room. third.place_is room ∙ sym (place_mentioned _ q) ∙ ap (λ l. place_in l q) (sym (third.kept.0 room));
  }

pub three_by : (before after : List ℕ) (r g g' q q' : ℕ) (m : Three) → g ≡ g' → q ≡ q' → ThreeMentioned before after r g q m
    → ThreeMentioned before after r g' q' m
three_by before after r g g' q q' m e e' so = rw (← e, ← e') so
