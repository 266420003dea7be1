-- The states of a set one by one, the least first. Without its least state a set has fewer members.
use Prim.Native.Nat.{ℕ, ◌*◌, ◌<◌, ◌≤◌}
use native.Mathlib.Decide.{dec_lt}
use native.Mathlib.Omega.{arith}
use mathlib.Core.Path.{◌≡◌, refl, sym, ap, ◌∙◌}
use mathlib.Core.Logic.{◌⊎◌, ⊎_elim, inl, inr}
use mathlib.Core.Bool.{Bool, true, false, not, ◌&&◌, ◌||◌, and-false, and-true, and_assoc, or-false, or_assoc, true≢false}
use mathlib.Core.List.{List}
use lib.ListN.{length}
use lib.Dec.{ltb, eqb}
use borrow.Author.Tests.{eqb-true, eq-eqb, ne_eqb, lt-ltb, ltb-true, not-false}
use Rattle.states.specs.declared.StateSet.{StateSet}
use Rattle.states.specs.Search.{implies, all, any, least_where}
use Rattle.states.specs.Sets.{set_words, capacity, mem, has, entry_at}
use Rattle.states.specs.Relations.{rel}
use Rattle.states.proofs.Search.{and_left, and_right, and_both, or_left, or_right, or_cases, implies_intro, implies_at, bool_ext, turned, not_true_false, true_or_false, all_intro, all_at, all_cong, all_and, any_intro, any_true, any_cong, any_none}
use Rattle.states.proofs.Least.{IsLeast, least_is}
use Rattle.states.proofs.Words.{mem_below}
use Rattle.states.proofs.Rows.{rel_row, row_long}
use Rattle.states.proofs.Reach.{count, count_more}

-- Every member of a set is below its capacity.
pub has_below : (set : StateSet) (s : ℕ) → has set s ≡ true → s < capacity
unfolding has
has_below set s h = mem_below _ s h

-- k is in p, and q is p without it.
pub record Taken (p q : ℕ → Bool) (k : ℕ) : Type 0 where
  pub there : p k ≡ true
  pub rest : (s : ℕ) → q s ≡ (p s && not (eqb k s))

-- The least member is the only one with no member below it.
first_taken : (n : ℕ) (p q : ℕ → Bool) (first : ℕ) → IsLeast n p first → ((s : ℕ) → q s ≡ (p s && any s p)) → Taken p q first
first_taken n p q first least above-one = record { there = least.there; rest = λ s. above-one s ∙ by s (true_or_false (p s)) }
  where
    at : (s : ℕ) → p s ≡ true → Dec (s < first) → Dec (first < s) → any s p ≡ not (eqb first s)
    at s e (yes l) m = absurd (true≢false (sym e ∙ least.less s l))
    at s e (no l) (yes m) = rw (ne_eqb first s (omega arith)) (any_intro s _ first m least.there)
    at s e (no l) (no m) = rw (eq-eqb first s (omega arith)) (any_none s _ (λ t k. least.less t (omega arith)))

    by : (s : ℕ) → (p s ≡ true) ⊎ (p s ≡ false) → (p s && any s p) ≡ (p s && not (eqb first s))
    by s (inl e) = ap (λ b. p s && b) (at s e (dec_lt s first) (dec_lt first s))
    by s (inr e) = rw e

module _ (p q : ℕ → Bool) (k : ℕ) (one : Taken p q k) where
  kept : (s : ℕ) → q s ≡ true → p s ≡ true
  kept s e = and_left (p s) _ (sym (one.rest s) ∙ e)

  gone : q k ≡ false
  gone = one.rest k ∙ rw (eq-eqb k k refl) (and-false (p k))

  other : (s : ℕ) → p s ≡ true → (k ≡ s) ⊎ (q s ≡ true)
  other s e = at (true_or_false (eqb k s))
    where
      at : (eqb k s ≡ true) ⊎ (eqb k s ≡ false) → (k ≡ s) ⊎ (q s ≡ true)
      at (inl h) = inl (eqb-true k s h)
      at (inr h) = inr (one.rest s ∙ rw (e, h))

  -- The measure of a loop that takes the states out.
  fewer : (n : ℕ) → k < n → count n q < count n p
  fewer n l = count_more n q p kept k l gone one.there

  -- The invariant of a loop that joins what it finds at each state.
  pub any_taken : (n : ℕ) → k < n → (f : ℕ → Bool) → (f k || any n (λ s. q s && f s)) ≡ any n (λ s. p s && f s)
  any_taken n l f =
      bool_ext _ _ (λ h. ⊎_elim (λ e. any_intro n _ k l (and_both _ _ one.there e)) (λ e. there (any_true n _ e)) (or_cases (f k) _ h))
      (λ h. back (any_true n _ h))
    where
      there : (s : ℕ) × (s < n) × ((q s && f s) ≡ true) → any n (λ s. p s && f s) ≡ true
      there w = any_intro n _ w.0 w.1 (and_both _ _ (kept w.0 (and_left (q w.0) _ w.2)) (and_right (q w.0) _ w.2))

      back : (s : ℕ) × (s < n) × ((p s && f s) ≡ true) → (f k || any n (λ s. q s && f s)) ≡ true
      back w =
          let at = and_right (p w.0) (f w.0) w.2 in
          ⊎_elim (λ e. or_left (f k) _ (rw e at)) (λ e. or_right (f k) _ (any_intro n _ w.0 w.1 (and_both _ _ e at)))
          (other w.0 (and_left (p w.0) _ w.2))

  -- The invariant of a loop that tests f at each state.
  pub all_taken : (n : ℕ) → k < n → (f : ℕ → Bool) → (f k && all n (λ s. implies (q s) (f s))) ≡ all n (λ s. implies (p s) (f s))
  all_taken n l f = bool_ext _ _ (λ h. all_intro n _ (λ s m. implies_intro _ _ (λ e. at h s m (other s e)))) back
    where
      at : (f k && all n (λ s. implies (q s) (f s))) ≡ true → (s : ℕ) → s < n → (k ≡ s) ⊎ (q s ≡ true) → f s ≡ true
      at h s m (inl e) = rw (← e) (and_left (f k) _ h)
      at h s m (inr e) = implies_at _ _ (all_at n _ (and_right (f k) _ h) s m) e

      back : all n (λ s. implies (p s) (f s)) ≡ true → (f k && all n (λ s. implies (q s) (f s))) ≡ true
      back h =
          and_both _ _ (implies_at _ _ (all_at n _ h k l) one.there)
          (all_intro n _ (λ s m. implies_intro _ _ (λ e. implies_at _ _ (all_at n _ h s m) (kept s e))))

-- One round of a loop that takes out the least state: that state is removed, and the set has fewer members.
pub record LeastTaken (set left : StateSet) (first : ℕ) : Type 0 where
  pub taken : Taken (has set) (has left) first
  pub less : count capacity (has left) < count capacity (has set)

-- What follows from the answers of `is_empty` and `least`: while the set is not empty it has a least state, and at the end it has none.
module _ (set : StateSet) (empty : Bool) (asked : empty ≡ not (any capacity (has set))) where
  pub least_of : not empty ≡ true → (first : ℕ) → first ≡ least_where capacity (has set) → IsLeast capacity (has set) first
  least_of more first is = rw is (least_is capacity (has set) (turned _ _ asked ∙ more))

  pub take_least : not empty ≡ true → (first : ℕ) → first ≡ least_where capacity (has set)
      → (left : StateSet) → ((s : ℕ) → has left s ≡ (has set s && any s (has set))) → LeastTaken set left first
  take_least more first is left above-one =
      let least = least_of more first is in
      let one = first_taken capacity (has set) (has left) first least above-one in
      record { taken = one; less = fewer _ _ _ one capacity least.below }

  pub none_in : empty ≡ true → (s : ℕ) → has set s ≡ false
  none_in e s =
      not_true_false _ (λ h. true≢false (sym (any_intro capacity (has set) s (has_below set s h) h) ∙ turned _ _ asked ∙ ap not e))

  pub none_left : not empty ≡ false → (s : ℕ) → has set s ≡ false
  none_left done = none_in (not-false empty done)

-- The states of a set that are below n, with which a loop over them starts.
module _ (n : ℕ) (set from : StateSet) (start : (s : ℕ) → has from s ≡ (has set s && (ltb s capacity && ltb s n))) where
  pub start_below : (s : ℕ) → has from s ≡ true → s < n
  start_below s e = ltb-true s n (and_right (ltb s capacity) _ (and_right (has set s) _ (sym (start s) ∙ e)))

  pub start_same : (s : ℕ) → s < n → has from s ≡ has set s
  start_same s l =
      start s ∙ bool_ext _ _ (and_left (has set s) _) (λ h. and_both _ _ h (and_both _ _ (lt-ltb s capacity (has_below set s h)) (lt-ltb s n l)))

-- The invariant of a loop over the members: f was tested at the states taken out, and is still to be tested at those left.
pub record Passed (n : ℕ) (f : ℕ → Bool) (from rest : StateSet) (held : Bool) : Type 0 where
  pub low : (s : ℕ) → has rest s ≡ true → s < n
  pub same : (held && all n (λ s. implies (has rest s) (f s))) ≡ all n (λ s. implies (has from s) (f s))

module _ (n : ℕ) (f : ℕ → Bool) (from : StateSet) where
  pub passed_none : ((s : ℕ) → has from s ≡ true → s < n) → Passed n f from from true
  passed_none low = record { low = low; same = refl }

  pub passed_more : (rest left : StateSet) (held now : Bool) (k : ℕ) → Taken (has rest) (has left) k → now ≡ f k
      → Passed n f from rest held → Passed n f from left (held && now)
  passed_more rest left held now k one asked old = record {
    low = λ s e. old.low s (and_left (has rest s) _ (sym (one.rest s) ∙ e));
    same = and_assoc held now _ ∙ ap (λ b. held && (b && all n (λ s. implies (has left s) (f s)))) asked
        ∙ ap (λ b. held && b) (all_taken (has rest) (has left) k one n (old.low k one.there) f) ∙ old.same;
  }

  -- The same if several states are taken out and f is tested at all of them.
  pub passed_part : (rest left : StateSet) (held now : Bool) (g : ℕ → Bool) → ((s : ℕ) → has left s ≡ (has rest s && not (g s)))
      → now ≡ all n (λ s. implies (has rest s && g s) (f s)) → Passed n f from rest held → Passed n f from left (held && now)
  unfolding implies
  passed_part rest left held now g without asked old = record {
    low = λ s e. old.low s (and_left (has rest s) _ (sym (without s) ∙ e));
    same = and_assoc held now _ ∙ ap (λ b. held && (b && all n (λ s. implies (has left s) (f s)))) asked ∙ ap (λ b. held && b) parts ∙ old.same;
  }
    where
      split : (p h b : Bool) → (implies (p && h) b && implies (p && not h) b) ≡ implies p b
      split true true b = and-true b
      split true false b = refl
      split false h b = refl

      parts : (all n (λ s. implies (has rest s && g s) (f s)) && all n (λ s. implies (has left s) (f s))) ≡ all n (λ s. implies (has rest s) (f s))
      parts = sym (all_and n _ _) ∙ all_cong n _ _ (λ s l. rw (without s) (split (has rest s) (g s) (f s)))

  pub passed_all : (rest : StateSet) (held : Bool) → ((s : ℕ) → has rest s ≡ false) → Passed n f from rest held → held ≡ all n (λ s. implies (has from s) (f s))
  unfolding implies
  passed_all rest held none done =
      sym (and-true held) ∙ ap (λ b. held && b) (sym (all_intro n (λ s. implies (has rest s) (f s)) (λ s l. rw (none s)))) ∙ done.same

-- The invariant of `image`: `ends`, joined with the rows of the states left in the set, has the ends of the rows of all its states.
pub record Gathered (n : ℕ) (rows : List ℕ) (from rest ends : StateSet) : Type 0 where
  pub low : (s : ℕ) → has rest s ≡ true → s < n
  pub same : (t : ℕ) → (has ends t || any n (λ s. has rest s && mem (entry_at rows s) t)) ≡ any n (λ s. has from s && mem (entry_at rows s) t)

module _ (n : ℕ) (rows : List ℕ) (from : StateSet) where
  pub gathered_none : (ends : StateSet) → ((s : ℕ) → has from s ≡ true → s < n) → ((t : ℕ) → has ends t ≡ false) → Gathered n rows from from ends
  gathered_none ends low none = record { low = low; same = λ t. rw (none t) }

  pub gathered_more : (rest ends left more : StateSet) (k : ℕ) → Taken (has rest) (has left) k → ((t : ℕ) → has more t ≡ (has ends t || mem (entry_at rows k) t))
      → Gathered n rows from rest ends → Gathered n rows from left more
  gathered_more rest ends left more k one joined old = record {
    low = λ s e. old.low s (and_left (has rest s) _ (sym (one.rest s) ∙ e));
    same = λ t.
        ap (λ b. b || any n (λ s. has left s && mem (entry_at rows s) t)) (joined t) ∙ or_assoc (has ends t) (mem (entry_at rows k) t) _
        ∙ ap (λ b. has ends t || b) (any_taken (has rest) (has left) k one n (old.low k one.there) (λ s. mem (entry_at rows s) t))
        ∙ old.same t;
  }

-- Once all states that have one of the k rows are taken out, the states found are the ends of the pairs that start in the set.
module _ (n k : ℕ) (rows : List ℕ) (set from : StateSet) (most : k ≤ n) (enough : (s : ℕ) → s < capacity → s < n → set_words * s < length rows → s < k)
    (start : (s : ℕ) → has from s ≡ (has set s && (ltb s capacity && ltb s k))) where
  pub gathered_all : (rest ends found : StateSet) → ((s : ℕ) → has rest s ≡ false) → Gathered k rows from rest ends
      → ((t : ℕ) → has found t ≡ (has ends t && (ltb t capacity && ltb t n))) → (t : ℕ) → has found t ≡ any n (λ s. has set s && rel n rows s t)
  gathered_all rest ends found none done masked t =
      masked t ∙ ap (λ b. b && (ltb t capacity && ltb t n)) ends_are ∙ any_and k _ _
      ∙ any_cong k _ _ (λ s l. and_assoc (has from s) (mem (entry_at rows s) t) (ltb t capacity && ltb t n) ∙ ap (λ b. has from s && b) (rel_row n rows s t (omega arith)))
      ∙ bool_ext _ _ (λ h. there (any_true k _ h)) (λ h. back (any_true n _ h))
    where
      none_left : any k (λ s. has rest s && mem (entry_at rows s) t) ≡ false
      none_left = any_none k _ (λ s l. rw (none s))

      ends_are : has ends t ≡ any k (λ s. has from s && mem (entry_at rows s) t)
      ends_are = sym (or-false (has ends t)) ∙ ap (λ b. has ends t || b) (sym none_left) ∙ done.same t

      any_and : (k : ℕ) (p : ℕ → Bool) (b : Bool) → (any k p && b) ≡ any k (λ s. p s && b)
      any_and k p true = and-true (any k p) ∙ any_cong k _ _ (λ s l. sym (and-true (p s)))
      any_and k p false = and-false (any k p) ∙ sym (any_none k _ (λ s l. and-false (p s)))

      there : (s : ℕ) × (s < k) × ((has from s && rel n rows s t) ≡ true) → any n (λ s. has set s && rel n rows s t) ≡ true
      there w =
          let in_set_lem = and_left (has set w.0) _ (sym (start w.0) ∙ and_left (has from w.0) _ w.2) in
          any_intro n _ w.0 (omega (arith, w.1)) (and_both _ _ in_set_lem (and_right (has from w.0) _ w.2))

      back : (s : ℕ) × (s < n) × ((has set s && rel n rows s t) ≡ true) → any k (λ s. has from s && rel n rows s t) ≡ true
      back w =
          let in_set_lem = and_left (has set w.0) _ w.2 in
          let pair = and_right (has set w.0) _ w.2 in
          let small = has_below set w.0 in_set_lem in
          let low = enough w.0 small w.1 (row_long n rows w.0 t pair) in
          any_intro k _ w.0 low (and_both _ _ (start w.0 ∙ and_both _ _ in_set_lem (and_both _ _ (lt-ltb w.0 capacity small) (lt-ltb w.0 k low))) pair)
