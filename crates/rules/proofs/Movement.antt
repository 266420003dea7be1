-- What R moves: a variable is moved if some row of R, from a state of P, has a state that differs in it.
use Prim.Native.Nat.{ℕ, ◌%◌, ◌^◌, ◌≤◌, ◌<◌}
use native.Mathlib.Nat.{zero-div, le_refl}
use native.Mathlib.Decide.{dec_lt}
use native.Mathlib.Omega.{arith}
use mathlib.Core.Path.{◌≡◌, refl, sym, ap, ◌∙◌, fun_ext}
use mathlib.Core.Logic.{⊎_elim}
use mathlib.Core.Bool.{Bool, true, false, not, ◌&&◌, ◌||◌, and-false, true≢false}
use mathlib.Core.List.{List}
use lib.Dec.{leb, ltb, eqb}
use lib.IntN.{ℤ, pos, negsuc}
use borrow.Author.Tests.{lt-ltb, le-ltb, le-leb, eqb-true}
use Rattle.states.specs.Search.{implies, all, any, must, holds}
use Rattle.states.specs.Sets.{capacity, has}
use Rattle.states.specs.declared.StateSet.{StateSet}
use Rattle.states.proofs.Search.{turned, and_left, and_right, and_both, or_cases, not_true_false, all_cong, all_not, any_cong, any_none, any_at, holds_must}
use Rattle.states.proofs.Members.{Passed}
use Rattle.semantics.specs.declared.Names.{Names}
use Rattle.semantics.specs.Language.{Expr, eq_z}
use Rattle.semantics.specs.States.{Machine}
use Rattle.semantics.specs.Derivations.{Spec}
use Rattle.semantics.specs.Conditions.{occurrences, in_set, moves, unmoved, c50}
use Rattle.handler.specs.declared.head.Head.{Head}
use Rattle.handler.specs.Header.{machine_in}
use Rattle.evaluation.specs.Values.{in_mask, agree, value_by, is_small, agree_in}
use Rattle.evaluation.specs.declared.Variable.{Variable}
use Rattle.evaluation.proofs.Laws.{get_past}
use Rattle.rules.specs.Words.{word_set, word_relation, word_spec}
use Rattle.rules.proofs.Searches.{holds_in_set, within_holds, part_within}
use Rattle.rules.proofs.Words.{set_small}
use Rattle.search.proofs.Breaches.{any_itself}

eq_z_same : (z : ℤ) → eq_z z z ≡ true
eq_z_same (pos n) = and_both _ _ (le-leb n n (le_refl n)) (le-leb n n (le_refl n))
eq_z_same (negsuc n) = and_both _ _ (le-leb n n (le_refl n)) (le-leb n n (le_refl n))

-- Whether s is in P and R leads from it to a state that differs in variable v.
unfoldable pub moved_from : Machine → List ℕ → Names → ℕ → ℕ → Bool
moved_from m work own v s =
    word_set m.states work own.p s && any m.states (λ t. word_relation m.states work own.r s t && not (agree m v s t))

-- 41, 45 and 50, with any test for the variables that R moves.
module _ (m : Machine) (c : Spec) (p : ℕ → Bool) (same : (v : ℕ) → p v ≡ moves m c v) (e : Expr) where
  counted : occurrences p e ≡ occurrences (moves m c) e
  counted = ap (λ q. occurrences q e) (fun_ext same)

  pub unmoved_41_45 : eqb (occurrences p e) 0 ≡ holds (must (unmoved m c e))
  unfolding unmoved
  unmoved_41_45 = ap (λ k. eqb k 0) counted ∙ sym (holds_must _)

  pub read_once_50 : leb (occurrences p e) 1 ≡ holds (c50 m c e)
  unfolding c50
  read_once_50 = ap (λ k. leb k 1) counted ∙ sym (holds_must _)

-- If not every member of a set is in another, some member is not.
not_within : (n : ℕ) (a b : ℕ → Bool) → not (all n (λ t. implies (a t) (b t))) ≡ any n (λ t. a t && not (b t))
unfolding implies
not_within n a b = ap not (all_cong n _ _ (λ t l. both_ways (a t) (b t)) ∙ all_not n _) ∙ sym (turned (not (any n (λ t. a t && not (b t)))) _ refl)
  where
    both_ways : (x y : Bool) → (not x || y) ≡ not (x && not y)
    both_ways true true = refl
    both_ways true false = refl
    both_ways false y = refl

-- A state that agrees with s agrees with the same states as s; so does s itself, even if it is no state.
pub alike : (x : Variable) (s u : ℕ) → (agree_in x s u || ltb u capacity && eqb s u) ≡ true → (t : ℕ) → agree_in x u t ≡ agree_in x s t
unfolding agree_in
alike x s u e t = ⊎_elim agreed itself (or_cases (agree_in x s u) _ e)
  where
    itself : (ltb u capacity && eqb s u) ≡ true → agree_in x u t ≡ agree_in x s t
    itself h = ap (λ y. agree_in x y t) (sym (eqb-true s u (and_right (ltb u capacity) _ h)))

    agreed : agree_in x s u ≡ true → agree_in x u t ≡ agree_in x s t
    agreed h =
        let both = and_left (is_small x && ltb s x.states) (ltb u x.states) (and_left (is_small x && ltb s x.states && ltb u x.states) _ h) in
        let there = and_right (is_small x && ltb s x.states) (ltb u x.states) (and_left (is_small x && ltb s x.states && ltb u x.states) _ h) in
        let same : value_by x s ≡ value_by x u = eqb-true _ _ (and_right (is_small x && ltb s x.states && ltb u x.states) _ h) in
        rw (and_right (is_small x) (ltb s x.states) both, there, same)

-- If f s is the same set q for all states of g, the ends of the pairs from them can be compared with q.
pub alike_within : (n : ℕ) (p g : ℕ → Bool) (r f : ℕ → ℕ → Bool) (q : ℕ → Bool) → ((s : ℕ) → g s ≡ true → (t : ℕ) → f s t ≡ q t)
    → holds (in_set n (λ s. p s && g s) (λ s. in_set n (r s) (λ t. must (q t))))
    ≡ all n (λ s. implies (p s && g s) (all n (λ t. implies (r s t) (f s t))))
unfolding implies
alike_within n p g r f q own =
    holds_in_set n _ _ ∙ all_cong n _ _ (λ s l. implies_cong (p s && g s) _ _ (λ e.
    sym (within_holds n (r s) q) ∙ all_cong n _ _ (λ t k. ap (implies (r s t)) (sym (own s (and_right (p s) _ e) t)))))
  where
    implies_cong : (x y z : Bool) → (x ≡ true → y ≡ z) → implies x y ≡ implies x z
    implies_cong true y z h = h refl
    implies_cong false y z h = refl

-- If not every row from a set lies in the states that agree, some pair from the set leads to a state that differs.
pub not_kept : (n : ℕ) (p : ℕ → Bool) (r f : ℕ → ℕ → Bool)
    → not (all n (λ s. implies (p s) (all n (λ t. implies (r s t) (f s t))))) ≡ any n (λ s. p s && any n (λ t. r s t && not (f s t)))
not_kept n p r f = not_within n _ _ ∙ any_cong n _ _ (λ s l. ap (λ b. p s && b) (not_within n _ _))

-- If f fails at some of the states left in a set, it fails for the whole set.
pub passed_not : (n : ℕ) (f : ℕ → Bool) (from rest : StateSet) (g : ℕ → Bool) → Passed n f from rest true
    → all n (λ s. implies (has rest s && g s) (f s)) ≡ false → all n (λ s. implies (has from s) (f s)) ≡ false
passed_not n f from rest g old fails =
    not_true_false _ (λ e. true≢false (sym (part_within n (has rest) g f (old.same ∙ e)) ∙ fails))

-- An empty set has no member with any property.
pub none_start : (n : ℕ) (set : StateSet) (f : ℕ → Bool) → ((s : ℕ) → has set s ≡ false) → any n (λ s. has set s && f s) ≡ false
none_start n set f none = any_none n _ (λ s l. rw (none s))

-- It is enough to look at the members that start a pair.
pub starts_moved : (m : Machine) (work : List ℕ) (own : Names) (v : ℕ) (from starts : StateSet)
    → ((s : ℕ) → has starts s ≡ (ltb s capacity && any m.states (word_relation m.states work own.r s)))
    → ((s : ℕ) → has from s ≡ (word_set m.states work own.p s && has starts s))
    → any m.states (λ s. has from s && any m.states (λ t. word_relation m.states work own.r s t && not (agree m v s t)))
    ≡ any m.states (moved_from m work own v)
unfolding moved_from
starts_moved m work own v from starts start both =
    any_cong n _ _ (λ s l. ap (λ b. b && any n (differs s)) (both s) ∙ part (word_set n work own.p s) (has starts s) _ (λ e o.
    idle s (rw (lt-ltb s capacity (set_small n work own.p s e).0) at (sym (start s) ∙ o))))
  where
    n : ℕ
    n = m.states

    differs : ℕ → ℕ → Bool
    differs s t = word_relation n work own.r s t && not (agree m v s t)

    part : (a b c : Bool) → (a ≡ true → b ≡ false → c ≡ false) → (a && b && c) ≡ (a && c)
    part true true c h = refl
    part true false c h = sym (h refl refl)
    part false b c h = refl

    idle : (s : ℕ) → any n (word_relation n work own.r s) ≡ false → any n (differs s) ≡ false
    idle s none = any_none n _ (λ t l. rw (any_at n (word_relation n work own.r s) none t l))

module _ (head : Head) (work : List ℕ) (own : Names) where
  abbrev m : Machine
  m = machine_in head

  agreed : (v s t : ℕ) → s < m.states → t < m.states → agree m v s t ≡ eq_z (m.get s v) (m.get t v)
  unfolding agree
  agreed v s t l k = rw (lt-ltb s m.states l, lt-ltb t m.states k)

  -- `moved_from`, on the words, agrees with `moves`.
  moves_here : (v : ℕ) → any m.states (moved_from m work own v) ≡ moves m (word_spec m.states work own) v
  unfolding moves moved_from
  moves_here v =
      any_cong m.states _ _ (λ s l. ap (λ b. word_set m.states work own.p s && b)
      (any_cong m.states _ _ (λ t k. ap (λ b. word_relation m.states work own.r s t && not b) (agreed v s t l k))))

  -- A number that is no variable has one value, so nothing moves it.
  moves_past : (c : Spec) (v : ℕ) → head.count ≤ v → moves m c v ≡ false
  unfolding moves
  moves_past c v h =
      any_none _ _ (λ s l. ap (λ b. c.P s && b) (any_none _ _ (λ t k. still s t)) ∙ and-false (c.P s))
    where
      still : (s t : ℕ) → (c.R s t && not (eq_z (m.get s v) (m.get t v))) ≡ false
      still s t = ap (λ x. c.R s t && not (eq_z (m.get s v) x)) (get_past head v t s h) ∙ rw (eq_z_same (m.get s v)) (and-false (c.R s t))

  -- The variables found moved are those that R moves.
  pub mask_moves : (v : ℕ) → any head.count (λ u. any m.states (moved_from m work own u) && eqb u v) ≡ moves m (word_spec m.states work own) v
  mask_moves v = any_itself head.count (λ u. any m.states (moved_from m work own u)) v ∙ at (dec_lt v head.count)
    where
      at : Dec (v < head.count) → (ltb v head.count && any m.states (moved_from m work own v)) ≡ moves m (word_spec m.states work own) v
      at (yes l) = rw (lt-ltb v head.count l) (moves_here v)
      at (no l) = rw (le-ltb v head.count (omega arith)) (sym (moves_past _ v (omega arith)))

-- If there is no state, nothing moves.
pub moves_none : (m : Machine) → m.states ≡ 0 → (c : Spec) (v : ℕ) → moves m c v ≡ false
unfolding moves any
moves_none m none c v = rw none

pub mask_none : (v : ℕ) → in_mask 0 v ≡ false
mask_none v = ap (λ x. eqb (x % 2) 1) (zero-div (2 ^ v))
