-- What is asked of two pairs together, as the code asks it.
use Prim.Native.Nat.{ℕ, ◌-◌, ◌≤◌, ◌<◌}
use mathlib.Core.Bool.{Bool, true, false, cond, not, ◌&&◌}
use mathlib.Core.List.{List}
use mathlib.Core.Path.{◌≡◌, refl, sym, ◌∙◌, ap}
use native.Mathlib.Omega.{arith}
use borrow.Author.Tests.{eqb-true, eq-eqb, not-true, not-false}
use lib.Dec.{eqb}
use lib.ListN.{length, get_or, replicate, get_or-append}
use Rattle.std.specs.Prelude.{Result, Ok, Err, ⊤}
use Rattle.states.specs.Search.{implies, all}
use Rattle.states.proofs.Search.{and_left, and_right, and_both, bool_ext, all_intro, all_at, all_cong}
use Rattle.semantics.specs.Derivations.{Spec}
use Rattle.semantics.specs.Conditions.{set_lies_in, relation_lies_in}
use Rattle.handler.specs.declared.head.Head.{Head}
use Rattle.handler.specs.Header.{head_of}
use Rattle.joint.proofs.Sizes.{sizes_same}
use Rattle.joint.specs.Joining.{root_spec}
use Rattle.joint.specs.Composing.{Side, N, met_p_kept, second_allowed, first_allowed, limited, Composition, asked, same_sizes, stays_in, composition}
use Rattle.composition.specs.Refinement.{first_unmet, if_met}

-- Heads with equal counts are padded alike, so all four sizes can be compared.
abbrev alike : Head → Head → Bool
alike a b = all 4 (λ v. eqb (get_or a.sizes v 0) (get_or b.sizes v 0))

heads_alike : (s t : List ℕ) → length s ≤ 4 → (eqb (length s) (length t) && alike (head_of s) (head_of t)) ≡ true → same_sizes s t ≡ true
unfolding head_of same_sizes
heads_alike s t few e =
    let counts = and_left (eqb (length s) (length t)) _ e in
    let lengths = eqb-true (length s) (length t) counts in
    and_both (eqb (length s) (length t)) _ counts
    (all_intro (length s) (λ v. eqb (get_or s v 0) (get_or t v 0)) (λ v l.
    eq-eqb (get_or s v 0) (get_or t v 0)
    (sym (get_or-append s (replicate (4 - length s) 1) 0 v l)
    ∙ eqb-true _ _ (all_at 4 _ (and_right (eqb (length s) (length t)) _ e) v (omega arith))
    ∙ get_or-append t (replicate (4 - length t) 1) 0 v (omega arith))))

pub heads_same : (a b : Head) (s t : List ℕ) → a ≡ head_of s → b ≡ head_of t → length s ≤ 4
    → (eqb a.count b.count && alike a b) ≡ same_sizes s t
unfolding head_of
heads_same a b s t is is' few =
    rw (is, is') (bool_ext _ _ (heads_alike s t few) (λ e. rw (sizes_same s t e) (itself (head_of t))))
  where
    itself : (x : Head) → (eqb x.count x.count && alike x x) ≡ true
    itself x =
        and_both (eqb x.count x.count) _ (eq-eqb x.count _ refl)
        (all_intro 4 (λ v. eqb (get_or x.sizes v 0) (get_or x.sizes v 0)) (λ v l. eq-eqb (get_or x.sizes v 0) _ refl))

-- A relation lies in another if its pairs from every state do.
pub from_every : (n : ℕ) (p : ℕ → Bool) (r q : ℕ → ℕ → Bool) → ((s : ℕ) → s < n → p s ≡ true)
    → all n (λ s. implies (p s) (all n (λ t. implies (r s t) (q s t)))) ≡ relation_lies_in n r q
unfolding relation_lies_in set_lies_in implies
from_every n p r q every = all_cong n _ _ (λ s l. rw (every s l))

-- The conditions one after the other, as they are asked.
module _ (n : ℕ) (a b : Spec) (x : Bool) (first : x ≡ relation_lies_in n b.G a.R) where
  pub unmet_91 : not x ≡ true → Err 91 ≡ first_unmet n a b
  unfolding first_unmet
  unmet_91 e = rw (sym first ∙ not-true x e)

  module _ (in-first : not x ≡ false) (y : Bool) (second : y ≡ relation_lies_in n a.G b.R) where
    pub unmet_92 : not y ≡ true → Err 92 ≡ first_unmet n a b
    unfolding first_unmet
    unmet_92 e = rw (sym first ∙ not-false x in-first, sym second ∙ not-true y e)

    pub unmet_93 : not y ≡ false → (z held : Bool) → z ≡ (stays_in n (root_spec n a b).P a.G && stays_in n (root_spec n a b).P b.G) → z ≡ held → cond held (Ok tt) (Err 93) ≡ first_unmet n a b
    unfolding first_unmet
    unmet_93 in-second z held third e = rw (sym first ∙ not-false x in-first, sym second ∙ not-false y in-second, sym third ∙ e)

-- 91 to 93 of both roots' tables.
module _ (h h' : List ℕ) (a b : Side) (steps : ℕ) where
  abbrev unmet_here : Result ⊤ ℕ
  unmet_here = first_unmet (N h h' a b) a.tables b.tables

  -- They are what the definition asks of both sides.
  pub asked_by_number : composition h h' a b steps
      ≡ asked 90 (same_sizes a.sizes b.sizes) (if_met unmet_here (limited h h' a b steps))
  unfolding composition first_unmet
  asked_by_number =
      ap (asked 90 (same_sizes a.sizes b.sizes))
      (by (second_allowed h h' a b) (first_allowed h h' a b) (met_p_kept h h' a b) (limited h h' a b steps))
    where
      by : (x y z : Bool) (next : Composition)
          → asked 91 x (asked 92 y (asked 93 z next))
          ≡ if_met (cond x (cond y (cond z (Ok tt) (Err 93)) (Err 92)) (Err 91)) next
      by true true true next = refl
      by true true false next = refl
      by true false z next = refl
      by false y z next = refl
