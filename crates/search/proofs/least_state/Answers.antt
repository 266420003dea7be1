-- A state breaks the condition iff it is in `bad`; so the least of those is the least breach.
use Prim.Native.Nat.{ℕ}
use mathlib.Core.Path.{◌≡◌, refl, sym, ap, ◌∙◌}
use mathlib.Core.Bool.{Bool, true, false, not, ◌&&◌}
use mathlib.Core.List.{[], ◌∷◌}
use mathlib.Core.Option.{none, some}
use lib.Dec.{ltb}
use Rattle.states.specs.Search.{must, given, each}
use Rattle.states.specs.Sets.{capacity, has}
use Rattle.states.specs.declared.StateSet.{StateSet}
use Rattle.states.proofs.Search.{and_left, each_cong}
use Rattle.states.proofs.Least.{IsLeast}
use Rattle.states.proofs.Members.{start_below, start_same, least_of, none_in}
use Rattle.semantics.specs.Conditions.{in_set}
use Rattle.search.specs.Named.{states_found, naming}
use Rattle.search.proofs.Breaches.{each_clear, each_first}
use Rattle.search.proofs.least_state.Goals.{After-meet}
use Rattle.search.proofs.least_state.Goals as goal

-- `low` are the states of `from` below n, and `bad` those of them that are not good.
module _ (n : ℕ) (from low good bad : StateSet) (start : (s : ℕ) → has low s ≡ (has from s && (ltb s capacity && ltb s n)))
    (outside : (s : ℕ) → has bad s ≡ (has low s && not (has good s))) where
  at_each : in_set n (has from) (λ s. must (has good s)) ≡ each n (λ s. must (not (has bad s)))
  unfolding in_set given must
  at_each =
      each_cong n _ _ (λ s l. by (has from s) (has good s)
      ∙ ap (λ b. must (not b)) (sym (outside s ∙ ap (λ b. b && not (has good s)) (start_same n from low start s l))))
    where
      by : (f g : Bool) → given f (must g) ≡ must (not (f && not g))
      by true true = refl
      by true false = refl
      by false g = refl

  none_bad : ((s : ℕ) → has bad s ≡ false) → in_set n (has from) (λ s. must (has good s)) ≡ none
  unfolding must
  none_bad empty = at_each ∙ each_clear n _ (λ s l. ap (λ b. must (not b)) (empty s))

  least_bad : (k : ℕ) → IsLeast capacity (has bad) k → in_set n (has from) (λ s. must (has good s)) ≡ some (k ∷ [])
  unfolding must
  least_bad k least =
      let small = start_below n from low start k (and_left (has low k) _ (sym (outside k) ∙ least.there)) in
      at_each ∙ each_first n k _ [] small (λ s l. ap (λ b. must (not b)) (least.less s l)) (ap (λ b. must (not b)) least.there)

-- The states that break the condition.
start : (c : After-meet) → let a = c.args in
    (s : ℕ) → has c.meet.result s ≡ (has a.from s && (ltb s capacity && ltb s a.n))
start c s = c.meet.ensures s ∙ ap (λ b. has c.args.from s && b) (c.below.ensures s)

pub returns-then-is_empty : goal.returns-then-is_empty
unfolding naming states_found
returns-then-is_empty c =
    sym (ap (λ x. naming (states_found x)) (none_bad _ _ _ _ _ (start (goal.at.returns-then-is_empty c).After-meet) c.narrow-bad.ensures (none_in _ _ c.is_empty.ensures c.if-is_empty.true)))

pub returns-else-is_empty : goal.returns-else-is_empty
unfolding naming states_found
returns-else-is_empty c =
    sym (ap (λ x. naming (states_found x)) (least_bad _ _ _ _ _ (start (goal.at.returns-else-is_empty c).After-meet) c.narrow-bad.ensures _
    (least_of _ _ c.is_empty.ensures (ap not c.if-is_empty.false) _ c.least.ensures)))
