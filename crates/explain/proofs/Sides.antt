-- Which of two groups of conditions, asked one after the other, has the first broken one: the first group if not all of it holds, and
-- otherwise the second.
use Rattle.std.proofs.Common.{◌≡◌, true, false, ◌&&◌, List, [], ◌∷◌, ◌++◌, sym, refl, true≢false}
use mathlib.Core.Option.{none, some}
use Rattle.states.specs.Search.{Search, holds}
use Rattle.semantics.specs.Checking.{Condition, first_broken, or_breach}
use Rattle.explain.specs.Children.{hold_all}

module _ (rest : List Condition) where
  pub in_the_second : (first : List Condition) → hold_all first ≡ true → first_broken (first ++ rest) ≡ first_broken rest
  unfolding holds
  in_the_second [] all = refl
  in_the_second (c ∷ cs) all = by c.breach (in_the_second cs) all
    where
      by : (x : Search) → (hold_all cs ≡ true → first_broken (cs ++ rest) ≡ first_broken rest) → (holds x && hold_all cs) ≡ true
          → or_breach c.number x (first_broken (cs ++ rest)) ≡ first_broken rest
      by none later e = later e
      by (some found) later e = absurd (true≢false (sym e))

  pub in_the_first : (first : List Condition) → hold_all first ≡ false → first_broken (first ++ rest) ≡ first_broken first
  unfolding holds
  in_the_first [] none_held = absurd (true≢false none_held)
  in_the_first (c ∷ cs) broken = by c.breach (in_the_first cs) broken
    where
      by : (x : Search) → (hold_all cs ≡ false → first_broken (cs ++ rest) ≡ first_broken cs) → (holds x && hold_all cs) ≡ false
          → or_breach c.number x (first_broken (cs ++ rest)) ≡ or_breach c.number x (first_broken cs)
      by none later e = later e
      by (some found) later e = refl
