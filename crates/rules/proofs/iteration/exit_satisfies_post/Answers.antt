-- 56 at each state of P, which has only states below n that a set can hold.
use Rattle.std.proofs.Common.{rules}
use Prim.Native.Nat.{ℕ}
use mathlib.Core.Path.{◌≡◌, ◌∙◌, sym, ap, fun_ext}
use mathlib.Core.Bool.{Bool, ◌&&◌, ◌||◌}
use mathlib.Core.List.{List}
use lib.Dec.{eqb}
use Rattle.states.specs.Search.{Search, must, holds, all, implies}
use Rattle.states.specs.Sets.{has, capacity}
use Rattle.states.proofs.Search.{and_left, and_right}
use Rattle.semantics.specs.Conditions.{in_set, c56}
use Rattle.rules.specs.Words.{word_set, word_relation}
use Rattle.rules.proofs.Searches.{StatesOnly, small_within, search_of_states}
use Rattle.rules.proofs.Words.{set_small}
use Rattle.rules.proofs.iteration.exit_satisfies_post.Goals as goal

abbrev exits : ℕ → List ℕ → ℕ → ℕ → (ℕ → Bool) → (ℕ → Bool) → ℕ → Search
exits n work w q p falsity s =
    in_set n (λ t. (eqb t s || word_relation n work w s t) && p t && falsity t) (λ t. must (word_relation n work q s t))

pub returns : goal.returns
unfolding c56
returns c =
    let a = c.args in
    let p = has c.set_at-p.result in
    let small : StatesOnly a.n p = λ s e. set_small a.n a.work.now a.own.p s (sym (c.set_at-p.ensures s) ∙ e) in
    let inside : ℕ → ℕ → Bool = λ s t. (eqb t s || word_relation a.n a.work.now a.w s t) && p t && has a.falsity t in
    search_of_states a.n _ (exits a.n a.work.now a.w a.own.q p (has a.falsity)) c.set_at-p.result _ _ _ c.states.ensures (λ s e. (small s e).1)
    (λ s l. c.set_at-p.ensures s) c.all.ensures.ran
    (λ x b q k.
    let held : b ≡ all capacity (λ t. implies (inside x t) (word_relation a.n a.work.now a.own.q x t)) = search rules in
    (search rules, held ∙ small_within a.n (inside x) _ (λ t h. small t (and_right (eqb t x || word_relation a.n a.work.now a.w x t) (p t) (and_left _ (has a.falsity t) h)))))
    ∙ ap (λ p. holds (in_set a.n (word_set a.n a.work.now a.own.p) (exits a.n a.work.now a.w a.own.q p (has a.falsity)))) (fun_ext c.set_at-p.ensures)
