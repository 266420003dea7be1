-- After the rows below s, the set has the states u below s with the pair (u,u). `any_more` adds the next.
use Prim.Native.Nat.{ℕ}
use native.Mathlib.Omega.{arith}
use mathlib.Core.Path.{◌≡◌, ◌∙◌, sym, ap₂}
use mathlib.Core.Bool.{true, ◌&&◌, ◌||◌}
use mathlib.Core.List.{List}
use lib.Dec.{ltb, eqb}
use borrow.Author.Tests.{lt-ltb}
use Rattle.states.specs.Search.{any}
use Rattle.states.specs.Sets.{capacity}
use Rattle.states.specs.Relations.{rel}
use Rattle.states.proofs.Search.{and_left, and_right, and_both, bool_ext, any_more, any_done}
use Rattle.states.proofs.EntryLaws.{entry_below}
use Rattle.states.proofs.Rows.{rel_mem}
use Rattle.search.proofs.Breaches.{absorbed, any_itself}
use Rattle.search.proofs.pairs.diagonal.Goals as goal

-- A pair ends at a state that a set can hold.
held : (n : ℕ) (rows : List ℕ) (s t : ℕ) → (rel n rows s t && (ltb t capacity && eqb s t)) ≡ (rel n rows s t && eqb s t)
held n rows s t =
    bool_ext _ _
    (λ h. and_both _ _ (and_left (rel n rows s t) _ h) (and_right (ltb t capacity) _ (and_right (rel n rows s t) _ h)))
    (λ h. let pair = and_left (rel n rows s t) _ h in
    and_both _ _ pair (and_both _ _ (lt-ltb t capacity (entry_below rows s t (rel_mem n rows s t pair))) (and_right (rel n rows s t) _ h)))

pub loop-s-init : goal.loop-s-init
unfolding any
loop-s-init c = (omega arith, c.empty-found.ensures)

pub loop-s-preserved : goal.loop-s-preserved
loop-s-preserved c =
    let a = c.args in (
      omega arith,
      λ t.
          c.join-found.ensures t
          ∙ ap₂ ◌||◌ (c.loop-s.invariant.1 t)
          (c.meet.ensures t ∙ ap₂ ◌&&◌ (c.row.ensures t) (c.single.ensures t) ∙ held a.n a.rows.now c.loop-s.s t)
          ∙ sym (any_more _ _),
    )

pub returns : goal.returns
returns c t =
    let a = c.args in
    let l = c.loop-s in
    let low : rel a.n a.rows.now t t ≡ true → ltb t capacity ≡ true = λ e. lt-ltb t capacity (entry_below a.rows.now t t (rel_mem a.n a.rows.now t t e)) in
    l.invariant.1 t ∙ any_done _ _ _ l.invariant.0 c.loop-s-test.false
    ∙ any_itself capacity (λ u. rel a.n a.rows.now u t) t
    ∙ absorbed (ltb t capacity) _ low
