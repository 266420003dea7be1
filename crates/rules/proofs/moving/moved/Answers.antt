-- After the variables below v, the mask has those of them that R moves. `any_more` adds the next.
use Prim.Native.Nat.{ℕ, ◌<◌}
use native.Mathlib.Omega.{arith}
use mathlib.Core.Path.{◌≡◌, ◌∙◌, sym, ap, ap₂}
use mathlib.Core.Bool.{not, ◌&&◌, ◌||◌}
use lib.Dec.{eqb}
use Rattle.states.specs.Search.{any}
use Rattle.states.proofs.Search.{any_none, any_more, any_done}
use Rattle.states.specs.Sets.{has}
use Rattle.states.proofs.Members.{none_in}
use Rattle.handler.specs.Header.{machine_in}
use Rattle.evaluation.specs.Values.{agree}
use Rattle.handler.proofs.Heads.{known_head}
use Rattle.evaluation.proofs.Laws.{state_head}
use Rattle.rules.specs.Words.{word_relation}
use Rattle.rules.proofs.Movement.{moved_from, mask_moves, mask_none, moves_none, none_start, starts_moved}
use Rattle.rules.proofs.moving.moved.Goals.{After-meet-from}
use Rattle.rules.proofs.moving.moved.Goals as goal

-- It is enough to look at the states of P that start a pair.
enough : (c : After-meet-from) (v : ℕ) → let a = c.args in let n = c.states_in-n.result in
    any n (λ s. has c.meet-from.result s && any n (λ t. word_relation n a.work.now a.own.r s t && not (agree (machine_in a.head) v s t)))
    ≡ any (machine_in a.head).states (moved_from (machine_in a.head) a.work.now a.own v)
unfolding word_relation
enough c v =
    let a = c.args in
    rw c.states_in-n.ensures
    (starts_moved (machine_in a.head) a.work.now a.own v _ _ (rw (c.rows_of.ensures, c.states_in-n.ensures) at c.starting-starts.ensures)
    (λ s. c.meet-from.ensures s ∙ ap (λ b. b && has c.starting-starts.result s) (rw c.states_in-n.ensures at (c.set_at.ensures s))))

pub loop-v-init : goal.loop-v-init
unfolding any
loop-v-init c = (omega arith, mask_none)

pub returns-then-n-eq0 : goal.returns-then-n-eq0
returns-then-n-eq0 c v = mask_none v ∙ sym (moves_none _ (sym c.states_in-n.ensures ∙ c.if-n-eq0.true) _ v)

pub returns-then-is_empty : goal.returns-then-is_empty
returns-then-is_empty c v =
    let a = c.args in
    mask_none v ∙ sym (any_none a.head.count _ (λ u l. ap (λ b. b && eqb u v) (sym (enough (goal.at.returns-then-is_empty c).After-meet-from u) ∙ none_start _ _ _ (none_in _ _ c.is_empty.ensures c.if-is_empty.true))))
    ∙ mask_moves a.head a.work.now a.own v

pub with_variable-mask-requires : goal.with_variable-mask-requires
with_variable-mask-requires c =
    let a = c.args in
    let some : c.states_in-n.result ≡ 0 → ⊥ = c.if-n-eq0.false in
    let state : 0 < (machine_in a.head).states = rw (← c.states_in-n.ensures) (omega arith) in
    omega (arith, (known_head a.head (state_head a.head 0 state)).few)

pub loop-v-preserved : goal.loop-v-preserved
loop-v-preserved c = let l = c.loop-v in (
  omega arith,
  λ u. c.with_variable-mask.ensures u
      ∙ ap₂ ◌||◌ (l.invariant.1 u) (ap (λ b. b && eqb l.v u) (c.moves_variable.ensures ∙ enough (goal.at.loop-v-preserved c).After-meet-from l.v))
      ∙ sym (any_more _ _),
)

pub returns : goal.returns
returns c v =
    let a = c.args in
    c.loop-v.invariant.1 v ∙ any_done _ _ _ c.loop-v.invariant.0 c.loop-v-test.false
    ∙ mask_moves a.head a.work.now a.own v
