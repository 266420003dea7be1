-- After the states below s, the set holds those of them at which the comparison is true.
use Prim.Native.Nat.{ℕ, zero, suc, ◌≤◌, ◌<◌}
use native.Mathlib.Omega.{arith}
use mathlib.Core.Bool.{Bool, true, ◌||◌, or-false}
use mathlib.Core.Option.{none, some}
use mathlib.Core.Path.{◌≡◌, refl, sym, ap, ap₂, ◌∙◌}
use borrow.Author.Rules.{rules}
use borrow.Author.Tests.{lt-ltb}
use lib.IntN.{ℤ, pos}
use lib.ListN.{get_or}
use mir.Syntax.{w64}
use mir.Val.{SFits}
use mir.Facts.{to_z-of_z}
use Rattle.states.specs.Sets.{has}
use Rattle.semantics.specs.Language.{truth, of_integers}
use Rattle.semantics.specs.States.{is_truth}
use Rattle.evaluation.specs.Refinement.{less_code, and_code}
use Rattle.evaluation.proofs.Runs.{holds_no_state, holds_more}
use Rattle.evaluation.proofs.pointwise.compared.Goals.{then-compares, else-compares}
use Rattle.evaluation.proofs.pointwise.compared.Goals as goal

-- A comparison of two integers gives a truth value.
is_truth_lem : (o : ℕ) (a b : ℤ) → less_code ≤ o → o < and_code → some (truth (is_truth true (get_or (of_integers a b) o none))) ≡ get_or (of_integers a b) o none
is_truth_lem zero a b more less = absurd (omega arith)
is_truth_lem (suc zero) a b more less = absurd (omega arith)
is_truth_lem (suc (suc zero)) a b more less = refl
is_truth_lem (suc (suc (suc zero))) a b more less = refl
is_truth_lem (suc (suc (suc (suc zero)))) a b more less = refl
is_truth_lem (suc (suc (suc (suc (suc o))))) a b more less = absurd (omega arith)

-- x and y are a and b as the code holds them.
carried : (o : ℕ) (a b x y : ℤ) (r : Bool) → x ≡ a → y ≡ b → some (truth r) ≡ get_or (of_integers x y) o none
    → r ≡ is_truth true (get_or (of_integers a b) o none)
carried o a b x y r p q h = ap (is_truth true) (h ∙ ap₂ (λ i j. get_or (of_integers i j) o none) p q)

pub loop-s-init : goal.loop-s-init
loop-s-init c = holds_no_state _ _ c.empty-found.ensures

pub loop-s-preserved : goal.loop-s-preserved
loop-s-preserved c =
    let left = get_or c.args.left.now c.loop-s.s (pos 0) in
    let right = get_or c.args.right.now c.loop-s.s (pos 0) in
    let a : SFits w64 left = search rules in
    let b : SFits w64 right = search rules in
    let more = holds_more (λ t. is_truth true (get_or (of_integers (get_or c.args.left.now t (pos 0)) (get_or c.args.right.now t (pos 0))) c.args.o none))
    c.loop-s.s c.loop-s.found c.if-compares.found c.compares.result (omega arith) (carried c.args.o left right _ _ _ (to_z-of_z a) (to_z-of_z b) c.compares.ensures) in
    elim c.if-compares.branch [
      | then-compares w ↦
          more (λ t. rw (w.found-is, w.if-compares.true) (w.join-found.ensures t ∙ ap (λ b. has c.loop-s.found t || b) (w.single.ensures t))) c.loop-s.invariant
      | else-compares w ↦ more (λ t. rw (w.found-is, w.if-compares.false) (sym (or-false _))) c.loop-s.invariant
    ]

pub returns : goal.returns
returns c s l =
    let held = c.loop-s.invariant s in
    ap (λ b. some (truth b)) (rw (lt-ltb s c.loop-s.s (omega arith)) at held)
    ∙ is_truth_lem c.args.o (get_or c.args.left.now s (pos 0)) (get_or c.args.right.now s (pos 0)) c.requires.1 c.requires.2
