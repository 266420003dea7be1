-- After each round the first `done` bits are equal. A word that differs shows that the whole differs.
use Prim.Native.Nat.{◌+◌, ◌-◌}
use mathlib.Core.Path.{◌≡◌, refl, sym, ◌∙◌}
use native.Mathlib.Omega.{arith}
use borrow.Author.Rules.{rules}
use borrow.Author.Tests.{ne_eqb}
use lib.Dec.{eqb}
use Rattle.bits.specs.Fields.{bits_at}
use Rattle.bits.proofs.Laws.{number_bits}
use Rattle.canonical.proofs.Equal.{same_more, same_part, same_last}
use Rattle.canonical.proofs.tables.same_bits.Goals.{After-number_at-in-loop-done}
use Rattle.canonical.proofs.tables.same_bits.Goals as goal

-- The two words of a round are bits of the file.
words : (c : After-number_at-in-loop-done) → let a = c.args in let l = c.loop-done in
    (c.number_at.result ≡ bits_at a.src.now (a.a + l.done) 64) × (c.number_at-in-loop-done.result ≡ bits_at a.src.now (a.b + l.done) 64)
words c = (c.number_at.ensures ∙ number_bits _ _ 64 (omega arith), c.number_at-in-loop-done.ensures ∙ number_bits _ _ 64 (omega arith))

pub loop-done-init : goal.loop-done-init
unfolding bits_at
loop-done-init c = (search rules, refl)

pub returns-then-number_at : goal.returns-then-number_at
unfolding bits_at
returns-then-number_at c = let a = c.args in
    let w = words (goal.at.returns-then-number_at c).After-number_at-in-loop-done in
    sym (ne_eqb _ _ (λ same. c.if-number_at.true (w.0 ∙ same_part a.src.now a.a a.b _ 64 a.width (omega arith) same ∙ sym w.1)))

pub loop-done-preserved : goal.loop-done-preserved
unfolding bits_at
loop-done-preserved c = let w = words (goal.at.loop-done-preserved c).After-number_at-in-loop-done in
    (omega arith, same_more _ _ _ _ 64 c.loop-done.invariant.1 (sym w.0 ∙ c.if-number_at.false ∙ w.1))

pub returns : goal.returns
unfolding bits_at
returns c = let a = c.args in
    let l = c.loop-done in
    let third = c.number_at-2.ensures ∙ number_bits _ _ (a.width - l.done) (omega arith) in
    let fourth = c.number_at-3.ensures ∙ number_bits _ _ (a.width - l.done) (omega arith) in
    (λ i. eqb (third i) (fourth i)) ∙ same_last a.src.now a.a a.b l.done a.width l.invariant.0 l.invariant.1
