-- After each round `mix` is the mix of the first k words.
use Prim.Native.Nat.{◌/◌, ◌%◌}
use mathlib.Core.Path.{◌≡◌, refl, sym, ◌∙◌, ap}
use native.Mathlib.Omega.{arith}
use borrow.Author.Rules.{rules}
use Rattle.bits.proofs.Laws.{number_bits}
use Rattle.canonical.specs.Refinement.{mix_with, mix_words, mix_at}
use Rattle.canonical.proofs.Equal.{mix_more}
use Rattle.canonical.proofs.tables.mix_of.Goals as goal

pub loop-k-init : goal.loop-k-init
unfolding mix_words
loop-k-init c = (search rules, refl)

pub returns : goal.returns
unfolding mix_at
returns c =
    let a = c.args in
    let l = c.loop-k in
    let all : l.k ≡ a.width / 64 = omega arith in
    let words = l.invariant.1 ∙ ap (mix_words a.src.now a.at) all in
    let left = c.number_at-2.ensures ∙ number_bits _ _ (a.width % 64) (omega arith) in
    c.mixed.ensures ∙ (λ i. mix_with (words i) (left i))

pub loop-k-preserved : goal.loop-k-preserved
loop-k-preserved c = let word = c.number_at.ensures ∙ number_bits _ _ 64 (omega arith) in
    (omega arith, c.mixed-mix.ensures ∙ (λ i. mix_with (c.loop-k.invariant.1 i) (word i)) ∙ sym (mix_more _ _ _))
