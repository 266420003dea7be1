-- The 64 bits from the cursor on, reversed, hold the n that are asked for lowest.
use mathlib.Core.Path.{◌≡◌, ◌∙◌}
use native.Mathlib.Omega.{arith}
use lib.Pow.{pow_pos}
use Rattle.states.proofs.Bits.{shifted}
use Rattle.derivation.specs.Tables.{word_at}
use Rattle.derivation.proofs.Membership.{word_first, word_reversed}
use Rattle.derivation.proofs.words.word_at.Goals.{After-reversed-word}
use Rattle.derivation.proofs.words.word_at.Goals as goal

whole : (c : After-reversed-word) →
    let a = c.args in
    c.reversed-word.result ≡ word_at a.src.now a.at 64
whole c = c.reversed-word.ensures ∙ rw c.word.ensures (word_reversed _ _)

pub nonzero_rem-result : goal.nonzero_rem-result
nonzero_rem-result c = let n = c.args.n in
    rw (shifted n c.if-n-lt64.true) (pow_pos n)

pub returns-then-n-lt64 : goal.returns-then-n-lt64
returns-then-n-lt64 c = let a = c.args in
    rw (shifted a.n c.if-n-lt64.true, whole (goal.at.returns-then-n-lt64 c).After-reversed-word) (word_first a.src.now a.at a.n 64 (omega arith))

pub returns-else-n-lt64 : goal.returns-else-n-lt64
returns-else-n-lt64 c = let all : c.args.n ≡ 64 = omega arith in
    rw (whole (goal.at.returns-else-n-lt64 c).After-reversed-word, all)
