-- The word 0 has no bit; for any other word, `x & (x - 1)` keeps the bits above the lowest.
use Prim.Native.Nat.{◌-◌}
use mathlib.Core.Path.{◌∙◌, sym, ap}
use mathlib.Core.Bool.{cond}
use mathlib.Core.List.{[], ◌∷◌}
use lib.Bits.{bit_and}
use borrow.Author.Tests.{eq-eqb, ne_eqb}
use Rattle.states.specs.Sets.{mem, has}
use Rattle.states.proofs.Words.{one_word, mem_lowered}
use Rattle.states.proofs.StateSet.without_least.Goals as goal

pub returns-then-self-eq0 : goal.returns-then-self-eq0
unfolding has
returns-then-self-eq0 c s = let x = c.args.self.bits in
    sym (ap (λ b. mem (cond b (x ∷ []) (bit_and x (x - 1) ∷ [])) s) (eq-eqb x 0 c.if-self-eq0.true)) ∙ mem_lowered (x ∷ [])
    (one_word c.struct_known-1.given.0.fits) s

pub returns-else-self-eq0 : goal.returns-else-self-eq0
unfolding has
returns-else-self-eq0 c s = let d = c.before in
    let x = d.args.self.bits in
    sym (ap (λ b. mem (cond b (x ∷ []) (bit_and x (x - 1) ∷ [])) s) (ne_eqb x 0 d.if-self-eq0.false)) ∙ mem_lowered (x ∷ [])
    (one_word d.struct_known-1.given.0.fits) s
