-- As long as the bits passed are zero, the first set bit of all is the first of those left.
use Prim.Native.Nat.{ℕ, suc, ◌+◌, ◌-◌, ◌%◌, ◌<◌}
use mathlib.Core.Bool.{cond}
use mathlib.Core.List.{List}
use Rattle.std.specs.Prelude.{Some}
use mathlib.Core.Path.{◌≡◌, ◌∙◌}
use native.Mathlib.Nat.{add-zero, sub-zero}
use native.Mathlib.Omega.{arith}
use borrow.Author.Rules.{rules}
use borrow.Author.Tests.{eq-eqb, ne_eqb}
use lib.Dec.{eqb}
use Rattle.bits.specs.Fields.{bit_at, first_set, fill_bits, fill_from, fill_at}
use Rattle.bits.proofs.read_fill.Goals as goal

-- One step of the search, with `k + 1` as in the code.
search_from : (s : List ℕ) (at k n : ℕ) → k < n
    → first_set s (at + k) (n - k) ≡ cond (eqb (bit_at s (at + k)) 0) (first_set s (at + (k + 1)) (n - (k + 1))) (Some (at + k))
unfolding first_set
search_from s at k n h =
    let left : n - k ≡ suc (n - (k + 1)) = omega arith in
    let next : at + (k + 1) ≡ suc (at + k) = omega arith in
    rw (left, next)

pub loop-k-init : goal.loop-k-init
unfolding fill_at fill_bits
loop-k-init c = (search rules, simp (add-zero, sub-zero))

pub returns-then-bit-ne0 : goal.returns-then-bit-ne0
unfolding fill_from
returns-then-bit-ne0 c =
    let more = c.loop-k-test.true in
    rw (search_from, ← c.bit.ensures, ne_eqb _ _ c.if-bit-ne0.true)
    at c.loop-k.invariant.1

pub loop-k-preserved : goal.loop-k-preserved
loop-k-preserved c =
    let more = c.loop-k-test.true in (
      search rules,
      rw (search_from, ← c.bit.ensures, eq-eqb _ _ c.if-bit-ne0.false)
          at c.loop-k.invariant.1,
    )

pub returns : goal.returns
unfolding fill_from first_set
returns c =
    let l = c.loop-k in
    let a = c.args in
    let all : (8 - a.at % 8) % 8 - l.k ≡ 0 = omega arith in
    c.further_byte.ensures ∙ rw all at l.invariant.1
