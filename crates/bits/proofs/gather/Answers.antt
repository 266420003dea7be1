-- After each round the value is that of the first `done` bits. At most 8 bits are left, all among the 8 bits that are read last.
use Prim.Native.Nat.{ℕ, ◌+◌, ◌-◌, ◌*◌, ◌/◌, ◌%◌, ◌^◌, ◌<◌}
use mathlib.Core.List.{List}
use mathlib.Core.Path.{◌≡◌, refl, ◌∙◌}
use native.Mathlib.Omega.{arith}
use borrow.Author.Rules.{rules}
use Rattle.bits.specs.Fields.{bits_at}
use Rattle.bits.proofs.Laws.{bits_join, bits_fit}
use Rattle.bits.proofs.Bytes.{bits_left}
use Rattle.bits.proofs.gather.Goals.{After-byte_from, After-byte_from-next}
use Rattle.bits.proofs.gather.Goals as goal

-- After whole bytes the cursor is at the same bit within its byte.
after_bytes : (s : List ℕ) (at done : ℕ) → done % 8 ≡ 0 → bits_at s (8 * (at / 8 + done / 8) + at % 8) 8 ≡ bits_at s (at + done) 8
after_bytes s at done whole = let here : 8 * (at / 8 + done / 8) + at % 8 ≡ at + done = omega arith in rw here

more : (c : After-byte_from-next) →
    let a = c.args in
    let l = c.loop-done in
    l.value * 256 + c.byte_from-next.result ≡ bits_at a.src.now a.at (l.done + 8)
more c =
    let a = c.args in
    let l = c.loop-done in
    let next : c.byte_from-next.result ≡ bits_at a.src.now (a.at + l.done) 8 =
    c.byte_from-next.ensures ∙ after_bytes a.src.now a.at l.done l.invariant.1
    in
    omega (arith, bits_join a.src.now a.at l.done 8)

-- With one more byte there are at most 64 bits, so the value fits.
room : (c : After-byte_from-next) → c.loop-done.value * 256 + c.byte_from-next.result < 2 ^ 64
room c =
    let a = c.args in
    omega (arith, more c, bits_fit a.src.now a.at (c.loop-done.done + 8) (omega arith))

-- The whole field, from the value so far and the bits that are left.
whole : (c : After-byte_from) →
    let a = c.args in
    let l = c.loop-done in
    l.value * 2 ^ (a.width - l.done) % 2 ^ 64 + c.byte_from.result / 2 ^ (8 - (a.width - l.done))
    ≡ bits_at a.src.now a.at a.width
whole c =
    let a = c.args in
    let l = c.loop-done in
    let last : c.byte_from.result ≡ bits_at a.src.now (a.at + l.done) 8 =
    c.byte_from.ensures ∙ after_bytes a.src.now a.at l.done l.invariant.1
    in
    rw (l.invariant.2, last)
    (bits_left a.src.now a.at l.done a.width (search rules) (omega arith) (search rules))

pub loop-done-init : goal.loop-done-init
unfolding bits_at
loop-done-init c = (search rules, refl, refl)

pub overflow_add-result : goal.overflow_add-result
overflow_add-result c =
    let a = c.args in
    omega (arith, whole c, bits_fit a.src.now a.at a.width (search rules))

pub overflow_mul-value : goal.overflow_mul-value
overflow_mul-value c = omega (arith, room c)

pub overflow_add-value : goal.overflow_add-value
overflow_add-value c = omega (arith, room c)

pub loop-done-preserved : goal.loop-done-preserved
loop-done-preserved c = (omega arith, omega arith, more c)

pub returns : goal.returns
returns c = whole c
