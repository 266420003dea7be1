-- After k rounds the head is that of the first k sizes, and a fault of these is that of the head.
use Prim.Native.Nat.{ℕ, zero, suc, ◌+◌, ◌-◌}
use mathlib.Core.List.{List}
use mathlib.Core.Path.{◌≡◌, sym, ◌∙◌}
use native.Mathlib.Nat.{add-zero, add-suc}
use native.Mathlib.Omega.{arith}
use borrow.Author.Rules.{rules}
use borrow.Author.Tests.{le-leb, lt-leb}
use Rattle.bits.specs.declared.FileFault.{FileFault}
use Rattle.handler.specs.Header.{fault, add_size, sizes_read, count_read, head_at, head_of}
use Rattle.handler.proofs.Heads.{there_or, found_fault}
use Rattle.handler.proofs.head.read_head.Goals.{then-count-lt1-via-then-count-lt1, then-count-lt1-via-else-count-lt1+then-count-gt-MOST_VARIABLES}
use Rattle.handler.proofs.head.read_head.Goals as goal

-- A fault of the first sizes is one of more sizes.
kept : (s : List ℕ) (k more number bit : ℕ) → sizes_read s k ≡ fault number bit → sizes_read s (k + more) ≡ fault number bit
unfolding sizes_read add_size
kept s k zero number bit e = rw (add-zero k) e
kept s k (suc more) number bit e = rw (add-suc k more, kept s k more number bit e)

pub returns-in_err-count : goal.returns-in_err-count
unfolding head_at count_read
returns-in_err-count c = rw (← c.read_or.ensures, c.in_err-count.was) (search rules)

pub returns-then-count-lt1 : goal.returns-then-count-lt1
unfolding head_at count_read
returns-then-count-lt1 c =
    rw (← c.read_or.ensures, c.in_ok-count.was)
    (elim c.then-count-lt1.branch [
      | then-count-lt1-via-then-count-lt1 w ↦ rw (lt-leb 1 _ w.if-count-lt1.true)
      | then-count-lt1-via-else-count-lt1+then-count-gt-MOST_VARIABLES w ↦
          rw (le-leb 1 _ w.if-count-lt1.false, lt-leb _ 4 w.if-count-gt-MOST_VARIABLES.true)
    ])

pub loop-k-init : goal.loop-k-init
unfolding sizes_read head_of
loop-k-init c =
    let known = there_or _ _ _ _ _ _ (sym c.read_or.ensures ∙ c.in_ok-count.was) in
    (omega arith, omega arith, rw known.moved)

pub returns-in_err-file : goal.returns-in_err-file
unfolding head_at count_read
returns-in_err-file c =
    let l = c.loop-k in
    let count = c.in_ok-count.count in
    let f : FileFault = c.in_err-file.field-0.0 in
    let first = found_fault (sizes_read c.args.src.now (l.k + 1)) f (sym c.in_err-file.was ∙ c.add_size.ensures) in
    let all : l.k + 1 + (count - (l.k + 1)) ≡ count = omega (arith, c.loop-k-test.true) in
    let last = rw all at (kept c.args.src.now (l.k + 1) (count - (l.k + 1)) f.number f.bit first) in
    rw (
      ← c.read_or.ensures,
      c.in_ok-count.was,
      le-leb 1 _ c.if-count-lt1.false,
      le-leb _ 4 l.invariant.1,
      last,
    )
    (search rules)

pub returns : goal.returns
unfolding head_at count_read
returns c =
    let l = c.loop-k in
    let all : l.k ≡ c.in_ok-count.count = omega arith in
    rw (
      ← c.read_or.ensures,
      c.in_ok-count.was,
      le-leb 1 _ c.if-count-lt1.false,
      le-leb _ 4 l.invariant.1,
    )
    (rw all at l.invariant.2)
