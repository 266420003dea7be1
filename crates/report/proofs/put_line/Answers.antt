-- The newline is put after the line's text, and then the whole line at the front if there is room.
use Prim.Native.Nat.{ℕ}
use mathlib.Core.Path.{◌≡◌, refl}
use mathlib.Core.List.{List, ◌++◌}
use native.Mathlib.Omega.{arith}
use borrow.Author.Tests.{le-leb, lt-leb}
use lib.ListN.{length, take, length-append}
use lib.Seq.{length-take-le}
use Rattle.report.specs.Line.{ascii, line_into, line_length}
use Rattle.report.proofs.Writing.{whole}
use Rattle.report.proofs.put_line.Goals.{After-put-n}
use Rattle.report.proofs.put_line.Goals as goal

-- The text that is given, and a newline.
abbrev line : After-put-n → List ℕ
line c = let a = c.args in take a.end a.line.now ++ ascii "\n"

-- The bytes up to the newline are the line, and as many as it has.
made : (c : After-put-n) → (c.put-n.result ≡ length (line c)) × (take c.put-n.result c.put-n.new.out ≡ line c)
made c =
    let a = c.args in
    let p = c.put-n.ensures in
    (rw length-append (omega (arith, p.ends, length-take-le a.end a.line.now (omega arith))), p.front)

pub put-requires : goal.put-requires
put-requires c = let l = made (goal.at.put-requires c).After-put-n in rw l.1 (omega arith)

pub returns-then-n-out : goal.returns-then-n-out
unfolding line_length line_into
returns-then-n-out c =
    let p = (goal.at.returns-then-n-out c).After-put-n in
    let l = made p in
    rw (le-leb (length (line p)) (length p.args.out.now) (omega arith))
    (whole (rw l.1 at c.put.ensures))

pub returns-else-n-out : goal.returns-else-n-out
unfolding line_length line_into
returns-else-n-out c =
    let p = (goal.at.returns-else-n-out c).After-put-n in
    let l = made p in
    rw (lt-leb (length (line p)) (length p.args.out.now) (omega arith)) (refl, refl)
