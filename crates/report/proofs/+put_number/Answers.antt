-- The text put is that of `decimal`: the front by the recursive call, then the last digit.
use mathlib.Core.Path.{ap}
use native.Mathlib.Omega.{arith}
use lib.ListN.{length, length-append}
use Rattle.report.proofs.Decimal.{decimal_one, decimal_more}
use Rattle.report.proofs.Writing.{put_then}
use Rattle.report.proofs.+put_number.Goals as goal

pub put-requires : goal.put-requires
put-requires t c = omega (arith, ap length (decimal_one c.args.n (omega arith)))

pub returns-then-n-lt10 : goal.returns-then-n-lt10
returns-then-n-lt10 t c = rw (decimal_one c.args.n (omega arith)) c.put.ensures

pub put_number-last-requires : goal.put_number-last-requires
put_number-last-requires t c = (omega arith, omega (arith, simp length-append at (ap length (decimal_more c.args.n (omega arith)))))

pub put-requires-2 : goal.put-requires-2
put-requires-2 t c =
    omega (arith, c.put_number-last.ensures.ends, c.put_number-last.auto.out, simp length-append at (ap length (decimal_more c.args.n (omega arith))))

pub returns : goal.returns
returns t c = rw (decimal_more c.args.n (omega arith)) (put_then c.put_number-last.ensures c.put-2.ensures)
