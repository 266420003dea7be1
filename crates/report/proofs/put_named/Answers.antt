-- The word, then the number: `put_then` joins them, and `decimal_short` bounds the digits.
use native.Mathlib.Omega.{arith}
use Rattle.report.proofs.Decimal.{decimal_short}
use Rattle.report.proofs.Writing.{put_then}
use Rattle.report.proofs.put_named.Goals as goal

pub put_number-requires : goal.put_number-requires
put_number-requires c =
    let n = c.args.n in
    omega (arith, c.put-next.ensures.ends, c.put-next.auto.out, decimal_short n (omega arith))

pub returns : goal.returns
returns c =
    let n = c.args.n in record {
      put = put_then c.put-next.ensures c.put_number.ensures;
      upper_bound = omega (arith, c.put-next.ensures.ends, c.put_number.ensures.ends, decimal_short n (omega arith));
    }
