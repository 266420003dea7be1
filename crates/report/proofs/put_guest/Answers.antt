-- The word and the number, and then a space; `decimal_short_32` bounds the digits.
use native.Mathlib.Omega.{arith}
use Rattle.report.specs.Line.{guest_text}
use Rattle.report.proofs.Decimal.{decimal_short_32}
use Rattle.report.proofs.Writing.{put_then}
use Rattle.report.proofs.put_guest.Goals as goal

pub returns : goal.returns
unfolding guest_text
returns c =
    let place = c.args.place in record {
      put = put_then c.put_named-next.ensures.put c.put.ensures;
      upper_bound = omega (arith, c.put_named-next.ensures.put.ends, c.put.ensures.ends, decimal_short_32 place (omega arith));
    }
