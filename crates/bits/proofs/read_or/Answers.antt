use Rattle.std.proofs.Common.{rules}
use Rattle.bits.specs.Fields.{field_or}
use Rattle.bits.proofs.read_or.Goals as goal

pub returns : goal.returns
unfolding field_or
returns c = search rules
