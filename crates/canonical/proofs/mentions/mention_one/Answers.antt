-- A name is below 16.
use borrow.Author.Rules.{rules}
use Rattle.canonical.proofs.Order.{name_below}
use Rattle.canonical.proofs.mentions.mention_one.Goals as goal

pub mention-requires : goal.mention-requires
mention-requires c = (search rules, rw c.name_in.ensures (name_below _ _))
