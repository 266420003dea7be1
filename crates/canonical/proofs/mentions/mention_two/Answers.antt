-- One mention after the other.
use mathlib.Core.List.{[], ◌∷◌}
use borrow.Author.Rules.{rules}
use Rattle.canonical.proofs.Order.{named_below, listing_after, after_again}
use Rattle.canonical.proofs.mentions.mention_two.Goals as goal

pub mention_one-requires : goal.mention_one-requires
mention_one-requires c =
    listing_after _ _ _ _ _ c.requires (search rules) (named_below c.args.reps.now (c.args.i ∷ [])) c.mention_one-after.ensures

pub returns : goal.returns
returns c = after_again _ _ _ _ _ _ _ _ c.mention_one-after.ensures c.mention_one.ensures
