-- The word read is that of the table, or 0 past its end.
use mathlib.Core.Path.{◌≡◌, ap}
use Rattle.std.proofs.Common.{rules}
use Rattle.std.proofs.lemmas.Option.{unwrap_or-slice_get}
use lib.ListN.{get_or}
use Rattle.handler.specs.Terms.{term_of, term_in}
use Rattle.handler.proofs.terms.term_at.Goals as goal

pub returns : goal.returns
unfolding term_in term_of
returns c = let word : c.unwrap_or-word.result ≡ get_or c.args.table.now c.args.i 0 = search (rules, unwrap_or-slice_get) in ap term_of word
