-- A declared variable has its entry in the array of sizes, if there is one; the size of any other is 1.
use mathlib.Core.Path.{◌≡◌, sym, ◌∙◌}
use Rattle.std.proofs.Common.{rules}
use Rattle.std.proofs.lemmas.Option.{unwrap_or-slice_get}
use lib.ListN.{get_or}
use lib.Seq.{get_or-take}
use Rattle.handler.specs.Header.{sizes_in}
use Rattle.handler.proofs.Heads.{size_past}
use Rattle.handler.proofs.head.size_of.Goals as goal

pub returns-then-v-head : goal.returns-then-v-head
returns-then-v-head c = sym (size_past _ _ c.if-v-head.true)

pub returns : goal.returns
unfolding sizes_in
returns c =
    let head = c.args.head in
    let entry : c.unwrap_or.result ≡ get_or head.sizes c.args.v 1 = search (rules, unwrap_or-slice_get) in
    entry ∙ sym (get_or-take head.count head.sizes c.args.v 1 c.if-v-head.false)
