-- The places of the code are those of the table of facts, and past it there is none.
use mathlib.Core.Path.{sym, ap}
use lib.ListN.{get_or-map, get_or-eq_default}
use Rattle.semantics.specs.Facts.{Fact, no_place, facts}
use Rattle.semantics.proofs.place_of.Goals as goal

pub returns-then-number-lt81 : goal.returns-then-number-lt81
returns-then-number-lt81 c = get_or-map (λ (f : Fact). f.place) facts c.args.number no_place

pub returns : goal.returns
returns c = sym (ap (λ (f : Fact). f.place) (get_or-eq_default facts no_place c.if-number-lt81.false))
