-- Each arm puts the definition's text for its variant.
use borrow.Author.Rules.{rules}
use Rattle.report.specs.Line.{place_text}
use Rattle.report.proofs.put_place.Goals as goal

pub returns-in-Bit : goal.returns-in-Bit
unfolding place_text
returns-in-Bit c = record {
  put = rw c.in-Bit.is c.put_named.ensures.put;
  upper_bound = search rules;
}

pub returns-in-Node : goal.returns-in-Node
unfolding place_text
returns-in-Node c = record {
  put = rw c.in-Node.is c.put_named-in-Node.ensures.put;
  upper_bound = search rules;
}
