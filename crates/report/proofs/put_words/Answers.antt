-- Each arm puts the definition's text for its variant; a refusal's place follows its number.
use borrow.Author.Rules.{rules}
use Rattle.report.specs.Line.{verdict_text}
use Rattle.report.proofs.Writing.{put_then}
use Rattle.report.proofs.put_words.Goals as goal

pub returns-in-Ok : goal.returns-in-Ok
unfolding verdict_text
returns-in-Ok c = record {
  put = rw c.in-Ok.is c.put_named.ensures.put;
  upper_bound = search rules;
}

pub returns-in-Err : goal.returns-in-Err
unfolding verdict_text
returns-in-Err c = record {
  put = rw c.in-Err.is
      (put_then c.put_named-next.ensures.put c.put_place.ensures.put);
  upper_bound = search rules;
}
