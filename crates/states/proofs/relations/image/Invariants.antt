-- The ends found so far and the rows of the states left are those of all states of the set that have a row.
use Rattle.states.proofs.Members.{Gathered}
use Rattle.states.proofs.relations.image.Given as goal

abbrev pub invariant-loop-s : goal.invariant-loop-s
invariant-loop-s l = Gathered l.there l.rows l.initial.s-iterator.rest l.s-iterator.rest l.ends
