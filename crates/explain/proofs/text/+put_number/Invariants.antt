-- The number has one digit fewer in each call.
use Rattle.explain.proofs.text.+put_number.Given as goal

abbrev pub decreases-put_number : goal.decreases-put_number
decreases-put_number l = l.n
