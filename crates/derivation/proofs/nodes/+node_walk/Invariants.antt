-- Each call has a level less to go.
use Rattle.derivation.proofs.nodes.+node_walk.Given as goal

abbrev pub decreases-node_walk : goal.decreases-node_walk
decreases-node_walk l = l.levels
