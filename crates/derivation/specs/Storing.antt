-- For the contracts of the crate's own functions that store a node; no public contract cites these.
use Rattle.std.specs.Prelude.{ℕ, ◌<◌}
use Rattle.derivation.specs.declared.Node.{Node}
use Rattle.derivation.specs.declared.NodeHead.{NodeHead}

-- A node whose fields have room in a word beside the bit.
pub record Fits (x : Node) : Type 0 where
  pub rule_fits : x.rule < 8
  pub P-fits : x.names.p < 16
  pub R-fits : x.names.r < 16
  pub G-fits : x.names.g < 16
  pub Q-fits : x.names.q < 16
  pub K-fits : x.k < 16
  pub W-fits : x.w < 16
  pub after_fits : x.after < 128

-- A node of which the head was read, with the number of the node after its first child, and the bit at which it begins.
abbrev pub record_of : NodeHead → ℕ → ℕ → Node
record_of x after bit = record { rule = x.rule; names = x.names; k = x.k; w = x.w; after = after; bit = bit }
