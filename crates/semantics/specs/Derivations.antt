-- docs/RULES.md, "Derivations": derivations as trees, and the tables that their nodes name.
use Rattle.std.specs.Prelude.{ℕ, suc, ◌+◌, max, Bool, ◌&&◌, ltb}
use Rattle.semantics.specs.declared.Names.{Names}
use Rattle.semantics.specs.States.{Machine}

-- A node for each rule application; a while also names a set K and a relation W.
pub data Derivation : Type 0 where
  skip assignment : Names → Derivation
  sequence parallel : Names → Derivation → Derivation → Derivation
  conditional : Names → Derivation → Derivation
  iteration : Names → ℕ → ℕ → Derivation → Derivation
  weaken : Names → Derivation → Derivation

abbrev pub names_of : Derivation → Names
names_of (skip h) = h
names_of (assignment h) = h
names_of (sequence h l r) = h
names_of (parallel h l r) = h
names_of (conditional h d) = h
names_of (iteration h k w d) = h
names_of (weaken h d) = h

-- How many nodes a derivation has. They are numbered from 0 in file order.
abbrev pub nodes : Derivation → ℕ
nodes (skip h) = 1
nodes (assignment h) = 1
nodes (sequence h l r) = suc (nodes l + nodes r)
nodes (parallel h l r) = suc (nodes l + nodes r)
nodes (conditional h d) = suc (nodes d)
nodes (iteration h k w d) = suc (nodes d)
nodes (weaken h d) = suc (nodes d)

-- How many levels a derivation has: one for a node without child nodes; any other node is one level above its children.
abbrev pub levels : Derivation → ℕ
levels (skip h) = 1
levels (assignment h) = 1
levels (sequence h l r) = suc (max (levels l) (levels r))
levels (parallel h l r) = suc (max (levels l) (levels r))
levels (conditional h d) = suc (levels d)
levels (iteration h k w d) = suc (levels d)
levels (weaken h d) = suc (levels d)

-- The sets and relations by number, over the states of a machine.
pub record Tables : Type 0 where
  pub machine : Machine
  pub sets : ℕ → ℕ → Bool
  pub relations : ℕ → ℕ → ℕ → Bool

-- The four tables of a node, given by their members.
pub record Spec : Type 0 where
  pub P : ℕ → Bool
  pub R : ℕ → ℕ → Bool
  pub G : ℕ → ℕ → Bool
  pub Q : ℕ → ℕ → Bool

-- Membership in a set and in a relation. A number that is no state is in none.
abbrev pub set_of : Tables → ℕ → ℕ → Bool
set_of t i s = ltb s t.machine.states && t.sets i s

abbrev pub relation_of : Tables → ℕ → ℕ → ℕ → Bool
relation_of t i s u = ltb s t.machine.states && ltb u t.machine.states && t.relations i s u

abbrev pub spec_of : Tables → Names → Spec
spec_of t h = record { P = set_of t h.p; R = relation_of t h.r; G = relation_of t h.g; Q = relation_of t h.q }
