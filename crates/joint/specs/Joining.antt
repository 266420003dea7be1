-- docs/COMPOSITION.md, "The result": the parallel of two handlers, the first one left, and a derivation of it from theirs.
use Rattle.std.specs.Prelude.{ℕ, ◌&&◌, ◌||◌, List, [], ◌∷◌}
use Rattle.bits.specs.Fields.{bits_at}
use Rattle.writer.specs.Packing.{Part, part}
use Rattle.states.specs.Relations.{reach}
use Rattle.semantics.specs.declared.Names.{Names}
use Rattle.semantics.specs.Derivations.{Derivation, parallel, weaken, Spec}
use Rattle.form.specs.Members.{set_where, relation_where}

-- Over n states, a and b being the tables of the two roots.
module _ (n : ℕ) (a b : Spec) where
  -- The root: P is both P met, R both R met, G both G joined; Q has the pairs (s,t) of both Q with s in P and t reached from s by zero
  -- or more pairs of R or either G.
  abbrev pub root_spec : Spec
  root_spec = record {
    P = λ s. a.P s && b.P s;
    R = λ s t. a.R s t && b.R s t;
    G = λ s t. a.G s t || b.G s t;
    Q = λ s t. a.P s && b.P s && a.Q s t && b.Q s t && reach n (λ u v. a.R u v && b.R u v || a.G u v || b.G u v) s t;
  }

  -- The left side under its weaken node: the root's P, its R joined with the other side's G, and the side's own G and Q. Then the right.
  abbrev pub left_spec : Spec
  left_spec = record { P = root_spec.P; R = λ s t. root_spec.R s t || b.G s t; G = a.G; Q = a.Q }

  abbrev pub right_spec : Spec
  right_spec = record { P = root_spec.P; R = λ s t. root_spec.R s t || a.G s t; G = b.G; Q = b.Q }

-- Four tables, each named by its members.
unfoldable pub members_of : ℕ → Spec → Names
members_of n c = record { p = set_where n c.P; r = relation_where n c.R; g = relation_where n c.G; q = relation_where n c.Q }

-- The derivation, with each table by its members: the parallel of both sides, each under one weaken node.
unfoldable pub joined : ℕ → Spec → Spec → Derivation → Derivation → Derivation
joined n a b x y =
    parallel (members_of n (root_spec n a b)) (weaken (members_of n (left_spec n a b)) x) (weaken (members_of n (right_spec n a b)) y)

-- The fields of the handler file: the head of the first file, 3 bits for parallel, and both statements, bit for bit. Each statement is
-- given by its first bit and its width.
unfoldable pub handler_parts : List ℕ → ℕ → ℕ → List ℕ → ℕ → ℕ → List Part
handler_parts h at width h' at' width' =
    part at (bits_at h 0 at) ∷ part 3 3 ∷ part width (bits_at h at width) ∷ part width' (bits_at h' at' width') ∷ []
