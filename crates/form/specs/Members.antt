-- docs/FORMAT.md, "One form": a derivation with its tables by their members. The members of a table are the number that its bits write:
-- two tables over the same N have equal members exactly if these numbers are equal.
use Rattle.std.specs.Prelude.{ℕ, ◌*◌, ◌/◌, ◌%◌, Bool, List}
use Rattle.bits.specs.Fields.{bits_at}
use Rattle.states.specs.Sets.{bits_where}
use Rattle.semantics.specs.declared.Names.{Names}
use Rattle.semantics.specs.Derivations.{Derivation, skip, assignment, sequence, parallel, conditional, iteration, weaken}
use Rattle.derivation.specs.declared.Node.{Node}
use Rattle.derivation.specs.Tables.{set_at, row_at}

-- A derivation with other names for its tables, and a node: f gives those of the sets, g those of the relations. The rules stay.
abbrev pub names_by : (ℕ → ℕ) → (ℕ → ℕ) → Names → Names
names_by f g h = record { p = f h.p; r = g h.r; g = g h.g; q = g h.q }

abbrev pub node_by : (ℕ → ℕ) → (ℕ → ℕ) → Node → Node
node_by f g x = record { rule = x.rule; names = names_by f g x.names; k = f x.k; w = g x.w; after = x.after; bit = x.bit }

unfoldable pub rename : (ℕ → ℕ) → (ℕ → ℕ) → Derivation → Derivation
rename f g (skip h) = skip (names_by f g h)
rename f g (assignment h) = assignment (names_by f g h)
rename f g (sequence h l r) = sequence (names_by f g h) (rename f g l) (rename f g r)
rename f g (parallel h l r) = parallel (names_by f g h) (rename f g l) (rename f g r)
rename f g (conditional h d) = conditional (names_by f g h) (rename f g d)
rename f g (iteration h K W d) = iteration (names_by f g h) (f K) (g W) (rename f g d)
rename f g (weaken h d) = weaken (names_by f g h) (rename f g d)

-- The members of set i over n states, and of relation r where there are so many sets: all its rows, one after the other.
unfoldable pub set_members : List ℕ → ℕ → ℕ → ℕ
set_members bytes n i = bits_at bytes (set_at n i) n

unfoldable pub relation_members : List ℕ → ℕ → ℕ → ℕ → ℕ
relation_members bytes n sets r = bits_at bytes (row_at n sets r 0) (n * n)

-- A derivation of a proof file, each table by its members.
unfoldable pub by_members : List ℕ → ℕ → ℕ → Derivation → Derivation
by_members bytes n sets d = rename (set_members bytes n) (relation_members bytes n sets) d

-- The members of the set of the states below n, and of the relation of the pairs between them, at which a test holds.
unfoldable pub set_where : ℕ → (ℕ → Bool) → ℕ
set_where n p = bits_where n p

unfoldable pub relation_where : ℕ → (ℕ → ℕ → Bool) → ℕ
relation_where n r = bits_where (n * n) (λ k. r (k / n) (k % n))
