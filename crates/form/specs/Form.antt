-- docs/FORMAT.md, "One form": the proof file of a derivation that names its tables by their members.
use Rattle.std.specs.Prelude.{ℕ, ◌*◌, cond, List, [], ◌∷◌, ◌++◌, map, eqb, length}
use Rattle.writer.specs.Packing.{Part, part, packed}
use Rattle.semantics.specs.Derivations.{Derivation}
use Rattle.derivation.specs.declared.Node.{Node}
use Rattle.form.specs.Members.{rename}
use Rattle.form.specs.Mentions.{sets_of, relations_of, in_order, place_in, distinct}

-- Its sets and its relations, numbered by first mention: equal ones are one, and there are no others.
unfoldable pub sets_in : Derivation → List ℕ
sets_in x = distinct (in_order sets_of x)

unfoldable pub relations_in : Derivation → List ℕ
relations_in x = distinct (in_order relations_of x)

-- The derivation with these numbers as names.
unfoldable pub numbered : Derivation → Derivation
numbered x = rename (place_in (sets_in x)) (place_in (relations_in x)) x

-- The fields of a node: 3 bits rule, then 4 bits each for P, R, G, Q; a while adds 4 bits K and 4 bits W.
unfoldable pub parts_of : Node → List Part
parts_of x =
    part 3 x.rule
    ∷ part 4 x.names.p
    ∷ part 4 x.names.r
    ∷ part 4 x.names.g
    ∷ part 4 x.names.q
    ∷ cond (eqb x.rule 5) (part 4 x.k ∷ part 4 x.w ∷ []) []

-- The fields of a proof file over n states: 5 bits number of sets, 5 bits number of relations, the sets, the relations, the nodes.
unfoldable pub file_parts : ℕ → List ℕ → List ℕ → Derivation → List Part
file_parts n sets relations d =
    part 5 (length sets)
    ∷ part 5 (length relations)
    ∷ (map (part n) sets ++ (map (part (n * n)) relations ++ in_order parts_of d))

-- The one form of a derivation that names its tables by their members.
unfoldable pub form_of : ℕ → Derivation → List ℕ
form_of n x = packed (file_parts n (sets_in x) (relations_in x) (numbered x))
