-- By cases of what reading the pair found. The first node of the table is the root (`root_names`).
use Prim.Native.Nat.{ℕ}
use mathlib.Core.List.{List}
use mathlib.Core.Path.{◌≡◌, refl, sym, ◌∙◌, ap}
use Rattle.std.specs.Prelude.{Ok, Err}
use Rattle.semantics.specs.Derivations.{names_of}
use Rattle.handler.specs.Header.{head_of}
use Rattle.derivation.specs.NodeTable.{node_in}
use Rattle.pair.specs.declared.PairFault.{PairFault}
use Rattle.pair.specs.declared.PairFault.TheVariants.{TooLong, At}
use Rattle.pair.specs.Reading.{read_pair, pair_file}
use Rattle.pair.proofs.Cases.{read_holds}
use Rattle.pair.proofs.Found.{FoundPair, found_long, found_fault, found_pair}
use Rattle.report.specs.Root.{root_number, root_of}
use Rattle.report.proofs.RootTables.{names_small, root_names}
use Rattle.report.proofs.root.root_number.Goals.{After-node_at-root}
use Rattle.report.proofs.root.root_number.Goals as goal

-- The pair that was found.
held : (c : After-node_at-root) → let a = c.args in FoundPair (read_pair a.handler.now a.proof.now) c.in-Ok.file
held c = found_pair _ _ (sym c.read_pair.ensures ∙ c.in-Ok.is)

-- The names of the first node are those of the root.
names : (c : After-node_at-root) → c.node_at-root.result.names ≡ names_of (held c).held.derivation
names c =
    let f = held c in
    ap (λ x. x.names) (c.node_at-root.ensures ∙ ap (λ y. node_in y.nodes 0) f.kept)
    ∙ root_names _ _ _ _ _ _ (read_holds _ _ _ f.read).proof_read

-- Where the pair is not read, there is no root.
not_read : (hb pb : List ℕ) (fault : PairFault) → pair_file (read_pair hb pb) ≡ Err fault → 0 ≡ root_of hb pb
unfolding root_of
not_read hb pb TooLong is = rw (found_long _ is)
not_read hb pb (At fault) is = rw (found_fault _ _ is)

pub pack-requires : goal.pack-requires
pack-requires c =
    let p = (goal.at.pack-requires c).After-node_at-root in
    rw (names p) (names_small _ _ _ _ _ _ (read_holds _ _ _ (held p).read).proof_read)

pub returns-in_default : goal.returns-in_default
returns-in_default c = not_read _ _ _ (sym c.read_pair.ensures ∙ c.in_default.is)

pub returns : goal.returns
unfolding root_of head_of
returns c =
    let p = (goal.at.returns c).After-node_at-root in
    let f = held p in
    rw f.read (c.pack.ensures ∙ (λ j. root_number (f.kept j).head.states (names p j)))
