-- The representatives, the mentions and the names are those of the derivation that was read (`numbers`).
use Prim.Native.Nat.{ℕ, ◌≤◌}
use mathlib.Core.Path.{◌≡◌, sym, ◌∙◌}
use native.Mathlib.Omega.{arith}
use borrow.Author.Rules.{rules}
use lib.ListN.{length}
use Rattle.states.specs.Sets.{capacity}
use Rattle.semantics.specs.Derivations.{Derivation}
use Rattle.derivation.specs.Tables.{most_tables}
use Rattle.derivation.specs.Reading.{proof}
use Rattle.derivation.proofs.Files.{read_known}
use Rattle.form.proofs.FileRead.{states_most}
use Rattle.canonical.proofs.Numbered.{nodes_inside, numbers}
use Rattle.canonical.proofs.mentions.number.Goals.{Start}
use Rattle.canonical.proofs.mentions.number.Goals as goal

proof_same : (sets relations root : ℕ) (x y : Derivation) → proof sets relations root x ≡ proof sets relations root y → x ≡ y
proof_same sets relations root x y e = cc

few : (c : Start) → (c.args.n ≤ capacity) × (c.args.head.sets ≤ most_tables) × (c.args.head.relations ≤ most_tables)
few c =
    let s = read_known _ _ _ _ _ _ c.requires.read in
    (states_most _ _ _ _ _ _ c.requires.read, s.sets_most, s.relations_most)

-- The table has a word for each node.
inside : (c : Start) → c.args.head.nodes ≤ length c.args.nodes.now
inside c = rw (c.requires.counted, c.requires.table) (nodes_inside _ c.requires.d)

pub representatives_of-reps-requires : goal.representatives_of-reps-requires
representatives_of-reps-requires c = few (goal.at.representatives_of-reps-requires c).Start

pub mention_nodes-counts-requires : goal.mention_nodes-counts-requires
mention_nodes-counts-requires c = (inside (goal.at.mention_nodes-counts-requires c).Start, omega arith, omega arith)

pub returns : goal.returns
returns c = λ d e.
    let pre = c.requires in
    let a = c.args in
    let reps = c.representatives_of-reps.ensures in
    let listed_sets = rw (pre.counted, pre.table) at c.mention_nodes-counts.ensures.sets in
    let listed_relations = rw (pre.counted, pre.table) at c.mention_nodes-counts.ensures.relations in
    let same : pre.d ≡ d = proof_same _ _ _ _ _ (sym pre.read ∙ e) in
    rw (← same)
    (numbers a.src.now a.n a.head.sets a.head.relations a.head.root pre.d pre.read _ _ reps.sets reps.relations
    _ _ _ _ _ _ listed_sets listed_relations (search rules) (search rules) _ _ c.names_of-set_names.ensures c.names_of-relation_names.ensures)
