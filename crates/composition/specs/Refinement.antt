-- What the private functions require and ensure. No public contract uses this.
use Rattle.std.specs.Prelude.{ℕ, suc, ◌+◌, ◌-◌, ◌*◌, ◌^◌, ◌≤◌, ◌<◌, min, max, Bool, cond, ◌&&◌, List, [], ◌∷◌, ◌++◌, map, ◌≡◌, leb, length, take, get_or, Result, Ok, Err, ⊤}
use Rattle.writer.specs.Packing.{Part, part, width_of, bytes_for, packed}
use Rattle.states.specs.Sets.{capacity, has}
use Rattle.states.specs.Relations.{rel}
use Rattle.semantics.specs.Derivations.{Derivation, Spec, names_of, nodes, levels}
use Rattle.semantics.specs.Conditions.{relation_lies_in}
use Rattle.semantics.specs.StepNumber.{most_steps}
use Rattle.semantics.specs.States.{product}
use Rattle.handler.specs.declared.HandlerSummary.{HandlerSummary}
use Rattle.handler.specs.Kinds.{stmt_width}
use Rattle.handler.specs.Statements.{most_statements, most_statement_levels}
use Rattle.handler.specs.StatementTable.{statements, stmt_levels}
use Rattle.derivation.specs.Reading as Proofs
use Rattle.derivation.specs.Tables.{most_tables, tabulate}
use Rattle.derivation.specs.declared.Node.{Node}
use Rattle.derivation.specs.declared.ProofHead.{ProofHead}
use Rattle.derivation.specs.Nodes.{most_nodes, most_node_levels}
use Rattle.derivation.specs.NodeTable.{node_table}
use Rattle.pair.specs.Limits.{most_handler_bytes, most_proof_bytes}
use Rattle.pair.specs.Modes.{rows}
use Rattle.rules.specs.Words.{word_set, word_relation, word_spec}
use Rattle.checker.specs.Verdicts.{answer}
use Rattle.report.specs.Code.{index_of}
use Rattle.form.specs.Members.{node_by, set_where, relation_where}
use Rattle.form.specs.Mentions.{place_in, mentioned, all_mentioned}
use Rattle.form.specs.Form.{sets_in, relations_in, numbered, parts_of}
use Rattle.form.proofs.Forms.{Writable}
use Rattle.canonical.specs.Nodes.{name_in, held_in}
use Rattle.composition.specs.Answers.{Composed}
use Rattle.composition.specs.declared.tables.Roots.{Roots}
use Rattle.composition.specs.declared.forms.Form.{Form}
use Rattle.composition.specs.declared.joining.Handlers.{Handlers}
use Rattle.composition.specs.declared.joining.Lengths.{Lengths}
use Rattle.composition.specs.declared.numbering.SetNumbers.{SetNumbers}
use Rattle.composition.specs.declared.numbering.SideNumbers.{SideNumbers}
use Rattle.composition.specs.declared.numbering.RelationNumbers.{RelationNumbers}
use Rattle.composition.specs.declared.pool.Mention.{Mention}
use Rattle.composition.specs.declared.pool.Three.{Three}
use Rattle.joint.specs.Joining.{root_spec, left_spec, right_spec, handler_parts}
use Rattle.joint.specs.Composing.{Side, side_of, Composition, made, refused, plain, asked, stays_in, limited}

-- The new tables of two roots over n states.
pub record Joint (n : ℕ) (a b : Spec) (x : Roots) : Type 0 where
  pub P-is : (s : ℕ) → has x.p s ≡ (root_spec n a b).P s
  pub R-is : (s t : ℕ) → rel n x.r s t ≡ (root_spec n a b).R s t
  pub G-is : (s t : ℕ) → rel n x.g s t ≡ (root_spec n a b).G s t
  pub Q-is : (s t : ℕ) → rel n x.q s t ≡ (root_spec n a b).Q s t
  pub left_R_is : (s t : ℕ) → rel n x.left s t ≡ (left_spec n a b).R s t
  pub right_R_is : (s t : ℕ) → rel n x.right s t ≡ (right_spec n a b).R s t

-- The first `count` sets of words, and the first relations, by their members over n states.
unfoldable pub sets_held : ℕ → List ℕ → ℕ → List ℕ
sets_held n words count = tabulate count (λ i. set_where n (word_set n words i))

unfoldable pub relations_held : ℕ → List ℕ → ℕ → List ℕ
relations_held n words count = tabulate count (λ r. relation_where n (word_relation n words r))

-- Words in which relation `index` was stored: it is r, and the relations before it stay.
pub record RelationStored (n : ℕ) (entry : List ℕ) (index : ℕ) (r : ℕ → ℕ → Bool) (exit : List ℕ) : Type 0 where
  pub here : (s t : ℕ) → word_relation n exit index s t ≡ r s t
  pub before : (i : ℕ) → i < index → word_relation n exit i ≡ word_relation n entry i

-- Words keep the tables that are mentioned as long as there are at most 16; then only their count says that there are more.
abbrev pub Kept : List ℕ → ℕ → List ℕ → Type 0
Kept held count seen = (count ≤ most_tables → held ≡ seen) × (most_tables < count → most_tables < length seen)

-- A list after the mention of x: its place, and how many there are then.
pub record Mentioned (before after : List ℕ) (x : ℕ) (m : Mention) : Type 0 where
  pub place_is : m.count ≤ most_tables → m.place ≡ place_in before x
  pub kept : Kept after m.count (mentioned before x)

-- A list after the mentions of an R, a G and a Q.
pub record ThreeMentioned (before after : List ℕ) (r g q : ℕ) (m : Three) : Type 0 where
  pub kept : Kept after m.count (all_mentioned before (r ∷ g ∷ q ∷ []))
  pub R-is : m.count ≤ most_tables → m.r ≡ place_in after r
  pub G-is : m.count ≤ most_tables → m.g ≡ place_in after g
  pub Q-is : m.count ≤ most_tables → m.q ≡ place_in after q

-- A list after the mentions of xs, in their order, with the place of each.
pub record Listed (before xs after names : List ℕ) : Type 0 where
  pub listed : after ≡ all_mentioned before xs
  pub named : (i : ℕ) → i < length xs → get_or names i 0 ≡ place_in after (get_or xs i 0)

-- The same with a count: over 16 it says that there are more than 16.
pub record Merged (before xs after : List ℕ) (count : ℕ) (names : List ℕ) : Type 0 where
  pub within : count ≤ most_tables → Listed before xs after names
  pub over : most_tables < count → most_tables < length (all_mentioned before xs)

-- A pair of files that the check accepted.
pub record WasAccepted (hb pb : List ℕ) : Type 0 where
  pub words : ℕ
  pub steps : ℕ
  pub accepted : (answer hb pb rows words).verdict ≡ Ok steps

-- What is taken from a pair of files over n states, as its proof file's one form holds it, with the tables in words.
pub record Formed (n : ℕ) (side : Side) (words : List ℕ) (f : Form) : Type 0 where
  pub set_count : f.head.sets ≡ length (sets_in side.derivation)
  pub relation_count : f.head.relations ≡ length (relations_in side.derivation)
  pub node_count : f.head.nodes ≡ nodes side.derivation
  pub level_count : f.head.levels ≡ levels side.derivation
  pub table_is : f.nodes ≡ node_table f.head.root (numbered side.derivation)
  pub names_are : f.names ≡ names_of (numbered side.derivation)
  pub sets_are : sets_held n words (length (sets_in side.derivation)) ≡ sets_in side.derivation
  pub relations_are : relations_held n words (length (relations_in side.derivation)) ≡ relations_in side.derivation
  pub tables_are : word_spec n words f.names ≡ side.tables

-- Each of xs has its place in a list as its name.
abbrev pub NamedIn : List ℕ → List ℕ → List ℕ → Type 0
NamedIn held xs names = (i : ℕ) → i < length xs → get_or names i 0 ≡ place_in held (get_or xs i 0)

-- The sets of the result: P, those of the first form and those of the second.
pub record SetsNumbered (p : ℕ) (xs ys held : List ℕ) (m : SetNumbers) : Type 0 where
  pub kept : Kept held m.count (all_mentioned (all_mentioned (p ∷ []) xs) ys)
  pub first_named : m.count ≤ most_tables → NamedIn held xs m.first
  pub second_named : m.count ≤ most_tables → NamedIn held ys m.second

-- An R, a G and a Q by number, in this order.
abbrev pub three_of : ℕ → ℕ → ℕ → List ℕ
three_of r g q = r ∷ g ∷ q ∷ []

-- The names that three mentions have in a list.
pub record ThreeIn (held : List ℕ) (r g q : ℕ) (m : Three) : Type 0 where
  pub R-is : m.r ≡ place_in held r
  pub G-is : m.g ≡ place_in held g
  pub Q-is : m.q ≡ place_in held q

-- The relations of one side after those that are there: those of the weaken node and those of the form.
pub record SideNumbered (seen : List ℕ) (r g q : ℕ) (xs held : List ℕ) (m : SideNumbers) : Type 0 where
  pub kept : Kept held m.count (all_mentioned (all_mentioned seen (three_of r g q)) xs)
  pub node_named : m.count ≤ most_tables → ThreeIn held r g q m.node
  pub named : m.count ≤ most_tables → NamedIn held xs m.names

-- The relations of the result: those of the root, of the left weaken node, of the first form, of the right weaken node, of the second form.
pub record RelationsNumbered (r g q lr lg lq : ℕ) (xs : List ℕ) (rr rg rq : ℕ) (ys held : List ℕ) (m : RelationNumbers) : Type 0 where
  pub kept : Kept held m.right.count
      (all_mentioned (all_mentioned (all_mentioned (all_mentioned (all_mentioned [] (three_of r g q)) (three_of lr lg lq)) xs) (three_of rr rg rq)) ys)
  pub root_named : m.right.count ≤ most_tables → ThreeIn held r g q m.root
  pub left_named : m.right.count ≤ most_tables → ThreeIn held lr lg lq m.left.node
  pub first_named : m.right.count ≤ most_tables → NamedIn held xs m.left.names
  pub right_named : m.right.count ≤ most_tables → ThreeIn held rr rg rq m.right.node
  pub second_named : m.right.count ≤ most_tables → NamedIn held ys m.right.names

-- A new node: its rule, P, which is set 0, and the numbers of its R, G and Q. Its place in the table is not looked at.
abbrev pub new_node : ℕ → Three → Node
new_node rule m = record { rule = rule; names = record { p = 0; r = m.r; g = m.g; q = m.q }; k = 0; w = 0; after = 0; bit = 0 }

-- The fields of a weaken node and of the nodes of the form below it, under new names.
unfoldable pub side_parts : Three → List ℕ → List ℕ → List ℕ → ℕ → List Part
side_parts node sets relations nodes count =
    parts_of (new_node 6 node) ++ held_in (λ x. parts_of (node_by (name_in sets) (name_in relations) x)) (take (min count most_nodes) nodes)

-- Numbers of relations that a node has room for.
abbrev pub SmallNames : Three → Type 0
SmallNames m = (m.r < 16) × (m.g < 16) × (m.q < 16)

abbrev pub AllSmall : RelationNumbers → Type 0
AllSmall k = SmallNames k.root × SmallNames k.left.node × SmallNames k.right.node

-- How many bits the nodes of a form have.
unfoldable pub form_bits : Form → ℕ
form_bits f = width_of (held_in parts_of (take (min f.head.nodes most_nodes) f.nodes))

-- The fields of all nodes, and of the whole proof file with sets S and relations T.
unfoldable pub node_parts : RelationNumbers → SetNumbers → Form → Form → List Part
node_parts k m a b =
    parts_of (new_node 3 k.root)
    ++ (side_parts k.left.node m.first k.left.names a.nodes a.head.nodes
    ++ side_parts k.right.node m.second k.right.names b.nodes b.head.nodes)

unfoldable pub proof_parts : ℕ → List ℕ → List ℕ → List Part → List Part
proof_parts n S T nodes = part 5 (length S) ∷ part 5 (length T) ∷ (map (part n) S ++ (map (part (n * n)) T ++ nodes))

-- How many bits the proof file has.
unfoldable pub proof_bits : ℕ → SetNumbers → RelationNumbers → Form → Form → ℕ
proof_bits n m k a b = 10 + n * m.count + n * n * k.right.count + (57 + form_bits a + form_bits b)

-- The largest first bit of the nodes: after the counts, 16 sets and 16 relations; and the largest number of bits with the three new nodes and
-- as many nodes of each form as there can be.
abbrev pub most_root_bit : ℕ
most_root_bit = 10 + capacity * most_tables + capacity * capacity * most_tables

abbrev pub most_proof_bits : ℕ
most_proof_bits = most_root_bit + (57 + 27 * most_nodes + 27 * most_nodes)

-- A proof file was read without fault.
abbrev pub IsProof : Proofs.ProofRead → Type 0
IsProof r = (sets : ℕ) × (relations : ℕ) × (root : ℕ) × (d : Derivation) × (r ≡ Proofs.proof sets relations root d)

-- The form that is loaded from a proof file with so many sets and relations, its root at a bit.
abbrev pub form_read : ℕ → ℕ → ℕ → Derivation → Form
form_read sets relations root d = record {
  head = record { sets = sets; relations = relations; nodes = nodes d; levels = levels d; root = root };
  names = names_of d;
  nodes = node_table root d;
}

-- The first of 91, 92 and 93 that the tables of two roots over n states do not meet.
unfoldable pub first_unmet : ℕ → Spec → Spec → Result ⊤ ℕ
first_unmet n a b =
    let P = (root_spec n a b).P in
    cond (relation_lies_in n b.G a.R) (cond (relation_lies_in n a.G b.R) (cond (stays_in n P a.G && stays_in n P b.G) (Ok tt) (Err 93)) (Err 92)) (Err 91)

-- A statement that lies within a file.
pub record Placed (s : HandlerSummary) : Type 0 where
  pub starts : s.at ≤ s.end
  pub ends : s.end ≤ 8 * most_handler_bytes

-- The fields of the handler file.
abbrev pub both_parts : List ℕ → List ℕ → Handlers → List Part
both_parts h h' x = handler_parts h x.first.at (x.first.end - x.first.at) h' x.second.at (x.second.end - x.second.at)

-- The lengths of both files.
pub record LengthsAre (n : ℕ) (x : Handlers) (f g : Form) (m : SetNumbers) (k : RelationNumbers) (l : Lengths) : Type 0 where
  pub handler_is : l.handler ≡ bytes_for (x.first.at + 3 + (x.first.end - x.first.at) + (x.second.end - x.second.at))
  pub proof_is : l.proof ≡ bytes_for (proof_bits n m k f g)

-- Whether files of these lengths with this step number are within the limits of 94 that are no counts.
abbrev pub lengths_fit : ℕ → ℕ → ℕ → Bool
lengths_fit handler proof steps = leb handler most_handler_bytes && leb proof most_proof_bytes && leb steps most_steps

-- 94 or 95, where files of these lengths and this step number have it.
unfoldable pub length_fault : ℕ → ℕ → ℕ → ℕ → ℕ → Result ⊤ ℕ
length_fault handler proof steps room space =
    cond (lengths_fit handler proof steps) (cond (leb handler room && leb proof space) (Ok tt) (Err 95)) (Err 94)

-- Both files where no count is over its limit: 94 is asked of their lengths and of the step number.
abbrev pub if_fit : ℕ → List ℕ → List ℕ → Composition
if_fit steps handler proof = asked 94 (lengths_fit (length handler) (length proof) steps) (made steps handler proof)

abbrev pub files_of : ℕ → List ℕ → List ℕ → Handlers → Form → Form → List ℕ → SetNumbers → List ℕ → RelationNumbers → Composition
files_of n h h' x f g S m T k = if_fit x.steps (packed (both_parts h h' x)) (packed (proof_parts n S T (node_parts k m f g)))

-- Whether the result is within the limits of 94 that are counts: statements and levels of both handlers, nodes and levels of both proofs, and
-- the sets and relations of the result.
unfoldable pub small_counts : HandlerSummary → HandlerSummary → ProofHead → ProofHead → ℕ → ℕ → Bool
small_counts a b f g sets relations =
    leb (1 + a.statements + b.statements) most_statements && leb (suc (max a.levels b.levels)) most_statement_levels
    && leb (3 + f.nodes + g.nodes) most_nodes && leb (suc (suc (max f.levels g.levels))) most_node_levels
    && leb sets most_tables && leb relations most_tables

-- What reading the handler file of a side gives.
pub record HandlerOf (side : Side) (s : HandlerSummary) : Type 0 where
  pub at_is : s.at ≡ side.at
  pub end_is : s.end ≡ side.at + stmt_width side.statement
  pub statements_are : s.statements ≡ statements side.statement
  pub levels_are : s.levels ≡ stmt_levels side.statement
  pub placed : Placed s

-- A side that is ready to be joined: its handler file was read, and the one form of its proof file is in words.
pub record Ready (n : ℕ) (side : Side) (s : HandlerSummary) (f : Form) (words : List ℕ) : Type 0 where
  pub states_are : n ≡ product side.sizes
  pub of_handler : HandlerOf side s
  pub of_form : Formed n side words f
  pub room : Writable n side.derivation

pub record BothReady (n : ℕ) (x : Handlers) (f : Form) (words : List ℕ) (g : Form) (others : List ℕ) : Type 0 where
  pub A : Side
  pub B : Side
  pub first : Ready n A x.first f words
  pub second : Ready n B x.second g others

-- Two accepted pairs over the same n states, and what reading their handler files gives.
pub record SameStates (n : ℕ) (h p h' p' : List ℕ) (x : Handlers) : Type 0 where
  pub first : WasAccepted h p
  pub second : WasAccepted h' p'
  pub first_states : n ≡ product (side_of h p).sizes
  pub second_states : n ≡ product (side_of h' p').sizes
  pub first_handler : HandlerOf (side_of h p) x.first
  pub second_handler : HandlerOf (side_of h' p') x.second

-- What follows where nothing is unmet, or the refusal of what is.
abbrev pub if_met : Result ⊤ ℕ → Composition → Composition
if_met (Ok x) next = next
if_met (Err k) next = refused 0 (plain k)

-- The result over the same variables: 91 to 93, then the rest.
unfoldable pub met_of : ℕ → List ℕ → List ℕ → Side → Side → ℕ → Composition
met_of n h h' A B steps = if_met (first_unmet n A.tables B.tables) (limited h h' A B steps)

-- An answer whose parts are small enough for one number of 64 bits.
abbrev pub Small : Composed → Type 0
Small (Ok m) = (m.steps < 2 ^ 32) × (m.handler ≤ most_handler_bytes) × (m.proof ≤ most_proof_bytes)
Small (Err t) = (t.pair ≤ 2) × (0 < t.fault.number) × (t.fault.number ≤ 95) × (index_of t.fault.place < 2 ^ 32)
