-- Copied tables: what one more round of a loop adds; and the fields of the form, their width and their order.
use Prim.Native.Nat.{ℕ, ◌+◌, ◌*◌, ◌%◌, ◌≤◌, ◌<◌}
use mathlib.Core.List.{List, [], ◌∷◌, ◌++◌, map, flat_map, map-append}
use mathlib.Core.Path.{◌≡◌, sym, ◌∙◌, ap}
use native.Mathlib.Nat.{mul-suc, mul-le-mul, le_refl}
use native.Mathlib.Numerals.{add-one}
use native.Mathlib.Omega.{arith}
use lib.ListN.{length, take, get_or, length-map}
use lib.Seq.{take-suc, length-take-le}
use Rattle.writer.specs.Writing.{put_bits, put_field}
use Rattle.writer.specs.Packing.{Part, part, width_of, put_parts}
use Rattle.writer.proofs.Laws.{field_put}
use Rattle.writer.proofs.Packed.{width_append, parts_append, value_of, joined}
use Rattle.derivation.specs.NodeTable.{node_of}
use Rattle.form.specs.Form.{parts_of}
use Rattle.form.proofs.FileBack.{width_map}
use Rattle.form.specs.Members.{node_by}
use Rattle.canonical.specs.declared.Run.{Run}
use Rattle.canonical.specs.declared.Numbering.{Numbering}
use Rattle.canonical.specs.Nodes.{name_in, held_in}
use Rattle.canonical.specs.Refinement.{set_run, relation_run, members_in, members_of, parts_in}
use Rattle.canonical.proofs.NodeFields.{width_most, held_width}

-- The tables that the first k entries of a list name, as fields.
module _ (src : List ℕ) (run : Run) (order : List ℕ) where
  abbrev pub table_parts : ℕ → List Part
  table_parts k = map (part run.width) (members_of src run (take k order))

  pub width_tables : (k : ℕ) → k ≤ length order → width_of (table_parts k) ≡ run.width * k
  unfolding members_of
  width_tables k within =
      width_map run.width (members_of src run (take k order))
      ∙ ap (λ n. run.width * n) (length-map (take k order) (λ i. members_in src run (i % 16)) ∙ length-take-le k order within)

  -- One table more.
  pub tables_more : (out : List ℕ) (at k : ℕ) → k < length order
      → put_bits (put_parts out at (table_parts k)) (at + run.width * k) run.width (members_in src run (get_or order k 0 % 16))
      ≡ put_parts out at (table_parts (k + 1))
  unfolding members_of put_parts
  tables_more out at k inside =
      rw (
        add-one k,
        take-suc order k 0 inside,
        map-append (λ i. members_in src run (i % 16)) (take k order) (get_or order k 0 ∷ []),
        map-append,
        parts_append,
        width_tables k (omega arith),
      )

-- A table lies within the room of all.
pub table_within : (w k count : ℕ) → k < count → w * k + w ≤ w * count
table_within w k count under = rw (← mul-suc w k) (mul-le-mul (le_refl w) under)

-- The fields of the nodes of a table: at most 27 bits each.
pub nodes_most : (words : List ℕ) → width_of (held_in parts_of words) ≤ 27 * length words
unfolding held_in flat_map width_of
nodes_most [] = omega arith
nodes_most (w ∷ words) =
    omega (arith, width_append (parts_of (node_of w)) (held_in parts_of words), width_most (node_of w), nodes_most words)

-- The two counts are one field of 10 bits.
pub counts_joined : (out : List ℕ) (a b : ℕ) (rest : List Part) → a ≤ 16 → b ≤ 16 → 10 ≤ 8 * length out
    → put_parts out 0 (part 5 a ∷ part 5 b ∷ rest) ≡ put_parts (put_field out 0 10 (a * 32 + b)) 10 rest
unfolding put_parts value_of width_of
counts_joined out a b rest few-a few-b room =
    let both : put_parts out 0 (part 5 a ∷ part 5 b ∷ []) ≡ put_bits out 0 10 (a * 32 + b) =
    joined out 0 (part 5 a ∷ part 5 b ∷ []) ∙ ap (put_bits out 0 10) (omega arith)
    in
    ap (λ l. put_parts l 10 rest) (both ∙ sym (field_put out 0 10 (a * 32 + b) (omega arith) (omega arith) (omega arith) (omega arith)))

-- The fields of the form.
module _ (bytes : List ℕ) (n sets : ℕ) (m : Numbering) (words : List ℕ)
    (of_sets : m.sets.count ≤ length m.sets.order) (of_relations : m.relations.count ≤ length m.relations.order) where
  abbrev set_parts : Run → List Part
  set_parts run = table_parts bytes run m.sets.order m.sets.count

  abbrev relation_parts : Run → List Part
  relation_parts run = table_parts bytes run m.relations.order m.relations.count

  abbrev node_parts : List Part
  node_parts = held_in (λ x. parts_of (node_by (name_in m.sets.names) (name_in m.relations.names) x)) words

  abbrev after_sets : List Part
  after_sets = relation_parts (relation_run n sets) ++ node_parts

  set_width : width_of (set_parts (set_run n)) ≡ n * m.sets.count
  set_width = width_tables bytes (set_run n) m.sets.order m.sets.count of_sets

  relation_width : width_of (relation_parts (relation_run n sets)) ≡ n * n * m.relations.count
  relation_width = width_tables bytes (relation_run n sets) m.relations.order m.relations.count of_relations

  pub width_fields : width_of (parts_in bytes n sets m words)
      ≡ 10 + n * m.sets.count + n * n * m.relations.count + width_of (held_in parts_of words)
  unfolding parts_in width_of
  width_fields =
      omega (
        arith,
        width_append (set_parts (set_run n)) after_sets,
        width_append (relation_parts (relation_run n sets)) node_parts,
        set_width,
        relation_width,
        held_width m.sets.names m.relations.names words,
      )

  -- They are written in four steps: the counts, the sets, the relations and the nodes.
  pub fields_written : (out o₁ o₂ o₃ o₄ : List ℕ) (s r : Run) → m.sets.count ≤ 16 → m.relations.count ≤ 16 → 10 ≤ 8 * length out
      → s ≡ set_run n → r ≡ relation_run n sets
      → o₁ ≡ put_field out 0 10 (m.sets.count * 32 + m.relations.count)
      → o₂ ≡ put_parts o₁ 10 (set_parts s)
      → o₃ ≡ put_parts o₂ (10 + n * m.sets.count) (relation_parts r)
      → o₄ ≡ put_parts o₃ (10 + n * m.sets.count + n * n * m.relations.count) node_parts
      → o₄ ≡ put_parts out 0 (parts_in bytes n sets m words)
  unfolding parts_in
  fields_written out o₁ o₂ o₃ o₄ s r few_sets few_relations room is-s is-r e₁ e₂ e₃ e₄ =
      rw (
        e₄,
        e₃,
        e₂,
        e₁,
        is-s,
        is-r,
        counts_joined out m.sets.count m.relations.count (set_parts (set_run n) ++ after_sets) few_sets few_relations room,
        parts_append _ 10 (set_parts (set_run n)) after_sets,
        parts_append _ _ (relation_parts (relation_run n sets)) node_parts,
        set_width,
        relation_width,
      )
