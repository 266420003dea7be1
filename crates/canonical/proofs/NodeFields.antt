-- The fields of nodes: their width, and what writing them leaves.
use Prim.Native.Nat.{ℕ, ◌+◌, ◌-◌, ◌*◌, ◌%◌, ◌≤◌, ◌<◌}
use mathlib.Core.Bool.{Bool, true, false, cond}
use mathlib.Core.List.{List, [], ◌∷◌, ◌++◌, flat_map}
use mathlib.Core.Path.{◌≡◌, refl, sym, ◌∙◌, ap, ap₂}
use native.Mathlib.Omega.{arith}
use borrow.Author.Tests.{eq-eqb, ne_eqb}
use lib.Dec.{eqb}
use lib.ListN.{length, take, drop}
use lib.Seq.{take-add}
use Rattle.writer.specs.Writing.{put_field}
use Rattle.writer.specs.Packing.{Part, part, width_of, put_parts, put_all}
use Rattle.writer.proofs.Packed.{value_of, width_append, parts_append, all_joined}
use Rattle.derivation.specs.declared.Node.{Node}
use Rattle.derivation.specs.NodeTable.{node_of, node_in}
use Rattle.form.specs.Form.{parts_of}
use Rattle.form.specs.Members.{node_by}
use Rattle.canonical.specs.Nodes.{name_in, held_in}
use Rattle.canonical.proofs.Order.{held_append, held_more}

-- A node has 19 bits, and a while 27.
width_by : (x : Node) → width_of (parts_of x) ≡ cond (eqb x.rule 5) 27 19
unfolding width_of parts_of
width_by x = by (eqb x.rule 5)
  where
    by : (b : Bool) → 3 + (4 + (4 + (4 + (4 + width_of (cond b (part 4 x.k ∷ part 4 x.w ∷ []) []))))) ≡ cond b 27 19
    by true = refl
    by false = refl

module _ (x : Node) where
  pub while_width : x.rule ≡ 5 → width_of (parts_of x) ≡ 27
  while_width is = width_by x ∙ ap (λ b. cond b 27 19) (eq-eqb _ 5 is)

  pub other_width : (x.rule ≡ 5 → ⊥) → width_of (parts_of x) ≡ 19
  other_width not = width_by x ∙ ap (λ b. cond b 27 19) (ne_eqb _ 5 not)

  pub width_most : width_of (parts_of x) ≤ 27
  width_most = rw (width_by x) (most (eqb x.rule 5))
    where
      most : (b : Bool) → cond {A = ℕ} b 27 19 ≤ 27
      most true = omega arith
      most false = omega arith

  pub width_renamed : (f g : ℕ → ℕ) → width_of (parts_of (node_by f g x)) ≡ width_of (parts_of x)
  width_renamed f g = width_by (node_by f g x) ∙ sym (width_by x)

-- The nodes of a table, one at a time.
module _ (l : List ℕ) (i : ℕ) where
  pub width_more : i < length l
      → width_of (held_in parts_of (take (i + 1) l)) ≡ width_of (held_in parts_of (take i l)) + width_of (parts_of (node_in l i))
  width_more inside = rw (held_more parts_of l i inside) (width_append (held_in parts_of (take i l)) (parts_of (node_in l i)))

  -- Node i is among the first `count`.
  pub width_within : (count : ℕ) → i < count → count ≤ length l
      → width_of (held_in parts_of (take i l)) + width_of (parts_of (node_in l i)) ≤ width_of (held_in parts_of (take count l))
  width_within count under within =
      let rest = take (count - (i + 1)) (drop (i + 1) l) in
      let whole : i + 1 + (count - (i + 1)) ≡ count = omega arith in
      let parts : held_in parts_of (take count l) ≡ held_in parts_of (take (i + 1) l) ++ held_in parts_of rest =
      ap (λ k. held_in parts_of (take k l)) (sym whole) ∙ ap (held_in parts_of) (take-add (i + 1) (count - (i + 1)) l)
      ∙ held_append parts_of (take (i + 1) l) rest
      in
      omega (
        arith,
        width_more (omega arith),
        ap width_of parts ∙ width_append (held_in parts_of (take (i + 1) l)) (held_in parts_of rest),
      )

-- A node as a number.
module _ (x : Node) where
  -- Its rule and its names P, R, G and Q as one number, which has 19 bits.
  abbrev number_of : ℕ
  number_of =
      (((x.rule % 8 * 16 + x.names.p % 16) * 16 + x.names.r % 16) * 16 + x.names.g % 16) * 16 + x.names.q % 16

  while_value : x.rule ≡ 5 → value_of (parts_of x) ≡ (number_of * 16 + x.k % 16) * 16 + x.w % 16
  unfolding parts_of value_of width_of
  while_value is = rw (eq-eqb x.rule 5 is) (omega arith)

  other_value : (x.rule ≡ 5 → ⊥) → value_of (parts_of x) ≡ number_of
  unfolding parts_of value_of width_of
  other_value not = rw (ne_eqb x.rule 5 not) (omega arith)

  -- Writing its fields is writing them as one field.
  module _ (s : List ℕ) (at : ℕ) where
    put_node : (w v : ℕ) → 1 ≤ w → w ≤ 64 → width_of (parts_of x) ≡ w → value_of (parts_of x) ≡ v → put_field s at w v ≡ put_all s at (parts_of x)
    put_node w v least most width value =
        ap₂ (put_field s at) (sym width) (sym value) ∙ all_joined s at (parts_of x) (omega arith) (omega arith)

    pub put_while : x.rule ≡ 5 → put_field s at 27 ((number_of * 16 + x.k % 16) * 16 + x.w % 16) ≡ put_all s at (parts_of x)
    put_while is = put_node 27 _ (omega arith) (omega arith) (while_width x is) (while_value is)

    pub put_other : (x.rule ≡ 5 → ⊥) → put_field s at 19 number_of ≡ put_all s at (parts_of x)
    put_other not = put_node 19 _ (omega arith) (omega arith) (other_width x not) (other_value not)

-- The nodes of a table under new names: they have as many bits, and one more node is written after the others.
module _ (sets relations : List ℕ) where
  abbrev pub renamed_parts : Node → List Part
  renamed_parts x = parts_of (node_by (name_in sets) (name_in relations) x)

  pub held_width : (l : List ℕ) → width_of (held_in renamed_parts l) ≡ width_of (held_in parts_of l)
  unfolding held_in flat_map
  held_width [] = refl
  held_width (word ∷ l) =
      let x = node_of word in
      rw (
        width_append (renamed_parts x) (held_in renamed_parts l),
        width_append (parts_of x) (held_in parts_of l),
        width_renamed x (name_in sets) (name_in relations),
        held_width l,
      )

  pub put_next : (s : List ℕ) (at : ℕ) (l : List ℕ) (i : ℕ) → i < length l
      → put_parts s at (held_in renamed_parts (take (i + 1) l))
      ≡ put_parts (put_parts s at (held_in renamed_parts (take i l))) (at + width_of (held_in parts_of (take i l))) (renamed_parts (node_in l i))
  put_next s at l i inside =
      rw (held_more renamed_parts l i inside, ← held_width (take i l))
      (parts_append s at (held_in renamed_parts (take i l)) (renamed_parts (node_in l i)))
