-- The table of nodes holds the first bits of the derivation's nodes: word for word, a node's word gives back its first bit.
use Prim.Native.Nat.{ℕ, suc, ◌+◌, ◌-◌, ◌≤◌, ◌<◌}
use mathlib.Core.List.{List, [], ◌∷◌, ◌++◌, map, map-append, append-nil}
use mathlib.Core.Path.{◌≡◌, sym, ◌∙◌, ap}
use native.Mathlib.Omega.{arith}
use borrow.Author.Tests.{lt-ltb, le-ltb}
use lib.ListN.{length, get_or, drop, replicate, length-replicate, length-map, get_or-append, get_or-map}
use lib.Seq.{drop_at, get_or-drop}
use Rattle.semantics.specs.Derivations.{Derivation, skip, assignment, sequence, parallel, conditional, iteration, weaken, nodes}
use Rattle.derivation.specs.Tables.{most_tables}
use Rattle.derivation.specs.NodeTable.{node_of, node_in, node_bits, node_words, padded, node_table}
use Rattle.derivation.proofs.NodeTable.{Known, length_node_words, node_held}
use Rattle.derivation.proofs.Files.{read_known}
use Rattle.pair.specs.Reading.{Pair, states_of, pair, read_pair}
use Rattle.pair.proofs.Cases.{read_holds}
use Rattle.viewer.specs.View.{first_bits, first_bits_of, byte_of, node_byte}

abbrev bit_in : ℕ → ℕ
bit_in word = (node_of word).bit

module _ (sets relations : ℕ) (few_sets : sets ≤ most_tables) (few_relations : relations ≤ most_tables) where
  -- The first word of a derivation's words, at the front of a table from i on.
  first_word_bit : (i bit : ℕ) (d : Derivation) → Known sets relations d → i + nodes d ≤ 127 → bit_in (get_or (node_words i bit d) 0 0) ≡ bit
  unfolding node_in
  first_word_bit i bit d known room =
      let table = replicate i 0 ++ node_words i bit d in
      let here : drop i table ≡ node_words i bit d = drop_at (replicate i 0) (node_words i bit d) i (length-replicate i 0) in
      let same : i + 0 ≡ i = omega arith in
      let word : get_or (node_words i bit d) 0 0 ≡ get_or table i 0 = ap (λ (l : List ℕ). get_or l 0 0) (sym here) ∙ get_or-drop i table 0 0 ∙ ap (λ n. get_or table n 0) same in
      let held = node_held sets relations few_sets few_relations table [] i bit d known room (here ∙ sym (append-nil (node_words i bit d))) in
      ap bit_in word ∙ ap (λ x. x.bit) held

  pub bits_held : (i bit : ℕ) (d : Derivation) → Known sets relations d → i + nodes d ≤ 127 → map bit_in (node_words i bit d) ≡ first_bits bit d
  bits_held i bit (skip h) known room = ap (λ b. b ∷ []) (first_word_bit i bit (skip h) known room)
  bits_held i bit (assignment h) known room = ap (λ b. b ∷ []) (first_word_bit i bit (assignment h) known room)
  bits_held i bit (sequence h l r) known room =
      rw (
        first_word_bit i bit (sequence h l r) known room,
        map-append bit_in,
        bits_held (suc i) (bit + 19) l known.1 (omega arith),
        bits_held (suc i + nodes l) (bit + 19 + node_bits l) r known.2 (omega arith),
      )
  bits_held i bit (parallel h l r) known room =
      rw (
        first_word_bit i bit (parallel h l r) known room,
        map-append bit_in,
        bits_held (suc i) (bit + 19) l known.1 (omega arith),
        bits_held (suc i + nodes l) (bit + 19 + node_bits l) r known.2 (omega arith),
      )
  bits_held i bit (conditional h d) known room =
      rw (first_word_bit i bit (conditional h d) known room, bits_held (suc i) (bit + 19) d known.1 (omega arith))
  bits_held i bit (iteration h K W d) known room =
      rw (first_word_bit i bit (iteration h K W d) known room, bits_held (suc i) (bit + 27) d known.3 (omega arith))
  bits_held i bit (weaken h d) known room =
      rw (first_word_bit i bit (weaken h d) known room, bits_held (suc i) (bit + 19) d known.1 (omega arith))

-- Two files that are read.
module _ (hb pb : List ℕ) (x : Pair) (read : read_pair hb pb ≡ pair x) where
  abbrev at : ℕ
  at = x.root_bit

  abbrev d : Derivation
  d = x.derivation

  held : map bit_in (node_words 0 at d) ≡ first_bits at d
  held =
      let k = read_known pb (states_of x) x.sets x.relations at d (read_holds hb pb x read).proof_read in
      bits_held x.sets x.relations k.sets_most k.relations_most 0 at d k.known (omega (arith, k.nodes_most))

  pub bits_of : first_bits_of hb pb ≡ first_bits at d
  unfolding first_bits_of
  bits_of = rw read

  pub count_bits : length (first_bits at d) ≡ nodes d
  count_bits = sym (ap length held) ∙ length-map (node_words 0 at d) bit_in ∙ length_node_words 0 at d

  pub node_bit : (j : ℕ) → j < nodes d → (node_in (node_table at d) j).bit ≡ get_or (first_bits at d) j 0
  unfolding node_in node_table padded node_of
  node_bit j under =
      ap bit_in (get_or-append (node_words 0 at d) (replicate (127 - length (node_words 0 at d)) 0) 0 j (omega (arith, length_node_words 0 at d)))
      ∙ sym (get_or-map bit_in (node_words 0 at d) j 0)
      ∙ ap (λ (l : List ℕ). get_or l j 0) held

-- The byte of a node that there is, and of one that there is not.
module _ (pb bits : List ℕ) (j : ℕ) where
  pub node_there : j < length bits → node_byte pb bits j ≡ byte_of pb (get_or bits j 0)
  unfolding node_byte
  node_there under = rw (lt-ltb j (length bits))

  pub no_node : length bits ≤ j → node_byte pb bits j ≡ length pb
  unfolding node_byte
  no_node over = rw (le-ltb j (length bits))
