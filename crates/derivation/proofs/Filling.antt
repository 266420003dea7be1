-- The table of nodes as the walk fills it: a node's own word is stored between its first child's words and its second's, and what is
-- stored is what the definition has in file order.
use Prim.Native.Nat.{ℕ, zero, suc, ◌+◌, ◌-◌, ◌*◌, ◌≤◌, ◌<◌, max}
use mathlib.Core.Bool.{Bool, true, false, cond}
use mathlib.Core.List.{List, [], ◌∷◌, ◌++◌}
use mathlib.Core.Path.{◌≡◌, refl, sym, ◌∙◌, ap}
use native.Mathlib.Nat.{add-zero, zero-add, add-suc, suc-add, sub-zero, zero-sub, suc-sub-suc}
use native.Mathlib.Numerals.{add-one}
use native.Mathlib.Omega.{arith}
use borrow.Author.Tests.{lt-ltb, le-ltb}
use lib.Dec.{ltb}
use lib.ListN.{length, set, drop, replicate, length-replicate}
use lib.Seq.{sets, sets-eq, set_comm}
use Rattle.std.specs.Prelude.{Result, Ok, Err}
use Rattle.bits.specs.Fields.{fault_at}
use Rattle.bits.specs.declared.FileFault.{FileFault}
use Rattle.semantics.specs.Derivations.{Derivation, nodes, levels}
use Rattle.derivation.specs.declared.NodeHead.{NodeHead}
use Rattle.derivation.specs.declared.NodeEnd.{NodeEnd}
use Rattle.derivation.specs.Nodes.{NodeRead, whole, fault, alone, over_two, over_one, on_child, on_node_head, node_head, node_at, end_of}
use Rattle.derivation.specs.NodeTable.{node_word, node_bits, node_words, padded}
use Rattle.derivation.specs.Storing.{record_of}
use Rattle.derivation.proofs.Heads.{HeadWithin, next_near, node_within}
use Rattle.derivation.proofs.NodeTable.{length_node_words}
use Rattle.derivation.proofs.Built.{leaf, over_one_lem, over_two_lem}
use Rattle.derivation.proofs.NodesRead.{ended_whole, ended_faulty, bits_most, unrolled, Read, read}

-- A store before a run of stores, and two runs one after the other.
set_stored : (vs l : List ℕ) (i j a : ℕ) → i < j → set (sets l j vs) i a ≡ sets (set l i a) j vs
set_stored [] l i j a less = refl
set_stored (v ∷ vs) l i j a less =
    let other : i ≡ j → ⊥ = λ e. omega arith in
    set_stored vs (set l j v) i (suc j) a (omega arith) ∙ ap (λ (k : List ℕ). sets k (suc j) vs) (sym (set_comm l i j a v other))

stored_append : (xs ys l : List ℕ) (i : ℕ) → sets l i (xs ++ ys) ≡ sets (sets l i xs) (i + length xs) ys
stored_append [] ys l i = rw add-zero
stored_append (x ∷ xs) ys l i = rw (add-suc, ← suc-add) (stored_append xs ys (set l i x) (suc i))

drop_replicate : (i n a : ℕ) → drop i (replicate n a) ≡ replicate (n - i) a
drop_replicate zero n a = rw sub-zero
drop_replicate (suc i) zero a = rw zero-sub
drop_replicate (suc i) (suc n) a = rw suc-sub-suc (drop_replicate i n a)

-- Words stored from the front of a table of 0.
pub stored_padded : (n : ℕ) (ws : List ℕ) → length ws ≤ n → sets (replicate n 0) 0 ws ≡ padded n ws
unfolding padded
stored_padded n ws fits =
    let room : 0 + length ws ≤ length (replicate {A = ℕ} n 0) = rw (length-replicate, zero-add) fits in
    sets-eq ws (replicate n 0) 0 room ∙ rw (zero-add, drop_replicate)

-- A node's own word, stored after the words of its first child, and before those of its second.
module _ (sets-count relations at : ℕ) (x : NodeHead) (w : HeadWithin sets-count relations at x) (table : List ℕ) (before : ℕ) where
  abbrev filled : Derivation → ℕ → List ℕ
  filled c after = set (sets table (before + 1) (node_words (before + 1) x.next c)) before (node_word (record_of x after at))

  own_stored : (c : Derivation) (after : ℕ) → after ≡ suc before + nodes c
      → filled c after ≡ sets (set table before (node_word (record_of x (suc before + nodes c) at))) (suc before) (node_words (suc before) x.next c)
  own_stored c after is = rw (is, add-one) (set_stored (node_words (suc before) x.next c) table before (suc before) _ (omega arith))

  one_stored : 4 ≤ x.rule → (c : Derivation) (after : ℕ) → after ≡ suc before + nodes c
      → filled c after ≡ sets table before (node_words before at (over_one x c))
  one_stored over c after is = own_stored c after is ∙ sym (rw ((over_one_lem sets-count relations at x w over c).words before))

  two_stored : 2 ≤ x.rule → x.rule < 4 → (c r : Derivation) (after end : ℕ) → after ≡ suc before + nodes c → end ≡ x.next + node_bits c
      → sets (filled c after) after (node_words after end r) ≡ sets table before (node_words before at (over_two x c r))
  two_stored over few c r after end is ends =
      rw (own_stored c after is, (over_two_lem sets-count relations at x w over few c r).words before, stored_append, length_node_words, is, ends)

-- Where a derivation ends, as the code answers it.
abbrev ended : ℕ → ℕ → ℕ → Result NodeEnd FileFault
ended nodes height next = Ok (record { nodes = nodes; levels = height; next = next })

-- What a walk gives: the answer is where the derivation ends, and where there is one the table has its words.
module _ (bytes : List ℕ) (sets-count relations : ℕ) where
  abbrev pub Done : ℕ → ℕ → ℕ → List ℕ → Result NodeEnd FileFault → List ℕ → Type 0
  Done to-go before at table r exit =
      (r ≡ end_of (node_at to-go bytes sets-count relations before at))
      × ((d : Derivation) (after next : ℕ) → node_at to-go bytes sets-count relations before at ≡ whole d after next
      → exit ≡ sets table before (node_words before at d))

  -- The same by what was read.
  abbrev Filled : ℕ → ℕ → List ℕ → Result NodeEnd FileFault → List ℕ → NodeRead → Type 0
  Filled before at table r exit (whole d after next) = (r ≡ ended after (levels d) next) × (exit ≡ sets table before (node_words before at d))
  Filled before at table r exit (fault k place) = r ≡ Err (fault_at k place)

  module _ (to-go before at : ℕ) (table : List ℕ) (r : Result NodeEnd FileFault) (exit : List ℕ) where
    done : (v : NodeRead) → node_at to-go bytes sets-count relations before at ≡ v → Filled before at table r exit v → Done to-go before at table r exit
    unfolding end_of
    done (whole d after next) e f = (
      f.0 ∙ sym (ap end_of e),
      λ d' after' next' e'.
          let same : d ≡ d' = cc in
          f.1 ∙ ap (λ (k : Derivation). sets table before (node_words before at k)) same,
    )
    done (fault k place) e f =
        (f ∙ sym (ap end_of e), λ d' after' next' e'. cc)

    found : Done to-go before at table r exit → (v : NodeRead) → node_at to-go bytes sets-count relations before at ≡ v → Filled before at table r exit v
    unfolding end_of
    found f (whole d after next) e = (f.0 ∙ ap end_of e, f.1 d after next e)
    found f (fault k place) e = f.0 ∙ ap end_of e

  pub no_level : (to-go before at : ℕ) (table exit : List ℕ) → to-go ≡ 0
      → Done to-go before at table (Err (fault_at 24 at)) exit
  unfolding node_at
  no_level to-go before at table exit e = done to-go before at table (Err (fault_at 24 at)) exit (fault 24 at) (rw e) refl

  module _ (to-go before at : ℕ) (some : to-go ≡ 0 → ⊥) (table : List ℕ) where
    pub no_head_lem : (y : FileFault) (exit : List ℕ) → node_head bytes sets-count relations (to-go - 1) before at ≡ Err y
        → Done to-go before at table (Err y) exit
    no_head_lem y exit e =
        done to-go before at table (Err y) exit (fault y.number y.bit) (rw (unrolled bytes sets-count relations to-go before at some, e)) refl

    -- The node at a bit, with its head; `below` reads one level down.
    module _ (x : NodeHead) (head : node_head bytes sets-count relations (to-go - 1) before at ≡ Ok x) where
      abbrev node : NodeRead
      node = node_at to-go bytes sets-count relations before at

      abbrev below : ℕ → ℕ → NodeRead
      below = node_at (to-go - 1) bytes sets-count relations

      step : node ≡ on_node_head (Ok x) before below
      step = rw (unrolled bytes sets-count relations to-go before at some, head)

      w : HeadWithin sets-count relations at x
      w = node_within bytes sets-count relations at (to-go - 1) before x head

      pub leaf_done : x.rule < 2 → (exit : List ℕ) → exit ≡ set table before (node_word (record_of x (before + 1) at))
          → Done to-go before at table (ended (before + 1) 1 x.next) exit
      leaf_done few exit e =
          done to-go before at table _ exit (whole (alone x) (suc before) x.next) (step ∙ rw (lt-ltb x.rule 2))
          (rw (add-one, (leaf sets-count relations at x w few).height), e ∙ rw ((leaf sets-count relations at x w few).words before, add-one))

      -- The first child was walked.
      module _ (first : List ℕ) (r : Result NodeEnd FileFault) (walked : Done (to-go - 1) (before + 1) x.next table r first) (past : 2 ≤ x.rule) where
        pub first_faulty : (y : FileFault) (exit : List ℕ) → r ≡ Err y → Done to-go before at table (Err y) exit
        first_faulty y exit e =
            let child = rw add-one at (ended_faulty (below (before + 1) x.next) y (sym walked.0 ∙ e)) in
            done to-go before at table (Err y) exit (fault y.number y.bit) (step ∙ rw (le-ltb x.rule 2, child) (by (ltb x.rule 4))) refl
          where
            by : (two : Bool) → cond two (fault y.number y.bit) (fault y.number y.bit) ≡ fault y.number y.bit
            by true = refl
            by false = refl

        -- It ends at a bit.
        module _ (after height end : ℕ) (ends : r ≡ ended after height end) where
          child : (c : Derivation) × (below (before + 1) x.next ≡ whole c after end) × (levels c ≡ height)
          child = ended_whole (below (before + 1) x.next) (record { nodes = after; levels = height; next = end }) (sym walked.0 ∙ ends)

          abbrev c : Derivation
          c = child.0

          c_read : below (suc before) x.next ≡ whole c after end
          c_read = rw add-one at child.1

          shows : Read bytes sets-count relations (to-go - 1) (suc before) x.next c after end
          shows = read bytes sets-count relations (to-go - 1) (suc before) x.next c after end c_read

          pub after_few : after ≤ 127
          after_few = shows.room

          pub levels_few : height < to-go - 1
          levels_few = omega (arith, child.2, shows.height)

          pub end_near : (start : ℕ) → at ≤ start + 27 * before → end ≤ start + 27 * after
          end_near start near = omega (arith, shows.ended, shows.counted, bits_most c, next_near sets-count relations at x w)

          is_filled : (own : List ℕ) → own ≡ set first before (node_word (record_of x after at))
              → own ≡ filled sets-count relations at x w table before c after
          is_filled own e = e ∙ ap (λ (l : List ℕ). set l before (node_word (record_of x after at))) (walked.1 c after end child.1)

          pub one_done : 4 ≤ x.rule → (own : List ℕ) → own ≡ set first before (node_word (record_of x after at))
              → Done to-go before at table (ended after (height + 1) end) own
          one_done over own e =
              done to-go before at table _ own (whole (over_one x c) after end) (step ∙ rw (le-ltb x.rule 2, le-ltb x.rule 4, c_read)) (
                rw ((over_one_lem sets-count relations at x w over c).height, child.2, add-one),
                is_filled own e ∙ one_stored sets-count relations at x w table before over c after shows.counted,
              )

          -- The second child was walked.
          module _ (few : x.rule < 4) (own : List ℕ) (is : own ≡ set first before (node_word (record_of x after at)))
              (second : Result NodeEnd FileFault) (exit : List ℕ) (walked-on : Done (to-go - 1) after end own second exit) where
            node_is : node ≡ on_child (over_two x c) (below after end)
            node_is = step ∙ rw (le-ltb x.rule 2, lt-ltb x.rule 4, c_read)

            pub second_faulty : (y : FileFault) → second ≡ Err y → Done to-go before at table (Err y) exit
            second_faulty y e =
                let child-two = ended_faulty (below after end) y (sym walked-on.0 ∙ e) in
                done to-go before at table (Err y) exit (fault y.number y.bit) (node_is ∙ ap (on_child (over_two x c)) child-two) refl

            module _ (last : NodeEnd) (e : second ≡ Ok last) where
              other : (d : Derivation) × (below after end ≡ whole d last.nodes last.next) × (levels d ≡ last.levels)
              other = ended_whole (below after end) last (sym walked-on.0 ∙ e)

              pub others_few : last.levels < to-go - 1
              others_few =
                  let shown = read bytes sets-count relations (to-go - 1) after end other.0 last.nodes last.next other.1 in
                  omega (arith, other.2, shown.height)

              pub two_done : (top : ℕ) → top ≡ suc (max height last.levels) → Done to-go before at table (ended last.nodes top last.next) exit
              two_done top most =
                  let d = other.0 in
                  done to-go before at table _ exit (whole (over_two x c d) last.nodes last.next) (node_is ∙ ap (on_child (over_two x c)) other.1) (
                    rw ((over_two_lem sets-count relations at x w past few c d).height, child.2, other.2, most),
                    walked-on.1 d last.nodes last.next other.1
                        ∙ ap (λ (l : List ℕ). sets l after (node_words after end d)) (is_filled own is)
                        ∙ two_stored sets-count relations at x w table before past few c d after end shows.counted shows.ended,
                  )
