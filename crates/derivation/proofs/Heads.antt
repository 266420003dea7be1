-- Laws of the head of a node: a name by what its field holds, and what a node that is read without fault shows.
use Prim.Native.Nat.{ℕ, ◌+◌, ◌/◌, ◌%◌, ◌^◌, ◌≤◌, ◌<◌}
use mathlib.Core.Bool.{Bool, true, false, cond, ◌||◌}
use mathlib.Core.List.{List}
use mathlib.Core.Path.{◌≡◌, refl, sym, ◌∙◌, ap}
use native.Mathlib.Omega.{arith}
use borrow.Author.Tests.{eq-eqb, lt-ltb, le-ltb, leb-false, eqb-true, eqb-false, ltb-true}
use lib.Dec.{leb, ltb, eqb}
use Rattle.std.specs.Option.{ok_or}
use Rattle.std.specs.Result.{IsErrAnd}
use Rattle.std.specs.Prelude.{Option, Some, None, Result, Ok, Err}
use Rattle.bits.specs.Fields.{bit_length, fault_at, field_at, field_or}
use Rattle.bits.specs.declared.FileFault.{FileFault}
use Rattle.bits.proofs.Laws.{There, there, parted}
use Rattle.semantics.specs.declared.Names.{Names}
use Rattle.derivation.specs.declared.NodeHead.{NodeHead}
use Rattle.derivation.specs.Nodes.{HeadRead, on_named, on_name, named_table, loop_head, names_head, rule_head, node_head}

-- A fault that is passed on as it is.
pub passed_on : {T : Type 0} (r : Result T FileFault) (x : FileFault) → IsErrAnd r (λ y. y ≡ x) → r ≡ Err x
passed_on (Ok v) x p = absurd p
passed_on (Err y) x p = ap Err p

-- A field that is there, where a missing one is a fault.
pub there_or : (bytes : List ℕ) (at w k v next : ℕ) → field_or bytes at w k ≡ Ok (v, next) → There bytes at w v next
unfolding field_or
there_or bytes at w k v next e = there bytes at w v next (by (field_at bytes at w) (fault_at k (bit_length bytes)) e)
  where
    by : (f : Option (ℕ × ℕ)) (x : FileFault) → ok_or f x ≡ Ok (v, next) → f ≡ Some (v, next)
    by None x e = cc
    by (Some y) x e = cc

module _ (bytes : List ℕ) (limit at : ℕ) where
  pub named_there : (f : ℕ → HeadRead) (i next : ℕ) → field_at bytes at 4 ≡ Some (i, next) → i < limit → named_table bytes limit at f ≡ f i
  unfolding named_table on_name field_or
  named_there f i next e under = rw (e, lt-ltb i limit)

  -- The name at a bit, and what it gives to what is read after it.
  module _ (f : ℕ → ℕ → HeadRead) where
    abbrev with_next : HeadRead
    with_next = named_table bytes limit at (λ i. f i (at + 4))

    pub named_missing : (x : FileFault) → field_or bytes at 4 20 ≡ Err x → with_next ≡ Err x
    unfolding named_table on_name
    named_missing x e = rw e

    pub named_over : (i next : ℕ) → field_or bytes at 4 20 ≡ Ok (i, next) → limit ≤ i → with_next ≡ Err (fault_at 23 at)
    unfolding named_table on_name
    named_over i next e over = rw (e, le-ltb i limit)

    pub named_next : (i next : ℕ) → field_or bytes at 4 20 ≡ Ok (i, next) → i < limit → with_next ≡ f i next
    unfolding named_table on_name
    named_next i next e under = rw (e, lt-ltb i limit, (there_or bytes at 4 20 i next e).moved)

-- A name that was read at a bit, by what it gives to whatever is read after it.
abbrev pub NameAt : List ℕ → ℕ → ℕ → Result (ℕ × ℕ) FileFault → Type 0
NameAt bytes limit at r = (f : ℕ → ℕ → HeadRead) → named_table bytes limit at (λ i. f i (at + 4)) ≡ on_named r f

-- K and W, read one after the other from where the one before ends.
module _ (bytes : List ℕ) (sets relations rule : ℕ) (h : Names) (at : ℕ) where
  abbrev after_W : ℕ → ℕ → ℕ → HeadRead
  after_W K W next = Ok (record { rule = rule; names = h; k = K; w = W; next = next })

  abbrev after_K : ℕ → ℕ → HeadRead
  after_K K next = named_table bytes relations next (λ W. after_W K W (next + 4))

  module _ (loop : rule ≡ 5) (k : Result (ℕ × ℕ) FileFault) (k-read : NameAt bytes sets at k) where
    pub from_K : loop_head bytes sets relations rule h at ≡ on_named k after_K
    unfolding loop_head
    from_K = let end : at + 8 ≡ at + 4 + 4 = omega arith in rw (eq-eqb rule 5 loop, end) (k-read after_K)

    pub from_W : (K next : ℕ) → k ≡ Ok (K, next) → (w : Result (ℕ × ℕ) FileFault) → NameAt bytes relations next w
        → loop_head bytes sets relations rule h at ≡ on_named w (after_W K)
    from_W K next e w w-read = rw e at from_K ∙ w-read (after_W K)

-- P, R, G and Q, the same.
module _ (bytes : List ℕ) (sets relations rule at : ℕ) where
  abbrev after_Q : ℕ → ℕ → ℕ → ℕ → ℕ → HeadRead
  after_Q P R G Q next = loop_head bytes sets relations rule (record { p = P; r = R; g = G; q = Q }) next

  abbrev after_G : ℕ → ℕ → ℕ → ℕ → HeadRead
  after_G P R G next = named_table bytes relations next (λ Q. after_Q P R G Q (next + 4))

  abbrev after_R : ℕ → ℕ → ℕ → HeadRead
  after_R P R next = named_table bytes relations next (λ G. after_G P R G (next + 4))

  abbrev after_P : ℕ → ℕ → HeadRead
  after_P P next = named_table bytes relations next (λ R. after_R P R (next + 4))

  module _ (p : Result (ℕ × ℕ) FileFault) (p-read : NameAt bytes sets at p) where
    pub from_P : names_head bytes sets relations rule at ≡ on_named p after_P
    unfolding names_head
    from_P =
        let third : at + 8 ≡ at + 4 + 4 = omega arith in
        let fourth : at + 12 ≡ at + 4 + 4 + 4 = omega arith in
        let end : at + 16 ≡ at + 4 + 4 + 4 + 4 = omega arith in
        rw (third, fourth, end) (p-read after_P)

    module _ (P a : ℕ) (p-there : p ≡ Ok (P, a)) (r : Result (ℕ × ℕ) FileFault) (r-read : NameAt bytes relations a r) where
      pub from_R : names_head bytes sets relations rule at ≡ on_named r (after_R P)
      from_R = rw p-there at from_P ∙ r-read (after_R P)

      module _ (R b : ℕ) (r-there : r ≡ Ok (R, b)) (g : Result (ℕ × ℕ) FileFault) (g-read : NameAt bytes relations b g) where
        pub from_G : names_head bytes sets relations rule at ≡ on_named g (after_G P R)
        from_G = rw r-there at from_R ∙ g-read (after_G P R)

        pub from_Q : (G d : ℕ) → g ≡ Ok (G, d) → (q : Result (ℕ × ℕ) FileFault) → NameAt bytes relations d q
            → names_head bytes sets relations rule at ≡ on_named q (after_Q P R G)
        from_Q G d g-there q q-read = rw g-there at from_G ∙ q-read (after_Q P R G)

-- Four names that 16 bits hold, each of a table that is there.
pub four_names : (bytes : List ℕ) (sets relations rule at v next : ℕ) → field_at bytes at 16 ≡ Some (v, next) → v / 4096 % 16 < sets
    → v / 256 % 16 < relations → v / 16 % 16 < relations → v % 16 < relations
    → names_head bytes sets relations rule at ≡ loop_head bytes sets relations rule (record { p = v / 4096 % 16; r = v / 256 % 16; g = v / 16 % 16; q = v % 16 }) next
unfolding names_head
four_names bytes sets relations rule at v next e p-there r-there g-there q-there =
    let t = there bytes at 16 v next e in
    let first = parted bytes at 4 12 v next (omega arith) (omega arith) e in
    let second = parted bytes (at + 4) 4 8 _ next (omega arith) (omega arith) first.1 in
    let last = parted bytes (at + 4 + 4) 4 4 _ next (omega arith) (omega arith) second.1 in
    let P : v / 2 ^ 12 ≡ v / 4096 % 16 = omega (arith, t.small) in
    let R : v % 2 ^ 12 / 2 ^ 8 ≡ v / 256 % 16 = omega arith in
    let G : v % 2 ^ 12 % 2 ^ 8 / 2 ^ 4 ≡ v / 16 % 16 = omega arith in
    let Q : v % 2 ^ 12 % 2 ^ 8 % 2 ^ 4 ≡ v % 16 = omega arith in
    let third : at + 4 + 4 ≡ at + 8 = omega arith in
    let fourth : at + 8 + 4 ≡ at + 12 = omega arith in
    named_there bytes sets at _ _ _ (rw P at first.0) p-there
    ∙ named_there bytes relations (at + 4) _ _ _ (rw R at second.0) r-there
    ∙ named_there bytes relations (at + 8) _ _ _ (rw (G, third) at last.0) g-there
    ∙ named_there bytes relations (at + 12) _ _ _ (rw (Q, third, fourth) at last.1) q-there
    ∙ ap (loop_head bytes sets relations rule _) (sym t.moved)

-- What holds of every fault, and of what is read after each name that there is, holds of what is read from a name on.
named_all : (bytes : List ℕ) (limit at : ℕ) (f : ℕ → HeadRead) (Good : HeadRead → Type 0)
    → ((x : FileFault) → Good (Err x)) → ((i : ℕ) → i < limit → Good (f i)) → Good (named_table bytes limit at f)
unfolding named_table on_name
named_all bytes limit at f Good fault after = by (field_or bytes at 4 20)
  where
    test : (i : ℕ) (b : Bool) → ltb i limit ≡ b → Good (cond b (f i) (Err (fault_at 23 at)))
    test i true t = after i (ltb-true i limit t)
    test i false t = fault (fault_at 23 at)

    by : (field : Result (ℕ × ℕ) FileFault) → Good (on_name limit at field f)
    by (Err x) = fault x
    by (Ok (i, next)) = test i (ltb i limit) refl

-- The names of a node are of tables that there are.
pub record Named (sets relations : ℕ) (h : Names) : Type 0 where
  pub P-below : h.p < sets
  pub R-below : h.r < relations
  pub G-below : h.g < relations
  pub Q-below : h.q < relations

-- The head of a node that begins at a bit: a rule that is not a while, in 19 bits, or a while, in 27.
pub data HeadWithin (sets relations at : ℕ) : NodeHead → Type 0 where
  plain : (rule : ℕ) (h : Names) → rule < 7 → (rule ≡ 5 → ⊥) → Named sets relations h
      → HeadWithin sets relations at (record { rule = rule; names = h; k = 0; w = 0; next = at + 19 })
  loop : (h : Names) (K W : ℕ) → Named sets relations h → K < sets → W < relations
      → HeadWithin sets relations at (record { rule = 5; names = h; k = K; w = W; next = at + 27 })

pub next_near : (sets relations at : ℕ) (x : NodeHead) → HeadWithin sets relations at x → x.next ≤ at + 27
next_near sets relations at _ (plain rule h under other n) = omega arith
next_near sets relations at _ (loop h K W n k w) = omega arith

abbrev WithinHead : ℕ → ℕ → ℕ → HeadRead → Type 0
WithinHead sets relations at (Err x) = Unit {0}
WithinHead sets relations at (Ok x) = HeadWithin sets relations at x

module _ (bytes : List ℕ) (sets relations at : ℕ) where
  abbrev Good : HeadRead → Type 0
  Good = WithinHead sets relations at

  loop-within : (rule : ℕ) (h : Names) → rule < 7 → Named sets relations h → Good (loop_head bytes sets relations rule h (at + 19))
  unfolding loop_head
  loop-within rule h under n = by (eqb rule 5) refl
    where
      by : (b : Bool) → eqb rule 5 ≡ b → Good (cond b
          (named_table bytes sets (at + 19) (λ K. named_table bytes relations (at + 19 + 4) (λ W. Ok (record { rule = rule; names = h; k = K; w = W; next = at + 19 + 8 }))))
          (Ok (record { rule = rule; names = h; k = 0; w = 0; next = at + 19 })))
      by true t =
          let end : at + 19 + 8 ≡ at + 27 = omega arith in
          rw (eqb-true rule 5 t, end)
          (named_all bytes sets (at + 19) _ Good (λ x. tt) (λ K hK.
          named_all bytes relations (at + 19 + 4) _ Good (λ x. tt) (λ W hW. loop h K W n hK hW)))
      by false t = plain rule h under (eqb-false rule 5 t) n

  names_within : (rule : ℕ) → rule < 7 → Good (names_head bytes sets relations rule (at + 3))
  unfolding names_head
  names_within rule under =
      let end : at + 3 + 16 ≡ at + 19 = omega arith in
      rw end
      (named_all bytes sets _ _ Good (λ x. tt) (λ P hP.
      named_all bytes relations _ _ Good (λ x. tt) (λ R hR.
      named_all bytes relations _ _ Good (λ x. tt) (λ G hG.
      named_all bytes relations _ _ Good (λ x. tt) (λ Q hQ.
      loop-within rule _ under (record { P-below = hP; R-below = hR; G-below = hG; Q-below = hQ }))))))

  head_within : (below before : ℕ) → Good (node_head bytes sets relations below before at)
  unfolding node_head rule_head
  head_within below before = by (eqb below 0 || leb 127 before) (field_or bytes at 3 20) refl
    where
      code : (rule : ℕ) → rule < 8 → (b : Bool) → eqb rule 7 ≡ b → Good (cond b (Err (fault_at 22 at)) (names_head bytes sets relations rule (at + 3)))
      code rule under true t = tt
      code rule under false t = names_within rule (let other = eqb-false rule 7 t in omega arith)

      by : (b : Bool) (f : Result (ℕ × ℕ) FileFault) → field_or bytes at 3 20 ≡ f → Good (rule_head bytes sets relations b at f)
      by b (Err x) e = tt
      by true (Ok (rule, next)) e = tt
      by false (Ok (rule, next)) e =
          let field = there_or bytes at 3 20 rule next e in
          rw field.moved (code rule field.small (eqb rule 7) refl)

  pub node_within : (below before : ℕ) (x : NodeHead) → node_head bytes sets relations below before at ≡ Ok x → HeadWithin sets relations at x
  node_within below before x e = rw e at (head_within below before)

  -- A node that is read without fault has a level left below it and fewer than 127 nodes before it.
  pub head_room : (below before : ℕ) (x : NodeHead) → node_head bytes sets relations below before at ≡ Ok x → (1 ≤ below) × (before < 127)
  unfolding node_head rule_head
  head_room below before x = by (eqb below 0) refl (leb 127 before) refl (field_or bytes at 3 20)
    where
      many : (f : Result (ℕ × ℕ) FileFault) → rule_head bytes sets relations true at f ≡ Ok x → ⊥
      many (Ok (rule, next)) e = cc
      many (Err y) e = cc

      by : (b : Bool) → eqb below 0 ≡ b → (m : Bool) → leb 127 before ≡ m → (f : Result (ℕ × ℕ) FileFault) → rule_head bytes sets relations (b || m) at f ≡ Ok x
          → (1 ≤ below) × (before < 127)
      by true z m l f e = absurd (many f e)
      by false z true l f e = absurd (many f e)
      by false z false l f e = let some = eqb-false below 0 z in (omega arith, leb-false 127 before l)
