-- The first fault depends on the members of the tables only, not on their names.
use Prim.Native.Nat.{ℕ, zero, suc, ◌+◌, ◌-◌, ◌*◌, ◌/◌, ◌%◌, ◌^◌, ◌<◌}
use mathlib.Core.Bool.{Bool, true, false, ◌&&◌}
use mathlib.Core.List.{List}
use mathlib.Core.Path.{◌≡◌, refl, sym, ◌∙◌, ap, ap₂, fun_ext}
use native.Mathlib.Nat.{mul_comm, div-add-mod}
use native.Mathlib.Omega.{arith}
use borrow.Author.Tests.{ltb-true}
use lib.Arith.{digits_lt, digits_div}
use lib.Dec.{ltb, eqb}
use Rattle.bits.specs.Fields.{bit_at, bits_at}
use Rattle.bits.proofs.Laws.{bit_below, bits_below, bits_join}
use Rattle.states.proofs.Search.{and_left, and_right}
use Rattle.semantics.specs.declared.Names.{Names}
use Rattle.semantics.specs.Language.{Stmt}
use Rattle.semantics.specs.States.{Machine}
use Rattle.semantics.specs.Derivations.{Derivation, skip, assignment, sequence, parallel, conditional, iteration, weaken, names_of, Tables, set_of, relation_of, spec_of}
use Rattle.semantics.specs.Conditions.{statement_code, target_of, expr_of, first_of}
use Rattle.semantics.specs.Checking.{first_broken, or_broken, at_node, skip_obligations, assignment_obligations, sequence_obligations, parallel_obligations, if_obligations, while_obligations, weaken_obligations, obligations, first_fault}
use Rattle.derivation.specs.Tables.{set_at, row_at, in_set_of, in_relation_of}
use Rattle.derivation.proofs.NodeTable.{Known, at_root}
use Rattle.form.specs.Members.{names_by, rename, set_members, relation_members, by_members}
use Rattle.form.proofs.EveryName.{OwnNames, EveryName, every_name, known_every}
use Rattle.form.proofs.Renaming.{names_renamed, nodes_rename}

-- Bit j of w bits, the first the most significant.
pub bits_bit : (s : List ℕ) (at w j : ℕ) → j < w → bits_at s at w / 2 ^ (w - 1 - j) % 2 ≡ bit_at s (at + j)
unfolding bits_at
bits_bit s at w j l =
    let k : ℕ = w - 1 - j in
    let whole : suc j + k ≡ w = omega arith in
    let high = digits_div (bits_at s at (suc j)) (bits_below s (at + suc j) k) in
    ap (λ v. bits_at s at v / 2 ^ k % 2) (sym whole) ∙ ap (λ v. v / 2 ^ k % 2) (bits_join s at (suc j) k) ∙ ap (λ v. v % 2) high
    ∙ omega (arith, bit_below s (at + j))

-- Equal members have equal bits.
pub same_members : (a b : List ℕ) (x y w : ℕ) → bits_at a x w ≡ bits_at b y w → (k : ℕ) → k < w → bit_at a (x + k) ≡ bit_at b (y + k)
same_members a b x y w e k l = sym (bits_bit a x w k l) ∙ ap (λ v. v / 2 ^ (w - 1 - k) % 2) e ∙ bits_bit b y w k l

-- Two tables over one machine: set i of the first is set f i of the second, and relation r is relation g r.
module _ (t : Tables) (in_set : ℕ → ℕ → Bool) (inRelation : ℕ → ℕ → ℕ → Bool) (f g : ℕ → ℕ) where
  abbrev u : Tables
  u = record { machine = t.machine; sets = in_set; relations = inRelation }

  abbrev count : ℕ
  count = t.machine.states

  abbrev SameSet : ℕ → Type 0
  SameSet i = set_of t i ≡ set_of u (f i)

  abbrev SameRelation : ℕ → Type 0
  SameRelation r = relation_of t r ≡ relation_of u (g r)

  abbrev Same : Derivation → Type 0
  Same d = EveryName SameSet SameRelation d

  -- The tables of a node by their members.
  own-spec : (h : Names) → OwnNames SameSet SameRelation h → spec_of t h ≡ spec_of u (names_by f g h)
  own-spec h e = rw (e.0, e.1, e.2, e.3)

  root-spec : (d : Derivation) → Same d → spec_of t (names_of d) ≡ spec_of u (names_of (rename f g d))
  root-spec d e = own-spec (names_of d) (at_root _ _ _ d e) ∙ ap (spec_of u) (sym (names_renamed f g d))

  -- The conditions of a node look at the members only.
  same_obligations : (d : Derivation) → Same d → (S : Stmt) → obligations t d S ≡ obligations u (rename f g d) S
  unfolding rename
  same_obligations (skip h) e S = λ i. skip_obligations count (eqb (statement_code S) 0) (own-spec h e i)
  same_obligations (assignment h) e S =
      λ i. assignment_obligations t.machine (eqb (statement_code S) 1) (own-spec h e i) (target_of S) (expr_of S)
  same_obligations (sequence h l r) e S =
      λ i. sequence_obligations count (eqb (statement_code S) 2) (own-spec h e.0 i) (root-spec l e.1 i) (root-spec r e.2 i)
  same_obligations (parallel h l r) e S =
      λ i. parallel_obligations count (eqb (statement_code S) 3) (own-spec h e.0 i) (root-spec l e.1 i) (root-spec r e.2 i)
  same_obligations (conditional h d) e S =
      λ i. if_obligations t.machine (eqb (statement_code S) 4) (own-spec h e.0 i) (expr_of S) (root-spec d e.1 i)
  same_obligations (iteration h K W d) e S =
      λ i. while_obligations t.machine (eqb (statement_code S) 5) (own-spec h e.0 i) (expr_of S) (e.1 i) (e.2 i) (root-spec d e.3 i)
  same_obligations (weaken h d) e S = λ i. weaken_obligations count (own-spec h e.0 i) (root-spec d e.1 i)

  own_fault : (d : Derivation) → Same d → (S : Stmt) (k : ℕ)
      → at_node k (first_broken (obligations t d S)) ≡ at_node k (first_broken (obligations u (rename f g d) S))
  own_fault d e S k = ap (λ cs. at_node k (first_broken cs)) (same_obligations d e S)

  pub named_fault : (d : Derivation) → Same d → (S : Stmt) (k : ℕ) → first_fault t d S k ≡ first_fault u (rename f g d) S k
  unfolding rename
  named_fault (skip h) e S k = own_fault (skip h) e S k
  named_fault (assignment h) e S k = own_fault (assignment h) e S k
  named_fault (sequence h l r) e S k =
      ap₂ or_broken (own_fault (sequence h l r) e S k) (rw (named_fault l e.1, named_fault r e.2, nodes_rename f g l))
  named_fault (parallel h l r) e S k =
      ap₂ or_broken (own_fault (parallel h l r) e S k) (rw (named_fault l e.1, named_fault r e.2, nodes_rename f g l))
  named_fault (conditional h d) e S k = ap₂ or_broken (own_fault (conditional h d) e S k) (named_fault d e.1 (first_of S) (suc k))
  named_fault (iteration h K W d) e S k = ap₂ or_broken (own_fault (iteration h K W d) e S k) (named_fault d e.3 (first_of S) (suc k))
  named_fault (weaken h d) e S k = ap₂ or_broken (own_fault (weaken h d) e S k) (named_fault d e.1 S (suc k))

  -- Of a derivation that names tables below these counts.
  pub same_fault : (sets relations : ℕ) (d : Derivation) → Known sets relations d
      → ((i : ℕ) → i < sets → set_of t i ≡ set_of u (f i)) → ((r : ℕ) → r < relations → relation_of t r ≡ relation_of u (g r))
      → (S : Stmt) (k : ℕ) → first_fault t d S k ≡ first_fault u (rename f g d) S k
  same_fault sets relations d known a b = named_fault d (known_every sets relations _ _ a b d known)

-- Tables whose names are their members: state s is in v if bit s of v's n bits is 1, and (s,u) if bit n * s + u of its n * n bits is.
abbrev pub member_tables : Machine → Tables
member_tables m = record {
  machine = m;
  sets = λ v s. eqb (v / 2 ^ (m.states - 1 - s) % 2) 1;
  relations = λ v s u. eqb (v / 2 ^ (m.states * m.states - 1 - (m.states * s + u)) % 2) 1;
}

-- The tables of a proof file with `sets` sets.
abbrev pub file_tables : Machine → List ℕ → ℕ → Tables
file_tables m bytes sets = record { machine = m; sets = in_set_of bytes m.states; relations = in_relation_of bytes m.states sets }

-- Bit (s,u) of a relation, counted from its first row.
pub pair_at : (n sets r s u : ℕ) → row_at n sets r s + u ≡ row_at n sets r 0 + (n * s + u)
unfolding row_at
pair_at n sets r s u = omega arith

pub pair_below : (n s u : ℕ) → s < n → u < n → n * s + u < n * n
pair_below n s u a b = rw (mul_comm n s) (digits_lt a b)

-- Bit k of a relation is that of a pair.
pub some_row : (n k : ℕ) → k < n * n → 0 < n
some_row zero k under = absurd (omega arith)
some_row (suc n) k under = omega arith

pub pair_of : (n sets r k : ℕ) → row_at n sets r 0 + k ≡ row_at n sets r (k / n) + k % n
pair_of n sets r k = ap (λ i. row_at n sets r 0 + i) (sym (div-add-mod k n)) ∙ sym (pair_at n sets r (k / n) (k % n))

-- A test is looked at only where those before it hold.
pub guarded : (a b c : Bool) → (a ≡ true → b ≡ c) → (a && b) ≡ (a && c)
guarded true b c e = e refl
guarded false b c e = refl

module _ (m : Machine) (bytes : List ℕ) (sets : ℕ) where
  abbrev n : ℕ
  n = m.states

  set_by_members : (i : ℕ) → set_of (file_tables m bytes sets) i ≡ set_of (member_tables m) (set_members bytes n i)
  unfolding set_members in_set_of
  set_by_members i = fun_ext (λ s. guarded (ltb s n) _ _ (λ l. ap (λ v. eqb v 1) (sym (bits_bit bytes (set_at n i) n s (ltb-true s n l)))))

  relation_by_members : (r : ℕ) → relation_of (file_tables m bytes sets) r ≡ relation_of (member_tables m) (relation_members bytes n sets r)
  unfolding relation_members in_relation_of
  relation_by_members r =
      fun_ext (λ s. fun_ext (λ u. guarded (ltb s n && ltb u n) _ _ (λ l. ap (λ v. eqb v 1)
      (ap (bit_at bytes) (pair_at n sets r s u) ∙ sym (bits_bit bytes (row_at n sets r 0) (n * n) (n * s + u)
      (pair_below n s u (ltb-true s n (and_left _ _ l)) (ltb-true u n (and_right (ltb s n) _ l))))))))

  pub members_fault : (d : Derivation) (S : Stmt) (k : ℕ)
      → first_fault (file_tables m bytes sets) d S k ≡ first_fault (member_tables m) (by_members bytes n sets d) S k
  unfolding by_members
  members_fault d =
      named_fault (file_tables m bytes sets) (member_tables m).sets (member_tables m).relations _ _ d
      (every_name _ _ d (λ i h. set_by_members i) (λ r h. relation_by_members r))

  -- The tables of the root.
  pub members-spec : (d : Derivation)
      → spec_of (file_tables m bytes sets) (names_of d) ≡ spec_of (member_tables m) (names_of (by_members bytes n sets d))
  unfolding by_members
  members-spec d =
      root-spec (file_tables m bytes sets) (member_tables m).sets (member_tables m).relations _ _ d
      (every_name _ _ d (λ i h. set_by_members i) (λ r h. relation_by_members r))

-- Two proof files over one machine, whose derivations agree by members, have the same first fault.
pub files_fault : (m : Machine) (a b : List ℕ) (setsA setsB : ℕ) (x y : Derivation)
    → by_members a m.states setsA x ≡ by_members b m.states setsB y
    → (S : Stmt) (k : ℕ) → first_fault (file_tables m a setsA) x S k ≡ first_fault (file_tables m b setsB) y S k
files_fault m a b setsA setsB x y e S k =
    members_fault m a setsA x S k ∙ ap (λ d. first_fault (member_tables m) d S k) e ∙ sym (members_fault m b setsB y S k)
