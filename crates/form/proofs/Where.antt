-- Tables that are given by tests: the bits of their numbers are the tests, and the tests of a table in a file give back its number.
use Prim.Native.Nat.{ℕ, zero, suc, ◌+◌, ◌*◌, ◌/◌, ◌%◌, ◌<◌}
use mathlib.Core.Bool.{Bool, cond, ◌&&◌}
use mathlib.Core.List.{List}
use mathlib.Core.Path.{◌≡◌, refl, ◌∙◌, ap₂, fun_ext}
use native.Mathlib.Nat.{mul_comm, mod-lt, div-lt_iff_lt-mul}
use native.Mathlib.Omega.{arith}
use borrow.Author.Tests.{ltb-true, lt-ltb}
use lib.Arith.{digits_div, digits_mod}
use lib.Dec.{ltb, eqb}
use Rattle.bits.specs.Fields.{bit_at, bits_at}
use Rattle.bits.proofs.Laws.{bit_below}
use Rattle.states.specs.Sets.{bits_where}
use Rattle.states.proofs.Search.{and_left, and_right}
use Rattle.states.proofs.Where.{where_place, where_same}
use Rattle.semantics.specs.States.{Machine}
use Rattle.semantics.specs.Derivations.{set_of, relation_of}
use Rattle.derivation.specs.Tables.{set_at, row_at, in_set_of, in_relation_of}
use Rattle.form.specs.Members.{set_members, relation_members, set_where, relation_where}
use Rattle.form.proofs.Verdicts.{member_tables, file_tables, pair_below, pair_of, some_row, guarded}

-- The number of a field, from the tests of its bits.
digit_back : (d : ℕ) → d < 2 → cond (eqb d 1) 1 0 ≡ d
digit_back zero l = refl
digit_back (suc zero) l = refl
digit_back (suc (suc d)) l = absurd (omega arith)

pub bits_where_lem : (s : List ℕ) (at w : ℕ) → bits_where w (λ j. eqb (bit_at s (at + j)) 1) ≡ bits_at s at w
unfolding bits_where bits_at
bits_where_lem s at zero = refl
bits_where_lem s at (suc w) = ap₂ (λ v b. v * 2 + b) (bits_where_lem s at w) (digit_back (bit_at s (at + w)) (bit_below s (at + w)))

-- Named by its members, a table has the states or pairs of which its test holds.
module _ (m : Machine) where
  pub set_where_lem : (p : ℕ → Bool) → set_of (member_tables m) (set_where m.states p) ≡ (λ s. ltb s m.states && p s)
  unfolding set_where
  set_where_lem p = fun_ext (λ s. guarded (ltb s m.states) _ _ (λ l. where_place m.states p s (ltb-true s _ l)))

  pub relation_where_lem : (r : ℕ → ℕ → Bool)
      → relation_of (member_tables m) (relation_where m.states r) ≡ (λ s t. ltb s m.states && ltb t m.states && r s t)
  unfolding relation_where
  relation_where_lem r =
      let n = m.states in
      fun_ext (λ s. fun_ext (λ t. guarded (ltb s n && ltb t n) _ _ (λ l.
      let under = ltb-true t n (and_right (ltb s n) _ l) in
      where_place (n * n) _ (n * s + t) (pair_below n s t (ltb-true s n (and_left _ _ l)) under)
      ∙ rw (mul_comm n s) (ap₂ r (digits_div s under) (digits_mod s under)))))

-- The number of a table in a proof file, from the tests of membership in it.
module _ (m : Machine) (bytes : List ℕ) (sets : ℕ) where
  pub set_members_where : (i : ℕ) → set_where m.states (set_of (file_tables m bytes sets) i) ≡ set_members bytes m.states i
  unfolding set_where set_members in_set_of
  set_members_where i =
      where_same m.states _ _ (λ s l. rw (lt-ltb s m.states l)) ∙ bits_where_lem bytes (set_at m.states i) m.states

  pub relation_members_where : (r : ℕ)
      → relation_where m.states (relation_of (file_tables m bytes sets) r) ≡ relation_members bytes m.states sets r
  unfolding relation_where relation_members in_relation_of
  relation_members_where r =
      let n = m.states in
      where_same (n * n) _ (λ k. eqb (bit_at bytes (row_at n sets r 0 + k)) 1) (λ k l.
      let some = some_row n k l in
      rw (lt-ltb (k / n) n ((div-lt_iff_lt-mul some).1 l), lt-ltb (k % n) n (mod-lt k some), pair_of n sets r k))
      ∙ bits_where_lem bytes (row_at n sets r 0) (n * n)
