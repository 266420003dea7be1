-- Where reading can stop: the cursor after a field that is there is within the file, and so is every place at which reading names a
-- fault. Both readers of files prove from these laws where their faults are.
use Prim.Native.Nat.{ℕ, zero, suc, ◌+◌, ◌*◌, ◌^◌, ◌≤◌}
use mathlib.Core.Bool.{Bool, true, false, cond, ◌&&◌, and-eq-true_iff}
use mathlib.Core.List.{List}
use mathlib.Core.Path.{◌≡◌, refl}
use native.Mathlib.Omega.{arith}
use borrow.Author.Tests.{leb-true, ltb-true, eqb-false}
use lib.Dec.{leb, ltb, eqb}
use lib.ListN.{length}
use Rattle.bits.specs.Fields.{bit_length, bit_at, field_at, first_set, fill_bits, further_byte, fill_from, fill_at}
use Rattle.std.specs.Prelude.{Option, Some, None, Result, Ok, Err}
use Rattle.bits.proofs.Laws.{bit_past, There, there}

-- A fault of a file: its number is one of a range, and its place is in the file or at its end.
pub record FaultIn (bytes : List ℕ) (least most k place : ℕ) : Type 0 where
  pub from_least : least ≤ k
  pub to_most : k ≤ most
  pub inside : place ≤ 8 * length bytes

-- What holds of both answers holds of the one that a test chooses.
pub either : {A : Type 0} (P : A → Type 0) (b : Bool) (x y : A) → P x → P y → P (cond b x y)
either P true x y p q = p
either P false x y p q = q

module _ (bytes : List ℕ) where
  -- What holds of a missing field and of every field that is there holds of what is read.
  pub by_field : {A : Type 0} (P : A → Type 0) (at w : ℕ) (f : Option (ℕ × ℕ) → A) → P (f None)
      → ((v next : ℕ) → There bytes at w v next → P (f (Some (v, next)))) → P (f (field_at bytes at w))
  by_field P at w f missing value = by (field_at bytes at w) refl
    where
      by : (x : Option (ℕ × ℕ)) → field_at bytes at w ≡ x → P (f x)
      by None e = missing
      by (Some (v, next)) e = value v next (there bytes at w v next e)

  -- A fault at a cursor, and at the file's length, where a field is missing. Numbers are written out, so that `refl` shows their range.
  module _ (least most k : ℕ) (ranged : (leb least k && leb k most) ≡ true) where
    pub fault_at : (at : ℕ) → at ≤ 8 * length bytes → FaultIn bytes least most k at
    fault_at at inside =
        let tests = simp and-eq-true_iff at ranged in
        record { from_least = leb-true least k tests.0; to_most = leb-true k most tests.1; inside = inside }

    pub fault_missing : FaultIn bytes least most k (bit_length bytes)
    unfolding bit_length
    fault_missing = fault_at (bit_length bytes) (omega arith)

  abbrev FillIn : Result (Unit {0}) ℕ → Type 0
  FillIn (Ok _) = Unit {0}
  FillIn (Err place) = place ≤ 8 * length bytes

  -- A bit that is set is within the file, and so is the first bit of a further byte.
  first_inside : (at count next : ℕ) → FillIn (further_byte bytes next) → FillIn (fill_from bytes next (first_set bytes at count))
  unfolding first_set fill_from
  first_inside at zero next further = further
  first_inside at (suc count) next further = by (eqb (bit_at bytes at) 0) refl (first_inside (suc at) count next further)
    where
      by : (b : Bool) → eqb (bit_at bytes at) 0 ≡ b → FillIn (fill_from bytes next (first_set bytes (suc at) count))
          → FillIn (fill_from bytes next (cond b (first_set bytes (suc at) count) (Some at)))
      by true t later = later
      by false t later = let past : 8 * length bytes ≤ at → ⊥ = λ h. eqb-false (bit_at bytes at) 0 t (bit_past bytes at h) in omega arith

  further_inside : (next : ℕ) → FillIn (further_byte bytes next)
  unfolding further_byte
  further_inside next = by (ltb next (8 * length bytes)) (ltb next (2 ^ 64)) refl
    where
      by : (a b : Bool) → ltb next (8 * length bytes) ≡ a → FillIn (cond (a && b) (Err next) (Ok tt))
      by true true t = omega (arith, ltb-true next (8 * length bytes) t)
      by true false t = tt
      by false b t = tt

  pub fill_inside : (at place : ℕ) → fill_at bytes at ≡ Err place → place ≤ 8 * length bytes
  unfolding fill_at
  fill_inside at place e = rw e at (first_inside at (fill_bits at) (at + fill_bits at) (further_inside (at + fill_bits at)))
