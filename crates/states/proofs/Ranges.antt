-- `all` over the numbers of a range, whose closure says what it answers at each.
use Prim.Native.Nat.{ℕ, zero, suc, ◌+◌}
use native.Mathlib.Omega.{arith}
use mathlib.Core.Path.{◌≡◌, refl, sym, ap, ap₂, ◌∙◌}
use mathlib.Core.Bool.{Bool, ◌&&◌}
use denote.Param.Members.{Mut}
use Rattle.std.specs.declared.ops.Range.{Range}
use Rattle.std.proofs.iter.Yields.{nat_range_steps}
use Rattle.std.specs.Fn.{Called}
use Rattle.std.specs.Iterator.{ChecksAll}
use Rattle.std.specs.List.{list_all, range_with_len}
use Rattle.std.proofs.lemmas.Iterator.{YieldsList-from_range}
use Rattle.std.proofs.lemmas.Iterator.Search.{all_from_yields_List}
use Rattle.states.specs.Search.{all}
use Rattle.states.proofs.Search.{all_split, all_cong}

-- The first number of all.
all_first : (n : ℕ) (q : ℕ → Bool) → all (suc n) q ≡ (q 0 && all n (λ s. q (1 + s)))
unfolding all
all_first n q = let e : suc n ≡ 1 + n = omega arith in ap (λ m. all m q) e ∙ all_split 1 n q

in_order : (a n : ℕ) (p : ℕ → Bool) → list_all p (range_with_len a n) ≡ all n (λ k. p (a + k))
unfolding all
in_order a zero p = refl
in_order a (suc n) p =
    let first : p a ≡ p (a + 0) = ap p (omega arith) in
    ap₂ ◌&&◌ first (in_order (a + 1) n p ∙ all_cong n _ _ (λ s l. ap p (omega arith))) ∙ sym (all_first n (λ k. p (a + k)))

pub all_of_range : {F : Type 0} {g : Mut F (ℕ × Unit {0}) Bool} {f : F} (n : ℕ) (p : ℕ → Bool) (u : Range ℕ) (r : Bool)
    → ChecksAll nat_range_steps g (record { start = 0; end = n }) f r u
    → ((x : ℕ) (b : Bool) (q : F) → Called g f (x, tt) b q → (q ≡ f) × (b ≡ p x)) → r ≡ all n p
all_of_range n p u r d k = all_from_yields_List p u _ r d (YieldsList-from_range 0 n n refl (omega arith)) k
    ∙ in_order 0 n p ∙ all_cong n _ _ (λ s l. ap p (omega arith))
