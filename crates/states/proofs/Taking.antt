-- The states of a set one after the other: what one of them says, and a test of all of them.
use Prim.Native.Nat.{ℕ}
use mathlib.Core.Path.{◌≡◌, refl, sym, ap, subst, ◌∙◌}
use mathlib.Core.Bool.{Bool, true, false, cond, not, ◌&&◌, false≢true}
use mathlib.Core.List.{List, [], ◌∷◌}
use denote.Param.Members.{Mut}
use Rattle.std.specs.Prelude.{Option, Some, None, MatchOption, is_some}
use Rattle.std.specs.Fn.{Called}
use Rattle.std.specs.Iterator.{ChecksAll, Yields}
use Rattle.std.specs.List.{FoldsTo}
use Rattle.states.specs.declared.iteration.States.{States}
use Rattle.states.specs.Search.{implies, all, any, least_where}
use Rattle.states.specs.Sets.{capacity, has}
use Rattle.states.specs.Taking.{first_where, TakesLeast}
use Rattle.states.proofs.Search.{all_intro}
use Rattle.states.proofs.Least.{IsLeast}
use Rattle.states.proofs.Members.{LeastTaken, least_of, take_least, none_in, all_taken, has_below}

-- A state that came was taken out.
pub taken : (s t : States) (k : ℕ) → TakesLeast s (Some k) t → LeastTaken s.rest t.rest k
unfolding first_where
taken s t k one = by (any capacity (has s.rest)) refl one.least
  where
    by : (b : Bool) → any capacity (has s.rest) ≡ b → Some k ≡ cond b (Some (least_where capacity (has s.rest))) None → LeastTaken s.rest t.rest k
    by true e is =
        let first = ap (λ (o : Option ℕ). elim o [ None ↦ k | Some z ↦ z ]) is in
        take_least s.rest false (ap not (sym e)) refl k first t.rest one.left
    by false e is = absurd (false≢true (sym (ap is_some is)))

-- It was the least.
pub least_came : (s t : States) (k : ℕ) → TakesLeast s (Some k) t → IsLeast capacity (has s.rest) k
unfolding first_where
least_came s t k one = by (any capacity (has s.rest)) refl one.least
  where
    by : (b : Bool) → any capacity (has s.rest) ≡ b → Some k ≡ cond b (Some (least_where capacity (has s.rest))) None → IsLeast capacity (has s.rest) k
    by true e is =
        let first = ap (λ (o : Option ℕ). elim o [ None ↦ k | Some z ↦ z ]) is in
        least_of s.rest false (ap not (sym e)) refl k first
    by false e is = absurd (false≢true (sym (ap is_some is)))

-- Where none came, there is none.
pub none_more : (s t : States) → TakesLeast s None t → (k : ℕ) → has s.rest k ≡ false
unfolding first_where
none_more s t one = by (any capacity (has s.rest)) refl one.least
  where
    by : (b : Bool) → any capacity (has s.rest) ≡ b → None ≡ cond b (Some (least_where capacity (has s.rest))) None → (k : ℕ) → has s.rest k ≡ false
    by false e is = none_in s.rest true (ap not (sym e)) refl
    by true e is = absurd (false≢true (ap is_some is))

-- A test of all: it stops at the first state at which p is false, and is true if there is none.
module _ {F : Type 0} {g : Mut F (ℕ × Unit {0}) Bool} {f : F} (p : ℕ → Bool)
    (answer : (x : ℕ) (b : Bool) (q : F) → Called g f (x, tt) b q → (q ≡ f) × (b ≡ p x)) where
  abbrev Passes : States → Bool
  Passes s = all capacity (λ k. implies (has s.rest k) (p k))

  at_one : (s t : States) (x : ℕ) → TakesLeast s (Some x) t → (p x && Passes t) ≡ Passes s
  at_one s t x one = let took = taken s t x one in all_taken _ _ x took.taken capacity (has_below s.rest x took.taken.there) p

  along : (r : Bool) (xs : List ℕ) (s t u : States) (o : Option ℕ) (h : F) → Yields TakesLeast s xs t → TakesLeast t o u
      → FoldsTo (λ a x q. Called g a (x, tt) true q) f xs h → MatchOption o (r ≡ true) (λ x. (r ≡ false) × ((w : F) × Called g h (x, tt) false w))
      → r ≡ Passes s
  unfolding implies
  along r [] s t u None h same one ran end = end ∙ sym (all_intro capacity _ (λ k l. rw (subst (λ v. has v.rest k ≡ false) (sym same) (none_more t u one k))))
  along r [] s t u (Some x) h same one ran end =
      let said = answer x false _ (subst (λ w. Called g w (x, tt) false end.1.0) (sym ran) end.1.1) in
      end.0 ∙ ap (λ b. b && Passes u) said.1 ∙ at_one t u x one ∙ ap Passes (sym same)
  along r (x ∷ xs) s t u o h more one ran end =
      let said = answer x true _ ran.1 in
      along r xs more.0 t u o h more.2 one (subst (λ w. FoldsTo (λ a x q. Called g a (x, tt) true q) w xs h) said.0 ran.2) end
      ∙ ap (λ b. b && Passes more.0) said.1 ∙ at_one s more.0 x more.1

  pub all_of_states : (s u : States) (r : Bool) → ChecksAll TakesLeast g s f r u → r ≡ all capacity (λ k. implies (has s.rest k) (p k))
  all_of_states s u r d = along r d.0 s d.3.0 u d.1 d.2 d.3.1 d.3.2 d.4 d.5
