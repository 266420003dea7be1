-- Whether a search over states finds nothing, as bounded quantifiers: a search through a set is one at each member, and if every member
-- is below two bounds, either bound can be used.
use Prim.Native.Nat.{ℕ, ◌+◌, ◌<◌, ◌≤◌}
use native.Mathlib.Nat.{le_antisymm}
use native.Mathlib.Numerals.{add-one}
use mathlib.Core.Path.{◌≡◌, refl, sym, ap, ap₂, ◌∙◌}
use mathlib.Core.Logic.{◌⊎◌, inl, inr}
use mathlib.Core.Bool.{Bool, true, false, ◌&&◌, true≢false}
use lib.Dec.{ltb}
use borrow.Author.Tests.{lt-ltb}
use denote.Param.Members.{Mut}
use Rattle.std.specs.declared.ops.Range.{Range}
use Rattle.std.proofs.iter.Yields.{nat_range_steps}
use Rattle.std.specs.Fn.{Called}
use Rattle.std.specs.Iterator.{ChecksAll}
use Rattle.states.specs.Search.{implies, all, any, Search, must, given, named, each, holds}
use Rattle.states.specs.Taking.{TakesLeast}
use Rattle.states.specs.declared.iteration.States.{States}
use Rattle.states.proofs.Taking.{all_of_states}
use Rattle.states.proofs.Ranges.{all_of_range}
use Rattle.states.proofs.Search.{and_left, and_right, and_both, implies_intro, implies_at, implies_false, bool_ext, beq_refl, true_or_false, all_intro, all_at, all_cong, any_intro, any_true, any_at, holds_must, holds_given, holds_named, holds_or_else, holds_each, each_cong}
use Rattle.states.specs.Sets.{capacity, has}
use Rattle.states.specs.declared.StateSet.{StateSet}
use Rattle.states.proofs.Members.{has_below}
use Rattle.semantics.specs.Conditions.{in_set, same_set, same_relation, set_lies_in, relation_lies_in}

-- The start, the step and the end of a loop that counts the states up.
pub none_held : (f : ℕ → Search) → true ≡ holds (each 0 f)
unfolding each holds
none_held f = refl

pub holds_next : (s : ℕ) (f : ℕ → Search) → (holds (each s f) && holds (f s)) ≡ holds (each (s + 1) f)
unfolding each
holds_next s f = rw add-one (sym (holds_or_else (each s f) (named s (f s)) ∙ ap (λ b. holds (each s f) && b) (holds_named s (f s))))

-- `all` over a range whose closure says at each number whether a search finds nothing there.
pub each_of_range : {F : Type 0} {g : Mut F (ℕ × Unit {0}) Bool} {c : F} (n : ℕ) (f : ℕ → Search) (u : Range ℕ) (r : Bool)
    → ChecksAll nat_range_steps g (record { start = 0; end = n }) c r u
    → ((x : ℕ) (b : Bool) (q : F) → Called g c (x, tt) b q → (q ≡ c) × (b ≡ holds (f x))) → r ≡ holds (each n f)
each_of_range n f u r d k = all_of_range n (λ s. holds (f s)) u r d k ∙ sym (holds_each n f)

pub each_done : (s n : ℕ) (f : ℕ → Search) → s ≤ n → n ≤ s → holds (each s f) ≡ holds (each n f)
each_done s n f up down = ap (λ k. holds (each k f)) (le_antisymm up down)

-- If every breach is below both bounds, either bound can be used.
pub all_bounds : (j k : ℕ) (p : ℕ → Bool) → ((t : ℕ) → p t ≡ false → (t < j) × (t < k)) → all j p ≡ all k p
all_bounds j k p low =
    bool_ext _ _ (λ h. all_intro k p (λ t l. at j (λ e. (low t e).0) h (true_or_false (p t))))
    (λ h. all_intro j p (λ t l. at k (λ e. (low t e).1) h (true_or_false (p t))))
  where
    at : {t : ℕ} (i : ℕ) → (p t ≡ false → t < i) → all i p ≡ true → (p t ≡ true) ⊎ (p t ≡ false) → p t ≡ true
    at i below h (inl e) = e
    at {t} i below h (inr e) = all_at i p h t (below e)

-- A search through the members of a set.
module _ (n : ℕ) (p : ℕ → Bool) (f : ℕ → Search) where
  pub holds_in_set : holds (in_set n p f) ≡ all n (λ s. implies (p s) (holds (f s)))
  unfolding in_set
  holds_in_set = holds_each _ _ ∙ all_cong _ _ _ (λ s l. holds_given (p s) (f s))

  pub in_set_intro : ((s : ℕ) → s < n → p s ≡ true → holds (f s) ≡ true) → holds (in_set n p f) ≡ true
  in_set_intro h = holds_in_set ∙ all_intro n _ (λ s l. implies_intro _ _ (h s l))

  pub in_set_at : holds (in_set n p f) ≡ true → (s : ℕ) → s < n → p s ≡ true → holds (f s) ≡ true
  in_set_at h s l = implies_at _ _ (all_at n _ (sym holds_in_set ∙ h) s l)

pub in_set_same : (n : ℕ) (p q : ℕ → Bool) (f g : ℕ → Search) → ((s : ℕ) → p s ≡ q s) → ((s : ℕ) → holds (f s) ≡ holds (g s))
    → holds (in_set n p f) ≡ holds (in_set n q g)
in_set_same n p q f g members each = holds_in_set n p f ∙ all_cong n _ _ (λ s l. ap₂ implies (members s) (each s)) ∙ sym (holds_in_set n q g)

-- Every member is a state below n that a set can hold.
abbrev pub StatesOnly : ℕ → (ℕ → Bool) → Type 0
StatesOnly n p = (t : ℕ) → p t ≡ true → (t < capacity) × (t < n)

pub within_holds : (n : ℕ) (p q : ℕ → Bool) → all n (λ t. implies (p t) (q t)) ≡ holds (in_set n p (λ t. must (q t)))
within_holds n p q = sym (holds_in_set n p _ ∙ all_cong n _ _ (λ t l. ap (implies (p t)) (holds_must (q t))))

-- A relation lies in itself and is the same as itself.
pub lies_in_itself : (n : ℕ) (r : ℕ → ℕ → Bool) → relation_lies_in n r r ≡ true
unfolding relation_lies_in set_lies_in
lies_in_itself n r = all_intro n _ (λ s l. all_intro n _ (λ t k. implies_intro _ _ (λ e. e)))

pub same_as_itself : (n : ℕ) (r : ℕ → ℕ → Bool) → same_relation n r r ≡ true
unfolding same_relation same_set
same_as_itself n r = all_intro n _ (λ s l. all_intro n _ (λ t k. beq_refl (r s t)))

-- Whether the pairs that start in a set all end in another set.
pub ends_within : (n : ℕ) (p : ℕ → Bool) (r : ℕ → ℕ → Bool) (q : ℕ → Bool)
    → all n (λ t. implies (any n (λ s. p s && r s t)) (q t)) ≡ holds (in_set n p (λ s. in_set n (r s) (λ t. must (q t))))
ends_within n p r q =
    bool_ext _ _
    (λ h. in_set_intro n p _ (λ s l ps. sym (within_holds n (r s) q) ∙ all_intro n _ (λ t k. implies_intro _ _ (λ st.
    implies_at _ _ (all_at n _ h t k) (any_intro n _ s l (and_both _ _ ps st))))))
    (λ h. all_intro n _ (λ t k. implies_intro _ _ (λ e. from h t k (any_true n _ e))))
  where
    from : holds (in_set n p (λ s. in_set n (r s) (λ t. must (q t)))) ≡ true → (t : ℕ) → t < n
        → (s : ℕ) × (s < n) × ((p s && r s t) ≡ true) → q t ≡ true
    from h t k w =
        let ps = and_left (p w.0) _ w.2 in
        let st = and_right (p w.0) (r w.0 t) w.2 in
        sym (holds_must (q t)) ∙ in_set_at n _ _ (in_set_at n p _ h w.0 w.1 ps) t k st

-- It is enough to search at the members where the search may find something.
pub in_set_part : (n : ℕ) (p d : ℕ → Bool) (f : ℕ → Search) → ((s : ℕ) → p s ≡ true → d s ≡ false → holds (f s) ≡ true)
    → holds (in_set n (λ s. p s && d s) f) ≡ holds (in_set n p f)
in_set_part n p d f clear =
    bool_ext _ _ (λ h. in_set_intro n p f (λ s l e. at h s l e (true_or_false (d s))))
    (λ h. in_set_intro n _ f (λ s l e. in_set_at n p f h s l (and_left (p s) _ e)))
  where
    at : holds (in_set n (λ s. p s && d s) f) ≡ true → (s : ℕ) → s < n → p s ≡ true → (d s ≡ true) ⊎ (d s ≡ false) → holds (f s) ≡ true
    at h s l e (inl i) = in_set_at n _ f h s l (and_both _ _ e i)
    at h s l e (inr o) = clear s e o

-- If a search goes on by pairs, it is enough to look at the members that start a pair; if none does, it finds nothing.
pub in_set_starting : (n : ℕ) (p d : ℕ → Bool) (r : ℕ → ℕ → Bool) (f : ℕ → ℕ → Search) → StatesOnly n p → ((s : ℕ) → d s ≡ (ltb s capacity && any n (r s)))
    → holds (in_set n (λ s. p s && d s) (λ s. in_set n (r s) (f s))) ≡ holds (in_set n p (λ s. in_set n (r s) (f s)))
in_set_starting n p d r f small starts =
    in_set_part n p d _ (λ s at out. in_set_intro n (r s) _ (λ t l e. absurd (true≢false (sym e ∙ any_at n (r s) (none s at out) t l))))
  where
    none : (s : ℕ) → p s ≡ true → d s ≡ false → any n (r s) ≡ false
    none s at out = rw (lt-ltb s capacity (small s at).0) at (sym (starts s) ∙ out)

pub in_set_none : (n : ℕ) (p : ℕ → Bool) (d : StateSet) (r : ℕ → ℕ → Bool) (f : ℕ → ℕ → Search) → StatesOnly n p
    → ((s : ℕ) → has d s ≡ (ltb s capacity && any n (r s))) → ((s : ℕ) → has d s ≡ false) → holds (in_set n p (λ s. in_set n (r s) (f s))) ≡ true
in_set_none n p d r f small starts none =
    sym (in_set_starting n p (has d) r f small starts) ∙ in_set_intro n _ _ (λ s l h. absurd (true≢false (sym (and_right (p s) _ h) ∙ none s)))

-- If a set holds all n states, every pair ends in it.
pub full_within : (n : ℕ) (p : ℕ → Bool) (r : ℕ → ℕ → Bool) (q : ℕ → Bool) → ((s : ℕ) → StatesOnly n (r s))
    → all capacity (λ t. implies (ltb t capacity && ltb t n) (q t)) ≡ true
    → holds (in_set n p (λ s. in_set n (r s) (λ t. must (q t)))) ≡ true
full_within n p r q small full =
    in_set_intro n p _ (λ s l ps. in_set_intro n (r s) _ (λ t k st. holds_must (q t) ∙ implies_at _ _ (all_at capacity _ full t (small s t st).0)
    (and_both _ _ (lt-ltb t capacity (small s t st).0) (lt-ltb t n k))))

-- So a comparison over all states that a set can hold is the same as over the n states.
pub small_all : (n : ℕ) (p q : ℕ → Bool) → StatesOnly n p → all capacity (λ t. implies (p t) (q t)) ≡ all n (λ t. implies (p t) (q t))
small_all n p q small = all_bounds capacity n _ (λ t e. small t (implies_false (p t) (q t) e).0)

-- A test of all states of a set, whose closure says at each whether a search finds nothing there.
pub search_of_states : {F : Type 0} {g : Mut F (ℕ × Unit {0}) Bool} {c : F} (n : ℕ) (p : ℕ → Bool) (f : ℕ → Search) (set : StateSet) (i u : States) (r : Bool)
    → i.rest ≡ set → ((s : ℕ) → has set s ≡ true → s < n) → ((s : ℕ) → s < n → has set s ≡ p s) → ChecksAll TakesLeast g i c r u
    → ((x : ℕ) (b : Bool) (q : F) → Called g c (x, tt) b q → (q ≡ c) × (b ≡ holds (f x))) → r ≡ holds (in_set n p f)
search_of_states n p f set i u r is low same d k =
    all_of_states (λ s. holds (f s)) k i u r d ∙ ap (λ (v : StateSet). all capacity (λ s. implies (has v s) (holds (f s)))) is
    ∙ small_all n (has set) _ (λ s h. (has_below set s h, low s h))
    ∙ all_cong n _ _ (λ s l. ap (λ b. implies b (holds (f s))) (same s l)) ∙ sym (holds_in_set n p f)

pub small_within : (n : ℕ) (p q : ℕ → Bool) → StatesOnly n p
    → all capacity (λ t. implies (p t) (q t)) ≡ holds (in_set n p (λ t. must (q t)))
small_within n p q small = small_all n p q small ∙ within_holds n p q

-- If a set is within another, so is each part of it.
pub part_within : (n : ℕ) (p x q : ℕ → Bool) → all n (λ t. implies (p t) (q t)) ≡ true → all n (λ t. implies (p t && x t) (q t)) ≡ true
part_within n p x q h = all_intro n _ (λ t l. implies_intro _ _ (λ e. implies_at _ _ (all_at n _ h t l) (and_left (p t) _ e)))

-- A search at a state that may or may not be a member.
pub at_member : (b : Bool) (x : Search) → b ≡ true → holds x ≡ holds (given b x)
unfolding given
at_member b x e = rw e

pub at_other : (b : Bool) (x : Search) → b ≡ false → true ≡ holds (given b x)
unfolding given holds
at_other b x e = rw e

pub in_set_and : (n : ℕ) (p q : ℕ → Bool) (f : ℕ → Search)
    → in_set n (λ s. p s && q s) f ≡ in_set n p (λ s. given (q s) (f s))
unfolding in_set given
in_set_and n p q f = each_cong n _ _ (λ s l. nested (p s) (q s) (f s))
  where
    nested : (a b : Bool) (x : Search) → given (a && b) x ≡ given a (given b x)
    nested true b x = refl
    nested false b x = refl
