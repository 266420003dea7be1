-- Conditions 42 and 43, from the rows that say where a store leads: a row has at most one end, and that is a state.
use Prim.Native.Nat.{ℕ, ◌<◌}
use mathlib.Core.Path.{◌≡◌, refl, ap, ◌∙◌, fun_ext}
use mathlib.Core.Bool.{Bool, true, ◌&&◌, ◌||◌}
use mathlib.Core.List.{List}
use mathlib.Core.Option.{Option, none, some}
use lib.Dec.{ltb, eqb}
use borrow.Author.Tests.{lt-ltb, eq-eqb}
use Rattle.states.specs.Search.{Search, must, given}
use Rattle.states.specs.Sets.{mem, entry_at}
use Rattle.states.specs.Relations.{rel}
use Rattle.semantics.specs.Language.{Expr}
use Rattle.semantics.specs.States.{Machine}
use Rattle.semantics.specs.Derivations.{Spec}
use Rattle.semantics.specs.Conditions.{in_set, after_store, to_after, c42, c43}
use Rattle.handler.specs.declared.head.Head.{Head}
use Rattle.handler.specs.Header.{machine_in}
use Rattle.evaluation.specs.Values.{leads_to}
use Rattle.evaluation.proofs.Laws.{after_below}
use Rattle.search.proofs.Breaches.{in_set_cong, each_clear, in_set_single, absorbed, eqb_turned}

-- A search through the end of a store, if it has one.
in_set_after : (n : ℕ) (o : Option ℕ) (f : ℕ → Search) → ((t : ℕ) → leads_to o t ≡ true → t < n) → in_set n (leads_to o) f ≡ to_after o f
unfolding to_after in_set given
in_set_after n none f below = each_clear n _ (λ t l. refl)
in_set_after n (some s') f below =
    in_set_cong n (eqb s') (λ t. eqb t s') f f (λ t l. eqb_turned s' t) (λ t l e. refl) ∙ in_set_single n s' f (below s' (eq-eqb s' s' refl))

-- Rows that say where a store leads from each of the states of a head.
module _ (head : Head) (v : ℕ) (e : Expr) (rows : List ℕ)
    (made : (s t : ℕ) → mem (entry_at rows s) t ≡ (ltb s (machine_in head).states && leads_to (after_store (machine_in head) v e s) t)) where
  abbrev m : Machine
  m = machine_in head

  below : (s : ℕ) → s < m.states → (t : ℕ) → leads_to (after_store m v e s) t ≡ true → t < m.states
  below s l t = after_below head v e s t l

  filled : (s : ℕ) → s < m.states → rel m.states rows s ≡ leads_to (after_store m v e s)
  unfolding rel
  filled s l = fun_ext (λ t. rw (made s t, lt-ltb s m.states l) (absorbed (ltb t m.states) _ (λ h. lt-ltb t m.states (below s l t h))))

  after_ends : (p : ℕ → Bool) (g : ℕ → ℕ → Bool)
      → in_set m.states p (λ s. in_set m.states (rel m.states rows s) (λ t. must (g s t)))
      ≡ in_set m.states p (λ s. to_after (after_store m v e s) (λ t. must (g s t)))
  after_ends p g =
      in_set_cong m.states p p _ _ (λ s l. refl) (λ s l ps.
      ap (λ r. in_set m.states r (λ t. must (g s t))) (filled s l) ∙ in_set_after m.states _ (λ t. must (g s t)) (below s l))

  module _ (c : Spec) where
    pub store_in_post_42 : in_set m.states c.P (λ s. in_set m.states (rel m.states rows s) (λ t. must (c.Q s t))) ≡ c42 m c v e
    unfolding c42
    store_in_post_42 = after_ends c.P c.Q

    pub store_in_guarantee_43 : in_set m.states c.P (λ s. in_set m.states (rel m.states rows s) (λ t. must (eqb t s || c.G s t))) ≡ c43 m c v e
    unfolding c43
    store_in_guarantee_43 = after_ends c.P (λ s t. eqb t s || c.G s t)
