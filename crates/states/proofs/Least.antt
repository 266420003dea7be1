-- The least state at which something holds, and the least states that a search names.
use Prim.Native.Nat.{ℕ, zero, suc, ◌+◌, ◌<◌, suc-le-suc}
use native.Mathlib.Nat.{zero-add, suc-add, zero-lt-suc, le_of_suc-le-suc, not-suc-le-zero}
use native.Mathlib.Omega.{arith}
use mathlib.Core.Path.{◌≡◌, refl, sym, ap, ap₂, ◌∙◌}
use mathlib.Core.Bool.{Bool, true, false, cond, ◌||◌, false≢true}
use mathlib.Core.List.{List, ◌∷◌}
use mathlib.Core.Option.{none, some}
use Rattle.states.specs.Search.{any, least_where, Search, named, or_else, each}
use Rattle.states.proofs.Search.{any_first, each_none}

-- The least state below n at which p holds, if there is one.
pub record IsLeast (n : ℕ) (p : ℕ → Bool) (k : ℕ) : Type 0 where
  pub below : k < n
  pub there : p k ≡ true
  pub less : (t : ℕ) → t < k → p t ≡ false

pub least_is : (n : ℕ) (p : ℕ → Bool) → any n p ≡ true → IsLeast n p (least_where n p)
unfolding any least_where
least_is zero p h = absurd (false≢true h)
least_is (suc n) p h = at (p 0) refl (least_is n (λ s. p (suc s)))
  where
    next : (k : ℕ) → p 0 ≡ false → ((t : ℕ) → t < k → p (suc t) ≡ false) → (t : ℕ) → t < suc k → p t ≡ false
    next k e less zero l = e
    next k e less (suc t) l = less t (le_of_suc-le-suc l)

    at : (b : Bool) → p 0 ≡ b → (any n (λ s. p (suc s)) ≡ true → IsLeast n (λ s. p (suc s)) (least_where n (λ s. p (suc s))))
        → IsLeast (suc n) p (cond b 0 (suc (least_where n (λ s. p (suc s)))))
    at true e later = record { below = zero-lt-suc n; there = e; less = λ t l. absurd (not-suc-le-zero l) }
    at false e later =
        let w = later (ap (λ b. b || any n (λ s. p (suc s))) (sym e) ∙ sym (any_first n p) ∙ h) in
        record { below = suc-le-suc w.below; there = w.there; less = next _ e w.less }

pub least_cong : (n : ℕ) (p q : ℕ → Bool) → ((s : ℕ) → s < n → p s ≡ q s) → least_where n p ≡ least_where n q
unfolding least_where
least_cong zero p q h = refl
least_cong (suc n) p q h =
    ap₂ (λ b k. cond b 0 (suc k)) (h 0 (omega arith)) (least_cong n (λ s. p (suc s)) (λ s. q (suc s)) (λ s l. h (suc s) (omega arith)))

pub least_split : (m n : ℕ) (p : ℕ → Bool) → least_where (m + n) p ≡ cond (any m p) (least_where m p) (m + least_where n (λ s. p (m + s)))
unfolding any least_where
least_split zero n p = ap (λ k. least_where k p) (zero-add n) ∙ least_cong n p (λ s. p (0 + s)) (λ s l. ap p (sym (zero-add s))) ∙ sym (zero-add _)
least_split (suc m) n p =
    rw (suc-add, any_first m p)
    (ap (λ k. cond (p 0) 0 (suc k)) (least_split m n (λ s. p (suc s)) ∙ ap (λ k. cond (any m (λ s. p (suc s))) (least_where m (λ s. p (suc s))) (m + k)) moved)
    ∙ at (p 0) (any m (λ s. p (suc s))) (least_where m (λ s. p (suc s))) _)
  where
    moved : least_where n (λ s. p (suc (m + s))) ≡ least_where n (λ s. p (suc m + s))
    moved = least_cong n _ _ (λ s l. ap p (sym (suc-add m s)))

    at : (a b : Bool) (x y : ℕ) → cond a 0 (suc (cond b x (m + y))) ≡ cond (a || b) (cond a 0 (suc x)) (suc m + y)
    at true b x y = refl
    at false true x y = refl
    at false false x y = sym (suc-add m y)

-- What a search that finds a breach names: the least state with a breach, then the states that the search at that state names.
pub record Least (n : ℕ) (f : ℕ → Search) (found : List ℕ) : Type 0 where
  pub state : ℕ
  pub rest : List ℕ
  pub below : state < n
  pub names : found ≡ state ∷ rest
  pub breach : f state ≡ some rest
  pub least : (s : ℕ) → s < state → f s ≡ none

pub each_least : (n : ℕ) (f : ℕ → Search) (found : List ℕ) → each n f ≡ some found → Least n f found
unfolding each or_else named
each_least zero f found e = absurd (let z : ◌≡◌ {A = ℕ} 0 1 = cc in omega arith)
each_least (suc n) f found e = from (each_least n f) (each n f) refl (f n) refl e
  where
    from : ((l : List ℕ) → each n f ≡ some l → Least n f l)
        → (x : Search) → each n f ≡ x → (y : Search) → f n ≡ y → or_else x (named n y) ≡ some found → Least (suc n) f found
    from earlier (some l) ex y ey h =
        let w = earlier l ex in
        record { state = w.state; rest = w.rest; below = omega arith; names = cc (h, w.names); breach = w.breach; least = w.least }
    from earlier none ex none ey h = absurd (let z : ◌≡◌ {A = ℕ} 0 1 = cc in omega arith)
    from earlier none ex (some l) ey h =
        record { state = n; rest = l; below = omega arith; names = cc; breach = ey; least = each_none n f ex }
