-- The new tables, from what each step of making them gives.
use Prim.Native.Nat.{ℕ}
use mathlib.Core.Path.{◌≡◌, ◌∙◌, ap, fun_ext}
use mathlib.Core.Bool.{◌&&◌, ◌||◌}
use mathlib.Core.List.{List}
use Rattle.states.specs.Sets.{has}
use Rattle.states.specs.Relations.{rel, reach}
use Rattle.semantics.specs.Derivations.{Spec}
use Rattle.composition.specs.declared.tables.Roots.{Roots}
use Rattle.composition.specs.Refinement.{Joint}

module _ (n : ℕ) (a b : Spec) (x : Roots) (moves : List ℕ)
    (p : (s : ℕ) → has x.p s ≡ (a.P s && b.P s))
    (r : (s t : ℕ) → rel n x.r s t ≡ (a.R s t && b.R s t))
    (g : (s t : ℕ) → rel n x.g s t ≡ (a.G s t || b.G s t))
    (left : (s t : ℕ) → rel n x.left s t ≡ (rel n x.r s t || b.G s t))
    (right : (s t : ℕ) → rel n x.right s t ≡ (rel n x.r s t || a.G s t))
    (all : (s t : ℕ) → rel n moves s t ≡ (rel n x.right s t || b.G s t))
    (q : (s t : ℕ) → rel n x.q s t ≡ (has x.p s && a.Q s t && b.Q s t && reach n (rel n moves) s t)) where
  right_is : (s t : ℕ) → rel n x.right s t ≡ (a.R s t && b.R s t || a.G s t)
  right_is s t = right s t ∙ ap (λ v. v || a.G s t) (r s t)

  moves_are : rel n moves ≡ (λ u v. a.R u v && b.R u v || a.G u v || b.G u v)
  moves_are = fun_ext (λ u. fun_ext (λ v. all u v ∙ ap (λ w. w || b.G u v) (right_is u v)))

  pub joint : Joint n a b x
  joint = record {
    P-is = p;
    R-is = r;
    G-is = g;
    Q-is = λ s t. q s t ∙ (λ i. p s i && a.Q s t && b.Q s t && reach n (moves_are i) s t);
    left_R_is = λ s t. left s t ∙ ap (λ v. v || b.G s t) (r s t);
    right_R_is = right_is;
  }
