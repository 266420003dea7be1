-- No condition of the joined nodes is broken. P is kept because each root's 31 holds of its own R and P. A side's R lies in its root's R
-- by 91 or 92, so its 32 and 33 are the root's own; its 31 needs 93 for the other side's G. The parallel's 32 and 33 follow from both
-- roots' and because reach is closed under R. All others hold by how the tables are made.
use Prim.Native.Nat.{ℕ, ◌<◌}
use mathlib.Core.Path.{◌≡◌, refl, subst}
use mathlib.Core.Bool.{Bool, true, ◌&&◌, ◌||◌}
use mathlib.Core.Logic.{⊎_elim}
use mathlib.Core.Option.{none}
use lib.Dec.{eqb}
use borrow.Author.Tests.{eqb-true, eq-eqb}
use Rattle.states.specs.Search.{must}
use Rattle.states.specs.Relations.{Reached, here, more, reach}
use Rattle.states.proofs.Search.{and_left, and_right, and_both, or_left, or_right, or_cases, must_none}
use Rattle.states.proofs.Reach.{Between, joined_between, reach_exact}
use Rattle.semantics.specs.States.{Machine}
use Rattle.semantics.specs.Derivations.{Spec}
use Rattle.semantics.specs.Conditions.{in_set, relation_lies_in, besides, c31, c32, c33}
use Rattle.semantics.specs.Checking.{first_broken, parallel_obligations, weaken_obligations}
use Rattle.semantics.proofs.Conditions.{TablesWithin, at_member, lies_in, says31, says32, says33}
use Rattle.joint.specs.Joining.{root_spec, left_spec, right_spec}
use Rattle.joint.proofs.Clear.{must_clear, unbroken, clear31, clear32, clear33, clear34, clear36, clear65, clear66, clear70, clear71, clear72, clear73}

-- A state that is reached by one pair and then by others.
onward : (r : ℕ → ℕ → Bool) (s t : ℕ) {u : ℕ} → r s t ≡ true → Reached (eqb t) r u → Reached (eqb s) r u
onward r s t st (here {s = u} h) = subst (Reached (eqb s) r) (eqb-true t u h) (more (here (eq-eqb s s refl)) st)
onward r s t st (more way next) = more (onward r s t st way) next

-- 31 to 33 of a root.
abbrev pub RootHolds : ℕ → Spec → Type 0
RootHolds n c = (c31 n c ≡ none) × (c32 n c ≡ none) × (c33 n c ≡ none)

-- 93: s in the joined P, (s,t) in a root's G: t in P.
abbrev pub Kept : ℕ → (ℕ → Bool) → (ℕ → ℕ → Bool) → Type 0
Kept n P G = in_set n P (λ s. in_set n (G s) (λ t. must (P t))) ≡ none

-- One side under its weaken node: over the tables d of its root, with the joined P and R, and H the other root's G.
module _ (m : Machine) (d : Spec) (w : TablesWithin m.states d) (holds : RootHolds m.states d)
    (P : ℕ → Bool) (R H : ℕ → ℕ → Bool) where
  abbrev side : Spec
  side = record { P = P; R = λ s t. R s t || H s t; G = d.G; Q = d.Q }

  side_clear : ((s : ℕ) → P s ≡ true → s < m.states) → Between m.states H
      → ((s : ℕ) → P s ≡ true → d.P s ≡ true) → ((s t : ℕ) → R s t ≡ true → d.R s t ≡ true)
      → ((s t : ℕ) → P s ≡ true → R s t ≡ true → P t ≡ true) → relation_lies_in m.states H d.R ≡ true → Kept m.states P H
      → first_broken (weaken_obligations m.states side d) ≡ none
  side_clear P-in H-in in_P R-lies R-keeps lies kept =
      let e31 = clear31 n side (λ s t p h. ⊎_elim (R-keeps s t p) (H-keeps s t p) (or_cases (R s t) _ h)) in
      let e32 = clear32 n side (λ s t u p h q. says32 m d w holds.1 s t u (in_P s p) (in_R s t h) q) in
      let e33 = clear33 n side (λ s t u p q h. says33 m d w holds.2 s t u (in_P s p) q (in_R t u h)) in
      let e70 = clear70 n side d in_P in
      let e71 = clear71 n side d in_R in
      let e72 = clear72 n side d (λ s t h. h) in
      let e73 = clear73 n side d (λ s t h. h) in
      unbroken (weaken_obligations n side d) (must_clear true refl, (e31, (e32, (e33, (e70, (e71, (e72, (e73, tt))))))))
    where
      n : ℕ
      n = m.states

      in_R : (s t : ℕ) → (R s t || H s t) ≡ true → d.R s t ≡ true
      in_R s t h = ⊎_elim (R-lies s t) (lies_in m H d.R H-in lies s t) (or_cases (R s t) _ h)

      H-keeps : (s t : ℕ) → P s ≡ true → H s t ≡ true → P t ≡ true
      H-keeps s t p h = must_none _ (at_member m (H s) _ (λ u x. (H-in s u x).1) (at_member m P _ P-in kept s p) t h)

module _ (m : Machine) (a b : Spec) (wa : TablesWithin m.states a) (wb : TablesWithin m.states b) where
  abbrev n : ℕ
  n = m.states

  abbrev c : Spec
  c = root_spec n a b

  abbrev l : Spec
  l = left_spec n a b

  abbrev r : Spec
  r = right_spec n a b

  -- The tables are over the states.
  joined_P : (s : ℕ) → c.P s ≡ true → s < n
  joined_P s h = wa.P-in s (and_left (a.P s) _ h)

  joined_R : Between n c.R
  joined_R s t h = wa.R-in s t (and_left (a.R s t) _ h)

  -- The pairs of R or either G.
  abbrev anyone : ℕ → ℕ → Bool
  anyone u v = a.R u v && b.R u v || a.G u v || b.G u v

  anyone_in : Between n anyone
  anyone_in = joined_between (λ u v. c.R u v || a.G u v) b.G (joined_between c.R a.G joined_R wa.G-in) wb.G-in

  changed : (s t : ℕ) → c.R s t ≡ true → anyone s t ≡ true
  changed s t h = or_left _ (b.G s t) (or_left _ (a.G s t) h)

  -- What a pair of Q is.
  Q-made : (s t : ℕ) → c.P s ≡ true → a.Q s t ≡ true → b.Q s t ≡ true → reach n anyone s t ≡ true → c.Q s t ≡ true
  Q-made s t p q q' way = and_both _ _ (and_both _ _ (and_both _ _ p q) q') way

  module _ (s t : ℕ) (h : c.Q s t ≡ true) where
    Q-tables : (c.P s && a.Q s t && b.Q s t) ≡ true
    Q-tables = and_left (c.P s && a.Q s t && b.Q s t) _ h

    Q-left : a.Q s t ≡ true
    Q-left = and_right (c.P s) _ (and_left (c.P s && a.Q s t) _ Q-tables)

    Q-right : b.Q s t ≡ true
    Q-right = and_right (c.P s && a.Q s t) _ Q-tables

    Q-way : Reached (eqb s) anyone t
    Q-way = (reach_exact n anyone anyone_in s t).0 (and_right (c.P s && a.Q s t && b.Q s t) _ h)

  pub root_within : TablesWithin n (root_spec n a b)
  root_within = record {
    P-in = joined_P;
    R-in = joined_R;
    G-in = joined_between a.G b.G wa.G-in wb.G-in;
    Q-in = λ s t h. wa.Q-in s t (Q-left s t h);
  }

  pub left_within : TablesWithin n (left_spec n a b)
  left_within = record { P-in = joined_P; R-in = joined_between c.R b.G joined_R wb.G-in; G-in = wa.G-in; Q-in = wa.Q-in }

  pub right_within : TablesWithin n (right_spec n a b)
  right_within = record { P-in = joined_P; R-in = joined_between c.R a.G joined_R wa.G-in; G-in = wb.G-in; Q-in = wb.Q-in }

  module _ (ra : RootHolds n a) (rb : RootHolds n b) where
    -- R keeps P.
    stays : (s t : ℕ) → c.P s ≡ true → c.R s t ≡ true → c.P t ≡ true
    stays s t p x =
        and_both _ _ (says31 m a wa ra.0 s t (and_left (a.P s) _ p) (and_left (a.R s t) _ x))
        (says31 m b wb rb.0 s t (and_right (a.P s) _ p) (and_right (a.R s t) _ x))

    -- The pairs of R before and after those of Q.
    before : (s t u : ℕ) → c.P s ≡ true → c.R s t ≡ true → c.Q t u ≡ true → c.Q s u ≡ true
    before s t u p x q =
        Q-made s u p (says32 m a wa ra.1 s t u (and_left (a.P s) _ p) (and_left (a.R s t) _ x) (Q-left t u q))
        (says32 m b wb rb.1 s t u (and_right (a.P s) _ p) (and_right (a.R s t) _ x) (Q-right t u q))
        ((reach_exact n anyone anyone_in s u).1 (onward anyone s t (changed s t x) (Q-way t u q)))

    after : (s t u : ℕ) → c.P s ≡ true → c.Q s t ≡ true → c.R t u ≡ true → c.Q s u ≡ true
    after s t u p q x =
        Q-made s u p (says33 m a wa ra.2 s t u (and_left (a.P s) _ p) (Q-left s t q) (and_left (a.R t u) _ x))
        (says33 m b wb rb.2 s t u (and_right (a.P s) _ p) (Q-right s t q) (and_right (a.R t u) _ x))
        ((reach_exact n anyone anyone_in s u).1 (more (Q-way s t q) (changed t u x)))

    pub parallel_clear : first_broken (parallel_obligations n true (root_spec n a b) (left_spec n a b) (right_spec n a b)) ≡ none
    parallel_clear =
        let e31 = clear31 n c stays in
        let e32 = clear32 n c before in
        let e33 = clear33 n c after in
        let e34l = clear34 n c l refl in
        let e36l = clear36 n (besides c r) l refl in
        let e34r = clear34 n c r refl in
        let e36r = clear36 n (besides c l) r refl in
        let e65 = clear65 n c l r (λ s t h. or_left _ _ h) (λ s t h. or_right (a.G s t) _ h) in
        let e66 = clear66 n c l r Q-made in
        unbroken (parallel_obligations n true c l r)
        (must_clear true refl, (e31, (e32, (e33, (e34l, (e36l, (e34r, (e36r, (e65, (e66, tt))))))))))

    -- 91 and 92, then 93 of each root.
    module _ (left-lies : relation_lies_in n b.G a.R ≡ true) (right-lies : relation_lies_in n a.G b.R ≡ true)
        (a-keeps : Kept n (root_spec n a b).P a.G) (b-keeps : Kept n (root_spec n a b).P b.G) where
      pub left_clear : first_broken (weaken_obligations n (left_spec n a b) a) ≡ none
      left_clear =
          side_clear m a wa ra c.P c.R b.G joined_P wb.G-in (λ s. and_left (a.P s) _) (λ s t. and_left (a.R s t) _)
          stays left-lies b-keeps

      pub right_clear : first_broken (weaken_obligations n (right_spec n a b) b) ≡ none
      right_clear =
          side_clear m b wb rb c.P c.R a.G joined_P wa.G-in (λ s. and_right (a.P s) _) (λ s t. and_right (a.R s t) _)
          stays right-lies a-keeps
