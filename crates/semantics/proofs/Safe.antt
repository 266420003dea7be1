-- The invariant of the proof of `soundness`. A statement is safe for n more steps if, after any interference that keeps the rely,
-- it is at its end with the postcondition, or each of its turns is a step that keeps the guarantee and leaves a statement that is
-- safe for fewer. Interference keeps a statement safe, and so does weakening.
use Prim.Native.Nat.{ℕ, zero, suc, ◌≤◌}
use native.Mathlib.Omega.{arith}
use mathlib.Core.Path.{◌≡◌, refl}
use mathlib.Core.Bool.{true}
use mathlib.Core.Logic.{◌⊎◌, ⊎_map}
use mathlib.Core.List.{List, [], ◌∷◌, ◌++◌, map}
use mathlib.Core.Option
use mathlib.Core.Option.{Option, some}
use Rattle.semantics.specs.Language.{Stmt}
use Rattle.semantics.specs.States.{Machine}
use Rattle.semantics.specs.Steps.{Config, is_nil, turns}

-- Zero or more pairs of a relation.
pub data Star (R : ℕ → ℕ → Type 0) : ℕ → ℕ → Type 0 where
  stay : {s : ℕ} → Star R s s
  then : {s t u : ℕ} → R s t → Star R t u → Star R s u

-- Every turn of a list is a step with the property: none stands still.
pub data Each {A : Type 0} (F : A → Type 0) : List (Option A) → Type 0 where
  end : Each F []
  and : {a : A} {rest : List (Option A)} → F a → Each F rest → Each F (some a ∷ rest)

-- A step from t that changes nothing or keeps the guarantee, and after which K holds.
abbrev pub Kept : (ℕ → ℕ → Type 0) → (Config → Type 0) → ℕ → Config → Type 0
Kept G K t c = ((c.state ≡ t) ⊎ G t c.state) × K c

module _ (m : Machine) (R G : ℕ → ℕ → Type 0) (Z : ℕ → Type 0) where
  abbrev pub SafeFor : ℕ → Stmt → ℕ → Type 0
  SafeFor zero S s = (t : ℕ) → Star R s t → (is_nil S ≡ true → Z t) × Each (Kept G (λ c. ⊥) t) (turns m S t)
  SafeFor (suc n) S s =
      (t : ℕ) → Star R s t → (is_nil S ≡ true → Z t) × Each (Kept G (λ c. SafeFor n c.rest c.state) t) (turns m S t)

-- The same as a record, from which R, G, Z, n, S and s can be read off.
pub record Safe (m : Machine) (R G : ℕ → ℕ → Type 0) (Z : ℕ → Type 0) (n : ℕ) (S : Stmt) (s : ℕ) : Type 0 where
  pub safe : SafeFor m R G Z n S s

module _ {R : ℕ → ℕ → Type 0} where
  pub star_one : {s t : ℕ} → R s t → Star R s t
  star_one r = then r stay

  pub star_trans : {s t u : ℕ} → Star R s t → Star R t u → Star R s u
  star_trans stay q = q
  star_trans (then r p) q = then r (star_trans p q)

  pub star_map : {R' : ℕ → ℕ → Type 0} → ((s t : ℕ) → R s t → R' s t) → {s t : ℕ} → Star R s t → Star R' s t
  star_map f stay = stay
  star_map f (then r p) = then (f _ _ r) (star_map f p)

  -- What each pair keeps, zero or more pairs keep.
  pub star_keeps : {P : ℕ → Type 0} → ((s t : ℕ) → P s → R s t → P t) → {s t : ℕ} → Star R s t → P s → P t
  star_keeps f stay h = h
  star_keeps f (then r p) h = star_keeps f p (f _ _ h r)

module _ {A : Type 0} {F : A → Type 0} where
  pub each_append : (xs ys : List (Option A)) → Each F xs → Each F ys → Each F (xs ++ ys)
  each_append xs ys end q = q
  each_append xs ys (and {rest} f p) q = and f (each_append rest ys p q)

  pub each_map : {B : Type 0} {H : B → Type 0} (f : A → B) → ((a : A) → F a → H (f a)) → (xs : List (Option A))
      → Each F xs → Each H (map (Option.map f) xs)
  each_map f g xs end = end
  each_map f g xs (and {rest} h p) = and (g _ h) (each_map f g rest p)

  pub each_imp : {H : A → Type 0} → ((a : A) → F a → H a) → {xs : List (Option A)} → Each F xs → Each H xs
  each_imp g end = end
  each_imp g (and h p) = and (g _ h) (each_imp g p)

-- The statement that a step leaves is safe for fewer steps than n.
pub data Later (m : Machine) (R G : ℕ → ℕ → Type 0) (Z : ℕ → Type 0) : ℕ → Config → Type 0 where
  later : {n : ℕ} {c : Config} → Safe m R G Z n c.rest c.state → Later m R G Z (suc n) c

pub later_left : {m : Machine} {R G : ℕ → ℕ → Type 0} {Z : ℕ → Type 0} {n : ℕ} {c : Config} → Later m R G Z n c
    → (k : ℕ) × (n ≡ suc k) × Safe m R G Z k c.rest c.state
later_left (later {n} x) = (n, refl, x)

-- What `Safe` requires at each state that the rely reaches, for every n at once.
pub record Now (m : Machine) (R G : ℕ → ℕ → Type 0) (Z : ℕ → Type 0) (n : ℕ) (S : Stmt) (t : ℕ) : Type 0 where
  pub ended : is_nil S ≡ true → Z t
  pub stepped : Each (Kept G (Later m R G Z n) t) (turns m S t)

module _ {m : Machine} {R G : ℕ → ℕ → Type 0} {Z : ℕ → Type 0} where
  pub safe_now : {n : ℕ} {S : Stmt} {s : ℕ} → Safe m R G Z n S s → (t : ℕ) → Star R s t → Now m R G Z n S t
  safe_now {n = zero} x t r =
      record { ended = (x.safe t r).0; stepped = each_imp (λ c k. absurd k.1) (x.safe t r).1 }
  safe_now {n = suc n} x t r =
      record { ended = (x.safe t r).0; stepped = each_imp (λ c k. (k.0, later (record { safe = k.1 }))) (x.safe t r).1 }

  pub safe_intro : {n : ℕ} {S : Stmt} {s : ℕ} → ((t : ℕ) → Star R s t → Now m R G Z n S t) → Safe m R G Z n S s
  safe_intro {n = zero} x =
      record { safe = λ t r. ((x t r).ended, each_imp (λ c k. let (i, e, y) = later_left k.1 in (k.0, omega arith)) (x t r).stepped) }
  safe_intro {n = suc n} x =
      record { safe = λ t r. ((x t r).ended, each_imp (λ c k. (k.0, left k.1)) (x t r).stepped) }
    where
      left : {c : Config} → Later m R G Z (suc n) c → SafeFor m R G Z n c.rest c.state
      left (later x) = x.safe

  -- Interference keeps a statement safe.
  pub safe_later : {n : ℕ} {S : Stmt} {s t : ℕ} → Safe m R G Z n S s → Star R s t → Safe m R G Z n S t
  safe_later x r = safe_intro (λ u q. safe_now x u (star_trans r q))

-- Weakening: a smaller rely, a larger guarantee, a larger postcondition, more steps.
module _ {m : Machine} {R R' G G' : ℕ → ℕ → Type 0} {Z Z' : ℕ → Type 0}
    (rely : (a b : ℕ) → R' a b → R a b) (guarantee : (a b : ℕ) → G a b → G' a b) (post : (a : ℕ) → Z a → Z' a) where
  -- If this holds for what the steps leave, it holds for the statement.
  weaken_safe : {n k : ℕ} → ((c : Config) → Later m R G Z n c → Later m R' G' Z' k c)
      → {S : Stmt} {s : ℕ} → Safe m R G Z n S s → Safe m R' G' Z' k S s
  weaken_safe fewer x =
      safe_intro (λ t r.
      let now = safe_now x t (star_map rely r) in
      record {
        ended = λ e. post t (now.ended e);
        stepped = each_imp (λ c q. (⊎_map (λ e. e) (guarantee _ _) q.0, fewer c q.1)) now.stepped;
      })

  weaken_later : (n k : ℕ) → n ≤ k → (c : Config) → Later m R G Z n c → Later m R' G' Z' k c
  weaken_later zero k le c x = elim x [ ]
  weaken_later (suc n) zero le c x = absurd (omega arith)
  weaken_later (suc n) (suc k) le c (later x) = later (weaken_safe (weaken_later n k (omega arith)) x)

  pub safe_weaken : {n k : ℕ} {S : Stmt} {s : ℕ} → n ≤ k → Safe m R G Z n S s → Safe m R' G' Z' k S s
  safe_weaken {n} {k} le = weaken_safe (weaken_later n k le)

pub safe_more : {m : Machine} {R G : ℕ → ℕ → Type 0} {Z : ℕ → Type 0} {n k : ℕ} {S : Stmt} {s : ℕ} → n ≤ k → Safe m R G Z n S s
    → Safe m R G Z k S s
safe_more = safe_weaken (λ a b r. r) (λ a b g. g) (λ a z. z)
