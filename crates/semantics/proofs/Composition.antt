-- Safe statements compose. A statement other than nil has a turn, so a safe one can end. A part of a sequence or a parallel
-- steps within the whole, and a step of one side of a parallel is interference for the other.
use Prim.Native.Nat.{ℕ, zero, suc, ◌+◌, ◌<◌}
use native.Mathlib.Omega.{arith}
use mathlib.Core.Path.{◌≡◌, refl, ◌∙◌}
use mathlib.Core.Bool.{Bool, true, false, true≢false, false≢true, not, ◌&&◌, and_assoc, and-not_self}
use mathlib.Core.Logic.{◌⊎◌, inl, inr, ⊎_elim, ⊎_map}
use mathlib.Core.List.{List, [], ◌∷◌, ◌++◌, map}
use mathlib.Core.Option.{Option, some}
use Rattle.states.proofs.Search.{and_left, and_right, true_or_false}
use Rattle.semantics.specs.Language.{Val, int, truth, Expr, lit, var, op, Stmt, nil, assign, seq, par, if, while}
use Rattle.semantics.specs.States.{Machine}
use Rattle.semantics.specs.Steps.{Config, at, in_context, is_nil, only_if, result, branch, storing, expr_turns, turns}
use Rattle.semantics.proofs.Safe.{Star, stay, Each, end, and, Safe, Later, later, later_left, star_one, star_trans, star_map, each_append, each_map, safe_now, safe_intro, safe_later, safe_more}

unfoldable pub is_empty : {A : Type 0} → List A → Bool
is_empty [] = true
is_empty (x ∷ xs) = false

module _ {A : Type 0} where
  empty_append : (xs ys : List A) → is_empty (xs ++ ys) ≡ (is_empty xs && is_empty ys)
  unfolding is_empty
  empty_append [] ys = refl
  empty_append (x ∷ xs) ys = refl

  empty_map : {B : Type 0} (f : A → B) (xs : List A) → is_empty (map f xs) ≡ is_empty xs
  unfolding is_empty
  empty_map f [] = refl
  empty_map f (x ∷ xs) = refl

  empty_only : (b : Bool) (a : A) → is_empty (only_if b a) ≡ not b
  unfolding is_empty
  empty_only true a = refl
  empty_only false a = refl

abbrev pub is_lit : Expr → Bool
is_lit (lit c) = true
is_lit (var v) = false
is_lit (op o l r) = false

-- If no literal passes a test, no expression both is a literal and passes it.
if_lit : (e : Expr) (p : Expr → Bool) → ((c : Val) → p (lit c) ≡ false) → (is_lit e && p e) ≡ false
if_lit (lit c) p h = h c
if_lit (var v) p h = refl
if_lit (op o l r) p h = refl

branch_some : (c : Val) (body : Stmt) (s : ℕ) → is_empty (branch (lit c) body s) ≡ false
unfolding is_empty
branch_some (int z) body s = refl
branch_some (truth true) body s = refl
branch_some (truth false) body s = refl

module _ (m : Machine) where
  -- Progress: every expression other than a literal has a turn, and every statement other than nil.
  pub expr_some : (e : Expr) (s : ℕ) → is_empty (expr_turns m e s) ≡ is_lit e
  unfolding is_empty
  expr_some (lit c) s = refl
  expr_some (var v) s = refl
  expr_some (op o l r) s =
      simp (empty_append, empty_map, expr_some l s, expr_some r s, and_assoc)
      (if_lit l (λ d. is_lit r && is_empty (result o d r)) (λ a. if_lit r (λ d. is_empty (result o (lit a) d)) (λ b. refl)))

  pub turns_some : (S : Stmt) (s : ℕ) → is_empty (turns m S s) ≡ is_nil S
  unfolding is_empty
  turns_some nil s = refl
  turns_some (assign v e) s =
      simp (empty_append, empty_map, expr_some e s) (if_lit e (λ d. is_empty (storing m v d s)) (λ c. refl))
  turns_some (seq l r) s = simp (empty_append, empty_map, empty_only, turns_some l s, and-not_self)
  turns_some (par l r) s = simp (empty_append, empty_map, empty_only, turns_some l s, turns_some r s, and-not_self)
  turns_some (if e b) s =
      simp (empty_append, empty_map, expr_some e s) (if_lit e (λ d. is_empty (branch d b s)) (λ c. branch_some c b s))
  turns_some (while e b) s = refl

each_first : {A : Type 0} {F : A → Type 0} {xs : List (Option A)} → Each F xs → is_empty xs ≡ false → (a : A) × F a
unfolding is_empty
each_first end h = absurd (true≢false h)
each_first (and {a} f p) h = (a, f)

module _ {m : Machine} {R G : ℕ → ℕ → Type 0} {Z : ℕ → Type 0} where
  -- A safe statement can end: it is nil, or it has a step, and that leaves a safe statement.
  ends : {n : ℕ} → ((c : Config) → Later m R G Z n c → (u : ℕ) × Z u) → {S : Stmt} {s : ℕ} → Safe m R G Z n S s → (u : ℕ) × Z u
  ends after {S} {s} x =
      let now = safe_now x s stay in
      ⊎_elim (λ h. (s, now.ended h)) (λ h. let (c, q) = each_first now.stepped (turns_some m S s ∙ h) in after c q.1)
      (true_or_false (is_nil S))

  later_ends : (n : ℕ) (c : Config) → Later m R G Z n c → (u : ℕ) × Z u
  later_ends zero c x = elim x [ ]
  later_ends (suc n) c (later x) = ends (later_ends n) x

  pub can_end : (n : ℕ) {S : Stmt} {s : ℕ} → Safe m R G Z n S s → (u : ℕ) × Z u
  can_end n = ends (later_ends n)

  pub safe_nil : {s : ℕ} → ((t : ℕ) → Star R s t → Z t) → Safe m R G Z 0 nil s
  safe_nil z = safe_intro (λ t r. record { ended = λ e. z t r; stepped = end })

-- The step that is open only once a part has ended.
each_only : {F : Config → Type 0} (b : Bool) (c : Config) → (b ≡ true → F c) → Each F (only_if b (some c))
each_only true c f = and (f refl) end
each_only false c f = end

-- A sequence takes the left part's n steps, the right part's j, and one between them.
pub safe_seq : {m : Machine} {R G : ℕ → ℕ → Type 0} {Y Z : ℕ → Type 0} (k n j : ℕ) {L T : Stmt} {s : ℕ} → n + j < k
    → Safe m R G Y n L s → ((t : ℕ) → Y t → Safe m R G Z j T t) → Safe m R G Z k (seq L T) s
safe_seq zero n j lt x y = absurd (omega arith)
safe_seq (suc k) n j {L} {T} lt x y =
    safe_intro (λ t r.
    let now = safe_now x t r in
    record {
      ended = λ e. absurd (false≢true e);
      stepped = each_append _ _
          (each_map (in_context (λ d. seq d T)) (λ c q.
          let (i, e, x') = later_left q.1 in
          (q.0, later (safe_seq k i j (omega arith) x' y))) _ now.stepped)
          (each_only (is_nil L) (at T t) (λ h. (inl refl, later (safe_more (omega arith) (y t (now.ended h))))));
    })

-- What holds between the two sides of a parallel: each side's rely allows the changes of others and the other side's steps, and
-- the steps of both sides keep the guarantee.
pub record Joint (R G RL GL RR GR : ℕ → ℕ → Type 0) : Type 0 where
  pub others_left : (a b : ℕ) → R a b → RL a b
  pub right_left : (a b : ℕ) → GR a b → RL a b
  pub others_right : (a b : ℕ) → R a b → RR a b
  pub left_right : (a b : ℕ) → GL a b → RR a b
  pub left_kept : (a b : ℕ) → GL a b → G a b
  pub right_kept : (a b : ℕ) → GR a b → G a b

-- A step of one side, as interference for the other.
kept_star : {G R : ℕ → ℕ → Type 0} → ((a b : ℕ) → G a b → R a b) → {t u : ℕ} → (u ≡ t) ⊎ G t u → Star R t u
kept_star f (inl e) = rw e stay
kept_star f (inr g) = star_one (f _ _ g)

-- A change by others or a step of either side.
abbrev pub Change : (R GL GR : ℕ → ℕ → Type 0) → ℕ → ℕ → Type 0
Change R GL GR a b = R a b ⊎ (GL a b ⊎ GR a b)

-- A parallel takes both sides' steps and a last one. The postcondition may use that the present state is reached from s₀ by `Change`.
pub safe_par : {m : Machine} {R G RL GL RR GR : ℕ → ℕ → Type 0} {ZL ZR Z : ℕ → Type 0} → Joint R G RL GL RR GR
    → (k n j : ℕ) {L T : Stmt} (s₀ : ℕ) {s : ℕ} → n + j < k → Star (Change R GL GR) s₀ s
    → ((t : ℕ) → Star (Change R GL GR) s₀ t → ZL t → ZR t → Z t)
    → Safe m RL GL ZL n L s → Safe m RR GR ZR j T s → Safe m R G Z k (par L T) s
safe_par joint zero n j s₀ lt from post x y = absurd (omega arith)
safe_par joint (suc k) n j {L} {T} s₀ lt from post x y =
    safe_intro (λ t r.
    let left = safe_later x (star_map joint.others_left r) in
    let right = safe_later y (star_map joint.others_right r) in
    let reached = star_trans from (star_map (λ a b h. inl h) r) in
    record {
      ended = λ e. absurd (false≢true e);
      stepped = each_append _ _ (each_append _ _
          (each_map (in_context (λ d. par d T)) (λ c q.
          let (i, e, x') = later_left q.1 in (
            ⊎_map (λ e. e) (joint.left_kept _ _) q.0,
            later (safe_par joint k i j s₀ (omega arith) (star_trans reached (kept_star (λ a b g. inr (inl g)) q.0)) post
                x' (safe_later right (kept_star joint.left_right q.0))),
          )) _ (safe_now left t stay).stepped)
          (each_map (in_context (λ d. par L d)) (λ c q.
          let (i, e, y') = later_left q.1 in (
            ⊎_map (λ e. e) (joint.right_kept _ _) q.0,
            later (safe_par joint k n i s₀ (omega arith) (star_trans reached (kept_star (λ a b g. inr (inr g)) q.0)) post
                (safe_later left (kept_star joint.right_left q.0)) y'),
          )) _ (safe_now right t stay).stepped))
          (each_only (is_nil L && is_nil T) (at nil t) (λ h. (
            inl refl,
            later (safe_more (omega arith) (safe_nil (λ u p.
                post u (star_trans reached (star_map (λ a b h. inl h) p))
                ((safe_now left u (star_map joint.others_left p)).ended (and_left _ _ h))
                ((safe_now right u (star_map joint.others_right p)).ended (and_right (is_nil L) _ h))))),
          )));
    })
