-- Sets that loops over the states build. The states at which a variable has a given value form runs: each starts at a multiple of
-- the weight w and is w states long, and the next one starts w * z later, where z is the size.
use Prim.Native.Nat.{ℕ, ◌+◌, ◌*◌, ◌/◌, ◌%◌, ◌≤◌, ◌<◌}
use native.Mathlib.Nat.{div-lt_iff_lt-mul, le-div_iff_mul-le, div-eq_of_lt-le, div-add-mod, mod-lt, mod_self, mod-add-mod, mod-eq_of_lt, add-mod_right, mul-le-mul_right, le-mul_of_pos_right}
use native.Mathlib.Omega.{arith}
use borrow.Author.Tests.{lt-ltb, le-ltb, eq-eqb, ne_eqb}
use mathlib.Core.Bool.{Bool, true, false, cond, not, ◌&&◌, ◌||◌, and-false, and-true, or-false}
use mathlib.Core.Path.{◌≡◌, refl, sym, ◌∙◌}
use lib.Dec.{ltb, eqb}
use Rattle.states.specs.declared.StateSet.{StateSet}
use Rattle.states.specs.Sets.{capacity, has}
use Rattle.evaluation.proofs.Sizes.{split}

-- The set holds the states below k at which p is true: the invariant of a loop over the states.
abbrev pub Holds : (ℕ → Bool) → ℕ → StateSet → Type 0
Holds p k set = (t : ℕ) → has set t ≡ (ltb t k && p t)

pub holds_no_state : (p : ℕ → Bool) (set : StateSet) → ((t : ℕ) → has set t ≡ false) → Holds p 0 set
holds_no_state p set empty t = rw (le-ltb t 0 (omega arith)) (empty t)

pub holds_more : (p : ℕ → Bool) (k : ℕ) (set more : StateSet) (one : Bool) → k < capacity → one ≡ p k
    → ((t : ℕ) → has more t ≡ (has set t || one && (ltb t capacity && eqb k t))) → Holds p k set → Holds p (k + 1) more
holds_more p k set more one small new added old t =
    added t ∙ rw (old t) (split t k
    (λ l. rw (lt-ltb t k l, lt-ltb t (k + 1) (omega arith), ne_eqb k t (omega arith), and-false (ltb t capacity), and-false one) (or-false (p t)))
    (λ l. split k t
    (λ g. rw (le-ltb t k l, le-ltb t (k + 1) (omega arith), ne_eqb k t (omega arith), and-false (ltb t capacity)) (and-false one))
    (λ g. let same : k ≡ t = omega arith in
    rw (← same, le-ltb k k (omega arith), lt-ltb k (k + 1) (omega arith), lt-ltb k capacity small, eq-eqb k k refl, and-true one) new)))

-- Two different numbers less than z apart have different remainders.
apart : (p q z : ℕ) → p < q → q < p + z → p % z ≡ q % z → ⊥
apart p q z more less same =
    split (p / z) (q / z) (λ l. omega (arith, div-add-mod p z, div-add-mod q z, mul-le-mul_right z l))
    (λ l. omega (arith, div-add-mod p z, div-add-mod q z, mul-le-mul_right z l))

-- Nothing is added to a set.
no_more : (a b : Bool) → (a || b && false) ≡ a
no_more a b = rw (and-false b) (or-false a)

-- A run starts at the multiple `place` of the weight, and the variable has this value there.
pub record Starts (w z value from : ℕ) : Type 0 where
  pub place : ℕ
  pub at : from ≡ place * w
  pub gives : place % z ≡ value

-- Whether t is a state that a set can hold, at which a variable has this value.
abbrev pub has_value : ℕ → ℕ → ℕ → ℕ → Bool
has_value w z value t = ltb t capacity && eqb value (t / w % z)

module _ (w z value : ℕ) (weighs : 0 < w) (inside : value < z) where
  pub first_run : Starts w z value (value * w)
  first_run = record { place = value; at = refl; gives = mod-eq_of_lt inside }

  pub next_run : {from : ℕ} → Starts w z value from → Starts w z value (from + w * z)
  next_run run = record { place = run.place + z; at = omega (arith, run.at); gives = add-mod_right run.place z ∙ run.gives }

  earlier : (t : ℕ) → t < value * w → eqb value (t / w % z) ≡ false
  earlier t h = let low = (div-lt_iff_lt-mul weighs).1 h in ne_eqb value (t / w % z) (λ e. omega (arith, mod-eq_of_lt {n = t / w} {m = z} (omega arith)))

  module _ (from : ℕ) (run : Starts w z value from) (t : ℕ) where
    within : from ≤ t → t < from + w → eqb value (t / w % z) ≡ true
    within low high =
        let here : t / w ≡ run.place = div-eq_of_lt-le w (omega (arith, run.at)) (omega (arith, run.at)) in
        eq-eqb value (t / w % z) (rw here (sym run.gives))

    between : from + w ≤ t → t < from + w * z → eqb value (t / w % z) ≡ false
    between low high =
        let more : run.place + 1 ≤ t / w = (le-div_iff_mul-le weighs).1 (omega (arith, run.at)) in
        let less : t / w < run.place + z = (div-lt_iff_lt-mul weighs).1 (omega (arith, run.at)) in
        ne_eqb value (t / w % z) (λ e. apart run.place (t / w) z (omega arith) less (run.gives ∙ e))

  -- No state before the first run has the value.
  pub no_run : (set : StateSet) → ((t : ℕ) → has set t ≡ false) → Holds (has_value w z value) (value * w) set
  no_run set empty t =
      empty t ∙ split t (value * w) (λ l. rw (earlier t l, lt-ltb t _ l) (sym (and-false (ltb t capacity)))) (λ l. rw (le-ltb t (value * w) l))

  -- After one more run, the set is right up to the start of the next.
  pub one_run : (from : ℕ) → Starts w z value from → (set more : StateSet)
      → ((t : ℕ) → has more t ≡ (has set t || ltb t capacity && (ltb t (from + w) && not (ltb t from))))
      → Holds (has_value w z value) from set → Holds (has_value w z value) (from + w * z) more
  one_run from run set more added old t =
      added t ∙ rw (old t) (split t from
      (λ a. rw (lt-ltb t from a, lt-ltb t (from + w) (omega arith), lt-ltb t (from + w * z) (omega arith)) (no_more (has_value w z value t) (ltb t capacity)))
      (λ a. split t (from + w)
      (λ b. rw (le-ltb t from a, lt-ltb t (from + w) b, lt-ltb t (from + w * z) (omega (arith, le-mul_of_pos_right {m = z} w (omega arith))), within from run t a b))
      (λ b. split t (from + w * z)
      (λ c. rw (le-ltb t from a, le-ltb t (from + w) b, lt-ltb t (from + w * z) c, between from run t b c))
      (λ c. rw (le-ltb t from a, le-ltb t (from + w) b, le-ltb t (from + w * z) c) (and-false (ltb t capacity))))))

  -- All runs are there once the next would start at n or later.
  pub all_runs : (n from : ℕ) → n ≤ capacity → n ≤ from → (set all below : StateSet) → Holds (has_value w z value) from set
      → ((t : ℕ) → has below t ≡ (ltb t capacity && ltb t n)) → ((t : ℕ) → has all t ≡ (has set t && has below t))
      → (t : ℕ) → has all t ≡ (ltb t n && eqb value (t / w % z))
  all_runs n from small done set all below held low met t =
      met t ∙ rw (held t, low t) (split t n
      (λ l. rw (lt-ltb t n l, lt-ltb t from (omega arith), lt-ltb t capacity (omega arith)) (and-true (eqb value (t / w % z))))
      (λ l. rw (le-ltb t n l, and-false (ltb t capacity)) (and-false (ltb t from && has_value w z value t))))

-- A variable's value at the next state: it changes where a new run starts.
pub value_on : (s w z : ℕ) → 0 < w → cond (eqb ((s + 1) % w) 0) ((s / w % z + 1) % z) (s / w % z) ≡ (s + 1) / w % z
value_on s w z weighs =
    split (s % w + 1) w
    (λ l. let same : (s + 1) / w ≡ s / w = div-eq_of_lt-le w (omega (arith, div-add-mod s w)) (omega (arith, div-add-mod s w)) in
    let inner : (s + 1) % w ≡ s % w + 1 = sym (mod-add-mod s w 1) ∙ mod-eq_of_lt l in
    rw (same, inner, ne_eqb (s % w + 1) 0 (omega arith)))
    (λ l. let last : s % w + 1 ≡ w = omega (arith, mod-lt s weighs) in
    let more : (s + 1) / w ≡ s / w + 1 = div-eq_of_lt-le w (omega (arith, div-add-mod s w)) (omega (arith, div-add-mod s w)) in
    let first : (s + 1) % w ≡ 0 = sym (mod-add-mod s w 1) ∙ rw last (mod_self w) in
    rw (more, first) (mod-add-mod (s / w) z 1))
