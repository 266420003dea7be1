-- Storing and reading agree, so `weight` need not be trusted: after a store its variable holds the remainder of the stored integer and
-- every other variable is unchanged; and a state's number is that of its values, variable 0 most significant. By recursion on the
-- sizes: if the later variables have `row` states, the first value of s is s / row, and s % row is a state of the later variables.
use Prim.Native.Nat.{ℕ, zero, suc, ◌+◌, ◌-◌, ◌*◌, ◌/◌, ◌%◌, ◌≤◌, ◌<◌}
use native.Mathlib.Nat.{add-zero, mul-zero, mul_assoc, mod-one, mod-lt, mod-eq_of_lt, mod-le, div-eq_of_lt, div-add-mod', div-lt_iff_lt-mul, div-mul-le_self, mul-add-div_right, mul-add-mod_self_right, mul-le-mul_right}
use native.Mathlib.Omega.{arith}
use mathlib.Core.List.{List, [], ◌∷◌}
use mathlib.Core.Path.{◌≡◌, refl, sym, ◌∙◌, ap, fun_ext}
use lib.IntN.{ℤ, pos}
use lib.ListN.{get_or}
use Rattle.semantics.specs.States.{product, weight, value_of, remainder, machine_of}
use Rattle.semantics.proofs.Remainder.{remainder_below}

-- What holds of s', the state after a store at s that leaves n in variable v.
pub record StoreRead (sizes : List ℕ) (s v n s' : ℕ) : Type 0 where
  -- it is a state
  pub state : s' < product sizes
  -- the variable holds n
  pub holds : (machine_of sizes).get s' v ≡ pos n
  -- every other variable is unchanged
  pub others : (w : ℕ) → (w ≡ v → ⊥) → (machine_of sizes).get s' w ≡ (machine_of sizes).get s w

-- The number of the state with these values: each value is multiplied by the number of states of the later variables.
abbrev pub number_of : List ℕ → (ℕ → ℕ) → ℕ
number_of [] values = 0
number_of (size ∷ sizes) values = values 0 * product sizes + number_of sizes (λ v. values (suc v))

-- With sizes 2 and 3, values 1 and 2 are state 5.
state_five : (number_of (2 ∷ 3 ∷ []) (λ v. get_or (1 ∷ 2 ∷ []) v 0) ≡ 5) × (value_of (2 ∷ 3 ∷ []) 5 0 ≡ 1) × (value_of (2 ∷ 3 ∷ []) 5 1 ≡ 2)
state_five = (refl, refl, refl)

-- A number below size × row, divided by row.
record Split (size row s : ℕ) : Type 0 where
  some_row : 0 < row
  above : s / row < size
  left : s % row < row
  whole : s / row * row + s % row ≡ s

split : (size row s : ℕ) → s < size * row → Split size row s
split size zero s h = absurd (omega (arith, mul-zero size))
split size (suc k) s h =
    let more : 0 < suc k = omega arith in
    record { some_row = more; above = (div-lt_iff_lt-mul more).1 h; left = mod-lt s more; whole = div-add-mod' s (suc k) }

module _ (size row a r : ℕ) (h : a < size) (low : r < row) where
  rows_read : (a * row + r) / row % size ≡ a
  rows_read =
      let more : 0 < row = omega arith in
      rw (mul-add-div_right more a r, div-eq_of_lt low, add-zero a) (mod-eq_of_lt h)

  rows_below : a * row + r < size * row
  rows_below = omega (arith, mul-le-mul_right {m = suc a} {n = size} row h)

-- Adding a multiple of the number of states changes no value.
value_apart : (sizes : List ℕ) (v a r : ℕ) → 0 < product sizes → value_of sizes (a * product sizes + r) v ≡ value_of sizes r v
value_apart [] v a r h = mod-one _ ∙ sym (mod-one _)
value_apart (size ∷ sizes) zero a r h =
    rw (← mul_assoc a size (product sizes), mul-add-div_right (split size (product sizes) 0 h).some_row (a * size) r)
    (mul-add-mod_self_right a size (r / product sizes))
value_apart (size ∷ sizes) (suc v) a r h =
    rw (← mul_assoc a size (product sizes)) (value_apart sizes v (a * size) r (split size (product sizes) 0 h).some_row)

-- A variable's share of a state's number is at most that number.
pub share_within : (s weight size : ℕ) → s / weight % size * weight ≤ s
share_within s weight size = omega (arith, mul-le-mul_right weight (mod-le (s / weight) size), div-mul-le_self s weight)

-- The state with n, a value in range, in place of the variable's present value.
abbrev put : List ℕ → ℕ → ℕ → ℕ → ℕ
put sizes s v n = s - value_of sizes s v * weight sizes v + n * weight sizes v

module _ (size : ℕ) (sizes : List ℕ) (s : ℕ) (h : Split size (product sizes) s) where
  -- A later variable's value depends on s % row alone.
  value_later : (v : ℕ) → value_of sizes s v ≡ value_of sizes (s % product sizes) v
  value_later v = rw h.whole at (value_apart sizes v (s / product sizes) (s % product sizes) h.some_row)

  put_first : (n : ℕ) → n < size → StoreRead (size ∷ sizes) s zero n (put (size ∷ sizes) s zero n)
  put_first n low =
      let is : put (size ∷ sizes) s zero n ≡ n * product sizes + s % product sizes = rw (mod-eq_of_lt h.above) (omega arith) in
      rw is (record {
        state = rows_below size (product sizes) n (s % product sizes) low h.left;
        holds = ap pos (rows_read size (product sizes) n (s % product sizes) low h.left);
        others = others;
      })
    where
      others : (w : ℕ) → (w ≡ zero → ⊥) → pos (value_of (size ∷ sizes) (n * product sizes + s % product sizes) w) ≡ pos (value_of (size ∷ sizes) s w)
      others zero apart = absurd (apart refl)
      others (suc w) apart = ap pos (value_apart sizes w n (s % product sizes) h.some_row ∙ sym (value_later w))

  put_later : (v n : ℕ) → StoreRead sizes (s % product sizes) v n (put sizes (s % product sizes) v n)
      → StoreRead (size ∷ sizes) s (suc v) n (put (size ∷ sizes) s (suc v) n)
  put_later v n later =
      let is : put (size ∷ sizes) s (suc v) n ≡ s / product sizes * product sizes + put sizes (s % product sizes) v n
      = rw (value_later v) (omega (arith, share_within (s % product sizes) (weight sizes v) (get_or sizes v 1))) in
      rw is (record {
        state = rows_below size (product sizes) (s / product sizes) _ h.above later.state;
        holds = ap pos (value_apart sizes v (s / product sizes) _ h.some_row) ∙ later.holds;
        others = others;
      })
    where
      others : (w : ℕ) → (w ≡ suc v → ⊥)
          → pos (value_of (size ∷ sizes) (s / product sizes * product sizes + put sizes (s % product sizes) v n) w) ≡ pos (value_of (size ∷ sizes) s w)
      others zero apart = ap pos (rows_read size (product sizes) (s / product sizes) _ h.above later.state ∙ sym (mod-eq_of_lt h.above))
      others (suc w) apart =
          ap pos (value_apart sizes w (s / product sizes) _ h.some_row) ∙ later.others w (λ e. apart (ap suc e)) ∙ ap pos (sym (value_later w))

put_reads : (sizes : List ℕ) (s v n : ℕ) → s < product sizes → n < get_or sizes v 1 → StoreRead sizes s v n (put sizes s v n)
put_reads [] s v n h low = record {
  state = omega (arith, mod-one (s / 1));
  holds = ap pos (mod-one _ ∙ omega arith);
  others = λ w apart. ap pos (mod-one _ ∙ sym (mod-one _));
}
put_reads (size ∷ sizes) s zero n h low = put_first size sizes s (split size (product sizes) s h) n low
put_reads (size ∷ sizes) s (suc v) n h low =
    let rest = split size (product sizes) s h in
    put_later size sizes s rest v n (put_reads sizes (s % product sizes) v n rest.left low)

-- A state's number is that of its values.
pub number_read : (sizes : List ℕ) (s : ℕ) → s < product sizes → number_of sizes (value_of sizes s) ≡ s
number_read [] s h = omega arith
number_read (size ∷ sizes) s h =
    let rest = split size (product sizes) s h in
    rw (fun_ext (value_later size sizes s rest), mod-eq_of_lt rest.above) (omega (arith, number_read sizes (s % product sizes) rest.left))

-- A variable holds 0 to size − 1.
pub value_below : (sizes : List ℕ) (s v : ℕ) → s < product sizes → value_of sizes s v < get_or sizes v 1
value_below [] s v h = mod-lt _ (omega arith)
value_below (size ∷ sizes) s zero h = mod-lt _ (omega (arith, (split size (product sizes) s h).above))
value_below (size ∷ sizes) s (suc v) h =
    let rest = split size (product sizes) s h in
    rw (value_later size sizes s rest v) (value_below sizes (s % product sizes) v rest.left)

-- A store of any integer in any variable, at any state, leaves the remainder by the variable's size.
pub store_read : (sizes : List ℕ) (s v : ℕ) (z : ℤ) → s < product sizes
    → StoreRead sizes s v (remainder z (get_or sizes v 1)) ((machine_of sizes).store s v z)
store_read sizes s v z h =
    put_reads sizes s v _ h (remainder_below z (get_or sizes v 1) (omega (arith, value_below sizes s v h)))
