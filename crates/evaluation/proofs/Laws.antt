-- Laws for callers: the variables of a head.
use Prim.Native.Nat.{ℕ, suc, ◌/◌, ◌≤◌, ◌<◌}
use native.Mathlib.Nat.{mod-one, mod-lt}
use native.Mathlib.Omega.{arith}
use borrow.Author.Tests.{leb-true, ltb-true, lt-ltb, le-ltb, le-leb, eqb-true, eq-eqb}
use mathlib.Core.Bool.{Bool, true, false, ◌&&◌, false≢true}
use mathlib.Core.List.{List}
use mathlib.Core.Logic.{⊎_elim}
use mathlib.Core.Option.{Option, none, some}
use mathlib.Core.Path.{◌≡◌, refl, sym, ap, ◌∙◌}
use lib.Dec.{leb, ltb, eqb}
use lib.IntN.{ℤ, pos}
use lib.ListN.{get_or}
use lib.Signed.{mag}
use Rattle.states.specs.Sets.{capacity}
use Rattle.states.proofs.Search.{and_left, and_right, and_both, bool_ext, true_or_false}
use Rattle.semantics.specs.Language.{Val, int, truth, Expr, eq_z}
use Rattle.semantics.specs.States.{product, weight, value_of, machine_of, value, store_of}
use Rattle.semantics.specs.Conditions.{after_store}
use Rattle.semantics.proofs.Storing.{store_read}
use Rattle.handler.specs.declared.head.Head.{Head}
use Rattle.handler.specs.Header.{is_head, sizes_in, machine_in}
use Rattle.handler.proofs.Heads.{size_past, known_head}
use Rattle.evaluation.specs.declared.Variable.{Variable}
use Rattle.evaluation.specs.Values.{leads_to, agree, variable_in, value_by, is_small, agree_in}
use Rattle.evaluation.specs.Refinement.{leaf_bound, stored_by}
use Rattle.evaluation.proofs.Sizes.{later_sizes, one_size}

-- A variable that is not declared has the same value at all states.
pub get_past : (head : Head) (v s t : ℕ) → head.count ≤ v → (machine_in head).get s v ≡ (machine_in head).get t v
unfolding machine_in
get_past head v s t h = rw (size_past head v h) (ap pos (mod-one (s / weight (sizes_in head) v) ∙ sym (mod-one (t / weight (sizes_in head) v))))

-- A head with a state is one that a file can have.
pub state_head : (head : Head) (s : ℕ) → s < (machine_in head).states → is_head head ≡ true
unfolding machine_in
state_head head s below = ⊎_elim (λ h. h) (λ h. absurd (let none = rw h at below in omega arith)) (true_or_false (is_head head))

pub states_most : (head : Head) → (machine_in head).states ≤ capacity
unfolding machine_in
states_most head = ⊎_elim (λ h. rw h (omega (arith, known_head head h))) (λ h. rw h (omega arith)) (true_or_false (is_head head))

-- A store leads from a state to a state.
stored_below : (sizes : List ℕ) (v : ℕ) (e : Expr) (s t : ℕ) → s < product sizes
    → leads_to (after_store (machine_of sizes) v e s) t ≡ true → t < product sizes
unfolding after_store
stored_below sizes v e s t below = by (value (machine_of sizes) e s)
  where
    by : (o : Option Val) → leads_to (store_of (machine_of sizes) s v o) t ≡ true → t < product sizes
    by none leads = absurd (false≢true leads)
    by (some (int z)) leads = rw (← eqb-true _ t leads) (store_read sizes s v z below).state
    by (some (truth b)) leads = absurd (false≢true leads)

pub after_below : (head : Head) (v : ℕ) (e : Expr) (s t : ℕ) → s < (machine_in head).states
    → leads_to (after_store (machine_in head) v e s) t ≡ true → t < (machine_in head).states
after_below head v e s t below =
    let all : s < (machine_in head).states → leads_to (after_store (machine_in head) v e s) t ≡ true → t < (machine_in head).states
    = rw (known_head head (state_head head s below)).machine (stored_below (sizes_in head) v e s t) in
    all below

-- Two natural numbers are equal as integers exactly if they are equal.
same_number : (a b : ℕ) → eq_z (pos a) (pos b) ≡ eqb a b
same_number a b =
    bool_ext _ _
    (λ h. eq-eqb a b (omega (arith, leb-true a b (and_left (leb a b) _ h), leb-true b a (and_right (leb a b) _ h))))
    (λ h. let e = eqb-true a b h in and_both _ _ (le-leb a b (omega arith)) (le-leb b a (omega arith)))

-- What `is_small` says about a variable's numbers.
pub record SmallVariable (x : Variable) : Type 0 where
  pub few : x.states ≤ capacity
  pub weighs : 0 < x.weight
  pub light : x.weight ≤ capacity
  pub sized : 0 < x.size
  pub short : x.size ≤ capacity

pub small : (x : Variable) → is_small x ≡ true → SmallVariable x
unfolding is_small
small x h =
    let c = and_left _ (leb x.size capacity) h in
    let b = and_left _ (ltb 0 x.size) c in
    let a = and_left _ (leb x.weight capacity) b in
    record {
      few = leb-true x.states capacity (and_left _ (ltb 0 x.weight) a);
      weighs = ltb-true 0 x.weight (and_right (leb x.states capacity) _ a);
      light = leb-true x.weight capacity (and_right (leb x.states capacity && ltb 0 x.weight) _ b);
      sized = ltb-true 0 x.size (and_right (leb x.states capacity && ltb 0 x.weight && leb x.weight capacity) _ c);
      short = leb-true x.size capacity (and_right (leb x.states capacity && ltb 0 x.weight && leb x.weight capacity && ltb 0 x.size) _ h);
    }

-- The variables of a head, as the code holds them: their numbers are small, and their values and stores are those of the machine.
pub variable_small : (head : Head) (v : ℕ) → is_small (variable_in head v) ≡ true
unfolding variable_in is_small
variable_small head v =
    ⊎_elim (λ h.
    let known = known_head head h in
    let w = later_sizes (sizes_in head) (suc v) known.least in
    let z = one_size (sizes_in head) v known.least in
    rw (
      h,
      le-leb head.states capacity (omega (arith, known)),
      lt-ltb 0 (weight (sizes_in head) v) w.0,
      le-leb (weight (sizes_in head) v) capacity (omega (arith, known)),
      lt-ltb 0 (get_or (sizes_in head) v 1) z.0,
      le-leb (get_or (sizes_in head) v 1) capacity (omega (arith, known)),
    )) (λ h. rw h) (true_or_false (is_head head))

pub variable_states : (head : Head) (v : ℕ) → (variable_in head v).states ≡ (machine_in head).states
unfolding variable_in machine_in
variable_states head v = ⊎_elim (λ h. rw h) (λ h. rw h) (true_or_false (is_head head))

pub variable_values : (head : Head) (v n : ℕ) (x : Variable) (values : List ℤ) → x ≡ variable_in head v → n ≡ (machine_in head).states
    → ((s : ℕ) → s < n → get_or values s (pos 0) ≡ pos (value_by x s))
    → (s : ℕ) → s < n → (get_or values s (pos 0) ≡ (machine_in head).get s v) × (mag (get_or values s (pos 0)) < leaf_bound)
unfolding machine_in variable_in
variable_values head v n x values is all each s l =
    let known = small x (ap is_small is ∙ variable_small head v) in
    let same : variable_in head v ≡ record { states = head.states; weight = weight (sizes_in head) v; size = get_or (sizes_in head) v 1 }
    = rw (state_head head s (rw all at l)) in
    (each s l ∙ ap (λ y. pos (value_by y s)) (is ∙ same), rw (each s l) (omega (arith, known, mod-lt (s / x.weight) known.sized)))

pub store_variable : (head : Head) (v s : ℕ) → s < (machine_in head).states → (z : ℤ) → (machine_in head).store s v z ≡ stored_by (variable_in head v) s z
unfolding machine_in variable_in
store_variable head v s below z = rw (state_head head s below)

pub agree_variable : (head : Head) (v s t : ℕ) → agree_in (variable_in head v) s t ≡ agree (machine_in head) v s t
unfolding variable_in agree_in agree machine_in
agree_variable head v s t = by (is_head head) refl
  where
    by : (b : Bool) → is_head head ≡ b → agree_in (variable_in head v) s t ≡ agree (machine_in head) v s t
    by true h = rw (variable_small head v, h, same_number (value_of (sizes_in head) s v) (value_of (sizes_in head) t v))
    by false h = rw (variable_small head v, h, le-ltb s 0 (omega arith))
