-- What a walk promises about its row: the values of a leaf, and those of an operation from the rows of its operands. If an operand's
-- row has no values, it is the row of the operation too. And how often the variables of a mask occur, from one level to the next.
use Prim.Native.Nat.{ℕ, zero, suc, ◌+◌, ◌-◌, ◌*◌, ◌≤◌, ◌<◌, ◌^◌}
use native.Mathlib.Numerals.{add-one}
use native.Mathlib.Omega.{arith}
use native.Mathlib.Nat.{zero-div}
use mathlib.Core.List.{List}
use mathlib.Core.Option.{Option, none, some}
use Rattle.std.specs.Prelude.{Some, None}
use Rattle.std.specs.Prelude as std
use mathlib.Core.Path.{◌≡◌, refl, sym, ap, ◌∙◌, ap₂}
use mathlib.Core.Bool.{cond}
use borrow.Author.Tests.{ne_eqb, eqb-false}
use lib.Dec.{ltb, eqb}
use lib.IntN.{ℤ, pos}
use lib.ListN.{length, get_or, replicate, get_or-replicate, get_or-eq_default}
use lib.Signed.{mag}
use Rattle.states.specs.declared.StateSet.{StateSet}
use Rattle.states.specs.Sets.{capacity, has}
use Rattle.semantics.specs.Language.{Val, int, Expr, op, apply, lit, var}
use Rattle.semantics.specs.States.{Machine, value, both}
use Rattle.semantics.specs.Conditions.{occurrences}
use Rattle.handler.specs.declared.head.Head.{Head}
use Rattle.handler.specs.declared.terms.Term.{Term}
use Rattle.handler.specs.Header.{machine_in}
use Rattle.handler.proofs.Heads.{by_test}
use Rattle.handler.specs.Terms.{signed16, term_of, term_in, on_term, expr_from, expr_in}
use Rattle.evaluation.specs.declared.Values.{Values}
use Rattle.evaluation.specs.declared.Values.TheVariants.{Integers, Truths}
use Rattle.evaluation.specs.Refinement.{expr_levels, doubled, leaf_bound, value_bound, integer_in, value_in, Applied, LeafRow, Walked, Evaluated}
use Rattle.evaluation.specs.Values.{in_mask}
use Rattle.evaluation.proofs.Sizes.{split}

-- Doubling.
pub doubled_step : (b k : ℕ) → 0 < k → doubled b k ≡ 2 * doubled b (k - 1)
doubled_step b zero more = absurd (omega arith)
doubled_step b (suc k) more = let less : suc k - 1 ≡ k = omega arith in rw less

pub doubled_least : (b k : ℕ) → b ≤ doubled b k
doubled_least b zero = omega arith
doubled_least b (suc k) = omega (arith, doubled_least b k)

pub doubled_most : (b k n : ℕ) → k ≤ n → doubled b k ≤ doubled b n
doubled_most b zero n h = doubled_least b n
doubled_most b (suc k) zero h = absurd (omega arith)
doubled_most b (suc k) (suc n) h = omega (arith, doubled_most b k n (omega arith))

-- One level of an expression, with `levels - 1` below it as in the code.
pub term_step : (table : List ℕ) (levels i : ℕ) → 0 < levels
    → expr_from levels table i ≡ on_term (term_in table i) (expr_from (levels - 1) table (i + 1)) (expr_from (levels - 1) table (term_in table i).right)
unfolding expr_from
term_step table zero i more = absurd (omega arith)
term_step table (suc levels) i more = let less : suc levels - 1 ≡ levels = omega arith in rw (less, add-one i)

pub is_operation : (x : Term) (l r : Expr) → 3 ≤ x.tag → on_term x l r ≡ op x.value l r
is_operation x l r last = rw (ne_eqb x.tag 0 (omega arith), ne_eqb x.tag 1 (omega arith), ne_eqb x.tag 2 (omega arith))

-- Past the end of the table there are integers only, so the node after an operation has a number that fits.
pub operation_inside : (table : List ℕ) (i : ℕ) → 3 ≤ (term_in table i).tag → i < length table
unfolding term_in term_of
operation_inside table i last =
    split i (length table) (λ l. l)
    (λ l. absurd (let none : get_or table i 0 ≡ 0 = get_or-eq_default table 0 l in omega (arith, last, none)))

pub value_small : (table : List ℕ) (i : ℕ) → (term_in table i).value < 65536
unfolding term_in term_of
value_small table i = omega arith

both_none : (f : Val → Val → Option Val) (a : Option Val) → both f a none ≡ none
both_none f none = refl
both_none f (some a) = refl

signed_small : (n : ℕ) → n < 65536 → mag (signed16 n) < leaf_bound
unfolding signed16
signed_small n h = by_test (λ z. mag z < leaf_bound) (ltb n 32768) _ _ (λ e. h) (λ e. omega arith)

-- The rows of leaves.
module _ (n : ℕ) (m : Machine) (x : Term) (a b : Expr) where
  pub integer_row : (row : List ℤ) → n ≤ capacity → x.tag ≡ 0 → x.value < 65536 → row ≡ replicate capacity (signed16 x.value)
      → LeafRow n m (Some (Integers row)) (on_term x a b)
  integer_row row most is low made =
      record {
        each = λ s l. rw (is, made, get_or-replicate capacity s (signed16 x.value) (pos 0) (omega arith));
        small = λ s l. rw (made, get_or-replicate capacity s (signed16 x.value) (pos 0) (omega arith)) (signed_small x.value low);
      }

  pub truth_row : (set : StateSet) → n ≤ capacity → x.tag ≡ 1 → ((s : ℕ) → s < capacity → has set s ≡ eqb x.value 1)
      → LeafRow n m (Some (Truths set)) (on_term x a b)
  truth_row set most is always = record { each = λ s l. rw (is, always s (omega arith)); small = λ s l. omega arith }

  pub variable_row : (row : List ℤ) → x.tag ≡ 2
      → ((s : ℕ) → s < n → (get_or row s (pos 0) ≡ m.get s x.value) × (mag (get_or row s (pos 0)) < leaf_bound))
      → LeafRow n m (Some (Integers row)) (on_term x a b)
  variable_row row is each = record { each = λ s l. rw is (ap (λ z. some (int z)) (each s l).0); small = λ s l. (each s l).1 }

-- Where a walk is, and how far it may go: the table, the states, the levels left, and the node's number.
module _ (table : List ℕ) (n : ℕ) (m : Machine) (levels i : ℕ) where
  -- Where no level is left.
  pub walked_out : levels ≡ 0 → Walked n m levels None (expr_from levels table i)
  unfolding expr_from
  walked_out none_left = record { each = λ s l. rw none_left; small = λ s l. rw none_left (omega arith) }

  module _ (more : 0 < levels) where
    pub walked_leaf : (row : std.Option Values) → ((a b : Expr) → LeafRow n m row (on_term (term_in table i) a b)) → Walked n m levels row (expr_from levels table i)
    walked_leaf row made =
        let known = made (expr_from (levels - 1) table (i + 1)) (expr_from (levels - 1) table (term_in table i).right) in
        rw (term_step table levels i more) (record { each = known.each; small = λ s l. omega (arith, known.small s l, doubled_least leaf_bound levels) })

    module _ (last : 3 ≤ (term_in table i).tag) where
      abbrev o : ℕ
      o = (term_in table i).value

      abbrev first_operand : Expr
      first_operand = expr_from (levels - 1) table (i + 1)

      abbrev second_operand : Expr
      second_operand = expr_from (levels - 1) table (term_in table i).right

      step : expr_from levels table i ≡ op o first_operand second_operand
      step = term_step table levels i more ∙ is_operation (term_in table i) _ _ last

      none_small : 0 < doubled leaf_bound levels
      none_small = omega (arith, doubled_least leaf_bound levels)

      pub walked_left : Walked n m (levels - 1) None first_operand → Walked n m levels None (expr_from levels table i)
      walked_left first = rw step (record { each = λ s l. rw (sym (first.each s l)); small = λ s l. none_small })

      pub walked_right : Walked n m (levels - 1) None second_operand → Walked n m levels None (expr_from levels table i)
      walked_right second =
          rw step (record { each = λ s l. rw (sym (second.each s l)) (sym (both_none (apply o) (value m first_operand s))); small = λ s l. none_small })

      module _ (left right : std.Option Values) (first : Walked n m (levels - 1) left first_operand)
          (second : Walked n m (levels - 1) right second_operand) where
        pub operands_small : levels ≤ expr_levels → (s : ℕ) → s < n → mag (integer_in left s) + mag (integer_in right s) < value_bound
        operands_small few s l =
            let most : doubled leaf_bound levels ≤ value_bound = doubled_most leaf_bound levels expr_levels few in
            omega (arith, doubled_step leaf_bound levels more, most, first.small s l, second.small s l)

        pub walked_both : (row : std.Option Values) → Applied n (λ s. both (apply o) (value_in left s) (value_in right s)) left right row
            → Walked n m levels row (expr_from levels table i)
        walked_both row made =
            rw step (record {
              each = λ s l. (made s l).0 ∙ rw (first.each s l, second.each s l);
              small = λ s l. omega (arith, doubled_step leaf_bound levels more, first.small s l, second.small s l, (made s l).1);
            })

-- A whole expression, from the row of a walk with all levels left.
pub whole_row : (head : Head) (table : List ℕ) (expr n : ℕ) (row : std.Option Values) → n ≡ (machine_in head).states
    → Walked n (machine_in head) expr_levels row (expr_from expr_levels table expr) → Evaluated head table expr row
unfolding expr_in
whole_row head table expr n row all w = record { each = λ s l. w.each s (rw all l); small = λ s l. w.small s (rw all l) }

-- With an empty mask no occurrence counts.
pub none_occur : (e : Expr) → occurrences (in_mask 0) e ≡ 0
none_occur (lit c) = refl
none_occur (var v) = rw (zero-div (2 ^ v))
none_occur (op o l r) = rw (none_occur l, none_occur r)

-- The sum of the occurrences in two operands fits.
pub sum_small : (levels : ℕ) → levels ≤ expr_levels → 0 < levels → (a b : ℕ) → a < doubled 1 (levels - 1) → b < doubled 1 (levels - 1)
    → a + b < 2 ^ 32
sum_small levels few more a b l r =
    let most : doubled 1 levels ≤ 2 ^ 32 = doubled_most 1 levels expr_levels few in
    omega (arith, doubled_step 1 levels more)

module _ (table : List ℕ) (mask levels i : ℕ) where
  abbrev Counted : ℕ → Type 0
  Counted r = (r ≡ occurrences (in_mask mask) (expr_from levels table i)) × (r < doubled 1 levels)

  pub no_level : levels ≡ 0 → Counted 0
  unfolding expr_from
  no_level none_left = rw none_left (refl, omega arith)

  module _ (more : 0 < levels) where
    few : (r : ℕ) → r ≤ 1 → r < doubled 1 levels
    few r h = omega (arith, doubled_step 1 levels more, doubled_least 1 (levels - 1))

    constant : (x : Term) (l r : Expr) → x.tag < 2 → 0 ≡ occurrences (in_mask mask) (on_term x l r)
    constant x l r first =
        let None : Expr → Type 0 = λ e. 0 ≡ occurrences (in_mask mask) e in
        by_test None (eqb x.tag 0) _ _ (λ p. refl) (λ p. by_test None (eqb x.tag 1) _ _ (λ q. refl)
        (λ q. let no = eqb-false x.tag 0 p in let nor = eqb-false x.tag 1 q in absurd (omega arith)))

    pub constant_occurs : (term_in table i).tag < 2 → Counted 0
    constant_occurs first = (rw (term_step table levels i more) (constant (term_in table i) _ _ first), few 0 (omega arith))

    pub variable_occurs : (r : ℕ) → (term_in table i).tag ≡ 2 → r ≡ cond (in_mask mask (term_in table i).value) 1 0 → Counted r
    variable_occurs r is counted =
        let one = by_test (λ n. n ≤ 1) (in_mask mask (term_in table i).value) 1 0 (λ e. omega arith) (λ e. omega arith) in
        (counted ∙ rw (term_step table levels i more, is), few r (rw counted one))

    pub both_occur : 3 ≤ (term_in table i).tag → (a b : ℕ)
        → (a ≡ occurrences (in_mask mask) (expr_from (levels - 1) table (i + 1))) × (a < doubled 1 (levels - 1))
        → (b ≡ occurrences (in_mask mask) (expr_from (levels - 1) table (term_in table i).right)) × (b < doubled 1 (levels - 1)) → Counted (a + b)
    both_occur last a b left right =
        let operands = is_operation (term_in table i) (expr_from (levels - 1) table (i + 1)) (expr_from (levels - 1) table (term_in table i).right) last in
        (rw (term_step table levels i more, operands) (ap₂ (λ x y. x + y) left.0 right.0), omega (arith, doubled_step 1 levels more, left.1, right.1))
