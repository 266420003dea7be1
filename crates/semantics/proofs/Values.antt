-- If the kinds fit, an expression has a value of its kind at every state: the kind of an operation's result depends only on the kinds of
-- its operands, and it is the one in the row.
use Prim.Native.Nat.{ℕ}
use mathlib.Core.Path.{◌≡◌, refl, sym, ◌∙◌, ap, subst₂}
use mathlib.Core.Bool.{Bool, true, false, false≢true, ◌&&◌}
use mathlib.Core.Logic.{⊎_elim}
use mathlib.Core.List.{[], ◌∷◌}
use mathlib.Core.Option.{Option, none, some, map}
use lib.ListN.{get_or, get_or-map}
use lib.Dec.{ltb}
use lib.IntN.{ℤ}
use borrow.Author.Tests.{ltb-true, ltb-false}
use Rattle.states.specs.Search.{all, implies}
use Rattle.states.proofs.Search.{all_at, implies_at, and_left, and_right, and_both, true_or_false}
use Rattle.semantics.specs.declared.Kind.{Kind}
use Rattle.semantics.specs.declared.Kind.TheVariants.{Integer, Truth}
use Rattle.std.specs.Prelude.{Some, None}
use Rattle.std.specs.Prelude as std
use Rattle.std.proofs.lemmas.Option.{slice_get_past}
use Rattle.semantics.specs.Language.{Row, rows, Val, int, truth, Expr, lit, var, op, row_of, row_fits, same_kind, kind_of, fits, of_integers, of_truths, apply}
use Rattle.semantics.specs.States.{Machine, value, both}

-- The kind of an operation's result, from the kinds of its operands.
abbrev kind_apply : ℕ → Kind → Kind → Option Kind
kind_apply o Integer Integer = get_or (some Integer ∷ some Integer ∷ some Truth ∷ some Truth ∷ some Truth ∷ []) o none
kind_apply o Truth Truth = get_or (none ∷ none ∷ none ∷ none ∷ none ∷ some Truth ∷ some Truth ∷ []) o none
kind_apply o Integer Truth = none
kind_apply o Truth Integer = none

apply_kind : (o : ℕ) (a b : Val) → map kind_of (apply o a b) ≡ kind_apply o (kind_of a) (kind_of b)
apply_kind o (int a) (int b) = sym (get_or-map (map kind_of) (of_integers a b) o none)
apply_kind o (truth a) (truth b) = sym (get_or-map (map kind_of) (of_truths a b) o none)
apply_kind o (int a) (truth b) = refl
apply_kind o (truth a) (int b) = refl

abbrev is_kind : Kind → Option Kind → Bool
is_kind k none = false
is_kind k (some c) = same_kind c k

-- Computed over the seven rows: an operation that fits gives the wanted kind.
table : (a b k : Kind) → all 7 (λ o. implies (row_fits (row_of o) k (same_kind a) (same_kind b)) (is_kind k (kind_apply o a b))) ≡ true
unfolding all implies
table Integer Integer Integer = refl
table Integer Integer Truth = refl
table Integer Truth Integer = refl
table Integer Truth Truth = refl
table Truth Integer Integer = refl
table Truth Integer Truth = refl
table Truth Truth Integer = refl
table Truth Truth Truth = refl

row_gives : (o : ℕ) (a b k : Kind) → row_fits (row_of o) k (same_kind a) (same_kind b) ≡ true → is_kind k (kind_apply o a b) ≡ true
row_gives o a b k h =
    ⊎_elim (λ below. implies_at _ _ (all_at 7 _ (table a b k) o (ltb-true o 7 below)) h)
    (λ past. absurd (false≢true (rw (slice_get_past rows o (ltb-false o 7 past)) at h))) (true_or_false (ltb o 7))

-- There is a value, and it is of kind k.
pub record OfKind (o : Option Val) (k : Kind) : Type 0 where
  pub val : Val
  pub is : o ≡ some val
  pub kind : same_kind (kind_of val) k ≡ true

of_kind : (o : Option Val) (k : Kind) → is_kind k (map kind_of o) ≡ true → OfKind o k
of_kind none k h = absurd (false≢true h)
of_kind (some v) k h = record { val = v; is = refl; kind = h }

-- If both operands fit the row, both have values of the kinds that the row takes.
row_met : (r : std.Option Row) (k : Kind) (p q : Kind → Bool) {a b : Option Val} → ((x : Kind) → p x ≡ true → OfKind a x) → ((y : Kind) → q y ≡ true → OfKind b y)
    → row_fits r k p q ≡ true → (v : Val) × (w : Val) × (a ≡ some v) × (b ≡ some w) × (row_fits r k (same_kind (kind_of v)) (same_kind (kind_of w)) ≡ true)
row_met None k p q f g h = absurd (false≢true h)
row_met (Some (x, y, c)) k p q f g h =
    let asked = and_left (same_kind c k && p x) (q y) h in
    let same = and_left (same_kind c k) (p x) asked in
    let l = f x (and_right (same_kind c k) (p x) asked) in
    let r = g y (and_right (same_kind c k && p x) (q y) h) in
    (l.val, r.val, l.is, r.is, and_both (same_kind c k && same_kind (kind_of l.val) x) _ (and_both (same_kind c k) _ same l.kind) r.kind)

pub fits_kind : (m : Machine) (k : Kind) (e : Expr) (s : ℕ) → fits k e ≡ true → OfKind (value m e s) k
fits_kind m k (lit v) s h = record { val = v; is = refl; kind = h }
fits_kind m k (var v) s h = record { val = int (m.get s v); is = refl; kind = h }
fits_kind m k (op o l r) s h =
    let (v, w, left, right, met) = row_met (row_of o) k _ _ (λ x. fits_kind m x l s) (λ y. fits_kind m y r s) h in
    let made = of_kind (apply o v w) k (rw (apply_kind o v w) (row_gives o (kind_of v) (kind_of w) k met)) in
    subst₂ (λ a b. OfKind (both (apply o) a b) k) (sym left) (sym right) made

-- What a kind says of its values, it says of the value that there is.
made_of : {A : Type 0} {make : A → Val} {o : Option Val} {k : Kind} → ((v : Val) → same_kind (kind_of v) k ≡ true → (a : A) × (v ≡ make a))
    → OfKind o k → (a : A) × (o ≡ some (make a))
made_of is x = let (a, same) = is x.val x.kind in (a, x.is ∙ ap some same)

an_integer : (v : Val) → same_kind (kind_of v) Integer ≡ true → (z : ℤ) × (v ≡ int z)
an_integer (int z) k = (z, refl)
an_integer (truth b) k = absurd (false≢true k)

a_truth : (v : Val) → same_kind (kind_of v) Truth ≡ true → (b : Bool) × (v ≡ truth b)
a_truth (int z) k = absurd (false≢true k)
a_truth (truth b) k = (b, refl)

-- An assigned expression that fits is an integer, and a test that fits is true or false.
pub fits_integer : (m : Machine) (e : Expr) (s : ℕ) → fits Integer e ≡ true → (z : ℤ) × (value m e s ≡ some (int z))
fits_integer m e s h = made_of an_integer (fits_kind m Integer e s h)

pub fits_truth : (m : Machine) (e : Expr) (s : ℕ) → fits Truth e ≡ true → (b : Bool) × (value m e s ≡ some (truth b))
fits_truth m e s h = made_of a_truth (fits_kind m Truth e s h)
