-- A node's answer, condition by condition, in the order in which they are checked.
use Prim.Native.Nat.{ℕ}
use mathlib.Core.Path.{◌≡◌, refl, sym, ◌∙◌, ap}
use mathlib.Core.Bool.{Bool, true, false, cond}
use mathlib.Core.List.{List, [], ◌∷◌}
use mathlib.Core.Option.{Option, none, some}
use native.Mathlib.Omega.{arith}
use lib.Dec.{eqb}
use borrow.Author.Tests.{eq-eqb}
use Rattle.states.specs.Search.{Search, given, holds}
use Rattle.semantics.specs.Checking.{Condition, Breach, or_breach, first_broken}
use Rattle.std.specs.Prelude.{Result, Ok, Err, MatchResult, IsErrAnd}
use Rattle.rules.specs.declared.Broken.{Broken}
use Rattle.search.specs.Named.{naming}
use Rattle.rules.specs.Asking.{asked, asked_all, verdict_of, or_states, states_for, fault_of}

-- One more condition that the code has checked, after those before it held; and where it held too.
pub then_asked : (number : ℕ) (s : Search) {held : Bool} {r found : Result Unit ℕ} → found ≡ Ok tt → r ≡ cond held (Ok tt) (Err number)
    → held ≡ holds s → r ≡ asked found number (holds s)
unfolding asked
then_asked number s before made looked = rw before (made ∙ ap (λ b. cond b (Ok tt) (Err number)) looked)

pub then_held : (number : ℕ) (s : Search) {held : Bool} {found : Result Unit ℕ} → found ≡ Ok tt → ◌≡◌ {A = Result Unit ℕ} (Ok tt) (cond held (Ok tt) (Err number))
    → held ≡ holds s → asked found number (holds s) ≡ Ok tt
then_held number s before ok looked = sym (then_asked number s before ok looked)

-- The answer for a list is its first broken condition.
kept : (k : ℕ) (cs : List Condition) → asked_all (Err k) cs ≡ Err k
unfolding asked
kept k [] = refl
kept k (c ∷ cs) = kept k cs

first_asked : (cs : List Condition) → asked_all (Ok tt) cs ≡ verdict_of (first_broken cs)
unfolding asked holds
first_asked [] = refl
first_asked (c ∷ cs) = by c.breach (first_asked cs)
  where
    by : (s : Search) → asked_all (Ok tt) cs ≡ verdict_of (first_broken cs)
        → asked_all (asked (Ok tt) c.number (holds s)) cs ≡ verdict_of (or_breach c.number s (first_broken cs))
    by none rest = rest
    by (some found) rest = kept c.number cs

-- What a verdict says about the first broken condition.
none_broken : (o : Option Breach) → verdict_of o ≡ (Ok tt) → o ≡ none
none_broken none e = refl
none_broken (some b) e = absurd (let z : ◌≡◌ {A = ℕ} 0 1 = cc in omega arith)

-- The states of the first broken condition can be looked up by its number.
one_broken : (cs : List Condition) (k : ℕ) → verdict_of (first_broken cs) ≡ Err k
    → first_broken cs ≡ some (record { number = k; states = states_for k cs })
unfolding states_for given
one_broken [] k e = absurd (let z : ◌≡◌ {A = ℕ} 0 1 = cc in omega arith)
one_broken (c ∷ cs) k e = by c.breach e (one_broken cs k)
  where
    passed : (hit : Bool) → states_for k cs ≡ or_states (given hit none) (states_for k cs)
    passed true = refl
    passed false = refl

    by : (x : Search) → verdict_of (or_breach c.number x (first_broken cs)) ≡ Err k
        → (verdict_of (first_broken cs) ≡ Err k → first_broken cs ≡ some (record { number = k; states = states_for k cs }))
        → or_breach c.number x (first_broken cs) ≡ some (record { number = k; states = or_states (given (eqb k c.number) x) (states_for k cs) })
    by none e rest = rest e ∙ ap (λ l. some (record { number = k; states = l })) (passed (eqb k c.number))
    by (some found) e rest = let same : c.number ≡ k = cc in rw (same, eq-eqb k k refl)

-- The fault of a node, from the verdict of its conditions and the states that its number gives.
pub fault_found : (cs : List Condition) (v : Result Unit ℕ) (r : Result Unit Broken) (made : ℕ → Broken → Type 0) → v ≡ asked_all (Ok tt) cs
    → MatchResult v (λ x. r ≡ Ok x) (λ k. IsErrAnd r (made k))
    → ((k : ℕ) (b : Broken) → made k b → b ≡ record { number = k; states = naming (states_for k cs) })
    → r ≡ fault_of (first_broken cs)
fault_found cs (Ok x) r made e ok named = ok ∙ ap fault_of (sym (none_broken (first_broken cs) (sym (first_asked cs) ∙ sym e)))
fault_found cs (Err k) (Ok x) made e ok named = absurd ok
fault_found cs (Err k) (Err b) made e err named =
    ap Err (named k b err) ∙ ap fault_of (sym (one_broken cs k (sym (first_asked cs) ∙ sym e)))
