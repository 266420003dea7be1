-- What follows if no condition of a list is broken, and which statement is at hand by condition 30.
use Prim.Native.Nat.{ℕ}
use mathlib.Core.Path.{◌≡◌, refl, sym, ◌∙◌, ap}
use mathlib.Core.List.{List, [], ◌∷◌}
use mathlib.Core.Option.{Option, none, some, none-ne-some}
use lib.ListN.{get_or}
use lib.Dec.{eqb}
use borrow.Author.Tests.{eqb-true}
use Rattle.states.specs.Search.{Search, must}
use Rattle.states.proofs.Search.{must_none}
use Rattle.semantics.specs.Language.{Stmt, nil, assign, seq, par, if, while}
use Rattle.semantics.specs.Conditions.{statement_code, target_of, expr_of, first_of, second_of}
use Rattle.semantics.specs.Checking.{Condition, Breach, Broken, or_breach, first_broken, or_broken, at_node}

-- Every condition of a list holds.
abbrev pub Clear : List Condition → Type 0
Clear [] = Unit {0}
Clear (c ∷ rest) = (c.breach ≡ none) × Clear rest

pub clear : (cs : List Condition) → first_broken cs ≡ none → Clear cs
clear [] e = tt
clear (c ∷ rest) e = ((by c.breach e).0, clear rest (by c.breach e).1)
  where
    by : (x : Search) → or_breach c.number x (first_broken rest) ≡ none → (x ≡ none) × (first_broken rest ≡ none)
    by none e = (refl, e)
    by (some found) e = absurd (none-ne-some _ (sym e))

pub no_breach : (n : ℕ) (o : Option Breach) → at_node n o ≡ none → o ≡ none
no_breach n none e = refl
no_breach n (some b) e = absurd (none-ne-some _ (sym e))

pub neither : (a b : Option Broken) → or_broken a b ≡ none → (a ≡ none) × (b ≡ none)
neither none b e = (refl, e)
neither (some x) b e = absurd (none-ne-some _ (sym e))

-- The statement with code k and the parts of S. By condition 30 it is S.
abbrev pub made : ℕ → Stmt → Stmt
made k S =
    get_or (nil ∷ assign (target_of S) (expr_of S) ∷ seq (first_of S) (second_of S) ∷ par (first_of S) (second_of S)
    ∷ if (expr_of S) (first_of S) ∷ while (expr_of S) (first_of S) ∷ []) k nil

made_whole : (S : Stmt) → made (statement_code S) S ≡ S
made_whole nil = refl
made_whole (assign v e) = refl
made_whole (seq l r) = refl
made_whole (par l r) = refl
made_whole (if e b) = refl
made_whole (while e b) = refl

pub says30 : (S : Stmt) (k : ℕ) → must (eqb (statement_code S) k) ≡ none → made k S ≡ S
says30 S k e = ap (λ x. made x S) (sym (eqb-true (statement_code S) k (must_none _ e))) ∙ made_whole S
