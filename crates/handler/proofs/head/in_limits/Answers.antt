-- The tests are the definition's.
use Prim.Native.Nat.{ℕ}
use mathlib.Core.Bool.{Bool, true, false, ◌&&◌, true≢false}
use mathlib.Core.List.{List, [], ◌∷◌}
use mathlib.Core.Path.{◌≡◌, refl, sym, ◌∙◌}
use native.Mathlib.Omega.{arith}
use borrow.Author.Rules.{rules}
use borrow.Author.Tests.{le-leb, lt-leb}
use lib.Dec.{leb}
use lib.ListN.{length, get_or}
use Rattle.std.specs.List.{list_all}
use Rattle.std.proofs.lemmas.Iterator.{YieldsList-from_slice}
use Rattle.std.proofs.lemmas.Iterator.Search.{all_from_yields_List}
use Rattle.states.specs.Search.{all}
use Rattle.states.specs.Sets.{capacity}
use Rattle.handler.specs.Header.{is_size, in_limits}
use Rattle.handler.proofs.head.in_limits.Goals.{then-head-le-MOST_VARIABLES, else-head-le-MOST_VARIABLES}
use Rattle.handler.proofs.head.in_limits.Goals as goal

four_tests : (a b c d : Bool) → (a && (b && (c && (d && true)))) ≡ (((a && b) && c) && d)
four_tests false b c d = refl
four_tests true false c d = refl
four_tests true true false d = refl
four_tests true true true true = refl
four_tests true true true false = refl

four_sizes : (p : ℕ → Bool) (l : List ℕ) → length l ≡ 4 → list_all p l ≡ all 4 (λ v. p (get_or l v 0))
unfolding all
four_sizes p [] e = absurd (omega arith)
four_sizes p (a ∷ []) e = absurd (omega arith)
four_sizes p (a ∷ b ∷ []) e = absurd (omega arith)
four_sizes p (a ∷ b ∷ c ∷ []) e = absurd (omega arith)
four_sizes p (a ∷ b ∷ c ∷ d ∷ []) e = four_tests (p a) (p b) (p c) (p d)
four_sizes p (a ∷ b ∷ c ∷ d ∷ x ∷ l) e = absurd (omega arith)

pub returns-then-head-le-MOST_STATES : goal.returns-then-head-le-MOST_STATES
unfolding in_limits
returns-then-head-le-MOST_STATES c =
    let head = c.args.head in
    let found : c.all.result ≡ list_all is_size head.sizes =
    all_from_yields_List is_size _ _ _ c.all.ensures.ran (YieldsList-from_slice head.sizes c.iter.ensures.rest) (λ x b q k. search rules) in
    let few : (leb head.count 4 && leb head.states capacity) ≡ true =
    elim c.if-head-le-MOST_VARIABLES.branch [
      | then-head-le-MOST_VARIABLES w ↦ rw (le-leb head.count 4 w.if-head-le-MOST_VARIABLES.true) (sym w.value-is ∙ c.if-head-le-MOST_STATES.true)
      | else-head-le-MOST_VARIABLES w ↦ absurd (true≢false (sym c.if-head-le-MOST_STATES.true ∙ w.value-is ∙ lt-leb head.count 4 w.if-head-le-MOST_VARIABLES.false))
    ] in
    rw few (found ∙ four_sizes is_size head.sizes (search rules))
