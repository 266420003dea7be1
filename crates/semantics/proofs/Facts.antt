-- What holds of every number, from the table of the facts: computed for its entries.
use Prim.Native.Nat.{ℕ, zero, suc, ◌+◌, ◌-◌, ◌≤◌, ◌<◌}
use mathlib.Core.Bool.{Bool, true, ◌&&◌}
use mathlib.Core.List.{List, [], ◌∷◌, ◌++◌}
use mathlib.Core.Path.{◌≡◌, refl, sym, ap, ◌∙◌}
use native.Mathlib.Omega.{arith}
use borrow.Author.Tests.{leb-true, eqb-true}
use lib.Dec.{leb, eqb}
use lib.ListN.{get_or, drop, replicate}
use lib.Seq.{get_or-drop}
use Rattle.states.specs.Search.{all}
use Rattle.states.proofs.Search.{and_left, and_right, all_at}
use Rattle.semantics.specs.declared.Where.TheVariants.{HandlerBit, ProofBit}
use Rattle.semantics.specs.Facts.{Fact, no_place, in_handler, in_proof, facts, place_of, states_named}

abbrev all_of : (Fact → Bool) → List Fact → Bool
all_of p [] = true
all_of p (f ∷ rest) = p f && all_of p rest

-- A test that every entry and the other numbers pass.
passes : (p : Fact → Bool) (l : List Fact) (other : Fact) → all_of p l ≡ true → p other ≡ true → (k : ℕ) → p (get_or l k other) ≡ true
passes p [] other each past k = past
passes p (f ∷ rest) other each past zero = and_left (p f) (all_of p rest) each
passes p (f ∷ rest) other each past (suc k) = passes p rest other (and_right (p f) (all_of p rest) each) past k

-- No number names more than three states, and those below 31 name none.
pub few_named : (k : ℕ) → states_named k ≤ 3
few_named k = leb-true _ _ (passes (λ f. leb f.states 3) facts no_place refl refl k)

pub none_named : (k : ℕ) → k < 31 → states_named k ≡ 0
unfolding all
none_named k low = eqb-true _ _ (all_at 31 (λ j. eqb (states_named j) 0) refl k low)

-- A run of equal entries.
in_run : (f other : Fact) (n j : ℕ) (rest : List Fact) → j < n → get_or (replicate n f ++ rest) j other ≡ f
in_run f other zero j rest low = absurd (omega arith)
in_run f other (suc n) zero rest low = refl
in_run f other (suc n) (suc j) rest low = in_run f other n j rest (omega arith)

-- 10 to 18 are at a bit of the handler file, 20 to 25 at one of the proof file.
pub handler_place : (k : ℕ) → 10 ≤ k → k ≤ 18 → place_of k ≡ HandlerBit
handler_place k low high =
    let is : 10 + (k - 10) ≡ k = omega arith in
    ap (λ (f : Fact). f.place) (ap (λ j. get_or facts j no_place) (sym is) ∙ sym (get_or-drop 10 facts (k - 10) no_place)
    ∙ in_run in_handler no_place 9 (k - 10) (drop 19 facts) (omega arith))

pub proof_place : (k : ℕ) → 20 ≤ k → k ≤ 25 → place_of k ≡ ProofBit
proof_place k low high =
    let is : 20 + (k - 20) ≡ k = omega arith in
    ap (λ (f : Fact). f.place) (ap (λ j. get_or facts j no_place) (sym is) ∙ sym (get_or-drop 20 facts (k - 20) no_place)
    ∙ in_run in_proof no_place 6 (k - 20) (drop 26 facts) (omega arith))
