-- The tables of the joined derivation: mentioning the distinct ones of a list adds what mentioning the list adds, so they are the new ones and
-- those of both forms, in this order.
use Prim.Native.Nat.{ℕ}
use mathlib.Core.Bool.{Bool, true, false}
use mathlib.Core.List.{List, [], ◌∷◌, ◌++◌}
use mathlib.Core.Path.{◌≡◌, refl, sym, ◌∙◌, ap}
use borrow.Author.Tests.{eq-eqb}
use Rattle.states.proofs.Search.{or_left}
use Rattle.semantics.specs.Derivations.{Derivation, Spec}
use Rattle.form.specs.Members.{set_where, relation_where}
use Rattle.form.specs.Mentions.{sets_of, relations_of, in_order, is_in, mentioned, all_mentioned, distinct}
use Rattle.form.specs.Form.{sets_in, relations_in}
use Rattle.form.proofs.Mentions.{mentioned_there, mentioned_new, kept, all_in, all_append}
use Rattle.joint.specs.Joining.{root_spec, left_spec, right_spec, members_of, joined}
use Rattle.composition.specs.Refinement.{three_of}

-- A mention before or after is the same, if x is in the list or is added to it.
absorbed_one : (seen acc : List ℕ) (x : ℕ) → all_mentioned seen (mentioned acc x) ≡ mentioned (all_mentioned seen acc) x
unfolding all_mentioned
absorbed_one seen acc x = by (is_in acc x) refl
  where
    by : (b : Bool) → is_in acc x ≡ b → all_mentioned seen (mentioned acc x) ≡ mentioned (all_mentioned seen acc) x
    by true there = ap (all_mentioned seen) (mentioned_there acc x there) ∙ sym (mentioned_there _ x (all_in seen acc x there))
    by false out = ap (all_mentioned seen) (mentioned_new acc x out) ∙ all_append seen acc (x ∷ [])

absorbed : (seen acc xs : List ℕ) → all_mentioned seen (all_mentioned acc xs) ≡ all_mentioned (all_mentioned seen acc) xs
unfolding all_mentioned
absorbed seen acc [] = refl
absorbed seen acc (x ∷ rest) = absorbed seen (mentioned acc x) rest ∙ ap (λ l. all_mentioned l rest) (absorbed_one seen acc x)

pub all_distinct_of : (seen xs : List ℕ) → all_mentioned seen (distinct xs) ≡ all_mentioned seen xs
unfolding distinct all_mentioned
all_distinct_of seen xs = absorbed seen [] xs

-- p, then xs, then p again and ys: the second p adds nothing.
again : (p : ℕ) (xs ys : List ℕ) → all_mentioned [] (p ∷ p ∷ (xs ++ p ∷ ys)) ≡ all_mentioned (all_mentioned (p ∷ []) xs) ys
unfolding all_mentioned mentioned is_in
again p xs ys =
    let first : is_in (p ∷ []) p ≡ true = or_left _ _ (eq-eqb p p refl) in
    ap (λ l. all_mentioned l (xs ++ p ∷ ys)) (mentioned_there (p ∷ []) p first) ∙ all_append (p ∷ []) xs (p ∷ ys)
    ∙ ap (λ l. all_mentioned l ys) (mentioned_there _ p (kept (p ∷ []) xs p first))

-- The R, G and Q of a new node, by their members.
abbrev pub three_where : ℕ → Spec → List ℕ
three_where n c = three_of (relation_where n c.R) (relation_where n c.G) (relation_where n c.Q)

module _ (n : ℕ) (a b : Spec) (x y : Derivation) where
  pub sets_joined : sets_in (joined n a b x y) ≡ all_mentioned (all_mentioned (set_where n (root_spec n a b).P ∷ []) (sets_in x)) (sets_in y)
  unfolding joined members_of sets_in in_order sets_of distinct
  sets_joined =
      again (set_where n (root_spec n a b).P) (in_order sets_of x) (in_order sets_of y)
      ∙ sym (all_distinct_of _ (in_order sets_of y) ∙ ap (λ l. all_mentioned l (in_order sets_of y)) (all_distinct_of _ (in_order sets_of x)))

  pub relations_joined : relations_in (joined n a b x y)
      ≡ all_mentioned (all_mentioned (all_mentioned (all_mentioned (all_mentioned [] (three_where n (root_spec n a b))) (three_where n (left_spec n a b))) (relations_in x))
      (three_where n (right_spec n a b))) (relations_in y)
  unfolding joined members_of relations_in in_order relations_of distinct all_mentioned
  relations_joined =
      let begun = all_mentioned (all_mentioned [] (three_where n (root_spec n a b))) (three_where n (left_spec n a b)) in
      let right = three_where n (right_spec n a b) in
      let later = in_order relations_of y in
      all_append begun (in_order relations_of x) (right ++ later)
      ∙ sym (all_distinct_of _ later ∙ ap (λ l. all_mentioned (all_mentioned l right) later) (all_distinct_of begun (in_order relations_of x)))
