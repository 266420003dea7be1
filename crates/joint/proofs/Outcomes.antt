-- Which answers the composition of two pairs of files gives: files are made if every test holds; otherwise the answer is that of the first
-- test that fails.
use Rattle.std.specs.Prelude.{Ok, Err}
use Prim.Native.Nat.{ℕ, ◌+◌}
use mathlib.Core.Bool.{Bool, true, false, cond}
use mathlib.Core.List.{List}
use mathlib.Core.Path.{◌≡◌, refl, ◌∙◌}
use lib.Dec.{ltb}
use Rattle.derivation.specs.Tables.{work_words}
use Rattle.pair.specs.Limits.{too_long}
use Rattle.pair.specs.Modes.{rows}
use Rattle.checker.specs.declared.Fault.{Fault}
use Rattle.checker.specs.Verdicts.{Verdict, answer}
use Rattle.joint.specs.Composing.{Side, side_of, Composition, made, refused, plain, same_sizes, handler_file, proof_file, in_limits, second_allowed, first_allowed, met_p_kept, composition, of_pair, compose}

-- What holds of both answers, each where the test gives it, holds of the one that is chosen.
tested : {A : Type 0} (P : A → Type 0) (t : Bool) (x y : A) → (t ≡ true → P x) → (t ≡ false → P y) → P (cond t x y)
tested P true x y held failed = held refl
tested P false x y held failed = failed refl

module _ (h p h' p' : List ℕ) where
  abbrev a : Side
  a = side_of h p

  abbrev b : Side
  b = side_of h' p'

  -- 90 to 94, on what is taken from both pairs.
  abbrev pub same_variables : Bool
  same_variables = same_sizes a.sizes b.sizes

  abbrev pub second_in_first : Bool
  second_in_first = second_allowed h h' a b

  abbrev pub first_in_second : Bool
  first_in_second = first_allowed h h' a b

  abbrev pub both_stay : Bool
  both_stay = met_p_kept h h' a b

  abbrev pub within_limits : ℕ → Bool
  within_limits k = in_limits h h' a b k

  -- What is made.
  abbrev pub handler_out : List ℕ
  handler_out = handler_file h h' a b

  abbrev pub proof_out : List ℕ
  proof_out = proof_file h h' a b

  module _ (words : ℕ) where
    -- The tests that both pairs pass: 1 and 2, then the check, then 90 to 93.
    pub record Readable : Type 0 where
      pub enough : ltb words work_words ≡ false
      pub first_short : too_long h p ≡ false
      pub second_short : too_long h' p' ≡ false

    pub record BothAccepted : Type 0 where
      pub readable : Readable
      pub first_steps : ℕ
      pub first : (answer h p rows words).verdict ≡ Ok first_steps
      pub second_steps : ℕ
      pub second : (answer h' p' rows words).verdict ≡ Ok second_steps

    -- Both step numbers plus 1.
    abbrev pub steps_out : BothAccepted → ℕ
    steps_out both = both.first_steps + both.second_steps + 1

    pub record Compatible : Type 0 where
      pub both_accepted : BothAccepted
      pub same_variables_lem : same_variables ≡ true
      pub second_in_first_lem : second_in_first ≡ true
      pub first_in_second_lem : first_in_second ≡ true
      pub both_stay_lem : both_stay ≡ true

    -- What is known where files are made.
    pub record Success (k : ℕ) (hout pout : List ℕ) : Type 0 where
      pub compatible : Compatible
      pub steps_are : k ≡ steps_out compatible.both_accepted
      pub within_limits_lem : within_limits k ≡ true
      pub handler_is : hout ≡ handler_out
      pub proof_is : pout ≡ proof_out

    -- What is known where nothing is made, by the pair and the fault: a test failed, and those before it held.
    pub data Refusal : ℕ → Fault → Type 0 where
      few_words : ltb words work_words ≡ true → Refusal 0 (plain 1)
      first_long : ltb words work_words ≡ false → too_long h p ≡ true → Refusal 1 (plain 2)
      second_long : ltb words work_words ≡ false → too_long h p ≡ false → too_long h' p' ≡ true → Refusal 2 (plain 2)
      first_refused : Readable → (f : Fault) → (answer h p rows words).verdict ≡ Err f → Refusal 1 f
      second_refused : Readable → (k : ℕ) → (answer h p rows words).verdict ≡ Ok k
          → (f : Fault) → (answer h' p' rows words).verdict ≡ Err f → Refusal 2 f
      other_variables : BothAccepted → same_variables ≡ false → Refusal 0 (plain 90)
      second_outside : BothAccepted → same_variables ≡ true → second_in_first ≡ false → Refusal 0 (plain 91)
      first_outside : BothAccepted → same_variables ≡ true → second_in_first ≡ true → first_in_second ≡ false → Refusal 0 (plain 92)
      leads_out : BothAccepted → same_variables ≡ true → second_in_first ≡ true → first_in_second ≡ true → both_stay ≡ false
          → Refusal 0 (plain 93)
      past_limits : (c : Compatible) → within_limits (steps_out c.both_accepted) ≡ false → Refusal 0 (plain 94)

    abbrev Explained : Composition → Type 0
    Explained (made k hout pout) = Success k hout pout
    Explained (refused pair f) = Refusal pair f

    abbrev together : ℕ → ℕ → Composition
    together k k' = composition h h' (side_of h p) (side_of h' p') (k + k' + 1)

    by_both : (both : BothAccepted) → Explained (together both.first_steps both.second_steps)
    unfolding composition
    by_both both =
        tested Explained same_variables _ _ (λ e90. tested Explained second_in_first _ _ (λ e91. tested Explained first_in_second _ _ (λ e92.
        tested Explained both_stay _ _ (λ e93.
        let c : Compatible =
        record { both_accepted = both; same_variables_lem = e90; second_in_first_lem = e91; first_in_second_lem = e92; both_stay_lem = e93 }
        in
        tested Explained (within_limits (steps_out both)) _ _ (λ e94.
        record { compatible = c; steps_are = refl; within_limits_lem = e94; handler_is = refl; proof_is = refl })
        (past_limits c)) (leads_out both e90 e91 e92)) (first_outside both e90 e91)) (second_outside both e90)) (other_variables both)

    by_second : Readable → (k : ℕ) → (answer h p rows words).verdict ≡ Ok k
        → (v : Verdict) → (answer h' p' rows words).verdict ≡ v → Explained (of_pair 2 v (together k))
    by_second r k e (Ok j) e' = by_both (record { readable = r; first_steps = k; first = e; second_steps = j; second = e' })
    by_second r k e (Err f) e' = second_refused r k e f e'

    by_first : Readable → (v : Verdict) → (answer h p rows words).verdict ≡ v
        → Explained (of_pair 1 v (λ k. of_pair 2 (answer h' p' rows words).verdict (together k)))
    by_first r (Ok k) e = by_second r k e (answer h' p' rows words).verdict refl
    by_first r (Err f) e = first_refused r f e

    explained : Explained (compose h p h' p' words)
    unfolding compose
    explained =
        tested Explained (ltb words work_words) _ _ few_words (λ e. tested Explained (too_long h p) _ _ (first_long e) (λ f.
        tested Explained (too_long h' p') _ _ (second_long e f) (λ g.
        by_first (record { enough = e; first_short = f; second_short = g }) (answer h p rows words).verdict refl)))

    pub succeeded : (k : ℕ) (hout pout : List ℕ) → compose h p h' p' words ≡ made k hout pout → Success k hout pout
    succeeded k hout pout e = rw e at explained

    pub refused_only : (pair : ℕ) (f : Fault) → compose h p h' p' words ≡ refused pair f → Refusal pair f
    refused_only pair f e = rw e at explained

    -- And conversely.
    past_files : Readable
        → compose h p h' p' words ≡ of_pair 1 (answer h p rows words).verdict (λ k. of_pair 2 (answer h' p' rows words).verdict (together k))
    unfolding compose
    past_files r = rw (r.enough, r.first_short, r.second_short)

    past_checks : (both : BothAccepted) → compose h p h' p' words ≡ together both.first_steps both.second_steps
    past_checks both = past_files both.readable ∙ rw (both.first, both.second)

    pub refused_back : {pair : ℕ} {f : Fault} → Refusal pair f → compose h p h' p' words ≡ refused pair f
    unfolding compose composition
    refused_back (few_words e) = rw e
    refused_back (first_long e f) = rw (e, f)
    refused_back (second_long e f g) = rw (e, f, g)
    refused_back (first_refused r f e) = past_files r ∙ rw e
    refused_back (second_refused r k e f e') = past_files r ∙ rw (e, e')
    refused_back (other_variables both e) = past_checks both ∙ rw e
    refused_back (second_outside both e f) = past_checks both ∙ rw (e, f)
    refused_back (first_outside both e f g) = past_checks both ∙ rw (e, f, g)
    refused_back (leads_out both e f g i) = past_checks both ∙ rw (e, f, g, i)
    refused_back (past_limits c e) =
        past_checks c.both_accepted ∙ rw (c.same_variables_lem, c.second_in_first_lem, c.first_in_second_lem, c.both_stay_lem, e)

    pub succeeded_back : (k : ℕ) (hout pout : List ℕ) → Success k hout pout → compose h p h' p' words ≡ made k hout pout
    unfolding composition
    succeeded_back k hout pout s =
        let c = s.compatible in
        let within : within_limits (steps_out c.both_accepted) ≡ true = rw (← s.steps_are) s.within_limits_lem in
        rw (s.steps_are, s.handler_is, s.proof_is)
        (past_checks c.both_accepted ∙ rw (c.same_variables_lem, c.second_in_first_lem, c.first_in_second_lem, c.both_stay_lem, within))
