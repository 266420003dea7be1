-- The first refusals, and what is promised of files that were written.
use Rattle.std.specs.Prelude.{Ok}
use Prim.Native.Nat.{ℕ, ◌≤◌, ◌<◌}
use mathlib.Core.Bool.{Bool, true, false, ◌&&◌}
use mathlib.Core.List.{List, ◌++◌}
use mathlib.Core.Path.{◌≡◌, refl, sym, subst}
use native.Mathlib.Omega.{arith}
use borrow.Author.Tests.{lt-ltb, le-ltb}
use lib.Dec.{leb}
use lib.ListN.{length, take, drop}
use lib.Seq.{take_at}
use Rattle.std.specs.Prelude.{Err}
use Rattle.derivation.specs.Tables.{work_words}
use Rattle.pair.specs.Limits.{too_long}
use Rattle.pair.specs.Modes.{rows}
use Rattle.checker.specs.declared.Fault.{Fault}
use Rattle.checker.specs.Verdicts.{answer}
use Rattle.composition.specs.declared.Made.{Made}
use Rattle.joint.specs.Composing.{Composition, made, refused, plain, asked, compose, work_after, with_room, compose_into, handler_after, proof_after}
use Rattle.composition.specs.Answers.{Composed, turned, composed, MadeIsAccepted}
use Rattle.joint.proofs.Theorems.{made_accepted}

module _ (h p h' p' : List ℕ) (work : List ℕ) where
  pub few_words : length work < work_words → (compose h p h' p' (length work) ≡ refused 0 (plain 1)) × (work_after h p h' p' work ≡ work)
  unfolding compose work_after
  few_words few = (rw (lt-ltb (length work) work_words few), rw (lt-ltb (length work) work_words few))

  module _ (enough : work_words ≤ length work) where
    pub first_long : too_long h p ≡ true → (compose h p h' p' (length work) ≡ refused 1 (plain 2)) × (work_after h p h' p' work ≡ work)
    unfolding compose work_after
    first_long long = (rw (le-ltb (length work) work_words enough, long), rw (le-ltb (length work) work_words enough, long))

    pub second_long : too_long h p ≡ false → too_long h' p' ≡ true
        → (compose h p h' p' (length work) ≡ refused 2 (plain 2)) × (work_after h p h' p' work ≡ work)
    unfolding compose work_after
    second_long short long = (rw (le-ltb (length work) work_words enough, short, long), rw (le-ltb (length work) work_words enough, short, long))

module _ (h p h' p' : List ℕ) (words : ℕ) (hout pout : List ℕ) where
  abbrev whole : Composition
  whole = with_room (compose h p h' p' words) (length hout) (length pout)

  abbrev Promised : Composition → Type 0
  Promised o = MadeIsAccepted (composed o) (handler_after o hout) (proof_after o pout)

  refused_promised : (pair : ℕ) (f : _) → Promised (refused pair f)
  refused_promised pair f = record { always = λ m e. absurd (let z : ◌≡◌ {A = ℕ} 0 1 = cc in omega arith) }

  made_promised : (k : ℕ) (H P : List ℕ) → compose h p h' p' words ≡ made k H P → Promised (made k H P)
  made_promised k H P e = record {
    always = λ m is words' enough.
        let same : record { steps = k; handler = length H; proof = length P } ≡ m = cc in
        subst (λ (x : Made). (answer (take x.handler (H ++ drop (length H) hout)) (take x.proof (P ++ drop (length P) pout)) rows words').verdict ≡ Ok x.steps) same
        (rw (take_at H (drop (length H) hout) (length H) refl, take_at P (drop (length P) pout) (length P) refl)
        (made_accepted h p h' p' words k H P e words' enough));
  }

  promised : Promised whole
  unfolding with_room
  promised = by (compose h p h' p' words) refl
    where
      room : (k : ℕ) (H P : List ℕ) → compose h p h' p' words ≡ made k H P → (t : Bool) → Promised (asked 95 t (made k H P))
      room k H P e true = made_promised k H P e
      room k H P e false = refused_promised 0 (plain 95)

      by : (o : Composition) → compose h p h' p' words ≡ o → Promised (with_room o (length hout) (length pout))
      by (refused pair f) e = refused_promised pair f
      by (made k H P) e = room k H P e (leb (length H) (length hout) && leb (length P) (length pout))

-- The contract of `compose`: its answer, and the three buffers at exit.
module _ (h p h' p' work hout pout : List ℕ) where
  abbrev Contract : Composed → List ℕ → List ℕ → List ℕ → Type 0
  Contract r words H P =
      (r ≡ composed (compose_into h p h' p' work hout pout)) × ((words ≡ work_after h p h' p' work)
      × ((H ≡ handler_after (compose_into h p h' p' work hout pout) hout) × ((P ≡ proof_after (compose_into h p h' p' work hout pout) pout)
      × MadeIsAccepted r H P)))

  -- The promise follows from the rest.
  pub contract : (r : Composed) (words H P : List ℕ)
      → r ≡ composed (compose_into h p h' p' work hout pout) → words ≡ work_after h p h' p' work
      → H ≡ handler_after (compose_into h p h' p' work hout pout) hout → P ≡ proof_after (compose_into h p h' p' work hout pout) pout
      → Contract r words H P
  contract r words H P e₁ e₂ e₃ e₄ = (e₁, (e₂, (e₃, (e₄, rw (e₁, e₃, e₄) (promised h p h' p' (length work) hout pout)))))

  -- A refusal that writes nothing.
  pub untouched : (pair : ℕ) (f : Fault) → (compose h p h' p' (length work) ≡ refused pair f) × (work_after h p h' p' work ≡ work)
      → (r : Composed) → r ≡ Err (turned pair f) → Contract r work hout pout
  unfolding with_room
  untouched pair f e r is = contract r work hout pout (rw e.0 is) (sym e.1) (rw e.0) (rw e.0)
