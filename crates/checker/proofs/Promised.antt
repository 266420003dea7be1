-- What acceptance promises (docs/RULES.md), for the bytes: an accepted pair is acceptable, so its derivation breaks no condition,
-- and the theorem of semantics applies to what the two files hold.
use Prim.Native.Nat.{ℕ}
use mathlib.Core.Path.{◌≡◌, sym, ◌∙◌, ap, subst}
use mathlib.Core.Bool.{cond}
use mathlib.Core.List.{List}
use lib.ListN.{length}
use Rattle.semantics.specs.States.{machine_of}
use Rattle.semantics.specs.Promise.{Promise}
use Rattle.semantics.proofs.Soundness.{soundness}
use Rattle.derivation.specs.Tables.{written}
use Rattle.pair.specs.declared.Mode.{Mode}
use Rattle.pair.specs.Modes.{tables_in, root_spec}
use Rattle.pair.proofs.Cases.{read_holds}
use Rattle.checker.specs.Verdicts.{Verdict, CheckResult, answer, work_after, AcceptedIsSound}
use Rattle.handler.proofs.Fitting.{stmt_fits}
use Rattle.handler.proofs.Handlers.{known_handler}
use Rattle.checker.proofs.Acceptance.{accepted_exactly}

pub accepted_is_sound : (hb pb : List ℕ) (mode : Mode) (words : ℕ) → AcceptedIsSound hb pb mode (answer hb pb mode words).verdict
accepted_is_sound hb pb mode words = record {
  sound = λ k e.
      let a = (accepted_exactly hb pb mode words k).0 e in
      let x = a.held in
      let read = (read_holds hb pb x a.read).handler_read in
      let kinds = stmt_fits x.statement_bit x.statement (known_handler hb x.sizes x.statement_bit x.statement read).fits in (
        x,
        (
          a.read,
          subst (Promise (machine_of x.sizes) x.statement (root_spec pb mode x)) (sym a.number)
              (soundness (tables_in pb mode x) x.derivation x.statement 0 a.unbroken kinds),
        ),
      );
}

-- If the verdict and the work words are those of the answer, the whole contract holds.
pub promised : (hb pb : List ℕ) (mode : Mode) (work after : List ℕ) (v : Verdict) (a : CheckResult) → answer hb pb mode (length work) ≡ a → v ≡ a.verdict
    → after ≡ cond a.writes (written a.words work) work
    → record { verdict : v ≡ (answer hb pb mode (length work)).verdict; words : after ≡ work_after hb pb mode work; promise : AcceptedIsSound hb pb mode v }
unfolding work_after
promised hb pb mode work after v a is verdict words =
    let v-is : v ≡ (answer hb pb mode (length work)).verdict = verdict ∙ sym (ap (λ x. x.verdict) is) in
    record {
      verdict = v-is;
      words = rw is words;
      promise = subst (AcceptedIsSound hb pb mode) (sym v-is) (accepted_is_sound hb pb mode (length work));
    }
