-- Each return of the check is a case of the answer, so verdict, words and promise follow together (`promised`).
use Prim.Native.Nat.{ℕ, ◌≤◌}
use mathlib.Core.Path.{◌≡◌, refl, sym, ◌∙◌, ap}
use native.Mathlib.Omega.{arith}
use lib.ListN.{length, replicate, length-replicate}
use Rattle.pair.specs.Reading.{read_pair, pair_file}
use Rattle.pair.specs.Modes.{work_read}
use Rattle.pair.proofs.Found.{found_long, found_fault, found_pair}
use Rattle.checker.specs.Refinement.{Loaded}
use Rattle.checker.proofs.Judging.{few_words, as_read, writes}
use Rattle.checker.proofs.Promised.{promised}
use mathlib.Core.List.{List}
use Rattle.pair.specs.declared.Mode.{Mode}
use Rattle.pair.specs.declared.PairFile.{PairFile}
use Rattle.pair.specs.declared.PairFault.{PairFault}
use Rattle.pair.specs.declared.PairFault.TheVariants.{TooLong, At}
use Rattle.std.specs.Prelude.{Ok, Err}
use Rattle.checker.specs.Verdicts.{Verdict, unread, answer, work_after, AcceptedIsSound}
use Rattle.pair.specs.Reading.{terms_read}
use Rattle.derivation.specs.Tables.{work_words}
use Rattle.checker.proofs.check.Goals as goal

-- The pair that was found, as it is lent to the check of it.
unfoldable lent : (hb pb : List ℕ) (mode : Mode) (before exprs work : List ℕ) (f : PairFile) → Ok f ≡ pair_file (read_pair hb pb)
    → exprs ≡ terms_read hb pb (replicate 1953 0) → work ≡ work_read pb mode (read_pair hb pb) before → work_words ≤ length before
    → Loaded exprs f.head f.statements f.nodes f.read work
unfolding work_read
lent hb pb mode before exprs work f answered terms tables enough =
    let g = found_pair (read_pair hb pb) f (sym answered) in
    record {
      handler = hb;
      proof = pb;
      mode = mode;
      held = g.held;
      read = g.read;
      blank = replicate 1953 0;
      room = omega (arith, length-replicate {A = ℕ} 1953 0);
      exprs_are = terms;
      head_is = ap (λ y. y.head) g.kept;
      statements_are = ap (λ y. y.statements) g.kept;
      nodes_are = ap (λ y. y.nodes) g.kept;
      summary = ap (λ y. y.read) g.kept;
      before = before;
      enough = enough;
      words = rw g.read at tables;
    }

-- Where the pair is not read, the fault is that of the answer.
not_read : (hb pb : List ℕ) (mode : Mode) (before work : List ℕ) (fault : PairFault) → pair_file (read_pair hb pb) ≡ Err fault
    → work ≡ work_read pb mode (read_pair hb pb) before → work_words ≤ length before → (v : Verdict) → v ≡ Err (unread fault)
    → record { verdict : v ≡ (answer hb pb mode (length before)).verdict; words : work ≡ work_after hb pb mode before; promise : AcceptedIsSound hb pb mode v }
unfolding work_read
not_read hb pb mode before work TooLong is tables enough v said =
    let read = found_long _ is in
    promised hb pb mode before _ _ _ (as_read _ _ _ _ enough _ read) said (rw read at tables)
not_read hb pb mode before work (At fault) is tables enough v said =
    let read = found_fault _ _ is in
    promised hb pb mode before _ _ _ (as_read _ _ _ _ enough _ read) said (rw read at tables)

pub returns-then-work-lt-WORK_WORDS : goal.returns-then-work-lt-WORK_WORDS
returns-then-work-lt-WORK_WORDS c =
    let a = c.args in
    promised a.handler.now a.proof.now a.mode a.work.now _ _ _ (few_words _ _ _ _ c.if-work-lt-WORK_WORDS.true) (ap Err c.at_bit.ensures) refl

pub returns-in-Err : goal.returns-in-Err
returns-in-Err c =
    let a = c.args in
    not_read a.handler.now a.proof.now a.mode a.work.now _ _ (sym c.load_pair.ensures.answer ∙ c.in-Err.is) c.load_pair.ensures.tables
    c.if-work-lt-WORK_WORDS.false _ (ap Err c.from.ensures)

pub check_read-requires : goal.check_read-requires
check_read-requires c =
    let a = c.args in
    let p = c.load_pair in
    lent a.handler.now a.proof.now a.mode a.work.now _ _ c.in-Ok.file (sym c.in-Ok.is ∙ p.ensures.answer) p.ensures.terms p.ensures.tables
    c.if-work-lt-WORK_WORDS.false

pub returns-in-Ok : goal.returns-in-Ok
unfolding lent
returns-in-Ok c =
    let a = c.args in
    let p = c.load_pair in
    let l = lent a.handler.now a.proof.now a.mode a.work.now _ _ c.in-Ok.file (sym c.in-Ok.is ∙ p.ensures.answer) p.ensures.terms p.ensures.tables
    c.if-work-lt-WORK_WORDS.false in
    promised a.handler.now a.proof.now a.mode a.work.now _ _ _ (as_read _ _ _ _ c.if-work-lt-WORK_WORDS.false _ l.read)
    (c.check_read.ensures.verdict l) (rw (writes a.proof.now a.mode l.held) (c.check_read.ensures.words l))
