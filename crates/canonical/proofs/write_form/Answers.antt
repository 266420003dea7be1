-- By cases of what reading the pair found.
use Prim.Native.Nat.{ℕ}
use mathlib.Core.List.{List}
use mathlib.Core.Path.{◌≡◌, sym, ◌∙◌, ap}
use lib.ListN.{length}
use borrow.Author.Rules.{rules}
use Rattle.std.specs.Prelude.{Ok, Err}
use Rattle.checker.specs.Verdicts.{Verdict, unread}
use Rattle.handler.specs.Header.{head_of}
use Rattle.derivation.specs.NodeTable.{node_table}
use Rattle.derivation.specs.Reading.{proof, read_proof}
use Rattle.pair.specs.declared.PairFile.{PairFile}
use Rattle.pair.specs.declared.PairFault.{PairFault}
use Rattle.pair.specs.declared.PairFault.TheVariants.{TooLong, At}
use Rattle.pair.specs.Reading.{states_of, read_pair, pair_file}
use Rattle.pair.proofs.Cases.{read_holds}
use Rattle.pair.proofs.Found.{FoundPair, found_long, found_fault, found_pair}
use Rattle.form.specs.Members.{by_members}
use Rattle.form.specs.Form.{form_of}
use Rattle.canonical.specs.Canonical.{form, form_in, canonical, outcome, out_after}
use Rattle.canonical.specs.Refinement.{Read}
use Rattle.canonical.proofs.Outcomes.{turned_away_lem}
use Rattle.canonical.proofs.write_form.Goals as goal

-- The pair that was found, and its proof file as it is lent.
module _ (hb pb : List ℕ) (file : PairFile) (is : pair_file (read_pair hb pb) ≡ Ok file) where
  read : FoundPair (read_pair hb pb) file
  read = found_pair _ _ is

  states : file.head.states ≡ states_of read.held
  unfolding head_of
  states = ap (λ y. y.head.states) read.kept

  unfoldable lent : Read pb file.head.states file.read.proof file.nodes
  lent =
      let f = read in
      let d = f.held.derivation in
      record {
        d = d;
        read = ap (read_proof pb) states ∙ (read_holds hb pb f.held f.read).proof_read
            ∙ ap (λ y. proof y.read.proof.sets y.read.proof.relations y.read.proof.root d) (sym f.kept);
        counted = ap (λ y. y.read.proof.nodes) f.kept;
        table = ap (λ y. y.nodes) f.kept ∙ ap (λ y. node_table y.read.proof.root d) (sym f.kept);
      }

  -- Its form.
  formed : form (form_of file.head.states (by_members pb file.head.states file.read.proof.sets lent.d)) ≡ canonical hb pb
  unfolding canonical lent
  formed =
      (λ j. form (form_of (states j) (by_members pb (states j) (read.kept j).read.proof.sets read.held.derivation)))
      ∙ sym (ap (form_in pb) read.read)

-- Where the pair is not read, its fault is given and nothing is written.
not_read : (hb pb out : List ℕ) (fault : PairFault) → pair_file (read_pair hb pb) ≡ Err fault → (v : Verdict) → v ≡ Err (unread fault)
    → record { answer : v ≡ outcome (canonical hb pb) (length out); bytes : out ≡ out_after (canonical hb pb) out }
unfolding canonical
not_read hb pb out TooLong is v said =
    let answer = turned_away_lem _ _ _ out (ap (form_in pb) (found_long _ is)) in
    record { answer = said ∙ answer.0; bytes = answer.1 }
not_read hb pb out (At fault) is v said =
    let answer = turned_away_lem _ _ _ out (ap (form_in pb) (found_fault _ _ is)) in
    record { answer = said ∙ answer.0; bytes = answer.1 }

pub write_read-requires : goal.write_read-requires
write_read-requires c = lent c.args.handler.now c.args.proof.now _ (sym c.read_pair.ensures ∙ c.in_ok-file.was)

pub returns : goal.returns
returns c =
    let a = c.args in
    let is = sym c.read_pair.ensures ∙ c.in_ok-file.was in
    let x = lent a.handler.now a.proof.now _ is in
    let made = formed a.handler.now a.proof.now _ is in
    record {
      answer = c.write_read.ensures.answer x ∙ ap (λ o. outcome o (length a.out.now)) made;
      bytes = c.write_read.ensures.bytes x ∙ ap (λ o. out_after o a.out.now) made;
    }

pub returns-in_err-file : goal.returns-in_err-file
returns-in_err-file c =
    let a = c.args in
    let said : c.from_residual.result ≡ Err (unread c.in_err-file.field-0.0) = search rules in
    not_read a.handler.now a.proof.now a.out.now _ (sym c.read_pair.ensures ∙ c.in_err-file.was) _ said
