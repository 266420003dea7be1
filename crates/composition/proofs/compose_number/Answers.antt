-- The number of the answer, which it determines but for the states (`number_decoded`); so the promise is that of what is decoded.
use mathlib.Core.Path.{sym, ◌∙◌, ap, subst}
use Rattle.composition.specs.Coding.{number_of, of_number}
use Rattle.composition.specs.Refinement.{Small}
use Rattle.composition.proofs.Decoding.{answer_small, number_decoded, number_promised}
use Rattle.composition.proofs.compose_number.Goals as goal

pub number_of-requires : goal.number_of-requires
number_of-requires c = subst Small (sym c.compose.ensures.answer) (answer_small _ _ _ _ _ _ _)

pub returns : goal.returns
returns c = let k = c.compose in
    let a = c.args in
    let number = c.number_of.ensures ∙ ap number_of k.ensures.answer in
    let answer = ap of_number number ∙ number_decoded a.h1.now a.p1.now a.h2.now a.p2.now a.work.now a.hout.now a.pout.now in
    let accepted = number_promised a.h1.now a.p1.now a.h2.now a.p2.now a.work.now a.hout.now a.pout.now _ _ _ k.ensures.answer k.ensures.accepted in
    record {
      number = number;
      answer = answer;
      words = k.ensures.words;
      handler = k.ensures.handler;
      proof = k.ensures.proof;
      accepted = rw c.number_of.ensures accepted;
    }
