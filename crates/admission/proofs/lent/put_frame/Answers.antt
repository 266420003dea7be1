-- After i turns the numbers up to slot i are the record's; `numbers_next` adds the three of slot i.
use mathlib.Core.List.{[], ◌∷◌}
use mathlib.Core.Path.{◌≡◌, sym, ap, ◌∙◌}
use native.Mathlib.Omega.{arith}
use borrow.Author.Rules.{rules}
use lib.ListN.{length, length-set}
use lib.Seq.{take_all}
use Rattle.frame.specs.Slots.{places}
use Rattle.frame.specs.Lent.{frame_in, slot_numbers, numbers_of}
use Rattle.frame.proofs.Lent.{take_sets, numbers_next, read_back}
use Rattle.admission.proofs.Arrays.{length_of_mapped}
use Rattle.admission.proofs.lent.put_frame.Goals.{At-loop-i}
use Rattle.admission.proofs.lent.put_frame.Goals as goal

-- The record has 16 slots.
all_slots : (c : At-loop-i) → length c.args.frame.slots ≡ places
all_slots c = search (rules, length_of_mapped)

pub loop-i-init : goal.loop-i-init
unfolding slot_numbers
loop-i-init c =
    let a = c.args in
    record {
      long = simp length-set (omega arith);
      written = take_sets (a.frame.length ∷ a.frame.count ∷ []) a.numbers.now 0 (omega arith);
    }

pub loop-i-preserved : goal.loop-i-preserved
unfolding slot_numbers
loop-i-preserved c =
    let full = all_slots (goal.at.loop-i-preserved c).At-loop-i in
    record {
      long = c.put_slot.auto.numbers ∙ c.loop-i.invariant.long;
      written = rw c.put_slot.ensures
          (numbers_next _ _ c.args.frame.slots c.loop-i.numbers c.loop-i.i (omega arith) (omega arith) c.loop-i.invariant.written);
    }

pub returns : goal.returns
unfolding numbers_of
returns c =
    let l = c.loop-i in
    let all : l.i ≡ places = omega arith in
    let full = all_slots (goal.at.returns c).At-loop-i in
    let written : l.numbers ≡ numbers_of c.args.frame =
    sym (take_all 50 l.numbers (omega arith)) ∙ (rw all at l.invariant.written) ∙ rw (take_all 16 c.args.frame.slots (omega arith)) in
    record { numbers = written; read = ap frame_in written ∙ read_back c.args.frame full }
