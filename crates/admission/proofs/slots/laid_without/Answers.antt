-- The slots up to the next but those at the place are laid, and the tick is where they end.
use Prim.Native.Nat.{◌≤◌}
use mathlib.Core.Path.{refl, ap, ap₂, ◌∙◌}
use native.Mathlib.Omega.{arith}
use lib.ListN.{length, length-take}
use lib.Seq.{take_all}
use Rattle.frame.specs.Slots.{places, total, others, without, laid_from, frame_of}
use Rattle.admission.proofs.Laying.{few_kept, total_next, room_next, laid_next}
use Rattle.admission.proofs.slots.laid_without.Goals.{After-held-slots}
use Rattle.admission.proofs.slots.laid_without.Goals as goal

-- At most 16 slots are held.
few_held : (c : After-held-slots) → length c.held-slots.result.now ≤ places
few_held c =
    let f = c.args.frame.now in
    omega (arith, c.requires.0, ap length c.held-slots.ensures, length-take f.count f.slots)

pub loop-slot-init : goal.loop-slot-init
unfolding frame_of laid_from others total
loop-slot-init c = record { laid = rw c.no_slots-laid.ensures refl; ends = refl }

pub with_other-laid-requires : goal.with_other-laid-requires
unfolding frame_of
with_other-laid-requires c =
    let l = c.loop-slot in
    let few = few_held (goal.at.with_other-laid-requires c).After-held-slots in
    omega (arith, ap (λ f. f.count) l.invariant.laid, few_kept c.args.place c.held-slots.result.now l.slot-index c.loop-slot-test.true)

pub tick_after-tick-requires : goal.tick_after-tick-requires
tick_after-tick-requires c =
    let l = c.loop-slot in
    let fits = room_next c.args.place c.held-slots.result.now l.slot-index c.loop-slot-test.true in
    omega (arith, l.invariant.ends, fits, ap total c.held-slots.ensures, c.requires.1)

pub loop-slot-preserved : goal.loop-slot-preserved
loop-slot-preserved c =
    let l = c.loop-slot in
    let slots = c.held-slots.result.now in
    let few = few_held (goal.at.loop-slot-preserved c).After-held-slots in
    record {
      laid = c.with_other-laid.ensures
          ∙ laid_next c.args.place slots l.slot-index c.loop-slot-test.true _ _ _ l.invariant.laid l.invariant.ends (omega arith);
      ends = c.tick_after-tick.ensures ∙ total_next c.args.place slots l.slot-index c.loop-slot-test.true _ l.invariant.ends;
    }

pub returns : goal.returns
unfolding frame_of
returns c =
    let l = c.loop-slot in
    let slots = c.held-slots.result.now in
    l.invariant.laid
    ∙ ap₂ (λ n kept. frame_of n (laid_from 0 (without c.args.place kept))) (ap (λ f. f.length) c.no_slots-laid.ensures)
    (take_all l.slot-index slots c.loop-slot-test.false ∙ c.held-slots.ensures)
