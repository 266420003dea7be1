-- The record is laid again with nothing left out, and the slot comes last.
use mathlib.Core.List.{[], ◌∷◌, ◌++◌}
use mathlib.Core.Path.{refl, sym, ap, ◌∙◌}
use native.Mathlib.Omega.{arith}
use Rattle.frame.specs.declared.Frame.{Frame}
use Rattle.std.specs.Prelude.{Ok}
use Rattle.frame.specs.Slots.{held, frame_of}
use Rattle.frame.proofs.Frames.{Well, well}
use Rattle.frame.proofs.Calls.{no_room, has_room}
use Rattle.admission.proofs.Laying.{slot_left, comes_last}
use Rattle.admission.proofs.grant.Goals.{Start}
use Rattle.admission.proofs.grant.Goals as goal

well_formed_lem : (c : Start) → Well c.args.frame.now
well_formed_lem c = well c.args.frame.now c.requires.0

pub overflow_sub-room : goal.overflow_sub-room
overflow_sub-room c = omega (arith, (well_formed_lem (goal.at.overflow_sub-room c).Start).within)

pub returns-then-need-room : goal.returns-then-need-room
returns-then-need-room c =
    let a = c.args in
    let w = well_formed_lem (goal.at.returns-then-need-room c).Start in
    sym (no_room a.frame.now a.place a.need (omega (arith, w.within)))

pub laid_without-kept-requires : goal.laid_without-kept-requires
laid_without-kept-requires c =
    let w = well_formed_lem (goal.at.laid_without-kept-requires c).Start in
    (w.few_slots, w.within)

pub added-requires : goal.added-requires
added-requires c =
    let a = c.args in
    let w = well_formed_lem (goal.at.added-requires c).Start in
    slot_left a.frame.now w a.place c.requires.1 (record { place = a.place; first = 0; length = 0 }) c.requires.2 refl _ c.laid_without-kept.ensures

pub returns : goal.returns
returns c =
    let a = c.args in
    let w = well_formed_lem (goal.at.returns c).Start in
    ap (λ (g : Frame). record { frame = g; answer = Ok tt })
    (c.added.ensures
    ∙ comes_last a.frame.now w a.place c.requires.1 (record { place = a.place; first = a.end; length = a.need }) c.requires.2 refl _ c.laid_without-kept.ensures
    ∙ ap (λ end. frame_of a.frame.now.length (held a.frame.now ++ (record { place = a.place; first = end; length = a.need } ∷ []))) c.requires.3)
    ∙ sym (has_room a.frame.now a.place a.need (omega (arith, w.within)))
