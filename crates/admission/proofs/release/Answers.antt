-- Each refusal is the first reason that is there; with none, the gap is closed.
use mathlib.Core.Bool.{true, false, not}
use mathlib.Core.Path.{◌≡◌, sym, ap, ◌∙◌}
use borrow.Author.Tests.{lt-ltb, le-ltb}
use lib.Dec.{ltb}
use Rattle.std.specs.Prelude.{Ok}
use Rattle.frame.specs.declared.Frame.{Frame}
use Rattle.frame.specs.Slots.{held, holds, well_formed}
use Rattle.frame.proofs.Frames.{well}
use Rattle.frame.proofs.Calls.{no_such_guest, not_taken, ill_formed, may_go, not_released, gap_closed}
use Rattle.admission.proofs.Looking.{found_some}
use Rattle.admission.proofs.release.Goals.{After-laid, Else-is_none}
use Rattle.admission.proofs.release.Goals as goal

-- What is known when the record is looked at: there is the place, and it is taken.
there : (c : After-laid) → ltb 15 c.args.place ≡ false
there c = le-ltb _ _ c.if-place-gt-LAST_PLACE.false

held_there : (c : After-laid) → holds c.args.place (held c.args.frame.now) ≡ true
held_there c = sym c.is_taken.ensures ∙ c.if-not-is_taken.false

-- After the look at the record the guest may go.
well_formed_lem : (c : Else-is_none) → well_formed c.args.frame.now ≡ true
well_formed_lem c = sym (found_some _ _ _ c.laid.ensures) ∙ c.is_none.ensures ∙ ap not c.if-is_none.false

pub returns-then-place-gt-LAST_PLACE : goal.returns-then-place-gt-LAST_PLACE
returns-then-place-gt-LAST_PLACE c =
    let a = c.args in
    sym (not_released a.frame.now a.place _ (no_such_guest a.frame.now a.place (lt-ltb _ _ c.if-place-gt-LAST_PLACE.true)))

pub returns-then-not-is_taken : goal.returns-then-not-is_taken
returns-then-not-is_taken c =
    let a = c.args in
    let there = le-ltb _ _ c.if-place-gt-LAST_PLACE.false in
    let free = sym c.is_taken.ensures ∙ c.if-not-is_taken.true in
    sym (not_released a.frame.now a.place _ (not_taken a.frame.now a.place there free))

pub returns-then-is_none : goal.returns-then-is_none
returns-then-is_none c =
    let a = c.args in
    let at = (goal.at.returns-then-is_none c).After-laid in
    let ill = sym (found_some _ _ _ c.laid.ensures) ∙ c.is_none.ensures ∙ ap not c.if-is_none.true in
    sym (not_released a.frame.now a.place _ (ill_formed a.frame.now a.place (there at) (held_there at) ill))

pub laid_without-requires : goal.laid_without-requires
laid_without-requires c =
    let known = well _ (well_formed_lem (goal.at.laid_without-requires c).Else-is_none) in
    (known.few_slots, known.within)

pub returns : goal.returns
returns c =
    let a = c.args in
    let at = (goal.at.returns c).After-laid in
    ap (λ (g : Frame). record { frame = g; answer = Ok tt }) c.laid_without.ensures
    ∙ sym (gap_closed a.frame.now a.place (may_go a.frame.now a.place (there at) (held_there at) (well_formed_lem (goal.at.returns c).Else-is_none)))
