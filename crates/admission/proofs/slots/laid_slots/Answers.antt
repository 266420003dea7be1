-- The slots up to slot i lie end to end, and the tick is where they end.
use Prim.Native.Nat.{ℕ, ◌+◌, ◌-◌, ◌≤◌}
use mathlib.Core.Bool.{true, false}
use mathlib.Core.List.{List, [], ◌∷◌}
use native.Mathlib.Numerals.{add-one}
use mathlib.Core.Path.{◌≡◌, sym, ap, ap₂, ◌∙◌}
use native.Mathlib.Omega.{arith}
use borrow.Author.Tests.{leb-true}
use lib.Dec.{ltb, eqb}
use lib.ListN.{length, get_or, take, drop, drop_of_length-le, length-drop}
use lib.Seq.{drop-cons, take_all}
use Rattle.states.proofs.Search.{and_left, and_right}
use Rattle.std.specs.Prelude.{None}
use Rattle.frame.specs.declared.Slot.{Slot}
use Rattle.frame.specs.Slots.{places, total, holds, laid_within, no_slot}
use Rattle.admission.specs.Refinement.{laid_found}
use Rattle.admission.proofs.Looking.{laid_none, Lies, laid_on, laid_not, laid_twice}
use Rattle.admission.proofs.slots.laid_slots.Goals.{Else-not-lies_at, In-loop-i}
use Rattle.admission.proofs.slots.laid_slots.Goals as goal

-- The slots from slot i on begin with slot i.
next : (c : In-loop-i) →
    let slots = c.args.slots.now in
    drop c.loop-i.i slots ≡ get_or slots c.loop-i.i no_slot ∷ drop (c.loop-i.i + 1) slots
next c = drop-cons c.args.slots.now c.loop-i.i no_slot (omega arith) ∙ ap (λ k. get_or c.args.slots.now c.loop-i.i no_slot ∷ drop k c.args.slots.now) (sym (add-one c.loop-i.i))

-- What a slice from slot i + 1 on has.
after : (slots : List Slot) (k : ℕ) → take (length slots - k) (drop k slots) ≡ drop k slots
after slots k = take_all (length slots - k) (drop k slots) (omega (arith, length-drop k slots))

-- Slots of which slot i is wrong do not lie end to end.
wrong : (c : In-loop-i) →
    let slots = c.args.slots.now in
    laid_within c.args.length c.loop-i.tick (get_or slots c.loop-i.i no_slot ∷ drop (c.loop-i.i + 1) slots) ≡ false
    → None ≡ laid_found (laid_within c.args.length 0 slots) (total slots)
wrong c h =
    let slots = c.args.slots.now in
    let none = sym c.loop-i.invariant.decide ∙ ap (laid_within c.args.length c.loop-i.tick) (next c) ∙ h in
    ap (λ b. laid_found b (total slots)) (sym none)

-- Slot i is right, so it ends within the frame, and the slots after it decide.
right : (c : Else-not-lies_at) → Lies c.args.length c.loop-i.tick (get_or c.args.slots.now c.loop-i.i no_slot) ≡ true
right c = sym c.lies_at.ensures ∙ c.if-not-lies_at.false

room : (c : Else-not-lies_at) → c.loop-i.tick + (get_or c.args.slots.now c.loop-i.i no_slot).length ≤ c.args.length
room c =
    let s = get_or c.args.slots.now c.loop-i.i no_slot in
    leb-true _ _ (and_right (eqb s.first c.loop-i.tick) _ (and_left _ (ltb s.place places) (right c)))

pub returns-then-not-lies_at : goal.returns-then-not-lies_at
returns-then-not-lies_at c =
    wrong (goal.at.returns-then-not-lies_at c).In-loop-i (laid_not _ _ _ _ (sym c.lies_at.ensures ∙ c.if-not-lies_at.true))

pub returns-then-holds : goal.returns-then-holds
returns-then-holds c =
    wrong (goal.at.returns-then-holds c).In-loop-i (laid_twice _ _ _ _ (ap (holds _) (sym (after c.args.slots.now (c.loop-i.i + 1))) ∙ sym c.holds.ensures ∙ c.if-holds.true))

pub overflow_add-tick : goal.overflow_add-tick
overflow_add-tick c = omega (arith, room (goal.at.overflow_add-tick c).Else-not-lies_at)

pub loop-i-preserved : goal.loop-i-preserved
unfolding total
loop-i-preserved c =
    let at = (goal.at.loop-i-preserved c).In-loop-i in
    let past = (goal.at.loop-i-preserved c).Else-not-lies_at in
    let alone = ap (holds _) (sym (after c.args.slots.now (c.loop-i.i + 1))) ∙ sym c.holds.ensures ∙ c.if-holds.false in
    record {
      inside = room past;
      ticks = omega (arith, ap total (next at), c.loop-i.invariant.ticks);
      decide = sym (laid_on _ _ _ _ (right past) alone) ∙ ap (laid_within c.args.length c.loop-i.tick) (sym (next at)) ∙ c.loop-i.invariant.decide;
    }

pub returns : goal.returns
unfolding total
returns c =
    let slots = c.args.slots.now in
    let none : drop c.loop-i.i slots ≡ [] = drop_of_length-le slots {i = c.loop-i.i} (omega arith) in
    ap₂ laid_found
    (sym (laid_none c.args.length c.loop-i.tick c.loop-i.invariant.inside) ∙ ap (laid_within c.args.length c.loop-i.tick) (sym none) ∙ c.loop-i.invariant.decide)
    (omega (arith, c.loop-i.invariant.ticks, ap total none))
