-- x is among the entries, or there is room for it.
use Prim.Native.Nat.{◌≤◌, ◌<◌}
use mathlib.Core.Bool.{false}
use mathlib.Core.Path.{◌≡◌, sym}
use native.Mathlib.Omega.{arith}
use lib.ListN.{length, take}
use lib.Seq.{length-take-le}
use Rattle.form.specs.Mentions.{is_in, place_in, all_mentioned}
use Rattle.form.proofs.Mentions.{mentioned_there, few_room}
use Rattle.canonical.specs.Refinement.{Listing}
use Rattle.canonical.proofs.Order.{is_there_lem, is_new, put_new}
use Rattle.canonical.proofs.mentions.mention.Goals.{Else-place-count}
use Rattle.canonical.proofs.mentions.mention.Goals as goal

-- x is new, so one of the 16 entries is free.
free : (c : Else-place-count) → let a = c.args in
    (is_in (take a.count a.order.now) a.x ≡ false) × (a.count < 16)
free c =
    let a = c.args in
    let l : Listing a.order.now a.count = c.requires.0 in
    let over : a.count ≤ place_in (take a.count a.order.now) a.x = rw (← c.place_in-place.ensures) c.if-place-count.false in
    let inside : a.count ≤ length a.order.now = omega (arith, l.length_enough, l.count_most) in
    let new = is_new a.order.now a.x a.count inside over in
    (new, rw (length-take-le a.count a.order.now inside) at (few_room 16 (take a.count a.order.now) l.few a.x c.requires.1 new))

inside : (c : Else-place-count) → c.args.count < length c.args.order.now
inside c = omega (arith, (free c).1, c.requires.0.length_enough)

pub returns-then-place-count : goal.returns-then-place-count
unfolding all_mentioned
returns-then-place-count c =
    let a = c.args in
    let l : Listing a.order.now a.count = c.requires.0 in
    let under : place_in (take a.count a.order.now) a.x < a.count = rw (← c.place_in-place.ensures) c.if-place-count.true in
    let there = is_there_lem a.order.now a.x a.count (omega (arith, l.length_enough, l.count_most)) under in
    record { listed = sym (mentioned_there _ _ there); most = l.count_most }

pub bounds-order-count : goal.bounds-order-count
bounds-order-count c = inside (goal.at.bounds-order-count c).Else-place-count

pub returns : goal.returns
unfolding all_mentioned
returns c =
    let a = c.args in
    let e = (goal.at.returns c).Else-place-count in
    record { listed = put_new a.order.now a.x a.count (inside e) (free e).0; most = omega (arith, (free e).1) }
