-- A set that fits is written by `put_members`; any other leaves the bytes as they are.
use mathlib.Core.Bool.{true}
use mathlib.Core.Path.{◌≡◌, sym, ◌∙◌}
use Rattle.writer.specs.Writing.{has_room}
use Rattle.writer.specs.Sets.{put_set}
use Rattle.writer.proofs.Laws.{in_room}
use Rattle.writer.proofs.sets.put_set.Goals.{Then-has_room}
use Rattle.writer.proofs.sets.put_set.Goals as goal

-- What the test implies.
fits : (c : Then-has_room) → let a = c.args in has_room a.out.now a.at a.n ≡ true
fits c = sym c.has_room.ensures ∙ c.if-has_room.true

pub put_members-requires : goal.put_members-requires
put_members-requires c = in_room _ _ _ (fits (goal.at.put_members-requires c).Then-has_room)

pub returns-then-has_room : goal.returns-then-has_room
unfolding put_set
returns-then-has_room c = rw (fits (goal.at.returns-then-has_room c).Then-has_room) c.put_members.ensures

pub returns-else-has_room : goal.returns-else-has_room
unfolding put_set
returns-else-has_room c = rw (← c.has_room.ensures, c.if-has_room.false)
