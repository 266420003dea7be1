-- What was written is within the room that was lent for it, and so are both files of a composition.
use Rattle.std.proofs.Common.{◌≡◌, refl, ap, subst, ℕ, ◌≤◌, Bool, true, false, cond, length, arith, ltb-false, leb-true}
use Rattle.std.specs.Prelude.{◌&&◌, ltb, leb, Ok, Err}
use Rattle.canonical.specs.Canonical.{Form, form, fault, outcome, turned_away}
use Rattle.checker.specs.Verdicts.{Verdict}
use Rattle.composition.specs.declared.Made.{Made}
use Rattle.joint.specs.Composing.{Composition, made, refused, with_room, plain}
use Rattle.composition.specs.Answers.{Composed, turned, composed}

-- The length of what was written; 0 where nothing was.
abbrev amount_written : Verdict → ℕ
amount_written (Ok k) = k
amount_written (Err f) = 0

within : (f : Form) (room : ℕ) → amount_written (outcome f room) ≤ room
unfolding outcome
within (fault k place) room = omega arith
within (form bytes) room = by (ltb room (length bytes)) refl
  where
    by : (b : Bool) → ltb room (length bytes) ≡ b → amount_written (cond b (turned_away 3 0) (Ok (length bytes))) ≤ room
    by true e = omega arith
    by false e = ltb-false room (length bytes) e

pub written_within : (f : Form) (room k : ℕ) → outcome f room ≡ Ok k → k ≤ room
written_within f room k e = omega (arith, within f room, ap amount_written e)

-- Both lengths of what was composed are within the room for them.
abbrev Fits : ℕ → ℕ → Composed → Type 0
Fits room room' (Ok m) = (m.handler ≤ room) × (m.proof ≤ room')
Fits room room' (Err t) = 0 ≤ room

fits : (c : Composition) (room room' : ℕ) → Fits room room' (composed (with_room c room room'))
unfolding with_room
fits (refused pair f) room room' = omega arith
fits (made k handler proof) room room' = by (leb (length handler) room) refl (leb (length proof) room') refl
  where
    by : (b : Bool) → leb (length handler) room ≡ b → (b' : Bool) → leb (length proof) room' ≡ b'
        → Fits room room' (composed (cond (b && b') (made k handler proof) (refused 0 (plain 95))))
    by true e true e' = (leb-true (length handler) room e, leb-true (length proof) room' e')
    by true e false e' = omega arith
    by false e b' e' = omega arith

pub composed_within : (c : Composition) (room room' : ℕ) (m : Made) → composed (with_room c room room') ≡ Ok m
    → (m.handler ≤ room) × (m.proof ≤ room')
composed_within c room room' m e = subst (Fits room room') e (fits c room room')
