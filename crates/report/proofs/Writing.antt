-- Two texts put one after the other are put as one; a text put at the front leaves the rest of the buffer as it was.
use Prim.Native.Nat.{ℕ, ◌+◌, ◌-◌, ◌≤◌}
use mathlib.Core.Path.{◌≡◌, refl, sym, ◌∙◌}
use mathlib.Core.List.{List, ◌++◌, append_assoc}
use native.Mathlib.Omega.{arith}
use lib.ListN.{length, take, drop, length-append, take-append-drop}
use lib.Seq.{drop-drop}
use borrow.Rule.Slice.PartMut.{put_mid}
use Rattle.std.proofs.lemmas.Slice.{take-put_mid, drop-put_mid}
use Rattle.report.specs.Put.{Put}

-- What a copy to a part of the buffer does.
pub copied : (before : List ℕ) (at : ℕ) (text : List ℕ) → at + length text ≤ length before
    → Put before at text (put_mid at (at + length text - at) before text) (at + length text)
copied before at text room =
    record {
      ends = refl;
      front = take-put_mid at (at + length text - at) before text (at + length text) refl (omega arith);
      rest = drop-put_mid at (at + length text - at) before text (at + length text) (omega arith) (omega arith) (omega arith);
    }

-- One text after another.
pub put_then : {before text after more last : List ℕ} {at next end : ℕ}
    → Put before at text after next → Put after next more last end → Put before at (text ++ more) last end
put_then {before} {text} {after} {more} {last} {at} {next} {end} p q =
    record {
      ends = rw length-append (omega arith);
      front = q.front ∙ rw p.front (append_assoc (take at before) text more);
      rest = q.rest ∙ past after ∙ rw p.rest (sym (past before));
    }
  where
    past : (l : List ℕ) → drop end l ≡ drop (length more) (drop next l)
    past l = rw (drop-drop, q.ends)

-- A text at the front.
pub whole : {before text after : List ℕ} {next : ℕ} → Put before 0 text after next
    → (next ≡ length text) × (after ≡ text ++ drop (length text) before)
whole {before} {text} {after} {next} p =
    let n : next ≡ length text = omega (arith, p.ends) in
    (n, sym (take-append-drop next after) ∙ rw (p.front, p.rest, n))
