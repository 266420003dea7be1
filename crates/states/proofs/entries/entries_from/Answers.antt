-- A part up to the end is the rest of the slice; past the end nothing is left.
use Prim.Native.Nat.{ℕ, ◌-◌, ◌*◌}
use native.Mathlib.Nat.{le_of_eq, one-mul}
use native.Mathlib.Omega.{arith}
use mathlib.Core.Path.{◌≡◌, ◌∙◌, sym, ap}
use mathlib.Core.List.{List}
use lib.ListN.{length, take, drop, length-drop, drop_of_length-le}
use lib.Seq.{take_all, drop-length}
use Rattle.states.specs.Sets.{set_words}
use Rattle.states.proofs.entries.entries_from.Goals as goal

to_end : (k : ℕ) (l : List ℕ) → take (length l - k) (drop k l) ≡ drop k l
to_end k l = take_all _ _ (le_of_eq (length-drop k l))

pub returns-then-i-words : goal.returns-then-i-words
returns-then-i-words c = let a = c.args in to_end a.i a.words.now ∙ ap (λ k. drop k a.words.now) (sym (one-mul a.i))

pub returns-else-i-words : goal.returns-else-i-words
returns-else-i-words c = let a = c.args in
    let l = a.words.now in
    to_end (length l) l ∙ drop-length l ∙ sym (drop_of_length-le l {i = set_words * a.i} (omega arith))
