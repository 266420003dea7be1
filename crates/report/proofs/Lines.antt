-- Every line fits in 80 bytes, and what is written fits in its buffer.
use Rattle.std.specs.Prelude.{Ok, Err}
use Prim.Native.Nat.{ℕ, ◌^◌, ◌≤◌, ◌<◌}
use mathlib.Core.Path.{◌≡◌, refl}
use mathlib.Core.Bool.{Bool, true, false, cond}
use mathlib.Core.List.{List, [], ◌++◌}
use native.Mathlib.Omega.{arith}
use lib.ListN.{length, length-append}
use lib.Dec.{leb, eqb}
use borrow.Author.Tests.{leb-true}
use Rattle.checker.specs.declared.Place.{Place}
use Rattle.checker.specs.Verdicts.{Verdict}
use Rattle.checker.specs.declared.Place.TheVariants.{Bit, Node}
use Rattle.report.specs.Code.{index_of}
use Rattle.report.specs.Line.{ascii, decimal, place_text, verdict_text, line_of, pair_text, pair_line, guest_text, slot_line, turned_line, line_length, WithinTypes}
use Rattle.report.proofs.Decimal.{decimal_short, decimal_short_32}

place_short : (place : Place) → index_of place < 2 ^ 64 → length (place_text place) ≤ 26
unfolding place_text index_of
place_short (Bit i) h = omega (arith, decimal_short i h)
place_short (Node k) h = omega (arith, decimal_short k h)

words_short : (v : Verdict) → WithinTypes v → length (verdict_text v) ≤ 54
unfolding verdict_text
words_short (Ok n) h = omega (arith, decimal_short n h)
words_short (Err f) h =
    omega (
      arith,
      length-append (ascii "refused " ++ decimal f.number) (place_text f.place),
      decimal_short f.number h.0,
      place_short f.place h.1,
    )

pair_short : (pair : ℕ) → length (pair_text pair) ≤ 12
unfolding pair_text
pair_short pair = by (eqb pair 1) (eqb pair 2)
  where
    by : (b c : Bool) → length (cond b (ascii " first pair") (cond c (ascii " second pair") [])) ≤ 12
    by true c = omega arith
    by false true = omega arith
    by false false = omega arith

guest_short : (place : ℕ) → place < 2 ^ 32 → length (guest_text place) ≤ 17
unfolding guest_text
guest_short place h = omega (arith, length-append (ascii "place " ++ decimal place) (ascii " "), decimal_short_32 place h)

-- 80 bytes hold every line.
pub line_short : (v : Verdict) → WithinTypes v → length (line_of v) ≤ 80
unfolding line_of
line_short v h = rw length-append (omega (arith, words_short v h))

pub pair_line_short : (v : Verdict) (pair : ℕ) → WithinTypes v → length (pair_line v pair) ≤ 80
unfolding pair_line
pair_line_short v pair h =
    omega (
      arith,
      length-append (verdict_text v ++ pair_text pair) (ascii "\n"),
      length-append (verdict_text v) (pair_text pair),
      words_short v h,
      pair_short pair,
    )

pub slot_line_short : (place first length' : ℕ) → place < 2 ^ 32 → first < 2 ^ 32 → length' < 2 ^ 32
    → length (slot_line place first length') ≤ 80
unfolding slot_line
slot_line_short place first length' hp hf hl =
    simp length-append (omega (arith, guest_short place hp, decimal_short_32 first hf, decimal_short_32 length' hl))

pub turned_line_short : (place : ℕ) (v : Verdict) → place < 2 ^ 32 → WithinTypes v → length (turned_line place v) ≤ 80
unfolding turned_line
turned_line_short place v hp h =
    simp length-append (omega (arith, guest_short place hp, words_short v h))

-- No more is written than there is room for.
pub line_within : (line out : List ℕ) → line_length line out ≤ length out
unfolding line_length
line_within line out = go (leb (length line) (length out)) refl
  where
    go : (b : Bool) → leb (length line) (length out) ≡ b → cond b (length line) 0 ≤ length out
    go true e = leb-true (length line) (length out) e
    go false e = omega arith
