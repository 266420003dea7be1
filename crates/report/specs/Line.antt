-- The check program prints one line in full: the word and the step number, or the word, the number, `node` or `bit`, and the place; of a
-- file that it wrote, the word and the length; of two pairs that it composed, the word and the step number, or the refusal and its pair.
-- Of the guests of a core it prints a line each, the place and the slot or the refusal, and last the ticks that are left over. A text is the
-- list of its bytes.
use Rattle.std.specs.Prelude.{ℕ, zero, suc, ◌+◌, ◌/◌, ◌%◌, ◌^◌, ◌<◌, cond, List, [], ◌∷◌, ◌++◌, length, drop, leb, ltb, eqb, Ok, Err}
use Prim.Native.Char.{code}
use Prim.Native.String.{String, [] as []ˢ, ◌∷◌ as ◌∷ˢ◌}
use Rattle.checker.specs.declared.Place.{Place}
use Rattle.checker.specs.Verdicts.{Verdict}
use Rattle.checker.specs.declared.Place.TheVariants.{Bit, Node}
use Rattle.report.specs.Code.{index_of}

-- The bytes of a text of ASCII characters.
abbrev pub ascii : String → List ℕ
ascii []ˢ = []
ascii (c ∷ˢ s) = code c ∷ ascii s

-- The digits of a number, the most significant first: those of n / 10, if n has more than one, and then the last.
unfoldable pub digits : ℕ → ℕ → List ℕ
digits zero n = []
digits (suc fuel) n =
    let front = digits fuel (n / 10) in
    cond (ltb n 10) [] front ++ ((48 + n % 10) ∷ [])

-- A number in decimal, with no leading zeros; 0 is `0`. It has at most n + 1 digits.
unfoldable pub decimal : ℕ → List ℕ
decimal n = digits (suc n) n

-- `node` or `bit`, then the place.
unfoldable pub place_text : Place → List ℕ
place_text (Bit i) = ascii " bit " ++ decimal i
place_text (Node k) = ascii " node " ++ decimal k

-- The line without its end.
unfoldable pub verdict_text : Verdict → List ℕ
verdict_text (Ok n) = ascii "accepted " ++ decimal n
verdict_text (Err f) = (ascii "refused " ++ decimal f.number) ++ place_text f.place

-- The line, in full, ends in one newline.
unfoldable pub line_of : Verdict → List ℕ
line_of v = verdict_text v ++ ascii "\n"

-- The line of a file that was written: the word and the file's length.
unfoldable pub written_line : ℕ → List ℕ
written_line length = (ascii "written " ++ decimal length) ++ ascii "\n"

-- The line of two pairs that were composed: the word and the step number of the result.
unfoldable pub composed_line : ℕ → List ℕ
composed_line steps = (ascii "composed " ++ decimal steps) ++ ascii "\n"

-- Which pair a refusal is about: 1 the first, 2 the second, and any other number neither.
unfoldable pub pair_text : ℕ → List ℕ
pair_text pair = cond (eqb pair 1) (ascii " first pair") (cond (eqb pair 2) (ascii " second pair") [])

-- The line of a verdict on one of two pairs.
unfoldable pub pair_line : Verdict → ℕ → List ℕ
pair_line v pair = (verdict_text v ++ pair_text pair) ++ ascii "\n"

-- The guest place that a line is about.
unfoldable pub guest_text : ℕ → List ℕ
guest_text place = (ascii "place " ++ decimal place) ++ ascii " "

-- The line of a guest that was admitted: its place, and the first tick and the length of its slot.
unfoldable pub slot_line : ℕ → ℕ → ℕ → List ℕ
slot_line place first length =
    ((guest_text place ++ (ascii "first " ++ decimal first)) ++ (ascii " length " ++ decimal length)) ++ ascii "\n"

-- The line of a guest that was turned away: its place, and the refusal.
unfoldable pub turned_line : ℕ → Verdict → List ℕ
turned_line place v = (guest_text place ++ verdict_text v) ++ ascii "\n"

-- The line of the ticks after the last slot.
unfoldable pub left_line : ℕ → List ℕ
left_line ticks = (ascii "left over " ++ decimal ticks) ++ ascii "\n"

-- The range of the code's types: every number is below 2 ^ 64.
abbrev pub WithinTypes : Verdict → Type 0
WithinTypes (Ok n) = n < 2 ^ 64
WithinTypes (Err f) = (f.number < 2 ^ 64) × (index_of f.place < 2 ^ 64)

-- A buffer after a line is written at its front, and the number of bytes written. If there is no room, nothing is written.
unfoldable pub line_into : List ℕ → List ℕ → List ℕ
line_into line out = cond (leb (length line) (length out)) (line ++ drop (length line) out) out

unfoldable pub line_length : List ℕ → List ℕ → ℕ
line_length line out = cond (leb (length line) (length out)) (length line) 0
