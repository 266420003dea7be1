-- Worked examples: which number a text is, at both ends of the range and past it, and texts that are none.
use mathlib.Core.Path.{◌≡◌, refl}
use Rattle.report.specs.Line.{ascii}
use Rattle.std.specs.Prelude.{Some, None}
use Rattle.handover.specs.Number.{with_digit, number_from, number_in}

pub some_numbers :
    (number_in (ascii "0") ≡ Some 0)
    × (number_in (ascii "007") ≡ Some 7)
    × (number_in (ascii "4294967295") ≡ Some 4294967295)
    × (number_in (ascii "4294967296") ≡ None)
    × (number_in (ascii "18446744073709551617") ≡ None)
unfolding number_in number_from with_digit
some_numbers = (refl, refl, refl, refl, refl)

pub no_numbers :
    (number_in (ascii "") ≡ None)
    × (number_in (ascii "12x") ≡ None)
    × (number_in (ascii "-1") ≡ None)
    × (number_in (ascii " 1") ≡ None)
unfolding number_in number_from with_digit
no_numbers = (refl, refl, refl, refl)
