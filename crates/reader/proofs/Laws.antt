-- What a read gives, as two laws of the definitions of the reader: a field that is there is given and passed; otherwise nothing is.
use Prim.Native.Nat.{ℕ, ◌+◌, ◌*◌, ◌^◌, ◌≤◌, ◌<◌}
use mathlib.Core.Bool.{Bool, true, false}
use mathlib.Core.Path.{◌≡◌, refl, ap}
use lib.ListN.{length}
use Rattle.bits.specs.Fields.{bits_at, is_there, field_at}
use Rattle.bits.proofs.Laws.{in_full, found}
use Rattle.reader.specs.Reading.{field_of, moved_to, answer_of, moved_on}
use Rattle.reader.specs.declared.Reader.{Reader}
use Rattle.std.specs.Prelude.{Some, None}

-- A field of 1 to 64 bits within the file, whose end a cursor can number.
abbrev pub FieldWithin : Reader → ℕ → Type 0
FieldWithin r w = (1 ≤ w) × (w ≤ 64) × (r.at + w ≤ 8 * length r.file.now) × (r.at + w < 2 ^ 64)

pub gives_and_moves : (r : Reader) (w : ℕ) → FieldWithin r w → (answer_of r w ≡ Some (bits_at r.file.now r.at w)) × (moved_on r w ≡ record { file = r.file; at = r.at + w })
gives_and_moves r w (least, most, inside, fits) =
    let e = found r.file.now r.at w least most inside fits in
    (ap field_of e, ap (λ f. record { file = r.file; at = moved_to r.at f }) e)

pub gives_none_and_stays : (r : Reader) (w : ℕ) → (FieldWithin r w → ⊥) → (answer_of r w ≡ None) × (moved_on r w ≡ r)
unfolding field_at
gives_none_and_stays r w out = by (is_there r.file.now r.at w) refl
  where
    by : (b : Bool) → is_there r.file.now r.at w ≡ b → (answer_of r w ≡ None) × (moved_on r w ≡ r)
    by true t =
        let field = in_full r.file.now r.at w t in
        absurd (out (field.least, field.most, field.inside, field.fits))
    by false t = (rw t, rw t)
