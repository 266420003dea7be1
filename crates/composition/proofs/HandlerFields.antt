-- The handler file is cleared and its fields are written one after the other.
use Prim.Native.Nat.{ℕ, ◌+◌, ◌*◌, ◌^◌, ◌≤◌, ◌<◌}
use mathlib.Core.List.{List}
use mathlib.Core.Path.{◌≡◌, ◌∙◌, ap}
use native.Mathlib.Nat.{zero-add}
use native.Mathlib.Omega.{arith}
use lib.ListN.{length}
use Rattle.writer.specs.Writing.{put_field, copied, cleared}
use Rattle.writer.specs.Packing.{Part, width_of, put_parts, bytes_for, packed}
use Rattle.writer.proofs.Laws.{field_put, length_field}
use Rattle.writer.proofs.Packed.{length_packed, packed_front}
use Rattle.writer.proofs.Copied.{copied_fits, length_copied, cleared_within, length_cleared}
use Rattle.joint.specs.Joining.{handler_parts}
use Rattle.joint.specs.Composing.{at_front}

bits_within : (bits count : ℕ) → bytes_for bits ≤ count → bits ≤ 8 * count
unfolding bytes_for
bits_within bits count within = omega arith

module _ (h : List ℕ) (at w : ℕ) (h' : List ℕ) (from w' : ℕ) where
  abbrev bits : ℕ
  bits = at + 3 + w + w'

  abbrev fields : List Part
  fields = handler_parts h at w h' from w'

  pub width_handler : width_of fields ≡ bits
  unfolding handler_parts width_of
  width_handler = omega arith

  pub handler_written : (out o₁ o₂ o₃ o₄ o₅ : List ℕ) → bytes_for bits ≤ length out → bits < 2 ^ 64 → from + w' < 2 ^ 64
      → o₁ ≡ cleared out (bytes_for bits)
      → o₂ ≡ copied o₁ 0 h 0 at
      → o₃ ≡ put_field o₂ at 3 3
      → o₄ ≡ copied o₃ (at + 3) h at w
      → o₅ ≡ copied o₄ (at + 3 + w) h' from w'
      → o₅ ≡ at_front (packed fields) out
  unfolding handler_parts put_parts
  handler_written out o₁ o₂ o₃ o₄ o₅ within fits fits' e₁ e₂ e₃ e₄ e₅ =
      let room = bits_within bits (length out) within in
      let l₁ : length o₁ ≡ length out = ap length e₁ ∙ length_cleared out (bytes_for bits) in
      let l₂ : length o₂ ≡ length out = ap length e₂ ∙ length_copied o₁ 0 h 0 at ∙ l₁ in
      let l₃ : length o₃ ≡ length out = ap length e₃ ∙ length_field o₂ at 3 3 ∙ l₂ in
      let l₄ : length o₄ ≡ length out = ap length e₄ ∙ length_copied o₃ (at + 3) h at w ∙ l₃ in
      rw (
        e₅,
        copied_fits o₄ (at + 3 + w) h' from w' (omega (arith, l₄)) (omega arith) (omega arith),
        e₄,
        copied_fits o₃ (at + 3) h at w (omega (arith, l₃)) (omega arith) (omega arith),
        e₃,
        field_put o₂ at 3 3 (omega arith) (omega arith) (omega (arith, l₂)) (omega arith),
        e₂,
        copied_fits o₁ 0 h 0 at (omega (arith, l₁)) (omega arith) (omega arith),
        e₁,
        cleared_within out (bytes_for bits) within,
        length_packed fields,
        ← packed_front fields,
        width_handler,
        zero-add at,
      )
