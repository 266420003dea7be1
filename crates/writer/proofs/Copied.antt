-- Laws of copied bits and cleared bytes: what one more round of a loop adds, and what callers cite.
use Prim.Native.Nat.{ℕ, ◌+◌, ◌*◌, ◌^◌, ◌≤◌, ◌<◌, min}
use mathlib.Core.Bool.{◌&&◌}
use mathlib.Core.List.{List, ◌++◌}
use mathlib.Core.Path.{◌≡◌, refl}
use native.Mathlib.Nat.{min-eq_left}
use native.Mathlib.Numerals.{add-one}
use native.Mathlib.Omega.{arith}
use borrow.Author.Tests.{lt-ltb}
use lib.Dec.{ltb}
use lib.ListN.{length, drop, get_or, set, replicate, length-append, length-drop, length-replicate, replicate-append-replicate}
use lib.Pow.{high, low}
use lib.Seq.{drop-cons, append_snoc, set_at}
use Rattle.bits.specs.Fields.{bits_at, number_at}
use Rattle.bits.proofs.Laws.{bits_join, bits_below, number_bits}
use Rattle.bits.proofs.Places.{either}
use Rattle.writer.specs.Writing.{put_bits, put_field, has_room, copied, cleared}
use Rattle.writer.proofs.Laws.{length_put, put_join, field_put, has_room_lem}

-- The next k bits of a file, after those that were copied.
pub copy_more : (out src : List ℕ) (to from done k : ℕ) → 1 ≤ k → k ≤ 64 → to + done + k ≤ 8 * length out → to + done + k < 2 ^ 64
    → put_field (put_bits out to done (bits_at src from done)) (to + done) k (number_at src (from + done) k)
    ≡ put_bits out to (done + k) (bits_at src from (done + k))
copy_more out src to from done k least most inside fits =
    let first = put_bits out to done (bits_at src from done) in
    let small = bits_below src (from + done) k in
    rw (
      number_bits src (from + done) k most,
      field_put first (to + done) k (bits_at src (from + done) k) least most (omega (arith, length_put out to done (bits_at src from done))) fits,
      put_join out to done k (bits_at src from (done + k)),
      bits_join src from done k,
      high (bits_at src from done) k small,
      low (bits_at src from done) k small,
    )

module _ (out : List ℕ) (to : ℕ) (src : List ℕ) (from width : ℕ) where
  -- Bits that fit are copied.
  pub copied_fits : to + width ≤ 8 * length out → to + width < 2 ^ 64 → from + width < 2 ^ 64
      → copied out to src from width ≡ put_bits out to width (bits_at src from width)
  unfolding copied
  copied_fits inside fits below = rw (has_room_lem out to width inside fits, lt-ltb (from + width) (2 ^ 64) below)

  pub length_copied : length (copied out to src from width) ≡ length out
  unfolding copied
  length_copied =
      either (λ l. length l ≡ length out) (has_room out to width && ltb (from + width) (2 ^ 64)) _ out
      (length_put out to width (bits_at src from width)) refl

module _ (out : List ℕ) (count : ℕ) where
  -- Where there are so many bytes, all of them are cleared.
  pub cleared_within : count ≤ length out → cleared out count ≡ replicate count 0 ++ drop count out
  unfolding cleared
  cleared_within within = rw (min-eq_left within)

  pub length_cleared : length (cleared out count) ≡ length out
  unfolding cleared
  length_cleared = simp (length-append, length-drop) (omega (arith, length-replicate {A = ℕ} (min count (length out)) 0))

  -- Clearing as many bytes as there are is clearing them all.
  pub cleared_least : cleared out (min count (length out)) ≡ cleared out count
  unfolding cleared
  cleared_least =
      let same : min (min count (length out)) (length out) ≡ min count (length out) = omega arith in
      rw same

-- One more byte is cleared.
pub clear_more : (out : List ℕ) (i : ℕ) → i < length out → set (cleared out i) i 0 ≡ cleared out (i + 1)
clear_more out i more =
    rw (
      cleared_within out i (omega arith),
      cleared_within out (i + 1) (omega arith),
      ← replicate-append-replicate {A = ℕ} i 1 0,
      add-one i,
      drop-cons out i 0 more,
      append_snoc,
    )
    (set_at (replicate i 0) (get_or out i 0) _ 0 i (length-replicate {A = ℕ} i 0))
