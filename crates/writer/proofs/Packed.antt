-- Laws of files given by their fields: fields written one after the other are all read back, they are one wide field, and a packed file
-- ends as a file must.
use Prim.Native.Nat.{ℕ, zero, suc, ◌+◌, ◌*◌, ◌/◌, ◌%◌, ◌^◌, ◌≤◌, ◌<◌}
use mathlib.Core.List.{List, [], ◌∷◌, ◌++◌}
use Rattle.std.specs.Prelude.{None}
use mathlib.Core.Path.{◌≡◌, refl, sym, ◌∙◌}
use native.Mathlib.Nat.{add-zero, add_assoc, zero-add, zero-div, mod-lt, mod-eq_of_lt}
use native.Mathlib.Omega.{arith}
use borrow.Author.Tests.{le-ltb, le-leb}
use lib.Arith.{digits_div, digits_mod, digits_lt}
use lib.ListN.{length, replicate, length-replicate}
use lib.Pow.{pow-add, pow_pos}
use Rattle.bits.specs.Fields.{bit_at, bits_at, is_there, first_set, fill_bits, further_byte, fill_from, fill_at}
use Rattle.std.specs.Prelude.{Result, Ok, Err}
use Rattle.bits.proofs.Laws.{bits_agree}
use Rattle.states.proofs.Cells.{blank}
use Rattle.writer.specs.Writing.{put_bits, put_field, has_room}
use Rattle.writer.specs.Packing.{Part, width_of, put_parts, put_all, bytes_for, packed}
use Rattle.writer.proofs.Holding.{Holds, Fitting}
use Rattle.writer.proofs.Laws.{length_put, put_read, put_before, put_after, put_low, put_join, put_append, has_room_lem}

pub width_append : (ps qs : List Part) → width_of (ps ++ qs) ≡ width_of ps + width_of qs
unfolding width_of
width_append [] qs = sym (zero-add (width_of qs))
width_append (p ∷ ps) qs = rw (width_append ps qs) (sym (add_assoc p.width (width_of ps) (width_of qs)))

pub fitting_append : (ps qs : List Part) → Fitting ps → Fitting qs → Fitting (ps ++ qs)
unfolding Fitting
fitting_append [] qs f g = g
fitting_append (p ∷ ps) qs f g = (f.0, fitting_append ps qs f.1 g)

-- Fields are written in order.
pub parts_append : (s : List ℕ) (at : ℕ) (ps qs : List Part) → put_parts s at (ps ++ qs) ≡ put_parts (put_parts s at ps) (at + width_of ps) qs
unfolding put_parts width_of
parts_append s at [] qs = rw (add-zero at)
parts_append s at (p ∷ ps) qs =
    rw (← add_assoc at p.width (width_of ps)) (parts_append (put_bits s at p.width p.value) (at + p.width) ps qs)

pub length_parts : (s : List ℕ) (at : ℕ) (ps : List Part) → length (put_parts s at ps) ≡ length s
unfolding put_parts
length_parts s at [] = refl
length_parts s at (p ∷ ps) =
    length_parts (put_bits s at p.width p.value) (at + p.width) ps ∙ length_put s at p.width p.value

-- Every bit before the fields and after them stays.
pub parts_before : (s : List ℕ) (at : ℕ) (ps : List Part) (j : ℕ) → j < at → bit_at (put_parts s at ps) j ≡ bit_at s j
unfolding put_parts
parts_before s at [] j before = refl
parts_before s at (p ∷ ps) j before =
    parts_before (put_bits s at p.width p.value) (at + p.width) ps j (omega arith) ∙ put_before s at p.width p.value j before

pub parts_after : (s : List ℕ) (at : ℕ) (ps : List Part) (j : ℕ) → at + width_of ps ≤ j → bit_at (put_parts s at ps) j ≡ bit_at s j
unfolding put_parts width_of
parts_after s at [] j after = refl
parts_after s at (p ∷ ps) j after =
    parts_after (put_bits s at p.width p.value) (at + p.width) ps j (omega arith)
    ∙ put_after s at p.width p.value j (omega arith)

-- Bytes after the fields stay as they are.
pub parts_front : (s rest : List ℕ) (at : ℕ) (ps : List Part) → at + width_of ps ≤ 8 * length s
    → put_parts (s ++ rest) at ps ≡ put_parts s at ps ++ rest
unfolding put_parts width_of
parts_front s rest at [] inside = refl
parts_front s rest at (p ∷ ps) inside =
    let first = put_bits s at p.width p.value in
    rw (put_append s rest at p.width p.value (omega arith))
    (parts_front first rest (at + p.width) ps (omega (arith, length_put s at p.width p.value)))

-- The value of the fields as one wide field: each has the last bits of its own value.
unfoldable pub value_of : List Part → ℕ
value_of [] = 0
value_of (p ∷ rest) = p.value % 2 ^ p.width * 2 ^ width_of rest + value_of rest

pub value_below : (ps : List Part) → value_of ps < 2 ^ width_of ps
unfolding value_of width_of
value_below [] = omega arith
value_below (p ∷ ps) =
    rw (pow-add 2 p.width (width_of ps)) (digits_lt (mod-lt p.value (pow_pos p.width)) (value_below ps))

-- Fields written one after the other are one wide field.
pub joined : (s : List ℕ) (at : ℕ) (ps : List Part) → put_parts s at ps ≡ put_bits s at (width_of ps) (value_of ps)
unfolding value_of width_of put_parts put_bits
joined s at [] = refl
joined s at (p ∷ ps) =
    let first = p.value % 2 ^ p.width in
    rw (
      joined (put_bits s at p.width p.value) (at + p.width) ps,
      put_join s at p.width (width_of ps) (first * 2 ^ width_of ps + value_of ps),
      digits_div first (value_below ps),
      digits_mod first (value_below ps),
      ← put_low s at p.width p.value,
    )

module _ (s : List ℕ) (at : ℕ) (ps : List Part) where
  -- Fields that fit are all written.
  pub all_fits : at + width_of ps ≤ 8 * length s → at + width_of ps < 2 ^ 64 → put_all s at ps ≡ put_parts s at ps
  unfolding put_all
  all_fits inside fits = rw (has_room_lem s at (width_of ps) inside fits)

  -- Fields of 1 to 64 bits together are written as one.
  pub all_joined : 1 ≤ width_of ps → width_of ps ≤ 64 → put_field s at (width_of ps) (value_of ps) ≡ put_all s at ps
  unfolding put_field put_all is_there has_room
  all_joined least most = rw (le-leb 1 (width_of ps) least, le-leb (width_of ps) 64 most, joined s at ps)

-- All fields that were written are there.
pub written_holds : (s : List ℕ) (at : ℕ) (ps : List Part) → Fitting ps → at + width_of ps ≤ 8 * length s → Holds (put_parts s at ps) at ps
unfolding Holds Fitting put_parts width_of
written_holds s at [] f inside = tt
written_holds s at (p ∷ ps) f inside =
    let first = put_bits s at p.width p.value in
    let all = put_parts first (at + p.width) ps in
    let stays : bits_at all at p.width ≡ bits_at first at p.width =
    bits_agree all first at at p.width (λ k h. parts_before first (at + p.width) ps (at + k) (omega arith))
    in (
      stays ∙ put_read s at p.width p.value (omega arith) ∙ mod-eq_of_lt f.0,
      written_holds first (at + p.width) ps f.1 (omega (arith, length_put s at p.width p.value)),
    )

pub holds_append : (s : List ℕ) (at : ℕ) (ps qs : List Part) → Holds s at (ps ++ qs) → Holds s at ps × Holds s (at + width_of ps) qs
unfolding Holds width_of
holds_append s at [] qs all = (tt, rw (add-zero at) all)
holds_append s at (p ∷ ps) qs all =
    let later = holds_append s (at + p.width) ps qs all.1 in
    ((all.0, later.0), rw (← add_assoc at p.width (width_of ps)) later.1)

-- Cleared bytes have no bit set.
cleared_bit : (n i : ℕ) → bit_at (replicate n 0) i ≡ 0
unfolding bit_at
cleared_bit n i = rw (blank {A = ℕ} n 0 (i / 8), zero-div)

none_set : (s : List ℕ) (at n : ℕ) → ((j : ℕ) → at ≤ j → bit_at s j ≡ 0) → first_set s at n ≡ None
unfolding first_set
none_set s at zero clear = refl
none_set s at (suc n) clear = rw (clear at (omega arith)) (none_set s (suc at) n (λ j h. clear j (omega arith)))

-- The bytes of a file hold its fields and the fill bits, and nothing else.
bytes_hold : (bits : ℕ) → 8 * bytes_for bits ≡ bits + fill_bits bits
unfolding bytes_for fill_bits
bytes_hold bits = omega arith

module _ (ps : List Part) where
  abbrev zeros : List ℕ
  zeros = replicate (bytes_for (width_of ps)) 0

  room : 0 + width_of ps ≤ 8 * length zeros
  room = omega (arith, bytes_hold (width_of ps), length-replicate {A = ℕ} (bytes_for (width_of ps)) 0)

  pub length_packed : length (packed ps) ≡ bytes_for (width_of ps)
  unfolding packed
  length_packed = length_parts zeros 0 ps ∙ length-replicate (bytes_for (width_of ps)) 0

  pub packed_holds : Fitting ps → Holds (packed ps) 0 ps
  unfolding packed
  packed_holds f = written_holds zeros 0 ps f room

  -- Writing the fields into cleared bytes gives the file; the bytes after it stay.
  pub packed_front : (rest : List ℕ) → put_parts (replicate (bytes_for (width_of ps)) 0 ++ rest) 0 ps ≡ packed ps ++ rest
  unfolding packed
  packed_front rest = parts_front zeros rest 0 ps room

  -- The fill bits are zero, and no further byte follows.
  pub packed_ends : fill_at (packed ps) (width_of ps) ≡ Ok tt
  unfolding fill_at fill_from further_byte packed
  packed_ends =
      let end = width_of ps + fill_bits (width_of ps) in
      let clear : (j : ℕ) → width_of ps ≤ j → bit_at (packed ps) j ≡ 0 =
      λ j h. parts_after zeros 0 ps j (omega arith) ∙ cleared_bit (bytes_for (width_of ps)) j
      in
      let last : 8 * length (packed ps) ≤ end = omega (arith, bytes_hold (width_of ps), length_packed) in
      rw (none_set (packed ps) (width_of ps) (fill_bits (width_of ps)) clear) (rw (le-ltb end (8 * length (packed ps)) last))
