-- Two runs of bits are equal exactly if their words are; if they are equal, so are their mixes.
use Prim.Native.Nat.{ℕ, zero, suc, ◌+◌, ◌-◌, ◌*◌, ◌/◌, ◌%◌, ◌^◌, ◌≤◌, ◌<◌}
use mathlib.Core.Bool.{Bool, true, false}
use mathlib.Core.List.{List}
use mathlib.Core.Logic.{⊎_elim}
use mathlib.Core.Path.{◌≡◌, refl, sym, ◌∙◌, ap, subst}
use native.Mathlib.Nat.{mul-le-mul, eq-or-lt_of_le}
use native.Mathlib.Numerals.{add-one}
use native.Mathlib.Omega.{arith}
use borrow.Author.Tests.{eqb-true, eqb-false, eq-eqb}
use denote.Bor.{Bor}
use denote.Param.Members.{Mut}
use lib.Dec.{eqb}
use lib.ListN.{length, get_or, set}
use lib.Seq.{get_or-set_same, get_or-set_other}
use Rattle.std.specs.Prelude.{Option, Some, None, MatchOption}
use Rattle.std.specs.declared.ops.Range.{Range}
use Rattle.std.specs.Option.{unwrap_or}
use Rattle.std.specs.Fn.{CalledAt}
use Rattle.std.specs.Iterator.{FindsItem}
use Rattle.std.proofs.iter.Yields.{nat_range_steps}
use Rattle.std.proofs.lemmas.Iterator.{first_from_Range}
use Rattle.bits.specs.Fields.{bits_at}
use Rattle.bits.proofs.Laws.{bits_join, same_test}
use Rattle.bits.proofs.Bytes.{bits_first, bits_last}
use Rattle.states.specs.Sets.{capacity}
use Rattle.derivation.specs.Tables.{most_tables}
use Rattle.canonical.specs.declared.Run.{Run}
use Rattle.canonical.specs.Refinement.{members_in, Within, Least, mix_with, mix_words, mix_at, Mixes}

-- What holds below j and at j holds below j + 1.
pub below_more : (P : ℕ → Type 0) (j : ℕ) → ((k : ℕ) → k < j → P k) → P j → (k : ℕ) → k < j + 1 → P k
below_more P j before at k under =
    let within : k ≤ j = omega arith in
    ⊎_elim {C = P k} (λ e. subst P (sym e) at) (before k) (eq-or-lt_of_le within)

-- What holds of each of the first i entries, and of the one that is stored after them.
pub entry_more : (P : ℕ → ℕ → Type 0) (l : List ℕ) (i x : ℕ) → i < length l → ((k : ℕ) → k < i → P k (get_or l k 0)) → P i x
    → (k : ℕ) → k < i + 1 → P k (get_or (set l i x) k 0)
entry_more P l i x inside before at =
    below_more (λ k. P k (get_or (set l i x) k 0)) i
    (λ k under. rw (get_or-set_other l i k x 0 (λ e. omega arith)) (before k under))
    (rw (get_or-set_same l i x 0 inside) at)

module _ (s : List ℕ) (a b : ℕ) where
  -- The first bits are equal, and the next word is.
  pub same_more : (done w : ℕ) → bits_at s a done ≡ bits_at s b done → bits_at s (a + done) w ≡ bits_at s (b + done) w
      → bits_at s a (done + w) ≡ bits_at s b (done + w)
  same_more done w first next = bits_join s a done w ∙ (λ i. first i * 2 ^ w + next i) ∙ sym (bits_join s b done w)

  -- If all bits are equal, so is each word of them.
  pub same_part : (done w width : ℕ) → done + w ≤ width → bits_at s a width ≡ bits_at s b width
      → bits_at s (a + done) w ≡ bits_at s (b + done) w
  same_part done w width within all =
      let first : bits_at s a (done + w) ≡ bits_at s b (done + w) =
      sym (bits_first s a (done + w) width within) ∙ ap (λ x. x / 2 ^ (width - (done + w))) all ∙ bits_first s b (done + w) width within
      in
      sym (bits_last s a done w) ∙ ap (λ x. x % 2 ^ w) first ∙ bits_last s b done w

  -- Where the first bits are equal, the bits that are left decide.
  pub same_last : (done width : ℕ) → done ≤ width → bits_at s a done ≡ bits_at s b done
      → eqb (bits_at s (a + done) (width - done)) (bits_at s (b + done) (width - done)) ≡ eqb (bits_at s a width) (bits_at s b width)
  same_last done width within first =
      let whole : done + (width - done) ≡ width = omega arith in
      same_test _ _
      (λ t. eq-eqb _ _ (ap (λ w. bits_at s a w) (sym whole) ∙ same_more done (width - done) first (eqb-true _ _ t) ∙ ap (λ w. bits_at s b w) whole))
      (λ f t. eqb-false _ _ f (same_part done (width - done) width (omega arith) (eqb-true _ _ t)))

  -- If all bits are equal, so are the mixes of the first words.
  same_words : (count width : ℕ) → 64 * count ≤ width → bits_at s a width ≡ bits_at s b width → mix_words s a count ≡ mix_words s b count
  unfolding mix_words
  same_words zero width within all = refl
  same_words (suc count) width within all =
      let before = same_words count width (omega arith) all in
      let word = same_part (64 * count) 64 width (omega arith) all in
      λ i. mix_with (before i) (word i)

  -- If all bits are equal, so are their mixes.
  pub same_mix : (width : ℕ) → bits_at s a width ≡ bits_at s b width → mix_at s a width ≡ mix_at s b width
  unfolding mix_at
  same_mix width all =
      let words = same_words (width / 64) width (omega arith) all in
      let left = same_part (64 * (width / 64)) (width % 64) width (omega arith) all in
      λ i. mix_with (words i) (left i)

-- Tables with equal members have equal mixes.
pub mix_of_members : (s : List ℕ) (run : Run) (mixes : List ℕ) (i : ℕ) → Mixes s run (i + 1) mixes → (j : ℕ) → j ≤ i
    → members_in s run j ≡ members_in s run i → get_or mixes j 0 ≡ get_or mixes i 0
unfolding members_in
mix_of_members s run mixes i are j within same = are j (omega arith) ∙ same_mix s _ _ run.width same ∙ sym (are i (omega arith))

-- One more word, with the code's `k + 1`.
pub mix_more : (s : List ℕ) (at k : ℕ) → mix_words s at (k + 1) ≡ mix_with (mix_words s at k) (bits_at s (at + 64 * k) 64)
unfolding mix_words
mix_more s at k = rw add-one

-- A table of a run begins within the file's cursors.
pub table_room : (run : Run) (i : ℕ) → Within run → i < most_tables → run.width * i ≤ capacity * capacity * most_tables
table_room run i within under = mul-le-mul {m₂ = most_tables} within.1 (omega arith)

-- What `find` over a range gives, whose closure asks whether a table is like table i: the least one that is.
pub least_found : {F : Type 0} {g : Mut F (Bor ℕ × Unit {0}) Bool} {h : F} (f : ℕ → ℕ) (i : ℕ) (u : Range ℕ) (r : Option ℕ)
    → FindsItem nat_range_steps g (record { start = 0; end = i }) h r u
    → ((j : ℕ) (b : Bool) (q : F) → CalledAt g h j b q → (q ≡ h) × (b ≡ eqb (f j) (f i))) → Least f i (unwrap_or r i)
least_found f i u r ran asked =
    found r (first_from_Range _ u _ r (λ j. f j ≡ f i) (λ j. f j ≡ f i → ⊥) ran (λ j q k. eqb-true _ _ (sym (asked j true q k).1))
    (λ j q k. ((asked j false q k).0, eqb-false _ _ (sym (asked j false q k).1))))
  where
    found : (r : Option ℕ) → MatchOption r ((j : ℕ) → 0 ≤ j → j < i → f j ≡ f i → ⊥)
        (λ k. (0 ≤ k) × (k < i) × (f k ≡ f i) × ((j : ℕ) → 0 ≤ j → j < k → f j ≡ f i → ⊥))
        → Least f i (unwrap_or r i)
    found (Some k) at = record { within = omega (arith, at.1); same = at.2; first = λ j l. at.3 j (omega arith) l }
    found None none = record { within = omega arith; same = refl; first = λ j l. none j (omega arith) l }
