-- Tables of one kind as fields of one width, written one after the other.
use Prim.Native.Nat.{ℕ, ◌+◌, ◌*◌, ◌^◌, ◌≤◌, ◌<◌}
use mathlib.Core.Bool.{Bool}
use mathlib.Core.List.{List, [], ◌∷◌, ◌++◌, map, map-append}
use mathlib.Core.Path.{◌≡◌, ◌∙◌, ap}
use native.Mathlib.Numerals.{add-one}
use native.Mathlib.Omega.{arith}
use lib.ListN.{length}
use Rattle.writer.specs.Writing.{put_bits, put_field}
use Rattle.writer.specs.Packing.{part, width_of, put_parts}
use Rattle.writer.specs.Sets.{put_set}
use Rattle.writer.proofs.SetBits.{set_put}
use Rattle.writer.proofs.Packed.{parts_append, length_parts}
use Rattle.derivation.specs.Tables.{most_tables, tabulate}
use Rattle.derivation.proofs.Buffers.{length_tabulate}
use Rattle.form.specs.Members.{set_where}
use Rattle.form.proofs.FileBack.{width_map}
use Rattle.canonical.proofs.Copying.{counts_joined}
use Rattle.composition.specs.Refinement.{sets_held, relations_held}

module _ (w : ℕ) (f : ℕ → ℕ) where
  pub width_tables : (k : ℕ) → width_of (map (part w) (tabulate k f)) ≡ w * k
  width_tables k = width_map w (tabulate k f) ∙ ap (λ n. w * n) (length_tabulate f k)

  -- One table more, of any width.
  pub tables_more : (out : List ℕ) (at k : ℕ)
      → put_bits (put_parts out at (map (part w) (tabulate k f))) (at + w * k) w (f k) ≡ put_parts out at (map (part w) (tabulate (k + 1) f))
  unfolding tabulate put_parts
  tables_more out at k = rw (add-one k, map-append (part w) (tabulate k f) (f k ∷ []), parts_append, width_tables k)

-- One set more.
pub set_more : (n : ℕ) (p : ℕ → ℕ → Bool) (out : List ℕ) (at k : ℕ) → at + n * k + n ≤ 8 * length out → at + n * k + n < 2 ^ 64
    → put_set (put_parts out at (map (part n) (tabulate k (λ i. set_where n (p i))))) (at + n * k) n (p k)
    ≡ put_parts out at (map (part n) (tabulate (k + 1) (λ i. set_where n (p i))))
unfolding set_where
set_more n p out at k inside fits =
    let held = map (part n) (tabulate k (λ i. set_where n (p i))) in
    set_put (put_parts out at held) (at + n * k) n (p k) (omega (arith, length_parts out at held)) fits ∙ tables_more n (λ i. set_where n (p i)) out at k

-- The counts, k sets and m relations are written one after the other.
pub tables_written : (n : ℕ) (sets : List ℕ) (k : ℕ) (relations : List ℕ) (m : ℕ) (out o₁ o₂ o₃ : List ℕ)
    → k ≤ most_tables → m ≤ most_tables → 10 ≤ 8 * length out
    → o₁ ≡ put_field out 0 10 (k * 32 + m)
    → o₂ ≡ put_parts o₁ 10 (map (part n) (sets_held n sets k))
    → o₃ ≡ put_parts o₂ (10 + n * k) (map (part (n * n)) (relations_held n relations m))
    → o₃ ≡ put_parts out 0 (part 5 k ∷ part 5 m ∷ (map (part n) (sets_held n sets k) ++ map (part (n * n)) (relations_held n relations m)))
unfolding sets_held
tables_written n sets k relations m out o₁ o₂ o₃ few_sets few_relations room e₁ e₂ e₃ =
    rw (
      e₃,
      e₂,
      e₁,
      counts_joined out k m (map (part n) (sets_held n sets k) ++ map (part (n * n)) (relations_held n relations m)) few_sets few_relations room,
      parts_append _ 10 (map (part n) (sets_held n sets k)) (map (part (n * n)) (relations_held n relations m)),
      width_tables n _ k,
    )
