-- The six steps move bit s to bit 63 - s, as is computed for each.
use Prim.Native.Nat.{ℕ}
use mathlib.Core.List.{List, [], ◌∷◌}
use mathlib.Core.Path.{◌≡◌, refl, ap, ◌∙◌}
use native.Mathlib.Omega.{arith}
use Rattle.states.specs.Search.{all}
use Rattle.states.proofs.Swaps.{swap, swap_found, swaps, reversal}
use Rattle.states.proofs.reversal.reversed.Goals.{After-swapped}
use Rattle.states.proofs.reversal.reversed.Goals as goal

abbrev steps : List (ℕ × ℕ)
steps =
    (1, 0x5555555555555555) ∷ (2, 0x3333333333333333) ∷ (4, 0x0f0f0f0f0f0f0f0f) ∷ (8, 0x00ff00ff00ff00ff)
    ∷ (16, 0x0000ffff0000ffff) ∷ (32, 0x00000000ffffffff) ∷ []

-- What the calls find one after the other.
found : (c : After-swapped) → c.swapped.result ≡ swaps steps c.args.word
found c =
    let d = c.before in
    swap_found _ _ _ _ c.swapped.ensures
    ∙ ap (swap 32 0x00000000ffffffff) (swap_found _ _ _ _ c.swapped-word-5.ensures
    ∙ ap (swap 16 0x0000ffff0000ffff) (swap_found _ _ _ _ d.swapped-word-4.ensures
    ∙ ap (swap 8 0x00ff00ff00ff00ff) (swap_found _ _ _ _ d.swapped-word-3.ensures
    ∙ ap (swap 4 0x0f0f0f0f0f0f0f0f) (swap_found _ _ _ _ d.swapped-word-2.ensures
    ∙ ap (swap 2 0x3333333333333333) (swap_found _ _ _ _ d.swapped-word.ensures)))))

pub returns : goal.returns
unfolding all
returns c = found c ∙ reversal steps refl refl _ (omega arith)
