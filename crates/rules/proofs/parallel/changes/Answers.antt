-- The join of three relations.
use Prim.Native.Nat.{ℕ}
use mathlib.Core.Path.{◌≡◌, ◌∙◌, refl}
use mathlib.Core.Bool.{Bool, true, false, ◌&&◌, ◌||◌}
use lib.Dec.{ltb}
use Rattle.states.specs.Sets.{capacity}
use Rattle.states.proofs.Rows.{union_rel}
use Rattle.rules.specs.Words.{word_relation}
use Rattle.rules.proofs.parallel.changes.Goals as goal

-- The bound of the inner join is that of the outer.
once : (b x y : Bool) → (b && (b && x || y)) ≡ (b && (x || y))
once true x y = refl
once false x y = refl

pub returns : goal.returns
unfolding word_relation
returns c s t = let a = c.args in
    let r : ℕ → Bool = λ i. word_relation a.n a.work.now i s t in
    simp (
      c.rows_of-3.ensures,
      union_rel _ _ _ c.union_of-outer.result c.union_of-outer.ensures,
      c.rows_of-2.ensures,
      c.rows_of.ensures,
    ) at (union_rel _ _ _ c.union_of.result c.union_of.ensures s t)
    ∙ once (ltb s capacity) (r a.r || r a.left) (r a.right)
