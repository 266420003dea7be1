-- So few states and tables that no product of them is large.
use native.Mathlib.Omega.{arith}
use borrow.Author.Rules.{rules}
use Rattle.canonical.proofs.Bounds.{FewBits, few_bits}
use Rattle.composition.proofs.proof.root_at.Goals.{Start}
use Rattle.composition.proofs.proof.root_at.Goals as goal

small : (c : Start) → FewBits c.args.n c.args.sets c.args.relations
small c = few_bits c.args.n c.args.sets c.args.relations (search rules) (search rules) (search rules)

pub overflow_mul-result : goal.overflow_mul-result
overflow_mul-result c = omega (arith, small c)

pub overflow_add-result : goal.overflow_add-result
overflow_add-result c = omega (arith, small c)

pub overflow_mul-result-2 : goal.overflow_mul-result-2
overflow_mul-result-2 c = omega (arith, small c)

pub overflow_mul-result-3 : goal.overflow_mul-result-3
overflow_mul-result-3 c = omega (arith, small c)

pub overflow_add-result-2 : goal.overflow_add-result-2
overflow_add-result-2 c = omega (arith, small c)

pub returns : goal.returns
returns c = omega (arith, small c)
