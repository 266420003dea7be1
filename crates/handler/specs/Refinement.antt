-- What only the contracts of private functions cite.
use Rattle.std.specs.Prelude.{ℕ, List, ◌≡◌, ◌<◌}
use Rattle.std.proofs.lemmas.List.Edits.{sets}
use Rattle.std.specs.Int.Signed.{mag}
use Rattle.semantics.specs.Language.{lit, int, truth, var}
use Rattle.handler.specs.declared.expressions.ExprHead.{ExprHead}
use Rattle.handler.specs.declared.expressions.ExprHead.TheVariants.{Integer, Truth, Variable, Operation}
use Rattle.handler.specs.declared.terms.Term.{Term}
use Rattle.handler.specs.Terms.{expr_term, handler_terms}
use Rattle.handler.specs.Reading.{HandlerRead, handler, refused}

-- A node fits a word of 32 bits.
pub record TermFits (x : Term) : Type 0 where
  pub tag : x.tag < 4
  pub value : x.value < 65536
  pub right : x.right < 16384

-- A constant or a variable has room in 16 bits.
abbrev pub HeadFits : ExprHead → Type 0
HeadFits (Integer z next) = mag z < 32768
HeadFits (Truth b next) = Unit {0}
HeadFits (Variable v next) = v < 65536
HeadFits (Operation o next) = Unit {0}

-- The node of an expression without operands, from its head.
abbrev pub leaf_term : ExprHead → Term
leaf_term (Integer z next) = expr_term 0 (lit (int z))
leaf_term (Truth b next) = expr_term 0 (lit (truth b))
leaf_term (Variable v next) = expr_term 0 (var v)
leaf_term (Operation o next) = record { tag = 0; value = 0; right = 0 }

-- What reading a file does to the buffer for the nodes of its expressions. Nothing is said if it finds a fault.
abbrev pub NodesStored : List ℕ → List ℕ → HandlerRead → Type 0
NodesStored entry exit (handler sizes at S) = exit ≡ sets entry 0 (handler_terms 0 S)
NodesStored entry exit (refused k place) = Unit {0}
