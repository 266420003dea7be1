-- Laws that every walk over expressions cites: one level of reading, what a node's head says of its place, and what is
-- known of an expression that was read.
use Prim.Native.Nat.{ℕ, zero, suc, ◌+◌, ◌-◌, ◌*◌, ◌≤◌, ◌<◌}
use mathlib.Core.List.{List}
use mathlib.Core.Path.{◌≡◌, refl}
use native.Mathlib.Numerals.{add-one}
use native.Mathlib.Omega.{arith}
use borrow.Author.Tests.{leb-false, ltb-true, ltb-false, eqb-false}
use lib.Dec.{leb, ltb, eqb}
use lib.ListN.{length}
use lib.Signed.{mag}
use Rattle.std.specs.Prelude.{None, Result, Ok, Err}
use Rattle.std.proofs.lemmas.Option.{slice_get-get_or}
use Rattle.bits.specs.Fields.{bit_length}
use Rattle.bits.specs.Fields as fields
use Rattle.bits.specs.declared.FileFault.{FileFault}
use Rattle.bits.proofs.Places.{FaultIn, either, fault_at, fault_missing}
use Rattle.semantics.specs.Language.{int, truth, Expr, lit, var, rows, row_of}
use Rattle.semantics.specs.declared.Kind.TheVariants as kind
use Rattle.semantics.specs.StepNumber.{E}
use Rattle.handler.specs.declared.expressions.ExprHead.{ExprHead}
use Rattle.handler.specs.declared.expressions.ExprHead.TheVariants.{Integer, Truth, Variable, Operation}
use Rattle.handler.specs.Expressions.{signed, integer_head, truth_head, variable_head, operation_head, payload_head, tag_head, expr_head, ExprRead, good, bad, joined, operands, on_expr_head, expr_at}
use Rattle.handler.specs.Kinds.{width}
use Rattle.handler.specs.Terms.{expr_nodes}
use Rattle.handler.proofs.Heads.{by_test, by_field_or}
use Rattle.handler.proofs.TermTable.{ExprFits}

-- One level of reading, with `levels - 1` below it as in the code.
pub expr_step : (bytes : List ℕ) (count levels nodes at : ℕ) (head : Result ExprHead FileFault) → 0 < levels
    → expr_head bytes count nodes at ≡ head → expr_at levels bytes count nodes at ≡ on_expr_head head nodes (expr_at (levels - 1) bytes count)
unfolding expr_at
expr_step bytes count zero nodes at head more e = absurd (omega arith)
expr_step bytes count (suc levels) nodes at head more e =
    let less : suc levels - 1 ≡ levels = omega arith in
    rw (e, less)

pub inner_step : (bytes : List ℕ) (count levels nodes at o next : ℕ) → 0 < levels → expr_head bytes count nodes at ≡ Ok (Operation o next)
    → expr_at levels bytes count nodes at ≡ operands o (expr_at (levels - 1) bytes count (nodes + 1) next) (expr_at (levels - 1) bytes count)
inner_step bytes count levels nodes at o next more e = rw (add-one nodes) (expr_step bytes count levels nodes at _ more e)

-- A head that is no operation has no operands.
pub childless : (head : ExprHead) → ((o next : ℕ) → head ≡ Operation o next → ⊥) → (nodes : ℕ) (f g : ℕ → ℕ → ExprRead)
    → on_expr_head (Ok head) nodes f ≡ on_expr_head (Ok head) nodes g
childless (Integer z next) leaf nodes f g = refl
childless (Truth b next) leaf nodes f g = refl
childless (Variable v next) leaf nodes f g = refl
childless (Operation o next) leaf nodes f g = absurd (leaf o next refl)

-- Every operation that is read has a row.
pub row_used : (o : ℕ) → o < 7 → row_of o ≡ None → ⊥
row_used o small e =
    let used = rw (slice_get-get_or rows o (kind.Integer, kind.Integer, kind.Integer) small) at e in
    let z : ◌≡◌ {A = ℕ} 0 1 = cc in
    omega arith

-- What is known of a node's head: there was room for the node, where the head ends, and that this is in the file. A fault is in the file
-- if the node begins there.
unfoldable pub Headed : List ℕ → ℕ → ℕ → ℕ → Result ExprHead FileFault → Type 0
Headed bytes count nodes at (Ok (Integer z next)) = (nodes < 31) × (next ≡ at + 10) × (mag z < 128) × (next ≤ 8 * length bytes)
Headed bytes count nodes at (Ok (Truth b next)) = (nodes < 31) × (next ≡ at + 3) × (next ≤ 8 * length bytes)
Headed bytes count nodes at (Ok (Variable v next)) = (nodes < 31) × (next ≡ at + 4) × (v < count) × (v < 4) × (next ≤ 8 * length bytes)
Headed bytes count nodes at (Ok (Operation o next)) = (nodes < 31) × (next ≡ at + 5) × (o < 7) × (next ≤ 8 * length bytes)
Headed bytes count nodes at (Err fault) = at ≤ 8 * length bytes → FaultIn bytes 10 18 fault.number fault.bit

signed_small : (n : ℕ) → n < 256 → mag (signed n) < 128
unfolding signed
signed_small n h = by_test (λ z. mag z < 128) (ltb n 128) _ _ (ltb-true n 128) (λ t. omega (arith, ltb-false n 128 t))

module _ (bytes : List ℕ) (count nodes at : ℕ) where
  abbrev Here : Result ExprHead FileFault → Type 0
  Here = Headed bytes count nodes at

  on_payload : nodes < 31 → (next tag : ℕ) → next ≡ at + 2 → next ≤ 8 * length bytes → Here (payload_head bytes count next tag)
  unfolding Headed payload_head integer_head truth_head variable_head operation_head
  on_payload room next tag moved inside =
      let missing : Here (Err (fields.fault_at 10 (bit_length bytes))) = λ here. fault_missing bytes 10 18 10 refl in
      either Here (eqb tag 0) _ _
      (by_field_or bytes Here next 8 10 integer_head missing (λ n after t. omega (arith, signed_small n t.small)))
      (either Here (eqb tag 1) _ _ (by_field_or bytes Here next 1 10 truth_head missing (λ n after t. omega arith))
      (either Here (eqb tag 2) _ _
      (by_field_or bytes Here next 2 10 (variable_head count next) missing (λ v after t.
      by_test Here (ltb v count) _ _ (λ e. omega (arith, ltb-true v count e)) (λ e here. fault_at bytes 10 18 15 refl next inside)))
      (by_field_or bytes Here next 3 10 (operation_head next) missing (λ o after t.
      by_test Here (eqb o 7) _ _ (λ e here. fault_at bytes 10 18 14 refl next inside) (λ e. let other = eqb-false o 7 e in omega arith)))))

  pub headed : Here (expr_head bytes count nodes at)
  unfolding Headed expr_head tag_head
  headed =
      by_field_or bytes Here at 2 10 (tag_head bytes count nodes at) (λ here. fault_missing bytes 10 18 10 refl) (λ tag next t.
      by_test Here (leb 31 nodes) _ _ (λ e here. fault_at bytes 10 18 17 refl at here)
      (λ e. on_payload (leb-false 31 nodes e) next tag t.moved (omega arith)))

  pub headed_as : (head : Result ExprHead FileFault) → expr_head bytes count nodes at ≡ head → Here head
  headed_as head e = rw e at headed

-- What is known of an expression that was read: where it ends, that its E is at most the number of its nodes, that these are at
-- most 31, of at most 10 bits each, that its numbers fit the words of a table, and that it is in the file.
pub record Read (bytes : List ℕ) (nodes at : ℕ) (e : Expr) (after next : ℕ) : Type 0 where
  pub ends : next ≡ at + width e
  pub counted : nodes + E e ≤ after
  pub added : after ≡ nodes + expr_nodes e
  pub short : width e + 10 * nodes ≤ 10 * after
  pub room : after ≤ 31
  pub fits : ExprFits e
  pub inside : next ≤ 8 * length bytes

abbrev pub AllRead : List ℕ → ℕ → ℕ → ExprRead → Type 0
AllRead bytes nodes at (good e after next) = Read bytes nodes at e after next
AllRead bytes nodes at (bad k place) = at ≤ 8 * length bytes → FaultIn bytes 10 18 k place

pub all_read : (levels : ℕ) (bytes : List ℕ) (count nodes at : ℕ) → AllRead bytes nodes at (expr_at levels bytes count nodes at)
unfolding expr_at Headed
all_read zero bytes count nodes at = fault_at bytes 10 18 17 refl at
all_read (suc levels) bytes count nodes at = by (expr_head bytes count nodes at) (headed bytes count nodes at) (all_read levels bytes count)
  where
    right : (o next : ℕ) → Headed bytes count nodes at (Ok (Operation o next)) → (l : Expr) (after behind : ℕ) → Read bytes (suc nodes) next l after behind
        → (x : ExprRead) → AllRead bytes after behind x → AllRead bytes nodes at (joined o l x)
    right o next p l after behind before (bad k place) known = λ here. known before.inside
    right o next p l after behind before (good r last end) known =
        record {
          ends = omega arith;
          counted = omega arith;
          added = omega arith;
          short = omega arith;
          room = known.room;
          fits = (omega arith, before.fits, known.fits);
          inside = known.inside;
        }

    left : (o next : ℕ) → Headed bytes count nodes at (Ok (Operation o next)) → (x : ExprRead) → AllRead bytes (suc nodes) next x → (expr : ℕ → ℕ → ExprRead)
        → ((n i : ℕ) → AllRead bytes n i (expr n i)) → AllRead bytes nodes at (operands o x expr)
    left o next p (bad k place) known expr later = λ here. known p.3
    left o next p (good l after behind) known expr later = right o next p l after behind known (expr after behind) (later after behind)

    leaf : (e : Expr) (next : ℕ) → (nodes < 31) × (next ≡ at + width e) × (E e ≤ 1) × (expr_nodes e ≡ 1) × (width e ≤ 10) × (next ≤ 8 * length bytes)
        → ExprFits e → Read bytes nodes at e (suc nodes) next
    leaf e next p fits =
        record { ends = p.1; counted = omega arith; added = omega arith; short = omega arith; room = omega arith; fits = fits; inside = omega arith }

    by : (h : Result ExprHead FileFault) → Headed bytes count nodes at h → ((n i : ℕ) → AllRead bytes n i (expr_at levels bytes count n i))
        → AllRead bytes nodes at (on_expr_head h nodes (expr_at levels bytes count))
    by (Ok (Integer z next)) p later = leaf (lit (int z)) next (omega arith) (omega (arith, p.2))
    by (Ok (Truth b next)) p later = leaf (lit (truth b)) next (omega arith) tt
    by (Ok (Variable v next)) p later = leaf (var v) next (omega arith) (omega (arith, p.3))
    by (Ok (Operation o next)) p later =
        left o next p (expr_at levels bytes count (suc nodes) next) (later (suc nodes) next) (expr_at levels bytes count) later
    by (Err fault) p later = p

pub expr_read : (levels : ℕ) (bytes : List ℕ) (count nodes at : ℕ) (e : Expr) (after next : ℕ)
    → expr_at levels bytes count nodes at ≡ good e after next → Read bytes nodes at e after next
expr_read levels bytes count nodes at e after next p = rw p at (all_read levels bytes count nodes at)
