-- The handler file of a composition is read as the parallel of both handlers: each of its four fields is where it must be read, and the file
-- ends after the last.
use Prim.Native.Nat.{ℕ, ◌+◌, ◌*◌, ◌≤◌}
use mathlib.Core.List.{List}
use mathlib.Core.Path.{◌≡◌, sym}
use native.Mathlib.Nat.{zero-add}
use native.Mathlib.Omega.{arith}
use lib.ListN.{length}
use Rattle.bits.specs.Fields.{bits_at, fill_at}
use Rattle.std.specs.Prelude.{Result, Ok, Err}
use Rattle.bits.proofs.Laws.{bits_below}
use Rattle.writer.specs.Packing.{Part, width_of, bytes_for, packed}
use Rattle.writer.proofs.Holding.{Holds, Fitting}
use Rattle.writer.proofs.Packed.{length_packed, packed_holds, packed_ends}
use Rattle.semantics.specs.Language.{Stmt, par}
use Rattle.handler.specs.Kinds.{stmt_width}
use Rattle.handler.specs.StatementTable.{statements, stmt_levels}
use Rattle.handler.specs.Reading.{handler, read_handler}
use Rattle.handler.proofs.Moved.{Same}
use Rattle.handler.proofs.StmtMoved.{parallel_read}
use Rattle.form.proofs.Verdicts.{same_members}
use Rattle.pair.specs.Limits.{most_handler_bytes}
use Rattle.joint.specs.Joining.{handler_parts}

module _ (h : List ℕ) (at : ℕ) (S : Stmt) (h' : List ℕ) (at' : ℕ) (T : Stmt) where
  abbrev parts : List Part
  parts = handler_parts h at (stmt_width S) h' at' (stmt_width T)

  abbrev file : List ℕ
  file = packed (handler_parts h at (stmt_width S) h' at' (stmt_width T))

  width_is : width_of parts ≡ at + 3 + stmt_width S + stmt_width T
  unfolding handler_parts width_of
  width_is = omega arith

  fields_fit : Fitting parts
  unfolding handler_parts Fitting
  fields_fit = (bits_below h 0 at, (omega arith, (bits_below h at (stmt_width S), (bits_below h' at' (stmt_width T), tt))))

  held : (bits_at file 0 at ≡ bits_at h 0 at) × (bits_at file at 3 ≡ 3) × (bits_at file (at + 3) (stmt_width S) ≡ bits_at h at (stmt_width S))
      × (bits_at file (at + 3 + stmt_width S) (stmt_width T) ≡ bits_at h' at' (stmt_width T))
  unfolding handler_parts Holds
  held = let (first, (second, (third, (fourth, _)))) = rw (zero-add at) at (packed_holds parts fields_fit) in (first, second, third, fourth)

  file_ends : fill_at file (at + 3 + stmt_width S + stmt_width T) ≡ Ok tt
  file_ends = rw width_is at (packed_ends parts)

  module _ (short : length (packed (handler_parts h at (stmt_width S) h' at' (stmt_width T))) ≤ most_handler_bytes) where
    moved : (a : List ℕ) (x y w : ℕ) → y + w ≤ at + 3 + stmt_width S + stmt_width T → bits_at file y w ≡ bits_at a x w → Same a x file y w
    unfolding bytes_for
    moved a x y w within same =
        let inside : y + w ≤ 8 * length file = omega (arith, length_packed parts, width_is) in
        record { bits = same_members a file x y w (sym same); inside = inside; fits = omega (arith, inside) }

    pub joined_read : (sizes : List ℕ) → read_handler h ≡ handler sizes at S → read_handler h' ≡ handler sizes at' T
        → statements (par S T) ≤ 63 → stmt_levels (par S T) ≤ 16
        → read_handler (packed (handler_parts h at (stmt_width S) h' at' (stmt_width T))) ≡ handler sizes at (par S T)
    joined_read sizes read read' few high =
        let head = moved h 0 0 at (omega arith) held.0 in
        let left = moved h at (at + 3) (stmt_width S) (omega arith) held.2 in
        let right = moved h' at' (at + 3 + stmt_width S) (stmt_width T) (omega arith) held.3 in
        parallel_read h h' file sizes at at' S T read read' head held.1 left right file_ends few high
