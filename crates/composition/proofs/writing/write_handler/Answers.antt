-- The bytes of the file are cleared, and then its fields are written one after the other.
use Prim.Native.Nat.{◌-◌}
use mathlib.Core.Path.{◌∙◌, ap}
use native.Mathlib.Omega.{arith}
use borrow.Author.Rules.{rules}
use Rattle.writer.specs.Writing.{cleared}
use Rattle.composition.proofs.HandlerFields.{handler_written}
use Rattle.composition.proofs.writing.write_handler.Goals as goal

pub returns : goal.returns
returns c =
    let a = c.args in
    handler_written a.first.now a.at (a.end - a.at) a.second.now a.from (a.to - a.from) a.out.now _ _ _ _ _
    (search rules) (omega arith) (omega arith) (c.clear.ensures ∙ ap (cleared a.out.now) c.file_bytes.ensures)
    c.copy.ensures c.put.ensures c.copy-2.ensures c.copy-3.ensures
