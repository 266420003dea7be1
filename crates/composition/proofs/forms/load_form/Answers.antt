-- The form is written at the front of the bytes, and what is loaded from it is what is taken from the pair.
use Prim.Native.Nat.{ℕ}
use mathlib.Core.Path.{sym}
use lib.ListN.{length-replicate}
use lib.Seq.{length-take-le}
use Rattle.pair.specs.Limits.{most_proof_bytes}
use Rattle.composition.proofs.Loading.{front_fits, front_is, is_read, form_loaded}
use Rattle.composition.proofs.forms.load_form.Goals as goal

pub slice_bounds-bytes-end : goal.slice_bounds-bytes-end
slice_bounds-bytes-end c =
    front_fits _ _ c.requires.0 _ (length-replicate {A = ℕ} most_proof_bytes 0) _ c.write_form.ensures.answer _ c.written_bytes-length.ensures _
    c.write_form.ensures.bytes

pub slice_bounds-load_file-end : goal.slice_bounds-load_file-end
slice_bounds-load_file-end c = sym (length-take-le _ _ (front_fits _ _ c.requires.0 _ (length-replicate {A = ℕ} most_proof_bytes 0) _ c.write_form.ensures.answer _ c.written_bytes-length.ensures _
    c.write_form.ensures.bytes))

pub returns : goal.returns
returns c =
    let pre = c.requires in
    let front = front_is _ _ pre.0 _ (length-replicate {A = ℕ} most_proof_bytes 0) _ c.write_form.ensures.answer _ c.written_bytes-length.ensures _
    c.write_form.ensures.bytes in
    form_loaded _ _ pre.0 _ pre.2 _ _ _ pre.1 _ front c.load_file.ensures.answer c.load_file.ensures.tables

pub load_file-requires : goal.load_file-requires
load_file-requires c =
    let pre = c.requires in
    is_read _ _ pre.0 _ pre.1 _ (front_is _ _ pre.0 _ (length-replicate {A = ℕ} most_proof_bytes 0) _ c.write_form.ensures.answer _ c.written_bytes-length.ensures _
    c.write_form.ensures.bytes)
