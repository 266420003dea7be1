-- What the private functions ensure. No public contract uses this.
use Rattle.std.specs.Prelude.{ℕ, List, Result, Ok, Err}
use Rattle.bits.specs.declared.FileFault.{FileFault}
use Rattle.handler.specs.declared.HandlerFile.{HandlerFile}
use Rattle.derivation.specs.declared.ProofFile.{ProofFile}
use Rattle.derivation.specs.Tables.{limited_word}
use Rattle.pair.specs.declared.Arrangement.{Arrangement}
use Rattle.pair.specs.declared.Arrangement.TheVariants.{Rows}
use Rattle.pair.specs.declared.PairFault.{PairFault}
use Rattle.pair.specs.declared.PairFault.TheVariants.{At}
use Rattle.pair.specs.declared.PairFile.{PairFile}

-- What is kept of a handler file and the proof file over it.
abbrev pub file_over : HandlerFile → Result ProofFile FileFault → Result PairFile PairFault
file_over f (Err fault) = Err (At fault)
file_over f (Ok p) =
    Ok (record { read = record { handler = f.summary; proof = p.head }; head = f.head; statements = f.statements; nodes = p.nodes })

-- The work words by the arrangement; 0 where there are more states or tables than there can be.
abbrev pub word_limited : Arrangement → List ℕ → ℕ → ℕ → ℕ → ℕ → ℕ
word_limited Rows = limited_word
