-- The work words after reading: a pair that was read has no more states and tables than there can be.
use Prim.Native.Nat.{ℕ}
use mathlib.Core.List.{List}
use mathlib.Core.Path.{◌≡◌}
use Rattle.handler.proofs.Heads.{head_read}
use Rattle.handler.proofs.Handlers.{known_handler}
use Rattle.derivation.specs.Tables.{written}
use Rattle.derivation.proofs.Buffers.{written_same}
use Rattle.derivation.proofs.Files.{read_known}
use Rattle.derivation.proofs.Limits.{limits_within, limited_word_lem}
use Rattle.pair.specs.declared.Arrangement.{Arrangement}
use Rattle.pair.specs.declared.Arrangement.TheVariants.{Rows}
use Rattle.pair.specs.Reading.{Pair, states_of}
use Rattle.pair.specs.Modes.{word_by}
use Rattle.pair.specs.Refinement.{word_limited}
use Rattle.pair.proofs.Cases.{Holds}

pub in_limits_lem : (hb pb : List ℕ) (x : Pair) → Holds hb pb x → (a : Arrangement) (work : List ℕ)
    → written (word_limited a pb (states_of x) x.sets x.relations) work ≡ written (word_by a pb (states_of x) x.sets x.relations) work
in_limits_lem hb pb x h Rows work =
    let n = states_of x in
    let few = (head_read hb x.sizes x.statement_bit (known_handler hb x.sizes x.statement_bit x.statement h.handler_read).head).most in
    let known = read_known pb n x.sets x.relations x.root_bit x.derivation h.proof_read in
    let within = limits_within n x.sets x.relations few known.sets_most known.relations_most in
    written_same _ _ work (λ j. limited_word_lem n x.sets x.relations pb j within)
