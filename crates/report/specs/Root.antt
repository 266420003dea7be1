-- What a host must know of a pair that it accepted: how many states there are, and which tables of the proof file are the P, R, G and Q
-- of the root. A host that does not know R cannot keep it.
use Rattle.std.specs.Prelude.{ℕ, ◌+◌, ◌*◌, ◌^◌, List}
use Rattle.semantics.specs.declared.Names.{Names}
use Rattle.semantics.specs.Derivations.{names_of}
use Rattle.pair.specs.Reading.{states_of, PairRead, pair, faulty, long, read_pair}

-- N and the numbers of P, R, G and Q in one number, 8 bits each, N in the lowest.
abbrev pub root_number : ℕ → Names → ℕ
root_number n h = n + 2 ^ 8 * h.p + 2 ^ 16 * h.r + 2 ^ 24 * h.g + 2 ^ 32 * h.q

-- The root of a pair; 0 where a file is too long or ill-formed (2 and 10 to 25). No condition is looked at.
abbrev pub root_in : PairRead → ℕ
root_in long = 0
root_in (faulty k place) = 0
root_in (pair x) = root_number (states_of x) (names_of x.derivation)

unfoldable pub root_of : List ℕ → List ℕ → ℕ
root_of hb pb = root_in (read_pair hb pb)
