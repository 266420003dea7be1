-- The tables as the work words hold them: entry i is set i, entry 16 + capacity * r + s is row s of relation r.
use Rattle.std.specs.Prelude.{ℕ, ◌+◌, ◌*◌, Bool, ◌&&◌, List, drop, ltb}
use Rattle.states.specs.Sets.{set_words, capacity, mem, entry_at}
use Rattle.states.specs.Relations.{rel}
use Rattle.semantics.specs.Derivations.{Spec}
use Rattle.semantics.specs.declared.Names.{Names}
use Rattle.derivation.specs.Tables.{most_tables}

-- Set i and relation r over n states.
unfoldable pub word_set : ℕ → List ℕ → ℕ → ℕ → Bool
word_set n work i s = ltb s n && mem (entry_at work i) s

unfoldable pub word_relation : ℕ → List ℕ → ℕ → ℕ → ℕ → Bool
word_relation n work r = rel n (drop (set_words * (most_tables + capacity * r)) work)

-- The four tables of a node by their members.
abbrev pub word_spec : ℕ → List ℕ → Names → Spec
word_spec n work h =
    record { P = word_set n work h.p; R = word_relation n work h.r; G = word_relation n work h.g; Q = word_relation n work h.q }
