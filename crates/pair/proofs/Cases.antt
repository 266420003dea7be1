-- The cases of reading a pair, as one law: what each file was read as, and that none is too long.
use Prim.Native.Nat.{ℕ, ◌≤◌}
use mathlib.Core.Bool.{Bool, true, false, cond, ◌||◌}
use mathlib.Core.List.{List}
use mathlib.Core.Path.{◌≡◌, refl}
use native.Mathlib.Omega.{arith}
use borrow.Author.Tests.{ltb-false, le-ltb}
use lib.Dec.{ltb}
use lib.ListN.{length}
use Rattle.semantics.specs.Language.{Stmt}
use Rattle.semantics.specs.States.{product}
use Rattle.handler.specs.Reading.{HandlerRead, handler, refused, read_handler}
use Rattle.handler.specs.Terms.{most_terms}
use Rattle.handler.proofs.Handlers.{handler_exprs}
use Rattle.handler.proofs.TermTable.{ExprsIn}
use Rattle.derivation.specs.Reading as Proofs
use Rattle.pair.specs.Limits.{most_handler_bytes, most_proof_bytes, too_long}
use Rattle.pair.specs.Reading.{Pair, states_of, PairRead, pair, faulty, long, on_proof, on_handler, read_pair, terms_read}

module _ (hb pb : List ℕ) where
  -- Both files are within their length.
  pub record Short : Type 0 where
    pub handler_length : length hb ≤ most_handler_bytes
    pub proof_length : length pb ≤ most_proof_bytes

  -- What is known of two files that hold a pair.
  pub record Holds (x : Pair) : Type 0 where
    pub short : Short
    pub handler_read : read_handler hb ≡ handler x.sizes x.statement_bit x.statement
    pub proof_read : Proofs.read_proof pb (states_of x) ≡ Proofs.proof x.sets x.relations x.root_bit x.derivation

  pub data Case : PairRead → Type 0 where
    is_long : too_long hb pb ≡ true → Case long
    handler_fault : {k place : ℕ} → Short → read_handler hb ≡ refused k place → Case (faulty k place)
    proof_fault : {k place : ℕ} → Short → (sizes : List ℕ) (at : ℕ) (S : Stmt) → read_handler hb ≡ handler sizes at S
        → Proofs.read_proof pb (product sizes) ≡ Proofs.refused k place → Case (faulty k place)
    holds : {x : Pair} → Holds x → Case (pair x)

  short : too_long hb pb ≡ false → Short
  unfolding too_long
  short e = by (ltb most_handler_bytes (length hb)) (ltb most_proof_bytes (length pb)) refl refl e
    where
      by : (a b : Bool) → ltb most_handler_bytes (length hb) ≡ a → ltb most_proof_bytes (length pb) ≡ b → (a || b) ≡ false → Short
      by true b s t e = absurd (let z : ◌≡◌ {A = Bool} true false = e in let y : ◌≡◌ {A = ℕ} 0 1 = cc in omega arith)
      by false true s t e = absurd (let z : ◌≡◌ {A = Bool} true false = e in let y : ◌≡◌ {A = ℕ} 0 1 = cc in omega arith)
      by false false s t e = record { handler_length = ltb-false most_handler_bytes (length hb) s; proof_length = ltb-false most_proof_bytes (length pb) t }

  pub not_long : Short → too_long hb pb ≡ false
  unfolding too_long
  not_long s =
      let h = s.handler_length in
      let p = s.proof_length in
      rw (le-ltb most_handler_bytes (length hb), le-ltb most_proof_bytes (length pb))

  by_proof : Short → (sizes : List ℕ) (at : ℕ) (S : Stmt) → read_handler hb ≡ handler sizes at S
      → (r : Proofs.ProofRead) → Proofs.read_proof pb (product sizes) ≡ r → Case (on_proof sizes at S r)
  by_proof s sizes at S h (Proofs.refused k place) p = proof_fault s sizes at S h p
  by_proof s sizes at S h (Proofs.proof sets relations root d) p = holds (record { short = s; handler_read = h; proof_read = p })

  by_handler : Short → (r : HandlerRead) → read_handler hb ≡ r → Case (on_handler pb r)
  by_handler s (refused k place) h = handler_fault s h
  by_handler s (handler sizes at S) h = by_proof s sizes at S h (Proofs.read_proof pb (product sizes)) refl

  pub case : Case (read_pair hb pb)
  unfolding read_pair
  case = by (too_long hb pb) refl
    where
      by : (b : Bool) → too_long hb pb ≡ b → Case (cond b long (on_handler pb (read_handler hb)))
      by true e = is_long e
      by false e = by_handler (short e) (read_handler hb) refl

  -- Two files hold a pair exactly if they are read as it.
  holds_of : (r : PairRead) → Case r → (x : Pair) → r ≡ pair x → Holds x
  holds_of long (is_long e) x is = absurd (let z : ◌≡◌ {A = ℕ} 0 1 = cc in omega arith)
  holds_of (faulty k place) c x is = absurd (let z : ◌≡◌ {A = ℕ} 0 1 = cc in omega arith)
  holds_of (pair y) (holds h) x is = let same : y ≡ x = cc in rw same at h

  pub read_holds : (x : Pair) → read_pair hb pb ≡ pair x → Holds x
  read_holds x is = holds_of (read_pair hb pb) case x is

  pub holds_read : (x : Pair) → Holds x → read_pair hb pb ≡ pair x
  unfolding read_pair
  holds_read x h = rw (not_long h.short, h.handler_read, h.proof_read)

  -- A buffer with room for the most expression nodes holds those of the handler.
  pub exprs_read : (x : Pair) → Holds x → (entry : List ℕ) → most_terms ≤ length entry → ExprsIn (terms_read hb pb entry) 0 x.statement
  unfolding terms_read
  exprs_read x h entry room =
      rw (not_long h.short) (handler_exprs hb x.sizes x.statement_bit x.statement entry h.handler_read room)
