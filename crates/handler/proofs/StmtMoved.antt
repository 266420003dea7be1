-- Reading the bits of a statement elsewhere, by the laws of Moved; and the parallel of two handlers as a file: the head of the first, the
-- code of a parallel, both statements bit for bit and zero fill are read as the parallel of both.
use Prim.Native.Nat.{ℕ, zero, suc, ◌+◌, ◌≤◌, ◌<◌, max}
use mathlib.Core.Bool.{Bool, true, false, cond, ◌||◌}
use mathlib.Core.List.{List}
use mathlib.Core.Path.{◌≡◌, refl, ◌∙◌}
use native.Mathlib.Omega.{arith}
use borrow.Author.Tests.{ne_eqb, lt-leb}
use lib.Dec.{leb, ltb, eqb}
use lib.ListN.{length}
use Rattle.std.specs.Prelude.{Result, Ok, Err}
use Rattle.bits.specs.Fields.{bits_at, field_or, fill_at}
use Rattle.bits.specs.declared.FileFault.{FileFault}
use Rattle.bits.proofs.Laws.{found}
use Rattle.bits.proofs.Places.{either}
use Rattle.semantics.specs.Language.{Expr, Stmt, seq, par, if, while}
use Rattle.handler.specs.declared.StmtHead.{StmtHead}
use Rattle.handler.specs.declared.StmtHead.TheVariants.{Nil, Assign, Pair, Test}
use Rattle.handler.specs.Expressions.{ExprRead, good, bad, whole_expr}
use Rattle.handler.specs.Statements.{target_head, code_head, mark_head, stmt_head, StmtRead, whole, fault, on_assigned, on_body, on_test, on_right, on_left_side, on_stmt_head, stmt_at, whole_stmt}
use Rattle.handler.specs.Kinds.{width, stmt_width}
use Rattle.handler.specs.StatementTable.{statements, stmt_levels}
use Rattle.handler.specs.Reading.{handler, read_handler}
use Rattle.handler.proofs.Heads.{by_test, by_field_or}
use Rattle.handler.proofs.StmtFolds.{stmt_step, Marked, marked, whole_read, stmt_read}
use Rattle.handler.proofs.Fitting.{kinds_anywhere}
use Rattle.handler.proofs.Handlers.{known_handler}
use Rattle.handler.proofs.Moved.{Same, chosen, same_part, same_first, field_moved, moved_whole, moved_head}

module _ (a b : List ℕ) where
  -- The head of a statement; in b there are `below` levels left below it and `before` statements before it.
  module _ (count x y below before : ℕ) where
    abbrev Room : ℕ → Type 0
    Room wide = Same a x b y wide × (0 < below) × (before < 63)

    abbrev MarkMoves : Result StmtHead FileFault → Result StmtHead FileFault → Type 0
    MarkMoves (Ok (Nil next)) h = Room 3 → h ≡ Ok (Nil (y + 3))
    MarkMoves (Ok (Assign v next)) h = Room 5 → h ≡ Ok (Assign v (y + 5))
    MarkMoves (Ok (Pair code next)) h = Room 3 → h ≡ Ok (Pair code (y + 3))
    MarkMoves (Ok (Test code next)) h = Room 3 → h ≡ Ok (Test code (y + 3))
    MarkMoves (Err f) h = Unit {0}

    code_moves : (code : ℕ) → MarkMoves (code_head a count x code (x + 3)) (code_head b count y code (y + 3))
    unfolding code_head target_head
    code_moves code =
        let Target : Result StmtHead FileFault → Type 0 = λ h. MarkMoves h (target_head count (y + 3) (field_or b (y + 3) 2 10)) in
        chosen MarkMoves (eqb code 0) _ _ _ _ (λ r. refl)
        (chosen MarkMoves (eqb code 1) _ _ _ _
        (by_field_or a Target (x + 3) 2 10 (target_head count (x + 3)) tt (λ v next t.
        by_test Target (ltb v count) _ _
        (λ e r. let same = same_part a b x y 5 r.0 3 2 (x + 3) (y + 3) refl refl (omega arith) in
        rw (field_moved a b (x + 3) (y + 3) 2 10 v next (y + 5) t same (omega arith), e)) (λ e. tt)))
        (chosen MarkMoves (ltb code 4) _ _ _ _ (λ r. refl) (chosen MarkMoves (ltb code 6) _ _ _ _ (λ r. refl) tt)))

    -- What is read after a code is read if the code is the same and there is room.
    after_code : (h g k : Result StmtHead FileFault) → (Room 3 → k ≡ g) → MarkMoves h g → MarkMoves h k
    after_code (Ok (Nil next)) g k code m = λ r. code r ∙ m r
    after_code (Ok (Assign v next)) g k code m = λ r.
        code (same_first a b x y 5 r.0 3 (omega arith), r.1, r.2) ∙ m r
    after_code (Ok (Pair c next)) g k code m = λ r. code r ∙ m r
    after_code (Ok (Test c next)) g k code m = λ r. code r ∙ m r
    after_code (Err f) g k code m = tt

    mark_moves : (levels so_far : ℕ) → MarkMoves (stmt_head a count levels so_far x) (stmt_head b count below before y)
    unfolding stmt_head mark_head
    mark_moves levels so_far =
        let Moves : Result StmtHead FileFault → Type 0 = λ h. MarkMoves h (stmt_head b count below before y) in
        by_field_or a Moves x 3 10 (mark_head a count (eqb levels 0 || leb 63 so_far) x) tt (λ code next t.
        either Moves (eqb levels 0 || leb 63 so_far) _ _ tt
        (rw t.moved (after_code (code_head a count x code (x + 3)) (code_head b count y code (y + 3)) (stmt_head b count below before y)
        (λ r. rw (field_moved a b x y 3 10 code next (y + 3) t r.0 refl, ne_eqb below 0 (λ z. omega arith), lt-leb 63 before r.2))
        (code_moves code))))

  -- A statement that is read from a is read from b, with k levels to go and `before` statements before it.
  abbrev StmtMoves : ℕ → ℕ → ℕ → ℕ → StmtRead → StmtRead → Type 0
  StmtMoves k before x y (whole S after next) r =
      Same a x b y (stmt_width S) → stmt_levels S < k → before + statements S ≤ 63 → r ≡ whole S (before + statements S) (y + stmt_width S)
  StmtMoves k before x y (fault code place) r = Unit {0}

  no_level : (before x y : ℕ) (r z : StmtRead) → StmtMoves 0 before x y r z
  no_level before x y (whole S after next) z = λ s deep few. absurd (omega arith)
  no_level before x y (fault code place) z = tt

  same_whole : (S : Stmt) (n m i j : ℕ) → n ≡ m → i ≡ j → whole S n i ≡ whole S m j
  same_whole S n m i j p q = rw (p, q)

  -- A sequence and a parallel have the same bits, levels and statements, and so have an if and a while.
  pair_moves : (t : Bool) (l r : Stmt) (after next k before x y : ℕ) (z : StmtRead)
      → (Same a x b y (3 + stmt_width l + stmt_width r) → suc (max (stmt_levels l) (stmt_levels r)) < k → before + (1 + statements l + statements r) ≤ 63
      → z ≡ whole (cond t (seq l r) (par l r)) (before + (1 + statements l + statements r)) (y + (3 + stmt_width l + stmt_width r)))
      → StmtMoves k before x y (whole (cond t (seq l r) (par l r)) after next) z
  pair_moves true l r after next k before x y z moves = moves
  pair_moves false l r after next k before x y z moves = moves

  test_moves : (t : Bool) (e : Expr) (s : Stmt) (after next k before x y : ℕ) (z : StmtRead)
      → (Same a x b y (3 + width e + stmt_width s) → suc (stmt_levels s) < k → before + (1 + statements s) ≤ 63
      → z ≡ whole (cond t (if e s) (while e s)) (before + (1 + statements s)) (y + (3 + width e + stmt_width s)))
      → StmtMoves k before x y (whole (cond t (if e s) (while e s)) after next) z
  test_moves true e s after next k before x y z moves = moves
  test_moves false e s after next k before x y z moves = moves

  module _ (count : ℕ) where
    -- One level: what the parts are read as, from a and from b.
    module _ (levels below : ℕ) (later : (n i m j : ℕ) → StmtMoves below m i j (stmt_at levels a count n i) (stmt_at below b count m j))
        (so_far before x y : ℕ) (g : Result StmtHead FileFault) where
      abbrev here : StmtRead
      here = on_stmt_head g (whole_expr b count) before (stmt_at below b count)

      abbrev Marks : Result StmtHead FileFault → Type 0
      Marks h = MarkMoves count x y below before h g

      assign_moved : (v : ℕ) → Marks (Ok (Assign v (x + 5))) → (e : ExprRead) → whole_expr a count (x + 5) ≡ e
          → StmtMoves (suc below) before x y (on_assigned v (suc so_far) e) here
      assign_moved v m (bad k place) read = tt
      assign_moved v m (good e nodes next) read = λ s deep few.
          let same = same_part a b x y (5 + width e) s in
          rw (
            m (same_first a b x y (5 + width e) s 5 (omega arith), omega arith, omega arith),
            moved_whole a b count (x + 5) (y + 5) e nodes next read (same 5 (width e) (x + 5) (y + 5) refl refl (omega arith)),
          )
          (same_whole _ (suc before) (before + 1) (y + 5 + width e) (y + (5 + width e)) (omega arith) (omega arith))

      right_moved : (code : ℕ) → Marks (Ok (Pair code (x + 3))) → (l : Stmt) (n i : ℕ) → stmt_at levels a count (suc so_far) (x + 3) ≡ whole l n i
          → (r : StmtRead) → stmt_at levels a count n i ≡ r → StmtMoves (suc below) before x y (on_right code l r) here
      right_moved code m l n i first (fault k place) second = tt
      right_moved code m l n i first (whole r after end) second =
          pair_moves (eqb code 2) l r after end (suc below) before x y here (λ s deep few.
          let ends = (stmt_read levels a count (suc so_far) (x + 3) l n i first).ends in
          let same = same_part a b x y (3 + stmt_width l + stmt_width r) s in
          let between = suc before + statements l in
          let middle = y + 3 + stmt_width l in
          rw (
            m (same_first a b x y (3 + stmt_width l + stmt_width r) s 3 (omega arith), omega arith, omega arith),
            rw first at (later (suc so_far) (x + 3) (suc before) (y + 3)) (same 3 (stmt_width l) (x + 3) (y + 3) refl refl (omega arith)) (omega arith) (omega arith),
            rw second at (later n i between middle) (same (3 + stmt_width l) (stmt_width r) i middle (omega arith) (omega arith) (omega arith)) (omega arith) (omega arith),
          )
          (same_whole _ (between + statements r) _ (middle + stmt_width r) _ (omega arith) (omega arith)))

      left_moved : (code : ℕ) → Marks (Ok (Pair code (x + 3))) → (l : StmtRead) → stmt_at levels a count (suc so_far) (x + 3) ≡ l
          → StmtMoves (suc below) before x y (on_left_side code l (stmt_at levels a count)) here
      left_moved code m (fault k place) first = tt
      left_moved code m (whole l n i) first = right_moved code m l n i first (stmt_at levels a count n i) refl

      body_moved : (code : ℕ) → Marks (Ok (Test code (x + 3))) → (e : Expr) (nodes i : ℕ) → whole_expr a count (x + 3) ≡ good e nodes i
          → (r : StmtRead) → stmt_at levels a count (suc so_far) i ≡ r → StmtMoves (suc below) before x y (on_body code e r) here
      body_moved code m e nodes i first (fault k place) second = tt
      body_moved code m e nodes i first (whole r after end) second =
          test_moves (eqb code 4) e r after end (suc below) before x y here (λ s deep few.
          let ends = (whole_read a count (x + 3) e nodes i first).ends in
          let same = same_part a b x y (3 + width e + stmt_width r) s in
          let middle = y + 3 + width e in
          rw (
            m (same_first a b x y (3 + width e + stmt_width r) s 3 (omega arith), omega arith, omega arith),
            moved_whole a b count (x + 3) (y + 3) e nodes i first (same 3 (width e) (x + 3) (y + 3) refl refl (omega arith)),
            rw second at (later (suc so_far) i (suc before) middle) (same (3 + width e) (stmt_width r) i middle (omega arith) (omega arith) (omega arith)) (omega arith) (omega arith),
          )
          (same_whole _ (suc before + statements r) _ (middle + stmt_width r) _ (omega arith) (omega arith)))

      test_moved : (code : ℕ) → Marks (Ok (Test code (x + 3))) → (e : ExprRead) → whole_expr a count (x + 3) ≡ e
          → StmtMoves (suc below) before x y (on_test code (suc so_far) e (stmt_at levels a count)) here
      test_moved code m (bad k place) first = tt
      test_moved code m (good e nodes i) first = body_moved code m e nodes i first (stmt_at levels a count (suc so_far) i) refl

      level_moves : (h : Result StmtHead FileFault) → Marked a count levels so_far x h → Marks h
          → StmtMoves (suc below) before x y (on_stmt_head h (whole_expr a count) so_far (stmt_at levels a count)) here
      unfolding Marked
      level_moves (Ok (Nil next)) p m = λ s deep few.
          rw (m (s, omega arith, omega arith)) (same_whole _ (suc before) (before + 1) (y + 3) (y + 3) (omega arith) refl)
      level_moves (Ok (Assign v next)) p m = rw p.2 (assign_moved v m (whole_expr a count (x + 5)) refl)
      level_moves (Ok (Pair code next)) p m = rw p.2 (left_moved code m (stmt_at levels a count (suc so_far) (x + 3)) refl)
      level_moves (Ok (Test code next)) p m = rw p.2 (test_moved code m (whole_expr a count (x + 3)) refl)
      level_moves (Err f) p m = tt

    stmt_moves : (levels k so_far x before y : ℕ) → StmtMoves k before x y (stmt_at levels a count so_far x) (stmt_at k b count before y)
    unfolding stmt_at
    stmt_moves zero k so_far x before y = tt
    stmt_moves (suc levels) zero so_far x before y = no_level before x y (stmt_at (suc levels) a count so_far x) _
    stmt_moves (suc levels) (suc k) so_far x before y =
        level_moves levels k (λ n i m j. stmt_moves levels k n i m j) so_far before x y (stmt_head b count k before y)
        (stmt_head a count levels so_far x) (marked a count levels so_far x _ refl) (mark_moves count x y k before levels so_far)

    -- A statement is read wherever its bits are.
    pub moved_statement : (levels k so_far before x y : ℕ) (S : Stmt) (after next : ℕ) → stmt_at levels a count so_far x ≡ whole S after next
        → Same a x b y (stmt_width S) → suc (stmt_levels S) ≤ k → before + statements S ≤ 63
        → stmt_at k b count before y ≡ whole S (before + statements S) (y + stmt_width S)
    moved_statement levels k so_far before x y S after next p s deep few = rw p at (stmt_moves levels k so_far x before y) s deep few

module _ (a b c sizes : List ℕ) (at at' : ℕ) (S T : Stmt) (read_a : read_handler a ≡ handler sizes at S) (read-b : read_handler b ≡ handler sizes at' T) where
  pub parallel_read : Same a 0 c 0 at → bits_at c at 3 ≡ 3 → Same a at c (at + 3) (stmt_width S) → Same b at' c (at + 3 + stmt_width S) (stmt_width T)
      → fill_at c (at + 3 + stmt_width S + stmt_width T) ≡ Ok tt → statements (par S T) ≤ 63 → stmt_levels (par S T) ≤ 16
      → read_handler c ≡ handler sizes at (par S T)
  unfolding read_handler whole_stmt stmt_head mark_head code_head field_or
  parallel_read head code left right ends few high =
      let first = known_handler a sizes at S read_a in
      let second = known_handler b sizes at' T read-b in
      let count = length sizes in
      let field = found c at 3 (omega arith) (omega arith) (omega (arith, left.inside)) (omega (arith, left.fits)) in
      let mark : stmt_head c count 16 0 at ≡ Ok (Pair 3 (at + 3)) = rw (field, code) in
      let one = moved_statement a c count 17 16 0 1 at (at + 3) S _ _ first.read left (omega arith) (omega arith) in
      let two = moved_statement b c count 17 16 0 (1 + statements S) at' (at + 3 + stmt_width S) T _ _ second.read right (omega arith) (omega arith) in
      let statement = stmt_step c count 17 0 at _ (omega arith) mark in
      rw (
        moved_head a c sizes at first.head head,
        statement,
        one,
        two,
        ends,
        kinds_anywhere at (at + 3) S first.fits,
        kinds_anywhere at' (at + 3 + stmt_width S) T second.fits,
      )
