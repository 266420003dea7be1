-- Reading the same bits elsewhere: a field, the head of a file and an expression are read the same wherever their bits are, in another
-- file or at another bit.
use Prim.Native.Nat.{ℕ, zero, suc, ◌+◌, ◌*◌, ◌^◌, ◌≤◌, ◌<◌}
use mathlib.Core.Bool.{Bool, true, false, cond, ◌&&◌, ◌||◌}
use mathlib.Core.List.{List}
use mathlib.Core.Path.{◌≡◌, refl, ap, ◌∙◌}
use native.Mathlib.Nat.{add_assoc}
use native.Mathlib.Omega.{arith}
use lib.Dec.{leb, ltb, eqb}
use lib.ListN.{length}
use Rattle.std.specs.Prelude.{Result, Ok, Err, ok_or}
use Rattle.bits.specs.Fields.{bit_length, bit_at, fault_at, field_or}
use Rattle.bits.specs.declared.FileFault.{FileFault}
use Rattle.bits.proofs.Laws.{bits_agree, There, found}
use Rattle.states.specs.Sets.{capacity}
use Rattle.semantics.specs.Language.{Expr}
use Rattle.semantics.specs.States.{product}
use Rattle.handler.specs.declared.expressions.ExprHead.{ExprHead}
use Rattle.handler.specs.declared.expressions.ExprHead.TheVariants.{Integer, Truth, Variable, Operation}
use Rattle.handler.specs.Header.{HeadRead, declared, fault, size_read, add_size, sizes_read, count_read, head_at}
use Rattle.handler.specs.Expressions.{integer_head, truth_head, variable_head, operation_head, payload_head, tag_head, expr_head, ExprRead, good, bad, joined, operands, on_expr_head, expr_at, whole_expr}
use Rattle.handler.specs.Kinds.{width}
use Rattle.handler.proofs.Heads.{by_test, by_field_or, head_read}
use Rattle.handler.proofs.Folds.{Headed, headed, expr_read}

-- The bits from a cursor of one file on are those from a cursor of another, where they are all there.
pub record Same (a : List ℕ) (x : ℕ) (b : List ℕ) (y width : ℕ) : Type 0 where
  pub bits : (i : ℕ) → i < width → bit_at a (x + i) ≡ bit_at b (y + i)
  pub inside : y + width ≤ 8 * length b
  pub fits : y + width < 2 ^ 64

-- What holds of both pairs of answers holds of the pair that a test chooses.
pub chosen : {A : Type 0} (P : A → A → Type 0) (t : Bool) (x y x' y' : A) → P x x' → P y y' → P (cond t x y) (cond t x' y')
chosen P true x y x' y' p q = p
chosen P false x y x' y' p q = q

module _ (a b : List ℕ) where
  -- A part of the bits, after `skip` of them.
  pub same_part : (x y width : ℕ) → Same a x b y width → (skip w i j : ℕ) → i ≡ x + skip → j ≡ y + skip → skip + w ≤ width → Same a i b j w
  same_part x y width s skip w i j from to within =
      record {
        bits = λ k less. rw (from, to, add_assoc x skip k, add_assoc y skip k) (s.bits (skip + k) (omega arith));
        inside = omega (arith, s.inside);
        fits = omega (arith, s.fits);
      }

  pub same_first : (x y width : ℕ) → Same a x b y width → (w : ℕ) → w ≤ width → Same a x b y w
  same_first x y width s w within = same_part x y width s 0 w x y (omega arith) (omega arith) (omega arith)

  -- A field that is there is there elsewhere.
  pub field_moved : (x y w k v next end : ℕ) → There a x w v next → Same a x b y w → end ≡ y + w → field_or b y w k ≡ Ok (v, end)
  unfolding field_or
  field_moved x y w k v next end t s ends =
      rw (ends, t.value, bits_agree a b x y w s.bits) (ap (λ o. ok_or o (fault_at k (bit_length b))) (found b y w t.least t.most s.inside s.fits))

  -- Sizes that are read from a are read from b.
  abbrev SizesMove : HeadRead → HeadRead → Type 0
  SizesMove (declared sizes at) h = Same a 0 b 0 at → h ≡ declared sizes at
  SizesMove (fault k place) h = Unit {0}

  size_moves : (h g : HeadRead) → SizesMove h g → SizesMove (add_size a h) (add_size b g)
  unfolding add_size size_read
  size_moves (fault k place) g m = tt
  size_moves (declared sizes at) g m =
      let Moves : HeadRead → Type 0 = λ h. SizesMove h (add_size b g) in
      by_field_or a Moves at 5 10 (size_read sizes at) tt (λ size next t.
      by_test Moves (ltb size 2 || ltb 16 size) _ _ (λ e. tt) (λ e.
      by_test Moves (ltb capacity (product sizes * size)) _ _ (λ f. tt) (λ f s.
      let same = same_part 0 0 next s in
      rw (
        m (same_first 0 0 next s at (omega (arith, t.moved))),
        field_moved at at 5 10 size next next t (same at 5 at at (omega arith) (omega arith) (omega (arith, t.moved))) t.moved,
        e,
        f,
      ))))

  sizes_move : (k : ℕ) → SizesMove (sizes_read a k) (sizes_read b k)
  unfolding sizes_read
  sizes_move zero = λ s. refl
  sizes_move (suc k) = size_moves (sizes_read a k) (sizes_read b k) (sizes_move k)

  pub moved_head : (sizes : List ℕ) (at : ℕ) → head_at a ≡ declared sizes at → Same a 0 b 0 at → head_at b ≡ declared sizes at
  unfolding head_at count_read
  moved_head sizes at read s =
      let Moves : HeadRead → Type 0 = λ h. h ≡ declared sizes at → head_at b ≡ declared sizes at in
      by_field_or a Moves 0 3 10 (count_read a) (λ e. absurd (let z : ◌≡◌ {A = ℕ} 0 1 = cc in omega arith)) (λ count next t.
      by_test Moves (leb 1 count && leb count 4) _ _
      (λ f e. let same = same_first 0 0 at s 3 (omega (arith, (head_read a sizes at read).starts)) in
      rw (field_moved 0 0 3 10 count next 3 t same refl, f) (rw e at (sizes_move count) s))
      (λ f e. absurd (let z : ◌≡◌ {A = ℕ} 0 1 = cc in omega arith))) read

  module _ (count x y : ℕ) where
    -- The head of a node of an expression.
    abbrev NodeMoves : Result ExprHead FileFault → Result ExprHead FileFault → Type 0
    NodeMoves (Ok (Integer z next)) h = Same a x b y 10 → h ≡ Ok (Integer z (y + 10))
    NodeMoves (Ok (Truth t next)) h = Same a x b y 3 → h ≡ Ok (Truth t (y + 3))
    NodeMoves (Ok (Variable v next)) h = Same a x b y 4 → h ≡ Ok (Variable v (y + 4))
    NodeMoves (Ok (Operation o next)) h = Same a x b y 5 → h ≡ Ok (Operation o (y + 5))
    NodeMoves (Err _) h = Unit {0}

    -- The field after the tag, of a node that takes `wide` bits.
    payload_moved : (wide w v next : ℕ) → There a (x + 2) w v next → wide ≡ 2 + w → Same a x b y wide → field_or b (y + 2) w 10 ≡ Ok (v, (y + wide))
    payload_moved wide w v next t sum s =
        field_moved (x + 2) (y + 2) w 10 v next (y + wide) t (same_part x y wide s 2 w (x + 2) (y + 2) refl refl (omega arith)) (omega arith)

    payload_moves : (tag : ℕ) → NodeMoves (payload_head a count (x + 2) tag) (payload_head b count (y + 2) tag)
    unfolding payload_head integer_head truth_head variable_head operation_head
    payload_moves tag =
        chosen NodeMoves (eqb tag 0) _ _ _ _
        (by_field_or a (λ h. NodeMoves h (integer_head (field_or b (y + 2) 8 10))) (x + 2) 8 10 integer_head tt (λ n next t s. rw (payload_moved 10 8 n next t refl s)))
        (chosen NodeMoves (eqb tag 1) _ _ _ _
        (by_field_or a (λ h. NodeMoves h (truth_head (field_or b (y + 2) 1 10))) (x + 2) 1 10 truth_head tt (λ n next t s. rw (payload_moved 3 1 n next t refl s)))
        (chosen NodeMoves (eqb tag 2) _ _ _ _
        (by_field_or a (λ h. NodeMoves h (variable_head count (y + 2) (field_or b (y + 2) 2 10))) (x + 2) 2 10 (variable_head count (x + 2)) tt
        (λ v next t. by_test (λ h. NodeMoves h (variable_head count (y + 2) (field_or b (y + 2) 2 10))) (ltb v count) _ _
        (λ e s. rw (payload_moved 4 2 v next t refl s, e)) (λ e. tt)))
        (by_field_or a (λ h. NodeMoves h (operation_head (y + 2) (field_or b (y + 2) 3 10))) (x + 2) 3 10 (operation_head (x + 2)) tt
        (λ o next t. by_test (λ h. NodeMoves h (operation_head (y + 2) (field_or b (y + 2) 3 10))) (eqb o 7) _ _
        (λ e. tt) (λ e s. rw (payload_moved 5 3 o next t refl s, e))))))

    -- What is read after a tag is read if the tag is the same.
    after_tag : (h g k : Result ExprHead FileFault) → (Same a x b y 2 → k ≡ g) → NodeMoves h g → NodeMoves h k
    after_tag (Ok (Integer z next)) g k tag m = λ s. tag (same_first x y 10 s 2 (omega arith)) ∙ m s
    after_tag (Ok (Truth t next)) g k tag m = λ s. tag (same_first x y 3 s 2 (omega arith)) ∙ m s
    after_tag (Ok (Variable v next)) g k tag m = λ s. tag (same_first x y 4 s 2 (omega arith)) ∙ m s
    after_tag (Ok (Operation o next)) g k tag m = λ s. tag (same_first x y 5 s 2 (omega arith)) ∙ m s
    after_tag (Err _) g k tag m = tt

    node_moves : (nodes : ℕ) → NodeMoves (expr_head a count nodes x) (expr_head b count nodes y)
    unfolding expr_head tag_head
    node_moves nodes =
        by_field_or a (λ h. NodeMoves h (expr_head b count nodes y)) x 2 10 (tag_head a count nodes x) tt (λ tag next t.
        let full : (s : List ℕ) (at : ℕ) → Result ExprHead FileFault = λ s at. cond (leb 31 nodes) (Err (fault_at 17 at)) (payload_head s count (at + 2) tag) in
        rw t.moved (after_tag (full a x) (full b y) (expr_head b count nodes y)
        (λ s. rw (field_moved x y 2 10 tag next (y + 2) t s refl))
        (chosen NodeMoves (leb 31 nodes) _ _ _ _ tt (payload_moves tag))))

  -- An expression that is read from a is read from b.
  abbrev ExprMoves : ℕ → ℕ → ExprRead → ExprRead → Type 0
  ExprMoves x y (good e nodes next) r = Same a x b y (width e) → r ≡ good e nodes (y + width e)
  ExprMoves x y (bad k place) r = Unit {0}

  expr_moves : (count levels nodes x y : ℕ) → ExprMoves x y (expr_at levels a count nodes x) (expr_at levels b count nodes y)
  unfolding expr_at Headed
  expr_moves count zero nodes x y = tt
  expr_moves count (suc levels) nodes x y =
      by (expr_head a count nodes x) (headed a count nodes x) (expr_head b count nodes y) (node_moves count x y nodes) (expr_moves count levels)
    where
      Below : Type 0
      Below = (n i j : ℕ) → ExprMoves i j (expr_at levels a count n i) (expr_at levels b count n j)

      right : (g : Result ExprHead FileFault) (o : ℕ) → NodeMoves count x y (Ok (Operation o (x + 5))) g → Below → (l : Expr) (n i : ℕ)
          → expr_at levels a count (suc nodes) (x + 5) ≡ good l n i → (r : ExprRead) → expr_at levels a count n i ≡ r
          → ExprMoves x y (joined o l r) (on_expr_head g nodes (expr_at levels b count))
      right g o m later l n i first (bad k place) second = tt
      right g o m later l n i first (good r last k) second = λ s.
          let ends = (expr_read levels a count (suc nodes) (x + 5) l n i first).ends in
          let wide = 5 + width l + width r in
          let behind = y + 5 + width l in
          let left = rw first at (later (suc nodes) (x + 5) (y + 5)) (same_part x y wide s 5 (width l) (x + 5) (y + 5) refl refl (omega arith)) in
          let whole = rw second at (later n i behind) (same_part x y wide s (5 + width l) (width r) i behind (omega arith) (omega arith) (omega arith)) in
          let end : behind + width r ≡ y + wide = omega arith in
          rw (m (same_first x y wide s 5 (omega arith)), left, whole, end)

      left : (g : Result ExprHead FileFault) (o : ℕ) → NodeMoves count x y (Ok (Operation o (x + 5))) g → Below → (l : ExprRead)
          → expr_at levels a count (suc nodes) (x + 5) ≡ l → ExprMoves x y (operands o l (expr_at levels a count)) (on_expr_head g nodes (expr_at levels b count))
      left g o m later (bad k place) first = tt
      left g o m later (good l n i) first = right g o m later l n i first (expr_at levels a count n i) refl

      by : (h : Result ExprHead FileFault) → Headed a count nodes x h → (g : Result ExprHead FileFault) → NodeMoves count x y h g → Below
          → ExprMoves x y (on_expr_head h nodes (expr_at levels a count)) (on_expr_head g nodes (expr_at levels b count))
      by (Ok (Integer z next)) p g m later = λ s. rw (m s)
      by (Ok (Truth t next)) p g m later = λ s. rw (m s)
      by (Ok (Variable v next)) p g m later = λ s. rw (m s)
      by (Ok (Operation o next)) p g m later = rw p.1 (left g o m later (expr_at levels a count (suc nodes) (x + 5)) refl)
      by (Err _) p g m later = tt

  pub moved_whole : (count x y : ℕ) (e : Expr) (nodes next : ℕ) → whole_expr a count x ≡ good e nodes next → Same a x b y (width e)
      → whole_expr b count y ≡ good e nodes (y + width e)
  unfolding whole_expr
  moved_whole count x y e nodes next p s = rw p at (expr_moves count 32 0 x y) s
