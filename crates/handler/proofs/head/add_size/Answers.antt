-- The field read and the tests on the size and the product say which case of `size_read` holds, and a size stored after the others is one
-- more in the list.
use Prim.Native.Nat.{ℕ, suc, ◌+◌, ◌-◌, ◌*◌, ◌≤◌, ◌<◌}
use native.Mathlib.Numerals.{add-one}
use native.Mathlib.Omega.{arith}
use mathlib.Core.List.{List, [], ◌∷◌, ◌++◌, append_assoc}
use mathlib.Core.Path.{◌≡◌, ap, ◌∙◌}
use borrow.Author.Rules.{rules}
use borrow.Author.Tests.{lt-ltb, le-ltb}
use lib.ListN.{length, set, replicate, length-append}
use lib.Seq.{set_at}
use Rattle.std.specs.Prelude.{Ok}
use Rattle.states.specs.Sets.{capacity}
use Rattle.bits.specs.Fields.{field_or}
use Rattle.semantics.specs.States.{product}
use Rattle.handler.specs.declared.head.HeadFile.{HeadFile}
use Rattle.handler.specs.Header.{size_read, add_size, sizes_read, head_of, head_file}
use Rattle.handler.proofs.Heads.{sized, product_snoc, found_head}
use Rattle.handler.proofs.head.add_size.Goals.{then-size-lt-LEAST_SIZE-via-then-size-lt-LEAST_SIZE, then-size-lt-LEAST_SIZE-via-else-size-lt-LEAST_SIZE+then-size-gt-MOST_SIZE}
use Rattle.handler.proofs.head.add_size.Goals as goal

-- A file whose first k sizes were read: its list of sizes so far.
record Begun (s : List ℕ) (k : ℕ) (file : HeadFile) : Type 0 where
  sizes : List ℕ
  counted : length sizes ≡ k
  most : product sizes ≤ capacity
  is : file.head ≡ head_of sizes
  next_size : sizes_read s (k + 1) ≡ size_read sizes file.at (field_or s file.at 5 10)

begun : (s : List ℕ) (k : ℕ) (file : HeadFile) → Ok file ≡ head_file (sizes_read s k) → Begun s k file
unfolding sizes_read add_size
begun s k file made =
    let f = found_head (sizes_read s k) file made in
    let known = sized s k f.sizes file.at f.read in
    record { sizes = f.sizes; counted = known.counted; most = known.most; is = f.is; next_size = ap (sizes_read s) (add-one k) ∙ ap (add_size s) f.read }

-- One more size after the others.
grown : (s : List ℕ) (k : ℕ) (file : HeadFile) (size next : ℕ) → k < 4 → (b : Begun s k file)
    → ◌≡◌ {A = HeadFile} (record {
      head = record { count = file.head.count + 1; sizes = set file.head.sizes k size; states = file.head.states * size };
      at = next;
    }) (record { head = head_of (b.sizes ++ size ∷ []); at = next })
unfolding head_of
grown s k file size next small b =
    let same = b.counted in
    let more : length (b.sizes ++ size ∷ []) ≡ k + 1 = simp length-append (omega arith) in
    let left : 4 - k ≡ suc (4 - (k + 1)) = omega arith in
    rw (b.is, more, same, left, set_at b.sizes 1 (replicate (4 - (k + 1)) 1) size k same, product_snoc b.sizes size, append_assoc)

pub returns-in_err-size : goal.returns-in_err-size
unfolding size_read
returns-in_err-size c = rw ((begun _ _ c.args.file c.requires.1).next_size, ← c.read_or.ensures, c.in_err-size.was) (search rules)

pub returns-then-size-lt-LEAST_SIZE : goal.returns-then-size-lt-LEAST_SIZE
unfolding size_read head_of
returns-then-size-lt-LEAST_SIZE c =
    rw ((begun _ _ c.args.file c.requires.1).next_size, ← c.read_or.ensures, c.in_ok-size.was)
    (elim c.then-size-lt-LEAST_SIZE.branch [
      | then-size-lt-LEAST_SIZE-via-then-size-lt-LEAST_SIZE w ↦ rw (lt-ltb _ 2 w.if-size-lt-LEAST_SIZE.true)
      | then-size-lt-LEAST_SIZE-via-else-size-lt-LEAST_SIZE+then-size-gt-MOST_SIZE w ↦
          rw (le-ltb _ 2 w.if-size-lt-LEAST_SIZE.false, lt-ltb 16 _ w.if-size-gt-MOST_SIZE.true)
    ])

pub returns-then-states-gt-MOST_STATES : goal.returns-then-states-gt-MOST_STATES
unfolding size_read head_of
returns-then-states-gt-MOST_STATES c =
    let b = begun _ _ c.args.file c.requires.1 in
    let over = rw b.is at c.if-states-gt-MOST_STATES.true in
    rw (
      b.next_size,
      ← c.read_or.ensures,
      c.in_ok-size.was,
      le-ltb _ 2 c.if-size-lt-LEAST_SIZE.false,
      le-ltb 16 _ c.if-size-gt-MOST_SIZE.false,
      lt-ltb capacity _ over,
    )

pub overflow_add-result : goal.overflow_add-result
unfolding head_of
overflow_add-result c =
    let b = begun _ _ c.args.file c.requires.1 in
    omega (arith, ap (λ h. h.count) b.is, b.counted)

pub returns : goal.returns
unfolding size_read head_of
returns c =
    let b = begun _ _ c.args.file c.requires.1 in
    let under = rw b.is at c.if-states-gt-MOST_STATES.false in
    rw (
      b.next_size,
      ← c.read_or.ensures,
      c.in_ok-size.was,
      le-ltb _ 2 c.if-size-lt-LEAST_SIZE.false,
      le-ltb 16 _ c.if-size-gt-MOST_SIZE.false,
      le-ltb capacity _ under,
    )
    (ap Ok (grown _ _ c.args.file _ _ (omega arith) b))
