-- What is known of the sizes that a head declares, by induction on the number of sizes read.
use Prim.Native.Nat.{ℕ, zero, suc, ◌+◌, ◌-◌, ◌*◌, ◌≤◌, ◌<◌}
use native.Mathlib.Nat.{mul_assoc, mul-one, one-mul, mul-pos, mul-le-mul_left}
use native.Mathlib.Omega.{arith}
use borrow.Author.Tests.{leb-true, ltb-false, le-leb, eqb-true, eq-eqb}
use mathlib.Core.Bool.{Bool, true, false, cond, ◌&&◌, ◌||◌, true≢false}
use mathlib.Core.List.{List, [], ◌∷◌, ◌++◌}
use mathlib.Core.Path.{◌≡◌, refl, sym, ap, ◌∙◌}
use lib.Dec.{leb, ltb}
use lib.ListN.{length, get_or, take, replicate, length-take, length-append, get_or-replicate, get_or-eq_default}
use lib.Seq.{take-append_seam}
use Rattle.states.specs.Sets.{capacity}
use Rattle.std.specs.Prelude.{Option, Some, None, Result, Ok, Err, is_ok, ok_or}
use Rattle.bits.specs.Fields.{bit_length, field_at, field_or}
use Rattle.bits.specs.Fields as fields
use Rattle.bits.specs.declared.FileFault.{FileFault}
use Rattle.bits.proofs.Laws.{There, there}
use Rattle.bits.proofs.Places.{FaultIn, by_field, fault_at, fault_missing}
use Rattle.states.proofs.Search.{and_left, and_right, and_both, all_intro, all_at}
use Rattle.semantics.specs.States.{product, Machine, machine_of}
use Rattle.handler.specs.declared.head.Head.{Head}
use Rattle.handler.specs.declared.head.HeadFile.{HeadFile}
use Rattle.handler.specs.Header.{HeadRead, declared, fault, size_read, add_size, sizes_read, count_read, head_at, head_of, head_file, is_size, in_limits, is_head, sizes_in, machine_in}

-- What is known after k sizes.
pub record Sized (k at : ℕ) (sizes : List ℕ) : Type 0 where
  pub counted : length sizes ≡ k
  pub starts : at ≡ 3 + 5 * k
  pub least : 1 ≤ product sizes
  pub most : product sizes ≤ capacity
  pub each : (v : ℕ) → (1 ≤ get_or sizes v 1) × (get_or sizes v 1 ≤ 16)

pub product_snoc : (sizes : List ℕ) (size : ℕ) → product (sizes ++ size ∷ []) ≡ product sizes * size
product_snoc [] size = rw (mul-one, one-mul)
product_snoc (first ∷ sizes) size = rw (product_snoc sizes size, mul_assoc)

-- What holds for 1, for each size and for a new size holds for each size of the longer list.
each_snoc : (P : ℕ → Type 0) (sizes : List ℕ) (size : ℕ) → P 1 → P size → ((v : ℕ) → P (get_or sizes v 1)) → (v : ℕ) → P (get_or (sizes ++ size ∷ []) v 1)
each_snoc P [] size one new old zero = new
each_snoc P [] size one new old (suc v) = one
each_snoc P (first ∷ sizes) size one new old zero = old 0
each_snoc P (first ∷ sizes) size one new old (suc v) = each_snoc P sizes size one new (λ i. old (suc i)) v

pub neither : (a b : Bool) → (a || b) ≡ false → (a ≡ false) × (b ≡ false)
neither true b e = absurd (true≢false e)
neither false b e = (refl, e)

-- What holds of either answer, if the test says so, holds of the one that the test chooses.
pub by_test : {A : Type 0} (P : A → Type 0) (b : Bool) (x y : A) → (b ≡ true → P x) → (b ≡ false → P y) → P (cond b x y)
by_test P true x y first second = first refl
by_test P false x y first second = second refl

-- What holds of the fault of a missing field and of every field that is there holds of what is read.
pub by_field_or : {A : Type 0} (bytes : List ℕ) (P : A → Type 0) (at w k : ℕ) (f : Result (ℕ × ℕ) FileFault → A)
    → P (f (Err (fields.fault_at k (bit_length bytes)))) → ((v next : ℕ) → There bytes at w v next → P (f (Ok (v, next)))) → P (f (field_or bytes at w k))
unfolding field_or
by_field_or bytes P at w k f missing value = by_field bytes P at w (λ o. f (ok_or o (fields.fault_at k (bit_length bytes)))) missing value

-- A field that is read is there.
pub there_or : (bytes : List ℕ) (at w k v next : ℕ) → field_or bytes at w k ≡ Ok (v, next) → There bytes at w v next
unfolding field_or
there_or bytes at w k v next e = by (field_at bytes at w) refl e
  where
    by : (x : Option (ℕ × ℕ)) → field_at bytes at w ≡ x → ok_or x (fields.fault_at k (bit_length bytes)) ≡ Ok (v, next) → There bytes at w v next
    by None x e = absurd (true≢false (ap is_ok (sym e)))
    by (Some (value, after)) x e =
        let same : ◌≡◌ {A = ℕ × ℕ} (value, after) (v, next) = cc in
        there bytes at w v next (x ∙ ap Some same)

module _ (s : List ℕ) where
  abbrev Upto : ℕ → HeadRead → Type 0
  Upto k (declared sizes at) = Sized k at sizes × (3 ≤ 8 * length s → at ≤ 8 * length s)
  Upto k (fault code place) = 3 ≤ 8 * length s → FaultIn s 10 18 code place

  next_size : (k : ℕ) (h : HeadRead) → Upto k h → Upto (suc k) (add_size s h)
  unfolding add_size size_read
  next_size k (fault code place) u = u
  next_size k (declared sizes at) u =
      by_field_or s (Upto (suc k)) at 5 10 (size_read sizes at) (λ here. fault_missing s 10 18 10 refl) (λ size next t.
      by_test (Upto (suc k)) (ltb size 2 || ltb 16 size) _ _ (λ e here. fault_at s 10 18 12 refl at (u.1 here)) (λ in-range.
      by_test (Upto (suc k)) (ltb capacity (product sizes * size)) _ _ (λ e here. fault_at s 10 18 13 refl at (u.1 here)) (λ few.
      let range = neither (ltb size 2) (ltb 16 size) in-range in
      let least : 2 ≤ size = ltb-false size 2 range.0 in
      let most : size ≤ 16 = ltb-false 16 size range.1 in (
        record {
          counted = simp length-append (omega (arith, u.0.counted));
          starts = omega arith;
          least = rw (product_snoc sizes size) (omega (arith, mul-le-mul_left (product sizes) least));
          most = rw (product_snoc sizes size) (ltb-false capacity (product sizes * size) few);
          each = each_snoc (λ x. (1 ≤ x) × (x ≤ 16)) sizes size (omega arith) (omega arith) u.0.each;
        },
        λ here. omega arith,
      ))))

  upto : (k : ℕ) → Upto k (sizes_read s k)
  unfolding sizes_read
  upto zero = (record { counted = refl; starts = refl; least = omega arith; most = omega arith; each = λ v. omega arith }, λ here. here)
  upto (suc k) = next_size k (sizes_read s k) (upto k)

pub sized : (s : List ℕ) (k : ℕ) (sizes : List ℕ) (at : ℕ) → sizes_read s k ≡ declared sizes at → Sized k at sizes
sized s k sizes at e = (rw e at (upto s k)).0

-- A head as the code passes it on gives its sizes back.
pub sizes_of : (sizes : List ℕ) → sizes_in (head_of sizes) ≡ sizes
unfolding sizes_in head_of
sizes_of sizes = take-append_seam sizes (replicate (4 - length sizes) 1)

get_d_padded : (sizes : List ℕ) (n v : ℕ) → v < length sizes + n → get_or (sizes ++ replicate n 1) v 0 ≡ get_or sizes v 1
get_d_padded [] n v h = get_or-replicate n v 1 0 (omega arith)
get_d_padded (size ∷ sizes) n zero h = refl
get_d_padded (size ∷ sizes) n (suc v) h = get_d_padded sizes n v (omega arith)

-- The size of a variable that is not declared is 1.
pub size_past : (head : Head) (v : ℕ) → head.count ≤ v → get_or (sizes_in head) v 1 ≡ 1
unfolding sizes_in
size_past head v h = get_or-eq_default (sizes_in head) 1 {n = v} (omega (arith, length-take head.count head.sizes))

-- What is known of a head whose numbers are within the limits.
pub record Limited (head : Head) : Type 0 where
  pub few : head.count ≤ 4
  pub most : head.states ≤ capacity
  pub each : (v : ℕ) → get_or (sizes_in head) v 1 ≤ 16
  pub least : 1 ≤ product (sizes_in head)

sizes_small : (k : ℕ) (l : List ℕ) → ((v : ℕ) → v < k → is_size (get_or l v 0) ≡ true)
    → ((v : ℕ) → get_or (take k l) v 1 ≤ 16) × (1 ≤ product (take k l))
sizes_small zero l each = (λ v. omega arith, omega arith)
sizes_small (suc k) [] each = (λ v. omega arith, omega arith)
sizes_small (suc k) (size ∷ l) each =
    let own = each 0 (omega arith) in
    let rest = sizes_small k l (λ v h. each (suc v) (omega arith)) in
    (either rest.0 (leb-true size 16 (and_right (leb 1 size) _ own)), mul-pos (leb-true 1 size (and_left (leb 1 size) _ own)) rest.1)
  where
    either : ((v : ℕ) → get_or (take k l) v 1 ≤ 16) → size ≤ 16 → (v : ℕ) → get_or (size ∷ take k l) v 1 ≤ 16
    either rest own zero = own
    either rest own (suc v) = rest v

pub limited : (head : Head) → in_limits head ≡ true → Limited head
unfolding in_limits sizes_in
limited head h =
    let both = and_left (leb head.count 4 && leb head.states capacity) _ h in
    let few = leb-true head.count 4 (and_left (leb head.count 4) _ both) in
    let sizes = all_at 4 _ (and_right (leb head.count 4 && leb head.states capacity) _ h) in
    let known = sizes_small head.count head.sizes (λ v l. sizes v (omega arith)) in
    record { few = few; most = leb-true head.states capacity (and_right (leb head.count 4) _ both); each = known.0; least = known.1 }

-- What is known if the numbers make a head.
pub record KnownHead (head : Head) : Type 0 where
  pub few : head.count ≤ 4
  pub total : head.states ≡ product (sizes_in head)
  pub least : 1 ≤ product (sizes_in head)
  pub most : product (sizes_in head) ≤ capacity
  pub machine : machine_in head ≡ machine_of (sizes_in head)

pub known_head : (head : Head) → is_head head ≡ true → KnownHead head
unfolding is_head machine_in
known_head head h =
    let known = limited head (and_left (in_limits head) _ h) in
    let total : head.states ≡ product (sizes_in head) = eqb-true head.states _ (and_right (in_limits head) _ h) in
    let m = machine_of (sizes_in head) in
    record {
      few = known.few;
      total = total;
      least = known.least;
      most = rw (← total) known.most;
      machine = rw h (ap {B = Machine} (λ n. record { states = n; get = m.get; store = m.store }) total);
    }

-- The product of at most four sizes.
pub product_four : (sizes : List ℕ) → length sizes ≤ 4 → get_or sizes 0 1 * (get_or sizes 1 1 * (get_or sizes 2 1 * get_or sizes 3 1)) ≡ product sizes
product_four [] h = refl
product_four (a ∷ []) h = refl
product_four (a ∷ b ∷ []) h = refl
product_four (a ∷ b ∷ c ∷ []) h = refl
product_four (a ∷ b ∷ c ∷ d ∷ []) h = rw (mul-one d)
product_four (a ∷ b ∷ c ∷ d ∷ e ∷ sizes) h = absurd (omega arith)

-- What a head by value says of the head that was read.
pub record FoundHead (h : HeadRead) (file : HeadFile) : Type 0 where
  pub sizes : List ℕ
  pub read : h ≡ declared sizes file.at
  pub is : file.head ≡ head_of sizes

pub found_head : (h : HeadRead) (file : HeadFile) → Ok file ≡ head_file h → FoundHead h file
found_head (declared sizes i) file made =
    let same : file ≡ record { head = head_of sizes; at = i } = cc in
    rw same (record { sizes = sizes; read = refl; is = refl })
found_head (fault code place) file made = absurd (true≢false (ap is_ok made))

pub found_fault : (h : HeadRead) (f : FileFault) → Err f ≡ head_file h → h ≡ fault f.number f.bit
found_fault (declared sizes i) f made = absurd (true≢false (ap is_ok (sym made)))
found_fault (fault k i) f made =
    let same : f ≡ fields.fault_at k i = cc in
    rw same

-- What is known of a head that was read.
pub record Declared (sizes : List ℕ) (at : ℕ) : Type 0 where
  pub few : length sizes ≤ 4
  pub starts : at ≡ 3 + 5 * length sizes
  pub least : 1 ≤ product sizes
  pub most : product sizes ≤ capacity
  pub head : is_head (head_of sizes) ≡ true
  pub machine : machine_in (head_of sizes) ≡ machine_of sizes

declares : (sizes : List ℕ) (k at : ℕ) → k ≤ 4 → Sized k at sizes → Declared sizes at
unfolding in_limits is_head head_of
declares sizes k at few known =
    let same = known.counted in
    let limits : in_limits (head_of sizes) ≡ true =
    and_both _ _ (and_both _ _ (le-leb (length sizes) 4 (omega arith)) (le-leb _ capacity known.most))
    (all_intro 4 (λ v. is_size (get_or (sizes ++ replicate (4 - length sizes) 1) v 0))
    (λ v small. rw (get_d_padded sizes (4 - length sizes) v (omega arith)) (and_both _ _ (le-leb 1 _ (known.each v).0) (le-leb _ 16 (known.each v).1)))) in
    let fits : is_head (head_of sizes) ≡ true = and_both _ _ limits (eq-eqb (product sizes) _ (rw (sizes_of sizes))) in
    record {
      few = omega arith;
      starts = omega arith;
      least = known.least;
      most = known.most;
      head = fits;
      machine = (known_head (head_of sizes) fits).machine ∙ ap machine_of (sizes_of sizes);
    }

-- A head that is read is in the file, and so are its faults.
module _ (s : List ℕ) where
  abbrev pub HeadIn : HeadRead → Type 0
  HeadIn (declared sizes at) = Declared sizes at × (at ≤ 8 * length s)
  HeadIn (fault code place) = FaultIn s 10 18 code place

  declared_in : (k : ℕ) → k ≤ 4 → (h : HeadRead) → Upto s k h → 3 ≤ 8 * length s → HeadIn h
  declared_in k few (declared sizes at) u here = (declares sizes k at few u.0, u.1 here)
  declared_in k few (fault code place) u here = u here

  pub head_in : HeadIn (head_at s)
  unfolding head_at count_read
  head_in =
      by_field_or s HeadIn 0 3 10 (count_read s) (fault_missing s 10 18 10 refl) (λ c next t.
      by_test HeadIn (leb 1 c && leb c 4) _ _
      (λ e. declared_in c (leb-true c 4 (and_right (leb 1 c) (leb c 4) e)) (sizes_read s c) (upto s c) (omega arith))
      (λ e. fault_at s 10 18 11 refl 0 (omega arith)))

pub head_read : (s : List ℕ) (sizes : List ℕ) (at : ℕ) → head_at s ≡ declared sizes at → Declared sizes at
head_read s sizes at e = (rw e at (head_in s)).0
