-- docs/FORMAT.md, "Head": 3 bits for the number of variables, 5 bits for each size. A head is the list of its sizes,
-- variable 0 first. The number of variables is its length, and N is its product.
use Rattle.std.specs.Prelude.{ℕ, zero, suc, ◌-◌, ◌*◌, Bool, cond, ◌&&◌, ◌||◌, List, [], ◌∷◌, ◌++◌, leb, ltb, eqb, length, get_or, take, replicate, Result, Ok, Err}
use Rattle.bits.specs.Fields.{fault_at, field_or}
use Rattle.bits.specs.declared.FileFault.{FileFault}
use Rattle.states.specs.Search.{all}
use Rattle.states.specs.Sets.{capacity}
use Rattle.semantics.specs.States.{product, Machine, machine_of}
use Rattle.handler.specs.declared.head.Head.{Head}
use Rattle.handler.specs.declared.head.HeadFile.{HeadFile}

-- The sizes and the statement's first bit, or the first fault and its place.
pub data HeadRead : Type 0 where
  declared : List ℕ → ℕ → HeadRead
  fault : ℕ → ℕ → HeadRead

-- One more size, at its place: 10 if it is missing, 12 if it is not 2 to 16, 13 at the size that brings N over 64, the capacity of a set.
unfoldable pub size_read : List ℕ → ℕ → Result (ℕ × ℕ) FileFault → HeadRead
size_read sizes at (Err missing) = fault missing.number missing.bit
size_read sizes at (Ok (size, next)) =
    cond (ltb size 2 || ltb 16 size) (fault 12 at)
    (cond (ltb capacity (product sizes * size)) (fault 13 at) (declared (sizes ++ size ∷ []) next))

unfoldable pub add_size : List ℕ → HeadRead → HeadRead
add_size bytes (fault k place) = fault k place
add_size bytes (declared sizes at) = size_read sizes at (field_or bytes at 5 10)

-- The head after so many sizes.
unfoldable pub sizes_read : List ℕ → ℕ → HeadRead
sizes_read bytes zero = declared [] 3
sizes_read bytes (suc k) = add_size bytes (sizes_read bytes k)

-- 11: the number of variables is not 1 to 4.
unfoldable pub count_read : List ℕ → Result (ℕ × ℕ) FileFault → HeadRead
count_read bytes (Err missing) = fault missing.number missing.bit
count_read bytes (Ok (count, next)) = cond (leb 1 count && leb count 4) (sizes_read bytes count) (fault 11 0)

-- The head of a file.
unfoldable pub head_at : List ℕ → HeadRead
head_at bytes = count_read bytes (field_or bytes 0 3 10)

-- The head as the code passes it on. Past the count the sizes are 1.
unfoldable pub head_of : List ℕ → Head
head_of sizes = record { count = length sizes; sizes = sizes ++ replicate (4 - length sizes) 1; states = product sizes }

-- The head and the statement's first bit, or the fault.
abbrev pub head_file : HeadRead → Result HeadFile FileFault
head_file (declared sizes at) = Ok (record { head = head_of sizes; at = at })
head_file (fault k place) = Err (fault_at k place)

-- The sizes of the variables of a head.
unfoldable pub sizes_in : Head → List ℕ
sizes_in head = take head.count head.sizes

-- Whether the numbers are within the limits of a head: at most 4 variables, sizes of 1 to 16, no more states than
-- a set can hold.
abbrev pub is_size : ℕ → Bool
is_size size = leb 1 size && leb size 16

unfoldable pub in_limits : Head → Bool
in_limits head = leb head.count 4 && leb head.states capacity && all 4 (λ v. is_size (get_or head.sizes v 0))

-- Whether the numbers make a head: they are within the limits, and N is the product of the sizes.
unfoldable pub is_head : Head → Bool
is_head head = in_limits head && eqb head.states (product (sizes_in head))

-- The variables of a head as steps see them. There is no state if the numbers do not make a head.
unfoldable pub machine_in : Head → Machine
machine_in head =
    let m = machine_of (sizes_in head) in
    record { states = cond (is_head head) head.states 0; get = m.get; store = m.store }
