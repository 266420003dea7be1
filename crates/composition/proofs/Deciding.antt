-- Which answer the lengths of the files and the room for them give.
use Prim.Native.Nat.{ℕ}
use mathlib.Core.Bool.{Bool, true, false, cond, ◌&&◌}
use mathlib.Core.List.{List}
use mathlib.Core.Path.{◌≡◌, refl, subst}
use lib.Dec.{leb}
use lib.ListN.{length}
use Rattle.std.specs.Prelude.{Result, Ok, Err, ⊤}
use Rattle.joint.specs.Composing.{Composition, made, with_room}
use Rattle.composition.specs.Refinement.{lengths_fit, length_fault, if_fit, if_met}

-- The fault by the two tests.
abbrev fault_of : Bool → Bool → Result ⊤ ℕ
fault_of t u = cond t (cond u (Ok tt) (Err 95)) (Err 94)

module _ (handler proof : List ℕ) (steps room space : ℕ) where
  abbrev limits : Bool
  limits = lengths_fit (length handler) (length proof) steps

  abbrev fits : Bool
  fits = leb (length handler) room && leb (length proof) space

  abbrev fault : Result ⊤ ℕ
  fault = length_fault (length handler) (length proof) steps room space

  abbrev whole : Composition
  whole = with_room (if_fit steps handler proof) room space

  -- The answer by the tests.
  by_tests : (t u : Bool) → limits ≡ t → fits ≡ u
      → whole ≡ if_met (fault_of t u) (made steps handler proof)
  unfolding with_room
  by_tests true true l f = rw (l, f)
  by_tests true false l f = rw (l, f)
  by_tests false u l f = rw l

  -- The lengths decide.
  pub by_fault : (r : Result ⊤ ℕ) → fault ≡ r → whole ≡ if_met r (made steps handler proof)
  unfolding length_fault
  by_fault r e = subst (λ x. whole ≡ if_met x (made steps handler proof)) e (by_tests limits fits refl refl)
