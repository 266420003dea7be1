-- The outcomes of a call by cases, each with what is known in it. A call that was done had a well-formed record, and if this was read from
-- numbers, there were 50.
use Prim.Native.Nat.{ℕ, ◌+◌, ◌*◌, ◌≤◌, ◌<◌}
use mathlib.Core.Bool.{Bool, true, false, not, cond, ◌||◌, false≢true}
use mathlib.Core.List.{List, [], ◌∷◌, ◌++◌}
use mathlib.Core.Option.{Option, some}
use mathlib.Core.Path.{◌≡◌, refl}
use native.Mathlib.Omega.{arith}
use borrow.Author.Tests.{eqb-true, ltb-true, ltb-false, not-false}
use lib.Dec.{ltb, eqb}
use lib.ListN.{length, get_or}
use Rattle.checker.specs.declared.Fault.{Fault}
use Rattle.checker.specs.Verdicts.{Verdict}
use Rattle.frame.specs.declared.Slot.{Slot}
use Rattle.frame.specs.declared.Frame.{Frame}
use Rattle.frame.specs.declared.Refusal.{Refusal}
use Rattle.frame.specs.declared.Refusal.TheVariants.{NoSuchPlace, Taken, NotTaken, Malformed, WrongTicks, Check, NoRoom}
use Rattle.frame.specs.declared.Outcome.{Outcome}
use Rattle.frame.specs.Slots.{places, held, total, holds, without, laid_from, well_formed, frame_of}
use Rattle.std.specs.Prelude.{Ok, is_ok, Err}
use Rattle.frame.specs.Calls.{first_of, turned_away, unless, before_check, on_need, on_verdict, admitted, before_release, released}
use Rattle.frame.specs.Lent.{frame_in}
use Rattle.frame.proofs.Frames.{well}

-- The slot of a guest with this need, and the outcome of a call that was done and leaves these slots.
abbrev pub new_slot : Frame → ℕ → ℕ → Slot
new_slot f place need = record { place = place; first = total (held f); length = need }

abbrev pub leaving : Frame → List Slot → Outcome
leaving f slots = record { frame = frame_of f.length slots; answer = Ok tt }

module _ (P : Outcome → Type 0) (f : Frame) where
  -- A call is turned away for the first reason, or goes on without it.
  either : (next : Outcome) (b : Bool) (a : Refusal) (rest : Option Refusal) → (b ≡ true → P (turned_away f a)) → (b ≡ false → P (unless f rest next))
      → P (unless f (cond b (some a) rest) next)
  either next true a rest turned on = turned refl
  either next false a rest turned on = on refl

  need_cases : (place need : ℕ) → (f.length < total (held f) + need → P (turned_away f NoRoom))
      → (total (held f) + need ≤ f.length → P (leaving f (held f ++ (new_slot f place need ∷ [])))) → P (on_need f place need)
  unfolding on_need
  need_cases place need full done = by (ltb f.length (total (held f) + need)) refl
    where
      by : (b : Bool) → ltb f.length (total (held f) + need) ≡ b
          → P (cond b (turned_away f NoRoom) (leaving f (held f ++ (new_slot f place need ∷ []))))
      by true t = full (ltb-true _ _ t)
      by false t = done (ltb-false _ _ t)

  module _ (place : ℕ) (no_place : P (turned_away f NoSuchPlace)) (malformed : P (turned_away f Malformed)) where
    pub released_cases : P (turned_away f NotTaken)
        → (well_formed f ≡ true → P (leaving f (laid_from 0 (without place (held f))))) → P (released f place)
    unfolding released before_release first_of
    released_cases free done =
        either _ (ltb 15 place) NoSuchPlace _ (λ e. no_place) (λ e.
        either _ (not (holds place (held f))) NotTaken _ (λ e'. free) (λ e'.
        either _ (not (well_formed f)) Malformed _ (λ ill. malformed) (λ well. done (not-false _ well))))

    module _ (ticks : ℕ) (taken : P (turned_away f Taken)) (wrong : P (turned_away f WrongTicks)) where
      pub admitted_cases : (v : Verdict) → ((fault : Fault) → v ≡ Err fault → P (turned_away f (Check fault)))
          → ((k : ℕ) → v ≡ Ok k → f.length < total (held f) + k * ticks → P (turned_away f NoRoom))
          → ((k : ℕ) → v ≡ Ok k → total (held f) + k * ticks ≤ f.length
          → place < places → holds place (held f) ≡ false → well_formed f ≡ true → P (leaving f (held f ++ (new_slot f place (k * ticks) ∷ []))))
          → P (admitted f place ticks v)
      unfolding admitted before_check first_of
      admitted_cases v refused full done =
          either _ (ltb 15 place) NoSuchPlace _ (λ e. no_place) (λ there.
          either _ (holds place (held f)) Taken _ (λ e. taken) (λ free.
          either _ (not (well_formed f)) Malformed _ (λ ill. malformed) (λ well.
          either _ (ltb ticks 1 || ltb 1000 ticks) WrongTicks _ (λ e. wrong) (λ e.
          by v refused full (λ k is fits. done k is fits (omega (arith, ltb-false 15 place there)) free (not-false _ well))))))
        where
          by : (v : Verdict) → ((fault : Fault) → v ≡ Err fault → P (turned_away f (Check fault)))
              → ((k : ℕ) → v ≡ Ok k → f.length < total (held f) + k * ticks → P (turned_away f NoRoom))
              → ((k : ℕ) → v ≡ Ok k → total (held f) + k * ticks ≤ f.length → P (leaving f (held f ++ (new_slot f place (k * ticks) ∷ []))))
              → P (on_verdict f place ticks v)
          by (Err fault) refused full done = refused fault refl
          by (Ok k) refused full done = need_cases place (k * ticks) (full k refl) (done k refl)

-- A call that was done had a well-formed record.
module _ (f : Frame) (place : ℕ) where
  turned : false ≡ true → well_formed f ≡ true
  turned d = absurd (false≢true d)

  pub admitted_well : (ticks : ℕ) (v : Verdict) → is_ok (admitted f place ticks v).answer ≡ true → well_formed f ≡ true
  admitted_well ticks v =
      admitted_cases (λ o. is_ok o.answer ≡ true → well_formed f ≡ true) f place turned turned ticks turned turned v
      (λ fault e. turned) (λ k e over. turned) (λ k e fits there free well d. well)

  pub released_well : is_ok (released f place).answer ≡ true → well_formed f ≡ true
  released_well = released_cases (λ o. is_ok o.answer ≡ true → well_formed f ≡ true) f place turned turned turned (λ well d. well)

-- A well-formed record has a frame, so it was read from 50 numbers.
pub well_whole : (numbers : List ℕ) → well_formed (frame_in numbers) ≡ true → length numbers ≡ 50
unfolding frame_in
well_whole numbers so = by (eqb (length numbers) 50) refl (well (frame_in numbers) so).length_least
  where
    by : (b : Bool) → eqb (length numbers) 50 ≡ b → 1 ≤ cond b (get_or numbers 0 0) 0 → length numbers ≡ 50
    by true whole long = eqb-true (length numbers) 50 whole
    by false whole long = absurd (omega arith)
