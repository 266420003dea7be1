-- Any list of calls from a bare frame: the slots are the layout of the guests present, within the frame, each at a place of its own; a guest
-- is refused for room only if the needs admitted and its own are more than the frame; and each guest present is served by its slot.
use Rattle.std.specs.Prelude.{Ok}
use Prim.Native.Nat.{ℕ, ◌+◌, ◌*◌, ◌≤◌, ◌<◌}
use native.Mathlib.Omega.{arith}
use mathlib.Core.Bool.{Bool, true, false, cond, true≢false}
use mathlib.Core.List.{List, [], ◌∷◌, ◌++◌, map}
use mathlib.Core.Path.{◌≡◌, refl, sym, ap, ap₂, ◌∙◌, subst}
use lib.Dec.{eqb}
use lib.ListN.{length}
use Rattle.pair.specs.Modes.{rows}
use Rattle.checker.specs.Verdicts.{Verdict, AcceptedIsSound}
use Rattle.checker.specs.Verdicts as Verdicts
use Rattle.checker.proofs.Promised.{accepted_is_sound}
use Rattle.frame.specs.declared.Slot.{Slot}
use Rattle.frame.specs.declared.Refusal.TheVariants.{NoSuchPlace, Taken, NotTaken, Malformed, WrongTicks, Check, NoRoom}
use Rattle.frame.specs.declared.Outcome.{Outcome}
use Rattle.frame.specs.Slots.{places, held, total, holds, others, without, laid_from, apart, well_formed, frame_of, bare}
use Rattle.std.specs.Prelude.{Ok, Err}
use Rattle.frame.specs.Calls.{Answer, admitted, admit, released}
use Rattle.frame.specs.Served.{Served}
use Rattle.frame.specs.Lent.{frame_in, numbers_of}
use Rattle.frame.specs.History.{Admission, Call, admission, release, stated, steps_of, need, outcome, guests_after, Core, next, after, after_calls, slot_of, layout, needs, Paired, empty, also, Kept}
use Rattle.frame.proofs.Laid.{total_append, total_laid, length_laid, holds_laid, apart_laid, laid_without, laid_append}
use Rattle.frame.proofs.Others.{others_cases}
use Rattle.frame.proofs.Places.{apart_more, apart_less, total_less, few}
use Rattle.frame.proofs.Frames.{held_of, whole_frame, well_of}
use Rattle.frame.proofs.Calls.{serves}
use Rattle.frame.proofs.Outcomes.{new_slot, leaving, admitted_cases, released_cases}
use Rattle.frame.proofs.Lent.{read_back}

-- A guest's pair was accepted with the step number by which its need is counted.
abbrev Accepted : Admission → Type 0
Accepted g = (Verdicts.answer g.handler g.proof rows g.words).verdict ≡ Ok (steps_of g)

data All {A : Type 0} (P : A → Type 0) : List A → Type 0 where
  none : All P []
  more : {x : A} {xs : List A} → P x → All P xs → All P (x ∷ xs)

-- What every call keeps.
record Inv (n : ℕ) (c : Core) : Type 0 where
  laid : c.frame ≡ frame_of n (layout c.guests)
  within : total (map slot_of c.guests) ≤ n
  own_places : apart places (map slot_of c.guests) ≡ true
  accepted : All Accepted c.guests

-- A guest more comes last, and guests at a place go.
map_last : (gs : List Admission) (g : Admission) → map slot_of (gs ++ (g ∷ [])) ≡ map slot_of gs ++ (slot_of g ∷ [])
map_last [] g = refl
map_last (x ∷ gs) g = ap (λ l. slot_of x ∷ l) (map_last gs g)

map_others : (place : ℕ) (gs : List Admission) → map slot_of (others (λ g. g.place) place gs) ≡ without place (map slot_of gs)
unfolding others
map_others place [] = refl
map_others place (g ∷ gs) = by (eqb g.place place) (map_others place gs)
  where
    by : (b : Bool) → map slot_of (others (λ g. g.place) place gs) ≡ without place (map slot_of gs)
        → map slot_of (cond b (others (λ g. g.place) place gs) (g ∷ others (λ g. g.place) place gs))
        ≡ cond b (without place (map slot_of gs)) (slot_of g ∷ without place (map slot_of gs))
    by true e = e
    by false e = ap (λ l. slot_of g ∷ l) e

all_last : {P : Admission → Type 0} {gs : List Admission} {g : Admission} → All P gs → P g → All P (gs ++ (g ∷ []))
all_last none p = more p none
all_last (more q rest) p = more q (all_last rest p)

all_others : {P : Admission → Type 0} (place : ℕ) (gs : List Admission) → All P gs → All P (others (λ g. g.place) place gs)
unfolding others
all_others place [] all = none
all_others {P = P} place (g ∷ gs) (more p rest) =
    let kept = all_others place gs rest in others_cases (λ g. g.place) place g gs (All P) (λ e. kept) (λ e. more p kept)

-- Which answer is 103.
abbrev for_room : Answer → Bool
for_room (Ok x) = false
for_room (Err NoSuchPlace) = false
for_room (Err Taken) = false
for_room (Err NotTaken) = false
for_room (Err Malformed) = false
for_room (Err WrongTicks) = false
for_room (Err (Check fault)) = false
for_room (Err NoRoom) = true

-- One call.
module _ (n : ℕ) (c : Core) (k : Inv n c) where
  abbrev asks : List Slot
  asks = map slot_of c.guests

  held_is : held c.frame ≡ layout c.guests
  held_is = ap held k.laid ∙ held_of n (layout c.guests)

  length_is : c.frame.length ≡ n
  unfolding frame_of
  length_is = ap (λ f. f.length) k.laid

  total_is : total (held c.frame) ≡ total asks
  unfolding layout
  total_is = ap total held_is ∙ total_laid 0 asks

  -- After an outcome that leaves the record, with the guests as they were.
  abbrev InvBy : Call → Outcome → Type 0
  InvBy call o = Inv n (record { frame = o.frame; guests = guests_after o.answer call c.guests })

  admits : (a : Admission) (v : Verdict) → (Verdicts.answer a.handler a.proof rows a.words).verdict ≡ v
      → InvBy (admission a) (admitted c.frame a.place a.ticks v)
  unfolding layout laid_from total
  admits a v is =
      admitted_cases (InvBy (admission a)) c.frame a.place k k a.ticks k k v (λ fault e. k) (λ s e over. k) comes
    where
      comes : (s : ℕ) → v ≡ Ok s → total (held c.frame) + s * a.ticks ≤ c.frame.length → a.place < places
          → holds a.place (held c.frame) ≡ false → well_formed c.frame ≡ true
          → InvBy (admission a) (leaving c.frame (held c.frame ++ (new_slot c.frame a.place (s * a.ticks) ∷ [])))
      comes s e fits there free well =
          let steps : steps_of a ≡ s = ap stated (is ∙ e) in
          let guest = slot_of a ∷ [] in
          let laid-last : layout (c.guests ++ (a ∷ [])) ≡ held c.frame ++ (new_slot c.frame a.place (s * a.ticks) ∷ []) =
          ap (laid_from 0) (map_last c.guests a) ∙ laid_append 0 asks guest
          ∙ ap₂ (λ (l : List Slot) (first : ℕ). l ++ laid_from first guest) (sym held_is) (omega (arith, total_is))
          ∙ ap (λ (x : ℕ). held c.frame ++ (new_slot c.frame a.place (x * a.ticks) ∷ [])) steps in
          record {
            laid = ap₂ frame_of length_is (sym laid-last);
            within = omega (arith, ap total (map_last c.guests a), total_append asks guest, total_is, length_is, ap (λ x. x * a.ticks) steps);
            own_places =
                ap (apart places) (map_last c.guests a)
                ∙ apart_more places asks (slot_of a) k.own_places (sym (ap (holds a.place) held_is ∙ holds_laid a.place 0 asks) ∙ free) there;
            accepted = all_last k.accepted (is ∙ e ∙ ap Ok (sym steps));
          }

  releases : (place : ℕ) → InvBy (release place) (released c.frame place)
  unfolding layout
  releases place = released_cases (InvBy (release place)) c.frame place k k k goes
    where
      goes : well_formed c.frame ≡ true → InvBy (release place) (leaving c.frame (laid_from 0 (without place (held c.frame))))
      goes well = record {
        laid =
            ap₂ frame_of length_is (ap (λ l. laid_from 0 (without place l)) held_is ∙ laid_without place 0 0 asks ∙ ap (laid_from 0) (sym (map_others place c.guests)));
        within = omega (arith, ap total (map_others place c.guests), total_less place asks, k.within);
        own_places = ap (apart places) (map_others place c.guests) ∙ apart_less places place asks k.own_places;
        accepted = all_others place c.guests k.accepted;
      }

  inv_next : (call : Call) → Inv n (next c call)
  unfolding outcome admit
  inv_next (admission a) = admits a _ refl
  inv_next (release place) = releases place

  -- Only 103 is 103, and it is given only where the need does not fit.
  no_room : (a : Admission) → (outcome c.frame (admission a)).answer ≡ Err NoRoom → n < needs c.guests + need a
  unfolding outcome admit layout
  no_room a =
      admitted_cases (λ o. o.answer ≡ Err NoRoom → n < needs c.guests + need a) c.frame a.place
      (other (Err NoSuchPlace) refl) (other (Err Malformed) refl) a.ticks (other (Err Taken) refl) (other (Err WrongTicks) refl) _
      (λ fault e. other (Err (Check fault)) refl)
      (λ s e over is. omega (arith, total_is, total_laid 0 asks, length_is, ap (λ v. stated v * a.ticks) e))
      (λ s e fits there free well. other (Ok tt) refl)
    where
      other : (x : Answer) → for_room x ≡ false → x ≡ Err NoRoom → n < needs c.guests + need a
      other x is e = absurd (true≢false (sym (ap for_room e) ∙ is))

-- From a bare frame, after any calls.
inv_after : (n : ℕ) (c : Core) → Inv n c → (calls : List Call) → Inv n (after c calls)
unfolding after
inv_after n c k [] = k
inv_after n c k (call ∷ rest) = inv_after n (next c call) (inv_next n c k call) rest

inv_always : (n : ℕ) (calls : List Call) → Inv n (after_calls n calls)
unfolding layout laid_from total apart
inv_always n calls =
    inv_after n (record { frame = bare n; guests = [] }) (record { laid = refl; within = omega arith; own_places = refl; accepted = none }) calls

-- Each guest is served by its slot of the layout.
all_served : (tick : ℕ) (gs : List Admission) → All Accepted gs → Paired (λ g s. Served g.handler g.proof g.ticks s) gs (laid_from tick (map slot_of gs))
unfolding laid_from
all_served tick [] none = empty
all_served tick (g ∷ gs) (more p rest) =
    also (serves g.handler g.proof g.ticks (steps_of g) _ (subst (AcceptedIsSound g.handler g.proof rows) p (accepted_is_sound g.handler g.proof rows g.words)) refl)
    (all_served (tick + need g) gs rest)

pub after_any_calls : (n : ℕ) → 1 ≤ n → n ≤ 1000000 → (calls : List Call) → Kept n (after_calls n calls)
unfolding layout
after_any_calls n least most calls =
    let c = after_calls n calls in
    let k = inv_always n calls in
    let asked = map slot_of c.guests in
    record {
      laid = k.laid;
      within = omega (arith, total_laid 0 asked, k.within);
      own_places = apart_laid places 0 asked ∙ k.own_places;
      is_well_formed = ap well_formed k.laid ∙ well_of n asked least most k.within k.own_places;
      room = no_room n c k;
      served = subst (Paired _ c.guests) (sym (held_is n c k)) (all_served 0 c.guests k.accepted);
    }

-- A host that lends the numbers of the record to each call lends the record itself.
pub lent_always : (n : ℕ) (calls : List Call) → let f = (after_calls n calls).frame in frame_in (numbers_of f) ≡ f
unfolding layout
lent_always n calls =
    let k = inv_always n calls in
    let asked = map slot_of (after_calls n calls).guests in
    read_back (after_calls n calls).frame
    (ap (λ f. length f.slots) k.laid ∙ whole_frame n (laid_from 0 asked) (omega (arith, length_laid 0 asked, few places asked k.own_places)))
