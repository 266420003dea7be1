-- What acceptance gives of each pair, and what both are asked.
use Prim.Native.Nat.{ℕ, ◌≤◌}
use mathlib.Core.Bool.{true, false}
use mathlib.Core.List.{List}
use mathlib.Core.Path.{◌≡◌, refl, sym, ap, ◌∙◌, subst}
use native.Mathlib.Omega.{arith}
use Rattle.std.specs.Prelude.{Ok, Err}
use lib.ListN.{length}
use Rattle.semantics.specs.States.{product}
use Rattle.handler.specs.declared.HandlerSummary.{HandlerSummary}
use Rattle.handler.specs.Header.{head_of}
use Rattle.handler.proofs.Heads.{head_read}
use Rattle.handler.proofs.Handlers.{known_handler}
use Rattle.pair.specs.declared.PairFault.{PairFault}
use Rattle.pair.specs.declared.PairFile.{PairFile}
use Rattle.pair.specs.Reading.{handler_summary, proof_head, read_pair, file_of, pair_file}
use Rattle.pair.proofs.Cases.{read_holds}
use Rattle.form.proofs.Forms.{Writable}
use Rattle.composition.specs.declared.forms.Form.{Form}
use Rattle.joint.specs.Composing.{Side, side_of, same_sizes, composition, limited, refused, plain}
use Rattle.composition.specs.Refinement.{WasAccepted, Formed, HandlerOf, Ready, first_unmet, met_of}
use Rattle.composition.proofs.Asked.{asked_by_number}
use Rattle.joint.proofs.Sides.{AcceptedSide, accepted_side}

module _ (hb pb : List ℕ) (was : WasAccepted hb pb) where
  abbrev side : Side
  side = side_of hb pb

  abbrev known : AcceptedSide hb pb was.steps side.sizes side
  known = accepted_side hb pb was.words was.steps was.accepted

  pub few_sizes : length side.sizes ≤ 4
  few_sizes = (head_read hb side.sizes side.at (known_handler hb side.sizes side.at side.statement known.handler_read).head).few

  -- What reading the pair gives.
  abbrev pub summary : HandlerSummary
  summary = handler_summary known.held

  pub not_refused : (fault : PairFault) → Err fault ≡ pair_file (read_pair hb pb) → ⊥
  unfolding pair_file
  not_refused fault is =
      let clash : Err fault ≡ Ok (file_of known.held) = is ∙ ap pair_file known.read in
      let z : ◌≡◌ {A = ℕ} 0 1 = cc in omega arith

  module _ (file : PairFile) (is : Ok file ≡ pair_file (read_pair hb pb)) where
    kept : file ≡ file_of known.held
    unfolding pair_file
    kept = let same : Ok file ≡ Ok (file_of known.held) = is ∙ ap pair_file known.read in cc

    pub summary_is : file.read.handler ≡ summary
    summary_is = ap (λ f. f.read.handler) kept

    pub proof_is : file.read.proof ≡ proof_head known.held
    proof_is = ap (λ f. f.read.proof) kept

    pub head_is : file.head ≡ head_of side.sizes
    head_is = ap (λ f. f.head) kept ∙ rw known.is_side

  pub handler_of : HandlerOf side summary
  handler_of =
      let x = known.held in
      let files = read_holds hb pb x known.read in
      let inside = (known_handler hb x.sizes x.statement_bit x.statement files.handler_read).inside in
      subst (λ s. HandlerOf s summary) (sym known.is_side) (record {
        at_is = refl;
        end_is = refl;
        statements_are = refl;
        levels_are = refl;
        placed = record { starts = omega arith; ends = omega (arith, inside, files.short.handler_length) };
      })

  module _ (n : ℕ) (states : n ≡ product side.sizes) where
    pub room_of : Writable n side.derivation
    room_of = subst (λ k. Writable k side.derivation) (sym states) known.room

    pub ready : (s : HandlerSummary) (f : Form) (words : List ℕ) → HandlerOf side s → Formed n side words f → Ready n side s f words
    ready s f words of_handler of_form = record { states_are = states; of_handler = of_handler; of_form = of_form; room = room_of }

module _ (n : ℕ) (h h' : List ℕ) (A B : Side) (steps : ℕ) where
  pub met_not : (k : ℕ) → first_unmet n A.tables B.tables ≡ Err k → met_of n h h' A B steps ≡ refused 0 (plain k)
  unfolding met_of
  met_not k e = rw e

  pub met_all : first_unmet n A.tables B.tables ≡ Ok tt → met_of n h h' A B steps ≡ limited h h' A B steps
  unfolding met_of
  met_all e = rw e

-- The whole, by the sizes and by what both are asked.
module _ (h h' : List ℕ) (A B : Side) (steps : ℕ) where
  pub other_sizes : same_sizes A.sizes B.sizes ≡ false → composition h h' A B steps ≡ refused 0 (plain 90)
  other_sizes e = asked_by_number h h' A B steps ∙ rw e

  pub same_variables_lem : (n : ℕ) → n ≡ product A.sizes → same_sizes A.sizes B.sizes ≡ true → composition h h' A B steps ≡ met_of n h h' A B steps
  unfolding met_of
  same_variables_lem n states e = asked_by_number h h' A B steps ∙ rw (e, ← states)
