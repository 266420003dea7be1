-- What is shown of writing a proof file in its one form (docs/FORMAT.md, "One form"): the file that is written is well formed; two files
-- are written alike exactly if their nodes agree in rules and table members; the check gives the same verdict on it; writing it again
-- changes nothing; and the number for hosts tells the outcome.
use Prim.Native.Nat.{ℕ, ◌-◌, ◌^◌, ◌≤◌, ◌<◌}
use mathlib.Core.Bool.{Bool, true, false, cond}
use mathlib.Core.List.{List}
use mathlib.Core.Option.{Option, none, some}
use mathlib.Core.Path.{◌≡◌, refl, sym, ◌∙◌, ap}
use native.Mathlib.Omega.{arith}
use borrow.Author.Tests.{le-ltb}
use lib.Dec.{ltb}
use lib.ListN.{length}
use Rattle.bits.proofs.Places.{either}
use Rattle.semantics.specs.Language.{Stmt}
use Rattle.semantics.specs.States.{product, machine_of}
use Rattle.semantics.specs.StepNumber.{steps}
use Rattle.semantics.specs.Derivations.{Derivation}
use Rattle.semantics.specs.Checking.{Broken}
use Rattle.handler.specs.Reading.{HandlerRead, handler, refused, read_handler}
use Rattle.derivation.specs.Tables.{row_at, work_words}
use Rattle.derivation.specs.Reading as Proofs
use Rattle.pair.specs.Limits.{most_proof_bytes, too_long}
use Rattle.pair.specs.Reading.{Pair, states_of, PairRead, pair, faulty, long, on_handler, read_pair}
use Rattle.pair.specs.Modes.{rows}
use Rattle.pair.proofs.Cases.{Holds, Case, case, read_holds, holds_read}
use Rattle.pair.proofs.Bounds.{most_bits, fault_small}
use Rattle.checker.specs.Verdicts as Check
use Rattle.checker.specs.Verdicts.{CheckResult, answer}
use Rattle.report.specs.Code.{index_of, code_of, without_states, Lossless, decoded}
use Rattle.report.proofs.Decoding.{decoded_back}
use Rattle.form.specs.Members.{by_members}
use Rattle.form.specs.Form.{sets_in, relations_in, numbered, form_of}
use Rattle.form.proofs.Forms.{form_read_lem, form_members, form_length, form_fault, one_form}
use Rattle.canonical.specs.Canonical.{Form, form, fault, form_in, canonical, outcome}

-- The derivation of a pair, each table by its members. Two such are equal exactly if their nodes agree in rules and table
-- members (`set_same`, `set_alike`, `relation_same` and `relation_alike` of `form`).
abbrev pub meaning_of : List ℕ → Pair → Derivation
meaning_of pb x = by_members pb (states_of x) x.sets x.derivation

-- What is known where a form is written: both files are read, and the form is that of the derivation.
pub record Formed (hb pb out : List ℕ) : Type 0 where
  pub held : Pair
  pub read : read_pair hb pb ≡ pair held
  pub is_form : out ≡ form_of (states_of held) (meaning_of pb held)

module _ (hb pb : List ℕ) where
  formed_in : (r : PairRead) → read_pair hb pb ≡ r → (out : List ℕ) → form_in pb r ≡ form out → Formed hb pb out
  formed_in long is out e = absurd (let z : ◌≡◌ {A = ℕ} 0 1 = cc in omega arith)
  formed_in (faulty k place) is out e = absurd (let z : ◌≡◌ {A = ℕ} 0 1 = cc in omega arith)
  formed_in (pair x) is out e = record { held = x; read = is; is_form = sym (form_inj _ _ e) }
    where
      form_inj : (a b : List ℕ) → form a ≡ form b → a ≡ b
      form_inj a b e = cc

  pub formed : (out : List ℕ) → canonical hb pb ≡ form out → Formed hb pb out
  unfolding canonical
  formed out e = formed_in (read_pair hb pb) refl out e

  -- And conversely.
  pub form_of_lem : (out : List ℕ) → Formed hb pb out → canonical hb pb ≡ form out
  unfolding canonical
  form_of_lem out f = rw f.read (ap form (sym f.is_form))

  -- Both files of a pair whose form is written.
  pub files : (out : List ℕ) (f : Formed hb pb out) → Holds hb pb f.held
  files out f = read_holds hb pb f.held f.read

-- (1) The file that is written is well formed over the same handler file: it is read without fault, with the same rules over tables with
-- the same members, and it is no longer than the file that was given.
pub record WellFormed (hb pb out : List ℕ) (before : Pair) : Type 0 where
  pub after : Pair
  pub read : read_pair hb out ≡ pair after
  pub same_states : states_of after ≡ states_of before
  pub same_meaning : meaning_of out after ≡ meaning_of pb before
  pub no_longer : length out ≤ length pb

pub well_formed_lem : (hb pb out : List ℕ) (f : Formed hb pb out) → WellFormed hb pb out f.held
well_formed_lem hb pb out f =
    let n = states_of f.held in
    let x = meaning_of pb f.held in
    let h = files hb pb out f in
    let shorter : length out ≤ length pb = rw f.is_form (form_length pb n _ _ _ _ h.proof_read) in
    let after : Pair = record {
      sizes = f.held.sizes;
      statement_bit = f.held.statement_bit;
      statement = f.held.statement;
      sets = length (sets_in x);
      relations = length (relations_in x);
      root_bit = row_at n (length (sets_in x)) (length (relations_in x)) 0;
      derivation = numbered x;
    } in
    record {
      after = after;
      read = holds_read hb out after (record {
        short = record { handler_length = h.short.handler_length; proof_length = omega (arith, h.short.proof_length) };
        handler_read = h.handler_read;
        proof_read = ap (λ file. Proofs.read_proof file n) f.is_form ∙ form_read_lem pb n _ _ _ _ h.proof_read;
      });
      same_states = refl;
      same_meaning = ap (λ file. by_members file n (length (sets_in x)) (numbered x)) f.is_form ∙ form_members pb n _ _ _ _ h.proof_read;
      no_longer = shorter;
    }

-- So it is within the length of a proof file.
pub form_short : (hb pb out : List ℕ) (f : Formed hb pb out) → length out ≤ most_proof_bytes
form_short hb pb out f = omega (arith, (files hb pb out f).short.proof_length, (well_formed_lem hb pb out f).no_longer)

-- (2) Over the same N, two files that are written are equal exactly if the nodes of the files that were given agree in rules and table
-- members.
module _ (hb pb out : List ℕ) (f : Formed hb pb out) (hb' pb' out' : List ℕ) (f' : Formed hb' pb' out')
    (same-N : states_of f.held ≡ states_of f'.held) where
  -- The second proof file over the N of the first handler file.
  form_here : out' ≡ form_of (states_of f.held) (by_members pb' (states_of f.held) f'.held.sets f'.held.derivation)
  form_here = rw same-N f'.is_form

  pub one_file : out ≡ out' → meaning_of pb f.held ≡ meaning_of pb' f'.held
  one_file same =
      one_form _ pb _ _ _ _ (files hb pb out f).proof_read pb' _ _ _ _ (ap (Proofs.read_proof pb') same-N ∙ (files hb' pb' out' f').proof_read)
      (sym f.is_form ∙ same ∙ form_here)
      ∙ ap (λ n. by_members pb' n f'.held.sets f'.held.derivation) same-N

  pub one_file_back : meaning_of pb f.held ≡ meaning_of pb' f'.held → out ≡ out'
  one_file_back same = f.is_form ∙ (λ i. form_of (same-N i) (same i)) ∙ sym f'.is_form

-- The verdict of a choice is known from the verdicts of both.
either_verdict : (t : Bool) (x y x' y' : CheckResult) → x.verdict ≡ x'.verdict → y.verdict ≡ y'.verdict
    → (cond t x y).verdict ≡ (cond t x' y').verdict
either_verdict true x y x' y' e e' = e
either_verdict false x y x' y' e e' = e'

-- It depends on the first fault and the step number, not on the work words.
same_fault : (a b : Option Broken) → a ≡ b → (k : ℕ) (words words' : ℕ → ℕ)
    → (Check.on_fault a k words).verdict ≡ (Check.on_fault b k words').verdict
same_fault a b e k words words' = ap (λ o. (Check.on_fault o k words).verdict) e ∙ by b
  where
    by : (o : Option Broken) → (Check.on_fault o k words).verdict ≡ (Check.on_fault o k words').verdict
    by none = either_verdict (ltb (2 ^ 32 - 1) k) _ _ _ _ refl refl
    by (some b) = refl

-- (3) The check gives the same verdict on the file that is written as on the file that was given: accepted or not, with the same step
-- number, number, place and states; so with any number of work words, and with any handler file that is refused or has the same N.
module _ (hb pb out : List ℕ) (f : Formed hb pb out) (hb' : List ℕ)
    (same-N : (sizes : List ℕ) (at : ℕ) (S : Stmt) → read_handler hb' ≡ handler sizes at S → product sizes ≡ states_of f.held) where
  -- The check of both files, by what reading the handler file gives.
  handler_verdict : (r : HandlerRead) → read_handler hb' ≡ r
      → (Check.on_pair out rows (on_handler out r)).verdict ≡ (Check.on_pair pb rows (on_handler pb r)).verdict
  handler_verdict (refused k place) e = refl
  handler_verdict (handler sizes at S) e =
      let x = f.held in
      let N = same-N sizes at S e in
      let read : Proofs.read_proof pb (product sizes) ≡ Proofs.proof x.sets x.relations x.root_bit x.derivation =
      ap (Proofs.read_proof pb) N ∙ (files hb pb out f).proof_read in
      let is : out ≡ form_of (product sizes) (by_members pb (product sizes) x.sets x.derivation) = rw N f.is_form in
      rw (is, form_read_lem pb (product sizes) _ _ _ _ read, read)
      (same_fault _ _ (form_fault (machine_of sizes) pb _ _ _ _ read S 0) (steps (product sizes) S) _ _)

  -- Neither proof file is too long.
  as_long : too_long hb' out ≡ too_long hb' pb
  unfolding too_long
  as_long =
      let short = (files hb pb out f).short.proof_length in
      let short' = form_short hb pb out f in
      rw (le-ltb most_proof_bytes (length pb), le-ltb most_proof_bytes (length out))

  read_verdict : (Check.on_pair out rows (read_pair hb' out)).verdict ≡ (Check.on_pair pb rows (read_pair hb' pb)).verdict
  unfolding read_pair
  read_verdict = rw as_long (by (too_long hb' pb))
    where
      by : (b : Bool) → (Check.on_pair out rows (cond b long (on_handler out (read_handler hb')))).verdict
          ≡ (Check.on_pair pb rows (cond b long (on_handler pb (read_handler hb')))).verdict
      by true = refl
      by false = handler_verdict (read_handler hb') refl

  pub same_verdict : (words : ℕ) → (answer hb' out rows words).verdict ≡ (answer hb' pb rows words).verdict
  unfolding answer
  same_verdict words = either_verdict (ltb words work_words) _ _ _ _ refl read_verdict

-- With the handler file over which the form was written.
pub own_verdict : (hb pb out : List ℕ) → canonical hb pb ≡ form out
    → (words : ℕ) → (answer hb out rows words).verdict ≡ (answer hb pb rows words).verdict
own_verdict hb pb out e =
    let f = formed hb pb out e in same_verdict hb pb out f hb (λ sizes at S h. one_N hb h (files hb pb out f).handler_read)
  where
    -- The N of a handler file.
    one_N : (hb : List ℕ) {sizes sizes' : List ℕ} {at at' : ℕ} {S S' : Stmt} → read_handler hb ≡ handler sizes at S
        → read_handler hb ≡ handler sizes' at' S' → product sizes ≡ product sizes'
    one_N hb {sizes = sizes} {sizes' = sizes'} e e' = let same : sizes ≡ sizes' = cc in ap product same

-- (4) Writing the file a second time changes nothing.
pub written_again : (hb pb out : List ℕ) → canonical hb pb ≡ form out → canonical hb out ≡ form out
written_again hb pb out e =
    let f = formed hb pb out e in
    let w = well_formed_lem hb pb out f in
    form_of_lem hb out out (record {
      held = w.after;
      read = w.read;
      is_form = f.is_form ∙ sym (λ i. form_of (w.same_states i) (w.same_meaning i));
    })

-- The number for hosts tells the outcome, whatever the files and the room are: the length of a file that is written is within its limit, and
-- a refusal's number and place are small.
abbrev Small : Form → Type 0
Small (form out) = length out ≤ most_proof_bytes
Small (fault k place) = (0 < k) × (k ≤ 25) × (place ≤ most_bits)

in_small : (hb pb : List ℕ) (r : PairRead) → read_pair hb pb ≡ r → Case hb pb r → Small (form_in pb r)
in_small hb pb long is c = omega arith
in_small hb pb (faulty k place) is c = omega (arith, fault_small hb pb k place c)
in_small hb pb (pair x) is c = form_short hb pb _ (record { held = x; read = is; is_form = refl })

all_small : (hb pb : List ℕ) → Small (canonical hb pb)
unfolding canonical
all_small hb pb = in_small hb pb (read_pair hb pb) refl (case hb pb)

small_lossless : (r : Form) (room : ℕ) → Small r → Lossless (outcome r room)
unfolding outcome index_of
small_lossless (fault k place) room s = (s.0, omega arith, omega arith)
small_lossless (form out) room s =
    either (λ o. Lossless o) (ltb room (length out)) _ _ (omega arith) (omega arith)

pub outcome_lossless : (hb pb : List ℕ) (room : ℕ) → Lossless (outcome (canonical hb pb) room)
outcome_lossless hb pb room = small_lossless (canonical hb pb) room (all_small hb pb)

-- An outcome names no states.
no_states : (r : Form) (room : ℕ) → without_states (outcome r room) ≡ outcome r room
unfolding outcome without_states
no_states (fault k place) room = refl
no_states (form out) room = either (λ o. without_states o ≡ o) (ltb room (length out)) _ _ refl refl

pub form_decoded : (hb pb : List ℕ) (room : ℕ)
    → decoded (code_of (outcome (canonical hb pb) room)) ≡ outcome (canonical hb pb) room
form_decoded hb pb room = decoded_back _ (outcome_lossless hb pb room) ∙ no_states (canonical hb pb) room
