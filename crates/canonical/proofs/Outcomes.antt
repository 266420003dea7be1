-- The outcome case by case: a pair that is not read, and a proof file that was read, with and without room for its form.
use Rattle.std.specs.Prelude.{Ok}
use Prim.Native.Nat.{ℕ, ◌≤◌, ◌<◌}
use mathlib.Core.List.{List, ◌++◌}
use mathlib.Core.Path.{◌≡◌, ap}
use borrow.Author.Tests.{lt-ltb, le-ltb}
use lib.ListN.{length, drop}
use Rattle.canonical.specs.Canonical.{Form, form, fault, turned_away, outcome, out_after}

-- A fault leaves the buffer untouched.
pub turned_away_lem : (r : Form) (k place : ℕ) (out : List ℕ) → r ≡ fault k place → (turned_away k place ≡ outcome r (length out)) × (out ≡ out_after r out)
unfolding outcome out_after
turned_away_lem r k place out e = (rw e, rw e)

module _ (file out : List ℕ) (k : ℕ) (is-length : k ≡ length file) where
  pub no_room : length out < k → (turned_away 3 0 ≡ outcome (form file) (length out)) × (out ≡ out_after (form file) out)
  unfolding outcome out_after
  no_room short = let test = lt-ltb (length out) (length file) (rw is-length at short) in (rw test, rw test)

  pub with_room_lem : k ≤ length out → (Ok k ≡ outcome (form file) (length out)) × (file ++ drop k out ≡ out_after (form file) out)
  unfolding outcome out_after
  with_room_lem enough =
      let test = le-ltb (length out) (length file) (rw is-length at enough) in
      (rw test (ap Ok is-length), rw test (ap (λ j. file ++ drop j out) is-length))
