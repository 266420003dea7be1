-- The joined derivation has no fault: its tables by their members are the ones that were made, so its three new nodes break no condition
-- (`Rules`), and below them are the two derivations, at other node numbers.
use Prim.Native.Nat.{ℕ, suc, ◌+◌, ◌<◌}
use mathlib.Core.Path.{◌≡◌, ◌∙◌, ap, ap₂, fun_ext}
use mathlib.Core.Bool.{Bool, true, ◌&&◌}
use mathlib.Core.Option.{none}
use borrow.Author.Tests.{lt-ltb}
use lib.Dec.{ltb}
use Rattle.states.proofs.Search.{and_right, and_both, bool_ext}
use Rattle.states.proofs.Reach.{Between}
use Rattle.semantics.specs.Language.{Stmt, par}
use Rattle.semantics.specs.States.{Machine}
use Rattle.semantics.specs.Derivations.{Derivation, skip, assignment, sequence, parallel, conditional, iteration, weaken, names_of, nodes, Tables, Spec, set_of, relation_of, spec_of}
use Rattle.semantics.specs.Conditions.{first_of, second_of, relation_lies_in}
use Rattle.semantics.specs.Checking.{first_broken, or_broken, at_node, parallel_obligations, weaken_obligations, obligations, first_fault}
use Rattle.semantics.proofs.Clear.{Clear, clear, no_breach, neither}
use Rattle.semantics.proofs.Conditions.{TablesWithin, tables_within}
use Rattle.form.specs.Members.{set_where, relation_where}
use Rattle.form.proofs.Verdicts.{member_tables}
use Rattle.form.proofs.Where.{set_where_lem, relation_where_lem}
use Rattle.joint.specs.Joining.{root_spec, left_spec, right_spec, members_of, joined}
use Rattle.joint.proofs.Rules.{RootHolds, Kept, root_within, left_within, right_within, parallel_clear, left_clear, right_clear}

-- A derivation without a fault.
module _ (t : Tables) where
  own_none : (d : Derivation) (S : Stmt) (k : ℕ) → first_fault t d S k ≡ none → first_broken (obligations t d S) ≡ none
  own_none (skip h) S k e = no_breach k _ e
  own_none (assignment h) S k e = no_breach k _ e
  own_none (sequence h l r) S k e = no_breach k _ (neither _ _ e).0
  own_none (parallel h l r) S k e = no_breach k _ (neither _ _ e).0
  own_none (conditional h d) S k e = no_breach k _ (neither _ _ e).0
  own_none (iteration h K W d) S k e = no_breach k _ (neither _ _ e).0
  own_none (weaken h d) S k e = no_breach k _ (neither _ _ e).0

  -- 31 to 33 are asked at every node.
  own_holds : (d : Derivation) (S : Stmt) → Clear (obligations t d S) → RootHolds t.machine.states (spec_of t (names_of d))
  own_holds (skip h) S (_, (e31, (e32, (e33, _)))) = (e31, e32, e33)
  own_holds (assignment h) S (_, (_, (e31, (e32, (e33, _))))) = (e31, e32, e33)
  own_holds (sequence h l r) S (_, (e31, (e32, (e33, _)))) = (e31, e32, e33)
  own_holds (parallel h l r) S (_, (e31, (e32, (e33, _)))) = (e31, e32, e33)
  own_holds (conditional h d) S (_, (_, (e31, (e32, (e33, _))))) = (e31, e32, e33)
  own_holds (iteration h K W d) S (_, (e31, (e32, (e33, _)))) = (e31, e32, e33)
  own_holds (weaken h d) S (_, (e31, (e32, (e33, _)))) = (e31, e32, e33)

  pub root_holds : (d : Derivation) (S : Stmt) (k : ℕ) → first_fault t d S k ≡ none → RootHolds t.machine.states (spec_of t (names_of d))
  root_holds d S k e = own_holds d S (clear (obligations t d S) (own_none d S k e))

  -- The number of its root does not matter.
  own_at : (d : Derivation) (S : Stmt) (k j : ℕ) → at_node k (first_broken (obligations t d S)) ≡ none
      → at_node j (first_broken (obligations t d S)) ≡ none
  own_at d S k j e = ap (at_node j) (no_breach k (first_broken (obligations t d S)) e)

  pub none_anywhere : (d : Derivation) (S : Stmt) (k : ℕ) → first_fault t d S k ≡ none → (j : ℕ) → first_fault t d S j ≡ none
  none_anywhere (skip h) S k e j = own_at (skip h) S k j e
  none_anywhere (assignment h) S k e j = own_at (assignment h) S k j e
  none_anywhere (sequence h l r) S k e j =
      let (own, below) = neither _ _ e in
      let (on-left, on-right) = neither _ _ below in
      ap₂ or_broken (own_at (sequence h l r) S k j own)
      (ap₂ or_broken (none_anywhere l (first_of S) (suc k) on-left (suc j))
      (none_anywhere r (second_of S) (suc k + nodes l) on-right (suc j + nodes l)))
  none_anywhere (parallel h l r) S k e j =
      let (own, below) = neither _ _ e in
      let (on-left, on-right) = neither _ _ below in
      ap₂ or_broken (own_at (parallel h l r) S k j own)
      (ap₂ or_broken (none_anywhere l (first_of S) (suc k) on-left (suc j))
      (none_anywhere r (second_of S) (suc k + nodes l) on-right (suc j + nodes l)))
  none_anywhere (conditional h d) S k e j =
      let (own, below) = neither _ _ e in
      ap₂ or_broken (own_at (conditional h d) S k j own) (none_anywhere d (first_of S) (suc k) below (suc j))
  none_anywhere (iteration h K W d) S k e j =
      let (own, below) = neither _ _ e in
      ap₂ or_broken (own_at (iteration h K W d) S k j own) (none_anywhere d (first_of S) (suc k) below (suc j))
  none_anywhere (weaken h d) S k e j =
      let (own, below) = neither _ _ e in
      ap₂ or_broken (own_at (weaken h d) S k j own) (none_anywhere d S (suc k) below (suc j))

module _ (m : Machine) where
  abbrev n : ℕ
  n = m.states

  abbrev t : Tables
  t = member_tables m

  -- Tables over the states, named by their members, are those tables.
  named_set : (p : ℕ → Bool) → ((s : ℕ) → p s ≡ true → s < n) → set_of t (set_where n p) ≡ p
  named_set p below =
      set_where_lem m p ∙ fun_ext (λ s. bool_ext _ _ (and_right (ltb s n) _) (λ h. and_both _ _ (lt-ltb s n (below s h)) h))

  named_relation : (r : ℕ → ℕ → Bool) → Between n r → relation_of t (relation_where n r) ≡ r
  named_relation r between =
      relation_where_lem m r ∙ fun_ext (λ s. fun_ext (λ u. bool_ext _ _ (and_right (ltb s n && ltb u n) _)
      (λ h. and_both _ _ (and_both _ _ (lt-ltb s n (between s u h).0) (lt-ltb u n (between s u h).1)) h)))

  pub named-spec : (c : Spec) → TablesWithin n c → spec_of t (members_of n c) ≡ c
  unfolding members_of
  named-spec c w = λ i. record {
    P = named_set c.P w.P-in i;
    R = named_relation c.R w.R-in i;
    G = named_relation c.G w.G-in i;
    Q = named_relation c.Q w.Q-in i;
  }

  module _ (x y : Derivation) (S T : Stmt) where
    abbrev a : Spec
    a = spec_of t (names_of x)

    abbrev b : Spec
    b = spec_of t (names_of y)

    abbrev wa : TablesWithin n a
    wa = tables_within t (names_of x)

    abbrev wb : TablesWithin n b
    wb = tables_within t (names_of y)

    -- 91, 92, and 93 of each root.
    pub joined_fault : first_fault (member_tables m) x S 0 ≡ none → first_fault (member_tables m) y T 0 ≡ none
        → relation_lies_in n b.G a.R ≡ true → relation_lies_in n a.G b.R ≡ true
        → Kept n (root_spec n a b).P a.G → Kept n (root_spec n a b).P b.G
        → (k : ℕ) → first_fault (member_tables m) (joined n a b x y) (par S T) k ≡ none
    unfolding joined
    joined_fault ex ey e91 e92 keeps-a keeps-b k =
        let holds-a = root_holds t x S 0 ex in
        let holds-b = root_holds t y T 0 ey in
        let c_is = named-spec (root_spec n a b) (root_within m a b wa wb) in
        let l-is = named-spec (left_spec n a b) (left_within m a b wa wb) in
        let r-is = named-spec (right_spec n a b) (right_within m a b wa wb) in
        let root : first_broken (obligations t (joined n a b x y) (par S T)) ≡ none =
        (λ i. first_broken (parallel_obligations n true (c_is i) (l-is i) (r-is i))) ∙ parallel_clear m a b wa wb holds-a holds-b
        in
        let left = ap (λ c. first_broken (weaken_obligations n c a)) l-is ∙ left_clear m a b wa wb holds-a holds-b e91 e92 keeps-a keeps-b in
        let right = ap (λ c. first_broken (weaken_obligations n c b)) r-is ∙ right_clear m a b wa wb holds-a holds-b e91 e92 keeps-a keeps-b in
        ap₂ or_broken (ap (at_node k) root) (ap₂ or_broken
        (ap₂ or_broken (ap (at_node (suc k)) left) (none_anywhere t x S 0 ex (suc (suc k))))
        (ap₂ or_broken (ap (at_node (suc k + suc (nodes x))) right) (none_anywhere t y T 0 ey (suc (suc k + suc (nodes x))))))
