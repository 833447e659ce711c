-- Forests of accesses that match: whoever keeps the accesses in a form of its own, by numbers of tasks or by
-- links, shows that its forest matches that of the state, and then has the same flags.
use Rattle.std.specs.Prelude.{◌≡◌, ◌↔◌, ℕ, Bool, List, IsTrue}
use Rattle.oss_syntax.specs.declared.access.Op.{Op}
use Rattle.oss_syntax.specs.declared.access.Mode.{Mode}
use Rattle.oss_model.specs.Machine.{State, accesses}
use Rattle.oss_model.specs.Forest.{Forest, IsDone, IsWriteSatisfied, IsReadSatisfied, IsJoinSatisfied}

-- The second access is the one above the first, one below it, or one of an earlier sibling.
pub data IsNear {K : Type 0} (F : Forest K) (u x : K) : Type 0 where
  above : F.Child x u → IsNear F u x
  below : F.Child u x → IsNear F u x
  before : F.Earlier x u → IsNear F u x

-- A relation between the accesses of two forests: partners stand alike to each other, and what is near a
-- partner has a partner.
pub record Matches {K L : Type 0} (F : Forest K) (G : Forest L) (R : K → L → Type 0) : Type 0 where
  pub top : (u : K) (v : L) → R u v → (F.Top u ↔ G.Top v)
  pub child : (u x : K) (v y : L) → R u v → R x y → (F.Child u x ↔ G.Child v y)
  pub earlier : (u x : K) (v y : L) → R u v → R x y → (F.Earlier u x ↔ G.Earlier v y)
  pub mode : (u : K) (v : L) → R u v → F.mode u ≡ G.mode v
  pub given : (u : K) (v : L) → R u v → (F.Given u ↔ G.Given v)
  pub forth : (u x : K) (v : L) → R u v → IsNear F u x → (y : L) × R x y
  pub back : (u : K) (v y : L) → R u v → IsNear G v y → (x : K) × R x y

-- The accesses are done and satisfied alike.
pub record HaveSameFlags {K L : Type 0} (F : Forest K) (G : Forest L) (u : K) (v : L) : Type 0 where
  pub done : IsDone F u ↔ IsDone G v
  pub write : IsWriteSatisfied F u ↔ IsWriteSatisfied G v
  pub read : IsReadSatisfied F u ↔ IsReadSatisfied G v
  pub join : (op : Op) → (IsJoinSatisfied F op u ↔ IsJoinSatisfied G op v)

-- A forest that is given by tests.
pub record ForestTests (K : Type 0) : Type 0 where
  pub top : K → Bool
  pub child : K → K → Bool
  pub earlier : K → K → Bool
  pub mode : K → Mode
  pub given : K → Bool

-- The forest of these tests.
abbrev pub tested : {K : Type 0} → ForestTests K → Forest K
tested t = record {
  Top = λ u. IsTrue (t.top u);
  Child = λ u v. IsTrue (t.child u v);
  Earlier = λ u v. IsTrue (t.earlier u v);
  mode = t.mode;
  Given = λ u. IsTrue (t.given u);
}

-- Partners in two matching forests have the same flags.
abbrev pub MatchingForestsAgree : Type 0 → Type 0 → Type 0
MatchingForestsAgree K L = (F : ForestTests K) (G : ForestTests L) (R : K → L → Bool) → Matches (tested F) (tested G) (λ u v. IsTrue (R u v)) → (u : K) (v : L) → IsTrue (R u v) → HaveSameFlags (tested F) (tested G) u v

-- A task of a state and its partner in a matching forest have the same flags on a cell.
abbrev pub MatchingStateAgrees : Type 0 → Type 0 → Type 0
MatchingStateAgrees S L = (s : State S) (c : ℕ) (G : ForestTests L) (R : List ℕ → L → Bool) → Matches (accesses s c) (tested G) (λ p v. IsTrue (R p v)) → (p : List ℕ) (v : L) → IsTrue (R p v) → HaveSameFlags (accesses s c) (tested G) p v
