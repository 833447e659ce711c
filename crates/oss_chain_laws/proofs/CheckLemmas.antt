-- What a condition names is told by two paths, the rights along them, and for a read or a fold the modes where
-- they part: so a link of a chain is checked without a walk over the tasks between.
use Rattle.std.proofs.Common.{ℕ, ◌<◌, List, [], ◌∷◌}
use Rattle.oss_model.specs.Order.{IsSuffix, whole, longer}
use Rattle.oss_model.specs.Forest.{IsRead}
use Rattle.oss_model.specs.Bodies.{Program, Start}
use Rattle.oss_model.specs.Machine.{State, find, HasAccess, accesses, IsChild, is_child, is_earlier, mode_in}
use Rattle.oss_model.specs.History.{IsMade}
use Rattle.oss_chain_laws.specs.Named.{IsAtOrBelow, itself, below, WriteNames, write_here, write_above, ReadNames, read_here, read_above}
use Rattle.oss_chain_laws.specs.Happenings.{Happening}
use Rattle.oss_chain_laws.proofs.WaitLemmas.{IsAhead, under}
use Rattle.oss_chain_laws.proofs.PassTheorem.{above_access}

module _ {S : Type 0} (P : Program S) (main : Start S) (s : State S) (made : IsMade P main s) (weight : Happening → ℕ) (c : ℕ) where
  deeper : {u v w : List ℕ} → IsAtOrBelow (accesses s c) u v → IsChild s c v w → IsAtOrBelow (accesses s c) u w
  deeper itself d = below d itself
  deeper (below e b) d = below e (deeper b d)

  up_one : (k : ℕ) (p : List ℕ) → HasAccess s c (k ∷ p) → HasAccess s c p
  up_one k p a = above_access P main s made weight c k p a

  no_nil : {i : ℕ} {a : List ℕ} → IsSuffix (i ∷ a) [] → ⊥
  no_nil h = elim h [ ]

  -- a task below another with an access has one through its creators
  pub at_or_below : (i : ℕ) (a : List ℕ) {q : List ℕ} → IsSuffix (i ∷ a) q → HasAccess s c q → IsAtOrBelow (accesses s c) (i ∷ a) q
  at_or_below i a whole h = itself
  at_or_below i a (longer {y = k} {ys = []} g) h = absurd (no_nil g)
  at_or_below i a (longer {y = k} {ys = j ∷ p} g) h = let u = up_one k (j ∷ p) h in deeper (at_or_below i a g u) (is_child u h)

  pub above_all : (i : ℕ) (a : List ℕ) {q : List ℕ} → IsSuffix (i ∷ a) q → HasAccess s c q → HasAccess s c (i ∷ a)
  above_all i a whole h = h
  above_all i a (longer {y = k} {ys = p} g) h = above_all i a g (up_one k p h)

  pub write_down : (i j : ℕ) (a q : List ℕ) {p : List ℕ} → i < j → HasAccess s c (i ∷ a) → IsAtOrBelow (accesses s c) (i ∷ a) q → IsSuffix (j ∷ a) p → HasAccess s c p → WriteNames (accesses s c) p q
  write_down i j a q l h b whole x = write_here (is_earlier l h) b
  write_down i j a q l h b (longer {y = k} {ys = []} g) x = absurd (no_nil g)
  write_down i j a q l h b (longer {y = k} {ys = m ∷ p} g) x = let u = up_one k (m ∷ p) x in write_above (is_child u x) (write_down i j a q l h b g u)

  read_down : (i j : ℕ) (a q : List ℕ) {p : List ℕ} → i < j → HasAccess s c (i ∷ a) → (IsRead (mode_in (find s.tasks (i ∷ a)) c) → ⊥) → IsAtOrBelow (accesses s c) (i ∷ a) q → IsSuffix (j ∷ a) p → HasAccess s c p → ReadNames (accesses s c) p q
  read_down i j a q l h r b whole x = read_here (is_earlier l h) r b
  read_down i j a q l h r b (longer {y = k} {ys = []} g) x = absurd (no_nil g)
  read_down i j a q l h r b (longer {y = k} {ys = m ∷ p} g) x = let u = up_one k (m ∷ p) x in read_above (is_child u x) (read_down i j a q l h r b g u)

  -- a write names just what stands before it on some level
  pub ahead_write : {p q : List ℕ} → HasAccess s c p → IsAhead P s c p q → WriteNames (accesses s c) p q
  ahead_write {q = q} x a = write_down a.first a.second a.path q a.less (above_all a.first a.path a.below_first a.access) (at_or_below a.first a.path a.below_first a.access) a.below_second x

  -- and a read all of that but what stands below a read
  pub record IsChangedAhead (p q : List ℕ) : Type 0 where
    pub ahead : IsAhead P s c p q
    pub changed : IsRead (mode_in (find s.tasks (ahead.first ∷ ahead.path)) c) → ⊥

  pub ahead_read : {p q : List ℕ} → HasAccess s c p → IsChangedAhead p q → ReadNames (accesses s c) p q
  ahead_read {q = q} x d = let a = d.ahead in read_down a.first a.second a.path q a.less (above_all a.first a.path a.below_first a.access) d.changed (at_or_below a.first a.path a.below_first a.access) a.below_second x

  pub read_changed : {p q : List ℕ} → ReadNames (accesses s c) p q → IsChangedAhead p q
  read_changed (read_here (is_earlier {i = i} {k = k} {p = a} l h) r b) = let x = under P s c b h in record { ahead = record { path = a; first = i; second = k; less = l; below_first = x.0; below_second = whole; access = x.1 }; changed = r }
  read_changed (read_above (is_child up down) n) =
      let d = read_changed n in
      record { ahead = record { path = d.ahead.path; first = d.ahead.first; second = d.ahead.second; less = d.ahead.less; below_first = d.ahead.below_first; below_second = longer d.ahead.below_second; access = d.ahead.access }; changed = d.changed }
