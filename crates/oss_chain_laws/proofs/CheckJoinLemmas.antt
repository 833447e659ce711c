-- What a join names is told by two paths, by the access where they part, and by the run that stands there.
use Rattle.std.proofs.Common.{◌≡◌, ℕ, ◌<◌, ◌⊎◌, inl, inr, refl, List, [], ◌∷◌, true, false}
use Rattle.oss_syntax.specs.declared.access.Op.{Op}
use Rattle.oss_syntax.specs.declared.access.Mode.{Mode}
use Rattle.oss_syntax.specs.declared.access.Mode.TheVariants.{Read, Write, Fold}
use Rattle.oss_model.specs.Order.{IsSuffix, whole, longer}
use Rattle.oss_model.specs.Forest.{InRun}
use Rattle.oss_model.specs.Rights.{covers}
use Rattle.oss_model.specs.Bodies.{Program, Start}
use Rattle.oss_model.specs.Machine.{State, find, HasAccess, accesses, is_child, is_earlier, mode_in}
use Rattle.oss_model.specs.History.{IsMade}
use Rattle.oss_chain_laws.specs.Named.{IsAtOrBelow, JoinNames, join_here, join_above_fold, join_above_write}
use Rattle.oss_chain_laws.specs.Happenings.{Happening}
use Rattle.oss_chain_laws.specs.Pass.{is_fold_of}
use Rattle.oss_chain_laws.proofs.WaitLemmas.{IsAhead, under, write_ahead}
use Rattle.oss_chain_laws.proofs.PassTheorem.{above_access, above_mode, fold_above}
use Rattle.oss_chain_laws.proofs.CheckLemmas.{at_or_below, above_all, write_down}

write_covers : (m : Mode) → covers m Write ≡ true → m ≡ Write
write_covers Read h = cc
write_covers Write h = refl
write_covers (Fold op) h = cc

module _ {S : Type 0} (P : Program S) (main : Start S) (s : State S) (made : IsMade P main s) (weight : Happening → ℕ) (c : ℕ) (op : Op) where
  -- above a write stand writes
  writes_above : (j : ℕ) (a : List ℕ) {p : List ℕ} → IsSuffix (j ∷ a) p → HasAccess s c p → mode_in (find s.tasks p) c ≡ Write → mode_in (find s.tasks (j ∷ a)) c ≡ Write
  writes_above j a whole h e = e
  writes_above j a (longer {y = k} {ys = p} g) h e = writes_above j a g (above_access P main s made weight c k p h) (write_covers (mode_in (find s.tasks p) c) (above_mode P main s made weight c k p Write h e))

  -- it stands before the join on some level, and not in the run of that level's fold
  pub record IsFoldedAhead (p q : List ℕ) : Type 0 where
    pub ahead : IsAhead P s c p q
    pub outside : mode_in (find s.tasks (ahead.second ∷ ahead.path)) c ≡ Fold op → InRun (accesses s c) op (ahead.first ∷ ahead.path) (ahead.second ∷ ahead.path) → ⊥

  pub join_folded : {p q : List ℕ} → HasAccess s c p → JoinNames (accesses s c) op p q → IsFoldedAhead p q
  join_folded x (join_here (is_earlier {i = i} {k = k} {p = a} l h) r b) = let u = under P s c b h in record { ahead = record { path = a; first = i; second = k; less = l; below_first = u.0; below_second = whole; access = u.1 }; outside = λ e. r }
  join_folded x (join_above_fold (is_child up down) m n) =
      let d = join_folded up n in
      record { ahead = record { path = d.ahead.path; first = d.ahead.first; second = d.ahead.second; less = d.ahead.less; below_first = d.ahead.below_first; below_second = longer d.ahead.below_second; access = d.ahead.access }; outside = d.outside }
  join_folded x (join_above_write (is_child up down) m n) =
      let d = write_ahead P s c n in
      record {
        ahead = record { path = d.path; first = d.first; second = d.second; less = d.less; below_first = d.below_first; below_second = longer d.below_second; access = d.access };
        outside = λ e r. clash (writes_above d.second d.path d.below_second up m) e;
      }
    where
      clash : {m : Mode} → m ≡ Write → m ≡ Fold op → ⊥
      clash h k = cc

  no_nil : {i : ℕ} {a : List ℕ} → IsSuffix (i ∷ a) [] → ⊥
  no_nil h = elim h [ ]

  join_down : (i j : ℕ) (a q : List ℕ) {p : List ℕ} → i < j → HasAccess s c (i ∷ a) → IsAtOrBelow (accesses s c) (i ∷ a) q → (mode_in (find s.tasks (j ∷ a)) c ≡ Fold op → InRun (accesses s c) op (i ∷ a) (j ∷ a) → ⊥) → IsSuffix (j ∷ a) p → HasAccess s c p → mode_in (find s.tasks p) c ≡ Fold op → JoinNames (accesses s c) op p q
  join_down i j a q l h b out whole x m = join_here (is_earlier l h) (out m) b
  join_down i j a q l h b out (longer {y = k} {ys = []} g) x m = absurd (no_nil g)
  join_down i j a q l h b out (longer {y = k} {ys = n ∷ p} g) x m =
      go (fold_above op (mode_in (find s.tasks (n ∷ p)) c) (above_mode P main s made weight c k (n ∷ p) (Fold op) x m)) (λ e. join_down i j a q l h b out g (above_access P main s made weight c k (n ∷ p) x) e)
    where
      go : ((is_fold_of op (mode_in (find s.tasks (n ∷ p)) c) ≡ true) × (mode_in (find s.tasks (n ∷ p)) c ≡ Fold op)) ⊎ ((is_fold_of op (mode_in (find s.tasks (n ∷ p)) c) ≡ false) × (mode_in (find s.tasks (n ∷ p)) c ≡ Write))
          → (mode_in (find s.tasks (n ∷ p)) c ≡ Fold op → JoinNames (accesses s c) op (n ∷ p) q) → JoinNames (accesses s c) op (k ∷ n ∷ p) q
      go (inl e) again = let u = above_access P main s made weight c k (n ∷ p) x in join_above_fold (is_child u x) e.1 (again e.1)
      go (inr e) again = let u = above_access P main s made weight c k (n ∷ p) x in join_above_write (is_child u x) e.1 (write_down P main s made weight c i j a q l h b g u)

  pub folded_join : {p q : List ℕ} → HasAccess s c p → mode_in (find s.tasks p) c ≡ Fold op → IsFoldedAhead p q → JoinNames (accesses s c) op p q
  folded_join {q = q} x m d =
      let a = d.ahead in
      join_down a.first a.second a.path q a.less (above_all P main s made weight c a.first a.path a.below_first a.access) (at_or_below P main s made weight c a.first a.path a.below_first a.access) d.outside a.below_second x m
