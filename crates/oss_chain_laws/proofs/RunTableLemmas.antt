-- How the part before the last run of a fold grows, and that a join waits for it.
use Rattle.std.proofs.Common.{◌≡◌, ℕ, suc, ◌<◌, ◌≤◌, ◌⊎◌, inl, inr, sym, subst, List, [], ◌∷◌, arith}
use Rattle.oss_syntax.specs.declared.access.Op.{Op}
use Rattle.oss_syntax.specs.declared.access.Mode.TheVariants.{Write, Fold}
use Rattle.oss_model.specs.Forest.{InRun}
use Rattle.oss_model.specs.Machine.{State, find, HasAccess, accesses, is_child, IsEarlier, is_earlier, mode_in}
use Rattle.oss_chain_laws.specs.Named.{join_here, join_above_fold, join_above_write}
use Rattle.oss_chain_laws.specs.Happenings.{Happening}
use Rattle.oss_chain_laws.specs.Tables.{given_with, GivenBelow, given_below, InWriteWay, in_write_way, InJoinWay, in_join_way, BeforeRun, before_run}

abbrev number_of : List ℕ → ℕ
number_of [] = 0
number_of (k ∷ p) = k

earlier_less : {S : Type 0} {s : State S} {c : ℕ} {u v : List ℕ} → IsEarlier s c u v → number_of u < number_of v
earlier_less (is_earlier l h) = l

module _ {S : Type 0} (s : State S) (c : ℕ) (op : Op) where
  -- from this child on all accesses are of the fold
  abbrev pub IsRunFrom : List ℕ → ℕ → ℕ → Type 0
  IsRunFrom q i m = (j : ℕ) → i ≤ j → j < m → HasAccess s c (j ∷ q) → mode_in (find s.tasks (j ∷ q)) c ≡ Fold op

  last_or : (j m : ℕ) → j < suc m → (j < m) ⊎ (j ≡ m)
  last_or j m h = grind arith

  run_longer : (q : List ℕ) (i m : ℕ) → IsRunFrom q i m → (HasAccess s c (m ∷ q) → mode_in (find s.tasks (m ∷ q)) c ≡ Fold op) → IsRunFrom q i (suc m)
  run_longer q i m run next j l h a = go (last_or j m h)
    where
      go : (j < m) ⊎ (j ≡ m) → mode_in (find s.tasks (j ∷ q)) c ≡ Fold op
      go (inl k) = run j l k a
      go (inr e) = subst (λ (z : ℕ). mode_in (find s.tasks (z ∷ q)) c ≡ Fold op) (sym e) (next (subst (λ (z : ℕ). HasAccess s c (z ∷ q)) e a))

  -- the access of one more child is of the fold, or there is none: nothing more stands before the run
  pub run_forth : (q : List ℕ) (m : ℕ) (f : Happening) → (HasAccess s c (m ∷ q) → mode_in (find s.tasks (m ∷ q)) c ≡ Fold op) → BeforeRun s c op q (suc m) f → BeforeRun s c op q m f
  run_forth q m f next (before_run i l out g) = go (last_or i m l)
    where
      alone : i ≡ m → IsRunFrom q i (suc m)
      alone e j a b h = let k : j ≡ m = omega (arith, e, a, b) in subst (λ (z : ℕ). mode_in (find s.tasks (z ∷ q)) c ≡ Fold op) (sym k) (next (subst (λ (z : ℕ). HasAccess s c (z ∷ q)) k h))

      go : (i < m) ⊎ (i ≡ m) → BeforeRun s c op q m f
      go (inl k) = before_run i k (λ run. out (run_longer q i m run next)) g
      go (inr e) = absurd (out (alone e))

  pub run_back : (q : List ℕ) (m : ℕ) (f : Happening) → BeforeRun s c op q m f → BeforeRun s c op q (suc m) f
  run_back q m f (before_run i l out g) = before_run i (omega (arith, l)) (λ run. out (λ j a b h. run j a (omega (arith, b)) h)) g

  -- it is not: all stands before the run
  pub stop_forth : (q : List ℕ) (m : ℕ) (f : Happening) → BeforeRun s c op q m f → GivenBelow s c q m f
  stop_forth q m f (before_run i l out g) = given_below i l g

  pub stop_back : (q : List ℕ) (m : ℕ) (f : Happening) → HasAccess s c (m ∷ q) → (mode_in (find s.tasks (m ∷ q)) c ≡ Fold op → ⊥) → GivenBelow s c q (suc m) f → BeforeRun s c op q (suc m) f
  stop_back q m f h other (given_below i l g) = before_run i l (λ run. other (run m (omega (arith, l)) (omega arith) h)) g

  -- what a join waits for on its own level, and above
  in_run : (q : List ℕ) (i k : ℕ) → HasAccess s c (i ∷ q) → IsRunFrom q i k → i < k → InRun (accesses s c) op (i ∷ q) (k ∷ q)
  in_run q i k h run l = record { first = run i (omega arith) l h; between = λ w b d. middle w b d }
    where
      middle : (w : List ℕ) → IsEarlier s c (i ∷ q) w → IsEarlier s c w (k ∷ q) → mode_in (find s.tasks w) c ≡ Fold op
      middle w b (is_earlier {i = j} d y) = let a = earlier_less b in run j (omega (arith, a)) d y

  run_in : (q : List ℕ) (i k : ℕ) → HasAccess s c (i ∷ q) → InRun (accesses s c) op (i ∷ q) (k ∷ q) → IsRunFrom q i k
  run_in q i k h run j a b x = go (last_or i j (omega (arith, a)))
    where
      go : (i < j) ⊎ (i ≡ j) → mode_in (find s.tasks (j ∷ q)) c ≡ Fold op
      go (inl l) = run.between (j ∷ q) (is_earlier l h) (is_earlier b x)
      go (inr e) = subst (λ (z : ℕ). mode_in (find s.tasks (z ∷ q)) c ≡ Fold op) e run.first

  pub join_top_forth : (k : ℕ) (f : Happening) → InJoinWay s c op (k ∷ []) f → BeforeRun s c op [] k f
  join_top_forth k f (in_join_way (join_here (is_earlier {i = i} l h) r b)) = before_run i l (λ run. r (in_run [] i k h run l)) (given_with h b)
  join_top_forth k f (in_join_way (join_above_fold d m n)) = elim d [ ]
  join_top_forth k f (in_join_way (join_above_write d m n)) = elim d [ ]

  pub join_top_back : (k : ℕ) (f : Happening) → BeforeRun s c op [] k f → InJoinWay s c op (k ∷ []) f
  join_top_back k f (before_run i l out (given_with h b)) = in_join_way (join_here (is_earlier l h) (λ r. out (run_in [] i k h r)) b)

  -- below a fold
  pub join_fold_forth : (k j : ℕ) (p : List ℕ) (f : Happening) → mode_in (find s.tasks (j ∷ p)) c ≡ Fold op → InJoinWay s c op (k ∷ j ∷ p) f → BeforeRun s c op (j ∷ p) k f ⊎ InJoinWay s c op (j ∷ p) f
  join_fold_forth k j p f m (in_join_way (join_here (is_earlier {i = i} l h) r b)) = inl (before_run i l (λ run. r (in_run (j ∷ p) i k h run l)) (given_with h b))
  join_fold_forth k j p f m (in_join_way (join_above_fold (is_child up down) e n)) = inr (in_join_way n)
  join_fold_forth k j p f m (in_join_way (join_above_write (is_child up down) e n)) = cc (m, e)

  pub join_fold_back : (k j : ℕ) (p : List ℕ) (f : Happening) → HasAccess s c (j ∷ p) → HasAccess s c (k ∷ j ∷ p) → mode_in (find s.tasks (j ∷ p)) c ≡ Fold op → BeforeRun s c op (j ∷ p) k f ⊎ InJoinWay s c op (j ∷ p) f → InJoinWay s c op (k ∷ j ∷ p) f
  join_fold_back k j p f up down m (inl (before_run i l out (given_with h b))) = in_join_way (join_here (is_earlier l h) (λ r. out (run_in (j ∷ p) i k h r)) b)
  join_fold_back k j p f up down m (inr (in_join_way n)) = in_join_way (join_above_fold (is_child up down) m n)

  -- and below a write
  pub join_write_forth : (k j : ℕ) (p : List ℕ) (f : Happening) → mode_in (find s.tasks (j ∷ p)) c ≡ Write → InJoinWay s c op (k ∷ j ∷ p) f → BeforeRun s c op (j ∷ p) k f ⊎ InWriteWay s c (j ∷ p) f
  join_write_forth k j p f m (in_join_way (join_here (is_earlier {i = i} l h) r b)) = inl (before_run i l (λ run. r (in_run (j ∷ p) i k h run l)) (given_with h b))
  join_write_forth k j p f m (in_join_way (join_above_fold (is_child up down) e n)) = cc (m, e)
  join_write_forth k j p f m (in_join_way (join_above_write (is_child up down) e n)) = inr (in_write_way n)

  pub join_write_back : (k j : ℕ) (p : List ℕ) (f : Happening) → HasAccess s c (j ∷ p) → HasAccess s c (k ∷ j ∷ p) → mode_in (find s.tasks (j ∷ p)) c ≡ Write → BeforeRun s c op (j ∷ p) k f ⊎ InWriteWay s c (j ∷ p) f → InJoinWay s c op (k ∷ j ∷ p) f
  join_write_back k j p f up down m (inl (before_run i l out (given_with h b))) = in_join_way (join_here (is_earlier l h) (λ r. out (run_in (j ∷ p) i k h r)) b)
  join_write_back k j p f up down m (inr (in_write_way n)) = in_join_way (join_above_write (is_child up down) m n)
