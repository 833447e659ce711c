-- A condition of the forest holds just where all accesses that it names are given up.
use Rattle.std.proofs.Common.{◌≡◌, ◌⊎◌, inl, inr, subst}
use Rattle.oss_syntax.specs.declared.access.Op.{Op}
use Rattle.oss_syntax.specs.declared.access.Mode.{Mode}
use Rattle.oss_syntax.specs.declared.access.Mode.TheVariants.{Write, Fold}
use Rattle.oss_model.specs.Forest.{Forest, IsDone, IsWriteSatisfied, IsReadSatisfied, IsJoinSatisfied, InRun, done, write_top, write_child, read_top, read_child, join_top, join_below_fold, join_below_write}
use Rattle.oss_model.proofs.ForestLemmas.{Known, top, below}
use Rattle.oss_chain_laws.specs.Named.{IsAtOrBelow, itself, WriteNames, write_here, write_above, ReadNames, read_here, read_above, JoinNames, join_here, join_above_fold, join_above_write}
use Rattle.oss_chain_laws.specs.Named as named

-- what the forest of a state is: no access has two creators
pub record IsTree {K : Type 0} (F : Forest K) : Type 0 where
  pub one_above : (p q v : K) → F.Child p v → F.Child q v → p ≡ q
  pub none_above : (p v : K) → F.Child p v → F.Top v → ⊥

-- what joins need besides: it can be told whether an access is in a run, and what stands above a fold
pub record HasRuns {K : Type 0} (F : Forest K) : Type 0 where
  pub run_or_not : (op : Op) (u v : K) → InRun F op u v ⊎ (InRun F op u v → ⊥)
  -- each access below another is of a mode that the other covers
  pub fold_or_write : (op : Op) (p v : K) → F.Child p v → F.mode v ≡ Fold op → (F.mode p ≡ Fold op) ⊎ (F.mode p ≡ Write)

-- no way down from the access goes on for ever
pub data GoesDown {K : Type 0} (F : Forest K) : K → Type 0 where
  goes_down : {u : K} → ((v : K) → F.Child u v → GoesDown F v) → GoesDown F u

pub done_given : {K : Type 0} (F : Forest K) (u w : K) → IsDone F u → IsAtOrBelow F u w → F.Given w
done_given F u w (done here under) itself = here
done_given F u w (done here under) (named.below {v = v} c b) = done_given F v w (under v c) b

pub given_done : {K : Type 0} (F : Forest K) (u : K) → GoesDown F u → ((w : K) → IsAtOrBelow F u w → F.Given w) → IsDone F u
given_done F u (goes_down deeper) all = done (all u itself) (λ v c. given_done F v (deeper v c) (λ w b. all w (named.below c b)))

either : {A B C : Type 0} → A ⊎ B → (A → C) → (B → C) → C
either (inl a) f g = f a
either (inr b) f g = g b

apart : {m : Mode} (op : Op) → m ≡ Write → m ≡ Fold op → ⊥
apart op h k = cc

module _ {K : Type 0} (F : Forest K) (tree : IsTree F) where
  pub write_given : (v w : K) → IsWriteSatisfied F v → WriteNames F v w → F.Given w
  write_given v w (write_top t e) (write_here {u = u} b a) = done_given F u w (e u b) a
  write_given v w (write_top t e) (write_above {p = p} c n) = absurd (tree.none_above p v c t)
  write_given v w (write_child d s e) (write_here {u = u} b a) = done_given F u w (e u b) a
  write_given v w (write_child {p = q} d s e) (write_above {p = p} c n) = write_given q w s (subst (λ (z : K). WriteNames F z w) (tree.one_above p q v c d) n)

  pub read_given : (v w : K) → IsReadSatisfied F v → ReadNames F v w → F.Given w
  read_given v w (read_top t e) (read_here {u = u} b r a) = done_given F u w (e u b r) a
  read_given v w (read_top t e) (read_above {p = p} c n) = absurd (tree.none_above p v c t)
  read_given v w (read_child d s e) (read_here {u = u} b r a) = done_given F u w (e u b r) a
  read_given v w (read_child {p = q} d s e) (read_above {p = p} c n) = read_given q w s (subst (λ (z : K). ReadNames F z w) (tree.one_above p q v c d) n)

  module _ (down : (u : K) → GoesDown F u) where
    pub given_write : (v : K) → Known F v → ((w : K) → WriteNames F v w → F.Given w) → IsWriteSatisfied F v
    given_write v (top t) all = write_top t (λ u b. given_done F u (down u) (λ w a. all w (write_here b a)))
    given_write v (below {p = p} c k) all = write_child c (given_write p k (λ w n. all w (write_above c n))) (λ u b. given_done F u (down u) (λ w a. all w (write_here b a)))

    pub given_read : (v : K) → Known F v → ((w : K) → ReadNames F v w → F.Given w) → IsReadSatisfied F v
    given_read v (top t) all = read_top t (λ u b r. given_done F u (down u) (λ w a. all w (read_here b r a)))
    given_read v (below {p = p} c k) all = read_child c (given_read p k (λ w n. all w (read_above c n))) (λ u b r. given_done F u (down u) (λ w a. all w (read_here b r a)))

    run_or_done : HasRuns F → (op : Op) (v : K) → ((w : K) → JoinNames F op v w → F.Given w) → (u : K) → F.Earlier u v → InRun F op u v ⊎ IsDone F u
    run_or_done runs op v all u b = go (runs.run_or_not op u v)
      where
        go : InRun F op u v ⊎ (InRun F op u v → ⊥) → InRun F op u v ⊎ IsDone F u
        go (inl r) = inl r
        go (inr r) = inr (given_done F u (down u) (λ w a. all w (join_here b r a)))

    pub given_join : HasRuns F → (op : Op) (v : K) → Known F v → F.mode v ≡ Fold op → ((w : K) → JoinNames F op v w → F.Given w) → IsJoinSatisfied F op v
    given_join runs op v (top t) m all = join_top t (run_or_done runs op v all)
    given_join runs op v (below {p = p} c k) m all = go (runs.fold_or_write op p v c m) (λ f. given_join runs op p k f (λ w n. all w (join_above_fold c f n)))
      where
        go : (F.mode p ≡ Fold op) ⊎ (F.mode p ≡ Write) → (F.mode p ≡ Fold op → IsJoinSatisfied F op p) → IsJoinSatisfied F op v
        go (inl f) again = join_below_fold c f (again f) (run_or_done runs op v all)
        go (inr f) again = join_below_write c f (given_write p k (λ w n. all w (join_above_write c f n))) (run_or_done runs op v all)

  pub join_given : (op : Op) (v w : K) → IsJoinSatisfied F op v → JoinNames F op v w → F.Given w
  join_given op v w (join_top t e) (join_here {u = u} b r a) = either (e u b) (λ x. absurd (r x)) (λ d. done_given F u w d a)
  join_given op v w (join_top t e) (join_above_fold {p = p} c m n) = absurd (tree.none_above p v c t)
  join_given op v w (join_top t e) (join_above_write {p = p} c m n) = absurd (tree.none_above p v c t)
  join_given op v w (join_below_fold d f s e) (join_here {u = u} b r a) = either (e u b) (λ x. absurd (r x)) (λ d. done_given F u w d a)
  join_given op v w (join_below_fold {p = q} d f s e) (join_above_fold {p = p} c m n) = join_given op q w s (subst (λ (z : K). JoinNames F op z w) (tree.one_above p q v c d) n)
  join_given op v w (join_below_fold {p = q} d f s e) (join_above_write {p = p} c m n) = absurd (apart op (subst (λ (z : K). F.mode z ≡ Write) (tree.one_above p q v c d) m) f)
  join_given op v w (join_below_write d f s e) (join_here {u = u} b r a) = either (e u b) (λ x. absurd (r x)) (λ d. done_given F u w d a)
  join_given op v w (join_below_write {p = q} d f s e) (join_above_fold {p = p} c m n) = absurd (apart op f (subst (λ (z : K). F.mode z ≡ Fold op) (tree.one_above p q v c d) m))
  join_given op v w (join_below_write {p = q} d f s e) (join_above_write {p = p} c m n) = write_given q w s (subst (λ (z : K). WriteNames F z w) (tree.one_above p q v c d) n)
