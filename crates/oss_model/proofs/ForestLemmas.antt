-- A forest that grows keeps what is done and satisfied.
use Rattle.std.proofs.Common.{◌≡◌, ◌⊎◌, inl, inr, sym, subst, ◌∙◌}
use Rattle.oss_syntax.specs.declared.access.Op.{Op}
use Rattle.oss_model.specs.Forest.{Forest, IsDone, IsWriteSatisfied, IsReadSatisfied, IsJoinSatisfied, IsRead, InRun, done, write_top, write_child, read_top, read_child, join_top, join_below_fold, join_below_write}

-- a later forest: more may be given up, and new accesses stand neither below what was given up nor before an old one
pub record Grows {K : Type 0} (F G : Forest K) : Type 0 where
  pub given : (u : K) → F.Given u → G.Given u
  pub child : (u v : K) → F.Given u → G.Child u v → F.Child u v

pub done_stays : {K : Type 0} (F G : Forest K) → Grows F G → (u : K) → IsDone F u → IsDone G u
done_stays F G g u (done here below) =
    done (g.given u here) (λ v c. done_stays F G g v (below v (g.child u v here c)))

-- an access that is in F
pub data Known {K : Type 0} (F : Forest K) : K → Type 0 where
  top : {v : K} → F.Top v → Known F v
  below : {p v : K} → F.Child p v → Known F p → Known F v

-- the accesses of F stay, and no new one stands before an old one
pub record Keeps {K : Type 0} (A : K → Type 0) (F G : Forest K) : Type 0 where
  pub grows : Grows F G
  pub top : (v : K) → F.Top v → G.Top v
  pub child : (u v : K) → F.Child u v → G.Child u v
  pub earlier : (u v : K) → Known F v → G.Earlier u v → F.Earlier u v
  pub mode : (u : K) → A u → G.mode u ≡ F.mode u
  pub earlier_access : (u v : K) → F.Earlier u v → A u
  pub child_access : (u v : K) → F.Child u v → A u

pub write_satisfied_known : {K : Type 0} (F : Forest K) → (v : K) → IsWriteSatisfied F v → Known F v
write_satisfied_known F v (write_top t e) = top t
write_satisfied_known F v (write_child {p = p} c s e) = below c (write_satisfied_known F p s)

pub read_satisfied_known : {K : Type 0} (F : Forest K) → (v : K) → IsReadSatisfied F v → Known F v
read_satisfied_known F v (read_top t e) = top t
read_satisfied_known F v (read_child {p = p} c s e) = below c (read_satisfied_known F p s)

pub join_satisfied_known : {K : Type 0} (F : Forest K) (op : Op) → (v : K) → IsJoinSatisfied F op v → Known F v
join_satisfied_known F op v (join_top t e) = top t
join_satisfied_known F op v (join_below_fold {p = p} c m s e) = below c (join_satisfied_known F op p s)
join_satisfied_known F op v (join_below_write {p = p} c m s e) = below c (write_satisfied_known F p s)

pub write_satisfied_stays : {K : Type 0} (A : K → Type 0) (F G : Forest K) → Keeps A F G → (v : K) → IsWriteSatisfied F v → IsWriteSatisfied G v
write_satisfied_stays A F G k v (write_top t e) =
    write_top (k.top v t) (λ u b. done_stays F G k.grows u (e u (k.earlier u v (top t) b)))
write_satisfied_stays A F G k v (write_child {p = p} c s e) =
    write_child (k.child p v c) (write_satisfied_stays A F G k p s) (λ u b. done_stays F G k.grows u (e u (k.earlier u v (below c (write_satisfied_known F p s)) b)))

unread_stay : {K : Type 0} (A : K → Type 0) (F G : Forest K) → Keeps A F G → (v : K) → Known F v → ((u : K) → F.Earlier u v → (IsRead (F.mode u) → ⊥) → IsDone F u) → (u : K) → G.Earlier u v → (IsRead (G.mode u) → ⊥) → IsDone G u
unread_stay A F G k v known e u b n =
    let b' = k.earlier u v known b in
    done_stays F G k.grows u (e u b' (λ r. n (subst IsRead (sym (k.mode u (k.earlier_access u v b'))) r)))

pub read_satisfied_stays : {K : Type 0} (A : K → Type 0) (F G : Forest K) → Keeps A F G → (v : K) → IsReadSatisfied F v → IsReadSatisfied G v
read_satisfied_stays A F G k v (read_top t e) = read_top (k.top v t) (unread_stay A F G k v (top t) e)
read_satisfied_stays A F G k v (read_child {p = p} c s e) = read_child (k.child p v c) (read_satisfied_stays A F G k p s) (unread_stay A F G k v (below c (read_satisfied_known F p s)) e)

run_stays : {K : Type 0} (A : K → Type 0) (F G : Forest K) → Keeps A F G → (op : Op) (v : K) → Known F v → ((u w : K) → G.Earlier u w → F.Earlier w v → F.Earlier u w) → ((u : K) → F.Earlier u v → InRun F op u v ⊎ IsDone F u) → (u : K) → G.Earlier u v → InRun G op u v ⊎ IsDone G u
run_stays A F G k op v known mid e u b = go (k.earlier u v known b) (e u (k.earlier u v known b))
  where
    go : F.Earlier u v → InRun F op u v ⊎ IsDone F u → InRun G op u v ⊎ IsDone G u
    go b' (inl r) =
        inl (record {
          first = k.mode u (k.earlier_access u v b') ∙ r.first;
          between = λ w h g. let g' = k.earlier w v known g in k.mode w (k.earlier_access w v g') ∙ r.between w (mid u w h g') g';
        })
    go b' (inr d) = inr (done_stays F G k.grows u d)

-- an access before an earlier sibling is there too
abbrev pub Between : {K : Type 0} → Forest K → Forest K → Type 0
Between {K} F G = (u w v : K) → G.Earlier u w → F.Earlier w v → F.Earlier u w

pub join_satisfied_stays : {K : Type 0} (A : K → Type 0) (F G : Forest K) → Keeps A F G → Between F G → (op : Op) (v : K) → IsJoinSatisfied F op v → IsJoinSatisfied G op v
join_satisfied_stays A F G k m op v (join_top t e) = join_top (k.top v t) (run_stays A F G k op v (top t) (λ u w a b. m u w v a b) e)
join_satisfied_stays A F G k m op v (join_below_fold {p = p} c q s e) =
    join_below_fold (k.child p v c) (k.mode p (k.child_access p v c) ∙ q) (join_satisfied_stays A F G k m op p s) (run_stays A F G k op v (below c (join_satisfied_known F op p s)) (λ u w a b. m u w v a b) e)
join_satisfied_stays A F G k m op v (join_below_write {p = p} c q s e) =
    join_below_write (k.child p v c) (k.mode p (k.child_access p v c) ∙ q) (write_satisfied_stays A F G k p s) (run_stays A F G k op v (below c (write_satisfied_known F p s)) (λ u w a b. m u w v a b) e)
