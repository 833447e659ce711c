-- What is due is so, where all that stands is so.
use Rattle.std.proofs.Common.{◌≡◌, ℕ, ◌<◌, refl, sym, subst, ap, ◌∙◌, ◌⊎◌, inl, inr, Bool, true, false, arith}
use Rattle.std.specs.Prelude.{zero, suc, ◌&&◌, ◌||◌, if◌then◌else◌}
use Rattle.oss_syntax.specs.declared.access.Mode.{Mode}
use Rattle.oss_syntax.specs.declared.access.Op.{Op}
use Rattle.oss_syntax.specs.declared.access.Op.TheVariants.{Add, And, Or, Xor}
use Rattle.oss_syntax.specs.declared.access.Mode.TheVariants.{Read, Write, Fold}
use Rattle.oss_model.specs.Rights.{covers, op_eq}
use Rattle.oss_model.specs.Forest.{IsDone, IsRead, IsWriteSatisfied, IsReadSatisfied, IsJoinSatisfied, InRun, done, write_top, write_child, read_top, read_child, join_top, join_below_fold, join_below_write}
use Rattle.oss_access_lists.specs.declared.marks.Marks.{Marks}
use Rattle.oss_access_lists.specs.Wires.{Place, loose, first, after, IsBelow, head, tail, IsBefore, next, later, Wires, wired, AreWired}
use Rattle.oss_access_lists.specs.Flags.{Flag, MayRead, MayJoin, MayWrite, Given, Done, Clear, has, Means, is_read, is_fold, same_fold, is_over, to_next, to_child, is_whole, AreSo, IsDue, from_before, from_above, from_last, given, bare}

pub bools : (b : Bool) → (b ≡ true) ⊎ (b ≡ false)
bools true = inl refl
bools false = inr refl

pub both : (a b : Bool) → (a && b) ≡ true → (a ≡ true) × (b ≡ true)
both true b h = (refl, h)
both false b h = absurd cc

pub both_of : (a b : Bool) → a ≡ true → b ≡ true → (a && b) ≡ true
both_of a b h k = rw (h, k) refl

pub one_of : (a b : Bool) → (a || b) ≡ true → (a ≡ true) ⊎ (b ≡ true)
one_of true b h = inl refl
one_of false b h = inr h

pub same_after : {u v : ℕ} → after u ≡ after v → u ≡ v
same_after h = ap back h
  where
    back : Place → ℕ
    back loose = 0
    back (first p) = 0
    back (after s) = s

pub same_first : {u v : ℕ} → first u ≡ first v → u ≡ v
same_first h = ap up h
  where
    up : Place → ℕ
    up loose = 0
    up (first p) = p
    up (after s) = 0

pub first_is_not_after : {p u : ℕ} → first p ≡ after u → ⊥
first_is_not_after h = cc

pub told_read : (m : Mode) → is_read m ≡ true → IsRead m
told_read Read h = tt
told_read Write h = absurd cc
told_read (Fold op) h = absurd cc

pub read_told : (m : Mode) → IsRead m → is_read m ≡ true
read_told Read h = refl
read_told Write h = absurd h
read_told (Fold op) h = absurd h

pub op_same : (a b : Op) → op_eq a b ≡ true → a ≡ b
op_same Add Add h = refl
op_same And And h = refl
op_same Or Or h = refl
op_same Xor Xor h = refl
op_same Add And h = absurd cc
op_same Add Or h = absurd cc
op_same Add Xor h = absurd cc
op_same And Add h = absurd cc
op_same And Or h = absurd cc
op_same And Xor h = absurd cc
op_same Or Add h = absurd cc
op_same Or And h = absurd cc
op_same Or Xor h = absurd cc
op_same Xor Add h = absurd cc
op_same Xor And h = absurd cc
op_same Xor Or h = absurd cc

pub op_refl : (a : Op) → op_eq a a ≡ true
op_refl Add = refl
op_refl And = refl
op_refl Or = refl
op_refl Xor = refl

pub fold_of : (m : Mode) → is_fold m ≡ true → (op : Op) × (m ≡ Fold op)
fold_of (Fold op) h = (op, refl)
fold_of Read h = absurd cc
fold_of Write h = absurd cc

pub same_folded : (a b : Op) → Fold a ≡ Fold b → a ≡ b
same_folded a b h = ap back h
  where
    back : Mode → Op
    back Read = a
    back Write = a
    back (Fold op) = op

-- two that fold alike
pub alike : (m n : Mode) (op : Op) → n ≡ Fold op → same_fold m n ≡ true → m ≡ Fold op
alike (Fold a) n op e h = go (subst (λ z. same_fold (Fold a) z ≡ true) e h)
  where
    go : op_eq a op ≡ true → Fold a ≡ Fold op
    go k = ap Fold (op_same a op k)
alike Read n op e h = absurd cc
alike Write n op e h = absurd cc

pub alike_told : (m n : Mode) (op : Op) → m ≡ Fold op → n ≡ Fold op → same_fold m n ≡ true
alike_told m n op e f = rw (e, f) (op_refl op)

-- what covers a fold
pub covers_fold : (m : Mode) (op : Op) → covers m (Fold op) ≡ true → (m ≡ Write) ⊎ (m ≡ Fold op)
covers_fold Write op h = inl refl
covers_fold Read op h = absurd cc
covers_fold (Fold a) op h = inr (ap Fold (op_same a op h))

-- what a fold covers
pub fold_covers : (m : Mode) (op : Op) → covers (Fold op) m ≡ true → m ≡ Fold op
fold_covers Write op h = absurd cc
fold_covers Read op h = absurd cc
fold_covers (Fold a) op h = ap Fold (sym (op_same op a h))

module _ (w : Wires) (ok : AreWired w) where
  pub rises : (u v : ℕ) → IsBefore w.place u v → u < v
  rises u v (next e) = ok.behind u v e
  rises u v (later {t = t} e b) = let h = rises u t b in let k = ok.behind t v e in omega arith

  -- of what is before v, and directly before it is t
  pub split_before : {t u v : ℕ} → w.place v ≡ after t → IsBefore w.place u v → (u ≡ t) ⊎ IsBefore w.place u t
  split_before e (next g) = inl (same_after (sym g ∙ e))
  split_before {t} {u} e (later g b) = inr (subst (λ z. IsBefore w.place u z) (same_after (sym g ∙ e)) b)

  -- nothing stands between an access and the next
  pub nothing_between : (v t x : ℕ) → w.place t ≡ after v → IsBefore w.place v x → IsBefore w.place x t → ⊥
  nothing_between v t x e b c = go (split_before e c)
    where
      go : (x ≡ v) ⊎ IsBefore w.place x v → ⊥
      go (inl h) = let k = rises v x b in absurd (omega arith)
      go (inr h) = let k = rises v x b in let j = rises x v h in absurd (omega arith)

  pub nothing_before : (p v u : ℕ) → w.place v ≡ first p → IsBefore w.place u v → ⊥
  nothing_before p v u e (next g) = first_is_not_after (sym e ∙ g)
  nothing_before p v u e (later g b) = first_is_not_after (sym e ∙ g)

  -- all before the next is done, if all before is and the access itself
  pub clear_next : (v t : ℕ) → w.place t ≡ after v → IsDone (wired w) v → ((u : ℕ) → IsBefore w.place u v → IsDone (wired w) u) → (u : ℕ) → IsBefore w.place u t → IsDone (wired w) u
  clear_next v t e d f u b = go (split_before e b)
    where
      go : (u ≡ v) ⊎ IsBefore w.place u v → IsDone (wired w) u
      go (inl h) = subst (λ z. IsDone (wired w) z) (sym h) d
      go (inr h) = f u h

  -- the next is satisfied for a write
  pub write_next : (v t : ℕ) → w.place t ≡ after v → IsDone (wired w) v → IsWriteSatisfied (wired w) v → IsWriteSatisfied (wired w) t
  write_next v t e d (write_top b f) = write_top (tail e b) (clear_next v t e d f)
  write_next v t e d (write_child {p = p} c s f) = write_child (c.0, tail e c.1) s (clear_next v t e d f)

  pub unread_next : (v t : ℕ) → w.place t ≡ after v → (IsRead (w.mode v) ⊎ IsDone (wired w) v) → ((u : ℕ) → IsBefore w.place u v → (IsRead (w.mode u) → ⊥) → IsDone (wired w) u) → (u : ℕ) → IsBefore w.place u t → (IsRead (w.mode u) → ⊥) → IsDone (wired w) u
  unread_next v t e d f u b n = go (split_before e b) d
    where
      go : (u ≡ v) ⊎ IsBefore w.place u v → IsRead (w.mode v) ⊎ IsDone (wired w) v → IsDone (wired w) u
      go (inl h) (inl r) = absurd (n (subst (λ z. IsRead (w.mode z)) (sym h) r))
      go (inl h) (inr k) = subst (λ z. IsDone (wired w) z) (sym h) k
      go (inr h) k = f u h n

  pub read_next : (v t : ℕ) → w.place t ≡ after v → (IsRead (w.mode v) ⊎ IsDone (wired w) v) → IsReadSatisfied (wired w) v → IsReadSatisfied (wired w) t
  read_next v t e d (read_top b f) = read_top (tail e b) (unread_next v t e d f)
  read_next v t e d (read_child {p = p} c s f) = read_child (c.0, tail e c.1) s (unread_next v t e d f)

  -- where all before is done, a fold may be joined if a write may be made
  pub write_joins : (op : Op) (v : ℕ) → w.mode v ≡ Fold op → IsWriteSatisfied (wired w) v → IsJoinSatisfied (wired w) op v
  write_joins op v m (write_top b f) = join_top b (λ u k. inr (f u k))
  write_joins op v m (write_child {p = p} c s f) = go (covers_fold (w.mode p) op (subst (λ z. covers (w.mode p) z ≡ true) m (ok.covered p v c.1))) (λ h. write_joins op p h s)
    where
      go : (w.mode p ≡ Write) ⊎ (w.mode p ≡ Fold op) → (w.mode p ≡ Fold op → IsJoinSatisfied (wired w) op p) → IsJoinSatisfied (wired w) op v
      go (inl h) again = join_below_write c h s (λ u k. inr (f u k))
      go (inr h) again = join_below_fold c h (again h) (λ u k. inr (f u k))

  -- the run of a fold goes on
  pub run_next : (op : Op) (v t : ℕ) → w.place t ≡ after v → w.mode v ≡ Fold op → ((u : ℕ) → IsBefore w.place u v → InRun (wired w) op u v ⊎ IsDone (wired w) u) → (u : ℕ) → IsBefore w.place u t → InRun (wired w) op u t ⊎ IsDone (wired w) u
  run_next op v t e m f u b = go (split_before e b)
    where
      middle : (x : ℕ) → ((y : ℕ) → IsBefore w.place u y → IsBefore w.place y v → w.mode y ≡ Fold op) → IsBefore w.place u x → (x ≡ v) ⊎ IsBefore w.place x v → w.mode x ≡ Fold op
      middle x k a (inl h) = ap w.mode h ∙ m
      middle x k a (inr h) = k x a h

      with_run : InRun (wired w) op u v ⊎ IsDone (wired w) u → InRun (wired w) op u t ⊎ IsDone (wired w) u
      with_run (inl r) = inl (record { first = r.first; between = λ x a c. middle x r.between a (split_before e c) })
      with_run (inr d) = inr d

      go : (u ≡ v) ⊎ IsBefore w.place u v → InRun (wired w) op u t ⊎ IsDone (wired w) u
      go (inl h) = inl (record { first = ap w.mode h ∙ m; between = λ x a c. absurd (nothing_between v t x e (subst (λ z. IsBefore w.place z x) h a) c) })
      go (inr h) = with_run (f u h)

  pub join_next : (op : Op) (v t : ℕ) → w.place t ≡ after v → w.mode v ≡ Fold op → IsJoinSatisfied (wired w) op v → IsJoinSatisfied (wired w) op t
  join_next op v t e m (join_top b f) = join_top (tail e b) (run_next op v t e m f)
  join_next op v t e m (join_below_fold {p = p} c h s f) = join_below_fold (c.0, tail e c.1) h s (run_next op v t e m f)
  join_next op v t e m (join_below_write {p = p} c h s f) = join_below_write (c.0, tail e c.1) h s (run_next op v t e m f)

  -- the first child
  pub write_first : (p v : ℕ) → w.place v ≡ first p → (p ≡ 0 → ⊥) → IsWriteSatisfied (wired w) p → IsWriteSatisfied (wired w) v
  write_first p v e n s = write_child (n, head e) s (λ u b. absurd (nothing_before p v u e b))

  pub read_first : (p v : ℕ) → w.place v ≡ first p → (p ≡ 0 → ⊥) → IsReadSatisfied (wired w) p → IsReadSatisfied (wired w) v
  read_first p v e n s = read_child (n, head e) s (λ u b k. absurd (nothing_before p v u e b))

  pub join_first : (op : Op) (p v : ℕ) → w.place v ≡ first p → (p ≡ 0 → ⊥) → w.mode p ≡ Fold op → IsJoinSatisfied (wired w) op p → IsJoinSatisfied (wired w) op v
  join_first op p v e n m s = join_below_fold (n, head e) m s (λ u b. absurd (nothing_before p v u e b))

  -- the first access of a child of main starts with all flags that a sibling sends
  pub top_first : (f : Flag) (x : Marks) (v : ℕ) → w.place v ≡ first 0 → has f (to_child (w.mode 0) (w.mode v) x) ≡ true → Means w f v
  top_first MayRead x v e h = read_top (head e) (λ u b k. absurd (nothing_before 0 v u e b))
  top_first MayJoin x v e h =
      let o = fold_of (w.mode v) (both (is_fold (w.mode v)) (if same_fold (w.mode 0) (w.mode v) then x.joins else x.writes) h).0 in
      (o.0, o.1, join_top (head e) (λ u b. absurd (nothing_before 0 v u e b)))
  top_first MayWrite x v e h = write_top (head e) (λ u b. absurd (nothing_before 0 v u e b))
  top_first Given x v e h = absurd cc
  top_first Done x v e h = absurd cc
  top_first Clear x v e h = λ u b. absurd (nothing_before 0 v u e b)

  pub below_not_main : (p v : ℕ) → IsBelow w.place p v → v ≡ 0 → ⊥
  below_not_main p v (head e) z = let h = ok.below p v e in absurd (omega (arith, h, z))
  below_not_main p v (tail {u = u} e b) z = let h = ok.behind u v e in absurd (omega (arith, h, z))

pub is_zero : (v : ℕ) → (v ≡ 0) ⊎ (v ≡ 0 → ⊥)
is_zero zero = inl refl
is_zero (suc v) = inr (λ h. cc)

module _ (w : Wires) (ok : AreWired w) (F : ℕ → Marks) (so : AreSo w F) where
  -- the join that a flag tells of is that of the access's own operator
  join_as : (op : Op) (v : ℕ) → w.mode v ≡ Fold op → Means w MayJoin v → IsJoinSatisfied (wired w) op v
  join_as op v m j = subst (λ z. IsJoinSatisfied (wired w) z v) (same_folded j.0 op (sym j.1 ∙ m)) j.2

  over_so : (v : ℕ) → (v ≡ 0 → ⊥) → is_over (F v) ≡ true → IsDone (wired w) v
  over_so v n h = so Done v n (both (F v).given (F v).done h).1

  before_so : (f : Flag) (v t : ℕ) → w.place t ≡ after v → (v ≡ 0 → ⊥) → has f (to_next (w.mode v) (w.mode t) (F v)) ≡ true → Means w f t
  before_so MayRead v t e n h =
      let k = both (F v).reads (is_read (w.mode v) || is_over (F v)) h in
      read_next w ok v t e (go (one_of (is_read (w.mode v)) (is_over (F v)) k.1)) (so MayRead v n k.0)
    where
      go : (is_read (w.mode v) ≡ true) ⊎ (is_over (F v) ≡ true) → IsRead (w.mode v) ⊎ IsDone (wired w) v
      go (inl r) = inl (told_read (w.mode v) r)
      go (inr r) = inr (over_so v n r)
  before_so MayJoin v t e n h =
      let k = both (is_fold (w.mode t)) (if same_fold (w.mode v) (w.mode t) then (F v).joins else ((F v).writes && is_over (F v))) h in
      let o = fold_of (w.mode t) k.0 in
      (o.0, o.1, go o.0 o.1 (bools (same_fold (w.mode v) (w.mode t))) k.1)
    where
      go : (op : Op) → w.mode t ≡ Fold op → (same_fold (w.mode v) (w.mode t) ≡ true) ⊎ (same_fold (w.mode v) (w.mode t) ≡ false) → (if same_fold (w.mode v) (w.mode t) then (F v).joins else ((F v).writes && is_over (F v))) ≡ true → IsJoinSatisfied (wired w) op t
      go op m (inl q) j =
          let k : (F v).joins ≡ true = subst (λ z. (if z then (F v).joins else ((F v).writes && is_over (F v))) ≡ true) q j in
          let l = alike (w.mode v) (w.mode t) op m q in
          join_next w ok op v t e l (join_as op v l (so MayJoin v n k))
      go op m (inr q) j =
          let k : ((F v).writes && is_over (F v)) ≡ true = subst (λ z. (if z then (F v).joins else ((F v).writes && is_over (F v))) ≡ true) q j in
          let l = both (F v).writes (is_over (F v)) k in
          write_joins w ok op t m (write_next w ok v t e (over_so v n l.1) (so MayWrite v n l.0))
  before_so MayWrite v t e n h =
      let k = both (F v).writes (is_over (F v)) h in write_next w ok v t e (over_so v n k.1) (so MayWrite v n k.0)
  before_so Given v t e n h = absurd cc
  before_so Done v t e n h = absurd cc
  before_so Clear v t e n h =
      let k = both (F v).clear (is_over (F v)) h in clear_next w ok v t e (over_so v n k.1) (so Clear v n k.0)

  above_so : (f : Flag) (v t : ℕ) → w.place t ≡ first v → (v ≡ 0 → ⊥) → has f (to_child (w.mode v) (w.mode t) (F v)) ≡ true → Means w f t
  above_so MayRead v t e n h = read_first w ok v t e n (so MayRead v n h)
  above_so MayJoin v t e n h =
      let k = both (is_fold (w.mode t)) (if same_fold (w.mode v) (w.mode t) then (F v).joins else (F v).writes) h in
      let o = fold_of (w.mode t) k.0 in
      (o.0, o.1, go o.0 o.1 (bools (same_fold (w.mode v) (w.mode t))) k.1)
    where
      go : (op : Op) → w.mode t ≡ Fold op → (same_fold (w.mode v) (w.mode t) ≡ true) ⊎ (same_fold (w.mode v) (w.mode t) ≡ false) → (if same_fold (w.mode v) (w.mode t) then (F v).joins else (F v).writes) ≡ true → IsJoinSatisfied (wired w) op t
      go op m (inl q) j =
          let k : (F v).joins ≡ true = subst (λ z. (if z then (F v).joins else (F v).writes) ≡ true) q j in
          let l = alike (w.mode v) (w.mode t) op m q in
          join_first w ok op v t e n l (join_as op v l (so MayJoin v n k))
      go op m (inr q) j =
          let k : (F v).writes ≡ true = subst (λ z. (if z then (F v).joins else (F v).writes) ≡ true) q j in
          write_joins w ok op t m (write_first w ok v t e n (so MayWrite v n k))
  above_so MayWrite v t e n h = write_first w ok v t e n (so MayWrite v n h)
  above_so Given v t e n h = absurd cc
  above_so Done v t e n h = absurd cc
  above_so Clear v t e n h = λ u b. absurd (nothing_before w ok v t u e b)

  last_so : (v t : ℕ) → w.gave t ≡ true → w.last t ≡ v → (v ≡ 0 → ⊥) → is_whole (F v) ≡ true → IsDone (wired w) t
  last_so v t g e n h =
      let k = both (F v).clear (is_over (F v)) h in
      done g (λ u c. go u k.0 (over_so v n k.1) (ok.all_before t u v e c.1))
    where
      go : (u : ℕ) → (F v).clear ≡ true → IsDone (wired w) v → (u ≡ v) ⊎ IsBefore w.place u v → IsDone (wired w) u
      go u k d (inl h) = subst (λ z. IsDone (wired w) z) (sym h) d
      go u k d (inr b) = so Clear v n k u b

  -- what is due is so
  pub due_so : (f : Flag) (t : ℕ) → IsDue w F f t → Means w f t
  due_so f t (from_before v e h) = before_so f v t e (λ z. ok.not_main t (subst (λ y. w.place t ≡ after y) z e)) h
  due_so f t (from_above v e h) = go (is_zero v)
    where
      go : (v ≡ 0) ⊎ (v ≡ 0 → ⊥) → Means w f t
      go (inl z) = top_first w ok f (F v) t (subst (λ y. w.place t ≡ first y) z e) (subst (λ y. has f (to_child (w.mode y) (w.mode t) (F v)) ≡ true) z h)
      go (inr n) = above_so f v t e n h
  due_so f t (from_last v g e n h) = last_so v t g e n h
  due_so f t (given g) = g
  due_so f t (bare g e) = done g (λ u c. absurd (ok.empty t u e c.1))
