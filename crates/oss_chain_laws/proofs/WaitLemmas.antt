-- What an event waits for is before it, and so no way back through what waits for what goes on for ever.
use Rattle.std.proofs.Common.{◌≡◌, ℕ, suc, ◌<◌, ◌≤◌, ◌⊎◌, inl, inr, refl, sym, subst, ap, ◌∙◌, List, [], ◌∷◌, length, arith}
use Rattle.oss_syntax.specs.declared.access.Op.{Op}
use Rattle.oss_model.specs.Order.{IsSuffix, whole, longer}
use Rattle.oss_model.specs.Bodies.{Program, Act, stage_act, stage_created}
use Rattle.oss_model.specs.Machine.{Task, State, At, HasAccess, accesses, IsChild, is_child, is_earlier}
use Rattle.oss_model.specs.History.{IsMade}
use Rattle.oss_model.specs.Moves.{created_now}
use Rattle.oss_model.proofs.StageLemmas.{created_grows, creation_counts}
use Rattle.oss_model.proofs.OrderLemmas.{suffix_drop, suffix_length, suffix_linear, suffix_full, before_number, before_child, before_up, before_across}
use Rattle.oss_model.proofs.TreeLemmas.{at_same, task_above}
use Rattle.oss_chain_laws.specs.Places.{IsPlaced, placed_act, placed_cell, IsEarlier, InOrder}
use Rattle.oss_chain_laws.specs.Named.{IsAtOrBelow, itself, below, WriteNames, write_here, write_above, ReadNames, read_here, read_above, JoinNames, join_here, join_above_fold, join_above_write}
use Rattle.oss_chain_laws.specs.Happenings.{Happening, Acting, Giving, Does, EndsWith, IsLeft, last_act, last_cell, WaitsFor, follows, begins, reads, writes, waits, awaits, waits_on, released, ends, ends_below, joins}

own_earlier : (p : List ℕ) (j k m n : ℕ) → j ≤ k → m < n → IsEarlier (j ∷ p) m (k ∷ p) n
own_earlier p j k m n h l = go (which j k)
  where
    which : (j k : ℕ) → (j < k) ⊎ (j ≡ k) ⊎ (k < j)
    which j k = grind arith

    go : (j < k) ⊎ (j ≡ k) ⊎ (k < j) → IsEarlier (j ∷ p) m (k ∷ p) n
    go (inl i) = inl (before_number j k p i)
    go (inr (inl i)) = inr (ap (λ (z : ℕ). z ∷ p) i, l)
    go (inr (inr i)) = absurd (omega arith)

suffix_below : {A : Type 0} {x : A} {xs ys : List A} → IsSuffix (x ∷ xs) ys → IsSuffix xs ys
suffix_below h = suffix_drop h

module _ {S : Type 0} (P : Program S) (s : State S) where
  -- one act has one place
  pub does_same : {p : List ℕ} {n j k : ℕ} {a b : Act S} → Does P s p n j a → Does P s p n k b → (j ≡ k) × (a ≡ b)
  does_same {p = p} d e =
      let t : d.task ≡ e.task = at_same s p d.task e.task d.at_ e.at_ in
      let f : IsSuffix (d.answer ∷ d.past) e.task.body.found = subst (λ (z : Task S). IsSuffix (d.answer ∷ d.past) z.body.found) t d.done_ in
      let l : length d.past ≡ length e.past = d.number_is ∙ sym e.number_is in
      let q : d.answer ∷ d.past ≡ e.answer ∷ e.past = suffix_full (suffix_linear f e.done_ (omega (arith, l))) (omega (arith, l)) in
      let r : d.past ≡ e.past = cc in (
        sym d.created_is ∙ (ap (λ (z : Task S). stage_created P z.body.start d.past) t ∙ (ap (λ (z : List ℕ). stage_created P e.task.body.start z) r ∙ e.created_is)),
        sym d.act_is ∙ (ap (λ (z : Task S). stage_act P z.body.start d.past) t ∙ (ap (λ (z : List ℕ). stage_act P e.task.body.start z) r ∙ e.act_is)),
      )

  pub placed_same : {e : Happening} {xs ys : List ℕ} {n m : ℕ} → IsPlaced P s e xs n → IsPlaced P s e ys m → (xs ≡ ys) × (n ≡ m)
  placed_same (placed_act {p = p} d) (placed_act e) = (ap (λ (z : ℕ). z ∷ p) (does_same d e).0, refl)
  placed_same (placed_cell {p = p} {t = t} h) (placed_cell {t = u} k) =
      let e = at_same s p t u h k in
      (ap (λ (z : Task S). created_now P z.body ∷ p) e, ap (λ (z : Task S). length z.body.found) e)

  -- an event that an access of an earlier sibling, on some level, leaves
  pub record IsAhead (c : ℕ) (p q : List ℕ) : Type 0 where
    pub path : List ℕ
    pub first : ℕ
    pub second : ℕ
    pub less : first < second
    pub below_first : IsSuffix (first ∷ path) q
    pub below_second : IsSuffix (second ∷ path) p
    pub access : HasAccess s c q

  pub under : (c : ℕ) {u w : List ℕ} → IsAtOrBelow (accesses s c) u w → HasAccess s c u → IsSuffix u w × HasAccess s c w
  under c itself h = (whole, h)
  under c (below (is_child up down) b) h = let r = under c b down in (suffix_below r.0, r.1)

  above : (c : ℕ) {p v q : List ℕ} → IsChild s c p v → IsAhead c p q → IsAhead c v q
  above c (is_child up down) a = record { path = a.path; first = a.first; second = a.second; less = a.less; below_first = a.below_first; below_second = longer a.below_second; access = a.access }

  pub write_ahead : (c : ℕ) {p q : List ℕ} → WriteNames (accesses s c) p q → IsAhead c p q
  write_ahead c (write_here (is_earlier {i = i} {k = k} {p = a} l h) b) = let r = under c b h in record { path = a; first = i; second = k; less = l; below_first = r.0; below_second = whole; access = r.1 }
  write_ahead c (write_above d n) = above c d (write_ahead c n)

  pub read_ahead : (c : ℕ) {p q : List ℕ} → ReadNames (accesses s c) p q → IsAhead c p q
  read_ahead c (read_here (is_earlier {i = i} {k = k} {p = a} l h) m b) = let r = under c b h in record { path = a; first = i; second = k; less = l; below_first = r.0; below_second = whole; access = r.1 }
  read_ahead c (read_above d n) = above c d (read_ahead c n)

  pub join_ahead : (c : ℕ) (op : Op) {p q : List ℕ} → JoinNames (accesses s c) op p q → IsAhead c p q
  join_ahead c op (join_here (is_earlier {i = i} {k = k} {p = a} l h) m b) = let r = under c b h in record { path = a; first = i; second = k; less = l; below_first = r.0; below_second = whole; access = r.1 }
  join_ahead c op (join_above_fold d m n) = above c d (join_ahead c op n)
  join_ahead c op (join_above_write d m n) = above c d (write_ahead c n)

  -- the place of what a task leaves
  pub record LeftAt (q : List ℕ) (f : Happening) : Type 0 where
    pub created : ℕ
    pub number : ℕ
    pub placed : IsPlaced P s f (created ∷ q) number
    pub task : Task S
    pub at_ : At s q task

  pub ended_at : {q : List ℕ} {n : ℕ} → EndsWith P s q n → (k : ℕ) × (a : Act S) × Does P s q n k a
  ended_at {q = q} {n = n} d = go d.task.body.found refl d.number_is
    where
      go : (found : List ℕ) → d.task.body.found ≡ found → length found ≡ suc n → (k : ℕ) × (a : Act S) × Does P s q n k a
      go [] e l = absurd (omega (arith, l))
      go (v ∷ past) e l = (
        stage_created P d.task.body.start past,
        stage_act P d.task.body.start past,
        record {
          task = d.task;
          at_ = d.at_;
          past = past;
          answer = v;
          done_ = subst (λ (z : List ℕ). IsSuffix (v ∷ past) z) (sym e) whole;
          number_is = omega (arith, l);
          created_is = refl;
          act_is = refl;
        },
      )

  pub left_at : {q : List ℕ} {f : Happening} → IsLeft P s q f → LeftAt q f
  left_at {q = q} (last_act {n = n} d) = let r = ended_at d in record { created = r.0; number = n; placed = placed_act r.2; task = d.task; at_ = d.at_ }
  left_at {q = q} (last_cell a) = record { created = created_now P a.task.body; number = length a.task.body.found; placed = placed_cell a.at_; task = a.task; at_ = a.at_ }

  -- the act before
  pub one_before : {p : List ℕ} {n k : ℕ} {a : Act S} → Does P s p (suc n) k a → (j : ℕ) × (b : Act S) × Does P s p n j b × (j ≤ k)
  one_before {p = p} {n = n} {k = k} d = go d.past d.number_is d.done_ d.created_is
    where
      go : (past : List ℕ) → length past ≡ suc n → IsSuffix (d.answer ∷ past) d.task.body.found → stage_created P d.task.body.start past ≡ k → (j : ℕ) × (b : Act S) × Does P s p n j b × (j ≤ k)
      go [] l h c = absurd (omega (arith, l))
      go (v ∷ past) l h c =
          let g : stage_created P d.task.body.start past ≤ stage_created P d.task.body.start (v ∷ past) = created_grows P d.task.body.start (longer whole) in (
            stage_created P d.task.body.start past,
            stage_act P d.task.body.start past,
            record {
              task = d.task;
              at_ = d.at_;
              past = past;
              answer = v;
              done_ = suffix_drop h;
              number_is = omega (arith, l);
              created_is = refl;
              act_is = refl;
            },
            omega (arith, g, c),
          )

  -- a done act is before the cells that its task gives up
  act_before_cells : {p : List ℕ} {n k c : ℕ} {a : Act S} → Does P s p n k a → InOrder P s (Giving p c) (Acting p n)
  act_before_cells {p = p} {n = n} {k = k} d =
      let g : stage_created P d.task.body.start d.past ≤ created_now P d.task.body = created_grows P d.task.body.start (suffix_drop d.done_) in
      let l = suffix_length d.done_ in
      record {
        place = created_now P d.task.body ∷ p;
        number = length d.task.body.found;
        placed = placed_cell d.at_;
        earlier = k ∷ p;
        smaller = n;
        before = placed_act d;
        ordered = own_earlier p k (created_now P d.task.body) n (length d.task.body.found) (omega (arith, g, d.created_is)) (omega (arith, l, d.number_is));
      }

  -- what an earlier sibling leaves is before what stands below a later one
  ahead_in_order : (c : ℕ) {p q : List ℕ} {e : Happening} (k n : ℕ) → IsPlaced P s e (k ∷ p) n → IsAhead c p q → InOrder P s e (Giving q c)
  ahead_in_order c {p = p} {q = q} k n h a = record {
    place = k ∷ p;
    number = n;
    placed = h;
    earlier = created_now P a.access.task.body ∷ q;
    smaller = length a.access.task.body.found;
    before = placed_cell a.access.at_;
    ordered = inl (before_across a.path a.first a.second (created_now P a.access.task.body) k a.less a.below_first a.below_second);
  }

  -- what stands below a child is before what its creator does once it has created more
  below_in_order : {p q : List ℕ} {e f : Happening} (i k n : ℕ) → IsPlaced P s e (k ∷ p) n → i < k → IsSuffix (i ∷ p) q → LeftAt q f → InOrder P s e f
  below_in_order {p = p} {q = q} i k n h l b d = record {
    place = k ∷ p;
    number = n;
    placed = h;
    earlier = d.created ∷ q;
    smaller = d.number;
    before = d.placed;
    ordered = inl (before_up i k d.created p b l);
  }

  module _ (main : _) (made : IsMade P main s) where
    -- a task has created each child that is there
    pub created_more : (i : ℕ) (p : List ℕ) (t u : Task S) → At s p t → At s (i ∷ p) u → i < created_now P t.body
    created_more i p t u h k =
        let m = made.child i p u k in
        let c = creation_counts P m.creator.body.start m.answer m.past m.order m.act in
        let g : stage_created P m.creator.body.start (m.answer ∷ m.past) ≤ created_now P m.creator.body = created_grows P m.creator.body.start m.happened in
        let e : created_now P m.creator.body ≡ created_now P t.body = ap (λ (z : Task S). created_now P z.body) (at_same s p m.creator t m.at_ h) in
        omega (arith, c, g, e, m.number)

    -- what an event waits for is before it
    pub in_order : (e f : Happening) → WaitsFor P s e f → InOrder P s e f
    in_order e f (follows {p = p} {n = n} {k = k} d) =
        let b = one_before d in
        record { place = k ∷ p; number = suc n; placed = placed_act d; earlier = b.0 ∷ p; smaller = n; before = placed_act b.2; ordered = own_earlier p b.0 k n (suc n) b.3 (omega arith) }
    in_order e f (begins {p = p} {n = n} {k = k} {j = j} d b) =
        record { place = j ∷ k ∷ p; number = 0; placed = placed_act b; earlier = k ∷ p; smaller = n; before = placed_act d; ordered = inl (before_child j k p) }
    in_order e f (reads {j = j} {c = c} d r n) = ahead_in_order c j 0 (placed_act d) (read_ahead c n)
    in_order e f (writes {j = j} {c = c} d r n) = ahead_in_order c j 0 (placed_act d) (write_ahead c n)
    in_order e f (waits {n = n} {k = k} {i = i} d l b left) = below_in_order i k n (placed_act d) l b (left_at left)
    in_order e f (awaits {n = n} {i = i} d b left) = below_in_order i (suc i) n (placed_act d) (omega arith) b (left_at left)
    in_order e f (waits_on {n = n} {k = k} {i = i} {c = c} d l m a b) = let r = under c b a in below_in_order i k n (placed_act d) l r.0 (left_at (last_cell r.1))
    in_order e f (released a d) = act_before_cells d.does
    in_order e f (ends d b) = let r = ended_at b in act_before_cells r.2
    in_order e f (ends_below {p = p} {q = q} {i = i} {j = j} d b left) =
        let x = left_at left in
        let u = task_above P main s (i ∷ j ∷ p) x.task made b x.at_ in
        below_in_order i (created_now P d.task.body) (length d.task.body.found) (placed_cell d.at_) (created_more i (j ∷ p) d.task u.0 d.at_ u.1) b x
    in_order e f (joins {c = c} {op = op} r n) = ahead_in_order c (created_now P r.task.body) (length r.task.body.found) (placed_cell r.at_) (join_ahead c op n)
