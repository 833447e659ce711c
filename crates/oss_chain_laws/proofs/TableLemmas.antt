-- How what is kept for a task and a cell grows as children end, and that what an event waits for is put together
-- of such parts.
use Rattle.std.proofs.Common.{◌≡◌, ℕ, suc, ◌<◌, ◌≤◌, ◌⊎◌, inl, inr, refl, sym, subst, ap, ◌∙◌, List, [], ◌∷◌, length, arith}
use Rattle.oss_model.specs.Order.{IsSuffix, whole}
use Rattle.oss_model.specs.Forest.{IsRead}
use Rattle.oss_model.specs.Bodies.{Program, Act, Start}
use Rattle.oss_model.specs.Bodies.Act.{Created, Awaited, Waited, WaitedOn, Over, Ticked, Load, Store, Folded, Releases, Printed, Ended, Fault}
use Rattle.oss_model.specs.Machine.{Task, State, At, find, HasAccess, is_child, is_earlier, mode_in}
use Rattle.oss_model.specs.History.{IsMade}
use Rattle.oss_model.specs.Moves.{created_now}
use Rattle.oss_model.proofs.OrderLemmas.{suffix_drop, suffix_full}
use Rattle.oss_model.proofs.TreeLemmas.{at_same, task_above, next_of}
use Rattle.oss_chain_laws.specs.Named.{itself, below, write_here, write_above, read_here, read_above}
use Rattle.oss_chain_laws.specs.Happenings.{Happening, Acting, Giving, Does, IsLeft, Frees, WaitsFor, follows, begins, reads, writes, waits, awaits, waits_on, released, ends, ends_below, joins}
use Rattle.oss_chain_laws.specs.Tables.{GivenWith, given_with, GivenBelow, given_below, ChangedBelow, changed_below, LeftWith, left_with, LeftBelow, left_below, InWriteWay, in_write_way, InReadWay, in_read_way, InActWay, act_before, creation_before, InTurnWay, turn_way, read_way, write_way, InFreeWay, in_free_way, in_end_way, InKeepWay, end_way, wait_way, join_way, in_join_way}
use Rattle.oss_chain_laws.proofs.WaitLemmas.{does_same, left_at, created_more}

last_of : (i m : ℕ) → i < suc m → (i < m) ⊎ (i ≡ m)
last_of i m h = grind arith

module _ {S : Type 0} (P : Program S) (s : State S) where
  -- no child yet
  pub none_given : (c : ℕ) (q : List ℕ) (f : Happening) → GivenBelow s c q 0 f → ⊥
  none_given c q f (given_below i h g) = omega (arith, h)

  pub none_changed : (c : ℕ) (q : List ℕ) (f : Happening) → ChangedBelow s c q 0 f → ⊥
  none_changed c q f (changed_below i h r g) = omega (arith, h)

  pub none_left : (q : List ℕ) (f : Happening) → LeftBelow P s q 0 f → ⊥
  none_left q f (left_below i h g) = omega (arith, h)

  -- one more child
  pub given_forth : (c : ℕ) (q : List ℕ) (m : ℕ) (f : Happening) → GivenBelow s c q (suc m) f → GivenBelow s c q m f ⊎ GivenWith s c (m ∷ q) f
  given_forth c q m f (given_below i h g) = go (last_of i m h)
    where
      go : (i < m) ⊎ (i ≡ m) → GivenBelow s c q m f ⊎ GivenWith s c (m ∷ q) f
      go (inl l) = inl (given_below i l g)
      go (inr e) = inr (subst (λ (z : ℕ). GivenWith s c (z ∷ q) f) e g)

  pub given_back : (c : ℕ) (q : List ℕ) (m : ℕ) (f : Happening) → GivenBelow s c q m f ⊎ GivenWith s c (m ∷ q) f → GivenBelow s c q (suc m) f
  given_back c q m f (inl (given_below i h g)) = given_below i (omega (arith, h)) g
  given_back c q m f (inr g) = given_below m (omega arith) g

  pub changed_forth : (c : ℕ) (q : List ℕ) (m : ℕ) (f : Happening) → ChangedBelow s c q (suc m) f → ChangedBelow s c q m f ⊎ ((IsRead (mode_in (find s.tasks (m ∷ q)) c) → ⊥) × GivenWith s c (m ∷ q) f)
  changed_forth c q m f (changed_below i h r g) = go (last_of i m h)
    where
      go : (i < m) ⊎ (i ≡ m) → ChangedBelow s c q m f ⊎ ((IsRead (mode_in (find s.tasks (m ∷ q)) c) → ⊥) × GivenWith s c (m ∷ q) f)
      go (inl l) = inl (changed_below i l r g)
      go (inr e) = inr (subst (λ (z : ℕ). IsRead (mode_in (find s.tasks (z ∷ q)) c) → ⊥) e r, subst (λ (z : ℕ). GivenWith s c (z ∷ q) f) e g)

  pub changed_back : (c : ℕ) (q : List ℕ) (m : ℕ) (f : Happening) → ChangedBelow s c q m f ⊎ ((IsRead (mode_in (find s.tasks (m ∷ q)) c) → ⊥) × GivenWith s c (m ∷ q) f) → ChangedBelow s c q (suc m) f
  changed_back c q m f (inl (changed_below i h r g)) = changed_below i (omega (arith, h)) r g
  changed_back c q m f (inr g) = changed_below m (omega arith) g.0 g.1

  pub left_forth : (q : List ℕ) (m : ℕ) (f : Happening) → LeftBelow P s q (suc m) f → LeftBelow P s q m f ⊎ LeftWith P s (m ∷ q) f
  left_forth q m f (left_below i h g) = go (last_of i m h)
    where
      go : (i < m) ⊎ (i ≡ m) → LeftBelow P s q m f ⊎ LeftWith P s (m ∷ q) f
      go (inl l) = inl (left_below i l g)
      go (inr e) = inr (subst (λ (z : ℕ). LeftWith P s (z ∷ q) f) e g)

  pub left_back : (q : List ℕ) (m : ℕ) (f : Happening) → LeftBelow P s q m f ⊎ LeftWith P s (m ∷ q) f → LeftBelow P s q (suc m) f
  left_back q m f (inl (left_below i h g)) = left_below i (omega (arith, h)) g
  left_back q m f (inr g) = left_below m (omega arith) g

  -- what stands in the way of a write: what all earlier siblings give up, and what stands in the way above
  pub write_top_forth : (c k : ℕ) (f : Happening) → InWriteWay s c (k ∷ []) f → GivenBelow s c [] k f
  write_top_forth c k f (in_write_way (write_here (is_earlier {i = i} l h) b)) = given_below i l (given_with h b)
  write_top_forth c k f (in_write_way (write_above d n)) = elim d [ ]

  pub write_top_back : (c k : ℕ) (f : Happening) → GivenBelow s c [] k f → InWriteWay s c (k ∷ []) f
  write_top_back c k f (given_below i l (given_with h b)) = in_write_way (write_here (is_earlier l h) b)

  pub write_forth : (c k j : ℕ) (p : List ℕ) (f : Happening) → InWriteWay s c (k ∷ j ∷ p) f → GivenBelow s c (j ∷ p) k f ⊎ InWriteWay s c (j ∷ p) f
  write_forth c k j p f (in_write_way (write_here (is_earlier {i = i} l h) b)) = inl (given_below i l (given_with h b))
  write_forth c k j p f (in_write_way (write_above (is_child up down) n)) = inr (in_write_way n)

  pub write_back : (c k j : ℕ) (p : List ℕ) (f : Happening) → HasAccess s c (j ∷ p) → HasAccess s c (k ∷ j ∷ p) → GivenBelow s c (j ∷ p) k f ⊎ InWriteWay s c (j ∷ p) f → InWriteWay s c (k ∷ j ∷ p) f
  write_back c k j p f up down (inl (given_below i l (given_with h b))) = in_write_way (write_here (is_earlier l h) b)
  write_back c k j p f up down (inr (in_write_way n)) = in_write_way (write_above (is_child up down) n)

  -- the same of a read, without reads
  pub read_top_forth : (c k : ℕ) (f : Happening) → InReadWay s c (k ∷ []) f → ChangedBelow s c [] k f
  read_top_forth c k f (in_read_way (read_here (is_earlier {i = i} l h) r b)) = changed_below i l r (given_with h b)
  read_top_forth c k f (in_read_way (read_above d n)) = elim d [ ]

  pub read_top_back : (c k : ℕ) (f : Happening) → ChangedBelow s c [] k f → InReadWay s c (k ∷ []) f
  read_top_back c k f (changed_below i l r (given_with h b)) = in_read_way (read_here (is_earlier l h) r b)

  pub read_forth : (c k j : ℕ) (p : List ℕ) (f : Happening) → InReadWay s c (k ∷ j ∷ p) f → ChangedBelow s c (j ∷ p) k f ⊎ InReadWay s c (j ∷ p) f
  read_forth c k j p f (in_read_way (read_here (is_earlier {i = i} l h) r b)) = inl (changed_below i l r (given_with h b))
  read_forth c k j p f (in_read_way (read_above (is_child up down) n)) = inr (in_read_way n)

  pub read_back : (c k j : ℕ) (p : List ℕ) (f : Happening) → HasAccess s c (j ∷ p) → HasAccess s c (k ∷ j ∷ p) → ChangedBelow s c (j ∷ p) k f ⊎ InReadWay s c (j ∷ p) f → InReadWay s c (k ∷ j ∷ p) f
  read_back c k j p f up down (inl (changed_below i l r (given_with h b))) = in_read_way (read_here (is_earlier l h) r b)
  read_back c k j p f up down (inr (in_read_way n)) = in_read_way (read_above (is_child up down) n)

  -- an act waits for what its number and what its kind ask for
  pub act_back : (p : List ℕ) (n k : ℕ) (a : Act S) (f : Happening) → Does P s p n k a → InTurnWay P s p n f ⊎ InActWay P s p k a f → WaitsFor P s (Acting p n) f
  act_back p n k a f d (inl (turn_way act_before)) = follows d
  act_back p n k a f d (inl (turn_way (creation_before o m))) = begins m d
  act_back p n k a f d (inl (read_way c r (in_read_way w))) = reads d r w
  act_back p n k a f d (inl (write_way c r (in_write_way w))) = writes d r w
  act_back p n k Waited f d (inr (left_below i l (left_with b left))) = waits d l b left
  act_back p n k Awaited f d (inr (i, e, left_with b left)) = awaits (subst (λ (z : ℕ). Does P s p n z Awaited) e d) b left
  act_back p n k (WaitedOn named) f d (inr (c, m, given_below i l (given_with h b))) = waits_on d l m h b
  act_back p n k Ticked f d (inr h) = absurd h
  act_back p n k (Load x) f d (inr h) = absurd h
  act_back p n k (Store x y) f d (inr h) = absurd h
  act_back p n k (Folded x o y b) f d (inr h) = absurd h
  act_back p n k (Created o b) f d (inr h) = absurd h
  act_back p n k (Releases x b) f d (inr h) = absurd h
  act_back p n k (Printed x y) f d (inr h) = absurd h
  act_back p n k Ended f d (inr h) = absurd h
  act_back p n k (Fault x y z) f d (inr h) = absurd h
  act_back p n k Over f d (inr h) = absurd h

  pub act_forth : (p : List ℕ) (n k : ℕ) (a : Act S) (f : Happening) → Does P s p n k a → WaitsFor P s (Acting p n) f → InTurnWay P s p n f ⊎ InActWay P s p k a f
  act_forth p n k a f d (follows e) = inl (turn_way act_before)
  act_forth p n k a f d (begins {o = o} m e) = inl (turn_way (creation_before o m))
  act_forth p n k a f d (reads {c = c} e r w) = inl (read_way c r (in_read_way w))
  act_forth p n k a f d (writes {c = c} e r w) = inl (write_way c r (in_write_way w))
  act_forth p n k a f d (waits {i = i} e l b left) =
      let q = does_same P s e d in
      inr (subst (λ (z : Act S). InActWay P s p k z f) q.1 (left_below i (omega (arith, l, q.0)) (left_with b left)))
  act_forth p n k a f d (awaits {i = i} e b left) =
      let q = does_same P s e d in
      inr (subst (λ (z : Act S). InActWay P s p k z f) q.1 (i, sym q.0, left_with b left))
  act_forth p n k a f d (waits_on {i = i} {c = c} {named = named} e l m h b) =
      let q = does_same P s e d in
      inr (subst (λ (z : Act S). InActWay P s p k z f) q.1 (c, m, given_below i (omega (arith, l, q.0)) (given_with h b)))

  module _ (main : Start S) (made : IsMade P main s) where
    -- a task's own cell, and those of its children
    pub with_forth : (c : ℕ) (p : List ℕ) (t : Task S) (f : Happening) → At s p t → GivenWith s c p f → (f ≡ Giving p c) ⊎ GivenBelow s c p (created_now P t.body) f
    with_forth c p t f h (given_with a itself) = inl refl
    with_forth c p t f h (given_with a (below (is_child {k = i} up down) b)) = inr (given_below i (created_more P s main made i p t down.task h down.at_) (given_with down b))

    pub with_back : (c j : ℕ) (p : List ℕ) (m : ℕ) (f : Happening) → HasAccess s c (j ∷ p) → (f ≡ Giving (j ∷ p) c) ⊎ GivenBelow s c (j ∷ p) m f → GivenWith s c (j ∷ p) f
    with_back c j p m f a (inl e) = subst (λ (z : Happening). GivenWith s c (j ∷ p) z) (sym e) (given_with a itself)
    with_back c j p m f a (inr (given_below i l (given_with h b))) = given_with a (below (is_child a h) b)

    -- what a task itself leaves, and its children
    pub left_with_forth : (p : List ℕ) (t : Task S) (f : Happening) → At s p t → LeftWith P s p f → IsLeft P s p f ⊎ LeftBelow P s p (created_now P t.body) f
    left_with_forth p t f h (left_with {w = w} b left) = go (which (length p) (length w))
      where
        which : (m n : ℕ) → (m < n) ⊎ (n ≤ m)
        which m n = grind arith

        under_it : (i : ℕ) → IsSuffix (i ∷ p) w → LeftBelow P s p (created_now P t.body) f
        under_it i g =
            let x = left_at P s left in
            let u = task_above P main s (i ∷ p) x.task made g x.at_ in
            left_below i (created_more P s main made i p t u.0 h u.1) (left_with g left)

        go : (length p < length w) ⊎ (length w ≤ length p) → IsLeft P s p f ⊎ LeftBelow P s p (created_now P t.body) f
        go (inl l) = let n = next_of b l in inr (under_it n.0 n.1)
        go (inr l) = inl (subst (λ (z : List ℕ). IsLeft P s z f) (sym (suffix_full b l)) left)

    pub left_with_back : (p : List ℕ) (m : ℕ) (f : Happening) → IsLeft P s p f ⊎ LeftBelow P s p m f → LeftWith P s p f
    left_with_back p m f (inl left) = left_with whole left
    left_with_back p m f (inr (left_below i l (left_with b left))) = left_with (suffix_drop b) left

    -- a cell that was released waits for its releases
    pub free_forth : (j : ℕ) (p : List ℕ) (c n : ℕ) (f : Happening) → Frees P s (j ∷ p) c n → WaitsFor P s (Giving (j ∷ p) c) f → InFreeWay P s (j ∷ p) c f
    free_forth j p c n f d (released a e) = in_free_way e
    free_forth j p c n f d (ends k e) = absurd (k.kept n d)
    free_forth j p c n f d (ends_below k b left) = absurd (k.kept n d)
    free_forth j p c n f d (joins {op = op} r w) = absurd (d.plain op r)

    pub free_back : (j : ℕ) (p : List ℕ) (c : ℕ) (f : Happening) → HasAccess s c (j ∷ p) → InFreeWay P s (j ∷ p) c f → WaitsFor P s (Giving (j ∷ p) c) f
    free_back j p c f a (in_free_way d) = released a d

    -- and each other cell for the end of its task, and what else it is kept for
    pub keep_forth : (j : ℕ) (p : List ℕ) (c : ℕ) (t : Task S) (f : Happening) → At s (j ∷ p) t → ((n : ℕ) → Frees P s (j ∷ p) c n → ⊥) → WaitsFor P s (Giving (j ∷ p) c) f
        → InKeepWay P s (j ∷ p) c (created_now P t.body) t.body.start.order.wait f
    keep_forth j p c t f h none (released {n = n} a e) = absurd (none n e)
    keep_forth j p c t f h none (ends k e) = end_way (in_end_way e)
    keep_forth j p c t f h none (ends_below {i = i} k b left) =
        let x = left_at P s left in
        let u = task_above P main s (i ∷ j ∷ p) x.task made b x.at_ in
        let e = ap (λ (z : Task S). z.body.start.order.wait) (at_same s (j ∷ p) t k.task h k.at_) in
        wait_way (e ∙ k.wait_is) (left_below i (created_more P s main made i (j ∷ p) t u.0 h u.1) (left_with b left))
    keep_forth j p c t f h none (joins {op = op} r w) = join_way op r (in_join_way w)

    pub keep_back : (j : ℕ) (p : List ℕ) (c : ℕ) (t : Task S) (f : Happening) → At s (j ∷ p) t → HasAccess s c (j ∷ p) → ((n : ℕ) → Frees P s (j ∷ p) c n → ⊥)
        → InKeepWay P s (j ∷ p) c (created_now P t.body) t.body.start.order.wait f → WaitsFor P s (Giving (j ∷ p) c) f
    keep_back j p c t f h a none (end_way (in_end_way e)) = ends (record { task = t; at_ = h; access = a; kept = none; wait_is = refl }) e
    keep_back j p c t f h a none (wait_way w (left_below i l (left_with b left))) = ends_below (record { task = t; at_ = h; access = a; kept = none; wait_is = w }) b left
    keep_back j p c t f h a none (join_way op r (in_join_way w)) = joins r w
