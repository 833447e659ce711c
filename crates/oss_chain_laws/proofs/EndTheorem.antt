-- What a task that has ended gives up and leaves, and the longest chain of all when main has ended.
use Rattle.std.proofs.Common.{◌≡◌, ℕ, zero, suc, ◌+◌, ◌-◌, ◌^◌, ◌<◌, ◌≤◌, ◌⊎◌, inl, inr, refl, sym, subst, ap, ◌∙◌, List, [], ◌∷◌, length, arith, true, false}
use Rattle.oss_syntax.specs.declared.access.Op.{Op}
use Rattle.oss_syntax.specs.declared.access.Mode.TheVariants.{Fold}
use Rattle.oss_model.specs.Order.{IsSuffix, whole, longer}
use Rattle.oss_model.specs.Rights.{Holds}
use Rattle.oss_model.specs.Bodies.{Program, Act, Start, stage_act, stage_created}
use Rattle.oss_model.specs.Machine.{Task, State, At, HasAccess}
use Rattle.oss_model.specs.History.{IsMade}
use Rattle.oss_model.specs.Moves.{created_now}
use Rattle.oss_model.proofs.OrderLemmas.{suffix_length}
use Rattle.oss_model.proofs.TreeLemmas.{at_same, task_above}
use Rattle.oss_chain_laws.specs.Chains.{Best, IsTrail, better, capped, more, one_more, ticks_in}
use Rattle.oss_chain_laws.specs.Happenings.{Happening, Acting, Giving, Does, StartsWith, EndsWith, IsLeft, last_act, last_cell, Frees, WaitsFor, follows, IsHappening}
use Rattle.oss_chain_laws.specs.Tables.{GivenWith, GivenBelow, LeftWith, left_with, LeftBelow, left_below, InJoinWay, JustBefore, act_before, InFreeWay, in_free_way, InEndWay, in_end_way, InKeepWay, end_way, wait_way, join_way, FreedBefore, freed_before}
use Rattle.oss_chain_laws.specs.Pass.{Kept, IsKept}
use Rattle.oss_chain_laws.proofs.ChainLemmas.{most_step}
use Rattle.oss_chain_laws.proofs.WaitLemmas.{ended_at, created_more}
use Rattle.oss_chain_laws.proofs.TableLemmas.{with_forth, with_back, left_with_forth, left_with_back, free_forth, free_back, keep_forth, keep_back}
use Rattle.oss_chain_laws.proofs.PassLemmas.{Most, same, either_most, act_only}

suc_same : (m n : ℕ) → suc m ≡ suc n → m ≡ n
suc_same m n h = omega (arith, h)

module _ {S : Type 0} (P : Program S) (main : Start S) (s : State S) (made : IsMade P main s) (weight : Happening → ℕ) where
  -- a task has one last act
  one_end : (p : List ℕ) (m n : ℕ) → EndsWith P s p m → EndsWith P s p n → m ≡ n
  one_end p m n d e = let t = ap (λ (z : Task S). length z.body.found) (at_same s p d.task e.task d.at_ e.at_) in suc_same m n (sym d.number_is ∙ (t ∙ e.number_is))

  -- each act of a task that has ended has a number up to that of the last
  within_end : (p : List ℕ) (m n k : ℕ) (a : Act S) → EndsWith P s p m → Does P s p n k a → n < suc m
  within_end p m n k a d e =
      let t = ap (λ (z : Task S). length z.body.found) (at_same s p e.task d.task e.at_ d.at_) in
      let l = suffix_length e.done_ in
      omega (arith, l, t, d.number_is, e.number_is)

  -- a task that has ended, all of whose acts are done, and whose children have ended
  module _ (j : ℕ) (p : List ℕ) (e : ℕ) (task : Task S) (t : Kept) (at_ : At s (j ∷ p) task) (last : EndsWith P s (j ∷ p) e) (kept : IsKept P s weight (j ∷ p) (suc e) (created_now P task.body) t) where
    -- a cell that it has released
    pub freed_most : (c : ℕ) → HasAccess s c (j ∷ p) → t.is_freed c ≡ true → Most P s weight (λ f. f ≡ Giving (j ∷ p) c) (one_more weight (Giving (j ∷ p) c) (t.freed c))
    freed_most c a h =
        let d = kept.is_freed c h in
        most_step (WaitsFor P s) weight (Giving (j ∷ p) c) (t.freed c)
        (same P s weight (FreedBefore P s (j ∷ p) c (suc e)) (WaitsFor P s (Giving (j ∷ p) c)) (t.freed c) (λ f x. free_back P s main made j p c f a (into f x)) (λ f x. from f (free_forth P s main made j p c d.0 f d.2 x)) (kept.freed c))
      where
        into : (f : Happening) → FreedBefore P s (j ∷ p) c (suc e) f → InFreeWay P s (j ∷ p) c f
        into f (freed_before i l d) = in_free_way d

        from : (f : Happening) → InFreeWay P s (j ∷ p) c f → FreedBefore P s (j ∷ p) c (suc e) f
        from f (in_free_way {n = n} d) = freed_before n (within_end (j ∷ p) e n d.created _ last d.does) d

    pub end_most : Most P s weight (InEndWay P s (j ∷ p)) t.last
    end_most = same P s weight (JustBefore P s (j ∷ p) (suc e)) (InEndWay P s (j ∷ p)) t.last into from kept.last
      where
        into : (f : Happening) → JustBefore P s (j ∷ p) (suc e) f → InEndWay P s (j ∷ p) f
        into f h = subst (λ (z : Happening). InEndWay P s (j ∷ p) z) (sym (act_only P s weight (j ∷ p) e f h)) (in_end_way last)

        from : (f : Happening) → InEndWay P s (j ∷ p) f → JustBefore P s (j ∷ p) (suc e) f
        from f (in_end_way {n = n} d) = subst (λ (z : ℕ). JustBefore P s (j ∷ p) (suc e) (Acting (j ∷ p) z)) (one_end (j ∷ p) e n last d) act_before

    -- what stands in the way of its join, if it is one of a strong reduction
    abbrev pub InOwnJoinWay : ℕ → Happening → Type 0
    InOwnJoinWay c f = (op : Op) × StartsWith s (j ∷ p) c (Holds (Fold op) true) × InJoinWay s c op (j ∷ p) f

    -- a cell that it keeps, where this is the longest chain to the end with what the clause wait adds
    pub kept_most : (c : ℕ) (k w : Best Happening) → HasAccess s c (j ∷ p) → t.is_freed c ≡ false → Most P s weight (λ f. InEndWay P s (j ∷ p) f ⊎ ((task.body.start.order.wait ≡ true) × LeftBelow P s (j ∷ p) (created_now P task.body) f)) k → Most P s weight (InOwnJoinWay c) w
        → Most P s weight (λ f. f ≡ Giving (j ∷ p) c) (one_more weight (Giving (j ∷ p) c) (better k w))
    kept_most c k w a h ended own =
        most_step (WaitsFor P s) weight (Giving (j ∷ p) c) (better k w)
        (same P s weight (λ f. (InEndWay P s (j ∷ p) f ⊎ ((task.body.start.order.wait ≡ true) × LeftBelow P s (j ∷ p) (created_now P task.body) f)) ⊎ InOwnJoinWay c f) (WaitsFor P s (Giving (j ∷ p) c)) (better k w)
        (λ f x. keep_back P s main made j p c task f at_ a none (into f x)) (λ f x. from f (keep_forth P s main made j p c task f at_ none x))
        (either_most P s weight (λ f. InEndWay P s (j ∷ p) f ⊎ ((task.body.start.order.wait ≡ true) × LeftBelow P s (j ∷ p) (created_now P task.body) f)) (InOwnJoinWay c) k w ended own))
      where
        none : (n : ℕ) → Frees P s (j ∷ p) c n → ⊥
        none n d = kept.not_freed c h n (within_end (j ∷ p) e n d.created _ last d.does) d

        into : (f : Happening) → (InEndWay P s (j ∷ p) f ⊎ ((task.body.start.order.wait ≡ true) × LeftBelow P s (j ∷ p) (created_now P task.body) f)) ⊎ InOwnJoinWay c f → InKeepWay P s (j ∷ p) c (created_now P task.body) task.body.start.order.wait f
        into f (inl (inl x)) = end_way x
        into f (inl (inr x)) = wait_way x.0 x.1
        into f (inr x) = join_way x.0 x.1 x.2

        from : (f : Happening) → InKeepWay P s (j ∷ p) c (created_now P task.body) task.body.start.order.wait f → (InEndWay P s (j ∷ p) f ⊎ ((task.body.start.order.wait ≡ true) × LeftBelow P s (j ∷ p) (created_now P task.body) f)) ⊎ InOwnJoinWay c f
        from f (end_way x) = inl (inl x)
        from f (wait_way w x) = inl (inr (w, x))
        from f (join_way op r x) = inr (op, r, x)

    -- all that is left, where this is the longest chain to one of its cells
    pub all_left : (lets : Best Happening) → Most P s weight (λ f. (c : ℕ) × HasAccess s c (j ∷ p) × (f ≡ Giving (j ∷ p) c)) lets → Most P s weight (LeftWith P s (j ∷ p)) (better (better t.last lets) t.left)
    all_left lets cells =
        same P s weight (λ f. (InEndWay P s (j ∷ p) f ⊎ ((c : ℕ) × HasAccess s c (j ∷ p) × (f ≡ Giving (j ∷ p) c))) ⊎ LeftBelow P s (j ∷ p) (created_now P task.body) f) (LeftWith P s (j ∷ p)) (better (better t.last lets) t.left) into from
        (either_most P s weight (λ f. InEndWay P s (j ∷ p) f ⊎ ((c : ℕ) × HasAccess s c (j ∷ p) × (f ≡ Giving (j ∷ p) c))) (LeftBelow P s (j ∷ p) (created_now P task.body)) (better t.last lets) t.left
        (either_most P s weight (InEndWay P s (j ∷ p)) (λ f. (c : ℕ) × HasAccess s c (j ∷ p) × (f ≡ Giving (j ∷ p) c)) t.last lets end_most cells) kept.left)
      where
        leaves : (f : Happening) → InEndWay P s (j ∷ p) f ⊎ ((c : ℕ) × HasAccess s c (j ∷ p) × (f ≡ Giving (j ∷ p) c)) → IsLeft P s (j ∷ p) f
        leaves f (inl (in_end_way d)) = last_act d
        leaves f (inr (c, a, h)) = subst (λ (z : Happening). IsLeft P s (j ∷ p) z) (sym h) (last_cell a)

        into : (f : Happening) → (InEndWay P s (j ∷ p) f ⊎ ((c : ℕ) × HasAccess s c (j ∷ p) × (f ≡ Giving (j ∷ p) c))) ⊎ LeftBelow P s (j ∷ p) (created_now P task.body) f → LeftWith P s (j ∷ p) f
        into f (inl x) = left_with_back P s main made (j ∷ p) (created_now P task.body) f (inl (leaves f x))
        into f (inr x) = left_with_back P s main made (j ∷ p) (created_now P task.body) f (inr x)

        own : (f : Happening) → IsLeft P s (j ∷ p) f → InEndWay P s (j ∷ p) f ⊎ ((c : ℕ) × HasAccess s c (j ∷ p) × (f ≡ Giving (j ∷ p) c))
        own f (last_act d) = inl (in_end_way d)
        own f (last_cell {c = c} a) = inr (c, a, refl)

        go : (f : Happening) → IsLeft P s (j ∷ p) f ⊎ LeftBelow P s (j ∷ p) (created_now P task.body) f → (InEndWay P s (j ∷ p) f ⊎ ((c : ℕ) × HasAccess s c (j ∷ p) × (f ≡ Giving (j ∷ p) c))) ⊎ LeftBelow P s (j ∷ p) (created_now P task.body) f
        go f (inl x) = inl (own f x)
        go f (inr x) = inr x

        from : (f : Happening) → LeftWith P s (j ∷ p) f → (InEndWay P s (j ∷ p) f ⊎ ((c : ℕ) × HasAccess s c (j ∷ p) × (f ≡ Giving (j ∷ p) c))) ⊎ LeftBelow P s (j ∷ p) (created_now P task.body) f
        from f x = go f (left_with_forth P s main made (j ∷ p) task f at_ x)

    -- all that is given up of a cell with its end, and all that is left
    pub gave_most : (c : ℕ) (v : Best Happening) → HasAccess s c (j ∷ p) → Most P s weight (λ f. f ≡ Giving (j ∷ p) c) v → Most P s weight (GivenWith s c (j ∷ p)) (better v (t.given c))
    gave_most c v a q =
        same P s weight (λ f. (f ≡ Giving (j ∷ p) c) ⊎ GivenBelow s c (j ∷ p) (created_now P task.body) f) (GivenWith s c (j ∷ p)) (better v (t.given c))
        (λ f x. with_back P s main made c j p (created_now P task.body) f a x) (λ f x. with_forth P s main made c (j ∷ p) task f at_ x)
        (either_most P s weight (λ f. f ≡ Giving (j ∷ p) c) (GivenBelow s c (j ∷ p) (created_now P task.body)) v (t.given c) q (kept.given c))

  -- an act with a number that the task has reached
  act_at : (xs : List ℕ) (n : ℕ) → n < length xs → (v : ℕ) × (past : List ℕ) × IsSuffix (v ∷ past) xs × (length past ≡ n)
  act_at [] n l = absurd (omega (arith, l))
  act_at (x ∷ xs) n l = go (which n (length xs)) (λ k. act_at xs n k)
    where
      which : (m n : ℕ) → (m < n) ⊎ (m ≡ n) ⊎ (n < m)
      which m n = grind arith

      go : (n < length xs) ⊎ (n ≡ length xs) ⊎ (length xs < n) → (n < length xs → (v : ℕ) × (past : List ℕ) × IsSuffix (v ∷ past) xs × (length past ≡ n)) → (v : ℕ) × (past : List ℕ) × IsSuffix (v ∷ past) (x ∷ xs) × (length past ≡ n)
      go (inl k) again = let r = again k in (r.0, r.1, longer r.2, r.3)
      go (inr (inl k)) again = (x, xs, whole, sym k)
      go (inr (inr k)) again = absurd (omega (arith, k, l))

  does_at : (p : List ℕ) (e n : ℕ) → EndsWith P s p e → n ≤ e → (k : ℕ) × (a : Act S) × Does P s p n k a
  does_at p e n d l =
      let r = act_at d.task.body.found n (omega (arith, l, d.number_is)) in
      (stage_created P d.task.body.start r.1, stage_act P d.task.body.start r.1, record { task = d.task; at_ = d.at_; past = r.1; answer = r.0; done_ = r.2; number_is = r.3; created_is = refl; act_is = refl })

  -- a chain that ends in an act goes on to the end of the task
  record Reaches (p : List ℕ) (e ticks : ℕ) : Type 0 where
    pub rest : List Happening
    pub trail : IsTrail (WaitsFor P s) (Acting p e ∷ rest)
    pub more_ticks : ticks ≤ ticks_in weight (Acting p e ∷ rest)

  longer_ticks : (e : Happening) (es : List Happening) → ticks_in weight es ≤ 2 ^ 64 - 1 → ticks_in weight es ≤ ticks_in weight (e ∷ es)
  unfolding ticks_in
  longer_ticks e es h = cap (weight e) (ticks_in weight es) h
    where
      cap : (w n : ℕ) → n ≤ 2 ^ 64 - 1 → n ≤ capped (w + n)
      cap w n h = grind arith

  few_ticks : (e : Happening) (es : List Happening) → ticks_in weight (e ∷ es) ≤ 2 ^ 64 - 1
  unfolding ticks_in
  few_ticks e es = cap (weight e + ticks_in weight es)
    where
      cap : (n : ℕ) → capped n ≤ 2 ^ 64 - 1
      cap n = grind arith

  reach : (p : List ℕ) (e : ℕ) → EndsWith P s p e → (d n : ℕ) → n + d ≡ e → (es : List Happening) → IsTrail (WaitsFor P s) (Acting p n ∷ es) → Reaches p e (ticks_in weight (Acting p n ∷ es))
  reach p e last zero n h es t = let q : n ≡ e = omega (arith, h) in record { rest = es; trail = subst (λ (z : ℕ). IsTrail (WaitsFor P s) (Acting p z ∷ es)) q t; more_ticks = subst (λ (z : ℕ). ticks_in weight (Acting p n ∷ es) ≤ ticks_in weight (Acting p z ∷ es)) q (omega arith) }
  reach p e last (suc d) n h es t =
      let x = does_at p e (suc n) last (omega (arith, h)) in
      let r = reach p e last d (suc n) (omega (arith, h)) (Acting p n ∷ es) (more (follows x.2) t) in
      let l = longer_ticks (Acting p (suc n)) (Acting p n ∷ es) (few_ticks (Acting p n) es) in
      record { rest = r.rest; trail = r.trail; more_ticks = (let m = r.more_ticks in omega (arith, l, m)) }

  -- the child of main under which a task stands
  top_child : (k : ℕ) (p : List ℕ) → (i : ℕ) × IsSuffix (i ∷ []) (k ∷ p)
  top_child k [] = (k, whole)
  top_child k (j ∷ p) = let r = top_child j p in (r.0, longer r.1)

  -- when main has ended: no chain has more ticks than its last act, and what all below it left, and one has as many
  module _ (e : ℕ) (task : Task S) (t : Kept) (at_ : At s [] task) (last : EndsWith P s [] e) (all_end : (p : List ℕ) (u : Task S) → At s p u → (n : ℕ) × EndsWith P s p n)
      (kept : IsKept P s weight [] (suc e) (created_now P task.body) t) where
    abbrev Finals : Happening → Type 0
    Finals f = JustBefore P s [] (suc e) f ⊎ LeftBelow P s [] (created_now P task.body) f

    finals : Most P s weight Finals (better t.last t.left)
    finals = either_most P s weight (JustBefore P s [] (suc e)) (LeftBelow P s [] (created_now P task.body)) t.last t.left kept.last kept.left

    under_main : (k : ℕ) (p : List ℕ) (u : Task S) (f : Happening) → At s (k ∷ p) u → IsLeft P s (k ∷ p) f → LeftBelow P s [] (created_now P task.body) f
    under_main k p u f h left =
        let i = top_child k p in
        let v = task_above P main s (i.0 ∷ []) u made i.1 h in
        left_below i.0 (created_more P s main made i.0 [] task v.0 at_ v.1) (left_with i.1 left)

    last_final : (p : List ℕ) (u : Task S) (n : ℕ) → At s p u → EndsWith P s p n → Finals (Acting p n)
    last_final [] u n h d = inl (subst (λ (z : ℕ). JustBefore P s [] (suc e) (Acting [] z)) (one_end [] e n last d) act_before)
    last_final (k ∷ p) u n h d = inr (under_main k p u (Acting (k ∷ p) n) h (last_act d))

    most_act : (p : List ℕ) (n k : ℕ) (a : Act S) → Does P s p n k a → (es : List Happening) → IsTrail (WaitsFor P s) (Acting p n ∷ es) → ticks_in weight (Acting p n ∷ es) ≤ (better t.last t.left).ticks
    most_act p n k a d es tr =
        let x = all_end p d.task d.at_ in
        let l = within_end p x.0 n k a x.1 d in
        let r = reach p x.0 x.1 (x.0 - n) n (omega (arith, l)) es tr in
        let m = finals.most (Acting p x.0) (last_final p d.task x.0 d.at_ x.1) r.rest r.trail in
        let g = r.more_ticks in
        omega (arith, g, m)

    none_longer : (f : Happening) → IsHappening P s f → (es : List Happening) → IsTrail (WaitsFor P s) (f ∷ es) → ticks_in weight (f ∷ es) ≤ (better t.last t.left).ticks
    none_longer (Acting p n) h es tr = most_act p n h.0 h.1 h.2 es tr
    none_longer (Giving [] c) h es tr = absurd h
    none_longer (Giving (k ∷ p) c) h es tr = finals.most (Giving (k ∷ p) c) (inr (under_main k p h.task (Giving (k ∷ p) c) h.at_ (last_cell h))) es tr

    last_happens : (f : Happening) → JustBefore P s [] (suc e) f → IsHappening P s f
    last_happens f h = subst (λ (z : Happening). IsHappening P s z) (sym (act_only P s weight [] e f h)) (ended_at P s last)

    left_happens : (k : ℕ) (p : List ℕ) (f : Happening) → IsLeft P s (k ∷ p) f → IsHappening P s f
    left_happens k p f (last_act d) = ended_at P s d
    left_happens k p f (last_cell a) = a

    below_happens : (i : ℕ) (q : List ℕ) (f : Happening) → IsSuffix (i ∷ []) q → IsLeft P s q f → IsHappening P s f
    below_happens i [] f h left = absurd (omega (arith, suffix_length h))
    below_happens i (k ∷ p) f h left = left_happens k p f left

    final_happens : (f : Happening) → Finals f → IsHappening P s f
    final_happens f (inl h) = last_happens f h
    final_happens f (inr (left_below i l (left_with {w = w} b left))) = below_happens i w f b left

    pub span_most : Most P s weight (IsHappening P s) (better t.last t.left)
    span_most = record { most = none_longer; reached = go finals.reached }
      where
        go : (((better t.last t.left).ticks ≡ 0) × ((better t.last t.left).chain ≡ [])) ⊎ ((f : Happening) × Finals f × (es : List Happening) × ((better t.last t.left).chain ≡ f ∷ es) × IsTrail (WaitsFor P s) (f ∷ es) × (ticks_in weight (f ∷ es) ≡ (better t.last t.left).ticks))
            → (((better t.last t.left).ticks ≡ 0) × ((better t.last t.left).chain ≡ [])) ⊎ ((f : Happening) × IsHappening P s f × (es : List Happening) × ((better t.last t.left).chain ≡ f ∷ es) × IsTrail (WaitsFor P s) (f ∷ es) × (ticks_in weight (f ∷ es) ≡ (better t.last t.left).ticks))
        go (inl z) = inl z
        go (inr (f, h, es, c, tr, q)) = inr (f, final_happens f h, es, c, tr, q)
