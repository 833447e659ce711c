-- A number that falls with each act of a body: what is left to do for its tasks, where a task that may nest deeper counts for more.
use Rattle.std.proofs.Common.{◌≡◌, ◌≢◌, ℕ, zero, suc, ◌+◌, ◌-◌, ◌<◌, ◌≤◌, refl, sym, subst, ap, ◌∙◌, List, [], ◌∷◌, arith, Bool, true, false, ◌⊎◌, inl, inr}
use Rattle.oss_model.specs.Context.{Context, right_of, child_context}
use Rattle.oss_model.specs.Rights.{Right}
use Rattle.oss_model.specs.Bodies.{Order, Program, Act, Frame, Stack, Start, Body, frame_act, stack_act, child_frame, one_more_created, lent_when, frame_after, after_creation, including_frame, base_after, inner_after, settled_frame, settled_parts, settled_stack, start_frame, stack_from, stage_act, child_start, IsHalt}
use Rattle.oss_model.specs.Bodies.Act.{Created, Ended, Over}
use Rattle.oss_model.specs.Machine.{Task}
use Rattle.oss_model.specs.Moves.{act_now, after_answer, new_task}
use Rattle.oss_model.specs.Potential.{left_of, most_left, potential, power, share, share_of, shares, stack_share, times}
use Rattle.oss_model.specs.Termination.{IsLively}
use Rattle.oss_model.proofs.BodyLemmas.{settle_same}
use Rattle.oss_model.proofs.StageLemmas.{creating}
use Rattle.oss_model.proofs.TreeLemmas.{over_stops}
use Rattle.oss_model.proofs.WeightLemmas.{times_grows, weight, weight_bound, settled_less, Costs, act_costs}
use Rattle.oss_model.proofs.RunLemmas.{child_depth}
use Rattle.oss_model.proofs.TerminationTheorem.{Kind, halts, last_act, creates, plain, kind, act_at, next_at, start_at, after_depth, settled_depth, not_halting}

times_next : (n k : ℕ) → times (n + 1) k ≡ k + times n k
unfolding times
times_next n k = let e : n + 1 ≡ suc n = omega arith in ap (λ z. times z k) e

times_some : (n k : ℕ) → 0 < n → 0 < k → 0 < times n k
unfolding times
times_some zero k l h = absurd (omega arith)
times_some (suc n) k l h = omega (arith, h)

power_some : (n b : ℕ) → 0 < b → 0 < power n b
unfolding power
power_some zero b l = omega arith
power_some (suc n) b l = times_some b (power n b) l (power_some n b l)

power_next : (n m b : ℕ) → n ≡ m + 1 → power n b ≡ times b (power m b)
unfolding power
power_next n m b e = let k : n ≡ suc m = omega (arith, e) in ap (λ z. power z b) k

-- fewer copies leave room for one more
one_less : (v w x : ℕ) → v < w → times (v + 1) x + x ≤ times (w + 1) x
one_less v w x l =
    let a = times_grows (v + 1 + 1) (w + 1) x (omega (arith, l)) in
    let b = times_next (v + 1) x in
    omega (arith, a, b)

-- and within that room
fits_room : (u b p : ℕ) → u + 1 < b → 0 < p → times (u + 1) p < times b p
fits_room u b p l h =
    let a = times_grows (u + 1 + 1) b p (omega (arith, l)) in
    let c = times_next (u + 1) p in
    omega (arith, a, c, h)

module _ {S : Type 0} (P : Program S) (lively : IsLively P) where
  below_most : (f : Frame S) → weight P lively f ≤ most_left lively.bound f.context.fuel
  below_most f = weight_bound P lively f

  abbrev share_in : Stack S → ℕ
  share_in s = stack_share lively s.base s.inner s.ended

  same_share : (f g : Frame S) → g.context.fuel ≡ f.context.fuel → g.context.depth ≡ f.context.depth → share lively g ≡ times (weight P lively g + 1) (power (64 - f.context.depth) (most_left lively.bound f.context.fuel + 2))
  unfolding share share_of
  same_share f g e k = rw (e, k) refl

  share_some : (f : Frame S) → 0 < share lively f
  unfolding share share_of
  share_some f = times_some (weight P lively f + 1) (power (64 - f.context.depth) (most_left lively.bound f.context.fuel + 2)) (omega arith) (power_some (64 - f.context.depth) (most_left lively.bound f.context.fuel + 2) (omega arith))

  share_less : (f g : Frame S) → g.context.fuel ≡ f.context.fuel → g.context.depth ≡ f.context.depth → weight P lively g < weight P lively f → share lively g < share lively f
  unfolding share share_of
  share_less f g e k l =
      let x = power (64 - f.context.depth) (most_left lively.bound f.context.fuel + 2) in
      let a = one_less (weight P lively g) (weight P lively f) x l in
      let s = power_some (64 - f.context.depth) (most_left lively.bound f.context.fuel + 2) (omega arith) in
      let b = same_share f g e k in
      omega (arith, a, b, s)

  -- a creator that goes on, and a new task one level deeper
  share_two : (f g h : Frame S) → g.context.fuel ≡ f.context.fuel → g.context.depth ≡ f.context.depth → weight P lively g < weight P lively f
      → h.context.fuel ≡ f.context.fuel → h.context.depth ≡ f.context.depth + 1 → f.context.depth < 64 → share lively g + share lively h < share lively f
  unfolding share share_of
  share_two f g h e k l e2 k2 d =
      let b = most_left lively.bound f.context.fuel + 2 in
      let x = power (64 - f.context.depth) b in
      let p = power (64 - h.context.depth) b in
      let a = one_less (weight P lively g) (weight P lively f) x l in
      let s = same_share f g e k in
      let t : share lively h ≡ times (weight P lively h + 1) p = ap (λ (z : ℕ). times (weight P lively h + 1) (power (64 - h.context.depth) (most_left lively.bound z + 2))) e2 in
      let w = below_most h in
      let m : most_left lively.bound h.context.fuel ≡ most_left lively.bound f.context.fuel = ap (most_left lively.bound) e2 in
      let r = fits_room (weight P lively h) b p (omega (arith, w, m)) (power_some (64 - h.context.depth) b (omega arith)) in
      let n : 64 - f.context.depth ≡ (64 - h.context.depth) + 1 = omega (arith, k2, d) in
      let y = power_next (64 - f.context.depth) (64 - h.context.depth) b n in
      omega (arith, a, s, t, r, y)

  lent_fuel : (w : Bool) (given : ℕ → Right) (x : Context) → (lent_when w given x).fuel ≡ x.fuel
  lent_fuel true given x = refl
  lent_fuel false given x = refl

  after_fuel : (a : Act S) (v : ℕ) (f : Frame S) → (frame_after a v f).context.fuel ≡ f.context.fuel
  after_fuel (Created o i) v f = lent_fuel o.when (right_of (child_context f.context o.clauses o.last)) (one_more_created f.context)
  after_fuel _ v f = refl

  settled_fuel : (f : Frame S) → (settled_frame P f).context.fuel ≡ f.context.fuel
  settled_fuel f = ap (λ (x : Context). x.fuel) (settle_same P f).context

  -- the frame on top after an act that leaves it there
  plain_less : (a : Act S) (v : ℕ) (f : Frame S) → weight P lively (frame_after a v f) < weight P lively f → share lively (settled_frame P (frame_after a v f)) < share lively f
  plain_less a v f l =
      let g = frame_after a v f in
      let s = settled_less P lively g in
      share_less f (settled_frame P g) (settled_fuel g ∙ after_fuel a v f) (settled_depth P g ∙ after_depth a v f) (omega (arith, l, s))

  -- a creator that includes, and the included task
  included_less : (o : Order S) (f : Frame S) → weight P lively (including_frame o f) < weight P lively f → f.context.depth < 64 → share lively (including_frame o f) + share lively (settled_frame P (child_frame f o)) < share lively f
  included_less o f l d =
      let h = child_frame f o in
      share_two f (including_frame o f) (settled_frame P h) refl refl l (settled_fuel h) (settled_depth P h) d

  -- passing silent asks makes it no more
  settled_share : (f : Frame S) → share lively (settled_frame P f) ≤ share lively f
  unfolding share share_of
  settled_share f =
      let e = same_share f (settled_frame P f) (settled_fuel f) (settled_depth P f) in
      let w = settled_less P lively f in
      let m = times_grows (weight P lively (settled_frame P f) + 1) (weight P lively f + 1) (power (64 - f.context.depth) (most_left lively.bound f.context.fuel + 2)) (omega (arith, w)) in
      omega (arith, e, m)

  potential_is : (b : Body S) (base : Frame S) (inner : List (Frame S)) (ended : Bool) → stack_from P b.start b.found ≡ record { base = base; inner = inner; ended = ended } → potential lively b ≡ stack_share lively base inner ended
  unfolding potential
  potential_is b base inner ended e = ap (λ (s : Stack S). stack_share lively s.base s.inner s.ended) e

  potential_settled : (b : Body S) (s : Stack S) → stack_from P b.start b.found ≡ settled_stack P s → potential lively b ≡ share_in (settled_stack P s)
  unfolding potential
  potential_settled b s e = ap (λ (x : Stack S). share_in x) e

  -- the own task of the body acts
  base_falls : (t : Task S) (v : ℕ) (base : Frame S) → stack_from P t.body.start t.body.found ≡ record { base = base; inner = []; ended = false }
      → (IsHalt (act_now P t.body) → ⊥) → ((o : Order S) → act_now P t.body ≢ Created o false) → potential lively (after_answer v t).body < potential lively t.body
  unfolding stack_share shares
  base_falls t v base s g n = go (frame_act P (right_of t.body.start.context) false base base.awaits) refl (kind (frame_act P (right_of t.body.start.context) false base base.awaits))
    where
      act_is : act_now P t.body ≡ frame_act P (right_of t.body.start.context) false base base.awaits
      act_is = act_at P t.body.start t.body.found base [] s

      was : potential lively t.body ≡ share lively base + 0
      was = potential_is t.body base [] false s

      after : (a : Act S) → frame_act P (right_of t.body.start.context) false base base.awaits ≡ a → potential lively (after_answer v t).body ≡ share_in (settled_stack P (base_after a v base))
      after a e = potential_settled (after_answer v t).body (base_after a v base) (next_at P t.body.start t.body.found v base [] s ∙ ap (λ (x : Act S). settled_stack P (base_after x v base)) e)

      some : 0 < share lively base
      some = share_some base

      go : (a : Act S) → frame_act P (right_of t.body.start.context) false base base.awaits ≡ a → Kind a → potential lively (after_answer v t).body < potential lively t.body
      go a e (halts h) = absurd (g (subst IsHalt (sym (act_is ∙ e)) h))
      go a e last_act = let k = after Ended e in let w = was in let m = some in omega (arith, k, w, m)
      go a e (creates o false) = absurd (n o (act_is ∙ e))
      go a e (creates o true) =
          let costs = act_costs P lively (right_of t.body.start.context) false base (Created o true) e (λ h. h) in
          let l = included_less o base (costs.including o true refl) (costs.depth o true refl) in
          let k = after (Created o true) e in
          let w = was in
          omega (arith, k, w, l)
      go a e (plain ne nc ng eb ei) =
          let costs = act_costs P lively (right_of t.body.start.context) false base a e ng in
          let l = plain_less a v base (costs.less v ne) in
          let k = after a e ∙ ap (λ (x : Stack S). share_in (settled_stack P x)) (eb v base) in
          let w = was in
          omega (arith, k, w, l)

  -- an included task acts
  inner_falls : (t : Task S) (v : ℕ) (base f : Frame S) (fs : List (Frame S)) → stack_from P t.body.start t.body.found ≡ record { base = base; inner = f ∷ fs; ended = false }
      → (IsHalt (act_now P t.body) → ⊥) → ((o : Order S) → act_now P t.body ≢ Created o false) → potential lively (after_answer v t).body < potential lively t.body
  unfolding stack_share shares
  inner_falls t v base f fs s g n = go (frame_act P (right_of t.body.start.context) true f f.awaits) refl (kind (frame_act P (right_of t.body.start.context) true f f.awaits))
    where
      act_is : act_now P t.body ≡ frame_act P (right_of t.body.start.context) true f f.awaits
      act_is = act_at P t.body.start t.body.found base (f ∷ fs) s

      was : potential lively t.body ≡ share lively base + (share lively f + shares lively fs)
      was = potential_is t.body base (f ∷ fs) false s

      after : (a : Act S) → frame_act P (right_of t.body.start.context) true f f.awaits ≡ a → potential lively (after_answer v t).body ≡ share_in (settled_stack P (inner_after a v base f fs))
      after a e = potential_settled (after_answer v t).body (inner_after a v base f fs) (next_at P t.body.start t.body.found v base (f ∷ fs) s ∙ ap (λ (x : Act S). settled_stack P (inner_after x v base f fs)) e)

      ending : (gs : List (Frame S)) → share_in (settled_parts P base gs false) < share lively base + (share lively f + shares lively gs)
      ending [] =
          let a = settled_less P lively base in
          let b = share_some f in
          let c = settled_share base in
          omega (arith, b, c)
      ending (h ∷ hs) = let b = share_some f in let c = settled_share h in omega (arith, b, c)

      go : (a : Act S) → frame_act P (right_of t.body.start.context) true f f.awaits ≡ a → Kind a → potential lively (after_answer v t).body < potential lively t.body
      go a e (halts h) = absurd (g (subst IsHalt (sym (act_is ∙ e)) h))
      go a e last_act = let k = after Ended e in let w = was in let l = ending fs in omega (arith, k, w, l)
      go a e (creates o false) = absurd (n o (act_is ∙ e))
      go a e (creates o true) =
          let costs = act_costs P lively (right_of t.body.start.context) true f (Created o true) e (λ h. h) in
          let l = included_less o f (costs.including o true refl) (costs.depth o true refl) in
          let k = after (Created o true) e in
          let w = was in
          omega (arith, k, w, l)
      go a e (plain ne nc ng eb ei) =
          let costs = act_costs P lively (right_of t.body.start.context) true f a e ng in
          let l = plain_less a v f (costs.less v ne) in
          let k = after a e ∙ ap (λ (x : Stack S). share_in (settled_stack P x)) (ei v base f fs) in
          let w = was in
          omega (arith, k, w, l)

  -- each act of a body but a creation of a task of its own makes it count for less
  pub body_falls : (t : Task S) (v : ℕ) → (IsHalt (act_now P t.body) → ⊥) → ((o : Order S) → act_now P t.body ≢ Created o false) → potential lively (after_answer v t).body < potential lively t.body
  body_falls t v g n = go (stack_from P t.body.start t.body.found).base (stack_from P t.body.start t.body.found).inner (stack_from P t.body.start t.body.found).ended refl
    where
      go : (base : Frame S) (inner : List (Frame S)) (ended : Bool) → stack_from P t.body.start t.body.found ≡ record { base = base; inner = inner; ended = ended } → potential lively (after_answer v t).body < potential lively t.body
      go base inner true e = absurd (g (subst IsHalt (sym (over_stops P t.body.start t.body.found (ap (λ (s : Stack S). s.ended) e))) tt))
      go base [] false e = base_falls t v base e g n
      go base (f ∷ fs) false e = inner_falls t v base f fs e g n

  new_frame : (t : Task S) (o : Order S) (base : Frame S) → stack_from P t.body.start t.body.found ≡ record { base = base; inner = []; ended = false } → start_frame P (new_task P t.body o).body.start ≡ child_frame base o
  unfolding child_start
  new_frame t o base s = ap (λ (x : Stack S). child_frame x.base o) s

  -- and such a creation leaves room for what the new task counts for
  pub creation_falls : (t : Task S) (v : ℕ) (o : Order S) → act_now P t.body ≡ Created o false → potential lively (after_answer v t).body + potential lively (new_task P t.body o).body < potential lively t.body
  unfolding stack_share shares
  creation_falls t v o a = go (stack_from P t.body.start t.body.found).base (stack_from P t.body.start t.body.found).inner (stack_from P t.body.start t.body.found).ended refl
    where
      no_inner : (inner : List (Frame S)) → inner ≡ (stack_from P t.body.start t.body.found).inner → inner ≡ []
      no_inner inner e = e ∙ (creating P t.body.start t.body.found o a).alone

      at_base : (base : Frame S) → stack_from P t.body.start t.body.found ≡ record { base = base; inner = []; ended = false } → potential lively (after_answer v t).body + potential lively (new_task P t.body o).body < potential lively t.body
      at_base base s =
          let act_is = act_at P t.body.start t.body.found base [] s in
          let e : frame_act P (right_of t.body.start.context) false base base.awaits ≡ Created o false = sym act_is ∙ a in
          let costs = act_costs P lively (right_of t.body.start.context) false base (Created o false) e (λ h. h) in
          let child = (new_task P t.body o).body in
          let start_is : start_frame P child.start ≡ child_frame base o = new_frame t o base s in
          let k = potential_settled (after_answer v t).body (base_after (Created o false) v base) (next_at P t.body.start t.body.found v base [] s ∙ ap (λ (x : Act S). settled_stack P (base_after x v base)) e) in
          let c = potential_is child (settled_frame P (start_frame P child.start)) [] false (start_at P child.start) in
          let sc : share lively (settled_frame P (start_frame P child.start)) ≡ share lively (settled_frame P (child_frame base o)) = ap (λ (z : Frame S). share lively (settled_frame P z)) start_is in
          let g = after_creation o base in
          let sl = settled_less P lively g in
          let cl = costs.less v (λ h. cc) in
          let h = child_frame base o in
          let l = share_two base (settled_frame P g) (settled_frame P h) (settled_fuel g ∙ after_fuel (Created o false) v base) (settled_depth P g ∙ after_depth (Created o false) v base) (omega (arith, sl, cl))
          (settled_fuel h) (settled_depth P h) (costs.depth o false refl) in
          let w = potential_is t.body base [] false s in
          omega (arith, k, c, sc, l, w)

      go : (base : Frame S) (inner : List (Frame S)) (ended : Bool) → stack_from P t.body.start t.body.found ≡ record { base = base; inner = inner; ended = ended } → potential lively (after_answer v t).body + potential lively (new_task P t.body o).body < potential lively t.body
      go base inner true e = let h : Created o false ≡ Over = sym a ∙ over_stops P t.body.start t.body.found (ap (λ (s : Stack S). s.ended) e) in absurd cc
      go base [] false e = at_base base e
      go base (f ∷ fs) false e = let h : f ∷ fs ≡ [] = no_inner (f ∷ fs) (sym (ap (λ (s : Stack S). s.inner) e)) in absurd cc
