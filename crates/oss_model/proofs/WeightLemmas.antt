-- What is left to do for a task falls with each of its acts.
use Rattle.std.proofs.Common.{◌≡◌, ◌≢◌, ℕ, zero, suc, ◌+◌, ◌-◌, ◌<◌, ◌≤◌, refl, sym, subst, ap, ◌∷◌, arith, Bool, true, false, Option, Some, None}
use Rattle.std.specs.Prelude.{◌||◌, not, if◌then◌else◌, nat_lt, nat_le}
use Rattle.std.proofs.lemmas.Bool.Decides.{nat_tests}
use Rattle.oss_syntax.specs.declared.fault.FaultKind.{FaultKind}
use Rattle.oss_syntax.specs.declared.fault.FaultKind.TheVariants as fault
use Rattle.oss_model.specs.Rights.{Right, Reads, Writes, Folds, touch_fault, is_fold}
use Rattle.oss_model.specs.Context.{Context, create_fault, tick_fault, creation_fault, clause_fault, or_else, release_fault, wait_on_fault, right_of, lent_of, mark_of, child_context, wrote, waited, waited_on, release}
use Rattle.oss_model.specs.Bodies.{Order, Ask, Program, Act, Frame, act_of_ask, ask_of, frame_act, answered_frame, one_more_created, lent_when, made_by, after_creation, frame_after, including_frame, past_ask, past_silent, settled_frame, word_of, key_of, IsHalt}
use Rattle.oss_model.specs.Bodies.Act.{Ticked, Load, Store, Folded, Created, Awaited, Waited, WaitedOn, Releases, Printed, Ended}
use Rattle.oss_model.specs.Potential.{left_of, most_left, one_if, times}
use Rattle.oss_model.specs.Termination.{IsBusy, IsLively}
use Rattle.oss_model.proofs.BodyLemmas.{judged_goes}

times_falls : (n k : ℕ) → 0 < n → times n k ≡ k + times (n - 1) k
unfolding times
times_falls zero k l = absurd (omega arith)
times_falls (suc n) k l = ap (λ (z : ℕ). k + times z k) (let e : n ≡ suc n - 1 = omega arith in e)

pub times_grows : (n m k : ℕ) → n ≤ m → times n k ≤ times m k
unfolding times
times_grows zero m k l = omega arith
times_grows (suc n) zero k l = absurd (omega arith)
times_grows (suc n) (suc m) k l = let r = times_grows n m k (omega (arith, l)) in omega (arith, r)

small : (b : Bool) → one_if b ≤ 1
unfolding one_if
small true = omega arith
small false = omega arith

module _ {S : Type 0} (P : Program S) (lively : IsLively P) where
  -- what is left: by the fuel, then by the rank, then by an await
  abbrev pub weight : Frame S → ℕ
  weight f = left_of lively.bound (lively.rank f.script f.answers) f.context f.awaits

  -- what is left is bounded by the fuel
  pub weight_bound : (f : Frame S) → weight f ≤ most_left lively.bound f.context.fuel
  unfolding left_of most_left
  weight_bound f =
      let t = times_grows (f.context.fuel - f.context.ticks) f.context.fuel (lively.bound + lively.bound + 2) (omega arith) in
      let r = lively.below f.script f.answers in
      let s = small f.awaits in
      omega arith

  answered_less : (f : Frame S) (v : ℕ) (x : Context) → x.fuel ≡ f.context.fuel → x.ticks ≡ f.context.ticks → IsBusy (ask_of P f).ask → weight (answered_frame v (record f { context = x })) < weight f
  unfolding left_of
  answered_less f v x a b busy =
      let r = lively.falls f.script f.answers v busy in
      rw (a, b) (omega arith)

  past_less : (f : Frame S) (a : Ask S) → (ask_of P f).ask ≡ a → weight (past_ask P f a) ≤ weight f
  past_less f Ask.Begin e = split (create_fault f.context)
    where
      busy : IsBusy (ask_of P f).ask
      busy = subst IsBusy (sym e) tt

      split : (o : Option FaultKind) → weight (elim o [ None ↦ answered_frame 0 f | Some kind ↦ f ]) ≤ weight f
      split None = let l = answered_less f 0 f.context refl refl busy in omega arith
      split (Some kind) = omega arith
  past_less f Ask.Await e = split f.awaits
    where
      busy : IsBusy (ask_of P f).ask
      busy = subst IsBusy (sym e) tt

      split : (b : Bool) → weight (if b then f else answered_frame 0 f) ≤ weight f
      split true = omega arith
      split false = let l = answered_less f 0 f.context refl refl busy in omega arith
  past_less f _ e = omega arith

  pub settled_less : (f : Frame S) → weight (settled_frame P f) ≤ weight f
  settled_less f =
      let a = past_less f (ask_of P f).ask refl in
      let g = past_silent P f in
      let b = past_less g (ask_of P g).ask refl in
      omega arith

  tick_goes : (x : Context) → tick_fault x ≡ None → x.ticks < x.fuel
  tick_goes x h = go (nat_lt x.ticks x.fuel) refl
    where
      go : (b : Bool) → nat_lt x.ticks x.fuel ≡ b → x.ticks < x.fuel
      go true e = grind (arith, nat_tests, e)
      go false e = let k : Some fault.OutOfFuel ≡ None = rw e at h in cc

  tick_less : (f : Frame S) (v : ℕ) → f.context.ticks < f.context.fuel → weight (frame_after Ticked v f) < weight f
  unfolding left_of
  tick_less f v l =
      let n = f.context.fuel - f.context.ticks in
      let k = lively.bound + lively.bound + 2 in
      let t = times_falls n k (omega arith) in
      let e : f.context.fuel - (f.context.ticks + 1) ≡ n - 1 = omega arith in
      let r = lively.below f.script (v ∷ f.answers) in
      rw (e, t) (omega arith)

  creation_less : (o : Order S) (f : Frame S) → IsBusy (ask_of P f).ask → weight (after_creation o f) < weight f
  unfolding left_of one_if
  creation_less o f busy = go o.when
    where
      go : (w : Bool) → weight (record { script = f.script; context = made_by o f (lent_when w (right_of (child_context f.context o.clauses o.last)) (one_more_created f.context)); path = f.path; answers = 0 ∷ f.answers; awaits = not w }) < weight f
      go true = let r = lively.falls f.script f.answers 0 busy in let s = small f.awaits in omega arith
      go false = let r = lively.falls f.script f.answers 0 busy in let s = small f.awaits in omega arith

  pub including_less : (o : Order S) (f : Frame S) → IsBusy (ask_of P f).ask → weight (including_frame o f) < weight f
  including_less o f busy = answered_less f 0 (made_by o f (one_more_created f.context)) refl refl busy

  no_creation_fault : (a b : Option FaultKind) → or_else a b ≡ None → a ≡ None
  no_creation_fault None b h = refl
  no_creation_fault (Some kind) b h = cc

  shallow : (x : Context) → create_fault x ≡ None → x.depth < 64
  shallow x h = go (nat_le 64 x.depth) refl
    where
      go : (b : Bool) → nat_le 64 x.depth ≡ b → x.depth < 64
      go true e = let k : Some fault.TooDeep ≡ None = rw e at h in cc
      go false e = grind (arith, nat_tests, e)

  -- what an act tells: it makes what is left less, and a creation is not too deep
  pub record Costs (f : Frame S) (a : Act S) : Type 0 where
    pub less : (v : ℕ) → a ≢ Ended → weight (frame_after a v f) < weight f
    pub including : (o : Order S) (i : Bool) → a ≡ Created o i → weight (including_frame o f) < weight f
    pub depth : (o : Order S) (i : Bool) → a ≡ Created o i → f.context.depth < 64

  plain_costs : (f : Frame S) (a b : Act S) → a ≡ b → ((o : Order S) (i : Bool) → a ≢ Created o i) → ((v : ℕ) → a ≢ Ended → weight (frame_after a v f) < weight f) → Costs f b
  plain_costs f a b e n l =
      subst (λ (z : Act S). Costs f z) e (record { less = l; including = λ o i h. absurd (n o i h); depth = λ o i h. absurd (n o i h) })

  ask_costs : (slots : ℕ → Right) (inc : Bool) (f : Frame S) (k : Ask S) (line : ℕ) (a : Act S) → (ask_of P f).ask ≡ k → act_of_ask slots inc f k line ≡ a → (IsHalt a → ⊥) → Costs f a
  ask_costs slots inc f Ask.Begin line a e h g = let k = judged_goes f line (create_fault f.context) _ a h g in absurd (g (subst IsHalt k.1 tt))
  ask_costs slots inc f Ask.Tick line a e h g =
      let k = judged_goes f line (tick_fault f.context) Ticked a h g in
      plain_costs f Ticked a k.1 (λ o i q. cc) (λ v n. tick_less f v (tick_goes f.context k.0))
  ask_costs slots inc f (Ask.Read c) line a e h g =
      let k = judged_goes f line (touch_fault (right_of f.context c) (lent_of f.context c) (mark_of f.context c) Reads) (Load c) a h g in
      plain_costs f (Load c) a k.1 (λ o i q. cc) (λ v n. answered_less f v f.context refl refl (subst IsBusy (sym e) tt))
  ask_costs slots inc f (Ask.Write c w) line a e h g =
      let k = judged_goes f line (touch_fault (right_of f.context c) (lent_of f.context c) (mark_of f.context c) Writes) (Store c (word_of w)) a h g in
      plain_costs f (Store c (word_of w)) a k.1 (λ o i q. cc) (λ v n. answered_less f v (wrote c f.context) refl refl (subst IsBusy (sym e) tt))
  ask_costs slots inc f (Ask.Fold c op w) line a e h g =
      let k = judged_goes f line (touch_fault (right_of f.context c) (lent_of f.context c) (mark_of f.context c) (Folds op)) (Folded c op (word_of w) (is_fold (slots c))) a h g in
      plain_costs f (Folded c op (word_of w) (is_fold (slots c))) a k.1 (λ o i q. cc) (λ v n. answered_less f v (wrote c f.context) refl refl (subst IsBusy (sym e) tt))
  ask_costs slots inc f (Ask.Create p) line a e h g =
      let k = judged_goes f line (creation_fault f.context p.clauses (f.context.final || p.last)) (Created p f.context.final) a h g in
      let d = shallow f.context (no_creation_fault (create_fault f.context) (clause_fault f.context p.clauses (f.context.final || p.last)) k.0) in
      let busy : IsBusy (ask_of P f).ask = subst IsBusy (sym e) tt in
      subst (λ (z : Act S). Costs f z) k.1 (record { less = λ v n. creation_less p f busy; including = λ o i q. including_less o f busy; depth = λ o i q. d })
  ask_costs slots inc f Ask.Await line a e h g = absurd (g (subst IsHalt h tt))
  ask_costs slots inc f Ask.Wait line a e h g =
      plain_costs f Waited a h (λ o i q. cc) (λ v n. answered_less f v (waited f.context) refl refl (subst IsBusy (sym e) tt))
  ask_costs slots inc f (Ask.WaitOn named) line a e h g =
      let k = judged_goes f line (wait_on_fault f.context named) (WaitedOn named) a h g in
      plain_costs f (WaitedOn named) a k.1 (λ o i q. cc) (λ v n. answered_less f v (waited_on named f.context) refl refl (subst IsBusy (sym e) tt))
  ask_costs slots inc f (Ask.Release clauses) line a e h g =
      let k = judged_goes f line (release_fault f.context clauses) (Releases clauses inc) a h g in
      plain_costs f (Releases clauses inc) a k.1 (λ o i q. cc) (λ v n. answered_less f v (release clauses f.context) refl refl (subst IsBusy (sym e) tt))
  ask_costs slots inc f (Ask.Print text) line a e h g =
      plain_costs f (Printed (key_of f) text) a h (λ o i q. cc) (λ v n. answered_less f v f.context refl refl (subst IsBusy (sym e) tt))
  ask_costs slots inc f Ask.End line a e h g = plain_costs f Ended a h (λ o i q. cc) (λ v n. absurd (n refl))
  ask_costs slots inc f (Ask.Fails kind) line a e h g = absurd (g (subst IsHalt h tt))

  await_less : (f : Frame S) → f.awaits ≡ true → (v : ℕ) → weight (frame_after Awaited v f) < weight f
  unfolding left_of one_if
  await_less f e v = rw e (omega arith)

  -- each act of a task that goes on
  pub act_costs : (slots : ℕ → Right) (inc : Bool) (f : Frame S) (a : Act S) → frame_act P slots inc f f.awaits ≡ a → (IsHalt a → ⊥) → Costs f a
  act_costs slots inc f a h g = go f.awaits refl h
    where
      go : (w : Bool) → f.awaits ≡ w → frame_act P slots inc f w ≡ a → Costs f a
      go true e k = plain_costs f Awaited a k (λ o i q. cc) (λ v n. await_less f e v)
      go false e k = ask_costs slots inc f (ask_of P f).ask (ask_of P f).line a refl k g
