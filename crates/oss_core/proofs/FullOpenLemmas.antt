-- A creation that the judge passes may be opened by a dependency system: its creator is not nested too deep, and has not given up what the new task names.
use Rattle.std.proofs.Common.{◌≡◌, ℕ, suc, ◌<◌, ◌⊎◌, inl, inr, refl, sym, subst, ap, ◌∙◌, arith, List, [], ◌∷◌, length, Bool, true, false, Option, Some, None, ◌↔◌}
use Rattle.std.specs.Prelude.{slice_get, nat_le, ◌||◌}
use Rattle.std.proofs.lemmas.Bool.Decides.{nat_tests}
use Rattle.oss_syntax.specs.declared.fault.FaultKind.{FaultKind}
use Rattle.oss_syntax.specs.declared.fault.FaultKind.TheVariants as fault
use Rattle.oss_syntax.specs.declared.access.Access.{Access}
use Rattle.oss_model.specs.Order.{IsIn}
use Rattle.oss_model.specs.Rights.{Right, Released, Holds, Reads, Writes, Folds, touch_fault}
use Rattle.oss_model.specs.Context.{Context, create_fault, tick_fault, creation_fault, clause_fault, or_else, release_fault, wait_on_fault, right_of, lent_of, mark_of, child_context}
use Rattle.oss_model.specs.Bodies.{Order, Ask, Program, Act, Frame, Start, Body, act_of_ask, ask_of, frame_act, stack_act, stack_after, base_after, inner_after, settled_parts, stack_from, act_of, stage_act, child_start}
use Rattle.oss_model.specs.Bodies.Act.{Ticked, Load, Created, WaitedOn, Releases, Ended, Over}
use Rattle.oss_model.specs.Machine.{Task, State, At}
use Rattle.oss_model.specs.History.{IsMade, IsStarted}
use Rattle.oss_model.specs.Moves.{act_now, new_task, is_ended, IsGone}
use Rattle.oss_model.proofs.BodyLemmas.{judged_goes}
use Rattle.oss_model.proofs.JudgeLemmas.{Covered}
use Rattle.oss_model.proofs.RunLemmas.{child_depth}
use Rattle.oss_model.proofs.StageLemmas.{Creating, creating}
use Rattle.oss_model.proofs.TerminationTheorem.{after_depth, settled_depth}
use Rattle.oss_model.proofs.TreeLemmas.{at_same, over_stops}
use Rattle.oss_deps.specs.declared.opened.Open.{Open}
use Rattle.oss_deps.specs.Opens as opens
use Rattle.oss_deps.specs.Opens.{names, IsNested, IsRising, HasCover}
use Rattle.oss_deps.specs.Seen.{Seen, CanOpen, HasHeldCover}
use Rattle.oss_core.specs.Standing.{AreRightsOf, IsNumbered, AreTasks, StandsFor}
use Rattle.oss_core.proofs.EntryLemmas.{rising_once}
use Rattle.oss_core.proofs.MatchLemmas.{entry_of, path_of, named_has, tail_is}
use Rattle.oss_core.proofs.OpenLemmas.{may_open}

no_fault : (a b : Option FaultKind) → or_else a b ≡ None → a ≡ None
no_fault None b h = refl
no_fault (Some kind) b h = cc

-- a task that may create is not nested too deep
pub shallow : (x : Context) → create_fault x ≡ None → x.depth < 64
shallow x h = go (nat_le 64 x.depth) refl
  where
    go : (b : Bool) → nat_le 64 x.depth ≡ b → x.depth < 64
    go true e = let k : Some fault.TooDeep ≡ None = rw e at h in cc
    go false e = grind (arith, nat_tests, e)

-- and has not created too many tasks
pub few : (x : Context) → create_fault x ≡ None → x.created < 65535
few x h = deep (nat_le 64 x.depth) refl (nat_le 65535 x.created) refl
  where
    deep : (b : Bool) → nat_le 64 x.depth ≡ b → (d : Bool) → nat_le 65535 x.created ≡ d → x.created < 65535
    deep true e d g = let k : Some fault.TooDeep ≡ None = rw e at h in cc
    deep false e true g = let k : Some fault.TooManyTasks ≡ None = rw (e, g) at h in cc
    deep false e false g = grind (arith, nat_tests, g)

created_passed : {S : Type 0} (slots : ℕ → Right) (inc : Bool) (f : Frame S) (k : Ask S) (line : ℕ) (o : Order S) (i : Bool) → act_of_ask slots inc f k line ≡ Created o i → create_fault f.context ≡ None
created_passed slots inc f Ask.Begin line o i h = let k = judged_goes f line (create_fault f.context) _ (Created o i) h (λ s. s) in cc
created_passed slots inc f Ask.Tick line o i h = let k = judged_goes f line (tick_fault f.context) Ticked (Created o i) h (λ s. s) in cc (k.1)
created_passed slots inc f (Ask.Read c) line o i h = let k = judged_goes f line (touch_fault ((right_of f.context) c) ((lent_of f.context) c) ((mark_of f.context) c) Reads) (Load c) (Created o i) h (λ s. s) in cc (k.1)
created_passed slots inc f (Ask.Write c v) line o i h = let k = judged_goes f line (touch_fault ((right_of f.context) c) ((lent_of f.context) c) ((mark_of f.context) c) Writes) _ (Created o i) h (λ s. s) in cc (k.1)
created_passed slots inc f (Ask.Fold c op v) line o i h = let k = judged_goes f line (touch_fault ((right_of f.context) c) ((lent_of f.context) c) ((mark_of f.context) c) (Folds op)) _ (Created o i) h (λ s. s) in cc (k.1)
created_passed slots inc f (Ask.Create p) line o i h =
    let k = judged_goes f line (creation_fault f.context p.clauses (f.context.final || p.last)) (Created p f.context.final) (Created o i) h (λ s. s) in
    no_fault (create_fault f.context) (clause_fault f.context p.clauses (f.context.final || p.last)) k.0
created_passed slots inc f Ask.Await line o i h = cc
created_passed slots inc f Ask.Wait line o i h = cc
created_passed slots inc f (Ask.WaitOn named) line o i h = let k = judged_goes f line (wait_on_fault f.context named) (WaitedOn named) (Created o i) h (λ s. s) in cc (k.1)
created_passed slots inc f (Ask.Release clauses) line o i h = let k = judged_goes f line (release_fault f.context clauses) (Releases clauses inc) (Created o i) h (λ s. s) in cc (k.1)
created_passed slots inc f (Ask.Print text) line o i h = cc
created_passed slots inc f Ask.End line o i h = cc
created_passed slots inc f (Ask.Fails kind) line o i h = cc

frame_passed : {S : Type 0} (P : Program S) (slots : ℕ → Right) (inc : Bool) (f : Frame S) (w : Bool) (o : Order S) (i : Bool) → frame_act P slots inc f w ≡ Created o i → create_fault f.context ≡ None
frame_passed P slots inc f true o i h = cc
frame_passed P slots inc f false o i h = created_passed slots inc f (ask_of P f).ask (ask_of P f).line o i h

-- a body before the creation of a task that is not included may create
pub stack_passed : {S : Type 0} (P : Program S) (slots : ℕ → Right) (base : Frame S) (inner : List (Frame S)) (over : Bool) (o : Order S) → inner ≡ [] → stack_act P slots base inner over ≡ Created o false → create_fault base.context ≡ None
stack_passed P slots base inner true o e h = cc
stack_passed P slots base [] false o e h = frame_passed P slots false base base.awaits o false h
stack_passed P slots base (f ∷ fs) false o e h = cc

-- an act keeps how deep a body's own task is nested
base_depth : {S : Type 0} (a : Act S) (v : ℕ) (base : Frame S) → (base_after a v base).base.context.depth ≡ base.context.depth
base_depth Ended v base = refl
base_depth (Created o true) v base = refl
base_depth (Created o false) v base = after_depth (Created o false) v base
base_depth _ v base = refl

inner_depth : {S : Type 0} (a : Act S) (v : ℕ) (base f : Frame S) (fs : List (Frame S)) → (inner_after a v base f fs).base.context.depth ≡ base.context.depth
inner_depth Ended v base f fs = refl
inner_depth (Created o i) v base f fs = refl
inner_depth _ v base f fs = refl

after_stack_depth : {S : Type 0} (a : Act S) (v : ℕ) (base : Frame S) (inner : List (Frame S)) → (stack_after a v base inner).base.context.depth ≡ base.context.depth
after_stack_depth a v base [] = base_depth a v base
after_stack_depth a v base (f ∷ fs) = inner_depth a v base f fs

parts_depth : {S : Type 0} (P : Program S) (base : Frame S) (inner : List (Frame S)) (over : Bool) → (settled_parts P base inner over).base.context.depth ≡ base.context.depth
parts_depth P base [] over = settled_depth P base
parts_depth P base (f ∷ fs) over = refl

pub stage_depth : {S : Type 0} (P : Program S) (b : Start S) (past : List ℕ) → (stack_from P b past).base.context.depth ≡ b.context.depth
unfolding stack_from
stage_depth P b [] = settled_depth P _
stage_depth P b (v ∷ past) =
    let x = stack_from P b past in
    let n = stack_after (stack_act P (right_of b.context) x.base x.inner x.ended) v x.base x.inner in
    parts_depth P n.base n.inner n.ended ∙ (after_stack_depth (stack_act P (right_of b.context) x.base x.inner x.ended) v x.base x.inner ∙ stage_depth P b past)

-- a task is nested as deep as its path is long
pub path_depth : {S : Type 0} (P : Program S) (main : Start S) (s : State S) → IsMade P main s → main.context.depth ≡ 0 → (p : List ℕ) (t : Task S) → At s p t → t.body.start.context.depth ≡ length p
path_depth P main s made zero_ [] t h = ap (λ (x : Start _). x.context.depth) (ap (λ (x : Task _). x.body.start) (at_same s [] t made.main_task h made.main_at) ∙ made.main_start) ∙ zero_
path_depth P main s made zero_ (k ∷ p) t h =
    let b = made.child k p t h in
    let d = path_depth P main s made zero_ p b.creator b.at_ in
    let e = stage_depth P b.creator.body.start b.past in
    let c = child_depth (stack_from P b.creator.body.start b.past).base b.order in
    let f : t.body.start.context.depth ≡ (child_start (stack_from P b.creator.body.start b.past).base b.order).context.depth = ap (λ (x : Start _). x.context.depth) b.start in
    let one : length (k ∷ p) ≡ suc (length p) = refl in
    omega (arith, d, e, c, f, one)

module _ {S B : Type 0} (P : Program S) (main : Start S) (body : B → Body S) (bodies : List B) (seen : Seen) (cells : List ℕ) (s : State S) (tasks : AreTasks body bodies seen.opens)
    (stands : StandsFor body bodies seen.given cells s) (made : IsMade P main s) (started : IsStarted P s) (zero_ : main.context.depth ≡ 0) where
  nested : (p : List ℕ) (v : ℕ) → IsNumbered body bodies v p → IsNested seen.opens v (length p)
  nested [] v has =
      let z = tasks.one_number v 0 has.one tasks.main.one has.is tasks.main.is (has.path ∙ sym tasks.main.path) in
      subst (λ (w : ℕ). IsNested seen.opens w 0) (sym z) opens.main
  nested (k ∷ p) v has =
      let o = entry_of body bodies seen.opens seen.given cells s tasks stands 0 k p v has in
      let l = tasks.linked o.0 o.1 in
      let e = path_of body bodies seen.opens seen.given cells s tasks stands 0 (k ∷ p) v has o.0 l o.2 in
      let up = nested p o.0.parent (record { one = l.creator; is = l.creator_is; path = sym (tail_is e) }) in
      subst (λ (w : ℕ). IsNested seen.opens w (suc (length p))) o.2 (opens.child o.0 (length p) o.1 up)

  pub can_open : (v : ℕ) (one : B) → slice_get bodies v ≡ Some one → (o : Order S) → act_now P (body one) ≡ Created o false → (child : Body S) → child ≡ (new_task P (body one) o).body
      → (entry : Open) → slice_get bodies entry.task ≡ None → entry.parent ≡ v → AreRightsOf entry.accesses child.start.context → IsRising entry.accesses → CanOpen seen entry
  unfolding stage_act act_of child_start
  can_open v one is o a child child_is entry fresh parent rights rising =
      let m = may_open P body bodies seen.opens tasks v one is o a child child_is entry fresh parent rights (rising_once entry.accesses rising) in
      record {
        not_main = m.not_main;
        fresh = m.fresh;
        parent = m.parent;
        shallow = (length path, subst (λ (w : ℕ). IsNested seen.opens w (length path)) (sym parent) (nested path v has), deep);
        rising = rising;
        covered = λ c n. covered c n (m.covered c n);
      }
    where
      path : List ℕ
      path = (body one).start.path

      has : IsNumbered body bodies v (body one).start.path
      has = record { one = one; is = is; path = refl }

      t : (t : Task S) × At s (body one).start.path t × (t.body ≡ body one) × ((c : ℕ) → (IsIn c t.given ↔ seen.given v c ≡ true))
      t = stands.there v one is

      cr : Creating P (body one).start (body one).found o
      cr = creating P (body one).start (body one).found o a

      deep : length path < 64
      deep =
          let x = stack_from P (body one).start (body one).found in
          let d = shallow x.base.context (stack_passed P (right_of (body one).start.context) x.base x.inner x.ended o cr.alone a) in
          let e = stage_depth P (body one).start (body one).found in
          let f : t.0.body.start.context.depth ≡ length (body one).start.path = path_depth P main s made zero_ (body one).start.path t.0 t.1 in
          let g : t.0.body.start.context.depth ≡ (body one).start.context.depth = ap (λ (y : Body S). y.start.context.depth) t.2 in
          omega (arith, d, e, f, g)

      -- what the new task names the creator has not given up
      held : (c : ℕ) → names c entry ≡ true → (g : Bool) → seen.given v c ≡ g → g ≡ false
      held c n false e = refl
      held c n true e =
          let i : IsIn c t.0.given = (t.3 c).1 e in
          let r = started.given (body one).start.path t.0 c t.1 i in
          absurd (by_reason r.gone)
        where
          x : (y : Access) × (opens.access_at entry.accesses c ≡ Some y)
          x = named_has entry c n

          h : right_of (child_context (stack_from P (body one).start (body one).found).base.context o.clauses o.last) c ≡ Holds x.0.mode x.0.strong
          h = ap (λ (y : Body S). right_of y.start.context c) (sym child_is) ∙ rights.held c x.0 x.1

          k : Covered (right_of (stack_from P (body one).start (body one).found).base.context c) x.0.mode
          k = cr.covered c x.0.mode x.0.strong h

          by_reason : IsGone P s (body one).start.path c t.0 → ⊥
          by_reason (inl g) =
              let f : right_of (stack_from P (body one).start (body one).found).base.context c ≡ Released = subst (λ (y : Body S). right_of (stack_from P y.start y.found).base.context c ≡ Released) t.2 g in
              let q : Released ≡ Holds k.mode k.strong = sym f ∙ k.holds in
              cc
          by_reason (inr g) =
              let f : is_ended P (body one) ≡ true = subst (λ (y : Body S). is_ended P y ≡ true) t.2 g.0 in
              let q : Over ≡ Created o false = sym (over_stops P (body one).start (body one).found f) ∙ a in
              cc

      covered : (c : ℕ) → names c entry ≡ true → (entry.parent ≡ 0) ⊎ HasCover seen.opens c entry → (entry.parent ≡ 0) ⊎ HasHeldCover seen c entry
      covered c n (inl z) = inl z
      covered c n (inr h) = inr (record { cover = h; held = ap (λ (w : ℕ). seen.given w c) parent ∙ held c n (seen.given v c) refl })
