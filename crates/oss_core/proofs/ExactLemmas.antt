-- The moves that may be made by what a core keeps are those of the state for which it stands.
use Rattle.std.proofs.Common.{◌≡◌, ℕ, ◌⊎◌, inl, inr, refl, sym, subst, ap, ◌∙◌, List, [], ◌∷◌, Bool, true, false, Some}
use Rattle.std.specs.Prelude.{slice_get}
use Rattle.oss_syntax.specs.declared.access.Access.{Access}
use Rattle.oss_syntax.specs.declared.access.Mode.{Mode}
use Rattle.oss_syntax.specs.declared.access.Mode.TheVariants.{Fold, Write}
use Rattle.oss_syntax.specs.declared.access.Op.{Op}
use Rattle.oss_model.specs.Order.{written}
use Rattle.oss_model.specs.Rights.{Released, Holds}
use Rattle.oss_model.specs.Context.{right_of}
use Rattle.oss_model.specs.Bodies.{Body, Start, stack_from}
use Rattle.oss_model.specs.Machine.{State, Task}
use Rattle.oss_model.specs.Moves.{is_ended, CanStep, CanLet, CanJoin}
use Rattle.oss_model.proofs.TreeLemmas.{at_same}
use Rattle.oss_ranges.specs.Cells.{value_at}
use Rattle.oss_code.specs.declared.code.CodeParts.{CodeParts}
use Rattle.oss_machine.specs.Frames.{CodeScript}
use Rattle.oss_machine.specs.Machines.{asks}
use Rattle.oss_body.specs.declared.act.Act.{Act}
use Rattle.oss_body.specs.declared.act.Act.TheVariants as acts
use Rattle.oss_body.specs.Acts.{act_seen}
use Rattle.oss_body.specs.Relation.{pending_of, released_by}
use Rattle.oss_tree.specs.Tasks.{HasPoint, IsComplete}
use Rattle.oss_kept_tasks.specs.declared.held.Held.{Held}
use Rattle.oss_kept_tasks.specs.declared.held.Owed.TheVariants as owed
use Rattle.oss_enabled_moves.specs.Enabled.{IsActMet, IsThrough, MayJoin, MayLet, MayStep}
use Rattle.oss_core.specs.Telling as told
use Rattle.oss_core.specs.Telling.{HasEntry, IsClauseTold, IsWaitTold}
use Rattle.oss_core.specs.Kept.{Kept, IsCore, IsHeld, own, owed_by, owed_of}
use Rattle.oss_core.proofs.KeepLemmas.{some_is}
use Rattle.oss_core.proofs.MatchLemmas.{entry_of}
use Rattle.oss_core.proofs.TellLemmas as tell
use Rattle.oss_core.proofs.TreeFacts.{at_number, body_within, complete_tells, core_made, kept_within, path_of_point, point_of_path}
use Rattle.oss_core.proofs.ChildFacts.{children_told, children_tell, newest_told, newest_tells}
use Rattle.oss_core.proofs.BodyFacts.{act_running, act_tells, act_told, begun_tells, begun_told, join_right, let_right, over_tells, over_told, owed_let, owing, released_tells, released_told}

module _ {code : CodeParts} {main : Start CodeScript} {first : List ℕ} {k : Kept} {s : State CodeScript} (core : IsCore code main first k s) where
  -- the body of the definitions under a number, of which this is kept
  pub record BodyOf (v : ℕ) (held : Held) : Type 0 where
    pub body : Body CodeScript
    pub at_ : slice_get core.bodies v ≡ Some body
    pub is_held : IsHeld code (k.seen.given v) body held

  -- each that is kept has one
  pub body_of : (v : ℕ) (held : Held) → slice_get k.tasks v ≡ Some held → BodyOf v held
  body_of v held e =
      let x = at_number core v (kept_within core v held e) in
      record { body = x.body; at_ = x.body_at; is_held = core.held.each v x.body held x.body_at e }

  -- and what is kept of each body
  pub record KeptOf (v : ℕ) (b : Body CodeScript) : Type 0 where
    pub held : Held
    pub at_ : slice_get k.tasks v ≡ Some held
    pub is_held : IsHeld code (k.seen.given v) b held

  -- it is kept under its number
  pub kept_of : (v : ℕ) (b : Body CodeScript) → slice_get core.bodies v ≡ Some b → KeptOf v b
  kept_of v b e =
      let x = at_number core v (body_within core v b e) in
      record { held = x.held; at_ = x.held_at; is_held = core.held.each v b x.held e x.held_at }

  -- what an act waits for
  pub wait_told : (v : ℕ) (b : Body CodeScript) → slice_get core.bodies v ≡ Some b → (a : Act) → IsActMet k.tree.tasks k.seen v a
      → IsWaitTold (asks code) own core.bodies k.seen.opens k.seen.given (IsComplete k.tree.tasks) v b (act_seen a)
  wait_told v b e acts.Await f = newest_told core v b e f
  wait_told v b e acts.Wait f = children_told core v f
  wait_told v b e (acts.WaitOn ranges) f = f
  wait_told v b e _ f = tt

  -- and the other way
  pub wait_tells : (v : ℕ) (b : Body CodeScript) → slice_get core.bodies v ≡ Some b → (a : Act) → IsWaitTold (asks code) own core.bodies k.seen.opens k.seen.given (IsComplete k.tree.tasks) v b (act_seen a)
      → IsActMet k.tree.tasks k.seen v a
  wait_tells v b e acts.Await f = newest_tells core v b e f
  wait_tells v b e acts.Wait f = children_tell core v f
  wait_tells v b e (acts.WaitOn ranges) f = f
  wait_tells v b e _ f = tt

  -- a step that may be made is one that the core tells
  pub step_enabled : (v : ℕ) → MayStep k.tasks k.tree.tasks k.seen v → told.IsEnabled (asks code) own core.bodies k.seen.opens k.seen.given (IsComplete k.tree.tasks) v
  step_enabled v m =
      let x = body_of v m.held m.is in
      let b = x.is_held.body_is in
      record {
        one = x.body;
        is = x.at_;
        goes = λ h. act_told b m.goes.running m.goes.goes h;
        met = λ e. m.goes.met (begun_told b e);
        waits = subst (λ a. IsWaitTold (asks code) own core.bodies k.seen.opens k.seen.given (IsComplete k.tree.tasks) v x.body a) (b.act m.goes.running) (wait_told v x.body x.at_ (pending_of m.held.body) m.goes.waits);
      }

  -- and the other way
  pub enabled_step : (v : ℕ) → told.IsEnabled (asks code) own core.bodies k.seen.opens k.seen.given (IsComplete k.tree.tasks) v → MayStep k.tasks k.tree.tasks k.seen v
  enabled_step v m =
      let x = kept_of v m.one m.is in
      let b = x.is_held.body_is in
      let running = act_running b m.goes in
      record {
        held = x.held;
        is = x.at_;
        goes = record {
          running = running;
          goes = act_tells b m.goes;
          met = λ e. m.met (begun_tells b e);
          waits = wait_tells v m.one m.is (pending_of x.held.body) (subst (λ a. IsWaitTold (asks code) own core.bodies k.seen.opens k.seen.given (IsComplete k.tree.tasks) v m.one a) (sym (b.act running)) m.waits);
        };
      }

  -- the step of a task that may be made is one of the state
  pub step_told : (v : ℕ) → MayStep k.tasks k.tree.tasks k.seen v → (p : List ℕ) × (t : Task CodeScript) × HasPoint k.tree.tasks v (written p) × CanStep (asks code) s p t
  step_told v m =
      let e = step_enabled v m in
      let r = tell.step_told (asks code) own core.bodies k.seen.opens k.seen.given k.cells s core.sound.tasks core.stands core.sound.below (IsComplete k.tree.tasks) (complete_tells core) v e in
      (e.one.start.path, r.0, point_of_path core v e.one.start.path (record { one = e.one; is = e.is; path = refl }), r.1)

  -- and each step of the state may be made
  pub step_tells : (v : ℕ) (p : List ℕ) (t : Task CodeScript) → HasPoint k.tree.tasks v (written p) → CanStep (asks code) s p t → MayStep k.tasks k.tree.tasks k.seen v
  step_tells v p t h can =
      enabled_step v
      (tell.step_tells (asks code) own core.bodies k.seen.opens k.seen.given k.cells s core.sound.tasks core.stands core.sound.below (IsComplete k.tree.tasks) (complete_tells core) v p t (path_of_point core v p h) can)

  -- a task that has ended and whose clause wait is met
  pub through_told : (v : ℕ) (b : Body CodeScript) (held : Held) → IsHeld code (k.seen.given v) b held → IsThrough k.tree.tasks v held.body
      → (is_ended (asks code) b ≡ true) × IsClauseTold (asks code) own core.bodies k.seen.opens k.seen.given (IsComplete k.tree.tasks) v b
  through_told v b held h m = (over_told h.body_is m.over, λ w. children_told core v (m.wait (h.body_is.wait ∙ w)))

  -- and the other way
  pub through_tells : (v : ℕ) (b : Body CodeScript) (held : Held) → IsHeld code (k.seen.given v) b held → is_ended (asks code) b ≡ true
      → IsClauseTold (asks code) own core.bodies k.seen.opens k.seen.given (IsComplete k.tree.tasks) v b → IsThrough k.tree.tasks v held.body
  through_tells v b held h e f = record { over = over_tells h.body_is e; wait = λ w. children_tell core v (f (sym h.body_is.wait ∙ w)) }

  -- the access of a task with this right
  pub record AccessOf (v c : ℕ) (m : Mode) (strong : Bool) : Type 0 where
    pub access : Access
    pub has : HasEntry (asks code) own core.bodies k.seen.opens k.seen.given (IsComplete k.tree.tasks) v c access
    pub mode : access.mode ≡ m
    pub strong_is : access.strong ≡ strong

  -- a task but main has an access for each of its rights
  pub access_of : (v c j : ℕ) (p : List ℕ) (b : Body CodeScript) → slice_get core.bodies v ≡ Some b → b.start.path ≡ j ∷ p → (m : Mode) (strong : Bool) → right_of b.start.context c ≡ Holds m strong → AccessOf v c m strong
  access_of v c j p b e path m strong r =
      let o = entry_of own core.bodies k.seen.opens k.seen.given k.cells s core.sound.tasks core.stands c j p v (record { one = b; is = e; path = path }) in
      let l = core.sound.tasks.linked o.0 o.1 in
      let same : b ≡ l.task = some_is (sym e ∙ ap (λ (w : ℕ). slice_get core.bodies w) (sym o.2) ∙ l.task_is) in
      let a = l.rights.given c m strong (ap (λ (y : Body CodeScript). right_of y.start.context c) (sym same) ∙ r) in
      record { access = a.0; has = record { entry = o.0; listed = o.1; number = o.2; at_ = a.1 }; mode = a.2; strong_is = a.3 }

  -- the right of a task is that of its access
  pub right_is : (v c : ℕ) (b : Body CodeScript) (a : Access) → slice_get core.bodies v ≡ Some b → HasEntry (asks code) own core.bodies k.seen.opens k.seen.given (IsComplete k.tree.tasks) v c a → right_of b.start.context c ≡ Holds a.mode a.strong
  right_is v c b a e h =
      let l = core.sound.tasks.linked h.entry h.listed in
      let same : l.task ≡ b = some_is (sym l.task_is ∙ ap (λ (w : ℕ). slice_get core.bodies w) h.number ∙ e) in
      ap (λ (y : Body CodeScript). right_of y.start.context c) (sym same) ∙ l.rights.held c a h.at_

  -- why a task may give up a cell
  gone_told : (v c : ℕ) (b : Body CodeScript) (held : Held) → IsHeld code (k.seen.given v) b held → (released_by held.body c ≡ true) ⊎ IsThrough k.tree.tasks v held.body
      → (right_of (stack_from (asks code) b.start b.found).base.context c ≡ Released) ⊎ ((is_ended (asks code) b ≡ true) × IsClauseTold (asks code) own core.bodies k.seen.opens k.seen.given (IsComplete k.tree.tasks) v b)
  gone_told v c b held h (inl r) = inl (released_told h.body_is c r)
  gone_told v c b held h (inr r) = inr (through_told v b held h r)

  -- and the other way
  gone_tells : (v c : ℕ) (b : Body CodeScript) (held : Held) → IsHeld code (k.seen.given v) b held
      → (right_of (stack_from (asks code) b.start b.found).base.context c ≡ Released) ⊎ ((is_ended (asks code) b ≡ true) × IsClauseTold (asks code) own core.bodies k.seen.opens k.seen.given (IsComplete k.tree.tasks) v b)
      → (released_by held.body c ≡ true) ⊎ IsThrough k.tree.tasks v held.body
  gone_tells v c b held h (inl r) = inl (released_tells h.body_is c r)
  gone_tells v c b held h (inr r) = inr (through_tells v b held h r.0 r.1)

  -- a let that may be made is one that the core tells
  pub let_enabled : (v c : ℕ) → MayLet k.tasks k.tree.tasks v c → told.MayLet (asks code) own core.bodies k.seen.opens k.seen.given (IsComplete k.tree.tasks) v c
  let_enabled v c m =
      let x = body_of v m.held m.is in
      let r = right_of x.body.start.context c in
      let o = owing x.body.start.path (k.seen.given v c) r owed.Let (sym (x.is_held.owed_is c) ∙ m.gives.owes) in
      let l = let_right r o.by in
      let a = access_of v c o.number o.above x.body x.at_ o.path l.mode l.strong l.right in
      record {
        one = x.body;
        is = x.at_;
        access = a.access;
        has = a.has;
        no_fold = λ op f g. l.no_fold op (sym a.mode ∙ f) (sym a.strong_is ∙ g);
        kept = o.kept;
        gone = gone_told v c x.body m.held x.is_held m.gives.gone;
      }

  -- the let of a cell that may be made is one of the state
  pub let_told : (v c : ℕ) → MayLet k.tasks k.tree.tasks v c → (p : List ℕ) × (t : Task CodeScript) × HasPoint k.tree.tasks v (written p) × CanLet (asks code) s p c t
  let_told v c m =
      let e = let_enabled v c m in
      let r = tell.let_told (asks code) own core.bodies k.seen.opens k.seen.given k.cells s core.sound.tasks core.stands core.sound.below (IsComplete k.tree.tasks) (complete_tells core) v c e in
      (e.one.start.path, r.0, point_of_path core v e.one.start.path (record { one = e.one; is = e.is; path = refl }), r.1)

  -- what a task owes of a cell to which it has this right, and which it has not given up
  owes_is : (v c j : ℕ) (p : List ℕ) (b : Body CodeScript) (held : Held) → IsHeld code (k.seen.given v) b held → b.start.path ≡ j ∷ p → k.seen.given v c ≡ false → (m : Mode) (strong : Bool) → right_of b.start.context c ≡ Holds m strong
      → value_at held.owed.pieces c ≡ owed_by (Holds m strong)
  owes_is v c j p b held h path kept m strong r =
      h.owed_is c ∙ ap (λ (q : List ℕ). owed_of q (k.seen.given v c) (right_of b.start.context c)) path ∙ ap (λ (g : Bool). owed_of (j ∷ p) g (right_of b.start.context c)) kept ∙ ap (λ x. owed_of (j ∷ p) false x) r

  -- and each let of the state may be made
  pub let_tells : (v c : ℕ) (p : List ℕ) (t : Task CodeScript) → HasPoint k.tree.tasks v (written p) → CanLet (asks code) s p c t → MayLet k.tasks k.tree.tasks v c
  let_tells v c [] t h can = absurd (can.not_main refl)
  let_tells v c (j ∷ p) t h can =
      let has = path_of_point core v (j ∷ p) h in
      let m = tell.let_tells (asks code) own core.bodies k.seen.opens k.seen.given k.cells s core.sound.tasks core.stands core.sound.below (IsComplete k.tree.tasks) (complete_tells core) v c (j ∷ p) t has can in
      let x = kept_of v m.one m.is in
      let path : m.one.start.path ≡ j ∷ p = ap (λ (b : Body CodeScript). b.start.path) (some_is (sym m.is ∙ has.is)) ∙ has.path in
      record {
        held = x.held;
        is = x.at_;
        gives = record {
          owes = owes_is v c j p m.one x.held x.is_held path m.kept m.access.mode m.access.strong (right_is v c m.one m.access m.is m.has) ∙ owed_let m.access.mode m.access.strong m.no_fold;
          gone = gone_tells v c m.one x.held x.is_held m.gone;
        };
      }

  -- a join that may be made is one that the core tells
  pub join_enabled : (v c : ℕ) (op : Op) → MayJoin k.tasks k.tree.tasks k.seen v c op → told.MayJoin (asks code) own core.bodies k.seen.opens k.seen.given (IsComplete k.tree.tasks) v c op
  join_enabled v c op m =
      let x = body_of v m.held m.is in
      let r = right_of x.body.start.context c in
      let o = owing x.body.start.path (k.seen.given v c) r (owed.Join op) (sym (x.is_held.owed_is c) ∙ m.folds.owes) in
      let a = access_of v c o.number o.above x.body x.at_ o.path (Fold op) true (join_right r op o.by) in
      let g = through_told v x.body m.held x.is_held m.folds.through in
      record {
        one = x.body;
        is = x.at_;
        access = a.access;
        has = a.has;
        fold = a.mode;
        strong = a.strong_is;
        kept = o.kept;
        ended = g.0;
        wait = g.1;
        satisfied = m.folds.satisfied;
      }

  -- the join of a slot that may be made is one of the state
  pub join_told : (v c : ℕ) (op : Op) → MayJoin k.tasks k.tree.tasks k.seen v c op → (p : List ℕ) × (t : Task CodeScript) × HasPoint k.tree.tasks v (written p) × CanJoin (asks code) s p c op t
  join_told v c op m =
      let e = join_enabled v c op m in
      let r = tell.join_told (asks code) own core.bodies k.seen.opens k.seen.given k.cells s core.sound.tasks core.stands core.sound.below (IsComplete k.tree.tasks) (complete_tells core) v c op e in
      (e.one.start.path, r.0, point_of_path core v e.one.start.path (record { one = e.one; is = e.is; path = refl }), r.1)

  -- main has no slot
  main_joins_none : (c : ℕ) (op : Op) (t : Task CodeScript) → CanJoin (asks code) s [] c op t → ⊥
  main_joins_none c op t can =
      let made = core_made core in
      let start : t.body.start ≡ main = ap (λ (x : Task CodeScript). x.body.start) (at_same s [] t made.main_task can.at_ made.main_at) ∙ made.main_start in
      let e : Fold op ≡ Write = core.setting.writes c (Fold op) true (ap (λ (x : Start CodeScript). right_of x.context c) (sym start) ∙ can.right) in
      cc

  -- and each join of the state may be made
  pub join_tells : (v c : ℕ) (op : Op) (p : List ℕ) (t : Task CodeScript) → HasPoint k.tree.tasks v (written p) → CanJoin (asks code) s p c op t → MayJoin k.tasks k.tree.tasks k.seen v c op
  join_tells v c op [] t h can = absurd (main_joins_none c op t can)
  join_tells v c op (j ∷ p) t h can =
      let has = path_of_point core v (j ∷ p) h in
      let m = tell.join_tells (asks code) own core.bodies k.seen.opens k.seen.given k.cells s core.sound.tasks core.stands core.sound.below (IsComplete k.tree.tasks) (complete_tells core) v c j op p t has can in
      let x = kept_of v m.one m.is in
      let path : m.one.start.path ≡ j ∷ p = ap (λ (b : Body CodeScript). b.start.path) (some_is (sym m.is ∙ has.is)) ∙ has.path in
      let right : right_of m.one.start.context c ≡ Holds (Fold op) true = right_is v c m.one m.access m.is m.has ∙ λ i. Holds (m.fold i) (m.strong i) in
      record {
        held = x.held;
        is = x.at_;
        folds = record {
          owes = owes_is v c j p m.one x.held x.is_held path m.kept (Fold op) true right;
          through = through_tells v m.one x.held x.is_held m.ended m.wait;
          satisfied = m.satisfied;
        };
      }
