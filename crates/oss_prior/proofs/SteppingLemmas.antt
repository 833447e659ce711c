-- The steps of one task, one after the other.
use Rattle.std.proofs.Common.{◌≡◌, ℕ, zero, suc, ◌+◌, ◌-◌, ◌^◌, ◌<◌, ◌⊎◌, inl, inr, refl, sym, ap, ◌∙◌, subst, arith, List, [], ◌∷◌, ◌++◌, append_assoc, length, min, true, false}
use Rattle.std.specs.Prelude.{slice_get}
use Rattle.std.proofs.lemmas.List.{append-nil}
use Rattle.std.proofs.lemmas.Option.{slice_get_within}
use Rattle.oss_model.specs.Bodies.{Start}
use Rattle.oss_model.specs.Machine.{State}
use Rattle.oss_model.specs.Moves.{CanStep, Stepped, steps}
use Rattle.oss_model.specs.Order.{IsIn, here, there, written}
use Rattle.oss_model.specs.declared.task_no.TaskNo.{TaskNo}
use Rattle.oss_wave_laws.specs.Waves.{takes_more, takes_none}
use Rattle.oss_code.specs.declared.code.CodeParts.{CodeParts}
use Rattle.oss_machine.specs.Frames.{CodeScript}
use Rattle.oss_machine.specs.Machines.{asks}
use Rattle.oss_tree.specs.declared.task.Task.{Task as TreeTask}
use Rattle.oss_tree.specs.Tasks.{HasPoint, number}
use Rattle.oss_tree.proofs.ListLemmas.{there_is}
use Rattle.oss_enabled_moves.specs.Enabled.{MayStep}
use Rattle.oss_core.specs.Awake.{IsStill}
use Rattle.oss_core.specs.Acting.{HasActed, HasActedAlone}
use Rattle.oss_core.specs.CoreLeft.{core_left}
use Rattle.oss_core.specs.Kept.{IsCore, IsRunning, Kept}
use Rattle.oss_core.specs.declared.turns.Turn.{Turn}
use Rattle.oss_core.proofs.ExactLemmas.{step_tells}
use Rattle.oss_core.proofs.FallLemmas.{core_moves_fall}
use Rattle.oss_core.proofs.KeepLemmas.{some_is}
use Rattle.oss_core.proofs.TreeFacts.{at_number, one_path, sizes}
use Rattle.oss_wakeups.specs.declared.watch.Watch.{Watch}
use Rattle.oss_wakeups.specs.Asides.{CanAct, IsSetAside, IsWatchBut, StoodAside}
use Rattle.oss_wakeups.specs.Watches.{IsWaveOf, MaySleep}
use Rattle.oss_prior.specs.Choosing.{KeepsOthers}
use Rattle.oss_prior.specs.Stepping.{HaveStepsLeft}
use Rattle.oss_prior.specs.Turning.{HasMadeSteps, HaveStepsGone}

-- a task of the tree has one point
pub point_is : {tasks : List TreeTask} {v : ℕ} {p q : List ℕ} → HasPoint tasks v p → HasPoint tasks v q → p ≡ q
point_is a b = sym a.point ∙ (ap (λ (t : TreeTask). t.point) (some_is (sym a.at_ ∙ b.at_)) ∙ b.point)

-- and one path
pub path_is : {tasks : List TreeTask} {v : ℕ} {p q : List ℕ} → HasPoint tasks v (written p) → HasPoint tasks v (written q) → p ≡ q
path_is {p = p} {q = q} a b = one_path p q (point_is a b)

-- each task has a path
pub path_of : {code : CodeParts} {main : Start CodeScript} {first : List ℕ} {k : Kept} {s : State CodeScript} (core : IsCore code main first k s) (v : ℕ) → v < length k.tree.tasks → (p : List ℕ) × HasPoint k.tree.tasks v (written p)
path_of {k = k} core v l =
    let a = at_number core v (subst (λ (n : ℕ). v < n) (sizes core) l) in
    (a.body.start.path, record { task = a.task; at_ = a.task_at; point = a.is_known.point })

-- nothing has changed
pub alone_itself : (v : ℕ) (k : Kept) → HasActedAlone v k k
alone_itself v k = record {
  held = λ w l n. refl;
  tree = λ w l n. refl;
  opened = [];
  opens = sym (append-nil k.seen.opens);
  given = λ t c. refl;
  keeps = record { points = λ w q h. h; more = omega arith };
}

-- one act more
pub alone_then : (v : ℕ) (old mid new : Kept) → HasActedAlone v old mid → HasActedAlone v mid new → HasActedAlone v old new
alone_then v old mid new a b = record {
  held = λ w l n. b.held w (more old.tasks mid.tasks w l (a.held w l n)) n ∙ a.held w l n;
  tree = λ w l n. b.tree w (more old.tree.tasks mid.tree.tasks w l (a.tree w l n)) n ∙ a.tree w l n;
  opened = a.opened ++ b.opened;
  opens = b.opens ∙ (ap (λ os. os ++ b.opened) a.opens ∙ append_assoc old.seen.opens a.opened b.opened);
  given = λ t c. b.given t c ∙ a.given t c;
  keeps = record {
    points = λ w q h. b.keeps.points w q (a.keeps.points w q h);
    more = let x = a.keeps.more in let y = b.keeps.more in omega (arith, x, y);
  };
}
  where
    more : {A : Type 0} (xs ys : List A) (w : ℕ) → w < length xs → slice_get ys w ≡ slice_get xs w → w < length ys
    more xs ys w l e = let x = there_is xs w l in slice_get_within ys w x.0 (e ∙ x.1)

-- no step as yet
pub no_steps : (code : CodeParts) (task : TaskNo) (k : Kept) → HaveStepsGone code task k k 0
no_steps code task k main first s p core point = record { state = s; count = 0; takes = takes_none; core = core; acts_are = grind arith }

pub nothing_left : (v : ℕ) (k : Kept) → HaveStepsLeft v 0 k k
nothing_left v k = record { alone = alone_itself v k; may = λ l. absurd (omega (arith, l)); still = λ e. refl }

-- a count that stays at its greatest value
counted : (a n after : ℕ) → after ≡ min (a + 1) (2 ^ 64 - 1) → a ≡ min n (2 ^ 64 - 1) → after ≡ min (suc n) (2 ^ 64 - 1)
counted a n after e f = grind (arith, e, f)

counts : (a after : ℕ) → after ≡ min (a + 1) (2 ^ 64 - 1) → after ≡ 0 → ⊥
counts a after e f = grind (arith, e, f)

-- one step more
pub step_gone : (code : CodeParts) (task : TaskNo) (old mid new : Kept) (acts after : ℕ) → HaveStepsGone code task old mid acts → HaveStepsLeft task.0 acts old mid → HasActed true code task mid new → after ≡ min (acts + 1) (2 ^ 64 - 1)
    → HaveStepsGone code task old new after
step_gone code task old mid new acts after gone left (may, made, alone) e main first s p core point =
    let g = gone main first s p core point in
    let m = made main first g.state g.core in
    let path : m.1.0 ≡ p = path_is m.1.2 (left.alone.keeps.points task.0 (written p) point) in
    record {
      state = m.0;
      count = suc g.count;
      takes = takes_more g.takes (subst (λ (q : List ℕ). CanStep (asks code) g.state q m.1.1) path m.1.3) (subst (λ (q : List ℕ). Stepped (asks code) g.state q m.1.1 m.0) path m.1.4);
      core = m.2;
      acts_are = counted acts g.count after e g.acts_are;
    }

pub step_left : (code : CodeParts) (task : TaskNo) (old mid new : Kept) (acts after : ℕ) → HaveStepsLeft task.0 acts old mid → HasActed true code task mid new → after ≡ min (acts + 1) (2 ^ 64 - 1) → HaveStepsLeft task.0 after old new
step_left code task old mid new acts after left (may, made, alone) e = record {
  alone = alone_then task.0 old mid new left.alone alone;
  may = λ l. able acts refl;
  still = λ f. absurd (counts acts after e f);
}
  where
    able : (n : ℕ) → n ≡ acts → MayStep old.tasks old.tree.tasks old.seen task.0
    able zero f = subst (λ (k : Kept). MayStep k.tasks k.tree.tasks k.seen task.0) (left.still (sym f)) may
    able (suc n) f = left.may (omega (arith, f))

-- it leaves less to do
pub step_falls : (code : CodeParts) (task : TaskNo) (mid new : Kept) → IsRunning code mid → HasActed true code task mid new → core_left code new < core_left code mid
step_falls code task mid new running (may, made, alone) =
    let m = made running.main running.first running.state running.core in
    core_moves_fall code running.main running.first mid new running.state m.0 running.core m.2 (steps m.1.3 m.1.4)

-- the core stands still for a state of the machine
pub steps_running : (code : CodeParts) (task : TaskNo) (old now : Kept) (acts : ℕ) → IsRunning code old → task.0 < length old.tree.tasks → HaveStepsGone code task old now acts → IsRunning code now
steps_running code task old now acts running l gone =
    let p = path_of running.core task.0 l in
    let g = gone running.main running.first running.state p.0 running.core p.1 in
    record { main = running.main; first = running.first; state = g.state; core = g.core }

-- where none more may be made these were all
pub steps_made : (code : CodeParts) (task : TaskNo) (old mid new : Kept) (acts : ℕ) → HaveStepsGone code task old mid acts → HaveStepsLeft task.0 acts old mid → HasActed false code task mid new → HasMadeSteps code task old new acts
steps_made code task old mid new acts gone left (none, same) main first s p core point =
    let g = gone main first s p core point in
    record {
      gone = record { state = g.state; count = g.count; takes = g.takes; core = subst (λ (k : Kept). IsCore code main first k g.state) (sym same) g.core; acts_are = g.acts_are };
      none = λ t can. none (step_tells g.core task.0 p t (left.alone.keeps.points task.0 (written p) point) can);
    }

pub steps_left : (code : CodeParts) (task : TaskNo) (old mid new : Kept) (acts : ℕ) → HaveStepsLeft task.0 acts old mid → HasActed false code task mid new → HaveStepsLeft task.0 acts old new
steps_left code task old mid new acts left (none, same) = subst (λ (k : Kept). HaveStepsLeft task.0 acts old k) (sym same) left

-- the steps are those of a wave with one turn
pub one_turn : (task : TaskNo) (acts : ℕ) (turn : Turn) (old new : Kept) → turn.task.0 ≡ task.0 → 0 < acts → HaveStepsLeft task.0 acts old new → IsWaveOf (turn ∷ []) old new
one_turn task acts turn old new e l left = record {
  wave = record {
    turned = record {
      held = λ w m none. left.alone.held w m (λ f. none (record { one = turn; listed = here; task = e ∙ sym f }));
      tree = λ w m none. left.alone.tree w m (λ f. none (record { one = turn; listed = here; task = e ∙ sym f }));
      opened = left.alone.opened;
      opens = left.alone.opens;
      given = left.alone.given;
    };
    may = λ w h. subst (λ (n : ℕ). MayStep old.tasks old.tree.tasks old.seen n) (sym e ∙ (sym (ap (λ (t : Turn). t.task.0) (first h.one h.listed)) ∙ h.task)) (left.may l);
  };
  tasks = left.alone.keeps;
}
  where
    none : (x : Turn) → IsIn x [] → ⊥
    none x i = elim i [ ]

    first : (x : Turn) → IsIn x (turn ∷ []) → x ≡ turn
    first x here = refl
    first x (there i) = absurd (none x i)

-- where no step was made none could be
pub idle_steps : (code : CodeParts) (task : TaskNo) (old mid new : Kept) (acts : ℕ) → HaveStepsLeft task.0 acts old mid → HasActed false code task mid new → acts ≡ 0 → CanAct old task.0 → ⊥
idle_steps code task old mid new acts left (none, same) e can = none (subst (λ (k : Kept). CanAct k task.0) (sym (left.still e)) can)

-- and nothing is otherwise
pub nothing_taken : (task : TaskNo) (acts : ℕ) (old new : Kept) (w : Watch) → acts ≡ 0 → HaveStepsLeft task.0 acts old new → (acts ≡ 0 → CanAct old task.0 → ⊥) → IsSetAside old w → IsWatchBut (StoodAside old task.0) new w
nothing_taken task acts old new w e left idle was = subst (λ (k : Kept). IsWatchBut (StoodAside old task.0) k w) (sym (left.still e)) (record { apart = was.watch.apart; size = was.watch.size; ordered = was.watch.ordered; all = λ v l. go v (was.watch.all v l) })
  where
    go : (v : ℕ) → IsIn (number v) w.awake.items ⊎ (MaySleep old w v ⊎ (CanAct old v × IsStill old v)) → IsIn (number v) w.awake.items ⊎ (MaySleep old w v ⊎ (StoodAside old task.0 v × IsStill old v))
    go v (inl i) = inl i
    go v (inr (inl s)) = inr (inl s)
    go v (inr (inr (can, s))) = inr (inr ((can, λ f. idle e (subst (CanAct old) f can)), s))

-- a task that makes a step stood aside
pub stood_aside : (task : TaskNo) (acts : ℕ) (old new : Kept) (w : Watch) → 0 < acts → HaveStepsLeft task.0 acts old new → IsSetAside old w → IsIn task w.awake.items → ⊥
stood_aside task acts old new w l left was i = was.idle task i (left.may l)

-- the bodies of the others stay
pub alone_others : (v : ℕ) (old new : Kept) → HasActedAlone v old new → KeepsOthers v old new
alone_others v old new alone = record { body = λ w held n e. (held, alone.held w (slice_get_within old.tasks w held e) n ∙ e, refl) }

-- it is there
pub still_there : (task : TaskNo) (acts : ℕ) (old new : Kept) → task.0 < length old.tree.tasks → HaveStepsLeft task.0 acts old new → task.0 < length new.tree.tasks
still_there task acts old new l left = let m = left.alone.keeps.more in omega (arith, l, m)

pub made_running : (code : CodeParts) (task : TaskNo) (old new : Kept) (acts : ℕ) → IsRunning code old → task.0 < length old.tree.tasks → HasMadeSteps code task old new acts → IsRunning code new
made_running code task old new acts running l made =
    let p = path_of running.core task.0 l in
    let g = (made running.main running.first running.state p.0 running.core p.1).gone in
    record { main = running.main; first = running.first; state = g.state; core = g.core }
