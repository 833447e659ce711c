-- The answer of a core that stands still is that of its state.
use Rattle.std.proofs.Common.{◌≡◌, ℕ, zero, suc, ◌+◌, ◌<◌, ◌≤◌, refl, sym, subst, ap, ◌∙◌, arith, Bool, true, false, List, length, Some}
use Rattle.std.specs.Prelude.{slice_get}
use Rattle.std.proofs.lemmas.Option.{slice_get_within}
use Rattle.oss_syntax.specs.declared.fault.FaultKind.{FaultKind}
use Rattle.oss_model.specs.declared.answer.Answer.{Answer}
use Rattle.oss_model.specs.declared.answer.Answer.TheVariants as answers
use Rattle.oss_model.specs.Order.{IsBefore, same, written}
use Rattle.oss_model.specs.Bodies.{Act as Meant, Body, Program, Start, IsFault}
use Rattle.oss_model.specs.Machine.{State, Task, At}
use Rattle.oss_model.specs.Memory.{Event, key_at}
use Rattle.oss_model.specs.Moves.{act_now}
use Rattle.oss_model.specs.Answers.{IsAnswer, IsLeastFault, faulted, finished}
use Rattle.oss_model.proofs.ProgressTheorem.{Outlook, progress}
use Rattle.oss_model.proofs.TreeLemmas.{over_stops}
use Rattle.oss_code.specs.declared.code.CodeParts.{CodeParts}
use Rattle.oss_machine.specs.Frames.{CodeScript}
use Rattle.oss_machine.specs.Machines.{asks}
use Rattle.oss_body.specs.declared.act.Act.{Act}
use Rattle.oss_body.specs.declared.act.Act.TheVariants as acts
use Rattle.oss_body.specs.declared.body.Body.{Body as KeptBody}
use Rattle.oss_body.specs.Acts.{act_seen}
use Rattle.oss_body.specs.Places.{unwritten}
use Rattle.oss_body.specs.Relation.{IsBody, is_over, pending_of}
use Rattle.oss_tree.specs.declared.task.Task.{Task as TreeTask}
use Rattle.oss_tree.specs.Output.{IsOutput, up_to}
use Rattle.oss_tree.specs.Runs.{KeepsPrints, Precedes, first, later}
use Rattle.oss_tree.specs.Tasks.{AreComplete, IsClosed, IsComplete, IsTree, complete}
use Rattle.oss_tree.proofs.RunLemmas.{finished_law, output_before_law, output_law}
use Rattle.oss_kept_tasks.specs.declared.held.Held.{Held}
use Rattle.oss_kept_tasks.specs.FirstFault.{AreKeyed, IsFaultAt, IsFaultless, IsLeastFaultAt}
use Rattle.oss_core.specs.Kept.{IsCore, Kept}
use Rattle.oss_core.specs.Printing.{InTime}
use Rattle.oss_core.specs.Stops.{IsAnswerOf, IsStill, done, fault}
use Rattle.oss_core.proofs.BodyFacts.{over_told}
use Rattle.oss_core.proofs.ExactLemmas.{body_of, kept_of}
use Rattle.oss_core.proofs.KeepLemmas.{some_is}
use Rattle.oss_core.proofs.StopLemmas.{still_stopped}
use Rattle.oss_core.proofs.TreeFacts.{core_made, keeps_tasks}

-- of prints in the order of time, those of one key stand as their body has done them
pub in_turn : {S : Type 0} (P : Program S) (e g : Event S) {es : List (Event S)} → Precedes e g es → InTime P es → key_at P e ≡ key_at P g → length e.past < length g.past
in_turn P e g (first i) h k = h.0 g i k
in_turn P e g (later p) h k = in_turn P e g p h.1 k

-- where all tasks of a tree are closed, all are complete
pub all_complete : (tasks : List TreeTask) → IsTree tasks → ((t : ℕ) (one : TreeTask) → slice_get tasks t ≡ Some one → IsClosed one) → AreComplete tasks
all_complete tasks tree closed t one e = down (length tasks) t one (omega arith) e
  where
    down : (n t : ℕ) (one : TreeTask) → length tasks ≤ t + n → slice_get tasks t ≡ Some one → IsComplete tasks t
    down zero t one l e = let m = slice_get_within tasks t one e in absurd (omega (arith, l, m))
    down (suc n) t one l e = complete one e (closed t one e) (λ i c f. let h = tree.children t one e i c f in let m = h.later in down n c h.task (omega (arith, l, m)) h.at_)

-- a fault of the definitions, with its kind, its line and its key
pub fault_parts : {S : Type 0} (a : Meant S) → IsFault a → (kind : FaultKind) × (line : ℕ) × (key : List ℕ) × (a ≡ Meant.Fault kind line key)
fault_parts (Meant.Fault kind line key) h = (kind, line, key, refl)
fault_parts _ h = elim h [ ]

-- an act that is seen as a fault is one
fault_seen : (a : Act) (kind : FaultKind) (line : ℕ) (other : List ℕ) → act_seen a ≡ Meant.Fault kind line other → (key : List ℕ) × (a ≡ acts.Fault kind line key) × (unwritten key ≡ other)
fault_seen (acts.Fault k l key) kind line other e = (key, cc, cc)
fault_seen _ kind line other e = absurd cc

-- a task that stands before a fault has not ended
fault_running : {code : CodeParts} (b : Body CodeScript) (kept : KeptBody) → IsBody code b.start b.found kept → (kind : FaultKind) (line : ℕ) (other : List ℕ) → act_now (asks code) b ≡ Meant.Fault kind line other
    → (over : Bool) → is_over kept ≡ over → is_over kept ≡ false
fault_running b kept h kind line other e false o = o
fault_running {code = code} b kept h kind line other e true o = let f : Meant.Over ≡ Meant.Fault kind line other = sym (over_stops (asks code) b.start b.found (over_told h o)) ∙ e in absurd cc

module _ {code : CodeParts} {main : Start CodeScript} {first : List ℕ} {k : Kept} {s : State CodeScript} (core : IsCore code main first k s) where
  -- what is kept of a task of the state that stands before a fault
  pub record FaultOf (kind : FaultKind) (line : ℕ) (other : List ℕ) : Type 0 where
    pub number : ℕ
    pub held : Held
    pub is : slice_get k.tasks number ≡ Some held
    pub running : is_over held.body ≡ false
    pub key : List ℕ
    pub act : pending_of held.body ≡ acts.Fault kind line key
    pub key_is : unwritten key ≡ other

  -- a fault of the state is kept
  pub fault_of : (q : List ℕ) (u : Task CodeScript) (kind : FaultKind) (line : ℕ) (other : List ℕ) → At s q u → act_now (asks code) u.body ≡ Meant.Fault kind line other → FaultOf kind line other
  fault_of q u kind line other at_ e =
      let v = core.stands.back q u at_ in
      let h = kept_of core v.0 v.1.one v.1.is in
      let r = core.stands.there v.0 v.1.one v.1.is in
      let same_task : r.0 ≡ u = some_is (sym (subst (λ (p : List ℕ). At s p r.0) v.1.path r.1) ∙ at_) in
      let now : act_now (asks code) v.1.one ≡ Meant.Fault kind line other = ap (λ (b : Body CodeScript). act_now (asks code) b) (sym r.2 ∙ ap (λ (t : Task CodeScript). t.body) same_task) ∙ e in
      let running = fault_running v.1.one h.held.body h.is_held.body_is kind line other now (is_over h.held.body) refl in
      let f = fault_seen h.held.body.act kind line other (h.is_held.body_is.act running ∙ now) in
      record { number = v.0; held = h.held; is = h.at_; running = running; key = f.0; act = f.1; key_is = f.2 }

  -- the key of a fault that stands next, as it is written
  key_written : AreKeyed k.tasks → (kind : FaultKind) (line : ℕ) (other : List ℕ) (f : FaultOf kind line other) → f.key ≡ written other
  key_written keyed kind line other f = sym (keyed f.number f.held kind line f.key f.is f.running f.act) ∙ ap written f.key_is

  -- it is one that the core tells
  told_fault : AreKeyed k.tasks → (kind : FaultKind) (line : ℕ) (other : List ℕ) (f : FaultOf kind line other) → IsFaultAt k.tasks f.number kind line f.key
  told_fault keyed kind line other f = record { held = f.held; is = f.is; running = f.running; act = f.act; keyed = keyed f.number f.held kind line f.key f.is f.running f.act }

  -- where a core stands still and no task stands before a fault, every task is closed
  all_closed : IsStill k → AreKeyed k.tasks → IsFaultless k.tasks → (t : ℕ) (one : TreeTask) → slice_get k.tree.tasks t ≡ Some one → IsClosed one
  all_closed still keyed none t one e = go (progress (asks code) main first s (core_made core) core.setting.memory)
    where
      go : Outlook (asks code) main first s (core_made core) core.setting.memory → IsClosed one
      go (Outlook.finished f) =
          let x = (keeps_tasks core).there t one e in
          let c = f x.0 x.1 x.2.at_ in
          (x.2.ended.1 c.ended, x.2.gave_all.1 c.given)
      go (Outlook.moves_on m) = absurd (still_stopped core still m)
      go (Outlook.faulted p u at_ least x) =
          let y = fault_parts (act_now (asks code) u.body) x in
          let f = fault_of p u y.0 y.1 y.2 at_ y.3 in
          absurd (none f.number y.0 y.1 f.key (told_fault keyed y.0 y.1 y.2 f))

  -- and so every task is complete
  pub no_fault_complete : IsStill k → AreKeyed k.tasks → IsFaultless k.tasks → AreComplete k.tree.tasks
  no_fault_complete still keyed none = all_complete k.tree.tasks core.known.tree_is (all_closed still keyed none)

  -- the prints that a core keeps are those of its state
  pub keeps_prints : KeepsPrints (asks code) s core.done k.tree.prints
  keeps_prints = record { prints_are = core.prints_are; only = core.are_prints.only; all = core.are_prints.all; in_turn = λ e g p h. in_turn (asks code) e g p core.are_prints.time h }

  -- a fault that a core keeps with the least key is one of the state with the least key
  least_told : AreKeyed k.tasks → (v : ℕ) (kind : FaultKind) (line : ℕ) (key : List ℕ) → IsLeastFaultAt k.tasks v kind line key → IsLeastFault (asks code) s (unwritten key)
  least_told keyed v kind line key l q u row place other at_ e early =
      let f = fault_of q u row place other at_ e in
      let before : IsBefore (written other) (written (unwritten key)) = same early in
      l.least f.number row place f.key (told_fault keyed row place other f)
      (subst (λ (z : List ℕ). IsBefore f.key z) l.fault.keyed (subst (λ (z : List ℕ). IsBefore z (written (unwritten key))) (sym (key_written keyed row place other f)) before))

  -- the answer that a core tells where it stands still is one of its state
  pub answer_is : IsStill k → AreKeyed k.tasks → (a : Answer) → IsAnswerOf k a → IsAnswer (asks code) s a
  answer_is still keyed a (done {output = output} none out) =
      subst (λ (cells : List ℕ). IsAnswer (asks code) s (answers.Done output cells)) core.stands.cells_are
      (finished ((finished_law CodeScript (asks code) s k.tree.tasks (keeps_tasks core)).0 (no_fault_complete still keyed none))
      (output_law CodeScript (asks code) s core.done k.tree.prints output keeps_prints out))
  answer_is still keyed a (fault v {kind = kind} {line = line} {key = key} {output = output} least out) =
      let f = least.fault in
      let b = body_of core v f.held f.is in
      let r = core.stands.there v b.body b.at_ in
      faulted b.body.start.path r.0 r.1 (ap (λ (x : Body CodeScript). act_now (asks code) x) r.2 ∙ sym (b.is_held.body_is.act f.running) ∙ ap act_seen f.act) (least_told keyed v kind line key least)
      (output_before_law CodeScript (asks code) s core.done k.tree.prints (unwritten key) output keeps_prints (subst (λ (z : List ℕ). IsOutput (up_to z k.tree.prints) output) (sym f.keyed) out))
