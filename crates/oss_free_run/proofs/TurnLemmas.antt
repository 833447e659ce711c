-- Each turn of the kept stage is one of the free run.
use Rattle.std.proofs.Common.{◌≡◌, ℕ, ◌+◌, ◌-◌, ◌≤◌, refl, sym, subst, ap, ◌∙◌, List, [], ◌∷◌, ◌++◌, length, arith, Bool, true, false}
use Rattle.std.specs.Prelude.{◌||◌, if◌then◌else◌, map, reverse}
use Rattle.std.proofs.lemmas.List.{length-reverse, reverse-append}
use Rattle.oss_syntax.specs.declared.fault.FaultKind.{FaultKind}
use Rattle.oss_model.specs.Bodies.{Act, Ask, Frame, IsHalt, Order, after_creation, ask_of, child_frame, frame_after, including_frame, settled_frame, start_frame}
use Rattle.oss_model.specs.Bodies.Act.{Awaited, Created, Ended, Fault, Ticked}
use Rattle.oss_model.specs.Moves.{act_now, found_by}
use Rattle.oss_model.proofs.TerminationTheorem.{after_depth}
use Rattle.oss_code.specs.declared.code.CodeParts.{CodeParts}
use Rattle.oss_machine.specs.Frames.{CodeScript}
use Rattle.oss_machine.specs.Machines.{asks}
use Rattle.oss_freed.specs.Freed.{freed_order}
use Rattle.oss_free_tasks.specs.declared.deed.Deed.{Deed}
use Rattle.oss_free_tasks.specs.declared.deed.Deed.TheVariants as deeds
use Rattle.oss_free_tasks.specs.Deeds.{IsDeed, IsFinding, cells_behind, free_deed}
use Rattle.oss_free_tasks.specs.OpenTasks.{AreNested, Begins, Ends, Goes, Leads, behind, behind_end, path_under, whole_task}
use Rattle.oss_free_tasks.proofs.DeedLemmas.{free_deeds_are_acts}
use Rattle.oss_free_tasks.proofs.FreeTurns.{led_await, led_created, led_end, led_found, led_included, led_tick}
use Rattle.oss_free_tasks.proofs.NestLemmas.{behind_nested, start_nested}
use Rattle.oss_free_tasks.proofs.OpenLemmas as opened
use Rattle.oss_free_tasks.proofs.OpenLemmas.{behind_plain}
use Rattle.oss_free_run.specs.declared.run.FreeRun.{FreeRun}
use Rattle.oss_free_run.specs.declared.run.Turned.{Turned}
use Rattle.oss_free_run.specs.declared.run.Turned.TheVariants as turned
use Rattle.oss_free_run.specs.declared.task.FreeTask.{FreeTask}
use Rattle.oss_free_run.specs.FreeTasks.{created_task, first_task, free_main, free_program, main_order, more_created, new_task, newest, resumed_task, seen, settled_task, went_on}
use Rattle.oss_free_run.specs.Stages.{IsBack, IsDown, IsFailed, IsFirstStage, IsNext, IsStage, IsTurned, IsUp}
use Rattle.oss_free_run.proofs.LeftLemmas.{free_lively, left_is, same_length}
use Rattle.oss_free_run.proofs.SeenLemmas.{answered_is, settled_is}

reversed : (rest : List FreeTask) (k : FreeTask) → reverse (rest ++ k ∷ []) ≡ k ∷ reverse rest
reversed rest k = reverse-append rest (k ∷ [])

-- numbers in the other order
append_one : (ks : List FreeTask) (k : FreeTask) → map newest (ks ++ k ∷ []) ≡ map newest ks ++ newest k ∷ []
append_one [] k = refl
append_one (x ∷ ks) k = ap (λ (ns : List ℕ). newest x ∷ ns) (append_one ks k)

reversed_numbers : (ks : List FreeTask) → reverse (map newest ks) ≡ map newest (reverse ks)
reversed_numbers [] = refl
reversed_numbers (k ∷ ks) =
    reverse-append (newest k ∷ []) (map newest ks) ∙ ap (λ (ns : List ℕ). ns ++ newest k ∷ []) (reversed_numbers ks)
    ∙ sym (ap (λ (ts : List FreeTask). map newest ts) (reverse-append (k ∷ []) ks) ∙ append_one (reverse ks) k)

module _ (code : CodeParts) (fuel : ℕ) where
  -- the path of the task that acts, by the numbers of the tasks that each of the others created last
  under_is : (older : List (Frame CodeScript)) → AreNested fuel older → path_under older ≡ map newest (map (seen code) older)
  under_is [] h = refl
  under_is (g ∷ rest) h = ap (λ (q : List ℕ). (g.context.created - 1) ∷ q) (h.0.path ∙ under_is rest h.1)

  pub path_is : (r : FreeRun) (s : IsStage code fuel r) (xs : List ℕ) → xs ≡ map newest r.above → reverse xs ≡ s.task.path
  path_is r s xs e =
      ap (λ (ns : List ℕ). reverse ns) e ∙ reversed_numbers r.above ∙ ap (λ (ks : List FreeTask). map newest ks) s.above
      ∙ sym (s.nested.0.path ∙ under_is s.older s.nested.1)

  -- the run at its beginning
  pub begun : (r : FreeRun) → length code.first ≤ 1048576 → r.fuel ≡ fuel → r.current ≡ first_task code → r.above ≡ [] → r.cells.items ≡ code.first → IsFirstStage code fuel r
  begun r few f c a m =
      let b : Begins (free_program code) (free_main code fuel) code.first (settled_frame (free_program code) (start_frame (free_program code) (free_main code fuel)) ∷ []) r.cells.items =
      subst (λ (x : List ℕ). Begins (free_program code) (free_main code fuel) code.first (settled_frame (free_program code) (start_frame (free_program code) (free_main code fuel)) ∷ []) x) (sym m)
      (opened.begins (free_program code) (free_main code fuel) code.first refl) in
      record {
        stage = record {
          few = few;
          task = settled_frame (free_program code) (start_frame (free_program code) (free_main code fuel));
          older = [];
          stands = b.stands;
          nested = start_nested (free_program code) fuel (free_main code fuel) refl refl refl;
          fuel_is = f;
          current = settled_is code (start_frame (free_program code) (free_main code fuel)) 0 r.current refl c;
          above = ap (λ (ks : List FreeTask). reverse ks) a;
        };
        opens = b.opens;
      }

  module _ (r : FreeRun) (s : IsStage code fuel r) where
    pub depth_is : length r.above ≡ length s.older
    depth_is = sym (length-reverse r.above) ∙ ap (λ (ts : List FreeTask). length ts) s.above ∙ same_length code s.older

    task_depth : s.task.context.depth ≡ length r.above
    task_depth = s.nested.0.depth ∙ sym depth_is

    asked_is : r.current.machine.stands.asked.ask ≡ (ask_of (asks code) s.task).ask
    asked_is = ap (λ (k : FreeTask). k.machine.stands.asked.ask) s.current

    -- the deed is that of the task
    pub deed_is : (d : Deed)
        → d ≡ free_deed (length code.first) r.fuel (length r.above) r.current.ticks r.current.created r.current.awaits r.cells.items r.current.machine.stands.asked.ask r.current.machine.stands.asked.line
        → IsDeed (length code.first) s.task (act_now (free_program code) s.stands.body) (ask_of (asks code) s.task).ask r.cells.items d
    deed_is d e =
        let a = free_deeds_are_acts CodeScript (asks code) main_order code.first fuel s.task s.older r.cells.items s.few s.stands in
        let k : d ≡ free_deed (length code.first) s.task.context.fuel s.task.context.depth s.task.context.ticks s.task.context.created s.task.awaits r.cells.items (ask_of (asks code) s.task).ask (ask_of (asks code) s.task).line =
        e
        ∙ ap (λ (k : FreeTask). free_deed (length code.first) r.fuel (length r.above) k.ticks k.created k.awaits r.cells.items k.machine.stands.asked.ask k.machine.stands.asked.line) s.current
        ∙ ap (λ (x : ℕ). free_deed (length code.first) x (length r.above) s.task.context.ticks s.task.context.created s.task.awaits r.cells.items (ask_of (asks code) s.task).ask (ask_of (asks code) s.task).line) (s.fuel_is ∙ sym s.nested.0.fuel_is)
        ∙ ap (λ (x : ℕ). free_deed (length code.first) s.task.context.fuel x s.task.context.ticks s.task.context.created s.task.awaits r.cells.items (ask_of (asks code) s.task).ask (ask_of (asks code) s.task).line) (sym task_depth) in
        subst (λ (x : Deed). IsDeed (length code.first) s.task (act_now (free_program code) s.stands.body) (ask_of (asks code) s.task).ask r.cells.items x) (sym k) a

    -- the same where these numbers are those
    pub deed_from : (d : Deed) (count depth : ℕ) (cells : List ℕ) → count ≡ length code.first → depth ≡ length r.above → cells ≡ r.cells.items
        → d ≡ free_deed count r.fuel depth r.current.ticks r.current.created r.current.awaits cells r.current.machine.stands.asked.ask r.current.machine.stands.asked.line
        → IsDeed (length code.first) s.task (act_now (free_program code) s.stands.body) (ask_of (asks code) s.task).ask r.cells.items d
    deed_from d count depth cells e f g h =
        deed_is d (h ∙ (λ i. free_deed (e i) r.fuel (f i) r.current.ticks r.current.created r.current.awaits (g i) r.current.machine.stands.asked.ask r.current.machine.stands.asked.line))

    abbrev Behind : List (Frame CodeScript)
    Behind = behind (free_program code) (act_now (free_program code) s.stands.body) (found_by (act_now (free_program code) s.stands.body) r.cells.items) (s.task ∷ s.older)

    abbrev Behind_of : Act CodeScript → List (Frame CodeScript)
    Behind_of a = behind (free_program code) a (found_by a r.cells.items) (s.task ∷ s.older)

    module _ (n : FreeRun) (fuel_same : n.fuel ≡ r.fuel) where
      -- the stage at which these tasks are open
      next_stage : (task : Frame CodeScript) (older : List (Frame CodeScript)) (cells : List ℕ) → Goes (free_program code) (free_main code fuel) code.first s.stands.stage (s.task ∷ s.older) (task ∷ older) cells
          → Behind ≡ task ∷ older → n.cells.items ≡ cells → n.current ≡ seen code task → reverse n.above ≡ map (seen code) older → IsNext code fuel r s n
      next_stage task older cells goes b m c a =
          let g : Goes (free_program code) (free_main code fuel) code.first s.stands.stage (s.task ∷ s.older) (task ∷ older) n.cells.items =
          subst (λ (x : List ℕ). Goes (free_program code) (free_main code fuel) code.first s.stands.stage (s.task ∷ s.older) (task ∷ older) x) (sym m) goes in
          let st : IsStage code fuel n = record {
            few = s.few;
            task = task;
            older = older;
            stands = g.stands;
            nested = subst (λ (ts : List (Frame CodeScript)). AreNested fuel ts) b (behind_nested (free_program code) fuel (act_now (free_program code) s.stands.body) (found_by (act_now (free_program code) s.stands.body) r.cells.items) (s.task ∷ s.older) s.nested);
            fuel_is = fuel_same ∙ s.fuel_is;
            current = c;
            above = a;
          } in
          let x = left_is code fuel n st in
          let y = left_is code fuel r s in
          let l = g.less (free_lively code) in
          record { stage = st; runs = g.runs; tasks = b; less = omega (arith, x, y, l) }

      -- the task goes on
      next_first : (g : Frame CodeScript) (cells : List ℕ) → Goes (free_program code) (free_main code fuel) code.first s.stands.stage (s.task ∷ s.older) (settled_frame (free_program code) g ∷ s.older) cells
          → Behind ≡ settled_frame (free_program code) g ∷ s.older → g.context.depth ≡ s.task.context.depth → (depth : ℕ) → depth ≡ length r.above → n.current ≡ settled_task code depth (seen code g) → n.above ≡ r.above → n.cells.items ≡ cells → IsNext code fuel r s n
      next_first g cells goes b d depth de c a m =
          next_stage (settled_frame (free_program code) g) s.older cells goes b m (settled_is code g depth n.current (d ∙ task_depth ∙ sym de) c) (ap (λ (ks : List FreeTask). reverse ks) a ∙ s.above)

      pub turn_tick : act_now (free_program code) s.stands.body ≡ Ticked → (depth : ℕ) → depth ≡ length r.above → n.current ≡ settled_task code depth (went_on code 0 (record (r.current) { ticks = r.current.ticks + 1 })) → n.above ≡ r.above → n.cells.items ≡ r.cells.items
          → IsNext code fuel r s n
      turn_tick e depth de c a m =
          next_first (frame_after Ticked 0 s.task) r.cells.items (led_tick (free_program code) (free_main code fuel) code.first s.task s.older r.cells.items s.stands e) (ap Behind_of e) refl depth de
          (c ∙ ap (λ (k : FreeTask). settled_task code depth (went_on code 0 (record k { ticks = k.ticks + 1 }))) s.current) a m

      pub turn_await : act_now (free_program code) s.stands.body ≡ Awaited → (depth : ℕ) → depth ≡ length r.above → n.current ≡ settled_task code depth (record (r.current) { awaits = false }) → n.above ≡ r.above → n.cells.items ≡ r.cells.items → IsNext code fuel r s n
      turn_await e depth de c a m =
          next_first (frame_after Awaited 0 s.task) r.cells.items (led_await (free_program code) (free_main code fuel) code.first s.task s.older r.cells.items s.stands e) (ap Behind_of e) refl depth de
          (c ∙ ap (λ (k : FreeTask). settled_task code depth (record k { awaits = false })) s.current) a m

      pub turn_found : (v : ℕ) → IsFinding s.task (act_now (free_program code) s.stands.body) (ask_of (asks code) s.task).ask r.cells.items v → (depth : ℕ) → depth ≡ length r.above → n.current ≡ settled_task code depth (went_on code v r.current) → n.above ≡ r.above
          → n.cells.items ≡ cells_behind r.current.machine.stands.asked.ask r.cells.items → IsNext code fuel r s n
      turn_found v h depth de c a m =
          let b : Behind ≡ settled_frame (free_program code) (frame_after (act_now (free_program code) s.stands.body) v s.task) ∷ s.older =
          behind_plain (free_program code) (free_main code fuel) code.first (act_now (free_program code) s.stands.body) (found_by (act_now (free_program code) s.stands.body) r.cells.items) s.task s.older h.stays h.alone
          ∙ ap (λ (x : ℕ). settled_frame (free_program code) (frame_after (act_now (free_program code) s.stands.body) x s.task) ∷ s.older) h.found in
          next_first (frame_after (act_now (free_program code) s.stands.body) v s.task) (cells_behind (ask_of (asks code) s.task).ask r.cells.items)
          (led_found (free_program code) (free_main code fuel) code.first s.task s.older r.cells.items s.stands (ask_of (asks code) s.task).ask v h) b (after_depth (act_now (free_program code) s.stands.body) v s.task) depth de
          (c ∙ ap (λ (k : FreeTask). settled_task code depth (went_on code v k)) s.current ∙ ap (λ (t : FreeTask). settled_task code depth t) (sym (answered_is code s.task (frame_after (act_now (free_program code) s.stands.body) v s.task) v h.after))) a
          (m ∙ ap (λ (q : Ask CodeScript). cells_behind q r.cells.items) asked_is)

      -- the task creates one
      module _ (o : Order CodeScript) (is : (ask_of (asks code) s.task).ask ≡ Ask.Create o) (calm : s.task.awaits ≡ false) (down : IsDown code r n) where
        child : n.current ≡ settled_task code (length r.above + 1) (seen code (child_frame s.task (freed_order (length code.first) o)))
        child = down.child o (asked_is ∙ is) ∙ ap (λ (b : Bool). settled_task code (length r.above + 1) (new_task code (b || o.last) o.script)) (ap (λ (k : FreeTask). k.last) s.current)

        child_is : n.current ≡ seen code (settled_frame (free_program code) (child_frame s.task (freed_order (length code.first) o)))
        child_is = settled_is code (child_frame s.task (freed_order (length code.first) o)) (length r.above + 1) n.current (ap (λ (d : ℕ). d + 1) task_depth) child

        stack : (g : Frame CodeScript) → created_task code (length r.above) r.current ≡ seen code g → reverse n.above ≡ map (seen code) (g ∷ s.older)
        stack g e =
            ap (λ (ks : List FreeTask). reverse ks) down.above ∙ reversed r.above (created_task code (length r.above) r.current)
            ∙ ap (λ (k : FreeTask). k ∷ reverse r.above) e ∙ ap (λ (ks : List FreeTask). seen code g ∷ ks) s.above

        seen_last : (b : Bool) → s.task.context.final ≡ b → created_task code (length r.above) r.current ≡ (if b then went_on code 0 (more_created (seen code s.task)) else settled_task code (length r.above) (record (went_on code 0 (more_created (seen code s.task))) { awaits = true }))
        seen_last b e =
            ap (λ (t : FreeTask). created_task code (length r.above) t) s.current
            ∙ ap (λ (x : Bool). if x then went_on code 0 (more_created (seen code s.task)) else settled_task code (length r.above) (record (went_on code 0 (more_created (seen code s.task))) { awaits = true })) e

        included : act_now (free_program code) s.stands.body ≡ Created (freed_order (length code.first) o) true → s.task.context.final ≡ true → IsNext code fuel r s n
        included e l =
            next_stage (settled_frame (free_program code) (child_frame s.task (freed_order (length code.first) o))) (including_frame (freed_order (length code.first) o) s.task ∷ s.older) r.cells.items
            (led_included (free_program code) (free_main code fuel) code.first s.task s.older r.cells.items s.stands (freed_order (length code.first) o) e) (ap Behind_of e) down.beside.cells child_is
            (stack (including_frame (freed_order (length code.first) o) s.task) (seen_last true l))

        created : act_now (free_program code) s.stands.body ≡ Created (freed_order (length code.first) o) false → s.task.context.final ≡ false → IsNext code fuel r s n
        created e l =
            next_stage (settled_frame (free_program code) (child_frame s.task (freed_order (length code.first) o))) (settled_frame (free_program code) (after_creation (freed_order (length code.first) o) s.task) ∷ s.older) r.cells.items
            (led_created (free_program code) (free_main code fuel) code.first s.task s.older r.cells.items s.stands (freed_order (length code.first) o) e) (ap Behind_of e) down.beside.cells child_is
            (stack (settled_frame (free_program code) (after_creation (freed_order (length code.first) o) s.task))
            (settled_is code (after_creation (freed_order (length code.first) o) s.task) (length r.above) (created_task code (length r.above) r.current) task_depth (seen_last false l)))

        either : (b : Bool) → act_now (free_program code) s.stands.body ≡ Created (freed_order (length code.first) o) b → s.task.context.final ≡ b → IsNext code fuel r s n
        either true e l = included e l
        either false e l = created e l

      pub turn_down : IsDeed (length code.first) s.task (act_now (free_program code) s.stands.body) (ask_of (asks code) s.task).ask r.cells.items deeds.Creates → IsDown code r n → IsNext code fuel r s n
      turn_down (o, is, e, calm) down = either o is calm down s.task.context.final e refl

    -- the task has ended, and this one goes on
    back_to : (n : FreeRun) → IsBack code r n → (g : Frame CodeScript) (rest : List (Frame CodeScript)) → reverse n.above ≡ map (seen code) rest → g.context.depth ≡ length n.above → n.current ≡ resumed_task code (length n.above) (seen code g)
        → Leads (free_program code) (free_main code fuel) code.first s.stands.stage (s.task ∷ s.older) (behind_end (free_program code) (g ∷ rest)) r.cells.items → Behind ≡ behind_end (free_program code) (g ∷ rest) → IsNext code fuel r s n
    back_to n back g rest ks d c goes b =
        next_stage n back.beside.fuel_is (if g.context.final then settled_frame (free_program code) g else g) rest r.cells.items goes b back.beside.cells (chosen g.context.final refl) ks
      where
        chosen : (x : Bool) → g.context.final ≡ x → n.current ≡ seen code (if g.context.final then settled_frame (free_program code) g else g)
        chosen true y =
            subst (λ (z : Bool). n.current ≡ seen code (if z then settled_frame (free_program code) g else g)) (sym y)
            (settled_is code g (length n.above) n.current d (c ∙ ap (λ (z : Bool). if z then settled_task code (length n.above) (seen code g) else seen code g) y))
        chosen false y =
            subst (λ (z : Bool). n.current ≡ seen code (if z then settled_frame (free_program code) g else g)) (sym y)
            (c ∙ ap (λ (z : Bool). if z then settled_task code (length n.above) (seen code g) else seen code g) y)

    waiting_is : (n : FreeRun) → (back : IsBack code r n) → (older : List (Frame CodeScript)) → s.older ≡ older → back.creator ∷ reverse n.above ≡ map (seen code) older
    waiting_is n back older o =
        sym (reversed n.above back.creator) ∙ sym (ap (λ (ks : List FreeTask). reverse ks) back.above) ∙ s.above ∙ ap (λ (fs : List (Frame CodeScript)). map (seen code) fs) o

    goes_up : (n : FreeRun) → IsBack code r n → (older : List (Frame CodeScript)) → s.older ≡ older → act_now (free_program code) s.stands.body ≡ Ended
        → Leads (free_program code) (free_main code fuel) code.first s.stands.stage (s.task ∷ s.older) (behind_end (free_program code) s.older) r.cells.items → IsNext code fuel r s n
    goes_up n back [] o e l = let x : back.creator ∷ reverse n.above ≡ [] = waiting_is n back [] o in absurd cc
    goes_up n back (g ∷ rest) o e l =
        let x : back.creator ∷ reverse n.above ≡ seen code g ∷ map (seen code) rest = waiting_is n back (g ∷ rest) o in
        let k : back.creator ≡ seen code g = cc in
        let ks : reverse n.above ≡ map (seen code) rest = cc in
        let h : AreNested fuel (g ∷ rest) = subst (λ (ts : List (Frame CodeScript)). AreNested fuel ts) o s.nested.1 in
        let y = length-reverse n.above in
        let w = ap (λ (ts : List FreeTask). length ts) ks in
        let z = same_length code rest in
        let d : g.context.depth ≡ length n.above = h.0.depth ∙ sym (sym y ∙ w ∙ z) in
        let c : n.current ≡ resumed_task code (length n.above) (seen code g) = back.current ∙ ap (λ (t : FreeTask). resumed_task code (length n.above) t) k in
        let goes : Leads (free_program code) (free_main code fuel) code.first s.stands.stage (s.task ∷ s.older) (behind_end (free_program code) (g ∷ rest)) r.cells.items =
        subst (λ (ts : List (Frame CodeScript)). Leads (free_program code) (free_main code fuel) code.first s.stands.stage (s.task ∷ s.older) (behind_end (free_program code) ts) r.cells.items) o l in
        let b : Behind ≡ behind_end (free_program code) (g ∷ rest) = ap Behind_of e ∙ ap (λ (ts : List (Frame CodeScript)). behind_end (free_program code) ts) o in
        back_to n back g rest ks d c goes b

    main_ends : (older : List (Frame CodeScript)) (n : FreeRun) → s.older ≡ older → r.above ≡ [] → n.cells.items ≡ r.cells.items
        → Leads (free_program code) (free_main code fuel) code.first s.stands.stage (s.task ∷ s.older) (behind_end (free_program code) s.older) r.cells.items → Ends (free_program code) (free_main code fuel) code.first s.stands.stage n.cells.items
    main_ends [] n o a m l =
        subst (λ (x : List ℕ). Ends (free_program code) (free_main code fuel) code.first s.stands.stage x) (sym m)
        (subst (λ (ts : List (Frame CodeScript)). Leads (free_program code) (free_main code fuel) code.first s.stands.stage (s.task ∷ s.older) (behind_end (free_program code) ts) r.cells.items) o l)
    main_ends (g ∷ rest) n o a m l =
        let x : [] ≡ seen code g ∷ map (seen code) rest = sym (ap (λ (ks : List FreeTask). reverse ks) a) ∙ s.above ∙ ap (λ (fs : List (Frame CodeScript)). map (seen code) fs) o in
        absurd cc

    pub turn_up : (n : FreeRun) (t : Turned) → act_now (free_program code) s.stands.body ≡ Ended → IsUp code r n t → IsTurned code fuel r s n t
    turn_up n turned.On e up = goes_up n up s.older refl e (led_end (free_program code) (free_main code fuel) code.first s.task s.older r.cells.items s.stands e)
    turn_up n turned.Ended e up = main_ends s.older n refl up.1 up.0.cells (led_end (free_program code) (free_main code fuel) code.first s.task s.older r.cells.items s.stands e)
    turn_up n (turned.Failed kind line) e up = absurd up

    pub turn_stop : (n : FreeRun) (kind : FaultKind) (line : ℕ) → n ≡ r → (key : List ℕ) × (act_now (free_program code) s.stands.body ≡ Fault kind line key) → IsFailed code fuel r s n kind line
    turn_stop n kind line same (key, e) = record { key = key; end = record { task = whole_task s.stands.body; at_ = s.stands.at_; stops = subst IsHalt (sym e) tt }; fault = e; stays = same }
