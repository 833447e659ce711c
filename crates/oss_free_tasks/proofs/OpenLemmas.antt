-- Each act of the sequential run is a turn of the open tasks.
use Rattle.std.proofs.Common.{◌≡◌, ◌≢◌, ℕ, ◌+◌, refl, sym, subst, ap, ◌∙◌, List, [], ◌∷◌, ◌++◌, Bool, true, false, Some}
use Rattle.std.specs.Prelude.{if◌then◌else◌}
use Rattle.oss_model.specs.Order.{IsSuffix, whole, longer, here, there}
use Rattle.oss_model.specs.Context.{right_of}
use Rattle.oss_model.specs.Bodies.{Act, Body, Frame, IsHalt, Order, Program, Stack, Start, after_creation, base_after, child_frame, child_start, frame_act, frame_after, including_frame, inner_after, settled_frame, settled_parts, settled_stack, stack_from, start_frame}
use Rattle.oss_model.specs.Bodies.Act.{Created, Ended, Over}
use Rattle.oss_model.specs.Machine.{At, Task}
use Rattle.oss_model.specs.Moves.{act_now, after_answer, created_now, found_by, is_ended, new_task, opening}
use Rattle.oss_model.specs.Potential.{potential, shares}
use Rattle.oss_model.specs.Sequence.{IsAtEnd, Running, RunsOn, Sequential, active_after, direct_cells, opens, path_above, runs_on}
use Rattle.oss_model.specs.Termination.{IsLively}
use Rattle.oss_model.proofs.BodyLemmas.{StackOk, base_created, frame_after_kept, settle_kept, stack_ok}
use Rattle.oss_model.proofs.StageLemmas.{creating}
use Rattle.oss_model.proofs.TreeLemmas.{at_same, over_stops, path_found}
use Rattle.oss_model.proofs.SequenceLemmas.{opening_main}
use Rattle.oss_model.proofs.RunLemmas.{AboveSame, above_next, next, no_creation_path}
use Rattle.oss_model.proofs.TerminationTheorem.{Kind, act_at, active_down, active_stay, active_up, creates, halts, kind, last_act, next_at, plain, start_at}
use Rattle.oss_free_tasks.specs.OpenTasks.{AreWaiting, Begins, Ends, Goes, IsCreator, Leads, Stands, answered, behind, whole_task}
use Rattle.oss_free_tasks.specs.Claims.{OpenTasksGoOn}
use Rattle.oss_free_tasks.proofs.ShareLemmas.{down_less, end_less, on_less, open_share}

shorter : {x : ℕ} {xs ys : List ℕ} → IsSuffix (x ∷ xs) ys → IsSuffix xs ys
shorter whole = longer whole
shorter (longer s) = longer (shorter s)

chosen : {A : Type 0} (b : Bool) (x y : A) → b ≡ true → (if b then x else y) ≡ x
chosen b x y e = rw e refl

other : {A : Type 0} (b : Bool) (x y : A) → b ≡ false → (if b then x else y) ≡ y
other b x y e = rw e refl

module _ {S : Type 0} (P : Program S) (main : Start S) (first : List ℕ) where
  -- those that wait go on waiting
  waits_stay : (z y : Running S) → AboveSame z y → (older : List (Frame S)) (p : List ℕ) → IsSuffix p z.active → AreWaiting P z.state older p → AreWaiting P y.state older p
  waits_stay z y same [] p s w = w
  waits_stay z y same (f ∷ older) p s (c, w) =
      let g : IsSuffix (c.number ∷ c.body.start.path) z.active = subst (λ (q : List ℕ). IsSuffix q z.active) c.path_is s in
      (record { body = c.body; number = c.number; path_is = c.path_is; at_ = same c.body.start.path c.number (whole_task c.body) g c.at_; stack = c.stack; goes = c.goes }, waits_stay z y same older c.body.start.path (shorter g) w)

  -- the stage behind an act of this body
  record Went (z : Running S) (b : Body S) (older : List (Frame S)) (cells : List ℕ) : Type 0 where
    stage : Running S
    runs : RunsOn P z stage
    run : Sequential P main first stage
    cells_are : stage.state.cells ≡ direct_cells (act_now P b) cells
    own : At stage.state z.active (whole_task (answered (found_by (act_now P b) cells) b))
    path : z.active ≡ b.start.path
    active : stage.active ≡ active_after P (whole_task b) z.active (found_by (act_now P b) cells) (act_now P b)
    made : (o : Order S) → act_now P b ≡ Created o false → At stage.state (created_now P b ∷ z.active) (new_task P b o)
    waiting : AreWaiting P stage.state older b.start.path
    alive : IsHalt (act_now P b) → ⊥

  went : (z : Running S) (b : Body S) (older : List (Frame S)) (cells : List ℕ) → Sequential P main first z → z.state.cells ≡ cells → At z.state z.active (whole_task b) → AreWaiting P z.state older b.start.path
      → (IsHalt (act_now P b) → ⊥) → Went z b older cells
  went z b older cells run c at_ w g =
      let n = next P z (whole_task b) at_ g in
      let one : n.runs.task ≡ whole_task b = at_same z.state z.active n.runs.task (whole_task b) n.runs.at_ at_ in
      let p : b.start.path ≡ z.active = path_found z.state.tasks z.active (whole_task b) at_ in
      record {
        stage = n.stage;
        runs = n.runs;
        run = runs_on run n.runs;
        cells_are = n.runs.cells ∙ ap (λ (x : Task S). direct_cells (act_now P x.body) z.state.cells) one ∙ ap (λ (x : List ℕ). direct_cells (act_now P b) x) c;
        own = n.own ∙ ap (λ (x : List ℕ). Some (after_answer (found_by (act_now P b) x) (whole_task b))) c;
        path = sym p;
        active = n.active ∙ ap (λ (x : List ℕ). active_after P (whole_task b) z.active (found_by (act_now P b) x) (act_now P b)) c;
        made = n.made;
        waiting = waits_stay z n.stage (above_next P z n.stage n.runs) older b.start.path (subst (λ (q : List ℕ). IsSuffix q z.active) (sym p) whole) w;
        alive = g;
      }

  -- what is left before the act
  abbrev Had : List (Frame S) → Body S → List (Frame S) → Type 0
  Had before b older = (lively : IsLively P) → shares lively before ≡ potential lively b + shares lively older

  -- The body goes on.
  stays : (z : Running S) (b : Body S) (older before : List (Frame S)) (cells : List ℕ) → Went z b older cells → Had before b older → (base : Frame S) (inner tasks : List (Frame S))
      → ((o : Order S) → act_now P b ≢ Created o false) → stack_from P b.start (found_by (act_now P b) cells ∷ b.found) ≡ record { base = base; inner = inner; ended = false } → tasks ≡ inner ++ (base ∷ older)
      → Goes P main first z before tasks (direct_cells (act_now P b) cells)
  stays z b older before cells w had base inner tasks n s e =
      let v = found_by (act_now P b) cells in
      let a : w.stage.active ≡ z.active = w.active ∙ active_stay P (whole_task b) z.active (found_by (act_now P b) cells) n (ap (λ (x : Stack S). x.ended) s) in
      record {
        stands = record {
          stage = w.stage;
          run = w.run;
          cells_are = w.cells_are;
          body = answered (found_by (act_now P b) cells) b;
          at_ = subst (λ (q : List ℕ). At w.stage.state q (whole_task (answered (found_by (act_now P b) cells) b))) (sym a) w.own;
          base = base;
          inner = inner;
          older = older;
          stack = s;
          parts = e;
          waiting = w.waiting;
        };
        runs = w.runs;
        less = λ lively. on_less lively b (found_by (act_now P b) cells) older before tasks w.alive n (had lively) (open_share lively (answered (found_by (act_now P b) cells) b) base inner older tasks s e);
      }

  -- The body has ended, and its creator goes on.
  goes_up : (z : Running S) (b : Body S) (f : Frame S) (older before : List (Frame S)) (cells : List ℕ) → Went z b (f ∷ older) cells → Had before b (f ∷ older)
      → ((o : Order S) → act_now P b ≢ Created o false) → is_ended P (answered (found_by (act_now P b) cells) b) ≡ true → Goes P main first z before (f ∷ older) (direct_cells (act_now P b) cells)
  goes_up z b f older before cells w had n e = up w.waiting
    where
      up : AreWaiting P w.stage.state (f ∷ older) b.start.path → Goes P main first z before (f ∷ older) (direct_cells (act_now P b) cells)
      up (c, ws) =
          let a : w.stage.active ≡ c.body.start.path = w.active ∙ active_up P (whole_task b) z.active (found_by (act_now P b) cells) n e ∙ ap path_above (w.path ∙ c.path_is) in
          record {
            stands = record {
              stage = w.stage;
              run = w.run;
              cells_are = w.cells_are;
              body = c.body;
              at_ = subst (λ (q : List ℕ). At w.stage.state q (whole_task c.body)) (sym a) c.at_;
              base = f;
              inner = [];
              older = older;
              stack = c.stack;
              parts = refl;
              waiting = ws;
            };
            runs = w.runs;
            less = λ lively. end_less lively b (f ∷ older) before w.alive n (had lively);
          }

  -- Main has ended.
  ends_all : (z : Running S) (b : Body S) (cells : List ℕ) → Went z b [] cells → ((o : Order S) → act_now P b ≢ Created o false) → is_ended P (answered (found_by (act_now P b) cells) b) ≡ true
      → Ends P main first z (direct_cells (act_now P b) cells)
  ends_all z b cells w n e =
      let m : z.active ≡ [] = w.path ∙ w.waiting in
      let a : w.stage.active ≡ [] = w.active ∙ active_up P (whole_task b) z.active (found_by (act_now P b) cells) n e ∙ ap path_above m in
      let over : act_now P (answered (found_by (act_now P b) cells) b) ≡ Over = over_stops P b.start (found_by (act_now P b) cells ∷ b.found) e in
      let end : IsAtEnd P w.stage = record {
        task = whole_task (answered (found_by (act_now P b) cells) b);
        at_ = subst (λ (q : List ℕ). At w.stage.state q (whole_task (answered (found_by (act_now P b) cells) b))) (m ∙ sym a) w.own;
        stops = subst IsHalt (sym over) tt;
      } in
      record { stage = w.stage; run = w.run; runs = w.runs; end = end; over = over; cells_are = w.cells_are }

  -- the frame with which a new task begins
  new_stack : (b : Body S) (base : Frame S) (o : Order S) → stack_from P b.start b.found ≡ record { base = base; inner = []; ended = false }
      → stack_from P (new_task P b o).body.start [] ≡ record { base = settled_frame P (child_frame base o); inner = []; ended = false }
  unfolding child_start
  new_stack b base o s = start_at P (new_task P b o).body.start ∙ ap (λ (x : Stack S). record { base = settled_frame P (child_frame x.base o); inner = []; ended = false }) s

  -- The body creates a task, which runs.
  goes_down : (z : Running S) (b : Body S) (older before : List (Frame S)) (cells : List ℕ) → Went z b older cells → Had before b older → (base : Frame S) (o : Order S) → act_now P b ≡ Created o false
      → stack_from P b.start b.found ≡ record { base = base; inner = []; ended = false }
      → stack_from P b.start (found_by (act_now P b) cells ∷ b.found) ≡ record { base = settled_frame P (after_creation o base); inner = []; ended = false } → base.context.final ≡ false
      → Goes P main first z before (settled_frame P (child_frame base o) ∷ settled_frame P (after_creation o base) ∷ older) (direct_cells (act_now P b) cells)
  goes_down z b older before cells w had base o a s k open_ =
      let d : w.stage.active ≡ created_now P b ∷ z.active = w.active ∙ active_down P (whole_task b) z.active (found_by (act_now P b) cells) o a in
      let p : (new_task P b o).body.start.path ≡ created_now P b ∷ b.start.path = no_creation_path P b.start b.found o in
      let ns = new_stack b base o s in
      let creator : IsCreator P w.stage.state (settled_frame P (after_creation o base)) (new_task P b o).body.start.path = record {
        body = answered (found_by (act_now P b) cells) b;
        number = created_now P b;
        path_is = p;
        at_ = subst (λ (q : List ℕ). At w.stage.state q (whole_task (answered (found_by (act_now P b) cells) b))) w.path w.own;
        stack = k;
        goes = (settle_kept P (after_creation o base)).final ∙ (frame_after_kept (Created o false) 0 base).final ∙ open_;
      } in
      record {
        stands = record {
          stage = w.stage;
          run = w.run;
          cells_are = w.cells_are;
          body = (new_task P b o).body;
          at_ = subst (λ (q : List ℕ). At w.stage.state q (new_task P b o)) (sym d) (w.made o a);
          base = settled_frame P (child_frame base o);
          inner = [];
          older = settled_frame P (after_creation o base) ∷ older;
          stack = ns;
          parts = refl;
          waiting = (creator, w.waiting);
        };
        runs = w.runs;
        less = λ lively. down_less lively b (found_by (act_now P b) cells) o (settled_frame P (child_frame base o)) (settled_frame P (after_creation o base)) older before a (had lively) ns k;
      }

  pub behind_plain : (a : Act S) (v : ℕ) (f : Frame S) (rest : List (Frame S)) → a ≢ Ended → ((o : Order S) (i : Bool) → a ≢ Created o i) → behind P a v (f ∷ rest) ≡ settled_frame P (frame_after a v f) ∷ rest
  behind_plain Ended v f rest e c = absurd (e refl)
  behind_plain (Created o i) v f rest e c = absurd (c o i refl)
  behind_plain _ v f rest e c = refl

  module _ (z : Running S) (b : Body S) (base : Frame S) (older before : List (Frame S)) (cells : List ℕ) (had : Had before b older) where
    -- what an act leads to, where the act is this one
    abbrev Led : List (Frame S) → Act S → Type 0
    Led tasks a = Leads P main first z before (behind P a (found_by (act_now P b) cells) tasks) (direct_cells (act_now P b) cells)

    led : (tasks : List (Frame S)) (a : Act S) → act_now P b ≡ a → Led tasks a → Led tasks (act_now P b)
    led tasks a e l = subst (λ (x : Act S). Led tasks x) (sym e) l

    led_on : (f : Frame S) (rest tasks : List (Frame S)) (a : Act S) → behind P a (found_by (act_now P b) cells) tasks ≡ f ∷ rest → Goes P main first z before (f ∷ rest) (direct_cells (act_now P b) cells) → Led tasks a
    led_on f rest tasks a e g = subst (λ (ts : List (Frame S)). Leads P main first z before ts (direct_cells (act_now P b) cells)) (sym e) g

    -- the own task of the body acts
    module _ (w : Went z b older cells) (s : stack_from P b.start b.found ≡ record { base = base; inner = []; ended = false }) where
      act_is : act_now P b ≡ frame_act P (right_of b.start.context) false base base.awaits
      act_is = act_at P b.start b.found base [] s

      after : (a : Act S) → act_now P b ≡ a → stack_from P b.start (found_by (act_now P b) cells ∷ b.found) ≡ settled_stack P (base_after a (found_by (act_now P b) cells) base)
      after a e = next_at P b.start b.found (found_by (act_now P b) cells) base [] s ∙ ap (λ (x : Act S). settled_stack P (base_after x (found_by (act_now P b) cells) base)) (sym act_is ∙ e)

      own_ends : (rest : List (Frame S)) → older ≡ rest → AreWaiting P w.stage.state older b.start.path → act_now P b ≡ Ended → Led (base ∷ older) Ended
      own_ends [] r ws e = subst (λ (ts : List (Frame S)). Led (base ∷ ts) Ended) (sym r) (ends_all z b cells (subst (λ (ts : List (Frame S)). Went z b ts cells) r w) (λ o h. let x : Ended ≡ Created o false = sym e ∙ h in cc) (ap (λ (x : Stack S). x.ended) (after Ended e)))
      own_ends (g ∷ rest) r ws e =
          let up = goes_up z b g rest before cells (subst (λ (ts : List (Frame S)). Went z b ts cells) r w) (subst (λ (ts : List (Frame S)). Had before b ts) r had) (λ o h. let x : Ended ≡ Created o false = sym e ∙ h in cc) (ap (λ (x : Stack S). x.ended) (after Ended e)) in
          let c = subst (λ (ts : List (Frame S)). AreWaiting P w.stage.state ts b.start.path) r ws in
          subst (λ (ts : List (Frame S)). Led (base ∷ ts) Ended) (sym r)
          (led_on g rest (base ∷ g ∷ rest) Ended (ap (λ (x : Frame S). x ∷ rest) (other g.context.final (settled_frame P g) g c.0.goes)) up)

      at_base : (a : Act S) → act_now P b ≡ a → Kind a → Led (base ∷ older) (act_now P b)
      at_base a e (halts h) = absurd (w.alive (subst IsHalt (sym e) h))
      at_base a e last_act = led (base ∷ older) Ended e (own_ends older refl w.waiting e)
      at_base a e (creates o false) =
          let k = base_created P (right_of b.start.context) base false o false (sym act_is ∙ e) in
          led (base ∷ older) (Created o false) e (goes_down z b older before cells w had base o e s (after (Created o false) e) (sym k.flag))
      at_base a e (creates o true) =
          led (base ∷ older) (Created o true) e
          (stays z b older before cells w had (including_frame o base) (settled_frame P (child_frame base o) ∷ []) (settled_frame P (child_frame base o) ∷ including_frame o base ∷ older) (λ o2 h. let x : Created o true ≡ Created o2 false = sym e ∙ h in cc) (after (Created o true) e) refl)
      at_base a e (plain ne nc ng eb ei) =
          let v = found_by (act_now P b) cells in
          led (base ∷ older) a e
          (led_on (settled_frame P (frame_after a v base)) older (base ∷ older) a (behind_plain a v base older ne nc)
          (stays z b older before cells w had (settled_frame P (frame_after a v base)) [] (settled_frame P (frame_after a v base) ∷ older) (λ o h. nc o false (sym e ∙ h)) (after a e ∙ ap (λ (x : Stack S). settled_stack P x) (eb v base)) refl))

    -- an included task acts
    module _ (w : Went z b older cells) (f : Frame S) (fs : List (Frame S)) (s : stack_from P b.start b.found ≡ record { base = base; inner = f ∷ fs; ended = false }) where
      inner_act : act_now P b ≡ frame_act P (right_of b.start.context) true f f.awaits
      inner_act = act_at P b.start b.found base (f ∷ fs) s

      behind_inner : (a : Act S) → act_now P b ≡ a → stack_from P b.start (found_by (act_now P b) cells ∷ b.found) ≡ settled_stack P (inner_after a (found_by (act_now P b) cells) base f fs)
      behind_inner a e = next_at P b.start b.found (found_by (act_now P b) cells) base (f ∷ fs) s ∙ ap (λ (x : Act S). settled_stack P (inner_after x (found_by (act_now P b) cells) base f fs)) (sym inner_act ∙ e)

      sound : StackOk b.start.context b.start.path base (f ∷ fs)
      sound = subst (λ (x : Stack S). StackOk b.start.context b.start.path x.base x.inner) s (stack_ok P b.start b.found)

      inner_ends : (gs : List (Frame S)) → fs ≡ gs → act_now P b ≡ Ended → Led (f ∷ (fs ++ (base ∷ older))) Ended
      inner_ends [] r e =
          subst (λ (ts : List (Frame S)). Led (f ∷ (ts ++ (base ∷ older))) Ended) (sym r)
          (led_on (settled_frame P base) older (f ∷ base ∷ older) Ended (ap (λ (x : Frame S). x ∷ older) (chosen base.context.final (settled_frame P base) base (sound.inner f here).owner))
          (stays z b older before cells w had (settled_frame P base) [] (settled_frame P base ∷ older) (λ o h. let x : Ended ≡ Created o false = sym e ∙ h in cc)
          (behind_inner Ended e ∙ ap (λ (ts : List (Frame S)). settled_parts P base ts false) r) refl))
      inner_ends (g ∷ gs) r e =
          subst (λ (ts : List (Frame S)). Led (f ∷ (ts ++ (base ∷ older))) Ended) (sym r)
          (led_on (settled_frame P g) (gs ++ (base ∷ older)) (f ∷ g ∷ (gs ++ (base ∷ older))) Ended
          (ap (λ (x : Frame S). x ∷ (gs ++ (base ∷ older))) (chosen g.context.final (settled_frame P g) g ((sound.inner g (subst (λ (ts : List (Frame S)). Rattle.oss_model.specs.Order.IsIn g (f ∷ ts)) (sym r) (there here))).final)))
          (stays z b older before cells w had base (settled_frame P g ∷ gs) (settled_frame P g ∷ (gs ++ (base ∷ older))) (λ o h. let x : Ended ≡ Created o false = sym e ∙ h in cc)
          (behind_inner Ended e ∙ ap (λ (ts : List (Frame S)). settled_parts P base ts false) r) refl))

      at_inner : (a : Act S) → act_now P b ≡ a → Kind a → Led (f ∷ (fs ++ (base ∷ older))) (act_now P b)
      at_inner a e (halts h) = absurd (w.alive (subst IsHalt (sym e) h))
      at_inner a e last_act = led (f ∷ (fs ++ (base ∷ older))) Ended e (inner_ends fs refl e)
      at_inner a e (creates o false) =
          let c = (creating P b.start b.found o e).alone in
          let h : f ∷ fs ≡ [] = ap (λ (x : Stack S). x.inner) (sym s) ∙ c in
          absurd cc
      at_inner a e (creates o true) =
          led (f ∷ (fs ++ (base ∷ older))) (Created o true) e
          (stays z b older before cells w had base (settled_frame P (child_frame f o) ∷ including_frame o f ∷ fs) (settled_frame P (child_frame f o) ∷ including_frame o f ∷ (fs ++ (base ∷ older))) (λ o2 h. let x : Created o true ≡ Created o2 false = sym e ∙ h in cc) (behind_inner (Created o true) e) refl)
      at_inner a e (plain ne nc ng eb ei) =
          let v = found_by (act_now P b) cells in
          led (f ∷ (fs ++ (base ∷ older))) a e
          (led_on (settled_frame P (frame_after a v f)) (fs ++ (base ∷ older)) (f ∷ (fs ++ (base ∷ older))) a (behind_plain a v f (fs ++ (base ∷ older)) ne nc)
          (stays z b older before cells w had base (settled_frame P (frame_after a v f) ∷ fs) (settled_frame P (frame_after a v f) ∷ (fs ++ (base ∷ older))) (λ o h. nc o false (sym e ∙ h)) (behind_inner a e ∙ ap (λ (x : Stack S). settled_stack P x) (ei v base f fs)) refl))

    by_inner : Went z b older cells → (inner : List (Frame S)) → stack_from P b.start b.found ≡ record { base = base; inner = inner; ended = false } → Led (inner ++ (base ∷ older)) (act_now P b)
    by_inner w [] s = at_base w s (act_now P b) refl (kind (act_now P b))
    by_inner w (f ∷ fs) s = at_inner w f fs s (act_now P b) refl (kind (act_now P b))

  pub leads : (tasks : List (Frame S)) (cells : List ℕ) (s : Stands P main first tasks cells) → (IsHalt (act_now P s.body) → ⊥)
      → Leads P main first s.stage tasks (behind P (act_now P s.body) (found_by (act_now P s.body) cells) tasks) (direct_cells (act_now P s.body) cells)
  leads tasks cells s g =
      let w = went s.stage s.body s.older cells s.run s.cells_are s.at_ s.waiting g in
      let had : Had tasks s.body s.older = λ lively. open_share lively s.body s.base s.inner s.older tasks s.stack s.parts in
      subst (λ (ts : List (Frame S)). Leads P main first s.stage tasks (behind P (act_now P s.body) (found_by (act_now P s.body) cells) ts) (direct_cells (act_now P s.body) cells)) (sym s.parts)
      (by_inner s.stage s.body s.base s.older tasks cells had w s.inner s.stack)

  -- the run begins
  pub begins : main.path ≡ [] → Begins P main first (settled_frame P (start_frame P main) ∷ []) first
  begins e = record {
    stands = record {
      stage = record { state = opening main first; active = []; printed = [] };
      run = opens;
      cells_are = refl;
      body = record { start = main; found = [] };
      at_ = opening_main main first e;
      base = settled_frame P (start_frame P main);
      inner = [];
      older = [];
      stack = start_at P main;
      parts = refl;
      waiting = e;
    };
    opens = refl;
  }

pub open_tasks_go_on : (S : Type 0) → OpenTasksGoOn S
open_tasks_go_on S P main first tasks cells s g = leads P main first tasks cells s g
