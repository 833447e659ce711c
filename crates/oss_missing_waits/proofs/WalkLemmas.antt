-- What is kept follows the free run.
use Rattle.std.proofs.Common.{◌≡◌, ℕ, suc, ◌-◌, refl, sym, subst, ap, ◌∙◌, List, [], ◌∷◌, ◌++◌, length, arith, Bool, true, false, Option, Some, None, zero}
use Rattle.std.specs.Prelude.{if◌then◌else◌, ◌==◌, is_some, ◌&&◌, not}
use Rattle.std.proofs.lemmas.Bool.Decides.{nat_tests}
use Rattle.oss_syntax.specs.declared.tree.program.Item.{Item}
use Rattle.oss_syntax.specs.declared.fault.FaultKind.{FaultKind}
use Rattle.oss_model.specs.Bodies.{Act, Ask, Body, Frame, IsHalt, Order, Program, Stack, after_creation, ask_of, child_frame, frame_after, settled_frame, stack_from, top_frame}
use Rattle.oss_model.specs.Bodies.Act.{Awaited, Created, Ended}
use Rattle.oss_model.specs.Context.{in_clauses}
use Rattle.oss_model.specs.Machine.{At, State, Task}
use Rattle.oss_model.specs.Moves.{act_now, found_by, opening}
use Rattle.oss_model.specs.Rights.{Folds, Reads, Touch, Writes}
use Rattle.oss_model.specs.Sequence.{IsAtEnd, Running, RunsOn}
use Rattle.oss_model.proofs.BodyLemmas.{frame_after_kept, settle_kept}
use Rattle.oss_model.proofs.SequenceLemmas.{opening_at}
use Rattle.oss_model.proofs.TerminationTheorem.{start_at}
use Rattle.oss_model.proofs.TreeLemmas.{at_same}
use Rattle.oss_code.specs.declared.code.CodeParts.{CodeParts}
use Rattle.oss_machine.specs.Frames.{CodeScript}
use Rattle.oss_machine.specs.Machines.{asks}
use Rattle.oss_ranges.specs.Cells.{value_at}
use Rattle.oss_pieces.specs.Layouts.{grids_from}
use Rattle.oss_pieces.specs.Rows.{Grid}
use Rattle.oss_freed.specs.Freed.{freed_order}
use Rattle.oss_free_tasks.specs.declared.deed.Deed.{Deed}
use Rattle.oss_free_tasks.specs.Deeds.{IsDeed}
use Rattle.oss_free_tasks.specs.OpenTasks.{AreWaiting, Ends, behind as tasks_behind, behind_end, path_under, whole_task}
use Rattle.oss_free_tasks.proofs.DeedLemmas.{free_deeds_are_acts}
use Rattle.oss_free_run.specs.declared.run.FreeRun.{FreeRun}
use Rattle.oss_free_run.specs.FreeTasks.{free_main, free_program, main_order}
use Rattle.oss_free_run.specs.Stages.{IsFailed, IsFirstStage, IsNext, IsStage}
use Rattle.oss_needs.specs.declared.clause.Clause.{Clause}
use Rattle.oss_lent_cells.specs.Lent.{counted_if}
use Rattle.oss_lacks.specs.declared.lacks.TaskLacks.{TaskLacks}
use Rattle.oss_lacks.specs.Asking.{Asking}
use Rattle.oss_lacks.specs.Beside.{goes_on}
use Rattle.oss_lacks.specs.Lacks.{AreTaskLacks}
use Rattle.oss_lacks.specs.Nests.{Nest, Numbered, alone, closed, closed_to}
use Rattle.oss_lacks.specs.Walks.{IsActing}
use Rattle.oss_lacks.proofs.DeedLemmas.{IsPlain, Told, acts_on, creates, ends, on, stays_still, stops, told, waits}
use Rattle.oss_missing_waits.specs.declared.following.Following.{Following}
use Rattle.oss_missing_waits.specs.declared.waits.TaskWaits.{TaskWaits}
use Rattle.oss_missing_waits.specs.Beside.{AreFound, AreNamed, IsAt, IsBeside, IsEnded, IsFinished, IsNotedAt, IsNotedBeside}
use Rattle.oss_missing_waits.specs.Following.{AreSaid, IsFollowing, IsNoted, Steps}
use Rattle.oss_missing_waits.specs.Holding.{Holding, hinderer, lent_when, main as main_holding, new_task, releases, waits_on}
use Rattle.oss_missing_waits.specs.Waits.{IsBehindIf, IsBehindAsk, IsCreation, IsDirective, IsTouched, Mended, Waits, has_by, mended_in, opens, runs_on, tell_nothing}
use Rattle.oss_missing_waits.proofs.FollowLemmas.{before_path, lent_path, use_path}

-- Of any program

top_is : {S : Type 0} (f : Frame S) (rest : List (Frame S)) (base : Frame S) (inner older : List (Frame S)) → f ∷ rest ≡ inner ++ (base ∷ older) → top_frame base inner ≡ f
top_is f rest base [] older e = let x : f ∷ rest ≡ base ∷ older = e in cc
top_is f rest base (g ∷ gs) older e = let x : f ∷ rest ≡ g ∷ (gs ++ (base ∷ older)) = e in cc

-- The tasks behind an act

-- what acts has the same path, and the same wait for it
pub record IsAlike (n m : Nest Holding) : Type 0 where
  pub path : m.acting.task.path ≡ n.acting.task.path
  pub above : m.above ≡ n.above

touch_alike : (touch : Touch) (c line : ℕ) (n m : Nest Holding) → IsTouched touch c line n m → IsAlike n m
touch_alike touch c line n m h = record {
  path =
      ap (λ (x : Nest Holding). x.acting.task.path) h.new_is ∙ before_path touch c line (hinderer (h.used.has c) touch (h.used.lent c)) h.used
      ∙ use_path (λ d. c == d) line n.acting.task h.used h.use_is;
  above = ap (λ (x : Nest Holding). x.above) h.new_is;
}

directive_alike : (cells : ℕ → Bool) (line : ℕ) (up : Holding → Holding) (n m : Nest Holding) → ((h : Holding) → (up h).path ≡ h.path) → IsDirective cells line up n m → IsAlike n m
directive_alike cells line up n m keeps h = record {
  path = ap (λ (x : Nest Holding). x.acting.task.path) h.new_is ∙ keeps h.used ∙ use_path cells line n.acting.task h.used h.use_is;
  above = ap (λ (x : Nest Holding). x.above) h.new_is;
}

still_alike : (n m : Nest Holding) → m ≡ n → IsAlike n m
still_alike n m e = record { path = ap (λ (x : Nest Holding). x.acting.task.path) e; above = ap (λ (x : Nest Holding). x.above) e }

plain_alike : (w : Mended) (f : Frame CodeScript) (q : Ask CodeScript) (line : ℕ) (n m : Nest Holding) → IsPlain q → IsBehindAsk w f q line n m → IsAlike n m
plain_alike w f Ask.Begin line n m p h = still_alike n m h
plain_alike w f Ask.Tick line n m p h = still_alike n m h
plain_alike w f (Ask.Read c) line n m p h = touch_alike Reads c line n m h
plain_alike w f (Ask.Write c v) line n m p h = touch_alike Writes c line n m h
plain_alike w f (Ask.Fold c op v) line n m p h = touch_alike (Folds op) c line n m h
plain_alike w f (Ask.Create o) line n m p h = absurd p
plain_alike w f Ask.Await line n m p h = still_alike n m h
plain_alike w f Ask.Wait line n m p h = record { path = ap (λ (x : Nest Holding). x.acting.task.path) h; above = ap (λ (x : Nest Holding). x.above) h }
plain_alike w f (Ask.WaitOn named) line n m p h = directive_alike (in_clauses named) line (waits_on named) n m (λ x. refl) h
plain_alike w f (Ask.Release clauses) line n m p h = directive_alike (in_clauses clauses) line (releases clauses) n m (λ x. refl) h
plain_alike w f (Ask.Print text) line n m p h = still_alike n m h
plain_alike w f Ask.End line n m p h = absurd p
plain_alike w f (Ask.Fails kind) line n m p h = still_alike n m h

module _ (P : Program CodeScript) (f : Frame CodeScript) (older : List (Frame CodeScript)) (v : ℕ) where
  went_path : (a : Act CodeScript) → (settled_frame P (frame_after a v f)).path ≡ f.path
  went_path a = (settle_kept P (frame_after a v f)).path ∙ (frame_after_kept a v f).path

  behind_plain : (a : Act CodeScript) → (a ≡ Ended → ⊥) → ((o : Order CodeScript) (i : Bool) → a ≡ Created o i → ⊥) → tasks_behind P a v (f ∷ older) ≡ settled_frame P (frame_after a v f) ∷ older
  behind_plain Ended e c = absurd (e refl)
  behind_plain (Created o i) e c = absurd (c o i refl)
  behind_plain _ e c = refl

  named_plain : (a : Act CodeScript) (n m : Nest Holding) (ts : List (Frame CodeScript)) → IsAlike n m → (a ≡ Ended → ⊥) → ((o : Order CodeScript) (i : Bool) → a ≡ Created o i → ⊥)
      → tasks_behind P a v (f ∷ older) ≡ ts → AreNamed (n.acting ∷ n.above) (f ∷ older) → AreNamed (m.acting ∷ m.above) ts
  named_plain a n m ts alike e c t h =
      subst (λ (us : List (Frame CodeScript)). AreNamed (m.acting ∷ m.above) us) (sym (behind_plain a e c) ∙ t)
      (alike.path ∙ h.0 ∙ sym (went_path a), subst (λ (ks : List (Numbered Holding)). AreNamed ks older) (sym alike.above) h.1)

  named_down : (o : Order CodeScript) (i : Bool) (child creator : Numbered Holding) (n : Nest Holding) (ts : List (Frame CodeScript)) → child.task.path ≡ f.context.created ∷ f.path → creator.task.path ≡ n.acting.task.path
      → tasks_behind P (Created o i) v (f ∷ older) ≡ ts → AreNamed (n.acting ∷ n.above) (f ∷ older) → AreNamed (child ∷ creator ∷ n.above) ts
  named_down o true child creator n ts p q t h =
      subst (λ (us : List (Frame CodeScript)). AreNamed (child ∷ creator ∷ n.above) us) t (p ∙ sym (settle_kept P (child_frame f o)).path, (q ∙ h.0, h.1))
  named_down o false child creator n ts p q t h =
      subst (λ (us : List (Frame CodeScript)). AreNamed (child ∷ creator ∷ n.above) us) t
      (p ∙ sym (settle_kept P (child_frame f o)).path, (q ∙ h.0 ∙ sym (settle_kept P (after_creation o f)).path, h.1))

  resumed_path : (g : Frame CodeScript) (b : Bool) → (if b then settled_frame P g else g).path ≡ g.path
  resumed_path g true = (settle_kept P g).path
  resumed_path g false = refl

  named_up : (k : Numbered Holding) (above : List (Numbered Holding)) (ended : List (Option Holding)) (rest : List (Frame CodeScript)) (g : Frame CodeScript) (gs : List (Frame CodeScript)) → behind_end P rest ≡ g ∷ gs → AreNamed (k ∷ above) (f ∷ rest)
      → AreNamed ((closed_to tell_nothing k above ended).acting ∷ (closed_to tell_nothing k above ended).above) (g ∷ gs)
  named_up k [] ended [] g gs t h = let x : [] ≡ g ∷ gs = t in absurd cc
  named_up k [] ended (y ∷ rest) g gs t h = absurd h.1
  named_up k (c ∷ above) ended [] g gs t h = absurd h.1
  named_up k (c ∷ above) ended (y ∷ rest) g gs t h = subst (λ (us : List (Frame CodeScript)). AreNamed (record { number = c.number; task = c.task } ∷ above) us) t (h.1.0 ∙ sym (resumed_path y y.context.final), h.1.1)

  named_created : (count : ℕ) (w : Mended) (o : Order CodeScript) (line : ℕ) (n m : Nest Holding) (ts : List (Frame CodeScript)) → IsCreation w f (o.when && not f.context.final) line n m
      → tasks_behind P (Created (freed_order count o) f.context.final) v (f ∷ older) ≡ ts → AreNamed (n.acting ∷ n.above) (f ∷ older) → AreNamed (m.acting ∷ m.above) ts
  named_created count w o line n m ts c t h =
      subst (λ (x : Nest Holding). AreNamed (x.acting ∷ x.above) ts) (sym c.new_is)
      (named_down (freed_order count o) f.context.final (record { number = length n.ended; task = new_task (f.context.created ∷ f.path) line (w (length n.ended)) }) (record { number = n.acting.number; task = lent_when (o.when && not f.context.final) f.context.created line (w (length n.ended)) c.used }) n ts refl
      (lent_path (o.when && not f.context.final) f.context.created line (w (length n.ended)) c.used ∙ use_path (λ d. is_some (w (length n.ended) d)) line n.acting.task c.used c.use_is) t h)

  pub named_behind : {count depth : ℕ} (w : Mended) (a : Act CodeScript) (q : Ask CodeScript) (line : ℕ) (b : Bool) (n m : Nest Holding) (g : Frame CodeScript) (gs : List (Frame CodeScript)) → Told count depth f.context.created f.context.final a q b
      → (IsHalt a → ⊥) → IsBehindIf b w f q line n m → tasks_behind P a v (f ∷ older) ≡ g ∷ gs → AreNamed (n.acting ∷ n.above) (f ∷ older) → AreNamed (m.acting ∷ m.above) (g ∷ gs)
  named_behind w a q line _ n m g gs (waits e) go is t h =
      named_plain a n m (g ∷ gs) (still_alike n m is) (λ x. let y : Awaited ≡ Ended = sym e ∙ x in cc) (λ o i x. let y : Awaited ≡ Created o i = sym e ∙ x in cc) t h
  named_behind w a q line b n m g gs (stops x) go is t h = absurd (go x)
  named_behind w a q line _ n m g gs (on p i x k l y) go is t h = named_plain a n m (g ∷ gs) (plain_alike w f q line n m p is) k l t h
  named_behind {count = count} w a q line _ n m g gs (creates o is_ask act x y) go is t h =
      named_created count w o line n m (g ∷ gs) (subst (λ (z : Ask CodeScript). IsBehindAsk w f z line n m) is_ask is) (ap (λ (z : Act CodeScript). tasks_behind P z v (f ∷ older)) (sym act) ∙ t) h
  named_behind w a q line _ n m g gs (ends is_ask act) go is t h =
      let e : m ≡ closed tell_nothing n = subst (λ (z : Ask CodeScript). IsBehindAsk w f z line n m) is_ask is in
      subst (λ (x : Nest Holding). AreNamed (x.acting ∷ x.above) (g ∷ gs)) (sym e) (named_up n.acting n.above n.ended older g gs (ap (λ (z : Act CodeScript). tasks_behind P z v (f ∷ older)) (sym act) ∙ t) h)

-- Of a code

module _ (code : CodeParts) (fuel : ℕ) where
  module _ (r : FreeRun) (s : IsStage code fuel r) where
    abbrev act : Act CodeScript
    act = act_now (free_program code) s.stands.body

    abbrev ask : Ask CodeScript
    ask = (ask_of (asks code) s.task).ask

    abbrev line : ℕ
    line = (ask_of (asks code) s.task).line

    told_here : Told (length code.first) s.task.context.depth s.task.context.created s.task.context.final act ask s.task.awaits
    told_here =
        told (length code.first) s.task act r.cells.items s.task.context.depth s.task.context.created line s.task.context.fuel s.task.context.ticks ask s.task.awaits
        (free_deeds_are_acts CodeScript (asks code) main_order code.first fuel s.task s.older r.cells.items s.few s.stands)

    acting_here : IsActing (free_program code) s.stands.stage s.task
    acting_here = record {
      task = whole_task s.stands.body;
      at_ = s.stands.at_;
      acts = ap (λ (x : Stack CodeScript). top_frame x.base x.inner) s.stands.stack ∙ top_is s.task s.older s.stands.base s.stands.inner s.stands.older s.stands.parts;
    }

    -- the task that acts is the one of the stage
    same_task : (t : Task CodeScript) → At s.stands.stage.state s.stands.stage.active t → act_now (free_program code) t.body ≡ act
    same_task t h = ap (λ (x : Task CodeScript). act_now (free_program code) x.body) (at_same s.stands.stage.state s.stands.stage.active t (whole_task s.stands.body) h s.stands.at_)

    runs_still : {y : Running CodeScript} → RunsOn (free_program code) s.stands.stage y → IsHalt act → ⊥
    runs_still g h = g.goes (subst IsHalt (sym (same_task g.task g.at_)) h)

    halts_here : (e : IsAtEnd (free_program code) s.stands.stage) → IsHalt act
    halts_here e = subst IsHalt (same_task e.task e.at_) e.stops

    -- what the judge of the deed tells
    module _ (d : Deed) (is : IsDeed (length code.first) s.task act ask r.cells.items d) where
      goes_here : goes_on d ≡ true → (IsHalt act → ⊥) × (s.task.awaits ≡ false)
      goes_here g = acts_on (length code.first) s.task act r.cells.items s.task.context.depth s.task.context.created ask s.task.awaits d told_here g is

      waits_here : goes_on d ≡ false → (IsHalt act → ⊥) → s.task.awaits ≡ true
      waits_here g go = stays_still (length code.first) s.task act r.cells.items s.task.context.depth s.task.context.created ask s.task.awaits d told_here g is go

      -- nothing is noted where the task waits no more, or a fault stops the run
      pub noted_still : goes_on d ≡ false → (all : List Item) (w : Mended) (n : Nest Holding) (k : Following) → IsFollowing all w n k → IsNotedAt code fuel r s all w n k
      noted_still g all w n k h = record {
        stops = λ x. h;
        goes = λ go. (n, (subst (λ (b : Bool). IsBehindIf b w s.task ask line n n) (sym (waits_here g go)) refl, h));
      }

      pub noted_here : goes_on d ≡ true → (layout : List Grid) (ks : List TaskLacks) (q : Ask CodeScript) → q ≡ ask → (l : ℕ) → l ≡ line → (created : ℕ) → created ≡ s.task.context.created → (final : Bool) → final ≡ s.task.context.final
          → (all : List Item) (w : Mended) (n : Nest Holding) (old new : Following) → layout ≡ grids_from all 0 → AreSaid w ks → AreNamed (n.acting ∷ n.above) (s.task ∷ s.older) → IsFollowing all w n old
          → Steps layout ks (IsNoted q l created final) old new → IsNotedAt code fuel r s all w n new
      noted_here g layout ks q e l le created c final f all w n old new laid said named h steps =
          let k = goes_here g in
          let m = steps all w n laid said h in
          let now : IsBehindAsk w s.task q l n m.0 = m.1.0.behind s.task named.0 c f in
          let here : IsBehindAsk w s.task ask line n m.0 = subst (λ (x : ℕ). IsBehindAsk w s.task ask x n m.0) le (subst (λ (z : Ask CodeScript). IsBehindAsk w s.task z l n m.0) e now) in
          record {
            stops = λ x. absurd (k.0 x);
            goes = λ go. (m.0, (subst (λ (b : Bool). IsBehindIf b w s.task ask line n m.0) (sym k.1) here, m.1.1));
          }

  -- One turn
  module _ (layout : List Grid) (ks : List TaskLacks) (r : FreeRun) (old mid : Following) (b : IsBeside layout ks code fuel r old) (noted : IsNotedBeside layout ks code fuel r old mid) where
    module _ (all : List Item) (w : Mended) (laid : layout ≡ grids_from all 0) (said : AreSaid w ks) where
      abbrev at_now : IsAt code fuel r b.stage all w old
      at_now = b.kept all w laid said

      abbrev noted_now : IsNotedAt code fuel r b.stage all w at_now.nest mid
      noted_now = noted b.stage all w at_now.nest laid said at_now.named at_now.follows

    pub beside_next : (new : FreeRun) → IsNext code fuel r b.stage new → IsBeside layout ks code fuel new mid
    beside_next new next = record {
      stage = next.stage;
      kept = λ all w laid said.
          let k = at_now all w laid said in
          let go = runs_still r b.stage next.runs in
          let m = (noted_now all w laid said).goes go in
          record {
            nest = m.0;
            walks = runs_on k.walks (acting_here r b.stage) next.runs m.1.0;
            named = named_behind (free_program code) b.stage.task b.stage.older (found_by (act r b.stage) r.cells.items) w (act r b.stage) (ask r b.stage) (line r b.stage) b.stage.task.awaits k.nest m.0 next.stage.task next.stage.older (told_here r b.stage) go m.1.0 next.tasks k.named;
            follows = m.1.1;
          };
    }

    pub beside_ended : (cells : List ℕ) → Ends (free_program code) (free_main code fuel) code.first b.stage.stands.stage cells → IsEnded layout ks code fuel mid
    beside_ended cells e all w laid said =
        let k = at_now all w laid said in
        let m = (noted_now all w laid said).goes (runs_still r b.stage e.runs) in
        record { stage = e.stage; nest = m.0; walks = runs_on k.walks (acting_here r b.stage) e.runs m.1.0; end = e.end; follows = m.1.1 }

    pub beside_failed : (new : FreeRun) (kind : FaultKind) (at_line : ℕ) → IsFailed code fuel r b.stage new kind at_line → IsEnded layout ks code fuel mid
    beside_failed new kind at_line e all w laid said =
        let k = at_now all w laid said in
        record { stage = b.stage.stands.stage; nest = k.nest; walks = k.walks; end = e.end; follows = (noted_now all w laid said).stops (halts_here r b.stage e.end) }

  -- The end
  pub all_found : (layout : List Grid) (ks : List TaskLacks) (k : Following) (l : TaskWaits) → IsEnded layout ks code fuel k → IsFinished k l → AreFound layout ks code fuel l
  all_found layout ks k l ended h all w laid said =
      let e = ended all w laid said in
      record { stage = e.stage; nest = e.nest; walks = e.walks; end = e.end; main = h.main all w e.nest e.follows; tasks = h.tasks all w e.nest e.follows }

  -- The beginning
  none_older : (z : State CodeScript) (older : List (Frame CodeScript)) (p : List ℕ) → p ≡ [] → AreWaiting (free_program code) z older p → older ≡ []
  none_older z [] p e w = refl
  none_older z (f ∷ older) p e (c, w) = let x : [] ≡ c.number ∷ c.body.start.path = sym e ∙ c.path_is in absurd cc

  only_base : (f : Frame CodeScript) (rest : List (Frame CodeScript)) (base : Frame CodeScript) (inner older : List (Frame CodeScript)) → inner ≡ [] → older ≡ [] → f ∷ rest ≡ inner ++ (base ∷ older) → rest ≡ []
  only_base f rest base [] older i o e = let x : f ∷ rest ≡ base ∷ older = e in cc
  only_base f rest base (g ∷ gs) older i o e = let x : g ∷ gs ≡ [] = i in absurd cc

  first_older : (r : FreeRun) (s : IsStage code fuel r) → s.stands.stage ≡ record { state = opening (free_main code fuel) code.first; active = []; printed = [] } → s.older ≡ []
  first_older r s e =
      let at_ : At (opening (free_main code fuel) code.first) [] (whole_task s.stands.body) = subst (λ (z : Running CodeScript). At z.state z.active (whole_task s.stands.body)) e s.stands.at_ in
      let t : whole_task s.stands.body ≡ record { body = record { start = free_main code fuel; found = [] }; given = [] } = (opening_at (free_main code fuel) code.first [] (whole_task s.stands.body) refl at_).1 in
      let body : s.stands.body ≡ record { start = free_main code fuel; found = [] } = ap (λ (x : Task CodeScript). x.body) t in
      let stack : stack_from (free_program code) (free_main code fuel) [] ≡ record { base = s.stands.base; inner = s.stands.inner; ended = false } =
      ap (λ (x : Body CodeScript). stack_from (free_program code) x.start x.found) (sym body) ∙ s.stands.stack in
      let inner : s.stands.inner ≡ [] = ap (λ (x : Stack CodeScript). x.inner) (sym stack ∙ start_at (free_program code) (free_main code fuel)) in
      let path : s.stands.body.start.path ≡ [] = ap (λ (x : Body CodeScript). x.start.path) body in
      only_base s.task s.older s.stands.base s.stands.inner s.stands.older inner (none_older s.stands.stage.state s.stands.older s.stands.body.start.path path s.stands.waiting) s.stands.parts

  named_main : (f : Frame CodeScript) (older : List (Frame CodeScript)) → older ≡ [] → f.path ≡ path_under older → AreNamed (record { number = 0; task = main_holding } ∷ []) (f ∷ older)
  named_main f [] e p = (sym p, tt)
  named_main f (g ∷ rest) e p = let x : g ∷ rest ≡ [] = e in absurd cc

  pub beside_first : (layout : List Grid) (ks : List TaskLacks) (r : FreeRun) (k : Following) → IsFirstStage code fuel r → ((all : List Item) (w : Mended) → IsFollowing all w (alone main_holding) k) → IsBeside layout ks code fuel r k
  beside_first layout ks r k first h = record {
    stage = first.stage;
    kept = λ all w laid said. record {
      nest = alone main_holding;
      walks = subst (λ (z : Running CodeScript). Waits w (asks code) (free_main code fuel) code.first z (alone main_holding)) (sym first.opens) opens;
      named = named_main first.stage.task first.stage.older (first_older r first.stage first.opens) first.stage.nested.0.path;
      follows = h all w;
    };
  }

-- What was found of the clauses of tasks is what their clauses say once they are mended.
pub said_of_lacks : (ended : List (Option Asking)) (ks : List TaskLacks) → AreTaskLacks ended ks → AreSaid (mended_in ended) ks
said_of_lacks [] [] h n c = refl
said_of_lacks [] (k ∷ ks) h n c = absurd h
said_of_lacks (None ∷ ts) ks h n c = absurd h
said_of_lacks (Some t ∷ ts) [] h n c = absurd h
said_of_lacks (Some t ∷ ts) (k ∷ ks) h zero c =
    ap (λ (v : Option Clause). counted_if t.final v) (sym (h.0.mending.clauses c)) ∙ ap (λ (b : Bool). counted_if b (value_at k.mending.clauses.pieces c)) (sym h.0.final)
said_of_lacks (Some t ∷ ts) (k ∷ ks) h (suc n) c = step ∙ said_of_lacks ts ks h.1 n c
  where
    other : (suc n == 0) ≡ false
    other = grind (arith, nat_tests)

    less : suc n - 1 ≡ n
    less = omega arith

    step : mended_in (Some t ∷ ts) (suc n) c ≡ mended_in ts n c
    step = ap (λ (b : Bool). if b then has_by t c else mended_in ts (suc n - 1) c) other ∙ ap (λ (i : ℕ). mended_in ts i c) less
