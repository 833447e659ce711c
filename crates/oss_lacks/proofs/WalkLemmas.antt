-- What is kept follows the free run.
use Rattle.std.proofs.Common.{◌≡◌, ℕ, suc, ◌<◌, ◌≤◌, refl, sym, subst, ap, ◌∙◌, List, [], ◌∷◌, ◌++◌, length, arith, Bool, true, false, Option, Some, None}
use Rattle.std.specs.Prelude.{if◌then◌else◌, reverse}
use Rattle.std.proofs.lemmas.List.{length-reverse}
use Rattle.oss_syntax.specs.declared.fault.FaultKind.{FaultKind}
use Rattle.oss_model.specs.Bodies.{Act, Ask, Body, Frame, IsHalt, Order, Program, Stack, after_creation, ask_of, child_frame, frame_after, including_frame, settled_frame, stack_from, top_frame}
use Rattle.oss_model.specs.Bodies.Act.{Awaited, Created, Ended}
use Rattle.oss_model.specs.Machine.{At, State, Task}
use Rattle.oss_model.specs.Marks.{AsksFor}
use Rattle.oss_model.specs.Moves.{act_now, found_by, opening}
use Rattle.oss_model.specs.Sequence.{IsAtEnd, Running, RunsOn}
use Rattle.oss_model.proofs.BodyLemmas.{frame_after_kept, settle_kept}
use Rattle.oss_model.proofs.SequenceLemmas.{opening_at}
use Rattle.oss_model.proofs.TerminationTheorem.{start_at}
use Rattle.oss_model.proofs.TreeLemmas.{at_same}
use Rattle.oss_code.specs.declared.code.CodeParts.{CodeParts}
use Rattle.oss_machine.specs.Frames.{CodeScript}
use Rattle.oss_machine.specs.Machines.{asks}
use Rattle.oss_freed.specs.Freed.{freed_order}
use Rattle.oss_free_tasks.specs.declared.deed.Deed.{Deed}
use Rattle.oss_free_tasks.specs.Deeds.{IsDeed, creates as makes}
use Rattle.oss_free_tasks.specs.OpenTasks.{AreNested, AreWaiting, Ends, behind as tasks_behind, behind_end, path_under, whole_task}
use Rattle.oss_free_tasks.proofs.DeedLemmas.{free_deeds_are_acts}
use Rattle.oss_free_run.specs.declared.run.FreeRun.{FreeRun}
use Rattle.oss_free_run.specs.FreeTasks.{free_main, free_program, main_order}
use Rattle.oss_free_run.specs.Stages.{IsFailed, IsFirstStage, IsNext, IsStage}
use Rattle.oss_missing_lines.specs.declared.missing.RunFault.{RunFault}
use Rattle.oss_lacks.specs.declared.following.Following.{Following}
use Rattle.oss_lacks.specs.declared.lacks.Lacks.{Lacks}
use Rattle.oss_lacks.specs.Asking.{Asking, asked_by, asking, behind_ask, main as main_asking, tell_creator}
use Rattle.oss_lacks.specs.Beside.{AreNamed, IsBeside, IsEnded, IsFinished, IsNoted, IsNotedAt, goes_on}
use Rattle.oss_lacks.specs.Following.{IsFollowing, Notes}
use Rattle.oss_lacks.specs.Lacks.{IsLacks, IsWalked}
use Rattle.oss_lacks.specs.Nests.{Nest, Numbered, alone, closed_to, with_acting}
use Rattle.oss_lacks.specs.Walks.{IsActing, Walks, behind, opens, runs_on}
use Rattle.oss_lacks.proofs.DeedLemmas.{IsPlain, Told, acts_on, creates, ends, on, plain_behind, stays_still, stops, told, waits}

-- Of any program

plain_makes : {S : Type 0} (q : Ask S) → IsPlain q → makes q ≡ true → ⊥
plain_makes (Ask.Create o) p e = p
plain_makes Ask.End p e = p
plain_makes _ p e = let x : false ≡ true = e in absurd cc

module _ {S : Type 0} {n depth created : ℕ} {final : Bool} {a : Act S} where
  -- what it touches is a cell of the program
  pub inside : (q : Ask S) (b : Bool) → Told n depth created final a q b → (IsHalt a → ⊥) → b ≡ false → (c : ℕ) → AsksFor q c → c < n
  inside q _ (waits e) go f c h = let x : true ≡ false = f in absurd cc
  inside q b (stops x) go f c h = absurd (go x)
  inside q _ (on p i x k l m) go f c h = i c h
  inside q _ (creates o is act x y) go f c h = absurd (subst (λ (z : Ask S). AsksFor z c) is h)
  inside q _ (ends is act) go f c h = absurd (subst (λ (z : Ask S). AsksFor z c) is h)

  -- where it creates a task, it has not come to the limits
  pub limits : (q : Ask S) (b : Bool) → Told n depth created final a q b → (IsHalt a → ⊥) → b ≡ false → makes q ≡ true → (depth < 64) × (created < 65535)
  limits q _ (waits e) go f h = let x : true ≡ false = f in absurd cc
  limits q b (stops x) go f h = absurd (go x)
  limits q _ (on p i x k l m) go f h = absurd (plain_makes q p h)
  limits q _ (creates o is act x y) go f h = (x, y)
  limits q _ (ends is act) go f h = let x : false ≡ true = sym (ap makes is) ∙ h in absurd cc

top_is : {S : Type 0} (f : Frame S) (rest : List (Frame S)) (base : Frame S) (inner older : List (Frame S)) → f ∷ rest ≡ inner ++ (base ∷ older) → top_frame base inner ≡ f
top_is f rest base [] older e = let x : f ∷ rest ≡ base ∷ older = e in cc
top_is f rest base (g ∷ gs) older e = let x : f ∷ rest ≡ g ∷ (gs ++ (base ∷ older)) = e in cc

path_length : {S : Type 0} (fuel : ℕ) (f : Frame S) (older : List (Frame S)) → AreNested fuel (f ∷ older) → length f.path ≡ length older
path_length fuel f [] h = ap (λ (p : List ℕ). length p) h.0.path
path_length fuel f (g ∷ rest) h = ap (λ (p : List ℕ). length p) h.0.path ∙ ap suc (path_length fuel g rest h.1)

-- The tasks behind an act

named_first : (k l : Numbered Asking) (above : List (Numbered Asking)) (f g : Frame CodeScript) (older : List (Frame CodeScript)) → l.task.path ≡ k.task.path → g.path ≡ f.path → AreNamed (k ∷ above) (f ∷ older) → AreNamed (l ∷ above) (g ∷ older)
named_first k l above f g older e p h = (e ∙ h.0 ∙ sym p, h.1)

module _ (P : Program CodeScript) (f : Frame CodeScript) (older : List (Frame CodeScript)) (v : ℕ) where
  went_path : (a : Act CodeScript) → (settled_frame P (frame_after a v f)).path ≡ f.path
  went_path a = (settle_kept P (frame_after a v f)).path ∙ (frame_after_kept a v f).path

  plain_is : (a : Act CodeScript) → (a ≡ Ended → ⊥) → ((o : Order CodeScript) (i : Bool) → a ≡ Created o i → ⊥) → tasks_behind P a v (f ∷ older) ≡ settled_frame P (frame_after a v f) ∷ older
  plain_is Ended e c = absurd (e refl)
  plain_is (Created o i) e c = absurd (c o i refl)
  plain_is _ e c = refl

  named_plain : (a : Act CodeScript) (k l : Numbered Asking) (above : List (Numbered Asking)) (ts : List (Frame CodeScript)) → l.task.path ≡ k.task.path → (a ≡ Ended → ⊥) → ((o : Order CodeScript) (i : Bool) → a ≡ Created o i → ⊥)
      → tasks_behind P a v (f ∷ older) ≡ ts → AreNamed (k ∷ above) (f ∷ older) → AreNamed (l ∷ above) ts
  named_plain a k l above ts e n c t h =
      subst (λ (us : List (Frame CodeScript)). AreNamed (l ∷ above) us) (sym (plain_is a n c) ∙ t) (named_first k l above f (settled_frame P (frame_after a v f)) older e (went_path a) h)

  named_down : (o : Order CodeScript) (i : Bool) (child : Numbered Asking) (n : Nest Asking) (ts : List (Frame CodeScript)) → child.task.path ≡ f.context.created ∷ f.path
      → tasks_behind P (Created o i) v (f ∷ older) ≡ ts → AreNamed (n.acting ∷ n.above) (f ∷ older) → AreNamed (child ∷ n.acting ∷ n.above) ts
  named_down o true child n ts p t h =
      subst (λ (us : List (Frame CodeScript)). AreNamed (child ∷ n.acting ∷ n.above) us) t (p ∙ sym (settle_kept P (child_frame f o)).path, named_first n.acting n.acting n.above f (including_frame o f) older refl refl h)
  named_down o false child n ts p t h =
      subst (λ (us : List (Frame CodeScript)). AreNamed (child ∷ n.acting ∷ n.above) us) t
      (p ∙ sym (settle_kept P (child_frame f o)).path, named_first n.acting n.acting n.above f (settled_frame P (after_creation o f)) older refl (settle_kept P (after_creation o f)).path h)

  resumed_path : (g : Frame CodeScript) (b : Bool) → (if b then settled_frame P g else g).path ≡ g.path
  resumed_path g true = (settle_kept P g).path
  resumed_path g false = refl

  named_up : (k : Numbered Asking) (above : List (Numbered Asking)) (ended : List (Option Asking)) (rest : List (Frame CodeScript)) (g : Frame CodeScript) (gs : List (Frame CodeScript)) → behind_end P rest ≡ g ∷ gs → AreNamed (k ∷ above) (f ∷ rest)
      → AreNamed ((closed_to tell_creator k above ended).acting ∷ (closed_to tell_creator k above ended).above) (g ∷ gs)
  named_up k [] ended [] g gs t h = let x : [] ≡ g ∷ gs = t in absurd cc
  named_up k [] ended (y ∷ rest) g gs t h = absurd h.1
  named_up k (c ∷ above) ended [] g gs t h = absurd h.1
  named_up k (c ∷ above) ended (y ∷ rest) g gs t h =
      subst (λ (us : List (Frame CodeScript)). AreNamed (record { number = c.number; task = tell_creator k.task c.task } ∷ above) us) t (h.1.0 ∙ sym (resumed_path y y.context.final), h.1.1)

  pub named_behind : {count depth : ℕ} (a : Act CodeScript) (q : Ask CodeScript) (line : ℕ) (b : Bool) (n : Nest Asking) (g : Frame CodeScript) (gs : List (Frame CodeScript)) → Told count depth f.context.created f.context.final a q b → (IsHalt a → ⊥)
      → tasks_behind P a v (f ∷ older) ≡ g ∷ gs → AreNamed (n.acting ∷ n.above) (f ∷ older)
      → AreNamed ((if b then n else behind_ask f q line n).acting ∷ (if b then n else behind_ask f q line n).above) (g ∷ gs)
  named_behind a q line _ n g gs (waits e) go t h =
      named_plain a n.acting n.acting n.above (g ∷ gs) refl (λ x. let y : Awaited ≡ Ended = sym e ∙ x in cc) (λ o i x. let y : Awaited ≡ Created o i = sym e ∙ x in cc) t h
  named_behind a q line b n g gs (stops x) go t h = absurd (go x)
  named_behind a q line _ n g gs (on p i x k l m) go t h =
      subst (λ (y : Nest Asking). AreNamed (y.acting ∷ y.above) (g ∷ gs)) (sym (plain_behind f q line n p)) (named_plain a n.acting (with_acting (asking (asked_by q) n.acting.task) n).acting n.above (g ∷ gs) refl k l t h)
  named_behind {count = count} a q line _ n g gs (creates o is act x y) go t h =
      subst (λ (z : Ask CodeScript). AreNamed ((behind_ask f z line n).acting ∷ (behind_ask f z line n).above) (g ∷ gs)) (sym is)
      (named_down (freed_order count o) f.context.final (behind_ask f (Ask.Create o) line n).acting n (g ∷ gs) refl (ap (λ (z : Act CodeScript). tasks_behind P z v (f ∷ older)) (sym act) ∙ t) h)
  named_behind a q line _ n g gs (ends is act) go t h =
      subst (λ (z : Ask CodeScript). AreNamed ((behind_ask f z line n).acting ∷ (behind_ask f z line n).above) (g ∷ gs)) (sym is)
      (named_up n.acting n.above n.ended older g gs (ap (λ (z : Act CodeScript). tasks_behind P z v (f ∷ older)) (sym act) ∙ t) h)

-- Of a code

module _ (code : CodeParts) (fuel : ℕ) where
  module _ (r : FreeRun) (s : IsStage code fuel r) where
    abbrev act : Act CodeScript
    act = act_now (free_program code) s.stands.body

    abbrev ask : Ask CodeScript
    ask = (ask_of (asks code) s.task).ask

    abbrev line : ℕ
    line = (ask_of (asks code) s.task).line

    pub told_here : Told (length code.first) s.task.context.depth s.task.context.created s.task.context.final act ask s.task.awaits
    told_here =
        told (length code.first) s.task act r.cells.items s.task.context.depth s.task.context.created line s.task.context.fuel s.task.context.ticks ask s.task.awaits
        (free_deeds_are_acts CodeScript (asks code) main_order code.first fuel s.task s.older r.cells.items s.few s.stands)

    acting_here : IsActing (free_program code) s.stands.stage s.task
    acting_here = record {
      task = whole_task s.stands.body;
      at_ = s.stands.at_;
      acts = ap (λ (x : Stack CodeScript). top_frame x.base x.inner) s.stands.stack ∙ top_is s.task s.older s.stands.base s.stands.inner s.stands.older s.stands.parts;
    }

    -- the task that acts is the one of the stage
    same_task : (t : Task CodeScript) → At s.stands.stage.state s.stands.stage.active t → act_now (free_program code) t.body ≡ act
    same_task t h = ap (λ (x : Task CodeScript). act_now (free_program code) x.body) (at_same s.stands.stage.state s.stands.stage.active t (whole_task s.stands.body) h s.stands.at_)

    runs_still : {y : Running CodeScript} → RunsOn (free_program code) s.stands.stage y → IsHalt act → ⊥
    runs_still g h = g.goes (subst IsHalt (sym (same_task g.task g.at_)) h)

    halts_here : (e : IsAtEnd (free_program code) s.stands.stage) → IsHalt act
    halts_here e = subst IsHalt (same_task e.task e.at_) e.stops

    -- what the judge of the deed tells
    module _ (d : Deed) (is : IsDeed (length code.first) s.task act ask r.cells.items d) where
      pub goes_here : goes_on d ≡ true → (IsHalt act → ⊥) × (s.task.awaits ≡ false)
      goes_here g = acts_on (length code.first) s.task act r.cells.items s.task.context.depth s.task.context.created ask s.task.awaits d told_here g is

      waits_here : goes_on d ≡ false → (IsHalt act → ⊥) → s.task.awaits ≡ true
      waits_here g go = stays_still (length code.first) s.task act r.cells.items s.task.context.depth s.task.context.created ask s.task.awaits d told_here g is go

      pub touches_here : goes_on d ≡ true → (q : Ask CodeScript) → q ≡ ask → (c : ℕ) → AsksFor q c → c < 1048576
      touches_here g q e c h =
          let k = goes_here g in
          let l : c < length code.first = inside ask s.task.awaits told_here k.0 k.1 c (subst (λ (z : Ask CodeScript). AsksFor z c) e h) in
          let m : length code.first ≤ 1048576 = s.few in
          omega (arith, l, m)

      limits_here : goes_on d ≡ true → (q : Ask CodeScript) → q ≡ ask → makes q ≡ true → (s.task.context.depth < 64) × (s.task.context.created < 65535)
      limits_here g q e h = let k = goes_here g in limits ask s.task.awaits told_here k.0 k.1 (sym (ap makes e) ∙ h)

      pub few_here : goes_on d ≡ true → (q : Ask CodeScript) → q ≡ ask → (created : ℕ) → created ≡ s.task.context.created → makes q ≡ true → created < 65536
      few_here g q e created c h = let l = (limits_here g q e h).1 in omega (arith, l, c)

      pub room_here : goes_on d ≡ true → (q : Ask CodeScript) → q ≡ ask → (n : Nest Asking) (k : Following) → AreNamed (n.acting ∷ n.above) (s.task ∷ s.older) → IsFollowing n k → makes q ≡ true → length k.current.point < 66
      room_here g q e n k named follows h =
          let l : s.task.context.depth < 64 = (limits_here g q e h).0 in
          let d1 : s.task.context.depth ≡ length s.older = s.nested.0.depth in
          let p : length s.task.path ≡ length s.older = path_length fuel s.task s.older s.nested in
          let w : length k.current.point ≡ suc (length (reverse n.acting.task.path)) = ap (λ (x : List ℕ). length x) follows.current.point in
          let v : length (reverse n.acting.task.path) ≡ length n.acting.task.path = length-reverse n.acting.task.path in
          let u : length n.acting.task.path ≡ length s.task.path = ap (λ (x : List ℕ). length x) named.0 in
          omega (arith, l, d1, p, w, v, u)

      -- nothing is noted where the task waits no more, or a fault stops the run
      pub noted_still : goes_on d ≡ false → (n : Nest Asking) (k : Following) → IsFollowing n k → IsNotedAt code fuel r s n k
      noted_still g n k h = record {
        stops = λ x. h;
        goes = λ go. subst (λ (b : Bool). IsFollowing (if b then n else behind_ask s.task ask line n) k) (sym (waits_here g go)) h;
      }

      pub noted_here : goes_on d ≡ true → (q : Ask CodeScript) → q ≡ ask → (l : ℕ) → l ≡ line → (created : ℕ) → created ≡ s.task.context.created → (final : Bool) → final ≡ s.task.context.final
          → (n : Nest Asking) (old new : Following) → AreNamed (n.acting ∷ n.above) (s.task ∷ s.older) → IsFollowing n old → Notes q l created final old new → IsNotedAt code fuel r s n new
      noted_here g q e l le created c final f n old new named h notes =
          let k = goes_here g in
          let now : IsFollowing (behind_ask s.task q l n) new = notes s.task n named.0 c f h in
          let here : IsFollowing (behind_ask s.task ask line n) new = subst (λ (x : ℕ). IsFollowing (behind_ask s.task ask x n) new) le (subst (λ (z : Ask CodeScript). IsFollowing (behind_ask s.task z l n) new) e now) in
          record {
            stops = λ x. absurd (k.0 x);
            goes = λ go. subst (λ (b : Bool). IsFollowing (if b then n else behind_ask s.task ask line n) new) (sym k.1) here;
          }

  -- One turn
  module _ (r : FreeRun) (old mid : Following) (b : IsBeside code fuel r old) (noted : IsNoted code fuel r old mid) where
    abbrev at_now : IsNotedAt code fuel r b.stage b.nest mid
    at_now = noted b.stage b.nest b.named b.follows

    pub beside_next : (new : FreeRun) → IsNext code fuel r b.stage new → IsBeside code fuel new mid
    beside_next new next = record {
      stage = next.stage;
      nest = behind (asks code) b.stage.task b.nest;
      walks = runs_on b.walks (acting_here r b.stage) next.runs;
      named = named_behind (free_program code) b.stage.task b.stage.older (found_by (act r b.stage) r.cells.items) (act r b.stage) (ask r b.stage) (line r b.stage) b.stage.task.awaits b.nest next.stage.task next.stage.older (told_here r b.stage) (runs_still r b.stage next.runs) next.tasks b.named;
      follows = at_now.goes (runs_still r b.stage next.runs);
    }

    pub beside_ended : (cells : List ℕ) → Ends (free_program code) (free_main code fuel) code.first b.stage.stands.stage cells → IsEnded code fuel None mid
    beside_ended cells e = record {
      nest = behind (asks code) b.stage.task b.nest;
      walked = record { stage = e.stage; walks = runs_on b.walks (acting_here r b.stage) e.runs; end = e.end; stop = e.over };
      follows = at_now.goes (runs_still r b.stage e.runs);
    }

    pub beside_failed : (new : FreeRun) (kind : FaultKind) (at_line : ℕ) → IsFailed code fuel r b.stage new kind at_line → IsEnded code fuel (Some (record { kind = kind; line = at_line })) mid
    beside_failed new kind at_line e = record {
      nest = b.nest;
      walked = record { stage = b.stage.stands.stage; walks = b.walks; end = e.end; stop = (e.key, e.fault) };
      follows = at_now.stops (halts_here r b.stage e.end);
    }

  -- The end
  pub all_lacks : (fault : Option RunFault) (k : Following) (l : Lacks) → IsEnded code fuel fault k → IsFinished k fault l → IsLacks code fuel l
  all_lacks fault k l e h = record { nest = e.nest; walked = subst (λ (x : Option RunFault). IsWalked code fuel e.nest x) (sym h.fault_is) e.walked; tasks = h.tasks e.nest e.follows }

  -- The beginning
  none_older : (z : State CodeScript) (older : List (Frame CodeScript)) (p : List ℕ) → p ≡ [] → AreWaiting (free_program code) z older p → older ≡ []
  none_older z [] p e w = refl
  none_older z (f ∷ older) p e (c, w) = let x : [] ≡ c.number ∷ c.body.start.path = sym e ∙ c.path_is in absurd cc

  only_base : (f : Frame CodeScript) (rest : List (Frame CodeScript)) (base : Frame CodeScript) (inner older : List (Frame CodeScript)) → inner ≡ [] → older ≡ [] → f ∷ rest ≡ inner ++ (base ∷ older) → rest ≡ []
  only_base f rest base [] older i o e = let x : f ∷ rest ≡ base ∷ older = e in cc
  only_base f rest base (g ∷ gs) older i o e = let x : g ∷ gs ≡ [] = i in absurd cc

  first_older : (r : FreeRun) (s : IsStage code fuel r) → s.stands.stage ≡ record { state = opening (free_main code fuel) code.first; active = []; printed = [] } → s.older ≡ []
  first_older r s e =
      let at_ : At (opening (free_main code fuel) code.first) [] (whole_task s.stands.body) = subst (λ (z : Running CodeScript). At z.state z.active (whole_task s.stands.body)) e s.stands.at_ in
      let t : whole_task s.stands.body ≡ record { body = record { start = free_main code fuel; found = [] }; given = [] } = (opening_at (free_main code fuel) code.first [] (whole_task s.stands.body) refl at_).1 in
      let body : s.stands.body ≡ record { start = free_main code fuel; found = [] } = ap (λ (x : Task CodeScript). x.body) t in
      let stack : stack_from (free_program code) (free_main code fuel) [] ≡ record { base = s.stands.base; inner = s.stands.inner; ended = false } =
      ap (λ (x : Body CodeScript). stack_from (free_program code) x.start x.found) (sym body) ∙ s.stands.stack in
      let inner : s.stands.inner ≡ [] = ap (λ (x : Stack CodeScript). x.inner) (sym stack ∙ start_at (free_program code) (free_main code fuel)) in
      let path : s.stands.body.start.path ≡ [] = ap (λ (x : Body CodeScript). x.start.path) body in
      only_base s.task s.older s.stands.base s.stands.inner s.stands.older inner (none_older s.stands.stage.state s.stands.older s.stands.body.start.path path s.stands.waiting) s.stands.parts

  named_main : (f : Frame CodeScript) (older : List (Frame CodeScript)) → older ≡ [] → f.path ≡ path_under older → AreNamed (record { number = 0; task = main_asking } ∷ []) (f ∷ older)
  named_main f [] e p = (sym p, tt)
  named_main f (g ∷ rest) e p = let x : g ∷ rest ≡ [] = e in absurd cc

  pub beside_first : (r : FreeRun) (k : Following) → IsFirstStage code fuel r → IsFollowing (alone main_asking) k → IsBeside code fuel r k
  beside_first r k first h = record {
    stage = first.stage;
    nest = alone main_asking;
    walks = subst (λ (z : Running CodeScript). Walks (asks code) (free_main code fuel) code.first z (alone main_asking)) (sym first.opens) opens;
    named = named_main first.stage.task first.stage.older (first_older r first.stage first.opens) first.stage.nested.0.path;
    follows = h;
  }
