-- The walks over the free run of the other program are walks over the program's own free run, and know the same.
use Rattle.std.proofs.Common.{◌≡◌, ◌∙◌, ℕ, Bool, true, false, List, [], ◌∷◌, length, map, refl, sym, ap, subst}
use Rattle.std.specs.Prelude.{if◌then◌else◌}
use Rattle.oss_syntax.specs.declared.fault.FaultKind.{FaultKind}
use Rattle.oss_model.specs.Bodies.{Act, Ask, Asked, Frame, IsFault, Program, Stack, Start, ask_of, stack_from, top_frame}
use Rattle.oss_model.specs.Bodies.Ask.{Await, Begin, Create, End, Fails, Fold, Print, Read, Release, Tick, Wait, WaitOn, Write}
use Rattle.oss_model.specs.Bodies.Act.{Awaited, Created, Ended, Fault, Folded, Load, Over, Printed, Releases, Store, Ticked, Waited, WaitedOn}
use Rattle.oss_model.specs.Machine.{Task}
use Rattle.oss_model.specs.Moves.{act_now}
use Rattle.oss_model.specs.Sequence.{Running}
use Rattle.oss_freed.specs.Freed.{freed, freed_ask}
use Rattle.oss_lacks.specs.Asking.{Asking, behind_ask}
use Rattle.oss_lacks.specs.Nests.{Nest}
use Rattle.oss_lacks.specs.Walks.{IsActing, Walks, behind}
use Rattle.oss_lacks.specs.Walks.Walks.{opens, runs_on}
use Rattle.oss_missing_waits.specs.Holding.{Holding}
use Rattle.oss_missing_waits.specs.Waits.{IsBehind, IsBehindAsk, IsBehindIf, Mended, Waits}
use Rattle.oss_missing_waits.specs.Waits.Waits.{opens as waits_open, runs_on as waits_on_run}
use Rattle.oss_missing_laws.specs.Missing.{EndsWell}
use Rattle.oss_missing_laws.specs.Programs.{IsNotWrong}
use Rattle.oss_missing_laws.proofs.SameLemmas.{IsSame, same_still}
use Rattle.oss_missing_program_laws.proofs.MovedBack.{acts_back, end_back, on_back, run_back}
use Rattle.oss_missing_program_laws.proofs.MovedBodies.{AskAlike, ask_is, moved_act, moved_ask, moved_frame, moved_start, stands_alike}
use Rattle.oss_missing_program_laws.proofs.MovedRuns.{act_is, end_is, moved_body, moved_running, sequential_alike}

-- The fault of a moved act is the act's own.
abbrev fault_of : {S T : Type 0} → Act T → Act S → Act S
fault_of (Fault kind line key) other = Fault kind line key
fault_of _ other = other

module _ {S T : Type 0} (move : S → T) where
  pub fault_back : (a : Act S) (kind : FaultKind) (line : ℕ) (key : List ℕ) → moved_act move a ≡ Fault kind line key → a ≡ Fault kind line key
  fault_back (Fault k l y) kind line key e = ap (λ (x : Act T). fault_of x (Fault kind line key)) e
  fault_back Ticked kind line key e = absurd (subst IsFault (sym e) tt)
  fault_back (Load c) kind line key e = absurd (subst IsFault (sym e) tt)
  fault_back (Store c v) kind line key e = absurd (subst IsFault (sym e) tt)
  fault_back (Folded c op v slot) kind line key e = absurd (subst IsFault (sym e) tt)
  fault_back (Created o i) kind line key e = absurd (subst IsFault (sym e) tt)
  fault_back Awaited kind line key e = absurd (subst IsFault (sym e) tt)
  fault_back Waited kind line key e = absurd (subst IsFault (sym e) tt)
  fault_back (WaitedOn named) kind line key e = absurd (subst IsFault (sym e) tt)
  fault_back (Releases clauses i) kind line key e = absurd (subst IsFault (sym e) tt)
  fault_back (Printed y text) kind line key e = absurd (subst IsFault (sym e) tt)
  fault_back Ended kind line key e = absurd (subst IsFault (sym e) tt)
  fault_back Over kind line key e = absurd (subst IsFault (sym e) tt)

  -- Programs without their clauses ask alike too.
  ask_freed : (n : ℕ) (q : Ask S) → moved_ask move (freed_ask n q) ≡ freed_ask n (moved_ask move q)
  ask_freed n Begin = refl
  ask_freed n Tick = refl
  ask_freed n (Read c) = refl
  ask_freed n (Write c v) = refl
  ask_freed n (Fold c op v) = refl
  ask_freed n (Create o) = refl
  ask_freed n Await = refl
  ask_freed n Wait = refl
  ask_freed n (WaitOn named) = refl
  ask_freed n (Release clauses) = refl
  ask_freed n (Print text) = refl
  ask_freed n End = refl
  ask_freed n (Fails kind) = refl

  pub freed_alike : (n : ℕ) (P : Program S) (Q : Program T) → AskAlike move P Q → AskAlike move (freed n P) (freed n Q)
  freed_alike n P Q alike s answers =
      ap {B = Asked T} (λ (q : Ask T). record { ask = q; line = (P s answers).line }) (ask_freed n (P s answers).ask)
      ∙ ap {B = Asked T} (λ (a : Asked T). record { ask = freed_ask n a.ask; line = a.line }) (alike s answers)

  -- What is known behind an ask is known behind the one that is moved.
  asked_same : (f : Frame S) (q : Ask S) (line : ℕ) (n : Nest Asking) → behind_ask (moved_frame move f) (moved_ask move q) line n ≡ behind_ask f q line n
  asked_same f Begin line n = refl
  asked_same f Tick line n = refl
  asked_same f (Read c) line n = refl
  asked_same f (Write c v) line n = refl
  asked_same f (Fold c op v) line n = refl
  asked_same f (Create o) line n = refl
  asked_same f Await line n = refl
  asked_same f Wait line n = refl
  asked_same f (WaitOn named) line n = refl
  asked_same f (Release clauses) line n = refl
  asked_same f (Print text) line n = refl
  asked_same f End line n = refl
  asked_same f (Fails kind) line n = refl

  held_ask : (w : Mended) (f : Frame S) (q : Ask S) (line : ℕ) (n m : Nest Holding) → IsBehindAsk w (moved_frame move f) (moved_ask move q) line n m → IsBehindAsk w f q line n m
  held_ask w f Begin line n m h = h
  held_ask w f Tick line n m h = h
  held_ask w f (Read c) line n m h = h
  held_ask w f (Write c v) line n m h = h
  held_ask w f (Fold c op v) line n m h = h
  held_ask w f (Create o) line n m h = record { used = h.used; use_is = h.use_is; new_is = h.new_is }
  held_ask w f Await line n m h = h
  held_ask w f Wait line n m h = h
  held_ask w f (WaitOn named) line n m h = h
  held_ask w f (Release clauses) line n m h = h
  held_ask w f (Print text) line n m h = h
  held_ask w f End line n m h = h
  held_ask w f (Fails kind) line n m h = h

  held_if : (b : Bool) (w : Mended) (f : Frame S) (q : Ask S) (line : ℕ) (n m : Nest Holding) → IsBehindIf b w (moved_frame move f) (moved_ask move q) line n m → IsBehindIf b w f q line n m
  held_if true w f q line n m h = h
  held_if false w f q line n m h = held_ask w f q line n m h

  top_moved : (base : Frame S) (inner : List (Frame S)) → top_frame (moved_frame move base) (map (moved_frame move) inner) ≡ moved_frame move (top_frame base inner)
  top_moved base [] = refl
  top_moved base (f ∷ fs) = refl

  module _ (P : Program S) (Q : Program T) (alike : AskAlike move P Q) where
    behind_same : (f : Frame S) (n : Nest Asking) → behind Q (moved_frame move f) n ≡ behind P f n
    behind_same f n =
        ap (λ (a : Asked T). if f.awaits then n else behind_ask (moved_frame move f) a.ask a.line n) (ask_is move P Q alike f)
        ∙ ap (λ (m : Nest Asking). if f.awaits then n else m) (asked_same f (ask_of P f).ask (ask_of P f).line n)

    held_back : (w : Mended) (f : Frame S) (n m : Nest Holding) → IsBehind w Q (moved_frame move f) n m → IsBehind w P f n m
    held_back w f n m h =
        held_if f.awaits w f (ask_of P f).ask (ask_of P f).line n m
        (subst (λ (a : Asked T). IsBehindIf f.awaits w (moved_frame move f) a.ask a.line n m) (ask_is move P Q alike f) h)

    -- The task that acts is one that is moved.
    pub record IsActingBack (z : Running S) (f : Frame T) : Type 0 where
      pub frame : Frame S
      pub acts : IsActing P z frame
      pub is : moved_frame move frame ≡ f

    acting_back : (z : Running S) (w : Running T) (f : Frame T) → IsSame Q (moved_running move z) w → IsActing Q w f → IsActingBack z f
    acting_back z w f e a =
        let t = acts_back move P Q alike z w a.task e a.at_ in
        let s : Stack S = stack_from P t.task.body.start t.task.body.found in
        record {
          frame = top_frame s.base s.inner;
          acts = record { task = t.task; at_ = t.at_; acts = refl };
          is = sym (top_moved s.base s.inner)
              ∙ sym (ap (λ (x : Stack T). top_frame x.base x.inner) (stands_alike move P Q alike t.task.body.start t.task.body.found))
              ∙ ap (λ (u : Task T). top_frame (stack_from Q u.body.start u.body.found).base (stack_from Q u.body.start u.body.found).inner) t.is ∙ a.acts;
        }

    -- Ends

    wrong_back : (a : Act S) (b : Act T) → b ≡ moved_act move a → IsNotWrong b → IsNotWrong a
    wrong_back a b e h kind line key k w = h kind line key (e ∙ ap (moved_act move) k) w

    wrong_forth : (a : Act S) (b : Act T) → b ≡ moved_act move a → IsNotWrong a → IsNotWrong b
    wrong_forth a b e h kind line key k w = h kind line key (fault_back a kind line key (sym e ∙ k)) w

    -- Both runs end without a fault of annotations, or none does.
    pub well_forth : (main : Start S) (first : List ℕ) → EndsWell P main first → EndsWell Q (moved_start move main) first
    well_forth main first h = record {
      stage = moved_running move h.stage;
      run = sequential_alike move P Q alike h.run;
      own = end_is move P Q alike h.stage h.own;
      well = wrong_forth (act_now P h.own.task.body) (act_now Q (moved_body move h.own.task.body)) (act_is move P Q alike h.own.task.body) h.well;
    }

    pub well_back : (main : Start S) (first : List ℕ) → EndsWell Q (moved_start move main) first → EndsWell P main first
    well_back main first h =
        let b = run_back move P Q alike main first h.run in
        let e = end_back move P Q alike b.stage h.stage b.same h.own in
        record { stage = b.stage; run = b.run; own = e.own; well = wrong_back (act_now P e.own.task.body) (act_now Q h.own.task.body) e.act h.well }

  -- Walks

  module _ (P : Program S) (Q : Program T) (alike : AskAlike move P Q) (first : List ℕ) where
    abbrev F : Program S
    F = freed (length first) P

    abbrev G : Program T
    G = freed (length first) Q

    both_freed : AskAlike move F G
    both_freed = freed_alike (length first) P Q alike

    -- The first walk comes to a stage of the program's own free run that is the same when it is moved, and knows the same there.
    pub record IsWalkBack (main : Start S) (x : Running T) (n : Nest Asking) : Type 0 where
      pub stage : Running S
      pub walks : Walks P main first stage n
      pub same : IsSame G (moved_running move stage) x

    pub walk_back : (main : Start S) {x : Running T} {n : Nest Asking} → Walks Q (moved_start move main) first x n → IsWalkBack main x n
    walk_back main opens = record { stage = _; walks = opens; same = same_still G _ }
    walk_back main (runs_on {z = w} {y = x} {f = f} {n = n} h a r) =
        let b = walk_back main h in
        let s = on_back move F G both_freed b.stage w x b.same r in
        let g = acting_back F G both_freed b.stage w f b.same a in
        let e : behind P g.frame n ≡ behind Q f n = sym (behind_same P Q alike g.frame n) ∙ ap (λ (v : Frame T). behind Q v n) g.is in
        record { stage = s.stage; walks = subst (λ (m : Nest Asking). Walks P main first s.stage m) e (runs_on b.walks g.acts s.runs); same = s.same }

    -- So does the second.
    pub record IsWaitBack (w : Mended) (main : Start S) (x : Running T) (n : Nest Holding) : Type 0 where
      pub stage : Running S
      pub waits : Waits w P main first stage n
      pub same : IsSame G (moved_running move stage) x

    pub wait_back : (w : Mended) (main : Start S) {x : Running T} {n : Nest Holding} → Waits w Q (moved_start move main) first x n → IsWaitBack w main x n
    wait_back w main waits_open = record { stage = _; waits = waits_open; same = same_still G _ }
    wait_back w main (waits_on_run {z = y} {y = x} {f = f} {n = n} {m = m} h a r k) =
        let b = wait_back w main h in
        let s = on_back move F G both_freed b.stage y x b.same r in
        let g = acting_back F G both_freed b.stage y f b.same a in
        let i : IsBehind w P g.frame n m = held_back P Q alike w g.frame n m (subst (λ (v : Frame T). IsBehind w Q v n m) (sym g.is) k) in
        record { stage = s.stage; waits = waits_on_run b.waits g.acts s.runs i; same = s.same }
