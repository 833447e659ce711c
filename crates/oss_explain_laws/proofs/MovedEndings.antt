-- The run of a program ends as that of its code does, whose scripts are moved.
use Rattle.std.proofs.Common.{◌≡◌, ◌∙◌, ℕ, Bool, true, false, List, [], ◌∷◌, map, Option, Some, None, option_map, refl, sym, ap, subst}
use Rattle.std.specs.Prelude.{if◌then◌else◌}
use Rattle.oss_syntax.specs.declared.fault.FaultKind.{FaultKind}
use Rattle.oss_syntax.specs.declared.tree.program.Item.{Item}
use Rattle.oss_model.specs.Agreement.{AreWords, Setting}
use Rattle.oss_model.specs.Bodies.{Act, Ask, Asked, Body, Frame, IsHalt, Order, Program, Stack, Start, ask_of, stack_from, stage_act, top_frame}
use Rattle.oss_model.specs.Bodies.Ask.{Await, Begin, Create, End, Fails, Fold, Print, Read, Release, Tick, Wait, WaitOn, Write}
use Rattle.oss_model.specs.Bodies.Act.{Awaited, Created, Ended, Fault, Folded, Load, Over, Printed, Releases, Store, Ticked, Waited, WaitedOn}
use Rattle.oss_model.specs.Context.{Context}
use Rattle.oss_model.specs.Machine.{At, State, Task, find, same_path}
use Rattle.oss_model.specs.Memory.{Event, Happened}
use Rattle.oss_model.specs.Moves.{act_now}
use Rattle.oss_model.specs.Order.{IsSuffix}
use Rattle.oss_model.specs.Sequence.{IsAtEnd, Running, Sequential}
use Rattle.oss_model.proofs.TreeLemmas.{at_same, some_same}
use Rattle.oss_meaning.specs.Expressions.{TaskBody, TreeScript}
use Rattle.oss_meaning.specs.Meaning.{asks_of}
use Rattle.oss_meaning.specs.Results.{IsOutcome, Outcome, first_cells, main_of}
use Rattle.oss_meaning.specs.Results.IsOutcome.{ends as outcome_ends, fails as outcome_fails}
use Rattle.oss_code.specs.declared.code.CodeParts.{CodeParts}
use Rattle.oss_machine.specs.Frames.{CodeScript}
use Rattle.oss_machine.specs.Machines.{asks}
use Rattle.oss_body.specs.Acting.{acting}
use Rattle.oss_body.specs.Mains.{code_main}
use Rattle.oss_lower_laws.specs.Programs.{IsCodeOf, moved_ask, moved_asked, moved_order, moved_start}
use Rattle.oss_lower_laws.proofs.LiveLemmas.{programs_are_lively}
use Rattle.oss_lower_laws.proofs.MovedBodies.{acts_alike, moved_act, moved_frame, stands_alike}
use Rattle.oss_lower_laws.proofs.MovedRuns.{moved_body, moved_running, moved_state, moved_task, outcome_alike, outcomes_alike, sequential_alike}
use Rattle.oss_lower_laws.proofs.OneResult.{Same, one_end}
use Rattle.oss_lower_laws.proofs.OutcomeLaws.{main_setting, start_is}
use Rattle.oss_lower_laws.proofs.OutcomeLemmas.{run_has_one}
use Rattle.oss_explain.specs.declared.ending.Ending.{Ending}
use Rattle.oss_explanation.specs.declared.explained.Explained.{Explained}
use Rattle.oss_explain.specs.Endings.{IsEnding}
use Rattle.oss_explain.specs.Endings.IsEnding.{done, fault}
use Rattle.oss_explain.specs.Ways.{entry_of}
use Rattle.oss_explanation.specs.Explanations.{Explains, IsExplained}
use Rattle.oss_explanation.specs.Lives.{actor, line_at}
use Rattle.oss_explain_laws.specs.Claims.{EndingsAlike}
use Rattle.oss_explain_laws.proofs.Alike.{ActsAlike, AsksAlike, EventsAlike, Matched, OrdersAlike, StatesAlike, ask_self, explains_there, listed_alike, turned}

-- Moved acts and asks

-- the spot of a body of the program is its place
abbrev spot_by : (TaskBody → ℕ) → TreeScript → ℕ
spot_by places s = places s.body

order_forth : (places : TaskBody → ℕ) (o : Order TreeScript) → OrdersAlike (spot_by places) entry_of o (moved_order places o)
order_forth places o = record { clauses = refl; when = refl; last = refl; named = refl }

order_back : (places : TaskBody → ℕ) (o : Order TreeScript) → OrdersAlike entry_of (spot_by places) (moved_order places o) o
order_back places o = record { clauses = refl; when = refl; last = refl; named = refl }

act_forth : (places : TaskBody → ℕ) (a : Act TreeScript) → ActsAlike (spot_by places) entry_of a (moved_act places a)
act_forth places Ticked = ActsAlike.ticked
act_forth places (Load c) = ActsAlike.load
act_forth places (Store c v) = ActsAlike.store
act_forth places (Folded c op v slot) = ActsAlike.folded
act_forth places (Created o included) = ActsAlike.created (order_forth places o)
act_forth places Awaited = ActsAlike.awaited
act_forth places Waited = ActsAlike.waited
act_forth places (WaitedOn named) = ActsAlike.waited_on
act_forth places (Releases clauses included) = ActsAlike.releases
act_forth places (Printed key text) = ActsAlike.printed
act_forth places Ended = ActsAlike.ended
act_forth places (Fault kind line key) = ActsAlike.fault
act_forth places Over = ActsAlike.over

act_back : (places : TaskBody → ℕ) (a : Act TreeScript) → ActsAlike entry_of (spot_by places) (moved_act places a) a
act_back places Ticked = ActsAlike.ticked
act_back places (Load c) = ActsAlike.load
act_back places (Store c v) = ActsAlike.store
act_back places (Folded c op v slot) = ActsAlike.folded
act_back places (Created o included) = ActsAlike.created (order_back places o)
act_back places Awaited = ActsAlike.awaited
act_back places Waited = ActsAlike.waited
act_back places (WaitedOn named) = ActsAlike.waited_on
act_back places (Releases clauses included) = ActsAlike.releases
act_back places (Printed key text) = ActsAlike.printed
act_back places Ended = ActsAlike.ended
act_back places (Fault kind line key) = ActsAlike.fault
act_back places Over = ActsAlike.over

ask_forth : (places : TaskBody → ℕ) (a : Ask TreeScript) → AsksAlike (spot_by places) entry_of a (moved_ask places a)
ask_forth places Begin = AsksAlike.begin
ask_forth places Tick = AsksAlike.tick
ask_forth places (Read c) = AsksAlike.read
ask_forth places (Write c v) = AsksAlike.write
ask_forth places (Fold c op v) = AsksAlike.fold
ask_forth places (Create o) = AsksAlike.create (order_forth places o)
ask_forth places Await = AsksAlike.await
ask_forth places Wait = AsksAlike.wait
ask_forth places (WaitOn named) = AsksAlike.wait_on
ask_forth places (Release clauses) = AsksAlike.release
ask_forth places (Print text) = AsksAlike.print
ask_forth places End = AsksAlike.end
ask_forth places (Fails kind) = AsksAlike.fails

ask_back : (places : TaskBody → ℕ) (a : Ask TreeScript) → AsksAlike entry_of (spot_by places) (moved_ask places a) a
ask_back places Begin = AsksAlike.begin
ask_back places Tick = AsksAlike.tick
ask_back places (Read c) = AsksAlike.read
ask_back places (Write c v) = AsksAlike.write
ask_back places (Fold c op v) = AsksAlike.fold
ask_back places (Create o) = AsksAlike.create (order_back places o)
ask_back places Await = AsksAlike.await
ask_back places Wait = AsksAlike.wait
ask_back places (WaitOn named) = AsksAlike.wait_on
ask_back places (Release clauses) = AsksAlike.release
ask_back places (Print text) = AsksAlike.print
ask_back places End = AsksAlike.end
ask_back places (Fails kind) = AsksAlike.fails

pub halts : (places : TaskBody → ℕ) (a : Act TreeScript) → IsHalt a → IsHalt (moved_act places a)
halts places Ticked h = h
halts places (Load d) h = h
halts places (Store d v) h = h
halts places (Folded d op v slot) h = h
halts places (Created o included) h = h
halts places Awaited h = h
halts places Waited h = h
halts places (WaitedOn named) h = h
halts places (Releases clauses included) h = h
halts places (Printed key text) h = h
halts places Ended h = h
halts places (Fault kind line key) h = h
halts places Over h = h

-- Moved states

pub find_is : (places : TaskBody → ℕ) (ts : List (Task TreeScript)) (p : List ℕ) → find (map (moved_task places) ts) p ≡ option_map (moved_task places) (find ts p)
unfolding find
find_is places [] p = refl
find_is places (t ∷ ts) p = by_path (same_path t.body.start.path p) (find_is places ts p)
  where
    by_path : (here : Bool) → find (map (moved_task places) ts) p ≡ option_map (moved_task places) (find ts p)
        → ◌≡◌ {A = Option (Task CodeScript)} (if here then Some (moved_task places t) else find (map (moved_task places) ts) p) (option_map (moved_task places) (if here then Some t else find ts p))
    by_path true later = refl
    by_path false later = later

pub at_moved : (places : TaskBody → ℕ) (s : State TreeScript) (p : List ℕ) (t : Task TreeScript) → At s p t → At (moved_state places s) p (moved_task places t)
at_moved places s p t h = find_is places s.tasks p ∙ ap (option_map (moved_task places)) h

top_is : (places : TaskBody → ℕ) (base : Frame TreeScript) (inner : List (Frame TreeScript)) → top_frame (moved_frame places base) (map (moved_frame places) inner) ≡ moved_frame places (top_frame base inner)
top_is places base [] = refl
top_is places base (f ∷ fs) = refl

module _ (all : List Item) (code : CodeParts) (of : IsCodeOf all code) where
  abbrev P : Program TreeScript
  P = asks_of all

  abbrev Q : Program CodeScript
  Q = asks code

  abbrev spot : TreeScript → ℕ
  spot = spot_by of.places

  abbrev pub moved_event : Event TreeScript → Event CodeScript
  moved_event e = record { start = moved_start of.places e.start; past = e.past; answer = e.answer }

  acting_is : (b : Start TreeScript) (past : List ℕ) → acting Q (moved_start of.places b) past ≡ moved_frame of.places (acting P b past)
  acting_is b past = ap (λ (s : Stack CodeScript). top_frame s.base s.inner) (stands_alike all code of b past) ∙ top_is of.places (stack_from P b past).base (stack_from P b past).inner

  ask_is : (f : Frame TreeScript) → ask_of Q (moved_frame of.places f) ≡ moved_asked of.places (ask_of P f)
  ask_is f = sym (of.alike f.script f.answers)

  asked_is : (b : Start TreeScript) (past : List ℕ) → ask_of Q (acting Q (moved_start of.places b) past) ≡ moved_asked of.places (ask_of P (acting P b past))
  asked_is b past = ap (λ (f : Frame CodeScript). ask_of Q f) (acting_is b past) ∙ ask_is (acting P b past)

  pub event_forth : (e : Event TreeScript) → EventsAlike spot entry_of P Q e (moved_event e)
  event_forth e = record {
    past = refl;
    context = sym (ap (λ (f : Frame CodeScript). f.context) (acting_is e.start e.past));
    path = sym (ap (λ (f : Frame CodeScript). f.path) (acting_is e.start e.past));
    on_line = sym (ap (λ (a : Asked CodeScript). a.line) (asked_is e.start e.past));
    act = subst (λ (a : Act CodeScript). ActsAlike spot entry_of (stage_act P e.start e.past) a) (sym (acts_alike all code of e.start e.past)) (act_forth of.places (stage_act P e.start e.past));
  }

  event_back : (e : Event TreeScript) → EventsAlike entry_of spot Q P (moved_event e) e
  event_back e = record {
    past = refl;
    context = ap (λ (f : Frame CodeScript). f.context) (acting_is e.start e.past);
    path = ap (λ (f : Frame CodeScript). f.path) (acting_is e.start e.past);
    on_line = ap (λ (a : Asked CodeScript). a.line) (asked_is e.start e.past);
    act = subst (λ (a : Act CodeScript). ActsAlike entry_of spot a (stage_act P e.start e.past)) (sym (acts_alike all code of e.start e.past)) (act_back of.places (stage_act P e.start e.past));
  }

  pub happened_forth : (s : State TreeScript) (e : Event TreeScript) → Happened s e → Happened (moved_state of.places s) (moved_event e)
  happened_forth s e h = record { task = moved_task of.places h.task; at_ = at_moved of.places s e.start.path h.task h.at_; start = ap (moved_start of.places) h.start; found = h.found }

  matched_back : (s : State TreeScript) (g : Event CodeScript) → Happened (moved_state of.places s) g → Matched entry_of spot Q P s g
  matched_back s g h = go (find s.tasks g.start.path) refl
    where
      go : (x : Option (Task TreeScript)) → find s.tasks g.start.path ≡ x → Matched entry_of spot Q P s g
      go None m = let k : Some h.task ≡ None = sym h.at_ ∙ find_is of.places s.tasks g.start.path ∙ ap (option_map (moved_task of.places)) m in absurd cc
      go (Some t) m =
          let k : moved_task of.places t ≡ h.task = at_same (moved_state of.places s) g.start.path (moved_task of.places t) h.task (at_moved of.places s g.start.path t m) h.at_ in
          let b : g.start ≡ moved_start of.places t.body.start = sym h.start ∙ sym (ap (λ (x : Task CodeScript). x.body.start) k) in
          let p : g.start.path ≡ t.body.start.path = ap (λ (x : Start CodeScript). x.path) b in
          let e : Event TreeScript = record { start = t.body.start; past = g.past; answer = g.answer } in
          let one : record { start = moved_start of.places t.body.start; past = g.past; answer = g.answer } ≡ g = λ i. record { start = sym b i; past = g.past; answer = g.answer } in
          record {
            event = e;
            happened = record { task = t; at_ = subst (λ (x : List ℕ). find s.tasks x ≡ Some t) p m; start = refl; found = subst (λ (x : Task CodeScript). IsSuffix (g.answer ∷ g.past) x.body.found) (sym k) h.found };
            alike = subst (λ (x : Event CodeScript). EventsAlike entry_of spot Q P x e) one (event_back e);
          }

  pub moved_alike : (s : State TreeScript) → StatesAlike spot entry_of P Q s (moved_state of.places s)
  moved_alike s = record {
    there = λ e h. record { event = moved_event e; happened = happened_forth s e h; alike = event_forth e };
    back = λ g h. matched_back s g h;
  }

  pub act_is : (b : Body TreeScript) → act_now Q (moved_body of.places b) ≡ moved_act of.places (act_now P b)
  act_is b = acts_alike all code of b.start b.found

  end_is : (z : Running TreeScript) → IsAtEnd P z → IsAtEnd Q (moved_running of.places z)
  end_is z end = record {
    task = moved_task of.places end.task;
    at_ = at_moved of.places z.state z.active end.task end.at_;
    stops = subst IsHalt (sym (act_is end.task.body)) (halts of.places (act_now P end.task.body) end.stops);
  }

  module _ (main : Start TreeScript) (cells : List ℕ) where
    explained_forth : (e : Explained) → IsExplained P spot main cells all e → IsExplained Q entry_of (moved_start of.places main) cells all e
    unfolding end_is
    explained_forth e is =
        let b = is.end.task.body in
        let f = acting P b.start b.found in
        let h = acting Q (moved_start of.places b.start) b.found in
        record {
          stage = moved_running of.places is.stage;
          run = sequential_alike all code of is.run;
          end = end_is is.stage is.end;
          kind = is.kind;
          line = is.line;
          key = is.key;
          fails = act_is b ∙ ap (moved_act of.places) is.fails;
          explains = explains_there P Q is.stage.state (moved_state of.places is.stage.state) (moved_alike is.stage.state) all f h is.kind is.line e
              (sym (ap (λ (x : Frame CodeScript). x.context) (acting_is b.start b.found))) (sym (ap (λ (x : Frame CodeScript). x.path) (acting_is b.start b.found)))
              (subst (λ (x : Asked CodeScript). AsksAlike spot entry_of (ask_of P f).ask x.ask) (sym (asked_is b.start b.found)) (ask_forth of.places (ask_of P f).ask)) is.explains;
        }

    ending_forth : (e : Ending) → IsEnding P spot main cells all e → IsEnding Q entry_of (moved_start of.places main) cells all e
    unfolding explained_forth
    ending_forth _ (done o) = done (outcome_alike all code of _ o)
    ending_forth _ (fault {e = e} is k l) = fault (explained_forth e is) k l

    module _ (setting : Setting main cells) where
      -- an explanation that tells of this fault
      record Told (e : Explained) (kind : FaultKind) (line : ℕ) : Type 0 where
        is : IsExplained P spot main cells all e
        of_kind : is.kind ≡ kind
        on_line : is.line ≡ line

      told_at_end : (e : Explained) (is : IsExplained Q entry_of (moved_start of.places main) cells all e) (o : Outcome) → IsOutcome P main cells o → Told e is.kind is.line
      unfolding end_is
      told_at_end e is _ (outcome_ends {z = y} run stop over) =
          let same = one_end Q (sequential_alike all code of run) (end_is y stop) is.run is.end in
          let t = moved_task of.places stop.task in
          let at : At is.stage.state is.stage.active t = sym (same.found is.stage.active) ∙ ap (λ (p : List ℕ). find (moved_state of.places y.state).tasks p) (sym same.active) ∙ at_moved of.places y.state y.active stop.task stop.at_ in
          let k : t ≡ is.end.task = at_same is.stage.state is.stage.active t is.end.task at is.end.at_ in
          let no : ◌≡◌ {A = Act CodeScript} Over (Fault is.kind is.line is.key) = sym (act_is stop.task.body ∙ ap (moved_act of.places) over) ∙ ap (λ (x : Task CodeScript). act_now Q x.body) k ∙ is.fails in
          absurd cc
      told_at_end e is _ (outcome_fails {z = y} {kind = kind} {line = line} {key = key} run stop fails) =
          let same = one_end Q (sequential_alike all code of run) (end_is y stop) is.run is.end in
          let t = moved_task of.places stop.task in
          let at : At is.stage.state is.stage.active t = sym (same.found is.stage.active) ∙ ap (λ (p : List ℕ). find (moved_state of.places y.state).tasks p) (sym same.active) ∙ at_moved of.places y.state y.active stop.task stop.at_ in
          let k : t ≡ is.end.task = at_same is.stage.state is.stage.active t is.end.task at is.end.at_ in
          let one : ◌≡◌ {A = Act CodeScript} (Fault kind line key) (Fault is.kind is.line is.key) = sym (act_is stop.task.body ∙ ap (moved_act of.places) fails) ∙ ap (λ (x : Task CodeScript). act_now Q x.body) k ∙ is.fails in
          let b = stop.task.body in
          let f = acting P b.start b.found in
          let g = acting Q (moved_start of.places b.start) b.found in
          let told : Explains Q entry_of is.stage.state all g is.kind is.line e = subst (λ (x : Task CodeScript). Explains Q entry_of is.stage.state all (acting Q x.body.start x.body.found) is.kind is.line e) (sym k) is.explains in
          let moved : Explains Q entry_of (moved_state of.places y.state) all g is.kind is.line e =
          explains_there Q Q is.stage.state (moved_state of.places y.state) (listed_alike entry_of Q is.stage.state (moved_state of.places y.state) (λ p. sym (same.found p))) all g g is.kind is.line e refl refl (ask_self entry_of (ask_of Q g).ask) told in
          let own : Explains P spot y.state all f is.kind is.line e =
          explains_there Q P (moved_state of.places y.state) y.state (turned (moved_alike y.state)) all g f is.kind is.line e
          (ap (λ (x : Frame CodeScript). x.context) (acting_is b.start b.found)) (ap (λ (x : Frame CodeScript). x.path) (acting_is b.start b.found))
          (subst (λ (x : Asked CodeScript). AsksAlike entry_of spot x.ask (ask_of P f).ask) (sym (asked_is b.start b.found)) (ask_back of.places (ask_of P f).ask)) moved in
          record {
            is = record { stage = y; run = run; end = stop; kind = is.kind; line = is.line; key = is.key; fails = fails ∙ fault_there kind is.kind line is.line key is.key one; explains = own };
            of_kind = refl;
            on_line = refl;
          }
        where
          fault_there : (j k : FaultKind) (l m : ℕ) (p q : List ℕ) → ◌≡◌ {A = Act CodeScript} (Fault j l p) (Fault k m q) → ◌≡◌ {A = Act TreeScript} (Fault j l p) (Fault k m q)
          fault_there j k l m p q e = cc

      ending_back : (e : Ending) → IsEnding Q entry_of (moved_start of.places main) cells all e → IsEnding P spot main cells all e
      ending_back _ (done o) = done ((outcomes_alike all code of main cells setting _).1 o)
      ending_back _ (fault {e = e} is k l) =
          let own = (run_has_one (asks_of all) main cells setting (programs_are_lively all code of)).some in
          let t = told_at_end e is own.0 own.1 in
          fault t.is (t.of_kind ∙ k) (t.on_line ∙ l)

pub endings_alike : EndingsAlike
endings_alike all code of words fuel e =
    let from = start_is all code of fuel in
    let there : Start CodeScript → List ℕ → Type 0 = λ main cells. IsEnding (asks code) entry_of main cells all e in (
      λ h. subst (λ cells. there (code_main code fuel) cells) (sym of.first) (subst (λ main. there main (first_cells all)) from (ending_forth all code of (main_of all fuel) (first_cells all) e h)),
      λ h. ending_back all code of (main_of all fuel) (first_cells all) (main_setting all fuel (subst AreWords of.first words)) e
          (subst (λ main. there main (first_cells all)) (sym from) (subst (λ cells. there (code_main code fuel) cells) of.first h)),
    )
