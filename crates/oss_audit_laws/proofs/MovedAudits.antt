-- The audit of a program is that of its code, whose scripts are moved.
use Rattle.std.proofs.Common.{◌≡◌, ◌∙◌, ℕ, Bool, true, false, List, [], ◌∷◌, map, Option, Some, None, option_map, refl, sym, ap, subst}
use Rattle.std.specs.Prelude.{if◌then◌else◌}
use Rattle.oss_syntax.specs.declared.tree.program.Item.{Item}
use Rattle.oss_model.specs.Agreement.{AreWords, Setting}
use Rattle.oss_model.specs.Bodies.{Act, Body, Frame, IsHalt, Program, Stack, Start, stack_from, stage_act, top_frame}
use Rattle.oss_model.specs.Bodies.Act.{Awaited, Created, Ended, Fault, Folded, Load, Over, Printed, Releases, Store, Ticked, Waited, WaitedOn}
use Rattle.oss_model.specs.Machine.{At, State, Task, find, same_path}
use Rattle.oss_model.specs.Memory.{Event, Happened}
use Rattle.oss_model.specs.Moves.{act_now}
use Rattle.oss_model.specs.Order.{IsSuffix}
use Rattle.oss_model.specs.Sequence.{IsAtEnd, Running, Sequential}
use Rattle.oss_model.specs.declared.answer.Answer.{Answer}
use Rattle.oss_model.specs.declared.answer.Answer.TheVariants as answers
use Rattle.oss_model.proofs.TreeLemmas.{at_same}
use Rattle.oss_meaning.specs.Expressions.{TaskBody, TreeScript}
use Rattle.oss_meaning.specs.Meaning.{asks_of}
use Rattle.oss_meaning.specs.Results.{IsOutcome, Outcome, first_cells, main_of}
use Rattle.oss_meaning.specs.Results.IsOutcome.{ends as outcome_ends, fails as outcome_fails}
use Rattle.oss_code.specs.declared.code.CodeParts.{CodeParts}
use Rattle.oss_machine.specs.Frames.{CodeScript}
use Rattle.oss_machine.specs.Machines.{asks}
use Rattle.oss_body.specs.Mains.{code_main}
use Rattle.oss_lower_laws.specs.Programs.{IsCodeOf, moved_order, moved_start}
use Rattle.oss_lower_laws.proofs.LiveLemmas.{programs_are_lively}
use Rattle.oss_lower_laws.proofs.MovedBodies.{acts_alike, moved_act, moved_frame, stands_alike}
use Rattle.oss_lower_laws.proofs.MovedRuns.{moved_body, moved_running, moved_state, moved_task, outcome_alike, outcomes_alike, sequential_alike}
use Rattle.oss_lower_laws.proofs.OneResult.{one_end}
use Rattle.oss_lower_laws.proofs.OutcomeLaws.{main_setting, start_is}
use Rattle.oss_lower_laws.proofs.OutcomeLemmas.{run_has_one}
use Rattle.oss_audit.specs.declared.unused.Unused.{Unused}
use Rattle.oss_audit_laws.specs.Claims.{AuditsAlike}
use Rattle.oss_audit.specs.Trails.{Declares, Place, touches}
use Rattle.oss_audit.specs.Unused.{AreUnused, HasDeclared, HasTouched, IsAudited, ends, fails}
use Rattle.oss_body.specs.Acting.{acting}
use Rattle.oss_audit.proofs.FollowLemmas.{creation_of, of_creation, of_touch, touch_of}
use Rattle.oss_audit_laws.proofs.OneAudit.{same_unused}

-- Moved acts

same_touch : (places : TaskBody → ℕ) (a : Act TreeScript) (c : ℕ) → touches (moved_act places a) c ≡ touches a c
same_touch places Ticked c = refl
same_touch places (Load d) c = refl
same_touch places (Store d v) c = refl
same_touch places (Folded d op v slot) c = refl
same_touch places (Created o included) c = refl
same_touch places Awaited c = refl
same_touch places Waited c = refl
same_touch places (WaitedOn named) c = refl
same_touch places (Releases clauses included) c = refl
same_touch places (Printed key text) c = refl
same_touch places Ended c = refl
same_touch places (Fault kind line key) c = refl
same_touch places Over c = refl

same_declares : (places : TaskBody → ℕ) (a : Act TreeScript) (at : Place) (q : List ℕ) (c : ℕ) → ◌≡◌ {A = Type 0} (Declares (moved_act places a) at q c) (Declares a at q c)
same_declares places Ticked at q c = refl
same_declares places (Load d) at q c = refl
same_declares places (Store d v) at q c = refl
same_declares places (Folded d op v slot) at q c = refl
same_declares places (Created o included) at q c = refl
same_declares places Awaited at q c = refl
same_declares places Waited at q c = refl
same_declares places (WaitedOn named) at q c = refl
same_declares places (Releases clauses included) at q c = refl
same_declares places (Printed key text) at q c = refl
same_declares places Ended at q c = refl
same_declares places (Fault kind line key) at q c = refl
same_declares places Over at q c = refl

halts : (places : TaskBody → ℕ) (a : Act TreeScript) → IsHalt a → IsHalt (moved_act places a)
halts places Ticked h = h
halts places (Load d) h = h
halts places (Store d v) h = h
halts places (Folded d op v slot) h = h
halts places (Created o included) h = h
halts places Awaited h = h
halts places Waited h = h
halts places (WaitedOn named) h = h
halts places (Releases clauses included) h = h
halts places (Printed key text) h = h
halts places Ended h = h
halts places (Fault kind line key) h = h
halts places Over h = h

-- Moved states

find_is : (places : TaskBody → ℕ) (ts : List (Task TreeScript)) (p : List ℕ) → find (map (moved_task places) ts) p ≡ option_map (moved_task places) (find ts p)
unfolding find
find_is places [] p = refl
find_is places (t ∷ ts) p = by_path (same_path t.body.start.path p) (find_is places ts p)
  where
    by_path : (here : Bool) → find (map (moved_task places) ts) p ≡ option_map (moved_task places) (find ts p)
        → ◌≡◌ {A = Option (Task CodeScript)} (if here then Some (moved_task places t) else find (map (moved_task places) ts) p) (option_map (moved_task places) (if here then Some t else find ts p))
    by_path true later = refl
    by_path false later = later

at_moved : (places : TaskBody → ℕ) (s : State TreeScript) (p : List ℕ) (t : Task TreeScript) → At s p t → At (moved_state places s) p (moved_task places t)
at_moved places s p t h = find_is places s.tasks p ∙ ap (option_map (moved_task places)) h

top_is : (places : TaskBody → ℕ) (base : Frame TreeScript) (inner : List (Frame TreeScript)) → top_frame (moved_frame places base) (map (moved_frame places) inner) ≡ moved_frame places (top_frame base inner)
top_is places base [] = refl
top_is places base (f ∷ fs) = refl

module _ (all : List Item) (code : CodeParts) (of : IsCodeOf all code) where
  abbrev P : Program TreeScript
  P = asks_of all

  abbrev Q : Program CodeScript
  Q = asks code

  abbrev moved_event : Event TreeScript → Event CodeScript
  moved_event e = record { start = moved_start of.places e.start; past = e.past; answer = e.answer }

  acting_is : (b : Start TreeScript) (past : List ℕ) → acting Q (moved_start of.places b) past ≡ moved_frame of.places (acting P b past)
  acting_is b past = ap (λ (s : Stack CodeScript). top_frame s.base s.inner) (stands_alike all code of b past) ∙ top_is of.places (stack_from P b past).base (stack_from P b past).inner

  happened_forth : (s : State TreeScript) (e : Event TreeScript) → Happened s e → Happened (moved_state of.places s) (moved_event e)
  happened_forth s e h = record { task = moved_task of.places h.task; at_ = at_moved of.places s e.start.path h.task h.at_; start = ap (moved_start of.places) h.start; found = h.found }

  record Back (s : State TreeScript) (e : Event CodeScript) : Type 0 where
    event : Event TreeScript
    happened : Happened s event
    start_is : e.start ≡ moved_start of.places event.start
    past_is : e.past ≡ event.past

  happened_back : (s : State TreeScript) (e : Event CodeScript) → Happened (moved_state of.places s) e → Back s e
  happened_back s e h = go (find s.tasks e.start.path) refl
    where
      go : (x : Option (Task TreeScript)) → find s.tasks e.start.path ≡ x → Back s e
      go None m = let k : Some h.task ≡ None = sym h.at_ ∙ find_is of.places s.tasks e.start.path ∙ ap (option_map (moved_task of.places)) m in absurd cc
      go (Some t) m =
          let k : moved_task of.places t ≡ h.task = at_same (moved_state of.places s) e.start.path (moved_task of.places t) h.task (at_moved of.places s e.start.path t m) h.at_ in
          let b : e.start ≡ moved_start of.places t.body.start = sym h.start ∙ sym (ap (λ (x : Task CodeScript). x.body.start) k) in
          let p : e.start.path ≡ t.body.start.path = ap (λ (x : Start CodeScript). x.path) b in
          record {
            event = record { start = t.body.start; past = e.past; answer = e.answer };
            happened = record { task = t; at_ = subst (λ (x : List ℕ). find s.tasks x ≡ Some t) p m; start = refl; found = subst (λ (x : Task CodeScript). IsSuffix (e.answer ∷ e.past) x.body.found) (sym k) h.found };
            start_is = b;
            past_is = refl;
          }

  module _ (s : State TreeScript) where
    touched_forth : (q : List ℕ) (c : ℕ) → HasTouched P s q c → HasTouched Q (moved_state of.places s) q c
    touched_forth q c h =
        let m = touch_of (stage_act Q (moved_start of.places h.event.start) h.event.past) c
        (ap (λ (a : Act CodeScript). touches a c) (acts_alike all code of h.event.start h.event.past) ∙ same_touch of.places (stage_act P h.event.start h.event.past) c ∙ of_touch h.touches) in
        record {
          event = moved_event h.event;
          happened = happened_forth s h.event h.happened;
          touch = m.0;
          slot = m.1;
          touches = m.2;
          below = subst (λ (f : Frame CodeScript). IsSuffix q f.path) (sym (acting_is h.event.start h.event.past)) h.below;
        }

    touched_back : (q : List ℕ) (c : ℕ) → HasTouched Q (moved_state of.places s) q c → HasTouched P s q c
    touched_back q c h =
        let b = happened_back s h.event h.happened in
        let act : stage_act Q h.event.start h.event.past ≡ moved_act of.places (stage_act P b.event.start b.event.past) =
        (λ i. stage_act Q (b.start_is i) (b.past_is i)) ∙ acts_alike all code of b.event.start b.event.past in
        let frame : acting Q h.event.start h.event.past ≡ moved_frame of.places (acting P b.event.start b.event.past) =
        (λ i. acting Q (b.start_is i) (b.past_is i)) ∙ acting_is b.event.start b.event.past in
        let m = touch_of (stage_act P b.event.start b.event.past) c
        (sym (same_touch of.places (stage_act P b.event.start b.event.past) c) ∙ sym (ap (λ (a : Act CodeScript). touches a c) act) ∙ of_touch h.touches) in
        record { event = b.event; happened = b.happened; touch = m.0; slot = m.1; touches = m.2; below = subst (λ (f : Frame CodeScript). IsSuffix q f.path) frame h.below }

    declared_forth : (q : List ℕ) (c : ℕ) → HasDeclared P s q c → HasDeclared Q (moved_state of.places s) q c
    declared_forth q c h =
        record {
          event = moved_event h.event;
          happened = happened_forth s h.event h.happened;
          order = moved_order of.places h.order;
          included = h.included;
          creates = acts_alike all code of h.event.start h.event.past ∙ ap (moved_act of.places) h.creates;
          path = subst (λ (f : Frame CodeScript). q ≡ f.context.created ∷ f.path) (sym (acting_is h.event.start h.event.past)) h.path;
          named = h.named;
        }

    declared_back : (q : List ℕ) (c : ℕ) → HasDeclared Q (moved_state of.places s) q c → HasDeclared P s q c
    declared_back q c h =
        let b = happened_back s h.event h.happened in
        let f = acting P b.event.start b.event.past in
        let at : Place = record { path = f.path; created = f.context.created } in
        let act : stage_act Q h.event.start h.event.past ≡ moved_act of.places (stage_act P b.event.start b.event.past) =
        (λ i. stage_act Q (b.start_is i) (b.past_is i)) ∙ acts_alike all code of b.event.start b.event.past in
        let frame : acting Q h.event.start h.event.past ≡ moved_frame of.places (acting P b.event.start b.event.past) =
        (λ i. acting Q (b.start_is i) (b.past_is i)) ∙ acting_is b.event.start b.event.past in
        let path : q ≡ f.context.created ∷ f.path = subst (λ (x : Frame CodeScript). q ≡ x.context.created ∷ x.path) frame h.path in
        let here : Declares (moved_act of.places (stage_act P b.event.start b.event.past)) at q c =
        of_creation (moved_act of.places (stage_act P b.event.start b.event.past)) at q c h.order h.included (sym act ∙ h.creates) path h.named in
        let x = creation_of (stage_act P b.event.start b.event.past) at q c (coe_by (same_declares of.places (stage_act P b.event.start b.event.past) at q c) here) in
        record { event = b.event; happened = b.happened; order = x.order; included = x.included; creates = x.is; path = x.path; named = x.named }
      where
        coe_by : {A B : Type 0} → ◌≡◌ {A = Type 0} A B → A → B
        coe_by e a = subst (λ (X : Type 0). X) e a

    unused_forth : (us : List Unused) → AreUnused P s us → AreUnused Q (moved_state of.places s) us
    unused_forth us h =
        record {
          rises = h.rises;
          points = h.points;
          some = h.some;
          only = λ q c t. let u = h.only q c t in record { declared = declared_forth q c u.declared; untouched = λ m. u.untouched (touched_back q c m) };
          all = λ q c u. h.all q c (record { declared = declared_back q c u.declared; untouched = λ m. u.untouched (touched_forth q c m) });
        }

    unused_back : (us : List Unused) → AreUnused Q (moved_state of.places s) us → AreUnused P s us
    unused_back us h =
        record {
          rises = h.rises;
          points = h.points;
          some = h.some;
          only = λ q c t. let u = h.only q c t in record { declared = declared_back q c u.declared; untouched = λ m. u.untouched (touched_forth q c m) };
          all = λ q c u. h.all q c (record { declared = declared_forth q c u.declared; untouched = λ m. u.untouched (touched_back q c m) });
        }

  act_is : (b : Body TreeScript) → act_now Q (moved_body of.places b) ≡ moved_act of.places (act_now P b)
  act_is b = acts_alike all code of b.start b.found

  abbrev end_is : (z : Running TreeScript) → IsAtEnd P z → IsAtEnd Q (moved_running of.places z)
  end_is z end = record { task = moved_task of.places end.task; at_ = at_moved of.places z.state z.active end.task end.at_; stops = subst IsHalt (sym (act_is end.task.body)) (halts of.places (act_now P end.task.body) end.stops) }

  audits_forth : {main : Start TreeScript} {cells : List ℕ} (a : Answer) (us : List Unused) → IsAudited P main cells a us → IsAudited Q (moved_start of.places main) cells a us
  audits_forth a us (ends {z = z} {us = us'} run end over un) = ends (sequential_alike all code of run) (end_is z end) (act_is end.task.body ∙ ap (moved_act of.places) over) (unused_forth z.state us' un)
  audits_forth a us (fails {o = o} run e) = fails (outcome_alike all code of o run) e

  module _ (main : Start TreeScript) (cells : List ℕ) (setting : Setting main cells) where
    -- the program comes to its end too
    back_end : (z : Running CodeScript) (us : List Unused) → Sequential Q (moved_start of.places main) cells z → (end : IsAtEnd Q z) → act_now Q end.task.body ≡ Over → AreUnused Q z.state us
        → (o : Outcome) → IsOutcome P main cells o → IsAudited P main cells (answers.Done z.printed z.state.cells) us
    back_end z us run end over un o (outcome_ends {z = y} own stop done) =
        let same = one_end Q (sequential_alike all code of own) (end_is y stop) run end in
        let there = same_unused Q z.state (moved_state of.places y.state) (λ p. sym (same.found p)) us un in
        subst (λ (x : Answer). IsAudited P main cells x us) (λ i. answers.Done (same.printed i) (same.cells i)) (ends own stop done (unused_back y.state us there))
    back_end z us run end over un o (outcome_fails {z = y} {kind = kind} {line = line} {key = key} own stop fault) =
        let same = one_end Q (sequential_alike all code of own) (end_is y stop) run end in
        let t = moved_task of.places stop.task in
        let at : At z.state z.active t = sym (same.found z.active) ∙ ap (λ (p : List ℕ). find (moved_state of.places y.state).tasks p) (sym same.active) ∙ at_moved of.places y.state y.active stop.task stop.at_ in
        let k : t ≡ end.task = at_same z.state z.active t end.task at end.at_ in
        let no : Fault kind line key ≡ Over = sym (act_is stop.task.body ∙ ap (moved_act of.places) fault) ∙ ap (λ (x : Task CodeScript). act_now Q x.body) k ∙ over in
        absurd cc

    audits_back : (a : Answer) (us : List Unused) → IsAudited Q (moved_start of.places main) cells a us → IsAudited P main cells a us
    audits_back a us (ends {z = z} {us = us'} run end over un) =
        let own = (run_has_one (asks_of all) main cells setting (programs_are_lively all code of)).some in
        back_end z us' run end over un own.0 own.1
    audits_back a us (fails {o = o} run e) = fails ((outcomes_alike all code of main cells setting o).1 run) e

pub audits_alike : AuditsAlike
audits_alike all code of words fuel a us =
    let from = start_is all code of fuel in
    let there : Start CodeScript → List ℕ → Type 0 = λ main cells. IsAudited (asks code) main cells a us in (
      λ h. subst (λ cells. there (code_main code fuel) cells) (sym of.first) (subst (λ main. there main (first_cells all)) from (audits_forth all code of a us h)),
      λ h. audits_back all code of (main_of all fuel) (first_cells all) (main_setting all fuel (subst AreWords of.first words)) a us
          (subst (λ main. there main (first_cells all)) (sym from) (subst (λ cells. there (code_main code fuel) cells) of.first h)),
    )
