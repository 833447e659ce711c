-- What is noted follows the sequential run of a code.
use Rattle.std.proofs.Common.{◌≡◌, ℕ, ◌<◌, refl, sym, subst, ap, ◌∙◌, List, [], ◌∷◌, length, reverse, arith, Bool}
use Rattle.std.proofs.lemmas.List.{length-reverse}
use Rattle.oss_syntax.specs.declared.fault.FaultKind.{FaultKind}
use Rattle.oss_model.specs.Agreement.{MainStarts, Setting}
use Rattle.oss_model.specs.Bodies.{Act, Body, Frame, Order, Program, Start, ask_of, stage_act}
use Rattle.oss_model.specs.Bodies.Act.{Created, Fault}
use Rattle.oss_model.specs.Machine.{At, State, Task}
use Rattle.oss_model.specs.Memory.{Event}
use Rattle.oss_model.specs.Moves.{act_now, opening}
use Rattle.oss_model.specs.Order.{IsIn, IsSuffix, written}
use Rattle.oss_model.specs.Rights.{Touch}
use Rattle.oss_model.specs.Sequence.{Running, RunsOn}
use Rattle.oss_model.proofs.SequenceLemmas.{Stands, opening_at, stands, stands_on}
use Rattle.oss_model.proofs.TreeLemmas.{at_same}
use Rattle.oss_audit.specs.Auditing.{place_in}
use Rattle.oss_audit.specs.Trails.{Place, place_next}
use Rattle.oss_audit.proofs.ActingLemmas.{acting_next}
use Rattle.oss_audit.proofs.DepthLemmas.{acting_deep, acting_may}
use Rattle.oss_audit.proofs.PlaceLemmas.{place_first}
use Rattle.oss_code.specs.declared.code.CodeParts.{CodeParts}
use Rattle.oss_machine.specs.Frames.{CodeScript}
use Rattle.oss_machine.specs.Machines.{asks}
use Rattle.oss_body.specs.declared.act.Act.{Act as CodeAct}
use Rattle.oss_body.specs.declared.act.Act.TheVariants as acts
use Rattle.oss_body.specs.Acting.{acting}
use Rattle.oss_body.specs.Acts.{HasContext, act_seen}
use Rattle.oss_body.specs.Mains.{code_main}
use Rattle.oss_serial.specs.declared.stage.Stage.{Stage}
use Rattle.oss_serial.specs.Stages.{IsFirstStage, IsNext, StandsBeforeFault}
use Rattle.oss_serial.specs.Turns.{whole_task}
use Rattle.oss_body.specs.Relation.{IsBody}
use Rattle.oss_body.specs.declared.body.Body.{Body as Kept}
use Rattle.oss_explain.specs.declared.begun.Begun.{Begun}
use Rattle.oss_explain.specs.declared.begun.Noted.{Noted}
use Rattle.oss_explain.specs.declared.begun.ReleasedAt.{ReleasedAt}
use Rattle.oss_explain.specs.declared.ledger.Ledger.{Ledger}
use Rattle.oss_explain.specs.Ledgers.{HasRoom, IsFirst, IsNoted}
use Rattle.oss_explanation.specs.Lives.{IsEventOf}
use Rattle.oss_explain.specs.Noting.{AreHeldBy, AreOnWay, IsFollowing, IsRight, RiseTo, StandsBefore, acts_at, at_child, at_main, hindering}
use Rattle.oss_explain.proofs.WayLemmas.{note_next}

-- The beginning

module _ (P : Program CodeScript) (main : Start CodeScript) (ms : MainStarts main) (cells : List ℕ) where
  nothing : (q : List ℕ) (e : Event CodeScript) → IsEventOf P (opening main cells) q e → ⊥
  nothing q e h = none (subst (λ (x : Task CodeScript). IsSuffix (e.answer ∷ e.past) x.body.found) (opening_at main cells e.start.path h.happened.task ms.path h.happened.at_).1 h.happened.found)
    where
      none : IsSuffix (e.answer ∷ e.past) [] → ⊥
      none i = elim i [ ]

  held_first : (c : ℕ) (touch : Touch) → AreHeldBy P (opening main cells) [] c touch []
  held_first c touch = record { only = λ k i. absurd (elim i [ ]); all = λ j n x h. absurd (nothing [] h.event h.own) }

  first_right : (b : Begun) → IsFirst b → IsRight P (opening main cells) [] 0 b
  first_right b f =
      record {
        point = f.point;
        released = λ r i c m. absurd (none r (subst (λ (xs : List ReleasedAt). IsIn r xs) f.released i));
        all_released = λ c line h. absurd (nothing [] h.event h.own);
        held = λ c touch. subst (λ (ns : List Noted). AreHeldBy P (opening main cells) [] c touch (hindering c touch ns)) (sym f.noted) (held_first c touch);
        rise = λ c touch. subst (λ (ns : List Noted). RiseTo 0 (hindering c touch ns)) (sym f.noted) tt;
        fresh = λ j r e l s h. nothing r e h;
      }
    where
      none : (r : ReleasedAt) → IsIn r [] → ⊥
      none r i = elim i [ ]

  first_way : (b : Begun) → IsFirst b → AreOnWay P (opening main cells) [] 0 (b ∷ [])
  first_way b f = at_main (first_right b f) f.accesses

way_at : (P : Program CodeScript) (s : State CodeScript) (bs : List Begun) (p q : Place) → p ≡ q → AreOnWay P s q.path q.created bs → AreOnWay P s p.path p.created bs
way_at P s bs p q e h = subst (λ (x : Place). AreOnWay P s x.path x.created bs) (sym e) h

module _ (code : CodeParts) (fuel : ℕ) where
  abbrev P : Program CodeScript
  P = asks code

  abbrev main : Start CodeScript
  main = code_main code fuel

  pub following_begins : (s : Stage) (l : Ledger) → IsFirstStage code (code_main code fuel) code.first s → Setting (code_main code fuel) code.first → IsFirst l.top → l.above ≡ [] → IsFollowing code fuel s l
  following_begins s l h setting top above = record { setting = setting; is_stage = h.stage; way = way }
    where
      current : Body CodeScript
      current = h.stage.current

      at_first : At (opening (code_main code fuel) code.first) [] (whole_task h.stage.current)
      at_first = subst (λ (z : Running CodeScript). At z.state z.active (whole_task h.stage.current)) h.opens h.stage.stands.at_

      body : h.stage.current ≡ record { start = code_main code fuel; found = [] }
      body = ap (λ (t : Task CodeScript). t.body) (opening_at (code_main code fuel) code.first [] (whole_task h.stage.current) setting.starts.path at_first).1

      place : place_in (acting (asks code) h.stage.current.start h.stage.current.found) ≡ record { path = []; created = 0 }
      place = ap (λ (b : Body CodeScript). place_in (acting (asks code) b.start b.found)) body ∙ place_first (asks code) (code_main code fuel) ∙ (λ i. record { path = setting.starts.path i; created = setting.starts.created i })

      list : l.top ∷ reverse l.above ≡ l.top ∷ []
      list = ap (λ (xs : List Begun). l.top ∷ reverse xs) above

      way : AreOnWay (asks code) h.stage.stands.stage.state (acts_at code fuel s h.stage).path (acts_at code fuel s h.stage).context.created (l.top ∷ reverse l.above)
      way =
          way_at (asks code) h.stage.stands.stage.state (l.top ∷ reverse l.above) (place_in (acting (asks code) h.stage.current.start h.stage.current.found)) (record { path = []; created = 0 }) place
          (subst (λ (xs : List Begun). AreOnWay (asks code) h.stage.stands.stage.state [] 0 xs) (sym list)
          (subst (λ (z : Running CodeScript). AreOnWay (asks code) z.state [] 0 (l.top ∷ [])) (sym h.opens) (first_way (asks code) (code_main code fuel) setting.starts code.first l.top top)))

  module _ (s : Stage) (l : Ledger) (st : IsFollowing code fuel s l) where
    abbrev z : Running CodeScript
    z = st.is_stage.stands.stage

    abbrev current : Body CodeScript
    current = st.is_stage.current

    abbrev f : Frame CodeScript
    f = acting P current.start current.found

    stands_now : Stands P main z
    stands_now = stands P main code.first st.setting.starts z st.is_stage.stands.run

    -- the point of a task that creates is short enough
    top_point : (q : List ℕ) (count : ℕ) (b : Begun) (rest : List Begun) → AreOnWay P z.state q count (b ∷ rest) → b.point ≡ written q
    top_point q count b rest (at_main h e) = h.point
    top_point q count b rest (at_child h born more) = h.point

    room : (o : Order CodeScript) (i : Bool) → stage_act P current.start current.found ≡ Created o i → length l.top.point < 66
    room o i e =
        let m = acting_may P current.start current.found o i e in
        let d = acting_deep P main st.setting.starts refl z.state stands_now.made z.active (whole_task current) st.is_stage.stands.at_ in
        let q : length l.top.point ≡ length (0 ∷ reverse f.path) = ap (λ (x : List ℕ). length x) (top_point f.path f.context.created l.top (reverse l.above) st.way) in
        let r : length (reverse f.path) ≡ length f.path = length-reverse f.path in
        let shallow = m.shallow in
        omega (arith, d, q, r, shallow)

    pub has_room : (a : CodeAct) → act_seen a ≡ stage_act P current.start current.found → HasRoom a l.top
    has_room (acts.Create creation included) e = room _ included (sym e)
    has_room (acts.Load c) e = tt
    has_room (acts.Store c v) e = tt
    has_room (acts.Fold c op v slot) e = tt
    has_room acts.End e = tt
    has_room acts.Tick e = tt
    has_room acts.Await e = tt
    has_room acts.Wait e = tt
    has_room (acts.WaitOn ranges) e = tt
    has_room (acts.Release clauses included) e = tt
    has_room (acts.Print key text) e = tt
    has_room (acts.Fault kind line key) e = tt

    module _ (a : CodeAct) (seen : act_seen a ≡ stage_act P current.start current.found) (context : HasContext f.context a) (line created : ℕ) (line_is : line ≡ (ask_of P f).line) (created_is : created ≡ f.context.created)
        (m : Ledger) (noted : IsNoted a line created l m) where
      noted_now : IsNoted a (ask_of P f).line f.context.created l m
      noted_now = subst (λ (n : ℕ). IsNoted a (ask_of P f).line n l m) created_is (subst (λ (n : ℕ). IsNoted a n created l m) line_is noted)

      frame_of : Task CodeScript → Frame CodeScript
      frame_of t = acting P t.body.start t.body.found

      module _ (y : Running CodeScript) (r : RunsOn P z y) where
        same : r.task ≡ whole_task current
        same = at_same z.state z.active r.task (whole_task current) r.at_ st.is_stage.stands.at_

        seen_now : act_seen a ≡ act_now P r.task.body
        seen_now = seen ∙ ap (λ (t : Task CodeScript). act_now P t.body) (sym same)

        way_next : AreOnWay P y.state (place_next (act_seen a) (place_in (acting P r.task.body.start r.task.body.found))).path (place_next (act_seen a) (place_in (acting P r.task.body.start r.task.body.found))).created (m.top ∷ reverse m.above)
        way_next =
            note_next P main st.setting.starts z y stands_now r a l m seen_now
            (subst (λ (t : Task CodeScript). HasContext (acting P t.body.start t.body.found).context a) (sym same) context)
            (subst (λ (t : Task CodeScript). IsNoted a (ask_of P (acting P t.body.start t.body.found)).line (acting P t.body.start t.body.found).context.created l m) (sym same) noted_now)
            (subst (λ (t : Task CodeScript). AreOnWay P z.state (acting P t.body.start t.body.found).path (acting P t.body.start t.body.found).context.created (l.top ∷ reverse l.above)) (sym same) st.way)

        place_then : (u : Task CodeScript) → At y.state y.active u → place_in (acting P u.body.start u.body.found) ≡ place_next (act_seen a) (place_in (acting P r.task.body.start r.task.body.found))
        place_then u h =
            acting_next P main st.setting.starts z y stands_now r (stands_on P main z y st.setting.starts stands_now r).made u h
            ∙ ap (λ (x : Act CodeScript). place_next x (place_in (acting P r.task.body.start r.task.body.found))) (sym seen_now)

      -- the run goes on
      pub following_next : (x : Stage) → IsNext code (code_main code fuel) code.first s st.is_stage x → IsFollowing code fuel x m
      following_next x g =
          record {
            setting = st.setting;
            is_stage = g.stage;
            way =
                way_at P g.stage.stands.stage.state (m.top ∷ reverse m.above) (place_in (acting P g.stage.current.start g.stage.current.found))
                (place_next (act_seen a) (place_in (acting P g.runs.task.body.start g.runs.task.body.found)))
                (place_then g.stage.stands.stage g.runs (whole_task g.stage.current) g.stage.stands.at_) (way_next g.stage.stands.stage g.runs);
          }

      fault_same : (a : CodeAct) (kind : FaultKind) (n : ℕ) (key : List ℕ) → act_seen a ≡ Fault kind n key → IsNoted a line created l m → m ≡ l
      fault_same (acts.Fault kind line key) k n x e h = h
      fault_same (acts.Create creation included) k n x e h = absurd cc
      fault_same (acts.Load c) k n x e h = absurd cc
      fault_same (acts.Store c v) k n x e h = absurd cc
      fault_same (acts.Fold c op v slot) k n x e h = absurd cc
      fault_same acts.End k n x e h = absurd cc
      fault_same acts.Tick k n x e h = absurd cc
      fault_same acts.Await k n x e h = absurd cc
      fault_same acts.Wait k n x e h = absurd cc
      fault_same (acts.WaitOn ranges) k n x e h = absurd cc
      fault_same (acts.Release clauses included) k n x e h = absurd cc
      fault_same (acts.Print key text) k n x e h = absurd cc

      -- the run stands before a fault
      pub following_fails : (kind : FaultKind) (n : ℕ) (kept : Kept) → kept ≡ s.current → StandsBeforeFault code (code_main code fuel) code.first s st.is_stage kind n → StandsBefore code fuel kept m kind n
      following_fails kind n kept k b =
          record {
            setting = st.setting;
            stage = st.is_stage.stands.stage;
            run = st.is_stage.stands.run;
            body = st.is_stage.current;
            is_body = subst (λ (x : Kept). IsBody code st.is_stage.current.start st.is_stage.current.found x) (sym k) st.is_stage.is_current;
            at_ = st.is_stage.stands.at_;
            alive = st.is_stage.stands.alive;
            key = b.key;
            fault = b.fault;
            way = subst (λ (x : Ledger). AreOnWay P z.state f.path f.context.created (x.top ∷ reverse x.above)) (sym (fault_same a kind n b.key (seen ∙ b.fault) noted)) st.way;
          }
