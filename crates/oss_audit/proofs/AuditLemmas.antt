-- The audit of a code follows its sequential run, and tells what is unused at its end.
use Rattle.std.proofs.Common.{◌≡◌, ℕ, ◌<◌, ◌≤◌, ◌⊎◌, inl, inr, refl, sym, subst, ap, ◌∙◌, List, [], ◌∷◌, length, reverse, arith, Bool, false}
use Rattle.std.proofs.lemmas.List.{length-reverse}
use Rattle.std.specs.Prelude.{IfOk, Result, Ok, Err}
use Rattle.std.specs.declared.alloc.AllocError.{AllocError}
use Rattle.oss_syntax.specs.declared.fault.FaultKind.{FaultKind}
use Rattle.oss_model.specs.declared.answer.Answer.{Answer}
use Rattle.oss_model.specs.declared.answer.Answer.TheVariants as answers
use Rattle.oss_model.specs.Agreement.{Setting}
use Rattle.oss_model.specs.Bodies.{Act, Body, Order, Program, Start, stack_from, stage_act}
use Rattle.oss_model.specs.Bodies.Act.{Created}
use Rattle.oss_model.specs.Machine.{At, Task}
use Rattle.oss_model.specs.Moves.{act_now}
use Rattle.oss_model.specs.Order.{IsSuffix, whole, longer}
use Rattle.oss_model.specs.Sequence.{Running, RunsOn}
use Rattle.oss_model.proofs.BodyLemmas.{stack_ok}
use Rattle.oss_model.proofs.SequenceLemmas.{Stands, stands}
use Rattle.oss_model.proofs.StageLemmas.{no_inner_of_open}
use Rattle.oss_model.proofs.TreeLemmas.{at_same}
use Rattle.oss_meaning.specs.Results.{IsOutcome}
use Rattle.oss_code.specs.declared.code.CodeParts.{CodeParts}
use Rattle.oss_machine.specs.Frames.{CodeScript}
use Rattle.oss_machine.specs.Machines.{asks}
use Rattle.oss_body.specs.declared.act.Act.{Act as CodeAct}
use Rattle.oss_body.specs.declared.act.Act.TheVariants as acts
use Rattle.oss_body.specs.Acts.{act_seen}
use Rattle.oss_body.specs.Mains.{code_main}
use Rattle.oss_serial.specs.declared.stage.Stage.{Stage}
use Rattle.oss_serial.specs.Stages.{IsFirstStage, IsNext}
use Rattle.oss_serial.specs.Turns.{Ends, whole_task}
use Rattle.oss_audit.specs.declared.begun.Begun.{Begun}
use Rattle.oss_audit.specs.declared.run.End.{End}
use Rattle.oss_audit.specs.declared.run.End.TheVariants as end
use Rattle.oss_audit.specs.declared.unused.AuditRun.{AuditRun}
use Rattle.oss_audit.specs.declared.unused.Unused.{Unused}
use Rattle.oss_audit.specs.declared.watch.Watch.{Watch}
use Rattle.oss_audit.specs.Auditing.{Follows, IsAuditing, IsEndAudited, IsFinished, place_in}
use Rattle.oss_audit.specs.Audits.{IsAuditOf}
use Rattle.oss_audit.specs.Following.{AreOnWay, IsFollowing, IsOnWay, at_child, at_main}
use Rattle.oss_audit.specs.Trails.{Place, place_of}
use Rattle.oss_audit.specs.Unused.{AreUnused, IsAudited, IsTold, IsUnused, ends, fails}
use Rattle.oss_body.specs.Acting.{acting}
use Rattle.oss_audit.specs.Watches.{HasRoom, IsFirst, IsNoted}
use Rattle.oss_audit.proofs.ActingLemmas.{alone_is}
use Rattle.oss_audit.proofs.DepthLemmas.{acting_deep, acting_may}
use Rattle.oss_audit.proofs.FollowLemmas.{follows_first, follows_next}
use Rattle.oss_audit.proofs.FollowingLemmas.{first_follows, note_follows}
use Rattle.oss_audit.proofs.PathLemmas.{path_same, suffix_split}

own_of : {S : Type 0} (trail : List (Act S)) {f : ℕ → Bool} {q : List ℕ} {closed : ℕ} {rest : List Begun} (b : Begun) → AreOnWay trail f q closed (b ∷ rest) → IsOnWay trail b q closed
own_of trail b (at_main h t) = h
own_of trail b (at_child h t d rest) = h

-- what main has kept, where main acts
main_of : {S : Type 0} (trail : List (Act S)) {f : ℕ → Bool} {closed : ℕ} {rest : List Begun} (b : Begun) → AreOnWay trail f [] closed (b ∷ rest) → IsOnWay trail b [] closed
main_of trail b (at_main h t) = h

-- each path but main's lies at or below a child of main
nil_suffix : (q : List ℕ) → IsSuffix [] q
nil_suffix [] = whole
nil_suffix (k ∷ q) = longer (nil_suffix q)

below_main : (k : ℕ) (p : List ℕ) → (j : ℕ) × IsSuffix (j ∷ []) (k ∷ p)
below_main k p = go (suffix_split (nil_suffix (k ∷ p)))
  where
    go : ([] ≡ k ∷ p) ⊎ ((j : ℕ) × IsSuffix (j ∷ []) (k ∷ p)) → (j : ℕ) × IsSuffix (j ∷ []) (k ∷ p)
    go (inl e) = absurd cc
    go (inr h) = h

below_main_at : (q : List ℕ) (k : ℕ) (p : List ℕ) → q ≡ k ∷ p → (j : ℕ) × IsSuffix (j ∷ []) q
below_main_at q k p e = let h = below_main k p in (h.0, subst (λ (x : List ℕ). IsSuffix (h.0 ∷ []) x) (sym e) h.1)

below_or : (m n : ℕ) → (m < n) ⊎ (n ≤ m)
below_or m n = grind arith

module _ {S : Type 0} (P : Program S) (z : Running S) (trail : List (Act S)) (f : Follows P z trail) (b : Begun) (n : ℕ) (counts : b.created ≡ n) (h : IsOnWay trail b [] n) where
  told_unused : (q : List ℕ) (c : ℕ) → IsTold b.told.items q c → IsUnused P z.state q c
  told_unused q c t =
      let l = h.below t.item t.listed in
      let e : l.path ≡ q = path_same l.path q (sym l.point ∙ t.tells.point) in
      let o = h.only l.number q c l.few (subst (λ (x : List ℕ). IsSuffix (l.number ∷ []) x) e l.below) t in
      record { declared = f.declared q c o.0; untouched = λ m. o.1 (f.all_touched q c m) }

  unused_told : (q : List ℕ) (c : ℕ) → IsUnused P z.state q c → IsTold b.told.items q c
  unused_told q c u = go (below_main_at q (acting P u.declared.event.start u.declared.event.past).context.created (acting P u.declared.event.start u.declared.event.past).path u.declared.path)
    where
      go : (j : ℕ) × IsSuffix (j ∷ []) q → IsTold b.told.items q c
      go (j, s) = closed (below_or j n)
        where
          closed : (j < n) ⊎ (n ≤ j) → IsTold b.told.items q c
          closed (inl l) = h.all j q c l s (f.all_declared q c u.declared) (λ m. u.untouched (f.touched q c m))
          closed (inr l) = absurd (h.fresh j q c (omega (arith, l, counts)) s (inl (f.all_declared q c u.declared)))

  pub are_unused : AreUnused P z.state b.told.items
  are_unused = record { rises = h.rises; points = λ u i. let l = h.below u i in (l.path, l.point); some = λ u i. u.range.ordered; only = told_unused; all = unused_told }

module _ (code : CodeParts) (fuel : ℕ) where
  abbrev P : Program CodeScript
  P = asks code

  abbrev main : Start CodeScript
  main = code_main code fuel

  pub auditing_begins : (s : Stage) (w : Watch) → IsFirstStage code (code_main code fuel) code.first s → Setting (code_main code fuel) code.first → IsFirst w.top → w.above ≡ [] → IsAuditing code fuel s w
  auditing_begins s w h setting top above =
      record {
        setting = setting;
        is_stage = h.stage;
        trail = [];
        follows = subst (λ (z : Running CodeScript). Follows P z []) (sym h.opens) (follows_first P main setting.starts code.first);
        kept = first_follows w top above;
      }

  module _ (s : Stage) (w : Watch) (st : IsAuditing code fuel s w) where
    abbrev z : Running CodeScript
    z = st.is_stage.stands.stage

    abbrev current : Body CodeScript
    current = st.is_stage.current

    stands_now : Stands P main z
    stands_now = stands P main code.first st.setting.starts z st.is_stage.stands.run

    here : place_in (acting P current.start current.found) ≡ place_of st.trail
    here = st.follows.place (whole_task current) st.is_stage.stands.at_

    -- the task that acts may create, if it does
    room : (o : Order CodeScript) (i : Bool) → stage_act P current.start current.found ≡ Created o i → (length w.top.point < 66) × (w.top.created < 65535)
    room o i e =
        let m = acting_may P current.start current.found o i e in
        let d = acting_deep P main st.setting.starts refl z.state stands_now.made z.active (whole_task current) st.is_stage.stands.at_ in
        let p : (acting P current.start current.found).path ≡ (place_of st.trail).path = ap (λ (x : Place). x.path) here in
        let c : (acting P current.start current.found).context.created ≡ (place_of st.trail).created = ap (λ (x : Place). x.created) here in
        let l : length (acting P current.start current.found).path ≡ length (place_of st.trail).path = ap (λ (x : List ℕ). length x) p in
        let q : length w.top.point ≡ length (0 ∷ reverse (place_of st.trail).path) = ap (λ (x : List ℕ). length x) (own_of st.trail w.top st.kept.way).point in
        let r : length (reverse (place_of st.trail).path) ≡ length (place_of st.trail).path = length-reverse (place_of st.trail).path in
        let shallow = m.shallow in
        let few = m.few in
        let n = st.kept.created in
        (omega (arith, d, l, q, r, shallow), omega (arith, c, n, few))

    pub has_room : (a : CodeAct) → act_seen a ≡ stage_act P current.start current.found → HasRoom a w.top
    has_room (acts.Create creation included) e = room _ included (sym e)
    has_room (acts.Load c) e = tt
    has_room (acts.Store c v) e = tt
    has_room (acts.Fold c op v slot) e = tt
    has_room acts.End e = tt
    has_room acts.Tick e = tt
    has_room acts.Await e = tt
    has_room acts.Wait e = tt
    has_room (acts.WaitOn ranges) e = tt
    has_room (acts.Release clauses included) e = tt
    has_room (acts.Print key text) e = tt
    has_room (acts.Fault kind line key) e = tt

    module _ (a : CodeAct) (seen : act_seen a ≡ stage_act P current.start current.found) (n : Watch) (noted : IsNoted a w n) where
      kept_next : IsFollowing (act_seen a ∷ st.trail) n
      kept_next = note_follows a w n noted st.trail st.kept

      follows_on : (y : Running CodeScript) → RunsOn P z y → Follows P y (act_seen a ∷ st.trail)
      follows_on y r =
          let t : r.task ≡ whole_task current = at_same z.state z.active r.task (whole_task current) r.at_ st.is_stage.stands.at_ in
          let e : act_now P r.task.body ≡ act_seen a = ap (λ (x : Task CodeScript). act_now P x.body) t ∙ sym seen in
          subst (λ (x : Act CodeScript). Follows P y (x ∷ st.trail)) e (follows_next P main st.setting.starts z y stands_now r st.trail st.follows)

      -- the run goes on
      pub auditing_next : (x : Stage) → IsNext code (code_main code fuel) code.first s st.is_stage x → IsAuditing code fuel x n
      auditing_next x g = record { setting = st.setting; is_stage = g.stage; trail = act_seen a ∷ st.trail; follows = follows_on g.stage.stands.stage g.runs; kept = kept_next }

      -- main has ended
      module _ (cells output : List ℕ) (tasks : ℕ) (e : Ends (asks code) (code_main code fuel) code.first st.is_stage.stands.stage cells output tasks) where
        abbrev trail_now : List (Act CodeScript)
        trail_now = act_seen a ∷ st.trail

        stands_then : Stands P main e.stage
        stands_then = stands P main code.first st.setting.starts e.stage e.run

        -- main acts
        place_then : (place_of trail_now).path ≡ []
        place_then =
            let t = e.end.task in
            let f = follows_on e.stage e.runs in
            let m = at_same e.stage.state [] stands_then.made.main_task t stands_then.made.main_at (subst (λ (x : List ℕ). At e.stage.state x t) e.at_main e.end.at_) in
            let b : t.body.start ≡ main = ap (λ (x : Task CodeScript). x.body.start) (sym m) ∙ stands_then.made.main_start in
            let k = stack_from P t.body.start t.body.found in
            let none = no_inner_of_open t.body.start.context t.body.start.path k.base k.inner (stack_ok P t.body.start t.body.found) (ap (λ (x : Start CodeScript). x.context.final) b ∙ st.setting.starts.final) in
            ap (λ (x : Place). x.path) (sym (f.place t e.end.at_) ∙ alone_is P t.body.start t.body.found none) ∙ ap (λ (x : Start CodeScript). x.path) b ∙ st.setting.starts.path

        told_then : AreUnused P e.stage.state n.top.told.items
        told_then =
            let way = subst (λ (x : List ℕ). AreOnWay trail_now (λ c. false) x (place_of trail_now).created (n.top ∷ reverse n.above)) place_then kept_next.way in
            are_unused P e.stage trail_now (follows_on e.stage e.runs) n.top (place_of trail_now).created kept_next.created (main_of trail_now n.top way)

        pub auditing_ends : IsAudited (asks code) (code_main code fuel) code.first (answers.Done output cells) n.top.told.items
        auditing_ends =
            subst (λ (x : Answer). IsAudited P main code.first x n.top.told.items) (λ i. answers.Done (e.output_is i) (e.cells_are i)) (ends e.run e.end e.over told_then)

  -- a fault
  pub auditing_fails : (kind : FaultKind) (line : ℕ) (text : List ℕ) (tasks : ℕ) → (entries : ℕ) × IsOutcome (asks code) (code_main code fuel) code.first (record { answer = answers.Fault kind line text; tasks = tasks; entries = entries })
      → IsAudited (asks code) (code_main code fuel) code.first (answers.Fault kind line text) []
  auditing_fails kind line text tasks (entries, o) = fails o refl

  -- what is told at an end is the audit
  pub finished : (e : Result End AllocError) (s : Stage) (w : Watch) (told : List Unused) (r : Result AuditRun AllocError) → IfOk e (λ x. IsEndAudited code fuel s w x) → told ≡ w.top.told.items → IfOk r (λ run. IsFinished e s told run) → IfOk r (λ run. IsAuditOf code fuel run)
  finished e s w told (Err error) h k i = tt
  finished (Ok end.Done) s w told (Ok run) h k (a, u) = rw (a, u ∙ k) h
  finished (Ok (end.Fault kind line)) s w told (Ok run) h k (a, u) = rw (a, u) h
  finished (Err error) s w told (Ok run) h k i = absurd i
