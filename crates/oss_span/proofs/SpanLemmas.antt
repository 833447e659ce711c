-- The pass beside the run, from stage to stage.
use Rattle.std.proofs.Common.{◌≡◌, ◌≢◌, ◌≤◌, ◌<◌, ◌⊎◌, inl, inr, refl, sym, subst, ap, ◌∙◌, ℕ, zero, suc, ◌+◌, ◌-◌, ◌^◌, Bool, true, false, List, [], ◌∷◌, ◌++◌, length, map, Option, Some, None, arith}
use Rattle.std.specs.Prelude.{if◌then◌else◌, ◌||◌, ◌&&◌, not, nat_lt, min, slice_get}
use Rattle.std.proofs.lemmas.Bool.Decides.{nat_tests}
use Rattle.oss_syntax.specs.declared.access.Access.{Access}
use Rattle.oss_syntax.specs.declared.access.Range.{Range}
use Rattle.oss_syntax.specs.declared.access.Op.{Op}
use Rattle.oss_syntax.specs.declared.access.Mode.{Mode}
use Rattle.oss_syntax.specs.declared.access.Mode.TheVariants.{Read, Write, Fold}
use Rattle.oss_ranges.specs.declared.piece.Piece.{Piece}
use Rattle.oss_ranges.specs.Cells.{is_within, value_at}
use Rattle.oss_meaning.specs.Clauses.{waited_for}
use Rattle.oss_meaning.specs.Sections.{declared_on}
use Rattle.oss_judge.specs.Joined.{held_right}
use Rattle.oss_machine.specs.Frames.{CodeScript}
use Rattle.oss_model.specs.Bodies.{Act, Order, Program, Start}
use Rattle.oss_model.specs.Bodies.Act.{Awaited, Created, Releases, Waited, WaitedOn}
use Rattle.oss_model.specs.Context.{in_clauses, right_of}
use Rattle.oss_model.specs.History.{IsMade}
use Rattle.oss_model.specs.Machine.{At, HasAccess, State, Task}
use Rattle.oss_model.specs.Order.{written}
use Rattle.oss_model.specs.Rights.{Right, NoRight, Released, Holds}
use Rattle.oss_model.proofs.TreeLemmas.{at_same}
use Rattle.oss_body.specs.declared.act.Act.{Act as CodeAct}
use Rattle.oss_body.specs.declared.act.Act.TheVariants as acts
use Rattle.oss_body.specs.Acts.{act_seen}
use Rattle.oss_chain_laws.specs.Chains.{Best as Longest, better as better_chain, capped, no_chain, one_more}
use Rattle.oss_chain_laws.specs.Happenings.{Happening, Acting, Giving, Does, Frees, StartsWith, WaitsFor, tick_of}
use Rattle.oss_chain_laws.specs.Pass.{Kept, IsKept, acted}
use Rattle.oss_chain_laws.specs.Runs.{ticks_at}
use Rattle.oss_chain_laws.specs.Tables.{GivenBelow, given_below, GivenWith, given_with, InActWay, InReadWay, InTurnWay, turn_way, read_way, write_way, InWriteWay, JustBefore, LeftBelow, LeftWith}
use Rattle.oss_chain_laws.proofs.ChainLemmas.{most_step}
use Rattle.oss_chain_laws.proofs.LongestLemmas.{has_ticks}
use Rattle.oss_chain_laws.proofs.PassLemmas.{Most, same, either_most, no_most, acted_kept, not_nil}
use Rattle.oss_chain_laws.proofs.PassTheorem.{above_access}
use Rattle.oss_chain_laws.proofs.TableLemmas.{act_back, act_forth}
use Rattle.oss_chain_laws.proofs.ValueLemmas.{is_strong_fold as is_fold_right, other_keeps, released_frees, released_keeps, releases_of}
use Rattle.oss_span.specs.declared.best.Best.{Best}
use Rattle.oss_span.specs.declared.best.Mark.{Mark}
use Rattle.oss_span.specs.declared.frame.Frame.{Frame}
use Rattle.oss_span.specs.declared.marks.Marks.{Marks}
use Rattle.oss_span.specs.declared.marks.Way.{Way}
use Rattle.oss_span.specs.declared.marks.Way.TheVariants as ways
use Rattle.oss_span.specs.declared.node.Node.{Node}
use Rattle.oss_span.specs.declared.node.Node.TheVariants.{Acts}
use Rattle.oss_span.specs.declared.run.Run.{Run}
use Rattle.oss_span.specs.Acts.{IsSealed, after_act, ticked}
use Rattle.oss_span.specs.Bests.{better, better_mark, no_best, no_mark}
use Rattle.oss_span.specs.Changes.{before_of, freed, is_strong_fold, picked}
use Rattle.oss_span.specs.Frames.{Grows, IsActed, IsDoneBy, IsOther, IsReleased, IsStartOf, IsWaitOf, is_tick}
use Rattle.oss_span.specs.Shown.{IsBelow, Shows, shows_acts, acts_back}
use Rattle.oss_span.specs.Tables.{IsGreatest, IsGreatestOf, in_ranges, released}
use Rattle.oss_span.proofs.ToldLemmas.{bools, get_last, grows_one, grows_same, most_small, ShowsBest, ShowsMark, ShowsRun, shows_below, shows_on, Tells, tells_better, tells_none, tells_same, better_best_shown, none_shown, weight}
use Rattle.oss_model.specs.Order.{IsSuffix, whole}
use Rattle.oss_model.specs.Moves.{act_now, created_now, is_ended, after_answer, new_task, found_by}
use Rattle.oss_model.specs.Bodies.{stack_from}
use Rattle.oss_model.specs.Sequence.{Running, RunsOn, path_above}
use Rattle.oss_model.proofs.SequenceLemmas.{Stands}
use Rattle.oss_model.proofs.StageLemmas.{own_creation, created_next}
use Rattle.oss_chain_laws.proofs.RunTheorem.{Extends, skips}
use Rattle.oss_chain_laws.proofs.StageTheorem.{after, created_same, does, found_now, grown, keeps, last_act_of}
use Rattle.oss_span.specs.Changes.{is_fold_mode}
use Rattle.oss_span.proofs.FrameLemmas.{FrameFits, FrameTells, IsTop, ShowsCell, held_same, told_right, told_some}
use Rattle.oss_span.proofs.TableLemmas.{some_is}
use Rattle.oss_span.proofs.ActLemmas.{run_acts}
use Rattle.oss_span.proofs.ActedLemmas.{included_more, included_same, plain_tells, released_is, released_none, released_tells}
use Rattle.oss_span.proofs.SealLemmas.{frame_on, seal_grows}
use Rattle.oss_span.proofs.WayLemmas.{AreTops, FrameWay, WayTop, fits_start, released_few, released_right, released_top, way_top}
use Rattle.oss_model.specs.Bodies.{child_start}
use Rattle.oss_model.specs.Machine.{find, mode_in}
use Rattle.oss_model.specs.Rights.{right_from}
use Rattle.oss_model.proofs.StageLemmas.{start_created}
use Rattle.oss_judge.specs.Joined.{IsRising}
use Rattle.oss_chain_laws.specs.Happenings.{EndsWith}
use Rattle.oss_chain_laws.specs.Pass.{opened as opened_kept}
use Rattle.oss_chain_laws.proofs.PassTheorem.{opened_below, opened_top}
use Rattle.oss_span.specs.declared.marks.Change.TheVariants.{Close}
use Rattle.oss_span.specs.Changes.{changed_at, closed}
use Rattle.oss_span.specs.Frames.{IsClosed, IsOpened}
use Rattle.oss_span.specs.Tables.{painted}
use Rattle.oss_span.proofs.StepLemmas.{Acted, act_done}
use Rattle.oss_span.proofs.WayLemmas.{main_frame, child_frame, fits_on, way_on, way_with}
use Rattle.oss_span.proofs.OpenLemmas.{creator_tells, new_tells, painted_few, painted_is, told_opened}
use Rattle.oss_span.proofs.EndedLemmas.{closed_tells}
use Rattle.std.specs.Prelude.{reverse}
use Rattle.std.proofs.lemmas.List.{length-reverse, reverse-append}
use Rattle.oss_code.specs.declared.code.CodeParts.{CodeParts}
use Rattle.oss_machine.specs.Machines.{asks}
use Rattle.oss_model.specs.Agreement.{Setting}
use Rattle.oss_model.specs.Bodies.{Body}
use Rattle.oss_model.specs.Sequence.{Sequential}
use Rattle.oss_model.proofs.SequenceLemmas.{Turn, down, up, stay, turn, stands}
use Rattle.oss_body.specs.declared.body.Body.{Body as KeptBody}
use Rattle.oss_body.specs.Relation.{IsBody, pending_of}
use Rattle.oss_serial.specs.declared.stage.Stage.{Stage}
use Rattle.oss_serial.specs.Stages.{AreBodies, IsNext, IsStage}
use Rattle.oss_serial.specs.Turns.{AreWaiting, whole_task}
use Rattle.oss_chain_laws.specs.Runs.{Ticks, more_ticks}
use Rattle.oss_chain_laws.proofs.CountLemmas.{AreCounted, counted_on}
use Rattle.oss_chain_laws.proofs.SpanTheorem.{extends_before}
use Rattle.oss_span.specs.declared.pass.Pass.{Pass}
use Rattle.oss_span.specs.Passes.{IsDown, IsFollowed, IsOn, IsUp}
use Rattle.oss_span.proofs.TurnWays.{WayRest, done_act, way_down, way_rest, way_stays, way_up}

twice : {A : Type 0} (xs : List A) → reverse (reverse xs) ≡ xs
twice [] = refl
twice {A = A} (x ∷ xs) = ap (λ (ys : List A). reverse ys) (reverse-append (x ∷ []) xs) ∙ (reverse-append (reverse xs) (x ∷ []) ∙ ap (λ (ys : List A). x ∷ ys) (twice xs))

-- the tasks above are as many as the numbers of the path
bodies_many : (code : CodeParts) (bs : List (Body CodeScript)) (ks : List KeptBody) → AreBodies code bs ks → length bs ≡ length ks
bodies_many code [] [] h = refl
bodies_many code (b ∷ bs) (k ∷ ks) h = ap suc (bodies_many code bs ks h.1)
bodies_many code [] (k ∷ ks) h = absurd h
bodies_many code (b ∷ bs) [] h = absurd h

waiting_many : (P : Program CodeScript) (s : State CodeScript) (bs : List (Body CodeScript)) (p : List ℕ) → AreWaiting P s bs p → length bs ≡ length p
waiting_many P s [] p e = sym (ap (λ (q : List ℕ). length q) e)
waiting_many P s (b ∷ older) p (k, e, a, v, w) = ap suc (waiting_many P s older b.start.path w) ∙ sym (ap (λ (q : List ℕ). length q) e)

pub more_work : (ca : CodeAct) (n : ℕ) → capped (n + tick_of (act_seen ca)) ≡ ticked (is_tick ca) (capped n)
more_work acts.Tick n = one n
  where
    one : (n : ℕ) → capped (n + 1) ≡ min (capped n + 1) (2 ^ 64 - 1)
    one n = grind arith
more_work (acts.Load c) n = ap capped (plus_none n)
  where
    plus_none : (n : ℕ) → n + 0 ≡ n
    plus_none n = omega arith
more_work (acts.Store c v) n = grind arith
more_work (acts.Fold c op v slot) n = grind arith
more_work (acts.Create creation included) n = grind arith
more_work acts.Await n = grind arith
more_work acts.Wait n = grind arith
more_work (acts.WaitOn ranges) n = grind arith
more_work (acts.Release clauses included) n = grind arith
more_work (acts.Print key text) n = grind arith
more_work acts.End n = grind arith
more_work (acts.Fault kind line key) n = grind arith

module _ (code : CodeParts) (main : Start CodeScript) (first : List ℕ) where
  abbrev P : Program CodeScript
  P = asks code

  depth_is : (stage : Stage) (st : IsStage code main first stage) → length stage.above ≡ length st.stands.stage.active
  depth_is stage st = sym (bodies_many code st.above stage.above st.are_above) ∙ (sym (length-reverse st.above) ∙ waiting_many (asks code) st.stands.stage.state (reverse st.above) st.stands.stage.active st.stands.waiting)

  -- what is kept beside a stage is right for each state that the run may still come to
  pub record Beside (stage : Stage) (st : IsStage code main first stage) (pass : Pass) : Type 0 where
    pub count : ℕ
    pub ticks : Ticks (asks code) main first st.stands.stage count
    pub work : pass.work ≡ capped count
    pub counted : AreCounted st.stands.stage.state
    pub way : (s : State CodeScript) → IsMade (asks code) main s → Extends st.stands.stage.state s → FrameWay (asks code) s pass.nodes pass.points st.stands.stage.state st.stands.stage.active (created_now (asks code) st.current) pass.frame (reverse pass.above)

  -- the act of a turn is counted
  pub counted_next : Setting main first → (old : Stage) (st : IsStage code main first old) (pass mid : Pass) → Beside old st pass → IsOn (pending_of old.current) pass mid → (y : Running CodeScript) → RunsOn (asks code) st.stands.stage y → AreCounted y.state
  counted_next setting old st pass mid beside on y r = counted_on (asks code) main st.stands.stage y made r few beside.counted
    where
      made : IsMade (asks code) main st.stands.stage.state
      made = (stands (asks code) main first setting.starts st.stands.stage st.stands.run).made

      few : length r.task.body.found < 2 ^ 64 - 1
      few =
          let top = way_top (asks code) st.stands.stage.state pass.nodes pass.points (beside.way st.stands.stage.state made (record { grown = λ q u h. (u, h, refl, whole) })) in
          let n = ap (λ (t : Task CodeScript). length t.body.found) (at_same st.stands.stage.state st.stands.stage.active r.task top.task r.at_ top.at_) in
          let a = top.fits.acts in
          let l = on.acted.counted in
          omega (arith, n, a, l)

  -- one turn
  module _ (setting : Setting main first) (old new : Stage) (st : IsStage code main first old) (go : IsNext code main first old st new) (pass mid next : Pass) (beside : Beside old st pass) (acts_on : IsOn (pending_of old.current) pass mid) (follows : IsFollowed (length old.above) (length new.above) new.current mid next)
      (seen : act_seen (pending_of old.current) ≡ act_now (asks code) st.current) where
    z : Running CodeScript
    z = st.stands.stage

    y : Running CodeScript
    y = go.stage.stands.stage

    r : RunsOn (asks code) st.stands.stage go.stage.stands.stage
    r = go.runs

    task_is : r.task ≡ whole_task st.current
    task_is = at_same st.stands.stage.state st.stands.stage.active r.task (whole_task st.current) r.at_ st.stands.at_

    model : Rattle.oss_model.proofs.SequenceLemmas.Stands (asks code) main st.stands.stage
    model = stands (asks code) main first setting.starts st.stands.stage st.stands.run

    same_act : act_seen (pending_of old.current) ≡ act_now (asks code) r.task.body
    same_act = seen ∙ sym (ap (λ (t : Task CodeScript). act_now (asks code) t.body) task_is)

    reversed_one : (xs : List Frame) (x : Frame) → reverse (xs ++ x ∷ []) ≡ x ∷ reverse xs
    reversed_one xs x = reverse-append xs (x ∷ [])

    module _ (s : State CodeScript) (made : IsMade (asks code) main s) (ex : Extends go.stage.stands.stage.state s) where
      way_now : FrameWay (asks code) s pass.nodes pass.points st.stands.stage.state st.stands.stage.active (created_now (asks code) r.task.body) pass.frame (reverse pass.above)
      way_now =
          subst (λ (t : Task CodeScript). FrameWay (asks code) s pass.nodes pass.points st.stands.stage.state st.stands.stage.active (created_now (asks code) t.body) pass.frame (reverse pass.above)) (sym task_is)
          (beside.way s made (extends_before (asks code) main first setting.starts s made (weight (asks code) s) st.stands.stage go.stage.stands.stage model r ex))

      abbrev Goal : Type 0
      Goal = FrameWay (asks code) s next.nodes next.points go.stage.stands.stage.state go.stage.stands.stage.active (created_now (asks code) go.stage.current) next.frame (reverse next.above)

      cur_at : At go.stage.stands.stage.state go.stage.stands.stage.active (whole_task go.stage.current)
      cur_at = go.stage.stands.at_

      -- the run goes on with the same task
      stays : ((o : Order CodeScript) → act_now (asks code) r.task.body ≢ Created o false) → go.stage.stands.stage.active ≡ st.stands.stage.active → Goal
      stays ne q =
          let w = way_stays (asks code) main s made pass.nodes mid.nodes pass.points st.stands.stage go.stage.stands.stage model r ex pass.frame mid.frame (reverse pass.above) way_now (pending_of old.current) same_act acts_on.acted ne in
          let t : whole_task go.stage.current ≡ after (asks code) main s made (weight (asks code) s) st.stands.stage go.stage.stands.stage model r ex =
          at_same go.stage.stands.stage.state st.stands.stage.active (whole_task go.stage.current) (after (asks code) main s made (weight (asks code) s) st.stands.stage go.stage.stands.stage model r ex) (subst (λ (x : List ℕ). At go.stage.stands.stage.state x (whole_task go.stage.current)) q cur_at) r.tasks.own in
          let a : FrameWay (asks code) s mid.nodes pass.points go.stage.stands.stage.state go.stage.stands.stage.active (created_now (asks code) go.stage.current) mid.frame (reverse pass.above) =
          subst (λ (x : List ℕ). FrameWay (asks code) s mid.nodes pass.points go.stage.stands.stage.state x (created_now (asks code) go.stage.current) mid.frame (reverse pass.above)) (sym q)
          (subst (λ (i : ℕ). FrameWay (asks code) s mid.nodes pass.points go.stage.stands.stage.state st.stands.stage.active i mid.frame (reverse pass.above)) (sym (ap (λ (x : Task CodeScript). created_now (asks code) x.body) t)) w) in
          let b : FrameWay (asks code) s mid.nodes mid.points go.stage.stands.stage.state go.stage.stands.stage.active (created_now (asks code) go.stage.current) mid.frame (reverse mid.above) =
          subst (λ (x : List (List ℕ)). FrameWay (asks code) s mid.nodes x go.stage.stands.stage.state go.stage.stands.stage.active (created_now (asks code) go.stage.current) mid.frame (reverse mid.above)) (sym acts_on.rest.0)
          (subst (λ (x : List Frame). FrameWay (asks code) s mid.nodes pass.points go.stage.stands.stage.state go.stage.stands.stage.active (created_now (asks code) go.stage.current) mid.frame (reverse x)) (sym acts_on.rest.1) a) in
          subst (λ (n : Pass). FrameWay (asks code) s n.nodes n.points go.stage.stands.stage.state go.stage.stands.stage.active (created_now (asks code) go.stage.current) n.frame (reverse n.above)) (sym (follows.same many)) b
        where
          many : length new.above ≡ length old.above
          many = depth_is new go.stage ∙ (ap (λ (x : List ℕ). length x) q ∙ sym (depth_is old st))

      -- a task was created, and runs
      goes_down : (o : Order CodeScript) → act_now (asks code) r.task.body ≡ Created o false → go.stage.stands.stage.active ≡ created_now (asks code) r.task.body ∷ st.stands.stage.active → Goal
      goes_down o a q =
          let k = follows.deeper few in
          let b = go.stage.is_current in
          let w = way_down (asks code) main s made pass.nodes mid.nodes pass.points st.stands.stage go.stage.stands.stage model r ex pass.frame mid.frame (reverse pass.above) way_now (pending_of old.current) same_act acts_on.acted o a (whole_task go.stage.current) cur_at
          k.accesses k.point k.creator next.frame next.nodes (k.of_body.path code go.stage.current.start go.stage.current.found b ∙ ap (λ (x : List ℕ). written x) (sym go.stage.stands.path)) (k.of_body.rights code go.stage.current.start go.stage.current.found b) k.of_body.rising
          (subst (λ (n : ℕ). IsOpened n go.stage.current.start.order.wait k.accesses mid.frame k.creator next.frame mid.nodes next.nodes) (ap (λ (x : List (List ℕ)). length x) acts_on.rest.0) (subst (λ (v : Bool). IsOpened (length mid.points) v k.accesses mid.frame k.creator next.frame mid.nodes next.nodes) b.wait k.opened)) q in
          let points_are : pass.points ++ k.point ∷ [] ≡ next.points = ap (λ (x : List (List ℕ)). x ++ k.point ∷ []) (sym acts_on.rest.0) ∙ sym k.rest.0 in
          let above_is : k.creator ∷ reverse pass.above ≡ reverse next.above = ap (λ (x : List Frame). k.creator ∷ reverse x) (sym acts_on.rest.1) ∙ (sym (reversed_one mid.above k.creator) ∙ ap (λ (x : List Frame). reverse x) (sym k.rest.1)) in
          subst (λ (x : List Frame). FrameWay (asks code) s next.nodes next.points go.stage.stands.stage.state go.stage.stands.stage.active (created_now (asks code) go.stage.current) next.frame x) above_is
          (subst (λ (x : List (List ℕ)). FrameWay (asks code) s next.nodes x go.stage.stands.stage.state go.stage.stands.stage.active (created_now (asks code) go.stage.current) next.frame (k.creator ∷ reverse pass.above)) points_are w)
        where
          few : length old.above < length new.above
          few = let i = depth_is new go.stage in let j = depth_is old st in let l : length go.stage.stands.stage.active ≡ length (created_now (asks code) r.task.body ∷ st.stands.stage.active) = ap (λ (x : List ℕ). length x) q in omega (arith, i, j, l)

      -- the task ended, and its creator runs
      goes_up : ((o : Order CodeScript) → act_now (asks code) r.task.body ≢ Created o false) → is_ended (asks code) (after (asks code) main s made (weight (asks code) s) st.stands.stage go.stage.stands.stage model r ex).body ≡ true
          → (p : List ℕ) → st.stands.stage.active ≡ p → go.stage.stands.stage.active ≡ path_above p → Goal
      goes_up ne ended [] e q =
          let t = at_same go.stage.stands.stage.state [] (whole_task go.stage.current) (after (asks code) main s made (weight (asks code) s) st.stands.stage go.stage.stands.stage model r ex)
          (subst (λ (x : List ℕ). At go.stage.stands.stage.state x (whole_task go.stage.current)) q cur_at) (subst (λ (x : List ℕ). At go.stage.stands.stage.state x (after (asks code) main s made (weight (asks code) s) st.stands.stage go.stage.stands.stage model r ex)) e r.tasks.own) in
          let k : false ≡ true = sym go.stage.stands.alive ∙ (ap (λ (x : Task CodeScript). is_ended (asks code) x.body) t ∙ ended) in
          absurd (cc)
      goes_up ne ended (j ∷ p) e q =
          let wr = way_rest (asks code) s pass.nodes pass.points st.stands.stage.state (subst (λ (x : List ℕ). FrameWay (asks code) s pass.nodes pass.points st.stands.stage.state x (created_now (asks code) r.task.body) pass.frame (reverse pass.above)) e way_now) in
          let above_is : mid.above ≡ reverse wr.older ++ wr.creator ∷ [] = acts_on.rest.1 ∙ (sym (twice pass.above) ∙ (ap (λ (x : List Frame). reverse x) wr.rest_is ∙ reverse-append (wr.creator ∷ []) wr.older)) in
          let k = (follows.higher few).closed (reverse wr.older) wr.creator above_is in
          let w = way_up (asks code) main s made pass.nodes mid.nodes pass.points st.stands.stage go.stage.stands.stage model r ex pass.frame mid.frame (reverse pass.above) way_now (pending_of old.current) same_act acts_on.acted ne ended j p e wr.creator next.frame wr.older next.nodes wr.rest_is k.1 in
          let t : w.0 ≡ whole_task go.stage.current = at_same go.stage.stands.stage.state p w.0 (whole_task go.stage.current) w.1 (subst (λ (x : List ℕ). At go.stage.stands.stage.state x (whole_task go.stage.current)) q cur_at) in
          let points_are : pass.points ≡ next.points = sym acts_on.rest.0 ∙ sym (follows.higher few).rest.0 in
          let rest_are : wr.older ≡ reverse next.above = sym (twice wr.older) ∙ ap (λ (x : List Frame). reverse x) (sym k.0) in
          let a : FrameWay (asks code) s next.nodes pass.points go.stage.stands.stage.state go.stage.stands.stage.active (created_now (asks code) go.stage.current) next.frame wr.older =
          subst (λ (x : List ℕ). FrameWay (asks code) s next.nodes pass.points go.stage.stands.stage.state x (created_now (asks code) go.stage.current) next.frame wr.older) (sym q)
          (subst (λ (x : Task CodeScript). FrameWay (asks code) s next.nodes pass.points go.stage.stands.stage.state p (created_now (asks code) x.body) next.frame wr.older) t w.2) in
          subst (λ (x : List Frame). FrameWay (asks code) s next.nodes next.points go.stage.stands.stage.state go.stage.stands.stage.active (created_now (asks code) go.stage.current) next.frame x) rest_are
          (subst (λ (x : List (List ℕ)). FrameWay (asks code) s next.nodes x go.stage.stands.stage.state go.stage.stands.stage.active (created_now (asks code) go.stage.current) next.frame wr.older) points_are a)
        where
          few : length new.above < length old.above
          few = let i = depth_is new go.stage in let l = depth_is old st in let k : length st.stands.stage.active ≡ length (j ∷ p) = ap (λ (x : List ℕ). length x) e in let h : length go.stage.stands.stage.active ≡ length p = ap (λ (x : List ℕ). length x) q in omega (arith, i, l, k, h)

      by_turn : (a : List ℕ) → go.stage.stands.stage.active ≡ a → Turn (asks code) r.task st.stands.stage.active (found_now (asks code) main s made (weight (asks code) s) st.stands.stage go.stage.stands.stage model r ex) a → Goal
      by_turn a q (down o e) = goes_down o e q
      by_turn a q (up ne e) = goes_up ne e st.stands.stage.active refl q
      by_turn a q (stay ne e) = stays ne q

      way_next : Goal
      way_next = by_turn _ r.active (turn (asks code) r.task st.stands.stage.active (found_now (asks code) main s made (weight (asks code) s) st.stands.stage go.stage.stands.stage model r ex))

    work_same : next.work ≡ mid.work
    work_same = which (length old.above) (length new.above) refl refl
      where
        cases : (a b : ℕ) → (a < b) ⊎ (b < a) ⊎ (b ≡ a)
        cases a b = grind arith

        which : (a b : ℕ) → length old.above ≡ a → length new.above ≡ b → next.work ≡ mid.work
        which a b e f = go_on (cases (length old.above) (length new.above))
          where
            go_on : (length old.above < length new.above) ⊎ (length new.above < length old.above) ⊎ (length new.above ≡ length old.above) → next.work ≡ mid.work
            go_on (inl l) = (follows.deeper l).rest.2
            go_on (inr (inl l)) = (follows.higher l).rest.1
            go_on (inr (inr l)) = ap (λ (n : Pass). n.work) (follows.same l)

    pub beside_next : Beside new go.stage next
    beside_next = record {
      count = beside.count + tick_of (act_now (asks code) r.task.body);
      ticks = more_ticks beside.ticks r;
      work = work_same ∙ (acts_on.rest.2 ∙ (ap (λ (n : ℕ). ticked (is_tick (pending_of old.current)) n) beside.work ∙ (sym (more_work (pending_of old.current) beside.count) ∙ ap (λ (a : Act CodeScript). capped (beside.count + tick_of a)) same_act)));
      counted = counted_next setting old st pass mid beside acts_on go.stage.stands.stage r;
      way = λ s made ex. way_next s made ex;
    }
