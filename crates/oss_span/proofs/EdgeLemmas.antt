-- The pass at the beginning of the run, and at its end.
use Rattle.std.proofs.Common.{◌≡◌, ◌≢◌, ◌≤◌, ◌<◌, ◌⊎◌, inl, inr, refl, sym, subst, ap, ◌∙◌, ℕ, zero, suc, ◌+◌, ◌-◌, ◌^◌, Bool, true, false, List, [], ◌∷◌, ◌++◌, length, map, Option, Some, None, arith}
use Rattle.std.specs.Prelude.{if◌then◌else◌, ◌||◌, ◌&&◌, not, nat_lt, min, slice_get}
use Rattle.std.proofs.lemmas.Bool.Decides.{nat_tests}
use Rattle.oss_syntax.specs.declared.access.Access.{Access}
use Rattle.oss_syntax.specs.declared.access.Range.{Range}
use Rattle.oss_syntax.specs.declared.access.Op.{Op}
use Rattle.oss_syntax.specs.declared.access.Mode.{Mode}
use Rattle.oss_syntax.specs.declared.access.Mode.TheVariants.{Read, Write, Fold}
use Rattle.oss_ranges.specs.declared.piece.Piece.{Piece}
use Rattle.oss_ranges.specs.Cells.{is_within, value_at}
use Rattle.oss_meaning.specs.Clauses.{waited_for}
use Rattle.oss_meaning.specs.Sections.{declared_on}
use Rattle.oss_judge.specs.Joined.{held_right}
use Rattle.oss_machine.specs.Frames.{CodeScript}
use Rattle.oss_model.specs.Bodies.{Act, Order, Program, Start}
use Rattle.oss_model.specs.Bodies.Act.{Awaited, Created, Releases, Waited, WaitedOn}
use Rattle.oss_model.specs.Context.{in_clauses, right_of}
use Rattle.oss_model.specs.History.{IsMade}
use Rattle.oss_model.specs.Machine.{At, HasAccess, State, Task}
use Rattle.oss_model.specs.Order.{written}
use Rattle.oss_model.specs.Rights.{Right, NoRight, Released, Holds}
use Rattle.oss_model.proofs.TreeLemmas.{at_same}
use Rattle.oss_body.specs.declared.act.Act.{Act as CodeAct}
use Rattle.oss_body.specs.declared.act.Act.TheVariants as acts
use Rattle.oss_body.specs.Acts.{act_seen}
use Rattle.oss_chain_laws.specs.Chains.{Best as Longest, better as better_chain, capped, no_chain, one_more}
use Rattle.oss_chain_laws.specs.Happenings.{Happening, Acting, Giving, Does, Frees, StartsWith, WaitsFor, tick_of}
use Rattle.oss_chain_laws.specs.Pass.{Kept, IsKept, acted}
use Rattle.oss_chain_laws.specs.Runs.{ticks_at}
use Rattle.oss_chain_laws.specs.Tables.{GivenBelow, given_below, GivenWith, given_with, InActWay, InReadWay, InTurnWay, turn_way, read_way, write_way, InWriteWay, JustBefore, LeftBelow, LeftWith}
use Rattle.oss_chain_laws.proofs.ChainLemmas.{most_step}
use Rattle.oss_chain_laws.proofs.LongestLemmas.{has_ticks}
use Rattle.oss_chain_laws.proofs.PassLemmas.{Most, same, either_most, no_most, acted_kept, not_nil}
use Rattle.oss_chain_laws.proofs.PassTheorem.{above_access}
use Rattle.oss_chain_laws.proofs.TableLemmas.{act_back, act_forth}
use Rattle.oss_chain_laws.proofs.ValueLemmas.{is_strong_fold as is_fold_right, other_keeps, released_frees, released_keeps, releases_of}
use Rattle.oss_span.specs.declared.best.Best.{Best}
use Rattle.oss_span.specs.declared.best.Mark.{Mark}
use Rattle.oss_span.specs.declared.frame.Frame.{Frame}
use Rattle.oss_span.specs.declared.marks.Marks.{Marks}
use Rattle.oss_span.specs.declared.marks.Way.{Way}
use Rattle.oss_span.specs.declared.marks.Way.TheVariants as ways
use Rattle.oss_span.specs.declared.node.Node.{Node}
use Rattle.oss_span.specs.declared.node.Node.TheVariants.{Acts}
use Rattle.oss_span.specs.declared.run.Run.{Run}
use Rattle.oss_span.specs.Acts.{IsSealed, after_act, ticked}
use Rattle.oss_span.specs.Bests.{better, better_mark, no_best, no_mark}
use Rattle.oss_span.specs.Changes.{before_of, freed, is_strong_fold, picked}
use Rattle.oss_span.specs.Frames.{Grows, IsActed, IsDoneBy, IsOther, IsReleased, IsStartOf, IsWaitOf, is_tick}
use Rattle.oss_span.specs.Shown.{IsBelow, Shows, shows_acts, acts_back}
use Rattle.oss_span.specs.Tables.{IsGreatest, IsGreatestOf, in_ranges, released}
use Rattle.oss_span.proofs.ToldLemmas.{bools, get_last, grows_one, grows_same, most_small, ShowsBest, ShowsMark, ShowsRun, shows_below, shows_on, Tells, tells_better, tells_none, tells_same, better_best_shown, none_shown, weight}
use Rattle.oss_model.specs.Order.{IsSuffix, whole}
use Rattle.oss_model.specs.Moves.{act_now, created_now, is_ended, after_answer, new_task, found_by}
use Rattle.oss_model.specs.Bodies.{stack_from}
use Rattle.oss_model.specs.Sequence.{Running, RunsOn, path_above}
use Rattle.oss_model.proofs.SequenceLemmas.{Stands}
use Rattle.oss_model.proofs.StageLemmas.{own_creation, created_next}
use Rattle.oss_chain_laws.proofs.RunTheorem.{Extends, skips}
use Rattle.oss_chain_laws.proofs.StageTheorem.{after, created_same, does, found_now, grown, keeps, last_act_of}
use Rattle.oss_span.specs.Changes.{is_fold_mode}
use Rattle.oss_span.proofs.FrameLemmas.{FrameFits, FrameTells, IsTop, ShowsCell, held_same, told_right, told_some}
use Rattle.oss_span.proofs.TableLemmas.{some_is}
use Rattle.oss_span.proofs.ActLemmas.{run_acts}
use Rattle.oss_span.proofs.ActedLemmas.{included_more, included_same, plain_tells, released_is, released_none, released_tells}
use Rattle.oss_span.proofs.SealLemmas.{frame_on, seal_grows}
use Rattle.oss_span.proofs.WayLemmas.{AreTops, FrameWay, WayTop, fits_start, released_few, released_right, released_top, way_top}
use Rattle.oss_model.specs.Bodies.{child_start}
use Rattle.oss_model.specs.Machine.{find, mode_in}
use Rattle.oss_model.specs.Rights.{right_from}
use Rattle.oss_model.proofs.StageLemmas.{start_created}
use Rattle.oss_judge.specs.Joined.{IsRising}
use Rattle.oss_chain_laws.specs.Happenings.{EndsWith}
use Rattle.oss_chain_laws.specs.Pass.{opened as opened_kept}
use Rattle.oss_chain_laws.proofs.PassTheorem.{opened_below, opened_top}
use Rattle.oss_span.specs.declared.marks.Change.TheVariants.{Close}
use Rattle.oss_span.specs.Changes.{changed_at, closed}
use Rattle.oss_span.specs.Frames.{IsClosed, IsOpened}
use Rattle.oss_span.specs.Tables.{painted}
use Rattle.oss_span.proofs.StepLemmas.{Acted, act_done}
use Rattle.oss_span.proofs.WayLemmas.{main_frame, child_frame, fits_on, way_on, way_with}
use Rattle.oss_span.proofs.OpenLemmas.{creator_tells, new_tells, painted_few, painted_is, told_opened}
use Rattle.oss_span.proofs.EndedLemmas.{closed_tells}
use Rattle.std.specs.Prelude.{reverse}
use Rattle.std.proofs.lemmas.List.{length-reverse, reverse-append}
use Rattle.oss_code.specs.declared.code.CodeParts.{CodeParts}
use Rattle.oss_machine.specs.Machines.{asks}
use Rattle.oss_model.specs.Agreement.{Setting}
use Rattle.oss_model.specs.Bodies.{Body}
use Rattle.oss_model.specs.Sequence.{Sequential}
use Rattle.oss_model.proofs.SequenceLemmas.{Turn, down, up, stay, turn, stands, opening_at}
use Rattle.oss_body.specs.declared.body.Body.{Body as KeptBody}
use Rattle.oss_body.specs.Relation.{IsBody, pending_of}
use Rattle.oss_serial.specs.declared.stage.Stage.{Stage}
use Rattle.oss_serial.specs.Stages.{AreBodies, IsNext, IsStage}
use Rattle.oss_serial.specs.Turns.{AreWaiting, whole_task}
use Rattle.oss_chain_laws.specs.Runs.{Ticks, more_ticks}
use Rattle.oss_chain_laws.proofs.SpanTheorem.{extends_before}
use Rattle.oss_span.specs.declared.pass.Pass.{Pass}
use Rattle.oss_span.specs.Passes.{IsDown, IsFollowed, IsOn, IsUp}
use Rattle.oss_span.proofs.TurnWays.{WayRest, done_act, way_down, way_rest, way_stays, way_up}
use Rattle.oss_model.specs.Agreement.{MainStarts}
use Rattle.oss_model.specs.Bodies.Act.{Over}
use Rattle.oss_model.specs.Moves.{opening}
use Rattle.oss_model.specs.Sequence.{IsAtEnd, opens}
use Rattle.oss_model.specs.declared.answer.Answer.TheVariants as answers
use Rattle.oss_model.specs.declared.answer.Answer.{Answer}
use Rattle.oss_serial.specs.Turns.{Ends}
use Rattle.oss_serial.specs.Stages.{IsFirstStage}
use Rattle.oss_span.specs.Changes.{join_of, opened, opened_by, unused}
use Rattle.oss_span.proofs.TurnWays.{held_twice}
use Rattle.oss_chain_laws.specs.Chains.{ticks_in}
use Rattle.oss_chain_laws.specs.Runs.{IsLongest, no_ticks}
use Rattle.oss_chain_laws.proofs.CountLemmas.{AreCounted}
use Rattle.oss_chain_laws.proofs.EndTheorem.{span_most}
use Rattle.oss_chain_laws.proofs.LongestLemmas.{longest, span_ticks}
use Rattle.oss_chain_laws.proofs.PassLemmas.{main_kept, of_main}
use Rattle.oss_chain_laws.proofs.SpanTheorem.{all_ended, main_ended, main_runs}
use Rattle.oss_span.specs.Passes.{IsBegun, IsTold}
use Rattle.oss_span.specs.Spans.{Spans, done}
use Rattle.oss_span.specs.declared.link.Link.{Link}
use Rattle.oss_span.proofs.OpenLemmas.{opened_right}
use Rattle.oss_span.proofs.SealLemmas.{mark_on, seal_best}
use Rattle.oss_span.specs.Links.{Unfolds}
use Rattle.oss_span.proofs.SpanLemmas.{Beside, counted_next, more_work}

module _ (code : CodeParts) (main : Start CodeScript) (first : List ℕ) (setting : Setting main first) where
  -- main has ended: what is told is a longest chain
  module _ (old : Stage) (st : IsStage code main first old) (cells output : List ℕ) (tasks : ℕ) (ends : Ends (asks code) main first st.stands.stage cells output tasks) (pass mid : Pass) (beside : Beside code main first old st pass) (acts_on : IsOn (pending_of old.current) pass mid)
      (seen : act_seen (pending_of old.current) ≡ act_now (asks code) st.current) (ticks : ℕ) (links : List Link) (told : IsTold mid ticks links) where
    task_is : ends.runs.task ≡ whole_task st.current
    task_is = at_same st.stands.stage.state st.stands.stage.active ends.runs.task (whole_task st.current) ends.runs.at_ st.stands.at_

    same_act : act_seen (pending_of old.current) ≡ act_now (asks code) ends.runs.task.body
    same_act = seen ∙ sym (ap (λ (t : Task CodeScript). act_now (asks code) t.body) task_is)

    abbrev s : State CodeScript
    s = ends.stage.state

    made : IsMade (asks code) main ends.stage.state
    made = (stands (asks code) main first setting.starts ends.stage ends.run).made

    model : Rattle.oss_model.proofs.SequenceLemmas.Stands (asks code) main st.stands.stage
    model = stands (asks code) main first setting.starts st.stands.stage st.stands.run

    ex : Extends ends.stage.state ends.stage.state
    ex = record { grown = λ q u h. (u, h, refl, whole) }

    all_counted : AreCounted ends.stage.state
    all_counted = counted_next code main first setting old st pass mid beside acts_on ends.stage ends.runs

    way : FrameWay (asks code) ends.stage.state pass.nodes pass.points st.stands.stage.state st.stands.stage.active (created_now (asks code) ends.runs.task.body) pass.frame (reverse pass.above)
    way =
        subst (λ (t : Task CodeScript). FrameWay (asks code) ends.stage.state pass.nodes pass.points st.stands.stage.state st.stands.stage.active (created_now (asks code) t.body) pass.frame (reverse pass.above)) (sym task_is)
        (beside.way ends.stage.state made (extends_before (asks code) main first setting.starts ends.stage.state made (weight (asks code) ends.stage.state) st.stands.stage ends.stage model ends.runs ex))

    at_end : ends.stage.active ≡ []
    at_end = main_runs (asks code) main first setting.starts ends.stage ends.run ends.end ends.over (weight (asks code) ends.stage.state)

    abbrev now : Task CodeScript
    now = after (asks code) main ends.stage.state made (weight (asks code) ends.stage.state) st.stands.stage ends.stage model ends.runs ex

    ended_at_end : (u : Task CodeScript) → At ends.stage.state [] u → is_ended (asks code) u.body ≡ true
    ended_at_end u h =
        let e = at_same ends.stage.state ends.stage.active u ends.end.task (subst (λ (x : List ℕ). At ends.stage.state x u) (sym at_end) h) ends.end.at_ in
        ap (λ (t : Task CodeScript). is_ended (asks code) t.body) e ∙ main_ended (asks code) main first setting.starts ends.stage ends.run ends.end ends.over (weight (asks code) ends.stage.state)

    record IsLast : Type 0 where
      none : (o : Order CodeScript) → act_now (asks code) ends.runs.task.body ≢ Created o false
      active : st.stands.stage.active ≡ []

    last_turn : IsLast
    last_turn = go _ ends.runs.active (turn (asks code) ends.runs.task st.stands.stage.active (found_now (asks code) main ends.stage.state made (weight (asks code) ends.stage.state) st.stands.stage ends.stage model ends.runs ex))
      where
        up_from : ((o : Order CodeScript) → act_now (asks code) ends.runs.task.body ≢ Created o false) → (p : List ℕ) → st.stands.stage.active ≡ p → path_above p ≡ [] → IsLast
        up_from ne [] e q = record { none = ne; active = e }
        up_from ne (j ∷ p) e q =
            let top = way_top (asks code) ends.stage.state pass.nodes pass.points (way_rest (asks code) ends.stage.state pass.nodes pass.points st.stands.stage.state (subst (λ (x : List ℕ). FrameWay (asks code) ends.stage.state pass.nodes pass.points st.stands.stage.state x (created_now (asks code) ends.runs.task.body) pass.frame (reverse pass.above)) e way)).way in
            let short : length p < length st.stands.stage.active = (let l : length st.stands.stage.active ≡ length (j ∷ p) = ap (λ (x : List ℕ). length x) e in omega (arith, l)) in
            let h = keeps (asks code) main ends.stage.state made (weight (asks code) ends.stage.state) st.stands.stage ends.stage model ends.runs ex p top.task short top.at_ in
            let a = model.waiting p j top.task (subst (λ (x : List ℕ). IsSuffix (j ∷ p) x) (sym e) whole) top.at_ in
            let b = ended_at_end top.task (subst (λ (x : List ℕ). At ends.stage.state x top.task) q h) in
            let k : false ≡ true = sym a ∙ b in
            absurd (cc)

        go : (a : List ℕ) → ends.stage.active ≡ a → Turn (asks code) ends.runs.task st.stands.stage.active (found_now (asks code) main ends.stage.state made (weight (asks code) ends.stage.state) st.stands.stage ends.stage model ends.runs ex) a → IsLast
        go a q (down o e) = let k = sym at_end ∙ q in absurd (cc)
        go a q (up ne e) = up_from ne st.stands.stage.active refl (sym q ∙ at_end)
        go a q (stay ne e) = record { none = ne; active = sym q ∙ at_end }

    over_way : FrameWay (asks code) ends.stage.state mid.nodes pass.points ends.stage.state [] (created_now (asks code) now.body) mid.frame (reverse pass.above)
    over_way =
        subst (λ (x : List ℕ). FrameWay (asks code) ends.stage.state mid.nodes pass.points ends.stage.state x (created_now (asks code) now.body) mid.frame (reverse pass.above)) last_turn.active
        (way_stays (asks code) main ends.stage.state made pass.nodes mid.nodes pass.points st.stands.stage ends.stage model ends.runs ex pass.frame mid.frame (reverse pass.above) way (pending_of old.current) same_act acts_on.acted last_turn.none)

    top : WayTop (asks code) ends.stage.state mid.nodes pass.points ends.stage.state [] (created_now (asks code) now.body) mid.frame
    top = way_top (asks code) ends.stage.state mid.nodes pass.points over_way

    now_at : At ends.stage.state [] (after (asks code) main ends.stage.state made (weight (asks code) ends.stage.state) st.stands.stage ends.stage model ends.runs ex)
    now_at = subst (λ (x : List ℕ). At ends.stage.state x (after (asks code) main ends.stage.state made (weight (asks code) ends.stage.state) st.stands.stage ends.stage model ends.runs ex)) last_turn.active ends.runs.tasks.own

    each_ends : (p : List ℕ) (u : Task CodeScript) → At ends.stage.state p u → (n : ℕ) × EndsWith (asks code) ends.stage.state p n
    each_ends = all_ended (asks code) main first setting.starts ends.stage ends.run ends.end ends.over (weight (asks code) ends.stage.state)

    best : Longest Happening
    best = better_chain top.tells.kept.last top.tells.kept.left

    best_most : Most (asks code) ends.stage.state (weight (asks code) ends.stage.state) (Rattle.oss_chain_laws.specs.Happenings.IsHappening (asks code) ends.stage.state) best
    unfolding best
    best_most =
        let e = each_ends [] top.task top.at_ in
        let i = ap (λ (t : Task CodeScript). length t.body.found) (at_same ends.stage.state [] top.task e.1.task top.at_ e.1.at_) ∙ e.1.number_is in
        let q : now ≡ top.task = at_same ends.stage.state [] now top.task now_at top.at_ in
        let a = subst (λ (n : ℕ). IsKept (asks code) ends.stage.state (weight (asks code) ends.stage.state) [] n (created_now (asks code) now.body) top.tells.kept) i top.tells.is_kept in
        let b = subst (λ (t : Task CodeScript). IsKept (asks code) ends.stage.state (weight (asks code) ends.stage.state) [] (suc e.0) (created_now (asks code) t.body) top.tells.kept) q a in
        span_most (asks code) main ends.stage.state made (weight (asks code) ends.stage.state) e.0 top.task top.tells.kept top.at_ e.1 each_ends b

    points_same : Grows pass.points pass.points
    points_same = λ i q h. h

    best_shown : ShowsBest (asks code) ends.stage.state told.nodes pass.points (better told.last mid.frame.left) best
    unfolding best
    best_shown =
        better_best_shown (asks code) ends.stage.state told.nodes pass.points told.last mid.frame.left top.tells.kept.last top.tells.kept.left
        (seal_best (asks code) ends.stage.state mid.nodes told.nodes pass.points mid.frame.task [] mid.frame.run told.run told.last top.tells.kept.last told.sealed top.fits.task top.tells.last)
        (mark_on (asks code) ends.stage.state mid.nodes told.nodes pass.points pass.points (seal_grows (asks code) ends.stage.state mid.nodes told.nodes pass.points mid.frame.task [] mid.frame.run told.run told.last top.tells.kept.last told.sealed top.fits.task top.tells.last) points_same
        mid.frame.left.mark mid.frame.left.cell top.tells.kept.left top.tells.left)

    shown : Unfolds (asks code) ends.stage.state links (reverse best.chain)
    shown = told.unfolds (asks code) ends.stage.state best.chain (subst (λ (x : List (List ℕ)). Shows (asks code) ends.stage.state told.nodes x (better told.last mid.frame.left).mark.end (better told.last mid.frame.left).cell best.chain) (sym acts_on.rest.0) best_shown.shows)

    pub told_spans : Spans (asks code) main first (answers.Done output cells) mid.work ticks links
    told_spans =
        let d : Spans (asks code) main first (answers.Done ends.stage.printed ends.stage.state.cells) (capped (beside.count + tick_of (act_now (asks code) ends.runs.task.body))) (ticks_in (ticks_at (asks code) ends.stage.state) (reverse best.chain)) links =
        done (beside.count + tick_of (act_now (asks code) ends.runs.task.body)) (reverse best.chain) (more_ticks beside.ticks ends.runs) ends.end ends.over shown (longest (asks code) ends.stage.state best best_most all_counted) in
        let w : capped (beside.count + tick_of (act_now (asks code) ends.runs.task.body)) ≡ mid.work =
        sym (acts_on.rest.2 ∙ (ap (λ (n : ℕ). ticked (is_tick (pending_of old.current)) n) beside.work ∙ (sym (more_work (pending_of old.current) beside.count) ∙ ap (λ (a : Act CodeScript). capped (beside.count + tick_of a)) same_act))) in
        let t : ticks_in (ticks_at (asks code) ends.stage.state) (reverse best.chain) ≡ ticks = span_ticks (asks code) ends.stage.state best best_most ∙ (best_shown.ticks ∙ sym told.ticks_are) in
        coe_spans d (λ i. answers.Done (ends.output_is i) (ends.cells_are i)) w t
      where
        coe_spans : {a b : Answer} {w x t y : ℕ} → Spans (asks code) main first a w t links → a ≡ b → w ≡ x → t ≡ y → Spans (asks code) main first b x y links
        coe_spans {a = a} {b = b} {w = w} {x = x} {t = t} {y = y} h e f g = subst (λ (k : Answer). Spans (asks code) main first k x y links) e (subst (λ (k : ℕ). Spans (asks code) main first a k y links) f (subst (λ (k : ℕ). Spans (asks code) main first a w k links) g h))

  -- nothing is done yet
  module _ (stage : Stage) (is_first : IsFirstStage code main first stage) (pass : Pass) (begun : IsBegun stage.current pass) where
    abbrev st : IsStage code main first stage
    st = is_first.stage

    opening_is : is_first.stage.stands.stage ≡ record { state = opening main first; active = []; printed = [] }
    opening_is = is_first.opens

    abbrev main_task : Task CodeScript
    main_task = record { body = record { start = main; found = [] }; given = [] }

    main_at : At (opening main first) [] main_task
    main_at = Rattle.oss_model.proofs.SequenceLemmas.opening_main main first setting.starts.path

    current_is : whole_task is_first.stage.current ≡ main_task
    current_is = at_same (opening main first) [] (whole_task is_first.stage.current) main_task (subst (λ (z : Running CodeScript). At z.state z.active (whole_task is_first.stage.current)) opening_is is_first.stage.stands.at_) main_at

    body_is : is_first.stage.current ≡ record { start = main; found = [] }
    body_is = ap (λ (t : Task CodeScript). t.body) current_is

    is_body : IsBody code main [] stage.current
    is_body = subst (λ (b : Body CodeScript). IsBody code b.start b.found stage.current) body_is is_first.stage.is_current

    record MainCell (c : ℕ) (x : Marks) : Type 0 where
      strong : Bool
      x_is : x ≡ opened_by (unused Write strong) Write strong

    main_cell : (c : ℕ) (x : Marks) → value_at pass.frame.table.pieces c ≡ Some x → MainCell c x
    main_cell c x e = go (right_from false begun.accesses c) refl
      where
        told : (r : Right) → right_from false begun.accesses c ≡ r → opened_right None r ≡ Some x
        told r q = sym (begun.cells c ∙ (painted_is None begun.accesses c begun.of_body.rising ∙ ap (λ (z : Right). opened_right None z) q)) ∙ e

        go : (r : Right) → right_from false begun.accesses c ≡ r → MainCell c x
        go NoRight q = let h : None ≡ Some x = told NoRight q in absurd (cc)
        go Released q = let h : None ≡ Some x = told Released q in absurd (cc)
        go (Holds md strong) q =
            let r : right_of main.context c ≡ Holds md strong = held_same (right_of main.context c) md strong (sym (begun.of_body.rights code main [] is_body c) ∙ q) in
            let w : md ≡ Write = setting.writes c md strong r in
            record { strong = strong; x_is = sym (some_is _ _ (told (Holds md strong) q)) ∙ ap (λ (z : Mode). opened None z strong) w }

    main_fits : FrameFits pass.points main [] 0 pass.frame
    main_fits = record {
      task = (λ i. slice_get (begun.parts.1 i) (begun.frame.0 i)) ∙ ap (λ (x : List ℕ). Some x) (begun.of_body.path code main [] is_body ∙ ap (λ (x : List ℕ). written x) setting.starts.path);
      wait = begun.frame.1 ∙ is_body.wait;
      acts = ap (λ (k : Run). k.acts) begun.run;
      rights = λ c. ap told_right (begun.cells c ∙ painted_is None begun.accesses c begun.of_body.rising) ∙ (told_opened None (right_from false begun.accesses c) ∙ (ap held_right (begun.of_body.rights code main [] is_body c) ∙ held_twice (right_of main.context c)));
      few = λ c l. begun.cells c ∙ painted_few None begun.accesses c l;
    }

    main_tops : (c : ℕ) (x : Marks) → value_at pass.frame.table.pieces c ≡ Some x → IsTop x
    main_tops c x e = let k = main_cell c x e in subst IsTop (sym k.x_is) (record { mode = refl; write_way = refl; read_way = refl; join_way = refl })

    main_tells : (s : State CodeScript) → FrameTells (asks code) s pass.nodes pass.points [] 0 0 pass.frame
    main_tells s = record {
      kept = of_main (asks code) s (weight (asks code) s);
      is_kept = main_kept (asks code) s (weight (asks code) s);
      last = subst (λ (k : Run). ShowsRun (asks code) s pass.nodes pass.points [] k no_chain) (sym begun.run) (record { ticks = refl; few = omega arith; rest = []; shows = Rattle.oss_span.specs.Shown.shows_none; chain = refl });
      left = subst (λ (b : Best). ShowsBest (asks code) s pass.nodes pass.points b no_chain) (sym begun.frame.2) (none_shown (asks code) s pass.nodes pass.points 0);
      newest = subst (λ (b : Best). Tells (asks code) s pass.nodes pass.points (InActWay (asks code) s [] 0 Awaited) b) (sym begun.frame.3) (tells_none (asks code) s pass.nodes pass.points (InActWay (asks code) s [] 0 Awaited) none);
      cells = cell;
    }
      where
        none : (h : Happening) → InActWay (asks code) s [] 0 Awaited h → ⊥
        none h (i, e, q) = omega (arith, e)

        cell : (c : ℕ) (x : Marks) → value_at pass.frame.table.pieces c ≡ Some x → ShowsCell (asks code) s pass.nodes pass.points (of_main (asks code) s (weight (asks code) s)) c x
        cell c x e =
            let k = main_cell c x e in
            let n = none_shown (asks code) s pass.nodes pass.points c in
            subst (λ (z : Marks). ShowsCell (asks code) s pass.nodes pass.points (of_main (asks code) s (weight (asks code) s)) c z) (sym k.x_is)
            (record { given = n; changed = n; before = λ op. n; is_freed = refl; freed = n; write_way = n; read_way = n; join_way = λ op q. n })

    main_way : (s : State CodeScript) → FrameWay (asks code) s pass.nodes pass.points (opening main first) [] 0 pass.frame []
    main_way s = main_frame main_task main_at main_fits main_tops (main_tells s)

    main_counted : AreCounted (opening main first)
    main_counted p t h =
        let e = (opening_at main first p t setting.starts.path h).1 in
        let n : length t.body.found ≡ 0 = ap (λ (u : Task CodeScript). length u.body.found) e in
        omega (arith, n)

    pub beside_first : Beside code main first stage is_first.stage pass
    beside_first = record {
      count = 0;
      ticks = subst (λ (z : Running CodeScript). Ticks (asks code) main first z 0) (sym opening_is) no_ticks;
      work = begun.parts.3;
      counted = subst (λ (z : Running CodeScript). AreCounted z.state) (sym opening_is) main_counted;
      way = λ s made ex.
          subst (λ (z : Running CodeScript). FrameWay (asks code) s pass.nodes pass.points z.state z.active (created_now (asks code) is_first.stage.current) pass.frame (reverse pass.above)) (sym opening_is)
          (subst (λ (xs : List Frame). FrameWay (asks code) s pass.nodes pass.points (opening main first) [] (created_now (asks code) is_first.stage.current) pass.frame (reverse xs)) (sym begun.parts.2)
          (subst (λ (i : ℕ). FrameWay (asks code) s pass.nodes pass.points (opening main first) [] i pass.frame []) (sym (ap (λ (b : Body CodeScript). created_now (asks code) b) body_is ∙ start_created (asks code) main setting.starts.created)) (main_way s)));
    }
