-- What is kept of the tasks on the way is right at the next stage of the run.
use Rattle.std.proofs.Common.{◌≡◌, ◌≢◌, ◌≤◌, ◌<◌, ◌⊎◌, inl, inr, refl, sym, subst, ap, ◌∙◌, ℕ, zero, suc, ◌+◌, ◌-◌, ◌^◌, Bool, true, false, List, [], ◌∷◌, ◌++◌, length, map, Option, Some, None, arith}
use Rattle.std.specs.Prelude.{if◌then◌else◌, ◌||◌, ◌&&◌, not, nat_lt, min, slice_get}
use Rattle.std.proofs.lemmas.Bool.Decides.{nat_tests}
use Rattle.oss_syntax.specs.declared.access.Access.{Access}
use Rattle.oss_syntax.specs.declared.access.Range.{Range}
use Rattle.oss_syntax.specs.declared.access.Op.{Op}
use Rattle.oss_syntax.specs.declared.access.Mode.{Mode}
use Rattle.oss_syntax.specs.declared.access.Mode.TheVariants.{Read, Write, Fold}
use Rattle.oss_ranges.specs.declared.piece.Piece.{Piece}
use Rattle.oss_ranges.specs.Cells.{is_within, value_at}
use Rattle.oss_meaning.specs.Clauses.{waited_for}
use Rattle.oss_meaning.specs.Sections.{declared_on}
use Rattle.oss_judge.specs.Joined.{held_right}
use Rattle.oss_machine.specs.Frames.{CodeScript}
use Rattle.oss_model.specs.Bodies.{Act, Order, Program, Start}
use Rattle.oss_model.specs.Bodies.Act.{Awaited, Created, Releases, Waited, WaitedOn}
use Rattle.oss_model.specs.Context.{in_clauses, right_of}
use Rattle.oss_model.specs.History.{IsMade}
use Rattle.oss_model.specs.Machine.{At, HasAccess, State, Task}
use Rattle.oss_model.specs.Order.{written}
use Rattle.oss_model.specs.Rights.{Right, NoRight, Released, Holds}
use Rattle.oss_model.proofs.TreeLemmas.{at_same}
use Rattle.oss_body.specs.declared.act.Act.{Act as CodeAct}
use Rattle.oss_body.specs.declared.act.Act.TheVariants as acts
use Rattle.oss_body.specs.Acts.{act_seen}
use Rattle.oss_chain_laws.specs.Chains.{Best as Longest, better as better_chain, capped, no_chain, one_more}
use Rattle.oss_chain_laws.specs.Happenings.{Happening, Acting, Giving, Does, Frees, StartsWith, WaitsFor, tick_of}
use Rattle.oss_chain_laws.specs.Pass.{Kept, IsKept, acted}
use Rattle.oss_chain_laws.specs.Runs.{ticks_at}
use Rattle.oss_chain_laws.specs.Tables.{GivenBelow, given_below, GivenWith, given_with, InActWay, InReadWay, InTurnWay, turn_way, read_way, write_way, InWriteWay, JustBefore, LeftBelow, LeftWith}
use Rattle.oss_chain_laws.proofs.ChainLemmas.{most_step}
use Rattle.oss_chain_laws.proofs.LongestLemmas.{has_ticks}
use Rattle.oss_chain_laws.proofs.PassLemmas.{Most, same, either_most, no_most, acted_kept, not_nil}
use Rattle.oss_chain_laws.proofs.PassTheorem.{above_access}
use Rattle.oss_chain_laws.proofs.TableLemmas.{act_back, act_forth}
use Rattle.oss_chain_laws.proofs.ValueLemmas.{is_strong_fold as is_fold_right, other_keeps, released_frees, released_keeps, releases_of}
use Rattle.oss_span.specs.declared.best.Best.{Best}
use Rattle.oss_span.specs.declared.best.Mark.{Mark}
use Rattle.oss_span.specs.declared.frame.Frame.{Frame}
use Rattle.oss_span.specs.declared.marks.Marks.{Marks}
use Rattle.oss_span.specs.declared.marks.Way.{Way}
use Rattle.oss_span.specs.declared.marks.Way.TheVariants as ways
use Rattle.oss_span.specs.declared.node.Node.{Node}
use Rattle.oss_span.specs.declared.node.Node.TheVariants.{Acts}
use Rattle.oss_span.specs.declared.run.Run.{Run}
use Rattle.oss_span.specs.Acts.{IsSealed, after_act, ticked}
use Rattle.oss_span.specs.Bests.{better, better_mark, no_best, no_mark}
use Rattle.oss_span.specs.Changes.{before_of, freed, is_strong_fold, picked}
use Rattle.oss_span.specs.Frames.{Grows, IsActed, IsDoneBy, IsOther, IsReleased, IsStartOf, IsWaitOf, is_tick}
use Rattle.oss_span.specs.Shown.{IsBelow, Shows, shows_acts, acts_back}
use Rattle.oss_span.specs.Tables.{IsGreatest, IsGreatestOf, in_ranges, released}
use Rattle.oss_span.proofs.ToldLemmas.{bools, get_last, grows_one, grows_same, most_small, ShowsBest, ShowsMark, ShowsRun, shows_below, shows_on, Tells, tells_better, tells_none, tells_same, better_best_shown, none_shown, weight}
use Rattle.oss_model.specs.Order.{IsSuffix, whole}
use Rattle.oss_model.specs.Moves.{act_now, created_now, is_ended, after_answer, new_task, found_by}
use Rattle.oss_model.specs.Bodies.{stack_from}
use Rattle.oss_model.specs.Sequence.{Running, RunsOn, path_above}
use Rattle.oss_model.proofs.SequenceLemmas.{Stands}
use Rattle.oss_model.proofs.StageLemmas.{own_creation, created_next}
use Rattle.oss_chain_laws.proofs.RunTheorem.{Extends, skips}
use Rattle.oss_chain_laws.proofs.StageTheorem.{after, created_same, does, found_now, grown, keeps, last_act_of}
use Rattle.oss_span.specs.Changes.{is_fold_mode}
use Rattle.oss_span.proofs.FrameLemmas.{FrameFits, FrameTells, IsTop, ShowsCell, held_same, told_right, told_some}
use Rattle.oss_span.proofs.TableLemmas.{some_is}
use Rattle.oss_span.proofs.ActLemmas.{run_acts}
use Rattle.oss_span.proofs.ActedLemmas.{included_more, included_same, plain_tells, released_is, released_none, released_tells}
use Rattle.oss_span.proofs.SealLemmas.{frame_on, seal_grows}
use Rattle.oss_span.proofs.WayLemmas.{AreTops, FrameWay, WayTop, fits_start, released_few, released_right, released_top, way_top}
use Rattle.oss_model.specs.Bodies.{child_start}
use Rattle.oss_model.specs.Machine.{find, mode_in}
use Rattle.oss_model.specs.Rights.{right_from}
use Rattle.oss_model.proofs.StageLemmas.{start_created}
use Rattle.oss_judge.specs.Joined.{IsRising}
use Rattle.oss_chain_laws.specs.Happenings.{EndsWith}
use Rattle.oss_chain_laws.specs.Pass.{opened as opened_kept}
use Rattle.oss_chain_laws.proofs.PassTheorem.{opened_below, opened_top}
use Rattle.oss_span.specs.declared.marks.Change.TheVariants.{Close}
use Rattle.oss_span.specs.Changes.{changed_at, closed}
use Rattle.oss_span.specs.Frames.{IsClosed, IsOpened}
use Rattle.oss_span.specs.Tables.{painted}
use Rattle.oss_span.proofs.StepLemmas.{Acted, act_done}
use Rattle.oss_span.proofs.WayLemmas.{main_frame, child_frame, fits_on, way_on, way_with}
use Rattle.oss_span.proofs.OpenLemmas.{creator_tells, new_tells, painted_few, painted_is, told_opened}
use Rattle.oss_span.proofs.EndedLemmas.{closed_tells}

-- what the end of a child leaves of a cell
closed_keeps : (g : Mark) (md : Mode) (x : Marks) → ((closed g md x).mode ≡ x.mode) × ((closed g md x).strong ≡ x.strong) × ((closed g md x).write_way ≡ x.write_way) × ((closed g md x).read_way ≡ x.read_way) × ((closed g md x).join_way ≡ x.join_way)
closed_keeps g Read x = (refl, refl, refl, refl, refl)
closed_keeps g Write x = (refl, refl, refl, refl, refl)
closed_keeps g (Fold op) x = (refl, refl, refl, refl, refl)

closed_right : (g : Mark) (md : Mode) (o : Option Marks) → told_right (changed_at (Close g md) o) ≡ told_right o
closed_right g md None = refl
closed_right g md (Some x) = let k = closed_keeps g md x in λ i. Holds (k.0 i) (k.1 i)

closed_few : (g : Mark) (md : Mode) (o : Option Marks) → o ≡ None → changed_at (Close g md) o ≡ None
closed_few g md o e = ap (λ (z : Option Marks). changed_at (Close g md) z) e

closed_top : (g : Mark) (md : Mode) (o : Option Marks) (z : Marks) → ((x : Marks) → o ≡ Some x → IsTop x) → changed_at (Close g md) o ≡ Some z → IsTop z
closed_top g md None z h e = absurd (cc)
closed_top g md (Some x) z h e =
    let k = closed_keeps g md x in
    let t = h x refl in
    subst IsTop (some_is _ _ e) (record { mode = k.0 ∙ t.mode; write_way = k.2 ∙ t.write_way; read_way = k.3 ∙ t.read_way; join_way = k.4 ∙ t.join_way })

pub held_twice : (r : Right) → held_right (held_right r) ≡ held_right r
held_twice NoRight = refl
held_twice Released = refl
held_twice (Holds m b) = refl

-- the tasks above
pub record WayRest (P : Program CodeScript) (s : State CodeScript) (nodes : List Node) (points : List (List ℕ)) (z : State CodeScript) (p : List ℕ) (j : ℕ) (rest : List Frame) : Type 0 where
  pub creator : Frame
  pub older : List Frame
  pub rest_is : rest ≡ creator ∷ older
  pub way : FrameWay P s nodes points z p j creator older

pub way_rest : (P : Program CodeScript) (s : State CodeScript) (nodes : List Node) (points : List (List ℕ)) (z : State CodeScript) {j m : ℕ} {p : List ℕ} {f : Frame} {rest : List Frame} → FrameWay P s nodes points z (j ∷ p) m f rest → WayRest P s nodes points z p j rest
way_rest P s nodes points z (child_frame {g = g} {rest = rest} u a fits tells w) = record { creator = g; older = rest; rest_is = refl; way = w }

module _ (P : Program CodeScript) (main : Start CodeScript) (s : State CodeScript) (made : IsMade P main s) (nodes more : List Node) (points : List (List ℕ)) where
  module _ (z y : Running CodeScript) (st : Stands P main z) (r : RunsOn P z y) (ex : Extends y.state s) (f g : Frame) (rest : List Frame) (way : FrameWay P s nodes points z.state z.active (created_now P r.task.body) f rest)
      (ca : CodeAct) (seen : act_seen ca ≡ act_now P r.task.body) (acts_on : IsActed ca f g nodes more) where
    abbrev n : ℕ
    n = length r.task.body.found

    abbrev m : ℕ
    m = created_now P r.task.body

    abbrev now : Task CodeScript
    now = after P main s made (weight P s) z y st r ex

    abbrev u : Task CodeScript
    u = (grown P main s made (weight P s) z y st r ex).0

    pub u_at : At s z.active u
    u_at = (grown P main s made (weight P s) z y st r ex).1

    u_start : u.body.start ≡ r.task.body.start
    u_start = (grown P main s made (weight P s) z y st r ex).2

    pub top : WayTop P s nodes points z.state z.active m f
    top = way_top P s nodes points way

    top_is : top.task ≡ r.task
    top_is = at_same z.state z.active top.task r.task top.at_ r.at_

    pub fits : FrameFits points u.body.start z.active n f
    fits = subst (λ (t : Task CodeScript). FrameFits points u.body.start z.active (length t.body.found) f) top_is (fits_start points top.task.body.start u.body.start z.active (length top.task.body.found) f (u_start ∙ sym (ap (λ (t : Task CodeScript). t.body.start) top_is)) top.fits)

    pub tells : FrameTells P s nodes points z.active n m f
    tells = subst (λ (t : Task CodeScript). FrameTells P s nodes points z.active (length t.body.found) m f) top_is top.tells

    act_does : Does P s z.active n m (act_seen ca)
    act_does = subst (λ (a : Act CodeScript). Does P s z.active n m a) (sym seen) (does P main s made (weight P s) z y st r ex)

    pub done_act : Acted P main s made nodes more points z.active n m f g u u_at fits tells top.tops (act_seen ca)
    done_act = act_done P main s made nodes more points z.active n m f g u u_at fits tells top.tops ca act_does acts_on

    fits_now : FrameFits points now.body.start z.active (suc n) g
    fits_now = fits_start points u.body.start r.task.body.start z.active (suc n) g (sym u_start) done_act.fits_now

    points_same : Grows points points
    points_same = λ i q h. h

    -- with the number of tasks created by then, where no task was created
    advanced : ((o : Order CodeScript) → act_now P r.task.body ≢ Created o false) → FrameTells P s more points z.active (suc n) (created_now P now.body) g
    advanced ne = go (skips (stack_from P r.task.body.start r.task.body.found).inner (act_now P r.task.body))
      where
        next : created_now P now.body ≡ m + own_creation (stack_from P r.task.body.start r.task.body.found).inner (act_now P r.task.body)
        next = created_next P r.task.body.start (found_now P main s made (weight P s) z y st r ex) r.task.body.found

        included : (o : Order CodeScript) (i : Bool) → act_now P r.task.body ≡ Created o i → act_seen ca ≡ Created o true
        included o true e = seen ∙ e
        included o false e = absurd (ne o e)

        go : (own_creation (stack_from P r.task.body.start r.task.body.found).inner (act_now P r.task.body) ≡ 0) ⊎ ((o : Order CodeScript) × (i : Bool) × (own_creation (stack_from P r.task.body.start r.task.body.found).inner (act_now P r.task.body) ≡ 1) × (act_now P r.task.body ≡ Created o i))
            → FrameTells P s more points z.active (suc n) (created_now P now.body) g
        go (inl e) = let q : m ≡ created_now P now.body = omega (arith, next, e) in subst (λ (k : ℕ). FrameTells P s more points z.active (suc n) k g) q done_act.same
        go (inr (o, i, e, a)) = let q : suc m ≡ created_now P now.body = omega (arith, next, e) in subst (λ (k : ℕ). FrameTells P s more points z.active (suc n) k g) q (done_act.one_more o (included o i a))

    keep : (q : List ℕ) (w : Task CodeScript) → length q < length z.active → At z.state q w → At y.state q w
    keep = keeps P main s made (weight P s) z y st r ex

    -- the task goes on
    pub way_stays : ((o : Order CodeScript) → act_now P r.task.body ≢ Created o false) → FrameWay P s more points y.state z.active (created_now P now.body) g rest
    way_stays ne = way_with P s nodes more points points done_act.grows points_same z.state y.state way (created_now P now.body) g now r.tasks.own fits_now done_act.tops_now (advanced ne) keep

    -- the task ends, and its creator goes on
    pub way_up : ((o : Order CodeScript) → act_now P r.task.body ≢ Created o false) → is_ended P now.body ≡ true → (j : ℕ) (p : List ℕ) → z.active ≡ j ∷ p → (creator next : Frame) (older : List Frame) (last : List Node) → rest ≡ creator ∷ older → IsClosed creator next g more last
        → (t : Task CodeScript) × At y.state p t × FrameWay P s last points y.state p (created_now P t.body) next older
    way_up ne ended j p q creator next older last rest_is close =
        let w = subst (λ (x : List ℕ). FrameWay P s nodes points z.state x m f rest) q way in
        let wr = way_rest P s nodes points z.state w in
        let e : wr.creator ∷ wr.older ≡ creator ∷ older = sym wr.rest_is ∙ rest_is in
        let ec : wr.creator ≡ creator = cc in
        let eo : wr.older ≡ older = cc in
        let above : FrameWay P s nodes points z.state p j creator older = subst (λ (o : List Frame). FrameWay P s nodes points z.state p j creator o) eo (subst (λ (c : Frame). FrameWay P s nodes points z.state p j c wr.older) ec wr.way) in
        let at_top = way_top P s nodes points above in
        let fits_child = subst (λ (x : List ℕ). FrameFits points u.body.start x (suc n) g) q done_act.fits_now in
        let tells_child = subst (λ (x : List ℕ). FrameTells P s more points x (suc n) (created_now P u.body) g) q (subst (λ (k : ℕ). FrameTells P s more points z.active (suc n) k g) (created_same P main s made (weight P s) z y st r ex ended) (advanced ne)) in
        let at_child = subst (λ (x : List ℕ). At s x u) q u_at in
        let ends = subst (λ (x : List ℕ). EndsWith P s x n) q (last_act_of P main s made (weight P s) z y st r ex ended) in
        let tells_above = frame_on P s nodes more points points done_act.grows points_same p (length at_top.task.body.found) j creator at_top.tells in
        let tells_now = closed_tells P main s made more last points p (length at_top.task.body.found) j n creator next g u at_child ends fits_child tells_child tells_above close in
        let short : length p < length z.active = shorter q in
        let here = keep p at_top.task short at_top.at_ in
        let grows_all : Grows nodes last = λ i v h. close.grows i v (sealed_too i v (done_act.grows i v h)) in
        let count : created_now P at_top.task.body ≡ j + 1 = st.chain p j at_top.task (subst (λ (x : List ℕ). IsSuffix (j ∷ p) x) (sym q) whole) at_top.at_ in
        let k : suc j ≡ created_now P at_top.task.body = omega (arith, count) in (
          at_top.task,
          here,
          subst (λ (i : ℕ). FrameWay P s last points y.state p i next older) k
              (way_with P s nodes last points points grows_all points_same z.state y.state above (suc j) next at_top.task here (closed_fits at_top.task.body.start (length at_top.task.body.found) at_top.fits) (closed_tops at_top.tops) tells_now (λ v x l h. keep v x (omega (arith, l, short)) h)),
        )
      where
        shorter : z.active ≡ j ∷ p → length p < length z.active
        shorter e = let l : length z.active ≡ length (j ∷ p) = ap (λ (x : List ℕ). length x) e in omega (arith, l)

        sealed_too : Grows more close.sealed_nodes
        sealed_too = seal_grows P s more close.sealed_nodes points g.task z.active g.run close.sealed_run close.last (advanced ne).kept.last close.sealed done_act.fits_now.task (advanced ne).last

        small : (c : ℕ) (x : Marks) → value_at g.table.pieces c ≡ Some x → c < 1048576
        small c x h = below_all c (λ l. let e = done_act.fits_now.few c l in let k = sym e ∙ h in absurd (cc))
          where
            below_all : (c : ℕ) → (1048576 ≤ c → ⊥) → c < 1048576
            below_all c h = grind arith

        -- what is told of a cell of the creator is told still
        cell_of : (c : ℕ) (Q : Option Marks → Type 0) → Q (value_at creator.table.pieces c) → ((v : Mark) (md : Mode) → Q (changed_at (Close v md) (value_at creator.table.pieces c))) → Q (value_at next.table.pieces c)
        cell_of c Q same_cell changed_cell = go (value_at g.table.pieces c) refl
          where
            go : (o : Option Marks) → value_at g.table.pieces c ≡ o → Q (value_at next.table.pieces c)
            go None e = subst Q (sym (close.cells.others c e)) same_cell
            go (Some x) e = let k = close.cells.cell c x (small c x e) e in subst Q (sym k.new_is) (changed_cell (better_mark k.value x.given) x.mode)

        closed_fits : (start : Start CodeScript) (i : ℕ) → FrameFits points start p i creator → FrameFits points start p i next
        closed_fits start i t = record {
          task = ap (λ (k : ℕ). slice_get points k) close.rest.0 ∙ t.task;
          wait = close.rest.1 ∙ t.wait;
          acts = ap (λ (k : Run). k.acts) close.rest.2 ∙ t.acts;
          rights = λ c. cell_of c (λ o. told_right o ≡ held_right (right_of start.context c)) (t.rights c) (λ v md. closed_right v md (value_at creator.table.pieces c) ∙ t.rights c);
          few = λ c l. cell_of c (λ o. o ≡ None) (t.few c l) (λ v md. closed_few v md (value_at creator.table.pieces c) (t.few c l));
        }

        closed_tops : AreTops P s nodes points p creator → AreTops P s last points p next
        closed_tops h e c x = cell_of c (λ o. o ≡ Some x → IsTop x) (λ k. h e c x k) (λ v md k. closed_top v md (value_at creator.table.pieces c) x (λ y i. h e c y i) k)

    -- the task creates one, which runs
    pub way_down : (o : Order CodeScript) → act_now P r.task.body ≡ Created o false → (cur : Task CodeScript) → At y.state y.active cur → (accesses : List Access) (point : List ℕ) (creator child : Frame) (last : List Node) → point ≡ written y.active
        → ((c : ℕ) → right_from false accesses c ≡ held_right (right_of cur.body.start.context c)) → IsRising accesses → IsOpened (length points) cur.body.start.order.wait accesses g creator child more last
        → y.active ≡ m ∷ z.active → FrameWay P s last (points ++ point ∷ []) y.state y.active (created_now P cur.body) child (creator ∷ rest)
    unfolding child_start
    way_down o a cur cur_at accesses point creator child last point_is rights rising opens active = result
      where
        others : List (List ℕ)
        others = points ++ point ∷ []

        added : Grows points (points ++ point ∷ [])
        added = grows_one points point

        kid : Task CodeScript
        kid = new_task P r.task.body o

        kid_at : At y.state (m ∷ z.active) (new_task P r.task.body o)
        kid_at = r.tasks.made o a

        cur_is : cur ≡ new_task P r.task.body o
        cur_is = at_same y.state (m ∷ z.active) cur (new_task P r.task.body o) (subst (λ (x : List ℕ). At y.state x cur) active cur_at) kid_at

        there : (v : Task CodeScript) × At s (m ∷ z.active) v × (v.body.start ≡ (new_task P r.task.body o).body.start) × IsSuffix (new_task P r.task.body o).body.found v.body.found
        there = ex.grown (m ∷ z.active) (new_task P r.task.body o) kid_at

        start_is : there.0.body.start ≡ cur.body.start
        start_is = there.2 ∙ sym (ap (λ (t : Task CodeScript). t.body.start) cur_is)

        rights_there : (c : ℕ) → right_from false accesses c ≡ held_right (right_of there.0.body.start.context c)
        rights_there c = rights c ∙ sym (ap (λ (b : Start CodeScript). held_right (right_of b.context c)) start_is)

        d : Does P s z.active n m (Created o false)
        d = subst (λ (b : Act CodeScript). Does P s z.active n m b) a (does P main s made (weight P s) z y st r ex)

        above : FrameTells P s last (points ++ point ∷ []) z.active (suc n) m creator
        above = creator_tells P main s made more last points (points ++ point ∷ []) z.active n m g creator child u there.0 o u_at there.1 done_act.fits_now done_act.same done_act.tops_now d (length points) cur.body.start.order.wait accesses opens rights_there rising added

        kid_tells : FrameTells P s last (points ++ point ∷ []) (m ∷ z.active) 0 0 child
        kid_tells = go z.active refl
          where
            tell : (b : Bool) → (b ≡ true → z.active ≡ []) → IsKept P s (weight P s) (m ∷ z.active) 0 0 (opened_kept b (λ c. mode_in (find s.tasks z.active) c) done_act.same.kept) → FrameTells P s last (points ++ point ∷ []) (m ∷ z.active) 0 0 child
            tell b h k = new_tells P main s made more last points (points ++ point ∷ []) z.active n m g creator child u there.0 o u_at there.1 done_act.fits_now done_act.same done_act.tops_now d (length points) cur.body.start.order.wait accesses opens rights_there rising added b h k

            go : (q : List ℕ) → z.active ≡ q → FrameTells P s last (points ++ point ∷ []) (m ∷ z.active) 0 0 child
            go [] e =
                let k = subst (λ (x : List ℕ). IsKept P s (weight P s) x (suc n) m done_act.same.kept) e done_act.same.is_kept in
                let i = subst (λ (x : List ℕ). Does P s x n m (Created o false)) e d in
                tell true (λ h. e) (subst (λ (x : List ℕ). IsKept P s (weight P s) (m ∷ x) 0 0 (opened_kept true (λ c. mode_in (find s.tasks x) c) done_act.same.kept)) (sym e) (opened_top P main s made (weight P s) n m o done_act.same.kept (λ c. mode_in (find s.tasks []) c) k i))
            go (j ∷ q) e =
                let k = subst (λ (x : List ℕ). IsKept P s (weight P s) x (suc n) m done_act.same.kept) e done_act.same.is_kept in
                let i = subst (λ (x : List ℕ). Does P s x n m (Created o false)) e d in
                tell false (λ h. absurd (cc)) (subst (λ (x : List ℕ). IsKept P s (weight P s) (m ∷ x) 0 0 (opened_kept false (λ c. mode_in (find s.tasks x) c) done_act.same.kept)) (sym e) (opened_below P main s made (weight P s) j q n m o done_act.same.kept (λ c. mode_in (find s.tasks (j ∷ q)) c) k i (λ c. refl)))

        creator_fits : FrameFits (points ++ point ∷ []) now.body.start z.active (suc n) creator
        creator_fits = record {
          task = ap (λ (i : ℕ). slice_get (points ++ point ∷ []) i) opens.same.0 ∙ added g.task (written z.active) fits_now.task;
          wait = opens.same.1 ∙ fits_now.wait;
          acts = opens.sealed.same.0 ∙ fits_now.acts;
          rights = λ c. ap (λ (t : _). told_right (value_at t.pieces c)) opens.same.4 ∙ fits_now.rights c;
          few = λ c l. ap (λ (t : _). value_at t.pieces c) opens.same.4 ∙ fits_now.few c l;
        }

        creator_tops : AreTops P s last (points ++ point ∷ []) z.active creator
        creator_tops e c x h = done_act.tops_now e c x (sym (ap (λ (t : _). value_at t.pieces c) opens.same.4) ∙ h)

        way_above : FrameWay P s last (points ++ point ∷ []) y.state z.active m creator rest
        way_above =
            way_with P s nodes last points (points ++ point ∷ []) (λ i v h. seal_grows P s more last points g.task z.active g.run creator.run opens.best done_act.same.kept.last opens.sealed done_act.fits_now.task done_act.same.last i v (done_act.grows i v h)) added
            z.state y.state way m creator now r.tasks.own creator_fits creator_tops above keep

        kid_fits : FrameFits (points ++ point ∷ []) (new_task P r.task.body o).body.start (m ∷ z.active) 0 child
        kid_fits = record {
          task = ap (λ (i : ℕ). slice_get (points ++ point ∷ []) i) opens.rest.0 ∙ (get_last points point ∙ ap (λ (x : List ℕ). Some x) (point_is ∙ ap (λ (x : List ℕ). written x) active));
          wait = opens.rest.1 ∙ ap (λ (t : Task CodeScript). t.body.start.order.wait) cur_is;
          acts = ap (λ (k : Run). k.acts) opens.run;
          rights = λ c. ap told_right (opens.cells c ∙ painted_is (value_at g.table.pieces c) accesses c rising) ∙ (told_opened (value_at g.table.pieces c) (right_from false accesses c) ∙ (ap held_right (rights c) ∙ (held_twice (right_of cur.body.start.context c) ∙ ap (λ (t : Task CodeScript). held_right (right_of t.body.start.context c)) cur_is)));
          few = λ c l. opens.cells c ∙ painted_few (value_at g.table.pieces c) accesses c l;
        }

        none_created : created_now P (new_task P r.task.body o).body ≡ 0
        none_created = start_created P (new_task P r.task.body o).body.start refl

        made_way : FrameWay P s last (points ++ point ∷ []) y.state (m ∷ z.active) 0 child (creator ∷ rest)
        made_way = child_frame (new_task P r.task.body o) kid_at kid_fits kid_tells way_above

        result : FrameWay P s last (points ++ point ∷ []) y.state y.active (created_now P cur.body) child (creator ∷ rest)
        result =
            subst (λ (x : List ℕ). FrameWay P s last (points ++ point ∷ []) y.state x (created_now P cur.body) child (creator ∷ rest)) (sym active)
            (subst (λ (i : ℕ). FrameWay P s last (points ++ point ∷ []) y.state (m ∷ z.active) i child (creator ∷ rest)) (sym (ap (λ (t : Task CodeScript). created_now P t.body) cur_is ∙ none_created)) made_way)
