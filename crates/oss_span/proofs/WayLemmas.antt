-- What is kept of the tasks on the way to the one that runs, from stage to stage.
use Rattle.std.proofs.Common.{◌≡◌, ◌≢◌, ◌≤◌, ◌<◌, ◌⊎◌, inl, inr, refl, sym, subst, ap, ◌∙◌, ℕ, zero, suc, ◌+◌, ◌-◌, ◌^◌, Bool, true, false, List, [], ◌∷◌, ◌++◌, length, map, Option, Some, None, arith}
use Rattle.std.specs.Prelude.{if◌then◌else◌, ◌||◌, ◌&&◌, not, nat_lt, min, slice_get}
use Rattle.std.proofs.lemmas.Bool.Decides.{nat_tests}
use Rattle.oss_syntax.specs.declared.access.Access.{Access}
use Rattle.oss_syntax.specs.declared.access.Range.{Range}
use Rattle.oss_syntax.specs.declared.access.Op.{Op}
use Rattle.oss_syntax.specs.declared.access.Mode.{Mode}
use Rattle.oss_syntax.specs.declared.access.Mode.TheVariants.{Read, Write, Fold}
use Rattle.oss_ranges.specs.declared.piece.Piece.{Piece}
use Rattle.oss_ranges.specs.Cells.{is_within, value_at}
use Rattle.oss_meaning.specs.Clauses.{waited_for}
use Rattle.oss_meaning.specs.Sections.{declared_on}
use Rattle.oss_judge.specs.Joined.{held_right}
use Rattle.oss_machine.specs.Frames.{CodeScript}
use Rattle.oss_model.specs.Bodies.{Act, Order, Program, Start}
use Rattle.oss_model.specs.Bodies.Act.{Awaited, Created, Releases, Waited, WaitedOn}
use Rattle.oss_model.specs.Context.{in_clauses, right_of}
use Rattle.oss_model.specs.History.{IsMade}
use Rattle.oss_model.specs.Machine.{At, HasAccess, State, Task}
use Rattle.oss_model.specs.Order.{written}
use Rattle.oss_model.specs.Rights.{Right, NoRight, Released, Holds}
use Rattle.oss_model.proofs.TreeLemmas.{at_same}
use Rattle.oss_body.specs.declared.act.Act.{Act as CodeAct}
use Rattle.oss_body.specs.declared.act.Act.TheVariants as acts
use Rattle.oss_body.specs.Acts.{act_seen}
use Rattle.oss_chain_laws.specs.Chains.{Best as Longest, better as better_chain, capped, no_chain, one_more}
use Rattle.oss_chain_laws.specs.Happenings.{Happening, Acting, Giving, Does, Frees, StartsWith, WaitsFor, tick_of}
use Rattle.oss_chain_laws.specs.Pass.{Kept, IsKept, acted}
use Rattle.oss_chain_laws.specs.Runs.{ticks_at}
use Rattle.oss_chain_laws.specs.Tables.{GivenBelow, given_below, GivenWith, given_with, InActWay, InReadWay, InTurnWay, turn_way, read_way, write_way, InWriteWay, JustBefore, LeftBelow, LeftWith}
use Rattle.oss_chain_laws.proofs.ChainLemmas.{most_step}
use Rattle.oss_chain_laws.proofs.LongestLemmas.{has_ticks}
use Rattle.oss_chain_laws.proofs.PassLemmas.{Most, same, either_most, no_most, acted_kept, not_nil}
use Rattle.oss_chain_laws.proofs.PassTheorem.{above_access}
use Rattle.oss_chain_laws.proofs.TableLemmas.{act_back, act_forth}
use Rattle.oss_chain_laws.proofs.ValueLemmas.{is_strong_fold as is_fold_right, other_keeps, released_frees, released_keeps, releases_of}
use Rattle.oss_span.specs.declared.best.Best.{Best}
use Rattle.oss_span.specs.declared.best.Mark.{Mark}
use Rattle.oss_span.specs.declared.frame.Frame.{Frame}
use Rattle.oss_span.specs.declared.marks.Marks.{Marks}
use Rattle.oss_span.specs.declared.marks.Way.{Way}
use Rattle.oss_span.specs.declared.marks.Way.TheVariants as ways
use Rattle.oss_span.specs.declared.node.Node.{Node}
use Rattle.oss_span.specs.declared.node.Node.TheVariants.{Acts}
use Rattle.oss_span.specs.declared.run.Run.{Run}
use Rattle.oss_span.specs.Acts.{IsSealed, after_act, ticked}
use Rattle.oss_span.specs.Bests.{better, better_mark, no_best, no_mark}
use Rattle.oss_span.specs.Changes.{before_of, freed, is_strong_fold, picked}
use Rattle.oss_span.specs.Frames.{Grows, IsActed, IsDoneBy, IsOther, IsReleased, IsStartOf, IsWaitOf, is_tick}
use Rattle.oss_span.specs.Shown.{IsBelow, Shows, shows_acts, acts_back}
use Rattle.oss_span.specs.Tables.{IsGreatest, IsGreatestOf, in_ranges, released}
use Rattle.oss_span.proofs.ToldLemmas.{bools, get_last, grows_one, grows_same, most_small, ShowsBest, ShowsMark, ShowsRun, shows_below, shows_on, Tells, tells_better, tells_none, tells_same, better_best_shown, none_shown, weight}
use Rattle.oss_model.specs.Order.{IsSuffix, whole}
use Rattle.oss_model.specs.Moves.{act_now, created_now, is_ended, after_answer, new_task, found_by}
use Rattle.oss_model.specs.Bodies.{stack_from}
use Rattle.oss_model.specs.Sequence.{Running, RunsOn, path_above}
use Rattle.oss_model.proofs.SequenceLemmas.{Stands}
use Rattle.oss_model.proofs.StageLemmas.{own_creation, created_next}
use Rattle.oss_chain_laws.proofs.RunTheorem.{Extends, skips}
use Rattle.oss_chain_laws.proofs.StageTheorem.{after, created_same, does, found_now, grown, keeps, last_act_of}
use Rattle.oss_span.specs.Changes.{is_fold_mode}
use Rattle.oss_span.proofs.FrameLemmas.{FrameFits, FrameTells, IsTop, ShowsCell, held_same, told_right, told_some}
use Rattle.oss_span.proofs.TableLemmas.{some_is}
use Rattle.oss_span.proofs.ActLemmas.{run_acts}
use Rattle.oss_span.proofs.ActedLemmas.{included_more, included_same, plain_tells, released_is, released_none, released_tells}
use Rattle.oss_span.proofs.SealLemmas.{frame_on, seal_grows}

-- a frame with more points
pub fits_on : (points others : List (List ℕ)) (start : Start CodeScript) (p : List ℕ) (n : ℕ) (f : Frame) → Grows points others → FrameFits points start p n f → FrameFits others start p n f
fits_on points others start p n f g t = record { task = g f.task (written p) t.task; wait = t.wait; acts = t.acts; rights = t.rights; few = t.few }

pub fits_start : (points : List (List ℕ)) (start other : Start CodeScript) (p : List ℕ) (n : ℕ) (f : Frame) → other ≡ start → FrameFits points start p n f → FrameFits points other p n f
fits_start points start other p n f e t = subst (λ (b : Start CodeScript). FrameFits points b p n f) (sym e) t

-- what a release leaves of a cell
freed_keeps : (v : Mark) (b : Bool) (x : Marks) → ((if b then freed v x else x).mode ≡ x.mode) × ((if b then freed v x else x).strong ≡ x.strong) × ((if b then freed v x else x).write_way ≡ x.write_way) × ((if b then freed v x else x).read_way ≡ x.read_way) × ((if b then freed v x else x).join_way ≡ x.join_way)
freed_keeps v false x = (refl, refl, refl, refl, refl)
freed_keeps v true x = go (is_strong_fold x) refl
  where
    go : (b : Bool) → is_strong_fold x ≡ b → ((freed v x).mode ≡ x.mode) × ((freed v x).strong ≡ x.strong) × ((freed v x).write_way ≡ x.write_way) × ((freed v x).read_way ≡ x.read_way) × ((freed v x).join_way ≡ x.join_way)
    go true e = rw e (refl, refl, refl, refl, refl)
    go false e = rw e (refl, refl, refl, refl, refl)

pub released_right : (v : Mark) (clauses : List Access) (c : ℕ) (o : Option Marks) → told_right (released v clauses c o) ≡ told_right o
released_right v clauses c None = ap told_right (released_none v clauses c)
released_right v clauses c (Some x) = let k = freed_keeps v (in_clauses clauses c) x in ap told_right (released_is v clauses c x) ∙ (λ i. Holds (k.0 i) (k.1 i))

pub released_few : (v : Mark) (clauses : List Access) (c : ℕ) (o : Option Marks) → o ≡ None → released v clauses c o ≡ None
released_few v clauses c o e = ap (λ (x : Option Marks). released v clauses c x) e ∙ released_none v clauses c

pub released_top : (v : Mark) (clauses : List Access) (c : ℕ) (o : Option Marks) (z : Marks) → ((x : Marks) → o ≡ Some x → IsTop x) → released v clauses c o ≡ Some z → IsTop z
released_top v clauses c None z h e = let k = sym (released_none v clauses c) ∙ e in absurd (cc)
released_top v clauses c (Some x) z h e =
    let q : (if in_clauses clauses c then freed v x else x) ≡ z = some_is _ _ (sym (released_is v clauses c x) ∙ e) in
    let k = freed_keeps v (in_clauses clauses c) x in
    let t = h x refl in
    subst IsTop q (record { mode = k.0 ∙ t.mode; write_way = k.2 ∙ t.write_way; read_way = k.3 ∙ t.read_way; join_way = k.4 ∙ t.join_way })

module _ (P : Program CodeScript) (s : State CodeScript) (nodes : List Node) (points : List (List ℕ)) where
  -- what is kept of the tasks on the way to the one that runs, the innermost first; so many children of that one have ended
  pub data FrameWay (z : State CodeScript) : List ℕ → ℕ → Frame → List Frame → Type 0 where
    main_frame : {m : ℕ} {f : Frame} (u : Task CodeScript) → At z [] u → FrameFits points u.body.start [] (length u.body.found) f → ((c : ℕ) (x : Marks) → value_at f.table.pieces c ≡ Some x → IsTop x) → FrameTells P s nodes points [] (length u.body.found) m f → FrameWay z [] m f []
    child_frame : {k m : ℕ} {p : List ℕ} {f g : Frame} {rest : List Frame} (u : Task CodeScript) → At z (k ∷ p) u → FrameFits points u.body.start (k ∷ p) (length u.body.found) f → FrameTells P s nodes points (k ∷ p) (length u.body.found) m f → FrameWay z p k g rest → FrameWay z (k ∷ p) m f (g ∷ rest)

  abbrev pub AreTops : List ℕ → Frame → Type 0
  AreTops p f = p ≡ [] → (c : ℕ) (x : Marks) → value_at f.table.pieces c ≡ Some x → IsTop x

  pub record WayTop (z : State CodeScript) (p : List ℕ) (m : ℕ) (f : Frame) : Type 0 where
    pub task : Task CodeScript
    pub at_ : At z p task
    pub fits : FrameFits points task.body.start p (length task.body.found) f
    pub tops : AreTops p f
    pub tells : FrameTells P s nodes points p (length task.body.found) m f

  pub way_top : {z : State CodeScript} {p : List ℕ} {m : ℕ} {f : Frame} {rest : List Frame} → FrameWay z p m f rest → WayTop z p m f
  way_top (main_frame u h fits tops tells) = record { task = u; at_ = h; fits = fits; tops = λ q. tops; tells = tells }
  way_top (child_frame u h fits tells w) = record { task = u; at_ = h; fits = fits; tops = λ q. absurd (cc); tells = tells }

module _ (P : Program CodeScript) (s : State CodeScript) (nodes more : List Node) (points others : List (List ℕ)) (g : Grows nodes more) (h : Grows points others) where
  -- the way in a later state, where its tasks are the same
  pub way_on : (x y : State CodeScript) (d : ℕ) {p : List ℕ} {m : ℕ} {f : Frame} {rest : List Frame} → length p < d → ((q : List ℕ) (u : Task CodeScript) → length q < d → At x q u → At y q u) → FrameWay P s nodes points x p m f rest → FrameWay P s more others y p m f rest
  way_on x y d {f = f} l same_task (main_frame {m = m} u a fits tops tells) = main_frame u (same_task [] u l a) (fits_on points others u.body.start [] (length u.body.found) f h fits) tops (frame_on P s nodes more points others g h [] (length u.body.found) m f tells)
  way_on x y d l same_task (child_frame {k = k} {m = m} {p = p} {f = f} u a fits tells w) =
      child_frame u (same_task (k ∷ p) u l a) (fits_on points others u.body.start (k ∷ p) (length u.body.found) f h fits) (frame_on P s nodes more points others g h (k ∷ p) (length u.body.found) m f tells) (way_on x y d (omega (arith, l)) same_task w)

  -- with something else in the place of its innermost task
  pub way_with : (x y : State CodeScript) {p : List ℕ} {m : ℕ} {f : Frame} {rest : List Frame} → FrameWay P s nodes points x p m f rest → (n : ℕ) (e : Frame) (u : Task CodeScript) → At y p u → FrameFits others u.body.start p (length u.body.found) e → AreTops P s more others p e
      → FrameTells P s more others p (length u.body.found) n e → ((q : List ℕ) (w : Task CodeScript) → length q < length p → At x q w → At y q w) → FrameWay P s more others y p n e rest
  way_with x y (main_frame v a fits tops tells) n e u at_ fit top tell same_task = main_frame u at_ fit (top refl) tell
  way_with x y (child_frame {p = p} v a fits tells w) n e u at_ fit top tell same_task = child_frame u at_ fit tell (way_on x y (suc (length p)) (omega arith) same_task w)
