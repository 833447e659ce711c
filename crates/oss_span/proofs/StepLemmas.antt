-- An act of the task that runs: what is kept of it is right, whichever act it is.
use Rattle.std.proofs.Common.{◌≡◌, ◌≢◌, ◌≤◌, ◌<◌, ◌⊎◌, inl, inr, refl, sym, subst, ap, ◌∙◌, ℕ, zero, suc, ◌+◌, ◌-◌, ◌^◌, Bool, true, false, List, [], ◌∷◌, ◌++◌, length, map, Option, Some, None, arith}
use Rattle.std.specs.Prelude.{if◌then◌else◌, ◌||◌, ◌&&◌, not, nat_lt, min, slice_get}
use Rattle.std.proofs.lemmas.Bool.Decides.{nat_tests}
use Rattle.oss_syntax.specs.declared.access.Access.{Access}
use Rattle.oss_syntax.specs.declared.access.Range.{Range}
use Rattle.oss_syntax.specs.declared.access.Op.{Op}
use Rattle.oss_syntax.specs.declared.access.Mode.{Mode}
use Rattle.oss_syntax.specs.declared.access.Mode.TheVariants.{Read, Write, Fold}
use Rattle.oss_ranges.specs.declared.piece.Piece.{Piece}
use Rattle.oss_ranges.specs.Cells.{is_within, value_at}
use Rattle.oss_meaning.specs.Clauses.{waited_for}
use Rattle.oss_meaning.specs.Sections.{declared_on}
use Rattle.oss_judge.specs.Joined.{held_right}
use Rattle.oss_machine.specs.Frames.{CodeScript}
use Rattle.oss_model.specs.Bodies.{Act, Order, Program, Start}
use Rattle.oss_model.specs.Bodies.Act.{Awaited, Created, Releases, Waited, WaitedOn}
use Rattle.oss_model.specs.Context.{in_clauses, right_of}
use Rattle.oss_model.specs.History.{IsMade}
use Rattle.oss_model.specs.Machine.{At, HasAccess, State, Task}
use Rattle.oss_model.specs.Order.{written}
use Rattle.oss_model.specs.Rights.{Right, NoRight, Released, Holds}
use Rattle.oss_model.proofs.TreeLemmas.{at_same}
use Rattle.oss_body.specs.declared.act.Act.{Act as CodeAct}
use Rattle.oss_body.specs.declared.act.Act.TheVariants as acts
use Rattle.oss_body.specs.Acts.{act_seen}
use Rattle.oss_chain_laws.specs.Chains.{Best as Longest, better as better_chain, capped, no_chain, one_more}
use Rattle.oss_chain_laws.specs.Happenings.{Happening, Acting, Giving, Does, Frees, StartsWith, WaitsFor, tick_of}
use Rattle.oss_chain_laws.specs.Pass.{Kept, IsKept, acted}
use Rattle.oss_chain_laws.specs.Runs.{ticks_at}
use Rattle.oss_chain_laws.specs.Tables.{GivenBelow, given_below, GivenWith, given_with, InActWay, InReadWay, InTurnWay, turn_way, read_way, write_way, InWriteWay, JustBefore, LeftBelow, LeftWith}
use Rattle.oss_chain_laws.proofs.ChainLemmas.{most_step}
use Rattle.oss_chain_laws.proofs.LongestLemmas.{has_ticks}
use Rattle.oss_chain_laws.proofs.PassLemmas.{Most, same, either_most, no_most, acted_kept, not_nil}
use Rattle.oss_chain_laws.proofs.PassTheorem.{above_access}
use Rattle.oss_chain_laws.proofs.TableLemmas.{act_back, act_forth}
use Rattle.oss_chain_laws.proofs.ValueLemmas.{is_strong_fold as is_fold_right, other_keeps, released_frees, released_keeps, releases_of}
use Rattle.oss_span.specs.declared.best.Best.{Best}
use Rattle.oss_span.specs.declared.best.Mark.{Mark}
use Rattle.oss_span.specs.declared.frame.Frame.{Frame}
use Rattle.oss_span.specs.declared.marks.Marks.{Marks}
use Rattle.oss_span.specs.declared.marks.Way.{Way}
use Rattle.oss_span.specs.declared.marks.Way.TheVariants as ways
use Rattle.oss_span.specs.declared.node.Node.{Node}
use Rattle.oss_span.specs.declared.node.Node.TheVariants.{Acts}
use Rattle.oss_span.specs.declared.run.Run.{Run}
use Rattle.oss_span.specs.Acts.{IsSealed, after_act, ticked}
use Rattle.oss_span.specs.Bests.{better, better_mark, no_best, no_mark}
use Rattle.oss_span.specs.Changes.{before_of, freed, is_strong_fold, picked}
use Rattle.oss_span.specs.Frames.{Grows, IsActed, IsDoneBy, IsOther, IsReleased, IsStartOf, IsWaitOf, is_tick}
use Rattle.oss_span.specs.Shown.{IsBelow, Shows, shows_acts, acts_back}
use Rattle.oss_span.specs.Tables.{IsGreatest, IsGreatestOf, in_ranges, released}
use Rattle.oss_span.proofs.ToldLemmas.{bools, get_last, grows_one, grows_same, most_small, ShowsBest, ShowsMark, ShowsRun, shows_below, shows_on, Tells, tells_better, tells_none, tells_same, better_best_shown, none_shown, weight}
use Rattle.oss_model.specs.Order.{IsSuffix, whole}
use Rattle.oss_model.specs.Moves.{act_now, created_now, is_ended, after_answer, new_task, found_by}
use Rattle.oss_model.specs.Bodies.{stack_from}
use Rattle.oss_model.specs.Sequence.{Running, RunsOn, path_above}
use Rattle.oss_model.proofs.SequenceLemmas.{Stands}
use Rattle.oss_model.proofs.StageLemmas.{own_creation, created_next}
use Rattle.oss_chain_laws.proofs.RunTheorem.{Extends, skips}
use Rattle.oss_chain_laws.proofs.StageTheorem.{after, created_same, does, found_now, grown, keeps, last_act_of}
use Rattle.oss_span.specs.Changes.{is_fold_mode}
use Rattle.oss_span.proofs.FrameLemmas.{FrameFits, FrameTells, IsTop, ShowsCell, held_same, told_right, told_some}
use Rattle.oss_span.proofs.TableLemmas.{some_is}
use Rattle.oss_span.proofs.ActLemmas.{run_acts}
use Rattle.oss_span.proofs.ActedLemmas.{included_more, included_same, plain_tells, released_is, released_none, released_tells}
use Rattle.oss_span.proofs.SealLemmas.{frame_on, seal_grows}
use Rattle.oss_span.proofs.WayLemmas.{AreTops, FrameWay, WayTop, fits_start, released_few, released_right, released_top, way_top}

same_more : {A : Type 0} (xs ys : List A) → ys ≡ xs → Grows xs ys
same_more xs ys e = grows_same xs ys e

module _ (P : Program CodeScript) (main : Start CodeScript) (s : State CodeScript) (made : IsMade P main s) (nodes more : List Node) (points : List (List ℕ)) where
  module _ (p : List ℕ) (n m : ℕ) (f g : Frame) (u : Task CodeScript) (at_ : At s p u) (fits : FrameFits points u.body.start p n f) (told : FrameTells P s nodes points p n m f) (tops : p ≡ [] → (c : ℕ) (x : Marks) → value_at f.table.pieces c ≡ Some x → IsTop x) where
    -- what an act leaves
    pub record Acted (a : Act CodeScript) : Type 0 where
      pub grows : Grows nodes more
      pub fits_now : FrameFits points u.body.start p (suc n) g
      pub tops_now : AreTops P s more points p g
      pub same : FrameTells P s more points p (suc n) m g
      pub one_more : (o : Order CodeScript) → a ≡ Created o true → FrameTells P s more points p (suc n) (suc m) g

    -- an act that leaves the table
    module _ (ca : CodeAct) (other : Best) (d : Does P s p n m (act_seen ca)) (is_other : IsOther f ca other) where
      abbrev run : Run
      run = after_act other (is_tick ca) f.run

      acts_now : run.acts ≡ suc n
      acts_now = run_acts P main s made nodes points p n m f u at_ fits told tops ca other d is_other run refl

      not_one : (a b : Act CodeScript) (o : Order CodeScript) → a ≡ b → b ≡ Created o true → a ≡ Created o true
      not_one a b o e h = e ∙ h

      plain : (a : Act CodeScript) → act_seen ca ≡ a → ((clauses : List Access) → act_seen ca ≢ Releases clauses false) → ((o : Order CodeScript) → a ≢ Created o true) → (g ≡ record f { run = run }) → (more ≡ nodes) → Acted a
      plain a is none not_included e q =
          let t = plain_tells P main s made nodes more points p n m f g u at_ fits told tops ca other d is_other none in
          let r : FrameTells P s nodes points p (suc n) m g = subst (λ (h : Frame). FrameTells P s nodes points p (suc n) m h) (sym e) t in
          record {
            grows = same_more nodes more q;
            fits_now = subst (λ (h : Frame). FrameFits points u.body.start p (suc n) h) (sym e) (record { task = fits.task; wait = fits.wait; acts = acts_now; rights = fits.rights; few = fits.few });
            tops_now = subst (λ (h : Frame). AreTops P s more points p h) (sym e) tops;
            same = subst (λ (ns : List Node). FrameTells P s ns points p (suc n) m g) (sym q) r;
            one_more = λ o h. absurd (not_included o h);
          }

      included : (o : Order CodeScript) → act_seen ca ≡ Created o true → (g ≡ record f { run = run; newest = no_best }) → (more ≡ nodes) → Acted (Created o true)
      included o is e q =
          let t = included_same P main s made nodes more points p n m f g u at_ fits told tops ca other d is_other o is in
          let v = included_more P main s made nodes more points p n m f g u at_ fits told tops ca other d is_other o is in
          let r : FrameTells P s nodes points p (suc n) m g = subst (λ (h : Frame). FrameTells P s nodes points p (suc n) m h) (sym e) t in
          let w : FrameTells P s nodes points p (suc n) (suc m) g = subst (λ (h : Frame). FrameTells P s nodes points p (suc n) (suc m) h) (sym e) v in
          record {
            grows = same_more nodes more q;
            fits_now = subst (λ (h : Frame). FrameFits points u.body.start p (suc n) h) (sym e) (record { task = fits.task; wait = fits.wait; acts = acts_now; rights = fits.rights; few = fits.few });
            tops_now = subst (λ (h : Frame). AreTops P s more points p h) (sym e) tops;
            same = subst (λ (ns : List Node). FrameTells P s ns points p (suc n) m g) (sym q) r;
            one_more = λ other h. subst (λ (ns : List Node). FrameTells P s ns points p (suc n) (suc m) g) (sym q) w;
          }

      releasing : (clauses : List Access) → act_seen ca ≡ Releases clauses false → IsReleased clauses (record f { run = run }) g nodes more → Acted (Releases clauses false)
      releasing clauses is rel =
          record {
            grows = seal_grows P s nodes more points f.task p run g.run rel.best _ rel.sealed fits.task (Rattle.oss_span.proofs.ActLemmas.run_shown P main s made nodes points p n m f u at_ fits told tops ca other d is_other run refl);
            fits_now = record {
              task = ap (λ (i : ℕ). slice_get points i) rel.rest.0 ∙ fits.task;
              wait = rel.rest.1 ∙ fits.wait;
              acts = rel.sealed.same.0 ∙ acts_now;
              rights = λ c. ap told_right (rel.cells c) ∙ (released_right rel.best.mark clauses c (value_at f.table.pieces c) ∙ fits.rights c);
              few = λ c l. rel.cells c ∙ released_few rel.best.mark clauses c (value_at f.table.pieces c) (fits.few c l);
            };
            tops_now = λ q c x e. released_top rel.best.mark clauses c (value_at f.table.pieces c) x (λ y h. tops q c y h) (sym (rel.cells c) ∙ e);
            same = released_tells P main s made nodes more points p n m f g u at_ fits told tops ca other d is_other clauses is rel;
            one_more = λ o h. absurd (cc);
          }

    pub act_done : (ca : CodeAct) → Does P s p n m (act_seen ca) → IsActed ca f g nodes more → Acted (act_seen ca)
    act_done acts.Tick d a = plain acts.Tick a.other d a.is_other (act_seen acts.Tick) refl (λ x e. cc) (λ o e. cc) a.done_.0 a.done_.1
    act_done (acts.Load c) d a = plain (acts.Load c) a.other d a.is_other (act_seen (acts.Load c)) refl (λ x e. cc) (λ o e. cc) a.done_.0 a.done_.1
    act_done (acts.Store c v) d a = plain (acts.Store c v) a.other d a.is_other (act_seen (acts.Store c v)) refl (λ x e. cc) (λ o e. cc) a.done_.0 a.done_.1
    act_done (acts.Fold c op v slot) d a = plain (acts.Fold c op v slot) a.other d a.is_other (act_seen (acts.Fold c op v slot)) refl (λ x e. cc) (λ o e. cc) a.done_.0 a.done_.1
    act_done (acts.Create creation true) d a = included (acts.Create creation true) a.other d a.is_other (Rattle.oss_machine.specs.Asks.meant_order creation.order) refl a.done_.0 a.done_.1
    act_done (acts.Create creation false) d a = plain (acts.Create creation false) a.other d a.is_other (act_seen (acts.Create creation false)) refl (λ x e. cc) (λ o e. cc) a.done_.0 a.done_.1
    act_done acts.Await d a = plain acts.Await a.other d a.is_other (act_seen acts.Await) refl (λ x e. cc) (λ o e. cc) a.done_.0 a.done_.1
    act_done acts.Wait d a = plain acts.Wait a.other d a.is_other (act_seen acts.Wait) refl (λ x e. cc) (λ o e. cc) a.done_.0 a.done_.1
    act_done (acts.WaitOn ranges) d a = plain (acts.WaitOn ranges) a.other d a.is_other (act_seen (acts.WaitOn ranges)) refl (λ x e. cc) (λ o e. cc) a.done_.0 a.done_.1
    act_done (acts.Release clauses true) d a = plain (acts.Release clauses true) a.other d a.is_other (act_seen (acts.Release clauses true)) refl (λ x e. cc) (λ o e. cc) a.done_.0 a.done_.1
    act_done (acts.Release clauses false) d a = releasing (acts.Release clauses false) a.other d a.is_other clauses refl a.done_
    act_done (acts.Print key text) d a = plain (acts.Print key text) a.other d a.is_other (act_seen (acts.Print key text)) refl (λ x e. cc) (λ o e. cc) a.done_.0 a.done_.1
    act_done acts.End d a = plain acts.End a.other d a.is_other (act_seen acts.End) refl (λ x e. cc) (λ o e. cc) a.done_.0 a.done_.1
    act_done (acts.Fault kind line key) d a = plain (acts.Fault kind line key) a.other d a.is_other (act_seen (acts.Fault kind line key)) refl (λ x e. cc) (λ o e. cc) a.done_.0 a.done_.1
