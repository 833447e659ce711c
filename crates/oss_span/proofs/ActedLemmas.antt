-- What is kept of a task is right behind each of its acts.
use Rattle.std.proofs.Common.{◌≡◌, ◌≢◌, ◌≤◌, ◌<◌, ◌⊎◌, inl, inr, refl, sym, subst, ap, ◌∙◌, ℕ, zero, suc, ◌+◌, ◌-◌, ◌^◌, Bool, true, false, List, [], ◌∷◌, ◌++◌, length, map, Option, Some, None, arith}
use Rattle.std.specs.Prelude.{if◌then◌else◌, ◌||◌, ◌&&◌, not, nat_lt, min, slice_get}
use Rattle.std.proofs.lemmas.Bool.Decides.{nat_tests}
use Rattle.oss_syntax.specs.declared.access.Access.{Access}
use Rattle.oss_syntax.specs.declared.access.Range.{Range}
use Rattle.oss_syntax.specs.declared.access.Op.{Op}
use Rattle.oss_syntax.specs.declared.access.Mode.{Mode}
use Rattle.oss_syntax.specs.declared.access.Mode.TheVariants.{Read, Write, Fold}
use Rattle.oss_ranges.specs.declared.piece.Piece.{Piece}
use Rattle.oss_ranges.specs.Cells.{is_within, value_at}
use Rattle.oss_meaning.specs.Clauses.{waited_for}
use Rattle.oss_meaning.specs.Sections.{declared_on}
use Rattle.oss_judge.specs.Joined.{held_right}
use Rattle.oss_machine.specs.Frames.{CodeScript}
use Rattle.oss_model.specs.Bodies.{Act, Order, Program, Start}
use Rattle.oss_model.specs.Bodies.Act.{Awaited, Created, Releases, Waited, WaitedOn}
use Rattle.oss_model.specs.Context.{in_clauses, right_of}
use Rattle.oss_model.specs.History.{IsMade}
use Rattle.oss_model.specs.Machine.{At, HasAccess, State, Task}
use Rattle.oss_model.specs.Order.{written}
use Rattle.oss_model.specs.Rights.{Right, NoRight, Released, Holds}
use Rattle.oss_model.proofs.TreeLemmas.{at_same}
use Rattle.oss_body.specs.declared.act.Act.{Act as CodeAct}
use Rattle.oss_body.specs.declared.act.Act.TheVariants as acts
use Rattle.oss_body.specs.Acts.{act_seen}
use Rattle.oss_chain_laws.specs.Chains.{Best as Longest, better as better_chain, capped, no_chain, one_more}
use Rattle.oss_chain_laws.specs.Happenings.{Happening, Acting, Giving, Does, Frees, StartsWith, WaitsFor, tick_of}
use Rattle.oss_chain_laws.specs.Pass.{Kept, IsKept, acted}
use Rattle.oss_chain_laws.specs.Runs.{ticks_at}
use Rattle.oss_chain_laws.specs.Tables.{GivenBelow, given_below, GivenWith, given_with, InActWay, InReadWay, InTurnWay, turn_way, read_way, write_way, InWriteWay, JustBefore, LeftBelow, LeftWith}
use Rattle.oss_chain_laws.proofs.ChainLemmas.{most_step}
use Rattle.oss_chain_laws.proofs.LongestLemmas.{has_ticks}
use Rattle.oss_chain_laws.proofs.PassLemmas.{Most, same, either_most, no_most, acted_kept, not_nil}
use Rattle.oss_chain_laws.proofs.PassTheorem.{above_access}
use Rattle.oss_chain_laws.proofs.TableLemmas.{act_back, act_forth}
use Rattle.oss_chain_laws.proofs.ValueLemmas.{is_strong_fold as is_fold_right, other_keeps, released_frees, released_keeps, releases_of}
use Rattle.oss_span.specs.declared.best.Best.{Best}
use Rattle.oss_span.specs.declared.best.Mark.{Mark}
use Rattle.oss_span.specs.declared.frame.Frame.{Frame}
use Rattle.oss_span.specs.declared.marks.Marks.{Marks}
use Rattle.oss_span.specs.declared.marks.Way.{Way}
use Rattle.oss_span.specs.declared.marks.Way.TheVariants as ways
use Rattle.oss_span.specs.declared.node.Node.{Node}
use Rattle.oss_span.specs.declared.node.Node.TheVariants.{Acts}
use Rattle.oss_span.specs.declared.run.Run.{Run}
use Rattle.oss_span.specs.Acts.{IsSealed, after_act, ticked}
use Rattle.oss_span.specs.Bests.{better, better_mark, no_best, no_mark}
use Rattle.oss_span.specs.Changes.{before_of, freed, is_strong_fold, picked}
use Rattle.oss_span.specs.Frames.{Grows, IsActed, IsDoneBy, IsOther, IsReleased, IsStartOf, IsWaitOf, is_tick}
use Rattle.oss_span.specs.Shown.{IsBelow, Shows, shows_acts, acts_back}
use Rattle.oss_span.specs.Tables.{IsGreatest, IsGreatestOf, in_ranges, released}
use Rattle.oss_span.proofs.ToldLemmas.{bools, get_last, grows_one, grows_same, most_small, ShowsBest, ShowsMark, ShowsRun, shows_below, shows_on, Tells, tells_better, tells_none, tells_same, better_best_shown, none_shown, weight}
use Rattle.oss_model.specs.Bodies.{Frame as Meant, stack_from, stack_act, stage_act, act_of}
use Rattle.oss_model.specs.Machine.{find, mode_in}
use Rattle.oss_model.specs.Order.{IsSuffix, here}
use Rattle.oss_model.proofs.BodyLemmas.{stack_ok, base_created, StackOk}
use Rattle.oss_model.proofs.StageLemmas.{creating}
use Rattle.oss_model.proofs.TreeLemmas.{task_above}
use Rattle.oss_chain_laws.specs.Pass.{closed}
use Rattle.oss_chain_laws.specs.Tables.{left_with}
use Rattle.oss_chain_laws.proofs.PassTheorem.{closed_kept}
use Rattle.oss_chain_laws.proofs.WaitLemmas.{left_at}
use Rattle.oss_span.specs.Changes.{changed_at, is_fold_mode}
use Rattle.oss_span.specs.declared.marks.Change.TheVariants.{Release}
use Rattle.oss_span.proofs.FrameLemmas.{FrameFits, FrameTells, IsTop, ShowsCell, held_same, told_right, told_some}
use Rattle.oss_span.proofs.ActLemmas.{right_is, run_acts, run_shown, run_some, value, value_most}
use Rattle.oss_span.proofs.TableLemmas.{some_is}
use Rattle.oss_span.proofs.ToldLemmas.{better_shown}
use Rattle.oss_span.proofs.SealLemmas.{cell_on, mark_on, tells_on, run_on, seal_all, seal_best, seal_grows, seal_run}

-- a task that includes another is final
included_final : (P : Program CodeScript) (b : Start CodeScript) (past : List ℕ) (o : Order CodeScript) → stage_act P b past ≡ Created o true → b.context.final ≡ true
unfolding stage_act act_of
included_final P b past o h = go (stack_from P b past).inner (stack_ok P b past) h
  where
    go : (inner : List (Meant CodeScript)) → StackOk b.context b.path (stack_from P b past).base inner → stack_act P (right_of b.context) (stack_from P b past).base inner (stack_from P b past).ended ≡ Created o true → b.context.final ≡ true
    go [] ok e = sym ((base_created P (right_of b.context) (stack_from P b past).base (stack_from P b past).ended o true e).flag ∙ ok.final)
    go (f ∷ fs) ok e = sym ok.final ∙ (ok.inner f here).owner

module _ (P : Program CodeScript) (main : Start CodeScript) (s : State CodeScript) (made : IsMade P main s) where
  -- it has no child
  no_child : (p : List ℕ) (n m : ℕ) (o : Order CodeScript) → Does P s p n m (Created o true) → (i : ℕ) (u : Task CodeScript) → At s (i ∷ p) u → ⊥
  no_child p n m o d i u h =
      let b = made.child i p u h in
      let f = included_final P d.task.body.start d.past o d.act_is in
      let g = (creating P b.creator.body.start b.past b.order b.act).open_ in
      let t : d.task ≡ b.creator = at_same s p d.task b.creator d.at_ b.at_ in
      let k : true ≡ false = sym f ∙ (ap (λ (z : Task CodeScript). z.body.start.context.final) t ∙ g) in
      cc

  nothing_left : (p : List ℕ) (n m : ℕ) (o : Order CodeScript) → Does P s p n m (Created o true) → (i : ℕ) (f : Happening) → LeftWith P s (i ∷ p) f → ⊥
  nothing_left p n m o d i f (left_with b left) =
      let x = left_at P s left in
      let u = task_above P main s (i ∷ p) x.task made b x.at_ in
      no_child p n m o d i u.0 u.1

better_none : (b : Best) → better b no_best ≡ b
better_none b = let e : nat_lt b.mark.ticks 0 ≡ false = grind (arith, nat_tests) in ap (λ (t : Bool). if t then no_best else b) e

-- a release twice is a release
freed_twice : (v : Mark) (x : Marks) → freed v (freed v x) ≡ freed v x
freed_twice v x = go (is_strong_fold x) refl
  where
    again : (f : Mark) → better_mark (better_mark f v) v ≡ better_mark f v
    again f = which (nat_lt f.ticks v.ticks) refl
      where
        itself : nat_lt v.ticks v.ticks ≡ false
        itself = grind (arith, nat_tests)

        which : (b : Bool) → nat_lt f.ticks v.ticks ≡ b → better_mark (better_mark f v) v ≡ better_mark f v
        which true e = rw (e, itself) refl
        which false e = rw (e, e) refl

    go : (b : Bool) → is_strong_fold x ≡ b → freed v (freed v x) ≡ freed v x
    go true e = rw (e, e) refl
    go false e = rw (e, e) (ap (λ (m : Mark). record x { is_freed = true; freed = m }) (again x.freed))

pub released_is : (v : Mark) (clauses : List Access) (c : ℕ) (x : Marks) → released v clauses c (Some x) ≡ Some (if in_clauses clauses c then freed v x else x)
released_is v [] c x = refl
released_is v (a ∷ rest) c x = go (Rattle.oss_model.specs.Rights.in_access a c) refl (released_is v rest c x) (released_is v rest c (freed v x))
  where
    go : (b : Bool) → Rattle.oss_model.specs.Rights.in_access a c ≡ b → released v rest c (Some x) ≡ Some (if in_clauses rest c then freed v x else x) → released v rest c (Some (freed v x)) ≡ Some (if in_clauses rest c then freed v (freed v x) else freed v x)
        → released v rest c (if b then changed_at (Release v) (Some x) else Some x) ≡ Some (if b || in_clauses rest c then freed v x else x)
    go true e old new = new ∙ ap (λ (y : Marks). Some y) (either (in_clauses rest c))
      where
        either : (t : Bool) → (if t then freed v (freed v x) else freed v x) ≡ freed v x
        either true = freed_twice v x
        either false = refl
    go false e old new = old

pub released_none : (v : Mark) (clauses : List Access) (c : ℕ) → released v clauses c None ≡ None
released_none v [] c = refl
released_none v (a ∷ rest) c = go (Rattle.oss_model.specs.Rights.in_access a c) (released_none v rest c)
  where
    go : (b : Bool) → released v rest c None ≡ None → released v rest c (if b then changed_at (Release v) None else None) ≡ None
    go true again = again
    go false again = again

-- the right of a reduction of the task itself
fold_same : (x : Marks) (r : Right) → r ≡ Holds x.mode x.strong → is_fold_right r ≡ is_strong_fold x
fold_same x r e = ap is_fold_right e ∙ go x.mode x.strong
  where
    go : (md : Mode) (strong : Bool) → is_fold_right (Holds md strong) ≡ (is_fold_mode md && strong)
    go Read true = refl
    go Read false = refl
    go Write true = refl
    go Write false = refl
    go (Fold op) true = refl
    go (Fold op) false = refl

-- a cell behind a release
release_cell : (P : Program CodeScript) (s : State CodeScript) (nodes : List Node) (points : List (List ℕ)) (t : Kept) (c : ℕ) (y : Marks) (v : Longest Happening) (mark : Mark) (test : ℕ → Bool) (named fold : Bool) → test c ≡ (named && not fold) → is_strong_fold y ≡ fold
    → ShowsMark P s nodes points mark c v → ShowsCell P s nodes points t c y → ShowsCell P s nodes points (acted v test t) c (if named then freed mark y else y)
release_cell P s nodes points t c y v mark test false fold e g shown k = record {
  given = k.given;
  changed = k.changed;
  before = k.before;
  is_freed = ap (λ (b : Bool). if b then true else t.is_freed c) e ∙ k.is_freed;
  freed = subst (λ (b : Bool). ShowsMark P s nodes points y.freed c (if b then better_chain (t.freed c) v else t.freed c)) (sym e) k.freed;
  write_way = k.write_way;
  read_way = k.read_way;
  join_way = k.join_way;
}
release_cell P s nodes points t c y v mark test true true e g shown k = subst (λ (z : Marks). ShowsCell P s nodes points (acted v test t) c z) (sym (ap (λ (b : Bool). if b then y else record y { is_freed = true; freed = better_mark y.freed mark }) g)) (record {
  given = k.given;
  changed = k.changed;
  before = k.before;
  is_freed = ap (λ (b : Bool). if b then true else t.is_freed c) e ∙ k.is_freed;
  freed = subst (λ (b : Bool). ShowsMark P s nodes points y.freed c (if b then better_chain (t.freed c) v else t.freed c)) (sym e) k.freed;
  write_way = k.write_way;
  read_way = k.read_way;
  join_way = k.join_way;
})
release_cell P s nodes points t c y v mark test true false e g shown k = subst (λ (z : Marks). ShowsCell P s nodes points (acted v test t) c z) (sym (ap (λ (b : Bool). if b then y else record y { is_freed = true; freed = better_mark y.freed mark }) g)) (record {
  given = k.given;
  changed = k.changed;
  before = k.before;
  is_freed = ap (λ (b : Bool). if b then true else t.is_freed c) e;
  freed = subst (λ (b : Bool). ShowsMark P s nodes points (better_mark y.freed mark) c (if b then better_chain (t.freed c) v else t.freed c)) (sym e) (better_shown P s nodes points y.freed mark c (t.freed c) v k.freed shown);
  write_way = k.write_way;
  read_way = k.read_way;
  join_way = k.join_way;
})

module _ (P : Program CodeScript) (main : Start CodeScript) (s : State CodeScript) (made : IsMade P main s) (nodes more : List Node) (points : List (List ℕ)) where
  module _ (p : List ℕ) (n m : ℕ) (f g : Frame) (u : Task CodeScript) (at_ : At s p u) (fits : FrameFits points u.body.start p n f) (told : FrameTells P s nodes points p n m f) (tops : p ≡ [] → (c : ℕ) (x : Marks) → value_at f.table.pieces c ≡ Some x → IsTop x)
      (ca : CodeAct) (other : Best) (d : Does P s p n m (act_seen ca)) (is_other : IsOther f ca other) where
    abbrev run : Run
    run = after_act other (is_tick ca) f.run

    abbrev v : Longest Happening
    v = value P main s made nodes points p n m f u at_ fits told tops ca other d is_other

    run_is_shown : ShowsRun P s nodes points p run v
    run_is_shown = run_shown P main s made nodes points p n m f u at_ fits told tops ca other d is_other run refl

    most_v : Most P s (weight P s) (λ h. h ≡ Acting p n) v
    most_v = value_most P main s made nodes points p n m f u at_ fits told tops ca other d is_other

    -- an act that releases nothing
    pub plain_tells : ((clauses : List Access) → act_seen ca ≢ Releases clauses false) → FrameTells P s nodes points p (suc n) m (record f { run = run })
    plain_tells none = record {
      kept = acted v (λ c. false) told.kept;
      is_kept = acted_kept P s (weight P s) p n m v (λ c. false) told.kept told.is_kept most_v (λ c e. absurd (cc)) (λ c e. other_keeps P s (weight P s) p n m (act_seen ca) d none c);
      last = run_is_shown;
      left = told.left;
      newest = told.newest;
      cells = λ c x e. let k = told.cells c x e in record { given = k.given; changed = k.changed; before = k.before; is_freed = k.is_freed; freed = k.freed; write_way = k.write_way; read_way = k.read_way; join_way = k.join_way };
    }

    -- a release
    module _ (clauses : List Access) (is : act_seen ca ≡ Releases clauses false) (rel : IsReleased clauses (record f { run = run }) g nodes more) where
      rd : Does P s p n m (Releases clauses false)
      rd = subst (λ (a : Act CodeScript). Does P s p n m a) is d

      abbrev test : ℕ → Bool
      test c = releases_of P s (weight P s) clauses rd c

      few : 0 < run.count
      few = let k = run_some P main s made nodes points p n m f u at_ fits told tops ca other d is_other run refl in let e = k.1 in omega (arith, e)

      grows : Grows nodes more
      grows = seal_grows P s nodes more points f.task p run g.run rel.best v rel.sealed fits.task run_is_shown

      points_same : Grows points points
      points_same = λ i q h. h

      pub released_tells : FrameTells P s more points p (suc n) m g
      released_tells = record {
        kept = acted v test told.kept;
        is_kept = acted_kept P s (weight P s) p n m v test told.kept told.is_kept most_v (λ c e. released_frees P s (weight P s) p n m clauses rd c e) (λ c e. released_keeps P s (weight P s) p n m clauses rd c e);
        last = seal_run P s nodes more points f.task p run g.run rel.best v rel.sealed fits.task run_is_shown;
        left = subst (λ (b : Best). ShowsBest P s more points b told.kept.left) (sym rel.rest.2) (mark_on P s nodes more points points grows points_same f.left.mark f.left.cell told.kept.left told.left);
        newest = subst (λ (b : Best). Tells P s more points (InActWay P s p m Awaited) b) (sym rel.rest.3) (tells_on P s nodes more points points grows points_same (InActWay P s p m Awaited) f.newest told.newest);
        cells = λ c x e. cell c x (value_at f.table.pieces c) refl (sym (rel.cells c) ∙ e);
      }
        where
          right_now : (c : ℕ) (y : Marks) → value_at f.table.pieces c ≡ Some y → right_of rd.task.body.start.context c ≡ Holds y.mode y.strong
          right_now c y e = ap (λ (t : Task CodeScript). right_of t.body.start.context c) (at_same s p rd.task u rd.at_ at_) ∙ right_is P main s made nodes points p n m f u at_ fits told tops c y e

          cell : (c : ℕ) (x : Marks) (old : Option Marks) → value_at f.table.pieces c ≡ old → released rel.best.mark clauses c (value_at f.table.pieces c) ≡ Some x → ShowsCell P s more points (acted v test told.kept) c x
          cell c x None e h = let k : released rel.best.mark clauses c None ≡ Some x = subst (λ (o : Option Marks). released rel.best.mark clauses c o ≡ Some x) e h in let l = sym (released_none rel.best.mark clauses c) ∙ k in absurd (cc)
          cell c x (Some y) e h =
              let k : released rel.best.mark clauses c (Some y) ≡ Some x = subst (λ (o : Option Marks). released rel.best.mark clauses c o ≡ Some x) e h in
              let q : (if in_clauses clauses c then freed rel.best.mark y else y) ≡ x = some_is _ _ (sym (released_is rel.best.mark clauses c y) ∙ k) in
              let fold : is_fold_right (right_of rd.task.body.start.context c) ≡ is_strong_fold y = fold_same y (right_of rd.task.body.start.context c) (right_now c y e) in
              subst (λ (z : Marks). ShowsCell P s more points (acted v test told.kept) c z) q
              (release_cell P s more points told.kept c y v rel.best.mark test (in_clauses clauses c) (is_strong_fold y) (ap (λ (b : Bool). in_clauses clauses c && not b) fold) refl (seal_all P s nodes more points f.task p run g.run rel.best v rel.sealed fits.task run_is_shown few c)
              (cell_on P s nodes more points points grows points_same told.kept c y (told.cells c y e)))

    -- the creation of an included task: there is one number more that no task has, or none
    module _ (o : Order CodeScript) (is : act_seen ca ≡ Created o true) where
      id : Does P s p n m (Created o true)
      id = subst (λ (a : Act CodeScript). Does P s p n m a) is d

      none_released : (clauses : List Access) → act_seen ca ≢ Releases clauses false
      none_released clauses e = let k : Created o true ≡ Releases clauses false = sym is ∙ e in cc

      plain : FrameTells P s nodes points p (suc n) m (record f { run = run })
      plain = plain_tells none_released

      no_newest : (k : ℕ) → Tells P s nodes points (InActWay P s p k Awaited) no_best
      no_newest k = tells_none P s nodes points (InActWay P s p k Awaited) (λ h q. nothing_left P main s made p n m o id q.0 h q.2)

      pub included_same : FrameTells P s nodes points p (suc n) m (record f { run = run; newest = no_best })
      included_same = record { kept = plain.kept; is_kept = plain.is_kept; last = plain.last; left = plain.left; newest = no_newest m; cells = plain.cells }

      skipped : Kept
      skipped = closed (λ c. false) (λ c. mode_in (find s.tasks (m ∷ p)) c) (λ c. no_chain) no_chain plain.kept

      pub included_more : FrameTells P s nodes points p (suc n) (suc m) (record f { run = run; newest = no_best })
      unfolding skipped
      included_more = record {
        kept = skipped;
        is_kept = closed_kept P main s made (weight P s) p (suc n) m plain.kept (λ c. false) (λ c. mode_in (find s.tasks (m ∷ p)) c) (λ c. no_chain) no_chain plain.is_kept (λ c e. absurd (cc)) (λ c e a. no_child P main s made p n m o id m a.task a.at_) (λ c. refl) (λ c e. absurd (cc))
            (no_most P s (weight P s) (LeftWith P s (m ∷ p)) (λ h q. nothing_left P main s made p n m o id m h q));
        last = plain.last;
        left = subst (λ (b : Best). ShowsBest P s nodes points b (better_chain plain.kept.left no_chain)) (better_none f.left) (better_best_shown P s nodes points f.left no_best plain.kept.left no_chain plain.left (none_shown P s nodes points 0));
        newest = no_newest (suc m);
        cells = λ c x e. let k = plain.cells c x e in record { given = k.given; changed = k.changed; before = k.before; is_freed = k.is_freed; freed = k.freed; write_way = k.write_way; read_way = k.read_way; join_way = k.join_way };
      }
