-- The end of a task in both runs.
use Rattle.std.proofs.Common.{◌≡◌, refl, sym, subst, ap, ◌∙◌, ℕ, ◌<◌, ◌≤◌, Bool, true, false, List, [], ◌∷◌, length, arith, Option, Some, None}
use Rattle.std.specs.Prelude.{if◌then◌else◌, set}
use Rattle.std.proofs.lemmas.List.{get_or-set_same, length-set}
use Rattle.oss_model.specs.Context.{Context}
use Rattle.oss_model.specs.Bodies.{Act, Frame, Program, settled_frame}
use Rattle.oss_model.specs.Bodies.Act.{Ended}
use Rattle.oss_model.specs.Moves.{act_now}
use Rattle.oss_model.specs.Sequence.{Running, RunsOn, printed_after}
use Rattle.oss_model.specs.Bodies.{Order}
use Rattle.oss_model.proofs.BodyLemmas.{settle_same}
use Rattle.oss_needs.specs.declared.clause.Clause.{Clause}
use Rattle.oss_needs.specs.Demands.{has_value}
use Rattle.oss_task_needs.specs.Asking.{asks_for, creates}
use Rattle.oss_free_tasks.specs.OpenTasks.{Ends}
use Rattle.oss_free_tasks.proofs.FreeTurns.{led, settled_freed}
use Rattle.oss_lacks.specs.Asking.{Asking, mended_clauses, tell_creator}
use Rattle.oss_lacks.specs.Nests.{Nest, closed}
use Rattle.oss_missing_waits.specs.Holding.{Holding}
use Rattle.oss_missing_waits.specs.Waits.{tell_nothing}
use Rattle.oss_missing_laws.specs.Programs.{LacksNothing}
use Rattle.oss_missing_laws.proofs.AlikeLemmas.{IsAlike, IsBeside, ahead, awaiting, even, settled_alike}
use Rattle.oss_missing_laws.proofs.FateLemmas.{IsNumbered}
use Rattle.oss_missing_laws.proofs.KnownLemmas.{IsKnown, asked_known}
use Rattle.oss_missing_laws.proofs.LevelLemmas.{AskedFated, Clean, IsTogether, Twin, asked_nest, frees, given_at, given_by, head_of, held_nest, mended_said, nothing_pending, owns, rehead}
use Rattle.oss_missing_laws.proofs.RunLevels.{IsOver, Level, Reach, done, free_run, gone, start}
use Rattle.oss_missing_laws.proofs.SameLemmas.{one_step, prints}

-- what is passed by a task that has included the one that ends
abbrev resumed : {S : Type 0} → Program S → Frame S → Frame S
resumed P g = if g.context.final then settled_frame P g else g

module _ {S : Type 0} (P : Program S) (order : Order S) (first : List ℕ) (fuel : ℕ) (few : length first ≤ 1048576) (e : Clean) where
  resumed_context : (g : Frame S) (b : Bool) → (if b then settled_frame P g else g).context ≡ g.context
  resumed_context g true = (settle_same P g).context
  resumed_context g false = refl

  both : (f g : Frame S) (a b : Bool) → a ≡ b → IsAlike f g → IsBeside P (if a then settled_frame P f else f) (if b then settled_frame (free_run P order first fuel) g else g)
  both f g true true k al = subst (λ (x : Frame S). IsBeside P (settled_frame P f) x) (sym (settled_freed P (length first) g)) (even (settled_alike P f g al))
  both f g false false k al = even al
  both f g true false k al = let x : true ≡ false = k in cc
  both f g false true k al = let x : false ≡ true = k in cc

  -- one that awaits includes none
  resumed_beside : (f g : Frame S) → IsBeside P f g → IsBeside P (resumed P f) (resumed (free_run P order first fuel) g)
  resumed_beside f g (even al) = both f g f.context.final g.context.final al.final al
  resumed_beside f g (ahead x al k n) =
      let a : f.context.final ≡ false = al.final ∙ ap (λ (c : Context). c.final) (settle_same P (awaiting P false x)).context ∙ n in
      let b : g.context.final ≡ false = ap (λ (h : Frame S). h.context.final) k ∙ ap (λ (c : Context). c.final) (settle_same P (awaiting P true x)).context ∙ n in
      subst (λ (d : Bool). IsBeside P (if d then settled_frame P f else f) (resumed (free_run P order first fuel) g)) (sym a)
      (subst (λ (d : Bool). IsBeside P f (if d then settled_frame (free_run P order first fuel) g else g)) (sym b) (ahead x al k n))

  pub by_end : (z y : Running S) (t : Twin S) (rest : List (Twin S)) (l : Level P order first fuel z t rest) (r : RunsOn (free_run P order first fuel) z y) (ca : List (Option Asking)) (ch : List (Option Holding)) → length ch ≡ length ca → (m : Nest Holding)
      → AskedFated e (closed tell_creator (asked_nest t rest ca)) → IsNumbered (asked_nest t rest ca) → m ≡ closed tell_nothing (held_nest t rest ch)
      → act_now P l.owned.body ≡ Ended → act_now (free_run P order first fuel) l.freely.body ≡ Ended → Reach P order first fuel y (closed tell_creator (asked_nest t rest ca)) m
  by_end z y t [] l r ca ch counts m fa num k a w =
      let gp : Ends P (start P order first fuel) first l.owned.stage l.cells = led P (start P order first fuel) first t.own [] l.cells l.owned Ended a (λ h. h) in
      let gf : Ends (free_run P order first fuel) (start P order first fuel) first l.freely.stage l.cells = led (free_run P order first fuel) (start P order first fuel) first t.free [] l.cells l.freely Ended w (λ h. h) in
      let over : IsOver P order first fuel y = record {
        stage = gp.stage;
        run = gp.run;
        end = gp.end;
        over = gp.over;
        other = gf.stage;
        last = gf.end;
        over_too = gf.over;
        same = one_step (free_run P order first fuel) l.freely.stage z gf.stage y l.same gf.runs r;
        cells = gp.cells_are ∙ sym gf.cells_are;
        printed = prints P (start P order first fuel) first t.own [] l.cells l.owned gp.stage gp.runs
            ∙ ap (λ (x : Act S). printed_after x l.owned.stage.printed) a
            ∙ l.printed
            ∙ sym (prints (free_run P order first fuel) (start P order first fuel) first t.free [] l.cells l.freely gf.stage gf.runs ∙ ap (λ (x : Act S). printed_after x l.freely.stage.printed) w);
      } in
      done over
  by_end z y t (v ∷ rest) l r ca ch counts m fa num k a w =
      let u : Twin S = record { own = resumed P v.own; free = resumed (free_run P order first fuel) v.free; asked = record { number = v.asked.number; task = tell_creator t.asked.task v.asked.task }; held = v.held } in
      let tu : IsTogether P (length first) (given_at rest v.asked.task) nothing_pending u = record {
        beside = resumed_beside v.own v.free old.beside;
        known = subst (λ (x : Context). IsKnown (length first) (given_at rest v.asked.task) (asks_for (mended_clauses t.asked.task) v.asked.task.asked) v.held.task.released v.held.task.lent x) (sym (resumed_context v.own v.own.context.final)) known;
        has = old.has;
      } in
      subst (λ (n : Nest Holding). Reach P order first fuel y (closed tell_creator (asked_nest t (v ∷ rest) ca)) n) (sym k)
      (gone P order first fuel z y t (v ∷ rest) l r u rest (set ca t.asked.number (Some t.asked.task)) (set ch t.held.number (Some t.held.task)) l.cells
      (led P (start P order first fuel) first t.own (owns (v ∷ rest)) l.cells l.owned Ended a (λ h. h))
      (led (free_run P order first fuel) (start P order first fuel) first t.free (frees (v ∷ rest)) l.cells l.freely Ended w (λ h. h))
      (λ o. ap (λ (x : Act S). printed_after x o) a ∙ sym (ap (λ (x : Act S). printed_after x o) w))
      (rehead P (length first) (given_by t.asked.task) nothing_pending v u rest l.together.1 refl tu)
      (length-set ch t.held.number (Some t.held.task) ∙ counts ∙ sym (length-set ca t.asked.number (Some t.asked.task))))
    where
      -- of the task that ends nothing is lacking
      clean : LacksNothing t.asked.task
      clean = e.lacks t.asked.number t.asked.task (fa.ended t.asked.number t.asked.task (get_or-set_same ca t.asked.number (Some t.asked.task) None num.0))

      old : IsTogether P (length first) (given_at rest v.asked.task) (given_by t.asked.task) v
      old = head_of P (length first) (given_by t.asked.task) v rest l.together.1

      known : IsKnown (length first) (given_at rest v.asked.task) (asks_for (mended_clauses t.asked.task) v.asked.task.asked) v.held.task.released v.held.task.lent v.own.context
      known =
          asked_known (length first) (given_at rest v.asked.task) (asks_for (given_by t.asked.task) v.asked.task.asked) (asks_for (mended_clauses t.asked.task) v.asked.task.asked) v.held.task.released v.held.task.lent v.own.context
          (λ c i. let j : c < 1048576 = omega (arith, few, i) in ap (λ (x : Option Clause). has_value (creates x (v.asked.task.asked c))) (mended_said t.asked.task c j clean)) old.known
