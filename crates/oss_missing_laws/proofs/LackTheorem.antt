-- Where the program's own run ends without a fault of annotations, the free run shows that nothing is lacking.
use Rattle.std.proofs.Common.{◌≡◌, refl, sym, subst, ap, ◌∙◌, ℕ, ◌≤◌, Bool, true, false, List, [], length, Option, Some, None}
use Rattle.std.specs.Prelude.{if◌then◌else◌}
use Rattle.oss_model.specs.Bodies.{Asked, Frame, IsHalt, Order, Program, act_of_ask, ask_of, frame_act}
use Rattle.oss_model.specs.Machine.{Task}
use Rattle.oss_model.specs.Moves.{act_now}
use Rattle.oss_model.specs.Sequence.{IsAtEnd, Running, RunsOn, Sequential}
use Rattle.oss_model.proofs.BodyLemmas.{settle_same}
use Rattle.oss_freed.specs.Freed.{freed_ask}
use Rattle.oss_free_tasks.specs.Deeds.{IsDeed, free_deed}
use Rattle.oss_free_tasks.specs.OpenTasks.{whole_task}
use Rattle.oss_free_tasks.proofs.DeedLemmas.{free_deeds_are_acts}
use Rattle.oss_lacks.specs.Asking.{Asking, behind_ask, tell_creator}
use Rattle.oss_lacks.specs.Nests.{Nest, all_closed, alone}
use Rattle.oss_lacks.specs.Walks.{IsActing, Walks, behind}
use Rattle.oss_lacks.specs.Walks.Walks.{opens, runs_on}
use Rattle.oss_missing_waits.specs.Holding.{Holding, main as main_holding}
use Rattle.oss_missing_waits.specs.Waits.{IsBehindIf, mended_in, tell_nothing}
use Rattle.oss_missing_laws.specs.Programs.{IsNotWrong, NamesItsCells, NothingLacks, ReleasesPlainly, SettlesInTwo}
use Rattle.oss_missing_laws.proofs.AlikeLemmas.{IsAlike, IsBeside, ahead, ask_alike, awaiting, even}
use Rattle.oss_missing_laws.proofs.FateLemmas.{IsNumbered, ended_at, fated_at_stop}
use Rattle.oss_missing_laws.proofs.FineLemmas.{IsFine, IsQuiet, fine_at_stop, quiet_at_stop}
use Rattle.oss_missing_laws.proofs.ForwardLemmas as forward
use Rattle.oss_missing_laws.proofs.GrowLemmas.{IsMoreAsked, IsMoreTold, asked_later, asked_still, asked_told, told_later, told_still}
use Rattle.oss_missing_laws.proofs.LevelLemmas.{AskedFated, Clean, HeldFated, Twin, asked_nest, frees, head_of, held_nest, held_told, nothing_pending, owns}
use Rattle.oss_missing_laws.proofs.MissingTheorem.{begun}
use Rattle.oss_missing_laws.proofs.PairLemmas.{act_held_numbered, act_numbered}
use Rattle.oss_missing_laws.proofs.RunLevels.{Level, Reach, done, free_run, stand, start}
use Rattle.oss_missing_laws.proofs.SameLemmas.{acting, acts_first, one_task, same_back}
use Rattle.oss_missing_laws.proofs.TurnLemmas.{turn}
use Rattle.oss_missing_laws.proofs.UniqueLemmas.{one_stop}

module _ {S : Type 0} (P : Program S) (order : Order S) (first : List ℕ) (fuel : ℕ) (few : length first ≤ 1048576) (two : SettlesInTwo P) (named : NamesItsCells (length first) P) (plain : ReleasesPlainly P) where
  -- an act of which the judge finds no fault
  module _ (z y : Running S) (t : Twin S) (rest : List (Twin S)) (l : Level P order first fuel z t rest) (r : RunsOn (free_run P order first fuel) z y) (ca : List (Option Asking)) (ch : List (Option Holding)) (counts : length ch ≡ length ca)
      (fine : IsFine (asked_nest t rest ca)) (quiet : IsQuiet (held_nest t rest ch)) (num : IsNumbered (asked_nest t rest ca)) (held_num : IsNumbered (held_nest t rest ch)) (right : IsNotWrong (act_now P l.owned.body)) where
    -- what stands behind it, where the task awaits one or not
    abbrev Behind : Bool → Nest Asking
    Behind b = if b then asked_nest t rest ca else behind_ask t.free (ask_of P t.free).ask (ask_of P t.free).line (asked_nest t rest ca)

    pub record IsGoing (b : Bool) : Type 0 where
      pub nest : Nest Holding
      pub walk : IsBehindIf b (mended_in (all_closed tell_creator (Behind b)).ended) t.free (ask_of P t.free).ask (ask_of P t.free).line (held_nest t rest ch) nest
      pub still : IsQuiet nest
      pub clean : IsFine (Behind b)

    waits : IsGoing true
    waits = record { nest = held_nest t rest ch; walk = refl; still = quiet; clean = fine }

    acts : IsAlike t.own t.free → t.free.awaits ≡ false → IsGoing false
    acts al k =
        let p = acting P (start P order first fuel) first t.own (owns rest) l.cells l.owned in
        let f = acting (free_run P order first fuel) (start P order first fuel) first t.free (frees rest) l.cells l.freely in
        let hp : act_now P l.owned.body ≡ act_of_ask p.slots p.inc t.own (ask_of P t.free).ask (ask_of P t.free).line =
        p.act ∙ ap (λ (x : Bool). frame_act P p.slots p.inc t.own x) (al.awaits ∙ k) ∙ ap (λ (x : Asked S). act_of_ask p.slots p.inc t.own x.ask x.line) (ask_alike P al) in
        let hf : act_now (free_run P order first fuel) l.freely.body ≡ act_of_ask f.slots f.inc t.free (freed_ask (length first) (ask_of P t.free).ask) (ask_of P t.free).line =
        f.act ∙ ap (λ (x : Bool). frame_act (free_run P order first fuel) f.slots f.inc t.free x) k in
        let d = subst (λ (x : Bool). IsDeed (length first) t.free (act_now (free_run P order first fuel) l.freely.body) (ask_of P t.free).ask l.cells (free_deed (length first) t.free.context.fuel t.free.context.depth t.free.context.ticks t.free.context.created x l.cells (ask_of P t.free).ask (ask_of P t.free).line)) k
        (free_deeds_are_acts S P order first fuel t.free (frees rest) l.cells few l.freely) in
        let g = forward.by_ask P order first fuel few z y t rest l r ca ch counts al fine quiet num held_num right (ask_of P t.free).ask (ask_of P t.free).line p.slots f.slots p.inc f.inc hp hf d (named t.free.script t.free.answers) (plain t.free.script t.free.answers) in
        record { nest = g.nest; walk = g.walk; still = g.still; clean = g.clean }

    pub going : IsGoing t.free.awaits
    going = by (head_of P (length first) nothing_pending t rest l.together).beside
      where
        by : IsBeside P t.own t.free → IsGoing t.free.awaits
        by (ahead x al k n) = let aw : t.free.awaits ≡ true = ap (λ (g : Frame S). g.awaits) k ∙ (settle_same P (awaiting P true x)).awaits in subst IsGoing (sym aw) waits
        by (even al) = go t.free.awaits refl
          where
            go : (x : Bool) → t.free.awaits ≡ x → IsGoing t.free.awaits
            go true k = subst IsGoing (sym k) waits
            go false k = subst IsGoing (sym k) (acts al k)

  -- nothing is lacking so far
  pub record IsPast (z : Running S) (n : Nest Asking) : Type 0 where
    pub nest : Nest Holding
    pub reach : Reach P order first fuel z n nest
    pub clean : IsFine n
    pub still : IsQuiet nest
    pub numbers : IsNumbered n
    pub held_numbers : IsNumbered nest

  pub no_task : {A : Type 0} (i : ℕ) (t : A) → ended_at [] i ≡ Some t → ⊥
  no_task i t e = let x : None ≡ Some t = e in absurd cc

  module _ (s : Running S) (run : Sequential P (start P order first fuel) first s) (own : IsAtEnd P s) (good : IsNotWrong (act_now P own.task.body)) where
    -- the program's own run stands before no fault of annotations at any stage
    pub level_right : (z : Running S) (t : Twin S) (rest : List (Twin S)) (l : Level P order first fuel z t rest) → IsNotWrong (act_now P l.owned.body)
    level_right z t rest l kind line key e a =
        let last : IsAtEnd P l.owned.stage = record { task = whole_task l.owned.body; at_ = l.owned.at_; stops = subst IsHalt (sym e) tt } in
        good kind line key (one_stop P (start P order first fuel) first s l.owned.stage run own l.owned.run last ∙ e) a

    on : {z y : Running S} {f : Frame S} {n : Nest Asking} (m : Nest Holding) → IsActing (free_run P order first fuel) z f → RunsOn (free_run P order first fuel) z y → IsFine n → IsQuiet m → IsNumbered n → IsNumbered m → Reach P order first fuel z n m → IsPast y (behind P f n)
    on {z = z} m a r fine quiet num held_num (done o) =
        let t : r.task ≡ o.last.task = one_task (free_run P order first fuel) z o.other r.task o.last.task (same_back (free_run P order first fuel) o.other z o.same) r.at_ o.last.at_ in
        absurd (r.goes (subst (λ (x : Task S). IsHalt (act_now (free_run P order first fuel) x.body)) (sym t) o.last.stops))
    on {z = z} {y = y} {f = f} {n = n} m a r fine quiet num held_num (stand t rest ca ch l counts en em) =
        let ef : f ≡ t.free = acts_first (free_run P order first fuel) (start P order first fuel) first t.free (frees rest) l.cells l.freely z f l.same a in
        let fine2 : IsFine (asked_nest t rest ca) = subst IsFine en fine in
        let quiet2 : IsQuiet (held_nest t rest ch) = subst IsQuiet em quiet in
        let num2 : IsNumbered (asked_nest t rest ca) = subst (λ (x : Nest Asking). IsNumbered x) en num in
        let held_num2 : IsNumbered (held_nest t rest ch) = subst (λ (x : Nest Holding). IsNumbered x) em held_num in
        let g = going z y t rest l r ca ch counts fine2 quiet2 num2 held_num2 (level_right z t rest l) in
        let n2 : Nest Asking = behind P t.free (asked_nest t rest ca) in
        let num3 : IsNumbered (behind P t.free (asked_nest t rest ca)) = act_numbered P t.free (asked_nest t rest ca) num2 in
        let held_num3 : IsNumbered g.nest = act_held_numbered P t.free (mended_in (all_closed tell_creator n2).ended) (held_nest t rest ch) g.nest g.walk held_num2 in
        let e : Clean = record {
          asked = (all_closed tell_creator n2).ended;
          asked_main = (all_closed tell_creator n2).acting.task;
          held = (all_closed tell_nothing g.nest).ended;
          held_main = (all_closed tell_nothing g.nest).acting.task;
          lacks = fine_at_stop n2 num3 g.clean;
          untold = (quiet_at_stop g.nest held_num3 g.still).tasks;
          untold_main = (quiet_at_stop g.nest held_num3 g.still).main;
        } in
        let fa : AskedFated e n2 = fated_at_stop IsMoreAsked asked_still asked_later tell_creator asked_told n2 num3 in
        let fh : HeldFated e g.nest = fated_at_stop IsMoreTold told_still told_later tell_nothing held_told g.nest held_num3 in
        let next : IsPast y n2 = record {
          nest = g.nest;
          reach = turn P order first fuel few two named e z y t rest l r ca ch counts g.nest g.walk fa fh num2;
          clean = g.clean;
          still = g.still;
          numbers = num3;
          held_numbers = held_num3;
        } in
        subst (λ (x : Nest Asking). IsPast y (behind P f x)) (sym en) (subst (λ (v : Frame S). IsPast y (behind P v (asked_nest t rest ca))) (sym ef) next)

    pub past : {z : Running S} {n : Nest Asking} → Walks P (start P order first fuel) first z n → IsPast z n
    past opens = record {
      nest = alone main_holding;
      reach = begun P order first fuel;
      clean = record { right = λ c i. refl; ended = λ i t e. absurd (no_task i t e) };
      still = record { open_ = refl; ended = λ i t e. absurd (no_task i t e) };
      numbers = tt;
      held_numbers = tt;
    }
    past (runs_on h a r) = let p = past h in on p.nest a r p.clean p.still p.numbers p.held_numbers p.reach

    -- so nothing is lacking at its end
    pub nothing_lacks : {z : Running S} {n : Nest Asking} → Walks P (start P order first fuel) first z n → NothingLacks (all_closed tell_creator n)
    nothing_lacks {n = n} h = let p = past h in fine_at_stop n p.numbers p.clean
