-- Where nothing is missing, the program's own run ends as its free run does.
use Rattle.std.proofs.Common.{◌≡◌, refl, sym, subst, ap, ◌∙◌, ℕ, ◌≤◌, false, List, [], ◌∷◌, length}
use Rattle.oss_syntax.specs.declared.fault.FaultKind.{FaultKind}
use Rattle.oss_model.specs.Agreement.{main_start}
use Rattle.oss_model.specs.Answers.{fails}
use Rattle.oss_model.specs.Context.{Context}
use Rattle.oss_model.specs.Bodies.{Act, Frame, IsHalt, Order, Program, Start, settled_frame, start_frame}
use Rattle.oss_model.specs.Bodies.Act.{Fault}
use Rattle.oss_model.specs.Machine.{Task}
use Rattle.oss_model.specs.Moves.{act_now, opening}
use Rattle.oss_model.specs.Sequence.{Running, RunsOn, Sequential}
use Rattle.oss_model.specs.Sequence.Sequential.{opens as run_opens, runs_on as run_on}
use Rattle.oss_model.proofs.BodyLemmas.{settle_same}
use Rattle.oss_task_needs.specs.Asking.{nothing_asked}
use Rattle.oss_lent_cells.specs.Lent.{nothing_lent}
use Rattle.oss_freed.specs.Freed.{freed}
use Rattle.oss_freed.proofs.FreedRuns.{freed_runs_need_no_clauses}
use Rattle.oss_free_tasks.specs.OpenTasks.{Begins}
use Rattle.oss_free_tasks.proofs.FreeTurns.{settled_freed}
use Rattle.oss_free_tasks.proofs.OpenLemmas.{begins}
use Rattle.oss_lacks.specs.Asking.{Asking, main as main_asking, tell_creator}
use Rattle.oss_lacks.specs.Nests.{Nest, alone}
use Rattle.oss_lacks.specs.Walks.{IsActing, Walks, at_stop, behind}
use Rattle.oss_lacks.specs.Walks.Walks.{opens, runs_on}
use Rattle.oss_missing_waits.specs.Holding.{Holding, main as main_holding}
use Rattle.oss_missing_waits.specs.Waits.{IsBehind, at_stop as held_at_stop, mended_in, tell_nothing}
use Rattle.oss_missing_laws.specs.Missing.{NothingIsWrong, RunsEndAlike}
use Rattle.oss_missing_laws.specs.Programs.{NamesItsCells, SettlesInTwo, StopAlike}
use Rattle.oss_missing_laws.proofs.AlikeLemmas.{IsAlike, IsBeside, even, settled_alike}
use Rattle.oss_missing_laws.proofs.FateLemmas.{IsNumbered, fated_at_stop}
use Rattle.oss_missing_laws.proofs.GrowLemmas.{IsMoreAsked, IsMoreTold, asked_later, asked_still, asked_told, told_later, told_still}
use Rattle.oss_missing_laws.proofs.KnownLemmas.{IsKnown, main_known, whole_clause}
use Rattle.oss_missing_laws.proofs.LevelLemmas.{AskedFated, Clean, HeldFated, IsTogether, Twin, asked_nest, frees, held_nest, held_told, nothing_pending}
use Rattle.oss_missing_laws.proofs.PairLemmas.{Pair, act_fated, act_held_fated, pair_held_numbered, pair_numbered, pair_on, pair_opens, paired}
use Rattle.oss_missing_laws.proofs.RunLevels.{Level, Reach, done, free_run, stand, start}
use Rattle.oss_missing_laws.proofs.SameLemmas.{IsSame, acts_first, one_task, same_back, same_still}
use Rattle.oss_missing_laws.proofs.StopLemmas.{ends_alike}
use Rattle.oss_missing_laws.proofs.TurnLemmas.{turn}

module _ {S : Type 0} (P : Program S) (order : Order S) (first : List ℕ) (fuel : ℕ) where
  -- both runs at their beginning
  pub begun : Reach P order first fuel (record { state = opening (start P order first fuel) first; active = []; printed = [] }) (alone main_asking) (alone main_holding)
  begun =
      let bp : Begins P (start P order first fuel) first (settled_frame P (start_frame P (start P order first fuel)) ∷ []) first = begins P (start P order first fuel) first refl in
      let bf : Begins (free_run P order first fuel) (start P order first fuel) first (settled_frame (free_run P order first fuel) (start_frame P (start P order first fuel)) ∷ []) first = begins (free_run P order first fuel) (start P order first fuel) first refl in
      let f : Frame S = start_frame P (start P order first fuel) in
      let ff : IsAlike f f = record { script = refl; answers = refl; ticks = refl; fuel = refl; created = refl; depth = refl; final = refl; awaits = refl } in
      let t : Twin S = record { own = settled_frame P f; free = settled_frame (free_run P order first fuel) f; asked = record { number = 0; task = main_asking }; held = record { number = 0; task = main_holding } } in
      let tt0 : IsTogether P (length first) (λ c. whole_clause) nothing_pending t = record {
        beside = subst (λ (x : Frame S). IsBeside P (settled_frame P f) x) (sym (settled_freed P (length first) f)) (even (settled_alike P f f ff));
        known = subst (λ (x : Context). IsKnown (length first) (λ c. whole_clause) nothing_asked (λ c. false) nothing_lent x) (sym (settle_same P f).context) (main_known (length first) fuel);
        has = λ c i. refl;
      } in
      let level : Level P order first fuel (record { state = opening (start P order first fuel) first; active = []; printed = [] }) t [] = record {
        cells = first;
        owned = bp.stands;
        freely = bf.stands;
        same = subst (λ (x : Running S). IsSame (free_run P order first fuel) bf.stands.stage x) bf.opens (same_still (free_run P order first fuel) bf.stands.stage);
        printed = ap (λ (x : Running S). x.printed) bp.opens ∙ sym (ap (λ (x : Running S). x.printed) bf.opens);
        together = tt0;
      } in
      stand t [] [] [] level refl refl refl

  module _ (few : length first ≤ 1048576) (two : SettlesInTwo P) (named : NamesItsCells (length first) P) (e : Clean) where
    on : {z y : Running S} {f : Frame S} {n : Nest Asking} {m m2 : Nest Holding} → IsNumbered n → IsActing (free_run P order first fuel) z f → RunsOn (free_run P order first fuel) z y → IsBehind (mended_in e.asked) P f m m2
        → AskedFated e (behind P f n) → HeldFated e m2 → Reach P order first fuel z n m → Reach P order first fuel y (behind P f n) m2
    on {z = z} num a r b fa fh (done o) =
        let t : r.task ≡ o.last.task = one_task (free_run P order first fuel) z o.other r.task o.last.task (same_back (free_run P order first fuel) o.other z o.same) r.at_ o.last.at_ in
        absurd (r.goes (subst (λ (x : Task S). IsHalt (act_now (free_run P order first fuel) x.body)) (sym t) o.last.stops))
    on {z = z} {y = y} {f = f} {n = n} {m = m} {m2 = m2} num a r b fa fh (stand t rest ca ch l counts en em) =
        let ef : f ≡ t.free = acts_first (free_run P order first fuel) (start P order first fuel) first t.free (frees rest) l.cells l.freely z f l.same a in
        let b2 : IsBehind (mended_in e.asked) P t.free (held_nest t rest ch) m2 = subst (λ (v : Frame S). IsBehind (mended_in e.asked) P v (held_nest t rest ch) m2) ef (subst (λ (x : Nest Holding). IsBehind (mended_in e.asked) P f x m2) em b) in
        let fa2 : AskedFated e (behind P t.free (asked_nest t rest ca)) = subst (λ (v : Frame S). AskedFated e (behind P v (asked_nest t rest ca))) ef (subst (λ (x : Nest Asking). AskedFated e (behind P f x)) en fa) in
        subst (λ (x : Nest Asking). Reach P order first fuel y (behind P f x) m2) (sym en)
        (subst (λ (v : Frame S). Reach P order first fuel y (behind P v (asked_nest t rest ca)) m2) (sym ef)
        (turn P order first fuel few two named e z y t rest l r ca ch counts m2 b2 fa2 fh (subst (λ (x : Nest Asking). IsNumbered x) en num)))

    reach : {z : Running S} {n : Nest Asking} {m : Nest Holding} → Pair (mended_in e.asked) P (start P order first fuel) first z n m → AskedFated e n → HeldFated e m → Reach P order first fuel z n m
    reach pair_opens fa fh = begun
    reach (pair_on {f = f} {n = n} {m = m} {m2 = m2} p a r b) fa fh =
        on (pair_numbered (mended_in e.asked) P (start P order first fuel) first p) a r b fa fh
        (reach p (act_fated P f e n (pair_numbered (mended_in e.asked) P (start P order first fuel) first p) fa)
        (act_held_fated P f (mended_in e.asked) e m m2 (pair_held_numbered (mended_in e.asked) P (start P order first fuel) first p) b fh))

pub runs_end_alike : (S : Type 0) → RunsEndAlike S
runs_end_alike S P order first fuel z end few two named h =
    let e : Clean = record {
      asked = (at_stop h.asked).ended;
      asked_main = (at_stop h.asked).acting.task;
      held = (held_at_stop h.held).ended;
      held_main = (held_at_stop h.held).acting.task;
      lacks = h.lacks;
      untold = h.told.tasks;
      untold_main = h.told.main;
    } in
    let p : Pair (mended_in (at_stop h.asked).ended) P (start P order first fuel) first z h.asked h.held = paired (mended_in (at_stop h.asked).ended) P (start P order first fuel) first z h.stage h.asked h.held h.walks end h.waits h.stops in
    let fa : AskedFated e h.asked = fated_at_stop IsMoreAsked asked_still asked_later tell_creator asked_told h.asked (pair_numbered (mended_in (at_stop h.asked).ended) P (start P order first fuel) first p) in
    let fh : HeldFated e h.held = fated_at_stop IsMoreTold told_still told_later tell_nothing held_told h.held (pair_held_numbered (mended_in (at_stop h.asked).ended) P (start P order first fuel) first p) in
    ends_alike P order first fuel few z end h.asked h.held (reach P order first fuel few two named e p fa fh)

-- the fault is the free run's
pub walked_run : {S : Type 0} (P : Program S) (main : Start S) (first : List ℕ) {z : Running S} {n : Nest Asking} → Walks P main first z n → Sequential (freed (length first) P) main first z
walked_run P main first opens = run_opens
walked_run P main first (runs_on h a r) = run_on (walked_run P main first h) r

record IsThatFault {S : Type 0} (kind : FaultKind) (b : Act S) : Type 0 where
  line : ℕ
  key : List ℕ
  is : b ≡ Fault kind line key

same_fault : {S : Type 0} (a b : Act S) (kind : FaultKind) (line : ℕ) (key : List ℕ) → StopAlike a b → a ≡ Fault kind line key → IsThatFault kind b
same_fault {S = S} a b kind line key h e = go b (subst (λ (x : Act S). StopAlike x b) e h)
  where
    go : (c : Act S) → StopAlike (Fault kind line key) c → IsThatFault kind c
    go (Fault other there here) k = record { line = there; key = here; is = ap (λ (x : FaultKind). Fault x there here) (sym k.0) }
    go _ k = absurd k

pub nothing_is_wrong : (S : Type 0) → NothingIsWrong S
nothing_is_wrong S P order first fuel z end few two named touches leaves h own kind line key e a =
    let k = same_fault (act_now P own.own.task.body) (act_now (freed (length first) P) end.task.body) kind line key own.alike e in
    freed_runs_need_no_clauses S P order first fuel kind k.line z.printed few touches leaves (fails (walked_run P (main_start order (length first) fuel) first h.walks) end k.is) a
