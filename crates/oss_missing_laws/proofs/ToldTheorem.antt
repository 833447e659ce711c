-- Where the program's own run ends without a fault of annotations, the second walk tells nothing either.
use Rattle.std.proofs.Common.{◌≡◌, refl, sym, subst, ap, ◌∙◌, ℕ, ◌≤◌, Bool, true, false, List, [], length, Option, Some}
use Rattle.std.specs.Prelude.{if◌then◌else◌}
use Rattle.oss_model.specs.Bodies.{Asked, Frame, IsHalt, Order, Program, act_of_ask, ask_of, frame_act}
use Rattle.oss_model.specs.Machine.{Task}
use Rattle.oss_model.specs.Moves.{act_now}
use Rattle.oss_model.specs.Sequence.{IsAtEnd, Running, RunsOn, Sequential}
use Rattle.oss_model.proofs.BodyLemmas.{settle_same}
use Rattle.oss_freed.specs.Freed.{freed_ask}
use Rattle.oss_free_tasks.specs.Deeds.{IsDeed, free_deed}
use Rattle.oss_free_tasks.proofs.DeedLemmas.{free_deeds_are_acts}
use Rattle.oss_lacks.specs.Asking.{Asking, behind_ask, tell_creator}
use Rattle.oss_lacks.specs.Nests.{Nest, all_closed}
use Rattle.oss_lacks.specs.Walks.{IsActing, Walks, at_stop, behind}
use Rattle.oss_lacks.specs.Walks.Walks.{opens, runs_on}
use Rattle.oss_missing_waits.specs.Holding.{Holding, main as main_holding}
use Rattle.oss_missing_waits.specs.Waits.{IsBehind, IsBehindIf, Waits, at_stop as held_at_stop, mended_in, tell_nothing}
use Rattle.oss_missing_laws.specs.Missing.{NothingIsMissing}
use Rattle.oss_missing_laws.specs.Programs.{IsNotWrong, LacksNothing, NamesItsCells, NothingLacks, NothingTold, ReleasesPlainly, SettlesInTwo}
use Rattle.oss_missing_laws.proofs.AlikeLemmas.{IsAlike, IsBeside, ahead, ask_alike, awaiting, even}
use Rattle.oss_missing_laws.proofs.FateLemmas.{IsNumbered, ended_at, fated_at_stop}
use Rattle.oss_missing_laws.proofs.FineLemmas.{IsFine, IsQuiet, quiet_at_stop}
use Rattle.oss_missing_laws.proofs.ForwardLemmas.{hush_ask}
use Rattle.oss_missing_laws.proofs.GrowLemmas.{IsMoreAsked, IsMoreTold, asked_later, asked_still, asked_told, told_later, told_still}
use Rattle.oss_missing_laws.proofs.LackTheorem.{level_right, no_task, nothing_lacks, past}
use Rattle.oss_missing_laws.proofs.LevelLemmas.{AskedFated, Clean, HeldFated, Twin, asked_nest, frees, head_of, held_nest, held_told, nothing_pending, owns}
use Rattle.oss_missing_laws.proofs.MissingTheorem.{begun}
use Rattle.oss_missing_laws.proofs.PairLemmas.{Pair, act_fated, act_held_numbered, pair_held_numbered, pair_numbered, pair_on, pair_opens, paired}
use Rattle.oss_missing_laws.proofs.RunLevels.{Level, Reach, done, free_run, stand, start}
use Rattle.oss_missing_laws.proofs.SameLemmas.{acting, acts_first, one_task, same_back}
use Rattle.oss_missing_laws.proofs.TurnLemmas.{turn}

module _ {S : Type 0} (P : Program S) (order : Order S) (first : List ℕ) (fuel : ℕ) (few : length first ≤ 1048576) (two : SettlesInTwo P) (named : NamesItsCells (length first) P) (plain : ReleasesPlainly P)
    (s : Running S) (run : Sequential P (start P order first fuel) first s) (own : IsAtEnd P s) (good : IsNotWrong (act_now P own.task.body))
    (all : List (Option Asking)) (last : Asking) (lacks : (i : ℕ) (t : Asking) → ended_at all i ≡ Some t → LacksNothing t) where
  -- Nothing is lacking at the end, whatever was told.
  pub lacking : Clean
  lacking = record {
    asked = all;
    asked_main = last;
    held = [];
    held_main = main_holding;
    lacks = lacks;
    untold = λ i t e. absurd (no_task P order first fuel few two named plain i t e);
    untold_main = refl;
  }

  pair_walks : {z : Running S} {n : Nest Asking} {m : Nest Holding} → Pair (mended_in all) P (start P order first fuel) first z n m → Walks P (start P order first fuel) first z n
  pair_walks pair_opens = opens
  pair_walks (pair_on p a r b) = runs_on (pair_walks p) a r

  -- nothing is told behind an act
  module _ (z y : Running S) (t : Twin S) (rest : List (Twin S)) (l : Level P order first fuel z t rest) (r : RunsOn (free_run P order first fuel) z y) (ca : List (Option Asking)) (ch : List (Option Holding)) (counts : length ch ≡ length ca)
      (fine : IsFine (asked_nest t rest ca)) (quiet : IsQuiet (held_nest t rest ch)) (num : IsNumbered (asked_nest t rest ca)) (held_num : IsNumbered (held_nest t rest ch)) (m : Nest Holding)
      (b : IsBehind (mended_in all) P t.free (held_nest t rest ch) m) (fa : AskedFated lacking (behind P t.free (asked_nest t rest ca))) where
    acts : IsAlike t.own t.free → t.free.awaits ≡ false → IsQuiet m
    unfolding lacking
    acts al k =
        let p = acting P (start P order first fuel) first t.own (owns rest) l.cells l.owned in
        let f = acting (free_run P order first fuel) (start P order first fuel) first t.free (frees rest) l.cells l.freely in
        let hp : act_now P l.owned.body ≡ act_of_ask p.slots p.inc t.own (ask_of P t.free).ask (ask_of P t.free).line =
        p.act ∙ ap (λ (x : Bool). frame_act P p.slots p.inc t.own x) (al.awaits ∙ k) ∙ ap (λ (x : Asked S). act_of_ask p.slots p.inc t.own x.ask x.line) (ask_alike P al) in
        let hf : act_now (free_run P order first fuel) l.freely.body ≡ act_of_ask f.slots f.inc t.free (freed_ask (length first) (ask_of P t.free).ask) (ask_of P t.free).line =
        f.act ∙ ap (λ (x : Bool). frame_act (free_run P order first fuel) f.slots f.inc t.free x) k in
        let d = subst (λ (x : Bool). IsDeed (length first) t.free (act_now (free_run P order first fuel) l.freely.body) (ask_of P t.free).ask l.cells (free_deed (length first) t.free.context.fuel t.free.context.depth t.free.context.ticks t.free.context.created x l.cells (ask_of P t.free).ask (ask_of P t.free).line)) k
        (free_deeds_are_acts S P order first fuel t.free (frees rest) l.cells few l.freely) in
        hush_ask P order first fuel few z y t rest l r ca ch counts al fine quiet num held_num (level_right P order first fuel few two named plain s run own good z t rest l) lacking (ask_of P t.free).ask (ask_of P t.free).line m
        p.slots f.slots p.inc f.inc hp hf d (named t.free.script t.free.answers) (plain t.free.script t.free.answers)
        (subst (λ (x : Bool). IsBehindIf x (mended_in all) t.free (ask_of P t.free).ask (ask_of P t.free).line (held_nest t rest ch) m) k b)
        (subst (λ (x : Bool). AskedFated lacking (if x then asked_nest t rest ca else behind_ask t.free (ask_of P t.free).ask (ask_of P t.free).line (asked_nest t rest ca))) k fa)

    waits : t.free.awaits ≡ true → IsQuiet m
    waits k = subst IsQuiet (sym (subst (λ (x : Bool). IsBehindIf x (mended_in all) t.free (ask_of P t.free).ask (ask_of P t.free).line (held_nest t rest ch) m) k b)) quiet

    hushes : IsQuiet m
    hushes = by (head_of P (length first) nothing_pending t rest l.together).beside
      where
        by : IsBeside P t.own t.free → IsQuiet m
        by (ahead x al k n) = waits (ap (λ (g : Frame S). g.awaits) k ∙ (settle_same P (awaiting P true x)).awaits)
        by (even al) = go t.free.awaits refl
          where
            go : (x : Bool) → t.free.awaits ≡ x → IsQuiet m
            go true k = waits k
            go false k = acts al k

  record IsHushed (z : Running S) (n : Nest Asking) (m : Nest Holding) : Type 0 where
    reach : Reach P order first fuel z n m
    still : IsQuiet m

  on : {z y : Running S} {f : Frame S} {n : Nest Asking} {m m2 : Nest Holding} → IsActing (free_run P order first fuel) z f → RunsOn (free_run P order first fuel) z y → IsFine n → IsNumbered n → IsNumbered m → IsQuiet m
      → IsBehind (mended_in all) P f m m2 → AskedFated lacking (behind P f n) → Reach P order first fuel z n m → IsHushed y (behind P f n) m2
  unfolding lacking
  on {z = z} a r fine num held_num quiet b fa (done o) =
      let t : r.task ≡ o.last.task = one_task (free_run P order first fuel) z o.other r.task o.last.task (same_back (free_run P order first fuel) o.other z o.same) r.at_ o.last.at_ in
      absurd (r.goes (subst (λ (x : Task S). IsHalt (act_now (free_run P order first fuel) x.body)) (sym t) o.last.stops))
  on {z = z} {y = y} {f = f} {n = n} {m = m} {m2 = m2} a r fine num held_num quiet b fa (stand t rest ca ch l counts en em) =
      let ef : f ≡ t.free = acts_first (free_run P order first fuel) (start P order first fuel) first t.free (frees rest) l.cells l.freely z f l.same a in
      let fine2 : IsFine (asked_nest t rest ca) = subst IsFine en fine in
      let quiet2 : IsQuiet (held_nest t rest ch) = subst IsQuiet em quiet in
      let num2 : IsNumbered (asked_nest t rest ca) = subst (λ (x : Nest Asking). IsNumbered x) en num in
      let held_num2 : IsNumbered (held_nest t rest ch) = subst (λ (x : Nest Holding). IsNumbered x) em held_num in
      let b2 : IsBehind (mended_in all) P t.free (held_nest t rest ch) m2 = subst (λ (v : Frame S). IsBehind (mended_in all) P v (held_nest t rest ch) m2) ef (subst (λ (x : Nest Holding). IsBehind (mended_in all) P f x m2) em b) in
      let fa2 : AskedFated lacking (behind P t.free (asked_nest t rest ca)) = subst (λ (v : Frame S). AskedFated lacking (behind P v (asked_nest t rest ca))) ef (subst (λ (x : Nest Asking). AskedFated lacking (behind P f x)) en fa) in
      let h : IsQuiet m2 = hushes z y t rest l r ca ch counts fine2 quiet2 num2 held_num2 m2 b2 fa2 in
      let held_num3 : IsNumbered m2 = act_held_numbered P t.free (mended_in all) (held_nest t rest ch) m2 b2 held_num2 in
      let e : Clean = record {
        asked = all;
        asked_main = last;
        held = (all_closed tell_nothing m2).ended;
        held_main = (all_closed tell_nothing m2).acting.task;
        lacks = lacks;
        untold = (quiet_at_stop m2 held_num3 h).tasks;
        untold_main = (quiet_at_stop m2 held_num3 h).main;
      } in
      let fh : HeldFated e m2 = fated_at_stop IsMoreTold told_still told_later tell_nothing held_told m2 held_num3 in
      let next : IsHushed y (behind P t.free (asked_nest t rest ca)) m2 = record { reach = turn P order first fuel few two named e z y t rest l r ca ch counts m2 b2 fa2 fh num2; still = h } in
      subst (λ (x : Nest Asking). IsHushed y (behind P f x) m2) (sym en) (subst (λ (v : Frame S). IsHushed y (behind P v (asked_nest t rest ca)) m2) (sym ef) next)

  hush : {z : Running S} {n : Nest Asking} {m : Nest Holding} → Pair (mended_in all) P (start P order first fuel) first z n m → AskedFated lacking n → IsHushed z n m
  hush pair_opens fa = record { reach = begun P order first fuel; still = record { open_ = refl; ended = λ i t e. absurd (no_task P order first fuel few two named plain i t e) } }
  hush (pair_on {f = f} {n = n} {m = m} p a r b) fa =
      let num = pair_numbered (mended_in all) P (start P order first fuel) first p in
      let q = past P order first fuel few two named plain s run own good (pair_walks p) in
      let h = hush p (act_fated P f lacking n num fa) in
      on a r q.clean num (pair_held_numbered (mended_in all) P (start P order first fuel) first p) h.still b fa h.reach

  pub told_nothing : {z : Running S} {n : Nest Asking} {m : Nest Holding} → Pair (mended_in all) P (start P order first fuel) first z n m → AskedFated lacking n → NothingTold (all_closed tell_nothing m)
  told_nothing {m = m} p fa = quiet_at_stop m (pair_held_numbered (mended_in all) P (start P order first fuel) first p) (hush p fa).still

told_at_end : {S : Type 0} (P : Program S) (order : Order S) (first : List ℕ) (fuel : ℕ) (few : length first ≤ 1048576) (two : SettlesInTwo P) (named : NamesItsCells (length first) P) (plain : ReleasesPlainly P)
    (s : Running S) (run : Sequential P (start P order first fuel) first s) (own : IsAtEnd P s) (good : IsNotWrong (act_now P own.task.body)) (z y : Running S) (end : IsAtEnd (free_run P order first fuel) z) (n : Nest Asking) (m : Nest Holding)
    → Walks P (start P order first fuel) first z n → IsAtEnd (free_run P order first fuel) y → Waits (mended_in (at_stop n).ended) P (start P order first fuel) first y m → NothingLacks (at_stop n) → NothingTold (held_at_stop m)
unfolding lacking
told_at_end P order first fuel few two named plain s run own good z y end n m walks stop waits lacks =
    let p : Pair (mended_in (at_stop n).ended) P (start P order first fuel) first z n m = paired (mended_in (at_stop n).ended) P (start P order first fuel) first z y n m walks end waits stop in
    told_nothing P order first fuel few two named plain s run own good (at_stop n).ended (at_stop n).acting.task lacks p
    (fated_at_stop IsMoreAsked asked_still asked_later tell_creator asked_told n (pair_numbered (mended_in (at_stop n).ended) P (start P order first fuel) first p))

pub nothing_is_missing : (S : Type 0) → NothingIsMissing S
nothing_is_missing S P order first fuel s run own good few two named plain z end n walks =
    let lacks : NothingLacks (at_stop n) = nothing_lacks P order first fuel few two named plain s run own good walks in
    record { lacks = lacks; told = λ y stop m waits. told_at_end P order first fuel few two named plain s run own good z y end n m walks stop waits lacks }
