-- Each act of the free run leads both runs on, where nothing is lacking and nothing told; and where the free run ends the program's own run ends alike.
use Rattle.std.proofs.Common.{◌≡◌, refl, sym, subst, ap, ◌∙◌, ℕ, ◌≤◌, Bool, true, false, List, ◌∷◌, length, Option}
use Rattle.std.specs.Prelude.{if◌then◌else◌}
use Rattle.oss_syntax.specs.declared.fault.FaultKind.TheVariants as fault
use Rattle.oss_model.specs.Context.{create_fault}
use Rattle.oss_model.specs.Rights.{Right, is_fold}
use Rattle.oss_model.specs.Bodies.{Act, Ask, Asked, Frame, IsHalt, Order, Program, act_of_ask, ask_of, frame_act, key_of, settled_frame}
use Rattle.oss_model.specs.Bodies.Act.{Awaited, Fault}
use Rattle.oss_model.specs.Moves.{act_now}
use Rattle.oss_model.specs.Sequence.{Running, RunsOn, printed_after}
use Rattle.oss_model.proofs.BodyLemmas.{settle_same}
use Rattle.oss_freed.specs.Freed.{freed_ask}
use Rattle.oss_free_tasks.specs.Deeds.{IsDeed, asked_deed, free_deed}
use Rattle.oss_free_tasks.specs.OpenTasks.{Goes}
use Rattle.oss_free_tasks.proofs.DeedLemmas.{free_deeds_are_acts}
use Rattle.oss_free_tasks.proofs.FreeTurns.{led, settled_freed}
use Rattle.oss_lacks.specs.Asking.{Asking, behind_ask}
use Rattle.oss_lacks.specs.Nests.{Nest}
use Rattle.oss_lacks.specs.Walks.{behind}
use Rattle.oss_missing_waits.specs.Holding.{Holding}
use Rattle.oss_missing_waits.specs.Waits.{IsBehind, IsBehindAsk, IsBehindIf, mended_in}
use Rattle.oss_missing_laws.specs.Programs.{IsNaming, NamesItsCells, SettlesInTwo}
use Rattle.oss_missing_laws.proofs.AlikeLemmas.{IsAlike, IsBeside, ahead, ask_alike, awaiting, even, settled_late}
use Rattle.oss_missing_laws.proofs.BirthLemmas.{by_create}
use Rattle.oss_missing_laws.proofs.EndingLemmas.{by_end}
use Rattle.oss_missing_laws.proofs.FateLemmas.{IsNumbered}
use Rattle.oss_missing_laws.proofs.LevelLemmas.{AskedFated, Clean, HeldFated, IsTogether, Twin, asked_nest, frees, given_at, head_of, held_nest, nothing_pending, owns, rehead}
use Rattle.oss_missing_laws.proofs.RunLevels.{Level, Reach, free_run, plain, stand, start}
use Rattle.oss_missing_laws.proofs.SameLemmas.{acting, one_step, prints}
use Rattle.oss_missing_laws.proofs.StepLemmas.{alive, by_fold, by_print, by_read, by_release, by_tick, by_wait, by_wait_on, by_write, judged_halts}

module _ {S : Type 0} (P : Program S) (order : Order S) (first : List ℕ) (fuel : ℕ) (few : length first ≤ 1048576) (two : SettlesInTwo P) (named : NamesItsCells (length first) P) (e : Clean) where
  module _ (z y : Running S) (t : Twin S) (rest : List (Twin S)) (l : Level P order first fuel z t rest) (r : RunsOn (free_run P order first fuel) z y) (ca : List (Option Asking)) (ch : List (Option Holding)) (counts : length ch ≡ length ca) where
    -- an ask of tasks that stand side by side
    by_ask : (al : IsAlike t.own t.free) (q : Ask S) (line : ℕ) (m : Nest Holding) (sp sf : ℕ → Right) (ip jf : Bool) → act_now P l.owned.body ≡ act_of_ask sp ip t.own q line
        → act_now (free_run P order first fuel) l.freely.body ≡ act_of_ask sf jf t.free (freed_ask (length first) q) line
        → IsDeed (length first) t.free (act_now (free_run P order first fuel) l.freely.body) q l.cells (asked_deed (length first) t.free.context.fuel t.free.context.depth t.free.context.ticks t.free.context.created l.cells q line)
        → IsNaming (length first) q → IsBehindAsk (mended_in e.asked) t.free q line (held_nest t rest ch) m → AskedFated e (behind_ask t.free q line (asked_nest t rest ca)) → HeldFated e m → IsNumbered (asked_nest t rest ca)
        → Reach P order first fuel y (behind_ask t.free q line (asked_nest t rest ca)) m
    by_ask al Ask.Begin line m sp sf ip jf hp hf d nm b fa fh num =
        absurd (alive P order first fuel few e z y t rest l r ca ch counts al (subst IsHalt (sym hf) (judged_halts t.free line (create_fault t.free.context) (Fault fault.TooManyTasks line (key_of t.free)) tt)))
    by_ask al Ask.Tick line m sp sf ip jf hp hf d nm b fa fh num = by_tick P order first fuel few e z y t rest l r ca ch counts al line m fh hp hf b
    by_ask al (Ask.Read c) line m sp sf ip jf hp hf d nm b fa fh num = by_read P order first fuel few e z y t rest l r ca ch counts al line m fh c hp hf d b fa
    by_ask al (Ask.Write c v) line m sp sf ip jf hp hf d nm b fa fh num = by_write P order first fuel few e z y t rest l r ca ch counts al line m fh c v hp hf d b fa
    by_ask al (Ask.Fold c op v) line m sp sf ip jf hp hf d nm b fa fh num =
        by_fold P order first fuel few e z y t rest l r ca ch counts al line m fh c op v (is_fold (sp c)) (is_fold (sf c)) hp hf d b fa
    by_ask al (Ask.Create o) line m sp sf ip jf hp hf d nm b fa fh num = by_create P order first fuel few e z y t rest l r ca ch counts al o line m nm fa fh b hp hf
    by_ask al Ask.Await line m sp sf ip jf hp hf d nm b fa fh num = absurd (alive P order first fuel few e z y t rest l r ca ch counts al (subst IsHalt (sym hf) tt))
    by_ask al Ask.Wait line m sp sf ip jf hp hf d nm b fa fh num = by_wait P order first fuel few e z y t rest l r ca ch counts al line m fh hp hf b
    by_ask al (Ask.WaitOn xs) line m sp sf ip jf hp hf d nm b fa fh num = by_wait_on P order first fuel few e z y t rest l r ca ch counts al line m fh xs nm hp hf b fa
    by_ask al (Ask.Release xs) line m sp sf ip jf hp hf d nm b fa fh num = by_release P order first fuel few e z y t rest l r ca ch counts al line m fh xs ip jf nm hp hf b fa
    by_ask al (Ask.Print text) line m sp sf ip jf hp hf d nm b fa fh num = by_print P order first fuel few e z y t rest l r ca ch counts al line m fh text (key_of t.own) (key_of t.free) hp hf b
    by_ask al Ask.End line m sp sf ip jf hp hf d nm b fa fh num = by_end P order first fuel few e z y t rest l r ca ch counts m fa num b hp hf
    by_ask al (Ask.Fails kind) line m sp sf ip jf hp hf d nm b fa fh num = absurd (alive P order first fuel few e z y t rest l r ca ch counts al (subst IsHalt (sym hf) tt))

    -- both await
    both_await : (al : IsAlike t.own t.free) → t.free.awaits ≡ true → Reach P order first fuel y (asked_nest t rest ca) (held_nest t rest ch)
    both_await al k =
        let old = head_of P (length first) nothing_pending t rest l.together in
        let p = acting P (start P order first fuel) first t.own (owns rest) l.cells l.owned in
        let f = acting (free_run P order first fuel) (start P order first fuel) first t.free (frees rest) l.cells l.freely in
        let a : act_now P l.owned.body ≡ Awaited = p.act ∙ ap (λ (b : Bool). frame_act P p.slots p.inc t.own b) (al.awaits ∙ k) in
        let w : act_now (free_run P order first fuel) l.freely.body ≡ Awaited = f.act ∙ ap (λ (b : Bool). frame_act (free_run P order first fuel) f.slots f.inc t.free b) k in
        plain P order first fuel z y t rest l r Ask.Tick Awaited Awaited 0 l.cells t.held.task ca ch counts a w
        (led P (start P order first fuel) first t.own (owns rest) l.cells l.owned Awaited a (λ h. h))
        (led (free_run P order first fuel) (start P order first fuel) first t.free (frees rest) l.cells l.freely Awaited w (λ h. h))
        (λ o. refl)
        (record { script = al.script; answers = al.answers; ticks = al.ticks; fuel = al.fuel; created = al.created; depth = al.depth; final = al.final; awaits = refl })
        refl old.known

    -- the free run alone awaits
    one_awaits : (x : Frame S) → IsAlike t.own (settled_frame P (awaiting P false x)) → t.free ≡ settled_frame P (awaiting P true x) → t.free.awaits ≡ true → Reach P order first fuel y (asked_nest t rest ca) (held_nest t rest ch)
    one_awaits x al k aw =
        let old = head_of P (length first) nothing_pending t rest l.together in
        let f = acting (free_run P order first fuel) (start P order first fuel) first t.free (frees rest) l.cells l.freely in
        let w : act_now (free_run P order first fuel) l.freely.body ≡ Awaited = f.act ∙ ap (λ (b : Bool). frame_act (free_run P order first fuel) f.slots f.inc t.free b) aw in
        let gf : Goes (free_run P order first fuel) (start P order first fuel) first l.freely.stage (t.free ∷ frees rest) (settled_frame (free_run P order first fuel) (awaiting P false t.free) ∷ frees rest) l.cells =
        led (free_run P order first fuel) (start P order first fuel) first t.free (frees rest) l.cells l.freely Awaited w (λ h. h) in
        let g : Frame S = settled_frame (free_run P order first fuel) (awaiting P false t.free) in
        let s : g ≡ settled_frame P (awaiting P false x) = settled_freed P (length first) (awaiting P false t.free) ∙ ap (λ (h : Frame S). settled_frame P (awaiting P false h)) k ∙ settled_late P two x in
        let u : Twin S = record { own = t.own; free = g; asked = t.asked; held = t.held } in
        let tu : IsTogether P (length first) (given_at rest t.asked.task) nothing_pending u = record { beside = even (subst (λ (h : Frame S). IsAlike t.own h) (sym s) al); known = old.known; has = old.has } in
        let level : Level P order first fuel y u rest = record {
          cells = l.cells;
          owned = l.owned;
          freely = gf.stands;
          same = one_step (free_run P order first fuel) l.freely.stage z gf.stands.stage y l.same gf.runs r;
          printed = l.printed ∙ sym (prints (free_run P order first fuel) (start P order first fuel) first t.free (frees rest) l.cells l.freely gf.stands.stage gf.runs ∙ ap (λ (b : Act S). printed_after b l.freely.stage.printed) w);
          together = rehead P (length first) nothing_pending nothing_pending t u rest l.together refl tu;
        } in
        stand u rest ca ch level counts refl refl

    abbrev Goal : Bool → Nest Holding → Type 0
    Goal b m = Reach P order first fuel y (if b then asked_nest t rest ca else behind_ask t.free (ask_of P t.free).ask (ask_of P t.free).line (asked_nest t rest ca)) m

    pub turn : (m : Nest Holding) → IsBehind (mended_in e.asked) P t.free (held_nest t rest ch) m → AskedFated e (behind P t.free (asked_nest t rest ca)) → HeldFated e m → IsNumbered (asked_nest t rest ca) → Reach P order first fuel y (behind P t.free (asked_nest t rest ca)) m
    turn m b fa fh num = by (head_of P (length first) nothing_pending t rest l.together).beside
      where
        -- it awaits
        waits : t.free.awaits ≡ true → Reach P order first fuel y (asked_nest t rest ca) (held_nest t rest ch) → Reach P order first fuel y (behind P t.free (asked_nest t rest ca)) m
        waits k h =
            let n : m ≡ held_nest t rest ch = subst (λ (x : Bool). IsBehindIf x (mended_in e.asked) t.free (ask_of P t.free).ask (ask_of P t.free).line (held_nest t rest ch) m) k b in
            subst (λ (x : Bool). Goal x m) (sym k) (subst (λ (w : Nest Holding). Goal true w) (sym n) h)

        acts : IsAlike t.own t.free → t.free.awaits ≡ false → Reach P order first fuel y (behind P t.free (asked_nest t rest ca)) m
        acts al k =
            let p = acting P (start P order first fuel) first t.own (owns rest) l.cells l.owned in
            let f = acting (free_run P order first fuel) (start P order first fuel) first t.free (frees rest) l.cells l.freely in
            let hp : act_now P l.owned.body ≡ act_of_ask p.slots p.inc t.own (ask_of P t.free).ask (ask_of P t.free).line =
            p.act ∙ ap (λ (x : Bool). frame_act P p.slots p.inc t.own x) (al.awaits ∙ k) ∙ ap (λ (x : Asked S). act_of_ask p.slots p.inc t.own x.ask x.line) (ask_alike P al) in
            let hf : act_now (free_run P order first fuel) l.freely.body ≡ act_of_ask f.slots f.inc t.free (freed_ask (length first) (ask_of P t.free).ask) (ask_of P t.free).line =
            f.act ∙ ap (λ (x : Bool). frame_act (free_run P order first fuel) f.slots f.inc t.free x) k in
            let d = subst (λ (x : Bool). IsDeed (length first) t.free (act_now (free_run P order first fuel) l.freely.body) (ask_of P t.free).ask l.cells (free_deed (length first) t.free.context.fuel t.free.context.depth t.free.context.ticks t.free.context.created x l.cells (ask_of P t.free).ask (ask_of P t.free).line)) k
            (free_deeds_are_acts S P order first fuel t.free (frees rest) l.cells few l.freely) in
            subst (λ (x : Bool). Goal x m) (sym k)
            (by_ask al (ask_of P t.free).ask (ask_of P t.free).line m p.slots f.slots p.inc f.inc hp hf d (named t.free.script t.free.answers)
            (subst (λ (x : Bool). IsBehindIf x (mended_in e.asked) t.free (ask_of P t.free).ask (ask_of P t.free).line (held_nest t rest ch) m) k b)
            (subst (λ (x : Bool). AskedFated e (if x then asked_nest t rest ca else behind_ask t.free (ask_of P t.free).ask (ask_of P t.free).line (asked_nest t rest ca))) k fa) fh num)

        by : IsBeside P t.own t.free → Reach P order first fuel y (behind P t.free (asked_nest t rest ca)) m
        by (ahead x al k n) = let aw : t.free.awaits ≡ true = ap (λ (g : Frame S). g.awaits) k ∙ (settle_same P (awaiting P true x)).awaits in waits aw (one_awaits x al k aw)
        by (even al) = go t.free.awaits refl
          where
            go : (x : Bool) → t.free.awaits ≡ x → Reach P order first fuel y (behind P t.free (asked_nest t rest ca)) m
            go true k = waits k (both_await al k)
            go false k = acts al k
