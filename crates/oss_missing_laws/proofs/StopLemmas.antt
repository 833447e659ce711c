-- Where the free run stands before a fault, and nothing is missing, the program's own run stands before the same.
use Rattle.std.proofs.Common.{◌≡◌, refl, sym, subst, ap, ◌∙◌, ℕ, ◌≤◌, Bool, true, false, List, length, arith, Option, Some, None}
use Rattle.std.specs.Prelude.{◌||◌, if◌then◌else◌, nat_le, nat_lt, slice_index, slice_index_or}
use Rattle.std.proofs.lemmas.Bool.Decides.{nat_tests}
use Rattle.std.proofs.lemmas.List.{get_or_past}
use Rattle.oss_syntax.specs.declared.fault.FaultKind.{FaultKind}
use Rattle.oss_syntax.specs.declared.fault.FaultKind.TheVariants as fault
use Rattle.oss_model.specs.Context.{Entry, clause_fault, create_fault, lent_of, mark_of, no_entry, or_else, right_of, tick_fault}
use Rattle.oss_model.specs.Rights.{Folds, Reads, Right, Touch, Writes, is_fold, touch_fault}
use Rattle.oss_model.specs.Bodies.{Act, Ask, Asked, Frame, IsHalt, Order, Program, act_of_ask, ask_of, frame_act, judged_act, key_of, word_of}
use Rattle.oss_model.specs.Bodies.Act.{Created, Fault, Folded, Load, Over, Store, Ticked}
use Rattle.oss_model.specs.Moves.{act_now}
use Rattle.oss_model.specs.Sequence.{IsAtEnd, Running}
use Rattle.oss_model.specs.Machine.{Task}
use Rattle.oss_model.proofs.BodyLemmas.{settle_same}
use Rattle.oss_freed.specs.Freed.{all_cells, freed_ask, freed_order}
use Rattle.oss_free_tasks.specs.declared.deed.Deed.TheVariants as deeds
use Rattle.oss_free_tasks.specs.Deeds.{IsDeed, asked_deed, free_deed, within}
use Rattle.oss_free_tasks.specs.OpenTasks.{whole_task}
use Rattle.oss_free_tasks.proofs.DeedLemmas.{free_deeds_are_acts}
use Rattle.oss_lacks.specs.Asking.{Asking}
use Rattle.oss_lacks.specs.Nests.{Nest}
use Rattle.oss_missing_waits.specs.Holding.{Holding}
use Rattle.oss_missing_laws.specs.Programs.{EndsAlike, StopAlike}
use Rattle.oss_missing_laws.proofs.AlikeLemmas.{IsAlike, IsBeside, ahead, ask_alike, awaiting, create_alike, even, tick_alike}
use Rattle.oss_missing_laws.proofs.LevelLemmas.{IsTogether, Twin, frees, given_at, head_of, nothing_pending, owns}
use Rattle.oss_missing_laws.proofs.RunLevels.{Level, Reach, done, free_run, stand, start}
use Rattle.oss_missing_laws.proofs.SameLemmas.{act_at_end, acting, one_task}

stop_halts : {S : Type 0} (a b : Act S) → StopAlike a b → IsHalt a
stop_halts Over b h = tt
stop_halts (Fault kind line key) b h = tt
stop_halts _ b h = h

module _ {S : Type 0} (f g : Frame S) (line : ℕ) where
  judged_stops : (o p : Option FaultKind) (a b : Act S) → o ≡ p → (o ≡ None → StopAlike a b) → StopAlike (judged_act f line o a) (judged_act g line p b)
  judged_stops o p a b e h = subst (λ (x : Option FaultKind). StopAlike (judged_act f line o a) (judged_act g line x b)) e (go o h)
    where
      go : (x : Option FaultKind) → (x ≡ None → StopAlike a b) → StopAlike (judged_act f line x a) (judged_act g line x b)
      go None k = k refl
      go (Some kind) k = (refl, refl)

  or_stops : (o p x y : Option FaultKind) (a b : Act S) → o ≡ p → (o ≡ None → StopAlike (judged_act f line x a) (judged_act g line y b)) → StopAlike (judged_act f line (or_else o x) a) (judged_act g line (or_else p y) b)
  or_stops o p x y a b e h = subst (λ (q : Option FaultKind). StopAlike (judged_act f line (or_else o x) a) (judged_act g line (or_else q y) b)) e (go o h)
    where
      go : (q : Option FaultKind) → (q ≡ None → StopAlike (judged_act f line x a) (judged_act g line y b)) → StopAlike (judged_act f line (or_else q x) a) (judged_act g line (or_else q y) b)
      go None k = k refl
      go (Some kind) k = (refl, refl)

  -- the acts, where these are they
  stops_at : (a b c d : Act S) → a ≡ c → b ≡ d → StopAlike c d → StopAlike a b
  stops_at a b c d e k h = subst (λ (x : Act S). StopAlike x b) (sym e) (subst (λ (x : Act S). StopAlike c x) (sym k) h)

  module _ (n : ℕ) (cells : List ℕ) (pa fa : Act S) (halts : IsHalt fa) (al : IsAlike f g) (size : length f.context.entries ≡ n) where
    -- a touch past the last cell
    past : (c : ℕ) (t : Touch) (q : Ask S) (act : Act S) (v : ℕ) → pa ≡ judged_act f line (touch_fault (right_of f.context c) (lent_of f.context c) (mark_of f.context c) t) act
        → IsDeed n g fa q cells (within n c line (deeds.Finds v)) → StopAlike pa fa
    past c t q act v hp = go (nat_lt c n) refl
      where
        go : (b : Bool) → nat_lt c n ≡ b → IsDeed n g fa q cells (if b then deeds.Finds v else deeds.Stops fault.NoRight line) → StopAlike pa fa
        go true e d = absurd (d.goes halts)
        go false e d =
            let k : n ≤ c = grind (arith, nat_tests, e) in
            let i : slice_index_or f.context.entries c no_entry ≡ no_entry = get_or_past f.context.entries c no_entry (subst (λ (x : ℕ). x ≤ c) (sym size) k) in
            let o : touch_fault (right_of f.context c) (lent_of f.context c) (mark_of f.context c) t ≡ Some fault.NoRight = ap (λ (x : Entry). touch_fault x.right x.lent x.mark t) i in
            stops_at pa fa (Fault fault.NoRight line (key_of f)) (Fault fault.NoRight line d.0) (hp ∙ ap (λ (x : Option FaultKind). judged_act f line x act) o) d.1 (refl, refl)

    limits : (a b : Bool) (q : Ask S) → (if a then Some fault.TooDeep else if b then Some fault.TooManyTasks else None) ≡ None
        → IsDeed n g fa q cells (if a then deeds.Stops fault.TooDeep line else if b then deeds.Stops fault.TooManyTasks line else deeds.Creates) → ⊥
    limits true b q e d = let x : Some fault.TooDeep ≡ None = e in cc
    limits false true q e d = let x : Some fault.TooManyTasks ≡ None = e in cc
    limits false false q e d = subst IsHalt d.2 halts

    ask_stops : (q : Ask S) (sp sf : ℕ → Right) (ip jf : Bool) → pa ≡ act_of_ask sp ip f q line → fa ≡ act_of_ask sf jf g (freed_ask n q) line
        → IsDeed n g fa q cells (asked_deed n g.context.fuel g.context.depth g.context.ticks g.context.created cells q line) → StopAlike pa fa
    ask_stops Ask.Begin sp sf ip jf hp hf d =
        let a : Act S = Fault fault.TooManyTasks line (key_of f) in
        let b : Act S = Fault fault.TooManyTasks line (key_of g) in
        stops_at pa fa (judged_act f line (create_fault f.context) a) (judged_act g line (create_fault g.context) b) hp hf (judged_stops (create_fault f.context) (create_fault g.context) a b (create_alike al) (λ k. (refl, refl)))
    ask_stops Ask.Tick sp sf ip jf hp hf d =
        stops_at pa fa (judged_act f line (tick_fault f.context) Ticked) (judged_act g line (tick_fault g.context) Ticked) hp hf
        (judged_stops (tick_fault f.context) (tick_fault g.context) Ticked Ticked (tick_alike al) (λ k. subst IsHalt (hf ∙ ap (λ (x : Option FaultKind). judged_act g line x Ticked) (sym (tick_alike al) ∙ k)) halts))
    ask_stops (Ask.Read c) sp sf ip jf hp hf d = past c Reads (Ask.Read c) (Load c) (slice_index cells c) hp d
    ask_stops (Ask.Write c v) sp sf ip jf hp hf d = past c Writes (Ask.Write c v) (Store c (word_of v)) 0 hp d
    ask_stops (Ask.Fold c op v) sp sf ip jf hp hf d = past c (Folds op) (Ask.Fold c op v) (Folded c op (word_of v) (is_fold (sp c))) 0 hp d
    ask_stops (Ask.Create o) sp sf ip jf hp hf d =
        let a : Act S = Created o f.context.final in
        let b : Act S = Created (freed_order n o) g.context.final in
        let x = clause_fault f.context o.clauses (f.context.final || o.last) in
        let y = clause_fault g.context (all_cells n) (g.context.final || o.last) in
        stops_at pa fa (judged_act f line (or_else (create_fault f.context) x) a) (judged_act g line (or_else (create_fault g.context) y) b) hp hf
        (or_stops (create_fault f.context) (create_fault g.context) x y a b (create_alike al)
        (λ k. absurd (limits (nat_le 64 g.context.depth) (nat_le 65535 g.context.created) (Ask.Create o) (sym (create_alike al) ∙ k) d)))
    ask_stops Ask.Await sp sf ip jf hp hf d = stops_at pa fa (Fault fault.TooManyTasks line (key_of f)) (Fault fault.TooManyTasks line (key_of g)) hp hf (refl, refl)
    ask_stops Ask.Wait sp sf ip jf hp hf d = absurd (subst IsHalt hf halts)
    ask_stops (Ask.WaitOn named) sp sf ip jf hp hf d = absurd (subst IsHalt hf halts)
    ask_stops (Ask.Release clauses) sp sf ip jf hp hf d = absurd (subst IsHalt hf halts)
    ask_stops (Ask.Print text) sp sf ip jf hp hf d = absurd (subst IsHalt hf halts)
    ask_stops Ask.End sp sf ip jf hp hf d = absurd (subst IsHalt hf halts)
    ask_stops (Ask.Fails kind) sp sf ip jf hp hf d = stops_at pa fa (Fault kind line (key_of f)) (Fault kind line (key_of g)) hp hf (refl, refl)

module _ {S : Type 0} (P : Program S) (order : Order S) (first : List ℕ) (fuel : ℕ) (few : length first ≤ 1048576) (z : Running S) (end : IsAtEnd (free_run P order first fuel) z) where
  level_stops : (t : Twin S) (rest : List (Twin S)) (l : Level P order first fuel z t rest) → StopAlike (act_now P l.owned.body) (act_now (free_run P order first fuel) l.freely.body)
  level_stops t rest l = by old.beside
    where
      old : IsTogether P (length first) (given_at rest t.asked.task) nothing_pending t
      old = head_of P (length first) nothing_pending t rest l.together

      halts : IsHalt (act_now (free_run P order first fuel) l.freely.body)
      halts = subst IsHalt (act_at_end (free_run P order first fuel) (start P order first fuel) first t.free (frees rest) l.cells l.freely z l.same end) end.stops

      awaits : t.free.awaits ≡ true → ⊥
      awaits k =
          let f = acting (free_run P order first fuel) (start P order first fuel) first t.free (frees rest) l.cells l.freely in
          subst IsHalt (f.act ∙ ap (λ (b : Bool). frame_act (free_run P order first fuel) f.slots f.inc t.free b) k) halts

      acts : IsAlike t.own t.free → t.free.awaits ≡ false → StopAlike (act_now P l.owned.body) (act_now (free_run P order first fuel) l.freely.body)
      acts al k =
          let p = acting P (start P order first fuel) first t.own (owns rest) l.cells l.owned in
          let f = acting (free_run P order first fuel) (start P order first fuel) first t.free (frees rest) l.cells l.freely in
          let hp : act_now P l.owned.body ≡ act_of_ask p.slots p.inc t.own (ask_of P t.free).ask (ask_of P t.free).line =
          p.act ∙ ap (λ (x : Bool). frame_act P p.slots p.inc t.own x) (al.awaits ∙ k) ∙ ap (λ (x : Asked S). act_of_ask p.slots p.inc t.own x.ask x.line) (ask_alike P al) in
          let hf : act_now (free_run P order first fuel) l.freely.body ≡ act_of_ask f.slots f.inc t.free (freed_ask (length first) (ask_of P t.free).ask) (ask_of P t.free).line =
          f.act ∙ ap (λ (x : Bool). frame_act (free_run P order first fuel) f.slots f.inc t.free x) k in
          let d = subst (λ (x : Bool). IsDeed (length first) t.free (act_now (free_run P order first fuel) l.freely.body) (ask_of P t.free).ask l.cells (free_deed (length first) t.free.context.fuel t.free.context.depth t.free.context.ticks t.free.context.created x l.cells (ask_of P t.free).ask (ask_of P t.free).line)) k
          (free_deeds_are_acts S P order first fuel t.free (frees rest) l.cells few l.freely) in
          ask_stops t.own t.free (ask_of P t.free).line (length first) l.cells (act_now P l.owned.body) (act_now (free_run P order first fuel) l.freely.body) halts al old.known.size (ask_of P t.free).ask p.slots f.slots p.inc f.inc hp hf d

      by : IsBeside P t.own t.free → StopAlike (act_now P l.owned.body) (act_now (free_run P order first fuel) l.freely.body)
      by (ahead x al k n) = absurd (awaits (ap (λ (g : Frame S). g.awaits) k ∙ (settle_same P (awaiting P true x)).awaits))
      by (even al) = go t.free.awaits refl
        where
          go : (x : Bool) → t.free.awaits ≡ x → StopAlike (act_now P l.owned.body) (act_now (free_run P order first fuel) l.freely.body)
          go true k = absurd (awaits k)
          go false k = acts al k

  pub ends_alike : (n : Nest Asking) (m : Nest Holding) → Reach P order first fuel z n m → EndsAlike P (start P order first fuel) first z end
  ends_alike n m (done o) =
      let t : o.last.task ≡ end.task = one_task (free_run P order first fuel) o.other z o.last.task end.task o.same o.last.at_ end.at_ in
      let k : act_now (free_run P order first fuel) end.task.body ≡ Over = ap (λ (x : Task S). act_now (free_run P order first fuel) x.body) (sym t) ∙ o.over_too in
      record {
        stage = o.stage;
        run = o.run;
        own = o.end;
        alike = subst (λ (x : Act S). StopAlike x (act_now (free_run P order first fuel) end.task.body)) (sym o.over) (subst (λ (x : Act S). StopAlike Over x) (sym k) tt);
        cells = o.cells ∙ o.same.cells;
        printed = o.printed ∙ o.same.printed;
      }
  ends_alike n m (stand t rest ca ch l counts en em) =
      let s = level_stops t rest l in
      let k = act_at_end (free_run P order first fuel) (start P order first fuel) first t.free (frees rest) l.cells l.freely z l.same end in
      let own : IsAtEnd P l.owned.stage = record { task = whole_task l.owned.body; at_ = l.owned.at_; stops = stop_halts (act_now P l.owned.body) (act_now (free_run P order first fuel) l.freely.body) s } in
      record {
        stage = l.owned.stage;
        run = l.owned.run;
        own = own;
        alike = subst (λ (x : Act S). StopAlike (act_now P l.owned.body) x) (sym k) s;
        cells = l.owned.cells_are ∙ sym l.freely.cells_are ∙ l.same.cells;
        printed = l.printed ∙ l.same.printed;
      }
