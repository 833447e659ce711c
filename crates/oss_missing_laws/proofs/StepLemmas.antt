-- An act of both runs that neither creates nor ends: where nothing is told behind it, the judge finds no fault of clauses in it.
use Rattle.std.proofs.Common.{◌≡◌, refl, sym, subst, ap, ◌∙◌, ℕ, ◌+◌, ◌<◌, ◌≤◌, Bool, true, false, List, [], ◌∷◌, length, arith, Option, Some, None}
use Rattle.std.specs.Prelude.{◌||◌, ◌==◌, if◌then◌else◌, map, nat_lt, slice_index, slice_set}
use Rattle.std.proofs.lemmas.Bool.Decides.{nat_tests}
use Rattle.oss_syntax.specs.declared.access.Access.{Access}
use Rattle.oss_syntax.specs.declared.access.Op.{Op}
use Rattle.oss_syntax.specs.declared.fault.FaultKind.{FaultKind}
use Rattle.oss_syntax.specs.declared.fault.FaultKind.TheVariants as fault
use Rattle.oss_model.specs.Context.{Context, in_clauses, lent_of, mark_of, release, release_fault, right_of, tick_fault, wait_on_fault, waited, waited_on, wrote}
use Rattle.oss_model.specs.Rights.{Folds, Reads, Touch, Writes, touch_fault}
use Rattle.oss_model.specs.Bodies.{Act, Ask, Frame, IsHalt, Order, Program, judged_act, word_of}
use Rattle.oss_model.specs.Bodies.Act.{Folded, Load, Printed, Releases, Store, Ticked, Waited, WaitedOn}
use Rattle.oss_model.specs.Moves.{act_now}
use Rattle.oss_model.specs.Sequence.{Running, RunsOn, direct_cells}
use Rattle.oss_model.proofs.BodyLemmas.{judged_goes}
use Rattle.oss_needs.specs.declared.clause.Clause.{Clause}
use Rattle.oss_needs.specs.declared.demand.Demand.{Demand}
use Rattle.oss_needs.specs.declared.demand.Demand.TheVariants.{Fold, Load as Loads, Store as Stores}
use Rattle.oss_needs.specs.Claims.{all_right}
use Rattle.oss_needs.specs.Meeting.{mark_by, right_by}
use Rattle.oss_task_needs.specs.Asking.{Asked, asks}
use Rattle.oss_open_needs.specs.Opening.{releases as asks_released, waits}
use Rattle.oss_lent_cells.specs.Lent.{nothing_lent, waited_for}
use Rattle.oss_free_tasks.specs.declared.deed.Deed.{Deed}
use Rattle.oss_free_tasks.specs.declared.deed.Deed.TheVariants as deeds
use Rattle.oss_free_tasks.specs.Deeds.{IsDeed, within}
use Rattle.oss_free_tasks.proofs.FreeTurns.{led}
use Rattle.oss_lacks.specs.Asking.{Asking, asking, behind_ask, range_of}
use Rattle.oss_lacks.specs.Nests.{Nest, Numbered, with_acting}
use Rattle.oss_missing_waits.specs.Holding.{Holding, hinderer, releases, touched, waits_on, with_lent}
use Rattle.oss_missing_waits.specs.Waits.{IsDirective, IsTouched}
use Rattle.oss_missing_laws.specs.Entries.{demand_by}
use Rattle.oss_missing_laws.specs.Programs.{AreWithin}
use Rattle.oss_missing_laws.proofs.AlikeLemmas.{IsAlike, tick_alike}
use Rattle.oss_missing_laws.proofs.ClearLemmas.{clear_touch, clear_use}
use Rattle.oss_missing_laws.proofs.GrowLemmas.{asks_valued, releases_valued, waits_valued}
use Rattle.oss_missing_laws.proofs.KnownLemmas.{IsKnown, asked_known, counted_known, release_known, waited_known, waited_on_known, wrote_known}
use Rattle.oss_missing_laws.proofs.LevelLemmas.{AskedFated, Clean, HeldFated, Twin, asked_nest, asks_here, frees, given_at, given_at_same, head_of, held_nest, met_in_front, nothing_pending, owns, right_now_asked, untold_now}
use Rattle.oss_missing_laws.proofs.PassLemmas.{release_none, touch_none, wait_none}
use Rattle.oss_missing_laws.proofs.RunLevels.{Level, Reach, free_run, more_alike, plain, start}
use Rattle.oss_missing_laws.proofs.SameLemmas.{goes_first}

pub judged_halts : {S : Type 0} (f : Frame S) (line : ℕ) (o : Option FaultKind) (a : Act S) → IsHalt a → IsHalt (judged_act f line o a)
judged_halts f line None a h = h
judged_halts f line (Some kind) a h = tt

module _ {S : Type 0} (P : Program S) (order : Order S) (first : List ℕ) (fuel : ℕ) (few : length first ≤ 1048576) (e : Clean) where
  pub below : (c : ℕ) → c < length first → c < 1048576
  below c l = omega (arith, few, l)

  module _ (z y : Running S) (t : Twin S) (rest : List (Twin S)) (l : Level P order first fuel z t rest) (r : RunsOn (free_run P order first fuel) z y) (ca : List (Option Asking)) (ch : List (Option Holding)) (counts : length ch ≡ length ca) (al : IsAlike t.own t.free) where
    pub alive : IsHalt (act_now (free_run P order first fuel) l.freely.body) → ⊥
    alive = goes_first (free_run P order first fuel) (start P order first fuel) first t.free (frees rest) l.cells l.freely z y l.same r

    abbrev given : ℕ → Option Clause
    given = given_at rest t.asked.task

    -- what is asked behind the act is right
    covers : (up : Asked → Asked) → AskedFated e (with_acting (asking up t.asked.task) (asked_nest t rest ca)) → (c : ℕ) → c < 1048576
        → all_right (right_by (given_at rest t.asked.task c)) (mark_by (given_at rest t.asked.task c)) (up t.asked.task.asked c) ≡ true
    covers up h c i =
        let k : Numbered Asking = record { number = t.asked.number; task = asking up t.asked.task } in
        ap (λ (g : Option Clause). all_right (right_by g) (mark_by g) (up t.asked.task.asked c)) (sym (given_at_same rest t.asked.task (asking up t.asked.task) refl refl c))
        ∙ right_now_asked e k rest h.open_ c i

    -- nothing is told of the task behind it
    untold : (h : Holding) → HeldFated e (with_acting h (held_nest t rest ch)) → h.told ≡ []
    untold h k = let j : Numbered Holding = record { number = t.held.number; task = h } in untold_now e j rest k.open_

    pub known : IsKnown (length first) (given_at rest t.asked.task) t.asked.task.asked t.held.task.released t.held.task.lent t.own.context
    known = (head_of P (length first) nothing_pending t rest l.together).known

    touch_passes : (tch : Touch) (c line : ℕ) (m : Nest Holding) → c < length first → IsTouched tch c line (held_nest t rest ch) m
        → AskedFated e (with_acting (asking (asks (demand_by tch) c (c + 1)) t.asked.task) (asked_nest t rest ca)) → HeldFated e m
        → (touch_fault (right_of t.own.context c) (lent_of t.own.context c) (mark_of t.own.context c) tch ≡ None) × (m ≡ held_nest t rest ch)
    touch_passes tch c line m i b fa fh =
        let told : (touched tch c line b.used).told ≡ [] = untold (touched tch c line b.used) (subst (λ (x : Nest Holding). HeldFated e x) b.new_is fh) in
        let own : (c == c) ≡ true = grind (arith, nat_tests) in
        let k = clear_touch (λ d. c == d) tch c line t.held.task b.used own b.use_is told in
        let old = head_of P (length first) nothing_pending t rest l.together in
        let free : hinderer (given_at rest t.asked.task c) tch (t.held.task.lent c) ≡ None = ap (λ (g : Option Clause). hinderer g tch (t.held.task.lent c)) (sym (old.has c (below c i))) ∙ k.free in
        let g : Option Clause = given_at rest t.asked.task c in
        let right : all_right (right_by g) (mark_by g) (demand_by tch ∷ t.asked.task.asked c) ≡ true =
        ap (λ (ds : List Demand). all_right (right_by g) (mark_by g) ds) (sym (asks_here (demand_by tch) c t.asked.task.asked)) ∙ covers (asks (demand_by tch) c (c + 1)) fa c (below c i) in (
          touch_none (length first) (given_at rest t.asked.task) t.asked.task.asked t.held.task.released t.held.task.lent t.own.context known c tch i k.kept free (met_in_front (right_by g) (mark_by g) (demand_by tch) (t.asked.task.asked c) right),
          b.new_is ∙ ap (λ (h : Holding). with_acting h (held_nest t rest ch)) k.same,
        )

    -- a directive that names cells: none of them is released
    pub record IsDirected (cells : ℕ → Bool) (after : Holding → Holding) (m : Nest Holding) : Type 0 where
      pub kept : (c : ℕ) → cells c ≡ true → t.held.task.released c ≡ false
      pub nest : m ≡ with_acting (after t.held.task) (held_nest t rest ch)

    directed : (cells : ℕ → Bool) (line : ℕ) (after : Holding → Holding) (m : Nest Holding) → ((h : Holding) → (after h).told ≡ h.told) → IsDirective cells line after (held_nest t rest ch) m → HeldFated e m → IsDirected cells after m
    directed cells line after m same b fh =
        let told : (after b.used).told ≡ [] = untold (after b.used) (subst (λ (x : Nest Holding). HeldFated e x) b.new_is fh) in
        let k = clear_use cells line t.held.task b.used b.use_is (sym (same b.used) ∙ told) in
        record { kept = k.kept; nest = b.new_is ∙ ap (λ (h : Holding). with_acting (after h) (held_nest t rest ch)) k.same }

    pub in_cells : (c line : ℕ) (d : Deed) (q : Ask S) → IsDeed (length first) t.free (act_now (free_run P order first fuel) l.freely.body) q l.cells (within (length first) c line d) → c < length first
    in_cells c line d q = go (nat_lt c (length first)) refl
      where
        go : (b : Bool) → nat_lt c (length first) ≡ b → IsDeed (length first) t.free (act_now (free_run P order first fuel) l.freely.body) q l.cells (if b then d else deeds.Stops fault.NoRight line) → c < length first
        go true k h = grind (arith, nat_tests, k)
        go false k h = absurd (alive (subst IsHalt (sym h.1) tt))

    -- no fault in the free run, so the act is the one that is asked for
    abbrev Acts : Act S → Type 0
    Acts a = act_now (free_run P order first fuel) l.freely.body ≡ a

    abbrev Own : Act S → Type 0
    Own a = act_now P l.owned.body ≡ a

    free_act : (line : ℕ) (o : Option FaultKind) (a : Act S) → Acts (judged_act t.free line o a) → Acts a
    free_act line o a h = sym (judged_goes t.free line o a (act_now (free_run P order first fuel) l.freely.body) (sym h) alive).1

    own_act : (line : ℕ) (o : Option FaultKind) (a : Act S) → Own (judged_act t.own line o a) → o ≡ None → Own a
    own_act line o a h k = h ∙ ap (λ (x : Option FaultKind). judged_act t.own line x a) k

    -- the memory of what acts
    abbrev Nests : Ask S → ℕ → Nest Holding → Type 0
    Nests q line m = Reach P order first fuel y (behind_ask t.free q line (asked_nest t rest ca)) m

    by_same : (q : Ask S) (line : ℕ) (h : Holding) (m : Nest Holding) → m ≡ with_acting h (held_nest t rest ch) → Nests q line (with_acting h (held_nest t rest ch)) → Nests q line m
    by_same q line h m k x = subst (λ (w : Nest Holding). Nests q line w) (sym k) x

    module _ (line : ℕ) (m : Nest Holding) (fh : HeldFated e m) where
      pub by_read : (c : ℕ) → Own (judged_act t.own line (touch_fault (right_of t.own.context c) (lent_of t.own.context c) (mark_of t.own.context c) Reads) (Load c))
          → Acts (judged_act t.free line (touch_fault (right_of t.free.context c) (lent_of t.free.context c) (mark_of t.free.context c) Reads) (Load c))
          → IsDeed (length first) t.free (act_now (free_run P order first fuel) l.freely.body) (Ask.Read c) l.cells (within (length first) c line (deeds.Finds (slice_index l.cells c)))
          → IsTouched Reads c line (held_nest t rest ch) m → AskedFated e (behind_ask t.free (Ask.Read c) line (asked_nest t rest ca)) → Nests (Ask.Read c) line m
      by_read c hp hf deed b fa =
          let ok = touch_passes Reads c line m (in_cells c line (deeds.Finds (slice_index l.cells c)) (Ask.Read c) deed) b fa fh in
          let a : Own (Load c) = own_act line (touch_fault (right_of t.own.context c) (lent_of t.own.context c) (mark_of t.own.context c) Reads) (Load c) hp ok.0 in
          let w : Acts (Load c) = free_act line (touch_fault (right_of t.free.context c) (lent_of t.free.context c) (mark_of t.free.context c) Reads) (Load c) hf in
          by_same (Ask.Read c) line t.held.task m ok.1
          (plain P order first fuel z y t rest l r (Ask.Read c) (Load c) (Load c) (slice_index l.cells c) l.cells t.held.task ca ch counts a w
          (led P (start P order first fuel) first t.own (owns rest) l.cells l.owned (Load c) a (λ h. h))
          (led (free_run P order first fuel) (start P order first fuel) first t.free (frees rest) l.cells l.freely (Load c) w (λ h. h))
          (λ o. refl) (more_alike (slice_index l.cells c) t.own.context t.free.context al al.ticks al.fuel al.created al.depth al.final) refl
          (asked_known (length first) given t.asked.task.asked (asks Loads c (c + 1) t.asked.task.asked) t.held.task.released t.held.task.lent t.own.context (λ d i. asks_valued Loads c (c + 1) t.asked.task.asked d refl) known))

      pub by_write : (c v : ℕ) → Own (judged_act t.own line (touch_fault (right_of t.own.context c) (lent_of t.own.context c) (mark_of t.own.context c) Writes) (Store c (word_of v)))
          → Acts (judged_act t.free line (touch_fault (right_of t.free.context c) (lent_of t.free.context c) (mark_of t.free.context c) Writes) (Store c (word_of v)))
          → IsDeed (length first) t.free (act_now (free_run P order first fuel) l.freely.body) (Ask.Write c v) l.cells (within (length first) c line (deeds.Finds 0))
          → IsTouched Writes c line (held_nest t rest ch) m → AskedFated e (behind_ask t.free (Ask.Write c v) line (asked_nest t rest ca)) → Nests (Ask.Write c v) line m
      by_write c v hp hf deed b fa =
          let ok = touch_passes Writes c line m (in_cells c line (deeds.Finds 0) (Ask.Write c v) deed) b fa fh in
          let s : Act S = Store c (word_of v) in
          let a : Own s = own_act line (touch_fault (right_of t.own.context c) (lent_of t.own.context c) (mark_of t.own.context c) Writes) s hp ok.0 in
          let w : Acts s = free_act line (touch_fault (right_of t.free.context c) (lent_of t.free.context c) (mark_of t.free.context c) Writes) s hf in
          by_same (Ask.Write c v) line t.held.task m ok.1
          (plain P order first fuel z y t rest l r (Ask.Write c v) s s 0 (slice_set l.cells c (word_of v)) t.held.task ca ch counts a w
          (led P (start P order first fuel) first t.own (owns rest) l.cells l.owned s a (λ h. h))
          (led (free_run P order first fuel) (start P order first fuel) first t.free (frees rest) l.cells l.freely s w (λ h. h))
          (λ o. refl) (more_alike 0 (wrote c t.own.context) (wrote c t.free.context) al al.ticks al.fuel al.created al.depth al.final) refl
          (wrote_known (length first) given t.asked.task.asked t.held.task.released t.held.task.lent t.own.context known Stores c refl))

      pub by_fold : (c : ℕ) (op : Op) (v : ℕ) (p q : Bool) → Own (judged_act t.own line (touch_fault (right_of t.own.context c) (lent_of t.own.context c) (mark_of t.own.context c) (Folds op)) (Folded c op (word_of v) p))
          → Acts (judged_act t.free line (touch_fault (right_of t.free.context c) (lent_of t.free.context c) (mark_of t.free.context c) (Folds op)) (Folded c op (word_of v) q))
          → IsDeed (length first) t.free (act_now (free_run P order first fuel) l.freely.body) (Ask.Fold c op v) l.cells (within (length first) c line (deeds.Finds 0))
          → IsTouched (Folds op) c line (held_nest t rest ch) m → AskedFated e (behind_ask t.free (Ask.Fold c op v) line (asked_nest t rest ca)) → Nests (Ask.Fold c op v) line m
      by_fold c op v p q hp hf deed b fa =
          let ok = touch_passes (Folds op) c line m (in_cells c line (deeds.Finds 0) (Ask.Fold c op v) deed) b fa fh in
          let s : Act S = Folded c op (word_of v) p in
          let s2 : Act S = Folded c op (word_of v) q in
          let a : Own s = own_act line (touch_fault (right_of t.own.context c) (lent_of t.own.context c) (mark_of t.own.context c) (Folds op)) s hp ok.0 in
          let w : Acts s2 = free_act line (touch_fault (right_of t.free.context c) (lent_of t.free.context c) (mark_of t.free.context c) (Folds op)) s2 hf in
          by_same (Ask.Fold c op v) line t.held.task m ok.1
          (plain P order first fuel z y t rest l r (Ask.Fold c op v) s s2 0 (direct_cells s l.cells) t.held.task ca ch counts a w
          (led P (start P order first fuel) first t.own (owns rest) l.cells l.owned s a (λ h. h))
          (led (free_run P order first fuel) (start P order first fuel) first t.free (frees rest) l.cells l.freely s2 w (λ h. h))
          (λ o. refl) (more_alike 0 (wrote c t.own.context) (wrote c t.free.context) al al.ticks al.fuel al.created al.depth al.final) refl
          (wrote_known (length first) given t.asked.task.asked t.held.task.released t.held.task.lent t.own.context known (Fold op) c refl))

      pub by_tick : Own (judged_act t.own line (tick_fault t.own.context) Ticked) → Acts (judged_act t.free line (tick_fault t.free.context) Ticked) → m ≡ held_nest t rest ch → Nests Ask.Tick line m
      by_tick hp hf b =
          let k = judged_goes t.free line (tick_fault t.free.context) Ticked (act_now (free_run P order first fuel) l.freely.body) (sym hf) alive in
          let a : Own Ticked = own_act line (tick_fault t.own.context) Ticked hp (tick_alike al ∙ k.0) in
          let w : Acts Ticked = sym k.1 in
          let x : Context = record (t.own.context) { ticks = t.own.context.ticks + 1 } in
          let x2 : Context = record (t.free.context) { ticks = t.free.context.ticks + 1 } in
          by_same Ask.Tick line t.held.task m b
          (plain P order first fuel z y t rest l r Ask.Tick Ticked Ticked 0 l.cells t.held.task ca ch counts a w
          (led P (start P order first fuel) first t.own (owns rest) l.cells l.owned Ticked a (λ h. h))
          (led (free_run P order first fuel) (start P order first fuel) first t.free (frees rest) l.cells l.freely Ticked w (λ h. h))
          (λ o. refl) (more_alike 0 x x2 al (ap (λ (k : ℕ). k + 1) al.ticks) al.fuel al.created al.depth al.final) refl
          (counted_known (length first) given t.asked.task.asked t.held.task.released t.held.task.lent t.own.context x refl known))

      pub by_wait : Own Waited → Acts Waited → m ≡ with_acting (with_lent nothing_lent t.held.task) (held_nest t rest ch) → Nests Ask.Wait line m
      by_wait a w b =
          by_same Ask.Wait line (with_lent nothing_lent t.held.task) m b
          (plain P order first fuel z y t rest l r Ask.Wait Waited Waited 0 l.cells (with_lent nothing_lent t.held.task) ca ch counts a w
          (led P (start P order first fuel) first t.own (owns rest) l.cells l.owned Waited a (λ h. h))
          (led (free_run P order first fuel) (start P order first fuel) first t.free (frees rest) l.cells l.freely Waited w (λ h. h))
          (λ o. refl) (more_alike 0 (waited t.own.context) (waited t.free.context) al al.ticks al.fuel al.created al.depth al.final) refl
          (waited_known (length first) given t.asked.task.asked t.held.task.released t.held.task.lent t.own.context known))

      pub by_print : (text key other : List ℕ) → Own (Printed key text) → Acts (Printed other text) → m ≡ held_nest t rest ch → Nests (Ask.Print text) line m
      by_print text key other a w b =
          by_same (Ask.Print text) line t.held.task m b
          (plain P order first fuel z y t rest l r (Ask.Print text) (Printed key text) (Printed other text) 0 l.cells t.held.task ca ch counts a w
          (led P (start P order first fuel) first t.own (owns rest) l.cells l.owned (Printed key text) a (λ h. h))
          (led (free_run P order first fuel) (start P order first fuel) first t.free (frees rest) l.cells l.freely (Printed other text) w (λ h. h))
          (λ o. refl) (more_alike 0 t.own.context t.free.context al al.ticks al.fuel al.created al.depth al.final) refl known)

      pub by_wait_on : (named : List Access) → AreWithin (length first) named → Own (judged_act t.own line (wait_on_fault t.own.context named) (WaitedOn named)) → Acts (WaitedOn [])
          → IsDirective (in_clauses named) line (waits_on named) (held_nest t rest ch) m → AskedFated e (behind_ask t.free (Ask.WaitOn named) line (asked_nest t rest ca)) → Nests (Ask.WaitOn named) line m
      by_wait_on named inside hp w b fa =
          let d = directed (in_clauses named) line (waits_on named) m (λ h. refl) b fh in
          let more : Asked = waits (map range_of named) t.asked.task.asked in
          let none = wait_none (length first) given t.asked.task.asked t.held.task.released t.held.task.lent t.own.context known named inside d.kept (λ c i. covers (waits (map range_of named)) fa c (below c i)) in
          let a : Own (WaitedOn named) = own_act line (wait_on_fault t.own.context named) (WaitedOn named) hp none in
          let lent = waited_for (in_clauses named) t.held.task.lent in
          by_same (Ask.WaitOn named) line (waits_on named t.held.task) m d.nest
          (plain P order first fuel z y t rest l r (Ask.WaitOn named) (WaitedOn named) (WaitedOn []) 0 l.cells (waits_on named t.held.task) ca ch counts a w
          (led P (start P order first fuel) first t.own (owns rest) l.cells l.owned (WaitedOn named) a (λ h. h))
          (led (free_run P order first fuel) (start P order first fuel) first t.free (frees rest) l.cells l.freely (WaitedOn []) w (λ h. h))
          (λ o. refl) (more_alike 0 (waited_on named t.own.context) (waited_on [] t.free.context) al al.ticks al.fuel al.created al.depth al.final) refl
          (asked_known (length first) given t.asked.task.asked more t.held.task.released lent (waited_on named t.own.context) (λ c i. waits_valued (map range_of named) t.asked.task.asked c)
          (waited_on_known (length first) given t.asked.task.asked t.held.task.released t.held.task.lent t.own.context known named)))

      pub by_release : (clauses : List Access) (p q : Bool) → AreWithin (length first) clauses → Own (judged_act t.own line (release_fault t.own.context clauses) (Releases clauses p)) → Acts (Releases [] q)
          → IsDirective (in_clauses clauses) line (releases clauses) (held_nest t rest ch) m → AskedFated e (behind_ask t.free (Ask.Release clauses) line (asked_nest t rest ca)) → Nests (Ask.Release clauses) line m
      by_release clauses p q inside hp w b fa =
          let d = directed (in_clauses clauses) line (releases clauses) m (λ h. refl) b fh in
          let more : Asked = asks_released clauses t.asked.task.asked in
          let none = release_none (length first) given t.asked.task.asked t.held.task.released t.held.task.lent t.own.context known clauses inside d.kept (λ c i. covers (asks_released clauses) fa c (below c i)) in
          let a : Own (Releases clauses p) = own_act line (release_fault t.own.context clauses) (Releases clauses p) hp none in
          let gone = λ (c : ℕ). in_clauses clauses c || t.held.task.released c in
          by_same (Ask.Release clauses) line (releases clauses t.held.task) m d.nest
          (plain P order first fuel z y t rest l r (Ask.Release clauses) (Releases clauses p) (Releases [] q) 0 l.cells (releases clauses t.held.task) ca ch counts a w
          (led P (start P order first fuel) first t.own (owns rest) l.cells l.owned (Releases clauses p) a (λ h. h))
          (led (free_run P order first fuel) (start P order first fuel) first t.free (frees rest) l.cells l.freely (Releases [] q) w (λ h. h))
          (λ o. refl) (more_alike 0 (release clauses t.own.context) (release [] t.free.context) al al.ticks al.fuel al.created al.depth al.final) refl
          (asked_known (length first) given t.asked.task.asked more gone t.held.task.lent (release clauses t.own.context) (λ c i. releases_valued clauses t.asked.task.asked c)
          (release_known (length first) given t.asked.task.asked t.held.task.released t.held.task.lent t.own.context known clauses)))
