-- Two walks over one free run, side by side.
use Rattle.std.proofs.Common.{◌≡◌, refl, sym, subst, ap, ◌∙◌, ℕ, Bool, true, false, List, [], ◌∷◌, length}
use Rattle.std.specs.Prelude.{◌&&◌, ◌==◌, not, if◌then◌else◌, is_some}
use Rattle.oss_model.specs.Bodies.{Ask, Frame, IsHalt, Program, Start, ask_of, stack_from, top_frame}
use Rattle.oss_model.specs.Context.{in_clauses}
use Rattle.oss_model.specs.Rights.{Folds, Reads, Touch, Writes}
use Rattle.oss_model.specs.Machine.{Task, find}
use Rattle.oss_model.specs.Moves.{act_now, opening}
use Rattle.oss_model.specs.Sequence.{IsAtEnd, Running, RunsOn}
use Rattle.oss_freed.specs.Freed.{freed}
use Rattle.oss_lacks.specs.Asking.{Asking, asked_by, asking, behind_ask, created_by, main as main_asking, tell_creator}
use Rattle.oss_lacks.specs.Nests.{Nest, alone, closed, opened, with_acting}
use Rattle.oss_lacks.specs.Walks.{IsActing, Walks, behind}
use Rattle.oss_lacks.specs.Walks.Walks.{opens, runs_on}
use Rattle.oss_missing_waits.specs.Holding.{Holding, hinderer, lent_when, main as main_holding, new_task, releases, touched, waits_on, with_lent}
use Rattle.oss_missing_waits.specs.Waits.{IsBehind, IsBehindAsk, IsBehindIf, IsTouched, Mended, Waits, tell_nothing}
use Rattle.oss_missing_waits.specs.Waits.Waits.{opens as waits_open, runs_on as waits_on_run}
use Rattle.oss_lent_cells.specs.Lent.{nothing_lent}
use Rattle.oss_missing_laws.proofs.ClearLemmas.{lent_told, use_told, wait_told}
use Rattle.oss_missing_laws.proofs.FateLemmas.{IsNumbered, acting_numbered, alone_numbered, closed_numbered, fated_acting, fated_closed, fated_opened, opened_numbered}
use Rattle.oss_missing_laws.proofs.GrowLemmas.{IsMoreAsked, IsMoreTold, asked_later, asked_still, asked_told, behind_more, told_later, told_still}
use Rattle.oss_missing_laws.proofs.LevelLemmas.{AskedFated, Clean, HeldFated, held_told}
use Rattle.oss_missing_laws.proofs.SameLemmas.{IsSame, on_from, on_one, one_task, same_still}

module _ {S : Type 0} (w : Mended) (P : Program S) (main : Start S) (first : List ℕ) where
  -- Both walks come to this stage.
  pub data Pair : Running S → Nest Asking → Nest Holding → Type 0 where
    pair_opens : Pair (record { state = opening main first; active = []; printed = [] }) (alone main_asking) (alone main_holding)
    pair_on : {z y : Running S} {f : Frame S} {n : Nest Asking} {m m2 : Nest Holding} → Pair z n m → IsActing (freed (length first) P) z f → RunsOn (freed (length first) P) z y → IsBehind w P f m m2 → Pair y (behind P f n) m2

  -- From this stage the second walk comes to its end.
  data Onward (end : Running S) (last : Nest Holding) : Running S → Nest Holding → Type 0 where
    there : (z : Running S) (m : Nest Holding) → IsSame (freed (length first) P) z end → m ≡ last → Onward end last z m
    more : (z x : Running S) (f : Frame S) (m m2 : Nest Holding) → IsActing (freed (length first) P) z f → RunsOn (freed (length first) P) z x → IsBehind w P f m m2 → Onward end last x m2 → Onward end last z m

  back : (end : Running S) (last : Nest Holding) {z : Running S} {m : Nest Holding} → Waits w P main first z m → Onward end last z m → Onward end last (record { state = opening main first; active = []; printed = [] }) (alone main_holding)
  back end last waits_open o = o
  back end last (waits_on_run {z = z} {y = y} {f = f} {n = n} {m = m} h a r b) o = back end last h (more z y f n m a r b o)

  -- one task acts
  acts_one : (z y : Running S) (f g : Frame S) → IsSame (freed (length first) P) z y → IsActing (freed (length first) P) z f → IsActing (freed (length first) P) y g → f ≡ g
  acts_one z y f g e a b =
      let t : a.task ≡ b.task = one_task (freed (length first) P) z y a.task b.task e a.at_ b.at_ in
      sym a.acts ∙ ap (λ (x : Task S). top_frame (stack_from (freed (length first) P) x.body.start x.body.found).base (stack_from (freed (length first) P) x.body.start x.body.found).inner) t ∙ b.acts

  acts_from : (z y : Running S) (f : Frame S) → IsSame (freed (length first) P) z y → IsActing (freed (length first) P) y f → IsActing (freed (length first) P) z f
  acts_from z y f e a = record { task = a.task; at_ = e.found z.active ∙ ap (λ (p : List ℕ). find y.state.tasks p) e.active ∙ a.at_; acts = a.acts }

  same_then : (x y z : Running S) → IsSame (freed (length first) P) x y → IsSame (freed (length first) P) y z → IsSame (freed (length first) P) x z
  same_then x y z a b = record { found = λ p. a.found p ∙ b.found p; cells = a.cells ∙ b.cells; active = a.active ∙ b.active; printed = a.printed ∙ b.printed }

  onward_same : (end : Running S) (last : Nest Holding) (y x : Running S) (m : Nest Holding) → IsSame (freed (length first) P) y x → Onward end last x m → Onward end last y m
  onward_same end last y x m e (there x2 m2 s k) = there y m (same_then y x end e s) k
  onward_same end last y x m e (more x2 v f m2 m3 a r b o) = more y v f m m3 (acts_from y x f e a) (on_from (freed (length first) P) y x v e r) b o

  -- a run does not go on from its end
  no_more : (z y end : Running S) → IsSame (freed (length first) P) z end → IsAtEnd (freed (length first) P) end → RunsOn (freed (length first) P) z y → ⊥
  no_more z y end e stop r =
      let t : r.task ≡ stop.task = one_task (freed (length first) P) z end r.task stop.task e r.at_ stop.at_ in
      r.goes (subst (λ (x : Task S). IsHalt (act_now (freed (length first) P) x.body)) (sym t) stop.stops)

  -- The second walk stands at each stage of the first.
  record Beside (end : Running S) (last : Nest Holding) (z : Running S) (n : Nest Asking) : Type 0 where
    nest : Nest Holding
    pair : Pair z n nest
    onward : Onward end last z nest

  forth : (end : Running S) (last : Nest Holding) → IsAtEnd (freed (length first) P) end → Onward end last (record { state = opening main first; active = []; printed = [] }) (alone main_holding)
      → {z : Running S} {n : Nest Asking} → Walks P main first z n → Beside end last z n
  forth end last stop o opens = record { nest = alone main_holding; pair = pair_opens; onward = o }
  forth end last stop o (runs_on {z = z} {y = y} {f = f} {n = n} h a r) = go (forth end last stop o h)
    where
      on : (m : Nest Holding) → Pair z n m → Onward end last z m → Beside end last y (behind P f n)
      on m p (there z2 m2 e k) = absurd (no_more z y end e stop r)
      on m p (more z2 x g m2 m3 c s b k) =
          let e : g ≡ f = acts_one z z g f (same_still (freed (length first) P) z) c a in
          let b2 : IsBehind w P f m m3 = subst (λ (v : Frame S). IsBehind w P v m m3) e b in
          record { nest = m3; pair = pair_on p a r b2; onward = onward_same end last y x m3 (on_one (freed (length first) P) z y x r s) k }

      go : Beside end last z n → Beside end last y (behind P f n)
      go i = on i.nest i.pair i.onward

  pub paired : (z y : Running S) (n : Nest Asking) (m : Nest Holding) → Walks P main first z n → IsAtEnd (freed (length first) P) z → Waits w P main first y m → IsAtEnd (freed (length first) P) y → Pair z n m
  paired z y n m h stop k last = go (forth y m last (back y m k (there y m (same_still (freed (length first) P) y) refl)) h)
    where
      on : (o : Nest Holding) → Pair z n o → Onward y m z o → Pair z n m
      on o p (there z2 o2 e i) = subst (λ (x : Nest Holding). Pair z n x) i p
      on o p (more z2 x f o2 o3 a r b i) = absurd (no_more z x z (same_still (freed (length first) P) z) stop r)

      go : Beside y m z n → Pair z n m
      go i = on i.nest i.pair i.onward

-- what an ask leaves of the numbers
module _ {S : Type 0} (f : Frame S) (line : ℕ) where
  asked_numbered : (q : Ask S) (n : Nest Asking) → IsNumbered n → IsNumbered (behind_ask f q line n)
  asked_numbered (Ask.Create o) n h = opened_numbered (created_by f o line) n h
  asked_numbered Ask.End n h = closed_numbered tell_creator n h
  asked_numbered Ask.Begin n h = acting_numbered (asking (asked_by {S = S} Ask.Begin) n.acting.task) n h
  asked_numbered Ask.Tick n h = acting_numbered (asking (asked_by {S = S} Ask.Tick) n.acting.task) n h
  asked_numbered (Ask.Read c) n h = acting_numbered (asking (asked_by {S = S} (Ask.Read c)) n.acting.task) n h
  asked_numbered (Ask.Write c v) n h = acting_numbered (asking (asked_by {S = S} (Ask.Write c v)) n.acting.task) n h
  asked_numbered (Ask.Fold c op v) n h = acting_numbered (asking (asked_by {S = S} (Ask.Fold c op v)) n.acting.task) n h
  asked_numbered Ask.Await n h = acting_numbered (asking (asked_by {S = S} Ask.Await) n.acting.task) n h
  asked_numbered Ask.Wait n h = acting_numbered (asking (asked_by {S = S} Ask.Wait) n.acting.task) n h
  asked_numbered (Ask.WaitOn named) n h = acting_numbered (asking (asked_by {S = S} (Ask.WaitOn named)) n.acting.task) n h
  asked_numbered (Ask.Release clauses) n h = acting_numbered (asking (asked_by {S = S} (Ask.Release clauses)) n.acting.task) n h
  asked_numbered (Ask.Print text) n h = acting_numbered (asking (asked_by {S = S} (Ask.Print text)) n.acting.task) n h
  asked_numbered (Ask.Fails kind) n h = acting_numbered (asking (asked_by {S = S} (Ask.Fails kind)) n.acting.task) n h

  module _ (e : Clean) where
    on_acting : (q : Ask S) (n : Nest Asking) → AskedFated e (with_acting (asking (asked_by q) n.acting.task) n) → AskedFated e n
    on_acting q n h = fated_acting IsMoreAsked asked_still asked_later tell_creator asked_told e.asked e.asked_main (asking (asked_by q) n.acting.task) n (behind_more q n.acting.task) h

    asked_before : (q : Ask S) (n : Nest Asking) → IsNumbered n → AskedFated e (behind_ask f q line n) → AskedFated e n
    asked_before (Ask.Create o) n k h = fated_opened IsMoreAsked asked_still asked_later tell_creator asked_told e.asked e.asked_main (created_by f o line) n h
    asked_before Ask.End n k h = fated_closed IsMoreAsked asked_still asked_later tell_creator asked_told e.asked e.asked_main n k h
    asked_before Ask.Begin n k h = on_acting Ask.Begin n h
    asked_before Ask.Tick n k h = on_acting Ask.Tick n h
    asked_before (Ask.Read c) n k h = on_acting (Ask.Read c) n h
    asked_before (Ask.Write c v) n k h = on_acting (Ask.Write c v) n h
    asked_before (Ask.Fold c op v) n k h = on_acting (Ask.Fold c op v) n h
    asked_before Ask.Await n k h = on_acting Ask.Await n h
    asked_before Ask.Wait n k h = on_acting Ask.Wait n h
    asked_before (Ask.WaitOn named) n k h = on_acting (Ask.WaitOn named) n h
    asked_before (Ask.Release clauses) n k h = on_acting (Ask.Release clauses) n h
    asked_before (Ask.Print text) n k h = on_acting (Ask.Print text) n h
    asked_before (Ask.Fails kind) n k h = on_acting (Ask.Fails kind) n h

  module _ (w : Mended) where
    turned : (n m : Nest Holding) → m ≡ n → IsNumbered n → IsNumbered m
    turned n m k h = subst (λ (x : Nest Holding). IsNumbered x) (sym k) h

    held_numbered : (q : Ask S) (n m : Nest Holding) → IsBehindAsk w f q line n m → IsNumbered n → IsNumbered m
    held_numbered (Ask.Create o) n m b h =
        let t : Holding = lent_when (o.when && not f.context.final) f.context.created line (w (length n.ended)) b.used in
        turned (opened (new_task (f.context.created ∷ f.path) line (w (length n.ended))) (with_acting t n)) m b.new_is
        (opened_numbered (new_task (f.context.created ∷ f.path) line (w (length n.ended))) (with_acting t n) (acting_numbered t n h))
    held_numbered Ask.End n m b h = turned (closed tell_nothing n) m b (closed_numbered tell_nothing n h)
    held_numbered Ask.Begin n m b h = turned n m b h
    held_numbered Ask.Tick n m b h = turned n m b h
    held_numbered (Ask.Read c) n m b h = turned (with_acting (touched Reads c line b.used) n) m b.new_is (acting_numbered (touched Reads c line b.used) n h)
    held_numbered (Ask.Write c v) n m b h = turned (with_acting (touched Writes c line b.used) n) m b.new_is (acting_numbered (touched Writes c line b.used) n h)
    held_numbered (Ask.Fold c op v) n m b h = turned (with_acting (touched (Folds op) c line b.used) n) m b.new_is (acting_numbered (touched (Folds op) c line b.used) n h)
    held_numbered Ask.Await n m b h = turned n m b h
    held_numbered Ask.Wait n m b h = turned (with_acting (with_lent nothing_lent n.acting.task) n) m b (acting_numbered (with_lent nothing_lent n.acting.task) n h)
    held_numbered (Ask.WaitOn named) n m b h = turned (with_acting (waits_on named b.used) n) m b.new_is (acting_numbered (waits_on named b.used) n h)
    held_numbered (Ask.Release clauses) n m b h = turned (with_acting (releases clauses b.used) n) m b.new_is (acting_numbered (releases clauses b.used) n h)
    held_numbered (Ask.Print text) n m b h = turned n m b h
    held_numbered (Ask.Fails kind) n m b h = turned n m b h

    module _ (e : Clean) where
      same_fated : (n m : Nest Holding) → m ≡ n → HeldFated e m → HeldFated e n
      same_fated n m k h = subst (λ (x : Nest Holding). HeldFated e x) k h

      acted : (t : Holding) (n m : Nest Holding) → m ≡ with_acting t n → (t.told ≡ [] → n.acting.task.told ≡ []) → HeldFated e m → HeldFated e n
      acted t n m k u h =
          let a : IsMoreTold n.acting.task t = record { untold = u } in
          fated_acting IsMoreTold told_still told_later tell_nothing held_told e.held e.held_main t n a (same_fated (with_acting t n) m k h)

      on_touch : (tch : Touch) (c : ℕ) (n m : Nest Holding) → IsTouched tch c line n m → HeldFated e m → HeldFated e n
      on_touch tch c n m b h =
          acted (touched tch c line b.used) n m b.new_is
          (λ k. use_told (λ d. c == d) line n.acting.task b.used b.use_is (wait_told tch c line (hinderer (b.used.has c) tch (b.used.lent c)) b.used k)) h

      held_before : (q : Ask S) (n m : Nest Holding) → IsNumbered n → IsBehindAsk w f q line n m → HeldFated e m → HeldFated e n
      held_before (Ask.Create o) n m k b h =
          let child : Holding = new_task (f.context.created ∷ f.path) line (w (length n.ended)) in
          let t : Holding = lent_when (o.when && not f.context.final) f.context.created line (w (length n.ended)) b.used in
          acted t n (with_acting t n) refl
          (λ u. use_told (λ d. is_some (w (length n.ended) d)) line n.acting.task b.used b.use_is (sym (lent_told (o.when && not f.context.final) f.context.created line (w (length n.ended)) b.used) ∙ u))
          (fated_opened IsMoreTold told_still told_later tell_nothing held_told e.held e.held_main child (with_acting t n) (same_fated (opened child (with_acting t n)) m b.new_is h))
      held_before Ask.End n m k b h = fated_closed IsMoreTold told_still told_later tell_nothing held_told e.held e.held_main n k (same_fated (closed tell_nothing n) m b h)
      held_before Ask.Begin n m k b h = same_fated n m b h
      held_before Ask.Tick n m k b h = same_fated n m b h
      held_before (Ask.Read c) n m k b h = on_touch Reads c n m b h
      held_before (Ask.Write c v) n m k b h = on_touch Writes c n m b h
      held_before (Ask.Fold c op v) n m k b h = on_touch (Folds op) c n m b h
      held_before Ask.Await n m k b h = same_fated n m b h
      held_before Ask.Wait n m k b h = acted (with_lent nothing_lent n.acting.task) n m b (λ u. u) h
      held_before (Ask.WaitOn named) n m k b h = acted (waits_on named b.used) n m b.new_is (λ u. use_told (in_clauses named) line n.acting.task b.used b.use_is u) h
      held_before (Ask.Release clauses) n m k b h = acted (releases clauses b.used) n m b.new_is (λ u. use_told (in_clauses clauses) line n.acting.task b.used b.use_is u) h
      held_before (Ask.Print text) n m k b h = same_fated n m b h
      held_before (Ask.Fails kind) n m k b h = same_fated n m b h

-- the same behind an act
module _ {S : Type 0} (P : Program S) (f : Frame S) where
  pub act_numbered : (n : Nest Asking) → IsNumbered n → IsNumbered (behind P f n)
  act_numbered n h = go f.awaits
    where
      go : (b : Bool) → IsNumbered (if b then n else behind_ask f (ask_of P f).ask (ask_of P f).line n)
      go true = h
      go false = asked_numbered f (ask_of P f).line (ask_of P f).ask n h

  pub act_fated : (e : Clean) (n : Nest Asking) → IsNumbered n → AskedFated e (behind P f n) → AskedFated e n
  act_fated e n k h = go f.awaits h
    where
      go : (b : Bool) → AskedFated e (if b then n else behind_ask f (ask_of P f).ask (ask_of P f).line n) → AskedFated e n
      go true i = i
      go false i = asked_before f (ask_of P f).line e (ask_of P f).ask n k i

  pub act_held_numbered : (w : Mended) (n m : Nest Holding) → IsBehind w P f n m → IsNumbered n → IsNumbered m
  act_held_numbered w n m b h = go f.awaits b
    where
      go : (x : Bool) → IsBehindIf x w f (ask_of P f).ask (ask_of P f).line n m → IsNumbered m
      go true i = turned f (ask_of P f).line w n m i h
      go false i = held_numbered f (ask_of P f).line w (ask_of P f).ask n m i h

  pub act_held_fated : (w : Mended) (e : Clean) (n m : Nest Holding) → IsNumbered n → IsBehind w P f n m → HeldFated e m → HeldFated e n
  act_held_fated w e n m k b h = go f.awaits b
    where
      go : (x : Bool) → IsBehindIf x w f (ask_of P f).ask (ask_of P f).line n m → HeldFated e n
      go true i = same_fated f (ask_of P f).line w e n m i h
      go false i = held_before f (ask_of P f).line w e (ask_of P f).ask n m k i h

module _ {S : Type 0} (w : Mended) (P : Program S) (main : Start S) (first : List ℕ) where
  pub pair_numbered : {z : Running S} {n : Nest Asking} {m : Nest Holding} → Pair w P main first z n m → IsNumbered n
  pair_numbered pair_opens = alone_numbered main_asking
  pair_numbered (pair_on {f = f} {n = n} p a r b) = act_numbered P f n (pair_numbered p)

  pub pair_held_numbered : {z : Running S} {n : Nest Asking} {m : Nest Holding} → Pair w P main first z n m → IsNumbered m
  pair_held_numbered pair_opens = alone_numbered main_holding
  pair_held_numbered (pair_on {f = f} {m = m} {m2 = m2} p a r b) = act_held_numbered P f w m m2 b (pair_held_numbered p)
