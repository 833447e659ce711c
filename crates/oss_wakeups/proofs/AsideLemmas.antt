-- Turns of one task at a time, while others stand aside.
use Rattle.std.proofs.Common.{◌≡◌, ℕ, ◌+◌, ◌<◌, ◌≤◌, ◌⊎◌, inl, inr, refl, sym, ap, ◌∙◌, subst, arith, List, [], ◌∷◌, ◌++◌, append_assoc, length, drop, get_or, Bool, false, true, Some}
use Rattle.std.specs.Prelude.{◌↔◌, IsTrue, slice_get, Vec}
use Rattle.std.specs.declared.alloc.Global.{Global}
use Rattle.std.proofs.lemmas.List.{append-nil, drop_all, drop_more}
use Rattle.oss_model.specs.Order.{IsIn, here}
use Rattle.oss_model.specs.declared.task_no.TaskNo.{TaskNo}
use Rattle.oss_code.specs.declared.code.CodeParts.{CodeParts}
use Rattle.oss_tree.specs.Tasks.{number}
use Rattle.oss_tree.proofs.ListLemmas.{get_set_other, get_set_same, there_is, which}
use Rattle.oss_core.specs.declared.passing.Passed.{Passed}
use Rattle.oss_core.specs.declared.turns.Turn.{Turn}
use Rattle.oss_core.specs.Awake.{HaveGivers, IsStill}
use Rattle.oss_core.specs.Hindered.{IsHindered}
use Rattle.oss_core.specs.Kept.{IsRunning, Kept}
use Rattle.oss_core.specs.Leaving.{HasTurn}
use Rattle.oss_core.specs.PointOrder.{AreInPointOrder}
use Rattle.oss_core.specs.Ordering.{AreOnce}
use Rattle.oss_core.proofs.AwakeLemmas.{rest_is_still}
use Rattle.oss_core.proofs.SteppersLemmas.{in_cases, in_either, in_front, in_rest, in_with, in_without}
use Rattle.oss_core.proofs.TreeFacts.{kept_within, sizes}
use Rattle.oss_wakeups.specs.declared.watch.Watch.{Watch}
use Rattle.oss_wakeups.specs.Asides.{AreFree, AreIdle, AreWatchedBut, CanAct, HasSetAside, HasTaken, IsSetAside, IsWatchBut, StoodAside, acts, rests}
use Rattle.oss_wakeups.specs.Watches.{HasNoLet, HasRested, IsAboveEnded, IsAbovePassed, IsPassOf, IsWatch, IsWaveOf, MaySleep, lets_go, sleeps, spent, stays, watches}
use Rattle.oss_wakeups.specs.Watching.{HasGrown, HasSorted, HasWatched, HasWoken, IsApart, IsAsleep, IsWatching}
use Rattle.oss_wakeups.proofs.KeptLemmas.{hindered_may_not, hindered_passed, hindered_still, hindered_waved, spent_may_not, spent_passed, spent_still, spent_waved, still_passed, still_waved}
use Rattle.oss_wakeups.proofs.ListLemmas.{not_in, once_last, once_without, order_without}
use Rattle.oss_wakeups.proofs.RoundLemmas.{slept_sorted, sorted_apart, watching_sorted}
use Rattle.oss_wakeups.proofs.WakingLemmas.{size_set}

-- all that are awake, and none aside
pub all_awake : (aside : ℕ → Type 0) (k : Kept) (w : Watch) → IsWatch k w → IsWatchBut aside k w
all_awake aside k w a = record { apart = a.apart; size = a.size; ordered = a.ordered; all = λ v l. go v (a.all v l) }
  where
    go : (v : ℕ) → IsIn (number v) w.awake.items ⊎ MaySleep k w v → IsIn (number v) w.awake.items ⊎ (MaySleep k w v ⊎ (aside v × IsStill k v))
    go v (inl i) = inl i
    go v (inr s) = inr (inl s)

-- who is not still is awake
pub aside_givers : (aside : ℕ → Type 0) (k : Kept) (w : Watch) → IsWatchBut aside k w → HaveGivers k w.awake.items
aside_givers aside k w a = record { ordered = a.ordered; there = λ v i. subst (λ (n : ℕ). v.0 < n) a.size (a.apart.there v i); all = λ v l. go v (a.all v l) }
  where
    asleep : (v : ℕ) → MaySleep k w v → IsStill k v
    asleep v (spent s) = spent_still k v s
    asleep v (watches u h s sl wt) = s

    go : (v : ℕ) → IsIn (number v) w.awake.items ⊎ (MaySleep k w v ⊎ (aside v × IsStill k v)) → IsIn (number v) w.awake.items ⊎ IsStill k v
    go v (inl i) = inl i
    go v (inr (inl s)) = inr (asleep v s)
    go v (inr (inr s)) = inr s.1

-- a task is taken
module _ (task : TaskNo) (old new : Watch) (h : HasTaken task old new) (inside : task.0 < length old.asleep.items) where
  pub taken_size : length new.asleep.items ≡ length old.asleep.items
  taken_size = ap length h.asleep ∙ size_set old.asleep.items task.0 false

  pub taken_watchers : length new.watchers.items ≡ length old.watchers.items
  taken_watchers = ap length h.watchers

  flag : (v : ℕ) → (v ≡ task.0 → ⊥) → slice_get new.asleep.items v ≡ slice_get old.asleep.items v
  flag v n = ap (λ (bs : List Bool). slice_get bs v) h.asleep ∙ get_set_other old.asleep.items task.0 v false n

  own : slice_get new.asleep.items task.0 ≡ Some false
  own = let t = there_is old.asleep.items task.0 inside in ap (λ (bs : List Bool). slice_get bs task.0) h.asleep ∙ get_set_same old.asleep.items task.0 t.0 false t.1

  never : Some true ≡ Some false → ⊥
  never e = cc

  pub taken_kept : (v : TaskNo) → IsIn v old.awake.items → IsIn v new.awake.items
  taken_kept v i = subst (IsIn v) (sym h.awake) (in_front old.awake.items (task ∷ []) i)

  pub taken_is : IsIn task new.awake.items
  taken_is = subst (IsIn task) (sym h.awake) (in_rest old.awake.items (task ∷ []) here)

  pub taken_apart : (IsIn task old.awake.items → ⊥) → IsApart old → IsApart new
  taken_apart n a = record {
    sizes = taken_watchers ∙ (a.sizes ∙ sym taken_size);
    once = subst AreOnce (sym h.awake) (once_last old.awake.items task a.once n);
    there = λ v i. subst (λ (m : ℕ). v.0 < m) (sym taken_size) (within v (cases v i));
    up = λ v i s. up v (which v.0 task.0) (cases v i) s;
  }
    where
      one : (v : TaskNo) → (v ≡ task) ⊎ IsIn v [] → v.0 ≡ task.0
      one v (inl e) = ap (λ (t : TaskNo). t.0) e
      one v (inr i) = elim i [ ]

      two : (v : TaskNo) → IsIn v old.awake.items ⊎ IsIn v (task ∷ []) → IsIn v old.awake.items ⊎ (v.0 ≡ task.0)
      two v (inl i) = inl i
      two v (inr i) = inr (one v (in_cases i))

      cases : (v : TaskNo) → IsIn v new.awake.items → IsIn v old.awake.items ⊎ (v.0 ≡ task.0)
      cases v i = two v (in_either old.awake.items (task ∷ []) (subst (IsIn v) h.awake i))

      within : (v : TaskNo) → IsIn v old.awake.items ⊎ (v.0 ≡ task.0) → v.0 < length old.asleep.items
      within v (inl i) = a.there v i
      within v (inr e) = subst (λ (m : ℕ). m < length old.asleep.items) (sym e) inside

      up : (v : TaskNo) → (v.0 ≡ task.0) ⊎ (v.0 ≡ task.0 → ⊥) → IsIn v old.awake.items ⊎ (v.0 ≡ task.0) → IsAsleep new v.0 → ⊥
      up v (inl e) c s = never (sym (subst (λ (m : ℕ). slice_get new.asleep.items m ≡ Some true) e s) ∙ own)
      up v (inr m) (inl i) s = a.up v i (sym (flag v.0 m) ∙ s)
      up v (inr m) (inr e) s = m e

  pub taken_sleeps : (v u : ℕ) → (v ≡ task.0 → ⊥) → IsWatching old v u → IsAsleep old v → IsWatching new v u × IsAsleep new v
  taken_sleeps v u n w s = (record { list = w.list; at_ = ap (λ (ls : List (Vec TaskNo Global)). slice_get ls u) h.watchers ∙ w.at_; listed = w.listed }, flag v n ∙ s)

-- who is still and had no turn is so behind a wave
still_beside : {old new : Kept} (turn : Turn) → IsWaveOf (turn ∷ []) old new → (v : ℕ) → (v ≡ turn.task.0 → ⊥) → v < length old.tasks → IsStill old v → IsStill new v
still_beside {old = old} turn wave v n l s = record { held = s.held; is = wave.wave.turned.held v l none ∙ s.is; still = s.still }
  where
    last : (t : Turn) → (t ≡ turn) ⊎ IsIn t [] → t.task.0 ≡ turn.task.0
    last t (inl e) = ap (λ (x : Turn). x.task.0) e
    last t (inr i) = elim i [ ]

    none : HasTurn (turn ∷ []) v → ⊥
    none h = n (sym h.task ∙ last h.one (in_cases h.listed))

-- behind a turn
module _ {code other : CodeParts} {old new : Kept} (turn : Turn) (ran : IsRunning code old) (running : IsRunning other new) (wave : IsWaveOf (turn ∷ []) old new) (o a b c d : Watch) (was : IsSetAside old o) (inside : turn.task.0 < length o.asleep.items) (taken : HasTaken turn.task o a)
    (grown : HasGrown (length new.tree.tasks) a b) (woken : HasWoken (IsAboveEnded new.tree.tasks (turn ∷ [])) b c) (sorted : HasSorted new.tree.tasks c d) where
  abbrev Placed : ℕ → Type 0
  Placed v = IsIn (number v) d.awake.items ⊎ (MaySleep new d v ⊎ (StoodAside old turn.task.0 v × IsStill new v))

  kept : (v : TaskNo) → IsIn v a.awake.items → IsIn v d.awake.items
  kept v i = sorted.awake.all v (woken.kept v (grown.kept v i))

  goes_on : (v u : ℕ) → IsHindered old v u × IsStill old v → IsIn (number v) c.awake.items ⊎ ((IsAboveEnded new.tree.tasks (turn ∷ []) u → ⊥) × IsWatching c v u × IsAsleep c v) → Placed v
  goes_on v u h (inl i) = inl (sorted.awake.all (number v) i)
  goes_on v u h (inr m) =
      inr (inl (watches u (hindered_waved (turn ∷ []) ran running wave v u h.0 m.0) (still_waved (turn ∷ []) ran running wave v u h.0 h.1) (slept_sorted new.tree.tasks c d sorted v m.2) (watching_sorted new.tree.tasks c d sorted v u m.1)))

  own_turn : (v : ℕ) → v ≡ turn.task.0 → Placed v
  own_turn v e = inl (kept (number v) (subst (λ (n : ℕ). IsIn (number n) a.awake.items) (sym e) (taken_is turn.task o a taken inside)))

  told : (v : ℕ) → v < length old.tree.tasks → (v ≡ turn.task.0) ⊎ (v ≡ turn.task.0 → ⊥) → IsIn (number v) o.awake.items ⊎ (MaySleep old o v ⊎ (CanAct old v × IsStill old v)) → Placed v
  told v l (inl e) p = own_turn v e
  told v l (inr n) (inl i) = inl (kept (number v) (taken_kept turn.task o a taken inside (number v) i))
  told v l (inr n) (inr (inl (spent s))) = inr (inl (spent (spent_waved (turn ∷ []) ran running wave v s)))
  told v l (inr n) (inr (inl (watches u h s sl wt))) = let t = taken_sleeps turn.task o a taken inside v u n wt sl in let g = grown.sleeps v u t.0 t.1 in goes_on v u (h, s) (woken.sleeps v u g.0 g.1)
  told v l (inr n) (inr (inr (can, s))) = inr (inr ((can, n), still_beside turn wave v n (subst (λ (m : ℕ). v < m) (sizes ran.core) l) s))

  pub behind_turn : (IsIn turn.task o.awake.items → ⊥) → IsWatchBut (StoodAside old turn.task.0) new d
  behind_turn idle = record {
    apart = sorted_apart new.tree.tasks c d sorted (woken.size ∙ grown.size) (woken.apart (grown.apart (taken_apart turn.task o a taken inside idle was.watch.apart)));
    size = ap length sorted.asleep ∙ (woken.size ∙ grown.size);
    ordered = sorted.awake.ordered;
    all = λ v l. all v l (known v);
  }
    where
      known : (v : ℕ) → (v < length old.tree.tasks) ⊎ (length old.tree.tasks ≤ v)
      known v = grind arith

      all : (v : ℕ) → v < length new.tree.tasks → (v < length old.tree.tasks) ⊎ (length old.tree.tasks ≤ v) → Placed v
      all v l (inl m) = told v m (which v turn.task.0) (was.watch.all v m)
      all v l (inr m) = inl (sorted.awake.all (number v) (woken.kept (number v) (grown.fresh v (subst (λ (n : ℕ). n ≤ v) (sym (taken_size turn.task o a taken inside ∙ was.watch.size)) m) l)))

-- behind a pass
module _ {code other : CodeParts} {old new : Kept} (passed : List Passed) (ran : IsRunning code old) (running : IsRunning other new) (pass : IsPassOf passed old new) (aside : ℕ → Type 0) (a c d : Watch) (was : IsWatchBut aside old a)
    (woken : HasWoken (IsAbovePassed new.tree.tasks passed) a c) (sorted : HasSorted new.tree.tasks c d) where
  abbrev Left : ℕ → Type 0
  Left v = IsIn (number v) d.awake.items ⊎ (MaySleep new d v ⊎ (aside v × IsStill new v))

  size_gifts : length c.asleep.items ≡ length new.tree.tasks
  size_gifts = woken.size ∙ (was.size ∙ sym pass.tasks.size)

  passes_on : (v u : ℕ) → IsHindered old v u × IsStill old v → IsIn (number v) c.awake.items ⊎ ((IsAbovePassed new.tree.tasks passed u → ⊥) × IsWatching c v u × IsAsleep c v) → Left v
  passes_on v u h (inl i) = inl (sorted.awake.all (number v) i)
  passes_on v u h (inr m) = inr (inl (watches u (hindered_passed passed ran running pass v u h.0 m.0) (still_passed passed ran running pass v h.1) (slept_sorted new.tree.tasks c d sorted v m.2) (watching_sorted new.tree.tasks c d sorted v u m.1)))

  left : (v : ℕ) → IsIn (number v) a.awake.items ⊎ (MaySleep old a v ⊎ (aside v × IsStill old v)) → Left v
  left v (inl i) = inl (sorted.awake.all (number v) (woken.kept (number v) i))
  left v (inr (inl (spent s))) = inr (inl (spent (spent_passed passed ran running pass v s)))
  left v (inr (inl (watches u h s sl wt))) = passes_on v u (h, s) (woken.sleeps v u wt sl)
  left v (inr (inr s)) = inr (inr (s.0, still_passed passed ran running pass v s.1))

  pub behind_gifts : IsWatchBut aside new d
  behind_gifts = record {
    apart = sorted_apart new.tree.tasks c d sorted size_gifts (woken.apart was.apart);
    size = ap length sorted.asleep ∙ size_gifts;
    ordered = sorted.awake.ordered;
    all = λ v l. left v (was.all v (subst (λ (n : ℕ). v < n) pass.tasks.size l));
  }

-- one of those that were awake is set aside, sleeps, is let go or stays awake
module _ (k : Kept) (quiet : HasNoLet k) (aside later : ℕ → Type 0) (more : (v : ℕ) → aside v → later v) (task : TaskNo) (rest : List TaskNo) (old new : Watch) (a : AreWatchedBut aside k (old.awake.items ++ task ∷ rest) old) where
  abbrev Away : Watch → ℕ → Type 0
  Away w v = MaySleep k w v ⊎ (later v × IsStill k v)

  away : (w : Watch) → ((v : ℕ) → MaySleep k old v → MaySleep k w v) → (v : ℕ) → MaySleep k old v ⊎ (aside v × IsStill k v) → Away w v
  away w others v (inl s) = inl (others v s)
  away w others v (inr s) = inr (more v s.0, s.1)

  -- all but the task
  fewer : (w : Watch) → (IsIn task (old.awake.items ++ rest) → ⊥) → Away w task.0 → ((v : ℕ) → MaySleep k old v → MaySleep k w v) → length w.asleep.items ≡ length old.asleep.items → length w.watchers.items ≡ length old.watchers.items → ((v : ℕ) → (v ≡ task.0 → ⊥) → IsAsleep w v → IsAsleep old v)
      → AreWatchedBut later k (old.awake.items ++ rest) w
  fewer w gone own others size watchers back = record {
    apart = record {
      sizes = watchers ∙ (a.apart.sizes ∙ sym size);
      once = once_without old.awake.items task rest a.apart.once;
      there = λ v i. subst (λ (n : ℕ). v.0 < n) (sym size) (a.apart.there v (in_with old.awake.items task rest i));
      up = λ v i s. a.apart.up v (in_with old.awake.items task rest i) (back v.0 (λ e. gone (subst (λ (n : ℕ). IsIn (number n) (old.awake.items ++ rest)) e i)) s);
    };
    size = size ∙ a.size;
    ordered = order_without k.tree.tasks old.awake.items task rest a.ordered;
    all = λ v l. all v (a.all v l);
  }
    where
      out : (v : ℕ) → (number v ≡ task) ⊎ IsIn (number v) (old.awake.items ++ rest) → IsIn (number v) (old.awake.items ++ rest) ⊎ Away w v
      out v (inl e) = inr (subst (λ (t : TaskNo). Away w t.0) (sym e) own)
      out v (inr i) = inl i

      all : (v : ℕ) → IsIn (number v) (old.awake.items ++ task ∷ rest) ⊎ (MaySleep k old v ⊎ (aside v × IsStill k v)) → IsIn (number v) (old.awake.items ++ rest) ⊎ Away w v
      all v (inl i) = out v (in_without old.awake.items task rest i)
      all v (inr s) = inr (away w others v s)

  gone_now : IsIn task (old.awake.items ++ rest) → ⊥
  gone_now = not_in old.awake.items task rest a.apart.once

  asleep_still : (other : TaskNo) → HasWatched task other old new → (v : ℕ) → MaySleep k old v → MaySleep k new v
  asleep_still other w v (spent s) = spent s
  asleep_still other w v (watches u h s sl wt) = watches u h s (w.others v sl) (w.still v u wt)

  pub goes_aside : CanAct k task.0 → later task.0 → new ≡ old → AreWatchedBut later k (new.awake.items ++ rest) new
  goes_aside can is e = subst (λ (w : Watch). AreWatchedBut later k (w.awake.items ++ rest) w) (sym e)
      (fewer old gone_now (inr (is, rest_is_still k task.0 can.held can.is can.goes.running (quiet task.0))) (λ v m. m) refl refl (λ v n m. m))

  pub goes_to_rest : HasRested k task old new → AreWatchedBut later k (new.awake.items ++ rest) new
  goes_to_rest (lets_go s e) = subst (λ (w : Watch). AreWatchedBut later k (w.awake.items ++ rest) w) (sym e) (fewer old gone_now (inl (spent s)) (λ v m. m) refl refl (λ v n m. m))
  goes_to_rest (sleeps other h w) = subst (λ (xs : List TaskNo). AreWatchedBut later k (xs ++ rest) new) (sym w.awake)
      (fewer new gone_now (inl (watches other.0 h (hindered_still k task.0 other.0 quiet h) w.sleeps w.watching)) (asleep_still other w) w.size w.watchers_size w.back)
  goes_to_rest (stays left awake asleep watchers) = record {
    apart = record {
      sizes = ap length watchers ∙ (a.apart.sizes ∙ sym (ap length asleep));
      once = subst AreOnce same a.apart.once;
      there = λ v i. subst (λ (n : ℕ). v.0 < n) (sym (ap length asleep)) (a.apart.there v (subst (IsIn v) (sym same) i));
      up = λ v i s. a.apart.up v (subst (IsIn v) (sym same) i) (sym (ap (λ (bs : List Bool). slice_get bs v.0) asleep) ∙ s);
    };
    size = ap length asleep ∙ a.size;
    ordered = subst (AreInPointOrder k.tree.tasks) same a.ordered;
    all = λ v l. all v (a.all v l);
  }
    where
      same : old.awake.items ++ task ∷ rest ≡ new.awake.items ++ rest
      same = sym (append_assoc old.awake.items (task ∷ []) rest) ∙ ap (λ (xs : List TaskNo). xs ++ rest) (sym awake)

      still : (v : ℕ) → MaySleep k old v → MaySleep k new v
      still v (spent s) = spent s
      still v (watches u h s sl wt) = watches u h s (ap (λ (bs : List Bool). slice_get bs v) asleep ∙ sl) (record { list = wt.list; at_ = ap (λ (ls : List (Vec TaskNo Global)). slice_get ls u) watchers ∙ wt.at_; listed = wt.listed })

      all : (v : ℕ) → IsIn (number v) (old.awake.items ++ task ∷ rest) ⊎ (MaySleep k old v ⊎ (aside v × IsStill k v)) → IsIn (number v) (new.awake.items ++ rest) ⊎ Away new v
      all v (inl i) = inl (subst (IsIn (number v)) same i)
      all v (inr s) = inr (away new still v s)

-- who stood aside, and who is set aside now
abbrev pub AreAside : (ℕ → Type 0) → List TaskNo → ℕ → Type 0
AreAside aside free v = aside v ⊎ IsIn (number v) free

-- how far the list of those that were awake is looked at
abbrev pub HasComeTo : Kept → Watch → List TaskNo → List TaskNo → Watch → Type 0
HasComeTo k first left free w = (from : Kept) (task : ℕ) → IsWatchBut (StoodAside from task) k first → AreWatchedBut (AreAside (StoodAside from task) free) k (w.awake.items ++ left) w

pub comes_on : (k : Kept) → HasNoLet k → (awake : List TaskNo) (i : ℕ) (d : TaskNo) → i < length awake → (before after : List TaskNo) (first old new : Watch) → HasComeTo k first (drop i awake) before old → HasSetAside k (get_or awake i d) before after old new → HasComeTo k first (drop (i + 1) awake) after new
comes_on k quiet awake i d l before after first old new come set_ from t was = go set_
  where
    task : TaskNo
    task = get_or awake i d

    a : AreWatchedBut (AreAside (StoodAside from t) before) k (old.awake.items ++ task ∷ drop (i + 1) awake) old
    a = subst (λ (xs : List TaskNo). AreWatchedBut (AreAside (StoodAside from t) before) k (old.awake.items ++ xs) old) (drop_more awake i d l) (come from t was)

    more : (xs : List TaskNo) → xs ≡ before ++ task ∷ [] → (v : ℕ) → AreAside (StoodAside from t) before v → AreAside (StoodAside from t) xs v
    more xs e v (inl s) = inl s
    more xs e v (inr m) = inr (subst (IsIn (number v)) (sym e) (in_front before (task ∷ []) m))

    same : after ≡ before → (v : ℕ) → AreAside (StoodAside from t) before v → AreAside (StoodAside from t) after v
    same e v s = subst (λ (xs : List TaskNo). AreAside (StoodAside from t) xs v) (sym e) s

    go : HasSetAside k task before after old new → AreWatchedBut (AreAside (StoodAside from t) after) k (new.awake.items ++ drop (i + 1) awake) new
    go (acts can e f) = goes_aside k quiet (AreAside (StoodAside from t) before) (AreAside (StoodAside from t) after) (more after e) task (drop (i + 1) awake) old new a can (inr (subst (IsIn task) (sym e) (in_rest before (task ∷ []) here))) f
    go (rests none e r) = goes_to_rest k quiet (AreAside (StoodAside from t) before) (AreAside (StoodAside from t) after) (same e) task (drop (i + 1) awake) old new a r

-- all that were awake are to be looked at
pub comes_first : (k : Kept) (old new : Watch) (front all free : List TaskNo) → new.asleep.items ≡ old.asleep.items → new.watchers.items ≡ old.watchers.items → new.awake.items ≡ [] → all ≡ old.awake.items → HasComeTo k old all free new
comes_first k old new front all free asleep watchers e f from t was = subst (λ (xs : List TaskNo). AreWatchedBut (AreAside (StoodAside from t) free) k xs new) (sym (ap (λ (xs : List TaskNo). xs ++ all) e ∙ f)) (record {
  apart = record {
    sizes = ap length watchers ∙ (was.apart.sizes ∙ sym (ap length asleep));
    once = was.apart.once;
    there = λ v i. subst (λ (n : ℕ). v.0 < n) (sym (ap length asleep)) (was.apart.there v i);
    up = λ v i s. was.apart.up v i (sym (ap (λ (bs : List Bool). slice_get bs v.0) asleep) ∙ s);
  };
  size = ap length asleep ∙ was.size;
  ordered = was.ordered;
  all = λ v l. go v (was.all v l);
})
  where
    go : (v : ℕ) → IsIn (number v) old.awake.items ⊎ (MaySleep k old v ⊎ (StoodAside from t v × IsStill k v)) → IsIn (number v) old.awake.items ⊎ (MaySleep k new v ⊎ (AreAside (StoodAside from t) free v × IsStill k v))
    go v (inl i) = inl i
    go v (inr (inl (spent s))) = inr (inl (spent s))
    go v (inr (inl (watches u h s sl wt))) = inr (inl (watches u h s (ap (λ (bs : List Bool). slice_get bs v) asleep ∙ sl) (record { list = wt.list; at_ = ap (λ (ls : List (Vec TaskNo Global)). slice_get ls u) watchers ∙ wt.at_; listed = wt.listed })))
    go v (inr (inr s)) = inr (inr (inl s.0, s.1))

-- the next of them is a task of the tree
pub come_there : (k : Kept) (awake free : List TaskNo) (i : ℕ) (d : TaskNo) → i < length awake → (first w : Watch) → HasComeTo k first (drop i awake) free w → (from : Kept) (t : ℕ) → IsWatchBut (StoodAside from t) k first → (get_or awake i d).0 < length k.tree.tasks
come_there k awake free i d l first w come from t was =
    let a = come from t was in
    subst (λ (n : ℕ). (get_or awake i d).0 < n) a.size (a.apart.there (get_or awake i d) (in_rest w.awake.items (drop i awake) (subst (IsIn (get_or awake i d)) (sym (drop_more awake i d l)) here)))

-- none of those that stay awake can act, and each of the others that were set aside can
pub idle_next : (k : Kept) (task : TaskNo) (before after : List TaskNo) (old new : Watch) → AreIdle k old.awake.items → HasSetAside k task before after old new → AreIdle k new.awake.items
idle_next k task before after old new s (acts can e f) = subst (λ (w : Watch). AreIdle k w.awake.items) (sym f) s
idle_next k task before after old new s (rests none e (lets_go x f)) = subst (λ (w : Watch). AreIdle k w.awake.items) (sym f) s
idle_next k task before after old new s (rests none e (sleeps other h w)) = subst (AreIdle k) (sym w.awake) s
idle_next k task before after old new s (rests none e (stays left awake asleep watchers)) = subst (AreIdle k) (sym awake) (λ v i. either v (in_either old.awake.items (task ∷ []) i))
  where
    last : (v : TaskNo) → (v ≡ task) ⊎ IsIn v [] → CanAct k v.0 → ⊥
    last v (inl f) c = none (subst (λ (t : TaskNo). CanAct k t.0) f c)
    last v (inr i) c = elim i [ ]

    either : (v : TaskNo) → IsIn v old.awake.items ⊎ IsIn v (task ∷ []) → CanAct k v.0 → ⊥
    either v (inl i) = s v i
    either v (inr i) = last v (in_cases i)

pub free_next : (k : Kept) (task : TaskNo) (before after : List TaskNo) (old new : Watch) → AreFree k before → HasSetAside k task before after old new → AreFree k after
free_next k task before after old new s (rests none e r) = subst (AreFree k) (sym e) s
free_next k task before after old new s (acts can e f) = subst (AreFree k) (sym e) (λ v i. either v (in_either before (task ∷ []) i))
  where
    last : (v : TaskNo) → (v ≡ task) ⊎ IsIn v [] → CanAct k v.0
    last v (inl g) = subst (λ (t : TaskNo). CanAct k t.0) (sym g) can
    last v (inr i) = elim i [ ]

    either : (v : TaskNo) → IsIn v before ⊎ IsIn v (task ∷ []) → CanAct k v.0
    either v (inl i) = s v i
    either v (inr i) = last v (in_cases i)

pub none_idle : (k : Kept) (awake : List TaskNo) → awake ≡ [] → AreIdle k awake
none_idle k awake e v i = elim (subst (IsIn v) e i) [ ]

pub none_free : (k : Kept) (free : List TaskNo) → free ≡ [] → AreFree k free
none_free k free e v i = elim (subst (IsIn v) e i) [ ]

-- all of them are looked at
all_come : (k : Kept) (awake free : List TaskNo) (i : ℕ) → length awake ≤ i → (first w : Watch) → HasComeTo k first (drop i awake) free w → (from : Kept) (t : ℕ) → IsWatchBut (StoodAside from t) k first → IsWatchBut (AreAside (StoodAside from t) free) k w
all_come k awake free i l first w come from t was = subst (λ (xs : List TaskNo). AreWatchedBut (AreAside (StoodAside from t) free) k xs w) (ap (λ (xs : List TaskNo). w.awake.items ++ xs) (drop_all i awake l) ∙ append-nil w.awake.items) (come from t was)

-- who can act was set aside, or stood aside
pub all_aside : {code : CodeParts} (k : Kept) → IsRunning code k → (awake free : List TaskNo) (i : ℕ) → length awake ≤ i → (first w : Watch) → HasComeTo k first (drop i awake) free w → AreIdle k w.awake.items
    → (from : Kept) (t v : ℕ) → IsWatchBut (StoodAside from t) k first → CanAct k v → IsIn (number v) free ⊎ StoodAside from t v
all_aside k running awake free i l first w come idle from t v was can = go ((all_come k awake free i l first w come from t was).all v (subst (λ (n : ℕ). v < n) (sym (sizes running.core)) (kept_within running.core v can.held can.is)))
  where
    asleep : MaySleep k w v → ⊥
    asleep (spent s) = spent_may_not k v s can
    asleep (watches u h s sl wt) = hindered_may_not running v u h can

    go : IsIn (number v) w.awake.items ⊎ (MaySleep k w v ⊎ (AreAside (StoodAside from t) free v × IsStill k v)) → IsIn (number v) free ⊎ StoodAside from t v
    go (inl i) = absurd (idle (number v) i can)
    go (inr (inl s)) = absurd (asleep s)
    go (inr (inr (inl s, q))) = inr s
    go (inr (inr (inr m, q))) = inl m

-- between turns again
pub set_all_aside : (k : Kept) (awake free : List TaskNo) (i : ℕ) → length awake ≤ i → (first w : Watch) → HasComeTo k first (drop i awake) free w → AreIdle k w.awake.items → AreFree k free
    → (from : Kept) (t : ℕ) → IsWatchBut (StoodAside from t) k first → ((v : ℕ) → StoodAside from t v → CanAct k v) → IsSetAside k w
set_all_aside k awake free i l first w come idle are_free from t was can =
    let a = all_come k awake free i l first w come from t was in
    record { watch = record { apart = a.apart; size = a.size; ordered = a.ordered; all = λ v m. go v (a.all v m) }; idle = idle }
  where
    either : (v : ℕ) → AreAside (StoodAside from t) free v → CanAct k v
    either v (inl s) = can v s
    either v (inr m) = are_free (number v) m

    go : (v : ℕ) → IsIn (number v) w.awake.items ⊎ (MaySleep k w v ⊎ (AreAside (StoodAside from t) free v × IsStill k v)) → IsIn (number v) w.awake.items ⊎ (MaySleep k w v ⊎ (CanAct k v × IsStill k v))
    go v (inl i) = inl i
    go v (inr (inl s)) = inr (inl s)
    go v (inr (inr s)) = inr (inr (either v s.0, s.1))

-- a test that fails
pub cannot : (P : Type 0) (test : Bool) → (IsTrue test ↔ P) → test ≡ false → P → ⊥
cannot P test is none p = never (sym (is.1 p) ∙ none)
  where
    never : true ≡ false → ⊥
    never e = cc

-- sizes while the tasks are looked at
pub come_sizes : (k : Kept) (left free : List TaskNo) (first w : Watch) → HasComeTo k first left free w → (from : Kept) (t : ℕ) → IsWatchBut (StoodAside from t) k first → (length w.asleep.items ≡ length k.tree.tasks) × (length w.watchers.items ≡ length k.tree.tasks)
come_sizes k left free first w come from t was = let a = come from t was in (a.size, a.apart.sizes ∙ a.size)
