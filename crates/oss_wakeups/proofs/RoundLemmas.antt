-- Who is awake behind a wave and behind a pass; and that those who may do something are.
use Rattle.std.proofs.Common.{◌≡◌, ℕ, ◌<◌, ◌≤◌, ◌⊎◌, inl, inr, refl, sym, ap, ◌∙◌, subst, arith, List, [], ◌∷◌, length, Bool, Some}
use Rattle.std.specs.Prelude.{slice_get, Vec}
use Rattle.std.specs.declared.alloc.Global.{Global}
use Rattle.oss_model.specs.Order.{IsIn, here, there}
use Rattle.oss_model.proofs.OrderLemmas.{before_not}
use Rattle.oss_model.specs.declared.task_no.TaskNo.{TaskNo}
use Rattle.oss_code.specs.declared.code.CodeParts.{CodeParts}
use Rattle.oss_tree.specs.declared.task.Task.{Task as TreeTask}
use Rattle.oss_tree.specs.Tasks.{HasPoint, number}
use Rattle.oss_tree.proofs.ListLemmas.{there_is}
use Rattle.oss_enabled_moves.specs.Enabled.{MayStep}
use Rattle.oss_core.specs.declared.passing.Passed.{Passed}
use Rattle.oss_core.specs.declared.turns.Turn.{Turn}
use Rattle.oss_core.specs.Awake.{HaveGivers, HaveSteppers, IsStill}
use Rattle.oss_core.specs.Hindered.{IsHindered}
use Rattle.oss_core.specs.Kept.{IsRunning, Kept}
use Rattle.oss_core.specs.PointOrder.{AreInPointOrder}
use Rattle.oss_core.specs.Ordering.{AreOnce}
use Rattle.oss_core.proofs.TreeFacts.{kept_within, sizes}
use Rattle.oss_wakeups.specs.declared.watch.Watch.{Watch}
use Rattle.oss_wakeups.specs.Watches.{IsAboveEnded, IsAbovePassed, IsPassOf, IsWatch, IsWaveOf, MaySleep, spent, watches}
use Rattle.oss_wakeups.specs.Watching.{HasGrown, HasSorted, HasWoken, IsApart, IsAsleep, IsWatching}
use Rattle.oss_wakeups.proofs.KeptLemmas.{hindered_may_not, hindered_passed, hindered_waved, spent_may_not, spent_passed, spent_still, spent_waved, still_passed, still_waved}

-- tasks in point order stand there once
pub once_in_order : (tasks : List TreeTask) (list : List TaskNo) → ((v : TaskNo) → IsIn v list → v.0 < length tasks) → AreInPointOrder tasks list → AreOnce list
once_in_order tasks [] inside o = tt
once_in_order tasks (v ∷ rest) inside o = (λ i. twice i (there_is tasks v.0 (inside v here)), once_in_order tasks rest (λ w i. inside w (there i)) o.1)
  where
    twice : IsIn v rest → (x : TreeTask) × (slice_get tasks v.0 ≡ Some x) → ⊥
    twice i (x, e) =
        let p : HasPoint tasks v.0 x.point = record { task = x; at_ = e; point = refl } in
        before_not (o.0 v i x.point x.point p p) refl

-- who may step is awake
pub has_steppers : {code : CodeParts} {k : Kept} → IsRunning code k → (w : Watch) → IsWatch k w → HaveSteppers k w.awake.items
has_steppers {k = k} running w a = record {
  ordered = a.ordered;
  there = λ v i. subst (λ (n : ℕ). v.0 < n) a.size (a.apart.there v i);
  all = λ v may. go v may (a.all v (subst (λ (n : ℕ). v < n) (sym (sizes running.core)) (kept_within running.core v may.held may.is)));
}
  where
    asleep : (v : ℕ) → MayStep k.tasks k.tree.tasks k.seen v → MaySleep k w v → ⊥
    asleep v may (spent s) = spent_may_not k v s may
    asleep v may (watches u h s sl wt) = hindered_may_not running v u h may

    go : (v : ℕ) → MayStep k.tasks k.tree.tasks k.seen v → IsIn (number v) w.awake.items ⊎ MaySleep k w v → IsIn (number v) w.awake.items
    go v may (inl i) = i
    go v may (inr s) = absurd (asleep v may s)

-- and who is not still
pub has_givers : (k : Kept) (w : Watch) → IsWatch k w → HaveGivers k w.awake.items
has_givers k w a = record { ordered = a.ordered; there = λ v i. subst (λ (n : ℕ). v.0 < n) a.size (a.apart.there v i); all = λ v l. go v (a.all v l) }
  where
    asleep : (v : ℕ) → MaySleep k w v → IsStill k v
    asleep v (spent s) = spent_still k v s
    asleep v (watches u h s sl wt) = s

    go : (v : ℕ) → IsIn (number v) w.awake.items ⊎ MaySleep k w v → IsIn (number v) w.awake.items ⊎ IsStill k v
    go v (inl i) = inl i
    go v (inr s) = inr (asleep v s)

-- lists in another order
pub sorted_apart : (tasks : List TreeTask) (old new : Watch) → HasSorted tasks old new → length old.asleep.items ≡ length tasks → IsApart old → IsApart new
sorted_apart tasks old new h size a = record {
  sizes = ap length h.watchers ∙ (a.sizes ∙ sym (ap length h.asleep));
  once = once_in_order tasks new.awake.items (λ v i. subst (λ (n : ℕ). v.0 < n) size (a.there v (h.awake.only v i))) h.awake.ordered;
  there = λ v i. subst (λ (n : ℕ). v.0 < n) (sym (ap length h.asleep)) (a.there v (h.awake.only v i));
  up = λ v i s. a.up v (h.awake.only v i) (sym (ap (λ (bs : List Bool). slice_get bs v.0) h.asleep) ∙ s);
}

pub slept_sorted : (tasks : List TreeTask) (old new : Watch) → HasSorted tasks old new → (v : ℕ) → IsAsleep old v → IsAsleep new v
slept_sorted tasks old new h v s = ap (λ (bs : List Bool). slice_get bs v) h.asleep ∙ s

pub watching_sorted : (tasks : List TreeTask) (old new : Watch) → HasSorted tasks old new → (v u : ℕ) → IsWatching old v u → IsWatching new v u
watching_sorted tasks old new h v u w = record { list = w.list; at_ = ap (λ (ls : List (Vec TaskNo Global)). slice_get ls u) h.watchers ∙ w.at_; listed = w.listed }

-- nobody is awake where nobody is known
pub empty_apart : (empty : Watch) → empty.awake.items ≡ [] → empty.asleep.items ≡ [] → empty.watchers.items ≡ [] → IsApart empty
empty_apart empty awake asleep watchers = record {
  sizes = ap length watchers ∙ sym (ap length asleep);
  once = subst AreOnce (sym awake) tt;
  there = λ v i. absurd (nobody v i);
  up = λ v i. absurd (nobody v i);
}
  where
    nobody : (v : TaskNo) → IsIn v empty.awake.items → ⊥
    nobody v i = elim (subst (IsIn v) awake i) [ ]

-- all tasks are awake at first
pub begins : (k : Kept) (empty grown sorted : Watch) → empty.awake.items ≡ [] → empty.asleep.items ≡ [] → empty.watchers.items ≡ [] → HasGrown (length k.tree.tasks) empty grown → HasSorted k.tree.tasks grown sorted → IsWatch k sorted
begins k empty grown sorted awake asleep watchers g s = record {
  apart = sorted_apart k.tree.tasks grown sorted s g.size (g.apart (empty_apart empty awake asleep watchers));
  size = ap length s.asleep ∙ g.size;
  ordered = s.awake.ordered;
  all = λ v l. inl (s.awake.all (number v) (g.fresh v (let e : length empty.asleep.items ≡ 0 = ap length asleep in omega (arith, e)) l));
}

-- behind a wave
module _ {code other : CodeParts} {old new : Kept} (turns : List Turn) (ran : IsRunning code old) (running : IsRunning other new) (wave : IsWaveOf turns old new) (a b c d : Watch) (was : IsWatch old a) (grown : HasGrown (length new.tree.tasks) a b)
    (woken : HasWoken (IsAboveEnded new.tree.tasks turns) b c) (sorted : HasSorted new.tree.tasks c d) where
  size_woken : length c.asleep.items ≡ length new.tree.tasks
  size_woken = woken.size ∙ grown.size

  kept : (v : TaskNo) → IsIn v a.awake.items → IsIn v d.awake.items
  kept v i = sorted.awake.all v (woken.kept v (grown.kept v i))

  goes_on : (v u : ℕ) → IsHindered old v u × IsStill old v → IsIn (number v) c.awake.items ⊎ ((IsAboveEnded new.tree.tasks turns u → ⊥) × IsWatching c v u × IsAsleep c v) → IsIn (number v) d.awake.items ⊎ MaySleep new d v
  goes_on v u h (inl i) = inl (sorted.awake.all (number v) i)
  goes_on v u h (inr m) = inr (watches u (hindered_waved turns ran running wave v u h.0 m.0) (still_waved turns ran running wave v u h.0 h.1) (slept_sorted new.tree.tasks c d sorted v m.2) (watching_sorted new.tree.tasks c d sorted v u m.1))

  sleeps : (v : ℕ) → MaySleep old a v → IsIn (number v) d.awake.items ⊎ MaySleep new d v
  sleeps v (spent s) = inr (spent (spent_waved turns ran running wave v s))
  sleeps v (watches u h s sl wt) = let g = grown.sleeps v u wt sl in goes_on v u (h, s) (woken.sleeps v u g.0 g.1)

  pub behind_wave : IsWatch new d
  behind_wave = record {
    apart = sorted_apart new.tree.tasks c d sorted size_woken (woken.apart (grown.apart was.apart));
    size = ap length sorted.asleep ∙ size_woken;
    ordered = sorted.awake.ordered;
    all = λ v l. all v l (known v);
  }
    where
      known : (v : ℕ) → (v < length old.tree.tasks) ⊎ (length old.tree.tasks ≤ v)
      known v = grind arith

      told : (v : ℕ) → IsIn (number v) a.awake.items ⊎ MaySleep old a v → IsIn (number v) d.awake.items ⊎ MaySleep new d v
      told v (inl i) = inl (kept (number v) i)
      told v (inr s) = sleeps v s

      all : (v : ℕ) → v < length new.tree.tasks → (v < length old.tree.tasks) ⊎ (length old.tree.tasks ≤ v) → IsIn (number v) d.awake.items ⊎ MaySleep new d v
      all v l (inl m) = told v (was.all v m)
      all v l (inr m) = inl (sorted.awake.all (number v) (woken.kept (number v) (grown.fresh v (subst (λ (n : ℕ). n ≤ v) (sym was.size) m) l)))

-- behind a pass
module _ {code other : CodeParts} {old new : Kept} (passed : List Passed) (ran : IsRunning code old) (running : IsRunning other new) (pass : IsPassOf passed old new) (a c d : Watch) (was : IsWatch old a)
    (woken : HasWoken (IsAbovePassed new.tree.tasks passed) a c) (sorted : HasSorted new.tree.tasks c d) where
  size_passed : length c.asleep.items ≡ length new.tree.tasks
  size_passed = woken.size ∙ (was.size ∙ sym pass.tasks.size)

  passes_on : (v u : ℕ) → IsHindered old v u × IsStill old v → IsIn (number v) c.awake.items ⊎ ((IsAbovePassed new.tree.tasks passed u → ⊥) × IsWatching c v u × IsAsleep c v) → IsIn (number v) d.awake.items ⊎ MaySleep new d v
  passes_on v u h (inl i) = inl (sorted.awake.all (number v) i)
  passes_on v u h (inr m) = inr (watches u (hindered_passed passed ran running pass v u h.0 m.0) (still_passed passed ran running pass v h.1) (slept_sorted new.tree.tasks c d sorted v m.2) (watching_sorted new.tree.tasks c d sorted v u m.1))

  told_passed : (v : ℕ) → IsIn (number v) a.awake.items ⊎ MaySleep old a v → IsIn (number v) d.awake.items ⊎ MaySleep new d v
  told_passed v (inl i) = inl (sorted.awake.all (number v) (woken.kept (number v) i))
  told_passed v (inr (spent s)) = inr (spent (spent_passed passed ran running pass v s))
  told_passed v (inr (watches u h s sl wt)) = passes_on v u (h, s) (woken.sleeps v u wt sl)

  pub behind_pass : IsWatch new d
  behind_pass = record {
    apart = sorted_apart new.tree.tasks c d sorted size_passed (woken.apart was.apart);
    size = ap length sorted.asleep ∙ size_passed;
    ordered = sorted.awake.ordered;
    all = λ v l. told_passed v (was.all v (subst (λ (n : ℕ). v < n) pass.tasks.size l));
  }
