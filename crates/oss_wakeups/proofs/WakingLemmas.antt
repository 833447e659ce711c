-- Waking: one after the other, those of a list, and those on the way up from a task.
use Rattle.std.proofs.Common.{◌≡◌, ℕ, zero, suc, ◌+◌, ◌<◌, ◌⊎◌, inl, inr, refl, sym, ap, ◌∙◌, subst, arith, rules, List, [], ◌∷◌, ◌++◌, length, Bool, true, false, Option, Some, None}
use Rattle.std.specs.Prelude.{slice_get, slice_set, Vec}
use Rattle.std.specs.declared.alloc.Global.{Global}
use Rattle.std.proofs.lemmas.Option.{slice_get_within}
use Rattle.oss_model.specs.Order.{IsIn, here}
use Rattle.oss_model.specs.declared.task_no.TaskNo.{TaskNo}
use Rattle.oss_tree.specs.declared.task.Task.{Task as TreeTask}
use Rattle.oss_tree.specs.Tasks.{IsTree, number}
use Rattle.oss_tree.proofs.ListLemmas.{get_set_other, get_set_same, none_some, some_is, which}
use Rattle.oss_core.specs.Ordering.{AreOnce}
use Rattle.oss_core.proofs.SteppersLemmas.{in_cases, in_either, in_front, in_rest}
use Rattle.oss_wakeups.proofs.ListLemmas.{once_last}
use Rattle.oss_wakeups.specs.declared.watch.Watch.{Watch}
use Rattle.oss_wakeups.specs.Watching.{HasWoken, HasWokenOf, IsApart, IsAsleep, IsAtOrAbove, IsAtOrAboveOne, IsPassed, IsWatching, above, itself}

never : true ≡ false → ⊥
never e = cc

pub size_set : {A : Type 0} (xs : List A) (i : ℕ) (x : A) → length (slice_set xs i x) ≡ length xs
size_set xs i x = search rules

-- nobody was woken
pub woken_none : (w : Watch) → HasWokenOf [] w w
woken_none w = record { watchers = refl; size = refl; apart = λ a. a; kept = λ v i. i; woken = λ v i s. elim i [ ]; still = λ v s. inr s }

-- a task that does not sleep stays as it is
pub woken_awake : (task : TaskNo) (w : Watch) → (IsAsleep w task.0 → ⊥) → HasWokenOf (task ∷ []) w w
woken_awake task w up = record { watchers = refl; size = refl; apart = λ a. a; kept = λ v i. i; woken = λ v i s. absurd (same v (in_cases i) s); still = λ v s. inr s }
  where
    same : (v : TaskNo) → (v ≡ task) ⊎ IsIn v [] → IsAsleep w v.0 → ⊥
    same v (inl e) s = up (subst (λ (t : TaskNo). IsAsleep w t.0) e s)
    same v (inr i) s = elim i [ ]

-- one that sleeps is awake, behind the others
pub woken_up : (task : TaskNo) (old new : Watch) → IsAsleep old task.0 → new.asleep.items ≡ slice_set old.asleep.items task.0 false → new.awake.items ≡ old.awake.items ++ task ∷ [] → new.watchers.items ≡ old.watchers.items → HasWokenOf (task ∷ []) old new
woken_up task old new sleeps asleep awake watchers = record {
  watchers = watchers;
  size = size;
  apart = apart;
  kept = λ v i. subst (IsIn v) (sym awake) (in_front old.awake.items (task ∷ []) i);
  woken = λ v i s. last v (in_cases i);
  still = λ v s. still v (which v task.0) s;
}
  where
    flag : (v : ℕ) → (v ≡ task.0 → ⊥) → slice_get new.asleep.items v ≡ slice_get old.asleep.items v
    flag v n = ap (λ (bs : List Bool). slice_get bs v) asleep ∙ get_set_other old.asleep.items task.0 v false n

    own : slice_get new.asleep.items task.0 ≡ Some false
    own = ap (λ (bs : List Bool). slice_get bs task.0) asleep ∙ get_set_same old.asleep.items task.0 true false sleeps

    size : length new.asleep.items ≡ length old.asleep.items
    size = ap length asleep ∙ size_set old.asleep.items task.0 false

    up : (v : ℕ) → (v ≡ task.0) ⊎ (v ≡ task.0 → ⊥) → (IsAsleep old v → ⊥) ⊎ (v ≡ task.0) → IsAsleep new v → ⊥
    up v (inl e) h s = never (some_is (subst (λ (n : ℕ). slice_get new.asleep.items n ≡ Some true) e s) own)
    up v (inr n) (inl h) s = h (sym (flag v n) ∙ s)
    up v (inr n) (inr e) s = n e

    last : (v : TaskNo) → (v ≡ task) ⊎ IsIn v [] → IsIn v new.awake.items
    last v (inl e) = subst (λ (t : TaskNo). IsIn t new.awake.items) (sym e) (subst (IsIn task) (sym awake) (in_rest old.awake.items (task ∷ []) here))
    last v (inr i) = elim i [ ]

    still : (v : ℕ) → (v ≡ task.0) ⊎ (v ≡ task.0 → ⊥) → IsAsleep old v → IsIn (number v) new.awake.items ⊎ IsAsleep new v
    still v (inl e) s = inl (last (number v) (inl (ap number e)))
    still v (inr n) s = inr (flag v n ∙ s)

    apart : IsApart old → IsApart new
    apart a = record {
      sizes = ap length watchers ∙ (a.sizes ∙ sym size);
      once = subst AreOnce (sym awake) (once_last old.awake.items task a.once (λ i. a.up task i sleeps));
      there = λ v i. subst (λ (n : ℕ). v.0 < n) (sym size) (inside v (in_either old.awake.items (task ∷ []) (subst (IsIn v) awake i)));
      up = λ v i. up v.0 (which v.0 task.0) (was v (in_either old.awake.items (task ∷ []) (subst (IsIn v) awake i)));
    }
      where
        same : (v : TaskNo) → (v ≡ task) ⊎ IsIn v [] → v.0 ≡ task.0
        same v (inl e) = ap (λ (t : TaskNo). t.0) e
        same v (inr i) = elim i [ ]

        was : (v : TaskNo) → IsIn v old.awake.items ⊎ IsIn v (task ∷ []) → (IsAsleep old v.0 → ⊥) ⊎ (v.0 ≡ task.0)
        was v (inl i) = inl (a.up v i)
        was v (inr i) = inr (same v (in_cases i))

        inside : (v : TaskNo) → IsIn v old.awake.items ⊎ IsIn v (task ∷ []) → v.0 < length old.asleep.items
        inside v (inl i) = a.there v i
        inside v (inr i) = subst (λ (n : ℕ). n < length old.asleep.items) (sym (same v (in_cases i))) (slice_get_within old.asleep.items task.0 true sleeps)

-- these, and then those
pub woken_then : (xs ys : List TaskNo) (a b c : Watch) → HasWokenOf xs a b → HasWokenOf ys b c → HasWokenOf (xs ++ ys) a c
woken_then xs ys a b c h k = record {
  watchers = k.watchers ∙ h.watchers;
  size = k.size ∙ h.size;
  apart = λ p. k.apart (h.apart p);
  kept = λ v i. k.kept v (h.kept v i);
  woken = λ v i s. woken v (in_either xs ys i) s (h.still v.0 s);
  still = λ v s. still v (h.still v s);
}
  where
    still : (v : ℕ) → IsIn (number v) b.awake.items ⊎ IsAsleep b v → IsIn (number v) c.awake.items ⊎ IsAsleep c v
    still v (inl i) = inl (k.kept (number v) i)
    still v (inr s) = k.still v s

    woken : (v : TaskNo) → IsIn v xs ⊎ IsIn v ys → IsAsleep a v.0 → IsIn (number v.0) b.awake.items ⊎ IsAsleep b v.0 → IsIn v c.awake.items
    woken v (inl i) s more = k.kept v (h.woken v i s)
    woken v (inr i) s (inl m) = k.kept v m
    woken v (inr i) s (inr m) = k.woken v i m

-- the list of those that watch a task is empty, and they were woken
pub woken_watchers : (u : ℕ) (list none : Vec TaskNo Global) (old mid new : Watch) → slice_get old.watchers.items u ≡ Some list → mid.watchers.items ≡ slice_set old.watchers.items u none → mid.asleep.items ≡ old.asleep.items → mid.awake.items ≡ old.awake.items
    → HasWokenOf list.items mid new → HasWoken (λ x. x ≡ u) old new
woken_watchers u list none old mid new at_ watchers asleep awake h = record {
  size = h.size ∙ ap length asleep;
  watchers_size = ap length h.watchers ∙ (ap length watchers ∙ size_set old.watchers.items u none);
  apart = λ a. h.apart (apart a);
  kept = λ v i. h.kept v (subst (IsIn v) (sym awake) i);
  sleeps = λ v x w s. sleeps v x w (which x u) s (h.still v (slept v s));
}
  where
    slept : (v : ℕ) → IsAsleep old v → IsAsleep mid v
    slept v s = ap (λ (bs : List Bool). slice_get bs v) asleep ∙ s

    apart : IsApart old → IsApart mid
    apart a = record {
      sizes = ap length watchers ∙ (size_set old.watchers.items u none ∙ (a.sizes ∙ sym (ap length asleep)));
      once = subst AreOnce (sym awake) a.once;
      there = λ v i. subst (λ (n : ℕ). v.0 < n) (sym (ap length asleep)) (a.there v (subst (IsIn v) awake i));
      up = λ v i s. a.up v (subst (IsIn v) awake i) (sym (ap (λ (bs : List Bool). slice_get bs v.0) asleep) ∙ s);
    }

    moved : (v x : ℕ) → (x ≡ u → ⊥) → IsWatching old v x → IsWatching new v x
    moved v x n w = record { list = w.list; at_ = ap (λ (ls : List (Vec TaskNo Global)). slice_get ls x) (h.watchers ∙ watchers) ∙ (get_set_other old.watchers.items u x none n ∙ w.at_); listed = w.listed }

    sleeps : (v x : ℕ) → IsWatching old v x → (x ≡ u) ⊎ (x ≡ u → ⊥) → IsAsleep old v → IsIn (number v) new.awake.items ⊎ IsAsleep new v → IsIn (number v) new.awake.items ⊎ ((x ≡ u → ⊥) × IsWatching new v x × IsAsleep new v)
    sleeps v x w (inl e) s more = inl (h.woken (number v) (subst (λ (l : Vec TaskNo Global). IsIn (number v) l.items) (some_is (subst (λ (n : ℕ). slice_get old.watchers.items n ≡ Some w.list) e w.at_) at_) w.listed) (slept v s))
    sleeps v x w (inr n) s (inl i) = inl i
    sleeps v x w (inr n) s (inr m) = inr (n, moved v x n w, m)

-- no task was woken for these, where there are none
pub woken_nobody : (these : ℕ → Type 0) (w : Watch) → ((u : ℕ) → these u → ⊥) → HasWoken these w w
woken_nobody these w none = record { size = refl; watchers_size = refl; apart = λ a. a; kept = λ v i. i; sleeps = λ v u x s. inr (none u, x, s) }

-- those that watch these, and then those that watch others
pub woken_both : (these others all : ℕ → Type 0) (a b c : Watch) → ((u : ℕ) → (these u → ⊥) → (others u → ⊥) → all u → ⊥) → HasWoken these a b → HasWoken others b c → HasWoken all a c
woken_both these others all a b c both h k = record {
  size = k.size ∙ h.size;
  watchers_size = k.watchers_size ∙ h.watchers_size;
  apart = λ p. k.apart (h.apart p);
  kept = λ v i. k.kept v (h.kept v i);
  sleeps = λ v u w s. first v u (h.sleeps v u w s);
}
  where
    second : (v u : ℕ) → (these u → ⊥) → IsIn (number v) c.awake.items ⊎ ((others u → ⊥) × IsWatching c v u × IsAsleep c v) → IsIn (number v) c.awake.items ⊎ ((all u → ⊥) × IsWatching c v u × IsAsleep c v)
    second v u n (inl i) = inl i
    second v u n (inr m) = inr (both u n m.0, m.1, m.2)

    first : (v u : ℕ) → IsIn (number v) b.awake.items ⊎ ((these u → ⊥) × IsWatching b v u × IsAsleep b v) → IsIn (number v) c.awake.items ⊎ ((all u → ⊥) × IsWatching c v u × IsAsleep c v)
    first v u (inl i) = inl (k.kept (number v) i)
    first v u (inr m) = second v u m.0 (k.sleeps v u m.1 m.2)

-- the same of fewer
pub woken_fewer : (these all : ℕ → Type 0) (a b : Watch) → ((u : ℕ) → (these u → ⊥) → all u → ⊥) → HasWoken these a b → HasWoken all a b
woken_fewer these all a b fewer h = record { size = h.size; watchers_size = h.watchers_size; apart = h.apart; kept = h.kept; sleeps = λ v u w s. go v u (h.sleeps v u w s) }
  where
    go : (v u : ℕ) → IsIn (number v) b.awake.items ⊎ ((these u → ⊥) × IsWatching b v u × IsAsleep b v) → IsIn (number v) b.awake.items ⊎ ((all u → ⊥) × IsWatching b v u × IsAsleep b v)
    go v u (inl i) = inl i
    go v u (inr m) = inr (fewer u m.0, m.1, m.2)

-- the way up begins: nobody was passed as yet
pub way_begins : (tasks : List TreeTask) (from : TaskNo) (w : Watch) → HasWoken (IsPassed tasks from.0 (Some from)) w w
way_begins tasks from w = woken_nobody (IsPassed tasks from.0 (Some from)) w (λ u p. p.behind p.on_way)

-- one step up
pub way_goes : (tasks : List TreeTask) (from at : ℕ) (one : TreeTask) (a b c : Watch) → slice_get tasks at ≡ Some one → HasWoken (IsPassed tasks from (Some (number at))) a b → HasWoken (λ x. x ≡ at) b c → HasWoken (IsPassed tasks from one.parent) a c
way_goes tasks from at one a b c is h k = woken_both (IsPassed tasks from (Some (number at))) (λ x. x ≡ at) (IsPassed tasks from one.parent) a b c (λ u n m p. n (record { on_way = p.on_way; behind = λ up. here_or u m p.behind up })) h k
  where
    to_one : (o : Option TaskNo) (p u : ℕ) → o ≡ Some (number p) → IsAtOrAbove tasks u p → IsAtOrAboveOne tasks u o
    to_one o p u e up = subst (IsAtOrAboveOne tasks u) (sym e) up

    higher : (u g : ℕ) → g ≡ at → (u ≡ at → ⊥) → IsAtOrAbove tasks u g → IsAtOrAboveOne tasks u one.parent
    higher u g e n itself = absurd (n e)
    higher u g e n (above p other get parent up) = to_one one.parent p u (ap (λ (t : TreeTask). t.parent) (some_is is (subst (λ (x : ℕ). slice_get tasks x ≡ Some other) e get)) ∙ parent) up

    here_or : (u : ℕ) → (u ≡ at → ⊥) → (IsAtOrAboveOne tasks u one.parent → ⊥) → IsAtOrAbove tasks u at → ⊥
    here_or u n behind up = behind (higher u at refl n up)

-- the way has come to its end: all were passed
pub way_ends : (tasks : List TreeTask) (from : ℕ) (a b : Watch) → HasWoken (IsPassed tasks from None) a b → HasWoken (λ u. IsAtOrAbove tasks u from) a b
way_ends tasks from a b h = woken_fewer (IsPassed tasks from None) (λ u. IsAtOrAbove tasks u from) a b (λ u n up. n (record { on_way = up; behind = λ m. m })) h

-- the next on the way, if there is one, is a task of the tree
abbrev pub IsThere : List TreeTask → Option TaskNo → Type 0
IsThere tasks None = Unit {0}
IsThere tasks (Some one) = one.0 < length tasks

-- how many tasks may be left on the way up
abbrev pub levels_left : Option TaskNo → ℕ
levels_left None = 0
levels_left (Some one) = one.0 + 1

-- a creator has a lower number
pub parent_lower : (tasks : List TreeTask) → IsTree tasks → (c : ℕ) (one : TreeTask) → slice_get tasks c ≡ Some one → (o : Option TaskNo) → one.parent ≡ o → IsThere tasks o × (levels_left o < c + 1)
parent_lower tasks tree c one is None e = (tt, omega arith)
parent_lower tasks tree zero one is (Some p) e = absurd (none_some tree.main_parent (ap (λ (t : TreeTask). t.parent) (some_is tree.main_at is) ∙ e))
parent_lower tasks tree (suc c) one is (Some p) e =
    let h = tree.created (suc c) one (omega arith) is in
    let d = tree.children h.number_is h.creator h.at_ h.place (suc c) h.is in
    let q : number h.number_is ≡ p = some_of (sym h.parent ∙ e) in
    let n : h.number_is ≡ p.0 = ap (λ (t : TaskNo). t.0) q in
    let l = d.later in
    let w = slice_get_within tasks h.number_is h.creator h.at_ in
    (omega (arith, n, w), omega (arith, n, l))
  where
    some_of : {x y : TaskNo} → Some x ≡ Some y → x ≡ y
    some_of f = cc

pub next_there : (tasks : List TreeTask) (o : Option TaskNo) (one : TaskNo) → o ≡ Some one → IsThere tasks o → one.0 < length tasks
next_there tasks o one e t = subst (IsThere tasks) e t

pub levels_fall : (tasks : List TreeTask) → IsTree tasks → (at : TaskNo) (one : TreeTask) → slice_get tasks at.0 ≡ Some one → (next : Option TaskNo) → next ≡ Some at → levels_left one.parent < levels_left next
levels_fall tasks tree at one is next e = subst (λ (o : Option TaskNo). levels_left one.parent < levels_left o) (sym e) (parent_lower tasks tree at.0 one is one.parent refl).1

-- one step up, from the next
pub way_on : (tasks : List TreeTask) (from : ℕ) (at : TaskNo) (one : TreeTask) (next : Option TaskNo) (a b c : Watch) → next ≡ Some at → slice_get tasks at.0 ≡ Some one → HasWoken (IsPassed tasks from next) a b → HasWoken (λ x. x ≡ at.0) b c → HasWoken (IsPassed tasks from one.parent) a c
way_on tasks from at one next a b c e is h k = way_goes tasks from at.0 one a b c is (subst (λ (o : Option TaskNo). HasWoken (IsPassed tasks from o) a b) e h) k

pub way_ended : (tasks : List TreeTask) (from : ℕ) (next : Option TaskNo) (a b : Watch) → ((one : TaskNo) → next ≡ Some one → ⊥) → HasWoken (IsPassed tasks from next) a b → HasWoken (λ u. IsAtOrAbove tasks u from) a b
way_ended tasks from None a b n h = way_ends tasks from a b h
way_ended tasks from (Some one) a b n h = absurd (n one refl)
