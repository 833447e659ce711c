-- Going to sleep, one after the other.
use Rattle.std.proofs.Common.{◌≡◌, ℕ, ◌+◌, ◌<◌, ◌≤◌, ◌⊎◌, inl, inr, refl, sym, ap, ◌∙◌, subst, List, [], ◌∷◌, ◌++◌, append_assoc, length, drop, get_or, Bool, false, true}
use Rattle.std.specs.Prelude.{◌↔◌, IsTrue, slice_get, Vec}
use Rattle.std.specs.declared.alloc.Global.{Global}
use Rattle.std.proofs.lemmas.List.{append-nil, drop_all, drop_more}
use Rattle.oss_model.specs.Order.{IsIn, here}
use Rattle.oss_model.specs.declared.task_no.TaskNo.{TaskNo}
use Rattle.oss_tree.specs.Tasks.{number}
use Rattle.oss_core.specs.Hindered.{IsSpent}
use Rattle.oss_core.specs.Kept.{Kept}
use Rattle.oss_core.specs.PointOrder.{AreInPointOrder}
use Rattle.oss_core.specs.Ordering.{AreOnce}
use Rattle.oss_core.proofs.SteppersLemmas.{in_cases, in_either, in_rest, in_with, in_without}
use Rattle.oss_wakeups.specs.declared.watch.Watch.{Watch}
use Rattle.oss_wakeups.specs.Watches.{AreWatched, HasNoLet, HasRested, IsWatch, MaySleep, lets_go, sleeps, spent, stays, watches, StayAwake, StaysAwake}
use Rattle.oss_wakeups.specs.Watching.{HasWatched, IsAsleep}
use Rattle.oss_wakeups.proofs.KeptLemmas.{hindered_still}
use Rattle.oss_wakeups.proofs.ListLemmas.{not_in, once_without, order_without}

module _ (k : Kept) (quiet : HasNoLet k) (task : TaskNo) (rest : List TaskNo) (old new : Watch) (a : AreWatched k (old.awake.items ++ task ∷ rest) old) where
  -- who slept sleeps
  asleep_still : (other : TaskNo) → HasWatched task other old new → (v : ℕ) → MaySleep k old v → MaySleep k new v
  asleep_still other w v (spent s) = spent s
  asleep_still other w v (watches u h s sl wt) = watches u h s (w.others v sl) (w.still v u wt)

  -- all but the task
  fewer : (w : Watch) → (IsIn task (old.awake.items ++ rest) → ⊥) → MaySleep k w task.0 → ((v : ℕ) → MaySleep k old v → MaySleep k w v) → length w.asleep.items ≡ length old.asleep.items → length w.watchers.items ≡ length old.watchers.items
      → ((v : ℕ) → (v ≡ task.0 → ⊥) → IsAsleep w v → IsAsleep old v) → AreWatched k (old.awake.items ++ rest) w
  fewer w gone own others size sizes back = record {
    apart = record {
      sizes = sizes ∙ (a.apart.sizes ∙ sym size);
      once = once_without old.awake.items task rest a.apart.once;
      there = λ v i. subst (λ (n : ℕ). v.0 < n) (sym size) (a.apart.there v (in_with old.awake.items task rest i));
      up = λ v i s. a.apart.up v (in_with old.awake.items task rest i) (back v.0 (λ e. gone (subst (λ (n : ℕ). IsIn (number n) (old.awake.items ++ rest)) e i)) s);
    };
    size = size ∙ a.size;
    ordered = order_without k.tree.tasks old.awake.items task rest a.ordered;
    all = λ v l. all v (a.all v l);
  }
    where
      out : (v : ℕ) → (number v ≡ task) ⊎ IsIn (number v) (old.awake.items ++ rest) → IsIn (number v) (old.awake.items ++ rest) ⊎ MaySleep k w v
      out v (inl e) = inr (subst (λ (t : TaskNo). MaySleep k w t.0) (sym e) own)
      out v (inr i) = inl i

      all : (v : ℕ) → IsIn (number v) (old.awake.items ++ task ∷ rest) ⊎ MaySleep k old v → IsIn (number v) (old.awake.items ++ rest) ⊎ MaySleep k w v
      all v (inl i) = out v (in_without old.awake.items task rest i)
      all v (inr s) = inr (others v s)

  pub rest_goes : HasRested k task old new → AreWatched k (new.awake.items ++ rest) new
  rest_goes (lets_go s e) = subst (λ (w : Watch). AreWatched k (w.awake.items ++ rest) w) (sym e) (fewer old (not_in old.awake.items task rest a.apart.once) (spent s) (λ v m. m) refl refl (λ v n m. m))
  rest_goes (sleeps other h w) = subst (λ (xs : List TaskNo). AreWatched k (xs ++ rest) new) (sym w.awake)
      (fewer new (not_in old.awake.items task rest a.apart.once) (watches other.0 h (hindered_still k task.0 other.0 quiet h) w.sleeps w.watching) (asleep_still other w) w.size w.watchers_size w.back)
  rest_goes (stays left awake asleep watchers) = record {
    apart = record {
      sizes = ap length watchers ∙ (a.apart.sizes ∙ sym (ap length asleep));
      once = subst AreOnce same a.apart.once;
      there = λ v i. subst (λ (n : ℕ). v.0 < n) (sym (ap length asleep)) (a.apart.there v (subst (IsIn v) (sym same) i));
      up = λ v i s. a.apart.up v (subst (IsIn v) (sym same) i) (sym (ap (λ (bs : List Bool). slice_get bs v.0) asleep) ∙ s);
    };
    size = ap length asleep ∙ a.size;
    ordered = subst (AreInPointOrder k.tree.tasks) same a.ordered;
    all = λ v l. all v (a.all v l);
  }
    where
      same : old.awake.items ++ task ∷ rest ≡ new.awake.items ++ rest
      same = sym (append_assoc old.awake.items (task ∷ []) rest) ∙ ap (λ (xs : List TaskNo). xs ++ rest) (sym awake)

      still : (v : ℕ) → MaySleep k old v → MaySleep k new v
      still v (spent s) = spent s
      still v (watches u h s sl wt) = watches u h s (ap (λ (bs : List Bool). slice_get bs v) asleep ∙ sl) (record { list = wt.list; at_ = ap (λ (ls : List (Vec TaskNo Global)). slice_get ls u) watchers ∙ wt.at_; listed = wt.listed })

      all : (v : ℕ) → IsIn (number v) (old.awake.items ++ task ∷ rest) ⊎ MaySleep k old v → IsIn (number v) (new.awake.items ++ rest) ⊎ MaySleep k new v
      all v (inl i) = inl (subst (IsIn (number v)) same i)
      all v (inr s) = inr (still v s)

-- one more of those that were awake
pub rest_next : (k : Kept) → HasNoLet k → (awake : List TaskNo) (i : ℕ) (d : TaskNo) → i < length awake → (old new : Watch) → AreWatched k (old.awake.items ++ drop i awake) old → HasRested k (get_or awake i d) old new → AreWatched k (new.awake.items ++ drop (i + 1) awake) new
rest_next k quiet awake i d l old new a r = rest_goes k quiet (get_or awake i d) (drop (i + 1) awake) old new (subst (λ (xs : List TaskNo). AreWatched k (old.awake.items ++ xs) old) (drop_more awake i d l) a) r

pub rest_done : (k : Kept) (awake : List TaskNo) (i : ℕ) → length awake ≤ i → (w : Watch) → AreWatched k (w.awake.items ++ drop i awake) w → IsWatch k w
rest_done k awake i l w a = subst (λ (xs : List TaskNo). AreWatched k xs w) (ap (λ (xs : List TaskNo). w.awake.items ++ xs) (drop_all i awake l) ∙ append-nil w.awake.items) a

-- all that were awake are to be looked at
pub rest_begins : (k : Kept) (old new : Watch) (front all : List TaskNo) → IsWatch k old → new.asleep.items ≡ old.asleep.items → new.watchers.items ≡ old.watchers.items → front ≡ [] → all ≡ old.awake.items → AreWatched k (front ++ all) new
rest_begins k old new front all was asleep watchers e f = subst (λ (xs : List TaskNo). AreWatched k xs new) (sym (ap (λ (xs : List TaskNo). xs ++ all) e ∙ f)) (record {
  apart = record {
    sizes = ap length watchers ∙ (was.apart.sizes ∙ sym (ap length asleep));
    once = was.apart.once;
    there = λ v i. subst (λ (n : ℕ). v.0 < n) (sym (ap length asleep)) (was.apart.there v i);
    up = λ v i s. was.apart.up v i (sym (ap (λ (bs : List Bool). slice_get bs v.0) asleep) ∙ s);
  };
  size = ap length asleep ∙ was.size;
  ordered = was.ordered;
  all = λ v l. go v (was.all v l);
})
  where
    go : (v : ℕ) → IsIn (number v) old.awake.items ⊎ MaySleep k old v → IsIn (number v) old.awake.items ⊎ MaySleep k new v
    go v (inl i) = inl i
    go v (inr (spent s)) = inr (spent s)
    go v (inr (watches u h s sl wt)) = inr (watches u h s (ap (λ (bs : List Bool). slice_get bs v) asleep ∙ sl) (record { list = wt.list; at_ = ap (λ (ls : List (Vec TaskNo Global)). slice_get ls u) watchers ∙ wt.at_; listed = wt.listed }))

-- the next of them is a task of the tree
pub rest_there : (k : Kept) (awake : List TaskNo) (i : ℕ) (d : TaskNo) → i < length awake → (w : Watch) → AreWatched k (w.awake.items ++ drop i awake) w → (get_or awake i d).0 < length k.tree.tasks
rest_there k awake i d l w a =
    subst (λ (n : ℕ). (get_or awake i d).0 < n) a.size (a.apart.there (get_or awake i d) (in_rest w.awake.items (drop i awake) (subst (IsIn (get_or awake i d)) (sym (drop_more awake i d l)) here)))

-- who stays awake has nothing that hinders it
pub stay_next : (k : Kept) (task : TaskNo) (old new : Watch) → StayAwake k old.awake.items → HasRested k task old new → StayAwake k new.awake.items
stay_next k task old new s (lets_go x e) = subst (λ (w : Watch). StayAwake k w.awake.items) (sym e) s
stay_next k task old new s (sleeps other h w) = subst (StayAwake k) (sym w.awake) s
stay_next k task old new s (stays left awake asleep watchers) = subst (StayAwake k) (sym awake) (λ v i. either v (in_either old.awake.items (task ∷ []) i))
  where
    last : (v : TaskNo) → (v ≡ task) ⊎ IsIn v [] → StaysAwake k v.0
    last v (inl e) = subst (λ (t : TaskNo). StaysAwake k t.0) (sym e) left
    last v (inr i) = elim i [ ]

    either : (v : TaskNo) → IsIn v old.awake.items ⊎ IsIn v (task ∷ []) → StaysAwake k v.0
    either v (inl i) = s v i
    either v (inr i) = last v (in_cases i)

-- nobody is awake yet
pub stay_begins : (k : Kept) (awake : List TaskNo) → awake ≡ [] → StayAwake k awake
stay_begins k awake e v i = elim (subst (IsIn v) e i) [ ]

-- a test that fails tells that the task is not spent
pub not_spent : (k : Kept) (v : ℕ) (test : Bool) → (IsTrue test ↔ IsSpent k v) → test ≡ false → IsSpent k v → ⊥
not_spent k v test is none s = never (sym (is.1 s) ∙ none)
  where
    never : true ≡ false → ⊥
    never e = cc
