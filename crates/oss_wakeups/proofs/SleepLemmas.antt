-- A task that goes to sleep.
use Rattle.std.proofs.Common.{◌≡◌, ℕ, ◌<◌, ◌⊎◌, inl, inr, sym, ap, ◌∙◌, subst, List, [], ◌∷◌, ◌++◌, length, Bool, true, Some}
use Rattle.std.specs.Prelude.{slice_get, slice_set, Vec}
use Rattle.std.specs.declared.alloc.Global.{Global}
use Rattle.oss_model.specs.Order.{IsIn, here}
use Rattle.oss_model.specs.declared.task_no.TaskNo.{TaskNo}
use Rattle.oss_tree.specs.Tasks.{number}
use Rattle.oss_tree.proofs.ListLemmas.{get_set_other, get_set_same, some_is, there_is, which}
use Rattle.oss_core.proofs.SteppersLemmas.{in_front, in_rest}
use Rattle.oss_wakeups.specs.declared.watch.Watch.{Watch}
use Rattle.oss_wakeups.specs.Watching.{HasWatched, IsAsleep, IsWatching}
use Rattle.oss_wakeups.proofs.WakingLemmas.{size_set}

pub has_watched : (task other : TaskNo) (old new : Watch) (list : Vec TaskNo Global) → task.0 < length old.asleep.items → new.awake.items ≡ old.awake.items → new.asleep.items ≡ slice_set old.asleep.items task.0 true
    → (before : Vec TaskNo Global) → slice_get old.watchers.items other.0 ≡ Some before → list.items ≡ before.items ++ task ∷ [] → new.watchers.items ≡ slice_set old.watchers.items other.0 list → HasWatched task other old new
has_watched task other old new list inside awake asleep before at_ added watchers = record {
  awake = awake;
  size = ap length asleep ∙ size_set old.asleep.items task.0 true;
  watchers_size = ap length watchers ∙ size_set old.watchers.items other.0 list;
  sleeps = own;
  watching = record { list = list; at_ = set_there; listed = subst (IsIn task) (sym added) (in_rest before.items (task ∷ []) here) };
  others = λ v s. others v (which v task.0) s;
  back = λ v n s. sym (flag v n) ∙ s;
  still = λ v u w. still v u (which u other.0) w;
}
  where
    flag : (v : ℕ) → (v ≡ task.0 → ⊥) → slice_get new.asleep.items v ≡ slice_get old.asleep.items v
    flag v n = ap (λ (bs : List Bool). slice_get bs v) asleep ∙ get_set_other old.asleep.items task.0 v true n

    own : IsAsleep new task.0
    own = let t = there_is old.asleep.items task.0 inside in ap (λ (bs : List Bool). slice_get bs task.0) asleep ∙ get_set_same old.asleep.items task.0 t.0 true t.1

    set_there : slice_get new.watchers.items other.0 ≡ Some list
    set_there = ap (λ (ls : List (Vec TaskNo Global)). slice_get ls other.0) watchers ∙ get_set_same old.watchers.items other.0 before list at_

    others : (v : ℕ) → (v ≡ task.0) ⊎ (v ≡ task.0 → ⊥) → IsAsleep old v → IsAsleep new v
    others v (inl e) s = subst (IsAsleep new) (sym e) own
    others v (inr n) s = flag v n ∙ s

    still : (v u : ℕ) → (u ≡ other.0) ⊎ (u ≡ other.0 → ⊥) → IsWatching old v u → IsWatching new v u
    still v u (inl e) w =
        let same : w.list ≡ before = some_is (subst (λ (n : ℕ). slice_get old.watchers.items n ≡ Some w.list) e w.at_) at_ in
        record {
          list = list;
          at_ = subst (λ (n : ℕ). slice_get new.watchers.items n ≡ Some list) (sym e) set_there;
          listed = subst (IsIn (number v)) (sym added) (in_front before.items (task ∷ []) (subst (λ (l : Vec TaskNo Global). IsIn (number v) l.items) same w.listed));
        }
    still v u (inr n) w = record { list = w.list; at_ = ap (λ (ls : List (Vec TaskNo Global)). slice_get ls u) watchers ∙ (get_set_other old.watchers.items other.0 u list n ∙ w.at_); listed = w.listed }
