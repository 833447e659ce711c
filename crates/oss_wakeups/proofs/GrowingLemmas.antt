-- New tasks, one after the other.
use Rattle.std.proofs.Common.{◌≡◌, ℕ, ◌+◌, ◌<◌, ◌≤◌, ◌⊎◌, inl, inr, refl, sym, ap, ◌∙◌, subst, arith, List, [], ◌∷◌, length, Bool, true, false, Some}
use Rattle.std.specs.Prelude.{slice_get, Vec}
use Rattle.std.specs.declared.alloc.Global.{Global}
use Rattle.std.proofs.lemmas.Option.{slice_get_within}
use Rattle.oss_model.specs.Order.{IsIn, here}
use Rattle.oss_model.specs.declared.task_no.TaskNo.{TaskNo}
use Rattle.oss_tree.specs.Tasks.{number}
use Rattle.oss_tree.proofs.ListLemmas.{get_added, get_front, longer_by, which}
use Rattle.oss_core.specs.Ordering.{AreOnce}
use Rattle.oss_core.proofs.SteppersLemmas.{in_cases, in_either, in_front, in_rest}
use Rattle.oss_wakeups.proofs.ListLemmas.{once_last}
use Rattle.oss_wakeups.specs.declared.watch.Watch.{Watch}
use Rattle.oss_wakeups.specs.Watching.{HasGrown, IsAdded, IsApart, IsAsleep, IsWatching}

pub grown_none : (w : Watch) → HasGrown (length w.asleep.items) w w
grown_none w = record { size = refl; sizes = λ e. e; apart = λ a. a; kept = λ v i. i; fresh = λ v l m. absurd (omega (arith, l, m)); sleeps = λ v u x s. (x, s) }

pub grown_more : (n : ℕ) (a b c : Watch) → HasGrown n a b → IsAdded (number n) b c → HasGrown (n + 1) a c
grown_more n a b c h d = record {
  size = longer;
  sizes = λ e. ap length d.watchers ∙ (longer_by b.watchers.items d.list ∙ ap (λ (k : ℕ). k + 1) (h.sizes e));
  apart = λ p. apart (h.apart p);
  kept = λ v i. kept v (h.kept v i);
  fresh = λ v l m. fresh v l m (which v n);
  sleeps = λ v u w s. let x = h.sleeps v u w s in (watching v u x.0, slept v x.1);
}
  where
    longer : length c.asleep.items ≡ n + 1
    longer = ap length d.asleep ∙ (longer_by b.asleep.items false ∙ ap (λ (k : ℕ). k + 1) h.size)

    kept : (v : TaskNo) → IsIn v b.awake.items → IsIn v c.awake.items
    kept v i = subst (IsIn v) (sym d.awake) (in_front b.awake.items (number n ∷ []) i)

    fresh : (v : ℕ) → length a.asleep.items ≤ v → v < n + 1 → (v ≡ n) ⊎ (v ≡ n → ⊥) → IsIn (number v) c.awake.items
    fresh v l m (inl e) = subst (λ (k : ℕ). IsIn (number k) c.awake.items) (sym e) (subst (IsIn (number n)) (sym d.awake) (in_rest b.awake.items (number n ∷ []) here))
    fresh v l m (inr k) = kept (number v) (h.fresh v l (grind (arith, m, k)))

    watching : (v u : ℕ) → IsWatching b v u → IsWatching c v u
    watching v u w = record { list = w.list; at_ = ap (λ (ls : List (Vec TaskNo Global)). slice_get ls u) d.watchers ∙ get_front b.watchers.items d.list u w.list w.at_; listed = w.listed }

    slept : (v : ℕ) → IsAsleep b v → IsAsleep c v
    slept v s = ap (λ (bs : List Bool). slice_get bs v) d.asleep ∙ get_front b.asleep.items false v true s

    apart : IsApart b → IsApart c
    apart p = record {
      sizes = ap length d.watchers ∙ (longer_by b.watchers.items d.list ∙ (ap (λ (k : ℕ). k + 1) (p.sizes ∙ h.size) ∙ sym longer));
      once = subst AreOnce (sym d.awake) (once_last b.awake.items (number n) p.once (λ i. let l = p.there (number n) i in let e = h.size in absurd (omega (arith, l, e))));
      there = λ v i. inside v (cases v i);
      up = λ v i s. up v (cases v i) (get_added b.asleep.items false v.0 true (sym (ap (λ (bs : List Bool). slice_get bs v.0) d.asleep) ∙ s));
    }
      where
        one : (v : TaskNo) → (v ≡ number n) ⊎ IsIn v [] → v.0 ≡ n
        one v (inl e) = ap (λ (t : TaskNo). t.0) e
        one v (inr i) = elim i [ ]

        two : (v : TaskNo) → IsIn v b.awake.items ⊎ IsIn v (number n ∷ []) → IsIn v b.awake.items ⊎ (v.0 ≡ n)
        two v (inl i) = inl i
        two v (inr i) = inr (one v (in_cases i))

        cases : (v : TaskNo) → IsIn v c.awake.items → IsIn v b.awake.items ⊎ (v.0 ≡ n)
        cases v i = two v (in_either b.awake.items (number n ∷ []) (subst (IsIn v) d.awake i))

        inside : (v : TaskNo) → IsIn v b.awake.items ⊎ (v.0 ≡ n) → v.0 < length c.asleep.items
        inside v (inl i) = let l = p.there v i in let e = h.size in omega (arith, l, e, longer)
        inside v (inr k) = omega (arith, k, longer)

        never : true ≡ false → ⊥
        never e = cc

        up : (v : TaskNo) → IsIn v b.awake.items ⊎ (v.0 ≡ n) → (slice_get b.asleep.items v.0 ≡ Some true) ⊎ ((v.0 ≡ length b.asleep.items) × (true ≡ false)) → ⊥
        up v m (inr k) = never k.1
        up v (inl i) (inl s) = p.up v i s
        up v (inr e) (inl s) = let l = slice_get_within b.asleep.items v.0 true s in let m = h.size in absurd (omega (arith, e, l, m))
