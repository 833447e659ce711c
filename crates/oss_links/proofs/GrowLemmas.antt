-- The lists of a cell go on holding what was opened.
use Rattle.std.proofs.Common.{◌≡◌, ℕ, refl, sym, subst, ap, ◌∙◌, ◌⊎◌, inl, inr, Bool, true, false, List, [], ◌∷◌, ◌++◌, arith, eq-eqb, eqb-true}
use Rattle.std.specs.Prelude.{◌==◌, if◌then◌else◌}
use Rattle.oss_model.specs.Order.{IsIn, here, there}
use Rattle.oss_deps.specs.declared.opened.Open.{Open}
use Rattle.oss_deps.specs.Opens.{names, mode_at, mode_in, HasOpened, Precedes, first as first_of, later as later_of, IsOpened}
use Rattle.oss_deps.proofs.OpenLemmas.{in_front, in_last, in_added, precedes_in, precedes_in_last}
use Rattle.oss_access_lists.specs.Wires.{Wires, IsBelow, IsBefore}
use Rattle.oss_access_lists.specs.Steps.{IsHung}
use Rattle.oss_access_lists.proofs.GrowLemmas as grow
use Rattle.oss_access_lists.proofs.StepLemmas.{same_or}
use Rattle.oss_links.specs.Held.{IsUnder, under_main, under_task, AreHeld, IsAccessOrMain, IsNewAccess, IsAdded, old, new}

-- which precede in a list that goes on by one
pub precedes_added : {A : Type 0} {x y : A} (xs : List A) (z : A) → Precedes x y (xs ++ z ∷ []) → Precedes x y xs ⊎ (IsIn x xs × (y ≡ z))
precedes_added [] z (first_of i) = elim i [ ]
precedes_added [] z (later_of p) = elim p [ ]
precedes_added {A = A} {x = x} {y = y} (w ∷ xs) z (first_of i) = go (in_added xs z i)
  where
    go : IsIn y xs ⊎ (y ≡ z) → Precedes w y (w ∷ xs) ⊎ (IsIn w (w ∷ xs) × (y ≡ z))
    go (inl j) = inl (first_of j)
    go (inr e) = inr (here, e)
precedes_added {A = A} {x = x} {y = y} (w ∷ xs) z (later_of p) = go (precedes_added xs z p)
  where
    go : Precedes x y xs ⊎ (IsIn x xs × (y ≡ z)) → Precedes x y (w ∷ xs) ⊎ (IsIn x (w ∷ xs) × (y ≡ z))
    go (inl q) = inl (later_of q)
    go (inr k) = inr (there k.0, k.1)

-- the mode of a task's access, before and after
member_of : {A : Type 0} {q x : A} {xs : List A} → IsIn q (x ∷ xs) → (q ≡ x) ⊎ IsIn q xs
member_of here = inl refl
member_of (there j) = inr j

mode_kept : (o : Open) (c t : ℕ) (xs : List Open) (q : Open) → IsIn q xs → q.task ≡ t → mode_in (xs ++ o ∷ []) c t ≡ mode_in xs c t
mode_kept o c t [] q i e = elim i [ ]
mode_kept o c t (x ∷ xs) q i e = pick (same_or x.task t) (member_of i) (λ j. mode_kept o c t xs q j e)
  where
    pick : (x.task ≡ t) ⊎ (x.task ≡ t → ⊥) → (q ≡ x) ⊎ IsIn q xs → (IsIn q xs → mode_in (xs ++ o ∷ []) c t ≡ mode_in xs c t) → mode_in ((x ∷ xs) ++ o ∷ []) c t ≡ mode_in (x ∷ xs) c t
    pick (inl k) j again = rw (eq-eqb x.task t k) refl
    pick (inr n) (inl h) again = absurd (n (sym (ap (λ (y : Open). y.task) h) ∙ e))
    pick (inr n) (inr j) again = ap (λ z. if x.task == t then mode_at c x else z) (again j)

mode_front : (opens : List Open) (o : Open) (c t : ℕ) → IsOpened opens t → mode_in (opens ++ o ∷ []) c t ≡ mode_in opens c t
mode_front opens o c t h = mode_kept o c t opens h.entry h.listed h.number

mode_last : (opens : List Open) (o : Open) (c : ℕ) → (IsOpened opens o.task → ⊥) → mode_in (opens ++ o ∷ []) c o.task ≡ mode_at c o
mode_last [] o c n = rw (eq-eqb o.task o.task refl) refl
mode_last (x ∷ xs) o c n = pick (same_or x.task o.task) (mode_last xs o c (λ h. n (record { entry = h.entry; listed = there h.listed; number = h.number })))
  where
    pick : (x.task ≡ o.task) ⊎ (x.task ≡ o.task → ⊥) → mode_in (xs ++ o ∷ []) c o.task ≡ mode_at c o → mode_in ((x ∷ xs) ++ o ∷ []) c o.task ≡ mode_at c o
    pick (inl k) m = absurd (n (record { entry = x; listed = here; number = k }))
    pick (inr k) m = rw (differ (x.task == o.task) (λ h. k (eqb-true x.task o.task h))) m
      where
        differ : (b : Bool) → (b ≡ true → ⊥) → b ≡ false
        differ true f = absurd (f refl)
        differ false f = refl

-- the accesses with one more
module _ (opens : List Open) (given : ℕ → ℕ → Bool) (c : ℕ) (w n : Wires) (entry : ℕ → ℕ → Type 0) (o : Open) (p e : ℕ) (are : AreHeld opens given c w entry) (hung : IsHung w n p e) (is : IsNewAccess opens given c n entry o p e) where
  is_opened : (t v : ℕ) → entry t v → IsOpened opens t
  is_opened t v r = let h = are.opened t v r in record { entry = h.entry; listed = h.listed; number = h.number }

  not_task : (t v : ℕ) → entry t v → t ≡ o.task → ⊥
  not_task t v r k = is.fresh (subst (λ y. IsOpened opens y) k (is_opened t v r))

  -- an old entry is no new access: all old ones hang
  in_list : (t v : ℕ) → entry t v → (q : ℕ) × IsBelow w.place q v
  in_list t v r = go (are.under h.entry v h.listed h.named (subst (λ y. entry y v) (sym h.number) r))
    where
      h : HasOpened opens c t
      h = are.opened t v r

      go : IsUnder entry w h.entry.parent v → (q : ℕ) × IsBelow w.place q v
      go (under_main k b) = (0, b)
      go (under_task q k b) = (q, b)

  pub not_e : (t v : ℕ) → entry t v → v ≡ e → ⊥
  not_e t v r k =
      let l = in_list t v r in
      grow.loose_below w n p e are.wired hung l.0 (subst (λ y. IsBelow w.place l.0 y) k l.1)

  new_below : IsBelow n.place p e
  new_below = (grow.hung_wired w n p e are.wired hung).listed p e hung.last (λ z. let k = hung.above in absurd (omega (arith, z, k)))

  under_new : (x : Open) (v : ℕ) → IsIn x opens ⊎ (x ≡ o) → names c x ≡ true → IsAdded entry o.task e x.task v → IsUnder (IsAdded entry o.task e) n x.parent v
  under_new x v (inl i) m (old r) = go (are.under x v i m r)
    where
      go : IsUnder entry w x.parent v → IsUnder (IsAdded entry o.task e) n x.parent v
      go (under_main k b) = under_main k (grow.below_forth w n p e are.wired hung 0 v b)
      go (under_task q k b) = under_task q (old k) (grow.below_forth w n p e are.wired hung q v b)
  under_new x v (inl i) m (new k l) = absurd (is.fresh (record { entry = x; listed = i; number = k }))
  under_new x v (inr h) m (old r) = absurd (not_task x.task v r (ap (λ (y : Open). y.task) h))
  under_new x v (inr h) m (new k l) = go is.creator
    where
      go : IsAccessOrMain entry o.parent p → IsUnder (IsAdded entry o.task e) n x.parent v
      go (inl z) =
          under_main (ap (λ (y : Open). y.parent) h ∙ z.0) (subst (λ y. IsBelow n.place y v) z.1 (subst (λ y. IsBelow n.place p y) (sym l) new_below))
      go (inr r) =
          under_task p (old (subst (λ y. entry y p) (sym (ap (λ (y : Open). y.parent) h)) r)) (subst (λ y. IsBelow n.place p y) (sym l) new_below)

  -- an earlier sibling's access stands before the new one
  before_new : (a : Open) (u : ℕ) → IsIn a opens → a.parent ≡ o.parent → names c a ≡ true → entry a.task u → IsBefore n.place u e
  before_new a u i k m r = go (are.under a u i m r) is.creator
    where
      ends : (u ≡ e) ⊎ IsBefore n.place u e → IsBefore n.place u e
      ends (inl h) = absurd (not_e a.task u r h)
      ends (inr b) = b

      last_one : IsBelow w.place p u → IsBefore n.place u e
      last_one b = ends ((grow.hung_wired w n p e are.wired hung).all_before p u e hung.last (grow.below_forth w n p e are.wired hung p u b))

      go : IsUnder entry w a.parent u → IsAccessOrMain entry o.parent p → IsBefore n.place u e
      go (under_main h b) (inl z) = last_one (subst (λ y. IsBelow w.place y u) (sym z.1) b)
      go (under_main h b) (inr g) = absurd ((are.not_main o.parent p g).0 (sym k ∙ h))
      go (under_task q h b) (inl z) = absurd ((are.not_main a.parent q h).0 (k ∙ z.0))
      go (under_task q h b) (inr g) = last_one (subst (λ y. IsBelow w.place y u) (are.one_number o.parent q p (subst (λ y. entry y q) k h) g) b)

  order_new : (a b : Open) (u v : ℕ) → Precedes a b opens ⊎ (IsIn a opens × (b ≡ o)) → a.parent ≡ b.parent → names c a ≡ true → names c b ≡ true → IsAdded entry o.task e a.task u → IsAdded entry o.task e b.task v → IsBefore n.place u v
  order_new a b u v (inl q) k m m' (old r) (old s) = grow.before_forth w n p e are.wired hung u v (are.order a b u v q k m m' r s)
  order_new a b u v (inl q) k m m' (new h l) s = absurd (is.fresh (record { entry = a; listed = precedes_in q; number = h }))
  order_new a b u v (inl q) k m m' r (new h l) = absurd (is.fresh (record { entry = b; listed = precedes_in_last q; number = h }))
  order_new a b u v (inr q) k m m' (new h l) s = absurd (is.fresh (record { entry = a; listed = q.0; number = h }))
  order_new a b u v (inr q) k m m' (old r) (old s) = absurd (not_task b.task v s (ap (λ (y : Open). y.task) q.1))
  order_new a b u v (inr q) k m m' (old r) (new h l) =
      subst (λ y. IsBefore n.place u y) (sym l) (before_new a u q.0 (k ∙ ap (λ (y : Open). y.parent) q.1) m r)

  pub held_grows : AreHeld (opens ++ o ∷ []) given c n (IsAdded entry o.task e)
  held_grows = record {
    wired = grow.hung_wired w n p e are.wired hung;
    opened = opened_of;
    one_number = one_number_of;
    one_task = one_task_of;
    held = λ t h. held_of t h (in_added opens o h.listed);
    not_main = not_main_of;
    hung = λ q v b. hung_of q v (grow.below_back w n p e are.wired hung q v b);
    under = λ x v i m r. under_new x v (in_added opens o i) m r;
    order = λ a b u v q k m m' r s. order_new a b u v (precedes_added opens o q) k m m' r s;
    mode = mode_of;
    gave = gave_of;
  }
    where
      more : (t : ℕ) → HasOpened opens c t → HasOpened (opens ++ o ∷ []) c t
      more t h = record { entry = h.entry; listed = in_front opens (o ∷ []) h.listed; number = h.number; named = h.named }

      opened_of : (t v : ℕ) → IsAdded entry o.task e t v → HasOpened (opens ++ o ∷ []) c t
      opened_of t v (old r) = more t (are.opened t v r)
      opened_of t v (new k l) = record { entry = o; listed = in_last opens o; number = sym k; named = is.named }

      one_number_of : (t u v : ℕ) → IsAdded entry o.task e t u → IsAdded entry o.task e t v → u ≡ v
      one_number_of t u v (old r) (old s) = are.one_number t u v r s
      one_number_of t u v (old r) (new k l) = absurd (not_task t u r k)
      one_number_of t u v (new k l) (old s) = absurd (not_task t v s k)
      one_number_of t u v (new k l) (new k' l') = l ∙ sym l'

      one_task_of : (t s v : ℕ) → IsAdded entry o.task e t v → IsAdded entry o.task e s v → t ≡ s
      one_task_of t s v (old r) (old q) = are.one_task t s v r q
      one_task_of t s v (old r) (new k l) = absurd (not_e t v r l)
      one_task_of t s v (new k l) (old q) = absurd (not_e s v q l)
      one_task_of t s v (new k l) (new k' l') = k ∙ sym k'

      held_of : (t : ℕ) (h : HasOpened (opens ++ o ∷ []) c t) → IsIn h.entry opens ⊎ (h.entry ≡ o) → (v : ℕ) × IsAdded entry o.task e t v
      held_of t h (inl i) = let r = are.held t (record { entry = h.entry; listed = i; number = h.number; named = h.named }) in (r.0, old r.1)
      held_of t h (inr k) = (e, new (sym h.number ∙ ap (λ (y : Open). y.task) k) refl)

      not_main_of : (t v : ℕ) → IsAdded entry o.task e t v → (t ≡ 0 → ⊥) × (v ≡ 0 → ⊥)
      not_main_of t v (old r) = are.not_main t v r
      not_main_of t v (new k l) = (λ z. is.not_main (sym k ∙ z), λ z. let h = hung.above in absurd (omega (arith, h, l, z)))

      hung_of : (q v : ℕ) → ((v ≡ e) × (q ≡ p)) ⊎ ((v ≡ e → ⊥) × IsBelow w.place q v) → (t : ℕ) × IsAdded entry o.task e t v
      hung_of q v (inl k) = (o.task, new refl k.0)
      hung_of q v (inr k) = let r = are.hung q v k.1 in (r.0, old r.1)

      mode_of : (t v : ℕ) → IsAdded entry o.task e t v → mode_in (opens ++ o ∷ []) c t ≡ n.mode v
      mode_of t v (old r) = mode_front opens o c t (is_opened t v r) ∙ (are.mode t v r ∙ sym (hung.modes v (not_e t v r)))
      mode_of t v (new k l) = ap (mode_in (opens ++ o ∷ []) c) k ∙ (mode_last opens o c is.fresh ∙ (sym is.mode ∙ ap n.mode (sym l)))

      gave_of : (t v : ℕ) → IsAdded entry o.task e t v → given t c ≡ n.gave v
      gave_of t v (old r) = are.gave t v r ∙ sym (hung.gave v)
      gave_of t v (new k l) = ap (λ y. given y c) k ∙ (is.not_given ∙ (sym hung.kept ∙ (sym (hung.gave e) ∙ ap n.gave (sym l))))

-- a task that names no cell of the lists
pub held_aside : (opens : List Open) (given : ℕ → ℕ → Bool) (c : ℕ) (w : Wires) (entry : ℕ → ℕ → Type 0) (o : Open) → AreHeld opens given c w entry → names c o ≡ false → (IsOpened opens o.task → ⊥) → AreHeld (opens ++ o ∷ []) given c w entry
held_aside opens given c w entry o are m fresh = record {
  wired = are.wired;
  opened = λ t v r. let h = are.opened t v r in record { entry = h.entry; listed = in_front opens (o ∷ []) h.listed; number = h.number; named = h.named };
  one_number = are.one_number;
  one_task = are.one_task;
  held = λ t h. held_of t h (in_added opens o h.listed);
  not_main = are.not_main;
  hung = are.hung;
  under = λ x v i n r. under_of x v (in_added opens o i) n r;
  order = λ a b u v q k n n' r s. order_of a b u v (precedes_added opens o q) k n n' r s;
  mode = λ t v r. let h = are.opened t v r in mode_front opens o c t (record { entry = h.entry; listed = h.listed; number = h.number }) ∙ are.mode t v r;
  gave = are.gave;
}
  where
    not_named : (x : Open) → x ≡ o → names c x ≡ true → ⊥
    not_named x k n = let h = sym n ∙ (ap (names c) k ∙ m) in cc

    held_of : (t : ℕ) (h : HasOpened (opens ++ o ∷ []) c t) → IsIn h.entry opens ⊎ (h.entry ≡ o) → (v : ℕ) × entry t v
    held_of t h (inl i) = are.held t (record { entry = h.entry; listed = i; number = h.number; named = h.named })
    held_of t h (inr k) = absurd (not_named h.entry k h.named)

    under_of : (x : Open) (v : ℕ) → IsIn x opens ⊎ (x ≡ o) → names c x ≡ true → entry x.task v → IsUnder entry w x.parent v
    under_of x v (inl i) n r = are.under x v i n r
    under_of x v (inr k) n r = absurd (not_named x k n)

    order_of : (a b : Open) (u v : ℕ) → Precedes a b opens ⊎ (IsIn a opens × (b ≡ o)) → a.parent ≡ b.parent → names c a ≡ true → names c b ≡ true → entry a.task u → entry b.task v → IsBefore w.place u v
    order_of a b u v (inl q) k n n' r s = are.order a b u v q k n n' r s
    order_of a b u v (inr q) k n n' r s = absurd (not_named b q.1 n')
