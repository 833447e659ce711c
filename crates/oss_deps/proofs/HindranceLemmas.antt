-- What stands in the way of a task goes on doing so, whatever is opened behind it, and given up elsewhere.
use Rattle.std.proofs.Common.{◌≡◌, ℕ, ◌<◌, ◌≤◌, refl, sym, ap, subst, ◌∙◌, List, [], ◌∷◌, ◌++◌, append_assoc, ◌⊎◌, inl, inr, Bool, true, false}
use Rattle.std.proofs.lemmas.List.{append-nil}
use Rattle.oss_syntax.specs.declared.access.Mode.{Mode}
use Rattle.oss_syntax.specs.declared.access.Mode.TheVariants.{Read, Write, Fold}
use Rattle.oss_model.specs.Forest.{IsDone, IsRead, IsReadSatisfied, IsWriteSatisfied, done, read_top, read_child, write_top, write_child}
use Rattle.oss_deps.specs.declared.opened.Open.{Open}
use Rattle.oss_deps.specs.declared.want.Want.TheVariants.{ToRead, ToWrite}
use Rattle.oss_deps.specs.declared.want.Want.{Want}
use Rattle.oss_deps.specs.Opens.{AreChildrenDone, AreOpens, Asks, HasOpened, IsChild, IsEarlier, IsMet, IsTop, Precedes, first, later, mode_at, mode_in, opened_forest}
use Rattle.oss_deps.specs.Wants.{may_pass}
use Rattle.oss_deps.specs.Met.{IsBarred, IsBefore, stands_above, stands_here}
use Rattle.oss_deps.specs.Hindrances.{HasUndoneChild, Hinders, IsAtOrBelow, same, under}
use Rattle.oss_deps.proofs.OpenLemmas.{in_front, mode_is, not_main, one_entry, precedes_in}

-- opens that grow
precedes_stays : {x y : Open} (xs ys : List Open) → Precedes x y xs → Precedes x y (xs ++ ys)
precedes_stays [] ys h = elim h [ ]
precedes_stays (z ∷ xs) ys (first i) = first (in_front xs ys i)
precedes_stays (z ∷ xs) ys (later h) = later (precedes_stays xs ys h)

module _ (opens more : List Open) where
  abbrev all : List Open
  all = opens ++ more

  pub opened_stays : (c v : ℕ) → HasOpened opens c v → HasOpened all c v
  opened_stays c v h = record { entry = h.entry; listed = in_front opens more h.listed; number = h.number; named = h.named }

  child_stays : (c v w : ℕ) → IsChild opens c v w → IsChild all c v w
  child_stays c v w h = record { above = opened_stays c v h.above; opened = record { entry = h.opened.entry; listed = in_front opens more h.opened.listed; number = h.opened.number; named = h.opened.named }; parent = h.parent }

  asks_stays : (t c : ℕ) (m : Mode) → Asks opens t c m → Asks all t c m
  asks_stays t c m h = record { entry = h.entry; listed = in_front opens more h.listed; number = h.number; access = h.access; at_ = h.at_; mode_is = h.mode_is; strong = h.strong }

  before_stays : (c : ℕ) (want : Want) (u : ℕ) {v : ℕ} → IsBefore opens c want u v → IsBefore all c want u v
  before_stays c want u (stands_here e stops) = stands_here (record { before = e.before; after = e.after; order = precedes_stays opens more e.order; number = e.number; after_number = e.after_number; siblings = e.siblings; named = e.named }) stops
  before_stays c want u (stands_above {p = p} {v = v} child rest) = stands_above (child_stays c p v child) (before_stays c want u rest)

  done_back : (given : ℕ → ℕ → Bool) (c : ℕ) (v : ℕ) → IsDone (opened_forest all given c) v → IsDone (opened_forest opens given c) v
  done_back given c v (done g f) = done g (λ w child. done_back given c w (f w (child_stays c v w child)))

-- Opens that grow keep an access undone.
pub undone_stays : (opens more : List Open) (given : ℕ → ℕ → Bool) (c u : ℕ) → AreOpens (opens ++ more) → HasOpened opens c u
    → (IsDone (opened_forest opens given c) u → ⊥) → IsDone (opened_forest (opens ++ more) given c) u → ⊥
undone_stays opens more given c u are opened undone d = undone (done_back opens more given c u d)

-- What else is given up keeps an access undone, if its task is neither that of the access nor below it.
module _ (opens : List Open) (given afterwards : ℕ → ℕ → Bool) (g u : ℕ) (elsewhere : (t k : ℕ) → afterwards t k ≡ true → (given t k ≡ true) ⊎ (t ≡ g)) (apart : IsAtOrBelow opens u g → ⊥) where
  done_before : (c v : ℕ) → IsAtOrBelow opens u v → IsDone (opened_forest opens afterwards c) v → IsDone (opened_forest opens given c) v
  done_before c v below (done h f) = done (held (elsewhere v c h)) (λ w child. done_before c w (under child.opened.entry child.opened.listed child.opened.number (subst (λ (x : ℕ). IsAtOrBelow opens u x) (sym child.parent) below)) (f w child))
    where
      held : (given v c ≡ true) ⊎ (v ≡ g) → given v c ≡ true
      held (inl e) = e
      held (inr e) = absurd (apart (subst (λ (x : ℕ). IsAtOrBelow opens u x) e below))

pub undone_beside : (opens : List Open) (given afterwards : ℕ → ℕ → Bool) (c g u : ℕ) → ((t k : ℕ) → afterwards t k ≡ true → (given t k ≡ true) ⊎ (t ≡ g)) → (IsAtOrBelow opens u g → ⊥)
    → (IsDone (opened_forest opens given c) u → ⊥) → IsDone (opened_forest opens afterwards c) u → ⊥
undone_beside opens given afterwards c g u elsewhere apart undone d = undone (done_before opens given afterwards g u elsewhere apart c u (same refl) d)

-- What an access waits for that stands before another.
module _ (opens : List Open) (given : ℕ → ℕ → Bool) (c : ℕ) (are : AreOpens opens) where
  one_parent : (p q v : ℕ) → IsChild opens c p v → IsChild opens c q v → p ≡ q
  one_parent p q v a b = sym a.parent ∙ ap (λ (o : Open). o.parent) (one_entry are.ordered a.opened.entry b.opened.entry a.opened.listed b.opened.listed (a.opened.number ∙ sym b.opened.number)) ∙ b.parent

  no_top : (p v : ℕ) → IsChild opens c p v → IsTop opens c v → ⊥
  no_top p v a b =
      let e = one_entry are.ordered a.opened.entry b.opened.entry a.opened.listed b.opened.listed (a.opened.number ∙ sym b.opened.number) in
      not_main are.ordered a.above.entry a.above.listed (a.above.number ∙ sym a.parent ∙ ap (λ (o : Open). o.parent) e ∙ b.parent)

  mode_before : (u v : ℕ) (e : IsEarlier opens c u v) → mode_in opens c u ≡ mode_at c e.before
  mode_before u v e = ap (λ (t : ℕ). mode_in opens c t) (sym e.number) ∙ mode_is c are.ordered e.before (precedes_in e.order)

  no_read : (m : Mode) → may_pass ToRead m false ≡ false → IsRead m → ⊥
  no_read Read h r = absurd cc
  no_read Write h r = r
  no_read (Fold op) h r = r

  read_here : (v : ℕ) → IsReadSatisfied (opened_forest opens given c) v → (u : ℕ) → IsEarlier opens c u v → (IsRead (mode_in opens c u) → ⊥) → IsDone (opened_forest opens given c) u
  read_here v (read_top t g) = g
  read_here v (read_child h s g) = g

  read_up : (p v : ℕ) → IsChild opens c p v → IsReadSatisfied (opened_forest opens given c) v → IsReadSatisfied (opened_forest opens given c) p
  read_up p v child (read_top t g) = absurd (no_top p v child t)
  read_up p v child (read_child {p = q} h s g) = subst (λ (x : ℕ). IsReadSatisfied (opened_forest opens given c) x) (one_parent q p v h child) s

  pub read_waits : (u : ℕ) {v : ℕ} → IsBefore opens c ToRead u v → IsReadSatisfied (opened_forest opens given c) v → IsDone (opened_forest opens given c) u
  read_waits u (stands_here {v = v} e stops) s = read_here v s u e (λ r. no_read (mode_at c e.before) stops (subst IsRead (mode_before u v e) r))
  read_waits u (stands_above {p = p} {v = v} child rest) s = read_waits u rest (read_up p v child s)

  write_here : (v : ℕ) → IsWriteSatisfied (opened_forest opens given c) v → (u : ℕ) → IsEarlier opens c u v → IsDone (opened_forest opens given c) u
  write_here v (write_top t g) = g
  write_here v (write_child h s g) = g

  write_up : (p v : ℕ) → IsChild opens c p v → IsWriteSatisfied (opened_forest opens given c) v → IsWriteSatisfied (opened_forest opens given c) p
  write_up p v child (write_top t g) = absurd (no_top p v child t)
  write_up p v child (write_child {p = q} h s g) = subst (λ (x : ℕ). IsWriteSatisfied (opened_forest opens given c) x) (one_parent q p v h child) s

  pub write_waits : (u : ℕ) {v : ℕ} → IsBefore opens c ToWrite u v → IsWriteSatisfied (opened_forest opens given c) v → IsDone (opened_forest opens given c) u
  write_waits u (stands_here {v = v} e stops) s = write_here v s u e
  write_waits u (stands_above {p = p} {v = v} child rest) s = write_waits u rest (write_up p v child s)

-- A strong access that waits for another hinders its task.
pub read_hinders : (opens : List Open) (given : ℕ → ℕ → Bool) (c t u : ℕ) → Asks opens t c Read → IsBarred opens given c ToRead u t → Hinders opens given t u
read_hinders opens given c t u asks b = record {
  cell = c;
  opened = b.opened;
  undone = b.undone;
  bars = λ more afterwards are undone met. undone (read_waits (opens ++ more) afterwards c are u (before_stays opens more c ToRead u b.before) (met.reads c (asks_stays opens more t c Read asks)));
}

pub write_hinders : (opens : List Open) (given : ℕ → ℕ → Bool) (c t u : ℕ) → Asks opens t c Write → IsBarred opens given c ToWrite u t → Hinders opens given t u
write_hinders opens given c t u asks b = record {
  cell = c;
  opened = b.opened;
  undone = b.undone;
  bars = λ more afterwards are undone met. undone (write_waits (opens ++ more) afterwards c are u (before_stays opens more c ToWrite u b.before) (met.writes c (asks_stays opens more t c Write asks)));
}

-- A task that is hindered may not begin.
pub hindered_is_not_met : (opens : List Open) (given : ℕ → ℕ → Bool) (t u : ℕ) → Hinders opens given t u → AreOpens opens → IsMet opens given t → ⊥
hindered_is_not_met opens given t u h are = subst (λ (xs : List Open). AreOpens xs → (IsDone (opened_forest xs given h.cell) u → ⊥) → IsMet xs given t → ⊥) (append-nil opens) (h.bars [] given) are h.undone

-- It stays hindered.
pub hinders_stays : (opens more : List Open) (given : ℕ → ℕ → Bool) (t u : ℕ) → Hinders opens given t u → AreOpens (opens ++ more) → Hinders (opens ++ more) given t u
hinders_stays opens more given t u h are = record {
  cell = h.cell;
  opened = opened_stays opens more h.cell u h.opened;
  undone = undone_stays opens more given h.cell u are h.opened h.undone;
  bars = λ yet afterwards. subst (λ (xs : List Open). AreOpens xs → (IsDone (opened_forest xs afterwards h.cell) u → ⊥) → IsMet xs afterwards t → ⊥) (sym (append_assoc opens more yet)) (h.bars (more ++ yet) afterwards);
}

pub hinders_beside : (opens : List Open) (given afterwards : ℕ → ℕ → Bool) (g t u : ℕ) → ((s k : ℕ) → afterwards s k ≡ true → (given s k ≡ true) ⊎ (s ≡ g)) → (IsAtOrBelow opens u g → ⊥)
    → Hinders opens given t u → Hinders opens afterwards t u
hinders_beside opens given afterwards g t u elsewhere apart h = record { cell = h.cell; opened = h.opened; undone = undone_beside opens given afterwards h.cell g u elsewhere apart h.undone; bars = h.bars }

-- The same of a child that is not done.
pub undone_child_stays : (opens more : List Open) (given : ℕ → ℕ → Bool) (t lo hi u : ℕ) → HasUndoneChild opens given t lo hi u → AreOpens (opens ++ more) → HasUndoneChild (opens ++ more) given t lo hi u
undone_child_stays opens more given t lo hi u h are = record {
  cell = h.cell;
  from = h.from;
  before = h.before;
  entry = h.entry;
  listed = in_front opens more h.listed;
  number = h.number;
  parent = h.parent;
  named = h.named;
  undone = undone_stays opens more given h.cell u are (record { entry = h.entry; listed = h.listed; number = h.number; named = h.named }) h.undone;
}

pub undone_child_beside : (opens : List Open) (given afterwards : ℕ → ℕ → Bool) (g t lo hi u : ℕ) → ((s k : ℕ) → afterwards s k ≡ true → (given s k ≡ true) ⊎ (s ≡ g)) → (IsAtOrBelow opens u g → ⊥)
    → HasUndoneChild opens given t lo hi u → HasUndoneChild opens afterwards t lo hi u
undone_child_beside opens given afterwards g t lo hi u elsewhere apart h = record {
  cell = h.cell;
  from = h.from;
  before = h.before;
  entry = h.entry;
  listed = h.listed;
  number = h.number;
  parent = h.parent;
  named = h.named;
  undone = undone_beside opens given afterwards h.cell g u elsewhere apart h.undone;
}

pub undone_child_is_not_done : (opens : List Open) (given : ℕ → ℕ → Bool) (t lo hi u : ℕ) → HasUndoneChild opens given t lo hi u → ((c : ℕ) → lo ≤ c → c < hi → AreChildrenDone opens given t c) → ⊥
undone_child_is_not_done opens given t lo hi u h f = h.undone (subst (λ (x : ℕ). IsDone (opened_forest opens given h.cell) x) h.number (f h.cell h.from h.before h.entry h.listed h.parent h.named))
