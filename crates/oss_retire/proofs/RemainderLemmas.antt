-- A copy without the spent accesses is what is left.
use Rattle.std.proofs.Common.{◌≡◌, ℕ, zero, suc, ◌<◌, ◌≤◌, refl, sym, ap, subst, ◌∙◌, ◌⊎◌, inl, inr, Bool, true, false, List, [], ◌∷◌, length, Option, Some, None, arith, eq-eqb, eqb-true, ◌↔◌}
use Rattle.std.proofs.lemmas.Option.{slice_get_within}
use Rattle.std.proofs.lemmas.List.{get_or_past}
use Rattle.std.specs.Prelude.{◌&&◌, option_and_then, slice_get}
use Rattle.oss_model.specs.Order.{IsIn}
use Rattle.oss_model.specs.Forest.{IsDone, IsWriteSatisfied}
use Rattle.oss_deps.specs.declared.opened.Open.{Open}
use Rattle.oss_deps.specs.Opens.{AreOrdered, HasOpened, Precedes, names, opened_forest}
use Rattle.oss_deps.proofs.Basics.{bools, both, both_of, clash, compared}
use Rattle.oss_access_lists.specs.declared.hang.Hang.{Hang}
use Rattle.oss_access_lists.specs.declared.marks.Marks.{Marks}
use Rattle.oss_access_lists.specs.Flags.{AreAtRest, IsListed}
use Rattle.oss_access_lists.specs.Tables.{hang_at, marks_at, no_hang, place_of, wires_of}
use Rattle.oss_access_lists.specs.Wires.{AreWired, IsBefore, IsBelow, Wires, after, head, later, loose, next, tail}
use Rattle.oss_access_lists.proofs.CompleteLemmas.{listed_before}
use Rattle.oss_access_lists.proofs.GrowLemmas.{one_list}
use Rattle.oss_access_lists.proofs.SoundLemmas.{rises, same_after}
use Rattle.oss_access_lists.proofs.StepLemmas.{rest_exact, same_or}
use Rattle.oss_links.specs.Held.{AreHeld, IsAccessOf, IsUnder, under_main, under_task}
use Rattle.oss_links.specs.Numbers.{IsCellHeld, given_by, is_task, task_by, task_in, task_numbered}
use Rattle.oss_links.specs.Readings.{AreTrue, TellOfTask}
use Rattle.oss_links.proofs.NumberLemmas.{any_found, any_told, given_found, given_is, given_told, same_bools, task_within}
use Rattle.oss_links.proofs.ReadLemmas.{flags_tell}
use Rattle.oss_retire.specs.Copies.{AreCopied, AreGivenUp, IsKept, at_}
use Rattle.oss_retire.specs.Remainder.{IsRemainderFor, is_spent, spent_by}
use Rattle.oss_retire.specs.Retired.{AreRetired, left_of}
use Rattle.oss_retire.proofs.CopyLemmas.{below_rises}
use Rattle.oss_retire.proofs.DoneLemmas.{done_may_retire}
use Rattle.oss_retire.proofs.LeftLemmas.{Whole, Wholes, in_left, left_named, left_opened, mode_in_left, opened_left, precedes_left}

-- two accesses of one list stand in the order of their numbers
module _ (w : Wires) (ok : AreWired w) where
  -- up to a third one
  abbrev UpTo : ℕ → ℕ → Type 0
  UpTo u z = (u ≡ z) ⊎ IsBefore w.place u z

  step_back : (u t z : ℕ) → w.place z ≡ after t → IsBefore w.place u z → UpTo u t
  step_back u t z e (next g) = inl (same_after (sym g ∙ e))
  step_back u t z e (later {t = s} g b) = inr (subst (λ (y : ℕ). IsBefore w.place u y) (same_after (sym g ∙ e)) b)

  in_a_row : (n u v z : ℕ) → z ≤ n → UpTo u z → UpTo v z → (u ≡ v) ⊎ (IsBefore w.place u v ⊎ IsBefore w.place v u)
  in_a_row n u v z m (inl a) (inl b) = inl (a ∙ sym b)
  in_a_row n u v z m (inl a) (inr b) = inr (inr (subst (λ (y : ℕ). IsBefore w.place v y) (sym a) b))
  in_a_row n u v z m (inr a) (inl b) = inr (inl (subst (λ (y : ℕ). IsBefore w.place u y) (sym b) a))
  in_a_row zero u v z m (inr a) (inr b) = let r = rises w ok u z a in absurd (omega (arith, r, m))
  in_a_row (suc n) u v z m (inr a) (inr b) = go a (λ y l p q. in_a_row n u v y l p q)
    where
      go : IsBefore w.place u z → ((y : ℕ) → y ≤ n → UpTo u y → UpTo v y → (u ≡ v) ⊎ (IsBefore w.place u v ⊎ IsBefore w.place v u)) → (u ≡ v) ⊎ (IsBefore w.place u v ⊎ IsBefore w.place v u)
      go (next e) again = again u (let r = ok.behind u z e in omega (arith, r, m)) (inl refl) (step_back v u z e b)
      go (later {t = t} e k) again = again t (let r = ok.behind t z e in omega (arith, r, m)) (inr k) (step_back v t z e b)

  pub listed_order : (p u v : ℕ) → IsBelow w.place p u → IsBelow w.place p v → u < v → IsBefore w.place u v
  listed_order p u v a b l = go (in_a_row z u v z (omega arith) (ok.all_before p u z refl a) (ok.all_before p v z refl b))
    where
      z : ℕ
      z = w.last p

      go : (u ≡ v) ⊎ (IsBefore w.place u v ⊎ IsBefore w.place v u) → IsBefore w.place u v
      go (inl e) = absurd (omega (arith, e, l))
      go (inr (inl k)) = k
      go (inr (inr k)) = let r = rises w ok v u k in absurd (omega (arith, r, l))

pub task_is : (t : ℕ) (x : Option ℕ) → is_task t x ≡ true → x ≡ Some t
task_is t None h = absurd cc
task_is t (Some s) h = ap (λ (y : ℕ). Some y) (eqb-true s t h)

is_task_of : (t : ℕ) (x : Option ℕ) → x ≡ Some t → is_task t x ≡ true
is_task_of t x e = subst (λ (y : Option ℕ). is_task t y ≡ true) (sym e) (eq-eqb t t refl)

-- the tasks by their numbers are the same in what is left
task_left_in : (r : ℕ → Bool) (opens : List Open) (i : ℕ) → task_in (slice_get (left_of r opens) i) ≡ task_in (slice_get opens i)
task_left_in r [] i = refl
task_left_in r (o ∷ opens) zero = refl
task_left_in r (o ∷ opens) (suc i) = task_left_in r opens i

pub task_left : (r : ℕ → Bool) (opens : List Open) (x : Option ℕ) → option_and_then (task_numbered (left_of r opens)) x ≡ option_and_then (task_numbered opens) x
task_left r opens None = refl
task_left r opens (Some zero) = refl
task_left r opens (Some (suc i)) = task_left_in r opens i

pub left_long : (r : ℕ → Bool) (opens : List Open) → length (left_of r opens) ≡ length opens
left_long r [] = refl
left_long r (o ∷ opens) = ap suc (left_long r opens)

module _ (opens : List Open) (c : ℕ) (hangs : List Hang) (stand : List Marks) (numbers : List ℕ) (less : List Hang) (fewer places owners : List ℕ) (ord : AreOrdered opens) (is : IsCellHeld opens c hangs numbers) (rest : AreAtRest (wires_of hangs) (marks_at stand)) (listed : (v : ℕ) → (v ≡ 0 → ⊥) → v < length hangs → IsListed (wires_of hangs) v) (ok : AreWired (wires_of less)) (copied : AreCopied hangs stand numbers (length hangs) less fewer places owners) (given : AreGivenUp hangs stand (length hangs) (length hangs) less places) where
  abbrev spent : ℕ → Bool
  spent = spent_by opens stand numbers

  abbrev kept : List Open
  kept = left_of spent opens

  abbrev old : Wires
  old = wires_of hangs

  abbrev new : Wires
  new = wires_of less

  abbrev gave : ℕ → ℕ → Bool
  gave = λ t k. given_by opens hangs numbers t

  row_within : (t v : ℕ) → task_by opens numbers v ≡ Some t → v < length hangs
  row_within t v e = let l = task_within opens numbers v t e in let s = is.size in omega (arith, l, s)

  -- what is spent
  spent_told : (t v : ℕ) → task_by opens numbers v ≡ Some t → is_spent (marks_at stand v) ≡ true → spent t ≡ true
  spent_told t v e h = any_told (length numbers) (λ u. is_task t (task_by opens numbers u) && is_spent (marks_at stand u)) v (task_within opens numbers v t e) (both_of (is_task t (task_by opens numbers v)) (is_spent (marks_at stand v)) (is_task_of t (task_by opens numbers v) e) h)

  spent_is : (t v : ℕ) → task_by opens numbers v ≡ Some t → spent t ≡ is_spent (marks_at stand v)
  spent_is t v e = same_bools (spent t) (is_spent (marks_at stand v)) back (λ h. spent_told t v e h)
    where
      back : spent t ≡ true → is_spent (marks_at stand v) ≡ true
      back h =
          let k = any_found (length numbers) (λ u. is_task t (task_by opens numbers u) && is_spent (marks_at stand u)) h in
          let b = both (is_task t (task_by opens numbers k.0)) (is_spent (marks_at stand k.0)) k.2 in
          subst (λ (u : ℕ). is_spent (marks_at stand u) ≡ true) (is.held.one_number t k.0 v (task_is t (task_by opens numbers k.0) b.0) e) b.1

  row_kept : (t v : ℕ) → task_by opens numbers v ≡ Some t → spent t ≡ false → IsKept stand (length hangs) v
  row_kept t v e f = record { within = row_within t v e; not_main = (is.held.not_main t v e).1; not_spent = sym (spent_is t v e) ∙ f }

  -- the accesses of the copy
  task_copy : (v : ℕ) → IsKept stand (length hangs) v → task_by kept fewer (at_ places v) ≡ task_by opens numbers v
  task_copy v k = ap (option_and_then (task_numbered kept)) (copied.kept v k).number ∙ task_left spent opens (slice_get numbers v)

  record Row (t j : ℕ) : Type 0 where
    pub row : ℕ
    pub kept_is : IsKept stand (length hangs) row
    pub place : at_ places row ≡ j
    pub task : task_by opens numbers row ≡ Some t
    pub not_spent : spent t ≡ false

  row_of : (t j : ℕ) → task_by kept fewer j ≡ Some t → Row t j
  row_of t j h =
      record {
        row = only.0;
        kept_is = only.1;
        place = only.2;
        task = task;
        not_spent = spent_is t only.0 task ∙ only.1.not_spent;
      }
    where
      not_first : j ≡ 0 → ⊥
      not_first z = let e : None ≡ Some t = sym (ap (option_and_then (task_numbered kept)) copied.main) ∙ (ap (task_by kept fewer) (sym z) ∙ h) in cc

      only : (v : ℕ) × IsKept stand (length hangs) v × (at_ places v ≡ j)
      only = copied.only j (let l = task_within kept fewer j t h in let s = copied.size in omega (arith, l, s)) not_first

      task : task_by opens numbers only.0 ≡ Some t
      task = sym (task_copy only.0 only.1) ∙ (ap (task_by kept fewer) only.2 ∙ h)

  copy_of : (t v : ℕ) → task_by opens numbers v ≡ Some t → spent t ≡ false → task_by kept fewer (at_ places v) ≡ Some t
  copy_of t v e f = task_copy v (row_kept t v e f) ∙ e

  -- the same tasks have given up the cell
  gave_row : (v : ℕ) → IsKept stand (length hangs) v → (hang_at less (at_ places v)).gave ≡ (hang_at hangs v).gave
  gave_row v k = given.done v k k.within

  same_given : (t : ℕ) → spent t ≡ false → given_by kept less fewer t ≡ given_by opens hangs numbers t
  same_given t f = same_bools (given_by kept less fewer t) (given_by opens hangs numbers t) back forth
    where
      back : given_by kept less fewer t ≡ true → given_by opens hangs numbers t ≡ true
      back h =
          let k = given_found kept less fewer copied.size t h in
          let r = row_of t k.0 k.1 in
          given_told opens hangs numbers is.size t r.row r.task (sym (gave_row r.row r.kept_is) ∙ ap (λ (x : ℕ). (hang_at less x).gave) r.place ∙ k.2)

      forth : given_by opens hangs numbers t ≡ true → given_by kept less fewer t ≡ true
      forth h =
          let k = given_found opens hangs numbers is.size t h in
          given_told kept less fewer copied.size t (at_ places k.0) (copy_of t k.0 k.1 f) (gave_row k.0 (row_kept t k.0 k.1 f) ∙ k.2)

  -- they may be retired
  flags_of : (t v : ℕ) → task_by opens numbers v ≡ Some t → TellOfTask opens gave c t (marks_at stand v)
  flags_of t v e = flags_tell opens gave c old (IsAccessOf (task_by opens numbers)) ord is.held t v (marks_at stand v) e exact
    where
      exact : AreTrue old v (marks_at stand v)
      exact f = let x = rest_exact old (marks_at stand) rest f v (listed v (is.held.not_main t v e).1 (row_within t v e)) in (x.sound, x.complete)

  retired_is : (t : ℕ) → HasOpened opens c t → spent t ≡ true ↔ (IsDone (opened_forest opens gave c) t × IsWriteSatisfied (opened_forest opens gave c) t)
  retired_is t h = (forth, back)
    where
      v : (x : ℕ) × (task_by opens numbers x ≡ Some t)
      v = is.held.held t h

      forth : spent t ≡ true → IsDone (opened_forest opens gave c) t × IsWriteSatisfied (opened_forest opens gave c) t
      forth e =
          let b = both (marks_at stand v.0).done (marks_at stand v.0).writes (sym (spent_is t v.0 v.1) ∙ e) in
          ((flags_of t v.0 v.1).done.0 b.0, (flags_of t v.0 v.1).writes.0 b.1)

      back : IsDone (opened_forest opens gave c) t × IsWriteSatisfied (opened_forest opens gave c) t → spent t ≡ true
      back k = spent_told t v.0 v.1 (both_of (marks_at stand v.0).done (marks_at stand v.0).writes ((flags_of t v.0 v.1).done.1 k.0) ((flags_of t v.0 v.1).writes.1 k.1))

  pub are_retired : AreRetired opens gave c spent
  are_retired = done_may_retire opens gave c ord spent retired_is

  -- the creator of a kept access
  owner_kept : (p v : ℕ) → IsBelow old.place p v → IsKept stand (length hangs) v → at_ owners v ≡ p
  owner_kept p v b k = one_list old.place (at_ owners v) p v (copied.owner v k.within k.not_main) b

  below_place : (p v : ℕ) → IsBelow old.place p v → IsKept stand (length hangs) v → IsBelow new.place (at_ places p) (at_ places v)
  below_place p v b k = subst (λ (x : ℕ). IsBelow new.place (at_ places x) (at_ places v)) (owner_kept p v b k) (copied.kept v k).below

  under_copy : (o : Open) (j : ℕ) → IsIn o kept → names c o ≡ true → task_by kept fewer j ≡ Some o.task → IsUnder (IsAccessOf (task_by kept fewer)) new o.parent j
  under_copy o j i m h = subst (λ (x : ℕ). IsUnder (IsAccessOf (task_by kept fewer)) new x j) (ap (λ (x : Open). x.parent) (sym w.same)) (subst (λ (x : ℕ). IsUnder (IsAccessOf (task_by kept fewer)) new w.entry.parent x) r.place (go (is.held.under w.entry r.row w.listed named.1 task)))
    where
      w : Whole spent opens o
      w = in_left spent opens o i

      r : Row o.task j
      r = row_of o.task j h

      named : (spent w.entry.task ≡ false) × (names c w.entry ≡ true)
      named = left_named spent c w.entry (ap (λ (x : Open). names c x) (sym w.same) ∙ m)

      task : task_by opens numbers r.row ≡ Some w.entry.task
      task = r.task ∙ ap (λ (x : Open). Some x.task) w.same

      go : IsUnder (IsAccessOf (task_by opens numbers)) old w.entry.parent r.row → IsUnder (IsAccessOf (task_by kept fewer)) new w.entry.parent (at_ places r.row)
      go (under_main e b) = under_main e (subst (λ (x : ℕ). IsBelow new.place x (at_ places r.row)) copied.main_place (below_place 0 r.row b r.kept_is))
      go (under_task p q b) = under_task (at_ places p) (copy_of w.entry.parent p q (parent_kept (bools (spent w.entry.parent)))) (below_place p r.row b r.kept_is)
        where
          parent_kept : (spent w.entry.parent ≡ true) ⊎ (spent w.entry.parent ≡ false) → spent w.entry.parent ≡ false
          parent_kept (inr f) = f
          parent_kept (inl e) =
              let k = are_retired.below w.entry.parent w.entry.task e (record { above = is.held.opened w.entry.parent p q; opened = record { entry = w.entry; listed = w.listed; number = refl; named = named.1 }; parent = refl }) in
              clash (spent w.entry.task) k named.0

  order_copy : (a b : Open) (i j : ℕ) → Precedes a b kept → a.parent ≡ b.parent → names c a ≡ true → names c b ≡ true → task_by kept fewer i ≡ Some a.task → task_by kept fewer j ≡ Some b.task → IsBefore new.place i j
  order_copy a b i j q e m k g h = subst (λ (x : ℕ). IsBefore new.place x j) x.place (subst (λ (z : ℕ). IsBefore new.place (at_ places x.row) z) y.place (listed_order new ok (at_ places (at_ owners y.row)) (at_ places x.row) (at_ places y.row) low (copied.kept y.row y.kept_is).below (copied.rising x.row y.row (rises old rest.wired x.row y.row before) x.kept_is y.kept_is)))
    where
      w : Wholes spent opens a b
      w = precedes_left spent opens a b q

      x : Row a.task i
      x = row_of a.task i g

      y : Row b.task j
      y = row_of b.task j h

      before : IsBefore old.place x.row y.row
      before =
          is.held.order w.before w.after x.row y.row w.order (ap (λ (z : Open). z.parent) (sym w.same_before) ∙ (e ∙ ap (λ (z : Open). z.parent) w.same_after))
          (left_named spent c w.before (ap (λ (z : Open). names c z) (sym w.same_before) ∙ m)).1 (left_named spent c w.after (ap (λ (z : Open). names c z) (sym w.same_after) ∙ k)).1
          (x.task ∙ ap (λ (z : Open). Some z.task) w.same_before) (y.task ∙ ap (λ (z : Open). Some z.task) w.same_after)

      low : IsBelow new.place (at_ places (at_ owners y.row)) (at_ places x.row)
      low = below_place (at_ owners y.row) x.row (listed_before old.place (at_ owners y.row) x.row y.row (copied.owner y.row y.kept_is.within y.kept_is.not_main) before) x.kept_is

  -- each access that hangs in the copy is a task's
  inside : (p j : ℕ) → IsBelow new.place p j → (j < length less) × (j ≡ 0 → ⊥)
  inside p j b = (go (compared j (length less)), λ z. let l = below_rises new ok p j b in omega (arith, l, z))
    where
      past : length less ≤ j → ⊥
      past l = let e : new.place j ≡ loose = ap place_of (get_or_past less j no_hang l) in none b e
        where
          none : {q v : ℕ} → IsBelow new.place q v → new.place v ≡ loose → ⊥
          none (head h) e = let k = sym h ∙ e in cc
          none (tail h b) e = let k = sym h ∙ e in cc

      go : (j < length less) ⊎ ((j ≡ length less) ⊎ (length less < j)) → j < length less
      go (inl l) = l
      go (inr (inl e)) = absurd (past (omega (arith, e)))
      go (inr (inr l)) = absurd (past (omega (arith, l)))

  hung_copy : (p j : ℕ) → IsBelow new.place p j → (t : ℕ) × (task_by kept fewer j ≡ Some t)
  hung_copy p j b =
      let i = inside p j b in
      let o = copied.only j i.0 i.1 in
      let t = is.held.hung (at_ owners o.0) o.0 (copied.owner o.0 o.1.within o.1.not_main) in
      (t.0, ap (task_by kept fewer) (sym o.2) ∙ task_copy o.0 o.1 ∙ t.1)

  same_row : (t i j : ℕ) → task_by kept fewer i ≡ Some t → task_by kept fewer j ≡ Some t → i ≡ j
  same_row t i j g h =
      let x = row_of t i g in
      let y = row_of t j h in
      sym x.place ∙ ap (at_ places) (is.held.one_number t x.row y.row x.task y.task) ∙ y.place

  held_copy : AreHeld kept (λ t k. given_by kept less fewer t) c new (IsAccessOf (task_by kept fewer))
  held_copy = record {
    wired = ok;
    opened = λ t j h. let r = row_of t j h in opened_left spent opens c t r.not_spent (is.held.opened t r.row r.task);
    one_number = same_row;
    one_task = λ t s j g h. let e : Some t ≡ Some s = sym g ∙ h in cc;
    held = λ t h. let o = left_opened spent opens c t h in let v = is.held.held t o.0 in (at_ places v.0, copy_of t v.0 v.1 o.1);
    not_main = λ t j h. let r = row_of t j h in ((is.held.not_main t r.row r.task).0, λ z. (copied.kept r.row r.kept_is).not_main (r.place ∙ z));
    hung = hung_copy;
    under = under_copy;
    order = order_copy;
    mode = λ t j h.
        let r = row_of t j h in
        mode_in_left spent c opens t r.not_spent ∙ is.held.mode t r.row r.task ∙ sym (copied.kept r.row r.kept_is).mode ∙ ap (λ (x : ℕ). (hang_at less x).mode) r.place;
    gave = λ t j h. given_is kept less fewer copied.size same_row t j h;
  }

  cell_copy : IsCellHeld kept c less fewer
  cell_copy = record {
    held = held_copy;
    main = copied.main;
    main_alone = alone;
    size = copied.size;
    opened = opened_of;
  }
    where
      alone : (j : ℕ) → slice_get fewer j ≡ Some 0 → j ≡ 0
      alone j h = go (same_or j 0)
        where
          go : (j ≡ 0) ⊎ (j ≡ 0 → ⊥) → j ≡ 0
          go (inl z) = z
          go (inr n) =
              let s = copied.size in
              let l = slice_get_within fewer j 0 h in
              let o = copied.only j (omega (arith, s, l)) n in
              absurd (o.1.not_main (is.main_alone o.0 (sym (copied.kept o.0 o.1).number ∙ ap (slice_get fewer) o.2 ∙ h)))

      opened_of : (j n : ℕ) → slice_get fewer j ≡ Some n → n ≤ length kept
      opened_of j n h = go (same_or j 0)
        where
          long : length kept ≡ length opens
          long = left_long spent opens

          go : (j ≡ 0) ⊎ (j ≡ 0 → ⊥) → n ≤ length kept
          go (inl z) = let e : Some 0 ≡ Some n = sym copied.main ∙ (ap (slice_get fewer) (sym z) ∙ h) in let k : 0 ≡ n = cc in omega (arith, k)
          go (inr m) =
              let s = copied.size in
              let l = slice_get_within fewer j n h in
              let o = copied.only j (omega (arith, s, l)) m in
              let k = is.opened o.0 n (sym (copied.kept o.0 o.1).number ∙ ap (slice_get fewer) o.2 ∙ h) in omega (arith, k, long)

  pub remainder : IsRemainderFor opens c hangs stand numbers less fewer
  remainder = record { retired = are_retired; held = cell_copy; given = same_given }
