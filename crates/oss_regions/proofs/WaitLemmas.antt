-- The walks over the fragments of a range: what a task waits for there, and its children.
use Rattle.std.proofs.Common.{◌≡◌, ℕ, zero, suc, ◌-◌, get_or, ◌<◌, ◌≤◌, refl, sym, subst, ap, ◌∙◌, ◌⊎◌, inl, inr, Bool, true, false, List, [], ◌∷◌, Option, Some, None, ◌↔◌, arith, length}
use Rattle.std.proofs.lemmas.Option.{get_or_from_slice_get}
use Rattle.std.specs.Prelude.{IsTrue, MatchOption, slice_get}
use Rattle.oss_syntax.specs.declared.access.Access.{Access}
use Rattle.oss_syntax.specs.declared.access.Mode.{Mode}
use Rattle.oss_syntax.specs.declared.access.Mode.TheVariants.{Fold}
use Rattle.oss_syntax.specs.declared.access.Op.{Op}
use Rattle.oss_model.specs.Order.{IsIn}
use Rattle.oss_model.specs.Forest.{IsJoinSatisfied}
use Rattle.oss_deps.specs.declared.opened.Open.{Open}
use Rattle.oss_deps.specs.Columns.{IsNumber, IsNumberOf}
use Rattle.oss_deps.specs.Opens.{AreChildrenDone, HasOpened, IsMet, mode_in, opened_forest}
use Rattle.oss_deps.specs.Hindrances.{HasUndoneChild, Hinders}
use Rattle.oss_deps.proofs.Basics.{compared, some_is}
use Rattle.oss_deps.proofs.OpenLemmas.{get_in, not_main}
use Rattle.oss_deps.proofs.StretchLemmas.{one_number}
use Rattle.oss_model.specs.declared.task_no.TaskNo.{TaskNo}
use Rattle.oss_access_lists.proofs.StepLemmas.{same_or}
use Rattle.oss_access_lists.specs.Flags.{AreAtRest}
use Rattle.oss_access_lists.specs.Tables.{marks_at, wires_of}
use Rattle.oss_fragments.specs.declared.fragment.Fragment.{Fragment}
use Rattle.oss_fragments.specs.Here.{IsEntry, bare, here_of}
use Rattle.oss_fragments.specs.Kept.{here_at}
use Rattle.oss_fragments.specs.Visits.{IsPartOf}
use Rattle.oss_links.specs.Numbers.{task_numbered}
use Rattle.oss_links.specs.Readings.{is_let, is_list_done}
use Rattle.oss_links.proofs.MetLemmas.{main_is_met}
use Rattle.oss_regions.specs.Asked.{IsNumberInTheWay, IsNumberUndone}
use Rattle.oss_regions.specs.Kept.{AreRight, AreSatisfied, AreSatisfiedTo, AsksOver, IsAccessMet, Kept, given_at}
use Rattle.oss_regions.proofs.AskLemmas.{all_satisfied}
use Rattle.oss_regions.proofs.PartLemmas.{bar_goes, bar_hinders, let_at, bar_named, child_named, child_undone, childless_at, children_at, gone_goes, gone_joins, joins_exact}
use Rattle.oss_regions.proofs.RangeLemmas.{access_asks, accesses_met, met_access, asks_opened, nothing_there}

look : (xs : List ℕ) (n : ℕ) → ((p : ℕ) × (slice_get xs p ≡ Some n)) ⊎ ((p : ℕ) → slice_get xs p ≡ Some n → ⊥)
look [] n = inr (λ p e. absurd cc)
look (x ∷ xs) n = go (same_or x n) (look xs n)
  where
    go : (x ≡ n) ⊎ (x ≡ n → ⊥) → ((p : ℕ) × (slice_get xs p ≡ Some n)) ⊎ ((p : ℕ) → slice_get xs p ≡ Some n → ⊥) → ((p : ℕ) × (slice_get (x ∷ xs) p ≡ Some n)) ⊎ ((p : ℕ) → slice_get (x ∷ xs) p ≡ Some n → ⊥)
    go (inl e) rest = inl (0, ap (λ (y : ℕ). Some y) e)
    go (inr k) (inl (p, e)) = inl (suc p, e)
    go (inr k) (inr f) = inr (λ p e. nowhere p e)
      where
        nowhere : (p : ℕ) → slice_get (x ∷ xs) p ≡ Some n → ⊥
        nowhere zero e = k (some_is e)
        nowhere (suc p) e = f p e

-- what a task waits for in a range
module _ (kept : Kept) {capacity : ℕ} (right : AreRight kept.opens capacity kept.cells kept.reserved) (n : ℕ) (mode : Mode) (lo hi : ℕ) (asks : AsksOver kept.opens n mode lo hi) where
  opened_over : (o : Open) → IsNumber kept.opens n o → (c : ℕ) → lo ≤ c → c < hi → HasOpened kept.opens c o.task
  opened_over o number c l h = subst (λ (x : Open). HasOpened kept.opens c x.task) (one_number kept.opens n asks.entry o asks.is number) (asks_opened kept.opens asks.entry.task c mode (asks.asks c l h))

  pub asks_not_main : n ≡ 0 → ⊥
  asks_not_main z = let k = asks.is.1 in absurd (omega (arith, k, z))

  -- where no cell has an access, nothing
  pub none_there : ((c : ℕ) → here_at kept.cells c ≡ bare) → (o : Open) → IsNumber kept.opens n o → AreSatisfied kept mode o lo hi
  none_there none o number c l h = all_satisfied kept.opens (given_at kept.opens kept.cells) c o.task mode (nothing_there kept right none o.task c (opened_over o number c l h))

  module _ (cell : ℕ) (from : lo ≤ cell) (before : cell < hi) (part : Fragment) (is : IsPartOf kept.cells cell part) (rest : AreAtRest (wires_of part.line.hangs) (marks_at part.line.stand)) where
    abbrev Found : Type 0
    Found = ((v : ℕ) × IsEntry (here_of part) n v) ⊎ ((v : ℕ) → IsEntry (here_of part) n v → ⊥)

    found : Found
    found = look part.tasks.items n

    module _ (result : Option ℕ) (bar : (v : ℕ) → IsEntry (here_of part) n v → MatchOption result (is_let mode (marks_at part.line.stand v) ≡ true) (λ m. IsNumberInTheWay part.line.hangs part.line.stand part.tasks.items mode v m))
        (none : ((v : ℕ) → IsEntry (here_of part) n v → ⊥) → result ≡ None) where
      way_of : (v m : ℕ) → IsEntry (here_of part) n v → result ≡ Some m → IsNumberInTheWay part.line.hangs part.line.stand part.tasks.items mode v m
      way_of v m at e = subst (λ (r : Option ℕ). MatchOption r (is_let mode (marks_at part.line.stand v) ≡ true) (λ k. IsNumberInTheWay part.line.hangs part.line.stand part.tasks.items mode v k)) e (bar v at)

      let_of : (v : ℕ) → IsEntry (here_of part) n v → result ≡ None → is_let mode (marks_at part.line.stand v) ≡ true
      let_of v at e = subst (λ (r : Option ℕ). MatchOption r (is_let mode (marks_at part.line.stand v) ≡ true) (λ k. IsNumberInTheWay part.line.hangs part.line.stand part.tasks.items mode v k)) e (bar v at)

      pub bar_some : (m : ℕ) → result ≡ Some m → (m ≡ 0 → ⊥) × (m ≤ length kept.opens)
      bar_some m e = go found
        where
          go : Found → (m ≡ 0 → ⊥) × (m ≤ length kept.opens)
          go (inl (v, at)) = bar_named kept right cell part is rest n v at asks.entry asks.is mode m (way_of v m at e)
          go (inr h) = absurd (let k = sym e ∙ none h in cc)

      pub bar_stops : (m s : ℕ) → result ≡ Some m → task_numbered kept.opens m ≡ Some s → (o : Open) → IsNumber kept.opens n o → Hinders kept.opens (given_at kept.opens kept.cells) o.task s
      bar_stops m s e task o number = subst (λ (x : Open). Hinders kept.opens (given_at kept.opens kept.cells) x.task s) (one_number kept.opens n asks.entry o asks.is number) (go found)
        where
          go : Found → Hinders kept.opens (given_at kept.opens kept.cells) asks.entry.task s
          go (inl (v, at)) = bar_hinders kept right cell part is rest n v at asks.entry asks.is mode m s (asks.asks cell from before) (way_of v m at e) task
          go (inr h) = absurd (let k = sym e ∙ none h in cc)

      pub bar_passes : result ≡ None → (o : Open) → IsNumber kept.opens n o → AreSatisfiedTo kept mode o lo hi cell → AreSatisfiedTo kept mode o lo hi part.hi
      bar_passes e o number f = go found
        where
          go : Found → AreSatisfiedTo kept mode o lo hi part.hi
          go (inl (v, at)) = bar_goes kept right cell part is rest n v at o number mode lo hi (let_of v at e) f
          go (inr h) = gone_goes kept right cell part is n o number h mode lo hi (opened_over o number) f

    module _ (result : Bool) (lets : (v : ℕ) → IsEntry (here_of part) n v → result ≡ is_let mode (marks_at part.line.stand v)) (none : ((v : ℕ) → IsEntry (here_of part) n v → ⊥) → result ≡ true) where
      pub let_stops : result ≡ false → (o : Open) → IsNumber kept.opens n o → AreSatisfied kept mode o lo hi → ⊥
      let_stops e o number f = go found
        where
          go : Found → ⊥
          go (inl (v, at)) = let k = sym e ∙ (lets v at ∙ let_at kept right cell part is rest n v at o number mode (f cell from before)) in cc
          go (inr h) = let k = sym e ∙ none h in cc

      pub let_passes : result ≡ true → (o : Open) → IsNumber kept.opens n o → AreSatisfiedTo kept mode o lo hi cell → AreSatisfiedTo kept mode o lo hi part.hi
      let_passes e o number f = go found
        where
          go : Found → AreSatisfiedTo kept mode o lo hi part.hi
          go (inl (v, at)) = bar_goes kept right cell part is rest n v at o number mode lo hi (sym (lets v at) ∙ e) f
          go (inr h) = gone_goes kept right cell part is n o number h mode lo hi (opened_over o number) f

-- the children of a task in a range
module _ (kept : Kept) {capacity : ℕ} (right : AreRight kept.opens capacity kept.cells kept.reserved) (n cell : ℕ) (part : Fragment) (is : IsPartOf kept.cells cell part)
    (rest : AreAtRest (wires_of part.line.hangs) (marks_at part.line.stand)) (result : Option ℕ)
    (child : (p : ℕ) → IsEntry (here_of part) n p → MatchOption result (is_list_done (wires_of part.line.hangs) (marks_at part.line.stand) p ≡ true) (λ m. IsNumberUndone part.line.hangs part.line.stand part.tasks.items p m))
    (none : ((p : ℕ) → IsEntry (here_of part) n p → ⊥) → result ≡ None) where
  told_as : (r : Option ℕ) → result ≡ r → (p : ℕ) → IsEntry (here_of part) n p → MatchOption r (is_list_done (wires_of part.line.hangs) (marks_at part.line.stand) p ≡ true) (λ m. IsNumberUndone part.line.hangs part.line.stand part.tasks.items p m)
  told_as r e p at = subst (λ (x : Option ℕ). MatchOption x (is_list_done (wires_of part.line.hangs) (marks_at part.line.stand) p ≡ true) (λ m. IsNumberUndone part.line.hangs part.line.stand part.tasks.items p m)) e (child p at)

  entry_or : ((p : ℕ) × IsEntry (here_of part) n p) ⊎ ((p : ℕ) → IsEntry (here_of part) n p → ⊥)
  entry_or = look part.tasks.items n

  pub child_some : (t : ℕ) → IsNumberOf kept.opens n t → (m : ℕ) → result ≡ Some m → (m ≡ 0 → ⊥) × (m ≤ length kept.opens)
  child_some t number m e = go entry_or
    where
      go : ((p : ℕ) × IsEntry (here_of part) n p) ⊎ ((p : ℕ) → IsEntry (here_of part) n p → ⊥) → (m ≡ 0 → ⊥) × (m ≤ length kept.opens)
      go (inl (p, at)) = child_named kept right cell part is rest n p at t number m (told_as (Some m) e p at)
      go (inr h) = absurd (let k = sym e ∙ none h in cc)

  pub child_stops : (m s lo hi : ℕ) → result ≡ Some m → task_numbered kept.opens m ≡ Some s → lo ≤ cell → cell < hi → (t : ℕ) → IsNumberOf kept.opens n t → HasUndoneChild kept.opens (given_at kept.opens kept.cells) t lo hi s
  child_stops m s lo hi e task from before t number = go entry_or
    where
      go : ((p : ℕ) × IsEntry (here_of part) n p) ⊎ ((p : ℕ) → IsEntry (here_of part) n p → ⊥) → HasUndoneChild kept.opens (given_at kept.opens kept.cells) t lo hi s
      go (inl (p, at)) = child_undone kept right cell part is rest n p at t number m s lo hi (told_as (Some m) e p at) task from before
      go (inr h) = absurd (let k = sym e ∙ none h in cc)

  pub child_goes : result ≡ None → (lo t : ℕ) → IsNumberOf kept.opens n t → ((c : ℕ) → lo ≤ c → c < cell → AreChildrenDone kept.opens (given_at kept.opens kept.cells) t c)
      → (c : ℕ) → lo ≤ c → c < part.hi → AreChildrenDone kept.opens (given_at kept.opens kept.cells) t c
  child_goes e lo t number f c l h = pick (compared c cell)
    where
      here : part.lo ≤ c → ((p : ℕ) × IsEntry (here_of part) n p) ⊎ ((p : ℕ) → IsEntry (here_of part) n p → ⊥) → AreChildrenDone kept.opens (given_at kept.opens kept.cells) t c
      here k (inl (p, at)) = children_at kept right cell part is rest n p at t number (told_as None e p at) c k h
      here k (inr nowhere) = childless_at kept right cell part is n t number nowhere c k h

      pick : (c < cell) ⊎ ((c ≡ cell) ⊎ (cell < c)) → AreChildrenDone kept.opens (given_at kept.opens kept.cells) t c
      pick (inl m) = f c l m
      pick (inr (inl m)) = let b = is.begins in here (omega (arith, b, m)) entry_or
      pick (inr (inr m)) = let b = is.begins in here (omega (arith, b, m)) entry_or

-- where no cell has an access, no task has a child with one
pub none_done : (kept : Kept) {capacity : ℕ} → AreRight kept.opens capacity kept.cells kept.reserved → ((c : ℕ) → here_at kept.cells c ≡ bare) → (t c : ℕ) → AreChildrenDone kept.opens (given_at kept.opens kept.cells) t c
none_done kept right none t c o i parent named = (nothing_there kept right none o.task c (record { entry = o; listed = i; number = refl; named = named })).done.0 refl

-- one access, and all accesses of a task
pub one_access : (kept : Kept) {capacity : ℕ} → AreRight kept.opens capacity kept.cells kept.reserved → (n : ℕ) (o : Open) (a : Access) → IsNumber kept.opens n o → IsIn a o.accesses → a.strong ≡ true → AsksOver kept.opens n a.mode a.range.lo a.range.hi
one_access kept right n o a number i s = access_asks kept.opens n o a (λ c h. right.opens_are.once o (get_in kept.opens number.0 o number.2) a c i h) number i s

pub task_obstacle : (kept : Kept) {capacity : ℕ} → AreRight kept.opens capacity kept.cells kept.reserved → (n t : ℕ) → IsNumberOf kept.opens n t → (n ≡ 0 → ⊥) → (r : Option TaskNo)
    → ((o : Open) → IsNumber kept.opens n o → MatchOption r ((a : Access) → IsIn a o.accesses → IsAccessMet kept o a) (λ u. Hinders kept.opens (given_at kept.opens kept.cells) o.task u.0))
    → MatchOption r (IsMet kept.opens (given_at kept.opens kept.cells) t) (λ u. Hinders kept.opens (given_at kept.opens kept.cells) t u.0)
task_obstacle kept right n t (inl (z, e)) h r tells = absurd (h z)
task_obstacle kept right n t (inr (o, is, e)) h None tells =
    subst (λ (x : ℕ). IsMet kept.opens (given_at kept.opens kept.cells) x) e (accesses_met kept o right.opens_are.ordered (get_in kept.opens is.0 o is.2) (tells o is))
task_obstacle kept right n t (inr (o, is, e)) h (Some u) tells = subst (λ (x : ℕ). Hinders kept.opens (given_at kept.opens kept.cells) x u.0) e (tells o is)

pub main_met : (kept : Kept) {capacity : ℕ} → AreRight kept.opens capacity kept.cells kept.reserved → (n t : ℕ) → IsNumberOf kept.opens n t → n ≡ 0 → IsMet kept.opens (given_at kept.opens kept.cells) t
main_met kept right n t (inl (y, e)) z = subst (λ (x : ℕ). IsMet kept.opens (given_at kept.opens kept.cells) x) (sym e) (main_is_met kept.opens (given_at kept.opens kept.cells) right.opens_are.ordered)
main_met kept right n t (inr (o, is, e)) z = absurd (let k = is.1 in omega (arith, k, z))

pub entry_number : (kept : Kept) (n t : ℕ) → IsNumberOf kept.opens n t → (n ≡ 0 → ⊥) → (o : Open) × IsNumber kept.opens n o
entry_number kept n t (inl (z, e)) h = absurd (h z)
entry_number kept n t (inr (o, is, e)) h = (o, is)

-- a task that was opened with a cell has an entry of its number
pub opened_entry : (kept : Kept) {capacity : ℕ} → AreRight kept.opens capacity kept.cells kept.reserved → (n t c : ℕ) → IsNumberOf kept.opens n t → HasOpened kept.opens c t → (o : Open) × IsNumber kept.opens n o × (o.task ≡ t)
opened_entry kept right n t c (inl (z, e)) h = absurd (not_main right.opens_are.ordered h.entry h.listed (h.number ∙ e))
opened_entry kept right n t c (inr (o, is, e)) h = (o, is, e)

pub folding_entry : (kept : Kept) {capacity : ℕ} → AreRight kept.opens capacity kept.cells kept.reserved → (n t c : ℕ) → IsNumberOf kept.opens n t → HasOpened kept.opens c t → (o : Open) × IsNumber kept.opens n o × HasOpened kept.opens c o.task
folding_entry kept right n t c number h = let o = opened_entry kept right n t c number h in (o.0, o.1, subst (λ (x : ℕ). HasOpened kept.opens c x) (sym o.2) h)

-- the join of a reduction
pub joins_told : (kept : Kept) {capacity : ℕ} (right : AreRight kept.opens capacity kept.cells kept.reserved) (cell : ℕ) (part : Fragment) (is : IsPartOf kept.cells cell part) → AreAtRest (wires_of part.line.hangs) (marks_at part.line.stand)
    → (n : ℕ) (o : Open) → IsNumber kept.opens n o → HasOpened kept.opens cell o.task → (result : Bool) → ((v : ℕ) → IsEntry (here_of part) n v → result ≡ (marks_at part.line.stand v).joins) → (((v : ℕ) → IsEntry (here_of part) n v → ⊥) → result ≡ true)
    → (q : Open) (op : Op) → IsNumber kept.opens n q → mode_in kept.opens cell q.task ≡ Fold op → (IsTrue result ↔ IsJoinSatisfied (opened_forest kept.opens (given_at kept.opens kept.cells) cell) op q.task)
joins_told kept right cell part is rest n o number opened result tells none q op other mode = go (look part.tasks.items n)
  where
    go : ((v : ℕ) × IsEntry (here_of part) n v) ⊎ ((v : ℕ) → IsEntry (here_of part) n v → ⊥) → (IsTrue result ↔ IsJoinSatisfied (opened_forest kept.opens (given_at kept.opens kept.cells) cell) op q.task)
    go (inl (v, at)) = joins_exact kept right cell part is rest n v at q other result op (tells v at) mode
    go (inr h) = gone_joins kept right cell part is n q other h (subst (λ (x : Open). HasOpened kept.opens cell x.task) (one_number kept.opens n o q number other) opened) result (none h) op mode

-- where no cell has an access, it is joined at once
pub joins_none : (kept : Kept) {capacity : ℕ} (right : AreRight kept.opens capacity kept.cells kept.reserved) → ((c : ℕ) → here_at kept.cells c ≡ bare) → (n cell : ℕ) (o : Open) → IsNumber kept.opens n o → HasOpened kept.opens cell o.task
    → (q : Open) (op : Op) → IsNumber kept.opens n q → mode_in kept.opens cell q.task ≡ Fold op → (IsTrue true ↔ IsJoinSatisfied (opened_forest kept.opens (given_at kept.opens kept.cells) cell) op q.task)
joins_none kept right none n cell o number opened q op other mode =
    (λ h. ((nothing_there kept right none q.task cell (subst (λ (x : Open). HasOpened kept.opens cell x.task) (one_number kept.opens n o q number other) opened)).joins op mode).0 refl, λ s. refl)

pub joins_task : (kept : Kept) {capacity : ℕ} → AreRight kept.opens capacity kept.cells kept.reserved → (n t c : ℕ) → IsNumberOf kept.opens n t → HasOpened kept.opens c t → (result : Bool)
    → ((o : Open) (op : Op) → IsNumber kept.opens n o → mode_in kept.opens c o.task ≡ Fold op → (IsTrue result ↔ IsJoinSatisfied (opened_forest kept.opens (given_at kept.opens kept.cells) c) op o.task))
    → (op : Op) → mode_in kept.opens c t ≡ Fold op → IsTrue result ↔ IsJoinSatisfied (opened_forest kept.opens (given_at kept.opens kept.cells) c) op t
joins_task kept right n t c number h result tells op mode =
    let o = opened_entry kept right n t c number h in
    subst (λ (x : ℕ). mode_in kept.opens c x ≡ Fold op → (IsTrue result ↔ IsJoinSatisfied (opened_forest kept.opens (given_at kept.opens kept.cells) c) op x)) o.2 (tells o.0 op o.1) mode

pub strong_obstacle : (kept : Kept) (o : Open) (a : Access) (r : Option TaskNo) → MatchOption r (AreSatisfied kept a.mode o a.range.lo a.range.hi) (λ u. Hinders kept.opens (given_at kept.opens kept.cells) o.task u.0)
    → MatchOption r (IsAccessMet kept o a) (λ u. Hinders kept.opens (given_at kept.opens kept.cells) o.task u.0)
strong_obstacle kept o a None h = λ s. h
strong_obstacle kept o a (Some u) h = h

-- the entry that the code reads
pub entry_of : {view seen : Kept} → view ≡ seen → (n : ℕ) (o entry : Open) → IsNumber seen.opens n o → entry ≡ get_or view.opens (n - 1) entry → entry ≡ o
entry_of {view} {seen} e n o entry is read =
    let i : n - 1 ≡ is.0 = omega (arith, is.1) in
    read ∙ ap (λ (j : ℕ). get_or view.opens j entry) i ∙ ap (λ (k : Kept). get_or k.opens is.0 entry) e ∙ get_or_from_slice_get seen.opens is.0 o entry is.2

-- what flags tell of one access, of some, and of all
pub access_told : (kept : Kept) (o : Open) (a : Access) (result : Bool) → a.strong ≡ true → (IsTrue result ↔ AreSatisfied kept a.mode o a.range.lo a.range.hi) → IsTrue result ↔ IsAccessMet kept o a
access_told kept o a result s told = (λ h k. told.0 h, λ f. told.1 (f s))

pub met_told : (kept : Kept) {capacity : ℕ} → AreRight kept.opens capacity kept.cells kept.reserved → (n t : ℕ) → IsNumberOf kept.opens n t → (n ≡ 0 → ⊥) → (result : Bool)
    → ((o : Open) → IsNumber kept.opens n o → (IsTrue result ↔ ((a : Access) → IsIn a o.accesses → IsAccessMet kept o a))) → IsTrue result ↔ IsMet kept.opens (given_at kept.opens kept.cells) t
met_told kept right n t (inl (z, e)) h result told = absurd (h z)
met_told kept right n t (inr (o, is, e)) h result told =
    subst (λ (x : ℕ). IsTrue result ↔ IsMet kept.opens (given_at kept.opens kept.cells) x) e
    (λ r. accesses_met kept o right.opens_are.ordered (get_in kept.opens is.0 o is.2) ((told o is).0 r), λ m. (told o is).1 (λ a i. met_access kept n o a (λ c k. right.opens_are.once o (get_in kept.opens is.0 o is.2) a c i k) is i m))

pub true_tells : {P : Type 0} → P → IsTrue true ↔ P
true_tells p = (λ h. p, λ q. refl)

pub false_tells : {P : Type 0} → (P → ⊥) → IsTrue false ↔ P
false_tells n = (λ h. absurd cc, λ p. absurd (n p))

pub not_met : (kept : Kept) (o : Open) (a : Access) (result : Bool) → (IsTrue result ↔ IsAccessMet kept o a) → result ≡ false → IsAccessMet kept o a → ⊥
not_met kept o a result told e met = let k = sym e ∙ told.1 met in cc
