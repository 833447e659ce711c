-- What is kept of open tasks, act by act.
use Rattle.std.proofs.Common.{◌≡◌, refl, sym, subst, ap, ◌∙◌, List, [], ◌∷◌, ◌++◌, Option, Some, None, Result, Ok, Err, OnOk, IfOk}
use Rattle.std.specs.Prelude.{reverse}
use Rattle.std.proofs.lemmas.List.{reverse-append}
use Rattle.oss_syntax.specs.declared.access.Access.{Access}
use Rattle.oss_syntax.specs.declared.access.Range.{Range}
use Rattle.oss_ranges.specs.Cells.{value_at}
use Rattle.oss_needs.specs.declared.clause.Clause.{Clause}
use Rattle.oss_needs.specs.declared.demand.Demand.TheVariants.{Release, Wait}
use Rattle.oss_task_needs.specs.Asking.{AreKept, Asked, IsKept, asks, asks_for, creates}
use Rattle.oss_task_needs.specs.Mends.{IsMending, kept_lack, only_before}
use Rattle.oss_task_needs.specs.Saying.{given_at}
use Rattle.oss_needs.specs.declared.clause.Given.{Given}
use Rattle.oss_needs.specs.Lacks.{lack_of, mended}
use Rattle.oss_task_needs.specs.declared.mending.Mending.{Mending}
use Rattle.oss_open_needs.specs.declared.open_needs.OpenNeeds.{OpenNeeds}
use Rattle.oss_open_needs.specs.declared.open_task.OpenTask.{OpenTask}
use Rattle.oss_open_needs.specs.Opening.{Asks, AsksFor, IsMendingOf, IsOpen, Open, OpenWith, asking, mended_of, releases, waits}
use Rattle.oss_open_needs.specs.Stacks.{AreOpen, Closes, IsClosedTo}

pub on_ok : {A E P Q : Type 0} (r : Result A E) → (P → Q) → OnOk r P → OnOk r Q
on_ok (Ok v) f p = f p
on_ok (Err e) f p = p

pub if_ok : {A E : Type 0} {F G : A → Type 0} (r : Result A E) → ((x : A) → F x → G x) → IfOk r F → IfOk r G
if_ok (Ok v) f p = f v p
if_ok (Err e) f p = p

-- One clause more, and one range.
pub releases_more : (xs : List Access) (a : Access) (asked : Asked) → releases (xs ++ a ∷ []) asked ≡ asks (Release a.mode) a.range.lo a.range.hi (releases xs asked)
releases_more [] a asked = refl
releases_more (x ∷ xs) a asked = releases_more xs a (asks (Release x.mode) x.range.lo x.range.hi asked)

pub waits_more : (xs : List Range) (r : Range) (asked : Asked) → waits (xs ++ r ∷ []) asked ≡ asks Wait r.lo r.hi (waits xs asked)
waits_more [] r asked = refl
waits_more (x ∷ xs) r asked = waits_more xs r (asks Wait x.lo x.hi asked)

pub releases_next : (xs : List Access) (a : Access) (first old new : OpenTask) → OpenWith (releases xs) first old → Asks (Release a.mode) a.range old new → OpenWith (releases (xs ++ a ∷ [])) first new
releases_next xs a first old new before now t k =
    subst (λ (e : Asked). IsOpen (record { given = t.given; asked = e }) new) (sym (releases_more xs a t.asked)) (now (asking (releases xs) t) (before t k))

pub waits_next : (xs : List Range) (r : Range) (first old new : OpenTask) → OpenWith (waits xs) first old → Asks Wait r old new → OpenWith (waits (xs ++ r ∷ [])) first new
waits_next xs r first old new before now t k =
    subst (λ (e : Asked). IsOpen (record { given = t.given; asked = e }) new) (sym (waits_more xs r t.asked)) (now (asking (waits xs) t) (before t k))

-- What is mended for what is kept of a task is so for the task.
pub mending_of : (k : OpenTask) (m : Mending) → ((asked : Asked) → AreKept asked (value_at k.needs) → IsMending (given_at k.givens) asked m) → IsMendingOf k m
mending_of k m mends t is =
    let here = mends t.asked is.asked in
    record {
      clauses = λ c. here.clauses c ∙ ap (λ (g : Given). only_before 1048576 c (mended g (t.asked c))) (is.given c);
      lacks = λ c. here.lacks c ∙ ap (λ (g : Given). only_before 1048576 c (kept_lack (lack_of g (t.asked c)))) (is.given c);
    }

-- The creators, the nearest first.
pub turned : (rest : List OpenTask) (k : OpenTask) → reverse (rest ++ k ∷ []) ≡ k ∷ reverse rest
turned rest k = reverse-append rest (k ∷ [])

-- A creator that asks for what is kept of the mended clauses of a task asks for these.
pub asks_for_mended : (t creator : Open) (m : Mending) (k : OpenTask) → IsMending t.given t.asked m → IsOpen (asking (asks_for (value_at m.clauses.pieces)) creator) k → IsOpen (asking (asks_for (mended_of t)) creator) k
asks_for_mended t creator m k mends is = record {
  given = is.given;
  asked = λ c. subst (λ (v : Option Clause). IsKept (creates v (creator.asked c)) (value_at k.needs c)) (mends.clauses c) (is.asked c);
}

-- The task that acts has ended: its creator is the nearest of those above it.
pub closed : (old new : OpenNeeds) (creator : OpenTask) (m : Mending) → old.above ≡ new.above ++ creator ∷ [] → IsMendingOf old.current m → AsksFor m.clauses.pieces creator new.current → Closes old new (Some m)
closed old new creator m whole mends asks acting above s = go above (subst (λ (ks : List OpenTask). AreOpen above ks) (ap reverse whole ∙ turned new.above creator) s.older)
  where
    go : (us : List Open) → AreOpen us (creator ∷ reverse new.above) → IsClosedTo acting us new (Some m)
    go [] k = absurd k
    go (u ∷ us) k =
        let mended : IsMending acting.given acting.asked m = mends acting s.current in
        (mended, record { current = asks_for_mended acting u m new.current mended (asks u k.0); older = k.1 })

pub closed_none : (old new : OpenNeeds) → old.above ≡ [] → new.above ≡ [] → new.current ≡ old.current → Closes old new None
closed_none old new none still same acting above s = go above (subst (λ (ks : List OpenTask). AreOpen above ks) (ap reverse none) s.older)
  where
    go : (us : List Open) → AreOpen us [] → IsClosedTo acting us new None
    go [] k = record { current = subst (λ (x : OpenTask). IsOpen acting x) (sym same) s.current; older = subst (λ (ks : List OpenTask). AreOpen [] ks) (sym (ap reverse still)) tt }
    go (u ∷ us) k = absurd k
